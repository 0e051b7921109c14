-- 00, demand 1, 01, "Schedule file", and 02, P3: what opening, a reader's next event and the writer are refused by, as
-- tables of plain lines in the order of the tests, and what they answer otherwise. The lines speak of the bytes
-- themselves and cite no field and no test of `specs/File`. Theorems: `each_opening`, `each_reading`, `each_writing`,
-- `writer_takes`.
use mathlib.Core.{Path.◌≡◌, Logic.◌⊎◌, List.{List, [], ◌∷◌}}
use Rattle.std.specs.Prelude.{Ok, ℕ, ◌+◌, ◌*◌, ◌/◌, ◌≤◌, ◌<◌, length, get_or, drop, replicate}
use Rattle.machine.specs.promises.Ranges.{WithinLimits}
use Rattle.demands.specs.promises.Refusing.{Line, line, RefusedExactly}
use Rattle.demands.specs.Calls.{ask, turn, release}
use Rattle.machine.specs.declared.{Settings.Settings}
use Rattle.file.specs.File.{opened_as, Reading, opening, reading, writing, opening_said, reading_said, writing_said}

-- ---- what the bytes say

abbrev pub byte : List ℕ → ℕ → ℕ
byte file i = get_or file i 0

-- "Low byte first throughout."
abbrev pub sixteen : List ℕ → ℕ → ℕ
sixteen file i = byte file i + 256 * byte file (i + 1)

-- "The three letters G, R, S; version, 16 bits, 1; mode, 1 byte; N, 16 bits; k, 1 byte; event count, 16 bits: 11
-- bytes"; 02, P3: "The settings carry the version, 1 or 2"
abbrev pub in_header : List ℕ → Settings
in_header file = record { mode = byte file 5; n = sixteen file 6; k = byte file 8; version = sixteen file 3 }

-- ---- the tables

-- "shorter than 11 bytes (8), 9, 10, 1, 11, length other than 11 + 3 times count (8)"; 02, P3: "The settings carry the
-- version, 1 or 2; any other value there is refused by 1, in a file by 10"
abbrev pub header_lines : List ℕ → List Line → List Line
header_lines file rest =
    line 8 (length file < 11)  -- file length wrong
    ∷ line 9 ((byte file 0 ≡ 0x47) × (byte file 1 ≡ 0x52) × (byte file 2 ≡ 0x53) → ⊥)  -- mark letters wrong
    ∷ line 10 ((sixteen file 3 ≡ 1) ⊎ (sixteen file 3 ≡ 2) → ⊥)  -- version unknown
    ∷ line 1 (WithinLimits (in_header file) → ⊥)  -- settings outside the limits
    ∷ line 11 (16384 < sixteen file 9)  -- more than 16,384 events
    ∷ line 8 (length file ≡ 11 + 3 * sixteen file 9 → ⊥)  -- file length wrong
    ∷ rest

-- ", 12": "Then 3 bytes an event: code (0 ask, 1 turn, 2 release) and identifier, 16 bits."
abbrev pub code_lines : List ℕ → List Line
code_lines file = line 12 ((i : ℕ) × (i < sixteen file 9) × (2 < byte file (11 + 3 * i))) ∷ []  -- event code above 2

abbrev pub open_lines : List ℕ → List Line
open_lines file = header_lines file (code_lines file)

-- "makes these tests again but for the last, then 13 at or beyond the count, then 12 on that event"
abbrev pub event_lines : List ℕ → ℕ → List Line
event_lines file at =
    line 13 (sixteen file 9 ≤ at)  -- no event at that position
    ∷ line 12 (2 < byte file (11 + 3 * at))  -- event code above 2
    ∷ []

abbrev pub next_lines : List ℕ → ℕ → List Line
next_lines file at = header_lines file (event_lines file at)

-- "The writer takes settings and a row of event numbers and tests 1, 11, 12, 14"; "An event's number is code times
-- 65,536 plus identifier."
abbrev pub write_lines : Settings → List ℕ → List ℕ → List Line
write_lines s numbers room =
    line 1 (WithinLimits s → ⊥)  -- settings outside the limits
    ∷ line 11 (16384 < length numbers)  -- more than 16,384 events
    ∷ line 12 ((i : ℕ) × (i < length numbers) × (2 < get_or numbers i 0 / 65536))  -- event code above 2
    ∷ line 14 (length room < 11 + 3 * length numbers)  -- output room short
    ∷ []

-- ---- opening

-- "Opening answers the settings and the count."
pub record OpeningTold (file : List ℕ) : Type 0 where
  pub exactly : RefusedExactly (opening_said (opening file)) (open_lines file)
  pub answers : (opening_said (opening file)).number ≡ 0
      → opening file ≡ opened_as (in_header file) (sixteen file 9)
  pub values : (opening_said (opening file)).number ≡ 0
      → (opening_said (opening file)).values
      ≡ byte file 5 ∷ sixteen file 6 ∷ byte file 8 ∷ sixteen file 3 ∷ sixteen file 9 ∷ []

abbrev pub EachOpening : Type 0
EachOpening = (file : List ℕ) → OpeningTold file

-- ---- the next event

-- "code (0 ask, 1 turn, 2 release)"
abbrev pub Gives : ℕ → ℕ → Reading → Type 0
Gives code identifier answer =
    ((code ≡ 0) × (answer ≡ Ok (ask identifier)))
    ⊎ (((code ≡ 1) × (answer ≡ Ok (turn identifier)))
    ⊎ ((code ≡ 2) × (answer ≡ Ok (release identifier))))

-- "an event given moves the reader on by one, a refusal does not"
pub record ReadingTold (file : List ℕ) (at : ℕ) : Type 0 where
  pub exactly : RefusedExactly (reading_said (reading file at).answer) (next_lines file at)
  pub gives : (reading_said (reading file at).answer).number ≡ 0
      → Gives (byte file (11 + 3 * at)) (sixteen file (11 + 3 * at + 1)) (reading file at).answer
  pub values : (reading_said (reading file at).answer).number ≡ 0
      → (reading_said (reading file at).answer).values
      ≡ (byte file (11 + 3 * at) * 65536 + sixteen file (11 + 3 * at + 1)) ∷ []
  pub moves : (reading_said (reading file at).answer).number ≡ 0 → (reading file at).at ≡ at + 1
  pub stays : 1 ≤ (reading_said (reading file at).answer).number → (reading file at).at ≡ at

abbrev pub EachReading : Type 0
EachReading = (file : List ℕ) (at : ℕ) → ReadingTold file at

-- ---- writing

-- "it writes just the file's bytes, from the start of the room, and answers how many"; a refusal leaves the whole room.
-- Which bytes: `RoundTrip`
pub record WritingTold (s : Settings) (numbers room : List ℕ) : Type 0 where
  pub exactly : RefusedExactly (writing_said (writing s numbers room).answer) (write_lines s numbers room)
  pub values : (writing_said (writing s numbers room).answer).number ≡ 0
      → (writing_said (writing s numbers room).answer).values ≡ (11 + 3 * length numbers) ∷ []
  pub beyond : (writing_said (writing s numbers room).answer).number ≡ 0
      → drop (11 + 3 * length numbers) (writing s numbers room).room ≡ drop (11 + 3 * length numbers) room
  pub keeps : 1 ≤ (writing_said (writing s numbers room).answer).number → (writing s numbers room).room ≡ room

abbrev pub EachWriting : Type 0
EachWriting = (s : Settings) (numbers room : List ℕ) → WritingTold s numbers room

-- for every mode, N, k and version the schedule of no events is written, so there are accepted schedules and files of
-- both versions
abbrev pub WriterTakes : Type 0
WriterTakes = (s : Settings) → WithinLimits s → (writing_said (writing s [] (replicate 11 0)).answer).number ≡ 0
