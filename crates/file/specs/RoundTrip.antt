-- 00, demand 2: "An accepted schedule file read and written back gives the same bytes, and an accepted schedule written
-- and read back the same settings and events." The version is one of the settings, so both are over both versions:
-- 02, P3, "both are read, run and written".
use mathlib.Core.{Path.◌≡◌, List.{List, [], ◌∷◌, ◌++◌}}
use Rattle.std.specs.Prelude.{Ok, ℕ, zero, suc, ◌+◌, ◌≤◌, ◌<◌, length, get_or, take, drop}
use Rattle.demands.specs.Answers.{Tells}
use Rattle.machine.specs.declared.{Settings.Settings}
use Rattle.file.specs.File.{opened_as, opening, reading, Written, writing, opening_said, reading_said, writing_said}

-- the numbers of the events that a reader at a position gives when it is asked so many times
abbrev pub events_read : List ℕ → ℕ → ℕ → List ℕ
events_read file at zero = []
events_read file at (suc times) =
    (reading_said (reading file at).answer).values ++ events_read file (reading file at).at times

-- every element is a byte
abbrev pub Bytes : List ℕ → Type 0
Bytes file = (i : ℕ) → get_or file i 0 < 256

-- an accepted file: its settings and the events that a reader gives, written into any room long enough, are its bytes
-- again
abbrev pub FileComesBack : Type 0
FileComesBack =
    (file : List ℕ) → Bytes file → (s : Settings) (count : ℕ) → opening file ≡ opened_as s count
    → (room : List ℕ) → length file ≤ length room
    → ◌≡◌ {A = Written} (writing s (events_read file 0 count) room) (record {
      answer = Ok (length file);
      room = file ++ drop (length file) room;
    })

-- a file that opens to these settings and as many events, and a reader of it gives these events one by one, then 13
pub record Carries (s : Settings) (numbers file : List ℕ) : Type 0 where
  pub opens : opening file ≡ opened_as s (length numbers)
  pub opening_tells : Tells (opening_said (opening file)) (s.mode ∷ s.n ∷ s.k ∷ s.version ∷ length numbers ∷ [])
  pub gives : (i : ℕ) → i < length numbers → Tells (reading_said (reading file i).answer) (get_or numbers i 0 ∷ [])
  pub moves : (i : ℕ) → i < length numbers → (reading file i).at ≡ i + 1
  pub events : events_read file 0 (length numbers) ≡ numbers
  pub ends : (reading_said (reading file (length numbers)).answer).number ≡ 13

-- an accepted schedule: the bytes that the writer wrote, as many as it answers, carry its settings and its events
abbrev pub ScheduleComesBack : Type 0
ScheduleComesBack =
    (s : Settings) (numbers room : List ℕ) (count : ℕ)
    → Tells (writing_said (writing s numbers room).answer) (count ∷ [])
    → Carries s numbers (take count (writing s numbers room).room)
