-- 01, "The listing, whole", and 02, P6: what each line says, byte by byte and number by number. No text of
-- `specs/Listing` is cited: words stand here as their bytes, and a number is any text that is that number in plain
-- decimal. Theorem: `lines_spelt`.
use Rattle.std.specs.Prelude.{Err, None, Some, Ok, Option, List, [], ◌∷◌, ◌++◌, ℕ, ◌≤◌}
use Rattle.text.specs.Plain.{Plain}
use Rattle.demands.specs.Answers.{said}
use Rattle.machine.specs.declared.{Settings.Settings, Name.Name, Kind.{Kind, TheVariants.{Ask, Turn, Release}}}
use Rattle.machine.specs.declared.{Event.Event, Refusal.Refusal, Shown.Shown}
use Rattle.machine.specs.declared.{Register.{Register, TheVariants.{X, Mark}}, Letter.{Letter, TheVariants.{R, W}}}
use Rattle.machine.specs.declared.Told.{Told}
use Rattle.file.specs.File.{opening, opening_said}
use Rattle.printed.specs.Listing.{grid_line, event_line, end_line, listing}

-- ---- a text as words and numbers

pub data Piece : Type 0 where
  word : List ℕ → Piece
  number : ℕ → Piece

pub data Spells : List Piece → List ℕ → Type 0 where
  ended : Spells [] []
  a_word : {bytes rest : List ℕ} {pieces : List Piece} → Spells pieces rest
      → Spells (word bytes ∷ pieces) (bytes ++ rest)
  a_number : {n : ℕ} {digits rest : List ℕ} {pieces : List Piece} → Plain n digits → Spells pieces rest
      → Spells (number n ∷ pieces) (digits ++ rest)

-- ---- the words

abbrev pub space : Piece
space = word (0x20 ∷ [])

abbrev pub line_feed : Piece
line_feed = word (0x0a ∷ [])

abbrev pub grid : Piece
grid = word (0x67 ∷ 0x72 ∷ 0x69 ∷ 0x64 ∷ [])

-- KIND: ask, turn or free
abbrev pub kind : Kind → Piece
kind Ask = word (0x61 ∷ 0x73 ∷ 0x6b ∷ [])
kind Turn = word (0x74 ∷ 0x75 ∷ 0x72 ∷ 0x6e ∷ [])
kind Release = word (0x66 ∷ 0x72 ∷ 0x65 ∷ 0x65 ∷ [])

abbrev pub seeks : Piece
seeks = word (0x73 ∷ 0x65 ∷ 0x65 ∷ 0x6b ∷ 0x73 ∷ [])

abbrev pub holds : Piece
holds = word (0x68 ∷ 0x6f ∷ 0x6c ∷ 0x64 ∷ 0x73 ∷ [])

abbrev pub freed : Piece
freed = word (0x66 ∷ 0x72 ∷ 0x65 ∷ 0x65 ∷ 0x64 ∷ [])

abbrev pub refused : Piece
refused = word (0x72 ∷ 0x65 ∷ 0x66 ∷ 0x75 ∷ 0x73 ∷ 0x65 ∷ 0x64 ∷ [])

abbrev pub end : Piece
end = word (0x65 ∷ 0x6e ∷ 0x64 ∷ [])

abbrev pub none : Piece
none = word (0x6e ∷ 0x6f ∷ 0x6e ∷ 0x65 ∷ [])

-- R or W; X or M, with the block and the place, which is 0 for X
abbrev pub letter : Letter → Piece
letter R = word (0x52 ∷ [])
letter W = word (0x57 ∷ [])

abbrev pub register : Register → List Piece
register (X block) = word (0x58 ∷ []) ∷ space ∷ number block ∷ space ∷ number 0 ∷ []
register (Mark block place) = word (0x4d ∷ []) ∷ space ∷ number block ∷ space ∷ number place ∷ []

-- ---- the lines

-- `POSITION KIND ID ANSWER`
abbrev pub event_pieces : ℕ → Event → List Piece → List Piece
event_pieces position event answer =
    number position ∷ space ∷ kind event.kind ∷ space ∷ number event.task.0 ∷ space ∷ (answer ++ (line_feed ∷ []))

-- 02, P6: what the line of an accepted turn or release ends with, as in `R X 0 0 2` or `W M 0 1 1`; "`none` when it
-- touched nothing; ask lines stay as they are"
abbrev pub fields : Option Shown → List Piece
fields None = none ∷ []
fields (Some shown) = letter shown.letter ∷ space ∷ (register shown.register ++ (space ∷ number shown.value ∷ []))

abbrev pub behind : Kind → Option Shown → List Piece
behind Ask shown = []
behind Turn shown = space ∷ fields shown
behind Release shown = space ∷ fields shown

pub record LinesSpelt : Type 0 where
  -- `grid MODE N K`
  pub first_line : (s : Settings)
      → Spells (grid ∷ space ∷ number s.mode ∷ space ∷ number s.n ∷ space ∷ number s.k ∷ line_feed ∷ [])
      (grid_line s)
  -- "ANSWER `seeks`, `holds NAME`, `freed NAME` or `refused NUMBER`"
  pub seeks_line : (position : ℕ) (event : Event) (shown : Option Shown)
      → Spells (event_pieces position event (seeks ∷ behind event.kind shown))
      (event_line position event (Ok (record { told = Told.Seeks; shown = shown })))
  pub holds_line : (position : ℕ) (event : Event) (name : Name) (shown : Option Shown)
      → Spells (event_pieces position event (holds ∷ space ∷ number name.0 ∷ behind event.kind shown))
      (event_line position event (Ok (record { told = Told.Holds name; shown = shown })))
  pub freed_line : (position : ℕ) (event : Event) (name : Name) (shown : Option Shown)
      → Spells (event_pieces position event (freed ∷ space ∷ number name.0 ∷ behind event.kind shown))
      (event_line position event (Ok (record { told = Told.Freed name; shown = shown })))
  pub refused_line_lem : (position : ℕ) (event : Event) (why : Refusal)
      → Spells (event_pieces position event (refused ∷ space ∷ number (said (Err why)).number ∷ []))
      (event_line position event (Err why))
  -- `end HOLDERS PEAK MOST`
  pub last_line : (holders peak most : ℕ)
      → Spells (end ∷ space ∷ number holders ∷ space ∷ number peak ∷ space ∷ number most ∷ line_feed ∷ [])
      (end_line holders peak most)
  -- "A bad file prints `refused NUMBER` only."
  pub bad_file : (file : List ℕ) → 1 ≤ (opening_said (opening file)).number
      → Spells (refused ∷ space ∷ number (opening_said (opening file)).number ∷ line_feed ∷ []) (listing file)
