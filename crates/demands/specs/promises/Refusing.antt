-- 01, "Numbers of refusal": "given exactly when", as tables of plain lines in the order in which they are tested. A
-- line carries its own number. Settings, task number and memory are any. The tests of the definitions are not cited.
-- Theorems: `refusal_exact`, `no_other_number`, `refused_changes_nothing`, `block_by_block`.
use mathlib.Core.{Path.◌≡◌, Logic.{◌⊎◌, ◌↔◌}, List.{List, [], ◌∷◌}}
use Rattle.std.specs.Prelude.{None, Err, ℕ, ◌≤◌, ◌<◌}
use lib.{Dec.T, ListN.length}
use Rattle.machine.specs.{Settings.width, Records.idle, RefusalNumbers.{Said, number_of}}
use Rattle.demands.specs.Memory.{Memory, mark_index, record_of, state_of}
use Rattle.demands.specs.Answers.{Reply, shown_in, said, is_accepted}
use Rattle.demands.specs.Calls.{call, setup}
use Rattle.machine.specs.promises.Ranges.{WithinLimits, seeks_or_holds}
use Rattle.demands.specs.promises.Rows.{NeedsMore, OutOfRangeAt, SomeOutOfRange}
use Rattle.machine.specs.declared.{Settings.Settings, Stand.Stand, Place.Place}
use Rattle.machine.specs.declared.State.{State, TheVariants.{Idle, Seeking, Holding}}
use Rattle.machine.specs.declared.{Kind.{Kind, TheVariants.{Ask, Turn, Release}}, Event.Event}
use Rattle.machine.specs.declared.{Row.{Row, TheVariants.{Records, Xs, Marks}}, Refusal.Refusal}
use Rattle.counting.specs.Counting.{count}

-- ---- the form of every table

-- a line of a table: a number of refusal, and when it is given
pub record Line : Type 1 where
  pub number : ℕ
  pub holds : Type 0

abbrev pub line : ℕ → Type 0 → Line
line number holds = record { number = number; holds = holds }

-- no line holds
abbrev pub NoneHolds : List Line → Type 0
NoneHolds [] = Unit {0}
NoneHolds (this ∷ lines) = (this.holds → ⊥) × NoneHolds lines

-- a line of number n holds, and no line before it does
abbrev pub FirstHolds : List Line → ℕ → Type 0
FirstHolds [] n = ⊥
FirstHolds (this ∷ lines) n = (this.holds × (this.number ≡ n)) ⊎ ((this.holds → ⊥) × FirstHolds lines n)

-- 00: "It is refused exactly in the listed cases, by the first number in the listed order"; 01: a refusal "answers its
-- number and nothing more, except that 3 adds which row and the index"
pub record RefusedExactly (says : Said) (lines : List Line) : Type 0 where
  pub refused : (n : ℕ) → 1 ≤ n → (says.number ≡ n) ↔ FirstHolds lines n
  pub accepted : (says.number ≡ 0) ↔ NoneHolds lines
  pub nothing_more : 1 ≤ says.number → (says.number ≡ 3 → ⊥) → says.values ≡ []

-- so no number is answered that the table does not have
abbrev pub Numbered : List Line → ℕ → Type 0
Numbered [] n = n ≡ 0
Numbered (this ∷ lines) n = (n ≡ this.number) ⊎ Numbered lines n

abbrev pub NoOtherNumber : Type 1
NoOtherNumber = (says : Said) (lines : List Line) → RefusedExactly says lines → Numbered lines says.number

-- ---- the table of 01

-- 2: a lent row is shorter than needed
abbrev pub SomeRowShort : Settings → Memory → Type 0
SomeRowShort s m =
    NeedsMore s Records (length m.records)
    ⊎ (NeedsMore s Xs (length m.xs) ⊎ NeedsMore s Marks (length m.marks))

-- 02, P1: "15, turn or release of an idle task; 16, ask or release of a seeking one; 17, ask or turn of a holding one"
abbrev pub OfIdle : Kind → State → Type 0
OfIdle kind state = ((kind ≡ Turn) ⊎ (kind ≡ Release)) × (state ≡ Idle)

abbrev pub OfSeeking : Kind → State → Type 0
OfSeeking kind state = ((kind ≡ Ask) ⊎ (kind ≡ Release)) × ((stand : Stand) × (state ≡ Seeking stand))

abbrev pub OfHolding : Kind → State → Type 0
OfHolding kind state = ((kind ≡ Ask) ⊎ (kind ≡ Turn)) × ((place : Place) × (state ≡ Holding place))

-- 7: how many tasks are out, "seekers and holders counted from the records"
abbrev pub tasks_out : Settings → Memory → ℕ
tasks_out s m = count (λ p. seeks_or_holds (state_of m p)) s.n

-- 02, P4: "when any of the first N records is other than idle", a record out of range included
abbrev pub SomeBusy : Settings → Memory → Type 0
SomeBusy s m = (p : ℕ) × (p < s.n) × (record_of m p ≡ idle → ⊥)

-- 1 and 2: what is lent
abbrev pub lent_lines : Settings → Memory → List Line → List Line
lent_lines s m rest =
    line 1 (WithinLimits s → ⊥)  -- settings outside the limits
    ∷ line 2 (SomeRowShort s m)  -- a lent row is shorter than needed
    ∷ rest

-- 3: what it holds, "records first, then X, then marks"
abbrev pub range_lines : Settings → Memory → List Line → List Line
range_lines s m rest =
    line 3 (SomeOutOfRange s m Records)  -- a needed value is out of range
    ∷ line 3 (SomeOutOfRange s m Xs)
    ∷ line 3 (SomeOutOfRange s m Marks)
    ∷ rest

-- 4, 5, 15 to 17 "all at 6's place in the order", 7: the task
abbrev pub task_lines : Settings → Event → Memory → List Line
task_lines s event m =
    line 4 (s.n ≤ event.task.0)  -- identifier ≥ N
    ∷ line 5 ((event.kind ≡ Release) × (s.mode ≡ 0))  -- release in mode 0
    ∷ line 15 (OfIdle event.kind (state_of m event.task.0))  -- turn or release of an idle task
    ∷ line 16 (OfSeeking event.kind (state_of m event.task.0))  -- ask or release of a seeking one
    ∷ line 17 (OfHolding event.kind (state_of m event.task.0))  -- ask or turn of a holding one
    ∷ line 7 ((event.kind ≡ Ask) × (s.k ≤ tasks_out s m))  -- ask when k or more tasks are out
    ∷ []

-- "Setup tests 1, 2; the other calls 1 to 7 ascending", with 15 to 17 for 6; 02: "18, after 2, in setup alone"
abbrev pub setup_lines : Settings → Memory → List Line
setup_lines s m = lent_lines s m (line 18 (SomeBusy s m) ∷ [])  -- a record of the N is other than idle

abbrev pub call_lines : Settings → Event → Memory → List Line
call_lines s event m = lent_lines s m (range_lines s m (task_lines s event m))

-- ---- "3 adds which row and the index of the first bad value"

-- the first bad value of a row
pub record FirstBad (s : Settings) (m : Memory) (row : Row) (index : ℕ) : Type 0 where
  pub bad : OutOfRangeAt s m row index
  pub none_before : (earlier : ℕ) → earlier < index → OutOfRangeAt s m row earlier → ⊥

-- "records first, then X, then marks": the rows are told as 0, 1 and 2
pub data TellsFirstBad (s : Settings) (m : Memory) : List ℕ → Type 0 where
  in_records : {index : ℕ} → FirstBad s m Records index → TellsFirstBad s m (0 ∷ index ∷ [])
  in_xs : {index : ℕ} → (SomeOutOfRange s m Records → ⊥) → FirstBad s m Xs index → TellsFirstBad s m (1 ∷ index ∷ [])
  in_marks : {index : ℕ} → (SomeOutOfRange s m Records → ⊥) → (SomeOutOfRange s m Xs → ⊥) → FirstBad s m Marks index
      → TellsFirstBad s m (2 ∷ index ∷ [])

-- "searched block by block and place by place": the order of the indices of marks
abbrev pub BlockByBlock : Type 0
BlockByBlock =
    (s : Settings) (block place block' place' : ℕ) → place < width s → place' < width s
    → (mark_index s block place < mark_index s block' place')
    ↔ ((block < block') ⊎ ((block ≡ block') × (place < place')))

-- ---- every call

abbrev pub call_says : Settings → Event → Memory → Said
call_says s event m = said (call s event m).answer

abbrev pub setup_says : Settings → Memory → Said
setup_says s m = said (setup s m).answer

pub record CallRefused (s : Settings) (event : Event) (m : Memory) : Type 0 where
  pub exactly : RefusedExactly (call_says s event m) (call_lines s event m)
  pub three_adds : (call_says s event m).number ≡ 3 → TellsFirstBad s m (call_says s event m).values

pub record RefusalExact : Type 0 where
  pub calls : (s : Settings) (event : Event) (m : Memory) → CallRefused s event m
  pub setups : (s : Settings) (m : Memory) → RefusedExactly (setup_says s m) (setup_lines s m)
  -- 02, P6: an access is shown by an accepted turn or release; a refusal shows none, and setup shows none
  pub calls_show_none : (s : Settings) (event : Event) (m : Memory) → 1 ≤ (call_says s event m).number
      → shown_in (call s event m).answer ≡ None
  pub setups_show_none : (s : Settings) (m : Memory) → shown_in (setup s m).answer ≡ None
  -- an answer is an acceptance exactly if it has no number of refusal, and a refusal's number is the one that its
  -- answer has
  pub acceptance : (answer : Reply) → T (is_accepted answer) ↔ ((said answer).number ≡ 0)
  pub numbered : (why : Refusal) → number_of why ≡ (said (Err why)).number
  -- "retire 6": no refusal has this number, so no answer of any call, of opening, of a reader or of a writer
  pub six_retired : (why : Refusal) → number_of why ≡ 6 → ⊥

-- ---- "A refusal changes no lent element"

pub record RefusedChangesNothing : Type 0 where
  pub calls : (s : Settings) (event : Event) (m : Memory) → 1 ≤ (call_says s event m).number
      → (call s event m).memory ≡ m
  pub setups : (s : Settings) (m : Memory) → 1 ≤ (setup_says s m).number → (setup s m).memory ≡ m
