-- For whoever calls and keeps notes: for each task the name that it holds, as the answers tell it. The notes are a list
-- by task, n + 1 for the name n and 0 for none. Brought up to date by each answer they agree with the records, and so,
-- in a reached memory, the names in them differ and are small. Theorem: `notes_kept`.
use mathlib.Core.{Path.◌≡◌, Logic.◌↔◌, List.List}
use Rattle.std.specs.Prelude.{Result, Ok, Err, ℕ, ◌+◌, ◌*◌, ◌/◌, ◌<◌, length, get_or, set}
use Rattle.demands.specs.{Memory.Memory, Answers.told_in, Calls.{call, setup}}
use Rattle.demands.specs.promises.{Demands.{SetUp, HoldsName}, Reached.Reached}
use Rattle.machine.specs.declared.{Settings.Settings, Refusal.Refusal, Event.Event, Told.Told}

-- what is noted of a task, from what it is told and from what was noted before
abbrev pub noted : Result Told Refusal → ℕ → ℕ
noted (Ok Told.Done) before = before
noted (Ok Told.Seeks) before = before
noted (Ok (Told.Holds name)) before = name.0 + 1
noted (Ok (Told.Freed name)) before = 0
noted (Err why) before = before

-- task p has the name n by the notes
abbrev pub Noted : List ℕ → ℕ → ℕ → Type 0
Noted notes p n = get_or notes p 0 ≡ n + 1

-- the notes say what the records say
abbrev pub Agree : Settings → Memory → List ℕ → Type 0
Agree s m notes = (p n : ℕ) → p < s.n → Noted notes p n ↔ HoldsName s m p n

-- the notes after a call: the task's own is brought up to date
abbrev pub notes_after : Settings → Event → Memory → List ℕ → List ℕ
notes_after s event m notes =
    set notes event.task.0 (noted (told_in (call s event m).answer) (get_or notes event.task.0 0))

pub record NotesKept (s : Settings) : Type 0 where
  -- empty notes agree after an accepted setup; a setup, accepted or not, leaves notes true
  pub empty : (lent : Memory) (notes : List ℕ) → SetUp s lent → ((p : ℕ) → get_or notes p 0 ≡ 0)
      → Agree s (setup s lent).memory notes
  pub over_setup : (m : Memory) (notes : List ℕ) → Agree s m notes → Agree s (setup s m).memory notes
  -- and so does every call
  pub kept : (event : Event) (m : Memory) (notes : List ℕ) → event.task.0 < length notes → Agree s m notes
      → Agree s (call s event m).memory (notes_after s event m notes)
  -- in a reached memory no two tasks have one name by the notes, and the names are small
  pub apart : (m : Memory) (notes : List ℕ) → Reached s m → Agree s m notes → (p q n : ℕ) → p < s.n → q < s.n
      → Noted notes p n → Noted notes q n → p ≡ q
  pub below : (m : Memory) (notes : List ℕ) → Reached s m → Agree s m notes → (p n : ℕ) → p < s.n
      → Noted notes p n → n < s.k * (s.k + 1) / 2

abbrev pub EachNotesKept : Type 0
EachNotesKept = (s : Settings) → NotesKept s
