-- 01, "Rules of the grid", and 02: this paper's number and values for what each answer tells.
use mathlib.Core.{Path.◌≡◌, Bool.{Bool, true, false}, List.{List, [], ◌∷◌}}
use Rattle.std.specs.Prelude.{Option, None, Result, Ok, Err, ℕ}
use Rattle.machine.specs.RefusalNumbers.{Said, refusal_said}
use Rattle.machine.specs.declared.{Refusal.Refusal, Shown.Shown, Answer.Answer}
use Rattle.machine.specs.declared.Told.{Told, TheVariants.{Done, Seeks, Holds, Freed}}

-- what a call answers: an answer where it is accepted, and else why it is refused
abbrev pub Reply : Type 0
Reply = Result Answer Refusal

-- what it tells, and the access that it shows
abbrev pub told_in : Reply → Result Told Refusal
told_in (Ok answer) = Ok answer.told
told_in (Err why) = Err why

abbrev pub shown_in : Reply → Option Shown
shown_in (Ok answer) = answer.shown
shown_in (Err why) = None

-- an answer is an acceptance, and these are the values beside it
abbrev pub Tells : Said → List ℕ → Type 0
Tells says values = (says.number ≡ 0) × (says.values ≡ values)

abbrev pub accepts : List ℕ → Said
accepts values = record { number = 0; values = values }

-- setup answers that it is done; ask and turn that the task seeks, or holds with the name; release the freed name
abbrev pub told_said : Told → Said
told_said Done = accepts []
told_said Seeks = accepts []
told_said (Holds name) = accepts (name.0 ∷ [])
told_said (Freed name) = accepts (name.0 ∷ [])

abbrev pub said : Reply → Said
said (Ok answer) = told_said answer.told
said (Err why) = refusal_said why

-- whether a call was accepted
abbrev pub is_accepted : Reply → Bool
is_accepted (Ok answer) = true
is_accepted (Err why) = false

-- an answer that shows no access: those of setup and ask
abbrev pub plain : Told → Reply
plain told = Ok (record { told = told; shown = None })
