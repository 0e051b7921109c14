-- The contracts of `setup` and `decide` determine what is returned, and the registers
-- afterwards, row by row: two outcomes that they admit are equal.
use mathlib.Core.Path.{◌≡◌, sym, ap, ◌∙◌}
use Rattle.std.specs.Prelude.{Result}
use Rattle.demands.specs.{Memory.Memory, Calls.Outcome, Lent.leaves}
use Rattle.demands.specs.Answers.{Reply}
use Rattle.machine.specs.declared.{Settings.Settings, View.View, Event.Event, Refusal.Refusal}
use Rattle.rules.specs.Decision.{Decision, decision, decided, preparation}
use Rattle.rules.specs.declared.Decided.{Decided}

-- `setup`: the answer, and the registers
pub prepared_determined : (s : Settings) (seen : View) (before : Memory) (one other : Reply) (m m' : Memory)
    → leaves one m ≡ preparation s seen before → leaves other m' ≡ preparation s seen before
    → (one ≡ other) × (m ≡ m') × (m.xs ≡ m'.xs) × (m.marks ≡ m'.marks)
prepared_determined s seen before one other m m' p q =
    let e : leaves one m ≡ leaves other m' = p ∙ sym q in
    let left : m ≡ m' = ap (λ (all : Outcome). all.memory) e in (
      ap (λ (all : Outcome). all.answer) e,
      left,
      ap (λ (l : Memory). l.xs) left,
      ap (λ (l : Memory). l.marks) left,
    )

-- `decide`: the answer and the task's record, or the refusal, and the registers
pub decided_determined : (s : Settings) (seen : View) (event : Event) (before : Memory)
    (one other : Result Decided Refusal) (m m' : Memory)
    → decided one m ≡ decision s event.kind event.task.0 seen before
    → decided other m' ≡ decision s event.kind event.task.0 seen before
    → (one ≡ other) × (m ≡ m') × (m.xs ≡ m'.xs) × (m.marks ≡ m'.marks)
decided_determined s seen event before one other m m' p q =
    let e : decided one m ≡ decided other m' = p ∙ sym q in
    let left : m ≡ m' = ap (λ (all : Decision). all.memory) e in (
      ap (λ (all : Decision). all.result) e,
      left,
      ap (λ (l : Memory). l.xs) left,
      ap (λ (l : Memory). l.marks) left,
    )
