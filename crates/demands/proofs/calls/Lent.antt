-- The contract of a call on lent rows admits one end: one answer, and one memory, row by row.
use mathlib.Core.Path.{◌≡◌, ◌∙◌, sym, ap}
use Rattle.demands.specs.{Memory.Memory, Calls.{Outcome, setup, call}, Lent.leaves}
use Rattle.demands.specs.Answers.{Reply}
use Rattle.machine.specs.declared.{Settings.Settings, Event.Event}

-- at any outcome
pub leaves_determined : (outcome : Outcome) (answer answer' : Reply) (m m' : Memory)
    → leaves answer m ≡ outcome → leaves answer' m' ≡ outcome
    → (answer ≡ answer') × (m ≡ m') × (m.records ≡ m'.records) × (m.xs ≡ m'.xs) × (m.marks ≡ m'.marks)
leaves_determined outcome answer answer' m m' one other =
    let e : leaves answer m ≡ leaves answer' m' = one ∙ sym other in
    let left : m ≡ m' = ap (λ (o : Outcome). o.memory) e in (
      ap (λ (o : Outcome). o.answer) e,
      left,
      ap (λ (l : Memory). l.records) left,
      ap (λ (l : Memory). l.xs) left,
      ap (λ (l : Memory). l.marks) left,
    )

-- ask, turn and release
pub call_determined : (s : Settings) (event : Event) (before : Memory) (answer answer' : Reply) (m m' : Memory)
    → leaves answer m ≡ call s event before → leaves answer' m' ≡ call s event before
    → (answer ≡ answer') × (m ≡ m') × (m.records ≡ m'.records) × (m.xs ≡ m'.xs) × (m.marks ≡ m'.marks)
call_determined s event before = leaves_determined (call s event before)

pub setup_determined : (s : Settings) (before : Memory) (answer answer' : Reply) (m m' : Memory)
    → leaves answer m ≡ setup s before → leaves answer' m' ≡ setup s before
    → (answer ≡ answer') × (m ≡ m') × (m.records ≡ m'.records) × (m.xs ≡ m'.xs) × (m.marks ≡ m'.marks)
setup_determined s before = leaves_determined (setup s before)
