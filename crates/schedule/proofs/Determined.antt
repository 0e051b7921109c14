-- The contracts that speak of an answer and of what is lent afterwards determine both: two outcomes that they admit are
-- equal.
use mathlib.Core.{Path.{◌≡◌, sym, ap, ◌∙◌}, List.List}
use Prim.Native.Nat.{ℕ}
use Rattle.file.specs.File.{Reading, Writing, Written, writing, written_of}
use Rattle.machine.specs.declared.Settings.{Settings}
use Rattle.schedule.specs.{Asked.Asked, declared.Reader.Reader}

-- `Reader::next`: the answer and the reader as it is left
pub asked_determined : (before : Reader) (answer answer' : Reading) (after after' : Reader)
    → Asked before answer after → Asked before answer' after'
    → (answer ≡ answer') × (after ≡ after')
asked_determined before answer answer' after after' a b = (
  a.answered ∙ sym b.answered,
  λ i. record { file = (a.same_file ∙ sym b.same_file) i; at = (a.moved ∙ sym b.moved) i },
)

-- `write`: the answer and the room as it is left
pub written_determined : (s : Settings) (numbers before : List ℕ) (answer answer' : Writing) (after after' : List ℕ)
    → written_of answer after ≡ writing s numbers before → written_of answer' after' ≡ writing s numbers before
    → (answer ≡ answer') × (after ≡ after')
written_determined s numbers before answer answer' after after' a b =
    (ap (λ (outcome : Written). outcome.answer) (a ∙ sym b), ap (λ (outcome : Written). outcome.room) (a ∙ sym b))
