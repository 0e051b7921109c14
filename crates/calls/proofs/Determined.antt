-- The contract of a call on records by value determines what it returns, records and answer, and the memory afterwards,
-- row by row.
use mathlib.Core.{Path.◌≡◌, List.List}
use Prim.Native.Nat.{ℕ}
use Rattle.demands.specs.{Memory.Memory, Calls.{Outcome, setup, call}, Lent.{lent, leaves}}
use Rattle.machine.specs.declared.{Settings.Settings, Event.Event}
use Rattle.demands.proofs.calls.Lent.{leaves_determined}
use Rattle.calls.specs.{Made.outcome_of, declared.{Call.Call, Made.Made}}

-- whatever outcome a contract names
module _ (outcome : Outcome) (one other : Made) (xs xs' marks marks' : List ℕ) where
  same_made : leaves one.answer (lent one.records xs marks) ≡ outcome
      → leaves other.answer (lent other.records xs' marks') ≡ outcome
      → (one ≡ other) × (xs ≡ xs') × (marks ≡ marks')
  same_made p q =
      let (answers, memory, records, xs_same, marks_same) = leaves_determined _ _ _ _ _ p q in
      (λ i. record { records = records i; answer = answers i }, xs_same, marks_same)

pub made_determined : (s : Settings) (call : Call) (before : Memory) (one other : Made) (xs xs' marks marks' : List ℕ)
    → leaves one.answer (lent one.records xs marks) ≡ outcome_of s call before
    → leaves other.answer (lent other.records xs' marks') ≡ outcome_of s call before
    → (one ≡ other) × (xs ≡ xs') × (marks ≡ marks')
made_determined s call before = same_made (outcome_of s call before)

pub setup_of_determined : (s : Settings) (before : Memory) (one other : Made) (xs xs' marks marks' : List ℕ)
    → leaves one.answer (lent one.records xs marks) ≡ setup s before
    → leaves other.answer (lent other.records xs' marks') ≡ setup s before
    → (one ≡ other) × (xs ≡ xs') × (marks ≡ marks')
setup_of_determined s before = same_made (setup s before)

pub call_of_determined : (s : Settings) (event : Event) (before : Memory) (one other : Made)
    (xs xs' marks marks' : List ℕ)
    → leaves one.answer (lent one.records xs marks) ≡ call s event before
    → leaves other.answer (lent other.records xs' marks') ≡ call s event before
    → (one ≡ other) × (xs ≡ xs') × (marks ≡ marks')
call_of_determined s event before = same_made (call s event before)
