-- The records after an accepted call: the task's own is the next one, and the others are as they were. Nothing is asked
-- of the settings.
use mathlib.Core.{Path.{◌≡◌, ap, ◌∙◌}, List.List}
use Prim.Native.Nat.{ℕ, ◌<◌}
use Rattle.std.specs.Prelude.{Option}
use native.Mathlib.Nat.{le_trans}
use lib.{ListN.{get_or, set}, Seq.{get_or-set_same, get_or-set_other}}
use Rattle.machine.specs.{Records.idle, Turn.access}
use Rattle.demands.specs.{Memory.{Memory, record_of, state_of, with_record}, Touching.store}
use Rattle.demands.specs.Calls.{next_state, record_after, accept}
use Rattle.machine.specs.declared.{Settings.Settings, State.State, Record.Record, Access.Access, Kind.Kind}
use Rattle.demands.proofs.{refusals.Passed.Fit, calls.Effects.store_records}

-- an access leaves the records, into which the call puts the next one
records_after : (s : Settings) (access : Option Access) (m : Memory) (p : ℕ) (new : Record)
    → (with_record p new (store s access m)).records ≡ set m.records p new
records_after s access m p new = ap (λ (records : List Record). set records p new) (store_records s m access)

module _ (s : Settings) (m : Memory) (p : ℕ) where
  pub others_record : (kind : Kind) (state : State) (q : ℕ) → (q ≡ p → ⊥)
      → record_of (accept s kind p state m).memory q ≡ record_of m q
  others_record kind state q d =
      let new = record_after s kind p state m in
      ap (λ (records : List Record). get_or records q idle) (records_after s (access s kind p state) m p new)
      ∙ get_or-set_other m.records p q new idle d

  pub others_after : (kind : Kind) (state : State) (q : ℕ) → (q ≡ p → ⊥)
      → state_of (accept s kind p state m).memory q ≡ state_of m q
  others_after kind state q d = ap (λ (a : Record). a.state) (others_record kind state q d)

module _ (s : Settings) (m : Memory) (h : Fit s m) (p : ℕ) (below : p < s.n) where
  pub caller_record : (kind : Kind) (state : State)
      → record_of (accept s kind p state m).memory p ≡ record_after s kind p state m
  caller_record kind state =
      let new = record_after s kind p state m in
      ap (λ (records : List Record). get_or records p idle) (records_after s (access s kind p state) m p new)
      ∙ get_or-set_same m.records p new idle (le_trans below h.long.records)

  pub caller_after : (kind : Kind) (state : State)
      → state_of (accept s kind p state m).memory p ≡ next_state s kind p state m
  caller_after kind state = ap (λ (a : Record). a.state) (caller_record kind state)
