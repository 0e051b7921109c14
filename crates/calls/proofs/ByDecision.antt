-- A call is what its decision says: the record decided is put back in its place, and the registers are those decided.
-- Likewise setup, whose records stay.
use mathlib.Core.{Path.{◌≡◌, refl, sym, ap, ◌∙◌}, Bool.{Bool, true, false, cond}, List.List}
use Rattle.std.specs.Prelude.{Option, None, Some, Result, Ok, Err, ℕ}
use lib.ListN.{get_or, set}
use Rattle.machine.specs.{Records.{idle, record_in_range}, Turn.{op_writes, seen, left, access}}
use Rattle.demands.specs.{Memory.{Memory, view_of, content, put}, Touching.{value, store}}
use Rattle.demands.specs.{Calls.{Outcome, refuse_or, accept, call, cleared, setup, event_of}, Lent.{lent, leaves}}
use Rattle.demands.specs.{Refusals.{Verdict, verdict, setup_verdict}, Answers.plain}
use Rattle.machine.specs.declared.{Settings.Settings, Record.Record}
use Rattle.machine.specs.declared.Register.{Register, TheVariants.{X, Mark}}
use Rattle.machine.specs.declared.{Access.Access, Kind.Kind, Event.Event, View.View, Refusal.Refusal, Told.Told}
use Rattle.counting.proofs.Searching.{none_bad_all}
use Rattle.rules.specs.Decision.{Sees, Decision, decision_by, decision, decided, preparation}
use Rattle.rules.specs.{declared.Decided.Decided}

-- the view of a row says of its task's own record that it is in range where nothing is bad
pub view_sees : (s : Settings) (records : List Record) (p : ℕ) → Sees s p (view_of s records p)
view_sees s records p none known = none_bad_all (λ q. record_in_range s (get_or records q idle)) s.n none p known

-- records beside registers
abbrev pub beside : List Record → Memory → Memory
beside records m = lent records m.xs m.marks

-- ---- an access touches the registers alone

module _ (s : Settings) (records : List Record) (m : Memory) where
  same_content : (register : Register) → content s register (beside records m) ≡ content s register m
  same_content (X block) = refl
  same_content (Mark block place) = refl

  same_put : (register : Register) (v : ℕ) → put s register v (beside records m) ≡ beside records (put s register v m)
  same_put (X block) v = refl
  same_put (Mark block place) v = refl

  same_value : (a : Option Access) → value s a (beside records m) ≡ value s a m
  same_value None = refl
  same_value (Some a) = ap (seen a.op) (same_content a.register)

  same_store : (a : Option Access) → store s a (beside records m) ≡ beside records (store s a m)
  same_store None = refl
  same_store (Some a) = rw (same_content a.register) (go (op_writes a.op))
    where
      go : (writes : Bool)
          → cond writes (put s a.register (left a.op (content s a.register m)) (beside records m)) (beside records m)
          ≡ beside records (cond writes (put s a.register (left a.op (content s a.register m)) m) m)
      go true = same_put a.register _
      go false = refl

-- ---- ask, turn and release

-- the outcome that a decision makes of the lent records: a refusal puts nothing back
abbrev pub put_back : List Record → ℕ → Result Decided Refusal → Memory → Outcome
put_back records p (Ok decided) m = leaves (Ok decided.answer) (beside (set records p decided.own) m)
put_back records p (Err why) m = leaves (Err why) (beside records m)

abbrev pub decided_outcome : List Record → ℕ → Decision → Outcome
decided_outcome records p d = put_back records p d.result d.memory

module _ (s : Settings) (kind : Kind) (p : ℕ) (records : List Record) (m : Memory) where
  pub by_decision : decided_outcome records p (decision s kind p (view_of s records p) m)
      ≡ call s (event_of kind p) (beside records m)
  by_decision = sym (go (verdict s kind p (view_of s records p) m))
    where
      own : Record
      own = get_or records p idle

      touch : Option Access
      touch = access s kind p own.state

      go : (v : Verdict) → refuse_or v (beside records m) (accept s kind p own.state (beside records m))
          ≡ decided_outcome records p (decision_by v s kind p (view_of s records p) m)
      go (Ok accepted) = rw (same_value s records m touch, same_store s records m touch)
      go (Err why) = refl

-- whatever was seen, if it is what the records show, and whatever was decided of it
pub stepped : (s : Settings) (event : Event) (records : List Record) (m left : Memory) (seen : View)
    (result : Result Decided Refusal)
    → seen ≡ view_of s records event.task.0
    → decided result left ≡ decision s event.kind event.task.0 seen m
    → put_back records event.task.0 result left ≡ call s event (beside records m)
stepped s event records m left seen result looks decides =
    ap (decided_outcome records event.task.0) (rw looks at decides)
    ∙ by_decision s event.kind event.task.0 records m

-- ---- setup

-- what setup leaves of the registers, beside the records, which it does not write
abbrev pub prepared_outcome : List Record → Outcome → Outcome
prepared_outcome records o = leaves o.answer (beside records o.memory)

pub by_preparation : (s : Settings) (records : List Record) (m : Memory)
    → prepared_outcome records (preparation s (view_of s records 0) m) ≡ setup s (beside records m)
by_preparation s records m = go (setup_verdict s (view_of s records 0) m)
  where
    go : (v : Verdict) → prepared_outcome records (refuse_or v m (leaves (plain Told.Done) (cleared s m)))
        ≡ refuse_or v (beside records m) (leaves (plain Told.Done) (cleared s (beside records m)))
    go (Err why) = refl
    go (Ok accepted) = refl
