-- Lists of calls of which none is refused: where they lead, which call is the last, and how many turns of a task are
-- written in them.
use mathlib.Core.{Path.{◌≡◌, refl, sym, ap, subst, ◌∙◌}, Bool.{Bool, true, false, cond, ◌&&◌}}
use mathlib.Core.List.{List, [], ◌∷◌, ◌++◌, append_assoc, append-nil}
use Prim.Native.Nat.{ℕ}
use lib.Dec.{T, eqb}
use Rattle.demands.specs.{Memory.Memory, Answers.is_accepted, Calls.{Outcome, call}}
use Rattle.demands.specs.History.{run, Answered, history, counted, turns_of}
use Rattle.demands.specs.promises.Demands.{all_accepted}
use Rattle.machine.specs.declared.{Settings.Settings, Event.Event}
use Rattle.demands.proofs.bridge.Histories.{run_append, history_append}
use Rattle.counting.proofs.Bools.{and_in, and_l, and_r, is_true}

-- the calls lead from m to `last`, and none is refused
pub record Leads (s : Settings) (events : List Event) (m last : Memory) : Type 0 where
  pub ends : run s events m ≡ last
  pub accepted : T (all_accepted (history s events m))

pub leads_nowhere : {s : Settings} {m : Memory} → Leads s [] m m
leads_nowhere = record { ends = refl; accepted = tt }

pub leads_more : {s : Settings} {event : Event} {events : List Event} {m last : Memory} (outcome : Outcome)
    → call s event m ≡ outcome
    → T (is_accepted outcome.answer) → Leads s events outcome.memory last → Leads s (event ∷ events) m last
leads_more {s} {events = events} outcome e t l = record {
  ends = ap (λ (o : Outcome). run s events o.memory) e ∙ l.ends;
  accepted = subst (λ (o : Outcome). T (is_accepted o.answer && all_accepted (history s events o.memory))) (sym e)
      (and_in (is_accepted outcome.answer) (all_accepted (history s events outcome.memory)) t l.accepted);
}

all_append : (done more : List Answered) → all_accepted (done ++ more) ≡ all_accepted done && all_accepted more
all_append [] more = refl
all_append (one ∷ done) more = go (is_accepted one.answer) (all_append done more)
  where
    go : (b : Bool) → all_accepted (done ++ more) ≡ all_accepted done && all_accepted more
        → b && all_accepted (done ++ more) ≡ (b && all_accepted done) && all_accepted more
    go true e = e
    go false e = refl

accepted_append : (s : Settings) (events more : List Event) (m : Memory)
    → all_accepted (history s (events ++ more) m) ≡ all_accepted (history s events m) && all_accepted
    (history s more (run s events m))
accepted_append s events more m = ap all_accepted (history_append s events more m)
    ∙ all_append (history s events m) (history s more (run s events m))

pub leads_append : {s : Settings} {events more : List Event} {m middle last : Memory} → Leads s events m middle
    → Leads s more middle last
    → Leads s (events ++ more) m last
leads_append {s} {events} {more} {m} a b = record {
  ends = run_append s events more m ∙ ap (run s more) a.ends ∙ b.ends;
  accepted = rw (accepted_append s events more m)
      (and_in (all_accepted (history s events m)) (all_accepted (history s more (run s events m)))
      a.accepted (rw a.ends b.accepted));
}

-- ---- the last call

pub record EndsWith (events : List Event) (last : Event) : Type 0 where
  pub before : List Event
  pub split : events ≡ before ++ (last ∷ [])

pub last_accepted : (s : Settings) (before : List Event) (last : Event) (m : Memory)
    → T (all_accepted (history s (before ++ (last ∷ [])) m))
    → T (is_accepted (call s last (run s before m)).answer)
last_accepted s before last m t =
    let both = rw (accepted_append s before (last ∷ []) m) at t in
    let end = and_r (all_accepted (history s before m))
    (is_accepted (call s last (run s before m)).answer && true) both in
    and_l (is_accepted (call s last (run s before m)).answer) true end

pub ends_alone : {last : Event} → EndsWith (last ∷ []) last
ends_alone = record { before = []; split = refl }

pub ends_append : (events : List Event) {more : List Event} {last : Event} → EndsWith more last
    → EndsWith (events ++ more) last
ends_append events {last = last} e = record {
  before = events ++ e.before;
  split = ap (λ (l : List Event). events ++ l) e.split ∙ sym (append_assoc events e.before (last ∷ []));
}

pub ends_nil : {events : List Event} {last : Event} → EndsWith events last → EndsWith (events ++ []) last
ends_nil {events} e = record { before = e.before; split = append-nil events ∙ e.split }

-- ---- the turns written in a list of calls

abbrev pub written_turns : ℕ → List Event → ℕ → ℕ
written_turns p [] t = t
written_turns p (event ∷ events) t = written_turns p events (cond (eqb event.task.0 p) (counted event.kind t) t)

pub written_append : (p : ℕ) (events more : List Event) (t : ℕ)
    → written_turns p (events ++ more) t ≡ written_turns p more (written_turns p events t)
written_append p [] more t = refl
written_append p (event ∷ events) more t = written_append p events more _

-- where no call is refused, the turns used are those written
pub used_written : (s : Settings) (p : ℕ) (events : List Event) (m : Memory) (t : ℕ)
    → T (all_accepted (history s events m))
    → turns_of p (history s events m) t ≡ written_turns p events t
used_written s p [] m t h = refl
used_written s p (event ∷ events) m t h =
    let first = and_l (is_accepted (call s event m).answer)
    (all_accepted (history s events (call s event m).memory)) h in
    let rest = and_r (is_accepted (call s event m).answer)
    (all_accepted (history s events (call s event m).memory)) h in
    ap (λ (b : Bool). turns_of p (history s events (call s event m).memory)
    (cond (b && eqb event.task.0 p) (counted event.kind t) t))
    (is_true (is_accepted (call s event m).answer) first)
    ∙ used_written s p events (call s event m).memory _ rest
