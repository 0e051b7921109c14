-- Demand 3 speaks of names that tasks hold; callers know what they were answered. The two agree: a task is where its
-- last accepted answer says. Every accepted call could break it: its answer is read off the record that it leaves.
use mathlib.Core.{Path.{◌≡◌, refl, sym, ap}, Bool.{Bool, true, false, not, cond, ◌&&◌, true≢false, false≢true}}
use mathlib.Core.List.{List, [], ◌∷◌}
use Rattle.std.specs.Prelude.{Ok, ℕ, ◌<◌}
use native.Mathlib.Omega.{arith}
use lib.Dec.{eqb}
use borrow.Author.Tests.{eqb-true, eqb-false, ne_eqb}
use Rattle.machine.specs.{Places.place_name, Records.{is_holding, is_out}, Turn.{stand_access, begin}}
use Rattle.demands.specs.{Memory.{Memory, state_of}, Touching.value, Refusals.wrong_moment}
use Rattle.demands.specs.Answers.{Reply, told_in, is_accepted, plain}
use Rattle.demands.specs.Calls.{Outcome, name_at, standing, told_of, next_state, call, setup, release}
use Rattle.demands.specs.History.{run, history}
use Rattle.demands.specs.promises.Demands.{SetUp, memory_after, history_of, last_answer, TrueOf, LastAnswerTrue}
use Rattle.demands.specs.promises.Demands.{NameTold}
use Rattle.machine.specs.promises.Ranges.{WithinLimits}
use Rattle.machine.specs.declared.{Settings.Settings, Name.Name, Place.Place}
use Rattle.machine.specs.declared.State.{State, TheVariants.{Idle, Seeking, Holding}}
use Rattle.machine.specs.declared.{Kind.{Kind, TheVariants.{Ask, Turn, Release}}, Event.Event, Told.Told}
use Rattle.demands.proofs.calls.{Fresh.{setup_within, fresh_idle}, Telling.{accepted, tells}}
use Rattle.demands.proofs.calls.Outcomes.{Called, taken, refused, called, may_accepted}
use Rattle.demands.proofs.calls.After.{caller_after, others_after}
use Rattle.demands.proofs.bridge.Histories.{InOrder, in_order_kept, fresh_in_order, always_in_order}
use Rattle.demands.proofs.refusals.Passed.{Fit, May}
use Rattle.machine.proofs.bridge.Outs.{begin_out, stand_out}

-- ---- an accepted call

-- a task that stands is told where
standing_true : (s : Settings) (state : State) → is_out state ≡ true → TrueOf s state (accepted (standing s state))
standing_true s Idle out = absurd (false≢true out)
standing_true s (Seeking stand) out = refl
standing_true s (Holding place) out = refl

-- what an accepted call answers is true of the record that it leaves
answer_true : (s : Settings) (kind : Kind) (p : ℕ) (state : State) (m : Memory) → wrong_moment kind state ≡ false
    → TrueOf s (next_state s kind p state m) (accepted (told_of s kind state (next_state s kind p state m)))
answer_true s Ask p state m e = standing_true s (begin s) (begin_out s)
answer_true s Turn p Idle m e = absurd (true≢false e)
answer_true s Turn p (Seeking stand) m e =
    standing_true s (next_state s Turn p (Seeking stand) m) (stand_out s p stand (value s (stand_access s p stand) m))
answer_true s Turn p (Holding place) m e = absurd (true≢false e)
answer_true s Release p Idle m e = absurd (true≢false e)
answer_true s Release p (Seeking stand) m e = absurd (true≢false e)
answer_true s Release p (Holding place) m e = tt

-- ---- a history

-- the last answer of task p, after one more call
abbrev heard : ℕ → Event → Outcome → Reply → Reply
heard p event outcome before = cond (is_accepted outcome.answer && eqb event.task.0 p) outcome.answer before

module _ (s : Settings) (fair : WithinLimits s) (p : ℕ) (m : Memory) (sound : Fit s m) (before : Reply) where
  heard_kept : (event : Event) → TrueOf s (state_of m p) (told_in before)
      → TrueOf s (state_of (call s event m).memory p) (told_in (heard p event (call s event m) before))
  heard_kept event h = go (call s event m) (called s fair event m sound) (eqb event.task.0 p) refl
    where
      go : (outcome : Outcome) → Called s event m outcome → (its : Bool) → eqb event.task.0 p ≡ its
          → TrueOf s (state_of outcome.memory p)
          (told_in (cond (is_accepted outcome.answer && its) outcome.answer before))
      go outcome (refused why its_task) its e = h
      go outcome (taken o) true e =
          let z : event.task.0 ≡ p = eqb-true event.task.0 p e in
          let own = caller_after s m sound event.task.0 o.known event.kind
          (state_of m event.task.0) in
          rw (← z, own)
          (answer_true s event.kind event.task.0 (state_of m event.task.0) m o.moment)
      go outcome (taken o) false e =
          let d : p ≡ event.task.0 → ⊥ = λ f. eqb-false event.task.0 p e (sym f) in
          rw (others_after s m event.task.0 event.kind (state_of m event.task.0) p d) h

last_heard : (s : Settings) (fair : WithinLimits s) (p : ℕ) (events : List Event) (m : Memory) (before : Reply)
    → InOrder s fair m
    → TrueOf s (state_of m p) (told_in before)
    → TrueOf s (state_of (run s events m) p) (told_in (last_answer p (history s events m) before))
last_heard s fair p [] m before f h = h
last_heard s fair p (event ∷ events) m before f h =
    last_heard s fair p events (call s event m).memory (heard p event (call s event m) before)
    (in_order_kept s fair event m f)
    (heard_kept s fair p m f.invariants.fit before event h)

pub last_answer_true : LastAnswerTrue
last_answer_true s lent events ok p l =
    last_heard s (setup_within s lent ok) p events (setup s lent).memory (plain Told.Done) (fresh_in_order s lent ok)
    (rw (fresh_idle s lent ok p l) tt)

-- ---- the name that is freed

holder_may : (s : Settings) (m : Memory) (p : ℕ) (place : Place) → p < s.n → s.mode ≡ 1
    → state_of m p ≡ Holding place → May s (release p) m
holder_may s m p place l one e = record {
  known = l;
  lived = ne_eqb s.mode 0 (λ z. omega arith);
  moment = ap (λ (state : State). not (is_holding state)) e;
  room = refl;
}

pub told : (s : Settings) (lent : Memory) (events : List Event) → SetUp s lent → (p : ℕ) (place : Place) → p < s.n
    → state_of (memory_after s lent events) p ≡ Holding place → NameTold s lent events p (place_name s place)
told s lent events ok p place l e =
    let fair = setup_within s lent ok in
    let m = memory_after s lent events in
    let named : Name = name_at s place in
    let heard : told_in (last_answer p (history_of s lent events) (plain Told.Done)) ≡ Ok (Told.Holds named) =
    rw e at (last_answer_true s lent events ok p l) in
    let freed : s.mode ≡ 1 → told_in (call s (release p) m).answer ≡ Ok (Told.Freed named) = λ one.
    rw (
      may_accepted s fair (release p) m (always_in_order s lent ok events).invariants.fit
          (holder_may s m p place l one e),
      e,
    ) in
    record {
      answered = heard;
      answer_tells = (tells _ (Told.Holds named) (named.0 ∷ []) heard (refl, refl)).1;
      freed = freed;
      freed_tells = λ one. (tells _ (Told.Freed named) (named.0 ∷ []) (freed one) (refl, refl)).1;
    }
