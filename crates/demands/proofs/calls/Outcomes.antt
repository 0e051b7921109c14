-- The two outcomes of a call on a fit memory: the task may and it is accepted, or it is refused by a number that has to
-- do with the task, 4 or above, and changes nothing.
use mathlib.Core.{Path.{◌≡◌, refl, sym, subst}, Bool.{Bool, true, false}, List.{[], ◌∷◌}}
use Prim.Native.Nat.{◌≤◌}
use Rattle.std.specs.Prelude.{Err}
use native.Mathlib.Omega.{arith}
use borrow.Author.Tests.{lt-leb, leb-false}
use Rattle.demands.specs.{Memory.{Memory, state_of, out_of}}
use Rattle.demands.specs.Refusals.{Verdict, first, when, no_such_task, one_time_release, wrong_moment, moment}
use Rattle.demands.specs.Refusals.{too_many_out}
use Rattle.demands.specs.Calls.{Outcome, refuse_or, call}
use Rattle.machine.specs.RefusalNumbers.{number_of}
use Rattle.machine.specs.declared.{Settings.Settings, Event.Event, State.{State, TheVariants.{Idle, Seeking, Holding}}}
use Rattle.machine.specs.declared.{Refusal.{Refusal, TheVariants.{NoSuchTask, OneTime, TooManyOut}}}
use Rattle.machine.specs.promises.Ranges.{WithinLimits}
use Rattle.demands.proofs.refusals.{Passed.{Fit, May, fit_verdict}, Refusing.{ruled}}

pub data Called (s : Settings) (event : Event) (m : Memory) : Outcome → Type 0 where
  taken : May s event m → Called s event m (ruled s event m)
  refused : (why : Refusal) → 4 ≤ number_of why
      → Called s event m (record { answer = Err why; memory = m })

moment_above : (state : State) → 4 ≤ number_of (moment state)
moment_above Idle = omega arith
moment_above (Seeking stand) = omega arith
moment_above (Holding place) = omega arith

module _ (s : Settings) (l : WithinLimits s) (event : Event) (m : Memory) (fit : Fit s m) where
  -- the tests of the task
  abbrev last_tests : Bool → Bool → Bool → Bool → Verdict
  last_tests task once wrong out =
      first
      (when task NoSuchTask ∷ when once OneTime ∷ when wrong (moment (state_of m event.task.0))
      ∷ when out TooManyOut ∷ [])

  pub called : Called s event m (call s event m)
  called =
      subst (λ v. Called s event m (refuse_or v m (ruled s event m))) (sym (fit_verdict s m event l fit))
      (go (no_such_task s event.task.0) (one_time_release s event.kind)
      (wrong_moment event.kind (state_of m event.task.0))
      (too_many_out s event.kind (out_of s m.records)) refl refl refl refl)
    where
      go : (task once wrong out : Bool) → no_such_task s event.task.0 ≡ task → one_time_release s event.kind ≡ once
          → wrong_moment event.kind (state_of m event.task.0) ≡ wrong
          → too_many_out s event.kind (out_of s m.records) ≡ out
          → Called s event m (refuse_or (last_tests task once wrong out) m (ruled s event m))
      go true once wrong out a b c d = refused NoSuchTask (omega arith)
      go false true wrong out a b c d = refused OneTime (omega arith)
      go false false true out a b c d = refused _ (moment_above (state_of m event.task.0))
      go false false false true a b c d = refused TooManyOut (omega arith)
      go false false false false a b c d =
          taken (record { known = leb-false s.n event.task.0 a; lived = b; moment = c; room = d })

  -- a call that the task may make is accepted
  pub may_accepted : May s event m → call s event m ≡ ruled s event m
  may_accepted o =
      subst (λ v. refuse_or v m (ruled s event m) ≡ ruled s event m) (sym (fit_verdict s m event l fit))
      (rw (lt-leb s.n event.task.0 o.known, o.lived, o.moment, o.room))
