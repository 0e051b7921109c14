-- Demand 3, "No turn of a seeking task is refused": J0 has tests 1 to 3 pass, and those of the task ask nothing more of
-- the turn of a task that seeks.
use mathlib.Core.{Path.{◌≡◌, refl}, Bool.{false, not}, List.List}
use Prim.Native.Nat.{ℕ, ◌<◌}
use lib.Dec.{T}
use Rattle.machine.specs.Records.{is_seeking}
use Rattle.demands.specs.{Memory.{Memory, state_of}, Answers.is_accepted, Calls.{call, turn}}
use Rattle.demands.specs.promises.Demands.{SetUp, memory_after, Seeks}
use Rattle.machine.specs.declared.{Settings.Settings, State.{State, TheVariants.{Idle, Seeking, Holding}}, Event.Event}
use Rattle.demands.proofs.calls.{Fresh.setup_within, Outcomes.may_accepted}
use Rattle.demands.proofs.{bridge.Histories.always_in_order, refusals.Passed.May}

pub seeker_may : (s : Settings) (m : Memory) (p : ℕ) → p < s.n → T (is_seeking (state_of m p)) → May s (turn p) m
seeker_may s m p l t = record { known = l; lived = refl; moment = seeking (state_of m p) t; room = refl }
  where
    seeking : (state : State) → T (is_seeking state) → not (is_seeking state) ≡ false
    seeking Idle t = absurd t
    seeking (Seeking stand) t = refl
    seeking (Holding place) t = absurd t

pub seeker_accepted : (s : Settings) (lent : Memory) (events : List Event) → SetUp s lent → (p : ℕ) → p < s.n
    → Seeks (memory_after s lent events) p
    → T (is_accepted (call s (turn p) (memory_after s lent events)).answer)
seeker_accepted s lent events ok p l t =
    let m = memory_after s lent events in
    let taken = may_accepted s (setup_within s lent ok) (turn p) m (always_in_order s lent ok events).invariants.fit
    (seeker_may s m p l t) in
    rw taken tt
