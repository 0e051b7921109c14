-- A call by its enum is setup, or the call of its event.
use mathlib.Core.Path.{◌≡◌, refl}
use Rattle.demands.specs.{Memory.Memory, Calls.{Outcome, setup, call}}
use Rattle.machine.specs.declared.{Settings.Settings, Event.Event}
use Rattle.calls.specs.{Made.{outcome_of, EachMade}, declared.Call.Call}

pub each_made : EachMade
unfolding outcome_of
each_made s m = (refl, λ event. refl)

module _ (s : Settings) (called : Call) (m : Memory) (left : Outcome) where
  pub setup_made : called ≡ Call.Setup → left ≡ setup s m → left ≡ outcome_of s called m
  unfolding outcome_of
  setup_made is made = rw is made

  pub event_made : (event : Event) → called ≡ Call.Of event → left ≡ call s event m → left ≡ outcome_of s called m
  unfolding outcome_of
  event_made event is made = rw is made
