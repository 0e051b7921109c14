-- What is called, as an outcome of the definitions. Theorem: `each_made`.
use Rattle.std.specs.Prelude.{◌≡◌}
use Rattle.demands.specs.{Memory.Memory, Calls.{Outcome, setup, call}}
use Rattle.machine.specs.declared.{Settings.Settings, Event.Event}
use Rattle.calls.specs.declared.Call.{Call}

-- setup, or a call of one task
unfoldable pub outcome_of : Settings → Call → Memory → Outcome
outcome_of s Call.Setup m = setup s m
outcome_of s (Call.Of event) m = call s event m

-- it is the setup, or the call, that it names
abbrev pub EachMade : Type 0
EachMade = (s : Settings) (m : Memory)
    → (outcome_of s Call.Setup m ≡ setup s m) × ((event : Event) → outcome_of s (Call.Of event) m ≡ call s event m)
