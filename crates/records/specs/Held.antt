-- What a task holds, as a name.
use Rattle.std.specs.Prelude.{Option, None, Some}
use Rattle.demands.specs.Calls.{name_at}
use Rattle.machine.specs.declared.{Settings.Settings, Name.Name, State.{State, TheVariants.{Idle, Seeking, Holding}}}

-- the name of the place that a task holds, if it holds one
abbrev pub held_name : Settings → State → Option Name
held_name s Idle = None
held_name s (Seeking stand) = None
held_name s (Holding place) = Some (name_at s place)
