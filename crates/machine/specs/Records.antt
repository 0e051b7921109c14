-- 01, "Memory that is lent", and 02, P7: what a task's record says, and which records are in range.
use Rattle.std.specs.Prelude.{Bool, true, false, not, ◌&&◌, ℕ, ◌+◌, eqb, leb, ltb}
use Rattle.machine.specs.Settings.{width, bound}
use Rattle.machine.specs.declared.Settings.{Settings}
use Rattle.machine.specs.declared.Point.{Point, TheVariants.{WriteX, Scan, WriteMark, ReadX, Clear}}
use Rattle.machine.specs.declared.{Stand.Stand, Place.Place}
use Rattle.machine.specs.declared.{State.{State, TheVariants.{Idle, Seeking, Holding}}, Record.Record}

abbrev pub idle : Record
idle = record { state = Idle; turns = 0 }

abbrev pub is_idle : State → Bool
is_idle Idle = true
is_idle (Seeking stand) = false
is_idle (Holding place) = false

abbrev pub is_seeking : State → Bool
is_seeking Idle = false
is_seeking (Seeking stand) = true
is_seeking (Holding place) = false

abbrev pub is_holding : State → Bool
is_holding Idle = false
is_holding (Seeking stand) = false
is_holding (Holding place) = true

-- a task is out while it seeks or holds
abbrev pub is_out : State → Bool
is_out state = not (is_idle state)

-- a scan is at 0 ≤ h < N, only at 0 one-time; a clear is long-lived only
abbrev pub point_in_range : Settings → Point → Bool
point_in_range s WriteX = true
point_in_range s (Scan h) = ltb h (width s)
point_in_range s WriteMark = true
point_in_range s ReadX = true
point_in_range s (Clear direction) = eqb s.mode 1

-- seeking with r+c ≤ k-2, holding with r+c ≤ k-1
abbrev pub stand_in_range : Settings → Stand → Bool
stand_in_range s stand = leb (stand.r + stand.c + 2) s.k && point_in_range s stand.point

abbrev pub place_in_range : Settings → Place → Bool
place_in_range s place = leb (place.r + place.c + 1) s.k

abbrev pub state_in_range : Settings → State → Bool
state_in_range s Idle = true
state_in_range s (Seeking stand) = stand_in_range s stand
state_in_range s (Holding place) = place_in_range s place

-- the turns used: below the bound while the task seeks, at most the bound while it holds, none while it is idle
abbrev pub turns_in_range : Settings → State → ℕ → Bool
turns_in_range s Idle turns = eqb turns 0
turns_in_range s (Seeking stand) turns = ltb turns (bound s)
turns_in_range s (Holding place) turns = leb turns (bound s)

abbrev pub record_in_range : Settings → Record → Bool
record_in_range s this = state_in_range s this.state && turns_in_range s this.state this.turns
