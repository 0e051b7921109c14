-- A call looks at the task's record alone to learn which register it touches, makes that one access, and hands the
-- value read to the record: `next` sees no memory. What is touched and what comes next on a grid is in `Grid`.
use Rattle.std.specs.Prelude.{Bool, true, false, Option, None, Some, ℕ, ◌+◌}
use Rattle.machine.specs.Grid.{point_access, cell_access, arrive, point_turned}
use Rattle.machine.specs.declared.{Settings.Settings, Record.Record}
use Rattle.machine.specs.declared.{State.{State, TheVariants.{Idle, Seeking, Holding}}, Stand.Stand, Place.Place}
use Rattle.machine.specs.declared.{Register.Register, Op.{Op, TheVariants.{Read, Write}}}
use Rattle.machine.specs.declared.{Access.Access, Letter.{Letter, TheVariants.{R, W}}}
use Rattle.machine.specs.declared.Shown.{Shown}
use Rattle.machine.specs.declared.Kind.{Kind, TheVariants.{Ask, Turn, Release}}

-- ---- which register a call touches

-- by where a seeking task stands, and by what a holding task gives up
abbrev pub stand_access : Settings → ℕ → Stand → Option Access
stand_access s p stand = point_access s p stand.r stand.c stand.point

abbrev pub place_access : Settings → ℕ → Place → Option Access
place_access s p place = cell_access s p place.r place.c

-- a turn makes the access of its stand; a task that does not seek has none to make
abbrev pub turn_access : Settings → ℕ → State → Option Access
turn_access s p Idle = None
turn_access s p (Seeking stand) = stand_access s p stand
turn_access s p (Holding place) = None

-- a release makes the access of its place
abbrev pub release_access : Settings → ℕ → State → Option Access
release_access s p Idle = None
release_access s p (Seeking stand) = None
release_access s p (Holding place) = place_access s p place

abbrev pub access : Settings → Kind → ℕ → State → Option Access
access s Ask p state = None
access s Turn p state = turn_access s p state
access s Release p state = release_access s p state

-- ---- the one access

-- an operation reads, or it writes
abbrev pub op_reads : Op → Bool
op_reads Read = true
op_reads (Write v) = false

abbrev pub op_writes : Op → Bool
op_writes Read = false
op_writes (Write v) = true

-- what an operation sees of a register with the value `old`, 0 where it does not read; and what it leaves there
abbrev pub seen : Op → ℕ → ℕ
seen Read old = old
seen (Write v) old = 0

abbrev pub left : Op → ℕ → ℕ
left Read old = old
left (Write v) old = v

-- a register that is shown, with a value read or written
abbrev pub show : Letter → Register → ℕ → Option Shown
show letter register value = Some (record { letter = letter; register = register; value = value })

-- what an answer shows of an access that saw v: the value read, or the value written
abbrev pub op_shown : Op → Register → ℕ → Option Shown
op_shown Read register v = show R register v
op_shown (Write w) register v = show W register w

abbrev pub shown_by : Option Access → ℕ → Option Shown
shown_by None v = None
shown_by (Some access) v = op_shown access.op access.register v

-- ---- the next record

-- where a task comes from its stand, where v is the value read
abbrev pub stand_turned : Settings → ℕ → Stand → ℕ → State
stand_turned s p stand v = point_turned s p stand.r stand.c stand.point v

abbrev pub turned : Settings → ℕ → State → ℕ → State
turned s p Idle v = Idle
turned s p (Seeking stand) v = stand_turned s p stand v
turned s p (Holding place) v = Holding place

-- where a task begins: an ask comes to (0, 0) [5.1], which with k = 1 is the edge
abbrev pub begin : Settings → State
begin s = arrive s 0 0

-- a release leaves the task idle
abbrev pub next : Settings → Kind → ℕ → State → ℕ → State
next s Ask p state v = begin s
next s Turn p state v = turned s p state v
next s Release p state v = Idle

-- 02, P7: an ask begins to count turns, an accepted turn is one more, and a release has none
abbrev pub turns_after : Kind → State → ℕ → ℕ
turns_after Ask state turns = 0
turns_after Turn Idle turns = turns
turns_after Turn (Seeking stand) turns = turns + 1
turns_after Turn (Holding place) turns = turns
turns_after Release state turns = 0

-- the record that a call leaves, where v is the value read
abbrev pub next_record : Settings → Kind → ℕ → Record → ℕ → Record
next_record s kind p before v = record {
  state = next s kind p before.state v;
  turns = turns_after kind before.state before.turns;
}
