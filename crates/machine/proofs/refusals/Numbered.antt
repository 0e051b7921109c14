-- The number of each refusal, and the values beside it.
use mathlib.Core.{Path.{◌≡◌, refl}, List.[]}
use Prim.Native.Nat.{◌≤◌}
use native.Mathlib.Omega.{arith}
use Rattle.machine.specs.{RefusalNumbers.{refusal_said, number_of}, promises.Numbers.RefusalsNumbered}
use Rattle.machine.specs.declared.Refusal.{Refusal, TheVariants.{Limits, ShortRow, BusyRow, OutOfRange}}
use Rattle.machine.specs.declared.Refusal.TheVariants.{NoSuchTask, OneTime, TaskIdle, TaskSeeks, TaskHolds}
use Rattle.machine.specs.declared.Refusal.TheVariants.{TooManyOut, FileLength, Letters, Version, TooManyEvents}
use Rattle.machine.specs.declared.Refusal.TheVariants.{EventCode, NoEvent, ShortRoom}

-- a refusal has a number, nothing beside it unless that is 3, and it is not 6
pub refusal_says : (why : Refusal)
    → (1 ≤ number_of why) × ((number_of why ≡ 3 → ⊥) → (refusal_said why).values ≡ []) × (number_of why ≡ 6 → ⊥)
refusal_says Limits = (omega arith, λ other. refl, λ six. omega arith)
refusal_says ShortRow = (omega arith, λ other. refl, λ six. omega arith)
refusal_says BusyRow = (omega arith, λ other. refl, λ six. omega arith)
refusal_says (OutOfRange row index) = (omega arith, λ other. absurd (other refl), λ six. omega arith)
refusal_says NoSuchTask = (omega arith, λ other. refl, λ six. omega arith)
refusal_says OneTime = (omega arith, λ other. refl, λ six. omega arith)
refusal_says TaskIdle = (omega arith, λ other. refl, λ six. omega arith)
refusal_says TaskSeeks = (omega arith, λ other. refl, λ six. omega arith)
refusal_says TaskHolds = (omega arith, λ other. refl, λ six. omega arith)
refusal_says TooManyOut = (omega arith, λ other. refl, λ six. omega arith)
refusal_says FileLength = (omega arith, λ other. refl, λ six. omega arith)
refusal_says Letters = (omega arith, λ other. refl, λ six. omega arith)
refusal_says Version = (omega arith, λ other. refl, λ six. omega arith)
refusal_says TooManyEvents = (omega arith, λ other. refl, λ six. omega arith)
refusal_says EventCode = (omega arith, λ other. refl, λ six. omega arith)
refusal_says NoEvent = (omega arith, λ other. refl, λ six. omega arith)
refusal_says ShortRoom = (omega arith, λ other. refl, λ six. omega arith)

pub refusals_numbered : RefusalsNumbered
refusals_numbered = record {
  limits = refl;
  short_row = refl;
  busy_row = refl;
  out_of_range = λ row index. refl;
  no_such_task = refl;
  one_time = refl;
  task_idle = refl;
  task_seeks = refl;
  task_holds = refl;
  too_many_out = refl;
  file_length = refl;
  letters = refl;
  version = refl;
  too_many_events = refl;
  event_code = refl;
  no_event = refl;
  short_room = refl;
  nothing_more = λ why. (refusal_says why).1;
  in_records = λ index. refl;
  in_xs = λ index. refl;
  in_marks = λ index. refl;
}
