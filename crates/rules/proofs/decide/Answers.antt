-- An accepted call makes the one access of its record, which is of a needed register (`seen_passed`), and the value
-- read gives the next record, which is in range.
use Rattle.std.proofs.Common.{rules}
use Rattle.registers.specs.Touching.{rows}
use Rattle.rules.proofs.Accepting.{seen_passed, touch_needed, touch_writable, next_in_range}
use Rattle.rules.proofs.decide.Goals as goal

pub touch-v-requires : goal.touch-v-requires
touch-v-requires c =
    let a = c.args in
    let before = rows a.xs.now a.marks.now in
    let ok = seen_passed a.s a.event.kind a.event.task.0 a.seen before c.requires (search rules) in
    let is = c.access-access.ensures in
    (ok.limits, touch_needed ok _ is, touch_writable ok _ is, ok.long.xs, ok.long.marks)

pub told-requires : goal.told-requires
told-requires c =
    let a = c.args in
    let before = rows a.xs.now a.marks.now in
    let ok = seen_passed a.s a.event.kind a.event.task.0 a.seen before c.requires (search rules) in
    let good = next_in_range ok _ c.access-access.ensures _ _ _ c.touch-v.ensures c.next-own.ensures in
    (ok.limits, ok.state_good, good)
