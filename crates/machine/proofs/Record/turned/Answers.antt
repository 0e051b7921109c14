-- One turn more fits: a seeking record has used fewer turns than the bound, and the bound is small.
use Rattle.std.proofs.Common.{arith, rules}
use Rattle.machine.specs.Records.{state_in_range, turns_in_range}
use Rattle.counting.proofs.Bools.{and_r}
use Rattle.machine.proofs.refusals.Ranges.{seeks_below, bound_few}
use Rattle.machine.proofs.Record.turned.Goals as goal

pub overflow_add-result : goal.overflow_add-result
overflow_add-result c =
    let s = c.args.s in
    let self = c.args.self in
    let within = and_r (state_in_range s self.state) (turns_in_range s self.state self.turns) c.requires in
    omega (
      arith,
      seeks_below s self.state c.in-Seeking.stand self.turns within c.in-Seeking.is,
      bound_few s (search rules) (search rules),
    )
