-- `clear` fills from the front: so far the first registers are clear and the rest is as it was.
use Rattle.std.proofs.Common.{◌≡◌}
use Rattle.demands.specs.Memory.{fill}
use Rattle.registers.proofs.clear.Given as goal

abbrev pub invariant-loop-register : goal.invariant-loop-register
invariant-loop-register g l =
    l.register-items ≡ fill l.register-index g.C.Content.CLEAR l.initial.register-items
