-- The text and the name, and then the fields.
use Rattle.std.proofs.Common.{◌+◌, length, arith, rules, append_assoc}
use Rattle.report.proofs.Paging.{wider, then}
use Rattle.report.proofs.Page.named.Goals as goal

pub returns : goal.returns
returns c =
    simp append_assoc at
    (wider (then c.labelled.ensures 27 (search rules) (λ more. c.fields.ensures)) (length c.args.label.now + 32)
    (omega arith))
