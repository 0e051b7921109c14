-- The word `seeks`, and then the fields.
use Rattle.std.proofs.Common.{rules, arith}
use Rattle.report.proofs.Paging.{wider, then}
use Rattle.report.proofs.Page.told.Goals as goal

pub returns-in-Seeks : goal.returns-in-Seeks
returns-in-Seeks c =
    rw c.in-Seeks.is
    (wider (then c.text-in-Seeks.ensures 27 (search rules) (λ more. c.fields.ensures)) 38 (omega arith))
