-- The last line, piece by piece.
use Rattle.std.proofs.Common.{rules}
use Rattle.report.proofs.Paging.{then, long}
use Rattle.report.proofs.Page.put_end.Goals as goal

pub returns : goal.returns
returns c =
    then c.labelled.ensures 18 c.requires
    (λ more. then c.labelled-2.ensures 12 more
    (λ more. then c.text.ensures 11 more
    (λ more. then (long c.number.ensures (search rules)) 1 more (λ more. c.line_feed.ensures))))
