-- The first line, piece by piece.
use Rattle.report.proofs.Paging.{then}
use Rattle.report.proofs.Page.put_grid.Goals as goal

pub returns : goal.returns
returns c =
    simp (c.from.ensures, c.from-2.ensures) at
    (then c.labelled.ensures 13 c.requires
    (λ more. then c.labelled-2.ensures 7 more (λ more. then c.labelled-3.ensures 1 more (λ more. c.line_feed.ensures))))
