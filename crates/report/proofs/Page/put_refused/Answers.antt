-- The one line of a file that does not open.
use Rattle.report.proofs.Paging.{then}
use Rattle.report.proofs.Page.put_refused.Goals as goal

pub returns : goal.returns
returns c =
    rw c.number.ensures at (then c.labelled.ensures 1 c.requires (λ more. c.line_feed.ensures))
