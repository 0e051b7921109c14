-- The text, and then the number.
use Rattle.report.proofs.Paging.{short, then}
use Rattle.report.proofs.Page.labelled.Goals as goal

pub returns : goal.returns
returns c = then c.text.ensures 5 c.requires (λ more. short c.number.ensures c.from.ensures c.ranges.n.fits)
