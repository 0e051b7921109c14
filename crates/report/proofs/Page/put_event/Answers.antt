-- An event's line, piece by piece.
use Rattle.std.proofs.Common.{arith, append_assoc}
use Rattle.report.proofs.Paging.{then, wider, short}
use Rattle.report.proofs.Page.put_event.Goals as goal

pub returns : goal.returns
returns c =
    simp (append_assoc, c.kind_text.ensures.0) at
    (then (short c.number.ensures c.from.ensures c.ranges.position.fits) 51 c.requires
    (λ more. then c.text.ensures 50 more
    (λ more. then (wider c.labelled.ensures 10 (omega (arith, c.kind_text.ensures.1))) 40 more
    (λ more. then c.text-2.ensures 39 more
    (λ more. then c.answer.ensures 1 more (λ more. c.line_feed.ensures))))))
