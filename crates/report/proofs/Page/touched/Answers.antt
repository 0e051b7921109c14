-- The five fields, one after another.
use Rattle.std.proofs.Common.{rules, arith, append_assoc}
use Rattle.report.proofs.Paging.{long, then, wider}
use Rattle.report.proofs.Page.touched.Goals as goal

pub returns : goal.returns
returns c =
    simp (
      append_assoc,
      c.letter_text.ensures.0,
      c.register_text.ensures.0,
      c.block_of-block.ensures,
      c.place_of-place.ensures,
    ) at
    (then (wider c.text.ensures 2 c.letter_text.ensures.1) 24 c.requires
    (λ more. then (wider c.labelled.ensures 7 (omega (arith, c.register_text.ensures.1))) 17 more
    (λ more. then c.labelled-2.ensures 11 more
    (λ more. then c.text-2.ensures 10 more (λ more. long c.number.ensures (search rules))))))
