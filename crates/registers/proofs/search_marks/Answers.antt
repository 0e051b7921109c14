-- The mark at which the search stops is one of the needed ones, so it is the definition's first above 1; at the end of
-- all blocks there is none.
use Rattle.std.proofs.Common.{◌≡◌, ◌∙◌, ◌+◌, ◌*◌, ◌<◌, arith}
use Rattle.demands.specs.Memory.{marks_needed}
use Rattle.registers.proofs.Finding.{stops_at_first, stops_at_none, block_within}
use Rattle.registers.proofs.search_marks.Goals as goal

pub returns-then-marks-i-gt1 : goal.returns-then-marks-i-gt1
returns-then-marks-i-gt1 c =
    let s = c.args.s in
    let b = c.loop-block.block in
    let w = c.width-width.result in
    let n = c.blocks-blocks.result in
    let whole : n * w ≡ marks_needed s = rw (c.blocks-blocks.ensures, c.width-width.ensures) in
    let place : b * w + c.loop-place.place < n * w =
    block_within b w c.loop-place.place n c.loop-block-test.true c.loop-place-test.true in
    stops_at_first c.args.marks.now 1 (marks_needed s) _ (omega (arith, whole, place))
    c.loop-place.invariant c.if-marks-i-gt1.true

pub returns-after-loop-block : goal.returns-after-loop-block
returns-after-loop-block c =
    let s = c.args.s in
    let w = c.width-width.result in
    let whole : c.blocks-blocks.result * w ≡ marks_needed s = rw (c.blocks-blocks.ensures, c.width-width.ensures) in
    let last : c.loop-block.block ≡ c.blocks-blocks.result = omega arith in
    let low = rw last at c.loop-block.invariant in
    whole ∙ stops_at_none c.args.marks.now 1 (marks_needed s) (λ j l. low j (omega (arith, whole)))
