-- `search_marks` stops at the first mark above 1: everything passed, block by block and place by place, is at most 1.
use Rattle.std.proofs.Common.{◌+◌, ◌*◌}
use Rattle.registers.proofs.Finding.{Low}
use Rattle.registers.proofs.search_marks.Given as goal

abbrev pub invariant-loop-place : goal.invariant-loop-place
invariant-loop-place l = Low l.marks 1 (l.block * l.width + l.place)

abbrev pub invariant-loop-block : goal.invariant-loop-block
invariant-loop-block l = Low l.marks 1 (l.block * l.width)
