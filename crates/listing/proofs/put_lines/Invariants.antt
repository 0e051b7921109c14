-- The run stands where the definition's progress is after so many events, the page has its lines, and the reader is at
-- the next event.
use Rattle.std.proofs.Common.{◌≡◌}
use Rattle.listing.proofs.Running.{Stands}
use Rattle.listing.proofs.put_lines.Given as goal

abbrev pub invariant-loop-position : goal.invariant-loop-position
invariant-loop-position l = record {
  stands : Stands l.fn.opened.settings l.fn.file l.position l.fn.page l.run l.page;
  of_file : l.reader.file.now ≡ l.fn.file;
  at : l.reader.at ≡ l.position;
}
