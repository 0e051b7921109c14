-- The rows of a new run are the largest memory.
use Rattle.std.proofs.Common.{refl}
use Rattle.listing.proofs.Running.{fresh_rows}
use Rattle.listing.proofs.Run.fresh.Goals as goal

pub returns : goal.returns
returns c = record {
  settings = refl;
  memory = fresh_rows _ _ _ c.idle_records.ensures refl refl;
  peak = refl;
  most = refl;
}
