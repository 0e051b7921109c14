-- Setup on fresh memory.
use Rattle.std.proofs.Common.{refl}
use Rattle.listing.proofs.Running.{fresh}
use Rattle.listing.proofs.Run.begin.Goals as goal

pub returns : goal.returns
returns c =
    let new = c.requires in record {
      settings = refl;
      memory = fresh c.args.self.now.settings _ _ c.setup.result new.memory c.setup.ensures;
      peak = new.peak;
      most = new.most;
    }
