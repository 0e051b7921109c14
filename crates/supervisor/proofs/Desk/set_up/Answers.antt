-- A setup started again keeps: accepted it reaches anew, declined it changes nothing, and it writes no record.
use Rattle.supervisor.proofs.Keeping.{set_up_again}
use Rattle.supervisor.proofs.Desk.set_up.Goals as goal

pub invariant_of-self : goal.invariant_of-self
invariant_of-self c = record {
  kept = set_up_again c.args.self.now.kept _ _ (rw c.board.ensures at c.setup.ensures);
}
