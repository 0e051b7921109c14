-- A call keeps: the memory stays reached, and the channel's row follows what is told.
use Rattle.supervisor.proofs.Keeping.{served}
use Rattle.supervisor.proofs.Desk.serve.Goals as goal

pub invariant_of-self : goal.invariant_of-self
invariant_of-self c = record {
  kept = served c.args.self.now.kept c.args.kind c.args.channel.id c.args.channel.known _ _ _
      (rw c.board.ensures at c.step-answer.ensures) c.row_after.ensures;
}
