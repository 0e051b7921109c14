-- A new supervisor keeps: its rows are long enough and its records idle, so setup is accepted.
use Rattle.std.proofs.lemmas.Grind.{merely}
use Rattle.supervisor.proofs.Keeping.{begun}
use Rattle.supervisor.proofs.Desk.begin.Goals as goal

pub invariant_of-desk : goal.invariant_of-desk
invariant_of-desk c = record {
  kept = merely (begun _ _ (rw (c.board.ensures, c.idle_records-records.ensures) at c.setup-answer.ensures));
}
