-- Every desk has the rows apart.
use Rattle.supervisor.proofs.Keeping.{desk_apart}
use Rattle.supervisor.proofs.Desk.run.Goals as goal

pub returns : goal.returns
returns c = desk_apart _
