-- The row that a channel has is in the table, so it needs no test; and no other channel has it.
use Rattle.std.proofs.Common.{refl}
use Rattle.supervisor.proofs.Keeping.{in_table, changed, others_changed}
use Rattle.supervisor.proofs.Desk.change_row.Goals as goal

pub bounds-self-name : goal.bounds-self-name
bounds-self-name g c = in_table c.args.self.now c.args.channel.id c.in-Some.name c.args.channel.known c.in-Some.is

pub invariant_of-self : goal.invariant_of-self
invariant_of-self g c = record { kept = changed _ _ c.args.self.now.kept }

pub returns-in-Some : goal.returns-in-Some
returns-in-Some g c =
    others_changed c.args.self.now _ c.args.channel.id c.in-Some.name _ c.args.channel.known c.in-Some.is refl refl
