-- What is called is setup, or the call of its event.
use Rattle.calls.proofs.Making.{setup_made, event_made}
use Rattle.calls.proofs.make.Goals as goal

pub returns-in-Setup : goal.returns-in-Setup
returns-in-Setup c = setup_made c.args.s c.args.call _ _ c.in-Setup.is c.setup_of.ensures

pub returns-in-Of : goal.returns-in-Of
returns-in-Of c = event_made c.args.s c.args.call _ _ c.in-Of.event c.in-Of.is c.step_of.ensures
