use Rattle.world.proofs.simulation.state_text.Goals as goal

pub returns-in_default-clause-text : goal.returns-in_default-clause-text
returns-in_default-clause-text g c = rw c.configuration.ensures at c.in_default.ensures

pub returns-clause-text : goal.returns-clause-text
returns-clause-text g c = rw c.configuration.ensures at c.in-Ok.ensures
