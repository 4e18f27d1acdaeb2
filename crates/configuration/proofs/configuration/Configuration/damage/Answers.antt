use Rattle.configuration.proofs.configuration.Configuration.damage.Goals as goal

pub returns-in-Join : goal.returns-in-Join
returns-in-Join g c = rw c.in-Join.is c.join.ensures

pub returns-in-Part : goal.returns-in-Part
returns-in-Part g c = rw c.in-Part.is c.part.ensures
