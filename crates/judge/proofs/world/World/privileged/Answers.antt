use Rattle.judge.proofs.world.World.privileged.Goals as goal

pub returns : goal.returns
returns g c = rw (← c.self.view_is) c.privileged.ensures
