use Rattle.std.proofs.Common.{refl}
use Rattle.registers.proofs.Places.{registers-with_value, value_place, value_written}
use Rattle.registers.proofs.registers.Registers.write_value.Goals as goal

pub index_mut-requires : goal.index_mut-requires
index_mut-requires g c = value_place _ c.args.port c.self.inside.values.len c.self.invariant.1 (rw (← c.self.view_is) at c.requires.neighbour) c.self.inside.values.ok.0

pub invariant_of-self : goal.invariant_of-self
invariant_of-self g c =
    (c.self.invariant.0, registers-with_value _ c.args.port c.args.value c.self.invariant.1 (rw (← c.self.view_is) at c.requires.neighbour) (rw (← c.self.view_is) at c.requires.below))

pub returns-clause-value : goal.returns-clause-value
returns-clause-value g c =
    let near = rw (← c.self.view_is) at c.requires.neighbour in
    rw (← c.self.view_is) (value_written _ c.args.port c.args.value c.self.invariant.1 near)

pub returns-clause-rest : goal.returns-clause-rest
returns-clause-rest g c = rw (← c.self.view_is) refl
