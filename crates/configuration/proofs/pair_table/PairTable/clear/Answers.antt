use Rattle.std.proofs.Common.{◌∙◌, ap, length, slice_index_or}
use Rattle.std.proofs.lemmas.List.{length-replicate}
use Rattle.configuration.specs.PairTable.{place_of}
use Rattle.configuration.proofs.PairTables.{zero-there}
use Rattle.configuration.proofs.pair_table.PairTable.clear.Goals as goal

pub invariant_of-self : goal.invariant_of-self
invariant_of-self g c = ap length c.write_zeros.ensures ∙ length-replicate (length c.self.inside.values.items) 0 ∙ c.self.invariant

pub returns-clause-zeros : goal.returns-clause-zeros
returns-clause-zeros g c = λ u v.
    ap (λ xs. slice_index_or xs (place_of c.self.inside.nodes u v) 0) c.write_zeros.ensures
    ∙ zero-there (length c.self.inside.values.items) (place_of c.self.inside.nodes u v)
