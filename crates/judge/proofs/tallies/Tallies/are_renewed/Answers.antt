use Rattle.std.proofs.Common.{sym, ◌∙◌}
use Rattle.judge.specs.Tallies.{TalliesView}
use Rattle.judge.proofs.TallyCounts.{zero-is_renewed, renewed-is_zero, is-zero, zero-is}
use Rattle.judge.proofs.tallies.Tallies.are_renewed.Goals as goal

pub returns : goal.returns
returns g c =
    let t : TalliesView = record { table = c.self.inside.table; places = c.self.inside.places.items; looked = c.self.inside.looked } in
    rw (← c.self.view_is) (
      (λ none. zero-is_renewed t (sym c.self.invariant.few ∙ is-zero c.self.inside.unrenewed none)),
      (λ all. zero-is c.self.inside.unrenewed (c.self.invariant.few ∙ renewed-is_zero t c.self.inside.unrenewed c.self.invariant all)),
    )
