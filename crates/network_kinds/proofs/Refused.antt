-- Values whose edges are those of a kind are refused as the kind's are.
use Rattle.std.proofs.Common.{◌≡◌, ◌∙◌, ℕ, List, map, ap, subst}
use Rattle.std.specs.Prelude.{Result, IfErr}
use Rattle.topology.specs.Network.{Edge}
use Rattle.topology.specs.Refusal.{Ends, as_ends}
use Rattle.topology.specs.Accept.{IsRefused}
use Rattle.topology.specs.declared.fault.NetFault.{NetFault}
use Rattle.network_kinds.specs.Made.{edges_of, values_for, values_with}
use Rattle.network_kinds.specs.declared.kind.Kind.{Kind}

pub refused_of : {X : Type 0} (r : Result X NetFault) (kind : Kind) (nodes root capacity lease : ℕ) (edges : List Edge) (ends : List Ends)
    → IfErr r (IsRefused (values_with nodes root capacity lease ends)) → ends ≡ map as_ends edges → edges ≡ edges_of kind nodes
    → IfErr r (IsRefused (values_for kind nodes root capacity lease))
refused_of r kind nodes root capacity lease edges ends refused named are =
    subst (λ es. IfErr r (IsRefused (values_with nodes root capacity lease es))) (named ∙ ap (map as_ends) are) refused
