-- The text of a network that its kind names.
use Rattle.std.proofs.Common.{◌≡◌, ℕ, List, String, Global, Result, Ok, Err, IfOk, string_bytes, sym, subst}
use Rattle.std.specs.Prelude.{IfErr}
use Rattle.topology.specs.Network.{Network}
use Rattle.topology.specs.Accept.{IsAccepted}
use Rattle.topology.specs.Reading.{read_text}
use Rattle.topology.specs.Refusal.{values_of}
use Rattle.network_kinds.specs.Made.{values_for}
use Rattle.command_faults.specs.declared.fault.Fault.{Fault}
use Rattle.command_faults.specs.declared.fault.Fault.TheVariants.{Memory}
use Rattle.network_commands.specs.declared.network.WantedNetwork.{WantedNetwork}
use Rattle.network_commands.specs.Named.{IsTextOf, IsUnnamed}

-- a text of the values of a kind's network reads as that network
pub named : (w : WantedNetwork) (text : List ℕ) (net : Network)
    → IsAccepted (values_for w.kind w.nodes w.root w.capacity w.lease) net
    → read_text text ≡ Ok (values_of net) → IsTextOf w text
named w text net accepted read = (
  net,
  accepted,
  (
    values_for w.kind w.nodes w.root w.capacity w.lease,
    subst (λ v. read_text text ≡ Ok v) accepted.same read,
    accepted,
  ),
)

pub named_if : {F : Type 0} (w : WantedNetwork) (net : Network) (r : Result (String Global) F)
    → IsAccepted (values_for w.kind w.nodes w.root w.capacity w.lease) net
    → IfOk r (λ text. read_text (string_bytes text) ≡ Ok (values_of net))
    → IfOk r (λ text. IsTextOf w (string_bytes text))
named_if w net (Ok text) accepted read = named w (string_bytes text) net accepted read
named_if w net (Err fault) accepted read = tt

-- memory that runs out may leave any network unnamed
pub unnamed_if : {X : Type 0} (w : WantedNetwork) (r : Result X Fault) → IfErr r (λ fault. fault ≡ Memory) → IfErr r (IsUnnamed w)
unnamed_if w (Ok text) refused = tt
unnamed_if w (Err fault) refused = subst (IsUnnamed w) (sym refused) tt
