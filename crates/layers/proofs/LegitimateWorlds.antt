-- A world is legitimate if each of its layers stands.
use Rattle.std.proofs.Common.{◌≡◌, ◌∙◌, ◌↔◌, ◌==◌, ◌&&◌, sym, refl, subst, ℕ, Bool, true, false, IsTrue, length, arith}
use Rattle.std.proofs.lemmas.Bool.Decides.{nat_tests}
use Rattle.topology.specs.Network.{IsAcceptedNetwork}
use Rattle.topology.specs.Laws.{NeighboursAreJoined, JoinedAreNodes}
use Rattle.configuration.specs.run_model.World.{World}
use Rattle.configuration.specs.run_model.Tree.{IsTreeReached}
use Rattle.convergence.specs.Ring.{IsTokenRingGood}
use Rattle.convergence.specs.Legitimate.{IsLegitimate}
use Rattle.layers.specs.Links.{AreSuch, IsLinkStable, links_of}
use Rattle.layers.specs.LayersOf.{AreLoansPrivileged}
use Rattle.layers.proofs.Counts.{such-all, all-such, links-each, each-links}

both : (a b : Bool) → IsTrue (a && b) → IsTrue a × IsTrue b
both true b holds = (refl, holds)
both false b holds = absurd (grind (arith, holds))

join : (a b : Bool) → IsTrue a → IsTrue b → IsTrue (a && b)
join true b first second = second
join false b first second = absurd (grind (arith, first))

same-is : (a b : ℕ) → IsTrue (a == b) → a ≡ b
same-is a b holds = grind (arith, nat_tests, holds)

is-same : (a b : ℕ) → a ≡ b → IsTrue (a == b)
is-same a b same = grind (arith, nat_tests, same)

module _ (joined : NeighboursAreJoined) (ends : JoinedAreNodes) (w : World) (accepted : IsAcceptedNetwork w.net) (stable links : ℕ)
    (counted : AreSuch (IsLinkStable w) (links_of w.net) stable) (all : links ≡ length (links_of w.net)) where
  pub layers-legitimate : stable ≡ links → IsTreeReached w → IsTokenRingGood w → AreLoansPrivileged w → IsLegitimate w
  layers-legitimate same tree ring loans = record {
    links = links-each joined ends w.net accepted (IsLinkStable w) (such-all (IsLinkStable w) counted (same ∙ all));
    tree = tree;
    ring = ring;
    desks = loans;
  }

  pub legitimate-links : IsLegitimate w → stable ≡ links
  legitimate-links legitimate =
      all-such (IsLinkStable w) counted (each-links joined ends w.net accepted (IsLinkStable w) legitimate.links) ∙ sym all

  -- all four tests hold exactly if the world is legitimate
  pub stands-legitimate : (all_stand tree ring loans : Bool) → all_stand ≡ ((stable == links) && (tree && (ring && loans)))
      → IsTrue tree ↔ IsTreeReached w → IsTrue ring ↔ IsTokenRingGood w → IsTrue loans ↔ AreLoansPrivileged w
      → IsTrue all_stand ↔ IsLegitimate w
  stands-legitimate all_stand tree ring loans is of_tree of_ring of_loans = (
    λ holds.
        let first = both (stable == links) (tree && (ring && loans)) (sym is ∙ holds) in
        let second = both tree (ring && loans) first.1 in
        let third = both ring loans second.1 in
        layers-legitimate (same-is stable links first.0) (of_tree.0 second.0) (of_ring.0 third.0) (of_loans.0 third.1),
    λ legitimate. is ∙ join (stable == links) (tree && (ring && loans)) (is-same stable links (legitimate-links legitimate))
        (join tree (ring && loans) (of_tree.1 legitimate.tree) (join ring loans (of_ring.1 legitimate.ring) (of_loans.1 legitimate.desks))),
  )
