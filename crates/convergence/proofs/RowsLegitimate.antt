-- Two nodes and links of capacity 1: the token ring after the first rounds, a legitimate world,
-- and worlds that fail in just one way each.
use Rattle.std.proofs.Common.{◌≡◌, ℕ, List, [], ◌∷◌, IsTrue, ◌==◌, ◌&&◌, refl, ap, inl, arith, rules}
use Rattle.std.proofs.lemmas.Bool.{false≢true}
use Rattle.std.specs.Prelude.{if◌then◌else◌}
use Rattle.topology.specs.declared.frame.Payload.{Payload}
use Rattle.tree_convergence.specs.link_model.declared.item.Item.{Item}
use Rattle.tree_convergence.specs.link_model.declared.item.Item.TheVariants.{Frame}
use Rattle.tree_convergence.specs.lock_desk.Desk.{DeskState, no_desk}
use Rattle.run_model.specs.World.{World}
use Rattle.run_model.specs.Tree.{IsTreeReached}
use Rattle.run_model.specs.Links.{AreLinksStable}
use Rattle.run_model.specs.Privilege.{is_privileged, is_lending}
use Rattle.run_model.specs.NodeCounts.{lending_count}
use Rattle.run_model.specs.Headline.{IsServing}
use Rattle.run_model.proofs.RowsTwo.{two_nodes, node_with, shown, lending_desk, calm, calm-links_stable, calm-tree_reached, forged}
use Rattle.run_model.proofs.RowsServing.{each-distance, each-some_parent, each-parent, one-of_two}
use Rattle.run_model.proofs.RowsRound.{after}
use Rattle.convergence.specs.Ring.{token_ring, IsTokenRingGood}
use Rattle.convergence.specs.Legitimate.{IsLegitimate}

-- ---- the first rounds

-- the values: node 0's machine, what is staged for 1, 1's copy; 1's machine, what is staged for 0,
-- 0's copy
ring-after_four : token_ring (after 4) ≡ (1 ∷ 1 ∷ 1 ∷ 1 ∷ 1 ∷ 1 ∷ [])
ring-after_four = refl

ring-after_five : token_ring (after 5) ≡ (2 ∷ 2 ∷ 1 ∷ 1 ∷ 1 ∷ 1 ∷ [])
ring-after_five = refl

ring-after_six : token_ring (after 6) ≡ (2 ∷ 2 ∷ 2 ∷ 1 ∷ 1 ∷ 1 ∷ [])
ring-after_six = refl

ring-after_seven : token_ring (after 7) ≡ (2 ∷ 2 ∷ 2 ∷ 2 ∷ 2 ∷ 2 ∷ [])
ring-after_seven = refl

-- ---- legitimate worlds, and others

-- if all ring values are 0 and nobody lends
pub calm-is_legitimate : IsLegitimate calm
calm-is_legitimate = record {
  links = calm-links_stable;
  tree = calm-tree_reached;
  ring = inl (refl, inl (refl, inl (refl, inl (refl, inl (refl, inl (refl, tt))))));
  desks = λ v l lends. absurd cc;
}

-- node 1's machine has a different value
forged-ring : token_ring forged ≡ (0 ∷ 0 ∷ 0 ∷ 1 ∷ 0 ∷ 0 ∷ [])
forged-ring = refl

ring-not_good : ¬ IsTokenRingGood forged
ring-not_good h = grind arith

pub forged-not_legitimate : ¬ IsLegitimate forged
forged-not_legitimate l = ring-not_good l.ring

-- node 0's machine has the value 0, and node 1 has not yet copied it: its own values are all x
abbrev before_zero : ℕ → World
before_zero x = record {
  net = two_nodes;
  spares = 0;
  node = λ v. if v == 0 then node_with 0 no_desk 0 0 x else node_with 1 no_desk x x 0;
  link = calm.link;
}

-- two nodes have the ring values 0 to 6, so 6 is one less than 0
ring-good_across_zero : (token_ring (before_zero 6) ≡ (0 ∷ 0 ∷ 0 ∷ 6 ∷ 6 ∷ 6 ∷ [])) × IsTokenRingGood (before_zero 6)
ring-good_across_zero = (refl, search rules)

-- and 5 is not
ring-not_good_two_less : ¬ IsTokenRingGood (before_zero 5)
ring-not_good_two_less h = grind arith

-- a world with other desks and links, whose tree is reached all the same
abbrev pub like_calm : (ℕ → DeskState) → (ℕ → ℕ → List Item) → World
like_calm desk link = record { net = two_nodes; spares = 0; node = λ v. node_with v (desk v) 0 0 0; link = link }

pub reached-like_calm : (desk : ℕ → DeskState) (link : ℕ → ℕ → List Item) → IsTreeReached (like_calm desk link)
reached-like_calm desk link = record {
  distance = calm-tree_reached.distance;
  parent = calm-tree_reached.parent;
  staged = λ v u j. let p = calm-tree_reached.staged v u j in record { distance = p.distance; parent = p.parent };
  copied = λ v u j. let p = calm-tree_reached.copied v u j in record { distance = p.distance; parent = p.parent };
}

-- ---- not legitimate, only because of its loans

-- node 1 lends, and only node 0 is privileged
abbrev unprivileged : World
unprivileged = like_calm (λ v. if v == 0 then no_desk else lending_desk) (λ u v. [])

unprivileged-links_stable : AreLinksStable unprivileged
unprivileged-links_stable = calm-links_stable

unprivileged-tree_reached : IsTreeReached unprivileged
unprivileged-tree_reached = reached-like_calm (λ v. if v == 0 then no_desk else lending_desk) unprivileged.link

unprivileged-ring_good : IsTokenRingGood unprivileged
unprivileged-ring_good = calm-is_legitimate.ring

unprivileged-not_legitimate : ¬ IsLegitimate unprivileged
unprivileged-not_legitimate l = false≢true (l.desks 1 (omega arith) refl)

-- it serves all the same: at most one is privileged, and at most one lends
unprivileged-serves : IsServing unprivileged
unprivileged-serves = record {
  distances = each-distance;
  no_parent = refl;
  some_parent = each-some_parent;
  parents = each-parent;
  one_privileged = one-of_two (λ v. IsTrue (is_privileged unprivileged v)) (λ a b. false≢true b);
  one_lending = one-of_two (λ v. IsTrue (is_lending unprivileged v)) (λ a b. false≢true a);
}

-- ---- not legitimate, only because of its links

-- a frame is under way to node 1 with the number of node 0's port, and a ring value that node 0 has
-- not staged
abbrev pub late : World
late = like_calm (λ v. no_desk) (λ u v. if (u == 0) && (v == 1) then Frame (record { seq = 0; ack = 0; payload = shown 0 3 }) ∷ [] else [])

late-tree_reached : IsTreeReached late
late-tree_reached = reached-like_calm (λ v. no_desk) late.link

late-ring_good : IsTokenRingGood late
late-ring_good = calm-is_legitimate.ring

late-lends_not : lending_count late ≡ 0
late-lends_not = refl

pub late-links_not_stable : ¬ AreLinksStable late
late-links_not_stable links = let same = ap (λ (p : Payload). p.ring) (links 0 1 refl).out.0 in absurd (omega (arith, same))

late-not_legitimate : ¬ IsLegitimate late
late-not_legitimate l = late-links_not_stable l.links
