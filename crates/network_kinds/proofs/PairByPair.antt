-- Pairs of nodes, written one after the other.
use Rattle.std.proofs.Common.{◌≡◌, ◌∙◌, ℕ, ◌+◌, List, [], ◌∷◌, ◌++◌, sym, append_assoc}
use Rattle.std.proofs.Math.Numerals.{add-one}
use Rattle.std.proofs.lemmas.List.{append-nil}
use Rattle.topology.specs.Network.{Edge}
use Rattle.network_kinds.specs.Kinds.{pairs, pairs_with}

pub pairs_start : (v : ℕ) (all : List Edge) → all ≡ pairs v → all ≡ pairs v ++ pairs_with v 0
pairs_start v all e = e ∙ sym (append-nil (pairs v))

pub pairs_more : (v u : ℕ) (all : List Edge) → all ≡ pairs v ++ pairs_with v u → all ++ (u, v) ∷ [] ≡ pairs v ++ pairs_with v (u + 1)
pairs_more v u all e = rw (add-one u, e) (append_assoc (pairs v) (pairs_with v u) ((u, v) ∷ []))

pub pairs_next : (v : ℕ) (all : List Edge) → all ≡ pairs v ++ pairs_with v v → all ≡ pairs (v + 1)
pairs_next v all e = rw (add-one v) e
