-- Small examples of what is said of a network file, and some with nothing to say.
use Rattle.std.proofs.Common.{◌≡◌, ℤ, pos, [], ◌∷◌, ◌++◌, Some, None, codes, refl, append_assoc}
use Rattle.std.specs.Fmt.{signed_decimal}
use Rattle.network_hints.specs.declared.key.Key.TheVariants.{Lease, Capacity}
use Rattle.network_hints.specs.declared.flaw.ValueFlaw.TheVariants.{NoKey, OutOfRange, NoNode, Loop, Twice}
use Rattle.network_hints.specs.HintText.{flaw_text}
use Rattle.network_hints.specs.Values.{range_flaw, edge_flaw}
use Rattle.network_hints.specs.Places.{place_after}

says-key : flaw_text (NoKey Lease) ≡ codes "no key 'lease'"
says-key = refl

says-loop : (node : ℤ) → flaw_text (Loop node) ≡ codes "key 'edges': edge [" ++ (signed_decimal node ++ (codes ", "
    ++ (signed_decimal node ++ codes "] joins a node with itself")))
says-loop node = simp append_assoc

says-twice : (one other : ℤ) → flaw_text (Twice one other) ≡ codes "key 'edges': edge [" ++ (signed_decimal one ++ (codes ", "
    ++ (signed_decimal other ++ codes "] is there twice")))
says-twice one other = simp append_assoc

says-node : (one other nodes : ℤ) → flaw_text (NoNode one other nodes) ≡ codes "key 'edges': in edge [" ++ (signed_decimal one
    ++ (codes ", " ++ (signed_decimal other ++ (codes "] one is none of " ++ (signed_decimal nodes ++ codes " nodes")))))
says-node one other nodes = simp append_assoc

finds-range : range_flaw Capacity (pos 0) (pos 1) (pos 4096) ≡ Some (OutOfRange Capacity (pos 0) (pos 1) (pos 4096))
finds-range = refl

finds_not-range : range_flaw Capacity (pos 1) (pos 1) (pos 4096) ≡ None
finds_not-range = refl

-- node 2 of two, before the edge from it to itself
finds-node : edge_flaw (pos 2) ((pos 0, pos 1) ∷ (pos 2, pos 2) ∷ []) ≡ Some (NoNode (pos 2) (pos 2) (pos 2))
finds-node = refl

finds-loop : edge_flaw (pos 3) ((pos 0, pos 1) ∷ (pos 2, pos 2) ∷ []) ≡ Some (Loop (pos 2))
finds-loop = refl

finds-twice : edge_flaw (pos 3) ((pos 0, pos 1) ∷ (pos 1, pos 2) ∷ (pos 1, pos 0) ∷ []) ≡ Some (Twice (pos 0) (pos 1))
finds-twice = refl

finds_not-edge : edge_flaw (pos 2) ((pos 0, pos 1) ∷ []) ≡ None
finds_not-edge = refl

-- after `a`, a newline and a character of two bytes
counts-place : place_after (97 ∷ 10 ∷ 195 ∷ 164 ∷ []) ≡ (2, 2)
counts-place = refl
