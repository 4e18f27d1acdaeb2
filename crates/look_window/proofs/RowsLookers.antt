-- Lookers that were shown a line, or a part of it, and some that were not.
use Rattle.std.proofs.Common.{◌≡◌, ℕ, true, false, List, [], ◌∷◌, Option, Some, map, take, codes, refl, inl, arith}
use Rattle.std.proofs.lemmas.Bool.Decides.{nat_tests}
use Rattle.node_connections.specs.socket_links.Counts.{Counts}
use Rattle.node_connections.specs.socket_links.declared.pipe.WriteAnswer.TheVariants.{Wrote, Later, Failed}
use Rattle.look_window.specs.Lookers.{IsShown, is_whole}

-- all bytes of a line are three
whole : map (λ count. is_whole (Wrote count) (codes "ab\n")) (2 ∷ 3 ∷ []) ≡ false ∷ true ∷ []
whole = refl

whole_not-later : is_whole Later (codes "ab\n") ≡ false
whole_not-later = refl

module _ {P : Type 0} (took : P → Option (List ℕ)) (counts : P → Counts) (old new : P) where
  shown-whole : took old ≡ Some [] → took new ≡ Some (codes "ab\n") → counts new ≡ counts old
      → IsShown took counts (codes "ab\n") old new true
  shown-whole before after same =
      (Wrote 3, (omega arith, omega arith, rw (before, after) refl, rw same (omega arith, omega arith, omega arith)), refl)

  -- a part is said to be no whole line
  shown-part : took old ≡ Some [] → took new ≡ Some (codes "a") → counts new ≡ counts old → IsShown took counts (codes "ab\n") old new false
  shown-part before after same =
      (Wrote 1, (omega arith, omega arith, rw (before, after) refl, rw same (omega arith, omega arith, omega arith)), refl)

  shown-later : took new ≡ took old → counts old ≡ record { later = 1; closed = 0; failed = 0 }
      → counts new ≡ record { later = 2; closed = 0; failed = 0 } → IsShown took counts (codes "ab\n") old new false
  shown-later same before after =
      (Later, (same, rw (before, after) (omega arith, omega arith, omega arith), rw (before, after) (inl (omega arith))), refl)

  -- a part is not the whole line
  shown_not-whole : took old ≡ Some [] → took new ≡ Some (codes "a") → ¬ IsShown took counts (codes "ab\n") old new true
  shown_not-whole before after (Wrote count, writes, whole) =
      let all : count ≡ 3 = grind (arith, nat_tests, whole) in
      let goes : ◌≡◌ {A = Option (List ℕ)} (Some (codes "a")) (Some (take count (codes "ab\n"))) = rw (before, after) at writes.2 in
      let e : ◌≡◌ {A = Option (List ℕ)} (Some (codes "a")) (Some (codes "ab\n")) = rw all at goes in
      absurd cc
  shown_not-whole before after (Later, writes, whole) = absurd cc
  shown_not-whole before after (Failed, writes, whole) = absurd cc

  -- nor is the line written twice
  shown_not-twice : took old ≡ Some [] → took new ≡ Some (codes "a\na\n") → ¬ IsShown took counts (codes "a\n") old new true
  shown_not-twice before after (Wrote count, writes, whole) =
      let all : count ≡ 2 = grind (arith, nat_tests, whole) in
      let goes : ◌≡◌ {A = Option (List ℕ)} (Some (codes "a\na\n")) (Some (take count (codes "a\n"))) = rw (before, after) at writes.2 in
      let e : ◌≡◌ {A = Option (List ℕ)} (Some (codes "a\na\n")) (Some (codes "a\n")) = rw all at goes in
      absurd cc
  shown_not-twice before after (Later, writes, whole) = absurd cc
  shown_not-twice before after (Failed, writes, whole) = absurd cc
