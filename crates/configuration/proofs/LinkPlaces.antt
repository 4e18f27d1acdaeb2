-- What a changed link at one place does to all links.
use Rattle.std.proofs.Common.{refl, List, [], ◌∷◌, ◌∙◌, slice_index_or, ◌≡◌, ap, ℕ, ◌<◌, ◌≤◌, ◌⊎◌, inl, inr, arith, IsTrue, All, length, slice_set, if◌then◌else◌, ◌==◌, ◌&&◌}
use Rattle.std.proofs.Math.Path.{fun_ext}
use Rattle.std.proofs.lemmas.Grind.{common_steps}
use Rattle.std.proofs.lemmas.List.{length-set}
use Rattle.std.proofs.lemmas.List.Elements.{All-get_or, All-set}
use Rattle.topology.specs.Ranges.{ranges_of}
use Rattle.run_model.specs.link_model.Link.{LinkView, link}
use Rattle.run_model.specs.World.{item_fits, at_pair}
use Rattle.configuration.specs.LinksView.{LinksView, IsLinks, link_between, under_way}
use Rattle.configuration.specs.PairTable.{value_at}
use Rattle.configuration.proofs.Placing.{placed-set}
use Rattle.topology.specs.Network.{are_joined}

-- a list of length 0 is empty
none-of : {X : Type 0} (xs : List X) → length xs ≡ 0 → xs ≡ []
none-of [] none = refl
none-of (x ∷ xs) none = absurd (omega (arith, none))

-- the first link holds nothing
pub first-empty : (links : List LinkView) → 0 < length links → (slice_index_or links 0 (link 0 [])).capacity ≡ 0 → All (λ link. length link.items ≤ link.capacity) links
    → (slice_index_or links 0 (link 0 [])).items ≡ []
first-empty links some none within =
    let few : length (slice_index_or links 0 (link 0 [])).items ≤ (slice_index_or links 0 (link 0 [])).capacity =
    All-get_or (λ link. length link.items ≤ link.capacity) links 0 (link 0 []) some within in
    none-of (slice_index_or links 0 (link 0 [])).items (omega (arith, few, none))

-- the links with another one from u to v
abbrev pub with_link : LinksView → ℕ → ℕ → LinkView → LinksView
with_link l u v new = record l { links = slice_set l.links (value_at l.places u v) new }

module _ (l : LinksView) (u v : ℕ) (new : LinkView) (ok : IsLinks l) (un : u < l.net.nodes) (vn : v < l.net.nodes)
    (same : new.capacity ≡ (link_between l u v).capacity) (within : length new.items ≤ new.capacity) where
  there : value_at l.places u v < length l.links
  there = ok.placed.inside u v un vn

  -- a link is read at its own place
  read-one : (p : ℕ) → slice_index_or (slice_set l.links (value_at l.places u v) new) p (link 0 [])
      ≡ (if p == value_at l.places u v then new else slice_index_or l.links p (link 0 []))
  read-one p = let t = there in grind (arith, common_steps, t)

  -- the first link holds nothing, and neither does another one in its place
  nothing-first : (slice_index_or l.links 0 (link 0 [])).items ≡ []
  nothing-first = first-empty l.links (let t = there in omega (arith, t)) ok.placed.none ok.within

  nothing-new : value_at l.places u v ≡ 0 → new.items ≡ []
  nothing-new zero =
      let none : new.capacity ≡ 0 = same ∙ ap (λ p. (slice_index_or l.links p (link 0 [])).capacity) zero ∙ ok.placed.none in
      none-of new.items (omega (arith, within, none))

  -- what a link from i to j holds
  items-one : (i j : ℕ) → i < l.net.nodes → j < l.net.nodes
      → (link_between (with_link l u v new) i j).items ≡ (if (i == u) && (j == v) then new.items else (link_between l i j).items)
  items-one i j im jn =
      let read = read-one (value_at l.places i j) in
      let apart = ok.placed.apart u v i j un vn im jn in
      let first = nothing-first in
      let none = nothing-new in
      grind (arith, common_steps, read, apart, first, none)

  under-one : (i j : ℕ) → under_way (with_link l u v new) i j ≡ at_pair (under_way l) u v new.items i j
  under-one i j =
      let cases : ((i < l.net.nodes) × (j < l.net.nodes)) ⊎ ((l.net.nodes ≤ i) ⊎ (l.net.nodes ≤ j)) = grind arith in
      elim cases [
        | inl ends ↦ let one = items-one i j ends.0 ends.1 in let a = ends.0 in let b = ends.1 in grind (arith, common_steps, one, a, b)
        | inr (inl past) ↦ let a = un in grind (arith, common_steps, past, a)
        | inr (inr past) ↦ let a = vn in grind (arith, common_steps, past, a)
      ]

  pub under_way-with_link : under_way (with_link l u v new) ≡ at_pair (under_way l) u v new.items
  under_way-with_link = fun_ext (λ i. fun_ext (λ j. under-one i j))

  -- with a fitting link at its place, the links still fit
  pub links-with_link : All (λ item. IsTrue (item_fits (ranges_of l.net) item)) new.items → IsLinks (with_link l u v new)
  links-with_link fits = record {
    network = ok.network;
    placed = placed-set l.net (are_joined l.net.edges) l.places l.links l.spares u v new ok.placed un vn same;
    count = length-set l.links (value_at l.places u v) new ∙ ok.count;
    within = All-set (λ link. length link.items ≤ link.capacity) l.links (value_at l.places u v) new within ok.within;
    fits = All-set (λ link. All (λ item. IsTrue (item_fits (ranges_of l.net) item)) link.items) l.links (value_at l.places u v) new fits ok.fits;
  }
