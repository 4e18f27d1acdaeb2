-- What the calls of one link do to all links.
use Rattle.std.proofs.Common.{◌+◌, rules, ◌≡◌, ◌∙◌, ◌↔◌, sym, ap, subst, true, false, ℕ, ◌<◌, ◌≤◌, arith, refl, IsTrue, List, [], ◌∷◌, ◌++◌, All, length, slice_set, slice_index_or, suc, nat_lt, if◌then◌else◌, Result, Ok, Err, IsOk, OnOk, OnErr, remove, take, drop, slice_get, Option, Some, None, IfSome, IfNone}
use Rattle.std.proofs.Math.Path.{fun_ext}
use Rattle.std.proofs.lemmas.Grind.{common_steps}
use Rattle.std.proofs.lemmas.List.{length-append}
use Rattle.std.proofs.lemmas.List.Elements.{All-append, All-drop, All-get_or, All-nil, All-tail, All-take}
use Rattle.topology.specs.Network.{are_joined}
use Rattle.topology.specs.Ranges.{ranges_of}
use Rattle.run_model.specs.link_model.Link.{LinkView, link}
use Rattle.run_model.specs.link_model.declared.item.Item.{Item}
use Rattle.run_model.specs.World.{item_fits, at_pair}
use Rattle.configuration.specs.LinksView.{LinksView, IsLinks, link_between, under_way}
use Rattle.configuration.specs.PairTable.{value_at}
use Rattle.configuration.proofs.LinkPlaces.{under_way-with_link, links-with_link}

-- what holds for each item of a list holds for those that are left when one is lost
all-remove : {X : Type 0} (P : X → Type 0) (xs : List X) (i : ℕ) → All P xs → All P (remove xs i)
all-remove P xs i h = All-append P (take i xs) (drop (suc i) xs) (All-take P i xs h) (All-drop P (suc i) xs h)

fewer-items : (items : List Item) (i : ℕ) → length (remove items i) ≤ length items
fewer-items items i = grind (arith, common_steps)

-- the link from u to v is at place p, and is `old`
pub record IsAt (l : LinksView) (u v p : ℕ) (old : LinkView) : Type 0 where
  pub links : IsLinks l
  pub from_in : u < l.net.nodes
  pub to_in : v < l.net.nodes
  pub place : p ≡ value_at l.places u v
  pub value : old ≡ slice_index_or l.links p old

-- the link is where it was found
pub found-at : {l seen : LinksView} {u v p : ℕ} {old : LinkView} → l ≡ seen → IsLinks l → u < seen.net.nodes → v < seen.net.nodes
    → p ≡ value_at seen.places u v → old ≡ slice_index_or l.links p old → IsAt l u v p old
found-at {l} {seen} {u} {v} {p} {old} same links un vn place value = record {
  links = links;
  from_in = rw (← same) at un;
  to_in = rw (← same) at vn;
  place = rw (← same) at place;
  value = value;
}

module _ {l : LinksView} {u v p : ℕ} {old : LinkView} (h : IsAt l u v p old) where
  there : value_at l.places u v < length l.links
  there = h.links.placed.inside u v h.from_in h.to_in

  default-free : (xs : List LinkView) (i : ℕ) (a b : LinkView) → i < length xs → slice_index_or xs i a ≡ slice_index_or xs i b
  default-free xs i a b within = grind (arith, common_steps)

  pub between-is : link_between l u v ≡ old
  between-is =
      let same : slice_index_or l.links p old ≡ slice_index_or l.links (value_at l.places u v) old = ap (λ k. slice_index_or l.links k old) h.place in
      default-free l.links (value_at l.places u v) (link 0 []) old there ∙ sym (h.value ∙ same)

  pub under-is : under_way l u v ≡ old.items
  under-is = let b = between-is in let un = h.from_in in let vn = h.to_in in grind (arith, common_steps)

  pub within-is : length old.items ≤ old.capacity
  within-is = rw (← between-is) (All-get_or (λ link. length link.items ≤ link.capacity) l.links (value_at l.places u v) (link 0 []) there h.links.within)

  pub fits-is : All (λ item. IsTrue (item_fits (ranges_of l.net) item)) old.items
  fits-is = rw (← between-is) (All-get_or (λ link. All (λ item. IsTrue (item_fits (ranges_of l.net) item)) link.items) l.links (value_at l.places u v) (link 0 []) there h.links.fits)

  pub capacity-is : old.capacity ≡ (if are_joined l.net.edges u v then l.net.capacity else 0)
  capacity-is = ap (λ k. k.capacity) (sym between-is) ∙ h.links.placed.capacity u v h.from_in h.to_in

  -- the links, and what is under way, if the link at this place is now `new`
  pub now-links : (new : LinkView) → new.capacity ≡ old.capacity → length new.items ≤ new.capacity → All (λ item. IsTrue (item_fits (ranges_of l.net) item)) new.items
      → IsLinks (record l { links = slice_set l.links p new })
  now-links new same within fits =
      subst (λ k. IsLinks (record l { links = slice_set l.links k new })) (sym h.place)
      (links-with_link l u v new h.links h.from_in h.to_in (same ∙ ap (λ k. k.capacity) (sym between-is)) within fits)

  pub now-under : (new : LinkView) → new.capacity ≡ old.capacity → length new.items ≤ new.capacity
      → under_way (record l { links = slice_set l.links p new }) ≡ at_pair (under_way l) u v new.items
  now-under new same within =
      subst (λ k. under_way (record l { links = slice_set l.links k new }) ≡ at_pair (under_way l) u v new.items) (sym h.place)
      (under_way-with_link l u v new h.links h.from_in h.to_in (same ∙ ap (λ k. k.capacity) (sym between-is)) within)

  -- writing what is under way again changes nothing
  same-one : (i j : ℕ) → at_pair (under_way l) u v (under_way l u v) i j ≡ under_way l i j
  same-one i j = grind (arith, common_steps)

  pub same-under : at_pair (under_way l) u v old.items ≡ under_way l
  same-under = ap (λ xs. at_pair (under_way l) u v xs) (sym under-is) ∙ fun_ext (λ i. fun_ext (λ j. same-one i j))

  -- writing the same link again changes nothing
  now-same : (new : LinkView) → new ≡ old → under_way (record l { links = slice_set l.links p new }) ≡ under_way l
  now-same new is =
      now-under new (ap (λ k. k.capacity) is) (rw is within-is) ∙ ap (λ k. at_pair (under_way l) u v k.items) is ∙ same-under

  -- ---- an item is put

  put-room : (item : Item) (new : LinkView) → IsTrue (item_fits (ranges_of l.net) item) → length old.items < old.capacity
      → new ≡ link old.capacity (old.items ++ item ∷ []) → IsLinks (record l { links = slice_set l.links p new })
  put-room item new item-fits room is =
      rw is (now-links (link old.capacity (old.items ++ item ∷ [])) refl (grind (arith, common_steps, room))
      (All-append (λ item. IsTrue (item_fits (ranges_of l.net) item)) old.items (item ∷ []) fits-is (search (rules, item-fits))))

  pub put-links : {T E : Type 0} (r : Result T E) (item : Item) (new : LinkView) → IsTrue (item_fits (ranges_of l.net) item)
      → (IsOk r ↔ (length old.items < old.capacity)) → OnOk r (new ≡ link old.capacity (old.items ++ item ∷ [])) → OnErr r (new ≡ old)
      → IsLinks (record l { links = slice_set l.links p new })
  put-links (Ok x) item new item-fits iff ok err = put-room item new item-fits (iff.0 refl) ok
  put-links (Err x) item new item-fits iff ok err = rw err (now-links old refl within-is fits-is)

  full-capacity : IsTrue (are_joined l.net.edges u v) → old.capacity ≡ l.net.capacity
  full-capacity joined = let c = capacity-is in grind (arith, common_steps)

  -- what is under way after an item was put, with room and without
  abbrev pub under-put : Item → ℕ → ℕ → List Item
  under-put item = if nat_lt (length (under_way l u v)) l.net.capacity then at_pair (under_way l) u v (under_way l u v ++ item ∷ []) else under_way l

  under-room : (item : Item) (new : LinkView) → IsTrue (are_joined l.net.edges u v) → length old.items < old.capacity
      → new ≡ link old.capacity (old.items ++ item ∷ []) → under_way (record l { links = slice_set l.links p new }) ≡ under-put item
  under-room item new joined room is =
      let c = full-capacity joined in
      let w = under-is in
      let test : nat_lt (length (under_way l u v)) l.net.capacity ≡ true = grind (arith, common_steps, c, w, room) in
      let items : new.items ≡ under_way l u v ++ item ∷ [] = ap (λ k. k.items) is ∙ ap (λ xs. xs ++ item ∷ []) (sym w) in
      let same : new.capacity ≡ old.capacity = ap (λ k. k.capacity) is in
      let within : length new.items ≤ new.capacity = (let l = length-append old.items (item ∷ []) in rw is (omega (arith, room, l))) in
      rw test (now-under new same within ∙ ap (λ xs. at_pair (under_way l) u v xs) items)

  under-full : (item : Item) (new : LinkView) → IsTrue (are_joined l.net.edges u v) → ¬ (length old.items < old.capacity) → new ≡ old
      → under_way (record l { links = slice_set l.links p new }) ≡ under-put item
  under-full item new joined full is =
      let c = full-capacity joined in
      let w = under-is in
      let test : nat_lt (length (under_way l u v)) l.net.capacity ≡ false = grind (arith, common_steps, c, w, full) in
      rw test (now-same new is)

  pub put-under : {T E : Type 0} (r : Result T E) (item : Item) (new : LinkView) → IsTrue (are_joined l.net.edges u v)
      → (IsOk r ↔ (length old.items < old.capacity)) → OnOk r (new ≡ link old.capacity (old.items ++ item ∷ [])) → OnErr r (new ≡ old)
      → under_way (record l { links = slice_set l.links p new }) ≡ under-put item
  put-under (Ok x) item new joined iff ok err = under-room item new joined (iff.0 refl) ok
  put-under (Err x) item new joined iff ok err = under-full item new joined (λ room. let t = iff.1 room in absurd cc) err

  -- ---- an item is taken

  module _ (new : LinkView) where
    -- the link has lost its first item, or was and is empty
    abbrev pub IsTakenFrom : Option Item → Type 0
    IsTakenFrom (Some item) = old ≡ link new.capacity (item ∷ new.items)
    IsTakenFrom None = (old.items ≡ []) × (new ≡ old)

    pub take-from : (r : Option Item) → IfSome r (λ item. old ≡ link new.capacity (item ∷ new.items)) → IfNone r ((old.items ≡ []) × (new ≡ old)) → IsTakenFrom r
    take-from (Some item) some none = some
    take-from None some none = none

    take-same : (r : Option Item) → IsTakenFrom r → (new.capacity ≡ old.capacity) × (length new.items ≤ new.capacity)
    take-same (Some item) is =
        let same : old.capacity ≡ new.capacity = ap (λ k. k.capacity) is in
        let more : length old.items ≡ length new.items + 1 = ap (λ k. length k.items) is ∙ omega arith in
        let within = within-is in
        (sym same, omega (arith, same, more, within))
    take-same None is = (ap (λ k. k.capacity) is.1, rw is.1 within-is)

    pub take-items : (r : Option Item) → IsTakenFrom r → new.items ≡ drop 1 (under_way l u v)
    take-items (Some item) is = let w = under-is in grind (arith, common_steps, w, is)
    take-items None is = let w = under-is in grind (arith, common_steps, w, is)

    pub take-links : (r : Option Item) → IsTakenFrom r → IsLinks (record l { links = slice_set l.links p new })
    take-links (Some item) is =
        let within : length old.items ≤ old.capacity = within-is in
        let fits : All (λ item. IsTrue (item_fits (ranges_of l.net) item)) (item ∷ new.items) = subst (λ k. All (λ item. IsTrue (item_fits (ranges_of l.net) item)) k.items) is fits-is in
        now-links new (ap (λ k. k.capacity) (sym is)) (grind (arith, common_steps, within, is)) (All-tail (λ item. IsTrue (item_fits (ranges_of l.net) item)) item new.items fits)
    take-links None is = rw is.1 (now-links old refl within-is fits-is)

    pub take-under : (r : Option Item) → IsTakenFrom r → under_way (record l { links = slice_set l.links p new }) ≡ at_pair (under_way l) u v (drop 1 (under_way l u v))
    take-under r is =
        let fits = take-same r is in now-under new fits.0 fits.1 ∙ ap (λ xs. at_pair (under_way l) u v xs) (take-items r is)

    pub take-result : (r : Option Item) → IsTakenFrom r → r ≡ slice_get (under_way l u v) 0
    take-result (Some item) is = let w = under-is in grind (arith, common_steps, w, is)
    take-result None is = let w = under-is in grind (arith, common_steps, w, is)

    pub take-fits : (r : Option Item) → IsTakenFrom r → IfSome r (λ item. IsTrue (item_fits (ranges_of l.net) item))
    take-fits (Some item) is =
        let fits : All (λ item. IsTrue (item_fits (ranges_of l.net) item)) (item ∷ new.items) = subst (λ k. All (λ item. IsTrue (item_fits (ranges_of l.net) item)) k.items) is fits-is in
        fits 0 item (grind (arith, common_steps))
    take-fits None is = search rules

    -- ---- an item is lost, or all are

    pub lose-links : {T E : Type 0} (r : Result T E) (i : ℕ) → OnOk r (new ≡ link old.capacity (remove old.items i)) → OnErr r (new ≡ old)
        → IsLinks (record l { links = slice_set l.links p new })
    lose-links (Ok x) i ok err =
        let within : length old.items ≤ old.capacity = within-is in
        rw ok (now-links (link old.capacity (remove old.items i)) refl (omega (arith, within, fewer-items old.items i)) (all-remove (λ item. IsTrue (item_fits (ranges_of l.net) item)) old.items i fits-is))
    lose-links (Err x) i ok err = rw err (now-links old refl within-is fits-is)

    pub lose-under : {T E : Type 0} (r : Result T E) (i : ℕ) → OnOk r (new ≡ link old.capacity (remove old.items i))
        → OnOk r (under_way (record l { links = slice_set l.links p new }) ≡ at_pair (under_way l) u v (remove (under_way l u v) i))
    lose-under (Ok x) i is =
        let w = under-is in
        let same : new.capacity ≡ old.capacity = ap (λ k. k.capacity) is in
        let before = within-is in
        let within : length new.items ≤ new.capacity = rw is (omega (arith, before, fewer-items old.items i)) in
        now-under new same within ∙ ap (λ k. at_pair (under_way l) u v k.items) is ∙ ap (λ xs. at_pair (under_way l) u v (remove xs i)) (sym w)
    lose-under (Err x) i is = search rules

    pub lose-none : {T E : Type 0} (r : Result T E) → OnErr r (new ≡ old) → OnErr r (under_way (record l { links = slice_set l.links p new }) ≡ under_way l)
    lose-none (Ok x) is = search rules
    lose-none (Err x) is = now-same new is

    pub clear-under : new ≡ link old.capacity [] → under_way (record l { links = slice_set l.links p new }) ≡ at_pair (under_way l) u v []
    clear-under is =
        now-under new (ap (λ k. k.capacity) is) (rw is (omega arith)) ∙ ap (λ k. at_pair (under_way l) u v k.items) is

    pub clear-links : new ≡ link old.capacity [] → IsLinks (record l { links = slice_set l.links p new })
    clear-links is = rw is (now-links (link old.capacity []) refl (omega arith) (All-nil (λ item. IsTrue (item_fits (ranges_of l.net) item))))
