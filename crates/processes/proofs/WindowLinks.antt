-- A frame that a history hands over, accepted and given inside a stretch of instants, is one that the
-- marks of the stretch send and take.
use Rattle.std.proofs.Common.{◌≡◌, ℕ, zero, suc, ◌*◌, ◌<◌, ◌≤◌, ◌==◌, ◌&&◌, ◌||◌, List, [], ◌∷◌, ◌++◌, map, length, drop, Option, Some, IsTrue, Bool, true, false, refl, ap, ◌∙◌, sym, subst, arith}
use Rattle.std.proofs.lemmas.Grind.{common_steps}
use Rattle.std.specs.List.{AllByRecursion, remove}
use Rattle.topology.specs.declared.frame.Frame.{Frame}
use Rattle.link_model.specs.declared.item.Item.{Item}
use Rattle.link_model.specs.declared.item.Item.TheVariants as item
use Rattle.link_model.specs.Acts as link
use Rattle.link_model.specs.Acts.{Origin, Before, Sent, LinkAct, list_after, takes_sent, hands_over_sent}
use Rattle.run_model.specs.Sweep.{link_act}
use Rattle.node_core.specs.Deeds.{Ticks, Sends, Takes, Asks, Leaves}
use Rattle.processes.specs.Links.{Act, Accepts, Gives, Loses, Plays, moment}
use Rattle.processes.specs.Marks.{Mark, Does, Drops, event_of, mark_moment, act_on, history_of}
use Rattle.processes.specs.Timing.{passages, is_in, is_since, passes_in}

-- ---- lists

length-last : {X : Type 0} (xs : List X) (x : X) → length (xs ++ x ∷ []) ≡ suc (length xs)
length-last [] x = refl
length-last (y ∷ xs) x = ap suc (length-last xs x)

length-remove : {X Y : Type 0} (xs : List X) (ys : List Y) (i : ℕ) → length xs ≡ length ys → length (remove xs i) ≡ length (remove ys i)
length-remove [] [] zero e = refl
length-remove [] [] (suc i) e = refl
length-remove [] (y ∷ ys) i e = absurd cc
length-remove (x ∷ xs) [] i e = absurd cc
length-remove (x ∷ xs) (y ∷ ys) zero e = omega (arith, e)
length-remove (x ∷ xs) (y ∷ ys) (suc i) e =
    let tails : length xs ≡ length ys = omega (arith, e) in ap suc (length-remove xs ys i tails)

map-last : {X Y : Type 0} (f : X → Y) (xs : List X) (x : X) → map f (xs ++ x ∷ []) ≡ map f xs ++ f x ∷ []
map-last f [] x = refl
map-last f (y ∷ xs) x = ap (λ l. f y ∷ l) (map-last f xs x)

map-remove : {X Y : Type 0} (f : X → Y) (xs : List X) (i : ℕ) → map f (remove xs i) ≡ remove (map f xs) i
map-remove f [] zero = refl
map-remove f [] (suc i) = refl
map-remove f (x ∷ xs) zero = refl
map-remove f (x ∷ xs) (suc i) = ap (λ l. f x ∷ l) (map-remove f xs i)

length-map : {X Y : Type 0} (f : X → Y) (xs : List X) → length (map f xs) ≡ length xs
length-map f [] = refl
length-map f (x ∷ xs) = ap suc (length-map f xs)

-- ---- the length of what is under way

-- two links that come to the same items by the same acts hold the same number of items
pub same-length : (capacity : ℕ) (xs ys last : List Item) (acts : List Act) → Plays capacity xs acts last → Plays capacity ys acts last → length xs ≡ length ys
same-length capacity xs ys last [] p q = ap length (sym p ∙ q)
same-length capacity xs ys last (Accepts t f ∷ acts) p q =
    let e = same-length capacity (xs ++ item.Frame f ∷ []) (ys ++ item.Frame f ∷ []) last acts p.1 q.1 in
    let a = length-last xs (item.Frame f) in
    let b = length-last ys (item.Frame f) in
    omega (arith, e, a, b)
same-length capacity xs ys last (Gives t f ∷ acts) p q =
    let e = same-length capacity p.0 q.0 last acts p.2 q.2 in
    ap length p.1 ∙ (ap suc e ∙ sym (ap length q.1))
same-length capacity xs ys last (Loses t i ∷ acts) p q =
    let e = same-length capacity (remove xs i) (remove ys i) last acts p.1 q.1 in
    let a = length-removed xs i p.0 in
    let b = length-removed ys i q.0 in
    omega (arith, e, a, b)
  where
    length-removed : (xs : List Item) (i : ℕ) → i < length xs → suc (length (remove xs i)) ≡ length xs
    length-removed [] i l = absurd (omega (arith, l))
    length-removed (x ∷ xs) zero l = refl
    length-removed (x ∷ xs) (suc i) l = let k : i < length xs = omega (arith, l) in ap suc (length-removed xs i k)

-- ---- before the stretch

abbrev pub NoneSince : ℕ → List (Option ℕ) → Type 0
NoneSince s way = AllByRecursion (λ o. is_since s o ≡ false) way

all-last : {X : Type 0} (P : X → Type 0) (xs : List X) (x : X) → AllByRecursion P xs → P x → AllByRecursion P (xs ++ x ∷ [])
all-last P [] x a p = (p, tt)
all-last P (y ∷ xs) x a p = (a.0, all-last P xs x a.1 p)

all-removed : {X : Type 0} (P : X → Type 0) (xs : List X) (i : ℕ) → AllByRecursion P xs → AllByRecursion P (remove xs i)
all-removed P [] zero a = tt
all-removed P [] (suc i) a = tt
all-removed P (x ∷ xs) zero a = a.1
all-removed P (x ∷ xs) (suc i) a = (a.0, all-removed P xs i a.1)

early-instant : (s t : ℕ) → suc (2 * t) < 2 * s → is_since s (Some t) ≡ false
early-instant s t l = grind (arith, common_steps)

not-old : (a b c : Bool) → a ≡ false → IsTrue ((a && b) || c) → IsTrue c
not-old true b c e h = absurd cc
not-old false b c e h = h

abbrev pub Later : ℕ → ℕ → ℕ → List Act → List Item → Type 0
Later capacity s e after last =
    (items : List Item) × (way : List (Option ℕ)) × Plays capacity items after last × (length way ≡ length items) × NoneSince s way × IsTrue (passes_in s e (passages way after))

pub early : (capacity s e : ℕ) (acts after : List Act) (items last : List Item) (way : List (Option ℕ)) → Plays capacity items (acts ++ after) last
    → length way ≡ length items → NoneSince s way → AllByRecursion (λ a. moment a < 2 * s) acts → IsTrue (passes_in s e (passages way (acts ++ after))) → Later capacity s e after last
early capacity s e [] after items last way p len none all h = (items, way, p, len, none, h)
early capacity s e (Accepts t f ∷ acts) after items last way p len none all h =
    let a = length-last way (Some t) in
    let b = length-last items (item.Frame f) in
    let l = all.0 in
    early capacity s e acts after (items ++ item.Frame f ∷ []) last (way ++ Some t ∷ []) p.1 (omega (arith, len, a, b)) (all-last (λ o. is_since s o ≡ false) way (Some t) none (early-instant s t l)) all.1 h
early capacity s e (Gives t f ∷ acts) after items last [] p len none all h =
    let n : 0 ≡ suc (length p.0) = len ∙ ap length p.1 in absurd (omega (arith, n))
early capacity s e (Gives t f ∷ acts) after items last (o ∷ way) p len none all h =
    let n : suc (length way) ≡ suc (length p.0) = len ∙ ap length p.1 in
    early capacity s e acts after p.0 last way p.2 (omega (arith, n)) none.1 all.1 (not-old (is_since s o) (is_in s e t) (passes_in s e (passages way (acts ++ after))) none.0 h)
early capacity s e (Loses t i ∷ acts) after items last way p len none all h =
    early capacity s e acts after (remove items i) last (remove way i) p.1 (length-remove way items i len) (all-removed (λ o. is_since s o ≡ false) way i none) all.1 h

-- ---- after the stretch

late-instant : (s e t : ℕ) → 2 * e ≤ suc (2 * t) → is_in s e t ≡ false
late-instant s e t l = grind (arith, common_steps)

not-late : (a b c : Bool) → b ≡ false → IsTrue ((a && b) || c) → IsTrue c
not-late true true c e h = absurd cc
not-late true false c e h = h
not-late false b c e h = h

pub late-acts : (s e : ℕ) (acts : List Act) (way : List (Option ℕ)) → AllByRecursion (λ a. 2 * e ≤ moment a) acts → IsTrue (passes_in s e (passages way acts)) → ⊥
late-acts s e [] way all h = absurd cc
late-acts s e (Accepts t f ∷ acts) way all h = late-acts s e acts (way ++ Some t ∷ []) all.1 h
late-acts s e (Gives t f ∷ acts) [] all h = late-acts s e acts [] all.1 h
late-acts s e (Gives t f ∷ acts) (o ∷ way) all h =
    let l = all.0 in
    late-acts s e acts way all.1 (not-late (is_since s o) (is_in s e t) (passes_in s e (passages way acts)) (late-instant s e t l) h)
late-acts s e (Loses t i ∷ acts) way all h = late-acts s e acts (remove way i) all.1 h

-- ---- the stretch

abbrev pub is_sent : Origin → Bool
is_sent Before = false
is_sent (Sent i) = true

-- both lists agree on which items were sent in the stretch
abbrev pub AreAlike : ℕ → List Origin → List (Option ℕ) → Type 0
AreAlike s origins way = map is_sent origins ≡ map (is_since s) way

-- what a mark contributes to a link, as an act of its history and of its sweep
data Kind (u v : ℕ) (m : Mark) : Type 0 where
  None-of : act_on u v m ≡ [] → link_act u v (event_of m) ≡ link.Rests → Kind u v m
  Put-of : (t : ℕ) (f : Frame) → act_on u v m ≡ Accepts t f ∷ [] → link_act u v (event_of m) ≡ link.Puts → mark_moment m ≡ suc (2 * t) → Kind u v m
  Take-of : (t : ℕ) (f : Frame) → act_on u v m ≡ Gives t f ∷ [] → link_act u v (event_of m) ≡ link.Takes → Kind u v m
  Lost-of : (t i : ℕ) → act_on u v m ≡ Loses t i ∷ [] → link_act u v (event_of m) ≡ link.Loses i → Kind u v m

kind-of : (u v : ℕ) (m : Mark) → Kind u v m
kind-of u v (Does t a Ticks) = None-of refl refl
kind-of u v (Does t a (Asks k)) = None-of refl refl
kind-of u v (Does t a (Leaves k)) = None-of refl refl
kind-of u v (Does t a (Sends b f)) = go ((a == u) && (b == v)) refl where
  go : (x : Bool) → ((a == u) && (b == v)) ≡ x → Kind u v (Does t a (Sends b f))
  go true e = Put-of t f (grind (arith, common_steps)) (grind (arith, common_steps)) refl
  go false e = None-of (grind (arith, common_steps)) (grind (arith, common_steps))
kind-of u v (Does t a (Takes b f)) = go ((b == u) && (a == v)) refl where
  go : (x : Bool) → ((b == u) && (a == v)) ≡ x → Kind u v (Does t a (Takes b f))
  go true e = Take-of t f (grind (arith, common_steps)) (grind (arith, common_steps))
  go false e = None-of (grind (arith, common_steps)) (grind (arith, common_steps))
kind-of u v (Drops t a b i) = go ((a == u) && (b == v)) refl where
  go : (x : Bool) → ((a == u) && (b == v)) ≡ x → Kind u v (Drops t a b i)
  go true e = Lost-of t i (grind (arith, common_steps)) (grind (arith, common_steps))
  go false e = None-of (grind (arith, common_steps)) (grind (arith, common_steps))

put-there : (capacity i : ℕ) (origins : List Origin) → length origins < capacity → list_after capacity (Sent i) link.Puts origins ≡ origins ++ Sent i ∷ []
put-there capacity i origins l = grind (arith, common_steps)

since-now : (s t : ℕ) → 2 * s ≤ suc (2 * t) → is_since s (Some t) ≡ true
since-now s t l = grind (arith, common_steps)

alike-length : (s : ℕ) (origins : List Origin) (way : List (Option ℕ)) → AreAlike s origins way → length origins ≡ length way
alike-length s origins way e = sym (length-map is_sent origins) ∙ (ap length e ∙ length-map (is_since s) way)

first-taken : (s e t : ℕ) (o : Option ℕ) (way : List (Option ℕ)) (origins : List Origin) (rest more : Bool) → AreAlike s origins (o ∷ way) → (IsTrue rest → IsTrue more)
    → IsTrue ((is_since s o && is_in s e t) || rest) → IsTrue (takes_sent link.Takes origins || more)
first-taken s e t o way [] rest more e2 go h = absurd cc
first-taken s e t o way (Sent i ∷ origins) rest more e2 go h = refl
first-taken s e t o way (Before ∷ origins) rest more e2 go h =
    let old : is_since s o ≡ false = cc in go (not-old (is_since s o) (is_in s e t) rest old h)

alike-tail : (s : ℕ) (o : Option ℕ) (way : List (Option ℕ)) (origins : List Origin) → AreAlike s origins (o ∷ way) → AreAlike s (drop 1 origins) way
alike-tail s o way [] e = absurd cc
alike-tail s o way (x ∷ origins) e = cc

-- the stretch hands over what was sent in it, if its first act is this
abbrev HandsOver : ℕ → ℕ → ℕ → ℕ → List Mark → List Origin → LinkAct → Type 0
HandsOver capacity u v i ms origins act = IsTrue (hands_over_sent capacity i (act ∷ map (link_act u v) (map event_of ms)) origins)

-- what the stretch comes to from each such moment on
abbrev pub Inside : ℕ → ℕ → ℕ → ℕ → ℕ → ℕ → List Mark → List Act → Type 0
Inside capacity u v s e i ms after =
    (items last : List Item) (way : List (Option ℕ)) (origins : List Origin) → Plays capacity items (history_of u v ms ++ after) last
    → length way ≡ length items → AreAlike s origins way → IsTrue (passes_in s e (passages way (history_of u v ms ++ after)))
    → IsTrue (hands_over_sent capacity i (map (link_act u v) (map event_of ms)) origins)

module _ (capacity u v s e : ℕ) where
  links-step : (i : ℕ) (m : Mark) (ms : List Mark) (after : List Act) → 2 * s ≤ mark_moment m → Inside capacity u v s e (suc i) ms after → Inside capacity u v s e i (m ∷ ms) after
  links-step i m ms after since again items last way origins p len alike h = go (kind-of u v m) where
    plays-as : (acts : List Act) → act_on u v m ≡ acts → Plays capacity items ((acts ++ history_of u v ms) ++ after) last
    plays-as acts is = subst (λ xs. Plays capacity items ((xs ++ history_of u v ms) ++ after) last) is p

    passes-as : (acts : List Act) → act_on u v m ≡ acts → IsTrue (passes_in s e (passages way ((acts ++ history_of u v ms) ++ after)))
    passes-as acts is = subst (λ xs. IsTrue (passes_in s e (passages way ((xs ++ history_of u v ms) ++ after)))) is h

    takes : (t : ℕ) (f : Frame) (w2 : List (Option ℕ)) → w2 ≡ way → Plays capacity items (Gives t f ∷ (history_of u v ms ++ after)) last
        → IsTrue (passes_in s e (passages w2 (Gives t f ∷ (history_of u v ms ++ after)))) → HandsOver capacity u v i ms origins link.Takes
    takes t f [] is q h2 = let n : 0 ≡ suc (length q.0) = ap length is ∙ (len ∙ ap length q.1) in absurd (omega (arith, n))
    takes t f (o ∷ w3) is q h2 =
        let n : suc (length w3) ≡ suc (length q.0) = ap length is ∙ (len ∙ ap length q.1) in
        let same : AreAlike s origins (o ∷ w3) = subst (AreAlike s origins) (sym is) alike in
        first-taken s e t o w3 origins (passes_in s e (passages w3 (history_of u v ms ++ after))) (hands_over_sent capacity (suc i) (map (link_act u v) (map event_of ms)) (drop 1 origins)) same
        (λ rest. again q.0 last w3 (drop 1 origins) q.2 (omega (arith, n)) (alike-tail s o w3 origins same) rest) h2

    go : Kind u v m → IsTrue (hands_over_sent capacity i (link_act u v (event_of m) ∷ map (link_act u v) (map event_of ms)) origins)
    go (None-of acts is) = subst (HandsOver capacity u v i ms origins) (sym is) (again items last way origins (plays-as [] acts) len alike (passes-as [] acts))
    go (Put-of t f acts is at) =
        let q = plays-as (Accepts t f ∷ []) acts in
        let a = length-last way (Some t) in
        let b = length-last items (item.Frame f) in
        let c = alike-length s origins way alike in
        let l = since in
        let room = q.0 in
        let put = put-there capacity i origins (omega (arith, c, len, room)) in
        let now : is_since s (Some t) ≡ true = since-now s t (omega (arith, l, at)) in
        let same : AreAlike s (origins ++ Sent i ∷ []) (way ++ Some t ∷ []) =
        map-last is_sent origins (Sent i) ∙ (ap (λ xs. xs ++ true ∷ []) alike ∙ (ap (λ x. map (is_since s) way ++ x ∷ []) (sym now) ∙ sym (map-last (is_since s) way (Some t)))) in
        subst (HandsOver capacity u v i ms origins) (sym is) (subst (λ os. IsTrue (hands_over_sent capacity (suc i) (map (link_act u v) (map event_of ms)) os)) (sym put)
        (again (items ++ item.Frame f ∷ []) last (way ++ Some t ∷ []) (origins ++ Sent i ∷ []) q.1 (omega (arith, len, a, b)) same (passes-as (Accepts t f ∷ []) acts)))
    go (Take-of t f acts is) = subst (HandsOver capacity u v i ms origins) (sym is) (takes t f way refl (plays-as (Gives t f ∷ []) acts) (passes-as (Gives t f ∷ []) acts))
    go (Lost-of t k acts is) =
        let q = plays-as (Loses t k ∷ []) acts in
        let same : AreAlike s (remove origins k) (remove way k) = map-remove is_sent origins k ∙ (ap (λ xs. remove xs k) alike ∙ sym (map-remove (is_since s) way k)) in
        subst (HandsOver capacity u v i ms origins) (sym is) (again (remove items k) last (remove way k) (remove origins k) q.1 (length-remove way items k len) same (passes-as (Loses t k ∷ []) acts))

  pub links-inside : (i : ℕ) (stretch : List Mark) (after : List Act) → AllByRecursion (λ m. 2 * s ≤ mark_moment m) stretch → AllByRecursion (λ a. 2 * e ≤ moment a) after
      → Inside capacity u v s e i stretch after
  links-inside i [] after since all = λ items last way origins p len alike h. absurd (late-acts s e after way all h)
  links-inside i (m ∷ ms) after since all = links-step i m ms after since.0 (links-inside (suc i) ms after since.1 all)
