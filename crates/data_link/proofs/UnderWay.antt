-- Facts of all items on a link, and of each number on its way out with its payload
use Rattle.std.proofs.Common.{◌≡◌, ℕ, ◌+◌, ◌*◌, ◌≤◌, nat_lt, List, [], ◌∷◌, ◌++◌, length, drop, arith, length-append}
use Rattle.std.specs.List.{AllByRecursion}
use Rattle.std.proofs.lemmas.Bool.{ltb-true}
use Rattle.std.proofs.lemmas.Grind.{common_steps}
use Rattle.link_model.specs.topology.declared.frame.Frame.{Frame}
use Rattle.link_model.specs.topology.declared.frame.Payload.{Payload}
use Rattle.link_model.specs.declared.item.Item.{Item}
use Rattle.link_model.specs.declared.item.Item.TheVariants as item
use Rattle.link_model.specs.Acts.{put_last}
pub use Rattle.link_model.proofs.Lists.{All-push, All-remove, length-remove}
use Rattle.data_link.specs.Port.{PortState, port_after}
use Rattle.data_link.specs.Edge.{EdgeState, EdgeEvent, SendOut, SendBack, TakeOut, TakeBack, LoseOut, LoseBack, Elsewhere, port_taking, edge_step, moves, newest_first}
use Rattle.data_link.proofs.LinkSteps.{by_test}

-- ---- all items of a list

pub All-put : {X : Type 0} (P : X → Type 0) (capacity : ℕ) (xs : List X) (y : X) → AllByRecursion P xs → P y → AllByRecursion P (put_last capacity xs y)
All-put P capacity xs y ps p = by_test (AllByRecursion P) (nat_lt (length xs) capacity) (xs ++ y ∷ []) xs (λ t. All-push P xs y ps p) (λ t. ps)

pub All-rest : {X : Type 0} (P : X → Type 0) (xs : List X) → AllByRecursion P xs → AllByRecursion P (drop 1 xs)
All-rest P [] ps = tt
All-rest P (x ∷ xs) ps = ps.1

pub All-weaker : {X : Type 0} (P Q : X → Type 0) → ((x : X) → P x → Q x) → (xs : List X) → AllByRecursion P xs → AllByRecursion Q xs
All-weaker P Q f [] ps = tt
All-weaker P Q f (x ∷ xs) ps = (f x ps.0, All-weaker P Q f xs ps.1)

pub All-append : {X : Type 0} (P : X → Type 0) (xs ys : List X) → AllByRecursion P (xs ++ ys) → AllByRecursion P xs × AllByRecursion P ys
All-append P [] ys ps = (tt, ps)
All-append P (x ∷ xs) ys ps = let w = All-append P xs ys ps.1 in ((ps.0, w.0), w.1)

pub All-join : {X : Type 0} (P : X → Type 0) (xs ys : List X) → AllByRecursion P xs → AllByRecursion P ys → AllByRecursion P (xs ++ ys)
All-join P [] ys ps qs = qs
All-join P (x ∷ xs) ys ps qs = (ps.0, All-join P xs ys ps.1 qs)

-- ---- lengths

pub length-put : {X : Type 0} (capacity : ℕ) (xs : List X) (y : X) → length xs ≤ capacity → length (put_last capacity xs y) ≤ capacity
length-put capacity xs y l = by_test (λ zs. length zs ≤ capacity) (nat_lt (length xs) capacity) (xs ++ y ∷ []) xs (λ t. omega (arith, ltb-true (length xs) capacity t, length-append xs (y ∷ []))) (λ t. l)

pub length-rest : {X : Type 0} (xs : List X) → length (drop 1 xs) ≤ length xs
length-rest [] = omega arith
length-rest (x ∷ xs) = omega arith

-- ---- a fact of each number that goes out with its payload, and of what far has accepted

abbrev pub OfItem : (ℕ → Payload → Type 0) → Item → Type 0
OfItem R item.Noise = Unit {0}
OfItem R (item.Frame f) = R f.seq f.payload

pub record OfAll (R : ℕ → Payload → Type 0) (s : EdgeState) : Type 0 where
  pub out : AllByRecursion (OfItem R) s.out
  pub accepted : R s.far.last s.far.copy

accepted-after : (R : ℕ → Payload → Type 0) (q : ℕ) (p : PortState) (items : List Item) (present : Payload) → R p.last p.copy → AllByRecursion (OfItem R) items →
    R (port_taking q p items present).last (port_taking q p items present).copy
accepted-after R q p [] present h g = h
accepted-after R q p (item.Noise ∷ items) present h g = h
accepted-after R q p (item.Frame f ∷ items) present h g = taken R q p f present h g.0
  where
    taken : (R : ℕ → Payload → Type 0) (q : ℕ) (p : PortState) (f : Frame) (present : Payload) → R p.last p.copy → R f.seq f.payload → R (port_after q p f present).last (port_after q p f present).copy
    taken R q p f present h g = grind (arith, common_steps)

-- near's number and its staged payload stay if the number does not move
pub near-stays : (capacity : ℕ) (s : EdgeState) (e : EdgeEvent) → moves s e ≡ 0 → ((edge_step capacity s e).near.seq ≡ s.near.seq) × ((edge_step capacity s e).near.staged ≡ s.near.staged)
near-stays capacity s e i = grind (arith, common_steps)

-- what holds of the staged payload under the number, and of all that is under way, holds after
-- every event
pub all-stays : (R : ℕ → Payload → Type 0) (capacity : ℕ) (s : EdgeState) (e : EdgeEvent) → R s.near.seq s.near.staged → OfAll R s → OfAll R (edge_step capacity s e)
all-stays R capacity s SendOut n h = record { out = All-put (OfItem R) capacity s.out _ h.out n; accepted = h.accepted }
all-stays R capacity s SendBack n h = record { out = h.out; accepted = h.accepted }
all-stays R capacity s (TakeOut present) n h = record { out = All-rest (OfItem R) s.out h.out; accepted = accepted-after R (2 * capacity + 3) s.far s.out present h.accepted h.out }
all-stays R capacity s (TakeBack present) n h = record { out = h.out; accepted = h.accepted }
all-stays R capacity s (LoseOut i) n h = record { out = All-remove (OfItem R) s.out i h.out; accepted = h.accepted }
all-stays R capacity s (LoseBack i) n h = record { out = h.out; accepted = h.accepted }
all-stays R capacity s Elsewhere n h = h

pub all-weaker : (R S : ℕ → Payload → Type 0) → ((number : ℕ) (payload : Payload) → R number payload → S number payload) → (s : EdgeState) → OfAll R s → OfAll S s
all-weaker R S f s h = record { out = All-weaker (OfItem R) (OfItem S) (λ i. elim i as (λ j. OfItem R j → OfItem S j) [ item.Noise ↦ (λ r. tt) | item.Frame x ↦ (λ r. f x.seq x.payload r) ]) s.out h.out; accepted = f s.far.last s.far.copy h.accepted }

all-both_items : (R S : ℕ → Payload → Type 0) (items : List Item) → AllByRecursion (OfItem R) items → AllByRecursion (OfItem S) items → AllByRecursion (OfItem (λ n x. R n x × S n x)) items
all-both_items R S [] a b = tt
all-both_items R S (item.Noise ∷ items) a b = (tt, all-both_items R S items a.1 b.1)
all-both_items R S (item.Frame f ∷ items) a b = ((a.0, b.0), all-both_items R S items a.1 b.1)

pub all-both : (R S : ℕ → Payload → Type 0) (s : EdgeState) → OfAll R s → OfAll S s → OfAll (λ n x. R n x × S n x) s
all-both R S s h g = record { out = all-both_items R S s.out h.out g.out; accepted = (h.accepted, g.accepted) }

-- ---- a fact of each number in the ring after the head is one of each number on its way out and of the accepted one

pub frames-newest : (P : ℕ → Type 0) (items : List Item) → AllByRecursion P (newest_first (λ f. f.seq) items) → AllByRecursion (OfItem (λ number payload. P number)) items
frames-newest P [] ps = tt
frames-newest P (item.Noise ∷ items) ps = (tt, frames-newest P items ps)
frames-newest P (item.Frame f ∷ items) ps = let w = All-append P (newest_first (λ x. x.seq) items) (f.seq ∷ []) ps in (w.1.0, frames-newest P items w.0)

pub all-ring : (P : ℕ → Type 0) (s : EdgeState) → AllByRecursion P (newest_first (λ f. f.seq) s.out ++ s.far.last ∷ newest_first (λ f. f.ack) s.back) → OfAll (λ number payload. P number) s
all-ring P s ps = let v = All-append P (newest_first (λ f. f.seq) s.out) (s.far.last ∷ newest_first (λ f. f.ack) s.back) ps in record { out = frames-newest P s.out v.0; accepted = v.1.0 }
