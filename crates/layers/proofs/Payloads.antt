-- What payloads that are read leave open, and the payloads of all items of a link.
use Rattle.std.proofs.Common.{◌≡◌, ◌∙◌, ap, Bool, sym, refl, subst, ℕ, ◌+◌, ◌<◌, ◌↔◌, suc, IsTrue, Option, Some, None, List, [], ◌∷◌, length, drop, get_or, add-one, arith}
use Rattle.std.specs.Prelude.{slice_get}
use Rattle.std.specs.List.{AllByRecursion}
use Rattle.std.proofs.Math.Seq.{drop-cons}
use Rattle.std.proofs.lemmas.Option.{slice_get_within, get_or_from_slice_get}
use Rattle.topology.specs.declared.frame.Payload.{Payload}
use Rattle.configuration.specs.link_model.declared.item.Item.{Item}
use Rattle.configuration.specs.data_link.Edge.{CarriesItsPayload, payload_under}
use Rattle.configuration.specs.data_link.Port.{PortState}
use Rattle.layers.specs.declared.payload_reading.PayloadReading.{PayloadReading}
use Rattle.layers.specs.PayloadReading.{Admits, IsAlso}

-- there is a payload that may be the other one
admitted : (o : Option Payload) (staged : Payload) → (x : Payload) × IsAlso o x
admitted None staged = (staged, tt)
admitted (Some p) staged = (p, refl)

pub some-admits : (reading : PayloadReading) → IsTrue reading.fits → (x : Payload) × Admits reading x
some-admits reading fits = let a = admitted reading.other reading.staged in (a.0, (fits, a.1))

pub admits-fits : (reading : PayloadReading) → ((x : Payload) × Admits reading x) → IsTrue reading.fits
admits-fits reading (x, (fits, also)) = fits

-- what is left of a list from a place on begins with the item there
pub item-left : {X : Type 0} (xs : List X) (i : ℕ) (x : X) → slice_get xs i ≡ Some x → drop i xs ≡ x ∷ drop (i + 1) xs
item-left xs i x is =
    let there : i < length xs = slice_get_within xs i x is in
    let item : get_or xs i x ≡ x = get_or_from_slice_get xs i x x is in
    rw (add-one i) (subst (λ y. drop i xs ≡ y ∷ drop (suc i) xs) item (drop-cons xs i x there))

-- one more that is tested is one less that is left to test
pub tested-more : {X : Type 0} (P : X → Type 0) (xs : List X) (i : ℕ) (x : X) (A B C : Type 0) → slice_get xs i ≡ Some x
    → B ↔ (A × P x) → (A × AllByRecursion P (drop i xs)) ↔ C → (B × AllByRecursion P (drop (i + 1) xs)) ↔ C
tested-more P xs i x A B C is next so_far =
    let left = item-left xs i x is in
    let before : (A × AllByRecursion P (x ∷ drop (i + 1) xs)) ↔ C = subst (λ ys. (A × AllByRecursion P ys) ↔ C) left so_far in (
      λ b. before.0 ((next.0 b.0).0, ((next.0 b.0).1, b.1)),
      λ c. let a = before.1 c in (next.1 (a.0, a.1.0), a.1.1),
    )

-- the payloads of a link are read: that of the copy first, and then those of the items
pub all-carried : (near far : PortState) (items : List Item) (start copied end : PayloadReading) (number : ℕ) (payload : Payload) (good : Bool)
    → ((other : Payload) → Admits start other)
    → ((other : Payload) → Admits copied other ↔ (Admits start other × (payload ≡ payload_under near other number)))
    → ((other : Payload) → Admits end other ↔ (Admits copied other × AllByRecursion (CarriesItsPayload near other) items))
    → number ≡ far.last → payload ≡ far.copy
    → IsTrue good ↔ ((other : Payload) × Admits end other)
    → IsTrue good ↔ ((other : Payload) × AllByRecursion (CarriesItsPayload near other) items × (far.copy ≡ payload_under near other far.last))
all-carried near far items start copied end number payload good any first more is_last is_copy is = (
  λ holds.
      let e = is.0 holds in
      let a = (more e.0).0 e.1 in
      let b = (first e.0).0 a.0 in
      (e.0, a.1, sym is_copy ∙ b.1 ∙ ap (payload_under near e.0) is_last),
  λ e. is.1 (e.0, (more e.0).1 ((first e.0).1 (any e.0, is_copy ∙ e.2 ∙ sym (ap (payload_under near e.0) is_last)), e.1)),
)
