-- Along a run: what each event keeps, the run keeps; and what a full tick of a node brings about, a
-- list with such a tick brings about. No clause can range over all properties of a world, so the
-- crates above cite these two facts from here.
use Rattle.std.proofs.Common.{◌≡◌, List, [], ◌∷◌, ℕ, true, false, refl, inl, inr}
use Rattle.std.proofs.lemmas.Bool.{or_parts, or_cases, or_from, false≢true}
use Rattle.run_model.specs.World.{World, IsWorldInRange}
use Rattle.run_model.specs.Step.{step}
use Rattle.run_model.specs.Run.{run, is_damage, has_damage, IsUndamaged}
use Rattle.run_model.specs.Sweep.{is_full_tick, has_full_tick}
use Rattle.run_model.specs.Laws.{RangesStay}
use Rattle.run_model.specs.declared.event.Event.{Event}

-- a list without damage has none in its first event, and none after it
pub undamaged-front : (w : World) (e : Event) (es : List Event) → IsUndamaged w (e ∷ es) → (is_damage w e ≡ false) × IsUndamaged (step w e) es
undamaged-front w e es u = or_parts (is_damage w e) (has_damage (step w e) es) u

-- one event that is no damage is a list without damage
pub undamaged-one : (w : World) (e : Event) → is_damage w e ≡ false → IsUndamaged w (e ∷ [])
undamaged-one w e d = or_from (is_damage w e) false d refl

-- What is known along a run: it holds for a world and the events to come, says something about the
-- next event, and still holds after that event.
pub record Course : Type 1 where
  pub holds : World → List Event → Type 0
  pub says : World → Event → Type 0
  pub now : (w : World) (e : Event) (es : List Event) → holds w (e ∷ es) → says w e
  pub later : (w : World) (e : Event) (es : List Event) → holds w (e ∷ es) → holds (step w e) es

-- a fact that each event of a course keeps
abbrev pub IsKept : Course → (World → Type 0) → Type 0
IsKept c P = (w : World) (e : Event) → c.says w e → P w → P (step w e)

pub kept : (c : Course) (P : World → Type 0) → IsKept c P → (w : World) (es : List Event) → c.holds w es → P w → P (run w es)
kept c P k w [] h p = p
kept c P k w (e ∷ es) h p = kept c P k (step w e) es (c.later w e es h) (k w e (c.now w e es h) p)

-- if P is kept, Q is kept while P holds, and a full tick of v brings Q about while P holds, then a
-- list with a full tick of v brings Q about
pub ticked : (c : Course) (P Q : World → Type 0) (v : ℕ) → IsKept c P
    → ((w : World) (e : Event) → c.says w e → P w → Q w → Q (step w e))
    → ((w : World) (e : Event) → c.says w e → P w → is_full_tick w e v ≡ true → Q (step w e))
    → (w : World) (es : List Event) → c.holds w es → P w → has_full_tick w es v ≡ true → Q (run w es)
ticked c P Q v kp kq tick w [] h p t = absurd (false≢true t)
ticked c P Q v kp kq tick w (e ∷ es) h p t =
    let now = c.now w e es h in
    let later = c.later w e es h in
    elim (or_cases (is_full_tick w e v) (has_full_tick (step w e) es v) t) [
      | inl f ↦ (kept c (λ x. P x × Q x) (λ x a i both. (kp x a i both.0, kq x a i both.0 both.1)) (step w e) es later (kp w e now p, tick w e now p f)).1
      | inr r ↦ ticked c P Q v kp kq tick (step w e) es later (kp w e now p) r
    ]

-- the most general course: worlds in range, and no damage
abbrev pub IsUndamagedEvent : World → Event → Type 0
IsUndamagedEvent w e = IsWorldInRange w × (is_damage w e ≡ false)

abbrev pub in_range : RangesStay → Course
in_range ranges = record {
  holds = λ w es. IsWorldInRange w × IsUndamaged w es;
  says = IsUndamagedEvent;
  now = λ w e es h. (h.0, (undamaged-front w e es h.1).0);
  later = λ w e es h. (ranges w (e ∷ []) h.0, (undamaged-front w e es h.1).1);
}
