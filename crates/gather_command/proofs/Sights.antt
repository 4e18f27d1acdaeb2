-- What is watched stays watched, and flaws are listed one after the other.
use Rattle.std.proofs.Common.{◌≡◌, ◌∙◌, ap, sym, refl, subst, arith, ℕ, zero, suc, Bool, true, false, List, [], ◌∷◌, ◌++◌, Option, Some, ◌<◌, ◌+◌, length, take, drop, map, append_assoc}
use Rattle.std.proofs.lemmas.List.{length-set, append-nil, take_more}
use Rattle.std.proofs.lemmas.Option.{slice_get-get_or}
use Rattle.std.specs.Prelude.{if◌then◌else◌, slice_get, slice_index_or, slice_set}
use Rattle.gather_command.specs.declared.fault.Flaw.{Flaw}
use Rattle.gather_command.specs.View.{NodeRecordView}
use Rattle.gather_command.specs.Records.{flaws_of, flaws_in}
use Rattle.gather_command.specs.Weave.{Moment}
use Rattle.gather_command.specs.Watch.{WatchView, with_state, with_tick, with_lent, with_end, with_turn, with_moment, is_tick, is_whole}

state-length : (w : WatchView) (v : ℕ) → length (with_state w v).nodes ≡ length w.nodes
state-length w v = length-set w.nodes v _

tick-length : (w : WatchView) (v instant : ℕ) → length (with_tick w v instant).nodes ≡ length w.nodes
tick-length w v instant = length-set w.nodes v _

lent-length : (w : WatchView) (v : ℕ) (lent : Option ℕ) (instant : ℕ) → length (with_lent w v lent instant).nodes ≡ length w.nodes
lent-length w v lent instant =
    let by : (b : Bool) (x : WatchView) → length x.nodes ≡ length w.nodes → length (if b then w else x).nodes ≡ length w.nodes =
    elim [
      | true ↦ λ x e. refl
      | false ↦ λ x e. e
    ] in
    by _ _ (length-set w.nodes v _)

either-length : (b : Bool) (w x : WatchView) → length x.nodes ≡ length w.nodes → length (if b then x else w).nodes ≡ length w.nodes
either-length true w x e = e
either-length false w x e = refl

pub watch-length : (w : WatchView) (m : Moment) → length (with_moment w m).nodes ≡ length w.nodes
watch-length w m =
    let v = m.node in
    let e = m.entry in
    let x = with_end w v e in
    lent-length (with_turn x v e) v m.lent e.instant
    ∙ either-length (is_tick e.noted) x (with_tick x v e.instant) (tick-length x v e.instant)
    ∙ either-length (is_whole e.noted) w (with_state w v) (state-length w v)

pub flaws-more : (rs : List NodeRecordView) (r : NodeRecordView) → flaws_in (rs ++ r ∷ []) ≡ flaws_in rs ++ flaws_of r
flaws-more [] r = append-nil (flaws_of r)
flaws-more (x ∷ rs) r = ap (λ (l : List Flaw). flaws_of x ++ l) (flaws-more rs r) ∙ sym (append_assoc (flaws_of x) (flaws_in rs) (flaws_of r))

-- the record at a place that code looked up
pub got : (rs : List NodeRecordView) (v p : ℕ) (r : NodeRecordView) → p ≡ v → v < length rs → r ≡ slice_index_or rs p r
    → slice_get rs v ≡ Some r
got rs v p r e l value =
    slice_get-get_or rs v r l ∙ ap Some (subst (λ (n : ℕ). slice_index_or rs n r ≡ r) e (sym value))

pub flaws-step : (rs : List NodeRecordView) (i : ℕ) (r : NodeRecordView) (old new : List Flaw) → r ≡ slice_index_or rs i r
    → i < length rs → new ≡ old ++ flaws_of r → old ≡ flaws_in (take i rs) → new ≡ flaws_in (take (i + 1) rs)
flaws-step rs i r old new same l added before =
    added ∙ ap (λ (x : List Flaw). x ++ flaws_of r) before
    ∙ sym (ap flaws_in (take_more rs i r l)
    ∙ flaws-more (take i rs) (slice_index_or rs i r)
    ∙ ap (λ (x : NodeRecordView). flaws_in (take i rs) ++ flaws_of x) (sym same))

-- one more of the elements of a list is made again
again-step : {X : Type 0} (f : X → X) (old : List X) (i : ℕ) (d : X) → i < length old
    → slice_set (map f (take i old) ++ drop i old) i (f (slice_index_or (map f (take i old) ++ drop i old) i d))
    ≡ map f (take (suc i) old) ++ drop (suc i) old
again-step f [] i d l = absurd (omega (arith, l))
again-step f (x ∷ xs) zero d l = refl
again-step {X = X} f (x ∷ xs) (suc i) d l = ap (λ (ys : List X). f x ∷ ys) (again-step f xs i d (omega (arith, l)))

pub again-more : {X : Type 0} (f : X → X) (old now new : List X) (i : ℕ) (x d : X) → i < length old
    → now ≡ map f (take i old) ++ drop i old → x ≡ f (slice_index_or now i d) → new ≡ slice_set now i x
    → new ≡ map f (take (i + 1) old) ++ drop (i + 1) old
again-more {X = X} f old now new i x d l before is after =
    let next : i + 1 ≡ suc i = omega arith in
    after ∙ ap (slice_set now i) is
    ∙ ap (λ (ys : List X). slice_set ys i (f (slice_index_or ys i d))) before
    ∙ again-step f old i d l
    ∙ ap (λ (n : ℕ). map f (take n old) ++ drop n old) (sym next)
