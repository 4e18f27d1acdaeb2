-- If no step is ready, and one is not read, there is no order.
use Rattle.std.proofs.Common.{◌≡◌, ◌∙◌, ap, refl, sym, subst, arith, ℕ, zero, suc, ◌+◌, ◌<◌, ◌≤◌, ◌==◌, true, cond, List, [], ◌∷◌, ◌++◌, length, drop, Option, None, Some, inl, inr}
use Rattle.std.proofs.lemmas.Bool.{cases_lt, cases_Bool, eqb-true}
use Rattle.std.proofs.lemmas.Bool.Decides.{nat_tests}
use Rattle.record_order.specs.declared.ready.Need.{Need}
use Rattle.record_order.specs.declared.ready.Step.{Step}
use Rattle.record_order.specs.Order.{is_met, ready_instant, head_of, IsEarliest}
use Rattle.record_order.specs.Laws.{first_of, counts, AreHeads, IsMet, IsReady, one_more, Goes, nothing, OneOrderOrNone}

-- what is met stays so, if no less was read
met-more : (read more : ℕ → ℕ) (need : Option Need) → ((v : ℕ) → read v ≤ more v) → IsMet read need → IsMet more need
met-more read more None le met = tt
met-more read more (Some need) le met = omega (arith, met, le need.node)

within-one_more : (read last : ℕ → ℕ) (v : ℕ) → ((u : ℕ) → read u ≤ last u) → read v < last v → (u : ℕ) → one_more v read u ≤ last u
within-one_more read last v le lt u =
    elim (cases_Bool (u == v)) [
      | inl so ↦
          let same : u ≡ v = eqb-true u v so in
          let room : read u < last u = subst (λ (x : ℕ). read x < last x) (sym same) lt in
          rw so (omega (arith, room))
      | inr not_so ↦ rw not_so (le u)
    ]

-- no order goes past where nothing is ready
module _ (records : ℕ → List Step) (last : ℕ → ℕ) (stuck : (v : ℕ) → IsReady records last v → ⊥) (v0 : ℕ) (unread : last v0 < length (records v0)) where
  no_way : (read end : ℕ → ℕ) (vs : List ℕ) → Goes records read vs end → ((v : ℕ) → read v ≤ last v) → end v0 ≡ length (records v0) → ⊥
  no_way read end [] goes le all = omega (arith, goes v0, le v0, all, unread)
  no_way read end (v ∷ vs) goes le all =
      elim (cases_lt (read v) (last v)) [
        | inl lt ↦ no_way (one_more v read) end vs goes.1 (within-one_more read last v le lt) all
        | inr ge ↦
            let same : read v ≡ last v = omega (arith, ge, le v) in
            let ready = goes.0 in
            stuck v (ready.0, ready.1, subst (λ (k : ℕ). drop k (records v) ≡ ready.0 ∷ ready.1) same ready.2, met-more read last ready.0.need le ready.3)
      ]

met-is : (read : List ℕ) (need : Option Need) → is_met read need ≡ true → IsMet (counts read) need
met-is read None met = tt
met-is read (Some need) met = grind (arith, nat_tests)

is-met : (read : List ℕ) (need : Option Need) → IsMet (counts read) need → is_met read need ≡ true
is-met read None met = refl
is-met read (Some need) met = grind (arith, nat_tests)

abbrev some : ℕ → Option ℕ
some n = Some n

-- a step whose instant is that of a ready one is there, and has what it needs
ready-step : (read : List ℕ) (steps : List Step) (least : ℕ) → ready_instant read (first_of steps) ≡ Some least
    → (step : Step) × (more : List Step) × (steps ≡ step ∷ more) × IsMet (counts read) step.need
ready-step read [] least e = absurd cc
ready-step read (step ∷ more) least e =
    elim (cases_Bool (is_met read step.need)) [
      | inl met ↦ (step, more, refl, met-is read step.need met)
      | inr unmet ↦
          let e2 : None ≡ some least = subst (λ t. cond t (some step.instant) None ≡ some least) unmet e in
          absurd cc
    ]

chosen : (records : ℕ → List Step) (read : List ℕ) (heads : List (Option Step)) (n v : ℕ) → AreHeads records read heads n → IsEarliest read heads n (Some v)
    → IsReady records (counts read) v
chosen records read heads n v are h =
    let next : ready_instant read (first_of (drop (counts read v) (records v))) ≡ Some h.1 = ap (ready_instant read) (sym (are.next v)) ∙ h.2 in
    ready-step read (drop (counts read v) (records v)) h.1 next

no-step : (k : ℕ) (step : Step) (more : List Step) → ◌≡◌ {A = List Step} (drop k []) (step ∷ more) → ⊥
no-step zero step more e = absurd cc
no-step (suc k) step more e = absurd cc

stuck-there : (records : ℕ → List Step) (read : List ℕ) (heads : List (Option Step)) (n : ℕ) → AreHeads records read heads n → IsEarliest read heads n None
    → (v : ℕ) → IsReady records (counts read) v → ⊥
stuck-there records read heads n are h v ready =
    elim (cases_lt v n) [
      | inl lt ↦
          let head : head_of heads v ≡ Some ready.0 = are.next v ∙ ap first_of ready.2 in
          let met : is_met read ready.0.need ≡ true = is-met read ready.0.need ready.3 in
          let found : ready_instant read (Some ready.0) ≡ some ready.0.instant = rw met refl in
          let e : None ≡ some ready.0.instant = sym (h v lt) ∙ ap (ready_instant read) head ∙ found in
          absurd cc
      | inr ge ↦ no-step (counts read v) ready.0 ready.1 (ap (λ (steps : List Step). drop (counts read v) steps) (sym (are.no_more v ge)) ∙ ready.2)
    ]

-- what is ready is so, if as much was read
ready-same : (records : ℕ → List Step) (read last : ℕ → ℕ) (v : ℕ) → ((u : ℕ) → read u ≡ last u) → IsReady records last v → IsReady records read v
ready-same records read last v same ready =
    (ready.0, ready.1, subst (λ (k : ℕ). drop k (records v) ≡ ready.0 ∷ ready.1) (sym (same v)) ready.2, met-more last read ready.0.need (λ u. omega (arith, same u)) ready.3)

goes-on : (records : ℕ → List Step) (read last : ℕ → ℕ) (vs : List ℕ) (v : ℕ) → Goes records read vs last → IsReady records last v
    → Goes records read (vs ++ v ∷ []) (one_more v last)
goes-on records read last [] v goes ready = (ready-same records read last v goes ready, λ u. ap (λ (k : ℕ). cond (u == v) (k + 1) k) (goes u))
goes-on records read last (w ∷ vs) v goes ready = (goes.0, goes-on records (one_more w read) last vs v goes.1 ready)

pub one_order_or_none : OneOrderOrNone
one_order_or_none = record {
  chosen = chosen;
  stuck = stuck-there;
  goes_on = goes-on;
  order = λ records vs last goes all. (last, goes, all);
  none = λ records last stuck v unread vs order. no_way records last stuck v unread nothing order.0 vs order.1 (λ u. omega arith) (order.2 v);
}
