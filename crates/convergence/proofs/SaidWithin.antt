-- On stable links, after three sweeps, what is staged and copied is what its node would have said
-- at some moment of them.
use Rattle.std.proofs.Common.{◌≡◌, ℕ, Bool, true, false, ◌==◌, ◌&&◌, nat_eq, List, [], ◌∷◌, Option, refl, ◌∙◌, ap, arith}
use Rattle.std.specs.List.{list_any}
use Rattle.std.specs.Option.{option_eq}
use Rattle.std.specs.Cmp.Lexicographic.{options_equiv}
use Rattle.std.proofs.lemmas.Cmp.{nat_eq_equiv}
use Rattle.std.proofs.lemmas.Grind.{common_steps}
use Rattle.std.proofs.lemmas.Bool.{and_parts, and_from, or_left, or_right, eq-eqb, eqb-true}
use Rattle.std.proofs.lemmas.Map.Views.{Contains-from_any}
use Rattle.topology.specs.Network.{are_joined}
use Rattle.topology.specs.declared.frame.Payload.{Payload}
use Rattle.run_model.specs.World.{World}
use Rattle.run_model.specs.Step.{step}
use Rattle.run_model.specs.Run.{run}
use Rattle.run_model.specs.Project.{present}
use Rattle.run_model.specs.declared.event.Event.{Event}
use Rattle.tree_convergence.specs.Present.{AlwaysPresent}
use Rattle.convergence.specs.Said.{said_in}
use Rattle.convergence.specs.Below.{Below}
use Rattle.convergence.specs.Laws.{PayloadsConverge}

-- ---- two payloads are the same

abbrev same_parent : Option ℕ → Option ℕ → Bool
same_parent = option_eq nat_eq

parents-are : (a b : Option ℕ) → same_parent a b ≡ true → a ≡ b
parents-are a b e = grind (arith, common_steps)

abbrev same : Payload → Payload → Bool
same p q = (p.distance == q.distance) && (same_parent p.parent q.parent && (p.ring == q.ring))

same-itself : (p : Payload) → same p p ≡ true
same-itself p =
    and_from (p.distance == p.distance) (same_parent p.parent p.parent && (p.ring == p.ring)) (eq-eqb p.distance p.distance refl)
    (and_from (same_parent p.parent p.parent) (p.ring == p.ring) ((options_equiv nat_eq_equiv).refl p.parent) (eq-eqb p.ring p.ring refl))

same-are : (p q : Payload) → same p q ≡ true → p ≡ q
same-are p q h =
    let x = and_parts (p.distance == q.distance) (same_parent p.parent q.parent && (p.ring == q.ring)) h in
    let y = and_parts (same_parent p.parent q.parent) (p.ring == q.ring) x.1 in
    ap (λ d. record p { distance = d }) (eqb-true p.distance q.distance x.0)
    ∙ ap (λ o. record p { distance = q.distance; parent = o }) (parents-are p.parent q.parent y.0)
    ∙ ap (λ r. record q { ring = r }) (eqb-true p.ring q.ring y.1)

-- ---- what was said

abbrev was_said : List Payload → Payload → Bool
was_said said p = list_any (same p) said

always-said : (said : List Payload) (w : World) (es : List Event) (u v : ℕ) → ((p : Payload) → was_said (said_in w es u v) p ≡ true → was_said said p ≡ true)
    → AlwaysPresent (was_said said) w es u v
always-said said w [] u v all = all (present w u v) (or_left (same (present w u v) (present w u v)) false (same-itself (present w u v)))
always-said said w (e ∷ es) u v all =
    let now = present w u v in (
      all now (or_left (same now now) (was_said (said_in (step w e) es u v) now) (same-itself now)),
      always-said said (step w e) es u v (λ p h. all p (or_right (same p now) (was_said (said_in (step w e) es u v) p) h)),
    )

pub payloads-converge : Below → PayloadsConverge
payloads-converge b w first es u v r undamaged joined early three =
    let p = b.parts w first es undamaged in
    let mid = run w first in
    let on : are_joined mid.net.edges u v ≡ true = ap (λ n. are_joined n.edges u v) (b.network w first p.0) ∙ joined in
    let said = said_in mid es u v in
    let f = b.fresh (was_said said) mid es u v (b.ranges w first r) p.1 on (b.links w first r p.0 early u v on) three (always-said said mid es u v (λ p h. h)) in (
      Contains-from_any same-are (((run mid es).node u).port v).staged said f.0,
      Contains-from_any same-are (((run mid es).node v).port u).copy said f.1,
    )
