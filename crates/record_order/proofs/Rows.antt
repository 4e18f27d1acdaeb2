-- Records of two nodes.
use Rattle.std.proofs.Common.{◌≡◌, ℕ, List, [], ◌∷◌, None, Some, refl, sym, subst, ◌+◌, ◌==◌, if◌then◌else◌, arith, zero, suc}
use Rattle.record_order.specs.declared.ready.Step.{Step}
use Rattle.record_order.specs.Order.{ready_instant, earlier}
use Rattle.record_order.specs.Laws.{IsMet, IsReady, Goes, nothing}

-- a send at 9, and a take of it at 5 of a clock that is late
abbrev send : Step
send = record { instant = 9; need = None }

abbrev take_of : ℕ → ℕ → Step
take_of node count = record { instant = 5; need = Some (record { node = node; count = count }) }

-- node 0 sends, node 1 takes
abbrev records : ℕ → List Step
records zero = send ∷ []
records (suc zero) = take_of 0 1 ∷ []
records (suc (suc v)) = []

not-yet : ready_instant (0 ∷ 0 ∷ []) (Some (take_of 0 1)) ≡ None
not-yet = refl

then : ready_instant (1 ∷ 0 ∷ []) (Some (take_of 0 1)) ≡ Some 5
then = refl

the-sooner : earlier (Some (0, 9)) 1 (Some 5) ≡ Some (1, 5)
the-sooner = refl

the-first_of_two : earlier (Some (0, 9)) 1 (Some 9) ≡ Some (0, 9)
the-first_of_two = refl

-- the take comes after the send, for all that its instant is earlier
send-then-take : Goes records nothing (0 ∷ 1 ∷ []) (λ v. if v == 1 then (if v == 0 then 0 + 1 else 0) + 1 else (if v == 0 then 0 + 1 else 0))
send-then-take = ((send, [], refl, tt), ((take_of 0 1, [], refl, omega arith), λ v. refl))

not-take-first : (last : ℕ → ℕ) → Goes records nothing (1 ∷ 0 ∷ []) last → ⊥
not-take-first last h =
    let e : ◌≡◌ {A = List Step} (take_of 0 1 ∷ []) (h.0.0 ∷ h.0.1) = h.0.2 in
    let same : take_of 0 1 ≡ h.0.0 = cc in
    let met = subst (λ (s : Step). IsMet nothing s.need) (sym same) h.0.3 in omega (arith, met)

-- each takes what the other sends only after it: no order
abbrev knot : ℕ → List Step
knot zero = take_of 1 1 ∷ []
knot (suc zero) = take_of 0 1 ∷ []
knot (suc (suc v)) = []

stuck-0 : IsReady knot nothing 0 → ⊥
stuck-0 h =
    let e : ◌≡◌ {A = List Step} (take_of 1 1 ∷ []) (h.0 ∷ h.1) = h.2 in
    let same : take_of 1 1 ≡ h.0 = cc in
    let met = subst (λ (s : Step). IsMet nothing s.need) (sym same) h.3 in omega (arith, met)
