-- How many items the exchanges of a round hand over.
use Rattle.std.proofs.Common.{◌≡◌, ◌∙◌, ℕ, ◌+◌, ◌<◌, ◌≤◌, Bool, true, false, zero, suc, None, List, [], ◌∷◌, ◌++◌, filter, sym, ap, subst, inl, inr, arith}
use Rattle.std.proofs.lemmas.Grind.{common_steps}
use Rattle.std.proofs.lemmas.Bool.Decides.{nat_tests}
use Rattle.std.specs.Prelude.{◌⊎◌, if◌then◌else◌, is_some}
use Rattle.std.specs.List.{AllByRecursion, flat_map, range_with_len}
use Rattle.topology.specs.Network.{Network, are_joined, neighbours_of}
use Rattle.damage_tool.specs.link_model.HandOver.{takes_item}
use Rattle.configuration.specs.run_model.World.{World}
use Rattle.configuration.specs.run_model.Step.{refusal, step, changed, sent}
use Rattle.configuration.specs.run_model.Run.{run}
use Rattle.configuration.specs.run_model.Sweep.{link_act}
use Rattle.configuration.specs.run_model.Strict.{handed_in}
use Rattle.configuration.specs.run_model.Laws.{NetworkStays}
use Rattle.configuration.specs.run_model.declared.event.Event.{Event}
use Rattle.configuration.specs.run_model.declared.event.Event.TheVariants.{Send, Take}
use Rattle.schedules.specs.Rounds.{exchanges, exchanges_from}
use Rattle.damage_tool.proofs.Neighbours.{IsLink, all-neighbours}
use Rattle.schedules.proofs.Plain.{ArePlain, plain-net, plain-step, plain-exchanges, all-from, send-accepted}

pub handed-append : (w : World) (xs ys : List Event) (u v : ℕ) → handed_in w (xs ++ ys) u v ≡ handed_in w xs u v + handed_in (run w xs) ys u v
handed-append w [] ys u v = grind arith
handed-append w (e ∷ xs) ys u v =
    let rest = handed-append (step w e) xs ys u v in
    omega (arith, rest)

accepted-step : (w : World) (e : Event) → refusal w e ≡ None → step w e ≡ changed w e
accepted-step w e ok = ap (λ r. if is_some r then w else changed w e) ok

-- after a send the link holds an item, which the take hands over
sent-there : (w : World) (u v : ℕ) → 1 ≤ w.net.capacity → takes_item (link_act u v (Take u v)) ((sent w u v).link u v) ≡ 1
sent-there w u v some = grind (arith, common_steps, nat_tests)

exchange-hands : (net : Network) (w : World) (u v : ℕ) → w.net ≡ net → IsLink net u v → 1 ≤ net.capacity
    → takes_item (link_act u v (Take u v)) ((step w (Send u v)).link u v) ≡ 1
exchange-hands net w u v same link some =
    let there : 1 ≤ w.net.capacity = subst (λ (n : Network). 1 ≤ n.capacity) (sym same) some in
    ap (λ (x : World). takes_item (link_act u v (Take u v)) (x.link u v)) (accepted-step w (Send u v) (send-accepted net w u v same link)) ∙ sent-there w u v there

-- one of the list
abbrev pub In : ℕ → List ℕ → Type 0
In x [] = ⊥
In x (y ∷ ys) = (x ≡ y) ⊎ In x ys

cases : (i x : ℕ) → i ≤ x → (i ≡ x) ⊎ (i + 1 ≤ x)
cases i x low = grind arith

pub in-range : (x i n : ℕ) → i ≤ x → x < i + n → In x (range_with_len i n)
in-range x i zero low high = absurd (omega arith)
in-range x i (suc n) low high =
    elim (cases i x low) [ inl same ↦ inl (sym same) | inr more ↦ inr (in-range x (i + 1) n (omega arith) (omega arith)) ]

in-longer : (x y : ℕ) (ys : List ℕ) (b : Bool) → In x ys → In x (if b then y ∷ ys else ys)
in-longer x y ys true there = inr there
in-longer x y ys false there = there

pub in-filter : (test : ℕ → Bool) (x : ℕ) (xs : List ℕ) → In x xs → test x ≡ true → In x (filter test xs)
in-filter test x [] there holds = absurd there
in-filter test x (y ∷ ys) (inl same) holds =
    let here : test y ≡ true = ap test (sym same) ∙ holds in subst (λ b. In x (if b then y ∷ filter test ys else filter test ys)) (sym here) (inl same)
in-filter test x (y ∷ ys) (inr there) holds = in-longer x y (filter test ys) (test y) (in-filter test x ys there holds)

module _ (network : NetworkStays) (net : Network) where
  exchanges-hand : (u v n : ℕ) (w : World) → w.net ≡ net → IsLink net u v → 1 ≤ net.capacity → n ≤ handed_in w (exchanges u v n) u v
  exchanges-hand u v zero w same link some = omega arith
  exchanges-hand u v (suc n) w same link some =
      let between = step w (Send u v) in
      let same2 = plain-step network net w (Send u v) same link in
      let same3 = plain-step network net between (Take u v) same2 link in
      let one = exchange-hands net w u v same link some in
      let rest = exchanges-hand u v n (step between (Take u v)) same3 link some in
      omega (arith, one, rest)

  -- what one of the parts hands over, the whole does
  hands-each : (u v k : ℕ) (f : ℕ → List Event) (x : ℕ) → ((w : World) → w.net ≡ net → k ≤ handed_in w (f x) u v)
      → (xs : List ℕ) → In x xs → AllByRecursion (λ y. ArePlain net (f y)) xs → (w : World) → w.net ≡ net → k ≤ handed_in w (flat_map f xs) u v
  hands-each u v k f x h [] there all w same = absurd there
  hands-each u v k f x h (y ∷ ys) (inl this) all w same =
      let both = handed-append w (f y) (flat_map f ys) u v in
      let part : k ≤ handed_in w (f y) u v = subst (λ z. k ≤ handed_in w (f z) u v) this (h w same) in
      omega (arith, both, part)
  hands-each u v k f x h (y ∷ ys) (inr there) (one, rest) w same =
      let both = handed-append w (f y) (flat_map f ys) u v in
      let part = hands-each u v k f x h ys there rest (run w (f y)) (plain-net network net w (f y) same one) in
      omega (arith, both, part)

  pub all-hand : (u v : ℕ) → IsLink net u v → 1 ≤ net.capacity → (w : World) → w.net ≡ net
      → net.capacity + 1 ≤ handed_in w (flat_map (exchanges_from net) (range_with_len 0 net.nodes)) u v
  all-hand u v link some w same =
      let k = net.capacity + 1 in
      let here : (w2 : World) → w2.net ≡ net → k ≤ handed_in w2 (exchanges_from net u) u v =
      hands-each u v k (λ z. exchanges u z k) v (λ w3 same3. exchanges-hand u v k w3 same3 link some) (neighbours_of net u)
      (in-filter (are_joined net.edges u) v (range_with_len 0 net.nodes) (in-range v 0 net.nodes (omega arith) (omega (arith, link.second))) link.joined)
      (all-neighbours (λ z. ArePlain net (exchanges u z k)) net u link.first (λ z link2. plain-exchanges net u z k link2))
      in
      hands-each u v k (exchanges_from net) u here (range_with_len 0 net.nodes) (in-range u 0 net.nodes (omega arith) (omega (arith, link.first))) (all-from net)
      w same
