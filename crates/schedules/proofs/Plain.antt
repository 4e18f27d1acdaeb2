-- Lists of ticks, sends and takes at nodes and links of a network: they are accepted, and no
-- damage.
use Rattle.std.proofs.Common.{◌≡◌, ◌∙◌, ℕ, ◌+◌, ◌<◌, Bool, true, false, zero, suc, None, List, [], ◌∷◌, ◌++◌, map, filter, refl, arith}
use Rattle.std.proofs.lemmas.Grind.{common_steps}
use Rattle.std.proofs.lemmas.Bool.Decides.{nat_tests}
use Rattle.std.specs.Prelude.{if◌then◌else◌}
use Rattle.std.specs.List.{AllByRecursion, flat_map, range_with_len}
use Rattle.topology.specs.Network.{Network, are_joined, neighbours_of}
use Rattle.configuration.specs.run_model.World.{World}
use Rattle.configuration.specs.run_model.Step.{refusal, step}
use Rattle.configuration.specs.run_model.Run.{run, IsUndamaged}
use Rattle.configuration.specs.run_model.Laws.{NetworkStays}
use Rattle.configuration.specs.run_model.declared.event.Event.{Event}
use Rattle.configuration.specs.run_model.declared.event.Event.TheVariants.{Send, Take, Lose, Tick, Ask, Leave, Damage}
use Rattle.damage_tool.specs.Laws.{AreAccepted}
use Rattle.damage_tool.proofs.Neighbours.{IsLink, all-range, all-neighbours}
use Rattle.schedules.specs.Rounds.{exchanges, exchanges_from, round, rounds}

-- the event is a tick of a node, or a send or a take on a link
abbrev pub IsPlain : Network → Event → Type 0
IsPlain net (Send u v) = IsLink net u v
IsPlain net (Take u v) = IsLink net u v
IsPlain net (Tick v) = v < net.nodes
IsPlain net (Lose u v i) = ⊥
IsPlain net (Ask v t) = ⊥
IsPlain net (Leave v t) = ⊥
IsPlain net (Damage h) = ⊥

abbrev pub ArePlain : Network → List Event → Type 0
ArePlain net es = AllByRecursion (IsPlain net) es

pub plain-append : (net : Network) (xs ys : List Event) → ArePlain net xs → ArePlain net ys → ArePlain net (xs ++ ys)
plain-append net [] ys a b = b
plain-append net (x ∷ xs) ys (one, rest) b = (one, plain-append net xs ys rest b)

pub plain-undamaged : (net : Network) (w : World) (es : List Event) → ArePlain net es → IsUndamaged w es
plain-undamaged net w [] all = refl
plain-undamaged net w (Send u v ∷ es) all = plain-undamaged net (step w (Send u v)) es all.1
plain-undamaged net w (Take u v ∷ es) all = plain-undamaged net (step w (Take u v)) es all.1
plain-undamaged net w (Tick v ∷ es) all = plain-undamaged net (step w (Tick v)) es all.1
plain-undamaged net w (Lose u v i ∷ es) all = absurd all.0
plain-undamaged net w (Ask v t ∷ es) all = absurd all.0
plain-undamaged net w (Leave v t ∷ es) all = absurd all.0
plain-undamaged net w (Damage h ∷ es) all = absurd all.0

tick-accepted : (net : Network) (w : World) (v : ℕ) → w.net ≡ net → v < net.nodes → refusal w (Tick v) ≡ None
tick-accepted net w v same node = grind (arith, common_steps, nat_tests)

pub send-accepted : (net : Network) (w : World) (u v : ℕ) → w.net ≡ net → IsLink net u v → refusal w (Send u v) ≡ None
send-accepted net w u v same link = grind (arith, common_steps, nat_tests, link.first, link.second, link.joined)

pub take-accepted : (net : Network) (w : World) (u v : ℕ) → w.net ≡ net → IsLink net u v → refusal w (Take u v) ≡ None
take-accepted net w u v same link = grind (arith, common_steps, nat_tests, link.first, link.second, link.joined)

-- ---- the events of rounds are plain

pub plain-each : (net : Network) (f : ℕ → List Event) (xs : List ℕ) → AllByRecursion (λ x. ArePlain net (f x)) xs → ArePlain net (flat_map f xs)
plain-each net f [] all = tt
plain-each net f (x ∷ xs) (one, rest) = plain-append net (f x) (flat_map f xs) one (plain-each net f xs rest)

plain-ticks : (net : Network) (xs : List ℕ) → AllByRecursion (λ v. v < net.nodes) xs → ArePlain net (map Tick xs)
plain-ticks net [] all = tt
plain-ticks net (x ∷ xs) (one, rest) = (one, plain-ticks net xs rest)

pub plain-exchanges : (net : Network) (u v n : ℕ) → IsLink net u v → ArePlain net (exchanges u v n)
plain-exchanges net u v zero link = tt
plain-exchanges net u v (suc n) link = (link, (link, plain-exchanges net u v n link))

pub plain-from : (net : Network) (u : ℕ) → u < net.nodes → ArePlain net (exchanges_from net u)
plain-from net u node =
    plain-each net (λ v. exchanges u v (net.capacity + 1)) (neighbours_of net u)
    (all-neighbours (λ v. ArePlain net (exchanges u v (net.capacity + 1))) net u node (λ v link. plain-exchanges net u v (net.capacity + 1) link))

pub plain-all-ticks : (net : Network) → ArePlain net (map Tick (range_with_len 0 net.nodes))
plain-all-ticks net =
    plain-ticks net (range_with_len 0 net.nodes) (all-range (λ v. v < net.nodes) 0 net.nodes (λ v below. let b : v < net.nodes = omega arith in b))

pub all-from : (net : Network) → AllByRecursion (λ u. ArePlain net (exchanges_from net u)) (range_with_len 0 net.nodes)
all-from net = all-range (λ u. ArePlain net (exchanges_from net u)) 0 net.nodes (λ u below. plain-from net u (omega arith))

pub plain-round : (net : Network) → ArePlain net (round net)
plain-round net =
    plain-append net (map Tick (range_with_len 0 net.nodes)) (flat_map (exchanges_from net) (range_with_len 0 net.nodes)) (plain-all-ticks net)
    (plain-each net (exchanges_from net) (range_with_len 0 net.nodes) (all-from net))

pub plain-rounds : (net : Network) (n : ℕ) → ArePlain net (rounds net n)
plain-rounds net zero = tt
plain-rounds net (suc n) = plain-append net (round net) (rounds net n) (plain-round net) (plain-rounds net n)

-- ---- plain events in a run

module _ (network : NetworkStays) (net : Network) where
  pub plain-net : (w : World) (es : List Event) → w.net ≡ net → ArePlain net es → (run w es).net ≡ net
  plain-net w es same all = network w es (plain-undamaged net w es all) ∙ same

  pub plain-step : (w : World) (e : Event) → w.net ≡ net → IsPlain net e → (step w e).net ≡ net
  plain-step w e same one = plain-net w (e ∷ []) same (one, tt)

  one-accepted : (w : World) (e : Event) → w.net ≡ net → IsPlain net e → refusal w e ≡ None
  one-accepted w (Send u v) same one = send-accepted net w u v same one
  one-accepted w (Take u v) same one = take-accepted net w u v same one
  one-accepted w (Tick v) same one = tick-accepted net w v same one
  one-accepted w (Lose u v i) same one = absurd one
  one-accepted w (Ask v t) same one = absurd one
  one-accepted w (Leave v t) same one = absurd one
  one-accepted w (Damage h) same one = absurd one

  pub plain-accepted : (w : World) (es : List Event) → w.net ≡ net → ArePlain net es → AreAccepted w es
  plain-accepted w [] same all = tt
  plain-accepted w (e ∷ es) same (one, rest) = (one-accepted w e same one, plain-accepted (step w e) es (plain-step w e same one) rest)
