-- A round is a sweep.
use Rattle.std.proofs.Common.{◌≡◌, ◌∙◌, ℕ, ◌<◌, false, zero, suc, None, List, [], ◌∷◌, ◌++◌, map, refl, sym, ap, subst, arith, Bool, inl, inr}
use Rattle.std.proofs.lemmas.Grind.{common_steps}
use Rattle.std.proofs.lemmas.Bool.Decides.{nat_tests}
use Rattle.std.proofs.lemmas.List.{append-nil}
use Rattle.std.specs.Prelude.{◌⊎◌, ◌==◌, is_none}
use Rattle.std.specs.List.{flat_map, range_with_len}
use Rattle.topology.specs.Network.{Network}
use Rattle.damage_tool.specs.lock_desk.Desk.{DeskState, desk_ticked}
use Rattle.configuration.specs.node_core.Site.{Site, site_of}
use Rattle.configuration.specs.node_core.State.{LocalState}
use Rattle.configuration.specs.node_core.Step.{ticked, recomputed}
use Rattle.configuration.specs.node_core.Machines.{is_node_privileged}
use Rattle.configuration.specs.run_model.World.{World, IsWorldInRange, site}
use Rattle.configuration.specs.run_model.Step.{step}
use Rattle.configuration.specs.run_model.Run.{run, IsUndamaged}
use Rattle.configuration.specs.run_model.Sweep.{IsSweep, Sweeps}
use Rattle.configuration.specs.run_model.Strict.{IsStrictSweep, StrictSweeps}
use Rattle.configuration.specs.run_model.declared.event.Event.{Event}
use Rattle.configuration.specs.run_model.declared.event.Event.TheVariants.{Send, Take, Lose, Tick, Ask, Leave, Damage}
use Rattle.schedules.specs.Rounds.{exchanges_from, round, rounds}
use Rattle.schedules.specs.Below.{Below}
use Rattle.schedules.specs.Laws.{AreTicksFull, AreTicksFullFor, IsIdle}
use Rattle.damage_tool.proofs.Neighbours.{IsLink}
use Rattle.schedules.proofs.Plain.{IsPlain, ArePlain, plain-net, plain-step, plain-undamaged, plain-round, plain-all-ticks}
use Rattle.schedules.proofs.Exchanges.{handed-append, all-hand}
use Rattle.schedules.proofs.Ticks.{ticked-front, ticks-full, tick-is}

-- nobody waits at the desk, and it lends to nobody
abbrev pub HasNoClient : DeskState → Type 0
HasNoClient d = (d.waiting ≡ []) × (d.lent ≡ None)

-- no desk of these nodes has
abbrev pub IsIdleOn : Network → World → Type 0
IsIdleOn net w = (v : ℕ) → v < net.nodes → HasNoClient (w.node v).desk

desk-idle : (lease : ℕ) (privileged : Bool) (d : DeskState) → d.waiting ≡ [] → d.lent ≡ None → HasNoClient (desk_ticked lease privileged d)
desk-idle lease privileged d empty none = grind (arith, common_steps, nat_tests)

ticked-idle : (site : Site) (s : LocalState) → HasNoClient s.desk → HasNoClient (ticked site s).desk
ticked-idle site s (empty, none) = desk-idle site.lease (is_node_privileged site (recomputed site s)) s.desk empty none

take-desk : (w : World) (a b v : ℕ) → ((step w (Take a b)).node v).desk ≡ (w.node v).desk
take-desk w a b v = grind (arith, common_steps)

same-or-not : (a v : ℕ) → (a ≡ v) ⊎ ((a == v) ≡ false)
same-or-not a v = grind (arith, nat_tests)

module _ (known : Below) where
  round-strict : (w : World) → IsWorldInRange w → AreTicksFull w → IsStrictSweep w (round w.net)
  round-strict w ok full =
      let net = w.net in
      let ticks = map Tick (range_with_len 0 net.nodes) in
      let links = flat_map (exchanges_from net) (range_with_len 0 net.nodes) in
      record {
        undamaged = plain-undamaged net w (round net) (plain-round net);
        ticked = λ v node. ticked-front w ticks links v (ticks-full known.accepted known.own known.network net v w refl node (full v node));
        handed = λ u v joined.
            let ends = known.nodes net u v ok.network joined in
            let link : IsLink net u v = record { first = ends.0; second = ends.1; joined = joined } in
            let both = handed-append w ticks links u v in
            let many = all-hand known.network net u v link ok.network.limits.some_capacity (run w ticks) (plain-net known.network net w ticks refl (plain-all-ticks net)) in
            omega (arith, both, many);
      }

  -- n strict sweeps, one after the other
  rounds-strict : (net : Network) (w : World) (n : ℕ) → w.net ≡ net → IsWorldInRange w → AreTicksFullFor w n → StrictSweeps w n (rounds net n)
  rounds-strict net w zero same ok full = tt
  rounds-strict net w (suc n) same ok (now, later) =
      let there = plain-net known.network net w (round net) same (plain-round net) in
      let here : IsStrictSweep w (round net) = subst (λ (x : Network). IsStrictSweep w (round x)) same (round-strict w ok now) in
      let after : AreTicksFullFor (run w (round net)) n = subst (λ (x : Network). AreTicksFullFor (run w (round x)) n) same later in
      (round net, rounds net n, refl, here, rounds-strict net (run w (round net)) n there (known.ranges w (round net) ok) after)

  pub rounds-sweep : (w : World) (n : ℕ) → IsWorldInRange w → AreTicksFullFor w n → Sweeps w n (rounds w.net n)
  rounds-sweep w n ok full = known.strict w n (rounds w.net n) ok (rounds-strict w.net w n refl ok full)

  pub round-sweeps : (w : World) → IsWorldInRange w → AreTicksFull w → IsSweep w (round w.net)
  round-sweeps w ok full =
      let es = round w.net in
      let (first, rest, parts, sweep, more) = known.strict w 1 es ok (es, [], sym (append-nil es), round-strict w ok full, tt) in
      let whole : IsSweep w (first ++ rest) = known.grows w [] first rest ok (subst (IsUndamaged w) parts (plain-undamaged w.net w es (plain-round w.net))) sweep in
      subst (IsSweep w) (sym parts) whole

  -- ---- if no client waits and no node lends

  tick-idle : (net : Network) (w : World) (a v : ℕ) → w.net ≡ net → v < net.nodes → HasNoClient (w.node v).desk → HasNoClient ((step w (Tick a)).node v).desk
  tick-idle net w a v same node idle =
      let there : v < w.net.nodes = subst (λ (n : Network). v < n.nodes) (sym same) node in
      let own : HasNoClient ((step w (Tick v)).node v).desk =
      subst (λ (s : LocalState). HasNoClient s.desk) (sym (known.accepted w v there)) (ticked-idle (site w v) (w.node v) idle)
      in
      elim (same-or-not a v) [
        | inl e ↦ subst (λ b. HasNoClient ((step w (Tick b)).node v).desk) (sym e) own
        | inr apart ↦ subst (λ (s : LocalState). HasNoClient s.desk) (sym (known.own w (Tick a) v apart)) idle
      ]

  step-idle : (net : Network) (w : World) (e : Event) → w.net ≡ net → IsPlain net e → IsIdleOn net w → IsIdleOn net (step w e)
  step-idle net w (Send a b) same one idle v node =
      subst HasNoClient (sym (ap (λ (s : LocalState). s.desk) (known.own w (Send a b) v refl))) (idle v node)
  step-idle net w (Take a b) same one idle v node = subst HasNoClient (sym (take-desk w a b v)) (idle v node)
  step-idle net w (Tick a) same one idle v node = tick-idle net w a v same node (idle v node)
  step-idle net w (Lose a b i) same one idle v node = absurd one
  step-idle net w (Ask a t) same one idle v node = absurd one
  step-idle net w (Leave a t) same one idle v node = absurd one
  step-idle net w (Damage h) same one idle v node = absurd one

  pub run-idle : (net : Network) (w : World) (es : List Event) → w.net ≡ net → ArePlain net es → IsIdleOn net w → IsIdleOn net (run w es)
  run-idle net w [] same all idle = idle
  run-idle net w (e ∷ es) same (one, rest) idle =
      run-idle net (step w e) es (plain-step known.network net w e same one) rest (step-idle net w e same one idle)

  pub idle-full : (net : Network) (w : World) → w.net ≡ net → IsIdleOn net w → AreTicksFull w
  idle-full net w same idle v node =
      let there : v < net.nodes = subst (λ (n : Network). v < n.nodes) same node in
      tick-is known.accepted net w v same there ∙ ap is_none (ticked-idle (site_of net v) (w.node v) (idle v there)).1

  idle-full-for : (net : Network) (w : World) (n : ℕ) → w.net ≡ net → IsIdleOn net w → AreTicksFullFor w n
  idle-full-for net w zero same idle = tt
  idle-full-for net w (suc n) same idle =
      let es = round net in
      let there = plain-net known.network net w es same (plain-round net) in
      let rest = idle-full-for net (run w es) n there (run-idle net w es same (plain-round net) idle) in
      (idle-full net w same idle, subst (λ (x : Network). AreTicksFullFor (run w (round x)) n) (sym same) rest)

  pub idle-sweep : (w : World) (n : ℕ) → IsWorldInRange w → IsIdle w → Sweeps w n (rounds w.net n)
  idle-sweep w n ok idle = rounds-sweep w n ok (idle-full-for w.net w n refl idle)
