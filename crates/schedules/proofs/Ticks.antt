-- The ticks of a round are full if each node's tick is.
use Rattle.std.proofs.Common.{◌≡◌, ◌∙◌, ℕ, ◌+◌, ◌<◌, ◌≤◌, Bool, true, false, zero, suc, List, [], ◌∷◌, ◌++◌, map, refl, sym, ap, subst, inl, inr, arith}
use Rattle.std.proofs.lemmas.Bool.Decides.{nat_tests}
use Rattle.std.specs.Prelude.{◌⊎◌, ◌==◌, ◌||◌, ◌&&◌, is_none}
use Rattle.std.specs.List.{range_with_len}
use Rattle.topology.specs.Network.{Network}
use Rattle.configuration.specs.node_core.Site.{site_of}
use Rattle.configuration.specs.node_core.State.{LocalState}
use Rattle.configuration.specs.node_core.Step.{ticked}
use Rattle.configuration.specs.run_model.World.{World}
use Rattle.configuration.specs.run_model.Step.{step}
use Rattle.configuration.specs.run_model.Sweep.{is_full_tick, has_full_tick}
use Rattle.configuration.specs.run_model.Ticks.{TicksAreAccepted}
use Rattle.configuration.specs.run_model.Laws.{NetworkStays, OwnNodeAlone}
use Rattle.configuration.specs.run_model.declared.event.Event.{Event}
use Rattle.configuration.specs.run_model.declared.event.Event.TheVariants.{Tick}
use Rattle.schedules.proofs.Plain.{plain-step}

or-more : (a b c : Bool) → (b ≡ true → c ≡ true) → (a || b) ≡ true → (a || c) ≡ true
or-more true b c f h = refl
or-more false b c f h = f h

or-first : (a b : Bool) → a ≡ true → (a || b) ≡ true
or-first true b h = refl
or-first false b h = absurd (grind arith)

or-second : (a b : Bool) → b ≡ true → (a || b) ≡ true
or-second true b h = refl
or-second false b h = h

-- events after a list that has a full tick take nothing of that
pub ticked-front : (w : World) (xs ys : List Event) (v : ℕ) → has_full_tick w xs v ≡ true → has_full_tick w (xs ++ ys) v ≡ true
ticked-front w [] ys v h = absurd (grind arith)
ticked-front w (e ∷ xs) ys v h =
    or-more (is_full_tick w e v) (has_full_tick (step w e) xs v) (has_full_tick (step w e) (xs ++ ys) v) (ticked-front (step w e) xs ys v) h

-- a node in this state lends to nobody after its next tick
abbrev pub lends_no_more : Network → ℕ → LocalState → Bool
lends_no_more net v s = is_none (ticked (site_of net v) s).desk.lent

same-test : (v : ℕ) (b : Bool) → ((v == v) && b) ≡ b
same-test v b = grind (arith, nat_tests)

pub tick-is : TicksAreAccepted → (net : Network) (w : World) (v : ℕ) → w.net ≡ net → v < net.nodes
    → is_full_tick w (Tick v) v ≡ lends_no_more net v (w.node v)
tick-is accepted net w v same node =
    let there : v < w.net.nodes = subst (λ (n : Network). v < n.nodes) (sym same) node in
    same-test v (is_none ((step w (Tick v)).node v).desk.lent)
    ∙ ap (λ (s : LocalState). is_none s.desk.lent) (accepted w v there)
    ∙ ap (λ (n : Network). is_none (ticked (site_of n v) (w.node v)).desk.lent) same

split : (i v : ℕ) → i ≤ v → (i ≡ v) ⊎ (((i == v) ≡ false) × (i + 1 ≤ v))
split i v low = grind (arith, nat_tests)

either-way : (i v : ℕ) → i ≤ v → (P : Type 0) → (i ≡ v → P) → ((i == v) ≡ false → i + 1 ≤ v → P) → P
either-way i v low P here later = elim (split i v low) [ inl e ↦ here e | inr e ↦ later e.0 e.1 ]

module _ (accepted : TicksAreAccepted) (own : OwnNodeAlone) (network : NetworkStays) (net : Network) where
  ticks-from : (v i n : ℕ) (w : World) → w.net ≡ net → i ≤ v → v < i + n → i + n ≤ net.nodes → lends_no_more net v (w.node v) ≡ true
      → has_full_tick w (map Tick (range_with_len i n)) v ≡ true
  ticks-from v i zero w same low high top full = absurd (omega arith)
  ticks-from v i (suc n) w same low high top full =
      let rest = has_full_tick (step w (Tick i)) (map Tick (range_with_len (i + 1) n)) v in
      let here : (i ≡ v) → has_full_tick w (map Tick (range_with_len i (suc n))) v ≡ true =
      λ e. or-first (is_full_tick w (Tick i) v) rest
      (subst (λ j. is_full_tick w (Tick j) v ≡ true) (sym e) (tick-is accepted net w v same (omega arith) ∙ full))
      in
      let later : (i == v) ≡ false → i + 1 ≤ v → has_full_tick w (map Tick (range_with_len i (suc n))) v ≡ true =
      λ apart more. or-second (is_full_tick w (Tick i) v) rest
      (ticks-from v (i + 1) n (step w (Tick i)) (plain-step network net w (Tick i) same (omega arith)) more (omega arith) (omega arith)
      (ap (lends_no_more net v) (own w (Tick i) v apart) ∙ full))
      in
      either-way i v low (has_full_tick w (map Tick (range_with_len i (suc n))) v ≡ true) here later

  pub ticks-full : (v : ℕ) (w : World) → w.net ≡ net → v < net.nodes → is_full_tick w (Tick v) v ≡ true
      → has_full_tick w (map Tick (range_with_len 0 net.nodes)) v ≡ true
  ticks-full v w same node full = ticks-from v 0 net.nodes w same (omega arith) (omega arith) (omega arith) (sym (tick-is accepted net w v same node) ∙ full)
