-- A full tick of an account, inside a stretch of instants, is one of the marks of that stretch.
use Rattle.std.proofs.Common.{◌≡◌, ◌⊎◌, inl, inr, ℕ, suc, ◌*◌, ◌<◌, ◌≤◌, ◌&&◌, ◌||◌, List, [], ◌∷◌, ◌++◌, map, IsTrue, is_none, Bool, true, false, refl, ap, ◌∙◌, sym, subst, arith}
use Rattle.std.proofs.lemmas.Bool.{cases_eq}
use Rattle.std.proofs.lemmas.Grind.{common_steps}
use Rattle.std.specs.List.{AllByRecursion}
use Rattle.topology.specs.At.{at}
use Rattle.node_core.specs.Site.{Site, site_of}
use Rattle.node_core.specs.State.{LocalState}
use Rattle.run_model.specs.World.{World}
use Rattle.run_model.specs.Step.{step}
use Rattle.run_model.specs.Run.{run}
use Rattle.run_model.specs.Sweep.{is_full_tick, has_full_tick}
use Rattle.node_core.specs.Deeds.{Deed, Ticks, Sends, Takes, Asks, Leaves}
use Rattle.processes.specs.Marks.{Mark, Does, Drops, event_of, mark_moment, account_of}
use Rattle.processes.specs.Timing.{after_deed, is_in, is_full, ticks_fully_in}
use Rattle.processes.proofs.Lists.{left-or, right-or}
use Rattle.processes.proofs.OneMark.{done-here, done-there, take-here}
use Rattle.processes.proofs.Steps.{Holds, AreNodes, is-own, somebody, tick-step, ask-step, leave-step, take-step, take-fine}
use Rattle.processes.proofs.Runs.{mark-goes-on}
use Rattle.topology.specs.Network.{are_joined}
use Rattle.topology.specs.Laws.{NeighboursAreJoined, JoinedBack}
use Rattle.link_model.specs.declared.item.Item.TheVariants as item
use Rattle.processes.specs.Links.{Plays, Gives}
use Rattle.processes.specs.Marks.{history_of}
use Rattle.run_model.specs.declared.event.Event.TheVariants.{Send, Lose, Tick}

-- what a mark makes of node v
abbrev pub node_after : World → Mark → ℕ → LocalState
node_after w (Does t a d) v = at w.node a (after_deed (site_of w.net a) d (w.node a)) v
node_after w (Drops t a b i) v = w.node v

-- the mark is v's, or it leaves v and its account alone
abbrev pub IsOf : World → ℕ → Mark → List Mark → Type 0
IsOf w v m ms =
    ((t : ℕ) × (d : Deed) × (m ≡ Does t v d))
    ⊎ ((account_of v (m ∷ ms) ≡ account_of v ms) × (node_after w m v ≡ w.node v))

of-whom : (w : World) (v : ℕ) (m : Mark) (ms : List Mark) → IsOf w v m ms
of-whom w v (Drops t a b i) ms = inr (refl, refl)
of-whom w v (Does t a d) ms = elim (cases_eq v a) [
  | inl same ↦ inl (t, d, ap (λ x. Does t x d) (sym same))
  | inr apart ↦ inr (done-there t a d ms v apart, grind (arith, common_steps))
]

-- the first of an account's deeds is the full tick, or one of the others is
tick-first : (site : Site) (v s e t : ℕ) (d : Deed) (ms : List Mark) (x : LocalState)
    → IsTrue (ticks_fully_in site s e (account_of v (Does t v d ∷ ms)) x)
    → (IsTrue (is_in s e t) × IsTrue (is_full site d x)) ⊎ IsTrue (ticks_fully_in site s e (account_of v ms) (after_deed site d x))
tick-first site v s e t d ms x h =
    let h2 = subst (λ ts. IsTrue (ticks_fully_in site s e ts x)) (done-here t v d ms) h in
    split (is_in s e t) (is_full site d x) (ticks_fully_in site s e (account_of v ms) (after_deed site d x)) h2
  where
    split : (a b c : Bool) → IsTrue ((a && b) || c) → (IsTrue a × IsTrue b) ⊎ IsTrue c
    split true true c h = inl (refl, refl)
    split true false c h = inr h
    split false b c h = inr h

-- nothing of what comes later is inside
pub late : (site : Site) (v s e : ℕ) (ms : List Mark) (x : LocalState) → AllByRecursion (λ m. 2 * e ≤ mark_moment m) ms
    → IsTrue (ticks_fully_in site s e (account_of v ms) x) → ⊥
late site v s e [] x all h = absurd cc
late site v s e (Drops t a b i ∷ ms) x all h = late site v s e ms x all.1 h
late site v s e (Does t a d ∷ ms) x all h = elim (cases_eq v a) [
  | inl same ↦
      let h2 = subst (λ y. IsTrue (ticks_fully_in site s e (account_of v (Does t y d ∷ ms)) x)) (sym same) h in
      elim (tick-first site v s e t d ms x h2) [
        | inl now ↦ let l = all.0 in let i = now.0 in out t s e l i
        | inr rest ↦ late site v s e ms (after_deed site d x) all.1 rest
      ]
  | inr apart ↦ late site v s e ms x all.1 (subst (λ ts. IsTrue (ticks_fully_in site s e ts x)) (done-there t a d ms v apart) h)
] where
  out : (t s e : ℕ) → 2 * e ≤ suc (2 * t) → IsTrue (is_in s e t) → ⊥
  out t s e l i = grind (arith, common_steps)

send-node : (w : World) (a b v : ℕ) → (step w (Send a b)).node v ≡ w.node v
send-node w a b v = grind (arith, common_steps)

lose-node : (w : World) (a b i v : ℕ) → (step w (Lose a b i)).node v ≡ w.node v
lose-node w a b i v = grind (arith, common_steps)

own-node : (f : ℕ → LocalState) (a v : ℕ) → f v ≡ at f a (f a) v
own-node f a v = grind (arith, common_steps)

-- if v does the deed, that is its state
own-state : (f : ℕ → LocalState) (v : ℕ) (x : LocalState) → at f v x v ≡ x
own-state f v x = grind (arith, common_steps)

full-here : (w : World) (v : ℕ) (x : LocalState) → (step w (Tick v)).node v ≡ x → IsTrue (is_none x.desk.lent) → IsTrue (is_full_tick w (Tick v) v)
full-here w v x is none = grind (arith, common_steps)

since-moment : (s e t : ℕ) → IsTrue (is_in s e t) → 2 * s ≤ suc (2 * t)
since-moment s e t i = grind (arith, common_steps)

module _ (near : NeighboursAreJoined) (back : JoinedBack) where
  -- the event of a mark does to each node what the mark says
  node-step : (w last : World) (m : Mark) (ms : List Mark) → AreNodes w → Holds w (m ∷ ms) last → (v : ℕ) → (step w (event_of m)).node v ≡ node_after w m v
  node-step w last (Drops t a b i) ms nodes h v = lose-node w a b i v
  node-step w last (Does t a Ticks) ms nodes h v = ap (λ x. x.node v) (tick-step w a (somebody w last t a Ticks ms h)).1
  node-step w last (Does t a (Sends b f)) ms nodes h v = send-node w a b v ∙ own-node w.node a v
  node-step w last (Does t a (Asks k)) ms nodes h v =
      ap (λ x. x.node v) (ask-step w a k (somebody w last t a (Asks k) ms h) (is-own w last ms t a (Asks k) h))
  node-step w last (Does t a (Leaves k)) ms nodes h v = ap (λ x. x.node v) (leave-step w a k (somebody w last t a (Leaves k) ms h))
  node-step w last (Does t a (Takes u f)) ms nodes h v =
      let joined-back = ((near w.net a u).0 (is-own w last ms t a (Takes u f) h)).1 in
      let joined : IsTrue (are_joined w.net.edges u a) = subst IsTrue (back w.net.edges a u) joined-back in
      let fine = take-fine w u a (nodes u a joined) joined in
      let here : Plays w.net.capacity (w.link u a) (Gives t f ∷ history_of u a ms) (last.link u a)
      = subst (λ xs. Plays w.net.capacity (w.link u a) xs (last.link u a)) (take-here t a u f ms) (h.links u a joined) in
      ap (λ x. x.node v) (take-step w u a (item.Frame f) here.0 fine here.1)

  nodes-on : (w : World) (e : World) → e.net ≡ w.net → AreNodes w → AreNodes e
  nodes-on w e same nodes = subst (λ net. (u v : ℕ) → IsTrue (are_joined net.edges u v) → (u < net.nodes) × (v < net.nodes)) (sym same) nodes

  -- what holds of all marks holds of those that are left
  pub holds-after : (w last : World) (before rest : List Mark) → AreNodes w → Holds w (before ++ rest) last
      → Holds (run w (map event_of before)) rest last × AreNodes (run w (map event_of before)) × ((run w (map event_of before)).net ≡ w.net)
  holds-after w last [] rest nodes h = (h, nodes, refl)
  holds-after w last (m ∷ ms) rest nodes h =
      let on = mark-goes-on near back w last m (ms ++ rest) nodes h in
      let now = step w (event_of m) in
      let next = holds-after now last ms rest (nodes-on w now on.network nodes) on.holds in
      (next.0, next.1, next.2 ∙ on.network)

  abbrev TicksIn : World → ℕ → ℕ → ℕ → List Mark → Type 0
  TicksIn w v s e ms = IsTrue (ticks_fully_in (site_of w.net v) s e (account_of v ms) (w.node v))

  -- the first mark is the full tick, or one of the others is
  tick-step-on : (w last : World) (m : Mark) (ms : List Mark) (v s e : ℕ) → AreNodes w → Holds w (m ∷ ms) last → TicksIn w v s e (m ∷ ms)
      → (IsTrue (is_full_tick w (event_of m) v) × (2 * s ≤ mark_moment m)) ⊎ TicksIn (step w (event_of m)) v s e ms
  tick-step-on w last m ms v s e nodes h ticks =
      let on = mark-goes-on near back w last m ms nodes h in
      go m (node-step w last m ms nodes h v) on.network ticks (of-whom w v m ms)
    where
      full : (d : Deed) → (step w (event_of (Does 0 v d))).node v ≡ after_deed (site_of w.net v) d (w.node v) → IsTrue (is_full (site_of w.net v) d (w.node v)) → IsTrue (is_full_tick w (event_of (Does 0 v d)) v)
      full Ticks is h = full-here w v (after_deed (site_of w.net v) Ticks (w.node v)) is h
      full (Sends b f) is h = absurd cc
      full (Takes b f) is h = absurd cc
      full (Asks k) is h = absurd cc
      full (Leaves k) is h = absurd cc

      own-does : (t : ℕ) (d : Deed) → (step w (event_of (Does t v d))).node v ≡ node_after w (Does t v d) v → (step w (event_of (Does t v d))).net ≡ w.net → TicksIn w v s e (Does t v d ∷ ms)
          → (IsTrue (is_full_tick w (event_of (Does t v d)) v) × (2 * s ≤ mark_moment (Does t v d))) ⊎ TicksIn (step w (event_of (Does t v d))) v s e ms
      own-does t d is net ticks =
          let now : (step w (event_of (Does t v d))).node v ≡ after_deed (site_of w.net v) d (w.node v) = is ∙ own-state w.node v (after_deed (site_of w.net v) d (w.node v)) in
          elim (tick-first (site_of w.net v) v s e t d ms (w.node v) ticks) [
            | inl both ↦ inl (full d now both.1, since-moment s e t both.0)
            | inr rest ↦
                let t2 = subst (λ x. IsTrue (ticks_fully_in (site_of w.net v) s e (account_of v ms) x)) (sym now) rest in
                inr (subst (λ n. IsTrue (ticks_fully_in (site_of n v) s e (account_of v ms) ((step w (event_of (Does t v d))).node v))) (sym net) t2)
          ]

      own-go : (t : ℕ) (d : Deed) (m : Mark) → m ≡ Does t v d → (step w (event_of m)).node v ≡ node_after w m v → (step w (event_of m)).net ≡ w.net → TicksIn w v s e (m ∷ ms)
          → (IsTrue (is_full_tick w (event_of m) v) × (2 * s ≤ mark_moment m)) ⊎ TicksIn (step w (event_of m)) v s e ms
      own-go t d m own =
          subst (λ m. (step w (event_of m)).node v ≡ node_after w m v → (step w (event_of m)).net ≡ w.net → TicksIn w v s e (m ∷ ms)
          → (IsTrue (is_full_tick w (event_of m) v) × (2 * s ≤ mark_moment m)) ⊎ TicksIn (step w (event_of m)) v s e ms) (sym own) (own-does t d)

      go : (m : Mark) → (step w (event_of m)).node v ≡ node_after w m v → (step w (event_of m)).net ≡ w.net → TicksIn w v s e (m ∷ ms) → IsOf w v m ms
          → (IsTrue (is_full_tick w (event_of m) v) × (2 * s ≤ mark_moment m)) ⊎ TicksIn (step w (event_of m)) v s e ms
      go m is net ticks (inr other) =
          let t1 = subst (λ ts. IsTrue (ticks_fully_in (site_of w.net v) s e ts (w.node v))) other.0 ticks in
          let t2 = subst (λ x. IsTrue (ticks_fully_in (site_of w.net v) s e (account_of v ms) x)) (sym (is ∙ other.1)) t1 in
          inr (subst (λ n. IsTrue (ticks_fully_in (site_of n v) s e (account_of v ms) ((step w (event_of m)).node v))) (sym net) t2)
      go m is net ticks (inl (t, d, own)) = own-go t d m own is net ticks

  -- of marks before the stretch, none is the tick
  pub ticks-after : (w last : World) (before rest : List Mark) (v s e : ℕ) → AreNodes w → Holds w (before ++ rest) last → AllByRecursion (λ m. mark_moment m < 2 * s) before
      → TicksIn w v s e (before ++ rest) → TicksIn (run w (map event_of before)) v s e rest
  ticks-after w last [] rest v s e nodes h early ticks = ticks
  ticks-after w last (m ∷ ms) rest v s e nodes h early ticks =
      let on = mark-goes-on near back w last m (ms ++ rest) nodes h in
      let now = step w (event_of m) in
      elim (tick-step-on w last m (ms ++ rest) v s e nodes h ticks) [
        | inl here ↦ let l = here.1 in let k = early.0 in absurd (omega (arith, l, k))
        | inr there ↦ ticks-after now last ms rest v s e (nodes-on w now on.network nodes) on.holds early.1 there
      ]

  -- one of the stretch's marks is the tick
  pub ticks-inside : (w last : World) (stretch after : List Mark) (v s e : ℕ) → AreNodes w → Holds w (stretch ++ after) last → AllByRecursion (λ m. 2 * e ≤ mark_moment m) after
      → TicksIn w v s e (stretch ++ after) → IsTrue (has_full_tick w (map event_of stretch) v)
  ticks-inside w last [] after v s e nodes h all ticks = absurd (late (site_of w.net v) v s e after (w.node v) all ticks)
  ticks-inside w last (m ∷ ms) after v s e nodes h all ticks =
      let on = mark-goes-on near back w last m (ms ++ after) nodes h in
      let now = step w (event_of m) in
      elim (tick-step-on w last m (ms ++ after) v s e nodes h ticks) [
        | inl here ↦ left-or (is_full_tick w (event_of m) v) (has_full_tick now (map event_of ms) v) here.0
        | inr there ↦ right-or (is_full_tick w (event_of m) v) (has_full_tick now (map event_of ms) v) (ticks-inside now last ms after v s e (nodes-on w now on.network nodes) on.holds all there)
      ]
