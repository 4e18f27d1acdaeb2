-- The layers put together: closure, what a legitimate world serves, and convergence from every
-- state.
use Rattle.std.proofs.Common.{◌≡◌, ℕ, ◌+◌, ◌*◌, ◌-◌, ◌<◌, List, ◌++◌, Option, Some, None, refl, sym, ◌∙◌, ap, subst, arith}
use Rattle.std.specs.Prelude.{is_some, IfSome}
use Rattle.topology.specs.Network.{Network, bound_of, IsTrueParent}
use Rattle.topology.specs.Eccentricity.{eccentricity_of, sharp_of}
use Rattle.run_model.specs.Links.{AreLinksStable}
use Rattle.run_model.specs.Tree.{IsTreeReached}
use Rattle.run_model.specs.World.{World, IsWorldInRange}
use Rattle.run_model.specs.Run.{run, IsUndamaged}
use Rattle.run_model.specs.Sweep.{Sweeps}
use Rattle.convergence.specs.Ring.{IsTokenRingGood}
use Rattle.convergence.specs.Settled.{IsSettled}
use Rattle.convergence.specs.Legitimate.{IsLegitimate}
use Rattle.run_model.specs.Headline.{Headline}
use Rattle.run_model.specs.declared.event.Event.{Event}
use Rattle.convergence.specs.Laws.{DesksTurnPrivileged, LegitimateStays, LegitimateServes, LinksConverge, TreeConverges, TokenRingConverges, WorldConverges}
use Rattle.convergence.specs.Sharp.{LinksConvergeSooner, TreeConvergesSooner, TokenRingConvergesSooner, WorldConvergesSooner, SharpHeadline}
use Rattle.convergence.specs.Below.{Below}
use Rattle.convergence.proofs.Desks.{good-stays, loan-run, loan-after_full_tick}

if-some : (P : ℕ → Type 0) (o : Option ℕ) → ((p : ℕ) → o ≡ Some p → P p) → IfSome o P
if-some P None f = tt
if-some P (Some p) f = f p refl

one-more : (r : ℕ) → r + 1 - 1 ≡ r
one-more r = omega arith

-- the number of sweeps may be written in another way
pub other-number : (w : World) (r s : ℕ) (es : List Event) → r ≡ s → Sweeps w r es → Sweeps w s es
other-number w r s es e h = subst (λ k. Sweeps w k es) e h

-- a list in two parts without damage has no damage in each part
pub record IsParted (w : World) (es first rest : List Event) : Type 0 where
  pub early : IsUndamaged w first
  pub late : IsUndamaged (run w first) rest
  pub leads : run w es ≡ run (run w first) rest

module _ (b : Below) where
  pub parted : (w : World) (es first rest : List Event) → es ≡ first ++ rest → IsUndamaged w es → IsParted w es first rest
  parted w es first rest e u =
      let p = b.parts w first rest (subst (IsUndamaged w) e u) in
      record { early = p.0; late = p.1; leads = ap (run w) e ∙ b.join w first rest }

  -- in a sweep each node makes a full tick
  pub desks-turn_privileged : DesksTurnPrivileged
  desks-turn_privileged w es s u g (first, rest, e, sweep, more) =
      let p = parted w es first rest e u in
      let mid = run w first in
      let good = good-stays b w first p.early (s, g) in
      let last = good-stays b mid rest p.late good in
      let whole : IsLegitimate (run mid rest) = record {
        links = last.0.links;
        tree = last.0.tree;
        ring = last.1;
        desks = λ v l.
            let k : v < mid.net.nodes = subst (λ n. v < n.nodes) (b.network mid rest p.late) l in
            let h : v < w.net.nodes = subst (λ n. v < n.nodes) (b.network w first p.early) k in
            loan-run b mid rest v p.late good k (loan-after_full_tick b w first v p.early (s, g) h (sweep.ticked v h));
      } in
      subst IsLegitimate (sym p.leads) whole

  pub legitimate-stays : LegitimateStays
  legitimate-stays w es r u l =
      let good : IsSettled w × IsTokenRingGood w = (record { range = r; links = l.links; tree = l.tree }, l.ring) in
      let z = good-stays b w es u good in
      record {
        links = z.0.links;
        tree = z.0.tree;
        ring = z.1;
        desks = λ v h. let k : v < w.net.nodes = subst (λ n. v < n.nodes) (b.network w es u) h in loan-run b w es v u good k (l.desks v k);
      }

  pub legitimate-serves : LegitimateServes
  legitimate-serves w r l =
      let known = b.known w.net r.network in
      let root_in = r.network.limits.root_in in
      record {
        distances = λ v h. (b.distances w.net v (w.node v).distance r.network h).0 (sym (l.tree.distance v h));
        no_parent = ap is_some (l.tree.parent w.net.root root_in ∙ known.root_parent);
        some_parent = λ v h ne. let p = known.parent v h ne in ap is_some (l.tree.parent v h ∙ p.1);
        parents = λ v h. if-some (IsTrueParent w.net v) (w.node v).parent (λ p e. (b.parents w.net v p r.network h).0 (sym (l.tree.parent v h) ∙ e));
        one_privileged = λ u v h k p o. b.one_privileged w u v r l.tree l.ring h k p o;
        one_lending = λ u v h k p o. b.one_lending w u v r l h k p o;
      }

-- ---- from any state, for any numbers of sweeps that make links stable, reach the tree on stable
-- links, and make the token ring of a settled world good

module _ (b : Below) (links tree ring : Network → ℕ)
    (turn : (w : World) (es : List Event) → IsWorldInRange w → IsUndamaged w es → Sweeps w (links w.net) es → AreLinksStable (run w es))
    (reach : (w : World) (es : List Event) → IsWorldInRange w → IsUndamaged w es → AreLinksStable w → Sweeps w (tree w.net) es → IsTreeReached (run w es))
    (good : (w : World) (es : List Event) → IsSettled w → IsUndamaged w es → Sweeps w (ring w.net) es → IsTokenRingGood (run w es)) where
  pub settled-in : (w : World) (es : List Event) → IsWorldInRange w → IsUndamaged w es → Sweeps w (links w.net + tree w.net) es → IsSettled (run w es)
  settled-in w es r u sweeps =
      let x = b.split w (links w.net) (tree w.net) es sweeps in
      let p = parted b w es x.0 x.1 x.2 u in
      let mid = run w x.0 in
      let r1 = b.ranges w x.0 r in
      let stable = turn w x.0 r p.early x.3 in
      let more : Sweeps mid (tree mid.net) x.1 = subst (λ n. Sweeps mid (tree n) x.1) (sym (b.network w x.0 p.early)) x.4 in
      let whole : IsSettled (run mid x.1) = record {
        range = b.ranges mid x.1 r1;
        links = b.stable mid x.1 r1 p.late stable;
        tree = reach mid x.1 r1 p.late stable more;
      } in
      subst IsSettled (sym p.leads) whole

  abbrev pub until_good : Network → ℕ
  until_good net = (links net + tree net) + ring net

  pub good-in : (w : World) (es : List Event) → IsWorldInRange w → IsUndamaged w es → Sweeps w (until_good w.net) es → IsSettled (run w es) × IsTokenRingGood (run w es)
  good-in w es r u sweeps =
      let x = b.split w (links w.net + tree w.net) (ring w.net) es sweeps in
      let p = parted b w es x.0 x.1 x.2 u in
      let mid = run w x.0 in
      let s = settled-in w x.0 r p.early x.3 in
      let more : Sweeps mid (ring mid.net) x.1 = subst (λ n. Sweeps mid (ring n) x.1) (sym (b.network w x.0 p.early)) x.4 in
      let whole : IsSettled (run mid x.1) × IsTokenRingGood (run mid x.1) = (b.settled mid x.1 s p.late, good mid x.1 s p.late more) in
      subst (λ v. IsSettled v × IsTokenRingGood v) (sym p.leads) whole

  pub legitimate-in : (w : World) (es : List Event) → IsWorldInRange w → IsUndamaged w es → Sweeps w (until_good w.net + 1) es → IsLegitimate (run w es)
  legitimate-in w es r u sweeps =
      let x = b.split w (until_good w.net) 1 es sweeps in
      let p = parted b w es x.0 x.1 x.2 u in
      let g = good-in w x.0 r p.early x.3 in
      subst IsLegitimate (sym p.leads) (desks-turn_privileged b (run w x.0) x.1 g.0 p.late g.1 x.4)

-- ---- after R sweeps

module _ (b : Below) where
  pub links-converge : LinksConverge
  links-converge = b.links

  abbrev links_need : Network → ℕ
  links_need net = 4 * (net.capacity + 1)

  abbrev tree_needs : Network → ℕ
  tree_needs net = 4 * (net.nodes + 1)

  abbrev ring_needs : Network → ℕ
  ring_needs net = 48 * (net.nodes - 1) * (net.nodes - 1)

  pub tree-converges : TreeConverges
  tree-converges w es r u sweeps = (settled-in b links_need tree_needs ring_needs b.links b.reached b.turns_good w es r u sweeps).tree

  pub ring-converges : TokenRingConverges
  ring-converges w es r u sweeps =
      let good = links_need w.net + tree_needs w.net + ring_needs w.net in
      (good-in b links_need tree_needs ring_needs b.links b.reached b.turns_good w es r u (other-number w (bound_of w.net - 1) good es (one-more good) sweeps)).1

  pub world-converges : WorldConverges
  world-converges w es r u sweeps = legitimate-in b links_need tree_needs ring_needs b.links b.reached b.turns_good w es r u sweeps

  pub headline : Headline
  headline w es r u sweeps = legitimate-serves b (run w es) (b.ranges w es r) (world-converges w es r u sweeps)

-- ---- after 16(n - 1) + 4e + 15 sweeps

module _ (b : Below) where
  abbrev six : Network → ℕ
  six net = 6

  abbrev stages : Network → ℕ
  stages net = 4 * (eccentricity_of net + 2)

  abbrev twice_round : Network → ℕ
  twice_round net = 16 * (net.nodes - 1)

  sharp-is : (net : Network) → sharp_of net ≡ (six net + stages net + twice_round net) + 1
  sharp-is net = omega arith

  pub links-converge_sooner : LinksConvergeSooner
  links-converge_sooner = b.links_in_six

  pub tree-converges_sooner : TreeConvergesSooner
  tree-converges_sooner w es r u sweeps = (settled-in b six stages twice_round b.links_in_six b.reached_sooner b.turns_good_soon w es r u sweeps).tree

  pub ring-converges_sooner : TokenRingConvergesSooner
  ring-converges_sooner w es r u sweeps =
      let good = six w.net + stages w.net + twice_round w.net in
      let same : sharp_of w.net - 1 ≡ good = omega (arith, sharp-is w.net) in
      (good-in b six stages twice_round b.links_in_six b.reached_sooner b.turns_good_soon w es r u (other-number w (sharp_of w.net - 1) good es same sweeps)).1

  pub world-converges_sooner : WorldConvergesSooner
  world-converges_sooner w es r u sweeps =
      let all = (six w.net + stages w.net + twice_round w.net) + 1 in
      legitimate-in b six stages twice_round b.links_in_six b.reached_sooner b.turns_good_soon w es r u (other-number w (sharp_of w.net) all es (sharp-is w.net) sweeps)

  pub sharp-headline : SharpHeadline
  sharp-headline w es r u sweeps = legitimate-serves b (run w es) (b.ranges w es r) (world-converges_sooner w es r u sweeps)
