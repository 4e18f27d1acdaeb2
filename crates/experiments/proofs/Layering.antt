-- What has been seen of the layers along a run, event by event.
use Rattle.std.proofs.Common.{◌≡◌, ◌∙◌, ap, sym, subst, ℕ, ◌+◌, ◌<◌, Bool, true, false, IsTrue, List, [], ◌∷◌, ◌++◌, length, Option, Some, None, refl, arith, inl}
use Rattle.std.specs.Prelude.{◌↔◌, ◌&&◌, ◌||◌, not}
use Rattle.std.proofs.lemmas.List.{length-append}
use Rattle.run_model.specs.World.{World, IsWorldInRange}
use Rattle.run_model.specs.Run.{run, IsUndamaged}
use Rattle.run_model.specs.Count.{IsSweepCount}
use Rattle.run_model.specs.Laws.{RangesStay}
use Rattle.run_model.specs.Links.{AreLinksStable}
use Rattle.run_model.specs.Tree.{IsTreeReached}
use Rattle.run_model.specs.Privilege.{is_privileged, is_lending}
use Rattle.run_model.specs.declared.event.Event.{Event}
use Rattle.layers.specs.convergence.Laws.{LegitimateStays}
use Rattle.layers.specs.convergence.Legitimate.{IsLegitimate}
use Rattle.layers.specs.convergence.Ring.{IsTokenRingGood}
use Rattle.judge.specs.Judging.{counted_up_to}
use Rattle.experiments.specs.Delays.{is_harm}
use Rattle.experiments.specs.Recovery.{AnyLayersGoOn, AreAnyLayersFirst, AreAnyLayersSeen, AreLayersNow, AreLayersSeen, IsLastNow, unseen}
use Rattle.experiments.specs.declared.layers_seen.LayersSeen.{LayersSeen}
use Rattle.experiments.proofs.Replays.{step-harmless}
use Rattle.experiments.proofs.Watching.{last-begins, last-goes_on, run-append}

-- ---- one look

both : (a b : Bool) → IsTrue (a && b) → IsTrue a × IsTrue b
both true b holds = (refl, holds)
both false b holds = absurd (grind (arith, holds))

-- all four conditions of a legitimate world
pub stands-legitimate : (w : World) (links tree ring loans : Bool) → IsTrue links ↔ AreLinksStable w → IsTrue tree ↔ IsTreeReached w
    → IsTrue ring ↔ IsTokenRingGood w
    → IsTrue loans ↔ ((v : ℕ) → v < w.net.nodes → IsTrue (is_lending w v) → IsTrue (is_privileged w v))
    → IsTrue (links && (tree && (ring && loans))) → IsLegitimate w
stands-legitimate w links tree ring loans of_links of_tree of_ring of_loans holds =
    let first = both links (tree && (ring && loans)) holds in
    let second = both tree (ring && loans) first.1 in
    let third = both ring loans second.1 in
    record { links = of_links.0 first.0; tree = of_tree.0 second.0; ring = of_ring.0 third.0; desks = of_loans.0 third.1 }

-- ---- the first moment

layers-begin : (start now : World) (sweeps count : ℕ) (l : LayersSeen) → now ≡ start → IsSweepCount start [] count → sweeps ≡ counted_up_to count
    → l.events ≡ 0 → AreLayersNow now sweeps unseen l → AreLayersSeen start [] l
layers-begin start now sweeps count l same counted are none first = record {
  events_are = none;
  links = last-begins AreLinksStable start now sweeps count l.links same counted are first.links;
  tree = last-begins IsTreeReached start now sweeps count l.tree same counted are first.tree;
  ring = last-begins IsTokenRingGood start now sweeps count l.ring same counted are first.ring;
  settled = λ s. subst IsLegitimate same (first.settled s);
}

pub any-begin : (start now : World) (sweeps count : ℕ) (layered : Bool) (l : Option LayersSeen) → now ≡ start → IsSweepCount start [] count
    → sweeps ≡ counted_up_to count → AreAnyLayersFirst now sweeps layered l → AreAnyLayersSeen layered start [] l
any-begin start now sweeps count true (Some l) same counted are first = layers-begin start now sweeps count l same counted are first.0 first.1
any-begin start now sweeps count true None same counted are first = absurd first
any-begin start now sweeps count false (Some l) same counted are first = absurd first
any-begin start now sweeps count false None same counted are first = tt

-- ---- one event more

one-more : (n m : ℕ) → m ≡ counted_up_to n → counted_up_to (m + 1) ≡ counted_up_to (n + 1)
one-more n m are = grind (arith, are)

module _ (start now : World) (es : List Event) (e : Event) (sweeps count : ℕ) (before after : LayersSeen) (same : now ≡ run start (es ++ e ∷ []))
    (counted : IsSweepCount start (es ++ e ∷ []) count) (are : sweeps ≡ counted_up_to count) (seen : AreLayersSeen start es before) where
  pub layers-go_on : after.events ≡ counted_up_to (before.events + 1) → AreLayersNow now sweeps before after → AreLayersSeen start (es ++ e ∷ []) after
  layers-go_on more next = record {
    events_are =
        let longer : length (es ++ e ∷ []) ≡ length es + 1 = length-append es (e ∷ []) in
        more ∙ one-more (length es) before.events seen.events_are ∙ ap counted_up_to (sym longer);
    links = last-goes_on AreLinksStable start now es e sweeps count before.links after.links seen.links same counted are next.links;
    tree = last-goes_on IsTreeReached start now es e sweeps count before.tree after.tree seen.tree same counted are next.tree;
    ring = last-goes_on IsTokenRingGood start now es e sweeps count before.ring after.ring seen.ring same counted are next.ring;
    settled = λ s. subst IsLegitimate same (next.settled s);
  }

-- a look that begins with one event more
pub looks-on : (now : World) (sweeps : ℕ) (before more after : LayersSeen) → more ≡ record before { events = counted_up_to (before.events + 1) }
    → AreLayersNow now sweeps more after → AreLayersNow now sweeps before after
looks-on now sweeps before more after is next = record {
  links = subst (λ l. IsLastNow AreLinksStable now sweeps l after.links) (ap (λ m. m.links) is) next.links;
  tree = subst (λ l. IsLastNow IsTreeReached now sweeps l after.tree) (ap (λ m. m.tree) is) next.tree;
  ring = subst (λ l. IsLastNow IsTokenRingGood now sweeps l after.ring) (ap (λ m. m.ring) is) next.ring;
  settled = next.settled;
}

-- no look is needed only if all has settled and the event is no harm
pub rests-on : (settled harm : Bool) → (not settled || harm) ≡ false → IsTrue settled × (harm ≡ false)
rests-on true harm rests = (refl, rests)
rests-on false harm rests = absurd (grind (arith, rests))

-- an event that is no harm leaves a legitimate world legitimate, so no layer fails
pub settled-stays : LegitimateStays → RangesStay → (start now : World) (es : List Event) (e : Event) (sweeps : ℕ) (before after : LayersSeen)
    → IsWorldInRange start → now ≡ run start (es ++ e ∷ []) → AreLayersSeen start es before → is_harm e ≡ false → IsTrue before.settled
    → after.links ≡ before.links → after.tree ≡ before.tree → after.ring ≡ before.ring
    → AreLayersNow now sweeps before after
settled-stays stays ranges start now es e sweeps before after ok same seen harmless settled links tree ring =
    let calm : IsUndamaged (run start es) (e ∷ []) = step-harmless (run start es) e harmless in
    let there : IsLegitimate (run (run start es) (e ∷ [])) = stays (run start es) (e ∷ []) (ranges start es ok) calm (seen.settled settled) in
    let legitimate : IsLegitimate now = subst IsLegitimate (sym (run-append start es (e ∷ [])) ∙ sym same) there in
    record {
      links = inl (legitimate.links, links);
      tree = inl (legitimate.tree, tree);
      ring = inl (legitimate.ring, ring);
      settled = λ s. legitimate;
    }

pub any-go_on : (start now : World) (es : List Event) (e : Event) (sweeps count : ℕ) (layered : Bool) (before after : Option LayersSeen)
    → AnyLayersGoOn now e sweeps before after → IsWorldInRange start → now ≡ run start (es ++ e ∷ []) → IsSweepCount start (es ++ e ∷ []) count
    → sweeps ≡ counted_up_to count → AreAnyLayersSeen layered start es before → AreAnyLayersSeen layered start (es ++ e ∷ []) after
any-go_on start now es e sweeps count true (Some a) (Some b) goes ok same counted are seen = goes start es count ok same counted are seen
any-go_on start now es e sweeps count true (Some a) None goes ok same counted are seen = absurd goes
any-go_on start now es e sweeps count true None b goes ok same counted are seen = absurd seen
any-go_on start now es e sweeps count false (Some a) b goes ok same counted are seen = absurd seen
any-go_on start now es e sweeps count false None (Some b) goes ok same counted are seen = absurd goes
any-go_on start now es e sweeps count false None None goes ok same counted are seen = tt
