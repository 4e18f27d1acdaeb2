-- A judge's invariant survives each event: one that is refused, damage, one that completes a
-- sweep, and any other.
use Rattle.std.proofs.Common.{◌≡◌, ◌∙◌, sym, ap, subst, ℕ, ◌+◌, ◌-◌, ◌^◌, min, true, false, IsTrue, is_some, if◌then◌else◌, suc, List, [], ◌∷◌, ◌++◌, append_assoc, arith, refl}
use Rattle.std.proofs.lemmas.Grind.{common_steps}
use Rattle.std.proofs.lemmas.List.{append-nil}
use Rattle.topology.specs.Network.{are_joined}
use Rattle.configuration.specs.run_model.World.{World, IsWorldInRange}
use Rattle.configuration.specs.run_model.Step.{refusal, step}
use Rattle.configuration.specs.run_model.Run.{run, is_damage, IsUndamaged}
use Rattle.configuration.specs.run_model.Sweep.{IsSweep}
use Rattle.configuration.specs.run_model.Count.{Moment, after_damage, IsGreatestCount, IsSweepCount}
use Rattle.configuration.specs.run_model.Greedy.{IsCounted}
use Rattle.configuration.specs.run_model.declared.event.Event.{Event}
use Rattle.judge.specs.Stretch.{StretchView, IsComplete, IsKept}
use Rattle.judge.specs.Judging.{refused_in, counted_up_to, IsJudging}
use Rattle.judge.specs.Below.{Below}
use Rattle.judge.proofs.Kept.{IsNoted, complete-sweep, sweep-complete, kept-noted, kept-refused}

refused-join : (w : World) (es : List Event) (e : Event) → refused_in w (es ++ e ∷ []) ≡ refused_in w es + (if is_some (refusal (run w es) e) then 1 else 0)
refused-join w [] e = omega arith
refused-join w (x ∷ es) e = omega (arith, refused-join (step w x) es e)

pub damage-refused : (w : World) (e : Event) → IsTrue (is_some (refusal w e)) → is_damage w e ≡ false
damage-refused w e refused = grind (arith, common_steps)

module _ (laws : Below) (start : World) (es : List Event) (e : Event) (now : World) (s : StretchView) (sweeps refused : ℕ) (j : IsJudging start es now s sweeps refused) where
  abbrev moment : Moment
  moment = after_damage start es

  in-range : IsWorldInRange moment.world
  in-range = (laws.leads start es j.in_range).0

  fine : IsUndamaged moment.world (j.done ++ j.stretch)
  fine = subst (IsUndamaged moment.world) j.since (laws.leads start es j.in_range).1

  -- the world at which the stretch began
  abbrev begun : World
  begun = run moment.world j.done

  begun-in_range : IsWorldInRange begun
  begun-in_range = laws.ranges moment.world j.done in-range

  stretch-fine : IsUndamaged begun j.stretch
  stretch-fine = (laws.splits moment.world j.done j.stretch fine).1

  -- the stretch has led to the world now
  led : run begun j.stretch ≡ now
  led =
      sym (laws.joins moment.world j.done j.stretch)
      ∙ ap (run moment.world) (sym j.since)
      ∙ (laws.leads start es j.in_range).2
      ∙ sym j.now_is

  -- two nodes that are joined now were joined when the stretch began
  pub joined-then : (u v : ℕ) → IsTrue (are_joined now.net.edges u v) → IsTrue (are_joined begun.net.edges u v)
  joined-then u v joined = subst (λ net. IsTrue (are_joined net.edges u v)) (sym (ap (λ w. w.net) led) ∙ laws.network begun j.stretch stretch-fine) joined

  next : run start (es ++ e ∷ []) ≡ step now e
  next = laws.joins start es (e ∷ []) ∙ ap (λ w. step w e) (sym j.now_is)

  no-sweep : ¬ IsSweep begun j.stretch
  no-sweep = j.counted.unfinished j.stretch [] (sym (append-nil j.stretch))

  -- an event that is no damage is one more since the last damage
  goes-on : is_damage now e ≡ false → after_damage start (es ++ e ∷ []) ≡ record { world = moment.world; rest = (j.done ++ j.stretch) ++ e ∷ [] }
  goes-on none =
      laws.moment_stays start es e (subst (λ w. is_damage w e ≡ false) j.now_is none)
      ∙ ap (λ l. record { world = moment.world; rest = l ++ e ∷ [] }) j.since

  refused-more : (k : ℕ) → (if is_some (refusal now e) then 1 else 0) ≡ k → counted_up_to (refused_in start (es ++ e ∷ [])) ≡ min (refused + k) (2 ^ 64 - 1)
  refused-more k is =
      let more : refused_in start (es ++ e ∷ []) ≡ refused_in start es + k = refused-join start es e ∙ ap (λ n. refused_in start es + n) (subst (λ w. (if is_some (refusal w e) then 1 else 0) ≡ k) j.now_is is) in
      let before = j.refused_are in
      omega (arith, more, before)

  -- the invariant, from the moment after the last damage
  from : (m : Moment) → after_damage start (es ++ e ∷ []) ≡ m → (count : ℕ) (done stretch : List Event) (new : StretchView) (sweeps' refused' : ℕ)
      → m.rest ≡ done ++ stretch → IsCounted m.world done stretch count → IsKept (run m.world done) stretch new → sweeps' ≡ counted_up_to count
      → refused' ≡ counted_up_to (refused_in start (es ++ e ∷ [])) → IsJudging start (es ++ e ∷ []) (step now e) new sweeps' refused'
  from m is count done stretch new sweeps' refused' since counted kept a b = record {
    in_range = j.in_range;
    now_is = sym next;
    count = count;
    done = done;
    stretch = stretch;
    since = subst (λ k. k.rest ≡ done ++ stretch) (sym is) since;
    counted = subst (λ k. IsCounted k.world done stretch count) (sym is) counted;
    kept = subst (λ k. IsKept (run k.world done) stretch new) (sym is) kept;
    sweeps_are = a;
    refused_are = b;
  }

  -- an event that is no damage and completes no sweep
  unfinished : (new : StretchView) (refused' : ℕ) → is_damage now e ≡ false → IsKept begun (j.stretch ++ e ∷ []) new → ¬ IsSweep begun (j.stretch ++ e ∷ [])
      → refused' ≡ counted_up_to (refused_in start (es ++ e ∷ [])) → IsJudging start (es ++ e ∷ []) (step now e) new sweeps refused'
  unfinished new refused' none kept open_still is =
      from (record { world = moment.world; rest = (j.done ++ j.stretch) ++ e ∷ [] }) (goes-on none) j.count j.done (j.stretch ++ e ∷ []) new sweeps refused'
      (append_assoc j.done j.stretch (e ∷ [])) (laws.stays moment.world j.count j.done j.stretch e j.counted open_still) kept j.sweeps_are is

  fine-on : is_damage now e ≡ false → IsUndamaged moment.world ((j.done ++ j.stretch) ++ e ∷ [])
  fine-on none = subst (λ m. IsUndamaged m.world m.rest) (goes-on none) (laws.leads start (es ++ e ∷ []) j.in_range).1

  stretch-fine_on : is_damage now e ≡ false → IsUndamaged begun (j.stretch ++ e ∷ [])
  stretch-fine_on none = (laws.splits moment.world j.done (j.stretch ++ e ∷ []) (subst (IsUndamaged moment.world) (append_assoc j.done j.stretch (e ∷ [])) (fine-on none))).1

  not-refused : is_some (refusal now e) ≡ false → refused ≡ counted_up_to (refused_in start (es ++ e ∷ []))
  not-refused fits = let k = refused-more 0 (rw fits refl) in let b = j.refused_are in omega (arith, k, b)

  pub judging-refused : IsTrue (is_some (refusal now e)) → IsJudging start (es ++ e ∷ []) (step now e) s sweeps (min (refused + 1) (2 ^ 64 - 1))
  judging-refused refusing =
      let none = damage-refused now e refusing in
      let there : IsTrue (is_some (refusal (run begun j.stretch) e)) = subst (λ w. IsTrue (is_some (refusal w e))) (sym led) refusing in
      let kept = kept-refused laws begun j.stretch e begun-in_range stretch-fine s j.kept there in
      unfinished s (min (refused + 1) (2 ^ 64 - 1)) none kept
      (λ sweep. no-sweep (complete-sweep laws begun j.stretch s begun-in_range j.kept stretch-fine (sweep-complete laws begun (j.stretch ++ e ∷ []) s begun-in_range kept sweep)))
      (sym (refused-more 1 (rw refusing refl)))

  -- what is noted for an event that is no damage
  noted-kept : (new : StretchView) → IsNoted now e s new → IsKept begun (j.stretch ++ e ∷ []) new
  noted-kept new noted = kept-noted laws begun j.stretch e begun-in_range stretch-fine s j.kept new (subst (λ w. IsNoted w e s new) (sym led) noted)

  pub judging-goes_on : (new : StretchView) → is_some (refusal now e) ≡ false → is_damage now e ≡ false → IsNoted now e s new → ¬ IsComplete new
      → IsJudging start (es ++ e ∷ []) (step now e) new sweeps refused
  judging-goes_on new fits none noted incomplete =
      unfinished new refused none (noted-kept new noted)
      (λ sweep. incomplete (sweep-complete laws begun (j.stretch ++ e ∷ []) new begun-in_range (noted-kept new noted) sweep)) (not-refused fits)

  pub judging-sweeps : (new fresh : StretchView) → is_some (refusal now e) ≡ false → is_damage now e ≡ false → IsNoted now e s new → IsComplete new
      → IsKept (step now e) [] fresh → IsJudging start (es ++ e ∷ []) (step now e) fresh (min (sweeps + 1) (2 ^ 64 - 1)) refused
  judging-sweeps new fresh fits none noted complete kept =
      let sweep = complete-sweep laws begun (j.stretch ++ e ∷ []) new begun-in_range (noted-kept new noted) (stretch-fine_on none) complete in
      let done = j.done ++ (j.stretch ++ e ∷ []) in
      let there : run moment.world done ≡ step now e = laws.joins moment.world j.done (j.stretch ++ e ∷ []) ∙ laws.joins begun j.stretch (e ∷ []) ∙ ap (λ w. step w e) led in
      from (record { world = moment.world; rest = (j.done ++ j.stretch) ++ e ∷ [] }) (goes-on none) (suc j.count) done [] fresh (min (sweeps + 1) (2 ^ 64 - 1)) refused
      (append_assoc j.done j.stretch (e ∷ []) ∙ sym (append-nil done))
      (laws.rises moment.world j.count j.done j.stretch e in-range j.counted sweep)
      (subst (λ w. IsKept w [] fresh) (sym there) kept) (let b = j.sweeps_are in omega (arith, b)) (not-refused fits)

  -- with the event the sweep count rises by one
  pub sweep-counted : (new : StretchView) → is_damage now e ≡ false → IsNoted now e s new → IsComplete new → IsSweepCount start (es ++ e ∷ []) (j.count + 1)
  sweep-counted new none noted complete =
      let sweep = complete-sweep laws begun (j.stretch ++ e ∷ []) new begun-in_range (noted-kept new noted) (stretch-fine_on none) complete in
      let done = j.done ++ (j.stretch ++ e ∷ []) in
      let all : (j.done ++ j.stretch) ++ e ∷ [] ≡ done ++ [] = append_assoc j.done j.stretch (e ∷ []) ∙ sym (append-nil done) in
      let counted = laws.greatest moment.world (suc j.count) done [] in-range (subst (IsUndamaged moment.world) all (fine-on none))
      (laws.rises moment.world j.count j.done j.stretch e in-range j.counted sweep) in
      let more : suc j.count ≡ j.count + 1 = omega arith in
      subst (λ m. IsGreatestCount m.world m.rest (j.count + 1)) (sym (goes-on none))
      (subst (λ l. IsGreatestCount moment.world l (j.count + 1)) (sym all) (subst (IsGreatestCount moment.world (done ++ [])) more counted))

  pub judging-damage : (fresh : StretchView) → is_some (refusal now e) ≡ false → is_damage now e ≡ true → IsKept (step now e) [] fresh
      → IsJudging start (es ++ e ∷ []) (step now e) fresh 0 refused
  judging-damage fresh fits damage kept =
      let moved = laws.moment_moves start es e (subst (λ w. is_damage w e ≡ true) j.now_is damage) in
      let here = sym (ap (λ w. step w e) j.now_is) in
      from (record { world = step (run start es) e; rest = [] }) moved 0 [] [] fresh 0 refused refl
      (laws.starts (step (run start es) e) (subst IsWorldInRange (laws.joins start es (e ∷ [])) (laws.ranges start (es ++ e ∷ []) j.in_range)))
      (subst (λ w. IsKept w [] fresh) (sym here) kept) refl (not-refused fits)

-- at the start nothing has been counted
pub judging-starts : Below → (w : World) (s : StretchView) → IsWorldInRange w → IsKept w [] s → IsJudging w [] w s 0 0
judging-starts laws w s ok kept = record {
  in_range = ok;
  now_is = refl;
  count = 0;
  done = [];
  stretch = [];
  since = refl;
  counted = laws.starts w ok;
  kept = kept;
  sweeps_are = refl;
  refused_are = refl;
}

-- the count is the sweep count
pub judging-counts : Below → (start : World) (es : List Event) (now : World) (s : StretchView) (sweeps refused : ℕ) (j : IsJudging start es now s sweeps refused)
    → IsSweepCount start es j.count
judging-counts laws start es now s sweeps refused j =
    let leads = laws.leads start es j.in_range in
    let counted = laws.greatest (after_damage start es).world j.count j.done j.stretch leads.0 (subst (IsUndamaged (after_damage start es).world) j.since leads.1) j.counted in
    subst (λ l. IsGreatestCount (after_damage start es).world l j.count) (sym j.since) counted
