-- What is kept of a stretch shows when it is a sweep, and stays right with each event.
use Rattle.std.proofs.Common.{◌≡◌, ◌∙◌, sym, ap, subst, ℕ, ◌<◌, ◌≤◌, ◌⊎◌, inl, inr, Bool, true, false, not, ◌&&◌, ◌||◌, nat_lt, ◌==◌, suc, if◌then◌else◌, is_none, IsTrue, is_some, List, [], ◌∷◌, ◌++◌, length, arith, refl}
use Rattle.std.proofs.lemmas.Grind.{common_steps}
use Rattle.topology.specs.Network.{are_joined}
use Rattle.configuration.specs.run_model.World.{World, IsWorldInRange}
use Rattle.configuration.specs.run_model.Step.{refusal, step}
use Rattle.configuration.specs.run_model.Run.{run, IsUndamaged}
use Rattle.configuration.specs.run_model.Sweep.{IsSweep, is_link, link_act, is_full_tick, is_renewed}
use Rattle.configuration.specs.run_model.Stretch.{old_items, old_after, takes_new}
use Rattle.configuration.specs.run_model.declared.event.Event.{Event}
use Rattle.configuration.specs.run_model.Happened.{happened, taken_of}
use Rattle.configuration.specs.run_model.declared.happened.Happened.{Happened}
use Rattle.configuration.specs.run_model.declared.happened.Happened.TheVariants.{FullTick, LendingTick}
use Rattle.configuration.specs.run_model.declared.event.Event.TheVariants.{Send, Take, Lose, Tick, Ask, Leave, Damage}
use Rattle.configuration.specs.data_link.Sweep.{Puts, Takes, Loses, Rests}
use Rattle.configuration.specs.link_model.declared.item.Item.{Item}
use Rattle.judge.specs.declared.tallies.Tally.{Tally}
use Rattle.judge.specs.Tallies.{tally_of, tally_after, tally_happened}
use Rattle.judge.specs.Stretch.{StretchView, has_bit, is_full_tick_of, IsComplete, IsKept}
use Rattle.judge.specs.Below.{Below}

-- ---- a sweep

module _ (laws : Below) (w : World) (es : List Event) (s : StretchView) (ok : IsWorldInRange w) (kept : IsKept w es s) where
  pub complete-sweep : IsUndamaged w es → IsComplete s → IsSweep w es
  complete-sweep fine complete = record {
    undamaged = fine;
    ticked = λ v l. let a = kept.lacking v in let b = complete.0 v in grind (arith, common_steps, a, b, l);
    renewed = λ u v joined.
        let ends = laws.joined_nodes w.net u v ok.network joined in
        let same = kept.nodes in
        let a = complete.1 u v (omega (arith, ends.0, same)) (omega (arith, ends.1, same)) in
        sym (kept.renewed u v joined) ∙ a;
  }

  pub sweep-complete : IsSweep w es → IsComplete s
  sweep-complete sweep = (
    λ v. lacks-none v,
    λ u v un vn. by-joined u v un vn (are_joined w.net.edges u v) refl,
  )
    where
      lacks-none : (v : ℕ) → has_bit s.lacking v ≡ false
      lacks-none v =
          let cases : (v < w.net.nodes) ⊎ (w.net.nodes ≤ v) = grind arith in
          let a = kept.lacking v in
          elim cases [
            | inl less ↦ let b = sweep.ticked v less in grind (arith, common_steps, a, b)
            | inr more ↦ grind (arith, common_steps, a, more)
          ]

      by-joined : (u v : ℕ) → u < s.tallies.table.nodes → v < s.tallies.table.nodes → (b : Bool) → are_joined w.net.edges u v ≡ b → (tally_of s.tallies u v).renewed ≡ true
      by-joined u v un vn true e = kept.renewed u v e ∙ sweep.renewed u v e
      by-joined u v un vn false e = let same = kept.nodes in kept.apart u v (omega (arith, un, same)) (omega (arith, vn, same)) e

-- ---- one more event

-- what is kept after one more event that is accepted and no damage
pub record IsNoted (now : World) (e : Event) (s new : StretchView) : Type 0 where
  pub nodes : new.tallies.table.nodes ≡ s.tallies.table.nodes
  pub lacking : (v : ℕ) → has_bit new.lacking v ≡ (has_bit s.lacking v && not (is_full_tick now e v))
  pub tallies : (u v : ℕ) → v < s.tallies.table.nodes → (tally_of s.tallies u v).old ≤ length (now.link u v)
      → tally_of new.tallies u v ≡ tally_after (link_act u v e) (length (now.link u v)) (tally_of s.tallies u v)
  pub still : (u v : ℕ) → v < s.tallies.table.nodes → (tally_of s.tallies u v).renewed ≡ true → (tally_of new.tallies u v).renewed ≡ true

module _ (laws : Below) (w : World) (es : List Event) (e : Event) (ok : IsWorldInRange w) (fine : IsUndamaged w es) (s : StretchView) (kept : IsKept w es s) where
  pub kept-noted : (new : StretchView) → IsNoted (run w es) e s new → IsKept w (es ++ e ∷ []) new
  kept-noted new noted = record {
    nodes = noted.nodes ∙ kept.nodes;
    lacking = λ v.
        let a = kept.lacking v in let b = noted.lacking v in let c = laws.ticks w es e v in
        grind (arith, common_steps, a, b, c);
    old = λ u v joined.
        let t = noted.tallies u v (in-places u v joined) (there u v joined) in
        ap (λ x. x.old) t ∙ ap (old_after (link_act u v e)) (kept.old u v joined) ∙ sym (laws.old_go_on w es e u v);
    renewed = λ u v joined.
        let t = noted.tallies u v (in-places u v joined) (there u v joined) in
        ap (λ x. x.renewed) t
        ∙ ap (λ b. b || takes_new (link_act u v e) (tally_of s.tallies u v).old (length ((run w es).link u v))) (kept.renewed u v joined)
        ∙ ap (λ n. is_renewed w es u v || takes_new (link_act u v e) n (length ((run w es).link u v))) (kept.old u v joined)
        ∙ sym (laws.renewed w es e u v ok joined fine);
    apart = λ u v un vn no.
        let same = kept.nodes in
        noted.still u v (omega (arith, vn, same)) (kept.apart u v un vn no);
  }
    where
      there : (u v : ℕ) → IsTrue (are_joined w.net.edges u v) → (tally_of s.tallies u v).old ≤ length ((run w es).link u v)
      there u v joined = let is = kept.old u v joined in let few = laws.old_there w es u v ok joined fine in omega (arith, is, few)

      in-places : (u v : ℕ) → IsTrue (are_joined w.net.edges u v) → v < s.tallies.table.nodes
      in-places u v joined = let ends = laws.joined_nodes w.net u v ok.network joined in let same = kept.nodes in omega (arith, ends.1, same)

  -- a refused event takes and loses nothing, and is no full tick
  refused-old : (u v : ℕ) → IsTrue (is_some (refusal (run w es) e)) → IsTrue (are_joined w.net.edges u v)
      → (old_after (link_act u v e) (old_items w es u v) ≡ old_items w es u v)
      × (takes_new (link_act u v e) (old_items w es u v) (length ((run w es).link u v)) ≡ false)
  refused-old u v refused joined =
      let ends = laws.joined_nodes w.net u v ok.network joined in
      let there = laws.old_there w es u v ok joined fine in
      let net = laws.network w es fine in
      let first : u < (run w es).net.nodes = subst (λ n. u < n.nodes) (sym net) ends.0 in
      let second : v < (run w es).net.nodes = subst (λ n. v < n.nodes) (sym net) ends.1 in
      let still : IsTrue (are_joined (run w es).net.edges u v) = subst (λ n. IsTrue (are_joined n.edges u v)) (sym net) joined in
      rests (run w es) e u v (old_items w es u v) first second still there refused
    where
      rests : (now : World) (e : Event) (u v old : ℕ) → u < now.net.nodes → v < now.net.nodes → IsTrue (are_joined now.net.edges u v)
          → old ≤ length (now.link u v) → IsTrue (is_some (refusal now e))
          → (old_after (link_act u v e) old ≡ old) × (takes_new (link_act u v e) old (length (now.link u v)) ≡ false)
      rests now e u v old first second joined there refused = grind (arith, common_steps)

  pub kept-refused : IsTrue (is_some (refusal (run w es) e)) → IsKept w (es ++ e ∷ []) s
  kept-refused refused = record {
    nodes = kept.nodes;
    lacking = λ v.
        let a = kept.lacking v in let c = laws.ticks w es e v in
        let f = no-tick v in
        grind (arith, common_steps, a, c, f);
    old = λ u v joined. kept.old u v joined ∙ sym (refused-old u v refused joined).0 ∙ sym (laws.old_go_on w es e u v);
    renewed = λ u v joined.
        let b = laws.renewed w es e u v ok joined fine in
        let f = (refused-old u v refused joined).1 in
        let same : is_renewed w es u v ≡ is_renewed w (es ++ e ∷ []) u v = grind (arith, common_steps, b, f) in
        kept.renewed u v joined ∙ same;
    apart = kept.apart;
  }
    where
      no-tick : (v : ℕ) → (nat_lt v w.net.nodes && is_full_tick (run w es) e v) ≡ false
      no-tick v = let net = laws.network w es fine in out-of (run w es) e v w.net.nodes (ap (λ n. n.nodes) net) refused
        where
          out-of : (now : World) (e : Event) (v n : ℕ) → now.net.nodes ≡ n → IsTrue (is_some (refusal now e)) → (nat_lt v n && is_full_tick now e v) ≡ false
          out-of now e v n same refused = grind (arith, common_steps)

-- ---- what the code notes

tick-full : (f : ℕ → Bool) (u v : ℕ) → is_full_tick_of v (if f u then FullTick u else LendingTick u) ≡ ((u == v) && f v)
tick-full f u v = grind (arith, common_steps)

take-full : (a b v : ℕ) (items : List Item) → is_full_tick_of v (taken_of a b items) ≡ false
take-full a b v [] = refl
take-full a b v (item ∷ items) = refl

full-tick : (now : World) (e : Event) (v : ℕ) → is_full_tick_of v (happened now e) ≡ is_full_tick now e v
full-tick now (Tick u) v = tick-full (λ k. is_none ((step now (Tick u)).node k).desk.lent) u v
full-tick now (Take a b) v = take-full a b v (now.link a b)
full-tick now (Send a b) v = refl
full-tick now (Lose a b i) v = refl
full-tick now (Ask u t) v = refl
full-tick now (Leave u t) v = refl
full-tick now (Damage h) v = refl

rests-after : (n : ℕ) (t : Tally) → t ≡ tally_after Rests n t
rests-after n t = grind (arith, common_steps)

put-after : (b : Bool) (n : ℕ) (t : Tally) → t ≡ tally_after (if b then Puts else Rests) n t
put-after true n t = grind (arith, common_steps)
put-after false n t = rests-after n t

lost-after : (b : Bool) (i n : ℕ) (t : Tally) → (if b then tally_after (Loses i) 0 t else t) ≡ tally_after (if b then Loses i else Rests) n t
lost-after true i n t = refl
lost-after false i n t = rests-after n t

tick-after : (b : Bool) (a u v n : ℕ) (t : Tally) → tally_happened u v (if b then FullTick a else LendingTick a) t ≡ tally_after Rests n t
tick-after true a u v n t = rests-after n t
tick-after false a u v n t = rests-after n t

-- a take from an empty link leaves its tally, in which nothing is old
empty-after : (t : Tally) → t.old ≤ 0 → t ≡ tally_after Takes 0 t
empty-after t few = grind (arith, common_steps)

one-after : (n : ℕ) (t : Tally) → tally_after Takes 1 t ≡ tally_after Takes (suc n) t
one-after n t = grind (arith, common_steps)

same-take : (u v : ℕ) (items : List Item) (t : Tally) → t.old ≤ length items → tally_happened u v (taken_of u v items) t ≡ tally_after Takes (length items) t
same-take u v [] t few = empty-after t few
same-take u v (item ∷ items) t few =
    let here : is_link u v u v ≡ true = grind (arith, common_steps) in
    rw here (one-after (length items) t)

other-take : (u v a b : ℕ) (items : List Item) (n : ℕ) (t : Tally) → is_link u v a b ≡ false → tally_happened u v (taken_of a b items) t ≡ tally_after Rests n t
other-take u v a b [] n t other = rests-after n t
other-take u v a b (item ∷ items) n t other = rw other (rests-after n t)

take-after : (link : ℕ → ℕ → List Item) (u v a b : ℕ) (t : Tally) → t.old ≤ length (link u v) → (test : Bool) → is_link u v a b ≡ test
    → tally_happened u v (taken_of a b (link a b)) t ≡ tally_after (if test then Takes else Rests) (length (link u v)) t
take-after link u v a b t few true is =
    let one : a ≡ u = grind (arith, common_steps, is) in
    let two : b ≡ v = grind (arith, common_steps, is) in
    rw (one, two) (same-take u v (link u v) t few)
take-after link u v a b t few false is = other-take u v a b (link a b) (length (link u v)) t is

same-after : (now : World) (e : Event) (u v : ℕ) (t : Tally) → t.old ≤ length (now.link u v)
    → tally_happened u v (happened now e) t ≡ tally_after (link_act u v e) (length (now.link u v)) t
same-after now (Send a b) u v t few = put-after (is_link u v a b) (length (now.link u v)) t
same-after now (Take a b) u v t few = take-after now.link u v a b t few (is_link u v a b) refl
same-after now (Lose a b i) u v t few = lost-after (is_link u v a b) i (length (now.link u v)) t
same-after now (Tick a) u v t few = tick-after (is_none ((step now (Tick a)).node a).desk.lent) a u v (length (now.link u v)) t
same-after now (Ask a x) u v t few = rests-after (length (now.link u v)) t
same-after now (Leave a x) u v t few = rests-after (length (now.link u v)) t
same-after now (Damage h) u v t few = rests-after (length (now.link u v)) t

pub still-renewed : (did : Happened) (u v : ℕ) (t : Tally) → t.renewed ≡ true → (tally_happened u v did t).renewed ≡ true
still-renewed did u v t renewed = grind (arith, common_steps)

pub noted : (now : World) (e : Event) (did : Happened) (s new : StretchView) → did ≡ happened now e → new.tallies.table.nodes ≡ s.tallies.table.nodes
    → ((v : ℕ) → has_bit new.lacking v ≡ (has_bit s.lacking v && not (is_full_tick_of v did)))
    → ((u v : ℕ) → v < s.tallies.table.nodes → tally_of new.tallies u v ≡ tally_happened u v did (tally_of s.tallies u v))
    → IsNoted now e s new
noted now e did s new is nodes lacking tallies = record {
  nodes = nodes;
  lacking = λ v. lacking v ∙ ap (λ d. has_bit s.lacking v && not (is_full_tick_of v d)) is ∙ ap (λ b. has_bit s.lacking v && not b) (full-tick now e v);
  tallies = λ u v within few. tallies u v within ∙ ap (λ d. tally_happened u v d (tally_of s.tallies u v)) is ∙ same-after now e u v (tally_of s.tallies u v) few;
  still = λ u v within renewed. ap (λ t. t.renewed) (tallies u v within) ∙ still-renewed did u v (tally_of s.tallies u v) renewed;
}
