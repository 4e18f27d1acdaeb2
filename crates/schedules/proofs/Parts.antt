-- The lists of a schedule, each as its next part and what is left after that.
use Rattle.std.proofs.Common.{◌≡◌, ◌∙◌, ap, sym, ℕ, ◌+◌, ◌-◌, ◌<◌, suc, List, [], ◌∷◌, ◌++◌, length, drop, get_or, map, arith}
use Rattle.std.specs.List.{flat_map, range_with_len}
use Rattle.std.proofs.lemmas.List.{drop_more}
use Rattle.rand_pcg.specs.Lcg.{Lcg}
use Rattle.topology.specs.Network.{Network}
use Rattle.configuration.specs.run_model.World.{World}
use Rattle.configuration.specs.run_model.Step.{step}
use Rattle.configuration.specs.run_model.declared.event.Event.{Event}
use Rattle.configuration.specs.run_model.declared.event.Event.TheVariants.{Send, Take, Tick}
use Rattle.schedules.specs.Rounds.{exchanges, round, rounds}
use Rattle.schedules.specs.Random.{draw_step, admitted, random_steps}
use Rattle.schedules.specs.declared.random.Chances.{Chances}
use Rattle.schedules.specs.Taking.{IsUnderWay, TakesBoth}
use Rattle.schedules.proofs.Taking.{goes-on}

-- what is left of n, the next being i, is one more than what is left after it
one-more : (i n : ℕ) → i < n → n - i ≡ suc (n - (i + 1))
one-more i n h = omega arith

range-front : (i n : ℕ) → i < n → range_with_len i (n - i) ≡ i ∷ range_with_len (i + 1) (n - (i + 1))
range-front i n h = ap (range_with_len i) (one-more i n h)

module _ {S : Type 0} (P : S → List Event → S → Type 0) (both : TakesBoth P) where
  pub exchange-goes_on : (a b between c : S) (u v i n : ℕ) (whole : List Event) → i < n → IsUnderWay P a whole (exchanges u v (n - i)) b
      → P b (Send u v ∷ []) between → P between (Take u v ∷ []) c → IsUnderWay P a whole (exchanges u v (n - (i + 1))) c
  exchange-goes_on a b between c u v i n whole h done send take =
      goes-on P both a b c whole (exchanges u v (n - i)) (Send u v ∷ Take u v ∷ []) (exchanges u v (n - (i + 1))) done
      (ap (exchanges u v) (one-more i n h))
      (both b between c (Send u v ∷ []) (Take u v ∷ []) send take)

  pub each-goes_on : (a b c : S) (f : ℕ → List Event) (xs : List ℕ) (i : ℕ) (whole : List Event) → i < length xs
      → IsUnderWay P a whole (flat_map f (drop i xs)) b → P b (f (get_or xs i 0)) c → IsUnderWay P a whole (flat_map f (drop (i + 1) xs)) c
  each-goes_on a b c f xs i whole there done more =
      goes-on P both a b c whole (flat_map f (drop i xs)) (f (get_or xs i 0)) (flat_map f (drop (i + 1) xs)) done (ap (flat_map f) (drop_more xs i 0 there)) more

  pub range-goes_on : (a b c : S) (f : ℕ → List Event) (i n : ℕ) (whole : List Event) → i < n
      → IsUnderWay P a whole (flat_map f (range_with_len i (n - i))) b → P b (f i) c
      → IsUnderWay P a whole (flat_map f (range_with_len (i + 1) (n - (i + 1)))) c
  range-goes_on a b c f i n whole h done more =
      goes-on P both a b c whole (flat_map f (range_with_len i (n - i))) (f i) (flat_map f (range_with_len (i + 1) (n - (i + 1)))) done
      (ap (flat_map f) (range-front i n h)) more

  pub tick-goes_on : (a b c : S) (i n : ℕ) (whole later : List Event) → i < n → IsUnderWay P a whole (map Tick (range_with_len i (n - i)) ++ later) b
      → P b (Tick i ∷ []) c → IsUnderWay P a whole (map Tick (range_with_len (i + 1) (n - (i + 1))) ++ later) c
  tick-goes_on a b c i n whole later h done more =
      goes-on P both a b c whole (map Tick (range_with_len i (n - i)) ++ later) (Tick i ∷ []) (map Tick (range_with_len (i + 1) (n - (i + 1))) ++ later) done
      (ap (λ xs. map Tick xs ++ later) (range-front i n h)) more

  pub round-goes_on : (a b c : S) (net : Network) (i n : ℕ) (whole : List Event) → i < n → IsUnderWay P a whole (rounds net (n - i)) b
      → P b (round net) c → IsUnderWay P a whole (rounds net (n - (i + 1))) c
  round-goes_on a b c net i n whole h done more =
      goes-on P both a b c whole (rounds net (n - i)) (round net) (rounds net (n - (i + 1))) done (ap (rounds net) (one-more i n h)) more

  pub step-goes_on : (a b d : S) (w next : World) (c : Chances) (g after : Lcg) (event : Event) (i n : ℕ) (whole : List Event) → i < n
      → IsUnderWay P a whole (random_steps w c (n - i) g) b → event ≡ admitted w (draw_step w.net c g).0 → after ≡ (draw_step w.net c g).1
      → next ≡ step w event → P b (event ∷ []) d → IsUnderWay P a whole (random_steps next c (n - (i + 1)) after) d
  step-goes_on a b d w next c g after event i n whole h done drawn then happens more =
      goes-on P both a b d whole (random_steps w c (n - i) g) (event ∷ []) (random_steps next c (n - (i + 1)) after) done
      (ap (λ k. random_steps w c k g) (one-more i n h)
      ∙ ap (λ (e : Event). e ∷ random_steps (step w e) c (n - (i + 1)) (draw_step w.net c g).1) (sym drawn)
      ∙ ap (λ (x : World). event ∷ random_steps x c (n - (i + 1)) (draw_step w.net c g).1) (sym happens)
      ∙ ap (λ (x : Lcg). event ∷ random_steps next c (n - (i + 1)) x) (sym then))
      more
