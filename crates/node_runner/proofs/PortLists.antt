-- The ports of a node when one changes.
use Rattle.std.proofs.Common.{◌≡◌, ◌≢◌, ◌⊎◌, inl, inr, ℕ, zero, suc, ◌<◌, List, [], ◌∷◌, ◌++◌, map, length, ap, refl, sym, subst, ◌∙◌, rules, arith, append-nil, slice_index_or, All, Contains, set}
use Rattle.std.proofs.lemmas.Bool.{cases_eq}
use Rattle.std.proofs.lemmas.Grind.{common_steps}
use Rattle.std.specs.List.Sorted.{IsStrictlyIncreasing}
use Rattle.std.proofs.lemmas.List.{length-set, get_or-set_same, get_or-set_other, get_or-map}
use Rattle.std.proofs.lemmas.List.Kept.{AllPairs-from_increasing}
use Rattle.run_model.specs.World.{World}
use Rattle.weaving.specs.Account.{Note, sent_to, taken_from}
use Rattle.node_runner.specs.declared.runner.RunnerPort.{RunnerPort}
use Rattle.node_runner.specs.Ports.{IsSender, IsReceiver}
use Rattle.node_runner.specs.Runner.{IsPortNoted, IsSamePort, AreSamePorts}
use Rattle.node_runner.proofs.Accounts.{sent-on, taken-on}

module _ {A : Type 0} where
  abbrev neighbour : RunnerPort A → ℕ
  neighbour p = p.neighbour

  pub same-port : (p : RunnerPort A) → IsSamePort p p
  same-port p = search rules

  pub all-same : (ps : List (RunnerPort A)) → AreSamePorts ps ps
  all-same ps = (refl, λ k d within. same-port (slice_index_or ps k d))

  pub long : (ps : List (RunnerPort A)) → length (map neighbour ps) ≡ length ps
  long [] = refl
  long (p ∷ ps) = ap suc (long ps)

  pub default-free : (ps : List (RunnerPort A)) (k : ℕ) (d e : RunnerPort A) → k < length ps → slice_index_or ps k d ≡ slice_index_or ps k e
  default-free ps k d e within = grind (arith, common_steps)

  pub port-is-known : (ps : List (RunnerPort A)) (k : ℕ) (d : RunnerPort A) → k < length ps → Contains (map neighbour ps) (slice_index_or ps k d).neighbour
  port-is-known ps k d within = (k, (let l = long ps in omega arith), get_or-map neighbour ps k d (slice_index_or ps k d).neighbour within)

  differs : (ps : List (RunnerPort A)) (i j : ℕ) (d e : RunnerPort A) → IsStrictlyIncreasing (map neighbour ps) → i ≢ j → i < length ps → j < length ps
      → (slice_index_or ps i d).neighbour ≢ (slice_index_or ps j e).neighbour
  differs ps i j d e ascend apart first second = λ same.
      let ns = map neighbour ps in
      let many = long ps in
      let pairs = AllPairs-from_increasing ns ascend in
      let at-i = get_or-map neighbour ps i d 0 first in
      let at-j = get_or-map neighbour ps j e 0 second in
      let order : (i < j) ⊎ (j < i) = grind arith in
      elim order [
        | inl lt ↦ let h = pairs i j 0 lt (omega arith) in absurd (omega arith)
        | inr lt ↦ let h = pairs j i 0 lt (omega arith) in absurd (omega arith)
      ]

  pub ports-same : (ps : List (RunnerPort A)) (k : ℕ) (x : RunnerPort A) → k < length ps → IsSamePort (slice_index_or ps k x) x → AreSamePorts ps (set ps k x)
  ports-same ps k x within same = (
    length-set ps k x,
    λ j d below. elim (cases_eq j k) [
      | inl e ↦
          let here : slice_index_or (set ps k x) j d ≡ x = ap (λ i. slice_index_or (set ps k x) i d) e ∙ get_or-set_same ps k x d within in
          let there : slice_index_or ps k x ≡ slice_index_or ps j d = default-free ps k x d within ∙ ap (λ i. slice_index_or ps i d) (sym e) in
          subst (λ y. IsSamePort (slice_index_or ps j d) y) (sym here) (subst (λ y. IsSamePort y x) there same)
      | inr apart ↦ subst (IsSamePort (slice_index_or ps j d)) (sym (get_or-set_other ps k j x d apart)) (same-port (slice_index_or ps j d))
    ],
  )

  pub ids-set : (ps : List (RunnerPort A)) (k : ℕ) (x : RunnerPort A) → k < length ps → x.neighbour ≡ (slice_index_or ps k x).neighbour → map neighbour (set ps k x) ≡ map neighbour ps
  ids-set [] k x within same = refl
  ids-set (p ∷ ps) zero x within same = ap (λ n. n ∷ map neighbour ps) same
  ids-set (p ∷ ps) (suc k) x within same = ap (λ ns. p.neighbour ∷ ns) (ids-set ps k x (omega arith) same)

  module _ (w : World) (v : ℕ) (past es : List Note) where
    pub port-stays : (p : RunnerPort A) → sent_to p.neighbour es ≡ [] → taken_from p.neighbour es ≡ [] → IsPortNoted w v past p → IsPortNoted w v (past ++ es) p
    port-stays p none-sent none-taken was =
        let n = p.neighbour in
        let sends : sent_to n past ≡ sent_to n (past ++ es) = sym (sent-on n past es ∙ (ap (λ xs. sent_to n past ++ xs) none-sent ∙ append-nil (sent_to n past))) in
        let takes : taken_from n past ≡ taken_from n (past ++ es) = sym (taken-on n past es ∙ (ap (λ xs. taken_from n past ++ xs) none-taken ∙ append-nil (taken_from n past))) in (
          subst (λ xs. IsSender w.net.capacity (w.link v n) xs p.outgoing) sends was.0,
          subst (λ xs. IsReceiver w.net.capacity (length (w.link n v)) xs p.incoming) takes was.1,
        )

    pub ports-stay : (ps : List (RunnerPort A)) → ((u : ℕ) → (sent_to u es ≡ []) × (taken_from u es ≡ [])) → All (IsPortNoted w v past) ps → All (IsPortNoted w v (past ++ es)) ps
    ports-stay ps none was = λ k d within.
        let p = slice_index_or ps k d in port-stays p (none p.neighbour).0 (none p.neighbour).1 (was k d within)

    pub ports-said : (ps : List (RunnerPort A)) (k : ℕ) (x : RunnerPort A) → k < length ps → IsStrictlyIncreasing (map neighbour ps) → x.neighbour ≡ (slice_index_or ps k x).neighbour
        → ((u : ℕ) → u ≢ x.neighbour → (sent_to u es ≡ []) × (taken_from u es ≡ [])) → All (IsPortNoted w v past) ps → IsPortNoted w v (past ++ es) x
        → All (IsPortNoted w v (past ++ es)) (set ps k x)
    ports-said ps k x within ascend same others was one = λ j d below. elim (cases_eq j k) [
      | inl e ↦
          let here : slice_index_or (set ps k x) j d ≡ x = ap (λ i. slice_index_or (set ps k x) i d) e ∙ get_or-set_same ps k x d within in
          subst (IsPortNoted w v (past ++ es)) (sym here) one
      | inr apart ↦
          let p = slice_index_or ps j d in
          let l = length-set ps k x in
          let other : p.neighbour ≢ x.neighbour = λ e. differs ps j k d x ascend apart (omega arith) within (e ∙ same) in
          subst (IsPortNoted w v (past ++ es)) (sym (get_or-set_other ps k j x d apart))
          (port-stays p (others p.neighbour other).0 (others p.neighbour other).1 (was j d (omega arith)))
    ]
