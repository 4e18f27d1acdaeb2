-- What processes did has an order: each node's deeds are merged with the losses on the links that
-- lead to it, and then all nodes' lists.
use Rattle.std.proofs.Common.{◌≡◌, ◌≢◌, ◌⊎◌, inl, inr, ℕ, suc, ◌<◌, ◌≤◌, ◌*◌, List, [], ◌∷◌, ◌++◌, map, Bool, true, false, refl, ap, ◌∙◌, sym, subst, arith}
use Rattle.std.proofs.lemmas.Grind.{common_steps}
use Rattle.std.specs.List.{AllByRecursion}
use Rattle.topology.specs.Network.{are_joined}
use Rattle.topology.specs.Laws.{JoinedAreNodes}
use Rattle.run_model.specs.declared.event.Event.{Event}
use Rattle.node_core.specs.Deeds.{Deed, Ticks, Sends, Takes, Asks, Leaves}
use Rattle.processes.specs.Accounts.{Timed, AreInTime}
use Rattle.processes.specs.Links.{Act, Accepts, Gives, Loses, the_losses, IsBefore, AreInOrder}
use Rattle.processes.specs.Marks.{Mark, Does, Drops, event_of, mark_moment, AreOrdered, done_by, account_of, act_on, history_of, IsOrderOf}
use Rattle.processes.specs.Laws.{ProcessesHaveOrder}
use Rattle.processes.proofs.Merging.{Merged, merged, picked, HaveNone, of-first, of-second, none-merged, picked-none, Gathered, gathered}

-- ---- the deeds of v, as marks

abbrev own : ℕ → List Timed → List Mark
own v [] = []
own v (t ∷ ts) = Does t.instant v t.deed ∷ own v ts

own-late : (v n : ℕ) (ts : List Timed) → AllByRecursion (λ later. n ≤ later.instant) ts → AllByRecursion (λ m. suc (2 * n) ≤ mark_moment m) (own v ts)
own-late v n [] all = tt
own-late v n (t ∷ ts) all = (let l = all.0 in omega (arith, l), own-late v n ts all.1)

own-ordered : (v : ℕ) (ts : List Timed) → AreInTime ts → AreOrdered (own v ts)
own-ordered v [] o = tt
own-ordered v (t ∷ ts) o = (own-late v t.instant ts o.0, own-ordered v ts o.1)

own-done : (v : ℕ) (ts : List Timed) → picked (done_by v) (own v ts) ≡ ts
own-done v [] = refl
own-done v (t ∷ ts) = let rest = own-done v ts in let one : done_by v (Does t.instant v t.deed) ≡ t ∷ [] = grind (arith, common_steps) in ap (λ xs. xs ++ picked (done_by v) (own v ts)) one ∙ ap (λ xs. t ∷ xs) rest

own-not-done : (v i : ℕ) (ts : List Timed) → i ≢ v → HaveNone (done_by v) (own i ts)
own-not-done v i [] apart = tt
own-not-done v i (t ∷ ts) apart = (grind (arith, common_steps), own-not-done v i ts apart)

-- what a mark says that the link from u to v lost
abbrev lost_by : ℕ → ℕ → Mark → List Act
lost_by u v m = the_losses (act_on u v m)

no-loss : (u v t a : ℕ) (d : Deed) → the_losses (act_on u v (Does t a d)) ≡ []
no-loss u v t a Ticks = refl
no-loss u v t a (Sends b f) = grind (arith, common_steps)
no-loss u v t a (Takes b f) = grind (arith, common_steps)
no-loss u v t a (Asks k) = refl
no-loss u v t a (Leaves k) = refl

own-lose-none : (u v i : ℕ) (ts : List Timed) → HaveNone (lost_by u v) (own i ts)
own-lose-none u v i [] = tt
own-lose-none u v i (t ∷ ts) = (no-loss u v t.instant i t.deed, own-lose-none u v i ts)

-- ---- the losses of a history, as marks

abbrev dropped : ℕ → ℕ → List Act → List Mark
dropped u v [] = []
dropped u v (Accepts t f ∷ acts) = dropped u v acts
dropped u v (Gives t f ∷ acts) = dropped u v acts
dropped u v (Loses t i ∷ acts) = Drops t u v i ∷ dropped u v acts

dropped-late : (u v t i : ℕ) (acts : List Act) → AllByRecursion (IsBefore (Loses t i)) acts → AllByRecursion (λ m. 2 * t ≤ mark_moment m) (dropped u v acts)
dropped-late u v t i [] all = tt
dropped-late u v t i (Accepts s f ∷ acts) all = dropped-late u v t i acts all.1
dropped-late u v t i (Gives s f ∷ acts) all = dropped-late u v t i acts all.1
dropped-late u v t i (Loses s j ∷ acts) all = (by-either (2 * t) (2 * s) all.0, dropped-late u v t i acts all.1) where
  by-either : {A B : ℕ} (m n : ℕ) → (m < n) ⊎ ((A ≡ B) × (m ≤ n)) → m ≤ n
  by-either m n (inl l) = omega (arith, l)
  by-either m n (inr both) = both.1

dropped-ordered : (u v : ℕ) (acts : List Act) → AreInOrder acts → AreOrdered (dropped u v acts)
dropped-ordered u v [] o = tt
dropped-ordered u v (Accepts s f ∷ acts) o = dropped-ordered u v acts o.1
dropped-ordered u v (Gives s f ∷ acts) o = dropped-ordered u v acts o.1
dropped-ordered u v (Loses s i ∷ acts) o = (dropped-late u v s i acts o.0, dropped-ordered u v acts o.1)

dropped-done-none : (v a b : ℕ) (acts : List Act) → HaveNone (done_by v) (dropped a b acts)
dropped-done-none v a b [] = tt
dropped-done-none v a b (Accepts s f ∷ acts) = dropped-done-none v a b acts
dropped-done-none v a b (Gives s f ∷ acts) = dropped-done-none v a b acts
dropped-done-none v a b (Loses s i ∷ acts) = (refl, dropped-done-none v a b acts)

dropped-lost : (u v : ℕ) (acts : List Act) → picked (lost_by u v) (dropped u v acts) ≡ the_losses acts
dropped-lost u v [] = refl
dropped-lost u v (Accepts s f ∷ acts) = dropped-lost u v acts
dropped-lost u v (Gives s f ∷ acts) = dropped-lost u v acts
dropped-lost u v (Loses s i ∷ acts) =
    let one : lost_by u v (Drops s u v i) ≡ Loses s i ∷ [] = grind (arith, common_steps) in
    ap (λ xs. xs ++ picked (lost_by u v) (dropped u v acts)) one ∙ ap (λ xs. Loses s i ∷ xs) (dropped-lost u v acts)

dropped-not-lost : (u v a b : ℕ) (acts : List Act) → ((a ≡ u) × (b ≡ v) → ⊥) → HaveNone (lost_by u v) (dropped a b acts)
dropped-not-lost u v a b [] apart = tt
dropped-not-lost u v a b (Accepts s f ∷ acts) apart = dropped-not-lost u v a b acts apart
dropped-not-lost u v a b (Gives s f ∷ acts) apart = dropped-not-lost u v a b acts apart
dropped-not-lost u v a b (Loses s i ∷ acts) apart = (not-this u v a b s i apart, dropped-not-lost u v a b acts apart) where
  not-this : (u v a b s i : ℕ) → ((a ≡ u) × (b ≡ v) → ⊥) → lost_by u v (Drops s a b i) ≡ []
  not-this u v a b s i apart = grind (arith, common_steps)

-- ---- accounts and losses of marks are picked

account-picked : (v : ℕ) (ms : List Mark) → account_of v ms ≡ picked (done_by v) ms
account-picked v [] = refl
account-picked v (m ∷ ms) = ap (λ xs. done_by v m ++ xs) (account-picked v ms)

losses-join : (xs ys : List Act) → the_losses (xs ++ ys) ≡ the_losses xs ++ the_losses ys
losses-join [] ys = refl
losses-join (Accepts t f ∷ acts) ys = losses-join acts ys
losses-join (Gives t f ∷ acts) ys = losses-join acts ys
losses-join (Loses t i ∷ acts) ys = ap (λ xs. Loses t i ∷ xs) (losses-join acts ys)

losses-picked : (u v : ℕ) (ms : List Mark) → the_losses (history_of u v ms) ≡ picked (lost_by u v) ms
losses-picked u v [] = refl
losses-picked u v (m ∷ ms) = losses-join (act_on u v m) (history_of u v ms) ∙ ap (λ xs. lost_by u v m ++ xs) (losses-picked u v ms)

-- ---- all of them

module _ (n : ℕ) (account : ℕ → List Timed) (history : ℕ → ℕ → List Act) (in-time : (v : ℕ) → AreInTime (account v))
    (in-order : (u v : ℕ) → AreInOrder (history u v)) (nobody : (v : ℕ) → n ≤ v → account v ≡ [])
    (nowhere : (u v : ℕ) → (n ≤ u) ⊎ (n ≤ v) → history u v ≡ []) where
  abbrev into : (v : ℕ) → Gathered (λ u. dropped u v (history u v)) n
  into v = gathered (λ u. dropped u v (history u v)) (λ u. dropped-ordered u v (history u v) (in-order u v)) n

  abbrev of-node : (v : ℕ) → Merged (own v (account v)) (into v).all
  of-node v = merged (own v (account v)) (own-ordered v (account v) (in-time v)) (into v).all (into v).ordered

  abbrev everything : Gathered (λ v. (of-node v).all) n
  everything = gathered (λ v. (of-node v).all) (λ v. (of-node v).ordered) n

  drops-done-none : (v i : ℕ) → HaveNone (done_by v) (into i).all
  drops-done-none v i = (into i).none (done_by v) (λ u l. dropped-done-none v u i (history u i))

  node-not-done : (v i : ℕ) → i ≢ v → HaveNone (done_by v) (of-node i).all
  node-not-done v i apart = none-merged (done_by v) (of-node i).merge (own-not-done v i (account i) apart) (drops-done-none v i)

  node-lost-none : (u v i : ℕ) → i ≢ v → HaveNone (lost_by u v) (of-node i).all
  node-lost-none u v i apart =
      none-merged (lost_by u v) (of-node i).merge (own-lose-none u v i (account i))
      ((into i).none (lost_by u v) (λ a l. dropped-not-lost u v a i (history a i) (λ both. apart both.1)))

  inside-or-not : (k : ℕ) → (k < n) ⊎ (n ≤ k)
  inside-or-not k = grind arith

  all-done : (v : ℕ) → picked (done_by v) everything.all ≡ account v
  all-done v = elim (inside-or-not v) [
    | inl l ↦ everything.of_one (done_by v) v l (node-not-done v) ∙ (of-first (done_by v) (of-node v).merge (drops-done-none v v) ∙ own-done v (account v))
    | inr out ↦
        picked-none (done_by v) everything.all (everything.none (done_by v) (λ i l. node-not-done v i (λ e. absurd (omega (arith, out, l, e)))))
        ∙ sym (nobody v out)
  ]

  lost-into : (u v : ℕ) → picked (lost_by u v) (into v).all ≡ the_losses (history u v)
  lost-into u v = elim (inside-or-not u) [
    | inl l ↦ (into v).of_one (lost_by u v) u l (λ i apart. dropped-not-lost u v i v (history i v) (λ both. apart both.0)) ∙ dropped-lost u v (history u v)
    | inr out ↦
        picked-none (lost_by u v) (into v).all
        ((into v).none (lost_by u v) (λ i l. dropped-not-lost u v i v (history i v) (λ both. let e = both.0 in absurd (omega (arith, out, l, e)))))
        ∙ sym (ap the_losses (nowhere u v (inl out)))
  ]

  all-lost : (u v : ℕ) → picked (lost_by u v) everything.all ≡ the_losses (history u v)
  all-lost u v = elim (inside-or-not v) [
    | inl l ↦ everything.of_one (lost_by u v) v l (node-lost-none u v) ∙ (of-second (lost_by u v) (of-node v).merge (own-lose-none u v v (account v)) ∙ lost-into u v)
    | inr out ↦
        picked-none (lost_by u v) everything.all (everything.none (lost_by u v) (λ i l. node-lost-none u v i (λ e. absurd (omega (arith, out, l, e)))))
        ∙ sym (ap the_losses (nowhere u v (inr out)))
  ]

  an-order : (events : List Event) × IsOrderOf account history events
  an-order = (
    map event_of everything.all,
    record {
      marks = everything.all;
      are_events = refl;
      ordered = everything.ordered;
      nodes = λ v. account-picked v everything.all ∙ all-done v;
      losses = λ u v. losses-picked u v everything.all ∙ all-lost u v;
    },
  )

-- of two nodes in the network, neither is outside it
not-there : (n u v : ℕ) → (n ≤ u) ⊎ (n ≤ v) → (u < n) × (v < n) → ⊥
not-there n u v (inl l) both = let k = both.0 in omega (arith, l, k)
not-there n u v (inr l) both = let k = both.1 in omega (arith, l, k)

pub have-order : JoinedAreNodes → ProcessesHaveOrder
have-order joined w last account history range p =
    an-order w.net.nodes account history p.in_time in-order p.nobody nowhere where
      in-order : (u v : ℕ) → AreInOrder (history u v)
      in-order u v = go (are_joined w.net.edges u v) refl where
        go : (b : Bool) → are_joined w.net.edges u v ≡ b → AreInOrder (history u v)
        go true e = (p.links u v e).in_order
        go false e = subst AreInOrder (sym (p.nowhere u v e).0) tt

      nowhere : (u v : ℕ) → (w.net.nodes ≤ u) ⊎ (w.net.nodes ≤ v) → history u v ≡ []
      nowhere u v out = go (are_joined w.net.edges u v) refl where
        go : (b : Bool) → are_joined w.net.edges u v ≡ b → history u v ≡ []
        go true e = let both = joined w.net u v range.network e in absurd (not-there w.net.nodes u v out both)
        go false e = (p.nowhere u v e).0
