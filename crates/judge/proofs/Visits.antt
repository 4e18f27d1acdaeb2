-- The nodes that the privilege has visited, event by event.
use Rattle.std.proofs.Common.{◌≡◌, ◌∙◌, sym, ap, subst, ℕ, ◌+◌, Bool, true, false, ◌==◌, ◌&&◌, ◌||◌, nat_lt, if◌then◌else◌, IsTrue, is_none, is_some, None, List, [], ◌∷◌, ◌++◌, arith, refl}
use Rattle.std.proofs.lemmas.Bool.{or_right}
use Rattle.std.proofs.lemmas.Grind.{common_steps}
use Rattle.configuration.specs.link_model.declared.item.Item.{Item}
use Rattle.configuration.specs.node_core.Machines.{is_node_privileged}
use Rattle.configuration.specs.node_core.State.{LocalState}
use Rattle.configuration.specs.run_model.World.{World, IsWorldInRange, site, with_node, with_link}
use Rattle.configuration.specs.run_model.Step.{refusal, step, changed, handed_over, has_room}
use Rattle.configuration.specs.run_model.Run.{run, is_damage}
use Rattle.configuration.specs.run_model.Count.{after_damage}
use Rattle.configuration.specs.run_model.Happened.{happened, taken_of}
use Rattle.configuration.specs.run_model.Privilege.{is_privileged}
use Rattle.configuration.specs.run_model.Visited.{is_privileged_once, is_visited}
use Rattle.configuration.specs.run_model.declared.event.Event.{Event}
use Rattle.configuration.specs.run_model.declared.event.Event.TheVariants.{Send, Take, Lose, Tick, Ask, Leave, Damage}
use Rattle.configuration.specs.run_model.declared.happened.Happened.{Happened}
use Rattle.configuration.specs.run_model.declared.happened.Happened.TheVariants.{FullTick, LendingTick, Damaged}
use Rattle.judge.specs.Below.{Below}
use Rattle.judge.specs.Stretch.{has_bit, names_below}
use Rattle.judge.specs.Visited.{AreVisited, ticked_or_took}
use Rattle.judge.proofs.Judging.{damage-refused}
use Rattle.judge.proofs.JudgeSteps.{names-after, no-damage}

-- ---- which nodes an event may make privileged

-- a write to one node changes no other
other-node : (w : World) (a v : ℕ) (s : LocalState) → (v == a) ≡ false → is_privileged (with_node w a s) v ≡ is_privileged w v
other-node w a v s other = ap (λ b. is_node_privileged (site w v) (if b then s else w.node v)) other

-- a write to its desk, or to anything that its machines do not see, does not make a node
-- privileged
unseen : (w : World) (a v : ℕ) (s : LocalState) → is_node_privileged (site w v) s ≡ is_node_privileged (site w v) (w.node a)
    → is_privileged (with_node w a s) v ≡ is_privileged w v
unseen w a v s same = by-test (v == a) refl
  where
    by-test : (b : Bool) → (v == a) ≡ b → is_privileged (with_node w a s) v ≡ is_privileged w v
    by-test true here =
        let is : v ≡ a = grind (arith, common_steps, here) in
        ap (λ b. is_node_privileged (site w v) (if b then s else w.node v)) here ∙ same ∙ ap (λ k. is_node_privileged (site w v) (w.node k)) (sym is)
    by-test false other = other-node w a v s other

link-alone : (b : Bool) (w : World) (x y v : ℕ) (items : List Item) → is_privileged (if b then with_link w x y items else w) v ≡ is_privileged w v
link-alone true w x y v items = refl
link-alone false w x y v items = refl

taking-alone : (w : World) (x y v : ℕ) (items : List Item) → ticked_or_took v (taken_of x y items) ≡ false
    → is_privileged (handed_over w x y items) v ≡ is_privileged w v
taking-alone w x y v [] other = refl
taking-alone w x y v (item ∷ rest) other = other-node w y v _ other

tick-of : (b : Bool) (a v : ℕ) → ticked_or_took v (if b then FullTick a else LendingTick a) ≡ (v == a)
tick-of true a v = refl
tick-of false a v = refl

changes-none : (w : World) (e : Event) (v : ℕ) → ¬ (happened w e ≡ Damaged) → ticked_or_took v (happened w e) ≡ false
    → is_privileged (changed w e) v ≡ is_privileged w v
changes-none w (Send x y) v fine other = link-alone (has_room w x y) w x y v _
changes-none w (Take x y) v fine other = taking-alone w x y v (w.link x y) other
changes-none w (Lose x y i) v fine other = refl
changes-none w (Tick a) v fine other = other-node w a v _ (sym (tick-of (is_none ((step w (Tick a)).node a).desk.lent) a v) ∙ other)
changes-none w (Ask a t) v fine other = unseen w a v _ refl
changes-none w (Leave a t) v fine other = unseen w a v _ refl
changes-none w (Damage h) v fine other = absurd (fine refl)

-- A node that has neither ticked nor taken is privileged exactly if it was before.
unmoved : (w : World) (e : Event) (v : ℕ) → refusal w e ≡ None → ¬ (happened w e ≡ Damaged) → ticked_or_took v (happened w e) ≡ false
    → is_privileged (step w e) v ≡ is_privileged w v
unmoved w e v fits fine other =
    ap (λ r. is_privileged (if is_some r then w else changed w e) v) fits ∙ changes-none w e v fine other

-- ---- masks, bit by bit

-- one more node was looked at, and is privileged or not
next-bit : (here : ℕ → Bool) (mask new node : ℕ) (bit : Bool) → ((v : ℕ) → has_bit mask v ≡ (nat_lt v node && here v))
    → ((v : ℕ) → has_bit new v ≡ (has_bit mask v || (v == node && bit))) → here node ≡ bit
    → (v : ℕ) → has_bit new v ≡ (nat_lt v (node + 1) && here v)
next-bit here mask new node bit before with there v = by-test (v == node) refl
  where
    by-test : (b : Bool) → (v == node) ≡ b → has_bit new v ≡ (nat_lt v (node + 1) && here v)
    by-test true e =
        let same : v ≡ node = grind (arith, common_steps, e) in
        let a = before v in
        let b = with v in
        let h : here v ≡ bit = subst (λ k. here k ≡ bit) (sym same) there in
        grind (arith, common_steps, a, b, e, h, same)
    by-test false e = let a = before v in let b = with v in grind (arith, common_steps, a, b, e)

pub one-more : (here : ℕ → Bool) (mask new node : ℕ) → ((v : ℕ) → has_bit mask v ≡ (nat_lt v node && here v))
    → ((v : ℕ) → has_bit new v ≡ (has_bit mask v || v == node)) → here node ≡ true
    → (v : ℕ) → has_bit new v ≡ (nat_lt v (node + 1) && here v)
one-more here mask new node before with there =
    next-bit here mask new node true before (λ v. let w = with v in grind (arith, common_steps, w)) there

pub none-more : (here : ℕ → Bool) (mask node : ℕ) → ((v : ℕ) → has_bit mask v ≡ (nat_lt v node && here v)) → here node ≡ false
    → (v : ℕ) → has_bit mask v ≡ (nat_lt v (node + 1) && here v)
none-more here mask node before other = next-bit here mask mask node false before (λ v. grind (arith, common_steps)) other

-- a mask has the bits of the nodes visited before or now
old-bit : (bit inside old here next : Bool) → bit ≡ (inside && old) → (here ≡ true → old ≡ true) → next ≡ (old || here) → bit ≡ (inside && next)
old-bit bit inside true here next a b c = rw c a
old-bit bit inside false true next a b c = absurd (let wrong = b refl in cc)
old-bit bit inside false false next a b c = rw c a

new-bit : (bit mask inside moved old before here next : Bool) → bit ≡ (mask || (moved && here)) → mask ≡ (inside && old) → next ≡ (old || here)
    → (moved ≡ true → inside ≡ true) → (moved ≡ false → here ≡ before) → (before ≡ true → old ≡ true) → bit ≡ (inside && next)
new-bit bit mask inside moved old before here next a b c d e f = grind (arith, common_steps)

-- a node whose bit is set, or that is not privileged, adds none
pub bit-there : (mask new node v : ℕ) (here : Bool) → ((v : ℕ) → has_bit new v ≡ (has_bit mask v || v == node)) → new ≡ mask
    → has_bit mask v ≡ (has_bit mask v || (v == node && here))
bit-there mask new node v here with same = let a = with v in grind (arith, common_steps, a, same)

pub not-here : (here : ℕ → Bool) (mask node v : ℕ) → here node ≡ false → has_bit mask v ≡ (has_bit mask v || (v == node && here v))
not-here here mask node v other = by-test (v == node) refl
  where
    by-test : (b : Bool) → (v == node) ≡ b → has_bit mask v ≡ (has_bit mask v || (v == node && here v))
    by-test true e =
        let same : v ≡ node = grind (arith, common_steps, e) in
        let h : here v ≡ false = subst (λ k. here k ≡ false) (sym same) other in
        grind (arith, common_steps, h)
    by-test false e = grind (arith, common_steps, e)

-- ---- one more event

-- a node that is privileged at the end of a run is privileged at some moment of it
once-end : (w : World) (es : List Event) (v : ℕ) → is_privileged (run w es) v ≡ true → is_privileged_once w es v ≡ true
once-end w [] v here = here
once-end w (e ∷ es) v here = or_right (is_privileged w v) (is_privileged_once (step w e) es v) (once-end (step w e) es v here)

module _ (laws : Below) (start : World) (es : List Event) (e : Event) (now next : World) (is_next : next ≡ step now e) (ok : IsWorldInRange start)
    (led : now ≡ run start es) where
  visited-now : (v : ℕ) → is_privileged now v ≡ true → is_visited start es v ≡ true
  visited-now v here =
      let m = after_damage start es in
      once-end m.world m.rest v (subst (λ w. is_privileged w v ≡ true) (led ∙ sym (laws.leads start es ok).2) here)

  goes-on : (v : ℕ) → is_visited start (es ++ e ∷ []) v ≡ ((if is_damage now e then false else is_visited start es v) || is_privileged (step now e) v)
  goes-on v =
      subst (λ w. is_visited start (es ++ e ∷ []) v ≡ ((if is_damage w e then false else is_visited start es v) || is_privileged (step w e) v))
      (sym led) (laws.visits start es e v)

  as-many_next : (step now e).net.nodes ≡ start.net.nodes
  as-many_next = ap (λ w. (step w e).net.nodes) led ∙ ap (λ w. w.net.nodes) (sym (laws.joins start es (e ∷ []))) ∙ (laws.frame start (es ++ e ∷ [])).nodes

  -- damage starts over with the nodes that are privileged right after it
  pub visited-damage : (fresh : ℕ) → is_damage now e ≡ true
      → ((v : ℕ) → has_bit fresh v ≡ (nat_lt v next.net.nodes && is_privileged next v)) → AreVisited start (es ++ e ∷ []) fresh
  visited-damage fresh damage bits v =
      bits v
      ∙ ap (λ w. nat_lt v w.net.nodes && is_privileged w v) is_next
      ∙ ap (λ n. nat_lt v n && is_privileged (step now e) v) as-many_next
      ∙ ap (λ b. nat_lt v start.net.nodes && b) (sym (goes-on v ∙ ap (λ b. (if b then false else is_visited start es v) || is_privileged (step now e) v) damage))

  module _ (mask : ℕ) (seen : AreVisited start es mask) where
    more : is_damage now e ≡ false → (v : ℕ) → is_visited start (es ++ e ∷ []) v ≡ (is_visited start es v || is_privileged (step now e) v)
    more none v = goes-on v ∙ ap (λ b. (if b then false else is_visited start es v) || is_privileged (step now e) v) none

    -- a refused event changes nothing
    pub visited-refused : IsTrue (is_some (refusal now e)) → AreVisited start (es ++ e ∷ []) mask
    visited-refused refused v =
        old-bit (has_bit mask v) (nat_lt v start.net.nodes) (is_visited start es v) (is_privileged now v) (is_visited start (es ++ e ∷ []) v)
        (seen v) (visited-now v)
        (more (damage-refused now e refused) v ∙ ap (λ w. is_visited start es v || is_privileged w v) (laws.refused now e refused))

    -- any other event adds the node that ticked or took, if it is privileged
    pub visited-goes_on : (new : ℕ) (did : Happened) → refusal now e ≡ None → did ≡ happened now e → ¬ (did ≡ Damaged)
        → ((v : ℕ) → has_bit new v ≡ (has_bit mask v || (ticked_or_took v did && is_privileged next v)))
        → AreVisited start (es ++ e ∷ []) new
    visited-goes_on new did fits is fine bits v =
        new-bit (has_bit new v) (has_bit mask v) (nat_lt v start.net.nodes) (ticked_or_took v did) (is_visited start es v) (is_privileged now v)
        (is_privileged (step now e) v) (is_visited start (es ++ e ∷ []) v)
        (bits v ∙ ap (λ w. has_bit mask v || (ticked_or_took v did && is_privileged w v)) is_next) (seen v)
        (more (no-damage now e not-damaged) v) inside (λ other. unmoved now e v fits not-damaged (ap (ticked_or_took v) (sym is) ∙ other)) (visited-now v)
      where
        not-damaged : ¬ (happened now e ≡ Damaged)
        not-damaged damaged = fine (is ∙ damaged)

        named : (did : Happened) (n : ℕ) → IsTrue (names_below n did) → ticked_or_took v did ≡ true → nat_lt v n ≡ true
        named did n names moved = grind (arith, common_steps)

        inside : ticked_or_took v did ≡ true → nat_lt v start.net.nodes ≡ true
        inside moved =
            subst (λ n. nat_lt v n ≡ true) (ap (λ w. w.net.nodes) is_next ∙ as-many_next)
            (named did next.net.nodes (names-after laws now next e did is_next is fits) moved)

-- at the start the privileged nodes are visited
pub visited-starts : (start : World) (mask : ℕ) → ((v : ℕ) → has_bit mask v ≡ (nat_lt v start.net.nodes && is_privileged start v)) → AreVisited start [] mask
visited-starts start mask bits = bits
