-- Stretches event by event: the old items of a link are the oldest, and a take meets a new item
-- exactly if none of them is left.
use Rattle.std.proofs.Common.{◌≡◌, ℕ, ◌+◌, ◌-◌, ◌≤◌, zero, suc, List, [], ◌∷◌, ◌++◌, false, ◌||◌, length, map, take, drop, refl, sym, ◌∙◌, ap, subst, arith}
use Rattle.std.specs.Prelude.{nat_lt}
use Rattle.std.specs.List.{AllByRecursion, remove}
use Rattle.std.proofs.Math.Bool.{or_assoc, or_comm}
use Rattle.std.proofs.lemmas.Grind.{common_steps}
use Rattle.std.proofs.lemmas.Bool.{or_parts, cond_both}
use Rattle.std.proofs.lemmas.Bool.Decides.{nat_tests}
use Rattle.std.proofs.lemmas.List.{map-append}
use Rattle.std.proofs.lemmas.List.Elements.{All-append, All-push, All-take, All-drop, All-from_recursion, recursion_from_All}
use Rattle.link_model.specs.declared.item.Item.{Item}
use Rattle.link_model.specs.declared.item.Item.TheVariants.{Frame}
use Rattle.node_core.specs.data_link.Port.{frame_of}
use Rattle.link_model.specs.Acts.{Origin, Before, Sent, LinkAct, Puts, Takes, Loses, Rests, takes_sent, list_after, hands_over_sent, put_last}
use Rattle.link_model.proofs.Marks.{marked-start, marked-length, marked-after}
use Rattle.run_model.specs.World.{World}
use Rattle.run_model.specs.Step.{step}
use Rattle.run_model.specs.Run.{run, is_damage, has_damage, IsUndamaged}
use Rattle.run_model.specs.Sweep.{is_full_tick, has_full_tick, link_act, is_renewed}
use Rattle.link_model.specs.OldItems.{origins_after, old_count, old_after, takes_new}
use Rattle.run_model.specs.Stretch.{origins_in, old_items}
use Rattle.run_model.specs.declared.event.Event.{Event}
use Rattle.run_model.proofs.Joined.{IsEdge}
use Rattle.run_model.proofs.Steps.{step-network}
use Rattle.run_model.proofs.Renewing.{IsSent, IsBeside}
use Rattle.run_model.proofs.Edges.{link-after}

pub ticks-go_on : (w : World) (es : List Event) (e : Event) (v : ℕ) → has_full_tick w (es ++ e ∷ []) v ≡ (has_full_tick w es v || is_full_tick (run w es) e v)
ticks-go_on w [] e v = or_comm (is_full_tick w e v) false
ticks-go_on w (x ∷ es) e v =
    ap (λ b. is_full_tick w x v || b) (ticks-go_on (step w x) es e v)
    ∙ sym (or_assoc (is_full_tick w x v) (has_full_tick (step w x) es v) (is_full_tick (run (step w x) es) e v))

-- ---- old items are the oldest

-- first the old ones, then those that were sent
abbrev IsOldFirst : List Origin → Type 0
IsOldFirst [] = Unit {0}
IsOldFirst (Before ∷ os) = IsOldFirst os
IsOldFirst (Sent i ∷ os) = AllByRecursion IsSent os

none-old : (os : List Origin) → AllByRecursion IsSent os → old_count os ≡ 0
none-old [] all = refl
none-old (Before ∷ os) all = absurd (let h = all.0 in cc)
none-old (Sent i ∷ os) all = none-old os all.1

sent-first : (os : List Origin) → AllByRecursion IsSent os → IsOldFirst os
sent-first [] all = tt
sent-first (Before ∷ os) all = absurd (let h = all.0 in cc)
sent-first (Sent i ∷ os) all = all.1

sent-push : (os : List Origin) (i : ℕ) → AllByRecursion IsSent os → AllByRecursion IsSent (os ++ Sent i ∷ [])
sent-push os i all = recursion_from_All IsSent (os ++ Sent i ∷ []) (All-push IsSent os (Sent i) (All-from_recursion IsSent os all) refl)

sent-remove : (os : List Origin) (i : ℕ) → AllByRecursion IsSent os → AllByRecursion IsSent (remove os i)
sent-remove os i all =
    let each = All-from_recursion IsSent os all in
    recursion_from_All IsSent (remove os i) (All-append IsSent (take i os) (drop (suc i) os) (All-take IsSent i os each) (All-drop IsSent (suc i) os each))

first-push : (os : List Origin) (i : ℕ) → IsOldFirst os → IsOldFirst (os ++ Sent i ∷ []) × (old_count (os ++ Sent i ∷ []) ≡ old_count os)
first-push [] i f = (tt, refl)
first-push (Before ∷ os) i f = let h = first-push os i f in (h.0, omega (arith, h.1))
first-push (Sent j ∷ os) i f = (let all = sent-push os i f in (all, none-old (os ++ Sent i ∷ []) all ∙ sym (none-old os f)))

first-put : (capacity : ℕ) (os : List Origin) (i : ℕ) → IsOldFirst os → IsOldFirst (put_last capacity os (Sent i)) × (old_count (put_last capacity os (Sent i)) ≡ old_count os)
first-put capacity os i f =
    cond_both (nat_lt (length os) capacity) (os ++ Sent i ∷ []) os (λ l. IsOldFirst l × (old_count l ≡ old_count os)) (λ _. first-push os i f) (λ _. (f, refl))

first-rest : (os : List Origin) → IsOldFirst os → IsOldFirst (drop 1 os) × (old_count (drop 1 os) ≡ old_count os - 1)
first-rest [] f = (tt, refl)
first-rest (Before ∷ os) f = (f, omega arith)
first-rest (Sent i ∷ os) f = (sent-first os f, omega (arith, none-old os f))

first-remove : (os : List Origin) (i : ℕ) → IsOldFirst os → IsOldFirst (remove os i) × (old_count (remove os i) ≡ old_after (Loses i) (old_count os))
first-remove [] zero f = (tt, refl)
first-remove [] (suc i) f = (tt, grind (arith, common_steps, nat_tests))
first-remove (Before ∷ os) zero f = (f, grind (arith, common_steps, nat_tests))
first-remove (Before ∷ os) (suc i) f = let h = first-remove os i f in (h.0, let e = h.1 in grind (arith, common_steps, nat_tests))
first-remove (Sent j ∷ os) zero f = (sent-first os f, let e = none-old os f in grind (arith, common_steps, nat_tests))
first-remove (Sent j ∷ os) (suc i) f =
    let all = sent-remove os i f in (all, let d = none-old (remove os i) all in let e = none-old os f in grind (arith, common_steps, nat_tests))

first-after : (capacity i : ℕ) (act : LinkAct) (os : List Origin) → IsOldFirst os
    → IsOldFirst (list_after capacity (Sent i) act os) × (old_count (list_after capacity (Sent i) act os) ≡ old_after act (old_count os))
first-after capacity i Puts os f = first-put capacity os i f
first-after capacity i Takes os f = first-rest os f
first-after capacity i (Loses j) os f = first-remove os j f
first-after capacity i Rests os f = (f, refl)

takes-new : (act : LinkAct) (os : List Origin) → IsOldFirst os → takes_sent act os ≡ takes_new act (old_count os) (length os)
takes-new Puts os f = refl
takes-new (Loses i) os f = refl
takes-new Rests os f = refl
takes-new Takes [] f = refl
takes-new Takes (Before ∷ os) f = grind (arith, common_steps, nat_tests)
takes-new Takes (Sent i ∷ os) f = let e = none-old os f in grind (arith, common_steps, nat_tests)

first-start : (items : List Item) → IsOldFirst (map (λ item. Before) items) × (old_count (map (λ item. Before) items) ≡ length items)
first-start [] = (tt, refl)
first-start (item ∷ items) = let h = first-start items in (h.0, omega (arith, h.1))

-- ---- one more act

origins-join : (capacity i j : ℕ) (xs : List LinkAct) (act : LinkAct) (os : List Origin) → j ≡ i + length xs
    → origins_after capacity i (xs ++ act ∷ []) os ≡ list_after capacity (Sent j) act (origins_after capacity i xs os)
origins-join capacity i j [] act os e = ap (λ k. list_after capacity (Sent k) act os) (omega (arith, e))
origins-join capacity i j (x ∷ xs) act os e = origins-join capacity (suc i) j xs act (list_after capacity (Sent i) x os) (omega (arith, e))

hands-join : (capacity i : ℕ) (xs : List LinkAct) (act : LinkAct) (os : List Origin)
    → hands_over_sent capacity i (xs ++ act ∷ []) os ≡ (hands_over_sent capacity i xs os || takes_sent act (origins_after capacity i xs os))
hands-join capacity i [] act os = or_comm (takes_sent act os) false
hands-join capacity i (x ∷ xs) act os =
    let later = list_after capacity (Sent i) x os in
    ap (λ b. takes_sent x os || b) (hands-join capacity (suc i) xs act later)
    ∙ sym (or_assoc (takes_sent x os) (hands_over_sent capacity (suc i) xs later) (takes_sent act (origins_after capacity (suc i) xs later)))

first-acts : (capacity i : ℕ) (acts : List LinkAct) (os : List Origin) → IsOldFirst os → IsOldFirst (origins_after capacity i acts os)
first-acts capacity i [] os f = f
first-acts capacity i (act ∷ acts) os f = first-acts capacity (suc i) acts (list_after capacity (Sent i) act os) (first-after capacity i act os f).0

-- ---- one more event

pub old-starts : (w : World) (u v : ℕ) → old_items w [] u v ≡ length (w.link u v)
old-starts w u v = (first-start (w.link u v)).1

pub first-in : (w : World) (es : List Event) (u v : ℕ) → IsOldFirst (origins_in w es u v)
first-in w es u v = first-acts w.net.capacity 0 (map (link_act u v) es) (map (λ item. Before) (w.link u v)) (first-start (w.link u v)).0

pub old-goes_on : (w : World) (es : List Event) (e : Event) (u v : ℕ) → old_items w (es ++ e ∷ []) u v ≡ old_after (link_act u v e) (old_items w es u v)
old-goes_on w es e u v =
    let start = map (λ item. Before) (w.link u v) in
    let acts = map (link_act u v) es in
    let i = length acts in
    ap (λ l. old_count (origins_after w.net.capacity 0 l start)) (map-append (link_act u v) es (e ∷ []))
    ∙ ap old_count (origins-join w.net.capacity 0 i acts (link_act u v e) start (omega arith))
    ∙ (first-after w.net.capacity i (link_act u v e) (origins_in w es u v) (first-in w es u v)).1

-- there is a mark for each item
beside : (w : World) (i : ℕ) (es : List Event) (u v : ℕ) (os : List Origin) → IsEdge w.net u v → IsUndamaged w es → IsBeside os (w.link u v)
    → IsBeside (origins_after w.net.capacity i (map (link_act u v) es) os) ((run w es).link u v)
beside w i [] u v os pair fine m = m
beside w i (e ∷ es) u v os pair fine m =
    let parts = or_parts (is_damage w e) (has_damage (step w e) es) fine in
    let later = list_after w.net.capacity (Sent i) (link_act u v e) os in
    subst (λ net. IsBeside (origins_after net.capacity (suc i) (map (link_act u v) es) later) ((run (step w e) es).link u v)) (step-network w e parts.0)
    (beside (step w e) (suc i) es u v later (subst (λ net. IsEdge net u v) (sym (step-network w e parts.0)) pair) parts.1
    (subst (IsBeside later) (sym (link-after w e u v pair parts.0))
    (marked-after (λ item. Unit {0}) w.net.capacity i (Frame (frame_of ((w.node u).port v))) (link_act u v e) os (w.link u v) tt m)))

as-many : (w : World) (es : List Event) (u v : ℕ) → IsEdge w.net u v → IsUndamaged w es → length (origins_in w es u v) ≡ length ((run w es).link u v)
as-many w es u v pair fine =
    marked-length (λ item. Unit {0}) (origins_in w es u v) ((run w es).link u v)
    (beside w 0 es u v (map (λ item. Before) (w.link u v)) pair fine (marked-start (λ item. Unit {0}) (w.link u v)))

old-few : (os : List Origin) → old_count os ≤ length os
old-few [] = omega arith
old-few (Before ∷ os) = omega (arith, old-few os)
old-few (Sent i ∷ os) = omega (arith, old-few os)

pub old-are_there : (w : World) (es : List Event) (u v : ℕ) → IsEdge w.net u v → IsUndamaged w es → old_items w es u v ≤ length ((run w es).link u v)
old-are_there w es u v pair fine = omega (arith, as-many w es u v pair fine, old-few (origins_in w es u v))

pub renewed-goes_on : (w : World) (es : List Event) (e : Event) (u v : ℕ) → IsEdge w.net u v → IsUndamaged w es
    → is_renewed w (es ++ e ∷ []) u v
    ≡ (is_renewed w es u v || takes_new (link_act u v e) (old_items w es u v) (length ((run w es).link u v)))
renewed-goes_on w es e u v pair fine =
    let start = map (λ item. Before) (w.link u v) in
    ap (λ l. hands_over_sent w.net.capacity 0 l start) (map-append (link_act u v) es (e ∷ []))
    ∙ hands-join w.net.capacity 0 (map (link_act u v) es) (link_act u v e) start
    ∙ ap (λ b. is_renewed w es u v || b)
    (takes-new (link_act u v e) (origins_in w es u v) (first-in w es u v)
    ∙ ap (takes_new (link_act u v e) (old_items w es u v)) (as-many w es u v pair fine))
