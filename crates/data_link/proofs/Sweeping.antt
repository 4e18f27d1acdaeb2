-- Two sweeps in a row hold a move of near's number
use Rattle.std.proofs.Common.{◌≡◌, ◌≢◌, ℕ, ◌+◌, ◌*◌, ◌<◌, ◌≤◌, zero, suc, List, [], ◌∷◌, ◌++◌, map, true, refl, ◌∙◌, ap, subst, arith}
use Rattle.std.proofs.lemmas.Grind.{common_steps}
use Rattle.link_model.specs.declared.item.Item.{Item}
use Rattle.link_model.specs.declared.item.Item.TheVariants as item
use Rattle.data_link.specs.Port.{frame_of}
use Rattle.data_link.specs.Edge.{EdgeState, EdgeEvent, SendOut, SendBack, TakeOut, TakeBack, LoseOut, LoseBack, Elsewhere}
use Rattle.data_link.specs.Edge.{acked_by, edge_step, edge_run, moves, moves_in}
use Rattle.data_link.specs.Sweep.{Takes, act_back, list_after, Origin, Before, Sent, takes_sent, hands_over_sent, IsSweep, Sweeps}
use Rattle.data_link.proofs.UnderWay.{near-stays}
use Rattle.data_link.proofs.Marks.{IsMarked, IsFirstGood, marked-start, marked-after, marked-taken, by_taken, back-after}
use Rattle.data_link.proofs.Known.{AlwaysHas, AreHeard, Back, always-parts, heard-event, heard-in_sweep}

-- the number is n
abbrev Is : ℕ → ℕ → Type 0
Is n x = x ≡ n

-- if near's number does not move, it is throughout what it is at first
stands : (n capacity : ℕ) (s : EdgeState) (es : List EdgeEvent) → moves_in capacity s es ≡ 0 → s.near.seq ≡ n → AlwaysHas (Is n) capacity s es
stands n capacity s [] still e = e
stands n capacity s (ev ∷ es) still e =
    (e, stands n capacity (edge_step capacity s ev) es (omega (arith, still)) ((near-stays capacity s ev (omega (arith, still))).0 ∙ e))

-- near takes an item that far sent since it accepted the number
acked-taken : (n : ℕ) (s : EdgeState) (items : List Item) → s.near.seq ≡ n → IsFirstGood (Back (Is n)) items → acked_by s.near items ≡ 1
acked-taken n s [] e g = absurd g
acked-taken n s (item.Noise ∷ items) e g = absurd g.0
acked-taken n s (item.Frame f ∷ items) e g = grind (arith, common_steps)

taken-moves : (n : ℕ) (s : EdgeState) (e : EdgeEvent) → s.near.seq ≡ n → act_back e ≡ Takes → IsFirstGood (Back (Is n)) s.back → moves s e ≡ 1
taken-moves n s SendOut i t g = absurd cc
taken-moves n s SendBack i t g = absurd cc
taken-moves n s (TakeOut present) i t g = absurd cc
taken-moves n s (TakeBack present) i t g = acked-taken n s s.back i g
taken-moves n s (LoseOut j) i t g = absurd cc
taken-moves n s (LoseBack j) i t g = absurd cc
taken-moves n s Elsewhere i t g = absurd cc

-- ---- a sweep in which the number stands, once far has accepted it

second-run : (n capacity i : ℕ) (s : EdgeState) (es : List EdgeEvent) (os : List Origin) → moves_in capacity s es ≡ 0 → AlwaysHas (Is n) capacity s es
    → AreHeard (Is n) s → IsMarked (Back (Is n)) os s.back → hands_over_sent capacity i (map act_back es) os ≡ true → ⊥
second-run n capacity i s [] os still k heard m h = absurd cc
second-run n capacity i s (e ∷ es) os still k heard m h =
    let after = edge_step capacity s e in
    let marks = list_after capacity (Sent i) (act_back e) os in
    let marked = marked-after (Back (Is n)) capacity i (item.Frame (frame_of s.far)) (act_back e) os s.back heard.accepted m in
    by_taken (takes_sent (act_back e) os) (hands_over_sent capacity (suc i) (map act_back es) marks) h
    (λ t. let g = marked-taken (Back (Is n)) (act_back e) os s.back t m in omega (arith, still, taken-moves n s e k.0 g.0 g.1))
    (λ t r. second-run n capacity (suc i) after es marks (omega (arith, still)) k.1
    (heard-event (Is n) capacity s e k.0 heard) (subst (IsMarked (Back (Is n)) marks) (back-after capacity s e) marked) r)

pub moves-append : (capacity : ℕ) (s : EdgeState) (xs ys : List EdgeEvent) → moves_in capacity s (xs ++ ys) ≡ moves_in capacity s xs + moves_in capacity (edge_run capacity s xs) ys
moves-append capacity s [] ys = omega arith
moves-append capacity s (e ∷ xs) ys = omega (arith, moves-append capacity (edge_step capacity s e) xs ys)

pub run-append : (capacity : ℕ) (s : EdgeState) (xs ys : List EdgeEvent) → edge_run capacity s (xs ++ ys) ≡ edge_run capacity (edge_run capacity s xs) ys
run-append capacity s [] ys = refl
run-append capacity s (e ∷ xs) ys = run-append capacity (edge_step capacity s e) xs ys

stands-not : (capacity : ℕ) (s : EdgeState) (xs ys : List EdgeEvent) → IsSweep capacity s xs → IsSweep capacity (edge_run capacity s xs) ys → moves_in capacity s (xs ++ ys) ≢ 0
stands-not capacity s xs ys a b i =
    let j = moves-append capacity s xs ys in
    let n = s.near.seq in
    let mid = edge_run capacity s xs in
    let w = always-parts (Is n) capacity s xs ys (stands n capacity s (xs ++ ys) i refl) in
    let heard = heard-in_sweep (Is n) capacity s xs w.0 a in
    second-run n capacity 0 mid ys (map (λ x. Before) mid.back) (omega (arith, i, j)) w.1 heard (marked-start (Back (Is n)) mid.back) b.back

pub two-sweeps-move : (capacity : ℕ) (s : EdgeState) (xs ys : List EdgeEvent) → IsSweep capacity s xs → IsSweep capacity (edge_run capacity s xs) ys → 0 < moves_in capacity s (xs ++ ys)
two-sweeps-move capacity s xs ys a b =
    let ne = stands-not capacity s xs ys a b in
    omega (arith, ne)

-- 2k sweeps hold k moves
pub sweeps-move : (capacity k r : ℕ) (s : EdgeState) (es : List EdgeEvent) → 2 * k ≤ r → Sweeps capacity s r es → k ≤ moves_in capacity s es
sweeps-move capacity zero r s es l w = omega arith
sweeps-move capacity (suc k) zero s es l w = absurd (omega arith)
sweeps-move capacity (suc k) (suc zero) s es l w = absurd (omega arith)
sweeps-move capacity (suc k) (suc (suc r)) s es l (first, rest, e, a, (second, rest', e', b, w)) =
    let one = two-sweeps-move capacity s first second a b in
    let more = sweeps-move capacity k r (edge_run capacity (edge_run capacity s first) second) rest' (omega arith) w in
    let here : moves_in capacity s es ≡ moves_in capacity s (first ++ rest) = ap (moves_in capacity s) e in
    let there : moves_in capacity (edge_run capacity s first) rest ≡ moves_in capacity (edge_run capacity s first) (second ++ rest') = ap (moves_in capacity (edge_run capacity s first)) e' in
    omega (arith, one, more, here, there, moves-append capacity s first rest, moves-append capacity s first second, moves-append capacity (edge_run capacity s first) second rest')
