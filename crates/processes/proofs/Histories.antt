-- What all marks say of a link is what the accounts of its two ends say, with the losses.
use Rattle.std.proofs.Common.{◌≡◌, ℕ, ◌≤◌, List, [], ◌∷◌, ◌++◌, refl, ap, ◌∙◌, sym, arith}
use Rattle.std.proofs.lemmas.Grind.{common_steps}
use Rattle.std.proofs.lemmas.List.{append_assoc}
use Rattle.std.specs.List.{AllByRecursion}
use Rattle.node_core.specs.Deeds.{Ticks, Sends, Takes, Asks, Leaves}
use Rattle.processes.specs.Accounts.{Timed}
use Rattle.processes.specs.Links.{Act, the_accepts, the_gives, accept_at, give_at, accepts_in, gives_in, moment}
use Rattle.processes.specs.Marks.{Mark, Does, Drops, mark_moment, AreOrdered, done_by, account_of, act_on, history_of}
use Rattle.processes.proofs.Lists.{all-both, all-more}
use Rattle.processes.proofs.SameHistory.{AreWeaklyInOrder}

-- one mark's accept at the link from u to v is its accept in u's account
one-accept : (u v : ℕ) (m : Mark) (acts : List Act) → the_accepts (act_on u v m ++ acts) ≡ accepts_in v (done_by u m) ++ the_accepts acts
one-accept u v m acts = grind (arith, common_steps)

one-give : (u v : ℕ) (m : Mark) (acts : List Act) → the_gives (act_on u v m ++ acts) ≡ gives_in u (done_by v m) ++ the_gives acts
one-give u v m acts = grind (arith, common_steps)

accepts-join : (v : ℕ) (xs ys : List Timed) → accepts_in v (xs ++ ys) ≡ accepts_in v xs ++ accepts_in v ys
accepts-join v [] ys = refl
accepts-join v (x ∷ xs) ys =
    ap (λ acts. accept_at v x.instant x.deed ++ acts) (accepts-join v xs ys) ∙ sym (append_assoc (accept_at v x.instant x.deed) (accepts_in v xs) (accepts_in v ys))

gives-join : (u : ℕ) (xs ys : List Timed) → gives_in u (xs ++ ys) ≡ gives_in u xs ++ gives_in u ys
gives-join u [] ys = refl
gives-join u (x ∷ xs) ys =
    ap (λ acts. give_at u x.instant x.deed ++ acts) (gives-join u xs ys) ∙ sym (append_assoc (give_at u x.instant x.deed) (gives_in u xs) (gives_in u ys))

pub accepts-are : (u v : ℕ) (ms : List Mark) → the_accepts (history_of u v ms) ≡ accepts_in v (account_of u ms)
accepts-are u v [] = refl
accepts-are u v (m ∷ ms) =
    one-accept u v m (history_of u v ms)
    ∙ (ap (λ acts. accepts_in v (done_by u m) ++ acts) (accepts-are u v ms) ∙ sym (accepts-join v (done_by u m) (account_of u ms)))

pub gives-are : (u v : ℕ) (ms : List Mark) → the_gives (history_of u v ms) ≡ gives_in u (account_of v ms)
gives-are u v [] = refl
gives-are u v (m ∷ ms) =
    one-give u v m (history_of u v ms)
    ∙ (ap (λ acts. gives_in u (done_by v m) ++ acts) (gives-are u v ms) ∙ sym (gives-join u (done_by v m) (account_of v ms)))

-- ---- in order

-- what one mark contributes to a link happens when the mark does
pub one-moment : (u v : ℕ) (m : Mark) → AllByRecursion (λ a. moment a ≡ mark_moment m) (act_on u v m)
one-moment u v (Does t a Ticks) = tt
one-moment u v (Does t a (Sends b f)) = grind (arith, common_steps)
one-moment u v (Does t a (Takes b f)) = grind (arith, common_steps)
one-moment u v (Does t a (Asks k)) = tt
one-moment u v (Does t a (Leaves k)) = tt
one-moment u v (Drops t a b i) = grind (arith, common_steps)

-- acts of later marks are later
pub acts-later : (u v n : ℕ) (ms : List Mark) → AllByRecursion (λ later. n ≤ mark_moment later) ms → AllByRecursion (λ a. n ≤ moment a) (history_of u v ms)
acts-later u v n [] all = tt
acts-later u v n (m ∷ ms) all =
    all-both (λ a. n ≤ moment a) (act_on u v m) (history_of u v ms)
    (all-more (λ a. moment a ≡ mark_moment m) (λ a. n ≤ moment a) (act_on u v m) (λ a e. let l = all.0 in omega (arith, e, l)) (one-moment u v m))
    (acts-later u v n ms all.1)

-- acts of one moment, put before later acts in order, are in order
order-join : (n : ℕ) (xs ys : List Act) → AllByRecursion (λ a. moment a ≡ n) xs → AllByRecursion (λ a. n ≤ moment a) ys → AreWeaklyInOrder ys → AreWeaklyInOrder (xs ++ ys)
order-join n [] ys same later order = order
order-join n (x ∷ xs) ys same later order = (
  all-both (λ b. moment x ≤ moment b) xs ys (all-more (λ a. moment a ≡ n) (λ b. moment x ≤ moment b) xs (λ b e. let l = same.0 in omega (arith, e, l)) same.1)
      (all-more (λ a. n ≤ moment a) (λ b. moment x ≤ moment b) ys (λ b k. let l = same.0 in omega (arith, k, l)) later),
  order-join n xs ys same.1 later order,
)

pub history-ordered : (u v : ℕ) (ms : List Mark) → AreOrdered ms → AreWeaklyInOrder (history_of u v ms)
history-ordered u v [] o = tt
history-ordered u v (m ∷ ms) o =
    order-join (mark_moment m) (act_on u v m) (history_of u v ms) (one-moment u v m) (acts-later u v (mark_moment m) ms o.0) (history-ordered u v ms o.1)
