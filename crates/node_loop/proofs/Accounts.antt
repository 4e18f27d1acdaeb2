-- What the account of a turn says: one tick, at each port the frames that came there, and to each
-- neighbour the frames that were accepted.
use Rattle.std.proofs.Common.{◌≡◌, ◌+◌, ℕ, List, ◌∷◌, ◌++◌, ◌∙◌, All, Option, ap, arith, append-nil, refl, []}
use Rattle.std.proofs.lemmas.List.Elements.{All-head, All-tail}
use Rattle.node_connections.specs.socket_links.Counts.{Counts}
use Rattle.node_core.specs.declared.ticked.Ticked.{Ticked}
use Rattle.node_service.specs.Deeds.{Deed, IsLeave, IsOfClient, IsSend, IsTake, Takes, Asks, Leaves, Ticks, Sends, sent_to, taken_from, ticks_in}
use Rattle.node_loop.specs.Moments.{Moment}
use Rattle.node_loop.specs.Turns.{Attends, Turns}
use Rattle.node_service.proofs.Became.{leave-kinds, sent-join, taken-join}

-- deeds that add nothing to a part of the account leave it as that of no deed
none-of : {X : Type 0} (kind : Deed → Type 0) (part : List Deed → X) → ((d : Deed) (ds : List Deed) → kind d → part (d ∷ ds) ≡ part ds)
    → (ds : List Deed) → All kind ds → part ds ≡ part []
none-of kind part adds [] k = refl
none-of kind part adds (d ∷ ds) k = adds d ds (All-head kind d ds k) ∙ none-of kind part adds ds (All-tail kind d ds k)

client-takes-none : (w : ℕ) (d : Deed) (ds : List Deed) → IsOfClient d → taken_from w (d ∷ ds) ≡ taken_from w ds
client-takes-none w d ds k = grind arith

send-takes-none : (w : ℕ) (d : Deed) (ds : List Deed) → IsSend d → taken_from w (d ∷ ds) ≡ taken_from w ds
send-takes-none w d ds k = grind arith

take-sends-none : (w : ℕ) (d : Deed) (ds : List Deed) → IsTake d → sent_to w (d ∷ ds) ≡ sent_to w ds
take-sends-none w d ds k = grind arith

client-sends-none : (w : ℕ) (d : Deed) (ds : List Deed) → IsOfClient d → sent_to w (d ∷ ds) ≡ sent_to w ds
client-sends-none w d ds k = grind arith

take-ticks-never : (d : Deed) (ds : List Deed) → IsTake d → ticks_in (d ∷ ds) ≡ ticks_in ds
take-ticks-never d ds k = grind arith

client-ticks-never : (d : Deed) (ds : List Deed) → IsOfClient d → ticks_in (d ∷ ds) ≡ ticks_in ds
client-ticks-never d ds k = grind arith

send-ticks-never : (d : Deed) (ds : List Deed) → IsSend d → ticks_in (d ∷ ds) ≡ ticks_in ds
send-ticks-never d ds k = grind arith

ticks-join : (ds es : List Deed) → ticks_in (ds ++ es) ≡ ticks_in ds + ticks_in es
ticks-join [] es = omega arith
ticks-join (Takes v f ∷ ds) es = ticks-join ds es
ticks-join (Asks t ∷ ds) es = ticks-join ds es
ticks-join (Leaves t ∷ ds) es = ticks-join ds es
ticks-join (Ticks ∷ ds) es = (let rest = ticks-join ds es in omega arith)
ticks-join (Sends v f ∷ ds) es = ticks-join ds es

joined-parts : {X : Type 0} (part : List Deed → List X) → ((ds es : List Deed) → part (ds ++ es) ≡ part ds ++ part es) → (vs ws xs ys zs : List Deed)
    → part (vs ++ (ws ++ (xs ++ (ys ++ zs)))) ≡ part vs ++ (part ws ++ (part xs ++ (part ys ++ part zs)))
joined-parts part join vs ws xs ys zs = rw (join vs (ws ++ (xs ++ (ys ++ zs))), join ws (xs ++ (ys ++ zs)), join xs (ys ++ zs), join ys zs) refl

-- what is done between hearing and speaking is the middle: a tick with leaves, or nothing
module _ (takes serves middle sends leaves : List Deed) (takes-are : All IsTake takes) (serves-are : All IsOfClient serves) (sends-are : All IsSend sends) (leaves-are : All IsLeave leaves) where
  account-ticks : ticks_in (takes ++ (serves ++ (middle ++ (sends ++ leaves)))) ≡ ticks_in middle
  account-ticks = rw (
    ticks-join takes (serves ++ (middle ++ (sends ++ leaves))),
    ticks-join serves (middle ++ (sends ++ leaves)),
    ticks-join middle (sends ++ leaves),
    ticks-join sends leaves,
    none-of IsTake ticks_in take-ticks-never takes takes-are,
    none-of IsOfClient ticks_in client-ticks-never serves serves-are,
    none-of IsSend ticks_in send-ticks-never sends sends-are,
    none-of IsOfClient ticks_in client-ticks-never leaves (leave-kinds leaves leaves-are),
  ) (omega arith)

  account-takes : (w : ℕ) → taken_from w middle ≡ [] → taken_from w (takes ++ (serves ++ (middle ++ (sends ++ leaves)))) ≡ taken_from w takes
  account-takes w none = rw (
    joined-parts (taken_from w) (taken-join w) takes serves middle sends leaves,
    none-of IsOfClient (taken_from w) (client-takes-none w) serves serves-are,
    none,
    none-of IsSend (taken_from w) (send-takes-none w) sends sends-are,
    none-of IsOfClient (taken_from w) (client-takes-none w) leaves (leave-kinds leaves leaves-are),
  ) (append-nil (taken_from w takes))

  account-sends : (w : ℕ) → sent_to w middle ≡ [] → sent_to w (takes ++ (serves ++ (middle ++ (sends ++ leaves)))) ≡ sent_to w sends
  account-sends w none = rw (
    joined-parts (sent_to w) (sent-join w) takes serves middle sends leaves,
    none-of IsTake (sent_to w) (take-sends-none w) takes takes-are,
    none-of IsOfClient (sent_to w) (client-sends-none w) serves serves-are,
    none,
    none-of IsOfClient (sent_to w) (client-sends-none w) leaves (leave-kinds leaves leaves-are),
  ) (append-nil (sent_to w sends))

module _ {P : Type 0} (gave took : P → Option (List ℕ)) (counts : P → Counts) (now : ℕ) (old new : Moment P) where
  module _ (says : Ticked) (t : Turns gave took counts says now old new) where
    abbrev goes : List Deed
    goes = t.acts.leaves.deeds

    goes-are : All IsOfClient goes
    goes-are = leave-kinds goes t.acts.leaves.kinds

    -- a turn has one tick
    pub turn-ticks : ticks_in t.account ≡ 1
    turn-ticks =
        ap ticks_in t.account_is
        ∙ account-ticks t.listens.hears.takes.deeds t.listens.serves.deeds (Ticks ∷ goes) t.speaks.sends t.leaves.deeds t.listens.hears.takes.kinds t.listens.serves.kinds t.speaks.kinds t.leaves.kinds
        ∙ ap (λ n. 1 + n) (none-of IsOfClient ticks_in client-ticks-never goes goes-are)

    -- at each port it took what was pulled there, and no more
    pub turn-takes : (w : ℕ) → taken_from w t.account ≡ taken_from w t.listens.hears.takes.deeds
    turn-takes w =
        ap (taken_from w) t.account_is
        ∙ account-takes t.listens.hears.takes.deeds t.listens.serves.deeds (Ticks ∷ goes) t.speaks.sends t.leaves.deeds t.listens.hears.takes.kinds t.listens.serves.kinds t.speaks.kinds t.leaves.kinds w
        (none-of IsOfClient (taken_from w) (client-takes-none w) goes goes-are)

    -- and to each neighbour it sent what the link accepted, and no more
    pub turn-sends : (w : ℕ) → sent_to w t.account ≡ sent_to w t.speaks.sends
    turn-sends w =
        ap (sent_to w) t.account_is
        ∙ account-sends t.listens.hears.takes.deeds t.listens.serves.deeds (Ticks ∷ goes) t.speaks.sends t.leaves.deeds t.listens.hears.takes.kinds t.listens.serves.kinds t.speaks.kinds t.leaves.kinds w
        (none-of IsOfClient (sent_to w) (client-sends-none w) goes goes-are)

  -- what is done between two turns has no tick, and the same holds of it
  module _ (t : Attends gave took counts now old new) where
    pub attend-ticks : ticks_in t.account ≡ 0
    attend-ticks =
        ap ticks_in t.account_is
        ∙ account-ticks t.listens.hears.takes.deeds t.listens.serves.deeds [] t.speaks.sends t.leaves.deeds t.listens.hears.takes.kinds t.listens.serves.kinds t.speaks.kinds t.leaves.kinds

    pub attend-takes : (w : ℕ) → taken_from w t.account ≡ taken_from w t.listens.hears.takes.deeds
    attend-takes w =
        ap (taken_from w) t.account_is
        ∙ account-takes t.listens.hears.takes.deeds t.listens.serves.deeds [] t.speaks.sends t.leaves.deeds t.listens.hears.takes.kinds t.listens.serves.kinds t.speaks.kinds t.leaves.kinds w refl

    pub attend-sends : (w : ℕ) → sent_to w t.account ≡ sent_to w t.speaks.sends
    attend-sends w =
        ap (sent_to w) t.account_is
        ∙ account-sends t.listens.hears.takes.deeds t.listens.serves.deeds [] t.speaks.sends t.leaves.deeds t.listens.hears.takes.kinds t.listens.serves.kinds t.speaks.kinds t.leaves.kinds w refl
