-- The items that were on a link before a stretch: what must be kept of them to say, act by act,
-- when the stretch renews the link.
use Rattle.std.specs.Prelude.{ℕ, ◌-◌, Bool, false, ◌==◌, ◌&&◌, if◌then◌else◌, nat_lt, suc, List, [], ◌∷◌}
use Rattle.link_model.specs.Acts.{LinkAct, Takes, Loses, Origin, Before, Sent, list_after}

-- the origins beside a link's items after some acts, the first of which has the number i
abbrev pub origins_after : ℕ → ℕ → List LinkAct → List Origin → List Origin
origins_after capacity i [] origins = origins
origins_after capacity i (act ∷ acts) origins =
    origins_after capacity (suc i) acts (list_after capacity (Sent i) act origins)

-- how many of these come from before the stretch
abbrev pub old_count : List Origin → ℕ
old_count [] = 0
old_count (Before ∷ origins) = suc (old_count origins)
old_count (Sent i ∷ origins) = old_count origins

-- how many of the old items are left after one more act; they are the oldest on the link
abbrev pub old_after : LinkAct → (old : ℕ) → ℕ
old_after Takes old = old - 1
old_after (Loses i) old = if nat_lt i old then old - 1 else old
old_after _ old = old

-- the act takes a new item: none of the items on the link is an old one
abbrev pub takes_new : LinkAct → (old items : ℕ) → Bool
takes_new Takes old items = (old == 0) && nat_lt 0 items
takes_new _ old items = false
