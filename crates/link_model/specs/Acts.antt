-- What happens to the items of a link along a stretch of a run, and when the stretch renews the
-- link: it takes an item that was sent inside it.
use Rattle.std.specs.Prelude.{ℕ, Bool, true, false, ◌||◌, suc, nat_lt, if◌then◌else◌, List, [], ◌∷◌, ◌++◌, length, map, drop, remove}
use Rattle.link_model.specs.declared.item.Item.{Item}

-- an item is put on the link, its oldest is taken, its i-th is lost, or none of these
pub data LinkAct : Type 0 where
  Puts : LinkAct
  Takes : LinkAct
  Loses : (i : ℕ) → LinkAct
  Rests : LinkAct

-- an item goes last if there is room, else it is lost
abbrev pub put_last : {X : Type 0} → ℕ → List X → X → List X
put_last capacity items x = if nat_lt (length items) capacity then items ++ x ∷ [] else items

-- a list beside a link changes as the link's items do: x is put last, the first is taken, the i-th
-- is lost
abbrev pub list_after : {X : Type 0} → ℕ → X → LinkAct → List X → List X
list_after capacity x Puts items = put_last capacity items x
list_after capacity x Takes items = drop 1 items
list_after capacity x (Loses i) items = remove items i
list_after capacity x Rests items = items

-- where an item comes from: it was on the link before the stretch, or the stretch's event with this
-- number sent it
pub data Origin : Type 0 where
  Before : Origin
  Sent : (event : ℕ) → Origin

-- the oldest item was sent inside the stretch
abbrev pub is_first_sent : List Origin → Bool
is_first_sent (Sent i ∷ origins) = true
is_first_sent _ = false

-- the act takes an item that was sent inside the stretch
abbrev pub takes_sent : LinkAct → List Origin → Bool
takes_sent Takes origins = is_first_sent origins
takes_sent _ origins = false

-- Some act of the rest of a stretch, whose first event has the number i, takes an item that was
-- sent inside it. Each item has its origin beside it.
abbrev pub hands_over_sent : ℕ → ℕ → List LinkAct → List Origin → Bool
hands_over_sent capacity i [] origins = false
hands_over_sent capacity i (act ∷ acts) origins =
    takes_sent act origins
    || hands_over_sent capacity (suc i) acts (list_after capacity (Sent i) act origins)

-- a stretch renews a link that held these items at its start
abbrev pub is_renewed : ℕ → List LinkAct → List Item → Bool
is_renewed capacity acts items = hands_over_sent capacity 0 acts (map (λ item. Before) items)
