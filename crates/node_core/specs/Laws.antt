-- The laws of accounts.
use Rattle.std.specs.Prelude.{◌≡◌, ℕ, List, ◌++◌}
use Rattle.node_core.specs.Site.{Site}
use Rattle.node_core.specs.State.{LocalState}
use Rattle.node_core.specs.Deeds.{Deed, Leads, taken_from, sent_to}

-- two accounts, the second from where the first led, are one account,
abbrev pub AccountsJoin : Type 0
AccountsJoin =
    (site : Site) (first second : List Deed) (s mid last : LocalState)
    → Leads site first s mid → Leads site second mid last → Leads site (first ++ second) s last

-- which leads to one state alone,
abbrev pub OneEnd : Type 0
OneEnd =
    (site : Site) (ds : List Deed) (s last other : LocalState)
    → Leads site ds s last → Leads site ds s other → last ≡ other

-- and says of each neighbour what the first says and then what the second says
abbrev pub FramesJoin : Type 0
FramesJoin =
    (w : ℕ) (first second : List Deed)
    → (taken_from w (first ++ second) ≡ taken_from w first ++ taken_from w second)
    × (sent_to w (first ++ second) ≡ sent_to w first ++ sent_to w second)
