-- Deeds that are done one after the other are one account, which ends at the first that is not done.
use Rattle.std.proofs.Common.{◌≡◌, sym, subst, refl, List, [], ◌∷◌, ◌++◌}
use Rattle.std.proofs.lemmas.Grind.{flat_map-append}
use Rattle.flight_records.specs.declared.entry.Deed.{Deed}
use Rattle.node_core.specs.Deeds as account
use Rattle.node_core.specs.Laws.{AccountsJoin, OneEnd}
use Rattle.link_model.specs.declared.item.Item.TheVariants as item
use Rattle.lock_desk.specs.Desk.{after_leave}
use Rattle.node_core.specs.Site.{Site}
use Rattle.node_core.specs.Step.{taken, ticked}
use Rattle.node_core.specs.State.{LocalState}
use Rattle.node_follower.specs.Following.{account_of, account_of_one}

pub followed : AccountsJoin → (site here : Site) (ds : List Deed) (d : Deed) (s m l : LocalState)
    → account.Leads site (account_of ds) s m → here ≡ site → account.Leads here (account_of (d ∷ [])) m l
    → account.Leads site (account_of (ds ++ d ∷ [])) s l
followed join site here ds d s m l before same step =
    subst (λ (a : List account.Deed). account.Leads site a s l) (sym (flat_map-append account_of_one ds (d ∷ [])))
    (join site (account_of ds) (account_of (d ∷ [])) s m l before
    (subst (λ (x : Site). account.Leads x (account_of (d ∷ [])) m l) same step))

-- an account comes in two parts
parted : (site : Site) (first second : List account.Deed) (s last : LocalState)
    → account.Leads site (first ++ second) s last
    → (mid : LocalState) × account.Leads site first s mid × account.Leads site second mid last
parted site [] second s last h = (s, refl, h)
parted site (account.Takes w f ∷ ds) second s last h =
    let r = parted site ds second (taken site w (item.Frame f) s) last h.1 in
    (r.0, (h.0, r.1), r.2)
parted site (account.Asks t ∷ ds) second s last h =
    let r = parted site ds second (record s { desk = account.after_ask t s.desk }) last h.1 in
    (r.0, (h.0, r.1), r.2)
parted site (account.Leaves t ∷ ds) second s last h =
    parted site ds second (record s { desk = after_leave t s.desk }) last h
parted site (account.Ticks ∷ ds) second s last h = parted site ds second (ticked site s) last h
parted site (account.Sends w f ∷ ds) second s last h =
    let r = parted site ds second s last h.2 in
    (r.0, (h.0, h.1, r.1), r.2)

-- deeds of which one is not done lead nowhere
pub stuck : OneEnd → (site here : Site) (ds rest : List Deed) (d : Deed) (s m last : LocalState)
    → account.Leads site (account_of ds) s m → here ≡ site
    → ((l : LocalState) → ¬ account.Leads here (account_of (d ∷ [])) m l)
    → ¬ account.Leads site (account_of (ds ++ d ∷ rest)) s last
stuck one site here ds rest d s m last before same stops h =
    let whole = subst (λ (a : List account.Deed). account.Leads site a s last) (flat_map-append account_of_one ds (d ∷ rest)) h in
    let p = parted site (account_of ds) (account_of (d ∷ rest)) s last whole in
    let is : p.0 ≡ m = one site (account_of ds) s p.0 m p.1 before in
    let later = subst (λ (a : List account.Deed). account.Leads site a m last) (flat_map-append account_of_one (d ∷ []) rest)
    (subst (λ (x : LocalState). account.Leads site (account_of (d ∷ rest)) x last) is p.2) in
    let q = parted site (account_of (d ∷ [])) (account_of rest) m last later in
    stops q.0 (subst (λ (x : Site). account.Leads x (account_of (d ∷ [])) m q.0) (sym same) q.1)
