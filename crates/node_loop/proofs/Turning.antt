-- The account of a turn: the parts of it, one after the other.
use Rattle.std.proofs.Common.{◌≡◌, List, ◌∷◌, ◌++◌, ap, subst, ◌∙◌}
use Rattle.node_core.specs.Site.{Site}
use Rattle.node_core.specs.State.{LocalState}
use Rattle.node_core.specs.Step.{ticked}
use Rattle.node_core.specs.View.{NodeView, site_in, state_of}
use Rattle.node_core.specs.declared.ticked.Ticked.{Ticked}
use Rattle.node_service.specs.Deeds.{Acts, Became, Deed, IsLeave, IsOfClient, IsTake, Leads, Ticks}
use Rattle.node_service.proofs.Became.{leads-join}

-- what is spoken and who leaves then
spoken-leads : (site at : Site) (sends leaves : List Deed) (s last : LocalState) → at ≡ site → Leads at sends s s → Leads at leaves s last → Leads site (sends ++ leaves) s last
spoken-leads site at sends leaves s last e f g = subst (λ x. Leads x (sends ++ leaves) s last) e (leads-join at sends leaves s s last f g)

-- a tick, and what follows it
tick-leads : (site : Site) (ds : List Deed) (s t last : LocalState) → t ≡ ticked site s → Leads site ds t last → Leads site (Ticks ∷ ds) s last
tick-leads site ds s t last e f = subst (λ x. Leads site ds x last) e f

-- what was heard, and what follows it
heard-leads : (x h y : NodeView) (rest : List Deed) (last : LocalState) (takes : Became IsTake x h) (serves : Became IsOfClient h y)
    → Leads (site_in x) rest (state_of y) last → Leads (site_in x) (takes.deeds ++ (serves.deeds ++ rest)) (state_of x) last
heard-leads x h y rest last takes serves f =
    leads-join (site_in x) takes.deeds (serves.deeds ++ rest) (state_of x) (state_of h) last takes.leads
    (leads-join (site_in x) serves.deeds rest (state_of h) (state_of y) last (subst (λ site. Leads site serves.deeds (state_of h) (state_of y)) takes.site serves.leads) f)

pub attend-leads : (x h y z : NodeView) (sends : List Deed) (takes : Became IsTake x h) (serves : Became IsOfClient h y) → Leads (site_in y) sends (state_of y) (state_of y)
    → (leaves : Became IsLeave y z) → Leads (site_in x) (takes.deeds ++ (serves.deeds ++ (sends ++ leaves.deeds))) (state_of x) (state_of z)
attend-leads x h y z sends takes serves f leaves =
    heard-leads x h y (sends ++ leaves.deeds) (state_of z) takes serves
    (spoken-leads (site_in x) (site_in y) sends leaves.deeds (state_of y) (state_of z) (serves.site ∙ takes.site) f leaves.leads)

pub turn-leads : (says : Ticked) (x h y a z : NodeView) (sends : List Deed) (takes : Became IsTake x h) (serves : Became IsOfClient h y) (acts : Acts says y a) → Leads (site_in a) sends (state_of a) (state_of a)
    → (leaves : Became IsLeave a z) → Leads (site_in x) (takes.deeds ++ (serves.deeds ++ (Ticks ∷ (acts.leaves.deeds ++ (sends ++ leaves.deeds))))) (state_of x) (state_of z)
turn-leads says x h y a z sends takes serves acts f leaves =
    let served : site_in y ≡ site_in x = serves.site ∙ takes.site in
    let ticks : site_in acts.acted ≡ site_in x = acts.site ∙ served in
    let acted : site_in a ≡ site_in x = acts.leaves.site ∙ ticks in
    heard-leads x h y (Ticks ∷ (acts.leaves.deeds ++ (sends ++ leaves.deeds))) (state_of z) takes serves
    (tick-leads (site_in x) (acts.leaves.deeds ++ (sends ++ leaves.deeds)) (state_of y) (state_of acts.acted) (state_of z) (acts.state ∙ ap (λ site. ticked site (state_of y)) served)
    (leads-join (site_in x) acts.leaves.deeds (sends ++ leaves.deeds) (state_of acts.acted) (state_of a) (state_of z)
    (subst (λ site. Leads site acts.leaves.deeds (state_of acts.acted) (state_of a)) ticks acts.leaves.leads)
    (spoken-leads (site_in x) (site_in a) sends leaves.deeds (state_of a) (state_of z) acted f leaves.leads)))
