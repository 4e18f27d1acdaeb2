-- Deeds one after the other.
use Rattle.std.proofs.Common.{arith, ◌≡◌, ℕ, Bool, List, ◌∷◌, ◌++◌, ◌∙◌, All, refl, subst, []}
use Rattle.std.proofs.lemmas.Grind.{common_steps}
use Rattle.std.proofs.lemmas.List.Elements.{All-append, All-cons, All-head, All-nil, All-tail}
use Rattle.node_core.specs.Site.{Site}
use Rattle.node_core.specs.State.{LocalState}
use Rattle.node_core.specs.View.{NodeView, site_in, state_of}
use Rattle.node_core.specs.declared.ticked.Ticked.{Ticked}
use Rattle.node_service.specs.Deeds.{Deed, Acts, Became, IsLeave, IsLeaveOfGone, IsOfClient, Leads, Takes, Asks, Leaves, Ticks, Sends, taken_from, sent_to}

-- the second list goes on where the first ended
pub leads-join : (site : Site) (ds es : List Deed) (s t u : LocalState) → Leads site ds s t → Leads site es t u → Leads site (ds ++ es) s u
leads-join site [] es s t u f g = subst (λ x. Leads site es x u) f g
leads-join site (Takes w x ∷ ds) es s t u f g = (f.0, leads-join site ds es _ t u f.1 g)
leads-join site (Asks x ∷ ds) es s t u f g = (f.0, leads-join site ds es _ t u f.1 g)
leads-join site (Leaves x ∷ ds) es s t u f g = leads-join site ds es _ t u f g
leads-join site (Ticks ∷ ds) es s t u f g = leads-join site ds es _ t u f g
leads-join site (Sends w x ∷ ds) es s t u f g = (f.0, f.1, leads-join site ds es s t u f.2 g)

-- what is taken from a neighbour, and sent to it, by two lists
pub taken-join : (w : ℕ) (ds es : List Deed) → taken_from w (ds ++ es) ≡ taken_from w ds ++ taken_from w es
taken-join w [] es = refl
taken-join w (Takes v x ∷ ds) es = grind (arith, common_steps, taken-join w ds es)
taken-join w (Asks x ∷ ds) es = taken-join w ds es
taken-join w (Leaves x ∷ ds) es = taken-join w ds es
taken-join w (Ticks ∷ ds) es = taken-join w ds es
taken-join w (Sends v x ∷ ds) es = taken-join w ds es

pub sent-join : (w : ℕ) (ds es : List Deed) → sent_to w (ds ++ es) ≡ sent_to w ds ++ sent_to w es
sent-join w [] es = refl
sent-join w (Takes v x ∷ ds) es = sent-join w ds es
sent-join w (Asks x ∷ ds) es = sent-join w ds es
sent-join w (Leaves x ∷ ds) es = sent-join w ds es
sent-join w (Ticks ∷ ds) es = sent-join w ds es
sent-join w (Sends v x ∷ ds) es = grind (arith, common_steps, sent-join w ds es)

-- a node stays by no deeds at all
abbrev pub stays : (kind : Deed → Type 0) (x : NodeView) → Became kind x x
stays kind x = record { site = refl; deeds = []; kinds = All-nil kind; leads = refl }

-- one deed
abbrev pub one : (kind : Deed → Type 0) (d : Deed) (x y : NodeView) → kind d → site_in y ≡ site_in x
    → Leads (site_in x) (d ∷ []) (state_of x) (state_of y) → Became kind x y
one kind d x y k site leads = record {
  site = site;
  deeds = d ∷ [];
  kinds = All-cons kind d [] k (All-nil kind);
  leads = leads;
}

-- the same state at the same site
abbrev pub same : (kind : Deed → Type 0) (x y : NodeView) → site_in y ≡ site_in x → state_of y ≡ state_of x → Became kind x y
same kind x y site state = record { site = site; deeds = []; kinds = All-nil kind; leads = state }

-- deeds and then deeds
abbrev pub joins : (kind : Deed → Type 0) (x y z : NodeView) → Became kind x y → Became kind y z → Became kind x z
joins kind x y z f g = record {
  site = g.site ∙ f.site;
  deeds = f.deeds ++ g.deeds;
  kinds = All-append kind f.deeds g.deeds f.kinds g.kinds;
  leads = leads-join (site_in x) f.deeds g.deeds (state_of x) (state_of y) (state_of z) f.leads
      (subst (λ site. Leads site g.deeds (state_of y) (state_of z)) f.site g.leads);
}

-- a leave is a client's deed
leave-kind : (d : Deed) → IsLeave d → IsOfClient d
leave-kind (Takes w f) k = k
leave-kind (Asks t) k = tt
leave-kind (Leaves t) k = k
leave-kind Ticks k = k
leave-kind (Sends w f) k = k

pub leave-kinds : (ds : List Deed) → All IsLeave ds → All IsOfClient ds
leave-kinds [] k = All-nil IsOfClient
leave-kinds (d ∷ ds) k = grind (arith, leave-kinds ds, leave-kind d)

abbrev pub leaves-are-clients : (x y : NodeView) → Became IsLeave x y → Became IsOfClient x y
leaves-are-clients x y f = record { site = f.site; deeds = f.deeds; kinds = leave-kinds f.deeds f.kinds; leads = f.leads }

module _ (connected : ℕ → Bool) where
  gone-leave : (d : Deed) → IsLeaveOfGone connected d → IsLeave d
  gone-leave (Takes w f) k = k
  gone-leave (Asks t) k = k
  gone-leave (Leaves t) k = tt
  gone-leave Ticks k = k
  gone-leave (Sends w f) k = k

  pub gone-leaves : (ds : List Deed) → All (IsLeaveOfGone connected) ds → All IsLeave ds
  gone-leaves [] k = All-nil IsLeave
  gone-leaves (d ∷ ds) k =
      All-cons IsLeave d ds (gone-leave d (All-head (IsLeaveOfGone connected) d ds k)) (gone-leaves ds (All-tail (IsLeaveOfGone connected) d ds k))

  -- they are leaves
  abbrev pub are-leaves : (x y : NodeView) → Became (IsLeaveOfGone connected) x y → Became IsLeave x y
  are-leaves x y f = record { site = f.site; deeds = f.deeds; kinds = gone-leaves f.deeds f.kinds; leads = f.leads }

-- after a tick some more tickets left
pub act-more : (says : Ticked) (x y z : NodeView) → Acts says x y → Became IsLeave y z → Acts says x z
act-more says x y z a f = record { acted = a.acted; act = a.act; full = a.full; site = a.site; state = a.state; leaves = joins IsLeave a.acted y z a.leaves f }
