-- What is noted of deeds one after the other.
use Rattle.std.specs.Prelude.{is_none, []}
use Rattle.std.proofs.Common.{◌≡◌, ℕ, Bool, List, ◌∷◌, ◌++◌, ◌+◌, ◌∙◌, ap, refl, sym}
use Rattle.lock_desk.specs.Act.{desk_act}
use Rattle.node_core.specs.Step.{ticked}
use Rattle.node_core.specs.View.{NodeView, site_in, state_of}
use Rattle.node_core.specs.declared.ticked.Ticked.{Ticked}
use Rattle.node_service.specs.Deeds.{Deed, IsLeaveOfGone, Leads, Ticks}
use Rattle.node_service.specs.NotesView.{NotesView}
use Rattle.node_service.specs.Noting.{after_all, after_note, as_entry, Did, DidAct}
use Rattle.node_service.proofs.Became.{are-leaves, joins, one, stays}

-- deeds and then deeds
pub all-join : (ds es : List Deed) (n : NotesView) → after_all (ds ++ es) n ≡ after_all es (after_all ds n)
all-join [] es n = refl
all-join (d ∷ ds) es n = all-join ds es (after_note (as_entry d) n)

-- notes that grew by deeds and then by deeds
pub grown : (ds es : List Deed) (n m o : NotesView) → m ≡ after_all ds n → o ≡ after_all es m → o ≡ after_all (ds ++ es) n
grown ds es n m o f g = g ∙ (ap (λ x. after_all es x) f ∙ sym (all-join ds es n))

-- no deeds at all
abbrev pub did-none : (kind : Deed → Type 0) (x : NodeView) (n : NotesView) → Did kind x x n n
did-none kind x n = record { became = stays kind x; noted = refl }

-- one deed
pub did-one : (kind : Deed → Type 0) (d : Deed) (x y : NodeView) (n m : NotesView) → kind d → site_in y ≡ site_in x
    → Leads (site_in x) (d ∷ []) (state_of x) (state_of y) → m ≡ after_all (d ∷ []) n → Did kind x y n m
did-one kind d x y n m k site leads noted = record { became = one kind d x y k site leads; noted = noted }

-- deeds and then deeds
abbrev pub did-joins : (kind : Deed → Type 0) (x y z : NodeView) (n m o : NotesView) → Did kind x y n m → Did kind y z m o → Did kind x z n o
did-joins kind x y z n m o f g = record {
  became = joins kind x y z f.became g.became;
  noted = grown f.became.deeds g.became.deeds n m o f.noted g.noted;
}

-- a tick, and then some tickets left
pub did-act : (connected : ℕ → Bool) (says : Ticked) (x y z : NodeView) (n m o : NotesView) → says.act ≡ desk_act (state_of x).desk (state_of y).desk → says.full ≡ is_none (state_of y).desk.lent
    → site_in y ≡ site_in x → state_of y ≡ ticked (site_in x) (state_of x) → m ≡ after_note (as_entry Ticks) n → Did (IsLeaveOfGone connected) y z m o → DidAct (IsLeaveOfGone connected) says x z n o
did-act connected says x y z n m o act full site state ticks f = record {
  acts = record { acted = y; act = act; full = full; site = site; state = state; leaves = are-leaves connected y z f.became };
  kinds = f.became.kinds;
  noted = f.noted ∙ ap (λ w. after_all f.became.deeds w) ticks;
}
