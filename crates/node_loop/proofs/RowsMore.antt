-- Small examples of turns after which clients may have more, though the next turn would wait: they are none.
use Rattle.std.proofs.Common.{◌≡◌, ◌∙◌, ℕ, true, false, List, Option, Some, refl, subst, inl, inr, []}
use Rattle.std.proofs.lemmas.Bool.{cases_Bool, false≢true}
use Rattle.slab.specs.Slab.{get}
use Rattle.node_core.specs.View.{NodeView}
use Rattle.node_core.specs.declared.ticked.Ticked.{Ticked}
use Rattle.node_connections.specs.socket_links.Counts.{Counts}
use Rattle.node_connections.specs.declared.clients.Client.{Client}
use Rattle.node_connections.specs.declared.clients.Clients.{Clients}
use Rattle.node_service.specs.Deeds.{Became, IsOfClient}
use Rattle.node_service.specs.NotesView.{NotesView}
use Rattle.node_service.specs.Pieces.{GivePieces}
use Rattle.node_service.proofs.RowsPieces.{pieces_not-whole, whole}
use Rattle.node_loop.specs.Moments.{Moment}
use Rattle.node_loop.specs.Said.{AttendSays, HasAnswered, ListensTo, TurnSays}

module _ {P A : Type 0} (gave took : P → Option (List ℕ)) (counts : P → Counts) (old new : Clients P A) (a b : Client P) where
  -- a client that gives a whole piece
  module _ (was : get old.table 3 ≡ Some a) (before : gave a.pipe ≡ Some []) (after : gave b.pipe ≡ Some whole) where
    must-go_on : {x y : NodeView} (serves : Became IsOfClient x y) (heard : Clients P A) (f : HasAnswered gave took counts serves old heard) → get heard.table 3 ≡ Some b → (f.may_have_more ≡ true → false ≡ true) → ⊥
    must-go_on serves heard f is more =
        let came : get f.came.table 3 ≡ Some a = ((f.admits 3).0 (rw was refl)).0 ∙ was in
        elim (cases_Bool f.may_have_more) [
          | inl some ↦ false≢true (more some)
          | inr none ↦ pieces_not-whole gave took counts f.came heard a b came is before after (subst (λ m. GivePieces gave took counts m f.came heard) none f.pieces)
        ]

    listens_not-last : (m w : Moment P) (n o : NotesView) → get new.table 3 ≡ Some b → ¬ ListensTo gave took counts m w n o old new false
    listens_not-last m w n o is x = must-go_on x.did.listens.serves new x.answers is x.more

    turn_not-last : (ticked : Ticked) (now : ℕ) (m w : Moment P) (n o : NotesView) (x : TurnSays gave took counts ticked now m w n o old new false) → get x.heard.table 3 ≡ Some b → ⊥
    turn_not-last ticked now m w n o x is = must-go_on x.did.turns.listens.serves x.heard x.answers is x.more

    attend_not-last : (now : ℕ) (m w : Moment P) (n o : NotesView) (x : AttendSays gave took counts now m w n o old new false) → get x.heard.table 3 ≡ Some b → ⊥
    attend_not-last now m w n o x is = must-go_on x.did.attends.listens.serves x.heard x.answers is x.more
