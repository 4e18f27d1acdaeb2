-- Small examples of turns that close no client, and some that look like them and do.
use Rattle.std.proofs.Common.{◌≡◌, ◌∙◌, ℕ, Bool, List, Option, None, Some, sym, subst, ap, []}
use Rattle.slab.specs.Slab.{get}
use Rattle.lock_desk.specs.declared.act.DeskAct.TheVariants.{Quiet}
use Rattle.node_core.specs.View.{NodeView, state_of}
use Rattle.node_core.specs.declared.ticked.Ticked.{Ticked}
use Rattle.node_connections.specs.socket_links.Counts.{Counts}
use Rattle.node_connections.specs.declared.clients.Client.{Client}
use Rattle.node_connections.specs.declared.clients.Clients.{Clients}
use Rattle.node_connections.specs.Clients.{answers_of, IsReported}
use Rattle.node_service.specs.Deeds.{Became, IsOfClient}
use Rattle.node_connections.specs.Ends.{EndsAt}
use Rattle.node_loop.specs.Moments.{Moment}
use Rattle.node_service.specs.NotesView.{NotesView}
use Rattle.node_loop.specs.Said.{AttendSays, HasAnswered, TurnSays}
use Rattle.node_service.specs.Services.{lines_of}
use Rattle.node_connections.proofs.RowsEnds.{ends_not-quiet, not-written, still-there}

module _ {P A : Type 0} (gave took : P → Option (List ℕ)) (counts : P → Counts) (old new : Clients P A) (a b : Client P) where
  module _ (was : get old.table 3 ≡ Some a) (is : get new.table 3 ≡ None) (waits : answers_of old 3 ≡ []) where
    module _ (sound : (p : P) → ((counts p).closed ≡ 0) × ((counts p).failed ≡ 0)) where
      -- nor when clients are answered
      not-heard : {x y : NodeView} (serves : Became IsOfClient x y) (heard : Clients P A) (f : HasAnswered gave took counts serves old heard) → lines_of 3 f.services (state_of x) ≡ [] → get heard.table 3 ≡ None → ⊥
      not-heard {x} serves heard f silent gone =
          let came = still-there gave took counts old new a b was is waits sound f.came f.admits in
          let all = f.ends 3 in
          let ends : EndsAt gave took counts (get f.came.table 3) (answers_of f.came 3) (get heard.table 3) (answers_of heard 3) [] [] = rw silent at all in
          let here : EndsAt gave took counts (Some a) [] None (answers_of heard 3) [] [] = rw (came.0, came.1, gone) at ends in
          ends_not-quiet gave took counts a b sound (answers_of heard 3) here

      -- no turn closes it without a cause, unless its loan began or ended
      turn_not-closed : (ticked : Ticked) (now : ℕ) (m w : Moment P) (n o : NotesView) (has_more : Bool) (x : TurnSays gave took counts ticked now m w n o old new has_more) → ticked.act ≡ Quiet
          → lines_of 3 x.answers.services (state_of x.did.turns.listens.heard) ≡ [] → ⊥
      turn_not-closed ticked now m w n o has_more x quiet silent =
          let same : x.acted ≡ x.heard = subst (λ act. IsReported act x.heard x.acted) quiet x.reported in
          not-written gave took counts old new a b was is waits sound x.acted x.writes (λ gone. not-heard x.did.turns.listens.serves x.heard x.answers silent (sym (ap (λ c. get c.table 3) same) ∙ gone))

      attend_not-closed : (now : ℕ) (m w : Moment P) (n o : NotesView) (has_more : Bool) (x : AttendSays gave took counts now m w n o old new has_more) → lines_of 3 x.answers.services (state_of x.did.attends.listens.heard) ≡ [] → ⊥
      attend_not-closed now m w n o has_more x silent = not-written gave took counts old new a b was is waits sound x.heard x.writes (λ gone. not-heard x.did.attends.listens.serves x.heard x.answers silent gone)
