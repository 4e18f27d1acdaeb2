-- What clients are answered in a turn, and between two: just that, and nothing else, is said to them.
use Rattle.std.specs.Prelude.{◌≡◌, ℕ, Bool, true, List, All, Option, map}
use Rattle.slab.specs.Slab.{get}
use Rattle.node_core.specs.View.{NodeView, site_in, state_of}
use Rattle.node_core.specs.declared.ticked.Ticked.{Ticked}
use Rattle.node_connections.specs.socket_links.Counts.{Counts}
use Rattle.node_connections.specs.declared.clients.Clients.{Clients}
use Rattle.node_connections.specs.Clients.{answers_of, is_connected, IsReported}
use Rattle.node_service.specs.Deeds.{Became, IsLeaveOfGone, IsOfClient}
use Rattle.node_connections.specs.Ends.{EndsAt}
use Rattle.node_connections.specs.Lives.{Admits, AllRead}
use Rattle.node_loop.specs.Moments.{Moment}
use Rattle.node_loop.specs.Noting.{AttendIsNoted, DidListen, TurnIsNoted}
use Rattle.node_service.specs.NotesView.{NotesView}
use Rattle.node_service.specs.Pieces.{GivePieces}
use Rattle.node_service.specs.Serving.{answers_to}
use Rattle.node_service.specs.Services.{AreGone, deeds_of_all, lines_of, Service}
use Rattle.node_connections.specs.Said.{IsHeard, IsSaid, WritesOut}

module _ {P A : Type 0} (gave took : P → Option (List ℕ)) (counts : P → Counts) where
  -- Clients came, or none did. Then each was read, and served by these deeds of the node: its lines
  -- are those that the bytes from its pipe ended, and the answers to them, and nothing else, were
  -- said to it. The closing of a client has a cause: a read said that it is gone, or there was no
  -- room for an answer. Each gave at most a piece. Some may have more if one gave a whole piece,
  -- and only then.
  pub record HasAnswered {before after : NodeView} (deeds : Became IsOfClient before after)
      (old new : Clients P A) : Type 0 where
    pub came : Clients P A
    pub admits : Admits old came
    pub services : List Service
    pub deeds_are : deeds.deeds ≡ deeds_of_all services
    pub gone : AreGone (is_connected new) services
    pub heard : (t : ℕ)
        → IsHeard gave came new t (map (λ asked. asked.0) (lines_of t services (state_of before)))
    pub said : (t : ℕ)
        → IsSaid took (answers_to (site_in before) t (lines_of t services (state_of before)))
        t came new
    pub reads : AllRead gave took counts came new
    pub may_have_more : Bool
    pub pieces : GivePieces gave took counts may_have_more came new
    pub ends : (t : ℕ)
        → EndsAt gave took counts (get came.table t) (answers_of came t) (get new.table t) (answers_of new t)
        (map (λ asked. asked.0) (lines_of t services (state_of before)))
        (answers_to (site_in before) t (lines_of t services (state_of before)))

  -- The first part of a turn, in which clients were answered. If some may have more, there is more to do at once.
  pub record ListensTo (old new : Moment P) (noted notes : NotesView) (before after : Clients P A)
      (has_more : Bool) : Type 0 where
    pub did : DidListen gave took counts old new noted notes
    pub answers : HasAnswered did.listens.serves before after
    pub more : answers.may_have_more ≡ true → has_more ≡ true

  -- What is done between two turns: clients were answered, and then answers were written. The only
  -- tickets that left then are those of clients that are gone. If clients may have more, there is
  -- more to do at once.
  pub record AttendSays (now : ℕ) (old new : Moment P) (noted notes : NotesView)
      (before after : Clients P A) (has_more : Bool) : Type 0 where
    pub did : AttendIsNoted gave took counts now old new noted notes
    pub heard : Clients P A
    pub answers : HasAnswered did.attends.listens.serves before heard
    pub writes : WritesOut gave took counts heard after
    pub gone : All (IsLeaveOfGone (is_connected after)) did.attends.leaves.deeds
    pub more : answers.may_have_more ≡ true → has_more ≡ true

  -- A turn: clients were answered; then the client whose loan the tick began or ended heard of it;
  -- and then answers were written. The only tickets that left after the tick are those of clients
  -- that are gone. If clients may have more, there is more to do at once.
  pub record TurnSays (says : Ticked) (now : ℕ) (old new : Moment P) (noted notes : NotesView)
      (before after : Clients P A) (has_more : Bool) : Type 0 where
    pub did : TurnIsNoted gave took counts says now old new noted notes
    pub heard : Clients P A
    pub acted : Clients P A
    pub answers : HasAnswered did.turns.listens.serves before heard
    pub reported : IsReported says.act heard acted
    pub writes : WritesOut gave took counts acted after
    pub gone : All (IsLeaveOfGone (is_connected acted)) did.turns.acts.leaves.deeds
    pub gone_at_last : All (IsLeaveOfGone (is_connected after)) did.turns.leaves.deeds
    pub more : answers.may_have_more ≡ true → has_more ≡ true
