-- What clients are answered in a turn, and between two: just that, and nothing else, is said to them.
use Rattle.std.specs.Prelude.{◌≡◌, ℕ, List, ◌∷◌, ◌++◌, Option, map, []}
use Rattle.lock_desk.specs.declared.client_line.ClientLine.{ClientLine}
use Rattle.node_core.specs.Site.{Site}
use Rattle.node_core.specs.State.{LocalState}
use Rattle.node_core.specs.View.{NodeView, site_in, state_of}
use Rattle.node_connections.specs.declared.clients.Clients.{Clients}
use Rattle.node_service.specs.Answers.{answer_text}
use Rattle.node_connections.specs.Clients.{is_connected}
use Rattle.node_service.specs.Deeds.{IsOfClient}
use Rattle.node_service.specs.Noting.{Did}
use Rattle.node_service.specs.NotesView.{NotesView}
use Rattle.node_service.specs.Services.{AreGone, deeds_of_all, lines_of, Service}
use Rattle.node_connections.specs.Said.{IsSaid}

-- the answers to these lines of the client with ticket t, one after the other; each line comes with
-- the state in which the node was
abbrev pub answers_to : Site → ℕ → List (ClientLine × LocalState) → List ℕ
answers_to site t [] = []
answers_to site t (asked ∷ rest) = answer_text site t asked.0 asked.1 ++ answers_to site t rest

module _ {P A : Type 0} (took : P → Option (List ℕ)) where
  -- A node became what it is by some services. Just their deeds were noted, and the only tickets
  -- that left are those of clients that are gone. Each client had such lines and answers; those
  -- answers, and nothing else, were said to it.
  pub record Serves (served : ℕ → List ClientLine → List ℕ → Type 0) (before after : NodeView)
      (noted notes : NotesView) (old new : Clients P A) : Type 0 where
    pub services : List Service
    pub did : Did IsOfClient before after noted notes
    pub deeds_are : did.became.deeds ≡ deeds_of_all services
    pub gone : AreGone (is_connected new) services
    pub lines_are : (t : ℕ)
        → served t (map (λ asked. asked.0) (lines_of t services (state_of before)))
        (answers_to (site_in before) t (lines_of t services (state_of before)))
    pub said : (t : ℕ)
        → IsSaid took (answers_to (site_in before) t (lines_of t services (state_of before)))
        t old new
