-- Sweeps of an edge: stretches in which each direction hands over an item that was sent inside the
-- stretch.
use Rattle.std.specs.Prelude.{◌≡◌, ℕ, ◌+◌, ◌<◌, Bool, zero, suc, IsTrue, List, [], ◌∷◌, ◌++◌, map}
use Rattle.link_model.specs.topology.declared.frame.Payload.{Payload}
use Rattle.data_link.specs.Edge.{EdgeState, EdgeEvent, SendOut, SendBack, TakeOut, TakeBack, LoseOut, LoseBack, edge_step, edge_run}
pub use Rattle.link_model.specs.Acts.{LinkAct, Puts, Takes, Loses, Rests, list_after, Origin, Before, Sent, is_first_sent, takes_sent, hands_over_sent, is_renewed}
pub use Rattle.link_model.specs.HandOver.{takes_item}

-- what an event does to the way out, and to the way back
abbrev pub act_out : EdgeEvent → LinkAct
act_out SendOut = Puts
act_out (TakeOut present) = Takes
act_out (LoseOut i) = Loses i
act_out _ = Rests

abbrev pub act_back : EdgeEvent → LinkAct
act_back SendBack = Puts
act_back (TakeBack present) = Takes
act_back (LoseBack i) = Loses i
act_back _ = Rests

-- the events renew the way out, and the way back
abbrev pub is_out_renewed : ℕ → EdgeState → List EdgeEvent → Bool
is_out_renewed capacity s es = is_renewed capacity (map act_out es) s.out

abbrev pub is_back_renewed : ℕ → EdgeState → List EdgeEvent → Bool
is_back_renewed capacity s es = is_renewed capacity (map act_back es) s.back

-- a sweep renews both ways
pub record IsSweep (capacity : ℕ) (s : EdgeState) (es : List EdgeEvent) : Type 0 where
  pub out : IsTrue (is_out_renewed capacity s es)
  pub back : IsTrue (is_back_renewed capacity s es)

-- the events split into r sweeps, one after the other, and a rest
abbrev pub Sweeps : ℕ → EdgeState → ℕ → List EdgeEvent → Type 0
Sweeps capacity s zero es = Unit {0}
Sweeps capacity s (suc r) es =
    (first rest : List EdgeEvent) × (es ≡ first ++ rest) × IsSweep capacity s first
    × Sweeps capacity (edge_run capacity s first) r rest

-- ---- strict sweeps

-- how many items a list of events hands over on the way out, and on the way back
abbrev pub handed_out : ℕ → EdgeState → List EdgeEvent → ℕ
handed_out capacity s [] = 0
handed_out capacity s (e ∷ es) =
    takes_item (act_out e) s.out + handed_out capacity (edge_step capacity s e) es

abbrev pub handed_back : ℕ → EdgeState → List EdgeEvent → ℕ
handed_back capacity s [] = 0
handed_back capacity s (e ∷ es) =
    takes_item (act_back e) s.back + handed_back capacity (edge_step capacity s e) es

-- each direction hands over more items than it can hold
pub record IsStrictSweep (capacity : ℕ) (s : EdgeState) (es : List EdgeEvent) : Type 0 where
  pub out : capacity < handed_out capacity s es
  pub back : capacity < handed_back capacity s es

-- ---- payloads handed in

-- the payload that near hands in as present, if the event has one, passes a test
abbrev pub PresentPasses : (Payload → Bool) → EdgeEvent → Type 0
PresentPasses test (TakeBack present) = IsTrue (test present)
PresentPasses test _ = Unit {0}
