-- What a turn becomes in a node's record.
use Rattle.std.specs.Prelude.{◌≡◌, ℕ, ◌+◌, ◌*◌, ◌%◌, Bool, true, false, ◌||◌, IsTrue, if◌then◌else◌, List, fold, length, ◌⊎◌}
use Rattle.topology.specs.Network.{Network}
use Rattle.flight_recorder.specs.flight_records.declared.entry.Noted.TheVariants as noted
use Rattle.flight_recorder.specs.flight_records.declared.entry.StatePart.{StatePart}
use Rattle.flight_recorder.specs.flight_records.declared.entry.StatePart.TheVariants.{Start, Waits, Whole}
use Rattle.flight_recorder.specs.flight_records.declared.entry.Deed.{Deed}
use Rattle.flight_recorder.specs.View.{RecorderView}
use Rattle.flight_recorder.specs.Recorder.{after_note, is_at_start}
use Rattle.node_follower.specs.node_core.Deeds.{Leads}
use Rattle.node_follower.specs.node_core.Site.{Site}
use Rattle.node_follower.specs.node_core.State.{LocalState}
use Rattle.node_follower.specs.node_core.View.{NodeView, site_in, state_of}
use Rattle.node_follower.specs.Following.{account_of, AreSame, LeadElsewhere}
use Rattle.node_follower.specs.Parts.{loan_part, own_part, port_part, state_parts}
use Rattle.node_recorder.specs.Backlog.{after_all, first_instant, has_room, is_long, nothing, with_turn}
use Rattle.node_recorder.specs.declared.recorder.NodeRecorder.{NodeRecorder}

-- the number of a network: its nodes, root, capacity and lease, mixed
abbrev pub mixed : ℕ → ℕ → ℕ
mixed mark n = (mark * 65599 + n) % 4294967296

abbrev pub network_mark : Network → ℕ
network_mark net = mixed (mixed (mixed (mixed 0 net.nodes) net.root) net.capacity) net.lease

-- deeds were noted, one after the other
abbrev pub after_deeds : ℕ → List Deed → RecorderView → RecorderView
after_deeds now ds r = fold (λ x d. after_note now (noted.Deed d) x) r ds

-- the parts of a state were noted; so were the ports to these neighbours, and these tickets that
-- wait
abbrev pub after_parts : ℕ → List StatePart → RecorderView → RecorderView
after_parts now ps r = fold (λ x p. after_note now (noted.State p) x) r ps

abbrev pub after_ports : ℕ → LocalState → List ℕ → RecorderView → RecorderView
after_ports now s ws r = fold (λ x w. after_note now (noted.State (port_part s w)) x) r ws

abbrev pub after_queue : ℕ → List ℕ → RecorderView → RecorderView
after_queue now ts r = fold (λ x t. after_note now (noted.State (Waits t)) x) r ts

-- the whole state of a node of the network with this number, part after part
abbrev pub after_state : ℕ → ℕ → Site → LocalState → RecorderView → RecorderView
after_state now network site s r =
    after_note now (noted.State Whole)
    (after_note now (noted.State (loan_part s))
    (after_queue now s.desk.waiting
    (after_ports now s site.neighbours
    (after_note now (noted.State (own_part s))
    (after_note now (noted.State (Start network site.id)) r)))))

-- the whole state of a node must be noted before its next deeds: a file begins, or the node has new
-- neighbours
abbrev pub is_to_begin : {A : Type 0} → NodeRecorder A → Bool
is_to_begin r = r.is_rewired || is_at_start r.pages

-- if so, it is noted: the state in which the second node is
abbrev pub with_beginning : {A : Type 0} → ℕ → NodeRecorder A → RecorderView
with_beginning now r =
    if is_to_begin r then after_parts now (state_parts r.network (site_in r.follower) (state_of r.follower)) r.pages
    else r.pages

-- the deeds that wait were noted, after the state before them if that must be noted
abbrev pub with_backlog : {A : Type 0} → ℕ → NodeRecorder A → RecorderView
with_backlog now r = after_all r.backlog (with_beginning (first_instant now r.backlog) r)

-- unless the recorder is lost, its second node is in the state of this node
abbrev pub Stands : {A : Type 0} → NodeRecorder A → NodeView → Type 0
Stands r node =
    r.is_lost ≡ false → AreSame (site_in r.follower).neighbours (state_of r.follower) (state_of node)

module _ {A : Type 0} (now : ℕ) (node : NodeView) (old new : NodeRecorder A) where
  -- A node's whole state is noted, and unless the recorder is lost, the second node is in that
  -- state. No deed waits any more.
  pub record TakesOver : Type 0 where
    pub pages : new.pages ≡ after_parts now (state_parts old.network (site_in node) (state_of node)) old.pages
    pub stands : Stands new node
    pub rest : new ≡ record old { pages = new.pages; follower = new.follower; is_lost = new.is_lost; backlog = nothing }

  -- The deeds that wait are noted. They lead the second node, by its own steps, to the node's
  -- state.
  pub record NotesDeeds : Type 0 where
    pub pages : new.pages ≡ with_backlog now old
    pub leads : Leads (site_in old.follower) (account_of old.backlog.deeds) (state_of old.follower)
        (state_of new.follower)
    pub stands : AreSame (site_in new.follower).neighbours (state_of new.follower) (state_of node)
    pub rest : new ≡ record old { pages = new.pages; follower = new.follower; is_rewired = false; backlog = nothing }

  -- The deeds that wait are noted, but lead elsewhere, or the node has different neighbours: after
  -- them its whole state is noted, too.
  pub record NotesBoth : Type 0 where
    pub needed : (site_in old.follower).neighbours ≡ (site_in node).neighbours
        → LeadElsewhere (site_in old.follower) old.backlog.deeds (state_of old.follower) (state_of node)
    pub pages : new.pages ≡ after_parts now (state_parts old.network (site_in node) (state_of node)) (with_backlog now old)
    pub stands : Stands new node
    pub rest : new ≡ record old { pages = new.pages; follower = new.follower; is_rewired = false; is_lost = new.is_lost; backlog = nothing }

  abbrev pub Settles : Type 0
  Settles = NotesDeeds ⊎ NotesBoth

module _ {A : Type 0} (now : ℕ) (deeds : List Deed) (has_all may_wait : Bool) (node : NodeView)
    (old new : NodeRecorder A) where
  -- The recorder has stopped, and stays as it is.
  abbrev pub Rests : Type 0
  Rests = (old.pages.is_stopped ≡ true) × (new ≡ old)

  -- The recorder was lost: the node's whole state is noted.
  pub record NotesState : Type 0 where
    pub lost : old.is_lost ≡ true
    pub state : TakesOver now node old new

  -- Some deeds are missing, or there are too many: what waits is noted, then these deeds, and then the node's
  -- whole state.
  pub record NotesAll : Type 0 where
    pub known : old.is_lost ≡ false
    pub needed : has_all ≡ true → has_room (length deeds) old.backlog ≡ false
    pub state : TakesOver now node
        (record old { pages = after_deeds now deeds (with_backlog now old); is_rewired = false }) new

  -- the recorder once these deeds wait, too
  abbrev pub waiting : NodeRecorder A
  waiting = record old { backlog = with_turn now deeds old.backlog }

  -- These deeds wait, and nothing is noted.
  pub record KeepsDeeds : Type 0 where
    pub known : old.is_lost ≡ false
    pub all : has_all ≡ true
    pub may : may_wait ≡ true
    pub few : is_long waiting.backlog ≡ false
    pub rest : new ≡ waiting

  -- These deeds and all that wait are noted, since they may not wait, or too many would.
  pub record NotesNow : Type 0 where
    pub known : old.is_lost ≡ false
    pub all : has_all ≡ true
    pub due : (may_wait ≡ false) ⊎ IsTrue (is_long waiting.backlog)
    pub settled : Settles now node waiting new

  abbrev pub Records : Type 0
  Records = Rests ⊎ (NotesState ⊎ (NotesAll ⊎ (KeepsDeeds ⊎ NotesNow)))
