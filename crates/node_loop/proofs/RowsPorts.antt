-- Small examples of what a node says and hears at its ports, and some that look like them and are none.
use Rattle.std.proofs.Common.{◌≡◌, ℕ, Bool, true, false, List, ◌∷◌, Option, None, Some, Contains, slice_get, refl, subst, arith, []}
use Rattle.std.proofs.lemmas.Grind.{common_steps}
use Rattle.std.proofs.lemmas.List.Elements.{All-nil}
use Rattle.topology.specs.declared.frame.Frame.{Frame}
use Rattle.topology.specs.declared.frame.Ranges.{Ranges}
use Rattle.lock_desk.specs.Desk.{DeskState, no_desk}
use Rattle.lock_desk.specs.declared.act.DeskAct.TheVariants.{Granted, Lost}
use Rattle.node_core.specs.View.{NodeView, site_in}
use Rattle.pace.specs.declared.port.PortPace.{PortPace}
use Rattle.node_connections.specs.socket_links.Counts.{Counts}
use Rattle.node_connections.specs.socket_links.Links.{unsent}
use Rattle.node_connections.specs.declared.port.NodePort.{NodePort}
use Rattle.node_service.specs.Answers.{grants}
use Rattle.node_service.specs.Deeds.{IsSend, IsTake, Sends, Ticks, taken_from}
use Rattle.node_connections.specs.Hearing.{Comes, Pulls, Wires}
use Rattle.node_loop.specs.Hearing.{Hears, Listens, TakesAt}
use Rattle.node_loop.specs.Moments.{Moment}
use Rattle.node_loop.specs.Speaking.{sight_at, Speaks, SpeaksTo}
use Rattle.node_connections.proofs.Hearing.{both-same, pulls-same}
use Rattle.node_connections.proofs.RowsPorts.{both-lost, comes-nothing, silent}

abbrev pub small : Ranges
small = record { nodes = 2; counter = 5; ring = 7 }

-- the root of two nodes as it starts, with this lease and desk
abbrev pub root_with : ℕ → DeskState → NodeView
root_with lease desk = record {
  id = 0;
  is_root = true;
  distance = 2;
  parent = None;
  registers = record { ranges = small; neighbours = 1 ∷ []; ports = []; values = [] };
  desk = record { lease = lease; state = desk };
}

abbrev root : NodeView
root = root_with 0 no_desk

abbrev pub some_frame : Frame
some_frame = record { seq = 0; ack = 0; payload = record { distance = 2; parent = None; ring = 0 } }

-- a grant is a loan that begins
grants-begun : grants (Granted 3) ≡ true
grants-begun = refl

grants_not-lost : grants (Lost 3) ≡ false
grants_not-lost = refl

sends-frame : IsSend (Sends 1 some_frame)
sends-frame = tt

sends_not-tick : ¬ IsSend Ticks
sends_not-tick s = s

module _ {P : Type 0} (gave took : P → Option (List ℕ)) (counts : P → Counts) (old new : NodePort P) where
  -- ---- what a port says

  module _ (loose : old.link.pipe ≡ None) where
    -- of a frame that was not offered nothing is sent, and the pace notes nothing
    silent-to : (was : PortPace) (now : ℕ) → unsent old.link ≡ [] → old.is_stuck ≡ false → SpeaksTo gave took counts some_frame false now was was [] old old
    silent-to was now written free = record { is_taken = false; port = silent gave took counts old new loose _ written free; reported = refl; sends = refl }

    -- so the node takes nothing of it
    hears_not-loose : (x y : NodeView) (p q : NodePort P) (f : Frame) (h : Hears gave took counts x y (p ∷ old ∷ []) (q ∷ new ∷ [])) → taken_from 1 h.takes.deeds ≡ f ∷ [] → ⊥
    hears_not-loose x y p q f h taken =
        let at : Pulls (site_in x).ranges gave took counts (taken_from 1 h.takes.deeds) old new = h.pulls 1 in
        let e : ◌≡◌ {A = List Frame} (f ∷ []) [] = subst (λ fs. fs ≡ []) taken (at.comes.come.loose loose) in absurd cc

    takes_not-loose : (r : Ranges) (x y : NodeView) (p q : NodePort P) (f : Frame) (t : TakesAt (Comes r gave took) 1 x y (p ∷ old ∷ []) (q ∷ new ∷ [])) → taken_from 1 t.takes.deeds ≡ f ∷ [] → ⊥
    takes_not-loose r x y p q f t taken =
        let at : Comes r gave took (taken_from 1 t.takes.deeds) old new = t.at_port in
        let e : ◌≡◌ {A = List Frame} (f ∷ []) [] = subst (λ fs. fs ≡ []) taken (at.come.loose loose) in absurd cc

  speaks_not-sent : (was is : PortPace) (now : ℕ) → ¬ SpeaksTo gave took counts some_frame false now was is (some_frame ∷ []) old new
  speaks_not-sent was is now s =
      let untaken : s.is_taken ≡ false = s.port.offers.1 in
      let e : ◌≡◌ {A = List Frame} (some_frame ∷ []) [] = rw untaken at s.sends in absurd cc

  -- ---- what a port hears

  hears-none : (x : NodeView) → Hears gave took counts x x (old ∷ []) (old ∷ [])
  hears-none x = record {
    takes = record { site = refl; deeds = []; kinds = All-nil IsTake; leads = refl };
    pulls = λ w. both-same (Pulls (site_in x).ranges gave took counts []) (pulls-same (site_in x).ranges gave took counts) (slice_get (old ∷ []) w);
  }

  -- ---- all ports

  takes-none : (r : Ranges) → TakesAt (Comes r gave took) 0 root root (old ∷ []) (old ∷ [])
  takes-none r = record {
    takes = record { site = refl; deeds = []; kinds = All-nil IsTake; leads = refl };
    at_port = comes-nothing gave took counts old new r;
    others = λ w n. (refl, refl);
  }

  hears_not-gone : (x y : NodeView) → ¬ Hears gave took counts x y (old ∷ []) []
  hears_not-gone x y h = h.pulls 0

  sight-loose : (sight_at {P = P} root [] 1).takes_frames ≡ false
  sight-loose = refl

  module _ (here there : Moment P) where
    -- the port of a node that is no neighbour does not change
    speaks_not-other : (offers : List Bool) (now : ℕ) → here.node ≡ root → here.ports ≡ old ∷ [] → there.ports ≡ [] → ¬ Speaks gave took counts offers now here there
    speaks_not-other offers now node before after s =
        let stays = (s.others 0 (λ has. none (subst (λ x. Contains (site_in x).neighbours 0) node has))).0 in
        let e : ◌≡◌ {A = Option (NodePort P)} None (Some old) = rw (before, after) at stays in absurd cc where
          none : Contains {X = ℕ} (1 ∷ []) 0 → ⊥
          none has = grind (arith, common_steps, has)

    -- no port is gone once a node has listened
    listens_not-gone : here.ports ≡ old ∷ [] → there.ports ≡ [] → ¬ Listens gave took counts here there
    listens_not-gone before after l = both-lost gave took counts old new Wires (Pulls (site_in here.node).ranges gave took counts (taken_from 0 l.hears.takes.deeds)) (slice_get l.wired 0)
        (rw before at (l.wires 0)) (rw after at (l.hears.pulls 0))
