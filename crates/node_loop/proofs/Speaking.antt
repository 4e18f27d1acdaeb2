-- Speaking to the neighbours, one after the other.
use Rattle.std.proofs.Common.{◌≡◌, ◌≢◌, ◌<◌, ◌≤◌, ◌+◌, ℕ, Bool, true, false, List, ◌++◌, All, Option, Contains, slice_get, slice_index_or, refl, inl, inr, sym, ap, arith, ◌∙◌, subst, append-nil, []}
use Rattle.std.proofs.lemmas.Grind.{common_steps}
use Rattle.std.proofs.lemmas.List.Elements.{All-append, All-cons, All-nil}
use Rattle.std.proofs.lemmas.Bool.{cases_lt}
use Rattle.topology.specs.declared.frame.Frame.{Frame}
use Rattle.node_core.specs.data_link.Port.{frame_of}
use Rattle.node_core.specs.View.{site_in, state_of}
use Rattle.pace.specs.Plans.{port_of}
use Rattle.node_connections.specs.socket_links.Counts.{Counts}
use Rattle.node_core.specs.Site.{Site}
use Rattle.node_core.specs.State.{LocalState}
use Rattle.node_service.specs.Deeds.{Deed, IsSend, Leads, Sends, sent_to}
use Rattle.node_connections.specs.Ports.{AtBoth}
use Rattle.node_loop.specs.Moments.{Moment}
use Rattle.node_service.specs.Noting.{sends_if}
use Rattle.node_loop.specs.Speaking.{Speaks, SpeaksTo, sent_if}
use Rattle.node_service.proofs.Became.{leads-join, sent-join}
use Rattle.node_connections.proofs.Places.{apart, below-or-last, none-below, past}

-- a port and what is kept of it stay
abbrev pub StaysAt : {P : Type 0} → Moment P → Moment P → ℕ → Type 0
StaysAt old new w =
    (slice_get new.ports w ≡ slice_get old.ports w) × (port_of new.pace.ports w ≡ port_of old.pace.ports w)

-- what is said to a neighbour; of that, these frames were accepted
abbrev pub SpeaksAt : {P : Type 0} → (P → Option (List ℕ)) → (P → Option (List ℕ)) → (P → Counts) → List Bool → ℕ → Moment P → Moment P → List Frame → ℕ → Type 0
SpeaksAt gave took counts offers now old new sent w =
    AtBoth (SpeaksTo gave took counts (frame_of ((state_of old.node).port w)) (slice_index_or offers w false) now (port_of old.pace.ports w) (port_of new.pace.ports w) sent)
    (slice_get old.ports w) (slice_get new.ports w)

pub sends-kinds : (is_taken : Bool) (w : ℕ) (frame : Frame) → All IsSend (sends_if is_taken w frame)
sends-kinds true w frame = All-cons IsSend (Sends w frame) [] tt (All-nil IsSend)
sends-kinds false w frame = All-nil IsSend

pub sends-lead : (is_taken : Bool) (site : Site) (s : LocalState) (w : ℕ) → (is_taken ≡ true → Contains site.neighbours w) → Leads site (sends_if is_taken w (frame_of (s.port w))) s s
sends-lead true site s w has = (has refl, refl, refl)
sends-lead false site s w has = refl

pub sent-same : (is_taken : Bool) (w : ℕ) (frame : Frame) → sent_to w (sends_if is_taken w frame) ≡ sent_if is_taken frame
sent-same true w frame = grind (arith, common_steps)
sent-same false w frame = refl

pub sent-other : (is_taken : Bool) (i w : ℕ) (frame : Frame) → w ≢ i → sent_to w (sends_if is_taken i frame) ≡ []
sent-other true i w frame n = grind (arith, common_steps)
sent-other false i w frame n = refl

-- the node spoke to each neighbour below i; all else is as before
pub record SpokenTo {P : Type 0} (gave took : P → Option (List ℕ)) (counts : P → Counts) (offers : List Bool) (now : ℕ)
    (old new : Moment P) (i : ℕ) : Type 0 where
  pub node : new.node ≡ old.node
  pub let_go : new.let_go ≡ old.let_go
  pub sends : List Deed
  pub kinds : All IsSend sends
  pub leads : Leads (site_in old.node) sends (state_of old.node) (state_of old.node)
  pub unsent : (w : ℕ) → i ≤ w → sent_to w sends ≡ []
  pub below : (w : ℕ) → w < i → Contains (site_in old.node).neighbours w → SpeaksAt gave took counts offers now old new (sent_to w sends) w
  pub others : (w : ℕ) → w < i → ¬ Contains (site_in old.node).neighbours w → StaysAt old new w
  pub above : (w : ℕ) → i ≤ w → StaysAt old new w
  pub rest : (new.pace.node ≡ old.pace.node) × (new.pace.manner ≡ old.pace.manner)

module _ {P : Type 0} (gave took : P → Option (List ℕ)) (counts : P → Counts) (offers : List Bool) (now : ℕ) where
  abbrev pub spoken-start : (m : Moment P) → SpokenTo gave took counts offers now m m 0
  spoken-start m = record {
    node = refl;
    let_go = refl;
    sends = [];
    kinds = All-nil IsSend;
    leads = refl;
    unsent = λ w from. refl;
    below = λ w below. elim (none-below w below) [ ];
    others = λ w below. elim (none-below w below) [ ];
    above = λ w from. (refl, refl);
    rest = (refl, refl);
  }

  -- the same is said if the port and what is kept of it stand as before the call, and as after it
  pub reported-moves : (old mid new : Moment P) (sent : List Frame) (w : ℕ) → StaysAt mid new w → SpeaksAt gave took counts offers now old mid sent w → SpeaksAt gave took counts offers now old new sent w
  reported-moves old mid new sent w stays reported = rw (stays.0, stays.1) reported

  pub reported-from : (old mid new : Moment P) (sent : List Frame) (w : ℕ) → mid.node ≡ old.node → StaysAt old mid w → SpeaksAt gave took counts offers now mid new sent w
      → SpeaksAt gave took counts offers now old new sent w
  reported-from old mid new sent w node stays reported = rw (node, stays.0, stays.1) at reported

  abbrev pub spoken-next : (old mid new : Moment P) (i : ℕ) (is_taken : Bool) → SpokenTo gave took counts offers now old mid i → new.node ≡ mid.node → new.let_go ≡ mid.let_go
      → (Contains (site_in mid.node).neighbours i → SpeaksAt gave took counts offers now mid new (sent_if is_taken (frame_of ((state_of mid.node).port i))) i)
      → ((¬ Contains (site_in mid.node).neighbours i) → StaysAt mid new i) → (is_taken ≡ true → Contains (site_in mid.node).neighbours i)
      → ((w : ℕ) → w ≢ i → StaysAt mid new w) → (new.pace.node ≡ mid.pace.node) × (new.pace.manner ≡ mid.pace.manner)
      → SpokenTo gave took counts offers now old new (i + 1)
  spoken-next old mid new i is_taken so node let_go reports silent taken others pace =
      let frame = frame_of ((state_of old.node).port i) in
      let last = sends_if is_taken i frame in
      let sent : (w : ℕ) → sent_to w (so.sends ++ last) ≡ sent_to w so.sends ++ sent_to w last = λ w. sent-join w so.sends last in
      record {
        node = node ∙ so.node;
        let_go = let_go ∙ so.let_go;
        sends = so.sends ++ last;
        kinds = All-append IsSend so.sends last so.kinds (sends-kinds is_taken i frame);
        leads = leads-join (site_in old.node) so.sends last (state_of old.node) (state_of old.node) (state_of old.node) so.leads
            (sends-lead is_taken (site_in old.node) (state_of old.node) i (λ e. subst (λ x. Contains (site_in x).neighbours i) so.node (taken e)));
        unsent = λ w from. sent w ∙ (ap (λ zs. zs ++ sent_to w last) (so.unsent w (omega arith)) ∙ sent-other is_taken i w frame (λ same. elim (past w i from same) [ ]));
        below = λ w below has.
            elim (below-or-last w i below) [
              | inl less ↦ (let other : w ≢ i = λ same. elim (apart w i less same) [ ] in
                  rw (sent w, sent-other is_taken i w frame other, append-nil (sent_to w so.sends)) (reported-moves old mid new (sent_to w so.sends) w (others w other) (so.below w less has)))
              | inr same ↦ (let there : SpeaksAt gave took counts offers now mid new (sent_if is_taken (frame_of ((state_of mid.node).port i))) i =
                  reports (subst (λ x. Contains (site_in x).neighbours i) (sym so.node) (subst (λ x. Contains (site_in old.node).neighbours x) same has)) in
                  let all : sent_to i (so.sends ++ last) ≡ sent_if is_taken frame = sent i ∙ (ap (λ zs. zs ++ sent_to i last) (so.unsent i (omega arith)) ∙ sent-same is_taken i frame) in
                  rw (same, all) (reported-from old mid new (sent_if is_taken frame) i so.node (so.above i (omega arith))
                  (subst (λ x. SpeaksAt gave took counts offers now mid new (sent_if is_taken (frame_of ((state_of x).port i))) i) so.node there)))
            ];
        others = λ w below not.
            elim (below-or-last w i below) [
              | inl less ↦ (let stays : StaysAt mid new w = others w (λ same. elim (apart w i less same) [ ]) in
                  (stays.0 ∙ (so.others w less not).0, stays.1 ∙ (so.others w less not).1))
              | inr same ↦ (let stays : StaysAt mid new w =
                  rw same (silent (λ has. not (subst (λ x. Contains (site_in old.node).neighbours x) (sym same) (subst (λ x. Contains (site_in x).neighbours i) so.node has)))) in
                  let before : StaysAt old mid w = so.above w (omega arith) in (stays.0 ∙ before.0, stays.1 ∙ before.1))
            ];
        above = λ w from.
            let stays : StaysAt mid new w = others w (λ same. elim (past w i from same) [ ]) in
            let before : StaysAt old mid w = so.above w (omega arith) in (stays.0 ∙ before.0, stays.1 ∙ before.1);
        rest = (pace.0 ∙ so.rest.0, pace.1 ∙ so.rest.1);
      }

  -- it spoke to all
  abbrev pub spoken-end : (old mid new : Moment P) (i : ℕ) → (site_in old.node).ranges.nodes ≤ i → SpokenTo gave took counts offers now old mid i
      → new.ports ≡ mid.ports → new.pace ≡ mid.pace → Speaks gave took counts offers now old new
  spoken-end old mid new i all so ports pace = record {
    sends = so.sends;
    kinds = so.kinds;
    leads = so.leads;
    neighbours = λ w node has. rw (ports, pace) (so.below w (omega arith) has);
    others = λ w not.
        rw (ports, pace) elim (cases_lt w i) [
          | inl less ↦ so.others w less not
          | inr from ↦ so.above w from
        ];
    rest = rw pace so.rest;
  }
