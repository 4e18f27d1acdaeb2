-- After its harms, a node is as it was noted.
use Rattle.std.proofs.Common.{◌≡◌, ◌≢◌, ◌∙◌, ℕ, ◌<◌, Bool, true, false, ◌&&◌, ◌==◌, nat_lt, nat_le, List, [], ◌∷◌, refl, ap, sym, subst, arith, IsTrue, Option, None, Some}
use Rattle.std.proofs.lemmas.Bool.{cond_both}
use Rattle.std.proofs.lemmas.Grind.{common_steps}
use Rattle.topology.specs.At.{at}
use Rattle.topology.specs.Network.{Network, are_joined}
use Rattle.topology.specs.Ranges.{ranges_of, parent_fits, payload_fits, frame_fits}
use Rattle.topology.specs.declared.frame.Frame.{Frame}
use Rattle.topology.specs.declared.frame.Payload.{Payload}
use Rattle.flight_records.specs.Again.{same_node, same_payload}
use Rattle.flight_records.specs.declared.entry.StatePart.{StatePart}
use Rattle.flight_records.specs.declared.entry.StatePart.TheVariants as part
use Rattle.configuration.specs.node_core.State.{LocalState}
use Rattle.configuration.specs.data_link.Port.{PortState, port_fits, counters_fit}
use Rattle.configuration.specs.run_model.World.{World, with_node}
use Rattle.configuration.specs.run_model.Step.{step, with_port}
use Rattle.configuration.specs.run_model.Run.{run}
use Rattle.configuration.specs.run_model.declared.event.Event.TheVariants.{Damage}
use Rattle.configuration.specs.run_model.declared.event.Harm.{Harm}
use Rattle.configuration.specs.run_model.declared.event.Harm.TheVariants as harm
use Rattle.record_gathering.specs.Differences.{unless, harms_in, own_harm, port_harms, frame_harms}
use Rattle.record_gathering.specs.Laws.{IsReached}
use Rattle.record_gathering.specs.Standing.{StandsAs, IsSameBeside}
use Rattle.record_gathering.proofs.Same.{node-same, payload-same}
use Rattle.record_gathering.proofs.Steps.{own-step, counters-step, staged-step, copy-step, value-step}

pub at-here : {X : Type 0} (f : ℕ → X) (k : ℕ) (x : X) → at f k x k ≡ x
at-here f k x = grind (arith, common_steps)

pub at-other : {X : Type 0} (f : ℕ → X) (k : ℕ) (x : X) (i : ℕ) → i ≢ k → at f k x i ≡ f i
at-other f k x i ne = grind (arith, common_steps)

-- ---- distance and parent

own-same : (s : LocalState) (d : ℕ) (p : Option ℕ) → (s.distance == d && same_node s.parent p) ≡ true
    → (s.distance ≡ d) × (s.parent ≡ p)
own-same s d p t = (grind (arith, common_steps), grind (arith, common_steps, node-same))

written-node : (w : World) (queue : List ℕ) (v : ℕ) (p : StatePart) (s : LocalState) → StandsAs queue s p
    → IsSameBeside p (w.node v) s → IsReached w queue v p (with_node w v s)
written-node w queue v p s stands beside = record {
  stands = subst (λ (t : LocalState). StandsAs queue t p) (sym (at-here w.node v s)) stands;
  beside = subst (IsSameBeside p (w.node v)) (sym (at-here w.node v s)) beside;
  others = λ x ne. at-other w.node v s x ne;
  links = refl;
  network = refl;
}

pub own-reached : (w : World) (queue : List ℕ) (v d : ℕ) (p : Option ℕ) → v < w.net.nodes
    → IsTrue (nat_le d w.net.nodes && parent_fits w.net.nodes p)
    → IsReached w queue v (part.Own d p) (run w (harms_in (own_harm v (w.node v) d p ∷ [])))
own-reached w queue v d p here fits =
    cond_both ((w.node v).distance == d && same_node (w.node v).parent p) None (Some (harm.Own v d p))
    (λ (o : Option Harm). IsReached w queue v (part.Own d p) (run w (harms_in (o ∷ []))))
    (λ same. record {
      stands = own-same (w.node v) d p same;
      beside = (λ _. refl, λ _. refl, refl);
      others = λ _ _. refl;
      links = refl;
      network = refl;
    })
    (λ _. subst (IsReached w queue v (part.Own d p)) (sym (own-step w v here d p fits))
    (written-node w queue v (part.Own d p) (record (w.node v) { distance = d; parent = p })
    (refl, refl) (λ _. refl, λ _. refl, refl)))

-- ---- a port and a value

-- from one world to another, v's port to u and its value there became these, and nothing else changed
pub record IsPortAt (w : World) (v u : ℕ) (p : PortState) (x : ℕ) (new : World) : Type 0 where
  pub port : (new.node v).port u ≡ p
  pub value : (new.node v).value u ≡ x
  pub distance : (new.node v).distance ≡ (w.node v).distance
  pub parent : (new.node v).parent ≡ (w.node v).parent
  pub desk : (new.node v).desk ≡ (w.node v).desk
  pub ports : (y : ℕ) → y ≢ u → (new.node v).port y ≡ (w.node v).port y
  pub values : (y : ℕ) → y ≢ u → (new.node v).value y ≡ (w.node v).value y
  pub others : (y : ℕ) → y ≢ v → new.node y ≡ w.node y
  pub links : new.link ≡ w.link
  pub network : new.net ≡ w.net

module _ (w : World) (v u : ℕ) where
  port-written : (p q : PortState) (x : ℕ) (m : World) → IsPortAt w v u p x m → IsPortAt w v u q x (with_port m v u q)
  port-written p q x m h =
      let s = record (m.node v) { port = at (m.node v).port u q } in
      let e = at-here m.node v s in record {
        port = ap (λ (t : LocalState). t.port u) e ∙ at-here (m.node v).port u q;
        value = ap (λ (t : LocalState). t.value u) e ∙ h.value;
        distance = ap (λ (t : LocalState). t.distance) e ∙ h.distance;
        parent = ap (λ (t : LocalState). t.parent) e ∙ h.parent;
        desk = ap (λ (t : LocalState). t.desk) e ∙ h.desk;
        ports = λ y ne. ap (λ (t : LocalState). t.port y) e ∙ at-other (m.node v).port u q y ne ∙ h.ports y ne;
        values = λ y ne. ap (λ (t : LocalState). t.value y) e ∙ h.values y ne;
        others = λ y ne. at-other m.node v s y ne ∙ h.others y ne;
        links = h.links;
        network = h.network;
      }

  value-written : (p : PortState) (x z : ℕ) (m : World) → IsPortAt w v u p x m
      → IsPortAt w v u p z (with_node m v (record (m.node v) { value = at (m.node v).value u z }))
  value-written p x z m h =
      let s = record (m.node v) { value = at (m.node v).value u z } in
      let e = at-here m.node v s in record {
        port = ap (λ (t : LocalState). t.port u) e ∙ h.port;
        value = ap (λ (t : LocalState). t.value u) e ∙ at-here (m.node v).value u z;
        distance = ap (λ (t : LocalState). t.distance) e ∙ h.distance;
        parent = ap (λ (t : LocalState). t.parent) e ∙ h.parent;
        desk = ap (λ (t : LocalState). t.desk) e ∙ h.desk;
        ports = λ y ne. ap (λ (t : LocalState). t.port y) e ∙ h.ports y ne;
        values = λ y ne. ap (λ (t : LocalState). t.value y) e ∙ at-other (m.node v).value u z y ne ∙ h.values y ne;
        others = λ y ne. at-other m.node v s y ne ∙ h.others y ne;
        links = h.links;
        network = h.network;
      }

  -- the harms of the numbers and of the staged payload, unless they are the same
  abbrev numbers-harm : ℕ → ℕ → Option Harm
  numbers-harm seq last =
      unless (((w.node v).port u).seq == seq && ((w.node v).port u).last == last) (harm.Counters v u seq last)

  abbrev staged-harm : Payload → Option Harm
  staged-harm y = unless (same_payload ((w.node v).port u).staged y) (harm.Staged v u y)

  -- a harm, unless the two are the same
  one-harm : (b : Bool) (h : Harm) (m : World) (p q : PortState) (x z : ℕ) → IsPortAt w v u p x m
      → (b ≡ true → (p ≡ q) × (x ≡ z)) → IsPortAt w v u q z (step m (Damage h))
      → IsPortAt w v u q z (run m (harms_in (unless b h ∷ [])))
  one-harm true h m p q x z before same after =
      let e = same refl in
      subst (λ (y : ℕ). IsPortAt w v u q y m) e.1 (subst (λ (r : PortState). IsPortAt w v u r x m) e.0 before)
  one-harm false h m p q x z before same after = after

  module _ (here : v < w.net.nodes) (there : u < w.net.nodes) (joined : are_joined w.net.edges v u ≡ true) where
    module _ (m : World) (p : PortState) (x : ℕ) (h : IsPortAt w v u p x m) where
      here-too : v < m.net.nodes
      here-too = subst (λ (n : Network). v < n.nodes) (sym h.network) here

      there-too : u < m.net.nodes
      there-too = subst (λ (n : Network). u < n.nodes) (sym h.network) there

      joined-too : are_joined m.net.edges v u ≡ true
      joined-too = subst (λ (n : Network). are_joined n.edges v u ≡ true) (sym h.network) joined

      -- a fact of the network holds there too
      still : (P : Network → Type 0) → P w.net → P m.net
      still P = subst P (sym h.network)

      -- a harm that writes a field of the port
      field-at : (e : Harm) (f : PortState → PortState) → step m (Damage e) ≡ with_port m v u (f ((m.node v).port u))
          → IsPortAt w v u (f p) x (step m (Damage e))
      field-at e f to =
          subst (IsPortAt w v u (f p) x) (sym (to ∙ ap (λ (r : PortState). with_port m v u (f r)) h.port))
          (port-written p (f p) x m h)

      counters-at : (seq last : ℕ) → counters_fit (ranges_of w.net) seq last ≡ true
          → IsPortAt w v u (record p { seq = seq; last = last }) x (step m (Damage (harm.Counters v u seq last)))
      counters-at seq last fits =
          field-at (harm.Counters v u seq last) (λ r. record r { seq = seq; last = last })
          (counters-step m v u here-too there-too joined-too seq last (still (λ n. counters_fit (ranges_of n) seq last ≡ true) fits))

      staged-at : (y : Payload) → payload_fits (ranges_of w.net) y ≡ true
          → IsPortAt w v u (record p { staged = y }) x (step m (Damage (harm.Staged v u y)))
      staged-at y fits =
          field-at (harm.Staged v u y) (λ r. record r { staged = y })
          (staged-step m v u here-too there-too joined-too y (still (λ n. payload_fits (ranges_of n) y ≡ true) fits))

      copy-at : (y : Payload) → payload_fits (ranges_of w.net) y ≡ true
          → IsPortAt w v u (record p { copy = y }) x (step m (Damage (harm.Copy v u y)))
      copy-at y fits =
          field-at (harm.Copy v u y) (λ r. record r { copy = y })
          (copy-step m v u here-too there-too joined-too y (still (λ n. payload_fits (ranges_of n) y ≡ true) fits))

      value-at : (y : ℕ) → nat_lt y (ranges_of w.net).ring ≡ true
          → IsPortAt w v u p y (step m (Damage (harm.Value v u y)))
      value-at y fits =
          subst (IsPortAt w v u p y)
          (sym (value-step m v u here-too there-too joined-too y
          (subst (λ (n : Network). nat_lt y (ranges_of n).ring ≡ true) (sym h.network) fits)))
          (value-written p x y m h)

    pub at-start : IsPortAt w v u ((w.node v).port u) ((w.node v).value u) w
    at-start = record {
      port = refl;
      value = refl;
      distance = refl;
      parent = refl;
      desk = refl;
      ports = λ _ _. refl;
      values = λ _ _. refl;
      others = λ _ _. refl;
      links = refl;
      network = refl;
    }

    more-harms : (m : World) (o : Option Harm) (os : List (Option Harm))
        → run m (harms_in (o ∷ os)) ≡ run (run m (harms_in (o ∷ []))) (harms_in os)
    more-harms m None os = refl
    more-harms m (Some h) os = refl

    numbers-same : (p : PortState) (seq last : ℕ) → (p.seq == seq && p.last == last) ≡ true
        → p ≡ record p { seq = seq; last = last }
    numbers-same p seq last t =
        let a : p.seq ≡ seq = grind (arith, common_steps) in
        let b : p.last ≡ last = grind (arith, common_steps) in
        ap (λ (n : ℕ). record p { seq = n }) a ∙ ap (λ (n : ℕ). record p { seq = seq; last = n }) b

    number-same : (a b : ℕ) → (a == b) ≡ true → a ≡ b
    number-same a b t = grind (arith, common_steps)

    -- the world in which the harms of a port's numbers and of its staged payload end, and what the port is
    -- there
    first-two : (seq last : ℕ) (y : Payload) → counters_fit (ranges_of w.net) seq last ≡ true → payload_fits (ranges_of w.net) y ≡ true
        → IsPortAt w v u (record ((w.node v).port u) { seq = seq; last = last; staged = y }) ((w.node v).value u)
        (run (run w (harms_in (numbers-harm seq last ∷ []))) (harms_in (staged-harm y ∷ [])))
    first-two seq last y fits1 fits2 =
        let x = (w.node v).value u in
        let p0 = (w.node v).port u in
        let p1 = record p0 { seq = seq; last = last } in
        let m1 = run w (harms_in (numbers-harm seq last ∷ [])) in
        let h1 : IsPortAt w v u p1 x m1 =
        one-harm _ _ w p0 p1 x x at-start
        (λ t. (numbers-same p0 seq last t, refl))
        (counters-at w p0 x at-start seq last fits1) in
        one-harm _ _ m1 p1 (record p1 { staged = y }) x x h1
        (λ t. (ap (λ (z : Payload). record p1 { staged = z }) (payload-same p0.staged y t), refl))
        (staged-at m1 p1 x h1 y fits2)

    pub port-reached : (p : PortState) (x : ℕ) → port_fits (ranges_of w.net) p ≡ true
        → nat_lt x (ranges_of w.net).ring ≡ true
        → IsPortAt w v u p x (run w (harms_in (port_harms v u (w.node v) p x)))
    port-reached p x fits below =
        let s = w.node v in
        let p0 = s.port u in
        let p2 = record p0 { seq = p.seq; last = p.last; staged = p.staged } in
        let o1 = numbers-harm p.seq p.last in
        let o2 = staged-harm p.staged in
        let o3 = unless (same_payload p0.copy p.copy) (harm.Copy v u p.copy) in
        let o4 = unless (s.value u == x) (harm.Value v u x) in
        let fits1 : counters_fit (ranges_of w.net) p.seq p.last ≡ true = grind (arith, common_steps) in
        let fits2 : payload_fits (ranges_of w.net) p.staged ≡ true = grind (arith, common_steps) in
        let fits3 : payload_fits (ranges_of w.net) p.copy ≡ true = grind (arith, common_steps) in
        let m1 = run w (harms_in (o1 ∷ [])) in
        let m2 = run m1 (harms_in (o2 ∷ [])) in
        let h2 : IsPortAt w v u p2 (s.value u) m2 = first-two p.seq p.last p.staged fits1 fits2 in
        let m3 = run m2 (harms_in (o3 ∷ [])) in
        let h3 : IsPortAt w v u p (s.value u) m3 =
        one-harm _ _ m2 p2 p (s.value u) (s.value u) h2
        (λ t. (ap (λ (y : Payload). record p2 { copy = y }) (payload-same p0.copy p.copy t), refl))
        (copy-at m2 p2 (s.value u) h2 p.copy fits3) in
        let h4 : IsPortAt w v u p x (run m3 (harms_in (o4 ∷ []))) =
        one-harm _ _ m3 p p (s.value u) x h3
        (λ t. (refl, number-same (s.value u) x t))
        (value-at m3 p (s.value u) h3 x below) in
        subst (IsPortAt w v u p x)
        (sym (more-harms w o1 (o2 ∷ o3 ∷ o4 ∷ []) ∙ more-harms m1 o2 (o3 ∷ o4 ∷ []) ∙ more-harms m2 o3 (o4 ∷ [])))
        h4

    -- after the harms of a frame, the port sends it
    pub frame-reached : (f : Frame) → frame_fits (ranges_of w.net) f ≡ true
        → IsPortAt w v u (record ((w.node v).port u) { seq = f.seq; last = f.ack; staged = f.payload }) ((w.node v).value u)
        (run w (harms_in (frame_harms v u ((w.node v).port u) f)))
    frame-reached f fits =
        let fits1 : counters_fit (ranges_of w.net) f.seq f.ack ≡ true = grind (arith, common_steps) in
        let fits2 : payload_fits (ranges_of w.net) f.payload ≡ true = grind (arith, common_steps) in
        subst (IsPortAt w v u (record ((w.node v).port u) { seq = f.seq; last = f.ack; staged = f.payload }) ((w.node v).value u))
        (sym (more-harms w (numbers-harm f.seq f.ack) (staged-harm f.payload ∷ [])))
        (first-two f.seq f.ack f.payload fits1 fits2)

-- a port that became what was noted
pub port-is : (w : World) (queue : List ℕ) (v u : ℕ) (p : PortState) (x : ℕ) (new : World)
    → IsPortAt w v u p x new
    → IsReached w queue v (part.Port u p.seq p.last p.staged p.copy x) new
port-is w queue v u p x new h = record {
  stands = (h.port, h.value);
  beside = (sym h.distance, sym h.parent, sym h.desk, λ y ne. (sym (h.ports y ne), sym (h.values y ne)));
  others = h.others;
  links = h.links;
  network = h.network;
}
