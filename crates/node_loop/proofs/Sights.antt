-- What is seen at each port, one after the other. Neighbours are nodes, and there are at most 64 of
-- these.
use Rattle.std.proofs.Common.{◌≡◌, ◌≢◌, ◌<◌, ◌≤◌, ◌+◌, ℕ, Bool, true, false, not, ◌&&◌, List, ◌∷◌, ◌++◌, Some, is_some, Contains, get_or, length, take, slice_get, slice_set, refl, inl, inr, sym, subst, arith, ◌∙◌, []}
use Rattle.std.specs.Prelude.{slice_index_or}
use Rattle.std.proofs.Math.ListN.{replicate}
use Rattle.std.specs.Cmp.{both_ways}
use Rattle.std.proofs.lemmas.Bool.{cases_eq, cases_lt, false≢true}
use Rattle.std.proofs.lemmas.List.Elements.{Contains-append_left, Contains-get_or, Contains-push, Contains-push_cases}
use Rattle.std.proofs.lemmas.List.{take_more, get_or_past, get_or-replicate, get_or-set_same, get_or-set_other, length-replicate, length-set}
use Rattle.topology.specs.Network.{Network, IsAcceptedNetwork}
use Rattle.topology.specs.Laws.{NeighboursAreJoined, Limits}
use Rattle.topology.specs.declared.frame.Payload.{Payload}
use Rattle.topology.specs.declared.frame.Frame.{Frame}
use Rattle.node_core.specs.data_link.Port.{frame_of}
use Rattle.node_core.specs.Site.{Site, site_of}
use Rattle.node_core.specs.Machines.{payload_for}
use Rattle.node_core.specs.View.{NodeView, site_in, state_of}
use Rattle.pace.specs.declared.port.PortSight.{PortSight}
use Rattle.node_connections.specs.declared.port.NodePort.{NodePort}
use Rattle.node_loop.specs.Speaking.{sight_at}
use Rattle.node_connections.proofs.Places.{none-there}

-- what a port shows is what is seen there
pub seen-as : {P : Type 0} (node : NodeView) (ports : List (NodePort P)) (id : ℕ) (port : NodePort P) (takes : Bool) (frame : Frame) (present : Payload)
    → slice_get ports id ≡ Some port → takes ≡ (is_some port.link.pipe && not port.is_stuck) → frame ≡ frame_of ((state_of node).port id)
    → present ≡ payload_for (site_in node) (state_of node) id
    → ◌≡◌ {A = PortSight} (record { takes_frames = takes; frame = frame; present = present }) (sight_at node ports id)
seen-as node ports id port takes frame present at t f p = rw (at, t, f, p) refl

-- what is seen so far: of these nodes
pub record AreSeen {X : Type 0} (f : ℕ → X) (none : X) (ws : List ℕ) (xs : List X) : Type 0 where
  pub size : length xs ≡ 64
  pub seen : (w : ℕ) → Contains ws w → slice_index_or xs w none ≡ f w

pub seen-start : {X : Type 0} (f : ℕ → X) (none : X) (xs : List X) → length xs ≡ 64 → AreSeen f none [] xs
seen-start f none xs size = record { size = size; seen = λ w has. absurd (none-there w has) }

pub seen-next : {X : Type 0} (f : ℕ → X) (none : X) (ws : List ℕ) (xs : List X) (v : ℕ) (x : X) → v < 64 → x ≡ f v
    → AreSeen f none ws xs → AreSeen f none (ws ++ v ∷ []) (slice_set xs v x)
seen-next f none ws xs v x here same so = record {
  size = length-set xs v x ∙ so.size;
  seen = λ w has.
      elim (Contains-push_cases ws v w has) [
        | inl before ↦ elim (cases_eq w v) [
          | inl is ↦ rw (is, get_or-set_same xs v x none (rw so.size here)) same
          | inr other ↦ rw (get_or-set_other xs v w x none other) (so.seen w before)
        ]
        | inr is ↦ rw (sym is, get_or-set_same xs v x none (rw so.size here)) same
      ];
}

-- none but these is seen so far
abbrev pub NoneElse : List ℕ → List ℕ → Type 0
NoneElse ws xs = (w : ℕ) → (¬ Contains ws w) → slice_index_or xs w 0 ≡ 0

pub none-start : NoneElse [] (replicate 64 0)
none-start w not =
    elim (cases_lt w 64) [
      | inl less ↦ get_or-replicate 64 w 0 0 less
      | inr from ↦ get_or_past (replicate 64 0) w 0 (rw (length-replicate {A = ℕ} 64 0) from)
    ]

pub none-next : (ws xs : List ℕ) (v x : ℕ) → NoneElse ws xs → NoneElse (ws ++ v ∷ []) (slice_set xs v x)
none-next ws xs v x so w not =
    let other : w ≢ v = λ is. not (subst (λ u. Contains (ws ++ v ∷ []) u) (sym is) (Contains-push ws v)) in
    rw (get_or-set_other xs v w x 0 other) (so w (λ has. not (Contains-append_left ws (v ∷ []) w has)))

pub is-node : NeighboursAreJoined → (net : Network) (v w : ℕ) (site : Site) → site ≡ site_of net v → Contains site.neighbours w → w < site.ranges.nodes
is-node joined net v w site e has =
    subst (λ s. w < s.ranges.nodes) (sym e) ((joined net v w).0 (subst (λ s. Contains s.neighbours w) e has)).0

pub is-few : Limits → NeighboursAreJoined → (net : Network) (v w : ℕ) (site : Site) → IsAcceptedNetwork net → site ≡ site_of net v → Contains site.neighbours w → w < 64
is-few limits joined net v w site accepted e has =
    let node : w < net.nodes = ((joined net v w).0 (subst (λ s. Contains s.neighbours w) e has)).0 in
    let few : net.nodes ≤ 64 = (limits net accepted).1 in
    omega arith

-- so is each item of a list of neighbours
pub is-node-at : NeighboursAreJoined → (net : Network) (v : ℕ) (site : Site) → site ≡ site_of net v → (ws : List ℕ) → ws ≡ site.neighbours → (i : ℕ) → i < length ws
    → get_or ws i 0 < site.ranges.nodes
is-node-at joined net v site e ws same i there =
    is-node joined net v (get_or ws i 0) site e (subst (λ xs. Contains xs (get_or ws i 0)) same (Contains-get_or ws i 0 there))

pub is-few-at : Limits → NeighboursAreJoined → (net : Network) (v : ℕ) (site : Site) → IsAcceptedNetwork net → site ≡ site_of net v
    → (ws : List ℕ) → ws ≡ site.neighbours → (i : ℕ) → i < length ws → get_or ws i 0 < 64
is-few-at limits joined net v site accepted e ws same i there =
    is-few limits joined net v (get_or ws i 0) site accepted e (subst (λ xs. Contains xs (get_or ws i 0)) same (Contains-get_or ws i 0 there))

-- one more of them
pub take-next : (ws ns : List ℕ) → ws ≡ ns → (i : ℕ) → i < length ns → take (i + 1) ns ≡ take i ns ++ get_or ws i 0 ∷ []
take-next ws ns same i there = rw same (take_more ns i 0 there)

-- what is seen as true is true
abbrev pub OnlyTrue : (ℕ → Bool) → List Bool → Type 0
OnlyTrue f xs = (w : ℕ) → slice_index_or xs w false ≡ true → f w ≡ true

pub only-start : (f : ℕ → Bool) → OnlyTrue f (replicate 64 false)
only-start f w on =
    elim (cases_lt w 64) [
      | inl less ↦ absurd (false≢true (sym (get_or-replicate 64 w false false less) ∙ on))
      | inr from ↦ absurd (false≢true (sym (get_or_past (replicate 64 false) w false (rw (length-replicate {A = Bool} 64 false) from)) ∙ on))
    ]

pub only-next : (f : ℕ → Bool) (xs : List Bool) (v : ℕ) (x : Bool) → v < length xs → x ≡ f v → OnlyTrue f xs → OnlyTrue f (slice_set xs v x)
only-next f xs v x here same so w on =
    elim (cases_eq w v) [
      | inl is ↦ (let true-there : x ≡ true = rw (is, get_or-set_same xs v x false here) at on in rw is (sym same ∙ true-there))
      | inr other ↦ so w (rw (get_or-set_other xs v w x false other) at on)
    ]

-- once all of which it is true are seen, all is seen
pub seen-all : (f : ℕ → Bool) (ws : List ℕ) (xs : List Bool) → AreSeen f false ws xs → OnlyTrue f xs → ((w : ℕ) → f w ≡ true → Contains ws w)
    → (w : ℕ) → slice_index_or xs w false ≡ f w
seen-all f ws xs seen only all w = both_ways (slice_index_or xs w false) (f w) (only w) (λ on. seen.seen w (all w on) ∙ on)
