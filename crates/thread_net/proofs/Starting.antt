-- Runners get seats, and with their ports they are at the start.
use Rattle.std.proofs.Common.{◌≡◌, ℕ, zero, suc, ◌+◌, ◌<◌, ◌≤◌, List, [], ◌∷◌, length, ap, sym, ◌∙◌, add-one, arith, slice_index_or, slice_set, All, take, not, map, refl, subst}
use Rattle.std.proofs.lemmas.List.{get_or-map, map-set, take_more_set, length-map}
use Rattle.std.proofs.lemmas.List.Elements.{All-push, All-set, All-from_get_or}
use Rattle.judge.specs.node_core.View.{NodeView, site_in, state_of}
use Rattle.node_runner.specs.weaving.declared.journal.Journal.{Journal}
use Rattle.node_runner.specs.declared.runner.Runner.{Runner}
use Rattle.thread_net.specs.Cables.{seat_of, seats_of, AreFurnished, row, rows_of}
use Rattle.thread_net.specs.Seats.{IsNew, HasRoom, AreShort, degree_of, entry_room, total_room, nodes_of, AreAtStart, IsAtStart}
use Rattle.thread_net.proofs.Maps.{at-mapped, read}
use Rattle.std.proofs.lemmas.Bool.{lt-ltb}
use Rattle.std.specs.List.{range_with_len}
use Rattle.std.proofs.lemmas.Simd.{map-map}
use Rattle.std.proofs.lemmas.List.Filters.{length-filter_both}
use Rattle.std.proofs.lemmas.List.FromFn.{length-range_with_len}
use Rattle.topology.specs.Network.{Network, are_joined, neighbours_of}
use Rattle.judge.specs.node_core.Site.{site_of}
use Rattle.judge.specs.run_model.World.{World}
use Rattle.judge.specs.configuration.ConfigurationView.{AreNodesOf, no_node, node_at, world_of}
use Rattle.judge.specs.configuration.LinksView.{LinksView}
use Rattle.node_runner.specs.Runner.{port_ids}

-- ---- seats of which one changes

total-more : (turns : ℕ) (nodes : List NodeView) (k : ℕ) (d : NodeView) → k < length nodes → total_room turns (take (suc k) nodes) ≡ total_room turns (take k nodes) + entry_room turns (degree_of (slice_index_or nodes k d))
total-more turns [] k d within = absurd (omega arith)
total-more turns (n ∷ nodes) zero d within = omega arith
total-more turns (n ∷ nodes) (suc k) d within = let later = total-more turns nodes k d (omega arith) in omega arith

module _ {A : Type 0} (rs : List (Runner A)) (k : ℕ) (r : Runner A) (within : k < length rs) (at : r ≡ slice_index_or rs k r) where
  pub short-at : AreShort (nodes_of rs) → degree_of r.node ≤ 64
  short-at short = at-mapped (λ r. r.node) (λ n. degree_of n ≤ 64) rs k r within at short

  pub total-at : (turns : ℕ) → total_room turns (take (k + 1) (nodes_of rs)) ≡ total_room turns (take k (nodes_of rs)) + entry_room turns (degree_of r.node)
  total-at turns =
      let many = length-map rs (λ r. r.node) in
      let there = read (λ r. r.node) rs k r r.node within at in
      rw add-one (rw there at (total-more turns (nodes_of rs) k r.node (omega arith)))

  module _ (j : Journal A) where
    abbrev changed : Runner A
    changed = record r { journal = j }

    pub new-set : j.entries.items ≡ [] → All IsNew (seats_of rs) → All IsNew (seats_of (slice_set rs k changed))
    new-set empty all =
        let was = at-mapped seat_of IsNew rs k r within at all in
        rw (map-set seat_of rs k changed) (All-set IsNew (seats_of rs) k (seat_of changed) (record { id = was.id; clock = was.clock; journal = empty }) all)

    pub room-set : (turns : ℕ) → HasRoom turns (seat_of changed) → All (HasRoom turns) (take k (seats_of rs)) → All (HasRoom turns) (take (k + 1) (seats_of (slice_set rs k changed)))
    room-set turns one all =
        let many = length-map rs seat_of in
        rw (map-set seat_of rs k changed, take_more_set (seats_of rs) k (seat_of changed) (omega arith)) (All-push (HasRoom turns) (take k (seats_of rs)) (seat_of changed) all one)

-- ---- seats and ports of all

pub nodes_from : {A : Type 0} (rs : List (Runner A)) → nodes_of rs ≡ map (λ s. s.1) (seats_of rs)
nodes_from rs = sym (map-map (λ s. s.1) seat_of rs)

-- a node has no more neighbours than there are nodes
pub below-long : (net : Network) (x : ℕ) → length (neighbours_of net x) ≤ net.nodes
below-long net x =
    let all = length-filter_both (are_joined net.edges x) (λ z. not (are_joined net.edges x z)) (λ z. refl) (range_with_len 0 net.nodes) in
    let long = length-range_with_len 0 net.nodes in
    omega arith

pub short-nodes : (net : Network) (nodes : List NodeView) → net.nodes ≤ 64 → AreNodesOf net nodes → AreShort nodes
short-nodes net nodes few are = All-from_get_or (λ n. degree_of n ≤ 64) nodes no_node (λ k within.
    let site = are.sites k (let all = are.all_nodes in omega arith) in
    let below = below-long net k in
    subst (λ s. length s.neighbours ≤ 64) (sym site) (omega arith))

module _ {A : Type 0} (nodes : List NodeView) (links : LinksView) (turns : ℕ) (rs : List (Runner A)) (are : AreNodesOf links.net nodes) (same : nodes_of rs ≡ nodes)
    (new : All IsNew (seats_of rs)) (rooms : All (HasRoom turns) (seats_of rs)) where
  abbrev pub here : World
  here = world_of (record { nodes = nodes; links = links })

  many : length rs ≡ links.net.nodes
  many = let a = length-map rs (λ r. r.node) in let b = ap length same in let c = are.all_nodes in omega (arith, a, b, c)

  at-start : AreFurnished here (rows_of rs) → (v : ℕ) (d : Runner A) → v < links.net.nodes → IsAtStart here turns v (slice_index_or rs v d)
  at-start furnished v d vn =
      let r = slice_index_or rs v d in
      let there : v < length rs = let m = many in omega arith in
      let seated : v < length (seats_of rs) = let m = length-map rs seat_of in omega arith in
      let node : r.node ≡ node_at nodes v = sym (get_or-map (λ r. r.node) rs v d no_node there) ∙ ap (λ ns. slice_index_or ns v no_node) same in
      let site : site_in r.node ≡ site_of links.net v = ap site_in node ∙ are.sites v vn in
      let seat = get_or-map seat_of rs v d (seat_of d) there in
      let is-new : IsNew (seat_of r) = rw seat at (new v (seat_of d) seated) in
      let room : HasRoom turns (seat_of r) = rw seat at (rooms v (seat_of d) seated) in
      let row-is : row (rows_of rs) v ≡ r.ports.items = get_or-map (λ r. r.ports.items) rs v d [] there in
      let ids : port_ids r ≡ (site_in r.node).neighbours = ap (map (λ p. p.neighbour)) (sym row-is) ∙ (furnished.ids v vn ∙ ap (λ s. s.neighbours) (sym site)) in
      let long : length r.ports.items ≡ degree_of r.node = sym (length-map r.ports.items (λ p. p.neighbour)) ∙ ap length ids in
      let clock = is-new.clock in
      record {
        said = record {
          id = is-new.id ∙ ap (λ s. s.id) site;
          site = site;
          leads = (tt, rw (lt-ltb v links.net.nodes vn) (ap state_of node));
          journal = is-new.journal;
          rising = tt;
          before = tt;
          ports = rw row-is at (furnished.said v vn);
        };
        ready = record { clock = omega arith; ports = ids };
        clock = clock;
        room = rw long room;
      }

  pub all-at-start : AreFurnished here (rows_of rs) → AreAtStart here turns rs
  all-at-start furnished = record { count = many; each = at-start furnished; cabled = furnished.cabled }
