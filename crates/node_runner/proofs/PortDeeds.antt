-- What a deed over one port changes in the node's account.
use Rattle.std.proofs.Common.{◌≡◌, ◌≢◌, ℕ, ◌+◌, ◌<◌, ◌≤◌, List, [], ◌∷◌, ◌++◌, map, length, ap, refl, sym, subst, ◌∙◌, arith, rules, append-nil, slice_index_or, All, Contains, set, vec_capacity}
use Rattle.std.specs.List.{AllByRecursion}
use Rattle.std.specs.List.Sorted.{IsStrictlyIncreasing}
use Rattle.std.proofs.lemmas.List.{get_or-map}
use Rattle.topology.specs.Network.{Network}
use Rattle.topology.specs.Laws.{NeighboursAscend}
use Rattle.run_model.specs.node_core.Site.{site_of}
use Rattle.run_model.specs.node_core.View.{site_in, state_of}
use Rattle.run_model.specs.World.{World}
use Rattle.weaving.specs.Account.{Note, sent_to, taken_from, entry_of, Leads}
use Rattle.node_runner.specs.declared.ports.Incoming.{Incoming}
use Rattle.node_runner.specs.declared.ports.Outgoing.{Outgoing}
use Rattle.node_runner.specs.declared.runner.RunnerPort.{RunnerPort}
use Rattle.node_runner.specs.declared.runner.Runner.{Runner}
use Rattle.node_runner.specs.Ports.{SameIncoming, SameOutgoing}
use Rattle.node_runner.specs.Runner.{IsNoted, IsPortNoted, IsReady, Does, IsSamePort, AreSamePorts, port_ids}
use Rattle.node_runner.specs.Stamps.{last_stamp}
use Rattle.node_runner.proofs.Deeds.{Noted}
use Rattle.node_runner.proofs.PortLists.{default-free, port-is-known, ports-same, ids-set, ports-said}

-- p is the port at a place of the node
pub record IsAt {A : Type 0} (a : Runner A) (k : ℕ) (p : RunnerPort A) : Type 0 where
  pub within : k < length a.ports.items
  pub value : p ≡ slice_index_or a.ports.items k p
  pub ready : IsReady a

-- a port of which one end is another of the same rings
pub same-sending : {A : Type 0} (p : RunnerPort A) (q : Outgoing A) → SameOutgoing p.outgoing q → IsSamePort p (record p { outgoing = q })
same-sending p q same = let stays : SameIncoming p.incoming p.incoming = search rules in (refl, same, stays)

pub same-taking : {A : Type 0} (p : RunnerPort A) (q : Incoming A) → SameIncoming p.incoming q → IsSamePort p (record p { incoming = q })
same-taking p q same = let stays : SameOutgoing p.outgoing p.outgoing = search rules in (refl, stays, same)

module _ {A : Type 0} {a : Runner A} {k : ℕ} {p : RunnerPort A} (at : IsAt a k p) where
  pub known : Contains (site_in a.node).neighbours p.neighbour
  known =
      subst (λ ns. Contains ns p.neighbour) at.ready.ports
      (subst (λ q. Contains (port_ids a) q.neighbour) (sym at.value) (port-is-known a.ports.items k p at.within))

  pub id-at : p.neighbour ≡ slice_index_or (port_ids a) k 0
  id-at = sym (get_or-map (λ q. q.neighbour) a.ports.items k p 0 at.within ∙ ap (λ q. q.neighbour) (sym at.value))

  ascends : NeighboursAscend → (net : Network) (v : ℕ) → site_in a.node ≡ site_of net v → IsStrictlyIncreasing (port_ids a)
  ascends law net v site = subst IsStrictlyIncreasing (sym (at.ready.ports ∙ ap (λ s. s.neighbours) site)) (law net v)

  pub port-was : (w : World) (v : ℕ) (past : List Note) → IsNoted w v past a → IsPortNoted w v past p
  port-was w v past was = subst (IsPortNoted w v past) (sym at.value) (was.ports k p at.within)

  module _ (x : RunnerPort A) (same : IsSamePort p x) where
    there : p ≡ slice_index_or a.ports.items k x
    there = at.value ∙ default-free a.ports.items k p x at.within

    at-place : x.neighbour ≡ (slice_index_or a.ports.items k x).neighbour
    at-place = same.0 ∙ ap (λ q. q.neighbour) there

    pub now-same : AreSamePorts a.ports.items (set a.ports.items k x)
    now-same = ports-same a.ports.items k x at.within (subst (λ q. IsSamePort q x) there same)

    pub now-ids : map (λ q. q.neighbour) (set a.ports.items k x) ≡ port_ids a
    now-ids = ids-set a.ports.items k x at.within at-place

    pub now-said : (w : World) (v : ℕ) (past es : List Note) → NeighboursAscend → IsNoted w v past a
        → ((u : ℕ) → u ≢ x.neighbour → (sent_to u es ≡ []) × (taken_from u es ≡ [])) → IsPortNoted w v (past ++ es) x
        → All (IsPortNoted w v (past ++ es)) (set a.ports.items k x)
    now-said w v past es law was others one =
        ports-said w v past es a.ports.items k x at.within (ascends law w.net v was.site) at-place others was.ports one

    pub does-none : (b : Runner A) → NeighboursAscend → b.id ≡ a.id → b.node ≡ a.node → b.clock ≡ a.clock → b.journal ≡ a.journal → b.ports.items ≡ set a.ports.items k x
        → ((w : World) (v : ℕ) (past : List Note) → IsNoted w v past a → IsPortNoted w v past x) → Does [] a b
    does-none b law id node clock journal ports one =
        let count = ap (λ j. length j.entries.items) journal in
        record {
          said = λ w v past was.
              let same-list = append-nil past in
              let all = now-said w v past [] law was (λ u apart. (refl, refl)) (subst (λ ds. IsPortNoted w v ds x) (sym same-list) (one w v past was)) in
              let said : IsNoted w v past b = record {
                id = id ∙ was.id;
                site = ap site_in node ∙ was.site;
                leads = subst (λ n. Leads w.net v (w.node v) past (state_of n)) (sym node) was.leads;
                journal = ap (λ j. j.entries.items) journal ∙ was.journal;
                rising = was.rising;
                before = subst (λ t. AllByRecursion (λ e. e.stamp ≤ t) (map (entry_of v) past)) (sym clock) was.before;
                ports = subst (λ ds. All (IsPortNoted w v ds) b.ports.items) same-list (subst (λ ps. All (IsPortNoted w v (past ++ [])) ps) (sym ports) all);
              } in
              subst (λ ds. IsNoted w v ds b) (sym same-list) said;
          ready = record {
            clock = let r = at.ready.clock in omega (arith, clock, count);
            ports = ap (λ ps. map (λ q. q.neighbour) ps) ports ∙ (now-ids ∙ (at.ready.ports ∙ ap (λ n. (site_in n).neighbours) (sym node)));
          };
          id = id;
          site = ap site_in node;
          ports = subst (AreSamePorts a.ports.items) (sym ports) now-same;
          entries = omega (arith, count);
          room = ap (λ j. vec_capacity j.entries) journal;
        }

    -- one deed over the port, which was noted
    pub noted-one : (d : Note) (b : Runner A) → NeighboursAscend → (b.id ≡ a.id) × (site_in b.node ≡ site_in a.node) × (b.ports.items ≡ set a.ports.items k x)
        → (b.journal.entries.items ≡ a.journal.entries.items ++ entry_of a.id d ∷ []) × (vec_capacity b.journal.entries ≡ vec_capacity a.journal.entries)
        → (a.clock < (entry_of a.id d).stamp) × (b.clock ≡ (entry_of a.id d).stamp) × (b.clock ≤ last_stamp + (length a.journal.entries.items + 1))
        → ((net : Network) (v : ℕ) → a.id ≡ v → site_in a.node ≡ site_of net v → Leads net v (state_of a.node) (d ∷ []) (state_of b.node))
        → ((u : ℕ) → u ≢ x.neighbour → (sent_to u (d ∷ []) ≡ []) × (taken_from u (d ∷ []) ≡ []))
        → ((w : World) (v : ℕ) (past : List Note) → IsNoted w v past a → IsPortNoted w v (past ++ d ∷ []) x)
        → Noted d a b
    noted-one d b law now journal time leads others one = record {
      id = now.0;
      site = now.1;
      entries = journal.0;
      room = journal.1;
      later = time.0;
      clock = time.1;
      bound = time.2;
      neighbours = ap (λ ps. map (λ q. q.neighbour) ps) now.2 ∙ now-ids;
      ports = subst (AreSamePorts a.ports.items) (sym now.2) now-same;
      leads = leads;
      said = λ w v past was. subst (All (IsPortNoted w v (past ++ d ∷ []))) (sym now.2) (now-said w v past (d ∷ []) law was others (one w v past was));
    }
