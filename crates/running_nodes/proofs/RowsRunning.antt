-- Two nodes that did nothing, and what is no such run.
use Rattle.std.proofs.Common.{◌≡◌, ◌==◌, if◌then◌else◌, ℕ, List, [], ◌∷◌, ◌++◌, Option, None, Some, true, false, slice_get, IsTrue, refl, ap, arith}
use Rattle.std.specs.Prelude.{is_some}
use Rattle.std.specs.List.{AllByRecursion}
use Rattle.std.proofs.lemmas.List.Elements.{All-nil}
use Rattle.topology.specs.Laws.{JoinedAreNodes, JoinedBack, NeighboursAreJoined}
use Rattle.topology.specs.Ranges.{ranges_of}
use Rattle.topology.specs.declared.frame.Frame.{Frame}
use Rattle.node_core.specs.Site.{site_of}
use Rattle.node_core.specs.State.{LocalState, default_node}
use Rattle.node_core.specs.View.{NodeView, site_in, state_of}
use Rattle.run_model.specs.World.{World, IsWorldInRange, item_fits}
use Rattle.run_model.proofs.RowsTwo.{two_nodes, each-node, each-link, is-accepted}
use Rattle.socket_links.specs.Counts.{Counts}
use Rattle.node_core.specs.Deeds.{Deed, Ticks}
use Rattle.pace.specs.declared.pace.TurnPace.{TurnPace}
use Rattle.node_loop.specs.Moments.{Moment}
use Rattle.node_loop.specs.node_connections.declared.port.NodePort.{NodePort}
use Rattle.processes.specs.Accounts.{Timed}
use Rattle.processes.specs.Connections.{as_items}
use Rattle.processes.specs.Together.{Wires}
use Rattle.processes.proofs.RowsLinks.{numbered}
use Rattle.running_nodes.specs.Laws.{IfPipesAreJoined}
use Rattle.running_nodes.specs.Pipes.{Ends, IsLinkOfPipes}
use Rattle.running_nodes.specs.Running.{Runs, BeginsAt, AreNodeRuns, AreConnections, ArePipes}
use Rattle.running_nodes.specs.Stood.{IsStood, Stood}
use Rattle.running_nodes.proofs.Whole.{stood, are-connections}

-- node v of the two
abbrev view : ℕ → NodeView
view v = record {
  id = v;
  is_root = v == 0;
  distance = 2;
  parent = None;
  registers = record { ranges = ranges_of two_nodes; neighbours = if v == 0 then 1 ∷ [] else 0 ∷ []; ports = []; values = [] };
  desk = record { lease = 0; state = (default_node (ranges_of two_nodes)).desk };
}

-- their world, with nothing under way
abbrev still : World
still = record { net = two_nodes; spares = 0; node = λ v. state_of (view v); link = λ u v. [] }

-- it is in range
still-in_range : IsWorldInRange still
still-in_range = record {
  network = is-accepted;
  nodes = λ v l. record {
    distance = omega arith;
    parent = refl;
    ports = λ k d below. refl;
    values = λ k d below. omega arith;
    desk = refl;
  };
  capacity = λ u v joined. omega arith;
  items = λ u v joined. All-nil (λ item. IsTrue (item_fits (ranges_of two_nodes) item));
}

abbrev no_account : ℕ → List Timed
no_account v = []

abbrev ticked : ℕ → List Timed
ticked v = if v == 0 then record { instant = 1; deed = Ticks } ∷ [] else []

abbrev no_wires : Wires
no_wires = record { junk = λ u v. []; ended = λ u v. []; acts = λ u v. [] }

module _ {P : Type 0} (gave took : P → Option (List ℕ)) (counts : P → Counts) (pace : TurnPace)
    (port : NodePort P) (loose : port.link.pipe ≡ None) where
  abbrev moment : ℕ → Moment P
  moment v = record { node = view v; ports = port ∷ port ∷ []; pace = pace; let_go = false }

  abbrev runs : Runs P
  runs = record { first = moment; turns = λ v. []; end = moment; start = λ u v. record { given = 72 ∷ []; taken = 72 ∷ [] } }

  begins : (u v : ℕ) → slice_get (port ∷ port ∷ []) v ≡ Some port → BeginsAt gave took still runs u v
  begins u v there = record { port = port; there = there; starts = record { pulled = rw loose tt; pushed = rw loose tt } }

  -- the port to what is no node is not there
  begins_not-there : ¬ BeginsAt gave took still runs 0 2
  begins_not-there b = let e : ◌≡◌ {A = Option (NodePort P)} None (Some b.port) = b.there in absurd cc

  nothing-done : AreNodeRuns gave took counts still runs no_account still
  nothing-done = record {
    network = refl;
    spares = refl;
    sites = each-node (λ v. site_in (view v) ≡ site_of two_nodes v) refl refl;
    states = λ v l. refl;
    go = λ v l. refl;
    lasts = λ v l. refl;
    begin = each-link (λ u v. BeginsAt gave took still runs u v) (begins 0 1 refl) (begins 1 0 refl);
    deeds_are = λ v l. refl;
    in_time = λ v. tt;
    nobody = λ v l. (refl, refl);
  }

  -- a deed that no turn has is none of the account, and without a turn no node is at another distance
  runs_not-made-up : (last : World) → ¬ AreNodeRuns gave took counts still runs ticked last
  runs_not-made-up last r = let e : ◌≡◌ {A = List Deed} (Ticks ∷ []) [] = r.deeds_are 0 (omega arith) in absurd cc

  runs_not-elsewhere : (last : World) → (last.node 0).distance ≡ 0 → ¬ AreNodeRuns gave took counts still runs no_account last
  runs_not-elsewhere last there r =
      let e : (last.node 0).distance ≡ 2 = ap (λ (s : LocalState). s.distance) (r.lasts 0 (omega arith)) in omega (arith, there, e)

  no-connections : AreConnections gave took still runs (λ u v. [])
  no-connections u v joined = record { each = tt; takes = refl; sends = refl }

  connections_not-sent : (c : Stood P) → c.sent ≡ numbered 1 ∷ [] → ¬ AreConnections gave took still runs (λ u v. c ∷ [])
  connections_not-sent c sent are =
      let e : c.sent ++ [] ≡ [] = (are 0 1 refl).sends in
      let f : ◌≡◌ {A = List Frame} (numbered 1 ∷ []) [] = rw sent at e in absurd cc

  -- a link that nobody took up
  abbrev IsUnused : List (Stood P) → List (Stood P) → Type 0
  IsUnused outs intos = IsLinkOfPipes (ranges_of two_nodes) 1 gave took [] [] [] [] [] (record { out = None; into = None } ∷ []) outs intos

  unused : IsUnused [] []
  unused = record {
    whole = refl;
    carries = record { joined = tt; accepted = refl; given = refl; within = tt };
    outs_are = refl;
    intos_are = refl;
    accepted = refl;
    given = refl;
    in_order = tt;
  }

  -- if no connection stands at the two ports, there are such links between them
  unused-pipes : (found : ℕ → ℕ → List (Stood P)) → found 0 1 ≡ [] → found 1 0 ≡ []
      → ArePipes gave took still no_account found (λ u v. record { out = None; into = None } ∷ []) no_wires still
  unused-pipes found out into = record {
    first = λ u v joined. refl;
    links = each-link (λ u v. IsUnused (found u v) (found v u)) (rw (out, into) unused) (rw (out, into) unused);
    left = λ u v joined. refl;
    nowhere = λ u v apart. (refl, refl, refl);
  }

  no-bytes : ArePipes gave took still no_account (λ u v. []) (λ u v. record { out = None; into = None } ∷ []) no_wires still
  no-bytes = unused-pipes (λ u v. []) refl refl

  -- what is under way at the end is what is left on the last connections
  pipes_not-more : (ends : ℕ → ℕ → List (Ends P))
      → ¬ ArePipes gave took still no_account (λ u v. []) ends no_wires (record still { link = λ u v. as_items (numbered 1 ∷ []) })
  pipes_not-more ends p = let e = p.left 0 1 refl in grind (arith, e)

  -- of what nodes did over joined pipes it holds that the network stays
  if-network_stays : JoinedAreNodes → NeighboursAreJoined → JoinedBack
      → IfPipesAreJoined gave took counts (λ w account wires last. last.net ≡ w.net)
  if-network_stays nodes neighbours back w last runs account range are = (
    stood gave took counts nodes neighbours back w last runs account range are,
    are-connections gave took counts nodes neighbours back w last runs account range are,
    λ ends wires joined. are.network,
  )

  -- it does not hold that node 0 did something: these two did nothing, and if there are no pipes at all, no connection stood
  module _ (no_pipe : P → ⊥) where
    no-pipe_stands : (pipe : Option P) → is_some pipe ≡ true → ⊥
    no-pipe_stands None stands = absurd cc
    no-pipe_stands (Some p) stands = no_pipe p

    none-stood : (cs : List (Stood P)) → AllByRecursion (IsStood (ranges_of two_nodes) gave took) cs → cs ≡ []
    none-stood [] each = refl
    none-stood (c ∷ cs) each = absurd (no-pipe_stands c.link.pipe each.0.stands)

    if_not-done : ¬ IfPipesAreJoined gave took counts (λ w account wires last. ¬ (account 0 ≡ []))
    if_not-done law =
        let (found, are, holds) = law still still runs no_account still-in_range nothing-done in
        let out : found 0 1 ≡ [] = none-stood (found 0 1) (are 0 1 refl).each in
        let into : found 1 0 ≡ [] = none-stood (found 1 0) (are 1 0 refl).each in
        holds (λ u v. record { out = None; into = None } ∷ []) no_wires (unused-pipes found out into) refl
