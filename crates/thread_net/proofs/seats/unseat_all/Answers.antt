use Rattle.std.proofs.Common.{arith, ap, sym, ◌∙◌, length, append_assoc, append-nil, ◌≡◌, []}
use Rattle.std.proofs.lemmas.List.{length-map, map_push, nil_from_length}
use Rattle.std.specs.Vec.Iter.{into_iter_items}
use Rattle.thread_net.specs.Cables.{rows_of}
use Rattle.thread_net.specs.Seats.{nodes_of, entries_of_all}
use Rattle.thread_net.proofs.seats.unseat_all.Goals as goal

pub loop-runner-init : goal.loop-runner-init
loop-runner-init g c =
    let r = c.requires in
    let s = c.args.seats.now in
    let no_nodes : length s.nodes.items ≡ 0 = ap length r.nodes in
    let no_journals : length s.journals.items ≡ 0 = ap length r.journals in
    let no_rows : length s.rows.items ≡ 0 = ap length r.rows in
    let gives = c.into_iter-runner-iterator.ensures.into_iter_gives in (
      omega (arith, no_nodes, s.nodes.ok.0, gives.1, r.node_room),
      omega (arith, no_journals, s.journals.ok.0, gives.1, r.journal_room),
      omega (arith, no_rows, s.rows.ok.0, gives.1, r.row_room),
      rw r.nodes (ap nodes_of gives.0),
      rw r.journals (ap entries_of_all gives.0),
      rw r.rows (ap rows_of gives.0),
    )

pub push_reserved-requires : goal.push_reserved-requires
push_reserved-requires g c = omega (arith, c.loop-runner.invariant.0, c.in-Some.ensures.steps.1)

pub push_reserved-requires-in-loop-runner : goal.push_reserved-requires-in-loop-runner
push_reserved-requires-in-loop-runner g c = omega (arith, c.loop-runner.invariant.1, c.in-Some.ensures.steps.1)

pub push_reserved-requires-in-loop-runner-2 : goal.push_reserved-requires-in-loop-runner-2
push_reserved-requires-in-loop-runner-2 g c = omega (arith, c.loop-runner.invariant.2, c.in-Some.ensures.steps.1)

pub loop-runner-preserved : goal.loop-runner-preserved
loop-runner-preserved g c =
    let r = c.in-Some.runner in
    let s = c.loop-runner.seats in
    let it = c.loop-runner.invariant in
    let next = c.in-Some.ensures.steps.0 in
    let less = c.in-Some.ensures.steps.1 in
    let node = c.push_reserved.ensures in
    let journal = c.push_reserved-in-loop-runner.ensures in
    let row = c.push_reserved-in-loop-runner-2.ensures in (
      omega (arith, it.0, less, node.len, node.capacity),
      omega (arith, it.1, less, journal.len, journal.capacity),
      omega (arith, it.2, less, row.len, row.capacity),
      rw (node.items, append_assoc) (rw next at it.3),
      rw (journal.items, map_push (λ j. j.entries.items) s.journals.items r.journal, append_assoc) (rw next at it.4),
      rw (row.items, map_push (λ t. t.items) s.rows.items r.ports, append_assoc) (rw next at it.5),
    )

pub returns : goal.returns
returns g c =
    let rest = c.loop-runner.runner-iterator.rest in
    let nothing : into_iter_items c.loop-runner.runner-iterator ≡ [] = nil_from_length _ (sym rest.ok.0 ∙ c.in-None.ensures.steps.0) in
    let it = c.loop-runner.invariant in
    let journals = rw append-nil at (rw nothing at it.4) in
    let rows = rw append-nil at (rw nothing at it.5) in
    record {
      nodes = rw append-nil at (rw nothing at it.3);
      journals = journals;
      rows = rows;
      all_journals = sym (length-map c.loop-runner.seats.journals.items (λ j. j.entries.items)) ∙ (ap length journals ∙ length-map c.args.runners.items (λ r. r.journal.entries.items));
      all_rows = sym (length-map c.loop-runner.seats.rows.items (λ t. t.items)) ∙ (ap length rows ∙ length-map c.args.runners.items (λ r. r.ports.items));
    }
