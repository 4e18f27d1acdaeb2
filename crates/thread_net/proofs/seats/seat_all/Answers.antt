use Rattle.std.proofs.Common.{arith, ap, sym, length, append_assoc, append-nil, refl, ◌≡◌, ◌∙◌, ◌++◌, ◌∷◌, []}
use Rattle.std.proofs.lemmas.List.{length-map, map_push, nil_from_length}
use Rattle.std.proofs.lemmas.List.Elements.{All-nil, All-push}
use Rattle.std.specs.Vec.Iter.{into_iter_items}
use Rattle.node_runner.specs.declared.runner.Runner.{Runner}
use Rattle.thread_net.specs.Cables.{seat_of, seats_of, rows_of}
use Rattle.thread_net.specs.Seats.{IsNew}
use Rattle.thread_net.proofs.Maps.{empty-push}
use Rattle.thread_net.proofs.seats.seat_all.Goals as goal

pub loop-node-init : goal.loop-node-init
loop-node-init g c =
    let empty = c.requires.empty in
    let none : length c.args.runners.now.items ≡ 0 = ap length empty in
    let gives = c.into_iter-node-iterator.ensures.into_iter_gives in (
      omega (arith, none, c.args.runners.now.ok.0, gives.1, c.requires.room),
      rw empty gives.0,
      rw empty (All-nil IsNew),
      rw empty (λ x. refl),
    )

pub push_reserved-requires : goal.push_reserved-requires
push_reserved-requires g c = omega (arith, c.loop-node.invariant.0, c.in-Some.ensures.steps.1)

pub loop-node-preserved : goal.loop-node-preserved
loop-node-preserved g c =
    let rs = c.loop-node.runners.items in
    let r : Runner _ = record { id = c.id-id.result; node = c.in-Some.node; ports = c.new.result; clock = 0; journal = record { entries = c.new-in-loop-node.result } } in
    let items : c.push_reserved.new.self.items ≡ rs ++ r ∷ [] = c.push_reserved.ensures.items in
    let new = All-push IsNew (seats_of rs) (seat_of r) c.loop-node.invariant.2 (record { id = c.id-id.ensures; clock = refl; journal = c.new-in-loop-node.ensures.items }) in
    let pushed = c.push_reserved.ensures in
    let rows = map_push (λ r. r.ports.items) rs r ∙ ap (λ ps. rows_of rs ++ ps ∷ []) c.new.ensures.items in (
      omega (arith, c.loop-node.invariant.0, c.in-Some.ensures.steps.1, pushed.len, pushed.capacity),
      rw (items, map_push (λ r. r.node) rs r, append_assoc) (rw c.in-Some.ensures.steps.0 at c.loop-node.invariant.1),
      rw (items, map_push seat_of rs r) new,
      λ x. rw (items, rows) (empty-push (rows_of rs) c.loop-node.invariant.3 x),
    )

pub returns : goal.returns
returns g c =
    let it = c.loop-node.invariant in
    let rest = c.loop-node.node-iterator.rest in
    let nothing : into_iter_items c.loop-node.node-iterator ≡ [] = nil_from_length _ (sym rest.ok.0 ∙ c.in-None.ensures.steps.0) in
    let nodes = rw append-nil at (rw nothing at it.1) in
    record {
      nodes = nodes;
      new = it.2;
      rows = it.3;
      all = sym (length-map c.loop-node.runners.items (λ r. r.node)) ∙ (ap length nodes ∙ sym c.args.nodes.ok.0);
    }
