use Rattle.std.proofs.Common.{rules, arith, ap, sym, subst, refl, ◌≡◌, ◌∙◌, ◌<◌, length, take_all}
use Rattle.std.proofs.lemmas.List.{length-map, length-set, get_or_default}
use Rattle.node_runner.specs.weaving.declared.journal.Journal.{Journal}
use Rattle.node_runner.specs.declared.runner.Runner.{Runner}
use Rattle.thread_net.specs.Cables.{seat_of, seats_of}
use Rattle.thread_net.specs.Seats.{AreShort, entry_room, degree_of}
use Rattle.judge.specs.node_core.View.{site_in}
use Rattle.thread_net.proofs.Maps.{map_set_same}
use Rattle.thread_net.proofs.Starting.{short-at, total-at, new-set, room-set}
use Rattle.thread_net.proofs.seats.reserve_journals.Goals as goal

pub entry_room-room-requires : goal.entry_room-room-requires
entry_room-room-requires g c =
    let rs = c.loop-place.runners.items in
    let within : c.loop-place.place < length rs = search (rules, arith) in
    let few = short-at rs c.loop-place.place c.index.result.now within c.index.ensures (subst AreShort (sym c.loop-place.invariant.1) c.requires.short) in
    let same = ap length c.neighbours.ensures in
    omega arith

pub loop-place-preserved : goal.loop-place-preserved
loop-place-preserved g c =
    let rs = c.loop-place.runners.items in
    let k = c.loop-place.place in
    let r = c.index_mut.result.now in
    let journal : Journal _ = record { entries = c.in_ok-entries.entries } in
    let changed : Runner _ = record r { journal = journal } in
    let within : k < length rs = search (rules, arith) in
    let at = c.index_mut.ensures.value in
    let it = c.loop-place.invariant in
    let node : c.index.result.now.node ≡ r.node = ap (λ q. q.node) (c.index.ensures ∙ (get_or_default rs k c.index.result.now r within ∙ sym at)) in
    let size : c.entry_room-room.result ≡ entry_room c.args.turns (degree_of r.node) =
    c.entry_room-room.ensures.room ∙ ap (λ ns. entry_room c.args.turns (length ns)) (c.neighbours.ensures ∙ ap (λ n. (site_in n).neighbours) node) in
    let exact = c.in_ok-entries.ensures.exact in
    let few = c.entry_room-room.ensures.few in
    let next = rw it.1 at (total-at rs k r within at c.args.turns) in (
      length-set rs k changed ∙ it.0,
      map_set_same (λ r. r.node) rs k r changed at refl ∙ it.1,
      map_set_same (λ r. r.ports.items) rs k r changed at refl ∙ it.2,
      new-set rs k r within at journal c.in_ok-entries.ensures.items it.3,
      room-set rs k r within at journal c.args.turns (omega arith) it.4,
      omega (arith, it.5, next, size),
      omega (arith, it.6, few),
    )

pub returns-clause-room : goal.returns-clause-room
returns-clause-room g c =
    let many = length-map c.loop-place.runners.items seat_of in
    rw (take_all c.loop-place.place (seats_of c.loop-place.runners.items) (search (rules, arith))) at c.loop-place.invariant.4
