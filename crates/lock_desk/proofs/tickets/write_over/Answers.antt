use Rattle.std.proofs.Common.{◌∙◌, [], ◌∷◌, ◌++◌, slice_index, sym, ap}
use Rattle.std.proofs.lemmas.List.{take_more, take_all}
use Rattle.lock_desk.proofs.tickets.write_over.Goals as goal

pub loop-ticket-preserved : goal.loop-ticket-preserved
loop-ticket-preserved g c =
    let so_far = c.loop-ticket.invariant in
    let i = c.loop-ticket.ticket-index in (
      c.push_reserved.ensures.items ∙ (ap (λ list. list ++ slice_index c.args.tickets.now i ∷ []) so_far.0
          ∙ sym (take_more c.args.tickets.now i 0 c.loop-ticket-test.true)),
      c.push_reserved.ensures.capacity ∙ so_far.1,
    )

pub returns-clause-tickets : goal.returns-clause-tickets
returns-clause-tickets g c = c.loop-ticket.invariant.0 ∙ take_all c.loop-ticket.ticket-index c.args.tickets.now c.loop-ticket-test.false
