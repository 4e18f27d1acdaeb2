use Rattle.std.proofs.Common.{ap, inl, inr, refl}
use Rattle.node_recorder.proofs.recorder.NodeRecorder.settle.Goals as goal

pub returns-then-comes_to : goal.returns-then-comes_to
returns-then-comes_to g c =
    let noted = c.note_backlog.ensures in
    let follows = rw noted at c.comes_to.ensures.rest in
    inl (record {
      pages = ap (λ r. r.pages) follows;
      leads = rw noted at (c.comes_to.ensures.leads c.if-comes_to.true);
      stands = c.comes_to.ensures.stands c.if-comes_to.true;
      rest = rw (ap (λ r. r.network) follows, ap (λ r. r.is_rewired) follows, ap (λ r. r.is_lost) follows, c.clear.ensures) refl;
    })

pub returns-else-comes_to : goal.returns-else-comes_to
returns-else-comes_to g c =
    let noted = c.note_backlog.ensures in
    let follows = rw noted at c.comes_to.ensures.rest in
    let network = ap (λ r. r.network) follows in
    inr (record {
      needed = rw noted at (c.comes_to.ensures.elsewhere c.if-comes_to.false);
      pages = rw (network, ap (λ r. r.pages) follows) at c.take_over.ensures.pages;
      stands = c.take_over.ensures.stands;
      rest = rw (network, ap (λ r. r.is_rewired) follows) at c.take_over.ensures.rest;
    })
