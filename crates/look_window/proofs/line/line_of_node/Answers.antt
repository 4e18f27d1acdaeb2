use Rattle.look_window.proofs.line.line_of_node.Goals as goal

pub returns-clause-line : goal.returns-clause-line
returns-clause-line g c =
    rw (
      c.status_of.ensures,
      c.as_slice.ensures.value,
      c.in_ok-links.ensures,
      c.neighbours.ensures,
      c.of.ensures,
      c.loans.ensures,
      c.of-2.ensures,
      c.turns.ensures,
      c.limit.ensures,
      c.rounds.ensures,
    ) at c.look_line.ensures
