use Rattle.weaving.specs.Journals.{entries_in, unread, IsFirst}
use Rattle.weaving.proofs.woven.first_unread.Given as goal

-- the first of the next entries of the nodes so far
abbrev pub invariant-loop-node : goal.invariant-loop-node
invariant-loop-node g l = IsFirst (unread (entries_in l.fn.journals) l.fn.read) l.node l.first
