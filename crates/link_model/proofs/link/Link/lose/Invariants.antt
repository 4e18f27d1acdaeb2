use Rattle.std.proofs.Common.{◌≡◌, ◌≤◌, ◌++◌, length, take, drop, remove}
use Rattle.link_model.proofs.link.Link.lose.Given as goal

-- the items that were not yet taken, and then those that were put back
abbrev pub invariant-loop-place : goal.invariant-loop-place
invariant-loop-place g l = record {
  turned : l.self-inside.items.items ≡ drop l.place l.fn.self.items ++ remove (take l.place l.fn.self.items) l.index;
  capacity : l.self-inside.items.capacity ≡ l.fn.self.capacity;
  fits : length l.self-inside.items.items ≤ l.fn.self.capacity;
  count : l.count ≡ length l.fn.self.items;
}
