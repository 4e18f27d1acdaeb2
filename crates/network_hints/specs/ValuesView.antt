-- What was read from a file, without its place in memory.
use Rattle.network_hints.specs.Values.{FileValues}
use Rattle.network_hints.specs.declared.values.Values.{Values}

-- the values, with the edges as a list
abbrev pub values_view : Values → FileValues
values_view v = record {
  nodes = v.nodes;
  root = v.root;
  capacity = v.capacity;
  lease = v.lease;
  edges = v.edges.items;
}
