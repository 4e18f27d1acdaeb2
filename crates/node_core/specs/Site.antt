-- What a node knows of its network: nothing of any other node but its neighbours' ids.
use Rattle.std.specs.Prelude.{ℕ, Bool, ◌==◌, List}
use Rattle.registers.specs.topology.Network.{Network, neighbours_of}
use Rattle.registers.specs.topology.Ranges.{ranges_of}
use Rattle.registers.specs.topology.declared.frame.Ranges.{Ranges}

-- a node's id, whether it is the root, the ranges of its fields, the length of a loan, and its
-- neighbours, ascending
pub record Site : Type 0 where
  pub id : ℕ
  pub is_root : Bool
  pub ranges : Ranges
  pub lease : ℕ
  pub neighbours : List ℕ

-- the site of node v
abbrev pub site_of : Network → ℕ → Site
site_of net v = record {
  id = v;
  is_root = v == net.root;
  ranges = ranges_of net;
  lease = net.lease;
  neighbours = neighbours_of net v;
}
