use Rattle.std.proofs.Common.{arith}
use Rattle.topology.proofs.Changed.{joined_after_join, joined_after_part, length_without, others_at_join, others_at_part}
use Rattle.topology.proofs.Accepting.{joined_accepted, parted_accepted, connected_test, frame_test}
use Rattle.topology.proofs.laws.changes.Goals as goal

pub returns : goal.returns
returns c = record {
  joined = joined_accepted;
  parted = parted_accepted;
  connected = connected_test;
  who_is_joined = λ net u v a b. joined_after_join net.edges u v a b;
  who_is_parted = λ net u v a b. joined_after_part net.edges u v a b;
  one_less = λ net u v ok joined. omega (arith, length_without net.edges u v ok.limits.no_double joined);
  others_at_join = others_at_join;
  others_at_part = others_at_part;
  frame = frame_test;
}
