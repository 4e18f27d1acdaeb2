-- The two links of an edge along its events
use Rattle.std.proofs.Common.{◌≡◌, ℕ, arith}
use Rattle.link_model.specs.declared.item.Item.TheVariants as item
use Rattle.link_model.specs.Acts.{list_after}
pub use Rattle.link_model.proofs.Marks.{IsMarked, marked-start, marked-length, marked-after, IsFirstGood, marked-taken, by_taken}
use Rattle.data_link.specs.Port.{frame_of}
use Rattle.data_link.specs.Edge.{EdgeState, EdgeEvent, edge_step}
use Rattle.data_link.specs.Sweep.{act_out, act_back}

pub out-after : (capacity : ℕ) (s : EdgeState) (e : EdgeEvent) → list_after capacity (item.Frame (frame_of s.near)) (act_out e) s.out ≡ (edge_step capacity s e).out
out-after capacity s e = grind arith

pub back-after : (capacity : ℕ) (s : EdgeState) (e : EdgeEvent) → list_after capacity (item.Frame (frame_of s.far)) (act_back e) s.back ≡ (edge_step capacity s e).back
back-after capacity s e = grind arith
