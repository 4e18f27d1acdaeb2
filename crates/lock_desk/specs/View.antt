-- What contracts see of a desk.
use Rattle.std.specs.Prelude.{ℕ}
use Rattle.lock_desk.specs.Desk.{DeskState}

-- a desk as its owner sees it: how many ticks a loan is for (0 means no limit), and the state
pub record DeskView : Type 0 where
  pub lease : ℕ
  pub state : DeskState
