use Rattle.k_state.proofs.Ages.{age-of_start, age-moved, same-age, ages-stay, falling-front, ages-good}
use Rattle.k_state.proofs.laws.ages.Goals as goal

pub returns : goal.returns
returns c = record {
  start = age-of_start;
  apart = same-age;
  next = age-moved;
  stay = λ q start moves old new r h l. ages-stay q start r h l;
  front = falling-front;
  turn_good = λ q start moves old new r i h l. ages-good q start r i h l;
}
