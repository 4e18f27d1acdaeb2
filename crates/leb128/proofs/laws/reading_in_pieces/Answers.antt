use Rattle.leb128.proofs.InPieces.{number-kept, row-kept, number-most, row-most}
use Rattle.leb128.proofs.laws.reading_in_pieces.Goals as goal

pub returns : goal.returns
returns c = record { one = number-kept; row = row-kept; one_most = number-most; row_most = row-most }
