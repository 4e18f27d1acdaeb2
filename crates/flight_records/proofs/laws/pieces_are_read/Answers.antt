use Rattle.flight_records.proofs.InPieces.{entry-kept, entry-most, entry-begun}
use Rattle.flight_records.proofs.laws.pieces_are_read.Goals as goal

pub returns : goal.returns
returns c =
    let law = c.reading_in_pieces.ensures in
    record { kept = entry-kept law; most = entry-most law; begun = entry-begun law }
