use Rattle.byte_streams.proofs.Reading.{pieces_make_the_text}
use Rattle.byte_streams.proofs.laws.reading_in_pieces.Goals as goal

pub returns : goal.returns
returns c = pieces_make_the_text
