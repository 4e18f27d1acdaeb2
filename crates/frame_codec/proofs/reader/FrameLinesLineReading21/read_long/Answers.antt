use Rattle.std.proofs.Common.{sym}
use Rattle.frame_codec.proofs.TooLong.{too_long_unread}
use Rattle.frame_codec.proofs.reader.FrameLinesLineReading21.read_long.Goals as goal

pub returns : goal.returns
returns c = λ line long first. sym (too_long_unread c.args.self.now.0 line long)
