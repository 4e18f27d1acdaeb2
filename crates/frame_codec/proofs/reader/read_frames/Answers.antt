use Rattle.std.proofs.Common.{◌++◌, ◌∙◌, ap, arith}
use Rattle.std.specs.Option.{option_to_list}
use Rattle.frame_codec.proofs.SaidFrames.{read_more, room_left}
use Rattle.frame_codec.proofs.reader.read_frames.Goals as goal

pub put-requires : goal.put-requires
put-requires g c =
    let room = room_left c.args.lines.now.0 c.any_cutting.ensures c.args.half.now c.loop-rest.half c.take-used.new.self c.args.piece.now c.loop-rest.rest.now
    c.take-used.result.used c.args.out.now.items c.loop-rest.out.items c.take-used.result.line c.loop-rest.invariant.read c.take-used.ensures.reads c.requires.some in
    rw c.flatten.ensures (omega (arith, room, c.requires.room, c.loop-rest.invariant.room))

pub loop-rest-preserved : goal.loop-rest-preserved
loop-rest-preserved g c =
    let read = read_more c.args.lines.now.0 c.any_cutting.ensures c.args.half.now c.loop-rest.half c.take-used.new.self c.args.piece.now c.loop-rest.rest.now
    c.take-used.result.used c.args.out.now.items c.loop-rest.out.items c.take-used.result.line c.loop-rest.invariant.read c.take-used.ensures.reads in
    record {
      read = read c.put.new.out.items (c.put.ensures.items ∙ ap (λ said. c.loop-rest.out.items ++ option_to_list said) c.flatten.ensures);
      room = c.put.ensures.room.1 ∙ c.loop-rest.invariant.room;
    }
