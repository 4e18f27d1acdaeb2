use Rattle.std.proofs.Common.{rules, ◌++◌, codes, arith}
use Rattle.byte_streams.specs.Streams.{Takes}
use Rattle.command_parts.specs.schedules.damage_tool.Draws.{draw_junk}
use Rattle.subcommands.proofs.JunkLines.{line_more}
use Rattle.subcommands.proofs.junk.write_junk.Goals as goal

pub loop-line-preserved : goal.loop-line-preserved
loop-line-preserved g c =
    let so_far = c.loop-line.invariant in
    let took : Takes ((draw_junk c.loop-line.generator).0 ++ codes "\n") (g.W.Sink.taken c.loop-line.sink) (g.W.Sink.taken c.write_line.new.sink) = search rules in
    let before = so_far.1 in
    let grows = c.write_line.ensures.grows in
    (line_more c.args.lines c.loop-line._line c.args.seed c.loop-line.generator c.write_line.new.generator _ _ _ c.loop-line-test.true so_far.0 took c.write_line.ensures.generator, omega (arith, before, grows))
