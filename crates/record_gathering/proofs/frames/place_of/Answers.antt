use Rattle.std.proofs.Common.{◌≡◌, ◌∙◌, sym, false}
use Rattle.configuration.specs.ConfigurationView.{world_of}
use Rattle.record_gathering.specs.Frames.{is_frame}
use Rattle.record_gathering.proofs.Places.{place-here, is-here, place-further, is-further}
use Rattle.record_gathering.proofs.frames.place_of.Goals as goal

pub returns-then-is_frame-clause-in_front : goal.returns-then-is_frame-clause-in_front
returns-then-is_frame-clause-in_front g c =
    sym (place-here _ _ _ _ c.item.ensures c.loop-index.invariant.in_front c.loop-index.invariant.is_there (sym c.is_frame.ensures ∙ c.if-is_frame.true))

pub returns-then-is_frame-clause-is_there : goal.returns-then-is_frame-clause-is_there
returns-then-is_frame-clause-is_there g c =
    sym (is-here _ _ _ _ c.item.ensures c.loop-index.invariant.in_front c.loop-index.invariant.is_there (sym c.is_frame.ensures ∙ c.if-is_frame.true))

pub loop-index-preserved : goal.loop-index-preserved
loop-index-preserved g c =
    let h = c.loop-index.invariant in
    let f = c.args.passage.now.frame in
    let items = (world_of c.args.world.now).link c.args.passage.now.from c.args.passage.now.to in
    let other : is_frame f c.item.result ≡ false = sym c.is_frame.ensures ∙ c.if-is_frame.false in
    record {
      in_front = place-further f items c.loop-index.index c.item.result c.item.ensures h.in_front h.is_there other;
      is_there = is-further f items c.loop-index.index c.item.result c.item.ensures h.in_front h.is_there other;
    }
