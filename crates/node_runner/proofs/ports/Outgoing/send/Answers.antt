use Rattle.std.proofs.Common.{◌-◌, [], ◌∷◌, length, arith, length-append, ap}
use Rattle.std.proofs.lemmas.Grind.{common_steps}
use Rattle.rtrb.specs.Ring.{received, known_free}
use Rattle.node_runner.specs.Ports.{stamped}
use Rattle.node_runner.proofs.Spends.{Spends, spends-more}
use Rattle.node_runner.proofs.ports.Outgoing.send.Goals as goal

pub returns-clause-sent : goal.returns-clause-sent
returns-clause-sent g c = λ capacity old sends was.
    let f = capacity - length old in
    let one = stamped c.in_ok-stamp.stamp c.args.item in
    let it = c.in_ok-stamp.ensures in
    let before : Spends f c.args.self.now.free sends (received c.args.self.now.places) = record { spent = was.spent; first = was.first; later = was.later } in
    let after = spends-more f c.args.self.now.free c.spend.new.self.free sends one (received c.args.self.now.places) (received c.spend.new.self.places) before it.first it.back in
    record {
      sent = let at = c.push_reserved.ensures.sent.0 in let same = it.frames in let was_sent = was.sent in let looked = c.is_full.ensures.looked.1 in grind (arith, common_steps);
      spent = after.spent;
      first = after.first;
      later = after.later;
      room = let at = c.push_reserved.ensures.sent.1 in let looked = c.is_full.ensures.looked.2 in let r = was.room in let n = length-append sends (one ∷ []) in let same = ap known_free it.frames in omega arith;
    }
