use Rattle.std.proofs.Common.{◌≡◌, ◌+◌, ◌-◌, [], length, take, drop, Option, None, Some, IfNone, ap, sym, refl, ◌∙◌, arith}
use Rattle.byte_lines.specs.Kept.{kept}
use Rattle.byte_lines.specs.Lines.{half_after}
use Rattle.std.specs.Option.{option_to_list}
use Rattle.std.proofs.lemmas.List.{drop-take, drop-drop, drop_all, length-drop, length-take-le}
use Rattle.topology.specs.Ranges.{ranges_of}
use Rattle.socket_links.proofs.Flowing.{looks}
use Rattle.socket_links.proofs.link.SocketLink.look.Goals as goal

pub returns-clause-looked : goal.returns-clause-looked
returns-clause-looked g c =
    let l = c.args.self.now in
    let to : l.from + (l.to - l.from) ≡ l.to = let order = l.within.0 in omega (arith, order) in
    let slice : take (l.to - l.from) (drop l.from l.bytes) ≡ drop l.from (take l.to l.bytes) =
    sym (drop-take l.from (l.to - l.from) l.bytes) ∙ ap (λ n. drop l.from (take n l.bytes)) to in
    looks (ranges_of c.args.net.now) l.reader c.next_frame-used.new.self (take (l.to - l.from) (drop l.from l.bytes)) (drop l.from (take l.to l.bytes)) _
    c.next_frame-used.result.0 (option_to_list c.next_frame-used.result.1) slice (drop-drop c.next_frame-used.result.0 l.from (take l.to l.bytes))
    c.next_frame-used.ensures.frames c.next_frame-used.ensures.any_cutting

-- what holds if all was used holds where no frame was said
used_up : {X : Type 0} (said : Option X) (all rest : Type 0) → (all → rest) → IfNone said all → IfNone said rest
used_up None all rest h is = h is
used_up (Some x) all rest h is = tt

pub invariant_of-self : goal.invariant_of-self
invariant_of-self g c =
    let l = c.args.self.now in
    let used = c.next_frame-used.result.0 in
    let slice = take (l.to - l.from) (drop l.from l.bytes) in
    let size = length-take-le (l.to - l.from) (drop l.from l.bytes) (omega (arith, length-drop l.from l.bytes, l.within)) in
    record {
      within = (omega (arith, l.within, size, c.next_frame-used.ensures.used), l.within.1, l.within.2, l.within.3, l.within.4);
      loose = λ none.
          let (reader, same, sent) = l.loose none in
          let unused : used ≡ 0 = omega (arith, same, size, c.next_frame-used.ensures.used) in
          (c.next_frame-used.ensures.frames.half [] reader ∙ ap (λ n. kept 21 (half_after [] (take n slice))) unused, omega (arith, same, unused), sent);
    }

pub returns-clause-all : goal.returns-clause-all
returns-clause-all g c =
    let l = c.args.self.now in
    let used = c.next_frame-used.result.0 in
    let slice = take (l.to - l.from) (drop l.from l.bytes) in
    used_up c.next_frame-used.result.1 (used ≡ length slice) (drop (l.from + used) (take l.to l.bytes) ≡ [])
    (λ (all : used ≡ length slice).
    let size = length-take-le (l.to - l.from) (drop l.from l.bytes) (omega (arith, length-drop l.from l.bytes, l.within)) in
    let whole = length-take-le l.to l.bytes (omega (arith, l.within)) in
    drop_all (l.from + used) (take l.to l.bytes) (omega (arith, l.within, all, size, whole))) c.next_frame-used.ensures.all

pub returns-clause-unsent : goal.returns-clause-unsent
returns-clause-unsent g c = refl

pub slice_bounds-next_frame-count : goal.slice_bounds-next_frame-count
slice_bounds-next_frame-count g c = c.args.self.now.within.0
