use Rattle.std.proofs.Common.{ap, subst, arith, ◌≡◌, ℕ, ◌≤◌, length, List, [], ◌∷◌, ◌++◌, drop, Ok, ◌∙◌}
use Rattle.flight_records.specs.Reading.{entry_at}
use Rattle.flight_records.specs.Laws.{AreRead}
use Rattle.flight_recorder.proofs.Fronts.{read-takes, one-read, left-after, none-left}
use Rattle.flight_recorder.proofs.front.front_of.Goals as goal

pub loop-preserved : goal.loop-preserved
loop-preserved c =
    let i = c.loop.invariant in
    let rest = c.in-Ok.after.now in
    let next : entry_at c.loop.reader c.loop.rest.now ≡ Ok (c.in-Ok.entry, rest) = c.in-Ok.ensures.read in
    let more = one-read 0 c.args.file.now c.loop.rest.now i.0 c.in-Ok.entry rest i.1 (subst (λ (k : ℕ). entry_at k c.loop.rest.now ≡ Ok (c.in-Ok.entry, rest)) i.2 next) in
    let fewer = read-takes c.loop.reader c.loop.rest.now c.in-Ok.entry rest next in (
      i.0 ++ c.in-Ok.entry ∷ [],
      more.0,
      c.in-Ok.ensures.stands ∙ more.1,
      more.1,
      omega (arith, i.4, fewer.0),
      left-after c.pieces_are_read.ensures.most c.loop.reader c.loop.front.count c.args.file.now c.loop.rest.now c.in-Ok.entry rest i.5 next,
      omega (arith, i.6, fewer.0),
    )

pub returns : goal.returns
returns c =
    let i = c.loop.invariant in
    let none : length (drop c.loop.front.count c.args.file.now) ≤ 0 = omega (arith, ap length i.5, i.6, c.loop-test.false) in (
      i.0,
      record {
        within = omega (arith, i.4);
        read = subst (λ (l : List ℕ). AreRead 0 c.args.file.now i.0 l) i.5 i.1;
        last_is = i.3;
        no_more = none-left c.loop.front.last (drop c.loop.front.count c.args.file.now) none;
      },
    )
