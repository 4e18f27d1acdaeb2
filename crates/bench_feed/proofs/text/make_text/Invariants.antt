use Rattle.std.proofs.Common.{◌≡◌, ◌*◌, length}
use Rattle.bench_feed.proofs.text.make_text.Given as goal

abbrev pub invariant-loop : goal.invariant-loop
invariant-loop l = length l.text.items ≡ 22 * l.counter
