use Rattle.std.proofs.Common.{rules, ◌≡◌, ◌+◌, ◌++◌, Some, take, drop, length, ◌-◌, ◌≤◌, arith, ap, sym, refl, ◌∙◌, length-append}
use Rattle.std.proofs.Math.Seq.{take-add}
use Rattle.std.proofs.lemmas.List.{take_at, length-take-le, length-drop}
use Rattle.socket_links.proofs.memory.MemoryPipePipe.try_read.Goals as goal

pub returns-clause-reads : goal.returns-clause-reads
returns-clause-reads g c =
    let n = c.min-count.result in
    let at = c.args.self.now.given in
    let xs = c.args.self.now.input.now in
    let more : take (at + n) xs ≡ take at xs ++ take n (drop at xs) = take-add at n xs in
    let fits : n ≤ length c.args.buffer.now = omega arith in
    let len : length c.copy_from_slice.new.self ≡ n = c.copy_from_slice.ensures.len ∙ length-take-le n c.args.buffer.now fits in
    let whole : take n (c.copy_from_slice.new.self ++ drop n c.args.buffer.now) ≡ c.copy_from_slice.new.self =
    take_at c.copy_from_slice.new.self (drop n c.args.buffer.now) n len in
    let read : take n (drop at xs) ≡ c.copy_from_slice.new.self = sym (c.copy_from_slice.ensures.after ∙ ap (λ k. take k (drop at xs)) (omega arith)) in (
      omega arith,
      omega (arith, fits, len, length-drop n c.args.buffer.now, length-append c.copy_from_slice.new.self (drop n c.args.buffer.now)),
      ap Some (rw (whole, ← read) more),
      search rules,
    )

pub invariant_of-self-2 : goal.invariant_of-self-2
invariant_of-self-2 g c =
    let l = c.args.self.now in
    let given : l.given + c.min-count.result ≤ length l.input.now = omega arith in
    record { within = (given, l.within.1) }

pub copy_from_slice-requires : goal.copy_from_slice-requires
copy_from_slice-requires g c =
    let n = c.min-count.result in
    let at = c.args.self.now.given in
    let into = length-take-le n c.args.buffer.now (omega arith) in
    let left = length-drop at c.args.self.now.input.now in
    let from = length-take-le (at + n - at) (drop at c.args.self.now.input.now) (omega (arith, left)) in
    omega (arith, into, from)

pub returns-clause-len : goal.returns-clause-len
returns-clause-len g c =
    let n = c.min-count.result in
    let put = c.copy_from_slice.ensures.len ∙ length-take-le n c.args.buffer.now (omega arith) in
    let kept = length-drop n c.args.buffer.now in
    let both = length-append c.copy_from_slice.new.self (drop n c.args.buffer.now) in
    omega (arith, put, kept, both)

pub returns-clause-took : goal.returns-clause-took
returns-clause-took g c = refl
