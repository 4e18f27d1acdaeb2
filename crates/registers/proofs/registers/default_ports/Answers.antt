use Rattle.std.proofs.Common.{arith, ◌≡◌, ◌∙◌, ℕ, ◌+◌, ◌++◌, [], ◌∷◌, List, ap, length, replicate}
use Rattle.std.proofs.lemmas.List.{length-replicate, replicate_more}
use Rattle.std.proofs.lemmas.Result.{IfOk-from_err}
use Rattle.registers.proofs.registers.default_ports.Goals as goal

-- one more of the same at the end
one_more : {X : Type 0} (xs : List X) (n : ℕ) (x y : X) → xs ≡ replicate n x → y ≡ x → xs ++ y ∷ [] ≡ replicate (n + 1) x
one_more xs n x y are is = rw (are, is) (replicate_more n x)

length_made : {X : Type 0} (xs : List X) (n : ℕ) (x : X) → xs ≡ replicate n x → length xs ≡ n
length_made xs n x are = ap length are ∙ length-replicate n x

as_many : {X : Type 0} (xs : List X) (n m : ℕ) (x : X) → xs ≡ replicate n x → n ≡ m → xs ≡ replicate m x
as_many xs n m x are is = are ∙ ap (λ k. replicate k x) is

pub returns-in_err-ports : goal.returns-in_err-ports
returns-in_err-ports g c = IfOk-from_err _ _ c.from_residual.ensures.0

pub loop-init : goal.loop-init
loop-init g c = (c.in_ok-ports.ensures.items, omega (arith, c.in_ok-ports.ensures.capacity, c.from.ensures, c.nodes.ensures.nodes))

pub push_reserved-requires : goal.push_reserved-requires
push_reserved-requires g c =
    omega (arith, length_made c.loop.ports.items c.loop.counter _ c.loop.invariant.0, c.loop.ports.ok.0, c.loop.invariant.1, c.loop-test.true, c.nodes-end.ensures.nodes)

pub loop-preserved : goal.loop-preserved
loop-preserved g c =
    (c.push_reserved.ensures.items ∙ one_more c.loop.ports.items c.loop.counter _ c.new.result c.loop.invariant.0 c.new.ensures, omega (arith, c.push_reserved.ensures.capacity, c.loop.invariant.1))

pub returns : goal.returns
returns g c =
    let all : c.loop.counter ≡ c.args.net.now.nodes = omega (arith, c.loop-test.false, c.loop.auto.counter-end, c.nodes-end.ensures.nodes) in
    as_many c.loop.ports.items c.loop.counter _ _ c.loop.invariant.0 all
