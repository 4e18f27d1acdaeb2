use Rattle.std.proofs.Common.{◌≡◌, ◌∙◌, ap, arith, replicate, [], List, ℕ}
use Rattle.gather_command.proofs.delays.Delays.new.Goals as goal

pub returns : goal.returns
returns c =
    let end = c.loop-place-test.false in
    let within = c.loop-place.auto.place-end in
    let all : c.loop-place.place ≡ 4096 = omega (arith, end, within) in
    ap (λ (links : List (List ℕ)). record { links = links; longest = 0 }) (c.loop-place.invariant ∙ ap (λ (n : ℕ). replicate n []) all)
