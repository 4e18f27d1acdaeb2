use Rattle.std.proofs.Common.{arith, ◌≡◌, suc, ◌+◌, ◌-◌, ◌*◌, ◌∙◌, ap, sym, [], ◌∷◌, ◌++◌, length, take, drop, length-append}
use Rattle.std.proofs.lemmas.List.{length-drop, take_all}
use Rattle.node_state_file.specs.Reading.{port_in, ports_in}
use Rattle.node_state_file.proofs.Ports.{one_more}
use Rattle.node_state_file.proofs.reading.read_ports.Goals as goal

pub loop-at-preserved : goal.loop-at-preserved
loop-at-preserved c =
    let at = c.loop-at.at in
    let bytes = c.args.bytes.now in
    let (are, long) = c.loop-at.invariant in
    let rest : take (length bytes - 20 * at) (drop (20 * at) bytes) ≡ drop (20 * at) bytes =
    take_all (length bytes - 20 * at) (drop (20 * at) bytes) (omega (arith, length-drop (20 * at) bytes)) in
    let next : ports_in (suc at) bytes ≡ ports_in (at + 1) bytes = ap (λ k. ports_in k bytes) {x = suc at} {y = at + 1} (omega arith) in (
      c.push.ensures.items ∙ ap (λ ps. ps ++ c.read.result ∷ []) are ∙ ap (λ p. ports_in at bytes ++ p ∷ []) (c.read.ensures ∙ ap port_in rest) ∙ sym (one_more at bytes) ∙ next,
      rw c.push.ensures.items (omega (arith, long, length-append c.loop-at.ports.items (c.read.result ∷ []))),
    )
