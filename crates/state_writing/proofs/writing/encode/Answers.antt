use Rattle.std.proofs.Common.{rules, arith, ◌≡◌, ◌≤◌, ◌+◌, ◌-◌, ◌*◌, ◌++◌, ◌∙◌, length, drop}
use Rattle.std.proofs.lemmas.Slice.{overwrites, drop-put_mid, drop-append-drop}
use Rattle.state_writing.proofs.writing.encode.Goals as goal

pub returns-clause-spelling : goal.returns-clause-spelling
returns-clause-spelling g c = search (rules, overwrites)

pub returns-clause-rest : goal.returns-clause-rest
returns-clause-rest g c =
    let n = 4 + 2 * c.len.result in
    let bytes = c.args.bytes.now in
    let word = c.copy_from_slice.new.self in
    let numbers = c.write_u16_into.new.dst in
    let four : length word ≡ 4 = search rules in
    let long : length numbers ≡ n - 4 = search rules in
    let within : 4 ≤ length (word ++ drop 4 bytes) = search rules in
    drop-put_mid 4 (n - 4) (word ++ drop 4 bytes) numbers n (omega arith) within long
    ∙ drop-append-drop 4 bytes word n (omega arith) four
