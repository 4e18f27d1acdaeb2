use Rattle.std.proofs.Common.{rules, arith, ◌≡◌, codes, refl}
use Rattle.std.proofs.lemmas.Slice.Eq.{text_from_reads}
use Rattle.lock_desk.proofs.client.known.Goals as goal

pub returns-in-unlock : goal.returns-in-unlock
returns-in-unlock c =
    let e : c.args.line.now ≡ codes "unlock" = text_from_reads c.args.line.now (codes "unlock") (omega arith) (search rules) in rw e refl

pub returns-in-status : goal.returns-in-status
returns-in-status c =
    let e : c.args.line.now ≡ codes "status" = text_from_reads c.args.line.now (codes "status") (omega arith) (search rules) in rw e refl

pub returns-in-lock : goal.returns-in-lock
returns-in-lock c =
    let e : c.args.line.now ≡ codes "lock" = text_from_reads c.args.line.now (codes "lock") (omega arith) (search rules) in rw e refl
