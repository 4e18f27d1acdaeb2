use Rattle.std.proofs.Common.{inl, inr}
use Rattle.std.proofs.lemmas.Result.{IfOk-weaker}
use Rattle.record_files.specs.Files.{ArePagesAfter}
use Rattle.record_files.proofs.pages.pages_after.Goals as goal

pub resumed-requires : goal.resumed-requires
resumed-requires c = c.requires

pub new-requires : goal.new-requires
new-requires c = c.requires

pub returns-in-Some : goal.returns-in-Some
returns-in-Some c = inl (rw (c.in-Some.is, c.other.ensures) at c.in_ok-pages.ensures)

pub returns-in-None : goal.returns-in-None
returns-in-None c =
    let left = rw c.in-None.is at c.in_ok-pages.ensures in
    let a = c.args in
    IfOk-weaker _ _ (ArePagesAfter a.size a.earlier a.network a.id a.last.now) (λ _ begins. inr (left, begins)) c.new.ensures
