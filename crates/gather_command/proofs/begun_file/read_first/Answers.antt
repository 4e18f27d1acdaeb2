use Rattle.std.proofs.Common.{refl, inl, inr, Ok}
use Rattle.record_pages.specs.Pages.{to_come}
use Rattle.record_pages.specs.declared.stop.Stop.TheVariants as stop
use Rattle.gather_command.specs.Reading.{MayFail}
use Rattle.gather_command.proofs.Files.{fresh, begins, first-stops}
use Rattle.gather_command.proofs.begun_file.read_first.Goals as goal

pub returns-in-Ok-next : goal.returns-in-Ok-next
returns-in-Ok-next g c =
    let rest = g.S.Source.rest in
    let pages = c.in-Ok.pages in
    let left = c.next.new.self in
    let after = to_come (rest left.source) left.page in
    let first = c.in-Ok-next.first in
    let start = c.in_ok-check_start-in-Ok-next.ensures in
    let new = c.in-Ok.ensures in
    record {
      name = refl;
      start = start;
      read = begins (MayFail g.S.Source.failures) (rest c.args.source) first c.args.mark c.args.file.node after left.reader start
          (fresh rest pages.source c.args.source pages.page pages.reader (Ok first) after left.reader new.0 new.1 new.2 c.in-Ok-next.ensures.read);
    }

pub returns-in-Err-End : goal.returns-in-Err-End
returns-in-Err-End g c =
    first-stops g.S.Source.rest g.S.Source.failures _ _ _ _ _ _ _ _ stop.End c.in-Ok.ensures c.in-Err-End.field-0-is c.in-Err-End.ensures.read c.in-Err-End.ensures.cause

pub returns-in-Err-Torn : goal.returns-in-Err-Torn
returns-in-Err-Torn g c = (
  refl,
  inl (first-stops g.S.Source.rest g.S.Source.failures _ _ _ _ _ _ _ _ stop.Torn c.in-Ok.ensures c.in-Err-Torn.field-0-is c.in-Err-Torn.ensures.read c.in-Err-Torn.ensures.cause),
)

pub returns-in-Err-Invalid : goal.returns-in-Err-Invalid
returns-in-Err-Invalid g c = (
  refl,
  inr (inl (first-stops g.S.Source.rest g.S.Source.failures _ _ _ _ _ _ _ _ stop.Invalid c.in-Ok.ensures c.in-Err-Invalid.field-0-is c.in-Err-Invalid.ensures.read c.in-Err-Invalid.ensures.cause)),
)

pub returns : goal.returns
returns g c = (
  refl,
  first-stops g.S.Source.rest g.S.Source.failures _ _ _ _ _ _ _ _ stop.Failed c.in-Ok.ensures c.in-Err-Failed.field-0-is c.in-Err-Failed.ensures.read c.in-Err-Failed.ensures.cause,
)
