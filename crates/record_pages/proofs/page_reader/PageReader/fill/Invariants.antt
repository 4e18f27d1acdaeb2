use Rattle.std.proofs.Common.{◌≡◌, ◌≤◌, length}
use Rattle.record_pages.specs.Pages.{to_come}
use Rattle.record_pages.proofs.page_reader.PageReader.fill.Given as goal

abbrev pub invariant-loop : goal.invariant-loop
invariant-loop g l =
    (to_come (g.S.Source.rest l.self.source) l.self.page ≡ to_come (g.S.Source.rest l.fn.self.source) l.fn.self.page)
    × (l.counter ≤ length l.self.page) × (l.self.reader ≡ l.fn.self.reader)
    × (g.S.Source.failures l.fn.self.source ≤ g.S.Source.failures l.self.source)
