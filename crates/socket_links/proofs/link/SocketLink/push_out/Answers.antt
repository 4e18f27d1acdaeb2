use Rattle.std.proofs.Common.{◌≤◌, ◌∙◌, drop, length, sym, refl, inr, arith}
use Rattle.std.proofs.lemmas.List.{drop_all, drop-drop}
use Rattle.socket_links.specs.Links.{waiting}
use Rattle.socket_links.proofs.Flowing.{rest_of, written_on}
use Rattle.socket_links.proofs.link.SocketLink.push_out.Goals as goal

pub returns-in-Done-clause-pushed : goal.returns-in-Done-clause-pushed
returns-in-Done-clause-pushed g c =
    let l = c.args.self.now in
    let wrote = rw (c.in-Done.is, rest_of l.line l.sent) at c.write_line-count.ensures.wrote in
    let on = written_on g.P.Pipe.gave g.P.Pipe.took l.pipe c.in-Some.pipe c.write_line-count.new.pipe c.in-Some.is l.line l.sent c.write_line-count.result.0 l.reader (waiting l) wrote.0 c.write_line-count.ensures.gave in
    let count = c.write_line-count.result.0 in
    let all : length (drop l.sent l.line) ≤ count = let n = wrote.1 in omega (arith, n) in
    (on.0, on.1, sym (drop-drop count l.sent l.line) ∙ drop_all count (drop l.sent l.line) all, rw c.in-Some.is refl)

pub returns-in-Later-clause-pushed : goal.returns-in-Later-clause-pushed
returns-in-Later-clause-pushed g c =
    let l = c.args.self.now in
    let wrote = rw (c.in-Later.is, rest_of l.line l.sent) at c.write_line-count.ensures.wrote in
    let on = written_on g.P.Pipe.gave g.P.Pipe.took l.pipe c.in-Some.pipe c.write_line-count.new.pipe c.in-Some.is l.line l.sent c.write_line-count.result.0 l.reader (waiting l) wrote.0 c.write_line-count.ensures.gave in
    (on.0, on.1, rw c.in-Some.is wrote.1)

pub returns-in-Broken-clause-pushed : goal.returns-in-Broken-clause-pushed
returns-in-Broken-clause-pushed g c =
    let wrote = rw c.in-Broken.is at c.write_line-count.ensures.wrote in
    (rw c.in-Some.is (c.write_line-count.new.pipe, inr wrote.1), c.let_go.ensures.0, c.let_go.ensures.1)
