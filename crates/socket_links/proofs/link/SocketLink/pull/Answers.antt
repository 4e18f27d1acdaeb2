use Rattle.std.proofs.Common.{◌≡◌, ◌<◌, [], ◌∷◌, ◌∙◌, length, take, sym, refl, inl, inr, None, Some, arith}
use Rattle.std.proofs.lemmas.List.{length-take-le}
use Rattle.topology.specs.Ranges.{ranges_of}
use Rattle.socket_links.specs.Links.{waiting, unsent}
use Rattle.socket_links.proofs.Flowing.{pulls_look, pushes_look, pulls_later, pushes_none, flows_got, gave_bytes, asked, no_frame}
use Rattle.socket_links.proofs.link.SocketLink.pull.Goals as goal

pub returns-in_default-pipe-clause-pulled : goal.returns-in_default-pipe-clause-pulled
returns-in_default-pipe-clause-pulled g c =
    let r = ranges_of c.args.net.now in
    let l = c.args.self.now in
    let was : l.pipe ≡ None = sym c.look.ensures.pipe ∙ c.in_default-pipe.is in (
      pulls_look r g.P.Pipe.gave g.P.Pipe.took g.P.Pipe.counts l c.look.new.self [] c.in_default.ensures.pipe c.in_default.ensures.looked,
      pushes_look r g.P.Pipe.gave g.P.Pipe.took g.P.Pipe.counts l c.look.new.self c.in_default.ensures.pipe c.in_default.ensures.unsent,
      c.in_default.ensures.all,
      rw was c.in_default-pipe.is,
    )

pub returns-in-Later-clause-pulled : goal.returns-in-Later-clause-pulled
returns-in-Later-clause-pulled g c =
    let r = ranges_of c.args.net.now in
    let l = c.args.self.now in
    let q = c.try_read.new.self in
    let mid = c.look.new.self in
    let was : l.pipe ≡ Some c.in-Some-pipe.pipe = sym c.look.ensures.pipe ∙ c.in-Some-pipe.is in
    let reads = c.in-Later.ensures.reads in (
      pulls_later g.P.Pipe.gave g.P.Pipe.took l.pipe c.in-Some-pipe.pipe q was reads.0 r l.reader mid.reader (waiting l) (waiting mid)
          c.in_default.ensures.looked c.in_default.ensures.all,
      pushes_none g.P.Pipe.gave g.P.Pipe.took l.pipe c.in-Some-pipe.pipe q was c.try_read.ensures.took (unsent l) (unsent mid) c.in_default.ensures.unsent,
      refl,
      rw was (inl reads.2),
    )

pub returns-in-Some-look-clause-pulled : goal.returns-in-Some-look-clause-pulled
returns-in-Some-look-clause-pulled g c =
    let l = c.args.self.now in
    let was : l.pipe ≡ Some c.in-Some-pipe.pipe = sym c.look.ensures.pipe ∙ c.in-Some-pipe.is in
    let flows =
    flows_got (ranges_of c.args.net.now) g.P.Pipe.gave g.P.Pipe.took g.P.Pipe.counts l c.look-in-Got.new.self c.in-Some-pipe.pipe c.try_read.new.self was c.look-in-Got.ensures.pipe c.look.new.self.reader
    (waiting c.look.new.self) (take c.in-Got.count c.try_read.new.buffer) (c.in-Some-look.frame ∷ []) c.in-Got.ensures.reads.2 c.in_default.ensures.looked c.in_default.ensures.all
    c.in-Some-look.ensures.looked c.try_read.ensures.took (c.look-in-Got.ensures.unsent ∙ c.in_default.ensures.unsent) in
    (flows.0, flows.1, rw c.look-in-Got.ensures.pipe refl)

pub returns-in-None-clause-pulled : goal.returns-in-None-clause-pulled
returns-in-None-clause-pulled g c =
    let r = ranges_of c.args.net.now in
    let l = c.args.self.now in
    let q = c.try_read.new.self in
    let new = c.look-in-Got.new.self in
    let was : l.pipe ≡ Some c.in-Some-pipe.pipe = sym c.look.ensures.pipe ∙ c.in-Some-pipe.is in
    let reads = c.in-Got.ensures.reads in
    let bytes = take c.in-Got.count c.try_read.new.buffer in
    let len : length bytes ≡ c.in-Got.count = length-take-le c.in-Got.count c.try_read.new.buffer reads.1 in
    let some : 0 < length bytes = omega (arith, len, reads.0) in
    let flows =
    flows_got r g.P.Pipe.gave g.P.Pipe.took g.P.Pipe.counts l new c.in-Some-pipe.pipe q was c.look-in-Got.ensures.pipe c.look.new.self.reader
    (waiting c.look.new.self) bytes [] reads.2 c.in_default.ensures.looked c.in_default.ensures.all c.in-None.ensures.looked
    c.try_read.ensures.took (c.look-in-Got.ensures.unsent ∙ c.in_default.ensures.unsent) in (
      flows.0,
      flows.1,
      c.in-None.ensures.all,
      asked l.pipe c.in-Some-pipe.pipe _ _ was (inr (gave_bytes r g.P.Pipe.gave g.P.Pipe.took g.P.Pipe.counts l new c.in-Some-pipe.pipe q was c.look-in-Got.ensures.pipe bytes some reads.2)),
    )

pub returns-in-Closed-clause-pulled : goal.returns-in-Closed-clause-pulled
returns-in-Closed-clause-pulled g c =
    let was : c.args.self.now.pipe ≡ Some c.in-Some-pipe.pipe = sym c.look.ensures.pipe ∙ c.in-Some-pipe.is in
    (rw was (c.try_read.new.self, inl c.in-Closed.ensures.reads.2), c.let_go.ensures.0, c.let_go.ensures.1)

pub returns-in-Failed-clause-pulled : goal.returns-in-Failed-clause-pulled
returns-in-Failed-clause-pulled g c =
    let was : c.args.self.now.pipe ≡ Some c.in-Some-pipe.pipe = sym c.look.ensures.pipe ∙ c.in-Some-pipe.is in
    (rw was (c.try_read.new.self, inr c.in-Failed.ensures.reads.2), c.let_go-in-Failed.ensures.0, c.let_go-in-Failed.ensures.1)

pub returns-in_default-pipe-clause-kept_first : goal.returns-in_default-pipe-clause-kept_first
returns-in_default-pipe-clause-kept_first g c = λ half is some.
    absurd (some (no_frame _ c.args.self.now.reader c.look.new.self.reader _ _ c.in_default.ensures.looked c.in_default.ensures.all half is))

pub returns-in-Some-look-clause-kept_first : goal.returns-in-Some-look-clause-kept_first
returns-in-Some-look-clause-kept_first g c = λ half is some.
    absurd (some (no_frame _ c.args.self.now.reader c.look.new.self.reader _ _ c.in_default.ensures.looked c.in_default.ensures.all half is))

pub returns-in-None-clause-kept_first : goal.returns-in-None-clause-kept_first
returns-in-None-clause-kept_first g c = λ half is some.
    absurd (some (no_frame _ c.args.self.now.reader c.look.new.self.reader _ _ c.in_default.ensures.looked c.in_default.ensures.all half is))

pub returns-in-Later-clause-kept_first : goal.returns-in-Later-clause-kept_first
returns-in-Later-clause-kept_first g c = λ half is some.
    absurd (some (no_frame _ c.args.self.now.reader c.look.new.self.reader _ _ c.in_default.ensures.looked c.in_default.ensures.all half is))

pub returns-in-Closed-clause-kept_first : goal.returns-in-Closed-clause-kept_first
returns-in-Closed-clause-kept_first g c = λ half is some.
    absurd (some (no_frame _ c.args.self.now.reader c.look.new.self.reader _ _ c.in_default.ensures.looked c.in_default.ensures.all half is))

pub returns-in-Failed-clause-kept_first : goal.returns-in-Failed-clause-kept_first
returns-in-Failed-clause-kept_first g c = λ half is some.
    absurd (some (no_frame _ c.args.self.now.reader c.look.new.self.reader _ _ c.in_default.ensures.looked c.in_default.ensures.all half is))
