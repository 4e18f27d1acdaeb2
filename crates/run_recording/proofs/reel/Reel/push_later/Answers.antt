use Rattle.std.proofs.Common.{◌≡◌, ◌∙◌, ap, inl, length, rules, arith}
use Rattle.run_recording.specs.Stills.{with_last}
use Rattle.run_recording.proofs.Stills.{stands_last, stands_new, written_back}
use Rattle.run_recording.proofs.reel.Reel.push_later.Goals as goal

pub returns-then-ends_like-clause-shows : goal.returns-then-ends_like-clause-shows
returns-then-ends_like-clause-shows g c =
    λ moments h.
    let m = c.args.moment.now in
    let now = rw (← c.self.view_is) at h in
    let may = rw c.as_slice.ensures.value at (c.ends_like.ensures c.if-ends_like.true) in
    let is = c.join_last.ensures ∙ ap (λ xs. with_last xs m) c.as_mut_slice.ensures.value in
    let all : c.self.inside.stills.len ≡ length c.self.inside.stills.items = search (rules, arith) in
    rw (written_back _ _ _ m all is) (stands_last _ moments _ m (inl may) now)

pub returns-then-takes-clause-shows : goal.returns-then-takes-clause-shows
returns-then-takes-clause-shows g c =
    λ moments h.
    let m = c.args.moment.now in
    let now = rw (← c.self.view_is) at h in
    let may = rw (← c.self.view_is) at (c.takes.ensures c.if-takes.true) in
    let is = c.join_last-then-takes.ensures ∙ ap (λ xs. with_last xs m) c.as_mut_slice-then-takes.ensures.value in
    let all : c.self.inside.stills.len ≡ length c.self.inside.stills.items = search (rules, arith) in
    rw (written_back _ _ _ m all is) (stands_last _ moments _ m may now)

pub returns-else-takes-clause-shows : goal.returns-else-takes-clause-shows
returns-else-takes-clause-shows g c =
    λ moments h.
    let m = c.args.moment.now in
    let now = rw (← c.self-else-takes.view_is) at (c.make_room.ensures.shows moments h) in
    rw c.push_reserved.ensures.items (stands_new _ moments _ m now)
