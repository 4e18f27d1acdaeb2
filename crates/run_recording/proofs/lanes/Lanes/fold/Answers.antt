use Rattle.std.proofs.Common.{◌≡◌, ◌∙◌, ap, ◌+◌, ◌*◌, ◌/◌, ◌<◌, ◌≤◌, length, rules, arith}
use Rattle.std.proofs.lemmas.Grind.{common_steps}
use Rattle.run_recording.specs.Laned.{left_after}
use Rattle.run_recording.proofs.Ends.{all_paired, ends_paired, left_few, width_few}
use Rattle.run_recording.proofs.Seconds.{seconds-length, seconds_fewer}
use Rattle.run_recording.proofs.lanes.Lanes.fold.Goals as goal

pub returns-clause-ends : goal.returns-clause-ends
returns-clause-ends g c =
    λ worlds h.
    let now = rw (← c.self.view_is) at h in
    let full = rw (← c.self.view_is) at c.requires.full in
    let some : 0 < c.self.inside.width = omega (arith, c.self.invariant.4) in
    let long : c.len.result ≡ length c.self.inside.states.items = search (rules, arith) in
    let left = c.left_after-self-inside.ensures ∙ ap (λ n. left_after n c.self.inside.width) long in
    rw (c.keep_seconds.ensures.seconds, left) (ends_paired some (rw full at now))

pub returns-clause-room : goal.returns-clause-room
returns-clause-room g c =
    let some = rw (← c.self.view_is) at c.requires.some in
    let old_are = ap (λ l. length l.states) c.self.view_is in
    rw (c.keep_seconds.ensures.seconds, ← old_are) (seconds_fewer c.self.inside.states.items some)

pub invariant_of-self : goal.invariant_of-self
invariant_of-self g c =
    let states = c.self.inside.states.items in
    let width = c.self.inside.width in
    let some = rw (← c.self.view_is) at c.requires.some in
    let full = rw (← c.self.view_is) at c.requires.full in
    let long : c.len.result ≡ length states = search (rules, arith) in
    let left = c.left_after-self-inside.ensures ∙ ap (λ n. left_after n width) long in
    let wide : 0 < width = omega (arith, c.self.invariant.4) in
    let fewer = seconds_fewer states some in
    let all : length states * width ≡ c.self.inside.moments = omega (arith, c.self.invariant.5, full) in
    let few : width ≤ c.self.inside.moments = omega (arith, all, width_few (length states) width some) in
    rw (c.keep_seconds.ensures.seconds, left) (
      c.self.invariant.0,
      omega (arith, fewer, c.self.invariant.1),
      search (rules, arith),
      λ over. omega (arith, fewer, c.self.invariant.1),
      omega (arith, left_few (length states) width, wide),
      rw (seconds-length states) (all_paired (length states) width ∙ all),
      omega (arith, few),
    )
