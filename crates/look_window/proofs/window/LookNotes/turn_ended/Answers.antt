use Rattle.std.proofs.Common.{◌≡◌, ◌∙◌, IfSome, ℕ, Some, ap, refl, subst, sym}
use Rattle.turn_watch.specs.Links.{link_of}
use Rattle.look_window.proofs.window.LookNotes.turn_ended.Goals as goal

pub returns-in-Some-clause-link : goal.returns-in-Some-clause-link
returns-in-Some-clause-link g c sight within seen =
    let id : c.next_link-id.result ≡ c.args.self.now.notes.next =
    c.next_link-id.ensures.next ∙ (ap (λ n. n.next) c.note_machine.ensures ∙ ap (λ n. n.next) c.turn_ended.ensures) in
    let links : c.next_link-id.new.self.links ≡ c.args.self.now.notes.links =
    ap (λ n. n.links) c.next_link-id.ensures.after
    ∙ (ap (λ n. n.links) c.note_machine.ensures ∙ ap (λ n. n.links) c.turn_ended.ensures) in
    let is : Some c.in-Some.sight ≡ Some sight = sym c.in-Some.is ∙ (c.link_at.ensures ∙ rw id seen) in
    let same : c.in-Some.sight ≡ sight = subst (λ o. IfSome o (λ x. x ≡ sight)) (sym is) refl in
    rw (id, links, same) at c.note_link.ensures.link within

pub returns-in-Some-clause-others : goal.returns-in-Some-clause-others
returns-in-Some-clause-others g c other differs =
    let id : c.next_link-id.result ≡ c.args.self.now.notes.next =
    c.next_link-id.ensures.next ∙ (ap (λ n. n.next) c.note_machine.ensures ∙ ap (λ n. n.next) c.turn_ended.ensures) in
    let links : c.next_link-id.new.self.links ≡ c.args.self.now.notes.links =
    ap (λ n. n.links) c.next_link-id.ensures.after
    ∙ (ap (λ n. n.links) c.note_machine.ensures ∙ ap (λ n. n.links) c.turn_ended.ensures) in
    c.note_link.ensures.others other (λ e. differs (e ∙ id)) ∙ ap (λ l. link_of l other) links
