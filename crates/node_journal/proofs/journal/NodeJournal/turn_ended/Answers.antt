use Rattle.std.proofs.Common.{◌≡◌, ◌<◌, ◌∙◌, ℕ, Bool, false, List, slice_get, ap, refl, rules, subst}
use Rattle.std.specs.List.{slice_index_or}
use Rattle.process_parts.specs.node_log.declared.log.NodeLog.{NodeLog}
use Rattle.node_journal.specs.Said.{stands_at}
use Rattle.node_journal.proofs.journal.NodeJournal.turn_ended.Goals as goal

pub returns-clause-logged : goal.returns-clause-logged
returns-clause-logged g c on =
    let same-up : c.say_if-6.new.self.log.up ≡ c.turn_ended-events.new.self.up =
    c.say_if-6.ensures.same.up ∙ (c.say_if-5.ensures.same.up ∙ (c.say_if-4.ensures.same.up ∙ (c.say_if-3.ensures.same.up ∙ (c.say_if-2.ensures.same.up ∙ c.say_if.ensures.same.up)))) in
    record {
      seen = record {
        lent = search rules;
        is_full = search rules;
        is_crowded = search rules;
        place = search rules;
        link = λ few.
            ap (λ (up : List Bool). slice_index_or up c.args.self.now.log.next false) same-up
            ∙ subst (λ (n : ℕ). n < 64 → slice_index_or c.turn_ended-events.new.self.up n false ≡ stands_at (slice_get c.args.ports.now n)) c.next_link-link.ensures.next
            (λ within. c.turn_ended-events.ensures.link within ∙ c.is_up.ensures) few;
        others = λ other differs.
            ap (λ (up : List Bool). slice_index_or up other false) same-up
            ∙ (c.turn_ended-events.ensures.others other (λ e. differs (e ∙ c.next_link-link.ensures.next))
            ∙ ap (λ (l : NodeLog). slice_index_or l.up other false) c.next_link-link.ensures.after);
      };
      said =
          rw (
            c.say_if-6.ensures.rate,
            c.say_if-5.ensures.rate,
            c.say_if-4.ensures.rate,
            c.say_if-3.ensures.rate,
            c.say_if-2.ensures.rate,
            c.say_if.ensures.rate,
            c.say_if-5.ensures.same.least,
            c.say_if-4.ensures.same.least,
            c.say_if-3.ensures.same.least,
            c.say_if-2.ensures.same.least,
            c.say_if.ensures.same.least,
            c.turn_ended-events.ensures.events,
            c.turn_ended-events.ensures.rest.0,
            c.turn_ended-events.ensures.rest.1,
            c.next_link-link.ensures.after,
            c.lent.ensures,
            c.waiting.ensures.waiting,
            c.is_up.ensures,
            c.next_link-link.ensures.next,
            c.is_in_place.ensures,
          ) refl;
      next = search rules;
    }
