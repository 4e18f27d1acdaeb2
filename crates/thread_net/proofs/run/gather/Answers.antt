use Rattle.std.proofs.Common.{rules, ap, sym, subst, ◌≡◌, ◌∙◌, ◌≤◌, length, vec_len, vec_capacity}
use Rattle.node_runner.specs.weaving.Journals.{entries_in, entry_count, journal_of}
use Rattle.node_runner.specs.weaving.Woven.{AreRising, IsWoven}
use Rattle.judge.specs.configuration.ConfigurationView.{world_of}
use Rattle.thread_net.specs.ThreadRun.{IsThreadRun}
use Rattle.thread_net.specs.Tables.{AreEmptySeats, rows_in}
use Rattle.thread_net.proofs.Finishing.{all-rising, gathered, one-worlds}
use Rattle.thread_net.proofs.run.gather.Goals as goal

pub unseat_all-requires : goal.unseat_all-requires
unseat_all-requires g c =
    let same : length c.args.runners.items ≡ vec_len c.args.runners = search rules in
    subst (λ n. AreEmptySeats n c.args.seats) same c.requires.2.empty

pub weave-requires-2-clause-rising : goal.weave-requires-2-clause-rising
weave-requires-2-clause-rising g c = λ v.
    let it = c.requires.2 in
    subst (λ e. AreRising (journal_of e v)) (sym (ap entries_in c.deref.ensures.value ∙ c.unseat_all.ensures.journals))
    (all-rising c.requires.0 c.requires.1 c.args.runners.items it.done it.start v)

pub weave-requires-2-clause-empty : goal.weave-requires-2-clause-empty
weave-requires-2-clause-empty g c = c.requires.2.nothing

pub weave-requires-2-clause-room : goal.weave-requires-2-clause-room
weave-requires-2-clause-room g c =
    subst (λ e. entry_count e ≤ vec_capacity c.args.events) (sym (ap entries_in c.deref.ensures.value ∙ c.unseat_all.ensures.journals)) c.requires.2.fits

pub settle_all-requires-clause-cabled : goal.settle_all-requires-clause-cabled
settle_all-requires-clause-cabled g c = rw (c.unseat_all.ensures.rows, ← c.requires.2.over.0) c.requires.2.done.cabled

pub from_parts-requires : goal.from_parts-requires
from_parts-requires g c = one-worlds c.requires.0 c.requires.1 c.requires.2 c.settle_all.new.links c.unseat_all.new.seats.nodes.items c.unseat_all.ensures.nodes c.settle_all.ensures.net

pub returns : goal.returns
returns g c = λ w turns it.
    let woven = subst (λ e. IsWoven (journal_of e) c.weave-2.new.out.items) (ap entries_in c.deref.ensures.value) c.weave-2.ensures.woven in
    subst (λ v. IsThreadRun turns w c.weave-2.new.out.items (world_of v)) (sym c.from_parts.ensures)
    (gathered w turns it c.settle_all.new.links c.unseat_all.new.seats.nodes.items (rows_in c.unseat_all.new.seats.rows.items) (entries_in c.unseat_all.new.seats.journals.items) c.weave-2.new.out.items
    c.unseat_all.ensures.nodes c.unseat_all.ensures.rows c.unseat_all.ensures.journals c.settle_all.ensures.net c.settle_all.ensures.spares c.settle_all.ensures.flushed c.settle_all.ensures.settled woven
    c.weave.ensures c.rounds.ensures c.in_range.ensures)
