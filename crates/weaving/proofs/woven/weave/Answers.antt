use Rattle.std.proofs.Common.{◌≡◌, ◌+◌, [], ◌++◌, refl, sym, ap, ◌∙◌, subst, length, slice_index, length-set, arith, append-nil}
use Rattle.weaving.specs.Woven.{IsWoven}
use Rattle.weaving.specs.Journals.{entries_in, journal_of, unread, entry_count}
use Rattle.weaving.proofs.Unread.{unread-start}
use Rattle.weaving.proofs.WeaveSteps.{journals-read-on, journals-all-read, one-of-all, after-it}
use Rattle.weaving.proofs.woven.weave.Goals as goal

pub loop-node-init : goal.loop-node-init
loop-node-init g c =
    let js = entries_in c.args.journals.now in
    let start = unread-start js c.nothing_read-read.result c.nothing_read-read.ensures.zero in
    let empty = c.requires.empty in record {
      woven = λ events w. subst (λ xs. IsWoven (journal_of js) (xs ++ events)) (sym empty) (subst (λ xs. IsWoven (journal_of xs) events) start w);
      rising = rw start c.requires.rising;
      room = let room = c.requires.room in let none : length c.args.out.now.items ≡ 0 = ap length empty in let len = c.args.out.now.ok.0 in let same = ap entry_count start in omega (arith, room, none, same, len);
      long = c.nothing_read-read.ensures.len;
      same_room = refl;
    }

pub push_reserved-requires : goal.push_reserved-requires
push_reserved-requires g c =
    let on = journals-read-on c.args.journals.now c.loop-node.read c.in-Some.node c.in-Some.entry c.requires.few c.loop-node.invariant.long c.in-Some.ensures c.loop-node.invariant.rising in
    let one-less = on.one_less in
    let room = c.loop-node.invariant.room in
    omega (arith, one-less, room)

pub overflow_add-read : goal.overflow_add-read
overflow_add-read g c =
    let on = journals-read-on c.args.journals.now c.loop-node.read c.in-Some.node c.in-Some.entry c.requires.few c.loop-node.invariant.long c.in-Some.ensures c.loop-node.invariant.rising in
    let within = on.within in
    let all = one-of-all (entries_in c.args.journals.now) c.in-Some.node in
    let room = c.requires.room in
    let small = c.args.out.now.small in
    omega (arith, within, all, room, small)

pub loop-node-smaller : goal.loop-node-smaller
loop-node-smaller g c =
    let on = journals-read-on c.args.journals.now c.loop-node.read c.in-Some.node c.in-Some.entry c.requires.few c.loop-node.invariant.long c.in-Some.ensures c.loop-node.invariant.rising in
    let one-less = on.one_less in
    omega (arith, one-less)

pub loop-node-preserved : goal.loop-node-preserved
loop-node-preserved g c =
    let on = journals-read-on c.args.journals.now c.loop-node.read c.in-Some.node c.in-Some.entry c.requires.few c.loop-node.invariant.long c.in-Some.ensures c.loop-node.invariant.rising in
    let js = entries_in c.args.journals.now in
    let left = journal_of (unread js c.loop-node.read) in
    let event = c.in-Some.entry.event in
    let put = c.push_reserved.ensures in record {
      woven = λ events w.
          subst (λ xs. IsWoven (journal_of js) (xs ++ events)) (sym put.items)
          (after-it (journal_of js) left c.loop-node.out.items event events c.loop-node.invariant.woven (on.woven events w));
      rising = on.rising;
      room =
          let room = c.loop-node.invariant.room in
          let one-less = on.one_less in
          let len = put.len in
          let same = put.capacity in
          omega (arith, room, one-less, len, same);
      long = length-set c.loop-node.read c.in-Some.node (slice_index c.loop-node.read c.in-Some.node + 1) ∙ c.loop-node.invariant.long;
      same_room = put.capacity ∙ c.loop-node.invariant.same_room;
    }

pub returns-clause-woven : goal.returns-clause-woven
returns-clause-woven g c =
    let jl = c.args.journals.now in
    let js = entries_in jl in
    subst (IsWoven (journal_of js)) (append-nil c.loop-node.out.items) (c.loop-node.invariant.woven [] (journals-all-read jl c.loop-node.read c.in_default.ensures))
