use Rattle.std.proofs.Common.{◌≡◌, ◌+◌, ◌≤◌, ℕ, List, ◌++◌, length, vec_len, vec_capacity}
use Rattle.run_model.specs.declared.event.Event.{Event}
use Rattle.weaving.specs.Woven.{AreRising, IsWoven}
use Rattle.weaving.specs.Journals.{entries_in, journal_of, unread, entry_count}
use Rattle.weaving.proofs.woven.weave.Given as goal

-- what is woven so far, and then what is woven from the rest, is woven from the whole
abbrev pub invariant-loop-node : goal.invariant-loop-node
invariant-loop-node g l =
    let rest = unread (entries_in l.fn.journals) l.read in record {
      woven : (events : List Event) → IsWoven (journal_of rest) events → IsWoven (journal_of (entries_in l.fn.journals)) (l.out.items ++ events);
      rising : (v : ℕ) → AreRising (journal_of rest v);
      room : entry_count rest + vec_len l.out ≤ vec_capacity l.out;
      long : length l.read ≡ 64;
      same_room : vec_capacity l.out ≡ vec_capacity l.fn.out;
    }

abbrev pub decreases-loop-node : goal.decreases-loop-node
decreases-loop-node g l = entry_count (unread (entries_in l.fn.journals) l.read)
