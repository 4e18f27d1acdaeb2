-- Woven lists and matching links: small examples.
use Rattle.std.proofs.Common.{◌≡◌, ℕ, zero, suc, List, [], ◌∷◌, Some, None, refl, inl, inr, arith}
use Rattle.std.proofs.lemmas.Grind.{common_steps}
use Rattle.link_model.specs.declared.item.Item.TheVariants.{Noise}
use Rattle.run_model.specs.declared.event.Event.TheVariants.{Tick, Send, Take}
use Rattle.weaving.specs.declared.journal.JournalEntry.{JournalEntry}
use Rattle.weaving.specs.declared.journal.Stamped.{Stamped}
use Rattle.weaving.specs.Woven.{AreRising, IsWoven, IsNoLater, AreOrdered, Placed, entries_of}
use Rattle.weaving.specs.Journals.{journal_of, entry_count, unread, with_next, IsFirst}
use Rattle.weaving.specs.Matched.{IsLinkMatched}

-- node 0 ticks and sends, node 1 ticks at the same time and then takes
abbrev of_sender : List JournalEntry
of_sender = record { stamp = 1; event = Tick 0 } ∷ record { stamp = 2; event = Send 0 1 } ∷ []

abbrev of_taker : List JournalEntry
of_taker = record { stamp = 1; event = Tick 1 } ∷ record { stamp = 3; event = Take 0 1 } ∷ []

abbrev in_order : List Placed
in_order =
    record { node = 0; entry = record { stamp = 1; event = Tick 0 } } ∷ record { node = 1; entry = record { stamp = 1; event = Tick 1 } }
    ∷ record { node = 0; entry = record { stamp = 2; event = Send 0 1 } } ∷ record { node = 1; entry = record { stamp = 3; event = Take 0 1 } } ∷ []

all-there : (v : ℕ) → entries_of v in_order ≡ journal_of (of_sender ∷ of_taker ∷ []) v
all-there zero = refl
all-there (suc zero) = refl
all-there (suc (suc v)) = grind (arith, common_steps)

-- of two entries with one stamp, the smaller node's comes first
woven-together : IsWoven (journal_of (of_sender ∷ of_taker ∷ [])) (Tick 0 ∷ Tick 1 ∷ Send 0 1 ∷ Take 0 1 ∷ [])
woven-together = record {
  placed = in_order;
  are_events = refl;
  ordered = (
    (inr (refl, omega arith), (inl (omega arith), (inl (omega arith), tt))),
    ((inl (omega arith), (inl (omega arith), tt)), ((inl (omega arith), tt), (tt, tt))),
  );
  complete = all-there;
}

-- and not the greater node's
not-the-later-first : AreOrdered (record { node = 1; entry = record { stamp = 1; event = Tick 1 } } ∷ record { node = 0; entry = record { stamp = 1; event = Tick 0 } } ∷ []) → ⊥
not-the-later-first h = grind arith

-- the entries of both, and of what is unread
all-counted : entry_count (of_sender ∷ of_taker ∷ []) ≡ 4
all-counted = refl

rest-unread : unread (of_sender ∷ of_taker ∷ []) (1 ∷ 2 ∷ []) ≡ (record { stamp = 2; event = Send 0 1 } ∷ []) ∷ [] ∷ []
rest-unread = refl

-- of two entries with one stamp, the one seen first stays first
stays-first : with_next (Some (0, record { stamp = 1; event = Tick 0 })) 1 of_taker ≡ Some (0, record { stamp = 1; event = Tick 0 })
stays-first = refl

comes-first : with_next (Some (0, record { stamp = 2; event = Send 0 1 })) 1 of_taker ≡ Some (1, record { stamp = 1; event = Tick 1 })
comes-first = refl

-- nothing comes first if something is left
not-none_first : IsFirst (of_sender ∷ []) 1 None → ⊥
not-none_first none = let nothing : ◌≡◌ {A = List JournalEntry} of_sender [] = none 0 (omega arith) in absurd cc

-- nor does a later entry
not-later_first : IsFirst (of_sender ∷ of_taker ∷ []) 2 (Some (1, record { stamp = 1; event = Tick 1 })) → ⊥
not-later_first first =
    let later : IsNoLater (record { node = 1; entry = record { stamp = 1; event = Tick 1 } }) (record { node = 0; entry = record { stamp = 1; event = Tick 0 } }) =
    first.3 0 (record { stamp = 1; event = Tick 0 }) (record { stamp = 2; event = Send 0 1 } ∷ []) (omega arith) refl in
    grind arith

-- equal stamps are not rising
not-rising : AreRising (record { stamp = 1; event = Tick 0 } ∷ record { stamp = 1; event = Tick 0 } ∷ []) → ⊥
not-rising h = grind arith

abbrev at_time : ℕ → Stamped
at_time t = record { stamp = t; item = Noise }

-- a link for one item: the second send waits for the first take
matched-link : IsLinkMatched 1 [] (at_time 2 ∷ at_time 5 ∷ []) (at_time 4 ∷ []) (Noise ∷ [])
matched-link = record { kept = refl; taken_later = (omega arith, tt); sent_later = (omega arith, tt) }

-- a take that is not later than its send
not-too-early : IsLinkMatched 1 [] (at_time 4 ∷ []) (at_time 4 ∷ []) [] → ⊥
not-too-early h = let a = h.taken_later in grind arith

-- two sends, and no take between them
not-too-many : IsLinkMatched 1 [] (at_time 2 ∷ at_time 3 ∷ []) (at_time 4 ∷ []) (Noise ∷ []) → ⊥
not-too-many h = let a = h.sent_later in grind arith
