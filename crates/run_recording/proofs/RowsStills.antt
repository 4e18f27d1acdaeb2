-- Small examples of stills, and some that look like them but are not.
use Rattle.std.proofs.Common.{◌≡◌, ◌∙◌, ap, sym, subst, ℕ, Bool, true, false, List, [], ◌∷◌, ◌++◌, None, Some, inl, inr, refl, arith}
use Rattle.std.proofs.lemmas.List.{append-nil}
use Rattle.run_recording.specs.declared.still.Still.{Still}
use Rattle.run_recording.specs.Stills.{folded, is_weighty, IsFaithful, IsLike, joined, MayJoin, MayLast, StandFor, together, with_last}
use Rattle.run_recording.specs.Stills.StandFor.{Nothing, Further}
use Rattle.run_recording.specs.Reels.{Shows}

-- a still of no nodes: whether there was damage, how many are privileged and lend, and how many
-- events led to it
abbrev still : Bool → ℕ → ℕ → ℕ → Still
still damaged privileged lending events = record {
  looks = [];
  places = [];
  edges = [];
  under_way = [];
  events = events;
  event = None;
  sweeps = 0;
  damaged = damaged;
  privileged = privileged;
  lending = lending;
}

-- damage that struck a node
abbrev struck : Still
struck = record (still true 0 0 1) {
  looks = record { own = record { distance = 3; parent = None }; settled = false; privileged = false; lent = None } ∷ [];
}

-- ---- weighty moments

weighty-damage : is_weighty (still true 0 0 1) ≡ true
weighty-damage = refl

weighty-privileged : is_weighty (still false 2 0 1) ≡ true
weighty-privileged = refl

weighty-lending : is_weighty (still false 0 2 1) ≡ true
weighty-lending = refl

-- one token that goes round, and one loan, are no weighty moment
weighty_not-one : is_weighty (still false 1 1 1) ≡ false
weighty_not-one = refl

-- ---- what is joined

-- the later one is shown, with the damage of the earlier and the greater counts
joined-later : joined (still true 2 0 1) (still false 1 1 2) ≡ still true 2 1 2
joined-later = refl

-- and what is under way at the later one
joined-under_way : (joined (still false 1 0 1) (record (still false 1 0 2) { under_way = 3 ∷ [] })).under_way ≡ 3 ∷ []
joined-under_way = refl

folded-pairs : folded true (still false 1 0 1 ∷ still true 2 0 2 ∷ still false 1 0 3 ∷ []) ≡ still true 2 0 2 ∷ still false 1 0 3 ∷ []
folded-pairs = refl

-- damage is not joined with what is calm
calm-around : folded false (still false 1 0 1 ∷ still true 1 0 2 ∷ still false 1 0 3 ∷ still false 0 0 4 ∷ []) ≡ still false 1 0 1 ∷ still true 1 0 2 ∷ still false 1 0 4 ∷ []
calm-around = refl

last-one : with_last (still false 0 0 1 ∷ still false 1 0 2 ∷ []) (still false 0 1 3) ≡ still false 0 0 1 ∷ still false 1 1 3 ∷ []
last-one = refl

join-calm : MayJoin (still true 3 0 1 ∷ still false 1 0 2 ∷ []) (still false 0 0 3)
join-calm = inr refl

-- a weighty moment is joined with what looks different only if there are too many stills
join_not-struck : ¬ MayJoin (still true 0 0 1 ∷ []) struck
join_not-struck (inl like) = let same = like.looks in grind (arith, same)
join_not-struck (inr calm) = grind (arith, calm)

join-crowded : MayLast true (still true 0 0 1 ∷ []) struck
join-crowded = inr (refl, omega arith)

-- a stretch is shown by its last moment
together-last : together (still true 2 0 1) (still false 1 1 2 ∷ still false 0 0 3 ∷ []) ≡ still true 2 1 3
together-last = refl

-- two moments that differ only in their counts look alike; two that differ in an edge do not
like-counts : IsLike (still false 1 0 1) (still true 0 0 2)
like-counts = record { looks = refl; places = refl; edges = refl }

like_not-parted : ¬ IsLike (record (still false 0 0 1) { edges = (0, 1) ∷ [] }) (still false 0 0 2)
like_not-parted like = let same = like.edges in grind (arith, same)

-- ---- which moments stills stand for

-- two calm moments share a still
stand-calm : StandFor false (still false 1 0 1 ∷ still false 0 0 2 ∷ []) (still false 1 0 2 ∷ [])
stand-calm = Further (still false 1 0 1) (still false 0 0 2 ∷ []) (λ here. ((λ heavy. record { looks = refl; places = refl; edges = refl }), ((λ heavy. record { looks = refl; places = refl; edges = refl }), tt))) Nothing

-- a weighty moment is not shown by a still that looks different
faithful_not-struck : ¬ IsFaithful (still true 0 0 2) (struck ∷ still false 0 0 2 ∷ [])
faithful_not-struck faithful = let same = (faithful.0 refl).looks in grind (arith, same)

-- one still of all moments shows each weighty one faithfully
one_faithful : (moments : List Still) (s : Still) → StandFor false moments (s ∷ []) → IsFaithful s moments
one_faithful moments s (Further first later {moments = []} {stills = []} faithful Nothing) =
    subst (λ ms. IsFaithful (together first later) (first ∷ ms)) (sym (append-nil later)) (faithful refl)
one_faithful moments s (Further first later {moments = _ ∷ _} {stills = []} faithful never) = elim never [ ]

-- so damage is not hidden in the calm that follows, unless the reel says that there are too many
-- stills
stand_not-hidden : ¬ StandFor false (struck ∷ still false 0 0 2 ∷ []) (still true 0 0 2 ∷ [])
stand_not-hidden stand = faithful_not-struck (one_faithful _ _ stand)

stand-crowded : StandFor true (struck ∷ still false 0 0 2 ∷ []) (still true 0 0 2 ∷ [])
stand-crowded = Further struck (still false 0 0 2 ∷ []) (λ is. let no : ⊥ = grind (arith, is) in elim no [ ]) Nothing

-- how many events led to the last of some stills
abbrev last_events : ℕ → List Still → ℕ
last_events events [] = events
last_events events (s ∷ stills) = last_events s.events stills

last_of_both : (events : ℕ) (stills others : List Still) → last_events events (stills ++ others) ≡ last_events (last_events events stills) others
last_of_both events [] others = refl
last_of_both events (s ∷ stills) others = last_of_both s.events stills others

last_together : (first : Still) (later : List Still) → (together first later).events ≡ last_events first.events later
last_together first [] = refl
last_together first (next ∷ later) = last_together next later

-- stills end with the last of their moments
ends : (crowded : Bool) (moments stills : List Still) (events : ℕ) → StandFor crowded moments stills → last_events events stills ≡ last_events events moments
ends crowded moments stills events Nothing = refl
ends crowded moments stills events (Further first later {moments = others} {stills = after} faithful rest) =
    ends crowded others after (together first later).events rest
    ∙ ap (λ n. last_events n others) (last_together first later) ∙ sym (last_of_both first.events later others)

-- so the last moment is not left out
stand_not-unended : (crowded : Bool) → ¬ StandFor crowded (still false 0 0 1 ∷ still false 1 0 2 ∷ []) (still false 0 0 1 ∷ [])
stand_not-unended crowded stand = let same = ends crowded _ _ 0 stand in grind (arith, same)

-- nor do two moments change places
stand_not-turned : (crowded : Bool) → ¬ StandFor crowded (still true 0 0 1 ∷ still true 2 0 2 ∷ []) (still true 2 0 2 ∷ still true 0 0 1 ∷ [])
stand_not-turned crowded stand = let same = ends crowded _ _ 0 stand in grind (arith, same)

-- a reel shows the first moment and those after it
shows-opened : Shows (record { opening = Some (still false 0 0 0); stills = still true 0 0 1 ∷ []; limit = 2; crowded = false }) (still false 0 0 0 ∷ still true 0 0 1 ∷ [])
shows-opened = (refl, Further (still true 0 0 1) [] (λ calm. ((λ heavy. record { looks = refl; places = refl; edges = refl }), tt)) Nothing)

-- and no other first moment
shows_not-another : ¬ Shows (record { opening = Some (still false 0 0 1); stills = []; limit = 2; crowded = false }) (still false 0 0 0 ∷ [])
shows_not-another shows = let first = shows.0 in grind (arith, first)

-- a reel that was not opened shows no moment
shows_not-unopened : (m : Still) → ¬ Shows (record { opening = None; stills = []; limit = 2; crowded = false }) (m ∷ [])
shows_not-unopened m shows = let opened = shows.0 in grind (arith, opened)
