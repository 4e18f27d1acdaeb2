-- Stills stand for one moment more, and for the same moments once some are joined.
use Rattle.std.proofs.Common.{◌≡◌, ◌∙◌, ap, sym, refl, subst, ℕ, suc, ◌+◌, ◌-◌, ◌≤◌, ◌<◌, ◌⊎◌, inl, inr, ◌||◌, max, if◌then◌else◌, Bool, true, false, IsTrue, List, [], ◌∷◌, ◌++◌, Option, None, Some, length, take, drop, append_assoc, get_or, slice_set, slice_index_or, arith}
use Rattle.std.proofs.lemmas.Grind.{common_steps}
use Rattle.std.proofs.lemmas.List.{append-nil}
use Rattle.std.proofs.Math.Seq.{take-suc, take-length}
use Rattle.run_recording.specs.declared.still.Still.{Still}
use Rattle.run_recording.specs.Stills.{is_weighty, IsLike, joined, together, IsFaithful, StandFor, with_last, folded, are_calm, MayJoin, MayLast}
use Rattle.run_recording.specs.Stills.StandFor.{Nothing, Further}
use Rattle.run_recording.specs.Reels.{ReelView, Shows}

-- ---- what is alike

-- two lists agree one item further
pub same_more : {X : Type 0} (xs ys : List X) (k : ℕ) (d e : X) → k < length xs → k < length ys
    → take k xs ≡ take k ys → get_or xs k d ≡ get_or ys k e → take (k + 1) xs ≡ take (k + 1) ys
same_more xs ys k d e there here same next =
    let more : k + 1 ≡ suc k = omega arith in
    rw more (take-suc xs k d there ∙ ap (λ zs. zs ++ get_or xs k d ∷ []) same ∙ ap (λ z. take k ys ++ z ∷ []) next ∙ sym (take-suc ys k e here))

-- and two lists that agree on all items are the same
pub same_all : {X : Type 0} (xs ys : List X) (k : ℕ) → length xs ≡ k → length ys ≡ k → take k xs ≡ take k ys → xs ≡ ys
same_all xs ys k there here same =
    sym (take-length xs) ∙ ap (λ n. take n xs) there ∙ same ∙ ap (λ n. take n ys) (sym here) ∙ take-length ys

-- ---- what is joined

max_assoc : (a b c : ℕ) → max a (max b c) ≡ max (max a b) c
max_assoc a b c = grind (arith, common_steps)

or_assoc : (a b c : Bool) → (a || (b || c)) ≡ ((a || b) || c)
or_assoc a b c = grind (arith, common_steps)

pub joined_assoc : (a b c : Still) → joined a (joined b c) ≡ joined (joined a b) c
joined_assoc a b c =
    rw (or_assoc a.damaged b.damaged c.damaged, max_assoc a.privileged b.privileged c.privileged, max_assoc a.lending b.lending c.lending) refl

-- a stretch, and another after it
pub together_both : (first : Still) (later : List Still) (next : Still) (more : List Still)
    → together first (later ++ next ∷ more) ≡ joined (together first later) (together next more)
together_both first [] next more = refl
together_both first (a ∷ later) next more =
    ap (joined first) (together_both a later next more) ∙ joined_assoc first (together a later) (together next more)

-- what is joined is calm only if both are
calm_parts : (a b : Still) → is_weighty (joined a b) ≡ false → (is_weighty a ≡ false) × (is_weighty b ≡ false)
calm_parts a b calm = (grind (arith, common_steps), grind (arith, common_steps))

calm_joined : (a b : Still) → IsTrue (are_calm a b) → is_weighty (joined a b) ≡ false
calm_joined a b calm = grind (arith, common_steps)

not_weighty : (m still : Still) → is_weighty m ≡ false → IsTrue (is_weighty m) → IsLike m still
not_weighty m still calm weighty = let no : ⊥ = grind (arith, common_steps) in elim no [ ]

-- of a calm stretch no moment is weighty
calm_faithful : (still first : Still) (later : List Still) → is_weighty (together first later) ≡ false → IsFaithful still (first ∷ later)
calm_faithful still first [] calm = (not_weighty first still calm, tt)
calm_faithful still first (next ∷ later) calm =
    let parts = calm_parts first (together next later) calm in
    (not_weighty first still parts.0, calm_faithful still next later parts.1)

-- what one still shows faithfully, any still that is like it shows faithfully, too
like_faithful : (old new : Still) (moments : List Still) → IsLike old new → IsFaithful old moments → IsFaithful new moments
like_faithful old new [] like faithful = tt
like_faithful old new (m ∷ moments) like faithful =
    (λ weighty. record { looks = (faithful.0 weighty).looks ∙ like.looks; places = (faithful.0 weighty).places ∙ like.places; edges = (faithful.0 weighty).edges ∙ like.edges }, like_faithful old new moments like faithful.1)

one_more_faithful : (still : Still) (moments : List Still) (m : Still) → IsFaithful still moments → IsLike m still → IsFaithful still (moments ++ m ∷ [])
one_more_faithful still [] m faithful like = (λ weighty. like, tt)
one_more_faithful still (a ∷ moments) m faithful like = (faithful.0, one_more_faithful still moments m faithful.1 like)

itself : (m : Still) → IsLike m m
itself m = record { looks = refl; places = refl; edges = refl }

-- ---- one moment more

pub stands_new : (crowded : Bool) (moments stills : List Still) (m : Still) → StandFor crowded moments stills
    → StandFor crowded (moments ++ m ∷ []) (stills ++ m ∷ [])
stands_new crowded moments stills m Nothing = Further m [] (λ calm. (λ weighty. itself m, tt)) Nothing
stands_new crowded moments stills m (Further first later {moments = others} {stills = after} faithful rest) =
    subst (λ ms. StandFor crowded (first ∷ ms) (together first later ∷ (after ++ m ∷ []))) (sym (append_assoc later others (m ∷ [])))
    (Further first later faithful (stands_new crowded others after m rest))

-- the last stretch with one moment more
last_faithful : (first : Still) (later : List Still) (m : Still) → IsFaithful (together first later) (first ∷ later)
    → IsLike (together first later) m ⊎ IsTrue (are_calm (together first later) m) → IsFaithful (together first (later ++ m ∷ [])) (first ∷ (later ++ m ∷ []))
last_faithful first later m faithful (inl like) =
    let still = together first later in
    subst (λ s. IsFaithful s (first ∷ (later ++ m ∷ []))) (sym (together_both first later m []))
    (one_more_faithful (joined still m) (first ∷ later) m (like_faithful still (joined still m) (first ∷ later) (record { looks = like.looks; places = like.places; edges = like.edges }) faithful)
    (record { looks = refl; places = refl; edges = refl }))
last_faithful first later m faithful (inr calm) =
    calm_faithful _ first (later ++ m ∷ []) (ap is_weighty (together_both first later m []) ∙ calm_joined (together first later) m calm)

may_one : (crowded : Bool) (still m : Still) → crowded ≡ false → MayLast crowded (still ∷ []) m → IsLike still m ⊎ IsTrue (are_calm still m)
may_one crowded still m calm (inl may) = may
may_one crowded still m calm (inr (is, some)) = let no : ⊥ = grind (arith, calm, is) in elim no [ ]

may_more : (crowded : Bool) (a b : Still) (stills : List Still) (m : Still) → MayLast crowded (a ∷ b ∷ stills) m → MayLast crowded (b ∷ stills) m
may_more crowded a b stills m (inl may) = inl may
may_more crowded a b stills m (inr (is, some)) = inr (is, omega arith)

pub stands_last : (crowded : Bool) (moments stills : List Still) (m : Still) → MayLast crowded stills m
    → StandFor crowded moments stills → StandFor crowded (moments ++ m ∷ []) (with_last stills m)
stands_last crowded moments stills m (inl never) Nothing = elim never [ ]
stands_last crowded moments stills m (inr (is, some)) Nothing = let no : ⊥ = omega (arith, some) in elim no [ ]
stands_last crowded moments stills m may (Further first later {moments = []} {stills = []} faithful Nothing) =
    subst (λ ms. StandFor crowded (first ∷ ms) (joined (together first later) m ∷ [])) (ap (λ xs. xs ++ m ∷ []) (sym (append-nil later)))
    (subst (λ s. StandFor crowded (first ∷ (later ++ m ∷ [])) (s ∷ [])) (together_both first later m [])
    (subst (λ ms. StandFor crowded (first ∷ ms) (together first (later ++ m ∷ []) ∷ [])) (append-nil (later ++ m ∷ []))
    (Further first (later ++ m ∷ []) (λ calm. last_faithful first later m (faithful calm) (may_one crowded (together first later) m calm may)) Nothing)))
stands_last crowded moments stills m may (Further first later {moments = others} {stills = after} faithful (Further next more {moments = last} {stills = end} fair rest)) =
    subst (λ ms. StandFor crowded (first ∷ ms) (together first later ∷ with_last (together next more ∷ end) m))
    (sym (append_assoc later (next ∷ (more ++ last)) (m ∷ [])))
    (Further first later faithful
    (stands_last crowded (next ∷ (more ++ last)) (together next more ∷ end) m (may_more crowded (together first later) (together next more) end m may) (Further next more fair rest)))

-- ---- the same moments, once stills are joined

-- two stretches as one
merged : (crowded : Bool) (first : Still) (later : List Still) (next : Still) (more : List Still) (moments stills : List Still)
    → (crowded ≡ false → IsTrue (are_calm (together first later) (together next more)))
    → StandFor crowded moments stills
    → StandFor crowded (first ∷ (later ++ next ∷ (more ++ moments))) (joined (together first later) (together next more) ∷ stills)
merged crowded first later next more moments stills calm rest =
    let both = together_both first later next more in
    subst (λ s. StandFor crowded (first ∷ (later ++ next ∷ (more ++ moments))) (s ∷ stills)) both
    (subst (λ ms. StandFor crowded (first ∷ ms) (together first (later ++ next ∷ more) ∷ stills)) (append_assoc later (next ∷ more) moments)
    (Further first (later ++ next ∷ more)
    (λ is. calm_faithful _ first (later ++ next ∷ more) (ap is_weighty both ∙ calm_joined (together first later) (together next more) (calm is))) rest))

-- crowded stills promise less
pub stands_crowded : (crowded : Bool) (moments stills : List Still) → StandFor crowded moments stills → StandFor true moments stills
stands_crowded crowded moments stills Nothing = Nothing
stands_crowded crowded moments stills (Further first later {moments = others} {stills = after} faithful rest) =
    Further first later (λ is. let no : ⊥ = grind (arith, is) in elim no [ ]) (stands_crowded crowded others after rest)

crowded_calm : (a b : Still) → true ≡ false → IsTrue (are_calm a b)
crowded_calm a b is = let no : ⊥ = grind (arith, is) in elim no [ ]

pub stands_folded : (crowded : Bool) (moments stills : List Still) → StandFor crowded moments stills → StandFor true moments (folded true stills)
stands_folded crowded moments stills Nothing = Nothing
stands_folded crowded moments stills (Further first later {moments = others} {stills = after} faithful Nothing) =
    stands_crowded crowded (first ∷ (later ++ [])) (together first later ∷ []) (Further first later faithful Nothing)
stands_folded crowded moments stills (Further first later faithful (Further next more {moments = others} {stills = after} fair rest)) =
    merged true first later next more others (folded true after) (crowded_calm (together first later) (together next more)) (stands_folded crowded others after rest)

mutual_calm : (crowded calm : Bool) (first : Still) (later : List Still) (next : Still) (more moments stills : List Still)
    → are_calm (together first later) (together next more) ≡ calm
    → (crowded ≡ false → IsFaithful (together first later) (first ∷ later))
    → StandFor crowded moments (folded false stills)
    → StandFor crowded (next ∷ (more ++ moments)) (folded false (together next more ∷ stills))
    → StandFor crowded (first ∷ (later ++ next ∷ (more ++ moments))) (folded false (together first later ∷ together next more ∷ stills))
mutual_calm crowded true first later next more moments stills is faithful rest one =
    subst (λ b. StandFor crowded (first ∷ (later ++ next ∷ (more ++ moments)))
    (if b then joined (together first later) (together next more) ∷ folded false stills else together first later ∷ folded false (together next more ∷ stills))) (sym is)
    (merged crowded first later next more moments (folded false stills) (λ here. is) rest)
mutual_calm crowded false first later next more moments stills is faithful rest one =
    subst (λ b. StandFor crowded (first ∷ (later ++ next ∷ (more ++ moments)))
    (if b then joined (together first later) (together next more) ∷ folded false stills else together first later ∷ folded false (together next more ∷ stills))) (sym is)
    (Further first later faithful one)

pub stands_calm : (crowded : Bool) (moments stills : List Still) → StandFor crowded moments stills → StandFor crowded moments (folded false stills)
stands_calm crowded moments stills Nothing = Nothing
stands_calm crowded moments stills (Further first later faithful Nothing) = Further first later faithful Nothing
stands_calm crowded moments stills (Further first later faithful (Further next more {moments = others} {stills = after} fair rest)) =
    mutual_calm crowded _ first later next more others after refl faithful (stands_calm crowded others after rest)
    (stands_calm crowded (next ∷ (more ++ others)) (together next more ∷ after) (Further next more fair rest))

-- ---- how far a fold has come

-- what a fold makes of some stills is what is written and what it makes of the rest, for which there is room
abbrev pub IsFoldedSoFar : (List Still → List Still) → List Still → List Still → List Still → ℕ → ℕ → Type 0
IsFoldedSoFar fold stills written rest first now =
    (fold stills ≡ written ++ fold rest) × (length written + length rest ≤ now) × (now ≡ first)

-- ---- how many stills there are

folded_few : (stills : List Still) → length (folded true stills) ≤ length stills
folded_few [] = omega arith
folded_few (a ∷ []) = omega arith
folded_few (a ∷ b ∷ stills) = let fewer = folded_few stills in grind (arith, common_steps)

pub folded_fewer : (stills : List Still) → 2 ≤ length stills → length (folded true stills) < length stills
folded_fewer [] two = grind (arith, common_steps)
folded_fewer (a ∷ []) two = grind (arith, common_steps)
folded_fewer (a ∷ b ∷ stills) two = let fewer = folded_few stills in grind (arith, common_steps)

pub calm_few : (stills : List Still) → length (folded false stills) ≤ length stills
calm_few [] = omega arith
calm_few (a ∷ []) = omega arith
calm_few (a ∷ b ∷ stills) =
    let fewer = calm_few stills in
    let one = calm_few (b ∷ stills) in
    grind (arith, common_steps, fewer, one)

pub with_last-length : (stills : List Still) (m : Still) → length (with_last stills m) ≡ length stills
with_last-length [] m = refl
with_last-length (a ∷ []) m = refl
with_last-length (a ∷ b ∷ stills) m = ap suc (with_last-length (b ∷ stills) m)

-- a slice of all stills, written, replaces them
pub written_back : (stills now : List Still) (count : ℕ) (m : Still) → count ≡ length stills → now ≡ with_last stills m
    → take count (now ++ drop (length now) stills) ≡ with_last stills m
written_back stills now count m all is =
    let same : length now ≡ length stills = ap length is ∙ with_last-length stills m in
    grind (arith, common_steps)

-- ---- the last still

-- the last of some stills is written
written_further : (a : Still) (stills : List Still) (m d : Still)
    → slice_set (a ∷ stills) (length stills) (joined (slice_index_or (a ∷ stills) (length stills) d) m) ≡ with_last (a ∷ stills) m
written_further a [] m d = refl
written_further a (b ∷ stills) m d = ap (λ xs. a ∷ xs) (written_further b stills m d)

pub last_written : (stills : List Still) (m d : Still) → 0 < length stills
    → slice_set stills (length stills - 1) (joined (slice_index_or stills (length stills - 1) d) m) ≡ with_last stills m
last_written [] m d some = grind (arith, common_steps)
last_written (a ∷ stills) m d some =
    let place : length (a ∷ stills) - 1 ≡ length stills = omega arith in
    rw place (written_further a stills m d)

may_further : (a : Still) (stills : List Still) (m d : Still)
    → IsLike (slice_index_or (a ∷ stills) (length stills) d) m ⊎ IsTrue (are_calm (slice_index_or (a ∷ stills) (length stills) d) m) → MayJoin (a ∷ stills) m
may_further a [] m d may = may
may_further a (b ∷ stills) m d may = may_further b stills m d may

pub last_may : (stills : List Still) (m d : Still) → 0 < length stills
    → IsLike (slice_index_or stills (length stills - 1) d) m ⊎ IsTrue (are_calm (slice_index_or stills (length stills - 1) d) m) → MayJoin stills m
last_may [] m d some may = grind (arith, common_steps)
last_may (a ∷ stills) m d some may =
    let place : length (a ∷ stills) - 1 ≡ length stills = omega arith in
    may_further a stills m d (rw place at may)

-- ---- the first moment

-- a reel that shows no moment is opened by one
pub opens : (crowded : Bool) (limit : ℕ) (opening : Option Still) (stills moments : List Still) (m : Still) → opening ≡ None
    → Shows (record { opening = opening; stills = stills; limit = limit; crowded = crowded }) moments
    → Shows (record { opening = Some m; stills = stills; limit = limit; crowded = crowded }) (moments ++ m ∷ [])
opens crowded limit opening stills [] m none (is, empty) = (refl, rw empty Nothing)
opens crowded limit opening stills (first ∷ moments) m none (is, stand) = let never : ⊥ = grind (arith, none, is) in elim never [ ]

-- a reel that was opened stands for one moment more
pub goes_on : (old new : ReelView) (moments : List Still) (m : Still) → ¬ (old.opening ≡ None) → new.opening ≡ old.opening
    → ((later : List Still) → StandFor old.crowded later old.stills → StandFor new.crowded (later ++ m ∷ []) new.stills)
    → Shows old moments → Shows new (moments ++ m ∷ [])
goes_on old new [] m opened same more (is, empty) = elim (opened is) [ ]
goes_on old new (first ∷ moments) m opened same more (is, stand) = (same ∙ is, more moments stand)
