-- The frames of accounts and of histories.
use Rattle.std.proofs.Common.{◌≡◌, ℕ, List, [], ◌∷◌, ◌++◌, refl, ap, ◌∙◌, sym, subst, arith}
use Rattle.std.proofs.lemmas.Grind.{common_steps}
use Rattle.topology.specs.declared.frame.Frame.{Frame}
use Rattle.topology.specs.declared.frame.Ranges.{Ranges}
use Rattle.node_core.specs.Deeds.{Deed, Ticks, Sends, Takes, Asks, Leaves, taken_from, sent_to}
use Rattle.processes.specs.Accounts.{Timed, deeds}
use Rattle.processes.specs.Links.{Act, Accepts, Gives, Loses, the_accepts, the_gives, accept_at, give_at, accepts_in, gives_in}
use Rattle.processes.specs.Connections.{accepted_frames, given_frames, AreInRange, Ended, all_lost, history_over, left_after}
use Rattle.processes.specs.LinkLaws.{HistoriesGiveFrames}

pub of-accepts : (acts : List Act) → accepted_frames (the_accepts acts) ≡ accepted_frames acts
of-accepts [] = refl
of-accepts (Accepts t f ∷ acts) = ap (λ fs. f ∷ fs) (of-accepts acts)
of-accepts (Gives t f ∷ acts) = of-accepts acts
of-accepts (Loses t i ∷ acts) = of-accepts acts

of-gives : (acts : List Act) → given_frames (the_gives acts) ≡ given_frames acts
of-gives [] = refl
of-gives (Accepts t f ∷ acts) = of-gives acts
of-gives (Gives t f ∷ acts) = ap (λ fs. f ∷ fs) (of-gives acts)
of-gives (Loses t i ∷ acts) = of-gives acts

one-sent : (v t : ℕ) (d : Deed) (ds : List Deed) (acts : List Act) → accepted_frames acts ≡ sent_to v ds → accepted_frames (accept_at v t d ++ acts) ≡ sent_to v (d ∷ ds)
one-sent v t Ticks ds acts e = e
one-sent v t (Sends w f) ds acts e = grind (arith, common_steps)
one-sent v t (Takes w f) ds acts e = e
one-sent v t (Asks k) ds acts e = e
one-sent v t (Leaves k) ds acts e = e

one-taken : (u t : ℕ) (d : Deed) (ds : List Deed) (acts : List Act) → given_frames acts ≡ taken_from u ds → given_frames (give_at u t d ++ acts) ≡ taken_from u (d ∷ ds)
one-taken u t Ticks ds acts e = e
one-taken u t (Sends w f) ds acts e = e
one-taken u t (Takes w f) ds acts e = grind (arith, common_steps)
one-taken u t (Asks k) ds acts e = e
one-taken u t (Leaves k) ds acts e = e

pub all-sent : (v : ℕ) (ts : List Timed) → accepted_frames (accepts_in v ts) ≡ sent_to v (deeds ts)
all-sent v [] = refl
all-sent v (t ∷ ts) = one-sent v t.instant t.deed (deeds ts) (accepts_in v ts) (all-sent v ts)

all-taken : (u : ℕ) (ts : List Timed) → given_frames (gives_in u ts) ≡ taken_from u (deeds ts)
all-taken u [] = refl
all-taken u (t ∷ ts) = one-taken u t.instant t.deed (deeds ts) (gives_in u ts) (all-taken u ts)

pub give-frames : HistoriesGiveFrames
give-frames capacity u v first last sender receiver history h = (
  sym (of-accepts history) ∙ (ap accepted_frames h.accepted ∙ all-sent v sender),
  sym (of-gives history) ∙ (ap given_frames h.given ∙ all-taken u receiver),
)

-- ---- the frames of a link's connections

accepted-join : (acts others : List Act) → accepted_frames (acts ++ others) ≡ accepted_frames acts ++ accepted_frames others
accepted-join [] others = refl
accepted-join (Accepts t f ∷ acts) others = ap (λ fs. f ∷ fs) (accepted-join acts others)
accepted-join (Gives t f ∷ acts) others = accepted-join acts others
accepted-join (Loses t i ∷ acts) others = accepted-join acts others

lost-accepts-none : (t : ℕ) (way : List Frame) → accepted_frames (all_lost t way) ≡ []
lost-accepts-none t [] = refl
lost-accepts-none t (f ∷ way) = lost-accepts-none t way

in-two : (r : Ranges) (fs gs : List Frame) → AreInRange r (fs ++ gs) → AreInRange r fs × AreInRange r gs
in-two r [] gs h = (tt, h)
in-two r (f ∷ fs) gs h = let rest = in-two r fs gs h.1 in ((h.0, rest.0), rest.1)

-- what each of the connections accepted is in range
abbrev pub EachInRange : Ranges → List Ended → List Act → Type 0
EachInRange r [] acts = AreInRange r (accepted_frames acts)
EachInRange r (c ∷ cs) acts = AreInRange r (accepted_frames c.acts) × EachInRange r cs acts

-- if all that the link accepted is in range
pub each-in_range : (r : Ranges) (way : List Frame) (cs : List Ended) (acts : List Act) → AreInRange r (accepted_frames (history_over way cs acts)) → EachInRange r cs acts
each-in_range r way [] acts h = h
each-in_range r way (c ∷ cs) acts h =
    let lost = all_lost c.instant (left_after way c.acts) in
    let later = history_over [] cs acts in
    let parts : accepted_frames (history_over way (c ∷ cs) acts) ≡ accepted_frames c.acts ++ accepted_frames later
    = accepted-join c.acts (lost ++ later) ∙ ap (λ fs. accepted_frames c.acts ++ fs)
    (accepted-join lost later ∙ ap (λ fs. fs ++ accepted_frames later) (lost-accepts-none c.instant (left_after way c.acts))) in
    let both = in-two r (accepted_frames c.acts) (accepted_frames later) (subst (λ fs. AreInRange r fs) parts h) in
    (both.0, each-in_range r [] cs acts both.1)
