-- Small examples of turns in a row, of connections of a port, and of links of pipes; and some that look
-- like them and are none.
use Rattle.std.proofs.Common.{◌≡◌, ℕ, List, [], ◌∷◌, ◌++◌, Option, None, Some, refl, ap, sym, subst, ◌∙◌, inl, inr, arith}
use Rattle.topology.specs.declared.frame.Frame.{Frame}
use Rattle.topology.specs.declared.frame.Ranges.{Ranges}
use Rattle.node_core.specs.State.{LocalState}
use Rattle.node_core.specs.View.{site_in, state_of}
use Rattle.node_core.specs.declared.ticked.Ticked.{Ticked}
use Rattle.byte_lines.specs.Kept.{kept}
use Rattle.frame_codec.specs.Lines.{good_lines}
use Rattle.frame_codec.specs.Spelling.{spelling}
use Rattle.socket_links.specs.Counts.{Counts}
use Rattle.socket_links.specs.Links.{waiting, unsent, HasPulled}
use Rattle.socket_links.specs.declared.link.SocketLink.{SocketLink}
use Rattle.node_core.specs.Deeds.{Leads, Ticks, Asks, Leaves}
use Rattle.node_loop.specs.Moments.{Moment}
use Rattle.node_loop.specs.Turns.{Turns, Attends}
use Rattle.processes.specs.Links.{Act, Accepts}
use Rattle.processes.specs.Connections.{lines_of}
use Rattle.processes.proofs.RowsLinks.{numbered}
use Rattle.running_nodes.specs.Pipes.{Ends, sent_at, taken_at, outs_of, intos_of, GaveSince, TookSince, IsOneStream, IsOnlyRead, AreEnds, Carries, CarryOn, IsLinkOfPipes}
use Rattle.running_nodes.specs.Stood.{Start, Stood, all_taken, all_sent, IsStood, PortWas, StartsAt}
use Rattle.running_nodes.specs.Stretches.{Went, IsTurn, Goes, all_deeds}

abbrev sizes : Ranges
sizes = record { nodes = 3; counter = 5; ring = 13 }

-- a frame's line has bytes
longer : ◌≡◌ {A = List ℕ} (72 ∷ []) ((72 ∷ []) ++ lines_of (numbered 1 ∷ [])) → ⊥
unfolding spelling
longer e = grind (arith, e)

module _ {P : Type 0} (gave took : P → Option (List ℕ)) (counts : P → Counts) where
  -- ---- turns, one after the other

  module _ (says : Ticked) (now : ℕ) (old new : Moment P) (t : Turns gave took counts says now old new) where
    turn-is : IsTurn gave took counts t.account old new
    turn-is = inl (says, now, t, refl)

    one-turn : Goes gave took counts old (record { account = t.account; after = new } ∷ []) new
    one-turn = (inl (says, now, t, refl), refl)

  module _ (says next : Ticked) (now later : ℕ) (old mid new : Moment P) (s : Turns gave took counts says now old mid)
      (t : Turns gave took counts next later mid new) where
    abbrev both : List (Went P)
    both = record { account = s.account; after = mid } ∷ record { account = t.account; after = new } ∷ []

    -- each of two turns in a row has its own account, and is followed by the moment that it led to
    two-turns : Goes gave took counts old both new
    two-turns = (inl (says, now, s, refl), (inl (next, later, t, refl), refl))

  attend-is : (now : ℕ) (old new : Moment P) (a : Attends gave took counts now old new) → IsTurn gave took counts a.account old new
  attend-is now old new a = inr (now, a, refl)

  module _ (old new : Moment P) (before : old.node.distance ≡ 2) (after : new.node.distance ≡ 0) where
    nothing-done : Leads (site_in old.node) [] (state_of old.node) (state_of new.node) → ⊥
    nothing-done leads = let e : new.node.distance ≡ old.node.distance = ap (λ (s : LocalState). s.distance) leads in omega (arith, before, after, e)

    -- an account without a deed leads nowhere
    turn_not-nothing : ¬ IsTurn gave took counts [] old new
    turn_not-nothing (inl (says, now, t, e)) = nothing-done (subst (λ ds. Leads (site_in old.node) ds (state_of old.node) (state_of new.node)) (sym e) t.leads)
    turn_not-nothing (inr (now, a, e)) = nothing-done (subst (λ ds. Leads (site_in old.node) ds (state_of old.node) (state_of new.node)) (sym e) a.leads)

    -- nor do no turns
    goes_not-at-once : ¬ Goes gave took counts old [] new
    goes_not-at-once same = let e : new.node.distance ≡ old.node.distance = ap (λ (m : Moment P). m.node.distance) same in omega (arith, before, after, e)

    -- nor does one turn whose account has no deed, or after which the node is as before
    went_not-idle : ¬ Goes gave took counts old (record { account = []; after = new } ∷ []) new
    went_not-idle g = turn_not-nothing g.0

    went_not-elsewhere : (t : Went P) → t.after ≡ old → ¬ Goes gave took counts old (t ∷ []) new
    went_not-elsewhere t same g =
        let e : new.node.distance ≡ old.node.distance = ap (λ (m : Moment P). m.node.distance) (g.1 ∙ same) in
        omega (arith, before, after, e)

  goes-nowhere : (old : Moment P) → Goes gave took counts old [] old
  goes-nowhere old = refl

  deeds-in-order : (m : Moment P) → all_deeds (record { account = Asks 3 ∷ Ticks ∷ []; after = m } ∷ record { account = Leaves 3 ∷ []; after = m } ∷ [])
      ≡ Asks 3 ∷ Ticks ∷ Leaves 3 ∷ []
  deeds-in-order m = refl

  -- ---- a connection of a port: before it was taken up, a hello went each way

  abbrev hellos : Start
  hellos = record { given = 72 ∷ []; taken = 72 ∷ [] }

  abbrev stood : SocketLink P → List Frame → List Frame → Stood P
  stood link taken sent = record { start = hellos; taken = taken; sent = sent; link = link }

  taken-in-order : (link : SocketLink P) → all_taken (stood link (numbered 1 ∷ []) [] ∷ stood link (numbered 2 ∷ []) (numbered 3 ∷ []) ∷ [])
      ≡ numbered 1 ∷ numbered 2 ∷ []
  taken-in-order link = refl

  sent-in-order : (link : SocketLink P) → all_sent (stood link (numbered 1 ∷ []) [] ∷ stood link (numbered 2 ∷ []) (numbered 3 ∷ []) ∷ [])
      ≡ numbered 3 ∷ []
  sent-in-order link = refl

  module _ (link : SocketLink P) (p : P) (pipe : link.pipe ≡ Some p) (reader : link.reader ≡ kept 21 [])
      (waits : waiting link ≡ []) (written : unsent link ≡ []) where
    -- nothing but the hellos came and went
    stands : gave p ≡ Some (72 ∷ []) → took p ≡ Some (72 ∷ []) → IsStood sizes gave took (stood link [] [])
    stands said wrote = record {
      stands = rw pipe refl;
      pulled = rw (pipe, said) (record { read = []; parts = rw waits refl; stands = reader; frames_are = refl });
      pushed = rw (pipe, wrote, written) refl;
    }

    -- then no frame was taken,
    stands_not-taken : gave p ≡ Some (72 ∷ []) → ¬ IsStood sizes gave took (stood link (numbered 1 ∷ []) [])
    stands_not-taken said s =
        let pulled : HasPulled sizes (72 ∷ []) (numbered 1 ∷ []) (72 ∷ []) link.reader (waiting link) = rw (pipe, said) at s.pulled in
        none pulled.read pulled.parts pulled.frames_are where
          none : (read : List ℕ) → 72 ∷ [] ≡ (72 ∷ []) ++ (read ++ waiting link) → good_lines sizes read ≡ numbered 1 ∷ [] → ⊥
          none [] parts are = let e : ◌≡◌ {A = List Frame} [] (numbered 1 ∷ []) = are in absurd cc
          none (b ∷ read) parts are = let e : ◌≡◌ {A = List ℕ} (72 ∷ []) (72 ∷ b ∷ (read ++ waiting link)) = parts in absurd cc

    -- and no frame was sent if the pipe took no byte of it
    stands_not-sent : took p ≡ Some (72 ∷ []) → ¬ IsStood sizes gave took (stood link [] (numbered 1 ∷ []))
    stands_not-sent wrote s =
        let pushed : (72 ∷ []) ++ unsent link ≡ (72 ∷ []) ++ lines_of (numbered 1 ∷ []) = rw (pipe, wrote) at s.pushed in
        let e : ◌≡◌ {A = List ℕ} (72 ∷ []) ((72 ∷ []) ++ lines_of (numbered 1 ∷ [])) = rw written at pushed in
        absurd (longer e)

    starts_not-after : took p ≡ Some (72 ∷ 72 ∷ []) → ¬ StartsAt sizes gave took hellos link
    starts_not-after wrote s =
        let pushed : (72 ∷ 72 ∷ []) ++ unsent link ≡ 72 ∷ [] = rw (pipe, wrote) at s.pushed in
        let e : ◌≡◌ {A = List ℕ} (72 ∷ 72 ∷ []) (72 ∷ []) = rw written at pushed in absurd cc

    -- ---- what the pipe gave and took since

    gave-since : gave p ≡ Some (72 ∷ 1 ∷ 2 ∷ []) → GaveSince gave (stood link [] []) (1 ∷ 2 ∷ [])
    gave-since said = record { pipe = p; stands = pipe; all = said }

    gave_not-before : gave p ≡ Some (72 ∷ 1 ∷ 2 ∷ []) → ¬ GaveSince gave (stood link [] []) (72 ∷ 1 ∷ 2 ∷ [])
    gave_not-before said g = grind (arith, pipe, said, g.stands, g.all)

    took-since : took p ≡ Some (72 ∷ 1 ∷ []) → TookSince took (stood link [] []) (1 ∷ [])
    took-since wrote = record { pipe = p; taken = 72 ∷ 1 ∷ []; stands = pipe; reports = wrote; all = rw written refl }

    took_not-more : took p ≡ Some (72 ∷ 1 ∷ []) → ¬ TookSince took (stood link [] []) (1 ∷ 2 ∷ [])
    took_not-more wrote t =
        let taken : t.taken ≡ 72 ∷ 1 ∷ [] = grind (arith, pipe, wrote, t.stands, t.reports) in
        let all : (72 ∷ 1 ∷ []) ++ unsent link ≡ 72 ∷ 1 ∷ 2 ∷ [] = rw taken at t.all in
        let e : ◌≡◌ {A = List ℕ} (72 ∷ 1 ∷ []) (72 ∷ 1 ∷ 2 ∷ []) = rw written at all in absurd cc

    -- if the other end sends no more, its pipe gives only what stood there
    only-read : gave p ≡ Some (72 ∷ 1 ∷ []) → IsOnlyRead gave (1 ∷ 2 ∷ []) (stood link [] [])
    only-read said = record { given = 1 ∷ []; ahead = 2 ∷ []; gives = record { pipe = p; stands = pipe; all = said }; beginning = refl }

    only_not-more : gave p ≡ Some (72 ∷ 1 ∷ []) → ¬ IsOnlyRead gave [] (stood link [] [])
    only_not-more said o =
        let given : o.given ≡ 1 ∷ [] = grind (arith, pipe, said, o.gives.stands, o.gives.all) in
        let e : ◌≡◌ {A = List ℕ} (1 ∷ o.ahead) [] = rw given at o.beginning in absurd cc

  -- a connection without a pipe is none; and a link without one keeps nothing at the start
  stands_not-without : (link : SocketLink P) → link.pipe ≡ None → ¬ IsStood sizes gave took (stood link [] [])
  stands_not-without link none s = grind (arith, none, s.stands)

  starts-without : (link : SocketLink P) → link.pipe ≡ None → StartsAt sizes gave took hellos link
  starts-without link none = record { pulled = rw none tt; pushed = rw none tt }

  -- a port without a connection took nothing and sent nothing
  port-idle : PortWas sizes gave took [] [] []
  port-idle = record { each = tt; takes = refl; sends = refl }

  port_not-sent : ¬ PortWas sizes gave took [] (numbered 1 ∷ []) []
  port_not-sent was = let e : ◌≡◌ {A = List Frame} [] (numbered 1 ∷ []) = was.sends in absurd cc

  -- ---- the two ends of a connection

  module _ (a b : SocketLink P) (p q : P) (out : a.pipe ≡ Some p) (into : b.pipe ≡ Some q) (written : unsent a ≡ []) where
    one-stream : took p ≡ Some (72 ∷ 1 ∷ 2 ∷ []) → gave q ≡ Some (72 ∷ 1 ∷ []) → IsOneStream gave took [] (stood a [] []) (stood b [] [])
    one-stream wrote said = record {
      given = 1 ∷ [];
      taken = 1 ∷ 2 ∷ [];
      ahead = 2 ∷ [];
      gives = record { pipe = q; stands = into; all = said };
      takes = record { pipe = p; taken = 72 ∷ 1 ∷ 2 ∷ []; stands = out; reports = wrote; all = rw written refl };
      beginning = refl;
    }

    -- a byte that the sender's pipe did not take is given by none
    stream_not-other : took p ≡ Some (72 ∷ 1 ∷ []) → gave q ≡ Some (72 ∷ 2 ∷ []) → ¬ IsOneStream gave took [] (stood a [] []) (stood b [] [])
    stream_not-other wrote said s =
        let given : s.given ≡ 2 ∷ [] = grind (arith, into, said, s.gives.stands, s.gives.all) in
        let taken : s.takes.taken ≡ 72 ∷ 1 ∷ [] = grind (arith, out, wrote, s.takes.stands, s.takes.reports) in
        let all : (72 ∷ 1 ∷ []) ++ unsent a ≡ 72 ∷ s.taken = rw taken at s.takes.all in
        let same : ◌≡◌ {A = List ℕ} (72 ∷ 1 ∷ []) (72 ∷ s.taken) = rw written at all in
        let beginning : (2 ∷ s.ahead) ≡ s.taken = rw given at s.beginning in
        grind (arith, same, beginning)

    ends-joined : took p ≡ Some (72 ∷ 1 ∷ 2 ∷ []) → gave q ≡ Some (72 ∷ 1 ∷ []) → AreEnds gave took [] (Some (stood a [] [])) (Some (stood b [] []))
    ends-joined = one-stream

    ends-unread : AreEnds gave took [] (Some (stood a [] [])) None
    ends-unread = tt

    ends_not-made-up : gave q ≡ Some (72 ∷ 1 ∷ []) → ¬ AreEnds gave took [] None (Some (stood b [] []))
    ends_not-made-up said o =
        let given : o.given ≡ 1 ∷ [] = grind (arith, into, said, o.gives.stands, o.gives.all) in
        let e : ◌≡◌ {A = List ℕ} (1 ∷ o.ahead) [] = rw given at o.beginning in absurd cc

  -- ---- links of pipes

  abbrev unseen : Ends P
  unseen = record { out = None; into = None }

  nothing-sent : sent_at {P = P} None ≡ []
  nothing-sent = refl

  sent-at-end : (link : SocketLink P) → sent_at (Some (stood link [] (numbered 1 ∷ []))) ≡ numbered 1 ∷ []
  sent-at-end link = refl

  taken-at-end : (link : SocketLink P) → taken_at (Some (stood link (numbered 2 ∷ []) (numbered 1 ∷ []))) ≡ numbered 2 ∷ []
  taken-at-end link = refl

  outs-in-order : (a b : SocketLink P) → outs_of (record unseen { out = Some (stood a [] []) } ∷ unseen ∷ record unseen { out = Some (stood b [] []) } ∷ [])
      ≡ stood a [] [] ∷ stood b [] [] ∷ []
  outs-in-order a b = refl

  intos_not-outs : (a : SocketLink P) → intos_of (record unseen { out = Some (stood a [] []) } ∷ []) ≡ []
  intos_not-outs a = refl

  -- a connection that nobody took up carries nothing
  carries-nothing : Carries sizes 1 gave took [] [] unseen
  carries-nothing = record { joined = tt; accepted = refl; given = refl; within = tt }

  carries_not-unsent : ¬ Carries sizes 1 gave took [] (Accepts 4 (numbered 1) ∷ []) unseen
  carries_not-unsent c = let e : ◌≡◌ {A = List Frame} (numbered 1 ∷ []) [] = c.accepted in absurd cc

  -- nor more than the capacity
  carries_not-full : (ends : Ends P) → ¬ Carries sizes 0 gave took [] (Accepts 4 (numbered 1) ∷ []) ends
  carries_not-full ends c = omega (arith, c.within.0)

  -- as many ends as connections
  carry-one : CarryOn sizes 1 gave took [] [] [] (unseen ∷ [])
  carry-one = carries-nothing

  carry_not-none : ¬ CarryOn sizes 1 gave took [] [] [] []
  carry_not-none c = c

  carry_not-two : ¬ CarryOn sizes 1 gave took [] [] [] (unseen ∷ unseen ∷ [])
  carry_not-two c = c

  quiet : IsLinkOfPipes sizes 1 gave took [] [] [] [] [] (unseen ∷ []) [] []
  quiet = record { whole = refl; carries = carries-nothing; outs_are = refl; intos_are = refl; accepted = refl; given = refl; in_order = tt }

  -- no stretch begins with half a line; what a node sent, its link accepted; and no connection is left out
  quiet_not-half : ¬ IsLinkOfPipes sizes 1 gave took (70 ∷ []) [] [] [] [] (unseen ∷ []) [] []
  quiet_not-half l = let e : ◌≡◌ {A = List ℕ} (70 ∷ []) [] = l.whole in absurd cc

  quiet_not-sent : ¬ IsLinkOfPipes sizes 1 gave took [] (Accepts 4 (numbered 1) ∷ []) [] [] [] (unseen ∷ []) [] []
  quiet_not-sent l = let e : ◌≡◌ {A = List Act} [] (Accepts 4 (numbered 1) ∷ []) = l.accepted in absurd cc

  quiet_not-other : (link : SocketLink P) → ¬ IsLinkOfPipes sizes 1 gave took [] [] [] [] [] (unseen ∷ []) (stood link [] [] ∷ []) []
  quiet_not-other link l = let e : ◌≡◌ {A = List (Stood P)} [] (stood link [] [] ∷ []) = l.outs_are in absurd cc
