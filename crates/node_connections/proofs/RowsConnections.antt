-- Small examples of clients, visitors, doors and ports, and some that look like them but are not.
use Rattle.std.proofs.Common.{◌≡◌, zero, suc, true, false, ◌∷◌, None, Some, codes, refl, inl, inr, arith, []}
use Rattle.node_connections.specs.Clients.{is_connected, answers_of, GivesWithin, IsReported, room_of}
use Rattle.node_connections.specs.Hearing.{IsWiredAt, Wires}
use Rattle.std.proofs.lemmas.Grind.{common_steps}
use Rattle.lock_desk.specs.declared.act.DeskAct.TheVariants.{Granted, Lost}
use Rattle.socket_links.specs.declared.pipe.ReadAnswer.TheVariants as read
use Rattle.socket_links.specs.declared.writing.Flow.TheVariants as flow
use Rattle.node_connections.specs.declared.clients.Clients.{Clients}
use Rattle.node_connections.specs.declared.doors.Door.TheVariants.{Nobody, Failed}
use Rattle.node_connections.specs.declared.lobby.Arrival.TheVariants as arrival
use Rattle.node_connections.specs.declared.port.NodePort.{NodePort}
use Rattle.node_connections.specs.Arrivals.{IsArrival}
use Rattle.node_connections.specs.Doors.{Opens}
use Rattle.node_connections.specs.Loose.{AreKept, AreLoose, is_linked}
use Rattle.node_connections.specs.Ports.{AtBoth}
use Rattle.node_connections.specs.Speaking.{is_left, takes_frames}

module _ {P A : Type 0} (old new : Clients P A) where
  -- the client of a loan that ended hears of it, unless there is no room or it is closed
  reported_not-silent : answers_of old 3 ≡ [] → answers_of new 3 ≡ [] → is_connected new 3 ≡ true → ¬ IsReported (Lost 3) old new
  reported_not-silent before after there (inl reported, others) = grind (arith, common_steps, before, after, reported.0)
  reported_not-silent before after there (inr closed, others) = grind (arith, there, closed.1)

  -- nor is it closed if there is room
  reported_not-closed : room_of old 3 ≡ 256 → is_connected old 3 ≡ true → is_connected new 3 ≡ false → ¬ IsReported (Granted 3) old new
  reported_not-closed room was closed (inl reported, others) = grind (arith, was, closed, reported.1)
  reported_not-closed room was closed (inr full, others) = grind (arith, room, full.0 (omega arith))

  -- and no other client hears anything
  reported_not-other : answers_of old 4 ≡ [] → answers_of new 4 ≡ codes "lost\n" → ¬ IsReported (Lost 3) old new
  reported_not-other before after (_, others) = grind (arith, before, after, (others 4 (λ e. omega (arith, e))).0)

gives : GivesWithin (read.Got 64) 64
gives = omega arith

gives_not-more : ¬ GivesWithin (read.Got 65) 64
gives_not-more g = omega (arith, g)

-- ---- visitors

-- node 2 of three says who it is; there is no node 3 among them
arrives : IsArrival 3 (codes "H0002") (arrival.Is 2)
arrives = (refl, omega arith)

arrives_not-fourth : ¬ IsArrival 3 (codes "H0003") (arrival.Is 3)
arrives_not-fourth a = omega (arith, a.1)

arrives_not-another : ¬ IsArrival 3 (codes "H0002") (arrival.Is 1)
arrives_not-another a = grind (arith, a.0)

goes_not-known : ¬ IsArrival 3 (codes "H0002") arrival.Goes
goes_not-known g = g 2 (omega arith) refl

goes-unknown : IsArrival 1 (codes "h0000") arrival.Goes
goes-unknown zero below e = grind (arith, e)
goes-unknown (suc id) below e = omega (arith, below)

module _ (P : Type 0) where
  -- a door says that it failed only if its count of failures rose
  fails : Opens {P = P} Failed 3 4
  fails = (omega arith, inl (omega arith))

  fails_not-nobody : ¬ Opens {P = P} Failed 3 3
  fails_not-nobody o = grind (arith, o.1)

  nobody : Opens {P = P} Nobody 3 3
  nobody = omega arith

  -- ---- ports

  linked_not-absent : is_linked {P = P} None ≡ false
  linked_not-absent = refl

  linked : (p : P) (port : NodePort P) → port.link.pipe ≡ Some p → is_linked (Some port) ≡ true
  linked p port pipe = grind (arith, common_steps, pipe)

  -- a node that is no neighbour has no connection
  loose : AreLoose {P = P} (0 ∷ []) []
  loose w other = refl

  loose_not-linked : (p : P) (port : NodePort P) → port.link.pipe ≡ Some p → ¬ AreLoose [] (port ∷ [])
  loose_not-linked p port pipe are = grind (arith, common_steps, linked p port pipe, are 0 (λ c. omega (arith, c.1)))

  -- a neighbour's port that is gone is not kept
  kept_not-gone : (port : NodePort P) → ¬ AreKept (0 ∷ []) (port ∷ []) []
  kept_not-gone port are = grind (arith, are 0 (0, omega arith, refl))

  both_not-one : (R : NodePort P → NodePort P → Type 0) (port : NodePort P) → ¬ AtBoth R (Some port) None
  both_not-one R port both = both

  -- a frame is taken if there is a pipe, and no line is stuck
  takes : (p : P) (port : NodePort P) → port.link.pipe ≡ Some p → port.is_stuck ≡ false → takes_frames (Some port) ≡ true
  takes p port pipe free = grind (arith, common_steps, pipe, free)

  takes_not-stuck : (port : NodePort P) → port.is_stuck ≡ true → takes_frames (Some port) ≡ false
  takes_not-stuck port stuck = grind (arith, common_steps, stuck)

module _ {P : Type 0} where
  -- a port that had a connection keeps it or has another, and is not closed
  wires_not-closed : (p : P) (old new : NodePort P) → old.link.pipe ≡ Some p → new.link.pipe ≡ None → ¬ Wires old new
  wires_not-closed p old new was is (inl same) = grind (arith, same.0, was, is)
  wires_not-closed p old new was is (inr fresh) = grind (arith, fresh.0, is)

  -- if one port is wired, no other loses its connection
  wired_at-same : (port : NodePort P) → IsWiredAt 0 (port ∷ []) (port ∷ [])
  wired_at-same port = (inl (refl, refl), λ w n. refl)

  wired_at_not-other : (p : P) (old new : NodePort P) → old.link.pipe ≡ Some p → new.link.pipe ≡ None → ¬ IsWiredAt 0 (old ∷ old ∷ []) (old ∷ new ∷ [])
  wired_at_not-other p old new was is wired = grind (arith, was, is, wired.1 1 (omega arith))

left : is_left flow.Later ≡ true
left = refl

left_not-done : is_left flow.Done ≡ false
left_not-done = refl
