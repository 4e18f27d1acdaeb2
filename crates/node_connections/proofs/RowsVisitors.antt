-- Small examples of visitors that say who they are, and some that look like them and do not.
use Rattle.std.proofs.Common.{◌≡◌, ◌+◌, ℕ, List, ◌++◌, Option, None, Some, codes, refl, arith, []}
use Rattle.node_connections.specs.declared.lobby.Arrival.TheVariants as arrival
use Rattle.node_connections.specs.declared.lobby.Visitor.{Visitor}
use Rattle.node_connections.specs.Arrivals.{first_line, HasSaid, Listened, Says}

module _ {P : Type 0} (gave took : P → Option (List ℕ)) (old new : Visitor P) where
  line-so-far : (rest : List ℕ) → old.line ≡ codes "H00" ++ rest → old.count ≡ 2 → first_line old ≡ codes "H0"
  line-so-far rest line count = rw (line, count) refl

  module _ (half : first_line old ≡ codes "H00") where
    -- the rest of its hello came
    says-hello : Says 3 (codes "02\n") old new (arrival.Is 2)
    says-hello = (rw half refl, omega arith)

    -- nothing after its newline was read
    says_not-beyond : ¬ Says 3 (codes "02\nF") old new (arrival.Is 2)
    says_not-beyond s = (let e : codes "H00" ++ codes "02\nF" ≡ codes "H0002\n" = rw half at s.0 in grind (arith, e))

    -- it is no other node
    says_not-another : ¬ Says 3 (codes "02\n") old new (arrival.Is 1)
    says_not-another s = (let e : codes "H00" ++ codes "02\n" ≡ codes "H0001\n" = rw half at s.0 in grind (arith, e))

    -- if it said nothing more, its line stays, and a turn is over
    listens-on : gave old.pipe ≡ Some [] → gave new.pipe ≡ Some [] → took new.pipe ≡ took old.pipe → first_line new ≡ codes "H00" → new.turns ≡ old.turns + 1 → new.turns ≡ 7
        → Listened gave took 3 old new arrival.Waits
    listens-on before after wrote line turns seven = record { more = []; came = rw (before, after) refl; unwritten = wrote; says = (rw (line, half) refl, turns, omega (arith, seven)) }

    has-said : gave old.pipe ≡ Some [] → gave new.pipe ≡ Some (codes "02\n") → took new.pipe ≡ took old.pipe → HasSaid gave took 3 (Some old) 2 new.pipe
    has-said before after wrote =
        (new, refl, record { more = codes "02\n"; came = rw (before, after) refl; unwritten = wrote; says = (rw half refl, omega arith) })

  -- one that waits has turns left
  waits_not-late : (nodes : ℕ) (more : List ℕ) → new.turns ≡ 256 → ¬ Says nodes more old new arrival.Waits
  waits_not-late nodes more late s = omega (arith, late, s.2)

  -- nothing is written to a visitor
  listened_not-written : took old.pipe ≡ Some [] → took new.pipe ≡ Some (codes "x") → ¬ Listened gave took 3 old new arrival.Goes
  listened_not-written before after l = grind (arith, before, after, l.unwritten)

  said_not-nobody : (p : P) → ¬ HasSaid gave took 3 None 2 p
  said_not-nobody p s = s
