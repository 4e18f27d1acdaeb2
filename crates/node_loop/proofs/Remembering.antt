-- What a pace remembers while a node listens and ticks.
use Rattle.std.proofs.Common.{◌≡◌, ◌≢◌, ℕ, Bool, refl, inl, inr, sym, subst, ap, ◌∙◌}
use Rattle.std.proofs.lemmas.Bool.{cases_eq}
use Rattle.topology.specs.declared.frame.Frame.{Frame}
use Rattle.pace.specs.Plans.{called_port, port_of}
use Rattle.pace.specs.Ports.{fresh_port, heard_port}
use Rattle.pace.specs.declared.pace.TurnPace.{TurnPace}
use Rattle.pace.specs.declared.port.PortPace.{PortPace}
use Rattle.node_loop.specs.Remembering.{Remembers, StillGiven}

still-same : (p : PortPace) → StillGiven p p
still-same p = inl (refl, refl)

still-join : (p q r : PortPace) → StillGiven p q → StillGiven q r → StillGiven p r
still-join p q r f (inr none) = inr none
still-join p q r (inl e) (inl d) = inl (d.0 ∙ e.0, d.1 ∙ e.1)
still-join p q r (inr none) (inl d) = inr (d.0 ∙ none)

still-called : (p : PortPace) (is_called : Bool) → StillGiven p (called_port is_called p)
still-called p is_called = inl (refl, refl)

still-heard : (p : PortPace) (frame : Frame) (now : ℕ) → StillGiven p (heard_port frame now p)
still-heard p frame now = inl (refl, refl)

pub remembers-same : (pace : TurnPace) → Remembers pace pace
remembers-same pace = record { manner = refl; ports = λ p. still-same (port_of pace.ports p) }

pub remembers-equal : (old new : TurnPace) → new ≡ old → Remembers old new
remembers-equal old new e = subst (λ x. Remembers old x) (sym e) (remembers-same old)

pub remembers-join : (a b c : TurnPace) → Remembers a b → Remembers b c → Remembers a c
remembers-join a b c f g = record {
  manner = g.manner ∙ f.manner;
  ports = λ p. still-join (port_of a.ports p) (port_of b.ports p) (port_of c.ports p) (f.ports p) (g.ports p);
}

-- what is so of one port, and of each other
remembers-at : (old new : TurnPace) (id : ℕ) → StillGiven (port_of old.ports id) (port_of new.ports id) → ((p : ℕ) → p ≢ id → StillGiven (port_of old.ports p) (port_of new.ports p))
    → new.manner ≡ old.manner → Remembers old new
remembers-at old new id here others manner = record {
  manner = manner;
  ports = λ p.
      elim (cases_eq p id) [
        | inl e ↦ rw e here
        | inr n ↦ others p n
      ];
}

-- a port has a new connection
pub remembers-attached : (old new : TurnPace) (id : ℕ) → port_of new.ports id ≡ fresh_port → ((p : ℕ) → p ≢ id → port_of new.ports p ≡ port_of old.ports p) → new.manner ≡ old.manner → Remembers old new
remembers-attached old new id fresh others manner =
    remembers-at old new id (inr (ap (λ x. x.given) fresh)) (λ p n. subst (λ x. StillGiven (port_of old.ports p) x) (sym (others p n)) (still-same (port_of old.ports p))) manner

-- a port brought a frame, and a call may go on at others
pub remembers-heard : (old new : TurnPace) (id now : ℕ) (frame : Frame) (calls : ℕ → Bool) → port_of new.ports id ≡ heard_port frame now (port_of old.ports id)
    → ((p : ℕ) → p ≢ id → port_of new.ports p ≡ called_port (calls p) (port_of old.ports p)) → new.manner ≡ old.manner → Remembers old new
remembers-heard old new id now frame calls heard others manner =
    remembers-at old new id (subst (λ x. StillGiven (port_of old.ports id) x) (sym heard) (still-heard (port_of old.ports id) frame now))
    (λ p n. subst (λ x. StillGiven (port_of old.ports p) x) (sym (others p n)) (still-called (port_of old.ports p) (calls p))) manner

-- a tick may call at each of them
pub remembers-ticked : (old new : TurnPace) (calls : ℕ → Bool) → ((p : ℕ) → port_of new.ports p ≡ called_port (calls p) (port_of old.ports p)) → new.manner ≡ old.manner → Remembers old new
remembers-ticked old new calls ports manner = record {
  manner = manner;
  ports = λ p. subst (λ x. StillGiven (port_of old.ports p) x) (sym (ports p)) (still-called (port_of old.ports p) (calls p));
}
