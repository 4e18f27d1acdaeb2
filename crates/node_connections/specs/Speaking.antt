-- What a port says: whether a frame is offered, and what becomes of it.
use Rattle.std.specs.Prelude.{◌≡◌, ℕ, Bool, true, false, is_some, not, ◌&&◌, List, Option, None, Some}
use Rattle.socket_links.specs.Counts.{Counts}
use Rattle.socket_links.specs.Links.{Offered, Pushed}
use Rattle.socket_links.specs.declared.writing.Flow.{Flow}
use Rattle.socket_links.specs.declared.writing.Flow.TheVariants as flow
use Rattle.socket_links.specs.declared.link.Offer.{Offer}
use Rattle.socket_links.specs.declared.link.Offer.TheVariants as offer
use Rattle.node_connections.specs.declared.port.NodePort.{NodePort}

-- some of the line that was accepted last is left, since the pipe takes no more now
abbrev pub is_left : Flow → Bool
is_left flow.Done = false
is_left flow.Later = true
is_left flow.Broken = false

-- The port's link wrote what was left of its last line, as far as its pipe took it.
pub record PushesOut {P : Type 0} (gave took : P → Option (List ℕ)) (counts : P → Counts)
    (old new : NodePort P) : Type 0 where
  pub came : Flow
  pub pushed : Pushed gave took counts old.link new.link came
  pub loose : old.link.pipe ≡ None → came ≡ flow.Done
  pub stuck : new.is_stuck ≡ is_left came
  pub greeting : new.greeting ≡ old.greeting

-- what follows the link's answer to an offer: an accepted line is written at once, and after any
-- other answer nothing has changed
abbrev pub Follows : {P : Type 0} → (P → Option (List ℕ)) → (P → Option (List ℕ)) → (P → Counts)
    → Offer → NodePort P → NodePort P → Bool → Type 0
Follows gave took counts offer.Taken accepted new is_taken =
    PushesOut gave took counts accepted new × (is_taken ≡ true)
Follows gave took counts offer.Busy accepted new is_taken = (new ≡ accepted) × (is_taken ≡ false)
Follows gave took counts offer.Loose accepted new is_taken = (new ≡ accepted) × (is_taken ≡ false)

-- The port's link was offered a line, which it accepted or not.
pub record OffersLine {P : Type 0} (gave took : P → Option (List ℕ)) (counts : P → Counts)
    (line : List ℕ) (old new : NodePort P) (is_taken : Bool) : Type 0 where
  pub answer : Offer
  pub accepted : NodePort P
  pub offered : Offered line old.link accepted.link answer
  pub stuck : accepted.is_stuck ≡ old.is_stuck
  pub greeting : accepted.greeting ≡ old.greeting
  pub follows : Follows gave took counts answer accepted new is_taken

-- the line is offered, or nothing is
abbrev pub OffersIf : {P : Type 0} → (P → Option (List ℕ)) → (P → Option (List ℕ)) → (P → Counts)
    → Bool → List ℕ → NodePort P → NodePort P → Bool → Type 0
OffersIf gave took counts true line old new is_taken =
    OffersLine gave took counts line old new is_taken
OffersIf gave took counts false line old new is_taken = (new ≡ old) × (is_taken ≡ false)

-- The port wrote what was left of its last line; then a line was offered, or none was.
pub record PortSpeaks {P : Type 0} (gave took : P → Option (List ℕ)) (counts : P → Counts)
    (line : List ℕ) (is_offered : Bool) (old new : NodePort P) (is_taken : Bool) : Type 0 where
  pub pushed : NodePort P
  pub pushes : PushesOut gave took counts old pushed
  pub offers : OffersIf gave took counts is_offered line pushed new is_taken

-- the port has a connection, and is not stuck
abbrev pub takes_frames : {P : Type 0} → Option (NodePort P) → Bool
takes_frames None = false
takes_frames (Some port) = is_some port.link.pipe && not port.is_stuck
