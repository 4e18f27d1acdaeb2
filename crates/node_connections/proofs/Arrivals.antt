-- A first line that comes, byte by byte.
use Rattle.std.proofs.Common.{◌≡◌, ◌<◌, ◌≤◌, ◌+◌, ◌∙◌, ◌++◌, ◌∷◌, ℕ, zero, suc, List, Option, None, Some, length, take, slice_index, refl, sym, subst, ap, arith, append_assoc, append-nil, []}
use Rattle.std.specs.Prelude.{slice_set, IsSome}
use Rattle.std.proofs.lemmas.Grind.{common_steps}
use Rattle.std.proofs.lemmas.List.{take_more_set}
use Rattle.slab.specs.Slab.{Slab, get, with_value}
use Rattle.slab.proofs.SlabLemmas.{Updates-with_value}
use Rattle.byte_lines.specs.Lines.{newline}
use Rattle.socket_links.specs.Pipes.{GoesOn}
use Rattle.node_connections.specs.declared.lobby.Arrival.{Arrival}
use Rattle.node_connections.specs.declared.lobby.Arrival.TheVariants as arrival
use Rattle.node_connections.specs.declared.lobby.Visitor.{Visitor}
use Rattle.node_connections.specs.Arrivals.{first_line, IsArrival, Listened, Says}

goes-nothing : (x : Option (List ℕ)) → GoesOn [] x x
goes-nothing None = refl
goes-nothing (Some bytes) = ap (λ b. Some b) (sym (append-nil bytes))

goes-both : (xs ys : List ℕ) (before between after : Option (List ℕ)) → GoesOn xs before between → GoesOn ys between after → GoesOn (xs ++ ys) before after
goes-both xs ys None between after first second = grind (arith, common_steps)
goes-both xs ys (Some bytes) between after first second = grind (arith, common_steps)

-- a read into a buffer of one byte gives that byte
pub one-byte : (n : ℕ) (buffer : List ℕ) → 0 < n → n ≤ length buffer → length buffer ≡ 1 → take n buffer ≡ slice_index buffer 0 ∷ []
one-byte zero buffer some within one = absurd (omega (arith, some))
one-byte (suc n) [] some within one = absurd (omega (arith, one))
one-byte (suc zero) (b ∷ []) some within one = refl
one-byte (suc (suc n)) (b ∷ []) some within one = absurd (omega (arith, within))
one-byte (suc n) (b ∷ c ∷ buffer) some within one = absurd (omega (arith, one))

module _ {P : Type 0} (gave took : P → Option (List ℕ)) where
  -- these bytes came, and stand at the end of the first line
  pub record HasHeard (old now : Visitor P) : Type 0 where
    pub more : List ℕ
    pub came : GoesOn more (gave old.pipe) (gave now.pipe)
    pub unwritten : took now.pipe ≡ took old.pipe
    pub line : first_line now ≡ first_line old ++ more
    pub turns : now.turns ≡ old.turns

  pub heard-start : (v : Visitor P) → HasHeard v v
  heard-start v = record { more = []; came = goes-nothing (gave v.pipe); unwritten = refl; line = sym (append-nil (first_line v)); turns = refl }

  -- one more byte came: it was read into a buffer of one byte
  more-of : (old now next : Visitor P) (n : ℕ) (buffer : List ℕ) (so : HasHeard old now) → 0 < n → n ≤ length buffer → length buffer ≡ 1
      → GoesOn (take n buffer) (gave now.pipe) (gave next.pipe) → GoesOn (so.more ++ slice_index buffer 0 ∷ []) (gave old.pipe) (gave next.pipe)
  more-of old now next n buffer so some within one goes =
      goes-both so.more (slice_index buffer 0 ∷ []) (gave old.pipe) (gave now.pipe) (gave next.pipe) so.came
      (subst (λ bytes. GoesOn bytes (gave now.pipe) (gave next.pipe)) (one-byte n buffer some within one) goes)

  -- and stands at the end of the line
  pub heard-next : (old now next : Visitor P) (n : ℕ) (buffer : List ℕ) → HasHeard old now → 0 < n → n ≤ length buffer → length buffer ≡ 1
      → GoesOn (take n buffer) (gave now.pipe) (gave next.pipe) → took next.pipe ≡ took now.pipe → now.count < length now.line
      → next.line ≡ slice_set now.line now.count (slice_index buffer 0) → next.count ≡ now.count + 1 → next.turns ≡ now.turns → HasHeard old next
  heard-next old now next n buffer so some within one goes wrote room line count turns = record {
    more = so.more ++ slice_index buffer 0 ∷ [];
    came = more-of old now next n buffer so some within one goes;
    unwritten = wrote ∙ so.unwritten;
    line = rw (count, line)
        (take_more_set now.line now.count (slice_index buffer 0) room
        ∙ (ap (λ l. l ++ slice_index buffer 0 ∷ []) so.line ∙ append_assoc (first_line old) so.more (slice_index buffer 0 ∷ [])));
    turns = turns ∙ so.turns;
  }

  -- nothing came
  pub heard-same : (old now next : Visitor P) → HasHeard old now → gave next.pipe ≡ gave now.pipe → took next.pipe ≡ took now.pipe
      → next.line ≡ now.line → next.count ≡ now.count → next.turns ≡ now.turns → HasHeard old next
  heard-same old now next so given wrote line count turns = record {
    more = so.more;
    came = subst (λ x. GoesOn so.more (gave old.pipe) x) (sym given) so.came;
    unwritten = wrote ∙ so.unwritten;
    line = rw (count, line) so.line;
    turns = turns ∙ so.turns;
  }

  -- a visitor that goes
  pub goes-then : (nodes : ℕ) (old now : Visitor P) → HasHeard old now → Listened gave took nodes old now arrival.Goes
  goes-then nodes old now so = record { more = so.more; came = so.came; unwritten = so.unwritten; says = tt }

  pub goes-full : (nodes : ℕ) (old now next : Visitor P) (n : ℕ) (buffer : List ℕ) → HasHeard old now → 0 < n → n ≤ length buffer → length buffer ≡ 1
      → GoesOn (take n buffer) (gave now.pipe) (gave next.pipe) → took next.pipe ≡ took now.pipe → Listened gave took nodes old next arrival.Goes
  goes-full nodes old now next n buffer so some within one goes wrote = record {
    more = so.more ++ slice_index buffer 0 ∷ [];
    came = more-of old now next n buffer so some within one goes;
    unwritten = wrote ∙ so.unwritten;
    says = tt;
  }

  -- a visitor that waits on, after one more turn
  pub waits-on : (nodes : ℕ) (old now next : Visitor P) → HasHeard old now → next.pipe ≡ now.pipe → next.line ≡ now.line → next.count ≡ now.count
      → next.turns ≡ now.turns + 1 → next.turns < 256 → Listened gave took nodes old next arrival.Waits
  waits-on nodes old now next so pipe line count turns few = record {
    more = so.more;
    came = rw pipe so.came;
    unwritten = rw pipe so.unwritten;
    says = (rw (count, line) so.line, turns ∙ ap (λ k. k + 1) so.turns, few);
  }

  -- a line that ends
  says-of : (nodes : ℕ) (old now next : Visitor P) (answer : Arrival) (so : HasHeard old now) → IsArrival nodes (first_line now) answer → Says nodes (so.more ++ newline ∷ []) old next answer
  says-of nodes old now next arrival.Waits so is = elim is [ ]
  says-of nodes old now next arrival.Goes so is = tt
  says-of nodes old now next (arrival.Is id) so is =
      (sym (append_assoc (first_line old) so.more (newline ∷ [])) ∙ ap (λ l. l ++ newline ∷ []) (sym so.line ∙ is.0), is.1)

  pub line-ends : (nodes : ℕ) (old now next : Visitor P) (n : ℕ) (buffer : List ℕ) (answer : Arrival) → HasHeard old now → 0 < n → n ≤ length buffer → length buffer ≡ 1
      → GoesOn (take n buffer) (gave now.pipe) (gave next.pipe) → took next.pipe ≡ took now.pipe → slice_index buffer 0 ≡ newline → IsArrival nodes (first_line now) answer
      → Listened gave took nodes old next answer
  line-ends nodes old now next n buffer answer so some within one goes wrote ends is = record {
    more = so.more ++ newline ∷ [];
    came = subst (λ b. GoesOn (so.more ++ b ∷ []) (gave old.pipe) (gave next.pipe)) ends (more-of old now next n buffer so some within one goes);
    unwritten = wrote ∙ so.unwritten;
    says = says-of nodes old now next answer so is;
  }

-- a visitor that was just written back is the one that is taken out
pub taken-out : {P : Type 0} (s : Slab (Visitor P)) (k : ℕ) (old new visitor : Visitor P) → Some old ≡ get s k → Some visitor ≡ get (with_value s k new) k → new.pipe ≡ visitor.pipe
taken-out s k old new visitor there is =
    let changed : get (with_value s k new) k ≡ Some new = (Updates-with_value s k new (subst (λ x. IsSome x) there refl)).changed in
    let e : Some visitor ≡ Some new = is ∙ changed in
    let same : visitor ≡ new = cc in ap (λ v. v.pipe) (sym same)
