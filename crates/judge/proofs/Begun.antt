-- How a stretch begins: the tallies of the links, edge by edge.
use Rattle.std.proofs.Common.{◌≡◌, ◌∙◌, sym, ap, subst, ℕ, ◌+◌, ◌<◌, Bool, true, false, ◌==◌, ◌&&◌, ◌||◌, nat_lt, if◌then◌else◌, IsTrue, List, [], take, length, get_or, refl, arith}
use Rattle.std.proofs.lemmas.Bool.{false≢true}
use Rattle.std.proofs.lemmas.Grind.{common_steps}
use Rattle.std.proofs.lemmas.List.Folds.{list_any_at, list_any_more}
use Rattle.topology.specs.Network.{Edge, Network, are_joined, is_between}
use Rattle.configuration.specs.run_model.World.{World, at_pair}
use Rattle.judge.specs.declared.tallies.Tally.{Tally}
use Rattle.judge.specs.Tallies.{has_place, tally_of, first_tally}
use Rattle.judge.specs.Stretch.{StretchView, IsRoomFor, has_bit, IsKept}
use Rattle.judge.specs.Below.{Below}

-- the tallies of these edges are begun, and pairs without a link lack nothing
pub record AreBegun (w : World) (edges : List Edge) (s : StretchView) : Type 0 where
  pub room : IsRoomFor w.net s
  pub lacking : (v : ℕ) → has_bit s.lacking v ≡ nat_lt v w.net.nodes
  pub begun : (u v : ℕ) → v < w.net.nodes → IsTrue (are_joined edges u v) → tally_of s.tallies u v ≡ first_tally w u v

-- an edge of a list joins its ends
pub joins-ends : (edges : List Edge) (i : ℕ) → i < length edges → IsTrue (are_joined edges (get_or edges i (0, 0)).0 (get_or edges i (0, 0)).1)
joins-ends edges i there =
    let e = get_or edges i (0, 0) in
    list_any_at (is_between e.0 e.1) edges i (0, 0) there (grind (arith, common_steps))

joins-back : (edges : List Edge) (i : ℕ) → i < length edges → IsTrue (are_joined edges (get_or edges i (0, 0)).1 (get_or edges i (0, 0)).0)
joins-back edges i there =
    let e = get_or edges i (0, 0) in
    list_any_at (is_between e.1 e.0) edges i (0, 0) there (grind (arith, common_steps))

-- if there is room for a network, both links of each edge have a place
module _ (net : Network) (edges : List Edge) (same : edges ≡ net.edges) (i : ℕ) (there : i < length edges) (s : StretchView) (room : IsRoomFor net s) where
  pub placed-out : IsTrue (has_place s.tallies.table (get_or edges i (0, 0)).0 (get_or edges i (0, 0)).1)
  placed-out = room.placed _ _ (subst (λ es. IsTrue (are_joined es (get_or edges i (0, 0)).0 (get_or edges i (0, 0)).1)) same (joins-ends edges i there))

  pub placed-back : IsTrue (has_place s.tallies.table (get_or edges i (0, 0)).1 (get_or edges i (0, 0)).0)
  placed-back = room.placed _ _ (subst (λ es. IsTrue (are_joined es (get_or edges i (0, 0)).1 (get_or edges i (0, 0)).0)) same (joins-back edges i there))

-- both links of an edge are written
both-written : (first old : ℕ → ℕ → Tally) (a b u v : ℕ) → at_pair (at_pair old a b (first a b)) b a (first b a) u v ≡ (if is_between u v (a, b) then first u v else old u v)
both-written first old a b u v = grind (arith, common_steps)

two-writes : (old one new : StretchView) (first : ℕ → ℕ → Tally) (a b u v : ℕ) → v < old.tallies.table.nodes → one.tallies.table.nodes ≡ old.tallies.table.nodes
    → ((u v : ℕ) → v < old.tallies.table.nodes → tally_of one.tallies u v ≡ at_pair (tally_of old.tallies) a b (first a b) u v)
    → ((u v : ℕ) → v < one.tallies.table.nodes → tally_of new.tallies u v ≡ at_pair (tally_of one.tallies) b a (first b a) u v)
    → tally_of new.tallies u v ≡ (if is_between u v (a, b) then first u v else tally_of old.tallies u v)
two-writes old one new first a b u v vn nodes tallies tallies' =
    tallies' u v (subst (λ n. v < n) (sym nodes) vn)
    ∙ ap (λ t. if (u == b) && (v == a) then first b a else t) (tallies u v vn)
    ∙ both-written first (tally_of old.tallies) a b u v

not-chosen : (b : Bool) (first old : Tally) → (b ≡ true → ⊥) → old.renewed ≡ true → (if b then first else old).renewed ≡ true
not-chosen true first old other is = absurd (other refl)
not-chosen false first old other is = is

chosen : (b before : Bool) (first old : Tally) → (before ≡ true → old ≡ first) → (before || b) ≡ true → (if b then first else old) ≡ first
chosen true before first old is any = refl
chosen false true first old is any = is refl
chosen false false first old is any = absurd (false≢true any)

-- one more edge
module _ (w : World) (edges : List Edge) (same : edges ≡ w.net.edges) (i : ℕ) (there : i < length edges) (s one new : StretchView) where
  abbrev e : Edge
  e = get_or edges i (0, 0)

  pub begun-more : AreBegun w (take i edges) s
      → one.tallies.table ≡ s.tallies.table → one.lacking ≡ s.lacking
      → ((u v : ℕ) → v < s.tallies.table.nodes → tally_of one.tallies u v ≡ at_pair (tally_of s.tallies) e.0 e.1 (first_tally w e.0 e.1) u v)
      → new.tallies.table ≡ one.tallies.table → new.lacking ≡ one.lacking
      → ((u v : ℕ) → v < one.tallies.table.nodes → tally_of new.tallies u v ≡ at_pair (tally_of one.tallies) e.1 e.0 (first_tally w e.1 e.0) u v)
      → AreBegun w (take (i + 1) edges) new
  begun-more begun table lacking tallies table' lacking' tallies' = record {
    room = record {
      nodes = ap (λ t. t.nodes) (table' ∙ table) ∙ begun.room.nodes;
      placed = λ u v joined. rw (table' ∙ table) (begun.room.placed u v joined);
      apart = apart;
    };
    lacking = λ v. ap (λ m. has_bit m v) (lacking' ∙ lacking) ∙ begun.lacking v;
    begun = all;
  }
    where
      after : (u v : ℕ) → v < w.net.nodes → tally_of new.tallies u v ≡ (if is_between u v e then first_tally w u v else tally_of s.tallies u v)
      after u v vn = two-writes s one new (first_tally w) e.0 e.1 u v (subst (λ n. v < n) (sym begun.room.nodes) vn) (ap (λ t. t.nodes) table) tallies tallies'

      apart : (u v : ℕ) → u < w.net.nodes → v < w.net.nodes → are_joined w.net.edges u v ≡ false → (tally_of new.tallies u v).renewed ≡ true
      apart u v un vn none =
          ap (λ t. t.renewed) (after u v vn)
          ∙ not-chosen (is_between u v e) (first_tally w u v) (tally_of s.tallies u v) (λ t. false≢true (sym (ap (λ es. are_joined es u v) same ∙ none) ∙ list_any_at (is_between u v) edges i (0, 0) there t))
          (begun.room.apart u v un vn none)

      all : (u v : ℕ) → v < w.net.nodes → IsTrue (are_joined (take (i + 1) edges) u v) → tally_of new.tallies u v ≡ first_tally w u v
      all u v vn joined =
          after u v vn
          ∙ chosen (is_between u v e) (are_joined (take i edges) u v) (first_tally w u v) (tally_of s.tallies u v) (begun.begun u v vn)
          (sym (list_any_more (is_between u v) edges i (0, 0) there) ∙ joined)

pub begun-kept : Below → (w : World) (new : StretchView) → AreBegun w w.net.edges new
    → ((u v : ℕ) → IsTrue (are_joined w.net.edges u v) → (u < w.net.nodes) × (v < w.net.nodes)) → IsKept w [] new
begun-kept laws w new begun ends = record {
  nodes = begun.room.nodes;
  lacking = λ v. let a = begun.lacking v in grind (arith, common_steps, a);
  old = λ u v joined. ap (λ t. t.old) (begun.begun u v (ends u v joined).1 joined) ∙ sym (laws.old_start w u v);
  renewed = λ u v joined. ap (λ t. t.renewed) (begun.begun u v (ends u v joined).1 joined);
  apart = begun.room.apart;
}
