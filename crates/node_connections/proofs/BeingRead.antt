-- Clients that are read, one after the other.
use Rattle.std.proofs.Common.{◌≡◌, ◌<◌, ◌+◌, ℕ, List, Option, None, Some, sym, subst, inl, inr, arith}
use Rattle.slab.specs.Slab.{get, slab_len}
use Rattle.socket_links.specs.Counts.{Counts}
use Rattle.socket_links.specs.declared.pipe.ReadAnswer.{ReadAnswer}
use Rattle.node_connections.specs.declared.clients.Client.{Client}
use Rattle.node_connections.specs.declared.clients.Clients.{Clients}
use Rattle.node_connections.specs.Lives.{AllRead, IsOfLive, IsReadAt, LivesAt, LiveOn, ReadsAt, Stays, Then}
use Rattle.node_connections.proofs.GoingOut.{none-in_empty}
use Rattle.node_connections.proofs.Lives.{stays-at}
use Rattle.node_connections.proofs.Places.{below-or-last}

module _ {P : Type 0} (gave took : P → Option (List ℕ)) (counts : P → Counts) where
  pub read-here : (answer : ReadAnswer) (bytes : List ℕ) (x y : Option (Client P)) → IsOfLive answer → ReadsAt gave took counts answer bytes x y → IsReadAt gave took counts x y
  read-here answer bytes x None live f = tt
  read-here answer bytes None (Some b) live f = absurd (let e = f.0 in cc)
  read-here answer bytes (Some a) (Some b) live (f, same) = record {
    before = a.pipe;
    after = b.pipe;
    lives = Stays;
    read = (answer, bytes, live, f, same);
    lives_on = Stays;
  }

  pub read-gone : (x y : Option (Client P)) → y ≡ None → IsReadAt gave took counts x y
  read-gone x y e = subst (λ z. IsReadAt gave took counts x z) (sym e) tt

  -- a client lives before it is read, and after that
  between : (w x y z : Option (Client P)) → LivesAt gave took counts w x → IsReadAt gave took counts x y → LivesAt gave took counts y z → IsReadAt gave took counts w z
  between w x y None f g h = tt
  between w x None (Some d) f g h = elim h [ ]
  between w None (Some c) (Some d) f g h = elim g [ ]
  between None (Some b) (Some c) (Some d) f g h = elim f [ ]
  between (Some a) (Some b) (Some c) (Some d) f g h = record {
    before = g.before;
    after = g.after;
    lives = Then f g.lives;
    read = g.read;
    lives_on = Then g.lives_on h;
  }

  pub read-then : (x y z : Option (Client P)) → IsReadAt gave took counts x y → LivesAt gave took counts y z → IsReadAt gave took counts x z
  read-then x y z f g = between x x y z (stays-at gave took counts x) f g

  pub then-read : (x y z : Option (Client P)) → LivesAt gave took counts x y → IsReadAt gave took counts y z → IsReadAt gave took counts x z
  then-read x y z f g = between x y z z f g (stays-at gave took counts z)

module _ {P A : Type 0} (gave took : P → Option (List ℕ)) (counts : P → Counts) where
  pub all-of_none : (old : Clients P A) → slab_len old.table ≡ 0 → AllRead gave took counts old old
  all-of_none old empty t few = read-gone gave took counts (get old.table t) (get old.table t) (none-in_empty old.table t empty)

  pub all-then : (a b c : Clients P A) → AllRead gave took counts a b → LiveOn gave took counts b c → AllRead gave took counts a c
  all-then a b c f g t few = read-then gave took counts (get a.table t) (get b.table t) (get c.table t) (f t few) (g t)

  -- so it is below this ticket
  abbrev pub ReadBelow : ℕ → Clients P A → Clients P A → Type 0
  ReadBelow k old new = (t : ℕ) → t < k → IsReadAt gave took counts (get old.table t) (get new.table t)

  pub read-start : (clients : Clients P A) → ReadBelow 0 clients clients
  read-start clients t less = absurd (omega (arith, less))

  pub read-next : (k : ℕ) (old mid new : Clients P A) → ReadBelow k old mid → LiveOn gave took counts old mid → LiveOn gave took counts mid new
      → IsReadAt gave took counts (get mid.table k) (get new.table k) → ReadBelow (k + 1) old new
  read-next k old mid new before lived lives here t less =
      elim (below-or-last t k less) [
        | inl low ↦ read-then gave took counts (get old.table t) (get mid.table t) (get new.table t) (before t low) (lives t)
        | inr is ↦ subst (λ u. IsReadAt gave took counts (get old.table u) (get new.table u)) (sym is)
            (then-read gave took counts (get old.table k) (get mid.table k) (get new.table k) (lived k) here)
      ]
