-- Clients that are closed, one call after the other: each has a cause.
use Rattle.std.proofs.Common.{◌≡◌, ◌⊎◌, ◌<◌, ◌∙◌, ℕ, true, List, ◌∷◌, ◌++◌, Option, None, Some, length, refl, sym, subst, ap, inl, inr, append-nil, append_assoc, []}
use Rattle.std.specs.Prelude.{is_some}
use Rattle.lock_desk.specs.declared.client_line.ClientLine.{ClientLine}
use Rattle.socket_links.specs.Counts.{Counts}
use Rattle.socket_links.specs.declared.pipe.ReadAnswer.{ReadAnswer}
use Rattle.node_connections.specs.declared.clients.Client.{Client}
use Rattle.node_connections.specs.Ends.{EndsAt, EndsByWrite, EndsWithin, HasNoRoom, IsOfGone}
use Rattle.node_connections.specs.Heard.{HeardAt}
use Rattle.node_connections.specs.Lives.{FailsAt, LivesAt, ReadsAt, Stays, Then}
use Rattle.node_connections.proofs.Heard.{heard-join, heard-same}

abbrev pub and-nothing : {X : Type 0} (xs ys : List X) → ys ≡ [] → xs ++ ys ≡ xs
and-nothing xs ys none = ap (λ zs. xs ++ zs) none ∙ append-nil xs

both-nothing : {X : Type 0} (xs ys : List X) → xs ≡ [] → ys ≡ [] → xs ++ ys ≡ []
both-nothing xs ys first second = ap (λ zs. zs ++ ys) first ∙ second

module _ {P : Type 0} (gave took : P → Option (List ℕ)) (counts : P → Counts) where
  -- bytes come after those of which a front part was read
  room-more : (given r s : List ℕ) (a : Client P) (xs : List ℕ) (lines : List ClientLine) (answers : List ℕ) → HasNoRoom gave took counts given r a xs lines answers → HasNoRoom gave took counts given (r ++ s) a xs lines answers
  room-more given r s a xs lines answers f = record {
    last = f.last;
    front = f.front;
    rest = f.rest ++ s;
    lives = f.lives;
    heard = f.heard;
    bytes_are = ap (λ bytes. bytes ++ s) f.bytes_are ∙ append_assoc f.front f.rest s;
    no_room = f.no_room;
  }

  -- a client had lines, and then no room for the answers to more
  room-then : (g h r s : List ℕ) (a b : Client P) (xs ys : List ℕ) (l m : List ClientLine) (p q : List ℕ) → LivesAt gave took counts (Some a) (Some b) → HeardAt gave g r l (Some a) (Some b) → ys ≡ xs ++ p
      → HasNoRoom gave took counts h s b ys m q → HasNoRoom gave took counts (g ++ h) (r ++ s) a xs (l ++ m) (p ++ q)
  room-then g h r s a b xs ys l m p q lives heard waits f = record {
    last = f.last;
    front = r ++ f.front;
    rest = f.rest;
    lives = Then lives f.lives;
    heard = heard-join gave g h r f.front l m (Some a) (Some b) (Some f.last) heard f.heard;
    bytes_are = ap (λ bytes. r ++ bytes) f.bytes_are ∙ sym (append_assoc r f.front f.rest);
    no_room = subst (λ all. 256 < length all) (ap (λ zs. zs ++ q) waits ∙ append_assoc xs p q) f.no_room;
  }

  -- ---- bytes that a client gave before

  -- nothing happened to it
  pub within-same : (s : List ℕ) (x y : Option (Client P)) (xs ys : List ℕ) → y ≡ x → ys ≡ xs → EndsWithin gave took counts s x xs y ys [] []
  within-same s None None xs ys e d = (refl, refl)
  within-same s None (Some c) xs ys e d = absurd cc
  within-same s (Some a) None xs ys e d = absurd cc
  within-same s (Some a) (Some b) xs ys e d = d ∙ sym (append-nil xs)

  -- its reader took bytes that ended no line
  pub within-silent : (s : List ℕ) (x y : Option (Client P)) (xs ys : List ℕ) → is_some y ≡ is_some x → ys ≡ xs → EndsWithin gave took counts s x xs y ys [] []
  within-silent s None None xs ys e d = (refl, refl)
  within-silent s None (Some c) xs ys e d = absurd cc
  within-silent s (Some a) None xs ys e d = absurd cc
  within-silent s (Some a) (Some b) xs ys e d = d ∙ sym (append-nil xs)

  -- its reader took bytes that ended a line, and the line was answered, or there was no room for
  -- the answer
  pub within-line : (s : List ℕ) (line : ClientLine) (text : List ℕ) (x y z : Option (Client P)) (xs ys zs : List ℕ) → LivesAt gave took counts x y → HeardAt gave [] s (line ∷ []) x y → is_some y ≡ true → ys ≡ xs
      → ((zs ≡ ys ++ text) × (z ≡ y)) ⊎ ((256 < length (ys ++ text)) × (z ≡ None)) → EndsWithin gave took counts s x xs z zs (line ∷ []) text
  within-line s line text x None z xs ys zs lives heard there same told = absurd cc
  within-line s line text None (Some b) z xs ys zs lives heard there same told = elim heard [ ]
  within-line s line text (Some a) (Some b) z xs ys zs lives heard there same (inl (waits, is)) =
      subst (λ o. EndsWithin gave took counts s (Some a) xs o zs (line ∷ []) text) (sym is) (waits ∙ ap (λ all. all ++ text) same)
  within-line s line text (Some a) (Some b) z xs ys zs lives heard there same (inr (more, is)) =
      subst (λ o. EndsWithin gave took counts s (Some a) xs o zs (line ∷ []) text) (sym is) record {
        last = b;
        front = s;
        rest = [];
        lives = lives;
        heard = heard;
        bytes_are = sym (append-nil s);
        no_room = subst (λ all. 256 < length (all ++ text)) same more;
      }

  -- bytes, and then more bytes
  pub within-join : (r s : List ℕ) (x y z : Option (Client P)) (xs ys zs : List ℕ) (l m : List ClientLine) (p q : List ℕ) → LivesAt gave took counts x y → HeardAt gave [] r l x y
      → EndsWithin gave took counts r x xs y ys l p → EndsWithin gave took counts s y ys z zs m q → EndsWithin gave took counts (r ++ s) x xs z zs (l ++ m) (p ++ q)
  within-join r s None None None xs ys zs l m p q lives heard f g = (both-nothing l m f.0 g.0, both-nothing p q f.1 g.1)
  within-join r s x None (Some c) xs ys zs l m p q lives heard f g = elim g [ ]
  within-join r s None (Some b) z xs ys zs l m p q lives heard f g = elim heard [ ]
  within-join r s (Some a) None None xs ys zs l m p q lives heard f g =
      subst (λ lines. HasNoRoom gave took counts [] (r ++ s) a xs lines (p ++ q)) (sym (and-nothing l m g.0)) (subst (λ answers. HasNoRoom gave took counts [] (r ++ s) a xs l answers) (sym (and-nothing p q g.1)) (room-more [] r s a xs l p f))
  within-join r s (Some a) (Some b) None xs ys zs l m p q lives heard f g = room-then [] [] r s a b xs ys l m p q lives heard f g
  within-join r s (Some a) (Some b) (Some c) xs ys zs l m p q lives heard f g = g ∙ (ap (λ all. all ++ q) f ∙ append_assoc xs p q)

  -- ---- a client that is read, and then served

  -- nothing was heard from it
  pub at-silent : (x y : Option (Client P)) (xs ys : List ℕ) → is_some y ≡ is_some x → ys ≡ xs → EndsAt gave took counts x xs y ys [] []
  at-silent None None xs ys e d = (refl, refl)
  at-silent None (Some c) xs ys e d = absurd cc
  at-silent (Some a) None xs ys e d = absurd cc
  at-silent (Some a) (Some b) xs ys e d = d ∙ sym (append-nil xs)

  -- a read said that it is gone, and it was closed
  pub at-gone : (answer : ReadAnswer) (bytes : List ℕ) (x y z : Option (Client P)) (xs zs : List ℕ) → IsOfGone answer → ReadsAt gave took counts answer bytes x y → z ≡ None → EndsAt gave took counts x xs z zs [] []
  at-gone answer bytes None y z xs zs live f is = subst (λ o. EndsAt gave took counts None xs o zs [] []) (sym is) (refl, refl)
  at-gone answer bytes (Some a) None z xs zs live f is = elim f [ ]
  at-gone answer bytes (Some a) (Some b) z xs zs live (f, same) is =
      subst (λ o. EndsAt gave took counts (Some a) xs o zs [] []) (sym is) (inl record {
        last = a;
        bytes = [];
        lives = Stays;
        heard = heard-same gave (Some a) (Some a) refl;
        gone = (b.pipe, answer, bytes, live, f, same);
      })

  -- it was read, and its bytes were served
  pub at-within : (bytes : List ℕ) (x y z : Option (Client P)) (xs ys zs : List ℕ) (l : List ClientLine) (p : List ℕ) → LivesAt gave took counts x y → HeardAt gave bytes [] [] x y → is_some y ≡ is_some x → ys ≡ xs
      → EndsWithin gave took counts bytes y ys z zs l p → EndsAt gave took counts x xs z zs l p
  at-within bytes None None None xs ys zs l p lives heard there same f = f
  at-within bytes x None (Some c) xs ys zs l p lives heard there same f = elim f [ ]
  at-within bytes None (Some b) z xs ys zs l p lives heard there same f = elim heard [ ]
  at-within bytes (Some a) None None xs ys zs l p lives heard there same f = absurd cc
  at-within bytes (Some a) (Some b) None xs ys zs l p lives heard there same f =
      inr (bytes, subst (λ given. HasNoRoom gave took counts given bytes a xs l p) (append-nil bytes) (room-then bytes [] [] bytes a b xs ys [] l [] p lives heard (same ∙ sym (append-nil xs)) f))
  at-within bytes (Some a) (Some b) (Some c) xs ys zs l p lives heard there same f = f ∙ ap (λ all. all ++ p) same

  -- it was served, and then served once more
  pub at-join : (bytes : List ℕ) (x y z : Option (Client P)) (xs ys zs : List ℕ) (l m : List ClientLine) (p q : List ℕ) → LivesAt gave took counts x y → HeardAt gave bytes bytes l x y
      → EndsAt gave took counts x xs y ys l p → EndsAt gave took counts y ys z zs m q → EndsAt gave took counts x xs z zs (l ++ m) (p ++ q)
  at-join bytes None None None xs ys zs l m p q lives heard f g = (both-nothing l m f.0 g.0, both-nothing p q f.1 g.1)
  at-join bytes x None (Some c) xs ys zs l m p q lives heard f g = elim g [ ]
  at-join bytes None (Some b) z xs ys zs l m p q lives heard f g = elim heard [ ]
  at-join bytes (Some a) None None xs ys zs l m p q lives heard f g =
      subst (λ lines. EndsAt gave took counts (Some a) xs None zs lines (p ++ q)) (sym (and-nothing l m g.0)) (subst (λ answers. EndsAt gave took counts (Some a) xs None zs l answers) (sym (and-nothing p q g.1)) f)
  at-join bytes (Some a) (Some b) None xs ys zs l m p q lives heard f (inl gone) = inl record {
    last = gone.last;
    bytes = bytes ++ gone.bytes;
    lives = Then lives gone.lives;
    heard = heard-join gave bytes gone.bytes bytes gone.bytes l m (Some a) (Some b) (Some gone.last) heard gone.heard;
    gone = gone.gone;
  }
  at-join bytes (Some a) (Some b) None xs ys zs l m p q lives heard f (inr (more, g)) = inr (bytes ++ more, room-then bytes more bytes more a b xs ys l m p q lives heard f g)
  at-join bytes (Some a) (Some b) (Some c) xs ys zs l m p q lives heard f g = g ∙ (ap (λ all. all ++ q) f ∙ append_assoc xs p q)

  -- ---- answers that are written

  pub write-still : (x y : Option (Client P)) → is_some y ≡ is_some x → EndsByWrite gave took counts x y
  write-still None y e = tt
  write-still (Some a) None e = absurd cc
  write-still (Some a) (Some b) e = tt

  -- a client to which a write failed was closed
  pub write-failed : (x y z : Option (Client P)) → FailsAt gave took counts x y → z ≡ None → EndsByWrite gave took counts x z
  write-failed None y z f e = tt
  write-failed (Some a) None z f e = elim f [ ]
  write-failed (Some a) (Some b) z f e = subst (λ o. EndsByWrite gave took counts (Some a) o) (sym e) (a, b, Stays, f)

  pub write-join : (x y z : Option (Client P)) → LivesAt gave took counts x y → EndsByWrite gave took counts x y → EndsByWrite gave took counts y z → EndsByWrite gave took counts x z
  write-join None y z lives f g = tt
  write-join (Some a) y (Some c) lives f g = tt
  write-join (Some a) None None lives f g = f
  write-join (Some a) (Some b) None lives f (last, failed, on, fails) = (last, failed, Then lives on, fails)
