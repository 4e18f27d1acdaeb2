-- Clients that are read, one after the other: what each gave.
use Rattle.std.proofs.Common.{◌≡◌, ◌≢◌, ◌↔◌, ◌⊎◌, ◌<◌, ◌≤◌, ◌+◌, ◌==◌, ◌||◌, ◌∙◌, ℕ, Bool, true, false, if◌then◌else◌, List, ◌++◌, Option, None, Some, length, take, refl, sym, subst, ap, inl, inr, append-nil, arith, []}
use Rattle.std.proofs.lemmas.Bool.{cases_Bool, cases_eq, cases_lt, eq-eqb, eqb-true, ne_eqb, or_cases, or_left, or_right, true≢false}
use Rattle.std.proofs.lemmas.List.{length-take-le}
use Rattle.slab.specs.Slab.{get, slab_len}
use Rattle.lock_desk.specs.declared.client_line.ClientLine.{ClientLine}
use Rattle.node_connections.specs.socket_links.Counts.{Counts}
use Rattle.node_connections.specs.socket_links.Pipes.{GoesOn}
use Rattle.node_connections.specs.socket_links.declared.pipe.ReadAnswer.{ReadAnswer}
use Rattle.node_connections.specs.socket_links.declared.pipe.ReadAnswer.TheVariants as read
use Rattle.node_connections.specs.declared.clients.Client.{Client}
use Rattle.node_connections.specs.declared.clients.Clients.{Clients}
use Rattle.node_connections.specs.Ends.{IsOfGone}
use Rattle.node_connections.specs.Heard.{HeardAt}
use Rattle.node_connections.specs.Lives.{OthersStay, ReadsAt}
use Rattle.node_connections.proofs.GoingOut.{none-in_empty}
use Rattle.node_connections.proofs.Places.{below-or-last}
use Rattle.node_service.specs.Pieces.{given_by, GivePieces, GivesAt, GivesPiece}

-- a pipe that gave nothing more
goes-same : (x y : Option (List ℕ)) → GoesOn [] x y → y ≡ x
goes-same None y f = f
goes-same (Some xs) y f = f ∙ ap (λ ys. Some ys) (append-nil xs)

-- of one that is gone nothing comes
gone-gives : (answer : ReadAnswer) (buffer : List ℕ) → IsOfGone answer → [] ≡ given_by answer buffer
gone-gives (read.Got n) buffer gone = elim gone [ ]
gone-gives read.Later buffer gone = refl
gone-gives read.Closed buffer gone = refl
gone-gives read.Failed buffer gone = refl

module _ {P : Type 0} (gave took : P → Option (List ℕ)) (counts : P → Counts) where
  -- a read gave bytes, which were then served
  got-gives : (n : ℕ) (buffer bytes : List ℕ) (lines : List ClientLine) (x y z : Option (Client P)) → ReadsAt gave took counts (read.Got n) buffer x y → HeardAt gave [] bytes lines y z
      → GivesAt gave took counts (take n buffer) x z
  got-gives n buffer bytes lines None y z f heard = absurd (let e = f.1 in cc)
  got-gives n buffer bytes lines (Some a) None z f heard = elim f [ ]
  got-gives n buffer bytes lines (Some a) (Some b) None (f, same) heard = (b.pipe, (read.Got n, buffer, refl, f, same))
  got-gives n buffer bytes lines (Some a) (Some b) (Some c) (f, same) heard =
      (b.pipe, (read.Got n, buffer, refl, f, same), goes-same (gave b.pipe) (gave c.pipe) heard.0)

  got-size : (n : ℕ) (buffer : List ℕ) (x y : Option (Client P)) → ReadsAt gave took counts (read.Got n) buffer x y → length (take n buffer) ≡ n
  got-size n buffer None y f = absurd (let e = f.1 in cc)
  got-size n buffer (Some a) None f = elim f [ ]
  got-size n buffer (Some a) (Some b) (f, same) = length-take-le n buffer f.1

  pub piece-got : (n : ℕ) (buffer bytes : List ℕ) (lines : List ClientLine) (x y z : Option (Client P)) → n ≤ 64 → ReadsAt gave took counts (read.Got n) buffer x y → HeardAt gave [] bytes lines y z
      → GivesPiece gave took counts (n == 64) x z
  piece-got n buffer bytes lines x y z few f heard =
      let size = got-size n buffer x y f in
      record {
        bytes = take n buffer;
        gives = got-gives n buffer bytes lines x y z f heard;
        within = omega (arith, size, few);
        whole = ap (λ m. m == 64) (sym size);
      }

  -- it gave nothing yet
  later-gives : (buffer : List ℕ) (x y : Option (Client P)) → ReadsAt gave took counts read.Later buffer x y → GivesAt gave took counts [] x y
  later-gives buffer None y f = refl
  later-gives buffer (Some a) None f = elim f [ ]
  later-gives buffer (Some a) (Some b) (f, same) = (b.pipe, (read.Later, buffer, refl, f, same), refl)

  pub piece-later : (buffer : List ℕ) (x y : Option (Client P)) → ReadsAt gave took counts read.Later buffer x y → GivesPiece gave took counts false x y
  piece-later buffer x y f = record { bytes = []; gives = later-gives buffer x y f; within = omega arith; whole = refl }

  -- it said that it is gone, and was closed
  gone-at : (answer : ReadAnswer) (buffer : List ℕ) (x y : Option (Client P)) → IsOfGone answer → ReadsAt gave took counts answer buffer x y → GivesAt gave took counts [] x None
  gone-at answer buffer None y gone f = refl
  gone-at answer buffer (Some a) None gone f = elim f [ ]
  gone-at answer buffer (Some a) (Some b) gone (f, same) = (b.pipe, (answer, buffer, gone-gives answer buffer gone, f, same))

  pub piece-gone : (answer : ReadAnswer) (buffer : List ℕ) (x y z : Option (Client P)) → IsOfGone answer → ReadsAt gave took counts answer buffer x y → z ≡ None → GivesPiece gave took counts false x z
  piece-gone answer buffer x y z gone f none = record {
    bytes = [];
    gives = subst (λ w. GivesAt gave took counts [] x w) (sym none) (gone-at answer buffer x y gone f);
    within = omega arith;
    whole = refl;
  }

  -- there is no client
  nobody-gives : (bytes : List ℕ) (x y : Option (Client P)) → x ≡ None → bytes ≡ [] → GivesAt gave took counts bytes x y
  nobody-gives bytes x y none nothing = subst (λ w. GivesAt gave took counts bytes w y) (sym none) nothing

none-whole : (false ≡ true) ↔ ((t : ℕ) × (length {A = ℕ} [] ≡ 64))
none-whole = (λ e. absurd (true≢false (sym e)), λ w. absurd (let e = w.1 in omega (arith, e)))

-- ---- a list by ticket, with another at one of them

here : (f : ℕ → List ℕ) (k : ℕ) (xs : List ℕ) (t : ℕ) → t ≡ k → (if t == k then xs else f t) ≡ xs
here f k xs t same = ap (λ (b : Bool). if b then xs else f t) (eq-eqb t k same)

elsewhere : (f : ℕ → List ℕ) (k : ℕ) (xs : List ℕ) (t : ℕ) → t ≢ k → (if t == k then xs else f t) ≡ f t
elsewhere f k xs t other = ap (λ (b : Bool). if b then xs else f t) (ne_eqb t k other)

module _ {P A : Type 0} (gave took : P → Option (List ℕ)) (counts : P → Counts) where
  -- below this ticket clients were read, and from there on nothing has changed
  pub record GaveBelow (k : ℕ) (may_have_more : Bool) (old new : Clients P A) : Type 0 where
    pub bytes : ℕ → List ℕ
    pub give : (t : ℕ) → t < k → GivesAt gave took counts (bytes t) (get old.table t) (get new.table t)
    pub rest : (t : ℕ) → k ≤ t → (bytes t ≡ []) × (get new.table t ≡ get old.table t)
    pub within : (t : ℕ) → length (bytes t) ≤ 64
    pub whole : (may_have_more ≡ true) ↔ ((t : ℕ) × (length (bytes t) ≡ 64))

  pub gave-start : (clients : Clients P A) → GaveBelow 0 false clients clients
  gave-start clients = record {
    bytes = λ t. [];
    give = λ t less. absurd (omega (arith, less));
    rest = λ t from. (refl, refl);
    within = λ t. omega arith;
    whole = none-whole;
  }

  -- there is no client at the next ticket
  pub gave-skip : (k : ℕ) (m : Bool) (old mid : Clients P A) → GaveBelow k m old mid → get mid.table k ≡ None → GaveBelow (k + 1) m old mid
  gave-skip k m old mid before none = record {
    bytes = before.bytes;
    give = λ t less.
        elim (below-or-last t k less) [
          | inl low ↦ before.give t low
          | inr is ↦ nobody-gives gave took counts (before.bytes t) (get old.table t) (get mid.table t)
              (let from : k ≤ t = omega (arith, is) in sym (before.rest t from).1 ∙ (ap (λ u. get mid.table u) is ∙ none))
              (before.rest t (omega (arith, is))).0
        ];
    rest = λ t from. before.rest t (omega (arith, from));
    within = before.within;
    whole = before.whole;
  }

  -- the client at the next ticket was read
  module _ (k : ℕ) (m n : Bool) (old mid new : Clients P A) (before : GaveBelow k m old mid) (piece : GivesPiece gave took counts n (get mid.table k) (get new.table k)) (others : OthersStay k mid new) where
    abbrev joined : ℕ → List ℕ
    joined t = if t == k then piece.bytes else before.bytes t

    joined-here : (t : ℕ) → t ≡ k → joined t ≡ piece.bytes
    joined-here t same = here before.bytes k piece.bytes t same

    joined-elsewhere : (t : ℕ) → t ≢ k → joined t ≡ before.bytes t
    joined-elsewhere t other = elsewhere before.bytes k piece.bytes t other

    give-here : GivesAt gave took counts (joined k) (get old.table k) (get new.table k)
    give-here =
        subst (λ bytes. GivesAt gave took counts bytes (get old.table k) (get new.table k)) (sym (joined-here k refl))
        (subst (λ x. GivesAt gave took counts piece.bytes x (get new.table k)) (before.rest k (omega arith)).1 piece.gives)

    give-elsewhere : (t : ℕ) → t ≢ k → t < k → GivesAt gave took counts (joined t) (get old.table t) (get new.table t)
    give-elsewhere t other low =
        subst (λ bytes. GivesAt gave took counts bytes (get old.table t) (get new.table t)) (sym (joined-elsewhere t other))
        (subst (λ x. GivesAt gave took counts (before.bytes t) (get old.table t) x) (sym (others t other)) (before.give t low))

    few : (t : ℕ) → length (joined t) ≤ 64
    few t =
        elim (cases_eq t k) [
          | inl same ↦ subst (λ bytes. length bytes ≤ 64) (sym (joined-here t same)) piece.within
          | inr other ↦ subst (λ bytes. length bytes ≤ 64) (sym (joined-elsewhere t other)) (before.within t)
        ]

    -- nothing came before from the client that is next
    not-yet : (t : ℕ) → length (before.bytes t) ≡ 64 → t ≢ k
    not-yet t whole same =
        let none : length (before.bytes t) ≡ 0 = ap (λ bytes. length bytes) (before.rest t (omega (arith, same))).0 in omega (arith, whole, none)

    some-before : m ≡ true → (t : ℕ) × (length (joined t) ≡ 64)
    some-before more =
        let (t, whole) = before.whole.0 more in
        (t, ap (λ bytes. length bytes) (joined-elsewhere t (not-yet t whole)) ∙ whole)

    some-here : n ≡ true → (t : ℕ) × (length (joined t) ≡ 64)
    some-here more = (k, ap (λ bytes. length bytes) (joined-here k refl) ∙ eqb-true (length piece.bytes) 64 (sym piece.whole ∙ more))

    some-then : (t : ℕ) → length (joined t) ≡ 64 → (m || n) ≡ true
    some-then t whole =
        elim (cases_eq t k) [
          | inl same ↦ or_right m n (piece.whole ∙ eq-eqb (length piece.bytes) 64 (ap (λ bytes. length bytes) (sym (joined-here t same)) ∙ whole))
          | inr other ↦ or_left m n (before.whole.1 (t, ap (λ bytes. length bytes) (sym (joined-elsewhere t other)) ∙ whole))
        ]

    pub gave-next : GaveBelow (k + 1) (m || n) old new
    gave-next = record {
      bytes = joined;
      give = λ t less.
          elim (below-or-last t k less) [
            | inl low ↦ give-elsewhere t (λ same. omega (arith, low, same)) low
            | inr is ↦ subst (λ u. GivesAt gave took counts (joined u) (get old.table u) (get new.table u)) (sym is) give-here
          ];
      rest = λ t from. (
        (let other : t ≢ k = λ same. omega (arith, from, same) in joined-elsewhere t other ∙ (before.rest t (omega (arith, from))).0),
        others t (λ same. omega (arith, from, same)) ∙ (before.rest t (omega (arith, from))).1,
      );
      within = few;
      whole = (
        λ more.
            elim (or_cases m n more) [
              | inl first ↦ some-before first
              | inr second ↦ some-here second
            ],
        λ w. some-then w.0 w.1,
      );
    }

  -- all were read
  pub gave-all : (k : ℕ) (m : Bool) (old new : Clients P A) → 128 ≤ k → GaveBelow k m old new → GivePieces gave took counts m old new
  gave-all k m old new all gave_below = record {
    bytes = gave_below.bytes;
    give = λ t.
        elim (cases_lt t k) [
          | inl less ↦ gave_below.give t less
          | inr from ↦ nobody-gives gave took counts (gave_below.bytes t) (get old.table t) (get new.table t) (old.tickets t (omega (arith, all, from))) (gave_below.rest t from).0
        ];
    within = gave_below.within;
    whole = gave_below.whole;
  }

  -- nobody was there
  pub gave-alone : (clients : Clients P A) → ((t : ℕ) → get clients.table t ≡ None) → GivePieces gave took counts false clients clients
  gave-alone clients alone = record {
    bytes = λ t. [];
    give = λ t. nobody-gives gave took counts [] (get clients.table t) (get clients.table t) (alone t) refl;
    within = λ t. omega arith;
    whole = none-whole;
  }

  pub gave-nobody : (clients : Clients P A) → slab_len clients.table ≡ 0 → GivePieces gave took counts false clients clients
  gave-nobody clients empty = gave-alone clients (λ t. none-in_empty clients.table t empty)
