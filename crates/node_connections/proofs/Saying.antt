-- What is said to clients, one call after the other.
use Rattle.std.proofs.Common.{◌≡◌, ◌≢◌, ℕ, false, List, ◌++◌, Option, None, Some, take, drop, slice_index_or, refl, sym, subst, ap, inl, inr, ◌∙◌, append_assoc, []}
use Rattle.std.specs.Prelude.{option_map}
use Rattle.std.proofs.lemmas.List.{take-append-drop}
use Rattle.std.proofs.lemmas.Bool.{cases_eq}
use Rattle.circular_buffer.specs.Buffer.{buffer}
use Rattle.slab.specs.Slab.{Slab, get}
use Rattle.socket_links.specs.Counts.{Counts}
use Rattle.socket_links.specs.Pipes.{GoesOn}
use Rattle.socket_links.specs.declared.pipe.ReadAnswer.{ReadAnswer}
use Rattle.node_connections.specs.declared.clients.Client.{Client}
use Rattle.node_connections.specs.declared.clients.Clients.{Clients}
use Rattle.node_connections.specs.Clients.{answers_of, is_connected, Reports}
use Rattle.node_connections.specs.Lives.{OthersStay, ReadsAt}
use Rattle.node_connections.specs.Said.{said, SaidAt, IsSaid, NothingSaid}
use Rattle.node_connections.proofs.Heard.{goes-join, goes-nothing}
use Rattle.node_connections.proofs.Lives.{nobody}

-- ---- bytes

-- a text waits after what waited
goes-text : (o : Option (List ℕ)) (xs text : List ℕ) → GoesOn text (option_map (λ bytes. bytes ++ xs) o) (option_map (λ bytes. bytes ++ (xs ++ text)) o)
goes-text None xs text = refl
goes-text (Some bytes) xs text = ap (λ ys. Some ys) (sym (append_assoc bytes xs text))

-- the front of what waits goes out
goes-out : (o p : Option (List ℕ)) (n : ℕ) (xs : List ℕ) → GoesOn (take n xs) o p → GoesOn [] (option_map (λ bytes. bytes ++ xs) o) (option_map (λ bytes. bytes ++ drop n xs) p)
goes-out None p n xs f = subst (λ q. GoesOn [] None (option_map (λ bytes. bytes ++ drop n xs) q)) (sym f) refl
goes-out (Some bytes) p n xs f =
    let all : (bytes ++ take n xs) ++ drop n xs ≡ bytes ++ xs = append_assoc bytes (take n xs) (drop n xs) ∙ ap (λ ys. bytes ++ ys) (take-append-drop n xs) in
    subst (λ q. GoesOn [] (Some (bytes ++ xs)) (option_map (λ b. b ++ drop n xs) q)) (sym f) (subst (λ ys. GoesOn [] (Some (bytes ++ xs)) (Some ys)) (sym all) (goes-nothing (Some (bytes ++ xs))))

-- ---- one client

module _ {P : Type 0} (took : P → Option (List ℕ)) where
  said-here : (x : Option (Client P)) (xs : List ℕ) → SaidAt took [] x xs x xs
  said-here None xs = tt
  said-here (Some c) xs = goes-nothing (said took c xs)

  pub said-same : (x y : Option (Client P)) (xs ys : List ℕ) → y ≡ x → ys ≡ xs → SaidAt took [] x xs y ys
  said-same x y xs ys e d = subst (λ z. SaidAt took [] x xs z ys) (sym e) (subst (λ zs. SaidAt took [] x xs x zs) (sym d) (said-here x xs))

  pub said-gone : (more : List ℕ) (x y : Option (Client P)) (xs ys : List ℕ) → y ≡ None → SaidAt took more x xs y ys
  said-gone more x y xs ys e = subst (λ z. SaidAt took more x xs z ys) (sym e) tt

  pub said-join : (m n : List ℕ) (x y z : Option (Client P)) (xs ys zs : List ℕ) → SaidAt took m x xs y ys → SaidAt took n y ys z zs → SaidAt took (m ++ n) x xs z zs
  said-join m n x y None xs ys zs f g = tt
  said-join m n x None (Some c) xs ys zs f g = elim g [ ]
  said-join m n None (Some b) (Some c) xs ys zs f g = elim f [ ]
  said-join m n (Some a) (Some b) (Some c) xs ys zs f g = goes-join m n (said took a xs) (said took b ys) (said took c zs) f g

  text-here : (text : List ℕ) (x : Option (Client P)) (xs : List ℕ) → SaidAt took text x xs x (xs ++ text)
  text-here text None xs = tt
  text-here text (Some c) xs = goes-text (took c.pipe) xs text

  pub said-text : (text : List ℕ) (x y : Option (Client P)) (xs ys : List ℕ) → y ≡ x → ys ≡ xs ++ text → SaidAt took text x xs y ys
  said-text text x y xs ys e d = subst (λ z. SaidAt took text x xs z ys) (sym e) (subst (λ zs. SaidAt took text x xs x zs) (sym d) (text-here text x xs))

  -- a client whose pipe took the front of what waited
  pub said-out : (n : ℕ) (a b : Client P) (y : Option (Client P)) (x : Option (Client P)) (xs ys : List ℕ) → Some a ≡ x → y ≡ Some b → GoesOn (take n xs) (took a.pipe) (took b.pipe) → ys ≡ drop n xs
      → SaidAt took [] x xs y ys
  said-out n a b y x xs ys was is f rest =
      subst (λ u. SaidAt took [] u xs y ys) was (subst (λ v. SaidAt took [] (Some a) xs v ys) (sym is) (subst (λ zs. SaidAt took [] (Some a) xs (Some b) zs) (sym rest)
      (goes-out (took a.pipe) (took b.pipe) n xs f)))

  -- one that was read
  pub said-read : (gave : P → Option (List ℕ)) (counts : P → Counts) (answer : ReadAnswer) (bytes : List ℕ) (x y : Option (Client P)) (xs ys : List ℕ)
      → ReadsAt gave took counts answer bytes x y → ys ≡ xs → SaidAt took [] x xs y ys
  said-read gave counts answer bytes None y xs ys f d = said-gone [] None y xs ys f.0
  said-read gave counts answer bytes (Some a) None xs ys f d = tt
  said-read gave counts answer bytes (Some a) (Some b) xs ys (f, same) d =
      subst (λ zs. SaidAt took [] (Some a) xs (Some b) zs) (sym d) (subst (λ o. GoesOn [] (said took a xs) (option_map (λ bs. bs ++ xs) o)) (sym same) (goes-nothing (said took a xs)))

  -- it is enough to look at the one ticket that was touched
  pub said-at : (k : ℕ) (table after : Slab (Client P)) (waited waits : ℕ → List ℕ) → SaidAt took [] (get table k) (waited k) (get after k) (waits k)
      → ((t : ℕ) → t ≢ k → get after t ≡ get table t) → ((t : ℕ) → t ≢ k → waits t ≡ waited t) → (t : ℕ) → SaidAt took [] (get table t) (waited t) (get after t) (waits t)
  said-at k table after waited waits here others answers t =
      elim (cases_eq t k) [
        | inl same ↦ subst (λ u. SaidAt took [] (get table u) (waited u) (get after u) (waits u)) (sym same) here
        | inr other ↦ said-same (get table t) (get after t) (waited t) (waits t) (others t other) (answers t other)
      ]

-- ---- all clients

module _ {P A : Type 0} (took : P → Option (List ℕ)) where
  -- these bytes were said to the client with this ticket, and nothing to others
  abbrev pub SaidTo : List ℕ → ℕ → Clients P A → Clients P A → Type 0
  SaidTo more t old new = IsSaid took more t old new × ((u : ℕ) → u ≢ t → IsSaid took [] u old new)

  pub answers-same : (old new : Clients P A) → new.answers ≡ old.answers → (t : ℕ) → answers_of new t ≡ answers_of old t
  answers-same old new e t = ap (λ answers. (slice_index_or answers.items t (buffer [] 0)).items) e

  pub nothing-same : (old new : Clients P A) → new.table ≡ old.table → new.answers ≡ old.answers → NothingSaid took old new
  nothing-same old new table answers t =
      said-same took (get old.table t) (get new.table t) (answers_of old t) (answers_of new t) (ap (λ x. get x t) table)
      (answers-same old new answers t)

  pub is-said-join : (m n : List ℕ) (t : ℕ) (a b c : Clients P A) → IsSaid took m t a b → IsSaid took n t b c → IsSaid took (m ++ n) t a c
  is-said-join m n t a b c f g =
      said-join took m n (get a.table t) (get b.table t) (get c.table t) (answers_of a t) (answers_of b t) (answers_of c t) f g

  pub nothing-join : (a b c : Clients P A) → NothingSaid took a b → NothingSaid took b c → NothingSaid took a c
  nothing-join a b c f g t = is-said-join [] [] t a b c (f t) (g t)

  pub others-nothing : (k : ℕ) (old new : Clients P A) → OthersStay k old new → ((t : ℕ) → t ≢ k → answers_of new t ≡ answers_of old t) → (t : ℕ) → t ≢ k → IsSaid took [] t old new
  others-nothing k old new others answers t other = said-same took (get old.table t) (get new.table t) (answers_of old t) (answers_of new t) (others t other) (answers t other)

  pub nothing-one : (k : ℕ) (old new : Clients P A) → IsSaid took [] k old new → ((t : ℕ) → t ≢ k → IsSaid took [] t old new) → NothingSaid took old new
  nothing-one k old new here others t =
      elim (cases_eq t k) [
        | inl same ↦ subst (λ u. IsSaid took [] u old new) (sym same) here
        | inr other ↦ others t other
      ]

  -- one that was closed
  pub nothing-gone : (k : ℕ) (old new : Clients P A) → OthersStay k old new → ((t : ℕ) → t ≢ k → answers_of new t ≡ answers_of old t) → is_connected new k ≡ false → NothingSaid took old new
  nothing-gone k old new others answers gone =
      nothing-one k old new (said-gone took [] (get old.table k) (get new.table k) (answers_of old k) (answers_of new k) (nobody (get new.table k) gone)) (others-nothing k old new others answers)

  -- one that was read
  pub nothing-read : (gave : P → Option (List ℕ)) (counts : P → Counts) (answer : ReadAnswer) (bytes : List ℕ) (k : ℕ) (old new : Clients P A)
      → ReadsAt gave took counts answer bytes (get old.table k) (get new.table k) → OthersStay k old new → new.answers ≡ old.answers → NothingSaid took old new
  nothing-read gave counts answer bytes k old new reads others answers =
      nothing-one k old new (said-read took gave counts answer bytes (get old.table k) (get new.table k) (answers_of old k) (answers_of new k) reads (answers-same old new answers k))
      (others-nothing k old new others (λ t o. answers-same old new answers t))

  -- a client that heard of it, or was closed for lack of room
  pub reported-said : (text : List ℕ) (k : ℕ) (old new : Clients P A) → Reports text k old new → SaidTo text k old new
  reported-said text k old new (inl reported, others) =
      (said-text took text (get old.table k) (get new.table k) (answers_of old k) (answers_of new k) reported.1 reported.0, others-nothing k old new (λ t o. (others t o).1) (λ t o. (others t o).0))
  reported-said text k old new (inr closed, others) =
      (said-gone took text (get old.table k) (get new.table k) (answers_of old k) (answers_of new k) (nobody (get new.table k) closed.1), others-nothing k old new (λ t o. (others t o).1) (λ t o. (others t o).0))
