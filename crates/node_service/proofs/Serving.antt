-- Clients that are served, one after the other.
use Rattle.std.proofs.Common.{◌≡◌, ◌≢◌, ◌==◌, ◌∙◌, ℕ, Bool, false, if◌then◌else◌, List, ◌∷◌, ◌++◌, All, Option, map, refl, sym, subst, ap, inl, inr, append-nil, append_assoc, []}
use Rattle.std.proofs.lemmas.Bool.{cases_eq, eq-eqb, ne_eqb}
use Rattle.std.proofs.lemmas.List.{map-append}
use Rattle.std.proofs.lemmas.List.Elements.{All-cons, All-head, All-nil, All-tail}
use Rattle.lock_desk.specs.Desk.{after_leave}
use Rattle.lock_desk.specs.declared.client_line.ClientLine.{ClientLine}
use Rattle.lock_desk.specs.declared.client_line.ClientLine.TheVariants.{Lock, Unlock, Status, Unknown}
use Rattle.node_core.specs.Site.{Site}
use Rattle.node_core.specs.State.{LocalState}
use Rattle.node_core.specs.View.{NodeView, site_in, state_of}
use Rattle.slab.specs.Slab.{get}
use Rattle.node_connections.specs.socket_links.Counts.{Counts}
use Rattle.node_connections.specs.socket_links.declared.pipe.ReadAnswer.{ReadAnswer}
use Rattle.node_connections.specs.declared.clients.Clients.{Clients}
use Rattle.node_service.specs.Answers.{after_line, answer_text}
use Rattle.node_connections.specs.Clients.{answers_of, is_connected}
use Rattle.node_connections.specs.Ends.{IsOfGone}
use Rattle.node_connections.specs.Lives.{OthersStay, ReadsAt}
use Rattle.node_service.specs.Deeds.{Asks, Deed, IsLeaveOfGone, IsOfClient, Leads, Leaves, Sends, Takes, Ticks}
use Rattle.node_service.specs.Noting.{deeds_of_line, Did}
use Rattle.node_service.specs.NotesView.{NotesView}
use Rattle.node_service.specs.Serving.{answers_to, Serves}
use Rattle.node_connections.specs.Said.{IsLineAlone, IsSaid, IsServed, NothingSaid}
use Rattle.node_service.specs.Services.{AreGone, deeds_of_all, Goes, Line, lines_of, Service}
use Rattle.node_service.proofs.Became.{gone-leaves, leave-kinds}
use Rattle.node_service.proofs.Noting.{did-joins, did-none}
use Rattle.node_service.proofs.Saying.{answers-join}
use Rattle.node_connections.proofs.Heard.{unheard-gone}
use Rattle.node_connections.proofs.Lives.{nobody}
use Rattle.node_connections.proofs.Saying.{is-said-join, nothing-gone, SaidTo}
use Rattle.node_connections.proofs.Served.{served-gone}
use Rattle.node_connections.proofs.Serving.{stays-gone}

-- ---- tickets that leave

-- the leaves as services
goes : List Deed → List Service
goes [] = []
goes (Leaves t ∷ ds) = Goes t ∷ goes ds
goes (Takes w f ∷ ds) = goes ds
goes (Asks t ∷ ds) = goes ds
goes (Ticks ∷ ds) = goes ds
goes (Sends w f ∷ ds) = goes ds

module _ (connected : ℕ → Bool) where
  goes-deeds : (ds : List Deed) → All (IsLeaveOfGone connected) ds → deeds_of_all (goes ds) ≡ ds
  unfolding goes
  goes-deeds [] k = refl
  goes-deeds (Leaves t ∷ ds) k = ap (λ (es : List Deed). Leaves t ∷ es) (goes-deeds ds (All-tail (IsLeaveOfGone connected) (Leaves t) ds k))
  goes-deeds (Takes w f ∷ ds) k = elim (All-head (IsLeaveOfGone connected) (Takes w f) ds k) [ ]
  goes-deeds (Asks t ∷ ds) k = elim (All-head (IsLeaveOfGone connected) (Asks t) ds k) [ ]
  goes-deeds (Ticks ∷ ds) k = elim (All-head (IsLeaveOfGone connected) Ticks ds k) [ ]
  goes-deeds (Sends w f ∷ ds) k = elim (All-head (IsLeaveOfGone connected) (Sends w f) ds k) [ ]

  goes-gone : (ds : List Deed) → All (IsLeaveOfGone connected) ds → AreGone connected (goes ds)
  unfolding goes
  goes-gone [] k = tt
  goes-gone (Leaves t ∷ ds) k = (All-head (IsLeaveOfGone connected) (Leaves t) ds k, goes-gone ds (All-tail (IsLeaveOfGone connected) (Leaves t) ds k))
  goes-gone (Takes w f ∷ ds) k = elim (All-head (IsLeaveOfGone connected) (Takes w f) ds k) [ ]
  goes-gone (Asks t ∷ ds) k = elim (All-head (IsLeaveOfGone connected) (Asks t) ds k) [ ]
  goes-gone (Ticks ∷ ds) k = elim (All-head (IsLeaveOfGone connected) Ticks ds k) [ ]
  goes-gone (Sends w f ∷ ds) k = elim (All-head (IsLeaveOfGone connected) (Sends w f) ds k) [ ]

  abbrev are-of-clients : (x y : NodeView) (n m : NotesView) → Did (IsLeaveOfGone connected) x y n m → Did IsOfClient x y n m
  are-of-clients x y n m f = record {
    became = record { site = f.became.site; deeds = f.became.deeds; kinds = leave-kinds f.became.deeds (gone-leaves connected f.became.deeds f.became.kinds); leads = f.became.leads };
    noted = f.noted;
  }

module _ (connected later : ℕ → Bool) (still : (t : ℕ) → connected t ≡ false → later t ≡ false) where
  kind-later : (d : Deed) → IsLeaveOfGone connected d → IsLeaveOfGone later d
  kind-later (Takes w f) k = k
  kind-later (Asks t) k = k
  kind-later (Leaves t) k = still t k
  kind-later Ticks k = k
  kind-later (Sends w f) k = k

  kinds-later : (ds : List Deed) → All (IsLeaveOfGone connected) ds → All (IsLeaveOfGone later) ds
  kinds-later [] k = All-nil (IsLeaveOfGone later)
  kinds-later (d ∷ ds) k =
      All-cons (IsLeaveOfGone later) d ds (kind-later d (All-head (IsLeaveOfGone connected) d ds k)) (kinds-later ds (All-tail (IsLeaveOfGone connected) d ds k))

  -- a client that is gone stays so
  pub did-later : (x y : NodeView) (n m : NotesView) → Did (IsLeaveOfGone connected) x y n m → Did (IsLeaveOfGone later) x y n m
  did-later x y n m f = record {
    became = record { site = f.became.site; deeds = f.became.deeds; kinds = kinds-later f.became.deeds f.became.kinds; leads = f.became.leads };
    noted = f.noted;
  }

  gone-later : (xs : List Service) → AreGone connected xs → AreGone later xs
  gone-later [] k = tt
  gone-later (Line t line ∷ xs) k = gone-later xs k
  gone-later (Goes t ∷ xs) k = (still t k.0, gone-later xs k.1)

-- ---- services, and then more

after-services : List Service → LocalState → LocalState
after-services [] s = s
after-services (Line t line ∷ xs) s = after-services xs (after_line t line s)
after-services (Goes t ∷ xs) s = after-services xs (record s { desk = after_leave t s.desk })

deeds-append : (xs ys : List Service) → deeds_of_all (xs ++ ys) ≡ deeds_of_all xs ++ deeds_of_all ys
deeds-append [] ys = refl
deeds-append (Line t line ∷ xs) ys = ap (λ (es : List Deed). deeds_of_line t line ++ es) (deeds-append xs ys) ∙ sym (append_assoc (deeds_of_line t line) (deeds_of_all xs) (deeds_of_all ys))
deeds-append (Goes t ∷ xs) ys = ap (λ (es : List Deed). Leaves t ∷ es) (deeds-append xs ys)

gone-append : (connected : ℕ → Bool) (xs ys : List Service) → AreGone connected xs → AreGone connected ys → AreGone connected (xs ++ ys)
gone-append connected [] ys f g = g
gone-append connected (Line t line ∷ xs) ys f g = gone-append connected xs ys f g
gone-append connected (Goes t ∷ xs) ys f g = (f.0, gone-append connected xs ys f.1 g)

lines-append : (t : ℕ) (xs ys : List Service) (s : LocalState) → lines_of t (xs ++ ys) s ≡ lines_of t xs s ++ lines_of t ys (after-services xs s)
unfolding after-services
lines-append t [] ys s = refl
lines-append t (Line u line ∷ xs) ys s =
    let here : List (ClientLine × LocalState) = if u == t then (line, s) ∷ [] else [] in
    ap (λ (more : List (ClientLine × LocalState)). here ++ more) (lines-append t xs ys (after_line u line s))
    ∙ sym (append_assoc here (lines_of t xs (after_line u line s)) (lines_of t ys (after-services xs (after_line u line s))))
lines-append t (Goes u ∷ xs) ys s = lines-append t xs ys (record s { desk = after_leave u s.desk })

leads-after : (site : Site) (xs : List Service) (s last : LocalState) → Leads site (deeds_of_all xs) s last → last ≡ after-services xs s
unfolding after-services
leads-after site [] s last f = f
leads-after site (Line t Lock ∷ xs) s last f = leads-after site xs (after_line t Lock s) last f.1
leads-after site (Line t Unlock ∷ xs) s last f = leads-after site xs (after_line t Unlock s) last f
leads-after site (Line t Status ∷ xs) s last f = leads-after site xs s last f
leads-after site (Line t Unknown ∷ xs) s last f = leads-after site xs s last f
leads-after site (Goes t ∷ xs) s last f = leads-after site xs (record s { desk = after_leave t s.desk }) last f

goes-silent : (t : ℕ) (ds : List Deed) (s : LocalState) → lines_of t (goes ds) s ≡ []
unfolding goes
goes-silent t [] s = refl
goes-silent t (Leaves u ∷ ds) s = goes-silent t ds (record s { desk = after_leave u s.desk })
goes-silent t (Takes w f ∷ ds) s = goes-silent t ds s
goes-silent t (Asks u ∷ ds) s = goes-silent t ds s
goes-silent t (Ticks ∷ ds) s = goes-silent t ds s
goes-silent t (Sends w f ∷ ds) s = goes-silent t ds s

abbrev asked-lines : List (ClientLine × LocalState) → List ClientLine
asked-lines asked = map (λ x. x.0) asked

module _ {P A : Type 0} (took : P → Option (List ℕ)) where
  module _ (R S T : ℕ → List ClientLine → List ℕ → Type 0) (join : (t : ℕ) (xs ys : List ClientLine) (ps qs : List ℕ) → R t xs ps → S t ys qs → T t (xs ++ ys) (ps ++ qs)) where
    pub serves-join : (x y z : NodeView) (n m o : NotesView) (a b c : Clients P A) → Serves took R x y n m a b → Serves took S y z m o b c → Serves took T x z n o a c
    serves-join x y z n m o a b c f g =
        let between : state_of y ≡ after-services f.services (state_of x) =
        leads-after (site_in x) f.services (state_of x) (state_of y) (subst (λ ds. Leads (site_in x) ds (state_of x) (state_of y)) f.deeds_are f.did.became.leads) in
        let first = λ (t : ℕ). lines_of t f.services (state_of x) in
        let second = λ (t : ℕ). lines_of t g.services (state_of y) in
        let both : (t : ℕ) → lines_of t (f.services ++ g.services) (state_of x) ≡ lines_of t f.services (state_of x) ++ lines_of t g.services (state_of y) =
        λ t. lines-append t f.services g.services (state_of x) ∙ ap (λ s. lines_of t f.services (state_of x) ++ lines_of t g.services s) (sym between) in
        record {
          services = f.services ++ g.services;
          did = did-joins IsOfClient x y z n m o f.did g.did;
          deeds_are = ap (λ ds. ds ++ g.did.became.deeds) f.deeds_are ∙ (ap (λ ds. deeds_of_all f.services ++ ds) g.deeds_are ∙ sym (deeds-append f.services g.services));
          gone = gone-append (is_connected c) f.services g.services
              (gone-later (is_connected b) (is_connected c) (λ t. stays-gone took (answers_to (site_in y) t (second t)) t b c (g.said t)) f.services f.gone) g.gone;
          lines_are = λ t.
              subst (λ lines. T t (asked-lines lines) (answers_to (site_in x) t lines)) (sym (both t))
              (subst (λ lines. T t lines (answers_to (site_in x) t (first t ++ second t))) (sym (map-append (λ (x : ClientLine × LocalState). x.0) (first t) (second t)))
              (subst (λ text. T t (asked-lines (first t) ++ asked-lines (second t)) text) (answers-join (site_in x) t (first t) (second t))
              (join t (asked-lines (first t)) (asked-lines (second t)) (answers_to (site_in x) t (first t)) (answers_to (site_in x) t (second t)) (f.lines_are t)
              (subst (λ site. S t (asked-lines (second t)) (answers_to site t (second t))) f.did.became.site (g.lines_are t)))));
          said = λ t.
              subst (λ lines. IsSaid took (answers_to (site_in x) t lines) t a c) (sym (both t))
              (subst (λ text. IsSaid took text t a c) (answers-join (site_in x) t (first t) (second t))
              (is-said-join took (answers_to (site_in x) t (first t)) (answers_to (site_in x) t (second t)) t a b c (f.said t)
              (subst (λ site. IsSaid took (answers_to site t (second t)) t b c) f.did.became.site (g.said t))));
        }

  -- nothing was done
  pub serves-none : (R : ℕ → List ClientLine → List ℕ → Type 0) (x : NodeView) (n : NotesView) (a b : Clients P A) → ((t : ℕ) → R t [] []) → NothingSaid took a b → Serves took R x x n n a b
  serves-none R x n a b none nothing = record {
    services = [];
    did = did-none IsOfClient x n;
    deeds_are = refl;
    gone = tt;
    lines_are = none;
    said = nothing;
  }

  -- tickets left, and nothing else was done
  pub serves-goes : (R : ℕ → List ClientLine → List ℕ → Type 0) (x y : NodeView) (n m : NotesView) (a b : Clients P A) → ((t : ℕ) → R t [] []) → NothingSaid took a b
      → Did (IsLeaveOfGone (is_connected b)) x y n m → Serves took R x y n m a b
  serves-goes R x y n m a b none nothing f =
      let ds = f.became.deeds in
      let silent : (t : ℕ) → lines_of t (goes f.became.deeds) (state_of x) ≡ [] = λ t. goes-silent t f.became.deeds (state_of x) in
      record {
        services = goes ds;
        did = are-of-clients (is_connected b) x y n m f;
        deeds_are = sym (goes-deeds (is_connected b) ds f.became.kinds);
        gone = goes-gone (is_connected b) ds f.became.kinds;
        lines_are = λ t. subst (λ lines. R t (asked-lines lines) (answers_to (site_in x) t lines)) (sym (silent t)) (none t);
        said = λ t. subst (λ lines. IsSaid took (answers_to (site_in x) t lines) t a b) (sym (silent t)) (nothing t);
      }

  -- a line was served, and then tickets left
  pub serves-line : (k : ℕ) (line : ClientLine) (x y z : NodeView) (n m o : NotesView) (a b : Clients P A) (d : Did IsOfClient x y n m) → d.became.deeds ≡ deeds_of_line k line
      → Did (IsLeaveOfGone (is_connected b)) y z m o → SaidTo took (answer_text (site_in x) k line (state_of x)) k a b → Serves took (IsLineAlone k line (answer_text (site_in x) k line (state_of x))) x z n o a b
  unfolding goes
  serves-line k line x y z n m o a b d is f said =
      let s = state_of x in
      let ds = f.became.deeds in
      let rest : (t : ℕ) → lines_of t (goes f.became.deeds) (after_line k line (state_of x)) ≡ [] = λ t. goes-silent t f.became.deeds (after_line k line (state_of x)) in
      let all : (t : ℕ) → lines_of t (Line k line ∷ goes f.became.deeds) (state_of x) ≡ (if k == t then (line, state_of x) ∷ [] else []) =
      λ t. ap (λ more. (if k == t then (line, state_of x) ∷ [] else []) ++ more) (rest t) ∙ append-nil (if k == t then (line, state_of x) ∷ [] else []) in
      let here : (t : ℕ) → t ≡ k → lines_of t (Line k line ∷ goes f.became.deeds) (state_of x) ≡ (line, state_of x) ∷ [] =
      λ t same. all t ∙ ap (λ (b : Bool). if b then (line, state_of x) ∷ [] else []) (eq-eqb k t (sym same)) in
      let other : (t : ℕ) → t ≢ k → lines_of t (Line k line ∷ goes f.became.deeds) (state_of x) ≡ [] =
      λ t differ. all t ∙ ap (λ (b : Bool). if b then (line, state_of x) ∷ [] else []) (ne_eqb k t (λ same. differ (sym same))) in
      record {
        services = Line k line ∷ goes ds;
        did = did-joins IsOfClient x y z n m o d (are-of-clients (is_connected b) y z m o f);
        deeds_are = ap (λ es. es ++ ds) is ∙ ap (λ es. deeds_of_line k line ++ es) (sym (goes-deeds (is_connected b) ds f.became.kinds));
        gone = goes-gone (is_connected b) ds f.became.kinds;
        lines_are = λ t. (
          λ same. (
            ap asked-lines (here t same),
            ap (λ lines. answers_to (site_in x) t lines) (here t same) ∙ (append-nil (answer_text (site_in x) t line s) ∙ ap (λ u. answer_text (site_in x) u line s) same),
          ),
          λ differ. (ap asked-lines (other t differ), ap (λ lines. answers_to (site_in x) t lines) (other t differ)),
        );
        said = λ t.
            elim (cases_eq t k) [
              | inl same ↦ subst (λ lines. IsSaid took (answers_to (site_in x) t lines) t a b) (sym (here t same))
                  (subst (λ u. IsSaid took (answers_to (site_in x) u ((line, s) ∷ [])) u a b) (sym same)
                  (subst (λ text. IsSaid took text k a b) (sym (append-nil (answer_text (site_in x) k line s))) said.0))
              | inr differ ↦ subst (λ lines. IsSaid took (answers_to (site_in x) t lines) t a b) (sym (other t differ)) (said.1 t differ)
            ];
      }

-- a client that is gone by what a read said leaves, and nobody is served
pub serves-gone : {P A : Type 0} (gave took : P → Option (List ℕ)) (counts : P → Counts) (k : ℕ) (answer : ReadAnswer) (bytes : List ℕ) (a b c : Clients P A) (x y : NodeView) (n m : NotesView)
    → IsOfGone answer → ReadsAt gave took counts answer bytes (get a.table k) (get b.table k) → OthersStay k a c → ((t : ℕ) → t ≢ k → answers_of c t ≡ answers_of a t) → is_connected c k ≡ false
    → Did (IsLeaveOfGone (is_connected c)) x y n m → Serves took (IsServed gave took counts a c) x y n m a c
serves-gone gave took counts k answer bytes a b c x y n m gone reads others answers closed did =
    serves-goes took (IsServed gave took counts a c) x y n m a c
    (served-gone gave took counts k answer bytes a b c gone reads (unheard-gone gave k a c others closed) others answers (nobody (get c.table k) closed))
    (nothing-gone took k a c others answers closed) did
