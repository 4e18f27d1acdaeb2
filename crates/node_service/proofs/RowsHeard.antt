-- Small examples of services for what is heard from clients, and some that look like them and are none.
use Rattle.std.proofs.Common.{◌≡◌, ◌≢◌, ◌∙◌, ℕ, Bool, true, false, if◌then◌else◌, List, ◌∷◌, ◌++◌, Option, Some, map, codes, get_or, refl, sym, subst, ap, inl, inr, []}
use Rattle.std.proofs.lemmas.Bool.{cases_eq, eq-eqb, ne_eqb}
use Rattle.slab.specs.Slab.{get}
use Rattle.lock_desk.specs.declared.client_line.ClientLine.{ClientLine}
use Rattle.lock_desk.specs.declared.client_line.ClientLine.TheVariants.{Lock, Unlock, Status, Unknown}
use Rattle.node_core.specs.State.{LocalState}
use Rattle.node_core.specs.View.{NodeView, state_of}
use Rattle.node_connections.specs.socket_links.Counts.{Counts}
use Rattle.node_connections.specs.declared.clients.Client.{Client}
use Rattle.node_connections.specs.declared.clients.Clients.{Clients}
use Rattle.node_service.specs.Answers.{after_line}
use Rattle.node_service.specs.Deeds.{Asks, IsLeaveOfGone, Leaves}
use Rattle.node_connections.specs.Heard.{HasNewReader}
use Rattle.node_service.specs.NotesView.{NotesView}
use Rattle.node_service.specs.Serving.{Serves}
use Rattle.node_connections.specs.Said.{IsServed}
use Rattle.node_service.specs.Services.{AreGone, deeds_of_all, Goes, Line, lines_of, Service}
use Rattle.node_connections.proofs.Saying.{nothing-same}
use Rattle.node_connections.proofs.Served.{served-none}
use Rattle.node_service.proofs.Serving.{serves-none}
use Rattle.node_connections.proofs.RowsHeard.{heard-lock, nothing-heard}

-- what a line, and a ticket that leaves, are
deeds-three : deeds_of_all (Line 3 Lock ∷ (Line 4 Status ∷ (Goes 3 ∷ []))) ≡ Asks 3 ∷ (Leaves 3 ∷ [])
deeds-three = refl

-- a line comes to the node as the earlier ones left it
lines-after : (s : LocalState) → lines_of 4 (Line 3 Lock ∷ (Line 4 Status ∷ [])) s ≡ (Status, after_line 3 Lock s) ∷ []
lines-after s = refl

lines_not-others : (s : LocalState) → lines_of 3 (Line 4 Status ∷ (Goes 3 ∷ [])) s ≡ []
lines_not-others s = refl

gone : AreGone (λ t. false) (Line 4 Lock ∷ (Goes 3 ∷ []))
gone = (refl, tt)

gone_not-there : AreGone (λ t. true) (Line 4 Lock ∷ (Goes 3 ∷ [])) → ⊥
gone_not-there f = (let e = f.0 in absurd cc)

leave-of_gone : IsLeaveOfGone (λ t. false) (Leaves 3)
leave-of_gone = refl

leave_not-there : IsLeaveOfGone (λ t. true) (Leaves 3) → ⊥
leave_not-there e = absurd cc

leave_not-ask : IsLeaveOfGone (λ t. false) (Asks 3) → ⊥
leave_not-ask e = e

abbrev pub asked-lines : List (ClientLine × LocalState) → List ClientLine
asked-lines asked = map (λ x. x.0) asked

line-elsewhere : (line : ClientLine) (u : ℕ) (xs : List Service) (s : LocalState) → u ≢ 3 → lines_of 3 (Line u line ∷ xs) s ≡ lines_of 3 xs (after_line u line s)
line-elsewhere line u xs s other = ap (λ (b : Bool). (if b then (line, s) ∷ [] else []) ++ lines_of 3 xs (after_line u line s)) (ne_eqb u 3 other)

line-here : (line : ClientLine) (u : ℕ) (xs : List Service) (s : LocalState) → u ≡ 3 → lines_of 3 (Line u line ∷ xs) s ≡ (line, s) ∷ lines_of 3 xs (after_line u line s)
line-here line u xs s same = ap (λ (b : Bool). (if b then (line, s) ∷ [] else []) ++ lines_of 3 xs (after_line u line s)) (eq-eqb u 3 same)

not-lock : (line : ClientLine) (rest : List ClientLine) → line ≢ Lock → line ∷ rest ≡ Lock ∷ [] → ⊥
not-lock line rest other e = other (ap (λ (lines : List ClientLine). get_or lines 0 Lock) e)

-- a line that says `lock` is an ask
pub asks-none : (xs : List Service) (s : LocalState) → deeds_of_all xs ≡ [] → asked-lines (lines_of 3 xs s) ≡ Lock ∷ [] → ⊥
asks-none [] s none e = absurd cc
asks-none (Line u Lock ∷ xs) s none e = absurd (let d = none in cc)
asks-none (Line u Unlock ∷ xs) s none e = absurd (let d = none in cc)
asks-none (Line u Status ∷ xs) s none e =
    elim (cases_eq u 3) [
      | inl same ↦ not-lock Status (asked-lines (lines_of 3 xs s)) (λ d. absurd cc) (subst (λ lines. asked-lines lines ≡ Lock ∷ []) (line-here Status u xs s same) e)
      | inr other ↦ asks-none xs s none (subst (λ lines. asked-lines lines ≡ Lock ∷ []) (line-elsewhere Status u xs s other) e)
    ]
asks-none (Line u Unknown ∷ xs) s none e =
    elim (cases_eq u 3) [
      | inl same ↦ not-lock Unknown (asked-lines (lines_of 3 xs s)) (λ d. absurd cc) (subst (λ lines. asked-lines lines ≡ Lock ∷ []) (line-here Unknown u xs s same) e)
      | inr other ↦ asks-none xs s none (subst (λ lines. asked-lines lines ≡ Lock ∷ []) (line-elsewhere Unknown u xs s other) e)
    ]
asks-none (Goes u ∷ xs) s none e = absurd (let d = none in cc)

module _ {P A : Type 0} (gave took : P → Option (List ℕ)) (counts : P → Counts) (old new : Clients P A) (a b : Client P) where
  module _ (was : get old.table 3 ≡ Some a) (is : get new.table 3 ≡ Some b) (fresh : HasNewReader (Some a)) (before : gave a.pipe ≡ Some []) (after : gave b.pipe ≡ Some (codes "lock\n")) where
    -- a node that does nothing has not served it
    serves_not-nothing : (x y : NodeView) (n m : NotesView) (f : Serves took (IsServed gave took counts old new) x y n m old new) → f.did.became.deeds ≡ [] → ⊥
    serves_not-nothing x y n m f none =
        asks-none f.services (state_of x) (sym f.deeds_are ∙ none) (heard-lock gave took counts old new a b was is fresh before after (map (λ asked. asked.0) (lines_of 3 f.services (state_of x))) (f.lines_are 3).0)

  serves-nobody : (x : NodeView) (n : NotesView) → Serves took (IsServed gave took counts old old) x x n n old old
  serves-nobody x n = serves-none took (IsServed gave took counts old old) x n old old (served-none gave took counts old old (nothing-heard gave took counts old new a b) (λ t. refl) refl) (nothing-same took old old refl refl)
