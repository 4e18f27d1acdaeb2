-- Journals have one woven list.
use Rattle.std.proofs.Common.{◌≡◌, ◌≢◌, ℕ, List, [], ◌∷◌, map, inl, inr, refl, ap, ◌∙◌, sym, subst, arith}
use Rattle.std.proofs.lemmas.Bool.{cases_eq}
use Rattle.std.proofs.lemmas.Grind.{common_steps}
use Rattle.std.specs.List.{AllByRecursion}
use Rattle.run_model.specs.declared.event.Event.{Event}
use Rattle.weaving.specs.declared.journal.JournalEntry.{JournalEntry}
use Rattle.weaving.specs.Woven.{Placed, IsNoLater, AreOrdered, entries_of}
use Rattle.weaving.specs.Laws.{OneWovenList}

entries-here : (p : Placed) (ps : List Placed) → entries_of p.node (p ∷ ps) ≡ p.entry ∷ entries_of p.node ps
entries-here p ps = grind (arith, common_steps)

entries-there : (p : Placed) (ps : List Placed) (v : ℕ) → v ≢ p.node → entries_of v (p ∷ ps) ≡ entries_of v ps
entries-there p ps v apart = grind (arith, common_steps)

-- none of those after it is earlier, nor is a node's first
first-no-earlier : (q : Placed) (qs : List Placed) (v : ℕ) (e : JournalEntry) (es : List JournalEntry) → AllByRecursion (IsNoLater q) qs → entries_of v qs ≡ e ∷ es
    → IsNoLater q (record { node = v; entry = e })
first-no-earlier q [] v e es all is = absurd cc
first-no-earlier q (r ∷ qs) v e es all is = elim (cases_eq v r.node) [
  | inl same ↦
      let first : ◌≡◌ {A = List JournalEntry} (r.entry ∷ entries_of r.node qs) (e ∷ es)
      = sym (entries-here r qs) ∙ subst (λ k. entries_of k (r ∷ qs) ≡ e ∷ es) same is in
      let one : r.entry ≡ e = cc in
      subst (λ k. IsNoLater q (record { node = k; entry = e })) (sym same)
      (subst (λ x. IsNoLater q (record { node = r.node; entry = x })) one all.0)
  | inr apart ↦ first-no-earlier q qs v e es all.1 (sym (entries-there r qs v apart) ∙ is)
]

-- two entries that are each no later than the other are of one node
both-ways : (p q : Placed) → p.node ≢ q.node → IsNoLater p q → IsNoLater q p → ⊥
both-ways p q apart (inl a) (inl b) = absurd (omega arith)
both-ways p q apart (inl a) (inr b) = let s = b.0 in absurd (omega arith)
both-ways p q apart (inr a) (inl b) = let s = a.0 in absurd (omega arith)
both-ways p q apart (inr a) (inr b) = let m = a.1 in let n = b.1 in apart (omega arith)

heads : (p : Placed) (ps : List Placed) (q : Placed) (qs : List Placed) → AreOrdered (p ∷ ps) → AreOrdered (q ∷ qs)
    → ((v : ℕ) → entries_of v (p ∷ ps) ≡ entries_of v (q ∷ qs)) → p.node ≡ q.node
heads p ps q qs a b same = elim (cases_eq p.node q.node) [
  | inl e ↦ e
  | inr apart ↦
      let of-q : entries_of p.node qs ≡ p.entry ∷ entries_of p.node ps
      = sym (entries-there q qs p.node apart) ∙ (sym (same p.node) ∙ entries-here p ps) in
      let of-p : entries_of q.node ps ≡ q.entry ∷ entries_of q.node qs
      = sym (entries-there p ps q.node (λ e. apart (sym e))) ∙ (same q.node ∙ entries-here q qs) in
      absurd (both-ways p q apart (first-no-earlier p ps q.node q.entry (entries_of q.node qs) a.0 of-p)
      (first-no-earlier q qs p.node p.entry (entries_of p.node ps) b.0 of-q))
]

one-list : (ps qs : List Placed) → AreOrdered ps → AreOrdered qs → ((v : ℕ) → entries_of v ps ≡ entries_of v qs)
    → map (λ p. p.entry.event) ps ≡ map (λ p. p.entry.event) qs
one-list [] [] a b same = refl
one-list [] (q ∷ qs) a b same =
    let none : ◌≡◌ {A = List JournalEntry} [] (q.entry ∷ entries_of q.node qs) = same q.node ∙ entries-here q qs in absurd cc
one-list (p ∷ ps) [] a b same =
    let none : ◌≡◌ {A = List JournalEntry} (p.entry ∷ entries_of p.node ps) [] = sym (entries-here p ps) ∙ same p.node in absurd cc
one-list (p ∷ ps) (q ∷ qs) a b same =
    let node-same : p.node ≡ q.node = heads p ps q qs a b same in
    let both : ◌≡◌ {A = List JournalEntry} (p.entry ∷ entries_of p.node ps) (q.entry ∷ entries_of q.node qs)
    = sym (entries-here p ps) ∙ (same p.node ∙ (ap (λ k. entries_of k (q ∷ qs)) node-same ∙ entries-here q qs)) in
    let first : p.entry ≡ q.entry = cc in
    let others : entries_of p.node ps ≡ entries_of q.node qs = cc in
    let rest : (v : ℕ) → entries_of v ps ≡ entries_of v qs
    = λ v. elim (cases_eq v p.node) [
      | inl e ↦ subst (λ k. entries_of k ps ≡ entries_of k qs) (sym e) (others ∙ ap (λ k. entries_of k qs) (sym node-same))
      | inr apart ↦
          sym (entries-there p ps v apart) ∙ (same v ∙ entries-there q qs v (λ e. apart (e ∙ sym node-same)))
    ] in
    let event-same : p.entry.event ≡ q.entry.event = ap (λ e. e.event) first in
    let later = one-list ps qs a.1 b.1 rest in cons-same event-same later where
      cons-same : {x y : Event} {xs ys : List Event} → x ≡ y → xs ≡ ys → ◌≡◌ {A = List Event} (x ∷ xs) (y ∷ ys)
      cons-same e f = rw (e, f) refl

pub one-woven-list : OneWovenList
one-woven-list journal xs ys a b =
    sym a.are_events ∙ (one-list a.placed b.placed a.ordered b.ordered (λ v. a.complete v ∙ sym (b.complete v)) ∙ b.are_events)
