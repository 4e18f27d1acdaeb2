-- One send and one take of a link whose journals match.
use Rattle.std.proofs.Common.{◌≡◌, ℕ, suc, ◌<◌, ◌≤◌, ◌-◌, List, [], ◌∷◌, ◌++◌, drop, length, ◌∙◌, sym, subst, arith}
use Rattle.std.proofs.lemmas.List.{append_assoc, length-append}
use Rattle.std.specs.List.{AllByRecursion}
use Rattle.link_model.specs.declared.item.Item.{Item}
use Rattle.weaving.specs.declared.journal.Stamped.{Stamped}
use Rattle.weaving.specs.Matched.{AreAbove, IsLinkMatched, stamps, items}
use Rattle.weaving.proofs.Above.{above-next, not-least}

module _ (capacity : ℕ) where
  -- if the next send comes first of all that is left, there is room
  pub has-room : (old : List Item) (s : Stamped) (sent taken : List Stamped) (left : List Item)
      → IsLinkMatched capacity old (s ∷ sent) taken left → length old ≤ capacity → AllByRecursion (λ t. s.stamp ≤ t) (stamps taken)
      → length old < capacity
  has-room old s sent taken left m fits all =
      let full : (capacity - length old) ≡ 0 → ⊥
      = λ e. not-least s.stamp (stamps sent) (stamps taken) (subst (λ n. AreAbove (drop n (stamps (s ∷ sent))) (stamps taken)) e m.sent_later) all
      in grind (arith, full)

  -- if the next take comes first of all that is left, there is an item
  pub has-item : (old : List Item) (sent : List Stamped) (t : Stamped) (taken : List Stamped) (left : List Item)
      → IsLinkMatched capacity old sent (t ∷ taken) left → AllByRecursion (λ s. t.stamp ≤ s) (stamps sent)
      → 0 < length old
  has-item [] sent t taken left m all = absurd (not-least t.stamp (stamps taken) (stamps sent) m.taken_later all)
  has-item (x ∷ old) sent t taken left m all = omega arith

  -- a send
  pub put : (old : List Item) (s : Stamped) (sent taken : List Stamped) (left : List Item) → length old < capacity
      → IsLinkMatched capacity old (s ∷ sent) taken left → IsLinkMatched capacity (old ++ s.item ∷ []) sent taken left
  put old s sent taken left room m =
      let longer : suc (length old) ≡ length (old ++ s.item ∷ []) = omega (arith, length-append old (s.item ∷ [])) in
      let fewer : (capacity - length old) ≡ suc (capacity - length (old ++ s.item ∷ [])) = omega (arith, longer) in record {
        kept = append_assoc old (s.item ∷ []) (items sent) ∙ m.kept;
        taken_later =
            subst (λ n. AreAbove (drop n (stamps taken)) (stamps sent)) longer (above-next (length old) (stamps taken) s.stamp (stamps sent) m.taken_later);
        sent_later = subst (λ n. AreAbove (drop n (stamps (s ∷ sent))) (stamps taken)) fewer m.sent_later;
      }

  -- a take
  pub take : (x : Item) (old : List Item) (sent : List Stamped) (t : Stamped) (taken : List Stamped) (left : List Item) → suc (length old) ≤ capacity
      → IsLinkMatched capacity (x ∷ old) sent (t ∷ taken) left → (x ≡ t.item) × IsLinkMatched capacity old sent taken left
  take x old sent t taken left fits m =
      let more : (capacity - length old) ≡ suc (capacity - suc (length old)) = omega arith in
      let k : ◌≡◌ {A = List Item} (x ∷ (old ++ items sent)) (t.item ∷ (items taken ++ left)) = m.kept in
      let first : x ≡ t.item = cc in
      let rest : old ++ items sent ≡ items taken ++ left = cc in
      let later : AreAbove (drop (capacity - suc (length old)) (stamps sent)) (stamps (t ∷ taken)) = m.sent_later in (
        first,
        record {
          kept = rest;
          taken_later = m.taken_later;
          sent_later =
              subst (λ n. AreAbove (drop n (stamps sent)) (stamps taken)) (sym more)
              (above-next (capacity - suc (length old)) (stamps sent) t.stamp (stamps taken) later);
        },
      )
