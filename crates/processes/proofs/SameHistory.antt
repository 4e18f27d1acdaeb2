-- A history is known by its accepts, its gives and its losses.
use Rattle.std.proofs.Common.{◌≡◌, ◌≢◌, ◌⊎◌, inl, inr, ℕ, zero, suc, ◌<◌, ◌≤◌, ◌==◌, if◌then◌else◌, List, [], ◌∷◌, refl, ap, ◌∙◌, sym, subst, arith}
use Rattle.std.proofs.lemmas.Bool.{cases_eq}
use Rattle.std.proofs.lemmas.Grind.{common_steps}
use Rattle.std.specs.List.{AllByRecursion}
use Rattle.processes.specs.Links.{Act, Accepts, Gives, Loses, the_accepts, the_gives, the_losses, moment, kind, IsBefore, AreInOrder}

-- the acts of one kind
abbrev of_kind : ℕ → List Act → List Act
of_kind k [] = []
of_kind k (a ∷ acts) = if kind a == k then a ∷ of_kind k acts else of_kind k acts

kind-accepts : (acts : List Act) → of_kind 0 acts ≡ the_accepts acts
kind-accepts [] = refl
kind-accepts (Accepts t f ∷ acts) = ap (λ xs. Accepts t f ∷ xs) (kind-accepts acts)
kind-accepts (Gives t f ∷ acts) = kind-accepts acts
kind-accepts (Loses t i ∷ acts) = kind-accepts acts

kind-gives : (acts : List Act) → of_kind 1 acts ≡ the_gives acts
kind-gives [] = refl
kind-gives (Accepts t f ∷ acts) = kind-gives acts
kind-gives (Gives t f ∷ acts) = ap (λ xs. Gives t f ∷ xs) (kind-gives acts)
kind-gives (Loses t i ∷ acts) = kind-gives acts

kind-losses : (acts : List Act) → of_kind 2 acts ≡ the_losses acts
kind-losses [] = refl
kind-losses (Accepts t f ∷ acts) = kind-losses acts
kind-losses (Gives t f ∷ acts) = kind-losses acts
kind-losses (Loses t i ∷ acts) = ap (λ xs. Loses t i ∷ xs) (kind-losses acts)

here : (a : Act) (acts : List Act) → of_kind (kind a) (a ∷ acts) ≡ a ∷ of_kind (kind a) acts
here a acts = grind (arith, common_steps)

there : (k : ℕ) (a : Act) (acts : List Act) → kind a ≢ k → of_kind k (a ∷ acts) ≡ of_kind k acts
there k a acts apart = grind (arith, common_steps)

few-kinds : (k : ℕ) (a : Act) → kind a ≢ suc (suc (suc k))
few-kinds k (Accepts t f) e = absurd cc
few-kinds k (Gives t f) e = omega (arith, e)
few-kinds k (Loses t i) e = omega (arith, e)

kind-other : (k : ℕ) (acts : List Act) → of_kind (suc (suc (suc k))) acts ≡ []
kind-other k [] = refl
kind-other k (a ∷ acts) = there (suc (suc (suc k))) a acts (few-kinds k a) ∙ kind-other k acts

-- what holds of all acts holds of the first one of a kind
first-of : (P : Act → Type 0) (k : ℕ) (acts : List Act) (a : Act) (rest : List Act) → AllByRecursion P acts → of_kind k acts ≡ a ∷ rest → P a × (kind a ≡ k)
first-of P k [] a rest all is = absurd cc
first-of P k (b ∷ acts) a rest all is = elim (cases_eq (kind b) k) [
  | inl same ↦
      let f : ◌≡◌ {A = List Act} (b ∷ of_kind k acts) (a ∷ rest) = sym (subst (λ j. of_kind j (b ∷ acts) ≡ b ∷ of_kind j acts) same (here b acts)) ∙ is in
      let g : b ≡ a = cc in
      (subst P g all.0, ap kind (sym g) ∙ same)
  | inr apart ↦ first-of P k acts a rest all.1 (sym (there k b acts apart) ∙ is)
]

-- no act comes after one that happens later
abbrev pub AreWeaklyInOrder : List Act → Type 0
AreWeaklyInOrder [] = Unit {0}
AreWeaklyInOrder (a ∷ acts) = AllByRecursion (λ b. moment a ≤ moment b) acts × AreWeaklyInOrder acts

-- two lists of acts in order that have the same acts of each kind are the same
same-acts : (xs ys : List Act) → AreWeaklyInOrder xs → AreInOrder ys → ((k : ℕ) → of_kind k xs ≡ of_kind k ys) → xs ≡ ys
same-acts [] [] wx wy same = refl
same-acts [] (y ∷ ys) wx wy same =
    let e : ◌≡◌ {A = List Act} [] (y ∷ of_kind (kind y) ys) = same (kind y) ∙ here y ys in absurd cc
same-acts (x ∷ xs) [] wx wy same =
    let e : ◌≡◌ {A = List Act} (x ∷ of_kind (kind x) xs) [] = sym (here x xs) ∙ same (kind x) in absurd cc
same-acts (x ∷ xs) (y ∷ ys) wx wy same = elim (cases_eq (kind y) (kind x)) [
  | inl e ↦
      let f : ◌≡◌ {A = List Act} (x ∷ of_kind (kind x) xs) (y ∷ of_kind (kind x) ys)
      = sym (here x xs) ∙ (same (kind x) ∙ subst (λ k. of_kind k (y ∷ ys) ≡ y ∷ of_kind k ys) e (here y ys)) in
      let first : x ≡ y = cc in
      let of-this : of_kind (kind x) xs ≡ of_kind (kind x) ys = cc in
      let others : (k : ℕ) → of_kind k xs ≡ of_kind k ys = by-kind x y xs ys e of-this same in
      ap (λ a. a ∷ xs) first ∙ ap (λ acts. y ∷ acts) (same-acts xs ys wx.1 wy.1 others)
  | inr apart ↦
      let in-ys : of_kind (kind x) ys ≡ x ∷ of_kind (kind x) xs = sym (there (kind x) y ys apart) ∙ (sym (same (kind x)) ∙ here x xs) in
      let later : IsBefore y x × (kind x ≡ kind x) = first-of (IsBefore y) (kind x) ys x (of_kind (kind x) xs) wy.0 in-ys in
      let other : kind x ≢ kind y = λ e. apart (sym e) in
      let in-xs : of_kind (kind y) xs ≡ y ∷ of_kind (kind y) ys = sym (there (kind y) x xs other) ∙ (same (kind y) ∙ here y ys) in
      let earlier : (moment x ≤ moment y) × (kind y ≡ kind y) = first-of (λ b. moment x ≤ moment b) (kind y) xs y (of_kind (kind y) ys) wx.0 in-xs in
      absurd (never (moment x) (moment y) later.0 earlier.0 apart)
] where
  never : {A B : ℕ} (m n : ℕ) → (n < m) ⊎ ((A ≡ B) × (n ≤ m)) → m ≤ n → A ≢ B → ⊥
  never m n (inl l) e apart = omega (arith, l, e)
  never m n (inr both) e apart = apart both.0

  by-kind : (x y : Act) (xs ys : List Act) → kind y ≡ kind x → of_kind (kind x) xs ≡ of_kind (kind x) ys
      → ((k : ℕ) → of_kind k (x ∷ xs) ≡ of_kind k (y ∷ ys)) → (k : ℕ) → of_kind k xs ≡ of_kind k ys
  by-kind x y xs ys e this same k = elim (cases_eq (kind x) k) [
    | inl is ↦ subst (λ j. of_kind j xs ≡ of_kind j ys) is this
    | inr apart ↦ sym (there k x xs apart) ∙ (same k ∙ there k y ys (λ g. apart (sym e ∙ g)))
  ]

pub same-history : (xs ys : List Act) → AreWeaklyInOrder xs → AreInOrder ys → the_accepts xs ≡ the_accepts ys → the_gives xs ≡ the_gives ys
    → the_losses xs ≡ the_losses ys → xs ≡ ys
same-history xs ys wx wy a g l = same-acts xs ys wx wy each where
  each : (k : ℕ) → of_kind k xs ≡ of_kind k ys
  each zero = kind-accepts xs ∙ (a ∙ sym (kind-accepts ys))
  each (suc zero) = kind-gives xs ∙ (g ∙ sym (kind-gives ys))
  each (suc (suc zero)) = kind-losses xs ∙ (l ∙ sym (kind-losses ys))
  each (suc (suc (suc k))) = kind-other k xs ∙ sym (kind-other k ys)
