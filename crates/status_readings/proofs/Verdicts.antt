-- What verdicts say of readings.
use Rattle.std.proofs.Common.{◌≡◌, ◌≢◌, ◌≤◌, ◌⊎◌, inl, inr, ℕ, Bool, true, false, not, ◌&&◌, ◌||◌, List, [], ◌∷◌, length}
use Rattle.std.proofs.Common.{Option, Some, None, refl, ap, arith}
use Rattle.std.specs.Prelude.{filter, unwrap_or, option_map, is_some, nat_le, if◌then◌else◌}
use Rattle.std.specs.List.{list_any, find}
use Rattle.std.proofs.lemmas.Bool.Decides.{nat_tests}
use Rattle.topology.specs.Network.{Network}
use Rattle.node_texts.specs.declared.status_line.StatusLine.{StatusLine}
use Rattle.status_readings.specs.declared.answers.NodeAnswer.{NodeAnswer}
use Rattle.status_readings.specs.Report.{lends, line_lends, has_answered}
use Rattle.status_readings.specs.declared.findings.Finding.{Finding}
use Rattle.status_readings.specs.declared.findings.Finding.TheVariants.{AllWell, TwoLentOnce, Nobody, TwoLend}
use Rattle.status_readings.specs.declared.findings.Severity.TheVariants.{Fine, Warning, Critical}
use Rattle.status_readings.specs.Verdict.{lesser_finding, is_faulty, fault_of, line_fault}
use Rattle.status_readings.specs.Verdict.{is_nobody, two_lend, severity}
use Rattle.status_readings.specs.Laws.{OneLends, OneLoanIsNotCritical, FineIsTrue}

-- if one lends, somebody answered
answered-step : (a : NodeAnswer) (o : Option StatusLine) (xs : List NodeAnswer)
    → length (if line_lends o then a ∷ filter lends xs else filter lends xs) ≡ 1
    → (length (filter lends xs) ≡ 1 → list_any has_answered xs ≡ true)
    → is_some o || list_any has_answered xs ≡ true
answered-step a None xs e others = others e
answered-step a (Some line) xs e others = refl

answered-one : (xs : List NodeAnswer) → length (filter lends xs) ≡ 1 → list_any has_answered xs ≡ true
answered-one [] e = absurd (cc)
answered-one (a ∷ xs) e = answered-step a a.line xs e (answered-one xs)

nobody-one : (xs : List NodeAnswer) → OneLends xs → is_nobody xs ≡ false
nobody-one xs e = ap not (answered-one xs e)

-- and no two lend
two-one : (xs : List NodeAnswer) → OneLends xs → two_lend xs ≡ false
two-one xs e = ap (λ n. nat_le 2 n) e

few : (xs : List NodeAnswer) → two_lend xs ≡ false → length (filter lends xs) ≤ 1
few xs e = grind (arith, nat_tests)

-- what is found of a node is a warning
line-mild : (node : ℕ) (o : Option StatusLine) → severity (line_fault node o) ≡ Warning
line-mild node None = refl
line-mild node (Some line) = refl

fault-mild : (a : NodeAnswer) → severity (fault_of a) ≡ Warning
fault-mild a = line-mild a.node a.line

unwrap-mild : (o : Option NodeAnswer) (f : Finding) → severity f ≢ Critical
    → severity (unwrap_or (option_map fault_of o) f) ≢ Critical
unwrap-mild None f mild = mild
unwrap-mild (Some a) f mild = λ e. let warns : severity (fault_of a) ≡ Warning = fault-mild a in absurd (cc)

lent-mild : (b : Bool) → severity (if b then TwoLentOnce else AllWell) ≢ Critical
lent-mild true = λ e. absurd (cc)
lent-mild false = λ e. absurd (cc)

lesser-mild : (net : Network) (a b c : List NodeAnswer) → severity (lesser_finding net a b c) ≢ Critical
lesser-mild net a b c =
    unwrap-mild (find (is_faulty net) a) _ (unwrap-mild (find (is_faulty net) b) _
    (unwrap-mild (find (is_faulty net) c) _ (lent-mild (two_lend a || two_lend b || two_lend c))))

none-of : (p q r : Bool) → (p ≡ false) ⊎ ((q ≡ false) ⊎ (r ≡ false)) → p && q && r ≡ false
none-of false q r s = refl
none-of true false r s = refl
none-of true true false s = refl
none-of true true true (inl e) = absurd (cc)
none-of true true true (inr (inl e)) = absurd (cc)
none-of true true true (inr (inr e)) = absurd (cc)

chosen-mild : (x y : Bool) (f : Finding) → severity f ≢ Critical → x ≡ false → y ≡ false
    → severity (if x then Nobody else if y then TwoLend else f) ≢ Critical
chosen-mild true y f mild xs ys = absurd (cc)
chosen-mild false true f mild xs ys = absurd (cc)
chosen-mild false false f mild xs ys = mild

pub one-loan : OneLoanIsNotCritical
one-loan net a b c (inl e) = chosen-mild _ _ _ (lesser-mild net a b c)
    (none-of (is_nobody a) (is_nobody b) (is_nobody c) (inl (nobody-one a e)))
    (none-of (two_lend a) (two_lend b) (two_lend c) (inl (two-one a e)))
one-loan net a b c (inr (inl e)) = chosen-mild _ _ _ (lesser-mild net a b c)
    (none-of (is_nobody a) (is_nobody b) (is_nobody c) (inr (inl (nobody-one b e))))
    (none-of (two_lend a) (two_lend b) (two_lend c) (inr (inl (two-one b e))))
one-loan net a b c (inr (inr e)) = chosen-mild _ _ _ (lesser-mild net a b c)
    (none-of (is_nobody a) (is_nobody b) (is_nobody c) (inr (inr (nobody-one c e))))
    (none-of (two_lend a) (two_lend b) (two_lend c) (inr (inr (two-one c e))))

-- if nothing is found, each reading is well
chosen-fine : (x y : Bool) (f : Finding) → severity (if x then Nobody else if y then TwoLend else f) ≡ Fine
    → severity f ≡ Fine
chosen-fine true y f e = absurd (cc)
chosen-fine false true f e = absurd (cc)
chosen-fine false false f e = e

unwrap-fine : (o : Option NodeAnswer) (f : Finding) → severity (unwrap_or (option_map fault_of o) f) ≡ Fine
    → (o ≡ None) × (severity f ≡ Fine)
unwrap-fine None f e = (refl, e)
unwrap-fine (Some a) f e = let warns : severity (fault_of a) ≡ Warning = fault-mild a in absurd (cc)

lent-fine : (b : Bool) → severity (if b then TwoLentOnce else AllWell) ≡ Fine → b ≡ false
lent-fine true e = absurd (cc)
lent-fine false e = refl

none-lent : (p q r : Bool) → p || q || r ≡ false → (p ≡ false) × (q ≡ false) × (r ≡ false)
none-lent true q r e = absurd (cc)
none-lent false true r e = absurd (cc)
none-lent false false true e = absurd (cc)
none-lent false false false e = (refl, refl, refl)

found-step : (b : Bool) (a : NodeAnswer) (o : Option NodeAnswer) (rest : Bool)
    → ◌≡◌ {A = Option NodeAnswer} (if b then Some a else o) None → (o ≡ None → rest ≡ false) → b || rest ≡ false
found-step true a o rest e others = absurd (cc)
found-step false a o rest e others = others e

none-found : (p : NodeAnswer → Bool) (xs : List NodeAnswer) → find p xs ≡ None → list_any p xs ≡ false
none-found p [] e = refl
none-found p (a ∷ xs) e = found-step (p a) a (find p xs) (list_any p xs) e (none-found p xs)

pub fine : FineIsTrue
fine net a b c e =
    let less = chosen-fine (is_nobody a && is_nobody b && is_nobody c) (two_lend a && two_lend b && two_lend c)
    (lesser_finding net a b c) e in
    let (in_a, after_a) = unwrap-fine (find (is_faulty net) a) _ less in
    let (in_b, after_b) = unwrap-fine (find (is_faulty net) b) _ after_a in
    let (in_c, after_c) = unwrap-fine (find (is_faulty net) c) _ after_b in
    let (of_a, of_b, of_c) = none-lent (two_lend a) (two_lend b) (two_lend c) (lent-fine _ after_c) in (
      (none-found (is_faulty net) a in_a, few a of_a),
      (none-found (is_faulty net) b in_b, few b of_b),
      (none-found (is_faulty net) c in_c, few c of_c),
    )
