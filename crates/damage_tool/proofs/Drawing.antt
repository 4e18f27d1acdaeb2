-- Events that are drawn one after the other, and put after those that are there.
use Rattle.std.proofs.Common.{◌≡◌, ◌∙◌, refl, ℕ, ◌+◌, ◌-◌, ◌<◌, ◌≤◌, suc, List, [], ◌∷◌, ◌++◌, length, get_or, drop, ap, sym, arith}
use Rattle.std.proofs.Common.{append_assoc, append-nil, Result, Ok, Err, OnOk, IsErr}
use Rattle.std.proofs.lemmas.List.{drop_more, drop_all}
use Rattle.std.specs.List.{range_with_len}
use Rattle.rand_pcg.specs.Lcg.{Lcg}
use Rattle.topology.specs.Network.{Network, neighbours_of}
use Rattle.topology.specs.Ranges.{ranges_of}
use Rattle.topology.specs.declared.frame.Ranges.{Ranges}
use Rattle.run_model.specs.declared.event.Event.{Event}
use Rattle.run_model.specs.link_model.declared.item.Item.{Item}
use Rattle.run_model.specs.declared.event.Event.TheVariants.{Damage}
use Rattle.run_model.specs.declared.event.Harm.TheVariants as harm
use Rattle.damage_tool.specs.declared.draws.PortDraw.{PortDraw}
use Rattle.damage_tool.specs.Draws.{draw, draw_port}
use Rattle.damage_tool.specs.Harms.{draw_each, draw_item, draw_item_harm, draw_link}
use Rattle.damage_tool.specs.Harms.{draw_own, port_harms, draw_port_harms, draw_desk, draw_node}
use Rattle.damage_tool.specs.Appended.{appended}

-- the later list is the earlier one with more after it
abbrev pub Grows : List Event → List Event → Type 0
Grows a b = (more : List Event) × (b ≡ a ++ more)

pub grows-on : (a b c : List Event) → Grows a b → Grows b c → Grows a c
grows-on a b c (m, e) (n, f) = (m ++ n, f ∙ ap (λ xs. xs ++ n) e ∙ append_assoc a m n)

-- three times
pub grows-thrice : (a b c d : List Event) → Grows a b → Grows b c → Grows c d → Grows a d
grows-thrice a b c d one two three = grows-on a b d one (grows-on b c d two three)

-- one more is drawn
pub each-more : (draws : ℕ → Lcg → List Event × Lcg) (x : ℕ) (xs : List ℕ) (out more : List Event) (g g2 : Lcg)
    → (more, g2) ≡ appended out (draws x g)
    → appended out (draw_each draws (x ∷ xs) g) ≡ appended more (draw_each draws xs g2)
each-more draws x xs out more g g2 e =
    let d = draws x g in
    let rest = draw_each draws xs d.1 in
    ap (λ ys. (ys, rest.1)) (sym (append_assoc out d.0 rest.0))
    ∙ sym (ap (λ (p : List Event × Lcg). appended p.0 (draw_each draws xs p.1)) e)

-- a range that is not empty begins with its first number
pub range-front : (i n : ℕ) → i < n → range_with_len i (n - i) ≡ i ∷ range_with_len (i + 1) (n - (i + 1))
range-front i n h = let k : ℕ = n - (i + 1) in let e : n - i ≡ suc k = omega arith in ap (range_with_len i) e

-- and so over a range
range-more : (draws : ℕ → Lcg → List Event × Lcg) (i n : ℕ) (out more : List Event) (g g2 : Lcg) → i < n
    → (more, g2) ≡ appended out (draws i g)
    → appended out (draw_each draws (range_with_len i (n - i)) g) ≡ appended more (draw_each draws (range_with_len (i + 1) (n - (i + 1))) g2)
range-more draws i n out more g g2 h e =
    ap (λ xs. appended out (draw_each draws xs g)) (range-front i n h)
    ∙ each-more draws i (range_with_len (i + 1) (n - (i + 1))) out more g g2 e

-- one item is one event
pub item-drawn : (r : Ranges) (u v i : ℕ) (out more : List Event) (item : Item) (g g2 : Lcg) → (item, g2) ≡ draw_item r g
    → more ≡ out ++ Damage (harm.Item u v item) ∷ [] → (more, g2) ≡ appended out (draw_item_harm r u v i g)
item-drawn r u v i out more item g g2 e f =
    ap (λ xs. (xs, g2)) f ∙ ap (λ (p : Item × Lcg). (out ++ Damage (harm.Item u v p.0) ∷ [], p.1)) e

-- a call that failed owes nothing of what is drawn
pub err-owes-nothing : {T E : Type 0} (r : Result T E) (P : Type 0) → IsErr r → OnOk r P
err-owes-nothing (Ok x) P failed = absurd (grind arith)
err-owes-nothing (Err e) P failed = tt

-- a list grows by nothing
pub grows-self : (a : List Event) → Grows a a
grows-self a = ([], sym (append-nil a))

-- and so if it stays
pub grows-as : (a b : List Event) → b ≡ a → Grows a b
grows-as a b e = ([], e ∙ sym (append-nil a))

module _ (draws : ℕ → Lcg → List Event × Lcg) where
  -- nothing is left to be drawn
  each-none : (xs : List ℕ) (out : List Event) (g : Lcg) → xs ≡ [] → appended out (draw_each draws xs g) ≡ (out, g)
  each-none xs out g e = ap (λ ys. appended out (draw_each draws ys g)) e ∙ ap (λ ys. (ys, g)) (append-nil out)

  -- over a range, at its begin and its end
  range-begin : (n : ℕ) (out : List Event) (g : Lcg)
      → appended out (draw_each draws (range_with_len 0 n) g) ≡ appended out (draw_each draws (range_with_len 0 (n - 0)) g)
  range-begin n out g = let e : n ≡ n - 0 = omega arith in ap (λ k. appended out (draw_each draws (range_with_len 0 k) g)) e

  pub range-end : (i n : ℕ) (out : List Event) (g : Lcg) → n ≤ i → appended out (draw_each draws (range_with_len i (n - i)) g) ≡ (out, g)
  range-end i n out g h = let e : n - i ≡ 0 = omega arith in each-none (range_with_len i (n - i)) out g (ap (range_with_len i) e)

  -- over a list, from one place to the next, and at its end
  place-more : (xs : List ℕ) (i : ℕ) (out more : List Event) (g g2 : Lcg) → i < length xs
      → (more, g2) ≡ appended out (draws (get_or xs i 0) g)
      → appended out (draw_each draws (drop i xs) g) ≡ appended more (draw_each draws (drop (i + 1) xs) g2)
  place-more xs i out more g g2 h e =
      ap (λ ys. appended out (draw_each draws ys g)) (drop_more xs i 0 h)
      ∙ each-more draws (get_or xs i 0) (drop (i + 1) xs) out more g g2 e

  pub place-end : (xs : List ℕ) (i : ℕ) (out : List Event) (g : Lcg) → length xs ≤ i
      → appended out (draw_each draws (drop i xs) g) ≡ (out, g)
  place-end xs i out g h = each-none (drop i xs) out g (drop_all i xs h)

-- Events are drawn for each number of a list, and put after those that were there: what is left is still to be drawn.
pub record IsDrawing (draws : ℕ → Lcg → List Event × Lcg) (all left : List ℕ) (old out : List Event) (begun g : Lcg) : Type 0 where
  pub drawn : appended old (draw_each draws all begun) ≡ appended out (draw_each draws left g)
  pub kept : Grows old out

module _ {draws : ℕ → Lcg → List Event × Lcg} {old : List Event} {begun : Lcg} where
  -- over a range: at its begin, and from one number to the next
  pub range-starts : (n : ℕ) → IsDrawing draws (range_with_len 0 n) (range_with_len 0 (n - 0)) old old begun begun
  range-starts n = record { drawn = range-begin draws n old begun; kept = grows-self old }

  pub range-goes_on : {all : List ℕ} {i n : ℕ} {out more : List Event} {g g2 : Lcg} → IsDrawing draws all (range_with_len i (n - i)) old out begun g → i < n
      → (more, g2) ≡ appended out (draws i g) → Grows out more → IsDrawing draws all (range_with_len (i + 1) (n - (i + 1))) old more begun g2
  range-goes_on {all} {i} {n} {out} {more} {g} {g2} before h e grown =
      record { drawn = before.drawn ∙ range-more draws i n out more g g2 h e; kept = grows-on old out more before.kept grown }

  -- and over a list
  pub places-start : (xs : List ℕ) → IsDrawing draws xs (drop 0 xs) old old begun begun
  places-start xs = record { drawn = refl; kept = grows-self old }

  pub places-go_on : {xs : List ℕ} {i : ℕ} {out more : List Event} {g g2 : Lcg} → IsDrawing draws xs (drop i xs) old out begun g → i < length xs
      → (more, g2) ≡ appended out (draws (get_or xs i 0) g) → Grows out more → IsDrawing draws xs (drop (i + 1) xs) old more begun g2
  places-go_on {xs} {i} {out} {more} {g} {g2} before h e grown =
      record { drawn = before.drawn ∙ place-more draws xs i out more g g2 h e; kept = grows-on old out more before.kept grown }

-- a port is four events
pub port-drawn : (r : Ranges) (u v : ℕ) (out more four : List Event) (d : PortDraw) (g g2 : Lcg)
    → d ≡ (draw_port r g).0 → g2 ≡ (draw_port r g).1 → four ≡ port_harms u v d → more ≡ out ++ four
    → (more, g2) ≡ appended out (draw_port_harms r u v g)
port-drawn r u v out more four d g g2 drawn after harms all =
    ap (λ xs. (xs, g2)) (all ∙ ap (λ xs. out ++ xs) (harms ∙ ap (port_harms u v) drawn))
    ∙ ap (λ (h : Lcg). (out ++ port_harms u v (draw_port r g).0, h)) after

-- one drawing after the other
pub two-drawn : (first second : Lcg → List Event × Lcg) (old mid out : List Event) (g g1 g2 : Lcg)
    → appended old (first g) ≡ (mid, g1) → appended mid (second g1) ≡ (out, g2)
    → (out, g2) ≡ appended old ((first g).0 ++ (second (first g).1).0, (second (first g).1).1)
two-drawn first second old mid out g g1 g2 a b =
    let rest = second (first g).1 in
    sym b
    ∙ sym (ap (λ (p : List Event × Lcg). appended p.0 (second p.1)) a)
    ∙ ap (λ ys. (ys, rest.1)) (append_assoc old (first g).0 rest.0)

-- a link: its items go after the event that empties it
pub link-drawn : (net : Network) (u v capacity count : ℕ) (r : Ranges) (old first out : List Event) (g g1 g2 : Lcg)
    → r ≡ ranges_of net → capacity ≡ net.capacity → count ≡ (draw (capacity + 1) g).0 → g1 ≡ (draw (capacity + 1) g).1
    → first ≡ old ++ Damage (harm.Empty u v) ∷ []
    → appended first (draw_each (draw_item_harm r u v) (range_with_len 0 count) g1) ≡ (out, g2)
    → (out, g2) ≡ appended old (draw_link net u v g)
link-drawn net u v capacity count r old first out g g1 g2 ranges room many after one e =
    let drawn = λ (s : Ranges) (n : ℕ) (h : Lcg). draw_each (draw_item_harm s u v) (range_with_len 0 n) h in
    let n = (draw (net.capacity + 1) g).0 in
    let h = (draw (net.capacity + 1) g).1 in
    let items = drawn (ranges_of net) n h in
    sym e
    ∙ ap (λ xs. appended xs (drawn r count g1)) one
    ∙ ap (λ s. appended (old ++ Damage (harm.Empty u v) ∷ []) (drawn s count g1)) ranges
    ∙ ap (λ k. appended (old ++ Damage (harm.Empty u v) ∷ []) (drawn (ranges_of net) k g1)) (many ∙ ap (λ k. (draw (k + 1) g).0) room)
    ∙ ap (λ k. appended (old ++ Damage (harm.Empty u v) ∷ []) (drawn (ranges_of net) n k)) (after ∙ ap (λ k. (draw (k + 1) g).1) room)
    ∙ ap (λ ys. (ys, items.1)) (append_assoc old (Damage (harm.Empty u v) ∷ []) items.0)

-- a node: its ports go after the event that writes its own, and the one of its desk after them
abbrev node-of : Ranges → List ℕ → ℕ → ℕ → List Event → Event × Lcg → List Event × Lcg
node-of r near lease v old own =
    let ports = draw_each (draw_port_harms r v) near own.1 in
    let desk = draw_desk lease v ports.1 in
    (old ++ ((own.0 ∷ ports.0) ++ desk.0 ∷ []), desk.1)

three-drawn : (ports : List Event × Lcg) (draws : Lcg → Event × Lcg) (old first mid out : List Event) (own : Event)
    (desk : Event × Lcg) (g2 : Lcg)
    → first ≡ old ++ own ∷ [] → appended first ports ≡ (mid, g2) → desk ≡ draws g2 → out ≡ mid ++ desk.0 ∷ []
    → ◌≡◌ {A = List Event × Lcg} (out, desk.1) (old ++ ((own ∷ ports.0) ++ (draws ports.1).0 ∷ []), (draws ports.1).1)
three-drawn ports draws old first mid out own desk g2 one some last all =
    let d : desk ≡ draws ports.1 = last ∙ sym (ap (λ (p : List Event × Lcg). draws p.1) some) in
    let m : mid ≡ (old ++ own ∷ []) ++ ports.0 = sym (ap (λ (p : List Event × Lcg). p.0) some) ∙ ap (λ xs. xs ++ ports.0) one in
    ap (λ xs. (xs, desk.1)) (all ∙ ap (λ xs. xs ++ desk.0 ∷ []) m)
    ∙ ap (λ xs. (xs, desk.1)) (append_assoc (old ++ own ∷ []) ports.0 (desk.0 ∷ []) ∙ append_assoc old (own ∷ []) (ports.0 ++ desk.0 ∷ []))
    ∙ ap (λ (p : Event × Lcg). (old ++ ((own ∷ ports.0) ++ p.0 ∷ []), p.1)) d

pub node-drawn : (net : Network) (v lease : ℕ) (r : Ranges) (near : List ℕ) (old first mid out : List Event)
    (own desk : Event × Lcg) (g g2 : Lcg)
    → r ≡ ranges_of net → near ≡ neighbours_of net v → lease ≡ net.lease
    → own ≡ draw_own r v g → first ≡ old ++ own.0 ∷ []
    → appended first (draw_each (draw_port_harms r v) near own.1) ≡ (mid, g2)
    → desk ≡ draw_desk lease v g2 → out ≡ mid ++ desk.0 ∷ []
    → (out, desk.1) ≡ appended old (draw_node net v g)
node-drawn net v lease r near old first mid out own desk g g2 ranges joined most begun one some last all =
    three-drawn (draw_each (draw_port_harms r v) near own.1) (draw_desk lease v) old first mid out own.0 desk g2 one some last all
    ∙ ap (node-of r near lease v old) begun
    ∙ ap (λ s. node-of s near lease v old (draw_own s v g)) ranges
    ∙ ap (λ xs. node-of (ranges_of net) xs lease v old (draw_own (ranges_of net) v g)) joined
    ∙ ap (λ k. node-of (ranges_of net) (neighbours_of net v) k v old (draw_own (ranges_of net) v g)) most
