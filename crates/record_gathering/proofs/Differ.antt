-- A field that is named differs, and if none is named for a part of a node's state, the node is as it was
-- noted; for a port, this holds if it leads to a neighbour.
use Rattle.std.proofs.Common.{◌≡◌, ◌≢◌, refl, subst, arith, ℕ, ◌<◌, ◌==◌, Bool, true, false, List, ◌∷◌, Option, None}
use Rattle.std.proofs.lemmas.Grind.{common_steps}
use Rattle.std.proofs.lemmas.Slice.Eq.{bytes_eq-Decides}
use Rattle.std.specs.Str.{bytes_eq}
use Rattle.std.specs.Prelude.{if◌then◌else◌, nat_lt}
use Rattle.std.proofs.lemmas.Bool.{both_ways}
use Rattle.topology.specs.Network.{are_joined}
use Rattle.topology.specs.declared.frame.Frame.{Frame}
use Rattle.topology.specs.declared.frame.Payload.{Payload}
use Rattle.flight_records.specs.Again.{same_node, same_payload}
use Rattle.flight_records.specs.declared.entry.Noted.{Noted}
use Rattle.flight_records.specs.declared.entry.Noted.TheVariants as noted
use Rattle.flight_records.specs.declared.entry.StatePart.{StatePart}
use Rattle.flight_records.specs.declared.entry.StatePart.TheVariants as part
use Rattle.flight_records.specs.declared.entry.Deed.{Deed}
use Rattle.flight_records.specs.declared.entry.Deed.TheVariants as deed
use Rattle.configuration.specs.node_core.State.{LocalState}
use Rattle.configuration.specs.node_core.lock_desk.Desk.{DeskState}
use Rattle.configuration.specs.data_link.Port.{PortState}
use Rattle.configuration.specs.run_model.World.{World}
use Rattle.record_gathering.specs.Differences.{same_truth}
use Rattle.record_gathering.specs.Entries.{is_of_link}
use Rattle.record_gathering.specs.Frames.{is_under_way}
use Rattle.record_gathering.specs.Standing.{StandsAs, IsOfNeighbour}
use Rattle.record_gathering.specs.Fields.{differing, no_fields, own_fields, port_fields, frame_fields, loan_fields, taken_fields, part_fields, deed_fields, noted_fields, fields_of, OwnDiffers, PortDiffers, LoanDiffers, PartDiffers, FrameDiffers, TakenDiffers, DeedDiffers, Differs, AreAll}
use Rattle.record_gathering.specs.declared.fields.Field.{Field}
use Rattle.record_gathering.specs.declared.fields.Field.TheVariants as field
use Rattle.record_gathering.proofs.Same.{node-self, node-same, payload-self, payload-same, truth-self, truth-same}

-- ---- tests of equality

apart : {X : Type 0} (same : X → X → Bool) → ((x : X) → same x x ≡ true) → (x y : X) → same x y ≡ false → x ≢ y
apart same self x y f e = both_ways (same x y) f (subst (λ z. same x z ≡ true) e (self x))

number-self : (n : ℕ) → (n == n) ≡ true
number-self n = grind (arith, common_steps)

number-same : (m n : ℕ) → (m == n) ≡ true → m ≡ n
number-same m n t = grind (arith, common_steps)

numbers-apart : (m n : ℕ) → (m == n) ≡ false → m ≢ n
numbers-apart m n f = apart (λ x y. x == y) number-self m n f

nodes-apart : (o p : Option ℕ) → same_node o p ≡ false → o ≢ p
nodes-apart o p f = apart same_node node-self o p f

payloads-apart : (p q : Payload) → same_payload p q ≡ false → p ≢ q
payloads-apart p q f = apart same_payload payload-self p q f

truths-apart : (b c : Bool) → same_truth b c ≡ false → b ≢ c
truths-apart b c f = apart same_truth truth-self b c f

tickets-self : (ts : List ℕ) → bytes_eq ts ts ≡ true
tickets-self ts = grind (arith, bytes_eq-Decides ts ts)

tickets-same : (xs ys : List ℕ) → bytes_eq xs ys ≡ true → xs ≡ ys
tickets-same xs ys e = grind (arith, bytes_eq-Decides xs ys)

tickets-apart : (xs ys : List ℕ) → bytes_eq xs ys ≡ false → xs ≢ ys
tickets-apart xs ys f = apart bytes_eq tickets-self xs ys f

-- ---- what is named differs

named : (P : Field → Type 0) (b : Bool) (f : Field) (fs : List (Option Field)) → (b ≡ false → P f) → AreAll P fs
    → AreAll P (differing b f ∷ fs)
named P true f fs p all = all
named P false f fs p all = (p refl, all)

either : (P : Field → Type 0) (b : Bool) (fs : List (Option Field)) → AreAll P fs → AreAll P (if b then fs else no_fields)
either P true fs all = all
either P false fs all = tt

own-said : (s : LocalState) (d : ℕ) (p : Option ℕ) → AreAll (OwnDiffers s d p) (own_fields s d p)
own-said s d p =
    let P = OwnDiffers s d p in
    named P (s.distance == d) field.Distance _ (numbers-apart s.distance d)
    (named P (same_node s.parent p) field.Parent _ (nodes-apart s.parent p) tt)

port-said : (u : ℕ) (s : LocalState) (p : PortState) (x : ℕ) → AreAll (PortDiffers u s p x) (port_fields u s p x)
port-said u s p x =
    let P = PortDiffers u s p x in
    let q = s.port u in
    named P (q.seq == p.seq) (field.Number u) _ (λ f. (refl, numbers-apart q.seq p.seq f))
    (named P (q.last == p.last) (field.Last u) _ (λ f. (refl, numbers-apart q.last p.last f))
    (named P (same_payload q.staged p.staged) (field.Staged u) _ (λ f. (refl, payloads-apart q.staged p.staged f))
    (named P (same_payload q.copy p.copy) (field.Copied u) _ (λ f. (refl, payloads-apart q.copy p.copy f))
    (named P (s.value u == x) (field.Value u) _ (λ f. (refl, numbers-apart (s.value u) x f)) tt))))

loan-said : (d : DeskState) (queue : List ℕ) (lent : Option ℕ) (left : ℕ) (served : Bool)
    → AreAll (LoanDiffers d queue lent left served) (loan_fields d queue lent left served)
loan-said d queue lent left served =
    let P = LoanDiffers d queue lent left served in
    named P (bytes_eq d.waiting queue) field.Waiting _ (tickets-apart d.waiting queue)
    (named P (same_node d.lent lent) field.Lent _ (nodes-apart d.lent lent)
    (named P (d.left == left) field.Left _ (numbers-apart d.left left)
    (named P (same_truth d.served served) field.Served _ (truths-apart d.served served) tt)))

frame-said : (u : ℕ) (p : PortState) (f : Frame) → AreAll (FrameDiffers u p f) (frame_fields u p f)
frame-said u p f =
    let P = FrameDiffers u p f in
    named P (p.seq == f.seq) (field.Number u) _ (λ e. (refl, numbers-apart p.seq f.seq e))
    (named P (p.last == f.ack) (field.Last u) _ (λ e. (refl, numbers-apart p.last f.ack e))
    (named P (same_payload p.staged f.payload) (field.Staged u) _ (λ e. (refl, payloads-apart p.staged f.payload e)) tt))

taken-said : (w : World) (u v : ℕ) (f : Frame) → AreAll (TakenDiffers w u v f) (taken_fields w u v f)
taken-said w u v f = named (TakenDiffers w u v f) (is_under_way f (w.link u v)) (field.Taken u) _ (λ e. (refl, e)) tt

part-said : (w : World) (queue : List ℕ) (v : ℕ) (p : StatePart) → AreAll (PartDiffers w queue v p) (part_fields w queue v p)
part-said w queue v (part.Start network node) = tt
part-said w queue v (part.Own d p) = own-said (w.node v) d p
part-said w queue v (part.Port u seq last staged copy x) =
    let q : PortState = record { seq = seq; last = last; staged = staged; copy = copy } in
    either (PortDiffers u (w.node v) q x) (are_joined w.net.edges v u) (port_fields u (w.node v) q x) (port-said u (w.node v) q x)
part-said w queue v (part.Waits t) = tt
part-said w queue v (part.Loan lent left served) = loan-said (w.node v).desk queue lent left served
part-said w queue v part.Whole = tt

deed-said : (w : World) (v : ℕ) (d : Deed) → AreAll (DeedDiffers w v d) (deed_fields w v d)
deed-said w v deed.Ticks = tt
deed-said w v (deed.Takes u f) =
    either (TakenDiffers w u v f) (is_of_link w u v f) (taken_fields w u v f) (taken-said w u v f)
deed-said w v (deed.TakesAgain u) = tt
deed-said w v (deed.Sends u f) =
    let p = (w.node v).port u in
    either (FrameDiffers u p f) (is_of_link w v u f) (frame_fields u p f) (frame-said u p f)
deed-said w v (deed.SendsAgain u) = tt
deed-said w v (deed.Asks t) = tt
deed-said w v (deed.Leaves t) = tt
deed-said w v (deed.Joins u) = tt
deed-said w v (deed.Parts u) = tt
deed-said w v (deed.Connects u) = tt
deed-said w v (deed.Disconnects u) = tt

noted-said : (w : World) (queue : List ℕ) (v : ℕ) (n : Noted) → AreAll (Differs w queue v n) (noted_fields w queue v n)
noted-said w queue v (noted.State p) = part-said w queue v p
noted-said w queue v (noted.Deed d) = deed-said w v d

pub fields-said : (w : World) (queue : List ℕ) (v : ℕ) (n : Noted) → AreAll (Differs w queue v n) (fields_of w queue v n)
fields-said w queue v n =
    either (Differs w queue v n) (nat_lt v w.net.nodes) (noted_fields w queue v n) (noted-said w queue v n)

-- ---- a node that is as it was noted

neither : (b : Bool) (fs : List (Option Field)) → fs ≡ no_fields → (if b then fs else no_fields) ≡ no_fields
neither true fs e = e
neither false fs e = refl

own-quiet : (s : LocalState) (d : ℕ) (p : Option ℕ) → s.distance ≡ d → s.parent ≡ p → own_fields s d p ≡ no_fields
own-quiet s d p a b = grind (arith, common_steps, node-self)

port-quiet : (u : ℕ) (s : LocalState) (p : PortState) (x : ℕ) → s.port u ≡ p → s.value u ≡ x → port_fields u s p x ≡ no_fields
port-quiet u s p x a b = grind (arith, common_steps, payload-self)

loan-quiet : (d : DeskState) (queue : List ℕ) (lent : Option ℕ) (left : ℕ) (served : Bool)
    → d ≡ record { waiting = queue; lent = lent; left = left; served = served }
    → loan_fields d queue lent left served ≡ no_fields
loan-quiet d queue lent left served a = grind (arith, common_steps, tickets-self, node-self, truth-self)

part-quiet : (w : World) (queue : List ℕ) (v : ℕ) (p : StatePart) → StandsAs queue (w.node v) p
    → part_fields w queue v p ≡ no_fields
part-quiet w queue v (part.Start network node) h = refl
part-quiet w queue v (part.Own d p) (a, b) = own-quiet (w.node v) d p a b
part-quiet w queue v (part.Port u seq last staged copy x) (a, b) =
    neither (are_joined w.net.edges v u) _
    (port-quiet u (w.node v) (record { seq = seq; last = last; staged = staged; copy = copy }) x a b)
part-quiet w queue v (part.Waits t) h = refl
part-quiet w queue v (part.Loan lent left served) a = loan-quiet (w.node v).desk queue lent left served a
part-quiet w queue v part.Whole h = refl

pub fields-quiet : (w : World) (queue : List ℕ) (v : ℕ) (p : StatePart) → StandsAs queue (w.node v) p
    → fields_of w queue v (noted.State p) ≡ no_fields
fields-quiet w queue v p h = neither (nat_lt v w.net.nodes) (part_fields w queue v p) (part-quiet w queue v p h)

-- ---- no field is named

unnamed : (b : Bool) (f : Field) (fs gs : List (Option Field)) → differing b f ∷ fs ≡ None ∷ gs → (b ≡ true) × (fs ≡ gs)
unnamed true f fs gs e = (refl, cc e)
unnamed false f fs gs e = absurd (cc e)

chosen : (b : Bool) (fs : List (Option Field)) → b ≡ true → (if b then fs else no_fields) ≡ no_fields → fs ≡ no_fields
chosen true fs t e = e
chosen false fs t e = absurd (cc t)

own-whole : (s : LocalState) (d : ℕ) (p : Option ℕ) → own_fields s d p ≡ no_fields → (s.distance ≡ d) × (s.parent ≡ p)
own-whole s d p e =
    let (a, more) = unnamed (s.distance == d) field.Distance _ _ e in
    let (b, rest) = unnamed (same_node s.parent p) field.Parent _ _ more in
    (number-same s.distance d a, node-same s.parent p b)

port-is : (p q : PortState) → p.seq ≡ q.seq → p.last ≡ q.last → p.staged ≡ q.staged → p.copy ≡ q.copy → p ≡ q
port-is p q a b c d = grind arith

port-whole : (u : ℕ) (s : LocalState) (p : PortState) (x : ℕ) → port_fields u s p x ≡ no_fields
    → (s.port u ≡ p) × (s.value u ≡ x)
port-whole u s p x e =
    let q = s.port u in
    let (a, e1) = unnamed (q.seq == p.seq) (field.Number u) _ _ e in
    let (b, e2) = unnamed (q.last == p.last) (field.Last u) _ _ e1 in
    let (c, e3) = unnamed (same_payload q.staged p.staged) (field.Staged u) _ _ e2 in
    let (d, e4) = unnamed (same_payload q.copy p.copy) (field.Copied u) _ _ e3 in
    let (f, e5) = unnamed (s.value u == x) (field.Value u) _ _ e4 in (
      port-is q p (number-same q.seq p.seq a) (number-same q.last p.last b) (payload-same q.staged p.staged c)
          (payload-same q.copy p.copy d),
      number-same (s.value u) x f,
    )

desk-is : (d e : DeskState) → d.waiting ≡ e.waiting → d.lent ≡ e.lent → d.left ≡ e.left → d.served ≡ e.served → d ≡ e
desk-is d e a b c f = grind arith

loan-whole : (d : DeskState) (queue : List ℕ) (lent : Option ℕ) (left : ℕ) (served : Bool)
    → loan_fields d queue lent left served ≡ no_fields
    → d ≡ record { waiting = queue; lent = lent; left = left; served = served }
loan-whole d queue lent left served e =
    let (a, e1) = unnamed (bytes_eq d.waiting queue) field.Waiting _ _ e in
    let (b, e2) = unnamed (same_node d.lent lent) field.Lent _ _ e1 in
    let (c, e3) = unnamed (d.left == left) field.Left _ _ e2 in
    let (f, e4) = unnamed (same_truth d.served served) field.Served _ _ e3 in
    desk-is d (record { waiting = queue; lent = lent; left = left; served = served }) (tickets-same d.waiting queue a)
    (node-same d.lent lent b) (number-same d.left left c) (truth-same d.served served f)

part-whole : (w : World) (queue : List ℕ) (v : ℕ) (p : StatePart) → IsOfNeighbour w v p → part_fields w queue v p ≡ no_fields
    → StandsAs queue (w.node v) p
part-whole w queue v (part.Start network node) there e = tt
part-whole w queue v (part.Own d p) there e = own-whole (w.node v) d p e
part-whole w queue v (part.Port u seq last staged copy x) there e =
    let q : PortState = record { seq = seq; last = last; staged = staged; copy = copy } in
    port-whole u (w.node v) q x (chosen (are_joined w.net.edges v u) (port_fields u (w.node v) q x) there e)
part-whole w queue v (part.Waits t) there e = tt
part-whole w queue v (part.Loan lent left served) there e = loan-whole (w.node v).desk queue lent left served e
part-whole w queue v part.Whole there e = tt

below : (v n : ℕ) → v < n → nat_lt v n ≡ true
below v n l = grind (arith, common_steps)

pub fields-whole : (w : World) (queue : List ℕ) (v : ℕ) (p : StatePart) → v < w.net.nodes → IsOfNeighbour w v p
    → fields_of w queue v (noted.State p) ≡ no_fields → StandsAs queue (w.node v) p
fields-whole w queue v p here there e =
    part-whole w queue v p there (chosen (nat_lt v w.net.nodes) (part_fields w queue v p) (below v w.net.nodes here) e)
