-- The facts of a world are listed one after the other, and what they become is joined.
use Rattle.std.proofs.Common.{◌≡◌, ◌∙◌, ap, sym, refl, subst, ℕ, suc, ◌+◌, ◌<◌, Bool, true, false, List, [], ◌∷◌, ◌++◌, Some, Result, Ok, Err, length, map, take, append_assoc, arith}
use Rattle.std.proofs.lemmas.List.{map-append, take_more}
use Rattle.std.proofs.lemmas.Option.{slice_get-get_or}
use Rattle.std.specs.Prelude.{if◌then◌else◌, OnOk, is_some, slice_get, slice_index_or}
use Rattle.topology.specs.Network.{Edge, Network, are_joined}
use Rattle.flight_records.specs.declared.entry.Noted.TheVariants as noted
use Rattle.flight_records.specs.declared.entry.StatePart.{StatePart}
use Rattle.flight_records.specs.declared.entry.StatePart.TheVariants.{Start, Waits, Whole}
use Rattle.node_follower.specs.Parts.{loan_part, own_part, port_part}
use Rattle.configuration.specs.link_model.declared.item.Item.{Item}
use Rattle.configuration.specs.node_core.Site.{Site}
use Rattle.configuration.specs.node_core.State.{LocalState}
use Rattle.configuration.specs.run_model.World.{World}
use Rattle.configuration.specs.run_model.Step.{refusal, step}
use Rattle.configuration.specs.run_model.Run.{run}
use Rattle.configuration.specs.run_model.Laws.{RunsJoin}
use Rattle.configuration.specs.run_model.declared.event.Event.{Event}
use Rattle.configuration.specs.run_model.declared.event.Event.TheVariants.{Damage}
use Rattle.configuration.specs.run_model.declared.event.Harm.TheVariants as harm
use Rattle.record_gathering.specs.declared.facts.Fact.{Fact}
use Rattle.record_gathering.specs.declared.facts.Fact.TheVariants.{State, Written}
use Rattle.record_gathering.specs.Accepted.{accepted}
use Rattle.record_gathering.specs.Entries.{entry_events, item_events}
use Rattle.record_gathering.specs.Queues.{queue_of}
use Rattle.record_gathering.specs.Facts.{edge_harm, lacking, state_facts, link_facts, links_from, fact_events, queues_with, set_events, set_queues}
use Rattle.record_gathering.proofs.Accepted.{none-refused, refused-stays}

-- ---- lists that are made of one list element by element

pub one-more : {X Y : Type 0} (f : List X → List Y) → ((xs ys : List X) → f (xs ++ ys) ≡ f xs ++ f ys)
    → (old now new : List Y) (xs : List X) (i : ℕ) (x : X) → take (i + 1) xs ≡ take i xs ++ x ∷ []
    → now ≡ old ++ f (take i xs) → new ≡ now ++ f (x ∷ []) → new ≡ old ++ f (take (i + 1) xs)
one-more {X = X} {Y = Y} f append old now new xs i x more before after =
    after ∙ ap (λ (l : List Y). l ++ f (x ∷ [])) before
    ∙ append_assoc old (f (take i xs)) (f (x ∷ []))
    ∙ ap (λ (l : List Y). old ++ l) (sym (append (take i xs) (x ∷ [])))
    ∙ ap (λ (l : List X). old ++ f l) (sym more)

-- what each element of a list becomes, if an equal list is read in its place
pub map-more : {X Y : Type 0} (f : X → Y) (old now new : List Y) (xs read : List X) → read ≡ xs → (i : ℕ) (x : X) → i < length read
    → now ≡ old ++ map f (take i xs) → new ≡ now ++ f (slice_index_or read i x) ∷ []
    → new ≡ old ++ map f (take (i + 1) xs)
map-more {X = X} f old now new xs read same i x l before after =
    subst (λ (l : List X). now ≡ old ++ map f (take i l) → new ≡ old ++ map f (take (i + 1) l)) same
    (λ first. one-more (map f) (map-append f) old now new read i (slice_index_or read i x) (take_more read i x l) first after) before

-- one more at the front, unless it is passed over
one-unless : (b : Bool) (one : Fact) (all first rest : List Fact) → all ≡ first ++ rest
    → (if b then all else one ∷ all) ≡ (if b then first else one ∷ first) ++ rest
one-unless true one all first rest e = e
one-unless false one all first rest e = ap (λ (l : List Fact). one ∷ l) e

pub lacking-append : (joins : Bool) (net : Network) (xs ys : List Edge)
    → lacking joins net (xs ++ ys) ≡ lacking joins net xs ++ lacking joins net ys
lacking-append joins net [] ys = refl
lacking-append joins net (e ∷ es) ys =
    one-unless (are_joined net.edges e.0 e.1) (Written (edge_harm joins e)) _ _ _ (lacking-append joins net es ys)

-- ---- facts in two parts

pub queues-join : (queues : List (List ℕ)) (xs ys : List Fact)
    → set_queues queues (xs ++ ys) ≡ set_queues (set_queues queues xs) ys
queues-join queues [] ys = refl
queues-join queues (x ∷ xs) ys = queues-join (queues_with queues x) xs ys

pub events-join : RunsJoin → (w : World) (queues : List (List ℕ)) (xs ys : List Fact)
    → set_events w queues (xs ++ ys)
    ≡ set_events w queues xs ++ set_events (run w (set_events w queues xs)) (set_queues queues xs) ys
events-join join w queues [] ys = refl
events-join join w queues (x ∷ xs) ys =
    let first = fact_events w queues x in
    let rest = set_events (run w first) (queues_with queues x) xs in
    ap (λ (es : List Event). first ++ es) (events-join join (run w first) (queues_with queues x) xs ys)
    ∙ sym (append_assoc first rest (set_events (run (run w first) rest) (set_queues (queues_with queues x) xs) ys))
    ∙ ap (λ (v : World). (first ++ rest) ++ set_events v (set_queues (queues_with queues x) xs) ys) (sym (join w first rest))

-- ---- none of what they become is refused

pub accepted-append : (w : World) (xs ys : List Event) → accepted w (xs ++ ys) ≡ accepted w xs ++ accepted (run w xs) ys
accepted-append w [] ys = refl
accepted-append w (x ∷ xs) ys =
    let by : (b : Bool) → is_some (refusal w x) ≡ b
    → (if b then accepted w (xs ++ ys) else x ∷ accepted (step w x) (xs ++ ys))
    ≡ (if b then accepted w xs else x ∷ accepted (step w x) xs) ++ accepted (run (step w x) xs) ys =
    elim [
      | true ↦ λ r. accepted-append w xs ys ∙ ap (λ (v : World). accepted w xs ++ accepted (run v xs) ys) (sym (refused-stays w x r))
      | false ↦ λ r. ap (λ (es : List Event). x ∷ es) (accepted-append (step w x) xs ys)
    ] in
    by (is_some (refusal w x)) refl

one-refused : (w : World) (queues : List (List ℕ)) (f : Fact) → accepted w (fact_events w queues f) ≡ fact_events w queues f
one-refused w queues (State v p) = none-refused w (entry_events w (queue_of queues v) v (noted.State p))
one-refused w queues (Written h) = none-refused w (Damage h ∷ [])

pub set-refused : (w : World) (queues : List (List ℕ)) (fs : List Fact)
    → accepted w (set_events w queues fs) ≡ set_events w queues fs
set-refused w queues [] = refl
set-refused w queues (f ∷ fs) =
    let first = fact_events w queues f in
    let rest = set_events (run w first) (queues_with queues f) fs in
    accepted-append w first rest
    ∙ ap (λ (es : List Event). es ++ accepted (run w first) rest) (one-refused w queues f)
    ∙ ap (λ (es : List Event). first ++ es) (set-refused (run w first) (queues_with queues f) fs)

-- ---- the facts of a node

six : (old a b p q l w : List Fact)
    → (((((old ++ a) ++ b) ++ p) ++ q) ++ l) ++ w ≡ old ++ (a ++ (b ++ (p ++ (q ++ (l ++ w)))))
six old a b p q l w =
    append_assoc ((((old ++ a) ++ b) ++ p) ++ q) l w
    ∙ append_assoc (((old ++ a) ++ b) ++ p) q (l ++ w)
    ∙ append_assoc ((old ++ a) ++ b) p (q ++ (l ++ w))
    ∙ append_assoc (old ++ a) b (p ++ (q ++ (l ++ w)))
    ∙ append_assoc old a (b ++ (p ++ (q ++ (l ++ w))))

-- a part as a fact of v
facts-map : {X : Type 0} (v : ℕ) (f : X → StatePart) (xs : List X)
    → map (State v) (map f xs) ≡ map (λ (x : X). State v (f x)) xs
facts-map v f [] = refl
facts-map v f (x ∷ xs) = ap (λ (l : List Fact). State v (f x) ∷ l) (facts-map v f xs)

pub state-pieces : (network : ℕ) (site : Site) (s : LocalState) (old : List Fact)
    → (((((old ++ State site.id (Start network site.id) ∷ []) ++ State site.id (own_part s) ∷ [])
    ++ map (λ (u : ℕ). State site.id (port_part s u)) site.neighbours)
    ++ map (λ (t : ℕ). State site.id (Waits t)) s.desk.waiting)
    ++ State site.id (loan_part s) ∷ []) ++ State site.id Whole ∷ []
    ≡ old ++ state_facts network site s
state-pieces network site s old =
    let v = site.id in
    let ports = map (port_part s) site.neighbours in
    let queue = map Waits s.desk.waiting in
    let end : List StatePart = loan_part s ∷ Whole ∷ [] in
    let start : Fact = State v (Start network v) in
    let own : Fact = State v (own_part s) in
    six old (start ∷ []) (own ∷ []) (map (λ (u : ℕ). State v (port_part s u)) site.neighbours)
    (map (λ (t : ℕ). State v (Waits t)) s.desk.waiting) (State v (loan_part s) ∷ []) (State v Whole ∷ [])
    ∙ ap (λ (l : List Fact). old ++ start ∷ own ∷ l)
    (sym (map-append (State v) ports (queue ++ end)
    ∙ ap (λ (l : List Fact). l ++ map (State v) (queue ++ end)) (facts-map v (port_part s) site.neighbours)
    ∙ ap (λ (l : List Fact). map (λ (u : ℕ). State v (port_part s u)) site.neighbours ++ l)
    (map-append (State v) queue end ∙ ap (λ (l : List Fact). l ++ map (State v) end) (facts-map v Waits s.desk.waiting))))

-- ---- what is under way, item after item

pub take-got : {X : Type 0} (xs : List X) (i : ℕ) (x : X) → i < length xs → slice_get xs i ≡ Some x
    → take (i + 1) xs ≡ take i xs ++ x ∷ []
take-got {X = X} xs i x l g =
    let same : slice_index_or xs i x ≡ x = cc (slice_get-get_or xs i x l, g) in
    take_more xs i x l ∙ ap (λ (y : X). take i xs ++ y ∷ []) same

pub on-ok : {X Y : Type 0} (r : Result X Y) (P Q : Type 0) → (P → Q) → OnOk r P → OnOk r Q
on-ok (Ok x) P Q f p = f p
on-ok (Err y) P Q f p = p

-- the parts of a node's state, listed one after the other
pub state-listed : (network : ℕ) (site : Site) (s : LocalState) (i : ℕ) (start own loan : StatePart) (old a b p q l new : List Fact)
    → i ≡ site.id → start ≡ Start network site.id → own ≡ own_part s → loan ≡ loan_part s
    → a ≡ old ++ State i start ∷ [] → b ≡ a ++ State i own ∷ []
    → p ≡ b ++ map (λ (u : ℕ). State i (port_part s u)) site.neighbours
    → q ≡ p ++ map (λ (t : ℕ). State i (Waits t)) s.desk.waiting
    → l ≡ q ++ State i loan ∷ [] → new ≡ l ++ State i Whole ∷ []
    → new ≡ old ++ state_facts network site s
state-listed network site s i start own loan old a b p q l new is is_start is_own is_loan ea eb ep eq el en =
    let listed : ℕ → StatePart → StatePart → StatePart → List Fact = λ j x y z.
    (((((old ++ State j x ∷ []) ++ State j y ∷ []) ++ map (λ (u : ℕ). State j (port_part s u)) site.neighbours)
    ++ map (λ (t : ℕ). State j (Waits t)) s.desk.waiting) ++ State j z ∷ []) ++ State j Whole ∷ [] in
    let all : new ≡ listed i start own loan =
    en ∙ ap (λ (x : List Fact). x ++ State i Whole ∷ [])
    (el ∙ ap (λ (x : List Fact). x ++ State i loan ∷ [])
    (eq ∙ ap (λ (x : List Fact). x ++ map (λ (t : ℕ). State i (Waits t)) s.desk.waiting)
    (ep ∙ ap (λ (x : List Fact). x ++ map (λ (u : ℕ). State i (port_part s u)) site.neighbours)
    (eb ∙ ap (λ (x : List Fact). x ++ State i own ∷ []) ea)))) in
    all ∙ ap (λ (j : ℕ). listed j start own loan) is
    ∙ ap (λ (x : StatePart). listed site.id x own loan) is_start
    ∙ ap (λ (x : StatePart). listed site.id (Start network site.id) x loan) is_own
    ∙ ap (λ (x : StatePart). listed site.id (Start network site.id) (own_part s) x) is_loan
    ∙ state-pieces network site s old

-- what an item becomes, item after item
one-item : {Y : Type 0} (f : Item → Y) (items : List Item) (old now new : List Y) (i : ℕ) (item : Item) → i < length items
    → slice_get items i ≡ Some item → now ≡ old ++ map f (take i items) → new ≡ now ++ f item ∷ []
    → new ≡ old ++ map f (take (i + 1) items)
one-item f items old now new i item l g before after =
    one-more (map f) (map-append f) old now new items i item (take-got items i item l g) before after

pub items-more : (w : World) (u v : ℕ) (old now new : List Fact) (i : ℕ) (item : Item) → i < length (w.link u v)
    → slice_get (w.link u v) i ≡ Some item
    → now ≡ old ++ map (λ (x : Item). Written (harm.Item u v x)) (take i (w.link u v))
    → new ≡ now ++ Written (harm.Item u v item) ∷ []
    → new ≡ old ++ map (λ (x : Item). Written (harm.Item u v x)) (take (i + 1) (w.link u v))
items-more w u v = one-item (λ x. Written (harm.Item u v x)) (w.link u v)

-- one more item was put on a link
pub items-put : (w : World) (u v : ℕ) (old now new : List Event) (i : ℕ) (item : Item) → i < length (w.link u v)
    → slice_get (w.link u v) i ≡ Some item
    → now ≡ old ++ item_events u v (take i (w.link u v))
    → new ≡ now ++ Damage (harm.Item u v item) ∷ []
    → new ≡ old ++ item_events u v (take (i + 1) (w.link u v))
items-put w u v = one-item (λ x. Damage (harm.Item u v x)) (w.link u v)

pub links-more : (w : World) (u k : ℕ) (old now new : List Fact) → now ≡ old ++ links_from w u k → new ≡ now ++ link_facts w u k
    → new ≡ old ++ links_from w u (k + 1)
links-more w u k old now new before after =
    let next : k + 1 ≡ suc k = omega arith in
    after ∙ ap (λ (l : List Fact). l ++ link_facts w u k) before ∙ append_assoc old (links_from w u k) (link_facts w u k)
    ∙ ap (λ (n : ℕ). old ++ links_from w u n) (sym next)
