use Rattle.std.proofs.Common.{◌≡◌, ◌<◌, ◌≤◌, ◌∙◌, ℕ, List, length, take, drop, ap, refl, sym, subst, inl, inr, arith, []}
use Rattle.std.specs.Option.{option_copied_mut}
use Rattle.std.specs.Prelude.{slice_index_or, slice_set, IsSome}
use Rattle.std.proofs.lemmas.Bool.{false≢true, true≢false}
use Rattle.std.proofs.lemmas.List.{get_or-set_same, get_or-set_other, length-set, length-take}
use Rattle.circular_buffer.specs.Buffer.{buffer}
use Rattle.slab.specs.Slab.{get, with_value}
use Rattle.slab.proofs.SlabLemmas.{Updates-with_value}
use Rattle.node_connections.specs.Clients.{answers_of}
use Rattle.node_connections.specs.Lives.{Took, Takes_later}
use Rattle.node_connections.specs.Said.{SaidAt}
use Rattle.socket_links.specs.Pipes.{GoesOn, Writes}
use Rattle.socket_links.specs.declared.pipe.WriteAnswer.{WriteAnswer}
use Rattle.socket_links.specs.declared.pipe.WriteAnswer.TheVariants as write
use Rattle.node_connections.proofs.GoingOut.{buffer-at, buffer-other, buffer-set, front-moved, no-items, not-there, nothing-past, out-gone, out-here, out-nothing, rest-put, shorter}
use Rattle.node_connections.specs.declared.clients.Client.{Client}
use Rattle.node_connections.proofs.Heard.{goes-nothing, heard-written, unheard-same}
use Rattle.node_connections.proofs.Lives.{failed-here, stays-at, there, touched-here}
use Rattle.node_connections.proofs.Saying.{nothing-same, said-at, said-out}
use Rattle.node_connections.proofs.Written.{none-still, others-still, room-after, there-still}
use Rattle.node_connections.proofs.clients.Clients.write.Goals.{in-Wrote, in-Later, then-key-ge-PLACES-via-then-key-ge-PLACES, then-key-ge-PLACES-via-else-key-ge-PLACES+then-not-contains}
use Rattle.node_connections.proofs.clients.Clients.write.Given as given
use Rattle.node_connections.proofs.clients.Clients.write.Goals as goal

pub returns-then-key-ge-PLACES-clause-lives : goal.returns-then-key-ge-PLACES-clause-lives
returns-then-key-ge-PLACES-clause-lives g c _ = stays-at g.P.Pipe.gave g.P.Pipe.took g.P.Pipe.counts (get c.args.self.now.table c.args.ticket)

pub returns-then-count-eq0-clause-lives : goal.returns-then-count-eq0-clause-lives
returns-then-count-eq0-clause-lives g c _ = stays-at g.P.Pipe.gave g.P.Pipe.took g.P.Pipe.counts (get c.args.self.now.table c.args.ticket)

pub returns-clause-lives : goal.returns-clause-lives
returns-clause-lives g c _ =
    let client = c.in-Some.client.now in
    let there = c.in-Some.ensures.value in
    elim c.match-try_write.branch [
      | in-Wrote w ↦ touched-here g.P.Pipe.gave g.P.Pipe.took g.P.Pipe.counts c.args.self.now.table c.args.ticket client (record { pipe = c.try_write.new.self; reader = client.reader }) there
          (Took w.in-Wrote.written _ (rw w.in-Wrote.is at c.try_write.ensures.writes) c.try_write.ensures.gave)
      | in-Later w ↦ touched-here g.P.Pipe.gave g.P.Pipe.took g.P.Pipe.counts c.args.self.now.table c.args.ticket client (record { pipe = c.try_write.new.self; reader = client.reader }) there
          (Takes_later [] (rw w.in-Later.is at c.try_write.ensures.writes) c.try_write.ensures.gave)
    ]

pub returns-in-Failed-clause-failed : goal.returns-in-Failed-clause-failed
returns-in-Failed-clause-failed g c _ =
    let client = c.in-Some.client.now in
    let wrote : Writes write.Failed [] (g.P.Pipe.took client.pipe) (g.P.Pipe.took c.try_write.new.self) (g.P.Pipe.counts client.pipe) (g.P.Pipe.counts c.try_write.new.self) =
    rw c.in-Failed.is at c.try_write.ensures.writes in
    failed-here g.P.Pipe.gave g.P.Pipe.took g.P.Pipe.counts c.args.self.now.table c.args.ticket client (record { pipe = c.try_write.new.self; reader = client.reader }) c.in-Some.ensures.value ([], wrote, c.try_write.ensures.gave)

pub returns-then-key-ge-PLACES-clause-out : goal.returns-then-key-ge-PLACES-clause-out
returns-then-key-ge-PLACES-clause-out g c _ =
    let self = c.args.self.now in
    let client = get self.table c.args.ticket in
    elim c.then-key-ge-PLACES.branch [
      | then-key-ge-PLACES-via-then-key-ge-PLACES w ↦
          out-nothing g.P.Pipe.counts client client (answers_of self c.args.ticket) (answers_of self c.args.ticket) (nothing-past self c.args.ticket self.answers_are w.if-key-ge-PLACES.true)
      | then-key-ge-PLACES-via-else-key-ge-PLACES+then-not-contains w ↦
          out-gone g.P.Pipe.counts client client (answers_of self c.args.ticket) (answers_of self c.args.ticket) (not-there client w.contains.result w.contains.ensures.1 w.if-not-contains.true)
    ]

pub returns-then-count-eq0-clause-out : goal.returns-then-count-eq0-clause-out
returns-then-count-eq0-clause-out g c _ =
    let self = c.args.self.now in
    let client = get self.table c.args.ticket in
    let waits = buffer-at self.answers.items c.args.ticket c.index.result.now (rw self.answers_are c.if-key-ge-PLACES.false) c.index.ensures in
    let none : length c.index.result.now.items ≡ 0 = sym c.len-count.ensures.len ∙ c.if-count-eq0.true in
    out-nothing g.P.Pipe.counts client client (answers_of self c.args.ticket) (answers_of self c.args.ticket) (ap (λ b. b.items) waits ∙ no-items c.index.result.now.items none)

-- what the pipe was offered is what waited, and what waits at the end is what it did not take of that
moved : (g : given.Over) (c : goal.After-self-4-1 g)
    → (take c.len-count.result c.read_into-all.new.dst ≡ answers_of c.args.self.now c.args.ticket)
    × (c.match-try_write.written ≤ c.len-count.result
    → (slice_index_or (slice_set (slice_set c.args.self.now.answers.items c.args.ticket c.read_into-all.new.self) c.args.ticket c.fill_from_slice-rest.new.self) c.args.ticket (buffer [] 0)).items
    ≡ drop c.match-try_write.written (answers_of c.args.self.now c.args.ticket))
moved g c =
    let self = c.args.self.now in
    let k = c.args.ticket in
    let bs = self.answers.items in
    let less : k < length bs = rw self.answers_are c.if-key-ge-PLACES.false in
    let first = c.index_mut.result.now in
    let was = buffer-at bs k first less c.index_mut.ensures.value in
    let same : c.index.result.now ≡ first = sym (buffer-at bs k c.index.result.now less c.index.ensures) ∙ was in
    let wide : first.capacity ≡ 256 = ap (λ b. b.capacity) (sym was) ∙ self.rooms k c.if-key-ge-PLACES.false in
    let all : c.len-count.result ≡ length first.items = c.len-count.ensures.len ∙ ap (λ b. length b.items) same in
    let room : c.index.result.now.capacity ≡ 256 = ap (λ b. b.capacity) same ∙ wide in
    let few : length first.items ≤ 256 = (let fits = c.len-count.ensures.within.0 in omega (arith, fits, room, all)) in
    let second : c.index_mut-2.result.now ≡ c.read_into-all.new.self =
    c.index_mut-2.ensures.value ∙ get_or-set_same bs k c.read_into-all.new.self c.index_mut-2.result.now less in
    let emptied = second ∙ c.read_into-all.ensures.items in
    let rest = rest-put first.items c.read_into-all.new.dst _ c.read_into-all.result c.len-count.result c.read_into-all.ensures.count few all c.read_into-all.ensures.read in (
      front-moved first.items c.read_into-all.new.dst _ c.read_into-all.result c.len-count.result c.read_into-all.ensures.count few all c.read_into-all.ensures.read ∙ ap (λ b. b.items) (sym was),
      λ within.
          ap (λ b. b.items) (buffer-set bs k c.read_into-all.new.self c.fill_from_slice-rest.new.self less ∙ c.fill_from_slice-rest.ensures.items)
          ∙ (rest c.match-try_write.written c.fill_from_slice-rest.result c.index_mut-2.result.now.capacity c.index_mut-2.result.now.items (ap (λ b. b.items) emptied) within
          c.fill_from_slice-rest.ensures.count (ap (λ b. b.capacity) emptied ∙ wide)
          ∙ ap (λ b. drop c.match-try_write.written b.items) (sym was)),
    )

-- what the pipe said of what it was offered
writes-as : (g : given.Over) (c : goal.After-self-4-1 g) (answer : WriteAnswer) → c.try_write.result ≡ answer
    → Writes answer (take c.len-count.result c.read_into-all.new.dst) (g.P.Pipe.took c.in-Some.client.now.pipe) (g.P.Pipe.took c.try_write.new.self) (g.P.Pipe.counts c.in-Some.client.now.pipe) (g.P.Pipe.counts c.try_write.new.self)
writes-as g c answer is = rw is at c.try_write.ensures.writes

pub returns-clause-out : goal.returns-clause-out
returns-clause-out g c _ =
    let client = c.in-Some.client.now in
    elim c.match-try_write.branch [
      | in-Wrote w ↦
          let wrote = writes-as g c (write.Wrote w.in-Wrote.written) w.in-Wrote.is in
          let is : c.match-try_write.written ≡ w.in-Wrote.written = w.written-is in
          let some : 0 < c.match-try_write.written = rw is wrote.0 in
          let most : c.match-try_write.written ≤ length (take c.len-count.result c.read_into-all.new.dst) = rw is wrote.1 in
          let size = length-take c.len-count.result c.read_into-all.new.dst in
          out-here g.P.Pipe.counts c.args.self.now.table c.args.ticket client (record { pipe = c.try_write.new.self; reader = client.reader }) _ _ c.in-Some.ensures.value
          (inl (shorter (answers_of c.args.self.now c.args.ticket) _ c.match-try_write.written ((moved g c).1 (omega (arith, most, size))) some (subst (λ xs. c.match-try_write.written ≤ length xs) (moved g c).0 most)))
      | in-Later w ↦
          let wrote = writes-as g c write.Later w.in-Later.is in
          out-here g.P.Pipe.counts c.args.self.now.table c.args.ticket client (record { pipe = c.try_write.new.self; reader = client.reader }) _ _ c.in-Some.ensures.value (inr wrote.2)
    ]

pub returns-clause-nothing : goal.returns-clause-nothing
returns-clause-nothing g c _ =
    let self = c.args.self.now in
    let k = c.args.ticket in
    let client = c.in-Some.client.now in
    let new : Client g.row.P.Denot = record { pipe = c.try_write.new.self; reader = client.reader } in
    let changed = Updates-with_value self.table k new (there self.table k client c.in-Some.ensures.value) in
    let size = length-take c.len-count.result c.read_into-all.new.dst in
    let waits : ℕ → List ℕ =
    λ t. (slice_index_or (slice_set (slice_set self.answers.items k c.read_into-all.new.self) k c.fill_from_slice-rest.new.self) t (buffer [] 0)).items in
    let all : (c.match-try_write.written ≤ c.len-count.result) → GoesOn (take c.match-try_write.written (answers_of self k)) (g.P.Pipe.took client.pipe) (g.P.Pipe.took c.try_write.new.self)
    → (t : ℕ) → SaidAt g.P.Pipe.took [] (get self.table t) (answers_of self t) (get (with_value self.table k new) t) (waits t) =
    λ within goes.
    said-at g.P.Pipe.took k self.table (with_value self.table k new) (λ t. answers_of self t) waits
    (said-out g.P.Pipe.took c.match-try_write.written client new _ _ _ _ c.in-Some.ensures.value changed.changed goes ((moved g c).1 within))
    changed.others (λ t other. ap (λ b. b.items) (buffer-other self.answers.items k t c.read_into-all.new.self c.fill_from_slice-rest.new.self other)) in
    elim c.match-try_write.branch [
      | in-Wrote w ↦
          let wrote = writes-as g c (write.Wrote w.in-Wrote.written) w.in-Wrote.is in
          let is : c.match-try_write.written ≡ w.in-Wrote.written = w.written-is in
          let most : c.match-try_write.written ≤ length (take c.len-count.result c.read_into-all.new.dst) = rw is wrote.1 in
          all (omega (arith, most, size)) (rw (is, sym (moved g c).0) wrote.2)
      | in-Later w ↦
          let wrote = writes-as g c write.Later w.in-Later.is in
          let is : c.match-try_write.written ≡ 0 = w.written-is in
          all (omega (arith, is)) (rw (is, wrote.0) (goes-nothing (g.P.Pipe.took client.pipe)))
    ]

pub returns-then-key-ge-PLACES-clause-heard : goal.returns-then-key-ge-PLACES-clause-heard
returns-then-key-ge-PLACES-clause-heard g c = unheard-same g.P.Pipe.gave c.args.self.now c.args.self.now refl

pub returns-then-count-eq0-clause-heard : goal.returns-then-count-eq0-clause-heard
returns-then-count-eq0-clause-heard g c = unheard-same g.P.Pipe.gave c.args.self.now c.args.self.now refl

pub returns-in-Failed-clause-heard : goal.returns-in-Failed-clause-heard
returns-in-Failed-clause-heard g c =
    let client = c.in-Some.client.now in
    heard-written g.P.Pipe.gave c.args.self.now.table c.args.ticket client (record { pipe = c.try_write.new.self; reader = client.reader }) c.in-Some.ensures.value c.try_write.ensures.gave refl

pub returns-clause-heard : goal.returns-clause-heard
returns-clause-heard g c =
    let client = c.in-Some.client.now in
    heard-written g.P.Pipe.gave c.args.self.now.table c.args.ticket client (record { pipe = c.try_write.new.self; reader = client.reader }) c.in-Some.ensures.value c.try_write.ensures.gave refl

-- ---- a client for whom there is nothing to write

pub returns-then-key-ge-PLACES-clause-same : goal.returns-then-key-ge-PLACES-clause-same
returns-then-key-ge-PLACES-clause-same g c t = refl

pub returns-then-key-ge-PLACES-clause-failed : goal.returns-then-key-ge-PLACES-clause-failed
returns-then-key-ge-PLACES-clause-failed g c fails = absurd (true≢false fails)

pub returns-then-key-ge-PLACES-clause-others_stay : goal.returns-then-key-ge-PLACES-clause-others_stay
returns-then-key-ge-PLACES-clause-others_stay g c t other = refl

pub returns-then-key-ge-PLACES-clause-others : goal.returns-then-key-ge-PLACES-clause-others
returns-then-key-ge-PLACES-clause-others g c t other = refl

pub returns-then-key-ge-PLACES-clause-nothing : goal.returns-then-key-ge-PLACES-clause-nothing
returns-then-key-ge-PLACES-clause-nothing g c _ = nothing-same g.P.Pipe.took c.args.self.now c.args.self.now refl refl

pub returns-then-count-eq0-clause-same : goal.returns-then-count-eq0-clause-same
returns-then-count-eq0-clause-same g c t = refl

pub returns-then-count-eq0-clause-failed : goal.returns-then-count-eq0-clause-failed
returns-then-count-eq0-clause-failed g c fails = absurd (true≢false fails)

pub returns-then-count-eq0-clause-others_stay : goal.returns-then-count-eq0-clause-others_stay
returns-then-count-eq0-clause-others_stay g c t other = refl

pub returns-then-count-eq0-clause-others : goal.returns-then-count-eq0-clause-others
returns-then-count-eq0-clause-others g c t other = refl

pub returns-then-count-eq0-clause-nothing : goal.returns-then-count-eq0-clause-nothing
returns-then-count-eq0-clause-nothing g c _ = nothing-same g.P.Pipe.took c.args.self.now c.args.self.now refl refl

-- ---- the client is there, as was seen before its answers were read

pub invariant_of-self : goal.invariant_of-self
invariant_of-self g c =
    let self = c.args.self.now in
    record {
      room = self.room;
      answers_are = length-set self.answers.items c.args.ticket c.read_into-all.new.self ∙ self.answers_are;
      rooms = room-after self.answers.items c.args.ticket c.index_mut.result.now c.read_into-all.new.self self.answers_are c.if-key-ge-PLACES.false self.rooms c.index_mut.ensures.value (ap (λ b. b.capacity) c.read_into-all.ensures.items);
      tickets = self.tickets;
    }

nobody-gone : (g : given.Over) (c : goal.After-self-in_default-3-1 g) → ⊥
nobody-gone g c =
    let none = sym c.get_mut.follows ∙ ap (λ x. option_copied_mut x) c.in_default.is in
    false≢true (subst (λ x. IsSome x) none (c.contains.ensures.0 c.if-not-contains.false))

pub returns-in_default-clause-same : goal.returns-in_default-clause-same
returns-in_default-clause-same g c = absurd (nobody-gone g c)

pub returns-in_default-clause-lives : goal.returns-in_default-clause-lives
returns-in_default-clause-lives g c = absurd (nobody-gone g c)

pub returns-in_default-clause-failed : goal.returns-in_default-clause-failed
returns-in_default-clause-failed g c = absurd (nobody-gone g c)

pub returns-in_default-clause-others_stay : goal.returns-in_default-clause-others_stay
returns-in_default-clause-others_stay g c = absurd (nobody-gone g c)

pub returns-in_default-clause-others : goal.returns-in_default-clause-others
returns-in_default-clause-others g c = absurd (nobody-gone g c)

pub returns-in_default-clause-heard : goal.returns-in_default-clause-heard
returns-in_default-clause-heard g c = absurd (nobody-gone g c)

pub returns-in_default-clause-nothing : goal.returns-in_default-clause-nothing
returns-in_default-clause-nothing g c = absurd (nobody-gone g c)

pub returns-in_default-clause-out : goal.returns-in_default-clause-out
returns-in_default-clause-out g c = absurd (nobody-gone g c)

-- ---- a write that failed

pub invariant_of-self-in-Failed : goal.invariant_of-self-in-Failed
invariant_of-self-in-Failed g c =
    let self = c.args.self.now in
    let client = c.in-Some.client.now in
    record {
      room = self.room;
      answers_are = length-set self.answers.items c.args.ticket c.read_into-all.new.self ∙ self.answers_are;
      rooms = room-after self.answers.items c.args.ticket c.index_mut.result.now c.read_into-all.new.self self.answers_are c.if-key-ge-PLACES.false self.rooms c.index_mut.ensures.value (ap (λ b. b.capacity) c.read_into-all.ensures.items);
      tickets = none-still self.table c.args.ticket client (record { pipe = c.try_write.new.self; reader = client.reader }) c.in-Some.ensures.value self.tickets;
    }

pub returns-in-Failed-clause-same : goal.returns-in-Failed-clause-same
returns-in-Failed-clause-same g c =
    let client = c.in-Some.client.now in
    there-still c.args.self.now.table c.args.ticket client (record { pipe = c.try_write.new.self; reader = client.reader }) c.in-Some.ensures.value

pub returns-in-Failed-clause-lives : goal.returns-in-Failed-clause-lives
returns-in-Failed-clause-lives g c goes = absurd (false≢true goes)

pub returns-in-Failed-clause-others_stay : goal.returns-in-Failed-clause-others_stay
returns-in-Failed-clause-others_stay g c =
    let client = c.in-Some.client.now in
    others-still c.args.self.now.table c.args.ticket client (record { pipe = c.try_write.new.self; reader = client.reader }) c.in-Some.ensures.value

pub returns-in-Failed-clause-others : goal.returns-in-Failed-clause-others
returns-in-Failed-clause-others g c t other =
    ap (λ b. b.items) (get_or-set_other c.args.self.now.answers.items c.args.ticket t c.read_into-all.new.self (buffer [] 0) other)

pub returns-in-Failed-clause-nothing : goal.returns-in-Failed-clause-nothing
returns-in-Failed-clause-nothing g c goes = absurd (false≢true goes)

pub returns-in-Failed-clause-out : goal.returns-in-Failed-clause-out
returns-in-Failed-clause-out g c goes = absurd (false≢true goes)

-- ---- a write that did not fail

pub invariant_of-self-2 : goal.invariant_of-self-2
invariant_of-self-2 g c =
    let self = c.args.self.now in
    let client = c.in-Some.client.now in
    record {
      room = self.room;
      answers_are = length-set (slice_set self.answers.items c.args.ticket c.read_into-all.new.self) c.args.ticket c.fill_from_slice-rest.new.self ∙ (length-set self.answers.items c.args.ticket c.read_into-all.new.self ∙ self.answers_are);
      rooms = room-after (slice_set self.answers.items c.args.ticket c.read_into-all.new.self) c.args.ticket c.index_mut-2.result.now c.fill_from_slice-rest.new.self (length-set self.answers.items c.args.ticket c.read_into-all.new.self ∙ self.answers_are) c.if-key-ge-PLACES.false
          (room-after self.answers.items c.args.ticket c.index_mut.result.now c.read_into-all.new.self self.answers_are c.if-key-ge-PLACES.false self.rooms c.index_mut.ensures.value (ap (λ b. b.capacity) c.read_into-all.ensures.items))
          c.index_mut-2.ensures.value (ap (λ b. b.capacity) c.fill_from_slice-rest.ensures.items);
      tickets = none-still self.table c.args.ticket client (record { pipe = c.try_write.new.self; reader = client.reader }) c.in-Some.ensures.value self.tickets;
    }

pub returns-clause-same : goal.returns-clause-same
returns-clause-same g c =
    let client = c.in-Some.client.now in
    there-still c.args.self.now.table c.args.ticket client (record { pipe = c.try_write.new.self; reader = client.reader }) c.in-Some.ensures.value

pub returns-clause-failed : goal.returns-clause-failed
returns-clause-failed g c fails = absurd (true≢false fails)

pub returns-clause-others_stay : goal.returns-clause-others_stay
returns-clause-others_stay g c =
    let client = c.in-Some.client.now in
    others-still c.args.self.now.table c.args.ticket client (record { pipe = c.try_write.new.self; reader = client.reader }) c.in-Some.ensures.value

pub returns-clause-others : goal.returns-clause-others
returns-clause-others g c t other =
    ap (λ b. b.items) (buffer-other c.args.self.now.answers.items c.args.ticket t c.read_into-all.new.self c.fill_from_slice-rest.new.self other)

-- ---- the places and the ranges that it reads and writes

pub index-requires : goal.index-requires
index-requires g c = omega (arith, c.args.self.now.answers.ok.0, c.args.self.now.answers_are, c.if-key-ge-PLACES.false)

pub index_mut-requires : goal.index_mut-requires
index_mut-requires g c = omega (arith, c.args.self.now.answers.ok.0, c.args.self.now.answers_are, c.if-key-ge-PLACES.false)

pub index_mut-requires-2 : goal.index_mut-requires-2
index_mut-requires-2 g c = omega (arith, c.args.self.now.answers.ok.0, c.args.self.now.answers_are, c.if-key-ge-PLACES.false)

pub slice_bounds-read_into-end : goal.slice_bounds-read_into-end
slice_bounds-read_into-end g c = refl
