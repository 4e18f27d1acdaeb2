-- Small edges with links of one place, whose numbers are 0 to 4, and what holds of them
use Rattle.std.proofs.Common.{◌≡◌, ℕ, true, false, None, zero, suc, ◌+◌, ◌++◌, List, [], ◌∷◌, length, refl, ap, arith, rules}
use Rattle.std.proofs.lemmas.Grind.{common_steps}
use Rattle.link_model.specs.topology.declared.frame.Frame.{Frame}
use Rattle.link_model.specs.topology.declared.frame.Payload.{Payload}
use Rattle.link_model.specs.declared.item.Item.{Item}
use Rattle.link_model.specs.declared.item.Item.TheVariants as item
use Rattle.data_link.specs.Port.{PortState}
use Rattle.data_link.specs.Edge.{EdgeState, EdgeEvent, SendOut, SendBack, TakeOut, TakeBack, LoseOut, IsStable, IsStableWith, edge_run, edge_step_with, moves_in}
use Rattle.data_link.specs.Edge.{CarriesItsPayload, link_ring, modulus_of, newest_first, payload_under}
use Rattle.data_link.specs.Sweep.{IsSweep, is_out_renewed, is_back_renewed}

abbrev old : Payload
old = record { distance = 2; parent = None; ring = 0 }

abbrev new : Payload
new = record { distance = 1; parent = None; ring = 0 }

abbrev later : Payload
later = record { distance = 0; parent = None; ring = 0 }

abbrev port : ℕ → ℕ → Payload → Payload → PortState
port n m s c = record { seq = n; last = m; staged = s; copy = c }

abbrev frame : ℕ → ℕ → Payload → Frame
frame n m p = record { seq = n; ack = m; payload = p }

abbrev edge : ℕ → Payload → ℕ → Payload → List Item → List Item → EdgeState
edge n staged m copy out back = record { near = port n 0 staged old; far = port 0 m old copy; out = out; back = back }

-- ---- the numbers on a link

-- three frames and noise, the oldest first
abbrev three_frames : List Item
three_frames = item.Frame (frame 1 3 old) ∷ item.Noise ∷ item.Frame (frame 2 0 old) ∷ item.Frame (frame 4 1 new) ∷ []

-- the number of the newest frame, which stands last, comes first, and noise has none
newest_number_first : newest_first (λ f. f.seq) three_frames ≡ 4 ∷ 2 ∷ 1 ∷ []
newest_number_first = refl

-- the acknowledgements come in the same order
newest_acknowledgement_first : newest_first (λ f. f.ack) three_frames ≡ 1 ∷ 0 ∷ 3 ∷ []
newest_acknowledgement_first = refl

-- the oldest does not come first
not_oldest_first : ¬ (newest_first (λ f. f.seq) three_frames ≡ 1 ∷ 2 ∷ 4 ∷ [])
not_oldest_first e = grind arith

-- noise alone gives no number
no_number_of_noise : newest_first (λ f. f.seq) (item.Noise ∷ []) ≡ []
no_number_of_noise = refl

-- an item with a number of this direction: near sends the one, and far the other
abbrev sent : ℕ → Item
sent n = item.Frame (frame n 0 old)

abbrev acknowledged : ℕ → Item
acknowledged m = item.Frame (frame 0 m old)

-- links of two places, full of frames; each number of the other direction is 0
abbrev full : EdgeState
full = edge 6 new 3 old (sent 4 ∷ sent 5 ∷ []) (acknowledged 1 ∷ acknowledged 2 ∷ [])

-- the ring goes out with the newest frame first, to far, and back with the newest acknowledgement first
ring_round : link_ring full ≡ 6 ∷ 5 ∷ 4 ∷ 3 ∷ 2 ∷ 1 ∷ []
ring_round = refl

-- it does not take the frames in the order in which they stand on their links
ring_not_oldest_first : ¬ (link_ring full ≡ 6 ∷ 4 ∷ 5 ∷ 3 ∷ 1 ∷ 2 ∷ [])
ring_not_oldest_first e = grind arith

-- without frames it is near's number and the last number that far accepted
ring_of_two : link_ring (edge 2 new 1 old [] (item.Noise ∷ [])) ≡ 2 ∷ 1 ∷ []
ring_of_two = refl

-- there is one number more than such a ring has places if its links are full of frames
one_number_more : (modulus_of 2 ≡ 7) × (modulus_of 2 ≡ length (link_ring full) + 1)
one_number_more = (refl, refl)

-- links of the greatest capacity
most_numbers : modulus_of 4096 ≡ 8195
most_numbers = refl

-- as many numbers as there are places, four with links of one place, are too few
not_as_many_as_places : ¬ (modulus_of 1 ≡ 4)
not_as_many_as_places e = grind arith

-- ---- the payloads on a link

-- it sends the new payload under number 2; the copy that came to it under number 1 is not sent
abbrev sender : PortState
sender = port 2 1 new old

-- the staged payload belongs to the port's own number
under_its_number : payload_under sender later 2 ≡ new
under_its_number = refl

-- the other payload belongs to each other number, also to the last one that the port accepted
under_other_numbers : (payload_under sender later 1 ≡ later) × (payload_under sender later 3 ≡ later)
under_other_numbers = (refl, refl)

-- the staged payload does not belong to the number after its own
not_under_the_next : ¬ (payload_under sender later 3 ≡ new)
not_under_the_next e = let d : 0 ≡ 1 = ap (λ (p : Payload). p.distance) e in omega (arith, d)

-- noise passes whatever is staged
carries_noise : CarriesItsPayload sender later item.Noise
carries_noise = tt

-- the staged payload comes with the port's number
carries_staged : CarriesItsPayload sender later (item.Frame (frame 2 0 new))
carries_staged = refl

-- the other payload comes with another number, also if the frame acknowledges the port's number
carries_other : CarriesItsPayload sender later (item.Frame (frame 0 2 later))
carries_other = refl

-- the number is the port's, the payload is not
carries_not_other : CarriesItsPayload sender later (item.Frame (frame 2 0 later)) → ⊥
carries_not_other h = let e : 0 ≡ 1 = ap (λ (p : Payload). p.distance) h in omega (arith, e)

-- the payload is the port's, the number is not
carries_not_staged : CarriesItsPayload sender later (item.Frame (frame 0 2 new)) → ⊥
carries_not_staged h = let e : 1 ≡ 0 = ap (λ (p : Payload). p.distance) h in omega (arith, e)

-- ---- stable links

-- the new payload is on its way under number 2, and far still has the old one, under number 1
stable : IsStable 1 (edge 2 new 1 old (item.Frame (frame 2 0 new) ∷ []) (item.Frame (frame 0 1 old) ∷ []))
stable = record { good = search rules; other = old; out = (refl, tt); copied = refl }

-- far has it
stable_copied : IsStable 1 (edge 2 new 2 new [] (item.Noise ∷ []))
stable_copied = record { good = search rules; other = old; out = tt; copied = refl }

-- an old number is on its way after the new one that far has
not_stable_numbers : IsStable 1 (edge 2 new 2 new (item.Frame (frame 1 0 old) ∷ []) []) → ⊥
not_stable_numbers h = let g = h.good in grind (arith, common_steps)

-- the number is the sender's, the payload is not
not_stable_payload : IsStable 1 (edge 2 new 1 old (item.Frame (frame 2 0 later) ∷ []) []) → ⊥
not_stable_payload h = let e : 0 ≡ 1 = ap (λ (p : Payload). p.distance) h.out.0 in omega (arith, e)

-- far has accepted the sender's number with another payload
not_stable_copy : IsStable 1 (edge 2 new 2 old [] []) → ⊥
not_stable_copy h = let e : 2 ≡ 1 = ap (λ (p : Payload). p.distance) h.copied in omega (arith, e)

-- the sender's number moves by the acknowledgement, and the link is stable: the present payload is
-- staged
moved_once : moves_in 1 (edge 2 new 2 new [] []) (SendBack ∷ TakeBack later ∷ []) ≡ 1
moved_once = refl

moved_to : edge_run 1 (edge 2 new 2 new [] []) (SendBack ∷ TakeBack later ∷ []) ≡ record { near = port 3 0 later old; far = port 0 2 old new; out = []; back = [] }
moved_to = refl

-- ---- sweeps

abbrev empty : EdgeState
empty = edge 2 new 2 new [] []

abbrev loaded : Item → EdgeState
loaded x = edge 2 new 2 new (x ∷ []) (x ∷ [])

each_way_once : IsSweep 1 empty (SendOut ∷ TakeOut old ∷ SendBack ∷ TakeBack new ∷ [])
each_way_once = record { out = refl; back = refl }

-- what stood there is taken first, and then what was sent
after_an_old_item : IsSweep 1 (loaded (item.Frame (frame 0 0 old)))
    (TakeOut old ∷ SendOut ∷ TakeOut old ∷ TakeBack new ∷ SendBack ∷ TakeBack new ∷ [])
after_an_old_item = record { out = refl; back = refl }

-- only items that stood there are taken
not_by_an_old_item : is_out_renewed 1 (loaded (item.Frame (frame 0 0 old))) (TakeOut old ∷ TakeBack new ∷ []) ≡ false
not_by_an_old_item = refl

-- the same if the item is noise; and what is sent on a full link is lost
not_by_noise : is_out_renewed 1 (loaded item.Noise) (SendOut ∷ TakeOut old ∷ SendBack ∷ TakeBack new ∷ []) ≡ false
not_by_noise = refl

-- a take on an empty link
not_by_an_empty_link : is_back_renewed 1 empty (SendOut ∷ TakeOut old ∷ TakeBack new ∷ SendBack ∷ []) ≡ false
not_by_an_empty_link = refl

-- what was sent is lost before it is taken
not_by_a_lost_item : is_out_renewed 1 empty (SendOut ∷ LoseOut 0 ∷ TakeOut old ∷ []) ≡ false
not_by_a_lost_item = refl

-- ---- C + 1 numbers are too few

abbrev run_with : ℕ → ℕ → EdgeState → List EdgeEvent → EdgeState
run_with modulus capacity s [] = s
run_with modulus capacity s (e ∷ es) = run_with modulus capacity (edge_step_with modulus capacity s e) es

-- with the numbers 0 and 1 alone this edge is not stable,
abbrev two_numbers : EdgeState
two_numbers = record { near = port 0 1 old old; far = port 0 0 old old; out = item.Frame (frame 1 0 old) ∷ []; back = item.Frame (frame 0 0 old) ∷ [] }

two_numbers-not_stable : IsStableWith 2 two_numbers → ⊥
two_numbers-not_stable h = let g = h.good in grind (arith, common_steps)

-- a sweep
abbrev round : List EdgeEvent
round = TakeOut old ∷ SendOut ∷ TakeBack old ∷ SendBack ∷ TakeOut old ∷ SendOut ∷ TakeBack old ∷ SendBack ∷ []

round-sweep : IsSweep 1 two_numbers round
round-sweep = record { out = refl; back = refl }

-- leads back to it, and so does each further one
round-again : run_with 2 1 two_numbers round ≡ two_numbers
round-again = refl

-- so no number of sweeps makes it stable
abbrev rounds : ℕ → List EdgeEvent
rounds zero = []
rounds (suc n) = round ++ rounds n

rounds-again : (n : ℕ) → run_with 2 1 two_numbers (rounds n) ≡ two_numbers
rounds-again zero = refl
rounds-again (suc n) = rounds-again n
