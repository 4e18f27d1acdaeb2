-- Small examples of what is read and counted, and some that look like them and are none.
use Rattle.std.proofs.Common.{◌≡◌, ℕ, zero, suc, List, [], ◌∷◌, Option, Some, None, true, false, refl, inl, inr, arith}
use Rattle.topology.specs.declared.frame.Payload.{Payload}
use Rattle.configuration.specs.link_model.declared.item.Item.TheVariants as item
use Rattle.layers.specs.declared.items.FrameNumber.TheVariants.{Own, Acknowledged}
use Rattle.layers.specs.declared.ring_reading.Part.{Part}
use Rattle.layers.specs.declared.ring_reading.Part.TheVariants.{Front, Rest, Broken}
use Rattle.layers.specs.declared.ring_reading.RingReading.{RingReading}
use Rattle.layers.specs.declared.payload_reading.PayloadReading.{PayloadReading}
use Rattle.layers.specs.Links.{AreSuch, Nothing_left, One_more, Not_this}
use Rattle.layers.specs.Numbers.{number_of, numbers_of}
use Rattle.layers.specs.PayloadReading.{Admits}
use Rattle.layers.specs.RingReading.{MayFollow}

-- ---- a ring of seven values whose head is 2

abbrev reading : Part → RingReading
reading part = record { head = 2; modulus = 7; part = part }

follows : MayFollow (reading Front) (2 ∷ 1 ∷ 1 ∷ [])
follows = inl (refl, inr (refl, (refl, tt)))

-- after a value that is one less the head's does not come again, and nothing is good that is broken
follows_not-again : ¬ MayFollow (reading Rest) (1 ∷ 2 ∷ [])
follows_not-again f = grind (arith, f)

follows_not-broken : ¬ MayFollow (reading Broken) []
follows_not-broken f = f

-- ---- payloads under 3 and under other numbers

abbrev said : ℕ → Payload
said ring = record { distance = 1; parent = None; ring = ring }

abbrev payloads : Option Payload → PayloadReading
payloads other = record { seq = 3; staged = said 0; other = other; fits = true }

admits-any : Admits (payloads None) (said 5)
admits-any = (refl, tt)

admits_not-other : ¬ Admits (payloads (Some (said 4))) (said 5)
admits_not-other a = grind (arith, a)

-- ---- numbers and counts

own-number : numbers_of (number_of Own) (item.Frame (record { seq = 4; ack = 2; payload = said 0 })) ≡ 4 ∷ []
own-number = refl

noise-has_none : numbers_of (number_of Acknowledged) item.Noise ≡ []
noise-has_none = refl

abbrev is-two : ℕ → Type 0
is-two x = x ≡ 2

two-such : AreSuch is-two (2 ∷ 1 ∷ 2 ∷ []) (suc (suc zero))
two-such = One_more refl (Not_this (λ e. grind (arith, e)) (One_more refl Nothing_left))

such_not-none : ¬ AreSuch is-two (2 ∷ []) zero
such_not-none (Not_this fails a) = fails refl
