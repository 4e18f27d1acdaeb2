-- How a node stands, as its line for whoever looks says, by hand.
use Rattle.std.proofs.Common.{◌≡◌, true, None, Some, codes, refl}
use Rattle.serde_json.specs.Data.{Data, null, boolean, number, object, member, no_members, unsigned}
use Rattle.status_readings.specs.StandingSaid.{in_range, number_or_null, standing_said}

-- numbers have two bytes
greatest : in_range 65535 ≡ Some 65535
greatest = refl

greater-not : in_range 65536 ≡ None
greater-not = refl

no-parent : number_or_null null ≡ Some None
no-parent = refl

a-parent : number_or_null (number (unsigned 3)) ≡ Some (Some 3)
a-parent = refl

truth-not-number : number_or_null (boolean true) ≡ None
truth-not-number = refl

-- the root of a network, which lends to ticket 7
abbrev root : Data
root = object (member (codes "distance") (number (unsigned 0)) (member (codes "lent") (number (unsigned 7))
    (member (codes "node") (number (unsigned 2)) (member (codes "parent") null (member (codes "token") (boolean true)
    (member (codes "waiting") (number (unsigned 4)) no_members))))))

says-all : standing_said root
    ≡ Some (record { node = 2; distance = 0; parent = None; token = true; lent = Some 7; waiting = 4 })
says-all = refl

-- an object without one of the fields says nothing
says-not-half : standing_said (object (member (codes "distance") (number (unsigned 0)) no_members)) ≡ None
says-not-half = refl
