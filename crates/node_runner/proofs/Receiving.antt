-- A receiver that takes one item more.
use Rattle.std.proofs.Common.{◌≡◌, ℕ, ◌+◌, ◌<◌, ◌≤◌, List, [], ◌∷◌, ◌++◌, refl, arith, length-append}
use Rattle.std.proofs.lemmas.List.Elements.{AllZip-push}
use mathlib.Core.List.{IsPrefix}
use Rattle.rtrb.specs.Ring.{sent, received, known_free, known_items}
use Rattle.weaving.specs.declared.journal.Stamped.{Stamped}
use Rattle.node_runner.specs.declared.ports.Incoming.{Incoming}
use Rattle.node_runner.specs.Ports.{IsReceiver}
use Rattle.node_runner.specs.Stamps.{IsTakeOf, given_back}
use Rattle.node_runner.proofs.Stamps.{one-fewer}

-- what came was taken at this time, and its place was given back or kept, as the time says
pub takes-one : {A : Type 0} (capacity old : ℕ) (takes : List Stamped) (was now : Incoming A) (came : Stamped) (t : ℕ) → IsReceiver capacity old takes was
    → received now.frames ≡ received was.frames ++ came ∷ [] → IsPrefix (known_items was.frames) (came ∷ known_items now.frames) → came.stamp < t
    → sent now.places ≡ given_back (takes ++ record { stamp = t; item = came.item } ∷ []) → known_free was.places ≤ known_free now.places + 1
    → IsReceiver capacity old (takes ++ record { stamp = t; item = came.item } ∷ []) now
takes-one capacity old takes was now came t so pops begins later back room =
    let one : Stamped = record { stamp = t; item = came.item } in
    let known = one-fewer (known_items was.frames) came (known_items now.frames) begins in
    let long = length-append takes (one ∷ []) in
    record {
      taken = rw pops (AllZip-push IsTakeOf takes (received was.frames) one came so.taken (record { item = refl; later = later }));
      returned = back;
      here = let h = so.here in omega arith;
      room = let r = so.room in omega arith;
    }
