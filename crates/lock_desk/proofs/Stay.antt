-- Once a desk lends or has served, no ask, leave or tick begins a loan until a full tick is over.
use Rattle.std.proofs.Common.{◌≡◌, ℕ, true, false, ◌||◌, List, [], ◌∷◌, arith}
use Rattle.std.proofs.lemmas.Grind.{common_steps}
use Rattle.lock_desk.specs.Desk.{DeskState, lends}
use Rattle.lock_desk.specs.Laws.{DeskCall, after_call, is_full_tick, begins_loan, LendsNoMore}

begins-none : (lease : ℕ) (d : DeskState) (call : DeskCall) → lends d || d.served ≡ true → begins_loan lease call d ≡ false
begins-none lease d call busy = grind (arith, common_steps)

stays-busy : (lease : ℕ) (d : DeskState) (call : DeskCall) → lends d || d.served ≡ true → is_full_tick lease call d ≡ false
    → lends (after_call lease call d) || (after_call lease call d).served ≡ true
stays-busy lease d call busy f = grind (arith, common_steps)

pub lends_no_more : (lease : ℕ) (d : DeskState) (calls : List DeskCall) → lends d || d.served ≡ true → LendsNoMore lease d calls
lends_no_more lease d [] busy = tt
lends_no_more lease d (call ∷ calls) busy =
    (begins-none lease d call busy, λ f. lends_no_more lease (after_call lease call d) calls (stays-busy lease d call busy f))
