-- Small examples of when a line on a terminal is written, and of when not.
use Rattle.std.proofs.Common.{◌≡◌, true, false, refl}
use Rattle.run_picture.specs.Shown.{is_due}

-- after two seconds, and a tenth of a second later
due-first : is_due 0 20 ≡ true
due-first = refl

due-next : is_due 20 21 ≡ true
due-next = refl

due_not-early : is_due 0 19 ≡ false
due_not-early = refl

due_not-twice : is_due 21 21 ≡ false
due_not-twice = refl
