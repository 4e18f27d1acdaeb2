-- Bytes that are a text, or are not.
use Rattle.std.proofs.Common.{◌≡◌, ℕ, Bool, true, false, List, [], refl}
use Rattle.std.specs.Prelude.{if◌then◌else◌}
use Rattle.std.specs.Str.{IsUtf8, is_utf8}
use Rattle.std.proofs.lemmas.Str.{IsUtf8-from_is_utf8, is_utf8-from_IsUtf8}
use Rattle.status_command.specs.Asking.{text_or_empty}

pub text-is : (text line : List ℕ) → (text ≡ line) × IsUtf8 line → text ≡ text_or_empty line
text-is text line (same, is) = let e : is_utf8 line ≡ true = is_utf8-from_IsUtf8 line is in rw e same

chosen : (line : List ℕ) (is : Bool) → is_utf8 line ≡ is → ¬ IsUtf8 line → ◌≡◌ {A = List ℕ} [] (if is then line else [])
chosen line true e none = absurd (none (IsUtf8-from_is_utf8 line e))
chosen line false e none = refl

pub no-text : (line : List ℕ) → ¬ IsUtf8 line → ◌≡◌ {A = List ℕ} [] (text_or_empty line)
no-text line none = chosen line (is_utf8 line) refl none
