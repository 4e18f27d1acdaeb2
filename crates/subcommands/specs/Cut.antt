-- When a file is cut.
use Rattle.std.specs.Prelude.{◌≡◌, ℕ, ◌<◌, List, length, Option, None, Some}

-- it is cut to the bytes that are left, which are fewer; if none must go, it stays as it is
abbrev pub IsCutTo : Option ℕ → List ℕ → List ℕ → Type 0
IsCutTo None bytes left = left ≡ bytes
IsCutTo (Some n) bytes left = (n ≡ length left) × (n < length bytes)
