-- How frames and hellos are spelled.
use Rattle.std.specs.Prelude.{ℕ, ◌+◌, ◌/◌, ◌%◌, nat_lt, if◌then◌else◌, List, [], ◌∷◌, ◌++◌, Option, Some, None}
use Rattle.topology.specs.declared.frame.Frame.{Frame}

-- a value below 16 as a digit, `0` to `9` or `a` to `f`
abbrev pub digit : ℕ → ℕ
digit d = if nat_lt d 10 then 48 + d else 87 + d

-- a number below 65536 as four digits, the highest first
abbrev pub digits : ℕ → List ℕ
digits n = digit (n / 4096 % 16) ∷ digit (n / 256 % 16) ∷ digit (n / 16 % 16) ∷ digit (n % 16) ∷ []

-- a parent as a number, and ffff stands for none
abbrev pub parent_number : Option ℕ → ℕ
parent_number None = 65535
parent_number (Some p) = p

-- a frame is spelled `F`, and then each field as four digits
unfoldable pub spelling : Frame → List ℕ
spelling f =
    70 ∷ (digits f.seq ++ (digits f.ack ++ (digits f.payload.distance
    ++ (digits (parent_number f.payload.parent) ++ digits f.payload.ring))))

-- a hello is spelled `H`, and then the sender's id as four digits
abbrev pub hello : ℕ → List ℕ
hello id = 72 ∷ digits id
