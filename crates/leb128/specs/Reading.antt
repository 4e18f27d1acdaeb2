-- What bytes are read as: the number at their front, or why there is none.
use Rattle.std.specs.Prelude.{◌≡◌, ℕ, zero, suc, ◌+◌, ◌-◌, ◌*◌, ◌^◌, ◌==◌, nat_lt, if◌then◌else◌, List, [], ◌∷◌, Result, Ok, Err}
use Rattle.leb128.specs.declared.unread.Unread.{Unread}
use Rattle.leb128.specs.declared.unread.Unread.TheVariants.{Short, Invalid}

-- what a function returned, seen by `view`, is what reading gives
abbrev pub Gives : {X Y : Type 0} → (X → Y) → Result X Unread → Result Y Unread → Type 0
Gives view (Ok x) read = read ≡ Ok (view x)
Gives view (Err e) read = read ≡ Err e

-- goes on with a value if one was read, else keeps the error
infixl 10 ◌>>=◌
abbrev pub ◌>>=◌ : {A B : Type 0} → Result A Unread → (A → Result B Unread) → Result B Unread
(Ok x) >>= f = f x
(Err e) >>= f = Err e

-- the number with the low seven bits of a byte and the other bits of a number; not one that LEB128
-- spells more shortly, nor one from 2^64 on
abbrev pub with_low : ℕ → ℕ → Result ℕ Unread
with_low b high =
    if high == 0 then Err Invalid
    else if nat_lt high (2 ^ 57) then Ok (128 * high + (b - 128))
    else Err Invalid

-- the number at the front, of at most `more` + 1 bytes, and the bytes after it
abbrev pub number_in : ℕ → List ℕ → Result (ℕ × List ℕ) Unread
number_in more [] = Err Short
number_in zero (b ∷ bytes) = if nat_lt b 128 then Ok (b, bytes) else Err Invalid
number_in (suc more) (b ∷ bytes) =
    if nat_lt b 128 then Ok (b, bytes)
    else (number_in more bytes >>= λ high. (with_low b high.0 >>= λ n. Ok (n, high.1)))

-- the same for at most ten bytes
unfoldable pub number_at : List ℕ → Result (ℕ × List ℕ) Unread
number_at bytes = number_in 9 bytes

-- `count` numbers, and the bytes after them
abbrev pub numbers_at : ℕ → List ℕ → Result (List ℕ × List ℕ) Unread
numbers_at zero bytes = Ok ([], bytes)
numbers_at (suc count) bytes =
    number_at bytes >>= λ first. (numbers_at count first.1 >>= λ others. Ok (first.0 ∷ others.0, others.1))
