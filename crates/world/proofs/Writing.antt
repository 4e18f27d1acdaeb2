-- Texts that are written part by part, also to a sink that fails on the way.
use Rattle.std.proofs.Common.{◌≡◌, ◌∙◌, ap, sym, ℕ, ◌+◌, ◌<◌, ◌≤◌, List, [], ◌∷◌, ◌++◌, Option, Some, None, Result, Ok, Err, IsErr, length, take, drop, get_or, append_assoc, arith}
use Rattle.std.specs.List.{flat_map, range_with_len}
use Rattle.std.proofs.lemmas.Grind.{common_steps, flat_map-append}
use Rattle.std.proofs.lemmas.List.{append-nil}
use Rattle.std.proofs.lemmas.List.FromFn.{get_or-range_with_len, length-range_with_len}
use Rattle.std.proofs.Math.Seq.{take-length}
use Rattle.byte_streams.specs.Streams.{Takes, TakesABeginning, WritesAll, Rose}

-- nothing is taken
pub takes_nothing : (before : Option (List ℕ)) → Takes [] before before
takes_nothing None = grind (arith, common_steps)
takes_nothing (Some taken) = grind (arith, common_steps)

-- what was taken in two parts was taken in one
pub takes_both : (xs ys : List ℕ) (before between after : Option (List ℕ)) → Takes xs before between → Takes ys between after → Takes (xs ++ ys) before after
takes_both xs ys None between after first second = grind (arith, common_steps)
takes_both xs ys (Some taken) between after first second = grind (arith, common_steps)

-- a beginning of some bytes is a beginning of more bytes
pub beginning_of_more : (xs ys : List ℕ) (before after : Option (List ℕ)) → TakesABeginning xs before after → TakesABeginning (xs ++ ys) before after
beginning_of_more xs ys before after b =
    record { front = b.front; back = b.back ++ ys; parts = ap (λ zs. zs ++ ys) b.parts ∙ append_assoc b.front b.back ys; taken = b.taken }

-- all of the first were taken, and then a beginning of the second
pub then_beginning : (xs ys : List ℕ) (before between after : Option (List ℕ))
    → Takes xs before between → TakesABeginning ys between after → TakesABeginning (xs ++ ys) before after
then_beginning xs ys before between after first b =
    record {
      front = xs ++ b.front;
      back = b.back;
      parts = ap (λ zs. xs ++ zs) b.parts ∙ sym (append_assoc xs b.front b.back);
      taken = takes_both xs b.front before between after first b.taken;
    }

-- all of the first were written, and then the second, or the sink failed
pub writes_then : {E : Type 0} (result : Result (Unit {0}) E) (xs ys : List ℕ) (before between after : Option (List ℕ)) (failures more most : ℕ)
    → Takes xs before between → failures ≤ more → WritesAll result ys between after more most → WritesAll result (xs ++ ys) before after failures most
writes_then (Ok value) xs ys before between after failures more most first higher second =
    (takes_both xs ys before between after first second.0, grind (arith, common_steps))
writes_then (Err e) xs ys before between after failures more most first higher second =
    (then_beginning xs ys before between after first second.0, grind (arith, common_steps), grind (arith, common_steps))

-- the sink failed after the beginning
pub fails_on_the_way : {E : Type 0} (result : Result (Unit {0}) E) (bytes : List ℕ) (before after : Option (List ℕ)) (failures more : ℕ)
    → IsErr result → TakesABeginning bytes before after → failures ≤ more → Rose failures more → WritesAll result bytes before after failures more
fails_on_the_way (Ok value) bytes before after failures more failed b higher rose = grind (arith, common_steps)
fails_on_the_way (Err e) bytes before after failures more failed b higher rose = (b, higher, rose)

-- a list is what is in front of an item, the item, and what is after it
item_parts : (xs : List ℕ) (i : ℕ) → i < length xs → xs ≡ take i xs ++ (get_or xs i 0 ∷ drop (i + 1) xs)
item_parts xs i there = grind (arith, common_steps)

-- the texts of the items up to one were taken, and then a beginning of its text
pub texts_fail : (f : ℕ → List ℕ) (xs : List ℕ) (i : ℕ) (before between after : Option (List ℕ)) → i < length xs
    → Takes (flat_map f (take i xs)) before between → TakesABeginning (f (get_or xs i 0)) between after → TakesABeginning (flat_map f xs) before after
texts_fail f xs i before between after there first b =
    let later = flat_map f (drop (i + 1) xs) in
    let parts : flat_map f xs ≡ flat_map f (take i xs) ++ (f (get_or xs i 0) ++ later) =
    ap (flat_map f) (item_parts xs i there) ∙ flat_map-append f (take i xs) (get_or xs i 0 ∷ drop (i + 1) xs) in
    rw parts (then_beginning (flat_map f (take i xs)) (f (get_or xs i 0) ++ later) before between after first
    (beginning_of_more (f (get_or xs i 0)) later between after b))

-- the texts of the items up to one were taken, and then its text
pub texts_go_on : (f : ℕ → List ℕ) (xs : List ℕ) (i : ℕ) (before between after : Option (List ℕ)) → i < length xs
    → Takes (flat_map f (take i xs)) before between → Takes (f (get_or xs i 0)) between after → Takes (flat_map f (take (i + 1) xs)) before after
texts_go_on f xs i before between after there first more =
    let one : take (i + 1) xs ≡ take i xs ++ get_or xs i 0 ∷ [] = grind (arith, common_steps) in
    let parts : flat_map f (take (i + 1) xs) ≡ flat_map f (take i xs) ++ f (get_or xs i 0) =
    ap (flat_map f) one ∙ flat_map-append f (take i xs) (get_or xs i 0 ∷ []) ∙ ap (λ ys. flat_map f (take i xs) ++ ys) (append-nil (f (get_or xs i 0))) in
    rw parts (takes_both (flat_map f (take i xs)) (f (get_or xs i 0)) before between after first more)

-- the same where the item was read from an equal list
pub texts_fail_at : (f : ℕ → List ℕ) (read xs : List ℕ) (i : ℕ) (before between after : Option (List ℕ)) → read ≡ xs → i < length read
    → Takes (flat_map f (take i xs)) before between → TakesABeginning (f (get_or read i 0)) between after → TakesABeginning (flat_map f xs) before after
texts_fail_at f read xs i before between after same there first b = texts_fail f xs i before between after (rw same at there) first (rw same at b)

pub texts_go_on_at : (f : ℕ → List ℕ) (read xs : List ℕ) (i : ℕ) (before between after : Option (List ℕ)) → read ≡ xs → i < length read
    → Takes (flat_map f (take i xs)) before between → Takes (f (get_or read i 0)) between after → Takes (flat_map f (take (i + 1) xs)) before after
texts_go_on_at f read xs i before between after same there first more = texts_go_on f xs i before between after (rw same at there) first (rw same at more)

-- ---- the texts of the numbers below n

-- the number at a place of the numbers below n
number_at : (n v : ℕ) → v < n → get_or (range_with_len 0 n) v 0 ≡ v
number_at n v below =
    let from_v : 0 + v ≡ v = omega arith in
    get_or-range_with_len 0 n v 0 below ∙ from_v

-- all numbers below n
all_numbers : (n v : ℕ) → v ≡ n → take v (range_with_len 0 n) ≡ range_with_len 0 n
all_numbers n v all =
    ap (λ k. take k (range_with_len 0 n)) (all ∙ sym (length-range_with_len 0 n)) ∙ take-length (range_with_len 0 n)

-- those up to one were taken, and then a beginning of its text
pub numbers_fail : (f : ℕ → List ℕ) (n v : ℕ) (before between after : Option (List ℕ)) → v < n
    → Takes (flat_map f (take v (range_with_len 0 n))) before between → TakesABeginning (f v) between after
    → TakesABeginning (flat_map f (range_with_len 0 n)) before after
numbers_fail f n v before between after below first b =
    let there : v < length (range_with_len 0 n) = rw (length-range_with_len 0 n) below in
    texts_fail f (range_with_len 0 n) v before between after there first (rw (number_at n v below) b)

-- those up to one were taken, and then its text
pub numbers_go_on : (f : ℕ → List ℕ) (n v : ℕ) (before between after : Option (List ℕ)) → v < n
    → Takes (flat_map f (take v (range_with_len 0 n))) before between → Takes (f v) between after
    → Takes (flat_map f (take (v + 1) (range_with_len 0 n))) before after
numbers_go_on f n v before between after below first more =
    let there : v < length (range_with_len 0 n) = rw (length-range_with_len 0 n) below in
    texts_go_on f (range_with_len 0 n) v before between after there first (rw (number_at n v below) more)

-- all of them were
pub numbers_end : (f : ℕ → List ℕ) (n v : ℕ) (before after : Option (List ℕ)) → v ≡ n
    → Takes (flat_map f (take v (range_with_len 0 n))) before after → Takes (flat_map f (range_with_len 0 n)) before after
numbers_end f n v before after all taken = rw (all_numbers n v all) at taken
