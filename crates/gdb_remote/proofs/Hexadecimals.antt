-- Digits read one after another.
use Rattle.std.proofs.Common.{◌≡◌, ◌≤◌, ◌<◌, ◌^◌, ℕ, List, [], ◌∷◌, ◌++◌, ◌∙◌, ap, append_assoc, length, drop, get_or, None, Option, Some, refl, arith}
use Rattle.std.specs.Prelude.{option_and_then, option_map}
use Rattle.gdb_remote.specs.Hexadecimal.{number_behind, number_of, bytes_of, pair_value}

-- no digit follows a number of 61 bits or more
pub too_long : (n : ℕ) (s : List ℕ) → 2 ^ 60 ≤ n → 0 < length s → number_behind n s ≡ None
too_long n [] high some = absurd (omega arith)
too_long n (c ∷ cs) high some = grind arith

pub number_of_some : (s : List ℕ) → 0 < length s → number_of s ≡ number_behind 0 s
number_of_some [] some = absurd (omega arith)
number_of_some (c ∷ cs) some = refl

-- two digits make a byte
pub bytes_of_pair : (s : List ℕ) → 2 ≤ length s → bytes_of s ≡ option_and_then (λ b. option_and_then (λ bs. Some (b ∷ bs)) (bytes_of (drop 2 s))) (pair_value (get_or s 0 0) (get_or s 1 0))
bytes_of_pair [] two = absurd (omega arith)
bytes_of_pair (high ∷ []) two = absurd (omega arith)
bytes_of_pair (high ∷ low ∷ cs) two = refl

-- a byte more in front of the bytes that are to come
pub byte_more : (before : List ℕ) (b : ℕ) (o r : Option (List ℕ))
    → option_map (λ bs. before ++ bs) (option_and_then (λ x. option_and_then (λ bs. Some (x ∷ bs)) o) (Some b)) ≡ r
    → option_map (λ bs. (before ++ b ∷ []) ++ bs) o ≡ r
byte_more before b None r e = e
byte_more before b (Some bs) r e = ap Some (append_assoc before (b ∷ []) bs) ∙ e

pub byte_read : (before : List ℕ) (b : ℕ) (p : Option ℕ) (o r : Option (List ℕ)) → p ≡ Some b
    → option_map (λ bs. before ++ bs) (option_and_then (λ x. option_and_then (λ bs. Some (x ∷ bs)) o) p) ≡ r
    → option_map (λ bs. (before ++ b ∷ []) ++ bs) o ≡ r
byte_read before b p o r is e = byte_more before b o r (rw is at e)
