-- Numbers and bytes in hexadecimal digits (GDB manual, 'Remote Protocol: Overview').
use Rattle.std.specs.Prelude.{ℕ, ◌+◌, ◌-◌, ◌*◌, ◌/◌, ◌%◌, ◌^◌, ◌&&◌, nat_le, nat_lt, false, if◌then◌else◌, List, [], ◌∷◌, Option, Some, None, option_and_then}
use Rattle.std.specs.List.{flat_map}
use Rattle.std.specs.Int.{to_be_bytes, w32}
use Rattle.std.specs.Fmt.{digit_glyph}

-- a byte in two digits, the high one first, and bytes one after another
abbrev pub byte_digits : ℕ → List ℕ
byte_digits b = digit_glyph false (b / 16) ∷ digit_glyph false (b % 16) ∷ []

abbrev pub bytes_digits : List ℕ → List ℕ
bytes_digits bytes = flat_map byte_digits bytes

-- a word in eight digits
abbrev pub word_digits : ℕ → List ℕ
word_digits n = bytes_digits (to_be_bytes w32 n)

-- the value of a digit, in either case
abbrev pub digit_value : ℕ → Option ℕ
digit_value c =
    if nat_le 48 c && nat_le c 57 then Some (c - 48)
    else if nat_le 97 c && nat_le c 102 then Some (c - 87)
    else if nat_le 65 c && nat_le c 70 then Some (c - 55)
    else None

-- the byte that two digits write
abbrev pub pair_value : ℕ → ℕ → Option ℕ
pair_value high low =
    option_and_then (λ h. option_and_then (λ l. Some (16 * h + l)) (digit_value low))
    (digit_value high)

-- the number that digits write after those of a number, if it has at most 64 bits
abbrev pub number_behind : ℕ → List ℕ → Option ℕ
number_behind n [] = Some n
number_behind n (c ∷ cs) =
    if nat_lt n (2 ^ 60)
    then option_and_then (λ d. number_behind (16 * n + d) cs) (digit_value c)
    else None

-- the number that a text writes, which has one digit at least
abbrev pub number_of : List ℕ → Option ℕ
number_of [] = None
number_of (c ∷ cs) = number_behind 0 (c ∷ cs)

-- the bytes that a text writes, two digits each
abbrev pub bytes_of : List ℕ → Option (List ℕ)
bytes_of [] = Some []
bytes_of (high ∷ []) = None
bytes_of (high ∷ low ∷ cs) =
    option_and_then (λ b. option_and_then (λ bs. Some (b ∷ bs)) (bytes_of cs))
    (pair_value high low)
