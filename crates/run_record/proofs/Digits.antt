-- What a line's parts are, and that they are no others.
use Rattle.std.proofs.Common.{◌≡◌, ◌≢◌, ℕ, zero, suc, ◌+◌, ◌/◌, ◌%◌, ◌*◌, ◌^◌, ◌<◌, ◌≤◌, true, false, not, eqb, ltb, List, [], ◌∷◌, ◌++◌, length, length-append, take, drop, get_or, Option, Some, None, refl, sym, ap, ◌∙◌, subst, arith}
use denote.Ref.{Bor}
use Rattle.std.specs.Prelude.{MatchOption, IfSome, codes}
use Rattle.std.proofs.Math.Nat.{pow-le-pow_right, pow-suc}
use Rattle.std.specs.List.{position, prefix_len}
use Rattle.std.specs.Fmt.{decimal, digit_glyph}
use Rattle.std.specs.Str.{IsUtf8}
use Rattle.std.proofs.lemmas.Bool.{lt-ltb}
use Rattle.std.proofs.lemmas.Bool.Decides.{nat_tests}
use Rattle.std.proofs.lemmas.Fmt.{IsAscii-decimal}
use Rattle.std.proofs.lemmas.Str.{IsUtf8-from_ascii}
use Rattle.std.proofs.lemmas.List.{append_cancel_left, take_at, drop_at, take-append-drop, drop_more}
use Rattle.std.proofs.lemmas.List.Quantifiers.{position-Some}
use Rattle.rv32_text.specs.Listing.{word_digits}
use Rattle.block_layout.specs.declared.layout.BlockRange.{BlockRange}
use Rattle.run_record.specs.declared.line.TakeLine.{TakeLine}
use Rattle.run_record.specs.Reading.{IsNumberThen, IsPlaceThen}
use Rattle.run_record.specs.Rules.{HasNumber, HasRange, HasTake}
use Rattle.run_record.specs.Text.{number_line, home_end}
use Rattle.run_record.proofs.Fields.{Without, decimal_without, star_told}
use Rattle.run_record.proofs.Told.{home_rest, spaced}

pub found : (P : Bor (List ℕ) → Type 0) (Q : Type 0) (r : Option (Bor (List ℕ)))
    → MatchOption r Q P → IfSome r P
found P Q None h = tt
found P Q (Some x) h = h

pub front_only : (s p : List ℕ) (r : Option (Bor (List ℕ)))
    → MatchOption r ((rest : List ℕ) → s ≢ p ++ rest) (λ x. s ≡ p ++ x.now)
    → (rest : List ℕ) → s ≡ p ++ rest → MatchOption r ⊥ (λ x. x.now ≡ rest)
front_only s p None h rest e = h rest e
front_only s p (Some x) h rest e = append_cancel_left p x.now rest (sym h ∙ e)

pub decimal_utf8 : (text : List ℕ) (n : ℕ) → n < 2 ^ 64 → text ≡ decimal n → IsUtf8 text
decimal_utf8 text n low e =
    subst IsUtf8 (sym e) (IsUtf8-from_ascii (decimal n) (IsAscii-decimal n low))

marks : (w more : List ℕ) → Without 32 w
    → prefix_len (λ c. not (eqb c 32)) (w ++ 32 ∷ more) ≡ length w
marks [] more p = refl
marks (x ∷ w) more p =
    let other : eqb x 32 ≡ false = grind (arith, nat_tests, p.0) in
    let t : prefix_len (λ c. not (eqb c 32)) (w ++ 32 ∷ more) ≡ length w = marks w more p.1 in
    rw other (omega arith)

-- the first space
pub space_at : (w more : List ℕ) → Without 32 w
    → position (λ c. eqb c 32) (w ++ 32 ∷ more) ≡ Some (length w)
space_at w more p =
    let t = marks w more p in
    let less : ltb (length w) (length (w ++ 32 ∷ more)) ≡ true
    = lt-ltb _ _ (omega (arith, length-append w (32 ∷ more))) in
    rw (t, less) refl

-- a text split at its first space
pub split_is : (text digits rest : List ℕ) (n end : ℕ) (behind : List ℕ) → n < 2 ^ 63
    → text ≡ decimal n ++ rest → rest ≡ 32 ∷ behind → Some end ≡ position (λ c. eqb c 32) text
    → digits ≡ take end text → rest ≡ rest → (digits ≡ decimal n) × (drop end text ≡ rest)
split_is text digits rest n end behind low e f at d same =
    let whole : text ≡ decimal n ++ 32 ∷ behind = e ∙ ap (λ t. decimal n ++ t) f in
    let there : Some end ≡ Some (length (decimal n)) = at ∙ ap (position (λ c. eqb c 32)) whole
    ∙ space_at (decimal n) behind (decimal_without 32 n (omega arith) (omega arith)) in
    let here : end ≡ length (decimal n) = cc in (
      d ∙ ap (λ k. take k text) here ∙ ap (take (length (decimal n))) e
          ∙ take_at (decimal n) rest (length (decimal n)) refl,
      ap (λ k. drop k text) here ∙ ap (drop (length (decimal n))) e
          ∙ drop_at (decimal n) rest (length (decimal n)) refl,
    )

pub no_space : (text rest : List ℕ) (n : ℕ) (behind : List ℕ) → n < 2 ^ 63
    → text ≡ decimal n ++ rest → rest ≡ 32 ∷ behind → None ≡ position (λ c. eqb c 32) text → ⊥
no_space text rest n behind low e f at =
    let whole : text ≡ decimal n ++ 32 ∷ behind = e ∙ ap (λ t. decimal n ++ t) f in
    let there : None ≡ Some (length (decimal n)) = at ∙ ap (position (λ c. eqb c 32)) whole
    ∙ space_at (decimal n) behind (decimal_without 32 n (omega arith) (omega arith)) in
    absurd (cc)

pub split_then : (text word spaced digits rest : List ℕ) (n end : ℕ) → text ≡ word ++ spaced
    → Some end ≡ position (λ c. eqb c 32) spaced → digits ≡ take end spaced
    → rest ≡ drop end spaced → digits ≡ decimal n → n < 2 ^ 63 → IsNumberThen text word n rest
split_then text word spaced digits rest n end e at d r is low =
    let p = position-Some (λ c. eqb c 32) spaced end 0 (sym at) in
    let mark : get_or spaced end 0 ≡ 32 = grind (arith, nat_tests, p.1) in
    record {
      behind = drop (end + 1) spaced;
      text_is = e ∙ ap (λ t. word ++ t) (sym (take-append-drop end spaced)
          ∙ ap (λ t. t ++ drop end spaced) (sym d ∙ is) ∙ ap (λ t. decimal n ++ t) (sym r));
      rest_is = r ∙ drop_more spaced end 0 p.0 ∙ ap (λ c. c ∷ drop (end + 1) spaced) mark;
      low = low;
    }

-- the last hexadecimal digits of a number, so many of them
abbrev pub last_digits : ℕ → ℕ → List ℕ
last_digits zero n = []
last_digits (suc k) n = last_digits k (n / 16) ++ digit_glyph false (n % 16) ∷ []

pub one_more : (k j n v : ℕ) → j ≡ k + 1 → v < 16
    → last_digits j (n * 16 + v) ≡ last_digits k n ++ digit_glyph false v ∷ []
one_more k j n v is low =
    let same : j ≡ suc k = omega arith in
    let front : (n * 16 + v) / 16 ≡ n = omega arith in
    let back : (n * 16 + v) % 16 ≡ v = omega arith in
    ap (λ x. last_digits x (n * 16 + v)) same
    ∙ ap (λ x. last_digits k x ++ digit_glyph false ((n * 16 + v) % 16) ∷ []) front
    ∙ ap (λ x. last_digits k n ++ digit_glyph false x ∷ []) back

pub eight_digits : (n : ℕ) → last_digits 8 n ≡ word_digits n
unfolding word_digits
eight_digits n =
    let a : n / 16 / 16 / 16 / 16 / 16 / 16 / 16 ≡ n / 2 ^ 28 = omega arith in
    let b : n / 16 / 16 / 16 / 16 / 16 / 16 ≡ n / 2 ^ 24 = omega arith in
    let c : n / 16 / 16 / 16 / 16 / 16 ≡ n / 2 ^ 20 = omega arith in
    let d : n / 16 / 16 / 16 / 16 ≡ n / 2 ^ 16 = omega arith in
    let e : n / 16 / 16 / 16 ≡ n / 2 ^ 12 = omega arith in
    let f : n / 16 / 16 ≡ n / 2 ^ 8 = omega arith in
    let g : n / 16 ≡ n / 2 ^ 4 = omega arith in
    let h : n ≡ n / 2 ^ 0 = omega arith in
    cc

-- each byte of an address is a digit
pub word_byte : (n k : ℕ) → k < 8
    → (v : ℕ) × (v < 16) × (get_or (word_digits n) k 0 ≡ digit_glyph false v)
unfolding word_digits
word_byte n zero h = (n / 2 ^ 28 % 16, omega arith, refl)
word_byte n (suc zero) h = (n / 2 ^ 24 % 16, omega arith, refl)
word_byte n (suc (suc zero)) h = (n / 2 ^ 20 % 16, omega arith, refl)
word_byte n (suc (suc (suc zero))) h = (n / 2 ^ 16 % 16, omega arith, refl)
word_byte n (suc (suc (suc (suc zero)))) h = (n / 2 ^ 12 % 16, omega arith, refl)
word_byte n (suc (suc (suc (suc (suc zero))))) h = (n / 2 ^ 8 % 16, omega arith, refl)
word_byte n (suc (suc (suc (suc (suc (suc zero)))))) h = (n / 2 ^ 4 % 16, omega arith, refl)
word_byte n (suc (suc (suc (suc (suc (suc (suc zero))))))) h = (n / 2 ^ 0 % 16, omega arith, refl)
word_byte n (suc (suc (suc (suc (suc (suc (suc (suc k)))))))) h = absurd (omega arith)

pub low_address : (n k : ℕ) → n < 16 ^ k → k ≤ 7 → n < 16 ^ 7
low_address n k h less =
    let t : 16 ^ k ≤ 16 ^ 7 = pow-le-pow_right {n = 16} (omega arith) less in omega arith

pub more_power : (n k v : ℕ) → n < 16 ^ k → v < 16 → n * 16 + v < 16 ^ (k + 1)
more_power n k v h low =
    let t : 16 ^ suc k ≡ 16 ^ k * 16 = pow-suc 16 k in
    let same : k + 1 ≡ suc k = omega arith in
    let e : 16 ^ (k + 1) ≡ 16 ^ k * 16 = ap (λ j. 16 ^ j) same ∙ t in
    omega (arith, h, low, e)

pub eight : (n : ℕ) → length (word_digits n) ≡ 8
unfolding word_digits
eight n = refl

-- a text split behind eight digits
pub place_is : (place digits rest : List ℕ) (n : ℕ) → place ≡ word_digits n ++ rest
    → digits ≡ take 8 place → (digits ≡ word_digits n) × (drop 8 place ≡ rest)
place_is place digits rest n e d = (
  d ∙ ap (take 8) e ∙ take_at (word_digits n) rest 8 (eight n),
  ap (drop 8) e ∙ drop_at (word_digits n) rest 8 (eight n),
)

pub long_place : (place rest : List ℕ) (n : ℕ) → place ≡ word_digits n ++ rest → 8 ≤ length place
long_place place rest n e =
    omega (arith, ap length e, length-append (word_digits n) rest, eight n)

-- a home is no star
pub home_star : (end : List ℕ) (h : Option ℕ) → end ≡ codes " *\n" → IfSome h (λ n. n ≤ 99)
    → end ≡ home_end h → h ≡ None
home_star end None star few e = refl
home_star end (Some n) star few e =
    let tail : 42 ∷ 10 ∷ [] ≡ decimal n ++ 10 ∷ [] = cc in
    absurd (star_told n (10 ∷ []) [] (omega (arith, few)) tail)

-- what a range's line says, part by part
pub start_of : (line : List ℕ) (r : BlockRange) → HasRange line r
    → IsPlaceThen line (codes "block 0x") r.start (codes " 0x" ++ (word_digits r.length
    ++ (codes " " ++ (decimal r.block ++ home_end r.home))))
start_of line r h = record { text_is = h.line_is; low = h.words.start }

pub length_of : (line behind : List ℕ) (r : BlockRange) → HasRange line r
    → behind ≡ codes " 0x" ++ (word_digits r.length ++ (codes " " ++ (decimal r.block
    ++ home_end r.home)))
    → IsPlaceThen behind (codes " 0x") r.length (codes " " ++ (decimal r.block ++ home_end r.home))
length_of line behind r h e = record { text_is = e; low = h.words.length }

pub size_of : (line behind : List ℕ) (r : BlockRange) → HasRange line r
    → behind ≡ codes " " ++ (decimal r.block ++ home_end r.home)
    → IsNumberThen behind (codes " ") r.block (home_end r.home)
size_of line behind r h e = record {
  behind = home_rest r.home;
  text_is = e;
  rest_is = spaced r.home;
  low = omega (arith, h.digits.size);
}

-- what a take's line says, part by part
pub stamp_of : (line : List ℕ) (t : TakeLine) → HasTake line t
    → IsNumberThen line (codes "take ") t.stamp_or_gap (codes " " ++ (decimal t.from
    ++ number_line (codes " ") t.words))
stamp_of line t h = record {
  behind = decimal t.from ++ number_line (codes " ") t.words;
  text_is = h.line_is;
  rest_is = refl;
  low = h.stamp_or_gap;
}

pub from_of : (line behind : List ℕ) (t : TakeLine) → HasTake line t
    → behind ≡ codes " " ++ (decimal t.from ++ number_line (codes " ") t.words)
    → IsNumberThen behind (codes " ") t.from (number_line (codes " ") t.words)
from_of line behind t h is = record {
  behind = decimal t.words ++ codes "\n";
  text_is = is;
  rest_is = refl;
  low = h.from;
}

pub words_of : (line behind : List ℕ) (t : TakeLine) → HasTake line t
    → behind ≡ number_line (codes " ") t.words → HasNumber behind (codes " ") t.words
words_of line behind t h is = record { line_is = is; low = h.words }
