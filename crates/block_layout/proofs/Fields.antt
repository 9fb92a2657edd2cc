-- The four fields of a line are four words with their numbers.
use Rattle.std.proofs.Common.{◌≡◌, ℕ, zero, suc, ◌+◌, ◌*◌, ◌<◌, ◌≤◌, ◌^◌, ◌==◌, not, true, inl, inr, List, [], ◌∷◌, ◌++◌, length, get_or, take, Option, Some, None, IfSome, MatchOption, refl, sym, ap, ◌∙◌, subst, arith}
use Rattle.std.specs.List.{list_all}
use Rattle.std.specs.Str.Parse.{AllDigits, digits_value}
use Rattle.std.specs.Char.{digit_value}
use Rattle.std.proofs.lemmas.Bool.{and_parts, and_from, cases_Bool, eqb-true}
use Rattle.std.proofs.lemmas.List.{length-take-le}
use Rattle.std.proofs.lemmas.Int.Digits.{digits_value-lt, digits_value_more}
use Rattle.std.proofs.Math.Nat.{pow-le-pow_right}
use Rattle.std.proofs.Math.Seq.{take-suc}
use Rattle.block_layout.specs.declared.layout.BlockRange.{BlockRange}
use Rattle.block_layout.specs.Text.{spaces, IsHexadecimal, IsDecimal, IsHomeWord, HasFields}
use Rattle.block_layout.specs.Parts.{is_mark, Begins, AreWords, AreFields}

-- a digit is no space
mark_digit : (radix c : ℕ) → radix ≤ 36 → digit_value c < radix → is_mark c ≡ true
mark_digit radix c few h =
    elim (cases_Bool (c == 32)) [
      | inl space ↦
          let is : digit_value c ≡ 36 = ap digit_value (eqb-true c 32 space) in
          absurd (omega (arith, few, h, is))
      | inr mark ↦ ap not mark
    ]

marks : (radix : ℕ) (ds : List ℕ) → radix ≤ 36 → AllDigits radix ds → list_all is_mark ds ≡ true
marks radix [] few h = refl
marks radix (c ∷ cs) few h = and_from _ _ (mark_digit radix c few h.0) (marks radix cs few h.1)

hexadecimal_marks : (word : List ℕ) (n : ℕ) → IsHexadecimal word n → list_all is_mark word ≡ true
hexadecimal_marks word n h = ap (list_all is_mark) h.word_is ∙ marks 16 h.digits (omega arith) h.numeral.1

decimal_marks : (most : ℕ) (word : List ℕ) (n : ℕ) → IsDecimal most word n → list_all is_mark word ≡ true
decimal_marks most word n h = marks 10 word (omega arith) h.numeral.1

begins_more : (word more : List ℕ) → 0 < length word → list_all is_mark word ≡ true → Begins (word ++ more)
begins_more [] more some all = absurd (omega arith)
begins_more (c ∷ cs) more some all = (and_parts _ _ all).0

begins_word : (word : List ℕ) → 0 < length word → list_all is_mark word ≡ true → Begins word
begins_word [] some all = absurd (omega arith)
begins_word (c ∷ cs) some all = (and_parts _ _ all).0

hexadecimal_some : (word : List ℕ) (n : ℕ) → IsHexadecimal word n → 0 < length word
hexadecimal_some word n h = let P : List ℕ → Type 0 = λ w. 0 < length w in subst P (sym h.word_is) (omega arith)

begins_home : (word : List ℕ) (h : Option ℕ) → IsHomeWord word h → Begins word
begins_home word None h = subst Begins (sym h) refl
begins_home word (Some n) h = begins_word word h.numeral.0 (decimal_marks 2 word n h)

pub words_of_fields : (line : List ℕ) (r : BlockRange) → (h : HasFields line r) → AreWords line h.start_word h.length_word h.block_word h.home_word
words_of_fields line r h = record {
  behind = h.length_word ++ (spaces h.second_gap ++ (h.block_word ++ (spaces h.third_gap ++ h.home_word)));
  far = h.block_word ++ (spaces h.third_gap ++ h.home_word);
  first = record {
    gap = h.first_gap;
    text_is = h.line_is;
    no_space = hexadecimal_marks h.start_word r.start h.start;
    begins = begins_more h.length_word _ (hexadecimal_some h.length_word r.length h.length) (hexadecimal_marks h.length_word r.length h.length);
  };
  second = record {
    gap = h.second_gap;
    text_is = refl;
    no_space = hexadecimal_marks h.length_word r.length h.length;
    begins = begins_more h.block_word _ h.block.numeral.0 (decimal_marks 5 h.block_word r.block h.block);
  };
  third = record {
    gap = h.third_gap;
    text_is = refl;
    no_space = decimal_marks 5 h.block_word r.block h.block;
    begins = begins_home h.home_word r.home h.home;
  };
}

pub fields_of_words : (line a b c d : List ℕ) (r : BlockRange) → AreWords line a b c d → AreFields a b c d r → HasFields line r
fields_of_words line a b c d r w f = record {
  start_word = a;
  length_word = b;
  block_word = c;
  home_word = d;
  first_gap = w.first.gap;
  second_gap = w.second.gap;
  third_gap = w.third.gap;
  line_is = w.first.text_is ∙ ap (λ x. a ++ (spaces w.first.gap ++ x)) (w.second.text_is ∙ ap (λ x. b ++ (spaces w.second.gap ++ x)) w.third.text_is);
  start = f.start;
  length = f.length;
  block = f.block;
  home = f.home;
}

pub fields_moved : (a b c d x y z w : List ℕ) (r : BlockRange) → a ≡ x → b ≡ y → c ≡ z → d ≡ w → AreFields x y z w r → AreFields a b c d r
fields_moved a b c d x y z w r p q s t f =
    let P : List ℕ → Type 0 = λ v. IsHexadecimal v r.start in
    let Q : List ℕ → Type 0 = λ v. IsHexadecimal v r.length in
    let R : List ℕ → Type 0 = λ v. IsDecimal 5 v r.block in
    let S : List ℕ → Type 0 = λ v. IsHomeWord v r.home in
    record { start = subst P (sym p) f.start; length = subst Q (sym q) f.length; block = subst R (sym s) f.block; home = subst S (sym t) f.home }

-- one more digit
all_push : (radix : ℕ) (ds : List ℕ) (c : ℕ) → AllDigits radix ds → digit_value c < radix → AllDigits radix (ds ++ c ∷ [])
all_push radix [] c h low = (low, tt)
all_push radix (d ∷ ds) c h low = (h.0, all_push radix ds c h.1 low)

pub all_more : (radix : ℕ) (ds : List ℕ) (i : ℕ) → i < length ds → AllDigits radix (take i ds) → digit_value (get_or ds i 0) < radix → AllDigits radix (take (i + 1) ds)
all_more radix ds i lt h low =
    let next : i + 1 ≡ suc i = omega arith in
    let is : take (i + 1) ds ≡ take i ds ++ get_or ds i 0 ∷ [] = ap (λ k. take k ds) next ∙ take-suc ds i 0 lt in
    subst (AllDigits radix) (sym is) (all_push radix (take i ds) (get_or ds i 0) h low)

-- each of the digits is one
pub digit_at : (radix : ℕ) (ds : List ℕ) (i : ℕ) → i < length ds → AllDigits radix ds → digit_value (get_or ds i 0) < radix
digit_at radix [] i lt h = absurd (omega arith)
digit_at radix (d ∷ ds) zero lt h = h.0
digit_at radix (d ∷ ds) (suc i) lt h = digit_at radix ds i (omega arith) h.1

-- the number behind one more digit, as the loop makes it
pub next_value : (radix : ℕ) (ds : List ℕ) (i number c digit : ℕ) → i < length ds → c ≡ get_or ds i 0 → digit ≡ digit_value c → digits_value radix (take i ds) ≡ number → digits_value radix (take (i + 1) ds) ≡ number * radix + digit
next_value radix ds i number c digit lt at is value =
    digits_value_more radix ds i lt
    ∙ ap (λ n. n * radix + digit_value (get_or ds i 0)) value
    ∙ ap (λ k. number * radix + k) (sym (is ∙ ap digit_value at))

-- it is a number of 32 bits
pub next_low : (radix : ℕ) (ds : List ℕ) (i number c digit : ℕ) → 2 ≤ radix → radix ^ length ds ≤ 2 ^ 32 → i < length ds → c ≡ get_or ds i 0 → digit_value c < radix → digit ≡ digit_value c → AllDigits radix (take i ds) → digits_value radix (take i ds) ≡ number → number * radix + digit < 2 ^ 32
next_low radix ds i number c digit two small lt at low is all value =
    let more = all_more radix ds i lt all (subst (λ x. digit_value x < radix) at low) in
    let below = digits_value-lt radix (take (i + 1) ds) more in
    let few : length (take (i + 1) ds) ≤ length ds = omega (arith, length-take-le (i + 1) ds (omega arith)) in
    let grows : radix ^ length (take (i + 1) ds) ≤ radix ^ length ds = pow-le-pow_right {n = radix} (omega (arith, two)) few in
    let within : digits_value radix (take (i + 1) ds) < 2 ^ 32 = omega (arith, below, grows, small) in
    subst (λ n. n < 2 ^ 32) (next_value radix ds i number c digit lt at is value) within

-- the numbers that digits make are small
numeral_low : (radix most : ℕ) (ds : List ℕ) → 0 < radix → length ds ≤ most → AllDigits radix ds → digits_value radix ds < radix ^ most
numeral_low radix most ds some few h =
    let low = digits_value-lt radix ds h in
    let grows : radix ^ length ds ≤ radix ^ most = pow-le-pow_right {n = radix} some few in
    omega (arith, low, grows)

pub low_if : (most : ℕ) (ds : List ℕ) (r : Option ℕ) → length ds ≤ most → MatchOption r (AllDigits 10 ds → ⊥) (λ n. AllDigits 10 ds × (digits_value 10 ds ≡ n)) → IfSome r (λ n. n < 10 ^ most)
low_if most ds None few h = tt
low_if most ds (Some n) few h = subst (λ k. k < 10 ^ most) h.1 (numeral_low 10 most ds (omega arith) few h.0)

pub room : (radix most n : ℕ) → 0 < radix → n ≤ most → radix ^ most ≤ 2 ^ 32 → radix ^ n ≤ 2 ^ 32
room radix most n some few small =
    let grows : radix ^ n ≤ radix ^ most = pow-le-pow_right {n = radix} some few in
    omega (arith, grows, small)
