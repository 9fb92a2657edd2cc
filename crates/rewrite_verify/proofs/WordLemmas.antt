-- Words one after another, and the segment of them.
use Rattle.std.proofs.Common.{◌≡◌, ◌≢◌, ◌∙◌, ℕ, ◌+◌, ◌-◌, ◌*◌, ◌<◌, ◌≤◌, ◌⊎◌, List, [], ◌∷◌, ◌++◌, length, take, drop, sym, ap, subst, inl, inr, arith}
use Rattle.std.proofs.Math.Seq.{take-add}
use Rattle.std.proofs.lemmas.Bool.{cases_lt}
use Rattle.std.proofs.lemmas.List.{length-drop}
use Rattle.elf32_read.specs.Elf.{Elf, Segment}
use Rattle.rewrite_verify.specs.FileCode.{bytes_of_word, later_segments}

-- ---- words

-- the first so many words are the same
pub record IsSame (bytes wanted : List ℕ) (k : ℕ) : Type 0 where
  pub each : (j : ℕ) → j < k → bytes_of_word bytes j ≡ bytes_of_word wanted j
  pub front : take (4 * k) bytes ≡ take (4 * k) wanted

pub one_same : (bytes wanted : List ℕ) (k : ℕ) → bytes_of_word bytes k ≡ bytes_of_word wanted k
    → IsSame bytes wanted k → IsSame bytes wanted (k + 1)
one_same bytes wanted k here h = record {
  each = λ j lt. elim (cases_lt j k) [
    | inl before ↦ h.each j before
    | inr from ↦ (
        let is : k ≡ j = omega (arith, lt, from) in
        subst (λ n. bytes_of_word bytes n ≡ bytes_of_word wanted n) is here)
  ];
  front =
      ap (λ n. take n bytes) four ∙ take-add (4 * k) 4 bytes
      ∙ (λ i. h.front i ++ here i)
      ∙ sym (ap (λ n. take n wanted) four ∙ take-add (4 * k) 4 wanted);
}
  where
    four : 4 * (k + 1) ≡ 4 * k + 4
    four = omega arith

-- four bytes from an address on are those of a word
pub word_range : (bytes : List ℕ) (k from : ℕ) → from ≡ 4 * k
    → take (from + 4 - from) (drop from bytes) ≡ bytes_of_word bytes k
word_range bytes k from is =
    let four : from + 4 - from ≡ 4 = omega arith in
    ap (λ n. take n (drop from bytes)) four ∙ ap (λ n. take 4 (drop n bytes)) is

-- ---- the segment behind the original's

one_long : (n : ℕ) (xs : List Segment) (s : Segment) → drop n xs ≡ s ∷ []
    → length xs - n ≡ 1
one_long n xs s is = sym (length-drop n xs) ∙ ap length is

pub other_count : (original e : Elf) (first all : ℕ) → first ≡ length original.segments
    → all ≡ length e.segments → (all ≤ first) ⊎ (all - first ≢ 1) → (s : Segment)
    → later_segments original e ≡ s ∷ [] → ⊥
other_count original e first all few long or s is =
    let one = one_long (length original.segments) e.segments s is in
    elim or [
      | inl le ↦ omega (arith, one, few, long, le)
      | inr other ↦ other (omega (arith, one, few, long))
    ]
