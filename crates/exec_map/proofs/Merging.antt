-- Stretches that are merged one after another, as far as a loop has come.
use Rattle.std.proofs.Common.{◌≡◌, ℕ, suc, ◌+◌, ◌%◌, ◌<◌, ◌≤◌, Bool, true, false, ◌||◌, inl, inr, List, [], ◌∷◌, ◌++◌, length, get_or, take, refl, sym, ap, subst, ◌∙◌, arith, max}
use Rattle.std.specs.Prelude.{All, AllPairs}
use Rattle.std.specs.List.Sorted.{IsNonDecreasingBy}
use Rattle.std.proofs.lemmas.Bool.{cases_lt}
use Rattle.std.proofs.lemmas.Bool.Decides.{nat_tests}
use Rattle.std.proofs.lemmas.List.{take_more, take_all, get_or_default}
use Rattle.std.proofs.lemmas.List.Elements.{All-nil, All-head, All-push, All-weaker}
use Rattle.std.proofs.lemmas.List.Quantifiers.{all_pairs_push}
use Rattle.std.proofs.lemmas.List.Folds.{list_any-append}
use Rattle.exec_map.specs.declared.stretches.NumberRange.{NumberRange}
use Rattle.exec_map.specs.Index.{AreNumberRanges, IsSome, IsOfWords, has, have}

-- the first i of the rest are merged with the first: the last one is still open
pub record IsMerging (first : NumberRange) (rest merged : List NumberRange) (last : NumberRange) (i : ℕ) : Type 0 where
  pub some : All IsSome merged
  pub last_some : IsSome last
  pub apart : AllPairs (λ r q. r.end < q.first) merged
  pub before : All (λ r. r.end < last.first) merged
  pub whole : All IsOfWords (first ∷ rest) → All IsOfWords merged
  pub last_whole : All IsOfWords (first ∷ rest) → IsOfWords last
  pub later : (k : ℕ) (d : NumberRange) → i ≤ k → k < length rest → last.first ≤ (get_or rest k d).first
  pub numbers : (n : ℕ) → (have merged n || has n last) ≡ (has n first || have (take i rest) n)

abbrev pub Ascend : List NumberRange → Type 0
Ascend xs = IsNonDecreasingBy (λ r. r.first) xs

pub merging_start : (first : NumberRange) (rest : List NumberRange) → All IsSome (first ∷ rest) → Ascend (first ∷ rest) → IsMerging first rest [] first 0
merging_start first rest some ascend = record {
  some = All-nil _;
  last_some = All-head IsSome first rest some;
  apart = λ i j d low high. absurd (omega arith);
  before = All-nil _;
  whole = λ _. All-nil _;
  last_whole = λ w. All-head IsOfWords first rest w;
  later = λ k d _ in_k. ascend 0 (suc k) d (omega arith) (omega arith);
  numbers = λ n. elim (has n first) as (λ b. b ≡ (b || false)) [ true ↦ refl | false ↦ refl ];
}

or_assoc : (a b c : Bool) → (a || (b || c)) ≡ ((a || b) || c)
or_assoc true b c = refl
or_assoc false b c = refl

-- one more of the rest
more : (rest : List NumberRange) (i n : ℕ) (d : NumberRange) → i < length rest → have (take (i + 1) rest) n ≡ (have (take i rest) n || has n (get_or rest i d))
more rest i n d lt =
    ap (λ xs. have xs n) (take_more rest i d lt) ∙ list_any-append (has n) (take i rest) (get_or rest i d ∷ [])
    ∙ ap (λ b. have (take i rest) n || b) (elim (has n (get_or rest i d)) as (λ b. (b || false) ≡ b) [ true ↦ refl | false ↦ refl ])

-- a stretch that begins in another or at its end makes one with it
span : (n : ℕ) (last r : NumberRange) → last.first ≤ r.first → r.first ≤ last.end → IsSome last → IsSome r → has n (record { first = last.first; end = max last.end r.end }) ≡ (has n last || has n r)
span n last r from touch some r_some =
    elim (cases_lt last.end r.end) [
      | inl lt ↦ let e : max last.end r.end ≡ r.end = omega arith in grind (arith, nat_tests)
      | inr le ↦ let e : max last.end r.end ≡ last.end = omega arith in grind (arith, nat_tests)
    ]

pub max_whole : (a b : ℕ) → a % 4 ≡ 0 → b % 4 ≡ 0 → max a b % 4 ≡ 0
max_whole a b p q =
    elim (cases_lt a b) [
      | inl lt ↦ let e : max a b ≡ b = omega arith in ap (λ n. n % 4) e ∙ q
      | inr le ↦ let e : max a b ≡ a = omega arith in ap (λ n. n % 4) e ∙ p
    ]

pub merging_joins : (first : NumberRange) (rest merged : List NumberRange) (last : NumberRange) (i : ℕ) (d : NumberRange) → All IsSome (first ∷ rest) → Ascend (first ∷ rest) → IsMerging first rest merged last i → i < length rest → (get_or rest i d).first ≤ last.end
    → IsMerging first rest merged (record { first = last.first; end = max last.end (get_or rest i d).end }) (i + 1)
merging_joins first rest merged last i d some ascend h lt touch =
    let r = get_or rest i d in
    let r_some : r.first < r.end = some (suc i) d (omega arith) in
    let from : last.first ≤ r.first = h.later i d (omega arith) lt in
    record {
      some = h.some;
      last_some = let s : last.first < last.end = h.last_some in omega arith;
      apart = h.apart;
      before = h.before;
      whole = h.whole;
      last_whole = λ w. ((h.last_whole w).0, max_whole last.end r.end (h.last_whole w).1 (w (suc i) d (omega arith)).1);
      later = λ k e low high. h.later k e (omega arith) high;
      numbers = λ n.
          ap (λ b. have merged n || b) (span n last r from touch h.last_some r_some)
          ∙ or_assoc (have merged n) (has n last) (has n r)
          ∙ ap (λ b. b || has n r) (h.numbers n)
          ∙ sym (or_assoc (has n first) (have (take i rest) n) (has n r))
          ∙ ap (λ b. has n first || b) (sym (more rest i n d lt));
    }

pushed : (merged : List NumberRange) (last : NumberRange) (n : ℕ) → have (merged ++ last ∷ []) n ≡ (have merged n || has n last)
pushed merged last n =
    list_any-append (has n) merged (last ∷ [])
    ∙ ap (λ b. have merged n || b) (elim (has n last) as (λ b. (b || false) ≡ b) [ true ↦ refl | false ↦ refl ])

later_one : (first : NumberRange) (rest : List NumberRange) (i : ℕ) (d : NumberRange) (k : ℕ) (e : NumberRange) → Ascend (first ∷ rest) → i < length rest → i + 1 ≤ k → k < length rest → (get_or rest i d).first ≤ (get_or rest k e).first
later_one first rest i d k e ascend lt low high =
    let up : (get_or rest i e).first ≤ (get_or rest k e).first = ascend (suc i) (suc k) e (omega arith) (omega arith) in
    let P : NumberRange → Type 0 = λ s. s.first ≤ (get_or rest k e).first in
    subst P (get_or_default rest i e d lt) up

pub merging_pushes : (first : NumberRange) (rest merged : List NumberRange) (last : NumberRange) (i : ℕ) (d : NumberRange) → All IsSome (first ∷ rest) → Ascend (first ∷ rest) → IsMerging first rest merged last i → i < length rest → last.end < (get_or rest i d).first
    → IsMerging first rest (merged ++ last ∷ []) (get_or rest i d) (i + 1)
merging_pushes first rest merged last i d some ascend h lt above =
    let r = get_or rest i d in
    let last_some : last.first < last.end = h.last_some in
    record {
      some = All-push IsSome merged last h.some h.last_some;
      last_some = some (suc i) d (omega arith);
      apart = all_pairs_push (λ q s. q.end < s.first) merged last h.apart h.before;
      before = All-push (λ q. q.end < r.first) merged last (All-weaker (λ q. q.end < last.first) (λ q. q.end < r.first) (λ q low. omega arith) merged h.before) above;
      whole = λ w. All-push IsOfWords merged last (h.whole w) (h.last_whole w);
      last_whole = λ w. w (suc i) d (omega arith);
      later = λ k e low high. later_one first rest i d k e ascend lt low high;
      numbers = λ n.
          ap (λ b. b || has n r) (pushed merged last n ∙ h.numbers n)
          ∙ sym (or_assoc (has n first) (have (take i rest) n) (has n r))
          ∙ ap (λ b. has n first || b) (sym (more rest i n d lt));
    }

-- what is merged at the end
pub record IsMerged (all merged : List NumberRange) : Type 0 where
  pub stretches : AreNumberRanges merged
  pub apart : AllPairs (λ r q. r.end < q.first) merged
  pub whole : All IsOfWords all → All IsOfWords merged
  pub numbers : (n : ℕ) → have merged n ≡ have all n

pub merging_end : (first : NumberRange) (rest merged : List NumberRange) (last : NumberRange) (i : ℕ) → IsMerging first rest merged last i → length rest ≤ i → IsMerged (first ∷ rest) (merged ++ last ∷ [])
merging_end first rest merged last i h end =
    let apart = all_pairs_push (λ q s. q.end < s.first) merged last h.apart h.before in
    record {
      stretches = record { some = All-push IsSome merged last h.some h.last_some; ascending = λ a b d lt in_b. let far = apart a b d lt in_b in omega arith };
      apart = apart;
      whole = λ w. All-push IsOfWords merged last (h.whole w) (h.last_whole w);
      numbers = λ n. pushed merged last n ∙ h.numbers n ∙ ap (λ xs. has n first || have xs n) (take_all i rest end);
    }

pub merged_none : (all : List NumberRange) → length all ≡ 0 → IsMerged all []
merged_none [] e = record {
  stretches = record { some = All-nil _; ascending = λ i j d low high. absurd (omega arith) };
  apart = λ i j d low high. absurd (omega arith);
  whole = λ _. All-nil _;
  numbers = λ n. refl;
}
merged_none (x ∷ xs) e = absurd (omega arith)
