-- A line taken apart at its spaces.
use Rattle.std.proofs.Common.{◌≡◌, ℕ, zero, suc, ◌-◌, ◌<◌, ◌≤◌, Bool, true, false, not, eqb, ltb, List, [], ◌∷◌, ◌++◌, length, length-append, take, drop, get_or, Some, None, refl, sym, ap, ◌∙◌, subst, inl, inr, arith}
use Rattle.std.specs.List.{list_all, position, prefix_len}
use Rattle.std.proofs.lemmas.Bool.{cases_lt, false≢true, and_parts, and_from, eqb-true, lt-ltb, not-false}
use Rattle.std.proofs.lemmas.List.{take_at, drop_at, take_rest, get_or-drop, take-append-drop}
use Rattle.std.proofs.lemmas.List.Quantifiers.{position-Some}
use Rattle.std.specs.Prelude.{replicate}
use Rattle.block_layout.specs.Parts.{is_space, is_mark, Begins, SplitsAtGap}

-- so many spaces
abbrev blanks : ℕ → List ℕ
blanks n = replicate n 32

prefix_at : (q : ℕ → Bool) (w : List ℕ) (x : ℕ) (more : List ℕ) → list_all q w ≡ true → q x ≡ false → prefix_len q (w ++ x ∷ more) ≡ length w
prefix_at q [] x more all e = rw e refl
prefix_at q (c ∷ cs) x more all e =
    let parts : (q c ≡ true) × (list_all q cs ≡ true) = and_parts _ _ all in
    let t : prefix_len q (cs ++ x ∷ more) ≡ length cs = prefix_at q cs x more parts.1 e in
    rw parts.0 (omega arith)

-- the first place that passes, behind a word in which none does
place_at : (p : ℕ → Bool) (w : List ℕ) (x : ℕ) (more : List ℕ) → list_all (λ c. not (p c)) w ≡ true → p x ≡ true → position p (w ++ x ∷ more) ≡ Some (length w)
place_at p w x more all e =
    let t : prefix_len (λ c. not (p c)) (w ++ x ∷ more) ≡ length w = prefix_at (λ c. not (p c)) w x more all (ap not e) in
    let less : ltb (length w) (length (w ++ x ∷ more)) ≡ true = lt-ltb _ _ (omega (arith, length-append w (x ∷ more))) in
    rw (t, less) refl

all_front : (q : ℕ → Bool) (xs : List ℕ) (i : ℕ) → i ≤ length xs → ((k : ℕ) → k < i → q (get_or xs k 0) ≡ true) → list_all q (take i xs) ≡ true
all_front q xs zero h each = refl
all_front q [] (suc i) h each = refl
all_front q (x ∷ xs) (suc i) h each = and_from _ _ (each 0 (omega arith)) (all_front q xs i (omega arith) (λ k less. each (suc k) (omega arith)))

front_spaces : (xs : List ℕ) (i : ℕ) → i ≤ length xs → ((k : ℕ) → k < i → is_mark (get_or xs k 0) ≡ false) → take i xs ≡ blanks i
front_spaces xs zero h each = refl
front_spaces [] (suc i) h each = absurd (omega arith)
front_spaces (x ∷ xs) (suc i) h each =
    let first : x ≡ 32 = eqb-true x 32 (not-false (eqb x 32) (each 0 (omega arith))) in
    let more : take i xs ≡ blanks i = front_spaces xs i (omega arith) (λ k less. each (suc k) (omega arith)) in
    rw (first, more) refl

begins_at : (xs : List ℕ) (i : ℕ) → i < length xs → is_mark (get_or xs i 0) ≡ true → Begins (drop i xs)
begins_at [] i h e = absurd (omega arith)
begins_at (x ∷ xs) zero h e = e
begins_at (x ∷ xs) (suc i) h e = begins_at xs i (omega arith) e

-- what two searches find
pub gap_found : (text word behind rest : List ℕ) (end gap : ℕ) → position is_space text ≡ Some end → word ≡ take end text → behind ≡ drop end text → position is_mark behind ≡ Some gap → rest ≡ take (length behind - gap) (drop gap behind) → SplitsAtGap text word rest
gap_found text word behind rest end gap found word_is behind_is mark rest_is =
    let space = position-Some is_space text end 0 found in
    let next = position-Some is_mark behind gap 0 mark in
    let here : is_space (get_or behind 0 0) ≡ true =
    ap (λ xs. is_space (get_or xs 0 0)) behind_is ∙ ap is_space (get_or-drop end text 0 0) ∙ ap (λ n. is_space (get_or text n 0)) (omega arith) ∙ space.1 in
    let some : 0 < gap = elim (cases_lt 0 gap) [
      | inl y ↦ y
      | inr n ↦
          let none : gap ≡ 0 = omega arith in
          let m : is_mark (get_or behind 0 0) ≡ true = ap (λ n. is_mark (get_or behind n 0)) (sym none) ∙ next.1 in
          absurd (false≢true (sym (ap not here) ∙ m))
    ] in
    let behind_are : take gap behind ++ drop gap behind ≡ behind = take-append-drop gap behind in
    let spaces_are : take gap behind ≡ blanks gap = front_spaces behind gap (omega (arith, next.0)) (λ k less. next.2 k less) in
    let end_is : rest ≡ drop gap behind = rest_is ∙ take_rest behind gap in
    let same : gap ≡ suc (gap - 1) = omega (arith, some) in
    record {
      gap = gap - 1;
      text_is = sym (take-append-drop end text) ∙ ap (λ w. w ++ drop end text) (sym word_is) ∙ ap (λ b. word ++ b) (sym behind_is ∙ sym behind_are ∙ ap (λ s. s ++ drop gap behind) spaces_are ∙ ap (λ r. blanks gap ++ r) (sym end_is) ∙ ap (λ n. blanks n ++ rest) same);
      no_space = ap (list_all is_mark) word_is ∙ all_front is_mark text end (omega (arith, space.0)) (λ k less. ap not (space.2 k less));
      begins = subst Begins (sym end_is) (begins_at behind gap next.0 next.1);
    }

all_spaces : (n : ℕ) → list_all (λ c. not (is_mark c)) (blanks n) ≡ true
all_spaces zero = refl
all_spaces (suc n) = all_spaces n

spaces_length : (n : ℕ) → length (blanks n) ≡ n
spaces_length zero = refl
spaces_length (suc n) = ap suc (spaces_length n)

-- what two searches find in a text that is split
pub record IsGap (text word rest : List ℕ) : Type 0 where
  pub gap : ℕ
  pub end : position is_space text ≡ Some (length word)
  pub word_is : take (length word) text ≡ word
  pub mark : position is_mark (drop (length word) text) ≡ Some gap
  pub rest_is : drop gap (drop (length word) text) ≡ rest

mark_behind : (n : ℕ) (rest : List ℕ) → Begins rest → position is_mark (blanks n ++ rest) ≡ Some n
mark_behind n [] b = absurd b
mark_behind n (c ∷ cs) b = place_at is_mark (blanks n) c cs (all_spaces n) b ∙ ap Some (spaces_length n)

gap_at : (text word rest : List ℕ) (g : ℕ) → text ≡ word ++ (blanks (suc g) ++ rest) → list_all is_mark word ≡ true → Begins rest → IsGap text word rest
gap_at text word rest g is no_space begins =
    let behind : drop (length word) text ≡ blanks (suc g) ++ rest = ap (drop (length word)) is ∙ drop_at word (blanks (suc g) ++ rest) (length word) refl in
    record {
      gap = suc g;
      end = ap (position is_space) is ∙ place_at is_space word 32 (blanks g ++ rest) no_space refl;
      word_is = ap (take (length word)) is ∙ take_at word (blanks (suc g) ++ rest) (length word) refl;
      mark = ap (position is_mark) behind ∙ mark_behind (suc g) rest begins;
      rest_is = ap (drop (suc g)) behind ∙ drop_at (blanks (suc g)) rest (suc g) (spaces_length (suc g));
    }

pub is_gap : (text word rest : List ℕ) → SplitsAtGap text word rest → IsGap text word rest
is_gap text word rest h = gap_at text word rest h.gap h.text_is h.no_space h.begins

pub no_end : (text word rest : List ℕ) → None ≡ position is_space text → SplitsAtGap text word rest → ⊥
no_end text word rest none h =
    let t : IsGap text word rest = is_gap text word rest h in
    let e : None ≡ Some (length word) = none ∙ t.end in
    absurd (cc)

same_end : (text word rest : List ℕ) (end : ℕ) → Some end ≡ position is_space text → IsGap text word rest → end ≡ length word
same_end text word rest end found t =
    let e : Some end ≡ Some (length word) = found ∙ t.end in
    cc

pub no_mark : (text behind word rest : List ℕ) (end : ℕ) → Some end ≡ position is_space text → behind ≡ drop end text → None ≡ position is_mark behind → SplitsAtGap text word rest → ⊥
no_mark text behind word rest end found behind_is none h =
    let t : IsGap text word rest = is_gap text word rest h in
    let e : end ≡ length word = same_end text word rest end found t in
    let f : None ≡ Some t.gap = none ∙ ap (position is_mark) (behind_is ∙ ap (λ n. drop n text) e) ∙ t.mark in
    absurd (cc)

pub gap_same : (text front behind tail word rest : List ℕ) (end gap : ℕ) → Some end ≡ position is_space text → front ≡ take end text → behind ≡ drop end text → Some gap ≡ position is_mark behind → tail ≡ take (length behind - gap) (drop gap behind) → SplitsAtGap text word rest → (front ≡ word) × (tail ≡ rest)
gap_same text front behind tail word rest end gap found front_is behind_is mark tail_is h =
    let t : IsGap text word rest = is_gap text word rest h in
    let e : end ≡ length word = same_end text word rest end found t in
    let b : behind ≡ drop (length word) text = behind_is ∙ ap (λ n. drop n text) e in
    let f : Some gap ≡ Some t.gap = mark ∙ ap (position is_mark) b ∙ t.mark in
    let g : gap ≡ t.gap = cc in (
      front_is ∙ ap (λ n. take n text) e ∙ t.word_is,
      tail_is ∙ take_rest behind gap ∙ ap (drop gap) b ∙ ap (λ n. drop n (drop (length word) text)) g ∙ t.rest_is,
    )

pub split_moved : (t u word rest : List ℕ) → t ≡ u → SplitsAtGap u word rest → SplitsAtGap t word rest
split_moved t u word rest e h = let P : List ℕ → Type 0 = λ x. SplitsAtGap x word rest in subst P (sym e) h
