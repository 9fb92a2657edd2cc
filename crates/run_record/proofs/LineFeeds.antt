-- The lines of a text, and the line that stands first.
use Rattle.std.proofs.Common.{◌≡◌, ℕ, suc, ◌+◌, ◌<◌, ◌≤◌, false, not, eqb, List, [], ◌∷◌, ◌++◌, length, take, drop, get_or, Some, None, refl, sym, ap, ◌∙◌, inl, inr, arith}
use Rattle.std.specs.List.{position, prefix_len, onto_first}
use Rattle.std.proofs.lemmas.Bool.{cases_Bool, cases_lt, lt-ltb}
use Rattle.std.proofs.lemmas.Bool.Decides.{nat_tests}
use Rattle.std.proofs.lemmas.List.{take-append-drop, drop_more, take_more, take_all, drop_all, get_or-take, length-take-le}
use Rattle.std.proofs.lemmas.List.Quantifiers.{position-Some}
use Rattle.run_record.specs.Rules.{text_lines}
use Rattle.run_record.proofs.Fields.{Without}

-- a line up to its line feed stands first
pub line_then : (xs rest : List ℕ) → Without 10 xs
    → text_lines (xs ++ 10 ∷ rest) ≡ (xs ++ 10 ∷ []) ∷ text_lines rest
line_then [] rest p = refl
line_then (x ∷ xs) rest p =
    let other : eqb x 10 ≡ false = grind (arith, nat_tests, p.0) in
    let more = line_then xs rest p.1 in
    rw other (ap (onto_first x) more)

-- a text without a line feed is one line
pub one_line : (xs : List ℕ) → 0 < length xs → Without 10 xs → text_lines xs ≡ xs ∷ []
one_line [] some p = absurd (omega arith)
one_line (x ∷ []) some p =
    let other : eqb x 10 ≡ false = grind (arith, nat_tests, p.0) in
    rw other refl
one_line (x ∷ y ∷ xs) some p =
    let other : eqb x 10 ≡ false = grind (arith, nat_tests, p.0) in
    let more = one_line (y ∷ xs) (omega arith) p.1 in
    rw other (ap (onto_first x) more)

without_of : (xs : List ℕ) → ((k : ℕ) → k < length xs → eqb (get_or xs k 0) 10 ≡ false)
    → Without 10 xs
without_of [] h = tt
without_of (x ∷ xs) h = (
  (λ same. let other : eqb x 10 ≡ false = h 0 (omega arith) in grind (arith, nat_tests)),
  without_of xs (λ k less. h (suc k) (omega arith)),
)

front_without : (text : List ℕ) (end : ℕ) → end < length text
    → ((k : ℕ) → k < end → eqb (get_or text k 0) 10 ≡ false) → Without 10 (take end text)
front_without text end less none = without_of (take end text) (λ k few.
    let size : length (take end text) ≡ end = length-take-le end text (omega arith) in
    let there : get_or (take end text) k 0 ≡ get_or text k 0 = get_or-take end text k 0 (omega arith) in
    ap (λ c. eqb c 10) there ∙ none k (omega arith))

-- the first line ends at the first line feed
pub first_line : (text : List ℕ) (end : ℕ) → Some end ≡ position (λ c. eqb c 10) text
    → text_lines text ≡ take (end + 1) text ∷ text_lines (drop (end + 1) text)
first_line text end h =
    let p = position-Some (λ c. eqb c 10) text end 0 (sym h) in
    let mark : get_or text end 0 ≡ 10 = grind (arith, nat_tests, p.1) in
    let parts : text ≡ take end text ++ 10 ∷ drop (end + 1) text =
    sym (take-append-drop end text) ∙ ap (λ ys. take end text ++ ys) (drop_more text end 0 p.0
    ∙ ap (λ c. c ∷ drop (end + 1) text) mark) in
    let line : take (end + 1) text ≡ take end text ++ 10 ∷ [] = take_more text end 0 p.0
    ∙ ap (λ c. take end text ++ c ∷ []) mark in
    ap text_lines parts
    ∙ line_then (take end text) (drop (end + 1) text) (front_without text end p.0 p.2)
    ∙ ap (λ l. l ∷ text_lines (drop (end + 1) text)) (sym line)

all_prefix : (xs : List ℕ) → length xs ≤ prefix_len (λ c. not (eqb c 10)) xs → Without 10 xs
all_prefix [] h = tt
all_prefix (x ∷ xs) h = elim (cases_Bool (eqb x 10)) [
  | inl y ↦
      let e : prefix_len (λ c. not (eqb c 10)) (x ∷ xs) ≡ 0 = rw y refl in
      absurd (omega arith)
  | inr n ↦
      let e : prefix_len (λ c. not (eqb c 10)) (x ∷ xs)
      ≡ 1 + prefix_len (λ c. not (eqb c 10)) xs = rw n refl in
      ((λ same. grind (arith, nat_tests)), all_prefix xs (omega arith))
]

none_passes : (text : List ℕ) → None ≡ position (λ c. eqb c 10) text → Without 10 text
none_passes text h = elim (cases_lt (prefix_len (λ c. not (eqb c 10)) text) (length text)) [
  | inl less ↦
      let e : position (λ c. eqb c 10) text ≡ Some (prefix_len (λ c. not (eqb c 10)) text)
      = rw (lt-ltb _ _ less) refl in
      let f : None ≡ Some (prefix_len (λ c. not (eqb c 10)) text) = h ∙ e in
      absurd (cc)
  | inr more ↦ all_prefix text more
]

pub only_line : (text : List ℕ) (k : ℕ) → 0 < length text → None ≡ position (λ c. eqb c 10) text
    → k ≡ length text → text_lines text ≡ take k text ∷ text_lines (drop k text)
only_line text k some h all =
    one_line text some (none_passes text h)
    ∙ ap (λ l. l ∷ []) (sym (take_all k text (omega arith)))
    ∙ ap (λ l. take k text ∷ text_lines l) (sym (drop_all k text (omega arith)))

onto_some : (c : ℕ) (ls : List (List ℕ))
    → (line : List ℕ) × (lines : List (List ℕ)) × (onto_first c ls ≡ line ∷ lines)
onto_some c [] = (c ∷ [], [], refl)
onto_some c (l ∷ ls) = (c ∷ l, ls, refl)

pub some_line : (text : List ℕ) → 0 < length text
    → (line : List ℕ) × (lines : List (List ℕ)) × (text_lines text ≡ line ∷ lines)
some_line [] some = absurd (omega arith)
some_line (c ∷ cs) some = elim (cases_Bool (eqb c 10)) [
  | inl y ↦ (c ∷ [], text_lines cs, rw y refl)
  | inr n ↦ let t = onto_some c (text_lines cs) in (t.0, t.1, rw n t.2)
]

begin_onto : (c : ℕ) (cs : List ℕ) (ls : List (List ℕ)) (line : List ℕ) (lines : List (List ℕ))
    → ((l : List ℕ) (more : List (List ℕ)) → ls ≡ l ∷ more → (rest : List ℕ) × (cs ≡ l ++ rest))
    → onto_first c ls ≡ line ∷ lines → (rest : List ℕ) × (c ∷ cs ≡ line ++ rest)
begin_onto c cs [] line lines h e =
    let same : c ∷ [] ≡ line = cc in
    (cs, ap (λ l. l ++ cs) same)
begin_onto c cs (l ∷ ls) line lines h e =
    let same : c ∷ l ≡ line = cc in
    let t = h l ls refl in
    (t.0, ap (λ x. c ∷ x) t.1 ∙ ap (λ x. x ++ t.0) same)

-- a text begins with its first line
pub lines_begin : (text line : List ℕ) (lines : List (List ℕ)) → text_lines text ≡ line ∷ lines
    → (rest : List ℕ) × (text ≡ line ++ rest)
lines_begin [] line lines e = absurd (cc)
lines_begin (c ∷ cs) line lines e = elim (cases_Bool (eqb c 10)) [
  | inl y ↦
      let f : (c ∷ []) ∷ text_lines cs ≡ line ∷ lines = rw y at e in
      let same : c ∷ [] ≡ line = cc in
      (cs, ap (λ l. l ++ cs) same)
  | inr n ↦ begin_onto c cs (text_lines cs) line lines (λ l more f. lines_begin cs l more f) (rw n at e)
]
