-- The lines of code words, one after another.
use Rattle.std.proofs.Common.{◌≡◌, ℕ, zero, suc, ◌+◌, ◌-◌, ◌%◌, ◌^◌, ◌<◌, ◌≤◌, Bool, true, false, ◌&&◌, cond, eqb, List, [], ◌∷◌, ◌++◌, Option, Some, None, refl, sym, ap, ◌∙◌, subst, inl, inr, arith, append-nil, append_assoc, add-zero}
use Rattle.std.specs.Prelude.{IfSome, IfNone}
use Rattle.std.specs.List.{flat_map, filter, range_with_len}
use Rattle.std.specs.Option.{option_map_or}
use Rattle.std.proofs.lemmas.Bool.Decides.{eqb_tells}
use Rattle.std.proofs.lemmas.Grind.{flat_map-append}
use Rattle.std.proofs.lemmas.List.Elements.{filter-append}
use Rattle.elf32_read.specs.Elf.{Elf}
use Rattle.exec_map.specs.Contents.{IsNextCode, is_code_word, word_of}
use Rattle.rv32_text.specs.Listing.{line_of}
use Rattle.dsm_io.specs.Causes.{Appends}
use Rattle.text_output.specs.declared.failure.Failure.{Failure}
use Rattle.dsm_io.specs.States.{SinkState}
use Rattle.text_output.specs.Failures.{IsPutFailure, FailsAs, IsLike, IsNever}
use Rattle.text_output.proofs.Pieces.{joins, put_fails}
use Rattle.commands.specs.Headline.{listing_below, listing}

-- the pieces of those below n that pass a test
gathered : (ℕ → Bool) → (ℕ → List ℕ) → ℕ → List ℕ
gathered p f n = flat_map f (filter p (range_with_len 0 n))

one_more : (a n : ℕ) → range_with_len a (suc n) ≡ range_with_len a n ++ ((a + n) ∷ [])
one_more a zero = ap (λ x. x ∷ []) (sym (add-zero a))
one_more a (suc n) =
    let next : a + 1 + n ≡ a + suc n = omega arith in
    ap (λ xs. a ∷ xs) (one_more (a + 1) n ∙ ap (λ x. range_with_len (a + 1) n ++ (x ∷ [])) next)

passes : (p : ℕ → Bool) (n : ℕ) → p n ≡ true → filter p (n ∷ []) ≡ n ∷ []
passes p n h = ap (λ b. cond b (n ∷ []) []) h

fails : (p : ℕ → Bool) (n : ℕ) → p n ≡ false → filter p (n ∷ []) ≡ []
fails p n h = ap (λ b. cond b (n ∷ []) []) h

gathered_suc : (p : ℕ → Bool) (f : ℕ → List ℕ) (n : ℕ)
    → gathered p f (suc n) ≡ gathered p f n ++ flat_map f (filter p (n ∷ []))
unfolding gathered
gathered_suc p f n =
    let zero_n : 0 + n ≡ n = omega arith in
    ap (λ xs. flat_map f (filter p xs)) (one_more 0 n ∙ ap (λ x. range_with_len 0 n ++ (x ∷ [])) zero_n)
    ∙ ap (flat_map f) (filter-append p (range_with_len 0 n) (n ∷ []))
    ∙ flat_map-append f (filter p (range_with_len 0 n)) (filter p (n ∷ []))

with_one : (p : ℕ → Bool) (f : ℕ → List ℕ) (n : ℕ) → p n ≡ true
    → gathered p f (suc n) ≡ gathered p f n ++ f n
with_one p f n h =
    gathered_suc p f n ∙ ap (λ xs. gathered p f n ++ flat_map f xs) (passes p n h)
    ∙ ap (λ ys. gathered p f n ++ ys) (append-nil (f n))

without_one : (p : ℕ → Bool) (f : ℕ → List ℕ) (n : ℕ) → p n ≡ false
    → gathered p f (suc n) ≡ gathered p f n
without_one p f n h =
    gathered_suc p f n ∙ ap (λ xs. gathered p f n ++ flat_map f xs) (fails p n h)
    ∙ append-nil (gathered p f n)

without_any : (p : ℕ → Bool) (f : ℕ → List ℕ) (n k : ℕ)
    → ((b : ℕ) → n ≤ b → b < n + k → p b ≡ false) → gathered p f (n + k) ≡ gathered p f n
without_any p f n zero none = ap (gathered p f) (add-zero n)
without_any p f n (suc k) none =
    let next : n + suc k ≡ suc (n + k) = omega arith in
    ap (gathered p f) next ∙ without_one p f (n + k) (none (n + k) (omega arith) (omega arith))
    ∙ without_any p f n k (λ b low high. none b low (omega (arith, high)))

behind : (p : ℕ → Bool) (f : ℕ → List ℕ) (n k : ℕ)
    → (rest : List ℕ) × (gathered p f (n + k) ≡ gathered p f n ++ rest)
behind p f n zero = ([], ap (gathered p f) (add-zero n) ∙ sym (append-nil (gathered p f n)))
behind p f n (suc k) =
    let next : n + suc k ≡ suc (n + k) = omega arith in
    let r = behind p f n k in
    let last : List ℕ = flat_map f (filter p ((n + k) ∷ [])) in (
      r.0 ++ last,
      ap (gathered p f) next ∙ gathered_suc p f (n + k)
          ∙ ap (λ xs. xs ++ last) r.1 ∙ append_assoc (gathered p f n) r.0 last,
    )

same_below : (e : Elf) (n m : ℕ) → n ≤ m → ((b : ℕ) → n ≤ b → b < m → is_code_word e b ≡ false)
    → listing_below e m ≡ listing_below e n
unfolding listing_below gathered
same_below e n m le none =
    let at : m ≡ n + (m - n) = omega arith in
    ap (gathered (is_code_word e) (λ a. line_of a (word_of e a))) at
    ∙ without_any (is_code_word e) (λ a. line_of a (word_of e a)) n (m - n)
    (λ b low high. none b low (omega (arith, high)))

more_below : (e : Elf) (n m : ℕ) → n ≤ m
    → (rest : List ℕ) × (listing_below e m ≡ listing_below e n ++ rest)
unfolding listing_below gathered
more_below e n m le =
    let at : m ≡ n + (m - n) = omega arith in
    let r = behind (is_code_word e) (λ a. line_of a (word_of e a)) n (m - n) in
    (r.0, ap (gathered (is_code_word e) (λ a. line_of a (word_of e a))) at ∙ r.1)

line_below : (e : Elf) (n : ℕ) → is_code_word e n ≡ true
    → listing_below e (suc n) ≡ listing_below e n ++ line_of n (word_of e n)
unfolding listing_below gathered
line_below e n code = with_one (is_code_word e) (λ a. line_of a (word_of e a)) n code

first_test : (a : ℕ) (rest : Bool) → (eqb (a % 4) 0 && rest) ≡ true → a % 4 ≡ 0
first_test a rest h = elim (eqb_tells (a % 4) 0) [
  | inl t ↦ t.1
  | inr t ↦ (let x : false ≡ true = ap (λ b. b && rest) (sym t.0) ∙ h in absurd (cc))
]

aligned_word : (e : Elf) (a : ℕ) → is_code_word e a ≡ true → a % 4 ≡ 0
aligned_word e a word = first_test a _ word

bool_cases : (b : Bool) → (b ≡ true → ⊥) → b ≡ false
bool_cases true h = absurd (h refl)
bool_cases false h = refl

-- behind the word at b, up to the fourth address, is none
none_between : (e : Elf) (b c : ℕ) → is_code_word e b ≡ true → suc b ≤ c → c < b + 4
    → is_code_word e c ≡ false
none_between e b c code low high = bool_cases (is_code_word e c) (λ other.
    let x = aligned_word e b code in let y = aligned_word e c other in omega (arith, x, y, low, high))

word_below : (e : Elf) (b : ℕ) → is_code_word e b ≡ true
    → listing_below e (b + 4) ≡ listing_below e b ++ line_of b (word_of e b)
word_below e b code =
    same_below e (suc b) (b + 4) (omega arith) (λ c low high. none_between e b c code low high)
    ∙ line_below e b code

nothing_below : (e : Elf) → listing_below e 0 ≡ []
unfolding listing_below
nothing_below e = refl

-- the text is the lines below the next code word
abbrev pub Reaches : Elf → Option ℕ → List ℕ → Type 0
Reaches e None text = text ≡ listing e
Reaches e (Some b) text =
    (text ≡ listing_below e b) × (is_code_word e b ≡ true) × (b + 4 ≤ 0x7fff0000)

reaches : (e : Elf) (from : ℕ) (next : Option ℕ) (text : List ℕ) → from ≤ 2 ^ 32
    → text ≡ listing_below e from → IfSome next (λ a. IsNextCode e from a)
    → IfSome next (λ a. a + 4 ≤ 0x7fff0000)
    → IfNone next ((b : ℕ) → from ≤ b → is_code_word e b ≡ false) → Reaches e next text
reaches e from None text few is some low none =
    is ∙ sym (same_below e from (2 ^ 32) few (λ b at below. none b at))
reaches e from (Some b) text few is some low none =
    (is ∙ sym (same_below e from b some.at_least some.lowest), some.code_word, low)

-- the listing goes on behind such a text
pub rest_of : (e : Elf) (next : Option ℕ) (text : List ℕ) → Reaches e next text
    → (rest : List ℕ) × (listing e ≡ text ++ rest)
rest_of e None text h = ([], sym h ∙ sym (append-nil text))
rest_of e (Some b) text h =
    let low = h.2 in
    let r = more_below e b (2 ^ 32) (omega (arith, low)) in
    (r.0, r.1 ∙ ap (λ t. t ++ r.0) (sym h.0))

-- pieces were put, and lines are gathered, up to the next code word
pub record IsUnderWay (e : Elf) (start now : SinkState) (lines : List ℕ) (next : Option ℕ) : Type 0
  where
    pub pieces : List ℕ
    pub put : Appends start.taken now.taken pieces
    pub faults : now.faults ≡ start.faults
    pub reached : Reaches e next (pieces ++ lines)

pub reaches_first : (e : Elf) (next : Option ℕ) (text : List ℕ) → text ≡ []
    → IfSome next (λ a. IsNextCode e 0 a) → IfSome next (λ a. a + 4 ≤ 0x7fff0000)
    → IfNone next ((b : ℕ) → 0 ≤ b → is_code_word e b ≡ false) → Reaches e next text
reaches_first e next text nil some low none =
    reaches e 0 next text (omega arith) (nil ∙ sym (nothing_below e)) some low none

pub reaches_more : (e : Elf) (b : ℕ) (next : Option ℕ) (text more : List ℕ) → Reaches e (Some b) text
    → more ≡ text ++ line_of b (word_of e b) → IfSome next (λ a. IsNextCode e (b + 4) a)
    → IfSome next (λ a. a + 4 ≤ 0x7fff0000)
    → IfNone next ((a : ℕ) → b + 4 ≤ a → is_code_word e a ≡ false) → Reaches e next more
reaches_more e b next text more h line some low none =
    let end = h.2 in
    reaches e (b + 4) next more (omega (arith, end))
    (line ∙ ap (λ t. t ++ line_of b (word_of e b)) h.0 ∙ sym (word_below e b h.1)) some low none

-- the addresses that are left
abbrev pub left_from : Option ℕ → ℕ
left_from next = option_map_or (λ b. 2 ^ 32 - b) next 0

-- a line more
pub line_gathered : (e : Elf) (b : ℕ) (start now : SinkState) (lines more : List ℕ)
    (next behind_it : Option ℕ) → IsUnderWay e start now lines next → next ≡ Some b
    → more ≡ lines ++ line_of b (word_of e b) → IfSome behind_it (λ a. IsNextCode e (b + 4) a)
    → IfSome behind_it (λ a. a + 4 ≤ 0x7fff0000)
    → IfNone behind_it ((a : ℕ) → b + 4 ≤ a → is_code_word e a ≡ false)
    → IsUnderWay e start now more behind_it
line_gathered e b start now lines more next behind_it u is line some low none = record {
  pieces = u.pieces;
  put = u.put;
  faults = u.faults;
  reached = reaches_more e b behind_it (u.pieces ++ lines) (u.pieces ++ more)
      (subst (λ n. Reaches e n (u.pieces ++ lines)) is u.reached)
      (ap (λ t. u.pieces ++ t) line ∙ sym (append_assoc u.pieces lines (line_of b (word_of e b))))
      some low none;
}

-- the lines are put
pub lines_put : (e : Elf) (start before now : SinkState) (lines rest : List ℕ) (next : Option ℕ)
    → IsUnderWay e start before lines next → Appends before.taken now.taken lines
    → now.faults ≡ before.faults → rest ≡ [] → IsUnderWay e start now rest next
lines_put e start before now lines rest next u put same nil = record {
  pieces = u.pieces ++ lines;
  put = joins start.taken before.taken now.taken u.pieces lines u.put put;
  faults = same ∙ u.faults;
  reached = subst (Reaches e next)
      (sym (ap (λ r. (u.pieces ++ lines) ++ r) nil ∙ append-nil (u.pieces ++ lines))) u.reached;
}

-- the listing goes on behind a line more
pub rest_more : (e : Elf) (b : ℕ) (next : Option ℕ) (text more : List ℕ) → Reaches e next text
    → next ≡ Some b → more ≡ text ++ line_of b (word_of e b)
    → (rest : List ℕ) × (listing e ≡ more ++ rest)
rest_more e b next text more reached is line =
    let h : Reaches e (Some b) text = subst (λ n. Reaches e n text) is reached in
    let low = h.2 in
    let r = more_below e (b + 4) (2 ^ 32) (omega (arith, low)) in (
      r.0,
      r.1 ∙ ap (λ t. t ++ r.0) (word_below e b h.1
          ∙ ap (λ t. t ++ line_of b (word_of e b)) (sym h.0) ∙ sym line),
    )

-- the lines aren't put, and the listing goes on behind them
pub lines_fail : (e : Elf) (start before now : SinkState) (pieces lines rest : List ℕ) (f : Failure)
    → listing e ≡ (pieces ++ lines) ++ rest → Appends start.taken before.taken pieces
    → before.faults ≡ start.faults → IsPutFailure before now lines f
    → FailsAs (IsLike (listing e)) IsNever IsNever start now f
lines_fail e start before now pieces lines rest f is put same h =
    put_fails (IsLike (listing e)) IsNever IsNever (listing e) 0 start before now pieces lines rest f refl
    (is ∙ append_assoc pieces lines rest) put same h
