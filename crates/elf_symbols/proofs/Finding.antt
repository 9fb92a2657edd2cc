-- The function at an address, among those so far and one more.
use Rattle.std.proofs.Common.{◌≡◌, ℕ, ◌<◌, ◌≤◌, Bool, true, false, not, ◌&&◌, ◌||◌, cond, leb, List, [], ◌∷◌, ◌++◌, Option, Some, None, refl, sym, ap, ◌∙◌, arith}
use Rattle.std.specs.Prelude.{All}
use Rattle.std.specs.Option.{option_map}
use Rattle.std.specs.List.{find, list_all}
use Rattle.std.proofs.lemmas.Bool.Decides.{nat_tests}
use Rattle.std.proofs.lemmas.List.{append_assoc}
use Rattle.std.proofs.lemmas.List.Elements.{All-nil, All-cons, All-head, All-tail, All-append}
use Rattle.elf_symbols.specs.declared.Symbol as declared
use Rattle.elf_symbols.specs.Symbols.{Symbol, covers, begins_last, symbol_at}
use Rattle.elf_symbols.specs.Given.{symbol_of, IsFirstAt, HasNone, IsFound}

-- 1. One function more

-- each function that has the byte begins at this one or before it
abbrev AreBefore : (address most : ℕ) → List Symbol → Type 0
AreBefore a most xs = All (λ (o : Symbol). covers a o ≡ true → o.value ≤ most) xs

one : (a most : ℕ) (x : Symbol) → (covers a x ≡ true → x.value ≤ most) → AreBefore a most (x ∷ [])
one a most x h = All-cons (λ (o : Symbol). covers a o ≡ true → o.value ≤ most) x [] h
    (All-nil (λ (o : Symbol). covers a o ≡ true → o.value ≤ most))

joined : (a most : ℕ) (xs : List Symbol) (x : Symbol) → AreBefore a most xs → (covers a x ≡ true → x.value ≤ most)
    → AreBefore a most (xs ++ x ∷ [])
joined a most xs x h k =
    All-append (λ (o : Symbol). covers a o ≡ true → o.value ≤ most) xs (x ∷ []) h (one a most x k)

-- a function that hasn't the byte
pub passed_by : (seen : List Symbol) (a : ℕ) (found : Option declared.Symbol) (x : Symbol) → covers a x ≡ false
    → IsFound seen a found → IsFound (seen ++ x ∷ []) a found
passed_by seen a None x misses h =
    All-append (λ (o : Symbol). covers a o ≡ false) seen (x ∷ []) h
    (All-cons (λ (o : Symbol). covers a o ≡ false) x [] misses (All-nil (λ (o : Symbol). covers a o ≡ false)))
passed_by seen a (Some s) x misses h = record {
  front = h.front;
  back = h.back ++ x ∷ [];
  among = ap (λ ys. ys ++ x ∷ []) h.among ∙ append_assoc h.front (symbol_of s ∷ h.back) (x ∷ []);
  has = h.has;
  last = joined a s.value seen x h.last (λ has. let e : true ≡ false = sym has ∙ misses in absurd cc);
  first = h.first;
}

-- one that has it, and begins no later
pub stays : (seen : List Symbol) (a : ℕ) (s x : Symbol) → x.value ≤ s.value → IsFirstAt seen a s
    → IsFirstAt (seen ++ x ∷ []) a s
stays seen a s x low h = record {
  front = h.front;
  back = h.back ++ x ∷ [];
  among = ap (λ ys. ys ++ x ∷ []) h.among ∙ append_assoc h.front (s ∷ h.back) (x ∷ []);
  has = h.has;
  last = joined a s.value seen x h.last (λ has. low);
  first = h.first;
}

-- 2. The function at an address

find_none : (p : Symbol → Bool) (xs : List Symbol) → All (λ x. p x ≡ false) xs → find p xs ≡ None
find_none p [] h = refl
find_none p (x ∷ xs) h =
    ap (λ b. cond b (Some x) (find p xs)) (All-head (λ (o : Symbol). p o ≡ false) x xs h)
    ∙ find_none p xs (All-tail (λ (o : Symbol). p o ≡ false) x xs h)

find_behind : (p : Symbol → Bool) (xs : List Symbol) (s : Symbol) (ys : List Symbol) → All (λ x. p x ≡ false) xs
    → p s ≡ true → find p (xs ++ s ∷ ys) ≡ Some s
find_behind p [] s ys h is = ap (λ b. cond b (Some s) (find p ys)) is
find_behind p (x ∷ xs) s ys h is =
    ap (λ b. cond b (Some x) (find p (xs ++ s ∷ ys))) (All-head (λ (o : Symbol). p o ≡ false) x xs h)
    ∙ find_behind p xs s ys (All-tail (λ (o : Symbol). p o ≡ false) x xs h) is

-- whether a function doesn't begin later than this, if it has the byte
abbrev is_no_later : (a most : ℕ) → Symbol → Bool
is_no_later a most o = not (covers a o) || leb o.value most

so : (b : Bool) (v most : ℕ) → (b ≡ true → v ≤ most) → (not b || leb v most) ≡ true
so true v most h = let low = h refl in grind (arith, nat_tests, low)
so false v most h = refl

all_so : (a most : ℕ) (xs : List Symbol) → AreBefore a most xs → list_all (is_no_later a most) xs ≡ true
all_so a most [] h = refl
all_so a most (x ∷ xs) h =
    let P : Symbol → Type 0 = λ o. covers a o ≡ true → o.value ≤ most in
    ap (λ b. b && list_all (is_no_later a most) xs) (so (covers a x) x.value most (All-head P x xs h))
    ∙ all_so a most xs (All-tail P x xs h)

not_all : (a most : ℕ) (xs : List Symbol) (s : Symbol) (ys : List Symbol) → covers a s ≡ true → most < s.value
    → list_all (is_no_later a most) (xs ++ s ∷ ys) ≡ false
not_all a most [] s ys has up =
    let late : leb s.value most ≡ false = grind (arith, nat_tests, up) in
    ap (λ b. (not b || leb s.value most) && list_all (is_no_later a most) ys) has
    ∙ ap (λ b. b && list_all (is_no_later a most) ys) late
not_all a most (x ∷ xs) s ys has up =
    ap (λ b. is_no_later a most x && b) (not_all a most xs s ys has up) ∙ no_more (is_no_later a most x)
  where
    no_more : (b : Bool) → (b && false) ≡ false
    no_more true = refl
    no_more false = refl

module _ (a : ℕ) (xs : List Symbol) (s : Symbol) (ys : List Symbol) (all : List Symbol) where
  before : (o : Symbol) (b : Bool) → covers a o ≡ b → (covers a o ≡ true → o.value < s.value) → covers a s ≡ true
      → all ≡ xs ++ s ∷ ys → (covers a o && begins_last all a o) ≡ false
  before o false is low has among = ap (λ b. b && begins_last all a o) is
  before o true is low has among =
      ap (λ b. b && begins_last all a o) is ∙ ap (λ os. begins_last os a o) among
      ∙ not_all a o.value xs s ys has (low is)

  all_before : (os : List Symbol) → All (λ o. covers a o ≡ true → o.value < s.value) os → covers a s ≡ true
      → all ≡ xs ++ s ∷ ys → All (λ o. (covers a o && begins_last all a o) ≡ false) os
  all_before [] h has among = All-nil (λ (o : Symbol). (covers a o && begins_last all a o) ≡ false)
  all_before (o ∷ os) h has among =
      let P : Symbol → Type 0 = λ x. covers a x ≡ true → x.value < s.value in
      All-cons (λ (x : Symbol). (covers a x && begins_last all a x) ≡ false) o os
      (before o (covers a o) refl (All-head P o os h) has among) (all_before os (All-tail P o os h) has among)

none_is : (a : ℕ) (all xs : List Symbol) → HasNone xs a → All (λ o. (covers a o && begins_last all a o) ≡ false) xs
none_is a all [] h = All-nil (λ (o : Symbol). (covers a o && begins_last all a o) ≡ false)
none_is a all (x ∷ xs) h =
    All-cons (λ (o : Symbol). (covers a o && begins_last all a o) ≡ false) x xs
    (ap (λ b. b && begins_last all a x) (All-head (λ (o : Symbol). covers a o ≡ false) x xs h))
    (none_is a all xs (All-tail (λ (o : Symbol). covers a o ≡ false) x xs h))

-- what was found is the function at the address
pub found_is : (xs : List Symbol) (a : ℕ) (found : Option declared.Symbol) → IsFound xs a found
    → option_map symbol_of found ≡ symbol_at xs a
found_is xs a None h = sym (find_none (λ o. covers a o && begins_last xs a o) xs (none_is a xs xs h))
found_is xs a (Some d) h =
    let s = symbol_of d in
    let p : Symbol → Bool = λ o. covers a o && begins_last xs a o in
    sym (ap (find p) h.among
    ∙ find_behind p h.front s h.back (all_before a h.front s h.back xs h.front h.first h.has h.among)
    (ap (λ b. b && begins_last xs a s) h.has ∙ all_so a s.value xs h.last))
