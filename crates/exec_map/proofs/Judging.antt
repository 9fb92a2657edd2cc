-- The rules one after another.
use Rattle.std.proofs.Common.{◌≡◌, ℕ, zero, suc, ◌+◌, ◌%◌, ◌<◌, ◌≤◌, true, false, ◌&&◌, ◌||◌, not, inl, inr, Option, Some, None, List, [], ◌∷◌, length, get_or, refl, sym, ap, ◌∙◌, arith}
use Rattle.std.specs.Prelude.{AllPairs, position, nat_lt, nat_le, ◌==◌}
use Rattle.std.specs.List.{list_any, filter}
use Rattle.std.specs.List.Sorted.{IsPermutation}
use Rattle.std.proofs.Math.Path.{fun_ext}
use Rattle.std.proofs.lemmas.Bool.{cases_lt, cases_eq, cases_Bool, false≢true, true_from_ne_false, and_parts, and_from, and_right, eq-eqb, le-ltb, leb-true, cond-true, cond-false}
use Rattle.std.proofs.lemmas.Bool.Decides.{nat_tests}
use Rattle.std.proofs.lemmas.List.Sorted.{list_any-IsPermutation}
use Rattle.std.proofs.lemmas.Option.{get_or_from_slice_get, slice_get-get_or}
use Rattle.elf32_read.specs.Elf.{Elf, Segment, Section, are_placed, is_placed}
use Rattle.rv32_program.specs.declared.Class.{Class}
use Rattle.rv32_program.specs.declared.Class.TheVariants.{Shared, ReadOnly, Private, Unmapped}
use Rattle.exec_map.specs.declared.stretches.NumberRange.{NumberRange}
use Rattle.exec_map.specs.declared.refused.ProgramRule.{ProgramRule}
use Rattle.exec_map.specs.declared.refused.ProgramRule.TheVariants.{TooHigh, Overlap, WritableCode, NoCode, TooMuch, EntryNotCode, Unsupported, CodeAlign, TooManySegments}
use Rattle.exec_map.specs.Contents.{is_executable, is_code_section, is_code_word, is_supported_word, word_of, is_writable, touches, AllSupported}
use Rattle.exec_map.specs.Refusals.{has_memory, Fits, number_of, IsRefusedBy, IsAcceptable, AreOverlapping, IsFirstOverlap, IsFirstUnsupported, IsTooMuch, lines_of_all, line_limit, is_too_high, is_writable_code, is_broken_code, is_whole_code, is_within}
use Rattle.exec_map.specs.Index.{NoRuleBelow, AreCode, have}
use Rattle.exec_map.proofs.Halving.{have_here}
use Rattle.exec_map.proofs.Overlaps.{get_within}

pub refused : (e : Elf) (r : ProgramRule) → Fits e r → NoRuleBelow e (number_of r) → IsRefusedBy e r
refused e r fits below = record { fits = fits; first = below }

pub below_12 : (e : Elf) → NoRuleBelow e 12
below_12 e (TooHigh k) f = omega arith
below_12 e (Overlap i j) f = omega arith
below_12 e (WritableCode k) f = omega arith
below_12 e NoCode f = omega arith
below_12 e (TooMuch c) f = omega arith
below_12 e (EntryNotCode a) f = omega arith
below_12 e (Unsupported a w) f = omega arith
below_12 e (CodeAlign k) f = omega arith
below_12 e (TooManySegments n) f = omega arith

step : (e : Elf) (n : ℕ) → NoRuleBelow e n → ((r : ProgramRule) → number_of r ≡ n → Fits e r → ⊥) → NoRuleBelow e (n + 1)
step e n below none r f =
    let le = below r f in
    elim (cases_eq (number_of r) n) [ inl is ↦ absurd (none r is f) | inr ne ↦ omega arith ]

only_12 : (e : Elf) → ((k : ℕ) → Fits e (TooHigh k) → ⊥) → (r : ProgramRule) → number_of r ≡ 12 → Fits e r → ⊥
only_12 e none (TooHigh k) is f = none k f
only_12 e none r is f = absurd (omega arith)

only_13 : (e : Elf) → ((i j : ℕ) → Fits e (Overlap i j) → ⊥) → (r : ProgramRule) → number_of r ≡ 13 → Fits e r → ⊥
only_13 e none (Overlap i j) is f = none i j f
only_13 e none r is f = absurd (omega arith)

only_14 : (e : Elf) → ((k : ℕ) → Fits e (WritableCode k) → ⊥) → (r : ProgramRule) → number_of r ≡ 14 → Fits e r → ⊥
only_14 e none (WritableCode k) is f = none k f
only_14 e none r is f = absurd (omega arith)

only_15 : (e : Elf) → (Fits e NoCode → ⊥) → (r : ProgramRule) → number_of r ≡ 15 → Fits e r → ⊥
only_15 e none NoCode is f = none f
only_15 e none r is f = absurd (omega arith)

only_16 : (e : Elf) → ((c : Class) → Fits e (TooMuch c) → ⊥) → (r : ProgramRule) → number_of r ≡ 16 → Fits e r → ⊥
only_16 e none (TooMuch c) is f = none c f
only_16 e none r is f = absurd (omega arith)

only_17 : (e : Elf) → ((a : ℕ) → Fits e (EntryNotCode a) → ⊥) → (r : ProgramRule) → number_of r ≡ 17 → Fits e r → ⊥
only_17 e none (EntryNotCode a) is f = none a f
only_17 e none r is f = absurd (omega arith)

only_18 : (e : Elf) → ((a w : ℕ) → Fits e (Unsupported a w) → ⊥) → (r : ProgramRule) → number_of r ≡ 18 → Fits e r → ⊥
only_18 e none (Unsupported a w) is f = none a w f
only_18 e none r is f = absurd (omega arith)

only_19 : (e : Elf) → ((k : ℕ) → Fits e (CodeAlign k) → ⊥) → (r : ProgramRule) → number_of r ≡ 19 → Fits e r → ⊥
only_19 e none (CodeAlign k) is f = none k f
only_19 e none r is f = absurd (omega arith)

no_20 : (r : ProgramRule) → number_of r ≡ 20 → ⊥
no_20 (TooHigh k) is = absurd (omega arith)
no_20 (Overlap i j) is = absurd (omega arith)
no_20 (WritableCode k) is = absurd (omega arith)
no_20 NoCode is = absurd (omega arith)
no_20 (TooMuch c) is = absurd (omega arith)
no_20 (EntryNotCode a) is = absurd (omega arith)
no_20 (Unsupported a w) is = absurd (omega arith)
no_20 (CodeAlign k) is = absurd (omega arith)
no_20 (TooManySegments n) is = absurd (omega arith)

no_21 : (r : ProgramRule) → number_of r ≡ 21 → ⊥
no_21 (TooHigh k) is = absurd (omega arith)
no_21 (Overlap i j) is = absurd (omega arith)
no_21 (WritableCode k) is = absurd (omega arith)
no_21 NoCode is = absurd (omega arith)
no_21 (TooMuch c) is = absurd (omega arith)
no_21 (EntryNotCode a) is = absurd (omega arith)
no_21 (Unsupported a w) is = absurd (omega arith)
no_21 (CodeAlign k) is = absurd (omega arith)
no_21 (TooManySegments n) is = absurd (omega arith)

no_23 : (r : ProgramRule) → 23 ≤ number_of r → ⊥
no_23 (TooHigh k) is = absurd (omega arith)
no_23 (Overlap i j) is = absurd (omega arith)
no_23 (WritableCode k) is = absurd (omega arith)
no_23 NoCode is = absurd (omega arith)
no_23 (TooMuch c) is = absurd (omega arith)
no_23 (EntryNotCode a) is = absurd (omega arith)
no_23 (Unsupported a w) is = absurd (omega arith)
no_23 (CodeAlign k) is = absurd (omega arith)
no_23 (TooManySegments n) is = absurd (omega arith)

only_20 : (e : Elf) → (r : ProgramRule) → number_of r ≡ 20 → Fits e r → ⊥
only_20 e r is f = absurd (no_20 r is)

only_21 : (e : Elf) → (r : ProgramRule) → number_of r ≡ 21 → Fits e r → ⊥
only_21 e r is f = absurd (no_21 r is)

only_22 : (e : Elf) → ((n : ℕ) → Fits e (TooManySegments n) → ⊥) → (r : ProgramRule) → number_of r ≡ 22 → Fits e r → ⊥
only_22 e none (TooManySegments n) is f = none n f
only_22 e none r is f = absurd (omega arith)

some_none : {X : Type 0} (x : X) → None ≡ Some x → ⊥
some_none x h = cc

pub below_13 : (e : Elf) → None ≡ position is_too_high e.segments → NoRuleBelow e 13
below_13 e none = step e 12 (below_12 e) (only_12 e (λ k f. some_none k (none ∙ f)))

pub below_14 : (e : Elf) → NoRuleBelow e 13 → ((k l : ℕ) → AreOverlapping e.segments k l → ⊥) → NoRuleBelow e 14
below_14 e below none = step e 13 below (only_13 e (λ i j f. none i j f.overlap))

pub below_15 : (e : Elf) → NoRuleBelow e 14 → None ≡ position is_writable_code e.segments → NoRuleBelow e 15
below_15 e below none = step e 14 below (only_14 e (λ k f. some_none k (none ∙ f)))

pub below_16 : (e : Elf) (code : List NumberRange) → NoRuleBelow e 15 → AreCode e code → (length code ≡ 0 → ⊥) → NoRuleBelow e 16
below_16 e [] below h some = absurd (some refl)
below_16 e (r ∷ rs) below h some = step e 15 below (only_15 e (λ no_word.
    let lt : r.first < r.end = h.stretches.some 0 r (omega arith) in
    let here : have (r ∷ rs) r.first ≡ true = have_here (r ∷ rs) r.first 0 r (omega arith) (omega arith) lt in
    let aligned : (r.first % 4 == 0) ≡ true = eq-eqb _ _ (h.whole 0 r (omega arith)).0 in
    false≢true (sym (no_word r.first) ∙ h.words r.first ∙ and_from _ _ aligned here)))

pub no_code : (e : Elf) (code : List NumberRange) → AreCode e code → length code ≡ 0 → Fits e NoCode
no_code e [] h none a = h.words a ∙ and_right (a % 4 == 0) false refl
no_code e (r ∷ rs) h none a = absurd (omega arith)

pub below_17 : (e : Elf) → NoRuleBelow e 16 → ((c : Class) → IsTooMuch e.segments c → ⊥) → NoRuleBelow e 17
below_17 e below none = step e 16 below (only_16 e none)

pub below_18 : (e : Elf) → NoRuleBelow e 17 → is_code_word e e.entry ≡ true → NoRuleBelow e 18
below_18 e below word = step e 17 below (only_17 e (λ a f. false≢true (sym f.1 ∙ ap (is_code_word e) f.0 ∙ word)))

pub below_19 : (e : Elf) → NoRuleBelow e 18 → AllSupported e → NoRuleBelow e 19
below_19 e below all = step e 18 below (only_18 e (λ a w f. false≢true (sym f.unsupported ∙ ap is_supported_word f.reads ∙ all.supported a f.code_word)))

pub below_22 : (e : Elf) → NoRuleBelow e 19 → None ≡ position (is_broken_code e.segments) e.sections → NoRuleBelow e 22
below_22 e below none = step e 21 (step e 20 (step e 19 below (only_19 e (λ k f. some_none k (none ∙ f)))) (only_20 e)) (only_21 e)

-- where no pair is the first to overlap, none overlaps
none_on : (xs : List Segment) (k : ℕ) → ((i j : ℕ) → IsFirstOverlap xs i j → ⊥) → ((i l : ℕ) → i < k → AreOverlapping xs i l → ⊥) → (n l : ℕ) → l < n → AreOverlapping xs k l → ⊥
none_on xs k never before zero l lt here = absurd (omega arith)
none_on xs k never before (suc n) l lt here = never k l (record {
  overlap = here;
  least = λ i m other. elim (cases_lt i k) [ inl less ↦ absurd (before i m less other) | inr le ↦ le ];
  next = λ m other. elim (cases_lt m l) [
    | inl less ↦ absurd (none_on xs k never before n m (omega arith) other)
    | inr le ↦ le
  ];
})

none_up : (xs : List Segment) → ((i j : ℕ) → IsFirstOverlap xs i j → ⊥) → (n k l : ℕ) → k < n → AreOverlapping xs k l → ⊥
none_up xs never zero k l lt here = absurd (omega arith)
none_up xs never (suc n) k l lt here =
    none_on xs k never (λ i m less. none_up xs never n i m (omega arith)) (l + 1) l (omega arith) here

pub none_overlap : (xs : List Segment) → ((i j : ℕ) → IsFirstOverlap xs i j → ⊥) → (k l : ℕ) → AreOverlapping xs k l → ⊥
none_overlap xs never k l here = none_up xs never (k + 1) k l (omega arith) here

-- no line is in two segments just where none overlap
apart_by : (xs : List Segment) → ((k l : ℕ) → AreOverlapping xs k l → ⊥) → AllPairs (λ s t. (line : ℕ) → touches line s ≡ true → touches line t ≡ false) xs
apart_by xs never i j d lt in_j = λ line one.
    elim (cases_Bool (touches line (get_or xs j d))) [
      | inl other ↦ absurd (never i j (record {
        order = lt;
        one = get_or xs i d;
        other = get_or xs j d;
        one_is = slice_get-get_or xs i d (omega arith);
        other_is = slice_get-get_or xs j d in_j;
        line = line;
        in_one = one;
        in_other = other;
      }))
      | inr out ↦ out
    ]

overlap_never : (xs : List Segment) → AllPairs (λ s t. (line : ℕ) → touches line s ≡ true → touches line t ≡ false) xs → (k l : ℕ) → AreOverlapping xs k l → ⊥
overlap_never xs apart k l h =
    let in_l = get_within xs l h.other h.other_is in
    let one : get_or xs k h.one ≡ h.one = get_or_from_slice_get xs k h.one h.one h.one_is in
    let other : get_or xs l h.one ≡ h.other = get_or_from_slice_get xs l h.other h.one h.other_is in
    let out = apart k l h.one h.order in_l h.line (ap (touches h.line) one ∙ h.in_one) in
    false≢true (sym out ∙ ap (touches h.line) other ∙ h.in_other)

-- where no word is the lowest that has no row, each has one
supported_below : (e : Elf) → ((a w : ℕ) → IsFirstUnsupported e a w → ⊥) → (n a : ℕ) → a < n → is_code_word e a ≡ true → is_supported_word (word_of e a) ≡ true
supported_below e never zero a lt word = absurd (omega arith)
supported_below e never (suc n) a lt word =
    true_from_ne_false (is_supported_word (word_of e a)) (λ out. never a (word_of e a) (record {
      code_word = word;
      reads = refl;
      unsupported = out;
      lowest = λ b less here. supported_below e never n b (omega arith) here;
    }))

none_from : (o : Option ℕ) → ((k : ℕ) → o ≡ Some k → ⊥) → o ≡ None
none_from None never = refl
none_from (Some k) never = absurd (never k refl)

at_most : (n limit : ℕ) → (limit < n → ⊥) → n ≤ limit
at_most n limit never = elim (cases_lt limit n) [ inl many ↦ absurd (never many) | inr few ↦ few ]

-- where no rule fits the executable is acceptable
pub acceptable_by : (e : Elf) → ((r : ProgramRule) → Fits e r → ⊥) → IsAcceptable e
acceptable_by e never =
    let shared : lines_of_all is_writable e.segments ≤ line_limit = at_most _ line_limit (never (TooMuch Shared)) in
    record {
      low = none_from _ (λ k f. never (TooHigh k) f);
      apart = apart_by e.segments (none_overlap e.segments (λ i j f. never (Overlap i j) f));
      unwritten = none_from _ (λ k f. never (WritableCode k) f);
      few_shared = shared;
      few_read_only = at_most _ line_limit (λ many. never (TooMuch ReadOnly) (shared, many));
      entry = true_from_ne_false (is_code_word e e.entry) (λ out. never (EntryNotCode e.entry) (refl, out));
      supported = record { supported = λ a word. supported_below e (λ b w f. never (Unsupported b w) f) (a + 1) a (omega arith) word };
      whole = none_from _ (λ k f. never (CodeAlign k) f);
      few_segments = at_most _ 999 (λ many. never (TooManySegments (length e.segments)) (refl, many));
    }

nothing : (o : Option ℕ) (k : ℕ) → o ≡ None → o ≡ Some k → ⊥
nothing o k none some = cc

-- and no rule fits an acceptable executable
pub no_rule : (e : Elf) → IsAcceptable e → (r : ProgramRule) → Fits e r → ⊥
no_rule e h (TooHigh k) f = nothing _ k h.low f
no_rule e h (Overlap i j) f = overlap_never e.segments h.apart i j f.overlap
no_rule e h (WritableCode k) f = nothing _ k h.unwritten f
no_rule e h NoCode f = false≢true (sym (f e.entry) ∙ h.entry)
no_rule e h (TooMuch Shared) f = let few = h.few_shared in omega (arith, few, f)
no_rule e h (TooMuch ReadOnly) f = let few = h.few_read_only in let many = f.1 in omega (arith, few, many)
no_rule e h (TooMuch Private) f = f
no_rule e h (TooMuch Unmapped) f = f
no_rule e h (EntryNotCode a) f = false≢true (sym f.1 ∙ ap (is_code_word e) f.0 ∙ h.entry)
no_rule e h (Unsupported a w) f = false≢true (sym f.unsupported ∙ ap is_supported_word f.reads ∙ h.supported.supported a f.code_word)
no_rule e h (CodeAlign k) f = nothing _ k h.whole f
no_rule e h (TooManySegments n) f = let is : n ≡ length e.segments = f.0 in let many : 999 < n = f.1 in let few = h.few_segments in omega (arith, is, many, few)

pub acceptable : (e : Elf) → NoRuleBelow e 22 → length e.segments ≤ 999 → IsAcceptable e
acceptable e below few =
    acceptable_by e (λ r f.
    let late = step e 22 below (only_22 e (λ n g. let is : n ≡ length e.segments = g.0 in let many : 999 < n = g.1 in absurd (omega arith))) r f in
    no_23 r late)

-- sections are judged by the sorted segments as by all
not_within : (s : Section) (t : Segment) → 0 < s.size → is_placed t ≡ true → has_memory t ≡ false → is_within s t ≡ false
not_within s t some placed none =
    let fits : length t.bytes ≤ t.memsz = leb-true _ _ (and_parts _ _ placed).0 in
    let empty : t.memsz ≡ 0 = grind (arith, nat_tests) in
    let out : (nat_le t.vaddr s.addr && nat_le (s.addr + s.size) (t.vaddr + length t.bytes)) ≡ false = grind (arith, nat_tests) in
    and_right (is_executable t) _ out

within_memory : (s : Section) (xs : List Segment) → 0 < s.size → are_placed xs ≡ true → list_any (is_within s) (filter has_memory xs) ≡ list_any (is_within s) xs
within_memory s [] some placed = refl
within_memory s (x ∷ xs) some placed =
    let rest = within_memory s xs some (and_parts _ _ placed).1 in
    elim (cases_Bool (has_memory x)) [
      | inl here ↦
          let keeps : filter has_memory (x ∷ xs) ≡ x ∷ filter has_memory xs = cond-true _ _ _ here in
          ap (list_any (is_within s)) keeps ∙ ap (λ b. is_within s x || b) rest
      | inr out ↦
          let drops : filter has_memory (x ∷ xs) ≡ filter has_memory xs = cond-false _ _ _ out in
          let none : is_within s x ≡ false = not_within s x some (and_parts _ _ placed).0 out in
          ap (list_any (is_within s)) drops ∙ rest ∙ ap (λ b. b || list_any (is_within s) xs) (sym none)
    ]

pub broken_same : (e : Elf) (xs : List Segment) → are_placed e.segments ≡ true → IsPermutation (filter has_memory e.segments) xs → is_broken_code xs ≡ is_broken_code e.segments
broken_same e xs placed same = fun_ext (λ s. one s)
  where
    one : (s : Section) → is_broken_code xs s ≡ is_broken_code e.segments s
    one s =
        elim (cases_lt 0 s.size) [
          | inl some ↦
              let any : list_any (is_within s) xs ≡ list_any (is_within s) e.segments = sym (list_any-IsPermutation (is_within s) (filter has_memory e.segments) xs same) ∙ within_memory s e.segments some placed in
              ap (λ b. is_code_section s && (nat_lt 0 s.size && not ((s.addr % 4 == 0) && ((s.size % 4 == 0) && b)))) any
          | inr none ↦
              let out : nat_lt 0 s.size ≡ false = le-ltb _ _ none in
              ap (λ b. is_code_section s && (b && not (is_whole_code xs s))) out ∙ sym (ap (λ b. is_code_section s && (b && not (is_whole_code e.segments s))) out)
        ]
