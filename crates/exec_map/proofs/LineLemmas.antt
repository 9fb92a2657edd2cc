-- The bytes of the lines of some classes at the start.
use Rattle.std.proofs.Common.{◌≡◌, ℕ, zero, suc, ◌+◌, ◌-◌, ◌*◌, ◌/◌, ◌%◌, ◌<◌, ◌≤◌, ◌⊎◌, Bool, true, false, List, [], ◌∷◌, ◌++◌, length, map, take, get_or, Option, Some, None, Result, Ok, Err, IfOk, refl, sym, ap, ◌∙◌, arith, inl, inr}
use Rattle.std.specs.Prelude.{is_some, slice_index, All, AllPairs}
use Rattle.std.specs.List.{list_any}
use Rattle.std.specs.Option.{option_map}
use Rattle.std.proofs.Math.Path.{fun_ext}
use Rattle.std.proofs.lemmas.Bool.{cases_Bool, cases_lt}
use Rattle.std.proofs.lemmas.Bool.Decides.{nat_tests}
use Rattle.std.proofs.lemmas.List.{length-append, get_or_append_left, get_or-append_right}
use Rattle.elf32_read.specs.Elf.{Elf}
use Rattle.exec_map.specs.Contents.{program_of, class_of_line, first_byte, first_bytes, AreRangesOf}
use Rattle.exec_map.specs.Ranges.{line_range}
use Rattle.block_layout.specs.Layout.{AreRanges, is_in, is_among}
use Rattle.block_layout.specs.declared.ranges.Lines.{Lines}
use Rattle.byte_range.specs.Lines.{LineBytes, lines_memory, place_of, line_count, has_line, byte_of_place, Ascend}
use Rattle.byte_range.specs.declared.lines.LineRange.{LineRange}
use Rattle.rv32_program.specs.declared.Class.{Class}
use Rattle.rv32_program.specs.declared.Class.TheVariants.{Unmapped}
use Rattle.rv32_program.specs.Program.{IsAccepted}

-- the first bytes of the lines of ranges
abbrev pub bytes_of : Elf → List Lines → List ℕ
bytes_of e [] = []
bytes_of e (r ∷ rs) = first_bytes e (64 * r.first) (64 * r.lines) ++ bytes_of e rs

-- what the law says of the first bytes
pub record AreFirst (e : Elf) : Type 0 where
  pub len : (a n : ℕ) → length (first_bytes e a n) ≡ n
  pub each : (a n k : ℕ) → k < n → slice_index (first_bytes e a n) k ≡ first_byte e (a + k)

pub bytes_push : (e : Elf) (rs : List Lines) (r : Lines) → bytes_of e (rs ++ r ∷ []) ≡ bytes_of e rs ++ first_bytes e (64 * r.first) (64 * r.lines)
bytes_push e [] r = append_nil (first_bytes e (64 * r.first) (64 * r.lines))
  where
    append_nil : (xs : List ℕ) → xs ++ [] ≡ xs
    append_nil [] = refl
    append_nil (x ∷ xs) = ap (λ (ys : List ℕ). x ∷ ys) (append_nil xs)
bytes_push e (q ∷ rs) r =
    ap (λ (ys : List ℕ). first_bytes e (64 * q.first) (64 * q.lines) ++ ys) (bytes_push e rs r)
    ∙ sym (assoc (first_bytes e (64 * q.first) (64 * q.lines)) (bytes_of e rs) (first_bytes e (64 * r.first) (64 * r.lines)))
  where
    assoc : (xs ys zs : List ℕ) → (xs ++ ys) ++ zs ≡ xs ++ (ys ++ zs)
    assoc [] ys zs = refl
    assoc (x ∷ xs) ys zs = ap (λ (ws : List ℕ). x ∷ ws) (assoc xs ys zs)

pub ranges_push : (rs : List Lines) (r : Lines) → map line_range (rs ++ r ∷ []) ≡ map line_range rs ++ line_range r ∷ []
ranges_push [] r = refl
ranges_push (q ∷ rs) r = ap (λ (ys : List LineRange). line_range q ∷ ys) (ranges_push rs r)

pub take_whole : (rs : List Lines) (i : ℕ) → length rs ≤ i → take i rs ≡ rs
take_whole [] zero within = refl
take_whole [] (suc i) within = refl
take_whole (r ∷ rs) zero within = absurd (omega arith)
take_whole (r ∷ rs) (suc i) within = ap (λ (qs : List Lines). r ∷ qs) (take_whole rs i (omega arith))

pub bytes_len : (e : Elf) → AreFirst e → (rs : List Lines) → length (bytes_of e rs) ≡ 64 * line_count (map line_range rs)
bytes_len e are [] = refl
bytes_len e are (r ∷ rs) =
    let all = bytes_len e are rs in
    let len = are.len (64 * r.first) (64 * r.lines) in
    let both = length-append (first_bytes e (64 * r.first) (64 * r.lines)) (bytes_of e rs) in
    omega (arith, all, len, both)

line_tells : (r : LineRange) (line : ℕ) → has_line r line ≡ true → (r.first ≤ line) × (line < r.first + r.count)
line_tells r line is = (grind (arith, nat_tests), grind (arith, nat_tests))

some_map : (f : ℕ → ℕ) (o : Option ℕ) (k : ℕ) → option_map f o ≡ Some k → (j : ℕ) × (o ≡ Some j) × (k ≡ f j)
some_map f None k is = absurd (cc)
some_map f (Some j) k is = (j, refl, (cc))

-- the byte of a place
byte_at : (e : Elf) → AreFirst e → (rs : List Lines) (a k : ℕ) → place_of (map line_range rs) (a / 64) ≡ Some k → slice_index (bytes_of e rs) (64 * k + a % 64) ≡ first_byte e a
byte_at e are [] a k is = absurd (cc)
byte_at e are (r ∷ rs) a k is =
    let xs = first_bytes e (64 * r.first) (64 * r.lines) in
    let len : length xs ≡ 64 * r.lines = are.len (64 * r.first) (64 * r.lines) in
    elim (cases_Bool (has_line (line_range r) (a / 64))) [
      | inl e1 ↦
          let tells = line_tells (line_range r) (a / 64) e1 in
          let low = tells.0 in
          let high = tells.1 in
          let here : Some (a / 64 - r.first) ≡ Some k = rw e1 at is in
          let place : a / 64 - r.first ≡ k = cc in
          let i = 64 * k + a % 64 in
          let within : i < 64 * r.lines = omega (arith, place, low, high) in
          let at : 64 * r.first + i ≡ a = omega (arith, place, low) in
          get_or_append_left xs (bytes_of e rs) 0 i (omega (arith, within, len)) ∙ are.each (64 * r.first) (64 * r.lines) i within ∙ ap (first_byte e) at
      | inr e1 ↦
          let there : option_map (λ j. r.lines + j) (place_of (map line_range rs) (a / 64)) ≡ Some k = rw e1 at is in
          let m = some_map (λ j. r.lines + j) (place_of (map line_range rs) (a / 64)) k there in
          let j = m.0 in
          let count : k ≡ r.lines + j = m.2 in
          let past : 64 * k + a % 64 - 64 * r.lines ≡ 64 * j + a % 64 = omega (arith, count) in
          get_or-append_right xs (bytes_of e rs) (64 * r.lines) (64 * k + a % 64) 0 len (omega (arith, count)) ∙ ap (λ i. get_or (bytes_of e rs) i 0) past ∙ byte_at e are rs a j m.1
    ]

byte_by_place : (e : Elf) → AreFirst e → (rs : List Lines) (a : ℕ) (o : Option ℕ) → place_of (map line_range rs) (a / 64) ≡ o → byte_of_place (bytes_of e rs) (first_byte e) a o ≡ first_byte e a
byte_by_place e are rs a None is = refl
byte_by_place e are rs a (Some k) is = byte_at e are rs a k is

pub first_memory : (e : Elf) → AreFirst e → (rs : List Lines) (m : LineBytes) → m.ranges ≡ map line_range rs → m.bytes ≡ bytes_of e rs → lines_memory m (first_byte e) ≡ first_byte e
unfolding lines_memory
first_memory e are rs m ranges bytes = fun_ext (λ a.
    ap (λ (bs : List ℕ). byte_of_place bs (first_byte e) a (place_of m.ranges (a / 64))) bytes
    ∙ ap (λ (qs : List LineRange). byte_of_place (bytes_of e rs) (first_byte e) a (place_of qs (a / 64))) ranges
    ∙ byte_by_place e are rs a (place_of (map line_range rs) (a / 64)) refl)

is_some_map : (f : ℕ → ℕ) (o : Option ℕ) → is_some (option_map f o) ≡ is_some o
is_some_map f None = refl
is_some_map f (Some k) = refl

found : (rs : List Lines) (line : ℕ) → is_some (place_of (map line_range rs) line) ≡ is_in rs line
found [] line = refl
found (r ∷ rs) line = elim (cases_Bool (is_among line r)) [
  | inl e ↦ rw e refl
  | inr e ↦ rw e (is_some_map (λ k. r.lines + k) (place_of (map line_range rs) line) ∙ found rs line)
]

pub lines_of : (classes : Class → Bool) (e : Elf) (rs : List Lines) (m : LineBytes) → AreRangesOf classes e rs → m.ranges ≡ map line_range rs → (line : ℕ) → is_some (place_of m.ranges line) ≡ classes (class_of_line e line)
lines_of classes e rs m are ranges line =
    ap (λ (qs : List LineRange). is_some (place_of qs line)) ranges ∙ found rs line ∙ are.lines line

not_unmapped : (classes : Class → Bool) (c : Class) → classes Unmapped ≡ false → c ≡ Unmapped → classes c ≡ true → ⊥
not_unmapped classes c off is on = let same : classes c ≡ classes Unmapped = ap classes is in absurd (cc)

-- every line of the ranges is in the lower half
abbrev pub AreLow : List Lines → Type 0
AreLow rs = All (λ r. r.first + r.lines ≤ 33554432) rs

any_from : (p : Lines → Bool) (rs : List Lines) (k : ℕ) (d : Lines) → k < length rs → p (get_or rs k d) ≡ true → list_any p rs ≡ true
any_from p [] k d lt is = absurd (omega (arith, lt))
any_from p (r ∷ rs) zero d lt is = rw is refl
any_from p (r ∷ rs) (suc k) d lt is = elim (cases_Bool (p r)) [
  | inl e ↦ rw e refl
  | inr e ↦ rw e (any_from p rs k d (omega (arith, lt)) is)
]

is_last : (r : Lines) → 0 < r.lines → is_among (r.first + r.lines - 1) r ≡ true
is_last r some = grind (arith, nat_tests)

are_low : (classes : Class → Bool) (e : Elf) (rs : List Lines) → classes Unmapped ≡ false → IsAccepted (program_of e) → AreRanges rs → AreRangesOf classes e rs → AreLow rs
are_low classes e rs off accepted are ranges k d lt =
    let r = get_or rs k d in
    let some = are.some k d lt in
    let line = r.first + r.lines - 1 in
    let there : is_in rs line ≡ true = any_from (is_among line) rs k d lt (is_last r some) in
    elim (cases_below line) [
      | inl low ↦ omega (arith, low, some)
      | inr high ↦ absurd (not_unmapped classes (class_of_line e line) off (accepted.upper line high) (sym (ranges.lines line) ∙ there))
    ]
  where
    cases_below : (n : ℕ) → (n < 33554432) ⊎ (33554432 ≤ n)
    cases_below n = cases_lt n 33554432

ascend_from : (low : ℕ) (rs : List Lines) → ((k : ℕ) (d : Lines) → k < length rs → low ≤ (get_or rs k d).first) → AreLow rs → AllPairs (λ r q. r.first + r.lines ≤ q.first) rs → low ≤ 33554432 → Ascend low (map line_range rs)
ascend_from low [] from lows pairs is = is
ascend_from low (r ∷ rs) from lows pairs is = (
  from zero r (omega arith),
  ascend_from (r.first + r.lines) rs (λ k d lt. pairs zero (suc k) d (omega arith) (omega (arith, lt))) (λ k d lt. lows (suc k) d (omega (arith, lt)))
      (λ i j d lt within. pairs (suc i) (suc j) d (omega (arith, lt)) (omega (arith, within))) (lows zero r (omega arith)),
)

pub ascend : (classes : Class → Bool) (e : Elf) (rs : List Lines) → classes Unmapped ≡ false → IsAccepted (program_of e) → AreRanges rs → AreRangesOf classes e rs → Ascend 0 (map line_range rs)
ascend classes e rs off accepted are ranges =
    ascend_from 0 rs (λ k d lt. omega arith) (are_low classes e rs off accepted are ranges) are.ascending (omega arith)

-- two facts of a result give a third
pub if_ok_both : {A E : Type 0} (result : Result A E) (P Q R : A → Type 0) → ((x : A) → P x → Q x → R x) → IfOk result P → IfOk result Q → IfOk result R
if_ok_both (Ok x) P Q R give p q = give x p q
if_ok_both (Err e) P Q R give p q = tt
