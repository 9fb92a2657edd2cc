-- What words see of their node at the start.
use Rattle.std.proofs.Common.{◌≡◌, ◌≢◌, ℕ, zero, suc, ◌+◌, ◌-◌, ◌*◌, ◌/◌, ◌%◌, ◌<◌, ◌≤◌, ◌^◌, Bool, true, false, cond, eqb, ltb, List, [], ◌∷◌, ◌++◌, length, map, take, replicate, get_or, refl, sym, ap, ◌∙◌, subst, inl, inr, Option, Some, None, arith}
use Rattle.std.specs.Prelude.{is_some}
use Rattle.std.specs.List.{list_any}
use Rattle.std.specs.Option.{option_map_or}
use Rattle.std.proofs.Math.Path.{fun_ext}
use Rattle.std.proofs.lemmas.List.{length-append, get_or_append_left, get_or-append_right}
use Rattle.std.proofs.lemmas.Bool.{cases_Bool, cases_lt}
use Rattle.std.proofs.lemmas.Bool.Decides.{eqb_tells, nat_tests}
use Rattle.elf32_read.specs.Elf.{Elf}
use Rattle.block_layout.specs.Update.{changed}
use Rattle.block_layout.specs.Layout.{Shape, IsValid, AreRanges, blocks, home, lines, first_line, block_of, is_in, is_among, is_shared as is_shared_line}
use Rattle.block_layout.specs.declared.ranges.Lines.{Lines}
use Rattle.node_words.specs.exec_map.Contents.{program_of, class_of_line, first_byte, first_bytes, is_private, is_read_only, is_shared, AreRangesOf}
use Rattle.rv32_program.specs.declared.Class.{Class}
use Rattle.rv32_program.specs.declared.Class.TheVariants as class
use Rattle.rv32_program.specs.Program.{IsAccepted}
use Rattle.state_table.specs.declared.classes.LineClass.{LineClass}
use Rattle.state_table.specs.LineClasses.{class_byte, AreClasses}
use Rattle.state_table.specs.StateByte.{byte_of}
use Rattle.state_table.specs.States.{States, state_of, line_byte}
use Rattle.node_words.specs.flag_memory.Copy.{Copy, bytes_of, CopyLaws}
use Rattle.node_words.specs.flag_memory.Flag.{flag_byte, flags}
use Rattle.node_words.specs.home_directory.Home.{first_entry}
use Rattle.node_words.specs.home_directory.Effects.{Directory, entry_at, members}
use Rattle.node_machine.specs.NodeState.{entries_in}
use Rattle.node_words.specs.node_model.Node.{IsLaidOver, first_state, is_at_home}
use Rattle.node_words.specs.node_memory.Shelf.{copy_of, HasSharedLines}
use Rattle.node_machine.specs.Opening.{AreFixedClasses, read_only_class, window_class, classes_of, block_bytes, opening_state, opening_bytes}
use Rattle.node_machine.proofs.BlockLemmas.{LineLaws, is_out, byte_in, byte_out, byte_at_block, flag_out}
use Rattle.node_words.proofs.node_memory.MemoryLemmas.{private_line, not_window}

-- 1. The classes of the lines that aren't shared

abbrev pub no_lines : Lines
no_lines = record { first = 0; lines = 0 }

pub classes_push : (rs : List Lines) (r : Lines) → map read_only_class (rs ++ r ∷ []) ≡ map read_only_class rs ++ read_only_class r ∷ []
classes_push [] r = refl
classes_push (q ∷ rs) r = ap (λ (ys : List LineClass). read_only_class q ∷ ys) (classes_push rs r)

classes_len : (rs : List Lines) → length (classes_of rs) ≡ length rs + 1
classes_len [] = refl
classes_len (r ∷ rs) = let e = classes_len rs in omega (arith, e)

class_left : (rs : List Lines) (k : ℕ) (d : LineClass) → k < length rs → get_or (classes_of rs) k d ≡ read_only_class (get_or rs k no_lines)
class_left [] k d low = absurd (omega (arith, low))
class_left (r ∷ rs) zero d low = refl
class_left (r ∷ rs) (suc k) d low = class_left rs k d (omega (arith, low))

class_last : (rs : List Lines) (k : ℕ) (d : LineClass) → k ≡ length rs → get_or (classes_of rs) k d ≡ window_class
class_last [] zero d is = refl
class_last [] (suc k) d is = absurd (omega (arith, is))
class_last (r ∷ rs) zero d is = absurd (omega (arith, is))
class_last (r ∷ rs) (suc k) d is = class_last rs k d (omega (arith, is))

any_from : (p : Lines → Bool) (rs : List Lines) (k : ℕ) (d : Lines) → k < length rs → p (get_or rs k d) ≡ true → list_any p rs ≡ true
any_from p [] k d lt is = absurd (omega (arith, lt))
any_from p (r ∷ rs) zero d lt is = rw is refl
any_from p (r ∷ rs) (suc k) d lt is = elim (cases_Bool (p r)) [
  | inl e ↦ rw e refl
  | inr e ↦ rw e (any_from p rs k d (omega (arith, lt)) is)
]

is_last : (r : Lines) → 0 < r.lines → is_among (r.first + r.lines - 1) r ≡ true
is_last r some = grind (arith, nat_tests)

read_only_tells : (k : Class) → is_read_only k ≡ true → k ≡ class.ReadOnly
read_only_tells class.Shared e = cc
read_only_tells class.ReadOnly e = refl
read_only_tells class.Private e = cc
read_only_tells class.Unmapped e = cc

-- a read-only line is below the window
below_window : (e : Elf) (line : ℕ) → IsAccepted (program_of e) → is_read_only (class_of_line e line) ≡ true → line < 0x1fffc00
below_window e line accepted is =
    let ro = read_only_tells (class_of_line e line) is in
    elim (cases_lt line 0x2000000) [
      | inl low ↦ elim (cases_lt line 0x1fffc00) [
        | inl l ↦ l
        | inr h ↦
            (let t : is_private line ≡ true = grind (arith, nat_tests) in
            let p = private_line e line t in
            absurd (apart (sym p ∙ ro)))
      ]
      | inr high ↦ absurd (unmapped (sym (accepted.upper line high) ∙ ro))
    ]
  where
    apart : class.Private ≡ class.ReadOnly → ⊥
    apart e = cc

    unmapped : class.Unmapped ≡ class.ReadOnly → ⊥
    unmapped e = cc

range_low : (e : Elf) (rs : List Lines) → IsAccepted (program_of e) → AreRanges rs → AreRangesOf is_read_only e rs
    → (k : ℕ) → k < length rs → (get_or rs k no_lines).first + (get_or rs k no_lines).lines ≤ 0x1fffc00
range_low e rs accepted are ranges k lt =
    let r = get_or rs k no_lines in
    let some = are.some k no_lines lt in
    let line = r.first + r.lines - 1 in
    let there : is_in rs line ≡ true = any_from (is_among line) rs k no_lines lt (is_last r some) in
    let low = below_window e line accepted (sym (ranges.lines line) ∙ there) in
    omega (arith, low, some)

pub are_classes : (e : Elf) (rs : List Lines) → IsAccepted (program_of e) → AreRanges rs → AreRangesOf is_read_only e rs
    → AreClasses (classes_of rs)
are_classes e rs accepted are ranges = record {
  low = λ k d lt. elim (cases_lt k (length rs)) [
    | inl l ↦
        (let at = class_left rs k d l in
        let low = range_low e rs accepted are ranges k l in
        subst (λ (c : LineClass). c.first + c.lines ≤ 67108864) (sym at) (omega (arith, low)))
    | inr h ↦
        (let len = classes_len rs in
        let at = class_last rs k d (omega (arith, len, lt, h)) in
        subst (λ (c : LineClass). c.first + c.lines ≤ 67108864) (sym at) (omega arith))
  ];
  ascending = λ i j d before lt. elim (cases_lt j (length rs)) [
    | inl l ↦
        (let il : i < length rs = omega (arith, before, l) in
        let at_i = class_left rs i d il in
        let at_j = class_left rs j d l in
        subst (λ (c : LineClass). c.first + c.lines ≤ (get_or (classes_of rs) j d).first) (sym at_i)
        (subst (λ (c : LineClass). (get_or rs i no_lines).first + (get_or rs i no_lines).lines ≤ c.first) (sym at_j)
        (are.ascending i j no_lines before l)))
    | inr h ↦
        (let len = classes_len rs in
        let il : i < length rs = omega (arith, before, len, lt, h) in
        let at_i = class_left rs i d il in
        let at_j = class_last rs j d (omega (arith, len, lt, h)) in
        let low = range_low e rs accepted are ranges i il in
        subst (λ (c : LineClass). c.first + c.lines ≤ (get_or (classes_of rs) j d).first) (sym at_i)
        (subst (λ (c : LineClass). (get_or rs i no_lines).first + (get_or rs i no_lines).lines ≤ c.first) (sym at_j) low))
  ];
}

-- the byte of a line, by a search
byte_by : (rs : List Lines) (line : ℕ) → class_byte (classes_of rs) line ≡ cond (list_any (is_among line) rs) 5 (cond (is_private line) 0 7)
byte_by [] line = refl
byte_by (r ∷ rs) line = elim (cases_Bool (is_among line r)) [
  | inl e ↦ rw e refl
  | inr e ↦ rw e (byte_by rs line)
]

abbrev window_byte : Bool → ℕ
window_byte inside = cond inside 0 7

-- by the class
fixed_by : (e : Elf) (line : ℕ) (t : Bool) (k : Class) → class_of_line e line ≡ k → t ≡ is_read_only k → is_shared k ≡ false
    → cond t 5 (cond (is_private line) 0 7) ≡ first_state k false
fixed_by e line t class.Shared is ro out = cc
fixed_by e line t class.ReadOnly is ro out = rw ro refl
fixed_by e line t class.Private is ro out = rw ro (go (is_private line) refl)
  where
    go : (b : Bool) → is_private line ≡ b → window_byte b ≡ 0
    go true p = refl
    go false p = absurd (not_window e line p is)
fixed_by e line t class.Unmapped is ro out = rw ro (go (is_private line) refl)
  where
    private_unmapped : class.Private ≡ class.Unmapped → ⊥
    private_unmapped e = cc

    go : (b : Bool) → is_private line ≡ b → window_byte b ≡ 7
    go true p = absurd (private_unmapped (sym (private_line e line p) ∙ is))
    go false p = refl

pub are_fixed : (e : Elf) (rs : List Lines) → AreRangesOf is_read_only e rs → AreFixedClasses e (classes_of rs)
are_fixed e rs ranges = record {
  bytes = λ line out. byte_by rs line
      ∙ fixed_by e line (list_any (is_among line) rs) (class_of_line e line) refl (ranges.lines line) out;
}

-- 2. The blocks

len_flags : (n : ℕ) → length (flags n) ≡ n
len_flags zero = refl
len_flags (suc n) = length-append (flags n) (flag_byte n ∷ []) ∙ (let e = len_flags n in omega (arith, e))

get_flags : (n k : ℕ) → k < n → get_or (flags n) k 0 ≡ flag_byte k
get_flags zero k low = absurd (omega (arith, low))
get_flags (suc n) k low = elim (cases_lt k n) [
  | inl l ↦ get_or_append_left (flags n) (flag_byte n ∷ []) 0 k (let len = len_flags n in omega (arith, len, l)) ∙ get_flags n k l
  | inr h ↦
      (let same : k ≡ n = omega (arith, low, h) in
      let zero_on : k - n ≡ 0 = omega (arith, same) in
      get_or-append_right (flags n) (flag_byte n ∷ []) n k 0 (len_flags n) (omega (arith, same))
      ∙ ap (λ i. get_or (flag_byte n ∷ []) i 0) zero_on ∙ ap flag_byte (sym same))
]

flag_at : (f k a : ℕ) → 64 * f + k ≡ a → flag_byte k ≡ flag_byte a
flag_at f k a is =
    let same : k % 4 ≡ a % 4 = omega (arith, is) in
    ap (λ x. cond (eqb x 0) 3 255) same

module _ (laws : LineLaws) (l : Shape) (valid : IsValid l) (e : Elf) (me : ℕ) where
  home_byte : (line b : ℕ) (t : Bool) → eqb (home l b) me ≡ t → byte_of (opening_state l me b) ≡ first_state class.Shared t
  home_byte line b true h = rw h refl
  home_byte line b false h = rw h refl

  pub first_states : (s : States) → s.layout ≡ l → HasSharedLines e l → AreFixedClasses e s.program
      → ((b : ℕ) → b < blocks l → state_of s b ≡ opening_state l me b)
      → (line : ℕ) → line_byte s line ≡ first_state (class_of_line e line) (is_at_home l me line)
  first_states s ls laid fixed states line = go (block_of l line) refl
    where
      shared_tells : (k : Class) → is_shared k ≡ true → k ≡ class.Shared
      shared_tells class.Shared e = refl
      shared_tells class.ReadOnly e = cc
      shared_tells class.Private e = cc
      shared_tells class.Unmapped e = cc

      away : (k : Class) (o : Option ℕ) → o ≡ None → first_state k false ≡ first_state k (option_map_or (λ b. eqb (home l b) me) o false)
      away k o is = ap (λ (x : Option ℕ). first_state k (option_map_or (λ b. eqb (home l b) me) x false)) (sym is)

      go : (o : Option ℕ) → block_of l line ≡ o → line_byte s line ≡ first_state (class_of_line e line) (is_at_home l me line)
      go None is =
          let out = is_out laws l valid line is in
          byte_out laws l valid s line ls is ∙ fixed.bytes line (sym (laid line) ∙ out)
          ∙ away (class_of_line e line) (block_of l line) is
      go (Some b) is =
          let f = laws.found l b line valid is in
          let shared : is_shared_line l line ≡ true = (laws.shared l line).1 (ap is_some is) in
          let k = shared_tells (class_of_line e line) (sym (laid line) ∙ shared) in
          byte_in laws l valid s line b ls is ∙ ap byte_of (states b f.0)
          ∙ home_byte line b (eqb (home l b) me) refl
          ∙ (λ t. first_state (sym k t) (option_map_or (λ c. eqb (home l c) me) (sym is t) false))

  pub first_copy : (c : Copy) → c.layout ≡ l → CopyLaws c
      → ((a n k : ℕ) → k < n → get_or (first_bytes e a n) k 0 ≡ first_byte e (a + k))
      → ((b : ℕ) → b < blocks l → bytes_of c b ≡ opening_bytes e l me b)
      → (a : ℕ) → copy_of c a ≡ cond (is_at_home l me (a / 64)) (first_byte e a) (flag_byte a)
  first_copy c lc copy each bytes a = go (block_of l (a / 64)) refl
    where
      at_home : (b : ℕ) (t : Bool) → eqb (home l b) me ≡ t → first_line l b ≤ a / 64 → a / 64 < first_line l b + lines l b
          → get_or (opening_bytes e l me b) (a - 64 * first_line l b) 0 ≡ cond t (first_byte e a) (flag_byte a)
      at_home b true h low high =
          let k = a - 64 * first_line l b in
          let bk : k < 64 * lines l b = omega (arith, low, high) in
          let on : 64 * first_line l b + k ≡ a = omega (arith, low) in
          let here : opening_bytes e l me b ≡ block_bytes e l b = rw h refl in
          ap (λ (xs : List ℕ). get_or xs k 0) here ∙ each (64 * first_line l b) (64 * lines l b) k bk ∙ ap (first_byte e) on
      at_home b false h low high =
          let k = a - 64 * first_line l b in
          let bk : k < 64 * lines l b = omega (arith, low, high) in
          let on : 64 * first_line l b + k ≡ a = omega (arith, low) in
          let here : opening_bytes e l me b ≡ flags (64 * lines l b) = rw h refl in
          ap (λ (xs : List ℕ). get_or xs k 0) here ∙ get_flags (64 * lines l b) k bk ∙ flag_at (first_line l b) k a on

      go : (o : Option ℕ) → block_of l (a / 64) ≡ o → copy_of c a ≡ cond (is_at_home l me (a / 64)) (first_byte e a) (flag_byte a)
      go None is = flag_out laws l valid c a lc is
          ∙ ap (λ (x : Option ℕ). cond (option_map_or (λ b. eqb (home l b) me) x false) (first_byte e a) (flag_byte a)) (sym is)
      go (Some b) is =
          let f = laws.found l b (a / 64) valid is in
          let ends = (laws.ends l b (a / 64)).0 f.1 in
          byte_at_block laws l valid c a b lc copy is
          ∙ ap (λ (xs : List ℕ). get_or xs (a - 64 * first_line l b) 0) (bytes b f.0)
          ∙ at_home b (eqb (home l b) me) refl ends.0 ends.1
          ∙ ap (λ (x : Option ℕ). cond (option_map_or (λ b. eqb (home l b) me) x false) (first_byte e a) (flag_byte a)) (sym is)

-- one block more

pub opened : {A : Type 0} (old new : ℕ → A) (k : ℕ) (f : ℕ → A) → new ≡ changed old k (f k)
    → ((b : ℕ) → b < k → old b ≡ f b) → (b : ℕ) → b < k + 1 → new b ≡ f b
opened old new k f is done b low = ap (λ g. g b) is ∙ elim (eqb_tells b k) [
  | inl e ↦ (let z : changed old k (f k) b ≡ f k = rw e.0 refl in z ∙ ap f (sym e.1))
  | inr e ↦ (let z : changed old k (f k) b ≡ old b = rw e.0 refl in z ∙ done b (lt_of b k low e.1))
]
  where
    lt_of : (x y : ℕ) → x < y + 1 → x ≢ y → x < y
    lt_of x y a b = grind (arith, nat_tests)

pub unopened : {A : Type 0} (old new : ℕ → A) (k n : ℕ) (x d : A) → new ≡ changed old k x
    → ((b : ℕ) → k ≤ b → b < n → old b ≡ d) → (b : ℕ) → k + 1 ≤ b → b < n → new b ≡ d
unopened old new k n x d is rest b low high = ap (λ g. g b) is ∙ elim (eqb_tells b k) [
  | inl e ↦ absurd (let q = e.1 in omega (arith, low, q))
  | inr e ↦ (let z : changed old k x b ≡ old b = rw e.0 refl in z ∙ rest b (omega (arith, low)) high)
]

pub take_whole : (rs : List Lines) (i : ℕ) → length rs ≤ i → take i rs ≡ rs
take_whole [] zero within = refl
take_whole [] (suc i) within = refl
take_whole (r ∷ rs) zero within = absurd (omega arith)
take_whole (r ∷ rs) (suc i) within = ap (λ (qs : List Lines). r ∷ qs) (take_whole rs i (omega arith))

pub shared_lines : (e : Elf) (l : Shape) → IsLaidOver (program_of e) l → HasSharedLines e l
shared_lines e l laid line = go (class_of_line e line) (is_shared_line l line) refl refl
  where
    go : (k : Class) (t : Bool) → class_of_line e line ≡ k → is_shared_line l line ≡ t
        → t ≡ is_shared k
    go class.Shared true ek et = refl
    go class.Shared false ek et = sym et ∙ (laid line).0 ek
    go class.ReadOnly true ek et = (let bad = sym ek ∙ (laid line).1 et in cc)
    go class.ReadOnly false ek et = refl
    go class.Private true ek et = (let bad = sym ek ∙ (laid line).1 et in cc)
    go class.Private false ek et = refl
    go class.Unmapped true ek et = (let bad = sym ek ∙ (laid line).1 et in cc)
    go class.Unmapped false ek et = refl

pub others_fixed : (e : Elf) (l : Shape) (classes : List LineClass) → HasSharedLines e l → AreFixedClasses e classes
    → (line : ℕ) → is_shared_line l line ≡ false → class_byte classes line ≡ first_state (class_of_line e line) false
others_fixed e l classes laid fixed line out = fixed.bytes line (sym (laid line) ∙ out)

pub shared_low : (e : Elf) (l : Shape) → HasSharedLines e l → IsAccepted (program_of e)
    → (line : ℕ) → is_shared_line l line ≡ true → line < 2 ^ 25
shared_low e l laid accepted line on = elim (cases_lt line (2 ^ 25)) [
  | inl low ↦ low
  | inr high ↦ absurd (false_true (ap is_shared (sym (accepted.upper line high)) ∙ sym (laid line) ∙ on))
]
  where
    false_true : false ≡ true → ⊥
    false_true e = cc

pub opening_entries : (d : Directory) (l : Shape) (me : ℕ) → d.layout ≡ l → d.me ≡ me
    → ((b : ℕ) → b < blocks l → entry_at d.entries b ≡ first_entry me)
    → entries_in d.layout d.me (entry_at d.entries) ≡ (λ b. first_entry me)
opening_entries d l me layout is entries =
    (λ t. entries_in (layout t) (is t) (entry_at d.entries))
    ∙ fun_ext (λ b. go b (ltb b (blocks l)) refl)
  where
    go : (b : ℕ) (t : Bool) → ltb b (blocks l) ≡ t → cond t (entry_at d.entries b) (first_entry me) ≡ first_entry me
    go b true e = entries b (grind (arith, nat_tests))
    go b false e = refl

pub none_of : (n i : ℕ) → members (replicate n false) i ≡ false
none_of zero i = refl
none_of (suc n) zero = refl
none_of (suc n) (suc i) = none_of n i
