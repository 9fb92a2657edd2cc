-- Copies, byte by byte and processor by processor.
use Rattle.std.proofs.Common.{◌≡◌, ℕ, zero, suc, ◌+◌, ◌-◌, ◌*◌, ◌/◌, ◌^◌, ◌<◌, ◌≤◌, ◌&&◌, Bool, true, false, leb, ltb, eqb, List, [], ◌∷◌, ◌++◌, length, get_or, take, Option, Some, None, refl, sym, ap, ◌∙◌, subst, arith, inl, inr}
use Rattle.std.specs.Prelude.{if◌then◌else◌, ◌==◌, is_some, slice_get}
use Rattle.std.specs.Option.{option_map_or}
use Rattle.std.proofs.Math.Path.{fun_ext}
use Rattle.std.proofs.lemmas.Bool.{cases_Bool, cases_lt}
use Rattle.std.proofs.lemmas.Bool.Decides.{eqb_tells, nat_tests}
use Rattle.std.proofs.lemmas.List.{length-append, take_all}
use Rattle.std.proofs.lemmas.List.Folds.{list_any_more}
use Rattle.std.proofs.lemmas.Option.{slice_get_past}
use Rattle.rv32_decode.specs.declared.Width.TheVariants.{Byte}
use Rattle.block_layout.specs.declared.ranges.Lines.{Lines}
use Rattle.block_layout.specs.Layout.{is_in, is_among}
use Rattle.byte_range.specs.Lines.{LineBytes, lines_memory, place_of}
use Rattle.byte_range.specs.Memory.{raw, stored}
use Rattle.byte_range.specs.Window.{is_in_window}
use Rattle.elf32_read.specs.Elf.{Elf}
use Rattle.exec_map.specs.Contents.{AreSharedRanges, first_byte}
use Rattle.exec_map.specs.SharedLines.{HasSharedLines}
use Rattle.rv32_step.specs.Registers.{reg, put}
use Rattle.rv32_step.specs.OneMemory.{Original, Processor, first_processor}
use Rattle.one_memory.specs.declared.processor.Processor.{Processor as ProcessorParts}
use Rattle.one_memory.specs.Contained.{AreRegisters, IsWindow, IsContained, AreContained, HaveSameLines, IsSameByte}
use Rattle.one_memory.specs.Machine.{Parts, original_of, processor_of, processors_of, reserved_in, state_of}
use Rattle.one_memory.proofs.CodeLemmas.{get_push_before, get_push_last}
use Rattle.one_memory.proofs.TurnLemmas.{IsSameCode, same_original, here}

-- a byte that is stored
stored_byte : (k m : ℕ → ℕ) (a v x : ℕ) → v ≡ raw Byte k a → v < 2 ^ 8 → stored Byte m a v x ≡ (if x == a then k x else m x)
unfolding stored raw
stored_byte k m a v x is low = elim (eqb_tells x a) [
  | inl e ↦
      let l : leb a a ≡ true = grind (arith, nat_tests) in
      let h : ltb a (a + 1) ≡ true = grind (arith, nat_tests) in
      let z : a - a ≡ 0 = omega arith in
      rw (e.0, e.1, l, h, z) (omega (arith, low, is))
  | inr e ↦
      let ne = e.1 in
      let off : (leb a x && ltb x (a + 1)) ≡ false = grind (arith, nat_tests) in
      rw (e.0, off) refl
]

-- the same, where the byte may be stored
pub byte_put : (b : Bool) (k m m' : ℕ → ℕ) (a v : ℕ) → b ≡ true → v ≡ raw Byte k a → v < 2 ^ 8 → m' ≡ (if b then stored Byte m a v else m) → (x : ℕ) → m' x ≡ (if x == a then k x else m x)
byte_put b k m m' a v may is low put x =
    ap (λ (f : ℕ → ℕ). f x) (put ∙ ap (λ c. if c then stored Byte m a v else m) may) ∙ stored_byte k m a v x is low

pub here_is : (k m : ℕ → ℕ) (a : ℕ) → (if a == a then k a else m a) ≡ k a
here_is k m a = elim (eqb_tells a a) [ inl e ↦ rw e.0 refl | inr e ↦ absurd (e.1 refl) ]

pub kept_there : (k m : ℕ → ℕ) (a x : ℕ) → m x ≡ k x → (if x == a then k x else m x) ≡ k x
kept_there k m a x is = elim (eqb_tells x a) [ inl e ↦ rw e.0 refl | inr e ↦ rw e.0 is ]

-- a register after the other
pub record AreSet (from now : ℕ → ℕ) (n : ℕ) : Type 0 where
  pub same : (r : ℕ) → 0 < r → r < n → now r ≡ from r
  pub rest : AreRegisters now

pub none_set : (from now : ℕ → ℕ) → AreRegisters now → AreSet from now 0
none_set from now is = record { same = λ r low high. absurd (omega (arith, high)); rest = is }

put_same : (from now : ℕ → ℕ) (n r : ℕ) → 0 < r → r < n + 1 → AreSet from now n → put now n (reg from n) r ≡ from r
unfolding put reg
put_same from now n r low high set = elim (eqb_tells r n) [
  | inl e ↦
      let at = e.1 in
      let some : ltb 0 n ≡ true = grind (arith, nat_tests) in
      let not_first : eqb n 0 ≡ false = grind (arith, nat_tests) in
      rw (e.0, some, not_first) (ap from (sym e.1))
  | inr e ↦ (let ne = e.1 in rw e.0 (set.same r low (omega (arith, high, ne))))
]

pub one_set : (from now now' : ℕ → ℕ) (n v : ℕ) → AreSet from now n → v ≡ reg from n → now' ≡ put now n v → AreRegisters now' → AreSet from now' (n + 1)
one_set from now now' n v set is put_is rest = record {
  same = λ r low high. ap (λ (f : ℕ → ℕ). f r) (put_is ∙ ap (put now n) is) ∙ put_same from now n r low high set;
  rest = rest;
}

pub all_set : (from now : ℕ → ℕ) (n : ℕ) → n ≡ 32 → AreSet from now n → AreRegisters from → now ≡ from
all_set from now n all set is = fun_ext (λ r. elim (eqb_tells r 0) [
  | inl e ↦ ap now e.1 ∙ set.rest.first ∙ sym is.first ∙ ap from (sym e.1)
  | inr e ↦
      let ne = e.1 in
      elim (cases_lt r 32) [
        | inl below ↦ set.same r (omega (arith, ne)) (omega (arith, below, all))
        | inr above ↦ set.rest.beyond r (omega (arith, above)) ∙ sym (is.beyond r (omega (arith, above)))
      ]
])

-- a byte of the window after the other
pub record AreOwn (from now : ℕ → ℕ) (end : ℕ) : Type 0 where
  pub same : (a : ℕ) → 0x7fff0000 ≤ a → a < end → now a ≡ from a
  pub rest : IsWindow now

pub inside : (a : ℕ) → 0x7fff0000 ≤ a → a < 0x80000000 → is_in_window a ≡ true
inside a low high = grind (arith, nat_tests)

in_there : (a : ℕ) → is_in_window a ≡ true → (0x7fff0000 ≤ a) × (a < 0x80000000)
in_there a is = elim (cases_lt a 0x7fff0000) [
  | inl below ↦ absurd (let l : leb 0x7fff0000 a ≡ false = grind (arith, nat_tests) in let x = rw l at is in cc)
  | inr above ↦ elim (cases_lt a 0x80000000) [
    | inl below ↦ (omega (arith, above), below)
    | inr high ↦ absurd (let l : leb 0x7fff0000 a ≡ true = grind (arith, nat_tests) in let h : ltb a 0x80000000 ≡ false = grind (arith, nat_tests) in let x = rw (l, h) at is in cc)
  ]
]

pub none_own : (from now : ℕ → ℕ) → now ≡ (λ _. 0) → AreOwn from now 0x7fff0000
none_own from now zeros = record {
  same = λ a low high. absurd (omega (arith, low, high));
  rest = λ a outside. ap (λ (f : ℕ → ℕ). f a) zeros;
}

pub one_own : (from now now' : ℕ → ℕ) (end : ℕ) → AreOwn from now end → is_in_window end ≡ true → ((a : ℕ) → now' a ≡ (if a == end then from a else now a)) → AreOwn from now' (end + 1)
one_own from now now' end own there is = record {
  same = λ a low high. is a ∙ elim (eqb_tells a end) [
    | inl e ↦ rw e.0 refl
    | inr e ↦ (let ne = e.1 in rw e.0 (own.same a low (omega (arith, high, ne))))
  ];
  rest = λ a outside. is a ∙ elim (eqb_tells a end) [
    | inl e ↦ absurd (let both : true ≡ false = sym there ∙ ap is_in_window (sym e.1) ∙ outside in cc)
    | inr e ↦ rw e.0 (own.rest a outside)
  ];
}

pub all_own : (from now : ℕ → ℕ) (end : ℕ) → 0x80000000 ≤ end → AreOwn from now end → IsWindow from → now ≡ from
all_own from now end all own is = fun_ext (λ a. elim (cases_Bool (is_in_window a)) [
  | inl there ↦ (let at = in_there a there in own.same a at.0 (let high = at.1 in omega (arith, high, all)))
  | inr apart ↦ own.rest a apart ∙ sym (is a apart)
])

-- lines
none_of : (o : Option ℕ) → false ≡ is_some o → o ≡ None
none_of None is = refl
none_of (Some x) is = absurd (cc)

pub no_line : (m k : LineBytes) (a : ℕ) → HaveSameLines m k → false ≡ is_some (place_of k.ranges (a / 64)) → IsSameByte m k a
unfolding lines_memory
no_line m k a same none =
    let there = none_of (place_of m.ranges (a / 64)) (none ∙ sym (same (a / 64))) in
    let here = none_of (place_of k.ranges (a / 64)) none in
    λ outside. rw (there, here) refl

pub record IsCopied (from was now : LineBytes) (start end : ℕ) : Type 0 where
  pub ranges : now.ranges ≡ was.ranges
  pub copied : (a : ℕ) → start ≤ a → a < end → IsSameByte now from a
  pub kept : (a : ℕ) → IsSameByte was from a → IsSameByte now from a

pub none_copied : (from was : LineBytes) (start : ℕ) → IsCopied from was was start start
none_copied from was start = record {
  ranges = refl;
  copied = λ a low high. absurd (omega (arith, low, high));
  kept = λ a is. is;
}

pub same_lines : (from was now : LineBytes) → now.ranges ≡ was.ranges → HaveSameLines was from → HaveSameLines now from
same_lines from was now ranges same = λ line. ap (λ rs. is_some (place_of rs line)) ranges ∙ same line

pub one_copied : (from was now now' : LineBytes) (start end : ℕ) → IsCopied from was now start end → now'.ranges ≡ now.ranges → IsSameByte now' from end → ((a : ℕ) → IsSameByte now from a → IsSameByte now' from a) → IsCopied from was now' start (end + 1)
one_copied from was now now' start end h ranges copied kept = record {
  ranges = ranges ∙ h.ranges;
  copied = λ a low high. elim (eqb_tells a end) [
    | inl e ↦ subst (λ x. IsSameByte now' from x) (sym e.1) copied
    | inr e ↦ (let ne = e.1 in kept a (h.copied a low (omega (arith, high, ne))))
  ];
  kept = λ a is. kept a (h.kept a is);
}

pub in_range : (r : Lines) (a : ℕ) → is_among (a / 64) r ≡ true → (64 * r.first ≤ a) × (a < 64 * r.first + 64 * r.lines)
in_range r a is = elim (cases_lt (a / 64) r.first) [
  | inl below ↦ absurd (let l : leb r.first (a / 64) ≡ false = grind (arith, nat_tests) in let x = rw l at is in cc)
  | inr above ↦ elim (cases_lt (a / 64) (r.first + r.lines)) [
    | inl below ↦ (omega (arith, above), omega (arith, below))
    | inr high ↦ absurd (let l : leb r.first (a / 64) ≡ true = grind (arith, nat_tests) in let h : ltb (a / 64) (r.first + r.lines) ≡ false = grind (arith, nat_tests) in let x = rw (l, h) at is in cc)
  ]
]

-- one range after the other
abbrev pub no_lines : Lines
no_lines = record { first = 0; lines = 0 }

pub record AreRangesCopied (from was now : LineBytes) (ranges : List Lines) (n : ℕ) : Type 0 where
  pub ranges_are : now.ranges ≡ was.ranges
  pub copied : (a : ℕ) → is_in (take n ranges) (a / 64) ≡ true → IsSameByte now from a

pub no_range : (from was : LineBytes) (ranges : List Lines) → AreRangesCopied from was was ranges 0
no_range from was ranges = record { ranges_are = refl; copied = λ a is. absurd (cc) }

pub one_range : (from was now now' : LineBytes) (ranges : List Lines) (n : ℕ) → AreRangesCopied from was now ranges n → n < length ranges → now'.ranges ≡ now.ranges → ((a : ℕ) → is_among (a / 64) (get_or ranges n no_lines) ≡ true → IsSameByte now' from a) → ((a : ℕ) → IsSameByte now from a → IsSameByte now' from a) → AreRangesCopied from was now' ranges (n + 1)
one_range from was now now' ranges n h within same copied kept = record {
  ranges_are = same ∙ h.ranges_are;
  copied = λ a is.
      let more = list_any_more (is_among (a / 64)) ranges n no_lines within in
      elim (cases_Bool (is_in (take n ranges) (a / 64))) [
        | inl before ↦ kept a (h.copied a before)
        | inr not_before ↦ copied a (let x = sym more ∙ is in rw not_before at x)
      ];
}

pub all_ranges : (from was now : LineBytes) (ranges : List Lines) (n : ℕ) → length ranges ≤ n → AreRangesCopied from was now ranges n → (a : ℕ) → is_in ranges (a / 64) ≡ true → IsSameByte now from a
all_ranges from was now ranges n all h a is =
    h.copied a (ap (λ rs. is_in rs (a / 64)) (take_all n ranges all) ∙ is)

-- all shared lines
pub lines_copied : (e : Elf) (from was now : LineBytes) (ranges : List Lines) → HasSharedLines e from → HasSharedLines e was → now.ranges ≡ was.ranges → AreSharedRanges e ranges → ((a : ℕ) → is_in ranges (a / 64) ≡ true → IsSameByte now from a) → (outside : ℕ → ℕ) → lines_memory now outside ≡ lines_memory from outside
lines_copied e from was now ranges has had same shared copied outside = fun_ext (λ a. elim (cases_Bool (is_in ranges (a / 64))) [
  | inl there ↦ copied a there outside
  | inr apart ↦
      let lines : HaveSameLines now from = same_lines from was now same (λ line. had line ∙ sym (has line)) in
      no_line now from a lines (sym apart ∙ shared.lines (a / 64) ∙ sym (has (a / 64))) outside
])

pub lines_there : (e : Elf) (was now : LineBytes) → HasSharedLines e was → now.ranges ≡ was.ranges → HasSharedLines e now
lines_there e was now had same = λ line. ap (λ rs. is_some (place_of rs line)) same ∙ had line

-- a processor after the other
pub record AreCopies (old new : List ProcessorParts) (n : ℕ) : Type 0 where
  pub len : length new ≡ n
  pub each : (p : ℕ) (k : ProcessorParts) (other : Processor) → p < n → slice_get old p ≡ Some k → IsContained (processor_of k) → option_map_or processor_of (slice_get new p) other ≡ processor_of k

pub no_copies : (old : List ProcessorParts) → AreCopies old [] 0
no_copies old = record { len = refl; each = λ p k other lt. absurd (omega (arith, lt)) }

pub one_copy : (old new : List ProcessorParts) (n : ℕ) (k k' : ProcessorParts) → AreCopies old new n → slice_get old n ≡ Some k → (IsContained (processor_of k) → processor_of k' ≡ processor_of k) → AreCopies old (new ++ k' ∷ []) (n + 1)
one_copy old new n k k' h there copy = record {
  len = omega (arith, h.len, length-append new (k' ∷ []));
  each = λ p q other lt is contained. elim (cases_lt p n) [
    | inl below ↦ ap (λ o. option_map_or processor_of o other) (get_push_before new k' p (omega (arith, h.len, below))) ∙ h.each p q other below is contained
    | inr above ↦
        let at : p ≡ n = omega (arith, lt, above) in
        let last : p ≡ length new = omega (arith, at, h.len) in
        let same : Some k ≡ Some q = sym there ∙ ap (slice_get old) (sym at) ∙ is in
        let one : k ≡ q = cc in
        ap (λ o. option_map_or processor_of o other) (ap (slice_get (new ++ k' ∷ [])) last ∙ get_push_last new k')
        ∙ copy (subst (λ (x : ProcessorParts). IsContained (processor_of x)) (sym one) contained) ∙ ap processor_of one
  ];
}

there : {X : Type 0} (xs : List X) (p : ℕ) → p < length xs → (x : X) × (slice_get xs p ≡ Some x)
there [] p lt = absurd (omega (arith, lt))
there (x ∷ xs) zero lt = (x, refl)
there (x ∷ xs) (suc p) lt = there xs p (omega (arith, lt))

pub same_state : (h h' : Parts) → IsSameCode h.memory h'.memory → h'.count ≡ h.count → lines_memory h'.memory.shared (first_byte h.memory.program) ≡ lines_memory h.memory.shared (first_byte h.memory.program) → h'.memory.reserved ≡ h.memory.reserved → h'.memory.output ≡ h.memory.output → AreCopies h.processors h'.processors (length h.processors) → AreContained (state_of h) → state_of h' ≡ state_of h
same_state h h' code count shared reserved output copies contained =
    let original : original_of h' ≡ original_of h = same_original h.memory h'.memory h'.count code ∙ ap (λ n. let o : Original = record (original_of h) { nodes = n } in o) count in
    let bytes : lines_memory h'.memory.shared (first_byte h'.memory.program) ≡ lines_memory h.memory.shared (first_byte h.memory.program) = ap (λ (e : Elf). lines_memory h'.memory.shared (first_byte e)) code.program ∙ shared in
    let all : processors_of h' ≡ processors_of h = fun_ext (λ p. elim (cases_lt p (length h.processors)) [
      | inl below ↦
          let one = there h.processors p below in
          let is = here h p one.0 one.1 in
          copies.each p one.0 (first_processor (original_of h') p) below one.1 (subst IsContained is (contained p)) ∙ sym is
      | inr above ↦
          let past = slice_get_past h.processors p (omega (arith, above)) in
          let past' = slice_get_past h'.processors p (omega (arith, above, copies.len)) in
          ap (λ o. option_map_or processor_of o (first_processor (original_of h') p)) past'
          ∙ ap (λ (o : Original). first_processor o p) original
          ∙ sym (ap (λ o. option_map_or processor_of o (first_processor (original_of h) p)) past)
    ]) in
    λ t. record { shared = bytes t; processors = all t; reservations = reserved_in (reserved t); output = output t }
