-- What a run is, instruction by instruction, and that one that stores is a stretch that does.
use Rattle.std.proofs.Common.{◌≡◌, ◌≢◌, ℕ, zero, suc, ◌+◌, ◌-◌, ◌*◌, ◌/◌, ◌%◌, ◌^◌, ◌<◌, ◌≤◌, ◌⊎◌, cond, eqb, ltb, Bool, true, false, List, [], ◌∷◌, ◌++◌, length, Option, Some, None, refl, sym, ap, ◌∙◌, subst, inl, inr, arith, lit<}
use Rattle.std.specs.Prelude.{ℤ, pos, negsuc, ◌+ℤ◌, ◌≤ℤ◌, int_le, not, ◌&&◌, ◌||◌, is_some, filter_map, option_to_list, Contains}
use Rattle.std.specs.List.{list_all, list_any, cons_option}
use Rattle.std.specs.Option.{option_map_or}
use Rattle.std.proofs.lemmas.Bool.Decides.{eqb_tells, nat_tests}
use Rattle.std.proofs.lemmas.Int.{ints}
use Rattle.rewriting_law.proofs.Names.{unsigned, sources, destination, size_of, width_of, LoadKind, Width, Byte, Instr, Lui, Load, Store, OpImm, ShiftImm, Op, alu, Shape, block_of, Program, IsAccepted, line_of, offset_address, Uses, reg, demand_of, operation_of, shift_of, Sets, is_in_block, is_plain, leaves, stores_by, touches, accesses_by, StandFrom, RunsToStore, Processor, Reach, Span, span_of, is_store, lesser, greater, least, greatest, reach_by, reach_of, reach_at, code_from, may_stand, has_access}
use Rattle.rv32_program.specs.Liveness.{Next}
use Rattle.templates.specs.Runs.{IsRun}
use Rattle.rewriting_law.proofs.templates.RegisterLemmas.{apart, equal}
use Rattle.rewriting_law.proofs.templates.Does.{StandsToStore, may_turn}

-- each of the instructions, and one of them
abbrev pub Each : (Instr → Type 0) → List Instr → Type 0
Each P [] = Unit {0}
Each P (i ∷ is) = P i × Each P is

abbrev pub Has : (Instr → Type 0) → List Instr → Type 0
Has P [] = ⊥
Has P (i ∷ is) = P i ⊎ Has P is

-- these are the code words from an address on
abbrev pub StandAt : (ℕ → Option Instr) → ℕ → List Instr → Type 0
StandAt code a [] = Unit {0}
StandAt code a (i ∷ is) = (code a ≡ Some i) × StandAt code (a + 4) is

-- what an instruction accesses is so; or it accesses nothing
abbrev Spans : (Span → Type 0) → Option Span → Type 0
Spans P None = ⊥
Spans P (Some s) = P s

abbrev Bounded : ℤ → ℤ → Option Span → Type 0
Bounded low high None = Unit {0}
Bounded low high (Some s) = (low ≤ℤ s.low) × (s.high ≤ℤ high)

-- the instruction's access begins, or ends, at this offset
abbrev StartsAt : ℤ → Instr → Type 0
StartsAt low i = Spans (λ (s : Span). s.low ≡ low) (span_of i)

abbrev EndsAt : ℤ → Instr → Type 0
EndsAt high i = Spans (λ (s : Span). s.high ≡ high) (span_of i)

-- an instruction that sets a register from those that it names, and does nothing else
pub record Computes (i : Instr) (rd : ℕ) : Type 0 where
  pub defines : destination i ≡ Some rd
  pub next : (a : ℕ) → Next i a (a + 4)
  pub value : (ℕ → ℕ) → ℕ
  pub demands : (f : ℕ → ℕ) (at : ℕ) → demand_of i f at ≡ Sets rd (value f)
  pub same : (f g : ℕ → ℕ) → ((r : ℕ) → Contains (sources i) r → reg f r ≡ reg g r)
      → value f ≡ value g
  pub plain : is_plain i ≡ true
  pub leads_on : (a : ℕ) → may_turn i a ≡ false
  pub accesses_nothing : span_of i ≡ None
  pub stores_nothing : is_store i ≡ false

-- an access of this width at an offset lies within the reach
abbrev pub Within : Reach → ℤ → Width → Type 0
Within reach imm w = (reach.low ≤ℤ imm) × ((imm +ℤ pos (size_of w - 1)) ≤ℤ reach.high)

-- a word of a run: it sets a register other than the base, or accesses memory by the base
pub data RunWord (reach : Reach) : Instr → Type 0 where
  Sets_register : (i : Instr) (rd : ℕ) → Computes i rd → rd ≢ reach.base → RunWord reach i
  Loads_by : (k : LoadKind) (rd : ℕ) (imm : ℤ) → rd ≢ reach.base → Within reach imm (width_of k)
      → RunWord reach (Load k rd reach.base imm)
  Stores_by : (w : Width) (rs2 : ℕ) (imm : ℤ) → reach.stores ≡ true → Within reach imm w
      → RunWord reach (Store w reach.base rs2 imm)

-- the instructions from an address on are a run of this reach
pub record IsStretch (code : ℕ → Option Instr) (a : ℕ) (reach : Reach) (is : List Instr) : Type 0
  where
    pub stand : StandAt code a is
    pub words : Each (RunWord reach) is
    pub few : length is ≤ 16
    pub near : reach.high ≤ℤ (reach.low +ℤ pos 63)
    pub first : Instr
    pub begins : code a ≡ Some first
    pub by_base : Uses first reach.base
    pub low : Has (StartsAt reach.low) is
    pub high : Has (EndsAt reach.high) is
    pub stores : reach.stores ≡ true → Has (λ i. is_store i ≡ true) is

-- tests of Bool
both : (b c : Bool) → (b && c) ≡ true → (b ≡ true) × (c ≡ true)
both true c e = (refl, e)
both false c e = let bad : false ≡ true = e in cc

and_both : (b c : Bool) → b ≡ true → c ≡ true → (b && c) ≡ true
and_both true c e f = f
and_both false c e f = e

or_left : (b c : Bool) → b ≡ true → (b || c) ≡ true
or_left true c e = refl
or_left false c e = let bad : false ≡ true = e in cc

or_right : (b c : Bool) → c ≡ true → (b || c) ≡ true
or_right true c e = refl
or_right false c e = e

equal_if : (a b : ℕ) → eqb a b ≡ true → a ≡ b
equal_if a b h = elim (eqb_tells a b) [
  | inl e ↦ e.1
  | inr e ↦ (let bad : false ≡ true = sym e.0 ∙ h in cc)
]

apart_if : (a b : ℕ) → not (eqb a b) ≡ true → a ≢ b
apart_if a b h e = let bad : false ≡ true = sym (ap not (equal a b e)) ∙ h in cc

-- one of the instructions passes a test
passes : (test : Instr → Bool) (is : List Instr) → list_any test is ≡ true
    → Has (λ i. test i ≡ true) is
passes test [] e = let bad : false ≡ true = e in cc
passes test (i ∷ is) e = go (passes test is) (test i) refl e
  where
    go : (list_any test is ≡ true → Has (λ j. test j ≡ true) is) → (b : Bool) → test i ≡ b
        → (b || list_any test is) ≡ true → (test i ≡ true) ⊎ Has (λ j. test j ≡ true) is
    go later true is_b e = inl is_b
    go later false is_b e = inr (later e)

any_of : (F P : Instr → Type 0) (test : Instr → Bool)
    → ((i : Instr) → F i → P i → test i ≡ true) → (is : List Instr) → Each F is → Has P is
    → list_any test is ≡ true
any_of F P test tells [] fits h = absurd h
any_of F P test tells (i ∷ is) fits (inl p) = or_left (test i) (list_any test is) (tells i fits.0 p)
any_of F P test tells (i ∷ is) fits (inr h) =
    or_right (test i) (list_any test is) (any_of F P test tells is fits.1 h)

all_of : (F : Instr → Type 0) (test : Instr → Bool) → ((i : Instr) → F i → test i ≡ true)
    → (is : List Instr) → Each F is → list_all test is ≡ true
all_of F test tells [] fits = refl
all_of F test tells (i ∷ is) fits =
    and_both (test i) (list_all test is) (tells i fits.0) (all_of F test tells is fits.1)

-- the code words of a run
few_words : (code : ℕ → Option Instr) (a n : ℕ) → length (code_from code a n) ≤ n
few_words code a zero = omega arith
few_words code a (suc n) = go (few_words code (a + 4) n) (code a)
  where
    go : length (code_from code (a + 4) n) ≤ n → (o : Option Instr)
        → length (option_to_list o ++ code_from code (a + 4) n) ≤ suc n
    go few None = omega (arith, few)
    go few (Some i) = omega (arith, few)

stand_at : (code : ℕ → Option Instr) (a n : ℕ) → length (code_from code a n) ≡ n
    → StandAt code a (code_from code a n)
stand_at code a zero e = tt
stand_at code a (suc n) e = go (stand_at code (a + 4) n) (code a) refl e
  where
    go : (length (code_from code (a + 4) n) ≡ n
        → StandAt code (a + 4) (code_from code (a + 4) n)) → (o : Option Instr) → code a ≡ o
        → length (option_to_list o ++ code_from code (a + 4) n) ≡ suc n
        → StandAt code a (option_to_list o ++ code_from code (a + 4) n)
    go later None there count = absurd (omega (arith, few_words code (a + 4) n, count))
    go later (Some i) there count = (there, later (omega (arith, count)))

-- the least offset and the greatest bound those of all accesses
lesser_left : (x y : ℤ) → lesser x y ≤ℤ x
lesser_left x y = go (int_le x y) refl
  where
    go : (b : Bool) → int_le x y ≡ b → cond b x y ≤ℤ x
    go true e = omega (arith, ints)
    go false e = omega (arith, ints)

lesser_right : (x y : ℤ) → lesser x y ≤ℤ y
lesser_right x y = go (int_le x y) refl
  where
    go : (b : Bool) → int_le x y ≡ b → cond b x y ≤ℤ y
    go true e = omega (arith, ints)
    go false e = omega (arith, ints)

greater_left : (x y : ℤ) → x ≤ℤ greater x y
greater_left x y = go (int_le x y) refl
  where
    go : (b : Bool) → int_le x y ≡ b → x ≤ℤ cond b y x
    go true e = omega (arith, ints)
    go false e = omega (arith, ints)

greater_right : (x y : ℤ) → y ≤ℤ greater x y
greater_right x y = go (int_le x y) refl
  where
    go : (b : Bool) → int_le x y ≡ b → y ≤ℤ cond b y x
    go true e = omega (arith, ints)
    go false e = omega (arith, ints)

through : (x y z : ℤ) → x ≤ℤ y → y ≤ℤ z → x ≤ℤ z
through x y z e f = omega (arith, ints)

itself : (x : ℤ) → x ≤ℤ x
itself x = omega (arith, ints)

least_below : (xs : List Span) (low : ℤ) → least low xs ≤ℤ low
least_below [] low = itself low
least_below (x ∷ xs) low =
    through (least (lesser low x.low) xs) (lesser low x.low) low
    (least_below xs (lesser low x.low)) (lesser_left low x.low)

greatest_above : (xs : List Span) (high : ℤ) → high ≤ℤ greatest high xs
greatest_above [] high = itself high
greatest_above (x ∷ xs) high =
    through high (greater high x.high) (greatest (greater high x.high) xs)
    (greater_left high x.high) (greatest_above xs (greater high x.high))

abbrev spans : List Instr → List Span
spans is = filter_map span_of is

bounded : (is : List Instr) (low high least_one most : ℤ) → least_one ≤ℤ least low (spans is)
    → greatest high (spans is) ≤ℤ most → Each (λ i. Bounded least_one most (span_of i)) is
bounded [] low high x y below above = tt
bounded (i ∷ is) low high x y below above =
    go (λ lower upper. bounded is lower upper x y) (span_of i) refl below above
  where
    go : ((lower upper : ℤ) → x ≤ℤ least lower (spans is) → greatest upper (spans is) ≤ℤ y
        → Each (λ j. Bounded x y (span_of j)) is) → (o : Option Span) → span_of i ≡ o
        → x ≤ℤ least low (cons_option o (spans is)) → greatest high (cons_option o (spans is)) ≤ℤ y
        → Each (λ j. Bounded x y (span_of j)) (i ∷ is)
    go later None e below above = (subst (Bounded x y) (sym e) tt, later low high below above)
    go later (Some s) e below above =
        let lower = lesser low s.low in
        let upper = greater high s.high in
        let from : x ≤ℤ s.low = through x (least lower (spans is)) s.low below
        (through (least lower (spans is)) lower s.low (least_below (spans is) lower)
        (lesser_right low s.low)) in
        let to : s.high ≤ℤ y = through s.high (greatest upper (spans is)) y
        (through s.high upper (greatest upper (spans is)) (greater_right high s.high)
        (greatest_above (spans is) upper)) above in
        (subst (Bounded x y) (sym e) (from, to), later lower upper below above)

-- each is that of the first access, or of a later one
least_met : (is : List Instr) (low v : ℤ) → least low (spans is) ≡ v
    → (low ≡ v) ⊎ Has (StartsAt v) is
least_met [] low v e = inl e
least_met (i ∷ is) low v e = go (λ x. least_met is x v) (span_of i) refl e
  where
    pick : (s : Span) → span_of i ≡ Some s → (b : Bool) → cond b low s.low ≡ v
        → (low ≡ v) ⊎ Has (StartsAt v) (i ∷ is)
    pick s x true f = inl f
    pick s x false f = inr (inl (subst (Spans (λ (t : Span). t.low ≡ v)) (sym x) f))

    go : ((x : ℤ) → least x (spans is) ≡ v → (x ≡ v) ⊎ Has (StartsAt v) is) → (o : Option Span)
        → span_of i ≡ o → least low (cons_option o (spans is)) ≡ v
        → (low ≡ v) ⊎ Has (StartsAt v) (i ∷ is)
    go further None x f = elim (further low f) [ inl same ↦ inl same | inr later ↦ inr (inr later) ]
    go further (Some s) x f = elim (further (lesser low s.low) f) [
      | inl same ↦ pick s x (int_le low s.low) same
      | inr later ↦ inr (inr later)
    ]

greatest_met : (is : List Instr) (high v : ℤ) → greatest high (spans is) ≡ v
    → (high ≡ v) ⊎ Has (EndsAt v) is
greatest_met [] high v e = inl e
greatest_met (i ∷ is) high v e = go (λ x. greatest_met is x v) (span_of i) refl e
  where
    pick : (s : Span) → span_of i ≡ Some s → (b : Bool) → cond b s.high high ≡ v
        → (high ≡ v) ⊎ Has (EndsAt v) (i ∷ is)
    pick s x true f = inr (inl (subst (Spans (λ (t : Span). t.high ≡ v)) (sym x) f))
    pick s x false f = inl f

    go : ((x : ℤ) → greatest x (spans is) ≡ v → (x ≡ v) ⊎ Has (EndsAt v) is) → (o : Option Span)
        → span_of i ≡ o → greatest high (cons_option o (spans is)) ≡ v
        → (high ≡ v) ⊎ Has (EndsAt v) (i ∷ is)
    go further None x f = elim (further high f) [
      | inl same ↦ inl same
      | inr later ↦ inr (inr later)
    ]
    go further (Some s) x f = elim (further (greater high s.high) f) [
      | inl same ↦ pick s x (int_le high s.high) same
      | inr later ↦ inr (inr later)
    ]

-- an instruction that may stand in a run, whose access lies within its reach, is a word of it
module _ (reach : Reach) where
  sets_word : (i : Instr) (rd : ℕ) → Computes i rd → not (eqb rd reach.base) ≡ true
      → RunWord reach i
  sets_word i rd computes leaves = Sets_register i rd computes (apart_if rd reach.base leaves)

  load_word : (k : LoadKind) (rd rs1 : ℕ) (imm : ℤ)
      → (eqb rs1 reach.base && not (eqb rd reach.base)) ≡ true → Within reach imm (width_of k)
      → RunWord reach (Load k rd rs1 imm)
  load_word k rd rs1 imm h within =
      let two = both (eqb rs1 reach.base) (not (eqb rd reach.base)) h in
      subst (λ r. RunWord reach (Load k rd r imm)) (sym (equal_if rs1 reach.base two.0))
      (Loads_by k rd imm (apart_if rd reach.base two.1) within)

  store_word : (w : Width) (rs1 rs2 : ℕ) (imm : ℤ) → (eqb rs1 reach.base && true) ≡ true
      → reach.stores ≡ true → Within reach imm w → RunWord reach (Store w rs1 rs2 imm)
  store_word w rs1 rs2 imm h stores within =
      let two = both (eqb rs1 reach.base) true h in
      subst (λ r. RunWord reach (Store w r rs2 imm)) (sym (equal_if rs1 reach.base two.0))
      (Stores_by w rs2 imm stores within)

  run_word : (i : Instr) → may_stand reach.base i ≡ true
      → Bounded reach.low reach.high (span_of i) → (is_store i ≡ true → reach.stores ≡ true)
      → RunWord reach i
  run_word (Lui rd upper) h within stores = sets_word (Lui rd upper) rd (record {
    defines = refl;
    next = λ a. refl;
    value = λ f. upper * 2 ^ 12;
    demands = λ f at. refl;
    same = λ f g agree. refl;
    plain = refl;
    leads_on = λ a. refl;
    accesses_nothing = refl;
    stores_nothing = refl;
  }) h
  run_word (OpImm o rd rs1 imm) h within stores = sets_word (OpImm o rd rs1 imm) rd (record {
    defines = refl;
    next = λ a. refl;
    value = λ f. alu (operation_of o) (reg f rs1) (unsigned 32 imm);
    demands = λ f at. refl;
    same = λ f g agree. ap (λ z. alu (operation_of o) z (unsigned 32 imm))
        (agree rs1 (0, lit< tt, refl));
    plain = refl;
    leads_on = λ a. refl;
    accesses_nothing = refl;
    stores_nothing = refl;
  }) h
  run_word (ShiftImm o rd rs1 amount) h within stores =
      sets_word (ShiftImm o rd rs1 amount) rd (record {
        defines = refl;
        next = λ a. refl;
        value = λ f. alu (shift_of o) (reg f rs1) amount;
        demands = λ f at. refl;
        same = λ f g agree. ap (λ z. alu (shift_of o) z amount) (agree rs1 (0, lit< tt, refl));
        plain = refl;
        leads_on = λ a. refl;
        accesses_nothing = refl;
        stores_nothing = refl;
      }) h
  run_word (Op o rd rs1 rs2) h within stores = sets_word (Op o rd rs1 rs2) rd (record {
    defines = refl;
    next = λ a. refl;
    value = λ f. alu o (reg f rs1) (reg f rs2);
    demands = λ f at. refl;
    same = λ f g agree. ap (λ z. alu o z (reg f rs2)) (agree rs1 (0, lit< tt, refl))
        ∙ ap (λ z. alu o (reg g rs1) z) (agree rs2 (1, lit< tt, refl));
    plain = refl;
    leads_on = λ a. refl;
    accesses_nothing = refl;
    stores_nothing = refl;
  }) h
  run_word (Load k rd rs1 imm) h within stores = load_word k rd rs1 imm h within
  run_word (Store w rs1 rs2 imm) h within stores = store_word w rs1 rs2 imm h (stores refl) within
  run_word other h within stores = let bad : false ≡ true = h in cc

  run_words_of : (is : List Instr) → list_all (may_stand reach.base) is ≡ true
      → Each (λ i. Bounded reach.low reach.high (span_of i)) is
      → (list_any is_store is ≡ true → reach.stores ≡ true) → Each (RunWord reach) is
  run_words_of [] h within stores = tt
  run_words_of (i ∷ is) h within stores =
      let two = both (may_stand reach.base i) (list_all (may_stand reach.base) is) h in (
        run_word i two.0 within.0
            (λ e. stores (or_left (is_store i) (list_any is_store is) e)),
        run_words_of is two.1 within.1
            (λ e. stores (or_right (is_store i) (list_any is_store is) e)),
      )

  base_of_word : {i : Instr} → RunWord reach i → is_some (span_of i) ≡ true → Uses i reach.base
  base_of_word (Sets_register i rd computes other) h =
      let bad : false ≡ true = sym (ap is_some computes.accesses_nothing) ∙ h in cc
  base_of_word x h = inr (0, lit< tt, refl)

module _ (code : ℕ → Option Instr) (a count : ℕ) (run : IsRun code a count) where
  stretch_by : (i : Instr) (is : List Instr) → code_from code a count ≡ i ∷ is → (o : Option Span)
      → span_of i ≡ o → is_some (span_of i) ≡ true → IsStretch code a (reach_of (i ∷ is)) (i ∷ is)
  stretch_by i is e None s access = let bad : false ≡ true = sym (ap is_some s) ∙ access in cc
  stretch_by i is e (Some x) s access =
      let stores = list_any is_store (i ∷ is) in
      let reach : Reach = reach_by (x ∷ spans is) stores in
      let same : reach_of (i ∷ is) ≡ reach =
      ap (λ o. reach_by (cons_option o (spans is)) stores) s in
      let stand = subst (StandAt code a) e (stand_at code a count run.coded) in
      let each : list_all (may_stand reach.base) (i ∷ is) ≡ true =
      subst (λ (r : Reach). list_all (may_stand r.base) (i ∷ is) ≡ true) same
      (subst (λ xs. list_all (may_stand (reach_of xs).base) xs ≡ true) e run.each) in
      let near : reach.high ≤ℤ (reach.low +ℤ pos 63) =
      subst (λ (r : Reach). r.high ≤ℤ (r.low +ℤ pos 63)) same
      (subst (λ xs. (reach_of xs).high ≤ℤ ((reach_of xs).low +ℤ pos 63)) e run.near) in
      let first : Bounded reach.low reach.high (span_of i) =
      subst (Bounded reach.low reach.high) (sym s)
      (least_below (spans is) x.low, greatest_above (spans is) x.high) in
      let words = run_words_of reach (i ∷ is) each
      (first, bounded is x.low x.high reach.low reach.high (itself reach.low) (itself reach.high))
      (λ h. h) in
      subst (λ r. IsStretch code a r (i ∷ is)) (sym same) (record {
        stand = stand;
        words = words;
        few = omega (arith, ap length e, run.coded, run.few);
        near = near;
        first = i;
        begins = stand.0;
        by_base = base_of_word reach words.0 access;
        low = elim (least_met is x.low reach.low refl) [
          | inl f ↦ inl (subst (Spans (λ (t : Span). t.low ≡ reach.low)) (sym s) f)
          | inr later ↦ inr later
        ];
        high = elim (greatest_met is x.high reach.high refl) [
          | inl f ↦ inl (subst (Spans (λ (t : Span). t.high ≡ reach.high)) (sym s) f)
          | inr later ↦ inr later
        ];
        stores = λ h. passes is_store (i ∷ is) h;
      })

  -- a run of code words, by its reach
  pub stretch_of : IsStretch code a (reach_at code a count) (code_from code a count)
  stretch_of = go (code_from code a count) refl
    where
      go : (is : List Instr) → code_from code a count ≡ is → IsStretch code a (reach_of is) is
      go [] e = absurd (omega (arith, ap length e, run.coded, run.some))
      go (i ∷ is) e =
          stretch_by i is e (span_of i) refl (subst (λ xs. has_access xs 0 ≡ true) e run.begins)

-- the last byte of an access lies in the line of its first one, or of the last as it is counted on
last_line : (value n s : ℕ) → s ≤ 3 → (b : Bool) → ltb s (suc n) ≡ b
    → let x = offset_address value (cond b (negsuc (suc n - suc s)) (pos (s - suc n))) in
    let y = offset_address value (negsuc n) in
    (line_of x ≡ line_of y) ⊎ (line_of x ≡ line_of ((y + s) % 2 ^ 32))
last_line value n s small true e =
    let less : s < suc n = grind (arith, nat_tests) in
    let x = (value + (2 ^ 32 - 1 - (suc n - suc s))) % 2 ^ 32 in
    let y = (value + (2 ^ 32 - 1 - n)) % 2 ^ 32 in
    elim (eqb_tells (x / 64) (y / 64)) [ inl f ↦ inl f.1 | inr f ↦ inr (omega (arith, f.1)) ]
last_line value n s small false e =
    let more : suc n ≤ s = grind (arith, nat_tests) in
    inr (omega arith)

last_byte : (value : ℕ) (imm : ℤ) (s : ℕ) → s ≤ 3
    → (line_of (offset_address value (imm +ℤ pos s)) ≡ line_of (offset_address value imm))
    ⊎ (line_of (offset_address value (imm +ℤ pos s))
    ≡ line_of ((offset_address value imm + s) % 2 ^ 32))
last_byte value (pos m) s small = inr (omega arith)
last_byte value (negsuc n) s small = last_line value n s small (ltb s (suc n)) refl

size_small : (w : Width) → size_of w - 1 ≤ 3
size_small Byte = omega arith
size_small other = omega arith

module _ (layout : Shape) (b : ℕ) where
  same_block : (x y : ℕ) → line_of x ≡ line_of y → is_in_block layout b x ≡ true
      → is_in_block layout b y ≡ true
  same_block x y e h =
      subst (λ line. option_map_or (λ c. eqb c b) (block_of layout line) false ≡ true) e h

  touches_first : (value : ℕ) (imm low : ℤ) (w : Width) → imm ≡ low
      → is_in_block layout b (offset_address value low) ≡ true
      → touches layout b (offset_address value imm) (size_of w) ≡ true
  touches_first value imm low w e h =
      let x = offset_address value imm in
      or_left (is_in_block layout b x) (is_in_block layout b ((x + (size_of w - 1)) % 2 ^ 32))
      (subst (λ z. is_in_block layout b (offset_address value z) ≡ true) (sym e) h)

  touches_last : (value : ℕ) (imm high : ℤ) (w : Width) → imm +ℤ pos (size_of w - 1) ≡ high
      → is_in_block layout b (offset_address value high) ≡ true
      → touches layout b (offset_address value imm) (size_of w) ≡ true
  touches_last value imm high w e h =
      let x = offset_address value imm in
      let y = (x + (size_of w - 1)) % 2 ^ 32 in
      let last = offset_address value (imm +ℤ pos (size_of w - 1)) in
      let inside : is_in_block layout b last ≡ true =
      subst (λ z. is_in_block layout b (offset_address value z) ≡ true) (sym e) h in
      elim (last_byte value imm (size_of w - 1) (size_small w)) [
        | inl f ↦ or_left (is_in_block layout b x) (is_in_block layout b y)
            (same_block last x f inside)
        | inr f ↦ or_right (is_in_block layout b x) (is_in_block layout b y)
            (same_block last y f inside)
      ]

  module _ (reach : Reach) (value : ℕ) where
    accesses_low : is_in_block layout b (offset_address value reach.low) ≡ true → (i : Instr)
        → RunWord reach i → StartsAt reach.low i → accesses_by layout b reach.base value i ≡ true
    accesses_low h i (Sets_register j rd computes other) starts =
        absurd (subst (Spans (λ (t : Span). t.low ≡ reach.low)) computes.accesses_nothing starts)
    accesses_low h i (Loads_by k rd imm other within) starts =
        and_both (eqb reach.base reach.base)
        (touches layout b (offset_address value imm) (size_of (width_of k)))
        (equal reach.base reach.base refl) (touches_first value imm reach.low (width_of k) starts h)
    accesses_low h i (Stores_by w rs2 imm stores within) starts =
        and_both (eqb reach.base reach.base)
        (touches layout b (offset_address value imm) (size_of w))
        (equal reach.base reach.base refl) (touches_first value imm reach.low w starts h)

    accesses_high : is_in_block layout b (offset_address value reach.high) ≡ true → (i : Instr)
        → RunWord reach i → EndsAt reach.high i → accesses_by layout b reach.base value i ≡ true
    accesses_high h i (Sets_register j rd computes other) ends =
        absurd (subst (Spans (λ (t : Span). t.high ≡ reach.high)) computes.accesses_nothing ends)
    accesses_high h i (Loads_by k rd imm other within) ends =
        and_both (eqb reach.base reach.base)
        (touches layout b (offset_address value imm) (size_of (width_of k)))
        (equal reach.base reach.base refl) (touches_last value imm reach.high (width_of k) ends h)
    accesses_high h i (Stores_by w rs2 imm stores within) ends =
        and_both (eqb reach.base reach.base)
        (touches layout b (offset_address value imm) (size_of w))
        (equal reach.base reach.base refl) (touches_last value imm reach.high w ends h)

-- a run that stores is a stretch that stores, in the blocks of both its ends
module _ (program : Program) (accepted : IsAccepted program) (q : Processor) (a : ℕ)
    (reach : Reach) (is : List Instr) (run : IsStretch program.code a reach is)
    (place : q.pc ≡ a) (stores : reach.stores ≡ true) where
  stand_from : (b : ℕ) (js : List Instr) → StandAt program.code b js → StandFrom program b js
  stand_from b [] h = tt
  stand_from b (j ∷ js) h =
      let low = accepted.low b j h.0 in
      let next : b + 4 ≡ (b + 4) % 2 ^ 32 = omega (arith, low) in
      (h.0, subst (λ z. StandFrom program z js) next (stand_from (b + 4) js h.1))

  abbrev stands_plain : Instr → Bool
  stands_plain i = is_plain i && leaves reach.base i

  left_by : (rd : ℕ) → rd ≢ reach.base → ((eqb rd 0) || not (eqb rd reach.base)) ≡ true
  left_by rd other = or_right (eqb rd 0) (not (eqb rd reach.base)) (ap not (apart rd reach.base
      other))

  plain_word : (i : Instr) → RunWord reach i → stands_plain i ≡ true
  plain_word i (Sets_register j rd computes other) =
      and_both (is_plain j) (leaves reach.base j) computes.plain
      (ap (λ o. option_map_or (λ r. (eqb r 0) || not (eqb r reach.base)) o true) computes.defines
      ∙ left_by rd other)
  plain_word i (Loads_by k rd imm other within) = left_by rd other
  plain_word i (Stores_by w rs2 imm stores within) = refl

  stores_word : (i : Instr) → RunWord reach i → is_store i ≡ true → stores_by reach.base i ≡ true
  stores_word i (Sets_register j rd computes other) h =
      let bad : false ≡ true = sym computes.stores_nothing ∙ h in cc
  stores_word i (Loads_by k rd imm other within) h = let bad : false ≡ true = h in cc
  stores_word i (Stores_by w rs2 imm stores within) h = equal reach.base reach.base refl

  runs_by : (layout : Shape) (b : ℕ)
      → list_any (accesses_by layout b reach.base (reg q.registers reach.base)) is ≡ true
      → RunsToStore program layout b q.registers q.pc
  runs_by layout b accesses = record {
    base = reach.base;
    stretch = is;
    few = run.few;
    stand = subst (λ z. StandFrom program z is) (sym place) (stand_from a is run.stand);
    plain = all_of (RunWord reach) stands_plain plain_word is run.words;
    stores = any_of (RunWord reach) (λ i. is_store i ≡ true) (stores_by reach.base) stores_word is
        run.words (run.stores stores);
    accesses = accesses;
  }

  pub low_stands : StandsToStore program q (offset_address (reg q.registers reach.base) reach.low)
  low_stands layout b inside =
      let value = reg q.registers reach.base in
      inr (runs_by layout b (any_of (RunWord reach) (StartsAt reach.low)
      (accesses_by layout b reach.base value) (accesses_low layout b reach value inside) is
      run.words run.low))

  pub high_stands : StandsToStore program q (offset_address (reg q.registers reach.base) reach.high)
  high_stands layout b inside =
      let value = reg q.registers reach.base in
      inr (runs_by layout b (any_of (RunWord reach) (EndsAt reach.high)
      (accesses_by layout b reach.base value) (accesses_high layout b reach value inside) is
      run.words run.high))
