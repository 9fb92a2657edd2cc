-- The instruction of a word, from the rows of its major opcode.
use Rattle.std.proofs.Common.{◌≡◌, ◌≢◌, ℕ, ◌^◌, ◌<◌, Bool, true, false, cond, eqb, ltb, map, ◌++◌, List, [], ◌∷◌, refl, sym, ap, ◌∙◌, arith, lit<}
use Rattle.std.specs.Prelude.{find, filter, ◌&&◌, Option, Some, None}
use Rattle.std.specs.List.{list_all, list_any}
use Rattle.std.specs.Option.{option_map}
use Rattle.std.proofs.lemmas.Bool.{ltb-true}
use Rattle.std.proofs.lemmas.Bool.Decides.{nat_tests}
use Rattle.rv32_decode.specs.Fields.{field, bit, imm_i, imm_s, imm_b, imm_j}
use Rattle.rv32_decode.specs.Rows.{Row, fits, rows, row, instruction_of, funct3_row, funct7_row, funct5_row, word_row, branch_row, branch_table, load_row, load_table, store_row, store_table, imm_row, imm_table, shift_row, shift_table, op_row, op_table, amo_row, amo_table}
use Rattle.rv32_decode.specs.Tables.{entry, entry_of_two}
use Rattle.rv32_decode.specs.declared.ImmOp.{ImmOp}
use Rattle.rv32_decode.specs.declared.AmoOp.{AmoOp}
use Rattle.rv32_decode.specs.declared.IllegalWord.TheVariants.{Zeros, Ones, CycleWrite}
use Rattle.rv32_decode.specs.declared.Instr.{Instr}
use Rattle.rv32_decode.specs.declared.Instr.TheVariants.{Lui, Auipc, Jal, Jalr, Branch, Load, Store, OpImm, ShiftImm, Op, Fence, Ecall, Ebreak, Lr, Sc, Amo, Illegal}
use Rattle.rv32_decode.proofs.Fitting.{covers, has, same_field, by_field, and_parts, opcode_fits, funct3_fits, funct7_fits, funct5_fits, lr_fits, word_fits}

-- what the row that was found says of the word
abbrev pub chosen : ℕ → Option Row → Option Instr
chosen w o = option_map (λ r. r.fields w) o

all_opcodes : list_all (covers 0 7) rows ≡ true
unfolding rows
all_opcodes = refl

-- the rows of an opcode alone
of_opcode : (w op : ℕ) (group : List Row) → field w 0 7 ≡ op → filter (has 0 7 op) rows ≡ group
    → instruction_of w ≡ chosen w (find (fits w) group)
unfolding instruction_of
of_opcode w op group e g = ap (chosen w) (by_field w 0 7 op rows all_opcodes e ∙ ap (find (fits w)) g)

-- the first that is there
abbrev or_else : Option Instr → Option Instr → Option Instr
or_else None o = o
or_else (Some i) o = Some i

or_none : (b : Bool) (i : Instr) → or_else (cond b (Some i) None) None ≡ cond b (Some i) None
or_none true i = refl
or_none false i = refl

chosen-cons : (w : ℕ) (r : Row) (rs : List Row) (b : Bool) → fits w r ≡ b
    → chosen w (find (fits w) (r ∷ rs)) ≡ or_else (cond b (Some (r.fields w)) None) (chosen w (find (fits w) rs))
chosen-cons w r rs true h = rw h refl
chosen-cons w r rs false h = rw h refl

append_step : (w : ℕ) (r : Row) (rs ts : List Row) (b : Bool) → fits w r ≡ b
    → chosen w (find (fits w) (rs ++ ts)) ≡ or_else (chosen w (find (fits w) rs)) (chosen w (find (fits w) ts))
    → chosen w (find (fits w) (r ∷ rs ++ ts)) ≡ or_else (chosen w (find (fits w) (r ∷ rs))) (chosen w (find (fits w) ts))
append_step w r rs ts true h more = rw h refl
append_step w r rs ts false h more = rw h more

chosen-append : (w : ℕ) (rs ts : List Row) → chosen w (find (fits w) (rs ++ ts)) ≡ or_else (chosen w (find (fits w) rs)) (chosen w (find (fits w) ts))
chosen-append w [] ts = refl
chosen-append w (r ∷ rs) ts = append_step w r rs ts (fits w r) refl (chosen-append w rs ts)

-- a row alone
either : (w : ℕ) (b : Bool) (r : Row) → chosen w (cond b (Some r) None) ≡ cond b (Some (r.fields w)) None
either w true r = refl
either w false r = refl

word_case : (w m : ℕ) (i : Instr) (rs : List Row) (o : Option Instr) (b : Bool) → fits w (word_row m i) ≡ b → chosen w (find (fits w) rs) ≡ o
    → chosen w (find (fits w) (word_row m i ∷ rs)) ≡ cond b (Some i) o
word_case w m i rs o true h more = rw h refl
word_case w m i rs o false h more = rw h more

word_step : (w m : ℕ) (i : Instr) (rs : List Row) (o : Option Instr) → w < 2 ^ 32 → chosen w (find (fits w) rs) ≡ o
    → chosen w (find (fits w) (word_row m i ∷ rs)) ≡ cond (eqb w m) (Some i) o
word_step w m i rs o l more = word_case w m i rs o (eqb w m) (word_fits w m i l) more

-- ---- a table of rows is searched as the table

funct3_step : {A : Type 0} (w op : ℕ) (make : A → ℕ → Instr) (t : ℕ × A) (ts : List (ℕ × A)) (b : Bool)
    → fits w (funct3_row t.0 op (make t.1)) ≡ b → eqb (field w 12 3) t.0 ≡ b
    → chosen w (find (fits w) (map (λ t. funct3_row t.0 op (make t.1)) ts)) ≡ option_map (λ a. make a w) (entry ts (field w 12 3))
    → chosen w (find (fits w) (map (λ t. funct3_row t.0 op (make t.1)) (t ∷ ts))) ≡ option_map (λ a. make a w) (entry (t ∷ ts) (field w 12 3))
funct3_step w op make t ts true h g more = rw (h, g) refl
funct3_step w op make t ts false h g more = rw (h, g) more

funct3_group : {A : Type 0} (w op : ℕ) (make : A → ℕ → Instr) (ts : List (ℕ × A)) → field w 0 7 ≡ op → op < 128 → list_all (λ t. ltb t.0 8) ts ≡ true
    → chosen w (find (fits w) (map (λ t. funct3_row t.0 op (make t.1)) ts)) ≡ option_map (λ a. make a w) (entry ts (field w 12 3))
funct3_group w op make [] e l all = refl
funct3_group w op make (t ∷ ts) e l all =
    let both = and_parts (ltb t.0 8) (list_all (λ t. ltb t.0 8) ts) all in
    let here : fits w (funct3_row t.0 op (make t.1)) ≡ eqb (field w 12 3) t.0 = funct3_fits w op t.0 (make t.1) e l (ltb-true _ _ both.0) in
    funct3_step w op make t ts (eqb (field w 12 3) t.0) here refl (funct3_group w op make ts e l both.1)

funct7_step : {A : Type 0} (w op : ℕ) (make : A → ℕ → Instr) (t : ℕ × ℕ × A) (ts : List (ℕ × ℕ × A)) (b : Bool)
    → fits w (funct7_row t.0 t.1 op (make t.2)) ≡ b → (eqb (field w 25 7) t.0 && eqb (field w 12 3) t.1) ≡ b
    → chosen w (find (fits w) (map (λ t. funct7_row t.0 t.1 op (make t.2)) ts)) ≡ option_map (λ a. make a w) (entry_of_two ts (field w 25 7) (field w 12 3))
    → chosen w (find (fits w) (map (λ t. funct7_row t.0 t.1 op (make t.2)) (t ∷ ts))) ≡ option_map (λ a. make a w) (entry_of_two (t ∷ ts) (field w 25 7) (field w 12 3))
funct7_step w op make t ts true h g more = rw (h, g) refl
funct7_step w op make t ts false h g more = rw (h, g) more

abbrev two_below : {A : Type 0} → ℕ × ℕ × A → Bool
two_below t = ltb t.0 128 && ltb t.1 8

funct7_group : {A : Type 0} (w op : ℕ) (make : A → ℕ → Instr) (ts : List (ℕ × ℕ × A)) → field w 0 7 ≡ op → op < 128 → list_all two_below ts ≡ true
    → chosen w (find (fits w) (map (λ t. funct7_row t.0 t.1 op (make t.2)) ts)) ≡ option_map (λ a. make a w) (entry_of_two ts (field w 25 7) (field w 12 3))
funct7_group w op make [] e l all = refl
funct7_group w op make (t ∷ ts) e l all =
    let both = and_parts (two_below t) (list_all two_below ts) all in
    let below = and_parts (ltb t.0 128) (ltb t.1 8) both.0 in
    let here : fits w (funct7_row t.0 t.1 op (make t.2)) ≡ (eqb (field w 25 7) t.0 && eqb (field w 12 3) t.1) =
    funct7_fits w op t.0 t.1 (make t.2) e l (ltb-true _ _ below.1) (ltb-true _ _ below.0) in
    funct7_step w op make t ts (eqb (field w 25 7) t.0 && eqb (field w 12 3) t.1) here refl (funct7_group w op make ts e l both.1)

-- ---- the groups of one opcode

pub lui_is : (w : ℕ) → field w 0 7 ≡ 0x37 → instruction_of w ≡ Some (Lui (field w 7 5) (field w 12 20))
unfolding rows
lui_is w e = of_opcode w 0x37 _ e refl ∙ rw (opcode_fits w 0x37 (λ w. Lui (field w 7 5) (field w 12 20)) e) refl

pub auipc_is : (w : ℕ) → field w 0 7 ≡ 0x17 → instruction_of w ≡ Some (Auipc (field w 7 5) (field w 12 20))
unfolding rows
auipc_is w e = of_opcode w 0x17 _ e refl ∙ rw (opcode_fits w 0x17 (λ w. Auipc (field w 7 5) (field w 12 20)) e) refl

pub jal_is : (w : ℕ) → field w 0 7 ≡ 0x6f → instruction_of w ≡ Some (Jal (field w 7 5) (imm_j w))
unfolding rows
jal_is w e = of_opcode w 0x6f _ e refl ∙ rw (opcode_fits w 0x6f (λ w. Jal (field w 7 5) (imm_j w)) e) refl

pub branch_is : (w : ℕ) → field w 0 7 ≡ 0x63
    → instruction_of w ≡ option_map (λ c. Branch c (field w 15 5) (field w 20 5) (imm_b w)) (entry branch_table (field w 12 3))
unfolding rows
branch_is w e =
    of_opcode w 0x63 (map branch_row branch_table) e refl
    ∙ funct3_group w 0x63 (λ c w. Branch c (field w 15 5) (field w 20 5) (imm_b w)) branch_table e (lit< tt) refl

pub load_is : (w : ℕ) → field w 0 7 ≡ 0x03
    → instruction_of w ≡ option_map (λ k. Load k (field w 7 5) (field w 15 5) (imm_i w)) (entry load_table (field w 12 3))
unfolding rows
load_is w e =
    of_opcode w 0x03 (map load_row load_table) e refl
    ∙ funct3_group w 0x03 (λ k w. Load k (field w 7 5) (field w 15 5) (imm_i w)) load_table e (lit< tt) refl

pub store_is : (w : ℕ) → field w 0 7 ≡ 0x23
    → instruction_of w ≡ option_map (λ s. Store s (field w 15 5) (field w 20 5) (imm_s w)) (entry store_table (field w 12 3))
unfolding rows
store_is w e =
    of_opcode w 0x23 (map store_row store_table) e refl
    ∙ funct3_group w 0x23 (λ s w. Store s (field w 15 5) (field w 20 5) (imm_s w)) store_table e (lit< tt) refl

pub op_is : (w : ℕ) → field w 0 7 ≡ 0x33
    → instruction_of w ≡ option_map (λ o. Op o (field w 7 5) (field w 15 5) (field w 20 5)) (entry_of_two op_table (field w 25 7) (field w 12 3))
unfolding rows
op_is w e =
    of_opcode w 0x33 (map op_row op_table) e refl
    ∙ funct7_group w 0x33 (λ o w. Op o (field w 7 5) (field w 15 5) (field w 20 5)) op_table e (lit< tt) refl

pub jalr_is : (w : ℕ) → field w 0 7 ≡ 0x67
    → instruction_of w ≡ cond (eqb (field w 12 3) 0) (Some (Jalr (field w 7 5) (field w 15 5) (imm_i w))) None
unfolding rows
jalr_is w e =
    of_opcode w 0x67 _ e refl
    ∙ rw (funct3_fits w 0x67 0 (λ w. Jalr (field w 7 5) (field w 15 5) (imm_i w)) e (lit< tt) (lit< tt)) (either w (eqb (field w 12 3) 0) _)

pub fence_is : (w : ℕ) → field w 0 7 ≡ 0x0f
    → instruction_of w ≡ cond (eqb (field w 12 3) 0) (Some (Fence (field w 7 5) (field w 15 5) (field w 20 12))) None
unfolding rows
fence_is w e =
    of_opcode w 0x0f _ e refl
    ∙ rw (funct3_fits w 0x0f 0 (λ w. Fence (field w 7 5) (field w 15 5) (field w 20 12)) e (lit< tt) (lit< tt)) (either w (eqb (field w 12 3) 0) _)

pub system_is : (w : ℕ) → w < 2 ^ 32 → field w 0 7 ≡ 0x73
    → instruction_of w ≡ cond (eqb w 0x73) (Some Ecall) (cond (eqb w 0x100073) (Some Ebreak) (cond (eqb w 0xc0001073) (Some (Illegal CycleWrite)) None))
unfolding rows
system_is w l e =
    of_opcode w 0x73 (word_row 0x73 Ecall ∷ word_row 0x100073 Ebreak ∷ word_row 0xc0001073 (Illegal CycleWrite) ∷ []) e refl
    ∙ word_step w 0x73 Ecall (word_row 0x100073 Ebreak ∷ word_row 0xc0001073 (Illegal CycleWrite) ∷ []) _ l
    (word_step w 0x100073 Ebreak (word_row 0xc0001073 (Illegal CycleWrite) ∷ []) _ l
    (word_step w 0xc0001073 (Illegal CycleWrite) [] None l refl))

pub zeros_is : (w : ℕ) → w < 2 ^ 32 → field w 0 7 ≡ 0 → instruction_of w ≡ cond (eqb w 0) (Some (Illegal Zeros)) None
unfolding rows
zeros_is w l e = of_opcode w 0 (word_row 0 (Illegal Zeros) ∷ []) e refl ∙ word_step w 0 (Illegal Zeros) [] None l refl

pub ones_is : (w : ℕ) → w < 2 ^ 32 → field w 0 7 ≡ 0x7f → instruction_of w ≡ cond (eqb w 0xffffffff) (Some (Illegal Ones)) None
unfolding rows
ones_is w l e = of_opcode w 0x7f (word_row 0xffffffff (Illegal Ones) ∷ []) e refl ∙ word_step w 0xffffffff (Illegal Ones) [] None l refl

-- ---- OP-IMM: the operations with a 12-bit immediate, then the shifts

imm_first : (w : ℕ) → field w 0 7 ≡ 0x13
    → instruction_of w ≡ or_else (option_map (λ o. OpImm o (field w 7 5) (field w 15 5) (imm_i w)) (entry imm_table (field w 12 3)))
    (option_map (λ s. ShiftImm s (field w 7 5) (field w 15 5) (field w 20 5)) (entry_of_two shift_table (field w 25 7) (field w 12 3)))
unfolding rows
imm_first w e =
    of_opcode w 0x13 (map imm_row imm_table ++ map shift_row shift_table) e refl
    ∙ chosen-append w (map imm_row imm_table) (map shift_row shift_table)
    ∙ ap (λ o. or_else o (chosen w (find (fits w) (map shift_row shift_table))))
    (funct3_group w 0x13 (λ o w. OpImm o (field w 7 5) (field w 15 5) (imm_i w)) imm_table e (lit< tt) refl)
    ∙ ap (or_else (option_map (λ o. OpImm o (field w 7 5) (field w 15 5) (imm_i w)) (entry imm_table (field w 12 3))))
    (funct7_group w 0x13 (λ s w. ShiftImm s (field w 7 5) (field w 15 5) (field w 20 5)) shift_table e (lit< tt) refl)

pub imm_is : (w : ℕ) (o : ImmOp) → field w 0 7 ≡ 0x13 → entry imm_table (field w 12 3) ≡ Some o
    → instruction_of w ≡ Some (OpImm o (field w 7 5) (field w 15 5) (imm_i w))
imm_is w o e found = imm_first w e ∙ rw found refl

pub shift_is : (w : ℕ) → field w 0 7 ≡ 0x13 → entry imm_table (field w 12 3) ≡ None
    → instruction_of w ≡ option_map (λ s. ShiftImm s (field w 7 5) (field w 15 5) (field w 20 5)) (entry_of_two shift_table (field w 25 7) (field w 12 3))
shift_is w e none = imm_first w e ∙ rw none refl

-- ---- AMO

funct5_step : {A : Type 0} (w op : ℕ) (make : A → ℕ → Instr) (t : ℕ × A) (ts : List (ℕ × A)) (wide b : Bool)
    → fits w (funct5_row t.0 2 op (make t.1)) ≡ (eqb (field w 27 5) t.0 && wide) → eqb (field w 27 5) t.0 ≡ b
    → chosen w (find (fits w) (map (λ t. funct5_row t.0 2 op (make t.1)) ts)) ≡ cond wide (option_map (λ a. make a w) (entry ts (field w 27 5))) None
    → chosen w (find (fits w) (map (λ t. funct5_row t.0 2 op (make t.1)) (t ∷ ts))) ≡ cond wide (option_map (λ a. make a w) (entry (t ∷ ts) (field w 27 5))) None
funct5_step w op make t ts true true h g more = let f = h ∙ ap (λ x. x && true) g in rw (f, g) refl
funct5_step w op make t ts false true h g more = let f = h ∙ ap (λ x. x && false) g in rw f more
funct5_step w op make t ts true false h g more = let f = h ∙ ap (λ x. x && true) g in rw (f, g) more
funct5_step w op make t ts false false h g more = let f = h ∙ ap (λ x. x && false) g in rw f more

funct5_group : {A : Type 0} (w op : ℕ) (make : A → ℕ → Instr) (ts : List (ℕ × A)) → field w 0 7 ≡ op → op < 128 → list_all (λ t. ltb t.0 32) ts ≡ true
    → chosen w (find (fits w) (map (λ t. funct5_row t.0 2 op (make t.1)) ts)) ≡ cond (eqb (field w 12 3) 2) (option_map (λ a. make a w) (entry ts (field w 27 5))) None
funct5_group w op make [] e l all = elim (eqb (field w 12 3) 2) as (λ b. ◌≡◌ {A = Option Instr} None (cond b None None)) [ true ↦ refl | false ↦ refl ]
funct5_group w op make (t ∷ ts) e l all =
    let both = and_parts (ltb t.0 32) (list_all (λ t. ltb t.0 32) ts) all in
    let here : fits w (funct5_row t.0 2 op (make t.1)) ≡ (eqb (field w 27 5) t.0 && eqb (field w 12 3) 2) =
    funct5_fits w op t.0 2 (make t.1) e l (lit< tt) (ltb-true _ _ both.0) in
    funct5_step w op make t ts (eqb (field w 12 3) 2) (eqb (field w 27 5) t.0) here refl (funct5_group w op make ts e l both.1)

abbrev load_reserved : ℕ → Instr
load_reserved w = Lr (field w 7 5) (field w 15 5) (bit w 26) (bit w 25)

abbrev store_conditional : ℕ → Instr
store_conditional w = Sc (field w 7 5) (field w 15 5) (field w 20 5) (bit w 26) (bit w 25)

abbrev pub atomic : AmoOp → ℕ → Instr
atomic o w = Amo o (field w 7 5) (field w 15 5) (field w 20 5) (bit w 26) (bit w 25)

amo_rows : (w : ℕ) → field w 0 7 ≡ 0x2f
    → instruction_of w ≡ or_else (cond (eqb (field w 27 5) 2 && (eqb (field w 12 3) 2 && eqb (field w 20 5) 0)) (Some (load_reserved w)) None)
    (or_else (cond (eqb (field w 27 5) 3 && eqb (field w 12 3) 2) (Some (store_conditional w)) None)
    (cond (eqb (field w 12 3) 2) (option_map (λ o. atomic o w) (entry amo_table (field w 27 5))) None))
unfolding rows
amo_rows w e =
    of_opcode w 0x2f (row 0xf9f0707f 0x1000202f load_reserved ∷ funct5_row 3 2 0x2f store_conditional ∷ map amo_row amo_table) e refl
    ∙ chosen-cons w (row 0xf9f0707f 0x1000202f load_reserved) (funct5_row 3 2 0x2f store_conditional ∷ map amo_row amo_table) _ (lr_fits w load_reserved e)
    ∙ ap (or_else (cond (eqb (field w 27 5) 2 && (eqb (field w 12 3) 2 && eqb (field w 20 5) 0)) (Some (load_reserved w)) None))
    (chosen-cons w (funct5_row 3 2 0x2f store_conditional) (map amo_row amo_table) _ (funct5_fits w 0x2f 3 2 store_conditional e (lit< tt) (lit< tt) (lit< tt))
    ∙ ap (or_else (cond (eqb (field w 27 5) 3 && eqb (field w 12 3) 2) (Some (store_conditional w)) None))
    (funct5_group w 0x2f atomic amo_table e (lit< tt) refl))

pub amo_width_is : (w : ℕ) → field w 0 7 ≡ 0x2f → field w 12 3 ≢ 2 → instruction_of w ≡ None
amo_width_is w e wide = amo_rows w e ∙ grind (arith, nat_tests)

pub lr_is : (w : ℕ) → field w 0 7 ≡ 0x2f → field w 12 3 ≡ 2 → field w 27 5 ≡ 2 → instruction_of w ≡ cond (eqb (field w 20 5) 0) (Some (load_reserved w)) None
lr_is w e wide f = amo_rows w e ∙ rw (wide, f) (or_none (eqb (field w 20 5) 0) (load_reserved w))

pub sc_is : (w : ℕ) → field w 0 7 ≡ 0x2f → field w 12 3 ≡ 2 → field w 27 5 ≡ 3 → instruction_of w ≡ Some (store_conditional w)
sc_is w e wide f = amo_rows w e ∙ rw (wide, f) refl

pub amo_is : (w : ℕ) → field w 0 7 ≡ 0x2f → field w 12 3 ≡ 2 → field w 27 5 ≢ 2 → field w 27 5 ≢ 3
    → instruction_of w ≡ option_map (λ o. atomic o w) (entry amo_table (field w 27 5))
amo_is w e wide two three =
    let a : eqb (field w 27 5) 2 ≡ false = grind (arith, nat_tests) in
    let b : eqb (field w 27 5) 3 ≡ false = grind (arith, nat_tests) in
    amo_rows w e ∙ rw (wide, a, b) refl

-- ---- every other opcode

abbrev opcodes : List ℕ
opcodes = 0x37 ∷ 0x17 ∷ 0x6f ∷ 0x67 ∷ 0x63 ∷ 0x03 ∷ 0x23 ∷ 0x13 ∷ 0x33 ∷ 0x0f ∷ 0x2f ∷ 0x73 ∷ 0 ∷ 0x7f ∷ []

abbrev is_opcode : ℕ → Bool
is_opcode n = list_any (eqb n) opcodes

abbrev has_opcode : Row → Bool
has_opcode r = covers 0 7 r && is_opcode (field r.match 0 7)

rows_have_opcodes : list_all has_opcode rows ≡ true
unfolding rows
rows_have_opcodes = refl

no_fit : (w : ℕ) (r : Row) (b : Bool) → has_opcode r ≡ true → is_opcode (field w 0 7) ≡ false → fits w r ≡ b → b ≡ false
no_fit w r false h other f = refl
no_fit w r true h other f =
    let both = and_parts (covers 0 7 r) (is_opcode (field r.match 0 7)) h in
    let same : field w 0 7 ≡ field r.match 0 7 = same_field w 0 7 r both.0 f in
    sym both.1 ∙ ap is_opcode (sym same) ∙ other

none_fits : (w : ℕ) (rs : List Row) → list_all has_opcode rs ≡ true → is_opcode (field w 0 7) ≡ false → find (fits w) rs ≡ None
none_fits w [] all other = refl
none_fits w (r ∷ rs) all other =
    let both = and_parts (has_opcode r) (list_all has_opcode rs) all in
    let here : fits w r ≡ false = no_fit w r (fits w r) both.0 other refl in
    rw here (none_fits w rs both.1 other)

pub no_opcode : (w : ℕ) → field w 0 7 ≢ 0x37 → field w 0 7 ≢ 0x17 → field w 0 7 ≢ 0x6f → field w 0 7 ≢ 0x67 → field w 0 7 ≢ 0x63 → field w 0 7 ≢ 0x03
    → field w 0 7 ≢ 0x23 → field w 0 7 ≢ 0x13 → field w 0 7 ≢ 0x33 → field w 0 7 ≢ 0x0f → field w 0 7 ≢ 0x2f → field w 0 7 ≢ 0x73 → field w 0 7 ≢ 0
    → field w 0 7 ≢ 0x7f → instruction_of w ≡ None
unfolding instruction_of
no_opcode w a b c d e f g h i j k l m n =
    let other : is_opcode (field w 0 7) ≡ false = grind (arith, nat_tests) in
    rw (none_fits w rows rows_have_opcodes other) refl

-- the instructions that a major opcode alone tells
pub ruleset opcodes_alone = (lui_is, auipc_is, jal_is, no_opcode)
