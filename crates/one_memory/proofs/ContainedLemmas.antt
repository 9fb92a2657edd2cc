-- Steps keep what lies beyond the registers and the window of a processor.
use Rattle.std.proofs.Common.{◌≡◌, ℕ, ◌+◌, ◌/◌, ◌%◌, ◌<◌, ◌&&◌, Bool, true, false, leb, ltb, eqb, List, [], ◌∷◌, length, set, replicate, Option, Some, None, refl, sym, ◌∙◌, subst, arith, inl, inr}
use Rattle.std.proofs.lemmas.Bool.{cases_Bool}
use Rattle.std.proofs.lemmas.Bool.Decides.{eqb_tells, nat_tests}
use Rattle.std.proofs.lemmas.List.{length-set, length-replicate, get_or_past}
use Rattle.rv32_decode.specs.declared.Instr.{Instr}
use Rattle.rv32_decode.specs.declared.Instr.TheVariants.{Lui, Auipc, Jal, Jalr, Branch, Load, Store, OpImm, ShiftImm, Op, Fence, Ecall, Ebreak, Illegal}
use Rattle.rv32_decode.specs.declared.Width.{Width}
use Rattle.rv32_decode.specs.declared.Width.TheVariants.{Byte, Half, Word}
use Rattle.rv32_decode.specs.Rows.{instruction_of}
use Rattle.rv32_decode.specs.Widths.{is_aligned}
use Rattle.rv32_decode.specs.Words.{IsInRange}
use Rattle.rv32_ops.specs.Operations.{taken}
use Rattle.block_layout.specs.Layout.{Shape}
use Rattle.byte_range.specs.Memory.{stored}
use Rattle.byte_range.specs.Window.{is_in_window}
use Rattle.elf32_read.specs.Elf.{Elf}
use Rattle.exec_map.specs.Contents.{program_of, class_of_line, code_at, is_code_word, word_of}
use Rattle.llsc.specs.Reservation.{holds}
use Rattle.rv32_program.specs.declared.Class.{Class}
use Rattle.rv32_program.specs.declared.Class.TheVariants.{Shared, ReadOnly, Private, Unmapped}
use Rattle.rv32_program.specs.declared.Exit.{Exit}
use Rattle.rv32_program.specs.Program.{Program, class_at, is_mapped}
use Rattle.rv32_program.specs.Targets.{offset_address}
use Rattle.rv32_step.specs.declared.CallStep.{CallStep}
use Rattle.rv32_step.specs.declared.CallStep.TheVariants.{Ends, Returns, Puts}
use Rattle.rv32_step.specs.declared.Demand.{Demand}
use Rattle.rv32_step.specs.declared.Demand.TheVariants.{Sets, Continues, Jumps, Branches, Loads, Stores, Calls, Traps, Reserves, StoresIf, Updates}
use Rattle.rv32_step.specs.Demands.{branch_demand, demand_of, call_step}
use Rattle.rv32_step.specs.Memory.{private_after}
use Rattle.rv32_step.specs.Registers.{reg, put, registers_of, first_values}
use Rattle.rv32_step.specs.OneMemory.{Original, Processor, State, Pick, Step, Break, Request, Becomes, Prints, LoadsFrom, StoresTo, ReservesAt, StoresWhere, UpdatesAt, opening, exit_of_access, exit_of_demand, request_of_call, request_by, request_unless, request_at, request, with_processor, with_store, with_conditional, after_store, after_exchange, after_conditional, state_by, after_pick, run}
use Rattle.one_memory.specs.Contained.{AreRegisters, IsWindow, IsContained, AreContained}
use Rattle.one_memory.proofs.ReadLemmas.{private_class, other_class}
use Rattle.one_memory.proofs.TurnLemmas.{original_with}

-- the parts of each instruction are within their ranges
abbrev pub AreInRange : Type 0
AreInRange = (word : ℕ) (i : Instr) → instruction_of word ≡ Some i → IsInRange i

-- a register that a demand sets is one of 32
abbrev SetsOne : Demand → Type 0
SetsOne (Sets r value) = r < 32
SetsOne (Jumps r target) = r < 32
SetsOne (Loads k r a) = r < 32
SetsOne (Reserves r a) = r < 32
SetsOne (StoresIf r a value) = r < 32
SetsOne (Updates o r a value) = r < 32
SetsOne d = Unit {0}

branch_sets : (b : Bool) (target : ℕ) → SetsOne (branch_demand b target)
branch_sets true target = tt
branch_sets false target = tt

demand_sets : (i : Instr) (registers : ℕ → ℕ) (pc : ℕ) → IsInRange i → SetsOne (demand_of i registers pc)
demand_sets (Lui rd upper) registers pc is = is.0
demand_sets (Auipc rd upper) registers pc is = is.0
demand_sets (Jal rd offset) registers pc is = is.0
demand_sets (Jalr rd rs1 imm) registers pc is = is.0
demand_sets (Branch c rs1 rs2 offset) registers pc is =
    branch_sets (taken c (reg registers rs1) (reg registers rs2)) (offset_address pc offset)
demand_sets (Load k rd rs1 imm) registers pc is = is.0
demand_sets (Store w rs1 rs2 imm) registers pc is = tt
demand_sets (OpImm o rd rs1 imm) registers pc is = is.0
demand_sets (ShiftImm o rd rs1 amount) registers pc is = is.0
demand_sets (Op o rd rs1 rs2) registers pc is = is.0
demand_sets (Fence rd rs1 bits) registers pc is = tt
demand_sets Ecall registers pc is = tt
demand_sets Ebreak registers pc is = tt
demand_sets (Illegal word) registers pc is = tt
demand_sets other registers pc is = is.0

-- the registers after a write of one of them
pub registers_put : (registers : ℕ → ℕ) (r value : ℕ) → r < 32 → AreRegisters registers → AreRegisters (put registers r value)
unfolding put
registers_put registers r value low is = record {
  first = elim (eqb_tells 0 r) [
    | inl e ↦ (let zero : ltb 0 r ≡ false = grind (arith, nat_tests) in rw (e.0, zero) is.first)
    | inr e ↦ rw e.0 is.first
  ];
  beyond = λ q high. let other : eqb q r ≡ false = grind (arith, nat_tests) in rw other (is.beyond q high);
}

first_length : (p n : ℕ) → length (first_values p n) ≡ 32
first_length p n =
    let zeros : List ℕ = replicate 32 0 in
    let one : List ℕ = set zeros 2 0x7ffffff0 in
    let two : List ℕ = set one 10 p in
    length-set two 11 n ∙ length-set one 10 p ∙ length-set zeros 2 0x7ffffff0 ∙ length-replicate {A = ℕ} 32 0

pub first_registers : (p n : ℕ) → AreRegisters (registers_of (first_values p n))
first_registers p n = record {
  first = refl;
  beyond = λ r high. get_or_past (first_values p n) r 0 (omega (arith, high, first_length p n));
}

-- an aligned store in the window changes no byte outside of it
store_inside : (w : Width) (private : ℕ → ℕ) (a value x : ℕ) → is_aligned w a ≡ true → is_in_window a ≡ true → is_in_window x ≡ false → stored w private a value x ≡ private x
unfolding stored
store_inside Byte private a value x aligned inside outside =
    let off : (leb a x && ltb x (a + 1)) ≡ false = grind (arith, nat_tests) in
    rw off refl
store_inside Half private a value x aligned inside outside =
    let at : a % 2 ≡ 0 = grind (arith, nat_tests) in
    let off : (leb a x && ltb x (a + 2)) ≡ false = grind (arith, nat_tests) in
    rw off refl
store_inside Word private a value x aligned inside outside =
    let at : a % 4 ≡ 0 = grind (arith, nat_tests) in
    let off : (leb a x && ltb x (a + 4)) ≡ false = grind (arith, nat_tests) in
    rw off refl

not_private : (c : Class) (old new : ℕ → ℕ) → (c ≡ Private → ⊥) → private_after c old new ≡ old
not_private Shared old new is = refl
not_private ReadOnly old new is = refl
not_private Private old new is = absurd (is refl)
not_private Unmapped old new is = refl

window_stored : (e : Elf) (w : Width) (private : ℕ → ℕ) (a value : ℕ) → is_aligned w a ≡ true → IsWindow private → IsWindow (private_after (class_of_line e (a / 64)) private (stored w private a value))
window_stored e w private a value aligned is = elim (cases_Bool (is_in_window a)) [
  | inl inside ↦ rw (private_class e a inside) (λ x outside. store_inside w private a value x aligned inside outside ∙ is x outside)
  | inr apart ↦ rw (not_private (class_of_line e (a / 64)) private (stored w private a value) (other_class e a apart)) is
]

-- what is requested keeps a processor within its registers and its window
abbrev Fits : Request → Type 0
Fits (Becomes q) = IsContained q
Fits (Prints a) = Unit {0}
Fits (LoadsFrom k r a) = r < 32
Fits (StoresTo w a value) = is_aligned w a ≡ true
Fits (ReservesAt r a) = r < 32
Fits (StoresWhere r a value) = (r < 32) × (is_aligned Word a ≡ true)
Fits (UpdatesAt o r a value) = (r < 32) × (is_aligned Word a ≡ true)

called : (program : Program) (q : Processor) (s : CallStep) → IsContained q → Fits (request_of_call program q s)
called program q (Ends code) is = record { registers = is.registers; window = is.window }
called program q (Returns value) is = record {
  registers = registers_put q.registers 10 value (omega arith) is.registers;
  window = is.window;
}
called program q (Puts a) is = elim (cases_Bool (is_mapped (class_at program a))) [
  | inl e ↦ rw e tt
  | inr e ↦ rw e (record { registers = registers_put q.registers 10 _ (omega arith) is.registers; window = is.window })
]

aligned_where : (pc : ℕ) (w : Width) (a : ℕ) (may : Bool) → exit_of_access pc w a may ≡ None → is_aligned w a ≡ true
aligned_where pc w a may none = elim (cases_Bool (is_aligned w a)) [
  | inl e ↦ e
  | inr e ↦ absurd (let x = rw e at none in cc)
]

asked_by : (program : Program) (q : Processor) (d : Demand) → IsContained q → SetsOne d → exit_of_demand (class_at program) q.pc d ≡ None → Fits (request_by program q d)
asked_by program q (Sets r value) is low none = record { registers = registers_put q.registers r value low is.registers; window = is.window }
asked_by program q Continues is low none = record { registers = is.registers; window = is.window }
asked_by program q (Jumps r target) is low none = record { registers = registers_put q.registers r _ low is.registers; window = is.window }
asked_by program q (Branches target) is low none = record { registers = is.registers; window = is.window }
asked_by program q (Loads k r a) is low none = low
asked_by program q (Stores w a value) is low none = aligned_where q.pc w a _ none
asked_by program q Calls is low none = called program q (call_step q.registers q.written) is
asked_by program q (Traps e) is low none = record { registers = is.registers; window = is.window }
asked_by program q (Reserves r a) is low none = low
asked_by program q (StoresIf r a value) is low none = (low, aligned_where q.pc Word a _ none)
asked_by program q (Updates o r a value) is low none = (low, aligned_where q.pc Word a _ none)

asked_unless : (program : Program) (q : Processor) (d : Demand) (o : Option Exit) → IsContained q → SetsOne d → exit_of_demand (class_at program) q.pc d ≡ o → Fits (request_unless program q d o)
asked_unless program q d (Some e) is low exit = record { registers = is.registers; window = is.window }
asked_unless program q d None is low exit = asked_by program q d is low exit

asked_at : (program : Program) (q : Processor) (o : Option Instr) → IsContained q → ((i : Instr) → o ≡ Some i → IsInRange i) → Fits (request_at program q o)
asked_at program q None is ranges = record { registers = is.registers; window = is.window }
asked_at program q (Some i) is ranges =
    asked_unless program q (demand_of i q.registers q.pc) _ is (demand_sets i q.registers q.pc (ranges i refl)) refl

code_in_range : (e : Elf) (a : ℕ) → AreInRange → (i : Instr) → code_at e a ≡ Some i → IsInRange i
code_in_range e a ranges i is = elim (cases_Bool (is_code_word e a)) [
  | inl there ↦ ranges (word_of e a) i (let x = rw there at is in x)
  | inr none ↦ absurd (let x = rw none at is in cc)
]

asked : (e : Elf) (q : Processor) → AreInRange → IsContained q → Fits (request (program_of e) q)
asked e q ranges is = asked_at (program_of e) q (code_at e q.pc) is (code_in_range e q.pc ranges)

with_contained : (s : State) (p : ℕ) (q : Processor) → AreContained s → IsContained q → AreContained (with_processor s p q)
with_contained s p q all one = λ i. elim (eqb_tells i p) [
  | inl e ↦ rw e.0 one
  | inr e ↦ rw e.0 (all i)
]

module _ (e : Elf) (layout : Shape) (nodes : ℕ) where
  abbrev here : Original
  here = original_with nodes layout e

  exchanged : (q : Processor) (a value r result : ℕ) → (r < 32) × (is_aligned Word a ≡ true) → IsContained q → IsContained (after_exchange (program_of e) q a value r result)
  exchanged q a value r result fits is = record {
    registers = registers_put q.registers r result fits.0 is.registers;
    window = window_stored e Word q.private a value fits.1 is.window;
  }

  conditional : (s : State) (p : ℕ) (q : Processor) (r a value : ℕ) (b : Bool) → AreContained s → IsContained q → (r < 32) × (is_aligned Word a ≡ true) → AreContained (with_conditional here s p (after_conditional (program_of e) q r a value b) a value b)
  conditional s p q r a value true all is fits =
      let k = after_exchange (program_of e) q a value r 0 in
      let one : IsContained k = exchanged q a value r 0 fits is in
      with_contained (with_store here s p k Word a value) p k (with_contained s p k all one) one
  conditional s p q r a value false all is fits =
      with_contained s p _ all (record { registers = registers_put q.registers r 1 fits.0 is.registers; window = is.window })

  answered : (s : State) (p : ℕ) (q : Processor) (r : Request) → AreContained s → IsContained q → Fits r → AreContained (state_by here s p q r)
  answered s p q (Becomes k) all is fits = with_contained s p k all fits
  answered s p q (Prints a) all is fits = with_contained s p _ all (record { registers = is.registers; window = is.window })
  answered s p q (LoadsFrom k r a) all is fits =
      with_contained s p _ all (record { registers = registers_put q.registers r _ fits is.registers; window = is.window })
  answered s p q (StoresTo w a value) all is fits =
      with_contained s p (after_store (program_of e) q w a value) all
      (record { registers = is.registers; window = window_stored e w q.private a value fits is.window })
  answered s p q (ReservesAt r a) all is fits =
      with_contained s p _ all (record { registers = registers_put q.registers r _ fits is.registers; window = is.window })
  answered s p q (StoresWhere r a value) all is fits =
      conditional s p q r a value (holds (s.reservations p) a) all is fits
  answered s p q (UpdatesAt o r a value) all is fits =
      with_contained s p (after_exchange (program_of e) q a _ r _) all (exchanged q a _ r _ fits is)

  picked : (s : State) (k : Pick) → AreInRange → AreContained s → AreContained (after_pick here s k)
  picked s (Step p) ranges all =
      answered s p (s.processors p) (request (program_of e) (s.processors p)) all (all p) (asked e (s.processors p) ranges (all p))
  picked s (Break p q) ranges all = λ i. all i

  ran : (s : State) (ks : List Pick) → AreInRange → AreContained s → AreContained (run here s ks)
  ran s [] ranges all = all
  ran s (k ∷ ks) ranges all = ran (after_pick here s k) ks ranges (picked s k ranges all)

-- each state of a run
pub run_contained : (o : Original) (e : Elf) (ks : List Pick) → AreInRange → o.program ≡ program_of e → AreContained (run o (opening o) ks)
run_contained o e ks ranges is =
    let same : o ≡ original_with o.nodes o.layout e = λ t. record { program = is t; layout = o.layout; nodes = o.nodes } in
    let n = o.nodes in
    subst (λ (x : Original). AreContained (run x (opening x) ks)) (sym same)
    (ran e o.layout n (opening (original_with n o.layout e)) ks ranges (λ p. record { registers = first_registers p n; window = λ a outside. refl }))
