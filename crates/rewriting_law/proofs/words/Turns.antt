-- Where code may lead back: only at an instruction whose sequence begins with a poll or a call, and
-- has nothing but jumps behind a word that commits. Every other step leads to a greater address.
use Rattle.std.proofs.Common.{◌≡◌, ℕ, ◌+◌, ◌%◌, ◌<◌, cond, eqb, leb, Bool, true, false, List, [], ◌∷◌, ◌++◌, Option, Some, None, refl, sym, ap, ◌∙◌, subst, inl, arith}
use Rattle.std.specs.Prelude.{ℤ, ◌&&◌, IsSome, IsTrue, option_and_then}
use Rattle.std.specs.Option.{option_map_or}
use Rattle.std.proofs.lemmas.Bool.Decides.{nat_tests}
use Rattle.rewriting_law.proofs.Names.{Cond, Instr, Lui, Auipc, Jal, Jalr, Branch, Load, Store, OpImm, ShiftImm, Op, Fence, Ecall, Ebreak, Lr, Sc, Amo, Illegal, taken, holds, Exit, Fetch, Misaligned, Program, IsAccepted, class_at, offset_address, aligned, aligned_target, target_of, reg, demand_of, branch_demand, Processor, Request, Becomes, Prints, LoadsFrom, StoresTo, ReservesAt, StoresWhere, UpdatesAt, request, request_at, request_by, request_unless, exit_of_demand, after_conditional, next_pc, Poll, Call, CommitKind, Never, PlanEntry, IsPlace, closes_loop_at, ItemWord, Runs, SequenceItem, branch_sequence, jump_sequence, is_multiple_of_four, place_items, poll_first, items_of, NodeMemory, WordOutcome}
use Rattle.rv32_program.specs.declared.Exit.TheVariants.{Ebreak as EbreakExit, Illegal as IllegalExit}
use Rattle.rewriting_law.proofs.words.Idle.{is_jump}
use Rattle.rewriting_law.proofs.words.Plans.{next_place}
use Rattle.rewriting_law.proofs.templates.Does.{Commits, may_turn, turns_at}
use Rattle.rewriting_law.proofs.templates.Templates.{aligned_place}

-- 1. What stands behind a word that commits

abbrev pub all_jumps : List SequenceItem → Bool
all_jumps [] = true
all_jumps (i ∷ is) = is_jump i.what && all_jumps is

pub no_jump_first : (i : SequenceItem) (is : List SequenceItem) → all_jumps (i ∷ is) ≡ true
    → is_jump i.what ≡ true
no_jump_first i is h = go (is_jump i.what) h
  where
    go : (t : Bool) → (t && all_jumps is) ≡ true → t ≡ true
    go true e = refl
    go false e = e

pub jumps_behind : (i : SequenceItem) (is : List SequenceItem) → all_jumps (i ∷ is) ≡ true
    → all_jumps is ≡ true
jumps_behind i is h = go (is_jump i.what) h
  where
    go : (t : Bool) → (t && all_jumps is) ≡ true → all_jumps is ≡ true
    go true e = e
    go false e = let bad : false ≡ true = e in cc

abbrev pub is_never : CommitKind → Bool
is_never Never = true
is_never kind = false

-- behind a word that may commit there are only jumps
abbrev pub CommitLast : List SequenceItem → Type 0
CommitLast [] = Unit {0}
CommitLast (i ∷ is) = (is_never i.commit ≡ false → all_jumps is ≡ true) × CommitLast is

pub commit_last_at : (before after : List SequenceItem) (i : SequenceItem)
    → CommitLast (before ++ i ∷ after) → is_never i.commit ≡ false → all_jumps after ≡ true
commit_last_at [] after i h = h.0
commit_last_at (x ∷ xs) after i h = commit_last_at xs after i h.1

-- before the first word messages are taken
abbrev pub is_stopover : ItemWord → Bool
is_stopover (Runs Poll) = true
is_stopover (Runs Call) = true
is_stopover w = false

abbrev pub StartsAtStopover : List SequenceItem → Type 0
StartsAtStopover [] = Unit {0}
StartsAtStopover (i ∷ is) = is_stopover i.what ≡ true

-- the sequence of an instruction that may lead back
pub record IsTurning (is : List SequenceItem) : Type 0 where
  pub last : CommitLast is
  pub first : StartsAtStopover is

abbrev pub turns_in : Option Instr → ℕ → Bool
turns_in o a = option_map_or (λ i. may_turn i a) o false

polled : (b : Bool) (is : List SequenceItem) → b ≡ true → CommitLast is → IsTurning (poll_first b is)
polled true is e h = record { last = ((λ e. let bad : true ≡ false = e in cc), h); first = refl }
polled false is e h = let bad : false ≡ true = e in cc

last_of_branch : (b : Bool) (c : _) (rs1 rs2 target : ℕ)
    → CommitLast (branch_sequence b c rs1 rs2 target)
last_of_branch true c rs1 rs2 target = ((λ e. refl), ((λ e. refl), tt))
last_of_branch false c rs1 rs2 target = ((λ e. refl), tt)

last_of_jump : (b : Bool) (rd next target : ℕ) → CommitLast (jump_sequence b rd next target)
last_of_jump true rd next target =
    ((λ e. let bad : true ≡ false = e in cc), ((λ e. refl), ((λ e. refl), tt)))
last_of_jump false rd next target = ((λ e. refl), tt)

pub turning : (e : PlanEntry) (o : Option Instr)
    → (IsTrue (closes_loop_at e.address o) → IsTrue e.polls) → turns_in o e.address ≡ true
    → IsTurning (items_of e o)
turning e None polls turn = let bad : false ≡ true = turn in cc
turning e (Some Ecall) polls turn = go e.polls
  where
    call : List SequenceItem
    call = place_items e.address e.single (Some Ecall)

    go : (b : Bool) → IsTurning (poll_first b call)
    go true = polled true call refl ((λ e. refl), tt)
    go false = record { last = ((λ e. refl), tt); first = refl }
turning e (Some (Jalr rd rs1 imm)) polls turn = polled e.polls _ (polls refl) ((λ e. refl), tt)
turning e (Some (Jal rd offset)) polls turn =
    polled e.polls _ (polls turn)
    (last_of_jump (is_multiple_of_four (offset_address e.address offset)) rd _ _)
turning e (Some (Branch c rs1 rs2 offset)) polls turn =
    polled e.polls _ (polls turn)
    (last_of_branch (is_multiple_of_four (offset_address e.address offset)) c rs1 rs2 _)
turning e (Some (Lui rd upper)) polls turn = let bad : false ≡ true = turn in cc
turning e (Some (Auipc rd upper)) polls turn = let bad : false ≡ true = turn in cc
turning e (Some (Load k rd rs1 imm)) polls turn = let bad : false ≡ true = turn in cc
turning e (Some (Store w rs1 rs2 imm)) polls turn = let bad : false ≡ true = turn in cc
turning e (Some (OpImm o rd rs1 imm)) polls turn = let bad : false ≡ true = turn in cc
turning e (Some (ShiftImm o rd rs1 amount)) polls turn = let bad : false ≡ true = turn in cc
turning e (Some (Op o rd rs1 rs2)) polls turn = let bad : false ≡ true = turn in cc
turning e (Some (Fence rd rs1 bits)) polls turn = let bad : false ≡ true = turn in cc
turning e (Some Ebreak) polls turn = let bad : false ≡ true = turn in cc
turning e (Some (Lr rd rs1 aq rl)) polls turn = let bad : false ≡ true = turn in cc
turning e (Some (Sc rd rs1 rs2 aq rl)) polls turn = let bad : false ≡ true = turn in cc
turning e (Some (Amo o rd rs1 rs2 aq rl)) polls turn = let bad : false ≡ true = turn in cc
turning e (Some (Illegal word)) polls turn = let bad : false ≡ true = turn in cc

-- 2. Where a step leads

module _ (program : Program) (accepted : IsAccepted program) (q : Processor) where
  -- from a place to a place of a greater address
  abbrev pub LeadsUp : ℕ → Type 0
  LeadsUp x = (q.pc < x) × IsPlace program.code q.pc × IsPlace program.code x

  coded : (i : Instr) → program.code q.pc ≡ Some i → IsPlace program.code q.pc
  coded i c = inl (subst IsSome (sym c) refl)

  -- where a step that commits leads, by what the processor requests
  abbrev pub GoesBy : Request → ℕ → Type 0
  GoesBy (Becomes p) x = (p.exit ≡ None) × (p.pc ≡ x)
  GoesBy (Prints a) x = Unit {0}
  GoesBy request x = next_pc q.pc ≡ x

  pub commits_by_request : {K K' : Processor → Type 0} (n : NodeMemory) (r : WordOutcome)
      → (a : Request) → ((p : Processor) → GoesBy a p.pc → K p → K' p)
      → Commits program K q n r a → Commits program K' q n r a
  commits_by_request n r (Becomes p) on h = (h.0, h.1, h.2, h.3, on p (h.0, refl) h.4)
  commits_by_request n r (Prints x) on h = (h.0, h.1, h.2, on _ tt h.3)
  commits_by_request n r (LoadsFrom k d x) on h = (h.0, h.1, h.2, on _ refl h.3)
  commits_by_request n r (StoresTo w x value) on h = (h.0, h.1, h.2, on _ refl h.3)
  commits_by_request n r (ReservesAt d x) on h = (h.0, h.1, h.2, on _ refl h.3)
  commits_by_request n r (StoresWhere d x value) on h =
      (h.0, h.1, h.2, on _ (go (holds n.reservation x)) h.3)
    where
      go : (b : Bool) → next_pc q.pc ≡ (after_conditional program q d x value b).pc
      go true = refl
      go false = refl
  commits_by_request n r (UpdatesAt o d x value) on h = (h.0, h.1, h.2, on _ refl h.3)

  -- the next address
  next_up : (i : Instr) (x : ℕ) → program.code q.pc ≡ Some i → next_pc q.pc ≡ x → LeadsUp x
  next_up i x c e =
      let low = accepted.low q.pc i c in
      let four : q.pc + 4 ≡ x = omega (arith, low, e) in (
        omega (arith, four),
        coded i c,
        subst (IsPlace program.code) four (next_place program q.pc i accepted c),
      )

  met_aligned : (e : Exit) (u : Bool) → cond u None (Some e) ≡ None → u ≡ true
  met_aligned e true h = refl
  met_aligned e false h = let bad : Some e ≡ None = h in cc

  -- the target of a direct jump, which is a multiple of four and lies ahead
  target_up : (i : Instr) (t x : ℕ) (e : Exit) → program.code q.pc ≡ Some i
      → target_of i q.pc ≡ Some t
      → option_map_or (λ y. leb y q.pc) (aligned_target i q.pc) false ≡ false
      → cond (eqb (t % 4) 0) None (Some e) ≡ None → t ≡ x → LeadsUp x
  target_up i t x e c target ahead met same =
      let whole : eqb (t % 4) 0 ≡ true = met_aligned e (eqb (t % 4) 0) met in
      let four : t % 4 ≡ 0 = grind (arith, nat_tests) in
      let is : aligned_target i q.pc ≡ Some t =
      ap (option_and_then aligned) target ∙ ap (λ b. cond b (Some t) None) whole in
      let over : leb t q.pc ≡ false =
      sym (ap (λ o. option_map_or (λ y. leb y q.pc) o false) is) ∙ ahead in
      let above : q.pc < t = grind (arith, nat_tests) in (
        omega (arith, above, same),
        coded i c,
        subst (IsPlace program.code) same (aligned_place program q.pc t i c target four),
      )

  -- a branch
  branch_up : (i : Instr) (c : Cond) (rs1 rs2 : ℕ) (offset : ℤ) (x : ℕ)
      → i ≡ Branch c rs1 rs2 offset → program.code q.pc ≡ Some i → may_turn i q.pc ≡ false
      → (b : Bool) → exit_of_demand (class_at program) q.pc
      (branch_demand b (offset_address q.pc offset)) ≡ None
      → GoesBy (request_by program q (branch_demand b (offset_address q.pc offset))) x → LeadsUp x
  branch_up i c rs1 rs2 offset x is there ahead true met h =
      target_up i (offset_address q.pc offset) x (Misaligned q.pc) there
      (ap (λ j. target_of j q.pc) is)
      (ap (λ j. option_map_or (λ y. leb y q.pc) (aligned_target j q.pc) false) is
      ∙ sym (ap (λ j. may_turn j q.pc) is) ∙ ahead) met h.1
  branch_up i c rs1 rs2 offset x is there ahead false met h = next_up i x there h.1

  -- an instruction that doesn't lead back
  instruction_up : (i : Instr) (x : ℕ) → program.code q.pc ≡ Some i → may_turn i q.pc ≡ false
      → exit_of_demand (class_at program) q.pc (demand_of i q.registers q.pc) ≡ None
      → GoesBy (request_by program q (demand_of i q.registers q.pc)) x → LeadsUp x
  instruction_up (Lui rd upper) x c ahead met h = next_up (Lui rd upper) x c h.1
  instruction_up (Auipc rd upper) x c ahead met h = next_up (Auipc rd upper) x c h.1
  instruction_up (Jal rd offset) x c ahead met h =
      target_up (Jal rd offset) (offset_address q.pc offset) x (Misaligned q.pc) c refl ahead met h.1
  instruction_up (Jalr rd rs1 imm) x c ahead met h = let bad : true ≡ false = ahead in cc
  instruction_up (Branch cond rs1 rs2 offset) x c ahead met h =
      branch_up (Branch cond rs1 rs2 offset) cond rs1 rs2 offset x refl c ahead
      (taken cond (reg q.registers rs1) (reg q.registers rs2)) met h
  instruction_up (Load k rd rs1 imm) x c ahead met h = next_up (Load k rd rs1 imm) x c h
  instruction_up (Store w rs1 rs2 imm) x c ahead met h = next_up (Store w rs1 rs2 imm) x c h
  instruction_up (OpImm o rd rs1 imm) x c ahead met h = next_up (OpImm o rd rs1 imm) x c h.1
  instruction_up (ShiftImm o rd rs1 amount) x c ahead met h =
      next_up (ShiftImm o rd rs1 amount) x c h.1
  instruction_up (Op o rd rs1 rs2) x c ahead met h = next_up (Op o rd rs1 rs2) x c h.1
  instruction_up (Fence rd rs1 bits) x c ahead met h = next_up (Fence rd rs1 bits) x c h.1
  instruction_up Ecall x c ahead met h = let bad : true ≡ false = ahead in cc
  instruction_up Ebreak x c ahead met h = let bad : Some (EbreakExit q.pc) ≡ None = met in cc
  instruction_up (Lr rd rs1 aq rl) x c ahead met h = next_up (Lr rd rs1 aq rl) x c h
  instruction_up (Sc rd rs1 rs2 aq rl) x c ahead met h = next_up (Sc rd rs1 rs2 aq rl) x c h
  instruction_up (Amo o rd rs1 rs2 aq rl) x c ahead met h = next_up (Amo o rd rs1 rs2 aq rl) x c h
  instruction_up (Illegal word) x c ahead met h =
      let bad : Some (IllegalExit q.pc) ≡ None = met in cc

  -- a step that commits leads on, but where code may lead back
  pub step_up : (x : ℕ) → turns_at program q.pc ≡ false → GoesBy (request program q) x → LeadsUp x
  step_up x ahead h = go (program.code q.pc) refl ahead h
    where
      met : (i : Instr) (o : Option Exit) → program.code q.pc ≡ Some i → may_turn i q.pc ≡ false
          → exit_of_demand (class_at program) q.pc (demand_of i q.registers q.pc) ≡ o
          → GoesBy (request_unless program q (demand_of i q.registers q.pc) o) x → LeadsUp x
      met i None c on e h = instruction_up i x c on e h
      met i (Some exit) c on e h = let bad : Some exit ≡ None = h.0 in cc

      go : (o : Option Instr) → program.code q.pc ≡ o
          → option_map_or (λ i. may_turn i q.pc) o false ≡ false
          → GoesBy (request_at program q o) x → LeadsUp x
      go None c on h = let bad : Some (Fetch q.pc) ≡ None = h.0 in cc
      go (Some i) c on h =
          met i (exit_of_demand (class_at program) q.pc (demand_of i q.registers q.pc)) c on refl h
