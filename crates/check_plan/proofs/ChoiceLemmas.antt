-- Scratch registers that are chosen among the candidates, and that they may be taken.
use Rattle.std.proofs.Common.{◌≡◌, ℕ, zero, suc, ◌<◌, ◌≤◌, ◌⊎◌, Bool, true, false, ◌==◌, cond, length, Option, Some, None, refl, sym, ap, ◌∙◌, subst, inl, inr, arith}
use Rattle.std.specs.Prelude.{Contains, IsTrue, nat_le, not, ◌||◌, take, filter, slice_index_or, is_some}
use Rattle.std.specs.List.{list_any, range_with_len}
use Rattle.std.specs.Option.{option_map_or}
use Rattle.std.proofs.lemmas.Bool.{false≢true, eq-eqb}
use Rattle.std.proofs.lemmas.List.{get_or-take, get_or_past, length-take-le}
use Rattle.std.proofs.lemmas.List.Filters.{length-filter_both}
use Rattle.std.proofs.lemmas.List.FromFn.{length-range_with_len}
use Rattle.rv32_decode.specs.declared.Instr.{Instr}
use Rattle.rv32_decode.specs.declared.Instr.TheVariants.{Lui, Auipc, Jal, Jalr, Branch, Load, Store, OpImm, ShiftImm, Op, Fence, Ecall, Ebreak, Lr, Sc, Amo, Illegal}
use Rattle.rv32_decode.specs.Registers.{sources, destination}
use Rattle.rv32_program.specs.Targets.{aligned_target}
use Rattle.rv32_program.specs.Liveness.{uses_all, IsDeadAfter}
use Rattle.templates.specs.declared.plans.Scratch.{Scratch}
use Rattle.templates.specs.declared.plans.Scratches.{Scratches}
use Rattle.templates.specs.declared.plans.PlanEntry.{PlanEntry}
use Rattle.templates.specs.declared.plans.Template.TheVariants as template
use Rattle.templates.specs.Plans.{may_poll, closes_loop, closes_loop_at, IsScratch, HasSoMany, HasScratchesAt, StartsNoRun, StartsRun, Serves, template_of, template_at, is_flag_checked, scratch_count, no_scratch}
use Rattle.templates.specs.WholePlan.{is_own, candidates, in_order, scratches_of, IsChoice, IsSingle, IsEntry}
use Rattle.check_plan.proofs.ListLemmas.{passed, was_there, range_within, once, either, nothing, among_few, any_of}
use Rattle.check_plan.proofs.OrderLemmas.{IsGood, order_length, each_good, order_apart, rises_filter, rises_range}

own_destination : (o : Option ℕ) → length (filter (λ r. option_map_or (λ q. r == q) o false) (range_with_len 1 31)) ≤ 1
own_destination None = let none = ap (λ xs. length xs) (nothing (range_with_len 1 31)) in omega (arith, none)
own_destination (Some q) = once 1 31 q

-- there are many candidates
many : (i : Instr) → length (sources i) ≤ 2 → 28 ≤ length (candidates i)
many i few =
    let whole = length-filter_both (is_own i) (λ r. not (is_own i r)) (λ r. refl) (range_with_len 1 31) in
    let all = length-range_with_len 1 31 in
    let read = among_few (sources i) 1 31 in
    let written = own_destination (destination i) in
    let own = either (λ r. list_any (λ q. r == q) (sources i)) (λ r. option_map_or (λ q. r == q) (destination i) false) (range_with_len 1 31) in
    omega (arith, few, whole, all, read, written, own)

neither : (b c : Bool) → not (b || c) ≡ true → (b ≡ false) × (c ≡ false)
neither true c h = cc
neither false true h = cc
neither false false h = (refl, refl)

-- a good one may be taken
taken : (code : ℕ → Option Instr) (a : ℕ) (i : Instr) (dead : ℕ → Bool) (x : Scratch) → uses_all i ≡ false
    → ((r : ℕ) → Contains (candidates i) r → IsTrue (dead r) → IsDeadAfter code r a i) → IsGood dead (candidates i) x → IsScratch code a i x
taken code a i dead x stays tells h =
    let r = x.register in
    let bounds = range_within 1 31 r (was_there (λ q. not (is_own i q)) (range_with_len 1 31) r h.0) in
    let apart = neither _ _ (passed (λ q. not (is_own i q)) (range_with_len 1 31) r h.0) in
    record {
      nonzero = let low = bounds.0 in λ e. omega (arith, low, e);
      small = let high = bounds.1 in omega (arith, high);
      unused = λ u. elim u [
        | inl all ↦ false≢true (sym stays ∙ all)
        | inr reads ↦ false≢true (sym apart.0 ∙ any_of r (sources i) reads)
      ];
      undefined = λ d. false≢true (sym apart.1 ∙ ap (λ o. option_map_or (λ q. r == q) o false) d ∙ eq-eqb r r refl);
      dead = λ e. tells r h.0 (h.1 e);
    }

-- the chosen ones are those that a sequence asks for
chosen : (code : ℕ → Option Instr) (a : ℕ) (i : Instr) (count : ℕ) (x : Scratches) → count ≤ 2 → (0 < count → uses_all i ≡ false)
    → length (sources i) ≤ 2 → IsChoice code a i count x → HasSoMany count code a i x
chosen code a i count x small stays few h = subst (HasSoMany count code a i) (sym h.chosen) (go count small stays)
  where
    long : 28 ≤ length (in_order h.dead (candidates i))
    long = let e = order_length h.dead (candidates i) in let m = many i few in omega (arith, e, m)

    at : (n k : ℕ) → k < n → slice_index_or (take n (in_order h.dead (candidates i))) k no_scratch ≡ slice_index_or (in_order h.dead (candidates i)) k no_scratch
    at n k lt = get_or-take n (in_order h.dead (candidates i)) k no_scratch lt

    past : (n k : ℕ) → n ≤ 28 → n ≤ k → slice_index_or (take n (in_order h.dead (candidates i))) k no_scratch ≡ no_scratch
    past n k le lt =
        let m = long in
        let len = length-take-le n (in_order h.dead (candidates i)) (omega (arith, le, m)) in
        get_or_past (take n (in_order h.dead (candidates i))) k no_scratch (omega (arith, len, lt))

    may : (n k : ℕ) → k < n → k < 28 → uses_all i ≡ false → IsScratch code a i (slice_index_or (take n (in_order h.dead (candidates i))) k no_scratch)
    may n k lt low all =
        let m = long in
        subst (IsScratch code a i) (sym (at n k lt))
        (taken code a i h.dead (slice_index_or (in_order h.dead (candidates i)) k no_scratch) all (λ r c t. (h.dead_is r c).0 t) (each_good h.dead (candidates i) k (omega (arith, low, m))))

    go : (n : ℕ) → n ≤ 2 → (0 < n → uses_all i ≡ false) → HasSoMany n code a i (scratches_of (take n (in_order h.dead (candidates i))))
    go zero le all = refl
    go (suc zero) le all = record {
      s = may 1 0 (omega arith) (omega arith) (all (omega arith));
      t = past 1 1 (omega arith) (omega arith);
      u = past 1 2 (omega arith) (omega arith);
    }
    go (suc (suc zero)) le all = record {
      s = may 2 0 (omega arith) (omega arith) (all (omega arith));
      t = may 2 1 (omega arith) (omega arith) (all (omega arith));
      apart = λ e.
          let m = long in
          order_apart h.dead (candidates i) (rises_filter (λ r. not (is_own i r)) 0 (range_with_len 1 31) (rises_range 0 1 31 (omega arith))) 0 1 (omega arith) (omega (arith, m)) (sym (ap (λ y. y.register) (at 2 0 (omega arith))) ∙ e ∙ ap (λ y. y.register) (at 2 1 (omega arith)));
      u = past 2 2 (omega arith) (omega arith);
    }
    go (suc (suc (suc n))) le all = absurd (omega (arith, le))

-- what the template of an instruction takes
takes : (i : Instr) (a : ℕ) → (scratch_count (template_of i a) ≤ 2) × (0 < scratch_count (template_of i a) → uses_all i ≡ false) × (length (sources i) ≤ 2)
takes (Lui rd upper) a = (omega arith, λ h. refl, omega arith)
takes (Auipc rd upper) a = (omega arith, λ h. refl, omega arith)
takes (Jal rd offset) a = go (is_some (aligned_target (Jal rd offset) a))
  where
    go : (b : Bool) → (scratch_count (cond b template.Jump template.JumpBad) ≤ 2) × (0 < scratch_count (cond b template.Jump template.JumpBad) → uses_all (Jal rd offset) ≡ false) × (0 ≤ 2)
    go true = (omega arith, λ h. refl, omega arith)
    go false = (omega arith, λ h. refl, omega arith)
takes (Jalr rd rs1 imm) a = (omega arith, λ h. absurd (omega (arith, h)), omega arith)
takes (Branch c rs1 rs2 offset) a = go (is_some (aligned_target (Branch c rs1 rs2 offset) a))
  where
    go : (b : Bool) → (scratch_count (cond b template.Branch template.BranchBad) ≤ 2) × (0 < scratch_count (cond b template.Branch template.BranchBad) → uses_all (Branch c rs1 rs2 offset) ≡ false) × (2 ≤ 2)
    go true = (omega arith, λ h. refl, omega arith)
    go false = (omega arith, λ h. refl, omega arith)
takes (Load k rd rs1 imm) a = go (is_flag_checked k rd rs1)
  where
    go : (b : Bool) → (scratch_count (cond b template.FlagLoad template.StateLoad) ≤ 2) × (0 < scratch_count (cond b template.FlagLoad template.StateLoad) → uses_all (Load k rd rs1 imm) ≡ false) × (1 ≤ 2)
    go true = (omega arith, λ h. refl, omega arith)
    go false = (omega arith, λ h. refl, omega arith)
takes (Store w rs1 rs2 imm) a = (omega arith, λ h. refl, omega arith)
takes (OpImm o rd rs1 imm) a = (omega arith, λ h. refl, omega arith)
takes (ShiftImm o rd rs1 amount) a = (omega arith, λ h. refl, omega arith)
takes (Op o rd rs1 rs2) a = (omega arith, λ h. refl, omega arith)
takes (Fence rd rs1 bits) a = (omega arith, λ h. refl, omega arith)
takes Ecall a = (omega arith, λ h. absurd (omega (arith, h)), omega arith)
takes Ebreak a = (omega arith, λ h. absurd (omega (arith, h)), omega arith)
takes (Lr rd rs1 aq rl) a = (omega arith, λ h. refl, omega arith)
takes (Sc rd rs1 rs2 aq rl) a = (omega arith, λ h. refl, omega arith)
takes (Amo o rd rs1 rs2 aq rl) a = (omega arith, λ h. refl, omega arith)
takes (Illegal word) a = (omega arith, λ h. absurd (omega (arith, h)), omega arith)

single : (code : ℕ → Option Instr) (a : ℕ) (o : Option Instr) (x : Scratches) → IsSingle code a o x → HasScratchesAt (template_at a o) code a o x
single code a None x h = h
single code a (Some i) x h = let t = takes i a in chosen code a i (scratch_count (template_of i a)) x t.0 t.1 t.2 h

-- only a branch or a jump closes a loop
jump_polls : (a : ℕ) (o : Option ℕ) → option_map_or (λ t. nat_le t a) o false ≡ true → may_poll (cond (is_some o) template.Jump template.JumpBad) ≡ true
jump_polls a None h = absurd (false≢true h)
jump_polls a (Some t) h = refl

branch_polls : (a : ℕ) (o : Option ℕ) → option_map_or (λ t. nat_le t a) o false ≡ true → may_poll (cond (is_some o) template.Branch template.BranchBad) ≡ true
branch_polls a None h = absurd (false≢true h)
branch_polls a (Some t) h = refl

closing_polls : (i : Instr) (a : ℕ) → closes_loop i a ≡ true → may_poll (template_of i a) ≡ true
closing_polls (Jal rd offset) a h = jump_polls a (aligned_target (Jal rd offset) a) h
closing_polls (Jalr rd rs1 imm) a h = refl
closing_polls (Branch c rs1 rs2 offset) a h = branch_polls a (aligned_target (Branch c rs1 rs2 offset) a) h
closing_polls (Lui rd upper) a h = absurd (false≢true h)
closing_polls (Auipc rd upper) a h = absurd (false≢true h)
closing_polls (Load k rd rs1 imm) a h = absurd (false≢true h)
closing_polls (Store w rs1 rs2 imm) a h = absurd (false≢true h)
closing_polls (OpImm o rd rs1 imm) a h = absurd (false≢true h)
closing_polls (ShiftImm o rd rs1 amount) a h = absurd (false≢true h)
closing_polls (Op o rd rs1 rs2) a h = absurd (false≢true h)
closing_polls (Fence rd rs1 bits) a h = absurd (false≢true h)
closing_polls Ecall a h = absurd (false≢true h)
closing_polls Ebreak a h = absurd (false≢true h)
closing_polls (Lr rd rs1 aq rl) a h = absurd (false≢true h)
closing_polls (Sc rd rs1 rs2 aq rl) a h = absurd (false≢true h)
closing_polls (Amo o rd rs1 rs2 aq rl) a h = absurd (false≢true h)
closing_polls (Illegal word) a h = absurd (false≢true h)

-- an entry of the plan serves its place
polls_there : (a : ℕ) (o : Option Instr) → closes_loop_at a o ≡ true → may_poll (template_at a o) ≡ true
polls_there a None h = absurd (false≢true h)
polls_there a (Some i) h = closing_polls i a h

pub serves : (code : ℕ → Option Instr) (e : PlanEntry) → IsEntry code (closes_loop_at e.address (code e.address)) e
    → StartsNoRun e ⊎ StartsRun code e → Serves code e
serves code e h run = record {
  template = h.template;
  single = subst (λ t. HasScratchesAt t code e.address (code e.address) e.single) (sym h.template) (single code e.address (code e.address) e.single h.single);
  may_poll = λ p. ap may_poll h.template ∙ polls_there e.address (code e.address) (sym h.polls ∙ p);
  polls = λ p. h.polls ∙ p;
  run = run;
}
