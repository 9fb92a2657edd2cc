-- Loads that look at their value: what their words do one after another.
use Rattle.std.proofs.Common.{◌≡◌, ◌≢◌, ℕ, zero, suc, ◌+◌, ◌*◌, ◌%◌, ◌^◌, ◌<◌, ◌≤◌, Bool, true, false, Some, eqb, if◌then◌else◌, ◌==◌, inl, inr, refl, sym, ap, ◌∙◌, subst, arith}
use Rattle.std.proofs.lemmas.Bool.Decides.{leb_tells, nat_tests}
use Rattle.rv32_decode.specs.declared.Cond.TheVariants.{Lt, Ne}
use Rattle.rv32_decode.specs.declared.LoadKind.TheVariants.{Word as WordLoad}
use Rattle.rv32_decode.specs.declared.Width.TheVariants.{Word}
use Rattle.rv32_decode.specs.Widths.{is_aligned}
use Rattle.rv32_ops.specs.Operations.{alu, taken}
use Rattle.node_memory.specs.rv32_step.Memory.{load_value}
use Rattle.node_memory.specs.rv32_step.Registers.{reg, put}
use Rattle.node_memory.specs.rv32_step.Demands.{branch_demand}
use Rattle.node_memory.specs.rv32_step.declared.Demand.TheVariants.{Loads, Sets}
use Rattle.node_memory.specs.micro_op.declared.MicroKind.TheVariants as kind
use Rattle.node_memory.specs.micro_op.Micro.{Demands}
use Rattle.node_memory.specs.jump_map.Strides.{IsFlagged, StandFrom, flag_look, op_of}
use Rattle.node_memory.specs.node_model.Node.{ProcessorState, NodeMemory, byte_at, set_register}
use Rattle.node_words.specs.Address.{word_address}
use Rattle.node_words.specs.Strides.{left_one}
use Rattle.node_words.proofs.ReachLemmas.{Code, Crosses, ReachesTold, reaches_both, reaches_none, reaches_told}
use Rattle.node_words.proofs.RegisterLemmas.{put_here, put_other, put_over, reg_zero, second_back}
use Rattle.node_words.proofs.OneWord.{branches_to, keeps, lane_at, loads_other, passes, sets, takes}
use Rattle.node_words.proofs.SequenceLemmas.{begins, placed, stands_too}

-- an address below the state table isn't negative
not_negative : (a : ℕ) → a < 2 ^ 31 → taken Lt a 0 ≡ false
unfolding taken
not_negative a below = elim (leb_tells (suc a) (2 ^ 31)) [
  | inl low ↦ rw low.0 (grind (arith, nat_tests))
  | inr high ↦ absurd (omega (arith, below, high.1))
]

unlike : (v w : ℕ) → v ≢ w → taken Ne v w ≡ true
unfolding taken
unlike v w n = let t : eqb v w ≡ false = grind (arith, nat_tests) in rw t refl

-- but for the spill
checked_flag : (c : Code) (k s r base imm a v : ℕ) (l : ProcessorState) (m : NodeMemory) (f g : ℕ → ℕ) → s ≢ r → s ≢ base
    → s ≢ 0 → r ≢ 0 → StandFrom c.micros k (flag_look k s r base imm) → a ≡ (reg f base + imm) % 2 ^ 32
    → is_aligned Word a ≡ true → a < 2 ^ 31 → v ≡ load_value WordLoad (byte_at c.program l m) a → v ≢ 0xffffff03
    → ReachesTold (Some (k + 2)) c k 5 (lane_at l f g k) m (lane_at l (put (put f s 0xffffff03) r v) g (k + 7)) m
unfolding alu
checked_flag c k s r base imm a v l m f g s_r s_base s_kept r_kept look is aligned low value apart =
    let f1 = put f s a in
    let f2 = put f1 r v in
    let f3 = put (put f s 0xffffff03) r v in
    let at = word_address (k + 5) in
    let past = word_address (k + 7) in
    let got = put_here f s a s_kept in
    let kept : (reg f1 base + imm) % 2 ^ 32 ≡ a =
    ap (λ (z : ℕ). (z + imm) % 4294967296) (put_other f s base a (λ e. s_base (sym e))) ∙ sym is in
    let r3 = put_here (put f s 0xffffff03) r v r_kept in
    let s3 = put_other (put f s 0xffffff03) r s v s_r ∙ put_here f s 0xffffff03 s_kept in
    let one = sets c k (k + 1) (op_of kind.AddImm s base 0 imm) s a l m f g f1 refl
    (begins c.micros k (flag_look k s r base imm) (op_of kind.AddImm s base 0 imm) look refl)
    (ap (λ (z : ℕ). Demands (Sets s z)) (sym is)) refl in
    let two = passes c (k + 1) (k + 2) (op_of kind.BranchLt 0 s 0 (k + 5)) l m f1 g (omega arith) (look 1 _ refl)
    ((λ t. Demands (branch_demand (taken Lt (got t) (reg_zero f1 t)) at))
    ∙ ap (λ (b : Bool). Demands (branch_demand b at)) (not_negative a low)) in
    let three = loads_other c (k + 2) (k + 3) (op_of kind.LoadWord r base 0 imm) r a v l m f1 g (omega arith)
    (look 2 _ refl) (ap (λ (z : ℕ). Demands (Loads WordLoad r z)) kept) aligned low value apart in
    let four = sets c (k + 3) (k + 4) (op_of kind.AddImm s 0 0 0xffffff03) s 0xffffff03 l m f2 g f3 (omega arith)
    (look 3 _ refl) (λ t. Demands (Sets s ((reg_zero f2 t + 0xffffff03) % 4294967296)))
    (sym (put_over f s r a v 0xffffff03 s_r)) in
    let five = branches_to c (k + 4) (k + 7) (op_of kind.BranchNe 0 r s (k + 7)) l m f3 g (look 4 _ refl)
    ((λ t. Demands (branch_demand (taken Ne (r3 t) (s3 t)) past))
    ∙ ap (λ (b : Bool). Demands (branch_demand b past)) (unlike v 0xffffff03 apart)) in
    let before = reaches_told (k + 2) c k 2 _ m _ m (λ x from to is. omega (arith, to, is)) (reaches_both 1 1 2 refl refl one two) in
    let behind = reaches_told (k + 2) c (k + 3) 2 _ m _ m (λ x from to is. omega (arith, from, is))
    (reaches_both 1 1 2 refl (omega arith) four five) in
    reaches_both 3 2 5 refl refl (reaches_both 2 1 3 refl refl before three) behind

pub flag_reaches : (c : Code) (k n a v : ℕ) (l : ProcessorState) (m : NodeMemory) (f g : ℕ → ℕ) → n ≤ 1
    → (there : IsFlagged c.micros k n) → a ≡ (reg f there.base + there.imm) % 2 ^ 32 → is_aligned Word a ≡ true
    → a < 2 ^ 31 → v ≡ load_value WordLoad (byte_at c.program l m) a → v ≢ 0xffffff03
    → Crosses (Some (k + (n + 2))) c k (5 + n) (k + n + 7) n (lane_at l f g k) m
    (placed (set_register (left_one (n == 1) 0 there.s 0xffffff03 (lane_at l f g k)) there.v v) (k + (7 + 2 * n))) m
flag_reaches c k zero a v l m f g few there is aligned low value unlike =
    let f1 = put (put f there.s 0xffffff03) there.v v in
    let start : k + 0 ≡ k = omega arith in
    let last = lane_at l f1 g (k + 7) in
    record {
      lane = last;
      memory = m;
      first = subst (λ (z : ℕ). ReachesTold (Some (z + 2)) c z 5 (lane_at l f g z) m (lane_at l f1 g (z + 7)) m) start
          (checked_flag c (k + 0) there.s there.v there.base there.imm a v l m f g there.apart there.base_kept there.s_kept
          there.v_kept there.look is aligned low value unlike);
      second = reaches_none (Some (k + 2)) c (k + 0 + 7) last m;
    }
flag_reaches c k (suc zero) a v l m f g few there is aligned low value unlike =
    let s = there.s in
    let r = there.v in
    let h = λ (i : ℕ). if i == 0 then reg f s else g i in
    let one = keeps c k (k + 1) 0 s l m f g refl (omega arith)
    (stands_too c.micros (k + 0) k _ (omega arith) (there.keep 0 s (omega arith) refl)) in
    let two = checked_flag c (k + 1) s r there.base there.imm a v l m f h there.apart there.base_kept there.s_kept
    there.v_kept there.look is aligned low value unlike in
    let three = takes c (k + 1 + 7) (k + 9) 0 s l m (put (put f s 0xffffff03) r v) h (put f r v) (omega arith) (omega arith)
    (stands_too c.micros (k + 1 + 7 + 0) (k + 1 + 7) _ (omega arith) (there.take 0 s (omega arith) refl))
    (sym (second_back f s r 0xffffff03 v (reg f s) there.apart refl)) in
    let told : k + 1 + 2 ≡ k + 3 = omega arith in
    subst (λ (z : ℕ). Crosses (Some z) c k 6 (k + 1 + 7) 1 (lane_at l f g k) m (lane_at l (put f r v) h (k + 9)) m) told
    (record {
      lane = lane_at l (put (put f s 0xffffff03) r v) h (k + 1 + 7);
      memory = m;
      first = reaches_both 1 5 6 refl refl
          (reaches_told (k + 1 + 2) c k 1 _ m _ m (λ x from to is. omega (arith, to, is)) one) two;
      second = reaches_told (k + 1 + 2) c (k + 1 + 7) 1 _ m _ m (λ x from to is. omega (arith, from, is)) three;
    })
flag_reaches c k (suc (suc n)) a v l m f g few there is aligned low value unlike = absurd (omega (arith, few))
