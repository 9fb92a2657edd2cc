-- Whole sequences, from body to body.
use Rattle.std.proofs.lemmas.Option.{slice_get_within}
use Rattle.std.proofs.Common.{◌≡◌, ◌≢◌, ℕ, zero, suc, ◌+◌, ◌*◌, ◌/◌, ◌%◌, ◌^◌, ◌<◌, ◌≤◌, Bool, true, false, ◌==◌, List, [], ◌∷◌, Option, Some, None, refl, sym, ap, ◌∙◌, subst, arith}
use Rattle.std.specs.Prelude.{bit_and, bit_or, slice_index, slice_index_or}
use Rattle.rv32_decode.specs.declared.Cond.{Cond}
use Rattle.rv32_decode.specs.declared.LoadKind.{LoadKind}
use Rattle.rv32_decode.specs.declared.LoadKind.TheVariants.{Word as WordLoad}
use Rattle.rv32_decode.specs.declared.Width.{Width}
use Rattle.rv32_ops.specs.Operations.{taken}
use Rattle.rv32_program.specs.Program.{Program}
use Rattle.node_memory.specs.exec_map.Contents.{program_of}
use Rattle.node_memory.specs.rv32_step.Memory.{load_value}
use Rattle.node_memory.specs.rv32_step.Registers.{reg, registers_of}
use Rattle.node_memory.specs.micro_op.Kinds.{branch_kind, kind_of_load, store_kind}
use Rattle.node_memory.specs.micro_op.declared.micro_op.MicroOp.{MicroOp}
use Rattle.node_memory.specs.micro_op.declared.MicroKind.{MicroKind}
use Rattle.node_memory.specs.micro_op.Micro.{Enters, Meaning, meaning_by, meaning_of, sum_address}
use Rattle.node_memory.specs.jump_map.Image.{image_base, most_words}
use Rattle.node_memory.specs.jump_map.Strides.{IsEntry, IsFlagged, IsJump, IsNumber, IsOver, IsPolled, IsRead, IsReadHead, IsWrite, IsWriteHead, StandsAt}
use Rattle.node_memory.specs.node_model.Node.{Node, NodeMemory, ProcessorState, Work, byte_at, can_execute, is_readable_state, is_writable_state, lane_stored, local_stored, set_register}
use Rattle.node_words.specs.declared.exec_state.ExecState.{ExecState}
use Rattle.node_words.specs.Address.{word_address}
use Rattle.node_words.specs.GoingOn.{GoesFurther, node_on}
use Rattle.node_words.specs.Runs.{GoesOnBy, numbers_from}
use Rattle.node_memory.specs.Shelf.{Ground, ground_of, local_of}
use Rattle.node_words.specs.Kept.{StepsTo, lane_of}
use Rattle.node_words.specs.declared.strides.Going.{Going}
use Rattle.node_words.specs.Strides.{Gives, IsStored, IsTried, StepsBy, StridesBy, left_by_check, left_by_head, left_one, state_at, straight}
use Rattle.node_words.proofs.StepLemmas.{micro_step}
use Rattle.node_words.proofs.AlongLemmas.{BodyCrosses, BodyReaches, body_one, further_both}
use Rattle.node_words.proofs.StrideLemmas.{strides_both, tried_stride}
use Rattle.node_words.proofs.ReachLemmas.{Code, Crosses, Reaches, ReachesTold, are_then, goes_on_both, node_with, reaches_both, stands_in}
use Rattle.node_words.proofs.SequenceLemmas.{jump_behind_reaches, jump_reaches, number_reaches, over_reaches, placed, poll_reaches, read_reaches, write_reaches}
use Rattle.node_words.proofs.FlagLemmas.{flag_reaches}
use Rattle.node_words.proofs.HeadLemmas.{read_head_reaches, write_head_reaches}

-- a scratch register is left so wherever the processor is

one_placed : (spilled : Bool) (word r v e : ℕ) (l : ProcessorState)
    → placed (left_one spilled word r v l) e ≡ left_one spilled word r v (placed l e)
one_placed true word r v e l = refl
one_placed false word r v e l = refl

check_placed : (n s t e : ℕ) (l : ProcessorState) → placed (left_by_check n s t l) e ≡ left_by_check n s t (placed l e)
check_placed n s t e l =
    one_placed _ 1 t 0x80000000 e (left_one (n == 2) 0 s 0 l)
    ∙ ap (left_one _ 1 t 0x80000000) (one_placed (n == 2) 0 s 0 e l)

head_placed : (n s t u v e : ℕ) (l : ProcessorState)
    → placed (left_by_head n s t u v l) e ≡ left_by_head n s t u v (placed l e)
head_placed n s t u v e l =
    one_placed _ 2 u v e (left_one _ 1 t 0x80000000 (left_one (n == 3) 0 s 0 l))
    ∙ ap (left_one _ 2 u v) (one_placed _ 1 t 0x80000000 e (left_one (n == 3) 0 s 0 l)
    ∙ ap (left_one _ 1 t 0x80000000) (one_placed (n == 3) 0 s 0 e l))

-- words that lead to what a body stands for lead to that body

further_by : (c : Code) (at words at' k : ℕ) (b b' : ExecState) → c.program ≡ program_of b.local.program
    → ground_of b'.local ≡ ground_of b.local
    → ((work : Work) (n : Node) → work.program ≡ c.program → work.image ≡ c.image → can_execute n.phase ≡ true
    → n.executed + words + k < work.budget → GoesOnBy work k (node_on n b at words) (node_on n b' at' (words + k)))
    → GoesFurther c.image b at words b' at' (words + k)
further_by c at words at' k b b' same ground leads = record {
  more = omega arith;
  ground_same = ground;
  goes = λ most from first few grounds on. λ work n image program may room.
      goes_on_both work words k (words + k) (node_on n first from 0) (node_on n b at words) (node_on n b' at' (words + k)) refl
      (on work n image program may room)
      (leads work n (program ∙ sym (ap (λ (g : Ground). program_of g.program) grounds) ∙ sym same) image may
      (omega (arith, few, room)));
}

goes : (c : Code) (at at' k : ℕ) (b b' : ExecState) (l : ProcessorState) (m : NodeMemory)
    → c.program ≡ program_of b.local.program → ground_of b'.local ≡ ground_of b.local
    → lane_of b'.lane (word_address at') ≡ l → local_of b'.local ≡ m
    → Reaches c at k (lane_of b.lane (word_address at)) (local_of b.local) l m → BodyReaches c.image k b at k b' at'
goes c at at' k b b' l m same ground lane local leads =
    let start = lane_of b.lane (word_address at) in
    let there = subst (λ (x : ProcessorState). Reaches c at k start (local_of b.local) x (local_of b'.local)) (sym lane)
    (subst (λ (x : NodeMemory). Reaches c at k start (local_of b.local) l x) (sym local) leads) in
    record {
      goes = λ w. further_by c at w at' k b b' same ground (λ work n. there.goes work n w);
      words = λ work n before looks image program may room look.
          leads.words work n before looks (program ∙ sym same) image may room look;
    }

crosses : (c : Code) (told : Option ℕ) (at at' p j q : ℕ) (b b' : ExecState) (l : ProcessorState) (m : NodeMemory)
    → c.program ≡ program_of b.local.program → ground_of b'.local ≡ ground_of b.local
    → lane_of b'.lane (word_address at') ≡ l → local_of b'.local ≡ m
    → Crosses told c at p j q (lane_of b.lane (word_address at)) (local_of b.local) l m
    → BodyCrosses c.image told b at p j q b' at'
crosses c told at at' p j q b b' l m same ground lane local leads =
    let second = subst (λ (x : ProcessorState). ReachesTold told c j q leads.lane leads.memory x (local_of b'.local)) (sym lane)
    (subst (λ (x : NodeMemory). ReachesTold told c j q leads.lane leads.memory l x) (sym local) leads.second) in
    record {
      goes = λ w. further_by c at w at' (p + q) b b' same ground (λ work n program image may room.
          let behind : w + p + q ≡ w + (p + q) = omega arith in
          goes_on_both work p q (p + q) (node_on n b at w) (node_with n leads.lane leads.memory (w + p))
          (node_on n b' at' (w + (p + q))) refl (leads.first.goes work n w program image may (omega (arith, room)))
          (subst (λ (x : ℕ). GoesOnBy work q (node_with n leads.lane leads.memory (w + p)) (node_on n b' at' x)) behind
          (second.goes work n (w + p) program image may (omega (arith, room)))));
      words = λ work n before looks image program may room first other.
          are_then work looks p at (numbers_from j q) (node_on n b at before)
          (node_with n leads.lane leads.memory (before + p))
          (leads.first.goes work n before (program ∙ sym same) image may (omega (arith, room)))
          (leads.first.words work n before looks (program ∙ sym same) image may (omega (arith, room)) first)
          (leads.second.words work n (before + p) looks (program ∙ sym same) image may (omega (arith, room)) other);
    }

-- what a load gives, by the code's program
given : (c : Code) (q : LoadKind) (a v at : ℕ) (b : ExecState) → c.program ≡ program_of b.local.program → Gives b q a v
    → v ≡ load_value q (byte_at c.program (lane_of b.lane at) (local_of b.local)) a
given c q a v at b same gives =
    gives.loaded at ∙ ap (λ (p : Program). load_value q (byte_at p (lane_of b.lane at) (local_of b.local)) a) (sym same)

-- a load whose line may be read
pub read_goes : (c : Code) (at at' n a v s t rd : ℕ) (q : LoadKind) (b b' : ExecState)
    → c.program ≡ program_of b.local.program → n ≤ 2 → (there : IsRead c.micros at n (kind_of_load q)) → s ≡ there.x.s
    → t ≡ there.x.t → rd ≡ there.load.access.rd
    → a ≡ (reg (registers_of b.lane.registers) there.x.base + there.x.imm) % 2 ^ 32
    → is_readable_state ((local_of b.local).state (a / 64)) ≡ true → Gives b q a v → at' ≡ at + (9 + 2 * n)
    → ((k : ℕ) → lane_of b'.lane k ≡ set_register (left_by_check n s t (lane_of b.lane k)) rd v)
    → b'.local ≡ b.local → BodyCrosses c.image None b at (7 + n) (at + n + 8) (1 + n) b' at'
read_goes c at at' n a v s t rd q b b' same few there s_is t_is rd_is is readable gives end lane local =
    let l = lane_of b.lane (word_address at) in
    let x = there.x in
    let r = there.load.access.rd in
    let next = at + (9 + 2 * n) in
    crosses c None at at' (7 + n) (at + n + 8) (1 + n) b b' _ (local_of b.local) same (ap ground_of local)
    (lane (word_address at')
    ∙ (λ i. set_register (left_by_check n (s_is i) (t_is i) (lane_of b.lane (word_address (end i)))) (rd_is i) v)
    ∙ ap (λ (y : ProcessorState). set_register y r v) (sym (check_placed n x.s x.t next l)))
    (ap local_of local)
    (read_reaches c at n a v q l (local_of b.local) (registers_of b.lane.registers) (slice_index b.lane.spills) few there is
    readable gives.aligned gives.low (given c q a v (word_address at) b same gives))

-- a store whose line may be written
pub write_goes : (c : Code) (at at' n a v s t : ℕ) (q : Width) (b m b' : ExecState)
    → c.program ≡ program_of b.local.program → n ≤ 2 → (there : IsWrite c.micros at n (store_kind q)) → s ≡ there.x.s
    → t ≡ there.x.t → a ≡ (reg (registers_of b.lane.registers) there.x.base + there.x.imm) % 2 ^ 32
    → v ≡ reg (registers_of b.lane.registers) there.store.access.rs2
    → is_writable_state ((local_of b.local).state (a / 64)) ≡ true → IsStored b q a v m → at' ≡ at + (8 + 2 * n)
    → ((k : ℕ) → lane_of b'.lane k ≡ left_by_check n s t (lane_of m.lane k)) → b'.local ≡ m.local
    → BodyCrosses c.image None b at (6 + n) (at + n + 7) (1 + n) b' at'
write_goes c at at' n a v s t q b m b' same few there s_is t_is is value writable stored end lane local =
    let l = lane_of b.lane (word_address at) in
    let x = there.x in
    let next = at + (8 + 2 * n) in
    let leaves = stored.leaves (word_address at') in
    crosses c None at at' (6 + n) (at + n + 7) (1 + n) b b' _ (local_stored c.program (local_of b.local) q a v) same
    (ap ground_of local ∙ leaves.ground_same)
    (lane (word_address at') ∙ ap (left_by_check n s t) leaves.lane
    ∙ (λ i. left_by_check n (s_is i) (t_is i)
    (lane_stored (sym same i) (lane_of b.lane (word_address (end i))) q a v))
    ∙ sym (check_placed n x.s x.t next (lane_stored c.program l q a v)))
    (ap local_of local ∙ leaves.local ∙ ap (λ (p : Program). local_stored p (local_of b.local) q a v) (sym same))
    (write_reaches c at n a v q l (local_of b.local) (registers_of b.lane.registers) (slice_index b.lane.spills) few there is
    value writable stored.aligned stored.low)

-- a load that looks at its value
pub flag_goes : (c : Code) (at at' n a v s r : ℕ) (b b' : ExecState) → c.program ≡ program_of b.local.program → n ≤ 1
    → (there : IsFlagged c.micros at n) → s ≡ there.s → r ≡ there.v
    → a ≡ (reg (registers_of b.lane.registers) there.base + there.imm) % 2 ^ 32 → Gives b WordLoad a v
    → v ≢ 0xffffff03 → at' ≡ at + (7 + 2 * n)
    → ((k : ℕ) → lane_of b'.lane k ≡ set_register (left_one (n == 1) 0 s 0xffffff03 (lane_of b.lane k)) r v)
    → b'.local ≡ b.local → BodyCrosses c.image (Some (at + (n + 2))) b at (5 + n) (at + n + 7) n b' at'
flag_goes c at at' n a v s r b b' same few there s_is r_is is gives apart end lane local =
    let l = lane_of b.lane (word_address at) in
    let next = at + (7 + 2 * n) in
    crosses c (Some (at + (n + 2))) at at' (5 + n) (at + n + 7) n b b' _ (local_of b.local) same (ap ground_of local)
    (lane (word_address at')
    ∙ (λ i. set_register (left_one (n == 1) 0 (s_is i) 0xffffff03 (lane_of b.lane (word_address (end i)))) (r_is i) v)
    ∙ ap (λ (y : ProcessorState). set_register y there.v v) (sym (one_placed (n == 1) 0 there.s 0xffffff03 next l)))
    (ap local_of local)
    (flag_reaches c at n a v l (local_of b.local) (registers_of b.lane.registers) (slice_index b.lane.spills) few there is
    gives.aligned gives.low (given c WordLoad a v (word_address at) b same gives) apart)

-- the head of a batch that only loads
pub read_head_goes : (c : Code) (at at' n : ℕ) (b b' : ExecState) → c.program ≡ program_of b.local.program → n ≤ 3
    → (there : IsReadHead c.micros at n)
    → bit_and (bit_or (state_at b there.head.x.base there.head.x.imm) (state_at b there.head.x.base there.head.high)) 2 ≡ 0
    → at' ≡ at + (16 + 2 * n)
    → ((k : ℕ) → lane_of b'.lane k ≡ left_by_head n there.head.x.s there.head.x.t there.head.u
    (state_at b there.head.x.base there.head.high) (lane_of b.lane k))
    → b'.local ≡ b.local → BodyCrosses c.image None b at (12 + n) (at + n + 16) n b' at'
read_head_goes c at at' n b b' same few there clear end lane local =
    let l = lane_of b.lane (word_address at) in
    let h = there.head in
    let x = h.x in
    let next = at + (16 + 2 * n) in
    let state = state_at b x.base h.high in
    crosses c None at at' (12 + n) (at + n + 16) n b b' _ (local_of b.local) same (ap ground_of local)
    (lane (word_address at')
    ∙ ap (λ (i : ℕ). left_by_head n x.s x.t h.u state (lane_of b.lane (word_address i))) end
    ∙ sym (head_placed n x.s x.t h.u state next l)) (ap local_of local)
    (read_head_reaches c at n _ _ l (local_of b.local) (registers_of b.lane.registers) (slice_index b.lane.spills) few there
    refl refl clear)

-- that of one that stores
pub write_head_goes : (c : Code) (at at' n : ℕ) (b b' : ExecState) → c.program ≡ program_of b.local.program → n ≤ 3
    → (there : IsWriteHead c.micros at n)
    → bit_or (state_at b there.head.x.base there.head.x.imm) (state_at b there.head.x.base there.head.high) ≡ 0
    → at' ≡ at + (15 + 2 * n)
    → ((k : ℕ) → lane_of b'.lane k ≡ left_by_head n there.head.x.s there.head.x.t there.head.u
    (state_at b there.head.x.base there.head.high) (lane_of b.lane k))
    → b'.local ≡ b.local → BodyCrosses c.image None b at (11 + n) (at + n + 15) n b' at'
write_head_goes c at at' n b b' same few there clear end lane local =
    let l = lane_of b.lane (word_address at) in
    let h = there.head in
    let x = h.x in
    let next = at + (15 + 2 * n) in
    let state = state_at b x.base h.high in
    crosses c None at at' (11 + n) (at + n + 15) n b b' _ (local_of b.local) same (ap ground_of local)
    (lane (word_address at')
    ∙ ap (λ (i : ℕ). left_by_head n x.s x.t h.u state (lane_of b.lane (word_address i))) end
    ∙ sym (head_placed n x.s x.t h.u state next l)) (ap local_of local)
    (write_head_reaches c at n _ _ l (local_of b.local) (registers_of b.lane.registers) (slice_index b.lane.spills) few there
    refl refl clear)

-- a number, and the same with a jump behind it
pub number_goes : (c : Code) (at at' v rd : ℕ) (b b' : ExecState) → c.program ≡ program_of b.local.program
    → (there : IsNumber c.micros at) → rd ≡ there.upper.rd → v ≡ (there.upper.imm + there.lower.imm) % 2 ^ 32
    → at' ≡ at + 2 → ((k : ℕ) → lane_of b'.lane k ≡ set_register (lane_of b.lane k) rd v) → b'.local ≡ b.local
    → BodyReaches c.image 2 b at 2 b' at'
number_goes c at at' v rd b b' same there rd_is is end lane local =
    goes c at at' 2 b b' _ (local_of b.local) same (ap ground_of local)
    (lane (word_address at') ∙ ap (λ (r : ℕ). set_register (lane_of b.lane (word_address at')) r v) rd_is) (ap local_of local)
    (number_reaches c at at' v (lane_of b.lane (word_address at)) (local_of b.local) (registers_of b.lane.registers)
    (slice_index b.lane.spills) end there is)

pub call_goes : (c : Code) (at at' v rd : ℕ) (b b' : ExecState) → c.program ≡ program_of b.local.program
    → (there : IsNumber c.micros at) → rd ≡ there.upper.rd → v ≡ (there.upper.imm + there.lower.imm) % 2 ^ 32
    → (jump : IsJump c.micros (at + 2)) → at' ≡ jump.jump.imm
    → ((k : ℕ) → lane_of b'.lane k ≡ set_register (lane_of b.lane k) rd v) → b'.local ≡ b.local
    → BodyReaches c.image 3 b at 3 b' at'
call_goes c at at' v rd b b' same there rd_is is jump end lane local =
    let l = lane_of b.lane (word_address at) in
    let m = local_of b.local in
    goes c at at' 3 b b' _ m same (ap ground_of local)
    (lane (word_address at') ∙ ap (λ (r : ℕ). set_register (lane_of b.lane (word_address at')) r v) rd_is) (ap local_of local)
    (reaches_both 2 1 3 refl refl
    (number_reaches c at (at + 2) v l m (registers_of b.lane.registers) (slice_index b.lane.spills) refl there is)
    (jump_reaches c (at + 2) at' l m _ (slice_index b.lane.spills) jump end))

-- words that change nothing but where the processor is

pub poll_goes : (c : Code) (at at' : ℕ) (b : ExecState) → c.program ≡ program_of b.local.program
    → IsPolled c.micros at → at' ≡ at + 1 → BodyReaches c.image 1 b at 1 b at'
poll_goes c at at' b same there end =
    goes c at at' 1 b b _ (local_of b.local) same refl refl refl
    (poll_reaches c at at' (lane_of b.lane (word_address at)) (local_of b.local) (registers_of b.lane.registers)
    (slice_index b.lane.spills) end there)

pub jump_goes : (c : Code) (at at' : ℕ) (b : ExecState) → c.program ≡ program_of b.local.program
    → (there : IsJump c.micros at) → at' ≡ there.jump.imm → BodyReaches c.image 1 b at 1 b at'
jump_goes c at at' b same there end =
    goes c at at' 1 b b _ (local_of b.local) same refl refl refl
    (jump_reaches c at at' (lane_of b.lane (word_address at)) (local_of b.local) (registers_of b.lane.registers)
    (slice_index b.lane.spills) there end)

over_goes : (c : Code) (at at' : ℕ) (q : Cond) (b : ExecState) → c.program ≡ program_of b.local.program
    → (there : IsOver c.micros at (branch_kind q))
    → taken q (reg (registers_of b.lane.registers) there.branch.rs1) (reg (registers_of b.lane.registers) there.branch.rs2) ≡ true
    → at' ≡ at + 2 → BodyReaches c.image 1 b at 1 b at'
over_goes c at at' q b same there holds end =
    goes c at at' 1 b b _ (local_of b.local) same refl refl refl
    (over_reaches c at at' q (lane_of b.lane (word_address at)) (local_of b.local) (registers_of b.lane.registers)
    (slice_index b.lane.spills) there holds end)

jump_behind_goes : (c : Code) (at at' : ℕ) (q : Cond) (b : ExecState) → c.program ≡ program_of b.local.program
    → (there : IsOver c.micros at (branch_kind q))
    → taken q (reg (registers_of b.lane.registers) there.branch.rs1) (reg (registers_of b.lane.registers) there.branch.rs2) ≡ false
    → at' ≡ there.jump.jump.imm → BodyReaches c.image 2 b at 2 b at'
jump_behind_goes c at at' q b same there fails end =
    goes c at at' 2 b b _ (local_of b.local) same refl refl refl
    (jump_behind_reaches c at at' q (lane_of b.lane (word_address at)) (local_of b.local) (registers_of b.lane.registers)
    (slice_index b.lane.spills) there fails end)

-- behind a poll, where there is one
polled : (c : Code) (at at' n k : ℕ) (b : ExecState) → c.program ≡ program_of b.local.program → n ≤ 1
    → ((i : ℕ) → i < n → IsPolled c.micros (at + i)) → BodyReaches c.image k b (at + n) k b at'
    → BodyReaches c.image (n + k) b at (n + k) b at'
polled c at at' zero k b same few polls leads =
    let here : at + 0 ≡ at = omega arith in
    let none : k ≡ 0 + k = omega arith in
    subst (λ (i : ℕ). BodyReaches c.image i b at i b at') none
    (subst (λ (i : ℕ). BodyReaches c.image k b i k b at') here leads)
polled c at at' (suc zero) k b same few polls leads =
    let here : at + 0 ≡ at = omega arith in
    let poll = subst (λ (i : ℕ). IsPolled c.micros i) here (polls 0 (omega arith)) in
    further_both c.image 1 k (1 + k) at 1 (at + 1) k at' (1 + k) b b b refl refl (omega arith) (omega arith)
    (poll_goes c at (at + 1) b same poll refl) leads
polled c at at' (suc (suc n)) k b same few polls leads = absurd (omega (arith, few))

pub over_behind : (c : Code) (at at' n : ℕ) (q : Cond) (b : ExecState) → c.program ≡ program_of b.local.program → n ≤ 1
    → ((i : ℕ) → i < n → IsPolled c.micros (at + i)) → (there : IsOver c.micros (at + n) (branch_kind q))
    → taken q (reg (registers_of b.lane.registers) there.branch.rs1) (reg (registers_of b.lane.registers) there.branch.rs2) ≡ true
    → at' ≡ at + (n + 2) → BodyReaches c.image (n + 1) b at (n + 1) b at'
over_behind c at at' n q b same few polls there holds end =
    polled c at at' n 1 b same few polls (over_goes c (at + n) at' q b same there holds (omega (arith, end)))

pub jump_behind : (c : Code) (at at' n : ℕ) (q : Cond) (b : ExecState) → c.program ≡ program_of b.local.program → n ≤ 1
    → ((i : ℕ) → i < n → IsPolled c.micros (at + i)) → (there : IsOver c.micros (at + n) (branch_kind q))
    → taken q (reg (registers_of b.lane.registers) there.branch.rs1) (reg (registers_of b.lane.registers) there.branch.rs2) ≡ false
    → at' ≡ there.jump.jump.imm → BodyReaches c.image (n + 2) b at (n + 2) b at'
jump_behind c at at' n q b same few polls there fails end =
    polled c at at' n 2 b same few polls (jump_behind_goes c (at + n) at' q b same there fails end)

pub poll_jump_goes : (c : Code) (at at' : ℕ) (b : ExecState) → c.program ≡ program_of b.local.program
    → IsPolled c.micros at → (there : IsJump c.micros (at + 1)) → at' ≡ there.jump.imm
    → BodyReaches c.image 2 b at 2 b at'
poll_jump_goes c at at' b same poll there end =
    further_both c.image 1 1 2 at 1 (at + 1) 1 at' 2 b b b refl refl (omega arith) (omega arith)
    (poll_goes c at (at + 1) b same poll refl) (jump_goes c (at + 1) at' b same there end)

pub poll_enter_goes : (c : Code) (at at' : ℕ) (b : ExecState) → c.program ≡ program_of b.local.program
    → IsPolled c.micros at → (there : IsEntry c.micros (at + 1))
    → ((k : ℕ) → StepsTo c.image (Enters (sum_address there.entry (registers_of b.lane.registers) / 2 * 2)) k b.lane b.local b.lane b.local (Some at'))
    → BodyReaches c.image 2 b at 2 b at'
poll_enter_goes c at at' b same poll there steps =
    let op = there.entry in
    let f = registers_of b.lane.registers in
    let is = stands_in c (at + 1) op there.there in
    let means : meaning_of image_base op f ≡ Enters (sum_address op f / 2 * 2) =
    ap (λ (k : MicroKind). meaning_by k image_base op f) there.is in
    further_both c.image 1 1 2 at 1 (at + 1) 1 at' 2 b b b refl refl (omega arith) (omega arith)
    (poll_goes c at (at + 1) b same poll refl)
    (body_one c.image (at + 1) at' b b c.few (slice_get_within c.image (at + 1) is.cell is.there)
    (micro_step c.image op (at + 1) b.lane b.local b.lane b.local (Some at') is.cell c.few is.there is.micro
    (subst (λ (x : Meaning). StepsTo c.image x (at + 1) b.lane b.local b.lane b.local (Some at')) (sym means) (steps (at + 1)))))

-- a micro-op that stands at a number

pub read_at : (micros : List MicroOp) (k : ℕ) (none m : MicroOp) → StandsAt micros k m → slice_index_or micros k none ≡ m
read_at [] k none m is = absurd (cc)
read_at (x ∷ xs) zero none m is = cc
read_at (x ∷ xs) (suc k) none m is = read_at xs k none m is

-- an element that was read is the one that stands there
pub found_at : (micros : List MicroOp) (k : ℕ) (found m : MicroOp) → found ≡ slice_index_or micros k found
    → StandsAt micros k m → found ≡ m
found_at micros k found m is stands = is ∙ read_at micros k found m stands

pub stands_low : (c : Code) (k : ℕ) (m : MicroOp) → StandsAt c.micros k m → k < most_words
stands_low c k m stands =
    let is = stands_in c k m stands in
    let below = slice_get_within c.image k is.cell is.there in
    let few = c.few in
    omega (arith, below, few)

-- an operation, and a stride behind it

pub op_then : (c : Code) (reach : ℕ) (op : MicroOp) (from mid to : Going) (b m b' : ExecState) (t t' : Bool)
    → StandsAt c.micros from.at op → mid.at ≡ from.at + 1 → t ≡ true → t' ≡ true
    → IsTried t (StepsBy c.image op from b mid m) from b mid m
    → IsTried t' (StridesBy c.image (straight reach) mid m to b') mid m to b'
    → IsTried t' (StridesBy c.image (straight (1 + reach)) from b to b') from b to b'
op_then c reach op from mid to b m b' t t' here place done also first second =
    let one = subst (λ (r : Bool). IsTried r (StepsBy c.image op from b mid m) from b mid m) done first in
    let two = subst (λ (r : Bool). IsTried r (StridesBy c.image (straight reach) mid m to b') mid m to b') also second in
    subst (λ (r : Bool). IsTried r (StridesBy c.image (straight (1 + reach)) from b to b') from b to b') (sym also)
    (strides_both c.image reach op from mid to b m b' c.few (stands_in c from.at op here) place one two)

-- and where that is another operation
pub op_then_op : (c : Code) (op next found : MicroOp) (from mid to : Going) (b m b' : ExecState) (t t' : Bool)
    → StandsAt c.micros from.at op → StandsAt c.micros (from.at + 1) next → found ≡ next → mid.at ≡ from.at + 1
    → t ≡ true → t' ≡ true → IsTried t (StepsBy c.image op from b mid m) from b mid m
    → IsTried t' (StepsBy c.image found mid m to b') mid m to b'
    → IsTried t' (StridesBy c.image (straight 2) from b to b') from b to b'
op_then_op c op next found from mid to b m b' t t' here behind is place done also first second =
    let there = subst (λ (k : ℕ). StandsAt c.micros k found) (sym place)
    (subst (λ (x : MicroOp). StandsAt c.micros (from.at + 1) x) (sym is) behind) in
    op_then c 1 op from mid to b m b' t t' here place done also first
    (tried_stride t' c.image found mid to m b' c.few (stands_in c mid.at found there) second)
