-- Helps the code alone: a sequence while it is written.
use Rattle.std.specs.Prelude.{◌≡◌, ℕ, pos, ◌+◌, ◌*◌, ◌++◌, List, [], map}
use Rattle.rv32_decode.specs.declared.Cond.TheVariants.{Eq}
use Rattle.rv32_decode.specs.declared.LoadKind.TheVariants as load_kind
use Rattle.rv32_decode.specs.declared.Op.TheVariants as op
use Rattle.rv32_decode.specs.declared.ImmOp.TheVariants as imm_op
use Rattle.rv32_decode.specs.declared.ShiftOp.TheVariants as shift_op
use Rattle.rv32_decode.specs.declared.Instr.TheVariants.{Jal, Branch, Load, OpImm, ShiftImm, Op}
use Rattle.templates.specs.declared.plans.Scratches.{Scratches}
use Rattle.runtime_words.specs.declared.RtWord.TheVariants.{Batch}
use Rattle.templates.specs.declared.words.Item.{Item}
use Rattle.rv32_decode.specs.declared.Cond.{Cond}
use Rattle.templates.specs.Sequences.{SequenceItem, own, checking, state_look, jump_sequence, branch_sequence, is_multiple_of_four}
use Rattle.templates.specs.Runs.{Reach}
use Rattle.templates.specs.Expansion.{reads, words_of}

-- the words read as these items
abbrev pub IsWritten : List Item → List SequenceItem → Type 0
IsWritten words items = map reads words ≡ words_of items

-- words that read as these items were appended
abbrev pub IsLonger : List Item → List Item → List SequenceItem → Type 0
IsLonger old new items = map reads new ≡ map reads old ++ words_of items

-- the sequence of a jump, and of a branch, to this address
abbrev pub jump_items : ℕ → ℕ → ℕ → List SequenceItem
jump_items rd next target = jump_sequence (is_multiple_of_four target) rd next target

abbrev pub branch_items : Cond → ℕ → ℕ → ℕ → List SequenceItem
branch_items c rs1 rs2 target = branch_sequence (is_multiple_of_four target) c rs1 rs2 target

-- the head of a batch: the states of both lines, together in s
abbrev pub run_states : Scratches → Reach → List SequenceItem → List SequenceItem
run_states x reach rest =
    state_look x reach.base reach.low
    (own (OpImm imm_op.Add x.u.register reach.base reach.high)
    (own (ShiftImm shift_op.Srl x.u.register x.u.register 6)
    (own (Op op.Add x.u.register x.u.register x.t.register)
    (own (Load load_kind.ByteU x.u.register x.u.register (pos 0))
    (own (Op op.Or x.s.register x.s.register x.u.register) rest)))))

-- and the wait, where they don't let the run go on
abbrev pub run_wait : Scratches → Reach → ℕ → List SequenceItem
run_wait x reach fast =
    own (Branch Eq x.s.register 0 (pos 20))
    (own (OpImm imm_op.Add x.s.register reach.base reach.low)
    (own (OpImm imm_op.Add x.u.register reach.base reach.high)
    (checking (Batch reach.stores x.s.register x.u.register)
    (own (Jal 0 (pos (4 * (fast + 1)))) []))))
