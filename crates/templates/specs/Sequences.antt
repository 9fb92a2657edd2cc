-- The templates: the sequence of words that stands for each place.
use Rattle.std.specs.Prelude.{ℕ, ℤ, pos, ◌+◌, ◌-◌, ◌*◌, ◌/◌, ◌%◌, ◌^◌, ◌++◌, Bool, true, false, ◌==◌, List, [], ◌∷◌, length, Option, Some, None}
use Rattle.rv32_decode.specs.Fields.{signed}
use Rattle.rv32_decode.specs.Widths.{width_of}
use Rattle.rv32_decode.specs.declared.Cond.{Cond}
use Rattle.rv32_decode.specs.declared.Cond.TheVariants.{Eq, Ne, Lt, Ge, Ltu, Geu}
use Rattle.rv32_decode.specs.declared.LoadKind.{LoadKind}
use Rattle.rv32_decode.specs.declared.LoadKind.TheVariants as load_kind
use Rattle.rv32_decode.specs.declared.Width.{Width}
use Rattle.rv32_decode.specs.declared.Width.TheVariants.{Word}
use Rattle.rv32_decode.specs.declared.Op.TheVariants as op
use Rattle.rv32_decode.specs.declared.ImmOp.TheVariants as imm_op
use Rattle.rv32_decode.specs.declared.ShiftOp.TheVariants as shift_op
use Rattle.rv32_decode.specs.declared.Instr.{Instr}
use Rattle.rv32_decode.specs.declared.Instr.TheVariants.{Lui, Auipc, Jal, Jalr, Branch, Load, Store, OpImm, ShiftImm, Op, Ecall, Lr, Sc, Amo, Ebreak, Illegal}
use Rattle.rv32_program.specs.Targets.{offset_address}
use Rattle.runtime_words.specs.declared.RtWord.{RtWord}
use Rattle.runtime_words.specs.declared.RtWord.TheVariants.{Native, MissR, MissW, Poll, Call, Xjalr, Batch, Prepare, TrapFetch, TrapIllegal, TrapEbreak}
use Rattle.templates.specs.declared.commits.CommitKind.{CommitKind}
use Rattle.templates.specs.declared.commits.CommitKind.TheVariants.{Never, Always, IfNotFlag, IfNoWait}
use Rattle.templates.specs.declared.plans.Scratch.{Scratch}
use Rattle.templates.specs.declared.plans.Scratches.{Scratches}
use Rattle.templates.specs.declared.plans.PlanEntry.{PlanEntry}
use Rattle.templates.specs.declared.places.Part.{Part}
use Rattle.templates.specs.declared.places.Part.TheVariants.{Single, Head, Fast, Fallback}
use Rattle.templates.specs.Plans.{is_flag_checked}
use Rattle.templates.specs.Runs.{Reach, reach_of, code_from}

-- a word of a sequence: a word that is executed, or a jump to a place, there to the head of its
-- sequences or to its single sequence
pub data ItemWord : Type 0 where
  Runs : (what : RtWord) → ItemWord
  GoesTo : (place : ℕ) (head : Bool) → ItemWord

-- a word of a sequence, and when it commits a step of the original
pub record SequenceItem : Type 0 where
  pub what : ItemWord
  pub commit : CommitKind

-- a word of this kind of commit, before the rest
abbrev pub with_word : CommitKind → RtWord → List SequenceItem → List SequenceItem
with_word kind w rest = record { what = Runs w; commit = kind } ∷ rest

-- a word that commits
abbrev pub committing : RtWord → List SequenceItem → List SequenceItem
committing w rest = with_word Always w rest

-- a runtime word that doesn't commit
abbrev pub checking : RtWord → List SequenceItem → List SequenceItem
checking w rest = with_word Never w rest

-- a native word that doesn't commit
abbrev pub own : Instr → List SequenceItem → List SequenceItem
own i rest = checking (Native i) rest

-- a jump to the head of a place
abbrev pub to_head : ℕ → List SequenceItem
to_head place = record { what = GoesTo place true; commit = Never } ∷ []

-- the two instructions that put a number into a register
abbrev pub upper_part : ℕ → ℕ
upper_part number = (number + 0x800) / 2 ^ 12 % 2 ^ 20

abbrev pub lower_part : ℕ → ℤ
lower_part number = signed 12 (number % 2 ^ 12)

abbrev pub constant : ℕ → ℕ → List SequenceItem → List SequenceItem
constant rd number rest =
    own (Lui rd (upper_part number))
    (committing (Native (OpImm imm_op.Add rd rd (lower_part number))) rest)

abbrev pub inverse : Cond → Cond
inverse Eq = Ne
inverse Ne = Eq
inverse Lt = Ge
inverse Ge = Lt
inverse Ltu = Geu
inverse Geu = Ltu

-- the spill words, at -4, -8 and -12
abbrev pub spill_offset : ℕ → ℤ
spill_offset k = signed 12 (2 ^ 12 - 4 - 4 * k)

-- a spilled register goes to spill word k
abbrev pub spill_by : Bool → ℕ → ℕ → List SequenceItem → List SequenceItem
spill_by true k r rest = own (Store Word 0 r (spill_offset k)) rest
spill_by false k r rest = rest

abbrev pub spill : ℕ → Scratch → List SequenceItem → List SequenceItem
spill k x rest = spill_by x.spilled k x.register rest

-- and comes back
abbrev pub reload_by : Bool → ℕ → ℕ → List SequenceItem → List SequenceItem
reload_by true k r rest = own (Load load_kind.Word r 0 (spill_offset k)) rest
reload_by false k r rest = rest

abbrev pub reload : ℕ → Scratch → List SequenceItem → List SequenceItem
reload k x rest = reload_by x.spilled k x.register rest

-- the registers s and t are spilled first, and come back last
abbrev pub spills : Scratches → List SequenceItem → List SequenceItem
spills x rest = spill 0 x.s (spill 1 x.t rest)

abbrev pub reloads : Scratches → List SequenceItem
reloads x = reload 0 x.s (reload 1 x.t [])

-- the state byte of the line of an address, in s: the state table is at 0x80000000, a byte for each
-- line of 64 bytes
abbrev pub state_look : Scratches → ℕ → ℤ → List SequenceItem → List SequenceItem
state_look x rs1 imm rest =
    own (OpImm imm_op.Add x.s.register rs1 imm)
    (own (Lui x.t.register 0x80000)
    (own (ShiftImm shift_op.Srl x.s.register x.s.register 6)
    (own (Op op.Add x.s.register x.s.register x.t.register)
    (own (Load load_kind.ByteU x.s.register x.s.register (pos 0)) rest))))

-- the flag word, which a node's copy holds wherever it may not be read
abbrev pub flag_word : ℕ
flag_word = 0xffffff03

-- the flag check of Shasta (Scales, Gharachorloo and Thekkath, ASPLOS 1996): a load that looks at
-- its value, which is the flag word where the line may not be read. Only then, and for an address
-- of the upper half, the line's state is looked at, and the word loaded again
abbrev pub flag_load_sequence : Scratches → ℕ → ℕ → ℤ → List SequenceItem
flag_load_sequence x rd rs1 imm =
    spill 0 x.s
    (own (OpImm imm_op.Add x.s.register rs1 imm)
    (own (Branch Lt x.s.register 0 (pos 16))
    (with_word IfNotFlag (Native (Load load_kind.Word rd rs1 imm))
    (own (OpImm imm_op.Add x.s.register 0 (lower_part flag_word))
    (own (Branch Ne rd x.s.register (pos 12))
    (checking (MissR Word rs1 imm)
    (committing (Native (Load load_kind.Word rd rs1 imm))
    (reload 0 x.s []))))))))

-- a load, or an LR, whose line's state is tested: the second bit of the state byte is set where the
-- line isn't readable
abbrev pub read_sequence : Scratches → Width → ℕ → ℤ → Instr → List SequenceItem
read_sequence x w rs1 imm i =
    spills x (state_look x rs1 imm
    (own (OpImm imm_op.And x.s.register x.s.register (pos 2))
    (own (Branch Eq x.s.register 0 (pos 8))
    (checking (MissR w rs1 imm) (committing (Native i) (reloads x))))))

abbrev pub state_load_sequence : Scratches → LoadKind → ℕ → ℕ → ℤ → List SequenceItem
state_load_sequence x k rd rs1 imm = read_sequence x (width_of k) rs1 imm (Load k rd rs1 imm)

-- a load, by its value or its line's state
abbrev pub load_sequence : Bool → Scratches → LoadKind → ℕ → ℕ → ℤ → List SequenceItem
load_sequence true x k rd rs1 imm = flag_load_sequence x rd rs1 imm
load_sequence false x k rd rs1 imm = state_load_sequence x k rd rs1 imm

-- a store, or an AMO, whose line's state is tested: the state byte is 0 where the line is writable
abbrev pub write_sequence : Scratches → Width → ℕ → ℤ → Instr → List SequenceItem
write_sequence x w rs1 imm i =
    spills x (state_look x rs1 imm
    (own (Branch Eq x.s.register 0 (pos 8))
    (checking (MissW w rs1 imm) (committing (Native i) (reloads x)))))

abbrev pub store_sequence : Scratches → Width → ℕ → ℕ → ℤ → List SequenceItem
store_sequence x w rs1 rs2 imm = write_sequence x w rs1 imm (Store w rs1 rs2 imm)

-- an SC, once its block is wanted for writing where its address is reserved
abbrev pub conditional_sequence : ℕ → Instr → List SequenceItem
conditional_sequence rs1 i = checking (Prepare rs1) (committing (Native i) [])

-- a branch past the jump where the original isn't taken; or one that ends the processor where it is
abbrev pub branch_sequence : Bool → Cond → ℕ → ℕ → ℕ → List SequenceItem
branch_sequence true c rs1 rs2 target =
    committing (Native (Branch (inverse c) rs1 rs2 (pos 8))) (to_head target)
branch_sequence false c rs1 rs2 target = committing (Native (Branch c rs1 rs2 (pos 2))) []

-- the register gets the next original address; or the processor is ended
abbrev pub jump_sequence : Bool → ℕ → ℕ → ℕ → List SequenceItem
jump_sequence true rd next target = constant rd next (to_head target)
jump_sequence false rd next target = committing (Native (Jal 0 (pos 2))) []

abbrev pub is_multiple_of_four : ℕ → Bool
is_multiple_of_four a = a % 4 == 0

-- the single sequence of an instruction at a, with these scratch registers
abbrev pub instruction_items : ℕ → Scratches → Instr → List SequenceItem
instruction_items a x (Auipc rd upper) = constant rd ((a + upper * 2 ^ 12) % 2 ^ 32) []
instruction_items a x (Jal rd offset) =
    jump_sequence (is_multiple_of_four (offset_address a offset)) rd ((a + 4) % 2 ^ 32)
    (offset_address a offset)
instruction_items a x (Jalr rd rs1 imm) = committing (Xjalr rd rs1 imm) []
instruction_items a x (Branch c rs1 rs2 offset) =
    branch_sequence (is_multiple_of_four (offset_address a offset)) c rs1 rs2
    (offset_address a offset)
instruction_items a x (Load k rd rs1 imm) =
    load_sequence (is_flag_checked k rd rs1) x k rd rs1 imm
instruction_items a x (Store w rs1 rs2 imm) = store_sequence x w rs1 rs2 imm
instruction_items a x (Lr rd rs1 aq rl) = read_sequence x Word rs1 (pos 0) (Lr rd rs1 aq rl)
instruction_items a x (Sc rd rs1 rs2 aq rl) = conditional_sequence rs1 (Sc rd rs1 rs2 aq rl)
instruction_items a x (Amo o rd rs1 rs2 aq rl) =
    write_sequence x Word rs1 (pos 0) (Amo o rd rs1 rs2 aq rl)
instruction_items a x Ecall = with_word IfNoWait Call []
instruction_items a x Ebreak = committing TrapEbreak []
instruction_items a x (Illegal word) = committing TrapIllegal []
instruction_items a x i = committing (Native i) []

-- that of a place: of a stop, or of a code word's instruction
abbrev pub place_items : ℕ → Scratches → Option Instr → List SequenceItem
place_items a x None = committing TrapFetch []
place_items a x (Some i) = instruction_items a x i

-- a poll first, where there is one
abbrev pub poll_first : Bool → List SequenceItem → List SequenceItem
poll_first true rest = checking Poll rest
poll_first false rest = rest

-- the single sequence of a place, by its plan's entry
abbrev pub items_of : PlanEntry → Option Instr → List SequenceItem
items_of e code = poll_first e.polls (place_items e.address e.single code)

-- Batches: a run that starts at a place has a sequence before the place's single one, by which
-- direct jumps go (Scales, Gharachorloo and Thekkath, ASPLOS 1996: the batching of miss checks).
-- Its head tests the states of the two lines that the run reaches, its fast part has the run's own
-- words, and its fallback leads to the single sequence after it.

abbrev pub spills_of_run : Scratches → List SequenceItem → List SequenceItem
spills_of_run x rest = spill 0 x.s (spill 1 x.t (spill 2 x.u rest))

abbrev pub reloads_of_run : Scratches → List SequenceItem → List SequenceItem
reloads_of_run x rest = reload 0 x.s (reload 1 x.t (reload 2 x.u rest))

-- a run that only loads wants both lines readable: the second bit of both state bytes is clear. One
-- that stores wants them writable: both state bytes are 0
abbrev pub mask_readable : Bool → ℕ → List SequenceItem → List SequenceItem
mask_readable true s rest = rest
mask_readable false s rest = own (OpImm imm_op.And s s (pos 2)) rest

-- the check of a run: past it stands the fast part, and so many words after that the fallback
abbrev pub head_items : Scratches → Reach → ℕ → List SequenceItem
head_items x reach fast =
    spills_of_run x (state_look x reach.base reach.low
    (own (OpImm imm_op.Add x.u.register reach.base reach.high)
    (own (ShiftImm shift_op.Srl x.u.register x.u.register 6)
    (own (Op op.Add x.u.register x.u.register x.t.register)
    (own (Load load_kind.ByteU x.u.register x.u.register (pos 0))
    (own (Op op.Or x.s.register x.s.register x.u.register)
    (mask_readable reach.stores x.s.register
    (own (Branch Eq x.s.register 0 (pos 20))
    (own (OpImm imm_op.Add x.s.register reach.base reach.low)
    (own (OpImm imm_op.Add x.u.register reach.base reach.high)
    (checking (Batch reach.stores x.s.register x.u.register)
    (own (Jal 0 (pos (4 * (fast + 1)))) []))))))))))))

-- the words of a run, each of which commits
abbrev pub run_items : List Instr → List SequenceItem → List SequenceItem
run_items [] rest = rest
run_items (i ∷ is) rest = committing (Native i) (run_items is rest)

-- the run's words, and a jump to the head of the place after the run
abbrev pub fast_items : Scratches → List Instr → ℕ → List SequenceItem
fast_items x instructions behind =
    reloads_of_run x (run_items instructions (to_head behind))

abbrev pub fallback_items : Scratches → List SequenceItem
fallback_items x = reloads_of_run x []

-- the words of a part of a batch, of a run of these instructions from a on; without a run there are
-- none
abbrev pub batch_items : ℕ → Scratches → List Instr → Part → List SequenceItem
batch_items a x [] part = []
batch_items a x (i ∷ is) Head =
    head_items x (reach_of (i ∷ is)) (length (fast_items x (i ∷ is) (a + 4 * length (i ∷ is))))
batch_items a x (i ∷ is) Fast = fast_items x (i ∷ is) (a + 4 * length (i ∷ is))
batch_items a x (i ∷ is) Fallback = fallback_items x
batch_items a x (i ∷ is) Single = []

-- the words of a part of an entry's sequences, in this code
abbrev pub items_in : (ℕ → Option Instr) → PlanEntry → Part → List SequenceItem
items_in code e Single = items_of e (code e.address)
items_in code e part = batch_items e.address e.batch (code_from code e.address e.run) part

-- the batch sequence of an entry: the words of its three parts, one after another
abbrev pub batch_sequence : (ℕ → Option Instr) → PlanEntry → List SequenceItem
batch_sequence code e = items_in code e Head ++ (items_in code e Fast ++ items_in code e Fallback)
