-- By the kind of its micro-op.
use Rattle.std.proofs.Common.{refl}
use Rattle.node_words.specs.micro_op.declared.MicroKind.TheVariants.{LoadByte, LoadHalf, LoadWord, LoadByteU, LoadHalfU, StoreByte, StoreHalf, StoreWord}
use Rattle.rv32_decode.specs.declared.LoadKind.TheVariants as load_kind
use Rattle.rv32_decode.specs.declared.Width.TheVariants as width
use Rattle.node_machine.specs.declared.touch.Touch.TheVariants.{Nothing}
use Rattle.node_machine.specs.NodeState.{node_of, work_of}
use Rattle.node_machine.proofs.TouchLemmas.{touched_by, loading, storing, plain, is_plain}
use Rattle.node_machine.proofs.node_state.NodeState.touch.Goals as goal

pub returns-in-LoadByte : goal.returns-in-LoadByte
returns-in-LoadByte c =
    let f = c.args.self.now in let op = c.in_ok-op.op.now in
    touched_by f op c.reads.result LoadByte c.requires.node c.in_ok-op.ensures.value c.in-LoadByte.is
    (loading (work_of f) (node_of f) c.reads.result load_kind.Byte op (node_of f).lane.registers
    c.reads.ensures.access)

pub returns-in-LoadHalf : goal.returns-in-LoadHalf
returns-in-LoadHalf c =
    let f = c.args.self.now in let op = c.in_ok-op.op.now in
    touched_by f op c.reads-in-LoadHalf.result LoadHalf c.requires.node c.in_ok-op.ensures.value c.in-LoadHalf.is
    (loading (work_of f) (node_of f) c.reads-in-LoadHalf.result load_kind.Half op (node_of f).lane.registers
    c.reads-in-LoadHalf.ensures.access)

pub returns-in-LoadWord : goal.returns-in-LoadWord
returns-in-LoadWord c =
    let f = c.args.self.now in let op = c.in_ok-op.op.now in
    touched_by f op c.reads-in-LoadWord.result LoadWord c.requires.node c.in_ok-op.ensures.value c.in-LoadWord.is
    (loading (work_of f) (node_of f) c.reads-in-LoadWord.result load_kind.Word op (node_of f).lane.registers
    c.reads-in-LoadWord.ensures.access)

pub returns-in-LoadByteU : goal.returns-in-LoadByteU
returns-in-LoadByteU c =
    let f = c.args.self.now in let op = c.in_ok-op.op.now in
    touched_by f op c.reads-in-LoadByteU.result LoadByteU c.requires.node c.in_ok-op.ensures.value c.in-LoadByteU.is
    (loading (work_of f) (node_of f) c.reads-in-LoadByteU.result load_kind.ByteU op (node_of f).lane.registers
    c.reads-in-LoadByteU.ensures.access)

pub returns-in-LoadHalfU : goal.returns-in-LoadHalfU
returns-in-LoadHalfU c =
    let f = c.args.self.now in let op = c.in_ok-op.op.now in
    touched_by f op c.reads-in-LoadHalfU.result LoadHalfU c.requires.node c.in_ok-op.ensures.value c.in-LoadHalfU.is
    (loading (work_of f) (node_of f) c.reads-in-LoadHalfU.result load_kind.HalfU op (node_of f).lane.registers
    c.reads-in-LoadHalfU.ensures.access)

pub returns-in-StoreByte : goal.returns-in-StoreByte
returns-in-StoreByte c =
    let f = c.args.self.now in let op = c.in_ok-op.op.now in
    touched_by f op c.writes.result StoreByte c.requires.node c.in_ok-op.ensures.value c.in-StoreByte.is
    (storing (work_of f) (node_of f) c.writes.result width.Byte op (node_of f).lane.registers
    c.writes.ensures.access)

pub returns-in-StoreHalf : goal.returns-in-StoreHalf
returns-in-StoreHalf c =
    let f = c.args.self.now in let op = c.in_ok-op.op.now in
    touched_by f op c.writes-in-StoreHalf.result StoreHalf c.requires.node c.in_ok-op.ensures.value c.in-StoreHalf.is
    (storing (work_of f) (node_of f) c.writes-in-StoreHalf.result width.Half op (node_of f).lane.registers
    c.writes-in-StoreHalf.ensures.access)

pub returns-in-StoreWord : goal.returns-in-StoreWord
returns-in-StoreWord c =
    let f = c.args.self.now in let op = c.in_ok-op.op.now in
    touched_by f op c.writes-in-StoreWord.result StoreWord c.requires.node c.in_ok-op.ensures.value c.in-StoreWord.is
    (storing (work_of f) (node_of f) c.writes-in-StoreWord.result width.Word op (node_of f).lane.registers
    c.writes-in-StoreWord.ensures.access)

pub returns-in_default : goal.returns-in_default
returns-in_default c =
    let f = c.args.self.now in let op = c.in_ok-op.op.now in let none = c.in_default in
    touched_by f op Nothing op.kind c.requires.node c.in_ok-op.ensures.value refl
    (plain (work_of f) (node_of f) op.kind op (node_of f).lane.registers
    (is_plain op.kind none.not-Slow none.not-LoadByte none.not-LoadHalf none.not-LoadWord none.not-LoadByteU
    none.not-LoadHalfU none.not-StoreByte none.not-StoreHalf none.not-StoreWord))
