use Rattle.std.proofs.Common.{refl, ap, sym, ◌∙◌, subst}
use Rattle.rv32_decode.specs.Widths.{width_of}
use Rattle.rv32_decode.specs.declared.Width.{Width}
use Rattle.rv32_ops.specs.Operations.{extend}
use Rattle.rv32_program.specs.declared.Class.TheVariants.{Shared, ReadOnly}
use Rattle.node_memory.specs.rv32_step.Registers.{put, registers_of}
use Rattle.node_memory.specs.byte_range.Memory.{raw}
use Rattle.node_memory.specs.flag_memory.Flag.{flag_byte}
use Rattle.node_memory.specs.byte_range.Window.{window_memory}
use Rattle.node_memory.specs.exec_map.Contents.{program_of, class_of_line, first_byte}
use Rattle.node_memory.specs.node_model.Node.{Region, load}
use Rattle.node_memory.specs.Shelf.{ground_of, local_of}
use Rattle.node_words.specs.Kept.{LeavesBehind, lane_of}
use Rattle.node_memory.proofs.MemoryLemmas.{raw_in_line, memory_region}
use Rattle.node_words.proofs.exec_state.ExecState.load.Goals as goal

pub returns-in-Some-clause-leaves : goal.returns-in-Some-clause-leaves
returns-in-Some-clause-leaves c at =
    let b = c.args.self.now in
    let p = b.local.program in
    let a = c.args.address in
    let n = local_of b.local in
    let given = c.in-Some.ensures.value.2 ∙ ap (λ (w : Width). raw w (first_byte p) a) c.width-width.ensures.value in
    let same = given ∙ raw_in_line (width_of c.args.kind) (class_of_line p) ReadOnly n.copy (first_byte p) (window_memory b.lane.private) flag_byte a c.requires c.in-Some.ensures.value.0 in
    let value = c.extend.ensures ∙ ap (extend c.args.kind) same in
    let registers = c.set-in-Some.ensures ∙ ap (put (registers_of b.lane.registers) c.args.rd) value in
    subst (λ (q : Region). LeavesBehind (load (program_of p) (lane_of b.lane at) n c.args.kind c.args.rd a q) (ground_of b.local) at (record b.lane { registers = c.set-in-Some.new.self }) b.local) (sym (memory_region a c.in-Some.ensures.value.1))
    (record {
      lane = λ t. record (lane_of b.lane at) { registers = registers t };
      local = refl;
      ground_same = refl;
    })

pub returns-in-Some-load-clause-leaves : goal.returns-in-Some-load-clause-leaves
returns-in-Some-load-clause-leaves c at =
    let b = c.args.self.now in
    let p = b.local.program in
    let a = c.args.address in
    let n = local_of b.local in
    let given = c.in-Some-load.ensures.value.2 ∙ ap (λ (w : Width). raw w n.copy a) c.width-width.ensures.value in
    let same = given ∙ raw_in_line (width_of c.args.kind) (class_of_line p) Shared n.copy (first_byte p) (window_memory b.lane.private) flag_byte a c.requires c.in-Some-load.ensures.value.0 in
    let value = c.extend-in-Some-load.ensures ∙ ap (extend c.args.kind) same in
    let registers = c.set-in-Some-load.ensures ∙ ap (put (registers_of b.lane.registers) c.args.rd) value in
    subst (λ (q : Region). LeavesBehind (load (program_of p) (lane_of b.lane at) n c.args.kind c.args.rd a q) (ground_of b.local) at (record b.lane { registers = c.set-in-Some-load.new.self }) b.local) (sym (memory_region a c.in-Some-load.ensures.value.1))
    (record {
      lane = λ t. record (lane_of b.lane at) { registers = registers t };
      local = refl;
      ground_same = refl;
    })
