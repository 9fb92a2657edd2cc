use Rattle.std.proofs.Common.{sym, ◌∙◌, ◌≡◌, true, false, ◌/◌}
use Rattle.node_memory.specs.exec_map.Contents.{class_of_line, first_byte}
use Rattle.rv32_program.specs.declared.Class.TheVariants.{Shared, ReadOnly, Private, Unmapped}
use Rattle.node_memory.specs.byte_range.Memory.{raw}
use Rattle.node_memory.specs.flag_memory.Flag.{flag_byte}
use Rattle.node_memory.specs.byte_range.Window.{window_memory, is_in_window}
use Rattle.node_memory.specs.Shelf.{local_of}
use Rattle.node_memory.proofs.MemoryLemmas.{raw_in_line, window_is_private, private_in_window, in_window, not_in_window, unmapped}
use Rattle.node_words.proofs.exec_state.memory_of.Goals as goal

pub returns-in-Some-clause-value : goal.returns-in-Some-clause-value
returns-in-Some-clause-value c at =
    let p = c.args.local.now.program in
    c.in-Some.ensures.value.2 ∙ raw_in_line c.args.width (class_of_line p) Shared (local_of c.args.local.now).copy (first_byte p) (window_memory c.args.lane.now.private) flag_byte c.args.address c.requires c.in-Some.ensures.value.0

pub returns-in-Some-load-clause-value : goal.returns-in-Some-load-clause-value
returns-in-Some-load-clause-value c at =
    let p = c.args.local.now.program in
    let w = in_window (is_in_window c.args.address) c.in-Some-load.raw (raw c.args.width (window_memory c.args.lane.now.private) c.args.address) c.in-Some-load.ensures.value in
    w.1 ∙ raw_in_line c.args.width (class_of_line p) Private (local_of c.args.local.now).copy (first_byte p) (window_memory c.args.lane.now.private) flag_byte c.args.address c.requires (window_is_private p c.args.address w.0)

pub returns-in-Some-load_fixed-clause-value : goal.returns-in-Some-load_fixed-clause-value
returns-in-Some-load_fixed-clause-value c at =
    let p = c.args.local.now.program in
    c.in-Some-load_fixed.ensures.value.2 ∙ raw_in_line c.args.width (class_of_line p) ReadOnly (local_of c.args.local.now).copy (first_byte p) (window_memory c.args.lane.now.private) flag_byte c.args.address c.requires c.in-Some-load_fixed.ensures.value.0

pub returns-in-None-clause-value : goal.returns-in-None-clause-value
returns-in-None-clause-value c at =
    let p = c.args.local.now.program in
    let outside = not_in_window (is_in_window c.args.address) (raw c.args.width (window_memory c.args.lane.now.private) c.args.address) c.in_default-load.ensures.value in
    let is = unmapped (class_of_line p (c.args.address / 64)) c.in_default.ensures.value c.in-None.ensures.value (λ e. let both : true ≡ false = sym (private_in_window p c.args.address e) ∙ outside in cc) in
    c.flag.ensures.value ∙ raw_in_line c.args.width (class_of_line p) Unmapped (local_of c.args.local.now).copy (first_byte p) (window_memory c.args.lane.now.private) flag_byte c.args.address c.requires is
