use Rattle.std.proofs.Common.{◌≡◌, ◌^◌, ◌<◌, ◌∙◌, ℕ}
use Rattle.rv32_program.specs.declared.Class.TheVariants.{Shared, Private}
use Rattle.node_memory.specs.byte_range.Memory.{raw}
use Rattle.node_memory.specs.byte_range.Window.{window_memory, is_in_window}
use Rattle.node_memory.specs.exec_map.Contents.{program_of, class_of_line, first_byte}
use Rattle.node_memory.specs.flag_memory.Flag.{flag_byte}
use Rattle.node_memory.specs.node_model.Node as model
use Rattle.node_memory.specs.Shelf.{local_of}
use Rattle.node_memory.proofs.MemoryLemmas.{raw_in_line, window_is_private, in_window}
use Rattle.node_words.specs.Kept.{lane_of}
use Rattle.node_words.proofs.UndoLogLemmas.{byte_small, has_bytes}
use Rattle.node_words.proofs.store_log.old_bytes.Goals as goal

pub returns-in-Some : goal.returns-in-Some
returns-in-Some c at =
    let s = c.args.local.now in
    let l = lane_of c.args.lane.now at in
    let p = s.program in
    let w = c.args.width in
    let a = c.args.address in
    let e = c.in-Some.ensures.value in
    has_bytes w (model.byte_at (program_of p) l (local_of s)) a c.in-Some.value
    (λ x. byte_small (program_of p) l (local_of s) x (c.bytes_law.ensures.shared x) (c.bytes_law.ensures.fixed x) (c.law.ensures.small x))
    (e.value ∙ raw_in_line w (class_of_line p) Shared (local_of s).copy (first_byte p) l.private flag_byte a c.requires e.shared)

pub returns-in-Some-load : goal.returns-in-Some-load
returns-in-Some-load c at =
    let s = c.args.local.now in
    let l = lane_of c.args.lane.now at in
    let p = s.program in
    let w = c.args.width in
    let a = c.args.address in
    let there = in_window (is_in_window a) c.in-Some-load.value (raw w l.private a) c.in-Some-load.ensures.value in
    has_bytes w (model.byte_at (program_of p) l (local_of s)) a c.in-Some-load.value
    (λ x. byte_small (program_of p) l (local_of s) x (c.bytes_law.ensures.shared x) (c.bytes_law.ensures.fixed x) (c.law.ensures.small x))
    (there.1 ∙ raw_in_line w (class_of_line p) Private (local_of s).copy (first_byte p) l.private flag_byte a c.requires (window_is_private p a there.0))

pub returns : goal.returns
returns c at =
    let s = c.args.local.now in
    let l = lane_of c.args.lane.now at in
    let p = s.program in
    has_bytes c.args.width (model.byte_at (program_of p) l (local_of s)) c.args.address c.memory_of.result
    (λ x. byte_small (program_of p) l (local_of s) x (c.bytes_law.ensures.shared x) (c.bytes_law.ensures.fixed x) (c.law.ensures.small x))
    (c.memory_of.ensures.value at)
