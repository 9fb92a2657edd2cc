use Rattle.std.proofs.Common.{sym, ap, refl}
use Rattle.rv32_program.specs.Program.{is_writable}
use Rattle.byte_range.specs.Window.{is_in_window}
use Rattle.one_memory.proofs.ReadLemmas.{class_in, private_class, other_class, some_window, none_window, unwritable_else}
use Rattle.one_memory.proofs.StoreLemmas.{stored_apart}
use Rattle.one_memory.proofs.processor.put_apart.Goals as goal

pub returns-in-Some-clause-may : goal.returns-in-Some-clause-may
returns-in-Some-clause-may c =
    let a = c.args.address in
    sym (ap is_writable (private_class c.args.memory.now.program a (some_window (is_in_window a) _ _ c.in-Some.ensures.value).0))

pub returns-in-Some-clause-stored : goal.returns-in-Some-clause-stored
returns-in-Some-clause-stored c = λ _.
    let a = c.args.address in
    let inside = (some_window (is_in_window a) _ _ c.in-Some.ensures.value).0 in
    stored_apart c.args.p a c.args.value c.args.width c.args.memory.now c.end_others.new.self c.args.body.now _ inside c.store.ensures.bytes refl refl c.end_others.ensures.rest c.end_others.ensures.reserved

pub returns-in-None-clause-may : goal.returns-in-None-clause-may
returns-in-None-clause-may c =
    let m = c.args.memory.now in
    let a = c.args.address in
    unwritable_else (class_in m a) c.requires.apart (other_class m.program a (none_window _ _ c.in-None.ensures.value))
