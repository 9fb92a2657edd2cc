use Rattle.std.proofs.Common.{◌≡◌, ◌/◌, true, refl, sym, ◌∙◌}
use Rattle.std.specs.Prelude.{is_some}
use Rattle.byte_range.specs.Lines.{lines_memory, place_of}
use Rattle.one_memory.proofs.CopyLemmas.{byte_put, here_is, kept_there, no_line}
use Rattle.one_memory.proofs.copying.copy_byte.Goals as goal

pub returns-in-Some-clause-copied : goal.returns-in-Some-clause-copied
returns-in-Some-clause-copied c = λ outside.
    let a = c.args.address in
    let b = c.in-Some.byte in
    let from = lines_memory c.args.from.now outside in
    let old = lines_memory c.args.to.now outside in
    let new = lines_memory c.store.new.self outside in
    let may : is_some (place_of c.args.to.now.ranges (a / 64)) ≡ true = c.requires (a / 64) ∙ sym c.in-Some.ensures.found in
    byte_put _ from old new a b may (c.in-Some.ensures.value outside b refl) (c.in-Some.ensures.byte b refl refl) (c.store.ensures.bytes outside) a
    ∙ here_is from old a

pub returns-in-Some-clause-kept : goal.returns-in-Some-clause-kept
returns-in-Some-clause-kept c = λ x is outside.
    let a = c.args.address in
    let b = c.in-Some.byte in
    let from = lines_memory c.args.from.now outside in
    let old = lines_memory c.args.to.now outside in
    let new = lines_memory c.store.new.self outside in
    let may : is_some (place_of c.args.to.now.ranges (a / 64)) ≡ true = c.requires (a / 64) ∙ sym c.in-Some.ensures.found in
    byte_put _ from old new a b may (c.in-Some.ensures.value outside b refl) (c.in-Some.ensures.byte b refl refl) (c.store.ensures.bytes outside) x
    ∙ kept_there from old a x (is outside)

pub returns-in-None-clause-copied : goal.returns-in-None-clause-copied
returns-in-None-clause-copied c =
    no_line c.args.to.now c.args.from.now c.args.address c.requires c.in-None.ensures.found
