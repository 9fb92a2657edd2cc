use Rattle.std.proofs.Common.{◌≡◌, true, false, refl, sym, ◌∙◌}
use Rattle.byte_range.specs.Window.{window_memory, is_in_window}
use Rattle.one_memory.proofs.CopyLemmas.{byte_put}
use Rattle.one_memory.proofs.ReadLemmas.{some_window, none_window}
use Rattle.one_memory.proofs.copying.copy_own_byte.Goals as goal

pub returns-in-Some : goal.returns-in-Some
returns-in-Some c =
    let a = c.args.address in
    let b = c.in-Some.byte in
    let is = some_window (is_in_window a) b _ c.in-Some.ensures.value in
    byte_put (is_in_window a) (window_memory c.args.from.now) (window_memory c.args.to.now) (window_memory c.store.new.self) a b is.0 is.1 (c.in-Some.ensures.byte b refl refl) c.store.ensures.bytes

pub returns-in-None : goal.returns-in-None
returns-in-None c =
    let a = c.args.address in
    let both : true ≡ false = sym c.requires ∙ none_window (is_in_window a) _ c.in-None.ensures.value in
    absurd (cc)
