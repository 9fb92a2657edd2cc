use Rattle.std.proofs.Common.{◌≡◌, sym, ap, ◌∙◌, Some, None}
use Rattle.std.specs.Prelude.{slice_get}
use Rattle.std.specs.Option.{option_map}
use Rattle.jump_map.specs.Image.{read_cell}
use Rattle.jump_map.proofs.CellLemmas.{read_some, read_none, there, past}
use Rattle.jump_map.proofs.cells.Cells.read.Goals as goal

pub returns-in-Some : goal.returns-in-Some
returns-in-Some c =
    let h = c.in-Some.ensures.lookup in
    let k = c.args.k in
    let stored = c.in-Some.cell.now in
    let found : slice_get c.self.inside.cells.items k ≡ Some stored = ap (λ xs. slice_get xs k) (sym c.deref.ensures.value) ∙ there c.deref.result.now k stored h.3.0 h.1 in
    record { value = read_some c.self.inside.cells.items k stored c.self.invariant.0 found ∙ ap (λ v. option_map read_cell (slice_get v k)) c.self.view_is }

pub returns-in-None : goal.returns-in-None
returns-in-None c =
    let k = c.args.k in
    let found : slice_get c.self.inside.cells.items k ≡ None = ap (λ xs. slice_get xs k) (sym c.deref.ensures.value) ∙ past c.deref.result.now k c.in-None.ensures.lookup.3 in
    record { value = read_none c.self.inside.cells.items k found ∙ ap (λ v. option_map read_cell (slice_get v k)) c.self.view_is }
