use Rattle.std.proofs.Common.{◌≡◌, ◌<◌, ◌∙◌, ℕ, ap, sym, subst, arith, length, get_or}
use Rattle.std.proofs.lemmas.List.{get_or_default}
use Rattle.block_layout.specs.Layout.{blocks}
use Rattle.state_table.specs.States.{States}
use Rattle.state_table.proofs.Blocks.{Laws, laws, known_byte}
use Rattle.state_table.proofs.states.States.state.Goals as goal

pub state_of_byte-requires : goal.state_of_byte-requires
state_of_byte-requires c =
    let s = c.self.inside.layout in
    let bytes = c.self.inside.bytes.items in
    let law = c.layout_law.ensures in
    let l : Laws s = laws s c.self.invariant.valid law.some law.within law.apart law.found law.ends law.shared law.place in
    let below : c.args.block < blocks s = subst (λ (h : States). c.args.block < blocks h.layout) (sym c.self.view_is) c.requires in
    let within : c.start.result < length bytes = omega (arith, c.start.ensures, l.within c.args.block below, l.some c.args.block below, c.self.invariant.len) in
    record {
      state = known_byte s bytes c.args.block c.index.result.now l c.self.invariant below
          (c.index.ensures ∙ get_or_default bytes c.start.result c.index.result.now 0 within ∙ ap (λ (k : ℕ). get_or bytes k 0) c.start.ensures);
    }
