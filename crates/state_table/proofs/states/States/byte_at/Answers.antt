use Rattle.std.proofs.Common.{◌≡◌, ◌<◌, ◌∙◌, sym, subst, true, arith, length, Some}
use Rattle.std.proofs.lemmas.List.{get_or_default}
use Rattle.block_layout.specs.Layout.{is_shared, shared_before, place_of}
use Rattle.state_table.specs.States.{States, line_byte}
use Rattle.state_table.proofs.Blocks.{Laws, laws, AtPlace, shared_place, place_some}
use Rattle.state_table.proofs.states.States.byte_at.Goals as goal

pub index-requires : goal.index-requires
index-requires c =
    let s = c.self.inside.layout in
    let law = c.layout_law.ensures in
    let l : Laws s = laws s c.self.invariant.valid law.some law.within law.apart law.found law.ends law.shared law.place in
    let line = c.args.line in
    let seen : States = record { layout = s; program = c.self.inside.program; bytes = c.self.inside.bytes.items } in
    let given = subst (λ (h : States). place_of h.layout line ≡ Some c.args.place) (sym c.self.view_is) c.requires in
    let at : (is_shared s line ≡ true) × (c.args.place ≡ shared_before s line) = place_some s line c.args.place given in
    let there : AtPlace seen line c.args.place = shared_place seen line c.args.place l c.self.invariant at.0 at.1 in
    omega (arith, there.below, c.self.invariant.len)

pub returns : goal.returns
returns c =
    let s = c.self.inside.layout in
    let law = c.layout_law.ensures in
    let l : Laws s = laws s c.self.invariant.valid law.some law.within law.apart law.found law.ends law.shared law.place in
    let line = c.args.line in
    let seen : States = record { layout = s; program = c.self.inside.program; bytes = c.self.inside.bytes.items } in
    let given = subst (λ (h : States). place_of h.layout line ≡ Some c.args.place) (sym c.self.view_is) c.requires in
    let at : (is_shared s line ≡ true) × (c.args.place ≡ shared_before s line) = place_some s line c.args.place given in
    let there : AtPlace seen line c.args.place = shared_place seen line c.args.place l c.self.invariant at.0 at.1 in
    let within : c.args.place < length c.self.inside.bytes.items = omega (arith, there.below, c.self.invariant.len) in
    subst (λ (h : States). c.index.result.now ≡ line_byte h line) c.self.view_is
    (c.index.ensures ∙ get_or_default c.self.inside.bytes.items c.args.place c.index.result.now 0 within ∙ there.byte)
