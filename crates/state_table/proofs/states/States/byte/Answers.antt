use Rattle.std.proofs.Common.{◌≡◌, ◌<◌, ◌/◌, ◌∙◌, sym, ap, subst, true, arith, length, None}
use Rattle.std.proofs.lemmas.List.{get_or_default}
use Rattle.block_layout.specs.Layout.{is_shared, shared_before, block_of}
use Rattle.state_table.specs.States.{States, line_byte, line_byte_in}
use Rattle.state_table.proofs.Blocks.{Laws, laws, AtPlace, shared_place, place_some, place_none}
use Rattle.state_table.proofs.states.States.byte.Goals as goal

pub index-requires : goal.index-requires
index-requires c =
    let s = c.self.inside.layout in
    let law = c.layout_law.ensures in
    let l : Laws s = laws s c.self.invariant.valid law.some law.within law.apart law.found law.ends law.shared law.place in
    let line = c.args.address / 64 in
    let seen : States = record { layout = s; program = c.self.inside.program; bytes = c.self.inside.bytes.items } in
    let at : (is_shared s line ≡ true) × (c.in-Some.place ≡ shared_before s line) = place_some s line c.in-Some.place (sym c.place_of.ensures ∙ c.in-Some.is) in
    let there : AtPlace seen line c.in-Some.place = shared_place seen line c.in-Some.place l c.self.invariant at.0 at.1 in
    omega (arith, there.below, c.self.invariant.len)

pub returns-in-Some : goal.returns-in-Some
returns-in-Some c =
    let s = c.self.inside.layout in
    let law = c.layout_law.ensures in
    let l : Laws s = laws s c.self.invariant.valid law.some law.within law.apart law.found law.ends law.shared law.place in
    let line = c.args.address / 64 in
    let seen : States = record { layout = s; program = c.self.inside.program; bytes = c.self.inside.bytes.items } in
    let at : (is_shared s line ≡ true) × (c.in-Some.place ≡ shared_before s line) = place_some s line c.in-Some.place (sym c.place_of.ensures ∙ c.in-Some.is) in
    let there : AtPlace seen line c.in-Some.place = shared_place seen line c.in-Some.place l c.self.invariant at.0 at.1 in
    let within : c.in-Some.place < length c.self.inside.bytes.items = omega (arith, there.below, c.self.invariant.len) in
    subst (λ (h : States). c.index.result.now ≡ line_byte h line) c.self.view_is
    (c.index.ensures ∙ get_or_default c.self.inside.bytes.items c.in-Some.place c.index.result.now 0 within ∙ there.byte)

pub returns-in-None : goal.returns-in-None
returns-in-None c =
    let s = c.self.inside.layout in
    let law = c.layout_law.ensures in
    let l : Laws s = laws s c.self.invariant.valid law.some law.within law.apart law.found law.ends law.shared law.place in
    let line = c.args.address / 64 in
    let seen : States = record { layout = s; program = c.self.inside.program; bytes = c.self.inside.bytes.items } in
    let none : block_of s line ≡ None = place_none s line l (sym c.place_of.ensures ∙ c.in-None.is) in
    subst (λ (h : States). c.byte.result ≡ line_byte h line) c.self.view_is
    (c.byte.ensures ∙ sym (ap (line_byte_in seen line) none))
