use Rattle.std.proofs.Common.{◌<◌, sym, subst}
use Rattle.block_layout.specs.Layout.{blocks}
use Rattle.state_table.specs.States.{States}
use Rattle.state_table.proofs.Blocks.{Laws, laws, Fills, fills, set_are, set_is}
use Rattle.state_table.proofs.states.States.set.Goals as goal

pub invariant_of-self : goal.invariant_of-self
invariant_of-self c =
    let i = c.self.inside in
    let s = c.self.inside.layout in
    let law = c.layout_law.ensures in
    let l : Laws s = laws s c.self.invariant.valid law.some law.within law.apart law.found law.ends law.shared law.place in
    let below : c.args.block < blocks s = subst (λ (h : States). c.args.block < blocks h.layout) (sym c.self.view_is) c.requires in
    let f : Fills s i.bytes.items c.fill.new.bytes i.bytes.len c.args.block c.args.state =
    fills s i.bytes.items c.deref_mut.result.now c.fill.new.bytes i.bytes.len c.args.block c.start-start.result c.lines.result c.byte.result c.args.state i.bytes.ok.0 c.deref_mut.ensures.value c.start-start.ensures c.lines.ensures.lines c.byte.ensures c.fill.ensures in
    set_are s i.bytes.items c.fill.new.bytes i.bytes.len c.args.block c.args.state l c.self.invariant below f

pub returns-clause-states : goal.returns-clause-states
returns-clause-states c =
    let i = c.self.inside in
    let s = c.self.inside.layout in
    let law = c.layout_law.ensures in
    let l : Laws s = laws s c.self.invariant.valid law.some law.within law.apart law.found law.ends law.shared law.place in
    let below : c.args.block < blocks s = subst (λ (h : States). c.args.block < blocks h.layout) (sym c.self.view_is) c.requires in
    let f : Fills s i.bytes.items c.fill.new.bytes i.bytes.len c.args.block c.args.state =
    fills s i.bytes.items c.deref_mut.result.now c.fill.new.bytes i.bytes.len c.args.block c.start-start.result c.lines.result c.byte.result c.args.state i.bytes.ok.0 c.deref_mut.ensures.value c.start-start.ensures c.lines.ensures.lines c.byte.ensures c.fill.ensures in
    set_is s i.program c.args.self.now i.bytes.items c.fill.new.bytes i.bytes.len c.args.block c.args.state c.self.view_is l below f
