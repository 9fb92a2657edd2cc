use Rattle.std.proofs.Common.{◌≡◌, ◌<◌, ◌*◌, sym, subst, length}
use Rattle.block_layout.specs.Layout.{blocks, lines}
use Rattle.flag_memory.specs.Copy.{Copy}
use Rattle.flag_memory.proofs.Places.{Laws, laws}
use Rattle.flag_memory.proofs.Blocks.{put_in}
use Rattle.flag_memory.proofs.copy.Copy32.put.Goals as goal

pub returns-clause-bytes : goal.returns-clause-bytes
returns-clause-bytes c =
    let i = c.self.inside in
    let s = i.layout in
    let law = c.layout_law.ensures in
    let l : Laws s = laws s c.self.invariant.valid law.within law.apart law.found law.has law.ends law.shared law.place law.count in
    let below : c.args.block < blocks s = subst (λ (h : Copy). c.args.block < blocks h.layout) (sym c.self.view_is) c.requires.block in
    let size : length c.args.bytes.now ≡ 64 * lines s c.args.block = subst (λ (h : Copy). length c.args.bytes.now ≡ 64 * lines h.layout c.args.block) (sym c.self.view_is) c.requires.len in
    put_in s c.args.self.now i.bytes.items c.deref_mut.result.now c.args.bytes.now c.overwrite.new.all c.args.block c.start.result i.bytes.len l c.self.view_is c.self.invariant.len i.bytes.ok.0 c.deref_mut.ensures.value below size c.start.ensures c.overwrite.ensures
