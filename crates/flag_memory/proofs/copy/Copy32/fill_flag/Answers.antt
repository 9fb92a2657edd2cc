use Rattle.std.proofs.Common.{◌≡◌, ℕ, ◌<◌, ◌*◌, ◌∙◌, ap, sym, subst, length, take, drop, ◌++◌, refl}
use Rattle.block_layout.specs.Layout.{blocks, lines}
use Rattle.block_layout.specs.Update.{changed}
use Rattle.flag_memory.specs.Flag.{flags}
use Rattle.flag_memory.specs.Copy.{Copy, bytes_of}
use Rattle.flag_memory.specs.Bytes.{overwritten}
use Rattle.flag_memory.proofs.Places.{Laws, laws}
use Rattle.flag_memory.proofs.Words.{copy_with}
use Rattle.flag_memory.proofs.Blocks.{put_in, flags_len}
use Rattle.flag_memory.proofs.copy.Copy32.fill_flag.Goals as goal

pub returns-clause-bytes : goal.returns-clause-bytes
returns-clause-bytes c =
    let i = c.self.inside in
    let s = i.layout in
    let law = c.layout_law.ensures in
    let l : Laws s = laws s c.self.invariant.valid law.within law.apart law.found law.has law.ends law.shared law.place law.count in
    let all = c.fill_at.new.all in
    let n = i.bytes.len in
    let below : c.args.block < blocks s = subst (λ (h : Copy). c.args.block < blocks h.layout) (sym c.self.view_is) c.requires in
    subst (λ (h : Copy). bytes_of (copy_with s (take n (all ++ drop (length all) i.bytes.items))) ≡ changed (bytes_of h) c.args.block (flags (64 * lines h.layout c.args.block))) c.self.view_is
    (put_in s (copy_with s i.bytes.items) i.bytes.items c.deref_mut.result.now (flags (64 * lines s c.args.block)) all c.args.block c.start.result n l refl c.self.invariant.len i.bytes.ok.0 c.deref_mut.ensures.value below (flags_len (64 * lines s c.args.block)) c.start.ensures
    (c.fill_at.ensures ∙ ap (λ (k : ℕ). overwritten c.deref_mut.result.now (64 * c.start.result) (flags (64 * k))) c.lines.ensures.lines))
