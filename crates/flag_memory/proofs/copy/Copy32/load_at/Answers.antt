use Rattle.std.proofs.Common.{◌≡◌, ℕ, ◌+◌, ◌/◌, ◌%◌, ◌≤◌, ◌∙◌, sym, ap, subst, true, arith, List}
use Rattle.std.specs.Prelude.{slice_index}
use Rattle.block_layout.specs.Layout.{is_shared}
use Rattle.rv32_decode.specs.Widths.{size_of}
use Rattle.byte_range.specs.Memory.{raw}
use Rattle.flag_memory.specs.Copy.{Copy, memory, place}
use Rattle.flag_memory.proofs.Places.{Laws, laws, place_low, aligned_room}
use Rattle.flag_memory.proofs.Words.{copy_with, raw_is}
use Rattle.flag_memory.proofs.copy.Copy32.load_at.Goals as goal

pub load_at-requires : goal.load_at-requires
load_at-requires c =
    let i = c.self.inside in
    let s = i.layout in
    let law = c.layout_law.ensures in
    let l : Laws s = laws s c.self.invariant.valid law.within law.apart law.found law.has law.ends law.shared law.place law.count in
    let shared : is_shared s (c.args.address / 64) ≡ true = subst (λ (h : Copy). is_shared h.layout (c.args.address / 64) ≡ true) (sym c.self.view_is) c.requires.shared in
    let at : c.args.at ≡ place s c.args.address = subst (λ (h : Copy). c.args.at ≡ place h.layout c.args.address) (sym c.self.view_is) c.requires.place in
    let room : c.args.address % 64 + size_of c.args.width ≤ 64 = aligned_room c.args.width c.args.address c.requires.aligned in
    omega (arith, place_low s c.args.address l shared, at, c.self.invariant.len, c.deref.ensures.len, c.deref.ensures.value, room)

pub returns-clause-value : goal.returns-clause-value
returns-clause-value c =
    let i = c.self.inside in
    let s = i.layout in
    let law = c.layout_law.ensures in
    let l : Laws s = laws s c.self.invariant.valid law.within law.apart law.found law.has law.ends law.shared law.place law.count in
    let shared : is_shared s (c.args.address / 64) ≡ true = subst (λ (h : Copy). is_shared h.layout (c.args.address / 64) ≡ true) (sym c.self.view_is) c.requires.shared in
    let at : c.args.at ≡ place s c.args.address = subst (λ (h : Copy). c.args.at ≡ place h.layout c.args.address) (sym c.self.view_is) c.requires.place in
    let room : c.args.address % 64 + size_of c.args.width ≤ 64 = aligned_room c.args.width c.args.address c.requires.aligned in
    subst (λ (h : Copy). c.load_at.result ≡ raw c.args.width (memory h) c.args.address) c.self.view_is
    (c.load_at.ensures.value
    ∙ ap (λ (xs : List ℕ). raw c.args.width (slice_index xs) c.args.at) c.deref.ensures.value
    ∙ ap (raw c.args.width (slice_index i.bytes.items)) at
    ∙ raw_is (copy_with s i.bytes.items) c.args.width c.args.address shared room)
