use Rattle.std.proofs.Common.{◌≡◌, ℕ, ◌+◌, ◌/◌, ◌%◌, ◌≤◌, ◌∙◌, sym, ap, subst, true, arith, List, length, take, drop, ◌++◌}
use Rattle.std.specs.Prelude.{slice_index}
use Rattle.block_layout.specs.Layout.{is_shared}
use Rattle.rv32_decode.specs.Widths.{size_of}
use Rattle.byte_range.specs.Memory.{stored}
use Rattle.byte_range.proofs.ByteLemmas.{written}
use Rattle.flag_memory.specs.Copy.{Copy, memory, place}
use Rattle.flag_memory.proofs.Places.{Laws, laws, place_low, aligned_room}
use Rattle.flag_memory.proofs.Words.{copy_with, stored_is}
use Rattle.flag_memory.proofs.copy.Copy32.store_at.Goals as goal

pub store_at-requires : goal.store_at-requires
store_at-requires c =
    let i = c.self.inside in
    let s = i.layout in
    let law = c.layout_law.ensures in
    let l : Laws s = laws s c.self.invariant.valid law.within law.apart law.found law.has law.ends law.shared law.place law.count in
    let shared : is_shared s (c.args.address / 64) ≡ true = subst (λ (h : Copy). is_shared h.layout (c.args.address / 64) ≡ true) (sym c.self.view_is) c.requires.shared in
    let at : c.args.at ≡ place s c.args.address = subst (λ (h : Copy). c.args.at ≡ place h.layout c.args.address) (sym c.self.view_is) c.requires.place in
    let room : c.args.address % 64 + size_of c.args.width ≤ 64 = aligned_room c.args.width c.args.address c.requires.aligned in
    omega (arith, place_low s c.args.address l shared, at, c.self.invariant.len, c.deref_mut.ensures.len, c.deref_mut.ensures.value, room)

pub returns-clause-memory : goal.returns-clause-memory
returns-clause-memory c =
    let i = c.self.inside in
    let s = i.layout in
    let law = c.layout_law.ensures in
    let l : Laws s = laws s c.self.invariant.valid law.within law.apart law.found law.has law.ends law.shared law.place law.count in
    let shared : is_shared s (c.args.address / 64) ≡ true = subst (λ (h : Copy). is_shared h.layout (c.args.address / 64) ≡ true) (sym c.self.view_is) c.requires.shared in
    let at : c.args.at ≡ place s c.args.address = subst (λ (h : Copy). c.args.at ≡ place h.layout c.args.address) (sym c.self.view_is) c.requires.place in
    let room : c.args.address % 64 + size_of c.args.width ≤ 64 = aligned_room c.args.width c.args.address c.requires.aligned in
    let ys = i.bytes.items in
    let all = c.store_at.new.bytes in
    let n = i.bytes.len in
    let same : take n (all ++ drop (length all) ys) ≡ all = written ys all n i.bytes.ok.0 (c.store_at.auto.bytes ∙ ap length c.deref_mut.ensures.value) in
    let stores : slice_index all ≡ stored c.args.width (slice_index ys) (place s c.args.address) c.args.value =
    c.store_at.ensures
    ∙ ap (λ (xs : List ℕ). stored c.args.width (slice_index xs) c.args.at c.args.value) c.deref_mut.ensures.value
    ∙ ap (λ k. stored c.args.width (slice_index ys) k c.args.value) at in
    subst (λ (h : Copy). memory (copy_with s (take n (all ++ drop (length all) ys))) ≡ stored c.args.width (memory h) c.args.address c.args.value) c.self.view_is
    (ap (λ (xs : List ℕ). memory (copy_with s xs)) same
    ∙ stored_is s c.args.width ys all c.args.address c.args.value l shared room stores)
