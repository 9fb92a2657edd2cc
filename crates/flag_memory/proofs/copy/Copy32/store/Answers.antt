use Rattle.std.proofs.Common.{◌≡◌, ℕ, ◌+◌, ◌*◌, ◌/◌, ◌%◌, ◌≤◌, ◌∙◌, sym, ap, subst, true, false, arith, List, length, take, drop, ◌++◌}
use Rattle.std.specs.Prelude.{slice_index}
use Rattle.block_layout.specs.Layout.{is_shared, shared_before}
use Rattle.rv32_decode.specs.Widths.{size_of}
use Rattle.byte_range.specs.Memory.{stored}
use Rattle.byte_range.proofs.ByteLemmas.{written}
use Rattle.flag_memory.specs.Copy.{Copy, memory, place}
use Rattle.flag_memory.proofs.Places.{Laws, laws, place_some, place_none, place_low, aligned_room}
use Rattle.flag_memory.proofs.Words.{copy_with, stored_is}
use Rattle.flag_memory.proofs.copy.Copy32.store.Goals as goal

pub store_at-requires : goal.store_at-requires
store_at-requires c =
    let i = c.self.inside in
    let s = i.layout in
    let law = c.layout_law.ensures in
    let l : Laws s = laws s c.self.invariant.valid law.within law.apart law.found law.has law.ends law.shared law.place law.count in
    let there : (is_shared s (c.args.address / 64) ≡ true) × (c.in-Some.place ≡ shared_before s (c.args.address / 64)) = place_some s (c.args.address / 64) c.in-Some.place (sym c.place_of.ensures ∙ c.in-Some.is) in
    let shared = there.0 in
    let room : c.args.address % 64 + size_of c.args.width ≤ 64 = aligned_room c.args.width c.args.address c.requires.aligned in
    omega (arith, place_low s c.args.address l shared, there.1, c.self.invariant.len, c.deref_mut.ensures.len, c.deref_mut.ensures.value, room)

pub returns-clause-memory : goal.returns-clause-memory
returns-clause-memory c =
    let i = c.self.inside in
    let s = i.layout in
    let law = c.layout_law.ensures in
    let l : Laws s = laws s c.self.invariant.valid law.within law.apart law.found law.has law.ends law.shared law.place law.count in
    let there : (is_shared s (c.args.address / 64) ≡ true) × (c.in-Some.place ≡ shared_before s (c.args.address / 64)) = place_some s (c.args.address / 64) c.in-Some.place (sym c.place_of.ensures ∙ c.in-Some.is) in
    let shared = there.0 in
    let room : c.args.address % 64 + size_of c.args.width ≤ 64 = aligned_room c.args.width c.args.address c.requires.aligned in
    let at : 64 * c.in-Some.place + c.args.address % 64 ≡ place s c.args.address = ap (λ n. 64 * n + c.args.address % 64) there.1 in
    let ys = i.bytes.items in
    let all = c.store_at.new.bytes in
    let n = i.bytes.len in
    let same : take n (all ++ drop (length all) ys) ≡ all = written ys all n i.bytes.ok.0 (c.store_at.auto.bytes ∙ ap length c.deref_mut.ensures.value) in
    let stores : slice_index all ≡ stored c.args.width (slice_index ys) (place s c.args.address) c.args.value =
    c.store_at.ensures
    ∙ ap (λ (xs : List ℕ). stored c.args.width (slice_index xs) (64 * c.in-Some.place + c.args.address % 64) c.args.value) c.deref_mut.ensures.value
    ∙ ap (λ k. stored c.args.width (slice_index ys) k c.args.value) at in
    subst (λ (h : Copy). memory (copy_with s (take n (all ++ drop (length all) ys))) ≡ stored c.args.width (memory h) c.args.address c.args.value) c.self.view_is
    (ap (λ (xs : List ℕ). memory (copy_with s xs)) same
    ∙ stored_is s c.args.width ys all c.args.address c.args.value l shared room stores)

pub unreachable-requires : goal.unreachable-requires
unreachable-requires c =
    let off = place_none c.self.inside.layout (c.args.address / 64) (sym c.place_of.ensures ∙ c.in-None.is) in
    let on = subst (λ (h : Copy). is_shared h.layout (c.args.address / 64) ≡ true) (sym c.self.view_is) c.requires.shared in
    let e : true ≡ false = sym on ∙ off in
    cc
