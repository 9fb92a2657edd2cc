use Rattle.std.proofs.Common.{◌≡◌, ℕ, List, ◌-◌, ◌++◌, length, take, drop, ◌∙◌, ap, subst}
use Rattle.std.specs.Prelude.{slice_index}
use Rattle.byte_range.specs.Memory.{stored}
use Rattle.byte_range.specs.Range.{Range, memory_of}
use Rattle.byte_range.proofs.ByteLemmas.{written}
use Rattle.byte_range.proofs.RangeLemmas.{with_bytes, stored_is}
use Rattle.byte_range.proofs.range.ByteRange.store.Goals as goal

pub returns-clause-bytes : goal.returns-clause-bytes
returns-clause-bytes c =
    let inside : Range = record { base = c.self.inside.base; bytes = c.self.inside.bytes.items } in
    let starts = rw (← c.self.view_is) at c.requires.starts in
    let ends = rw (← c.self.view_is) at c.requires.ends in
    let w = c.args.width in
    let ys = c.self.inside.bytes.items in
    let all = c.store_at.new.bytes in
    let n = c.self.inside.bytes.len in
    let len : length all ≡ length ys = c.store_at.auto.bytes ∙ ap length c.deref_mut.ensures.value in
    let same : take n (all ++ drop (length all) ys) ≡ all = written ys all n c.self.inside.bytes.ok.0 len in
    let stores : slice_index all ≡ stored w (slice_index ys) (c.args.address - inside.base) c.args.value =
    c.store_at.ensures ∙ ap (λ (xs : List ℕ). stored w (slice_index xs) (c.args.address - inside.base) c.args.value) c.deref_mut.ensures.value in
    λ outside. subst (λ (h : Range). memory_of (with_bytes inside (take n (all ++ drop (length all) ys))) outside ≡ stored w (memory_of h outside) c.args.address c.args.value) c.self.view_is
    (ap (λ (xs : List ℕ). memory_of (with_bytes inside xs) outside) same
    ∙ stored_is inside outside w all c.args.address c.args.value starts ends len stores)
