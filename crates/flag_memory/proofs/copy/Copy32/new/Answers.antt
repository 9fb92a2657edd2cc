use Rattle.std.proofs.Common.{◌≡◌, ℕ, ◌∙◌, ap, subst, List, length, take, drop, ◌++◌}
use Rattle.block_layout.specs.Layout.{Shape}
use Rattle.byte_range.proofs.ByteLemmas.{written}
use Rattle.flag_memory.specs.Copy.{memory}
use Rattle.flag_memory.specs.FirstBytes.{FirstRange}
use Rattle.flag_memory.specs.Bytes.{AreWritten}
use Rattle.flag_memory.proofs.Words.{copy_with, memory_at}
use Rattle.flag_memory.proofs.copy.Copy32.new.Goals as goal

pub returns-clause-bytes : goal.returns-clause-bytes
returns-clause-bytes c =
    let s = c.args.layout.now in
    let ys = c.resize.new.self.items in
    let all = c.write_all.new.bytes in
    let n = c.resize.new.self.len in
    let same : take n (all ++ drop (length all) ys) ≡ all = written ys all n c.resize.new.self.ok.0 (c.write_all.auto.bytes ∙ ap length c.deref_mut.ensures.value) in
    let w : AreWritten s all c.args.first.now = subst (λ (rs : List FirstRange). AreWritten s all rs) c.as_slice.ensures.value c.write_all.ensures in
    λ a on.
    ap (λ (t : Shape). memory (copy_with t (take n (all ++ drop (length all) ys))) a) c.in_ok-copy.ensures
    ∙ ap (λ (xs : List ℕ). memory (copy_with s xs) a) same
    ∙ memory_at (copy_with s all) a on
    ∙ w.bytes a on
