use Rattle.std.proofs.Common.{◌≡◌, ℕ, List, ◌-◌, ◌∙◌, ap, subst}
use Rattle.std.specs.Prelude.{slice_index}
use Rattle.byte_range.specs.Memory.{raw}
use Rattle.byte_range.specs.Range.{Range, memory_of}
use Rattle.byte_range.proofs.RangeLemmas.{raw_is}
use Rattle.byte_range.proofs.range.ByteRange.load.Goals as goal

pub returns-clause-value : goal.returns-clause-value
returns-clause-value c =
    let inside : Range = record { base = c.self.inside.base; bytes = c.self.inside.bytes.items } in
    let starts = rw (← c.self.view_is) at c.requires.starts in
    let ends = rw (← c.self.view_is) at c.requires.ends in
    λ outside. subst (λ (h : Range). c.load_at.result ≡ raw c.args.width (memory_of h outside) c.args.address) c.self.view_is
    (c.load_at.ensures.value
    ∙ ap (λ (xs : List ℕ). raw c.args.width (slice_index xs) (c.args.address - inside.base)) c.deref.ensures.value
    ∙ raw_is inside outside c.args.width c.args.address starts ends)
