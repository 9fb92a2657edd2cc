use Rattle.std.proofs.Common.{◌≡◌, ◌≢◌, ◌≤◌, ◌⊎◌, ◌∙◌, ◌-◌, length, sym, ap, inl, inr, rules}
use Rattle.std.proofs.lemmas.List.{length-map}
use Rattle.elf32_read.specs.Segments.{segment_of}
use Rattle.rewrite_verify.proofs.WordLemmas.{other_count}
use Rattle.rewrite_verify.proofs.code.later_segment.Goals as goal
use Rattle.rewrite_verify.proofs.code.later_segment.Goals.{else-first-segments-via-then-first-segments+else-segments-first-eq1, else-first-segments-via-else-first-segments}

pub returns-else-first-segments : goal.returns-else-first-segments
returns-else-first-segments c =
    let mine = c.segments-segments.result.now in
    let theirs = c.segments-first.result.now in
    let all : length mine ≡ length c.args.elf.now.segments =
    sym (length-map mine segment_of) ∙ ap length c.segments-segments.ensures.value in
    let first : length theirs ≡ length c.args.original.now.segments =
    sym (length-map theirs segment_of) ∙ ap length c.segments-first.ensures.value in
    let or : (length mine ≤ length theirs) ⊎ (length mine - length theirs ≢ 1) =
    elim c.else-first-segments.branch [
      | else-first-segments-via-then-first-segments+else-segments-first-eq1 w ↦ inr (search rules)
      | else-first-segments-via-else-first-segments w ↦ inl (search rules)
    ] in
    record {
      value = λ s is.
          other_count c.args.original.now c.args.elf.now (length theirs) (length mine) first all or s is;
    }
