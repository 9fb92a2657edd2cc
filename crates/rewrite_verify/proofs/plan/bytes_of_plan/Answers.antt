use Rattle.std.proofs.Common.{◌≡◌, ◌≢◌, ◌*◌, ℕ, List, length, sym, subst}
use Rattle.std.specs.Prelude.{MatchOption}
use Rattle.elf32_read.specs.Segments.{section_of}
use Rattle.rewriter.specs.RewrittenFile.{plan_section}
use Rattle.rewrite_verify.specs.Sections.{HasOnly}
use Rattle.rewrite_verify.proofs.SectionLemmas.{as_found}
use Rattle.rewrite_verify.proofs.plan.bytes_of_plan.Goals as goal

pub returns-in_err-bytes : goal.returns-in_err-bytes
returns-in_err-bytes c =
    let ss = c.args.elf.now.sections in
    record {
      value =
          subst (λ o. MatchOption o
          ((bytes : List ℕ) → HasOnly ss (plan_section bytes) → length bytes ≢ 8 * c.args.places)
          (λ b. HasOnly ss (plan_section b.now) × (length b.now ≡ 8 * c.args.places)))
          (sym c.from_residual.ensures)
          (λ bytes says long.
          c.in_err-bytes.ensures.value bytes
          (as_found ss _ (section_of c.plan_section.result) bytes c.sections.ensures.value
          c.plan_section.ensures.value says));
    }
