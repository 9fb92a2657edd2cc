use Rattle.std.proofs.Common.{◌+◌, false, sym, ap, ◌∙◌, subst}
use Rattle.templates.specs.declared.commits.CommitKind.TheVariants.{Always}
use Rattle.templates.specs.Sequences.{load_sequence}
use Rattle.templates.specs.Committing.{CommitsAt, kind_at}
use Rattle.templates.proofs.CommitLemmas.{load_commits}
use Rattle.templates.proofs.commits.commit_of_load.Goals as goal

pub returns-else-is_flag_checked : goal.returns-else-is_flag_checked
returns-else-is_flag_checked c = record {
  value = λ imm.
      let x = c.args.scratches.now in
      let by_value = sym c.is_flag_checked.ensures.value ∙ c.if-is_flag_checked.false in
      let commits = subst (λ n. CommitsAt (load_sequence false x c.args.kind c.args.rd c.args.rs1 imm) (8 + n) Always)
      (sym c.spilled_count.ensures.value) (load_commits x c.args.kind c.args.rd c.args.rs1 imm) in
      c.commit_of_one.ensures.value (load_sequence false x c.args.kind c.args.rd c.args.rs1 imm) commits
      ∙ ap (λ b. kind_at (load_sequence b x c.args.kind c.args.rd c.args.rs1 imm) c.args.word) (sym by_value);
}
