use Rattle.std.proofs.Common.{◌≢◌, rules}
use Rattle.templates.specs.Code.{code_of}
use Rattle.rewrite_verify.proofs.ServingLemmas.{dead_there}
use Rattle.rewrite_verify.proofs.serving.is_run_scratch.Goals as goal
use Rattle.rewrite_verify.proofs.serving.is_run_scratch.Goals.{then-ne, else-ne}

pub returns-else-scratch : goal.returns-else-scratch
returns-else-scratch c =
    let nonzero : c.args.scratch.register ≢ 0 =
    elim c.if-ne.branch [ then-ne w ↦ search rules | else-ne w ↦ absurd (search rules) ] in
    let other : c.args.scratch.register ≢ c.args.base =
    elim c.if-ne.branch [ then-ne w ↦ search rules | else-ne w ↦ absurd (search rules) ] in
    record {
      value =
          dead_there (code_of c.args.live.now) c.args.address c.args.base c.args.scratch
          c.dead_at.result c.requires.code_word nonzero (search rules) other (search rules)
          c.dead_at.ensures.dead;
    }
