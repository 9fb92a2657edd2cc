use Rattle.std.proofs.Common.{sym, subst}
use Rattle.exec_map.specs.Contents.{program_of}
use Rattle.templates.specs.Code.{HasCode}
use Rattle.jump_map.specs.Image.{IsRewriting}
use Rattle.views.proofs.Shown.{is_shown}
use Rattle.views.proofs.code.put_rewritten.Goals as goal

pub put_entries-requires : goal.put_entries-requires
put_entries-requires g c =
    let program = program_of c.args.program.now in record {
      shown = is_shown _ (subst (HasCode program) (sym c.code.ensures.value) c.in_ok-graph.ensures.code)
          (subst (λ p. IsRewriting program p c.image.result.now) (sym c.plan.ensures.value)
          (subst (IsRewriting program c.args.rewritten.now.plan) (sym c.image.ensures.value)
          c.requires.rewriting));
    }
