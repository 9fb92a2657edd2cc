-- The nodes run rewritten code.
use Rattle.std.proofs.Common.{◌<◌, ◌≤◌, ◌^◌, List, sym, subst}
use Rattle.exec_map.specs.Contents.{program_of}
use Rattle.jump_map.specs.Image.{Cell, IsRewriting}
use Rattle.machine_tests.proofs.cores.core_of.Goals as goal

pub new-requires : goal.new-requires
new-requires c =
    let image = c.image.ensures.value in
    record {
      rewritten = record {
        accepted = c.entry.ensures.accepted;
        valid = c.requires.valid;
        laid_over = c.requires.laid_over;
        plan = c.args.rewritten.now.plan;
        rewriting = subst (λ (i : List Cell). IsRewriting (program_of c.args.program.now)
            c.args.rewritten.now.plan i) (sym image) c.requires.rewriting;
        some = subst (λ b. 0 < b) c.number.ensures.value c.number.ensures.range.0;
        few = subst (λ b. b ≤ 2 ^ 32) c.number.ensures.value c.number.ensures.range.1;
      };
    }
