use Rattle.std.proofs.Common.{subst}
use Rattle.std.specs.Prelude.{◌⊎◌}
use Rattle.node_model.specs.Node.{Work}
use Rattle.replay.specs.Refusals.{IsFirstBroken, IsUnfinished}
use Rattle.commands.proofs.rerun.make_again.Goals as goal

pub returns-in_ok-event_line-in-Err-Broken-clause-refused :
    goal.returns-in_ok-event_line-in-Err-Broken-clause-refused
returns-in_ok-event_line-in-Err-Broken-clause-refused c =
    let kept = c.args.kept.now in
    let rule = c.in-Err-Broken.rule in
    let node = c.in-Err-Broken.node in
    let entry = c.in-Err-Broken.entry in
    let is = c.in-Err-Broken.is in
    let rule_is = c.in-Err-Broken.field-0-is in
    record {
      rule = rule;
      node = node;
      entry = entry;
      broken = subst (λ (w : Work). IsFirstBroken w kept rule node entry
          ⊎ IsUnfinished w kept rule node entry) c.work.ensures.value
          (c.replay.ensures.refused rule node entry (cc));
      line_is = c.in_ok-event_line-in-Err-Broken.ensures;
    }
