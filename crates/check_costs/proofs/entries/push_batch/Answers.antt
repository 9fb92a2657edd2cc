use Rattle.std.proofs.Common.{◌∙◌}
use Rattle.templates.specs.Code.{code_of}
use Rattle.check_costs.proofs.Sequences.{batch_is, spills_fit, then_push}
use Rattle.check_costs.proofs.entries.push_batch.Goals as goal

pub overflow_sub-lengths : goal.overflow_sub-lengths
overflow_sub-lengths c =
    spills_fit (code_of c.args.code.now) c.args.entry.now c.reload_count-spilled.result
    c.batch_lengths-lengths.result.head c.requires.run c.reload_count-spilled.ensures.value
    c.batch_lengths-lengths.ensures.head

pub returns : goal.returns
returns c = record {
  kinds = c.in_ok-push_many-5.ensures
      ∙ then_push _ (c.in_ok-push.ensures.items
      ∙ then_push _ (c.in_ok-push_many-4.ensures
      ∙ then_push _ (c.in_ok-push_many-3.ensures
      ∙ then_push _ (c.in_ok-push_many-2.ensures
      ∙ then_push _ c.in_ok-push_many.ensures))))
      ∙ batch_is (code_of c.args.code.now) c.args.entry.now c.reload_count-spilled.result
      c.batch_lengths-lengths.result.head c.args.kinds.now.items c.requires.run
      c.reload_count-spilled.ensures.value c.batch_lengths-lengths.ensures.head;
}
