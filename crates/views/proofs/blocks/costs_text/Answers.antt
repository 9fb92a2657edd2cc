use Rattle.std.proofs.Common.{◌∙◌, subst}
use Rattle.prepared_run.specs.Ready.{work_for}
use Rattle.views.specs.Blocks.{IsCostsText}
use Rattle.views.proofs.Summed.{refused_by, traced_by}
use Rattle.views.proofs.blocks.costs_text.Goals as goal

pub text_of-requires : goal.text_of-requires
text_of-requires c = record { kept = (c.in-Ok.ensures.sums.0, c.in-Ok.ensures.sums.2) }

pub returns-in-Ok-clause-ok : goal.returns-in-Ok-clause-ok
returns-in-Ok-clause-ok c =
    let sums = c.in-Ok.ensures.sums in
    let prepared = c.args.prepared.now in
    record {
      trace = sums.0;
      is_trace = traced_by c.in_ok-tracer.tracer (work_for prepared) prepared.rewritten.plan c.args.kept.now sums.0
          (c.in_ok-tracer.ensures.work ∙ c.work.ensures.value) (c.in_ok-tracer.ensures.plan ∙ c.plan-plan.ensures.value)
          c.in_ok-tracer.ensures.rec sums.1;
      text_is = subst (λ layout. IsCostsText c.args.symbols.now layout sums.0 c.in_ok-text_of-in-Ok.field-0.items)
          c.in-Ok.ensures.layout (c.in_ok-text_of-in-Ok.ensures sums.0 sums.2);
    }

pub returns-clause-refused : goal.returns-clause-refused
returns-clause-refused c =
    let work = work_for c.args.prepared.now in
    let kept = c.args.kept.now in
    let is = c.in-Err.is in
    c.refusal_of.ensures work kept (λ rule node entry e.
    refused_by c.in_ok-tracer.tracer work kept rule node entry
    (c.in_ok-tracer.ensures.work ∙ c.work.ensures.value) c.in_ok-tracer.ensures.rec
    (c.sums_of.ensures.refused rule node entry (cc)))
