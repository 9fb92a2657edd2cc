use Rattle.templates.specs.Code.{code_of}
use Rattle.batch_plan.proofs.BatchLemmas.{within, batched_none, batched_more, batched_all}
use Rattle.batch_plan.proofs.batches.plan_batches.Goals as goal

pub loop-k-init : goal.loop-k-init
loop-k-init c = batched_none (code_of c.args.live.now) c.args.plan.now

pub get-requires : goal.get-requires
get-requires c = record {
  within =
      within c.args.plan.now c.loop-k.plan c.loop-k.k c.len-k-end.result c.loop-k.invariant.kept
      c.len-k-end.ensures.value c.loop-k-test.true;
}

pub set-requires : goal.set-requires
set-requires c = record {
  within =
      within c.args.plan.now c.loop-k.plan c.loop-k.k c.len-k-end.result c.loop-k.invariant.kept
      c.len-k-end.ensures.value c.loop-k-test.true;
}

pub loop-k-preserved : goal.loop-k-preserved
loop-k-preserved c =
    batched_more (code_of c.args.live.now) c.args.plan.now c.loop-k.plan c.set.new.self c.loop-k.k
    c.loop-k.free c.behind-free.result c.get.result c.with_run-entry.result c.loop-k.invariant
    c.get.ensures.value c.with_run-entry.ensures.kept c.with_run-entry.ensures.run
    c.set.ensures.value c.behind-free.ensures.value

pub returns : goal.returns
returns c = record {
  kept = c.loop-k.invariant.kept;
  plan = λ is.
      batched_all (code_of c.args.live.now) c.args.plan.now c.loop-k.plan c.loop-k.k c.loop-k.free
      c.len-k-end.result c.loop-k.invariant c.len-k-end.ensures.value c.loop-k-test.false is;
}
