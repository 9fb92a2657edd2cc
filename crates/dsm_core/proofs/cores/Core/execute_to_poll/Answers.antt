-- One word more, and few can follow.
use Rattle.std.proofs.Common.{◌≡◌, ◌<◌, ◌+◌, ◌∙◌, true, sym, subst, arith}
use Rattle.run_order.specs.node_model.Node.{Work, Node, standing_of}
use Rattle.run_order.specs.node_model.Core.{Exec, may_execute}
use Rattle.node_machine.specs.NodeState.{node_of}
use Rattle.dsm_core.specs.CoreParts.{work_of, core_of}
use Rattle.dsm_core.proofs.CoreRuns.{goes_nowhere, for_one, for_fewer}
use Rattle.dsm_core.proofs.Rounds.{kept_there, for_there}
use Rattle.dsm_core.proofs.cores.Core.execute_to_poll.Goals as goal

pub returns-in_err-step-clause-leads : goal.returns-in_err-step-clause-leads
returns-in_err-step-clause-leads c =
    let p = c.args.self.now in
    kept_there (work_of p) (core_of p) (core_of p) (core_of c.step.new.self)
    c.in_err-step.ensures.err (goes_nowhere (work_of p) (core_of p))

pub loop-word-init : goal.loop-word-init
loop-word-init c =
    let p = c.args.self.now in
    record {
      gone = for_one (work_of p) (core_of p) (core_of c.step.new.self) (Exec c.args.node)
          c.requires.enabled c.in_ok-step.ensures.event;
      work = c.step.ensures.work;
    }

pub node-requires : goal.node-requires
node-requires c =
    record {
      node = subst (λ (w : Work). c.args.node < w.layout.nodes) (sym c.loop-word.invariant.work)
          c.requires.enabled.0;
    }

pub returns-then-not-goes_on-clause-leads : goal.returns-then-not-goes_on-clause-leads
returns-then-not-goes_on-clause-leads c = c.loop-word.invariant.gone.goes

pub returns-then-not-goes_on-clause-gone : goal.returns-then-not-goes_on-clause-gone
returns-then-not-goes_on-clause-gone c =
    let p = c.args.self.now in
    for_fewer (work_of p) 1 (c.loop-word._word + 1) (core_of p) (core_of c.loop-word.self)
    (omega arith) c.loop-word.invariant.gone

pub step-requires-in-loop-word : goal.step-requires-in-loop-word
step-requires-in-loop-word c =
    let p = c.loop-word.self in
    let few = subst (λ (w : Work). c.args.node < w.layout.nodes) (sym c.loop-word.invariant.work)
    c.requires.enabled.0 in
    let next = subst (λ (n : Node). may_execute (standing_of (work_of p) n) ≡ true)
    c.node.ensures.value (subst (λ (w : Work).
    may_execute (standing_of w (node_of c.node.result.now)) ≡ true) c.node.ensures.work
    (c.goes_on.ensures c.if-not-goes_on.false)) in
    record {
      enabled = (few, next);
    }

pub returns-in_err-step-2-clause-leads : goal.returns-in_err-step-2-clause-leads
returns-in_err-step-2-clause-leads c =
    let p = c.args.self.now in
    kept_there (work_of p) (core_of p) (core_of c.loop-word.self) (core_of c.step-in-loop-word.new.self)
    c.in_err-step-2.ensures.err c.loop-word.invariant.gone.goes

pub loop-word-preserved : goal.loop-word-preserved
loop-word-preserved c =
    let p = c.args.self.now in
    let q = c.loop-word.self in
    let r = c.step-in-loop-word.new.self in
    let few = subst (λ (w : Work). c.args.node < w.layout.nodes) (sym c.loop-word.invariant.work)
    c.requires.enabled.0 in
    let next = subst (λ (n : Node). may_execute (standing_of (work_of q) n) ≡ true)
    c.node.ensures.value (subst (λ (w : Work).
    may_execute (standing_of w (node_of c.node.result.now)) ≡ true) c.node.ensures.work
    (c.goes_on.ensures c.if-not-goes_on.false)) in
    record {
      gone = for_there (work_of q) (work_of p) (c.loop-word._word + 1) (core_of p) (core_of q)
          (core_of r) c.loop-word.invariant.work c.loop-word.invariant.gone
          (for_one (work_of q) (core_of q) (core_of r) (Exec c.args.node)
          (few, next) c.in_ok-step-2.ensures.event);
      work = c.step-in-loop-word.ensures.work ∙ c.loop-word.invariant.work;
    }

pub unreachable-requires : goal.unreachable-requires
unreachable-requires c =
    let last = c.bounds.ensures.runs (c.loop-word._word + 1) (core_of c.loop-word.self)
    c.loop-word.invariant.gone in
    let all = c.loop-word-test.false in
    absurd (omega (arith, last, all))

pub returns-then-not-goes_on-clause-work : goal.returns-then-not-goes_on-clause-work
returns-then-not-goes_on-clause-work c = c.loop-word.invariant.work

pub returns-in_err-step-2-clause-work : goal.returns-in_err-step-2-clause-work
returns-in_err-step-2-clause-work c = c.step-in-loop-word.ensures.work ∙ c.loop-word.invariant.work
