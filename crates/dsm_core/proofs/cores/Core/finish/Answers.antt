-- A round more, and few can follow; where nothing is left to do every node is over.
use Rattle.std.proofs.Common.{◌<◌, ◌∙◌, true, sym, subst, arith}
use Rattle.run_order.specs.node_model.Node.{Work}
use Rattle.dsm_core.specs.CoreParts.{work_of, core_of}
use Rattle.dsm_core.specs.CoreSteps.{HasGone, one_if}
use Rattle.dsm_core.proofs.Rounds.{goes_there, for_there, still_there, over_where_still}
use Rattle.dsm_core.proofs.cores.Core.finish.Goals as goal

pub returns-in_err-round-clause-leads : goal.returns-in_err-round-clause-leads
returns-in_err-round-clause-leads c =
    let p = c.args.self.now in
    let q = c.loop-round.self in
    goes_there (work_of q) (work_of p) (core_of p) (core_of q) (core_of c.round.new.self)
    c.loop-round.invariant.work c.loop-round.invariant.gone.goes c.round.ensures.leads

pub returns-in_err-round-clause-adds : goal.returns-in_err-round-clause-adds
returns-in_err-round-clause-adds c =
    let p = c.args.self.now in
    let q = c.loop-round.self in
    c.bounds.ensures.adds (core_of c.round.new.self)
    (goes_there (work_of q) (work_of p) (core_of p) (core_of q) (core_of c.round.new.self)
    c.loop-round.invariant.work c.loop-round.invariant.gone.goes c.round.ensures.leads)

pub returns-in_err-round-clause-work : goal.returns-in_err-round-clause-work
returns-in_err-round-clause-work c = c.round.ensures.work ∙ c.loop-round.invariant.work

pub returns-then-not-branch-clause-over : goal.returns-then-not-branch-clause-over
returns-then-not-branch-clause-over c =
    let q = c.loop-round.self in
    let r = c.round.new.self in
    let same = sym c.round.ensures.work in
    over_where_still (work_of r) (core_of r) c.promises.ensures.goes_on
    (λ i below. still_there (work_of q) (work_of r) i (core_of r) same
    (c.in_ok-round.ensures.still c.if-not-branch.true i
    (subst (λ (w : Work). i < w.layout.nodes) (sym same) below)))

pub returns-then-not-branch-clause-leads : goal.returns-then-not-branch-clause-leads
returns-then-not-branch-clause-leads c =
    let p = c.args.self.now in
    let q = c.loop-round.self in
    goes_there (work_of q) (work_of p) (core_of p) (core_of q) (core_of c.round.new.self)
    c.loop-round.invariant.work c.loop-round.invariant.gone.goes c.round.ensures.leads

pub returns-then-not-branch-clause-adds : goal.returns-then-not-branch-clause-adds
returns-then-not-branch-clause-adds c =
    let p = c.args.self.now in
    let q = c.loop-round.self in
    c.bounds.ensures.adds (core_of c.round.new.self)
    (goes_there (work_of q) (work_of p) (core_of p) (core_of q) (core_of c.round.new.self)
    c.loop-round.invariant.work c.loop-round.invariant.gone.goes c.round.ensures.leads)

pub returns-then-not-branch-clause-work : goal.returns-then-not-branch-clause-work
returns-then-not-branch-clause-work c = c.round.ensures.work ∙ c.loop-round.invariant.work

pub loop-round-preserved : goal.loop-round-preserved
loop-round-preserved c =
    let p = c.args.self.now in
    let q = c.loop-round.self in
    let r = c.round.new.self in
    let some = subst (λ b. HasGone (work_of q) (one_if b) (core_of q) (core_of r))
    c.if-not-branch.false c.in_ok-round.ensures.gone in
    record {
      gone = for_there (work_of q) (work_of p) c.loop-round._round (core_of p) (core_of q) (core_of r)
          c.loop-round.invariant.work c.loop-round.invariant.gone some.goes;
      work = c.round.ensures.work ∙ c.loop-round.invariant.work;
    }

pub unreachable-requires : goal.unreachable-requires
unreachable-requires c =
    let last = c.bounds.ensures.runs c.loop-round._round (core_of c.loop-round.self)
    c.loop-round.invariant.gone in
    let all = c.loop-round-test.false in
    absurd (omega (arith, last, all))
