-- One word after another.
use Rattle.std.proofs.Common.{◌+◌, List, subst, sym, arith}
use Rattle.templates.specs.declared.commits.CommitKind.{CommitKind}
use Rattle.run_trace.proofs.Kinded.{AreKindsTo, one_kind, all_kinds}
use Rattle.run_trace.proofs.kinds.CommitKinds.of.Goals as goal

pub loop-number-preserved : goal.loop-number-preserved
loop-number-preserved c =
    let plan = c.args.plan.now in
    let image = c.args.image.now in
    let n = c.loop-number.number in
    record {
      kinds = λ program code.
          subst (λ (ks : List CommitKind). AreKindsTo program plan image ks (n + 1)) (sym c.in_ok-push.ensures.items)
          (one_kind program plan image c.loop-number.kinds.items n c.commit_at.result c.old_of-place.result
          (c.loop-number.invariant.kinds program code) c.old_of-place.ensures.value (c.commit_at.ensures.kind program code));
      entries = c.commit_at.ensures.entries;
    }

pub returns : goal.returns
returns c = λ program code.
    all_kinds program c.args.plan.now c.args.image.now c.loop-number.kinds.items c.loop-number.number
    (c.loop-number.invariant.kinds program code)
    (omega (arith, c.words-number-end.ensures.value, c.loop-number-test.false, c.loop-number.auto.number-end))
