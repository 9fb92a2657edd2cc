use Rattle.std.proofs.Common.{subst}
use Rattle.std.specs.Prelude.{All}
use Rattle.exec_map.specs.Index.{IsSome, IsOfWords}
use Rattle.exec_map.proofs.Merging.{Ascend, merging_start, merging_joins, merging_pushes, merging_end}
use Rattle.exec_map.proofs.stretches.merged.Goals as goal
use Rattle.exec_map.proofs.stretches.merged.Goals.{then-r-last, else-r-last+in_ok-push}

pub loop-r-init : goal.loop-r-init
loop-r-init c =
    rw c.new-merged.ensures.items
    (merging_start c.in-Some.first.now c.in-Some.rest.now
    (subst (All IsSome) c.in-Some.ensures.cases.0 c.requires.some)
    (subst Ascend c.in-Some.ensures.cases.0 c.requires.sorted))

pub loop-r-preserved : goal.loop-r-preserved
loop-r-preserved c =
    let some = subst (All IsSome) c.in-Some.ensures.cases.0 c.requires.some in
    let ascend = subst Ascend c.in-Some.ensures.cases.0 c.requires.sorted in
    elim c.if-r-last.branch [
      | then-r-last w ↦
          rw (w.merged-is, w.last-is, w.max.ensures)
          (merging_joins _ _ _ _ c.loop-r.r-index (record { first = 0; end = 0 }) some ascend c.loop-r.invariant c.loop-r-test.true w.if-r-last.true)
      | else-r-last+in_ok-push w ↦
          rw (w.merged-is, w.last-is, w.in_ok-push.ensures.items)
          (merging_pushes _ _ _ _ c.loop-r.r-index (record { first = 0; end = 0 }) some ascend c.loop-r.invariant c.loop-r-test.true w.if-r-last.false)
    ]

pub returns-clause-whole : goal.returns-clause-whole
returns-clause-whole c = λ all.
    rw c.in_ok-push-2.ensures.items
    ((merging_end _ _ _ _ c.loop-r.r-index c.loop-r.invariant c.loop-r-test.false).whole (subst (All IsOfWords) c.in-Some.ensures.cases.0 all))

pub returns-clause-numbers : goal.returns-clause-numbers
returns-clause-numbers c = λ n.
    rw (c.in_ok-push-2.ensures.items, c.in-Some.ensures.cases.0)
    ((merging_end _ _ _ _ c.loop-r.r-index c.loop-r.invariant c.loop-r-test.false).numbers n)
