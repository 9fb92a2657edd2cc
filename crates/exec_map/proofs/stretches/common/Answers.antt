use Rattle.exec_map.specs.declared.stretches.NumberRange.{NumberRange}
use Rattle.exec_map.proofs.Meeting.{meeting_start, step_left, step_right, meets, misses}
use Rattle.exec_map.proofs.stretches.common.Goals as goal
use Rattle.exec_map.proofs.stretches.common.Goals.{then-first-end+in_ok-push, else-first-end}

pub loop-i-init : goal.loop-i-init
loop-i-init c = rw c.new-common.ensures.items (meeting_start c.args.left.now c.args.right.now)

pub loop-i-preserved-then-left-i : goal.loop-i-preserved-then-left-i
loop-i-preserved-then-left-i c =
    let d : NumberRange = record { first = 0; end = 0 } in
    let next = step_left _ _ _ c.loop-i.i c.loop-i.j d c.requires.left c.requires.right c.loop-i.invariant c.loop-i-test.true c.if-j-right.true c.if-left-i.true in
    elim c.if-first-end.branch [
      | then-first-end+in_ok-push w ↦
          rw (w.common-is, w.in_ok-push.ensures.items, meets _ _ _ _ _ c.max-first.ensures c.min-end.ensures w.if-first-end.true) next
      | else-first-end w ↦
          rw (w.common-is, misses c.loop-i.common.items _ _ _ _ c.max-first.ensures c.min-end.ensures w.if-first-end.false) next
    ]

pub loop-i-preserved : goal.loop-i-preserved
loop-i-preserved c =
    let d : NumberRange = record { first = 0; end = 0 } in
    let next = step_right _ _ _ c.loop-i.i c.loop-i.j d c.requires.left c.requires.right c.loop-i.invariant c.loop-i-test.true c.if-j-right.true c.if-left-i.false in
    elim c.if-first-end.branch [
      | then-first-end+in_ok-push w ↦
          rw (w.common-is, w.in_ok-push.ensures.items, meets _ _ _ _ _ c.max-first.ensures c.min-end.ensures w.if-first-end.true) next
      | else-first-end w ↦
          rw (w.common-is, misses c.loop-i.common.items _ _ _ _ c.max-first.ensures c.min-end.ensures w.if-first-end.false) next
    ]
