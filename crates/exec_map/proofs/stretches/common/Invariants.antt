use Rattle.std.proofs.Common.{◌+◌, ◌-◌, length}
use Rattle.exec_map.proofs.Meeting.{IsMeeting}
use Rattle.exec_map.proofs.stretches.common.Given as goal

abbrev pub invariant-loop-i : goal.invariant-loop-i
invariant-loop-i l = IsMeeting l.left l.right l.common.items l.i l.j

abbrev pub decreases-loop-i : goal.decreases-loop-i
decreases-loop-i l = (length l.left - l.i) + (length l.right - l.j)
