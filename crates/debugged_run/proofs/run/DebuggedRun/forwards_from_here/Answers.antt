use Rattle.std.proofs.Common.{ℕ, ◌≤◌, List, length, sym, subst}
use Rattle.one_memory.specs.declared.Pick.{Pick}
use Rattle.debugged_run.proofs.run.DebuggedRun.forwards_from_here.Goals as goal

pub forward_to_stop-requires-clause-ahead : goal.forward_to_stop-requires-clause-ahead
forward_to_stop-requires-clause-ahead c =
    let s = c.self.inside.machine in
    let within : s.position ≤ length s.run.picks =
    subst (λ (n : ℕ). n ≤ length s.run.picks) c.position-from.ensures.value c.position-from.ensures.within in
    subst (λ (picks : List Pick). s.position ≤ length picks) (sym c.picks-last.ensures) within
