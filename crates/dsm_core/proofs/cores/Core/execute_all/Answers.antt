-- A word was executed, or none may be.
use Rattle.std.proofs.Common.{arith}
use Rattle.dsm_core.specs.CoreParts.{work_of, core_of}
use Rattle.dsm_core.proofs.CoreRuns.{goes_nowhere}
use Rattle.dsm_core.proofs.Words.{executed_goes}
use Rattle.dsm_core.proofs.Rounds.{gone_none, gone_for, kept_there}
use Rattle.dsm_core.proofs.cores.Core.execute_all.Goals as goal

pub returns-then-not-enabled-clause-leads : goal.returns-then-not-enabled-clause-leads
returns-then-not-enabled-clause-leads c =
    goes_nowhere (work_of c.args.self.now) (core_of c.args.self.now)

pub returns-then-not-enabled-clause-gone : goal.returns-then-not-enabled-clause-gone
returns-then-not-enabled-clause-gone c =
    gone_none (work_of c.args.self.now) (core_of c.args.self.now)

pub returns-in_err-run_until_send-clause-leads : goal.returns-in_err-run_until_send-clause-leads
returns-in_err-run_until_send-clause-leads c =
    let p = c.args.self.now in
    kept_there (work_of p) (core_of p) (core_of p) (core_of c.run_until_send.new.self)
    c.in_err-run_until_send.ensures.err (goes_nowhere (work_of p) (core_of p))

pub returns-in_ok-run_until_send-clause-leads : goal.returns-in_ok-run_until_send-clause-leads
returns-in_ok-run_until_send-clause-leads c =
    let p = c.args.self.now in
    (executed_goes (work_of p) c.args.node c.in_ok-run_until_send.field-0 (core_of p)
    (core_of c.run_until_send.new.self) c.in_ok-run_until_send.ensures.ran).goes

pub returns-in_ok-run_until_send-clause-gone : goal.returns-in_ok-run_until_send-clause-gone
returns-in_ok-run_until_send-clause-gone c =
    let p = c.args.self.now in
    let d = core_of c.run_until_send.new.self in
    gone_for (work_of p) 1 (core_of p) d (omega arith)
    (executed_goes (work_of p) c.args.node c.in_ok-run_until_send.field-0 (core_of p) d
    c.in_ok-run_until_send.ensures.ran)
