use Rattle.std.proofs.Common.{inl, sym, subst}
use Rattle.std.proofs.lemmas.Result.{err_from_is_err_and}
use Rattle.dsm_core.specs.CoreParts.{outcome_of}
use Rattle.command_line.specs.Tasks.{AreFew, SimArguments}
use Rattle.command_line.specs.Meaning.{lanes_of, loss_of, sim_of}
use Rattle.node_model.specs.Outcome.{Outcome}
use Rattle.dsm_io.specs.States.{SinkState}
use Rattle.judged_files.specs.Executables.{IsUnread}
use Rattle.judged_files.specs.declared.refusal.Subject.TheVariants.{Executable}
use Rattle.commands.specs.Headline.{IsOutcomeOfSim, IsTextWith}
use Rattle.text_output.specs.Failures.{IsNever}
use Rattle.prepared_run.specs.Ready.{work_for}
use Rattle.judged_files.specs.Given.{bytes_of}
use Rattle.judged_files.specs.Inputs.{Inputs}
use Rattle.judged_files.specs.Refusals.{IsRunRefused, IsBadRunLayout}
use Rattle.text_output.proofs.Pieces.{never, refused_first}
use Rattle.commands.proofs.Pieces.{outcome_put, outcome_fails}
use Rattle.commands.proofs.SimLemmas.{is_of_sim}
use Rattle.commands.proofs.sim.sim.Goals as goal

-- the outcome that is asked for
abbrev Is : Inputs → SimArguments → Outcome → Type 0
Is inputs a o = IsOutcomeOfSim inputs a.execution.nodes a.order a.execution.budget a.lanes a.loss o

pub returns-in_err-elf-clause-failure : goal.returns-in_err-elf-clause-failure
returns-in_err-elf-clause-failure g c =
    let a = sim_of c.args.arguments.now in
    let inputs = bytes_of c.args.inputs.now in
    let state : SinkState = g.O.Sink.state c.args.out.now in
    let e = err_from_is_err_and c.from_residual.result c.from_residual.ensures.1 in
    rw (e.1, e.2) (refused_first (IsTextWith (Is inputs a) a.execution.brief)
    (IsUnread Executable inputs.executable) IsNever (IsRunRefused inputs)
    (IsBadRunLayout inputs a.execution.nodes) state c.in_err-elf.field-0.0 (λ line h. inl (inl (inl h)))
    (never (IsBadRunLayout inputs a.execution.nodes)) c.in_err-elf.ensures.refused)

pub returns-in_err-prepared-clause-failure : goal.returns-in_err-prepared-clause-failure
returns-in_err-prepared-clause-failure g c =
    let a = sim_of c.args.arguments.now in
    let inputs = bytes_of c.args.inputs.now in
    let state : SinkState = g.O.Sink.state c.args.out.now in
    let e = err_from_is_err_and c.from_residual-in_err-prepared.result
    c.from_residual-in_err-prepared.ensures.1 in
    rw (e.1, e.2) (refused_first (IsTextWith (Is inputs a) a.execution.brief)
    (IsRunRefused inputs) (IsBadRunLayout inputs a.execution.nodes) (IsRunRefused inputs)
    (IsBadRunLayout inputs a.execution.nodes) state c.in_err-prepared.field-0.0 (λ line h. h) (λ line h. h)
    c.in_err-prepared.ensures.refused)

pub returns-clause-ok : goal.returns-clause-ok
returns-clause-ok g c =
    let a = sim_of c.args.arguments.now in
    let inputs = bytes_of c.args.inputs.now in
    let o : Outcome = outcome_of c.in_ok-outcome.outcome in
    let is : Is inputs a o =
    is_of_sim inputs a.execution.nodes a.order a.execution.budget c.args.arguments.now.machine
    c.in_ok-prepared.prepared.program c.in_ok-prepared.prepared.rewritten.plan
    (work_for c.in_ok-prepared.prepared) o c.in_ok-prepared.ensures.runs
    c.in_ok-prepared.ensures.asked c.in_ok-outcome.ensures.outcome in
    outcome_put (Is inputs a) a.execution.brief o (g.O.Sink.state c.args.out.now)
    (g.O.Sink.state c.put_told.new.out) c.put_told.result is c.put_told.ensures.ok

pub returns-clause-failure : goal.returns-clause-failure
returns-clause-failure g c =
    let before : SinkState = g.O.Sink.state c.args.out.now in
    let now : SinkState = g.O.Sink.state c.put_told.new.out in
    let a = sim_of c.args.arguments.now in
    let inputs = bytes_of c.args.inputs.now in
    let o : Outcome = outcome_of c.in_ok-outcome.outcome in
    let is : Is inputs a o =
    is_of_sim inputs a.execution.nodes a.order a.execution.budget c.args.arguments.now.machine
    c.in_ok-prepared.prepared.program c.in_ok-prepared.prepared.rewritten.plan
    (work_for c.in_ok-prepared.prepared) o c.in_ok-prepared.ensures.runs
    c.in_ok-prepared.ensures.asked c.in_ok-outcome.ensures.outcome in
    outcome_fails (Is inputs a) a.execution.brief (IsRunRefused inputs) (IsBadRunLayout inputs a.execution.nodes) o before
    now c.put_told.result is c.put_told.ensures.failure

pub execute-requires-clause-few : goal.execute-requires-clause-few
execute-requires-clause-few g c =
    let machine = c.args.arguments.now.machine in
    subst (λ n. AreFew n (loss_of machine) (lanes_of machine)) (sym c.in_ok-prepared.ensures.asked.count)
    c.requires.few
