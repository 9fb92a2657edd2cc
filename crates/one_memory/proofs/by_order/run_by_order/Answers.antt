use Rattle.std.proofs.Common.{◌≡◌, ap, ◌∙◌, subst}
use Rattle.rv32_step.specs.OneMemory.{Original, opening}
use Rattle.exec_map.specs.Contents.{program_of}
use Rattle.one_memory.specs.Machine.{state_of, original_of}
use Rattle.one_memory.specs.ByOrder.{IsRunByOrder, ends_by}
use Rattle.one_memory.specs.Running.{HasRun}
use Rattle.one_memory.specs.declared.by_order.OriginalOutcome.{OriginalOutcome}
use Rattle.one_memory.proofs.OrderLemmas.{IsStart, by_order, if_ok_both}
use Rattle.one_memory.proofs.by_order.run_by_order.Goals as goal

pub returns : goal.returns
returns c =
    let o : Original = record { program = program_of c.args.program.now; layout = c.args.layout.now; nodes = c.args.nodes } in
    let old = c.in_ok-run.run' in
    let new = c.execute.new.self in
    let run = c.in_ok-run.ensures in
    let done = c.in_ok-execute.ensures in
    let same : original_of old.machine ≡ o = λ t. record { program = run.program t; layout = run.layout t; nodes = (run.running.nodes ∙ run.nodes) t } in
    let start : IsStart o c.args.budget old = record { state = run.opening ∙ ap opening same; steps = run.steps; original = same; budget = run.budget } in
    let whole = subst (λ n. HasRun old n (state_of new.machine)) c.order_of-order.ensures done.run in
    let nodes : new.nodes ≡ o.nodes = done.nodes ∙ run.nodes in
    let budget : new.budget ≡ c.args.budget = done.budget ∙ run.budget in
    if_ok_both c.outcome.result
    (λ (r : OriginalOutcome). r.output.items ≡ (state_of new.machine).output)
    (λ (r : OriginalOutcome). r.ends.items ≡ ends_by new.budget (state_of new.machine) new.nodes)
    (λ (r : OriginalOutcome). IsRunByOrder o c.args.budget c.args.order r.output.items r.ends.items)
    (λ r output ends. by_order o c.args.budget c.args.order old (state_of new.machine) r.output.items r.ends.items start whole output
    (ends ∙ ap (λ b. ends_by b (state_of new.machine) new.nodes) budget ∙ ap (λ n. ends_by c.args.budget (state_of new.machine) n) nodes))
    c.outcome.ensures.output c.outcome.ensures.ends
