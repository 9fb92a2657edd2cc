use Rattle.std.proofs.Common.{◌+◌, set, sym, ap, ◌∙◌, arith}
use Rattle.std.specs.Prelude.{slice_index}
use Rattle.std.proofs.lemmas.List.{get_or_read, length-set}
use Rattle.rv32_step.specs.OneMemory.{Original, step as model_step}
use Rattle.one_memory.specs.Machine.{state_of, original_of}
use Rattle.one_memory.specs.ByOrder.{one_more}
use Rattle.one_memory.specs.Running.{steps_of}
use Rattle.one_memory.proofs.OrderLemmas.{is_counted, known_of, stays, goes, same_live}
use Rattle.one_memory.proofs.by_order.OriginalRun.step.Goals as goal

pub advance-requires-clause-node : goal.advance-requires-clause-node
advance-requires-clause-node c =
    (known_of c.args.self.now c.args.place c.index-p.result.now c.requires.running c.requires.among c.index-p.ensures).known

pub advance-requires-clause-runs : goal.advance-requires-clause-runs
advance-requires-clause-runs c =
    (known_of c.args.self.now c.args.place c.index-p.result.now c.requires.running c.requires.among c.index-p.ensures).runs

pub index_mut-requires : goal.index_mut-requires
index_mut-requires c =
    let inside = (known_of c.args.self.now c.args.place c.index-p.result.now c.requires.running c.requires.among c.index-p.ensures).inside in
    grind (arith, inside)

pub overflow_add-index_mut : goal.overflow_add-index_mut
overflow_add-index_mut c =
    let most = (is_counted c.args.self.now c.args.place _ _ c.requires.running c.requires.among c.index-p.ensures c.index_mut.ensures.value).most in
    let range = c.requires.running.budget in
    omega (arith, most, range)

pub goes_on-requires-clause-node : goal.goes_on-requires-clause-node
goes_on-requires-clause-node c =
    let known = (known_of c.args.self.now c.args.place c.index-p.result.now c.requires.running c.requires.among c.index-p.ensures).known in
    let nodes = ap (λ (o : Original). o.nodes) c.in_ok-advance.ensures.original in
    omega (arith, known, nodes)

pub goes_on-requires-clause-steps : goal.goes_on-requires-clause-steps
goes_on-requires-clause-steps c =
    let inside = (known_of c.args.self.now c.args.place c.index-p.result.now c.requires.running c.requires.among c.index-p.ensures).inside in
    let same = length-set c.args.self.now.steps.items c.index-p.result.now (c.index_mut.result.now + 1) in
    omega (arith, inside, same)

pub returns-then-not-goes_on-clause-running : goal.returns-then-not-goes_on-clause-running
returns-then-not-goes_on-clause-running c =
    let r = c.args.self.now in
    let o = original_of r.machine in
    let running = c.requires.running in
    let same = c.in_ok-advance.ensures.original in
    let more = (is_counted r c.args.place _ _ running c.requires.among c.index-p.ensures c.index_mut.ensures.value).more in
    let at = get_or_read r.live.items c.args.place _ c.requires.among c.index-p.ensures 0 in
    record {
      few = running.few;
      budget = running.budget;
      nodes = ap (λ (w : Original). w.nodes) same ∙ running.nodes;
      steps = length-set r.steps.items c.index-p.result.now (c.index_mut.result.now + 1) ∙ running.steps;
      live = c.remove.ensures.items
          ∙ goes o r.budget c.index-p.result.now (steps_of r) (state_of r.machine) _ _ r.live.items c.args.place (record { steps_are = more; state_is = c.in_ok-advance.ensures.state }) running.live c.requires.among at (sym c.if-not-goes_on.ensures)
          ∙ same_live r.budget (slice_index (set r.steps.items c.index-p.result.now (c.index_mut.result.now + 1))) (state_of c.advance.new.machine) o (original_of c.advance.new.machine) (sym same);
    }

pub returns-then-not-goes_on-clause-state : goal.returns-then-not-goes_on-clause-state
returns-then-not-goes_on-clause-state c =
    let r = c.args.self.now in
    let at = get_or_read r.live.items c.args.place _ c.requires.among c.index-p.ensures 0 in
    c.in_ok-advance.ensures.state ∙ ap (λ p. (model_step (original_of r.machine) (state_of r.machine) p).state) at

pub returns-then-not-goes_on-clause-steps : goal.returns-then-not-goes_on-clause-steps
returns-then-not-goes_on-clause-steps c =
    let r = c.args.self.now in
    let at = get_or_read r.live.items c.args.place _ c.requires.among c.index-p.ensures 0 in
    (is_counted r c.args.place _ _ c.requires.running c.requires.among c.index-p.ensures c.index_mut.ensures.value).more
    ∙ ap (one_more (steps_of r)) at

pub returns-else-not-goes_on-clause-running : goal.returns-else-not-goes_on-clause-running
returns-else-not-goes_on-clause-running c =
    let r = c.args.self.now in
    let o = original_of r.machine in
    let running = c.requires.running in
    let same = c.in_ok-advance.ensures.original in
    let more = (is_counted r c.args.place _ _ running c.requires.among c.index-p.ensures c.index_mut.ensures.value).more in
    let at = get_or_read r.live.items c.args.place _ c.requires.among c.index-p.ensures 0 in
    record {
      few = running.few;
      budget = running.budget;
      nodes = ap (λ (w : Original). w.nodes) same ∙ running.nodes;
      steps = length-set r.steps.items c.index-p.result.now (c.index_mut.result.now + 1) ∙ running.steps;
      live = stays o r.budget c.index-p.result.now (steps_of r) (state_of r.machine) _ _ r.live.items c.args.place (record { steps_are = more; state_is = c.in_ok-advance.ensures.state }) running.live c.requires.among at (sym c.if-not-goes_on.ensures)
          ∙ same_live r.budget (slice_index (set r.steps.items c.index-p.result.now (c.index_mut.result.now + 1))) (state_of c.advance.new.machine) o (original_of c.advance.new.machine) (sym same);
    }

pub returns-else-not-goes_on-clause-state : goal.returns-else-not-goes_on-clause-state
returns-else-not-goes_on-clause-state c =
    let r = c.args.self.now in
    let at = get_or_read r.live.items c.args.place _ c.requires.among c.index-p.ensures 0 in
    c.in_ok-advance.ensures.state ∙ ap (λ p. (model_step (original_of r.machine) (state_of r.machine) p).state) at

pub returns-else-not-goes_on-clause-steps : goal.returns-else-not-goes_on-clause-steps
returns-else-not-goes_on-clause-steps c =
    let r = c.args.self.now in
    let at = get_or_read r.live.items c.args.place _ c.requires.among c.index-p.ensures 0 in
    (is_counted r c.args.place _ _ c.requires.running c.requires.among c.index-p.ensures c.index_mut.ensures.value).more
    ∙ ap (one_more (steps_of r)) at
