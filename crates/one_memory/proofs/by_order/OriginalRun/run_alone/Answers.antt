use Rattle.std.proofs.Common.{arith}
use Rattle.std.proofs.lemmas.List.{get_or_read}
use Rattle.one_memory.specs.Machine.{state_of}
use Rattle.one_memory.proofs.LoneLemmas.{lone_counted, alone_to_end}
use Rattle.one_memory.proofs.by_order.OriginalRun.run_alone.Goals as goal

pub index-requires : goal.index-requires
index-requires c = let inside = (lone_counted c.args.self.now c.args.p c.requires.running c.requires.alone).inside in grind (arith, inside)

pub overflow_sub-rest : goal.overflow_sub-rest
overflow_sub-rest c =
    let l = lone_counted c.args.self.now c.args.p c.requires.running c.requires.alone in
    let value = get_or_read c.args.self.now.steps.items c.args.p c.index.result.now l.inside c.index.ensures 0 in
    let below = l.below in
    omega (arith, value, below)

pub run_alone-requires-clause-node : goal.run_alone-requires-clause-node
run_alone-requires-clause-node c = (lone_counted c.args.self.now c.args.p c.requires.running c.requires.alone).known

pub run_alone-requires-clause-runs : goal.run_alone-requires-clause-runs
run_alone-requires-clause-runs c = (lone_counted c.args.self.now c.args.p c.requires.running c.requires.alone).runs

pub returns-clause-run : goal.returns-clause-run
returns-clause-run c number =
    let r = c.args.self.now in
    let p = c.args.p in
    let l = lone_counted r p c.requires.running c.requires.alone in
    let value = get_or_read r.steps.items p c.index.result.now l.inside c.index.ensures 0 in
    let below = l.below in
    let done = c.in_ok-run_alone.ensures in
    let most = done.most in
    alone_to_end r p c.in_ok-run_alone.field-0 number (state_of c.run_alone.new.self) c.requires.running c.requires.alone done.turns
    (omega (arith, value, below, most)) (λ lt. done.all (omega (arith, lt, value, below)))
