use Rattle.std.proofs.Common.{refl, sym, ap, ◌∙◌}
use Rattle.node_memory.specs.micro_op.Micro.{Demands}
use Rattle.node_memory.specs.rv32_step.declared.Demand.TheVariants.{Loads}
use Rattle.node_words.specs.declared.exec_state.ExecState.{ExecState}
use Rattle.node_words.specs.Kept.{lane_of}
use Rattle.node_words.proofs.AccessLemmas.{loaded_gives}
use Rattle.node_words.proofs.StrideLemmas.{load_leaves, loads, steps_next}
use Rattle.node_words.proofs.UndoLogLemmas.{undoable_mild}
use Rattle.node_words.proofs.exec_state.ExecState.load_by.Goals as goal

pub returns-in-Some-clause-tried : goal.returns-in-Some-clause-tried
returns-in-Some-clause-tried c image =
    let b = c.args.self.now in
    let b' : ExecState = record b { lane = record b.lane { registers = c.set.new.self } } in
    let op = c.args.op.now in
    let a = c.sum_by.result in
    let v = c.extend.result in
    let means = c.requires.means ∙ ap (λ x. Demands (Loads c.args.kind op.rd x)) (sym c.sum_by.ensures) in
    let gives = loaded_gives b c.args.kind c.width.result a c.in-Some.raw v c.width.ensures.value c.in-Some.ensures.value
    c.extend.ensures in
    steps_next image op (Loads c.args.kind op.rd a) c.args.going.now c.on.new.self b b' means c.on.ensures.left
    c.on.ensures.at c.requires.low (loads b b' c.args.kind op.rd a gives.aligned
    (load_leaves b b' c.args.kind op.rd a v gives (λ at t. record (lane_of b.lane at) { registers = c.set.ensures t }) refl))

pub returns-then-load_far-clause-tried : goal.returns-then-load_far-clause-tried
returns-then-load_far-clause-tried c image =
    let op = c.args.op.now in
    steps_next image op _ c.args.going.now c.on-then-load_far.new.self c.args.self.now c.load_far.new.self c.requires.means
    c.on-then-load_far.ensures.left c.on-then-load_far.ensures.at c.requires.low (c.if-load_far.ensures.does refl)

pub returns-in-Some-clause-undoable : goal.returns-in-Some-clause-undoable
returns-in-Some-clause-undoable c =
    let b = c.args.self.now in
    let b' : ExecState = record b { lane = record b.lane { registers = c.set.new.self } } in
    undoable_mild b b' refl refl refl refl
