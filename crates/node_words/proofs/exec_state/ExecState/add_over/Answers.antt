use Rattle.std.proofs.Common.{◌≡◌, ℕ, ◌+◌, subst, sym, arith}
use Rattle.node_memory.specs.micro_op.Kinds.{branch_kind}
use Rattle.node_memory.specs.jump_map.Strides.{IsOver, IsPolled}
use Rattle.node_words.specs.Strides.{IsTried, StridesBy, straight}
use Rattle.node_words.proofs.ReachLemmas.{code_of}
use Rattle.node_words.proofs.WholeLemmas.{op_then}
use Rattle.node_words.proofs.exec_state.ExecState.add_over.Goals as goal

pub over-requires-clause-polls : goal.over-requires-clause-polls
over-requires-clause-polls c i below =
    subst (λ (k : ℕ). IsPolled c.args.micros.now (k + i)) (sym c.add.ensures.next) (c.requires.polls i below)

pub over-requires-clause-there : goal.over-requires-clause-there
over-requires-clause-there c =
    subst (λ (k : ℕ). IsOver c.args.micros.now (k + c.args.behind) (branch_kind c.args.c)) (sym c.add.ensures.next)
    c.requires.there

pub returns-clause-strides : goal.returns-clause-strides
returns-clause-strides c image few are =
    let b = c.args.self.now in
    let m = c.add.new.self in
    let reach : 1 + (2 + c.args.behind) ≡ 3 + c.args.behind = omega arith in
    subst (λ (r : ℕ). IsTried c.over.result (StridesBy image (straight r) c.args.going.now b c.over.new.going m) c.args.going.now b
    c.over.new.going m) reach
    (op_then (code_of b image c.args.micros.now few are) (2 + c.args.behind) c.args.op.now c.args.going.now c.add.new.going
    c.over.new.going b m m c.add.result c.over.result c.requires.here c.add.ensures.next c.add.ensures.done c.over.ensures.done (c.add.ensures.tried image)
    (c.over.ensures.strides image few are))
