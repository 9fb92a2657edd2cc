-- A word more.
use Rattle.std.proofs.Common.{◌∙◌}
use Rattle.replay.specs.declared.events.Replayer.{Replayer}
use Rattle.replay.proofs.Runs.{run_word, step_behind, may_behind}
use Rattle.replay.proofs.events.Replayer.word.Goals as goal

pub returns-then-exec_silent-clause-running : goal.returns-then-exec_silent-clause-running
returns-then-exec_silent-clause-running c =
    let a = c.args.self.now in
    let b : Replayer = record { core = c.exec_silent.new.self; cursors = c.follow_word.new.self } in
    let r = c.requires in
    let passed = c.exec_silent.ensures.passed c.if-exec_silent.true in
    run_word a b c.args.node c.args.entry r.running r.node r.entry r.word r.first r.may passed.event
    c.exec_silent.ensures.work c.follow_word.ensures.followed

pub step-requires : goal.step-requires
step-requires c = record {
  enabled = may_behind c.args.self.now.core c.exec_silent.new.self c.args.node
      (c.exec_silent.ensures.kept c.if-exec_silent.false) c.exec_silent.ensures.work c.requires.may;
}

pub returns-clause-running : goal.returns-clause-running
returns-clause-running c =
    let a = c.args.self.now in
    let b : Replayer = record { core = c.step.new.self; cursors = c.follow_word-2.new.self } in
    let r = c.requires in
    let made = c.in_ok-step.ensures in
    run_word a b c.args.node c.args.entry r.running r.node r.entry r.word r.first r.may
    (step_behind a.core c.exec_silent.new.self c.step.new.self c.args.node
    (c.exec_silent.ensures.kept c.if-exec_silent.false) c.exec_silent.ensures.work made.event)
    (made.work ∙ c.exec_silent.ensures.work) c.follow_word-2.ensures.followed
