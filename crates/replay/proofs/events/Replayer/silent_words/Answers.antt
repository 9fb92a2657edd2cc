-- Silent words more.
use Rattle.std.proofs.Common.{◌+◌, arith}
use Rattle.replay.specs.Way.{last_at}
use Rattle.replay.specs.declared.events.Replayer.{Replayer}
use Rattle.replay.proofs.Cursors.{first_sooner}
use Rattle.replay.proofs.Stretches.{run_words}
use Rattle.replay.proofs.events.Replayer.silent_words.Goals as goal

pub returns-clause-running : goal.returns-clause-running
returns-clause-running c =
    let a = c.args.self.now in
    let b : Replayer = record {
      core = c.run_silent-words.new.self;
      cursors = c.follow_words.new.self;
    } in
    let r = c.requires in
    run_words a b c.args.node c.run_silent-words.result c.args.entry r.running r.node r.entry
    (omega (arith, r.words, c.run_silent-words.ensures.most))
    (first_sooner a.cursors a.cursors.rec.now.nodes (last_at a.cursors c.args.node + c.args.most)
    (last_at a.cursors c.args.node + c.run_silent-words.result) c.args.node
    (omega (arith, c.run_silent-words.ensures.most)) r.first)
    c.run_silent-words.ensures.passed c.run_silent-words.ensures.work c.follow_words.ensures.followed
