-- A word more.
use Rattle.std.proofs.Common.{◌<◌, ◌≤◌, ◌+◌, ◌-◌, sym, subst, arith}
use Rattle.run_order.specs.node_model.Node.{Work}
use Rattle.run_order.specs.node_model.Core.{Exec, May}
use Rattle.dsm_core.specs.CoreParts.{core_of}
use Rattle.replay.specs.declared.events.Replayer.{Replayer}
use Rattle.replay.specs.Way.{cursor_at, last_at}
use Rattle.replay.proofs.Cursors.{first_sooner, words_less}
use Rattle.replay.proofs.Passing.{passed_word, stretch_on}
use Rattle.replay.proofs.events.Replayer.make_silent_word.Goals as goal

pub returns-clause-passed : goal.returns-clause-passed
returns-clause-passed c = λ before h yes.
    let a = c.args.self.now in let s = c.args.stretch.now in
    let d : Replayer = record { core = c.exec_silent.new.self; cursors = c.follow_word.new.self } in
    let w = a.cursors in let i = s.node in
    let is = c.requires.stretch in
    let some = c.requires.some in
    let within = is.words in
    let lt : (cursor_at w i).words < s.entry.words = omega (arith, some, within) in
    let first = first_sooner w w.rec.now.nodes (last_at w i + s.words) (last_at w i + 1) i (omega (arith, some))
    (is.first some) in
    passed_word a d before i s.entry h is.node is.is_entry lt first is.may (c.exec_silent.ensures.passed c.if-not-exec_silent.false)
    c.exec_silent.ensures.work c.follow_word.ensures.followed

pub returns-clause-stretch : goal.returns-clause-stretch
returns-clause-stretch c = λ yes.
    let a = c.args.self.now in let s = c.args.stretch.now in
    let d : Replayer = record { core = c.exec_silent.new.self; cursors = c.follow_word.new.self } in
    let some = c.requires.some in
    let p = c.exec_silent.ensures.passed c.if-not-exec_silent.false in
    stretch_on a d s 1 (s.words - 1) (omega (arith, some)) c.requires.stretch c.follow_word.ensures.followed
    (subst (λ (z : Work). May z (core_of d.core) (Exec s.node)) (sym c.exec_silent.ensures.work) p.may)

pub returns-clause-fewer : goal.returns-clause-fewer
returns-clause-fewer c = λ yes.
    let s = c.args.stretch.now in let w = c.args.self.now.cursors in
    let is = c.requires.stretch in
    let some = c.requires.some in
    let within = is.words in
    let le : (cursor_at w s.node).words + 1 ≤ s.entry.words = omega (arith, some, within) in
    words_less w c.follow_word.new.self s.node 1 s.entry c.follow_word.ensures.followed is.node is.is_entry le (omega arith)
