-- Words of a stretch more.
use Rattle.std.proofs.Common.{◌+◌, ◌-◌, sym, subst, arith}
use Rattle.run_order.specs.node_model.Node.{Work}
use Rattle.run_order.specs.node_model.Core.{Exec, May}
use Rattle.dsm_core.specs.CoreParts.{core_of}
use Rattle.replay.specs.declared.events.Replayer.{Replayer}
use Rattle.replay.specs.Way.{last_at}
use Rattle.replay.proofs.Cursors.{first_sooner, words_less, words_no_more}
use Rattle.replay.proofs.Passing.{stretch_on}
use Rattle.replay.proofs.Stretches.{made_words}
use Rattle.replay.proofs.events.Replayer.make_silent_words.Goals as goal

pub returns-clause-made : goal.returns-clause-made
returns-clause-made g c = λ before h.
    let a = c.args.self.now in let s = c.args.stretch.now in
    let d : Replayer = record { core = c.run_by-words.new.self; cursors = c.follow_words.new.self } in
    let w = a.cursors in let i = s.node in
    let is = c.requires.stretch in
    let k = c.run_by-words.result in
    let most = c.run_by-words.ensures.most in
    let within = is.words in
    made_words a d before i k s.entry h is.node is.is_entry (omega (arith, most, within))
    (λ some. first_sooner w w.rec.now.nodes (last_at w i + s.words) (last_at w i + k) i (omega (arith, most))
    (is.first (omega (arith, some, most))))
    c.run_by-words.ensures.passed c.run_by-words.ensures.work c.follow_words.ensures.followed

pub returns-clause-stretch : goal.returns-clause-stretch
returns-clause-stretch g c =
    let a = c.args.self.now in let s = c.args.stretch.now in
    let d : Replayer = record { core = c.run_by-words.new.self; cursors = c.follow_words.new.self } in
    let k = c.run_by-words.result in
    let most = c.run_by-words.ensures.most in
    stretch_on a d s k (s.words - k) (omega (arith, most)) c.requires.stretch c.follow_words.ensures.followed
    (subst (λ (z : Work). May z (core_of d.core) (Exec s.node)) (sym c.run_by-words.ensures.work)
    c.run_by-words.ensures.passed.may)

pub returns-clause-fewer : goal.returns-clause-fewer
returns-clause-fewer g c = λ some.
    let s = c.args.stretch.now in let w = c.args.self.now.cursors in
    let is = c.requires.stretch in
    let most = c.run_by-words.ensures.most in
    let within = is.words in
    words_less w c.follow_words.new.self s.node c.run_by-words.result s.entry c.follow_words.ensures.followed
    is.node is.is_entry (omega (arith, most, within)) (omega (arith, some))

pub returns-clause-most : goal.returns-clause-most
returns-clause-most g c =
    let s = c.args.stretch.now in let w = c.args.self.now.cursors in
    let is = c.requires.stretch in
    let most = c.run_by-words.ensures.most in
    let within = is.words in
    words_no_more w c.follow_words.new.self s.node c.run_by-words.result s.entry c.follow_words.ensures.followed
    is.node is.is_entry (omega (arith, most, within))
