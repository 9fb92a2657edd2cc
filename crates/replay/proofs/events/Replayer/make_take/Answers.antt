-- The next take.
use Rattle.std.proofs.Common.{◌≤◌, ◌∙◌, IfOk, ap, sym, subst}
use Rattle.run_order.specs.node_model.declared.Entry.{Entry as JournalEntry}
use Rattle.run_order.specs.node_model.Core.{Take}
use Rattle.replay.specs.Way.{cursor_at, ComesFirst, HasMadeOne}
use Rattle.std.proofs.lemmas.Result.{on_ok_weaker}
use Rattle.replay.proofs.Cursors.{take_less}
use Rattle.replay.proofs.Runs.{entry_one}
use Rattle.replay.proofs.events.Replayer.make_take.Goals as goal

pub take-requires-clause-words : goal.take-requires-clause-words
take-requires-clause-words c =
    let w = c.args.self.now.cursors in
    let x = c.requires.next in
    subst (λ (e : JournalEntry). e.words ≤ (cursor_at w c.args.node).words)
    (entry_one w c.args.node x.entry c.in-Some.entry x.is_entry c.in-Some.ensures) x.words

pub take-requires-clause-first : goal.take-requires-clause-first
take-requires-clause-first c =
    let w = c.args.self.now.cursors in
    let x = c.requires.next in
    subst (λ (e : JournalEntry). ComesFirst w w.rec.now.nodes e.stamp c.args.node)
    (entry_one w c.args.node x.entry c.in-Some.entry x.is_entry c.in-Some.ensures) x.first

pub returns-clause-made : goal.returns-clause-made
returns-clause-made c = λ before h.
    let a = c.args.self.now in
    let x = c.requires.next in
    let same = entry_one a.cursors c.args.node x.entry c.in-Some.entry x.is_entry c.in-Some.ensures in
    subst (λ j. IfOk c.take.result (HasMadeOne a c.take.new.self before (Take c.args.node j)))
    (ap (λ (e : JournalEntry). e.from) (sym same) ∙ x.from) (c.take.ensures.made before h)

pub returns-clause-fewer : goal.returns-clause-fewer
returns-clause-fewer c =
    let w = c.args.self.now.cursors in
    let x = c.requires.next in
    let same = entry_one w c.args.node x.entry c.in-Some.entry x.is_entry c.in-Some.ensures in
    let le : c.in-Some.entry.words ≤ (cursor_at w c.args.node).words =
    subst (λ (e : JournalEntry). e.words ≤ (cursor_at w c.args.node).words) same x.words in
    on_ok_weaker c.take.result (λ f. take_less w c.take.new.self.cursors c.args.node c.in-Some.entry f x.node
    c.in-Some.ensures le) c.take.ensures.followed
