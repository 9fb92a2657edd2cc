-- Words that are noted, between where notes start and where they stop.
use Rattle.std.proofs.Common.{List, ap, sym, subst, ◌∙◌}
use Rattle.node_words.specs.declared.exec_state.ExecState.{ExecState}
use Rattle.node_words.specs.declared.store_log.Note.{Note}
use Rattle.node_words.specs.declared.undo_log.Saved.{Saved}
use Rattle.node_words.specs.GoingOn.{BodyGoesOn, BodyTells}
use Rattle.node_words.specs.UndoLogs.{TakesBack}
use Rattle.node_words.proofs.exec_state.ExecState.run_noting.Goals as goal

pub returns-clause-words : goal.returns-clause-words
returns-clause-words g c =
    let run = c.run-progress in
    let first = c.args.self.now in
    subst (λ (x : ExecState). BodyGoesOn c.args.image.now c.args.most c.args.from first run.result.words run.result.at x)
    (sym c.stop_noting.ensures.same)
    (subst (λ (x : ExecState). BodyGoesOn c.args.image.now c.args.most c.args.from x run.result.words run.result.at run.new.body)
    c.start_noting.ensures.same run.ensures.words)

pub returns-clause-learns : goal.returns-clause-learns
returns-clause-learns g c =
    let run = c.run-progress in
    let tells = subst (λ (x : ExecState). BodyTells (λ work k n. g.L.WordLoop.learns work k n c.args.by.now run.new.self) c.args.image.now
    c.args.most c.args.from x run.result.words) c.start_noting.ensures.same run.ensures.learns in
    record { some = tells.some; none = tells.none }

pub returns-clause-back : goal.returns-clause-back
returns-clause-back g c =
    let run = c.run-progress in
    let first = c.args.self.now in
    let saved = c.start_noting.new.undo_log.saved in
    let stop = c.stop_noting in
    let back = (run.ensures.undoable c.start_noting.ensures.on).1 saved first.lane first.local c.start_noting.ensures.back in
    subst (λ (x : ExecState). TakesBack stop.new.undo_log.saved stop.new.undo_log.notes.items x.lane x.local first.lane first.local)
    (sym stop.ensures.same)
    (subst (λ (s : Saved). TakesBack s stop.new.undo_log.notes.items run.new.body.lane run.new.body.local first.lane first.local)
    (sym stop.ensures.saved)
    (subst (λ (ns : List Note). TakesBack saved ns run.new.body.lane run.new.body.local first.lane first.local)
    (sym stop.ensures.notes) back))

pub returns-clause-counts : goal.returns-clause-counts
returns-clause-counts g c =
    ap (λ (x : ExecState). x.counts) c.stop_noting.ensures.same ∙ c.run-progress.ensures.counts
    ∙ ap (λ (x : ExecState). x.counts) c.start_noting.ensures.same
