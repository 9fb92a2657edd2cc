use Rattle.std.proofs.Common.{◌≡◌, ℕ, ◌+◌, ◌∙◌, arith, refl, subst}
use Rattle.node_words.specs.GoingOn.{GoesFurther}
use Rattle.node_words.proofs.WordLemmas.{goes_both, goes_none, goes_one}
use Rattle.node_words.proofs.UndoLogLemmas.{undoable_both, undoable_same}
use Rattle.node_words.proofs.exec_state.ExecState.run_singly.Goals as goal

pub loop-words-init : goal.loop-words-init
loop-words-init c =
    let b = c.args.self.now in
    record {
      goes = λ w. let same : w ≡ w + 0 = omega arith in
          subst (λ (n : ℕ). GoesFurther c.args.image.now b c.args.from w b c.args.from n) same
          (goes_none c.args.image.now c.args.from w b b refl refl);
      most = omega arith;
      counts = refl;
      undoable = undoable_same b;
    }

pub loop-words-preserved : goal.loop-words-preserved
loop-words-preserved c =
    let l = c.loop-words in
    let image = c.args.image.now in
    let b = c.args.self.now in
    let b' = c.step_on.new.self in
    record {
      goes = λ w. let same : w + l.words + 1 ≡ w + (l.words + 1) = omega arith in
          subst (λ (n : ℕ). GoesFurther image b c.args.from w b' c.in-Some.next n) same
          (goes_both image c.args.from w l.at (w + l.words) c.in-Some.next (w + l.words + 1) b l.self b' (l.invariant.goes w)
          (goes_one image l.at (w + l.words) c.in-Some.next l.self b' c.in-Some.ensures.steps));
      most = omega (arith, c.loop-words-test.true);
      counts = c.step_on.ensures.counts ∙ l.invariant.counts;
      undoable = undoable_both b l.self b' l.invariant.undoable c.step_on.ensures.undoable;
    }

pub returns-in-None-clause-goes : goal.returns-in-None-clause-goes
returns-in-None-clause-goes c w =
    let l = c.loop-words in
    let image = c.args.image.now in
    let steps = c.in-None.ensures.steps in
    goes_both image c.args.from w l.at (w + l.words) l.at (w + l.words) c.args.self.now l.self c.step_on.new.self
    (l.invariant.goes w) (goes_none image l.at (w + l.words) l.self c.step_on.new.self steps.0 steps.1)

pub returns-in-None-clause-undoable : goal.returns-in-None-clause-undoable
returns-in-None-clause-undoable c =
    let l = c.loop-words in
    undoable_both c.args.self.now l.self c.step_on.new.self l.invariant.undoable c.step_on.ensures.undoable
