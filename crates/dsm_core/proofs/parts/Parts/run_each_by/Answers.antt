-- Words of every node, as they are stored, are those of the core.
use Rattle.std.proofs.Common.{◌≡◌, ℕ, ◌∙◌, sym, subst, slice_index_or}
use Rattle.dsm_core.specs.CoreParts.{CoreParts, work_of, core_with, core_of, AreParts}
use Rattle.dsm_core.specs.CoreWords.{HaveEachPassed, LearnsBelow}
use Rattle.dsm_core.specs.CoreSteps.{HaveLearnedBelow}
use Rattle.dsm_core.specs.UndoLogs.{HaveGone, AreSameBelow}
use Rattle.dsm_core.proofs.CoreSteps.{if_ok, on_err}
use Rattle.dsm_core.proofs.UndoLogLemmas.{passed_core, kept_core}
use Rattle.dsm_core.proofs.parts.Parts.run_each_by.Goals as goal

pub returns-clause-passed : goal.returns-clause-passed
returns-clause-passed g c =
    let p : CoreParts = record {
      program = c.self.inside.program.now;
      image = c.self.inside.image.now;
      layout = c.self.inside.layout;
      budget = c.self.inside.budget;
      nodes = c.self.inside.nodes.items;
      lists = c.self.inside.lists.items;
    } in
    let are = subst AreParts (sym c.self.view_is) c.requires.parts in
    let ns = c.run_each_by.new.nodes.items in
    let e = c.nodes-count.ensures.nodes in
    let n = c.nodes-count.result in
    let words : ℕ → ℕ = λ i. slice_index_or c.args.words.now i 0 in
    if_ok c.run_each_by.result
    (λ u (gone : HaveGone words n p.nodes ns).
    subst (λ (q : CoreParts). HaveEachPassed (work_of q) words (core_of q)
    (core_with (work_of p) ns p.lists)) c.self.view_is
    (passed_core (work_of p) words p.nodes ns p.lists are.count (c.run_each_by.ensures.count ∙ e) are.works
    (subst (λ k. HaveGone words k p.nodes ns) e gone))) c.run_each_by.ensures.passed

pub returns-clause-kept : goal.returns-clause-kept
returns-clause-kept g c =
    let p : CoreParts = record {
      program = c.self.inside.program.now;
      image = c.self.inside.image.now;
      layout = c.self.inside.layout;
      budget = c.self.inside.budget;
      nodes = c.self.inside.nodes.items;
      lists = c.self.inside.lists.items;
    } in
    let are = subst AreParts (sym c.self.view_is) c.requires.parts in
    let ns = c.run_each_by.new.nodes.items in
    let e = c.nodes-count.ensures.nodes in
    on_err c.run_each_by.result
    (λ (same : AreSameBelow c.nodes-count.result p.nodes ns).
    subst (λ (q : CoreParts). core_with (work_of p) ns p.lists ≡ core_of q) c.self.view_is
    (kept_core (work_of p) p.nodes ns p.lists (c.run_each_by.ensures.count ∙ e ∙ sym are.count)
    (subst (λ k. AreSameBelow k p.nodes ns) (e ∙ sym are.count) same))) c.run_each_by.ensures.kept

pub returns-clause-learns : goal.returns-clause-learns
returns-clause-learns g c =
    let p : CoreParts = record {
      program = c.self.inside.program.now;
      image = c.self.inside.image.now;
      layout = c.self.inside.layout;
      budget = c.self.inside.budget;
      nodes = c.self.inside.nodes.items;
      lists = c.self.inside.lists.items;
    } in
    let are = subst AreParts (sym c.self.view_is) c.requires.parts in
    let e = c.nodes-count.ensures.nodes in
    let words : ℕ → ℕ = λ i. slice_index_or c.args.words.now i 0 in
    let learns = g.L.WordLoop.learns in
    let old = c.args.by.now in
    let new = c.run_each_by.new.by in
    if_ok c.run_each_by.result
    (λ u (learned : HaveLearnedBelow learns words c.nodes-count.result p.nodes old new).
    subst (λ (q : CoreParts). LearnsBelow learns (work_of q) words q.layout.nodes (core_of q) old new) c.self.view_is
    (subst (λ (k : ℕ). LearnsBelow learns (work_of p) words k (core_of p) old new) e
    (learned (work_of p) p.lists are.works))) c.run_each_by.ensures.learns

pub run_each_by-requires-clause-goes_over : goal.run_each_by-requires-clause-goes_over
run_each_by-requires-clause-goes_over g c =
    let p : CoreParts = record {
      program = c.self.inside.program.now;
      image = c.self.inside.image.now;
      layout = c.self.inside.layout;
      budget = c.self.inside.budget;
      nodes = c.self.inside.nodes.items;
      lists = c.self.inside.lists.items;
    } in
    let are = subst AreParts (sym c.self.view_is) c.requires.parts in
    record {
      work = work_of p;
      runs = are.works;
      image = subst (λ (q : CoreParts). g.L.WordLoop.goes_over (work_of q).image c.args.by.now) (sym c.self.view_is)
          c.requires.goes_over;
    }
