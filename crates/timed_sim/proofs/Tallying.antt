-- What a loop that counts by tallies learns of each node's words.
use Rattle.std.proofs.Common.{◌≡◌, ℕ, zero, suc, ◌+◌, ◌<◌, ap, sym, ◌∙◌, subst, inl, inr, arith}
use Rattle.dsm_core.specs.node_model.Node.{Work}
use Rattle.dsm_core.specs.node_model.Core.{Core}
use Rattle.dsm_core.specs.CoreWords.{LearnsBelow}
use Rattle.word_visits.specs.declared.counting.TallyLoop.{TallyLoop}
use Rattle.word_visits.specs.declared.tallies.Tallies.{Tallies}
use Rattle.word_visits.specs.Tallies.{AreTallied, steps_of}
use Rattle.word_visits.specs.TallyLoops.{HasCounted}
use Rattle.word_visits.specs.TallyTables.{tallies_of}
use Rattle.timed_sim.specs.Tallied.{steps_below}
use Rattle.timed_sim.proofs.Numbered.{below_or_last}

pub record HasCountedBelow (work : Work) (words : ℕ → ℕ) (k : ℕ) (c : Core) (l m : TallyLoop) : Type 0 where
  pub same : m.tallies.now ≡ l.tallies.now
  pub tallied : (i : ℕ) → i < k → AreTallied work (words i) (c.nodes i) (tallies_of l.tallies.now)
  pub count : m.steps ≡ l.steps + steps_below work words k c (tallies_of l.tallies.now)

pub counted_below : (work : Work) (words : ℕ → ℕ) (k : ℕ) (c : Core) (l m : TallyLoop)
    → LearnsBelow HasCounted work words k c l m → HasCountedBelow work words k c l m
counted_below work words zero c l m same =
    let steps = ap (λ (x : TallyLoop). x.steps) same in
    record {
      same = ap (λ (x : TallyLoop). x.tallies.now) (sym same);
      tallied = λ i low. absurd (omega (arith, low));
      count = omega (arith, steps);
    }
counted_below work words (suc k) c l m learned =
    let here = learned.0 in
    let last = learned.2 in
    let before = counted_below work words k c l here learned.1 in
    let one : AreTallied work (words k) (c.nodes k) (tallies_of l.tallies.now) =
    subst (λ (t : Tallies). AreTallied work (words k) (c.nodes k) (tallies_of t)) before.same last.tallied in
    let more = last.count
    ∙ ap (λ (t : Tallies). here.steps + steps_of work (words k) (c.nodes k) (tallies_of t)) before.same in
    let first = before.count in
    record {
      same = last.same ∙ before.same;
      tallied = λ i low. elim (below_or_last i k low) [
        | inl below ↦ before.tallied i below
        | inr same ↦ subst (λ (j : ℕ). AreTallied work (words j) (c.nodes j) (tallies_of l.tallies.now)) (sym same) one
      ];
      count = omega (arith, more, first);
    }
