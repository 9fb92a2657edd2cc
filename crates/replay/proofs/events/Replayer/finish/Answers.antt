-- One node more that is over, or the first that isn't.
use Rattle.std.proofs.Common.{◌≡◌, ◌≢◌, ℕ, ◌+◌, ◌<◌, length, sym, ap, ap₂, subst, ◌∙◌, refl, arith, ⊎_elim}
use Rattle.std.proofs.lemmas.Bool.{cases_eq}
use Rattle.block_layout.specs.Layout.{Shape}
use Rattle.run_order.specs.node_model.declared.Standing.TheVariants.{Over}
use Rattle.run_order.specs.node_model.Node.{Work, Node, standing_of}
use Rattle.dsm_core.specs.CoreParts.{work_of, core_of}
use Rattle.replay.specs.declared.refused.ReplayRule.{ReplayRule}
use Rattle.replay.specs.declared.refused.ReplayRule.TheVariants.{NotThere}
use Rattle.replay.specs.Refusals.{IsUnfinished}
use Rattle.replay.specs.Way.{entries_at, left_at, last_at}
use Rattle.replay.proofs.Way.{unfinished, whole}
use Rattle.replay.proofs.Runs.{err_same}
use Rattle.replay.proofs.events.Replayer.finish.Goals as goal

pub loop-node-init : goal.loop-node-init
loop-node-init c = λ i lt. absurd (omega arith)

pub returns-in_default : goal.returns-in_default
returns-in_default c =
    let a = c.args.self.now in
    let i = c.loop-node.node in
    let r = c.requires.running in
    let bi : i < a.core.layout.nodes = subst (λ k. i < k) (c.nodes-node-end.ensures.nodes
    ∙ ap (λ (s : Shape). s.nodes) c.layout.ensures.value) c.loop-node-test.true in
    let stands : c.standing.result ≡ standing_of (work_of a.core) ((core_of a.core).nodes i) =
    c.standing.ensures.value
    ∙ ap₂ (λ (w : Work) (n : Node). standing_of w n) c.node.ensures.work c.node.ensures.value in
    record {
      whole = λ before h. tt;
      over = tt;
      refused = λ rule j number err.
          let P : ReplayRule → ℕ → ℕ → Type 0 =
          λ x y n. IsUnfinished (work_of a.core) a.cursors.rec.now x y n in
          err_same (Unit {0}) P c.unfinished.result NotThere rule i j
          (length (entries_at a.cursors i) + 1) number c.unfinished.ensures.value err
          (unfinished (work_of a.core) a.cursors.rec.now (left_at a.cursors) (last_at a.cursors)
          (core_of a.core) i (length (entries_at a.cursors i) + 1) (sym r.nodes) r.way
          c.requires.through bi refl
          (λ over. c.in_default.not-Over (stands ∙ over)) c.loop-node.invariant);
    }

pub loop-node-preserved : goal.loop-node-preserved
loop-node-preserved c =
    let a = c.args.self.now in
    let k = c.loop-node.node in
    let stands : c.standing.result ≡ standing_of (work_of a.core) ((core_of a.core).nodes k) =
    c.standing.ensures.value
    ∙ ap₂ (λ (w : Work) (n : Node). standing_of w n) c.node.ensures.work c.node.ensures.value in
    let over : standing_of (work_of a.core) ((core_of a.core).nodes k) ≡ Over =
    sym stands ∙ c.in-Over.is in
    λ i lt. ⊎_elim
    (λ (e : i ≡ k). subst (λ j. standing_of (work_of a.core) ((core_of a.core).nodes j) ≡ Over)
    (sym e) over)
    (λ (e : i ≢ k). c.loop-node.invariant i (omega arith)) (cases_eq i k)

pub returns-clause-over : goal.returns-clause-over
returns-clause-over c =
    let all = c.nodes-node-end.ensures.nodes ∙ ap (λ (s : Shape). s.nodes) c.layout.ensures.value in
    λ i bi. c.loop-node.invariant i (omega (arith, all))

pub returns-clause-whole : goal.returns-clause-whole
returns-clause-whole c = λ before h.
    let a = c.args.self.now in
    let all = c.nodes-node-end.ensures.nodes ∙ ap (λ (s : Shape). s.nodes) c.layout.ensures.value in
    record {
      are_told = whole (work_of a.core) a.cursors.rec.now (left_at a.cursors) (last_at a.cursors)
          (core_of a.core) (sym h.nodes) (before, h.way) c.requires.through;
      made = h.way.made;
      over = λ i bi. ap (λ z. standing_of (work_of a.core) z) (sym (h.way.alike.nodes i bi))
          ∙ c.loop-node.invariant i (omega (arith, all));
    }
