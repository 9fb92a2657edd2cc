use Rattle.std.proofs.Common.{◌≡◌, ◌+◌, ◌*◌, ◌<◌, ◌∙◌, ap, sym, subst, refl, length, arith, add-zero}
use Rattle.block_layout.specs.Layout.{Shape}
use Rattle.node_words.specs.exec_map.Contents.{program_of}
use Rattle.node_words.specs.declared.exec_state.ExecState.{ExecState}
use Rattle.node_words.specs.node_model.Node.{Node, can_execute}
use Rattle.node_words.specs.GoingOn.{node_on}
use Rattle.node_words.specs.Runs.{GoesOnBy}
use Rattle.node_words.specs.node_memory.Shelf.{Ground, ground_of}
use Rattle.node_machine.specs.NodeState.{node_of, work_of, layout_of, phase_of, IsProtocolState, AreCountsBelow, WaitsInPhase}
use Rattle.node_words.proofs.WordLemmas.{still_may}
use Rattle.node_machine.proofs.NodeStateLemmas.{on_waits, counts_up}
use Rattle.node_machine.proofs.UndoLogLemmas.{passed_to}
use Rattle.node_machine.proofs.node_state.NodeState.run_by.Goals as goal

pub returns-clause-goes_on : goal.returns-clause-goes_on
returns-clause-goes_on g c =
    let i = c.args.self.now in
    let low = c.requires.node.lane.going c.requires.may in
    let budget = c.number.ensures.value in
    let first = c.most_words-left.ensures.first in
    let second = c.most_words-most.ensures.second in
    let words = c.run-stretch.result.words in
    let at = c.run-stretch.result.at in
    let b = c.run-stretch.new.body in
    let room : i.lane.executed + c.most_words-most.result < i.lane.budget = omega (arith, low, budget, first, second) in
    let on = subst (λ (x : ExecState). GoesOnBy (work_of i) words (node_on (node_of i) x i.lane.at 0)
    (node_on (node_of i) b at words)) c.deref_mut.ensures.value
    (c.run-stretch.ensures.words (work_of i) (node_of i) refl
    (ap (λ (x : ExecState). program_of x.local.program) (sym c.deref_mut.ensures.value))
    c.requires.may room) in
    let start : node_on (node_of i) i.shared.body.value i.lane.at 0 ≡ node_of i = λ t. record (node_of i) {
      executed = add-zero i.lane.executed t;
      stamp = add-zero i.shared.stamp t;
    } in
    let counts = c.run-stretch.ensures.counts ∙ ap (λ (x : ExecState). x.counts) c.deref_mut.ensures.value in
    let phase = c.phase_on-self.ensures in
    let end : node_on (node_of i) b at words ≡ passed_to i b at words c.phase_on-self.result =
    λ t. record (node_on (node_of i) b at words) { phase = sym phase t; counts = sym counts t } in
    subst (λ (x : Node). GoesOnBy (work_of i) words (node_of i) x) end
    (subst (λ (x : Node). GoesOnBy (work_of i) words x (node_on (node_of i) b at words)) start on)

pub returns-clause-learns : goal.returns-clause-learns
returns-clause-learns g c =
    let i = c.args.self.now in
    let low = c.requires.node.lane.going c.requires.may in
    let budget = c.number.ensures.value in
    let first = c.most_words-left.ensures.first in
    let second = c.most_words-most.ensures.second in
    let words = c.run-stretch.result.words in
    let learned = λ (n : Node). g.L.WordLoop.learns (work_of i) words n c.args.by.now c.run-stretch.new.self in
    let room : i.lane.executed + c.most_words-most.result < i.lane.budget = omega (arith, low, budget, first, second) in
    let on = subst (λ (x : ExecState). learned (node_on (node_of i) x i.lane.at 0)) c.deref_mut.ensures.value
    (c.run-stretch.ensures.learns.some (work_of i) (node_of i) refl
    (ap (λ (x : ExecState). program_of x.local.program) (sym c.deref_mut.ensures.value))
    c.requires.may room) in
    let start : node_on (node_of i) i.shared.body.value i.lane.at 0 ≡ node_of i = λ t. record (node_of i) {
      executed = add-zero i.lane.executed t;
      stamp = add-zero i.shared.stamp t;
    } in
    subst learned start on

pub returns-clause-may : goal.returns-clause-may
returns-clause-may g c =
    let i = c.args.self.now in
    ap can_execute c.phase_on-self.ensures ∙ still_may (phase_of i.lane.phase) c.run-stretch.result.words c.requires.may

pub returns-clause-work : goal.returns-clause-work
returns-clause-work g c =
    let i = c.args.self.now in
    let g = c.run-stretch.ensures.ground ∙ ap (λ (x : ExecState). ground_of x.local) c.deref_mut.ensures.value in
    λ t. record { program = program_of (g t).program; image = i.lane.image.now; layout = (g t).layout; budget = i.lane.budget }

pub returns-clause-node : goal.returns-clause-node
returns-clause-node g c =
    let i = c.args.self.now in
    let n = c.requires.node in
    let low = n.lane.going c.requires.may in
    let behind = n.behind in
    let budget = c.number.ensures.value in
    let first = c.most_words-left.ensures.first in
    let second = c.most_words-most.ensures.second in
    let words = c.run-stretch.ensures.most in
    let layout = ap (λ (g : Ground). g.layout) c.run-stretch.ensures.ground ∙ ap layout_of c.deref_mut.ensures.value in
    let counts = c.run-stretch.ensures.counts ∙ ap (λ (b : ExecState). b.counts) c.deref_mut.ensures.value in
    record {
      lane = record {
        within = omega (arith, low, budget, first, second, words);
        going = λ may. omega (arith, low, budget, first, second, words);
        range = n.lane.range;
        short = n.lane.short;
      };
      protocol = subst (λ (l : Shape). IsProtocolState l i.shared.protocol) (sym layout) n.protocol;
      waits = subst (λ p. WaitsInPhase p (length i.shared.protocol.waits.waits)) (sym c.phase_on-self.ensures)
          (on_waits (phase_of i.lane.phase) c.run-stretch.result.words (length i.shared.protocol.waits.waits)
          c.requires.may n.waits);
      noted = n.noted;
      behind = omega (arith, behind);
      counts = counts_up (19 * i.shared.stamp) (19 * (i.shared.stamp + c.run-stretch.result.words))
          c.run-stretch.new.body.counts (omega arith)
          (subst (AreCountsBelow (19 * i.shared.stamp)) (sym counts) n.counts);
    }
