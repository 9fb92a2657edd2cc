use Rattle.std.proofs.Common.{ℕ, ◌+◌, ◌*◌, ◌∙◌, ap, sym, subst, refl, length, arith}
use Rattle.block_layout.specs.Layout.{Shape}
use Rattle.node_words.specs.exec_map.Contents.{program_of}
use Rattle.node_words.specs.declared.exec_state.ExecState.{ExecState}
use Rattle.node_words.specs.node_model.Node.{Node, Work, can_execute}
use Rattle.node_words.specs.GoingOn.{BodyGoesOn, BodyTells}
use Rattle.node_words.specs.node_memory.Shelf.{Ground, ground_of}
use Rattle.node_words.specs.UndoLogs.{TakesBack}
use Rattle.node_machine.specs.NodeState.{layout_of, phase_of, IsProtocolState, AreCountsBelow, WaitsInPhase}
use Rattle.node_words.proofs.WordLemmas.{still_may}
use Rattle.node_machine.proofs.NodeStateLemmas.{counts_up}
use Rattle.node_machine.proofs.UndoLogLemmas.{goes_on_noted, left_after, noted_waits, tells_noted}
use Rattle.node_machine.proofs.node_state.NodeState.run_undoable_by.Goals as goal

pub returns-clause-goes_on : goal.returns-clause-goes_on
returns-clause-goes_on g c =
    let i = c.args.self.now in
    let run = c.run_noting-stretch in
    let most = c.most_words-most.result in
    let body = c.deref_mut.ensures.value in
    let on = subst (λ (x : ExecState). BodyGoesOn i.lane.image.now most i.lane.at x run.result.words run.result.at run.new.self) body run.ensures.words in
    let counts = run.ensures.counts ∙ ap (λ (x : ExecState). x.counts) body in
    let few = run.ensures.most in
    let first = c.most_words-most.ensures.first in
    let from = c.from.ensures in
    let second = c.most_words-most.ensures.second in
    let left = c.saturating_sub-left.ensures in
    let budget = c.number.ensures.value in
    goes_on_noted i run.new.self run.result.at most run.result.words c.phase_on-self.result on
    (λ some. (c.requires.may (omega (arith, some, few, first, from)), (let low = c.requires.node.lane.going (c.requires.may (omega (arith, some, few, first, from))) in omega (arith, low, second, left, budget))))
    counts c.phase_on-self.ensures

pub returns-clause-learns : goal.returns-clause-learns
returns-clause-learns g c =
    let i = c.args.self.now in
    let run = c.run_noting-stretch in
    let most = c.most_words-most.result in
    let few = run.ensures.most in
    let first = c.most_words-most.ensures.first in
    let from = c.from.ensures in
    let second = c.most_words-most.ensures.second in
    let left = c.saturating_sub-left.ensures in
    let budget = c.number.ensures.value in
    let learned = λ (work : Work) (words : ℕ) (n : Node). g.L.WordLoop.learns work words n c.args.by.now run.new.by in
    tells_noted learned i most run.result.words
    (subst (λ (x : ExecState). BodyTells learned i.lane.image.now most i.lane.at x run.result.words) c.deref_mut.ensures.value run.ensures.learns)
    (λ some. (c.requires.may (omega (arith, some, few, first, from)), (let low = c.requires.node.lane.going (c.requires.may (omega (arith, some, few, first, from))) in omega (arith, low, second, left, budget))))

pub returns-clause-may : goal.returns-clause-may
returns-clause-may g c may =
    let i = c.args.self.now in
    ap can_execute c.phase_on-self.ensures ∙ still_may (phase_of i.lane.phase) c.run_noting-stretch.result.words may

pub returns-clause-back : goal.returns-clause-back
returns-clause-back g c =
    let run = c.run_noting-stretch in
    let body = c.deref_mut.ensures.value in
    record {
      words = subst (λ (x : ExecState). TakesBack run.new.undo_log.saved run.new.undo_log.notes.items run.new.self.lane run.new.self.local x.lane x.local) body run.ensures.back;
      counts = run.ensures.counts ∙ ap (λ (x : ExecState). x.counts) body;
      at = refl;
      executed = refl;
      stamp = refl;
      phase = refl;
      image = refl;
      budget = refl;
      protocol = refl;
      byes = refl;
      journal = refl;
      noted = refl;
      output = refl;
      is_node = c.requires.node;
    }

pub returns-clause-work : goal.returns-clause-work
returns-clause-work g c =
    let i = c.args.self.now in
    let g = c.run_noting-stretch.ensures.back.ground_same ∙ ap (λ (x : ExecState). ground_of x.local) c.deref_mut.ensures.value in
    λ t. record { program = program_of (g t).program; image = i.lane.image.now; layout = (g t).layout; budget = i.lane.budget }

pub returns-clause-node : goal.returns-clause-node
returns-clause-node g c =
    let i = c.args.self.now in
    let n = c.requires.node in
    let run = c.run_noting-stretch in
    let most = c.most_words-most.result in
    let words = run.result.words in
    let behind = n.behind in
    let within = n.lane.within in
    let few = run.ensures.most in
    let first = c.most_words-most.ensures.first in
    let from = c.from.ensures in
    let second = c.most_words-most.ensures.second in
    let left = c.saturating_sub-left.ensures in
    let budget = c.number.ensures.value in
    let layout = ap (λ (g : Ground). g.layout) run.ensures.back.ground_same ∙ ap layout_of c.deref_mut.ensures.value in
    let counts = run.ensures.counts ∙ ap (λ (b : ExecState). b.counts) c.deref_mut.ensures.value in
    record {
      lane = record {
        within = omega (arith, within, few, second, left, budget);
        going = λ may. left_after i words most n few (omega (arith, second, left, budget)) (ap can_execute (sym c.phase_on-self.ensures) ∙ may);
        range = n.lane.range;
        short = n.lane.short;
      };
      protocol = subst (λ (l : Shape). IsProtocolState l i.shared.protocol) (sym layout) n.protocol;
      waits = subst (λ p. WaitsInPhase p (length i.shared.protocol.waits.waits)) (sym c.phase_on-self.ensures)
          (noted_waits (phase_of i.lane.phase) words (length i.shared.protocol.waits.waits) (λ some. c.requires.may (omega (arith, some, few, first, from))) n.waits);
      noted = n.noted;
      behind = omega (arith, behind);
      counts = counts_up (19 * i.shared.stamp) (19 * (i.shared.stamp + words)) run.new.self.counts (omega arith)
          (subst (AreCountsBelow (19 * i.shared.stamp)) (sym counts) n.counts);
    }
