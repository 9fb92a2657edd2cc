use Rattle.std.proofs.Common.{◌≡◌, ◌+◌, ◌*◌, ◌∙◌, ap, sym, subst, refl, length, arith}
use Rattle.std.specs.Box.{with_value}
use Rattle.block_layout.specs.Layout.{Shape}
use Rattle.node_words.specs.exec_map.Contents.{program_of}
use Rattle.node_words.specs.declared.exec_state.ExecState.{ExecState}
use Rattle.node_machine.specs.declared.node_state.NodeState.{NodeState}
use Rattle.node_words.specs.Address.{word_address}
use Rattle.node_words.specs.node_model.Node.{next_outcome}
use Rattle.node_words.specs.node_memory.Shelf.{Ground, ground_of, local_of}
use Rattle.node_words.specs.Kept.{Follows, lane_of}
use Rattle.node_machine.specs.NodeState.{layout_of, phase_of, work_of, IsProtocolState, IsNode, AreCountsBelow}
use Rattle.node_machine.proofs.NodeStateLemmas.{passed_turn, may_waits, counts_up}
use Rattle.node_machine.proofs.node_state.NodeState.exec_silent.Goals as goal

pub returns-in-Some-clause-passed : goal.returns-in-Some-clause-passed
returns-in-Some-clause-passed c =
    let i = c.args.self.now in
    let b = c.step_at.new.self in
    let f = subst (λ (x : ExecState). Follows i.lane.image.now (next_outcome (program_of x.local.program) i.lane.image.now (lane_of x.lane (word_address i.lane.at)) (local_of x.local))
    (ground_of x.local) (word_address c.in-Some.at) b.lane b.local) c.deref_mut.ensures.value c.in-Some.ensures.steps in
    let counts = c.step_at.ensures.counts ∙ ap (λ (x : ExecState). x.counts) c.deref_mut.ensures.value in
    let budget = c.number.ensures.value in
    λ yes. (passed_turn i b c.in-Some.at f counts (omega (arith, budget)), refl)

pub returns-in-Some-clause-work : goal.returns-in-Some-clause-work
returns-in-Some-clause-work c =
    let i = c.args.self.now in
    let g = c.in-Some.ensures.steps.ground_same ∙ ap (λ (b : ExecState). ground_of b.local) c.deref_mut.ensures.value in
    λ t. record { program = program_of (g t).program; image = i.lane.image.now; layout = (g t).layout; budget = i.lane.budget }

pub returns-in-Some-clause-node : goal.returns-in-Some-clause-node
returns-in-Some-clause-node c =
    let i = c.args.self.now in
    let n = c.requires.node in
    let low = n.lane.going c.requires.may in
    let budget = c.number.ensures.value in
    let behind = n.behind in
    let layout = ap (λ (g : Ground). g.layout) c.in-Some.ensures.steps.ground_same ∙ ap layout_of c.deref_mut.ensures.value in
    let counts = c.step_at.ensures.counts ∙ ap (λ (b : ExecState). b.counts) c.deref_mut.ensures.value in
    record {
      lane = record {
        within = omega (arith, low);
        going = λ may. omega (arith, budget);
        range = n.lane.range;
        short = n.lane.short;
      };
      protocol = subst (λ (l : Shape). IsProtocolState l i.shared.protocol) (sym layout) n.protocol;
      waits = may_waits (phase_of i.lane.phase) (length i.shared.protocol.waits.waits) c.requires.may n.waits;
      noted = n.noted;
      behind = omega (arith, behind);
      counts = counts_up (19 * i.shared.stamp) (19 * (i.shared.stamp + 1)) c.step_at.new.self.counts (omega arith)
          (subst (AreCountsBelow (19 * i.shared.stamp)) (sym counts) n.counts);
    }

-- where the micro-op served nothing, the inner is as it was

abbrev with_body : NodeState → ExecState → NodeState
with_body i b = record i { shared = record i.shared { body = with_value i.shared.body b } }

kept_frame : (i : NodeState) (b : ExecState) → b ≡ i.shared.body.value → with_body i b ≡ i
kept_frame i b same = λ t. with_body i (same t)

none_changed : (c : goal.In-None) → with_body c.args.self.now c.step_at.new.self ≡ c.args.self.now
none_changed c = kept_frame c.args.self.now c.step_at.new.self ((λ t. record {
  lane = c.in-None.ensures.steps.0 t;
  local = c.in-None.ensures.steps.1 t;
  counts = c.step_at.ensures.counts t;
  log = c.in-None.ensures.log refl t;
}) ∙ c.deref_mut.ensures.value)

pub returns-in-None-clause-same : goal.returns-in-None-clause-same
returns-in-None-clause-same c = λ no. none_changed c

pub returns-in-None-clause-work : goal.returns-in-None-clause-work
returns-in-None-clause-work c = ap work_of (none_changed c)

pub returns-in-None-clause-node : goal.returns-in-None-clause-node
returns-in-None-clause-node c = subst IsNode (sym (none_changed c)) c.requires.node
