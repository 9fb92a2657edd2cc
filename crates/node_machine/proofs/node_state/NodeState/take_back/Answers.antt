use Rattle.std.proofs.Common.{◌*◌, ◌≤◌, List, ◌∙◌, ap, sym, subst, length, arith}
use Rattle.block_layout.specs.Layout.{Shape}
use Rattle.node_words.specs.exec_map.Contents.{program_of}
use Rattle.run_limits.specs.Ranges.{IsBudget}
use Rattle.node_words.specs.jump_map.Image.{Cell, most_words}
use Rattle.node_words.specs.home_directory.Effects.{entry_at, entries_of, members}
use Rattle.node_words.specs.miss_handlers.Waits.{wait_of}
use Rattle.node_words.specs.declared.exec_state.ExecState.{ExecState}
use Rattle.node_words.specs.Address.{word_address}
use Rattle.node_words.specs.node_memory.Shelf.{Ground, ground_of}
use Rattle.node_words.specs.Kept.{lane_of}
use Rattle.node_words.specs.UndoLogs.{TakesBack}
use Rattle.node_words.specs.node_model.Node.{can_execute}
use Rattle.node_words.specs.node_model.Turns.{words_before}
use Rattle.node_machine.specs.declared.protocol_state.ProtocolState.{ProtocolState}
use Rattle.node_machine.specs.declared.phase.Phase as kept
use Rattle.node_machine.specs.NodeState.{layout_of, phase_of, entries_in, IsProtocolState, AreCountsBelow, WaitsInPhase}
use Rattle.node_machine.proofs.node_state.NodeState.take_back.Goals as goal

pub take_back-requires : goal.take_back-requires
take_back-requires c = record { aligned = c.requires.back.1.words.aligned }

pub returns-clause-back : goal.returns-clause-back
returns-clause-back c first back =
    let i = c.args.self.now in
    let t = c.args.undo_log.now in
    let body = c.deref_mut.ensures.value in
    let words = subst (λ (x : ExecState). TakesBack t.words.saved t.words.notes.items x.lane x.local first.shared.body.value.lane first.shared.body.value.local) (sym body) back.words in
    let same = c.take_back.ensures.back first.shared.body.value.lane first.shared.body.value.local words in
    let lane = same.lane (word_address t.at) ∙ ap (λ a. lane_of first.shared.body.value.lane (word_address a)) back.at in
    let counts = c.take_back.ensures.counts ∙ ap (λ (x : ExecState). x.counts) body ∙ back.counts in
    λ t. record {
      me = (back.protocol t).directory.me;
      lane = lane t;
      local = same.local t;
      executed = back.executed t;
      phase = phase_of (back.phase t);
      entry = entries_in (back.protocol t).directory.layout (back.protocol t).directory.me (entry_at (back.protocol t).directory.entries);
      waiting = (entries_of (back.protocol t).directory).waiting;
      occupancy = (entries_of (back.protocol t).directory).occupancy;
      wait = wait_of (back.protocol t).waits;
      byes = members (back.byes t);
      stamp = back.stamp t;
      journal = back.journal t;
      output = back.output t;
      counts = counts t;
    }

pub returns-clause-work : goal.returns-clause-work
returns-clause-work c =
    let i = c.args.self.now in
    let g = c.take_back.ensures.ground ∙ ap (λ (x : ExecState). ground_of x.local) c.deref_mut.ensures.value in
    λ t. record { program = program_of (g t).program; image = i.lane.image.now; layout = (g t).layout; budget = i.lane.budget }

pub returns-clause-node : goal.returns-clause-node
returns-clause-node c =
    let i = c.args.self.now in
    let t = c.args.undo_log.now in
    let first = c.requires.back.0 in
    let back = c.requires.back.1 in
    let n = back.is_node in
    let executed = back.executed in
    let budget = back.budget in
    let noted = back.noted in
    let within = n.lane.within in
    let behind = n.behind in
    let g = c.take_back.ensures.ground ∙ ap (λ (x : ExecState). ground_of x.local) c.deref_mut.ensures.value ∙ back.words.ground_same in
    let layout = ap (λ (z : Ground). z.layout) g in
    let counts = c.take_back.ensures.counts ∙ ap (λ (x : ExecState). x.counts) c.deref_mut.ensures.value ∙ back.counts in
    record {
      lane = record {
        within = omega (arith, within, executed, budget);
        going = λ may. let low = n.lane.going (ap (λ (p : kept.Phase). can_execute (phase_of p)) (sym back.phase) ∙ may) in omega (arith, low, executed, budget);
        range = subst IsBudget (sym budget) n.lane.range;
        short = subst (λ (cells : List Cell). length cells ≤ most_words) (sym back.image) n.lane.short;
      };
      protocol = subst (λ (l : Shape). IsProtocolState l i.shared.protocol) (sym layout) (subst (λ (d : ProtocolState). IsProtocolState (layout_of first.shared.body.value) d) (sym back.protocol) n.protocol);
      waits = subst (λ (d : ProtocolState). WaitsInPhase (phase_of t.phase) (length d.waits.waits)) (sym back.protocol)
          (subst (λ (p : kept.Phase). WaitsInPhase (phase_of p) (length first.shared.protocol.waits.waits)) (sym back.phase) n.waits);
      noted = noted ∙ n.noted ∙ ap words_before (sym back.journal);
      behind = omega (arith, behind, noted, executed);
      counts = subst (AreCountsBelow (19 * t.stamp)) (sym counts) (subst (λ s. AreCountsBelow (19 * s) first.shared.body.value.counts) (sym back.stamp) n.counts);
    }
