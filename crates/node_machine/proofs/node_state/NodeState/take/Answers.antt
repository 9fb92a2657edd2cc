use Rattle.std.proofs.Common.{◌≡◌, ◌+◌, ◌-◌, ◌*◌, ◌∙◌, ◌++◌, ◌^◌, ap, sym, subst, eqb, length, [], ◌∷◌, None, arith}
use Rattle.block_layout.specs.Layout.{Shape, blocks}
use Rattle.node_words.specs.exec_map.Contents.{program_of}
use Rattle.node_words.specs.home_directory.Effects.{entry_at, entries_of, members}
use Rattle.node_words.specs.home_directory.Home.{count_of}
use Rattle.std.specs.Prelude.{is_some}
use Rattle.node_words.specs.miss_handlers.Waits.{wait_of}
use Rattle.node_words.specs.declared.exec_state.ExecState.{ExecState}
use Rattle.node_words.specs.node_model.declared.Entry.{Entry}
use Rattle.node_words.specs.Address.{word_address}
use Rattle.node_words.specs.node_model.Node.{Node}
use Rattle.node_words.specs.node_model.Turns.{handled, journaled, later, words_before, with_byes, is_ended}
use Rattle.node_words.specs.declared.lane.ProcessorState as kept
use Rattle.node_words.specs.node_memory.Shelf.{Shelf, Ground, ground_of, local_of}
use Rattle.node_words.specs.Kept.{lane_of}
use Rattle.node_machine.specs.NodeState.{node_of, layout_of, phase_of, with_all, entries_in, phase_resumed, lane_after_wait, counts_after_wait, IsProtocolState, AreCountsBelow, WaitsInPhase}
use Rattle.node_machine.specs.ProtocolState.{turn_by}
use Rattle.node_machine.specs.declared.states.LaneState.{LaneState}
use Rattle.node_machine.specs.declared.states.SharedState.{SharedState}
use Rattle.node_machine.proofs.NodeStateLemmas.{counts_up}
use Rattle.node_machine.proofs.TakeLemmas.{no_wait_is, taken, taken_ended, taken_going, wait_below, resumed_waits, words_more, later_above}
use Rattle.node_machine.proofs.node_state.NodeState.take.Goals as goal

pub resume-requires : goal.resume-requires
resume-requires c = record {
  lane = c.requires.node.lane;
  counts =
      let i = c.args.self.now in
      let noted = c.note_take.ensures.same in
      let body = c.deref_mut.ensures.value ∙ ap (λ (s : SharedState). s.body.value) noted in
      let stamp = c.requires.stamp in
      let old = subst (λ (x : ExecState). AreCountsBelow (19 * i.shared.stamp) x.counts) (sym body) c.requires.node.counts in
      subst (λ (x : ExecState). AreCountsBelow (2 ^ 63) x.counts) (sym c.deref_mut-2.ensures.value)
      (counts_up (19 * i.shared.stamp + 18) (2 ^ 63) c.handle.new.body.counts (omega (arith, stamp)) (c.handle.ensures.counts (19 * i.shared.stamp) old));
}

pub returns-then-was_ended-clause-turn : goal.returns-then-was_ended-clause-turn
returns-then-was_ended-clause-turn c =
    let i = c.args.self.now in
    let sh = c.note_take.new.self in
    let noted = c.note_take.ensures.same in
    let body = c.deref_mut.ensures.value ∙ ap (λ (s : SharedState). s.body.value) noted in
    let wire = c.args.wire in
    let from = c.args.from in
    let b = c.handle.new.body in
    let b' = c.resume.new.body in
    let d = c.handle.new.protocol in
    let byes = c.handle.new.byes in
    let posts = c.handle.new.sends.items in
    let idle = eqb c.pending-pending.result 0 in
    let p = phase_of i.lane.phase in
    let lane = c.handle.ensures.lane ∙ ap (λ (x : ExecState). x.lane) body in
    let after = c.deref_mut-2.ensures.value in
    let entry_is : record { stamp = later i.shared.stamp wire.stamp + 1; from = from; words = i.lane.executed - i.shared.noted }
    ≡ record { stamp = later i.shared.stamp wire.stamp + 1; from = from; words = i.lane.executed - words_before i.shared.journal.items } =
    λ t. record { stamp = later i.shared.stamp wire.stamp + 1; from = from; words = i.lane.executed - c.requires.node.noted t } in
    let journal = c.note_take.ensures.journal ∙ ap (λ (e : Entry). i.shared.journal.items ++ e ∷ []) entry_is in
    let last : Node = record {
      me = d.directory.me;
      lane = lane_of b'.lane (word_address c.resume.new.self.at);
      local = local_of b'.local;
      executed = c.resume.new.self.executed;
      phase = phase_of c.resume.new.self.phase;
      entry = entries_in d.directory.layout d.directory.me (entry_at d.directory.entries);
      waiting = (entries_of d.directory).waiting;
      occupancy = (entries_of d.directory).occupancy;
      wait = wait_of d.waits;
      byes = members byes;
      stamp = sh.stamp;
      journal = sh.journal.items;
      output = sh.output.items;
      counts = b'.counts;
    } in
    let handle : (n : Node) → n.me ≡ i.shared.protocol.directory.me → handled (layout_of i.shared.body.value) (with_all n i.shared.body.value i.shared.protocol i.shared.byes) from wire.message
    ≡ turn_by (with_all n b d byes) posts None =
    λ n of. subst (λ (s : SharedState). handled (layout_of i.shared.body.value) (with_all n i.shared.body.value s.protocol s.byes) from wire.message ≡ turn_by (with_all n b d byes) posts None)
    noted (subst (λ (x : ExecState). handled (layout_of x) (with_all n x sh.protocol sh.byes) from wire.message ≡ turn_by (with_all n b d byes) posts None)
    body (c.handle.ensures.turn n (of ∙ ap (λ (s : SharedState). s.protocol.directory.me) (sym noted)))) in
    let me = c.handle.ensures.me ∙ ap (λ (s : SharedState). s.protocol.directory.me) noted in
    let protocol = subst (λ (x : ExecState). IsProtocolState (layout_of x) d) body c.handle.ensures.protocol in
    let none : eqb (count_of (λ x. is_some (wait_of d.waits x)) (blocks (layout_of i.shared.body.value))) 0 ≡ idle =
    no_wait_is (layout_of i.shared.body.value) d.waits c.pending-pending.result protocol.waits c.pending-pending.ensures.waits c.pending-pending.ensures.count in
    let goes : lane_of b'.lane (word_address c.resume.new.self.at)
    ≡ lane_after_wait (local_of b.local) idle p (lane_of i.shared.body.value.lane (word_address i.lane.at)) =
    c.resume.ensures.resumed
    ∙ ap (λ (x : ExecState). lane_after_wait (local_of x.local) idle p (lane_of x.lane (word_address i.lane.at))) after
    ∙ ap (λ (x : kept.ProcessorState). lane_after_wait (local_of b.local) idle p (lane_of x (word_address i.lane.at))) lane in
    let counts : b'.counts ≡ counts_after_wait (local_of b.local) idle p b.counts =
    c.resume.ensures.counts ∙ ap (λ (x : ExecState). counts_after_wait (local_of x.local) idle p x.counts) after in
    let local : b'.local ≡ b.local = c.resume.ensures.local ∙ ap (λ (x : ExecState). x.local) after in
    let is : last ≡ record (with_all (journaled (node_of i) from wire) b d byes) {
      lane = lane_after_wait (local_of b.local) idle p (node_of i).lane;
      phase = phase_resumed i.lane.budget i.lane.executed idle p;
      counts = counts_after_wait (local_of b.local) idle p b.counts;
    } = λ t. record last {
      me = me t;
      lane = goes t;
      local = local_of (local t);
      executed = (c.resume.ensures.same t).executed;
      phase = c.resume.ensures.phase t;
      stamp = (noted t).stamp;
      journal = journal t;
      output = (noted t).output.items;
      counts = counts t;
    } in
    let whole = taken i from wire b d byes posts idle last handle none is in
    taken_ended i from wire posts last whole (sym c.has_ended-was_ended.ensures ∙ c.if-was_ended.true)

pub returns-then-was_ended-clause-work : goal.returns-then-was_ended-clause-work
returns-then-was_ended-clause-work c =
    let i = c.args.self.now in
    let sh = c.note_take.new.self in
    let noted = c.note_take.ensures.same in
    let body = c.deref_mut.ensures.value ∙ ap (λ (s : SharedState). s.body.value) noted in
    let g = ap (λ (x : Shelf). ground_of x) c.resume.ensures.local ∙ ap (λ (x : ExecState). ground_of x.local) c.deref_mut-2.ensures.value ∙ c.handle.ensures.ground
    ∙ ap (λ (x : ExecState). ground_of x.local) body in
    λ t. record {
      program = program_of (g t).program;
      image = (c.resume.ensures.same t).image.now;
      layout = (g t).layout;
      budget = (c.resume.ensures.same t).budget;
    }

pub returns-then-was_ended-clause-node : goal.returns-then-was_ended-clause-node
returns-then-was_ended-clause-node c =
    let i = c.args.self.now in
    let sh = c.note_take.new.self in
    let noted = c.note_take.ensures.same in
    let body = c.deref_mut.ensures.value ∙ ap (λ (s : SharedState). s.body.value) noted in
    let n = c.requires.node in
    let b = c.handle.new.body in
    let b' = c.resume.new.body in
    let d = c.handle.new.protocol in
    let idle = eqb c.pending-pending.result 0 in
    let left = ap (λ x. eqb x 0) (sym c.pending-pending.ensures.count) in
    let entry : Entry = record { stamp = later i.shared.stamp c.args.wire.stamp + 1; from = c.args.from; words = i.lane.executed - i.shared.noted } in
    let words = ap words_before c.note_take.ensures.journal ∙ words_more i.shared.journal.items entry in
    let noted_before = n.noted in
    let noted_now = ap (λ (s : SharedState). s.noted) noted in
    let behind = n.behind in
    let above = later_above i.shared.stamp c.args.wire.stamp in
    let stamp = ap (λ (s : SharedState). s.stamp) noted in
    let lane = c.resume.ensures.same in
    let executed = ap (λ (l : LaneState). l.executed) lane in
    let old = subst (λ (x : ExecState). AreCountsBelow (19 * i.shared.stamp) x.counts) (sym body) n.counts in
    let after = c.deref_mut-2.ensures.value in
    let handled = c.handle.ensures.counts (19 * i.shared.stamp) old in
    let counts : b'.counts ≡ counts_after_wait (local_of b.local) idle (phase_of i.lane.phase) b.counts =
    c.resume.ensures.counts ∙ ap (λ (x : ExecState). counts_after_wait (local_of x.local) idle (phase_of i.lane.phase) x.counts) after in
    let below = subst (AreCountsBelow (19 * i.shared.stamp + 18 + 1)) (sym counts) (wait_below (local_of b.local) idle (phase_of i.lane.phase) (19 * i.shared.stamp + 18) b.counts handled) in
    let local : b'.local ≡ b.local = c.resume.ensures.local ∙ ap (λ (x : ExecState). x.local) after in
    let layout = ap (λ (x : Shelf). x.copy.layout) local ∙ ap (λ (x : Ground). x.layout) c.handle.ensures.ground in
    record {
      lane = c.resume.ensures.lane;
      protocol = subst (λ (l : Shape). IsProtocolState l d) (sym layout) c.handle.ensures.protocol;
      waits = subst (λ p. WaitsInPhase p (length d.waits.waits)) (sym c.resume.ensures.phase)
          (resumed_waits i.lane.budget i.lane.executed (phase_of i.lane.phase) (length i.shared.protocol.waits.waits) (length d.waits.waits) idle left n.waits
          (λ z. c.handle.ensures.none (ap (λ (s : SharedState). length s.protocol.waits.waits) noted ∙ z)));
      noted = omega (arith, words, noted_before, noted_now);
      behind = omega (arith, behind, noted_now, executed);
      counts = counts_up (19 * i.shared.stamp + 18 + 1) (19 * sh.stamp) b'.counts (omega (arith, above, stamp)) below;
    }

pub returns-clause-turn : goal.returns-clause-turn
returns-clause-turn c =
    let i = c.args.self.now in
    let sh = c.note_take.new.self in
    let noted = c.note_take.ensures.same in
    let body = c.deref_mut.ensures.value ∙ ap (λ (s : SharedState). s.body.value) noted in
    let wire = c.args.wire in
    let from = c.args.from in
    let b = c.handle.new.body in
    let b' = c.resume.new.body in
    let d = c.handle.new.protocol in
    let byes = c.handle.new.byes in
    let posts = c.handle.new.sends.items in
    let idle = eqb c.pending-pending.result 0 in
    let p = phase_of i.lane.phase in
    let lane = c.handle.ensures.lane ∙ ap (λ (x : ExecState). x.lane) body in
    let after = c.deref_mut-2.ensures.value in
    let entry_is : record { stamp = later i.shared.stamp wire.stamp + 1; from = from; words = i.lane.executed - i.shared.noted }
    ≡ record { stamp = later i.shared.stamp wire.stamp + 1; from = from; words = i.lane.executed - words_before i.shared.journal.items } =
    λ t. record { stamp = later i.shared.stamp wire.stamp + 1; from = from; words = i.lane.executed - c.requires.node.noted t } in
    let journal = c.note_take.ensures.journal ∙ ap (λ (e : Entry). i.shared.journal.items ++ e ∷ []) entry_is in
    let last : Node = record {
      me = d.directory.me;
      lane = lane_of b'.lane (word_address c.resume.new.self.at);
      local = local_of b'.local;
      executed = c.resume.new.self.executed;
      phase = phase_of c.resume.new.self.phase;
      entry = entries_in d.directory.layout d.directory.me (entry_at d.directory.entries);
      waiting = (entries_of d.directory).waiting;
      occupancy = (entries_of d.directory).occupancy;
      wait = wait_of d.waits;
      byes = members byes;
      stamp = sh.stamp;
      journal = sh.journal.items;
      output = sh.output.items;
      counts = b'.counts;
    } in
    let handle : (n : Node) → n.me ≡ i.shared.protocol.directory.me → handled (layout_of i.shared.body.value) (with_all n i.shared.body.value i.shared.protocol i.shared.byes) from wire.message
    ≡ turn_by (with_all n b d byes) posts None =
    λ n of. subst (λ (s : SharedState). handled (layout_of i.shared.body.value) (with_all n i.shared.body.value s.protocol s.byes) from wire.message ≡ turn_by (with_all n b d byes) posts None)
    noted (subst (λ (x : ExecState). handled (layout_of x) (with_all n x sh.protocol sh.byes) from wire.message ≡ turn_by (with_all n b d byes) posts None)
    body (c.handle.ensures.turn n (of ∙ ap (λ (s : SharedState). s.protocol.directory.me) (sym noted)))) in
    let me = c.handle.ensures.me ∙ ap (λ (s : SharedState). s.protocol.directory.me) noted in
    let protocol = subst (λ (x : ExecState). IsProtocolState (layout_of x) d) body c.handle.ensures.protocol in
    let none : eqb (count_of (λ x. is_some (wait_of d.waits x)) (blocks (layout_of i.shared.body.value))) 0 ≡ idle =
    no_wait_is (layout_of i.shared.body.value) d.waits c.pending-pending.result protocol.waits c.pending-pending.ensures.waits c.pending-pending.ensures.count in
    let goes : lane_of b'.lane (word_address c.resume.new.self.at)
    ≡ lane_after_wait (local_of b.local) idle p (lane_of i.shared.body.value.lane (word_address i.lane.at)) =
    c.resume.ensures.resumed
    ∙ ap (λ (x : ExecState). lane_after_wait (local_of x.local) idle p (lane_of x.lane (word_address i.lane.at))) after
    ∙ ap (λ (x : kept.ProcessorState). lane_after_wait (local_of b.local) idle p (lane_of x (word_address i.lane.at))) lane in
    let counts : b'.counts ≡ counts_after_wait (local_of b.local) idle p b.counts =
    c.resume.ensures.counts ∙ ap (λ (x : ExecState). counts_after_wait (local_of x.local) idle p x.counts) after in
    let local : b'.local ≡ b.local = c.resume.ensures.local ∙ ap (λ (x : ExecState). x.local) after in
    let is : last ≡ record (with_all (journaled (node_of i) from wire) b d byes) {
      lane = lane_after_wait (local_of b.local) idle p (node_of i).lane;
      phase = phase_resumed i.lane.budget i.lane.executed idle p;
      counts = counts_after_wait (local_of b.local) idle p b.counts;
    } = λ t. record last {
      me = me t;
      lane = goes t;
      local = local_of (local t);
      executed = (c.resume.ensures.same t).executed;
      phase = c.resume.ensures.phase t;
      stamp = (noted t).stamp;
      journal = journal t;
      output = (noted t).output.items;
      counts = counts t;
    } in
    let whole = taken i from wire b d byes posts idle last handle none is in
    let g = ap (λ (x : Shelf). ground_of x) local ∙ c.handle.ensures.ground ∙ ap (λ (x : ExecState). ground_of x.local) body in
    c.turn.ensures.turn
    ∙ ap (λ (x : Ground). with_byes x.layout.nodes (turn_by last posts None) (is_ended last.phase)) g
    ∙ taken_going i from wire posts last whole (sym c.has_ended-was_ended.ensures ∙ c.if-was_ended.false)

pub returns-clause-work : goal.returns-clause-work
returns-clause-work c =
    let i = c.args.self.now in
    let sh = c.note_take.new.self in
    let noted = c.note_take.ensures.same in
    let body = c.deref_mut.ensures.value ∙ ap (λ (s : SharedState). s.body.value) noted in
    let g = ap (λ (x : Shelf). ground_of x) c.resume.ensures.local ∙ ap (λ (x : ExecState). ground_of x.local) c.deref_mut-2.ensures.value ∙ c.handle.ensures.ground
    ∙ ap (λ (x : ExecState). ground_of x.local) body in
    λ t. record {
      program = program_of (g t).program;
      image = (c.resume.ensures.same t).image.now;
      layout = (g t).layout;
      budget = (c.resume.ensures.same t).budget;
    }

pub returns-clause-node : goal.returns-clause-node
returns-clause-node c =
    let i = c.args.self.now in
    let sh = c.note_take.new.self in
    let noted = c.note_take.ensures.same in
    let body = c.deref_mut.ensures.value ∙ ap (λ (s : SharedState). s.body.value) noted in
    let n = c.requires.node in
    let b = c.handle.new.body in
    let b' = c.resume.new.body in
    let d = c.handle.new.protocol in
    let idle = eqb c.pending-pending.result 0 in
    let left = ap (λ x. eqb x 0) (sym c.pending-pending.ensures.count) in
    let entry : Entry = record { stamp = later i.shared.stamp c.args.wire.stamp + 1; from = c.args.from; words = i.lane.executed - i.shared.noted } in
    let words = ap words_before c.note_take.ensures.journal ∙ words_more i.shared.journal.items entry in
    let noted_before = n.noted in
    let noted_now = ap (λ (s : SharedState). s.noted) noted in
    let behind = n.behind in
    let above = later_above i.shared.stamp c.args.wire.stamp in
    let stamp = ap (λ (s : SharedState). s.stamp) noted in
    let lane = c.resume.ensures.same in
    let executed = ap (λ (l : LaneState). l.executed) lane in
    let old = subst (λ (x : ExecState). AreCountsBelow (19 * i.shared.stamp) x.counts) (sym body) n.counts in
    let after = c.deref_mut-2.ensures.value in
    let handled = c.handle.ensures.counts (19 * i.shared.stamp) old in
    let counts : b'.counts ≡ counts_after_wait (local_of b.local) idle (phase_of i.lane.phase) b.counts =
    c.resume.ensures.counts ∙ ap (λ (x : ExecState). counts_after_wait (local_of x.local) idle (phase_of i.lane.phase) x.counts) after in
    let below = subst (AreCountsBelow (19 * i.shared.stamp + 18 + 1)) (sym counts) (wait_below (local_of b.local) idle (phase_of i.lane.phase) (19 * i.shared.stamp + 18) b.counts handled) in
    let local : b'.local ≡ b.local = c.resume.ensures.local ∙ ap (λ (x : ExecState). x.local) after in
    let layout = ap (λ (x : Shelf). x.copy.layout) local ∙ ap (λ (x : Ground). x.layout) c.handle.ensures.ground in
    record {
      lane = c.resume.ensures.lane;
      protocol = subst (λ (l : Shape). IsProtocolState l d) (sym layout) c.handle.ensures.protocol;
      waits = subst (λ p. WaitsInPhase p (length d.waits.waits)) (sym c.resume.ensures.phase)
          (resumed_waits i.lane.budget i.lane.executed (phase_of i.lane.phase) (length i.shared.protocol.waits.waits) (length d.waits.waits) idle left n.waits
          (λ z. c.handle.ensures.none (ap (λ (s : SharedState). length s.protocol.waits.waits) noted ∙ z)));
      noted = omega (arith, words, noted_before, noted_now);
      behind = omega (arith, behind, noted_now, executed);
      counts = counts_up (19 * i.shared.stamp + 18 + 1) (19 * sh.stamp) b'.counts (omega (arith, above, stamp)) below;
    }
