-- By the lemmas on a lane's word.
use Rattle.std.proofs.Common.{◌≡◌, ℕ, ◌+◌, ◌*◌, ◌∙◌, ◌++◌, ap, sym, subst, refl, eqb, cond, true, arith}
use Rattle.std.specs.Prelude.{is_some}
use Rattle.std.proofs.lemmas.Bool.Decides.{nat_tests}
use Rattle.block_layout.specs.Layout.{Shape}
use Rattle.block_layout.specs.Update.{changed}
use Rattle.node_machine.specs.node_words.declared.exec_state.ExecState.{ExecState}
use Rattle.node_machine.specs.node_words.Address.{word_address}
use Rattle.node_machine.specs.node_words.node_memory.Shelf.{Ground, ground_of}
use Rattle.node_machine.specs.node_words.Kept.{lane_of, phase_by}
use Rattle.lane_model.specs.node_model.Node.{word_outcome}
use Rattle.lane_model.specs.node_model.Turns.{byes_to, each_block_once, is_ended, wants_of, words_before}
use Rattle.node_machine.specs.NodeState.{layout_of, phase_of, AreCountsBelow}
use Rattle.node_machine.specs.declared.states.SharedState.{SharedState}
use Rattle.node_machine.proofs.NodeStateLemmas.{counts_up}
use Rattle.lane_model.specs.Nodes.{LanePart}
use Rattle.lane_model.specs.Turns.{blocks_of, still}
use Rattle.lane_machine.specs.Waits.{awaits_of, wait_among, waits_in}
use Rattle.lane_machine.specs.Words.{reserved_after}
use Rattle.lane_machine.specs.declared.stored.StoredLane.{StoredLane}
use Rattle.lane_machine.specs.declared.stored.StoredShared.{StoredShared}
use Rattle.lane_machine.specs.Places.{reserved_in}
use Rattle.lane_machine.specs.Stored.{ended_in, lane_turn, part_of, seen_at, served, with_lane, word_asks, work_in, IsAtRest}
use Rattle.lane_machine.specs.ProtocolStates.{asked_by}
use Rattle.lane_machine.proofs.ClearLemmas.{reserved_at}
use Rattle.lane_machine.proofs.ExecLemmas.{stored_node, turn_is, ending_is, going_on}
use Rattle.lane_machine.proofs.HoldLemmas.{awaited_held, rest_same, wait_at_same}
use Rattle.lane_machine.proofs.stored.StoredLane.exec.Goals as goal

pub returns-clause-turn : goal.returns-clause-turn
returns-clause-turn c x h =
    let l = c.args.self.now in
    let f = c.args.shared.now in
    let done = c.execute-done.result.served in
    let asked = c.execute-done.result.asked in
    let k = l.number in
    let n = stored_node l f in
    let b' = c.execute-done.new.body in
    let d' = c.execute-done.new.protocol in
    let ps' = c.execute-done.new.places.items in
    let lane' = c.execute-done.new.lane in
    let posts = c.execute-done.new.sends.items in
    let image = l.state.image.now in
    let work = work_in f.state.body.value image l.state.budget in
    let before = seen_at n k l.lane l.state.at f.state.body.value f.state.protocol f.places.items in
    let asks = subst (λ (b : ExecState). word_asks (work_in b image l.state.budget) (seen_at n k l.lane l.state.at b f.state.protocol f.places.items)
    ≡ asked_by (served (seen_at n k lane' done.at b' d' ps') l.state.budget done) posts done.output asked.again)
    c.deref_mut.ensures.value (c.execute-done.ensures.word n l.state.budget) in
    let awaits = subst (λ (b : ExecState). awaits_of asked.awaits ≡ still (wait_among (waits_in ps'))
    (blocks_of (layout_of b) (each_block_once (layout_of b) (wants_of (word_outcome (work_in b image l.state.budget)
    (seen_at n k l.lane l.state.at b f.state.protocol f.places.items)).move))))
    c.deref_mut.ensures.value (c.execute-done.ensures.awaits n l.state.budget) in
    let reserved = reserved_at f.places.items k c.index.result.now c.index.ensures c.requires.number c.address-reserved.result
    ∙ sym c.address-reserved.ensures in
    let stored = c.stored_at-stored.ensures work.program image before.local
    (sym c.next_word-fetched.ensures) reserved in
    let ends : (j : ℕ) → reserved_in c.end_reservations.new.places.items j
    ≡ cond (eqb j k) (reserved_in ps' j) (reserved_after (layout_of f.state.body.value) c.stored_at-stored.result (reserved_in ps' j)) =
    λ j. c.end_reservations.ensures.reserved j
    ∙ ap (λ (s : Shape). cond (eqb j k) (reserved_in ps' j) (reserved_after s c.stored_at-stored.result (reserved_in ps' j))) c.requires.shared.layout in
    let l' : StoredLane = record l {
      state = c.advance.new.self;
      lane = lane';
      awaits = asked.awaits;
      again = asked.again;
    } in
    let f' : StoredShared = record f {
      state = c.note_word.new.self;
      places = c.end_reservations.new.places;
      ended = c.ended_with-shared.result;
    } in
    let part : part_of l' ≡ record {
      lane = lane_of lane' (word_address done.at);
      executed = l.state.executed + 1;
      phase = phase_by l.state.budget (l.state.executed + 1) done.following;
      awaits = awaits_of asked.awaits;
      again = asked.again;
    } = λ t. record (part_of l') {
      lane = lane_of lane' (word_address (c.advance.ensures.same t).at);
      executed = (c.advance.ensures.same t).executed;
      phase = c.advance.ensures.phase t;
    } in
    let noted = c.note_word.ensures.same in
    let before_turn = turn_is l l' f f' x h lane' b' d' ps' done asked.again posts c.stored_at-stored.result asks awaits stored
    c.execute-done.ensures.holders c.execute-done.ensures.reserved ends c.end_reservations.ensures.waits part
    (ap (λ (s : SharedState). s.body.value) noted) (ap (λ (s : SharedState). s.protocol) noted) c.execute-done.ensures.me
    (ap (λ (s : SharedState). s.byes) noted) (ap (λ (s : SharedState). s.stamp) noted)
    (ap (λ (s : SharedState). s.journal.items) noted) c.note_word.ensures.output in
    let going = ap (λ (p : LanePart). is_ended p.phase) h.lane ∙ going_on (phase_of l.state.phase) c.requires.may in
    let both = ending_is l l' f f' x h lane' b' d' ps' done asked.again posts c.stored_at-stored.result (with_lane x l' f')
    c.requires.number c.requires.goes_on going refl before_turn c.ended_with-shared.ensures in
    let count = c.len.ensures ∙ c.end_reservations.new.places.ok.0 ∙ c.end_reservations.ensures.places ∙ c.execute-done.ensures.places in
    let all = ap (λ m. eqb f'.ended m) (sym count) in
    let nodes = c.nodes.ensures.nodes ∙ ap (λ (s : Shape). s.nodes) c.requires.shared.layout in
    let sent = c.add_byes.ensures ∙ (λ t. cond (sym all t) (posts ++ byes_to (nodes t)) posts) in
    both.0 ∙ ap (λ z. lane_turn (with_lane x l' f') z done.output) (sym sent)

pub returns-clause-ended : goal.returns-clause-ended
returns-clause-ended c x h =
    let l = c.args.self.now in
    let f = c.args.shared.now in
    let done = c.execute-done.result.served in
    let asked = c.execute-done.result.asked in
    let k = l.number in
    let n = stored_node l f in
    let b' = c.execute-done.new.body in
    let d' = c.execute-done.new.protocol in
    let ps' = c.execute-done.new.places.items in
    let lane' = c.execute-done.new.lane in
    let posts = c.execute-done.new.sends.items in
    let image = l.state.image.now in
    let work = work_in f.state.body.value image l.state.budget in
    let before = seen_at n k l.lane l.state.at f.state.body.value f.state.protocol f.places.items in
    let asks = subst (λ (b : ExecState). word_asks (work_in b image l.state.budget) (seen_at n k l.lane l.state.at b f.state.protocol f.places.items)
    ≡ asked_by (served (seen_at n k lane' done.at b' d' ps') l.state.budget done) posts done.output asked.again)
    c.deref_mut.ensures.value (c.execute-done.ensures.word n l.state.budget) in
    let awaits = subst (λ (b : ExecState). awaits_of asked.awaits ≡ still (wait_among (waits_in ps'))
    (blocks_of (layout_of b) (each_block_once (layout_of b) (wants_of (word_outcome (work_in b image l.state.budget)
    (seen_at n k l.lane l.state.at b f.state.protocol f.places.items)).move))))
    c.deref_mut.ensures.value (c.execute-done.ensures.awaits n l.state.budget) in
    let reserved = reserved_at f.places.items k c.index.result.now c.index.ensures c.requires.number c.address-reserved.result
    ∙ sym c.address-reserved.ensures in
    let stored = c.stored_at-stored.ensures work.program image before.local
    (sym c.next_word-fetched.ensures) reserved in
    let ends : (j : ℕ) → reserved_in c.end_reservations.new.places.items j
    ≡ cond (eqb j k) (reserved_in ps' j) (reserved_after (layout_of f.state.body.value) c.stored_at-stored.result (reserved_in ps' j)) =
    λ j. c.end_reservations.ensures.reserved j
    ∙ ap (λ (s : Shape). cond (eqb j k) (reserved_in ps' j) (reserved_after s c.stored_at-stored.result (reserved_in ps' j))) c.requires.shared.layout in
    let l' : StoredLane = record l {
      state = c.advance.new.self;
      lane = lane';
      awaits = asked.awaits;
      again = asked.again;
    } in
    let f' : StoredShared = record f {
      state = c.note_word.new.self;
      places = c.end_reservations.new.places;
      ended = c.ended_with-shared.result;
    } in
    let part : part_of l' ≡ record {
      lane = lane_of lane' (word_address done.at);
      executed = l.state.executed + 1;
      phase = phase_by l.state.budget (l.state.executed + 1) done.following;
      awaits = awaits_of asked.awaits;
      again = asked.again;
    } = λ t. record (part_of l') {
      lane = lane_of lane' (word_address (c.advance.ensures.same t).at);
      executed = (c.advance.ensures.same t).executed;
      phase = c.advance.ensures.phase t;
    } in
    let noted = c.note_word.ensures.same in
    let before_turn = turn_is l l' f f' x h lane' b' d' ps' done asked.again posts c.stored_at-stored.result asks awaits stored
    c.execute-done.ensures.holders c.execute-done.ensures.reserved ends c.end_reservations.ensures.waits part
    (ap (λ (s : SharedState). s.body.value) noted) (ap (λ (s : SharedState). s.protocol) noted) c.execute-done.ensures.me
    (ap (λ (s : SharedState). s.byes) noted) (ap (λ (s : SharedState). s.stamp) noted)
    (ap (λ (s : SharedState). s.journal.items) noted) c.note_word.ensures.output in
    let going = ap (λ (p : LanePart). is_ended p.phase) h.lane ∙ going_on (phase_of l.state.phase) c.requires.may in
    let both = ending_is l l' f f' x h lane' b' d' ps' done asked.again posts c.stored_at-stored.result (with_lane x l' f')
    c.requires.number c.requires.goes_on going refl before_turn c.ended_with-shared.ensures in
    let k = l.number in
    let here : changed x.lanes k (part_of l') k ≡ part_of l' = let t : eqb k k ≡ true = grind (arith, nat_tests) in rw t refl in
    record {
      lane = here;
      shared = refl;
      ended = both.1 ∙ ap (ended_in (with_lane x l' f')) (sym (c.end_reservations.ensures.places ∙ c.execute-done.ensures.places));
    }

pub returns-clause-waits : goal.returns-clause-waits
returns-clause-waits c b there =
    let ps' = c.execute-done.new.places.items in
    let qs = c.end_reservations.new.places.items in
    let k = c.args.self.now.number in
    c.execute-done.ensures.own b (sym (ap is_some (wait_at_same ps' qs k b c.end_reservations.ensures.waits)) ∙ there)

pub returns-clause-held : goal.returns-clause-held
returns-clause-held c b awaited =
    let l = c.args.self.now in
    let asked = c.execute-done.result.asked in
    let ps' = c.execute-done.new.places.items in
    let qs = c.end_reservations.new.places.items in
    let e = c.execute-done.ensures.awaits (stored_node l c.args.shared.now) 0 in
    ap (λ z. is_some (wait_among z b)) c.end_reservations.ensures.waits
    ∙ awaited_held (wait_among (waits_in ps')) asked.awaits.first asked.awaits.other _ e b awaited

pub returns-clause-others : goal.returns-clause-others
returns-clause-others c k b apart =
    wait_at_same c.execute-done.new.places.items c.end_reservations.new.places.items k b c.end_reservations.ensures.waits
    ∙ c.execute-done.ensures.others k b apart

pub returns-clause-shared : goal.returns-clause-shared
returns-clause-shared c =
    let f = c.args.shared.now in
    let is = c.requires.shared in
    let b' = c.execute-done.new.body in
    let ps' = c.execute-done.new.places.items in
    let qs = c.end_reservations.new.places.items in
    let ground = c.execute-done.ensures.ground ∙ ap (λ (b : ExecState). ground_of b.local) c.deref_mut.ensures.value in
    let layout : layout_of b' ≡ layout_of f.state.body.value = ap (λ (g : Ground). g.layout) ground in
    let rest = subst (λ (b : ExecState). IsAtRest (layout_of b) c.execute-done.new.protocol ps') c.deref_mut.ensures.value c.execute-done.ensures.rest in
    let count = c.end_reservations.ensures.places ∙ c.execute-done.ensures.places in
    let some = is.some in
    let few = is.few in
    let old = subst (λ (b : ExecState). AreCountsBelow (32 * f.state.stamp) b.counts) (sym c.deref_mut.ensures.value) is.counts in
    let noted = c.note_word.ensures.same in
    record {
      rest = subst (λ (s : SharedState). IsAtRest (layout_of s.body.value) s.protocol qs) (sym noted)
          (subst (λ s. IsAtRest s c.execute-done.new.protocol qs) (sym layout)
          (rest_same (layout_of f.state.body.value) c.execute-done.new.protocol ps' qs c.end_reservations.ensures.waits c.end_reservations.ensures.pools rest));
      layout = is.layout ∙ sym layout ∙ ap (λ (s : SharedState). layout_of s.body.value) (sym noted);
      some = omega (arith, count, some);
      few = omega (arith, count, few);
      noted = subst (λ (s : SharedState). s.noted ≡ words_before s.journal.items) (sym noted) is.noted;
      counts = subst (λ (s : SharedState). AreCountsBelow (32 * s.stamp) s.body.value.counts) (sym noted)
          (counts_up (32 * f.state.stamp + 3) (32 * (f.state.stamp + 1)) b'.counts (omega arith) (c.execute-done.ensures.counts (32 * f.state.stamp) old));
    }
