-- By the lemmas on a message at a node of several lanes.
use Rattle.std.proofs.Common.{◌≡◌, ℕ, ◌+◌, ◌-◌, ◌*◌, ◌<◌, ◌^◌, ◌∙◌, ◌++◌, ◌&&◌, not, Bool, true, false, ap, sym, subst, refl, eqb, cond, length, get_or, List, [], ◌∷◌, None, inl, inr, arith}
use Rattle.std.specs.Prelude.{is_some}
use Rattle.std.specs.Box.{with_value}
use Rattle.block_layout.specs.Layout.{Shape}
use Rattle.exec_map.specs.Contents.{program_of}
use Rattle.node_machine.specs.node_words.declared.exec_state.ExecState.{ExecState}
use Rattle.node_machine.specs.node_words.node_memory.Shelf.{Ground, Shelf, ground_of, local_of}
use Rattle.lane_model.specs.node_model.declared.Entry.{Entry}
use Rattle.lane_model.specs.node_model.Node.{Node}
use Rattle.lane_model.specs.node_model.Turns.{byes_to, later, handled, words_before}
use Rattle.node_machine.specs.NodeState.{layout_of, phase_of, AreCountsBelow}
use Rattle.node_machine.specs.ProtocolState.{turn_by}
use Rattle.node_machine.specs.declared.states.SharedState.{SharedState}
use Rattle.node_machine.proofs.NodeStateLemmas.{counts_up}
use Rattle.node_machine.proofs.TakeLemmas.{words_more, later_above}
use Rattle.lane_model.specs.Turns.{after_message, counted, resumed, words_of}
use Rattle.lane_machine.specs.declared.lane_protocol.LaneProtocol.{LaneProtocol}
use Rattle.lane_machine.specs.Waits.{wait_among, waits_in}
use Rattle.lane_machine.specs.declared.stored.StoredLane.{StoredLane}
use Rattle.lane_machine.specs.declared.stored.StoredShared.{StoredShared}
use Rattle.lane_machine.specs.Places.{wait_at}
use Rattle.lane_machine.specs.Stored.{ended_in, part_of, seen_with, shared_of, HaveLanes, HaveParts, IsAtRest}
use Rattle.lane_machine.proofs.HoldLemmas.{wait_at_some}
use Rattle.lane_machine.proofs.TakeLemmas.{node_then, handled_is, message_is, sends_are, node_is, ended_same}
use Rattle.lane_machine.proofs.taking.take.Goals as goal

both_not : (t : Bool) → (t && not t) ≡ true → ⊥
both_not true e = let f : false ≡ true = e in cc
both_not false e = let f : false ≡ true = e in cc

pub receive-requires-clause-rest : goal.receive-requires-clause-rest
receive-requires-clause-rest c =
    let f = c.args.shared.now in
    let noted = c.note_take.ensures.same in
    let body = c.deref_mut.ensures.value ∙ ap (λ (s : SharedState). s.body.value) noted in
    subst (λ (s : SharedState). IsAtRest (layout_of c.deref_mut.result.now) s.protocol f.places.items) (sym noted)
    (subst (λ (b : ExecState). IsAtRest (layout_of b) f.state.protocol f.places.items) (sym body) c.requires.shared.rest)

pub receive-requires-clause-counts : goal.receive-requires-clause-counts
receive-requires-clause-counts c =
    let f = c.args.shared.now in
    let noted = c.note_take.ensures.same in
    let body = c.deref_mut.ensures.value ∙ ap (λ (s : SharedState). s.body.value) noted in
    let stamp = c.requires.stamp in
    subst (λ (b : ExecState). AreCountsBelow (2 ^ 63) b.counts) (sym body)
    (counts_up (32 * f.state.stamp) (2 ^ 63) f.state.body.value.counts (omega (arith, stamp)) c.requires.shared.counts)

pub resume_lanes-shared-requires-clause-counts : goal.resume_lanes-shared-requires-clause-counts
resume_lanes-shared-requires-clause-counts c =
    let f = c.args.shared.now in
    let noted = c.note_take.ensures.same in
    let body = c.deref_mut.ensures.value ∙ ap (λ (s : SharedState). s.body.value) noted in
    let stamp = c.requires.stamp in
    let old = subst (λ (b : ExecState). AreCountsBelow (32 * f.state.stamp) b.counts) (sym body) c.requires.shared.counts in
    subst (λ (b : ExecState). AreCountsBelow (2 ^ 62) b.counts) (sym c.deref_mut-2.ensures.value)
    (counts_up (32 * f.state.stamp + 18) (2 ^ 62) c.receive.new.body.counts (omega (arith, stamp)) (c.receive.ensures.counts (32 * f.state.stamp) old))

pub add_byes-requires-clause-few : goal.add_byes-requires-clause-few
add_byes-requires-clause-few c both =
    let f = c.args.shared.now in
    let ls = c.args.lanes.now in
    let wire = c.args.wire in
    let from = c.args.from in
    let b1 = c.receive.new.body in
    let d1 = c.receive.new.protocol in
    let ps1 = c.receive.new.places.items in
    let byes1 = c.receive.new.byes in
    let posts = c.receive.new.sends.items in
    let ls' = c.resume_lanes-shared.new.lanes in
    let b2 = c.resume_lanes-shared.new.body in
    let len = c.resume_lanes-shared.ensures.count in
    elim c.receive.ensures.few [
      | inl few ↦ omega (arith, few)
      | inr same ↦ (
          let phases : (k : ℕ) (d : StoredLane) → k < length ls → phase_of (get_or ls' k d).state.phase ≡ phase_of (get_or ls k d).state.phase =
          λ k d low. (c.resume_lanes-shared.ensures.gone k d low).stays
          (λ b awaited. ap (λ (ps : List LaneProtocol). is_some (wait_among (waits_in ps) b)) c.deref.ensures.value
          ∙ same b ∙ c.requires.held k d low b awaited) in
          let ended : c.resume_lanes-shared.result ≡ f.ended =
          ended_same ls ls' (shared_of f) f.ended c.resume_lanes-shared.result (length ls) refl len c.requires.ended c.resume_lanes-shared.ensures.ended phases in
          absurd (both_not (eqb f.ended (length ls'))
          ((λ t. eqb (sym ended t) (length ls') && not (eqb f.ended (length ls'))) ∙ sym c.is_last_end-last.ensures ∙ both)))
    ]

pub returns-clause-node : goal.returns-clause-node
returns-clause-node c w x are h =
    let f = c.args.shared.now in
    let sh = c.note_take.new.self in
    let noted = c.note_take.ensures.same in
    let body = c.deref_mut.ensures.value ∙ ap (λ (s : SharedState). s.body.value) noted in
    let ls = c.args.lanes.now in
    let wire = c.args.wire in
    let from = c.args.from in
    let b1 = c.receive.new.body in
    let d1 = c.receive.new.protocol in
    let ps1 = c.receive.new.places.items in
    let byes1 = c.receive.new.byes in
    let posts = c.receive.new.sends.items in
    let ls' = c.resume_lanes-shared.new.lanes in
    let b2 = c.resume_lanes-shared.new.body in
    let state : (local_of b1.local).state ≡ (local_of c.deref_mut-2.result.now.local).state =
    sym (ap (λ (b : ExecState). (local_of b.local).state) c.deref_mut-2.ensures.value) in
    let wait : wait_among (waits_in ps1) ≡ wait_among (waits_in c.deref.result.now) =
    ap (λ (ps : List LaneProtocol). wait_among (waits_in ps)) (sym c.deref.ensures.value) in
    let f' : StoredShared = record f {
      state = record sh { body = with_value (with_value sh.body b1) b2; protocol = d1; byes = byes1 };
      places = c.receive.new.places;
      ended = c.resume_lanes-shared.result;
    } in
    let turn : (n : Node) (k : ℕ) → n.me ≡ f.state.protocol.directory.me
    → handled (layout_of f.state.body.value) (seen_with n k f.state.body.value f.state.protocol f.places.items f.state.byes) from wire.message
    ≡ turn_by (seen_with n k b1 d1 ps1 byes1) posts None =
    λ n k of. subst (λ (s : SharedState). handled (layout_of f.state.body.value) (seen_with n k f.state.body.value s.protocol f.places.items s.byes) from wire.message
    ≡ turn_by (seen_with n k b1 d1 ps1 byes1) posts None) noted
    (subst (λ (b : ExecState). handled (layout_of b) (seen_with n k b sh.protocol f.places.items sh.byes) from wire.message
    ≡ turn_by (seen_with n k b1 d1 ps1 byes1) posts None) body
    (c.receive.ensures.turn n k (of ∙ ap (λ (s : SharedState). s.protocol.directory.me) (sym noted)))) in
    let me = c.receive.ensures.me ∙ ap (λ (s : SharedState). s.protocol.directory.me) noted in
    let stamp = ap (λ (s : SharedState). s.stamp) noted in
    let output = ap (λ (s : SharedState). s.output.items) noted in
    let n = node_then w x from wire ls ls' f f' are h b1 d1 ps1 byes1 posts turn 0 in
    let parts : (k : ℕ) (d : StoredLane) → k < length ls → resumed w.work n (x.lanes k) ≡ part_of (get_or ls' k d) =
    λ k d low. ap (resumed w.work n) (h.lanes k d low)
    ∙ sym ((c.resume_lanes-shared.ensures.gone k d low).part w.work n (sym (are.each k d low).budget) wait state) in
    let len = c.resume_lanes-shared.ensures.count in
    let parts_then : HaveParts ls' (after_message w x from wire) =
    λ k d low. ap (λ t. resumed w.work t.node (x.lanes k)) (handled_is w x from wire ls ls' f f' are h b1 d1 ps1 byes1 posts turn 0)
    ∙ parts k d (omega (arith, low, len)) in
    let local : b2.local ≡ b1.local = c.resume_lanes-shared.ensures.local ∙ ap (λ (b : ExecState). b.local) c.deref_mut-2.ensures.value in
    let counts : b2.counts ≡ counted n x.lanes w.lanes =
    c.resume_lanes-shared.ensures.counts n x wait state (sym (ap (λ (b : ExecState). b.counts) c.deref_mut-2.ensures.value)) h.lanes
    ∙ ap (counted n x.lanes) are.count in
    let entry_is : record { stamp = later f.state.stamp wire.stamp + 1; from = from; words = c.words_of-executed.result - f.state.noted }
    ≡ record { stamp = later f.state.stamp wire.stamp + 1; from = from; words = words_of x w.lanes - words_before f.state.journal.items } =
    λ t. record {
      stamp = later f.state.stamp wire.stamp + 1;
      from = from;
      words = (c.words_of-executed.ensures.words x h.lanes ∙ ap (words_of x) are.count) t - c.requires.shared.noted t;
    } in
    let journal = c.note_take.ensures.journal ∙ ap (λ (e : Entry). f.state.journal.items ++ e ∷ []) entry_is in
    let ended = c.resume_lanes-shared.ensures.ended (after_message w x from wire) parts_then
    ∙ ap (ended_in (after_message w x from wire)) (c.requires.count ∙ sym c.receive.ensures.places) in
    let now : HaveLanes ls' f' (after_message w x from wire) =
    message_is w x from wire ls ls' f f' are h b1 d1 ps1 byes1 posts turn parts c.receive.ensures.holders refl refl
    me local counts refl stamp journal output len ended in
    node_is w x from wire ls ls' f f' are h b1 d1 ps1 byes1 posts turn now

pub returns-clause-sends : goal.returns-clause-sends
returns-clause-sends c w x are h =
    let f = c.args.shared.now in
    let sh = c.note_take.new.self in
    let noted = c.note_take.ensures.same in
    let body = c.deref_mut.ensures.value ∙ ap (λ (s : SharedState). s.body.value) noted in
    let ls = c.args.lanes.now in
    let wire = c.args.wire in
    let from = c.args.from in
    let b1 = c.receive.new.body in
    let d1 = c.receive.new.protocol in
    let ps1 = c.receive.new.places.items in
    let byes1 = c.receive.new.byes in
    let posts = c.receive.new.sends.items in
    let ls' = c.resume_lanes-shared.new.lanes in
    let b2 = c.resume_lanes-shared.new.body in
    let state : (local_of b1.local).state ≡ (local_of c.deref_mut-2.result.now.local).state =
    sym (ap (λ (b : ExecState). (local_of b.local).state) c.deref_mut-2.ensures.value) in
    let wait : wait_among (waits_in ps1) ≡ wait_among (waits_in c.deref.result.now) =
    ap (λ (ps : List LaneProtocol). wait_among (waits_in ps)) (sym c.deref.ensures.value) in
    let f' : StoredShared = record f {
      state = record sh { body = with_value (with_value sh.body b1) b2; protocol = d1; byes = byes1 };
      places = c.receive.new.places;
      ended = c.resume_lanes-shared.result;
    } in
    let turn : (n : Node) (k : ℕ) → n.me ≡ f.state.protocol.directory.me
    → handled (layout_of f.state.body.value) (seen_with n k f.state.body.value f.state.protocol f.places.items f.state.byes) from wire.message
    ≡ turn_by (seen_with n k b1 d1 ps1 byes1) posts None =
    λ n k of. subst (λ (s : SharedState). handled (layout_of f.state.body.value) (seen_with n k f.state.body.value s.protocol f.places.items s.byes) from wire.message
    ≡ turn_by (seen_with n k b1 d1 ps1 byes1) posts None) noted
    (subst (λ (b : ExecState). handled (layout_of b) (seen_with n k b sh.protocol f.places.items sh.byes) from wire.message
    ≡ turn_by (seen_with n k b1 d1 ps1 byes1) posts None) body
    (c.receive.ensures.turn n k (of ∙ ap (λ (s : SharedState). s.protocol.directory.me) (sym noted)))) in
    let me = c.receive.ensures.me ∙ ap (λ (s : SharedState). s.protocol.directory.me) noted in
    let stamp = ap (λ (s : SharedState). s.stamp) noted in
    let output = ap (λ (s : SharedState). s.output.items) noted in
    let n = node_then w x from wire ls ls' f f' are h b1 d1 ps1 byes1 posts turn 0 in
    let parts : (k : ℕ) (d : StoredLane) → k < length ls → resumed w.work n (x.lanes k) ≡ part_of (get_or ls' k d) =
    λ k d low. ap (resumed w.work n) (h.lanes k d low)
    ∙ sym ((c.resume_lanes-shared.ensures.gone k d low).part w.work n (sym (are.each k d low).budget) wait state) in
    let len = c.resume_lanes-shared.ensures.count in
    let parts_then : HaveParts ls' (after_message w x from wire) =
    λ k d low. ap (λ t. resumed w.work t.node (x.lanes k)) (handled_is w x from wire ls ls' f f' are h b1 d1 ps1 byes1 posts turn 0)
    ∙ parts k d (omega (arith, low, len)) in
    let local : b2.local ≡ b1.local = c.resume_lanes-shared.ensures.local ∙ ap (λ (b : ExecState). b.local) c.deref_mut-2.ensures.value in
    let counts : b2.counts ≡ counted n x.lanes w.lanes =
    c.resume_lanes-shared.ensures.counts n x wait state (sym (ap (λ (b : ExecState). b.counts) c.deref_mut-2.ensures.value)) h.lanes
    ∙ ap (counted n x.lanes) are.count in
    let entry_is : record { stamp = later f.state.stamp wire.stamp + 1; from = from; words = c.words_of-executed.result - f.state.noted }
    ≡ record { stamp = later f.state.stamp wire.stamp + 1; from = from; words = words_of x w.lanes - words_before f.state.journal.items } =
    λ t. record {
      stamp = later f.state.stamp wire.stamp + 1;
      from = from;
      words = (c.words_of-executed.ensures.words x h.lanes ∙ ap (words_of x) are.count) t - c.requires.shared.noted t;
    } in
    let journal = c.note_take.ensures.journal ∙ ap (λ (e : Entry). f.state.journal.items ++ e ∷ []) entry_is in
    let ended = c.resume_lanes-shared.ensures.ended (after_message w x from wire) parts_then
    ∙ ap (ended_in (after_message w x from wire)) (c.requires.count ∙ sym c.receive.ensures.places) in
    let now : HaveLanes ls' f' (after_message w x from wire) =
    message_is w x from wire ls ls' f f' are h b1 d1 ps1 byes1 posts turn parts c.receive.ensures.holders refl refl
    me local counts refl stamp journal output len ended in
    let places : length f'.places.items ≡ w.lanes = c.receive.ensures.places ∙ are.places in
    let nodes : c.nodes.result ≡ w.work.layout.nodes =
    c.nodes.ensures.nodes ∙ ap (λ (s : Shape). s.nodes) (c.requires.shared.layout ∙ are.layout) in
    let many : length ls' ≡ w.lanes = len ∙ are.count in
    c.add_byes.ensures
    ∙ ap (λ t. cond t (posts ++ byes_to c.nodes.result) posts) c.is_last_end-last.ensures
    ∙ (λ t. cond (eqb f'.ended (many t) && not (eqb f.ended (many t))) (posts ++ byes_to (nodes t)) posts)
    ∙ sym (sends_are w x from wire ls ls' f f' are h b1 d1 ps1 byes1 posts turn now places)

pub returns-clause-lanes : goal.returns-clause-lanes
returns-clause-lanes c w are =
    let f = c.args.shared.now in
    let noted = c.note_take.ensures.same in
    let body = c.deref_mut.ensures.value ∙ ap (λ (s : SharedState). s.body.value) noted in
    let ls = c.args.lanes.now in
    let wire = c.args.wire in
    let from = c.args.from in
    let b1 = c.receive.new.body in
    let d1 = c.receive.new.protocol in
    let ps1 = c.receive.new.places.items in
    let byes1 = c.receive.new.byes in
    let posts = c.receive.new.sends.items in
    let ls' = c.resume_lanes-shared.new.lanes in
    let b2 = c.resume_lanes-shared.new.body in
    let len = c.resume_lanes-shared.ensures.count in
    let ground = ap (λ (s : Shelf). ground_of s) (c.resume_lanes-shared.ensures.local ∙ ap (λ (b : ExecState). b.local) c.deref_mut-2.ensures.value)
    ∙ c.receive.ensures.ground ∙ ap (λ (b : ExecState). ground_of b.local) body in
    record {
      count = len ∙ are.count;
      places = c.receive.ensures.places ∙ are.places;
      program = ap (λ (g : Ground). program_of g.program) ground ∙ are.program;
      layout = ap (λ (g : Ground). g.layout) ground ∙ are.layout;
      each = λ k d low.
          let below : k < length ls = omega (arith, low, len) in
          let one = are.each k d below in
          let same = (c.resume_lanes-shared.ensures.gone k d below).same in
          record {
            image = same.image ∙ one.image;
            budget = same.budget ∙ one.budget;
            number = same.number ∙ one.number;
          };
    }

pub returns-clause-waits : goal.returns-clause-waits
returns-clause-waits c w are all k d low b there =
    let f = c.args.shared.now in
    let ls = c.args.lanes.now in
    let wire = c.args.wire in
    let from = c.args.from in
    let b1 = c.receive.new.body in
    let d1 = c.receive.new.protocol in
    let ps1 = c.receive.new.places.items in
    let byes1 = c.receive.new.byes in
    let posts = c.receive.new.sends.items in
    let ls' = c.resume_lanes-shared.new.lanes in
    let b2 = c.resume_lanes-shared.new.body in
    let len = c.resume_lanes-shared.ensures.count in
    let below : k < length ls = omega (arith, low, len) in
    let one = c.resume_lanes-shared.ensures.gone k d below in
    let at = sym (ap (λ z. is_some (wait_at ps1 z b)) one.same.number) ∙ there in
    one.kept b (ap (λ (ps : List LaneProtocol). is_some (wait_among (waits_in ps) b)) c.deref.ensures.value ∙ wait_at_some ps1 _ b at)
    (all k d below b (c.receive.ensures.fewer _ b at))

pub returns-clause-held : goal.returns-clause-held
returns-clause-held c k d low b awaited =
    let len = c.resume_lanes-shared.ensures.count in
    ap (λ (ps : List LaneProtocol). is_some (wait_among (waits_in ps) b)) (sym c.deref.ensures.value)
    ∙ (c.resume_lanes-shared.ensures.gone k d (omega (arith, low, len))).held b awaited

pub returns-clause-shared : goal.returns-clause-shared
returns-clause-shared c =
    let f = c.args.shared.now in
    let sh = c.note_take.new.self in
    let noted = c.note_take.ensures.same in
    let body = c.deref_mut.ensures.value ∙ ap (λ (s : SharedState). s.body.value) noted in
    let ls = c.args.lanes.now in
    let wire = c.args.wire in
    let from = c.args.from in
    let b1 = c.receive.new.body in
    let d1 = c.receive.new.protocol in
    let ps1 = c.receive.new.places.items in
    let byes1 = c.receive.new.byes in
    let posts = c.receive.new.sends.items in
    let ls' = c.resume_lanes-shared.new.lanes in
    let b2 = c.resume_lanes-shared.new.body in
    let is = c.requires.shared in
    let stamp = c.requires.stamp in
    let above = later_above f.state.stamp wire.stamp in
    let later_is = ap (λ (s : SharedState). s.stamp) noted in
    let ground = ap (λ (s : Shelf). ground_of s) (c.resume_lanes-shared.ensures.local ∙ ap (λ (b : ExecState). b.local) c.deref_mut-2.ensures.value)
    ∙ c.receive.ensures.ground ∙ ap (λ (b : ExecState). ground_of b.local) body in
    let layout : layout_of b2 ≡ layout_of f.state.body.value = ap (λ (g : Ground). g.layout) ground in
    let rest = subst (λ (b : ExecState). IsAtRest (layout_of b) d1 ps1) body c.receive.ensures.rest in
    let words = c.words_of-executed.result - f.state.noted in
    let entry : Entry = record { stamp = later f.state.stamp wire.stamp + 1; from = from; words = words } in
    let count = c.receive.ensures.places in
    let some = is.some in
    let few = is.few in
    let old = subst (λ (b : ExecState). AreCountsBelow (32 * f.state.stamp) b.counts) (sym body) is.counts in
    let handled = c.receive.ensures.counts (32 * f.state.stamp) old in
    let gone = c.resume_lanes-shared.ensures.below (32 * f.state.stamp + 18)
    (subst (λ (b : ExecState). AreCountsBelow (32 * f.state.stamp + 18) b.counts) (sym c.deref_mut-2.ensures.value) handled) in
    record {
      rest = subst (λ s. IsAtRest s d1 ps1) (sym layout) rest;
      layout = is.layout ∙ sym layout;
      some = omega (arith, count, some);
      few = omega (arith, count, few);
      noted = ap (λ (s : SharedState). s.noted) noted ∙ ap (λ z. z + words) is.noted
          ∙ sym (ap words_before c.note_take.ensures.journal ∙ words_more f.state.journal.items entry);
      counts = counts_up (32 * f.state.stamp + 18 + 4) (32 * sh.stamp) b2.counts (omega (arith, above, later_is)) gone;
    }
