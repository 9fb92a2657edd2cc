use Rattle.std.proofs.Common.{◌≡◌, ◌+◌, ◌*◌, ◌≤◌, ◌∙◌, ap, sym, subst, length, ℕ, [], Option, ◌^◌, arith}
use Rattle.block_layout.specs.Layout.{Shape}
use Rattle.node_words.specs.exec_map.Contents.{program_of}
use Rattle.node_words.specs.home_directory.Effects.{entry_at, entries_of, members}
use Rattle.node_words.specs.miss_handlers.Waits.{wait_of}
use Rattle.node_words.specs.declared.exec_state.ExecState.{ExecState}
use Rattle.node_words.specs.Address.{word_address}
use Rattle.node_words.specs.node_model.Node.{Node, next_outcome, word_outcome}
use Rattle.node_words.specs.node_model.Turns.{want_all, each_block_once, is_ended, words_before}
use Rattle.node_words.specs.node_memory.Shelf.{Ground, ground_of, local_of}
use Rattle.node_words.specs.Kept.{Serves, lane_of, wants_by}
use Rattle.node_machine.specs.NodeState.{node_of, work_of, layout_of, phase_of, with_parts, entries_in, IsProtocolState, AreCountsBelow, WaitsInPhase}
use Rattle.node_machine.specs.ProtocolState.{turn_by, AreUnmet}
use Rattle.node_machine.specs.Wanted.{wants_along, wanted_in}
use Rattle.node_words.proofs.WordLemmas.{ending}
use Rattle.node_machine.specs.declared.states.LaneState.{LaneState}
use Rattle.node_machine.specs.declared.states.SharedState.{SharedState}
use Rattle.node_machine.proofs.NodeStateLemmas.{served_node, served_turn, served_wants, counts_up, served_below, may_waits, begun_waits, ended_silent}
use Rattle.node_machine.proofs.UnmetLemmas.{word_unmet}
use Rattle.node_machine.proofs.node_state.NodeState.serve_seen.Goals as goal

pub serve-served-requires-clause-falses : goal.serve-served-requires-clause-falses
serve-served-requires-clause-falses c =
    let i = c.args.self.now in
    let falses : c.deref_mut.result.now.counts.falses ≤ 19 * i.shared.stamp =
    subst (λ (b : ExecState). b.counts.falses ≤ 19 * i.shared.stamp) (sym c.deref_mut.ensures.value) c.requires.node.counts.falses in
    let stamp = c.requires.stamp in
    omega (arith, falses, stamp)

pub serve-served-requires-clause-fallbacks : goal.serve-served-requires-clause-fallbacks
serve-served-requires-clause-fallbacks c =
    let i = c.args.self.now in
    let fallbacks : c.deref_mut.result.now.counts.fallbacks ≤ 19 * i.shared.stamp =
    subst (λ (b : ExecState). b.counts.fallbacks ≤ 19 * i.shared.stamp) (sym c.deref_mut.ensures.value) c.requires.node.counts.fallbacks in
    let stamp = c.requires.stamp in
    omega (arith, fallbacks, stamp)

pub ask-wants-requires-clause-protocol : goal.ask-wants-requires-clause-protocol
ask-wants-requires-clause-protocol c =
    let i = c.args.self.now in
    let noted = c.note_word.ensures.same in
    let body = c.deref_mut-2.ensures.value ∙ ap (λ (s : SharedState). s.body.value) noted in
    let layout = ap layout_of body ∙ ap (λ (g : Ground). g.layout) c.serve-served.ensures.ground_same ∙ ap layout_of c.deref_mut.ensures.value in
    subst (λ (s : SharedState). IsProtocolState (layout_of c.deref_mut-2.result.now) s.protocol) (sym noted)
    (subst (λ (l : Shape). IsProtocolState l i.shared.protocol) (sym layout) c.requires.node.protocol)

pub ask-wants-requires-clause-idle : goal.ask-wants-requires-clause-idle
ask-wants-requires-clause-idle c =
    ap (λ (s : SharedState). length s.protocol.waits.waits) c.note_word.ensures.same
    ∙ may_waits (phase_of c.args.self.now.lane.phase) _ c.requires.may c.requires.node.waits

pub ask-wants-requires-clause-counts : goal.ask-wants-requires-clause-counts
ask-wants-requires-clause-counts c =
    let i = c.args.self.now in
    let noted = c.note_word.ensures.same in
    let body = c.deref_mut-2.ensures.value ∙ ap (λ (s : SharedState). s.body.value) noted in
    let stamp = c.requires.stamp in
    let old = subst (λ (b : ExecState). AreCountsBelow (19 * i.shared.stamp) b.counts) (sym c.deref_mut.ensures.value) c.requires.node.counts in
    let below = served_below _ (19 * i.shared.stamp) c.deref_mut.result.now.counts c.serve-served.new.self.counts c.serve-served.ensures.counts_after old in
    subst (λ (b : ExecState). AreCountsBelow (2 ^ 62) b.counts) (sym body)
    (counts_up (19 * i.shared.stamp + 1) (2 ^ 62) c.serve-served.new.self.counts (omega (arith, stamp)) below)

pub turn-requires : goal.turn-requires
turn-requires c = record {
  few = λ ended.
      let i = c.args.self.now in
      let silent = c.ask-wants.ensures.silent (ended_silent i.lane.budget (i.lane.executed + 1) c.serve-served.result.following (sym (ap is_ended c.advance.ensures.phase) ∙ ended)) in
      let none = ap length silent in
      omega (arith, none);
}

pub returns-clause-turn : goal.returns-clause-turn
returns-clause-turn c =
    let i = c.args.self.now in
    let sh = c.note_word.new.self in
    let gone = c.advance.ensures.same in
    let noted = c.note_word.ensures.same in
    let body = c.deref_mut-2.ensures.value ∙ ap (λ (s : SharedState). s.body.value) noted in
    let b = c.serve-served.new.self in
    let b' = c.ask-wants.new.body in
    let d = c.ask-wants.new.protocol in
    let done = c.serve-served.result in
    let posts = c.ask-wants.new.sends.items in
    let s : Serves i.lane.image.now (word_outcome (work_of i) (node_of i)) (ground_of i.shared.body.value.local) i.shared.body.value.counts b.lane b.local b.counts done =
    subst (λ (x : ExecState). Serves i.lane.image.now (next_outcome (program_of x.local.program) i.lane.image.now (lane_of x.lane (word_address i.lane.at)) (local_of x.local))
    (ground_of x.local) x.counts b.lane b.local b.counts done) c.deref_mut.ensures.value c.serve-served.ensures in
    let ask : (m : Node) (p : Option ℕ) → want_all (layout_of b) (turn_by (with_parts m b i.shared.protocol) [] p) (each_block_once (layout_of b) (wants_by done.following))
    ≡ turn_by (with_parts m b' d) posts p =
    λ m p. subst (λ (s : SharedState). want_all (layout_of b) (turn_by (with_parts m b s.protocol) [] p) (each_block_once (layout_of b) (wants_by done.following))
    ≡ turn_by (with_parts m b' d) posts p) noted
    (subst (λ (x : ExecState). want_all (layout_of x) (turn_by (with_parts m x sh.protocol) [] p) (each_block_once (layout_of x) (wants_by done.following))
    ≡ turn_by (with_parts m b' d) posts p) body (c.ask-wants.ensures.turn m p)) in
    let lane = c.ask-wants.ensures.lane ∙ ap (λ (x : ExecState). x.lane) body in
    let last : Node = record {
      me = d.directory.me;
      lane = lane_of b'.lane (word_address c.advance.new.self.at);
      local = local_of b'.local;
      executed = c.advance.new.self.executed;
      phase = phase_of c.advance.new.self.phase;
      entry = entries_in d.directory.layout d.directory.me (entry_at d.directory.entries);
      waiting = (entries_of d.directory).waiting;
      occupancy = (entries_of d.directory).occupancy;
      wait = wait_of d.waits;
      byes = members sh.byes;
      stamp = sh.stamp;
      journal = sh.journal.items;
      output = sh.output.items;
      counts = b'.counts;
    } in
    let directory = c.ask-wants.ensures.directory ∙ ap (λ (s : SharedState). s.protocol.directory) noted in
    let is : last ≡ with_parts (served_node (work_of i) (node_of i) b.lane b.local b.counts done) b' d = λ t. record last {
      me = (directory t).me;
      lane = lane_of (lane t) (word_address (gone t).at);
      executed = (gone t).executed;
      phase = c.advance.ensures.phase t;
      byes = members (noted t).byes;
      stamp = (noted t).stamp;
      journal = (noted t).journal.items;
      output = c.note_word.ensures.output t;
    } in
    let layout = ap (λ (g : Ground). g.layout) c.ask-wants.ensures.ground ∙ ap layout_of body ∙ ap (λ (g : Ground). g.layout) s.ground_same in
    c.turn.ensures.turn ∙ ap (λ (l : Shape). ending l.nodes (turn_by last posts done.output)) layout
    ∙ served_turn i b b' d done posts last s ask is

pub returns-clause-work : goal.returns-clause-work
returns-clause-work c =
    let i = c.args.self.now in
    let gone = c.advance.ensures.same in
    let noted = c.note_word.ensures.same in
    let body = c.deref_mut-2.ensures.value ∙ ap (λ (s : SharedState). s.body.value) noted in
    let g = c.ask-wants.ensures.ground ∙ ap (λ (b : ExecState). ground_of b.local) body ∙ c.serve-served.ensures.ground_same
    ∙ ap (λ (b : ExecState). ground_of b.local) c.deref_mut.ensures.value in
    λ t. record {
      program = program_of (g t).program;
      image = (gone t).image.now;
      layout = (g t).layout;
      budget = (gone t).budget;
    }

pub returns-clause-node : goal.returns-clause-node
returns-clause-node c =
    let i = c.args.self.now in
    let sh = c.note_word.new.self in
    let gone = c.advance.ensures.same in
    let noted = c.note_word.ensures.same in
    let body = c.deref_mut-2.ensures.value ∙ ap (λ (s : SharedState). s.body.value) noted in
    let n = c.requires.node in
    let b = c.serve-served.new.self in
    let done = c.serve-served.result in
    let behind = n.behind in
    let layout = ap (λ (x : Ground). x.layout) c.ask-wants.ensures.ground in
    let old = subst (λ (x : ExecState). AreCountsBelow (19 * i.shared.stamp) x.counts) (sym c.deref_mut.ensures.value) n.counts in
    let served = served_below _ (19 * i.shared.stamp) c.deref_mut.result.now.counts b.counts c.serve-served.ensures.counts_after old in
    let asked = c.ask-wants.ensures.counts (19 * i.shared.stamp + 1) (subst (λ (x : ExecState). AreCountsBelow (19 * i.shared.stamp + 1) x.counts) (sym body) served) in
    let s : Serves i.lane.image.now (word_outcome (work_of i) (node_of i)) (ground_of i.shared.body.value.local) i.shared.body.value.counts b.lane b.local b.counts done =
    subst (λ (x : ExecState). Serves i.lane.image.now (next_outcome (program_of x.local.program) i.lane.image.now (lane_of x.lane (word_address i.lane.at)) (local_of x.local))
    (ground_of x.local) x.counts b.lane b.local b.counts done) c.deref_mut.ensures.value c.serve-served.ensures in
    let unmet : AreUnmet (local_of b.local) (wants_by done.following) = word_unmet (work_of i) (node_of i) (local_of b.local) (wants_by done.following) s.local s.wants in
    let begun = c.ask-wants.ensures.begun (subst (λ (x : ExecState). AreUnmet (local_of x.local) (wants_by done.following)) (sym body) unmet) in
    let noted_now = ap (λ (s : SharedState). s.noted) noted in
    let stamp = ap (λ (s : SharedState). s.stamp) noted in
    let executed = ap (λ (l : LaneState). l.executed) gone in
    record {
      lane = c.advance.ensures.lane;
      protocol = subst (λ (l : Shape). IsProtocolState l c.ask-wants.new.protocol) (sym layout) c.ask-wants.ensures.protocol;
      waits = subst (λ x. WaitsInPhase x (length c.ask-wants.new.protocol.waits.waits)) (sym c.advance.ensures.phase)
          (begun_waits i.lane.budget (i.lane.executed + 1) _ done.following begun);
      noted = subst (λ (s : SharedState). s.noted ≡ words_before s.journal.items) (sym noted) n.noted;
      behind = omega (arith, behind, noted_now, executed);
      counts = counts_up (19 * i.shared.stamp + 1 + 2) (19 * sh.stamp) c.ask-wants.new.body.counts (omega (arith, stamp)) asked;
    }

pub returns-clause-wants : goal.returns-clause-wants
returns-clause-wants c =
    let i = c.args.self.now in
    let sh = c.note_word.new.self in
    let noted = c.note_word.ensures.same in
    let body = c.deref_mut-2.ensures.value ∙ ap (λ (s : SharedState). s.body.value) noted in
    let b = c.serve-served.new.self in
    let done = c.serve-served.result in
    let s : Serves i.lane.image.now (word_outcome (work_of i) (node_of i)) (ground_of i.shared.body.value.local) i.shared.body.value.counts b.lane b.local b.counts done =
    subst (λ (x : ExecState). Serves i.lane.image.now (next_outcome (program_of x.local.program) i.lane.image.now (lane_of x.lane (word_address i.lane.at)) (local_of x.local))
    (ground_of x.local) x.counts b.lane b.local b.counts done) c.deref_mut.ensures.value c.serve-served.ensures in
    served_wants i b done (wanted_in c.ask-wants.result) s
    (λ m p. subst (λ (s : SharedState). wants_along (layout_of b) (turn_by (with_parts m b s.protocol) [] p) (each_block_once (layout_of b) (wants_by done.following))
    ≡ wanted_in c.ask-wants.result) noted
    (subst (λ (x : ExecState). wants_along (layout_of x) (turn_by (with_parts m x sh.protocol) [] p) (each_block_once (layout_of x) (wants_by done.following))
    ≡ wanted_in c.ask-wants.result) body (c.ask-wants.ensures.wants m p)))
