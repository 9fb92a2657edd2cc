-- By the lemmas on a word of one lane.
use Rattle.std.proofs.Common.{◌≡◌, ℕ, ◌+◌, ◌≤◌, ◌∙◌, ◌^◌, false, ap, sym, subst, set, set-set, get_or-set_same, length, List, [], Option, None, true, arith}
use Rattle.std.specs.Prelude.{is_some}
use Rattle.exec_map.specs.Contents.{program_of}
use Rattle.home_directory.specs.declared.wait.Wait.{Wait}
use Rattle.home_directory.specs.Effects.{Directory}
use Rattle.node_machine.specs.miss_handlers.Waits.{wait_of}
use Rattle.node_machine.proofs.UnmetLemmas.{word_unmet}
use Rattle.lane_machine.proofs.ReceiveLemmas.{any_node}
use Rattle.lane_machine.proofs.HandleLemmas.{one_of_two}
use Rattle.node_machine.specs.node_words.declared.lane.ProcessorState as kept
use Rattle.node_machine.specs.node_words.Address.{word_address}
use Rattle.lane_model.specs.node_model.Node.{Node, next_outcome, word_outcome}
use Rattle.lane_model.specs.node_model.Turns.{each_block_once}
use Rattle.node_machine.proofs.WaitLemmas.{none_waits}
use Rattle.lane_model.specs.Turns.{ask_all}
use Rattle.lane_machine.specs.ProtocolStates.{asked_by, stood}
use Rattle.lane_machine.specs.Stored.{seen_at, served, work_in, IsAtRest}
use Rattle.block_layout.specs.Layout.{Shape}
use Rattle.node_machine.specs.node_words.declared.exec_state.ExecState.{ExecState}
use Rattle.node_machine.specs.declared.protocol_state.ProtocolState.{ProtocolState}
use Rattle.node_machine.specs.NodeState.{layout_of, IsProtocolState, AreCountsBelow}
use Rattle.node_machine.proofs.NodeStateLemmas.{counts_up, served_below}
use Rattle.node_machine.specs.node_words.node_memory.Shelf.{Ground, ground_of, local_of}
use Rattle.node_machine.specs.node_words.Kept.{Serves, lane_of, wants_by}
use Rattle.lane_machine.specs.declared.lane_protocol.LaneProtocol.{LaneProtocol}
use Rattle.lane_machine.specs.Waits.{wait_among, place_among, waits_in, all_waits, AreApart}
use Rattle.lane_machine.specs.Places.{wait_at, reserved_in}
use Rattle.lane_machine.proofs.WordLemmas.{body_used, protocol_used, place_left, apart_used, protocol_is_used, idle_is, used_all, reserved_is, back_all, back_rest, back_holders, others_wait, own_wait, others_reserved, word_is, awaits_is}
use Rattle.lane_machine.proofs.stored.execute.Goals as goal

pub serve-served-requires-clause-falses : goal.serve-served-requires-clause-falses
serve-served-requires-clause-falses c =
    let below : c.swap_lane.new.body.counts.falses ≤ 2 ^ 61 =
    subst (λ (b : ExecState). b.counts.falses ≤ 2 ^ 61) (sym c.swap_lane.ensures.body) c.requires.counts.falses in
    omega (arith, below)

pub serve-served-requires-clause-fallbacks : goal.serve-served-requires-clause-fallbacks
serve-served-requires-clause-fallbacks c =
    let below : c.swap_lane.new.body.counts.fallbacks ≤ 2 ^ 61 =
    subst (λ (b : ExecState). b.counts.fallbacks ≤ 2 ^ 61) (sym c.swap_lane.ensures.body) c.requires.counts.fallbacks in
    omega (arith, below)

pub ask_all-asked-requires-clause-protocol : goal.ask_all-asked-requires-clause-protocol
ask_all-asked-requires-clause-protocol c =
    let b = c.args.body.now in
    let d = c.args.protocol.now in
    let ps = c.args.places.now.items in
    let k = c.args.number in
    let p = c.index_mut.result.now in
    let layout : layout_of c.serve-served.new.self ≡ layout_of b =
    ap (λ (g : Ground). g.layout) c.serve-served.ensures.ground_same ∙ ap layout_of c.swap_lane.ensures.body in
    let used = protocol_is_used b b b d d ps c.args.lane.now k p c.index_mut.ensures.value c.requires.number c.requires.rest in
    subst (λ (l : Shape). IsProtocolState l c.swap_lane.new.protocol) (sym layout)
    (subst (λ (x : ProtocolState). IsProtocolState (layout_of b) x) (sym c.swap_lane.ensures.protocol) used)

pub ask_all-asked-requires-clause-apart : goal.ask_all-asked-requires-clause-apart
ask_all-asked-requires-clause-apart c =
    let b = c.args.body.now in
    let d = c.args.protocol.now in
    let ps = c.args.places.now.items in
    let k = c.args.number in
    let p = c.index_mut.result.now in
    let used = apart_used b b b d d ps c.args.lane.now k p c.index_mut.ensures.value c.requires.number c.requires.rest in
    let place1 : c.deref.result.now ≡ set ps k (place_left b d) = c.deref.ensures.value ∙ ap (set ps k) c.swap_lane.ensures.place in
    subst (λ (x : ProtocolState). AreApart (all_waits x c.deref.result.now)) (sym c.swap_lane.ensures.protocol)
    (subst (λ (x : List LaneProtocol). AreApart (all_waits (protocol_used d p) x)) (sym place1) used)

pub ask_all-asked-requires-clause-idle : goal.ask_all-asked-requires-clause-idle
ask_all-asked-requires-clause-idle c =
    let b = c.args.body.now in
    let d = c.args.protocol.now in
    let ps = c.args.places.now.items in
    let p = c.index_mut.result.now in
    ap (λ (x : ProtocolState). length x.waits.waits) c.swap_lane.ensures.protocol
    ∙ idle_is b b b d d ps c.args.lane.now c.args.number p c.index_mut.ensures.value c.requires.number c.requires.rest c.requires.idle

pub ask_all-asked-requires-clause-counts : goal.ask_all-asked-requires-clause-counts
ask_all-asked-requires-clause-counts c =
    let old = subst (λ (b : ExecState). AreCountsBelow (2 ^ 61) b.counts) (sym c.swap_lane.ensures.body) c.requires.counts in
    let below = served_below _ (2 ^ 61) c.swap_lane.new.body.counts c.serve-served.new.self.counts c.serve-served.ensures.counts_after old in
    counts_up (2 ^ 61 + 1) (2 ^ 62) c.serve-served.new.self.counts (omega arith) below

pub returns-clause-word : goal.returns-clause-word
returns-clause-word c n budget =
    let b = c.args.body.now in
    let d = c.args.protocol.now in
    let ps = c.args.places.now.items in
    let k = c.args.number in
    let l0 = c.args.lane.now in
    let image = c.args.image.now in
    let p = c.index_mut.result.now in
    let q = c.index_mut-2.result.now in
    let b2 = c.serve-served.new.self in
    let b3 = c.ask_all-asked.new.body in
    let d3 = c.ask_all-asked.new.protocol in
    let b4 = c.swap_lane-2.new.body in
    let d4 = c.swap_lane-2.new.protocol in
    let done = c.serve-served.result in
    let again = c.ask_all-asked.result.again in
    let posts = c.ask_all-asked.new.sends.items in
    let at = c.index_mut.ensures.value in
    let low = c.requires.number in
    let rest = c.requires.rest in
    let s : Serves image (next_outcome (work_in b image budget).program image (lane_of l0 (word_address c.args.at))
    (local_of (body_used b l0 p).local)) (ground_of b.local) b.counts b2.lane b2.local b2.counts done =
    subst (λ (x : ExecState). Serves image (next_outcome (program_of x.local.program) image (lane_of x.lane (word_address c.args.at)) (local_of x.local))
    (ground_of x.local) x.counts b2.lane b2.local b2.counts done) c.swap_lane.ensures.body c.serve-served.ensures in
    let ps1 = set ps k (place_left b d) in
    let place1 : c.deref.result.now ≡ ps1 = c.deref.ensures.value ∙ ap (set ps k) c.swap_lane.ensures.place in
    let ask : (m : Node) (o : Option ℕ) → ask_all (layout_of b2) (each_block_once (layout_of b2) (wants_by done.following))
    (asked_by (stood m b2 (protocol_used d p) ps1) [] o false) ≡ asked_by (stood m b3 d3 ps1) posts o again =
    λ m o. subst (λ (x : List LaneProtocol). ask_all (layout_of b2) (each_block_once (layout_of b2) (wants_by done.following))
    (asked_by (stood m b2 (protocol_used d p) x) [] o false) ≡ asked_by (stood m b3 d3 x) posts o again) place1
    (subst (λ (x : ProtocolState). ask_all (layout_of b2) (each_block_once (layout_of b2) (wants_by done.following))
    (asked_by (stood m b2 x c.deref.result.now) [] o false)
    ≡ asked_by (stood m b3 d3 c.deref.result.now) posts o again) c.swap_lane.ensures.protocol (c.ask_all-asked.ensures.turn m o)) in
    let back : q ≡ place_left b d = c.index_mut-2.ensures.value
    ∙ get_or-set_same ps k c.swap_lane.new.place q low ∙ c.swap_lane.ensures.place in
    let apart3 : AreApart (all_waits d3 ps1) = subst (λ (x : List LaneProtocol). AreApart (all_waits d3 x)) place1 c.ask_all-asked.ensures.apart in
    let idle = idle_is b b2 b3 d d3 ps l0 k p at low rest c.requires.idle in
    let waits = back_all b b2 b3 d d3 ps l0 k p at low rest apart3 (λ x. none_waits p.waits.waits idle x) in
    let local : b4.local ≡ record b3.local { reservation = b.local.reservation } =
    ap (λ (x : ExecState). x.local) c.swap_lane-2.ensures.body ∙ (λ t. record b3.local { reservation = (back t).reservation }) in
    let protocol : d4 ≡ record d3 { waits = d.waits; pool = d.pool } =
    c.swap_lane-2.ensures.protocol ∙ (λ t. record d3 { waits = (back t).waits; pool = (back t).pool }) in
    let places : set (set ps k c.swap_lane.new.place) k c.swap_lane-2.new.place ≡ set ps k (place_left b3 d3) =
    set-set ps k c.swap_lane.new.place c.swap_lane-2.new.place ∙ ap (set ps k) c.swap_lane-2.ensures.place in
    word_is b b2 b3 d d3 ps l0 k p at low rest image budget c.args.at done posts again n s ask c.ask_all-asked.ensures.lane
    b4 local (ap (λ (x : ExecState). x.counts) c.swap_lane-2.ensures.body) d4 protocol
    (set (set ps k c.swap_lane.new.place) k c.swap_lane-2.new.place) places waits
    ∙ ap (λ (l : kept.ProcessorState). asked_by (served (seen_at n k l done.at b4 d4 (set (set ps k c.swap_lane.new.place) k c.swap_lane-2.new.place)) budget done)
    posts done.output again) (sym c.swap_lane-2.ensures.lane)

pub returns-clause-others : goal.returns-clause-others
returns-clause-others c j x apart =
    let b = c.args.body.now in
    let d = c.args.protocol.now in
    let ps = c.args.places.now.items in
    let k = c.args.number in
    let l0 = c.args.lane.now in
    let p = c.index_mut.result.now in
    let b2 = c.serve-served.new.self in
    let b3 = c.ask_all-asked.new.body in
    let d3 = c.ask_all-asked.new.protocol in
    let at = c.index_mut.ensures.value in
    let low = c.requires.number in
    let rest = c.requires.rest in
    let places : set (set ps k c.swap_lane.new.place) k c.swap_lane-2.new.place ≡ set ps k (place_left b3 d3) =
    set-set ps k c.swap_lane.new.place c.swap_lane-2.new.place ∙ ap (set ps k) c.swap_lane-2.ensures.place in
    ap (λ z. wait_at z j x) places ∙ others_wait b b2 b3 d d3 ps l0 k p at low rest j x apart

pub returns-clause-reserved : goal.returns-clause-reserved
returns-clause-reserved c j apart =
    let b = c.args.body.now in
    let d = c.args.protocol.now in
    let ps = c.args.places.now.items in
    let k = c.args.number in
    let l0 = c.args.lane.now in
    let p = c.index_mut.result.now in
    let b2 = c.serve-served.new.self in
    let b3 = c.ask_all-asked.new.body in
    let d3 = c.ask_all-asked.new.protocol in
    let at = c.index_mut.ensures.value in
    let low = c.requires.number in
    let rest = c.requires.rest in
    let places : set (set ps k c.swap_lane.new.place) k c.swap_lane-2.new.place ≡ set ps k (place_left b3 d3) =
    set-set ps k c.swap_lane.new.place c.swap_lane-2.new.place ∙ ap (set ps k) c.swap_lane-2.ensures.place in
    ap (λ z. reserved_in z j) places ∙ others_reserved b b2 b3 d d3 ps l0 k p at low rest j apart

pub returns-clause-own : goal.returns-clause-own
returns-clause-own c x there =
    let b = c.args.body.now in
    let d = c.args.protocol.now in
    let ps = c.args.places.now.items in
    let k = c.args.number in
    let l0 = c.args.lane.now in
    let p = c.index_mut.result.now in
    let b2 = c.serve-served.new.self in
    let b3 = c.ask_all-asked.new.body in
    let d3 = c.ask_all-asked.new.protocol in
    let at = c.index_mut.ensures.value in
    let low = c.requires.number in
    let rest = c.requires.rest in
    let places : set (set ps k c.swap_lane.new.place) k c.swap_lane-2.new.place ≡ set ps k (place_left b3 d3) =
    set-set ps k c.swap_lane.new.place c.swap_lane-2.new.place ∙ ap (set ps k) c.swap_lane-2.ensures.place in
    let mine : wait_at (set (set ps k c.swap_lane.new.place) k c.swap_lane-2.new.place) k x ≡ wait_of d3.waits x =
    ap (λ z. wait_at z k x) places ∙ own_wait b b2 b3 d d3 ps l0 k p at low rest x in
    one_of_two _ _ x (c.ask_all-asked.ensures.own x (sym (ap is_some mine) ∙ there))

pub returns-clause-holders : goal.returns-clause-holders
returns-clause-holders c x there =
    let b = c.args.body.now in
    let d = c.args.protocol.now in
    let ps = c.args.places.now.items in
    let k = c.args.number in
    let l0 = c.args.lane.now in
    let p = c.index_mut.result.now in
    let b2 = c.serve-served.new.self in
    let b3 = c.ask_all-asked.new.body in
    let d3 = c.ask_all-asked.new.protocol in
    let at = c.index_mut.ensures.value in
    let low = c.requires.number in
    let rest = c.requires.rest in
    let places : set (set ps k c.swap_lane.new.place) k c.swap_lane-2.new.place ≡ set ps k (place_left b3 d3) =
    set-set ps k c.swap_lane.new.place c.swap_lane-2.new.place ∙ ap (set ps k) c.swap_lane-2.ensures.place in
    let place1 : c.deref.result.now ≡ set ps k (place_left b d) = c.deref.ensures.value ∙ ap (set ps k) c.swap_lane.ensures.place in
    let apart3 : AreApart (all_waits d3 (set ps k (place_left b d))) =
    subst (λ (x : List LaneProtocol). AreApart (all_waits d3 x)) place1 c.ask_all-asked.ensures.apart in
    let none : (x : ℕ) → wait_of p.waits x ≡ None =
    λ x. none_waits p.waits.waits (idle_is b b2 b3 d d3 ps l0 k p at low rest c.requires.idle) x in
    ap (λ z. place_among (waits_in z) x) places
    ∙ back_holders b b2 b3 d d3 ps l0 k p at low rest apart3 none x (sym (ap (λ z. is_some (wait_among (waits_in z) x)) places) ∙ there)

pub returns-clause-more : goal.returns-clause-more
returns-clause-more c x there =
    let b = c.args.body.now in
    let d = c.args.protocol.now in
    let ps = c.args.places.now.items in
    let k = c.args.number in
    let l0 = c.args.lane.now in
    let p = c.index_mut.result.now in
    let b2 = c.serve-served.new.self in
    let b3 = c.ask_all-asked.new.body in
    let d3 = c.ask_all-asked.new.protocol in
    let at = c.index_mut.ensures.value in
    let low = c.requires.number in
    let rest = c.requires.rest in
    let places : set (set ps k c.swap_lane.new.place) k c.swap_lane-2.new.place ≡ set ps k (place_left b3 d3) =
    set-set ps k c.swap_lane.new.place c.swap_lane-2.new.place ∙ ap (set ps k) c.swap_lane-2.ensures.place in
    let place1 : c.deref.result.now ≡ set ps k (place_left b d) = c.deref.ensures.value ∙ ap (set ps k) c.swap_lane.ensures.place in
    let apart3 : AreApart (all_waits d3 (set ps k (place_left b d))) =
    subst (λ (x : List LaneProtocol). AreApart (all_waits d3 x)) place1 c.ask_all-asked.ensures.apart in
    let none : (x : ℕ) → wait_of p.waits x ≡ None =
    λ x. none_waits p.waits.waits (idle_is b b2 b3 d d3 ps l0 k p at low rest c.requires.idle) x in
    let used = used_all b b2 b3 d d3 ps l0 k p at low rest in
    let back = back_all b b2 b3 d d3 ps l0 k p at low rest apart3 none in
    let first : is_some (wait_among (all_waits c.swap_lane.new.protocol c.deref.result.now) x) ≡ true =
    (λ t. is_some (wait_among (all_waits (c.swap_lane.ensures.protocol t) (place1 t)) x))
    ∙ ap (λ (f : ℕ → Option Wait). is_some (f x)) (sym used) ∙ there in
    ap (λ z. is_some (wait_among (waits_in z) x)) places ∙ ap (λ (f : ℕ → Option Wait). is_some (f x)) (sym back)
    ∙ ap (λ z. is_some (wait_among (all_waits d3 z) x)) (sym place1) ∙ c.ask_all-asked.ensures.more x first

pub returns-clause-rest : goal.returns-clause-rest
returns-clause-rest c =
    let b = c.args.body.now in
    let d = c.args.protocol.now in
    let ps = c.args.places.now.items in
    let k = c.args.number in
    let l0 = c.args.lane.now in
    let p = c.index_mut.result.now in
    let b2 = c.serve-served.new.self in
    let b3 = c.ask_all-asked.new.body in
    let d3 = c.ask_all-asked.new.protocol in
    let at = c.index_mut.ensures.value in
    let low = c.requires.number in
    let rest = c.requires.rest in
    let places : set (set ps k c.swap_lane.new.place) k c.swap_lane-2.new.place ≡ set ps k (place_left b3 d3) =
    set-set ps k c.swap_lane.new.place c.swap_lane-2.new.place ∙ ap (set ps k) c.swap_lane-2.ensures.place in
    let place1 : c.deref.result.now ≡ set ps k (place_left b d) = c.deref.ensures.value ∙ ap (set ps k) c.swap_lane.ensures.place in
    let apart3 : AreApart (all_waits d3 (set ps k (place_left b d))) =
    subst (λ (x : List LaneProtocol). AreApart (all_waits d3 x)) place1 c.ask_all-asked.ensures.apart in
    let none : (x : ℕ) → wait_of p.waits x ≡ None =
    λ x. none_waits p.waits.waits (idle_is b b2 b3 d d3 ps l0 k p at low rest c.requires.idle) x in
    let q = c.index_mut-2.result.now in
    let back : q ≡ place_left b d = c.index_mut-2.ensures.value
    ∙ get_or-set_same ps k c.swap_lane.new.place q low ∙ c.swap_lane.ensures.place in
    let protocol : c.swap_lane-2.new.protocol ≡ record d3 { waits = d.waits; pool = d.pool } =
    c.swap_lane-2.ensures.protocol ∙ (λ t. record d3 { waits = (back t).waits; pool = (back t).pool }) in
    let layout : layout_of b2 ≡ layout_of b =
    ap (λ (g : Ground). g.layout) c.serve-served.ensures.ground_same ∙ ap layout_of c.swap_lane.ensures.body in
    let protocol3 : IsProtocolState (layout_of b) d3 = subst (λ (l : Shape). IsProtocolState l d3) layout c.ask_all-asked.ensures.protocol in
    subst (λ z. IsAtRest (layout_of b) c.swap_lane-2.new.protocol z) (sym places)
    (back_rest b b2 b3 d d3 ps l0 k p at low rest apart3 none c.swap_lane-2.new.protocol protocol3 protocol)

pub returns-clause-awaits : goal.returns-clause-awaits
returns-clause-awaits c n budget =
    let b = c.args.body.now in
    let d = c.args.protocol.now in
    let ps = c.args.places.now.items in
    let k = c.args.number in
    let l0 = c.args.lane.now in
    let p = c.index_mut.result.now in
    let b2 = c.serve-served.new.self in
    let b3 = c.ask_all-asked.new.body in
    let d3 = c.ask_all-asked.new.protocol in
    let at = c.index_mut.ensures.value in
    let low = c.requires.number in
    let rest = c.requires.rest in
    let places : set (set ps k c.swap_lane.new.place) k c.swap_lane-2.new.place ≡ set ps k (place_left b3 d3) =
    set-set ps k c.swap_lane.new.place c.swap_lane-2.new.place ∙ ap (set ps k) c.swap_lane-2.ensures.place in
    let place1 : c.deref.result.now ≡ set ps k (place_left b d) = c.deref.ensures.value ∙ ap (set ps k) c.swap_lane.ensures.place in
    let apart3 : AreApart (all_waits d3 (set ps k (place_left b d))) =
    subst (λ (x : List LaneProtocol). AreApart (all_waits d3 x)) place1 c.ask_all-asked.ensures.apart in
    let none : (x : ℕ) → wait_of p.waits x ≡ None =
    λ x. none_waits p.waits.waits (idle_is b b2 b3 d d3 ps l0 k p at low rest c.requires.idle) x in
    let image = c.args.image.now in
    let done = c.serve-served.result in
    let s : Serves image (next_outcome (work_in b image budget).program image (lane_of l0 (word_address c.args.at))
    (local_of (body_used b l0 p).local)) (ground_of b.local) b.counts b2.lane b2.local b2.counts done =
    subst (λ (x : ExecState). Serves image (next_outcome (program_of x.local.program) image (lane_of x.lane (word_address c.args.at)) (local_of x.local))
    (ground_of x.local) x.counts b2.lane b2.local b2.counts done) c.swap_lane.ensures.body c.serve-served.ensures in
    let posts = c.ask_all-asked.new.sends.items in
    let again = c.ask_all-asked.result.again in
    let ask : (m : Node) (o : Option ℕ) → ask_all (layout_of b2) (each_block_once (layout_of b2) (wants_by done.following))
    (asked_by (stood m b2 (protocol_used d p) (set ps k (place_left b d))) [] o false) ≡ asked_by (stood m b3 d3 (set ps k (place_left b d))) posts o again =
    λ m o. subst (λ (x : List LaneProtocol). ask_all (layout_of b2) (each_block_once (layout_of b2) (wants_by done.following))
    (asked_by (stood m b2 (protocol_used d p) x) [] o false) ≡ asked_by (stood m b3 d3 x) posts o again) place1
    (subst (λ (x : ProtocolState). ask_all (layout_of b2) (each_block_once (layout_of b2) (wants_by done.following))
    (asked_by (stood m b2 x c.deref.result.now) [] o false)
    ≡ asked_by (stood m b3 d3 c.deref.result.now) posts o again) c.swap_lane.ensures.protocol (c.ask_all-asked.ensures.turn m o)) in
    let back = back_all b b2 b3 d d3 ps l0 k p at low rest apart3 none in
    let waits : wait_among (all_waits d3 c.deref.result.now)
    ≡ wait_among (waits_in (set (set ps k c.swap_lane.new.place) k c.swap_lane-2.new.place)) =
    ap (λ z. wait_among (all_waits d3 z)) place1 ∙ back ∙ ap (λ z. wait_among (waits_in z)) (sym places) in
    awaits_is b b2 b3 d d3 ps l0 k p at low rest image budget c.args.at done posts again n s ask c.ask_all-asked.ensures.lane
    _ _ _ waits c.ask_all-asked.ensures.awaits

pub returns-clause-begun : goal.returns-clause-begun
returns-clause-begun c =
    let b = c.args.body.now in
    let d = c.args.protocol.now in
    let ps = c.args.places.now.items in
    let k = c.args.number in
    let l0 = c.args.lane.now in
    let p = c.index_mut.result.now in
    let b2 = c.serve-served.new.self in
    let b3 = c.ask_all-asked.new.body in
    let d3 = c.ask_all-asked.new.protocol in
    let at = c.index_mut.ensures.value in
    let low = c.requires.number in
    let rest = c.requires.rest in
    let image = c.args.image.now in
    let done = c.serve-served.result in
    let s : Serves image (next_outcome (work_in b image 0).program image (lane_of l0 (word_address c.args.at))
    (local_of (body_used b l0 p).local)) (ground_of b.local) b.counts b2.lane b2.local b2.counts done =
    subst (λ (x : ExecState). Serves image (next_outcome (program_of x.local.program) image (lane_of x.lane (word_address c.args.at)) (local_of x.local))
    (ground_of x.local) x.counts b2.lane b2.local b2.counts done) c.swap_lane.ensures.body c.serve-served.ensures in
    let before = seen_at (any_node b d) k l0 c.args.at b d ps in
    let local_is : local_of (body_used b l0 p).local ≡ before.local =
    λ t. record (local_of b.local) { reservation = reserved_is b b2 b3 d d3 ps l0 k p at low rest t } in
    let serves : Serves image (word_outcome (work_in b image 0) before) (ground_of b.local) b.counts b2.lane b2.local b2.counts done =
    subst (λ x. Serves image (next_outcome (work_in b image 0).program image (lane_of l0 (word_address c.args.at)) x)
    (ground_of b.local) b.counts b2.lane b2.local b2.counts done) local_is s in
    c.ask_all-asked.ensures.begun
    (word_unmet (work_in b image 0) before (local_of b2.local) (wants_by done.following) serves.local serves.wants)

pub returns-clause-me : goal.returns-clause-me
returns-clause-me c =
    let b = c.args.body.now in
    let d = c.args.protocol.now in
    let ps = c.args.places.now.items in
    let k = c.args.number in
    let l0 = c.args.lane.now in
    let p = c.index_mut.result.now in
    let b2 = c.serve-served.new.self in
    let b3 = c.ask_all-asked.new.body in
    let d3 = c.ask_all-asked.new.protocol in
    let at = c.index_mut.ensures.value in
    let low = c.requires.number in
    let rest = c.requires.rest in
    ap (λ (x : ProtocolState). x.directory.me) c.swap_lane-2.ensures.protocol ∙ ap (λ (x : Directory). x.me) c.ask_all-asked.ensures.directory
    ∙ ap (λ (x : ProtocolState). x.directory.me) c.swap_lane.ensures.protocol

pub returns-clause-ground : goal.returns-clause-ground
returns-clause-ground c =
    ap (λ (x : ExecState). ground_of x.local) c.swap_lane-2.ensures.body ∙ c.ask_all-asked.ensures.ground
    ∙ c.serve-served.ensures.ground_same ∙ ap (λ (x : ExecState). ground_of x.local) c.swap_lane.ensures.body

pub returns-clause-counts : goal.returns-clause-counts
returns-clause-counts c most below =
    let old = subst (λ (x : ExecState). AreCountsBelow most x.counts) (sym c.swap_lane.ensures.body) below in
    let served = served_below _ most c.swap_lane.new.body.counts c.serve-served.new.self.counts c.serve-served.ensures.counts_after old in
    let asked = c.ask_all-asked.ensures.counts (most + 1) served in
    subst (λ (x : ExecState). AreCountsBelow (most + 3) x.counts) (sym c.swap_lane-2.ensures.body)
    (counts_up (most + 1 + 2) (most + 3) c.ask_all-asked.new.body.counts (omega arith) asked)
