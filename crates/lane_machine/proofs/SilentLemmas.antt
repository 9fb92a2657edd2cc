-- A lane's word by its micro-op.
use Rattle.std.proofs.Common.{◌≡◌, ◌≢◌, ℕ, ◌+◌, ◌*◌, ◌<◌, true, false, cond, eqb, List, [], length, set, get_or, Option, Some, None, refl, sym, ap, ◌∙◌, subst, inl, inr, arith, length-set}
use Rattle.std.specs.Prelude.{is_some}
use Rattle.std.specs.Box.{with_value}
use Rattle.std.specs.Vec.{with_item}
use Rattle.std.specs.Option.{option_map_or}
use Rattle.std.proofs.lemmas.Bool.Decides.{eqb_tells, nat_tests}
use Rattle.block_layout.specs.Layout.{Shape, block_of}
use Rattle.llsc.specs.Reservation.{cleared}
use Rattle.rv32_program.specs.Program.{line_of}
use Rattle.exec_map.specs.Contents.{program_of}
use Rattle.lane_model.specs.node_model.jump_map.Image.{Cell}
use Rattle.lane_model.specs.node_model.declared.NodeCounts.{NodeCounts}
use Rattle.lane_model.specs.node_model.Node.{Node, WordOutcome, Running, can_execute, counts_after, next_outcome, stop_at, word_outcome}
use Rattle.lane_model.specs.node_model.Turns.{byes_to, is_ended}
use Rattle.node_machine.specs.node_words.declared.exec_state.ExecState.{ExecState}
use Rattle.node_machine.specs.node_words.declared.lane.ProcessorState as kept
use Rattle.node_machine.specs.node_words.declared.serve.Served.{Served}
use Rattle.node_machine.specs.node_words.declared.serve.Following.TheVariants as following_by
use Rattle.node_machine.specs.node_words.Address.{word_address}
use Rattle.node_machine.specs.node_words.node_memory.Shelf.{Shelf, Ground, ground_of, local_of}
use Rattle.node_machine.specs.node_words.Kept.{Follows, Serves, lane_of}
use Rattle.node_machine.specs.declared.phase.Phase.TheVariants as kept_phase
use Rattle.node_machine.specs.declared.protocol_state.ProtocolState.{ProtocolState}
use Rattle.node_machine.specs.NodeState.{layout_of, phase_of, AreCountsBelow}
use Rattle.node_machine.proofs.NodeStateLemmas.{counts_up}
use Rattle.node_machine.proofs.WaitLemmas.{none_waits}
use Rattle.lane_model.specs.Nodes.{LaneNode, LanePart}
use Rattle.lane_model.specs.Turns.{word_turn}
use Rattle.lane_machine.specs.declared.lane_protocol.LaneProtocol.{LaneProtocol}
use Rattle.lane_machine.specs.declared.stored.StoredLane.{StoredLane}
use Rattle.lane_machine.specs.declared.stored.StoredShared.{StoredShared}
use Rattle.lane_machine.specs.Waits.{wait_among, place_among, waits_in}
use Rattle.lane_machine.specs.Words.{stored_by, reserved_after}
use Rattle.lane_machine.specs.Places.{in_use, pools_in, reserved_in, wait_at}
use Rattle.lane_machine.specs.Stored.{HasLane, IsAtRest, IsLane, IsShared, ended_in, lane_turn, part_of, seen_at, served, with_lane, word_asks, work_in, work_of}
use Rattle.lane_machine.specs.ProtocolStates.{asked_by}
use Rattle.lane_machine.proofs.ClearLemmas.{reserved_there, same_pools, same_waits}
use Rattle.lane_machine.proofs.ExecLemmas.{ending_is, going_on, stored_node, turn_is}
use Rattle.lane_machine.proofs.HoldLemmas.{rest_same}
use Rattle.lane_machine.proofs.WordLemmas.{apart_used, awaits_is, back_all, idle_is, protocol_used, word_is}

-- 1. As the path that serves every word says it

abbrev pub goes_on_at : ℕ → Served
goes_on_at k = record { at = k; following = following_by.GoesOn; output = None }

serves_by : (image : List Cell) (o : WordOutcome) (g : Ground) (c : NodeCounts) (k : ℕ) (l : kept.ProcessorState) (s : Shelf)
    → Follows image o g (word_address k) l s → Serves image o g c l s c (goes_on_at k)
serves_by image o g c k l s f = record {
  lane = f.lane;
  local = f.local;
  ground_same = f.ground_same;
  output = sym f.output;
  counts_after = ap (λ t. counts_after t c) (sym f.tally);
  phase = λ budget executed. sym (f.phase budget executed);
  wants = sym f.wants;
}

runs_on : (budget executed : ℕ) → executed ≢ budget → stop_at budget executed ≡ Running
runs_on budget executed apart = elim (eqb_tells executed budget) [
  | inl e ↦ absurd (apart e.1)
  | inr e ↦ rw e.0 refl
]

-- a store ends no reservation where there is none
no_reservation : (l : Shape) (s : Option ℕ) → reserved_after l s None ≡ None
no_reservation l None = refl
no_reservation l (Some a) = go (block_of l (line_of a))
  where
    go : (o : Option ℕ) → option_map_or (λ b. cleared l b None) o None ≡ None
    go None = refl
    go (Some b) = refl

-- 2. The node after it

module _ (l : StoredLane) (f : StoredShared) (p q : LaneProtocol) (lane' : kept.ProcessorState) (b' : ExecState) (next : ℕ)
    (at : p ≡ get_or f.places.items l.number p) (low : l.number < length f.places.items)
    (steps : Follows l.state.image.now (next_outcome (program_of f.state.body.value.local.program) l.state.image.now
    (lane_of l.lane (word_address l.state.at)) (local_of (in_use f.state.body.value l.lane p).local))
    (ground_of f.state.body.value.local) (word_address next) lane' (in_use b' lane' q).local)
    (reservation : b'.local.reservation ≡ f.state.body.value.local.reservation)
    (counts : b'.counts ≡ f.state.body.value.counts) (place : q ≡ record p { reservation = q.reservation }) where
  abbrev b : ExecState
  b = f.state.body.value

  abbrev d : ProtocolState
  d = f.state.protocol

  abbrev ps : List LaneProtocol
  ps = f.places.items

  abbrev k : ℕ
  k = l.number

  abbrev n : Node
  n = stored_node l f

  -- what they store then
  abbrev pub lane_then : StoredLane
  lane_then = record {
    state = record l.state { at = next; executed = l.state.executed + 1; phase = kept_phase.Running };
    number = l.number;
    lane = lane';
    awaits = record { first = None; other = None };
    again = false;
  }

  abbrev pub shared_then : StoredShared
  shared_then = record f {
    state = record f.state { body = with_value f.state.body b'; stamp = f.state.stamp + 1 };
    places = with_item f.places k q;
  }

  pub same_ground : ground_of b'.local ≡ ground_of b.local
  same_ground = steps.ground_same

  same_layout : layout_of b' ≡ layout_of b
  same_layout = ap (λ (g : Ground). g.layout) same_ground

  pub waits_then : waits_in (set ps k q) ≡ waits_in ps
  waits_then = ap (λ z. waits_in (set ps k z)) place ∙ same_waits ps k p at low q.reservation

  pools_then : pools_in (set ps k q) ≡ pools_in ps
  pools_then = ap (λ z. pools_in (set ps k z)) place ∙ same_pools ps k p at low q.reservation

  others_then : (j : ℕ) → (j ≡ k → ⊥) → reserved_in (set ps k q) j ≡ reserved_in ps j
  others_then j apart = ap (λ z. reserved_in (set ps k z) j) place ∙ reserved_there ps k p at low q.reservation j apart

  pub lane_is : IsLane l → l.state.executed + 1 < l.state.budget → IsLane lane_then
  lane_is is below = record {
    state = record {
      within = omega (arith, below);
      going = λ may. below;
      range = is.state.range;
      short = is.state.short;
    };
    awaits = refl;
  }

  pub shared_is : IsShared f → IsShared shared_then
  shared_is is =
      let many = length-set ps k q in
      let some = is.some in
      let few = is.few in
      record {
        rest = subst (λ s. IsAtRest s d (set ps k q)) (sym same_layout) (rest_same (layout_of b) d ps (set ps k q) waits_then pools_then is.rest);
        layout = is.layout ∙ sym same_layout;
        some = omega (arith, many, some);
        few = omega (arith, many, few);
        noted = is.noted;
        counts = counts_up (32 * f.state.stamp) (32 * (f.state.stamp + 1)) b'.counts (omega arith)
            (subst (AreCountsBelow (32 * f.state.stamp)) (sym counts) is.counts);
      }

  module _ (is : IsShared f) (idle : (x : ℕ) → wait_at ps k x ≡ None) where
    serves : Serves l.state.image.now (next_outcome (program_of b.local.program) l.state.image.now
        (lane_of l.lane (word_address l.state.at)) (local_of (in_use b l.lane p).local))
        (ground_of b.local) b.counts lane' (in_use b' lane' q).local b'.counts (goes_on_at next)
    serves = subst (λ c. Serves l.state.image.now (next_outcome (program_of b.local.program) l.state.image.now
        (lane_of l.lane (word_address l.state.at)) (local_of (in_use b l.lane p).local))
        (ground_of b.local) b.counts lane' (in_use b' lane' q).local c (goes_on_at next)) (sym counts)
        (serves_by l.state.image.now _ (ground_of b.local) b.counts next lane' (in_use b' lane' q).local steps)

    asks : word_asks (work_in b l.state.image.now l.state.budget) (seen_at n k l.lane l.state.at b d ps)
        ≡ asked_by (served (seen_at n k lane' next b' d (set ps k q)) l.state.budget (goes_on_at next)) [] None false
    asks =
        let b2 = in_use b' lane' q in
        let d2 = protocol_used d p in
        let used = apart_used b b2 b2 d d2 ps l.lane k p at low is.rest in
        let none = idle_is b b2 b2 d d2 ps l.lane k p at low is.rest idle in
        let waits = back_all b b2 b2 d d2 ps l.lane k p at low is.rest used (λ x. none_waits p.waits.waits none x) in
        word_is b b2 b2 d d2 ps l.lane k p at low is.rest l.state.image.now l.state.budget l.state.at (goes_on_at next) [] false n
        serves (λ m o. refl) refl b' (λ t. record b'.local { reservation = reservation t }) refl d refl (set ps k q)
        (ap (set ps k) place) waits

    pub silent_turn : (x : LaneNode) → HasLane l f x → can_execute (phase_of l.state.phase) ≡ true → f.ended < length ps
        → l.state.executed + 1 < l.state.budget → ((j : ℕ) → j ≢ k → reserved_in ps j ≡ None)
        → (word_turn (work_of l f) x k ≡ lane_turn (with_lane x lane_then shared_then) [] None)
        × HasLane lane_then shared_then (with_lane x lane_then shared_then)
    silent_turn x h may lower below free =
        let done = goes_on_at next in
        let qs = set ps k q in
        let b2 = in_use b' lane' q in
        let d2 = protocol_used d p in
        let work = work_in b l.state.image.now l.state.budget in
        let before = seen_at n k l.lane l.state.at b d ps in
        let stored = stored_by (word_outcome work before).access in
        let wait = wait_among (waits_in qs) in
        let awaits = awaits_is b b2 b2 d d2 ps l.lane k p at low is.rest l.state.image.now l.state.budget l.state.at done [] false n
        serves (λ m o. refl) refl [] wait wait refl refl in
        let holders : (y : ℕ) → is_some (wait y) ≡ true → place_among (waits_in qs) y
        ≡ cond (is_some (wait_among (waits_in ps) y)) (place_among (waits_in ps) y) k =
        λ y there. ap (λ z. place_among z y) waits_then
        ∙ sym (ap (λ t. cond t (place_among (waits_in ps) y) k) (ap (λ z. is_some (wait_among z y)) (sym waits_then) ∙ there)) in
        let ends : (j : ℕ) → reserved_in qs j
        ≡ cond (eqb j k) (reserved_in qs j) (reserved_after (layout_of b) stored (reserved_in qs j)) =
        λ j. elim (eqb_tells j k) [
          | inl e ↦ rw e.0 refl
          | inr e ↦ (let none : reserved_in qs j ≡ None = others_then j e.1 ∙ free j e.1 in
              rw e.0 (none ∙ sym (ap (reserved_after (layout_of b) stored) none ∙ no_reservation (layout_of b) stored)))
        ] in
        let apart : l.state.executed + 1 ≢ l.state.budget = λ e. omega (arith, e, below) in
        let part : part_of lane_then ≡ record (part_of lane_then) { phase = stop_at l.state.budget (l.state.executed + 1) } =
        λ t. record (part_of lane_then) { phase = sym (runs_on l.state.budget (l.state.executed + 1) apart) t } in
        let turn = turn_is l lane_then f shared_then x h lane' b' d qs done false [] stored asks awaits refl holders others_then ends refl part
        refl refl refl refl refl refl refl in
        let going = ap (λ (z : LanePart). is_ended z.phase) h.lane ∙ going_on (phase_of l.state.phase) may in
        let both = ending_is l lane_then f shared_then x h lane' b' d qs done false [] stored (with_lane x lane_then shared_then)
        low lower going refl turn refl in
        let not_all : eqb f.ended (length ps) ≡ false = (let o = lower in grind (arith, nat_tests)) in
        let here : cond (eqb k k) (part_of lane_then) (x.lanes k) ≡ part_of lane_then =
        (let t : eqb k k ≡ true = grind (arith, nat_tests) in rw t refl) in (
          both.0 ∙ ap (λ t. lane_turn (with_lane x lane_then shared_then) (cond t (byes_to (layout_of b).nodes) []) None) not_all,
          record {
            lane = here;
            shared = refl;
            ended = both.1 ∙ ap (ended_in (with_lane x lane_then shared_then)) (sym (length-set ps k q));
          },
        )
