-- Turns of nodes of which lanes are in use.
use Rattle.std.proofs.Common.{◌≡◌, ℕ, zero, suc, ◌+◌, ◌^◌, ◌<◌, ◌≤◌, Bool, true, false, List, [], ◌∷◌, length, get_or, set, map, Option, None, Some, replicate, refl, sym, ap, ◌∙◌, subst, inl, inr, length-set, arith}
use Rattle.std.proofs.lemmas.List.{get_or_default, get_or-set_same, get_or-set_other, set-get_or}
use Rattle.std.proofs.lemmas.Bool.Decides.{eqb_tells}
use Rattle.random_order.specs.Orders.{following}
use Rattle.lane_model.specs.node_model.Core.{may_execute}
use Rattle.lane_model.specs.Nodes.{LaneNode, LaneWork, lane_of, node_of, opening_node}
use Rattle.lane_model.specs.Core.{Exec, LaneEvent, May, standing_of}
use Rattle.lane_law.specs.dsm_protocol.Queue.{Queue, wires_of}
use Rattle.smp_sim.specs.declared.cores.SmpEvent.{SmpEvent as Stored}
use Rattle.lane_machine.specs.declared.node.SmpNode.{SmpNode}
use Rattle.lane_machine.specs.declared.work.SmpWork.{SmpWork}
use Rattle.lane_machine.specs.SmpNodes.{IsNode, lane_work, node_in}
use Rattle.smp_sim.specs.CoreParts.{AreStored, CoreParts, IsCore, IsRunTo, core_of, core_with, event_of, parts_of}
use Rattle.smp_sim.specs.ByOrder.{choices, pick_among}
use Rattle.lane_machine.specs.SmpNodes.{CanExecute}
use Rattle.smp_sim.specs.CoreSteps.{IsShut}
use Rattle.lane_machine.specs.SmpNodesInUse.{HasTurned, MayTurn, RestsAs}
use Rattle.smp_sim.specs.InUse.{AreAtRest, AreSameNodes, HaveRests, HaveTurned, MayTurnOn}
use Rattle.smp_sim.specs.Turns.{LeadsOn, StopsAt}
use Rattle.smp_sim.proofs.CoreRuns.{lane_low, placed}
use Rattle.smp_sim.proofs.CoreSteps.{can_execute_by, core_same, read_at}
use Rattle.lane_machine.proofs.NodesInUse.{same_in, same_is}
use Rattle.lane_machine.proofs.NodeLemmas.{by_answer}
use Rattle.smp_sim.proofs.Promised.{AreShort, in_range, is_kept, run_same}
use Rattle.smp_sim.proofs.Silent.{silent_choices}
use Rattle.smp_sim.proofs.SilentCore.{core_kept, core_then, event_then, run_on, silent_then}
use Rattle.smp_sim.proofs.Turns.{fewer_turns, leads_more, picked_may}

-- 1. One turn

rests_by : (a b : SmpNode) (o q : Option ℕ) (c d : SmpNode) → a ≡ b → o ≡ q → c ≡ d
    → RestsAs a o c → RestsAs b q d
rests_by a b o q c d e f g r = subst (λ (z : SmpNode). RestsAs b q z) g
    (subst (λ (z : Option ℕ). RestsAs b z c) f (subst (λ (z : SmpNode). RestsAs z o c) e r))

pub a_node : (xs : List SmpNode) (i : ℕ) → i < length xs → SmpNode
a_node xs i low = get_or xs i (first xs low)
  where
    first : (xs : List SmpNode) → i < length xs → SmpNode
    first [] low = absurd (omega (arith, low))
    first (x ∷ xs) low = x

-- what a node rests as that wasn't put back yet
pub put_back_at : (xs0 xs : List SmpNode) (used0 used : List (Option ℕ)) (k : ℕ)
    (ys : List SmpNode) → k < length xs0
    → ((i : ℕ) (x : SmpNode) → k ≤ i → get_or xs i x ≡ get_or xs0 i x)
    → ((i : ℕ) → k ≤ i → get_or used i None ≡ get_or used0 i None) → HaveRests xs0 used0 ys
    → (x : SmpNode) → x ≡ get_or xs k x → (b : SmpNode)
    → RestsAs x (get_or used k None) (get_or ys k b)
put_back_at xs0 xs used0 used k ys low left used_left rests x at b =
    rests_by (get_or xs0 k x) x (get_or used0 k None) (get_or used k None) (get_or ys k b)
    (get_or ys k b) (sym (at ∙ left k x (omega arith))) (sym (used_left k (omega arith))) refl
    (rests k x b low)

module _ (w : SmpWork) (lists : List Queue) (ys : List SmpNode) (out : List ℕ) (r : ℕ)
    (xs : List SmpNode) (used : List (Option ℕ))
    (rest : AreAtRest w.layout.now.nodes lists xs used ys)
    (core : IsCore (parts_of w ys lists out))
    (may : May (lane_work w) (core_with (lane_work w) ys lists) (Exec r)) where
  abbrev v : LaneWork
  v = lane_work w

  abbrev p : CoreParts
  p = parts_of w ys lists out

  abbrev i : ℕ
  i = node_of v r

  abbrev k : ℕ
  k = lane_of v r

  pub low_node : i < w.layout.now.nodes
  low_node = placed v r core.work.some may.0

  pub low_ys : i < length ys
  low_ys = subst (λ z. i < z) (sym core.stored.count) low_node

  pub low_xs : i < length xs
  low_xs = subst (λ z. i < z) rest.count low_ys

  pub long : length used ≡ 16 → i < length used
  long many =
      let a = core.stored.queues.few in
      let b = low_node in
      omega (arith, a, b, many)

  abbrev pub y : SmpNode
  y = get_or ys i (a_node ys i low_ys)

  at : y ≡ get_or ys i y
  at = get_or_default ys i (a_node ys i low_ys) y low_ys

  is : IsNode v y
  is = core.stored.each i (a_node ys i low_ys) low_ys

  there : (core_of p).nodes i ≡ node_in v i y
  there = read_at (node_in v i) ys i y (opening_node v i) low_ys at

  pub rests_at : (x : SmpNode) → x ≡ get_or xs i x → RestsAs x (get_or used i None) y
  rests_at x here = subst (λ (z : SmpNode). RestsAs z (get_or used i None) y) (sym here)
      (rest.each i x (a_node ys i low_ys) low_xs)

  pub may_turn : AreShort → (x : SmpNode) → x ≡ get_or xs i x → MayTurn x (get_or used i None) k
  may_turn law x here =
      let range = in_range p law core in
      let low = subst (λ (z : LaneNode). z.shared.stamp ≤ range.0) there (range.2.nodes i low_node) in
      let most = range.1 in
      let below = lane_low v r core.work.some in
      record {
        work = v;
        rest = y;
        rests = rests_at x here;
        is_node = is;
        low = below;
        may = can_execute_by v i k y (subst (λ z. k < z) (sym is.lanes.count) below)
            (subst (λ (z : LaneNode). may_execute (standing_of v z k) ≡ true) there may.1);
        stamp = omega (arith, low, most);
      }

  -- no message is on its way, where a lane is in use or that was found
  pub no_mail : (get_or used i None ≡ None → (j : ℕ) → j < w.layout.now.nodes
      → wires_of lists w.layout.now.nodes j i ≡ [])
      → (j : ℕ) → j < w.layout.now.nodes → wires_of lists w.layout.now.nodes j i ≡ []
  no_mail quiet j low = go (get_or used i None) refl
    where
      go : (o : Option ℕ) → get_or used i None ≡ o → wires_of lists w.layout.now.nodes j i ≡ []
      go None e = quiet e j low
      go (Some b) e = rest.quiet i j low_node low (λ none. absurd (let bad = sym e ∙ none in cc))

  -- where it has none
  pub turned_not : HaveTurned w lists ys out (Exec r) false xs used
  turned_not = record {
    rests = ys;
    at_rest = rest;
    core = core;
    listed = refl;
    made = λ yes. absurd (cc);
    kept = λ no run to. to;
  }

  module _ (done : Bool) (x2 : SmpNode) (u2 : Option ℕ) (t : HasTurned y k done x2 u2)
      (long : i < length used)
      (quiet : (u2 ≡ None → ⊥) → (j : ℕ) → j < w.layout.now.nodes
      → wires_of lists w.layout.now.nodes j i ≡ [])
      (shut : (j : ℕ) → j < w.layout.now.nodes
      → IsShut v (node_in v i y) k (wires_of lists w.layout.now.nodes j i)) where
    abbrev z : SmpNode
    z = t.rest

    abbrev zs : List SmpNode
    zs = set ys i z

    rests_on : HaveRests (set xs i x2) (set used i u2) zs
    rests_on j x e low = elim (eqb_tells j i) [
      | inl q ↦ subst (λ n. RestsAs (get_or (set xs i x2) n x) (get_or (set used i u2) n None)
          (get_or zs n e)) (sym q.1)
          (rests_by x2 (get_or (set xs i x2) i x) u2 (get_or (set used i u2) i None) z
          (get_or zs i e) (sym (get_or-set_same xs i x2 x low_xs))
          (sym (get_or-set_same used i u2 None long)) (sym (get_or-set_same ys i z e low_ys))
          t.rests)
      | inr q ↦ rests_by (get_or xs j x) (get_or (set xs i x2) j x) (get_or used j None)
          (get_or (set used i u2) j None) (get_or ys j e) (get_or zs j e)
          (sym (get_or-set_other xs i j x2 x q.1)) (sym (get_or-set_other used i j u2 None q.1))
          (sym (get_or-set_other ys i j z e q.1))
          (rest.each j x e (subst (λ n. j < n) (length-set xs i x2) low))
    ]

    pub turned_on : HaveTurned w lists ys out (Exec r) done (set xs i x2) (set used i u2)
    turned_on = record {
      rests = zs;
      at_rest = record {
        count = length-set ys i z ∙ rest.count ∙ sym (length-set xs i x2);
        each = rests_on;
        quiet = λ a j low below some. elim (eqb_tells a i) [
          | inl q ↦ ap (λ n. wires_of lists w.layout.now.nodes j n) q.1
              ∙ quiet (λ none. some (ap (λ n. get_or (set used i u2) n None) q.1
              ∙ get_or-set_same used i u2 None long ∙ none)) j below
          | inr q ↦ rest.quiet a j low below
              (λ none. some (get_or-set_other used i a u2 None q.1 ∙ none))
        ];
      };
      core = core_then p r y z done core may at t.node t.turn t.may t.stamps t.same;
      listed = by_answer done
          (λ yes. silent_choices v (core_of p) r core.work.some may
          (silent_then p r y z done core may at t.node t.turn t.may t.stamps t.same yes)
          (core_of (parts_of w zs lists out))
          (event_then p r y z done core may at t.node t.turn t.may t.stamps t.same yes)
          (λ j low. subst (λ (n : LaneNode). IsShut v n k (wires_of lists w.layout.now.nodes j i))
          (sym there) (shut j low))) (λ no. ap (choices v)
          (core_kept p r y z done core may at t.node t.turn t.may t.stamps t.same no));
      made = run_on p r y z done core may at t.node t.turn t.may t.stamps t.same;
      kept = λ no. run_same p (parts_of w zs lists out) refl
          (core_kept p r y z done core may at t.node t.turn t.may t.stamps t.same no) refl;
    }

  -- where no lane of the node is in use
  module _ (x : SmpNode) (here : x ≡ get_or xs i x) (none : get_or used i None ≡ None) where
    rests_none : y ≡ x
    rests_none = subst (λ (o : Option ℕ). RestsAs x o y) none (rests_at x here)

    pub is_none : IsNode v x
    is_none = subst (IsNode v) rests_none is

    pub may_none : AreShort → CanExecute x k × (x.shared.state.stamp < 2 ^ 56)
    unfolding may_turn
    may_none law =
        let m = may_turn law x here in (
          subst (λ z. CanExecute z k) rests_none m.may,
          subst (λ (z : SmpNode). z.shared.state.stamp < 2 ^ 56) rests_none m.stamp,
        )

    abbrev pub ShutTo : SmpNode → Type 0
    ShutTo z = (j : ℕ) → j < w.layout.now.nodes
        → IsShut v (node_in v i z) k (wires_of lists w.layout.now.nodes j i)

    pub shut_rest : ShutTo x → ShutTo y
    shut_rest = subst ShutTo (sym rests_none)

    -- and none stays so
    pub turned_shut : (done : Bool) (x2 : SmpNode) → i < length used → HasTurned x k done x2 None
        → ShutTo y → HaveTurned w lists ys out (Exec r) done (set xs i x2) used
    turned_shut done x2 long t shut = subst (HaveTurned w lists ys out (Exec r) done (set xs i x2))
        (ap (set used i) (sym none) ∙ set-get_or used i None)
        (turned_on done x2 None (subst (λ z. HasTurned z k done x2 None) (sym rests_none) t) long
        (λ some. absurd (some refl)) shut)

-- 2. All lanes are put back

maps_same : {A : Type 0} (f : SmpNode → A) (xs ys : List SmpNode) → length ys ≡ length xs
    → ((j : ℕ) (a b : SmpNode) → j < length xs → f (get_or ys j b) ≡ f (get_or xs j a))
    → map f ys ≡ map f xs
maps_same f [] [] many same = refl
maps_same f [] (y ∷ ys) many same = absurd (cc)
maps_same f (x ∷ xs) [] many same = absurd (cc)
maps_same f (x ∷ xs) (y ∷ ys) many same =
    let first = same 0 x x (omega arith) in
    let rest = maps_same f xs ys (omega (arith, many))
    (λ j a b low. same (suc j) a b (omega (arith, low))) in
    λ t. first t ∷ rest t

module _ (w : SmpWork) (lists : List Queue) (xs ys : List SmpNode) (out : List ℕ)
    (same : AreSameNodes xs ys) (core : IsCore (parts_of w xs lists out)) where
  pub same_core : core_with (lane_work w) ys lists ≡ core_with (lane_work w) xs lists
  same_core = core_same (lane_work w) xs ys lists lists
      (λ k. maps_same (node_in (lane_work w) k) xs ys same.count (λ j a b low.
      same_in (lane_work w) k (get_or xs j a) (get_or ys j b) (same.each j a b low)))
      (λ j i bj bi. refl)

  same_stored : AreStored (lane_work w) ys lists
  same_stored = record {
    count = same.count ∙ core.stored.count;
    queues = core.stored.queues;
    each = λ i d low.
        let below : i < length xs = subst (λ z. i < z) same.count low in
        same_is (lane_work w) (get_or xs i d) (get_or ys i d) (same.each i d d below)
        (core.stored.each i d below);
  }

  pub put_back_core : IsCore (parts_of w ys lists out)
  put_back_core = is_kept (parts_of w xs lists out) ys lists out core same_stored
      (record { core = same_core; output = refl })

  pub put_back_run : (run : List LaneEvent) → IsRunTo run (parts_of w xs lists out)
      → IsRunTo run (parts_of w ys lists out)
  put_back_run = run_same (parts_of w xs lists out) (parts_of w ys lists out) refl same_core refl

-- 3. Turns, one after another

-- with the lanes in use put back, nodes and lists are a core to which turns have led
pub record AreOnTheWay (w : SmpWork) (lists : List Queue) (start : List SmpNode) (out : List ℕ)
    (events : List Stored) (turns first last : ℕ) (xs : List SmpNode) (used : List (Option ℕ))
    : Type 0 where
  pub rests : List SmpNode
  pub at_rest : AreAtRest w.layout.now.nodes lists xs used rests
  pub core : IsCore (parts_of w rests lists out)
  pub listed : map event_of events ≡ choices (lane_work w) (core_with (lane_work w) rests lists)
  pub leads : LeadsOn turns first (parts_of w start lists out) last (parts_of w rests lists out)

abbrev no_lane : Option ℕ
no_lane = None

none_used : (n i : ℕ) → get_or (replicate n no_lane) i no_lane ≡ no_lane
none_used zero i = refl
none_used (suc n) zero = refl
none_used (suc n) (suc i) = none_used n i

pub leads_still : (number : ℕ) (p : CoreParts) → LeadsOn 0 number p number p
leads_still number p first turns to = fewer_turns first turns (turns + 0) number p (omega arith) to

pub on_the_way_first : (w : SmpWork) (lists : List Queue) (xs : List SmpNode) (out : List ℕ)
    (events : List Stored) (number : ℕ) (used : List (Option ℕ)) → used ≡ replicate 16 no_lane
    → IsCore (parts_of w xs lists out)
    → map event_of events ≡ choices (lane_work w) (core_with (lane_work w) xs lists)
    → AreOnTheWay w lists xs out events 0 number number xs used
on_the_way_first w lists xs out events number used is core listed = record {
  rests = xs;
  at_rest = record {
    count = refl;
    each = λ i x y low. subst (λ (o : Option ℕ). RestsAs (get_or xs i x) o (get_or xs i y))
        (sym (none i)) (get_or_default xs i y x low);
    quiet = λ i j low below some. absurd (some (none i));
  };
  core = core;
  listed = listed;
  leads = leads_still number (parts_of w xs lists out);
}
  where
    none : (i : ℕ) → get_or used i None ≡ None
    none i = ap (λ us. get_or us i None) is ∙ none_used 16 i

module _ (w : SmpWork) (lists : List Queue) (start : List SmpNode) (out : List ℕ)
    (events : List Stored) (turns first last : ℕ) (xs : List SmpNode) (used : List (Option ℕ))
    (way : AreOnTheWay w lists start out events turns first last xs used) (e : LaneEvent)
    (next : ℕ) (follows : next ≡ following last)
    (picked : pick_among (map event_of events) (following last) ≡ Some e) where
  picked_there : pick_among (choices (lane_work w) (core_with (lane_work w) way.rests lists))
      (following last) ≡ Some e
  picked_there = ap (λ es. pick_among es (following last)) (sym way.listed) ∙ picked

  pub may_there : May (lane_work w) (core_with (lane_work w) way.rests lists) e
  may_there = picked_may (lane_work w) (core_with (lane_work w) way.rests lists) (following last) e
      picked_there

  pub may_turn_there : MayTurnOn w lists xs used e
  may_turn_there = record {
    rests = way.rests;
    output = out;
    at_rest = way.at_rest;
    core = way.core;
    may = may_there;
  }

  module _ (done : Bool) (xs2 : List SmpNode) (used2 : List (Option ℕ))
      (t : HaveTurned w lists way.rests out e done xs2 used2) where
    pub goes_on_way : done ≡ true
        → AreOnTheWay w lists start out events (turns + 1) first next xs2 used2
    goes_on_way served = record {
      rests = t.rests;
      at_rest = t.at_rest;
      core = t.core;
      listed = way.listed ∙ sym t.listed;
      leads = λ a b to. fewer_turns a (b + turns + 1) (b + (turns + 1)) next
          (parts_of w t.rests lists out) (omega arith)
          (leads_more a (b + turns) last next (parts_of w way.rests lists out)
          (parts_of w t.rests lists out) e way.core.work.some refl picked_there follows
          (t.made served) (way.leads a b to));
    }

    -- it stops where the event isn't made
    module _ (ys : List SmpNode) (same : AreSameNodes t.rests ys) (undone : done ≡ false) where
      pub stopped_listed : map event_of events
          ≡ choices (lane_work w) (core_with (lane_work w) ys lists)
      stopped_listed = way.listed ∙ sym t.listed
          ∙ ap (choices (lane_work w)) (sym (same_core w lists t.rests ys out same t.core))

      pub stopped : StopsAt first (parts_of w start lists out) next (parts_of w ys lists out) e
      stopped = record {
        last = last;
        leads = λ a b to.
            let there = way.leads a b to in
            let many = there.many in
            record {
              events = there.events;
              many = omega (arith, many);
              picked = there.picked;
              numbers = there.numbers;
              run = put_back_run w lists t.rests ys out same t.core there.events
                  (t.kept undone there.events there.run);
            };
        follows = follows;
        picked = ap (λ es. pick_among es next) (sym stopped_listed)
            ∙ ap (pick_among (map event_of events)) follows ∙ picked;
      }

-- after many turns
module _ (w : SmpWork) (lists : List Queue) (start : List SmpNode) (out : List ℕ)
    (events : List Stored) (turns first last : ℕ) (xs : List SmpNode) (used : List (Option ℕ))
    (way : AreOnTheWay w lists start out events turns first last xs used) (some : 1 ≤ turns)
    (ys : List SmpNode) (same : AreSameNodes way.rests ys) where
  pub ended_listed : map event_of events ≡ choices (lane_work w) (core_with (lane_work w) ys lists)
  ended_listed = way.listed
      ∙ ap (choices (lane_work w)) (sym (same_core w lists way.rests ys out same way.core))

  pub ended_leads : LeadsOn 1 first (parts_of w start lists out) last (parts_of w ys lists out)
  ended_leads a b to =
      let there = way.leads a b to in
      let many = there.many in
      record {
        events = there.events;
        many = omega (arith, many, some);
        picked = there.picked;
        numbers = there.numbers;
        run = put_back_run w lists way.rests ys out same way.core there.events there.run;
      }
