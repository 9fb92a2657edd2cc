-- A node of which a lane is in use.
use Rattle.std.proofs.Common.{◌≡◌, ℕ, ◌+◌, ◌^◌, ◌<◌, Bool, true, false, [], length, get_or, set, Option, None, Some, refl, sym, ap, ◌∙◌, subst, length-set, arith}
use Rattle.std.proofs.lemmas.List.{get_or_default, get_or-set_same, set-set}
use Rattle.std.specs.Prelude.{is_some}
use Rattle.std.specs.Global.{Vec}
use Rattle.std.specs.Vec.{with_item}
use Rattle.lane_model.specs.node_model.Node.{can_execute}
use Rattle.lane_model.specs.Nodes.{LaneNode, LaneWork, Shared}
use Rattle.lane_model.specs.Turns.{LaneTurn, word_turn}
use Rattle.lane_machine.specs.declared.lane_protocol.LaneProtocol.{LaneProtocol}
use Rattle.lane_machine.specs.declared.stored.StoredLane.{StoredLane}
use Rattle.lane_machine.specs.declared.stored.StoredShared.{StoredShared}
use Rattle.lane_machine.specs.Waits.{wait_among, waits_in}
use Rattle.lane_machine.specs.Places.{reserved_in, wait_at}
use Rattle.lane_machine.specs.Stored.{HasLane, IsHeld, WaitsFor, lane_turn, part_of, with_lane, work_of}
use Rattle.lane_machine.specs.InUse.{ArePutBack, IsAlone}
use Rattle.lane_machine.proofs.HoldLemmas.{wait_at_same}
use Rattle.lane_machine.proofs.InUseLemmas as stored
use Rattle.lane_machine.proofs.InUseLemmas.{back_ended, back_held, back_long, back_number, back_stamp, back_waits, back_waits_for, back_work, lane_same, same_itself, shared_same}
use Rattle.lane_machine.specs.declared.node.SmpNode.{SmpNode}
use Rattle.lane_machine.specs.SmpNodes.{IsNode, node_in}
use Rattle.lane_machine.specs.SmpNodes.{CanExecute}
use Rattle.lane_machine.specs.SmpNodesInUse.{HasTurned, IsInUse, IsSameNode, IsPutBack, MayTurn, RestsAs}
use Rattle.lane_machine.proofs.NodeLemmas.{by_answer, goes_on, has_lane, may_at, node_then, same_parts, same_view, turn_after, waits_for_none}

-- 1. The same node

pub same_is : (w : LaneWork) (x y : SmpNode) → IsSameNode x y → IsNode w x → IsNode w y
same_is w x y s is = same_parts w x y s.lanes s.shared is

pub same_in : (w : LaneWork) (i : ℕ) (x y : SmpNode) → IsSameNode x y → node_in w i y ≡ node_in w i x
same_in w i x y s = same_view w i x y s.lanes s.shared.shared

pub same_can : (x y : SmpNode) (k : ℕ) → IsSameNode x y → CanExecute x k → CanExecute y k
same_can x y k s may d = ap (λ ls. can_execute (part_of (get_or ls k d)).phase) s.lanes ∙ may d

pub same_stamp : (x y : SmpNode) → IsSameNode x y → y.shared.state.stamp ≡ x.shared.state.stamp
same_stamp x y s = ap (λ (f : Shared). f.stamp) s.shared.shared

pub same_node_itself : (x : SmpNode) → IsSameNode x x
same_node_itself x = record { lanes = refl; shared = same_itself x.shared }

-- 2. A node of which a lane is put back

module _ (x : SmpNode) (k : ℕ) (y : SmpNode) (s : IsPutBack x k y) (low : k < length x.lanes.items) where
  pub lanes_long : length y.lanes.items ≡ length x.lanes.items
  lanes_long = ap length s.lanes ∙ length-set x.lanes.items k s.after

  pub after_at : (d : StoredLane) → get_or y.lanes.items k d ≡ s.after
  after_at d = ap (λ z. get_or z k d) s.lanes ∙ get_or-set_same x.lanes.items k s.after d low

  low_after : k < length y.lanes.items
  low_after = let a = lanes_long in omega (arith, a, low)

  pub number_same : s.after.number ≡ s.before.number
  number_same = ap (λ (z : StoredLane). z.number) s.put_back.lane

  places_same : length y.shared.places.items ≡ length x.shared.places.items
  places_same = ap length s.put_back.places ∙ length-set x.shared.places.items s.before.number _

  -- what else it is put back as is the same
  module _ (place : s.before.number < length x.shared.places.items) (z : SmpNode)
      (t : IsPutBack x k z) where
    before_same : t.before ≡ s.before
    before_same = t.is_before ∙ get_or_default x.lanes.items k t.before s.before low
        ∙ sym s.is_before

    pub put_back_by : IsSameNode y z
    put_back_by = record {
      lanes = t.lanes ∙ ap (set x.lanes.items k) (lane_same s.before x.shared s.after y.shared
          t.before x.shared t.after z.shared s.put_back t.put_back place before_same refl)
          ∙ sym s.lanes;
      shared = shared_same s.before x.shared s.after y.shared t.before x.shared t.after z.shared
          s.put_back t.put_back place before_same refl;
    }

  module _ (w : LaneWork) (is : IsNode w y) where
    pub number_is : s.before.number ≡ k
    number_is = sym number_same ∙ ap (λ (z : StoredLane). z.number) (sym (after_at s.after))
        ∙ (is.lanes.each k s.after low_after).number

    pub low_before : s.before.number < length x.shared.places.items
    low_before =
        let number = number_is in
        let a = lanes_long in
        let b = is.lanes.count in
        let c = is.lanes.places in
        let d = places_same in
        omega (arith, number, a, b, c, d, low)

    pub put_back_same : (z : SmpNode) (t : IsPutBack x k z) → IsSameNode y z
    put_back_same = put_back_by low_before

-- a lane by its number, and the place that the node keeps for it
pub number_low : (w : LaneWork) (x : SmpNode) (k : ℕ) (l : StoredLane) → IsNode w x
    → k < length x.lanes.items → l ≡ get_or x.lanes.items k l → l.number < length x.shared.places.items
number_low w x k l is low at =
    let number = ap (λ (z : StoredLane). z.number) at ∙ (is.lanes.each k l low).number in
    let a = is.lanes.count in
    let b = is.lanes.places in
    omega (arith, number, a, b, low)

pub before_low : (w : LaneWork) (x : SmpNode) (k : ℕ) (y : SmpNode) (l : StoredLane) → IsNode w y
    → IsInUse x k y → l ≡ get_or x.lanes.items k l → l.number < length x.shared.places.items
before_low w x k y l is u at =
    let s = u.put_back in
    let same : l ≡ s.before = at ∙ get_or_default x.lanes.items k l s.before u.low ∙ sym s.is_before in
    subst (λ (z : StoredLane). z.number < length x.shared.places.items) (sym same)
    (low_before x k y s u.low w is)

-- a lane that is put in use, where no other has reserved an address
pub put_in_use : (w : LaneWork) (x : SmpNode) (k : ℕ) (l : StoredLane) (y : SmpNode) → IsNode w x
    → k < length x.lanes.items → l ≡ get_or x.lanes.items k l → IsAlone l x.shared
    → IsPutBack y k x → IsInUse y k x
put_in_use w x k l y is low at alone s =
    let many = ap length s.lanes ∙ length-set y.lanes.items k s.after in
    let there : k < length y.lanes.items = omega (arith, many, low) in
    let same : l ≡ s.after = at ∙ after_at y k x s there l in
    let place = stored.use_low s.before y.shared s.after x.shared s.put_back
    (subst (λ (z : StoredLane). z.number < length x.shared.places.items) same
    (number_low w x k l is low at)) in
    record {
      low = there;
      put_back = s;
      alone = λ j other. stored.use_alone s.before y.shared s.after x.shared s.put_back place
          (subst (λ (z : StoredLane). IsAlone z x.shared) same alone) j
          (λ e. other (e ∙ number_is y k x s there w is));
    }

-- a lane in use is put back, while none has reserved an address, and another one put in use
module _ (w : LaneWork) (x : SmpNode) (j : ℕ) (y : SmpNode) (u : IsInUse x j y) (is : IsNode w y)
    (none : x.shared.state.body.value.local.reservation ≡ None) (z : SmpNode)
    (s : IsPutBack x j z) where
  pub left_same : (r : SmpNode) → IsInUse x j r → IsSameNode r z
  left_same r v = put_back_by x j r v.put_back v.low
      (before_low w x j y v.put_back.before is u v.put_back.is_before) z s

  pub left_is : IsNode w z
  left_is = same_is w y z (left_same y u) is

  pub left_free : (i : ℕ) → reserved_in z.shared.places.items i ≡ None
  left_free = stored.back_free s.before x.shared s.after z.shared s.put_back
      (low_before x j z s u.low w left_is) none
      (λ i other. u.alone i (λ e. other (e ∙ sym (number_is x j z s u.low w left_is))))

  pub entered : (k : ℕ) → k < length z.lanes.items → (x2 : SmpNode) → IsPutBack x2 k z
      → IsInUse x2 k z
  entered k low x2 back =
      let l = get_or z.lanes.items k s.after in
      put_in_use w z k l x2 left_is low (get_or_default z.lanes.items k s.after l low)
      (λ i other. left_free i) back

-- what a lane that is in use, or none, leaves the node as
pub may_turn_as : (x : SmpNode) (used : Option ℕ) (k : ℕ) (y : SmpNode) (m : MayTurn y used k)
    (z : SmpNode) → IsSameNode m.rest z → RestsAs x (Some k) z → MayTurn x (Some k) k
may_turn_as x used k y m z same rests = record {
  work = m.work;
  rest = z;
  rests = rests;
  is_node = same_is m.work m.rest z same m.is_node;
  low = m.low;
  may = same_can m.rest z k same m.may;
  stamp = let a = same_stamp m.rest z same in let b = m.stamp in omega (arith, a, b);
}

-- 3. The lane in use may execute its word

module _ (x : SmpNode) (k : ℕ) (l : StoredLane) (at : l ≡ get_or x.lanes.items k l)
    (w : LaneWork) (y : SmpNode) (u : IsInUse x k y) (is : IsNode w y) where
  abbrev s : IsPutBack x k y
  s = u.put_back

  is_before : s.before ≡ l
  is_before = s.is_before ∙ get_or_default x.lanes.items k s.before l u.low ∙ sym at

  -- it is put back so
  pub put_back_as : ArePutBack l x.shared s.after y.shared
  put_back_as = subst (λ (z : StoredLane). ArePutBack z x.shared s.after y.shared) is_before s.put_back

  pub use_number : l.number ≡ k
  use_number = ap (λ (z : StoredLane). z.number) (sym is_before) ∙ number_is x k y s u.low w is

  pub use_low : l.number < length x.shared.places.items
  use_low = before_low w x k y l is u at

  low_y : k < length y.lanes.items
  low_y = let a = lanes_long x k y s u.low in let b = u.low in omega (arith, a, b)

  at_y : s.after ≡ get_or y.lanes.items k s.after
  at_y = sym (after_at x k y s u.low s.after)

  pub use_may : CanExecute y k → can_execute (part_of l).phase ≡ true
  use_may may = ap (λ (z : StoredLane). can_execute (part_of z).phase) (sym put_back_as.lane)
      ∙ may_at y k s.after at_y may

  pub use_idle : CanExecute y k → (b : ℕ) → wait_at x.shared.places.items l.number b ≡ None
  use_idle may = stored.use_idle l x.shared s.after y.shared put_back_as use_low
      (waits_for_none w y k s.after s.after y is low_y at_y may)

  pub use_goes_on : CanExecute y k → x.shared.ended < length x.shared.places.items
  use_goes_on may =
      let a = back_ended l x.shared s.after y.shared put_back_as in
      let b = back_long l x.shared s.after y.shared put_back_as in
      let c = goes_on w y k s.after s.after y is low_y at_y may in
      omega (arith, a, b, c)

  pub use_alone : IsAlone l x.shared
  use_alone j other = u.alone j (λ e. other (e ∙ sym use_number))

  pub use_stamp : y.shared.state.stamp < 2 ^ 56 → x.shared.state.stamp < 2 ^ 56
  use_stamp below =
      let a = back_stamp l x.shared s.after y.shared put_back_as in
      omega (arith, a, below)

-- 4. It has executed it

module _ (x : SmpNode) (k : ℕ) (l : StoredLane) (at : l ≡ get_or x.lanes.items k l)
    (m : StoredLane) (f : StoredShared) (done : Bool)
    (turn : done ≡ true → (a b : StoredLane) (c d : StoredShared) → ArePutBack l x.shared a c
    → ArePutBack m f b d → (v : LaneNode) → HasLane a c v
    → word_turn (work_of a c) v a.number ≡ lane_turn (with_lane v b d) [] None)
    (ended : done ≡ true → (a b : StoredLane) (c d : StoredShared) → ArePutBack l x.shared a c
    → ArePutBack m f b d → (v : LaneNode) → HasLane a c v → HasLane b d (with_lane v b d))
    (may : done ≡ true → can_execute (part_of m).phase ≡ true)
    (waits : done ≡ true → WaitsFor m f) (held : done ≡ true → IsHeld m f)
    (stamps : done ≡ true → f.state.stamp ≡ x.shared.state.stamp + 1)
    (same : done ≡ false → m ≡ l) (kept : done ≡ false → f ≡ x.shared)
    (places : f.places ≡ x.shared.places) (number : m.number ≡ l.number)
    (work : work_of m f ≡ work_of l x.shared)
    (w0 : LaneWork) (y0 : SmpNode) (u0 : IsInUse x k y0) (is0 : IsNode w0 y0) where
  abbrev x2 : SmpNode
  x2 = record { lanes = with_item x.lanes k m; shared = f }

  abbrev p : LaneProtocol
  p = (put_back_as x k l at w0 y0 u0 is0).place

  items_same : f.places.items ≡ x.shared.places.items
  items_same = ap (λ (v : Vec LaneProtocol). v.items) places

  is_place : p ≡ get_or f.places.items m.number p
  is_place = (put_back_as x k l at w0 y0 u0 is0).is_place
      ∙ (λ t. get_or (sym items_same t) (sym number t) p)

  -- the lane and its node, put back
  abbrev l2 : StoredLane
  l2 = record m { lane = f.state.body.value.lane }

  abbrev f2 : StoredShared
  f2 = record f {
    places = with_item f.places m.number
        (record p { reservation = f.state.body.value.local.reservation });
  }

  put_back2 : ArePutBack m f l2 f2
  put_back2 = record {
    place = p;
    is_place = is_place;
    lane = refl;
    body = refl;
    places = refl;
    rest = refl;
  }

  low2 : m.number < length f.places.items
  low2 =
      let a = ap length items_same in
      let b = use_low x k l at w0 y0 u0 is0 in
      omega (arith, a, b, number)

  abbrev z : SmpNode
  z = record { lanes = with_item x.lanes k l2; shared = f2 }

  in_use2 : IsInUse x2 k z
  in_use2 = record {
    low = let a = length-set x.lanes.items k m in let b = u0.low in omega (arith, a, b);
    put_back = record {
      before = m;
      after = l2;
      is_before = sym (get_or-set_same x.lanes.items k m m u0.low);
      put_back = put_back2;
      lanes = sym (set-set x.lanes.items k m l2);
    };
    alone = λ j other. ap (λ ps. reserved_in ps j) items_same ∙ u0.alone j other;
  }

  module _ (y : SmpNode) (u : IsInUse x k y) where
    abbrev s2 : IsPutBack x k y
    s2 = u.put_back

    items_z : z.lanes.items ≡ set y.lanes.items k l2
    items_z = sym (ap (λ ls. set ls k l2) s2.lanes ∙ set-set x.lanes.items k s2.after l2)

    is_before2 : s2.before ≡ l
    is_before2 = s2.is_before ∙ get_or_default x.lanes.items k s2.before l u.low ∙ sym at

    back_l : ArePutBack l x.shared s2.after y.shared
    back_l = subst (λ (v : StoredLane). ArePutBack v x.shared s2.after y.shared) is_before2 s2.put_back

    low_l : l.number < length x.shared.places.items
    low_l = use_low x k l at w0 y0 u0 is0

    low_y2 : k < length y.lanes.items
    low_y2 = let a = lanes_long x k y s2 u.low in let b = u.low in omega (arith, a, b)

    at_y2 : s2.after ≡ get_or y.lanes.items k s2.after
    at_y2 = sym (after_at x k y s2 u.low s2.after)

    numbers : l2.number ≡ s2.after.number
    numbers = number ∙ sym (back_number l x.shared s2.after y.shared back_l)

    works : work_of l2 f2 ≡ work_of s2.after y.shared
    works = back_work m f l2 f2 put_back2 ∙ work
        ∙ sym (back_work l x.shared s2.after y.shared back_l)

    waits_z : waits_in f2.places.items ≡ waits_in y.shared.places.items
    waits_z = back_waits m f l2 f2 put_back2 low2 ∙ ap waits_in items_same
        ∙ sym (back_waits l x.shared s2.after y.shared back_l low_l)

    stamp_y : y.shared.state.stamp ≡ x.shared.state.stamp
    stamp_y = back_stamp l x.shared s2.after y.shared back_l

    -- where it did nothing
    same_z : done ≡ false → IsSameNode y z
    same_z undone = record {
      lanes = ap (set x.lanes.items k) (lane_same l x.shared s2.after y.shared m f l2 f2 back_l
          put_back2 low_l (same undone) (kept undone)) ∙ sym s2.lanes;
      shared = shared_same l x.shared s2.after y.shared m f l2 f2 back_l put_back2 low_l
          (same undone) (kept undone);
    }

    is_then : (w : LaneWork) → IsNode w y → IsNode w z
    is_then w is = by_answer done
        (λ yes. node_then w y k s2.after l2 z is low_y2 at_y2 items_z numbers works
        (back_waits_for m f l2 f2 put_back2 low2 (waits yes))
        (back_held m f l2 f2 put_back2 low2 (held yes))
        (λ b some. ap (λ ws. is_some (wait_among ws b)) waits_z ∙ some)
        (λ j b other. wait_at_same y.shared.places.items f2.places.items j b waits_z)
        (ended yes s2.after l2 y.shared f2 back_l put_back2)
        (λ v h. sym (ap (λ (t : LaneTurn). t.node)
        (turn yes s2.after l2 y.shared f2 back_l put_back2 v h))))
        (λ no. same_is w y z (same_z no) is)

    turn_then : done ≡ true → (w : LaneWork) (i : ℕ) → IsNode w y
        → word_turn w (node_in w i y) k ≡ lane_turn (node_in w i z) [] None
    turn_then served w i is =
        let v = node_in w i y in
        let h : HasLane s2.after y.shared v = has_lane w y k s2.after s2.after y is low_y2 at_y2 i in
        let t = turn served s2.after l2 y.shared f2 back_l put_back2 v h in
        turn_after w y k s2.after l2 z is low_y2 at_y2 items_z numbers i [] None
        (sym (ap (λ (r : LaneTurn). r.node) t)) (sym (ap (λ (r : LaneTurn). r.sends) t))
        (sym (ap (λ (r : LaneTurn). r.printed) t))

    pub has_turned : HasTurned y k done x2 (Some k)
    has_turned = record {
      rest = z;
      rests = in_use2;
      node = is_then;
      turn = turn_then;
      may = λ yes d. ap (λ (v : StoredLane). can_execute (part_of v).phase)
          (get_or-set_same x.lanes.items k l2 d u.low) ∙ may yes;
      stamps = λ yes. stamps yes ∙ ap (λ v. v + 1) (sym stamp_y);
      same = λ no w i. same_in w i y z (same_z no);
    }

-- 5. From one node to the same

pub turned_from : (y z : SmpNode) (k : ℕ) (done : Bool) (x : SmpNode) (used : Option ℕ)
    → IsSameNode y z → HasTurned z k done x used → HasTurned y k done x used
turned_from y z k done x used s t = record {
  rest = t.rest;
  rests = t.rests;
  node = λ w is. t.node w (same_is w y z s is);
  turn = λ yes w i is. ap (λ v. word_turn w v k) (sym (same_in w i y z s))
      ∙ t.turn yes w i (same_is w y z s is);
  may = t.may;
  stamps = λ yes. t.stamps yes ∙ ap (λ v. v + 1) (same_stamp y z s);
  same = λ no w i. t.same no w i ∙ same_in w i y z s;
}

-- one that has no turn
pub not_turned : (y z : SmpNode) (k : ℕ) (x : SmpNode) (used : Option ℕ)
    → RestsAs x used z → IsSameNode y z → HasTurned y k false x used
not_turned y z k x used rests s = record {
  rest = z;
  rests = rests;
  node = λ w is. same_is w y z s is;
  turn = λ yes. absurd (cc);
  may = λ yes. absurd (cc);
  stamps = λ yes. absurd (cc);
  same = λ no w i. same_in w i y z s;
}
