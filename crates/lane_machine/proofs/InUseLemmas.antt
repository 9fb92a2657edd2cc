-- A lane whose registers and reservation are in use at its node.
use Rattle.std.proofs.Common.{◌≡◌, ◌≢◌, ℕ, ◌+◌, ◌*◌, ◌<◌, true, false, [], ◌∷◌, inl, inr, length, set, get_or, List, Option, None, refl, sym, ap, ◌∙◌, subst, length-set, arith}
use Rattle.std.proofs.lemmas.List.{get_or_default, get_or-set_same, set-get_or, set-set}
use Rattle.std.proofs.lemmas.Bool.Decides.{eqb_tells}
use Rattle.std.specs.Prelude.{is_some}
use Rattle.std.specs.Box.{with_value}
use Rattle.std.specs.Vec.{with_item}
use Rattle.exec_map.specs.Contents.{program_of}
use Rattle.lane_model.specs.node_model.Node.{can_execute, next_outcome}
use Rattle.lane_model.specs.Nodes.{LaneNode}
use Rattle.lane_model.specs.Turns.{held_by, word_turn}
use Rattle.node_machine.specs.node_words.declared.exec_state.ExecState.{ExecState}
use Rattle.node_machine.specs.node_words.declared.lane.ProcessorState as kept
use Rattle.node_machine.specs.node_words.Address.{word_address}
use Rattle.node_machine.specs.node_words.node_memory.Shelf.{Ground, Shelf, ground_of, local_of}
use Rattle.node_machine.specs.node_words.Kept.{Follows, lane_of}
use Rattle.node_machine.specs.declared.phase.Phase.TheVariants as kept_phase
use Rattle.node_machine.specs.NodeState.{layout_of, phase_of, AreCountsBelow}
use Rattle.node_machine.proofs.NodeStateLemmas.{counts_up}
use Rattle.lane_machine.specs.declared.lane_protocol.LaneProtocol.{LaneProtocol}
use Rattle.lane_machine.specs.declared.stored.StoredLane.{StoredLane}
use Rattle.lane_machine.specs.declared.stored.StoredShared.{StoredShared}
use Rattle.lane_machine.specs.Waits.{wait_among, place_among, waits_in}
use Rattle.lane_machine.specs.Places.{in_use, pools_in, reserved_in, wait_at}
use Rattle.lane_machine.specs.Stored.{HasLane, IsAtRest, IsHeld, IsAwaited, IsLane, IsSameShared, IsShared, WaitsFor, ended_in, lane_turn, part_of, shared_of, with_lane, work_in, work_of}
use Rattle.lane_machine.specs.InUse.{ArePutBack, IsAlone, with_use}
use Rattle.lane_machine.proofs.ClearLemmas.{reserved_at, reserved_here, reserved_there, same_pools, same_waits}
use Rattle.lane_machine.proofs.HoldLemmas.{rest_same, wait_at_same}
use Rattle.lane_machine.proofs.SilentLemmas as word

-- 1. What is true of what lanes share, where another is in use

module _ (f : StoredShared) (b : ExecState) (ps : List LaneProtocol) (g : StoredShared)
    (body : g.state.body.value ≡ with_use f.state.body.value b)
    (places : g.places.items ≡ ps) (long : length ps ≡ length f.places.items)
    (waits : waits_in ps ≡ waits_in f.places.items) (pools : pools_in ps ≡ pools_in f.places.items)
    (rest : g ≡ record f { state = record f.state { body = g.state.body }; places = g.places }) where
  same_layout : layout_of g.state.body.value ≡ layout_of f.state.body.value
  same_layout = ap layout_of body

  pub shared_still : IsShared f → IsShared g
  shared_still is =
      let few = is.few in
      let some = is.some in
      let many = ap length places ∙ long in
      subst IsShared (sym rest) (record {
        rest = subst (λ z. IsAtRest z f.state.protocol g.places.items) (sym same_layout)
            (rest_same (layout_of f.state.body.value) f.state.protocol f.places.items g.places.items
            (ap waits_in places ∙ waits) (ap pools_in places ∙ pools) is.rest);
        layout = is.layout ∙ sym same_layout;
        some = omega (arith, many, some);
        few = omega (arith, many, few);
        noted = is.noted;
        counts = subst (λ (x : ExecState). AreCountsBelow (32 * f.state.stamp) x.counts) (sym body)
            is.counts;
      })

-- 2. What a lane in use, and its node, are once it is put back

module _ (l : StoredLane) (f : StoredShared) (m : StoredLane) (g : StoredShared)
    (s : ArePutBack l f m g) where
  abbrev k : ℕ
  k = l.number

  abbrev r : Option ℕ
  r = f.state.body.value.local.reservation

  abbrev q : LaneProtocol
  q = record s.place { reservation = r }

  pub back_number : m.number ≡ l.number
  back_number = ap (λ (z : StoredLane). z.number) s.lane

  pub back_long : length g.places.items ≡ length f.places.items
  back_long = ap length s.places ∙ length-set f.places.items k q

  -- a lane that is put in use has a place, too
  pub use_low : m.number < length g.places.items → l.number < length f.places.items
  use_low low =
      let a = back_number in
      let b = back_long in
      omega (arith, a, b, low)

  pub back_low : l.number < length f.places.items → m.number < length g.places.items
  back_low low =
      let a = back_number in
      let b = back_long in
      omega (arith, a, b, low)

  pub back_lane : IsLane l → IsLane m
  back_lane is = subst IsLane (sym s.lane) (record { state = is.state; awaits = is.awaits })

  pub use_lane : IsLane m → IsLane l
  use_lane is =
      let there = subst IsLane s.lane is in
      record { state = there.state; awaits = there.awaits }

  pub back_ended : g.ended ≡ f.ended
  back_ended = ap (λ (z : StoredShared). z.ended) s.rest

  pub back_stamp : g.state.stamp ≡ f.state.stamp
  back_stamp = ap (λ (z : StoredShared). z.state.stamp) s.rest

  pub back_phase : m.state.phase ≡ l.state.phase
  back_phase = ap (λ (z : StoredLane). z.state.phase) s.lane

  pub back_ground : ground_of g.state.body.value.local ≡ ground_of f.state.body.value.local
  back_ground = ap (λ (x : ExecState). ground_of x.local) s.body

  pub back_work : work_of m g ≡ work_of l f
  back_work = λ t. record {
    work = work_in (s.body t) (s.lane t).state.image.now (s.lane t).state.budget;
    lanes = back_long t;
  }

  module _ (low : l.number < length f.places.items) where
    pub back_waits : waits_in g.places.items ≡ waits_in f.places.items
    back_waits = ap waits_in s.places ∙ same_waits f.places.items k s.place s.is_place low r

    back_pools : pools_in g.places.items ≡ pools_in f.places.items
    back_pools = ap pools_in s.places ∙ same_pools f.places.items k s.place s.is_place low r

    back_reserved : (j : ℕ) → j ≢ k → reserved_in g.places.items j ≡ reserved_in f.places.items j
    back_reserved j apart = ap (λ ps. reserved_in ps j) s.places
        ∙ reserved_there f.places.items k s.place s.is_place low r j apart

    pub back_alone : IsAlone l f → IsAlone m g
    back_alone alone j other =
        let apart : j ≢ k = λ e. other (e ∙ sym back_number) in
        back_reserved j apart ∙ alone j apart

    pub use_alone : IsAlone m g → IsAlone l f
    use_alone alone j other = sym (back_reserved j other) ∙ alone j (λ e. other (e ∙ back_number))

    -- where none is reserved in use, and no other lane has reserved an address, no lane has
    pub back_free : r ≡ None → IsAlone l f → (j : ℕ) → reserved_in g.places.items j ≡ None
    back_free none alone j = elim (eqb_tells j k) [
      | inl e ↦ ap (λ i. reserved_in g.places.items i) e.1 ∙ ap (λ ps. reserved_in ps k) s.places
          ∙ reserved_here f.places.items k s.place s.is_place low r ∙ none
      | inr e ↦ back_reserved j e.1 ∙ alone j e.1
    ]

    pub back_shared : shared_of g
        ≡ record (shared_of f) { reservation = reserved_in g.places.items }
    back_shared = λ t. record (shared_of (s.rest t)) {
      copy = (local_of (s.body t).local).copy;
      state = (local_of (s.body t).local).state;
      reservation = reserved_in g.places.items;
      wait = wait_among (back_waits t);
      holder = held_by (wait_among (back_waits t)) (place_among (back_waits t));
      counts = (s.body t).counts;
    }

    wait_there : (b : ℕ) → wait_at g.places.items m.number b ≡ wait_at f.places.items l.number b
    wait_there b = wait_at_same f.places.items g.places.items m.number b back_waits
        ∙ ap (λ j. wait_at f.places.items j b) back_number

    pub back_idle : ((b : ℕ) → wait_at f.places.items l.number b ≡ None)
        → (b : ℕ) → wait_at g.places.items m.number b ≡ None
    back_idle idle b = wait_there b ∙ idle b

    pub use_idle : ((b : ℕ) → wait_at g.places.items m.number b ≡ None)
        → (b : ℕ) → wait_at f.places.items l.number b ≡ None
    use_idle idle b = sym (wait_there b) ∙ idle b

    pub back_waits_for : WaitsFor l f → WaitsFor m g
    back_waits_for waits b some = subst (λ (z : StoredLane). IsAwaited z b) (sym s.lane)
        (waits b (ap is_some (sym (wait_there b)) ∙ some))

    pub back_held : IsHeld l f → IsHeld m g
    back_held held b awaited = ap (λ ws. is_some (wait_among ws b)) back_waits
        ∙ held b (subst (λ (z : StoredLane). IsAwaited z b) s.lane awaited)

    pub back_is : IsShared f → IsShared g
    back_is = shared_still f g.state.body.value g.places.items g s.body refl back_long back_waits
        back_pools s.rest

    pub use_is : IsShared g → IsShared f
    use_is = shared_still g f.state.body.value f.places.items f
        (sym (ap (λ (x : ExecState). with_use x f.state.body.value) s.body)) refl (sym back_long)
        (sym back_waits) (sym back_pools) (sym (λ t. record (s.rest t) {
          state = record (s.rest t).state { body = f.state.body };
          places = f.places;
        }))

-- 3. What else it is once it is put back is the same

module _ (l : StoredLane) (f : StoredShared) (m : StoredLane) (g : StoredShared) (l2 : StoredLane)
    (f2 : StoredShared) (m2 : StoredLane) (g2 : StoredShared) (s : ArePutBack l f m g)
    (s2 : ArePutBack l2 f2 m2 g2) (low : l.number < length f.places.items) (lane : l2 ≡ l)
    (same : f2 ≡ f) where
  place_same : s2.place ≡ s.place
  place_same = s2.is_place ∙ (λ t. get_or (same t).places.items (lane t).number s2.place)
      ∙ get_or_default f.places.items l.number s2.place s.place low ∙ sym s.is_place

  pub lane_same : m2 ≡ m
  lane_same = s2.lane ∙ (λ t. record (lane t) { lane = (same t).state.body.value.lane })
      ∙ sym s.lane

  places_same : g2.places.items ≡ g.places.items
  places_same = s2.places ∙ (λ t. set (same t).places.items (lane t).number
      (record (place_same t) { reservation = (same t).state.body.value.local.reservation }))
      ∙ sym s.places

  low2 : l2.number < length f2.places.items
  low2 =
      let a = ap (λ (z : StoredLane). z.number) lane in
      let b = ap (λ (z : StoredShared). length z.places.items) same in
      omega (arith, a, b, low)

  pub shared_same : IsSameShared g g2
  shared_same = record {
    shared = back_shared l2 f2 m2 g2 s2 low2
        ∙ (λ t. record (shared_of (same t)) { reservation = reserved_in (places_same t) })
        ∙ sym (back_shared l f m g s low);
    places = places_same;
    ground = back_ground l2 f2 m2 g2 s2
        ∙ ap (λ (z : StoredShared). ground_of z.state.body.value.local) same
        ∙ sym (back_ground l f m g s);
    ended = back_ended l2 f2 m2 g2 s2 ∙ ap (λ (z : StoredShared). z.ended) same
        ∙ sym (back_ended l f m g s);
  }

pub same_itself : (f : StoredShared) → IsSameShared f f
same_itself f = record { shared = refl; places = refl; ground = refl; ended = refl }

-- 4. The calls that put a lane back, and that put it in use

module _ (l : StoredLane) (f : StoredShared) (p : LaneProtocol) (x1 x2 : ExecState)
    (left : kept.ProcessorState) (s : Shelf) (r : Option ℕ)
    (at : p ≡ get_or f.places.items l.number p) (first : x1 ≡ f.state.body.value)
    (moved : x2 ≡ record x1 { lane = left })
    (local : s ≡ record x2.local { reservation = p.reservation })
    (other : r ≡ x2.local.reservation) where
  abbrev b : ExecState
  b = f.state.body.value

  abbrev pub shared_then : StoredShared
  shared_then = record f {
    state = record f.state {
      body = with_value (with_value f.state.body (record x1 { lane = left }))
          (record x2 { local = s });
    };
    places = with_item f.places l.number (record p { reservation = r });
  }

  there : x2 ≡ record b { lane = left }
  there = moved ∙ ap (λ (x : ExecState). record x { lane = left }) first

  reserved_then : s.reservation ≡ p.reservation
  reserved_then = ap (λ (z : Shelf). z.reservation) local

  used_then : record x2 { local = s } ≡ with_use b (record x2 { local = s })
  used_then =
      let shelf : s ≡ record b.local { reservation = s.reservation } =
      local ∙ (λ t. record (there t).local { reservation = sym reserved_then t }) in
      λ t. record {
        lane = x2.lane;
        local = shelf t;
        counts = (there t).counts;
        log = (there t).log;
      }

  pub put_back_is : (own : kept.ProcessorState) → own ≡ x1.lane
      → ArePutBack l f (record l { lane = own }) shared_then
  put_back_is own came = record {
    place = p;
    is_place = at;
    lane = λ t. record l { lane = (came ∙ ap (λ (x : ExecState). x.lane) first) t };
    body = used_then;
    places = ap (λ z. set f.places.items l.number (record p { reservation = z }))
        (other ∙ ap (λ (x : ExecState). x.local.reservation) there);
    rest = refl;
  }

  pub put_in_use_is : (own : kept.ProcessorState) → left ≡ l.lane → l.number < length f.places.items
      → ArePutBack (record l { lane = own }) shared_then l f
  put_in_use_is own came low =
      let q : LaneProtocol = record p { reservation = r } in
      record {
        place = q;
        is_place = sym (get_or-set_same f.places.items l.number q q low);
        lane = sym (λ t. record l { lane = (ap (λ (x : ExecState). x.lane) moved ∙ came) t });
        body = sym (ap (λ (x : ExecState). with_use x b) used_then);
        places = sym (set-set f.places.items l.number q (record p { reservation = s.reservation })
            ∙ ap (λ z. set f.places.items l.number (record p { reservation = z })) reserved_then
            ∙ ap (set f.places.items l.number) at ∙ set-get_or f.places.items l.number p);
        rest = refl;
      }

-- the same where the reservations stay as they are, since there are none
module _ (l : StoredLane) (f : StoredShared) (x1 : ExecState) (left : kept.ProcessorState)
    (first : x1 ≡ f.state.body.value) (none : f.state.body.value.local.reservation ≡ None)
    (low : l.number < length f.places.items) where
  still_none : x1.local.reservation ≡ None
  still_none = ap (λ (x : ExecState). x.local.reservation) first ∙ none

  module _ (p : LaneProtocol) (at : p ≡ get_or f.places.items l.number p) (r : Option ℕ)
      (ended : r ≡ None) where
    abbrev pub shared_left : StoredShared
    shared_left = record f {
      state = record f.state { body = with_value f.state.body (record x1 { lane = left }) };
      places = with_item f.places l.number (record p { reservation = r });
    }

    pub leave_use_is : (own : kept.ProcessorState) → own ≡ x1.lane
        → ArePutBack l f (record l { lane = own }) shared_left
    leave_use_is own came = record {
      place = p;
      is_place = at;
      lane = λ t. record l { lane = (came ∙ ap (λ (x : ExecState). x.lane) first) t };
      body = λ t. record (first t) {
        lane = left;
        local = record (first t).local { reservation = x1.local.reservation };
      };
      places = ap (λ z. set f.places.items l.number (record p { reservation = z }))
          (ended ∙ sym none);
      rest = refl;
    }

  abbrev pub shared_entered : StoredShared
  shared_entered = record f {
    state = record f.state { body = with_value f.state.body (record x1 { lane = left }) };
  }

  a_place : (ps : List LaneProtocol) → l.number < length ps → LaneProtocol
  a_place [] below = absurd (omega (arith, below))
  a_place (p ∷ ps) below = p

  own_place : LaneProtocol
  own_place = get_or f.places.items l.number (a_place f.places.items low)

  own_at : own_place ≡ get_or f.places.items l.number own_place
  unfolding own_place
  own_at = get_or_default f.places.items l.number (a_place f.places.items low) own_place low

  pub enter_use_is : (own : kept.ProcessorState) → left ≡ l.lane
      → reserved_in f.places.items l.number ≡ None
      → ArePutBack (record l { lane = own }) shared_entered l f
  enter_use_is own came free = record {
    place = own_place;
    is_place = own_at;
    lane = sym (λ t. record l { lane = came t });
    body = sym (ap (λ (x : ExecState). with_use x f.state.body.value) first);
    places = sym (ap (λ z. set f.places.items l.number (record own_place { reservation = z }))
        (still_none ∙ sym free ∙ reserved_at f.places.items l.number own_place own_at low None)
        ∙ ap (set f.places.items l.number) own_at ∙ set-get_or f.places.items l.number own_place);
    rest = refl;
  }

-- 5. A lane in use has executed a word

module _ (m : StoredLane) (g : StoredShared) (b : ExecState) (next : ℕ)
    (low : m.number < length g.places.items)
    (steps : Follows m.state.image.now (next_outcome (program_of g.state.body.value.local.program)
    m.state.image.now (lane_of g.state.body.value.lane (word_address m.state.at))
    (local_of g.state.body.value.local)) (ground_of g.state.body.value.local) (word_address next)
    b.lane b.local)
    (counts : b.counts ≡ g.state.body.value.counts) where
  -- what they store then
  abbrev pub lane_on : StoredLane
  lane_on = record {
    state = record m.state {
      at = next;
      executed = m.state.executed + 1;
      phase = kept_phase.Running;
    };
    number = m.number;
    lane = m.lane;
    awaits = record { first = None; other = None };
    again = false;
  }

  abbrev pub shared_on : StoredShared
  shared_on = record g {
    state = record g.state { body = with_value g.state.body b; stamp = g.state.stamp + 1 };
  }

  layout_on : layout_of b ≡ layout_of g.state.body.value
  layout_on = ap (λ (z : Ground). z.layout) steps.ground_same

  pub work_on : work_of lane_on shared_on ≡ work_of m g
  work_on = λ t. record {
    work = record {
      program = program_of (steps.ground_same t).program;
      image = m.state.image.now;
      layout = (steps.ground_same t).layout;
      budget = m.state.budget;
    };
    lanes = length g.places.items;
  }

  pub lane_on_is : IsLane m → m.state.executed + 1 < m.state.budget → IsLane lane_on
  lane_on_is is below = record {
    state = record {
      within = omega (arith, below);
      going = λ may. below;
      range = is.state.range;
      short = is.state.short;
    };
    awaits = refl;
  }

  pub shared_on_is : IsShared g → IsShared shared_on
  shared_on_is is = record {
    rest = subst (λ z. IsAtRest z g.state.protocol g.places.items) (sym layout_on) is.rest;
    layout = is.layout ∙ sym layout_on;
    some = is.some;
    few = is.few;
    noted = is.noted;
    counts = counts_up (32 * g.state.stamp) (32 * (g.state.stamp + 1)) b.counts (omega arith)
        (subst (AreCountsBelow (32 * g.state.stamp)) (sym counts) is.counts);
  }

  pub waits_on : ((y : ℕ) → wait_at g.places.items m.number y ≡ None) → WaitsFor lane_on shared_on
  waits_on idle y there = absurd (let bad : false ≡ true = sym (ap is_some (idle y)) ∙ there in cc)

  pub held_on : IsHeld lane_on shared_on
  held_on y (inl e) = absurd (cc)
  held_on y (inr e) = absurd (cc)

  module _ (l : StoredLane) (f : StoredShared) (s : ArePutBack m g l f) where
    abbrev p : LaneProtocol
    p = record s.place { reservation = g.state.body.value.local.reservation }

    abbrev q2 : LaneProtocol
    q2 = record s.place { reservation = b.local.reservation }

    abbrev b2 : ExecState
    b2 = with_use b f.state.body.value

    low_l : l.number < length f.places.items
    low_l = back_low m g l f s low

    number_l : l.number ≡ m.number
    number_l = back_number m g l f s

    is_place_l : p ≡ get_or f.places.items l.number p
    is_place_l = sym (ap (λ xs. get_or xs l.number p) s.places
        ∙ ap (λ j. get_or (set g.places.items m.number p) j p) number_l
        ∙ get_or-set_same g.places.items m.number p p low)

    body_l : in_use f.state.body.value l.lane p ≡ g.state.body.value
    body_l = λ t. in_use (s.body t) (s.lane t).lane p

    abbrev DoesFrom : ExecState → StoredLane → Type 0
    DoesFrom x z = Follows z.state.image.now (next_outcome (program_of x.local.program)
        z.state.image.now (lane_of x.lane (word_address z.state.at)) (local_of x.local))
        (ground_of x.local) (word_address next) b.lane b.local

    steps_l : DoesFrom (in_use f.state.body.value l.lane p) l
    steps_l = subst (λ (x : ExecState). DoesFrom x l) (sym body_l)
        (subst (λ (z : StoredLane). DoesFrom g.state.body.value z) (sym s.lane) steps)

    counts_l : b2.counts ≡ f.state.body.value.counts
    counts_l = counts ∙ sym (ap (λ (x : ExecState). x.counts) s.body)

    abbrev lane_l : StoredLane
    lane_l = word.lane_then l f p q2 b.lane b2 next is_place_l low_l steps_l refl counts_l refl

    abbrev shared_l : StoredShared
    shared_l = word.shared_then l f p q2 b.lane b2 next is_place_l low_l steps_l refl counts_l refl

    -- what the word leaves of the lane that was put back is what is put back of the lane in use
    back_on : ArePutBack lane_on shared_on lane_l shared_l
    back_on = record {
      place = s.place;
      is_place = s.is_place;
      lane = λ t. record {
        state = record (s.lane t).state {
          at = next;
          executed = (s.lane t).state.executed + 1;
          phase = kept_phase.Running;
        };
        number = (s.lane t).number;
        lane = b.lane;
        awaits = record { first = None; other = None };
        again = false;
      };
      body = refl;
      places = (λ t. set (s.places t) (s.lane t).number q2) ∙ set-set g.places.items m.number p q2;
      rest = λ t. record (s.rest t) {
        state = record (s.rest t).state {
          body = shared_l.state.body;
          stamp = (s.rest t).state.stamp + 1;
        };
        places = shared_l.places;
      };
    }

    module _ (l' : StoredLane) (f' : StoredShared) (s' : ArePutBack lane_on shared_on l' f') where
      lane_is : l' ≡ lane_l
      lane_is = lane_same lane_on shared_on lane_l shared_l lane_on shared_on l' f' back_on s' low
          refl refl

      shared_is : IsSameShared shared_l f'
      shared_is = shared_same lane_on shared_on lane_l shared_l lane_on shared_on l' f' back_on s'
          low refl refl

      pub in_use_turn : (x : LaneNode) → HasLane l f x → IsShared g
          → ((y : ℕ) → wait_at g.places.items m.number y ≡ None)
          → can_execute (phase_of m.state.phase) ≡ true → g.ended < length g.places.items
          → m.state.executed + 1 < m.state.budget → IsAlone m g
          → (word_turn (work_of l f) x l.number ≡ lane_turn (with_lane x l' f') [] None)
          × HasLane l' f' (with_lane x l' f')
      in_use_turn x h is idle may lower below alone =
          let ended = back_ended m g l f s in
          let long = back_long m g l f s in
          let executed = ap (λ (z : StoredLane). z.state.executed) s.lane in
          let budget = ap (λ (z : StoredLane). z.state.budget) s.lane in
          let both = word.silent_turn l f p q2 b.lane b2 next is_place_l low_l steps_l refl
          counts_l refl (back_is m g l f s low is) (back_idle m g l f s low idle) x h
          (ap (λ z. can_execute (phase_of z)) (back_phase m g l f s) ∙ may)
          (omega (arith, ended, long, lower)) (omega (arith, executed, budget, below))
          (back_alone m g l f s low alone) in
          let node : with_lane x lane_l shared_l ≡ with_lane x l' f' =
          λ t. record (with_lane x (sym lane_is t) shared_l) { shared = sym shared_is.shared t } in (
            both.0 ∙ ap (λ z. lane_turn z [] None) node,
            record {
              lane = ap (λ (z : LaneNode). z.lanes l'.number) (sym node)
                  ∙ ap (with_lane x lane_l shared_l).lanes (ap (λ (z : StoredLane). z.number) lane_is)
                  ∙ both.1.lane ∙ ap part_of (sym lane_is);
              shared = refl;
              ended = shared_is.ended ∙ both.1.ended
                  ∙ (λ t. ended_in (node t) (length (sym shared_is.places t)));
            },
          )
