-- A node of several processors, as it is stored, and its events.
use Rattle.std.proofs.Common.{◌≡◌, ◌≢◌, ℕ, zero, suc, ◌+◌, ◌<◌, ◌≤◌, ◌&&◌, Bool, true, false, cond, eqb, List, [], ◌∷◌, ◌++◌, map, length, get_or, set, Option, Some, None, is_some, refl, sym, ap, ◌∙◌, subst, inl, inr, ◌⊎◌, arith}
use Rattle.std.specs.Prelude.{not, take, drop}
use Rattle.std.specs.Global.{Vec}
use Rattle.std.specs.Vec.{with_items}
use Rattle.std.specs.Option.{option_to_list}
use Rattle.std.proofs.Math.Path.{fun_ext}
use Rattle.std.proofs.lemmas.List.{get_or-map, get_or-set_same, get_or-set_other, get_or_past, map-set, length-map, length-set}
use Rattle.std.proofs.lemmas.Bool.Decides.{eqb_tells, leb_tells, nat_tests}
use Rattle.home_directory.specs.dsm_messages.declared.messages.Post.{Post}
use Rattle.home_directory.specs.dsm_messages.declared.messages.Wire.{Wire}
use Rattle.home_directory.specs.declared.wait.Wait.{Wait}
use Rattle.home_directory.specs.Home.{count_of}
use Rattle.lane_model.specs.node_model.Node.{Work, Node, NodeMemory, Phase, Running, Resumed, Waiting, Ended, Move, Next, Again, To, Enters, Waits, Leaves, Want, can_execute, phase_after, word_outcome}
use Rattle.lane_model.specs.node_model.Turns.{Turn, want_in, wants_of, each_block_once, after_word, with_miss, is_ended}
use Rattle.block_layout.specs.Layout.{Shape, block_of}
use Rattle.rv32_program.specs.Program.{line_of}
use Rattle.home_directory.specs.dsm_messages.declared.messages.Need.{Need}
use Rattle.home_directory.specs.Table.{Miss}
use Rattle.lane_model.specs.Nodes.{LaneWork, LaneNode, LanePart, as_node, first_part, processor_of}
use Rattle.lane_model.specs.Turns.{LaneTurn, Asked, ask_block, ask, ask_all, blocks_of, still, wants_at, word_asked, part_after, word_turn, word_before, with_byes, take_turn, after_message, resumed, resume_part, has_ended, have_ended, handled_for}
use Rattle.lane_machine.specs.Waits.{wait_among, waits_in, awaits_of}
use Rattle.lane_machine.specs.declared.stored.StoredLane.{StoredLane}
use Rattle.lane_machine.specs.declared.stored.StoredShared.{StoredShared}
use Rattle.exec_map.specs.Contents.{program_of}
use Rattle.node_machine.specs.node_words.node_memory.Shelf.{Ground, ground_of}
use Rattle.lane_machine.specs.declared.lane_protocol.LaneProtocol.{LaneProtocol}
use Rattle.lane_machine.specs.Places.{wait_at}
use Rattle.lane_machine.specs.Stored.{AllHeld, AllWaitFor, AreLanes, HasLane, HaveLanes, HaveParts, IsAwaited, IsHeld, IsLaneOf, IsSameShared, WaitsFor, ended_in, lane_turn, part_of, shared_of, with_lane, work_of}
use Rattle.lane_machine.proofs.ExecLemmas.{count_same}
use Rattle.lane_machine.specs.declared.node.SmpNode.{SmpNode}
use Rattle.lane_machine.specs.SmpNodes.{IsNode, node_in}
use Rattle.lane_machine.specs.SmpNodes.{CanExecute}

-- 1. A lane by its number

pub part_at : (w : LaneWork) (i : ℕ) (x : SmpNode) (k : ℕ) (d : StoredLane)
    → k < length x.lanes.items → (node_in w i x).lanes k ≡ part_of (get_or x.lanes.items k d)
part_at w i x k d low = get_or-map part_of x.lanes.items k d (first_part w (processor_of w i k)) low

pub have_parts : (w : LaneWork) (i : ℕ) (x : SmpNode) → HaveParts x.lanes.items (node_in w i x)
have_parts w i x k d low = part_at w i x k d low

-- as many have ended as of any node of these lanes
pub ended_same : (x y : LaneNode) (m : ℕ) → ((k : ℕ) → k < m → y.lanes k ≡ x.lanes k)
    → ended_in y m ≡ ended_in x m
ended_same x y m same =
    count_same (has_ended x) (has_ended y) m (λ k low t. is_ended (same k low t).phase)

pub ended_parts : (w : LaneWork) (i : ℕ) (x : SmpNode) (y : LaneNode) (m ended : ℕ) → length x.lanes.items ≡ m
    → ended ≡ ended_in (node_in w i x) m → HaveParts x.lanes.items y → ended ≡ ended_in y m
ended_parts w i x y m ended count is parts = is ∙ ended_same y (node_in w i x) m (λ k low.
    let below : k < length x.lanes.items = subst (λ z. k < z) (sym count) low in
    let d = some_lane x.lanes.items k below in
    part_at w i x k d below ∙ sym (parts k d below))
  where
    some_lane : (ls : List StoredLane) (k : ℕ) → k < length ls → StoredLane
    some_lane [] k low = absurd (omega (arith, low))
    some_lane (l ∷ ls) k low = l

-- 2. What the model says of a lane that may execute a word: it waits for no block

pub byes_node : (n : ℕ) (t : LaneTurn) (b : Bool) → (with_byes n t b).node ≡ t.node
byes_node n t true = refl
byes_node n t false = refl

miss_phase : (layout : Shape) (b : ℕ) (need : Need) (t : Turn) (miss : Option Miss)
    → (with_miss layout b need t miss).node.phase ≡ t.node.phase
miss_phase layout b need t None = refl
miss_phase layout b need t (Some miss) = refl

block_phase : (layout : Shape) (b : ℕ) (need : Need) (t : Asked)
    → (ask_block layout b need t).turn.node.phase ≡ t.turn.node.phase
block_phase layout b need t = go (is_some (t.turn.node.wait b))
  where
    go : (s : Bool) → (cond s t.turn (want_in layout t.turn need (Some b))).node.phase
        ≡ t.turn.node.phase
    go true = refl
    go false = miss_phase layout b need t.turn _

ask_phase : (layout : Shape) (need : Need) (b : Option ℕ) (t : Asked)
    → (ask layout need b t).turn.node.phase ≡ t.turn.node.phase
ask_phase layout need None t = refl
ask_phase layout need (Some b) t = block_phase layout b need t

all_phase : (layout : Shape) (ws : List Want) (t : Asked)
    → (ask_all layout ws t).turn.node.phase ≡ t.turn.node.phase
all_phase layout [] t = refl
all_phase layout (w ∷ ws) t =
    all_phase layout ws (ask layout w.need (block_of layout (line_of w.at)) t)
    ∙ ask_phase layout w.need (block_of layout (line_of w.at)) t

miss_printed : (layout : Shape) (b : ℕ) (need : Need) (t : Turn) (miss : Option Miss)
    → (with_miss layout b need t miss).printed ≡ t.printed
miss_printed layout b need t None = refl
miss_printed layout b need t (Some miss) = refl

block_printed : (layout : Shape) (b : ℕ) (need : Need) (t : Asked)
    → (ask_block layout b need t).turn.printed ≡ t.turn.printed
block_printed layout b need t = go (is_some (t.turn.node.wait b))
  where
    go : (s : Bool) → (cond s t.turn (want_in layout t.turn need (Some b))).printed ≡ t.turn.printed
    go true = refl
    go false = miss_printed layout b need t.turn _

ask_printed : (layout : Shape) (need : Need) (b : Option ℕ) (t : Asked)
    → (ask layout need b t).turn.printed ≡ t.turn.printed
ask_printed layout need None t = refl
ask_printed layout need (Some b) t = block_printed layout b need t

all_printed : (layout : Shape) (ws : List Want) (t : Asked)
    → (ask_all layout ws t).turn.printed ≡ t.turn.printed
all_printed layout [] t = refl
all_printed layout (w ∷ ws) t =
    all_printed layout ws (ask layout w.need (block_of layout (line_of w.at)) t)
    ∙ ask_printed layout w.need (block_of layout (line_of w.at)) t

byes_printed : (n : ℕ) (t : LaneTurn) (b : Bool) → (with_byes n t b).printed ≡ t.printed
byes_printed n t true = refl
byes_printed n t false = refl

pub word_printed : (w : LaneWork) (x : LaneNode) (k : ℕ)
    → (word_turn w x k).printed ≡ (word_outcome w.work (as_node x k)).printed
word_printed w x k = byes_printed w.work.layout.nodes (word_before w x k)
    (have_ended w (word_before w x k).node && not (have_ended w x))
    ∙ all_printed w.work.layout (wants_at w x k)
    (record { turn = after_word w.work (as_node x k); again = false })

no_wants : (budget executed : ℕ) (m : Move) → can_execute (phase_after budget executed m) ≡ true
    → wants_of m ≡ []
no_wants budget executed Next may = refl
no_wants budget executed Again may = refl
no_wants budget executed (To a) may = refl
no_wants budget executed (Enters a) may = refl
no_wants budget executed (Waits r want more) may = absurd (cc)
no_wants budget executed (Leaves e) may = refl

pub word_idle : (w : LaneWork) (x : LaneNode) (k : ℕ)
    → can_execute (part_after w x k).phase ≡ true → (part_after w x k).awaits ≡ []
word_idle w x k may =
    let layout = w.work.layout in
    let move = (word_outcome w.work (as_node x k)).move in
    let phase = all_phase layout (wants_at w x k)
    (record { turn = after_word w.work (as_node x k); again = false }) in
    let none : wants_of move ≡ [] =
    no_wants w.work.budget ((x.lanes k).executed + 1) move (ap can_execute (sym phase) ∙ may) in
    ap (λ ws. still (word_asked w x k).turn.node.wait (blocks_of layout (each_block_once layout ws)))
    none

-- so is one that a message lets go on
pub go_on_idle : (work : Work) (n : NodeMemory) (wait : ℕ → Option Wait) (p : LanePart) (ph : Phase)
    → p.phase ≡ ph → (can_execute ph ≡ true → p.awaits ≡ []) → (bs : List ℕ)
    → bs ≡ still wait p.awaits → can_execute (resume_part work n p ph bs).phase ≡ true
    → (resume_part work n p ph bs).awaits ≡ []
go_on_idle work n wait p Running is idle bs e may = e ∙ ap (still wait) (idle refl)
go_on_idle work n wait p Resumed is idle bs e may = e ∙ ap (still wait) (idle refl)
go_on_idle work n wait p (Waiting r) is idle [] e may = refl
go_on_idle work n wait p (Waiting r) is idle (b ∷ bs) e may =
    absurd (let bad : false ≡ true = ap can_execute (sym is) ∙ may in cc)
go_on_idle work n wait p (Ended end) is idle bs e may =
    absurd (let bad : false ≡ true = ap can_execute (sym is) ∙ may in cc)

pub resumed_idle : (work : Work) (n : Node) (p : LanePart)
    → (can_execute p.phase ≡ true → p.awaits ≡ [])
    → can_execute (resumed work n p).phase ≡ true → (resumed work n p).awaits ≡ []
resumed_idle work n p idle may =
    go_on_idle work n.local n.wait p p.phase refl idle (still n.wait p.awaits) refl may

-- 3. A lane has executed a word

-- a lane that waits for no block
some_not : (x y : Option ℕ) (b : ℕ) → option_to_list x ++ option_to_list y ≡ []
    → (x ≡ Some b) ⊎ (y ≡ Some b) → ⊥
some_not None None b none (inl e) = absurd (cc)
some_not None None b none (inr e) = absurd (cc)
some_not None (Some c) b none e = absurd (cc)
some_not (Some c) y b none e = absurd (cc)

is_none_by : (o : Option Wait) → (is_some o ≡ true → ⊥) → o ≡ None
is_none_by None f = refl
is_none_by (Some v) f = absurd (f refl)

pub not_awaited : (l : StoredLane) (b : ℕ) → awaits_of l.awaits ≡ [] → IsAwaited l b → ⊥
not_awaited l b none awaited = some_not l.awaits.first l.awaits.other b none awaited

same_number : (j k : ℕ) → j ≡ k → eqb j k ≡ true
same_number j k e = grind (arith, nat_tests)

pub may_at : (x : SmpNode) (k : ℕ) (l : StoredLane) → l ≡ get_or x.lanes.items k l → CanExecute x k
    → can_execute (part_of l).phase ≡ true
may_at x k l at may = ap (λ (z : StoredLane). can_execute (part_of z).phase) at ∙ may l

count_below : (p : ℕ → Bool) (m : ℕ) → count_of p m ≤ m
count_below p zero = omega arith
count_below p (suc m) = let r = count_below p m in go (p m) r
  where
    go : (t : Bool) → count_of p m ≤ m → cond t (count_of p m + 1) (count_of p m) ≤ suc m
    go true r = omega (arith, r)
    go false r = omega (arith, r)

fewer : (p : ℕ → Bool) (m k : ℕ) → k < m → p k ≡ false → count_of p m < m
fewer p zero k low going = absurd (omega (arith, low))
fewer p (suc m) k low going = elim (eqb_tells k m) [
  | inl t ↦ (let b = count_below p m in let here : p m ≡ false = ap p (sym t.1) ∙ going in
      subst (λ z. cond z (count_of p m + 1) (count_of p m) < suc m) (sym here) (omega (arith, b)))
  | inr t ↦ (let r = fewer p m k (let other = t.1 in omega (arith, other, low)) going in
      more (p m) (count_of p m) m r)
]
  where
    more : (t : Bool) (a m : ℕ) → a < m → cond t (a + 1) a < suc m
    more true a m l = omega (arith, l)
    more false a m l = omega (arith, l)

module _ (w : LaneWork) (x : SmpNode) (k : ℕ) (l m : StoredLane) (y : SmpNode) (is : IsNode w x)
    (low : k < length x.lanes.items) (at : l ≡ get_or x.lanes.items k l) where
  pub number : l.number ≡ k
  number = ap (λ (z : StoredLane). z.number) at ∙ (is.lanes.each k l low).number

  pub has_lane : (i : ℕ) → HasLane l x.shared (node_in w i x)
  has_lane i = record {
    lane = ap (node_in w i x).lanes number ∙ part_at w i x k l low ∙ ap part_of (sym at);
    shared = refl;
    ended = is.ended (node_in w i x) (have_parts w i x)
        ∙ ap (ended_in (node_in w i x)) (sym is.lanes.places);
  }

  pub work_is : work_of l x.shared ≡ w
  work_is =
      let each = is.lanes.each k l low in
      let image = ap (λ (z : StoredLane). z.state.image.now) at ∙ each.image in
      let budget = ap (λ (z : StoredLane). z.state.budget) at ∙ each.budget in
      λ t. record {
        work = record {
          program = is.lanes.program t;
          image = image t;
          layout = is.lanes.layout t;
          budget = budget t;
        };
        lanes = is.lanes.places t;
      }

  pub turn_is : (i : ℕ) → word_turn (work_of l x.shared) (node_in w i x) l.number
      ≡ word_turn w (node_in w i x) k
  turn_is i t = word_turn (work_is t) (node_in w i x) (number t)

  -- it has no wait of its own, as it waits for none
  pub waits_for_none : CanExecute x k → (b : ℕ) → wait_at x.shared.places.items l.number b ≡ None
  waits_for_none may b = is_none_by (wait_at x.shared.places.items l.number b) (λ some.
      let idle : awaits_of l.awaits ≡ [] =
      ap (λ (z : StoredLane). awaits_of z.awaits) at
      ∙ is.idle k l (subst (λ z. k < z) is.lanes.count low) (may l) in
      not_awaited l b idle (subst (λ (z : StoredLane). WaitsFor z x.shared) (sym at) (is.waits k l low) b some))

  -- and not all have ended, as it hasn't
  pub goes_on : CanExecute x k → x.shared.ended < length x.shared.places.items
  goes_on may =
      let x0 = node_in w 0 x in
      let count = is.ended x0 (have_parts w 0 x) in
      let going : has_ended x0 k ≡ false = ap (λ (p : LanePart). is_ended p.phase)
      (part_at w 0 x k l low) ∙ not_ended (part_of (get_or x.lanes.items k l)).phase (may l) in
      let some = fewer (has_ended x0) w.lanes k (subst (λ z. k < z) is.lanes.count low) going in
      let places = is.lanes.places in
      omega (arith, count, some, places)
    where
      not_ended : (p : Phase) → can_execute p ≡ true → is_ended p ≡ false
      not_ended Running may = refl
      not_ended Resumed may = refl
      not_ended (Waiting r) may = refl
      not_ended (Ended e) may = absurd (cc)

  module _ (items : y.lanes.items ≡ set x.lanes.items k m)
      (same_numbers : m.number ≡ l.number) where
    here : (d : StoredLane) → get_or y.lanes.items k d ≡ m
    here d = ap (λ z. get_or z k d) items ∙ get_or-set_same x.lanes.items k m d low

    there : (j : ℕ) (d : StoredLane) → j ≢ k → get_or y.lanes.items j d ≡ get_or x.lanes.items j d
    there j d other = ap (λ z. get_or z j d) items ∙ get_or-set_other x.lanes.items k j m d other

    many : length y.lanes.items ≡ length x.lanes.items
    many = ap length items ∙ length-set x.lanes.items k m

    lane_after : (i j : ℕ) → (node_in w i y).lanes j
        ≡ cond (eqb j k) (part_of m) ((node_in w i x).lanes j)
    lane_after i j =
        let d = first_part w (processor_of w i j) in
        ap (λ z. get_or (map part_of z) j d) items
        ∙ ap (λ z. get_or z j d) (map-set part_of x.lanes.items k m) ∙ (elim (eqb_tells j k) [
          | inl t ↦ rw t.0 (ap (λ z. get_or (set (map part_of x.lanes.items) k (part_of m)) z d) t.1
              ∙ get_or-set_same (map part_of x.lanes.items) k (part_of m) d
              (subst (λ z. k < z) (sym (length-map x.lanes.items part_of)) low))
          | inr t ↦ rw t.0 (get_or-set_other (map part_of x.lanes.items) k j (part_of m) d t.1)
        ])

    pub node_after : (i : ℕ) → node_in w i y ≡ with_lane (node_in w i x) m y.shared
    node_after i =
        let num : m.number ≡ k = same_numbers ∙ number in
        let lane : (j : ℕ) → (node_in w i y).lanes j
        ≡ cond (eqb j m.number) (part_of m) ((node_in w i x).lanes j) = (λ j. lane_after i j
        ∙ ap (λ z. cond (eqb j z) (part_of m) ((node_in w i x).lanes j)) (sym num)) in
        λ t. record { lanes = fun_ext lane t; shared = shared_of y.shared }

    -- each other lane is as it was
    by_lane : (P : ℕ → StoredLane → Type 0) → P k m
        → ((j : ℕ) (d : StoredLane) → j < length x.lanes.items → j ≢ k → P j (get_or x.lanes.items j d))
        → (j : ℕ) (d : StoredLane) → j < length y.lanes.items → P j (get_or y.lanes.items j d)
    by_lane P this others j d below = elim (eqb_tells j k) [
      | inl t ↦ subst (λ z. P z (get_or y.lanes.items z d)) (sym t.1) (subst (P k) (sym (here d)) this)
      | inr t ↦ subst (P j) (sym (there j d t.1)) (others j d (subst (λ z. j < z) many below) t.1)
    ]

    pub lanes_after : work_of m y.shared ≡ work_of l x.shared → AreLanes w y.lanes.items y.shared
    lanes_after same =
        let all : work_of m y.shared ≡ w = same ∙ work_is in
        record {
          count = many ∙ is.lanes.count;
          places = ap (λ (z : LaneWork). z.lanes) all;
          program = ap (λ (z : LaneWork). z.work.program) all;
          layout = ap (λ (z : LaneWork). z.work.layout) all;
          each = by_lane (IsLaneOf w) (record {
            image = ap (λ (z : LaneWork). z.work.image) all;
            budget = ap (λ (z : LaneWork). z.work.budget) all;
            number = same_numbers ∙ number;
          }) (λ j d below other. is.lanes.each j d below);
        }

    pub waits_after : WaitsFor m y.shared → ((j b : ℕ) → j ≢ l.number
        → wait_at y.shared.places.items j b ≡ wait_at x.shared.places.items j b)
        → AllWaitFor y.lanes.items y.shared
    waits_after this others = by_lane (λ j z. WaitsFor z y.shared) this (λ j d below other b some.
        let num = (is.lanes.each j d below).number in
        let apart : (get_or x.lanes.items j d).number ≢ l.number =
        (λ e. other (sym num ∙ e ∙ number)) in
        is.waits j d below b
        (ap is_some (sym (others (get_or x.lanes.items j d).number b apart)) ∙ some))

    pub held_after : IsHeld m y.shared
        → ((b : ℕ) → is_some (wait_among (waits_in x.shared.places.items) b) ≡ true
        → is_some (wait_among (waits_in y.shared.places.items) b) ≡ true)
        → AllHeld y.lanes.items y.shared
    held_after this more = by_lane (λ j z. IsHeld z y.shared) this
        (λ j d below other b awaited. more b (is.held j d below b awaited))

    pub idle_after : (can_execute (part_of m).phase ≡ true → (part_of m).awaits ≡ [])
        → (j : ℕ) (d : StoredLane) → j < w.lanes
        → can_execute (part_of (get_or y.lanes.items j d)).phase ≡ true
        → (part_of (get_or y.lanes.items j d)).awaits ≡ []
    idle_after this j d below = by_lane
        (λ j z. can_execute (part_of z).phase ≡ true → (part_of z).awaits ≡ []) this
        (λ j d below other. is.idle j d (subst (λ z. j < z) is.lanes.count below))
        j d (subst (λ z. j < z) (sym (many ∙ is.lanes.count)) below)

    pub turn_after : (i : ℕ) (posts : List Post) (out : Option ℕ)
        → with_lane (node_in w i x) m y.shared
        ≡ (word_turn (work_of l x.shared) (node_in w i x) l.number).node
        → posts ≡ (word_turn (work_of l x.shared) (node_in w i x) l.number).sends
        → out ≡ (word_turn (work_of l x.shared) (node_in w i x) l.number).printed
        → word_turn w (node_in w i x) k ≡ lane_turn (node_in w i y) posts out
    turn_after i posts out node sends printed =
        let en = node_after i ∙ node in
        sym (turn_is i) ∙ sym (λ t. record { node = en t; sends = sends t; printed = printed t })

    pub node_then : work_of m y.shared ≡ work_of l x.shared → WaitsFor m y.shared
        → IsHeld m y.shared
        → ((b : ℕ) → is_some (wait_among (waits_in x.shared.places.items) b) ≡ true
        → is_some (wait_among (waits_in y.shared.places.items) b) ≡ true)
        → ((j b : ℕ) → j ≢ l.number
        → wait_at y.shared.places.items j b ≡ wait_at x.shared.places.items j b)
        → ((z : LaneNode) → HasLane l x.shared z → HasLane m y.shared (with_lane z m y.shared))
        → ((z : LaneNode) → HasLane l x.shared z
        → with_lane z m y.shared ≡ (word_turn (work_of l x.shared) z l.number).node) → IsNode w y
    node_then same waits held more others ended node =
        let lanes = lanes_after same in
        let x0 = node_in w 0 x in
        let has = has_lane 0 in
        let turn : with_lane x0 m y.shared ≡ (word_turn w x0 k).node =
        node x0 has ∙ ap (λ (z : LaneTurn). z.node) (turn_is 0) in
        let part : part_of m ≡ part_after w x0 k =
        ap (λ b. cond b (part_of m) (x0.lanes m.number)) (sym (same_number m.number m.number refl))
        ∙ ap (λ (z : LaneNode). z.lanes m.number) (turn
        ∙ byes_node w.work.layout.nodes (word_before w x0 k)
        (have_ended w (word_before w x0 k).node && not (have_ended w x0)))
        ∙ ap (λ b. cond b (part_after w x0 k) (x0.lanes m.number))
        (same_number m.number k (same_numbers ∙ number)) in
        record {
          lanes = lanes;
          waits = waits_after waits others;
          held = held_after held more;
          ended = λ z parts. ended_parts w 0 y z w.lanes y.shared.ended lanes.count
              ((ended x0 has).ended ∙ ap (ended_in (with_lane x0 m y.shared)) lanes.places
              ∙ ap (λ (v : LaneNode). ended_in v w.lanes) (sym (node_after 0))) parts;
          idle = idle_after (subst (λ (p : LanePart). can_execute p.phase ≡ true → p.awaits ≡ [])
              (sym part) (word_idle w x0 k));
        }

-- 4. The node has taken a message

-- as many lanes in place of those of before
pub refilled : {X : Type 0} (xs ws : List X) → length ws ≡ length xs
    → take (length xs) (ws ++ drop (length ws) xs) ≡ ws
refilled [] [] e = refl
refilled [] (w ∷ ws) e = absurd (cc)
refilled (x ∷ xs) [] e = absurd (cc)
refilled (x ∷ xs) (w ∷ ws) e = ap (λ z. w ∷ z) (refilled xs ws (omega (arith, e)))

pub lanes_placed : {X : Type 0} (v : Vec X) (ws : List X) → length ws ≡ length v.items
    → (with_items v ws).items ≡ ws
lanes_placed v ws count =
    ap (λ n. take n (ws ++ drop (length ws) v.items)) v.ok.0 ∙ refilled v.items ws count

module _ (w : LaneWork) (x y : SmpNode) (j : ℕ) (wire : Wire) (is : IsNode w x)
    (lanes : AreLanes w y.lanes.items y.shared) where
  pub have_lanes : (i : ℕ) → HaveLanes x.lanes.items x.shared (node_in w i x)
  have_lanes i = record {
    lanes = have_parts w i x;
    shared = refl;
    ended = is.ended (node_in w i x) (have_parts w i x)
        ∙ ap (ended_in (node_in w i x)) (sym is.lanes.places);
  }

  taken_node : (i : ℕ) → (take_turn w (node_in w i x) j wire).node
      ≡ after_message w (node_in w i x) j wire
  taken_node i = byes_node w.work.layout.nodes _ _

  past : (i : ℕ) (v : SmpNode) (k : ℕ) → length v.lanes.items ≡ w.lanes → w.lanes ≤ k
      → (node_in w i v).lanes k ≡ first_part w (processor_of w i k)
  past i v k count high = get_or_past (map part_of v.lanes.items) k (first_part w (processor_of w i k))
      (subst (λ z. z ≤ k) (sym (length-map v.lanes.items part_of ∙ count)) high)

  pub taken_is : (i : ℕ)
      → HaveLanes y.lanes.items y.shared (take_turn w (node_in w i x) j wire).node
      → node_in w i y ≡ (take_turn w (node_in w i x) j wire).node
  taken_is i have =
      let n = (handled_for w (node_in w i x) j wire 0).node in
      let lane : (k : ℕ) → (node_in w i y).lanes k
      ≡ (take_turn w (node_in w i x) j wire).node.lanes k = (λ k. elim (leb_tells (suc k) w.lanes) [
        | inl p ↦ (let low : k < length y.lanes.items = subst (λ z. k < z) (sym lanes.count) p.1 in
            let d = a_lane y.lanes.items k low in
            part_at w i y k d low ∙ sym (have.lanes k d low))
        | inr p ↦ (let high : w.lanes ≤ k = (let z = p.1 in omega (arith, z)) in
            past i y k lanes.count high
            ∙ ap (resumed w.work n) (sym (past i x k is.lanes.count high))
            ∙ ap (λ (z : LaneNode). z.lanes k) (sym (taken_node i)))
      ]) in
      let shared = have.shared in
      λ t. record { lanes = fun_ext lane t; shared = sym shared t }
    where
      a_lane : (ls : List StoredLane) (k : ℕ) → k < length ls → StoredLane
      a_lane [] k low = absurd (omega (arith, low))
      a_lane (l ∷ ls) k low = l

  pub taken_turn : (i : ℕ) (posts : List Post) (out : Option ℕ)
      → HaveLanes y.lanes.items y.shared (take_turn w (node_in w i x) j wire).node
      → posts ≡ (take_turn w (node_in w i x) j wire).sends → out ≡ None
      → take_turn w (node_in w i x) j wire ≡ lane_turn (node_in w i y) posts out
  taken_turn i posts out have sends printed =
      let en = taken_is i have in
      let none : out ≡ (take_turn w (node_in w i x) j wire).printed = printed
      ∙ sym (byes_printed w.work.layout.nodes _ _) in
      sym (λ t. record { node = en t; sends = sends t; printed = none t })

  pub taken_then : AllWaitFor y.lanes.items y.shared → AllHeld y.lanes.items y.shared
      → HaveLanes y.lanes.items y.shared (take_turn w (node_in w 0 x) j wire).node → IsNode w y
  taken_then waits held have =
      let x0 = node_in w 0 x in
      let n = (handled_for w x0 j wire 0).node in
      record {
        lanes = lanes;
        waits = waits;
        held = held;
        ended = λ z parts. ended_parts w 0 y z w.lanes y.shared.ended lanes.count
            (have.ended ∙ ap (ended_in (take_turn w x0 j wire).node) lanes.places
            ∙ ap (λ (v : LaneNode). ended_in v w.lanes) (sym (taken_is 0 have))) parts;
        idle = λ k d low.
            let below : k < length y.lanes.items = subst (λ z. k < z) (sym lanes.count) low in
            let before : k < length x.lanes.items = subst (λ z. k < z) (sym is.lanes.count) low in
            let part : part_of (get_or y.lanes.items k d) ≡ resumed w.work n (part_of (get_or x.lanes.items k d)) =
            sym (have.lanes k d below) ∙ ap (λ (z : LaneNode). z.lanes k) (taken_node 0)
            ∙ ap (resumed w.work n) (part_at w 0 x k d before) in
            subst (λ (p : LanePart). can_execute p.phase ≡ true → p.awaits ≡ []) (sym part)
            (resumed_idle w.work n (part_of (get_or x.lanes.items k d)) (is.idle k d low));
      }

-- 5. A node with more room stands for the same

pub same_node : (w : LaneWork) (x : SmpNode) (f : StoredShared) → IsNode w x
    → f.places.items ≡ x.shared.places.items
    → ground_of f.state.body.value.local ≡ ground_of x.shared.state.body.value.local
    → f.ended ≡ x.shared.ended → IsNode w (record x { shared = f })
same_node w x f is places ground ended = record {
  lanes = record {
    count = is.lanes.count;
    places = ap length places ∙ is.lanes.places;
    program = ap (λ (g : Ground). program_of g.program) ground ∙ is.lanes.program;
    layout = ap (λ (g : Ground). g.layout) ground ∙ is.lanes.layout;
    each = is.lanes.each;
  };
  waits = λ k d low b some. is.waits k d low b
      (ap (λ (ps : List LaneProtocol). is_some (wait_at ps (get_or x.lanes.items k d).number b)) (sym places)
      ∙ some);
  held = λ k d low b awaited.
      ap (λ (ps : List LaneProtocol). is_some (wait_among (waits_in ps) b)) places
      ∙ is.held k d low b awaited;
  ended = λ y parts. ended ∙ is.ended y parts;
  idle = is.idle;
}

-- 6. One that stores the same stands for the same

pub same_parts : (w : LaneWork) (x y : SmpNode) → y.lanes.items ≡ x.lanes.items
    → IsSameShared x.shared y.shared → IsNode w x → IsNode w y
same_parts w x y items shared here =
    let is = same_node w x y.shared here shared.places shared.ground shared.ended in
    record {
      lanes = subst (λ ls. AreLanes w ls y.shared) (sym items) is.lanes;
      waits = subst (λ ls. AllWaitFor ls y.shared) (sym items) is.waits;
      held = subst (λ ls. AllHeld ls y.shared) (sym items) is.held;
      ended = subst (λ ls. (z : LaneNode) → HaveParts ls z → y.shared.ended ≡ ended_in z w.lanes)
          (sym items) is.ended;
      idle = subst (λ ls. (k : ℕ) (d : StoredLane) → k < w.lanes
          → can_execute (part_of (get_or ls k d)).phase ≡ true
          → (part_of (get_or ls k d)).awaits ≡ []) (sym items) is.idle;
    }

pub same_view : (w : LaneWork) (i : ℕ) (x y : SmpNode) → y.lanes.items ≡ x.lanes.items
    → shared_of y.shared ≡ shared_of x.shared → node_in w i y ≡ node_in w i x
same_view w i x y items shared = λ t. record {
  lanes = λ k. get_or (map part_of (items t)) k (first_part w (processor_of w i k));
  shared = shared t;
}

-- by what a call answered
pub by_answer : {P : Type 0} (b : Bool) → (b ≡ true → P) → (b ≡ false → P) → P
by_answer true then other = then refl
by_answer false then other = other refl
