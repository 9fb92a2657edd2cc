-- Events of nodes and lists, as they are stored.
use Rattle.std.proofs.Common.{◌≡◌, ℕ, suc, ◌+◌, ◌<◌, ◌≤◌, Bool, true, false, cond, eqb, ltb, ◌&&◌, List, [], ◌∷◌, ◌++◌, map, length, get_or, set, Option, Result, Ok, Err, OnOk, OnErr, refl, sym, ap, ◌∙◌, subst, inl, inr, arith}
use Rattle.std.specs.Prelude.{All}
use Rattle.std.specs.Option.{option_to_list}
use Rattle.std.proofs.Math.Path.{fun_ext}
use Rattle.std.proofs.lemmas.List.{append-nil, get_or-map, get_or-set_same, get_or-set_other, map-set, set-get_or, length-map, length-set}
use Rattle.std.proofs.lemmas.List.Elements.{All-append, All-cons, All-head, All-nil, All-tail}
use Rattle.std.proofs.lemmas.Bool.Decides.{eqb_tells, leb_tells, nat_tests}
use Rattle.home_directory.specs.dsm_messages.declared.messages.Post.{Post}
use Rattle.home_directory.specs.dsm_messages.declared.messages.Wire.{Wire}
use Rattle.lane_model.specs.node_model.Node.{Phase, Running, Resumed, Waiting, Ended, can_execute, word_outcome}
use Rattle.lane_model.specs.node_model.Turns.{later}
use Rattle.lane_model.specs.node_model.Core.{may_execute, wires_to}
use Rattle.lane_law.specs.dsm_protocol.Queue.{Queue, wires_of, AreQueues, SameWires, IsSent, IsTaken}
use Rattle.lane_model.specs.Nodes.{LaneWork, LaneNode, LanePart, as_node, node_of, lane_of, opening_node}
use Rattle.lane_model.specs.Turns.{LaneTurn, word_turn, take_turn}
use Rattle.lane_model.specs.Core.{LaneCore, Exec, Take, standing_in, standing_of, with_turn, with_list, take_first, event_step}
use Rattle.lane_machine.specs.Stored.{lane_turn}
use Rattle.lane_machine.specs.declared.node.SmpNode.{SmpNode}
use Rattle.lane_machine.specs.SmpNodes.{IsNode, node_in}
use Rattle.smp_sim.specs.CoreParts.{AreAlike, AreNodes, AreStored, HasStamps, core_with}
use Rattle.lane_machine.specs.SmpNodes.{CanExecute}
use Rattle.smp_sim.specs.CoreSteps.{HaveMade}
use Rattle.lane_machine.proofs.NodeLemmas.{part_at, word_printed}
use Rattle.smp_sim.proofs.CoreRuns.{alike_same}

-- 1. A place of the nodes

pub read_at : {Y : Type 0} (f : SmpNode → Y) (ns : List SmpNode) (i : ℕ) (x : SmpNode) (d : Y)
    → i < length ns → x ≡ get_or ns i x → get_or (map f ns) i d ≡ f x
read_at f ns i x d below is = get_or-map f ns i x d below ∙ ap f (sym is)

-- what stands for the same took its place
pub set_same : {Y : Type 0} (f : SmpNode → Y) (ns : List SmpNode) (i : ℕ) (x y : SmpNode)
    → i < length ns → x ≡ get_or ns i x → f y ≡ f x → map f (set ns i y) ≡ map f ns
set_same f ns i x y below is e = map-set f ns i y
    ∙ ap (λ z. set (map f ns) i z) (e ∙ sym (read_at f ns i x (f y) below is))
    ∙ set-get_or (map f ns) i (f y)

-- another node took its place
pub set_node : (w : LaneWork) (ns : List SmpNode) (i k : ℕ) (y : SmpNode) (d : LaneNode)
    → i < length ns → get_or (map (node_in w k) (set ns i y)) k d
    ≡ cond (eqb k i) (node_in w i y) (get_or (map (node_in w k) ns) k d)
set_node w ns i k y d below = ap (λ z. get_or z k d) (map-set (node_in w k) ns i y)
    ∙ (elim (eqb_tells k i) [
      | inl t ↦ rw t.0 (ap (λ z. get_or (set (map (node_in w k) ns) i (node_in w k y)) z d) t.1
          ∙ get_or-set_same (map (node_in w k) ns) i (node_in w k y) d
          (subst (λ z. i < z) (sym (length-map ns (node_in w k))) below)
          ∙ ap (λ z. node_in w z y) t.1)
      | inr t ↦ rw t.0 (get_or-set_other (map (node_in w k) ns) i k (node_in w k y) d t.1)
    ])

pub node_at : (w : LaneWork) (ns : List SmpNode) (i : ℕ) (x : SmpNode) → AreNodes w ns
    → i < length ns → x ≡ get_or ns i x → IsNode w x
node_at w ns i x are below is = subst (IsNode w) (sym is) (are i x below)

pub stored_then : (w : LaneWork) (ns : List SmpNode) (qs rs : List Queue) (i : ℕ) (y : SmpNode)
    → AreStored w ns qs → i < length ns → IsNode w y → AreQueues rs w.work.layout.nodes
    → AreStored w (set ns i y) rs
stored_then w ns qs rs i y are below is queues = record {
  count = length-set ns i y ∙ are.count;
  queues = queues;
  each = λ k d low. elim (eqb_tells k i) [
    | inl t ↦ subst (IsNode w) (sym (ap (λ z. get_or (set ns i y) z d) t.1
        ∙ get_or-set_same ns i y d below)) is
    | inr t ↦ subst (IsNode w) (sym (get_or-set_other ns i k y d t.1))
        (are.each k d (subst (λ z. k < z) (length-set ns i y) low))
  ];
}

-- 2. Nothing but room was changed

same_list : (q0 q1 : List Queue) (n : ℕ) → SameWires q0 q1 n → (j i : ℕ)
    → wires_of q1 n j i ≡ wires_of q0 n j i
same_list q0 q1 n same j i = elim (leb_tells (suc j) n) [
  | inl p ↦ elim (leb_tells (suc i) n) [
    | inl q ↦ same j i p.1 q.1
    | inr q ↦ (let t : (ltb j n && ltb i n) ≡ false = (let z = q.1 in grind (arith, nat_tests)) in
        rw t refl)
  ]
  | inr p ↦ (let t : (ltb j n && ltb i n) ≡ false = (let z = p.1 in grind (arith, nat_tests)) in
      rw t refl)
]

pub core_same : (w : LaneWork) (ns ms : List SmpNode) (q0 q1 : List Queue)
    → ((k : ℕ) → map (node_in w k) ms ≡ map (node_in w k) ns)
    → SameWires q0 q1 w.work.layout.nodes → core_with w ms q1 ≡ core_with w ns q0
core_same w ns ms q0 q1 nodes wires t = record {
  nodes = fun_ext (λ i. ap (λ z. get_or z i (opening_node w i)) (nodes i)) t;
  list = fun_ext (λ j. fun_ext (λ i. same_list q0 q1 w.work.layout.nodes wires j i)) t;
}

-- 3. A turn

pub turned : (w : LaneWork) (i : ℕ) (ns : List SmpNode) (y : SmpNode) (q1 q2 : List Queue)
    (stamp : ℕ) (posts : List Post) (out : Option ℕ) (base : LaneCore)
    → i < length ns → stamp ≡ y.shared.state.stamp
    → AreAlike w.work.layout.nodes (core_with w ns q1) base
    → IsSent q1 q2 w.work.layout.nodes i stamp posts
    → AreAlike w.work.layout.nodes (core_with w (set ns i y) q2)
    (with_turn base i (lane_turn (node_in w i y) posts out))
turned w i ns y q1 q2 stamp posts out base below es a sent = record {
  nodes = λ k bk. set_node w ns i k y (opening_node w k) below
      ∙ ap (λ z. cond (eqb k i) (node_in w i y) z) (a.nodes k bk);
  lists = λ j k bj bk. sent j k bj bk
      ∙ ap (λ z. cond (eqb j i) (z ++ wires_to stamp k posts) z) (a.lists j k bj bk)
      ∙ ap (λ z. cond (eqb j i) (base.list j k ++ wires_to z k posts) (base.list j k)) es;
}

wider : (most : ℕ) (ws : List Wire) → All (λ (wire : Wire). wire.stamp ≤ most) ws
    → All (λ (wire : Wire). wire.stamp ≤ most + 1) ws
wider most ws h k d low = let a = h k d low in omega (arith, a)

sent_within : (stamp k most : ℕ) (posts : List Post) → stamp ≤ most
    → All (λ (wire : Wire). wire.stamp ≤ most) (wires_to stamp k posts)
sent_within stamp k most [] le = All-nil (λ (wire : Wire). wire.stamp ≤ most)
sent_within stamp k most (p ∷ ps) le = let more = sent_within stamp k most ps le in
    go (eqb p.to k) more
  where
    go : (b : Bool) → All (λ (wire : Wire). wire.stamp ≤ most) (wires_to stamp k ps)
        → All (λ (wire : Wire). wire.stamp ≤ most)
        (cond b (record { stamp = stamp; message = p.message } ∷ wires_to stamp k ps)
        (wires_to stamp k ps))
    go true more = All-cons (λ (wire : Wire). wire.stamp ≤ most)
        (record { stamp = stamp; message = p.message }) (wires_to stamp k ps) le more
    go false more = more

stamps_then : (w : LaneWork) (i : ℕ) (ns : List SmpNode) (y : SmpNode) (q1 q2 : List Queue)
    (stamp most : ℕ) (posts : List Post)
    → i < length ns → stamp ≡ y.shared.state.stamp → y.shared.state.stamp ≤ most + 1
    → ((k : ℕ) → k < w.work.layout.nodes → ((core_with w ns q1).nodes k).shared.stamp ≤ most)
    → ((j k : ℕ) → j < w.work.layout.nodes → k < w.work.layout.nodes
    → All (λ (wire : Wire). wire.stamp ≤ most) (wires_of q1 w.work.layout.nodes j k))
    → IsSent q1 q2 w.work.layout.nodes i stamp posts
    → HasStamps w.work.layout.nodes (most + 1) (core_with w (set ns i y) q2)
stamps_then w i ns y q1 q2 stamp most posts below es le nodes wires sent = record {
  nodes = λ k bk. subst (λ (z : LaneNode). z.shared.stamp ≤ most + 1)
      (sym (set_node w ns i k y (opening_node w k) below)) (by_node k bk (eqb k i));
  wires = λ j k bj bk. subst (All (λ (wire : Wire). wire.stamp ≤ most + 1))
      (sym (sent j k bj bk)) (by_list j k bj bk (eqb j i));
}
  where
    by_node : (k : ℕ) → k < w.work.layout.nodes → (b : Bool)
        → (cond b (node_in w i y) ((core_with w ns q1).nodes k)).shared.stamp ≤ most + 1
    by_node k bk true = le
    by_node k bk false = let a = nodes k bk in omega (arith, a)

    by_list : (j k : ℕ) → j < w.work.layout.nodes → k < w.work.layout.nodes → (b : Bool)
        → All (λ (wire : Wire). wire.stamp ≤ most + 1)
        (cond b (wires_of q1 w.work.layout.nodes j k ++ wires_to stamp k posts)
        (wires_of q1 w.work.layout.nodes j k))
    by_list j k bj bk true = All-append (λ (wire : Wire). wire.stamp ≤ most + 1)
        (wires_of q1 w.work.layout.nodes j k) (wires_to stamp k posts)
        (wider most (wires_of q1 w.work.layout.nodes j k) (wires j k bj bk))
        (sent_within stamp k (most + 1) posts (omega (arith, es, le)))
    by_list j k bj bk false = wider most (wires_of q1 w.work.layout.nodes j k) (wires j k bj bk)

-- a processor has executed a word
pub executed : (w : LaneWork) (p : ℕ) (ns0 ns1 : List SmpNode) (q0 q1 q2 : List Queue)
    (o0 o1 o2 : List ℕ) (x y : SmpNode) (stamp : ℕ) (posts : List Post) (out : Option ℕ)
    → node_of w p < length ns1 → x ≡ get_or ns1 (node_of w p) x
    → core_with w ns1 q1 ≡ core_with w ns0 q0
    → IsSent q1 q2 w.work.layout.nodes (node_of w p) stamp posts
    → word_turn w (node_in w (node_of w p) x) (lane_of w p)
    ≡ lane_turn (node_in w (node_of w p) y) posts out
    → stamp ≡ y.shared.state.stamp → y.shared.state.stamp ≡ x.shared.state.stamp + 1
    → node_of w p < w.work.layout.nodes → o1 ≡ o0 → o2 ≡ o1 ++ option_to_list out
    → HaveMade w ns0 (set ns1 (node_of w p) y) q0 q2 o0 o2 (Exec p)
executed w p ns0 ns1 q0 q1 q2 o0 o1 o2 x y stamp posts out below is same sent turn es next bi
    kept more =
    let i = node_of w p in
    let k = lane_of w p in
    let n = w.work.layout.nodes in
    let base = core_with w ns1 q1 in
    let at : base.nodes i ≡ node_in w i x = read_at (node_in w i) ns1 i x (opening_node w i) below is in
    let here : word_turn w (base.nodes i) k ≡ lane_turn (node_in w i y) posts out =
    ap (λ z. word_turn w z k) at ∙ turn in
    let was : (core_with w ns0 q0).nodes i ≡ node_in w i x =
    ap (λ (c : LaneCore). c.nodes i) (sym same) ∙ at in
    record {
      event = subst (λ (c : LaneCore). AreAlike n (core_with w (set ns1 i y) q2) (event_step w c (Exec p)))
          same (subst (λ (t : LaneTurn). AreAlike n (core_with w (set ns1 i y) q2) (with_turn base i t))
          (sym here)
          (turned w i ns1 y q1 q2 stamp posts out base below es (alike_same n base) sent));
      output = more ∙ ap (λ z. z ++ option_to_list out) kept
          ∙ ap (λ z. o0 ++ option_to_list z) (sym (ap (λ (t : LaneTurn). t.printed) turn)
          ∙ word_printed w (node_in w i x) k
          ∙ ap (λ z. (word_outcome w.work (as_node z k)).printed) (sym was));
      stamps = λ most h.
          let old : x.shared.state.stamp ≤ most =
          subst (λ (z : LaneNode). z.shared.stamp ≤ most) was (h.nodes i bi) in
          let here_now = subst (HasStamps n most) (sym same) h in
          stamps_then w i ns1 y q1 q2 stamp most posts below es (omega (arith, next, old))
          here_now.nodes here_now.wires sent;
    }

-- a node has taken a message
pub taken : (w : LaneWork) (i j : ℕ) (ns0 ns1 : List SmpNode) (q0 q1 q2 q3 : List Queue)
    (o0 o1 : List ℕ) (x y : SmpNode) (stamp : ℕ) (posts : List Post) (out : Option ℕ) (wire : Wire)
    → i < length ns1 → x ≡ get_or ns1 i x → core_with w ns1 q1 ≡ core_with w ns0 q0
    → IsTaken q1 q2 w.work.layout.nodes j i wire → IsSent q2 q3 w.work.layout.nodes i stamp posts
    → take_turn w (node_in w i x) j wire ≡ lane_turn (node_in w i y) posts out
    → stamp ≡ y.shared.state.stamp → y.shared.state.stamp ≡ later x.shared.state.stamp wire.stamp + 1
    → i < w.work.layout.nodes → j < w.work.layout.nodes → o1 ≡ o0
    → HaveMade w ns0 (set ns1 i y) q0 q3 o0 o1 (Take i j)
taken w i j ns0 ns1 q0 q1 q2 q3 o0 o1 x y stamp posts out wire below is same first sent turn es
    next bi bj kept =
    let n = w.work.layout.nodes in
    let core = core_with w ns1 q1 in
    let rest = wires_of q2 n j i in
    let base = with_list core j i rest in
    let at : core.nodes i ≡ node_in w i x = read_at (node_in w i) ns1 i x (opening_node w i) below is in
    let here : take_turn w (core.nodes i) j wire ≡ lane_turn (node_in w i y) posts out =
    ap (λ z. take_turn w z j wire) at ∙ turn in
    let was : (core_with w ns0 q0).nodes i ≡ node_in w i x =
    ap (λ (c : LaneCore). c.nodes i) (sym same) ∙ at in
    let alike : AreAlike n (core_with w ns1 q2) base = record {
      nodes = λ k bk. refl;
      lists = λ a b ba bb. first.others a b ba bb;
    } in
    record {
      event = subst (λ (c : LaneCore). AreAlike n (core_with w (set ns1 i y) q3)
          (event_step w c (Take i j))) same
          (subst (λ (c : LaneCore). AreAlike n (core_with w (set ns1 i y) q3) c)
          (sym (ap (take_first w core i j) first.first))
          (subst (λ (t : LaneTurn). AreAlike n (core_with w (set ns1 i y) q3) (with_turn base i t))
          (sym here) (turned w i ns1 y q2 q3 stamp posts out base below es alike sent)));
      output = kept ∙ sym (append_none o0);
      stamps = λ most h.
          let old : x.shared.state.stamp ≤ most =
          subst (λ (z : LaneNode). z.shared.stamp ≤ most) was (h.nodes i bi) in
          let now = subst (HasStamps n most) (sym same) h in
          let front = subst (All (λ (v : Wire). v.stamp ≤ most)) first.first (now.wires j i bj bi) in
          let wired : wire.stamp ≤ most = All-head (λ (v : Wire). v.stamp ≤ most) wire rest front in
          let left = All-tail (λ (v : Wire). v.stamp ≤ most) wire rest front in
          let high = later_within x.shared.state.stamp wire.stamp most old wired in
          stamps_then w i ns1 y q2 q3 stamp most posts below es (omega (arith, next, high))
          now.nodes (λ a b ba bb. subst (All (λ (v : Wire). v.stamp ≤ most))
          (sym (first.others a b ba bb))
          (either most rest (core.list a b) left (now.wires a b ba bb) (eqb a j && eqb b i))) sent;
    }
  where
    append_none : (xs : List ℕ) → xs ++ [] ≡ xs
    append_none [] = refl
    append_none (x ∷ xs) = ap (λ z. x ∷ z) (append_none xs)

    later_within : (s t m : ℕ) → s ≤ m → t ≤ m → later s t ≤ m
    later_within s t m p q = go (ltb s t)
      where
        go : (b : Bool) → cond b t s ≤ m
        go true = q
        go false = p

    either : (m : ℕ) (a b : List Wire) → All (λ (v : Wire). v.stamp ≤ m) a
        → All (λ (v : Wire). v.stamp ≤ m) b → (t : Bool)
        → All (λ (v : Wire). v.stamp ≤ m) (cond t a b)
    either m a b p q true = p
    either m a b p q false = q

-- nothing is sent
pub no_posts : (qs : List Queue) (n i stamp : ℕ) → IsSent qs qs n i stamp []
no_posts qs n i stamp x k bx bk = go (eqb x i)
  where
    go : (b : Bool) → wires_of qs n x k
        ≡ cond b (wires_of qs n x k ++ wires_to stamp k []) (wires_of qs n x k)
    go true = sym (append-nil (wires_of qs n x k))
    go false = refl

-- 4. An event that is allowed can be made

pub can_by : (w : LaneWork) (x : LaneNode) (k : ℕ) (p : Phase)
    → may_execute (standing_in w x k p) ≡ true → can_execute p ≡ true
can_by w x k Running may = refl
can_by w x k Resumed may = refl
can_by w x k (Waiting r) may = absurd (cc)
can_by w x k (Ended e) may = absurd (cc)

pub can_execute_by : (w : LaneWork) (i k : ℕ) (x : SmpNode) → k < length x.lanes.items
    → may_execute (standing_of w (node_in w i x) k) ≡ true → CanExecute x k
can_execute_by w i k x low may d =
    subst (λ (p : LanePart). can_execute p.phase ≡ true) (part_at w i x k d low)
    (can_by w (node_in w i x) k ((node_in w i x).lanes k).phase may)

-- 5. What holds of a call's result

pub on_ok : {A E P Q : Type 0} (r : Result A E) → (P → Q) → OnOk r P → OnOk r Q
on_ok (Ok x) f p = f p
on_ok (Err e) f p = tt

pub on_err : {A E P Q : Type 0} (r : Result A E) → (P → Q) → OnErr r P → OnErr r Q
on_err (Ok x) f p = tt
on_err (Err e) f p = f p
