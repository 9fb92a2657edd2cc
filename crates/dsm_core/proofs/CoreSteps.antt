-- Events of nodes and lists, as they are stored.
use Rattle.std.proofs.Common.{◌≡◌, ℕ, suc, ◌<◌, false, cond, eqb, ltb, ◌&&◌, List, [], ◌∷◌, ◌++◌, map, length, get_or, set, Result, Ok, Err, IfOk, OnOk, OnErr, refl, sym, ap, ◌∙◌, subst, inl, inr, arith}
use Rattle.std.proofs.Math.Path.{fun_ext}
use Rattle.std.proofs.lemmas.List.{get_or-map, get_or-set_same, get_or-set_other, get_or_past, get_or_push, get_or_append_left, map-set, map_push, set-get_or, length-map, length-append}
use Rattle.std.proofs.lemmas.Bool.Decides.{eqb_tells, leb_tells, nat_tests}
use Rattle.rewriting_law.specs.dsm_messages.declared.messages.Post.{Post}
use Rattle.rewriting_law.specs.dsm_messages.declared.messages.Wire.{Wire}
use Rattle.run_order.specs.node_model.Node.{Work, Node, opening_node}
use Rattle.run_order.specs.node_model.Turns.{Turn, word_turn, take_turn}
use Rattle.run_order.specs.node_model.Core.{Core, Event, Exec, Take, wires_to, with_turn, with_list, take_first, event_step, AreAlike}
use Rattle.node_machine.specs.declared.node_state.NodeState.{NodeState}
use Rattle.node_machine.specs.NodeState.{node_of, work_of as work_at}
use Rattle.rewriting_law.specs.dsm_protocol.Queue.{Queue, wires_of, SameWires, IsSent, IsTaken}
use Rattle.dsm_core.specs.CoreParts.{core_with, HaveWork}
use Rattle.dsm_core.specs.CoreSteps.{node_or, SameNodes, HaveMade, HaveKept, HavePassed}

-- 1. A place of the nodes

pub read_at : {Y : Type 0} (f : NodeState → Y) (ns : List NodeState) (i : ℕ) (x : NodeState) (d : Y)
    → i < length ns → x ≡ get_or ns i x → get_or (map f ns) i d ≡ f x
read_at f ns i x d below is = get_or-map f ns i x d below ∙ ap f (sym is)

-- what stands for the same took its place
pub set_same : {Y : Type 0} (f : NodeState → Y) (ns : List NodeState) (i : ℕ) (x y : NodeState)
    → i < length ns → x ≡ get_or ns i x → f y ≡ f x → map f (set ns i y) ≡ map f ns
set_same f ns i x y below is e = map-set f ns i y
    ∙ ap (λ z. set (map f ns) i z) (e ∙ sym (read_at f ns i x (f y) below is))
    ∙ set-get_or (map f ns) i (f y)

-- another node took its place
pub set_node : (ns : List NodeState) (i k : ℕ) (y : NodeState) (d : Node) → i < length ns
    → node_or (set ns i y) k d ≡ cond (eqb k i) (node_of y) (node_or ns k d)
set_node ns i k y d below = ap (λ z. get_or z k d) (map-set node_of ns i y)
    ∙ (elim (eqb_tells k i) [
      | inl t ↦ rw t.0 (ap (λ z. get_or (set (map node_of ns) i (node_of y)) z d) t.1
          ∙ get_or-set_same (map node_of ns) i (node_of y) d
          (subst (λ z. i < z) (sym (length-map ns node_of)) below))
      | inr t ↦ rw t.0 (get_or-set_other (map node_of ns) i k (node_of y) d t.1)
    ])

-- the node that was read stands for the node of the core
pub same_node : (ns0 ns1 : List NodeState) (i : ℕ) (x : NodeState) (d : Node) → i < length ns1
    → SameNodes ns0 ns1 → x ≡ get_or ns1 i x → node_of x ≡ node_or ns0 i d
same_node ns0 ns1 i x d below same is =
    sym (read_at node_of ns1 i x d below is) ∙ ap (λ z. get_or z i d) same.nodes

pub same_work : (work : Work) (ns0 ns1 : List NodeState) (i : ℕ) (x : NodeState) → i < length ns1
    → SameNodes ns0 ns1 → x ≡ get_or ns1 i x → HaveWork work ns0 → work_at x ≡ work
same_work work ns0 ns1 i x below same is have =
    sym (read_at work_at ns1 i x work below is) ∙ ap (λ z. get_or z i work) same.works ∙ have i

-- 2. A turn

pub turned : (work : Work) (i : ℕ) (ns : List NodeState) (y : NodeState) (q1 q2 : List Queue) (stamp : ℕ)
    (posts : List Post) (base : Core) (t : Turn)
    → i < length ns → node_of y ≡ t.node → posts ≡ t.sends → stamp ≡ (node_of y).stamp
    → AreAlike work.layout.nodes (core_with work ns q1) base
    → IsSent q1 q2 work.layout.nodes i stamp posts
    → AreAlike work.layout.nodes (core_with work (set ns i y) q2) (with_turn base i t)
turned work i ns y q1 q2 stamp posts base t below en ep es a sent = record {
  nodes = λ k bk. set_node ns i k y (opening_node work k) below
      ∙ ap (λ z. cond (eqb k i) z (node_or ns k (opening_node work k))) en
      ∙ ap (λ z. cond (eqb k i) t.node z) (a.nodes k bk);
  lists = λ j k bj bk. sent j k bj bk
      ∙ ap (λ z. cond (eqb j i) (z ++ wires_to stamp k posts) z) (a.lists j k bj bk)
      ∙ ap (λ z. cond (eqb j i) (base.list j k ++ wires_to z k posts) (base.list j k))
      (es ∙ ap (λ (z : Node). z.stamp) en)
      ∙ ap (λ z. cond (eqb j i) (base.list j k ++ wires_to t.node.stamp k z) (base.list j k)) ep;
}

-- a node has executed a word
pub executed : (n i : ℕ) (ns0 ns1 : List NodeState) (x y : NodeState) (q0 q1 q2 : List Queue) (stamp : ℕ)
    (posts : List Post) → length ns1 ≡ n → i < n → SameNodes ns0 ns1 → x ≡ get_or ns1 i x
    → SameWires q0 q1 n → IsSent q1 q2 n i stamp posts
    → node_of y ≡ (word_turn (work_at x) (node_of x)).node
    → posts ≡ (word_turn (work_at x) (node_of x)).sends → stamp ≡ (node_of y).stamp
    → HaveMade n ns0 (set ns1 i y) q0 q2 (Exec i)
executed n i ns0 ns1 x y q0 q1 q2 stamp posts len bi same is wires sent en ep es work e have =
    let below : i < length ns1 = subst (λ z. i < z) (sym len) bi in
    let d = opening_node work i in
    let et : word_turn (work_at x) (node_of x) ≡ word_turn work (node_or ns0 i d) =
    ap (λ z. word_turn z (node_of x)) (same_work work ns0 ns1 i x below same is have)
    ∙ ap (word_turn work) (same_node ns0 ns1 i x d below same is) in
    let base : Core = core_with work ns0 q0 in
    let alike : AreAlike work.layout.nodes (core_with work ns1 q1) base = record {
      nodes = λ k bk. ap (λ z. get_or z k (opening_node work k)) same.nodes;
      lists = subst (λ z. SameWires q0 q1 z) (sym e) wires;
    } in
    subst (λ z. AreAlike z (core_with work (set ns1 i y) q2) (event_step work base (Exec i))) e
    (turned work i ns1 y q1 q2 stamp posts base (word_turn work (node_or ns0 i d)) below
    (en ∙ ap (λ (z : Turn). z.node) et) (ep ∙ ap (λ (z : Turn). z.sends) et) es alike
    (subst (λ z. IsSent q1 q2 z i stamp posts) (sym e) sent))

-- a node has taken a message
pub taken : (n i j : ℕ) (ns0 ns1 : List NodeState) (x y : NodeState) (q0 q1 q2 q3 : List Queue)
    (stamp : ℕ) (posts : List Post) (w : Wire) → length ns1 ≡ n → i < n → j < n
    → SameNodes ns0 ns1 → x ≡ get_or ns1 i x
    → SameWires q0 q1 n → IsTaken q1 q2 n j i w → IsSent q2 q3 n i stamp posts
    → node_of y ≡ (take_turn (work_at x) (node_of x) j w).node
    → posts ≡ (take_turn (work_at x) (node_of x) j w).sends → stamp ≡ (node_of y).stamp
    → HaveMade n ns0 (set ns1 i y) q0 q3 (Take i j)
taken n i j ns0 ns1 x y q0 q1 q2 q3 stamp posts w len bi bj same is wires first sent en ep es work
    e have =
    let below : i < length ns1 = subst (λ z. i < z) (sym len) bi in
    let d = opening_node work i in
    let et : take_turn (work_at x) (node_of x) j w ≡ take_turn work (node_or ns0 i d) j w =
    ap (λ z. take_turn z (node_of x) j w) (same_work work ns0 ns1 i x below same is have)
    ∙ ap (λ z. take_turn work z j w) (same_node ns0 ns1 i x d below same is) in
    let k0 = work.layout.nodes in
    let wires0 : SameWires q0 q1 k0 = subst (λ z. SameWires q0 q1 z) (sym e) wires in
    let first0 : IsTaken q1 q2 k0 j i w = subst (λ z. IsTaken q1 q2 z j i w) (sym e) first in
    let core : Core = core_with work ns0 q0 in
    let rest = wires_of q2 k0 j i in
    let base : Core = with_list core j i rest in
    let alike : AreAlike k0 (core_with work ns1 q2) base = record {
      nodes = λ k bk. ap (λ z. get_or z k (opening_node work k)) same.nodes;
      lists = λ a b ba bb. first0.others a b ba bb
          ∙ ap (λ z. cond (eqb a j && eqb b i) rest z) (wires0 a b ba bb);
    } in
    let front : core.list j i ≡ w ∷ rest = sym (wires0 j i
    (subst (λ z. j < z) (sym e) bj) (subst (λ z. i < z) (sym e) bi)) ∙ first0.first in
    subst (λ z. AreAlike z (core_with work (set ns1 i y) q3) (event_step work core (Take i j))) e
    (subst (λ (c : Core). AreAlike k0 (core_with work (set ns1 i y) q3) c)
    (sym (ap (take_first work core i j) front))
    (turned work i ns1 y q2 q3 stamp posts base (take_turn work (node_or ns0 i d) j w) below
    (en ∙ ap (λ (z : Turn). z.node) et) (ep ∙ ap (λ (z : Turn). z.sends) et) es alike
    (subst (λ z. IsSent q2 q3 z i stamp posts) (sym e) sent)))

-- 3. Nothing but room was changed

same_list : (q0 q1 : List Queue) (n : ℕ) → SameWires q0 q1 n → (j i : ℕ)
    → wires_of q1 n j i ≡ wires_of q0 n j i
same_list q0 q1 n same j i = elim (leb_tells (suc j) n) [
  | inl p ↦ elim (leb_tells (suc i) n) [
    | inl q ↦ same j i p.1 q.1
    | inr q ↦ (let t : (ltb j n && ltb i n) ≡ false = (let z = q.1 in grind (arith, nat_tests)) in
        rw t refl)
  ]
  | inr p ↦ (let t : (ltb j n && ltb i n) ≡ false = (let z = p.1 in grind (arith, nat_tests)) in
      rw t refl)
]

pub kept : (n : ℕ) (ns0 ns1 : List NodeState) (q0 q1 : List Queue) → SameNodes ns0 ns1
    → SameWires q0 q1 n → HaveKept n ns0 ns1 q0 q1
kept n ns0 ns1 q0 q1 same wires work e =
    let list : (j i : ℕ) → wires_of q1 work.layout.nodes j i ≡ wires_of q0 work.layout.nodes j i =
    same_list q0 q1 work.layout.nodes (subst (λ z. SameWires q0 q1 z) (sym e) wires) in
    λ t. record {
      nodes = λ i. get_or (same.nodes t) i (opening_node work i);
      list = fun_ext (λ j. fun_ext (λ i. list j i)) t;
    }

-- 4. The start

pub first_more : {Y : Type 0} (f : NodeState → Y) (ns : List NodeState) (x : NodeState) (d : ℕ → Y) (me : ℕ)
    → length ns ≡ me → ((i : ℕ) → get_or (map f ns) i (d i) ≡ d i) → f x ≡ d me
    → (i : ℕ) → get_or (map f (ns ++ x ∷ [])) i (d i) ≡ d i
first_more f ns x d me len have e i =
    let lm : length (map f ns) ≡ me = length-map ns f ∙ len in
    ap (λ z. get_or z i (d i)) (map_push f ns x) ∙ (elim (leb_tells (suc i) me) [
      | inl p ↦ (let a : i < length (map f ns) = (let z = p.1 in omega (arith, lm)) in
          get_or_append_left (map f ns) (f x ∷ []) (d i) i a ∙ have i)
      | inr p ↦ elim (eqb_tells i me) [
        | inl q ↦ get_or_push (map f ns) (f x) (d i) i (lm ∙ sym q.1) ∙ e ∙ ap d (sym q.1)
        | inr q ↦ get_or_past (map f ns ++ f x ∷ []) i (d i)
            (let l = length-append (map f ns) (f x ∷ []) in let z = p.1 in let v = q.1 in
            omega (arith, lm, l, z, v))
      ]
    ])

-- 5. Nodes that stand for the same

have_same : (work : Work) (ns0 ns1 : List NodeState) → SameNodes ns0 ns1 → HaveWork work ns0
    → HaveWork work ns1
have_same work ns0 ns1 same have i = ap (λ z. get_or z i work) same.works ∙ have i

pub core_same : (work : Work) (ns0 ns1 : List NodeState) (qs : List Queue) → SameNodes ns0 ns1
    → core_with work ns1 qs ≡ core_with work ns0 qs
core_same work ns0 ns1 qs same = ap (λ (ms : List Node). record {
  nodes = λ i. get_or ms i (opening_node work i);
  list = wires_of qs work.layout.nodes;
}) same.nodes

pub made_same : (n : ℕ) (ns0 ns1 ns2 : List NodeState) (q0 q1 : List Queue) (e : Event)
    → SameNodes ns0 ns1 → HaveMade n ns1 ns2 q0 q1 e → HaveMade n ns0 ns2 q0 q1 e
made_same n ns0 ns1 ns2 q0 q1 e same made work is have =
    subst (λ (c : Core). AreAlike n (core_with work ns2 q1) (event_step work c e))
    (core_same work ns0 ns1 q0 same) (made work is (have_same work ns0 ns1 same have))

pub kept_same : (n : ℕ) (ns0 ns1 ns2 : List NodeState) (q0 q1 : List Queue) → SameNodes ns0 ns1
    → HaveKept n ns1 ns2 q0 q1 → HaveKept n ns0 ns2 q0 q1
kept_same n ns0 ns1 ns2 q0 q1 same kept work is = kept work is ∙ core_same work ns0 ns1 q0 same

pub passed_made : (n i : ℕ) (ns0 ns1 : List NodeState) (qs : List Queue) → HavePassed n i ns0 ns1
    → HaveMade n ns0 ns1 qs qs (Exec i)
passed_made n i ns0 ns1 qs passed work is have =
    subst (λ z. AreAlike z (core_with work ns1 qs) (event_step work (core_with work ns0 qs) (Exec i)))
    is (passed work qs is have).event

-- 6. What holds of a call's result

pub on_ok : {A E P Q : Type 0} (r : Result A E) → (P → Q) → OnOk r P → OnOk r Q
on_ok (Ok x) f p = f p
on_ok (Err e) f p = tt

pub on_err : {A E P Q : Type 0} (r : Result A E) → (P → Q) → OnErr r P → OnErr r Q
on_err (Ok x) f p = tt
on_err (Err e) f p = f p

pub if_ok : {A E : Type 0} {P Q : A → Type 0} (r : Result A E) → ((x : A) → P x → Q x)
    → IfOk r P → IfOk r Q
if_ok (Ok x) f p = f x p
if_ok (Err e) f p = tt
