-- Events of nodes and of the links between them, as they are stored.
use Rattle.std.proofs.Common.{◌≡◌, ℕ, ◌*◌, ◌+◌, ◌<◌, ◌^◌, true, cond, eqb, ◌&&◌, List, [], length, get_or, set, refl, sym, ap, ◌∙◌, subst}
use Rattle.dsm_messages.specs.declared.messages.Post.{Post}
use Rattle.dsm_messages.specs.declared.messages.Wire.{Wire}
use Rattle.lossy_link.specs.Receiver.{Receiving, Delivers}
use Rattle.node_model.specs.Node.{Work, Node, opening_node, can_execute}
use Rattle.node_model.specs.Turns.{Turn, silent, word_turn, take_turn}
use Rattle.node_model.specs.Core.{Exec, Take, wires_to}
use Rattle.dsm_core.specs.node_machine.declared.node_state.NodeState.{NodeState}
use Rattle.dsm_core.specs.node_machine.NodeState.{node_of, work_of as work_at}
use Rattle.dsm_core.specs.CoreSteps.{node_or, SameNodes, SameWorks, MayExecute, IsStamped}
use Rattle.dsm_core.proofs.CoreSteps.{same_node, same_work, set_same, set_node}
use Rattle.lossy_sim.specs.Links.{LossyLink, with_offered}
use Rattle.lossy_sim.specs.WithLoss.{State, HasMade, with_receiver}
use Rattle.lossy_sim.specs.Stored.{link_at, state_of, HaveOffered, HaveMade}
use Rattle.lossy_sim.proofs.Stored.{offered_nothing, link_delivered}

-- 1. The node that was read

pub same_nodes : (ns : List NodeState) → SameNodes ns ns
same_nodes ns = record { nodes = refl; works = refl }

-- one that stands for the same took the place of node i
pub same_set : (n i : ℕ) (ns0 ns1 : List NodeState) (x y : NodeState) → length ns1 ≡ n → i < n
    → SameNodes ns0 ns1 → x ≡ get_or ns1 i x → node_of y ≡ node_of x → work_at y ≡ work_at x
    → SameNodes ns0 (set ns1 i y)
same_set n i ns0 ns1 x y len bi same is node work =
    let below : i < length ns1 = subst (λ z. i < z) (sym len) bi in
    record {
      nodes = set_same node_of ns1 i x y below is node ∙ same.nodes;
      works = set_same work_at ns1 i x y below is work ∙ same.works;
    }

-- it runs the same
pub works_set : (n i : ℕ) (ns0 ns1 : List NodeState) (x y : NodeState) → length ns1 ≡ n → i < n
    → SameNodes ns0 ns1 → x ≡ get_or ns1 i x → work_at y ≡ work_at x → SameWorks ns0 (set ns1 i y)
works_set n i ns0 ns1 x y len bi same is work =
    set_same work_at ns1 i x y (subst (λ z. i < z) (sym len) bi) is work ∙ same.works

pub may_read : (n i : ℕ) (ns0 ns1 : List NodeState) (x : NodeState) → length ns1 ≡ n → i < n
    → SameNodes ns0 ns1 → x ≡ get_or ns1 i x → MayExecute ns0 i
    → can_execute (node_of x).phase ≡ true
may_read n i ns0 ns1 x len bi same is may = subst (λ (z : Node). can_execute z.phase ≡ true)
    (sym (same_node ns0 ns1 i x (node_of x) (subst (λ z. i < z) (sym len) bi) same is))
    (may (node_of x))

pub stamp_read : (n i : ℕ) (ns0 ns1 : List NodeState) (x : NodeState) → length ns1 ≡ n → i < n
    → SameNodes ns0 ns1 → x ≡ get_or ns1 i x → IsStamped ns0 i → (node_of x).stamp < 2 ^ 56
stamp_read n i ns0 ns1 x len bi same is stamp = subst (λ (z : Node). z.stamp < 2 ^ 56)
    (sym (same_node ns0 ns1 i x (node_of x) (subst (λ z. i < z) (sym len) bi) same is))
    (stamp (node_of x))

-- 2. Its event

-- node i has made a turn, and offered what it sends
turn_made : (work : Work) (i : ℕ) (ns0 ns1 : List NodeState) (y : NodeState) (ls1 ls2 : List LossyLink)
    (s : State) (stamp : ℕ) (posts : List Post) (t : Turn) (order losses : ℕ)
    → i < length ns1 → SameNodes ns0 ns1 → node_of y ≡ t.node → posts ≡ t.sends
    → stamp ≡ (node_of y).stamp → ((k : ℕ) → s.nodes k ≡ node_or ns0 k (opening_node work k))
    → ((j k : ℕ) → j < work.layout.nodes → k < work.layout.nodes
    → link_at ls1 work.layout.nodes j k ≡ s.links j k)
    → HaveOffered ls1 ls2 work.layout.nodes i stamp posts
    → HasMade work.layout.nodes i t s (state_of work (set ns1 i y) ls2 order losses)
turn_made work i ns0 ns1 y ls1 ls2 s stamp posts t order losses below same en ep es nodes links sent =
    record {
      nodes = λ k bk. set_node ns1 i k y (opening_node work k) below
          ∙ ap (λ z. cond (eqb k i) z (node_or ns1 k (opening_node work k))) en
          ∙ ap (λ z. cond (eqb k i) t.node z)
          (ap (λ z. get_or z k (opening_node work k)) same.nodes ∙ sym (nodes k));
      links = λ j k bj bk. sent j k bj bk
          ∙ ap (λ z. cond (eqb j i) (with_offered z (wires_to stamp k posts)) z) (links j k bj bk)
          ∙ ap (λ z. cond (eqb j i) (with_offered (s.links j k) (wires_to z k posts)) (s.links j k))
          (es ∙ ap (λ (z : Node). z.stamp) en)
          ∙ ap (λ z. cond (eqb j i) (with_offered (s.links j k) (wires_to t.node.stamp k z)) (s.links j k))
          ep;
    }

-- node i has executed a word
pub word_made : (n i : ℕ) (ns0 ns1 : List NodeState) (x y : NodeState) (ls1 ls2 : List LossyLink) (stamp : ℕ)
    (posts : List Post) → length ns1 ≡ n → i < n → SameNodes ns0 ns1 → x ≡ get_or ns1 i x
    → HaveOffered ls1 ls2 n i stamp posts → node_of y ≡ (word_turn (work_at x) (node_of x)).node
    → posts ≡ (word_turn (work_at x) (node_of x)).sends → stamp ≡ (node_of y).stamp
    → HaveMade n ns0 (set ns1 i y) ls1 ls2 (Exec i)
word_made n i ns0 ns1 x y ls1 ls2 stamp posts len bi same is sent en ep es work order losses e have =
    let below : i < length ns1 = subst (λ z. i < z) (sym len) bi in
    let d = opening_node work i in
    let et : word_turn (work_at x) (node_of x) ≡ word_turn work (node_or ns0 i d) =
    ap (λ z. word_turn z (node_of x)) (same_work work ns0 ns1 i x below same is have)
    ∙ ap (word_turn work) (same_node ns0 ns1 i x d below same is) in
    turn_made work i ns0 ns1 y ls1 ls2 (state_of work ns0 ls1 order losses) stamp posts
    (word_turn work (node_or ns0 i d)) order losses below same
    (en ∙ ap (λ (z : Turn). z.node) et) (ep ∙ ap (λ (z : Turn). z.sends) et) es
    (λ k. refl) (λ j k bj bk. refl) (subst (λ z. HaveOffered ls1 ls2 z i stamp posts) (sym e) sent)

-- or has passed it, and sends nothing
pub passed_made : (n i : ℕ) (ns : List NodeState) (x y : NodeState) (ls : List LossyLink) → length ns ≡ n
    → i < n → x ≡ get_or ns i x → word_turn (work_at x) (node_of x) ≡ silent (node_of y)
    → HaveMade n ns (set ns i y) ls ls (Exec i)
passed_made n i ns x y ls len bi is turn =
    word_made n i ns ns x y ls ls (node_of y).stamp [] len bi (record { nodes = refl; works = refl })
    is (offered_nothing ls n i (node_of y).stamp) (sym (ap (λ (z : Turn). z.node) turn))
    (sym (ap (λ (z : Turn). z.sends) turn)) refl

-- node i has taken the message that the link from j has delivered
pub message_made : (n i j : ℕ) (ns0 ns1 : List NodeState) (x y : NodeState) (ls0 ls2 : List LossyLink)
    (l : LossyLink) (r : Receiving Wire) (stamp : ℕ) (posts : List Post) (w : Wire)
    → length ns1 ≡ n → length ls0 ≡ n * n → i < n → j < n → SameNodes ns0 ns1 → x ≡ get_or ns1 i x
    → Delivers (link_at ls0 n j i).receiver w r
    → l ≡ record (link_at ls0 n j i) { receiver = r }
    → HaveOffered (set ls0 (j * n + i) l) ls2 n i stamp posts
    → node_of y ≡ (take_turn (work_at x) (node_of x) j w).node
    → posts ≡ (take_turn (work_at x) (node_of x) j w).sends → stamp ≡ (node_of y).stamp
    → HaveMade n ns0 (set ns1 i y) ls0 ls2 (Take i j)
message_made n i j ns0 ns1 x y ls0 ls2 l r stamp posts w len many bi bj same is delivers delivered sent
    en ep es work order losses e have =
    let below : i < length ns1 = subst (λ z. i < z) (sym len) bi in
    let d = opening_node work i in
    let et : take_turn (work_at x) (node_of x) j w ≡ take_turn work (node_or ns0 i d) j w =
    ap (λ z. take_turn z (node_of x) j w) (same_work work ns0 ns1 i x below same is have)
    ∙ ap (λ z. take_turn work z j w) (same_node ns0 ns1 i x d below same is) in
    let s : State = state_of work ns0 ls0 order losses in
    let links : (a b : ℕ) → a < work.layout.nodes → b < work.layout.nodes
    → link_at (set ls0 (j * n + i) l) work.layout.nodes a b ≡ (with_receiver s j i r).links a b =
    subst (λ z. (a b : ℕ) → a < z → b < z → link_at (set ls0 (j * n + i) l) z a b
    ≡ cond (eqb a j && eqb b i) (record (link_at ls0 z a b) { receiver = r }) (link_at ls0 z a b))
    (sym e) (λ a b ba bb. link_delivered ls0 n j i l r a b many bj bi ba bb delivered) in (
      w,
      r,
      subst (λ z. Delivers (link_at ls0 z j i).receiver w r) (sym e) delivers,
      turn_made work i ns0 ns1 y (set ls0 (j * n + i) l) ls2 (with_receiver s j i r) stamp posts
          (take_turn work (node_or ns0 i d) j w) order losses below same
          (en ∙ ap (λ (z : Turn). z.node) et) (ep ∙ ap (λ (z : Turn). z.sends) et) es
          (λ k. refl) links
          (subst (λ z. HaveOffered (set ls0 (j * n + i) l) ls2 z i stamp posts) (sym e) sent),
    )
