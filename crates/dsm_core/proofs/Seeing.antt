-- What was seen of an event of nodes and lists, as they are stored.
use Rattle.std.proofs.Common.{◌≡◌, ℕ, ◌<◌, List, [], ◌∷◌, map, length, get_or, None, sym, ap, ◌∙◌, subst}
use Rattle.rewriting_law.specs.dsm_messages.declared.messages.Post.{Post}
use Rattle.rewriting_law.specs.dsm_messages.declared.messages.Wire.{Wire}
use Rattle.rewriting_law.specs.dsm_messages.Headers.{sent_by}
use Rattle.run_order.specs.node_model.Node.{opening_node}
use Rattle.run_order.specs.node_model.Turns.{word_turn, take_turn}
use Rattle.run_order.specs.node_model.Core.{Core, Exec, Take}
use Rattle.node_machine.specs.declared.node_state.NodeState.{NodeState}
use Rattle.node_machine.specs.NodeState.{node_of, work_of as work_at}
use Rattle.node_machine.specs.Wanted.{wanted_in, wants_of_word}
use Rattle.rewriting_law.specs.dsm_protocol.Queue.{Queue, wires_of, SameWires, IsTaken}
use Rattle.dsm_core.specs.declared.seen.Seen.{Seen}
use Rattle.dsm_core.specs.CoreParts.{core_with}
use Rattle.dsm_core.specs.CoreSteps.{node_or, SameNodes}
use Rattle.dsm_core.specs.Seen.{HaveSeen, sends_of_take}
use Rattle.dsm_core.proofs.CoreSteps.{same_node, same_work}

-- of a word
pub word_seen : (n i : ℕ) (ns0 ns1 : List NodeState) (x : NodeState) (q0 : List Queue) (posts : List Post)
    (s : Seen) → length ns1 ≡ n → i < n → SameNodes ns0 ns1 → x ≡ get_or ns1 i x
    → posts ≡ (word_turn (work_at x) (node_of x)).sends
    → wanted_in s.wants ≡ wants_of_word (work_at x) (node_of x)
    → s.printed ≡ (word_turn (work_at x) (node_of x)).printed
    → s.sends.items ≡ map sent_by posts → HaveSeen n ns0 q0 (Exec i) s
word_seen n i ns0 ns1 x q0 posts s len bi same is ep ew eb es work e have =
    let below : i < length ns1 = subst (λ z. i < z) (sym len) bi in
    let d = opening_node work i in
    let ww = same_work work ns0 ns1 i x below same is have in
    let nn = same_node ns0 ns1 i x d below same is in
    record {
      sends = es ∙ ap (map sent_by) (ep ∙ ap (λ z. (word_turn z (node_of x)).sends) ww
          ∙ ap (λ z. (word_turn work z).sends) nn);
      wants = ew ∙ ap (λ z. wants_of_word z (node_of x)) ww ∙ ap (wants_of_word work) nn;
      printed = eb ∙ ap (λ z. (word_turn z (node_of x)).printed) ww
          ∙ ap (λ z. (word_turn work z).printed) nn;
    }

-- of a take
pub take_seen : (n i j : ℕ) (ns0 ns1 : List NodeState) (x : NodeState) (q0 q1 q2 : List Queue)
    (posts : List Post) (w : Wire) (s : Seen) → length ns1 ≡ n → i < n → j < n
    → SameNodes ns0 ns1 → x ≡ get_or ns1 i x → SameWires q0 q1 n → IsTaken q1 q2 n j i w
    → posts ≡ (take_turn (work_at x) (node_of x) j w).sends → wanted_in s.wants ≡ [] → s.printed ≡ None
    → s.sends.items ≡ map sent_by posts → HaveSeen n ns0 q0 (Take i j) s
take_seen n i j ns0 ns1 x q0 q1 q2 posts w s len bi bj same is wires first ep ew eb es work e have =
    let below : i < length ns1 = subst (λ z. i < z) (sym len) bi in
    let d = opening_node work i in
    let k0 = work.layout.nodes in
    let ww = same_work work ns0 ns1 i x below same is have in
    let nn = same_node ns0 ns1 i x d below same is in
    let core : Core = core_with work ns0 q0 in
    let rest = wires_of q2 k0 j i in
    let wires0 : SameWires q0 q1 k0 = subst (λ z. SameWires q0 q1 z) (sym e) wires in
    let first0 : IsTaken q1 q2 k0 j i w = subst (λ z. IsTaken q1 q2 z j i w) (sym e) first in
    let front : core.list j i ≡ w ∷ rest = sym (wires0 j i
    (subst (λ z. j < z) (sym e) bj) (subst (λ z. i < z) (sym e) bi)) ∙ first0.first in
    record {
      sends = es ∙ ap (map sent_by) (ep ∙ ap (λ z. (take_turn z (node_of x) j w).sends) ww
          ∙ ap (λ z. (take_turn work z j w).sends) nn
          ∙ sym (ap (λ l. sends_of_take work (node_or ns0 i d) j l) front));
      wants = ew;
      printed = eb;
    }
