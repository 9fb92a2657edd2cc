-- A message at a node of several lanes: the turn.
use Rattle.std.proofs.Common.{◌≡◌, ℕ, ◌+◌, ◌-◌, ◌<◌, ◌++◌, ◌&&◌, not, Bool, true, false, cond, eqb, List, [], ◌∷◌, length, map, get_or, None, refl, sym, ap, ◌∙◌, subst, arith}
use Rattle.std.specs.Prelude.{is_some}
use Rattle.std.proofs.Math.Path.{fun_ext}
use Rattle.std.proofs.lemmas.List.{get_or-map}
use Rattle.home_directory.specs.dsm_messages.declared.messages.Post.{Post}
use Rattle.home_directory.specs.dsm_messages.declared.messages.Wire.{Wire}
use Rattle.home_directory.specs.Effects.{entry_at, entries_of, members}
use Rattle.home_directory.specs.Home.{count_of}
use Rattle.node_machine.specs.node_words.declared.exec_state.ExecState.{ExecState}
use Rattle.node_machine.specs.node_words.node_memory.Shelf.{local_of}
use Rattle.lane_model.specs.node_model.Node.{Node, Running}
use Rattle.lane_model.specs.node_model.Turns.{Turn, byes_to, is_ended, later, handled, words_before}
use Rattle.node_machine.specs.declared.protocol_state.ProtocolState.{ProtocolState}
use Rattle.node_machine.specs.NodeState.{layout_of, phase_of, entries_in}
use Rattle.node_machine.specs.ProtocolState.{turn_by}
use Rattle.lane_model.specs.Nodes.{LaneWork, LanePart, Shared, LaneNode}
use Rattle.lane_model.specs.Turns.{LaneTurn, after_message, counted, has_ended, have_ended, held_by, journaled, resumed, take_turn, handled_for, with_byes, words_of}
use Rattle.lane_machine.specs.declared.lane_protocol.LaneProtocol.{LaneProtocol}
use Rattle.lane_machine.specs.declared.stored.StoredLane.{StoredLane}
use Rattle.lane_machine.specs.declared.stored.StoredShared.{StoredShared}
use Rattle.lane_machine.specs.Waits.{wait_among, place_among, held_in, waits_in}
use Rattle.lane_machine.specs.Places.{reserved_in}
use Rattle.lane_machine.specs.Stored.{ended_in, part_of, seen_with, AreLanes, HaveLanes, HaveParts}
use Rattle.lane_machine.proofs.ExecLemmas.{all_count, count_same}

-- byes don't change the node
pub byes_node : (nodes : ℕ) (t : LaneTurn) (b : Bool) → (with_byes nodes t b).node ≡ t.node
byes_node nodes t true = refl
byes_node nodes t false = refl

pub byes_sends : (nodes : ℕ) (t : LaneTurn) (b : Bool) → (with_byes nodes t b).sends ≡ cond b (t.sends ++ byes_to nodes) t.sends
byes_sends nodes t true = refl
byes_sends nodes t false = refl

module _ (w : LaneWork) (x : LaneNode) (from : ℕ) (wire : Wire) (ls ls' : List StoredLane) (f f' : StoredShared)
    (are : AreLanes w ls f) (h : HaveLanes ls f x)
    (b1 : ExecState) (d1 : ProtocolState) (ps1 : List LaneProtocol) (byes1 : List Bool) (posts : List Post)
    (turn : (n : Node) (k : ℕ) → n.me ≡ f.state.protocol.directory.me
    → handled (layout_of f.state.body.value) (seen_with n k f.state.body.value f.state.protocol f.places.items f.state.byes) from wire.message
    ≡ turn_by (seen_with n k b1 d1 ps1 byes1) posts None) where
  abbrev pub node_then : (k : ℕ) → Node
  node_then k = seen_with (journaled w x k from wire) k b1 d1 ps1 byes1

  before_is : (k : ℕ) → journaled w x k from wire
      ≡ seen_with (journaled w x k from wire) k f.state.body.value f.state.protocol f.places.items f.state.byes
  before_is k = λ t. record (journaled w x k from wire) {
    local = record {
      copy = (h.shared t).copy;
      state = (h.shared t).state;
      reservation = (h.shared t).reservation k;
    };
    entry = (h.shared t).entry;
    waiting = (h.shared t).waiting;
    occupancy = (h.shared t).occupancy;
    wait = (h.shared t).wait;
    byes = (h.shared t).byes;
    counts = (h.shared t).counts;
  }

  pub handled_is : (k : ℕ) → handled_for w x from wire k ≡ turn_by (node_then k) posts None
  handled_is k =
      (λ t. handled (sym are.layout t) (before_is k t) from wire.message)
      ∙ turn (journaled w x k from wire) k (ap (λ (s : Shared). s.me) h.shared)

  -- the node but for the Byes
  pub message_is : ((k : ℕ) (d : StoredLane) → k < length ls → resumed w.work (node_then 0) (x.lanes k) ≡ part_of (get_or ls' k d))
      → ((b : ℕ) → is_some (wait_among (waits_in ps1) b) ≡ true
      → place_among (waits_in ps1) b ≡ held_in (waits_in f.places.items) b)
      → f'.places.items ≡ ps1 → f'.state.protocol ≡ d1 → d1.directory.me ≡ f.state.protocol.directory.me
      → f'.state.body.value.local ≡ b1.local → f'.state.body.value.counts ≡ counted (node_then 0) x.lanes w.lanes
      → f'.state.byes ≡ byes1 → f'.state.stamp ≡ later f.state.stamp wire.stamp + 1
      → f'.state.journal.items ≡ f.state.journal.items ++ (record {
        stamp = later f.state.stamp wire.stamp + 1;
        from = from;
        words = words_of x w.lanes - words_before f.state.journal.items;
      }) ∷ [] → f'.state.output.items ≡ f.state.output.items → length ls' ≡ length ls
      → f'.ended ≡ count_of (has_ended (after_message w x from wire)) (length f'.places.items)
      → HaveLanes ls' f' (after_message w x from wire)
  message_is parts holders places protocol me local counts byes stamp journal output len ended =
      let t0 = handled_is 0 in
      let hold : (b : ℕ) → held_by (wait_among (waits_in ps1)) x.shared.holder b ≡ held_by (wait_among (waits_in ps1)) (place_among (waits_in ps1)) b =
      λ b. go b (is_some (wait_among (waits_in ps1) b)) refl in
      let wait : (handled_for w x from wire 0).node.wait ≡ wait_among (waits_in f'.places.items) =
      ap (λ (t : Turn). t.node.wait) t0 ∙ ap (λ ps. wait_among (waits_in ps)) (sym places) in
      record {
        lanes = λ k d low. ap (λ (t : Turn). resumed w.work t.node (x.lanes k)) t0
            ∙ parts k d (let l = len in omega (arith, low, l));
        shared = λ t. record {
          me = (ap (λ (u : Turn). u.node.me) t0 ∙ ap (λ (s : Shared). s.me) h.shared ∙ sym me ∙ ap (λ (z : ProtocolState). z.directory.me) (sym protocol)) t;
          copy = (ap (λ (u : Turn). u.node.local.copy) t0 ∙ ap (λ z. (local_of z).copy) (sym local)) t;
          state = (ap (λ (u : Turn). u.node.local.state) t0 ∙ ap (λ z. (local_of z).state) (sym local)) t;
          reservation = (fun_ext (λ k. ap (λ (u : Turn). u.node.local.reservation) (handled_is k))
              ∙ ap reserved_in (sym places)) t;
          entry = (ap (λ (u : Turn). u.node.entry) t0
              ∙ ap (λ (z : ProtocolState). entries_in z.directory.layout z.directory.me (entry_at z.directory.entries)) (sym protocol)) t;
          waiting = (ap (λ (u : Turn). u.node.waiting) t0 ∙ ap (λ (z : ProtocolState). (entries_of z.directory).waiting) (sym protocol)) t;
          occupancy = (ap (λ (u : Turn). u.node.occupancy) t0 ∙ ap (λ (z : ProtocolState). (entries_of z.directory).occupancy) (sym protocol)) t;
          wait = wait t;
          holder = (ap (λ (u : Turn). held_by u.node.wait x.shared.holder) t0 ∙ fun_ext hold
              ∙ ap (λ ps. held_by (wait_among (waits_in ps)) (place_among (waits_in ps))) (sym places)) t;
          byes = (ap (λ (u : Turn). u.node.byes) t0 ∙ ap members (sym byes)) t;
          stamp = (ap (λ (u : Turn). u.node.stamp) t0 ∙ ap (λ (s : Shared). later s.stamp wire.stamp + 1) h.shared ∙ sym stamp) t;
          journal = (ap (λ (u : Turn). u.node.journal) t0
              ∙ ap (λ (s : Shared). s.journal ++ (record {
                stamp = later s.stamp wire.stamp + 1;
                from = from;
                words = words_of x w.lanes - words_before s.journal;
              }) ∷ []) h.shared ∙ sym journal) t;
          output = (ap (λ (u : Turn). u.node.output) t0 ∙ ap (λ (s : Shared). s.output) h.shared ∙ sym output) t;
          counts = (ap (λ (u : Turn). counted u.node x.lanes w.lanes) t0 ∙ sym counts) t;
        };
        ended = ended;
      }
    where
      go : (b : ℕ) (t : Bool) → is_some (wait_among (waits_in ps1) b) ≡ t
          → cond (is_some (wait_among (waits_in ps1) b)) (x.shared.holder b) 0
          ≡ cond (is_some (wait_among (waits_in ps1) b)) (place_among (waits_in ps1) b) 0
      go b true e = ap (λ z. cond (is_some (wait_among (waits_in ps1) b)) z 0)
          (ap (λ (s : Shared). s.holder b) h.shared ∙ sym (holders b e))
      go b false e = ap (λ t. cond t (x.shared.holder b) 0) e ∙ sym (ap (λ t. cond t (place_among (waits_in ps1) b) 0) e)

  -- with them
  pub sends_are : HaveLanes ls' f' (after_message w x from wire) → length f'.places.items ≡ w.lanes
      → (take_turn w x from wire).sends
      ≡ cond (eqb f'.ended w.lanes && not (eqb f.ended w.lanes)) (posts ++ byes_to w.work.layout.nodes) posts
  sends_are now count =
      let t : LaneTurn = record {
        node = after_message w x from wire;
        sends = (handled_for w x from wire 0).sends;
        printed = None;
      } in
      let was : have_ended w x ≡ eqb f.ended w.lanes =
      all_count (has_ended x) w.lanes ∙ ap (λ c. eqb c w.lanes) (ap (count_of (has_ended x)) (sym are.places) ∙ sym h.ended) in
      let is : have_ended w (after_message w x from wire) ≡ eqb f'.ended w.lanes =
      all_count (has_ended (after_message w x from wire)) w.lanes
      ∙ ap (λ c. eqb c w.lanes) (ap (count_of (has_ended (after_message w x from wire))) (sym count) ∙ sym now.ended) in
      byes_sends w.work.layout.nodes t (have_ended w t.node && not (have_ended w x))
      ∙ (λ i. cond (is i && not (was i)) ((handled_is 0 i).sends ++ byes_to w.work.layout.nodes) (handled_is 0 i).sends)

  pub node_is : HaveLanes ls' f' (after_message w x from wire) → HaveLanes ls' f' (take_turn w x from wire).node
  node_is now = subst (HaveLanes ls' f') (sym (byes_node w.work.layout.nodes (record {
    node = after_message w x from wire;
    sends = (handled_for w x from wire 0).sends;
    printed = None;
  }) (have_ended w (after_message w x from wire) && not (have_ended w x)))) now

-- 2. Lanes that stay as they are

abbrev empty_part : LanePart
empty_part = record {
  lane = record { registers = λ r. 0; at = 0; private = λ a. 0; written = 0; off = 0; spills = λ k. 0 };
  executed = 0;
  phase = Running;
  awaits = [];
  again = false;
}

-- a node of these lanes
abbrev node_with : List StoredLane → Shared → LaneNode
node_with ls s = record { lanes = λ k. get_or (map part_of ls) k empty_part; shared = s }

node_has : (ls : List StoredLane) (s : Shared) → HaveParts ls (node_with ls s)
node_has ls s k d low = get_or-map part_of ls k d empty_part low

-- where each lane stays in its phase, as many have ended as before
pub ended_same : (ls ls' : List StoredLane) (s : Shared) (old new m : ℕ) → length ls ≡ m → length ls' ≡ m
    → ((x : LaneNode) → HaveParts ls x → old ≡ ended_in x m) → ((x : LaneNode) → HaveParts ls' x → new ≡ ended_in x m)
    → ((k : ℕ) (d : StoredLane) → k < m → phase_of (get_or ls' k d).state.phase ≡ phase_of (get_or ls k d).state.phase)
    → new ≡ old
ended_same [] ls' s old new m len len' was is phases =
    let z = len in
    let a = was (node_with [] s) (node_has [] s) in
    let b = is (node_with ls' s) (node_has ls' s) in
    b ∙ ap (ended_in (node_with ls' s)) (sym z) ∙ ap (ended_in (node_with [] s)) z ∙ sym a
ended_same (l ∷ ls) ls' s old new m len len' was is phases =
    let x = node_with (l ∷ ls) s in
    let y = node_with ls' s in
    is y (node_has ls' s) ∙ count_same (has_ended x) (has_ended y) m (λ k low. ap is_ended
    (ap (λ (p : LanePart). p.phase) (node_has ls' s k l (let e = len' in omega (arith, low, e)))
    ∙ phases k l low
    ∙ sym (ap (λ (p : LanePart). p.phase) (node_has (l ∷ ls) s k l (let e = len in omega (arith, low, e))))))
    ∙ sym (was x (node_has (l ∷ ls) s))
