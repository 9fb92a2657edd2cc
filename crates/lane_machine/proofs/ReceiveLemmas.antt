-- A message at a node of several lanes, by what the node stores.
use Rattle.std.proofs.Common.{◌≡◌, ◌≢◌, ℕ, zero, suc, ◌<◌, ◌≤◌, ◌⊎◌, Bool, true, false, List, [], ◌∷◌, length, set, get_or, Some, None, refl, sym, ap, ◌∙◌, subst, inl, inr, arith}
use Rattle.std.specs.Prelude.{is_some}
use Rattle.std.proofs.Math.Seq.{map-set_same}
use Rattle.std.proofs.lemmas.List.{map-set, get_or-map, length-map, get_or-set_same}
use Rattle.block_layout.specs.Layout.{blocks}
use Rattle.home_directory.specs.dsm_messages.declared.messages.Message.{Message}
use Rattle.home_directory.specs.dsm_messages.declared.messages.Post.{Post}
use Rattle.home_directory.specs.Home.{first_entry}
use Rattle.node_machine.specs.miss_handlers.Waits.{NodeWaits, wait_of}
use Rattle.node_machine.specs.miss_handlers.Effects.{named_block}
use Rattle.node_machine.specs.node_words.declared.exec_state.ExecState.{ExecState}
use Rattle.node_machine.specs.node_words.node_memory.Shelf.{local_of}
use Rattle.node_machine.specs.node_words.Kept.{lane_of}
use Rattle.lane_model.specs.node_model.Node.{Node, Running}
use Rattle.lane_model.specs.node_model.Turns.{Turn, handled}
use Rattle.node_machine.specs.declared.protocol_state.ProtocolState.{ProtocolState}
use Rattle.node_machine.specs.NodeState.{with_all, layout_of, IsProtocolState}
use Rattle.node_machine.specs.ProtocolState.{turn_by}
use Rattle.lane_machine.specs.declared.lane_protocol.LaneProtocol.{LaneProtocol}
use Rattle.lane_machine.specs.Waits.{waits_for, wait_among, place_among, held_in, waits_in, AreApart}
use Rattle.lane_machine.specs.Places.{wait_at, pools_in, reserved_in}
use Rattle.lane_machine.specs.Stored.{IsKept, AreKept, IsAtRest, seen_with}
use Rattle.lane_machine.specs.Words.{cleared_by}
use Rattle.lane_machine.proofs.PlaceLemmas.{held_wait, kept_set}
use Rattle.lane_machine.proofs.RowFrames.{patched, given_by, with_own, Handles, handled_carried, handled_handles}
use Rattle.lane_machine.proofs.HandleLemmas.{wait_at_is, new_patched, new_apart, new_holders, new_fewer, new_few}

set_again : {A : Type 0} (xs : List A) (k : ℕ) (a b : A) → set (set xs k a) k b ≡ set xs k b
set_again [] k a b = refl
set_again (x ∷ xs) zero a b = refl
set_again (x ∷ xs) (suc k) a b = ap (λ y. x ∷ y) (set_again xs k a b)

-- with the waits and buffers of a place in use
abbrev pub used : ProtocolState → LaneProtocol → ProtocolState
used d p = record d { waits = p.waits; pool = p.pool }

-- the place with those of a protocol
abbrev pub left : LaneProtocol → ProtocolState → LaneProtocol
left p d = record p { waits = d.waits; pool = d.pool }

-- those of another protocol in use again
abbrev pub back : ProtocolState → ProtocolState → ProtocolState
back d e = record e { waits = d.waits; pool = d.pool }

-- put in use and back
pub places_back : (ps : List LaneProtocol) (h : ℕ) (d e : ProtocolState) (p q : LaneProtocol) → h < length ps
    → q ≡ get_or (set ps h (left p d)) h q
    → (set (set ps h (left p d)) h (left q e) ≡ set ps h (left p e)) × (used e q ≡ back d e)
places_back ps h d e p q low at =
    let same : q ≡ left p d = at ∙ get_or-set_same ps h (left p d) q low in (
      set_again ps h (left p d) (left q e) ∙ (λ t. set ps h (left (same t) e)),
      (λ t. used e (same t)),
    )

abbrev pub any_node : ExecState → ProtocolState → Node
any_node b d = record {
  me = d.directory.me;
  lane = lane_of b.lane 0;
  local = local_of b.local;
  executed = 0;
  phase = Running;
  entry = λ x. first_entry d.directory.me;
  waiting = λ b. [];
  occupancy = 0;
  wait = λ b. None;
  byes = λ j. false;
  stamp = 0;
  journal = [];
  output = [];
  counts = b.counts;
}

module _ (b b' : ExecState) (d d2 : ProtocolState) (ps : List LaneProtocol) (h : ℕ) (p : LaneProtocol) (at : p ≡ get_or ps h p) (low : h < length ps)
    (byes byes' : List Bool) (from : ℕ) (m : Message) (posts : List Post) (rest : IsAtRest (layout_of b) d ps)
    (held : (x : ℕ) → named_block m ≡ Some x → h ≡ held_in (waits_in ps) x)
    (handle : (n : Node) → n.me ≡ d.directory.me → handled (layout_of b) (with_all n b (used d p) byes) from m
    ≡ turn_by (with_all n b' d2 byes') posts None) where
  abbrev ws : List NodeWaits
  ws = waits_in ps

  place_low : h < length ws
  place_low = let e = length-map ps (λ (x : LaneProtocol). x.waits) in omega (arith, e, low)

  own : get_or ws h p.waits ≡ p.waits
  own = get_or-map (λ (x : LaneProtocol). x.waits) ps h p p.waits low ∙ ap (λ (x : LaneProtocol). x.waits) (sym at)

  pub waits_then : waits_in (set ps h (left p d2)) ≡ set ws h d2.waits
  waits_then = map-set (λ (x : LaneProtocol). x.waits) ps h (left p d2)

  pub reserved_then : (k : ℕ) → reserved_in (set ps h (left p d2)) k ≡ reserved_in ps k
  reserved_then k = ap (λ xs. get_or xs k None)
      (map-set_same (λ (x : LaneProtocol). x.reservation) ps h (left p d2) p (ap (λ (x : LaneProtocol). x.reservation) at))

  handles : Handles (layout_of b) (with_all (any_node b d) b (used d p) byes) m (turn_by (with_all (any_node b d) b' d2 byes') posts None)
  handles = subst (Handles (layout_of b) (with_all (any_node b d) b (used d p) byes) m) (handle (any_node b d) refl)
      (handled_handles (layout_of b) (with_all (any_node b d) b (used d p) byes) from m)

  others : (x : ℕ) → named_block m ≢ Some x → wait_of d2.waits x ≡ wait_of (get_or ws h p.waits) x
  others x apart = handles.others x apart ∙ ap (λ w. wait_of w x) (sym own)

  pub given_low : (x : ℕ) → given_by m posts ≡ Some x → x < blocks (layout_of b)
  given_low = handles.given

  pub apart_then : AreApart (set ws h d2.waits)
  apart_then = new_apart ws h p.waits d2.waits (named_block m) place_low rest.apart held others

  pub turn_then : (ps' : List LaneProtocol) → waits_in ps' ≡ waits_in (set ps h (left p d2))
      → ((k : ℕ) → reserved_in ps' k ≡ cleared_by (layout_of b) (given_by m posts) (reserved_in (set ps h (left p d2)) k))
      → (n : Node) (k : ℕ) → n.me ≡ d.directory.me
      → handled (layout_of b) (seen_with n k b d ps byes) from m
      ≡ turn_by (seen_with n k b' (back d d2) ps' byes') posts None
  turn_then ps' waits reserved n k me =
      let l = layout_of b in
      let same : (x : ℕ) → named_block m ≡ Some x → wait_among ws x ≡ wait_of p.waits x =
      λ x is.
      let here : held_in ws x < length ws = subst (λ z. z < length ws) (held x is) place_low in
      sym (held_wait ws x p.waits here) ∙ ap (λ z. wait_of (get_or ws z p.waits) x) (sym (held x is)) ∙ ap (λ w. wait_of w x) own in
      let carried = handled_carried l (with_all n b (used d p) byes) (wait_among ws) (reserved_in ps k) from m same in
      let wait : patched (named_block m) (wait_among ws) (wait_of d2.waits) ≡ wait_among (waits_in ps') =
      new_patched ws h p.waits d2.waits (named_block m) place_low rest.apart held others
      ∙ ap wait_among (sym waits_then ∙ sym waits) in
      let cleared : cleared_by l (given_by m posts) (reserved_in ps k) ≡ reserved_in ps' k =
      ap (cleared_by l (given_by m posts)) (sym (reserved_then k)) ∙ sym (reserved k) in
      carried
      ∙ ap (λ (t : Turn). turn_by (with_own t.node (patched (named_block m) (wait_among ws) t.node.wait)
      (cleared_by l (given_by m t.sends) (reserved_in ps k))) t.sends t.printed) (handle n me)
      ∙ (λ t. turn_by (with_own (with_all n b' d2 byes') (wait t) (cleared t)) posts None)

  pub holders_then : (ps' : List LaneProtocol) → waits_in ps' ≡ waits_in (set ps h (left p d2)) → (x : ℕ)
      → is_some (wait_among (waits_in ps') x) ≡ true → place_among (waits_in ps') x ≡ held_in (waits_in ps) x
  holders_then ps' waits x there =
      let e = waits ∙ waits_then in
      ap (λ z. place_among z x) e
      ∙ new_holders ws h p.waits d2.waits (named_block m) place_low rest.apart held others x
      (sym (ap (λ z. is_some (wait_among z x)) e) ∙ there)

  pub fewer_then : (ps' : List LaneProtocol) → waits_in ps' ≡ waits_in (set ps h (left p d2)) → (k x : ℕ)
      → is_some (wait_at ps' k x) ≡ true → is_some (wait_at ps k x) ≡ true
  fewer_then ps' waits k x there =
      let e = waits ∙ waits_then in
      let was = wait_at_is ps' k x ∙ ap (λ z. get_or (waits_for z x) k None) e in
      ap is_some (wait_at_is ps k x)
      ∙ new_fewer ws h p.waits d2.waits (named_block m) place_low rest.apart held others
      (λ y none. handles.fewer y (ap (λ w. wait_of w y) (sym own) ∙ none)) k x (sym (ap is_some was) ∙ there)

  pub few_then : (ps' : List LaneProtocol) → waits_in ps' ≡ waits_in (set ps h (left p d2))
      → (length posts ≤ 1) ⊎ ((x : ℕ) → is_some (wait_among (waits_in ps') x) ≡ is_some (wait_among (waits_in ps) x))
  few_then ps' waits = elim handles.few [
    | inl few ↦ inl few
    | inr same ↦ inr (λ x. ap (λ z. is_some (wait_among z x)) (waits ∙ waits_then)
        ∙ new_few ws h p.waits d2.waits (named_block m) place_low rest.apart held others
        (same ∙ ap wait_of (sym own)) x)
  ]

  pub rest_then : (ps' : List LaneProtocol) → waits_in ps' ≡ waits_in (set ps h (left p d2))
      → pools_in ps' ≡ pools_in (set ps h (left p d2)) → IsProtocolState (layout_of b) d2
      → IsAtRest (layout_of b) (back d d2) ps'
  rest_then ps' waits pools protocol =
      let l = layout_of b in
      let e = waits ∙ waits_then in
      let q = pools ∙ map-set (λ (x : LaneProtocol). x.pool) ps h (left p d2) in
      let is : IsKept l d2.waits d2.pool = record { waits = protocol.waits; slots = protocol.slots; bytes = protocol.bytes; buffers = protocol.buffers } in
      record {
        protocol = record {
          directory = protocol.directory;
          waits = rest.protocol.waits;
          slots = rest.protocol.slots;
          bytes = rest.protocol.bytes;
          buffers = rest.protocol.buffers;
        };
        empty = rest.empty;
        kept = subst (λ z. AreKept l (waits_in ps') z) (sym q)
            (subst (λ z. AreKept l z (set (pools_in ps) h d2.pool)) (sym e)
            (kept_set l ws (pools_in ps) h d2.waits d2.pool is rest.kept));
        apart = subst AreApart (sym e) apart_then;
      }
