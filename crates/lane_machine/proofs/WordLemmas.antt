-- A lane's word at a node of several lanes, by what the node stores.
use Rattle.std.proofs.Common.{◌≡◌, ℕ, zero, suc, ◌<◌, Bool, true, false, cond, List, [], ◌∷◌, length, map, set, get_or, Option, None, refl, sym, ap, ◌∙◌, subst, arith}
use Rattle.std.specs.Prelude.{is_some}
use Rattle.std.proofs.Math.Path.{fun_ext}
use Rattle.std.proofs.lemmas.List.{map-set, get_or-map, length-map, length-set, get_or-set_same, get_or-set_other}
use Rattle.home_directory.specs.dsm_messages.declared.messages.Post.{Post}
use Rattle.home_directory.specs.declared.wait.Wait.{Wait}
use Rattle.node_machine.specs.miss_handlers.Waits.{NodeWaits, wait_of}
use Rattle.lane_model.specs.node_model.jump_map.Image.{Cell}
use Rattle.node_machine.specs.node_words.declared.exec_state.ExecState.{ExecState}
use Rattle.node_machine.specs.node_words.declared.lane.ProcessorState as kept
use Rattle.node_machine.specs.node_words.declared.serve.Served.{Served}
use Rattle.node_machine.specs.node_words.Address.{word_address}
use Rattle.node_machine.specs.node_words.node_memory.Shelf.{Ground, ground_of, local_of}
use Rattle.node_machine.specs.node_words.Kept.{Serves, lane_of, wants_by}
use Rattle.lane_model.specs.node_model.Node.{Node, Work, next_outcome, word_outcome}
use Rattle.lane_model.specs.node_model.Turns.{each_block_once, wants_of}
use Rattle.node_machine.specs.declared.protocol_state.ProtocolState.{ProtocolState}
use Rattle.node_machine.specs.NodeState.{layout_of, IsProtocolState}
use Rattle.node_machine.proofs.NodeStateLemmas.{served_node, served_word}
use Rattle.node_machine.proofs.WaitLemmas.{none_waits, no_waits}
use Rattle.lane_model.specs.Turns.{ask_all, blocks_of, still}
use Rattle.lane_machine.specs.declared.lane_protocol.LaneProtocol.{LaneProtocol}
use Rattle.lane_machine.specs.Waits.{first_in, place_in, AtMostOne, waits_for, wait_among, place_among, waits_in, all_waits, AreApart}
use Rattle.lane_machine.specs.Places.{wait_at, pools_in, reserved_in}
use Rattle.lane_machine.specs.Stored.{IsKept, AreKept, IsAtRest, seen_at, work_in, word_asks, served}
use Rattle.lane_machine.specs.ProtocolStates.{asked_by, stood}
use Rattle.lane_machine.proofs.WaitPlaces.{place_back}
use Rattle.lane_machine.proofs.PlaceLemmas.{waits_set, waits_get, waits_len, used_among, used_apart, put_among, put_apart, kept_at, kept_set}
use Rattle.lane_machine.proofs.HandleLemmas.{wait_at_is}

-- a body, a protocol and a place, where a lane and its place are in use
abbrev pub body_used : ExecState → kept.ProcessorState → LaneProtocol → ExecState
body_used b l p = record b { lane = l; local = record b.local { reservation = p.reservation } }

abbrev pub protocol_used : ProtocolState → LaneProtocol → ProtocolState
protocol_used d p = record d { waits = p.waits; pool = p.pool }

abbrev pub place_left : ExecState → ProtocolState → LaneProtocol
place_left b d = record { reservation = b.local.reservation; waits = d.waits; pool = d.pool }

-- the waits of an empty protocol
empty_waits : (d : ProtocolState) → length d.waits.waits ≡ 0 → (b : ℕ) → wait_of d.waits b ≡ None
empty_waits d e b = none_waits d.waits.waits e b

set_again : {A : Type 0} (xs : List A) (k : ℕ) (a b : A) → set (set xs k a) k b ≡ set xs k b
set_again [] k a b = refl
set_again (x ∷ xs) zero a b = refl
set_again (x ∷ xs) (suc k) a b = ap (λ y. x ∷ y) (set_again xs k a b)

module _ (b b2 b3 : ExecState) (d d3 : ProtocolState) (ps : List LaneProtocol) (l0 : kept.ProcessorState) (k : ℕ) (p : LaneProtocol) (at : p ≡ get_or ps k p)
    (low : k < length ps) (rest : IsAtRest (layout_of b) d ps) where
  abbrev ws : List NodeWaits
  ws = waits_in ps

  place_low : k < length ws
  place_low = let e = length-map ps (λ (x : LaneProtocol). x.waits) in omega (arith, e, low)

  own : get_or ws k p.waits ≡ p.waits
  own = get_or-map (λ (x : LaneProtocol). x.waits) ps k p p.waits low ∙ ap (λ (x : LaneProtocol). x.waits) (sym at)

  -- the places while this one is in use
  abbrev ps1 : List LaneProtocol
  ps1 = set ps k (place_left b d)

  waits1 : waits_in ps1 ≡ set ws k d.waits
  waits1 = map-set (λ (x : LaneProtocol). x.waits) ps k (place_left b d)

  pub used_all : wait_among ws ≡ wait_among (all_waits (protocol_used d p) ps1)
  used_all = fun_ext (λ x. used_among ws k p.waits d.waits place_low rest.apart (empty_waits d rest.empty) x
      ∙ (λ t. wait_among (own t ∷ sym waits1 t) x))

  pub apart_used : AreApart (all_waits (protocol_used d p) ps1)
  apart_used = subst (λ z. AreApart (p.waits ∷ z)) (sym waits1)
      (subst (λ w. AreApart (w ∷ set ws k d.waits)) own (used_apart ws k p.waits d.waits place_low rest.apart (empty_waits d rest.empty)))

  pub reserved_is : p.reservation ≡ reserved_in ps k
  reserved_is = ap (λ (x : LaneProtocol). x.reservation) at ∙ sym (get_or-map (λ (x : LaneProtocol). x.reservation) ps k p None low)

  pub protocol_is_used : IsProtocolState (layout_of b) (protocol_used d p)
  protocol_is_used =
      let l = layout_of b in
      let kept : IsKept l (get_or ws k p.waits) (get_or (pools_in ps) k p.pool) =
      kept_at l ws (pools_in ps) k p.waits p.pool place_low rest.kept in
      let pool : get_or (pools_in ps) k p.pool ≡ p.pool =
      get_or-map (λ (x : LaneProtocol). x.pool) ps k p p.pool low ∙ ap (λ (x : LaneProtocol). x.pool) (sym at) in
      let h : IsKept l p.waits p.pool = subst (λ w. IsKept l w p.pool) own (subst (λ z. IsKept l (get_or ws k p.waits) z) pool kept) in
      record { directory = rest.protocol.directory; waits = h.waits; slots = h.slots; bytes = h.bytes; buffers = h.buffers }

  -- a lane that waits for nothing
  pub idle_is : ((x : ℕ) → wait_at ps k x ≡ None) → length p.waits.waits ≡ 0
  idle_is none = no_waits p.waits.waits (λ x. ap (λ w. wait_of w x) (sym own) ∙ sym (waits_get ws k x p.waits place_low)
      ∙ sym (wait_at_is ps k x) ∙ none x)

  -- 1. The node after the word

  module _ (image : List Cell) (budget : ℕ) (index : ℕ) (done : Served) (posts : List Post) (again : Bool) (n : Node)
      (s : Serves image (next_outcome (work_in b image budget).program image (lane_of l0 (word_address index))
      (local_of (body_used b l0 p).local)) (ground_of b.local) b.counts b2.lane b2.local b2.counts done)
      (ask : (m : Node) (o : Option ℕ) → ask_all (layout_of b2) (each_block_once (layout_of b2) (wants_by done.following))
      (asked_by (stood m b2 (protocol_used d p) ps1) [] o false) ≡ asked_by (stood m b3 d3 ps1) posts o again)
      (lane3 : b3.lane ≡ b2.lane) where
    abbrev work : Work
    work = work_in b image budget

    abbrev before : Node
    before = seen_at n k l0 index b d ps

    local_is : local_of (body_used b l0 p).local ≡ before.local
    local_is = λ t. record (local_of b.local) { reservation = reserved_is t }

    pub serves : Serves image (word_outcome work before) (ground_of b.local) b.counts b2.lane b2.local b2.counts done
    serves = subst (λ x. Serves image (next_outcome work.program image (lane_of l0 (word_address index)) x)
        (ground_of b.local) b.counts b2.lane b2.local b2.counts done) local_is s

    abbrev between : Node
    between = served_node work before b2.lane b2.local b2.counts done

    between_is : between ≡ stood between b2 (protocol_used d p) ps1
    between_is = λ t. record between { wait = used_all t }

    -- the places once the lane is back
    abbrev ps4 : List LaneProtocol
    ps4 = set ps k (place_left b3 d3)

    abbrev protocol4 : ProtocolState
    protocol4 = record d3 { waits = d.waits; pool = d.pool }

    abbrev body4 : ExecState
    body4 = record b3 { local = record b3.local { reservation = b.local.reservation } }

    length_low : k < length ps4
    length_low = let e = length-set ps k (place_left b3 d3) in omega (arith, e, low)

    pub word_is : (b4 : ExecState) → b4.local ≡ body4.local → b4.counts ≡ b3.counts → (d4 : ProtocolState) → d4 ≡ protocol4
        → (ps' : List LaneProtocol) → ps' ≡ ps4 → wait_among (all_waits d3 ps1) ≡ wait_among (waits_in ps4)
        → word_asks work before
        ≡ asked_by (served (seen_at n k b3.lane done.at b4 d4 ps') budget done) posts done.output again
    word_is b4 local counts d4 protocol ps' places waits =
        let layout : layout_of b2 ≡ layout_of b = ap (λ (g : Ground). g.layout) s.ground_same in
        let word = served_word work before (ground_of b.local) b2.lane b2.local b2.counts done serves in
        let asks : word_asks work before
        ≡ ask_all (layout_of b2) (each_block_once (layout_of b2) (wants_by done.following)) (asked_by (stood between b2 (protocol_used d p) ps1) [] done.output false) =
        (λ t. ask_all (sym layout t) (each_block_once (sym layout t) (sym serves.wants t))
        (record { turn = word t; again = false }))
        ∙ ap (λ (x : Node). ask_all (layout_of b2) (each_block_once (layout_of b2) (wants_by done.following)) (asked_by x [] done.output false)) between_is in
        let reserved : b3.local.reservation ≡ reserved_in ps4 k =
        sym (get_or-map (λ (x : LaneProtocol). x.reservation) ps4 k (place_left b3 d3) None length_low
        ∙ ap (λ (x : LaneProtocol). x.reservation) (get_or-set_same ps k (place_left b3 d3) (place_left b3 d3) low)) in
        let last : stood between b3 d3 ps1 ≡ served (seen_at n k b3.lane done.at (record b4 { local = body4.local; counts = b3.counts }) protocol4 ps4) budget done =
        λ t. record (stood between b3 d3 ps1) {
          lane = lane_of (sym lane3 t) (word_address done.at);
          local = record (local_of b3.local) { reservation = reserved t };
          wait = waits t;
        } in
        asks ∙ ask between done.output
        ∙ ap (λ (x : Node). asked_by x posts done.output again) last
        ∙ (λ t. asked_by (served (seen_at n k b3.lane done.at (record b4 { local = sym local t; counts = sym counts t }) (sym protocol t) (sym places t)) budget done) posts done.output again)

    pub awaits_is : (bs : List ℕ) (f : ℕ → Option Wait) (g : ℕ → Option Wait) → f ≡ g
        → bs ≡ still f (blocks_of (layout_of b2) (each_block_once (layout_of b2) (wants_by done.following)))
        → bs ≡ still g (blocks_of work.layout (each_block_once work.layout (wants_of (word_outcome work before).move)))
    awaits_is bs f g e is =
        let layout : layout_of b2 ≡ layout_of b = ap (λ (g : Ground). g.layout) s.ground_same in
        is ∙ (λ t. still (e t) (blocks_of (layout t) (each_block_once (layout t) (serves.wants t))))

  -- 2. The waits then

  module _ (apart3 : AreApart (all_waits d3 ps1)) (none : (x : ℕ) → wait_of p.waits x ≡ None) where
    none1 : (x : ℕ) → wait_of (get_or (waits_in ps1) k d.waits) x ≡ None
    none1 x = ap (λ z. wait_of (get_or z k d.waits) x) waits1
        ∙ ap (λ w. wait_of w x) (get_or-set_same ws k d.waits d.waits place_low) ∙ empty_waits d rest.empty x

    low1 : k < length (waits_in ps1)
    low1 = let e = length-map ps1 (λ (x : LaneProtocol). x.waits) in let f = length-set ps k (place_left b d) in omega (arith, e, f, low)

    waits4 : waits_in (set ps k (place_left b3 d3)) ≡ set (waits_in ps1) k d3.waits
    waits4 = map-set (λ (x : LaneProtocol). x.waits) ps k (place_left b3 d3)
        ∙ sym (set_again ws k d.waits d3.waits) ∙ ap (λ z. set z k d3.waits) (sym waits1)

    pub back_all : wait_among (all_waits d3 ps1) ≡ wait_among (waits_in (set ps k (place_left b3 d3)))
    back_all = fun_ext (λ x. sym (put_among (waits_in ps1) k d.waits d3.waits low1 none1 apart3 x)
        ∙ ap (λ z. wait_among z x) (sym waits4))

    pub back_apart : AreApart (waits_in (set ps k (place_left b3 d3)))
    back_apart = subst AreApart (sym waits4) (put_apart (waits_in ps1) k d.waits d3.waits low1 none1 apart3)

    pub back_rest : (d4 : ProtocolState) → IsProtocolState (layout_of b) d3 → d4 ≡ record d3 { waits = d.waits; pool = d.pool }
        → IsAtRest (layout_of b) d4 (set ps k (place_left b3 d3))
    back_rest d4 protocol is =
        let l = layout_of b in
        let q = map-set (λ (x : LaneProtocol). x.pool) ps k (place_left b3 d3) in
        let e = map-set (λ (x : LaneProtocol). x.waits) ps k (place_left b3 d3) in
        let kept : IsKept l d3.waits d3.pool = record { waits = protocol.waits; slots = protocol.slots; bytes = protocol.bytes; buffers = protocol.buffers } in
        subst (λ x. IsAtRest l x (set ps k (place_left b3 d3))) (sym is) (record {
          protocol = record {
            directory = protocol.directory;
            waits = rest.protocol.waits;
            slots = rest.protocol.slots;
            bytes = rest.protocol.bytes;
            buffers = rest.protocol.buffers;
          };
          empty = rest.empty;
          kept = subst (λ z. AreKept l (waits_in (set ps k (place_left b3 d3))) z) (sym q)
              (subst (λ z. AreKept l z (set (pools_in ps) k d3.pool)) (sym e)
              (kept_set l ws (pools_in ps) k d3.waits d3.pool kept rest.kept));
          apart = back_apart;
        })

    -- whoever held a wait holds it, and the lane those that none held
    pub back_holders : (x : ℕ) → is_some (wait_among (waits_in (set ps k (place_left b3 d3))) x) ≡ true
        → place_among (waits_in (set ps k (place_left b3 d3))) x
        ≡ cond (is_some (wait_among ws x)) (place_among ws x) k
    back_holders x there =
        let e : waits_for (waits_in (set ps k (place_left b3 d3))) x ≡ set (waits_for ws x) k (wait_of d3.waits x) =
        ap (λ z. waits_for z x) (map-set (λ (y : LaneProtocol). y.waits) ps k (place_left b3 d3)) ∙ waits_set ws k d3.waits x in
        let here : get_or (waits_for ws x) k None ≡ None = waits_get ws k x p.waits place_low ∙ ap (λ w. wait_of w x) own ∙ none x in
        let one = subst AtMostOne e (back_apart x) in
        ap place_in e
        ∙ place_back (waits_for ws x) (wait_of d3.waits x) k here (let f = waits_len ws x in omega (arith, f, place_low))
        (sym (ap (λ os. is_some (first_in os)) e) ∙ there) one

  -- 3. The others' waits and reservations

  pub others_wait : (j x : ℕ) → (j ≡ k → ⊥) → wait_at (set ps k (place_left b3 d3)) j x ≡ wait_at ps j x
  others_wait j x apart = wait_at_is (set ps k (place_left b3 d3)) j x
      ∙ ap (λ z. get_or (waits_for z x) j None) (map-set (λ (y : LaneProtocol). y.waits) ps k (place_left b3 d3))
      ∙ ap (λ os. get_or os j None) (waits_set ws k d3.waits x)
      ∙ get_or-set_other (waits_for ws x) k j (wait_of d3.waits x) None apart ∙ sym (wait_at_is ps j x)

  pub own_wait : (x : ℕ) → wait_at (set ps k (place_left b3 d3)) k x ≡ wait_of d3.waits x
  own_wait x = wait_at_is (set ps k (place_left b3 d3)) k x
      ∙ ap (λ z. get_or (waits_for z x) k None) (map-set (λ (y : LaneProtocol). y.waits) ps k (place_left b3 d3))
      ∙ ap (λ os. get_or os k None) (waits_set ws k d3.waits x)
      ∙ get_or-set_same (waits_for ws x) k (wait_of d3.waits x) None (let f = waits_len ws x in omega (arith, f, place_low))

  pub others_reserved : (j : ℕ) → (j ≡ k → ⊥) → reserved_in (set ps k (place_left b3 d3)) j ≡ reserved_in ps j
  others_reserved j apart = ap (λ z. get_or z j None) (map-set (λ (x : LaneProtocol). x.reservation) ps k (place_left b3 d3))
      ∙ get_or-set_other (map (λ (x : LaneProtocol). x.reservation) ps) k j b3.local.reservation None apart
