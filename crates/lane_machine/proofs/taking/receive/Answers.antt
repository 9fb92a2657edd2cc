-- By the lemmas on a message.
use Rattle.std.proofs.Common.{◌≡◌, ℕ, ◌<◌, ◌∙◌, ap, sym, subst, set, get_or, cond, not, eqb, ltb, length, true, List, Some, None, arith}
use Rattle.lane_machine.specs.declared.lane_protocol.LaneProtocol.{LaneProtocol}
use Rattle.std.proofs.lemmas.Bool.Decides.{nat_tests}
use Rattle.block_layout.specs.Layout.{blocks}
use Rattle.node_machine.specs.miss_handlers.Effects.{named_block}
use Rattle.lane_model.specs.node_model.Node.{Node}
use Rattle.lane_model.specs.node_model.Turns.{handled}
use Rattle.node_machine.specs.declared.protocol_state.ProtocolState.{ProtocolState}
use Rattle.node_machine.specs.NodeState.{layout_of, with_all, IsProtocolState}
use Rattle.node_machine.specs.ProtocolState.{turn_by, is_order}
use Rattle.lane_machine.specs.Waits.{held_in, waits_in}
use Rattle.lane_machine.specs.Places.{pools_in, reserved_in}
use Rattle.lane_machine.specs.Words.{cleared_by}
use Rattle.lane_machine.specs.Stored.{IsAtRest, seen_with}
use Rattle.lane_machine.proofs.RowFrames.{given_by, given_is}
use Rattle.lane_machine.proofs.WordLemmas.{protocol_is_used}
use Rattle.lane_machine.proofs.ReceiveLemmas.{used, left, back, places_back, given_low, turn_then, holders_then, fewer_then, few_then, rest_then}
use Rattle.lane_machine.proofs.taking.receive.Goals as goal

some_sent : (n : ℕ) → not (eqb n 0) ≡ ltb 0 n
some_sent n = grind (arith, nat_tests)

pub handle-requires-clause-protocol : goal.handle-requires-clause-protocol
handle-requires-clause-protocol c =
    let b = c.args.body.now in
    let d = c.args.protocol.now in
    let ps = c.args.places.now.items in
    let h = c.holder_in-lane.result in
    let p = c.index_mut.result.now in
    let at = c.index_mut.ensures.value in
    let low = subst (λ (x : List LaneProtocol). h < length x) c.deref.ensures.value c.holder_in-lane.ensures.lane in
    subst (λ (x : ProtocolState). IsProtocolState (layout_of b) x) (sym c.swap_waits.ensures.protocol)
    (protocol_is_used b b b d d ps b.lane h p at low c.requires.rest)

pub returns-clause-turn : goal.returns-clause-turn
returns-clause-turn c n k me =
    let b = c.args.body.now in
    let d = c.args.protocol.now in
    let ps = c.args.places.now.items in
    let h = c.holder_in-lane.result in
    let p = c.index_mut.result.now in
    let at = c.index_mut.ensures.value in
    let low = subst (λ (x : List LaneProtocol). h < length x) c.deref.ensures.value c.holder_in-lane.ensures.lane in
    let b' = c.handle.new.body in
    let d2 = c.handle.new.protocol in
    let byes = c.args.byes.now in
    let byes' = c.handle.new.byes in
    let posts = c.handle.new.sends.items in
    let from = c.args.from in
    let m = c.args.message in
    let held : (x : ℕ) → named_block m ≡ Some x → h ≡ held_in (waits_in ps) x =
    λ x is. c.holder_in-lane.ensures.wait x (c.named_block.ensures ∙ is)
    ∙ ap (λ (z : List LaneProtocol). held_in (waits_in z) x) c.deref.ensures.value in
    let handle : (n : Node) → n.me ≡ d.directory.me → handled (layout_of b) (with_all n b (used d p) byes) from m
    ≡ turn_by (with_all n b' d2 byes') posts None =
    λ n me. subst (λ (x : ProtocolState). handled (layout_of b) (with_all n b x byes) from m ≡ turn_by (with_all n b' d2 byes') posts None)
    c.swap_waits.ensures.protocol (c.handle.ensures.turn n (me ∙ sym (ap (λ (x : ProtocolState). x.directory.me) c.swap_waits.ensures.protocol))) in
    let q = c.index_mut-2.result.now in
    let back2 = places_back ps h d d2 p q low
    (c.index_mut-2.ensures.value ∙ ap (λ z. get_or (set ps h z) h q) c.swap_waits.ensures.place) in
    let p3 : set (set ps h c.swap_waits.new.place) h c.swap_waits-2.new.place ≡ set ps h (left p d2) =
    (λ t. set (set ps h (c.swap_waits.ensures.place t)) h (c.swap_waits-2.ensures.place t)) ∙ back2.0 in
    let ps4 = c.clear_given.new.places.items in
    let waits4 : waits_in ps4 ≡ waits_in (set ps h (left p d2)) = c.clear_given.ensures.waits ∙ ap waits_in p3 in
    let l = layout_of b in
    let given : cond (not c.is_empty.result) c.given_up-given_up.result None ≡ given_by m posts =
    (λ t. cond (not (c.is_empty.ensures t)) (c.given_up-given_up.ensures t) None)
    ∙ (λ t. cond (some_sent (length posts) t) (cond (is_order m) (named_block m) None) None) ∙ given_is m posts in
    let reserved4 : (k : ℕ) → reserved_in ps4 k ≡ cleared_by l (given_by m posts) (reserved_in (set ps h (left p d2)) k) =
    λ k. c.clear_given.ensures.reserved k ∙ (λ t. cleared_by (c.requires.layout t) (given t) (reserved_in (p3 t) k)) in
    let d3 : c.swap_waits-2.new.protocol ≡ back d d2 = c.swap_waits-2.ensures.protocol ∙ back2.1 in
    turn_then b b' d d2 ps h p at low byes byes' from m posts c.requires.rest held handle ps4 waits4 reserved4 n k me
    ∙ ap (λ (x : ProtocolState). turn_by (seen_with n k b' x ps4 byes') posts None) (sym d3)

pub returns-clause-holders : goal.returns-clause-holders
returns-clause-holders c x there =
    let b = c.args.body.now in
    let d = c.args.protocol.now in
    let ps = c.args.places.now.items in
    let h = c.holder_in-lane.result in
    let p = c.index_mut.result.now in
    let at = c.index_mut.ensures.value in
    let low = subst (λ (x : List LaneProtocol). h < length x) c.deref.ensures.value c.holder_in-lane.ensures.lane in
    let b' = c.handle.new.body in
    let d2 = c.handle.new.protocol in
    let byes = c.args.byes.now in
    let byes' = c.handle.new.byes in
    let posts = c.handle.new.sends.items in
    let from = c.args.from in
    let m = c.args.message in
    let held : (x : ℕ) → named_block m ≡ Some x → h ≡ held_in (waits_in ps) x =
    λ x is. c.holder_in-lane.ensures.wait x (c.named_block.ensures ∙ is)
    ∙ ap (λ (z : List LaneProtocol). held_in (waits_in z) x) c.deref.ensures.value in
    let handle : (n : Node) → n.me ≡ d.directory.me → handled (layout_of b) (with_all n b (used d p) byes) from m
    ≡ turn_by (with_all n b' d2 byes') posts None =
    λ n me. subst (λ (x : ProtocolState). handled (layout_of b) (with_all n b x byes) from m ≡ turn_by (with_all n b' d2 byes') posts None)
    c.swap_waits.ensures.protocol (c.handle.ensures.turn n (me ∙ sym (ap (λ (x : ProtocolState). x.directory.me) c.swap_waits.ensures.protocol))) in
    let q = c.index_mut-2.result.now in
    let back2 = places_back ps h d d2 p q low
    (c.index_mut-2.ensures.value ∙ ap (λ z. get_or (set ps h z) h q) c.swap_waits.ensures.place) in
    let p3 : set (set ps h c.swap_waits.new.place) h c.swap_waits-2.new.place ≡ set ps h (left p d2) =
    (λ t. set (set ps h (c.swap_waits.ensures.place t)) h (c.swap_waits-2.ensures.place t)) ∙ back2.0 in
    let ps4 = c.clear_given.new.places.items in
    let waits4 : waits_in ps4 ≡ waits_in (set ps h (left p d2)) = c.clear_given.ensures.waits ∙ ap waits_in p3 in
    holders_then b b' d d2 ps h p at low byes byes' from m posts c.requires.rest held handle ps4 waits4 x there

pub returns-clause-fewer : goal.returns-clause-fewer
returns-clause-fewer c k x there =
    let b = c.args.body.now in
    let d = c.args.protocol.now in
    let ps = c.args.places.now.items in
    let h = c.holder_in-lane.result in
    let p = c.index_mut.result.now in
    let at = c.index_mut.ensures.value in
    let low = subst (λ (x : List LaneProtocol). h < length x) c.deref.ensures.value c.holder_in-lane.ensures.lane in
    let b' = c.handle.new.body in
    let d2 = c.handle.new.protocol in
    let byes = c.args.byes.now in
    let byes' = c.handle.new.byes in
    let posts = c.handle.new.sends.items in
    let from = c.args.from in
    let m = c.args.message in
    let held : (x : ℕ) → named_block m ≡ Some x → h ≡ held_in (waits_in ps) x =
    λ x is. c.holder_in-lane.ensures.wait x (c.named_block.ensures ∙ is)
    ∙ ap (λ (z : List LaneProtocol). held_in (waits_in z) x) c.deref.ensures.value in
    let handle : (n : Node) → n.me ≡ d.directory.me → handled (layout_of b) (with_all n b (used d p) byes) from m
    ≡ turn_by (with_all n b' d2 byes') posts None =
    λ n me. subst (λ (x : ProtocolState). handled (layout_of b) (with_all n b x byes) from m ≡ turn_by (with_all n b' d2 byes') posts None)
    c.swap_waits.ensures.protocol (c.handle.ensures.turn n (me ∙ sym (ap (λ (x : ProtocolState). x.directory.me) c.swap_waits.ensures.protocol))) in
    let q = c.index_mut-2.result.now in
    let back2 = places_back ps h d d2 p q low
    (c.index_mut-2.ensures.value ∙ ap (λ z. get_or (set ps h z) h q) c.swap_waits.ensures.place) in
    let p3 : set (set ps h c.swap_waits.new.place) h c.swap_waits-2.new.place ≡ set ps h (left p d2) =
    (λ t. set (set ps h (c.swap_waits.ensures.place t)) h (c.swap_waits-2.ensures.place t)) ∙ back2.0 in
    let ps4 = c.clear_given.new.places.items in
    let waits4 : waits_in ps4 ≡ waits_in (set ps h (left p d2)) = c.clear_given.ensures.waits ∙ ap waits_in p3 in
    fewer_then b b' d d2 ps h p at low byes byes' from m posts c.requires.rest held handle ps4 waits4 k x there

pub returns-clause-few : goal.returns-clause-few
returns-clause-few c =
    let b = c.args.body.now in
    let d = c.args.protocol.now in
    let ps = c.args.places.now.items in
    let h = c.holder_in-lane.result in
    let p = c.index_mut.result.now in
    let at = c.index_mut.ensures.value in
    let low = subst (λ (x : List LaneProtocol). h < length x) c.deref.ensures.value c.holder_in-lane.ensures.lane in
    let b' = c.handle.new.body in
    let d2 = c.handle.new.protocol in
    let byes = c.args.byes.now in
    let byes' = c.handle.new.byes in
    let posts = c.handle.new.sends.items in
    let from = c.args.from in
    let m = c.args.message in
    let held : (x : ℕ) → named_block m ≡ Some x → h ≡ held_in (waits_in ps) x =
    λ x is. c.holder_in-lane.ensures.wait x (c.named_block.ensures ∙ is)
    ∙ ap (λ (z : List LaneProtocol). held_in (waits_in z) x) c.deref.ensures.value in
    let handle : (n : Node) → n.me ≡ d.directory.me → handled (layout_of b) (with_all n b (used d p) byes) from m
    ≡ turn_by (with_all n b' d2 byes') posts None =
    λ n me. subst (λ (x : ProtocolState). handled (layout_of b) (with_all n b x byes) from m ≡ turn_by (with_all n b' d2 byes') posts None)
    c.swap_waits.ensures.protocol (c.handle.ensures.turn n (me ∙ sym (ap (λ (x : ProtocolState). x.directory.me) c.swap_waits.ensures.protocol))) in
    let q = c.index_mut-2.result.now in
    let back2 = places_back ps h d d2 p q low
    (c.index_mut-2.ensures.value ∙ ap (λ z. get_or (set ps h z) h q) c.swap_waits.ensures.place) in
    let p3 : set (set ps h c.swap_waits.new.place) h c.swap_waits-2.new.place ≡ set ps h (left p d2) =
    (λ t. set (set ps h (c.swap_waits.ensures.place t)) h (c.swap_waits-2.ensures.place t)) ∙ back2.0 in
    let ps4 = c.clear_given.new.places.items in
    let waits4 : waits_in ps4 ≡ waits_in (set ps h (left p d2)) = c.clear_given.ensures.waits ∙ ap waits_in p3 in
    few_then b b' d d2 ps h p at low byes byes' from m posts c.requires.rest held handle ps4 waits4

pub returns-clause-rest : goal.returns-clause-rest
returns-clause-rest c =
    let b = c.args.body.now in
    let d = c.args.protocol.now in
    let ps = c.args.places.now.items in
    let h = c.holder_in-lane.result in
    let p = c.index_mut.result.now in
    let at = c.index_mut.ensures.value in
    let low = subst (λ (x : List LaneProtocol). h < length x) c.deref.ensures.value c.holder_in-lane.ensures.lane in
    let b' = c.handle.new.body in
    let d2 = c.handle.new.protocol in
    let byes = c.args.byes.now in
    let byes' = c.handle.new.byes in
    let posts = c.handle.new.sends.items in
    let from = c.args.from in
    let m = c.args.message in
    let held : (x : ℕ) → named_block m ≡ Some x → h ≡ held_in (waits_in ps) x =
    λ x is. c.holder_in-lane.ensures.wait x (c.named_block.ensures ∙ is)
    ∙ ap (λ (z : List LaneProtocol). held_in (waits_in z) x) c.deref.ensures.value in
    let handle : (n : Node) → n.me ≡ d.directory.me → handled (layout_of b) (with_all n b (used d p) byes) from m
    ≡ turn_by (with_all n b' d2 byes') posts None =
    λ n me. subst (λ (x : ProtocolState). handled (layout_of b) (with_all n b x byes) from m ≡ turn_by (with_all n b' d2 byes') posts None)
    c.swap_waits.ensures.protocol (c.handle.ensures.turn n (me ∙ sym (ap (λ (x : ProtocolState). x.directory.me) c.swap_waits.ensures.protocol))) in
    let q = c.index_mut-2.result.now in
    let back2 = places_back ps h d d2 p q low
    (c.index_mut-2.ensures.value ∙ ap (λ z. get_or (set ps h z) h q) c.swap_waits.ensures.place) in
    let p3 : set (set ps h c.swap_waits.new.place) h c.swap_waits-2.new.place ≡ set ps h (left p d2) =
    (λ t. set (set ps h (c.swap_waits.ensures.place t)) h (c.swap_waits-2.ensures.place t)) ∙ back2.0 in
    let ps4 = c.clear_given.new.places.items in
    let waits4 : waits_in ps4 ≡ waits_in (set ps h (left p d2)) = c.clear_given.ensures.waits ∙ ap waits_in p3 in
    let d3 : c.swap_waits-2.new.protocol ≡ back d d2 = c.swap_waits-2.ensures.protocol ∙ back2.1 in
    let pools4 : pools_in ps4 ≡ pools_in (set ps h (left p d2)) = c.clear_given.ensures.pools ∙ ap pools_in p3 in
    subst (λ (x : ProtocolState). IsAtRest (layout_of b) x ps4) (sym d3) (rest_then b b' d d2 ps h p at low byes byes' from m posts c.requires.rest held handle ps4 waits4 pools4 c.handle.ensures.protocol)

pub clear_given-requires : goal.clear_given-requires
clear_given-requires c =
    let b = c.args.body.now in
    let d = c.args.protocol.now in
    let ps = c.args.places.now.items in
    let h = c.holder_in-lane.result in
    let p = c.index_mut.result.now in
    let at = c.index_mut.ensures.value in
    let low = subst (λ (x : List LaneProtocol). h < length x) c.deref.ensures.value c.holder_in-lane.ensures.lane in
    let b' = c.handle.new.body in
    let d2 = c.handle.new.protocol in
    let byes = c.args.byes.now in
    let byes' = c.handle.new.byes in
    let posts = c.handle.new.sends.items in
    let from = c.args.from in
    let m = c.args.message in
    let held : (x : ℕ) → named_block m ≡ Some x → h ≡ held_in (waits_in ps) x =
    λ x is. c.holder_in-lane.ensures.wait x (c.named_block.ensures ∙ is)
    ∙ ap (λ (z : List LaneProtocol). held_in (waits_in z) x) c.deref.ensures.value in
    let handle : (n : Node) → n.me ≡ d.directory.me → handled (layout_of b) (with_all n b (used d p) byes) from m
    ≡ turn_by (with_all n b' d2 byes') posts None =
    λ n me. subst (λ (x : ProtocolState). handled (layout_of b) (with_all n b x byes) from m ≡ turn_by (with_all n b' d2 byes') posts None)
    c.swap_waits.ensures.protocol (c.handle.ensures.turn n (me ∙ sym (ap (λ (x : ProtocolState). x.directory.me) c.swap_waits.ensures.protocol))) in
    let q = c.index_mut-2.result.now in
    let back2 = places_back ps h d d2 p q low
    (c.index_mut-2.ensures.value ∙ ap (λ z. get_or (set ps h z) h q) c.swap_waits.ensures.place) in
    let p3 : set (set ps h c.swap_waits.new.place) h c.swap_waits-2.new.place ≡ set ps h (left p d2) =
    (λ t. set (set ps h (c.swap_waits.ensures.place t)) h (c.swap_waits-2.ensures.place t)) ∙ back2.0 in
    let l = layout_of b in
    let given : cond (not c.is_empty.result) c.given_up-given_up.result None ≡ given_by m posts =
    (λ t. cond (not (c.is_empty.ensures t)) (c.given_up-given_up.ensures t) None)
    ∙ (λ t. cond (some_sent (length posts) t) (cond (is_order m) (named_block m) None) None) ∙ given_is m posts in
    let some : (x : ℕ) → not c.is_empty.result ≡ true → c.given_up-given_up.result ≡ Some x → given_by m posts ≡ Some x =
    λ x sent is. sym given ∙ (λ t. cond (sent t) c.given_up-given_up.result None) ∙ is in
    record {
      block = λ x sent is. subst (λ z. x < blocks z) (sym c.requires.layout)
          (given_low b b' d d2 ps h p at low byes byes' from m posts c.requires.rest held handle x (some x sent is));
    }
