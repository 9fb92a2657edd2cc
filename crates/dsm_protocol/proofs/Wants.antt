-- The whole of a want, given what its parts did.
use Rattle.std.proofs.Common.{◌≡◌, ℕ, ◌<◌, ◌≤◌, Bool, true, false, not, cond, eqb, List, [], ◌∷◌, ◌++◌, length, get_or, set, refl, sym, ap, ◌∙◌, subst, inl, inr, Option, Some, None, arith, append-nil}
use Rattle.std.proofs.lemmas.Bool.Decides.{eqb_tells}
use Rattle.std.proofs.lemmas.List.{get_or_default, length-set}
use Rattle.dsm_protocol.proofs.Names.{Shape, blocks, empty_buffer, state_of, bytes_of, Need, Post, Directory, entry_at, entries_of, meets, Miss, want_row, miss_of, states_after, waits_after, Event, Want, BareNode, messages_to, with_sends, after_miss, Contents, need_of, NoByes, Sound, Queue, list_of, AreQueues, SameMessages, AreSent, pending, Leads, Nodes, no_node, node_in, node_at, world_of, IsNode, AreReached, posts_of, HasWanted}
use Rattle.message_queues.specs.node_model.miss_handlers.Waits.{wait_of}
use Rattle.message_queues.specs.node_model.miss_handlers.Effects.{block_facts as facts}
use Rattle.dsm_protocol.proofs.Alike.{Alike, alike_stands, alike_sound, alike_no_byes, node_set}
use Rattle.dsm_protocol.proofs.Wanting.{want_leads, want_met}
use Rattle.dsm_protocol.proofs.Promised.{two_of_most}

module _ (l : Shape) (ns : List BareNode) (q0 q1 q2 : List Queue) (i b : ℕ) (need : Need)
    (old new : BareNode) (posts : List Post)
    (reached : AreReached (record { layout = l; nodes = ns; queues = q0 })) (bi : i < l.nodes)
    (bb : b < blocks l)
    (reserved : SameMessages q0 q1 l.nodes) (sent : AreSent q1 q2 l.nodes i posts)
    (queues : AreQueues q2 l.nodes)
    (is : old ≡ get_or ns i old) (did : HasWanted old new b need posts)
    (stays : (x : Shape) (y : ℕ) → IsNode x y old → IsNode x y new)
    (idle : (world_of (record { layout = l; nodes = ns; queues = q0 })).wait i b ≡ None)
    (few : pending l (world_of (record { layout = l; nodes = ns; queues = q0 })) i < 2) where
  abbrev p0 : Nodes
  p0 = record { layout = l; nodes = ns; queues = q0 }

  abbrev p2 : Nodes
  p2 = record { layout = l; nodes = set ns i new; queues = q2 }

  inside : i < length ns
  inside = omega (arith, reached.count)

  old_is : old ≡ node_in l ns i
  old_is = is ∙ get_or_default ns i old (no_node l) inside

  node_is : IsNode l i old
  node_is = subst (IsNode l i) (sym old_is) (reached.nodes i bi)

  at : (x : ℕ) → node_in l (set ns i new) x ≡ cond (eqb x i) new (node_in l ns x)
  at x = node_set l ns i new x inside

  same_by : {A : Type 0} (f : BareNode → A) → f new ≡ f old → (x : ℕ)
      → f (node_in l (set ns i new) x) ≡ f (node_in l ns x)
  same_by f e x = ap f (at x) ∙ (elim (eqb_tells x i) [
    | inl q ↦ rw q.0 (e ∙ ap f old_is ∙ ap (λ z. f (node_in l ns z)) (sym q.1))
    | inr q ↦ rw q.0 refl
  ])

  abbrev miss : Option Miss
  miss = miss_of old.waits old.states old.pool b need

  list_by : (ps : List Post) → posts ≡ ps → (x y : ℕ) → x < l.nodes → y < l.nodes
      → list_of q2 l.nodes x y ≡ with_sends (list_of q0 l.nodes) i ps x y
  list_by ps e x y bx by =
      sent x y bx by ∙ ap (λ z. cond (eqb x i) (z ++ messages_to y posts) z) (reserved x y bx by)
      ∙ ap (λ z. with_sends (list_of q0 l.nodes) i z x y) e

  -- the node's own state and wait, as the world has them
  own_state : state_of old.states ≡ (world_of p0).state i
  own_state = ap (λ (z : BareNode). state_of z.states) old_is

  own_wait : wait_of old.waits ≡ (world_of p0).wait i
  own_wait = ap (λ (z : BareNode). wait_of z.waits) old_is

  abbrev Goes : Type 0
  Goes = (first : ℕ → Contents) (es : List (Event Contents)) → Leads l first es (world_of p0)
      → Leads l first (es ++ Want i b (need_of need) ∷ []) (world_of p2) × Sound l (world_of p2)
      × NoByes l (world_of p2)

  none_alike : miss ≡ None → Alike l (world_of p0) (world_of p2)
  none_alike e = record {
    entry = λ x d bx bd. ap (λ f. f d) (same_by (λ n. entry_at n.directory.entries)
        (ap (λ (z : Directory). entry_at z.entries) did.directory) x);
    waiting = λ x d bx. ap (λ f. f d) (same_by (λ n. (entries_of n.directory).waiting)
        (ap (λ (z : Directory). (entries_of z).waiting) did.directory) x);
    occupancy = λ x bx. same_by (λ n. (entries_of n.directory).occupancy)
        (ap (λ (z : Directory). (entries_of z).occupancy) did.directory) x;
    state = λ x d bx bd. ap (λ f. f d) (same_by (λ n. state_of n.states)
        (did.state ∙ ap (states_after (state_of old.states) b) e) x);
    bytes = λ x d bx bd. ap (λ f. f d) (same_by (λ n. bytes_of n.copy) (ap bytes_of did.copy) x);
    wait = λ x d bx bd. ap (λ f. f d) (same_by (λ n. wait_of n.waits)
        (did.wait ∙ ap (waits_after (wait_of old.waits) b) e) x);
    list = λ x y bx by. list_by [] (did.sends ∙ ap posts_of e) x y bx by
        ∙ (elim (eqb x i) as (λ t. cond t (list_of q0 l.nodes x y ++ []) (list_of q0 l.nodes x y)
        ≡ list_of q0 l.nodes x y) [ true ↦ append-nil (list_of q0 l.nodes x y) | false ↦ refl ]);
  }

  some_alike : (x : Miss) → miss ≡ Some x → Alike l (after_miss (world_of p0) i b x) (world_of p2)
  some_alike ms e = record {
    entry = λ x d bx bd. ap (λ f. f d) (same_by (λ n. entry_at n.directory.entries)
        (ap (λ (z : Directory). entry_at z.entries) did.directory) x);
    waiting = λ x d bx. ap (λ f. f d) (same_by (λ n. (entries_of n.directory).waiting)
        (ap (λ (z : Directory). (entries_of z).waiting) did.directory) x);
    occupancy = λ x bx. same_by (λ n. (entries_of n.directory).occupancy)
        (ap (λ (z : Directory). (entries_of z).occupancy) did.directory) x;
    state = λ x d bx bd. ap (λ (z : BareNode). state_of z.states d) (at x) ∙ (elim (eqb_tells x i) [
      | inl q ↦ rw q.0 (ap (λ f. f d) (did.state ∙ ap (states_after (state_of old.states) b) e)
          ∙ ap (λ f. cond (eqb d b) ms.block.state (f d)) own_state)
      | inr q ↦ rw q.0 refl
    ]);
    bytes = λ x d bx bd. ap (λ f. f d) (same_by (λ n. bytes_of n.copy) (ap bytes_of did.copy) x);
    wait = λ x d bx bd. ap (λ (z : BareNode). wait_of z.waits d) (at x) ∙ (elim (eqb_tells x i) [
      | inl q ↦ rw q.0 (ap (λ f. f d) (did.wait ∙ ap (waits_after (wait_of old.waits) b) e)
          ∙ ap (λ f. cond (eqb d b) ms.block.wait (f d)) own_wait)
      | inr q ↦ rw q.0 refl
    ]);
    list = λ x y bx by. list_by (ms.post ∷ []) (did.sends ∙ ap posts_of e) x y bx by;
  }

  met_by : (t : Bool) (x : Miss) → cond t None (Some x) ≡ None → t ≡ true
  met_by true x e = refl
  met_by false x e = absurd cc

  met_of : miss ≡ None → meets need ((world_of p0).state i b) ≡ true
  met_of e = ap (λ f. meets need (f b)) (sym own_state)
      ∙ met_by (meets need (state_of old.states b)) _ e

  -- the row, of what the world has
  row_of : (x : Miss) → miss ≡ Some x → want_row (facts l b)
      (record { state = (world_of p0).state i b; bytes = []; wait = (world_of p0).wait i b }) b need
      (empty_buffer old.pool.bytes) ≡ Some x
  row_of x e =
      subst (λ f. want_row (facts l b) (record
      { state = (world_of p0).state i b; bytes = []; wait = f b }) b need
      (empty_buffer old.pool.bytes) ≡ Some x) own_wait (subst (λ f. want_row (facts l b) (record
      { state = f b; bytes = []; wait = wait_of old.waits b }) b need
      (empty_buffer old.pool.bytes) ≡ Some x) own_state (subst (λ z. want_row (facts z b) (record
      { state = state_of old.states b; bytes = []; wait = wait_of old.waits b }) b need
      (empty_buffer old.pool.bytes) ≡ Some x) node_is.waits e))

  goes_by : (o : Option Miss) → miss ≡ o → Goes
  goes_by None e first es st = (
    alike_stands l reached.laid _ _ _ (none_alike e)
        (want_met l reached.laid first es (world_of p0) reached.sound st i b bi bb need (met_of e)),
    alike_sound l _ _ (none_alike e) reached.sound,
    alike_no_byes l _ _ (none_alike e) reached.no_byes,
  )
  goes_by (Some x) e first es st =
      let roomy : 4096 ≤ old.pool.bytes = (let z = node_is.room in omega arith) in
      let got = want_leads l reached.laid first es (world_of p0) reached.sound st i b bi bb [] need
      (empty_buffer old.pool.bytes) x idle
      (two_of_most l.nodes (pending l (world_of p0) i) few) roomy (row_of x e) in (
        alike_stands l reached.laid _ _ _ (some_alike x e) got.0,
        alike_sound l _ _ (some_alike x e) got.1,
        alike_no_byes l _ _ (some_alike x e) (got.2 reached.no_byes),
      )

  goes : Goes
  goes = goes_by miss refl

  pub want_event : (first : ℕ → Contents) (es : List (Event Contents))
      → Leads l first es (world_of p0) → Leads l first (es ++ Want i b (need_of need) ∷ [])
      (world_of p2)
  want_event first es st = (goes first es st).0

  pub want_reached : AreReached p2
  want_reached =
      let first = reached.reached.0 in let es = reached.reached.1 in
      let got = goes first es reached.reached.2 in
      record {
        valid = reached.valid;
        laid = reached.laid;
        count = length-set {A = BareNode} ns i new ∙ reached.count;
        queues = queues;
        nodes = λ x bx. subst (IsNode l x) (sym (at x)) (elim (eqb_tells x i) [
          | inl q ↦ rw q.0 (subst (λ z. IsNode l z new) (sym q.1) (stays l i node_is))
          | inr q ↦ rw q.0 (reached.nodes x bx)
        ]);
        sound = got.1;
        no_byes = got.2;
        reached = (first, es ++ Want i b (need_of need) ∷ [], got.0);
      }

  -- something is sent exactly where the block doesn't meet the need
  pub want_answer : (t : Bool) → t ≡ not (eqb (length posts) 0) → t
      ≡ not (meets need ((world_of p0).state i b))
  want_answer t e = e ∙ ap (λ (z : List Post). not (eqb (length z) 0)) did.sends
      ∙ answer_by (meets need (state_of old.states b)) _
      ∙ ap (λ f. not (meets need (f b))) own_state
    where
      answer_by : (u : Bool) (x : Miss) → not (eqb (length (posts_of (cond u None (Some x)))) 0)
          ≡ not u
      answer_by true x = refl
      answer_by false x = refl

-- what a want requires of its node
module _ (p : Nodes) (reached : AreReached p) (i : ℕ) (bi : i < p.layout.nodes) (b : ℕ)
    (bb : b < blocks p.layout) (silent : (world_of p).wait i b ≡ None)
    (seen : BareNode) (seen_is : seen ≡ get_or p.nodes i seen) (fewer : length seen.waits.waits < 2)
    (old : BareNode) (is : old ≡ get_or p.nodes i old) where
  pub record MayWant : Type 0 where
    pub block : b < blocks old.waits.layout
    pub idle : wait_of old.waits b ≡ None
    pub few : length old.waits.waits < 2
    pub buffer : 0 < old.pool.free
    pub states : old.states.layout ≡ old.waits.layout

  pub may_want : MayWant
  may_want =
      let inside : i < length p.nodes = omega (arith, reached.count) in
      let at : old ≡ node_at p i = is ∙ get_or_default p.nodes i old (no_node p.layout) inside in
      let sat : seen ≡ node_at p i = seen_is
      ∙ get_or_default p.nodes i seen (no_node p.layout) inside in
      let n : IsNode p.layout i old = subst (IsNode p.layout i) (sym at) (reached.nodes i bi) in
      let same : length seen.waits.waits ≡ length old.waits.waits =
      ap (λ (x : BareNode). length x.waits.waits) (sat ∙ sym at) in
      record {
        block = subst (λ z. b < blocks z) (sym n.waits) bb;
        idle = ap (λ (x : BareNode). wait_of x.waits b) at ∙ silent;
        few = omega arith;
        buffer = let e = n.buffers in omega arith;
        states = n.states ∙ sym n.waits;
      }
