-- A message or a want at a node, by what the node stores.
use Rattle.std.proofs.Common.{◌≡◌, ℕ, ◌≤◌, ◌<◌, ◌+◌, ◌&&◌, ◌⊎◌, Bool, true, false, cond, eqb, ltb, List, [], ◌∷◌, ◌++◌, length, refl, sym, ap, ◌∙◌, subst, inl, inr, Option, Some, None, arith}
use Rattle.std.proofs.Math.Path.{fun_ext}
use Rattle.std.proofs.lemmas.Bool.Decides.{eqb_tells, nat_tests}
use Rattle.std.proofs.lemmas.List.{append-nil}
use Rattle.std.specs.Option.{option_map_or}
use Rattle.block_layout.specs.Layout.{Shape, IsValid, blocks, home, block_of, has_line}
use Rattle.block_layout.specs.Update.{changed}
use Rattle.buf_pool.specs.Pool.{Buffer, Slots, empty_buffer}
use Rattle.node_words.specs.exec_map.Contents.{class_of_line, is_shared as is_shared_class}
use Rattle.rv32_program.specs.Program.{line_of}
use Rattle.rv32_program.specs.declared.Class.{Class}
use Rattle.rv32_program.specs.declared.Class.TheVariants as class
use Rattle.state_table.specs.declared.State.{State}
use Rattle.state_table.specs.declared.State.TheVariants.{Exclusive, Shared, Invalid, Pending}
use Rattle.state_table.specs.StateByte.{byte_of}
use Rattle.state_table.specs.States.{state_of, line_byte}
use Rattle.node_words.specs.dsm_messages.declared.messages.Need.{Need}
use Rattle.node_words.specs.dsm_messages.declared.messages.Need.TheVariants as need
use Rattle.node_words.specs.dsm_messages.declared.messages.Message.{Message}
use Rattle.node_words.specs.dsm_messages.declared.messages.Message.TheVariants.{Read, Write, FwdRead, FwdWrite, Inval, Data, Grant, Ack, Done, Bye}
use Rattle.node_words.specs.dsm_messages.declared.messages.Post.{Post}
use Rattle.node_words.specs.home_directory.declared.wait.Wait.{Wait}
use Rattle.node_words.specs.home_directory.Home.{DirectoryEntry, Home, first_entry, post}
use Rattle.node_words.specs.home_directory.Effects.{Directory, HomeEffect, entry_at, entries_of, home_at, home_effect, is_home, ask_effect, done_effect}
use Rattle.node_words.specs.home_directory.Table.{BlockFacts, LocalBlock, HomeRow, NodeRow, Miss, node_row, ask_row, done_row, want_row, meets, state_in_wait, first_wait, request}
use Rattle.node_words.specs.miss_handlers.Waits.{NodeWaits, wait_of}
use Rattle.node_words.specs.miss_handlers.Effects.{NodeBlocks, block_facts, local_block, row_effect, node_row_at, message_effect, miss_of, states_after, waits_after, buffers, pool_after, pool_after_miss}
use Rattle.node_words.specs.miss_handlers.Rows.{AtHome, AtNode, at_home, at_node, if_home, home_of, node_row_of, row_of}
use Rattle.node_words.specs.node_model.declared.NodeCounts.{NodeCounts}
use Rattle.node_words.specs.declared.exec_state.ExecState.{ExecState}
use Rattle.node_machine.specs.declared.protocol_state.ProtocolState.{ProtocolState}
use Rattle.node_words.specs.node_model.Node.{Node, Want, first_state}
use Rattle.node_words.specs.node_model.Turns.{silent, holding, block_at, by_row, by_row_or, count_row, count_want, with_state, with_miss, want_in, is_same_want}
use Rattle.node_words.specs.node_memory.Shelf.{Shelf, copy_of, local_of}
use Rattle.node_words.specs.node_memory.Blocks.{ShelfLaws, blocks_at}
use Rattle.node_machine.specs.NodeState.{entries_in, layout_of, with_parts, IsProtocolState}
use Rattle.node_machine.specs.ProtocolState.{HomeSide, NodeSide, HasRouted, is_order, is_unmet, turn_by}
use Rattle.node_machine.proofs.BlockLemmas.{LineLaws, set_states, same_states, put_bytes, same_copy, block_is, is_out, byte_in, byte_out}
use Rattle.node_machine.proofs.RowLemmas.{RowFacts, row_facts, count_nothing, none_given}
use Rattle.node_machine.proofs.WaitLemmas.{none_waits, no_waits}

-- the counts after a message that was handled, by what the code counts
abbrev pub counted : Message → List Post → NodeCounts → NodeCounts
counted m posts c = count_row (is_order m && ltb 0 (length posts)) (length posts) c

facts_at : (m : Message) (l : Shape) (n : NodeBlocks) (t : Bool) (j b : ℕ) (row : NodeRow)
    → cond t (node_row (block_facts l b) (local_block n b) j m) None ≡ Some row
    → (t ≡ true) × RowFacts m (local_block n b) row
facts_at m l n true j b row e = (refl, row_facts (block_facts l b) (local_block n b) j m row e)
facts_at m l n false j b row e = absurd (cc)

-- few messages are sent, or no wait ends; and none begins
abbrev pub Few : (d d' : ProtocolState) → List Post → Type 0
Few d d' posts = ((length posts ≤ 1) ⊎ (length d'.waits.waits ≡ length d.waits.waits))
    × (length d.waits.waits ≡ 0 → length d'.waits.waits ≡ 0)

module _ (body body' : ExecState) (d d' : ProtocolState) (posts : List Post) where
  few_none : NodeSide d d' body.local body'.local posts
      (record { node = blocks_at d.waits body.local; sends = []; gives_back = false }) → Few d d' posts
  few_none side =
      let none = ap length side.done.sends in (
        inl (omega (arith, none)),
        λ z. no_waits d'.waits.waits (λ x. ap (λ (g : ℕ → Option Wait). g x) side.done.wait ∙ none_waits d.waits.waits z x),
      )

  few_by : (m : Message) (j b : ℕ) (o : Option NodeRow) → node_row_at (layout_of body) (blocks_at d.waits body.local) j m b ≡ o
      → NodeSide d d' body.local body'.local posts (row_effect (layout_of body) (blocks_at d.waits body.local) b o)
      → Few d d' posts
  few_by m j b None is side = few_none side
  few_by m j b (Some row) is side =
      let f = facts_at m (layout_of body) (blocks_at d.waits body.local) (ltb b (blocks (layout_of body))) j b row is in
      let len = ap length side.done.sends in
      let few = f.1.few in (
        inl (omega (arith, len, few)),
        λ z. no_waits d'.waits.waits (λ x. ap (λ (g : ℕ → Option Wait). g x) side.done.wait
            ∙ elim (eqb_tells x b) [
              | inl q ↦ (let s : changed (wait_of d.waits) b row.block.wait x ≡ row.block.wait = rw q.0 refl in
                  s ∙ f.1.wait (none_waits d.waits.waits z b))
              | inr q ↦ (let s : changed (wait_of d.waits) b row.block.wait x ≡ wait_of d.waits x = rw q.0 refl in
                  s ∙ none_waits d.waits.waits z x)
            ]),
      )

  few_home : (effect : HomeEffect) → HomeSide d d' body.local body'.local posts effect → Few d d' posts
  few_home effect side =
      let same = ap (λ (w : NodeWaits). length w.waits) side.waits in
      (inr same, λ z. same ∙ z)

  pub routed_few : (m : Message) (j : ℕ) → HasRouted (layout_of body) d d' body.local body'.local posts j m
      → Few d d' posts
  routed_few (Read b buf) j side = few_home (ask_effect d.directory j b need.Read buf) side
  routed_few (Write b buf) j side = few_home (ask_effect d.directory j b need.Write buf) side
  routed_few (Done b) j side = few_home (done_effect d.directory j b) side
  routed_few (FwdRead b r buf) j side = few_by (FwdRead b r buf) j b _ refl side
  routed_few (FwdWrite b r k buf) j side = few_by (FwdWrite b r k buf) j b _ refl side
  routed_few (Inval b r) j side = few_by (Inval b r) j b _ refl side
  routed_few (Data b k buf) j side = few_by (Data b k buf) j b _ refl side
  routed_few (Grant b k buf) j side = few_by (Grant b k buf) j b _ refl side
  routed_few (Ack b) j side = few_by (Ack b) j b _ refl side
  routed_few Bye j side = few_none side

module _ (laws : LineLaws) (n : Node) (body body' : ExecState) (d d' : ProtocolState) (posts : List Post) (m : Message)
    (protocol : IsProtocolState (layout_of body) d) (old : ShelfLaws body.local) (new : ShelfLaws body'.local)
    (counts : body'.counts ≡ counted m posts body.counts) where
  -- 1. A row of a node that has the block, or waits for it

  row_turn : (b : ℕ) (row : NodeRow) → b < blocks (layout_of body)
      → NodeSide d d' body.local body'.local posts
      (row_effect (layout_of body) (blocks_at d.waits body.local) b (Some row))
      → RowFacts m (local_block (blocks_at d.waits body.local) b) row
      → by_row (layout_of body) (with_parts n body d) (AtNode b row)
      ≡ turn_by (with_parts n body' d') posts None
  row_turn b row bb side facts =
      let e = side.done in
      let copy = put_bytes laws (layout_of body) old.valid body.local.copy body'.local.copy b row.block.bytes bb
      refl side.copy_layout old.copy new.copy e.bytes in
      let state = set_states laws (layout_of body) old.valid body.local.states body'.local.states b row.block.state bb
      old.lines.one (side.states_layout ∙ old.lines.one) side.classes e.state in
      let clears : (is_order m && ltb 0 (length posts)) ≡ row.clears =
      ap (λ (x : List Post). is_order m && ltb 0 (length x)) e.sends ∙ sym facts.clears in
      let count = counts ∙ (λ t. count_row (clears t) (length (e.sends t)) body.counts) in
      λ t. record {
        node = record n {
          local = record {
            copy = sym copy t;
            state = sym state t;
            reservation = sym e.reserved t;
          };
          entry = entries_in (sym side.directory t).layout (sym side.directory t).me
              (entry_at (sym side.directory t).entries);
          waiting = (entries_of (sym side.directory t)).waiting;
          occupancy = (entries_of (sym side.directory t)).occupancy;
          wait = sym e.wait t;
          counts = sym count t;
        };
        sends = sym e.sends t;
        printed = None;
      }

  pub no_row_turn : NodeSide d d' body.local body'.local posts
      (record { node = blocks_at d.waits body.local; sends = []; gives_back = false })
      → silent (with_parts n body d) ≡ turn_by (with_parts n body' d') posts None
  no_row_turn side =
      let e = side.done in
      let copy = same_copy laws (layout_of body) old.valid body.local.copy body'.local.copy
      refl side.copy_layout old.copy new.copy e.bytes in
      let state = same_states laws (layout_of body) old.valid body.local.states body'.local.states
      old.lines.one (side.states_layout ∙ old.lines.one) side.classes e.state in
      let count = counts ∙ count_nothing (is_order m && ltb 0 (length posts)) (length posts) body.counts
      (none_given m posts e.sends) (ap length e.sends) in
      λ t. record {
        node = record n {
          local = record {
            copy = sym copy t;
            state = sym state t;
            reservation = sym e.reserved t;
          };
          entry = entries_in (sym side.directory t).layout (sym side.directory t).me
              (entry_at (sym side.directory t).entries);
          waiting = (entries_of (sym side.directory t)).waiting;
          occupancy = (entries_of (sym side.directory t)).occupancy;
          wait = sym e.wait t;
          counts = sym count t;
        };
        sends = sym e.sends t;
        printed = None;
      }

  -- the block as the definition sees it, and as it is stored
  rows_same : (j b : ℕ) → node_row_of (layout_of body) (holding (layout_of body) (with_parts n body d)) j b m
      ≡ at_node b (node_row_at (layout_of body) (blocks_at d.waits body.local) j m b)
  rows_same j b = go (ltb b (blocks (layout_of body))) refl
    where
      go : (t : Bool) → ltb b (blocks (layout_of body)) ≡ t
          → at_node b (cond t (node_row (block_facts (layout_of body) b) (block_at (layout_of body) (with_parts n body d) b) j m) None)
          ≡ at_node b (cond t (node_row (block_facts (layout_of body) b) (local_block (blocks_at d.waits body.local) b) j m) None)
      go true e =
          let bb : b < blocks (layout_of body) = grind (arith, nat_tests) in
          ap (λ (x : LocalBlock). at_node b (node_row (block_facts (layout_of body) b) x j m))
          (sym (block_is laws (layout_of body) old.valid (with_parts n body d) d.waits body.local b bb
          old.lines.one refl old.copy refl refl))
      go false e = refl

  node_by : (j b : ℕ) (o : Option NodeRow) → node_row_at (layout_of body) (blocks_at d.waits body.local) j m b ≡ o
      → NodeSide d d' body.local body'.local posts (row_effect (layout_of body) (blocks_at d.waits body.local) b o)
      → by_row_or (layout_of body) (with_parts n body d) (at_node b o) ≡ turn_by (with_parts n body' d') posts None
  node_by j b None is side = no_row_turn side
  node_by j b (Some row) is side =
      let f = facts_at m (layout_of body) (blocks_at d.waits body.local) (ltb b (blocks (layout_of body))) j b row is in
      let low = f.0 in
      let bb : b < blocks (layout_of body) = grind (arith, nat_tests) in
      row_turn b row bb side f.1

  pub node_turn : (j b : ℕ) → NodeSide d d' body.local body'.local posts
      (row_effect (layout_of body) (blocks_at d.waits body.local) b (node_row_at (layout_of body) (blocks_at d.waits body.local) j m b))
      → by_row_or (layout_of body) (with_parts n body d) (node_row_of (layout_of body) (holding (layout_of body) (with_parts n body d)) j b m)
      ≡ turn_by (with_parts n body' d') posts None
  node_turn j b side = ap (by_row_or (layout_of body) (with_parts n body d)) (rows_same j b)
      ∙ node_by j b (node_row_at (layout_of body) (blocks_at d.waits body.local) j m b) refl side

  -- 2. A row of a home

  silent_order : is_order m ≡ false → (is_order m && ltb 0 (length posts)) ≡ false
  silent_order e = ap (λ (x : Bool). x && ltb 0 (length posts)) e

  home_none : is_order m ≡ false
      → HomeSide d d' body.local body'.local posts (record { entries = entries_of d.directory; sends = [] })
      → silent (with_parts n body d) ≡ turn_by (with_parts n body' d') posts None
  home_none order side =
      let count = counts ∙ count_nothing (is_order m && ltb 0 (length posts)) (length posts) body.counts
      (silent_order order) (ap length side.sends) in
      λ t. record {
        node = record n {
          local = local_of (sym side.shelf t);
          entry = entries_in (sym side.layout t) (sym side.me t) (sym side.entries t).entry;
          waiting = (sym side.entries t).waiting;
          occupancy = (sym side.entries t).occupancy;
          wait = wait_of (sym side.waits t);
          counts = sym count t;
        };
        sends = sym side.sends t;
        printed = None;
      }

  entries_row : (dir : Directory) (b : ℕ) (e : DirectoryEntry) → ltb b (blocks dir.layout) ≡ true
      → changed (entries_in dir.layout dir.me (entry_at dir.entries)) b e
      ≡ entries_in dir.layout dir.me (changed (entry_at dir.entries) b e)
  entries_row dir b e low = fun_ext (λ x. elim (eqb_tells x b) [
    | inl q ↦
        (let t : ltb x (blocks dir.layout) ≡ true = ap (λ y. ltb y (blocks dir.layout)) q.1 ∙ low in
        rw (q.0, t) refl)
    | inr q ↦ rw q.0 refl
  ])

  home_some : (b : ℕ) (row : HomeRow) → ltb b (blocks d.directory.layout) ≡ true → is_order m ≡ false
      → HomeSide d d' body.local body'.local posts (home_effect (entries_of d.directory) b (Some row))
      → by_row (layout_of body) (with_parts n body d) (AtHome b row)
      ≡ turn_by (with_parts n body' d') posts None
  home_some b row low order side =
      let given = silent_order order in
      let count = counts ∙ (λ t. count_row (given t) (length (side.sends t)) body.counts) in
      let entry = entries_row d.directory b row.home.entry low in
      let whole : changed (entries_in d.directory.layout d.directory.me (entry_at d.directory.entries)) b row.home.entry
      ≡ entries_in d'.directory.layout d'.directory.me (entry_at d'.directory.entries) =
      entry ∙ (λ t. entries_in (sym side.layout t) (sym side.me t) (sym side.entries t).entry) in
      λ t. record {
        node = record n {
          local = local_of (sym side.shelf t);
          entry = whole t;
          waiting = (sym side.entries t).waiting;
          occupancy = (sym side.entries t).occupancy;
          wait = wait_of (sym side.waits t);
          counts = sym count t;
        };
        sends = sym side.sends t;
        printed = None;
      }

  below : (t u : Bool) (x : Option HomeRow) (row : HomeRow) → cond (t && u) x None ≡ Some row → t ≡ true
  below true u x row e = refl
  below false u x row e = absurd (cc)

  home_by : (b : ℕ) (x o : Option HomeRow) → cond (is_home d.directory b) x None ≡ o → is_order m ≡ false
      → HomeSide d d' body.local body'.local posts (home_effect (entries_of d.directory) b o)
      → by_row_or (layout_of body) (with_parts n body d) (at_home b o) ≡ turn_by (with_parts n body' d') posts None
  home_by b x None is order side = home_none order side
  home_by b x (Some row) is order side =
      home_some b row (below (ltb b (blocks d.directory.layout)) (eqb (home d.directory.layout b) d.directory.me) x row is) order side

  -- the entry as the definition sees it, and as it is stored
  homes_same : (row : ℕ → Home → Option HomeRow) (b : ℕ) → n.me ≡ d.directory.me
      → at_home b (if_home (layout_of body) n.me b (row (layout_of body).nodes (home_of (holding (layout_of body) (with_parts n body d)) b)))
      ≡ at_home b (cond (is_home d.directory b) (row d.directory.layout.nodes (home_at (entries_of d.directory) b)) None)
  homes_same row b me =
      (λ t. at_home b (if_home (sym protocol.directory t) (me t) b (row (sym protocol.directory t).nodes (home_of (holding (layout_of body) (with_parts n body d)) b))))
      ∙ go (ltb b (blocks d.directory.layout))
    where
      go : (t : Bool) → at_home b (cond (t && eqb (home d.directory.layout b) d.directory.me) (row d.directory.layout.nodes
          (record {
            entry = cond t (entry_at d.directory.entries b) (first_entry d.directory.me);
            waiting = (entries_of d.directory).waiting b;
            occupancy = (entries_of d.directory).occupancy;
          })) None)
          ≡ at_home b (cond (t && eqb (home d.directory.layout b) d.directory.me) (row d.directory.layout.nodes (home_at (entries_of d.directory) b)) None)
      go true = refl
      go false = refl

  pub home_turn : (row : ℕ → Home → Option HomeRow) (b : ℕ) → n.me ≡ d.directory.me → is_order m ≡ false
      → HomeSide d d' body.local body'.local posts (home_effect (entries_of d.directory) b
      (cond (is_home d.directory b) (row d.directory.layout.nodes (home_at (entries_of d.directory) b)) None))
      → by_row_or (layout_of body) (with_parts n body d)
      (at_home b (if_home (layout_of body) n.me b (row (layout_of body).nodes (home_of (holding (layout_of body) (with_parts n body d)) b))))
      ≡ turn_by (with_parts n body' d') posts None
  home_turn row b me order side = ap (by_row_or (layout_of body) (with_parts n body d)) (homes_same row b me)
      ∙ home_by b (row d.directory.layout.nodes (home_at (entries_of d.directory) b))
      (cond (is_home d.directory b) (row d.directory.layout.nodes (home_at (entries_of d.directory) b)) None) refl order side

-- 3. Any message

module _ (laws : LineLaws) (body body' : ExecState) (d d' : ProtocolState) (posts : List Post) (j : ℕ)
    (protocol : IsProtocolState (layout_of body) d) (old : ShelfLaws body.local) (new : ShelfLaws body'.local) where
  pub routed_turn : (m : Message) (n : Node) → n.me ≡ d.directory.me → body'.counts ≡ counted m posts body.counts
      → HasRouted (layout_of body) d d' body.local body'.local posts j m
      → by_row_or (layout_of body) (with_parts n body d) (row_of (layout_of body) n.me (holding (layout_of body) (with_parts n body d)) j m)
      ≡ turn_by (with_parts n body' d') posts None
  routed_turn (Read b buf) n me counts side =
      home_turn laws n body body' d d' posts (Read b buf) protocol old new counts (λ k h. ask_row k h b j need.Read buf) b me refl side
  routed_turn (Write b buf) n me counts side =
      home_turn laws n body body' d d' posts (Write b buf) protocol old new counts (λ k h. ask_row k h b j need.Write buf) b me refl side
  routed_turn (Done b) n me counts side =
      home_turn laws n body body' d d' posts (Done b) protocol old new counts (λ k h. done_row k h b j) b me refl side
  routed_turn (FwdRead b r buf) n me counts side =
      node_turn laws n body body' d d' posts (FwdRead b r buf) protocol old new counts j b side
  routed_turn (FwdWrite b r k buf) n me counts side =
      node_turn laws n body body' d d' posts (FwdWrite b r k buf) protocol old new counts j b side
  routed_turn (Inval b r) n me counts side =
      node_turn laws n body body' d d' posts (Inval b r) protocol old new counts j b side
  routed_turn (Data b k buf) n me counts side =
      node_turn laws n body body' d d' posts (Data b k buf) protocol old new counts j b side
  routed_turn (Grant b k buf) n me counts side =
      node_turn laws n body body' d d' posts (Grant b k buf) protocol old new counts j b side
  routed_turn (Ack b) n me counts side =
      node_turn laws n body body' d d' posts (Ack b) protocol old new counts j b side
  routed_turn Bye n me counts side =
      no_row_turn laws n body body' d d' posts Bye protocol old new counts side

-- 4. A want

state_in_shelf : (need : Need) (st : State) → is_unmet need (byte_of st) ≡ true → meets need st ≡ false
state_in_shelf need.Read Exclusive e = cc
state_in_shelf need.Read Shared e = cc
state_in_shelf need.Read Invalid e = refl
state_in_shelf need.Read Pending e = refl
state_in_shelf need.Write Exclusive e = cc
state_in_shelf need.Write Shared e = refl
state_in_shelf need.Write Invalid e = refl
state_in_shelf need.Write Pending e = refl

fixed_is_met : (need : Need) (k : Class) → is_shared_class k ≡ false → is_unmet need (first_state k false) ≡ true → ⊥
fixed_is_met need class.Shared s e = cc
fixed_is_met need.Read class.ReadOnly s e = cc
fixed_is_met need.Read class.Private s e = cc
fixed_is_met need.Read class.Unmapped s e = cc
fixed_is_met need.Write class.ReadOnly s e = cc
fixed_is_met need.Write class.Private s e = cc
fixed_is_met need.Write class.Unmapped s e = cc

-- a line that isn't shared meets every need, as far as a message can help
pub unmet_none : (laws : LineLaws) (s : Shelf) → ShelfLaws s → (need : Need) (line : ℕ)
    → block_of s.copy.layout line ≡ None → is_unmet need (line_byte s.states line) ≡ true → ⊥
unmet_none laws s h need line none unmet =
    let out = is_out laws s.copy.layout h.valid line none in
    let byte = byte_out laws s.copy.layout h.valid s.states line h.lines.one none ∙ h.lines.others line out in
    fixed_is_met need (class_of_line s.program line) (sym (h.lines.shared line) ∙ out)
    (sym (ap (is_unmet need) byte) ∙ unmet)

pub unmet_some : (laws : LineLaws) (s : Shelf) → ShelfLaws s → (need : Need) (line b : ℕ)
    → block_of s.copy.layout line ≡ Some b → is_unmet need (line_byte s.states line) ≡ true
    → meets need (state_of s.states b) ≡ false
unmet_some laws s h need line b some unmet =
    let byte = byte_in laws s.copy.layout h.valid s.states line b h.lines.one some in
    state_in_shelf need (state_of s.states b) (sym (ap (is_unmet need) byte) ∙ unmet)

want_met : (f : BlockFacts) (lb : LocalBlock) (b : ℕ) (need : Need) (buf : Buffer)
    → meets need lb.state ≡ true → want_row f lb b need buf ≡ None
want_met f lb b need buf e = rw e refl

abbrev pub missed : BlockFacts → LocalBlock → ℕ → Need → Buffer → Miss
missed f lb b need buf = record {
  block = record {
    state = state_in_wait lb.state;
    bytes = lb.bytes;
    wait = Some (first_wait need);
  };
  post = post f.home (request need b buf);
}

want_missed : (f : BlockFacts) (lb : LocalBlock) (b : ℕ) (need : Need) (buf : Buffer)
    → meets need lb.state ≡ false → want_row f lb b need buf ≡ Some (missed f lb b need buf)
want_missed f lb b need buf e = rw e refl

abbrev pub posts_of : Option Miss → List Post
posts_of None = []
posts_of (Some miss) = miss.post ∷ []

-- what is left of a want of a block
pub record HasWanted (d d' : ProtocolState) (s s' : Shelf) (b : ℕ) (need : Need) (posts : List Post) (miss : Option Miss) : Type 0 where
  pub sends : posts ≡ posts_of miss
  pub state : state_of s'.states ≡ states_after (state_of s.states) b miss
  pub wait : wait_of d'.waits ≡ waits_after (wait_of d.waits) b miss
  pub directory : d'.directory ≡ d.directory
  pub states_layout : s'.states.layout ≡ s.states.layout
  pub classes : s'.states.program ≡ s.states.program
  pub copy : s'.copy ≡ s.copy
  pub reservation : s'.reservation ≡ s.reservation

abbrev pub counts_if : Option Miss → Need → State → NodeCounts → NodeCounts
counts_if None need state c = c
counts_if (Some miss) need state c = count_want need state c

module _ (laws : LineLaws) (n : Node) (before : List Post) (p : Option ℕ) (body body' : ExecState) (d d' : ProtocolState) (posts : List Post) (b : ℕ) (need : Need)
    (protocol : IsProtocolState (layout_of body) d) (old : ShelfLaws body.local) (bb : b < blocks (layout_of body)) where
  met_turn : meets need (state_of body.local.states b) ≡ true → HasWanted d d' body.local body'.local b need posts None
      → body'.counts ≡ body.counts
      → turn_by (with_parts n body d) before p ≡ turn_by (with_parts n body' d') (before ++ posts) p
  met_turn met w counts =
      let state = same_states laws (layout_of body) old.valid body.local.states body'.local.states
      old.lines.one (w.states_layout ∙ old.lines.one) w.classes w.state in
      let sends : before ≡ before ++ posts = sym (append-nil before) ∙ ap (λ (xs : List Post). before ++ xs) (sym w.sends) in
      λ t. record {
        node = record n {
          local = record {
            copy = copy_of (sym w.copy t);
            state = sym state t;
            reservation = sym w.reservation t;
          };
          entry = entries_in (sym w.directory t).layout (sym w.directory t).me (entry_at (sym w.directory t).entries);
          waiting = (entries_of (sym w.directory t)).waiting;
          occupancy = (entries_of (sym w.directory t)).occupancy;
          wait = sym w.wait t;
          counts = sym counts t;
        };
        sends = sends t;
        printed = p;
      }

  missed_turn : (miss : Miss) → miss.block.state ≡ state_in_wait (state_of body.local.states b)
      → HasWanted d d' body.local body'.local b need posts (Some miss)
      → (st : State) → st ≡ state_of body.local.states b
      → body'.counts ≡ count_want need (state_of body.local.states b) body.counts
      → turn_by (record (with_parts n body d) {
        local = record (local_of body.local) { state = with_state (layout_of body) b (state_in_wait st) (line_byte body.local.states) };
        wait = changed (wait_of d.waits) b miss.block.wait;
        counts = count_want need st body.counts;
      }) (before ++ miss.post ∷ []) p ≡ turn_by (with_parts n body' d') (before ++ posts) p
  missed_turn miss is w st same counts =
      let state = set_states laws (layout_of body) old.valid body.local.states body'.local.states b miss.block.state bb
      old.lines.one (w.states_layout ∙ old.lines.one) w.classes w.state in
      let here : with_state (layout_of body) b (state_in_wait st) (line_byte body.local.states) ≡ line_byte body'.local.states =
      ap (λ (x : State). with_state (layout_of body) b x (line_byte body.local.states)) (ap state_in_wait same ∙ sym is) ∙ sym state in
      let count : count_want need st body.counts ≡ body'.counts = ap (λ (x : State). count_want need x body.counts) same ∙ sym counts in
      λ t. record {
        node = record n {
          local = record {
            copy = copy_of (sym w.copy t);
            state = here t;
            reservation = sym w.reservation t;
          };
          entry = entries_in (sym w.directory t).layout (sym w.directory t).me (entry_at (sym w.directory t).entries);
          waiting = (entries_of (sym w.directory t)).waiting;
          occupancy = (entries_of (sym w.directory t)).occupancy;
          wait = sym w.wait t;
          counts = count t;
        };
        sends = before ++ sym w.sends t;
        printed = p;
      }

  pub want_turn : HasWanted d d' body.local body'.local b need posts (miss_of d.waits body.local.states d.pool b need)
      → body'.counts ≡ counts_if (miss_of d.waits body.local.states d.pool b need) need (state_of body.local.states b) body.counts
      → want_in (layout_of body) (turn_by (with_parts n body d) before p) need (Some b) ≡ turn_by (with_parts n body' d') (before ++ posts) p
  want_turn w counts = go (meets need (state_of body.local.states b)) refl
    where
      same : state_of body.local.states b ≡ (block_at (layout_of body) (with_parts n body d) b).state
      same = ap (λ (x : LocalBlock). x.state) (block_is laws (layout_of body) old.valid (with_parts n body d) d.waits body.local b bb
          old.lines.one refl old.copy refl refl)

      go : (t : Bool) → meets need (state_of body.local.states b) ≡ t
          → with_miss (layout_of body) b need (turn_by (with_parts n body d) before p)
          (want_row (block_facts (layout_of body) b) (block_at (layout_of body) (with_parts n body d) b) b need (empty_buffer 4096))
          ≡ turn_by (with_parts n body' d') (before ++ posts) p
      go true e =
          let none : miss_of d.waits body.local.states d.pool b need ≡ None =
          want_met (block_facts d.waits.layout b) (record { state = state_of body.local.states b; bytes = []; wait = wait_of d.waits b })
          b need (empty_buffer d.pool.bytes) e in
          ap (with_miss (layout_of body) b need (turn_by (with_parts n body d) before p))
          (want_met (block_facts (layout_of body) b) (block_at (layout_of body) (with_parts n body d) b) b need (empty_buffer 4096)
          (ap (meets need) (sym same) ∙ e))
          ∙ met_turn e (subst (λ (x : Option Miss). HasWanted d d' body.local body'.local b need posts x) none w)
          (counts ∙ ap (λ (x : Option Miss). counts_if x need (state_of body.local.states b) body.counts) none)
      go false e =
          let miss : Miss = missed (block_facts d.waits.layout b) (record { state = state_of body.local.states b; bytes = []; wait = wait_of d.waits b })
          b need (empty_buffer d.pool.bytes) in
          let some : miss_of d.waits body.local.states d.pool b need ≡ Some miss =
          want_missed (block_facts d.waits.layout b) (record { state = state_of body.local.states b; bytes = []; wait = wait_of d.waits b })
          b need (empty_buffer d.pool.bytes) e in
          let sent : post (home (layout_of body) b) (request need b (empty_buffer 4096)) ≡ miss.post =
          λ t. post (home (sym protocol.waits t) b) (request need b (empty_buffer (sym protocol.bytes t))) in
          ap (with_miss (layout_of body) b need (turn_by (with_parts n body d) before p))
          (want_missed (block_facts (layout_of body) b) (block_at (layout_of body) (with_parts n body d) b) b need (empty_buffer 4096)
          (ap (meets need) (sym same) ∙ e))
          ∙ ap (λ (q : Post). turn_by (record (with_parts n body d) {
            local = record (local_of body.local) { state = with_state (layout_of body) b (state_in_wait (block_at (layout_of body) (with_parts n body d) b).state) (line_byte body.local.states) };
            wait = changed (wait_of d.waits) b (Some (first_wait need));
            counts = count_want need (block_at (layout_of body) (with_parts n body d) b).state body.counts;
          }) (before ++ q ∷ []) p) sent
          ∙ missed_turn miss refl (subst (λ (x : Option Miss). HasWanted d d' body.local body'.local b need posts x) some w)
          (block_at (layout_of body) (with_parts n body d) b).state (sym same)
          (counts ∙ ap (λ (x : Option Miss). counts_if x need (state_of body.local.states b) body.counts) some)

-- no wait for another block is begun or ends
pub others_wait : (f : ℕ → Option Wait) (b x : ℕ) (miss : Option Miss) → (x ≡ b → ⊥) → waits_after f b miss x ≡ f x
others_wait f b x None apart = refl
others_wait f b x (Some m) apart = elim (eqb_tells x b) [
  | inl q ↦ absurd (apart q.1)
  | inr q ↦ rw q.0 refl
]

-- a want begins at most one wait, with a buffer of the pool
pub waits_grow : (pool pool' : Slots) (w w' : NodeWaits) (miss : Option Miss) → pool' ≡ pool_after_miss pool miss
    → buffers pool' w' ≡ buffers pool w → 0 < pool.free
    → (length w.waits ≤ length w'.waits) × (length w'.waits ≤ length w.waits + 1)
waits_grow pool pool' w w' None is count some =
    let free = ap (λ (q : Slots). q.free) is in
    (omega (arith, free, count), omega (arith, free, count))
waits_grow pool pool' w w' (Some m) is count some =
    let free = ap (λ (q : Slots). q.free) is in
    (omega (arith, free, count, some), omega (arith, free, count, some))

-- 5. Two wants

true_false : true ≡ false → ⊥
true_false e = cc

itself : (b : ℕ) → eqb b b ≡ true
itself b = grind (arith, nat_tests)

-- the first's line is in a block
same_line : (l : Shape) (w v : Want) (b : ℕ) → block_of l (line_of w.at) ≡ Some b
    → is_same_want l w v ≡ has_line l b (line_of v.at)
same_line l w v b is = ap (λ (o : Option ℕ). option_map_or (λ c. has_line l c (line_of v.at)) o false) is

module _ (laws : LineLaws) (l : Shape) (valid : IsValid l) (w v : Want) (b : ℕ) (in_block : block_of l (line_of w.at) ≡ Some b) where
  -- the second's line is in this block, or in none
  pub same_by : (o : Option ℕ) → block_of l (line_of v.at) ≡ o
      → is_same_want l w v ≡ option_map_or (λ c. eqb c b) o false
  same_by o also = same_line l w v b in_block ∙ go (has_line l b (line_of v.at)) refl
    where
      low : b < blocks l
      low = (laws.found l b (line_of w.at) valid in_block).0

      none : (x : Option ℕ) → x ≡ Some b → option_map_or (λ c. eqb c b) x false ≡ true
      none x e = ap (λ (y : Option ℕ). option_map_or (λ c. eqb c b) y false) e ∙ itself b

      other : (x : Option ℕ) → (x ≡ Some b → ⊥) → option_map_or (λ c. eqb c b) x false ≡ false
      other None apart = refl
      other (Some c) apart = elim (eqb_tells c b) [
        | inl q ↦ absurd (apart (ap (λ z. Some z) q.1))
        | inr q ↦ q.0
      ]

      go : (t : Bool) → has_line l b (line_of v.at) ≡ t → t ≡ option_map_or (λ c. eqb c b) o false
      go true e = sym (none o (sym also ∙ laws.has l b (line_of v.at) valid low e))
      go false e = sym (other o (λ q. true_false (sym (laws.found l b (line_of v.at) valid (also ∙ q)).1 ∙ e)))

-- 6. A message that isn't for a home

pub others_routed : (d d' : ProtocolState) (s s' : Shelf) (posts : List Post) (j : ℕ) (m : Message)
    → ((b : ℕ) (buf : Buffer) → m ≡ Read b buf → ⊥) → ((b : ℕ) (buf : Buffer) → m ≡ Write b buf → ⊥)
    → ((b : ℕ) → m ≡ Done b → ⊥)
    → NodeSide d d' s s' posts (message_effect s.copy.layout (blocks_at d.waits s) j m)
    → HasRouted s.copy.layout d d' s s' posts j m
others_routed d d' s s' posts j (Read b buf) r w e side = absurd (r b buf refl)
others_routed d d' s s' posts j (Write b buf) r w e side = absurd (w b buf refl)
others_routed d d' s s' posts j (Done b) r w e side = absurd (e b refl)
others_routed d d' s s' posts j (FwdRead b q buf) r w e side = side
others_routed d d' s s' posts j (FwdWrite b q k buf) r w e side = side
others_routed d d' s s' posts j (Inval b q) r w e side = side
others_routed d d' s s' posts j (Data b k buf) r w e side = side
others_routed d d' s s' posts j (Grant b k buf) r w e side = side
others_routed d d' s s' posts j (Ack b) r w e side = side
others_routed d d' s s' posts j Bye r w e side = side

slots_same : (p : Slots) (t : Bool) → (pool_after p t).slots ≡ p.slots
slots_same p true = refl
slots_same p false = refl

bytes_same : (p : Slots) (t : Bool) → (pool_after p t).bytes ≡ p.bytes
bytes_same p true = refl
bytes_same p false = refl

pub protocol_other : (l : Shape) (d d' : ProtocolState) (t : Bool) → IsProtocolState l d → d'.directory ≡ d.directory
    → d'.pool ≡ pool_after d.pool t
    → d'.pool.free + length d'.waits.waits ≡ d.pool.free + length d.waits.waits
    → d'.waits.layout ≡ d.waits.layout → IsProtocolState l d'
protocol_other l d d' t is same pool count waits = record {
  directory = ap (λ (x : Directory). x.layout) same ∙ is.directory;
  waits = waits ∙ is.waits;
  slots = ap (λ (p : Slots). p.slots) pool ∙ slots_same d.pool t ∙ is.slots;
  bytes = ap (λ (p : Slots). p.bytes) pool ∙ bytes_same d.pool t ∙ is.bytes;
  buffers = count ∙ is.buffers;
}
