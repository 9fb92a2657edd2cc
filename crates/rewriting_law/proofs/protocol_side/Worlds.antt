-- Nodes by address and by block: each change of a node's copy and states is one of its blocks.
use Rattle.std.proofs.Common.{◌≡◌, ℕ, ◌*◌, ◌<◌, true, false, cond, eqb, List, length, Some, None, refl, sym, ap, ◌∙◌, inl, inr}
use Rattle.std.proofs.lemmas.Bool.Decides.{eqb_tells}
use Rattle.rewriting_law.proofs.Names.{is_aligned, Width, Shape, IsValid, blocks, lines, first_line, block_of, changed, stored, state_with, Message, Miss, Row, AtHome, AtNode, line_of, World, after_miss, size, store_in, after_row, NodeMemory, with_state, with_bytes}
use Rattle.state_table.specs.declared.State.{State}
use Rattle.dsm_protocol.specs.Holds.{after_store}
use Rattle.dsm_protocol.proofs.Openings.{LineLaws}
use Rattle.dsm_protocol.proofs.Alike.{Alike}
use Rattle.dsm_protocol.proofs.ByAddress.{bytes_in, stored_bytes, stored_elsewhere, put_own, put_other}
use Rattle.rewriting_law.proofs.one_memory.Sharing.{with_local, is_same}
use Rattle.rewriting_law.proofs.protocol_side.Directory.{Rest, world_of, missed, took}
use Rattle.rewriting_law.proofs.protocol_side.Blocks.{state_put}

module _ (laws : LineLaws) (layout : Shape) (valid : IsValid layout)
    (some : (b : ℕ) → b < blocks layout → 0 < lines layout b) where
  -- the same copies and states
  pub same_alike : (locals others : ℕ → NodeMemory) (rest : Rest)
      → ((i : ℕ) → (locals i).copy ≡ (others i).copy)
      → ((i : ℕ) → (locals i).state ≡ (others i).state)
      → Alike layout (world_of layout locals rest) (world_of layout others rest)
  same_alike locals others rest copies states = record {
    entry = λ i b bi bb. refl;
    waiting = λ i b bi. refl;
    occupancy = λ i bi. refl;
    state = λ i b bi bb. ap (λ (f : ℕ → ℕ). state_with (f (first_line layout b))) (sym (states i));
    bytes = λ i b bi bb. ap (λ (f : ℕ → ℕ). bytes_in layout f b) (sym (copies i));
    wait = λ i b bi bb. refl;
    list = λ j i bj bi. refl;
  }

  module _ (locals : ℕ → NodeMemory) (rest : Rest) where
    abbrev w : World
    w = world_of layout locals rest

    module _ (i : ℕ) where
      -- a state of a block is put
      states_put : (b : ℕ) (s : State) (n : NodeMemory) → b < blocks layout
          → n.state ≡ with_state layout b s (locals i).state → (x d : ℕ) → d < blocks layout
          → state_with ((with_local locals i n x).state (first_line layout d))
          ≡ changed w.state i (changed (w.state i) b s) x d
      states_put b s n below is x d low = (elim (eqb x i)
          as (λ t. state_with ((cond t n (locals x)).state (first_line layout d))
          ≡ cond t (changed (w.state i) b s) (w.state x) d) [
            | true ↦ ap (λ (f : ℕ → ℕ). state_with (f (first_line layout d))) is
                ∙ state_put laws layout valid some b s (locals i).state below d low
            | false ↦ refl
          ])

      -- the bytes of a block are put
      block_put : (b : ℕ) (bytes : List ℕ) (copy : ℕ → ℕ) → b < blocks layout
          → length bytes ≡ size layout b → (d : ℕ) → d < blocks layout
          → bytes_in layout (with_bytes layout b bytes copy) d
          ≡ changed (bytes_in layout copy) b bytes d
      block_put b bytes copy below full d low = elim (eqb_tells d b) [
        | inl q ↦ ap (bytes_in layout (with_bytes layout b bytes copy)) q.1
            ∙ put_own laws layout valid copy b bytes below full
            ∙ sym (ap (λ t. cond t bytes (bytes_in layout copy d)) q.0)
        | inr q ↦ put_other laws layout valid copy b bytes below full d low q.1
            ∙ sym (ap (λ t. cond t bytes (bytes_in layout copy d)) q.0)
      ]

      bytes_put : (b : ℕ) (bytes : List ℕ) (n : NodeMemory) → b < blocks layout
          → length bytes ≡ size layout b → n.copy ≡ with_bytes layout b bytes (locals i).copy
          → (x d : ℕ) → d < blocks layout
          → bytes_in layout (with_local locals i n x).copy d
          ≡ changed w.bytes i (changed (w.bytes i) b bytes) x d
      bytes_put b bytes n below full is x d low = (elim (eqb x i)
          as (λ t. bytes_in layout (cond t n (locals x)).copy d
          ≡ cond t (changed (w.bytes i) b bytes) (w.bytes x) d) [
            | true ↦ ap (λ (f : ℕ → ℕ). bytes_in layout f d) is
                ∙ block_put b bytes (locals i).copy below full d low
            | false ↦ refl
          ])

      -- a part with another copy or other states only
      states_still : (n : NodeMemory) → n.state ≡ (locals i).state → (x d : ℕ)
          → state_with ((with_local locals i n x).state (first_line layout d)) ≡ w.state x d
      states_still n is x d = (elim (eqb x i)
          as (λ t. eqb x i ≡ t → state_with ((cond t n (locals x)).state (first_line layout d))
          ≡ w.state x d) [
            | true ↦ (λ e. ap (λ (f : ℕ → ℕ). state_with (f (first_line layout d))) is
                ∙ ap (λ z. w.state z d) (sym (is_same x i e)))
            | false ↦ (λ e. refl)
          ]) refl

      bytes_still : (n : NodeMemory) → n.copy ≡ (locals i).copy → (x d : ℕ)
          → bytes_in layout (with_local locals i n x).copy d ≡ w.bytes x d
      bytes_still n is x d = (elim (eqb x i)
          as (λ t. eqb x i ≡ t → bytes_in layout (cond t n (locals x)).copy d ≡ w.bytes x d) [
            | true ↦ (λ e. ap (λ (f : ℕ → ℕ). bytes_in layout f d) is
                ∙ ap (λ z. w.bytes z d) (sym (is_same x i e)))
            | false ↦ (λ e. refl)
          ]) refl

      -- a wait has begun
      pub miss_alike : (b : ℕ) (miss : Miss) → b < blocks layout
          → Alike layout (after_miss w i b miss) (world_of layout
          (with_local locals i (missed layout (locals i) rest i b (Some miss)).local)
          (missed layout (locals i) rest i b (Some miss)).rest)
      miss_alike b miss below =
          let n = (missed layout (locals i) rest i b (Some miss)).local in
          record {
            entry = λ x d bx bd. refl;
            waiting = λ x b bx. refl;
            occupancy = λ x bx. refl;
            state = λ x d bx bd. states_put b miss.block.state n below refl x d bd;
            bytes = λ x d bx bd. bytes_still n refl x d;
            wait = λ x d bx bd. refl;
            list = λ y x by bx. refl;
          }

      -- a message was taken, without a row
      pub bye_alike : (j : ℕ) (ms : List Message)
          → Alike layout (world_of layout locals (took layout (locals i) rest i j ms None).rest)
          (world_of layout (with_local locals i (locals i))
          (took layout (locals i) rest i j ms None).rest)
      bye_alike j ms = record {
        entry = λ x d bx bd. refl;
        waiting = λ x b bx. refl;
        occupancy = λ x bx. refl;
        state = λ x d bx bd. states_still (locals i) refl x d;
        bytes = λ x d bx bd. bytes_still (locals i) refl x d;
        wait = λ x d bx bd. refl;
        list = λ y x by bx. refl;
      }

      -- or by its row
      abbrev pub IsFull : Row → Type 0
      IsFull (AtHome b row) = Unit {0}
      IsFull (AtNode b row) = (b < blocks layout) × (length row.block.bytes ≡ size layout b)

      pub row_alike : (j : ℕ) (ms : List Message) (row : Row) → IsFull row
          → Alike layout (after_row w j i ms row) (world_of layout
          (with_local locals i (took layout (locals i) rest i j ms (Some row)).local)
          (took layout (locals i) rest i j ms (Some row)).rest)
      row_alike j ms (AtHome b row) full = record {
        entry = λ x d bx bd. refl;
        waiting = λ x b bx. refl;
        occupancy = λ x bx. refl;
        state = λ x d bx bd. states_still (locals i) refl x d;
        bytes = λ x d bx bd. bytes_still (locals i) refl x d;
        wait = λ x d bx bd. refl;
        list = λ y x by bx. refl;
      }
      row_alike j ms (AtNode b row) full =
          let n = (took layout (locals i) rest i j ms (Some (AtNode b row))).local in
          record {
            entry = λ x d bx bd. refl;
            waiting = λ x b bx. refl;
            occupancy = λ x bx. refl;
            state = λ x d bx bd. states_put b row.block.state n full.0 refl x d bd;
            bytes = λ x d bx bd. bytes_put b row.block.bytes n full.0 full.1 refl x d bd;
            wait = λ x d bx bd. refl;
            list = λ y x by bx. refl;
          }

      -- a store
      module _ (b : ℕ) (x : Width) (a v : ℕ) (aligned : is_aligned x a ≡ true)
          (at : block_of layout (line_of a) ≡ Some b) where
        abbrev stored_local : NodeMemory
        stored_local = record (locals i) { copy = stored x (locals i).copy a v }

        abbrev new : List ℕ
        new = store_in layout x a v b (bytes_in layout (locals i).copy b)

        one_after : (d : ℕ) → d < blocks layout → bytes_in layout stored_local.copy d
            ≡ changed (w.bytes i) b new d
        one_after d bd = elim (eqb_tells d b) [
          | inl q ↦ ap (bytes_in layout stored_local.copy) q.1
              ∙ stored_bytes x a v (locals i).copy (64 * first_line layout b) (size layout b)
              ∙ sym (ap (λ t. cond t new (w.bytes i d)) q.0)
          | inr q ↦ stored_elsewhere laws layout valid x a v (locals i).copy b d aligned at bd q.1
              ∙ sym (ap (λ t. cond t new (w.bytes i d)) q.0)
        ]

        bytes_after : (y d : ℕ) → d < blocks layout
            → bytes_in layout (with_local locals i stored_local y).copy d
            ≡ changed w.bytes i (changed (w.bytes i) b new) y d
        bytes_after y d bd = (elim (eqb y i)
            as (λ t. bytes_in layout (cond t stored_local (locals y)).copy d
            ≡ cond t (changed (w.bytes i) b new) (w.bytes y) d) [
              | true ↦ one_after d bd
              | false ↦ refl
            ])

        pub store_alike : Alike layout (after_store layout w i b x a v)
            (world_of layout (with_local locals i stored_local) rest)
        store_alike = record {
          entry = λ y d by bd. refl;
          waiting = λ y b by. refl;
          occupancy = λ y by. refl;
          state = λ y d by bd. states_still stored_local refl y d;
          bytes = λ y d by bd. bytes_after y d bd;
          wait = λ y d by bd. refl;
          list = λ z y bz by. refl;
        }
