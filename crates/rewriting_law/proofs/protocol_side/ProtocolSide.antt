-- The protocol's side of the composition: what a protocol has to give, in the words of nodes that
-- run code.
use Rattle.std.proofs.Common.{◌≡◌, ℕ, ◌<◌, ◌⊎◌, eqb, Bool, true, false, List, length, Option, Some, None}
use Rattle.std.specs.Prelude.{◌&&◌}
use Rattle.rewriting_law.proofs.Names.{is_aligned, Width, Shape, block_of, has_line, stored, Shared, class_at, line_of, stands_at_store, RunsToStore, State, Need, Write, Work, NodeMemory, Want, is_readable_state, is_writable_state, Order}
use Rattle.rewriting_law.proofs.templates.States.{Suits, grants}
use Rattle.rewriting_law.proofs.one_memory.Sharing.{Sharing, with_local}
use Rattle.rewriting_law.proofs.one_memory.Messages.{cleared_by, AreLaidOut, IsAlone, stays_apart, Wanted, Took}
use Rattle.rewriting_law.proofs.one_memory.Pending.{wanted_in}

-- a node's part and the rest of the protocol, once the node has asked for a block or taken a
-- message
pub record Handled (Rest : Type 0) : Type 0 where
  pub local : NodeMemory
  pub rest : Rest

-- what a protocol does, beside what words see of the nodes: waits by node and block, a node's want
-- of a block, and a node's taking of the next message of another, with what that message orders
pub record Protocol : Type 1 where
  pub Rest : Type 0
  pub wait : Rest → ℕ → ℕ → Option Need
  pub want : (ℕ → NodeMemory) → Rest → ℕ → ℕ → Need → Handled Rest
  pub has_message : Rest → ℕ → ℕ → Bool
  pub take : (ℕ → NodeMemory) → Rest → ℕ → ℕ → Handled Rest
  pub order : (ℕ → NodeMemory) → Rest → ℕ → ℕ → Option Order

module _ (layout : Shape) (work : Work) (protocol : Protocol) where
  abbrev Invariant : Type 1
  Invariant = (ℕ → NodeMemory) → protocol.Rest → (ℕ → ℕ) → Type 0

  -- what node i's want of a block leaves
  pub record WantLeaves (Holds : Invariant) (locals : ℕ → NodeMemory) (rest : protocol.Rest)
      (memory : ℕ → ℕ) (i b : ℕ) (need : Need) (t : Handled protocol.Rest) : Type 0 where
    pub held : Holds (with_local locals i t.local) t.rest memory
    pub own : protocol.wait t.rest i b ≡ Some need
    pub others : (x c : ℕ) → (eqb x i && eqb c b) ≡ false
        → protocol.wait t.rest x c ≡ protocol.wait rest x c
    pub reservation : t.local.reservation ≡ (locals i).reservation
    pub reads : (line : ℕ) → is_readable_state ((locals i).state line) ≡ true
        → is_readable_state (t.local.state line) ≡ true
    pub elsewhere : (line c : ℕ) → block_of layout line ≡ Some c → eqb c b ≡ false
        → t.local.state line ≡ (locals i).state line

  -- what node i's taking of a message with this order leaves
  pub record TakeLeaves (Holds : Invariant) (locals : ℕ → NodeMemory) (rest : protocol.Rest)
      (memory : ℕ → ℕ) (i : ℕ) (order : Option Order) (t : Handled protocol.Rest) : Type 0 where
    pub held : Holds (with_local locals i t.local) t.rest memory
    -- only node i's waits may end, each with what it was for
    pub others : (x c : ℕ) → eqb x i ≡ false → protocol.wait t.rest x c ≡ protocol.wait rest x c
    pub own : (c : ℕ) → (protocol.wait t.rest i c ≡ protocol.wait rest i c)
        ⊎ (protocol.wait t.rest i c ≡ None)
    pub granted : (a b : ℕ) (need : Need) → block_of layout (line_of a) ≡ Some b
        → protocol.wait rest i b ≡ Some need → protocol.wait t.rest i b ≡ None
        → grants need (t.local.state (line_of a)) ≡ true
    pub reservation : t.local.reservation ≡ cleared_by layout order (locals i).reservation
    -- what was readable stays so, but for the order's block
    pub reads : (line : ℕ) → work.program.class line ≡ Shared
        → is_readable_state ((locals i).state line) ≡ true
        → (is_readable_state (t.local.state line) ≡ true)
        ⊎ ((x : Order) × (order ≡ Some x) × (has_line layout x.block line ≡ true))
    pub lies : (x : Order) → order ≡ Some x → (line : ℕ) → has_line layout x.block line ≡ true
        → block_of layout line ≡ Some x.block
    -- who is named waits for the block, to write it
    pub requester : (x : Order) → order ≡ Some x
        → (x.requester < work.layout.nodes) × (eqb i x.requester ≡ false)
        × (protocol.wait rest x.requester x.block ≡ Some Write)

  -- the coherence of the nodes' copies with one memory, kept by stores, wants and messages
  pub record ProtocolSide : Type 1 where
    pub Holds : Invariant
    pub suits : (locals : ℕ → NodeMemory) (rest : protocol.Rest) (memory : ℕ → ℕ)
        → Holds locals rest memory → (i : ℕ) → i < work.layout.nodes → Suits work.program (locals i)
    pub coherent : (locals : ℕ → NodeMemory) (rest : protocol.Rest) (memory : ℕ → ℕ)
        → Holds locals rest memory → (i : ℕ) → i < work.layout.nodes → (a : ℕ)
        → class_at work.program a ≡ Shared → is_readable_state ((locals i).state (line_of a)) ≡ true
        → (locals i).copy a ≡ memory a
    -- one node may write a block, or some may read it
    pub alone : (locals : ℕ → NodeMemory) (rest : protocol.Rest) (memory : ℕ → ℕ)
        → Holds locals rest memory → IsAlone layout work locals
    -- it speaks of copies and states alone
    pub like : (locals others : ℕ → NodeMemory) (rest : protocol.Rest) (memory : ℕ → ℕ)
        → ((i : ℕ) → (locals i).copy ≡ (others i).copy)
        → ((i : ℕ) → (locals i).state ≡ (others i).state) → Holds locals rest memory
        → Holds others rest memory
    pub stores : (locals : ℕ → NodeMemory) (rest : protocol.Rest) (memory : ℕ → ℕ)
        → Holds locals rest memory → (i : ℕ) → i < work.layout.nodes → (w : Width) (a value : ℕ)
        → is_aligned w a ≡ true → class_at work.program a ≡ Shared
        → is_writable_state ((locals i).state (line_of a)) ≡ true → Holds (with_local locals i
        (record (locals i) { copy = stored w (locals i).copy a value })) rest
        (stored w memory a value)
    -- a want of a block that isn't waited for, where at most one other is, and that isn't granted
    pub wants : (locals : ℕ → NodeMemory) (rest : protocol.Rest) (memory : ℕ → ℕ)
        → Holds locals rest memory → (i : ℕ) → i < work.layout.nodes → (a b : ℕ) (need : Need)
        → block_of layout (line_of a) ≡ Some b → (ws : List Want) → length ws < 2
        → ((c : ℕ) → protocol.wait rest i c ≡ wanted_in layout c ws)
        → wanted_in layout b ws ≡ None → grants need ((locals i).state (line_of a)) ≡ false
        → WantLeaves Holds locals rest memory i b need (protocol.want locals rest i b need)
    pub takes : (locals : ℕ → NodeMemory) (rest : protocol.Rest) (memory : ℕ → ℕ)
        → Holds locals rest memory → (i j : ℕ) → i < work.layout.nodes → j < work.layout.nodes
        → protocol.has_message rest i j ≡ true
        → TakeLeaves Holds locals rest memory i (protocol.order locals rest i j)
        (protocol.take locals rest i j)

  module _ (side : ProtocolSide) (laid : AreLaidOut layout work) where
    -- while the rest of the protocol stays as it is, words may use this
    abbrev pub sharing_by : protocol.Rest → Sharing layout work
    sharing_by rest = record {
      Holds = λ locals memory. side.Holds locals rest memory;
      suits = λ locals memory h i low. side.suits locals rest memory h i low;
      coherent = λ locals memory h i low a shared readable.
          side.coherent locals rest memory h i low a shared readable;
      like = λ locals others memory copies states h.
          side.like locals others rest memory copies states h;
      stores = λ locals memory h i low w a value aligned shared writable.
          side.stores locals rest memory h i low w a value aligned shared writable;
      apart = λ locals memory h i j low_i low_j other x y writable readable.
          stays_apart layout work laid locals (side.alone locals rest memory h) i j low_i low_j
          other x y writable readable;
    }

    module _ (locals : ℕ → NodeMemory) (rest : protocol.Rest) (s : State) (i : ℕ) where
      -- a want, as words see it
      pub wanted_by : (b : ℕ) (need : Need) (t : Handled protocol.Rest)
          → WantLeaves side.Holds locals rest s.shared i b need t
          → Wanted layout work (sharing_by rest) (sharing_by t.rest) locals s i t.local
      wanted_by b need t w = record {
        held = w.held;
        reservation = w.reservation;
        reads = w.reads;
      }

      -- a message, as words see it, where each processor that waits to write a block stands at a
      -- store into it
      pub took_by : (order : Option Order) (t : Handled protocol.Rest)
          → ((j b : ℕ) → j < work.layout.nodes → protocol.wait rest j b ≡ Some Write
          → ((s.processors j).exit ≡ None)
          × ((stands_at_store work.program layout b (s.processors j).registers
          (s.processors j).pc ≡ true)
          ⊎ RunsToStore work.program layout b (s.processors j).registers (s.processors j).pc))
          → TakeLeaves side.Holds locals rest s.shared i order t
          → Took layout work (sharing_by rest) (sharing_by t.rest) locals s i t.local order
      took_by order t stores h = record {
        held = h.held;
        reservation = h.reservation;
        reads = h.reads;
        lies = h.lies;
        among = λ x e. let r = h.requester x e in (r.0, r.1);
        runs = λ x e. let r = h.requester x e in (stores x.requester x.block r.0 r.2).0;
        stores = λ x e. let r = h.requester x e in (stores x.requester x.block r.0 r.2).1;
      }
