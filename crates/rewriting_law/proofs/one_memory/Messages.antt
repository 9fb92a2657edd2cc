-- A node asks for a block, or takes a message: no step of the processors, or the break of a
-- reservation.
use Rattle.std.proofs.Common.{◌≡◌, ℕ, ◌<◌, ◌⊎◌, cond, eqb, Bool, true, false, List, [], ◌∷◌, Option, Some, None, refl, sym, ap, ◌∙◌, inl, inr, append-nil}
use Rattle.std.specs.Option.{option_map_or}
use Rattle.rewriting_law.proofs.Names.{cleared, Shape, block_of, has_line, Shared, class_at, line_of, stands_at_store, RunsToStore, with_reservation, after_other, State, Pick, Break, run, Work, NodeMemory, is_readable_state, is_writable_state, Order, break_by}
use Rattle.rewriting_law.proofs.one_memory.Originals.{original_with}
use Rattle.rewriting_law.proofs.templates.RegisterLemmas.{equal}
use Rattle.rewriting_law.proofs.one_memory.Advances.{Advanced}
use Rattle.rewriting_law.proofs.one_memory.Sharing.{Sharing, with_local}
use Rattle.rewriting_law.proofs.one_memory.OneEach.{Shares, shares_with}

-- the reservation after a message with this order
abbrev pub cleared_by : Shape → Option Order → Option ℕ → Option ℕ
cleared_by layout None reserved = reserved
cleared_by layout (Some x) reserved = cleared layout x.block reserved

-- how the blocks lie in a program's lines
pub record AreLaidOut (layout : Shape) (work : Work) : Type 0 where
  pub shared : (line b : ℕ) → block_of layout line ≡ Some b → work.program.class line ≡ Shared
  pub found : (line : ℕ) → work.program.class line ≡ Shared
      → (b : ℕ) × (block_of layout line ≡ Some b)
  pub within : (line b : ℕ) → block_of layout line ≡ Some b → has_line layout b line ≡ true
  pub whole : (x y b : ℕ) → block_of layout x ≡ Some b → has_line layout b y ≡ true
      → block_of layout y ≡ Some b

module _ (layout : Shape) (work : Work) where
  -- where a node may write a block and another may read it, they are one
  abbrev pub IsAlone : (ℕ → NodeMemory) → Type 0
  IsAlone locals =
      (i j : ℕ) → i < work.layout.nodes → j < work.layout.nodes → (x y b : ℕ)
      → block_of layout (line_of x) ≡ Some b → block_of layout (line_of y) ≡ Some b
      → is_writable_state ((locals i).state (line_of x)) ≡ true
      → is_readable_state ((locals j).state (line_of y)) ≡ true → j ≡ i

  -- so a store ends no reservation of a line that another may read
  pub stays_apart : AreLaidOut layout work → (locals : ℕ → NodeMemory) → IsAlone locals → (i j : ℕ)
      → i < work.layout.nodes → j < work.layout.nodes → eqb j i ≡ false → (x y : ℕ)
      → is_writable_state ((locals i).state (line_of x)) ≡ true → (class_at work.program y ≡ Shared
      → is_readable_state ((locals j).state (line_of y)) ≡ true)
      → after_other layout x (Some y) ≡ Some y
  stays_apart laid locals alone i j low_i low_j other x y writable readable =
      go (block_of layout (line_of x)) refl
    where
      within : (b : ℕ) → block_of layout (line_of x) ≡ Some b → (t : Bool)
          → has_line layout b (line_of y) ≡ t → cond t None (Some y) ≡ Some y
      within b e false f = refl
      within b e true f =
          let there = laid.whole (line_of x) (line_of y) b e f in
          let same = alone i j low_i low_j x y b e there writable
          (readable (laid.shared (line_of y) b there)) in
          let bad : false ≡ true = sym other ∙ equal j i same in cc

      go : (o : Option ℕ) → block_of layout (line_of x) ≡ o
          → option_map_or (λ b. cleared layout b (Some y)) o (Some y) ≡ Some y
      go None e = refl
      go (Some b) e = within b e (has_line layout b (line_of y)) refl

  -- the node's part before and after, and the protocol
  module _ (sharing sharing' : Sharing layout work) (locals : ℕ → NodeMemory) (s : State) (i : ℕ)
      (n : NodeMemory) where
    -- what asking for a block leaves
    pub record Wanted : Type 0 where
      pub held : sharing'.Holds (with_local locals i n) s.shared
      pub reservation : n.reservation ≡ (locals i).reservation
      pub reads : (line : ℕ) → is_readable_state ((locals i).state line) ≡ true
          → is_readable_state (n.state line) ≡ true

    -- what taking a message leaves: a line that was readable stays so, but in the block that the
    -- message orders; and who asks for that block stands at a store into it
    pub record Took (order : Option Order) : Type 0 where
      pub held : sharing'.Holds (with_local locals i n) s.shared
      pub reservation : n.reservation ≡ cleared_by layout order (locals i).reservation
      pub reads : (line : ℕ) → work.program.class line ≡ Shared
          → is_readable_state ((locals i).state line) ≡ true
          → (is_readable_state (n.state line) ≡ true)
          ⊎ ((x : Order) × (order ≡ Some x) × (has_line layout x.block line ≡ true))
      pub lies : (x : Order) → order ≡ Some x → (line : ℕ) → has_line layout x.block line ≡ true
          → block_of layout line ≡ Some x.block
      pub among : (x : Order) → order ≡ Some x
          → (x.requester < work.layout.nodes) × (eqb i x.requester ≡ false)
      pub runs : (x : Order) → order ≡ Some x → (s.processors x.requester).exit ≡ None
      pub stores : (x : Order) → order ≡ Some x
          → (stands_at_store work.program layout x.block (s.processors x.requester).registers
          (s.processors x.requester).pc ≡ true)
          ⊎ RunsToStore work.program layout x.block (s.processors x.requester).registers
          (s.processors x.requester).pc

    module _ (shares : Shares layout work sharing locals s) (below : i < work.layout.nodes) where
      -- asking for a block is no step
      pub want_shares : Wanted → Shares layout work sharing' (with_local locals i n) s
      want_shares w =
          shares_with layout work sharing sharing' locals s s shares i n w.held
          (w.reservation ∙ shares.reservations i below)
          (λ a h c. w.reads (line_of a) (shares.readable i below a (sym w.reservation ∙ h) c))
          (λ j low e. refl)

      module _ (order : Option Order) (took : Took order) where
        pub record Taken (ks : List Pick) : Type 0 where
          pub advanced : Advanced (original_with layout work) s ks (λ p. []) []
          pub behind : Shares layout work sharing' (with_local locals i n)
              (run (original_with layout work) s ks)
          pub processors : (run (original_with layout work) s ks).processors ≡ s.processors

        -- the reservation is kept: its line isn't in the block
        kept : n.reservation ≡ (locals i).reservation
            → ((a : ℕ) (x : Order) → (locals i).reservation ≡ Some a → order ≡ Some x
            → has_line layout x.block (line_of a) ≡ true → ⊥) → Taken []
        kept same apart = record {
          advanced = record {
            allowed = tt;
            same_values = λ p. refl;
            output = sym (append-nil s.output);
          };
          behind = shares_with layout work sharing sharing' locals s s shares i n took.held
              (same ∙ shares.reservations i below) (λ a h c. elim (took.reads (line_of a) c
              (shares.readable i below a (sym same ∙ h) c)) [
                | inl e ↦ e
                | inr e ↦ absurd (apart a e.0 (sym same ∙ h) e.1 e.2)
              ]) (λ j low e. refl);
          processors = refl;
        }

        -- the reservation is broken: the requester may break it
        breaks : (a : ℕ) (x : Order) → (locals i).reservation ≡ Some a → order ≡ Some x
            → has_line layout x.block (line_of a) ≡ true → n.reservation ≡ None
            → Taken (Break i x.requester ∷ [])
        breaks a x h e within gone = record {
          advanced = record {
            allowed = (
              record {
                other = (took.among x e).1;
                among = (below, (took.among x e).0);
                runs = took.runs x e;
                reserved = a;
                has = sym (shares.reservations i below) ∙ h;
                block = x.block;
                lies = took.lies x e (line_of a) within;
                stores = took.stores x e;
              },
              tt,
            );
            same_values = λ p. refl;
            output = sym (append-nil s.output);
          };
          behind = shares_with layout work sharing sharing' locals s
              (record s { reservations = with_reservation s.reservations i None }) shares i n
              took.held (gone ∙ sym (ap (λ u. cond u None (s.reservations i)) (equal i i refl)))
              (λ b f c. let bad : None ≡ Some b = sym gone ∙ f in cc)
              (λ j low f. ap (λ u. cond u None (s.reservations j)) f);
          processors = refl;
        }

        -- a message is no step, or the break of the node's reservation
        pub message_shares : Taken (break_by layout i order (locals i).reservation)
        message_shares = go order refl (locals i).reservation refl
          where
            within : (x : Order) (a : ℕ) → order ≡ Some x → (locals i).reservation ≡ Some a
                → n.reservation ≡ cleared layout x.block (Some a) → (t : Bool)
                → has_line layout x.block (line_of a) ≡ t
                → Taken (cond t (Break i x.requester ∷ []) [])
            within x a e h r true f = breaks a x h e f (r ∙ ap (λ t. cond t None (Some a)) f)
            within x a e h r false f =
                kept (r ∙ ap (λ t. cond t None (Some a)) f ∙ sym h) (λ b y g k l.
                let both : Some x ≡ Some y = sym e ∙ k in
                let is : x ≡ y = cc in
                let two : Some a ≡ Some b = sym h ∙ g in
                let at : a ≡ b = cc in
                let there : has_line layout x.block (line_of a) ≡ true =
                ap (λ z. has_line layout x.block (line_of z)) at
                ∙ ap (λ (z : Order). has_line layout z.block (line_of b)) is ∙ l in
                let bad : false ≡ true = sym f ∙ there in cc)

            go : (o : Option Order) → order ≡ o → (p : Option ℕ) → (locals i).reservation ≡ p
                → Taken (break_by layout i o p)
            go None e p f =
                kept (took.reservation ∙ ap (λ o. cleared_by layout o (locals i).reservation) e)
                (λ a x g k l. let bad : None ≡ Some x = sym e ∙ k in cc)
            go (Some x) e None f =
                kept (took.reservation ∙ ap (λ o. cleared_by layout o (locals i).reservation) e
                ∙ ap (λ p. cleared layout x.block p) f ∙ sym f)
                (λ a y g k l. let bad : None ≡ Some a = sym f ∙ g in cc)
            go (Some x) e (Some a) f =
                within x a e f (took.reservation
                ∙ ap (λ o. cleared_by layout o (locals i).reservation) e
                ∙ ap (λ p. cleared layout x.block p) f) (has_line layout x.block (line_of a)) refl
