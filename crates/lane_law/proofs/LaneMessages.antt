-- A node with several processors asks for a block, or takes a message: no step of the processors, or
-- the breaks of the reservations that lie in the block.
use Rattle.std.proofs.Common.{◌≡◌, ℕ, zero, suc, ◌<◌, ◌≤◌, ◌⊎◌, cond, eqb, ltb, Bool, true, false, List, [], ◌∷◌, ◌++◌, Option, Some, None, refl, sym, ap, ◌∙◌, subst, inl, inr, arith, append-nil}
use Rattle.std.specs.Prelude.{if◌then◌else◌, ◌==◌}
use Rattle.std.proofs.lemmas.Bool.Decides.{eqb_tells, nat_tests}
use Rattle.lane_law.proofs.Names.{cleared, Shape, block_of, has_line, Shared, line_of, stands_at_store, RunsToStore, with_reservation, Processor, State, Pick, Break, run, Work, NodeMemory, is_readable_state, Order, break_by}
use Rattle.rewriting_law.proofs.templates.RegisterLemmas.{equal, apart}
use Rattle.rewriting_law.proofs.one_memory.Advances.{Advanced, run_append, join_advanced}
use Rattle.rewriting_law.proofs.one_memory.Messages.{cleared_by}
use Rattle.rewriting_law.proofs.one_memory.Sharing.{Sharing, with_local, is_same}
use Rattle.rewriting_law.proofs.one_memory.SharedWords.{original, Shares}

-- what is left of a reservation was there, and lies in no block that is given up
pub cleared_left : (layout : Shape) (order : Option Order) (o : Option ℕ) (a : ℕ)
    → cleared_by layout order o ≡ Some a
    → (o ≡ Some a) × ((x : Order) → order ≡ Some x → has_line layout x.block (line_of a) ≡ false)
cleared_left layout None o a h = (h, λ x e. let bad : None ≡ Some x = e in cc)
cleared_left layout (Some y) None a h = let bad : None ≡ Some a = h in cc
cleared_left layout (Some y) (Some b) a h = go (has_line layout y.block (line_of b)) refl h
  where
    go : (t : Bool) → has_line layout y.block (line_of b) ≡ t → cond t None (Some b) ≡ Some a
        → (Some b ≡ Some a)
        × ((x : Order) → Some y ≡ Some x → has_line layout x.block (line_of a) ≡ false)
    go true e h = let bad : None ≡ Some a = h in cc
    go false e h = (
      h,
      λ x f.
          let same : y ≡ x = cc in
          let at : b ≡ a = cc in
          ap (λ (z : Order). has_line layout z.block (line_of a)) (sym same)
          ∙ ap (λ z. has_line layout y.block (line_of z)) (sym at) ∙ e,
    )

module _ (layout : Shape) (work : Work) (processors : ℕ) (node_of : ℕ → ℕ)
    (placed : (p : ℕ) → p < processors → node_of p < work.layout.nodes) where
  -- the breaks of the first processors, ascending, of which those of node i lose what they have
  -- reserved in the block
  abbrev pub breaks : (reserved : ℕ → Option ℕ) (i : ℕ) → Option Order → ℕ → List Pick
  breaks reserved i order zero = []
  breaks reserved i order (suc p) =
      breaks reserved i order p
      ++ (if node_of p == i then break_by layout p order (reserved p) else [])

  -- the reservations after a message with this order at node i
  abbrev pub reserved_then : (reserved : ℕ → Option ℕ) (i : ℕ) → Option Order → ℕ → Option ℕ
  reserved_then reserved i order j =
      if node_of j == i then cleared_by layout order (reserved j) else reserved j

  -- what taking a message leaves, with who holds the requester's wait in the order: a line that was
  -- readable stays so, but in the block that the message orders; and who asks for that block stands
  -- at a store into it
  pub record Took (sharing' : Sharing layout work) (locals : ℕ → NodeMemory) (s : State) (i : ℕ)
      (n : NodeMemory) (order : Option Order) : Type 0 where
    pub held : sharing'.Holds (with_local locals i n) s.shared
    pub reads : (line : ℕ) → work.program.class line ≡ Shared
        → is_readable_state ((locals i).state line) ≡ true
        → (is_readable_state (n.state line) ≡ true)
        ⊎ ((x : Order) × (order ≡ Some x) × (has_line layout x.block line ≡ true))
    pub lies : (x : Order) → order ≡ Some x → (line : ℕ) → has_line layout x.block line ≡ true
        → block_of layout line ≡ Some x.block
    pub among : (x : Order) → order ≡ Some x
        → (x.requester < processors) × (eqb i (node_of x.requester) ≡ false)
    pub runs : (x : Order) → order ≡ Some x → (s.processors x.requester).exit ≡ None
    pub stores : (x : Order) → order ≡ Some x
        → (stands_at_store work.program layout x.block (s.processors x.requester).registers
        (s.processors x.requester).pc ≡ true)
        ⊎ RunsToStore work.program layout x.block (s.processors x.requester).registers
        (s.processors x.requester).pc

  module _ (sharing sharing' : Sharing layout work) (locals : ℕ → NodeMemory) (reserved : ℕ → Option ℕ)
      (s : State) (i : ℕ) (n : NodeMemory)
      (shares : Shares layout work processors node_of placed sharing locals reserved s)
      (order : Option Order) (took : Took sharing' locals s i n order) where
    -- the state once the first processors' reservations are broken
    abbrev broken_to : ℕ → ℕ → Option ℕ
    broken_to p j = cond (ltb j p) (reserved_then reserved i order j) (s.reservations j)

    pub record Broken (p : ℕ) (ks : List Pick) : Type 0 where
      pub advanced : Advanced (original layout work processors node_of placed) s ks (λ p. []) []
      pub same : (run (original layout work processors node_of placed) s ks).processors
          ≡ s.processors
      pub shared : (run (original layout work processors node_of placed) s ks).shared ≡ s.shared
      pub reservations : (j : ℕ) → j < processors
          → (run (original layout work processors node_of placed) s ks).reservations j
          ≡ broken_to p j

    below_next : (j p : ℕ) → eqb j p ≡ false → ltb j (suc p) ≡ ltb j p
    below_next j p h = grind (arith, nat_tests)

    -- nothing more to break
    kept_next : (p : ℕ) (ks : List Pick) → p < processors → Broken p ks
        → reserved_then reserved i order p ≡ reserved p → Broken (suc p) ks
    kept_next p ks low h same = record {
      advanced = h.advanced;
      same = h.same;
      shared = h.shared;
      reservations = λ j below. h.reservations j below ∙ (elim (eqb_tells j p) [
        | inl e ↦ (let no : ltb j p ≡ false = grind (arith, nat_tests) in
            let yes : ltb j (suc p) ≡ true = grind (arith, nat_tests) in
            ap (λ t. cond t (reserved_then reserved i order j) (s.reservations j)) no
            ∙ sym (shares.reservations j below) ∙ ap reserved e.1 ∙ sym same
            ∙ ap (reserved_then reserved i order) (sym e.1)
            ∙ sym (ap (λ t. cond t (reserved_then reserved i order j) (s.reservations j)) yes))
        | inr e ↦ ap (λ t. cond t (reserved_then reserved i order j) (s.reservations j))
            (sym (below_next j p (apart j p e.1)))
      ]);
    }

    -- one more is broken
    break_next : (p : ℕ) (ks : List Pick) → p < processors → Broken p ks → eqb (node_of p) i ≡ true
        → (a : ℕ) (x : Order) → reserved p ≡ Some a → order ≡ Some x
        → has_line layout x.block (line_of a) ≡ true → reserved_then reserved i order p ≡ None
        → Broken (suc p) (ks ++ Break p x.requester ∷ [])
    break_next p ks low h ours a x has is within gone =
        let o = original layout work processors node_of placed in
        let t = run o s ks in
        let after : run o s (ks ++ Break p x.requester ∷ [])
        ≡ record t { reservations = with_reservation t.reservations p None } =
        run_append o ks (Break p x.requester ∷ []) s in
        let still : ltb p p ≡ false = grind (arith, nat_tests) in
        let here : t.reservations p ≡ Some a =
        h.reservations p low
        ∙ ap (λ u. cond u (reserved_then reserved i order p) (s.reservations p)) still
        ∙ sym (shares.reservations p low) ∙ has in
        let other : eqb p x.requester ≡ false =
        apart p x.requester (λ e.
        let same : i ≡ node_of x.requester = sym (is_same (node_of p) i ours) ∙ ap node_of e in
        let bad : false ≡ true = sym (took.among x is).1 ∙ equal i (node_of x.requester) same in
        cc) in
        record {
          advanced = join_advanced o s ks (Break p x.requester ∷ []) (λ p. []) (λ p. []) [] []
              h.advanced (record {
                allowed = (
                  record {
                    other = other;
                    among = (low, (took.among x is).0);
                    runs = ap (λ (f : ℕ → Processor). (f x.requester).exit) h.same ∙ took.runs x is;
                    reserved = a;
                    has = here;
                    block = x.block;
                    lies = took.lies x is (line_of a) within;
                    stores = subst (λ (f : ℕ → Processor).
                        (stands_at_store work.program layout x.block (f x.requester).registers
                        (f x.requester).pc ≡ true)
                        ⊎ RunsToStore work.program layout x.block (f x.requester).registers
                        (f x.requester).pc) (sym h.same) (took.stores x is);
                  },
                  tt,
                );
                same_values = λ p. refl;
                output = sym (append-nil t.output);
              });
          same = ap (λ (u : State). u.processors) after ∙ h.same;
          shared = ap (λ (u : State). u.shared) after ∙ h.shared;
          reservations = λ j below. ap (λ (u : State). u.reservations j) after
              ∙ (elim (eqb_tells j p) [
                | inl e ↦ (let yes : ltb j (suc p) ≡ true = grind (arith, nat_tests) in
                    ap (λ u. cond u None (t.reservations j)) e.0
                    ∙ sym gone ∙ ap (reserved_then reserved i order) (sym e.1)
                    ∙ sym (ap (λ u. cond u (reserved_then reserved i order j) (s.reservations j))
                    yes))
                | inr e ↦ ap (λ u. cond u None (t.reservations j)) (apart j p e.1)
                    ∙ h.reservations j below
                    ∙ ap (λ u. cond u (reserved_then reserved i order j) (s.reservations j))
                    (sym (below_next j p (apart j p e.1)))
              ]);
        }

    -- the reservation of one more
    next_broken : (p : ℕ) (ks : List Pick) → p < processors → Broken p ks
        → Broken (suc p) (ks ++ (if node_of p == i then break_by layout p order (reserved p)
        else []))
    next_broken p ks low h = at_node (eqb (node_of p) i) refl
      where
        same_picks : Broken (suc p) ks → Broken (suc p) (ks ++ [])
        same_picks b = subst (Broken (suc p)) (sym (append-nil ks)) b

        within : eqb (node_of p) i ≡ true → (x : Order) → order ≡ Some x → (a : ℕ)
            → reserved p ≡ Some a → (t : Bool) → has_line layout x.block (line_of a) ≡ t
            → Broken (suc p) (ks ++ cond t (Break p x.requester ∷ []) [])
        within ours x is a has true f =
            break_next p ks low h ours a x has is f
            (ap (λ t. cond t (cleared_by layout order (reserved p)) (reserved p)) ours
            ∙ ap (λ o. cleared_by layout o (reserved p)) is ∙ ap (cleared layout x.block) has
            ∙ ap (λ t. cond t None (Some a)) f)
        within ours x is a has false f =
            same_picks (kept_next p ks low h
            (ap (λ t. cond t (cleared_by layout order (reserved p)) (reserved p)) ours
            ∙ ap (λ o. cleared_by layout o (reserved p)) is ∙ ap (cleared layout x.block) has
            ∙ ap (λ t. cond t None (Some a)) f ∙ sym has))

        by_order : eqb (node_of p) i ≡ true → (o : Option Order) → order ≡ o → (r : Option ℕ)
            → reserved p ≡ r → Broken (suc p) (ks ++ break_by layout p o r)
        by_order ours None is r has =
            same_picks (kept_next p ks low h
            (ap (λ t. cond t (cleared_by layout order (reserved p)) (reserved p)) ours
            ∙ ap (λ o. cleared_by layout o (reserved p)) is))
        by_order ours (Some x) is None has =
            same_picks (kept_next p ks low h
            (ap (λ t. cond t (cleared_by layout order (reserved p)) (reserved p)) ours
            ∙ ap (λ o. cleared_by layout o (reserved p)) is ∙ ap (cleared layout x.block) has
            ∙ sym has))
        by_order ours (Some x) is (Some a) has =
            within ours x is a has (has_line layout x.block (line_of a)) refl

        at_node : (u : Bool) → eqb (node_of p) i ≡ u
            → Broken (suc p) (ks ++ cond u (break_by layout p order (reserved p)) [])
        at_node true e = by_order e order refl (reserved p) refl
        at_node false e =
            same_picks (kept_next p ks low h
            (ap (λ t. cond t (cleared_by layout order (reserved p)) (reserved p)) e))

    first_broken : Broken 0 []
    first_broken = record {
      advanced = record {
        allowed = tt;
        same_values = λ p. refl;
        output = sym (append-nil s.output);
      };
      same = refl;
      shared = refl;
      reservations = λ j below.
          let no : ltb j 0 ≡ false = grind (arith, nat_tests) in
          sym (ap (λ t. cond t (reserved_then reserved i order j) (s.reservations j)) no);
    }

    all_broken : (p : ℕ) → p ≤ processors → Broken p (breaks reserved i order p)
    all_broken zero low = first_broken
    all_broken (suc p) low =
        next_broken p (breaks reserved i order p) (omega (arith, low))
        (all_broken p (omega (arith, low)))

    -- a message is no step, or the breaks of the reservations of its node that lie in the block
    pub record Taken (ks : List Pick) : Type 0 where
      pub advanced : Advanced (original layout work processors node_of placed) s ks (λ p. []) []
      pub behind : Shares layout work processors node_of placed sharing' (with_local locals i n)
          (reserved_then reserved i order)
          (run (original layout work processors node_of placed) s ks)
      pub same : (run (original layout work processors node_of placed) s ks).processors
          ≡ s.processors

    pub message_shares : Taken (breaks reserved i order processors)
    message_shares =
        let b = all_broken processors (omega arith) in
        record {
          advanced = b.advanced;
          same = b.same;
          behind = record {
            held = subst (sharing'.Holds (with_local locals i n)) (sym b.shared) took.held;
            reservations = λ j low. sym (b.reservations j low
                ∙ (let yes : ltb j processors ≡ true = grind (arith, nat_tests) in
                ap (λ t. cond t (reserved_then reserved i order j) (s.reservations j)) yes));
            readable = λ j low a f c. (elim (eqb (node_of j) i) as (λ u. eqb (node_of j) i ≡ u
                → cond u (cleared_by layout order (reserved j)) (reserved j) ≡ Some a
                → is_readable_state ((cond u n (locals (node_of j))).state (line_of a)) ≡ true) [
                  | true ↦ (λ e g.
                      let was = cleared_left layout order (reserved j) a g in
                      let before : is_readable_state ((locals i).state (line_of a)) ≡ true =
                      ap (λ k. is_readable_state ((locals k).state (line_of a)))
                      (sym (is_same (node_of j) i e)) ∙ shares.readable j low a was.0 c in
                      elim (took.reads (line_of a) c before) [
                        | inl y ↦ y
                        | inr y ↦ (let bad : false ≡ true = sym (was.1 y.0 y.1) ∙ y.2 in cc)
                      ])
                  | false ↦ (λ e g. shares.readable j low a g c)
                ]) refl f;
          };
        }

    -- asking for a block is no step
    pub want_shares : sharing'.Holds (with_local locals i n) s.shared
        → ((line : ℕ) → is_readable_state ((locals i).state line) ≡ true
        → is_readable_state (n.state line) ≡ true)
        → Shares layout work processors node_of placed sharing' (with_local locals i n) reserved s
    want_shares held reads = record {
      held = held;
      reservations = shares.reservations;
      readable = λ j low a f c. (elim (eqb (node_of j) i) as (λ u. eqb (node_of j) i ≡ u
          → is_readable_state ((cond u n (locals (node_of j))).state (line_of a)) ≡ true) [
            | true ↦ (λ e. reads (line_of a)
                (ap (λ k. is_readable_state ((locals k).state (line_of a)))
                (sym (is_same (node_of j) i e)) ∙ shares.readable j low a f c))
            | false ↦ (λ e. shares.readable j low a f c)
          ]) refl;
    }
