-- The directory protocol keeps what nodes that share a memory rest on.
use Rattle.std.proofs.Common.{◌≡◌, ℕ, ◌-◌, ◌%◌, ◌<◌, Bool, true, false, cond, eqb, List, [], ◌∷◌, ◌++◌, length, get_or, Option, Some, None, refl, sym, ap, ◌∙◌, subst, inl, inr, arith}
use Rattle.std.specs.Prelude.{is_some, IsSome, ◌&&◌}
use Rattle.std.proofs.lemmas.Bool.Decides.{nat_tests}
use Rattle.rewriting_law.proofs.Names.{is_aligned, Width, Word, Shape, IsValid, blocks, lines, first_line, block_of, has_line, stored, raw, empty_buffer, byte_of, state_with, can_read, can_write, flag_byte, Need, Message, FwdRead, FwdWrite, Inval, Data, Grant, Ack, Done, Bye, Wait, count_of, Miss, meets, cleared, Row, AtHome, AtNode, block_in, clears, taker_in, is_bye, takes_away, Shared, class_at, line_of, Contents, need_of, most_waits, World, after_miss, IsLaid, size, address_of, store_in, after_row, sends_in, pending, HoldsBy, Holds, wanted, AfterWant, AfterTake, with_state, Work, NodeMemory, Want, is_readable_state, is_writable_state, IsLaidOver, Order, order_by, AreContentsOf}
use Rattle.rv32_decode.specs.declared.LoadKind.TheVariants.{Word as WordLoad}
use Rattle.state_table.specs.declared.State.{State}
use Rattle.state_table.specs.declared.State.TheVariants as state
use Rattle.home_directory.specs.dsm_messages.declared.messages.Message.TheVariants as message
use Rattle.home_directory.specs.dsm_messages.declared.messages.Message.TheVariants.{Read, Write}
use Rattle.coherence.specs.Machine.{Event, Want as WantsBlock}
use Rattle.dsm_protocol.proofs.Counting.{count_alike}
use Rattle.dsm_protocol.specs.Events.{row_of}
use Rattle.dsm_protocol.proofs.Openings.{LineLaws}
use Rattle.dsm_protocol.proofs.Alike.{Alike}
use Rattle.dsm_protocol.proofs.Promised.{two_of_most}
use Rattle.dsm_protocol.proofs.ProtocolSide as world
use Rattle.dsm_protocol.proofs.ByAddress.{byte_of_block, flag_at}
use Rattle.rewriting_law.proofs.templates.States.{Suits, StateFits, first_fits, grants}
use Rattle.rewriting_law.proofs.templates.Flagged.{extend_word, flag_bytes}
use Rattle.rewriting_law.proofs.one_memory.Sharing.{with_local, is_same, local_here, load_same}
use Rattle.rewriting_law.proofs.one_memory.Messages.{cleared_by, AreLaidOut, IsAlone}
use Rattle.rewriting_law.proofs.one_memory.Pending.{wanted_in}
use Rattle.rewriting_law.proofs.protocol_side.CountedBlocks.{wanted_few}
use Rattle.rewriting_law.proofs.protocol_side.ProtocolSide.{Handled, ProtocolSide, WantLeaves, TakeLeaves}
use Rattle.rewriting_law.proofs.protocol_side.Spending.{AreCounted, asks_more, takes_more, store_counted, want_counted, take_counted}
use Rattle.rewriting_law.proofs.protocol_side.Directory.{Rest, world_of, missed, miss_in, took, take_from, order_from, is_some_list, directory}
use Rattle.rewriting_law.proofs.protocol_side.Blocks.{readable_byte, place_own, block_below, line_in, line_of_other, Fits, fits_put, readable_line, writable_line, grants_line, writable_byte}
use Rattle.rewriting_law.proofs.protocol_side.Worlds.{same_alike, miss_alike, bye_alike, IsFull, row_alike, store_alike}

-- what a layout gives
pub record Layout (work : Work) : Type 0 where
  pub laws : LineLaws
  pub valid : IsValid work.layout
  pub some : (b : ℕ) → b < blocks work.layout → 0 < lines work.layout b
  pub laid : IsLaid work.layout
  pub over : IsLaidOver work.program work.layout

-- a protocol list leads there
abbrev pub by_list : {l : Shape} {first : ℕ → Contents} {events : List (Event Contents)} {w : World}
    {memory : ℕ → ℕ} → HoldsBy l first events w memory → Holds l w memory
by_list {l} {first} {events} h = record { first = first; events = events; by = h }

-- a wait and what it is for
pub not_waiting : (o : Option Wait) → wanted o ≡ None → o ≡ None
not_waiting None e = refl
not_waiting (Some x) e = let bad : Some x.need ≡ None = e in cc

pub is_waiting : (o : Option Wait) → is_some o ≡ is_some (wanted o)
is_waiting None = refl
is_waiting (Some x) = refl

never_same : (u : Bool) → (u ≡ true → ⊥) → u ≡ false
never_same false h = refl
never_same true h = absurd (h refl)

-- the byte of a block's state fits a shared line
fits_state : (byte : ℕ) (s : State) → byte ≡ byte_of s → StateFits Shared byte
fits_state byte state.Exclusive e = inl e
fits_state byte state.Shared e = inr (inl e)
fits_state byte state.Invalid e = inr (inr (inl e))
fits_state byte state.Pending e = inr (inr (inr e))

abbrev block_ordered : Option Order → ℕ
block_ordered None = 0
block_ordered (Some x) = x.block

abbrev taker_ordered : Option Order → Option ℕ
taker_ordered None = None
taker_ordered (Some x) = Some x.requester

-- a Bye has no row, and takes no block away
bye_taker : (m : Message) → is_bye m ≡ true → taker_in m ≡ None
bye_taker Bye e = refl
bye_taker other e = absurd cc

bye_row : (layout : Shape) (w : World) (i j : ℕ) (m : Message) → is_bye m ≡ true
    → row_of layout w i j m ≡ None
bye_row layout w i j Bye e = refl
bye_row layout w i j other e = absurd cc

-- the first of these messages takes something away
abbrev pub lowers_first : List Message → Bool
lowers_first [] = false
lowers_first (m ∷ ms) = takes_away m

module _ (work : Work) (lay : Layout work) where
  abbrev layout : Shape
  layout = work.layout

  abbrev NodesHold : (ℕ → NodeMemory) → Rest → (ℕ → ℕ) → Type 0
  NodesHold locals rest memory = Holds layout (world_of layout locals rest) memory

  abbrev pub FitsHere : NodeMemory → Type 0
  FitsHere n = Fits lay.laws layout lay.valid lay.some work.program n.state

  abbrev Starts : (ℕ → Contents) → Type 0
  Starts first = AreContentsOf layout work.program.first first

  -- the world keeps to the protocol, by a list that starts with the program's bytes; each line's
  -- state byte is its block's, and what was wanted and taken is counted
  pub record Held (locals : ℕ → NodeMemory) (rest : Rest) (memory : ℕ → ℕ) : Type 0 where
    pub holds : NodesHold locals rest memory
    pub fits : (i : ℕ) → i < layout.nodes → FitsHere (locals i)
    pub counted : AreCounted layout holds.first holds.events rest.counts
    pub starts : Starts holds.first

  -- 1. Classes and blocks

  block_found : (line : ℕ) → work.program.class line ≡ Shared
      → (b : ℕ) × (block_of layout line ≡ Some b)
  block_found line shared =
      go (block_of layout line) refl ((lay.laws.shared layout line).0 ((lay.over line).0 shared))
    where
      go : (o : Option ℕ) → block_of layout line ≡ o → IsSome (block_of layout line)
          → (b : ℕ) × (block_of layout line ≡ Some b)
      go (Some b) e some = (b, e)
      go None e some = let bad : false ≡ true = sym (ap is_some e) ∙ some in cc

  is_shared_line : (line b : ℕ) → block_of layout line ≡ Some b → work.program.class line ≡ Shared
  is_shared_line line b e = (lay.over line).1 ((lay.laws.shared layout line).1 (ap is_some e))

  pub laid_out : AreLaidOut layout work
  laid_out = record {
    shared = is_shared_line;
    found = block_found;
    within = λ line b e. (lay.laws.found layout b line lay.valid e).1;
    whole = λ x y b e h. lay.laws.has layout b y lay.valid
        (block_below lay.laws layout lay.valid lay.some x b e) h;
  }

  -- 2. What holds

  module _ (locals : ℕ → NodeMemory) (rest : Rest) (memory : ℕ → ℕ) (h : Held locals rest memory) where
    abbrev w : World
    w = world_of layout locals rest

    -- a copy's byte is its block's
    copy_byte : (i a b : ℕ) → block_of layout (line_of a) ≡ Some b
        → get_or (w.bytes i b) (a - address_of layout b) 0 ≡ (locals i).copy a
    copy_byte i a b e = byte_of_block lay.laws layout lay.valid (locals i).copy a b e

    pub coherent : (i : ℕ) → i < layout.nodes → (a : ℕ) → class_at work.program a ≡ Shared
        → is_readable_state ((locals i).state (line_of a)) ≡ true → (locals i).copy a ≡ memory a
    coherent i low a shared readable =
        let found = block_found (line_of a) shared in
        sym (copy_byte i a found.0 found.1)
        ∙ world.coherent lay.laws layout lay.valid lay.laid w memory h.holds i a found.0 low found.1
        (sym (readable_line lay.laws layout lay.valid lay.some work.program (locals i).state
        (h.fits i low) (line_of a) found.0 found.1) ∙ readable)

    pub alone : IsAlone layout work locals
    alone i j low_i low_j x y b at_x at_y writable readable =
        world.alone lay.laws layout lay.valid lay.laid w memory h.holds i j b low_i low_j
        (block_below lay.laws layout lay.valid lay.some (line_of x) b at_x)
        (sym (writable_line lay.laws layout lay.valid lay.some work.program (locals i).state
        (h.fits i low_i) (line_of x) b at_x) ∙ writable)
        (sym (readable_line lay.laws layout lay.valid lay.some work.program (locals j).state
        (h.fits j low_j) (line_of y) b at_y) ∙ readable)

    module _ (i : ℕ) (low : i < layout.nodes) where
      state_fits : (line : ℕ) → StateFits (work.program.class line) ((locals i).state line)
      state_fits line = go (block_of layout line) refl
        where
          by : (b : ℕ) → block_of layout line ≡ Some b → StateFits Shared ((locals i).state line)
          by b e = fits_state ((locals i).state line) (w.state i b) ((h.fits i low).block line b e)

          go : (o : Option ℕ) → block_of layout line ≡ o
              → StateFits (work.program.class line) ((locals i).state line)
          go (Some b) e =
              subst (λ c. StateFits c ((locals i).state line)) (sym (is_shared_line line b e))
              (by b e)
          go None e = subst (StateFits (work.program.class line))
              (sym ((h.fits i low).alone line e)) (first_fits (work.program.class line) false)

      -- the bytes of a block that isn't readable
      flagged_byte : (a b : ℕ) → block_of layout (line_of a) ≡ Some b
          → is_readable_state ((locals i).state (line_of a)) ≡ false
          → (locals i).copy a ≡ flag_byte a
      flagged_byte a b e unreadable =
          let below = block_below lay.laws layout lay.valid lay.some (line_of a) b e in
          let within = (lay.laws.ends layout b (line_of a)).0
          (line_in lay.laws layout lay.valid lay.some (line_of a) b e) in
          let first = within.0 in
          let last = within.1 in
          let k = a - address_of layout b in
          let flags_are = world.flagged lay.laws layout lay.valid lay.laid w memory h.holds i b low
          below (sym (readable_line lay.laws layout lay.valid lay.some work.program (locals i).state
          (h.fits i low) (line_of a) b e) ∙ unreadable) in
          sym (copy_byte i a b e) ∙ ap (λ xs. get_or xs k 0) flags_are
          ∙ flag_at (size layout b) k (omega (arith, first, last)) ∙ ap (λ z. cond (eqb z 0) 3 255)
          (let z : k % 4 ≡ a % 4 = omega (arith, first) in z)

      pub flagged : (a : ℕ) → class_at work.program a ≡ Shared
          → is_readable_state ((locals i).state (line_of a)) ≡ false
          → (locals i).copy a ≡ flag_byte a
      flagged a shared unreadable =
          let found = block_found (line_of a) shared in
          flagged_byte a found.0 found.1 unreadable

      pub suits : Suits work.program (locals i)
      suits = record {
        states = state_fits;
        flagged = λ a shared four unreadable.
            let found = block_found (line_of a) shared in
            let al : is_aligned Word a ≡ true = grind (arith, nat_tests) in
            load_same WordLoad (locals i).copy flag_byte a al
            (λ y same. flagged_byte y found.0 (ap (block_of layout) same ∙ found.1)
            (ap (λ z. is_readable_state ((locals i).state z)) same ∙ unreadable))
            ∙ extend_word (raw Word flag_byte a) ∙ flag_bytes a four;
      }

      -- 3. A store

      pub stores : (x : Width) (a v : ℕ) → is_aligned x a ≡ true → class_at work.program a ≡ Shared
          → is_writable_state ((locals i).state (line_of a)) ≡ true
          → Held (with_local locals i (record (locals i) { copy = stored x (locals i).copy a v }))
          rest (stored x memory a v)
      stores x a v aligned shared writable =
          let found = block_found (line_of a) shared in
          let b = found.0 in
          let new : NodeMemory = record (locals i) { copy = stored x (locals i).copy a v } in
          let can : can_write (w.state i b) ≡ true =
          sym (writable_line lay.laws layout lay.valid lay.some work.program (locals i).state
          (h.fits i low) (line_of a) b found.1) ∙ writable in
          record {
            holds = by_list (world.like lay.laws layout lay.valid lay.laid _ _ (stored x memory a v)
                (store_alike lay.laws layout lay.valid lay.some locals rest i b x a v aligned
                found.1)
                (by_list (world.stores lay.laws layout lay.valid lay.laid w memory h.holds i b x a v
                low aligned found.1 can)));
            fits = λ j lj. (elim (eqb j i) as
                (λ t. eqb j i ≡ t → FitsHere (cond t new (locals j))) [
                  | true ↦ (λ e. h.fits i low)
                  | false ↦ (λ e. h.fits j lj)
                ]) refl;
            counted = store_counted layout h.holds.first h.holds.events rest.counts i b
                (store_in layout x a v b) h.counted;
            starts = h.starts;
          }

      -- 4. A want

      few_pending : (ws : List Want) → length ws < most_waits layout.nodes
          → ((c : ℕ) → wanted (rest.wait i c) ≡ wanted_in layout c ws)
          → pending layout w i < most_waits layout.nodes
      few_pending ws few waits =
          let h = wanted_few layout ws in
          let same : pending layout w i
          ≡ count_of (λ b. is_some (wanted_in layout b ws)) (blocks layout) =
          count_alike (λ b. is_some (rest.wait i b)) (λ b. is_some (wanted_in layout b ws))
          (blocks layout) (λ b lb. is_waiting (rest.wait i b) ∙ ap is_some (waits b)) in
          omega (arith, h, same, few)

      want_leaves : (b : ℕ) (need : Need) (miss : Miss) → b < blocks layout
          → (holds : Holds layout (after_miss w i b miss) memory) → Starts holds.first
          → AreCounted layout holds.first holds.events
          (asks_more (wanted miss.block.wait) rest.counts)
          → AfterWant i b need w (after_miss w i b miss)
          → WantLeaves layout work (directory layout) Held locals rest memory i b need
          (missed layout (locals i) rest i b (Some miss))
      want_leaves b need miss below holds starts counted left =
          let t = missed layout (locals i) rest i b (Some miss) in
          let s = miss.block.state in
          let fits = fits_put lay.laws layout lay.valid lay.some work.program b s (locals i).state
          below (h.fits i low) in
          record {
            held = record {
              holds = by_list (world.like lay.laws layout lay.valid lay.laid _ _ memory
                  (miss_alike lay.laws layout lay.valid lay.some locals rest i b miss below) holds);
              fits = λ j lj. (elim (eqb j i) as (λ u. FitsHere (cond u t.local (locals j))) [
                | true ↦ fits
                | false ↦ h.fits j lj
              ]);
              counted = counted;
              starts = starts;
            };
            own = left.own;
            others = λ x c e. ap wanted (left.waits x c (λ p q.
                let both : (eqb x i && eqb c b) ≡ true = grind (arith, nat_tests) in
                let bad : false ≡ true = sym e ∙ both in cc));
            reservation = refl;
            reads = λ line readable. reads_still line (has_line layout b line) refl readable;
            elsewhere = λ line c e other.
                ap (λ u. cond u (byte_of s) ((locals i).state line))
                (line_of_other lay.laws layout lay.valid lay.some line c b e below ∙ other);
          }
        where
          reads_still : (line : ℕ) (u : Bool) → has_line layout b line ≡ u
              → is_readable_state ((locals i).state line) ≡ true
              → is_readable_state (cond u (byte_of miss.block.state) ((locals i).state line)) ≡ true
          reads_still line false e readable = readable
          reads_still line true e readable =
              let at = lay.laws.has layout b line lay.valid below e in
              readable_byte miss.block.state
              ∙ ap can_read (sym (place_own w.state i b miss.block.state))
              ∙ left.reads b (sym (readable_line lay.laws layout lay.valid lay.some work.program
              (locals i).state (h.fits i low) line b at) ∙ readable)

      pub wants : (a b : ℕ) (need : Need) → block_of layout (line_of a) ≡ Some b → (ws : List Want)
          → length ws < most_waits layout.nodes
          → ((c : ℕ) → wanted (rest.wait i c) ≡ wanted_in layout c ws)
          → wanted_in layout b ws ≡ None → grants need ((locals i).state (line_of a)) ≡ false
          → WantLeaves layout work (directory layout) Held locals rest memory i b need
          (missed layout (locals i) rest i b (miss_in layout w i b need))
      wants a b need at ws few waits free unmet =
          let below = block_below lay.laws layout lay.valid lay.some (line_of a) b at in
          let got = world.wants lay.laws layout lay.valid lay.laid w memory h.holds i b need
          (empty_buffer 4096) low below (not_waiting (rest.wait i b) (waits b ∙ free))
          (few_pending ws few waits)
          (sym (grants_line lay.laws layout lay.valid lay.some work.program (locals i).state
          (h.fits i low) (line_of a) b need at) ∙ unmet) (omega arith) in
          subst (λ o. WantLeaves layout work (directory layout) Held locals rest memory i b need
          (missed layout (locals i) rest i b o)) (sym got.1)
          (want_leaves b need got.0 below (by_list got.2) h.starts
          (subst (λ o. AreCounted layout h.holds.first
          (h.holds.events ++ WantsBlock i b (need_of need) ∷ []) (asks_more o rest.counts))
          (sym (ap wanted (sym (place_own w.wait i b got.0.block.wait)) ∙ got.3.own))
          (want_counted layout h.holds.first lay.laid.some h.holds.events rest.counts i b
          need h.counted got.4)) got.3)

      -- what may be written may still be written, where that holds of the block
      writes_kept : (b : ℕ) (state : State) → b < blocks layout
          → (can_write (w.state i b) ≡ true → can_write state ≡ true) → (line : ℕ)
          → is_writable_state ((locals i).state line) ≡ true
          → is_writable_state (with_state layout b state (locals i).state line) ≡ true
      writes_kept b state below keeps line writable = go (has_line layout b line) refl
        where
          go : (u : Bool) → has_line layout b line ≡ u
              → is_writable_state (cond u (byte_of state) ((locals i).state line)) ≡ true
          go false e = writable
          go true e =
              let at = lay.laws.has layout b line lay.valid below e in
              writable_byte state ∙ keeps
              (sym (writable_line lay.laws layout lay.valid lay.some work.program (locals i).state
              (h.fits i low) line b at) ∙ writable)

      pub want_writes : (a b : ℕ) (need : Need) → block_of layout (line_of a) ≡ Some b
          → (ws : List Want) → length ws < most_waits layout.nodes
          → ((c : ℕ) → wanted (rest.wait i c) ≡ wanted_in layout c ws)
          → wanted_in layout b ws ≡ None → grants need ((locals i).state (line_of a)) ≡ false
          → (line : ℕ) → is_writable_state ((locals i).state line) ≡ true
          → is_writable_state
          ((missed layout (locals i) rest i b (miss_in layout w i b need)).local.state line) ≡ true
      want_writes a b need at ws few waits free unmet line writable =
          let below = block_below lay.laws layout lay.valid lay.some (line_of a) b at in
          let got = world.wants lay.laws layout lay.valid lay.laid w memory h.holds i b need
          (empty_buffer 4096) low below (not_waiting (rest.wait i b) (waits b ∙ free))
          (few_pending ws few waits)
          (sym (grants_line lay.laws layout lay.valid lay.some work.program (locals i).state
          (h.fits i low) (line_of a) b need at) ∙ unmet) (omega arith) in
          subst (λ o. is_writable_state ((missed layout (locals i) rest i b o).local.state line)
          ≡ true) (sym got.1) (writes_kept b got.0.block.state below (λ can.
          ap can_write (sym (place_own w.state i b got.0.block.state)) ∙ got.3.writes b can) line
          writable)

      -- 5. A message

      module _ (j : ℕ) (lj : j < layout.nodes) (m : Message) (ms : List Message)
          (front : rest.list j i ≡ m ∷ ms) where
        abbrev Leaves : Option Order → Handled Rest → Type 0
        Leaves order t = TakeLeaves layout work (directory layout) Held locals rest memory i order t

        -- a Bye
        bye_leaves : (o : Option ℕ) → o ≡ None → is_bye m ≡ true
            → Leaves (order_by o None) (took layout (locals i) rest i j ms None)
        bye_leaves (Some r) e bye = let bad : Some r ≡ None = e in cc
        bye_leaves None e bye =
            let t = took layout (locals i) rest i j ms None in
            record {
              held = record {
                holds = by_list (world.like lay.laws layout lay.valid lay.laid _ _ memory
                    (bye_alike lay.laws layout lay.valid lay.some locals rest i j ms)
                    (by_list (world.takes_bye lay.laws layout lay.valid lay.laid w memory h.holds i
                    j m ms front bye)));
                fits = λ x lx. (elim (eqb x i) as (λ u. FitsHere (cond u (locals i) (locals x))) [
                  | true ↦ h.fits i low
                  | false ↦ h.fits x lx
                ]);
                counted = h.counted;
                starts = h.starts;
              };
              own = λ c. inl refl;
              granted = λ a b need at was gone.
                  let bad : Some need ≡ None = sym was ∙ gone in cc;
              reservation = refl;
              reads = λ line shared readable. inl readable;
              lies = λ x is. let bad : None ≡ Some x = is in cc;
              requester = λ x is. let bad : None ≡ Some x = is in cc;
              others = λ x c other. refl;
            }

        -- another message, by its row
        module _ (row : Row) (holds : Holds layout (after_row w j i ms row) memory)
            (starts : Starts holds.first)
            (counted : AreCounted layout holds.first holds.events
            (takes_more (length (sends_in row)) rest.counts))
            (left : AfterTake layout i m row w (after_row w j i ms row))
          where
            abbrev t : Handled Rest
            t = took layout (locals i) rest i j ms (Some row)

            abbrev order : Option Order
            order = order_by (taker_in m) (Some row)

            abbrev new : World
            new = after_row w j i ms row

            full : (r : Row) → r ≡ row → IsFull lay.laws layout lay.valid lay.some locals rest i r
            full (AtHome b r) is = tt
            full (AtNode b r) is =
                let below : b < blocks layout = subst (λ z. block_in z < blocks layout) (sym is)
                left.block in (
                  below,
                  ap length (sym (place_own w.bytes i b r.block.bytes))
                      ∙ ap (λ z. length ((after_row w j i ms z).bytes i b)) is
                      ∙ holds.by.sound.bytes i b low below,
                )

            alike : Alike layout new (world_of layout (with_local locals i t.local) t.rest)
            alike =
                row_alike lay.laws layout lay.valid lay.some locals rest i j ms row (full row refl)

            fits : (r : Row) → r ≡ row
                → FitsHere (took layout (locals i) rest i j ms (Some r)).local
            fits (AtHome b r) is = h.fits i low
            fits (AtNode b r) is =
                fits_put lay.laws layout lay.valid lay.some work.program b r.block.state
                (locals i).state (subst (λ z. block_in z < blocks layout) (sym is) left.block)
                (h.fits i low)

            -- a block's state then
            state_then : (d : ℕ) → d < blocks layout
                → state_with (t.local.state (first_line layout d)) ≡ new.state i d
            state_then d ld =
                ap (λ (n : NodeMemory). state_with (n.state (first_line layout d)))
                (sym (local_here locals i t.local)) ∙ alike.state i d low ld

            readable_then : (line d : ℕ) → block_of layout line ≡ Some d
                → can_read (new.state i d) ≡ true → is_readable_state (t.local.state line) ≡ true
            readable_then line d at can =
                readable_line lay.laws layout lay.valid lay.some work.program t.local.state
                (fits row refl) line d at ∙ ap can_read (state_then d
                (block_below lay.laws layout lay.valid lay.some line d at)) ∙ can

            wait_then : (r : Row) → r ≡ row → (x c : ℕ)
                → (took layout (locals i) rest i j ms (Some r)).rest.wait x c
                ≡ (after_row w j i ms r).wait x c
            wait_then (AtHome b r) is x c = refl
            wait_then (AtNode b r) is x c = refl

            -- what is ordered
            ordered : (k : ℕ) → taker_in m ≡ Some k → clears row ≡ true
                → order ≡ Some (record { block = block_in row; requester = k })
            ordered k is c =
                ap (λ o. order_by o (Some row)) is
                ∙ ap (λ u. cond u (Some (record { block = block_in row; requester = k })) None) c

            is_ordered : (x : Order) → order ≡ Some x
                → (clears row ≡ true) × (x.block ≡ block_in row) × (taker_in m ≡ Some x.requester)
            is_ordered x e = by (taker_in m) refl (clears row) refl
              where
                by : (o : Option ℕ) → taker_in m ≡ o → (u : Bool) → clears row ≡ u
                    → (clears row ≡ true) × (x.block ≡ block_in row)
                    × (taker_in m ≡ Some x.requester)
                by None is u c =
                    let bad : None ≡ Some x = ap (λ o. order_by o (Some row)) (sym is) ∙ e in cc
                by (Some k) is false c =
                    let bad : None ≡ Some x =
                    sym (ap (λ o. order_by o (Some row)) is
                    ∙ ap (λ u. cond u (Some (record { block = block_in row; requester = k })) None)
                    c) ∙ e in cc
                by (Some k) is true c =
                    let same : Some (record { block = block_in row; requester = k }) ≡ Some x =
                    sym (ordered k is c) ∙ e in
                    (c, ap block_ordered (sym same), is ∙ ap taker_ordered same)

            no_order : (o : Option ℕ) → clears row ≡ false → order_by o (Some row) ≡ None
            no_order None c = refl
            no_order (Some k) c =
                ap (λ u. cond u (Some (record { block = block_in row; requester = k })) None) c

            reservation_then : (r : Row) → r ≡ row
                → (took layout (locals i) rest i j ms (Some r)).local.reservation
                ≡ cleared_by layout order (locals i).reservation
            reservation_then (AtHome b r) is =
                sym (ap (λ o. cleared_by layout o (locals i).reservation) (no_order (taker_in m)
                (ap clears (sym is))))
            reservation_then (AtNode b r) is = by r.clears refl
              where
                by : (u : Bool) → r.clears ≡ u
                    → cond r.clears (cleared layout b (locals i).reservation) (locals i).reservation
                    ≡ cleared_by layout order (locals i).reservation
                by false c =
                    ap (λ u. cond u (cleared layout b (locals i).reservation)
                    (locals i).reservation) c
                    ∙ sym (ap (λ o. cleared_by layout o (locals i).reservation)
                    (no_order (taker_in m) (ap clears (sym is) ∙ c)))
                by true c =
                    let gives : clears row ≡ true = ap clears (sym is) ∙ c in
                    let r = left.taker gives in
                    ap (λ u. cond u (cleared layout b (locals i).reservation)
                    (locals i).reservation) c
                    ∙ ap (λ z. cleared layout (block_in z) (locals i).reservation) is
                    ∙ sym (ap (λ o. cleared_by layout o (locals i).reservation)
                    (ordered r.0 r.1 gives))

            then_counted : (r : Row) → r ≡ row → AreCounted layout holds.first holds.events
                (took layout (locals i) rest i j ms (Some r)).rest.counts
            then_counted (AtHome b r) is =
                subst (λ z. AreCounted layout holds.first holds.events
                (takes_more (length (sends_in z)) rest.counts)) (sym is) counted
            then_counted (AtNode b r) is =
                subst (λ z. AreCounted layout holds.first holds.events
                (takes_more (length (sends_in z)) rest.counts)) (sym is) counted

            row_leaves : Leaves order t
            row_leaves = record {
              held = record {
                holds = by_list
                    (world.like lay.laws layout lay.valid lay.laid _ _ memory alike holds);
                fits = λ x lx. (elim (eqb x i) as (λ u. FitsHere (cond u t.local (locals x))) [
                  | true ↦ fits row refl
                  | false ↦ h.fits x lx
                ]);
                counted = then_counted row refl;
                starts = starts;
              };
              own = λ c. elim (left.own c) [
                | inl e ↦ inl (ap wanted (wait_then row refl i c) ∙ e)
                | inr e ↦ inr (ap wanted (wait_then row refl i c ∙ e))
              ];
              granted = λ a b need at was gone.
                  let below = block_below lay.laws layout lay.valid lay.some (line_of a) b at in
                  grants_line lay.laws layout lay.valid lay.some work.program t.local.state
                  (fits row refl) (line_of a) b need at ∙ ap (meets need) (state_then b below)
                  ∙ left.grants b need was
                  (sym (wait_then row refl i b) ∙ not_waiting (t.rest.wait i b) gone);
              reservation = reservation_then row refl;
              reads = λ line shared readable.
                  let found = block_found line shared in
                  elim (left.reads found.0
                  (sym (readable_line lay.laws layout lay.valid lay.some work.program
                  (locals i).state (h.fits i low) line found.0 found.1) ∙ readable)) [
                    | inl e ↦ inl (readable_then line found.0 found.1 e)
                    | inr e ↦ (let r = left.taker e.0 in inr (
                      record { block = block_in row; requester = r.0 },
                      ordered r.0 r.1 e.0,
                      ap (λ b. has_line layout b line) (sym e.1)
                          ∙ line_in lay.laws layout lay.valid lay.some line found.0 found.1,
                    ))
                  ];
              lies = λ x is line within.
                  let o = is_ordered x is in
                  lay.laws.has layout (block_in row) line lay.valid left.block
                  (ap (λ b. has_line layout b line) (sym o.1) ∙ within)
                  ∙ ap (λ b. Some b) (sym o.1);
              requester = λ x is.
                  let o = is_ordered x is in
                  let r = left.taker o.0 in
                  let same : Some r.0 ≡ Some x.requester = sym r.1 ∙ o.2 in
                  let who : r.0 ≡ x.requester = cc in (
                    subst (λ z. z < layout.nodes) who r.2,
                    never_same (eqb i x.requester)
                        (λ e. r.3 (who ∙ sym (is_same i x.requester e))),
                    ap (λ z. wanted (rest.wait z x.block)) (sym who)
                        ∙ ap (λ z. wanted (rest.wait r.0 z)) o.1 ∙ r.4,
                  );
              others = λ x c other.
                  ap wanted (wait_then row refl x c ∙ left.waits x c (λ p.
                  let same : eqb x i ≡ true = grind (arith, nat_tests) in
                  let bad : false ≡ true = sym other ∙ same in cc));
            }

        -- the first message of the list
        message_leaves : (u : Bool) → is_bye m ≡ u
            → Leaves (order_from layout locals rest i j (m ∷ ms))
            (take_from layout locals rest i j (m ∷ ms))
        message_leaves false plain =
            let got = world.takes lay.laws layout lay.valid lay.laid w memory h.holds i j m ms low
            lj front plain in
            subst (λ o. Leaves (order_by (taker_in m) o) (took layout (locals i) rest i j ms o))
            (sym got.1) (row_leaves got.0 (by_list got.2) h.starts
            (take_counted layout h.holds.first h.holds.events rest.counts i j ms
            (sends_in got.0) got.4 h.counted) got.3)
        message_leaves true bye =
            let none : row_of layout w i j m ≡ None = bye_row layout w i j m bye in
            subst (λ o. Leaves (order_by (taker_in m) o) (took layout (locals i) rest i j ms o))
            (sym none) (bye_leaves (taker_in m) (bye_taker m bye) bye)

      -- a message that takes nothing away orders nothing, and what may be written may still be
      pub calm : (j : ℕ) → j < layout.nodes → lowers_first (rest.list j i) ≡ false
          → (order_from layout locals rest i j (rest.list j i) ≡ None)
          × ((line : ℕ) → is_writable_state ((locals i).state line) ≡ true
          → is_writable_state ((take_from layout locals rest i j (rest.list j i)).local.state line)
          ≡ true)
      calm j lj silent = go (rest.list j i) refl silent
        where
          silent_taker : (m : Message) → takes_away m ≡ false → taker_in m ≡ None
          silent_taker (message.Read b buf) e = refl
          silent_taker (message.Write b buf) e = refl
          silent_taker (message.FwdRead b r buf) e = let bad : true ≡ false = e in cc
          silent_taker (message.FwdWrite b r k buf) e = let bad : true ≡ false = e in cc
          silent_taker (message.Inval b r) e = let bad : true ≡ false = e in cc
          silent_taker (message.Data b k buf) e = refl
          silent_taker (message.Grant b k buf) e = refl
          silent_taker (message.Ack b) e = refl
          silent_taker (message.Done b) e = refl
          silent_taker message.Bye e = refl

          by_row : (m : Message) (ms : List Message) (row : Row)
              → AfterTake layout i m row w (after_row w j i ms row) → takes_away m ≡ false
              → (line : ℕ) → is_writable_state ((locals i).state line) ≡ true
              → is_writable_state ((took layout (locals i) rest i j ms (Some row)).local.state line)
              ≡ true
          by_row m ms (AtHome b row) left e line writable = writable
          by_row m ms (AtNode b row) left e line writable =
              writes_kept b row.block.state left.block (λ can. elim (left.writes b can) [
                | inl f ↦ ap can_write (sym (place_own w.state i b row.block.state)) ∙ f
                | inr f ↦ (let bad : false ≡ true = sym e ∙ f in cc)
              ]) line writable

          by_bye : (m : Message) (ms : List Message) → rest.list j i ≡ m ∷ ms
              → takes_away m ≡ false → (u : Bool) → is_bye m ≡ u → (line : ℕ)
              → is_writable_state ((locals i).state line) ≡ true
              → is_writable_state ((take_from layout locals rest i j (m ∷ ms)).local.state line)
              ≡ true
          by_bye m ms front e true bye line writable =
              subst (λ o. is_writable_state
              ((took layout (locals i) rest i j ms o).local.state line) ≡ true)
              (sym (bye_row layout w i j m bye)) writable
          by_bye m ms front e false plain line writable =
              let got = world.takes lay.laws layout lay.valid lay.laid w memory h.holds i j m ms low
              lj front plain in
              subst (λ o. is_writable_state
              ((took layout (locals i) rest i j ms o).local.state line) ≡ true) (sym got.1)
              (by_row m ms got.0 got.3 e line writable)

          go : (xs : List Message) → rest.list j i ≡ xs → lowers_first xs ≡ false
              → (order_from layout locals rest i j xs ≡ None)
              × ((line : ℕ) → is_writable_state ((locals i).state line) ≡ true
              → is_writable_state ((take_from layout locals rest i j xs).local.state line) ≡ true)
          go [] e silent = (refl, λ line writable. writable)
          go (m ∷ ms) e silent = (
            ap (λ o. order_by o (row_of layout w i j m)) (silent_taker m silent),
            by_bye m ms e silent (is_bye m) refl,
          )

      pub takes : (j : ℕ) → j < layout.nodes → is_some_list layout (rest.list j i) ≡ true
          → TakeLeaves layout work (directory layout) Held locals rest memory i
          (order_from layout locals rest i j (rest.list j i))
          (take_from layout locals rest i j (rest.list j i))
      takes j lj has = go (rest.list j i) refl has
        where
          go : (xs : List Message) → rest.list j i ≡ xs → is_some_list layout xs ≡ true
              → TakeLeaves layout work (directory layout) Held locals rest memory i
              (order_from layout locals rest i j xs) (take_from layout locals rest i j xs)
          go [] e has = let bad : false ≡ true = has in cc
          go (m ∷ ms) e has = message_leaves j lj m ms e (is_bye m) refl

  -- 6. The side

  pub like : (locals others : ℕ → NodeMemory) (rest : Rest) (memory : ℕ → ℕ)
      → ((i : ℕ) → (locals i).copy ≡ (others i).copy)
      → ((i : ℕ) → (locals i).state ≡ (others i).state) → Held locals rest memory
      → Held others rest memory
  like locals others rest memory copies states h = record {
    holds = by_list (world.like lay.laws layout lay.valid lay.laid (world_of layout locals rest)
        (world_of layout others rest) memory
        (same_alike lay.laws layout lay.valid lay.some locals others rest copies states) h.holds);
    fits = λ i low. subst (λ f. Fits lay.laws layout lay.valid lay.some work.program f) (states i)
        (h.fits i low);
    counted = h.counted;
    starts = h.starts;
  }

  abbrev pub directory_side : ProtocolSide layout work (directory layout)
  directory_side = record {
    Holds = Held;
    suits = λ locals rest memory h i low. suits locals rest memory h i low;
    coherent = λ locals rest memory h i low a shared readable.
        coherent locals rest memory h i low a shared readable;
    alone = λ locals rest memory h. alone locals rest memory h;
    like = like;
    stores = λ locals rest memory h i low x a v aligned shared writable.
        stores locals rest memory h i low x a v aligned shared writable;
    wants = λ locals rest memory h i low a b need at ws few waits free unmet.
        wants locals rest memory h i low a b need at ws
        (two_of_most layout.nodes (length ws) few) waits free unmet;
    takes = λ locals rest memory h i j low lj has. takes locals rest memory h i low j lj has;
  }
