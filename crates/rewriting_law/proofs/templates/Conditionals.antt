-- A conditional store, behind the word that comes before it.
use Rattle.std.proofs.Common.{◌≡◌, ℕ, ◌+◌, Bool, true, false, [], Some, None, refl, sym, ap, ◌∙◌, subst, inr, arith, lit<}
use Rattle.std.specs.Prelude.{pos, ◌&&◌, not}
use Rattle.rewriting_law.proofs.Names.{Instr, Sc, Word, is_aligned, stored, holds, Shared, Misaligned, Program, IsAccepted, class_at, is_mapped, is_writable, line_of, uses, passes, offset_address, reg, private_after, StoresIf, Processor, StoresWhere, WritesIf, exit_of_demand, request, request_unless, after_conditional, next_pc, Native, Prepare, Never, Always, committing, conditional_sequence, Write, ProcessorState, NodeMemory, WordOutcome, Next, Waits, PastWord, Region, Memory, only_moves, is_fixed_state, is_writable_state, region_of, store, store_if, prepare, native, execute}
use Rattle.rv32_program.specs.declared.Exit.TheVariants.{Access as NoAccess}
use Rattle.dsm_protocol.specs.node_model.Node.{set_register}
use Rattle.rewriting_law.proofs.templates.RegisterLemmas.{put_both}
use Rattle.rewriting_law.proofs.templates.States.{Suits, WriteLook, Fixed, Writable, Unwritable, write_look}
use Rattle.rewriting_law.proofs.templates.Does.{OfPlace, AtHead, Rest, lane_at, StandsToStore, Commits, CommitsConditional, Leads, FirstLeads, Does}
use Rattle.rewriting_law.proofs.templates.Mids.{the_only, head_at}
use Rattle.rewriting_law.proofs.templates.Checked.{asks, memory_at, low_if_mapped, next_is, leaves, refused, stands_to_store}

-- a conditional store in a region
abbrev store_in : Program → ProcessorState → NodeMemory → ℕ → ℕ → ℕ → Region → Bool → WordOutcome
store_in program l n r a value region true = record (store program l n Word a value region) {
  lane = set_register (store program l n Word a value region).lane r 0;
  local = record (store program l n Word a value region).local { reservation = None };
  access = WritesIf a value true;
}
store_in program l n r a value region false = store_if program l n r a value false

in_region : (program : Program) (l : ProcessorState) (n : NodeMemory) (r a value : ℕ) (b : Bool)
    → store_if program l n r a value b ≡ store_in program l n r a value (region_of a) b
in_region program l n r a value true = refl
in_region program l n r a value false = refl

module _ (program : Program) (accepted : IsAccepted program) (a : ℕ) (q : Processor)
    (rd rs1 rs2 : ℕ) (aq rl : Bool) (c : program.code a ≡ Some (Sc rd rs1 rs2 aq rl)) where
  abbrev sc : Instr
  sc = Sc rd rs1 rs2 aq rl

  abbrev address : ℕ
  address = offset_address (reg q.registers rs1) (pos 0)

  abbrev value : ℕ
  value = reg q.registers rs2

  same_address : (l : ProcessorState) → AtHead program a q l → reg l.registers rs1 ≡ reg q.registers rs1
  same_address l head = head.agree rs1 (uses sc c (inr (0, lit< tt, refl)))

  same_value : (l : ProcessorState) → AtHead program a q l → reg l.registers rs2 ≡ value
  same_value l head = head.agree rs2 (uses sc c (inr (1, lit< tt, refl)))

  module _ (n : NodeMemory) where
    -- the node stands behind the conditional store
    behind : (at : ℕ) (l : ProcessorState) (b : Bool) → AtHead program a q l → (j x y : ℕ)
        → Does program OfPlace a j at [] 0 (after_conditional program q rd address value b)
        (lane_at x y (store_in program l n rd address value Memory b).lane)
        (store_in program l n rd address value Memory b).local
    behind at l true head j x y = (
      (sc, c),
      record {
        place = next_is program accepted a q sc head.place c;
        running = head.running;
        agree = λ r live. put_both l.registers q.registers rd 0 r
            (λ ne. head.agree r (passes sc (a + 4) c (λ d. ne (cc)) refl live));
        private = ap (λ z. private_after (class_at program address) z (stored Word z address
            value)) head.private;
        written = head.written;
      },
    )
    behind at l false head j x y = (
      (sc, c),
      record {
        place = next_is program accepted a q sc head.place c;
        running = head.running;
        agree = λ r live. put_both l.registers q.registers rd 1 r
            (λ ne. head.agree r (passes sc (a + 4) c (λ d. ne (cc)) refl live));
        private = head.private;
        written = head.written;
      },
    )

    leads : (j at : ℕ) (l : ProcessorState) (b : Bool)
        → (b ≡ true → is_writable_state (n.state (line_of address)) ≡ true) → AtHead program a q l
        → request program q ≡ StoresWhere rd address value → holds n.reservation address ≡ b
        → Leads program OfPlace a j at (λ z. Does program OfPlace a (j + 1) (next_pc at) [] z) q n
        (store_in program l n rd address value Memory b) Always
        (store_in program l n rd address value Memory b).move
    leads j at l true licence head ask is =
        let r = store_in program l n rd address value Memory true in
        let K : Processor → Type 0 =
        λ (p : Processor). (x y : ℕ) → Does program OfPlace a (j + 1) (next_pc at) [] 0 p
        (lane_at x y r.lane) r.local in (
          head.place,
          licence,
          subst (Commits program K q n (store_in program l n rd address value Memory true)) (sym
              ask) (subst (CommitsConditional program K q n (store_in program l n rd address value
              Memory true) rd address value) (sym is)
              (refl, refl, refl, λ x y. behind (next_pc at) l true head (j + 1) x y)),
        )
    leads j at l false licence head ask is =
        let r = store_in program l n rd address value Memory false in
        let K : Processor → Type 0 =
        λ (p : Processor). (x y : ℕ) → Does program OfPlace a (j + 1) (next_pc at) [] 0 p
        (lane_at x y r.lane) r.local in (
          head.place,
          licence,
          subst (Commits program K q n (store_in program l n rd address value Memory false)) (sym
              ask) (subst (CommitsConditional program K q n (store_in program l n rd address value
              Memory false) rd address value) (sym is)
              (refl, refl, refl, λ x y. behind (next_pc at) l false head (j + 1) x y)),
        )

    sc_word : (j at : ℕ) (l : ProcessorState) → (holds n.reservation address ≡ true
        → is_writable_state (n.state (line_of address)) ≡ true)
        → is_writable (class_at program address) ≡ true
        → is_mapped (class_at program address) ≡ true → AtHead program a q l
        → FirstLeads program OfPlace a j at (Does program OfPlace a (j + 1) (next_pc at) [])
        (committing (Native sc) []) q l n
    sc_word j at l licence writable mapped head = go (is_aligned Word address) refl
      where
        K : Rest
        K = λ z. Does program OfPlace a (j + 1) (next_pc at) [] z

        acts : execute program a at (Native sc) l n ≡ native program a at l n (StoresIf rd address
            value)
        acts = ap (λ z. native program a at l n (StoresIf rd (offset_address z (pos 0)) (reg
            l.registers rs2))) (same_address l head)
            ∙ ap (λ z. native program a at l n (StoresIf rd address z)) (same_value l head)

        go : (b : Bool) → is_aligned Word address ≡ b
            → FirstLeads program OfPlace a j at (Does program OfPlace a (j + 1) (next_pc at) [])
            (committing (Native sc) []) q l n
        go false f = leaves program accepted OfPlace a j at K q l n
            (execute program a at (Native sc) l n) Always
            (Misaligned a) (acts ∙ rw f refl) head.place (refused program accepted a q sc (Misaligned a)
            head.place c (rw f (ap (λ z. Some (Misaligned z)) head.place)))
        go true f =
            let b = holds n.reservation address in
            let may : exit_of_demand (class_at program) q.pc (StoresIf rd address value) ≡ None =
            rw (f, writable) refl in
            let ask : request program q ≡ StoresWhere rd address value =
            asks program a q sc head.place c ∙ ap (request_unless program q (StoresIf rd address
            value)) may in
            let aligned : native program a at l n (StoresIf rd address value) ≡ store_if program l
            n rd address value b = rw f refl in
            let is : execute program a at (Native sc) l n ≡ store_in program l n rd address value
            Memory b =
            acts ∙ aligned ∙ in_region program l n rd address value b
            ∙ ap (λ z. store_in program l n rd address value z b) (memory_at address (low_if_mapped
            program accepted address mapped)) in
            subst (λ (r : WordOutcome). Leads program OfPlace a j at K q n r Always r.move) (sym is)
            (leads j at l b licence head ask refl)

  abbrev Prepares : ℕ → ProcessorState → NodeMemory → Type 0
  Prepares at l n =
      FirstLeads program OfPlace a 0 at
      (Does program OfPlace a 1 (next_pc at) (committing (Native sc) []))
      (conditional_sequence rs1 sc) q l n

  stores : q.pc ≡ a → StandsToStore program q address
  stores place = stands_to_store program accepted a q sc address place c (λ layout b. refl)

  -- from the head of the place to the next head
  pub conditional_does : (n : NodeMemory) (at : ℕ) (l : ProcessorState) → AtHead program a q l
      → Does program OfPlace a 0 at (conditional_sequence rs1 sc) 0 q l n
  conditional_does before at l head = λ n since. go n since.0 (is_aligned Word address) refl
    where
      K : Rest
      K = λ z. Does program OfPlace a 1 (next_pc at) (committing (Native sc) []) z

      acts : (n : NodeMemory) → execute program a at (Prepare rs1) l n ≡ prepare a l n address
      acts n = ap (λ z. prepare a l n (offset_address z (pos 0))) (same_address l head)

      -- at the store, by the node as it is then
      word : (n' : NodeMemory) → (holds n'.reservation address ≡ true
          → is_writable_state (n'.state (line_of address)) ≡ true)
          → is_writable (class_at program address) ≡ true
          → is_mapped (class_at program address) ≡ true → (x y : ℕ)
          → Does program OfPlace a 1 (next_pc at) (committing (Native sc) []) 0 q (lane_at x y l) n'
      word n' licence writable mapped x y = λ n2 since.
          sc_word n2 1 (next_pc at) (lane_at x y l) (λ h. (since.1 refl).writes (line_of address)
          (licence ((since.1 refl).reserved address h))) writable mapped
          (head_at program a q l x y head)

      passes : (n : NodeMemory) → execute program a at (Prepare rs1) l n ≡ only_moves l n Next
          → (holds n.reservation address ≡ true
          → is_writable_state (n.state (line_of address)) ≡ true)
          → is_writable (class_at program address) ≡ true
          → is_mapped (class_at program address) ≡ true → Prepares at l n
      passes n is licence writable mapped =
          subst (λ (r : WordOutcome). Leads program OfPlace a 0 at K q n r Never r.move) (sym is)
          (refl, refl, word n licence writable mapped, refl)

      and_not : (b : Bool) → (b && not true) ≡ false
      and_not true = refl
      and_not false = refl

      -- the address is reserved, or not, and its line isn't writable
      lacks : (n : NodeMemory) → is_aligned Word address ≡ true → class_at program address ≡ Shared
          → is_fixed_state (n.state (line_of address)) ≡ false
          → is_writable_state (n.state (line_of address)) ≡ false → (b : Bool)
          → holds n.reservation address ≡ b → Prepares at l n
      lacks n f shared free unwritable false held =
          passes n (acts n ∙ rw (f, free, held) refl)
          (λ h. let bad : false ≡ true = sym held ∙ h in cc) (ap is_writable shared)
          (ap is_mapped shared)
      lacks n f shared free unwritable true held =
          let waits : WordOutcome =
          only_moves l n (Waits PastWord (record { at = address; need = Write }) []) in
          let is : execute program a at (Prepare rs1) l n ≡ waits =
          acts n ∙ rw (f, free, held, unwritable) refl in
          subst (λ (r : WordOutcome). Leads program OfPlace a 0 at K q n r Never r.move) (sym is) (
            refl,
            refl,
            refl,
            omega arith,
            (record { shared = shared; unmet = unwritable; seeks = stores head.place }, tt),
            λ n' suited granted. word n' (λ h. the_only granted) (ap is_writable shared)
                (ap is_mapped shared),
            refl,
          )

      look : (n : NodeMemory) → is_aligned Word address ≡ true
          → WriteLook (class_at program address) (n.state (line_of address)) → Prepares at l n
      look n f (Fixed no_store fixed unwritable) = leaves program accepted OfPlace a 0 at K q l n
          (execute program a at (Prepare rs1) l n) Never (NoAccess a) (acts n ∙ rw (f, fixed) refl)
          head.place (refused program accepted a q sc (NoAccess a) head.place c
          (rw (f, no_store) (ap (λ z. Some (NoAccess z)) head.place)))
      look n f (Writable writable mapped free may) =
          passes n (acts n ∙ rw (f, free, may) (rw (and_not (holds n.reservation address)) refl))
          (λ h. may) writable mapped
      look n f (Unwritable shared free unwritable) =
          lacks n f shared free unwritable (holds n.reservation address) refl

      go : (n : NodeMemory) → Suits program n → (b : Bool) → is_aligned Word address ≡ b
          → Prepares at l n
      go n suits false f = leaves program accepted OfPlace a 0 at K q l n
          (execute program a at (Prepare rs1) l n)
          Never (Misaligned a) (acts n ∙ rw f refl) head.place
          (refused program accepted a q sc (Misaligned a) head.place c
          (rw f (ap (λ z. Some (Misaligned z)) head.place)))
      go n suits true f = look n f (write_look (class_at program address)
          (n.state (line_of address)) (suits.states (line_of address)))
