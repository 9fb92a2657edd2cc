-- The look at a line's state before an access, and the access behind it.
use Rattle.std.proofs.Common.{◌≡◌, ◌≢◌, ℕ, ◌+◌, ◌/◌, ◌%◌, ◌^◌, ◌<◌, cond, eqb, ltb, Bool, true, false, List, [], Some, None, refl, sym, ap, ◌∙◌, subst, inl, inr, arith, lit<}
use Rattle.std.specs.Prelude.{ℤ}
use Rattle.std.specs.Option.{option_map_or}
use Rattle.std.proofs.lemmas.Bool.Decides.{eqb_tells, leb_tells, nat_tests}
use Rattle.rewriting_law.proofs.Names.{destination, Instr, Load, Store, LoadKind, Width, Byte, Half, Word, extend, Shape, Class, Shared, ReadOnly, Private, Unmapped, Exit, Misaligned, Loads, Stores, reg, put, demand_of, offset_address, width_of, is_aligned, raw, stored, load_value, byte_by, private_after, Program, IsAccepted, class_at, is_mapped, is_writable, line_of, Uses, Live, uses, passes, stores_in, is_in_block, Processor, Reads, Writes, Becomes, LoadsFrom, StoresTo, exit_of_access, exit_of_demand, request, request_at, request_for, request_unless, with_exit, set_register, after_store, next_pc, Native, MissR, MissW, CommitKind, Never, Always, Scratch, Scratches, IsScratch, HasTwoScratches, SequenceItem, committing, checking, spills, reloads, spill, reload, with_word, Read, Write, flag_byte, ProcessorState, NodeMemory, WordOutcome, Next, Waits, PastWord, Nothing_counted, FalseMiss, only_moves, exit_by, Memory, region_of, byte_at, is_readable_state, is_writable_state, local_stored, lane_stored, native, miss_r, miss_w, execute, commits_by}
use Rattle.rv32_program.specs.declared.Exit.TheVariants.{Access as NoAccess}
use Rattle.rv32_program.specs.Liveness.{Next as Follows}
use Rattle.rewriting_law.proofs.templates.RegisterLemmas.{apart, equal, put_other, put_both}
use Rattle.rewriting_law.proofs.templates.States.{Suits, Later, ReadLook, Gone, Readable, Unreadable, read_look, WriteLook, Fixed, Writable, Unwritable, write_look}
use Rattle.rewriting_law.proofs.templates.Does.{SequenceKind, OfPlace, place_of, AtHead, Rest, byte_seen, lane_at, may_turn, IsWhere, is_where, StandsToStore, Commits, Continues, Leads, FirstLeads, Does}
use Rattle.rewriting_law.proofs.templates.Mids.{Hide, Shown, Dead, In, Holds, IsHidden, hide, shown, hiding, Free, Mid, with_reg, hide_hidden, spill_0, spill_1, the_only, mid_at, read_shown, spill_does, reload_does, shown_mid, shown_head}

-- what the processor asks for at a place
pub asks : (program : Program) (a : ℕ) (q : Processor) (i : Instr) → q.pc ≡ a
    → program.code a ≡ Some i → request program q
    ≡ request_for program q (demand_of i q.registers q.pc)
asks program a q i place h = ap (request_at program q) (ap program.code place ∙ h)

pub memory_at : (x : ℕ) → x < 2 ^ 31 → region_of x ≡ Memory
memory_at x h = let f : ltb x (2 ^ 31) ≡ true = grind (arith, nat_tests) in rw f refl

-- what a load gives depends on its own line alone
pub value_same : (w : Width) (f g : ℕ → ℕ) (x : ℕ) → is_aligned w x ≡ true
    → ((y : ℕ) → y / 64 ≡ x / 64 → f y ≡ g y) → raw w f x ≡ raw w g x
unfolding raw
value_same Byte f g x al h = h x refl
value_same Half f g x al h =
    let m : x % 2 ≡ 0 = grind (arith, nat_tests) in
    rw (h x refl, h (x + 1) (omega arith)) refl
value_same Word f g x al h =
    let m : x % 4 ≡ 0 = grind (arith, nat_tests) in
    rw (h x refl, h (x + 1) (omega arith), h (x + 2) (omega arith), h (x + 3) (omega arith)) refl

pub byte_mapped : (c : Class) (shared first private flag : ℕ) → is_mapped c ≡ true
    → byte_by c shared first private flag ≡ byte_by c shared first private 0
byte_mapped Shared s f p n h = refl
byte_mapped ReadOnly s f p n h = refl
byte_mapped Private s f p n h = refl
byte_mapped Unmapped s f p n h = let bad : false ≡ true = h in cc

free_hide : (spilled : Bool) → Free 1 (hide spilled 0)
free_hide true = λ e. omega arith
free_hide false = tt

free_first : (spilled : Bool) (s r : ℕ) → Free 1 (hiding spilled 0 s shown r)
free_first spilled s r = go (eqb r s)
  where
    go : (b : Bool) → Free 1 (cond b (hide spilled 0) Shown)
    go true = free_hide spilled
    go false = tt

-- a register that is dead after an instruction that doesn't use it isn't live at it
pub not_live : (program : Program) (a : ℕ) (i : Instr) (x : Scratch) → program.code a ≡ Some i
    → IsScratch program.code a i x → x.spilled ≡ false → Live program.code x.register a → ⊥
not_live program a i x h s free (uses j e w) =
    let same : j ≡ i = (let both : Some j ≡ Some i = sym e ∙ h in cc) in
    s.unused (subst (λ y. Uses y x.register) same w)
not_live program a i x h s free (passes j b e d w v) =
    let same : j ≡ i = (let both : Some j ≡ Some i = sym e ∙ h in cc) in
    (s.dead free).dead b (subst (λ y. Follows y a b) same w) v

holds_both : (x : Hide) (r rd v : ℕ) (p q : Processor) (l : ProcessorState)
    → p.registers ≡ put q.registers rd v → r ≢ rd → Holds x r q l → Holds x r p (with_reg l rd v)
holds_both Shown r rd v p q l e n h = put_other l.registers rd r v n ∙ h
    ∙ sym (ap (λ f. reg f r) e ∙ put_other q.registers rd r v n)
holds_both Dead r rd v p q l e n h = h
holds_both (In k) r rd v p q l e n h = h ∙ sym
    (ap (λ f. reg f r) e ∙ put_other q.registers rd r v n)

pub holds_store : (x : Hide) (r : ℕ) (p q : Processor) (l l' : ProcessorState) → p.registers ≡ q.registers
    → l'.registers ≡ l.registers → l'.spills ≡ l.spills → Holds x r q l → Holds x r p l'
holds_store Shown r p q l l' e f g h = ap (λ z. reg z r) f ∙ h ∙ sym (ap (λ z. reg z r) e)
holds_store Dead r p q l l' e f g h = h
holds_store (In k) r p q l l' e f g h = ap (λ z. z k) g ∙ h ∙ sym (ap (λ z. reg z r) e)

-- what a load from memory does that gives this value
abbrev pub load_outcome : ProcessorState → NodeMemory → LoadKind → ℕ → ℕ → ℕ → WordOutcome
load_outcome l n k rd a v = record {
  lane = with_reg l rd v;
  local = n;
  access = Reads k a v;
  printed = None;
  tally = Nothing_counted;
  move = Next;
}

-- where an access of this width may not be made, its exit is the processor's
abbrev pub Refuses : Program → Processor → Width → ℕ → Bool → Type 0
Refuses program q w x may = (e : Exit) → exit_of_access q.pc w x may ≡ Some e
    → request program q ≡ Becomes (with_exit q e)

-- where the registers are between the spills and the reloads
abbrev pub hides_of : Scratches → ℕ → Hide
hides_of regs =
    hiding regs.s.spilled 0 regs.s.register (hiding regs.t.spilled 1 regs.t.register shown)

module _ (program : Program) (accepted : IsAccepted program) where
  pub low_if_mapped : (x : ℕ) → is_mapped (class_at program x) ≡ true → x < 2 ^ 31
  low_if_mapped x h = elim (leb_tells (2 ^ 31) x) [
    | inl e ↦ (let g = accepted.upper (x / 64) (omega (arith, e.1)) in let bad : false ≡ true =
        ap is_mapped (sym g) ∙ h in cc)
    | inr e ↦ e.1
  ]

  pub value_same_as : (k : LoadKind) (q : Processor) (l : ProcessorState) (n : NodeMemory) (x : ℕ)
      → is_aligned (width_of k) x ≡ true → is_mapped (class_at program x) ≡ true
      → l.private ≡ q.private
      → load_value k (byte_at program l n) x ≡ load_value k (byte_seen program q n) x
  value_same_as k q l n x al mapped private = ap (extend k)
      (value_same (width_of k) (byte_at program l n) (byte_seen program q n) x al (λ y line.
      let here : is_mapped (class_at program y) ≡ true = ap (λ z. is_mapped (program.class z)) line
      ∙ mapped in
      byte_mapped (class_at program y) (n.copy y) (program.first y) (l.private y) (flag_byte y) here
      ∙ ap (λ f. byte_by (class_at program y) (n.copy y) (program.first y) (f y) 0) private))

  pub next_is : (a : ℕ) (q : Processor) (i : Instr) → q.pc ≡ a → program.code a ≡ Some i
      → next_pc q.pc ≡ a + 4
  next_is a q i place h = let low = accepted.low a i h in omega (arith, place)

  -- the processor has set the register of its instruction, and the node too
  pub sets_both : (h : ℕ → Hide) (a : ℕ) (q : Processor) (l : ProcessorState) (i : Instr) (rd v : ℕ)
      → program.code a ≡ Some i → ((r : ℕ) → r ≢ rd → destination i ≡ Some r → ⊥)
      → Follows i a (a + 4) → h rd ≡ Shown
      → Mid program h a q l → Mid program h (a + 4) (set_register q rd v) (with_reg l rd v)
  sets_both h a q l i rd v c only next sh m = record {
    place = next_is a q i m.place c;
    running = m.running;
    agree = λ r live. elim (eqb_tells r rd) [
      | inl e ↦ subst (λ z. Holds z r (set_register q rd v) (with_reg l rd v)) (sym (ap h e.1 ∙ sh))
          (subst (λ z. reg (put l.registers rd v) z ≡ reg (put q.registers rd v) z) (sym e.1)
          (put_both l.registers q.registers rd v rd (λ ne. absurd (ne refl))))
      | inr e ↦ holds_both (h r) r rd v (set_register q rd v) q l refl e.1
          (m.agree r (passes i (a + 4) c (only r e.1) next live))
    ];
    private = m.private;
    written = m.written;
  }

  -- the scratch registers of a check, spilled or dead, and shown again
  pub with_scratch : (a k at : ℕ) (q : Processor) (l : ProcessorState) (n : NodeMemory) (i : Instr)
      (regs : Scratches) (rest : List SequenceItem) → program.code a ≡ Some i
      → HasTwoScratches program.code a i regs → AtHead program a q l → at % 4 ≡ 0
      → ((j to : ℕ) (l' : ProcessorState) → to % 4 ≡ 0 → Mid program (hides_of regs) a q l'
      → Does program OfPlace a j to rest 0 q l' n) → Does program OfPlace a k at (spills regs rest)
      0 q l n
  with_scratch a k at q l n i regs rest c two head al next =
      let s = regs.s.register in
      let t = regs.t.register in
      spill_does program OfPlace a regs.s.spilled 0 s k at shown q l n (spill 1 regs.t rest) spill_0
      refl (λ r. tt) (not_live program a i regs.s c two.s) (shown_mid program a q l head) al
      (λ j1 to1 l1 e1 al1 m1.
      spill_does program OfPlace a regs.t.spilled 1 t j1 to1 (hiding regs.s.spilled 0 s shown) q l1
      n rest spill_1 (rw (apart t s (λ z. two.apart (sym z))) refl) (free_first regs.s.spilled s)
      (not_live program a i regs.t c two.t) m1 al1
      (λ j2 to2 l2 e2 al2 m2. next j2 to2 l2 al2 (record {
        place = m2.place;
        running = m2.running;
        private = m2.private;
        written = m2.written;
        agree = λ r live. subst (λ z. Holds z r q l2) (order r) (m2.agree r live);
      })))
    where
      order : (r : ℕ) → hiding regs.t.spilled 1 regs.t.register
          (hiding regs.s.spilled 0 regs.s.register shown) r ≡ hides_of regs r
      order r = elim (eqb_tells r regs.s.register) [
        | inl f ↦ rw (f.0, apart r regs.t.register (λ z. two.apart (sym f.1 ∙ z))) refl
        | inr f ↦ rw f.0 refl
      ]

  pub scratch_back : (a k at : ℕ) (i : Instr) (q : Processor) (l : ProcessorState) (n : NodeMemory)
      (regs : Scratches) → program.code a ≡ Some i → HasTwoScratches program.code a i regs
      → Mid program (hides_of regs) (a + 4) q l → Does program OfPlace a k at (reloads regs) 0 q l n
  scratch_back a k at i q l n regs c two m =
      let s = regs.s.register in
      let t = regs.t.register in
      reload_does program OfPlace a regs.s.spilled 0 s k at (a + 4)
      (hiding regs.t.spilled 1 t shown) q l n
      (reload 1 regs.t []) spill_0 two.s.nonzero (rw (apart s t two.apart) refl) m
      (λ j1 to1 l1 e1 m1.
      reload_does program OfPlace a regs.t.spilled 1 t j1 to1 (a + 4) shown q l1 n [] spill_1
      two.t.nonzero refl m1 (λ j2 to2 l2 e2 m2. (
        (i, c),
        shown_head program (a + 4) q l2 m2,
      )))

  shown_in : (regs : Scratches) (r : ℕ) → r ≢ regs.s.register → r ≢ regs.t.register
      → hides_of regs r ≡ Shown
  shown_in regs r s t = rw (apart r regs.s.register s, apart r regs.t.register t) refl

  -- the registers that the instruction reads or writes are shown
  pub source_shown : (a r : ℕ) (i : Instr) (regs : Scratches)
      → HasTwoScratches program.code a i regs → Uses i r → hides_of regs r ≡ Shown
  source_shown a r i regs two reads = shown_in regs r (λ z. two.s.unused (subst (Uses i) z reads))
      (λ z. two.t.unused (subst (Uses i) z reads))

  pub destination_shown : (a r : ℕ) (i : Instr) (regs : Scratches)
      → HasTwoScratches program.code a i regs → destination i ≡ Some r → hides_of regs r ≡ Shown
  destination_shown a r i regs two d =
      shown_in regs r (λ z. two.s.undefined (d ∙ ap (λ x. Some x) z))
      (λ z. two.t.undefined (d ∙ ap (λ x. Some x) z))

  pub hidden_s : (regs : Scratches) → IsHidden (hides_of regs regs.s.register)
  hidden_s regs = rw (equal regs.s.register regs.s.register refl) (hide_hidden regs.s.spilled 0)

  pub hidden_t : (regs : Scratches) → regs.s.register ≢ regs.t.register
      → IsHidden (hides_of regs regs.t.register)
  hidden_t regs st =
      let t = regs.t.register in
      rw (apart t regs.s.register (λ z. st (sym z)), equal t t refl) (hide_hidden regs.t.spilled 1)

  -- the word of an exit
  pub leaves : (kind : SequenceKind) (a k at : ℕ) (K : Rest) (q : Processor) (l : ProcessorState)
      (n : NodeMemory) (r : WordOutcome) (m : CommitKind) (e : Exit) → r ≡ exit_by l n e
      → IsWhere program kind a k q → request program q ≡ Becomes (with_exit q e)
      → Leads program kind a k at K q n r m r.move
  leaves kind a k at K q l n r m e is there h =
      subst (λ (x : WordOutcome). Leads program kind a k at K q n x m x.move) (sym is)
      (there, h, refl, refl, refl)

  -- a demand that may not be met ends the processor
  pub refused : (a : ℕ) (q : Processor) (i : Instr) (e : Exit) → q.pc ≡ a → program.code a ≡ Some i
      → exit_of_demand (class_at program) q.pc (demand_of i q.registers q.pc) ≡ Some e
      → request program q ≡ Becomes (with_exit q e)
  refused a q i e place c h = asks program a q i place c
      ∙ ap (request_unless program q (demand_of i q.registers q.pc)) h

  -- a processor at an instruction that stores to the address
  pub stands_to_store : (a : ℕ) (q : Processor) (i : Instr) (x : ℕ) → q.pc ≡ a
      → program.code a ≡ Some i
      → ((layout : Shape) (b : ℕ)
      → stores_in layout b (demand_of i q.registers q.pc) ≡ is_in_block layout b x)
      → StandsToStore program q x
  stands_to_store a q i x place c same layout b inside =
      inl (ap (λ o. option_map_or (λ j. stores_in layout b (demand_of j q.registers q.pc)) o false)
      (ap program.code place ∙ c) ∙ same layout b ∙ inside)

  -- the look at a line's state before an access at a place, by a word behind which the rest stands
  module _ (a : ℕ) (q : Processor) (place : q.pc ≡ a) (w : Width) (rs1 : ℕ) (imm : ℤ) (x : ℕ)
      (rest : List SequenceItem) where
    abbrev Behind : ℕ → ℕ → ProcessorState → NodeMemory → Type 0
    Behind j at l n = (y z : ℕ) → Does program OfPlace a (j + 1) (next_pc at) rest 0 q
        (lane_at y z l) n

    -- before a read: the line isn't mapped, or it may be read, at once or after a wait
    read_missed_now : (j at : ℕ) (l : ProcessorState) (n : NodeMemory) → Suits program n
        → offset_address (reg l.registers rs1) imm ≡ x
        → Refuses program q w x (is_mapped (class_at program x))
        → ((n' : NodeMemory) → is_readable_state (n'.state (line_of x)) ≡ true
        → is_mapped (class_at program x) ≡ true → Behind j at l n')
        → FirstLeads program OfPlace a j at (Does program OfPlace a (j + 1) (next_pc at) rest)
        (checking (MissR w rs1 imm) rest) q l n
    read_missed_now j at l n suits is ends next = go (is_aligned w x) refl
      where
        K : Rest
        K = λ z. Does program OfPlace a (j + 1) (next_pc at) rest z

        acts : execute program a at (MissR w rs1 imm) l n ≡ miss_r a l n w x
        acts = ap (λ z. miss_r a l n w z) is

        leave : (e : Exit) → miss_r a l n w x ≡ exit_by l n e
            → exit_of_access q.pc w x (is_mapped (class_at program x)) ≡ Some e
            → FirstLeads program OfPlace a j at (Does program OfPlace a (j + 1) (next_pc at) rest)
            (checking (MissR w rs1 imm) rest) q l n
        leave e does h = leaves OfPlace a j at K q l n (execute program a at (MissR w rs1 imm) l n)
            Never e (acts ∙ does) place (ends e h)

        look : is_aligned w x ≡ true → ReadLook (class_at program x) (n.state (line_of x))
            → FirstLeads program OfPlace a j at (Does program OfPlace a (j + 1) (next_pc at) rest)
            (checking (MissR w rs1 imm) rest) q l n
        look f (Gone unmapped gone unreadable) =
            let not_mapped : is_mapped (class_at program x) ≡ false = ap is_mapped unmapped in
            leave (NoAccess a) (rw (f, gone) refl)
            (rw (f, not_mapped) (ap (λ z. Some (NoAccess z)) place))
        look f (Readable mapped known readable) =
            let passed : WordOutcome = record (only_moves l n Next) { tally = FalseMiss } in
            let does : execute program a at (MissR w rs1 imm) l n ≡ passed =
            acts ∙ rw (f, known, readable) refl in
            subst (λ (r : WordOutcome). Leads program OfPlace a j at K q n r Never r.move) (sym does)
            (refl, refl, next n readable mapped, refl)
        look f (Unreadable shared known unreadable) =
            let waits : WordOutcome = only_moves l n (Waits PastWord (record { at = x; need = Read }) []) in
            let does : execute program a at (MissR w rs1 imm) l n ≡ waits =
            acts ∙ rw (f, known, unreadable) refl in
            subst (λ (r : WordOutcome). Leads program OfPlace a j at K q n r Never r.move) (sym does) (
              refl,
              refl,
              refl,
              omega arith,
              (record { shared = shared; unmet = unreadable; seeks = tt }, tt),
              λ n' suited granted. next n' (the_only granted) (ap is_mapped shared),
              refl,
            )

        go : (b : Bool) → is_aligned w x ≡ b
            → FirstLeads program OfPlace a j at (Does program OfPlace a (j + 1) (next_pc at) rest)
            (checking (MissR w rs1 imm) rest) q l n
        go false f = leave (Misaligned a) (rw f refl) (rw f (ap (λ z. Some (Misaligned z)) place))
        go true f = look f (read_look (class_at program x) (n.state (line_of x))
            (suits.states (line_of x)))

    pub read_missed : (j at : ℕ) (l : ProcessorState) (n : NodeMemory)
        → offset_address (reg l.registers rs1) imm ≡ x
        → Refuses program q w x (is_mapped (class_at program x))
        → ((n' : NodeMemory) → is_readable_state (n'.state (line_of x)) ≡ true
        → is_mapped (class_at program x) ≡ true → Behind j at l n')
        → Does program OfPlace a j at (checking (MissR w rs1 imm) rest) 0 q l n
    read_missed j at l n is ends next = λ m since. read_missed_now j at l m since.0 is ends next

    -- before a write: nobody may write the line, or the node may, at once or after a wait
    write_missed_now : (j at : ℕ) (l : ProcessorState) (n : NodeMemory) → Suits program n
        → offset_address (reg l.registers rs1) imm ≡ x → StandsToStore program q x
        → Refuses program q w x (is_writable (class_at program x))
        → ((n' : NodeMemory) → is_writable_state (n'.state (line_of x)) ≡ true
        → is_writable (class_at program x) ≡ true → is_mapped (class_at program x) ≡ true
        → Behind j at l n')
        → FirstLeads program OfPlace a j at (Does program OfPlace a (j + 1) (next_pc at) rest)
        (checking (MissW w rs1 imm) rest) q l n
    write_missed_now j at l n suits is stores ends next = go (is_aligned w x) refl
      where
        K : Rest
        K = λ z. Does program OfPlace a (j + 1) (next_pc at) rest z

        acts : execute program a at (MissW w rs1 imm) l n ≡ miss_w a l n w x
        acts = ap (λ z. miss_w a l n w z) is

        leave : (e : Exit) → miss_w a l n w x ≡ exit_by l n e
            → exit_of_access q.pc w x (is_writable (class_at program x)) ≡ Some e
            → FirstLeads program OfPlace a j at (Does program OfPlace a (j + 1) (next_pc at) rest)
            (checking (MissW w rs1 imm) rest) q l n
        leave e does h = leaves OfPlace a j at K q l n (execute program a at (MissW w rs1 imm) l n)
            Never e (acts ∙ does) place (ends e h)

        look : is_aligned w x ≡ true → WriteLook (class_at program x) (n.state (line_of x))
            → FirstLeads program OfPlace a j at (Does program OfPlace a (j + 1) (next_pc at) rest)
            (checking (MissW w rs1 imm) rest) q l n
        look f (Fixed no_store fixed unwritable) = leave (NoAccess a) (rw (f, fixed) refl)
            (rw (f, no_store) (ap (λ z. Some (NoAccess z)) place))
        look f (Writable writable mapped free may) =
            let does : execute program a at (MissW w rs1 imm) l n ≡ only_moves l n Next =
            acts ∙ rw (f, free, may) refl in
            subst (λ (r : WordOutcome). Leads program OfPlace a j at K q n r Never r.move) (sym does)
            (refl, refl, next n may writable mapped, refl)
        look f (Unwritable shared free unwritable) =
            let waits : WordOutcome = only_moves l n (Waits PastWord (record { at = x; need = Write }) []) in
            let does : execute program a at (MissW w rs1 imm) l n ≡ waits =
            acts ∙ rw (f, free, unwritable) refl in
            subst (λ (r : WordOutcome). Leads program OfPlace a j at K q n r Never r.move) (sym does) (
              refl,
              refl,
              refl,
              omega arith,
              (record { shared = shared; unmet = unwritable; seeks = stores }, tt),
              λ n' suited granted. next n' (the_only granted) (ap is_writable shared)
                  (ap is_mapped shared),
              refl,
            )

        go : (b : Bool) → is_aligned w x ≡ b
            → FirstLeads program OfPlace a j at (Does program OfPlace a (j + 1) (next_pc at) rest)
            (checking (MissW w rs1 imm) rest) q l n
        go false f = leave (Misaligned a) (rw f refl) (rw f (ap (λ z. Some (Misaligned z)) place))
        go true f = look f (write_look (class_at program x) (n.state (line_of x))
            (suits.states (line_of x)))

    pub write_missed : (j at : ℕ) (l : ProcessorState) (n : NodeMemory)
        → offset_address (reg l.registers rs1) imm ≡ x → StandsToStore program q x
        → Refuses program q w x (is_writable (class_at program x))
        → ((n' : NodeMemory) → is_writable_state (n'.state (line_of x)) ≡ true
        → is_writable (class_at program x) ≡ true → is_mapped (class_at program x) ≡ true
        → Behind j at l n') → Does program OfPlace a j at (checking (MissW w rs1 imm) rest) 0 q l n
    write_missed j at l n is stores ends next = λ m since.
        write_missed_now j at l m since.0 is stores ends next

  -- a load from memory, inside a sequence in which its base is shown
  module _ (a : ℕ) (q : Processor) (h : ℕ → Hide) (k : LoadKind) (rd rs1 : ℕ) (imm : ℤ)
      (c : program.code a ≡ Some (Load k rd rs1 imm)) (base : h rs1 ≡ Shown) where
    abbrev pub load_address : ℕ
    load_address = offset_address (reg q.registers rs1) imm

    abbrev pub seen_value : NodeMemory → ℕ
    seen_value n = load_value k (byte_seen program q n) load_address

    live_base : Live program.code rs1 a
    live_base = uses (Load k rd rs1 imm) c (inr (0, lit< tt, refl))

    pub same_base : (l : ProcessorState) → Mid program h a q l → reg l.registers rs1 ≡ reg q.registers rs1
    same_base l m = read_shown program a h q l rs1 m base live_base

    load_acts : (n : NodeMemory) (p at : ℕ) (l : ProcessorState) → Mid program h a q l
        → execute program p at (Native (Load k rd rs1 imm)) l n
        ≡ native program p at l n (Loads k rd load_address)
    load_acts n p at l m = ap (λ z. native program p at l n (Loads k rd (offset_address z imm)))
        (same_base l m)

    load_where : (kind : SequenceKind) (s j : ℕ) → place_of kind s j ≡ a → q.pc ≡ a
        → IsWhere program kind s j q
    load_where kind s j place pc =
        is_where program kind s j a q place pc (ap (λ o. option_map_or (λ i. may_turn i a) o false) c)

    -- one whose address isn't aligned ends the processor
    pub load_misaligned_now : (n : NodeMemory) (kind : SequenceKind) (s j at : ℕ) (l : ProcessorState)
        (commit : CommitKind) (rest : List SequenceItem) → place_of kind s j ≡ a
        → is_aligned (width_of k) load_address ≡ false → Mid program h a q l
        → FirstLeads program kind s j at (Does program kind s (j + 1) (next_pc at) rest)
        (with_word commit (Native (Load k rd rs1 imm)) rest) q l n
    load_misaligned_now n kind s j at l commit rest place f m =
        let p = place_of kind s j in
        let ends : native program p at l n (Loads k rd load_address)
        ≡ exit_by l n (Misaligned p) = rw f refl in
        leaves kind s j at (λ z. Does program kind s (j + 1) (next_pc at) rest z) q l n
        (execute program p at (Native (Load k rd rs1 imm)) l n) commit (Misaligned a)
        (load_acts n p at l m ∙ ends ∙ ap (λ z. exit_by l n (Misaligned z)) place)
        (load_where kind s j place m.place) (refused a q (Load k rd rs1 imm) (Misaligned a) m.place c
        (rw f (ap (λ z. Some (Misaligned z)) m.place)))

    pub load_misaligned : (n : NodeMemory) (kind : SequenceKind) (s j at : ℕ) (l : ProcessorState)
        (commit : CommitKind) (rest : List SequenceItem) → place_of kind s j ≡ a
        → is_aligned (width_of k) load_address ≡ false → Mid program h a q l
        → Does program kind s j at (with_word commit (Native (Load k rd rs1 imm)) rest) 0 q l n
    load_misaligned n kind s j at l commit rest place f m = λ n' since.
        load_misaligned_now n' kind s j at l commit rest place f m

    -- one from below the state table gives what the node has there
    pub load_gives : (n : NodeMemory) (p at : ℕ) (l : ProcessorState)
        → is_aligned (width_of k) load_address ≡ true → load_address < 2 ^ 31 → Mid program h a q l
        → execute program p at (Native (Load k rd rs1 imm)) l n
        ≡ load_outcome l n k rd load_address (load_value k (byte_at program l n) load_address)
    load_gives n p at l f low m = load_acts n p at l m ∙ rw (f, memory_at load_address low) refl

    -- where its line is mapped that is what the processor would see
    pub load_sees : (n : NodeMemory) (p at : ℕ) (l : ProcessorState)
        → is_aligned (width_of k) load_address ≡ true
        → is_mapped (class_at program load_address) ≡ true → Mid program h a q l
        → execute program p at (Native (Load k rd rs1 imm)) l n
        ≡ load_outcome l n k rd load_address (seen_value n)
    load_sees n p at l f mapped m =
        load_gives n p at l f (low_if_mapped load_address mapped) m
        ∙ ap (load_outcome l n k rd load_address)
        (value_same_as k q l n load_address f mapped m.private)

    -- and where the word commits, that is the processor's step
    pub load_commits_now : (n : NodeMemory) (kind : SequenceKind) (s j at : ℕ) (l : ProcessorState)
        (commit : CommitKind) (rest : List SequenceItem) → place_of kind s j ≡ a → h rd ≡ Shown
        → is_aligned (width_of k) load_address ≡ true
        → is_mapped (class_at program load_address) ≡ true
        → is_readable_state (n.state (line_of load_address)) ≡ true
        → commits_by commit (load_outcome l n k rd load_address (seen_value n)) ≡ true
        → Mid program h a q l
        → ((x y : ℕ) → Mid program h (a + 4) (set_register q rd (seen_value n))
        (lane_at x y (with_reg l rd (seen_value n)))
        → Does program kind s (j + 1) (next_pc at) rest 0 (set_register q rd (seen_value n))
        (lane_at x y (with_reg l rd (seen_value n))) n)
        → FirstLeads program kind s j at (Does program kind s (j + 1) (next_pc at) rest)
        (with_word commit (Native (Load k rd rs1 imm)) rest) q l n
    load_commits_now n kind s j at l commit rest place shows f mapped readable commits m go =
        let K : Rest = λ z. Does program kind s (j + 1) (next_pc at) rest z in
        let done = load_outcome l n k rd load_address (seen_value n) in
        let may : exit_of_demand (class_at program) q.pc (Loads k rd load_address) ≡ None =
        rw (f, mapped) refl in
        let ask : request program q ≡ LoadsFrom k rd load_address =
        asks program a q (Load k rd rs1 imm) m.place c
        ∙ ap (request_unless program q (Loads k rd load_address)) may in
        let mid = sets_both h a q l (Load k rd rs1 imm) rd (seen_value n) c (λ r ne d. ne (cc)) refl
        shows m in
        subst (λ (r : WordOutcome). Leads program kind s j at K q n r commit r.move)
        (sym (load_sees n (place_of kind s j) at l f mapped m))
        (subst (Continues program (IsWhere program kind s j q)
        (λ p. (x y : ℕ) → K 0 p (lane_at x y done.lane) n) q n done)
        (sym commits) (
          load_where kind s j place m.place,
          readable,
          subst (Commits program (λ p. (x y : ℕ) → K 0 p (lane_at x y done.lane) n) q n done)
              (sym ask) (
                refl,
                refl,
                refl,
                λ x y. go x y (mid_at program (a + 4) h (set_register q rd (seen_value n))
                    (with_reg l rd (seen_value n)) x y mid),
              ),
        ))

    -- the original load, which commits by whatever it gives
    pub load_commits : (n : NodeMemory) (kind : SequenceKind) (s j at : ℕ) (l : ProcessorState)
        (rest : List SequenceItem) → place_of kind s j ≡ a → h rd ≡ Shown
        → is_aligned (width_of k) load_address ≡ true
        → is_mapped (class_at program load_address) ≡ true
        → is_readable_state (n.state (line_of load_address)) ≡ true → Mid program h a q l
        → ((m : NodeMemory) → Later n m → (x y : ℕ)
        → Mid program h (a + 4) (set_register q rd (seen_value m))
        (lane_at x y (with_reg l rd (seen_value m)))
        → Does program kind s (j + 1) (next_pc at) rest 0 (set_register q rd (seen_value m))
        (lane_at x y (with_reg l rd (seen_value m))) m)
        → Does program kind s j at (committing (Native (Load k rd rs1 imm)) rest) 0 q l n
    load_commits n kind s j at l rest place shows f mapped readable m go = λ n' since.
        load_commits_now n' kind s j at l Always rest place shows f mapped
        ((since.1 refl).reads (line_of load_address) readable) refl m (go n' (since.1 refl))

  -- a store into memory, inside a sequence in which its registers are shown
  module _ (a : ℕ) (q : Processor) (h : ℕ → Hide) (w : Width) (rs1 rs2 : ℕ) (imm : ℤ)
      (c : program.code a ≡ Some (Store w rs1 rs2 imm)) (base : h rs1 ≡ Shown)
      (source : h rs2 ≡ Shown) where
    abbrev pub store_address : ℕ
    store_address = offset_address (reg q.registers rs1) imm

    abbrev pub stored_value : ℕ
    stored_value = reg q.registers rs2

    abbrev pub store_after : Processor
    store_after = after_store program q w store_address stored_value

    store_acts : (n : NodeMemory) (p at : ℕ) (l : ProcessorState) → Mid program h a q l
        → execute program p at (Native (Store w rs1 rs2 imm)) l n
        ≡ native program p at l n (Stores w store_address stored_value)
    store_acts n p at l m = ap (λ z. native program p at l n (Stores w (offset_address z imm)
        (reg l.registers rs2))) (read_shown program a h q l rs1 m base
        (uses (Store w rs1 rs2 imm) c (inr (0, lit< tt, refl))))
        ∙ ap (λ z. native program p at l n (Stores w store_address z))
        (read_shown program a h q l rs2 m source
        (uses (Store w rs1 rs2 imm) c (inr (1, lit< tt, refl))))

    -- one whose line is writable is the processor's step, or its exit where it isn't aligned
    pub store_commits : (n : NodeMemory) (kind : SequenceKind) (s j at : ℕ) (l : ProcessorState)
        (rest : List SequenceItem) → place_of kind s j ≡ a
        → is_writable_state (n.state (line_of store_address)) ≡ true
        → is_writable (class_at program store_address) ≡ true
        → is_mapped (class_at program store_address) ≡ true → Mid program h a q l
        → ((m : NodeMemory) → Later n m → (x y : ℕ) → Mid program h (a + 4) store_after
        (lane_at x y (lane_stored program l w store_address stored_value))
        → Does program kind s (j + 1) (next_pc at) rest 0 store_after
        (lane_at x y (lane_stored program l w store_address stored_value))
        (local_stored program m w store_address stored_value))
        → Does program kind s j at (committing (Native (Store w rs1 rs2 imm)) rest) 0 q l n
    store_commits n kind s j at l rest place may_then writable mapped m go = λ n' since.
        by n' ((since.1 refl).writes (line_of store_address) may_then) (since.1 refl)
        (is_aligned w store_address) refl
      where
        K : Rest
        K = λ z. Does program kind s (j + 1) (next_pc at) rest z

        p : ℕ
        p = place_of kind s j

        lane : ProcessorState
        lane = lane_stored program l w store_address stored_value

        there : IsWhere program kind s j q
        there = is_where program kind s j a q place m.place
            (ap (λ o. option_map_or (λ i. may_turn i a) o false) c)

        mid : Mid program h (a + 4) store_after lane
        mid = record {
          place = next_is a q (Store w rs1 rs2 imm) m.place c;
          running = m.running;
          agree = λ r live. holds_store (h r) r store_after q l lane refl refl refl
              (m.agree r (passes (Store w rs1 rs2 imm) (a + 4) c (λ d. cc) refl live));
          private = ap (λ z. private_after (class_at program store_address) z
              (stored w z store_address stored_value)) m.private;
          written = m.written;
        }

        by : (n' : NodeMemory) → is_writable_state (n'.state (line_of store_address)) ≡ true
            → Later n n' → (b : Bool) → is_aligned w store_address ≡ b
            → FirstLeads program kind s j at (Does program kind s (j + 1) (next_pc at) rest)
            (committing (Native (Store w rs1 rs2 imm)) rest) q l n'
        by n' licence later false f =
            let ends : native program p at l n' (Stores w store_address stored_value)
            ≡ exit_by l n' (Misaligned p) = rw f refl in
            leaves kind s j at K q l n' (execute program p at (Native (Store w rs1 rs2 imm)) l n')
            Always (Misaligned a)
            (store_acts n' p at l m ∙ ends ∙ ap (λ z. exit_by l n' (Misaligned z)) place)
            there (refused a q (Store w rs1 rs2 imm) (Misaligned a) m.place c
            (rw f (ap (λ z. Some (Misaligned z)) m.place)))
        by n' licence later true f =
            let done : WordOutcome = record {
              lane = lane;
              local = local_stored program n' w store_address stored_value;
              access = Writes w store_address stored_value;
              printed = None;
              tally = Nothing_counted;
              move = Next;
            } in
            let is : execute program p at (Native (Store w rs1 rs2 imm)) l n' ≡ done =
            store_acts n' p at l m
            ∙ rw (f, memory_at store_address (low_if_mapped store_address mapped)) refl in
            let may : exit_of_demand (class_at program) q.pc (Stores w store_address stored_value)
            ≡ None = rw (f, writable) refl in
            let ask : request program q ≡ StoresTo w store_address stored_value =
            asks program a q (Store w rs1 rs2 imm) m.place c
            ∙ ap (request_unless program q (Stores w store_address stored_value)) may in
            subst (λ (r : WordOutcome). Leads program kind s j at K q n' r Always r.move) (sym is) (
              there,
              licence,
              subst (Commits program (λ p. (x y : ℕ) → K 0 p (lane_at x y lane) done.local) q n'
                  done) (sym ask) (
                    refl,
                    refl,
                    refl,
                    λ x y. go n' later x y (mid_at program (a + 4) h store_after lane x y mid),
                  ),
            )
