-- Loads and stores whose line's state is tested.
use Rattle.std.proofs.Common.{◌≡◌, ℕ, ◌+◌, ◌%◌, eqb, Bool, true, false, List, Some, refl, ap, ◌∙◌, inr, lit<}
use Rattle.std.specs.Prelude.{ℤ, pos, bit_and}
use Rattle.rewriting_law.proofs.Names.{Instr, Load, Store, OpImm, Branch, Eq, LoadKind, Width, alu, taken, Shape, Sets, reg, demand_of, branch_demand, offset_address, width_of, is_aligned, Program, IsAccepted, class_at, is_mapped, is_writable, line_of, Uses, uses, stores_in, is_in_block, Processor, set_register, after_store, next_pc, Native, MissR, MissW, Always, Scratches, HasTwoScratches, SequenceItem, committing, own, checking, state_look, reloads, read_sequence, state_load_sequence, write_sequence, store_sequence, ProcessorState, NodeMemory, is_readable_state, is_writable_state, local_stored, lane_stored, native}
use Rattle.rv32_decode.specs.declared.ImmOp.TheVariants as imm_op
use Rattle.rv32_decode.specs.declared.Op.TheVariants as op
use Rattle.rewriting_law.proofs.templates.RegisterLemmas.{reg_zero, put_here}
use Rattle.rewriting_law.proofs.templates.States.{Suits, ReadLook, Gone, Readable, Unreadable, read_look, WriteLook, Fixed, Writable, Unwritable, write_look}
use Rattle.rewriting_law.proofs.templates.Does.{OfPlace, AtHead, lane_at, StandsToStore, Does}
use Rattle.rewriting_law.proofs.templates.Mids.{Hide, Shown, Mid, with_reg, alu_and, taken_zero, next_aligned, mid_at, own_set, read_shown, own_next, own_sets, own_skips, look_does}
use Rattle.rewriting_law.proofs.templates.Checked.{with_scratch, read_missed, write_missed, load_misaligned, load_commits, store_commits, seen_value, load_address, scratch_back, refused, stands_to_store, source_shown, destination_shown, hidden_s, hidden_t, hides_of, Refuses}

module _ (program : Program) (accepted : IsAccepted program) where
  module _ (a : ℕ) (q : Processor) (regs : Scratches) where
    abbrev hides : ℕ → Hide
    hides = hides_of regs

    -- an access of this width by an instruction, once the state of its line is tested
    module _ (w : Width) (rs1 : ℕ) (imm : ℤ) (i : Instr) (c : program.code a ≡ Some i)
        (base : Uses i rs1) (two : HasTwoScratches program.code a i regs) where
      abbrev tested : ℕ
      tested = offset_address (reg q.registers rs1) imm

      tested_shown : hides rs1 ≡ Shown
      tested_shown = source_shown program accepted a rs1 i regs two base

      same_tested : (l : ProcessorState) → Mid program hides a q l
          → offset_address (reg l.registers rs1) imm ≡ tested
      same_tested l m = ap (λ z. offset_address z imm)
          (read_shown program a hides q l rs1 m tested_shown (uses i c base))

      -- its word makes the processor's step, and comes behind the look
      abbrev word_behind : List SequenceItem
      word_behind = committing (Native i) (reloads regs)

      -- which holds wherever the node may read the line then, or write it
      abbrev AfterRead : Type 0
      AfterRead =
          (n' : NodeMemory) → is_readable_state (n'.state (line_of tested)) ≡ true
          → is_mapped (class_at program tested) ≡ true → (j at : ℕ) (l : ProcessorState)
          → Mid program hides a q l → Does program OfPlace a j at word_behind 0 q l n'

      abbrev AfterWrite : Type 0
      AfterWrite =
          (n' : NodeMemory) → is_writable_state (n'.state (line_of tested)) ≡ true
          → is_writable (class_at program tested) ≡ true
          → is_mapped (class_at program tested) ≡ true → (j at : ℕ) (l : ProcessorState)
          → Mid program hides a q l → Does program OfPlace a j at word_behind 0 q l n'

      -- the branch past the look before a read
      read_branch : AfterRead → Refuses program q w tested (is_mapped (class_at program tested))
          → (n : NodeMemory) → Suits program n → (j at : ℕ) (l : ProcessorState) → at % 4 ≡ 0
          → reg l.registers regs.s.register ≡ bit_and (n.state (line_of tested)) 2
          → Mid program hides a q l → Does program OfPlace a j at
          (own (Branch Eq regs.s.register 0 (pos 8)) (checking (MissR w rs1 imm) word_behind)) 0 q l
          n
      read_branch word ends n suits j at l al state m =
          go (read_look (class_at program tested) (n.state (line_of tested))
          (suits.states (line_of tested)))
        where
          rest : List SequenceItem
          rest = checking (MissR w rs1 imm) word_behind

          value : ℕ
          value = reg l.registers regs.s.register

          tests : (b : Bool) → is_readable_state (n.state (line_of tested)) ≡ b
              → taken Eq value (reg l.registers 0) ≡ b
          tests b z = taken_zero value (reg l.registers 0)
              ∙ ap (eqb value) (reg_zero l.registers) ∙ ap (λ v. eqb v 0) state ∙ z

          misses : is_readable_state (n.state (line_of tested)) ≡ false
              → Does program OfPlace a j at (own (Branch Eq regs.s.register 0 (pos 8)) rest) 0 q l n
          misses z =
              own_next program OfPlace a j at (Branch Eq regs.s.register 0 (pos 8)) rest q l l n
              (λ (n' : NodeMemory). ap (λ b. native program a at l n'
              (branch_demand b (offset_address at (pos 8)))) (tests false z))
              (λ x y. read_missed program accepted a q m.place w rs1 imm tested word_behind (j + 1)
              (next_pc at) (lane_at x y l) n (same_tested l m) ends (λ n' readable mapped x2 y2.
              word n' readable mapped (j + 1 + 1) (next_pc (next_pc at))
              (lane_at x2 y2 (lane_at x y l)) (mid_at program a hides q (lane_at x y l) x2 y2
              (mid_at program a hides q l x y m))))

          go : ReadLook (class_at program tested) (n.state (line_of tested))
              → Does program OfPlace a j at (own (Branch Eq regs.s.register 0 (pos 8)) rest) 0 q l n
          go (Gone unmapped gone unreadable) = misses unreadable
          go (Unreadable shared known unreadable) = misses unreadable
          go (Readable mapped known readable) =
              own_skips program OfPlace a j at (Branch Eq regs.s.register 0 (pos 8)) rest q l n al
              (ap (λ b. branch_demand b (offset_address at (pos 8))) (tests true readable))
              (λ x y. word n readable mapped (j + 1 + 1) (next_pc (next_pc at)) (lane_at x y l)
              (mid_at program a hides q l x y m))

      pub read_does : AfterRead → Refuses program q w tested (is_mapped (class_at program tested))
          → (n : NodeMemory) (at : ℕ) (l : ProcessorState) → AtHead program a q l → at % 4 ≡ 0
          → Does program OfPlace a 0 at (read_sequence regs w rs1 imm i) 0 q l n
      read_does word ends n at l head al =
          let rest2 = own (Branch Eq regs.s.register 0 (pos 8))
          (checking (MissR w rs1 imm) word_behind) in
          let rest1 = own (OpImm imm_op.And regs.s.register regs.s.register (pos 2)) rest2 in
          with_scratch program accepted a 0 at q l n i regs (state_look regs rs1 imm rest1) c two
          head al (λ j to l1 al1 m1.
          look_does program OfPlace a regs rs1 imm j to hides q l1 n rest1 two.s.nonzero
          two.t.nonzero
          two.apart (hidden_s program accepted regs) (hidden_t program accepted regs two.apart)
          tested_shown (uses i c base) m1 al1
          (λ (n' : NodeMemory) suits j2 to2 l2 e2 al2 m2 state table.
          let v = bit_and (n'.state (line_of tested)) 2 in
          let now : alu op.And (reg l2.registers regs.s.register) 2 ≡ v =
          alu_and (reg l2.registers regs.s.register) 2 ∙ ap (λ z. bit_and z 2) state in
          own_sets program OfPlace a j2 to2 (OpImm imm_op.And regs.s.register regs.s.register
          (pos 2)) rest2 q l2 n' regs.s.register v (ap (Sets regs.s.register) now) (λ x y.
          read_branch word ends n' suits (j2 + 1) (next_pc to2)
          (lane_at x y (with_reg l2 regs.s.register v)) (next_aligned to2 al2)
          (put_here l2.registers regs.s.register v two.s.nonzero)
          (mid_at program a hides q (with_reg l2 regs.s.register v) x y
          (own_set program a hides q l2 regs.s.register v (hidden_s program accepted regs) m2)))))

      -- the branch past the look before a write
      write_branch : AfterWrite → StandsToStore program q tested
          → Refuses program q w tested (is_writable (class_at program tested))
          → (n : NodeMemory) → Suits program n → (j at : ℕ) (l : ProcessorState) → at % 4 ≡ 0
          → reg l.registers regs.s.register ≡ n.state (line_of tested)
          → Mid program hides a q l → Does program OfPlace a j at
          (own (Branch Eq regs.s.register 0 (pos 8)) (checking (MissW w rs1 imm) word_behind)) 0 q l
          n
      write_branch word stores ends n suits j at l al state m =
          go (write_look (class_at program tested) (n.state (line_of tested))
          (suits.states (line_of tested)))
        where
          rest : List SequenceItem
          rest = checking (MissW w rs1 imm) word_behind

          value : ℕ
          value = reg l.registers regs.s.register

          tests : (b : Bool) → is_writable_state (n.state (line_of tested)) ≡ b
              → taken Eq value (reg l.registers 0) ≡ b
          tests b z = taken_zero value (reg l.registers 0)
              ∙ ap (eqb value) (reg_zero l.registers) ∙ ap (λ v. eqb v 0) state ∙ z

          misses : is_writable_state (n.state (line_of tested)) ≡ false
              → Does program OfPlace a j at (own (Branch Eq regs.s.register 0 (pos 8)) rest) 0 q l n
          misses z =
              own_next program OfPlace a j at (Branch Eq regs.s.register 0 (pos 8)) rest q l l n
              (λ (n' : NodeMemory). ap (λ b. native program a at l n'
              (branch_demand b (offset_address at (pos 8)))) (tests false z))
              (λ x y. write_missed program accepted a q m.place w rs1 imm tested word_behind (j + 1)
              (next_pc at) (lane_at x y l) n (same_tested l m) stores ends
              (λ n' may writable mapped x2 y2.
              word n' may writable mapped (j + 1 + 1) (next_pc (next_pc at))
              (lane_at x2 y2 (lane_at x y l)) (mid_at program a hides q (lane_at x y l) x2 y2
              (mid_at program a hides q l x y m))))

          go : WriteLook (class_at program tested) (n.state (line_of tested))
              → Does program OfPlace a j at (own (Branch Eq regs.s.register 0 (pos 8)) rest) 0 q l n
          go (Fixed no_store fixed unwritable) = misses unwritable
          go (Unwritable shared free unwritable) = misses unwritable
          go (Writable writable mapped free may) =
              own_skips program OfPlace a j at (Branch Eq regs.s.register 0 (pos 8)) rest q l n al
              (ap (λ b. branch_demand b (offset_address at (pos 8))) (tests true may))
              (λ x y. word n may writable mapped (j + 1 + 1) (next_pc (next_pc at)) (lane_at x y l)
              (mid_at program a hides q l x y m))

      pub write_does : AfterWrite → ((layout : Shape) (b : ℕ)
          → stores_in layout b (demand_of i q.registers q.pc) ≡ is_in_block layout b tested)
          → Refuses program q w tested (is_writable (class_at program tested))
          → (n : NodeMemory) (at : ℕ) (l : ProcessorState) → AtHead program a q l → at % 4 ≡ 0
          → Does program OfPlace a 0 at (write_sequence regs w rs1 imm i) 0 q l n
      write_does word same ends n at l head al =
          let rest1 = own (Branch Eq regs.s.register 0 (pos 8))
          (checking (MissW w rs1 imm) word_behind) in
          with_scratch program accepted a 0 at q l n i regs (state_look regs rs1 imm rest1) c two
          head al (λ j to l1 al1 m1.
          look_does program OfPlace a regs rs1 imm j to hides q l1 n rest1 two.s.nonzero
          two.t.nonzero
          two.apart (hidden_s program accepted regs) (hidden_t program accepted regs two.apart)
          tested_shown (uses i c base) m1 al1
          (λ (n' : NodeMemory) suits j2 to2 l2 e2 al2 m2 state table.
          write_branch word (stands_to_store program accepted a q i tested head.place c same) ends
          n' suits j2 to2 l2 al2 state m2))

    module _ (k : LoadKind) (rd rs1 : ℕ) (imm : ℤ) (c : program.code a ≡ Some (Load k rd rs1 imm))
        (two : HasTwoScratches program.code a (Load k rd rs1 imm) regs) where
      base_shown : hides rs1 ≡ Shown
      base_shown = source_shown program accepted a rs1 (Load k rd rs1 imm) regs two
          (inr (0, lit< tt, refl))

      abbrev access : ℕ
      access = load_address program accepted a q hides k rd rs1 imm c base_shown

      -- the original load, where its line is readable
      load_word : (n' : NodeMemory) → is_readable_state (n'.state (line_of access)) ≡ true
          → is_mapped (class_at program access) ≡ true → (j at : ℕ) (l : ProcessorState)
          → Mid program hides a q l → Does program OfPlace a j at
          (committing (Native (Load k rd rs1 imm)) (reloads regs)) 0 q l n'
      load_word n' readable mapped j at l m = go (is_aligned (width_of k) access) refl
        where
          go : (b : Bool) → is_aligned (width_of k) access ≡ b
              → Does program OfPlace a j at (committing (Native (Load k rd rs1 imm)) (reloads regs))
              0 q l n'
          go false f = load_misaligned program accepted a q hides k rd rs1 imm c base_shown
              n' OfPlace a j at l Always (reloads regs) refl f m
          go true f =
              load_commits program accepted a q hides k rd rs1 imm c base_shown n' OfPlace a j at l
              (reloads regs) refl
              (destination_shown program accepted a rd (Load k rd rs1 imm) regs two refl) f mapped
              readable m (λ n2 later x y mid.
              let v = seen_value program accepted a q hides k rd rs1 imm c base_shown n2 in
              scratch_back program accepted a (j + 1) (next_pc at) (Load k rd rs1 imm)
              (set_register q rd v) (lane_at x y (with_reg l rd v)) n2 regs c two mid)

      pub state_load_does : (n : NodeMemory) (at : ℕ) (l : ProcessorState) → AtHead program a q l → at % 4 ≡ 0
          → Does program OfPlace a 0 at (state_load_sequence regs k rd rs1 imm) 0 q l n
      state_load_does n at l head al =
          read_does (width_of k) rs1 imm (Load k rd rs1 imm) c (inr (0, lit< tt, refl)) two
          load_word (λ e h. refused program accepted a q (Load k rd rs1 imm) e head.place c h) n
          at l head al

    module _ (w : Width) (rs1 rs2 : ℕ) (imm : ℤ) (c : program.code a ≡ Some (Store w rs1 rs2 imm))
        (two : HasTwoScratches program.code a (Store w rs1 rs2 imm) regs) where
      abbrev tested_address : ℕ
      tested_address = offset_address (reg q.registers rs1) imm

      address_shown : hides rs1 ≡ Shown
      address_shown = source_shown program accepted a rs1 (Store w rs1 rs2 imm) regs two
          (inr (0, lit< tt, refl))

      value_shown : hides rs2 ≡ Shown
      value_shown = source_shown program accepted a rs2 (Store w rs1 rs2 imm) regs two
          (inr (1, lit< tt, refl))

      -- the original store, where its line is writable
      store_word : (n' : NodeMemory) → is_writable_state (n'.state (line_of tested_address)) ≡ true
          → is_writable (class_at program tested_address) ≡ true
          → is_mapped (class_at program tested_address) ≡ true → (j at : ℕ) (l : ProcessorState)
          → Mid program hides a q l
          → Does program OfPlace a j at (committing (Native (Store w rs1 rs2 imm)) (reloads regs)) 0
          q l n'
      store_word n' licence writable mapped j at l m =
          let v = reg q.registers rs2 in
          store_commits program accepted a q hides w rs1 rs2 imm c address_shown value_shown
          n' OfPlace a j at l (reloads regs) refl licence writable mapped m (λ n2 later x y mid.
          scratch_back program accepted a (j + 1) (next_pc at) (Store w rs1 rs2 imm)
          (after_store program q w tested_address v)
          (lane_at x y (lane_stored program l w tested_address v))
          (local_stored program n2 w tested_address v) regs c two mid)

      pub store_does : (n : NodeMemory) (at : ℕ) (l : ProcessorState) → AtHead program a q l → at % 4 ≡ 0
          → Does program OfPlace a 0 at (store_sequence regs w rs1 rs2 imm) 0 q l n
      store_does n at l head al =
          write_does w rs1 imm (Store w rs1 rs2 imm) c (inr (0, lit< tt, refl)) two store_word
          (λ layout b. refl) (λ e h. refused program accepted a q (Store w rs1 rs2 imm) e head.place
          c h) n at l head al
