-- Inside a sequence: which registers are shown, dead, or in a spill word.
use Rattle.std.proofs.Common.{◌≡◌, ◌≢◌, ℕ, ◌+◌, ◌-◌, ◌/◌, ◌%◌, ◌^◌, ◌<◌, ◌⊎◌, cond, eqb, Bool, true, false, List, None, refl, sym, ap, ◌∙◌, subst, inl, inr, arith}
use Rattle.std.proofs.Math.Dec.{ltb}
use Rattle.std.specs.Prelude.{ℤ, pos, bit_and, bit_or}
use Rattle.std.proofs.lemmas.Bool.Decides.{eqb_tells, nat_tests}
use Rattle.rewriting_law.proofs.Names.{unsigned, Instr, Lui, Load, Store, OpImm, ShiftImm, Op, Eq, Byte, Word, alu, taken, Sets, Branches, Loads, Stores, reg, put, demand_of, offset_address, is_aligned, Program, Live, Processor, next_pc, Native, Never, Scratches, SequenceItem, own, spill_offset, spill_by, reload_by, state_look, ProcessorState, NodeMemory, WordOutcome, Next, To, only_moves, native, load, StateOf, Spill, region_of, execute}
use Rattle.rv32_decode.specs.declared.LoadKind.TheVariants as load_kind
use Rattle.rv32_decode.specs.declared.Op.TheVariants as op
use Rattle.rv32_decode.specs.declared.ImmOp.TheVariants as imm_op
use Rattle.rv32_decode.specs.declared.ShiftOp.TheVariants as shift_op
use Rattle.dsm_protocol.specs.node_model.Node.{set_register}
use Rattle.rewriting_law.proofs.templates.RegisterLemmas.{apart, equal, reg_zero, put_here, put_other}
use Rattle.rewriting_law.proofs.templates.States.{Suits, Later}
use Rattle.rewriting_law.proofs.templates.Does.{AtHead, SequenceKind, place_of, lane_at, skip_to, Leads, Does, does_later}

pub data Hide : Type 0 where
  Shown : Hide
  Dead : Hide
  In : (k : ℕ) → Hide

-- where the value of a live register is
abbrev pub Holds : Hide → ℕ → Processor → ProcessorState → Type 0
Holds Shown r q l = reg l.registers r ≡ reg q.registers r
Holds Dead r q l = ⊥
Holds (In k) r q l = l.spills k ≡ reg q.registers r

abbrev pub IsHidden : Hide → Type 0
IsHidden Shown = ⊥
IsHidden h = Unit {0}

abbrev pub hide : Bool → ℕ → Hide
hide true k = In k
hide false k = Dead

abbrev pub shown : ℕ → Hide
shown r = Shown

abbrev pub hiding : Bool → ℕ → ℕ → (ℕ → Hide) → ℕ → Hide
hiding spilled k s h r = cond (eqb r s) (hide spilled k) (h r)

abbrev pub Free : ℕ → Hide → Type 0
Free k (In j) = j ≢ k
Free k h = Unit {0}

pub record Mid (program : Program) (h : ℕ → Hide) (a : ℕ) (q : Processor) (l : ProcessorState) : Type 0 where
  pub place : q.pc ≡ a
  pub running : q.exit ≡ None
  pub agree : (r : ℕ) → Live program.code r a → Holds (h r) r q l
  pub private : l.private ≡ q.private
  pub written : l.written ≡ q.written

-- at a head nothing is hidden
pub shown_mid : (program : Program) (a : ℕ) (q : Processor) (l : ProcessorState) → AtHead program a q l
    → Mid program shown a q l
shown_mid program a q l head = record {
  place = head.place;
  running = head.running;
  agree = head.agree;
  private = head.private;
  written = head.written;
}

pub shown_head : (program : Program) (a : ℕ) (q : Processor) (l : ProcessorState)
    → Mid program shown a q l → AtHead program a q l
shown_head program a q l m = record {
  place = m.place;
  running = m.running;
  agree = m.agree;
  private = m.private;
  written = m.written;
}

-- the head of a place, with the lane at another word
pub head_at : (program : Program) (a : ℕ) (q : Processor) (l : ProcessorState) (x y : ℕ)
    → AtHead program a q l → AtHead program a q (lane_at x y l)
head_at program a q l x y head = record {
  place = head.place;
  running = head.running;
  agree = head.agree;
  private = head.private;
  written = head.written;
}

abbrev pub with_reg : ProcessorState → ℕ → ℕ → ProcessorState
with_reg l r v = set_register l r v

abbrev pub with_spill : ProcessorState → ℕ → ℕ → ProcessorState
with_spill l k v = record l { spills = λ i. cond (eqb i k) v (l.spills i) }

holds_put : (x : Hide) (r s v : ℕ) (q : Processor) (l : ProcessorState) → r ≢ s → Holds x r q l
    → Holds x r q (with_reg l s v)
holds_put Shown r s v q l e h = put_other l.registers s r v e ∙ h
holds_put other r s v q l e h = h

holds_hidden : (x : Hide) (r s v : ℕ) (q : Processor) (l : ProcessorState) → IsHidden x → Holds x r q l
    → Holds x r q (with_reg l s v)
holds_hidden Shown r s v q l e h = absurd e
holds_hidden other r s v q l e h = h

holds_spill : (x : Hide) (r k v : ℕ) (q : Processor) (l : ProcessorState) → Free k x → Holds x r q l
    → Holds x r q (with_spill l k v)
holds_spill Shown r k v q l e h = h
holds_spill Dead r k v q l e h = h
holds_spill (In j) r k v q l e h = rw (apart j k e) h

holds_at : (x : Hide) (r i j : ℕ) (q : Processor) (l : ProcessorState) → Holds x r q l
    → Holds x r q (lane_at i j l)
holds_at Shown r i j q l h = h
holds_at other r i j q l h = h

pub hide_hidden : (spilled : Bool) (k : ℕ) → IsHidden (hide spilled k)
hide_hidden true k = tt
hide_hidden false k = tt

-- the operations of the checks
pub alu_add : (a b : ℕ) → alu op.Add a b ≡ (a + b) % 2 ^ 32
unfolding alu
alu_add a b = refl

pub alu_and : (a b : ℕ) → alu op.And a b ≡ bit_and a b
unfolding alu
alu_and a b = refl

pub alu_or : (a b : ℕ) → alu op.Or a b ≡ bit_or a b
unfolding alu
alu_or a b = refl

pub alu_line : (a : ℕ) → alu op.Srl a 6 ≡ a / 64
unfolding alu
alu_line a = refl

pub taken_zero : (a b : ℕ) → taken Eq a b ≡ eqb a b
unfolding taken
taken_zero a b = refl

-- the words that look at the state byte of a second line, by u
abbrev pub look_again : Scratches → ℕ → ℤ → List SequenceItem → List SequenceItem
look_again x rs1 imm rest =
    own (OpImm imm_op.Add x.u.register rs1 imm)
    (own (ShiftImm shift_op.Srl x.u.register x.u.register 6)
    (own (Op op.Add x.u.register x.u.register x.t.register)
    (own (Load load_kind.ByteU x.u.register x.u.register (pos 0)) rest)))

-- a spill word, by its number
pub record IsSpill (k : ℕ) : Type 0 where
  pub address : ℕ
  pub offset : (0 + unsigned 32 (spill_offset k)) % 2 ^ 32 ≡ address
  pub aligns : is_aligned Word address ≡ true
  pub is : region_of address ≡ Spill k

pub spill_0 : IsSpill 0
spill_0 = record { address = 2 ^ 32 - 4; offset = refl; aligns = refl; is = refl }

pub spill_1 : IsSpill 1
spill_1 = record { address = 2 ^ 32 - 8; offset = refl; aligns = refl; is = refl }

aligned_byte : (a : ℕ) → is_aligned Byte a ≡ true
aligned_byte a = let e : a % 1 ≡ 0 = omega arith in rw e refl

pub table_at : (x : ℕ) → x < 2 ^ 32 → region_of (((x / 64 + 2 ^ 31) % 2 ^ 32 + 0) % 2 ^ 32)
    ≡ StateOf (x / 64)
table_at x h =
    let e : ((x / 64 + 2 ^ 31) % 2 ^ 32 + 0) % 2 ^ 32 ≡ x / 64 + 2 ^ 31 = omega arith in
    let f : ltb (x / 64 + 2 ^ 31) (2 ^ 31) ≡ false = grind (arith, nat_tests) in
    let g : ltb (x / 64 + 2 ^ 31) (2 ^ 31 + 2 ^ 26) ≡ true = grind (arith, nat_tests) in
    let d : x / 64 + 2 ^ 31 - 2 ^ 31 ≡ x / 64 = omega arith in
    rw (e, f, g, d) refl

pub spill_2 : IsSpill 2
spill_2 = record { address = 2 ^ 32 - 12; offset = refl; aligns = refl; is = refl }

-- how many words a spill has, or a reload
abbrev pub words_if : Bool → ℕ
words_if true = 1
words_if false = 0

-- the only one of what may have been granted
pub the_only : {A : Type 0} → A ⊎ ⊥ → A
the_only (inl a) = a
the_only (inr none) = absurd none

pub next_aligned : (at : ℕ) → at % 4 ≡ 0 → next_pc at % 4 ≡ 0
next_aligned at h = omega arith

module _ (program : Program) (a : ℕ) where
  pub mid_at : (h : ℕ → Hide) (q : Processor) (l : ProcessorState) (x y : ℕ) → Mid program h a q l
      → Mid program h a q (lane_at x y l)
  mid_at h q l x y m = record {
    place = m.place;
    running = m.running;
    agree = λ r live. holds_at (h r) r x y q l (m.agree r live);
    private = m.private;
    written = m.written;
  }

  -- a register that isn't live, or is hidden, may be set
  pub own_set : (h : ℕ → Hide) (q : Processor) (l : ProcessorState) (s v : ℕ) → IsHidden (h s)
      → Mid program h a q l → Mid program h a q (with_reg l s v)
  own_set h q l s v hidden m = record {
    place = m.place;
    running = m.running;
    agree = λ r live. elim (eqb_tells r s) [
      | inl e ↦ holds_hidden (h r) r s v q l (subst (λ x. IsHidden (h x)) (sym e.1) hidden)
          (m.agree r live)
      | inr e ↦ holds_put (h r) r s v q l e.1 (m.agree r live)
    ];
    private = m.private;
    written = m.written;
  }

  -- a register that isn't live may be set
  pub own_set_unused : (h : ℕ → Hide) (q : Processor) (l : ProcessorState) (s v : ℕ)
      → (Live program.code s a → ⊥) → Mid program h a q l → Mid program h a q (with_reg l s v)
  own_set_unused h q l s v dead m = record {
    place = m.place;
    running = m.running;
    agree = λ r live. elim (eqb_tells r s) [
      | inl e ↦ absurd (dead (subst (λ x. Live program.code x a) e.1 live))
      | inr e ↦ holds_put (h r) r s v q l e.1 (m.agree r live)
    ];
    private = m.private;
    written = m.written;
  }

  pub read_shown : (h : ℕ → Hide) (q : Processor) (l : ProcessorState) (r : ℕ) → Mid program h a q l
      → h r ≡ Shown → Live program.code r a → reg l.registers r ≡ reg q.registers r
  read_shown h q l r m e live = subst (λ x. Holds x r q l) e (m.agree r live)

  -- one more register hidden: spilled, or dead
  hide_in : (h : ℕ → Hide) (k s : ℕ) (q : Processor) (l : ProcessorState) → h s ≡ Shown
      → ((r : ℕ) → Free k (h r)) → Mid program h a q l
      → Mid program (hiding true k s h) a q (with_spill l k (reg l.registers s))
  hide_in h k s q l sh free m = record {
    place = m.place;
    running = m.running;
    agree = λ r live. elim (eqb_tells r s) [
      | inl e ↦ rw (e.0, equal k k refl) (rw e.1 (read_shown h q l s m sh
          (subst (λ x. Live program.code x a) e.1 live)))
      | inr e ↦ rw e.0 (holds_spill (h r) r k (reg l.registers s) q l (free r) (m.agree r live))
    ];
    private = m.private;
    written = m.written;
  }

  hide_dead : (h : ℕ → Hide) (k s : ℕ) (q : Processor) (l : ProcessorState) → (Live program.code s a → ⊥)
      → Mid program h a q l → Mid program (hiding false k s h) a q l
  hide_dead h k s q l dead m = record {
    place = m.place;
    running = m.running;
    agree = λ r live. elim (eqb_tells r s) [
      | inl e ↦ absurd (dead (subst (λ x. Live program.code x a) e.1 live))
      | inr e ↦ rw e.0 (m.agree r live)
    ];
    private = m.private;
    written = m.written;
  }

-- and shown again, at another place
module _ (program : Program) (b : ℕ) where
  show_again : (h : ℕ → Hide) (k s : ℕ) (q : Processor) (l : ProcessorState) → s ≢ 0 → h s ≡ Shown
      → Mid program (hiding true k s h) b q l → Mid program h b q (with_reg l s (l.spills k))
  show_again h k s q l s0 sh m = record {
    place = m.place;
    running = m.running;
    agree = λ r live. elim (eqb_tells r s) [
      | inl e ↦ subst (λ y. Holds y r q (with_reg l s (l.spills k))) (sym (ap h e.1 ∙ sh))
          (ap (reg (put l.registers s (l.spills k))) e.1 ∙ put_here l.registers s (l.spills k) s0
          ∙ (rw e.0 at (m.agree r live)))
      | inr e ↦ holds_put (h r) r s (l.spills k) q l e.1 (rw e.0 at (m.agree r live))
    ];
    private = m.private;
    written = m.written;
  }

  show_dead : (h : ℕ → Hide) (k s : ℕ) (q : Processor) (l : ProcessorState)
      → Mid program (hiding false k s h) b q l → Mid program h b q l
  show_dead h k s q l m = record {
    place = m.place;
    running = m.running;
    agree = λ r live. elim (eqb_tells r s) [
      | inl e ↦ absurd (rw e.0 at (m.agree r live))
      | inr e ↦ rw e.0 at (m.agree r live)
    ];
    private = m.private;
    written = m.written;
  }

module _ (program : Program) (kind : SequenceKind) (a : ℕ) where
  -- a word that isn't seen, and only_moves to the next; it may see how the node is then
  pub own_then : (k at : ℕ) (i : Instr) (rest : List SequenceItem) (q : Processor) (l : ProcessorState)
      (n : NodeMemory) (l' : NodeMemory → ProcessorState)
      → ((m : NodeMemory) → execute program (place_of kind a k) at (Native i) l m ≡ only_moves (l' m) m Next)
      → ((m : NodeMemory) → Suits program m → Later n m → (x y : ℕ)
      → Does program kind a (k + 1) (next_pc at) rest 0 q (lane_at x y (l' m)) m)
      → Does program kind a k at (own i rest) 0 q l n
  own_then k at i rest q l n l' e go = λ m since.
      subst (λ (r : WordOutcome). Leads program kind a k at (λ s. Does program kind a (k + 1)
      (next_pc at) rest s)
      q m r Never r.move) (sym (e m)) (refl, refl, go m since.0 (since.1 refl), refl)

  -- or not
  pub own_next : (k at : ℕ) (i : Instr) (rest : List SequenceItem) (q : Processor) (l l' : ProcessorState)
      (n : NodeMemory)
      → ((m : NodeMemory) → execute program (place_of kind a k) at (Native i) l m ≡ only_moves l' m Next)
      → ((x y : ℕ) → Does program kind a (k + 1) (next_pc at) rest 0 q (lane_at x y l') n)
      → Does program kind a k at (own i rest) 0 q l n
  own_next k at i rest q l l' n e go =
      own_then k at i rest q l n (λ m. l') e (λ m suits later x y.
      does_later program kind a (k + 1) (next_pc at) rest 0 q (lane_at x y l') n m later (go x y))

  -- one that sets a register
  pub own_sets : (k at : ℕ) (i : Instr) (rest : List SequenceItem) (q : Processor) (l : ProcessorState)
      (n : NodeMemory) (r v : ℕ) → demand_of i l.registers at ≡ Sets r v
      → ((x y : ℕ) → Does program kind a (k + 1) (next_pc at) rest 0 q
      (lane_at x y (with_reg l r v)) n) → Does program kind a k at (own i rest) 0 q l n
  own_sets k at i rest q l n r v e go = own_next k at i rest q l (with_reg l r v) n
      (λ m. ap (native program (place_of kind a k) at l m) e) go

  -- a branch past so many words
  pub own_jumps : (s k at to : ℕ) (i : Instr) (rest : List SequenceItem) (q : Processor) (l : ProcessorState)
      (n : NodeMemory) → to % 4 ≡ 0 → to ≡ skip_to s (next_pc at)
      → demand_of i l.registers at ≡ Branches to
      → ((x y : ℕ) → Does program kind a (k + 1) (next_pc at) rest s q (lane_at x y l) n)
      → Does program kind a k at (own i rest) 0 q l n
  own_jumps s k at to i rest q l n four there e go = λ m since.
      let acts : execute program (place_of kind a k) at (Native i) l m ≡ only_moves l m (To to) =
      ap (native program (place_of kind a k) at l m) e ∙ rw (equal (to % 4) 0 four) refl in
      subst (λ (r : WordOutcome). Leads program kind a k at (λ s. Does program kind a (k + 1)
      (next_pc at) rest s) q m r Never r.move) (sym acts) (
        s,
        there,
        (
          refl,
          refl,
          λ x y.
              does_later program kind a (k + 1) (next_pc at) rest s q (lane_at x y l) n m
              (since.1 refl) (go x y),
          refl,
        ),
      )

  -- a branch past the next word
  pub own_skips : (k at : ℕ) (i : Instr) (rest : List SequenceItem) (q : Processor) (l : ProcessorState)
      (n : NodeMemory) → at % 4 ≡ 0 → demand_of i l.registers at ≡ Branches (offset_address at (pos 8))
      → ((x y : ℕ) → Does program kind a (k + 1) (next_pc at) rest 1 q (lane_at x y l) n)
      → Does program kind a k at (own i rest) 0 q l n
  own_skips k at i rest q l n m e go =
      own_jumps 1 k at (offset_address at (pos 8)) i rest q l n (omega arith) (omega arith) e go

  -- the spill of a scratch register, or nothing
  pub spill_does : (spilled : Bool) (j s k at : ℕ) (h : ℕ → Hide) (q : Processor) (l : ProcessorState)
      (n : NodeMemory) (rest : List SequenceItem) → IsSpill j → h s ≡ Shown → ((r : ℕ) → Free j (h r))
      → (spilled ≡ false → Live program.code s a → ⊥) → Mid program h a q l → at % 4 ≡ 0
      → ((i to : ℕ) (l' : ProcessorState) → i ≡ k + words_if spilled → to % 4 ≡ 0
      → Mid program (hiding spilled j s h) a q l' → Does program kind a i to rest 0 q l' n)
      → Does program kind a k at (spill_by spilled j s rest) 0 q l n
  spill_does true j s k at h q l n rest i sh free dead m al go =
      let where_is : (reg l.registers 0 + unsigned 32 (spill_offset j)) % 2 ^ 32 ≡ i.address =
      ap (λ z. (z + unsigned 32 (spill_offset j)) % 2 ^ 32) (reg_zero l.registers) ∙ i.offset in
      let acts : (m : NodeMemory) → execute program (place_of kind a k) at
      (Native (Store Word 0 s (spill_offset j))) l m
      ≡ only_moves (with_spill l j (reg l.registers s)) m Next =
      λ m. ap (λ z. native program (place_of kind a k) at l m (Stores Word z (reg l.registers s)))
      where_is ∙ rw (i.aligns, i.is) refl in
      own_next k at (Store Word 0 s (spill_offset j)) rest q l (with_spill l j (reg l.registers s))
      n acts (λ x y. go (k + 1) (next_pc at) _ refl (next_aligned at al)
      (mid_at program a (hiding true j s h) q _ x y (hide_in program a h j s q l sh free m)))
  spill_does false j s k at h q l n rest i sh free dead m al go =
      go k at l (omega arith) al (hide_dead program a h j s q l (dead refl) m)

  -- the reload of one, or nothing, when the processor is at place b
  pub reload_does : (spilled : Bool) (j s k at b : ℕ) (h : ℕ → Hide) (q : Processor) (l : ProcessorState)
      (n : NodeMemory) (rest : List SequenceItem) → IsSpill j → s ≢ 0 → h s ≡ Shown
      → Mid program (hiding spilled j s h) b q l
      → ((i to : ℕ) (l' : ProcessorState) → i ≡ k + words_if spilled → Mid program h b q l'
      → Does program kind a i to rest 0 q l' n)
      → Does program kind a k at (reload_by spilled j s rest) 0 q l n
  reload_does true j s k at b h q l n rest i s0 sh m go =
      let where_is : (reg l.registers 0 + unsigned 32 (spill_offset j)) % 2 ^ 32 ≡ i.address =
      ap (λ z. (z + unsigned 32 (spill_offset j)) % 2 ^ 32) (reg_zero l.registers) ∙ i.offset in
      let acts : (m : NodeMemory) → execute program (place_of kind a k) at (Native
      (Load load_kind.Word s 0 (spill_offset j))) l m
      ≡ only_moves (with_reg l s (l.spills j)) m Next =
      λ m. ap (λ z. native program (place_of kind a k) at l m (Loads load_kind.Word s z)) where_is
      ∙ rw (i.aligns, i.is) refl in
      own_next k at (Load load_kind.Word s 0 (spill_offset j)) rest q l (with_reg l s (l.spills j))
      n acts (λ x y. go (k + 1) (next_pc at) _ refl (mid_at program b h q _ x y
      (show_again program b h j s q l s0 sh m)))
  reload_does false j s k at b h q l n rest i s0 sh m go =
      go k at l (omega arith) (show_dead program b h j s q l m)

  -- a load of the state byte of a line, by a register that has where that is
  state_byte : (k at s target : ℕ) (l : ProcessorState) (n : NodeMemory) → target < 2 ^ 32
      → reg l.registers s ≡ (target / 64 + 2 ^ 31) % 2 ^ 32
      → execute program (place_of kind a k) at (Native (Load load_kind.ByteU s s (pos 0))) l n
      ≡ only_moves (with_reg l s (n.state (target / 64))) n Next
  state_byte k at s target l n low is =
      let there = ((target / 64 + 2 ^ 31) % 2 ^ 32 + 0) % 2 ^ 32 in
      ap (λ z. native program (place_of kind a k) at l n
      (Loads load_kind.ByteU s ((z + 0) % 2 ^ 32))) is
      ∙ rw (aligned_byte there) (ap (load program l n load_kind.ByteU s there)
      (table_at target low))

  -- the state byte of the line of an address, in s, as the node is then
  pub look_does : (regs : Scratches) (rs1 : ℕ) (imm : ℤ) (k at : ℕ) (h : ℕ → Hide) (q : Processor)
      (l : ProcessorState) (n : NodeMemory) (rest : List SequenceItem) → regs.s.register ≢ 0 → regs.t.register ≢ 0
      → regs.s.register ≢ regs.t.register → IsHidden (h regs.s.register)
      → IsHidden (h regs.t.register) → h rs1 ≡ Shown → Live program.code rs1 a → Mid program h a q l
      → at % 4 ≡ 0
      → ((m : NodeMemory) → Suits program m → (i to : ℕ) (l' : ProcessorState) → i ≡ k + 5 → to % 4 ≡ 0
      → Mid program h a q l'
      → reg l'.registers regs.s.register ≡ m.state (offset_address (reg q.registers rs1) imm / 64)
      → reg l'.registers regs.t.register ≡ 0x80000000 → Does program kind a i to rest 0 q l' m)
      → Does program kind a k at (state_look regs rs1 imm rest) 0 q l n
  look_does regs rs1 imm k at h q l n rest s0 t0 st hs ht sh live m al go =
      let s = regs.s.register in
      let t = regs.t.register in
      let ts : t ≢ s = λ z. st (sym z) in
      let target = offset_address (reg q.registers rs1) imm in
      let same = read_shown program a h q l rs1 m sh live in
      let rest4 = own (Load load_kind.ByteU s s (pos 0)) rest in
      let rest3 = own (Op op.Add s s t) rest4 in
      let rest2 = own (ShiftImm shift_op.Srl s s 6) rest3 in
      let rest1 = own (Lui t 0x80000) rest2 in
      let m1 = own_set program a h q l s target hs m in
      own_sets k at (OpImm imm_op.Add s rs1 imm) rest1 q l n s target
      (ap (Sets s) (alu_add (reg l.registers rs1) (unsigned 32 imm)
      ∙ ap (λ z. (z + unsigned 32 imm) % 2 ^ 32) same)) (λ x1 y1.
      let l1 = lane_at x1 y1 (with_reg l s target) in
      let m2 = own_set program a h q l1 t 0x80000000 ht
      (mid_at program a h q (with_reg l s target) x1 y1 m1) in
      own_sets (k + 1) (next_pc at) (Lui t 0x80000) rest2 q l1 n t 0x80000000 refl (λ x2 y2.
      let l2 = lane_at x2 y2 (with_reg l1 t 0x80000000) in
      let s2 : reg l2.registers s ≡ target = put_other l1.registers t s 0x80000000 st
      ∙ put_here l.registers s target s0 in
      let t2 : reg l2.registers t ≡ 0x80000000 = put_here l1.registers t 0x80000000 t0 in
      let m3 = own_set program a h q l2 s (target / 64) hs
      (mid_at program a h q (with_reg l1 t 0x80000000) x2 y2 m2) in
      own_sets (k + 1 + 1) (next_pc (next_pc at)) (ShiftImm shift_op.Srl s s 6) rest3 q l2 n s
      (target / 64) (ap (Sets s) (alu_line (reg l2.registers s) ∙ ap (λ z. z / 64) s2)) (λ x3 y3.
      let l3 = lane_at x3 y3 (with_reg l2 s (target / 64)) in
      let s3 : reg l3.registers s ≡ target / 64 = put_here l2.registers s (target / 64) s0 in
      let t3 : reg l3.registers t ≡ 0x80000000 = put_other l2.registers s t (target / 64) ts ∙ t2 in
      let v4 = (target / 64 + 2 ^ 31) % 2 ^ 32 in
      let m4 = own_set program a h q l3 s v4 hs (mid_at program a h q (with_reg l2 s (target / 64))
      x3 y3 m3) in
      own_sets (k + 1 + 1 + 1) (next_pc (next_pc (next_pc at))) (Op op.Add s s t) rest4 q l3 n s v4
      (ap (Sets s) (alu_add (reg l3.registers s) (reg l3.registers t)
      ∙ ap (λ z. (z + reg l3.registers t) % 2 ^ 32) s3
      ∙ ap (λ z. (target / 64 + z) % 2 ^ 32) t3)) (λ x4 y4.
      let l4 = lane_at x4 y4 (with_reg l3 s v4) in
      let s4 : reg l4.registers s ≡ v4 = put_here l3.registers s v4 s0 in
      let there = next_pc (next_pc (next_pc (next_pc at))) in
      own_then (k + 1 + 1 + 1 + 1) there (Load load_kind.ByteU s s (pos 0)) rest q l4 n
      (λ (n' : NodeMemory). with_reg l4 s (n'.state (target / 64)))
      (λ n'. state_byte (k + 1 + 1 + 1 + 1) there s target l4 n' (omega arith) s4)
      (λ n' suits later x5 y5.
      let v5 = n'.state (target / 64) in
      let m5 = own_set program a h q l4 s v5 hs (mid_at program a h q (with_reg l3 s v4) x4 y4
      m4) in
      let t5 : reg (with_reg l4 s v5).registers t ≡ 0x80000000 =
      put_other l4.registers s t v5 ts ∙ put_other l3.registers s t v4 ts ∙ t3 in
      go n' suits (k + 1 + 1 + 1 + 1 + 1) (next_pc there) (lane_at x5 y5 (with_reg l4 s v5))
      (omega arith)
      (next_aligned _ (next_aligned _ (next_aligned _ (next_aligned _ (next_aligned at al)))))
      (mid_at program a h q (with_reg l4 s v5) x5 y5 m5) (put_here l4.registers s v5 s0) t5)))))

  -- the state byte of the line of a second address, in u, as the node is then, where t has
  -- where the state table is
  pub look_again_does : (regs : Scratches) (rs1 : ℕ) (imm : ℤ) (k at : ℕ) (h : ℕ → Hide)
      (q : Processor) (l : ProcessorState) (n : NodeMemory) (rest : List SequenceItem) → regs.u.register ≢ 0
      → regs.t.register ≢ regs.u.register → regs.s.register ≢ regs.u.register
      → IsHidden (h regs.u.register) → h rs1 ≡ Shown → Live program.code rs1 a
      → reg l.registers regs.t.register ≡ 0x80000000 → Mid program h a q l → at % 4 ≡ 0
      → ((m : NodeMemory) → Suits program m → Later n m → (i to : ℕ) (l' : ProcessorState) → i ≡ k + 4
      → to % 4 ≡ 0 → Mid program h a q l'
      → reg l'.registers regs.s.register ≡ reg l.registers regs.s.register
      → reg l'.registers regs.u.register ≡ m.state (offset_address (reg q.registers rs1) imm / 64)
      → Does program kind a i to rest 0 q l' m)
      → Does program kind a k at (look_again regs rs1 imm rest) 0 q l n
  look_again_does regs rs1 imm k at h q l n rest u0 tu su hu sh live t0 m al go =
      let s = regs.s.register in
      let t = regs.t.register in
      let u = regs.u.register in
      let target = offset_address (reg q.registers rs1) imm in
      let same = read_shown program a h q l rs1 m sh live in
      let rest3 = own (Load load_kind.ByteU u u (pos 0)) rest in
      let rest2 = own (Op op.Add u u t) rest3 in
      let rest1 = own (ShiftImm shift_op.Srl u u 6) rest2 in
      let m1 = own_set program a h q l u target hu m in
      own_sets k at (OpImm imm_op.Add u rs1 imm) rest1 q l n u target
      (ap (Sets u) (alu_add (reg l.registers rs1) (unsigned 32 imm)
      ∙ ap (λ z. (z + unsigned 32 imm) % 2 ^ 32) same)) (λ x1 y1.
      let l1 = lane_at x1 y1 (with_reg l u target) in
      let u1 : reg l1.registers u ≡ target = put_here l.registers u target u0 in
      let t1 : reg l1.registers t ≡ 0x80000000 = put_other l.registers u t target tu ∙ t0 in
      let s1 : reg l1.registers s ≡ reg l.registers s = put_other l.registers u s target su in
      let m2 = own_set program a h q l1 u (target / 64) hu
      (mid_at program a h q (with_reg l u target) x1 y1 m1) in
      own_sets (k + 1) (next_pc at) (ShiftImm shift_op.Srl u u 6) rest2 q l1 n u (target / 64)
      (ap (Sets u) (alu_line (reg l1.registers u) ∙ ap (λ z. z / 64) u1)) (λ x2 y2.
      let l2 = lane_at x2 y2 (with_reg l1 u (target / 64)) in
      let u2 : reg l2.registers u ≡ target / 64 = put_here l1.registers u (target / 64) u0 in
      let t2 : reg l2.registers t ≡ 0x80000000 = put_other l1.registers u t (target / 64) tu ∙ t1 in
      let s2 : reg l2.registers s ≡ reg l.registers s =
      put_other l1.registers u s (target / 64) su ∙ s1 in
      let v3 = (target / 64 + 2 ^ 31) % 2 ^ 32 in
      let m3 = own_set program a h q l2 u v3 hu
      (mid_at program a h q (with_reg l1 u (target / 64)) x2 y2 m2) in
      own_sets (k + 1 + 1) (next_pc (next_pc at)) (Op op.Add u u t) rest3 q l2 n u v3
      (ap (Sets u) (alu_add (reg l2.registers u) (reg l2.registers t)
      ∙ ap (λ z. (z + reg l2.registers t) % 2 ^ 32) u2
      ∙ ap (λ z. (target / 64 + z) % 2 ^ 32) t2)) (λ x3 y3.
      let l3 = lane_at x3 y3 (with_reg l2 u v3) in
      let u3 : reg l3.registers u ≡ v3 = put_here l2.registers u v3 u0 in
      let there = next_pc (next_pc (next_pc at)) in
      own_then (k + 1 + 1 + 1) there (Load load_kind.ByteU u u (pos 0)) rest q l3 n
      (λ (n' : NodeMemory). with_reg l3 u (n'.state (target / 64)))
      (λ n'. state_byte (k + 1 + 1 + 1) there u target l3 n' (omega arith) u3)
      (λ n' suits later x4 y4.
      let v4 = n'.state (target / 64) in
      let s4 : reg (with_reg l3 u v4).registers s ≡ reg l.registers s =
      put_other l3.registers u s v4 su ∙ put_other l2.registers u s v3 su ∙ s2 in
      let m4 = own_set program a h q l3 u v4 hu
      (mid_at program a h q (with_reg l2 u v3) x3 y3 m3) in
      go n' suits later (k + 1 + 1 + 1 + 1) (next_pc there) (lane_at x4 y4 (with_reg l3 u v4))
      (omega arith) (next_aligned _ (next_aligned _ (next_aligned _ (next_aligned at al))))
      (mid_at program a h q (with_reg l3 u v4) x4 y4 m4) s4 (put_here l3.registers u v4 u0)))))
