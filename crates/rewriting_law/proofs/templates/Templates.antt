-- Each template by itself: from the head of its place to its commit, and on to the next head.
use Rattle.std.proofs.Common.{◌≡◌, ◌≢◌, ℕ, suc, ◌+◌, ◌*◌, ◌/◌, ◌%◌, ◌^◌, ◌<◌, Bool, true, false, cond, eqb, List, [], Option, Some, None, refl, sym, ap, ◌∙◌, subst, inl, inr, arith, lit<}
use Rattle.std.specs.Prelude.{ℤ, pos, not, nat_lt, IsTrue}
use Rattle.std.proofs.lemmas.Bool.Decides.{eqb_tells, leb_tells, nat_tests}
use Rattle.rewriting_law.proofs.Names.{unsigned, destination, Instr, Lui, Auipc, Jal, Jalr, Branch, Load, Store, OpImm, ShiftImm, Op, Fence, Ecall, Ebreak, Lr, Sc, Amo, Illegal, Cond, Eq, Ne, Lt, Ge, Ltu, Geu, LoadKind, ByteU, alu, taken, is_signed_below, Misaligned, Fetch, Sets, Jumps, Branches, CallStep, Ends, Returns, Puts, reg, put, demand_of, operation_of, shift_of, branch_demand, call_step, step_of, cut_short, offset_address, target_of, byte_by, CallKind, Unknown, Program, IsAccepted, call_of, class_at, is_mapped, line_of, uses, passes, Processor, Reads, Request, Becomes, Prints, request, request_at, request_for, request_unless, request_of_call, with_exit, set_register, after_call, next_pc, RtWord, Native, Call, Xjalr, TrapFetch, TrapIllegal, TrapEbreak, CommitKind, Always, IfNoWait, PlanEntry, Scratches, IsPlace, is_flag_checked, may_poll, HasScratches, HasScratchesAt, template_at, SequenceItem, committing, with_word, to_head, constant, upper_part, lower_part, inverse, load_sequence, branch_sequence, jump_sequence, is_multiple_of_four, instruction_items, place_items, poll_first, items_of, Read, flag_byte, ProcessorState, NodeMemory, WordOutcome, Next, To, Enters, Waits, SameWord, only_moves, exit_by, is_readable_state, byte_at, native, make_call, print_byte, lane_after_call, indirect, execute}
use Rattle.rv32_decode.specs.declared.ImmOp.TheVariants as imm_op
use Rattle.rv32_decode.specs.declared.LoadKind.TheVariants.{Word}
use Rattle.rv32_program.specs.declared.Exit.{Exit as Ending}
use Rattle.rv32_program.specs.declared.Exit.TheVariants.{Ebreak as EbreakExit, Illegal as IllegalExit}
use Rattle.rv32_program.specs.declared.CallKind.TheVariants.{Exit, Write}
use Rattle.rv32_program.specs.Liveness.{Next as Follows}
use Rattle.templates.specs.declared.plans.Template.TheVariants as template
use Rattle.dsm_protocol.specs.node_model.Node as node
use Rattle.rewriting_law.proofs.templates.RegisterLemmas.{apart, equal, put_here, put_both, put_twice, put_zero}
use Rattle.rewriting_law.proofs.templates.States.{Suits, ReadLook, Gone, Readable, Unreadable, read_look}
use Rattle.rewriting_law.proofs.templates.Does.{OfPlace, AtHead, byte_seen, lane_at, skip_to, Commits, Leads, Does, does_later}
use Rattle.rewriting_law.proofs.templates.Mids.{alu_add, next_aligned, own_sets, head_at}
use Rattle.rewriting_law.proofs.templates.Atomics.{reserved_does, update_does}
use Rattle.rewriting_law.proofs.templates.Conditionals.{conditional_does}
use Rattle.rewriting_law.proofs.templates.Checked.{asks, next_is, byte_mapped, leaves}
use Rattle.rewriting_law.proofs.templates.StateChecks.{state_load_does, store_does}
use Rattle.rewriting_law.proofs.templates.Flagged.{flag_load_does}

-- a processor that goes on with the next instruction; that jumps; that branches
abbrev to_next : Processor → Processor
to_next q = record q { pc = next_pc q.pc }

abbrev after_jump : Processor → ℕ → ℕ → Processor
after_jump q r target = record q { registers = put q.registers r (next_pc q.pc); pc = target }

abbrev after_branch : Processor → ℕ → Processor
after_branch q target = record q { pc = target }

-- where a code word only_moves, a place is
pub aligned_place : (program : Program) (a b : ℕ) (i : Instr) → program.code a ≡ Some i
    → target_of i a ≡ Some b → b % 4 ≡ 0 → IsPlace program.code b
aligned_place program a b i h t m = go (program.code b) refl
  where
    go : (o : Option Instr) → program.code b ≡ o → IsPlace program.code b
    go (Some j) e = inl (subst Rattle.std.specs.Prelude.IsSome (sym e) refl)
    go None e = inr (record {
      aligned = m;
      no_code = e;
      from = a;
      instruction = i;
      there = h;
      leads = inr t;
    })

not_twice : (t : Bool) → t ≡ not (not t)
not_twice true = refl
not_twice false = refl

inverse_taken : (c : Cond) (a b : ℕ) → taken (inverse c) a b ≡ not (taken c a b)
unfolding taken
inverse_taken Eq a b = refl
inverse_taken Ne a b = not_twice (eqb a b)
inverse_taken Lt a b = refl
inverse_taken Ge a b = not_twice (is_signed_below a b)
inverse_taken Ltu a b = refl
inverse_taken Geu a b = not_twice (nat_lt a b)

-- the two parts of a number make it
parts_make : (c : ℕ) → c < 2 ^ 32 → (upper_part c * 2 ^ 12 + unsigned 32 (lower_part c)) % 2 ^ 32
    ≡ c
parts_make c h = elim (leb_tells (suc (c % 2 ^ 12)) (2 ^ 11)) [
  | inl f ↦ rw f.0 (omega arith)
  | inr f ↦ rw f.0 (omega arith)
]

-- x0 stays 0, and any other register gets the number
number_in : (rd c : ℕ) (f : ℕ → ℕ) → c < 2 ^ 32 → (r : ℕ)
    → reg (put f rd ((reg (put f rd (upper_part c * 2 ^ 12)) rd + unsigned 32
    (lower_part c)) % 2 ^ 32)) r ≡ reg (put f rd c) r
number_in rd c f small r = elim (eqb_tells rd 0) [
  | inl e ↦ subst (λ z. reg (put f z ((reg (put f z (upper_part c * 2 ^ 12)) z + unsigned 32
      (lower_part c)) % 2 ^ 32)) r ≡ reg (put f z c) r) (sym e.1)
      (put_zero f _ r ∙ sym (put_zero f c r))
  | inr e ↦ ap (λ z. reg (put f rd z) r) (ap (λ z. (z + unsigned 32 (lower_part c)) % 2 ^ 32)
      (put_here f rd (upper_part c * 2 ^ 12) e.1) ∙ parts_make c small)
]

module _ (program : Program) (accepted : IsAccepted program) where
  module _ (a : ℕ) (q : Processor) (l : ProcessorState) (n : NodeMemory) (head : AtHead program a q l) where
    -- a word that commits by itself, where the processor asks for nothing of the memory
    becomes : (k at : ℕ) (i : Instr) (rest : List SequenceItem) (q' : Processor) (l' : ProcessorState)
        → ((m : NodeMemory) → execute program a at (Native i) l m ≡ only_moves l' m Next)
        → request program q ≡ Becomes q' → q'.exit ≡ None
        → ((x y : ℕ) → Does program OfPlace a (k + 1) (next_pc at) rest 0 q' (lane_at x y l') n)
        → Does program OfPlace a k at (committing (Native i) rest) 0 q l n
    becomes k at i rest q' l' is ask run go = λ m since.
        subst (λ (r : WordOutcome). Leads program OfPlace a k at
        (λ s. Does program OfPlace a (k + 1) (next_pc at) rest s) q m r Always r.move)
        (sym (is m)) (
          head.place,
          tt,
          subst (Commits program (λ p. (x y : ℕ) → Does program OfPlace a (k + 1) (next_pc at) rest
              0 p (lane_at x y l') m) q m (only_moves l' m Next)) (sym ask) (
                run,
                refl,
                refl,
                refl,
                λ x y. does_later program OfPlace a (k + 1) (next_pc at) rest 0 q' (lane_at x y l')
                    n m (since.1 refl) (go x y),
              ),
        )

    -- one that ends the processor
    ends_here : (n' : NodeMemory) (k at : ℕ) (w : RtWord) (m : CommitKind) (rest : List SequenceItem)
        (e : Ending)
        → execute program a at w l n' ≡ exit_by l n' e → request program q ≡ Becomes (with_exit q e)
        → Leads program OfPlace a k at (λ s. Does program OfPlace a (k + 1) (next_pc at) rest s) q
        n' (execute program a at w l n') m (execute program a at w l n').move
    ends_here n' k at w m rest e is ask = leaves program accepted OfPlace a k at
        (λ s. Does program OfPlace a (k + 1) (next_pc at) rest s) q l n'
        (execute program a at w l n') m e is head.place ask

    -- an instruction that stands for itself, and sets a register
    plain_does : (rd v : ℕ) (i : Instr) (at : ℕ) → program.code a ≡ Some i
        → demand_of i l.registers at ≡ Sets rd v → demand_of i q.registers q.pc ≡ Sets rd v
        → ((r : ℕ) → r ≢ rd → destination i ≡ Some r → ⊥) → Follows i a (a + 4)
        → Does program OfPlace a 0 at (committing (Native i) []) 0 q l n
    plain_does rd v i at h here there only next =
        let ask : request program q ≡ Becomes (set_register q rd v) =
        asks program a q i head.place h ∙ ap (request_for program q) there in
        becomes 0 at i [] (set_register q rd v) (node.set_register l rd v)
        (λ (m : NodeMemory). ap (native program a at l m) here) ask head.running
        (λ x y. (
          (i, h),
          record {
            place = next_is program accepted a q i head.place h;
            running = head.running;
            agree = λ r live. put_both l.registers q.registers rd v r
                (λ ne. head.agree r (passes i (a + 4) h (only r ne) next live));
            private = head.private;
            written = head.written;
          },
        ))

    fence_does : (rd rs1 bits at : ℕ) → program.code a ≡ Some (Fence rd rs1 bits)
        → Does program OfPlace a 0 at (committing (Native (Fence rd rs1 bits)) []) 0 q l n
    fence_does rd rs1 bits at h =
        becomes 0 at (Fence rd rs1 bits) [] (to_next q) l (λ m. refl)
        (asks program a q (Fence rd rs1 bits) head.place h) head.running (λ x y. (
          (Fence rd rs1 bits, h),
          record {
            place = next_is program accepted a q (Fence rd rs1 bits) head.place h;
            running = head.running;
            agree = λ r live. head.agree r (passes (Fence rd rs1 bits) (a + 4) h (λ d. cc) refl
                live);
            private = head.private;
            written = head.written;
          },
        ))

    -- a number in a register by two words, of which the second commits
    constant_does : (k at rd c : ℕ) (rest : List SequenceItem) (q' : Processor) → c < 2 ^ 32
        → request program q ≡ Becomes q' → q'.exit ≡ None
        → ((x y : ℕ) (l' : ProcessorState) → ((r : ℕ) → reg l'.registers r ≡ reg (put l.registers rd c) r)
        → l'.private ≡ l.private → l'.written ≡ l.written
        → Does program OfPlace a (k + 1 + 1) (next_pc (next_pc at)) rest 0 q' (lane_at x y l') n)
        → Does program OfPlace a k at (constant rd c rest) 0 q l n
    constant_does k at rd c rest q' small ask run go =
        own_sets program OfPlace a k at (Lui rd (upper_part c))
        (committing (Native (OpImm imm_op.Add rd rd (lower_part c))) rest) q l n rd
        (upper_part c * 2 ^ 12) refl (λ x y.
        let l1 = lane_at x y (node.set_register l rd (upper_part c * 2 ^ 12)) in
        let v = (reg l1.registers rd + unsigned 32 (lower_part c)) % 2 ^ 32 in
        let l2 = node.set_register l1 rd v in
        λ (n' : NodeMemory) since.
        let is : execute program a (next_pc at) (Native (OpImm imm_op.Add rd rd (lower_part c))) l1
        n' ≡ only_moves l2 n' Next =
        ap (λ z. native program a (next_pc at) l1 n' (Sets rd z))
        (alu_add (reg l1.registers rd) (unsigned 32 (lower_part c))) in
        subst (λ (r : WordOutcome). Leads program OfPlace a (k + 1) (next_pc at)
        (λ s. Does program OfPlace a (k + 1 + 1) (next_pc (next_pc at)) rest s) q n' r Always
        r.move) (sym is) (
          head.place,
          tt,
          subst (Commits program (λ p. (x y : ℕ) → Does program OfPlace a (k + 1 + 1)
              (next_pc (next_pc at)) rest 0 p (lane_at x y l2) n') q n' (only_moves l2 n' Next))
              (sym ask) (
                run,
                refl,
                refl,
                refl,
                λ x2 y2. does_later program OfPlace a (k + 1 + 1) (next_pc (next_pc at)) rest 0 q'
                    (lane_at x2 y2 l2) n n' (since.1 refl)
                    (go x2 y2 l2 (λ r. put_twice l.registers rd (upper_part c * 2 ^ 12) v r
                    ∙ number_in rd c l.registers small r) refl refl),
              ),
        ))

    -- an address of the program's counter in a register
    address_does : (rd upper at : ℕ) → program.code a ≡ Some (Auipc rd upper)
        → Does program OfPlace a 0 at (constant rd ((a + upper * 2 ^ 12) % 2 ^ 32) []) 0 q l n
    address_does rd upper at h =
        let c = (a + upper * 2 ^ 12) % 2 ^ 32 in
        let ask : request program q ≡ Becomes (set_register q rd c) =
        asks program a q (Auipc rd upper) head.place h
        ∙ ap (λ z. Becomes (set_register q rd ((z + upper * 2 ^ 12) % 2 ^ 32))) head.place in
        constant_does 0 at rd c [] (set_register q rd c) (omega arith) ask head.running
        (λ x y l' same private written. (
          (Auipc rd upper, h),
          record {
            place = next_is program accepted a q (Auipc rd upper) head.place h;
            running = head.running;
            agree = λ r live. same r ∙ put_both l.registers q.registers rd c r
                (λ ne. head.agree r (passes (Auipc rd upper) (a + 4) h (λ d. ne (cc)) refl live));
            private = private ∙ head.private;
            written = written ∙ head.written;
          },
        ))

    -- a taken branch or jump to an address that isn't a multiple of four ends the processor
    off_target : (at : ℕ) → at % 4 ≡ 0 → eqb (offset_address at (pos 2) % 4) 0 ≡ false
    off_target at m = let ne : offset_address at (pos 2) % 4 ≢ 0 = omega arith in
        apart (offset_address at (pos 2) % 4) 0 ne

    jump_does : (j rd : ℕ) (offset : ℤ) (at : ℕ) → program.code a ≡ Some (Jal rd offset)
        → at % 4 ≡ 0
        → (b : Bool) → is_multiple_of_four (offset_address a offset) ≡ b
        → Does program OfPlace a j at (jump_sequence b rd ((a + 4) % 2 ^ 32)
        (offset_address a offset)) 0 q l n
    jump_does j rd offset at h m true al =
        let t = offset_address a offset in
        let four : t % 4 ≡ 0 = grind (arith, nat_tests) in
        let ask : request program q ≡ Becomes (after_jump q rd t) =
        asks program a q (Jal rd offset) head.place h
        ∙ ap (λ z. request_for program q (Jumps rd (offset_address z offset))) head.place
        ∙ ap (λ b. request_unless program q (Jumps rd t) (cond b None (Some (Misaligned q.pc))))
        al in
        let next : (a + 4) % 2 ^ 32 ≡ next_pc q.pc = ap next_pc (sym head.place) in
        constant_does j at rd ((a + 4) % 2 ^ 32) (to_head t) (after_jump q rd t) (omega arith) ask
        head.running (λ x y l' same private written n' since. (
          refl,
          aligned_place program a t (Jal rd offset) h refl four,
          record {
            place = refl;
            running = head.running;
            agree = λ r live. same r ∙ put_both l.registers q.registers rd ((a + 4) % 2 ^ 32) r
                (λ ne. head.agree r (passes (Jal rd offset) t h (λ d. ne (cc))
                (ap (λ b. cond b (Some t) None) al) live))
                ∙ ap (λ z. reg (put q.registers rd z) r) next;
            private = private ∙ head.private;
            written = written ∙ head.written;
          },
        ))
    jump_does j rd offset at h m false al =
        let t = offset_address a offset in
        let ask : request program q ≡ Becomes (with_exit q (Misaligned a)) =
        asks program a q (Jal rd offset) head.place h
        ∙ ap (λ z. request_for program q (Jumps rd (offset_address z offset))) head.place
        ∙ ap (λ b. request_unless program q (Jumps rd t) (cond b None (Some (Misaligned q.pc)))) al
        ∙ ap (λ z. Becomes (with_exit q (Misaligned z))) head.place in
        λ n' since. ends_here n' j at (Native (Jal 0 (pos 2))) Always [] (Misaligned a)
        (rw (off_target at m) refl) ask

    module _ (j : ℕ) (c : Cond) (rs1 rs2 : ℕ) (offset : ℤ)
        (h : program.code a ≡ Some (Branch c rs1 rs2 offset)) where
      abbrev is_taken : Bool
      is_taken = taken c (reg q.registers rs1) (reg q.registers rs2)

      branch_effect : demand_of (Branch c rs1 rs2 offset) q.registers q.pc
          ≡ branch_demand is_taken (offset_address a offset)
      branch_effect = ap (λ z. branch_demand is_taken (offset_address z offset)) head.place

      same_1 : reg l.registers rs1 ≡ reg q.registers rs1
      same_1 = head.agree rs1 (uses (Branch c rs1 rs2 offset) h (inr (0, lit< tt, refl)))

      same_2 : reg l.registers rs2 ≡ reg q.registers rs2
      same_2 = head.agree rs2 (uses (Branch c rs1 rs2 offset) h (inr (1, lit< tt, refl)))

      asks_branch : (b : Bool) → is_taken ≡ b → request program q
          ≡ request_for program q (branch_demand b (offset_address a offset))
      asks_branch b e = asks program a q (Branch c rs1 rs2 offset) head.place h
          ∙ ap (request_for program q) (branch_effect
          ∙ ap (λ z. branch_demand z (offset_address a offset)) e)

      -- the next place follows
      falls : (x y : ℕ) → AtHead program (a + 4) (to_next q) (lane_at x y l)
      falls x y = record {
        place = next_is program accepted a q (Branch c rs1 rs2 offset) head.place h;
        running = head.running;
        agree = λ r live. head.agree r (passes (Branch c rs1 rs2 offset) (a + 4) h (λ d. cc)
            (inl refl) live);
        private = head.private;
        written = head.written;
      }

      good_branch : (at : ℕ) → at % 4 ≡ 0 → is_multiple_of_four (offset_address a offset) ≡ true
          → (b : Bool) → is_taken ≡ b → Does program OfPlace a j at
          (branch_sequence true c rs1 rs2 (offset_address a offset)) 0 q l n
      good_branch at m al b e = go b e
        where
          t : ℕ
          t = offset_address a offset

          four : t % 4 ≡ 0
          four = grind (arith, nat_tests)

          rest : List SequenceItem
          rest = to_head t

          K : ℕ → Processor → ProcessorState → NodeMemory → Type 0
          K = λ s. Does program OfPlace a (j + 1) (next_pc at) rest s

          acts : (n' : NodeMemory) (b : Bool) → is_taken ≡ b → execute program a at
              (Native (Branch (inverse c) rs1 rs2 (pos 8))) l n'
              ≡ native program a at l n' (branch_demand (not b) (offset_address at (pos 8)))
          acts n' b e = ap (λ z. native program a at l n'
              (branch_demand (taken (inverse c) z (reg l.registers rs2))
              (offset_address at (pos 8)))) same_1
              ∙ ap (λ z. native program a at l n' (branch_demand
              (taken (inverse c) (reg q.registers rs1) z) (offset_address at (pos 8)))) same_2
              ∙ ap (λ z. native program a at l n' (branch_demand z (offset_address at (pos 8))))
              (inverse_taken c (reg q.registers rs1) (reg q.registers rs2) ∙ ap not e)

          go : (b : Bool) → is_taken ≡ b → Does program OfPlace a j at
              (branch_sequence true c rs1 rs2 (offset_address a offset)) 0 q l n
          go true e =
              let ask : request program q ≡ Becomes (after_branch q t) = asks_branch true e
              ∙ ap (λ b. request_unless program q (Branches t)
              (cond b None (Some (Misaligned q.pc)))) al in
              becomes j at (Branch (inverse c) rs1 rs2 (pos 8)) rest (after_branch q t) l
              (λ n'. acts n' true e) ask head.running (λ x y n' since. (
                refl,
                aligned_place program a t (Branch c rs1 rs2 offset) h refl four,
                record {
                  place = refl;
                  running = head.running;
                  agree = λ r live. head.agree r (passes (Branch c rs1 rs2 offset) t h (λ d. cc)
                      (inr (ap (λ b. cond b (Some t) None) al)) live);
                  private = head.private;
                  written = head.written;
                },
              ))
          go false e = λ (n' : NodeMemory) since.
              let ask : request program q ≡ Becomes (to_next q) = asks_branch false e in
              let eight : offset_address at (pos 8) % 4 ≡ 0 = omega arith in
              let is : execute program a at (Native (Branch (inverse c) rs1 rs2 (pos 8))) l n'
              ≡ only_moves l n' (To (offset_address at (pos 8))) = acts n' false e
              ∙ rw (equal (offset_address at (pos 8) % 4) 0 eight) refl in
              let there : offset_address at (pos 8) ≡ skip_to 1 (next_pc at) = omega arith in
              subst (λ (r : WordOutcome). Leads program OfPlace a j at K q n' r Always r.move)
              (sym is) (
                1,
                there,
                (
                  head.place,
                  tt,
                  subst (Commits program (λ p. (x y : ℕ) → K 1 p (lane_at x y l) n') q n'
                      (only_moves l n' (To (offset_address at (pos 8))))) (sym ask) (
                        head.running,
                        refl,
                        refl,
                        refl,
                        λ x y. ((Branch c rs1 rs2 offset, h), falls x y),
                      ),
                ),
              )

      bad_branch : (at : ℕ) → at % 4 ≡ 0 → is_multiple_of_four (offset_address a offset) ≡ false
          → (b : Bool) → is_taken ≡ b → Does program OfPlace a j at
          (branch_sequence false c rs1 rs2 (offset_address a offset)) 0 q l n
      bad_branch at m al b e = go b e
        where
          t : ℕ
          t = offset_address a offset

          acts : (n' : NodeMemory) (b : Bool) → is_taken ≡ b → execute program a at
              (Native (Branch c rs1 rs2 (pos 2))) l n'
              ≡ native program a at l n' (branch_demand b (offset_address at (pos 2)))
          acts n' b e = ap (λ z. native program a at l n'
              (branch_demand (taken c z (reg l.registers rs2)) (offset_address at (pos 2)))) same_1
              ∙ ap (λ z. native program a at l n' (branch_demand (taken c (reg q.registers rs1) z)
              (offset_address at (pos 2)))) same_2
              ∙ ap (λ z. native program a at l n' (branch_demand z (offset_address at (pos 2)))) e

          go : (b : Bool) → is_taken ≡ b → Does program OfPlace a j at
              (branch_sequence false c rs1 rs2 (offset_address a offset)) 0 q l n
          go true e =
              let ask : request program q ≡ Becomes (with_exit q (Misaligned a)) =
              asks_branch true e ∙ ap (λ b. request_unless program q (Branches t)
              (cond b None (Some (Misaligned q.pc)))) al
              ∙ ap (λ z. Becomes (with_exit q (Misaligned z))) head.place in
              λ n' since. ends_here n' j at (Native (Branch c rs1 rs2 (pos 2))) Always []
              (Misaligned a) (acts n' true e ∙ rw (off_target at m) refl) ask
          go false e = becomes j at (Branch c rs1 rs2 (pos 2)) [] (to_next q) l
              (λ n'. acts n' false e) (asks_branch false e) head.running
              (λ x y. ((Branch c rs1 rs2 offset, h), falls x y))

      branch_does : (at : ℕ) → at % 4 ≡ 0 → (b : Bool)
          → is_multiple_of_four (offset_address a offset) ≡ b
          → Does program OfPlace a j at (branch_sequence b c rs1 rs2 (offset_address a offset)) 0 q
          l n
      branch_does at m true al = good_branch at m al is_taken refl
      branch_does at m false al = bad_branch at m al is_taken refl

    -- an indirect jump, at which every register is live
    indirect_does : (j rd rs1 : ℕ) (imm : ℤ) (at : ℕ) → program.code a ≡ Some (Jalr rd rs1 imm)
        → Does program OfPlace a j at (committing (Xjalr rd rs1 imm) []) 0 q l n
    indirect_does j rd rs1 imm at h = go (eqb (t % 4) 0) refl
      where
        t : ℕ
        t = offset_address (reg q.registers rs1) imm / 2 * 2

        same : (r : ℕ) → reg l.registers r ≡ reg q.registers r
        same r = head.agree r (uses (Jalr rd rs1 imm) h (inl refl))

        K : ℕ → Processor → ProcessorState → NodeMemory → Type 0
        K = λ s. Does program OfPlace a (j + 1) (next_pc at) [] s

        acts : (n' : NodeMemory) → execute program a at (Xjalr rd rs1 imm) l n' ≡ indirect a l n' rd t
        acts n' = ap (λ z. indirect a l n' rd (offset_address z imm / 2 * 2)) (same rs1)

        go : (b : Bool) → eqb (t % 4) 0 ≡ b → Does program OfPlace a j at
            (committing (Xjalr rd rs1 imm) []) 0 q l n
        go true e =
            let ask : request program q ≡ Becomes (after_jump q rd t) =
            asks program a q (Jalr rd rs1 imm) head.place h
            ∙ ap (λ b. request_unless program q (Jumps rd t) (cond b None (Some (Misaligned q.pc))))
            e in
            let l' = node.set_register l rd (next_pc a) in
            λ (n' : NodeMemory) since.
            let is : execute program a at (Xjalr rd rs1 imm) l n' ≡ only_moves l' n' (Enters t) = acts n'
            ∙ rw e refl in
            subst (λ (r : WordOutcome). Leads program OfPlace a j at K q n' r Always r.move) (sym is) (
              head.place,
              tt,
              subst (Commits program (λ p. AtHead program t p l') q n' (only_moves l' n' (Enters t)))
                  (sym ask) (
                    head.running,
                    refl,
                    refl,
                    refl,
                    record {
                      place = refl;
                      running = head.running;
                      agree = λ r live. put_both l.registers q.registers rd (next_pc a) r (λ ne.
                          same r)
                          ∙ ap (λ z. reg (put q.registers rd (next_pc z)) r) (sym head.place);
                      private = head.private;
                      written = head.written;
                    },
                  ),
            )
        go false e =
            let ask : request program q ≡ Becomes (with_exit q (Misaligned a)) =
            asks program a q (Jalr rd rs1 imm) head.place h
            ∙ ap (λ b. request_unless program q (Jumps rd t)
            (cond b None (Some (Misaligned q.pc)))) e
            ∙ ap (λ z. Becomes (with_exit q (Misaligned z))) head.place in
            λ n' since. ends_here n' j at (Xjalr rd rs1 imm) Always [] (Misaligned a)
            (acts n' ∙ rw e refl) ask

    break_does : (at : ℕ) → program.code a ≡ Some Ebreak
        → Does program OfPlace a 0 at (committing TrapEbreak []) 0 q l n
    break_does at h = λ n' since. ends_here n' 0 at TrapEbreak Always [] (EbreakExit a) refl
        (asks program a q Ebreak head.place h ∙ ap (λ z. Becomes (with_exit q (EbreakExit z)))
        head.place)

    illegal_does : (w : _) (at : ℕ) → program.code a ≡ Some (Illegal w)
        → Does program OfPlace a 0 at (committing TrapIllegal []) 0 q l n
    illegal_does w at h = λ n' since. ends_here n' 0 at TrapIllegal Always [] (IllegalExit a) refl
        (asks program a q (Illegal w) head.place h
        ∙ ap (λ z. Becomes (with_exit q (IllegalExit z))) head.place)

    stop_does : (at : ℕ) → program.code a ≡ None
        → Does program OfPlace a 0 at (committing TrapFetch []) 0 q l n
    stop_does at h = λ n' since. ends_here n' 0 at TrapFetch Always [] (Fetch a) refl
        (ap (request_at program q) (ap program.code head.place ∙ h)
        ∙ ap (λ z. Becomes (with_exit q (Fetch z))) head.place)

    -- a call, at which every register is live
    module _ (h : program.code a ≡ Some Ecall) (at : ℕ) where
      same_all : (r : ℕ) → reg l.registers r ≡ reg q.registers r
      same_all r = head.agree r (uses Ecall h (inl refl))

      abbrev Good : NodeMemory → WordOutcome → Type 0
      Good n r = Leads program OfPlace a 0 at
          (λ s. Does program OfPlace a (0 + 1) (next_pc at) [] s) q n r IfNoWait r.move

      returns_does : (n : NodeMemory) (v : ℕ) → request program q ≡ Becomes (after_call q v)
          → Good n (only_moves (lane_after_call l v) n Next)
      returns_does n v ask = (
        head.place,
        tt,
        subst (Commits program (λ p. (x y : ℕ) → Does program OfPlace a (0 + 1) (next_pc at) [] 0 p
            (lane_at x y (lane_after_call l v)) n) q n (only_moves (lane_after_call l v) n Next))
            (sym ask) (
              head.running,
              refl,
              refl,
              refl,
              λ x y. (
                (Ecall, h),
                record {
                  place = next_is program accepted a q Ecall head.place h;
                  running = head.running;
                  agree = λ r live. put_both l.registers q.registers 10 v r (λ ne. same_all r);
                  private = head.private;
                  written = refl;
                },
              ),
            ),
      )

      prints_does : (n : NodeMemory) (x : ℕ) → is_mapped (class_at program x) ≡ true
          → is_readable_state (n.state (line_of x)) ≡ true → request program q ≡ Prints x
          → Good n (print_byte l n x (byte_at program l n x))
      prints_does n x mapped readable ask =
          let byte : byte_at program l n x ≡ byte_seen program q n x =
          byte_mapped (class_at program x) (n.copy x) (program.first x) (l.private x) (flag_byte x)
          mapped ∙ ap (λ f. byte_by (class_at program x) (n.copy x) (program.first x) (f x) 0)
          head.private in (
            refl,
            refl,
            (
              head.place,
              readable,
              subst (Commits program (λ p. AtHead program a p
                  (print_byte l n x (byte_at program l n x)).lane) q n
                  (print_byte l n x (byte_at program l n x))) (sym ask) (
                    ap (Reads ByteU x) byte,
                    ap (λ b. Some b) byte,
                    refl,
                    record {
                      place = head.place;
                      running = head.running;
                      agree = head.agree;
                      private = head.private;
                      written = ap (λ w. w + 1) head.written;
                    },
                  ),
            ),
          )

      call_step_does : (n : NodeMemory) → Suits program n → (c : CallStep)
          → request program q ≡ request_of_call program q c → Good n (make_call program l n c)
      call_step_does n suits (Ends code) ask = (head.place, ask, refl, refl, refl)
      call_step_does n suits (Returns v) ask = returns_does n v ask
      call_step_does n suits (Puts x) ask = go (read_look (class_at program x) (n.state (line_of x))
          (suits.states (line_of x)))
        where
          by : Bool → Request
          by b = cond b (Prints x) (Becomes (after_call q (cut_short q.written)))

          waits : WordOutcome
          waits = only_moves l n (Waits SameWord (record { at = x; need = Read }) [])

          go : ReadLook (class_at program x) (n.state (line_of x))
              → Good n (make_call program l n (Puts x))
          go (Gone unmapped gone unreadable) =
              let cut = ask ∙ ap by (ap is_mapped unmapped)
              ∙ ap (λ w. Becomes (after_call q (cut_short w))) (sym head.written) in
              let does : make_call program l n (Puts x)
              ≡ only_moves (lane_after_call l (cut_short l.written)) n Next = rw gone refl in
              subst (Good n) (sym does) (returns_does n (cut_short l.written) cut)
          go (Readable mapped known readable) =
              let does : make_call program l n (Puts x)
              ≡ print_byte l n x (byte_at program l n x) = rw (known, readable) refl in
              subst (Good n) (sym does) (prints_does n x mapped readable (ask ∙ ap by mapped))
          go (Unreadable shared known unreadable) =
              let does : make_call program l n (Puts x) ≡ waits = rw (known, unreadable) refl in
              subst (Good n) (sym does) (
                refl,
                refl,
                refl,
                omega arith,
                (record { shared = shared; unmet = unreadable; seeks = tt }, tt),
                λ n' suited granted. (refl, refl, head),
                refl,
              )

      same_step : (k : CallKind) → step_of k l.registers l.written ≡ step_of k q.registers l.written
      same_step Exit = ap (λ z. Ends (z % 2 ^ 8)) (same_all 10)
      same_step Write = rw (same_all 10, same_all 11, same_all 12) refl
      same_step Unknown = refl

      call_does : Does program OfPlace a 0 at (with_word IfNoWait Call []) 0 q l n
      call_does =
          let steps : call_step l.registers l.written ≡ call_step q.registers q.written =
          ap (λ z. step_of (call_of z) l.registers l.written) (same_all 17)
          ∙ same_step (call_of (reg q.registers 17)) ∙ ap (call_step q.registers) head.written in
          λ n' since. (
            (refl, refl, head),
            call_step_does n' since.0 (call_step l.registers l.written)
                (asks program a q Ecall head.place h ∙ ap (request_of_call program q) (sym steps)),
          )

  -- a load, by its value or its line's state
  load_does : (a : ℕ) (regs : Scratches) (q : Processor) (l : ProcessorState) (n : NodeMemory) (at : ℕ)
      (k : LoadKind) (rd rs1 : ℕ) (imm : ℤ) → program.code a ≡ Some (Load k rd rs1 imm)
      → AtHead program a q l → at % 4 ≡ 0 → (by_value : Bool)
      → is_flag_checked k rd rs1 ≡ by_value
      → HasScratches (cond by_value template.FlagLoad template.StateLoad) program.code a
      (Load k rd rs1 imm) regs
      → Does program OfPlace a 0 at (load_sequence by_value regs k rd rs1 imm) 0 q l n
  load_does a regs q l n at Word rd rs1 imm h head m true is one =
      flag_load_does program accepted a q regs rd rs1 imm h is one n at l head m
  load_does a regs q l n at k rd rs1 imm h head m false is two =
      state_load_does program accepted a q regs k rd rs1 imm h two n at l head m
  load_does a regs q l n at other rd rs1 imm h head m true is one =
      let bad : false ≡ true = is in cc

  -- from the head of the place of an instruction, with any admissible scratch registers
  place_does : (a : ℕ) (regs : Scratches) (q : Processor) (l : ProcessorState) (n : NodeMemory) (at : ℕ)
      (i : Instr) → program.code a ≡ Some i
      → HasScratchesAt (template_at a (Some i)) program.code a (Some i) regs
      → AtHead program a q l → at % 4 ≡ 0
      → Does program OfPlace a 0 at (instruction_items a regs i) 0 q l n
  place_does a regs q l n at Ecall h two head m = call_does a q l n head h at
  place_does a regs q l n at (Lui rd upper) h two head m =
      plain_does a q l n head rd (upper * 2 ^ 12) (Lui rd upper) at h refl refl (λ r ne d. ne (cc))
      refl
  place_does a regs q l n at (OpImm o rd rs1 imm) h two head m =
      let same = head.agree rs1 (uses (OpImm o rd rs1 imm) h (inr (0, lit< tt, refl))) in
      plain_does a q l n head rd (alu (operation_of o) (reg q.registers rs1) (unsigned 32 imm))
      (OpImm o rd rs1 imm) at h (ap (λ z. Sets rd (alu (operation_of o) z (unsigned 32 imm)))
      same) refl (λ r ne d. ne (cc)) refl
  place_does a regs q l n at (ShiftImm o rd rs1 amount) h two head m =
      let same = head.agree rs1 (uses (ShiftImm o rd rs1 amount) h (inr (0, lit< tt, refl))) in
      plain_does a q l n head rd (alu (shift_of o) (reg q.registers rs1) amount)
      (ShiftImm o rd rs1 amount) at h (ap (λ z. Sets rd (alu (shift_of o) z amount)) same) refl
      (λ r ne d. ne (cc)) refl
  place_does a regs q l n at (Op o rd rs1 rs2) h two head m =
      let same_1 = head.agree rs1 (uses (Op o rd rs1 rs2) h (inr (0, lit< tt, refl))) in
      let same_2 = head.agree rs2 (uses (Op o rd rs1 rs2) h (inr (1, lit< tt, refl))) in
      plain_does a q l n head rd (alu o (reg q.registers rs1) (reg q.registers rs2))
      (Op o rd rs1 rs2) at h (ap (λ z. Sets rd (alu o z (reg l.registers rs2))) same_1
      ∙ ap (λ z. Sets rd (alu o (reg q.registers rs1) z)) same_2) refl (λ r ne d. ne (cc)) refl
  place_does a regs q l n at (Fence rd rs1 bits) h two head m =
      fence_does a q l n head rd rs1 bits at h
  place_does a regs q l n at (Auipc rd upper) h two head m = address_does a q l n head rd upper at h
  place_does a regs q l n at (Jal rd offset) h two head m =
      jump_does a q l n head 0 rd offset at h m (is_multiple_of_four (offset_address a offset)) refl
  place_does a regs q l n at (Jalr rd rs1 imm) h two head m =
      indirect_does a q l n head 0 rd rs1 imm at h
  place_does a regs q l n at (Branch c rs1 rs2 offset) h two head m =
      branch_does a q l n head 0 c rs1 rs2 offset h at m
      (is_multiple_of_four (offset_address a offset)) refl
  place_does a regs q l n at (Load k rd rs1 imm) h scratches head m =
      load_does a regs q l n at k rd rs1 imm h head m (is_flag_checked k rd rs1) refl scratches
  place_does a regs q l n at (Store w rs1 rs2 imm) h two head m =
      store_does program accepted a q regs w rs1 rs2 imm h two n at l head m
  place_does a regs q l n at Ebreak h two head m = break_does a q l n head at h
  place_does a regs q l n at (Illegal w) h two head m = illegal_does a q l n head w at h
  place_does a regs q l n at (Lr rd rs1 aq rl) h two head m =
      reserved_does program accepted a q regs rd rs1 aq rl h two n at l head m
  place_does a regs q l n at (Sc rd rs1 rs2 aq rl) h two head m =
      conditional_does program accepted a q rd rs1 rs2 aq rl h n at l head
  place_does a regs q l n at (Amo o rd rs1 rs2 aq rl) h two head m =
      update_does program accepted a q regs o rd rs1 rs2 aq rl h two n at l head m

  -- behind a poll, which only a branch or a jump has
  behind_poll : (a : ℕ) (regs : Scratches) (q : Processor) (l : ProcessorState) (n : NodeMemory) (at : ℕ)
      (o : Option Instr) → program.code a ≡ o → IsTrue (may_poll (template_at a o))
      → AtHead program a q l → at % 4 ≡ 0 → Does program OfPlace a 1 at (place_items a regs o) 0 q l
      n
  behind_poll a regs q l n at (Some (Jal rd offset)) h may head m =
      jump_does a q l n head 1 rd offset at h m (is_multiple_of_four (offset_address a offset)) refl
  behind_poll a regs q l n at (Some (Jalr rd rs1 imm)) h may head m =
      indirect_does a q l n head 1 rd rs1 imm at h
  behind_poll a regs q l n at (Some (Branch c rs1 rs2 offset)) h may head m =
      branch_does a q l n head 1 c rs1 rs2 offset h at m
      (is_multiple_of_four (offset_address a offset)) refl
  behind_poll a regs q l n at (Some (Load k rd rs1 imm)) h may head m =
      absurd (no_poll (is_flag_checked k rd rs1) may)
    where
      no_poll : (b : Bool) → may_poll (cond b template.FlagLoad template.StateLoad) ≡ true → ⊥
      no_poll true e = let bad : false ≡ true = e in cc
      no_poll false e = let bad : false ≡ true = e in cc
  behind_poll a regs q l n at None h may head m = let bad : false ≡ true = may in cc
  behind_poll a regs q l n at (Some (Lui rd upper)) h may head m =
      let bad : false ≡ true = may in cc
  behind_poll a regs q l n at (Some (Auipc rd upper)) h may head m =
      let bad : false ≡ true = may in cc
  behind_poll a regs q l n at (Some (Store w rs1 rs2 imm)) h may head m =
      let bad : false ≡ true = may in cc
  behind_poll a regs q l n at (Some (OpImm o rd rs1 imm)) h may head m =
      let bad : false ≡ true = may in cc
  behind_poll a regs q l n at (Some (ShiftImm o rd rs1 amount)) h may head m =
      let bad : false ≡ true = may in cc
  behind_poll a regs q l n at (Some (Op o rd rs1 rs2)) h may head m =
      let bad : false ≡ true = may in cc
  behind_poll a regs q l n at (Some (Fence rd rs1 bits)) h may head m =
      let bad : false ≡ true = may in cc
  behind_poll a regs q l n at (Some Ecall) h may head m = let bad : false ≡ true = may in cc
  behind_poll a regs q l n at (Some Ebreak) h may head m = let bad : false ≡ true = may in cc
  behind_poll a regs q l n at (Some (Lr rd rs1 aq rl)) h may head m =
      let bad : false ≡ true = may in cc
  behind_poll a regs q l n at (Some (Sc rd rs1 rs2 aq rl)) h may head m =
      let bad : false ≡ true = may in cc
  behind_poll a regs q l n at (Some (Amo o rd rs1 rs2 aq rl)) h may head m =
      let bad : false ≡ true = may in cc
  behind_poll a regs q l n at (Some (Illegal word)) h may head m =
      let bad : false ≡ true = may in cc

  -- from the head of any place
  pub entry_does : (e : PlanEntry) (q : Processor) (l : ProcessorState) (n : NodeMemory) (at : ℕ)
      (o : Option Instr) → program.code e.address ≡ o
      → HasScratchesAt (template_at e.address o) program.code e.address o e.single
      → (IsTrue e.polls → IsTrue (may_poll (template_at e.address o)))
      → AtHead program e.address q l → at % 4 ≡ 0
      → Does program OfPlace e.address 0 at (items_of e o) 0 q l n
  entry_does e q l n at o h scratches polls head m = go e.polls refl
    where
      single : (o : Option Instr) → program.code e.address ≡ o
          → HasScratchesAt (template_at e.address o) program.code e.address o e.single
          → Does program OfPlace e.address 0 at (place_items e.address e.single o) 0 q l n
      single None h scratches = stop_does e.address q l n head at h
      single (Some i) h scratches = place_does e.address e.single q l n at i h scratches head m

      go : (b : Bool) → e.polls ≡ b
          → Does program OfPlace e.address 0 at (poll_first b (place_items e.address e.single o)) 0
          q l n
      go false is = single o h scratches
      go true is = λ n' since. (
        (refl, refl, head),
        (
          refl,
          refl,
          λ x y. behind_poll e.address e.single q (lane_at x y l) n' (next_pc at) o h (polls is)
              (head_at program e.address q l x y head) (next_aligned at m),
          refl,
        ),
      )
