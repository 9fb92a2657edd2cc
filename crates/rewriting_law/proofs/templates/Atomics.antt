-- LR and the AMOs, behind the test of their line's state.
use Rattle.std.proofs.Common.{◌≡◌, ℕ, ◌+◌, ◌%◌, Bool, true, false, Some, None, refl, sym, ap, ◌∙◌, subst, inr, lit<}
use Rattle.std.specs.Prelude.{pos}
use Rattle.rewriting_law.proofs.Names.{AmoOp, Instr, Lr, Amo, Word, is_aligned, amo, stored, Misaligned, Program, IsAccepted, class_at, is_mapped, is_writable, line_of, uses, offset_address, reg, load_value, private_after, Reserves, Updates, Processor, Exchanges, ReservesAt, UpdatesAt, exit_of_demand, request, request_unless, set_register, after_exchange, next_pc, Native, Always, Scratches, HasTwoScratches, committing, reloads, read_sequence, write_sequence, ProcessorState, NodeMemory, WordOutcome, Region, Memory, is_readable_state, is_writable_state, byte_at, region_of, load, store, reserving, update, lane_stored, native, execute}
use Rattle.rv32_decode.specs.declared.LoadKind.TheVariants.{Word as WordLoad}
use Rattle.rewriting_law.proofs.templates.Does.{OfPlace, AtHead, Rest, lane_at, word_seen, Commits, Leads, FirstLeads, Does}
use Rattle.rewriting_law.proofs.templates.Mids.{Hide, Shown, Mid, with_reg, mid_at, read_shown}
use Rattle.rewriting_law.proofs.templates.Checked.{asks, memory_at, hides_of, load_outcome, refused, source_shown, destination_shown, low_if_mapped, value_same_as, sets_both, holds_store, scratch_back, leaves}
use Rattle.rewriting_law.proofs.templates.StateChecks.{read_does, write_does}

-- an AMO in a region
abbrev updated_in : Program → ProcessorState → NodeMemory → AmoOp → ℕ → ℕ → ℕ → ℕ → Region → WordOutcome
updated_in program l n o r a value old region =
    record (store program l n Word a (amo o old value) region) {
      lane = with_reg (store program l n Word a (amo o old value) region).lane r old;
      access = Exchanges a old (amo o old value);
    }

module _ (program : Program) (accepted : IsAccepted program) (a : ℕ) (q : Processor)
    (regs : Scratches) where
  abbrev hides : ℕ → Hide
  hides = hides_of regs

  module _ (rd rs1 : ℕ) (aq rl : Bool) (c : program.code a ≡ Some (Lr rd rs1 aq rl))
      (two : HasTwoScratches program.code a (Lr rd rs1 aq rl) regs) where
    abbrev lr : Instr
    lr = Lr rd rs1 aq rl

    abbrev reserved : ℕ
    reserved = offset_address (reg q.registers rs1) (pos 0)

    lr_base : hides rs1 ≡ Shown
    lr_base = source_shown program accepted a rs1 lr regs two (inr (0, lit< tt, refl))

    lr_word : (n' : NodeMemory) → is_readable_state (n'.state (line_of reserved)) ≡ true
        → is_mapped (class_at program reserved) ≡ true → (j at : ℕ) (l : ProcessorState)
        → Mid program hides a q l
        → Does program OfPlace a j at (committing (Native lr) (reloads regs)) 0 q l n'
    lr_word before may_then mapped j at l m = λ n' since.
        go n' ((since.1 refl).reads (line_of reserved) may_then) (is_aligned Word reserved) refl
      where
        K : Rest
        K = λ z. Does program OfPlace a (j + 1) (next_pc at) (reloads regs) z

        acts : (n' : NodeMemory) → execute program a at (Native lr) l n'
            ≡ native program a at l n' (Reserves rd reserved)
        acts n' = ap (λ z. native program a at l n' (Reserves rd (offset_address z (pos 0))))
            (read_shown program a hides q l rs1 m lr_base (uses lr c (inr (0, lit< tt, refl))))

        go : (n' : NodeMemory) → is_readable_state (n'.state (line_of reserved)) ≡ true → (b : Bool)
            → is_aligned Word reserved ≡ b → FirstLeads program OfPlace a j at
            (Does program OfPlace a (j + 1) (next_pc at) (reloads regs))
            (committing (Native lr) (reloads regs)) q l n'
        go n' readable false f = leaves program accepted OfPlace a j at K q l n'
            (execute program a at (Native lr) l n')
            Always (Misaligned a) (acts n' ∙ rw f refl) m.place
            (refused program accepted a q lr (Misaligned a) m.place c
            (rw f (ap (λ z. Some (Misaligned z)) m.place)))
        go n' readable true f =
            let v = word_seen program q n' reserved in
            let done = reserving reserved (load_outcome l n' WordLoad rd reserved v) in
            let p = set_register q rd v in
            let may : exit_of_demand (class_at program) q.pc (Reserves rd reserved) ≡ None =
            rw (f, mapped) refl in
            let ask : request program q ≡ ReservesAt rd reserved =
            asks program a q lr m.place c
            ∙ ap (request_unless program q (Reserves rd reserved)) may in
            let aligned : native program a at l n' (Reserves rd reserved)
            ≡ reserving reserved (load program l n' WordLoad rd reserved (region_of reserved)) =
            rw f refl in
            let is : execute program a at (Native lr) l n' ≡ done =
            acts n' ∙ aligned
            ∙ ap (λ z. reserving reserved (load program l n' WordLoad rd reserved z))
            (memory_at reserved (low_if_mapped program accepted reserved mapped))
            ∙ ap (λ z. reserving reserved (load_outcome l n' WordLoad rd reserved z))
            (value_same_as program accepted WordLoad q l n' reserved f mapped m.private) in
            let mid = sets_both program accepted hides a q l lr rd v c (λ r ne d. ne (cc)) refl
            (destination_shown program accepted a rd lr regs two refl) m in
            subst (λ (r : WordOutcome). Leads program OfPlace a j at K q n' r Always r.move) (sym is) (
              m.place,
              readable,
              subst (Commits program (λ s. (x y : ℕ) → K 0 s (lane_at x y done.lane) done.local) q
                  n' done) (sym ask) (
                    refl,
                    refl,
                    refl,
                    λ x y. scratch_back program accepted a (j + 1) (next_pc at) lr p
                        (lane_at x y (with_reg l rd v)) done.local regs c two
                        (mid_at program (a + 4) hides p (with_reg l rd v) x y mid),
                  ),
            )

    pub reserved_does : (n : NodeMemory) (at : ℕ) (l : ProcessorState) → AtHead program a q l → at % 4 ≡ 0
        → Does program OfPlace a 0 at (read_sequence regs Word rs1 (pos 0) lr) 0 q l n
    reserved_does n at l head al =
        read_does program accepted a q regs Word rs1 (pos 0) lr c
        (inr (0, lit< tt, refl)) two lr_word (λ e h. refused program accepted a q lr e head.place c
        h) n at l head al

  module _ (o : AmoOp) (rd rs1 rs2 : ℕ) (aq rl : Bool)
      (c : program.code a ≡ Some (Amo o rd rs1 rs2 aq rl))
      (two : HasTwoScratches program.code a (Amo o rd rs1 rs2 aq rl) regs) where
    abbrev update_word : Instr
    update_word = Amo o rd rs1 rs2 aq rl

    abbrev address : ℕ
    address = offset_address (reg q.registers rs1) (pos 0)

    abbrev value : ℕ
    value = reg q.registers rs2

    amo_base : hides rs1 ≡ Shown
    amo_base = source_shown program accepted a rs1 update_word regs two (inr (0, lit< tt, refl))

    amo_value : hides rs2 ≡ Shown
    amo_value = source_shown program accepted a rs2 update_word regs two (inr (1, lit< tt, refl))

    amo_word : (n' : NodeMemory) → is_writable_state (n'.state (line_of address)) ≡ true
        → is_writable (class_at program address) ≡ true
        → is_mapped (class_at program address) ≡ true → (j at : ℕ) (l : ProcessorState)
        → Mid program hides a q l
        → Does program OfPlace a j at (committing (Native update_word) (reloads regs)) 0 q l n'
    amo_word before may_then writable mapped j at l m = λ n' since.
        go n' ((since.1 refl).writes (line_of address) may_then) (is_aligned Word address) refl
      where
        K : Rest
        K = λ z. Does program OfPlace a (j + 1) (next_pc at) (reloads regs) z

        acts : (n' : NodeMemory) → execute program a at (Native update_word) l n'
            ≡ native program a at l n' (Updates o rd address value)
        acts n' = ap (λ z. native program a at l n' (Updates o rd (offset_address z (pos 0))
            (reg l.registers rs2))) (read_shown program a hides q l rs1 m amo_base
            (uses update_word c (inr (0, lit< tt, refl))))
            ∙ ap (λ z. native program a at l n' (Updates o rd address z))
            (read_shown program a hides q l rs2 m amo_value
            (uses update_word c (inr (1, lit< tt, refl))))

        go : (n' : NodeMemory) → is_writable_state (n'.state (line_of address)) ≡ true → (b : Bool)
            → is_aligned Word address ≡ b → FirstLeads program OfPlace a j at
            (Does program OfPlace a (j + 1) (next_pc at) (reloads regs))
            (committing (Native update_word) (reloads regs)) q l n'
        go n' licence false f = leaves program accepted OfPlace a j at K q l n'
            (execute program a at (Native update_word) l n') Always (Misaligned a)
            (acts n' ∙ rw f refl) m.place
            (refused program accepted a q update_word (Misaligned a) m.place c
            (rw f (ap (λ z. Some (Misaligned z)) m.place)))
        go n' licence true f =
            let old = word_seen program q n' address in
            let new = amo o old value in
            let p = after_exchange program q address new rd old in
            let done = updated_in program l n' o rd address value old Memory in
            let lane = with_reg (lane_stored program l Word address new) rd old in
            let may : exit_of_demand (class_at program) q.pc (Updates o rd address value) ≡ None =
            rw (f, writable) refl in
            let ask : request program q ≡ UpdatesAt o rd address value =
            asks program a q update_word m.place c
            ∙ ap (request_unless program q (Updates o rd address value)) may in
            let aligned : native program a at l n' (Updates o rd address value)
            ≡ update program l n' o rd address value
            (load_value WordLoad (byte_at program l n') address) = rw f refl in
            let is : execute program a at (Native update_word) l n' ≡ done =
            acts n' ∙ aligned ∙ ap (λ z. update program l n' o rd address value z)
            (value_same_as program accepted WordLoad q l n' address f mapped m.private)
            ∙ ap (λ z. updated_in program l n' o rd address value old z)
            (memory_at address (low_if_mapped program accepted address mapped)) in
            let set = sets_both program accepted hides a q l update_word rd old c
            (λ r ne d. ne (cc)) refl
            (destination_shown program accepted a rd update_word regs two refl) m in
            let mid : Mid program hides (a + 4) p lane = record {
              place = set.place;
              running = set.running;
              agree = λ r live. holds_store (hides r) r p (set_register q rd old)
                  (with_reg l rd old) lane refl refl refl (set.agree r live);
              private = ap (λ z. private_after (class_at program address) z
                  (stored Word z address new)) m.private;
              written = m.written;
            } in
            subst (λ (r : WordOutcome). Leads program OfPlace a j at K q n' r Always r.move) (sym is) (
              m.place,
              licence,
              subst (Commits program (λ s. (x y : ℕ) → K 0 s (lane_at x y done.lane) done.local) q
                  n' done) (sym ask) (
                    refl,
                    refl,
                    refl,
                    λ x y. scratch_back program accepted a (j + 1) (next_pc at) update_word p
                        (lane_at x y lane) done.local regs c two
                        (mid_at program (a + 4) hides p lane x y mid),
                  ),
            )

    pub update_does : (n : NodeMemory) (at : ℕ) (l : ProcessorState) → AtHead program a q l → at % 4 ≡ 0
        → Does program OfPlace a 0 at (write_sequence regs Word rs1 (pos 0) update_word) 0 q l n
    update_does n at l head al =
        write_does program accepted a q regs Word rs1 (pos 0) update_word c
        (inr (0, lit< tt, refl)) two amo_word (λ layout b. refl)
        (λ e h. refused program accepted a q update_word e head.place c h) n at l head al
