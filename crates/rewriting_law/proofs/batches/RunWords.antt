-- The words of a run, each of which commits, once the run's lines serve them.
use Rattle.std.proofs.Common.{◌≡◌, ℕ, suc, ◌+◌, ◌*◌, ◌<◌, Bool, true, false, List, [], ◌∷◌, length, Some, refl, sym, ap, ◌∙◌, subst, inr, arith}
use Rattle.std.specs.Prelude.{ℤ, pos, ◌+ℤ◌, ◌≤ℤ◌}
use Rattle.std.specs.Option.{option_map_or}
use Rattle.std.proofs.lemmas.Option.{same_Some}
use Rattle.rewriting_law.proofs.Names.{width_of, is_aligned, Width, Instr, Load, Program, IsAccepted, line_of, offset_address, uses, Sets, reg, Processor, Becomes, request, request_for, set_register, after_store, next_pc, Native, Always, Reach, SequenceItem, committing, run_items, ProcessorState, NodeMemory, WordOutcome, Next, only_moves, lane_stored, local_stored, native, execute}
use Rattle.rewriting_law.proofs.templates.RegisterLemmas.{put_other}
use Rattle.rewriting_law.proofs.templates.Does.{SequenceKind, OfRun, place_of, lane_at, may_turn, is_where, Commits, Leads, Does, does_later}
use Rattle.rewriting_law.proofs.templates.Mids.{Mid, shown, with_reg, mid_at}
use Rattle.rewriting_law.proofs.templates.Checked.{asks, low_if_mapped, sets_both, seen_value, load_misaligned, load_commits, store_commits}
use Rattle.rewriting_law.proofs.batches.RunStretches.{Each, StandAt, Within, Computes, RunWord, Sets_register, Loads_by, Stores_by}
use Rattle.rewriting_law.proofs.batches.RunLines.{Serves, BothServe, both_later, access_serves}

module _ (program : Program) (accepted : IsAccepted program) where
  -- an instruction that sets a register is the processor's step
  computes_commits : (kind : SequenceKind) (s j at a : ℕ) (q : Processor) (l : ProcessorState) (n : NodeMemory)
      (i : Instr) (rd : ℕ) (rest : List SequenceItem) → program.code a ≡ Some i
      → place_of kind s j ≡ a → (computes : Computes i rd) → Mid program shown a q l
      → ((x y : ℕ) → let v = computes.value q.registers in
      Mid program shown (a + 4) (set_register q rd v) (lane_at x y (with_reg l rd v))
      → Does program kind s (j + 1) (next_pc at) rest 0 (set_register q rd v)
      (lane_at x y (with_reg l rd v)) n)
      → Does program kind s j at (committing (Native i) rest) 0 q l n
  computes_commits kind s j at a q l n i rd rest c here computes m go = λ n' since.
      let v = computes.value q.registers in
      let lane = with_reg l rd v in
      let same : computes.value l.registers ≡ v = computes.same l.registers q.registers
      (λ r reads. m.agree r (uses i c (inr reads))) in
      let is : execute program (place_of kind s j) at (Native i) l n' ≡ only_moves lane n' Next =
      ap (native program (place_of kind s j) at l n')
      (computes.demands l.registers at ∙ ap (Sets rd) same) in
      let ask : request program q ≡ Becomes (set_register q rd v) = asks program a q i m.place c
      ∙ ap (request_for program q) (computes.demands q.registers q.pc) in
      let mid = sets_both program accepted shown a q l i rd v c
      (λ r other defines. other (sym (same_Some rd r (sym computes.defines ∙ defines))))
      (computes.next a) refl m in
      subst (λ (r : WordOutcome). Leads program kind s j at
      (λ z. Does program kind s (j + 1) (next_pc at) rest z) q n' r Always r.move) (sym is) (
        is_where program kind s j a q here m.place
            (ap (λ o. option_map_or (λ x. may_turn x a) o false) c ∙ computes.leads_on a),
        tt,
        subst (Commits program (λ p. (x y : ℕ) → Does program kind s (j + 1) (next_pc at) rest 0 p
            (lane_at x y lane) n') q n' (only_moves lane n' Next)) (sym ask) (
              m.running,
              refl,
              refl,
              refl,
              λ x y. does_later program kind s (j + 1) (next_pc at) rest 0 (set_register q rd v)
                  (lane_at x y lane) n n' (since.1 refl) (go x y
                  (mid_at program (a + 4) shown (set_register q rd v) lane x y mid)),
            ),
      )

  module _ (reach : Reach) (near : reach.high ≤ℤ (reach.low +ℤ pos 63)) (value s : ℕ)
      (place : ℕ → ℕ) where
    abbrev Serve : NodeMemory → Type 0
    Serve n = BothServe program reach value n.state

    serves : (n : NodeMemory) → Serve n → (q : Processor) → reg q.registers reach.base ≡ value
        → (imm : ℤ) (w : Width) → Within reach imm w
        → Serves program reach.stores n.state (line_of (offset_address (reg q.registers reach.base)
        imm))
    serves n serve q based imm w within =
        subst (λ z. Serves program reach.stores n.state (line_of (offset_address z imm)))
        (sym based) (access_serves program reach value n.state imm w near
        (low_if_mapped program accepted (offset_address value reach.low) serve.low.mapped) within
        serve)

    -- a word of the run, and the words behind it
    word_does : (i : Instr) (j at a : ℕ) (q : Processor) (l : ProcessorState) (n : NodeMemory)
        (rest : List SequenceItem) → RunWord reach i → program.code a ≡ Some i → place j ≡ a
        → reg q.registers reach.base ≡ value → Serve n → Mid program shown a q l
        → ((p : Processor) (l' : ProcessorState) (m : NodeMemory) → reg p.registers reach.base ≡ value → Serve m
        → Mid program shown (a + 4) p l'
        → Does program (OfRun place) s (j + 1) (next_pc at) rest 0 p l' m)
        → Does program (OfRun place) s j at (committing (Native i) rest) 0 q l n
    word_does i j at a q l n rest (Sets_register _ rd computes other) c here based serve m go =
        let v = computes.value q.registers in
        computes_commits (OfRun place) s j at a q l n i rd rest c here computes m
        (λ x y mid. go (set_register q rd v) (lane_at x y (with_reg l rd v)) n
        (put_other q.registers rd reach.base v (λ e. other (sym e)) ∙ based) serve mid)
    word_does i j at a q l n rest (Loads_by k rd imm other within) c here based serve m go =
        by (is_aligned (width_of k) x) refl
      where
        x : ℕ
        x = offset_address (reg q.registers reach.base) imm

        line : Serves program reach.stores n.state (line_of x)
        line = serves n serve q based imm (width_of k) within

        v : NodeMemory → ℕ
        v = seen_value program accepted a q shown k rd reach.base imm c refl

        by : (b : Bool) → is_aligned (width_of k) x ≡ b → Does program (OfRun place) s j at
            (committing (Native (Load k rd reach.base imm)) rest) 0 q l n
        by false f = load_misaligned program accepted a q shown k rd reach.base imm c refl n
            (OfRun place) s j at l Always rest here f m
        by true f = load_commits program accepted a q shown k rd reach.base imm c refl n
            (OfRun place) s j at l rest here refl f line.mapped line.readable m
            (λ n' later y z mid. go (set_register q rd (v n'))
            (lane_at y z (with_reg l rd (v n'))) n'
            (put_other q.registers rd reach.base (v n') (λ e. other (sym e)) ∙ based)
            (both_later program reach value n n' later serve) mid)
    word_does i j at a q l n rest (Stores_by w rs2 imm stores within) c here based serve m go =
        let x = offset_address (reg q.registers reach.base) imm in
        let v = reg q.registers rs2 in
        let line = serves n serve q based imm w within in
        store_commits program accepted a q shown w reach.base rs2 imm c refl refl n (OfRun place) s
        j at l rest here (line.granted stores) (line.writable stores) line.mapped m
        (λ n' later y z mid. go (after_store program q w x v)
        (lane_at y z (lane_stored program l w x v)) (local_stored program n' w x v) based
        (both_later program reach value n n' later serve) mid)

    -- the words of the run, and what is behind them
    pub words_do : (is : List Instr) (j at a : ℕ) (q : Processor) (l : ProcessorState) (n : NodeMemory)
        (rest : List SequenceItem) → StandAt program.code a is → Each (RunWord reach) is
        → ((k : ℕ) → k < length is → place (j + k) ≡ a + 4 * k)
        → reg q.registers reach.base ≡ value → Serve n → Mid program shown a q l
        → ((i to : ℕ) (p : Processor) (l' : ProcessorState) (m : NodeMemory)
        → Mid program shown (a + 4 * length is) p l'
        → Does program (OfRun place) s i to rest 0 p l' m)
        → Does program (OfRun place) s j at (run_items is rest) 0 q l n
    words_do [] j at a q l n rest stand words places based serve m next =
        let e : a ≡ a + 4 * 0 = omega arith in
        next j at q l n (subst (λ z. Mid program shown z q l) e m)
    words_do (i ∷ is) j at a q l n rest stand words places based serve m next =
        let here : place j ≡ a =
        (let first = places 0 (omega arith) in let j0 : j + 0 ≡ j = omega arith in
        let a0 : a + 4 * 0 ≡ a = omega arith in sym (ap place j0) ∙ first ∙ a0) in
        word_does i j at a q l n (run_items is rest) words.0 stand.0 here based serve m
        (λ p l' n' based' serve' mid.
        words_do is (j + 1) (next_pc at) (a + 4) p l' n' rest stand.1 words.1
        (λ k below. later k below) based' serve' mid
        (λ b to p2 l2 m2 mid2. next b to p2 l2 m2 (subst (λ z. Mid program shown z p2 l2) behind
        mid2)))
      where
        behind : a + 4 + 4 * length is ≡ a + 4 * length (i ∷ is)
        behind = omega arith

        later : (k : ℕ) → k < length is → place (j + 1 + k) ≡ a + 4 + 4 * k
        later k below =
            let e : j + suc k ≡ j + 1 + k = omega arith in
            let f : a + 4 * suc k ≡ a + 4 + 4 * k = omega arith in
            sym (ap place e) ∙ places (suc k) (omega arith) ∙ f
