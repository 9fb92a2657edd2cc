-- A word that waits rests on nothing that was seen before it.
use Rattle.std.proofs.Common.{◌≡◌, ℕ, ◌*◌, ◌/◌, ◌%◌, Bool, true, false, cond, eqb, List, [], ◌∷◌, ◌++◌, refl, sym, ◌∙◌}
use Rattle.std.specs.Prelude.{◌&&◌, not, pos}
use Rattle.lane_law.proofs.Names.{width_of, is_aligned, LoadKind, Width, Word, signed, Instr, Jal, holds, offset_address, line_of, CallStep, Ends, Returns, Puts, Demand, reg, demand_of, call_step, RtWord, Native, MissR, MissW, Poll, Call, Batch, Xjalr, Prepare, Far, ItemWord, Runs, GoesTo, item_word, is_near, number_of_word, distance, Need, Work, ProcessorState, NodeMemory, Want, WordOutcome, Region, Memory, region_of, load, store, store_if, make_call, native, is_mapped_state, is_readable_state, is_fixed_state, is_writable_state, one_refuses, unmet, batch_by, batch, need_of_run, execute, is_wait}
use Rattle.rv32_decode.specs.declared.LoadKind.TheVariants.{Word as WordLoad}
use Rattle.rv32_step.specs.declared.Demand.TheVariants as demand
use Rattle.rewriting_law.proofs.templates.Does.{looks_anew}

either_goes : (b : Bool) (x y : WordOutcome) → is_wait x.move ≡ false → is_wait y.move ≡ false
    → is_wait (cond b x y).move ≡ false
either_goes true x y h g = h
either_goes false x y h g = g

module _ (work : Work) (l : ProcessorState) (n : NodeMemory) where
  load_goes : (k : LoadKind) (r a : ℕ) (w : Region)
      → is_wait (load work.program l n k r a w).move ≡ false
  load_goes k r a Memory = refl
  load_goes k r a other = refl

  store_goes : (width : Width) (a value : ℕ) (w : Region)
      → is_wait (store work.program l n width a value w).move ≡ false
  store_goes width a value Memory = refl
  store_goes width a value other = refl

  conditional_goes : (r a value : ℕ) (reserved : Bool)
      → is_wait (store_if work.program l n r a value reserved).move ≡ false
  conditional_goes r a value true = store_goes Word a value (region_of a)
  conditional_goes r a value false = refl

  module _ (place at : ℕ) where
    native_goes : (d : Demand) → is_wait (native work.program place at l n d).move ≡ false
    native_goes (demand.Sets r value) = refl
    native_goes demand.Continues = refl
    native_goes (demand.Jumps r target) = either_goes (eqb (target % 4) 0) _ _ refl refl
    native_goes (demand.Branches target) = either_goes (eqb (target % 4) 0) _ _ refl refl
    native_goes (demand.Loads k r a) =
        either_goes (is_aligned (width_of k) a) _ _ (load_goes k r a (region_of a)) refl
    native_goes (demand.Stores w a value) =
        either_goes (is_aligned w a) _ _ (store_goes w a value (region_of a)) refl
    native_goes demand.Calls = refl
    native_goes (demand.Traps e) = refl
    native_goes (demand.Reserves r a) =
        either_goes (is_aligned Word a) _ _ (load_goes WordLoad r a (region_of a)) refl
    native_goes (demand.StoresIf r a value) =
        either_goes (is_aligned Word a) _ _ (conditional_goes r a value (holds n.reservation a))
        refl
    native_goes (demand.Updates o r a value) =
        either_goes (is_aligned Word a) _ _ (store_goes Word a _ (region_of a)) refl

    pub waits_anew : (w : RtWord) → is_wait (execute work.program place at w l n).move ≡ true
        → looks_anew (Runs w) ≡ true
    waits_anew (Native i) h =
        let bad : false ≡ true = sym (native_goes (demand_of i l.registers at)) ∙ h in cc
    waits_anew (MissR w rs1 imm) h = refl
    waits_anew (MissW w rs1 imm) h = refl
    waits_anew Poll h = refl
    waits_anew Call h = refl
    waits_anew (Xjalr rd rs1 imm) h =
        let target = offset_address (reg l.registers rs1) imm / 2 * 2 in
        let bad : false ≡ true = sym (either_goes (eqb (target % 4) 0) _ _ refl refl) ∙ h in cc
    waits_anew (Batch stores low high) h = refl
    waits_anew (Prepare rs1) h = refl
    waits_anew other h = let bad : false ≡ true = h in cc

    jump_goes : (near : Bool) (i : Instr) (k : ℕ)
        → is_wait (execute work.program place at (cond near (Native i) (Far k)) l n).move ≡ false
    jump_goes true i k = native_goes (demand_of i l.registers at)
    jump_goes false i k = refl

    -- of a word of a sequence
    pub item_anew : (head_of : ℕ → ℕ) (what : ItemWord)
        → is_wait (execute work.program place at (item_word head_of at what) l n).move ≡ true
        → looks_anew what ≡ true
    item_anew head_of (Runs w) h = waits_anew w h
    item_anew head_of (GoesTo b to_head) h =
        let target = head_of b in
        let goes = jump_goes (is_near at target) (Jal 0 (signed 32 (distance at target)))
        (number_of_word target) in
        let bad : false ≡ true = sym goes ∙ h in cc

  -- a word that waits leaves its processor as it was
  abbrev Same : WordOutcome → Type 0
  Same r = is_wait r.move ≡ true → r.lane ≡ l

  either_same : (b : Bool) (x y : WordOutcome) → Same x → Same y → Same (cond b x y)
  either_same true x y h g = h
  either_same false x y h g = g

  never : (r : WordOutcome) → is_wait r.move ≡ false → Same r
  never r h e = let bad : false ≡ true = sym h ∙ e in cc

  call_same : (c : CallStep) → Same (make_call work.program l n c)
  call_same (Ends code) = λ e. let bad : false ≡ true = e in cc
  call_same (Returns value) = λ e. let bad : false ≡ true = e in cc
  call_same (Puts a) =
      let state = n.state (line_of a) in
      either_same (is_mapped_state state) _ _
      (either_same (is_readable_state state) _ _ (λ e. (let bad : false ≡ true = e in cc))
      (λ e. refl)) (λ e. let bad : false ≡ true = e in cc)

  batch_same : (need : Need) (low high : ℕ) → Same (batch l n need low high)
  batch_same need low high =
      either_same (one_refuses n need low high) _ _ (λ e. refl)
      (by_wants (unmet n need low ++ unmet n need high))
    where
      by_wants : (ws : List Want) → Same (batch_by l n need low high ws)
      by_wants [] e = refl
      by_wants (w ∷ ws) e = refl

  module _ (place at : ℕ) where
    pub waits_same : (w : RtWord) → Same (execute work.program place at w l n)
    waits_same (Native i) = never (native work.program place at l n (demand_of i l.registers at))
        (native_goes place at (demand_of i l.registers at))
    waits_same (MissR w rs1 imm) =
        let a = offset_address (reg l.registers rs1) imm in
        let state = n.state (line_of a) in
        either_same (is_aligned w a) _ _ (either_same (is_mapped_state state) _ _
        (either_same (is_readable_state state) _ _ (λ e. refl) (λ e. refl)) (λ e. refl)) (λ e. refl)
    waits_same (MissW w rs1 imm) =
        let a = offset_address (reg l.registers rs1) imm in
        let state = n.state (line_of a) in
        either_same (is_aligned w a) _ _ (either_same (is_fixed_state state) _ _ (λ e. refl)
        (either_same (is_writable_state state) _ _ (λ e. refl) (λ e. refl))) (λ e. refl)
    waits_same Poll = λ e. refl
    waits_same Call = call_same (call_step l.registers l.written)
    waits_same (Xjalr rd rs1 imm) =
        let target = offset_address (reg l.registers rs1) imm / 2 * 2 in
        either_same (eqb (target % 4) 0) _ _ (λ e. (let bad : false ≡ true = e in cc)) (λ e. refl)
    waits_same (Batch stores low high) =
        batch_same (need_of_run stores) (reg l.registers low) (reg l.registers high)
    waits_same (Prepare rs1) =
        let a = offset_address (reg l.registers rs1) (pos 0) in
        let state = n.state (line_of a) in
        either_same (is_aligned Word a) _ _ (either_same (is_fixed_state state) _ _ (λ e. refl)
        (either_same (holds n.reservation a && not (is_writable_state state)) _ _ (λ e. refl)
        (λ e. refl))) (λ e. refl)
    waits_same other = λ e. refl
