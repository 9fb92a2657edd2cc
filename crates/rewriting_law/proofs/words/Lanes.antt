-- A word leaves its processor's lane at the word, and its move says where the lane goes.
use Rattle.std.proofs.Common.{◌≡◌, ℕ, ◌*◌, ◌/◌, ◌%◌, Bool, true, false, cond, eqb, List, [], ◌∷◌, ◌++◌, refl}
use Rattle.std.specs.Prelude.{◌&&◌, not, pos}
use Rattle.rewriting_law.proofs.Names.{width_of, is_aligned, LoadKind, Width, Word, holds, offset_address, line_of, Demand, CallStep, Ends, Returns, Puts, reg, demand_of, call_step, RtWord, Native, MissR, MissW, Poll, Call, Xjalr, Prepare, Batch, Need, Work, ProcessorState, NodeMemory, WordOutcome, Region, Memory, region_of, load, store, store_if, make_call, native, is_mapped_state, is_readable_state, is_fixed_state, is_writable_state, execute, Want, batch, batch_by, one_refuses, unmet, need_of_run}
use Rattle.rv32_decode.specs.declared.LoadKind.TheVariants.{Word as WordLoad}
use Rattle.rv32_step.specs.declared.Demand.TheVariants as demand

-- a word leaves the processor's place to its move
either_at : (b : Bool) (x y : WordOutcome) (at : ℕ) → x.lane.at ≡ at → y.lane.at ≡ at
    → (cond b x y).lane.at ≡ at
either_at true x y at h g = h
either_at false x y at h g = g

module _ (work : Work) (l : ProcessorState) (n : NodeMemory) where
  load_at : (k : LoadKind) (r a : ℕ) (w : Region) → (load work.program l n k r a w).lane.at ≡ l.at
  load_at k r a Memory = refl
  load_at k r a other = refl

  store_at : (width : Width) (a value : ℕ) (w : Region)
      → (store work.program l n width a value w).lane.at ≡ l.at
  store_at width a value Memory = refl
  store_at width a value other = refl

  conditional_at : (r a value : ℕ) (reserved : Bool)
      → (store_if work.program l n r a value reserved).lane.at ≡ l.at
  conditional_at r a value true = store_at Word a value (region_of a)
  conditional_at r a value false = refl

  module _ (place at : ℕ) where
    native_at : (d : Demand) → (native work.program place at l n d).lane.at ≡ l.at
    native_at (demand.Sets r value) = refl
    native_at demand.Continues = refl
    native_at (demand.Jumps r target) = either_at (eqb (target % 4) 0) _ _ l.at refl refl
    native_at (demand.Branches target) = either_at (eqb (target % 4) 0) _ _ l.at refl refl
    native_at (demand.Loads k r a) =
        either_at (is_aligned (width_of k) a) _ _ l.at (load_at k r a (region_of a)) refl
    native_at (demand.Stores w a value) =
        either_at (is_aligned w a) _ _ l.at (store_at w a value (region_of a)) refl
    native_at demand.Calls = refl
    native_at (demand.Traps e) = refl
    native_at (demand.Reserves r a) =
        either_at (is_aligned Word a) _ _ l.at (load_at WordLoad r a (region_of a)) refl
    native_at (demand.StoresIf r a value) =
        either_at (is_aligned Word a) _ _ l.at (conditional_at r a value (holds n.reservation a))
        refl
    native_at (demand.Updates o r a value) =
        either_at (is_aligned Word a) _ _ l.at (store_at Word a _ (region_of a)) refl

    call_at : (c : CallStep) → (make_call work.program l n c).lane.at ≡ l.at
    call_at (Ends code) = refl
    call_at (Returns value) = refl
    call_at (Puts a) =
        let state = n.state (line_of a) in
        either_at (is_mapped_state state) _ _ l.at
        (either_at (is_readable_state state) _ _ l.at refl refl) refl

    batch_by_at : (need : Need) (low high : ℕ) (ws : List Want)
        → (batch_by l n need low high ws).lane.at ≡ l.at
    batch_by_at need low high [] = refl
    batch_by_at need low high (w ∷ ws) = refl

    batch_at : (need : Need) (low high : ℕ) → (batch l n need low high).lane.at ≡ l.at
    batch_at need low high =
        either_at (one_refuses n need low high) _ _ l.at refl
        (batch_by_at need low high (unmet n need low ++ unmet n need high))

    pub word_at : (w : RtWord) → (execute work.program place at w l n).lane.at ≡ l.at
    word_at (Native i) = native_at (demand_of i l.registers at)
    word_at (MissR w rs1 imm) =
        let a = offset_address (reg l.registers rs1) imm in
        let state = n.state (line_of a) in
        either_at (is_aligned w a) _ _ l.at (either_at (is_mapped_state state) _ _ l.at
        (either_at (is_readable_state state) _ _ l.at refl refl) refl) refl
    word_at (MissW w rs1 imm) =
        let a = offset_address (reg l.registers rs1) imm in
        let state = n.state (line_of a) in
        either_at (is_aligned w a) _ _ l.at (either_at (is_fixed_state state) _ _ l.at refl
        (either_at (is_writable_state state) _ _ l.at refl refl)) refl
    word_at Poll = refl
    word_at Call = call_at (call_step l.registers l.written)
    word_at (Xjalr rd rs1 imm) =
        let target = offset_address (reg l.registers rs1) imm / 2 * 2 in
        either_at (eqb (target % 4) 0) _ _ l.at refl refl
    word_at (Batch stores low high) =
        batch_at (need_of_run stores) (reg l.registers low) (reg l.registers high)
    word_at (Prepare rs1) =
        let a = offset_address (reg l.registers rs1) (pos 0) in
        let state = n.state (line_of a) in
        either_at (is_aligned Word a) _ _ l.at (either_at (is_fixed_state state) _ _ l.at refl
        (either_at (holds n.reservation a && not (is_writable_state state)) _ _ l.at refl refl))
        refl
    word_at other = refl
