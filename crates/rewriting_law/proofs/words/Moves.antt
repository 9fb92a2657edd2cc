-- Where the words of sequences lead.
use Rattle.std.proofs.Common.{ℕ, ◌%◌, Bool, true, false, cond, eqb, List, [], ◌∷◌, ◌++◌}
use Rattle.std.specs.Prelude.{◌&&◌, not}
use Rattle.rewriting_law.proofs.Names.{width_of, is_aligned, LoadKind, Width, Word, Exit, holds, line_of, Demand, Need, Work, ProcessorState, NodeMemory, Move, Next, To, Waits, Leaves, PastWord, ByLines, WordOutcome, Region, Memory, region_of, load, store, store_if, native, is_mapped_state, is_readable_state, is_fixed_state, is_writable_state, Want, batch, batch_by, one_refuses, unmet}
use Rattle.rv32_decode.specs.declared.LoadKind.TheVariants.{Word as WordLoad}
use Rattle.rv32_step.specs.declared.Demand.TheVariants as demand
use Rattle.dsm_protocol.specs.node_model.Node as node

pub either_move : (P : Move → Type 0) (b : Bool) (x y : WordOutcome) → P x.move → P y.move
    → P (cond b x y).move
either_move P true x y h g = h
either_move P false x y h g = g

module _ (work : Work) (l : ProcessorState) (n : NodeMemory) (P : Move → Type 0) (next : P Next)
    (leaves : (e : Exit) → P (Leaves e)) where
  load_moves : (k : LoadKind) (r a : ℕ) (w : Region) → P (load work.program l n k r a w).move
  load_moves k r a Memory = next
  load_moves k r a other = next

  store_moves : (width : Width) (a value : ℕ) (w : Region)
      → P (store work.program l n width a value w).move
  store_moves width a value Memory = next
  store_moves width a value other = next

  conditional_moves : (r a value : ℕ) (reserved : Bool)
      → P (store_if work.program l n r a value reserved).move
  conditional_moves r a value true = store_moves Word a value (region_of a)
  conditional_moves r a value false = next

  module _ (place at : ℕ) where
    pub native_moves : ((target : ℕ) → P (To target)) → (d : Demand)
        → P (native work.program place at l n d).move
    native_moves to (demand.Sets r value) = next
    native_moves to demand.Continues = next
    native_moves to (demand.Jumps r target) =
        either_move P (eqb (target % 4) 0) _ _ (to target) (leaves _)
    native_moves to (demand.Branches target) =
        either_move P (eqb (target % 4) 0) _ _ (to target) (leaves _)
    native_moves to (demand.Loads k r a) =
        either_move P (is_aligned (width_of k) a) _ _ (load_moves k r a (region_of a)) (leaves _)
    native_moves to (demand.Stores w a value) =
        either_move P (is_aligned w a) _ _ (store_moves w a value (region_of a)) (leaves _)
    native_moves to demand.Calls = leaves _
    native_moves to (demand.Traps e) = leaves _
    native_moves to (demand.Reserves r a) =
        either_move P (is_aligned Word a) _ _ (load_moves WordLoad r a (region_of a)) (leaves _)
    native_moves to (demand.StoresIf r a value) =
        either_move P (is_aligned Word a) _ _ (conditional_moves r a value (holds n.reservation a))
        (leaves _)
    native_moves to (demand.Updates o r a value) =
        either_move P (is_aligned Word a) _ _ (store_moves Word a _ (region_of a)) (leaves _)

    -- a check for reading, for writing, or before a conditional store
    pub read_moves : ((w : Want) → P (Waits PastWord w [])) → (width : Width) (a : ℕ)
        → P (node.miss_r place l n width a).move
    read_moves past width a =
        let state = n.state (line_of a) in
        either_move P (is_aligned width a) _ _ (either_move P (is_mapped_state state) _ _
        (either_move P (is_readable_state state) _ _ next (past _)) (leaves _)) (leaves _)

    pub write_moves : ((w : Want) → P (Waits PastWord w [])) → (width : Width) (a : ℕ)
        → P (node.miss_w place l n width a).move
    write_moves past width a =
        let state = n.state (line_of a) in
        either_move P (is_aligned width a) _ _ (either_move P (is_fixed_state state) _ _ (leaves _)
        (either_move P (is_writable_state state) _ _ next (past _))) (leaves _)

    pub prepare_moves : ((w : Want) → P (Waits PastWord w [])) → (a : ℕ)
        → P (node.prepare place l n a).move
    prepare_moves past a =
        let state = n.state (line_of a) in
        either_move P (is_aligned Word a) _ _ (either_move P (is_fixed_state state) _ _ (leaves _)
        (either_move P (holds n.reservation a && not (is_writable_state state)) _ _ (past _) next))
        (leaves _)

  batch_by_moves : ((target : ℕ) → P (To target))
      → ((need : Need) (low high : ℕ) (w : Want) (ws : List Want)
      → P (Waits (ByLines need low high) w ws)) → (need : Need) (low high : ℕ) (ws : List Want)
      → P (batch_by l n need low high ws).move
  batch_by_moves to lines need low high [] = to _
  batch_by_moves to lines need low high (w ∷ ws) = lines need low high w ws

  pub batch_moves : ((target : ℕ) → P (To target))
      → ((need : Need) (low high : ℕ) (w : Want) (ws : List Want)
      → P (Waits (ByLines need low high) w ws)) → (need : Need) (low high : ℕ)
      → P (batch l n need low high).move
  batch_moves to lines need low high =
      either_move P (one_refuses n need low high) _ _ next
      (batch_by_moves to lines need low high (unmet n need low ++ unmet n need high))
