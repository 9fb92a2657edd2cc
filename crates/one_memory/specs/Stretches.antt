-- Helps the code alone: stretches that store, found word by word.
use Rattle.std.specs.Prelude.{ℕ, zero, suc, ◌+◌, ◌%◌, ◌^◌, Bool, false, ◌&&◌, ◌||◌, Option, Some, None}
use Rattle.std.specs.Option.{option_map_or}
use Rattle.rv32_decode.specs.declared.Instr.{Instr}
use Rattle.rv32_decode.specs.declared.Instr.TheVariants.{Store}
use Rattle.block_layout.specs.Layout.{Shape}
use Rattle.rv32_program.specs.Program.{Program}
use Rattle.rv32_step.specs.Registers.{reg}
use Rattle.rv32_step.specs.Breaks.{is_plain, leaves, stores_by, accesses_by, stands_at_store}

-- of so many words from an address on, some that begin with the first store by the base register
-- and access the block by it, where these facts are known of the words before
unfoldable pub reaches : Program → Shape → ℕ → ℕ → ℕ → ℕ → ℕ → Bool → Bool → Bool
reaches program layout b base value zero a stores accesses = stores && accesses
reaches program layout b base value (suc n) a stores accesses =
    (stores && accesses)
    || option_map_or (λ i. (is_plain i && leaves base i)
    && reaches program layout b base value n ((a + 4) % 2 ^ 32) (stores || stores_by base i)
    (accesses || accesses_by layout b base value i)) (program.code a) false

-- the base register of a store
abbrev pub store_base : Instr → Option ℕ
store_base (Store w rs1 rs2 imm) = Some rs1
store_base i = None

-- a stretch from pc stores by the base register of this store
abbrev pub reaches_as : Program → Shape → ℕ → (ℕ → ℕ) → ℕ → Instr → Bool
reaches_as program layout b registers pc i =
    option_map_or (λ base. reaches program layout b base (reg registers base) 16 pc false false)
    (store_base i) false

-- a stretch from pc stores by the base register of one of so many words from an address on
unfoldable pub reaches_by_any : Program → Shape → ℕ → (ℕ → ℕ) → ℕ → ℕ → ℕ → Bool
reaches_by_any program layout b registers pc zero a = false
reaches_by_any program layout b registers pc (suc n) a =
    option_map_or (λ i. reaches_as program layout b registers pc i
    || reaches_by_any program layout b registers pc n ((a + 4) % 2 ^ 32)) (program.code a) false

abbrev pub reaches_or_stands : Program → Shape → ℕ → (ℕ → ℕ) → ℕ → Bool
reaches_or_stands program layout b registers pc =
    stands_at_store program layout b registers pc
    || reaches_by_any program layout b registers pc 16 pc
