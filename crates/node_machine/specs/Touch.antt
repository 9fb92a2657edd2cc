-- What a word does to memory, as far as its micro-op tells.
use Rattle.std.specs.Prelude.{◌≡◌, ℕ, true}
use Rattle.rv32_decode.specs.Widths.{width_of, is_aligned}
use Rattle.node_words.specs.rv32_step.Memory.{load_value}
use Rattle.node_words.specs.rv32_step.OneMemory.{Access}
use Rattle.node_words.specs.rv32_step.OneMemory as memory
use Rattle.node_words.specs.node_model.Node.{Node, Work, Nothing_counted, byte_at, word_outcome}
use Rattle.node_machine.specs.declared.touch.Touch.{Touch}
use Rattle.node_machine.specs.declared.touch.Touch.TheVariants.{Nothing, Reads, Writes}

-- a node's word that touches memory so accesses it so
abbrev pub IsAccess : Work → Node → Touch → Access → Type 0
IsAccess work n Nothing access = access ≡ memory.Nothing
IsAccess work n (Reads kind a) access =
    (is_aligned (width_of kind) a ≡ true)
    × (access ≡ memory.Reads kind a (load_value kind (byte_at work.program n.lane n.local) a))
IsAccess work n (Writes width a) access = (value : ℕ) × (access ≡ memory.Writes width a value)

-- a node's next word touches memory so, and counts nothing
pub record IsTouch (work : Work) (n : Node) (t : Touch) : Type 0 where
  pub access : IsAccess work n t (word_outcome work n).access
  pub tally : (word_outcome work n).tally ≡ Nothing_counted
