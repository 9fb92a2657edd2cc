-- The micro-ops of rewritten code: each of its words decoded flat, once, for machines that execute
-- it many times.
use Rattle.std.specs.Prelude.{◌≡◌, ℕ, List, Option, Some, None, MatchOption, slice_get}
use Rattle.rv32_decode.specs.Fields.{unsigned}
use Rattle.runtime_words.specs.declared.RtWord.{RtWord}
use Rattle.runtime_words.specs.declared.RtWord.TheVariants.{Native, Poll, Xjalr, Far}
use Rattle.micro_op.specs.declared.micro_op.MicroOp.{MicroOp}
use Rattle.micro_op.specs.declared.MicroKind.TheVariants.{Slow}
use Rattle.micro_op.specs.rv32_step.declared.Demand.TheVariants.{Continues, Jumps}
use Rattle.micro_op.specs.Micro.{IsMicroOf, IsEntryOf, Meets, meaning_of}
use Rattle.jump_map.specs.Image.{Cell, image_base, address_of_word, read_cell}

-- the micro-op is that of a word at an address: of a native instruction, of a poll, which does
-- nothing, of an indirect jump, or of a far jump, which keeps no link; every other word is slow
abbrev pub IsMicroWord : ℕ → Option RtWord → MicroOp → Type 0
IsMicroWord address (Some (Native i)) m = IsMicroOf image_base address i m
IsMicroWord address (Some Poll) m =
    (registers : ℕ → ℕ) → Meets (meaning_of image_base m registers) Continues
IsMicroWord address (Some (Xjalr rd rs1 imm)) m =
    IsEntryOf image_base rd rs1 (unsigned 32 imm) m
IsMicroWord address (Some (Far k)) m =
    (registers : ℕ → ℕ) →
    Meets (meaning_of image_base m registers) (Jumps 0 (address_of_word k))
IsMicroWord address word m = m.kind ≡ Slow

-- the micro-op is that of the image's word of this number
pub record IsMicroAt (image : List Cell) (k : ℕ) (m : MicroOp) : Type 0 where
  pub cell : Cell
  pub there : slice_get image k ≡ Some cell
  pub micro : IsMicroWord (address_of_word k) (read_cell cell).what m

-- there is one exactly where the image has a word of this number
abbrev pub IsMicroAnswer : List Cell → ℕ → Option MicroOp → Type 0
IsMicroAnswer image k answer = MatchOption answer (slice_get image k ≡ None) (IsMicroAt image k)

-- these are the micro-ops of an image's words, as many as there are words
abbrev pub AreMicrosOf : List Cell → List MicroOp → Type 0
AreMicrosOf image micros = (index : ℕ) → IsMicroAnswer image index (slice_get micros index)
