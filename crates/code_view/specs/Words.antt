-- A word of rewritten code as a text: an instruction as in a listing, and a runtime word by its
-- name and its operands.
use Rattle.std.specs.Prelude.{ℕ, List, ◌++◌, Option, Some, None, codes}
use Rattle.rv32_text.specs.Listing.{register, base, indexed, word_digits, text_of_word, with_two}
use Rattle.runtime_words.specs.declared.RtWord.{RtWord}
use Rattle.runtime_words.specs.declared.RtWord.TheVariants.{Native, MissR, MissW, Poll, Call, Xjalr, Batch, Prepare, Far, TrapFetch, TrapOff, TrapIllegal, TrapEbreak}
use Rattle.runtime_words.specs.Reading.{read_word}
use Rattle.jump_map.specs.Image.{address_of_word}
use Rattle.code_view.specs.Names.{width_letter, batch_name}

-- the text of a word at an address that reads as this
abbrev pub read_text : (at word : ℕ) → RtWord → List ℕ
read_text at word (Native i) = text_of_word at word
read_text at word (MissR w rs1 imm) =
    codes "miss.r." ++ (width_letter w ++ (codes " " ++ indexed imm rs1))
read_text at word (MissW w rs1 imm) =
    codes "miss.w." ++ (width_letter w ++ (codes " " ++ indexed imm rs1))
read_text at word Poll = codes "poll"
read_text at word Call = codes "call"
read_text at word (Xjalr rd rs1 imm) = with_two (codes "xjalr") (register rd) (indexed imm rs1)
read_text at word (Batch stores rs1 rs2) = with_two (batch_name stores) (base rs1) (base rs2)
read_text at word (Prepare rs1) = codes "sc.prepare " ++ base rs1
read_text at word (Far number) = codes "far 0x" ++ word_digits (address_of_word number)
read_text at word TrapFetch = codes "trap.fetch"
read_text at word TrapOff = codes "trap.off"
read_text at word TrapIllegal = codes "trap.illegal"
read_text at word TrapEbreak = codes "trap.ebreak"

abbrev pub read_text_or : (at word : ℕ) → Option RtWord → List ℕ
read_text_or at word (Some what) = read_text at word what
read_text_or at word None = codes "unknown"

-- the text of a word of rewritten code at an address
abbrev pub rewritten_text : (at word : ℕ) → List ℕ
rewritten_text at word = read_text_or at word (read_word word)
