use Rattle.std.proofs.Common.{◌≡◌, ◌+◌, ◌*◌, ◌++◌, take, vec_len}
use Rattle.std.specs.List.{flat_map}
use Rattle.elf32_write.specs.Layout.{word}
use Rattle.elf32_write.proofs.bytes.push_words.Given as goal

abbrev pub invariant-loop-word : goal.invariant-loop-word
invariant-loop-word l = record {
  written : l.out.items ≡ l.initial.out.items ++ flat_map word (take l.word-index l.words);
  len : vec_len l.out ≡ vec_len l.initial.out + 4 * l.word-index;
}
