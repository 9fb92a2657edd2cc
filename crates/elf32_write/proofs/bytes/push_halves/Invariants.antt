use Rattle.std.proofs.Common.{◌≡◌, ◌+◌, ◌*◌, ◌++◌, take, vec_len}
use Rattle.std.specs.List.{flat_map}
use Rattle.elf32_write.specs.Layout.{half}
use Rattle.elf32_write.proofs.bytes.push_halves.Given as goal

abbrev pub invariant-loop-half : goal.invariant-loop-half
invariant-loop-half l = record {
  written : l.out.items ≡ l.initial.out.items ++ flat_map half (take l.half-index l.halves);
  len : vec_len l.out ≡ vec_len l.initial.out + 2 * l.half-index;
}
