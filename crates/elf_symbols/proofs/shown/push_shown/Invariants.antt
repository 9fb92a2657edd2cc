use Rattle.std.proofs.Common.{◌≡◌, ◌++◌, map, drop}
use Rattle.elf_symbols.specs.Shown.{shown_byte}
use Rattle.elf_symbols.proofs.shown.push_shown.Given as goal

-- the bytes that are to come, behind those that there are, make the whole
abbrev pub invariant-loop-byte : goal.invariant-loop-byte
invariant-loop-byte l =
    l.out.items ++ map shown_byte (drop l.byte-index l.name) ≡ l.initial.out.items ++ map shown_byte l.name
