use Rattle.std.proofs.Common.{◌≡◌, take}
use Rattle.std.specs.List.{flat_map}
use Rattle.rewriter.specs.RewrittenFile.{word_bytes}
use Rattle.rewriter.proofs.file_bytes.code_bytes.Given as goal

-- the words so far are written
abbrev pub invariant-loop-k : goal.invariant-loop-k
invariant-loop-k l = l.bytes.items ≡ flat_map (λ cell. word_bytes cell.word) (take l.k l.image)
