use Rattle.std.proofs.Common.{◌≡◌, take}
use Rattle.std.specs.List.{flat_map}
use Rattle.rewriter.specs.RewrittenFile.{mapping_bytes}
use Rattle.rewriter.proofs.file_bytes.map_bytes.Given as goal

-- the places so far are written
abbrev pub invariant-loop-entry : goal.invariant-loop-entry
invariant-loop-entry l = l.bytes.items ≡ flat_map (mapping_bytes l.image) (take l.entry-index l.plan)
