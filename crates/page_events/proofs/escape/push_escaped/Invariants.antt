use Rattle.std.proofs.Common.{◌≡◌, ◌++◌, drop}
use Rattle.page_events.specs.Escape.{escaped}
use Rattle.page_events.proofs.escape.push_escaped.Given as goal

-- the characters that are to come, behind those that there are, make the whole
abbrev pub invariant-loop-byte : goal.invariant-loop-byte
invariant-loop-byte l = l.out.items ++ escaped (drop l.byte-index l.text)
    ≡ l.initial.out.items ++ escaped l.text
