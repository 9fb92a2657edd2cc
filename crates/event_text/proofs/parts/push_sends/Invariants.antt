use Rattle.std.proofs.Common.{◌≡◌, ◌++◌, drop}
use Rattle.event_text.specs.Parts.{sends_text}
use Rattle.event_text.proofs.parts.push_sends.Given as goal

-- the texts that are to come, behind those that there are, make the whole
abbrev pub invariant-loop-sent : goal.invariant-loop-sent
invariant-loop-sent l = l.out.items ++ sends_text (drop l.sent-index l.sends)
    ≡ l.initial.out.items ++ sends_text l.sends
