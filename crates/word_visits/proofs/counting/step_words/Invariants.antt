use Rattle.std.proofs.Common.{◌≡◌, ◌+◌, ◌<◌, length}
use Rattle.word_visits.proofs.SteppingLemmas.{HasStepped}
use Rattle.word_visits.proofs.counting.step_words.Given as goal

-- the next word is one of the table
abbrev pub invariant-loop-going : goal.invariant-loop-going
invariant-loop-going l = record {
  stepped : HasStepped l.image l.most l.from l.initial.body l.entries l.sums l.going l.first l.steps l.body;
  line : l.line ≡ l.going.at + l.going.left;
  inside : l.going.at < length l.strides.kinds.now;
}

abbrev pub decreases-loop-going : goal.decreases-loop-going
decreases-loop-going l = l.going.left
