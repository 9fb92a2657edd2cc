use Rattle.std.proofs.Common.{◌≡◌, ◌+◌, ◌<◌, length}
use Rattle.word_visits.proofs.CountingLemmas.{HasCounted}
use Rattle.word_visits.proofs.visiting.pass_words.Given as goal

abbrev pub invariant-loop-going : goal.invariant-loop-going
invariant-loop-going l = record {
  counted : HasCounted l.image l.most l.from l.initial.body l.initial.entries l.going l.first l.body l.entries l.behind;
  line : l.line ≡ l.going.at + l.going.left;
  inside : l.going.at < length l.strides.kinds.now;
}

abbrev pub decreases-loop-going : goal.decreases-loop-going
decreases-loop-going l = l.going.left
