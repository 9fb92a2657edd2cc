use Rattle.std.proofs.Common.{◌≡◌, ◌++◌, drop}
use Rattle.templates.specs.Candidates.{candidates}
use Rattle.templates.proofs.places.candidates.Given as goal

abbrev pub invariant-loop-word : goal.invariant-loop-word
invariant-loop-word l = l.places.items ++ candidates (drop l.word-index l.words) ≡ candidates l.words
