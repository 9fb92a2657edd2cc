use Rattle.std.proofs.Common.{◌≡◌, ◌≢◌, ◌∙◌, ◌+◌, ◌<◌, ◌≤◌, length, arith}
use Rattle.std.specs.Prelude.{slice_index_or}
use Rattle.std.proofs.lemmas.Grind.{common_steps}
use Rattle.flow_graph.proofs.WordLemmas.{blank, follower_there, follower_none}
use Rattle.flow_graph.proofs.graph.follower.Goals as goal

pub returns-in_err-word : goal.returns-in_err-word
returns-in_err-word c =
    let q = c.requires in
    let past : length c.args.words.now ≤ c.args.k + 1 = grind (arith, common_steps) in
    record {
      value = c.from_residual-in_err-word.ensures ∙ follower_none c.args.words.now c.args.k c.in_ok-address.address c.args.address q.ascends q.within c.in_ok-address.was q.after (λ lt. absurd (omega (arith, lt, past)));
    }

pub overflow_add-result : goal.overflow_add-result
overflow_add-result c = let lt = c.requires.within in let few = c.requires.few in omega (arith, lt, few)

pub returns-then-word-address : goal.returns-then-word-address
returns-then-word-address c =
    let q = c.requires in
    let within : c.args.k + 1 < length c.args.words.now = grind (arith, common_steps) in
    let is : (slice_index_or c.args.words.now (c.args.k + 1) blank).address ≡ c.in_ok-address.address = grind (arith, common_steps) in
    record { value = follower_there c.args.words.now c.args.k c.in_ok-address.address c.args.address q.ascends c.in_ok-address.was within is }

pub returns-else-word-address : goal.returns-else-word-address
returns-else-word-address c =
    let q = c.requires in
    let is : (slice_index_or c.args.words.now (c.args.k + 1) blank).address ≢ c.in_ok-address.address = grind (arith, common_steps) in
    record { value = follower_none c.args.words.now c.args.k c.in_ok-address.address c.args.address q.ascends q.within c.in_ok-address.was q.after (λ lt. is) }
