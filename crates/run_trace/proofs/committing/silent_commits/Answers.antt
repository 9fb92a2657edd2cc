-- A silent word neither ends its processor nor waits.
use Rattle.std.proofs.Common.{false, [], refl, ap, ◌∙◌}
use Rattle.std.proofs.lemmas.Option.{IfSome_then}
use Rattle.replay.specs.node_model.Node.{word_outcome}
use Rattle.replay.specs.node_model.Core.{Core}
use Rattle.replay.specs.node_machine.NodeState.{work_of, node_of}
use Rattle.run_trace.specs.Kinds.{kind_in}
use Rattle.run_trace.specs.Looks.{access_seen, commits_when}
use Rattle.run_trace.proofs.Silent.{silent_commits}
use Rattle.run_trace.proofs.committing.silent_commits.Goals as goal

pub returns : goal.returns
returns c =
    let work = work_of c.args.node.now in
    let n = node_of c.args.node.now in
    let alone : Core = record { nodes = λ i. n; list = λ j i. [] } in
    let seen = access_seen (word_outcome work n).access in
    IfSome_then c.commits_silent.result c.commits_silent.ensures (λ is told plan kinds silent. told
    ∙ ap (λ k. commits_when k seen false)
    (c.at-2.ensures.kind ∙ ap (kind_in c.args.kinds.now) c.at.ensures.value ∙ kinds n.lane.at)
    ∙ silent_commits work plan alone 0 seen (silent.turn, silent.may) refl)
