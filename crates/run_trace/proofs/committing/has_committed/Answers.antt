-- By what was seen before the word, and of its node behind it.
use Rattle.std.proofs.Common.{◌+◌, ◌||◌, ap, ◌∙◌}
use Rattle.replay.specs.node_model.Node.{Node, Phase, word_outcome, end_of, standing_in, standing_of}
use Rattle.replay.specs.node_model.Turns.{after_wants}
use Rattle.replay.specs.node_machine.NodeState.{work_of}
use Rattle.replay.specs.rewriting_law.CoreRun.{is_exit}
use Rattle.run_trace.specs.Looks.{reached_by, is_exited, waits_in, commits_when}
use Rattle.run_trace.proofs.WordEnds.{turn_node, wants_phase, turn_printed, exit_seen, wait_seen, commit_is}
use Rattle.run_trace.proofs.committing.has_committed.Goals as goal

pub returns : goal.returns
returns c = λ plan n sight printed node.
    let work = work_of c.args.node.now in
    let o = word_outcome work n in
    let t = after_wants work n in
    let behind = node ∙ turn_node work n in
    let phase = wants_phase work n in
    let reached = c.reached-reached.ensures
    ∙ ap (reached_by c.args.sight.reach) (printed ∙ turn_printed work n) ∙ sight.reach in
    let exits = c.exits.ensures
    ∙ ap is_exited (c.end.ensures.value ∙ ap (λ (m : Node). end_of m.phase) behind)
    ∙ ap (λ (p : Phase). is_exited (end_of p)) phase
    ∙ exit_seen work.budget (n.executed + 1) o.move in
    let waits = c.waits.ensures
    ∙ ap waits_in (c.standing.ensures.value ∙ ap (standing_of work) behind)
    ∙ ap (λ (p : Phase). waits_in (standing_in work t.node p)) phase
    ∙ wait_seen work t.node work.budget (n.executed + 1) o.move in
    c.commits.ensures ∙ (λ i. exits i || commits_when (sight.kind i) (reached i) (waits i))
    ∙ ap (λ b. is_exit o.move || b) (commit_is _ o)
