-- By what is seen before and after.
use Rattle.std.proofs.Common.{◌+◌, ◌-◌, ◌||◌, cond, length, take, sym, ap, ap₂, ◌∙◌}
use Rattle.std.specs.Prelude.{is_some}
use Rattle.std.specs.Option.{option_map}
use Rattle.block_layout.specs.Layout.{Shape}
use Rattle.replay.specs.node_model.declared.NodeCounts.{NodeCounts}
use Rattle.replay.specs.node_model.Node.{Node, Phase, word_outcome, end_of, standing_in, standing_of, counts_after}
use Rattle.replay.specs.node_model.Turns.{is_ended, after_wants}
use Rattle.replay.specs.rewriting_law.CoreRun.{is_exit}
use Rattle.run_trace.specs.Looks.{reached_by, accessed_at, is_exited, waits_in, commits_when}
use Rattle.run_trace.proofs.WordEnds.{turn_node, wants_phase, turn_printed, exit_seen, wait_seen, access_is, commit_is, word_others, sends_cut, end_ends}
use Rattle.run_trace.proofs.words.word_traced.Goals as goal

pub returns : goal.returns
returns c = λ work plan n h.
    let o = word_outcome work n in
    let t = after_wants work n in
    let node = h.node ∙ turn_node work n in
    let phase = wants_phase work n in
    let end = c.end-end.ensures.value ∙ ap (λ (m : Node). end_of m.phase) node in
    let printed = h.printed ∙ turn_printed work n in
    let reached = c.reached-reached.ensures ∙ ap (reached_by c.args.before.reach) printed ∙ h.before.reach in
    let exits = c.exits-exits.ensures ∙ ap is_exited end ∙ ap (λ (p : Phase). is_exited (end_of p)) phase
    ∙ exit_seen work.budget (n.executed + 1) o.move in
    let waits = c.waits-waits.ensures
    ∙ ap waits_in (c.standing.ensures.value ∙ ap₂ standing_of h.work_is node)
    ∙ ap (λ (p : Phase). waits_in (standing_in work t.node p)) phase
    ∙ wait_seen work t.node work.budget (n.executed + 1) o.move in
    let commits = c.commits.ensures
    ∙ (λ i. exits i || commits_when (h.before.kind i) (reached i) (waits i))
    ∙ ap (λ b. is_exit o.move || b) (commit_is _ o) in
    let access = c.accessed.ensures
    ∙ (λ i. option_map (accessed_at (h.layout_is i)) (reached i))
    ∙ access_is work.layout o.access in
    let others = word_others work plan n in
    let counts = c.counts.ensures.value ∙ ap (λ (m : Node). m.counts) h.node in
    let first = sym h.before.counts in
    let tally = c.tally.ensures o.tally
    (ap (λ (k : NodeCounts). k.falses) counts ∙ others.0 ∙ ap (λ (k : NodeCounts). (counts_after o.tally k).falses) first)
    (ap (λ (k : NodeCounts). k.fallbacks) counts ∙ others.1 ∙ ap (λ (k : NodeCounts). (counts_after o.tally k).fallbacks) first) in
    let ended = c.is_some.ensures ∙ ap is_some end ∙ end_ends t.node.phase in
    let nodes = c.nodes.ensures.nodes ∙ ap (λ (l : Shape). l.nodes) h.layout_is in
    let sends = c.but_byes.ensures
    ∙ (λ i. cond (ended i) (take (length (h.sends i) - nodes i) (h.sends i)) (h.sends i))
    ∙ sends_cut work.layout.nodes t (is_ended t.node.phase) in
    λ i. record {
      place = h.before.place i;
      commits = commits i;
      access = access i;
      wants = h.wants i;
      tally = tally i;
      printed = printed i;
      sends = sends i;
      end = end i;
    }
