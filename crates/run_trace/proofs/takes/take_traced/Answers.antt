-- By what is seen before and after.
use Rattle.std.proofs.Common.{◌-◌, ◌||◌, not, eqb, cond, length, take, refl, sym, ap, ◌∙◌}
use Rattle.std.specs.Prelude.{is_some}
use Rattle.std.specs.Option.{option_map}
use Rattle.replay.specs.node_model.home_directory.dsm_messages.Headers.{header_of}
use Rattle.replay.specs.node_model.declared.NodeCounts.{NodeCounts}
use Rattle.replay.specs.node_model.Node.{Node, counts_after}
use Rattle.replay.specs.node_model.Turns.{after_message, take_turn, journaled}
use Rattle.run_trace.specs.declared.takes.Sight.{Sight}
use Rattle.run_trace.specs.Traced.{take_traced, stops, ends_anew}
use Rattle.run_trace.specs.Taking.{sight_of, has_items, is_changed}
use Rattle.run_trace.proofs.Counting.{byes_node, take_counts}
use Rattle.run_trace.proofs.WordEnds.{sends_cut}
use Rattle.run_trace.proofs.TakeEnds.{meets_seen, view_state, given_seen, take_others, ended_anew}
use Rattle.run_trace.proofs.takes.take_traced.Goals as goal

pub returns : goal.returns
returns c = λ work n wire h.
    let j = c.args.from in
    let layout = work.layout in
    let turn = after_message work n j wire in
    let b = (header_of wire.message).block in
    let traced = take_traced work n j wire in
    let before = h.seen_before in
    let after = h.seen_after ∙ ap (λ (k : Node). sight_of layout k b) (byes_node layout.nodes turn _) in
    let was = ap (λ (s : Sight). s.counts) before in
    let now = ap (λ (s : Sight). s.counts) h.seen_after in
    let counts = take_counts work n j wire in
    let given = (λ t. not (eqb (now t).invalidations (was t).invalidations))
    ∙ given_seen traced.tally traced.gives_up (length traced.sends) n.counts (take_turn work n j wire).node.counts counts in
    let others = take_others traced.tally traced.gives_up (length traced.sends) n.counts
    (take_turn work n j wire).node.counts counts in
    let tally = c.tally.ensures traced.tally
    (ap (λ (k : NodeCounts). k.falses) now ∙ others.0 ∙ ap (λ (k : NodeCounts). (counts_after traced.tally k).falses) (sym was))
    (ap (λ (k : NodeCounts). k.fallbacks) now ∙ others.1
    ∙ ap (λ (k : NodeCounts). (counts_after traced.tally k).fallbacks) (sym was)) in
    let end = c.ends_anew-end.ensures ∙ (λ t. ends_anew (before t).end (after t).end) in
    let ended = c.is_some.ensures ∙ ap is_some end ∙ ended_anew n.phase turn.node.phase in
    let sends = c.but_byes-sends.ensures
    ∙ (λ t. cond (ended t) (take (length (h.sends t) - h.count t) (h.sends t)) (h.sends t))
    ∙ sends_cut layout.nodes turn _ in
    let meets = c.is_seen_to-meets.ensures
    ∙ (λ t. has_items (sends t) || is_changed (before t) (after t))
    ∙ meets_seen work n (journaled n j wire) (record { entry = refl; wait = refl; occupancy = refl }) j wire.message in
    let state = c.state_in.ensures ∙ ap (λ (s : Sight). option_map (λ v. v.state) s.view) before ∙ view_state layout n b in
    let becomes = c.state_in-2.ensures ∙ ap (λ (s : Sight). option_map (λ v. v.state) s.view) after
    ∙ view_state layout turn.node b in
    let completes = c.stops.ensures ∙ (λ t. stops (before t).waits_for (after t).waits_for) in
    let clears = c.stops-2.ensures ∙ (λ t. stops (before t).reserved (after t).reserved) in
    let resumes = c.stops-3.ensures ∙ (λ t. stops (before t).waits (after t).waits) in
    λ t. record {
      from = j;
      sent = (h.incoming t).stamp;
      message = (h.incoming t).header;
      meets = meets t;
      was = state t;
      becomes = becomes t;
      completes = completes t;
      gives_up = given t;
      clears = clears t;
      resumes = resumes t;
      tally = tally t;
      sends = sends t;
      end = end t;
    }
