use Rattle.std.proofs.Common.{◌≡◌, ◌||◌, ◌++◌, ◌∙◌, cond, sym, ap, Some, None, false}
use Rattle.std.specs.Prelude.{is_some}
use Rattle.std.specs.Option.{option_to_list}
use Rattle.block_layout.specs.Update.{changed}
use Rattle.node_machine.specs.miss_handlers.Waits.{wait_of}
use Rattle.lane_model.specs.node_model.Turns.{Turn, want_in}
use Rattle.node_machine.specs.NodeState.{layout_of, with_parts}
use Rattle.node_machine.specs.ProtocolState.{turn_by}
use Rattle.lane_model.specs.Turns.{exceeds}
use Rattle.lane_machine.specs.Waits.{waits_in, waits_for, wait_among, all_waits}
use Rattle.lane_machine.proofs.AskLemmas.{with_wait, want_carried, none_both, none_needed, begun_all, begun_one}
use Rattle.lane_machine.proofs.asking.ask_block.Goals as goal

pub returns-in-None-clause-turn : goal.returns-in-None-clause-turn
returns-in-None-clause-turn c n posts p again =
    let body = c.args.body.now in
    let d = c.args.protocol.now in
    let ps = c.args.places.now in
    let b = c.args.block in
    let need = c.args.need in
    let l = layout_of body in
    let body' = c.want_block-post.new.body in
    let d' = c.want_block-post.new.self in
    let all = wait_among (all_waits d ps) in
    let none : all b ≡ None = none_needed (all b) c.in-None.ensures in
    let own : wait_of d.waits b ≡ None = (none_both (wait_of d.waits b) (waits_for (waits_in ps) b) none).0 in
    let t : Turn = turn_by (with_parts n body d) posts p in
    let asked = want_carried l t need b all (none ∙ sym own) in
    let wait = begun_all d.waits d'.waits (waits_in ps) b none c.want_block-post.ensures.others in
    let begun : want_in l t need (Some b) ≡ turn_by (with_parts n body' d') (posts ++ option_to_list c.want_block-post.result) p =
    c.want_block-post.ensures.turn n posts p in
    (λ i. record {
      turn = cond (is_some (none i)) (with_wait t all) (want_in l (with_wait t all) need (Some b));
      again = again || exceeds (none i) need;
    })
    ∙ ap (λ (u : Turn). record { turn = u; again = again || false })
    (asked ∙ (λ i. with_wait (begun i) (changed all b ((begun i).node.wait b)))
    ∙ ap (with_wait (turn_by (with_parts n body' d') (posts ++ option_to_list c.want_block-post.result) p)) wait)

pub returns-in-None-clause-begun : goal.returns-in-None-clause-begun
returns-in-None-clause-begun c idle unmet =
    begun_one c.args.protocol.now.waits c.want_block-post.new.self.waits c.args.block c.awaited.result idle
    (c.want_block-post.ensures.begun unmet) c.want_block-post.ensures.others c.awaited.ensures
