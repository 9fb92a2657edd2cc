-- What is told of a block.
use Rattle.std.proofs.Common.{sym, ap, ◌∙◌}
use Rattle.block_layout.specs.Layout.{Shape}
use Rattle.event_text.specs.node_machine.Wanted.{block_with}
use Rattle.event_text.specs.replay.dsm_core.CoreParts.{CoreParts, core_of}
use Rattle.recorded_run.specs.Nodes.{block_text_if}
use Rattle.recorded_run.specs.Shown.{Recorded}
use Rattle.recorded_run.proofs.Showing.{along_none, kept_again, last_there, looks, nodes_of, same_layout}
use Rattle.recorded_run.proofs.run.RecordedRun.tell_block.Goals as goal

pub keep-requires : goal.keep-requires
keep-requires c =
    let s = c.args.self.now in
    let w = c.in_ok-walk.walk in
    let stands = c.in_ok-walk.ensures.stands in
    record {
      along = along_none s c.take_walk.new.self w c.in_ok-walk.ensures.run stands.along;
      walking = (stands.seen, stands.walked);
      there = λ e is. last_there s w stands e (sym (ap (λ (s : Recorded). s.behind) c.self.view_is) ∙ is);
    }

pub returns : goal.returns
returns c =
    let s = c.args.self.now in
    let w = c.in_ok-walk.walk in
    let a = c.args.address in
    let stands = c.in_ok-walk.ensures.stands in
    looks s _ w (λ seen c. block_text_if s.stand.run.layout c (block_with s.stand.run.layout a)) _ stands
    (c.in_ok-text.ensures
    ∙ ap (λ (p : CoreParts). block_text_if p.layout (core_of p) (block_with p.layout a)) c.core.ensures
    ∙ ap (λ (l : Shape). block_text_if l (nodes_of w) (block_with l a)) (same_layout s w stands.along))
    (kept_again s c.take_walk.new.self _ c.self.inside.behind c.in_ok-walk.ensures.run c.keep.ensures
    (ap (λ (s : Recorded). s.behind) c.self.view_is))
