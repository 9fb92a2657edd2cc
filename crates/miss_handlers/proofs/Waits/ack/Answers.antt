use Rattle.std.proofs.Common.{◌≡◌, ◌<◌, ◌+◌, ap, ◌∙◌, sym, true, Some, List, refl, arith}
use Rattle.block_layout.specs.Layout.{blocks}
use Rattle.home_directory.specs.dsm_messages.declared.messages.Message.TheVariants.{Ack}
use Rattle.home_directory.specs.declared.wait.Wait.{Wait}
use Rattle.miss_handlers.specs.Search.{takes_ack}
use Rattle.miss_handlers.specs.declared.Waiting.{Waiting}
use Rattle.miss_handlers.specs.Waits.{NodeWaits, wait_of, wait_in}
use Rattle.miss_handlers.specs.Effects.{NodeBlocks, node_blocks, message_effect}
use Rattle.std.specs.Option.{option_to_list}
use Rattle.miss_handlers.proofs.Rows.{completion_done, ack_effect}
use Rattle.miss_handlers.proofs.Waits.ack.Goals as goal

pub returns-clause-effect : goal.returns-clause-effect
returns-clause-effect c =
    let inside = c.self.inside in
    let block = c.args.block in
    let now = c.args.self.now in
    let d : NodeWaits = record { layout = inside.layout; waits = inside.waits.items } in
    let view : d ≡ now = c.self.view_is in
    let m : NodeBlocks = node_blocks now c.args.states.now c.args.copy.now c.args.held.now in
    let after : NodeBlocks = node_blocks c.complete_or_keep.new.self c.complete_or_keep.new.states c.complete_or_keep.new.copy c.args.held.now in
    let same_blocks : blocks inside.layout ≡ blocks now.layout = ap (λ (h : NodeWaits). blocks h.layout) view in
    let within : block < blocks now.layout = omega arith in
    let old : Wait = c.in-Some.wait in
    let found : wait_of now block ≡ Some old = sym c.take_out.ensures.found ∙ c.in-Some.is in
    let is_open : takes_ack (wait_of now block) ≡ true = sym (c.takes_ack.ensures ∙ ap (λ (ws : List Waiting). takes_ack (wait_in ws block)) c.deref.ensures.value ∙ ap (λ (h : NodeWaits). takes_ack (wait_of h block)) view) ∙ c.if-not-takes_ack.false in
    let new : Wait = record { need = old.need; answer = old.answer; counted = old.counted + 1 } in
    completion_done now.layout c.take_out.new.self.layout m after block new (option_to_list c.complete_or_keep.result) (wait_of c.take_out.new.self) (message_effect now.layout m c.args.from (Ack block)) c.take_out.ensures.layout
    (ack_effect now.layout m c.args.from block old within found is_open)
    c.take_out.ensures.rest c.complete_or_keep.ensures.states c.complete_or_keep.ensures.bytes c.complete_or_keep.ensures.wait refl c.complete_or_keep.ensures.sends
