use Rattle.std.proofs.Common.{◌≡◌, ◌∙◌, ap, sym, true, Some, refl}
use Rattle.block_layout.specs.Layout.{Shape}
use Rattle.home_directory.specs.state_table.States.{state_of}
use Rattle.home_directory.specs.declared.wait.Wait.{Wait}
use Rattle.home_directory.specs.Table.{completion, with_answer}
use Rattle.miss_handlers.specs.Search.{bringing, takes_answer}
use Rattle.miss_handlers.specs.Waits.{wait_of}
use Rattle.miss_handlers.specs.Effects.{NodeBlocks, NodeEffect, node_blocks, message_effect, local_block, block_facts, pool_after}
use Rattle.std.specs.Option.{option_to_list}
use Rattle.miss_handlers.proofs.Rows.{completion_done, answer_taken}
use Rattle.miss_handlers.proofs.Waits.answer.Goals as goal

pub returns-clause-effect : goal.returns-clause-effect
returns-clause-effect c =
    let block = c.args.block in
    let answer = c.args.answer in
    let now = c.args.self.now in
    let m : NodeBlocks = node_blocks now c.args.states.now c.args.copy.now c.args.held.now in
    let after : NodeBlocks = node_blocks c.complete_or_keep.new.self c.complete_or_keep.new.states c.complete_or_keep.new.copy c.args.held.now in
    let old : Wait = c.in-Some.wait in
    let found : wait_of now block ≡ Some old = sym c.take_out.ensures.found ∙ c.in-Some.is in
    let taken : takes_answer now (state_of c.args.states.now) c.args.from block answer ≡ true = sym c.takes.ensures.value ∙ c.if-not-takes.false in
    completion_done now.layout c.take_out.new.self.layout m after block (with_answer old answer) (option_to_list c.complete_or_keep.result) (wait_of c.take_out.new.self) (message_effect now.layout m c.args.from (bringing block answer)) c.take_out.ensures.layout
    (answer_taken now c.args.states.now c.args.copy.now c.args.held.now c.args.from block answer old found taken)
    c.take_out.ensures.rest c.complete_or_keep.ensures.states c.complete_or_keep.ensures.bytes c.complete_or_keep.ensures.wait refl c.complete_or_keep.ensures.sends

pub returns-clause-pool : goal.returns-clause-pool
returns-clause-pool c =
    let block = c.args.block in
    let answer = c.args.answer in
    let now = c.args.self.now in
    let m : NodeBlocks = node_blocks now c.args.states.now c.args.copy.now c.args.held.now in
    let old : Wait = c.in-Some.wait in
    let found : wait_of now block ≡ Some old = sym c.take_out.ensures.found ∙ c.in-Some.is in
    let taken : takes_answer now (state_of c.args.states.now) c.args.from block answer ≡ true = sym c.takes.ensures.value ∙ c.if-not-takes.false in
    let effect = answer_taken now c.args.states.now c.args.copy.now c.args.held.now c.args.from block answer old found taken in
    c.complete_or_keep.ensures.pool
    ∙ ap (λ (l : Shape). pool_after c.args.pool.now (completion (block_facts l block) (local_block m block) block (with_answer old answer)).gives_back) c.take_out.ensures.layout
    ∙ ap (λ (e : NodeEffect). pool_after c.args.pool.now e.gives_back) (sym effect)
