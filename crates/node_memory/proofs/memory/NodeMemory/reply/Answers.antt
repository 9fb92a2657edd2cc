use Rattle.std.proofs.Common.{◌≡◌, subst}
use Rattle.std.specs.Option.{option_to_list}
use Rattle.node_model.specs.miss_handlers.Effects.{HasEffect, message_effect, pool_after}
use Rattle.node_memory.specs.Shelf.{Shelf}
use Rattle.node_memory.specs.Blocks.{blocks_at}
use Rattle.node_memory.proofs.memory.NodeMemory.reply.Goals as goal

pub returns-clause-effect : goal.returns-clause-effect
returns-clause-effect c =
    let i = c.self.inside in
    let new : Shelf = record { program = i.program.now; states = c.reply.new.states; copy = c.reply.new.copy; reservation = c.reply.new.held } in
    subst (λ (v : Shelf). HasEffect (blocks_at c.reply.new.self new) (option_to_list c.reply.result) (message_effect c.args.waits.now.layout (blocks_at c.args.waits.now v) c.args.from c.args.message))
    c.self.view_is c.reply.ensures.effect

pub returns-clause-pool : goal.returns-clause-pool
returns-clause-pool c =
    subst (λ (v : Shelf). c.reply.new.pool ≡ pool_after c.args.pool.now (message_effect c.args.waits.now.layout (blocks_at c.args.waits.now v) c.args.from c.args.message).gives_back)
    c.self.view_is c.reply.ensures.pool
