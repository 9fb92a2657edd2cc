use Rattle.std.proofs.Common.{◌≡◌, ap, ◌∙◌, Some}
use Rattle.block_layout.specs.Update.{changed}
use Rattle.miss_handlers.specs.declared.Waiting.{Waiting}
use Rattle.miss_handlers.specs.Waits.{NodeWaits, wait_of, wait_in}
use Rattle.miss_handlers.proofs.Lists.{add_is}
use Rattle.miss_handlers.proofs.Waits.add.Goals as goal

pub returns-clause-wait : goal.returns-clause-wait
returns-clause-wait c =
    let inside = c.self.inside in
    let block = c.args.block in
    let d : NodeWaits = record { layout = inside.layout; waits = inside.waits.items } in
    let w : Waiting = record { block = block; wait = c.args.wait } in
    let view : d ≡ c.args.self.now = c.self.view_is in
    ap wait_in c.push_reserved.ensures.items
    ∙ add_is inside.waits.items w (ap (λ (h : NodeWaits). wait_of h block) view ∙ c.requires.none)
    ∙ ap (λ (h : NodeWaits). changed (wait_of h) block (Some c.args.wait)) view
