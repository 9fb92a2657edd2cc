use Rattle.std.proofs.Common.{◌≡◌, ◌<◌, ap, ◌∙◌, arith, length}
use Rattle.home_directory.specs.declared.request_lists.BlockList.{BlockList}
use Rattle.home_directory.specs.Home.{waits}
use Rattle.home_directory.specs.Effects.{requests_for, members}
use Rattle.home_directory.specs.Lists.{Requests, list_at}
use Rattle.home_directory.proofs.JoinLeave.{list_found, asked_is}
use Rattle.home_directory.proofs.request_lists.RequestLists.has.Goals as goal

pub returns : goal.returns
returns c =
    let w = c.self.inside in
    let within : c.args.block < length w.lists.items =
    omega (arith, c.requires.block, ap (λ (v : Requests). v.blocks) c.self.view_is) in
    let is : c.index.result.now ≡ list_at w.lists.items c.args.block =
    list_found w.lists.items c.args.block c.index.result.now within c.index.ensures in
    ap (λ (l : BlockList). members l.asked c.args.from) is
    ∙ asked_is w.places.items w.lists.items w.empty w.len c.args.block c.self.invariant within c.args.from
    ∙ ap (λ (v : Requests). waits (requests_for c.args.block v.requests) c.args.from) c.self.view_is
