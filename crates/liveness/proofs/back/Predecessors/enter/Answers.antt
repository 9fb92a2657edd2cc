use Rattle.std.proofs.Common.{◌≡◌, ◌<◌, ◌+◌, length, get_or, arith}
use Rattle.std.proofs.lemmas.Grind.{common_steps}
use Rattle.liveness.proofs.ChainLemmas.{enter_kept, enter_added}
use Rattle.liveness.proofs.back.Predecessors.enter.Goals as goal

pub returns-clause-kept : goal.returns-clause-kept
returns-clause-kept c e q h =
    let within : c.args.b < length c.args.self.now.heads.items = grind (arith, common_steps) in
    let before : c.index-before.result.now ≡ get_or c.args.self.now.heads.items c.args.b 0 = grind (arith, common_steps) in
    let len : c.len.result ≡ length c.args.self.now.links.items + 1 = grind (arith, common_steps) in
    enter_kept c.args.self.now.heads.items c.args.self.now.links.items c.push.new.self.items c.args.b c.len.result c.index-before.result.now e q within before c.in_ok-push.ensures.items len h

pub returns-clause-added : goal.returns-clause-added
returns-clause-added c =
    let within : c.args.b < length c.args.self.now.heads.items = grind (arith, common_steps) in
    let len : c.len.result ≡ length c.args.self.now.links.items + 1 = grind (arith, common_steps) in
    enter_added c.args.self.now.heads.items c.args.self.now.links.items c.push.new.self.items c.args.b c.len.result within len
