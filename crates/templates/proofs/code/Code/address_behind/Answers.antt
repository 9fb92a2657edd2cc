use Rattle.std.proofs.Common.{◌≡◌, ◌<◌, ◌^◌, length, arith}
use Rattle.templates.specs.Code.{code_of}
use Rattle.templates.specs.Runs.{code_from}
use Rattle.templates.proofs.RunLemmas.{ends_below}
use Rattle.templates.proofs.code.Code.address_behind.Goals as goal

pub overflow_add-result : goal.overflow_add-result
overflow_add-result c =
    let ws = c.self.inside.words.items in
    let coded : length (code_from (code_of ws) c.args.address c.args.words) ≡ c.args.words = rw c.self.view_is c.requires.coded in
    let low : c.args.address < 2 ^ 32 = omega arith in
    let below = ends_below ws c.args.address c.args.words c.self.invariant coded low in
    omega (arith, below)
