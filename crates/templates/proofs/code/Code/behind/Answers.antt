use Rattle.std.proofs.Common.{◌≤◌, ◌^◌, ◌+◌, ◌*◌, ap, ◌∙◌, arith}
use Rattle.templates.specs.Code.{code_of}
use Rattle.templates.proofs.CodeLemmas.{none_above}
use Rattle.templates.proofs.code.Code.behind.Goals as goal

pub returns-in-None : goal.returns-in-None
returns-in-None c =
    let at = c.args.address + 4 * c.args.words in
    let high : 2 ^ 32 ≤ c.args.address + 4 * c.args.words = omega (arith, c.in-None.ensures) in
    record {
      value = none_above c.self.inside.words.items (c.args.address + 4 * c.args.words) c.self.invariant high
          ∙ ap (λ ws. code_of ws (c.args.address + 4 * c.args.words)) c.self.view_is;
    }
