use Rattle.std.proofs.Common.{◌≡◌, true, false, cond, sym, ap, ◌∙◌, rules}
use Rattle.check_costs.specs.Counts.{is_kind}
use Rattle.check_costs.proofs.Alike.{times_same}
use Rattle.check_costs.proofs.kinds.times_alike.Goals as goal

pub returns-then-eq : goal.returns-then-eq
returns-then-eq c =
    let is : is_kind c.args.other c.args.kind ≡ true = search rules in
    sym (times_same c.args.other c.args.kind c.args.words ∙ ap (λ b. cond b c.args.words 0) is)

pub returns-else-eq : goal.returns-else-eq
returns-else-eq c =
    let is : is_kind c.args.other c.args.kind ≡ false = search rules in
    sym (times_same c.args.other c.args.kind c.args.words ∙ ap (λ b. cond b c.args.words 0) is)
