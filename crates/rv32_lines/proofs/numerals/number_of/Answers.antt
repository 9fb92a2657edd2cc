use Rattle.std.proofs.Common.{rules, Some, sym, ap, ◌∙◌, arith}
use Rattle.rv32_lines.proofs.Cutting.{capped_eight}
use Rattle.rv32_lines.proofs.numerals.number_of.Goals as goal

pub returns-clause-some : goal.returns-clause-some
returns-clause-some c = record {
  some = search rules;
  few = omega arith;
  all = search rules;
  value = c.value_of.ensures ∙ capped_eight c.args.base c.args.digits.now (omega arith) (search rules);
}

pub returns-clause-only : goal.returns-clause-only
returns-clause-only c =
    λ n h. ap Some (c.value_of.ensures ∙ capped_eight c.args.base c.args.digits.now h.few h.all ∙ sym h.value)
