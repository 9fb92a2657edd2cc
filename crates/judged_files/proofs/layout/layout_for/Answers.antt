use Rattle.std.proofs.Common.{ap, option_map, subst}
use Rattle.block_layout.specs.Text.{IsFirstFault}
use Rattle.judged_files.proofs.layout.layout_for.Goals as goal

pub returns-in-Err-Broken-clause-refused : goal.returns-in-Err-Broken-clause-refused
returns-in-Err-Broken-clause-refused c =
    let is = c.in-Err-Broken.is in
    let rule_is = c.in-Err-Broken.field-0-is in record {
      text = c.in-Some.text.now;
      text_is = ap (option_map (λ text. text.now)) c.in-Some.is;
      shared = c.in_ok-ranges.ranges;
      lines = c.in_ok-ranges.ensures.ranges;
      rule = c.in-Err-Broken.rule;
      number = c.in-Err-Broken.line;
      fault =
          subst (λ n. IsFirstFault c.in-Some.text.now c.in_ok-ranges.ranges n c.in-Err-Broken.rule c.in-Err-Broken.line)
          c.as_u8-2.ensures.value (c.read_layout.ensures.refused c.in-Err-Broken.rule c.in-Err-Broken.line (cc));
      line_is = c.in_ok-layout_line-in-Err-Broken.ensures;
    }
