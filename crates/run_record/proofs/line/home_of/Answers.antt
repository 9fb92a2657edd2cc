use Rattle.std.proofs.Common.{◌≡◌, codes, Some, sym, ap, rules}
use Rattle.run_record.proofs.Digits.{home_star}
use Rattle.run_record.proofs.line.home_of.Goals as goal

pub returns-then-eq-clause-only : goal.returns-then-eq-clause-only
returns-then-eq-clause-only c = λ h few e.
    let star : c.args.end.now ≡ codes " *\n" = search rules in
    ap Some (sym (home_star c.args.end.now h star few e))
