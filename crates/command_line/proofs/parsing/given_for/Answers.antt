use Rattle.std.proofs.Common.{◌∙◌, Some, None, ap, arith, length}
use Rattle.std.proofs.lemmas.List.{length-map}
use Rattle.command_line.proofs.Rows.{given_raw, nothing, singleton, pair}
use Rattle.command_line.proofs.parsing.given_for.Goals as goal

pub returns-in_default : goal.returns-in_default
returns-in_default c =
    given_raw c.args.matches.now c.args.role c.id.result.now None c.id.ensures c.in_default.ensures

pub returns-in-empty : goal.returns-in-empty
returns-in-empty c =
    given_raw c.args.matches.now c.args.role c.id.result.now (Some c.in-Some.words) c.id.ensures
    c.in-Some.ensures ∙ nothing c.in-Some.words.now (omega (arith, c.in-empty.len_below))

pub returns-in-len1 : goal.returns-in-len1
returns-in-len1 c =
    given_raw c.args.matches.now c.args.role c.id.result.now (Some c.in-Some.words) c.id.ensures
    c.in-Some.ensures ∙ singleton c.in-Some.words.now _ (omega (arith, c.in-len1.len_at_least, c.in-len1.len_below))

pub returns-in-len2 : goal.returns-in-len2
returns-in-len2 c =
    given_raw c.args.matches.now c.args.role c.id.result.now (Some c.in-Some.words) c.id.ensures
    c.in-Some.ensures
    ∙ pair c.in-Some.words.now _ (omega (arith, c.in-len2.len_at_least, c.in-len2.len_below))

pub returns-in_default-words : goal.returns-in_default-words
returns-in_default-words c =
    let e = given_raw c.args.matches.now c.args.role c.id.result.now (Some c.in-Some.words) c.id.ensures
    c.in-Some.ensures in
    omega (arith, ap length e, length-map c.in-Some.words.now (λ v. v.now), c.in_default-words.len_at_least)
