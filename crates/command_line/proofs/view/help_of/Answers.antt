use Rattle.std.proofs.Common.{[], ap, length, arith, refl, ◌∙◌, subst, sym}
use Rattle.command_line.specs.declared.table.ViewWord.TheVariants as word
use Rattle.command_line.specs.Asks.{ArePlaced}
use Rattle.command_line.specs.Reading.{given_by}
use Rattle.command_line.proofs.Viewing.{as_view, no_place}
use Rattle.command_line.proofs.view.help_of.Goals as goal

pub returns-in-Nothing : goal.returns-in-Nothing
returns-in-Nothing c = record {
  word_is = refl;
  fits = tt;
  of_row = record { places = subst (ArePlaced []) (sym c.in-Nothing.ensures) tt; options = tt };
}

pub returns-in-One : goal.returns-in-One
returns-in-One c = λ v h.
    let r = as_view word.Help (given_by c.args.matches.now) v h in
    let long = ap length (sym (no_place _ r.1.of_row.places) ∙ c.in-One.ensures) in
    omega (arith, long)

pub returns-in-Two : goal.returns-in-Two
returns-in-Two c = λ v h.
    let r = as_view word.Help (given_by c.args.matches.now) v h in
    let long = ap length (sym (no_place _ r.1.of_row.places) ∙ c.in-Two.ensures) in
    omega (arith, long)

pub returns-in-More : goal.returns-in-More
returns-in-More c = λ v h.
    let r = as_view word.Help (given_by c.args.matches.now) v h in
    let none = ap length (no_place _ r.1.of_row.places) in
    let long = c.in-More.ensures in
    omega (arith, none, long)
