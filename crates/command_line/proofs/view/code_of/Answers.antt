use Rattle.std.proofs.Common.{refl, subst, sym}
use Rattle.command_line.specs.declared.table.Role.TheVariants as role
use Rattle.command_line.specs.declared.table.ViewWord.TheVariants as word
use Rattle.command_line.specs.Reading.{IsOne, given_by, id_of}
use Rattle.command_line.proofs.Rows.{one_file, placed_file}
use Rattle.command_line.proofs.Viewing.{as_view}
use Rattle.command_line.proofs.view.code_of.Goals as goal

pub returns-in_err-file : goal.returns-in_err-file
returns-in_err-file c =
    rw c.from_residual.ensures (λ v h.
    let r = as_view word.Code (given_by c.args.matches.now) v h in
    c.in_err-file.ensures r.0.file (one_file r.0.file _ r.1.of_row.places))

pub returns-in-None : goal.returns-in-None
returns-in-None c = λ v h.
    let r = as_view word.Code (given_by c.args.matches.now) v h in
    c.in-None.ensures.given r.0 (record { options = r.1.of_row.options; alone = r.1.fits })

pub returns-in-Some : goal.returns-in-Some
returns-in-Some c =
    let g = given_by c.args.matches.now in
    let a = c.in-Some.ensures in
    record {
      word_is = refl;
      fits = a.given.alone;
      of_row = record {
        places = placed_file c.in-Some.arguments.file.now _
            (subst (λ f. IsOne f (g (id_of role.Operand))) (sym a.file) c.in_ok-file.ensures);
        options = a.given.options;
      };
    }
