use Rattle.std.proofs.Common.{get_or, refl, arith}
use Rattle.std.specs.Prelude.{nat_le}
use Rattle.rewrite_verify.proofs.ReadLemmas.{entry_of_parts}
use Rattle.rewrite_verify.proofs.entries.read_entry.Goals as goal

pub returns-clause-says : goal.returns-clause-says
returns-clause-says c = record {
  address = refl;
  says =
      entry_of_parts c.args.bytes.now (record {
        address = c.args.address;
        template = c.in_ok-of_number.field-0;
        polls = nat_le 128 (get_or c.args.bytes.now 0 0);
        single = c.in_ok-read_scratches.field-0;
        run = get_or c.args.bytes.now 4 0;
        batch = c.in_ok-read_scratches-2.field-0;
      }) c.requires.eight (let fits = c.type_inv.bytes 0 in omega (arith, fits))
      ((c.in_ok-of_number.ensures c.in_ok-of_number.field-0).0 refl) refl
      c.in_ok-read_scratches.ensures.says refl c.in_ok-read_scratches-2.ensures.says;
  single = c.in_ok-read_scratches.ensures.registers;
  batch = c.in_ok-read_scratches-2.ensures.registers;
}
