use Rattle.std.proofs.Common.{refl}
use Rattle.jump_map.proofs.sequences.flag_at.Goals as goal

pub returns-then-takes : goal.returns-then-takes
returns-then-takes c =
    let value = c.if-reads_value.ensures in
    c.flag.ensures c.args.micros.now c.args.k (record {
      s = c.word-look.result.rd;
      v = c.word.result.rd;
      base = c.word-look.result.rs1;
      imm = c.word-look.result.imm;
      apart = (value.apart refl).0;
      base_kept = (value.apart refl).1;
      s_kept = (value.kept refl).0;
      v_kept = (value.kept refl).1;
      keep = c.if-keeps.ensures refl;
      look = value.stand refl;
      take = c.if-takes.ensures.back refl;
      next = c.if-takes.ensures.next refl;
    })
