use Rattle.std.proofs.Common.{◌+◌, refl}
use Rattle.jump_map.specs.Strides.{mask, scratch_of, skip}
use Rattle.jump_map.proofs.SequenceLemmas.{stand_two}
use Rattle.jump_map.proofs.sequences.read_at.Goals as goal

pub returns-then-takes : goal.returns-then-takes
returns-then-takes c =
    let x = scratch_of c.word-look.result c.word-load.result.rd in
    let access = c.if-is_same_access.ensures in
    c.read.ensures c.args.micros.now c.args.k (record {
      x = x;
      apart = c.if-reads_state.ensures.apart refl;
      keep = c.if-keeps.ensures refl;
      look = c.if-reads_state.ensures.stand refl;
      test = stand_two c.args.micros.now (c.args.k + c.args.spilled + 5) c.mask.result (mask x.s) c.skip.result
          (skip x.s (c.args.k + c.args.spilled + 8)) c.mask.ensures c.skip.ensures (c.if-stands.ensures refl);
      load = record {
        access = c.word-load-2.result;
        there = c.word-load-2.ensures.there (access.there refl);
        kind_is = refl;
        base = access.base refl;
        imm = access.imm refl;
      };
      rd_s = (c.if-is_neither.ensures refl).0;
      rd_t = (c.if-is_neither.ensures refl).1;
      take = c.if-takes.ensures.back refl;
      next = c.if-takes.ensures.next refl;
    })
