use Rattle.std.proofs.Common.{◌+◌, refl}
use Rattle.jump_map.specs.Strides.{scratch_of, skip}
use Rattle.jump_map.proofs.SequenceLemmas.{stand_one}
use Rattle.jump_map.proofs.sequences.write_at.Goals as goal

pub returns-then-takes : goal.returns-then-takes
returns-then-takes c =
    let x = scratch_of c.word-look.result c.word-store.result.rd in
    let access = c.if-is_same_access.ensures in
    c.write.ensures c.args.micros.now c.args.k (record {
      x = x;
      apart = c.if-reads_state.ensures.apart refl;
      keep = c.if-keeps.ensures refl;
      look = c.if-reads_state.ensures.stand refl;
      test = stand_one c.args.micros.now (c.args.k + c.args.spilled + 5) c.skip.result
          (skip x.s (c.args.k + c.args.spilled + 7)) c.skip.ensures (c.if-stands.ensures refl);
      store = record {
        access = c.word-store-2.result;
        there = c.word-store-2.ensures.there (access.there refl);
        kind_is = refl;
        base = access.base refl;
        imm = access.imm refl;
      };
      rs2_s = (c.if-is_neither.ensures refl).0;
      rs2_t = (c.if-is_neither.ensures refl).1;
      take = c.if-takes.ensures.back refl;
      next = c.if-takes.ensures.next refl;
    })
