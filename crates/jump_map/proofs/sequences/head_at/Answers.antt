use Rattle.std.proofs.Common.{◌+◌, refl}
use Rattle.jump_map.specs.Strides.{mask, scratch_of, skip}
use Rattle.jump_map.proofs.SequenceLemmas.{stand_one, stand_two}
use Rattle.jump_map.proofs.sequences.head_at.Goals as goal

pub returns-then-takes : goal.returns-then-takes
returns-then-takes c =
    let x = scratch_of c.word-look.result c.word-high.result.rd in
    c.read_head.ensures c.args.micros.now c.args.k (record {
      head = record {
        x = x;
        u = c.word-high-2.result.rd;
        high = c.word-high-2.result.imm;
        looks = c.if-not-looks_twice.ensures refl;
      };
      test = stand_two c.args.micros.now (c.args.k + c.args.spilled + 10) c.mask.result (mask x.s) c.skip.result
          (skip x.s (c.args.k + c.args.spilled + 16)) c.mask.ensures c.skip.ensures (c.if-stands.ensures refl);
      take = c.if-takes.ensures.back refl;
      next = c.if-takes.ensures.next refl;
    })

pub returns-then-takes-2 : goal.returns-then-takes-2
returns-then-takes-2 c =
    let x = scratch_of c.word-look.result c.word-high.result.rd in
    c.write_head.ensures c.args.micros.now c.args.k (record {
      head = record {
        x = x;
        u = c.word-high-2.result.rd;
        high = c.word-high-2.result.imm;
        looks = c.if-not-looks_twice.ensures refl;
      };
      test = stand_one c.args.micros.now (c.args.k + c.args.spilled + 10) c.skip-2.result
          (skip x.s (c.args.k + c.args.spilled + 15)) c.skip-2.ensures (c.if-stands-2.ensures refl);
      take = c.if-takes-2.ensures.back refl;
      next = c.if-takes-2.ensures.next refl;
    })
