use Rattle.std.proofs.Common.{refl}
use Rattle.flag_memory.proofs.Contents.{written_more}
use Rattle.flag_memory.proofs.copy.write.Goals as goal

pub loop-i-preserved : goal.loop-i-preserved
loop-i-preserved c = written_more c.args.layout.now c.args.bytes.now c.loop-i.bytes c.write_byte.new.bytes c.args.address c.loop-i.i _ c.args.from.now c.loop-i.invariant refl c.write_byte.ensures
