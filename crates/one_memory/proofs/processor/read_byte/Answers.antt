use Rattle.rv32_decode.specs.declared.Width.TheVariants.{Byte}
use Rattle.one_memory.proofs.ReadLemmas.{read_shared, read_private, as_byte, as_byte_option, byte_aligned}
use Rattle.one_memory.proofs.processor.read_byte.Goals as goal

pub returns-in-Some : goal.returns-in-Some
returns-in-Some c =
    as_byte c.args.memory.now c.args.body.now c.args.address c.in-Some.number
    (read_shared c.args.memory.now c.args.body.now Byte c.args.address c.in-Some.number (byte_aligned c.args.address) c.in-Some.ensures.found c.in-Some.ensures.value)

pub returns-in-Some-load : goal.returns-in-Some-load
returns-in-Some-load c =
    as_byte c.args.memory.now c.args.body.now c.args.address c.in-Some-load.number
    (read_private c.args.memory.now c.args.body.now Byte c.args.address c.in-Some-load.number (byte_aligned c.args.address) c.in-Some-load.ensures.value)

pub returns-in-None-load : goal.returns-in-None-load
returns-in-None-load c =
    as_byte_option c.args.memory.now c.args.body.now c.args.address c.first_byte.result c.in-None.ensures.found c.in-None-load.ensures.value c.first_byte.ensures.value
