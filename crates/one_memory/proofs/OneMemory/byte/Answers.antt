use Rattle.std.proofs.Common.{◌<◌, length, refl, arith}
use Rattle.std.proofs.lemmas.Option.{slice_get_read}
use Rattle.one_memory.specs.Machine.{Parts}
use Rattle.one_memory.proofs.ShownLemmas.{byte_here}
use Rattle.one_memory.proofs.OneMemory.byte.Goals as goal

pub returns : goal.returns
returns c =
    let i = c.self.inside in
    let p = c.args.p in
    let h : Parts = record { memory = i.memory; count = i.nodes; processors = i.processors.items } in
    let few : p < i.nodes = rw (← c.self.view_is) at c.requires in
    let within : p < length i.processors.items = omega (arith, few, c.self.invariant.0) in
    let get = slice_get_read i.processors.items (length i.processors.items) p c.index.result.now refl within c.index.ensures in
    rw (← c.self.view_is) (byte_here h p c.args.address c.index.result.now c.read_byte.result get c.read_byte.ensures)
