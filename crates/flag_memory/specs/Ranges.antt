-- A range of first contents, as contracts see it.
use Rattle.flag_memory.specs.declared.first.FirstRange.{FirstRange}
use Rattle.flag_memory.specs.FirstBytes.{FirstRange as Seen}

abbrev pub range_of : FirstRange → Seen
range_of r = record { address = r.address; bytes = r.bytes.now }
