use Rattle.std.proofs.Common.{◌-◌, arith}
use Rattle.templates.specs.Code.{code_of}
use Rattle.templates.proofs.RunLemmas.{coded_front}
use Rattle.jump_map.proofs.building.fast_address.Goals as goal

pub address_behind-requires : goal.address_behind-requires
address_behind-requires c =
    let e = c.args.entry.now in
    let lt = c.if-word-first.true in
    let run = c.requires.run (λ none. omega (arith, lt, none)) in
    record {
      coded = coded_front (code_of c.args.code.now) e.address e.run (c.args.word - c.reload_count-first.result) run.coded (omega (arith, lt));
    }
