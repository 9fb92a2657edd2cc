use Rattle.std.proofs.Common.{◌≡◌, ◌∙◌, true, ap, sym, rules}
use Rattle.node_memory.specs.exec_map.Contents.{program_of}
use Rattle.rv32_decode.specs.declared.Width.TheVariants.{Word}
use Rattle.rv32_decode.specs.Widths.{is_aligned}
use Rattle.node_memory.specs.rv32_step.declared.Demand.TheVariants.{Reserves, StoresIf, Updates}
use Rattle.node_memory.specs.rv32_step.Demands.{demand_of}
use Rattle.node_memory.specs.rv32_step.Registers.{registers_of}
use Rattle.node_words.specs.Address.{word_address}
use Rattle.node_memory.specs.Shelf.{local_of}
use Rattle.node_words.specs.Kept.{lane_of}
use Rattle.node_words.proofs.StepLemmas.{native_next, reserves_next, stores_if_next, updates_next}
use Rattle.node_words.proofs.exec_state.ExecState.silent_native.Goals as goal

pub returns-in-Reserves-clause-steps : goal.returns-in-Reserves-clause-steps
returns-in-Reserves-clause-steps c image =
    let b = c.args.self.now in
    let address = word_address c.args.at in
    let registers = registers_of b.lane.registers in
    let aligned : is_aligned Word c.in-Reserves.address ≡ true = search rules in
    native_next image c.args.place c.args.at b.lane b.local c.reserve_or_exit.new.self.lane c.reserve_or_exit.new.self.local
    (Reserves c.in-Reserves.r c.in-Reserves.address) (demand_of c.args.i registers address) c.reserve_or_exit.result
    (reserves_next (program_of b.local.program) c.args.place address (lane_of b.lane address) (local_of b.local) c.in-Reserves.r c.in-Reserves.address aligned)
    (c.reserve_or_exit.ensures.does address)
    (sym c.in-Reserves.is ∙ c.demand.ensures ∙ ap (demand_of c.args.i registers) c.address_of.ensures)

pub returns-in-StoresIf-clause-steps : goal.returns-in-StoresIf-clause-steps
returns-in-StoresIf-clause-steps c image =
    let b = c.args.self.now in
    let address = word_address c.args.at in
    let registers = registers_of b.lane.registers in
    let aligned : is_aligned Word c.in-StoresIf.address ≡ true = search rules in
    native_next image c.args.place c.args.at b.lane b.local c.store_if_or_exit.new.self.lane c.store_if_or_exit.new.self.local
    (StoresIf c.in-StoresIf.r c.in-StoresIf.address c.in-StoresIf.value) (demand_of c.args.i registers address) c.store_if_or_exit.result
    (stores_if_next (program_of b.local.program) c.args.place address (lane_of b.lane address) (local_of b.local) c.in-StoresIf.r c.in-StoresIf.address c.in-StoresIf.value aligned)
    (c.store_if_or_exit.ensures.does address)
    (sym c.in-StoresIf.is ∙ c.demand.ensures ∙ ap (demand_of c.args.i registers) c.address_of.ensures)

pub returns-in-Updates-clause-steps : goal.returns-in-Updates-clause-steps
returns-in-Updates-clause-steps c image =
    let b = c.args.self.now in
    let address = word_address c.args.at in
    let registers = registers_of b.lane.registers in
    let aligned : is_aligned Word c.in-Updates.address ≡ true = search rules in
    native_next image c.args.place c.args.at b.lane b.local c.update_or_exit.new.self.lane c.update_or_exit.new.self.local
    (Updates c.in-Updates.op c.in-Updates.r c.in-Updates.address c.in-Updates.value) (demand_of c.args.i registers address) c.update_or_exit.result
    (updates_next (program_of b.local.program) c.args.place address (lane_of b.lane address) (local_of b.local) c.in-Updates.op c.in-Updates.r c.in-Updates.address c.in-Updates.value aligned)
    (c.update_or_exit.ensures.does address)
    (sym c.in-Updates.is ∙ c.demand.ensures ∙ ap (demand_of c.args.i registers) c.address_of.ensures)
