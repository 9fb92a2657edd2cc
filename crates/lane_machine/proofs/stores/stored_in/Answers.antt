use Rattle.std.proofs.Common.{◌∙◌, ap, sym}
use Rattle.rv32_step.specs.declared.Demand.{Demand}
use Rattle.rv32_step.specs.Demands.{demand_of}
use Rattle.rv32_step.specs.Registers.{registers_of}
use Rattle.runtime_words.specs.declared.RtWord.{RtWord}
use Rattle.node_machine.specs.node_words.Address.{word_address}
use Rattle.node_machine.specs.node_words.Kept.{lane_of}
use Rattle.lane_model.specs.node_model.Node.{execute, native}
use Rattle.lane_machine.specs.Words.{stored_by}
use Rattle.lane_machine.proofs.StoreLemmas.{other_stores}
use Rattle.lane_machine.proofs.stores.stored_in.Goals as goal

pub returns-in-Native : goal.returns-in-Native
returns-in-Native c program place n reserved =
    let at = word_address c.args.at in
    let l = lane_of c.args.lane.now at in
    c.stored_on.ensures program place at l n reserved
    ∙ ap (λ (d : Demand). stored_by (native program place at l n d).access) c.demand_of.ensures.value
    ∙ ap (λ a. stored_by (native program place at l n (demand_of c.in-Native.i (registers_of c.args.lane.now.registers) a)).access) c.address_of.ensures
    ∙ ap (λ (w : RtWord). stored_by (execute program place at w l n).access) (sym c.in-Native.is)

pub returns-in_default : goal.returns-in_default
returns-in_default c program place n reserved =
    other_stores program place (word_address c.args.at) c.args.what (lane_of c.args.lane.now (word_address c.args.at)) n c.in_default.not-Native
