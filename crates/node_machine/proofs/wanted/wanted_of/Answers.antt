-- By the block's state.
use Rattle.std.proofs.Common.{◌≡◌, ◌/◌, ◌∙◌, ap, sym}
use Rattle.block_layout.specs.Layout.{first_line}
use Rattle.state_table.specs.StateByte.{state_with}
use Rattle.state_table.specs.States.{state_of}
use Rattle.node_words.specs.node_model.Node.{NodeMemory}
use Rattle.node_words.specs.node_model.Turns.{block_at}
use Rattle.node_words.specs.node_memory.Shelf.{want_of}
use Rattle.node_machine.specs.Wanted.{block_with}
use Rattle.node_machine.proofs.BlockLemmas.{LineLaws, block_state}
use Rattle.node_machine.proofs.WantedLemmas.{wanted_is, wanted_none}
use Rattle.node_machine.proofs.wanted.wanted_of.Goals as goal
use Rattle.node_machine.proofs.wanted.wanted_of.Goals.{in-Some, in-None}

pub block_state-requires : goal.block_state-requires
block_state-requires c =
    (c.layout_law.ensures.found c.args.local.now.copy.layout c.in-Some.block (c.args.want.at / 64) c.laws.ensures.valid
    (sym c.block_of-block.ensures ∙ c.in-Some.is)).0

pub returns : goal.returns
returns c = λ n here.
    let law = c.layout_law.ensures in
    let laws : LineLaws = record { ends = law.ends; has = law.has; found = law.found; shared = law.shared; some = law.some } in
    let s = c.args.local.now in
    let l = s.copy.layout in
    let valid = c.laws.ensures.valid in
    elim c.match-block.branch [
      | in-Some w ↦
          (let b = w.in-Some.block in
          let below = (law.found l b (c.args.want.at / 64) valid (sym c.block_of-block.ensures ∙ w.in-Some.is)).0 in
          let state : state_of s.states b ≡ (block_at l n b).state =
          sym (ap (λ (x : NodeMemory). state_with (x.state (first_line l b))) here
          ∙ block_state laws l valid s.states b below c.laws.ensures.lines.one) in
          wanted_is l n (want_of c.args.want) c.match-block.block (block_with l c.args.want.at) b c.match-block.state
          w.block_state.result c.is_unmet.result w.block-is w.state-is (w.block_state.ensures ∙ state)
          c.is_unmet.ensures (w.block-is ∙ sym w.in-Some.is ∙ c.block_of-block.ensures))
      | in-None w ↦ wanted_none l n (want_of c.args.want) c.match-block.block (block_with l c.args.want.at) c.match-block.state
          c.is_unmet.result (w.block-is ∙ w.in-None.is) w.state-is c.is_unmet.ensures (w.block-is ∙ c.block_of-block.ensures)
    ]
