-- What a word wants of blocks, as it is looked at.
use Rattle.std.specs.Prelude.{ℕ, Bool, false, List, [], ◌∷◌, Option, Some, None, is_some}
use Rattle.std.specs.Option.{option_map, option_to_list}
use Rattle.block_layout.specs.Layout.{Shape, block_of}
use Rattle.buf_pool.specs.Pool.{empty_buffer}
use Rattle.rv32_program.specs.Program.{line_of}
use Rattle.state_table.specs.declared.State.{State}
use Rattle.node_words.specs.dsm_messages.declared.messages.Need.{Need}
use Rattle.node_words.specs.home_directory.Table.{want_row}
use Rattle.node_words.specs.miss_handlers.Effects.{block_facts}
use Rattle.node_words.specs.node_model.Node.{Work, Node, Want, word_outcome}
use Rattle.node_words.specs.node_model.Turns.{Turn, block_at, want_in, wants_of, each_block_once, after_word}
use Rattle.node_machine.specs.declared.wanted.WantedBlocks.{WantedBlocks}
use Rattle.node_machine.specs.declared.wanted.Wanted.{Wanted}

-- the block in which an address lies, if it is in one
abbrev pub block_with : Shape → (address : ℕ) → Option ℕ
block_with layout a = block_of layout (line_of a)

-- the state of a block at a node
abbrev pub state_at : Shape → Node → Option ℕ → Option State
state_at layout n b = option_map (λ b. (block_at layout n b).state) b

-- a block of a node is asked for, where it doesn't meet the need
abbrev pub asks_for : Shape → Node → Need → Option ℕ → Bool
asks_for layout n need None = false
asks_for layout n need (Some b) = is_some
    (want_row (block_facts layout b) (block_at layout n b) b need (empty_buffer 4096))

-- a want of a block, if of one
abbrev pub wanted : Shape → Node → Want → Option ℕ → Wanted
wanted layout n w b = record {
  address = w.at;
  need = w.need;
  block = b;
  state = state_at layout n b;
  asks = asks_for layout n w.need b;
}

-- what is wanted, one after another: each as the node is then
abbrev pub wants_along : Shape → Turn → List Want → List Wanted
wants_along layout t [] = []
wants_along layout t (w ∷ ws) =
    wanted layout t.node w (block_with layout w.at)
    ∷ wants_along layout (want_in layout t w.need (block_with layout w.at)) ws

-- what a node's next word wants, each block once
abbrev pub wants_of_word : Work → Node → List Wanted
wants_of_word work n = wants_along work.layout (after_word work n)
    (each_block_once work.layout (wants_of (word_outcome work n).move))

-- the first, and another
abbrev pub wanted_list : WantedBlocks → List Wanted
wanted_list w = w.first ∷ option_to_list w.other

abbrev pub wanted_in : Option WantedBlocks → List Wanted
wanted_in None = []
wanted_in (Some w) = wanted_list w
