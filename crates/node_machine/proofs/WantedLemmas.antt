-- What is wanted of a block, by its state.
use Rattle.std.proofs.Common.{◌≡◌, ℕ, ◌∙◌, Bool, true, false, not, cond, ap, sym, refl, Option, Some, None}
use Rattle.std.specs.Prelude.{is_some}
use Rattle.std.specs.Option.{option_map_or}
use Rattle.block_layout.specs.Layout.{Shape}
use Rattle.buf_pool.specs.Pool.{Buffer, empty_buffer}
use Rattle.state_table.specs.declared.State.{State}
use Rattle.node_words.specs.dsm_messages.declared.messages.Need.{Need}
use Rattle.node_words.specs.home_directory.Table.{BlockFacts, LocalBlock, Miss, meets, want_row}
use Rattle.node_words.specs.miss_handlers.Effects.{block_facts}
use Rattle.node_words.specs.node_model.Node.{Node, Want}
use Rattle.node_words.specs.node_model.Turns.{block_at}
use Rattle.node_machine.specs.Wanted.{wanted}

is_some_unless : (t : Bool) (m : Miss) → is_some (cond t None (Some m)) ≡ not t
is_some_unless true m = refl
is_some_unless false m = refl

-- a block is asked for, where it doesn't meet the need
pub asks_is : (f : BlockFacts) (l : LocalBlock) (b : ℕ) (need : Need) (buf : Buffer)
    → is_some (want_row f l b need buf) ≡ not (meets need l.state)
asks_is f l b need buf = is_some_unless (meets need l.state) _

-- by the block, if of one, and its state
pub wanted_is : (layout : Shape) (n : Node) (w : Want) (block other : Option ℕ) (b : ℕ) (state : Option State) (s : State) (asks : Bool)
    → block ≡ Some b → state ≡ Some s → s ≡ (block_at layout n b).state
    → asks ≡ option_map_or (λ s. not (meets w.need s)) state false → block ≡ other
    → record { address = w.at; need = w.need; block = block; state = state; asks = asks } ≡ wanted layout n w other
wanted_is layout n w block other b state s asks is now same eq there =
    let st : state ≡ Some (block_at layout n b).state = now ∙ ap (λ x. Some x) same in
    let a : asks ≡ is_some (want_row (block_facts layout b) (block_at layout n b) b w.need (empty_buffer 4096)) =
    eq ∙ ap (λ x. option_map_or (λ s. not (meets w.need s)) x false) st
    ∙ sym (asks_is (block_facts layout b) (block_at layout n b) b w.need (empty_buffer 4096)) in
    (λ t. record { address = w.at; need = w.need; block = is t; state = st t; asks = a t })
    ∙ ap (wanted layout n w) (sym is ∙ there)

pub wanted_none : (layout : Shape) (n : Node) (w : Want) (block other : Option ℕ) (state : Option State) (asks : Bool)
    → block ≡ None → state ≡ None → asks ≡ option_map_or (λ s. not (meets w.need s)) state false → block ≡ other
    → record { address = w.at; need = w.need; block = block; state = state; asks = asks } ≡ wanted layout n w other
wanted_none layout n w block other state asks is now eq there =
    let a : asks ≡ false = eq ∙ ap (λ x. option_map_or (λ s. not (meets w.need s)) x false) now in
    (λ t. record { address = w.at; need = w.need; block = is t; state = now t; asks = a t })
    ∙ ap (wanted layout n w) (sym is ∙ there)
