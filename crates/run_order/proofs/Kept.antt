-- What a turn does to a node's stamp, count of words, journal and printed bytes.
use Rattle.std.proofs.Common.{◌≡◌, ℕ, Bool, true, false, cond, List, [], ◌∷◌, Option, Some, None, refl, ◌∙◌}
use Rattle.block_layout.specs.Layout.{Shape, block_of}
use Rattle.node_model.specs.dsm_messages.declared.messages.Need.{Need}
use Rattle.node_model.specs.dsm_messages.declared.messages.Message.{Message}
use Rattle.node_model.specs.dsm_messages.declared.messages.Message.TheVariants.{Read, Write, FwdRead, FwdWrite, Inval, Data, Grant, Ack, Done, Bye}
use Rattle.node_model.specs.dsm_messages.declared.messages.Wire.{Wire}
use Rattle.node_model.specs.home_directory.Table.{Miss}
use Rattle.node_model.specs.miss_handlers.Rows.{Row, AtHome, AtNode}
use Rattle.node_model.specs.rv32_program.Program.{line_of}
use Rattle.node_model.specs.declared.Entry.{Entry as JournalEntry}
use Rattle.node_model.specs.declared.OutByte.{OutByte}
use Rattle.node_model.specs.Node.{Work, Node, Phase, Running, Resumed, Waiting, Ended, Want, word_outcome, word_step, counts_after, lane_resumed, tally_resumed, stop_or}
use Rattle.node_model.specs.Turns.{Turn, with_miss, want_in, want_all, each_block_once, with_byes, word_turn, by_row_or, handled, has_no_wait, resumed, take_turn, after_word, after_wants, wants_of, after_message, journaled}

pub record Kept : Type 0 where
  pub stamp : ℕ
  pub executed : ℕ
  pub journal : List JournalEntry
  pub output : List OutByte

abbrev pub kept : Node → Kept
kept n = record {
  stamp = n.stamp;
  executed = n.executed;
  journal = n.journal;
  output = n.output;
}

miss_kept : (l : Shape) (b : ℕ) (need : Need) (t : Turn) (m : Option Miss)
    → kept (with_miss l b need t m).node ≡ kept t.node
miss_kept l b need t None = refl
miss_kept l b need t (Some m) = refl

want_kept : (l : Shape) (t : Turn) (need : Need) (o : Option ℕ)
    → kept (want_in l t need o).node ≡ kept t.node
want_kept l t need None = refl
want_kept l t need (Some b) = miss_kept l b need t _

wants_kept : (l : Shape) (t : Turn) (ws : List Want) → kept (want_all l t ws).node ≡ kept t.node
wants_kept l t [] = refl
wants_kept l t (w ∷ ws) = wants_kept l (want_in l t w.need (block_of l (line_of w.at))) ws
    ∙ want_kept l t w.need (block_of l (line_of w.at))

byes_kept : (k : ℕ) (t : Turn) (b : Bool) → kept (with_byes k t b).node ≡ kept t.node
byes_kept k t true = refl
byes_kept k t false = refl

pub word_kept : (work : Work) (n : Node) → kept (word_turn work n).node ≡ kept (word_step work n)
word_kept work n = byes_kept work.layout.nodes (after_wants work n) _
    ∙ wants_kept work.layout (after_word work n) (each_block_once work.layout (wants_of (word_outcome work n).move))

row_kept : (l : Shape) (n : Node) (o : Option Row) → kept (by_row_or l n o).node ≡ kept n
row_kept l n None = refl
row_kept l n (Some (AtHome b row)) = refl
row_kept l n (Some (AtNode b row)) = refl

handled_kept : (l : Shape) (n : Node) (j : ℕ) (m : Message)
    → kept (handled l n j m).node ≡ kept n
handled_kept l n j (Read b buf) = row_kept l n _
handled_kept l n j (Write b buf) = row_kept l n _
handled_kept l n j (FwdRead b r buf) = row_kept l n _
handled_kept l n j (FwdWrite b r k buf) = row_kept l n _
handled_kept l n j (Inval b r) = row_kept l n _
handled_kept l n j (Data b k buf) = row_kept l n _
handled_kept l n j (Grant b k buf) = row_kept l n _
handled_kept l n j (Ack b) = row_kept l n _
handled_kept l n j (Done b) = row_kept l n _
handled_kept l n j Bye = refl

resumed_kept : (work : Work) (n : Node) (p : Phase) → kept (resumed work n p) ≡ kept n
resumed_kept work n Running = refl
resumed_kept work n Resumed = refl
resumed_kept work n (Ended e) = refl
resumed_kept work n (Waiting r) = either (has_no_wait work.layout n) (record n {
  lane = lane_resumed n.lane n.local r;
  phase = stop_or work.budget n.executed Resumed;
  counts = counts_after (tally_resumed n.local r) n.counts;
}) refl
  where
    either : (b : Bool) (m : Node) → kept m ≡ kept n → kept (cond b m n) ≡ kept n
    either true m e = e
    either false m e = refl

pub take_kept : (work : Work) (n : Node) (j : ℕ) (w : Wire)
    → kept (take_turn work n j w).node ≡ kept (journaled n j w)
take_kept work n j w = byes_kept work.layout.nodes (after_message work n j w) _
    ∙ resumed_kept work _ _ ∙ handled_kept work.layout (journaled n j w) j w.message
