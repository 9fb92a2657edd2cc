-- What an event counts, and what a run does.
use Rattle.std.proofs.Common.{◌≡◌, ℕ, ◌+◌, Bool, true, false, cond, eqb, List, [], ◌∷◌, ◌++◌, length, map, Option, Some, None, refl, sym, ap, ◌∙◌, inl, inr, add-zero}
use Rattle.std.specs.Prelude.{is_some, option_to_list}
use Rattle.std.specs.Option.{option_map, option_map_or}
use Rattle.std.proofs.lemmas.Bool.{eq-eqb, ne_eqb}
use Rattle.std.proofs.lemmas.Bool.Decides.{eqb_tells}
use Rattle.std.proofs.lemmas.List.{length-map}
use Rattle.block_layout.specs.Layout.{Shape}
use Rattle.buf_pool.specs.Pool.{empty_buffer}
use Rattle.replay.specs.node_model.home_directory.dsm_messages.declared.messages.Message.{Message}
use Rattle.replay.specs.node_model.home_directory.dsm_messages.declared.messages.Message.TheVariants.{Read, Write, FwdRead, FwdWrite, Inval, Data, Grant, Ack, Done, Bye}
use Rattle.replay.specs.node_model.home_directory.dsm_messages.declared.messages.Wire.{Wire}
use Rattle.replay.specs.node_model.home_directory.Table.{Miss, want_row}
use Rattle.replay.specs.node_model.miss_handlers.Effects.{block_facts}
use Rattle.replay.specs.node_model.miss_handlers.Rows.{Row, AtHome, AtNode, clears}
use Rattle.templates.specs.declared.plans.PlanEntry.{PlanEntry}
use Rattle.rv32_program.specs.declared.End.TheVariants.{Stopped}
use Rattle.replay.specs.node_model.declared.NodeCounts.{NodeCounts}
use Rattle.replay.specs.node_model.Node.{Work, Node, Want, Phase, Running, Resumed, Waiting, Ended, Nothing_counted, lane_resumed, tally_resumed, counts_after, stop_or, word_outcome}
use Rattle.replay.specs.node_model.Turns.{Turn, block_at, want_in, want_all, with_miss, with_byes, wants_of, each_block_once, count_want, count_row, after_word, after_wants, word_turn, by_row_or, handled, has_no_wait, resumed, journaled, after_message, take_turn, is_ended}
use Rattle.replay.specs.node_model.Core.{Core, Event, Exec, Take, take_first, event_step, after}
use Rattle.replay.specs.run_order.OwnRun.{Stamped, run_of}
use Rattle.replay.specs.node_model.home_directory.dsm_messages.Headers.{sent_by}
use Rattle.replay.specs.node_machine.Wanted.{block_with, wanted, wants_along}
use Rattle.run_trace.specs.Traced.{Traced, What, Word, Taken, word_traced, row_met, is_waiting, tally_of_wait, take_traced, first_traced, traced_at}
use Rattle.run_trace.specs.Trace.{trace_from}
use Rattle.run_trace.specs.Sums.{count_asked, count_wants, count_in, counts_from}

pub byes_node : (nodes : ℕ) (t : Turn) (b : Bool) → (with_byes nodes t b).node ≡ t.node
byes_node nodes t true = refl
byes_node nodes t false = refl

-- 1. A word

module _ (layout : Shape) where
  miss_counts : (t : Turn) (w : Want) (b : ℕ) (o : Option Miss)
      → (with_miss layout b w.need t o).node.counts
      ≡ cond (is_some o) (count_want w.need (block_at layout t.node b).state t.node.counts) t.node.counts
  miss_counts t w b None = refl
  miss_counts t w b (Some miss) = refl

  want_counts : (t : Turn) (w : Want) (o : Option ℕ)
      → (want_in layout t w.need o).node.counts ≡ count_asked (wanted layout t.node w o) t.node.counts
  want_counts t w None = refl
  want_counts t w (Some b) =
      miss_counts t w b (want_row (block_facts layout b) (block_at layout t.node b) b w.need (empty_buffer 4096))

  wants_counts : (ws : List Want) (t : Turn)
      → (want_all layout t ws).node.counts ≡ count_wants (wants_along layout t ws) t.node.counts
  wants_counts [] t = refl
  wants_counts (w ∷ ws) t =
      let o = block_with layout w.at in
      wants_counts ws (want_in layout t w.need o)
      ∙ ap (count_wants (wants_along layout (want_in layout t w.need o) ws)) (want_counts t w o)

pub word_counts : (work : Work) (plan : List PlanEntry) (n : Node)
    → (word_turn work n).node.counts ≡ count_in (Word (word_traced work plan n)) n.counts
word_counts work plan n =
    ap (λ (m : Node). m.counts)
    (byes_node work.layout.nodes (after_wants work n) (is_ended (after_wants work n).node.phase))
    ∙ wants_counts work.layout (each_block_once work.layout (wants_of (word_outcome work n).move)) (after_word work n)

-- 2. A message

-- nothing more
none_more : (c : NodeCounts) → c ≡ count_row false 0 c
none_more c = λ t. record c { messages = sym (add-zero c.messages) t }

row_counts : (layout : Shape) (n : Node) (o : Option Row) → (by_row_or layout n o).node.counts
    ≡ count_row (option_map_or clears o false) (length (by_row_or layout n o).sends) n.counts
row_counts layout n None = none_more n.counts
row_counts layout n (Some (AtHome b row)) = refl
row_counts layout n (Some (AtNode b row)) = refl

handled_counts : (layout : Shape) (n : Node) (j : ℕ) (m : Message)
    → (handled layout n j m).node.counts
    ≡ count_row (option_map_or clears (row_met layout n j m) false) (length (handled layout n j m).sends) n.counts
handled_counts layout n j Bye = none_more n.counts
handled_counts layout n j (Read b buf) = row_counts layout n (row_met layout n j (Read b buf))
handled_counts layout n j (Write b buf) = row_counts layout n (row_met layout n j (Write b buf))
handled_counts layout n j (FwdRead b r buf) = row_counts layout n (row_met layout n j (FwdRead b r buf))
handled_counts layout n j (FwdWrite b r k buf) = row_counts layout n (row_met layout n j (FwdWrite b r k buf))
handled_counts layout n j (Inval b r) = row_counts layout n (row_met layout n j (Inval b r))
handled_counts layout n j (Data b k buf) = row_counts layout n (row_met layout n j (Data b k buf))
handled_counts layout n j (Grant b k buf) = row_counts layout n (row_met layout n j (Grant b k buf))
handled_counts layout n j (Ack b) = row_counts layout n (row_met layout n j (Ack b))
handled_counts layout n j (Done b) = row_counts layout n (row_met layout n j (Done b))

row_phase : (layout : Shape) (n : Node) (o : Option Row) → (by_row_or layout n o).node.phase ≡ n.phase
row_phase layout n None = refl
row_phase layout n (Some (AtHome b row)) = refl
row_phase layout n (Some (AtNode b row)) = refl

handled_phase : (layout : Shape) (n : Node) (j : ℕ) (m : Message) → (handled layout n j m).node.phase ≡ n.phase
handled_phase layout n j Bye = refl
handled_phase layout n j (Read b buf) = row_phase layout n (row_met layout n j (Read b buf))
handled_phase layout n j (Write b buf) = row_phase layout n (row_met layout n j (Write b buf))
handled_phase layout n j (FwdRead b r buf) = row_phase layout n (row_met layout n j (FwdRead b r buf))
handled_phase layout n j (FwdWrite b r k buf) = row_phase layout n (row_met layout n j (FwdWrite b r k buf))
handled_phase layout n j (Inval b r) = row_phase layout n (row_met layout n j (Inval b r))
handled_phase layout n j (Data b k buf) = row_phase layout n (row_met layout n j (Data b k buf))
handled_phase layout n j (Grant b k buf) = row_phase layout n (row_met layout n j (Grant b k buf))
handled_phase layout n j (Ack b) = row_phase layout n (row_met layout n j (Ack b))
handled_phase layout n j (Done b) = row_phase layout n (row_met layout n j (Done b))

same_either : {A : Type 0} (b : Bool) (x : A) → cond b x x ≡ x
same_either true x = refl
same_either false x = refl

-- one that was stopped, or goes on, doesn't wait
goes_on : (b : Bool) (e : Phase) → is_waiting e ≡ false → is_waiting (cond b e Resumed) ≡ false
goes_on true e h = h
goes_on false e h = refl

-- what a node counts that goes on
resumed_counts : (work : Work) (n : Node) (phase : Phase) → n.phase ≡ phase
    → (resumed work n phase).counts ≡ counts_after
    (cond (is_waiting (resumed work n phase).phase) Nothing_counted
    (tally_of_wait (resumed work n phase) phase)) n.counts
resumed_counts work n Running is = ap (λ x. counts_after x n.counts)
    (sym (same_either (is_waiting n.phase) Nothing_counted))
resumed_counts work n Resumed is = ap (λ x. counts_after x n.counts)
    (sym (same_either (is_waiting n.phase) Nothing_counted))
resumed_counts work n (Ended end) is = ap (λ x. counts_after x n.counts)
    (sym (same_either (is_waiting n.phase) Nothing_counted))
resumed_counts work n (Waiting resume) is = by (has_no_wait work.layout n)
  where
    on : Node
    on = record n {
      lane = lane_resumed n.lane n.local resume;
      phase = stop_or work.budget n.executed Resumed;
      counts = counts_after (tally_resumed n.local resume) n.counts;
    }

    by : (b : Bool) → (cond b on n).counts ≡ counts_after
        (cond (is_waiting (cond b on n).phase) Nothing_counted (tally_of_wait (cond b on n) (Waiting resume)))
        n.counts
    by true =
        ap (λ z. counts_after (cond z Nothing_counted (tally_resumed n.local resume)) n.counts)
        (sym (goes_on (eqb n.executed work.budget) (Ended (Stopped work.budget)) refl))
    by false = ap (λ z. counts_after (cond z Nothing_counted (tally_resumed n.local resume)) n.counts)
        (sym (ap is_waiting is))

pub take_counts : (work : Work) (n : Node) (j : ℕ) (wire : Wire)
    → (take_turn work n j wire).node.counts ≡ count_in (Taken (take_traced work n j wire)) n.counts
take_counts work n j wire =
    let layout = work.layout in
    let m = journaled n j wire in
    let t : Turn = handled layout m j wire.message in
    let r : Node = resumed work t.node t.node.phase in
    let waits = is_waiting r.phase in
    let given = option_map_or clears (row_met layout n j wire.message) false in
    let phase : t.node.phase ≡ n.phase = handled_phase layout m j wire.message in
    let counts : t.node.counts ≡ count_row given (length t.sends) n.counts = handled_counts layout m j wire.message in
    let long : length t.sends ≡ length (map sent_by t.sends) = sym (length-map t.sends sent_by) in
    ap (λ (k : Node). k.counts) (byes_node layout.nodes (after_message work n j wire) _)
    ∙ resumed_counts work t.node t.node.phase refl
    ∙ (λ i. counts_after (cond waits Nothing_counted (tally_of_wait r (phase i))) (counts i))
    ∙ ap (λ k. counts_after (cond waits Nothing_counted (tally_of_wait r n.phase)) (count_row given k n.counts)) long

-- 3. A run

-- an event of node k counts at node i
at_node : (i k : ℕ) (nodes : ℕ → Node) (m : Node) (w : What) (stamp : ℕ) → m.counts ≡ count_in w (nodes k).counts
    → counts_from i (record { stamp = stamp; node = k; what = w } ∷ []) (nodes i).counts
    ≡ (cond (eqb i k) m (nodes i)).counts
at_node i k nodes m w stamp h =
    let c = (nodes i).counts in
    elim (eqb_tells i k) [
      | inl same ↦ (ap (λ b. cond b (count_in w c) c) (eq-eqb k i (sym same.1))
          ∙ ap (λ x. count_in w (nodes x).counts) same.1 ∙ sym h ∙ ap (λ b. (cond b m (nodes i)).counts) (sym same.0))
      | inr apart ↦ (ap (λ b. cond b (count_in w c) c) (ne_eqb k i (λ e. apart.1 (sym e)))
          ∙ ap (λ b. (cond b m (nodes i)).counts) (sym apart.0))
    ]

first_counts : (work : Work) (c : Core) (i k j stamp : ℕ) (wires : List Wire)
    → counts_from i (option_to_list
    (option_map (λ w. record { stamp = stamp; node = k; what = w }) (first_traced work (c.nodes k) j wires)))
    (c.nodes i).counts ≡ ((take_first work c k j wires).nodes i).counts
first_counts work c i k j stamp [] = refl
first_counts work c i k j stamp (wire ∷ rest) =
    at_node i k c.nodes (take_turn work (c.nodes k) j wire).node (Taken (take_traced work (c.nodes k) j wire)) stamp
    (take_counts work (c.nodes k) j wire)

event_counts : (work : Work) (plan : List PlanEntry) (c : Core) (i stamp : ℕ) (e : Event)
    → counts_from i (option_to_list (traced_at work plan c (record { stamp = stamp; event = e }))) (c.nodes i).counts
    ≡ ((event_step work c e).nodes i).counts
event_counts work plan c i stamp (Exec k) =
    at_node i k c.nodes (word_turn work (c.nodes k)).node (Word (word_traced work plan (c.nodes k))) stamp
    (word_counts work plan (c.nodes k))
event_counts work plan c i stamp (Take k j) = first_counts work c i k j stamp (c.list j k)

one_first : (i : ℕ) (o : Option Traced) (rest : List Traced) (c : NodeCounts)
    → counts_from i (option_to_list o ++ rest) c ≡ counts_from i rest (counts_from i (option_to_list o) c)
one_first i None rest c = refl
one_first i (Some x) rest c = refl

pub run_counts : (work : Work) (plan : List PlanEntry) (i : ℕ) (xs : List Stamped) (c : Core)
    → counts_from i (trace_from work plan c xs) (c.nodes i).counts ≡ ((after work c (run_of xs)).nodes i).counts
run_counts work plan i [] c = refl
run_counts work plan i (x ∷ xs) c =
    let d = event_step work c x.event in
    one_first i (traced_at work plan c x) (trace_from work plan d xs) (c.nodes i).counts
    ∙ ap (counts_from i (trace_from work plan d xs)) (event_counts work plan c i x.stamp x.event)
    ∙ run_counts work plan i xs d
