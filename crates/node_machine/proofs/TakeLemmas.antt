-- A node after a message, by what it stores.
use Rattle.std.proofs.Common.{◌≡◌, ℕ, ◌+◌, ◌<◌, ◌≤◌, ◌&&◌, not, Bool, true, false, cond, eqb, List, [], ◌∷◌, ◌++◌, length, set, None, refl, sym, ap, ◌∙◌, subst, inl, inr, arith}
use Rattle.std.specs.Prelude.{is_some}
use Rattle.std.proofs.Math.Path.{fun_ext}
use Rattle.std.proofs.lemmas.List.{get_or-set_same, get_or-set_other}
use Rattle.std.proofs.lemmas.Bool.Decides.{eqb_tells, nat_tests}
use Rattle.block_layout.specs.Layout.{Shape, blocks}
use Rattle.block_layout.specs.Update.{changed}
use Rattle.node_words.specs.dsm_messages.declared.messages.Message.{Message}
use Rattle.node_words.specs.dsm_messages.declared.messages.Message.TheVariants.{Read, Write, FwdRead, FwdWrite, Inval, Data, Grant, Ack, Done, Bye}
use Rattle.node_words.specs.dsm_messages.declared.messages.Post.{Post}
use Rattle.node_words.specs.dsm_messages.declared.messages.Wire.{Wire}
use Rattle.node_words.specs.home_directory.Effects.{members}
use Rattle.node_words.specs.home_directory.Home.{count_of}
use Rattle.node_words.specs.miss_handlers.Rows.{row_of}
use Rattle.node_words.specs.miss_handlers.Waits.{NodeWaits, AreWaits, wait_of}
use Rattle.rv32_program.specs.declared.End.TheVariants.{Stopped}
use Rattle.node_words.specs.declared.exec_state.ExecState.{ExecState}
use Rattle.node_machine.specs.declared.protocol_state.ProtocolState.{ProtocolState}
use Rattle.node_machine.specs.declared.node_state.NodeState.{NodeState}
use Rattle.node_words.specs.node_model.declared.Entry.{Entry}
use Rattle.node_words.specs.node_model.declared.NodeCounts.{NodeCounts}
use Rattle.node_words.specs.node_model.Node.{Node, Work, NodeMemory, Phase, Running, Resumed, Waiting, Ended, tally_resumed}
use Rattle.node_words.specs.node_model.Turns.{Turn, handled, journaled, later, resumed, has_no_wait, after_message, take_turn, with_byes, is_ended, by_row_or, holding, words_before}
use Rattle.node_machine.specs.NodeState.{work_of, node_of, layout_of, with_all, phase_resumed, lane_after_wait, counts_after_wait, AreCountsBelow, WaitsInPhase}
use Rattle.node_machine.specs.ProtocolState.{turn_by}
use Rattle.node_words.specs.node_memory.Shelf.{local_of}
use Rattle.node_machine.proofs.NodeStateLemmas.{counts_up, tally_below}
use Rattle.node_machine.proofs.WaitLemmas.{waits_count}

pub members_set : (xs : List Bool) (r : ℕ) → r < length xs → members (set xs r true) ≡ changed (members xs) r true
members_set xs r within = fun_ext (λ i. elim (eqb_tells i r) [
  | inl e ↦ rw e.0 (rw e.1 (get_or-set_same xs r true false within))
  | inr e ↦ rw e.0 (get_or-set_other xs r i true false e.1)
])

-- a message other than a Bye has its row
pub handled_other : (l : Shape) (n : Node) (j : ℕ) (m : Message) → (m ≡ Bye → ⊥)
    → handled l n j m ≡ by_row_or l n (row_of l n.me (holding l n) j m)
handled_other l n j (Read b buf) other = refl
handled_other l n j (Write b buf) other = refl
handled_other l n j (Done b) other = refl
handled_other l n j (FwdRead b q buf) other = refl
handled_other l n j (FwdWrite b q k buf) other = refl
handled_other l n j (Inval b q) other = refl
handled_other l n j (Data b k buf) other = refl
handled_other l n j (Grant b k buf) other = refl
handled_other l n j (Ack b) other = refl
handled_other l n j Bye other = absurd (other refl)

-- where no wait is left
pub no_wait_is : (l : Shape) (w : NodeWaits) (pending : ℕ) → w.layout ≡ l → AreWaits w.layout w.waits → pending ≡ length w.waits
    → eqb (count_of (λ b. is_some (wait_of w b)) (blocks l)) 0 ≡ eqb pending 0
no_wait_is l w pending layout are is =
    let count = waits_count l w.waits (subst (λ z. AreWaits z w.waits) layout are) in
    ap (λ x. eqb x 0) (count ∙ sym is)

pub resumed_by : (work : Work) (n : Node) (p : Phase) (idle : Bool) → n.phase ≡ p → has_no_wait work.layout n ≡ idle
    → resumed work n p ≡ record n {
      lane = lane_after_wait n.local idle p n.lane;
      phase = phase_resumed work.budget n.executed idle p;
      counts = counts_after_wait n.local idle p n.counts;
    }
resumed_by work n Running idle is none = λ t. record n { phase = is t }
resumed_by work n Resumed idle is none = λ t. record n { phase = is t }
resumed_by work n (Ended e) idle is none = λ t. record n { phase = is t }
resumed_by work n (Waiting r) true is none = rw none refl
resumed_by work n (Waiting r) false is none = rw none (λ t. record n { phase = is t })

-- a message that was handled
pub taken : (i : NodeState) (from : ℕ) (wire : Wire) (b : ExecState) (d : ProtocolState) (byes : List Bool) (posts : List Post)
    (idle : Bool) (last : Node)
    → ((n : Node) → n.me ≡ i.shared.protocol.directory.me → handled (layout_of i.shared.body.value) (with_all n i.shared.body.value i.shared.protocol i.shared.byes) from wire.message
    ≡ turn_by (with_all n b d byes) posts None)
    → eqb (count_of (λ x. is_some (wait_of d.waits x)) (blocks (layout_of i.shared.body.value))) 0 ≡ idle
    → last ≡ record (with_all (journaled (node_of i) from wire) b d byes) {
      lane = lane_after_wait (local_of b.local) idle (node_of i).phase (node_of i).lane;
      phase = phase_resumed i.lane.budget i.lane.executed idle (node_of i).phase;
      counts = counts_after_wait (local_of b.local) idle (node_of i).phase b.counts;
    } → after_message (work_of i) (node_of i) from wire ≡ turn_by last posts None
taken i from wire b d byes posts idle last handle none is =
    let after = with_all (journaled (node_of i) from wire) b d byes in
    ap (λ (t : Turn). turn_by (resumed (work_of i) t.node t.node.phase) t.sends t.printed) (handle (journaled (node_of i) from wire) refl)
    ∙ ap (λ (n : Node). turn_by n posts None) (resumed_by (work_of i) after (node_of i).phase idle refl none ∙ sym is)

-- the counts after a message
pub wait_below : (n : NodeMemory) (idle : Bool) (p : Phase) (m : ℕ) (c : NodeCounts) → AreCountsBelow m c
    → AreCountsBelow (m + 1) (counts_after_wait n idle p c)
wait_below n idle Running m c a = counts_up m (m + 1) c (omega arith) a
wait_below n idle Resumed m c a = counts_up m (m + 1) c (omega arith) a
wait_below n idle (Ended e) m c a = counts_up m (m + 1) c (omega arith) a
wait_below n true (Waiting r) m c a = tally_below (tally_resumed n r) m c a
wait_below n false (Waiting r) m c a = counts_up m (m + 1) c (omega arith) a

pub and_false : (b : Bool) → (b && false) ≡ false
and_false true = refl
and_false false = refl

pub and_true : (b : Bool) → (b && true) ≡ b
and_true true = refl
and_true false = refl

-- the turn of a node that had ended before, and of another
pub taken_ended : (i : NodeState) (from : ℕ) (wire : Wire) (posts : List Post) (last : Node)
    → after_message (work_of i) (node_of i) from wire ≡ turn_by last posts None → is_ended (node_of i).phase ≡ true
    → turn_by last posts None ≡ take_turn (work_of i) (node_of i) from wire
taken_ended i from wire posts last is ended =
    let silent : (is_ended last.phase && not (is_ended (node_of i).phase)) ≡ false =
    ap (λ t. is_ended last.phase && not t) ended ∙ and_false (is_ended last.phase) in
    sym (ap (λ (t : Turn). with_byes (layout_of i.shared.body.value).nodes t (is_ended t.node.phase && not (is_ended (node_of i).phase))) is
    ∙ ap (with_byes (layout_of i.shared.body.value).nodes (turn_by last posts None)) silent)

pub taken_going : (i : NodeState) (from : ℕ) (wire : Wire) (posts : List Post) (last : Node)
    → after_message (work_of i) (node_of i) from wire ≡ turn_by last posts None → is_ended (node_of i).phase ≡ false
    → with_byes (layout_of i.shared.body.value).nodes (turn_by last posts None) (is_ended last.phase) ≡ take_turn (work_of i) (node_of i) from wire
taken_going i from wire posts last is ended =
    let same : (is_ended last.phase && not (is_ended (node_of i).phase)) ≡ is_ended last.phase =
    ap (λ t. is_ended last.phase && not t) ended ∙ and_true (is_ended last.phase) in
    sym (ap (λ (t : Turn). with_byes (layout_of i.shared.body.value).nodes t (is_ended t.node.phase && not (is_ended (node_of i).phase))) is
    ∙ ap (with_byes (layout_of i.shared.body.value).nodes (turn_by last posts None)) same)

-- the waits and the phase after a message

pub zero_test : (w : ℕ) → eqb w 0 ≡ true → w ≡ 0
zero_test w e = grind (arith, nat_tests)

some_left : (w : ℕ) → eqb w 0 ≡ false → 0 < w
some_left w e = grind (arith, nat_tests)

pub resumed_waits : (budget executed : ℕ) (p : Phase) (old new : ℕ) (idle : Bool) → eqb new 0 ≡ idle → WaitsInPhase p old
    → (old ≡ 0 → new ≡ 0) → WaitsInPhase (phase_resumed budget executed idle p) new
resumed_waits budget executed Running old new idle is h none = none h
resumed_waits budget executed Resumed old new idle is h none = none h
resumed_waits budget executed (Ended e) old new idle is h none = none h
resumed_waits budget executed (Waiting r) old new true is h none = go (eqb executed budget)
  where
    go : (t : Bool) → WaitsInPhase (cond t (Ended (Stopped budget)) Resumed) new
    go true = zero_test new is
    go false = zero_test new is
resumed_waits budget executed (Waiting r) old new false is h none = some_left new is

-- the words that the journal has
pub words_more : (es : List Entry) (e : Entry) → words_before (es ++ e ∷ []) ≡ words_before es + e.words
words_more [] e = omega arith
words_more (x ∷ es) e = let r = words_more es e in omega (arith, r)

pub later_above : (s t : ℕ) → s ≤ later s t
later_above s t = grind (arith, nat_tests)
