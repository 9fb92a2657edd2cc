-- What a word left, by what is seen of it.
use Rattle.std.proofs.Common.{◌≡◌, ℕ, zero, suc, ◌+◌, ◌-◌, Bool, true, false, cond, eqb, not, List, [], ◌∷◌, ◌++◌, length, map, take, Option, Some, None, refl, ap, ◌∙◌, arith}
use Rattle.std.specs.Prelude.{is_some, option_and_then}
use Rattle.std.specs.Option.{option_map, option_map_or}
use Rattle.std.proofs.lemmas.List.{length-map, length-append, map-append}
use Rattle.std.proofs.Math.Seq.{take-append_seam}
use Rattle.block_layout.specs.Layout.{Shape}
use Rattle.buf_pool.specs.Pool.{empty_buffer}
use Rattle.rv32_program.specs.declared.End.TheVariants.{Stopped}
use Rattle.replay.specs.node_model.rv32_step.OneMemory.{Access, Nothing, Reads, Writes, WritesIf, Exchanges, value_read}
use Rattle.templates.specs.declared.commits.CommitKind.{CommitKind}
use Rattle.templates.specs.declared.commits.CommitKind.TheVariants.{Never, Always, IfNotFlag, IfNoWait}
use Rattle.templates.specs.declared.plans.PlanEntry.{PlanEntry}
use Rattle.templates.specs.Sequences.{flag_word}
use Rattle.state_table.specs.declared.State.{State}
use Rattle.state_table.specs.StateByte.{can_read}
use Rattle.replay.specs.node_model.home_directory.dsm_messages.declared.messages.Need.{Need}
use Rattle.replay.specs.node_model.home_directory.dsm_messages.declared.messages.Need.TheVariants as need_by
use Rattle.replay.specs.node_model.home_directory.dsm_messages.declared.messages.Post.{Post}
use Rattle.replay.specs.node_model.home_directory.dsm_messages.Headers.{sent_by}
use Rattle.replay.specs.node_model.home_directory.dsm_messages.declared.messages.Message.TheVariants.{Bye}
use Rattle.replay.specs.node_model.home_directory.Home.{post}
use Rattle.replay.specs.node_model.home_directory.Table.{Miss, want_row}
use Rattle.replay.specs.node_model.miss_handlers.Effects.{block_facts}
use Rattle.replay.specs.node_model.declared.NodeCounts.{NodeCounts}
use Rattle.replay.specs.node_model.Node.{Work, Node, Want, Move, Next, Again, To, Enters, Waits, Leaves, Phase, Running, Resumed, Waiting, Ended, WordOutcome, word_outcome, phase_after, end_of, is_at_poll, standing_in, has_all_byes, counts_after}
use Rattle.replay.specs.node_model.declared.Standing.TheVariants as standing
use Rattle.replay.specs.node_model.Turns.{Turn, block_at, want_in, want_all, with_miss, with_byes, byes_to, is_ended, count_want, wants_of, each_block_once, after_word, after_wants, word_turn}
use Rattle.replay.specs.rewriting_law.CoreRun.{is_exit, is_wait, commits_by}
use Rattle.replay.specs.node_machine.Wanted.{block_with, wants_of_word}
use Rattle.replay.specs.node_machine.declared.wanted.Wanted.{Wanted}
use Rattle.run_trace.specs.declared.reach.Reached.{Reached}
use Rattle.run_trace.specs.Traced.{accessed}
use Rattle.run_trace.specs.Sums.{count_asked, count_wants}
use Rattle.run_trace.specs.Looks.{access_seen, accessed_at, is_exited, waits_in, commits_when}
use Rattle.run_trace.proofs.Counting.{byes_node, word_counts}

-- 1. What wants leave as it is

miss_keeps : (layout : Shape) (t : Turn) (need : Need) (b : ℕ) (o : Option Miss)
    → ((with_miss layout b need t o).node.phase ≡ t.node.phase) × ((with_miss layout b need t o).printed ≡ t.printed)
miss_keeps layout t need b None = (refl, refl)
miss_keeps layout t need b (Some miss) = (refl, refl)

want_keeps : (layout : Shape) (t : Turn) (need : Need) (o : Option ℕ)
    → ((want_in layout t need o).node.phase ≡ t.node.phase) × ((want_in layout t need o).printed ≡ t.printed)
want_keeps layout t need None = (refl, refl)
want_keeps layout t need (Some b) =
    miss_keeps layout t need b (want_row (block_facts layout b) (block_at layout t.node b) b need (empty_buffer 4096))

wants_keep : (layout : Shape) (t : Turn) (ws : List Want)
    → ((want_all layout t ws).node.phase ≡ t.node.phase) × ((want_all layout t ws).printed ≡ t.printed)
wants_keep layout t [] = (refl, refl)
wants_keep layout t (w ∷ ws) =
    let one = want_keeps layout t w.need (block_with layout w.at) in
    let more = wants_keep layout (want_in layout t w.need (block_with layout w.at)) ws in
    (more.0 ∙ one.0, more.1 ∙ one.1)

byes_printed : (n : ℕ) (t : Turn) (b : Bool) → (with_byes n t b).printed ≡ t.printed
byes_printed n t true = refl
byes_printed n t false = refl

-- the node and the byte of a word's turn
pub turn_node : (work : Work) (n : Node) → (word_turn work n).node ≡ (after_wants work n).node
turn_node work n = byes_node work.layout.nodes (after_wants work n) (is_ended (after_wants work n).node.phase)

pub wants_phase : (work : Work) (n : Node)
    → (after_wants work n).node.phase ≡ phase_after work.budget (n.executed + 1) (word_outcome work n).move
wants_phase work n = (wants_keep work.layout (after_word work n)
    (each_block_once work.layout (wants_of (word_outcome work n).move))).0

pub turn_printed : (work : Work) (n : Node) → (word_turn work n).printed ≡ (word_outcome work n).printed
turn_printed work n =
    byes_printed work.layout.nodes (after_wants work n) (is_ended (after_wants work n).node.phase)
    ∙ (wants_keep work.layout (after_word work n) (each_block_once work.layout (wants_of (word_outcome work n).move))).1

-- 2. The end and the wait, by the phase

stopped : (b : Bool) (budget : ℕ) → is_exited (end_of (cond b (Ended (Stopped budget)) Running)) ≡ false
stopped true budget = refl
stopped false budget = refl

pub exit_seen : (budget executed : ℕ) (m : Move) → is_exited (end_of (phase_after budget executed m)) ≡ is_exit m
exit_seen budget executed Next = stopped (eqb executed budget) budget
exit_seen budget executed Again = stopped (eqb executed budget) budget
exit_seen budget executed (To a) = stopped (eqb executed budget) budget
exit_seen budget executed (Enters a) = stopped (eqb executed budget) budget
exit_seen budget executed (Waits r w ws) = refl
exit_seen budget executed (Leaves e) = refl

ended_waits : (b : Bool) → waits_in (cond b standing.Over standing.Ended) ≡ false
ended_waits true = refl
ended_waits false = refl

poll_waits : (b : Bool) → waits_in (cond b standing.AtPoll standing.Running) ≡ false
poll_waits true = refl
poll_waits false = refl

stopped_waits : (work : Work) (n : Node) (b : Bool) (budget : ℕ)
    → waits_in (standing_in work n (cond b (Ended (Stopped budget)) Running)) ≡ false
stopped_waits work n true budget = ended_waits (has_all_byes work n)
stopped_waits work n false budget = poll_waits (is_at_poll work n)

pub wait_seen : (work : Work) (n : Node) (budget executed : ℕ) (m : Move)
    → waits_in (standing_in work n (phase_after budget executed m)) ≡ is_wait m
wait_seen work n budget executed Next = stopped_waits work n (eqb executed budget) budget
wait_seen work n budget executed Again = stopped_waits work n (eqb executed budget) budget
wait_seen work n budget executed (To a) = stopped_waits work n (eqb executed budget) budget
wait_seen work n budget executed (Enters a) = stopped_waits work n (eqb executed budget) budget
wait_seen work n budget executed (Waits r w ws) = refl
wait_seen work n budget executed (Leaves e) = ended_waits (has_all_byes work n)

-- 3. The access and the commit

pub access_is : (layout : Shape) (a : Access) → option_map (accessed_at layout) (access_seen a) ≡ accessed layout a
access_is layout Nothing = refl
access_is layout (Reads k a v) = refl
access_is layout (Writes w a v) = refl
access_is layout (WritesIf a v true) = refl
access_is layout (WritesIf a v false) = refl
access_is layout (Exchanges a o n) = refl

value_is : (a : Access) → option_and_then (λ (r : Reached). r.value) (access_seen a) ≡ value_read a
value_is Nothing = refl
value_is (Reads k a v) = refl
value_is (Writes w a v) = refl
value_is (WritesIf a v true) = refl
value_is (WritesIf a v false) = refl
value_is (Exchanges a o n) = refl

pub commit_is : (kind : CommitKind) (o : WordOutcome) → commits_when kind (access_seen o.access) (is_wait o.move) ≡ commits_by kind o
commit_is Never o = refl
commit_is Always o = refl
commit_is IfNotFlag o = ap (λ x. option_map_or (λ v. not (eqb v flag_word)) x false) (value_is o.access)
commit_is IfNoWait o = refl

-- 4. What is counted beside misses

-- two counts have counted the same false misses and runs that fell back
abbrev pub SameOthers : (c d : NodeCounts) → Type 0
SameOthers c d = (c.falses ≡ d.falses) × (c.fallbacks ≡ d.fallbacks)

write_others : (b : Bool) (c : NodeCounts) → SameOthers
    (cond b (record c { upgrade = c.upgrade + 1; messages = c.messages + 1 }) (record c { exclusive = c.exclusive + 1; messages = c.messages + 1 })) c
write_others true c = (refl, refl)
write_others false c = (refl, refl)

want_others : (need : Need) (state : State) (c : NodeCounts) → SameOthers (count_want need state c) c
want_others need_by.Read state c = (refl, refl)
want_others need_by.Write state c = write_others (can_read state) c

state_others : (need : Need) (o : Option State) (c : NodeCounts)
    → SameOthers (option_map_or (λ s. count_want need s c) o c) c
state_others need None c = (refl, refl)
state_others need (Some s) c = want_others need s c

asked_others : (b : Bool) (need : Need) (o : Option State) (c : NodeCounts)
    → SameOthers (cond b (option_map_or (λ s. count_want need s c) o c) c) c
asked_others true need o c = state_others need o c
asked_others false need o c = (refl, refl)

wants_others : (ws : List Wanted) (c : NodeCounts) → SameOthers (count_wants ws c) c
wants_others [] c = (refl, refl)
wants_others (w ∷ ws) c =
    let one = asked_others w.asks w.need w.state c in
    let more = wants_others ws (count_asked w c) in
    (more.0 ∙ one.0, more.1 ∙ one.1)

pub word_others : (work : Work) (plan : List PlanEntry) (n : Node)
    → SameOthers (word_turn work n).node.counts (counts_after (word_outcome work n).tally n.counts)
word_others work plan n =
    let all = word_counts work plan n in
    let more = wants_others (wants_of_word work n) (counts_after (word_outcome work n).tally n.counts) in
    (ap (λ (c : NodeCounts). c.falses) all ∙ more.0, ap (λ (c : NodeCounts). c.fallbacks) all ∙ more.1)

-- 5. What was sent but for farewells

byes_long : (n : ℕ) → length (byes_to n) ≡ n
byes_long zero = refl
byes_long (suc n) =
    let a = length-append (byes_to n) (post n Bye ∷ []) in let b = byes_long n in omega (arith, a, b)

cut : (xs ys : List Post) (n : ℕ) → length ys ≡ n
    → take (length (map sent_by (xs ++ ys)) - n) (map sent_by (xs ++ ys)) ≡ map sent_by xs
cut xs ys n e =
    let long : length (map sent_by (xs ++ ys)) - n ≡ length (map sent_by xs) =
    (let a = length-map (xs ++ ys) sent_by in let b = length-map xs sent_by in let d = length-append xs ys in
    omega (arith, a, b, d, e)) in
    (λ t. take (long t) (map-append sent_by xs ys t)) ∙ take-append_seam (map sent_by xs) (map sent_by ys)

pub sends_cut : (nodes : ℕ) (t : Turn) (b : Bool)
    → cond b (take (length (map sent_by (with_byes nodes t b).sends) - nodes) (map sent_by (with_byes nodes t b).sends))
    (map sent_by (with_byes nodes t b).sends) ≡ map sent_by t.sends
sends_cut nodes t true = cut t.sends (byes_to nodes) nodes (byes_long nodes)
sends_cut nodes t false = refl

pub end_ends : (p : Phase) → is_some (end_of p) ≡ is_ended p
end_ends Running = refl
end_ends Resumed = refl
end_ends (Waiting r) = refl
end_ends (Ended e) = refl
