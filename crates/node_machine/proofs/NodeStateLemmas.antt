-- A node's events, by what it stores.
use Rattle.std.proofs.Common.{◌≡◌, ◌≢◌, ℕ, zero, suc, ◌+◌, ◌<◌, ◌≤◌, Bool, true, false, cond, eqb, List, [], ◌++◌, Option, refl, sym, ap, ◌∙◌, subst, inl, inr, arith}
use Rattle.std.proofs.lemmas.Bool.Decides.{eqb_tells, nat_tests}
use Rattle.rv32_program.specs.declared.End.TheVariants.{Stopped}
use Rattle.node_words.specs.dsm_messages.declared.messages.Post.{Post}
use Rattle.node_words.specs.node_model.declared.NodeCounts.{NodeCounts}
use Rattle.node_words.specs.declared.exec_state.ExecState.{ExecState}
use Rattle.node_machine.specs.declared.protocol_state.ProtocolState.{ProtocolState}
use Rattle.node_machine.specs.declared.node_state.NodeState.{NodeState}
use Rattle.node_words.specs.declared.lane.ProcessorState as kept
use Rattle.node_words.specs.declared.serve.Served as kept_served
use Rattle.node_words.specs.declared.serve.Following.{Following}
use Rattle.node_words.specs.declared.serve.Following.TheVariants as following_by
use Rattle.node_words.specs.Address.{word_address}
use Rattle.node_words.specs.node_model.Node.{Node, Work, Phase, Running, Resumed, Waiting, Ended, Tally, Nothing_counted, FalseMiss, FallsBack, can_execute, counts_after, printed_also, stop_at, stop_or, word_outcome}
use Rattle.node_words.specs.node_model.Turns.{silent, want_all, each_block_once, with_byes, byes_to, is_ended, after_word, word_turn}
use Rattle.node_words.specs.node_memory.Shelf.{Shelf, Ground, ground_of, local_of}
use Rattle.node_words.specs.Kept.{Follows, Serves, phase_by, wants_by, lane_of}
use Rattle.node_machine.specs.NodeState.{work_of, node_of, layout_of, with_parts, AreCountsBelow, WaitsInPhase, HasBegun}
use Rattle.node_machine.specs.ProtocolState.{turn_by}
use Rattle.node_machine.specs.Wanted.{wants_along, wants_of_word}
use Rattle.node_machine.specs.declared.wanted.Wanted.{Wanted}
use Rattle.node_words.specs.GoingOn.{phase_on}
use Rattle.node_words.proofs.WordLemmas.{ending, moved, runs_on, hot_turn}

-- 1. Turns

pub byes_by : (nodes : ℕ) (n : Node) (posts : List Post) (p : Option ℕ) (t : Bool)
    → turn_by n (cond t (posts ++ byes_to nodes) posts) p ≡ with_byes nodes (turn_by n posts p) t
byes_by nodes n posts p true = refl
byes_by nodes n posts p false = refl

-- after a word that its micro-op served, where the budget has a further one
pub passed_turn : (i : NodeState) (b : ExecState) (k : ℕ)
    → Follows i.lane.image.now (word_outcome (work_of i) (node_of i)) (ground_of i.shared.body.value.local) (word_address k) b.lane b.local
    → b.counts ≡ i.shared.body.value.counts → i.lane.executed + 1 < i.lane.budget
    → word_turn (work_of i) (node_of i)
    ≡ silent (record (moved (work_of i) (node_of i) b.lane b.local k) { phase = Running; counts = b.counts })
passed_turn i b k f counts below =
    let apart : i.lane.executed + 1 ≢ i.lane.budget = λ e. omega (arith, e, below) in
    let next = moved (work_of i) (node_of i) b.lane b.local k in
    hot_turn (work_of i) (node_of i) (ground_of i.shared.body.value.local) b.lane b.local k f
    ∙ ap (λ (p : Phase). ending (layout_of i.shared.body.value).nodes (silent (record next { phase = p }))) (runs_on i.lane.budget (i.lane.executed + 1) apart)
    ∙ (λ t. silent (record next { phase = Running; counts = sym counts t }))

-- the node after a word that was served, before its wants
abbrev pub served_node : Work → Node → kept.ProcessorState → Shelf → NodeCounts → kept_served.Served → Node
served_node work n l s counts done = record n {
  lane = lane_of l (word_address done.at);
  local = local_of s;
  executed = n.executed + 1;
  phase = phase_by work.budget (n.executed + 1) done.following;
  stamp = n.stamp + 1;
  output = printed_also n.output (n.stamp + 1) done.output;
  counts = counts;
}

-- after a word that was served
pub served_word : (work : Work) (n : Node) (g : Ground) (l : kept.ProcessorState) (s : Shelf) (counts : NodeCounts) (done : kept_served.Served)
    → Serves work.image (word_outcome work n) g n.counts l s counts done
    → after_word work n ≡ turn_by (served_node work n l s counts done) [] done.output
served_word work n g l s counts done f = λ t. record {
  node = record n {
    lane = sym f.lane t;
    local = sym f.local t;
    executed = n.executed + 1;
    phase = sym (f.phase work.budget (n.executed + 1)) t;
    stamp = n.stamp + 1;
    output = printed_also n.output (n.stamp + 1) (sym f.output t);
    counts = sym f.counts_after t;
  };
  sends = [];
  printed = sym f.output t;
}

pub cold_turn : (work : Work) (n : Node) (g : Ground) (l : kept.ProcessorState) (s : Shelf) (counts : NodeCounts) (done : kept_served.Served)
    → Serves work.image (word_outcome work n) g n.counts l s counts done
    → word_turn work n ≡ ending work.layout.nodes
    (want_all work.layout (turn_by (served_node work n l s counts done) [] done.output) (each_block_once work.layout (wants_by done.following)))
cold_turn work n g l s counts done f =
    ap (ending work.layout.nodes)
    (λ t. want_all work.layout (served_word work n g l s counts done f t) (each_block_once work.layout (sym f.wants t)))

-- what it wants
pub served_wants : (i : NodeState) (b : ExecState) (done : kept_served.Served) (ws : List Wanted)
    → Serves i.lane.image.now (word_outcome (work_of i) (node_of i)) (ground_of i.shared.body.value.local) i.shared.body.value.counts b.lane b.local b.counts done
    → ((m : Node) (p : Option ℕ) → wants_along (layout_of b) (turn_by (with_parts m b i.shared.protocol) [] p) (each_block_once (layout_of b) (wants_by done.following)) ≡ ws)
    → ws ≡ wants_of_word (work_of i) (node_of i)
served_wants i b done ws s asked =
    let before = served_node (work_of i) (node_of i) b.lane b.local b.counts done in
    let word = served_word (work_of i) (node_of i) (ground_of i.shared.body.value.local) b.lane b.local b.counts done s in
    let l = layout_of i.shared.body.value in
    sym (asked before done.output)
    ∙ ap (λ (g : Ground). wants_along g.layout (turn_by before [] done.output) (each_block_once g.layout (wants_by done.following))) s.ground_same
    ∙ (λ t. wants_along l (sym word t) (each_block_once l (s.wants t)))

-- after a word that was served, and whose wants were asked for
pub served_turn : (i : NodeState) (b b' : ExecState) (d : ProtocolState) (done : kept_served.Served) (posts : List Post) (last : Node)
    → Serves i.lane.image.now (word_outcome (work_of i) (node_of i)) (ground_of i.shared.body.value.local) i.shared.body.value.counts b.lane b.local b.counts done
    → ((m : Node) (p : Option ℕ) → want_all (layout_of b) (turn_by (with_parts m b i.shared.protocol) [] p) (each_block_once (layout_of b) (wants_by done.following))
    ≡ turn_by (with_parts m b' d) posts p)
    → last ≡ with_parts (served_node (work_of i) (node_of i) b.lane b.local b.counts done) b' d
    → ending (layout_of i.shared.body.value).nodes (turn_by last posts done.output) ≡ word_turn (work_of i) (node_of i)
served_turn i b b' d done posts last s ask is =
    let before = served_node (work_of i) (node_of i) b.lane b.local b.counts done in
    let wants : want_all (layout_of i.shared.body.value) (turn_by before [] done.output) (each_block_once (layout_of i.shared.body.value) (wants_by done.following)) ≡ turn_by last posts done.output =
    ap (λ (g : Ground). want_all g.layout (turn_by before [] done.output) (each_block_once g.layout (wants_by done.following))) (sym s.ground_same)
    ∙ ask before done.output
    ∙ ap (λ (x : Node). turn_by x posts done.output) (sym is) in
    sym (cold_turn (work_of i) (node_of i) (ground_of i.shared.body.value.local) b.lane b.local b.counts done s
    ∙ ap (ending (layout_of i.shared.body.value).nodes) wants)

-- 2. What is true of every node

pub counts_up : (m k : ℕ) (c : NodeCounts) → m ≤ k → AreCountsBelow m c → AreCountsBelow k c
counts_up m k c h a = record {
  read = let x = a.read in omega (arith, h, x);
  exclusive = let x = a.exclusive in omega (arith, h, x);
  upgrade = let x = a.upgrade in omega (arith, h, x);
  falses = let x = a.falses in omega (arith, h, x);
  invalidations = let x = a.invalidations in omega (arith, h, x);
  fallbacks = let x = a.fallbacks in omega (arith, h, x);
  messages = let x = a.messages in omega (arith, h, x);
}

pub tally_below : (t : Tally) (m : ℕ) (c : NodeCounts) → AreCountsBelow m c → AreCountsBelow (m + 1) (counts_after t c)
tally_below Nothing_counted m c a = counts_up m (m + 1) c (omega arith) a
tally_below FalseMiss m c a =
    let up = counts_up m (m + 1) c (omega arith) a in
    let x = a.falses in
    record {
      read = up.read;
      exclusive = up.exclusive;
      upgrade = up.upgrade;
      falses = omega (arith, x);
      invalidations = up.invalidations;
      fallbacks = up.fallbacks;
      messages = up.messages;
    }
tally_below FallsBack m c a =
    let up = counts_up m (m + 1) c (omega arith) a in
    let x = a.fallbacks in
    record {
      read = up.read;
      exclusive = up.exclusive;
      upgrade = up.upgrade;
      falses = up.falses;
      invalidations = up.invalidations;
      fallbacks = omega (arith, x);
      messages = up.messages;
    }

pub served_below : (t : Tally) (m : ℕ) (c c' : NodeCounts) → c' ≡ counts_after t c → AreCountsBelow m c → AreCountsBelow (m + 1) c'
served_below t m c c' is a = subst (AreCountsBelow (m + 1)) (sym is) (tally_below t m c a)

-- a processor whose budget isn't used up goes on, and another is stopped
pub stop_goes : (budget executed : ℕ) (p q : Phase) → p ≡ stop_or budget executed q → executed ≤ budget
    → can_execute p ≡ true → executed < budget
stop_goes budget executed p q is within may = elim (eqb_tells executed budget) [
  | inl e ↦
      (let stopped : stop_or budget executed q ≡ Ended (Stopped budget) = rw e.0 refl in
      let both : true ≡ false = sym may ∙ ap can_execute (is ∙ stopped) in
      absurd (cc))
  | inr e ↦ (let apart = e.1 in lt_of executed budget within apart)
]
  where
    lt_of : (x y : ℕ) → x ≤ y → x ≢ y → x < y
    lt_of x y a b = grind (arith, nat_tests)

pub may_waits : (p : Phase) (w : ℕ) → can_execute p ≡ true → WaitsInPhase p w → w ≡ 0
may_waits Running w may h = h
may_waits Resumed w may h = h
may_waits (Waiting r) w may h = absurd (cc)
may_waits (Ended e) w may h = absurd (cc)

pub stop_waits : (budget executed w : ℕ) (p q : Phase) → p ≡ stop_or budget executed q → w ≡ 0 → WaitsInPhase q w → WaitsInPhase p w
stop_waits budget executed w p q is none h = subst (λ (x : Phase). WaitsInPhase x w) (sym is) (go (eqb executed budget))
  where
    go : (t : Bool) → WaitsInPhase (cond t (Ended (Stopped budget)) q) w
    go true = none
    go false = h

pub on_waits : (p : Phase) (k w : ℕ) → can_execute p ≡ true → WaitsInPhase p w → WaitsInPhase (phase_on p k) w
on_waits p zero w may h = h
on_waits p (suc k) w may h = may_waits p w may h

pub begun_waits : (budget executed w : ℕ) (following : Following) → HasBegun following w → WaitsInPhase (phase_by budget executed following) w
begun_waits budget executed w following_by.GoesOn h = stop_waits budget executed w (stop_at budget executed) Running refl h h
begun_waits budget executed w (following_by.Waits r want) h = h
begun_waits budget executed w (following_by.Leaves e) h = h

-- a processor that may go on after a word has words left
pub following_runs : (budget executed : ℕ) (following : Following) (p : Phase) → p ≡ phase_by budget executed following
    → executed ≤ budget → can_execute p ≡ true → executed < budget
following_runs budget executed following_by.GoesOn p is within may = stop_goes budget executed p Running is within may
following_runs budget executed (following_by.Waits r want) p is within may =
    let both : true ≡ false = sym may ∙ ap can_execute is in absurd (cc)
following_runs budget executed (following_by.Leaves e) p is within may =
    let both : true ≡ false = sym may ∙ ap can_execute is in absurd (cc)

-- a word that ends its processor wants nothing
pub ended_silent : (budget executed : ℕ) (following : Following) → is_ended (phase_by budget executed following) ≡ true
    → wants_by following ≡ []
ended_silent budget executed following_by.GoesOn e = refl
ended_silent budget executed (following_by.Waits r want) e = absurd (cc)
ended_silent budget executed (following_by.Leaves x) e = refl
