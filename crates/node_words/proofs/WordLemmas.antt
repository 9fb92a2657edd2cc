-- A node after a word, by what the word left.
use Rattle.std.proofs.Common.{◌≡◌, ◌≢◌, ℕ, zero, suc, ◌+◌, ◌<◌, ◌≤◌, true, List, [], refl, sym, ap, ◌∙◌, subst, inl, inr, arith}
use Rattle.std.proofs.lemmas.Bool.Decides.{eqb_tells}
use Rattle.node_memory.specs.exec_map.Contents.{program_of}
use Rattle.node_memory.specs.jump_map.Image.{Cell}
use Rattle.node_words.specs.declared.exec_state.ExecState.{ExecState}
use Rattle.node_words.specs.declared.lane.ProcessorState as kept
use Rattle.node_words.specs.Address.{word_address}
use Rattle.node_memory.specs.node_model.Node.{Node, Work, Phase, Running, Want, WordOutcome, can_execute, counts_after, printed_also, stop_at, next_outcome, word_outcome}
use Rattle.node_memory.specs.node_model.Turns.{Turn, silent, want_all, each_block_once, with_byes, is_ended, after_word, after_wants, word_turn}
use Rattle.node_memory.specs.Shelf.{Shelf, Ground, ground_of, local_of}
use Rattle.node_words.specs.Kept.{Follows, lane_of}
use Rattle.node_words.specs.GoingOn.{BodyGoesOn, GoesFurther, node_on, phase_on}
use Rattle.node_words.specs.Runs.{GoesOnBy}

-- a turn with the Byes of its end
abbrev pub ending : ℕ → Turn → Turn
ending nodes t = with_byes nodes t (is_ended t.node.phase)

-- the node at another word, with another lane and what words see
abbrev pub moved : Work → Node → kept.ProcessorState → Shelf → ℕ → Node
moved work n l s k = record n {
  lane = lane_of l (word_address k);
  local = local_of s;
  executed = n.executed + 1;
  stamp = n.stamp + 1;
  phase = stop_at work.budget (n.executed + 1);
}

-- after a word that printed and wanted nothing
pub hot_turn : (work : Work) (n : Node) (g : Ground) (l : kept.ProcessorState) (s : Shelf) (k : ℕ)
    → Follows work.image (word_outcome work n) g (word_address k) l s
    → word_turn work n ≡ ending work.layout.nodes (silent (moved work n l s k))
hot_turn work n g l s k f =
    let wants : after_wants work n ≡ after_word work n =
    ap (λ (ws : List Want). want_all work.layout (after_word work n) (each_block_once work.layout ws)) f.wants in
    let word : after_word work n ≡ silent (moved work n l s k) = λ t. record {
      node = record n {
        lane = sym f.lane t;
        local = sym f.local t;
        executed = n.executed + 1;
        phase = f.phase work.budget (n.executed + 1) t;
        stamp = n.stamp + 1;
        output = printed_also n.output (n.stamp + 1) (f.output t);
        counts = counts_after (f.tally t) n.counts;
      };
      sends = [];
      printed = f.output t;
    } in
    ap (ending work.layout.nodes) (wants ∙ word)

-- a processor that has executed its budget is stopped, and one that hasn't runs
pub runs_on : (budget executed : ℕ) → executed ≢ budget → stop_at budget executed ≡ Running
runs_on budget executed apart = elim (eqb_tells executed budget) [
  | inl e ↦ absurd (apart e.1)
  | inr e ↦ rw e.0 refl
]

-- one word more

goes_on_one : (work : Work) (k : ℕ) (n m q : Node) → GoesOnBy work k n m → can_execute m.phase ≡ true
    → word_turn work m ≡ silent q → GoesOnBy work (suc k) n q
goes_on_one work zero n m q is may turn =
    let here : word_turn work n ≡ silent q = ap (word_turn work) is ∙ turn in
    let node = ap (λ (t : Turn). t.node) here in (
      ap (λ (x : Node). can_execute x.phase) is ∙ may,
      here ∙ ap silent (sym node),
      node,
    )
goes_on_one work (suc k) n m q on may turn = (on.0, on.1, goes_on_one work k (word_turn work n).node m q on.2 may turn)

pub goes_on_more : (work : Work) (k : ℕ) (n m q : Node) → GoesOnBy work k n m → can_execute m.phase ≡ true
    → word_turn work m ≡ silent q → GoesOnBy work (k + 1) n q
goes_on_more work k n m q on may turn =
    let next : k + 1 ≡ suc k = omega arith in
    subst (λ (j : ℕ). GoesOnBy work j n q) (sym next) (goes_on_one work k n m q on may turn)

pub body_starts : (image : List Cell) (most from : ℕ) (b : ExecState) → BodyGoesOn image most from b 0 from b
body_starts image most from b = λ work n at program may room. refl

pub still_may : (p : Phase) (words : ℕ) → can_execute p ≡ true → can_execute (phase_on p words) ≡ true
still_may p zero may = may
still_may p (suc k) may = refl

-- a word more, of which its micro-op did what it does
pub body_more : (image : List Cell) (most from words at k : ℕ) (b m b' : ExecState)
    → words < most → ground_of m.local ≡ ground_of b.local → BodyGoesOn image most from b words at m
    → Follows image (next_outcome (program_of m.local.program) image (lane_of m.lane (word_address at)) (local_of m.local)) (ground_of m.local) (word_address k) b'.lane b'.local
    → BodyGoesOn image most from b (words + 1) k b'
body_more image most from words at k b m b' below ground on follows = λ work n same program may room.
    let here = node_on n m at words in
    let whole : next_outcome (program_of m.local.program) image (lane_of m.lane (word_address at)) (local_of m.local)
    ≡ word_outcome work here =
    λ t. next_outcome ((ap (λ (g : Ground). program_of g.program) ground ∙ sym program) t) (sym same t) here.lane here.local in
    let f : Follows work.image (word_outcome work here) (ground_of m.local) (word_address k) b'.lane b'.local =
    subst (λ (i : List Cell). Follows i (word_outcome work here) (ground_of m.local) (word_address k) b'.lane b'.local) (sym same)
    (subst (λ (o : WordOutcome). Follows image o (ground_of m.local) (word_address k) b'.lane b'.local) whole follows) in
    let apart : n.executed + words + 1 ≢ work.budget = λ e. omega (arith, e, room, below) in
    let runs = runs_on work.budget (n.executed + words + 1) apart in
    let next : phase_on n.phase (words + 1) ≡ Running = ap (phase_on n.phase) (one_more words) in
    let executed : n.executed + words + 1 ≡ n.executed + (words + 1) = omega arith in
    let stamp : n.stamp + words + 1 ≡ n.stamp + (words + 1) = omega arith in
    let node : moved work here b'.lane b'.local k ≡ node_on n b' k (words + 1) = λ t. record n {
      lane = lane_of b'.lane (word_address k);
      local = local_of b'.local;
      executed = executed t;
      stamp = stamp t;
      phase = (runs ∙ sym next) t;
    } in
    let turn : word_turn work here ≡ silent (node_on n b' k (words + 1)) =
    hot_turn work here (ground_of m.local) b'.lane b'.local k f
    ∙ ap (λ (p : Phase). with_byes work.layout.nodes (silent (moved work here b'.lane b'.local k)) (is_ended p)) runs
    ∙ ap silent node in
    goes_on_more work words (node_on n b from 0) here (node_on n b' k (words + 1))
    (on work n same program may room) (still_may n.phase words may) turn
  where
    one_more : (k : ℕ) → k + 1 ≡ suc k
    one_more k = omega arith

-- further by one word
pub goes_one : (image : List Cell) (at words k : ℕ) (b b' : ExecState)
    → Follows image (next_outcome (program_of b.local.program) image (lane_of b.lane (word_address at)) (local_of b.local)) (ground_of b.local) (word_address k) b'.lane b'.local
    → GoesFurther image b at words b' k (words + 1)
goes_one image at words k b b' follows = record {
  more = omega arith;
  ground_same = follows.ground_same;
  goes = λ most from first few ground on.
      body_more image most from words at k first b b' (omega (arith, few)) ground on follows;
}

-- by none
pub goes_none : (image : List Cell) (at words : ℕ) (b b' : ExecState) → b'.lane ≡ b.lane → b'.local ≡ b.local
    → GoesFurther image b at words b' at words
goes_none image at words b b' lane local =
    let same : ◌≡◌ {A = ExecState} (record b' { counts = b.counts; log = b.log }) b =
    λ t. record { lane = lane t; local = local t; counts = b.counts; log = b.log } in
    record {
      more = omega arith;
      ground_same = ap ground_of local;
      goes = λ most from first few ground on. subst (λ (x : ExecState). BodyGoesOn image most from first words at x) (sym same) on;
    }

-- and by those of two stretches
pub goes_both : (image : List Cell) (at words at1 words1 at2 words2 : ℕ) (b m b' : ExecState)
    → GoesFurther image b at words m at1 words1 → GoesFurther image m at1 words1 b' at2 words2
    → GoesFurther image b at words b' at2 words2
goes_both image at words at1 words1 at2 words2 b m b' one two =
    let less = one.more in
    let more = two.more in
    record {
      more = omega (arith, less, more);
      ground_same = two.ground_same ∙ one.ground_same;
      goes = λ most from first few ground on.
          two.goes most from first few (one.ground_same ∙ ground) (one.goes most from first (omega (arith, few, more)) ground on);
    }

-- by so many words, after those before
pub goes_by : (image : List Cell) (most from words at here next to n total : ℕ) (first b b' : ExecState) → here ≡ at
    → next ≡ to → words + n ≡ total → total ≤ most
    → ((w : ℕ) → GoesFurther image b here w b' next (w + n)) → ground_of b.local ≡ ground_of first.local
    → BodyGoesOn image most from first words at b → BodyGoesOn image most from first total to b'
goes_by image most from words at here next to n total first b b' same lead sum few goes ground on =
    subst (λ (k : ℕ). BodyGoesOn image most from first total k b') lead
    (subst (λ (k : ℕ). BodyGoesOn image most from first k next b') sum
    ((goes words).goes most from first (omega (arith, sum, few)) ground
    (subst (λ (k : ℕ). BodyGoesOn image most from first words k b) (sym same) on)))
