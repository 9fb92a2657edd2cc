-- A core run is short: its words are no more than the budgets, its messages no more than the words'
-- wants allow, and its Byes one from each node to each.
use Rattle.std.proofs.Common.{◌≡◌, ◌≢◌, ℕ, zero, suc, ◌+◌, ◌*◌, ◌<◌, ◌≤◌, cond, Bool, true, false, List, [], ◌∷◌, length, Option, Some, None, refl, sym, ap, ◌∙◌, subst, inl, inr, arith}
use Rattle.std.specs.Prelude.{not, ◌&&◌}
use Rattle.rewriting_law.proofs.Names.{Shape, changed, Message, Wire, count_of, Miss, Row, AtHome, AtNode, row_of, is_bye, Processor, State, opening, run, CommitKind, PlanEntry, commit_at, old_of, is_for_home, Work, Node, NodeMemory, Want, Move, Waits, Leaves, WordOutcome, Phase, word_outcome, Turn, holding, wants_of, after_word, after_wants, word_turn, is_ended, handled, resumed, journaled, after_message, take_turn, each_block_once, Core, Event, Exec, Take, May, IsCoreRun, opening_core, take_first, event_step, after, messages_of, most_events, picks_at, original_by_node}
use Rattle.dsm_protocol.specs.Events.{row_of as row_at}
use Rattle.dsm_protocol.proofs.Counting.{count_one}
use Rattle.dsm_protocol.proofs.Promised.{proper}
use Rattle.dsm_protocol.proofs.ProtocolSide as world
use Rattle.rewriting_law.proofs.templates.RegisterLemmas.{equal, apart as unlike}
use Rattle.rewriting_law.proofs.words.CodeSide.{CodeSide, Follows}
use Rattle.rewriting_law.proofs.one_memory.Matching.{Runs}
use Rattle.rewriting_law.proofs.one_memory.Sharing.{with_local}
use Rattle.rewriting_law.proofs.protocol_side.ProtocolSide.{Handled}
use Rattle.rewriting_law.proofs.protocol_side.Spending.{Counts, no_counts, total, total_one, few_taken}
use Rattle.rewriting_law.proofs.protocol_side.Directory.{Rest, world_of, missed, took, take_from, directory}
use Rattle.rewriting_law.proofs.protocol_side.DirectorySide.{Layout}
use Rattle.rewriting_law.proofs.one_memory.Wants.{ask, ask_all}
use Rattle.rewriting_law.proofs.runs.Turns.{byes_node, wants_same, handled_same, resumed_is}
use Rattle.rewriting_law.proofs.runs.TurnTies.{rest_at, locals_of}
use Rattle.rewriting_law.proofs.runs.Composed.{MatchesCore, counts_of_word, counts_of_take, counts_by, pace_of_word, may_run, next_word, event_leads, start_matches, start_counts}
use Rattle.rewriting_law.proofs.runs.Alone.{bye_noted}
use Rattle.rewriting_law.proofs.progress.Calm.{is_calm, IsCalm}
use Rattle.rewriting_law.proofs.progress.Closing.{wants_byes, row_byes, handled_by_row, resumed_byes, Closing, event_closing, start_closing}
use Rattle.rewriting_law.proofs.progress.Stuck.{count_most}
use Rattle.rewriting_law.proofs.progress.Budgets.{within}

-- 1. What is counted

pub scaled : (c a b : ℕ) → a ≤ b → c * a ≤ c * b
scaled zero a b h = omega arith
scaled (suc c) a b h = let rest = scaled c a b h in omega (arith, rest, h)

-- one of the nodes has changed
pub node_total : (field : Node → ℕ) (nodes : ℕ → Node) (i : ℕ) (m : Node) (d n : ℕ) → i < n
    → field m ≡ field (nodes i) + d
    → total (λ x. field (changed nodes i m x)) n ≡ total (λ x. field (nodes x)) n + d
node_total field nodes i m d n low is =
    elim (total_one (λ x. field (nodes x)) (λ x. field (changed nodes i m x)) i d
    (ap (λ z. field (cond z m (nodes i))) (equal i i refl) ∙ is)
    (λ x other. ap (λ z. field (cond z m (nodes x))) (unlike x i other)) n) [
      | inl h ↦ (let above = h.0 in absurd (omega (arith, low, above)))
      | inr h ↦ h.1
    ]

-- no more was wanted than this, and nothing taken
record Asked (d : ℕ) (old new : Counts) : Type 0 where
  most : new.asked ≤ old.asked + d
  same : new.taken ≡ old.taken

missed_counts : (layout : Shape) (n : NodeMemory) (rest : Rest) (i b : ℕ) (o : Option Miss)
    → Asked 1 rest.counts (missed layout n rest i b o).rest.counts
missed_counts layout n rest i b None = record { most = omega arith; same = refl }
missed_counts layout n rest i b (Some miss) = record { most = omega arith; same = refl }

asked_counts : (layout : Shape) (work : Work) (plan : List PlanEntry) (locals : ℕ → NodeMemory) (i : ℕ)
    (ws : List Want) (t : Handled Rest)
    → Asked (length ws) t.rest.counts
    (ask_all layout work plan (directory layout) locals i t ws).rest.counts
asked_counts layout work plan locals i [] t = record { most = omega arith; same = refl }
asked_counts layout work plan locals i (w ∷ ws) t =
    let u = ask layout work plan (directory layout) locals i t w in
    let first : Asked 1 t.rest.counts u.rest.counts = missed_counts layout _ t.rest i _ _ in
    let rest = asked_counts layout work plan locals i ws u in
    let one = first.most in
    let more = rest.most in
    record { most = omega (arith, one, more); same = rest.same ∙ first.same }

-- a message was taken, by its row or without one
pub took_counts : (layout : Shape) (n : NodeMemory) (rest : Rest) (i j : ℕ) (ms : List Message)
    (o : Option Row)
    → ((took layout n rest i j ms o).rest.counts.asked ≡ rest.counts.asked)
    × (rest.counts.taken ≤ (took layout n rest i j ms o).rest.counts.taken)
took_counts layout n rest i j ms None = (refl, omega arith)
took_counts layout n rest i j ms (Some (AtHome b row)) = (refl, omega arith)
took_counts layout n rest i j ms (Some (AtNode b row)) = (refl, omega arith)

pub took_one : (layout : Shape) (n : NodeMemory) (rest : Rest) (i j : ℕ) (ms : List Message) (row : Row)
    → (took layout n rest i j ms (Some row)).rest.counts.taken ≡ rest.counts.taken + 1
took_one layout n rest i j ms (AtHome b row) = refl
took_one layout n rest i j ms (AtNode b row) = refl

pub resumed_executed : (work : Work) (n : Node) (phase : Phase)
    → (resumed work n phase).executed ≡ n.executed
resumed_executed work n =
    resumed_is work n (λ m. m.executed ≡ n.executed) refl (λ resume. refl)

-- a Bye at the head of a list wasn't taken before
pub bye_ahead : (taken : Bool) (wire : Wire) (ws : List Wire) → is_bye wire.message ≡ true
    → is_calm taken (wire ∷ ws) ≡ true → taken ≡ false
bye_ahead false wire ws bye calm = refl
bye_ahead true wire ws bye calm =
    let bad : false ≡ true = sym (ap (λ z. cond z (not true && is_calm true ws)
    (not (true && is_for_home wire.message) && is_calm true ws)) bye) ∙ calm in cc

module _ (work : Work) (plan : List PlanEntry) (lay : Layout work)
    (code : CodeSide work.layout work plan) where
  abbrev layout : Shape
  layout = work.layout

  abbrev words_of : Core → ℕ
  words_of c = total (λ x. (c.nodes x).executed) layout.nodes

  abbrev byes_at : Node → ℕ
  byes_at n = count_of n.byes layout.nodes

  abbrev byes_of : Core → ℕ
  byes_of c = total (λ x. byes_at (c.nodes x)) layout.nodes

  -- the events that were made are words, takes of messages, and takes of Byes
  record IsShort (c : Core) (counts : Counts) (made : ℕ) : Type 0 where
    asked : counts.asked ≤ 2 * words_of c
    counted : made ≤ words_of c + counts.taken + byes_of c

  -- 2. A word

  module _ (c : Core) (s : State) (m : MatchesCore work plan lay code c s) (made : ℕ)
      (h : IsShort c m.counts made) (i : ℕ) (below : i < layout.nodes) where
    abbrev n : Node
    n = c.nodes i

    few_wanted : (q : Processor) (r : WordOutcome) (kind : CommitKind) (mv : Move)
        → Follows layout work plan (code.Stands (pace_of_word work plan lay code c m.paces i)) q n.local r kind mv
        → length (each_block_once layout (wants_of mv)) ≤ 2
    few_wanted q r kind (Leaves e) f = omega arith
    few_wanted q r kind (Waits resume want more) f = f.1.few
    few_wanted q r kind other f = omega arith

    short_word : m.doing i ≡ Runs
        → IsShort (event_step work c (Exec i)) (counts_of_word work plan lay code m.counts c i)
        (made + 1)
    short_word runs =
        let r = word_outcome work n in
        let t = after_wants work n in
        let u = word_turn work n in
        let node = byes_node layout.nodes t (is_ended t.node.phase) in
        let executed : u.node.executed ≡ n.executed + 1 =
        ap (λ (x : Node). x.executed) node
        ∙ (wants_same layout (each_block_once layout (wants_of r.move))
        (after_word work n)).executed in
        let byes : u.node.byes ≡ n.byes = ap (λ (x : Node). x.byes) node
        ∙ wants_byes layout (each_block_once layout (wants_of r.move)) (after_word work n) in
        let same : byes_at u.node ≡ byes_at n + 0 =
        (let e = ap (λ f. count_of f layout.nodes) byes in omega (arith, e)) in
        let words = node_total (λ x. x.executed) c.nodes i u.node 1 layout.nodes below executed in
        let left = node_total byes_at c.nodes i u.node 0 layout.nodes below same in
        let few = few_wanted (s.processors i) r
        (commit_at work.program plan (old_of work.image n.lane.at)) r.move
        (next_word work plan lay code c s m i below runs) in
        let locals : ℕ → NodeMemory = with_local (locals_of c) i r.local in
        let counts : Asked (length (each_block_once layout (wants_of r.move))) m.counts
        (counts_of_word work plan lay code m.counts c i) =
        asked_counts layout work plan locals i (each_block_once layout (wants_of r.move))
        (record { local = locals i; rest = rest_at m.counts c }) in
        let most = counts.most in
        let kept = counts.same in
        let asked = h.asked in
        let before = h.counted in
        record {
          asked = omega (arith, asked, words, few, most);
          counted = omega (arith, before, words, left, kept);
        }

    -- 3. A message

    module _ (j : ℕ) (lj : j < layout.nodes) (wire : Wire) (ws : List Wire)
        (front : c.list j i ≡ wire ∷ ws) (calm : IsCalm layout.nodes c) where
      abbrev n1 : Node
      n1 = journaled n j wire

      abbrev t1 : Turn
      t1 = handled layout n1 j wire.message

      abbrev u : Turn
      u = take_turn work n j wire

      node_is : u.node ≡ resumed work t1.node t1.node.phase
      node_is = byes_node layout.nodes (after_message work n j wire)
          (is_ended (after_message work n j wire).node.phase && not (is_ended n.phase))

      executed_same : u.node.executed ≡ n.executed
      executed_same = ap (λ (x : Node). x.executed) node_is
          ∙ resumed_executed work t1.node t1.node.phase
          ∙ (handled_same layout n1 j wire.message).executed

      byes_same : u.node.byes ≡ t1.node.byes
      byes_same = ap (λ (x : Node). x.byes) node_is ∙ resumed_byes work t1.node t1.node.phase

      abbrev counts_then : List Wire → Counts
      counts_then xs = (take_from layout (locals_of c) (rest_at m.counts c) i j
          (messages_of xs)).rest.counts

      abbrev row_there : Option Row
      row_there = row_at layout (world_of layout (locals_of c) (rest_at m.counts c)) i j
          wire.message

      then_counts : ((counts_then (wire ∷ ws)).asked ≡ m.counts.asked)
          × (m.counts.taken ≤ (counts_then (wire ∷ ws)).taken)
      then_counts = took_counts layout n.local (rest_at m.counts c) i j (messages_of ws) row_there

      -- the message is counted, or it is a Bye
      bye_or_row : (b : Bool) → is_bye wire.message ≡ b → (d : ℕ) × (byes_at u.node ≡ byes_at n + d)
          × (m.counts.taken + 1 ≤ (counts_then (wire ∷ ws)).taken + d)
      bye_or_row true bye =
          let old : n.byes j ≡ false = bye_ahead (n.byes j) wire ws bye
          (sym (ap (is_calm (n.byes j)) front) ∙ calm.lists j i lj below) in
          let byes : u.node.byes ≡ changed n.byes j true = byes_same
          ∙ ap (λ (x : Turn). x.node.byes) (bye_noted layout n1 j wire.message bye) in
          let one = count_one (changed n.byes j true) n.byes layout.nodes j lj
          (ap (λ z. cond z true (n.byes j)) (equal j j refl)) old
          (λ x other. ap (λ z. cond z true (n.byes x)) (unlike x j other)) in
          let most = then_counts.1 in
          (1, ap (λ f. count_of f layout.nodes) byes ∙ one, omega (arith, most))
      bye_or_row false plain =
          let got = world.takes lay.laws layout lay.valid lay.laid
          (world_of layout (locals_of c) (rest_at m.counts c)) s.shared
          m.matches.shares.held.holds i j wire.message (messages_of ws) below lj
          (ap messages_of front) plain in
          let byes : u.node.byes ≡ n.byes = byes_same
          ∙ ap (λ (x : Turn). x.node.byes) (handled_by_row layout n1 j wire.message plain)
          ∙ row_byes layout n1 (row_of layout n1.me (holding layout n1) j wire.message) in
          let count = ap (λ f. count_of f layout.nodes) byes in
          let one : (counts_then (wire ∷ ws)).taken ≡ m.counts.taken + 1 =
          ap (λ o. (took layout n.local (rest_at m.counts c) i j (messages_of ws)
          o).rest.counts.taken) got.1
          ∙ took_one layout n.local (rest_at m.counts c) i j (messages_of ws) got.0 in
          (0, omega (arith, count), omega (arith, one))

      short_message : IsShort (take_first work c i j (wire ∷ ws)) (counts_then (wire ∷ ws))
          (made + 1)
      short_message =
          let words = node_total (λ x. x.executed) c.nodes i u.node 0 layout.nodes below
          (let e = executed_same in omega (arith, e)) in
          let more = bye_or_row (is_bye wire.message) refl in
          let byes = node_total byes_at c.nodes i u.node more.0 layout.nodes below more.1 in
          let taken = more.2 in
          let wanted = then_counts.0 in
          let asked = h.asked in
          let before = h.counted in
          record {
            asked = omega (arith, asked, words, wanted);
            counted = omega (arith, before, words, byes, taken);
          }

    short_take : (j : ℕ) → j < layout.nodes → IsCalm layout.nodes c → c.list j i ≢ []
        → IsShort (event_step work c (Take i j)) (counts_of_take work plan lay code m.counts c i j)
        (made + 1)
    short_take j lj calm some = go (c.list j i) refl
      where
        go : (xs : List Wire) → c.list j i ≡ xs → IsShort (event_step work c (Take i j))
            (counts_of_take work plan lay code m.counts c i j) (made + 1)
        go [] e = absurd (some e)
        go (wire ∷ ws) e = subst (λ xs. IsShort (take_first work c i j xs)
            (counts_then j lj wire ws e calm xs) (made + 1)) (sym e)
            (short_message j lj wire ws e calm)

  short_event : (c : Core) (s : State) (m : MatchesCore work plan lay code c s) (made : ℕ)
      → IsShort c m.counts made → IsCalm layout.nodes c → (e : Event) → May work c e
      → IsShort (event_step work c e) (counts_by work plan lay code m.counts c e) (made + 1)
  short_event c s m made h calm (Exec i) may =
      short_word c s m made h i may.0
      (may_run work plan lay code (c.nodes i) (m.doing i) (c.nodes i).phase (m.phases i may.0)
      may.1)
  short_event c s m made h calm (Take i j) may = short_take c s m made h i may.0 j may.1 calm may.3

  -- 4. A run

  -- what holds after a run
  record Behind (c : Core) (made : ℕ) : Type 0 where
    state : State
    matches : MatchesCore work plan lay code c state
    short : IsShort c matches.counts made

  after_run : (es : List Event) (c : Core) (s : State) (m : MatchesCore work plan lay code c s)
      (made : ℕ) → IsShort c m.counts made → Closing layout.nodes c → IsCoreRun work c es
      → Behind (after work c es) (made + length es)
  after_run [] c s m made h f may = record {
    state = s;
    matches = m;
    short = subst (IsShort c m.counts) (let e : made ≡ made + 0 = omega arith in e) h;
  }
  after_run (e ∷ es) c s m made h f may =
      let d = event_step work c e in
      let leads = (event_leads work plan lay code c s m e may.0).0 in
      subst (Behind (after work d es))
      (let same : made + 1 + length es ≡ made + suc (length es) = omega arith in same)
      (after_run es d (run (original_by_node work) s (picks_at work plan c e)) leads.behind
      (made + 1) (subst (λ k. IsShort d k (made + 1)) (sym leads.counted)
      (short_event c s m made h f.calm e may.0))
      (event_closing work plan lay code c s m f e may.0) may.1)

  start_short : IsShort (opening_core work) no_counts 0
  start_short = record { asked = omega arith; counted = omega arith }

  all_at_most : (f : ℕ → ℕ) (d n : ℕ) → ((x : ℕ) → x < n → f x ≤ d) → total f n ≤ n * d
  all_at_most f d zero h = omega arith
  all_at_most f d (suc n) h =
      let rest = all_at_most f d n (λ x low. h x (omega (arith, low))) in
      let here = h n (omega arith) in omega (arith, rest, here)

  pub short : 0 < work.budget → (es : List Event) → IsCoreRun work (opening_core work) es
      → length es ≤ most_events work
  short some es may =
      let c = after work (opening_core work) es in
      let b = after_run es (opening_core work) (opening (original_by_node work))
      (start_matches work plan lay code) 0
      (subst (λ k. IsShort (opening_core work) k 0) (sym (start_counts work plan lay code))
      start_short) (start_closing work plan lay code) may in
      let held = b.matches.matches.shares.held in
      let counted = b.short.counted in
      let made : length es ≤ words_of c + b.matches.counts.taken + byes_of c =
      omega (arith, counted) in
      let asked = b.short.asked in
      let taken = few_taken layout held.holds.first (proper layout lay.laid held.holds.first)
      held.holds.events b.matches.counts held.counted in
      let words = all_at_most (λ x. (c.nodes x).executed) work.budget layout.nodes
      (λ x low. (within work es (opening_core work)
      (λ y. record { most = omega arith; less = λ e. some }) may x).most) in
      let byes = all_at_most (λ x. byes_at (c.nodes x)) layout.nodes layout.nodes
      (λ x low. count_most (c.nodes x).byes layout.nodes) in
      spends layout.nodes work.budget (words_of c) b.matches.counts.asked b.matches.counts.taken
      (byes_of c) (length es) made asked taken words byes
    where
      spends : (nodes budget words asked taken byes made : ℕ) → made ≤ words + taken + byes
          → asked ≤ 2 * words → taken ≤ (2 * nodes + 2) * asked → words ≤ nodes * budget
          → byes ≤ nodes * nodes → made ≤ (4 * nodes + 5) * (nodes * budget) + nodes * nodes
      spends nodes budget words asked taken byes made sum few most all told =
          let first = scaled (2 * nodes + 2) asked (2 * words) few in
          let second = scaled (4 * nodes + 5) words (nodes * budget) all in
          let both : (2 * nodes + 2) * (2 * words) + words ≡ (4 * nodes + 5) * words =
          omega arith in
          omega (arith, sum, most, told, first, second, both)
