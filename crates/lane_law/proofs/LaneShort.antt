-- A run of nodes of several processors is short: its words are no more than the budgets, its
-- messages no more than the words' wants allow, and its Byes one from each node to each.
use Rattle.std.proofs.Common.{◌≡◌, ◌≢◌, ℕ, zero, suc, ◌+◌, ◌*◌, ◌<◌, ◌≤◌, cond, eqb, Bool, true, false, List, [], ◌∷◌, length, None, refl, sym, ap, ◌∙◌, subst, inl, inr, arith}
use Rattle.std.specs.Prelude.{not, ◌&&◌}
use Rattle.lane_law.proofs.Names.{changed, Wire, count_of, is_bye, row_of, State, opening, run, PlanEntry, Node, Turn, after_word, holding, LaneWork, LanePart, LaneNode, as_node, processors, node_of, lane_of, LaneTurn, part_after, wants_at, have_ended, word_before, word_turn, journaled, handled_for, after_message, take_turn, LaneCore, LaneEvent, Exec, Take, May, IsLaneRun, opening_core, take_first, event_step, after, picks_at, most_lane_events}
use Rattle.dsm_protocol.proofs.Counting.{count_one}
use Rattle.dsm_protocol.proofs.Promised.{proper}
use Rattle.rewriting_law.proofs.templates.RegisterLemmas.{equal, apart as unlike}
use Rattle.rewriting_law.proofs.one_memory.Sharing.{is_same}
use Rattle.rewriting_law.proofs.protocol_side.Spending.{Counts, no_counts, total, total_one, few_taken}
use Rattle.rewriting_law.proofs.protocol_side.DirectorySide.{Layout}
use Rattle.rewriting_law.proofs.runs.Alone.{bye_noted}
use Rattle.rewriting_law.proofs.progress.Closing.{row_byes, handled_by_row}
use Rattle.rewriting_law.proofs.progress.Short.{scaled, bye_ahead}
use Rattle.rewriting_law.proofs.progress.Calm.{is_calm}
use Rattle.rewriting_law.proofs.progress.Stuck.{count_most}
use Rattle.lane_law.proofs.LaneCode.{LaneCode}
use Rattle.lane_law.proofs.LaneCores.{part_in, one, MatchesCore, by_lane}
use Rattle.lane_law.proofs.LaneRuns.{CountsBy, event_leads, start_matches, start_counts}
use Rattle.lane_law.proofs.LaneTakes.{TakeCounts, bye_first}
use Rattle.lane_law.proofs.LaneWords.{WordCounts}
use Rattle.lane_law.proofs.LaneClosing.{asks_byes, ending_node, Closing, event_closing, start_closing}
use Rattle.lane_law.proofs.LaneBudgets.{word_lane, word_executed, take_lane, resumed_executed, within}

-- 1. Sums

total_same : (f g : ℕ → ℕ) (n : ℕ) → ((x : ℕ) → f x ≡ g x) → total f n ≡ total g n
total_same f g zero h = refl
total_same f g (suc n) h =
    let rest = total_same f g n h in
    let here = h n in omega (arith, rest, here)

all_at_most : (f : ℕ → ℕ) (d n : ℕ) → ((x : ℕ) → f x ≤ d) → total f n ≤ n * d
all_at_most f d zero h = omega arith
all_at_most f d (suc n) h =
    let rest = all_at_most f d n h in
    let here = h n in omega (arith, rest, here)

-- one of them is more by d
one_more : (f g : ℕ → ℕ) (b d n : ℕ) → b < n → g b ≡ f b + d → ((x : ℕ) → x ≢ b → g x ≡ f x)
    → total g n ≡ total f n + d
one_more f g b d n low own other = elim (total_one f g b d own other n) [
  | inl h ↦ (let above = h.0 in absurd (omega (arith, low, above)))
  | inr h ↦ h.1
]

module _ (w : LaneWork) (plan : List PlanEntry) (lay : Layout w.work) (some : 0 < w.lanes)
    (code : LaneCode w.work.layout w.work (processors w) plan) where
  abbrev nodes : ℕ
  nodes = w.work.layout.nodes

  abbrev executed_by : LaneCore → ℕ → ℕ
  executed_by c p = (part_in w c.nodes p).executed

  abbrev words_of : LaneCore → ℕ
  words_of c = total (executed_by c) (processors w)

  abbrev byes_at : LaneNode → ℕ
  byes_at x = count_of x.shared.byes nodes

  abbrev byes_of : LaneCore → ℕ
  byes_of c = total (λ x. byes_at (c.nodes x)) nodes

  -- the events that were made are words, takes of messages, and takes of Byes
  record IsShort (c : LaneCore) (counts : Counts) (made : ℕ) : Type 0 where
    asked : counts.asked ≤ 2 * words_of c
    counted : made ≤ words_of c + counts.taken + byes_of c

  -- 2. A word

  module _ (c : LaneCore) (p : ℕ) (below : p < processors w) where
    abbrev y : LaneNode
    y = c.nodes (node_of w p)

    abbrev then_ : LaneCore
    then_ = event_step w c (Exec p)

    value_same : (z : Bool) (a b : LanePart) → (cond z a b).executed ≡ cond z a.executed b.executed
    value_same true a b = refl
    value_same false a b = refl

    executed_then : (q : ℕ) → executed_by then_ q
        ≡ cond (eqb q p) (part_after w y (lane_of w p)).executed
        (cond (eqb (node_of w q) (node_of w p)) (y.lanes (lane_of w q)).executed (executed_by c q))
    executed_then q =
        by_lane w plan lay some code c.nodes p (word_turn w y (lane_of w p)).node
        (λ n k. (n.lanes k).executed) (part_after w y (lane_of w p)).executed
        (λ k. (y.lanes k).executed)
        (λ k. ap (λ (a : LanePart). a.executed) (word_lane w y (lane_of w p) k)
        ∙ value_same (eqb k (lane_of w p)) (part_after w y (lane_of w p)) (y.lanes k)) q

    there_same : (q : ℕ) (z : Bool) → eqb (node_of w q) (node_of w p) ≡ z
        → cond z (y.lanes (lane_of w q)).executed (executed_by c q) ≡ executed_by c q
    there_same q false e = refl
    there_same q true e =
        ap (λ i. ((c.nodes i).lanes (lane_of w q)).executed)
        (sym (is_same (node_of w q) (node_of w p) e))

    word_words : words_of then_ ≡ words_of c + 1
    word_words =
        one_more (executed_by c) (executed_by then_) p 1 (processors w) below (executed_then p
        ∙ ap (λ z. cond z (part_after w y (lane_of w p)).executed
        (cond (eqb (node_of w p) (node_of w p)) (y.lanes (lane_of w p)).executed
        (executed_by c p))) (equal p p refl) ∙ word_executed w y (lane_of w p))
        (λ q other. executed_then q ∙ ap (λ z. cond z (part_after w y (lane_of w p)).executed
        (cond (eqb (node_of w q) (node_of w p)) (y.lanes (lane_of w q)).executed
        (executed_by c q))) (unlike q p other)
        ∙ there_same q (eqb (node_of w q) (node_of w p)) refl)

    byes_same : (word_turn w y (lane_of w p)).node.shared.byes ≡ y.shared.byes
    byes_same = ap (λ (n : LaneNode). n.shared.byes)
        (ending_node nodes (word_before w y (lane_of w p))
        (have_ended w (word_before w y (lane_of w p)).node && not (have_ended w y)))
        ∙ asks_byes w.work.layout (wants_at w y (lane_of w p))
        (record { turn = after_word w.work (as_node y (lane_of w p)); again = false })

    word_byes : byes_of then_ ≡ byes_of c
    word_byes = total_same (λ i. byes_at (then_.nodes i)) (λ i. byes_at (c.nodes i)) nodes
        (λ i. (elim (eqb i (node_of w p)) as (λ z. eqb i (node_of w p) ≡ z
        → byes_at (cond z (word_turn w y (lane_of w p)).node (c.nodes i)) ≡ byes_at (c.nodes i)) [
          | true ↦ (λ e. ap (λ f. count_of f nodes) byes_same
              ∙ ap (λ k. byes_at (c.nodes k)) (sym (is_same i (node_of w p) e)))
          | false ↦ (λ e. refl)
        ]) refl)

    short_word : (old new : Counts) (made : ℕ) → IsShort c old made → WordCounts old new
        → IsShort then_ new (made + 1)
    short_word old new made h counts =
        let words = word_words in
        let left = word_byes in
        let most = counts.0 in
        let kept = counts.1 in
        let asked = h.asked in
        let before = h.counted in
        record {
          asked = omega (arith, asked, words, most);
          counted = omega (arith, before, words, left, kept);
        }

  -- 3. A message

  module _ (c : LaneCore) (s : State) (m : MatchesCore w plan lay some code c s)
      (f : Closing w c) (i j : ℕ) (below : i < nodes) (lj : j < nodes) (wire : Wire)
      (ws : List Wire) (front : c.list j i ≡ wire ∷ ws) where
    abbrev x : LaneNode
    x = c.nodes i

    abbrev n1 : Node
    n1 = journaled w x 0 j wire

    abbrev n : Node
    n = (handled_for w x j wire 0).node

    abbrev turn : LaneTurn
    turn = take_turn w x j wire

    abbrev taken : LaneCore
    taken = take_first w c i j (wire ∷ ws)

    take_words : words_of taken ≡ words_of c
    take_words = total_same (executed_by taken) (executed_by c) (processors w)
        (λ p. (elim (eqb (node_of w p) i) as (λ z. eqb (node_of w p) i ≡ z
        → ((cond z turn.node (c.nodes (node_of w p))).lanes (lane_of w p)).executed
        ≡ executed_by c p) [
          | true ↦ (λ e. ap (λ (a : LanePart). a.executed) (take_lane w x j wire (lane_of w p))
              ∙ resumed_executed w n (x.lanes (lane_of w p))
              ∙ ap (λ k. ((c.nodes k).lanes (lane_of w p)).executed)
              (sym (is_same (node_of w p) i e)))
          | false ↦ (λ e. refl)
        ]) refl)

    byes_then : turn.node.shared.byes ≡ n.byes
    byes_then =
        let took : LaneTurn = record {
          node = after_message w x j wire;
          sends = (handled_for w x j wire 0).sends;
          printed = None;
        } in
        ap (λ (y : LaneNode). y.shared.byes)
        (ending_node nodes took (have_ended w took.node && not (have_ended w x)))

    -- the message is a Bye more, or none
    bye_or_not : (b : Bool) → is_bye wire.message ≡ b → byes_at turn.node ≡ byes_at x + cond b 1 0
    bye_or_not true bye =
        let old : x.shared.byes j ≡ false = bye_ahead (x.shared.byes j) wire ws bye
        (sym (ap (is_calm (x.shared.byes j)) front) ∙ f.calm.lists j i lj below) in
        let byes : turn.node.shared.byes ≡ changed x.shared.byes j true = byes_then
        ∙ ap (λ (y : Turn). y.node.byes) (bye_noted w.work.layout n1 j wire.message bye) in
        ap (λ g. count_of g nodes) byes
        ∙ count_one (changed x.shared.byes j true) x.shared.byes nodes j lj
        (ap (λ z. cond z true (x.shared.byes j)) (equal j j refl)) old
        (λ y other. ap (λ z. cond z true (x.shared.byes y)) (unlike y j other))
    bye_or_not false plain =
        let byes : turn.node.shared.byes ≡ x.shared.byes = byes_then
        ∙ ap (λ (y : Turn). y.node.byes) (handled_by_row w.work.layout n1 j wire.message plain)
        ∙ row_byes w.work.layout n1
        (row_of w.work.layout n1.me (holding w.work.layout n1) j wire.message) in
        let count = ap (λ g. count_of g nodes) byes in omega (arith, count)

    take_byes : (b : Bool) → is_bye wire.message ≡ b → byes_of taken ≡ byes_of c + cond b 1 0
    take_byes b is =
        one_more (λ y. byes_at (c.nodes y)) (λ y. byes_at (taken.nodes y)) i (cond b 1 0) nodes below
        (ap (λ z. byes_at (cond z turn.node x)) (equal i i refl) ∙ bye_or_not b is)
        (λ y other. ap (λ z. byes_at (cond z turn.node (c.nodes y))) (unlike y i other))

    short_taken : (b : Bool) → is_bye wire.message ≡ b → (old new : Counts) (made : ℕ)
        → IsShort c old made → TakeCounts b old new → IsShort taken new (made + 1)
    short_taken true is old new made h counts =
        let words = take_words in
        let byes = take_byes true is in
        let same = counts.0 in
        let most = counts.1 in
        let asked = h.asked in
        let before = h.counted in
        record {
          asked = omega (arith, asked, words, same);
          counted = omega (arith, before, words, byes, most);
        }
    short_taken false is old new made h counts =
        let words = take_words in
        let byes = take_byes false is in
        let same = counts.0 in
        let most = counts.1 in
        let asked = h.asked in
        let before = h.counted in
        record {
          asked = omega (arith, asked, words, same);
          counted = omega (arith, before, words, byes, most);
        }

  short_event : (c : LaneCore) (s : State) → MatchesCore w plan lay some code c s → Closing w c
      → (e : LaneEvent) → May w c e → (old new : Counts) (made : ℕ) → IsShort c old made
      → CountsBy c e old new → IsShort (event_step w c e) new (made + 1)
  short_event c s m f (Exec p) may old new made h counts =
      short_word c p may.0 old new made h counts
  short_event c s m f (Take i j) may old new made h counts = go (c.list j i) refl counts
    where
      go : (xs : List Wire) → c.list j i ≡ xs → TakeCounts (bye_first xs) old new
          → IsShort (take_first w c i j xs) new (made + 1)
      go [] e k = absurd (may.2 e)
      go (wire ∷ ws) e k =
          short_taken c s m f i j may.0 may.1 wire ws e (is_bye wire.message) refl old new made h k

  -- 4. A run

  -- what holds after a run
  record Behind (c : LaneCore) (made : ℕ) : Type 0 where
    state : State
    matches : MatchesCore w plan lay some code c state
    short : IsShort c matches.counts made

  module _ (four : w.lanes ≤ 4) (few : processors w ≤ 16) where
    after_run : (es : List LaneEvent) (c : LaneCore) (s : State)
        (m : MatchesCore w plan lay some code c s) (made : ℕ) → IsShort c m.counts made
        → Closing w c → IsLaneRun w c es → Behind (after w c es) (made + length es)
    after_run [] c s m made h f may = record {
      state = s;
      matches = m;
      short = subst (IsShort c m.counts) (let e : made ≡ made + 0 = omega arith in e) h;
    }
    after_run (e ∷ es) c s m made h f may =
        let d = event_step w c e in
        let leads = (event_leads w plan lay some code four few c s m e may.0).0 in
        subst (Behind (after w d es))
        (let same : made + 1 + length es ≡ made + suc (length es) = omega arith in same)
        (after_run es d (run (one w plan lay some code) s (picks_at w plan c e)) leads.behind
        (made + 1) (short_event c s m f e may.0 m.counts leads.behind.counts made h leads.counted)
        (event_closing w plan lay some code c s m f e may.0) may.1)

    start_short : IsShort (opening_core w) no_counts 0
    start_short = record { asked = omega arith; counted = omega arith }

    pub short : 0 < w.work.budget → (es : List LaneEvent) → IsLaneRun w (opening_core w) es
        → length es ≤ most_lane_events w
    short budget es may =
        let c = after w (opening_core w) es in
        let b = after_run es (opening_core w) (opening (one w plan lay some code))
        (start_matches w plan lay some code) 0
        (subst (λ k. IsShort (opening_core w) k 0) (sym (start_counts w plan lay some code))
        start_short) (start_closing w some) may in
        let held = b.matches.matches.shares.held in
        let counted = b.short.counted in
        let made : length es ≤ words_of c + b.matches.counts.taken + byes_of c =
        omega (arith, counted) in
        let asked = b.short.asked in
        let taken = few_taken w.work.layout held.holds.first
        (proper w.work.layout lay.laid held.holds.first) held.holds.events b.matches.counts
        held.counted in
        let words = all_at_most (executed_by c) w.work.budget (processors w)
        (λ p. (within w es (opening_core w)
        (λ i k. record { most = omega arith; less = λ e. budget }) may (node_of w p)
        (lane_of w p)).most) in
        let byes = all_at_most (λ x. byes_at (c.nodes x)) nodes nodes
        (λ x. count_most (c.nodes x).shared.byes nodes) in
        spends nodes (processors w * w.work.budget) (words_of c) b.matches.counts.asked
        b.matches.counts.taken (byes_of c) (length es) made asked taken words byes
      where
        spends : (n most words asked taken byes made : ℕ) → made ≤ words + taken + byes
            → asked ≤ 2 * words → taken ≤ (2 * n + 2) * asked → words ≤ most
            → byes ≤ n * n → made ≤ (4 * n + 5) * most + n * n
        spends n most words asked taken byes made sum few few_taken all told =
            let first = scaled (2 * n + 2) asked (2 * words) few in
            let second = scaled (4 * n + 5) words most all in
            let both : (2 * n + 2) * (2 * words) + words ≡ (4 * n + 5) * words = omega arith in
            omega (arith, sum, few_taken, told, first, second, both)
