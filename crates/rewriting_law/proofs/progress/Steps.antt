-- Of 40 words that a node executes one makes a step of its processor.
use Rattle.std.proofs.Common.{◌≡◌, ℕ, ◌+◌, ◌*◌, ◌/◌, ◌<◌, ◌≤◌, cond, eqb, Bool, true, false, List, [], ◌∷◌, Option, Some, None, refl, sym, ap, ◌∙◌, subst, inl, inr, arith}
use Rattle.std.specs.Prelude.{not, ◌&&◌}
use Rattle.std.proofs.lemmas.Bool.Decides.{eqb_tells}
use Rattle.std.proofs.lemmas.List.Sums.{sum_by-append}
use Rattle.rewriting_law.proofs.Names.{Shape, has_line, Exited, Stopped, line_of, Step, Break, State, is_of, opening, run, Wire, PlanEntry, Work, Node, Running, Resumed, Waiting, Ended, word_outcome, is_ended, wants_of, after_word, after_wants, word_turn, handled, journaled, after_message, take_turn, each_block_once, Core, Event, Exec, Take, IsCoreRun, opening_core, take_first, event_step, after, steps_of, Order, break_by, order_of, commits, picks_of_take, picks_at, picks_of, original_by_node}
use Rattle.rewriting_law.proofs.templates.RegisterLemmas.{equal}
use Rattle.rewriting_law.proofs.words.CodeSide.{Pace, one_if, CodeSide}
use Rattle.rewriting_law.proofs.one_memory.Matching.{Activity, Runs, Awaits, HasEnded, StandsIn, with_at}
use Rattle.rewriting_law.proofs.protocol_side.Directory.{directory}
use Rattle.rewriting_law.proofs.protocol_side.DirectorySide.{Layout, laid_out, directory_side}
use Rattle.rewriting_law.proofs.runs.Turns.{byes_node, wants_same, handled_same}
use Rattle.rewriting_law.proofs.runs.Composed.{MatchesCore, IsPhase, pace_of_word, paces_by, event_leads, start_matches, start_paces}
use Rattle.rewriting_law.proofs.progress.Short.{resumed_executed}
use Rattle.rewriting_law.proofs.progress.Stops.{stopped}

-- no break is a step
no_steps : (p : ℕ) (layout : Shape) (i : ℕ) (o : Option Order) (r : Option ℕ)
    → steps_of p (break_by layout i o r) ≡ 0
no_steps p layout i None r = refl
no_steps p layout i (Some order) None = refl
no_steps p layout i (Some order) (Some a) = go (has_line layout order.block (line_of a))
  where
    go : (t : Bool) → steps_of p (cond t (Break i order.requester ∷ []) []) ≡ 0
    go true = refl
    go false = refl

took_no_steps : (work : Work) (c : Core) (p i j : ℕ) (ws : List Wire)
    → steps_of p (picks_of_take work c i j ws) ≡ 0
took_no_steps work c p i j [] = refl
took_no_steps work c p i j (wire ∷ ws) =
    no_steps p work.layout i (order_of work.layout (c.nodes i) j wire.message)
    (c.nodes i).local.reservation

own_step : (i : ℕ) (b : Bool) → steps_of i (cond b (Step i ∷ []) []) ≡ one_if b
own_step i true = ap (λ t. 0 + cond t 1 0) (equal i i refl)
own_step i false = refl

other_step : (p i : ℕ) (b : Bool) → eqb p i ≡ false → steps_of p (cond b (Step i ∷ []) []) ≡ 0
other_step p i true e = ap (λ t. 0 + cond t 1 0) e
other_step p i false e = refl

word_executed : (work : Work) (n : Node) → (word_turn work n).node.executed ≡ n.executed + 1
word_executed work n =
    let t = after_wants work n in
    ap (λ (x : Node). x.executed) (byes_node work.layout.nodes t (is_ended t.node.phase))
    ∙ (wants_same work.layout (each_block_once work.layout (wants_of (word_outcome work n).move))
    (after_word work n)).executed

take_executed : (work : Work) (n : Node) (j : ℕ) (wire : Wire)
    → (take_turn work n j wire).node.executed ≡ n.executed
take_executed work n j wire =
    let n1 = journaled n j wire in
    let t1 = handled work.layout n1 j wire.message in
    ap (λ (x : Node). x.executed) (byes_node work.layout.nodes (after_message work n j wire)
    (is_ended (after_message work n j wire).node.phase && not (is_ended n.phase)))
    ∙ resumed_executed work t1.node t1.node.phase
    ∙ (handled_same work.layout n1 j wire.message).executed

module _ (work : Work) (plan : List PlanEntry) (lay : Layout work)
    (code : CodeSide work.layout work plan) where
  -- the paces are those of the nodes, which have made so many steps
  record AreKept (c : Core) (paces : ℕ → Pace) (done : ℕ → ℕ) : Type 0 where
    words : (i : ℕ) → (paces i).words ≡ (c.nodes i).executed
    steps : (i : ℕ) → (paces i).commits ≡ done i

  kept_event : (c : Core) (paces : ℕ → Pace) (done : ℕ → ℕ) (e : Event) → AreKept c paces done
      → AreKept (event_step work c e) (paces_by work plan lay code c paces e)
      (λ i. done i + steps_of i (picks_at work plan c e))
  kept_event c paces done (Exec k) h = record {
    words = λ i. (elim (eqb_tells i k) [
      | inl t ↦ (
          let own = word_executed work (c.nodes k) in
          let before = h.words k in
          let there : (cond (eqb i k) (pace_of_word work plan lay code c paces k) (paces i)).words
          ≡ (paces k).words + 1 =
          ap (λ z. (cond z (pace_of_word work plan lay code c paces k) (paces i)).words) t.0 in
          let node : (cond (eqb i k) (word_turn work (c.nodes k)).node (c.nodes i)).executed
          ≡ (word_turn work (c.nodes k)).node.executed =
          ap (λ z. (cond z (word_turn work (c.nodes k)).node (c.nodes i)).executed) t.0 in
          there ∙ ap (λ z. z + 1) before ∙ sym own ∙ sym node)
      | inr t ↦
          ap (λ z. (cond z (pace_of_word work plan lay code c paces k) (paces i)).words) t.0
          ∙ h.words i
          ∙ sym (ap (λ z. (cond z (word_turn work (c.nodes k)).node (c.nodes i)).executed) t.0)
    ]);
    steps = λ i. (elim (eqb_tells i k) [
      | inl t ↦ (
          let b = commits work plan (c.nodes k) in
          let one : steps_of i (cond b (Step k ∷ []) []) ≡ one_if b =
          ap (λ z. steps_of z (cond b (Step k ∷ []) [])) t.1 ∙ own_step k b in
          let before : (paces k).commits ≡ done i = h.steps k ∙ ap done (sym t.1) in
          let there : (cond (eqb i k) (pace_of_word work plan lay code c paces k) (paces i)).commits
          ≡ (paces k).commits + one_if b =
          ap (λ z. (cond z (pace_of_word work plan lay code c paces k) (paces i)).commits) t.0 in
          there ∙ ap (λ z. z + one_if b) before ∙ ap (λ z. done i + z) (sym one))
      | inr t ↦ (
          let b = commits work plan (c.nodes k) in
          let none : steps_of i (cond b (Step k ∷ []) []) ≡ 0 =
          other_step i k b t.0 in
          let before = h.steps i in
          let there : (cond (eqb i k) (pace_of_word work plan lay code c paces k) (paces i)).commits
          ≡ (paces i).commits =
          ap (λ z. (cond z (pace_of_word work plan lay code c paces k) (paces i)).commits) t.0 in
          let sum : done i ≡ done i + 0 = omega arith in
          there ∙ before ∙ sum ∙ ap (λ z. done i + z) (sym none))
    ]);
  }
  kept_event c paces done (Take k j) h = record {
    words = λ i. ap (λ (p : Pace). p.words) (same i) ∙ h.words i ∙ sym (took i (c.list j k));
    steps = λ i.
        let sum : done i ≡ done i + 0 = omega arith in
        ap (λ (p : Pace). p.commits) (same i) ∙ h.steps i ∙ sum
        ∙ ap (λ z. done i + z) (sym (took_no_steps work c i k j (c.list j k)));
  }
    where
      same : (i : ℕ) → with_at paces k (paces k) i ≡ paces i
      same i = elim (eqb_tells i k) [
        | inl t ↦ ap (λ z. cond z (paces k) (paces i)) t.0 ∙ ap paces (sym t.1)
        | inr t ↦ ap (λ z. cond z (paces k) (paces i)) t.0
      ]

      took : (i : ℕ) (ws : List Wire) → ((take_first work c k j ws).nodes i).executed
          ≡ (c.nodes i).executed
      took i [] = refl
      took i (wire ∷ ws) = elim (eqb_tells i k) [
        | inl t ↦
            ap (λ z. (cond z (take_turn work (c.nodes k) j wire).node (c.nodes i)).executed) t.0
            ∙ take_executed work (c.nodes k) j wire ∙ ap (λ z. (c.nodes z).executed) (sym t.1)
        | inr t ↦
            ap (λ z. (cond z (take_turn work (c.nodes k) j wire).node (c.nodes i)).executed) t.0
      ]

  record Behind (c : Core) (done : ℕ → ℕ) : Type 0 where
    state : State
    matches : MatchesCore work plan lay code c state
    kept : AreKept c matches.paces done

  after_run : (es : List Event) (c : Core) (s : State) (m : MatchesCore work plan lay code c s)
      (done : ℕ → ℕ) → AreKept c m.paces done → IsCoreRun work c es
      → Behind (after work c es) (λ i. done i + steps_of i (picks_of work plan c es))
  after_run [] c s m done h may = record {
    state = s;
    matches = m;
    kept = record {
      words = h.words;
      steps = λ i. (let sum : done i ≡ done i + 0 = omega arith in h.steps i ∙ sum);
    };
  }
  after_run (e ∷ es) c s m done h may =
      let d = event_step work c e in
      let leads = (event_leads work plan lay code c s m e may.0).0 in
      let now : ℕ → ℕ = λ i. done i + steps_of i (picks_at work plan c e) in
      let rest = after_run es d (run (original_by_node work) s (picks_at work plan c e))
      leads.behind now
      (subst (λ paces. AreKept d paces now) (sym leads.paced) (kept_event c m.paces done e h)) may.1
      in
      record {
        state = rest.state;
        matches = rest.matches;
        kept = record {
          words = rest.kept.words;
          steps = λ i.
              let all = sum_by-append (λ x. cond (is_of i x) 1 0) (picks_at work plan c e)
              (picks_of work plan d es) in
              let here = rest.kept.steps i in
              omega (arith, all, here);
        };
      }

  at_pace : (p : Pace) (a : Activity) (c : Core) (s : State) (i b : ℕ)
      → IsPhase work plan lay code a (c.nodes i).phase → (c.nodes i).phase ≡ Ended (Stopped b)
      → StandsIn work.layout work plan code (directory work.layout) (directory_side work lay)
      (laid_out work lay) p a (s.processors i) (c.nodes i).lane (c.nodes i).local
      → p.words ≤ 40 * p.commits + 39
  at_pace p Runs c s i b (inl h) e stands =
      let bad : Running ≡ Ended (Stopped b) = sym h ∙ e in cc
  at_pace p Runs c s i b (inr h) e stands =
      let bad : Resumed ≡ Ended (Stopped b) = sym h ∙ e in cc
  at_pace p (Awaits resume want more) c s i b h e stands =
      let bad : Waiting resume ≡ Ended (Stopped b) = sym h ∙ e in cc
  at_pace p (HasEnded (Exited x)) c s i b h e stands =
      let bad : Ended (Exited x) ≡ Ended (Stopped b) = sym h ∙ e in cc
  at_pace p (HasEnded (Stopped y)) c s i b h e stands = stands.2

  pub steps_made : (es : List Event) → IsCoreRun work (opening_core work) es → (i budget : ℕ)
      → i < work.layout.nodes
      → ((after work (opening_core work) es).nodes i).phase ≡ Ended (Stopped budget)
      → budget / 40 ≤ steps_of i (picks_of work plan (opening_core work) es)
  steps_made es may i budget low is =
      let c = after work (opening_core work) es in
      let b = after_run es (opening_core work) (opening (original_by_node work))
      (start_matches work plan lay code) (λ i. 0)
      (subst (λ paces. AreKept (opening_core work) paces (λ i. 0))
      (sym (start_paces work plan lay code)) (record { words = λ i. refl; steps = λ i. refl })) may
      in
      let whole = stopped work es (opening_core work) (λ x y e. (let bad : Running
      ≡ Ended (Stopped y) = e in cc)) i budget is in
      let same = whole.0 in
      let all = whole.1 in
      let words = b.kept.words i in
      let steps = b.kept.steps i in
      let pace = at_pace (b.matches.paces i) (b.matches.doing i) c b.state i budget
      (b.matches.phases i low) is (b.matches.matches.stands i low) in
      omega (arith, same, all, words, steps, pace)
