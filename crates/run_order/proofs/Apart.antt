-- Nodes that made events apart stand for their own run.
use Rattle.std.proofs.Common.{◌≡◌, ◌≢◌, ℕ, ◌<◌, ◌≤◌, cond, ltb, ◌&&◌, List, [], ◌∷◌, ◌++◌, map, Some, None, sym, refl, ap, ap₂, ◌∙◌, subst, arith, eq-eqb, ne_eqb, lt-ltb, ⊎_elim}
use Rattle.std.proofs.lemmas.Bool.{cases_eq, cases_lt, le-ltb}
use Rattle.node_model.specs.Node.{Work, Node, word_outcome}
use Rattle.node_model.specs.Turns.{word_turn, take_turn}
use Rattle.node_model.specs.Core.{Core, AreAlike, opening_core, after, wires_to}
use Rattle.run_order.specs.OwnRun.{Stamped, StandsForOwnRun, OnlyAdds, events_of, run_of}
use Rattle.run_order.specs.Apart.{Executes, Takes, LeadsBy, taken_from, sent_to, HaveDone}
use Rattle.run_order.specs.Apart.{LocalEvent as Doing}
use Rattle.run_order.proofs.History.{LocalEvent, stamped, taken, sent, of, Local, Fits}
use Rattle.run_order.proofs.Merging.{run_fits}
use Rattle.run_order.proofs.Ordered.{order, taken_of, sent_of, ordered}
use Rattle.run_order.proofs.Moving.{Moves, grows, run_made}
use Rattle.run_order.proofs.Told.{AreOf, node_tells}
use Rattle.run_order.proofs.Theorem.{run_tells, own_history, own_run}
use Rattle.run_order.proofs.Gathered.{fits_append, all_of, of_above, of_below}

-- 1. What one node did

-- what each local_event of node i did, from this node on
abbrev did_by : Work → ℕ → Node → List Doing → List LocalEvent
did_by work i s [] = []
did_by work i s (Executes ∷ ds) = record {
  node = i;
  stamp = (word_turn work s).node.stamp;
  took = None;
  posts = (word_turn work s).sends;
  byte = (word_outcome work s).printed;
} ∷ did_by work i (word_turn work s).node ds
did_by work i s (Takes j w ∷ ds) = record {
  node = i;
  stamp = (take_turn work s j w).node.stamp;
  took = Some (j, w);
  posts = (take_turn work s j w).sends;
  byte = None;
} ∷ did_by work i (take_turn work s j w).node ds

did_own : (work : Work) (i : ℕ) (s : Node) (ds : List Doing) → AreOf i (did_by work i s ds)
did_own work i s [] = tt
did_own work i s (Executes ∷ ds) = (refl, did_own work i (word_turn work s).node ds)
did_own work i s (Takes j w ∷ ds) = (refl, did_own work i (take_turn work s j w).node ds)

did_local : (work : Work) (i : ℕ) (s t : Node) (ds : List Doing) → i < work.layout.nodes
    → LeadsBy work s ds t → Local (Moves work) s (did_by work i s ds) t
did_local work i s t [] b l = l
did_local work i s t (Executes ∷ ds) b l = (
  (word_turn work s).node,
  record { below = b; may = l.0; node = refl; stamp = refl; posts = refl; byte = refl },
  did_local work i (word_turn work s).node t ds b l.1,
)
did_local work i s t (Takes j w ∷ ds) b l = (
  (take_turn work s j w).node,
  record {
    below = b;
    from = l.0.0;
    may = l.0.1;
    node = refl;
    stamp = refl;
    posts = refl;
    byte = refl;
  },
  did_local work i (take_turn work s j w).node t ds b l.1,
)

did_take : (work : Work) (i j : ℕ) (s : Node) (ds : List Doing)
    → taken j i (did_by work i s ds) ≡ taken_from j ds
did_take work i j s [] = refl
did_take work i j s (Executes ∷ ds) = rw (eq-eqb i i refl)
    (did_take work i j (word_turn work s).node ds)
did_take work i j s (Takes k w ∷ ds) =
    let rest = did_take work i j (take_turn work s k w).node ds in
    rw (eq-eqb i i refl) (⊎_elim
    (λ (p : k ≡ j). rw (eq-eqb k j p) (rw (eq-eqb j k (sym p)) (ap (λ l. w ∷ l) rest)))
    (λ (p : k ≢ j). rw (ne_eqb k j p) (rw (ne_eqb j k (λ q. p (sym q))) rest))
    (cases_eq k j))

did_send : (work : Work) (i k : ℕ) (s : Node) (ds : List Doing)
    → sent i k (did_by work i s ds) ≡ sent_to work k s ds
did_send work i k s [] = refl
did_send work i k s (Executes ∷ ds) = let t = word_turn work s in rw (eq-eqb i i refl)
    (ap (λ l. wires_to t.node.stamp k t.sends ++ l) (did_send work i k t.node ds))
did_send work i k s (Takes j w ∷ ds) = let t = take_turn work s j w in rw (eq-eqb i i refl)
    (ap (λ l. wires_to t.node.stamp k t.sends ++ l) (did_send work i k t.node ds))

-- nothing is taken from what is no node
none_from : (work : Work) (j : ℕ) (s t : Node) (ds : List Doing) → work.layout.nodes ≤ j
    → LeadsBy work s ds t → taken_from j ds ≡ []
none_from work j s t [] le l = refl
none_from work j s t (Executes ∷ ds) le l = none_from work j (word_turn work s).node t ds le l.1
none_from work j s t (Takes k w ∷ ds) le l =
    let lt : k < work.layout.nodes = l.0.0 in
    let other : k ≢ j = omega arith in
    rw (ne_eqb k j other) (none_from work j (take_turn work s k w).node t ds le l.1)

-- 2. What all did fits

module _ (work : Work) (c d u : Core) (history : ℕ → List Doing) where
  abbrev h : ℕ → List LocalEvent
  h i = did_by work i (c.nodes i) (history i)

  abbrev pub new : List LocalEvent
  new = all_of work.layout.nodes h

  -- the nodes and lists after, and those that no node has to do with
  abbrev pub other_core : Core
  other_core = record {
    nodes = λ i. cond (ltb i work.layout.nodes) (d.nodes i) (u.nodes i);
    list = λ j k. cond (ltb j work.layout.nodes && ltb k work.layout.nodes) (d.list j k)
        (u.list j k ++ sent j k new);
  }

  own : (i : ℕ) → AreOf i (h i)
  own i = did_own work i (c.nodes i) (history i)

  takes_below : (j k : ℕ) → k < work.layout.nodes → taken j k new ≡ taken_from j (history k)
  takes_below j k b = sym (taken_of j k new)
      ∙ ap (λ l. taken j k l) (of_below work.layout.nodes h own k b)
      ∙ did_take work k j (c.nodes k) (history k)

  sends_below : (j k : ℕ) → j < work.layout.nodes
      → sent j k new ≡ sent_to work k (c.nodes j) (history j)
  sends_below j k b = sym (sent_of j k new)
      ∙ ap (λ l. sent j k l) (of_below work.layout.nodes h own j b)
      ∙ did_send work j k (c.nodes j) (history j)

  takes_above : (j k : ℕ) → work.layout.nodes ≤ k → taken j k new ≡ []
  takes_above j k le = sym (taken_of j k new)
      ∙ ap (λ l. taken j k l) (of_above work.layout.nodes h own k le)

  pub same_below : AreAlike work.layout.nodes d other_core
  same_below = record {
    nodes = λ i b. rw (lt-ltb i work.layout.nodes b) refl;
    lists = λ j k bj bk.
        rw (lt-ltb j work.layout.nodes bj) (rw (lt-ltb k work.layout.nodes bk) refl);
  }

  nodes_fit : AreAlike work.layout.nodes c u → HaveDone work c d history → (i : ℕ)
      → Local (Moves work) (u.nodes i) (of i new) (other_core.nodes i)
  nodes_fit alike did i = ⊎_elim
      (λ (b : i < work.layout.nodes).
      subst (λ l. Local (Moves work) (u.nodes i) l (other_core.nodes i))
      (sym (of_below work.layout.nodes h own i b))
      (subst (λ (x : Node). Local (Moves work) x (h i) (other_core.nodes i)) (alike.nodes i b)
      (subst (λ (x : Node). Local (Moves work) (c.nodes i) (h i) x) (same_below.nodes i b)
      (did_local work i (c.nodes i) (d.nodes i) (history i) b (did.nodes i b)))))
      (λ (le : work.layout.nodes ≤ i).
      subst (λ l. Local (Moves work) (u.nodes i) l (other_core.nodes i))
      (sym (of_above work.layout.nodes h own i le))
      (rw (le-ltb i work.layout.nodes le) refl))
      (cases_lt i work.layout.nodes)

  lists_below : AreAlike work.layout.nodes c u → HaveDone work c d history → (j k : ℕ)
      → j < work.layout.nodes → k < work.layout.nodes
      → taken j k new ++ other_core.list j k ≡ u.list j k ++ sent j k new
  lists_below alike did j k bj bk =
      ap₂ (λ l m. l ++ m) (takes_below j k bk) (sym (same_below.lists j k bj bk))
      ∙ did.lists j k bj bk
      ∙ ap₂ (λ l m. l ++ m) (alike.lists j k bj bk) (sym (sends_below j k bj))

  takes_outside : HaveDone work c d history → (j k : ℕ)
      → work.layout.nodes ≤ j → k < work.layout.nodes → taken j k new ≡ []
  takes_outside did j k le b = takes_below j k b
      ∙ none_from work j (c.nodes k) (d.nodes k) (history k) le (did.nodes k b)

  lists_fit : AreAlike work.layout.nodes c u → HaveDone work c d history → (j k : ℕ)
      → taken j k new ++ other_core.list j k ≡ u.list j k ++ sent j k new
  lists_fit alike did j k = ⊎_elim
      (λ (bj : j < work.layout.nodes). ⊎_elim
      (λ (bk : k < work.layout.nodes). lists_below alike did j k bj bk)
      (λ (le : work.layout.nodes ≤ k). rw (lt-ltb j work.layout.nodes bj)
      (rw (le-ltb k work.layout.nodes le)
      (ap (λ l. l ++ (u.list j k ++ sent j k new)) (takes_above j k le))))
      (cases_lt k work.layout.nodes))
      (λ (le : work.layout.nodes ≤ j). rw (le-ltb j work.layout.nodes le)
      (ap (λ l. l ++ (u.list j k ++ sent j k new)) (⊎_elim
      (λ (bk : k < work.layout.nodes). takes_outside did j k le bk)
      (λ (above : work.layout.nodes ≤ k). takes_above j k above)
      (cases_lt k work.layout.nodes))))
      (cases_lt j work.layout.nodes)

  pub new_fits : AreAlike work.layout.nodes c u → HaveDone work c d history
      → Fits (Moves work) u new other_core
  new_fits alike did = (nodes_fit alike did, lists_fit alike did)

-- 3. The own run

-- a core stands for its own run where one like it does
same_run : (work : Work) (t d : Core) (events : List Stamped) → AreAlike work.layout.nodes d t
    → StandsForOwnRun work t events → StandsForOwnRun work d events
same_run work t d events alike stands = record {
  are_events = record {
    sorted = stands.are_events.sorted;
    below = stands.are_events.below;
    each = λ i b. stands.are_events.each i b
        ∙ ap (λ (n : Node). events_of i n) (sym (alike.nodes i b));
  };
  is_run = stands.is_run;
  ends = record {
    nodes = λ i b. alike.nodes i b ∙ stands.ends.nodes i b;
    lists = λ j i bj bi. alike.lists j i bj bi ∙ stands.ends.lists j i bj bi;
  };
}

fits_run : (work : Work) (ds : List LocalEvent) (t : Core) → Fits (Moves work) (opening_core work) ds t
    → (events : List Stamped) × StandsForOwnRun work t events
fits_run work ds t fit =
    let run = ordered (Moves work) (grows work) (opening_core work) t ds fit in
    let made = run_made work (order ds) (opening_core work) t run in
    subst (λ (x : Core). (events : List Stamped) × StandsForOwnRun work x events) made.leads
    (own_run work (run_of (map stamped (order ds))) made.run)

pub apart : (work : Work) (c d : Core) (events : List Stamped) (history : ℕ → List Doing)
    → StandsForOwnRun work c events → HaveDone work c d history
    → (own : List Stamped) × StandsForOwnRun work d own × OnlyAdds work.layout.nodes c d
apart work c d events history stands did =
    let u = after work (opening_core work) (run_of events) in
    let before = own_history work c events stands in
    let more = new work c d u history in
    let t = other_core work c d u history in
    let fit = new_fits work c d u history stands.ends did in
    let alike = same_below work c d u history in
    let all = fits_append (Moves work) (opening_core work) u t before.0 more
    (run_fits (Moves work) before.0 (opening_core work) u before.2) fit in
    let run = fits_run work (before.0 ++ more) t all in (
      run.0,
      same_run work t d run.0 alike run.1,
      λ i b. (
        map stamped (of i more),
        ap (λ (n : Node). events_of i n) (alike.nodes i b)
            ∙ (node_tells work i more (u.nodes i) (t.nodes i) (fit.0 i)
            (run_tells work before.0 u before.2 i).tells).told
            ∙ ap (λ (n : Node). events_of i n ++ map stamped (of i more))
            (sym (stands.ends.nodes i b)),
      ),
    )
