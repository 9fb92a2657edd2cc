-- No node executes more words than its budget.
use Rattle.std.proofs.Common.{◌≡◌, ℕ, ◌+◌, ◌<◌, ◌≤◌, cond, eqb, Bool, true, false, List, [], ◌∷◌, refl, sym, ap, ◌∙◌, subst, inl, inr, arith}
use Rattle.std.specs.Prelude.{◌&&◌, not}
use Rattle.std.proofs.lemmas.Bool.Decides.{eqb_tells, nat_tests}
use Rattle.rewriting_law.proofs.Names.{Stopped, Wire, Work, Node, Move, Waits, Leaves, Phase, Running, Resumed, Waiting, Ended, can_execute, phase_after, stop_or, has_all_byes, standing_in, word_outcome, is_ended, wants_of, after_word, after_wants, word_turn, handled, resumed, journaled, after_message, take_turn, each_block_once, Core, Event, Exec, Take, IsCoreRun, may_execute, take_first, event_step, after}
use Rattle.dsm_protocol.specs.node_model.declared.Standing.TheVariants as standing
use Rattle.rewriting_law.proofs.runs.Turns.{byes_node, wants_same, handled_same, resumed_is}

module _ (work : Work) where
  -- a node that may execute a word has one left
  pub record Within (n : Node) : Type 0 where
    pub most : n.executed ≤ work.budget
    pub less : can_execute n.phase ≡ true → n.executed < work.budget

  pub stop_less : (executed : ℕ) (phase : Phase) → executed ≤ work.budget
      → can_execute (stop_or work.budget executed phase) ≡ true → executed < work.budget
  stop_less executed phase most h = elim (eqb_tells executed work.budget) [
    | inl t ↦ (
        let bad : false ≡ true =
        ap (λ y. can_execute (cond y (Ended (Stopped work.budget)) phase)) (sym t.0) ∙ h in cc)
    | inr t ↦ (let apart = t.1 in grind (arith, nat_tests))
  ]

  pub move_less : (executed : ℕ) (m : Move) → executed ≤ work.budget
      → can_execute (phase_after work.budget executed m) ≡ true → executed < work.budget
  move_less executed (Leaves e) most h = let bad : false ≡ true = h in cc
  move_less executed (Waits resume want more) most h = let bad : false ≡ true = h in cc
  move_less executed other most h = stop_less executed Running most h

  -- a word
  word_within : (n : Node) → Within n → can_execute n.phase ≡ true → Within (word_turn work n).node
  word_within n h may =
      let t = after_wants work n in
      let move = (word_outcome work n).move in
      let same = wants_same work.layout (each_block_once work.layout (wants_of move))
      (after_word work n) in
      let before = h.less may in
      let most : n.executed + 1 ≤ work.budget = omega (arith, before) in
      let whole : Within t.node = record {
        most = subst (λ k. k ≤ work.budget) (sym same.executed) most;
        less = λ e. subst (λ k. k < work.budget) (sym same.executed)
            (move_less (n.executed + 1) move most (ap can_execute (sym same.phase) ∙ e));
      } in
      subst Within (sym (byes_node work.layout.nodes t (is_ended t.node.phase))) whole

  -- a message
  goes_within : (n : Node) (phase : Phase) → Within n → Within (resumed work n phase)
  goes_within n phase h =
      resumed_is work n Within h
      (λ resume. record { most = h.most; less = stop_less n.executed Resumed h.most }) phase

  message_within : (n : Node) (j : ℕ) (wire : Wire) → Within n
      → Within (take_turn work n j wire).node
  message_within n j wire h =
      let m = journaled n j wire in
      let t = handled work.layout m j wire.message in
      let same = handled_same work.layout m j wire.message in
      let ends = is_ended (after_message work n j wire).node.phase && not (is_ended n.phase) in
      let whole : Within t.node = record {
        most = subst (λ k. k ≤ work.budget) (sym same.executed) h.most;
        less = λ e. subst (λ k. k < work.budget) (sym same.executed)
            (h.less (ap can_execute (sym same.phase) ∙ e));
      } in
      subst Within (sym (byes_node work.layout.nodes (after_message work n j wire) ends))
      (goes_within t.node t.node.phase whole)

  over_or_ended : (all : Bool) → may_execute (cond all standing.Over standing.Ended) ≡ false
  over_or_ended true = refl
  over_or_ended false = refl

  may_run_on : (n : Node) (p : Phase) → may_execute (standing_in work n p) ≡ true
      → can_execute p ≡ true
  may_run_on n Running e = refl
  may_run_on n Resumed e = refl
  may_run_on n (Waiting resume) e = let bad : false ≡ true = e in cc
  may_run_on n (Ended end) e =
      let bad : false ≡ true = sym (over_or_ended (has_all_byes work n)) ∙ e in cc

  either_within : (b : Bool) (m n : Node) → Within m → Within n → Within (cond b m n)
  either_within true m n g h = g
  either_within false m n g h = h

  take_within : (c : Core) (i k j : ℕ) (wires : List Wire) → Within (c.nodes i)
      → Within (c.nodes k) → Within ((take_first work c k j wires).nodes i)
  take_within c i k j [] h g = h
  take_within c i k j (wire ∷ rest) h g =
      either_within (eqb i k) (take_turn work (c.nodes k) j wire).node (c.nodes i)
      (message_within (c.nodes k) j wire g) h

  pub within : (es : List Event) (c : Core) → ((i : ℕ) → Within (c.nodes i))
      → IsCoreRun work c es → (i : ℕ) → Within ((after work c es).nodes i)
  within [] c h may i = h i
  within (Exec k ∷ es) c h may i =
      let runs = may_run_on (c.nodes k) (c.nodes k).phase may.0.1 in
      within es (event_step work c (Exec k)) (λ x.
      either_within (eqb x k) (word_turn work (c.nodes k)).node (c.nodes x)
      (word_within (c.nodes k) (h k) runs) (h x)) may.1 i
  within (Take k j ∷ es) c h may i =
      within es (event_step work c (Take k j)) (λ x.
      take_within c x k j (c.list j k) (h x) (h k)) may.1 i
