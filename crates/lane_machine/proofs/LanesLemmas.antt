-- The lanes of a node go on, one after another.
use Rattle.std.proofs.Common.{◌≡◌, ◌≢◌, ℕ, zero, suc, ◌+◌, ◌<◌, ◌≤◌, false, cond, List, [], ◌∷◌, length, set, get_or, Option, refl, sym, ap, ◌∙◌, subst, inl, inr, arith}
use Rattle.std.proofs.lemmas.List.{length-set, get_or-set_same, get_or-set_other}
use Rattle.std.proofs.lemmas.Bool.Decides.{eqb_tells, nat_tests}
use Rattle.home_directory.specs.declared.wait.Wait.{Wait}
use Rattle.home_directory.specs.Home.{first_entry}
use Rattle.node_machine.specs.node_words.declared.exec_state.ExecState.{ExecState}
use Rattle.node_machine.specs.node_words.node_memory.Shelf.{local_of}
use Rattle.node_machine.specs.node_words.Kept.{lane_of}
use Rattle.lane_model.specs.node_model.declared.NodeCounts.{NodeCounts}
use Rattle.lane_model.specs.node_model.Node.{Node, Running, counts_after}
use Rattle.lane_model.specs.node_model.Turns.{is_ended}
use Rattle.node_machine.specs.NodeState.{AreCountsBelow}
use Rattle.node_machine.proofs.NodeStateLemmas.{counts_up, tally_below}
use Rattle.lane_model.specs.Nodes.{LaneNode}
use Rattle.lane_model.specs.Turns.{counted, still, tally_on}
use Rattle.lane_machine.specs.declared.stored.StoredLane.{StoredLane}
use Rattle.lane_machine.specs.Stored.{part_of, ended_in, HasGoneOn, HaveParts}

pub any_default : (xs : List StoredLane) (k : ℕ) (d e : StoredLane) → k < length xs → get_or xs k d ≡ get_or xs k e
any_default [] k d e l = absurd (omega (arith, l))
any_default (x ∷ xs) zero d e l = refl
any_default (x ∷ xs) (suc k) d e l = any_default xs k d e (omega (arith, l))

-- a node with such waits
abbrev pub some_node : ExecState → (ℕ → Option Wait) → Node
some_node b wait = record {
  me = 0;
  lane = lane_of b.lane 0;
  local = local_of b.local;
  executed = 0;
  phase = Running;
  entry = λ x. first_entry 0;
  waiting = λ x. [];
  occupancy = 0;
  wait = wait;
  byes = λ j. false;
  stamp = 0;
  journal = [];
  output = [];
  counts = b.counts;
}

-- the first lanes, up to one
abbrev pub AreParts : List StoredLane → LaneNode → ℕ → Type 0
AreParts ls x k = (j : ℕ) (d : StoredLane) → j < k → x.lanes j ≡ part_of (get_or ls j d)

module _ (state : ℕ → ℕ) (wait : ℕ → Option Wait) (ls0 ls : List StoredLane) (k : ℕ) (p m : StoredLane)
    (at : p ≡ get_or ls k p) (low : k < length ls) (count : length ls ≡ length ls0)
    (left : (j : ℕ) (d : StoredLane) → k ≤ j → get_or ls j d ≡ get_or ls0 j d) where
  pub first_is : (d : StoredLane) → get_or ls0 k d ≡ p
  first_is d = any_default ls0 k d p (let e = count in omega (arith, e, low)) ∙ sym (left k p (omega arith)) ∙ sym at

  pub here_is : (d : StoredLane) → get_or (set ls k m) k d ≡ m
  here_is d = get_or-set_same ls k m d low

  pub there_is : (j : ℕ) (d : StoredLane) → (j ≡ k → ⊥) → get_or (set ls k m) j d ≡ get_or ls j d
  there_is j d apart = get_or-set_other ls k j m d apart

  pub count_then : length (set ls k m) ≡ length ls0
  count_then = length-set ls k m ∙ count

  pub left_then : (j : ℕ) (d : StoredLane) → k + 1 ≤ j → get_or (set ls k m) j d ≡ get_or ls0 j d
  left_then j d l = there_is j d (λ e. omega (arith, l, e)) ∙ left j d (omega (arith, l))

  pub done_then : HasGoneOn state wait p m
      → ((j : ℕ) (d : StoredLane) → j < k → HasGoneOn state wait (get_or ls0 j d) (get_or ls j d))
      → (j : ℕ) (d : StoredLane) → j < k + 1 → HasGoneOn state wait (get_or ls0 j d) (get_or (set ls k m) j d)
  done_then gone done j d l = elim (eqb_tells j k) [
    | inl q ↦ (let e = q.1 in
        let a : get_or ls0 j d ≡ p = ap (λ z. get_or ls0 z d) e ∙ first_is d in
        let b : get_or (set ls k m) j d ≡ m = ap (λ z. get_or (set ls k m) z d) e ∙ here_is d in
        subst (λ z. HasGoneOn state wait z (get_or (set ls k m) j d)) (sym a) (subst (HasGoneOn state wait p) (sym b) gone))
    | inr q ↦ (let f = q.1 in
        subst (HasGoneOn state wait (get_or ls0 j d)) (sym (there_is j d f)) (done j d (lower j k l f)))
  ]
    where
      lower : (j k : ℕ) → j < k + 1 → j ≢ k → j < k
      lower j k l f = grind (arith, nat_tests)

  -- how many have ended
  parts_before : (x : LaneNode) → AreParts (set ls k m) x (k + 1) → AreParts ls x k
  parts_before x h j d l = h j d (omega (arith, l)) ∙ ap part_of (there_is j d (λ e. omega (arith, l, e)))

  pub ended_then : (x : LaneNode) (ended : ℕ) → ((y : LaneNode) → AreParts ls y k → ended ≡ ended_in y k)
      → AreParts (set ls k m) x (k + 1) → cond (is_ended (part_of m).phase) (ended + 1) ended ≡ ended_in x (k + 1)
  ended_then x ended was h =
      let here : x.lanes k ≡ part_of m = h k m (omega arith) ∙ ap part_of (here_is m) in
      (λ t. cond (is_ended (sym here t).phase) (was x (parts_before x h) t + 1) (was x (parts_before x h) t))
      ∙ ap (ended_in x) (let e : suc k ≡ k + 1 = omega arith in e)

  -- what is counted
  pub counted_then : (n : Node) (x : LaneNode) (c c' : NodeCounts) → HaveParts ls0 x → c ≡ counted n x.lanes k
      → c' ≡ counts_after (tally_on n.local (part_of p) (part_of p).phase (still n.wait (part_of p).awaits)) c
      → c' ≡ counted n x.lanes (k + 1)
  counted_then n x c c' h was is =
      let here : x.lanes k ≡ part_of p = h k p (let e = count in omega (arith, e, low)) ∙ ap part_of (first_is p) in
      is ∙ (λ t. counts_after (tally_on n.local (sym here t) (sym here t).phase (still n.wait (sym here t).awaits)) (was t))
      ∙ ap (counted n x.lanes) (let e : suc k ≡ k + 1 = omega arith in e)

pub counted_below : (n : Node) (p : StoredLane) (c c' : NodeCounts) (m k : ℕ)
    → c' ≡ counts_after (tally_on n.local (part_of p) (part_of p).phase (still n.wait (part_of p).awaits)) c
    → AreCountsBelow (m + k) c → AreCountsBelow (m + (k + 1)) c'
counted_below n p c c' m k is below =
    subst (AreCountsBelow (m + (k + 1))) (sym is)
    (counts_up (m + k + 1) (m + (k + 1)) _ (omega arith)
    (tally_below (tally_on n.local (part_of p) (part_of p).phase (still n.wait (part_of p).awaits)) (m + k) c below))
