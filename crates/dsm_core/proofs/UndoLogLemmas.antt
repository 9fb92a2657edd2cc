-- Words of every node, and what takes them back.
use Rattle.std.proofs.Common.{◌≡◌, ◌≢◌, ℕ, zero, suc, ◌+◌, ◌<◌, ◌≤◌, Bool, true, false, ltb, List, [], ◌∷◌, map, length, get_or, set, Result, Ok, Err, IfOk, OnErr, refl, sym, ap, ◌∙◌, subst, inl, inr, arith}
use Rattle.std.proofs.Math.Path.{fun_ext}
use Rattle.std.proofs.lemmas.Bool.Decides.{eqb_tells, nat_tests}
use Rattle.std.proofs.lemmas.List.{get_or-map, get_or-set_same, get_or-set_other, get_or_past, length-map}
use Rattle.run_order.specs.node_model.Node.{Work, Node, opening_node, can_execute}
use Rattle.run_order.specs.node_model.Core.{Core, AreAlike}
use Rattle.node_machine.specs.declared.node_state.NodeState.{NodeState}
use Rattle.node_machine.specs.declared.undo_log.NodeUndoLog.{NodeUndoLog}
use Rattle.node_machine.specs.NodeState.{node_of, work_of as work_at}
use Rattle.node_machine.specs.Runs.{GoesOnBy as HasGoneBy}
use Rattle.node_machine.specs.UndoLogs.{TakesNodeBack}
use Rattle.rewriting_law.specs.dsm_protocol.Queue.{Queue}
use Rattle.dsm_core.specs.CoreParts.{core_with, HaveWork, GoesOnTo}
use Rattle.dsm_core.specs.CoreWords.{HaveEachPassed}
use Rattle.dsm_core.specs.CoreSteps.{node_or}
use Rattle.dsm_core.specs.UndoLogs.{HasGone, HaveGone, TakeBack, AreSameBelow, AreSameFrom}
use Rattle.dsm_core.proofs.CoreRuns.{goes_nowhere, goes_also, alike_also, can_execute_by}
use Rattle.dsm_core.proofs.Words.{node_goes, words_go, may_word}

-- 1. Lists in which one place is written

pub from_set : {A : Type 0} (i : ℕ) (old now : List A) (x : A) → AreSameFrom i old now → AreSameFrom (i + 1) old (set now i x)
from_set i old now x same k d more =
    let apart : k ≢ i = λ e. omega (arith, e, more) in
    get_or-set_other now i k x d apart ∙ same k d (omega (arith, more))

pub here_set : {A : Type 0} (now : List A) (i k : ℕ) (x d : A) → i < length now → k ≡ i → get_or (set now i x) k d ≡ x
here_set now i k x d below is = ap (λ j. get_or (set now i x) j d) is ∙ get_or-set_same now i x d below

-- a place that was read
pub read_same : {A : Type 0} (i : ℕ) (old now : List A) (x d : A) → AreSameFrom i old now → i < length old → x ≡ get_or now i x → get_or old i d ≡ x
read_same i old now x d same below is = any old i d x below ∙ sym (same i x (omega arith)) ∙ sym is
  where
    any : {A : Type 0} (xs : List A) (k : ℕ) (p q : A) → k < length xs → get_or xs k p ≡ get_or xs k q
    any [] k p q less = absurd (omega (arith, less))
    any (y ∷ ys) zero p q less = refl
    any (y ∷ ys) (suc k) p q less = any ys k p q (omega (arith, less))

below_cases : (k i : ℕ) → k < i + 1 → (k ≢ i) → k < i
below_cases k i low apart = omega (arith, low, apart)

-- 2. Each node in turn

-- one node more has gone
pub gone_more : (words : ℕ → ℕ) (i : ℕ) (old now : List NodeState) (x y : NodeState) (made : ℕ) → i < length old → i < length now → x ≡ get_or now i x
    → AreSameFrom i old now → made ≡ words i → HasGone made x y → HaveGone words i old now → HaveGone words (i + 1) old (set now i y)
gone_more words i old now x y made below here is same count gone before k d low = elim (eqb_tells k i) [
  | inl e ↦
      (let first : get_or old k d ≡ x = ap (λ j. get_or old j d) e.1 ∙ read_same i old now x d same below is in
      subst (λ (z : NodeState). HasGone (words k) z (get_or (set now i y) k d)) (sym first)
      (subst (λ (z : NodeState). HasGone (words k) x z) (sym (here_set now i k y d here e.1))
      (subst (λ n. HasGone n x y) (count ∙ ap words (sym e.1)) gone)))
  | inr e ↦
      subst (λ (z : NodeState). HasGone (words k) (get_or old k d) z) (sym (get_or-set_other now i k y d e.1))
      (before k d (below_cases k i low e.1))
]

-- and is taken back
pub back_more : (i : ℕ) (old now : List NodeState) (undo_logs : List NodeUndoLog) (x y : NodeState) (t : NodeUndoLog) → i < length old → i < length now → i < length undo_logs → x ≡ get_or now i x
    → AreSameFrom i old now → TakesNodeBack t y x → TakeBack i undo_logs now old → TakeBack (i + 1) (set undo_logs i t) (set now i y) old
back_more i old now undo_logs x y t below here there is same back before k d u low = elim (eqb_tells k i) [
  | inl e ↦
      (let first : get_or old k d ≡ x = ap (λ j. get_or old j d) e.1 ∙ read_same i old now x d same below is in
      subst (λ (z : NodeState). TakesNodeBack (get_or (set undo_logs i t) k u) (get_or (set now i y) k d) z) (sym first)
      (subst (λ (z : NodeState). TakesNodeBack (get_or (set undo_logs i t) k u) z x) (sym (here_set now i k y d here e.1))
      (subst (λ (z : NodeUndoLog). TakesNodeBack z y x) (sym (here_set undo_logs i k t u there e.1)) back)))
  | inr e ↦
      subst (λ (z : NodeState). TakesNodeBack (get_or (set undo_logs i t) k u) z (get_or old k d)) (sym (get_or-set_other now i k y d e.1))
      (subst (λ (z : NodeUndoLog). TakesNodeBack z (get_or now k d) (get_or old k d)) (sym (get_or-set_other undo_logs i k t u e.1))
      (before k d u (below_cases k i low e.1)))
]

-- one node more was taken back
pub same_more : (i : ℕ) (first now : List NodeState) (y : NodeState) → i < length now → ((d : NodeState) → node_of y ≡ node_of (get_or first i d))
    → AreSameBelow i first now → AreSameBelow (i + 1) first (set now i y)
same_more i first now y here is before k d low = elim (eqb_tells k i) [
  | inl e ↦ ap node_of (here_set now i k y d here e.1) ∙ is d ∙ ap (λ j. node_of (get_or first j d)) (sym e.1)
  | inr e ↦ ap node_of (get_or-set_other now i k y d e.1) ∙ before k d (below_cases k i low e.1)
]

-- those that were taken back, and those that had done nothing
pub all_same : (i n : ℕ) (old now new : List NodeState) → AreSameBelow i old new → AreSameFrom i now new → AreSameFrom i old now → AreSameBelow n old new
all_same i n old now new below from same k d low = go (ltb k i) refl
  where
    go : (t : Bool) → ltb k i ≡ t → node_of (get_or new k d) ≡ node_of (get_or old k d)
    go true e = below k d (let l : k < i = grind (arith, nat_tests) in l)
    go false e = let l : i ≤ k = grind (arith, nat_tests) in ap node_of (from k d l ∙ same k d l)

-- 3. The cores

some_frame : (ns : List NodeState) (i : ℕ) → i < length ns → NodeState
some_frame [] i below = absurd (omega (arith, below))
some_frame (x ∷ ns) i below = x

node_at : (ns : List NodeState) (i : ℕ) (d : Node) (x : NodeState) → i < length ns → node_or ns i d ≡ node_of (get_or ns i x)
node_at ns i d x below = get_or-map node_of ns i x d below

work_there : (work : Work) (ns : List NodeState) (i : ℕ) (x : NodeState) → i < length ns → HaveWork work ns → work_at (get_or ns i x) ≡ work
work_there work ns i x below have = sym (get_or-map work_at ns i x work below) ∙ have i

past : (ns : List NodeState) (i : ℕ) (d : Node) → length ns ≤ i → node_or ns i d ≡ d
past ns i d over = get_or_past (map node_of ns) i d (subst (λ z. z ≤ i) (sym (length-map ns node_of)) over)

-- nodes that stand for the same make the same core
pub kept_core : (work : Work) (old new : List NodeState) (lists : List Queue) → length new ≡ length old → AreSameBelow (length old) old new
    → core_with work new lists ≡ core_with work old lists
kept_core work old new lists len same = λ t. record (core_with work old lists) { nodes = fun_ext (λ i. go i (ltb i (length old)) refl) t }
  where
    go : (i : ℕ) (t : Bool) → ltb i (length old) ≡ t → node_or new i (opening_node work i) ≡ node_or old i (opening_node work i)
    go i true e =
        let below : i < length old = grind (arith, nat_tests) in
        let x = some_frame old i below in
        node_at new i (opening_node work i) x (subst (λ z. i < z) (sym len) below) ∙ same i x below ∙ sym (node_at old i (opening_node work i) x below)
    go i false e =
        let over : length old ≤ i = grind (arith, nat_tests) in
        past new i (opening_node work i) (subst (λ z. z ≤ i) (sym len) over) ∙ sym (past old i (opening_node work i) over)

-- nodes that have gone
pub passed_core : (work : Work) (words : ℕ → ℕ) (old new : List NodeState) (lists : List Queue) → length old ≡ work.layout.nodes → length new ≡ work.layout.nodes
    → HaveWork work old → HaveGone words work.layout.nodes old new
    → HaveEachPassed work words (core_with work old lists) (core_with work new lists)
passed_core work words old new lists len len2 have gone = record {
  nodes = λ i below.
      let bo : i < length old = subst (λ z. i < z) (sym len) below in
      let bn : i < length new = subst (λ z. i < z) (sym len2) below in
      let x = some_frame old i bo in
      let d = opening_node work i in
      let g = gone i x below in
      subst (λ (n : Node). HasGoneBy work (words i) n (node_or new i d)) (sym (node_at old i d x bo))
      (subst (λ (m : Node). HasGoneBy work (words i) (node_of (get_or old i x)) m) (sym (node_at new i d x bn))
      (subst (λ (w : Work). HasGoneBy w (words i) (node_of (get_or old i x)) (node_of (get_or new i x))) (work_there work old i x bo have) g.goes_on));
  may = λ i may.
      let below = may.0 in
      let bo : i < length old = subst (λ z. i < z) (sym len) below in
      let bn : i < length new = subst (λ z. i < z) (sym len2) below in
      let x = some_frame old i bo in
      let d = opening_node work i in
      let can = subst (λ (n : Node). can_execute n.phase ≡ true) (node_at old i d x bo) (can_execute_by work (core_with work old lists) i may) in
      may_word work (core_with work new lists) i (node_of (get_or new i x)) below (node_at new i d x bn) ((gone i x below).may can);
  lists = λ j i bj bi. refl;
}

-- 4. Where they lead

record GoesWithFirst (work : Work) (k : ℕ) (c d : Core) : Type 0 where
  pub last : Core
  pub goes : GoesOnTo work c last
  pub done : (i : ℕ) → i < k → last.nodes i ≡ d.nodes i
  pub rest : (i : ℕ) → k ≤ i → last.nodes i ≡ c.nodes i
  pub lists : (j i : ℕ) → last.list j i ≡ c.list j i

first_go : (work : Work) (words : ℕ → ℕ) (k : ℕ) (c d : Core) → HaveEachPassed work words c d → k ≤ work.layout.nodes → GoesWithFirst work k c d
first_go work words zero c d passed few = record {
  last = c;
  goes = goes_nowhere work c;
  done = λ i low. absurd (omega (arith, low));
  rest = λ i high. refl;
  lists = λ j i. refl;
}
first_go work words (suc k) c d passed few =
    let before = first_go work words k c d passed (omega (arith, few)) in
    let bk : k < work.layout.nodes = omega (arith, few) in
    let one = node_goes work k (words k) before.last (c.nodes k) (d.nodes k) bk (before.rest k (omega arith)) (passed.nodes k bk) in
    record {
      last = one.last;
      goes = goes_also work c before.last one.last before.goes (words_go work k (words k) before.last one.last one.goes);
      done = λ i low. elim (eqb_tells i k) [
        | inl e ↦ ap one.last.nodes e.1 ∙ one.alone.node ∙ ap d.nodes (sym e.1)
        | inr e ↦ one.alone.others i e.1 ∙ before.done i (below_cases i k (omega (arith, low)) e.1)
      ];
      rest = λ i high. one.alone.others i (λ e. omega (arith, e, high)) ∙ before.rest i (omega (arith, high));
      lists = λ j i. one.alone.lists j i ∙ before.lists j i;
    }

pub each_goes : (work : Work) (words : ℕ → ℕ) (c d : Core) → HaveEachPassed work words c d → GoesOnTo work c d
each_goes work words c d passed =
    let n = work.layout.nodes in
    let all = first_go work words n c d passed (omega arith) in
    let alike : AreAlike n d all.last = record {
      nodes = λ i bi. sym (all.done i bi);
      lists = λ j i bj bi. passed.lists j i bj bi ∙ sym (all.lists j i);
    } in
    record { more = all.goes.more; is_run = all.goes.is_run; leads = alike_also n d all.last _ alike all.goes.leads }

pub passed_or_kept : {E : Type 0} {A : Type 0} (r : Result A E) (work : Work) (words : ℕ → ℕ) (c d : Core)
    → IfOk r (λ u. HaveEachPassed work words c d) → OnErr r (d ≡ c) → GoesOnTo work c d
passed_or_kept (Ok u) work words c d passed kept = each_goes work words c d passed
passed_or_kept (Err e) work words c d passed kept = subst (λ (z : Core). GoesOnTo work c z) (sym kept) (goes_nowhere work c)

-- what was read stood there at first
pub read_here : {A : Type 0} (i : ℕ) (old now : List A) (x : A) → AreSameFrom i old now → x ≡ get_or now i x → get_or old i x ≡ x
read_here i old now x same is = sym (same i x (omega arith)) ∙ sym is

-- what takes the node of a place back
pub back_here : (end i : ℕ) (undo_logs0 undo_logs : List NodeUndoLog) (nodes0 nodes first : List NodeState) (t : NodeUndoLog) (x : NodeState) → i < end → TakeBack end undo_logs0 nodes0 first
    → AreSameFrom i undo_logs0 undo_logs → AreSameFrom i nodes0 nodes → t ≡ get_or undo_logs i t → x ≡ get_or nodes i x → TakesNodeBack t x (get_or first i x)
back_here end i undo_logs0 undo_logs nodes0 nodes first t x low all left rest there here =
    subst (λ (f : NodeState). TakesNodeBack t f (get_or first i x)) (read_here i nodes0 nodes x rest here)
    (subst (λ (u : NodeUndoLog). TakesNodeBack u (get_or nodes0 i x) (get_or first i x)) (read_here i undo_logs0 undo_logs t left there) (all i x t low))

-- the node that stands there then, whatever stands for none
pub back_there : (end i : ℕ) (undo_logs0 undo_logs : List NodeUndoLog) (nodes0 nodes first : List NodeState) (t : NodeUndoLog) (x d : NodeState) → i < end → i < length nodes0 → TakeBack end undo_logs0 nodes0 first
    → AreSameFrom i undo_logs0 undo_logs → AreSameFrom i nodes0 nodes → t ≡ get_or undo_logs i t → x ≡ get_or nodes i x → TakesNodeBack t x (get_or first i d)
back_there end i undo_logs0 undo_logs nodes0 nodes first t x d low below all left rest there here =
    subst (λ (f : NodeState). TakesNodeBack t f (get_or first i d)) (read_same i nodes0 nodes x d rest below here)
    (subst (λ (u : NodeUndoLog). TakesNodeBack u (get_or nodes0 i d) (get_or first i d)) (read_here i undo_logs0 undo_logs t left there) (all i d t low))
