-- Words of one node, as events of a core.
use Rattle.std.proofs.Common.{◌≡◌, ◌≢◌, ℕ, zero, suc, ◌+◌, ◌<◌, Bool, true, false, cond, eqb, List, [], ◌∷◌, ◌++◌, length, get_or, set, Option, Some, None, Result, Ok, Err, IfOk, OnErr, refl, sym, ap, ◌∙◌, subst, inl, inr, arith}
use Rattle.std.proofs.lemmas.List.{append-nil}
use Rattle.std.proofs.lemmas.Bool.Decides.{eqb_tells}
use Rattle.block_layout.specs.Layout.{Shape, block_of}
use Rattle.rewriting_law.specs.dsm_messages.declared.messages.Need.{Need}
use Rattle.rewriting_law.specs.dsm_messages.declared.messages.Post.{Post}
use Rattle.rewriting_law.specs.home_directory.Table.{Miss}
use Rattle.rv32_program.specs.Program.{line_of}
use Rattle.run_order.specs.node_model.declared.Standing.TheVariants as standing
use Rattle.run_order.specs.node_model.Node.{Work, Node, Phase, Running, Resumed, Waiting, Ended, Want, opening_node, word_outcome, standing_in, is_at_poll, can_execute}
use Rattle.run_order.specs.node_model.Turns.{Turn, silent, with_miss, want_in, want_all, each_block_once, with_byes, word_turn, after_word, after_wants, wants_of}
use Rattle.run_order.specs.node_model.Core.{Core, Exec, May, may_execute, wires_to, with_turn, event_step, AreAlike}
use Rattle.node_machine.specs.declared.node_state.NodeState.{NodeState}
use Rattle.node_machine.specs.NodeState.{node_of, work_of as work_at}
use Rattle.node_machine.specs.Runs.{HasExecuted, GoesOnBy as HasGoneBy}
use Rattle.rewriting_law.specs.dsm_protocol.Queue.{Queue, SameWires, IsSent}
use Rattle.dsm_core.specs.CoreParts.{core_with, GoesOnTo}
use Rattle.dsm_core.specs.CoreWords.{GoesOnBy, HasExecutedOn, HasPassed, HasPassedWords}
use Rattle.dsm_core.specs.CoreSteps.{node_or, SameNodes, HasLearned, HavePassed, HavePassedWords, HaveExecutedOn, GoesOnFor}
use Rattle.dsm_core.proofs.CoreSteps.{same_node, same_work, set_node, turned}
use Rattle.dsm_core.proofs.CoreRuns.{alike_also, alike_same, goes_nowhere, goes_once, goes_also, for_one, for_also}

-- 1. The stamp of a word

miss_stamp : (l : Shape) (b : ℕ) (need : Need) (t : Turn) (m : Option Miss)
    → (with_miss l b need t m).node.stamp ≡ t.node.stamp
miss_stamp l b need t None = refl
miss_stamp l b need t (Some m) = refl

want_stamp : (l : Shape) (t : Turn) (need : Need) (o : Option ℕ)
    → (want_in l t need o).node.stamp ≡ t.node.stamp
want_stamp l t need None = refl
want_stamp l t need (Some b) = miss_stamp l b need t _

wants_stamp : (l : Shape) (t : Turn) (ws : List Want) → (want_all l t ws).node.stamp ≡ t.node.stamp
wants_stamp l t [] = refl
wants_stamp l t (w ∷ ws) = wants_stamp l (want_in l t w.need (block_of l (line_of w.at))) ws
    ∙ want_stamp l t w.need (block_of l (line_of w.at))

byes_stamp : (k : ℕ) (t : Turn) (b : Bool) → (with_byes k t b).node.stamp ≡ t.node.stamp
byes_stamp k t true = refl
byes_stamp k t false = refl

word_stamp : (work : Work) (n : Node) → (word_turn work n).node.stamp ≡ n.stamp + 1
word_stamp work n = byes_stamp work.layout.nodes (after_wants work n) _
    ∙ wants_stamp work.layout (after_word work n) (each_block_once work.layout (wants_of (word_outcome work n).move))

words_stamp : (work : Work) (k : ℕ) (n m : Node) → HasGoneBy work k n m → m.stamp ≡ n.stamp + k
words_stamp work zero n m e = let s = ap (λ (z : Node). z.stamp) e in omega (arith, s)
words_stamp work (suc k) n m goes =
    let a = words_stamp work k (word_turn work n).node m goes.2 in
    let b = word_stamp work n in
    omega (arith, a, b)

-- the words executed are the difference of the stamps
pub ran_stamp : (work : Work) (n m : Node) (sends : List Post) (output : Option ℕ)
    (r : HasExecuted work n m sends output) → m.stamp ≡ n.stamp + r.words + 1
ran_stamp work n m sends output r =
    let a = ap (λ (t : Turn). t.node.stamp) r.turn in
    let b = word_stamp work r.last in
    let d = words_stamp work r.words n r.last r.goes_on in
    omega (arith, a, b, d)

-- 2. A word that sends nothing changes the node alone

pub record IsNodeAlone (n i : ℕ) (m : Node) (c d : Core) : Type 0 where
  pub node : d.nodes i ≡ m
  pub others : (k : ℕ) → k ≢ i → d.nodes k ≡ c.nodes k
  pub lists : (j k : ℕ) → d.list j k ≡ c.list j k

no_more : {A : Type 0} (b : Bool) (xs : List A) → cond b (xs ++ []) xs ≡ xs
no_more true xs = append-nil xs
no_more false xs = refl

turn_alone : (n i : ℕ) (m : Node) (c : Core) → IsNodeAlone n i m c (with_turn c i (silent m))
turn_alone n i m c = record {
  node = elim (eqb_tells i i) [ inl t ↦ rw t.0 refl | inr t ↦ absurd (t.1 refl) ];
  others = λ k other. elim (eqb_tells k i) [ inl t ↦ absurd (other t.1) | inr t ↦ rw t.0 refl ];
  lists = λ j k. no_more (eqb j i) (c.list j k);
}

alone_also : (n i : ℕ) (m o : Node) (c d e : Core) → IsNodeAlone n i m c d → IsNodeAlone n i o d e
    → IsNodeAlone n i o c e
alone_also n i m o c d e p q = record {
  node = q.node;
  others = λ k other. q.others k other ∙ p.others k other;
  lists = λ j k. q.lists j k ∙ p.lists j k;
}

alone_turn : (n i : ℕ) (m : Node) (c d : Core) (t : Turn) → IsNodeAlone n i m c d
    → AreAlike n (with_turn c i t) (with_turn d i t)
alone_turn n i m c d t a = record {
  nodes = λ k bk. elim (eqb_tells k i) [
    | inl e ↦ rw e.0 refl
    | inr e ↦ rw e.0 (sym (a.others k e.1))
  ];
  lists = λ j k bj bk. ap (λ z. cond (eqb j i) (z ++ wires_to t.node.stamp k t.sends) z)
      (sym (a.lists j k));
}

alone_alike : (n i : ℕ) (m : Node) (c d e : Core) → IsNodeAlone n i m c d → IsNodeAlone n i m c e
    → AreAlike n d e
alone_alike n i m c d e p q = record {
  nodes = λ k bk. elim (eqb_tells k i) [
    | inl t ↦ subst (λ z. d.nodes z ≡ e.nodes z) (sym t.1) (p.node ∙ sym q.node)
    | inr t ↦ p.others k t.1 ∙ sym (q.others k t.1)
  ];
  lists = λ j k bj bk. p.lists j k ∙ sym (q.lists j k);
}

-- 3. Words one after another

at_poll : (b : Bool) → may_execute (cond b standing.AtPoll standing.Running) ≡ true
at_poll true = refl
at_poll false = refl

not_true : false ≡ true → ⊥
not_true e = absurd (cc)

may_by : (work : Work) (n : Node) (p : Phase) → can_execute p ≡ true
    → may_execute (standing_in work n p) ≡ true
may_by work n Running can = at_poll (is_at_poll work n)
may_by work n Resumed can = refl
may_by work n (Waiting r) can = absurd (not_true can)
may_by work n (Ended e) can = absurd (not_true can)

pub may_word : (work : Work) (c : Core) (i : ℕ) (n : Node) → i < work.layout.nodes → c.nodes i ≡ n
    → can_execute n.phase ≡ true → May work c (Exec i)
may_word work c i n bi e can =
    (bi, may_by work (c.nodes i) (c.nodes i).phase (ap (λ (z : Node). can_execute z.phase) e ∙ can))

pub record GoesWithNode (work : Work) (i k : ℕ) (m : Node) (c : Core) : Type 0 where
  pub last : Core
  pub goes : GoesOnBy work i k c last
  pub alone : IsNodeAlone work.layout.nodes i m c last

pub node_goes : (work : Work) (i k : ℕ) (c : Core) (n m : Node) → i < work.layout.nodes
    → c.nodes i ≡ n → HasGoneBy work k n m → GoesWithNode work i k m c
node_goes work i zero c n m bi is e = record {
  last = c;
  goes = refl;
  alone = record { node = is ∙ e; others = λ k other. refl; lists = λ j k. refl };
}
node_goes work i (suc k) c n m bi is goes =
    let next = event_step work c (Exec i) in
    let o : Node = (word_turn work n).node in
    let still : word_turn work (c.nodes i) ≡ silent o = ap (word_turn work) is ∙ goes.1 in
    let one : IsNodeAlone work.layout.nodes i o c next =
    subst (λ (t : Turn). IsNodeAlone work.layout.nodes i o c (with_turn c i t)) (sym still)
    (turn_alone work.layout.nodes i o c) in
    let rest = node_goes work i k next o m bi one.node goes.2 in
    record {
      last = rest.last;
      goes = (
        may_word work c i n bi is goes.0,
        still ∙ ap silent (ap (λ (t : Turn). t.node) (sym still)),
        rest.goes,
      );
      alone = alone_also work.layout.nodes i o m c next rest.last one rest.alone;
    }

-- 4. What was stored

pub executed_on : (n i words : ℕ) (ns0 ns1 : List NodeState) (x y : NodeState) (q0 q1 q2 : List Queue)
    (stamp : ℕ) (posts : List Post) (output : Option ℕ) → length ns1 ≡ n → i < n
    → SameNodes ns0 ns1 → x ≡ get_or ns1 i x → SameWires q0 q1 n → IsSent q1 q2 n i stamp posts
    → HasExecuted (work_at x) (node_of x) (node_of y) posts output → stamp ≡ (node_of y).stamp
    → stamp ≡ (node_of x).stamp + words → HaveExecutedOn n i words ns0 (set ns1 i y) q0 q2
executed_on n i words ns0 ns1 x y q0 q1 q2 stamp posts output len bi same is wires sent ran es count
    work e have =
    let below : i < length ns1 = subst (λ z. i < z) (sym len) bi in
    let k0 = work.layout.nodes in
    let bi0 : i < k0 = subst (λ z. i < z) (sym e) bi in
    let d = opening_node work i in
    let n0 : Node = node_or ns0 i d in
    let r : HasExecuted work n0 (node_of y) posts output =
    subst (λ (z : Node). HasExecuted work z (node_of y) posts output)
    (same_node ns0 ns1 i x d below same is)
    (subst (λ (z : Work). HasExecuted z (node_of x) (node_of y) posts output)
    (same_work work ns0 ns1 i x below same is have) ran) in
    let base : Core = core_with work ns0 q0 in
    let alike : AreAlike k0 (core_with work ns1 q1) base = record {
      nodes = λ k bk. ap (λ z. get_or z k (opening_node work k)) same.nodes;
      lists = subst (λ z. SameWires q0 q1 z) (sym e) wires;
    } in
    let goes = node_goes work i r.words base n0 r.last bi0 refl r.goes_on in
    let t : Turn = word_turn work r.last in
    let done : AreAlike k0 (core_with work (set ns1 i y) q2) (with_turn base i t) =
    turned work i ns1 y q1 q2 stamp posts base t below (ap (λ (z : Turn). z.node) r.turn)
    (ap (λ (z : Turn). z.sends) r.turn) es alike
    (subst (λ z. IsSent q1 q2 z i stamp posts) (sym e) sent) in
    let stamps = ran_stamp work n0 (node_of y) posts output r in
    let first = ap (λ (z : Node). z.stamp) (same_node ns0 ns1 i x d below same is) in
    record {
      before = r.words;
      count = omega (arith, stamps, first, es, count);
      last = goes.last;
      goes_on = goes.goes;
      may = may_word work goes.last i r.last bi0 goes.alone.node r.may;
      event = subst (λ (z : Node). AreAlike k0 (core_with work (set ns1 i y) q2)
          (with_turn goes.last i (word_turn work z))) (sym goes.alone.node)
          (alike_also k0 (core_with work (set ns1 i y) q2) (with_turn base i t)
          (with_turn goes.last i t) done (alone_turn k0 i r.last base goes.last t goes.alone));
    }

pub passed : (n i : ℕ) (ns : List NodeState) (x y : NodeState) → length ns ≡ n → i < n
    → x ≡ get_or ns i x → word_turn (work_at x) (node_of x) ≡ silent (node_of y)
    → can_execute (node_of y).phase ≡ true → HavePassed n i ns (set ns i y)
passed n i ns x y len bi is turn can work lists e have =
    let below : i < length ns = subst (λ z. i < z) (sym len) bi in
    let k0 = work.layout.nodes in
    let d = opening_node work i in
    let same : SameNodes ns ns = record { nodes = refl; works = refl } in
    let base : Core = core_with work ns lists in
    let t : word_turn work (base.nodes i) ≡ silent (node_of y) =
    ap (word_turn work) (sym (same_node ns ns i x d below same is))
    ∙ ap (λ (z : Work). word_turn z (node_of x))
    (sym (same_work work ns ns i x below same is have)) ∙ turn in
    let after : Core = core_with work (set ns i y) lists in
    record {
      silent = t ∙ ap silent (ap (λ (z : Turn). z.node) (sym t));
      event = subst (λ (z : Turn). AreAlike k0 after (with_turn base i z)) (sym t) (record {
        nodes = λ k bk. set_node ns i k y (opening_node work k) below;
        lists = λ j k bj bk. sym (no_more (eqb j i) (base.list j k));
      });
      may = may_word work after i (node_of y) (subst (λ z. i < z) (sym e) bi)
          (set_node ns i i y d below ∙ (elim (eqb_tells i i) [
            | inl s ↦ rw s.0 refl
            | inr s ↦ absurd (s.1 refl)
          ])) can;
    }

pub passed_words : (n i words : ℕ) (ns : List NodeState) (x y : NodeState) → length ns ≡ n → i < n
    → x ≡ get_or ns i x → HasGoneBy (work_at x) words (node_of x) (node_of y)
    → can_execute (node_of y).phase ≡ true → HavePassedWords n i words ns (set ns i y)
passed_words n i words ns x y len bi is goes can work lists e have =
    let below : i < length ns = subst (λ z. i < z) (sym len) bi in
    let k0 = work.layout.nodes in
    let d = opening_node work i in
    let bi0 : i < k0 = subst (λ z. i < z) (sym e) bi in
    let same : SameNodes ns ns = record { nodes = refl; works = refl } in
    let base : Core = core_with work ns lists in
    let after : Core = core_with work (set ns i y) lists in
    let m = node_of y in
    let n0 : Node = node_or ns i d in
    let gone : HasGoneBy work words n0 m =
    subst (λ (z : Node). HasGoneBy work words z m) (same_node ns ns i x d below same is)
    (subst (λ (z : Work). HasGoneBy z words (node_of x) m)
    (same_work work ns ns i x below same is have) goes) in
    let w = node_goes work i words base n0 m bi0 refl gone in
    record {
      last = w.last;
      goes_on = w.goes;
      alike = alike_also k0 after (with_turn base i (silent m)) w.last (record {
        nodes = λ k bk. set_node ns i k y (opening_node work k) below;
        lists = λ j k bj bk. sym (no_more (eqb j i) (base.list j k));
      }) (alone_alike k0 i m base (with_turn base i (silent m)) w.last
          (turn_alone k0 i m base) w.alone);
      may = may_word work after i m bi0 (set_node ns i i y d below ∙ (elim (eqb_tells i i) [
        | inl s ↦ rw s.0 refl
        | inr s ↦ absurd (s.1 refl)
      ])) can;
    }

-- what is learned of words is learned of those of the node as it was stored
pub learned_words : (learned : Work → ℕ → Node → Type 0) (n i words : ℕ) (ns : List NodeState) (x : NodeState) → length ns ≡ n
    → i < n → x ≡ get_or ns i x → learned (work_at x) words (node_of x) → HasLearned n i words ns learned
learned_words learned n i words ns x len bi is are work m e have =
    let below : i < length ns = subst (λ z. i < z) (sym len) bi in
    let same : SameNodes ns ns = record { nodes = refl; works = refl } in
    subst (λ (z : Node). learned work words z) (same_node ns ns i x m below same is)
    (subst (λ (z : Work). learned z words (node_of x)) (same_work work ns ns i x below same is have) are)

-- 5. Where words lead

pub words_go : (work : Work) (i k : ℕ) (c d : Core) → GoesOnBy work i k c d → GoesOnTo work c d
words_go work i zero c d e = subst (λ (z : Core). GoesOnTo work c z) e (goes_nowhere work c)
words_go work i (suc k) c d goes =
    let next = event_step work c (Exec i) in
    goes_also work c next d
    (goes_once work c next (Exec i) goes.0 (alike_same work.layout.nodes next))
    (words_go work i k next d goes.2)

pub executed_goes : (work : Work) (i words : ℕ) (c d : Core) → HasExecutedOn work i words c d
    → GoesOnFor work 1 c d
executed_goes work i words c d ran =
    for_also work 0 1 c ran.last d
    (record { goes = words_go work i ran.before c ran.last ran.goes_on; count = omega arith })
    (for_one work ran.last d (Exec i) ran.may ran.event)

pub passed_goes : (b : Bool) (work : Work) (i : ℕ) (c d : Core) → May work c (Exec i)
    → (b ≡ true → HasPassed work i c d) → (b ≡ false → d ≡ c) → GoesOnTo work c d
passed_goes true work i c d may passed kept = goes_once work c d (Exec i) may (passed refl).event
passed_goes false work i c d may passed kept =
    subst (λ (z : Core). GoesOnTo work c z) (sym (kept refl)) (goes_nowhere work c)

pub passed_words_go : (work : Work) (i words : ℕ) (c d : Core) → HasPassedWords work i words c d
    → GoesOnTo work c d
passed_words_go work i words c d p =
    goes_also work c p.last d (words_go work i words c p.last p.goes_on)
    (record { more = []; is_run = tt; leads = p.alike })

pub ran_goes : {E : Type 0} (r : Result ℕ E) (work : Work) (i : ℕ) (c d : Core)
    → IfOk r (λ words. HasExecutedOn work i words c d) → OnErr r (d ≡ c) → GoesOnTo work c d
ran_goes (Ok words) work i c d ran kept = (executed_goes work i words c d ran).goes
ran_goes (Err x) work i c d ran kept =
    subst (λ (z : Core). GoesOnTo work c z) (sym kept) (goes_nowhere work c)
