-- A core run leads to every core.
use Rattle.std.proofs.Common.{◌≡◌, ◌≢◌, ℕ, ◌+◌, ◌^◌, ◌<◌, ◌≤◌, Bool, true, false, cond, eqb, ◌&&◌, List, [], ◌∷◌, ◌++◌, map, length, get_or, Result, Ok, Err, OnOk, OnErr, refl, sym, ap, ◌∙◌, subst, arith, length-append}
use Rattle.std.specs.Prelude.{All}
use Rattle.std.proofs.Math.Path.{fun_ext}
use Rattle.std.proofs.lemmas.List.{get_or_default, length-map}
use Rattle.std.proofs.lemmas.List.Elements.{All-head}
use Rattle.rewriting_law.specs.dsm_messages.declared.messages.Wire.{Wire}
use Rattle.run_order.specs.node_model.declared.Standing.TheVariants as standing
use Rattle.run_order.specs.node_model.Node.{Work, Node, Phase, Running, Resumed, Waiting, Ended, opening_node, standing_in, standing_of, can_execute, has_all_byes}
use Rattle.run_order.specs.node_model.Turns.{Turn, word_turn, take_turn}
use Rattle.run_order.specs.node_model.Core.{Core, Event, Exec, Take, May, may_execute, may_take, opening_core, with_turn, with_list, take_first, event_step, IsCoreRun, after, wires_to, AreAlike}
use Rattle.node_machine.specs.declared.node_state.NodeState.{NodeState}
use Rattle.node_machine.specs.NodeState.{node_of}
use Rattle.rewriting_law.specs.dsm_protocol.Queue.{Queue, wires_of, AreQueues}
use Rattle.rewriting_law.specs.Bounds.{RunsRewritten}
use Rattle.dsm_core.specs.CoreParts.{CoreParts, work_of, core_with, core_of, HaveWork, IsLedTo, IsCore, AreParts, GoesOnTo, HasStampsInRange}
use Rattle.dsm_core.specs.CoreSteps.{node_or, SameWorks, MayExecute, IsStamped, CanMake, AreFirst, GoesOnFor}

-- 1. Cores that are alike make the same events

pub alike_also : (n : ℕ) (a b c : Core) → AreAlike n a b → AreAlike n b c → AreAlike n a c
alike_also n a b c p q = record {
  nodes = λ i bi. p.nodes i bi ∙ q.nodes i bi;
  lists = λ j i bj bi. p.lists j i bj bi ∙ q.lists j i bj bi;
}

turn_alike : (n i : ℕ) (c d : Core) (t u : Turn) → t ≡ u → AreAlike n c d
    → AreAlike n (with_turn c i t) (with_turn d i u)
turn_alike n i c d t u e a = record {
  nodes = λ k bk. ap (λ (z : Turn). cond (eqb k i) z.node (c.nodes k)) e
      ∙ ap (λ z. cond (eqb k i) u.node z) (a.nodes k bk);
  lists = λ j k bj bk.
      ap (λ (z : Turn). cond (eqb j i) (c.list j k ++ wires_to z.node.stamp k z.sends) (c.list j k)) e
      ∙ ap (λ z. cond (eqb j i) (z ++ wires_to u.node.stamp k u.sends) z) (a.lists j k bj bk);
}

list_alike : (n j i : ℕ) (c d : Core) (rest : List Wire) → AreAlike n c d
    → AreAlike n (with_list c j i rest) (with_list d j i rest)
list_alike n j i c d rest a = record {
  nodes = a.nodes;
  lists = λ x y bx by. ap (λ z. cond (eqb x j && eqb y i) rest z) (a.lists x y bx by);
}

first_alike : (work : Work) (n i j : ℕ) (c d : Core) (ws : List Wire) → i < n → AreAlike n c d
    → AreAlike n (take_first work c i j ws) (take_first work d i j ws)
first_alike work n i j c d [] bi a = a
first_alike work n i j c d (w ∷ rest) bi a =
    turn_alike n i (with_list c j i rest) (with_list d j i rest) _ _
    (ap (λ z. take_turn work z j w) (a.nodes i bi)) (list_alike n j i c d rest a)

event_alike : (work : Work) (c d : Core) (e : Event) → May work c e → AreAlike work.layout.nodes c d
    → AreAlike work.layout.nodes (event_step work c e) (event_step work d e)
event_alike work c d (Exec i) may a =
    turn_alike work.layout.nodes i c d _ _ (ap (word_turn work) (a.nodes i may.0)) a
event_alike work c d (Take i j) may a =
    subst (λ ws. AreAlike work.layout.nodes (event_step work c (Take i j)) (take_first work d i j ws))
    (a.lists j i may.1 may.0) (first_alike work work.layout.nodes i j c d (c.list j i) may.0 a)

pub may_alike : (work : Work) (c d : Core) (e : Event) → AreAlike work.layout.nodes c d → May work c e
    → May work d e
may_alike work c d (Exec i) a may =
    (may.0, subst (λ z. may_execute (standing_of work z) ≡ true) (a.nodes i may.0) may.1)
may_alike work c d (Take i j) a may = (
  may.0,
  may.1,
  subst (λ z. may_take (standing_of work z) ≡ true) (a.nodes i may.0)
      may.2,
  subst (λ z. z ≢ []) (a.lists j i may.1 may.0) may.3,
)

-- 2. One stretch of events after another

pub run_append : (work : Work) (c : Core) (es fs : List Event) → IsCoreRun work c es
    → IsCoreRun work (after work c es) fs → IsCoreRun work c (es ++ fs)
run_append work c [] fs run more = more
run_append work c (e ∷ es) fs run more =
    (run.0, run_append work (event_step work c e) es fs run.1 more)

pub after_append : (work : Work) (c : Core) (es fs : List Event)
    → after work c (es ++ fs) ≡ after work (after work c es) fs
after_append work c [] fs = refl
after_append work c (e ∷ es) fs = after_append work (event_step work c e) es fs

pub run_alike : (work : Work) (c d : Core) (es : List Event) → AreAlike work.layout.nodes c d
    → IsCoreRun work c es → IsCoreRun work d es
run_alike work c d [] a run = tt
run_alike work c d (e ∷ es) a run = (
  may_alike work c d e a run.0,
  run_alike work (event_step work c e) (event_step work d e) es (event_alike work c d e run.0 a)
      run.1,
)

pub after_alike : (work : Work) (c d : Core) (es : List Event) → AreAlike work.layout.nodes c d
    → IsCoreRun work c es → AreAlike work.layout.nodes (after work c es) (after work d es)
after_alike work c d [] a run = a
after_alike work c d (e ∷ es) a run = after_alike work (event_step work c e)
    (event_step work d e) es (event_alike work c d e run.0 a) run.1

pub alike_same : (n : ℕ) (c : Core) → AreAlike n c c
alike_same n c = record { nodes = λ i bi. refl; lists = λ j i bj bi. refl }

pub alike_back : (n : ℕ) (c d : Core) → AreAlike n c d → AreAlike n d c
alike_back n c d a = record {
  nodes = λ i bi. sym (a.nodes i bi);
  lists = λ j i bj bi. sym (a.lists j i bj bi);
}

-- no event, one event, and one stretch of events after another
pub goes_nowhere : (work : Work) (c : Core) → GoesOnTo work c c
goes_nowhere work c = record { more = []; is_run = tt; leads = alike_same work.layout.nodes c }

pub goes_once : (work : Work) (c d : Core) (e : Event) → May work c e
    → AreAlike work.layout.nodes d (event_step work c e) → GoesOnTo work c d
goes_once work c d e may a = record { more = e ∷ []; is_run = (may, tt); leads = a }

abbrev pub goes_also : (work : Work) (c d e : Core) → GoesOnTo work c d → GoesOnTo work d e
    → GoesOnTo work c e
goes_also work c d e p q =
    let last = after work c p.more in
    record {
      more = p.more ++ q.more;
      is_run = run_append work c p.more q.more p.is_run
          (run_alike work d last q.more p.leads q.is_run);
      leads = subst (λ (z : Core). AreAlike work.layout.nodes e z)
          (sym (after_append work c p.more q.more))
          (alike_also work.layout.nodes e (after work d q.more) (after work last q.more) q.leads
          (after_alike work d last q.more p.leads q.is_run));
    }

pub led_on : (work : Work) (c d : Core) → IsLedTo work c → GoesOnTo work c d → IsLedTo work d
led_on work c d l p =
    let o = opening_core work in
    let all = goes_also work o c d (record { more = l.run; is_run = l.is_run; leads = l.leads }) p in
    record { run = all.more; is_run = all.is_run; leads = all.leads }

-- so many events at least
pub for_none : (work : Work) (c : Core) → GoesOnFor work 0 c c
for_none work c = record { goes = goes_nowhere work c; count = omega arith }

pub for_one : (work : Work) (c d : Core) (e : Event) → May work c e
    → AreAlike work.layout.nodes d (event_step work c e) → GoesOnFor work 1 c d
for_one work c d e may a = record {
  goes = record { more = e ∷ []; is_run = (may, tt); leads = a };
  count = omega arith;
}

more_than : (j k : ℕ) (es fs : List Event) → j ≤ length es → k ≤ length fs
    → j + k ≤ length (es ++ fs)
more_than j k es fs p q = omega (arith, length-append es fs)

pub for_also : (work : Work) (j k : ℕ) (c d e : Core) → GoesOnFor work j c d → GoesOnFor work k d e
    → GoesOnFor work (j + k) c e
for_also work j k c d e p q = record {
  goes = goes_also work c d e p.goes q.goes;
  count = more_than j k p.goes.more q.goes.more p.count q.count;
}

pub for_fewer : (work : Work) (j k : ℕ) (c d : Core) → j ≤ k → GoesOnFor work k c d
    → GoesOnFor work j c d
for_fewer work j k c d le p = record { goes = p.goes; count = (let a = p.count in omega arith) }

-- 3. Nodes and lists after events

works_kept : (work : Work) (ns0 ns1 : List NodeState) → SameWorks ns0 ns1 → HaveWork work ns0
    → HaveWork work ns1
works_kept work ns0 ns1 same have i = ap (λ z. get_or z i work) same ∙ have i

abbrev pub parts_after : CoreParts → List NodeState → List Queue → CoreParts
parts_after p ns qs = record p { nodes = ns; lists = qs }

pub parts_kept : (p : CoreParts) (ns : List NodeState) (qs : List Queue) → AreParts p
    → length ns ≡ p.layout.nodes → AreQueues qs p.layout.nodes → SameWorks p.nodes ns
    → AreParts (parts_after p ns qs)
parts_kept p ns qs are len lists works = record {
  count = len;
  lists = lists;
  works = works_kept (work_of p) p.nodes ns works are.works;
  rewritten = are.rewritten;
}

-- nodes and lists that events lead to, whatever they run
pub is_gone : (p q : CoreParts) → IsCore p → AreParts q → work_of q ≡ work_of p
    → GoesOnTo (work_of p) (core_of p) (core_of q) → IsCore q
is_gone p q is are work goes = record {
  are_parts = are;
  led_to = subst (λ (w : Work). IsLedTo w (core_of q)) (sym work)
      (led_on (work_of p) (core_of p) (core_of q) is.led_to goes);
}

made_or_kept : {A E : Type 0} (r : Result A E) (work : Work) (c d : Core) (e : Event)
    → May work c e → OnOk r (AreAlike work.layout.nodes d (event_step work c e))
    → OnErr r (d ≡ c) → GoesOnTo work c d
made_or_kept (Ok x) work c d e may made kept = goes_once work c d e may made
made_or_kept (Err x) work c d e may made kept =
    subst (λ (z : Core). GoesOnTo work c z) (sym kept) (goes_nowhere work c)

-- an event was made, or nothing has changed
pub is_made : {A E : Type 0} (r : Result A E) (p q : CoreParts) (e : Event) → IsCore p
    → May (work_of p) (core_of p) e → AreParts q → work_of q ≡ work_of p
    → OnOk r (AreAlike p.layout.nodes (core_of q) (event_step (work_of p) (core_of p) e))
    → OnErr r (core_of q ≡ core_of p) → IsCore q
is_made r p q e is may are work made kept = is_gone p q is are work
    (made_or_kept r (work_of p) (core_of p) (core_of q) e may made kept)

-- 4. An event that is allowed can be made

not_true : false ≡ true → ⊥
not_true e = absurd (cc)

can_by : (work : Work) (n : Node) (p : Phase) → may_execute (standing_in work n p) ≡ true
    → can_execute p ≡ true
can_by work n Running may = refl
can_by work n Resumed may = refl
can_by work n (Waiting r) may = absurd (not_true may)
can_by work n (Ended e) may = absurd (not_true (ended (has_all_byes work n) ∙ may))
  where
    ended : (b : Bool) → false ≡ may_execute (cond b standing.Over standing.Ended)
    ended true = refl
    ended false = refl

pub can_execute_by : (work : Work) (c : Core) (i : ℕ) → May work c (Exec i)
    → can_execute (c.nodes i).phase ≡ true
can_execute_by work c i may = can_by work (c.nodes i) (c.nodes i).phase may.1

-- whatever stands for a node that isn't there
pub any_node : (ns : List NodeState) (i : ℕ) (d e : Node) → i < length ns
    → node_or ns i d ≡ node_or ns i e
any_node ns i d e below =
    get_or_default (map node_of ns) i d e (subst (λ z. i < z) (sym (length-map ns node_of)) below)

pub may_execute_at : (p : CoreParts) (i : ℕ) → AreParts p → May (work_of p) (core_of p) (Exec i)
    → MayExecute p.nodes i
may_execute_at p i are may d =
    subst (λ (n : Node). can_execute n.phase ≡ true)
    (any_node p.nodes i (opening_node (work_of p) i) d (subst (λ z. i < z) (sym are.count) may.0))
    (can_execute_by (work_of p) (core_of p) i may)

pub stamped : (p : CoreParts) (i : ℕ) → AreParts p → HasStampsInRange p.layout.nodes (core_of p)
    → i < p.layout.nodes → IsStamped p.nodes i
stamped p i are range bi d =
    subst (λ (n : Node). n.stamp < 2 ^ 56)
    (any_node p.nodes i (opening_node (work_of p) i) d (subst (λ z. i < z) (sym are.count) bi))
    (range.nodes i bi)

pub can_make : (p : CoreParts) (e : Event) → AreParts p → HasStampsInRange p.layout.nodes (core_of p)
    → May (work_of p) (core_of p) e → CanMake p.layout.nodes p.nodes p.lists e
can_make p (Exec i) are range may = (may.0, may_execute_at p i are may, stamped p i are range may.0)
can_make p (Take i j) are range may = (
  may.0,
  may.1,
  may.3,
  stamped p i are range may.0,
  λ w rest e. All-head (λ (wire : Wire). wire.stamp < 2 ^ 56) w rest
      (subst (All (λ (wire : Wire). wire.stamp < 2 ^ 56)) e (range.wires j i may.1 may.0)),
)

-- 5. The start

pub opened : (p : CoreParts) → length p.nodes ≡ p.layout.nodes → AreQueues p.lists p.layout.nodes
    → HaveWork (work_of p) p.nodes → RunsRewritten (work_of p) → AreFirst (work_of p) p.nodes
    → ((j i : ℕ) → wires_of p.lists p.layout.nodes j i ≡ []) → IsCore p
opened p len lists works rewritten first empty = record {
  are_parts = record { count = len; lists = lists; works = works; rewritten = rewritten };
  led_to = record {
    run = [];
    is_run = tt;
    leads = record { nodes = λ i bi. first i; lists = λ j i bj bi. empty j i };
  };
}

pub opened_core : (work : Work) (ns : List NodeState) (qs : List Queue) → AreFirst work ns
    → ((j i : ℕ) → wires_of qs work.layout.nodes j i ≡ [])
    → core_with work ns qs ≡ opening_core work
opened_core work ns qs first empty = λ t. record {
  nodes = fun_ext first t;
  list = fun_ext (λ j. fun_ext (λ i. empty j i)) t;
}
