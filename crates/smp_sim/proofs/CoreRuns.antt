-- Cores that are alike make the same events; and a run leads to every core.
use Rattle.std.proofs.Common.{◌≡◌, ◌≢◌, ℕ, ◌*◌, ◌<◌, ◌≤◌, true, cond, eqb, ◌&&◌, List, [], ◌∷◌, ◌++◌, refl, sym, ap, ap₂, ◌∙◌, subst, arith}
use Rattle.std.specs.Option.{option_to_list}
use Rattle.std.proofs.Math.Nat.{div-lt_iff_lt-mul, mod-lt}
use Rattle.std.proofs.lemmas.Nat.{mul-le}
use Rattle.home_directory.specs.dsm_messages.declared.messages.Wire.{Wire}
use Rattle.lane_model.specs.node_model.Node.{word_outcome}
use Rattle.lane_model.specs.node_model.Core.{may_execute, wires_to}
use Rattle.lane_model.specs.Nodes.{LaneWork, as_node, processors, node_of, lane_of}
use Rattle.lane_model.specs.Turns.{LaneTurn, word_turn, take_turn}
use Rattle.lane_model.specs.Core.{LaneCore, LaneEvent, Exec, Take, May, may_take_first, standing_of, opening_core, with_turn, with_list, take_first, event_step, IsLaneRun, after, printed_at, printed_by}
use Rattle.smp_sim.specs.CoreParts.{AreAlike, CoreParts, IsRunTo, core_of, work_of}

pub placed : (w : LaneWork) (p : ℕ) → 0 < w.lanes → p < processors w
    → node_of w p < w.work.layout.nodes
placed w p some low = (div-lt_iff_lt-mul some).1 low

pub lane_low : (w : LaneWork) (p : ℕ) → 0 < w.lanes → lane_of w p < w.lanes
lane_low w p some = mod-lt p some

-- there are no more nodes than processors
pub few_nodes : (n m : ℕ) → 1 ≤ m → n * m ≤ 16 → n ≤ 16
few_nodes n m some few =
    let a = mul-le n 1 n m (omega arith) some in
    omega (arith, a, few)

-- 1. Alike

pub alike_same : (n : ℕ) (c : LaneCore) → AreAlike n c c
alike_same n c = record { nodes = λ i bi. refl; lists = λ j i bj bi. refl }

pub alike_also : (n : ℕ) (a b c : LaneCore) → AreAlike n a b → AreAlike n b c → AreAlike n a c
alike_also n a b c p q = record {
  nodes = λ i bi. p.nodes i bi ∙ q.nodes i bi;
  lists = λ j i bj bi. p.lists j i bj bi ∙ q.lists j i bj bi;
}

pub alike_back : (n : ℕ) (c d : LaneCore) → AreAlike n c d → AreAlike n d c
alike_back n c d a = record {
  nodes = λ i bi. sym (a.nodes i bi);
  lists = λ j i bj bi. sym (a.lists j i bj bi);
}

turn_alike : (n i : ℕ) (c d : LaneCore) (t u : LaneTurn) → t ≡ u → AreAlike n c d
    → AreAlike n (with_turn c i t) (with_turn d i u)
turn_alike n i c d t u e a = record {
  nodes = λ k bk. ap (λ (z : LaneTurn). cond (eqb k i) z.node (c.nodes k)) e
      ∙ ap (λ z. cond (eqb k i) u.node z) (a.nodes k bk);
  lists = λ j k bj bk.
      ap (λ (z : LaneTurn). cond (eqb j i)
      (c.list j k ++ wires_to z.node.shared.stamp k z.sends) (c.list j k)) e
      ∙ ap (λ z. cond (eqb j i) (z ++ wires_to u.node.shared.stamp k u.sends) z)
      (a.lists j k bj bk);
}

list_alike : (n j i : ℕ) (c d : LaneCore) (rest : List Wire) → AreAlike n c d
    → AreAlike n (with_list c j i rest) (with_list d j i rest)
list_alike n j i c d rest a = record {
  nodes = a.nodes;
  lists = λ x y bx by. ap (λ z. cond (eqb x j && eqb y i) rest z) (a.lists x y bx by);
}

first_alike : (w : LaneWork) (n i j : ℕ) (c d : LaneCore) (ws : List Wire) → i < n
    → AreAlike n c d → AreAlike n (take_first w c i j ws) (take_first w d i j ws)
first_alike w n i j c d [] bi a = a
first_alike w n i j c d (x ∷ rest) bi a =
    turn_alike n i (with_list c j i rest) (with_list d j i rest) _ _
    (ap (λ z. take_turn w z j x) (a.nodes i bi)) (list_alike n j i c d rest a)

pub event_alike : (w : LaneWork) (c d : LaneCore) (e : LaneEvent) → 0 < w.lanes → May w c e
    → AreAlike w.work.layout.nodes c d
    → AreAlike w.work.layout.nodes (event_step w c e) (event_step w d e)
event_alike w c d (Exec p) some may a =
    turn_alike w.work.layout.nodes (node_of w p) c d _ _
    (ap (λ z. word_turn w z (lane_of w p)) (a.nodes (node_of w p) (placed w p some may.0))) a
event_alike w c d (Take i j) some may a =
    subst (λ ws. AreAlike w.work.layout.nodes (event_step w c (Take i j)) (take_first w d i j ws))
    (a.lists j i may.1 may.0) (first_alike w w.work.layout.nodes i j c d (c.list j i) may.0 a)

pub may_alike : (w : LaneWork) (c d : LaneCore) (e : LaneEvent) → 0 < w.lanes
    → AreAlike w.work.layout.nodes c d → May w c e → May w d e
may_alike w c d (Exec p) some a may = (
  may.0,
  subst (λ z. may_execute (standing_of w z (lane_of w p)) ≡ true)
      (a.nodes (node_of w p) (placed w p some may.0)) may.1,
)
may_alike w c d (Take i j) some a may = (
  may.0,
  may.1,
  subst (λ z. z ≢ []) (a.lists j i may.1 may.0) may.2,
  subst (λ z. may_take_first w z (d.list j i) ≡ true) (a.nodes i may.0)
      (subst (λ z. may_take_first w (c.nodes i) z ≡ true) (a.lists j i may.1 may.0) may.3),
)

pub printed_alike : (w : LaneWork) (c d : LaneCore) (e : LaneEvent) → 0 < w.lanes → May w c e
    → AreAlike w.work.layout.nodes c d → printed_at w c e ≡ printed_at w d e
printed_alike w c d (Exec p) some may a =
    ap (λ z. option_to_list (word_outcome w.work (as_node z (lane_of w p))).printed)
    (a.nodes (node_of w p) (placed w p some may.0))
printed_alike w c d (Take i j) some may a = refl

-- 2. One event behind others

pub run_append : (w : LaneWork) (c : LaneCore) (es fs : List LaneEvent) → IsLaneRun w c es
    → IsLaneRun w (after w c es) fs → IsLaneRun w c (es ++ fs)
run_append w c [] fs run more = more
run_append w c (e ∷ es) fs run more = (run.0, run_append w (event_step w c e) es fs run.1 more)

pub after_append : (w : LaneWork) (c : LaneCore) (es fs : List LaneEvent)
    → after w c (es ++ fs) ≡ after w (after w c es) fs
after_append w c [] fs = refl
after_append w c (e ∷ es) fs = after_append w (event_step w c e) es fs

pub printed_append : (w : LaneWork) (c : LaneCore) (es fs : List LaneEvent)
    → printed_by w c (es ++ fs) ≡ printed_by w c es ++ printed_by w (after w c es) fs
printed_append w c [] fs = refl
printed_append w c (e ∷ es) fs =
    ap (λ z. printed_at w c e ++ z) (printed_append w (event_step w c e) es fs)
    ∙ sym (append_assoc (printed_at w c e) _ _)
  where
    append_assoc : (xs ys zs : List ℕ) → (xs ++ ys) ++ zs ≡ xs ++ (ys ++ zs)
    append_assoc [] ys zs = refl
    append_assoc (x ∷ xs) ys zs = ap (λ z. x ∷ z) (append_assoc xs ys zs)

append_none : (xs : List ℕ) → xs ++ [] ≡ xs
append_none [] = refl
append_none (x ∷ xs) = ap (λ z. x ∷ z) (append_none xs)

pub run_then : (p q : CoreParts) (run : List LaneEvent) (e : LaneEvent) → 0 < p.lanes
    → work_of q ≡ work_of p → May (work_of p) (core_of p) e
    → AreAlike p.layout.nodes (core_of q) (event_step (work_of p) (core_of p) e)
    → q.output ≡ p.output ++ printed_at (work_of p) (core_of p) e
    → IsRunTo run p → IsRunTo (run ++ e ∷ []) q
run_then p q run e some same may event output to =
    let w = work_of p in
    let n = p.layout.nodes in
    let o = opening_core w in
    let last = after w o run in
    let there = may_alike w (core_of p) last e some to.leads may in
    let leads : AreAlike n (core_of q) (after w o (run ++ e ∷ [])) =
    subst (AreAlike n (core_of q)) (sym (after_append w o run (e ∷ [])))
    (alike_also n (core_of q) (event_step w (core_of p) e) (event_step w last e) event
    (event_alike w (core_of p) last e some may to.leads)) in
    let printed : q.output ≡ printed_by w o (run ++ e ∷ []) = output
    ∙ ap₂ (λ xs ys. xs ++ ys) to.output (printed_alike w (core_of p) last e some may to.leads
    ∙ sym (append_none (printed_at w last e))) ∙ sym (printed_append w o run (e ∷ [])) in
    record {
      is_run = subst (λ (v : LaneWork). IsLaneRun v (opening_core v) (run ++ e ∷ [])) (sym same)
          (run_append w o run (e ∷ []) to.is_run (there, tt));
      leads = subst (λ (v : LaneWork). AreAlike v.work.layout.nodes (core_of q)
          (after v (opening_core v) (run ++ e ∷ []))) (sym same) leads;
      output = subst (λ (v : LaneWork). q.output ≡ printed_by v (opening_core v) (run ++ e ∷ []))
          (sym same) printed;
    }
