-- A word of a processor by its micro-op, at the core.
use Rattle.std.proofs.Common.{◌≡◌, ℕ, ◌+◌, ◌<◌, Bool, true, false, List, [], ◌∷◌, ◌++◌, get_or, length, None, set, refl, sym, ap, ◌∙◌, subst, arith}
use Rattle.std.proofs.lemmas.List.{append-nil}
use Rattle.lane_model.specs.node_model.Node.{can_execute}
use Rattle.lane_model.specs.Nodes.{LanePart, LaneWork, lane_of, node_of, opening_node}
use Rattle.lane_model.specs.Turns.{LaneTurn, word_turn}
use Rattle.lane_model.specs.Core.{Exec, LaneEvent, May, event_step}
use Rattle.lane_machine.specs.declared.stored.StoredLane.{StoredLane}
use Rattle.lane_machine.specs.Stored.{lane_turn}
use Rattle.lane_machine.specs.declared.node.SmpNode.{SmpNode}
use Rattle.lane_machine.specs.SmpNodes.{IsNode, node_in}
use Rattle.smp_sim.specs.CoreParts.{AreAlike, AreStored, CoreParts, IsCore, IsRunTo, core_of, work_of}
use Rattle.lane_machine.specs.SmpNodes.{CanExecute}
use Rattle.smp_sim.specs.CoreSteps.{HaveKept, HaveMade, IsSilent}
use Rattle.lane_machine.proofs.NodeLemmas.{by_answer, part_at}
use Rattle.smp_sim.proofs.CoreRuns.{lane_low, placed, run_then}
use Rattle.smp_sim.proofs.CoreSteps.{core_same, executed, no_posts, node_at, read_at, set_same, stored_then}
use Rattle.smp_sim.proofs.Promised.{is_kept, is_made}

a_lane : (ls : List StoredLane) (k : ℕ) → k < length ls → StoredLane
a_lane [] k low = absurd (omega (arith, low))
a_lane (l ∷ ls) k low = l

module _ (p : CoreParts) (r : ℕ) (x y : SmpNode) (b : Bool) (inv : IsCore p)
    (may : May (work_of p) (core_of p) (Exec r))
    (at : x ≡ get_or p.nodes (node_of (work_of p) r) x)
    (node : (w : LaneWork) → IsNode w x → IsNode w y)
    (turn : b ≡ true → (w : LaneWork) (i : ℕ) → IsNode w x
    → word_turn w (node_in w i x) (lane_of (work_of p) r) ≡ lane_turn (node_in w i y) [] None)
    (able : b ≡ true → CanExecute y (lane_of (work_of p) r))
    (stamps : b ≡ true → y.shared.state.stamp ≡ x.shared.state.stamp + 1)
    (same : b ≡ false → (w : LaneWork) (i : ℕ) → node_in w i y ≡ node_in w i x) where
  abbrev w : LaneWork
  w = work_of p

  abbrev i : ℕ
  i = node_of w r

  abbrev k : ℕ
  k = lane_of w r

  abbrev ns : List SmpNode
  ns = set p.nodes i y

  abbrev pub parts_then : CoreParts
  parts_then = record p { nodes = ns }

  bi : i < p.layout.nodes
  bi = placed w r inv.work.some may.0

  below : i < length p.nodes
  below = subst (λ z. i < z) (sym inv.stored.count) bi

  is : IsNode w x
  is = node_at w p.nodes i x inv.stored.each below at

  there : (core_of p).nodes i ≡ node_in w i x
  there = read_at (node_in w i) p.nodes i x (opening_node w i) below at

  stored : AreStored w ns p.lists
  stored = stored_then w p.nodes p.lists p.lists i y inv.stored below (node w is) inv.stored.queues

  made : b ≡ true → HaveMade w p.nodes ns p.lists p.lists p.output p.output (Exec r)
  made served = executed w r p.nodes p.nodes p.lists p.lists p.lists p.output p.output p.output x y
      y.shared.state.stamp [] None below at refl
      (no_posts p.lists p.layout.nodes i y.shared.state.stamp) (turn served w i is) refl (stamps served) bi
      refl (sym (append-nil p.output))

  kept : b ≡ false → HaveKept w p.nodes ns p.lists p.lists p.output p.output
  kept unserved = record {
    core = core_same w p.nodes ns p.lists p.lists
        (λ j. set_same (node_in w j) p.nodes i x y below at (same unserved w j)) (λ j m bj bm. refl);
    output = refl;
  }

  pub core_then : IsCore parts_then
  core_then = by_answer b
      (λ served. is_made p ns p.lists p.output (Exec r) inv may stored (made served))
      (λ unserved. is_kept p ns p.lists p.output inv stored (kept unserved))

  pub silent_then : b ≡ true → IsSilent w (core_of p) r
  silent_then served =
      let t : word_turn w ((core_of p).nodes i) k ≡ lane_turn (node_in w i y) [] None =
      ap (λ z. word_turn w z k) there ∙ turn served w i is in
      let low : k < length y.lanes.items = subst (λ z. k < z) (sym (node w is).lanes.count) (lane_low w r inv.work.some) in
      let d = a_lane y.lanes.items k low in
      record {
        sends = ap (λ (z : LaneTurn). z.sends) t;
        may = ap (λ (z : LaneTurn). can_execute (z.node.lanes k).phase) t
            ∙ ap (λ (z : LanePart). can_execute z.phase) (part_at w i y k d low) ∙ able served d;
      }

  pub event_then : b ≡ true
      → AreAlike p.layout.nodes (core_of parts_then) (event_step w (core_of p) (Exec r))
  event_then served = (made served).event

  pub run_on : b ≡ true → (run : List LaneEvent) → IsRunTo run p → IsRunTo (run ++ Exec r ∷ []) parts_then
  run_on served run to = run_then p parts_then run (Exec r) inv.work.some refl may (made served).event (made served).output to

  pub core_kept : b ≡ false → core_of parts_then ≡ core_of p
  core_kept unserved = (kept unserved).core
