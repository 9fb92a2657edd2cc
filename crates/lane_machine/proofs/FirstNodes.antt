-- Nodes of several processors at the start.
use Rattle.std.proofs.Common.{◌≡◌, ℕ, zero, suc, ◌+◌, ◌<◌, true, false, cond, List, [], ◌∷◌, ◌++◌, map, length, get_or, None, is_some, refl, sym, ap, ◌∙◌, subst, inl, inr, arith}
use Rattle.std.proofs.Math.Path.{fun_ext}
use Rattle.std.proofs.lemmas.List.{get_or_past, get_or_push, get_or_append_left, length-map, length-append}
use Rattle.std.proofs.lemmas.Bool.Decides.{leb_tells}
use Rattle.exec_map.specs.Contents.{program_of}
use Rattle.home_directory.specs.Home.{count_of}
use Rattle.lane_model.specs.node_model.Turns.{is_ended}
use Rattle.node_machine.specs.NodeState.{layout_of}
use Rattle.lane_model.specs.Nodes.{LaneWork, LaneNode, LanePart, first_part, first_shared, opening_node, processor_of}
use Rattle.lane_model.specs.Turns.{has_ended}
use Rattle.lane_machine.specs.Waits.{awaits_of}
use Rattle.lane_machine.specs.declared.stored.StoredLane.{StoredLane}
use Rattle.lane_machine.specs.Places.{wait_at}
use Rattle.lane_machine.specs.Stored.{IsLaneOf, ended_in, part_of, shared_of}
use Rattle.lane_machine.specs.declared.node.SmpNode.{SmpNode}
use Rattle.lane_machine.specs.SmpNodes.{IsNode, node_in}
use Rattle.lane_machine.specs.SmpNodes.{AreFirstLanes}
use Rattle.lane_machine.proofs.NodeLemmas.{not_awaited, part_at}

-- 1. One element more

pub push_each : {X : Type 0} (P : ℕ → X → Type 0) (xs : List X) (x : X) (n : ℕ) → length xs ≡ n
    → ((i : ℕ) (d : X) → i < n → P i (get_or xs i d)) → P n x
    → (i : ℕ) (d : X) → i < n + 1 → P i (get_or (xs ++ x ∷ []) i d)
push_each P xs x n len each last i d low = elim (leb_tells (suc i) n) [
  | inl p ↦ (let a : i < length xs = (let z = p.1 in omega (arith, z, len)) in
      subst (P i) (sym (get_or_append_left xs (x ∷ []) d i a)) (each i d p.1))
  | inr p ↦ (let e : i ≡ n = (let z = p.1 in omega (arith, z, low)) in
      subst (P i) (sym (get_or_push xs x d i (len ∙ sym e))) (subst (λ z. P z x) (sym e) last))
]

pub first_lane : (w : LaneWork) (me : ℕ) (ls : List StoredLane) (l : StoredLane) (k : ℕ)
    → AreFirstLanes w me k ls → IsLaneOf w k l → part_of l ≡ first_part w (processor_of w me k)
    → AreFirstLanes w me (k + 1) (ls ++ l ∷ [])
first_lane w me ls l k first is part = record {
  count = length-append ls (l ∷ []) ∙ ap (λ z. z + 1) first.count;
  each = push_each (IsLaneOf w) ls l k first.count first.each is;
  parts = push_each (λ j z. part_of z ≡ first_part w (processor_of w me j)) ls l k first.count
      first.parts part;
}

-- 2. A node

none_ended : (y : LaneNode) (m : ℕ) → ((k : ℕ) → k < m → is_ended (y.lanes k).phase ≡ false)
    → 0 ≡ ended_in y m
none_ended y zero going = refl
none_ended y (suc m) going =
    none_ended y m (λ k low. going k (omega (arith, low)))
    ∙ ap (λ b. cond b (count_of (has_ended y) m + 1) (count_of (has_ended y) m))
    (sym (going m (omega arith)))

module _ (w : LaneWork) (me : ℕ) (x : SmpNode) (first : AreFirstLanes w me w.lanes x.lanes.items)
  where
    low_of : (k : ℕ) → k < length x.lanes.items → k < w.lanes
    low_of k low = subst (λ z. k < z) first.count low

    none_awaited : (k : ℕ) (d : StoredLane) → k < w.lanes
        → awaits_of (get_or x.lanes.items k d).awaits ≡ []
    none_awaited k d low = ap (λ (p : LanePart). p.awaits) (first.parts k d low)

    pub first_is : program_of x.shared.state.body.value.local.program ≡ w.work.program
        → layout_of x.shared.state.body.value ≡ w.work.layout → length x.shared.places.items ≡ w.lanes
        → ((k b : ℕ) → wait_at x.shared.places.items k b ≡ None) → x.shared.ended ≡ 0 → IsNode w x
    first_is program layout places none ended = record {
      lanes = record {
        count = first.count;
        places = places;
        program = program;
        layout = layout;
        each = λ k d low. first.each k d (low_of k low);
      };
      waits = λ k d low b some.
          absurd (let bad : false ≡ true = ap is_some (sym (none (get_or x.lanes.items k d).number b)) ∙ some in cc);
      held = λ k d low b awaited.
          absurd (not_awaited (get_or x.lanes.items k d) b (none_awaited k d (low_of k low)) awaited);
      ended = λ y parts. ended ∙ none_ended y w.lanes (λ k low.
          let below : k < length x.lanes.items = subst (λ z. k < z) (sym first.count) low in
          let d = a_lane x.lanes.items k below in
          ap (λ (p : LanePart). is_ended p.phase) (parts k d below ∙ first.parts k d low));
      idle = λ k d low may. none_awaited k d low;
    }
      where
        a_lane : (ls : List StoredLane) (k : ℕ) → k < length ls → StoredLane
        a_lane [] k low = absurd (omega (arith, low))
        a_lane (l ∷ ls) k low = l

    pub first_opens : shared_of x.shared ≡ first_shared w.work me
        → node_in w me x ≡ opening_node w me
    first_opens shared =
        let lane : (k : ℕ) → (node_in w me x).lanes k ≡ first_part w (processor_of w me k) =
        (λ k. elim (leb_tells (suc k) w.lanes) [
          | inl p ↦ (let below : k < length x.lanes.items = subst (λ z. k < z) (sym first.count) p.1 in
              let d = a_lane x.lanes.items k below in
              part_at w me x k d below ∙ first.parts k d p.1)
          | inr p ↦ get_or_past (map part_of x.lanes.items) k (first_part w (processor_of w me k))
              (let l = length-map x.lanes.items part_of in let f = first.count in let z = p.1 in
              omega (arith, l, f, z))
        ]) in
        λ t. record { lanes = fun_ext lane t; shared = shared t }
      where
        a_lane : (ls : List StoredLane) (k : ℕ) → k < length ls → StoredLane
        a_lane [] k low = absurd (omega (arith, low))
        a_lane (l ∷ ls) k low = l
