-- Nodes at the start.
use Rattle.std.proofs.Common.{◌≡◌, ℕ, suc, ◌+◌, ◌<◌, List, [], ◌∷◌, ◌++◌, map, length, get_or, sym, ap, ◌∙◌, subst, inl, inr, arith}
use Rattle.std.proofs.lemmas.List.{get_or_past, get_or_push, get_or_append_left, map_push, length-map, length-append}
use Rattle.std.proofs.lemmas.Bool.Decides.{eqb_tells, leb_tells}
use Rattle.lane_model.specs.Nodes.{LaneWork, opening_node}
use Rattle.lane_machine.specs.declared.node.SmpNode.{SmpNode}
use Rattle.lane_machine.specs.SmpNodes.{IsNode, node_in}
use Rattle.smp_sim.specs.CoreSteps.{AreFirst}
use Rattle.lane_machine.proofs.FirstNodes.{push_each}

pub first_more : (w : LaneWork) (ns : List SmpNode) (x : SmpNode) (me : ℕ) → AreFirst w me ns
    → IsNode w x → node_in w me x ≡ opening_node w me → AreFirst w (me + 1) (ns ++ x ∷ [])
first_more w ns x me first is opens = record {
  count = length-append ns (x ∷ []) ∙ ap (λ z. z + 1) first.count;
  each = λ i d low. push_each (λ j z. IsNode w z) ns x me first.count
      (λ j e below. first.each j e (subst (λ z. j < z) (sym first.count) below)) is i d
      (subst (λ z. i < z) (length-append ns (x ∷ []) ∙ ap (λ z. z + 1) first.count) low);
  opening = λ i. ap (λ z. get_or z i (opening_node w i)) (map_push (node_in w i) ns x)
      ∙ (elim (leb_tells (suc i) me) [
        | inl p ↦ (let a : i < length (map (node_in w i) ns) =
            (let z = p.1 in let l = length-map ns (node_in w i) ∙ first.count in omega (arith, z, l)) in
            get_or_append_left (map (node_in w i) ns) (node_in w i x ∷ []) (opening_node w i) i a
            ∙ first.opening i)
        | inr p ↦ elim (eqb_tells i me) [
          | inl q ↦ get_or_push (map (node_in w i) ns) (node_in w i x) (opening_node w i) i
              (length-map ns (node_in w i) ∙ first.count ∙ sym q.1)
              ∙ ap (λ z. node_in w z x) q.1 ∙ opens ∙ ap (opening_node w) (sym q.1)
          | inr q ↦ get_or_past (map (node_in w i) ns ++ node_in w i x ∷ []) i (opening_node w i)
              (let l = length-append (map (node_in w i) ns) (node_in w i x ∷ []) in
              let m = length-map ns (node_in w i) in let f = first.count in
              let z = p.1 in let v = q.1 in omega (arith, l, m, f, z, v))
        ]
      ]);
}
