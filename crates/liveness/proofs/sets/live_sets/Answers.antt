use Rattle.std.proofs.Common.{◌≡◌, ◌<◌, ◌↔◌, ℕ, List, Bool, true, false, length, get_or, sym, ap, ◌∙◌, subst, arith, rules, bit_or}
use Rattle.std.proofs.Math.ListN.{set}
use Rattle.std.proofs.lemmas.Grind.{common_steps}
use Rattle.std.proofs.lemmas.List.{length-set}
use Rattle.std.proofs.lemmas.Option.{slice_get-get_or, slice_get_within}
use Rattle.rv32_decode.specs.Registers.{IsMember}
use Rattle.liveness.specs.declared.node.FlowNode.{FlowNode}
use Rattle.liveness.specs.Nodes.{Needs}
use Rattle.liveness.proofs.MarksLemmas.{flag_within, waiting-le, lacking-set, measure_less, waiting}
use Rattle.liveness.proofs.SetLemmas.{IsSound, IsClosed, sound_zero, closed_full, sound_set, closed_same, closed_set, complete, new_needs, blank}
use Rattle.liveness.proofs.sets.live_sets.Goals as goal

pub loop-i-init : goal.loop-i-init
loop-i-init c = record {
  sets = search rules;
  flags = c.in_ok-work.ensures.length;
  sound = sound_zero c.args.nodes.now c.in_ok-sets.sets.items (length c.args.nodes.now) (c.in_ok-sets.ensures.items_if_clones_equal (λ y e. e));
  closed = closed_full c.args.nodes.now c.in_ok-work.work.queued.items c.in_ok-sets.sets.items c.in_ok-work.ensures.each;
}

pub loop-i-smaller-in-Continue-branch-4 : goal.loop-i-smaller-in-Continue-branch-4
loop-i-smaller-in-Continue-branch-4 c =
    let inv = c.loop-i.invariant in
    let flag : c.in-Some.i < length c.loop-i.work.queued.items = flag_within c.loop-i.work.queued.items c.in-Some.i c.in-Some.ensures.some in
    let within : c.in-Some.i < length c.loop-i.sets.items = omega (arith, flag, inv.flags, inv.sets) in
    let old : c.index-old.result.now ≡ get_or c.loop-i.sets.items c.in-Some.i 0 = grind (arith, common_steps) in
    let less = lacking-set c.loop-i.sets.items c.in-Some.i c.index-old.result.now c.needed.result within old (omega (arith, c.index-old.type_inv)) (omega (arith, c.needed.type_inv)) c.if-new-old.true in
    let now : length c.mark.new.work.queued.items ≡ length c.args.nodes.now = grind (arith, common_steps) in
    let w = waiting-le c.mark.new.work.queued.items in
    measure_less _ _ (waiting c.mark.new.work.queued.items) (waiting c.loop-i.work.queued.items) (length c.args.nodes.now) less (omega (arith, w, now))

pub loop-i-preserved-in-Continue-branch-4 : goal.loop-i-preserved-in-Continue-branch-4
loop-i-preserved-in-Continue-branch-4 c =
    let inv = c.loop-i.invariant in
    let nodes : List FlowNode = c.args.nodes.now in
    let sets : List ℕ = c.loop-i.sets.items in
    let flags : List Bool = c.loop-i.work.queued.items in
    let i : ℕ = c.in-Some.i in
    let more : ℕ = c.needed.result in
    let flag : i < length flags = flag_within flags i c.in-Some.ensures.some in
    let within : i < length sets = omega (arith, flag, inv.flags, inv.sets) in
    let node : i < length nodes = omega (arith, flag, inv.flags) in
    let old : c.index-old.result.now ≡ get_or sets i 0 = grind (arith, common_steps) in
    let Sound : ℕ → Type 0 = λ x. IsSound nodes (set sets i (bit_or x more)) in
    let Flag : List Bool → ℕ → Type 0 = λ fs x. get_or fs x false ≡ true in
    let heads : i < length c.in_ok-back.back.heads.items = omega (arith, node, c.in_ok-back.ensures.heads) in
    let Meant : List ℕ → Type 0 = λ s. (r : ℕ) → r < 32 → (IsMember c.needed.result r ↔ Needs (get_or c.args.nodes.now c.in-Some.i blank) s r) in
    let needs : Meant c.loop-i.sets.items = subst Meant c.deref.ensures.value c.needed.ensures.value in
    record {
      sets = length-set sets i (bit_or c.index-old.result.now more) ∙ inv.sets;
      flags = c.in_ok-mark.ensures.length ∙ ap length c.in-Some.ensures.changed ∙ length-set flags i false ∙ inv.flags;
      sound = subst Sound (sym old) (sound_set nodes sets i (get_or nodes i blank) more inv.sound within (slice_get-get_or nodes i blank node) needs);
      closed = closed_set nodes flags c.mark.new.work.queued.items sets i (bit_or c.index-old.result.now more) inv.closed within
          (new_needs nodes sets i c.index-old.result.now more needs)
          (λ x h. let P : List Bool → Type 0 = λ fs. Flag fs x in c.in_ok-mark.ensures.kept x (subst P (sym c.in-Some.ensures.changed) h))
          (λ p n e next.
          let edge = c.in_ok-back.ensures.each p i n (slice_get_within nodes p n e) e next heads in
          let P : ℕ → Type 0 = λ x. Flag c.mark.new.work.queued.items x in
          subst P edge.1 (c.in_ok-mark.ensures.marked edge.0 edge.2));
    }

pub loop-i-preserved : goal.loop-i-preserved
loop-i-preserved c =
    let inv = c.loop-i.invariant in
    let nodes : List FlowNode = c.args.nodes.now in
    let sets : List ℕ = c.loop-i.sets.items in
    let flags : List Bool = c.loop-i.work.queued.items in
    let i : ℕ = c.in-Some.i in
    let more : ℕ = c.needed.result in
    let old : c.index-old.result.now ≡ get_or sets i 0 = grind (arith, common_steps) in
    let same : bit_or c.index-old.result.now more ≡ c.index-old.result.now = c.if-new-old.false in
    let Closed : List Bool → Type 0 = λ fs. IsClosed nodes fs sets in
    let Meant : List ℕ → Type 0 = λ s. (r : ℕ) → r < 32 → (IsMember c.needed.result r ↔ Needs (get_or c.args.nodes.now c.in-Some.i blank) s r) in
    let needs : Meant c.loop-i.sets.items = subst Meant c.deref.ensures.value c.needed.ensures.value in
    record {
      sets = inv.sets;
      flags = ap length c.in-Some.ensures.changed ∙ length-set flags i false ∙ inv.flags;
      sound = inv.sound;
      closed = subst Closed (sym c.in-Some.ensures.changed) (closed_same nodes flags sets i inv.closed
          (λ r n l e need. let P : ℕ → Type 0 = λ x. IsMember x r in
          subst P (same ∙ old) (new_needs nodes sets i c.index-old.result.now more needs r n l e need)));
    }

pub returns-clause-each : goal.returns-clause-each
returns-clause-each c i r l = (
  λ m. c.loop-i.invariant.sound i r l m,
  λ m. complete c.args.nodes.now c.loop-i.work.queued.items c.loop-i.sets.items c.loop-i.invariant.closed c.in_default.ensures.none r l i m,
)
