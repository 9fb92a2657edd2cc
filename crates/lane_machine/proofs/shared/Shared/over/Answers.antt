-- By how many lanes have ended, and the Byes taken.
use Rattle.std.proofs.Common.{◌≡◌, ◌≢◌, ◌↔◌, ℕ, ◌&&◌, ◌∙◌, true, false, ap, subst, sym, eqb, length, arith}
use Rattle.std.proofs.lemmas.Bool.Decides.{nat_tests}
use Rattle.block_layout.specs.Layout.{Shape}
use Rattle.home_directory.specs.Effects.{members}
use Rattle.home_directory.specs.Home.{count_of}
use Rattle.node_machine.specs.NodeState.{layout_of}
use Rattle.lane_model.specs.node_model.declared.Standing.TheVariants as standing
use Rattle.lane_machine.specs.declared.stored.StoredShared.{StoredShared}
use Rattle.lane_machine.specs.Stored.{shared_of}
use Rattle.lane_machine.proofs.StandingLemmas.{over_is, over_by}
use Rattle.lane_machine.proofs.shared.Shared.over.Goals as goal

same_test : (x y : ℕ) → x ≡ y → eqb x y ≡ true
same_test x y e = grind (arith, nat_tests)

apart_test : (x y : ℕ) → x ≢ y → eqb x y ≡ false
apart_test x y e = grind (arith, nat_tests)

pub returns-then-self-len : goal.returns-then-self-len
returns-then-self-len c = record {
  value = λ w x layout lanes shared ended.
      let f = c.self.inside.inner in
      let view = c.self.view_is in
      let nodes = (layout_of f.state.body.value).nodes in
      let over = over_is w x f (layout ∙ ap (λ (g : StoredShared). layout_of g.state.body.value) (sym view))
      (lanes ∙ ap (λ (g : StoredShared). length g.places.items) (sym view)) (shared ∙ ap shared_of (sym view))
      (ap (λ (g : StoredShared). g.ended) view ∙ ended) in
      let count = c.len.ensures ∙ f.places.ok.0 in
      let some : eqb f.ended (length f.places.items) ≡ false =
      ap (eqb f.ended) (sym count) ∙ apart_test f.ended c.len.result c.if-self-len.true in
      sym (over ∙ ap (λ t. t && eqb (count_of (members f.state.byes) nodes) nodes) some);
}

pub returns : goal.returns
returns c = record {
  value = λ w x layout lanes shared ended.
      let f = c.self.inside.inner in
      let view = c.self.view_is in
      let nodes = (layout_of f.state.body.value).nodes in
      let over = over_is w x f (layout ∙ ap (λ (g : StoredShared). layout_of g.state.body.value) (sym view))
      (lanes ∙ ap (λ (g : StoredShared). length g.places.items) (sym view)) (shared ∙ ap shared_of (sym view))
      (ap (λ (g : StoredShared). g.ended) view ∙ ended) in
      let count = c.len.ensures ∙ f.places.ok.0 in
      let all : eqb f.ended (length f.places.items) ≡ true =
      ap (eqb f.ended) (sym count) ∙ same_test f.ended c.len.result c.if-self-len.false in
      let many : c.nodes.result ≡ nodes = c.nodes.ensures.nodes ∙ ap (λ (s : Shape). s.nodes) c.self.invariant.layout in
      over_by (eqb (count_of (members f.state.byes) c.nodes.result) c.nodes.result) c.is_over.result
      (subst (λ s. (c.is_over.result ≡ true) ↔ (s ≡ standing.Over)) c.ended_standing.ensures
      c.is_over.ensures) ∙ (λ t. eqb (count_of (members f.state.byes) (many t)) (many t))
      ∙ sym (over ∙ ap (λ t. t && eqb (count_of (members f.state.byes) nodes) nodes) all);
}
