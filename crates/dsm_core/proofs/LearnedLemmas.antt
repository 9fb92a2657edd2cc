-- What a loop learns of words of every node, one node after another.
use Rattle.std.proofs.Common.{◌≡◌, ℕ, zero, suc, ◌+◌, ◌<◌, List, length, get_or, refl, sym, ap, ◌∙◌, subst, arith}
use Rattle.std.proofs.lemmas.List.{get_or-map}
use Rattle.node_machine.specs.jump_map.Image.{Cell}
use Rattle.run_order.specs.node_model.Node.{Node, Work, opening_node}
use Rattle.run_order.specs.node_model.Core.{Core}
use Rattle.node_machine.specs.declared.node_state.NodeState.{NodeState}
use Rattle.node_machine.specs.NodeState.{node_of, work_of as work_at}
use Rattle.dsm_core.specs.CoreParts.{HaveWork, core_with}
use Rattle.dsm_core.specs.CoreSteps.{HaveImage, HaveLearnedBelow, node_or}
use Rattle.dsm_core.specs.CoreWords.{LearnsBelow}
use Rattle.dsm_core.specs.UndoLogs.{AreSameFrom}
use Rattle.dsm_core.proofs.UndoLogLemmas.{read_here}

node_there : (ns : List NodeState) (i : ℕ) (d : Node) (x : NodeState) → i < length ns → get_or ns i x ≡ x → node_of x ≡ node_or ns i d
node_there ns i d x below is = ap node_of (sym is) ∙ sym (get_or-map node_of ns i x d below)

work_there : (work : Work) (ns : List NodeState) (i : ℕ) (x : NodeState) → i < length ns → HaveWork work ns → get_or ns i x ≡ x → work_at x ≡ work
work_there work ns i x below have is = ap work_at (sym is) ∙ sym (get_or-map work_at ns i x work below) ∙ have i

-- what holds of the nodes' image holds of a node's
pub image_there : (holds : List Cell → Type 0) (i : ℕ) (ns now : List NodeState) (x : NodeState) → i < length ns → AreSameFrom i ns now
    → x ≡ get_or now i x → HaveImage ns holds → holds (work_at x).image
image_there holds i ns now x below same is have =
    subst (λ (w : Work). holds w.image) (sym (work_there have.work ns i x below have.runs (read_here i ns now x same is))) have.image

next_below : {L : Type 0} (learns : Work → ℕ → Node → L → L → Type 0) (work : Work) (words : ℕ → ℕ) (i j : ℕ) (c : Core) (l h m : L)
    → j ≡ i + 1 → LearnsBelow learns work words i c l h → learns work (words i) (c.nodes i) h m → LearnsBelow learns work words j c l m
next_below learns work words i zero c l h m next before last = absurd (omega (arith, next))
next_below learns work words i (suc j) c l h m next before last =
    let same : i ≡ j = omega (arith, next) in (
      h,
      subst (λ (k : ℕ). LearnsBelow learns work words k c l h) same before,
      subst (λ (k : ℕ). learns work (words k) (c.nodes k) h m) same last,
    )

-- one node's words more
pub learned_more : {L : Type 0} (learns : Work → ℕ → Node → L → L → Type 0) (words : ℕ → ℕ) (i made : ℕ) (ns now : List NodeState)
    (x : NodeState) (l h m : L) → i < length ns → AreSameFrom i ns now → x ≡ get_or now i x → made ≡ words i
    → learns (work_at x) made (node_of x) h m → HaveLearnedBelow learns words i ns l h → HaveLearnedBelow learns words (i + 1) ns l m
learned_more learns words i made ns now x l h m below same is count one before = λ work lists have.
    let first = read_here i ns now x same is in
    let last : learns work (words i) (node_or ns i (opening_node work i)) h m =
    subst (λ (n : Node). learns work (words i) n h m) (node_there ns i (opening_node work i) x below first)
    (subst (λ (w : Work). learns w (words i) (node_of x) h m) (work_there work ns i x below have first)
    (subst (λ (k : ℕ). learns (work_at x) k (node_of x) h m) count one)) in
    next_below learns work words i (i + 1) (core_with work ns lists) l h m refl (before work lists have) last
