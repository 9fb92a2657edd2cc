-- Words that a undo_log takes back.
use Rattle.std.proofs.Common.{◌≡◌, ℕ, zero, suc, ◌+◌, ◌-◌, ◌<◌, ◌≤◌, true, refl, sym, subst, arith, add-zero}
use Rattle.node_words.specs.declared.exec_state.ExecState.{ExecState}
use Rattle.node_words.specs.GoingOn.{BodyGoesOn, BodyTells, node_on, phase_on}
use Rattle.node_words.specs.Runs.{GoesOnBy}
use Rattle.node_words.specs.node_model.Node.{Node, Work, Phase, Running, can_execute}
use Rattle.node_machine.specs.declared.node_state.NodeState.{NodeState}
use Rattle.node_machine.specs.declared.phase.Phase as kept
use Rattle.node_machine.specs.NodeState.{node_of, work_of, phase_of, IsNode, WaitsInPhase}
use Rattle.node_machine.proofs.NodeStateLemmas.{on_waits}

-- a node with another body, at another word, after so many words
abbrev pub passed_to : NodeState → ExecState → (at words : ℕ) → kept.Phase → Node
passed_to i b at words p = record (node_on (node_of i) b at words) { phase = phase_of p; counts = b.counts }

pub goes_on_noted : (i : NodeState) (b : ExecState) (at most words : ℕ) (p : kept.Phase)
    → BodyGoesOn i.lane.image.now most i.lane.at i.shared.body.value words at b
    → (1 ≤ words → (can_execute (phase_of i.lane.phase) ≡ true) × (i.lane.executed + most < i.lane.budget))
    → b.counts ≡ i.shared.body.value.counts → phase_of p ≡ phase_on (phase_of i.lane.phase) words
    → GoesOnBy (work_of i) words (node_of i) (passed_to i b at words p)
goes_on_noted i b at most zero p on may counts phase =
    let work : Work = record (work_of i) { budget = most + 1 } in
    let n : Node = record (node_of i) { phase = Running; executed = 0 } in
    let same : node_on n i.shared.body.value i.lane.at 0 ≡ node_on n b at 0 = on work n refl refl refl (omega arith) in
    λ t. record (node_of i) {
      lane = (same t).lane;
      local = (same t).local;
      executed = sym (add-zero i.lane.executed) t;
      stamp = sym (add-zero i.shared.stamp) t;
      phase = sym phase t;
      counts = sym counts t;
    }
goes_on_noted i b at most (suc k) p on may counts phase =
    let can = may (omega arith) in
    let goes = on (work_of i) (node_of i) refl refl can.0 can.1 in
    let start : node_on (node_of i) i.shared.body.value i.lane.at 0 ≡ node_of i = λ t. record (node_of i) {
      executed = add-zero i.lane.executed t;
      stamp = add-zero i.shared.stamp t;
    } in
    let end : node_on (node_of i) b at (suc k) ≡ passed_to i b at (suc k) p = λ t. record (node_on (node_of i) b at (suc k)) {
      phase = sym phase t;
      counts = sym counts t;
    } in
    subst (λ (x : Node). GoesOnBy (work_of i) (suc k) (node_of i) x) end
    (subst (λ (x : Node). GoesOnBy (work_of i) (suc k) x (node_on (node_of i) b at (suc k))) start goes)

-- what its words tell
pub tells_noted : (told : Work → ℕ → Node → Type 0) (i : NodeState) (most words : ℕ)
    → BodyTells told i.lane.image.now most i.lane.at i.shared.body.value words
    → (1 ≤ words → (can_execute (phase_of i.lane.phase) ≡ true) × (i.lane.executed + most < i.lane.budget))
    → told (work_of i) words (node_of i)
tells_noted told i most zero tells may = tells.none refl (work_of i) (node_of i)
tells_noted told i most (suc k) tells may =
    let can = may (omega arith) in
    let start : node_on (node_of i) i.shared.body.value i.lane.at 0 ≡ node_of i = λ t. record (node_of i) {
      executed = add-zero i.lane.executed t;
      stamp = add-zero i.shared.stamp t;
    } in
    subst (λ (x : Node). told (work_of i) (suc k) x) start (tells.some (work_of i) (node_of i) refl refl can.0 can.1)

-- a node that may execute has a word left
pub left_after : (i : NodeState) (words most : ℕ) → IsNode i → words ≤ most → most ≤ i.lane.budget - (i.lane.executed + 1)
    → can_execute (phase_on (phase_of i.lane.phase) words) ≡ true → i.lane.executed + words < i.lane.budget
left_after i zero most node few left may = let low = node.lane.going may in omega (arith, low)
left_after i (suc k) most node few left may = omega (arith, few, left)

pub noted_waits : (p : Phase) (words waits : ℕ) → (1 ≤ words → can_execute p ≡ true) → WaitsInPhase p waits → WaitsInPhase (phase_on p words) waits
noted_waits p zero waits may w = w
noted_waits p (suc k) waits may w = on_waits p (suc k) waits (may (omega arith)) w
