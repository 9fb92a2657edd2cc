-- The steps that a node commits between two polls: moments at which it may take messages, since it
-- stands before a poll or a call, waits or has ended.
use Rattle.std.specs.Prelude.{◌≡◌, ℕ, ◌+◌, ◌<◌, ◌≤◌, false, ◌==◌, ◌&&◌, if◌then◌else◌, List, [], ◌∷◌, ◌++◌, length}
use Rattle.std.specs.Option.{option_map_or}
use Rattle.templates.specs.declared.plans.PlanEntry.{PlanEntry}
use Rattle.dsm_protocol.specs.jump_map.Maps.{old_of}
use Rattle.dsm_protocol.specs.node_model.Node.{Work, ProcessorState, standing_of}
use Rattle.dsm_protocol.specs.node_model.Core.{Core, Event, Exec, Take, may_take, opening_core, event_step, after}
use Rattle.rewriting_law.specs.CoreRun.{commits}

-- the original address of a processor's next word: that of the word's place, or, at the word that
-- belongs to none, where the processor went
abbrev pub pc_at : Work → ProcessorState → ℕ
pc_at work l = option_map_or (λ p. p.address) (old_of work.image l.at) l.off

abbrev pub committed_at : Work → List PlanEntry → (i : ℕ) → Core → Event → List ℕ
committed_at work plan i c (Exec k) =
    if (k == i) && commits work plan (c.nodes k) then pc_at work (c.nodes k).lane ∷ [] else []
committed_at work plan i c (Take k j) = []

-- the original addresses of the words that node i commits, in order
abbrev pub committed : Work → List PlanEntry → (i : ℕ) → Core → List Event → List ℕ
committed work plan i c [] = []
committed work plan i c (e ∷ es) =
    committed_at work plan i c e ++ committed work plan i (event_step work c e) es

-- no poll of node i lies within these events: behind each but the last it may take no message
abbrev pub HasNoPollWithin : Work → (i : ℕ) → Core → List Event → Type 0
HasNoPollWithin work i c [] = Unit {0}
HasNoPollWithin work i c (e ∷ []) = Unit {0}
HasNoPollWithin work i c (e ∷ f ∷ es) =
    (may_take (standing_of work ((event_step work c e).nodes i)) ≡ false)
    × HasNoPollWithin work i (event_step work c e) (f ∷ es)

-- each is greater than the one before it
abbrev pub Ascend : List ℕ → Type 0
Ascend [] = Unit {0}
Ascend (x ∷ []) = Unit {0}
Ascend (x ∷ y ∷ ys) = (x < y) × Ascend (y ∷ ys)

-- each from the third on is greater than the one before it
abbrev pub AscendFromThird : List ℕ → Type 0
AscendFromThird [] = Unit {0}
AscendFromThird (x ∷ xs) = Ascend xs

-- so they are at most one more than the places, each of which has its entry in the plan
pub record AreFewAscending (plan : List PlanEntry) (addresses : List ℕ) : Type 0 where
  pub ascend : AscendFromThird addresses
  pub few : length addresses ≤ length plan + 1

-- so are the steps of node i within any events of the run without a poll of it
abbrev pub AscendsBetweenPolls : Work → List PlanEntry → List Event → (i : ℕ) → Type 0
AscendsBetweenPolls work plan events i =
    (first between rest : List Event) → events ≡ first ++ (between ++ rest)
    → HasNoPollWithin work i (after work (opening_core work) first) between
    → AreFewAscending plan
    (committed work plan i (after work (opening_core work) first) between)
