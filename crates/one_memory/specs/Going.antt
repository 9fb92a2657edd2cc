-- Helps the code alone: words of a region that a processor executes one after the other.
use Rattle.std.specs.Prelude.{◌≡◌, ℕ, ◌+◌, ◌-◌, ◌%◌, ◌^◌, ◌≤◌, List, Some, length, slice_get}
use Rattle.micro_op.specs.declared.micro_op.MicroOp.{MicroOp}
use Rattle.one_memory.specs.declared.processor.OriginalState.{OriginalState}
use Rattle.one_memory.specs.declared.processor.StepTarget.TheVariants.{To}
use Rattle.one_memory.specs.Machine.{AreOps, MemoryParts, Steps, at_index}
use Rattle.one_memory.specs.Turns.{Turns}

-- the index of a region's first word, and how many words it has
pub record Extent : Type 0 where
  pub first : ℕ
  pub count : ℕ

-- the place of the next word in a region, and how many more words there may be
pub record GoingParts : Type 0 where
  pub extent : Extent
  pub at : ℕ
  pub left : ℕ

-- the index of the next word
abbrev pub place_of : GoingParts → ℕ
place_of g = (g.extent.first + g.at) % 2 ^ 32

-- where a processor begins, in a region of these micro-ops
pub record Start : Type 0 where
  pub ops : List MicroOp
  pub memory : MemoryParts
  pub body : OriginalState
  pub going : GoingParts

-- nothing has changed since it began
pub record Stays (s : Start) (m : MemoryParts) (b : OriginalState) (g : GoingParts) : Type 0 where
  pub place : place_of g ≡ place_of s.going
  pub memory : m ≡ s.memory
  pub body : b ≡ s.body

-- processor p has executed the words that are no longer left
pub record HasGone (p : ℕ) (s : Start) (m : MemoryParts) (b : OriginalState) (g : GoingParts) : Type 0 where
  pub ops : AreOps m.program g.extent.first s.ops
  pub count : g.extent.count ≡ length s.ops
  pub few : g.left ≤ s.going.left
  pub turns : Turns p (s.going.left - g.left)
      s.memory (at_index (place_of s.going) s.body) m (at_index (place_of g) b)
  pub none : g.left ≡ s.going.left → Stays s m b g
  pub one : g.left + 1 ≡ s.going.left
      → Steps p (place_of s.going) s.memory s.body m b (To (place_of g))
  pub program : m.program ≡ s.memory.program
  pub layout : m.layout ≡ s.memory.layout

-- the next word, which has this micro-op, is executed, or nothing changes
abbrev pub Goes : ℕ → MicroOp → MemoryParts → OriginalState → GoingParts → MemoryParts
    → OriginalState → GoingParts → Type 0
Goes p op m b g m' b' g' =
    (s : Start) → slice_get s.ops g.at ≡ Some op → HasGone p s m b g → HasGone p s m' b' g'
