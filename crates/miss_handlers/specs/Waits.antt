-- What contracts see of a node's waits.
use Rattle.std.specs.Prelude.{◌≡◌, ℕ, ◌*◌, ◌<◌, ◌≤◌, if◌then◌else◌, ◌==◌, List, [], ◌∷◌, length, Option, Some, None}
use Rattle.block_layout.specs.Layout.{Shape, blocks, lines}
use Rattle.home_directory.specs.declared.wait.Wait.{Wait}
use Rattle.home_directory.specs.declared.wait.Answer.{Answer}
use Rattle.home_directory.specs.declared.wait.Answer.TheVariants.{ByData, ByGrant}
use Rattle.miss_handlers.specs.declared.Waiting.{Waiting}

-- the layout, and the waits with their blocks
pub record NodeWaits : Type 0 where
  pub layout : Shape
  pub waits : List Waiting

-- the wait for a block, or none
abbrev pub wait_in : List Waiting → ℕ → Option Wait
wait_in [] b = None
wait_in (w ∷ ws) b = if b == w.block then Some w.wait else wait_in ws b

abbrev pub wait_of : NodeWaits → ℕ → Option Wait
wait_of w = wait_in w.waits

-- an answer's buffer has room for any block, and Data holds the bytes of the block
abbrev pub IsAnswerFor : Shape → ℕ → Option Answer → Type 0
IsAnswerFor layout b None = Unit {0}
IsAnswerFor layout b (Some (ByData k buf)) =
    (4096 ≤ buf.room) × (length buf.bytes ≡ 64 * lines layout b)
IsAnswerFor layout b (Some (ByGrant k buf)) = 4096 ≤ buf.room

pub record IsWaitFor (layout : Shape) (b : ℕ) (w : Wait) : Type 0 where
  pub block : b < blocks layout
  pub answer : IsAnswerFor layout b w.answer
  pub counted : w.counted ≤ 16

-- each block has at most one wait
abbrev pub AreWaits : Shape → List Waiting → Type 0
AreWaits layout [] = Unit {0}
AreWaits layout (w ∷ ws) =
    IsWaitFor layout w.block w.wait × (wait_in ws w.block ≡ None) × AreWaits layout ws
