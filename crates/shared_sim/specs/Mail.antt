-- Helps the code alone: messages on their way.
use Rattle.std.specs.Prelude.{◌≡◌, ℕ, ◌<◌, []}
use Rattle.dsm_core.specs.node_model.Core.{Core}

-- no message is on its way to node i
abbrev pub HasNoMail : (n : ℕ) → Core → ℕ → Type 0
HasNoMail n c i = (j : ℕ) → j < n → c.list j i ≡ []
