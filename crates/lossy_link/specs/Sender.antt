-- A sender as it is seen, and what becomes of it.
use Rattle.std.specs.Prelude.{◌≡◌, ℕ, ◌+◌, ◌-◌, ◌<◌, ◌≤◌, ◌⊎◌, List, [], ◌∷◌, ◌++◌, length, drop}

-- a window is a number of items: 1 to 64
abbrev pub IsWindow : ℕ → Type 0
IsWindow window = (1 ≤ window) × (window ≤ 64)

-- a sender: its window, how many of the items offered are acknowledged, and the items after them
pub record Sending (A : Type 0) : Type 0 where
  pub window : ℕ
  pub acknowledged : ℕ
  pub items : List A

module _ {A : Type 0} where
  -- a sender to which nothing was offered
  abbrev pub new_sender : ℕ → Sending A
  new_sender window = record { window = window; acknowledged = 0; items = [] }

  -- how many items were offered
  abbrev pub number_offered : Sending A → ℕ
  number_offered s = s.acknowledged + length s.items

  -- of the items that aren't acknowledged there is one after k others, within the window
  abbrev pub IsInWindow : Sending A → ℕ → Type 0
  IsInWindow s k = (k < s.window) × (k < length s.items)

  -- the item stands after the others
  abbrev pub Offers : Sending A → A → Sending A → Type 0
  Offers s item after = after ≡ record s { items = s.items ++ item ∷ [] }

  -- The items below this number are acknowledged. One that is no news, or that is above the number
  -- offered, changes nothing.
  pub record Acknowledges (s : Sending A) (next : ℕ) (after : Sending A) : Type 0 where
    pub counts : s.acknowledged < next → next ≤ number_offered s
        → after ≡ record s { acknowledged = next; items = drop (next - s.acknowledged) s.items }
    pub ignores : (next ≤ s.acknowledged) ⊎ (number_offered s < next) → after ≡ s
