-- A receiver as it is seen, and what it delivers.
use Rattle.std.specs.Prelude.{◌≡◌, ℕ, ◌+◌, ◌-◌, ◌^◌, ◌<◌, ◌≤◌, Option, Some, None, List, [], ◌∷◌, ◌++◌, length, drop, get_or, replicate}
use Rattle.lossy_link.specs.Sender.{IsWindow}

-- a receiver: the number of its next item, and what is held of the items of its window, of which
-- that is the first
pub record Receiving (A : Type 0) : Type 0 where
  pub next : ℕ
  pub places : List (Option A)

module _ {A : Type 0} where
  -- a receiver that holds nothing
  abbrev pub new_receiver : ℕ → Receiving A
  new_receiver window = record { next = 0; places = replicate window None }

  -- what is held of the item of a number, which isn't below the next one
  abbrev pub held : Receiving A → ℕ → Option A
  held r number = get_or r.places (number - r.next) None

  -- an item of this number is one that the receiver takes: it may still come, it is in the window,
  -- and it isn't held
  pub record IsWanted (r : Receiving A) (number : ℕ) : Type 0 where
    pub counted : number < 2 ^ 63
    pub ahead : r.next ≤ number
    pub within : number < r.next + length r.places
    pub new : held r number ≡ None

  -- the next item is delivered, so the window moves on by one
  pub record Delivers (r : Receiving A) (item : A) (after : Receiving A) : Type 0 where
    pub next_held : held r r.next ≡ Some item
    pub moves_on : after
        ≡ record { next = r.next + 1; places = drop 1 r.places ++ None ∷ [] }

  -- The window is one, and the numbers of the items held are below 2 ^ 63.
  pub record IsSound (next : ℕ) (places : List (Option A)) : Type 0 where
    pub window : IsWindow (length places)
    pub counted : (k : ℕ) (item : A) → get_or places k None ≡ Some item → next + k < 2 ^ 63
