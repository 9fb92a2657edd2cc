-- Lists of what nodes made, sorted by (stamp, node).
use Rattle.std.specs.Prelude.{◌≡◌, ℕ, ◌<◌, ◌==◌, ◌⊎◌, List, [], ◌∷◌, filter}

module _ {A : Type 0} (stamp node : A → ℕ) where
  -- by stamp, and at one stamp by node
  abbrev pub Precedes : A → A → Type 0
  Precedes x y = (stamp x < stamp y) ⊎ ((stamp x ≡ stamp y) × (node x < node y))

  abbrev pub PrecedesAll : A → List A → Type 0
  PrecedesAll x [] = Unit {0}
  PrecedesAll x (y ∷ ys) = Precedes x y × PrecedesAll x ys

  abbrev pub AreSorted : List A → Type 0
  AreSorted [] = Unit {0}
  AreSorted (x ∷ xs) = PrecedesAll x xs × AreSorted xs

  abbrev pub AreMadeBelow : ℕ → List A → Type 0
  AreMadeBelow n [] = Unit {0}
  AreMadeBelow n (x ∷ xs) = (node x < n) × AreMadeBelow n xs

  -- what node i made
  abbrev pub made_by : ℕ → List A → List A
  made_by i xs = filter (λ x. node x == i) xs

  -- the lists of n nodes, merged into one that is sorted
  pub record AreSortedOf (n : ℕ) (lists : ℕ → List A) (xs : List A) : Type 0 where
    pub sorted : AreSorted xs
    pub below : AreMadeBelow n xs
    pub each : (i : ℕ) → i < n → made_by i xs ≡ lists i
