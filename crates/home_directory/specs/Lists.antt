-- Helps the code alone: the requests that wait, in lists through one array of places.
use Rattle.std.specs.Prelude.{◌≡◌, ◌≢◌, ℕ, zero, suc, ◌+◌, ◌-◌, ◌<◌, ◌≤◌, ⊤, false, List, [], ◌∷◌, ◌++◌, length, slice_index_or, Option, None, Some}
use Rattle.home_directory.specs.declared.directory.Request.{Request}
use Rattle.home_directory.specs.declared.request_lists.Slot.{Slot}
use Rattle.home_directory.specs.declared.request_lists.ListEnds.{ListEnds}
use Rattle.home_directory.specs.declared.request_lists.BlockList.{BlockList}
use Rattle.home_directory.specs.Home.{waits}
use Rattle.home_directory.specs.Effects.{requests_for, members}

-- for how many blocks there is a list, and the requests, where those for one block stand in order
-- of arrival
pub record Requests : Type 0 where
  pub blocks : ℕ
  pub requests : List Request

abbrev pub place_at : List Slot → ℕ → Slot
place_at ps i = slice_index_or ps i (record { request = None; next = None })

abbrev pub request_at : List Slot → ℕ → Option Request
request_at ps i = (place_at ps i).request

abbrev pub next_at : List Slot → ℕ → Option ℕ
next_at ps i = (place_at ps i).next

abbrev pub list_at : List BlockList → ℕ → BlockList
list_at ls b = slice_index_or ls b (record { ends = None; asked = [] })

abbrev pub first_of : Option ListEnds → Option ℕ
first_of None = None
first_of (Some e) = Some e.first

abbrev pub with_first : Option Request → List Request → List Request
with_first None qs = []
with_first (Some q) qs = q ∷ qs

-- the requests of the list that begins at a place, at most n
abbrev pub walk : List Slot → ℕ → Option ℕ → List Request
walk ps zero at = []
walk ps (suc n) None = []
walk ps (suc n) (Some i) = with_first (request_at ps i) (walk ps n (next_at ps i))

abbrev pub requests_in : List Slot → BlockList → List Request
requests_in ps l = walk ps 32 (first_of l.ends)

-- all requests that wait, list by list
abbrev pub all_of : List Slot → List BlockList → List Request
all_of ps [] = []
all_of ps (l ∷ ls) = requests_in ps l ++ all_of ps ls

-- the list from place i to place l has the requests q, qs
abbrev pub Path : List Slot → (i l : ℕ) → Request → List Request → Type 0
Path ps i l q [] = (request_at ps i ≡ Some q) × (i ≡ l) × (next_at ps i ≡ None)
Path ps i l q (r ∷ qs) =
    (request_at ps i ≡ Some q) × (j : ℕ) × (next_at ps i ≡ Some j) × Path ps j l r qs

abbrev pub Runs : List Slot → Option ListEnds → List Request → Type 0
Runs ps ends [] = ends ≡ None
Runs ps ends (q ∷ qs) = (e : ListEnds) × (ends ≡ Some e) × Path ps e.first e.last q qs

-- the list of empty places that begins there has n of them
abbrev pub AreEmpty : List Slot → Option ℕ → ℕ → Type 0
AreEmpty ps at zero = at ≡ None
AreEmpty ps at (suc n) = (i : ℕ) × (at ≡ Some i) × (i < length ps) × (request_at ps i ≡ None)
    × AreEmpty ps (next_at ps i) n

abbrev pub Each : (Request → Type 0) → List Request → Type 0
Each P [] = ⊤
Each P (q ∷ qs) = P q × Each P qs

-- no node has two of the requests
abbrev pub AreOnce : List Request → Type 0
AreOnce [] = ⊤
AreOnce (q ∷ qs) = (waits qs q.from ≡ false) × AreOnce qs

abbrev pub IsOf : ℕ → Request → Type 0
IsOf b q = (q.block ≡ b) × (q.from < 16)

-- the list of block b has these requests
pub record Stands (ps : List Slot) (b : ℕ) (l : BlockList) (qs : List Request) : Type 0 where
  pub runs : Runs ps l.ends qs
  pub own : Each (IsOf b) qs
  pub once : AreOnce qs
  pub nodes : length l.asked ≡ 16
  pub asked : (r : ℕ) → members l.asked r ≡ waits qs r

-- each block's list has its requests, and the others of the 32 places are empty; n requests wait
pub record IsKept (ps : List Slot) (ls : List BlockList) (free : Option ℕ) (n : ℕ) : Type 0 where
  pub places : length ps ≡ 32
  pub lists : (b : ℕ) → b < length ls → Stands ps b (list_at ls b) (requests_in ps (list_at ls b))
  pub empty : AreEmpty ps free (32 - n)
  pub few : n ≤ 32
  pub all : length (all_of ps ls) ≡ n

-- one list of requests is another with q behind those for its block
pub record HasJoined (old new : List Request) (q : Request) : Type 0 where
  pub own : requests_for q.block new ≡ requests_for q.block old ++ q ∷ []
  pub others : (d : ℕ) → d ≢ q.block → requests_for d new ≡ requests_for d old
  pub len : length new ≡ length old + 1

-- one list of requests is another without the first for block b, which is given, if there is one
abbrev pub IsFirstTaken : ℕ → (old new : List Request) → Option Request → Type 0
IsFirstTaken b old new None = (requests_for b old ≡ []) × (new ≡ old)
IsFirstTaken b old new (Some q) =
    (requests_for b old ≡ q ∷ requests_for b new)
    × ((d : ℕ) → d ≢ b → requests_for d new ≡ requests_for d old)
    × (length old ≡ length new + 1)
