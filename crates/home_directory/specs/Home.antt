-- What a home keeps of a block (Shasta, section 2: the directory of a block's home).
use Rattle.std.specs.Prelude.{ℕ, ◌+◌, ◌-◌, zero, suc, Bool, true, false, not, if◌then◌else◌, ◌==◌, ◌&&◌, ◌||◌, List, [], ◌∷◌, ◌++◌, Option, Some, None}
use Rattle.block_layout.specs.Update.{changed}
use Rattle.dsm_messages.specs.declared.messages.Need.{Need}
use Rattle.dsm_messages.specs.declared.messages.Need.TheVariants.{Read as reading, Write as writing}
use Rattle.dsm_messages.specs.declared.messages.Message.{Message}
use Rattle.dsm_messages.specs.declared.messages.Message.TheVariants.{Inval}
use Rattle.dsm_messages.specs.declared.messages.Post.{Post}
use Rattle.home_directory.specs.declared.directory.Busy.{Busy}
use Rattle.home_directory.specs.declared.directory.Request.{Request}

-- a block's entry: the owner, the nodes that share the block, the owner among them, and the request
-- that the home is busy with
pub record DirectoryEntry : Type 0 where
  pub owner : ℕ
  pub sharers : ℕ → Bool
  pub busy : Option Busy

-- what the rows of a block see at its home: the entry, the requests for the block that wait there,
-- in order of arrival, and how many requests wait there in all
pub record Home : Type 0 where
  pub entry : DirectoryEntry
  pub waiting : List Request
  pub occupancy : ℕ

-- the set of one node
abbrev pub alone : ℕ → ℕ → Bool
alone r i = i == r

-- the set without one node
abbrev pub others : (ℕ → Bool) → ℕ → ℕ → Bool
others sharers r i = sharers i && not (i == r)

-- how many of the first n nodes are in the set
abbrev pub count_of : (ℕ → Bool) → ℕ → ℕ
count_of set zero = 0
count_of set (suc n) = if set n then count_of set n + 1 else count_of set n

-- the entry at the start: the home is the owner
abbrev pub first_entry : ℕ → DirectoryEntry
first_entry me = record { owner = me; sharers = alone me; busy = None }

-- the entry once the home is busy with a request of r
abbrev pub busy_with : DirectoryEntry → Need → ℕ → DirectoryEntry
busy_with e need r = record {
  owner = e.owner;
  sharers = e.sharers;
  busy = Some (record { need = need; node = r });
}

-- the entry once a request of r is done
abbrev pub done_with : DirectoryEntry → Need → ℕ → DirectoryEntry
done_with e reading r = record { owner = e.owner; sharers = changed e.sharers r true; busy = None }
done_with e writing r = record { owner = r; sharers = alone r; busy = None }

abbrev pub post : ℕ → Message → Post
post to message = record { to = to; message = message }

-- an Inval for each of the first n nodes that is in the set, ascending
abbrev pub invals : (ℕ → Bool) → (b r n : ℕ) → List Post
invals set b r zero = []
invals set b r (suc n) = invals set b r n ++ (if set n then post n (Inval b r) ∷ [] else [])

-- one of these requests is of r
abbrev pub waits : List Request → ℕ → Bool
waits [] r = false
waits (q ∷ qs) r = q.from == r || waits qs r

-- the requests without the first
abbrev pub without_first : List Request → List Request
without_first [] = []
without_first (q ∷ qs) = qs

-- how many requests wait at the home once the first of these has left, where there is one
abbrev pub occupancy_then : List Request → ℕ → ℕ
occupancy_then [] occupancy = occupancy
occupancy_then (q ∷ qs) occupancy = occupancy - 1
