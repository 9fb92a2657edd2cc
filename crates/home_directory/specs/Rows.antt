-- Helps the code alone: the entry, the requests that wait and the posts after a row or none.
use Rattle.std.specs.Prelude.{◌≡◌, ◌≢◌, ℕ, Bool, List, [], length, Option, None, Some}
use Rattle.home_directory.specs.declared.directory.DirectoryEntry as stored
use Rattle.home_directory.specs.declared.directory.Request.{Request}
use Rattle.home_directory.specs.Home.{Home, others}
use Rattle.home_directory.specs.Table.{HomeRow, Start, start_row, start_or, next_or, ask_row, done_row}
use Rattle.home_directory.specs.Effects.{entry_of, requests_for}

-- what the rows of block b see of its stored entry and of the stored requests
abbrev pub home_of : stored.DirectoryEntry → List Request → ℕ → Home
home_of e stored b = record {
  entry = entry_of e;
  waiting = requests_for b stored;
  occupancy = length stored;
}

-- the stored requests for block b are those that a row left, and the others are as before
pub record AreAfter (b : ℕ) (old new : List Request) (h : Home) : Type 0 where
  pub waiting : requests_for b new ≡ h.waiting
  pub others : (d : ℕ) → d ≢ b → requests_for d new ≡ requests_for d old
  pub occupancy : length new ≡ h.occupancy

-- where there is no row all is as before
abbrev pub row_or : Home → Option HomeRow → HomeRow
row_or h None = record { home = h; sends = [] }
row_or h (Some row) = row

-- the sharers of an entry but one
abbrev pub sharers_but : stored.DirectoryEntry → ℕ → ℕ → Bool
sharers_but e but = others (entry_of e).sharers but

-- the start of the first request that waits for block b
abbrev pub next_of : ℕ → stored.DirectoryEntry → ℕ → List Request → Start
next_of n e b stored = next_or n (entry_of e) b (requests_for b stored)

-- the start of a request, or none
abbrev pub start_of : ℕ → stored.DirectoryEntry → Request → Start
start_of n e q = start_or (entry_of e) (start_row n (entry_of e) q.block q.from q.need q.buf)

abbrev pub after_request : ℕ → Home → Request → HomeRow
after_request n h q = row_or h (ask_row n h q.block q.from q.need q.buf)

abbrev pub after_done : ℕ → Home → (b r : ℕ) → HomeRow
after_done n h b r = row_or h (done_row n h b r)
