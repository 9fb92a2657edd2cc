-- What contracts see of a directory, and what the table's rows change in it.
use Rattle.std.specs.Prelude.{ℕ, Bool, false, if◌then◌else◌, ◌==◌, ◌&&◌, nat_lt, List, [], slice_index_or, length, filter, Option, None, Some}
use Rattle.block_layout.specs.Layout.{Shape, blocks, home}
use Rattle.block_layout.specs.Update.{changed}
use Rattle.buf_pool.specs.Pool.{Buffer}
use Rattle.dsm_messages.specs.declared.messages.Need.{Need}
use Rattle.dsm_messages.specs.declared.messages.Post.{Post}
use Rattle.home_directory.specs.declared.directory.DirectoryEntry as stored
use Rattle.home_directory.specs.declared.directory.Request.{Request}
use Rattle.home_directory.specs.Home.{DirectoryEntry, Home}
use Rattle.home_directory.specs.Table.{HomeRow, ask_row, done_row}

-- a directory: the layout that it was made with, its node, the entries by block, and the requests
-- that wait, where those for one block stand in order of arrival
pub record Directory : Type 0 where
  pub layout : Shape
  pub me : ℕ
  pub entries : List stored.DirectoryEntry
  pub waiting : List Request

abbrev pub no_entry : stored.DirectoryEntry
no_entry = record { owner = 0; sharers = []; busy = None }

-- the set of the nodes at which a list says true
abbrev pub members : List Bool → ℕ → Bool
members flags i = slice_index_or flags i false

abbrev pub entry_of : stored.DirectoryEntry → DirectoryEntry
entry_of e = record { owner = e.owner; sharers = members e.sharers; busy = e.busy }

abbrev pub entry_at : List stored.DirectoryEntry → ℕ → DirectoryEntry
entry_at entries b = entry_of (slice_index_or entries b no_entry)

-- the requests for block b, in their order
abbrev pub requests_for : ℕ → List Request → List Request
requests_for b qs = filter (λ q. q.block == b) qs

-- the entries and the requests that wait, by block, and how many requests wait in all
pub record Entries : Type 0 where
  pub entry : ℕ → DirectoryEntry
  pub waiting : ℕ → List Request
  pub occupancy : ℕ

abbrev pub entries_of : Directory → Entries
entries_of d = record {
  entry = entry_at d.entries;
  waiting = λ b. requests_for b d.waiting;
  occupancy = length d.waiting;
}

abbrev pub home_at : Entries → ℕ → Home
home_at es b = record { entry = es.entry b; waiting = es.waiting b; occupancy = es.occupancy }

-- the block is one of the layout, and this node is its home
abbrev pub is_home : Directory → ℕ → Bool
is_home d b = nat_lt b (blocks d.layout) && home d.layout b == d.me

-- what a message leaves at the home, and what is sent
pub record HomeEffect : Type 0 where
  pub entries : Entries
  pub sends : List Post

-- a row changes its block's entry and requests alone; without a row nothing changes and nothing is
-- sent
abbrev pub home_effect : Entries → ℕ → Option HomeRow → HomeEffect
home_effect es b None = record { entries = es; sends = [] }
home_effect es b (Some row) = record {
  entries = record {
    entry = changed es.entry b row.home.entry;
    waiting = changed es.waiting b row.home.waiting;
    occupancy = row.home.occupancy;
  };
  sends = row.sends;
}

-- the row of Read or Write from r, where this node is the home
abbrev pub ask_row_at : Directory → (r b : ℕ) → Need → Buffer → Option HomeRow
ask_row_at d r b need buf =
    if is_home d b then ask_row d.layout.nodes (home_at (entries_of d) b) b r need buf else None

-- Read or Write from r
abbrev pub ask_effect : Directory → (r b : ℕ) → Need → Buffer → HomeEffect
ask_effect d r b need buf = home_effect (entries_of d) b (ask_row_at d r b need buf)

-- the row of Done from r, where this node is the home
abbrev pub done_row_at : Directory → (r b : ℕ) → Option HomeRow
done_row_at d r b =
    if is_home d b then done_row d.layout.nodes (home_at (entries_of d) b) b r else None

-- Done from r
abbrev pub done_effect : Directory → (r b : ℕ) → HomeEffect
done_effect d r b = home_effect (entries_of d) b (done_row_at d r b)
