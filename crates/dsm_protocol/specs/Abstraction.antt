-- The core of blocks for which the nodes stand.
use Rattle.std.specs.Prelude.{◌≡◌, ℕ, ◌<◌, nat_lt, if◌then◌else◌, List, [], ◌∷◌, ◌++◌, length, drop, Option, Some, None}
use Rattle.block_layout.specs.Layout.{Shape, blocks, home}
use Rattle.home_directory.specs.flag_memory.Flag.{flags}
use Rattle.state_table.specs.declared.State.{State}
use Rattle.state_table.specs.declared.State.TheVariants.{Exclusive, Shared, Invalid, Pending}
use Rattle.home_directory.specs.dsm_messages.declared.messages.Need as need
use Rattle.home_directory.specs.dsm_messages.declared.messages.Need.TheVariants as want
use Rattle.home_directory.specs.dsm_messages.declared.messages.Message.{Message}
use Rattle.home_directory.specs.dsm_messages.declared.messages.Message.TheVariants.{Read, Write, FwdRead, FwdWrite, Inval, Data, Grant, Ack, Done, Bye}
use Rattle.home_directory.specs.declared.wait.Wait as wait
use Rattle.home_directory.specs.declared.wait.Answer.{Answer}
use Rattle.home_directory.specs.declared.wait.Answer.TheVariants.{ByData, ByGrant}
use Rattle.home_directory.specs.declared.directory.Busy.{Busy}
use Rattle.home_directory.specs.declared.directory.Request.{Request}
use Rattle.home_directory.specs.Home.{DirectoryEntry}
use Rattle.home_directory.specs.Table.{LocalBlock}
use Rattle.coherence.specs.Messages as m
use Rattle.coherence.specs.Table.{BlockAtNode}
use Rattle.coherence.specs.Machine.{Wire, Core, Setting}
use Rattle.dsm_protocol.specs.World.{World}

-- no block has more bytes
unfoldable pub page : ℕ
page = 4096

-- the contents of a block of any size: past the block's end come flag words up to a page
abbrev pub Contents : Type 0
Contents = List ℕ

abbrev pub contents : List ℕ → Contents
contents bytes = bytes ++ drop (length bytes) (flags page)

abbrev pub need_of : need.Need → m.Need
need_of want.Read = m.Read
need_of want.Write = m.Write

abbrev pub state_of : State → m.State
state_of Exclusive = m.Exclusive
state_of Shared = m.Shared
state_of Invalid = m.Invalid
state_of Pending = m.Pending

abbrev pub busy_of : Option Busy → Option (m.Need × ℕ)
busy_of None = None
busy_of (Some b) = Some (need_of b.need, b.node)

abbrev pub answer_of : Option Answer → m.Answer Contents
answer_of None = m.Unanswered
answer_of (Some (ByData k buf)) = m.ByData k (contents buf.bytes)
answer_of (Some (ByGrant k buf)) = m.ByGrant k

abbrev pub wait_of : Option wait.Wait → Option (m.Wait Contents)
wait_of None = None
wait_of (Some w) =
    Some (record { need = need_of w.need; answer = answer_of w.answer; acks = w.counted })

-- requests for a block
abbrev pub requests_of : List Request → List (ℕ × m.Need)
requests_of [] = []
requests_of (q ∷ qs) = (q.from, need_of q.need) ∷ requests_of qs

abbrev pub about : ℕ → m.Message Contents → List (Wire Contents)
about b message = record { block = b; body = message } ∷ []

-- a Bye is about no block
abbrev pub wire_of : Message → List (Wire Contents)
wire_of (Read b buf) = about b (m.ToHome (m.Ask m.Read))
wire_of (Write b buf) = about b (m.ToHome (m.Ask m.Write))
wire_of (FwdRead b r buf) = about b (m.Forward (m.FwdRead r))
wire_of (FwdWrite b r k buf) = about b (m.Forward (m.FwdWrite r k))
wire_of (Inval b r) = about b (m.Forward (m.Inval r))
wire_of (Data b k buf) = about b (m.Response (m.Data k (contents buf.bytes)))
wire_of (Grant b k buf) = about b (m.Forward (m.Grant k))
wire_of (Ack b) = about b (m.Response m.Ack)
wire_of (Done b) = about b (m.ToHome m.Done)
wire_of Bye = []

abbrev pub wires_of : List Message → List (Wire Contents)
wires_of [] = []
wires_of (x ∷ xs) = wire_of x ++ wires_of xs

-- what a node keeps of a block, with the entry of its home
abbrev pub local_of : DirectoryEntry → LocalBlock → BlockAtNode Contents
local_of e l = record {
  owner = e.owner;
  sharers = e.sharers;
  busy = busy_of e.busy;
  state = state_of l.state;
  copy = contents l.bytes;
  wait = wait_of l.wait;
}

-- a number that is no block's has a home too
abbrev pub home_in : Shape → ℕ → ℕ
home_in l b = if nat_lt b (blocks l) then home l b else 0

-- how many blocks each of n nodes may wait for at a time. A processor waits for two at most, and so
-- does a node of one. The larger numbers are for nodes of up to four processors, 16 in all, whose
-- processors wait apart. All nodes together wait for 32 at most, and so many requests have room at
-- one home
abbrev pub most_waits : ℕ → ℕ
most_waits n =
    if nat_lt n 5 then 8 else (if nat_lt n 6 then 6 else (if nat_lt n 9 then 4 else 2))

-- `first` are the first contents of the blocks
abbrev pub setting_of : Shape → (ℕ → Contents) → Setting Contents
setting_of l first = record {
  nodes = l.nodes;
  blocks = blocks l;
  home = home_in l;
  first = first;
  flag = flags page;
  most = most_waits l.nodes;
}

-- the nodes and lists are those of this core
pub record StandsFor (l : Shape) (w : World) (k : Core Contents) : Type 0 where
  pub owner : (b : ℕ) → b < blocks l → k.owner b ≡ (w.entry (home_in l b) b).owner
  pub sharers : (b : ℕ) → b < blocks l → k.sharers b ≡ (w.entry (home_in l b) b).sharers
  pub busy : (b : ℕ) → b < blocks l → k.busy b ≡ busy_of (w.entry (home_in l b) b).busy
  pub waiting : (b : ℕ) → b < blocks l → k.waiting b ≡ requests_of (w.waiting (home_in l b) b)
  pub occupancy : (i : ℕ) → i < l.nodes → k.occupancy i ≡ w.occupancy i
  pub state : (i b : ℕ) → i < l.nodes → b < blocks l → k.state i b ≡ state_of (w.state i b)
  pub copy : (i b : ℕ) → i < l.nodes → b < blocks l → k.copy i b ≡ contents (w.bytes i b)
  pub wait : (i b : ℕ) → i < l.nodes → b < blocks l → k.wait i b ≡ wait_of (w.wait i b)
  pub list : (j i : ℕ) → j < l.nodes → i < l.nodes → k.list j i ≡ wires_of (w.list j i)
