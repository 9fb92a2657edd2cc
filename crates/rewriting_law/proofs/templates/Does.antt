-- What the words of a place's sequence do, beside the processor whose next step they make.
use Rattle.std.proofs.Common.{◌≡◌, ℕ, zero, suc, ◌+◌, ◌-◌, ◌⊎◌, ◌≤◌, Bool, true, false, List, [], ◌∷◌, length, Some, None, sym, ap, ◌∙◌}
use Rattle.std.specs.Prelude.{if◌then◌else◌, ◌||◌}
use Rattle.std.specs.Option.{option_map_or}
use Rattle.rewriting_law.proofs.Names.{Instr, Ecall, ByteU, Word, amo, Shape, holds, Shared, Program, class_at, line_of, Live, reg, load_value, byte_by, is_in_block, stands_at_store, RunsToStore, Processor, Access, Nothing, Reads, Writes, WritesIf, Exchanges, Request, Becomes, Prints, LoadsFrom, StoresTo, ReservesAt, StoresWhere, UpdatesAt, request, with_exit, after_print, after_store, after_exchange, after_conditional, set_register, next_pc, MissR, MissW, Poll, Call, Batch, Prepare, CommitKind, Never, Head, Fast, PlanEntry, IsPlace, closes_loop, SequenceItem, ItemWord, Runs, GoesTo, items_in, address_in, Need, Read, Write, ProcessorState, NodeMemory, Want, Resume, PastWord, SameWord, ByLines, Move, Next, Again, To, Enters, Waits, Leaves, WordOutcome, local_stored, both_meet, execute, commits_by, Licensed}
use Rattle.rv32_decode.specs.declared.LoadKind.TheVariants.{Word as WordLoad}
use Rattle.rewriting_law.proofs.templates.States.{Suits, Later, later_still, grants}

-- the node stands at the head of a place, where its registers agree wherever they are live. This is
-- the only fact that two sequences share
pub record AtHead (program : Program) (a : ℕ) (q : Processor) (l : ProcessorState) : Type 0 where
  pub place : q.pc ≡ a
  pub running : q.exit ≡ None
  pub agree : (r : ℕ) → Live program.code r a → reg l.registers r ≡ reg q.registers r
  pub private : l.private ≡ q.private
  pub written : l.written ≡ q.written

-- the byte of an address, as the processor would see it in the node's copy
abbrev pub byte_seen : Program → Processor → NodeMemory → ℕ → ℕ
byte_seen program q n a = byte_by (class_at program a) (n.copy a) (program.first a) (q.private a) 0

-- the lane at another word
abbrev pub lane_at : ℕ → ℕ → ProcessorState → ProcessorState
lane_at at off l = record l { at = at; off = off }

-- the address of the word behind so many words
abbrev pub skip_to : ℕ → ℕ → ℕ
skip_to zero at = at
skip_to (suc s) at = skip_to s (next_pc at)

-- the processor stands at a store, an AMO or an SC to the address, or where a run begins that
-- stores in its block, whatever the blocks are
abbrev pub StandsToStore : Program → Processor → ℕ → Type 0
StandsToStore program q x =
    (layout : Shape) (b : ℕ) → is_in_block layout b x ≡ true
    → (stands_at_store program layout b q.registers q.pc ≡ true)
    ⊎ RunsToStore program layout b q.registers q.pc

-- what an address is wanted for is what the processor is about to do
abbrev pub Seeks : Program → Processor → Need → ℕ → Type 0
Seeks program q Read x = Unit {0}
Seeks program q Write x = StandsToStore program q x

-- what a word waits for: a shared line that doesn't grant it, and that the processor seeks
pub record IsWanted (program : Program) (q : Processor) (n : NodeMemory) (want : Want) : Type 0 where
  pub shared : class_at program want.at ≡ Shared
  pub unmet : grants want.need (n.state (line_of want.at)) ≡ false
  pub seeks : Seeks program q want.need want.at

abbrev pub word_seen : Program → Processor → NodeMemory → ℕ → ℕ
word_seen program q n x = load_value WordLoad (byte_seen program q n) x

-- the copy after a conditional store, where the address was reserved or wasn't
abbrev pub local_conditional : Program → NodeMemory → ℕ → ℕ → Bool → NodeMemory
local_conditional program n x value true =
    record (local_stored program n Word x value) { reservation = None }
local_conditional program n x value false = record n { reservation = None }

abbrev pub CommitsConditional : Program → (Processor → Type 0) → Processor → NodeMemory → WordOutcome → ℕ → ℕ
    → ℕ → Bool → Type 0
CommitsConditional program K q n r d x value reserved =
    (r.access ≡ WritesIf x value reserved) × (r.printed ≡ None)
    × (r.local ≡ local_conditional program n x value reserved)
    × K (after_conditional program q d x value reserved)

-- the word does what the processor asks for, and goes on well with the processor after its step
abbrev pub Commits : Program → (Processor → Type 0) → Processor → NodeMemory → WordOutcome → Request → Type 0
Commits program K q n r (Becomes q') =
    (q'.exit ≡ None) × (r.access ≡ Nothing) × (r.printed ≡ None) × (r.local ≡ n) × K q'
Commits program K q n r (Prints x) =
    (r.access ≡ Reads ByteU x (byte_seen program q n x))
    × (r.printed ≡ Some (byte_seen program q n x)) × (r.local ≡ n) × K (after_print q)
Commits program K q n r (LoadsFrom k d x) =
    (r.access ≡ Reads k x (load_value k (byte_seen program q n) x)) × (r.printed ≡ None)
    × (r.local ≡ n) × K (set_register q d (load_value k (byte_seen program q n) x))
Commits program K q n r (StoresTo w x value) =
    (r.access ≡ Writes w x value) × (r.printed ≡ None)
    × (r.local ≡ local_stored program n w x value) × K (after_store program q w x value)
Commits program K q n r (ReservesAt d x) =
    (r.access ≡ Reads WordLoad x (word_seen program q n x)) × (r.printed ≡ None)
    × (r.local ≡ record n { reservation = Some x })
    × K (set_register q d (word_seen program q n x))
Commits program K q n r (StoresWhere d x value) =
    CommitsConditional program K q n r d x value (holds n.reservation x)
Commits program K q n r (UpdatesAt o d x value) =
    (r.access ≡ Exchanges x (word_seen program q n x) (amo o (word_seen program q n x) value))
    × (r.printed ≡ None)
    × (r.local ≡ local_stored program n Word x (amo o (word_seen program q n x) value))
    × K (after_exchange program q x (amo o (word_seen program q n x) value) d
    (word_seen program q n x))

-- the access stores
abbrev pub is_store : Access → Bool
is_store Nothing = false
is_store (Reads kind a value) = false
is_store (Writes width a value) = true
is_store (WritesIf a value reserved) = reserved
is_store (Exchanges a old new) = true

-- the word commits where the processor is, by a licensed access, or it does nothing that the
-- original sees, and stores nothing
abbrev pub Continues : Program → Type 0 → (Processor → Type 0) → Processor → NodeMemory → WordOutcome → Bool
    → Type 0
Continues program IsThere K q n r true =
    IsThere × Licensed n r.access × Commits program K q n r (request program q)
Continues program IsThere K q n r false =
    (r.printed ≡ None) × (r.local ≡ n) × K q × (is_store r.access ≡ false)

-- a place has a sequence of its own, and the batch of a run where one starts there, of whose words
-- each belongs to the place that its number gives
pub data SequenceKind : Type 0 where
  OfPlace : SequenceKind
  OfRun : (place : ℕ → ℕ) → SequenceKind

-- where word k of a sequence of place a belongs
abbrev pub place_of : SequenceKind → ℕ → ℕ → ℕ
place_of OfPlace a k = a
place_of (OfRun place) a k = place k

-- the instruction may lead back: it closes a loop, or is a call, which may be made again
abbrev pub is_call : Instr → Bool
is_call Ecall = true
is_call i = false

abbrev pub may_turn : Instr → ℕ → Bool
may_turn i a = is_call i || closes_loop i a

abbrev pub turns_at : Program → ℕ → Bool
turns_at program a = option_map_or (λ i. may_turn i a) (program.code a) false

-- the processor is where word k of a sequence of place a belongs; that of a run leads on
abbrev pub IsWhere : Program → SequenceKind → ℕ → ℕ → Processor → Type 0
IsWhere program OfPlace a k q = q.pc ≡ a
IsWhere program (OfRun place) a k q = (q.pc ≡ place k) × (turns_at program q.pc ≡ false)

pub is_where : (program : Program) (kind : SequenceKind) (a k b : ℕ) (q : Processor)
    → place_of kind a k ≡ b → q.pc ≡ b → turns_at program b ≡ false → IsWhere program kind a k q
is_where program OfPlace a k b q place pc on = pc ∙ sym place
is_where program (OfRun f) a k b q place pc on = (pc ∙ sym place, ap (turns_at program) pc ∙ on)

pub where_is : (program : Program) (kind : SequenceKind) (a k : ℕ) (q : Processor)
    → IsWhere program kind a k q → q.pc ≡ place_of kind a k
where_is program OfPlace a k q h = h
where_is program (OfRun f) a k q h = h.0

-- that of the batch of an entry: an original word belongs to its own place, and every other to the
-- entry's
abbrev pub place_in_batch : Program → PlanEntry → ℕ → ℕ
place_in_batch program e k = address_in e Fast (k - length (items_in program.code e Head))

-- what holds behind the last word of a sequence of a place: that of a place with a code word falls
-- through to the next place, and a batch to the place's own sequence
abbrev pub Falls : Program → SequenceKind → ℕ → Processor → ProcessorState → Type 0
Falls program OfPlace a q l = ((i : Instr) × (program.code a ≡ Some i)) × AtHead program (a + 4) q l
Falls program (OfRun place) a q l = AtHead program a q l

-- the word is the first of a place's own sequence, where the node stands at the head
abbrev pub IsHead : Program → SequenceKind → ℕ → ℕ → Processor → ProcessorState → Type 0
IsHead program kind a k q l = (kind ≡ OfPlace) × (k ≡ 0) × AtHead program a q l

-- all of these are what a word may wait for, and one of them is granted
abbrev pub AreWanted : Program → Processor → NodeMemory → List Want → Type 0
AreWanted program q n [] = Unit {0}
AreWanted program q n (w ∷ ws) = IsWanted program q n w × AreWanted program q n ws

abbrev pub SomeGranted : NodeMemory → List Want → Type 0
SomeGranted n [] = ⊥
SomeGranted n (w ∷ ws) = (grants w.need (n.state (line_of w.at)) ≡ true) ⊎ SomeGranted n ws

-- what holds of the words behind one, once so many more are skipped
abbrev pub Rest : Type 1
Rest = ℕ → Processor → ProcessorState → NodeMemory → Type 0

-- what holds once a wait is over, with the node's bytes and states then: of the words behind, or
-- that the node stands at its place's head
abbrev pub Resumes : Program → SequenceKind → ℕ → ℕ → Rest → Processor → ProcessorState → Resume → NodeMemory
    → Type 0
Resumes program kind a k K q l PastWord n = (x y : ℕ) → K 0 q (lane_at x y l) n
Resumes program kind a k K q l SameWord n = IsHead program kind a k q l
Resumes program kind a k K q l (ByLines need low high) n =
    (x y : ℕ) → K (if both_meet n need low high then 1 else 0) q (lane_at x y l) n

-- what a word of a place leads to: an exit, which is the processor's; a word behind it; its
-- sequence's head again; the head of another place; or a wait
abbrev pub Leads : Program → SequenceKind → ℕ → ℕ → ℕ → Rest → Processor → NodeMemory → WordOutcome
    → CommitKind → Move → Type 0
Leads program kind a k at K q n r m (Leaves e) =
    IsWhere program kind a k q × (request program q ≡ Becomes (with_exit q e))
    × (r.access ≡ Nothing) × (r.printed ≡ None) × (r.local ≡ n)
Leads program kind a k at K q n r m Next =
    Continues program (IsWhere program kind a k q)
    (λ p. (x y : ℕ) → K 0 p (lane_at x y r.lane) r.local) q n r (commits_by m r)
Leads program kind a k at K q n r m Again =
    (kind ≡ OfPlace) × (k ≡ 0)
    × Continues program (IsWhere program kind a k q) (λ p. AtHead program a p r.lane) q n r
    (commits_by m r)
Leads program kind a k at K q n r m (To target) =
    (s : ℕ) × (target ≡ skip_to s (next_pc at))
    × Continues program (IsWhere program kind a k q)
    (λ p. (x y : ℕ) → K s p (lane_at x y r.lane) r.local) q n r (commits_by m r)
Leads program kind a k at K q n r m (Enters target) =
    Continues program (IsWhere program kind a k q) (λ p. AtHead program target p r.lane) q n r
    (commits_by m r)
Leads program kind a k at K q n r m (Waits resume want more) =
    (commits_by m r ≡ false) × (r.printed ≡ None) × (r.local ≡ n) × (length more ≤ 1)
    × AreWanted program q n (want ∷ more)
    × ((n' : NodeMemory) → Suits program n' → SomeGranted n' (want ∷ more)
    → Resumes program kind a k K q r.lane resume n') × (is_store r.access ≡ false)

-- a word before which messages are taken is the first of its place's own sequence, where the node
-- stands at the head whatever the messages bring. The check of a run goes by its own address
abbrev pub ItemLeads : Program → SequenceKind → ℕ → ℕ → ℕ → Rest → CommitKind → Processor → ProcessorState
    → NodeMemory → ItemWord → Type 0
ItemLeads program kind a k at K m q l n (GoesTo place to_head) =
    (m ≡ Never) × IsPlace program.code place × AtHead program place q l
ItemLeads program kind a k at K m q l n (Runs Poll) =
    IsHead program kind a k q l
    × Leads program kind a k at K q n (execute program (place_of kind a k) at Poll l n) m
    (execute program (place_of kind a k) at Poll l n).move
ItemLeads program kind a k at K m q l n (Runs Call) =
    IsHead program kind a k q l
    × Leads program kind a k at K q n (execute program (place_of kind a k) at Call l n) m
    (execute program (place_of kind a k) at Call l n).move
ItemLeads program kind a k at K m q l n (Runs (Batch stores low high)) =
    l.at ≡ at → Leads program kind a k at K q n
    (execute program (place_of kind a k) at (Batch stores low high) l n) m
    (execute program (place_of kind a k) at (Batch stores low high) l n).move
ItemLeads program kind a k at K m q l n (Runs w) =
    Leads program kind a k at K q n (execute program (place_of kind a k) at w l n) m
    (execute program (place_of kind a k) at w l n).move

-- a word that rests on nothing that was seen before: it looks at its lines' states itself, or
-- stands at its place's head
abbrev pub looks_anew : ItemWord → Bool
looks_anew (Runs (MissR w rs1 imm)) = true
looks_anew (Runs (MissW w rs1 imm)) = true
looks_anew (Runs (Batch stores low high)) = true
looks_anew (Runs (Prepare rs1)) = true
looks_anew (Runs Poll) = true
looks_anew (Runs Call) = true
looks_anew w = false

-- what may have become of the node before the word is executed: anything, before a word that looks
-- anew; else what the other processors of the node, and messages that take nothing away, make of it
abbrev pub Since : Program → ItemWord → NodeMemory → NodeMemory → Type 0
Since program w n m = Suits program m × (looks_anew w ≡ false → Later n m)

-- the first of these words leads on, by the node as it is when it is executed, where this holds
-- behind it
abbrev pub FirstLeads : Program → SequenceKind → ℕ → ℕ → ℕ → Rest → List SequenceItem → Processor
    → ProcessorState → NodeMemory → Type 0
FirstLeads program kind a k at K [] q l n = ⊥
FirstLeads program kind a k at K (i ∷ is) q l n =
    ItemLeads program kind a k at K i.commit q l n i.what

-- the words that are left of a sequence of a place, of which the first has number k and stands at
-- this address, make the processor's next steps, once so many of them are skipped. Before each of
-- them the node may have changed
abbrev pub Does : Program → SequenceKind → ℕ → ℕ → ℕ → List SequenceItem → Rest
Does program kind a k at [] zero q l n = Falls program kind a q l
Does program kind a k at [] (suc s) q l n = ⊥
Does program kind a k at (i ∷ is) (suc s) q l n =
    Does program kind a (k + 1) (next_pc at) is s q l n
Does program kind a k at (i ∷ is) zero q l n =
    (m : NodeMemory) → Since program i.what n m
    → ItemLeads program kind a k at (Does program kind a (k + 1) (next_pc at) is) i.commit q l m
    i.what

-- so they do once the node has changed
pub does_later : (program : Program) (kind : SequenceKind) (a k at : ℕ) (is : List SequenceItem)
    (s : ℕ) (q : Processor) (l : ProcessorState) (n m : NodeMemory) → Later n m
    → Does program kind a k at is s q l n → Does program kind a k at is s q l m
does_later program kind a k at [] zero q l n m later h = h
does_later program kind a k at [] (suc s) q l n m later h = h
does_later program kind a k at (i ∷ is) (suc s) q l n m later h =
    does_later program kind a (k + 1) (next_pc at) is s q l n m later h
does_later program kind a k at (i ∷ is) zero q l n m later h =
    λ x since. h x (since.0, λ e. later_still n m x later (since.1 e))
