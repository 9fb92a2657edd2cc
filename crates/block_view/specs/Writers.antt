-- Helps the code alone: what is kept of the writes in a block.
use Rattle.std.specs.Prelude.{◌≡◌, ◌≢◌, ℕ, zero, suc, ◌<◌, Bool, true, false, not, ◌&&◌, ◌⊎◌, if◌then◌else◌, List, [], ◌∷◌, ◌++◌, length, slice_index_or, Option, None, Some}
use Rattle.std.specs.Option.{option_map_or}
use Rattle.std.specs.Ordering.{nat_cmp}
use Rattle.std.specs.BTreeMap.{get}
use Rattle.event_text.specs.run_trace.declared.traced.Accessed.{Accessed}
use Rattle.event_text.specs.run_trace.Traced.{Traced}
use Rattle.block_view.specs.Sharing.{Write, writes_in, written_at, written_by}
use Rattle.block_view.specs.declared.sharing.Writer.{Writer}
use Rattle.block_view.specs.declared.sharing.Writer.TheVariants as writer
use Rattle.block_view.specs.declared.sharing.WrittenWords.{WrittenWords}
use Rattle.block_view.specs.declared.sharing.Writers.{Writers}

abbrev pub write_of : (node word : ℕ) → Write
write_of i a = record { node = i; word = a }

-- among these writes a node has one at a word
abbrev pub Writes : List Write → (node word : ℕ) → Type 0
Writes [] i a = ⊥
Writes (w ∷ ws) i a = ((w.node ≡ i) × (w.word ≡ a)) ⊎ Writes ws i a

-- two nodes have such
pub record AreOfTwo (ws : List Write) : Type 0 where
  pub one : ℕ
  pub other : ℕ
  pub apart : one ≢ other
  pub first : ℕ
  pub second : ℕ
  pub writes : Writes ws one first
  pub writes_too : Writes ws other second

-- node i has such, and no other
pub record AreOfOne (ws : List Write) (i : ℕ) : Type 0 where
  pub word : ℕ
  pub writes : Writes ws i word
  pub alone : (k a : ℕ) → Writes ws k a → k ≡ i

-- who has such
abbrev pub IsWriterOf : Writer → List Write → Type 0
IsWriterOf writer.Nobody ws = (k a : ℕ) → Writes ws k a → ⊥
IsWriterOf (writer.One i) ws = AreOfOne ws i
IsWriterOf writer.Several ws = AreOfTwo ws

-- two nodes have such at one word
pub record Meet (ws : List Write) : Type 0 where
  pub one : ℕ
  pub other : ℕ
  pub apart : one ≢ other
  pub word : ℕ
  pub writes : Writes ws one word
  pub writes_too : Writes ws other word

-- at each word the node is known that wrote it first, and whether another has written one too
pub record AreWordsOf (s : WrittenWords) (ws : List Write) : Type 0 where
  pub some : (a i : ℕ) → get nat_cmp s.first a ≡ Some i → Writes ws i a
  pub none : (a i : ℕ) → get nat_cmp s.first a ≡ None → Writes ws i a → ⊥
  pub apart : s.meet ≡ false → (i a : ℕ) → Writes ws i a → get nat_cmp s.first a ≡ Some i
  pub meet : s.meet ≡ true → Meet ws

pub record AreWritersOf (s : Writers) (ws : List Write) : Type 0 where
  pub who : IsWriterOf s.who ws
  pub words : AreWordsOf s.words ws

abbrev pub is_several : Writer → Bool
is_several writer.Nobody = false
is_several (writer.One i) = false
is_several writer.Several = true

-- what is kept says that several write, each at words of its own
abbrev pub says_shared : Writers → Bool
says_shared s = is_several s.who && not s.words.meet

abbrev pub shared_in : List Writers → (b : ℕ) → Bool
shared_in [] b = false
shared_in (s ∷ ss) zero = says_shared s
shared_in (s ∷ ss) (suc b) = shared_in ss b

-- these are the writers of blocks with these writes
abbrev pub AreSharedBy : List Writers → (ℕ → List Write) → Type 0
AreSharedBy blocks writes =
    (b : ℕ) (d : Writers) → b < length blocks → AreWritersOf (slice_index_or blocks b d) (writes b)

-- the writes after an access of node i
abbrev pub writes_with : (ℕ → List Write) → (i : ℕ) → Option Accessed → ℕ → List Write
writes_with writes i access b = if option_map_or (writes_in b) access false
    then writes b ++ option_map_or (written_at b i) access [] else writes b

-- the writes after an event
abbrev pub writes_by : (ℕ → List Write) → Traced → ℕ → List Write
writes_by writes x b = writes b ++ written_by b x.node x.what
