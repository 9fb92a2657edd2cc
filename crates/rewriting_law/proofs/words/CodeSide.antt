-- The code's side of the composition, as the protocol's side may use it: what the next word of a
-- node does beside the processor that the node follows, whatever states and copy the node has been
-- given.
use Rattle.std.proofs.Common.{◌≡◌, ◌≢◌, ℕ, ◌+◌, ◌*◌, ◌⊎◌, Bool, true, false, ◌<◌, ◌≤◌, List, [], ◌∷◌, length, None}
use Rattle.std.specs.Prelude.{option_and_then, ◌||◌, if◌then◌else◌}
use Rattle.rewriting_law.proofs.Names.{Shape, block_of, Exit, Program, line_of, Processor, Nothing, Becomes, first_processor, request, with_exit, CommitKind, PlanEntry, IsPlace, commit_at, old_of, fetch, Work, ProcessorState, NodeMemory, Want, Move, Waits, Leaves, Resume, WordOutcome, next_outcome, lane_after, lane_resumed, first_lane, takes_messages, each_block_once, is_exit, is_wait, commits_by, Licensed, pc_at}
use Rattle.rewriting_law.proofs.one_memory.Originals.{original_with}
use Rattle.rewriting_law.proofs.templates.States.{Suits, grants}
use Rattle.rewriting_law.proofs.templates.Does.{IsWanted, Commits, is_store}

-- the want is one of these
abbrev pub IsAmong : Want → List Want → Type 0
IsAmong x [] = ⊥
IsAmong x (w ∷ ws) = (x ≡ w) ⊎ IsAmong x ws

-- no other of these wants is of its block
abbrev pub IsAlone : Shape → Want → List Want → Type 0
IsAlone layout w [] = Unit {0}
IsAlone layout w (v ∷ vs) =
    (block_of layout (line_of w.at) ≢ block_of layout (line_of v.at)) × IsAlone layout w vs

-- how many words a node has executed, how many steps these committed, and whether the last waited
pub record Pace : Type 0 where
  pub words : ℕ
  pub commits : ℕ
  pub waited : Bool
  -- how many steps since the last poll or call, and the original addresses of the last step and of
  -- the word that is executed
  pub since : ℕ
  pub last : ℕ
  pub here : ℕ

abbrev pub first_pace : Pace
first_pace = record { words = 0; commits = 0; waited = false; since = 0; last = 0; here = 0 }

abbrev pub one_if : Bool → ℕ
one_if true = 1
one_if false = 0

-- after a word that commits or doesn't, and this move
abbrev pub pace_then : Pace → Bool → Move → Pace
pace_then p commits move = record {
  words = p.words + 1;
  commits = p.commits + one_if commits;
  waited = is_wait move;
  since = p.since + one_if commits;
  last = if commits then p.here else p.last;
  here = p.here;
}

-- at a processor's next word, which may be a poll or a call
abbrev pub pace_at : Work → ProcessorState → Pace → Pace
pace_at work l p = record p {
  since = if takes_messages (option_and_then (λ w. w.what) (fetch work.image l.at)) then 0
      else p.since;
  here = pc_at work l;
}

-- the last step was at a place, and the processor is at one of a greater address, unless that step
-- is the only one since the last poll or call
abbrev pub Rises : Program → Pace → Processor → Type 0
Rises program p q = (p.since ≤ 1)
    ⊎ ((p.last < q.pc) × IsPlace program.code p.last × IsPlace program.code q.pc)

-- after a word of this kind of commit
abbrev pub pace_after : Pace → CommitKind → WordOutcome → Pace
pace_after p kind r = pace_then p (is_exit r.move || commits_by kind r) r.move

module _ (layout : Shape) (work : Work) (plan : List PlanEntry) where
  -- what a word waits for is wanted, and each want is of a block of its own
  abbrev pub AllWanted : Processor → NodeMemory → List Want → Type 0
  AllWanted q n [] = Unit {0}
  AllWanted q n (w ∷ ws) = IsWanted work.program q n w × IsAlone layout w ws × AllWanted q n ws

  -- the word is the exit that the processor asks for
  pub record Exits (q : Processor) (n : NodeMemory) (r : WordOutcome) (e : Exit) : Type 0 where
    pub asks : request work.program q ≡ Becomes (with_exit q e)
    pub access : r.access ≡ Nothing
    pub printed : r.printed ≡ None
    pub local : r.local ≡ n

  module _ (Stands : Processor → ProcessorState → NodeMemory → Type 0) where
    -- the word waits, and does nothing else. Once any of its wants is granted, by whatever node,
    -- the node stands there where its lane is resumed
    pub record WaitsFor (q : Processor) (n : NodeMemory) (r : WordOutcome) (resume : Resume)
        (wants : List Want) : Type 0 where
      pub printed : r.printed ≡ None
      pub local : r.local ≡ n
      pub silent : is_store r.access ≡ false
      pub wanted : AllWanted q n wants
      pub few : length wants ≤ 2
      pub resumed : (m : NodeMemory) → Suits work.program m → (x : Want) → IsAmong x wants
          → grants x.need (m.state (line_of x.at)) ≡ true
          → Stands q (lane_resumed r.lane m resume) m

    -- the word makes the processor's next step by a licensed access, or it does nothing that the
    -- original sees; and the node stands where it goes
    abbrev pub GoesOn : Processor → NodeMemory → WordOutcome → Bool → Type 0
    GoesOn q n r true =
        Licensed n r.access × Commits work.program (λ p. Suits work.program r.local
        → Stands p (lane_after work.image r.lane r.move) r.local) q n r (request work.program q)
    GoesOn q n r false =
        (r.printed ≡ None) × (r.local ≡ n) × Stands q (lane_after work.image r.lane r.move) n
        × (is_store r.access ≡ false)

    -- what a word of this kind of commit does, by its move
    abbrev pub Follows : Processor → NodeMemory → WordOutcome → CommitKind → Move → Type 0
    Follows q n r kind (Leaves e) = Exits q n r e
    Follows q n r kind (Waits resume want more) =
        (commits_by kind r ≡ false) × WaitsFor q n r resume (each_block_once layout (want ∷ more))
    Follows q n r kind m = GoesOn q n r (commits_by kind r)

  pub record CodeSide : Type 1 where
    -- the node stands, by its lane and by what its words see, where its processor does, at its pace
    pub Stands : Pace → Processor → ProcessorState → NodeMemory → Type 0
    -- the next word
    pub word_follows : (p : Pace) (q : Processor) (l : ProcessorState) (n : NodeMemory) → Suits work.program n
        → q.exit ≡ None → Stands p q l n → Follows (Stands (pace_after (pace_at work l p)
        (commit_at work.program plan (old_of work.image l.at))
        (next_outcome work.program work.image l n))) q n (next_outcome work.program work.image l n)
        (commit_at work.program plan (old_of work.image l.at))
        (next_outcome work.program work.image l n).move
    -- where the next word is one before which messages are taken, and the last didn't wait, it
    -- stands there whatever they bring
    pub messages_keep : (p : Pace) (q : Processor) (l : ProcessorState) (n : NodeMemory) → Stands p q l n
        → takes_messages (option_and_then (λ w. w.what) (fetch work.image l.at)) ≡ true
        → p.waited ≡ false
        → (m : NodeMemory) → Suits work.program m → Stands p q l m
    -- and so it does at the start
    pub starts : (me : ℕ) (n : NodeMemory) → Suits work.program n
        → Stands first_pace (first_processor (original_with layout work) me) (first_lane work me) n
    -- a word that commits is of the original address where its processor is
    pub commits_there : (p : Pace) (q : Processor) (l : ProcessorState) (n : NodeMemory) → Suits work.program n
        → Stands p q l n → (is_exit (next_outcome work.program work.image l n).move
        || commits_by (commit_at work.program plan (old_of work.image l.at))
        (next_outcome work.program work.image l n)) ≡ true → q.pc ≡ pc_at work l
    -- once two steps were made since the last poll or call, the processor is at a place of a greater
    -- address than the last
    pub rises : (p : Pace) (q : Processor) (l : ProcessorState) (n : NodeMemory) → Stands p q l n
        → Rises work.program p q
    -- of 40 words one commits
    pub paced : (p : Pace) (q : Processor) (l : ProcessorState) (n : NodeMemory) → Stands p q l n
        → p.words ≤ 40 * p.commits + 39
