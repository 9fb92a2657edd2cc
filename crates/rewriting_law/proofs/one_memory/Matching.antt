-- Nodes that run code and exchange messages, beside the one memory: what holds between two events,
-- and that each event keeps it.
use Rattle.std.proofs.Common.{◌≡◌, ℕ, ◌+◌, ◌*◌, ◌<◌, ◌≤◌, ◌⊎◌, cond, eqb, Bool, true, false, List, [], ◌∷◌, Option, Some, None, refl, sym, ap, ◌∙◌, subst, inl, inr, arith}
use Rattle.std.specs.Prelude.{if◌then◌else◌, ◌==◌, ◌||◌, option_and_then}
use Rattle.std.specs.Option.{option_to_list}
use Rattle.rewriting_law.proofs.Names.{Shape, Exit, End, Exited, Stopped, stands_at_store, RunsToStore, Processor, State, Pick, opening, run, CommitKind, PlanEntry, commit_at, old_of, fetch, Need, Write, Work, ProcessorState, NodeMemory, Want, Move, Waits, Leaves, Resume, WordOutcome, lane_after, lane_resumed, next_outcome, first_lane, takes_messages, wants_of, each_block_once, Order, break_by, is_exit, commits_by, Licensed}
use Rattle.rewriting_law.proofs.one_memory.Originals.{original_with}
use Rattle.rewriting_law.proofs.templates.States.{Suits}
use Rattle.rewriting_law.proofs.words.CodeSide.{Pace, first_pace, pace_after, pace_at, AllWanted, CodeSide}
use Rattle.rewriting_law.proofs.one_memory.Sharing.{Sharing, with_local, is_same, local_here}
use Rattle.rewriting_law.proofs.one_memory.Advances.{Advanced}
use Rattle.rewriting_law.proofs.one_memory.SharedWords.{picked, values_of_word}
use Rattle.rewriting_law.proofs.one_memory.OneEach.{Shares, shares_like, Onward, WordAdvanced, word_advanced, shares_behind}
use Rattle.rewriting_law.proofs.one_memory.Messages.{AreLaidOut, Taken, message_shares}
use Rattle.rewriting_law.proofs.one_memory.Pending.{wanted_in, pending, StandsWaiting, waits_standing, waiting_stores, waits_on, goes_on, pending_waits}
use Rattle.rewriting_law.proofs.protocol_side.ProtocolSide.{Handled, Protocol, ProtocolSide, TakeLeaves, sharing_by, took_by}
use Rattle.rewriting_law.proofs.one_memory.Wants.{want_all, AllAsked, all_asked}

-- what a processor does: it runs, it waits with its lane at the word that wants, or it has ended
pub data Activity : Type 0 where
  Runs : Activity
  Awaits : (resume : Resume) (want : Want) (more : List Want) → Activity
  HasEnded : (end : End) → Activity

abbrev pub with_at : {A : Type 0} → (ℕ → A) → ℕ → A → ℕ → A
with_at f i a j = if j == i then a else f j

module _ (layout : Shape) (work : Work) (plan : List PlanEntry) (code : CodeSide layout work plan)
    (protocol : Protocol) (side : ProtocolSide layout work protocol)
    (laid : AreLaidOut layout work) where
  abbrev sharing_at : protocol.Rest → Sharing layout work
  sharing_at rest = sharing_by layout work protocol side laid rest

  -- how a processor fits what its node does. Only where it runs does this speak of the node as it
  -- is
  abbrev pub StandsIn : Pace → Activity → Processor → ProcessorState → NodeMemory → Type 0
  StandsIn p Runs q l n = (q.exit ≡ None) × code.Stands p q l n
  StandsIn p (Awaits resume want more) q l n =
      StandsWaiting layout work plan laid (code.Stands p) q l resume (want ∷ more)
  StandsIn p (HasEnded (Exited e)) q l n = q.exit ≡ Some e
  StandsIn p (HasEnded (Stopped b)) q l n =
      (q.exit ≡ None) × (b ≡ work.budget) × (p.words ≤ 40 * p.commits + 39)

  -- what it waits for of a block
  abbrev pub wait_in : Activity → ℕ → Option Need
  wait_in Runs b = None
  wait_in (Awaits resume want more) b = wanted_in layout b (want ∷ more)
  wait_in (HasEnded e) b = None

  pub record Matches (paces : ℕ → Pace) (lanes : ℕ → ProcessorState) (doing : ℕ → Activity) (locals : ℕ → NodeMemory)
      (rest : protocol.Rest) (s : State) : Type 0 where
    pub shares : Shares layout work (sharing_at rest) locals s
    pub stands : (i : ℕ) → i < work.layout.nodes
        → StandsIn (paces i) (doing i) (s.processors i) (lanes i) (locals i)
    -- the protocol waits for what the processors wait for
    pub waits : (i b : ℕ) → i < work.layout.nodes → protocol.wait rest i b ≡ wait_in (doing i) b

  -- one node has changed, and the protocol
  matches_with : (paces : ℕ → Pace) (lanes : ℕ → ProcessorState) (doing : ℕ → Activity) (locals : ℕ → NodeMemory)
      (rest rest' : protocol.Rest) (s t : State) → Matches paces lanes doing locals rest s
      → (i : ℕ) (p : Pace) (l : ProcessorState) (a : Activity) (n : NodeMemory)
      → Shares layout work (sharing_at rest') (with_local locals i n) t
      → StandsIn p a (t.processors i) l n
      → ((j : ℕ) → eqb j i ≡ false → t.processors j ≡ s.processors j)
      → ((b : ℕ) → protocol.wait rest' i b ≡ wait_in a b)
      → ((j b : ℕ) → eqb j i ≡ false → protocol.wait rest' j b ≡ protocol.wait rest j b)
      → Matches (with_at paces i p) (with_at lanes i l) (with_at doing i a) (with_local locals i n)
      rest' t
  matches_with paces lanes doing locals rest rest' s t m i p l a n shares stands others own waits = record {
    shares = shares;
    stands = λ j low. (elim (eqb j i) as (λ u. eqb j i ≡ u
        → StandsIn (cond u p (paces j)) (cond u a (doing j)) (t.processors j) (cond u l (lanes j))
        (cond u n (locals j))) [
          | true ↦ (λ e. subst (λ k. StandsIn p a (t.processors k) l n) (sym (is_same j i e)) stands)
          | false ↦ (λ e. subst (λ q. StandsIn (paces j) (doing j) q (lanes j) (locals j))
              (sym (others j e)) (m.stands j low))
        ]) refl;
    waits = λ j b low. (elim (eqb j i) as (λ u. eqb j i ≡ u
        → protocol.wait rest' j b ≡ wait_in (cond u a (doing j)) b) [
          | true ↦ (λ e. ap (λ k. protocol.wait rest' k b) (is_same j i e) ∙ own b)
          | false ↦ (λ e. waits j b e ∙ m.waits j b low)
        ]) refl;
  }

  -- a processor that has executed so many words, with nothing pending
  abbrev pub goes_or_stops : ℕ → Activity
  goes_or_stops executed = if executed == work.budget then HasEnded (Stopped work.budget) else Runs

  stands_or_stops : (p : Pace) (executed : ℕ) (q : Processor) (l : ProcessorState) (n : NodeMemory)
      → q.exit ≡ None → code.Stands p q l n → StandsIn p (goes_or_stops executed) q l n
  stands_or_stops p executed q l n e st = go (eqb executed work.budget)
    where
      go : (u : Bool) → StandsIn p (cond u (HasEnded (Stopped work.budget)) Runs) q l n
      go true = (e, refl, code.paced p q l n st)
      go false = (e, st)

  pub no_wait : (executed b : ℕ) → wait_in (goes_or_stops executed) b ≡ None
  no_wait executed b = go (eqb executed work.budget)
    where
      go : (u : Bool) → wait_in (cond u (HasEnded (Stopped work.budget)) Runs) b ≡ None
      go true = refl
      go false = refl

  -- what a processor does where these are wanted, or still are
  abbrev pub doing_still : ℕ → Resume → List Want → Activity
  doing_still executed resume [] = goes_or_stops executed
  doing_still executed resume (w ∷ ws) = Awaits resume w ws

  abbrev pub lane_still : ProcessorState → NodeMemory → Resume → List Want → ProcessorState
  lane_still l n resume [] = lane_resumed l n resume
  lane_still l n resume (w ∷ ws) = l

  -- what it does after a word, which has asked for its wants, and after a message
  abbrev pub doing_after : ℕ → Move → Activity
  doing_after executed (Leaves e) = HasEnded (Exited e)
  doing_after executed (Waits resume want more) =
      doing_still executed resume (each_block_once layout (want ∷ more))
  doing_after executed m = goes_or_stops executed

  abbrev pub doing_taken : ℕ → (ℕ → Option Need) → Activity → Activity
  doing_taken executed wait (Awaits resume want more) =
      doing_still executed resume (pending layout wait (want ∷ more))
  doing_taken executed wait a = a

  abbrev pub lane_taken : ProcessorState → NodeMemory → (ℕ → Option Need) → Activity → ProcessorState
  lane_taken l n wait (Awaits resume want more) =
      lane_still l n resume (pending layout wait (want ∷ more))
  lane_taken l n wait a = l

  -- a node that runs may take a message before a poll or a call
  abbrev pub MayTake : Pace → Activity → ProcessorState → Type 0
  MayTake p Runs l =
      (takes_messages (option_and_then (λ w. w.what) (fetch work.image l.at)) ≡ true)
      × (p.waited ≡ false)
  MayTake p a l = Unit {0}

  -- the exit of a processor, by what it does
  abbrev pub EndsIn : Activity → Option Exit → Type 0
  EndsIn Runs exit = exit ≡ None
  EndsIn (Awaits resume want more) exit = exit ≡ None
  EndsIn (HasEnded (Exited e)) exit = exit ≡ Some e
  EndsIn (HasEnded (Stopped b)) exit = (exit ≡ None) × (b ≡ work.budget)

  pub ends_in : (p : Pace) (a : Activity) (q : Processor) (l : ProcessorState) (n : NodeMemory)
      → StandsIn p a q l n → EndsIn a q.exit
  ends_in p Runs q l n h = h.0
  ends_in p (Awaits resume want more) q l n h = h.runs
  ends_in p (HasEnded (Exited e)) q l n h = h
  ends_in p (HasEnded (Stopped b)) q l n h = (h.0, h.1)

  -- at the start, with whatever states and copies the protocol begins
  pub opening_matches : (locals : ℕ → NodeMemory) (rest : protocol.Rest)
      → side.Holds locals rest work.program.first → ((i : ℕ) → (locals i).reservation ≡ None)
      → ((i b : ℕ) → i < work.layout.nodes → protocol.wait rest i b ≡ None)
      → Matches (λ i. first_pace) (first_lane work) (λ i. Runs) locals rest (opening (original_with layout work))
  opening_matches locals rest held no_reservation no_wants = record {
    shares = record {
      held = held;
      reservations = λ j low. no_reservation j;
      readable = λ j low a h c. let bad : None ≡ Some a = sym (no_reservation j) ∙ h in cc;
    };
    stands = λ i low. (
      refl,
      code.starts i (locals i) (side.suits locals rest work.program.first held i low),
    );
    waits = no_wants;
  }

  module _ (paces : ℕ → Pace) (lanes : ℕ → ProcessorState) (doing : ℕ → Activity) (locals : ℕ → NodeMemory)
      (rest : protocol.Rest) (s : State) (m : Matches paces lanes doing locals rest s) (i : ℕ)
      (below : i < work.layout.nodes) where
    abbrev l : ProcessorState
    l = lanes i

    abbrev n : NodeMemory
    n = locals i

    abbrev q : Processor
    q = s.processors i

    suits : Suits work.program n
    suits = side.suits locals rest s.shared m.shares.held i below

    -- a node that runs executes a word, and asks for what the word wants
    module _ (runs : doing i ≡ Runs) (executed : ℕ) where
      abbrev pub r : WordOutcome
      r = next_outcome work.program work.image l n

      abbrev pub kind : CommitKind
      kind = commit_at work.program plan (old_of work.image l.at)

      abbrev pub commits : Bool
      commits = is_exit r.move || commits_by kind r

      pub here : (q.exit ≡ None) × code.Stands (paces i) q l n
      here = subst (λ a. StandsIn (paces i) a q l n) runs (m.stands i below)

      abbrev pub pace : Pace
      pace = pace_after (pace_at work l (paces i)) kind r

      abbrev Then : Processor → ProcessorState → NodeMemory → Type 0
      Then = code.Stands pace

      abbrev behind_word : State
      behind_word = run (original_with layout work) s (picked i commits)

      abbrev asked : Handled protocol.Rest
      asked = want_all layout work plan protocol (with_local locals i r.local) rest i
          (each_block_once layout (wants_of r.move))

      word : WordAdvanced layout work plan Then (sharing_at rest) locals s m.shares i below
          here.0 r commits
      word = word_advanced layout work plan Then (sharing_at rest) locals s m.shares i below
          here.0 r kind (code.word_follows (paces i) q l n suits here.0 here.1)

      shares1 : Shares layout work (sharing_at rest) (with_local locals i r.local) behind_word
      shares1 = shares_behind layout work plan Then (sharing_at rest) locals s m.shares i below
          here.0 r commits word

      abbrev OnwardBy : Processor → Move → Type 0
      OnwardBy p mv = Onward layout work plan Then (sharing_at rest) locals s m.shares i below
          here.0 r p mv

      none : (c : ℕ) → protocol.wait rest i c ≡ None
      none c = m.waits i c below ∙ ap (λ a. wait_in a c) runs

      nothing_sought : (p : Processor)
          → AllAsked layout work plan protocol side laid (with_local locals i r.local) rest
          behind_word i below p []
          (want_all layout work plan protocol (with_local locals i r.local) rest i [])
      nothing_sought p =
          all_asked layout work plan protocol side laid (with_local locals i r.local) rest
          behind_word i below p shares1 none [] tt (omega arith)

      goes_there : (p : Processor) (mv : Move) → r.move ≡ mv
          → (p.exit ≡ None) × Then p (lane_after work.image r.lane r.move) r.local
          → StandsIn pace (goes_or_stops executed) p (lane_after work.image r.lane mv)
          (with_local locals i r.local i)
      goes_there p mv is h =
          stands_or_stops pace executed p (lane_after work.image r.lane mv)
          (with_local locals i r.local i) h.0 (subst (λ mv. Then p (lane_after work.image r.lane mv)
          (with_local locals i r.local i)) is (subst (Then p (lane_after work.image r.lane r.move))
          (sym (local_here locals i r.local)) h.1))

      -- the wants of a move
      sought : (p : Processor) (mv : Move) → OnwardBy p mv
          → AllAsked layout work plan protocol side laid (with_local locals i r.local) rest
          behind_word i below p (each_block_once layout (wants_of mv))
          (want_all layout work plan protocol (with_local locals i r.local) rest i
          (each_block_once layout (wants_of mv)))
      sought p (Waits resume want more) h =
          let same : locals i ≡ with_local locals i r.local i =
          sym h.1.local ∙ sym (local_here locals i r.local) in
          all_asked layout work plan protocol side laid (with_local locals i r.local) rest
          behind_word i below p shares1 none (each_block_once layout (want ∷ more))
          (subst (λ (x : NodeMemory). AllWanted layout work plan p x
          (each_block_once layout (want ∷ more))) same h.1.wanted) h.1.few
      sought p other h = nothing_sought p

      -- how the processor stands then
      stands_after : (p : Processor) (mv : Move) → r.move ≡ mv → OnwardBy p mv
          → StandsIn pace (doing_after executed mv) p (lane_after work.image r.lane mv)
          (want_all layout work plan protocol (with_local locals i r.local) rest i
          (each_block_once layout (wants_of mv))).local
      stands_after p (Leaves e) is h = h
      stands_after p (Waits resume want more) is h =
          waits_standing layout work plan laid Then p n r resume
          (each_block_once layout (want ∷ more)) h.0 h.1
      stands_after p other is h = goes_there p other is h

      waits_after : (mv : Move) (c : ℕ) → wanted_in layout c (each_block_once layout (wants_of mv))
          ≡ wait_in (doing_after executed mv) c
      waits_after (Leaves e) c = refl
      waits_after (Waits resume want more) c = refl
      waits_after other c = sym (no_wait executed c)

      -- what an executed word leaves
      pub record Executed : Type 0 where
        pub advanced : Advanced (original_with layout work) s (picked i commits)
            (values_of_word i r commits) (option_to_list r.printed)
        pub behind : Matches (with_at paces i pace) (with_at lanes i (lane_after work.image r.lane r.move))
            (with_at doing i (doing_after executed r.move)) (with_local locals i asked.local)
            asked.rest behind_word
        pub licensed : commits ≡ true → Licensed n r.access

      pub word_event : Executed
      word_event =
          let p = behind_word.processors i in
          let a = sought p r.move word.behind.onward in
          record {
            advanced = word.advanced;
            licensed = word.licensed;
            behind = matches_with paces lanes doing locals rest asked.rest s behind_word m i pace
                (lane_after work.image r.lane r.move) (doing_after executed r.move) asked.local
                (shares_like layout work (sharing_at asked.rest)
                (with_local (with_local locals i r.local) i asked.local)
                (with_local locals i asked.local) behind_word
                (λ j. (elim (eqb j i) as (λ u. cond u asked.local (cond u r.local (locals j))
                ≡ cond u asked.local (locals j)) [ true ↦ refl | false ↦ refl ])) a.shares)
                (stands_after p r.move refl word.behind.onward) word.behind.others
                (λ c. a.own c ∙ waits_after r.move c) a.others;
          }

    -- a node takes a message
    module _ (executed j : ℕ) (low : j < work.layout.nodes) (may : MayTake (paces i) (doing i) l)
        (has : protocol.has_message rest i j ≡ true) where
      abbrev pub taken : Handled protocol.Rest
      taken = protocol.take locals rest i j

      abbrev pub order : Option Order
      order = protocol.order locals rest i j

      abbrev wait_then : ℕ → Option Need
      wait_then = protocol.wait taken.rest i

      left : TakeLeaves layout work protocol side.Holds locals rest s.shared i order taken
      left = side.takes locals rest s.shared m.shares.held i j below low has

      -- who waits to write a block stands at a store into it
      waiting : (k b : ℕ) → k < work.layout.nodes → protocol.wait rest k b ≡ Some Write
          → ((s.processors k).exit ≡ None)
          × ((stands_at_store work.program layout b (s.processors k).registers
          (s.processors k).pc ≡ true)
          ⊎ RunsToStore work.program layout b (s.processors k).registers (s.processors k).pc)
      waiting k b low e = go (doing k) (m.stands k low) (sym (m.waits k b low) ∙ e)
        where
          go : (a : Activity) → StandsIn (paces k) a (s.processors k) (lanes k) (locals k)
              → wait_in a b ≡ Some Write → ((s.processors k).exit ≡ None)
              × ((stands_at_store work.program layout b (s.processors k).registers
              (s.processors k).pc ≡ true)
              ⊎ RunsToStore work.program layout b (s.processors k).registers (s.processors k).pc)
          go Runs h is = let bad : None ≡ Some Write = is in cc
          go (HasEnded x) h is = let bad : None ≡ Some Write = is in cc
          go (Awaits resume want more) h is = (
            h.runs,
            waiting_stores layout work plan laid (code.Stands (paces k)) (s.processors k) b (want ∷ more)
                h.sought is,
          )

      -- a wait of a node that waits for nothing
      ended : (b : ℕ) → protocol.wait rest i b ≡ None → wait_then b ≡ None
      ended b e = elim (left.own b) [ inl f ↦ f ∙ e | inr f ↦ f ]

      abbrev picks : List Pick
      picks = break_by layout i order n.reservation

      abbrev state_then : State
      state_then = run (original_with layout work) s picks

      message : Taken layout work (sharing_at rest) (sharing_at taken.rest) locals s i taken.local
          m.shares below order
          (took_by layout work protocol side laid locals rest s i order taken waiting left) picks
      message = message_shares layout work (sharing_at rest) (sharing_at taken.rest) locals s i
          taken.local m.shares below order
          (took_by layout work protocol side laid locals rest s i order taken waiting left)

      suits_then : Suits work.program taken.local
      suits_then = subst (Suits work.program) (local_here locals i taken.local)
          (side.suits (with_local locals i taken.local) taken.rest s.shared left.held i below)

      -- a last wait that ends lets the processor go on
      stands_then : (a : Activity) → doing i ≡ a → MayTake (paces i) a l → StandsIn (paces i) a q l n
          → ((b : ℕ) → protocol.wait rest i b ≡ wait_in a b)
          → StandsIn (paces i) (doing_taken executed wait_then a) q (lane_taken l taken.local wait_then a)
          taken.local
      stands_then Runs is can h waits =
          (h.0, code.messages_keep (paces i) q l n h.1 can.0 can.1 taken.local suits_then)
      stands_then (HasEnded (Exited e)) is can h waits = h
      stands_then (HasEnded (Stopped b)) is can h waits = h
      stands_then (Awaits resume want more) is can h waits =
          go (pending layout wait_then (want ∷ more)) refl
        where
          go : (ws : List Want) → pending layout wait_then (want ∷ more) ≡ ws
              → StandsIn (paces i) (doing_still executed resume ws) q (lane_still l taken.local resume ws)
              taken.local
          go [] e =
              stands_or_stops (paces i) executed q (lane_resumed l taken.local resume) taken.local h.runs
              (goes_on layout work plan laid (code.Stands (paces i)) (protocol.wait rest i) wait_then q l resume
              want more taken.local h suits_then waits
              (λ x b lies was gone. left.granted x.at b x.need lies was gone) e)
          go (w ∷ ws) e =
              subst (StandsWaiting layout work plan laid (code.Stands (paces i)) q l resume) e
              (waits_on layout work plan laid (code.Stands (paces i)) wait_then q l resume (want ∷ more) h)

      waits_then : (a : Activity) → ((b : ℕ) → protocol.wait rest i b ≡ wait_in a b) → (b : ℕ)
          → wait_then b ≡ wait_in (doing_taken executed wait_then a) b
      waits_then Runs waits b = ended b (waits b)
      waits_then (HasEnded e) waits b = ended b (waits b)
      waits_then (Awaits resume want more) waits b =
          pending_waits layout work plan laid (code.Stands (paces i)) (protocol.wait rest i) wait_then
          (want ∷ more) waits left.own b ∙ go (pending layout wait_then (want ∷ more))
        where
          go : (ws : List Want) → wanted_in layout b ws ≡ wait_in (doing_still executed resume ws) b
          go [] = sym (no_wait executed b)
          go (w ∷ ws) = refl

      -- what a message leaves
      pub record Took : Type 0 where
        pub advanced : Advanced (original_with layout work) s picks (λ p. []) []
        pub behind : Matches (with_at paces i (paces i)) (with_at lanes i (lane_taken l taken.local wait_then (doing i)))
            (with_at doing i (doing_taken executed wait_then (doing i)))
            (with_local locals i taken.local) taken.rest state_then

      pub message_event : Took
      message_event = record {
        advanced = message.advanced;
        behind = matches_with paces lanes doing locals rest taken.rest s state_then m i (paces i)
            (lane_taken l taken.local wait_then (doing i))
            (doing_taken executed wait_then (doing i)) taken.local message.behind
            (subst (λ (f : ℕ → Processor). StandsIn (paces i) (doing_taken executed wait_then (doing i)) (f i)
            (lane_taken l taken.local wait_then (doing i)) taken.local) (sym message.processors)
            (stands_then (doing i) refl may (m.stands i below) (λ b. m.waits i b below)))
            (λ k e. ap (λ (f : ℕ → Processor). f k) message.processors)
            (waits_then (doing i) (λ b. m.waits i b below)) left.others;
      }
