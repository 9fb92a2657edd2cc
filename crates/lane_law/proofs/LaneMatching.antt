-- Nodes of several processors that run code and exchange messages, beside the one memory: what holds
-- between two events, and that each event keeps it.
use Rattle.std.proofs.Common.{◌≡◌, ℕ, ◌<◌, cond, eqb, ltb, Bool, true, false, List, [], ◌∷◌, length, ◌+◌, ◌*◌, ◌≤◌, Option, Some, None, refl, sym, ap, ◌∙◌, subst, inl, inr, arith}
use Rattle.std.specs.Prelude.{if◌then◌else◌, ◌==◌, ◌||◌, ◌&&◌, not, is_some}
use Rattle.std.specs.Option.{option_to_list}
use Rattle.std.proofs.lemmas.Bool.Decides.{nat_tests}
use Rattle.lane_law.proofs.Names.{holds, Shape, End, Exited, Stopped, Original, Access, Nothing, Reads, Writes, WritesIf, Exchanges, Processor, State, run, CommitKind, PlanEntry, commit_at, old_of, count_of, Need, Work, ProcessorState, NodeMemory, Want, Move, Waits, Leaves, Resume, WordOutcome, lane_after, next_outcome, is_readable_state, is_writable_state, wants_of, each_block_once, is_exit, is_wait, commits_by, Licensed, lost}
use Rattle.rewriting_law.proofs.templates.RegisterLemmas.{equal}
use Rattle.rewriting_law.proofs.templates.States.{Suits, Later}
use Rattle.rewriting_law.proofs.words.CodeSide.{AllWanted, Follows}
use Rattle.rewriting_law.proofs.one_memory.Advances.{Advanced}
use Rattle.rewriting_law.proofs.one_memory.Sharing.{Sharing, with_local, is_same, local_here}
use Rattle.rewriting_law.proofs.one_memory.Messages.{AreLaidOut}
use Rattle.rewriting_law.proofs.one_memory.Pending.{wanted_in, StandsWaiting, waits_standing}
use Rattle.rewriting_law.proofs.protocol_side.ProtocolSide.{Protocol, ProtocolSide, sharing_by}
use Rattle.lane_law.proofs.LaneCode.{LaneCode}
use Rattle.rewriting_law.proofs.one_memory.SharedWords.{ended, ended_left, picked, values_of_word, original, seen, Shares, reserved_after, Onward, WordAdvanced, word_advanced}
use Rattle.lane_law.proofs.LaneWaits.{gather, gathered, gather_room}
use Rattle.lane_law.proofs.LaneWants.{AreWaits, Asked, IsCovered, WantsMore, want_all, AllAsked, all_asked}

-- what a processor does: it runs, it waits with its lane at the word that wants, maybe to execute
-- that word again, or it has ended
pub data Doing : Type 0 where
  Runs : Doing
  Awaits : (resume : Resume) (want : Want) (more : List Want) (again : Bool) → Doing
  HasEnded : (end : End) → Doing

abbrev pub with_at : {A : Type 0} → (ℕ → A) → ℕ → A → ℕ → A
with_at f i a j = if j == i then a else f j

-- an address that is reserved still was reserved
pub left_held : (o o' : Option ℕ) → ((y : ℕ) → o' ≡ Some y → o ≡ Some y) → (x : ℕ)
    → holds o' x ≡ true → holds o x ≡ true
left_held o None left x h = let bad : false ≡ true = h in cc
left_held o (Some y) left x h = ap (λ z. holds z x) (left y refl) ∙ h

-- what another's access leaves of a reservation
pub lost_ends : (layout : Shape) (x : Access) (o : Option ℕ) → lost layout x o ≡ ended layout x o
lost_ends layout Nothing o = refl
lost_ends layout (Reads k a value) o = refl
lost_ends layout (Writes w a value) o = refl
lost_ends layout (WritesIf a value true) o = refl
lost_ends layout (WritesIf a value false) o = refl
lost_ends layout (Exchanges a old new) o = refl

module _ (layout : Shape) (work : Work) (processors : ℕ) (node_of : ℕ → ℕ)
    (placed : (p : ℕ) → p < processors → node_of p < work.layout.nodes) (plan : List PlanEntry)
    (code : LaneCode layout work processors plan) (protocol : Protocol)
    (side : ProtocolSide layout work protocol) (laid : AreLaidOut layout work) where
  abbrev sharing_at : protocol.Rest → Sharing layout work
  sharing_at rest = sharing_by layout work protocol side laid rest

  abbrev sees : (ℕ → NodeMemory) → (ℕ → Option ℕ) → ℕ → NodeMemory
  sees = seen layout work processors node_of placed

  abbrev SharesAt : protocol.Rest → (ℕ → NodeMemory) → (ℕ → Option ℕ) → State → Type 0
  SharesAt rest locals reserved s =
      Shares layout work processors node_of placed (sharing_at rest) locals reserved s

  -- how a processor fits what it does. Only where it runs does this speak of the node as it is
  abbrev pub StandsIn : Doing → Processor → ProcessorState → NodeMemory → Type 0
  StandsIn Runs q l n = (q.exit ≡ None) × code.Stands q l n
  StandsIn (Awaits resume want more again) q l n =
      StandsWaiting layout work plan laid code.Stands q l resume (want ∷ more)
      × ((m : NodeMemory) → code.Stands q l m) × (length (want ∷ more) ≤ 2)
  StandsIn (HasEnded (Exited e)) q l n = q.exit ≡ Some e
  StandsIn (HasEnded (Stopped b)) q l n = (q.exit ≡ None) × (b ≡ work.budget)

  -- what it waits for of a block
  abbrev pub wait_in : Doing → ℕ → Option Need
  wait_in Runs b = None
  wait_in (Awaits resume want more again) b = wanted_in layout b (want ∷ more)
  wait_in (HasEnded e) b = None

  abbrev pub again_in : Doing → Bool
  again_in (Awaits resume want more again) = again
  again_in d = false

  -- processor h of node i holds the wait of the node for the block
  abbrev pub IsHeld : (ℕ → Doing) → (i b : ℕ) → Need → ℕ → Type 0
  IsHeld doing i b need h = (h < processors) × (node_of h ≡ i) × (wait_in (doing h) b ≡ Some need)

  pub record Matches (lanes : ℕ → ProcessorState) (doing : ℕ → Doing) (locals : ℕ → NodeMemory)
      (reserved : ℕ → Option ℕ) (rest : protocol.Rest) (holder : ℕ → ℕ → ℕ) (s : State)
      : Type 0 where
    pub shares : SharesAt rest locals reserved s
    pub stands : (p : ℕ) → p < processors
        → StandsIn (doing p) (s.processors p) (lanes p) (sees locals reserved p)
    -- each wait of a node is held by one of its processors, which waits for it
    pub held : (i b : ℕ) (need : Need) → i < work.layout.nodes
        → protocol.wait rest i b ≡ Some need → IsHeld doing i b need (holder i b)
    -- what a processor waits for its node waits for, in a way that serves it, or the processor
    -- executes its word again
    pub covered : (p b : ℕ) (need : Need) → p < processors → wait_in (doing p) b ≡ Some need
        → IsCovered (protocol.wait rest (node_of p) b) need (again_in (doing p))

  -- a processor that has executed so many words, with nothing pending
  abbrev pub goes_or_stops : ℕ → Doing
  goes_or_stops executed = if executed == work.budget then HasEnded (Stopped work.budget) else Runs

  pub stands_or_stops : (executed : ℕ) (q : Processor) (l : ProcessorState) (n : NodeMemory) → q.exit ≡ None
      → code.Stands q l n → StandsIn (goes_or_stops executed) q l n
  stands_or_stops executed q l n e st = go (eqb executed work.budget)
    where
      go : (u : Bool) → StandsIn (cond u (HasEnded (Stopped work.budget)) Runs) q l n
      go true = (e, refl)
      go false = (e, st)

  pub no_wait : (executed b : ℕ) → wait_in (goes_or_stops executed) b ≡ None
  no_wait executed b = go (eqb executed work.budget)
    where
      go : (u : Bool) → wait_in (cond u (HasEnded (Stopped work.budget)) Runs) b ≡ None
      go true = refl
      go false = refl

  -- what a processor does once these blocks of its node are waited for
  abbrev pub doing_still : ℕ → Resume → List Want → Bool → Doing
  doing_still executed resume [] again = goes_or_stops executed
  doing_still executed resume (w ∷ ws) again = Awaits resume w ws again

  -- what a processor does after a word, which has asked for its wants
  abbrev pub doing_after : ℕ → Bool → Move → Doing
  doing_after executed again (Leaves e) = HasEnded (Exited e)
  doing_after executed again (Waits resume want more) =
      doing_still executed resume (each_block_once layout (want ∷ more)) again
  doing_after executed again m = goes_or_stops executed

  -- who holds the waits then: the processor holds those that were none's
  abbrev pub holder_after : protocol.Rest → (holder : ℕ → ℕ → ℕ) → (p i x c : ℕ) → ℕ
  holder_after rest holder p i x c =
      if x == i && not (is_some (protocol.wait rest x c)) then p else holder x c

  -- 1. A word

  module _ (most : ℕ)
      (more : WantsMore layout work processors node_of placed plan protocol side laid most)
      (lanes : ℕ → ProcessorState) (doing : ℕ → Doing) (locals : ℕ → NodeMemory) (reserved : ℕ → Option ℕ)
      (rest : protocol.Rest) (holder : ℕ → ℕ → ℕ) (s : State)
      (m : Matches lanes doing locals reserved rest holder s) (p : ℕ) (below : p < processors)
      (runs : doing p ≡ Runs) (executed : ℕ) (qs : List Want)
      (are : AreWaits layout work processors node_of placed plan protocol side laid most rest
      (node_of p) qs) (room : length qs + 2 ≤ most) where
    abbrev ours : ℕ
    ours = node_of p

    there : ours < work.layout.nodes
    there = placed p below

    abbrev l : ProcessorState
    l = lanes p

    abbrev n : NodeMemory
    n = sees locals reserved p

    abbrev q : Processor
    q = s.processors p

    suits : Suits work.program n
    suits =
        let h = side.suits locals rest s.shared m.shares.held ours there in
        record { states = h.states; flagged = h.flagged }

    abbrev pub r : WordOutcome
    r = next_outcome work.program work.image l n

    abbrev pub kind : CommitKind
    kind = commit_at work.program plan (old_of work.image l.at)

    abbrev pub commits : Bool
    commits = is_exit r.move || commits_by kind r

    pub here : (q.exit ≡ None) × code.Stands q l n
    here = subst (λ a. StandsIn a q l n) runs (m.stands p below)

    abbrev orig : Original
    orig = original layout work processors node_of placed

    abbrev OnwardBy : Processor → Move → Type 0
    OnwardBy x mv = Onward layout work processors node_of placed plan code.Stands (lost layout)
        (lost_ends layout) (sharing_at rest) locals reserved s m.shares p below here.0 r x mv

    pub word : WordAdvanced layout work processors node_of placed plan code.Stands (lost layout)
        (lost_ends layout) (sharing_at rest) locals reserved s m.shares p below here.0 r commits
    word = word_advanced layout work processors node_of placed plan code.Stands (lost layout)
        (lost_ends layout) (sharing_at rest) locals reserved s m.shares p below here.0 r kind
        (code.word_follows q l n suits here.0 here.1)

    abbrev pub behind_word : State
    behind_word = run orig s (picked p commits)

    abbrev locals1 : ℕ → NodeMemory
    locals1 = with_local locals ours r.local

    abbrev reserved1 : ℕ → Option ℕ
    reserved1 = reserved_after layout work processors node_of placed (lost layout) reserved p r

    abbrev pub asked : Asked layout work processors node_of placed plan protocol
    asked = want_all layout work processors node_of placed plan protocol locals1 rest ours
        (each_block_once layout (wants_of r.move))

    abbrev pub locals2 : ℕ → NodeMemory
    locals2 = with_local locals1 ours asked.handled.local

    abbrev AskedBy : Processor → List Want → Type 0
    AskedBy x ws =
        AllAsked layout work processors node_of placed plan protocol side laid most more locals1 rest
        reserved1 behind_word ours there x qs are room ws
        (want_all layout work processors node_of placed plan protocol locals1 rest ours ws)

    nothing_sought : (x : Processor) → AskedBy x []
    nothing_sought x =
        all_asked layout work processors node_of placed plan protocol side laid most more locals1 rest
        reserved1 behind_word ours there x qs are room word.behind.shared [] tt (omega arith)

    -- the wants of a move
    sought : (x : Processor) (mv : Move) → OnwardBy x mv
        → AskedBy x (each_block_once layout (wants_of mv))
    sought x (Waits resume want ws) h =
        let same : (line : ℕ) → n.state line ≡ (locals1 ours).state line =
        λ line. ap (λ (y : NodeMemory). y.state line) (sym h.1.local
        ∙ sym (local_here locals ours r.local)) in
        all_asked layout work processors node_of placed plan protocol side laid most more locals1 rest
        reserved1 behind_word ours there x qs are room word.behind.shared
        (each_block_once layout (want ∷ ws))
        (subst (λ (y : NodeMemory). AllWanted layout work plan x y (each_block_once layout (want ∷ ws)))
        (sym h.1.local ∙ sym (local_here locals ours r.local)) h.1.wanted) h.1.few
    sought x other h = nothing_sought x

    abbrev pub d : Doing
    d = doing_after executed asked.again r.move

    -- what the processor sees once nothing was asked for
    abbrev sees_after : List Want → NodeMemory
    sees_after ws = record (with_local locals1 ours (want_all layout work processors node_of placed
        plan protocol locals1 rest ours ws).handled.local ours) { reservation = r.local.reservation }

    goes_there : (x : Processor) (mv : Move) → r.move ≡ mv
        → (x.exit ≡ None) × code.Stands x (lane_after work.image r.lane r.move) r.local
        → StandsIn (goes_or_stops executed) x (lane_after work.image r.lane mv) (sees_after [])
    goes_there x mv is h =
        stands_or_stops executed x (lane_after work.image r.lane mv) (sees_after []) h.0
        (subst (λ mv. code.Stands x (lane_after work.image r.lane mv) (sees_after [])) is
        (subst (code.Stands x (lane_after work.image r.lane r.move))
        (ap (λ (y : NodeMemory). record y { reservation = r.local.reservation })
        (sym (local_here locals ours r.local) ∙ sym (local_here locals1 ours (locals1 ours)))) h.1))

    stands_after : (x : Processor) (again : Bool) (mv : Move) → r.move ≡ mv → OnwardBy x mv
        → (is_wait mv ≡ true → (k : NodeMemory) → code.Stands x r.lane k)
        → StandsIn (doing_after executed again mv) x (lane_after work.image r.lane mv)
        (sees_after (each_block_once layout (wants_of mv)))
    stands_after x again (Leaves e) is h anew = h
    stands_after x again (Waits resume want ws) is h anew = (
      waits_standing layout work plan laid code.Stands x n r resume
          (each_block_once layout (want ∷ ws)) h.0 h.1,
      anew refl,
      h.1.few,
    )
    stands_after x again other is h anew = goes_there x other is h

    -- a word that waits commits nothing, and its processor is as it was
    uncommitted : (mv : Move) → r.move ≡ mv → is_wait mv ≡ true
        → Follows layout work plan code.Stands q n r kind mv → commits ≡ false
    uncommitted (Waits resume want ws) is waits h =
        ap (λ v. is_exit v || commits_by kind r) is ∙ h.0
    uncommitted other is waits h = let bad : false ≡ true = waits in cc

    stands_anew : is_wait r.move ≡ true → (k : NodeMemory)
        → code.Stands (behind_word.processors p) r.lane k
    stands_anew waits k =
        let still : behind_word ≡ s =
        ap (λ u. run orig s (picked p u)) (uncommitted r.move refl waits
        (code.word_follows q l n suits here.0 here.1)) in
        subst (λ (t : State). code.Stands (t.processors p) r.lane k) (sym still)
        (code.anew q l n k here.1 waits)

    waits_after : (again : Bool) (mv : Move) (c : ℕ) → wait_in (doing_after executed again mv) c
        ≡ wanted_in layout c (each_block_once layout (wants_of mv))
    waits_after again (Leaves e) c = refl
    waits_after again (Waits resume want ws) c = refl
    waits_after again other c = no_wait executed c

    nothing_wanted : (b : ℕ) (need : Need) → wait_in (goes_or_stops executed) b ≡ Some need → ⊥
    nothing_wanted b need h = let bad : None ≡ Some need = sym (no_wait executed b) ∙ h in cc

    again_after : (again : Bool) (mv : Move) (b : ℕ) (need : Need)
        → wait_in (doing_after executed again mv) b ≡ Some need
        → again_in (doing_after executed again mv) ≡ again
    again_after again (Leaves e) b need h = let bad : None ≡ Some need = h in cc
    again_after again (Waits resume want ws) b need h = refl
    again_after again other b need h = absurd (nothing_wanted b need h)

    a : AskedBy (behind_word.processors p) (each_block_once layout (wants_of r.move))
    a = sought (behind_word.processors p) r.move word.behind.onward

    abbrev pub rest2 : protocol.Rest
    rest2 = asked.handled.rest

    -- what another processor of the node sees is later than before
    later : (j : ℕ) → eqb j p ≡ false → eqb (node_of j) ours ≡ true
        → Later (sees locals reserved j) (sees locals2 reserved1 j)
    later j other same = record {
      reads = λ line h. ap (λ (k : NodeMemory). is_readable_state (k.state line)) to
          ∙ a.reads line (ap (λ (u : ℕ → ℕ). is_readable_state (u line)) from ∙ h);
      writes = λ line h. ap (λ (k : NodeMemory). is_writable_state (k.state line)) to
          ∙ a.writes line (ap (λ (u : ℕ → ℕ). is_writable_state (u line)) from ∙ h);
      reserved = λ x h. left_held (reserved j) (reserved1 j) (λ y e.
          ended_left layout r.access (reserved j) y
          (sym (lost_ends layout r.access (reserved j)) ∙ sym now ∙ e)) x h;
    }
      where
        to : with_local locals1 ours asked.handled.local (node_of j) ≡ asked.handled.local
        to = ap (λ t. cond t asked.handled.local (locals1 (node_of j))) same

        from : (locals1 ours).state ≡ (locals (node_of j)).state
        from = ap (λ (k : NodeMemory). k.state) (local_here locals ours r.local) ∙ word.behind.states
            ∙ ap (λ k. (locals k).state) (sym (is_same (node_of j) ours same))

        now : reserved1 j ≡ lost layout r.access (reserved j)
        now = ap (λ t. cond t r.local.reservation (cond (eqb (node_of j) ours)
            (lost layout r.access (reserved j)) (reserved j))) other
            ∙ ap (λ t. cond t (lost layout r.access (reserved j)) (reserved j)) same

    stands_on : (j : ℕ) → eqb j p ≡ false → (u : Bool) → eqb (node_of j) ours ≡ u → (a : Doing)
        → StandsIn a (s.processors j) (lanes j) (sees locals reserved j)
        → StandsIn a (s.processors j) (lanes j) (sees locals2 reserved1 j)
    stands_on j other u e Runs h = (h.0, by u e)
      where
        by : (u : Bool) → eqb (node_of j) ours ≡ u
            → code.Stands (s.processors j) (lanes j) (sees locals2 reserved1 j)
        by true e = code.stays (s.processors j) (lanes j) (sees locals reserved j)
            (sees locals2 reserved1 j) h.1 (later j other e)
        by false e =
            subst (code.Stands (s.processors j) (lanes j))
            (sym (ap (λ t. record (cond t asked.handled.local (cond t r.local (locals (node_of j)))) {
              reservation = cond (eqb j p) r.local.reservation
                  (cond t (lost layout r.access (reserved j)) (reserved j));
            }) e ∙ ap (λ t. record (locals (node_of j)) {
              reservation = cond t r.local.reservation (reserved j);
            }) other)) h.1
    stands_on j other u e (Awaits resume want ws again) h = h
    stands_on j other u e (HasEnded (Exited x)) h = h
    stands_on j other u e (HasEnded (Stopped b)) h = h

    own_sees : sees locals2 reserved1 p ≡ sees_after (each_block_once layout (wants_of r.move))
    own_sees = ap (λ t. record (locals2 ours) {
      reservation = cond t r.local.reservation (cond (eqb (node_of p) ours)
          (lost layout r.access (reserved p)) (reserved p));
    }) (equal p p refl)

    abbrev holder2 : ℕ → ℕ → ℕ
    holder2 = holder_after rest holder p ours

    abbrev doing2 : ℕ → Doing
    doing2 = with_at doing p d

    -- who held a wait holds it still
    holds_on : (i b h : ℕ) (need : Need) → IsHeld doing i b need h → IsHeld doing2 i b need h
    holds_on i b h need is = (is.0, is.1, go (eqb h p) refl)
      where
        go : (u : Bool) → eqb h p ≡ u → wait_in (cond (eqb h p) d (doing h)) b ≡ Some need
        go false e = ap (λ t. wait_in (cond t d (doing h)) b) e ∙ is.2
        go true e =
            let bad : None ≡ Some need =
            ap (λ x. wait_in x b) (sym runs) ∙ ap (λ k. wait_in (doing k) b) (sym (is_same h p e))
            ∙ is.2 in cc

    held_after : (i b : ℕ) (need : Need) → i < work.layout.nodes
        → protocol.wait rest2 i b ≡ Some need → IsHeld doing2 i b need (holder2 i b)
    held_after i b need low is = at_node (eqb i ours) refl
      where
        old : protocol.wait rest i b ≡ Some need → IsHeld doing2 i b need (holder2 i b)
        old was =
            subst (IsHeld doing2 i b need)
            (sym (ap (λ t. cond (eqb i ours && not t) p (holder i b)) (ap is_some was)
            ∙ either (eqb i ours))) (holds_on i b (holder i b) need (m.held i b need low was))
          where
            either : (u : Bool) → cond (u && not true) p (holder i b) ≡ holder i b
            either true = refl
            either false = refl

        mine : i ≡ ours → protocol.wait rest i b ≡ None
            → wanted_in layout b (each_block_once layout (wants_of r.move)) ≡ Some need
            → IsHeld doing2 i b need (holder2 i b)
        mine same was wants =
            subst (IsHeld doing2 i b need)
            (sym (ap (λ t. cond (t && not (is_some (protocol.wait rest i b))) p (holder i b))
            (equal i ours same) ∙ ap (λ t. cond (not t) p (holder i b)) (ap is_some was))) (
              below,
              sym same,
              ap (λ t. wait_in (cond t d (doing p)) b) (equal p p refl)
                  ∙ waits_after asked.again r.move b ∙ wants,
            )

        at_node : (u : Bool) → eqb i ours ≡ u → IsHeld doing2 i b need (holder2 i b)
        at_node false e = old (sym (a.others i b e) ∙ is)
        at_node true e =
            let same = is_same i ours e in
            elim (a.fresh b need (ap (λ k. protocol.wait rest2 k b) (sym same) ∙ is)) [
              | inl f ↦ old (ap (λ k. protocol.wait rest k b) same ∙ f)
              | inr f ↦ mine same (ap (λ k. protocol.wait rest k b) same ∙ f.0) f.1
            ]

    covered_kept : (o o' : Option Need) (need : Need) (again : Bool)
        → ((have : Need) → o ≡ Some have → o' ≡ Some have) → IsCovered o need again
        → IsCovered o' need again
    covered_kept None o' need again keeps h = absurd h
    covered_kept (Some have) o' need again keeps h =
        subst (λ z. IsCovered z need again) (sym (keeps have refl)) h

    covered_after : (j b : ℕ) (need : Need) → j < processors → wait_in (doing2 j) b ≡ Some need
        → IsCovered (protocol.wait rest2 (node_of j) b) need (again_in (doing2 j))
    covered_after j b need low = go (eqb j p) refl
      where
        go : (u : Bool) → eqb j p ≡ u → wait_in (cond u d (doing j)) b ≡ Some need
            → IsCovered (protocol.wait rest2 (node_of j) b) need (again_in (cond u d (doing j)))
        go true e h =
            subst (IsCovered (protocol.wait rest2 (node_of j) b) need)
            (sym (again_after asked.again r.move b need h))
            (subst (λ k. IsCovered (protocol.wait rest2 (node_of k) b) need asked.again)
            (sym (is_same j p e)) (a.covered b need (sym (waits_after asked.again r.move b) ∙ h)))
        go false e h =
            covered_kept (protocol.wait rest (node_of j) b) (protocol.wait rest2 (node_of j) b) need
            (again_in (doing j)) (keeps (eqb (node_of j) ours) refl) (m.covered j b need low h)
          where
            keeps : (u : Bool) → eqb (node_of j) ours ≡ u → (have : Need)
                → protocol.wait rest (node_of j) b ≡ Some have
                → protocol.wait rest2 (node_of j) b ≡ Some have
            keeps false f have g = a.others (node_of j) b f ∙ g
            keeps true f have g =
                let same = is_same (node_of j) ours f in
                ap (λ k. protocol.wait rest2 k b) same
                ∙ a.kept b have (ap (λ k. protocol.wait rest k b) (sym same) ∙ g)

    -- what an executed word leaves
    pub record Executed : Type 0 where
      pub advanced : Advanced orig s (picked p commits) (values_of_word p r commits)
          (option_to_list r.printed)
      pub behind : Matches (with_at lanes p (lane_after work.image r.lane r.move)) doing2 locals2
          reserved1 rest2 holder2 behind_word
      pub licensed : commits ≡ true → Licensed n r.access

    pub word_event : Executed
    word_event = record {
      advanced = word.advanced;
      licensed = word.licensed;
      behind = record {
        shares = a.shares;
        stands = λ j low. (elim (eqb j p) as (λ u. eqb j p ≡ u
            → StandsIn (cond u d (doing j)) (behind_word.processors j)
            (cond u (lane_after work.image r.lane r.move) (lanes j)) (sees locals2 reserved1 j)) [
              | true ↦ (λ e. subst (λ k. StandsIn d (behind_word.processors k)
                  (lane_after work.image r.lane r.move) (sees locals2 reserved1 k))
                  (sym (is_same j p e)) (subst (StandsIn d (behind_word.processors p)
                  (lane_after work.image r.lane r.move)) (sym own_sees)
                  (stands_after (behind_word.processors p) asked.again r.move refl
                  word.behind.onward stands_anew)))
              | false ↦ (λ e. subst (λ q. StandsIn (doing j) q (lanes j)
                  (sees locals2 reserved1 j)) (sym (word.behind.others j e))
                  (stands_on j e (eqb (node_of j) ours) refl (doing j) (m.stands j low)))
            ]) refl;
        held = held_after;
        covered = covered_after;
      };
    }

  -- 2. Room for a word's wants

  abbrev pub wants_in : Doing → List Want
  wants_in Runs = []
  wants_in (Awaits resume want more again) = want ∷ more
  wants_in (HasEnded e) = []

  wanted_by : (a : Doing) (b : ℕ) → wanted_in layout b (wants_in a) ≡ wait_in a b
  wanted_by Runs b = refl
  wanted_by other b = refl

  -- so many processors at most are at a node, and a node may wait for two blocks for each
  module _ (most lanes : ℕ) (room : 2 * lanes ≤ most)
      (crowd : (i : ℕ) → count_of (λ j. node_of j == i) processors ≤ lanes) (at : ℕ → ProcessorState)
      (doing : ℕ → Doing) (locals : ℕ → NodeMemory) (reserved : ℕ → Option ℕ) (rest : protocol.Rest)
      (holder : ℕ → ℕ → ℕ) (s : State) (m : Matches at doing locals reserved rest holder s) (p : ℕ)
      (below : p < processors) (runs : doing p ≡ Runs) where
    abbrev wanted_of : ℕ → List Want
    wanted_of j = if ltb j processors then wants_in (doing j) else []

    within : (j : ℕ) → j < processors → wanted_of j ≡ wants_in (doing j)
    within j low =
        let yes : ltb j processors ≡ true = grind (arith, nat_tests) in
        ap (λ t. cond t (wants_in (doing j)) []) yes

    two_at_most : (j : ℕ) → length (wanted_of j) ≤ 2
    two_at_most j = go (ltb j processors) refl
      where
        by : (a : Doing) → StandsIn a (s.processors j) (at j) (sees locals reserved j)
            → length (wants_in a) ≤ 2
        by Runs h = omega arith
        by (Awaits resume want more again) h = h.2
        by (HasEnded e) h = omega arith

        go : (u : Bool) → ltb j processors ≡ u → length (cond u (wants_in (doing j)) []) ≤ 2
        go true e = by (doing j) (m.stands j (grind (arith, nat_tests)))
        go false e = omega arith

    abbrev pub waits_there : List Want
    waits_there =
        gather layout (protocol.wait rest (node_of p)) (holder (node_of p)) node_of (node_of p)
        wanted_of processors

    pub are_waits : AreWaits layout work processors node_of placed plan protocol side laid most rest
        (node_of p) waits_there
    are_waits = record {
      waits = gathered layout (protocol.wait rest (node_of p)) (holder (node_of p)) node_of
          (node_of p) wanted_of processors (λ c need e.
          let h = m.held (node_of p) c need (placed p below) e in (
            h.0,
            h.1,
            ap (wanted_in layout c) (within (holder (node_of p) c) h.0)
                ∙ wanted_by (doing (holder (node_of p) c)) c ∙ h.2,
          ));
    }

    pub has_room : length waits_there + 2 ≤ most
    has_room =
        let r = gather_room layout (protocol.wait rest (node_of p)) (holder (node_of p)) node_of
        (node_of p) wanted_of two_at_most p (within p below ∙ ap wants_in runs) refl processors below
        in
        let c = crowd (node_of p) in
        omega (arith, r, c, room)
