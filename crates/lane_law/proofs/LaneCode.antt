-- The code's side of the composition for nodes of several processors: a processor stands at a word
-- whatever its pace, and stays there while the others of its node go on.
use Rattle.std.proofs.Common.{◌≡◌, ℕ, ◌+◌, ◌⊎◌, Bool, true, false, List, ◌∷◌, length, None, refl, sym, ap, ◌∙◌, subst, inl, inr, arith}
use Rattle.std.specs.Prelude.{option_and_then, unwrap_or, IsSome}
use Rattle.lane_law.proofs.Names.{Shape, Fetch, IsAccepted, registers_of, first_values, Original, Processor, first_processor, request, CommitKind, PlanEntry, commit_at, IsRewriting, head_of, old_of, fetch, Work, ProcessorState, NodeMemory, Move, Waits, Leaves, WordOutcome, exit_by, execute, execute_at, next_outcome, lane_after, first_lane, takes_messages, is_wait, commits_by}
use Rattle.rewriting_law.proofs.templates.States.{Suits, Later}
use Rattle.rewriting_law.proofs.templates.Does.{does_later}
use Rattle.rewriting_law.proofs.words.Plans.{split_at}
use Rattle.rewriting_law.proofs.words.Fetching.{word_address, fetch_off, new_of_place, placed_batch}
use Rattle.rewriting_law.proofs.words.Spots.{kind_of, number}
use Rattle.rewriting_law.proofs.words.Turns.{commits_by_request}
use Rattle.rewriting_law.proofs.words.Standing.{Stands, Off, some_items, address_of}
use Rattle.rewriting_law.proofs.words.Paces.{Paced, single_paced}
use Rattle.rewriting_law.proofs.words.NextWord.{executes_at, address, place_at, word_of_item, messages_keep as paced_keep}
use Rattle.rewriting_law.proofs.words.CodeSide.{Pace, Follows, GoesOn}
use Rattle.rewriting_law.proofs.words.CodeFollows as paced
use Rattle.rewriting_law.proofs.one_memory.Messages.{AreLaidOut}
use Rattle.lane_law.proofs.Anew.{item_anew, waits_same}

-- what the composition needs of code, on so many processors
module _ (layout : Shape) (work : Work) (processors : ℕ) (plan : List PlanEntry) where
  abbrev original : Original
  original = record { program = work.program; layout = layout; nodes = processors }

  -- a processor's lane at the start
  abbrev pub lane_first : ℕ → ProcessorState
  lane_first p = record (first_lane work p) { registers = registers_of (first_values p processors) }

  pub record LaneCode : Type 1 where
    -- the node stands, by its lane and by what its words see, where its processor does
    pub Stands : Processor → ProcessorState → NodeMemory → Type 0
    -- the next word
    pub word_follows : (q : Processor) (l : ProcessorState) (n : NodeMemory) → Suits work.program n
        → q.exit ≡ None → Stands q l n
        → Follows layout work plan Stands q n (next_outcome work.program work.image l n)
        (commit_at work.program plan (old_of work.image l.at))
        (next_outcome work.program work.image l n).move
    -- whatever the other processors of the node, and messages that take nothing away, make of what
    -- it sees, it stands there still
    pub stays : (q : Processor) (l : ProcessorState) (n m : NodeMemory) → Stands q l n → Later n m → Stands q l m
    -- where the next word waits, it stands there whatever becomes of the node
    pub anew : (q : Processor) (l : ProcessorState) (n m : NodeMemory) → Stands q l n
        → is_wait (next_outcome work.program work.image l n).move ≡ true
        → Stands q (next_outcome work.program work.image l n).lane m
    -- where the next word is one before which messages are taken, it stands there whatever they
    -- bring
    pub messages_keep : (q : Processor) (l : ProcessorState) (n : NodeMemory) → Stands q l n
        → takes_messages (option_and_then (λ w. w.what) (fetch work.image l.at)) ≡ true
        → (m : NodeMemory) → Suits work.program m → Stands q l m
    -- and so it does at the start
    pub starts : (p : ℕ) (n : NodeMemory) → Suits work.program n
        → Stands (first_processor original p) (lane_first p) n

  -- what follows where a processor stands in one way follows where it stands in a weaker one
  module _ (work_accepted : IsAccepted work.program) (Stands Weaker : Processor → ProcessorState → NodeMemory → Type 0)
      (weaken : (q : Processor) (l : ProcessorState) (n : NodeMemory) → Stands q l n → Weaker q l n) where
    goes_weaker : (q : Processor) (n : NodeMemory) (r : WordOutcome) (b : Bool)
        → GoesOn layout work plan Stands q n r b → GoesOn layout work plan Weaker q n r b
    goes_weaker q n r true h = (
      h.0,
      commits_by_request work.program work_accepted q n r (request work.program q)
          (λ p goes k suited. weaken p (lane_after work.image r.lane r.move) r.local (k suited)) h.1,
    )
    goes_weaker q n r false h =
        (h.0, h.1, weaken q (lane_after work.image r.lane r.move) n h.2, h.3)

    pub follows_weaker : (q : Processor) (n : NodeMemory) (r : WordOutcome) (kind : CommitKind) (move : Move)
        → Follows layout work plan Stands q n r kind move
        → Follows layout work plan Weaker q n r kind move
    follows_weaker q n r kind (Leaves e) h = h
    follows_weaker q n r kind (Waits resume want more) h =
        let w = h.1 in (
          h.0,
          record {
            printed = w.printed;
            local = w.local;
            silent = w.silent;
            wanted = w.wanted;
            few = w.few;
            resumed = λ m suited x among granted.
                weaken q _ m (w.resumed m suited x among granted);
          },
        )
    follows_weaker q n r kind other h = goes_weaker q n r (commits_by kind r) h

module _ (layout : Shape) (work : Work) (processors : ℕ) (plan : List PlanEntry)
    (accepted : IsAccepted work.program) (rewriting : IsRewriting work.program plan work.image)
    (laid : AreLaidOut layout work) where
  abbrev PacedAt : Pace → Processor → ProcessorState → NodeMemory → Type 0
  PacedAt p q l n = Paced work.program plan work.image accepted rewriting p q l n

  abbrev StandsThere : Processor → ProcessorState → NodeMemory → Type 0
  StandsThere q l n = Stands work.program plan work.image accepted rewriting q l n

  -- at a word of a sequence, or at word 0
  abbrev StandsOrOff : Processor → ProcessorState → NodeMemory → Type 0
  StandsOrOff q l n = StandsThere q l n ⊎ Off work.program plan work.image accepted rewriting q l

  -- a pace by which nothing is owed
  abbrev at_ease : Pace
  at_ease = record { words = 0; commits = 1; waited = false; since = 0; last = 0; here = 0 }

  paced_at_ease : (q : Processor) (l : ProcessorState) (n : NodeMemory) → StandsOrOff q l n
      → PacedAt at_ease q l n
  paced_at_ease q l n (inl st) = inl (record {
    stands = st;
    rises = inl (omega arith);
    opens = inr (λ own turns. inl refl);
    owes = inl (inr (omega arith));
  })
  paced_at_ease q l n (inr off) = inr (record {
    off = off;
    rises = omega arith;
    few = omega arith;
  })

  without_pace : (p : Pace) (q : Processor) (l : ProcessorState) (n : NodeMemory) → PacedAt p q l n
      → StandsOrOff q l n
  without_pace p q l n (inl inn) = inl inn.stands
  without_pace p q l n (inr out) = inr out.off

  word_follows : (q : Processor) (l : ProcessorState) (n : NodeMemory) → Suits work.program n
      → StandsOrOff q l n
      → Follows layout work plan StandsOrOff q n (next_outcome work.program work.image l n)
      (commit_at work.program plan (old_of work.image l.at))
      (next_outcome work.program work.image l n).move
  word_follows q l n suits st =
      follows_weaker layout work processors plan accepted _ StandsOrOff (without_pace _) q n
      (next_outcome work.program work.image l n)
      (commit_at work.program plan (old_of work.image l.at))
      (next_outcome work.program work.image l n).move
      (paced.word_follows layout work plan accepted rewriting laid q l n suits at_ease
      (paced_at_ease q l n st))

  module _ (q : Processor) (l : ProcessorState) (n : NodeMemory) where
    stays : StandsOrOff q l n → (m : NodeMemory) → Later n m → StandsOrOff q l m
    stays (inl st) m later = inl (record {
      place = st.place;
      entry = st.entry;
      in_batch = st.in_batch;
      before = st.before;
      item = st.item;
      after = st.after;
      split = st.split;
      at = st.at;
      does = does_later work.program (kind_of work.program st.in_batch st.entry.entry) st.place
          (length st.before) (word_address work.program st.entry
          (number work.program st.in_batch st.entry.entry (length st.before)))
          (st.item ∷ st.after) 0 q l n m later st.does;
    })
    stays (inr off) m later = inr off

    messages_keep : StandsOrOff q l n
        → takes_messages (option_and_then (λ w. w.what) (fetch work.image l.at)) ≡ true
        → (m : NodeMemory) → Suits work.program m → StandsOrOff q l m
    messages_keep st takes m suited =
        without_pace at_ease q l m
        (paced_keep work plan accepted rewriting q l n at_ease (paced_at_ease q l n st)
        takes refl m suited)

    anew : StandsOrOff q l n
        → is_wait (next_outcome work.program work.image l n).move ≡ true → (m : NodeMemory)
        → StandsOrOff q (next_outcome work.program work.image l n).lane m
    anew (inl st) waits m =
        let does = executes_at work plan accepted rewriting q l n st n in
        let word = word_of_item work plan accepted rewriting q l n st in
        let here = place_at work plan accepted rewriting q l n st in
        let at = address work plan accepted rewriting q l n st in
        let waits_there : is_wait (execute work.program here at word l n).move ≡ true =
        ap (λ (r : WordOutcome). is_wait r.move) does ∙ waits in
        let looks = item_anew work l n here at (head_of work.program plan) st.item.what
        waits_there in
        subst (λ k. StandsOrOff q k m)
        (sym (ap (λ (r : WordOutcome). r.lane) (sym does)
        ∙ waits_same work l n here at word waits_there)) (inl (record {
          place = st.place;
          entry = st.entry;
          in_batch = st.in_batch;
          before = st.before;
          item = st.item;
          after = st.after;
          split = st.split;
          at = st.at;
          does = λ x since. st.does x
              (since.0, λ e. let bad : true ≡ false = sym looks ∙ e in cc);
        }))
    anew (inr off) waits m =
        let does : next_outcome work.program work.image l n ≡ exit_by l n (Fetch l.off) =
        ap (λ x. execute_at work.program (fetch work.image x) l n) off.at
        ∙ ap (λ o. execute_at work.program o l n)
        (fetch_off work.program plan work.image rewriting) in
        let bad : false ≡ true =
        sym (ap (λ (r : WordOutcome). is_wait r.move) does) ∙ waits in cc

  -- at the start, with whatever states and copy the node has
  starts : (p : ℕ) (n : NodeMemory)
      → StandsOrOff (first_processor (original layout work processors plan) p)
      (lane_first layout work processors plan p) n
  starts p n =
      let program = work.program in
      let l = lane_first layout work processors plan p in
      let q = first_processor (original layout work processors plan) p in
      let f = split_at plan program.entry (rewriting.admissible.complete program.entry
      (inl (subst IsSome (sym accepted.starts) refl))) in
      let words = length (placed_batch program f.entry) in
      let first : words ≡ words + 0 = omega arith in
      let at : l.at ≡ address_of program plan work.image accepted rewriting f false 0 =
      ap (λ o. unwrap_or o 0) (new_of_place program plan work.image rewriting program.entry f
      (some_items f.entry (program.code f.entry.address))) ∙ ap (word_address program f) first in
      without_pace at_ease q l n
      (single_paced program plan work.image accepted rewriting program.entry at_ease q l n f at
      (record {
        place = refl;
        running = refl;
        agree = λ r live. refl;
        private = refl;
        written = refl;
      }) (omega arith) (inl (omega arith)))

  pub lane_code : LaneCode layout work processors plan
  lane_code = record {
    Stands = StandsOrOff;
    word_follows = λ q l n suits running st. word_follows q l n suits st;
    stays = λ q l n m st later. stays q l n st m later;
    anew = λ q l n m st waits. anew q l n st waits m;
    messages_keep = λ q l n st takes m suited. messages_keep q l n st takes m suited;
    starts = λ p n suits. starts p n;
  }
