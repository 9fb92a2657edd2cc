-- The word at which a node stands, in one of a place's sequences.
use Rattle.std.proofs.Common.{◌≡◌, ℕ, ◌+◌, ◌^◌, ◌<◌, ◌≤◌, ◌⊎◌, Bool, true, false, List, [], ◌∷◌, ◌++◌, length, Some, refl, sym, ap, ◌∙◌, subst, inl, inr, arith, cond}
use Rattle.std.specs.Prelude.{◌||◌, option_and_then}
use Rattle.std.specs.Option.{option_map_or}
use Rattle.rewriting_law.proofs.Names.{signed, Instr, Jal, Processor, next_pc, RtWord, Native, MissR, MissW, Poll, Call, Xjalr, Prepare, Far, TrapFetch, TrapOff, TrapIllegal, TrapEbreak, Batch, CommitKind, Never, Always, Place, PlanEntry, IsAccepted, line_of, Puts, call_step, cut_short, Read, IsPlace, SequenceItem, ItemWord, Runs, GoesTo, commit_at, IsRewriting, head_of, item_word, is_near, number_of_word, distance, old_of, fetch, Work, ProcessorState, NodeMemory, Move, Next, Again, To, Enters, Waits, Leaves, SameWord, WordOutcome, only_moves, execute, execute_at, next_outcome, takes_messages, make_call, print_byte, byte_at, lane_after_call, is_mapped_state, is_readable_state, is_exit, is_wait, commits_by, pc_at}
use Rattle.rewriting_law.proofs.words.Plans.{place_in}
use Rattle.rewriting_law.proofs.words.Fetching.{word_address, fetch_word, fetch_off, place_of_word, commit_of_word, in_range, word_of, placed_item}
use Rattle.rewriting_law.proofs.words.Spots.{Spot, kind_of, sequence, number}
use Rattle.rewriting_law.proofs.templates.States.{Suits}
use Rattle.rewriting_law.proofs.templates.Does.{AtHead, Rest, turns_at, IsWhere, where_is, lane_at, Continues, Leads, ItemLeads, Does, SequenceKind, place_of, looks_anew}
use Rattle.rewriting_law.proofs.words.Idle.{is_idle}
use Rattle.rewriting_law.proofs.words.Turns.{IsTurning, StartsAtStopover, is_never, is_stopover, turning}
use Rattle.rewriting_law.proofs.words.Paces.{Owes, Opens, IsReady, InPace, Paced}
use Rattle.rewriting_law.proofs.words.CodeSide.{Pace, pace_at, Rises}
use Rattle.rewriting_law.proofs.words.Standing.{serves, Stands, item_there, spot_of}

-- a word that doesn't commit, and one that does
pub idle_if : (kind : CommitKind) (r : WordOutcome) → commits_by kind r ≡ false
    → is_idle kind ≡ true
idle_if Never r e = refl
idle_if Always r e = let bad : true ≡ false = e in cc
idle_if other r e = refl

pub may_commit : (kind : CommitKind) (r : WordOutcome) → commits_by kind r ≡ true
    → is_never kind ≡ false
may_commit Never r e = let bad : false ≡ true = e in cc
may_commit other r e = refl

-- a jump takes no messages
never_takes : (near : Bool) (i : Instr) (k : ℕ)
    → takes_messages (Some (cond near (Native i) (Far k))) ≡ false
never_takes true i k = refl
never_takes false i k = refl

module _ (work : Work) (plan : List PlanEntry) (accepted : IsAccepted work.program)
    (rewriting : IsRewriting work.program plan work.image) (q : Processor) (l : ProcessorState) (n : NodeMemory) where
  abbrev pub StandsHere : Type 0
  StandsHere = Stands work.program plan work.image accepted rewriting q l n

  abbrev pub number_at : StandsHere → ℕ
  number_at st = number work.program st.in_batch st.entry.entry (length st.before)

  abbrev pub address : StandsHere → ℕ
  address st = word_address work.program st.entry (number_at st)

  -- which of the place's sequences the next word is of, and where it belongs
  abbrev pub kind_at : StandsHere → SequenceKind
  kind_at st = kind_of work.program st.in_batch st.entry.entry

  abbrev pub place_at : StandsHere → ℕ
  place_at st = place_of (kind_at st) st.place (length st.before)

  -- what is left of a sequence once so many words behind the next are skipped
  abbrev pub left : StandsHere → Rest
  left st = Does work.program (kind_at st) st.place (length st.before + 1)
      (next_pc (address st)) st.after

  abbrev pub LeadsHere : (st : StandsHere) → CommitKind → ItemWord → Type 0
  LeadsHere st commit what =
      ItemLeads work.program (kind_at st) st.place (length st.before) (address st) (left st)
      commit q l n what

  pub spot_at : (st : StandsHere)
      → Spot work.program st.entry.entry (place_at st) (number_at st) st.item
  spot_at st =
      subst (λ a. Spot work.program st.entry.entry
      (place_of (kind_at st) a (length st.before)) (number_at st) st.item) st.entry.here
      (spot_of work.program plan work.image accepted rewriting st.entry st.in_batch
      (length st.before) st.item (item_there work.program plan work.image accepted rewriting st))

  -- the next word
  pub fetches : (st : StandsHere) → fetch work.image (address st)
      ≡ Some (word_of (head_of work.program plan) (address st)
      (placed_item st.entry.entry (spot_at st).part (spot_at st).word st.item))
  fetches st =
      let sp = spot_at st in
      fetch_word work.program plan work.image rewriting st.place st.entry (number_at st) sp.part
      sp.word st.item sp.item sp.there

  pub takes_anew : (st : StandsHere) (what : ItemWord)
      → takes_messages (Some (item_word (head_of work.program plan) (address st) what)) ≡ true
      → looks_anew what ≡ true
  takes_anew st (Runs Poll) takes = refl
  takes_anew st (Runs Call) takes = refl
  takes_anew st (Runs (Native i)) takes = let bad : false ≡ true = takes in cc
  takes_anew st (Runs (MissR w rs1 imm)) takes = refl
  takes_anew st (Runs (MissW w rs1 imm)) takes = refl
  takes_anew st (Runs (Xjalr rd rs1 imm)) takes = let bad : false ≡ true = takes in cc
  takes_anew st (Runs (Batch stores low high)) takes = refl
  takes_anew st (Runs (Prepare rs1)) takes = refl
  takes_anew st (Runs (Far k)) takes = let bad : false ≡ true = takes in cc
  takes_anew st (Runs TrapFetch) takes = let bad : false ≡ true = takes in cc
  takes_anew st (Runs TrapOff) takes = let bad : false ≡ true = takes in cc
  takes_anew st (Runs TrapIllegal) takes = let bad : false ≡ true = takes in cc
  takes_anew st (Runs TrapEbreak) takes = let bad : false ≡ true = takes in cc
  takes_anew st (GoesTo b to_head) takes =
      let at = address st in
      let target = head_of work.program plan b in
      let never = never_takes (is_near at target) (Jal 0 (signed 32 (distance at target)))
      (number_of_word target) in
      let bad : false ≡ true = sym never ∙ takes in cc

  abbrev pub word_of_item : StandsHere → RtWord
  word_of_item st = item_word (head_of work.program plan) (address st) st.item.what

  pub executes_at : (st : StandsHere) (m : NodeMemory)
      → execute work.program (place_at st) (address st) (word_of_item st) l m
      ≡ next_outcome work.program work.image l m
  executes_at st m =
      let sp = spot_at st in
      sym (ap (λ x. execute_at work.program (fetch work.image x) l m) st.at
      ∙ ap (λ o. execute_at work.program o l m) (fetches st)
      ∙ ap (λ x. execute work.program (place_in st.entry.entry sp.part sp.word).address x
      (word_of_item st) l m) st.at
      ∙ ap (λ x. execute work.program x (address st) (word_of_item st) l m) sp.address)

  -- the original address of the next word
  pub pc_is : (st : StandsHere) → pc_at work l ≡ place_at st
  pc_is st =
      let sp = spot_at st in
      ap (λ x. option_map_or (λ (y : Place). y.address) (old_of work.image x) l.off) st.at
      ∙ ap (λ o. option_map_or (λ (y : Place). y.address) o l.off)
      (place_of_word work.program plan work.image rewriting st.place st.entry (number_at st)
      sp.part sp.word st.item sp.item sp.there) ∙ sp.address

  -- its kind of commit
  pub kind_is : (st : StandsHere) → commit_at work.program plan (old_of work.image l.at)
      ≡ st.item.commit
  kind_is st =
      let sp = spot_at st in
      ap (λ z. commit_at work.program plan (old_of work.image z)) st.at
      ∙ commit_of_word work.program plan work.image rewriting st.place st.entry (number_at st)
      sp.part sp.word st.item sp.item sp.there

  pub low_address : (st : StandsHere) → address st < 2 ^ 31 + 2 ^ 30
  low_address st =
      let sp = spot_at st in
      in_range work.program plan work.image rewriting st.place st.entry (number_at st) sp.part
      sp.word st.item sp.item sp.there

  -- the sequence of a place where code may lead back
  pub turning_at : (st : StandsHere) → st.in_batch ≡ false → turns_at work.program st.place ≡ true
      → IsTurning (st.before ++ st.item ∷ st.after)
  turning_at st own turns =
      let e = st.entry.entry in
      subst IsTurning (ap (λ b. sequence work.program b e) (sym own) ∙ st.split)
      (turning e (work.program.code e.address)
      (serves work.program plan work.image accepted rewriting st.entry).polls
      (subst (λ z. turns_at work.program z ≡ true) (sym st.entry.here) turns))

  stopover_takes : (at : ℕ) (what : ItemWord) → is_stopover what ≡ true
      → takes_messages (Some (item_word (head_of work.program plan) at what)) ≡ true
  stopover_takes at (Runs Poll) is = refl
  stopover_takes at (Runs Call) is = refl
  stopover_takes at (Runs (Native i)) is = let bad : false ≡ true = is in cc
  stopover_takes at (Runs (MissR w rs1 imm)) is = let bad : false ≡ true = is in cc
  stopover_takes at (Runs (MissW w rs1 imm)) is = let bad : false ≡ true = is in cc
  stopover_takes at (Runs (Xjalr rd rs1 imm)) is = let bad : false ≡ true = is in cc
  stopover_takes at (Runs (Batch stores low high)) is = let bad : false ≡ true = is in cc
  stopover_takes at (Runs (Prepare rs1)) is = let bad : false ≡ true = is in cc
  stopover_takes at (Runs (Far k)) is = let bad : false ≡ true = is in cc
  stopover_takes at (Runs TrapFetch) is = let bad : false ≡ true = is in cc
  stopover_takes at (Runs TrapOff) is = let bad : false ≡ true = is in cc
  stopover_takes at (Runs TrapIllegal) is = let bad : false ≡ true = is in cc
  stopover_takes at (Runs TrapEbreak) is = let bad : false ≡ true = is in cc
  stopover_takes at (GoesTo b to_head) is = let bad : false ≡ true = is in cc

  -- before the first word of such a sequence nothing was committed since
  abbrev pub IsFresh : StandsHere → Pace → Type 0
  IsFresh st p =
      st.before ≡ [] → st.in_batch ≡ false → turns_at work.program st.place ≡ true → p.since ≡ 0

  pub fresh_at : (st : StandsHere) (p : Pace) → IsFresh st (pace_at work l p)
  fresh_at st p first own turns =
      let starts = subst StartsAtStopover (ap (λ xs. xs ++ st.item ∷ st.after) first)
      (turning_at st own turns).first in
      let fetched = ap (fetch work.image) st.at ∙ fetches st in
      let takes : takes_messages (option_and_then (λ w. w.what) (fetch work.image l.at)) ≡ true =
      ap (λ o. takes_messages (option_and_then (λ w. w.what) o)) fetched
      ∙ stopover_takes (address st) st.item.what starts in
      ap (λ t. cond t 0 p.since) takes

  abbrev takes : Bool
  takes = takes_messages (option_and_then (λ w. w.what) (fetch work.image l.at))

  -- at its next word it stands at its pace
  abbrev pub InPaceHere : Pace → Type 0
  InPaceHere p = InPace work.program plan work.image accepted rewriting p q l n

  pub rises_at : (p : Pace) → Rises work.program p q → Rises work.program (pace_at work l p) q
  rises_at p h = go takes
    where
      go : (t : Bool) → (cond t 0 p.since ≤ 1) ⊎ ((p.last < q.pc)
          × IsPlace work.program.code p.last × IsPlace work.program.code q.pc)
      go true = inl (omega arith)
      go false = h

  pub opens_at : (p : Pace) (b : Bool) (a : ℕ) (before is : List SequenceItem)
      → (before ≡ []) ⊎ Opens work.program b a is p
      → (before ≡ []) ⊎ Opens work.program b a is (pace_at work l p)
  opens_at p b a before is (inl first) = inl first
  opens_at p b a before is (inr opens) = inr (λ own turns. elim (opens own turns) [
    | inl none ↦ inl (go takes none)
    | inr jumps ↦ inr jumps
  ])
    where
      go : (t : Bool) → p.since ≡ 0 → cond t 0 p.since ≡ 0
      go true h = refl
      go false h = h

  pub owes_at : (p : Pace) (st : StandsHere)
      → Owes st.in_batch st.place st.before (st.item ∷ st.after) p q
      ⊎ IsReady work.program plan work.image accepted rewriting p q l n st
      → Owes st.in_batch st.place st.before (st.item ∷ st.after) (pace_at work l p) q
      ⊎ IsReady work.program plan work.image accepted rewriting (pace_at work l p) q l n st
  owes_at p st (inl owes) = inl owes
  owes_at p st (inr ready) = inr (record {
    waited = ready.waited;
    kind = ready.kind;
    calm = ready.calm;
    own = ready.own;
    first = ready.first;
    few = ready.few;
  })

  abbrev pub in_pace_at : (p : Pace) → InPaceHere p → InPaceHere (pace_at work l p)
  in_pace_at p inn =
      let st = inn.stands in record {
        stands = st;
        rises = rises_at p inn.rises;
        opens = opens_at p st.in_batch st.place st.before (st.item ∷ st.after) inn.opens;
        owes = owes_at p st inn.owes;
      }

  continues_where : (kind : SequenceKind) (a k : ℕ) (K : Processor → Type 0) (r : WordOutcome)
      (b : Bool) → Continues work.program (IsWhere work.program kind a k q) K q n r b → b ≡ true
      → q.pc ≡ place_of kind a k
  continues_where kind a k K r true h commits = where_is work.program kind a k q h.0
  continues_where kind a k K r false h commits = let bad : false ≡ true = commits in cc

  -- where the word of a place commits, or ends the processor, the processor is
  pub leads_where : (kind : SequenceKind) (a k at : ℕ) (K : Rest) (r : WordOutcome) (m : CommitKind)
      (move : Move) → Leads work.program kind a k at K q n r m move
      → (is_exit move || commits_by m r) ≡ true → q.pc ≡ place_of kind a k
  leads_where kind a k at K r m (Leaves e) h commits = where_is work.program kind a k q h.0
  leads_where kind a k at K r m Next h commits =
      continues_where kind a k (λ p. (x y : ℕ) → K 0 p (lane_at x y r.lane) r.local) r
      (commits_by m r) h commits
  leads_where kind a k at K r m Again h commits =
      continues_where kind a k (λ p. AtHead work.program a p r.lane) r (commits_by m r) h.2 commits
  leads_where kind a k at K r m (To target) h commits =
      continues_where kind a k (λ p. (x y : ℕ) → K h.0 p (lane_at x y r.lane) r.local) r
      (commits_by m r) h.2 commits
  leads_where kind a k at K r m (Enters target) h commits =
      continues_where kind a k (λ p. AtHead work.program target p r.lane) r (commits_by m r) h
      commits
  leads_where kind a k at K r m (Waits resume want more) h commits =
      let bad : false ≡ true = sym h.0 ∙ commits in cc

  -- before a word that looks anew it stands there whatever becomes of the node
  abbrev anew_there : (st : StandsHere) → looks_anew st.item.what ≡ true → (m : NodeMemory)
      → Stands work.program plan work.image accepted rewriting q l m
  anew_there st looks m = record {
    place = st.place;
    entry = st.entry;
    in_batch = st.in_batch;
    before = st.before;
    item = st.item;
    after = st.after;
    split = st.split;
    at = st.at;
    does = λ x since. st.does x
        (since.0, λ e. let bad : true ≡ false = sym looks ∙ e in cc);
  }

  abbrev pub PacedWith : Pace → NodeMemory → Type 0
  PacedWith p m = Paced work.program plan work.image accepted rewriting p q l m

  -- where the next word is one before which messages are taken, and the last didn't wait, the
  -- node stands there whatever they bring
  pub messages_keep : (p : Pace) → PacedWith p n
      → takes_messages (option_and_then (λ w. w.what) (fetch work.image l.at)) ≡ true
      → p.waited ≡ false
      → (m : NodeMemory) → Suits work.program m → PacedWith p m
  messages_keep p (inl inn) takes calm m suited =
      let st = inn.stands in
      let fetched = ap (fetch work.image) st.at ∙ fetches st in
      let looks = takes_anew st st.item.what
      (sym (ap (λ o. takes_messages (option_and_then (λ w. w.what) o)) fetched) ∙ takes) in
      inl (record {
        stands = anew_there st looks m;
        rises = inn.rises;
        opens = inn.opens;
        owes = elim inn.owes [
          | inl owes ↦ inl owes
          | inr ready ↦ (let bad : true ≡ false = sym ready.waited ∙ calm in cc)
        ];
      })
  messages_keep p (inr off) takes calm m suited =
      let bad : false ≡ true =
      sym (ap (λ o. takes_messages (option_and_then (λ w. w.what) o))
      (ap (fetch work.image) off.off.at ∙ fetch_off work.program plan work.image rewriting))
      ∙ takes in cc

  -- a call that finds its byte readable doesn't wait
  pub calm_call : (m : NodeMemory) (a : ℕ) → call_step l.registers l.written ≡ Puts a
      → is_readable_state (m.state (line_of a)) ≡ true
      → is_wait (make_call work.program l m (call_step l.registers l.written)).move ≡ false
  calm_call m a e readable =
      ap (λ c. is_wait (make_call work.program l m c).move) e
      ∙ go (is_mapped_state (m.state (line_of a)))
    where
      prints : WordOutcome
      prints = print_byte l m a (byte_at work.program l m a)

      waits : WordOutcome
      waits = only_moves l m (Waits SameWord (record { at = a; need = Read }) [])

      none : WordOutcome
      none = only_moves (lane_after_call l (cut_short l.written)) m Next

      go : (t : Bool) → is_wait (cond t (cond (is_readable_state (m.state (line_of a))) prints
          waits) none).move ≡ false
      go true = ap (λ u. is_wait (cond u prints waits).move) readable
      go false = refl
