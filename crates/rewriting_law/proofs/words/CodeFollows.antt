-- The templates give the code's side, for any admissible plan.
use Rattle.std.proofs.Common.{◌≡◌, ℕ, ◌+◌, ◌%◌, ◌≢◌, ◌*◌, ◌/◌, ◌^◌, ◌<◌, ◌≤◌, ◌⊎◌, Bool, true, false, eqb, List, [], ◌∷◌, ◌++◌, length, Option, refl, sym, ap, ◌∙◌, subst, inl, inr, arith, cond}
use Rattle.std.specs.Prelude.{pos, not, ◌||◌, unwrap_or, IsSome}
use Rattle.std.specs.Option.{option_map_or}
use Rattle.rewriting_law.proofs.Names.{signed, Shape, Fetch, offset_address, reg, Processor, Access, Becomes, first_processor, request, request_at, with_exit, next_pc, RtWord, Native, MissR, MissW, Poll, Call, Xjalr, Prepare, Far, Batch, CommitKind, Never, IfNoWait, Place, PlanEntry, Instr, Lui, Auipc, Jal, Jalr, Branch, Load, Store, OpImm, ShiftImm, Op, Fence, Ecall, Ebreak, Lr, Sc, Amo, Illegal, IsAccepted, line_of, CallStep, Ends, Returns, Puts, demand_of, call_step, cut_short, Read, IsPlace, SequenceItem, ItemWord, Runs, GoesTo, commit_at, IsRewriting, head_of, item_word, is_near, number_of_word, address_of_word, distance, old_of, new_of, fetch, Work, ProcessorState, NodeMemory, Want, Move, Next, Again, To, Enters, Waits, Leaves, Resume, PastWord, SameWord, Tally, WordOutcome, only_moves, exit_by, native, execute, execute_at, next_outcome, lane_after, lane_resumed, first_lane, ByLines, both_meet, past_next, enter, make_call, print_byte, byte_at, lane_after_call, is_mapped_state, is_readable_state, need_of_run, is_exit, is_wait, commits_by, pc_at}
use Rattle.rv32_step.specs.declared.Demand.TheVariants as demand
use Rattle.rewriting_law.proofs.one_memory.Originals.{original_with}
use Rattle.rewriting_law.proofs.words.Plans.{EntrySplit, split_at}
use Rattle.rewriting_law.proofs.words.Fetching.{word_address, fetch_off, no_place_off, head_is, new_of_place, placed_batch}
use Rattle.rewriting_law.proofs.words.Spots.{kind_of, own_kind, sequence}
use Rattle.rewriting_law.proofs.templates.Mids.{head_at}
use Rattle.rewriting_law.proofs.templates.RegisterLemmas.{put_none}
use Rattle.rewriting_law.proofs.templates.States.{Suits, later_now}
use Rattle.rewriting_law.proofs.templates.Does.{AtHead, Rest, turns_at, IsWhere, where_is, lane_at, Continues, Resumes, Leads, SequenceKind, skip_to, SomeGranted}
use Rattle.rewriting_law.proofs.words.Lanes.{word_at}
use Rattle.rewriting_law.proofs.words.Moves.{either_move, native_moves, read_moves, write_moves, prepare_moves, batch_moves}
use Rattle.rewriting_law.proofs.words.Idle.{is_idle, is_jump, has_jump, AllLed, led_jump, IsUpper, IsOwnWord, OwnWords, own_word_at, is_own, IsRunWord, RunWords, run_word_at, is_batch}
use Rattle.rewriting_law.proofs.words.Turns.{is_never, no_jump_first, commit_last_at, GoesBy, commits_by_request, step_up}
use Rattle.rewriting_law.proofs.words.Paces.{spent, Owes, Opens, MaySkip, IsReady, InPace, Paced, single_paced, entry_paced, enter_paced, further_paced, again_paced, ready_paced, paid_then, owed_then, jump_paid, pace_kept}
use Rattle.rewriting_law.proofs.words.NextWord as next
use Rattle.rewriting_law.proofs.words.NextWord.{turning_at, executes_at, leads_where, low_address, kind_is, pc_is, fresh_at, in_pace_at, IsFresh, messages_keep, idle_if, may_commit, calm_call}
use Rattle.rewriting_law.proofs.words.CodeSide.{Pace, first_pace, pace_then, pace_at, pace_after, Rises, GoesOn, Follows, CodeSide}
use Rattle.rewriting_law.proofs.one_memory.Messages.{AreLaidOut}
use Rattle.rewriting_law.proofs.words.BlocksOnce.{all_wanted, no_more, among_all, some_granted}
use Rattle.rewriting_law.proofs.words.Standing.{reaches, Stands, some_items, head_low, address_of}

module _ (layout : Shape) (work : Work) (plan : List PlanEntry) (accepted : IsAccepted work.program)
    (rewriting : IsRewriting work.program plan work.image) (laid : AreLaidOut layout work) where
  abbrev PacedHere : Pace → Processor → ProcessorState → NodeMemory → Type 0
  PacedHere p q l n = Paced work.program plan work.image accepted rewriting p q l n

  module _ (q : Processor) (l : ProcessorState) (n : NodeMemory) where
    abbrev StandsHere : Type 0
    StandsHere = Stands work.program plan work.image accepted rewriting q l n

    abbrev address : StandsHere → ℕ
    address st = next.address work plan accepted rewriting q l n st

    abbrev kind_at : StandsHere → SequenceKind
    kind_at st = next.kind_at work plan accepted rewriting q l n st

    abbrev place_at : StandsHere → ℕ
    place_at st = next.place_at work plan accepted rewriting q l n st

    abbrev left : StandsHere → Rest
    left st = next.left work plan accepted rewriting q l n st

    abbrev LeadsHere : (st : StandsHere) → CommitKind → ItemWord → Type 0
    LeadsHere st commit what = next.LeadsHere work plan accepted rewriting q l n st commit what

    module _ (suits : Suits work.program n) (pace : Pace)
        (stood : InPace work.program plan work.image accepted rewriting pace q l n) where
      abbrev p : Pace
      p = pace_at work l pace

      abbrev inn : InPace work.program plan work.image accepted rewriting p q l n
      inn = in_pace_at work plan accepted rewriting q l n pace stood

      abbrev st : StandsHere
      st = inn.stands

      fresh : IsFresh work plan accepted rewriting q l n st p
      fresh = fresh_at work plan accepted rewriting q l n st pace

      here : p.here ≡ place_at st
      here = pc_is work plan accepted rewriting q l n st

      kind_here : commit_at work.program plan (old_of work.image l.at) ≡ st.item.commit
      kind_here = kind_is work plan accepted rewriting q l n st

      abbrev outcome : ProcessorState → NodeMemory → Access → Option ℕ → Tally → Move → WordOutcome
      outcome lane local access printed tally move = record {
        lane = lane;
        local = local;
        access = access;
        printed = printed;
        tally = tally;
        move = move;
      }

      abbrev Ready : Type 0
      Ready = IsReady work.program plan work.image accepted rewriting p q l n st

      -- what has to hold of a word's move
      abbrev IsSane : CommitKind → WordOutcome → Move → Type 0
      IsSane kind r Again = commits_by kind r ≡ true
      IsSane kind r (Enters target) = commits_by kind r ≡ true
      IsSane kind r (To target) =
          (commits_by kind r ≡ true) ⊎ ((st.in_batch ≡ true) ⊎ (has_jump st.after ≡ false))
      IsSane kind r (Waits SameWord want more) = (kind ≡ IfNoWait)
          × ((m : NodeMemory) → Suits work.program m → SomeGranted m (want ∷ more)
          → is_wait (next_outcome work.program work.image r.lane m).move ≡ false)
      IsSane kind r (Waits (ByLines need low high) want more) =
          (st.in_batch ≡ true) ⊎ (has_jump st.after ≡ false)
      IsSane kind r move = Unit {0}

      abbrev FollowsPaced : Pace → WordOutcome → CommitKind → Move → Type 0
      FollowsPaced r x kind move = Follows layout work plan (PacedHere r) q n x kind move

      -- once the word has committed, or hasn't
      abbrev Then : Bool → Move → Pace
      Then b move = pace_then p b move

      abbrev OwesThen : Bool → Move → Processor → Type 0
      OwesThen b move x =
          Owes st.in_batch st.place (st.before ++ st.item ∷ []) st.after (Then b move) x

      rises_still : (move : Move) → Rises work.program (Then false move) q
      rises_still move = elim inn.rises [ inl one ↦ inl (omega (arith, one)) | inr up ↦ inr up ]

      module _ (r : WordOutcome) (kind : CommitKind) (is : st.item.commit ≡ kind)
          (ready : Ready → commits_by kind r ≡ true) (same : r.lane.at ≡ l.at)
          (runs : is_jump st.item.what ≡ false) where
        -- where code may lead back, nothing was committed since the poll or the call
        none_since : st.in_batch ≡ false → turns_at work.program st.place ≡ true → p.since ≡ 0
        none_since own turns = elim inn.opens [
          | inl first ↦ fresh first own turns
          | inr opens ↦ elim (opens own turns) [
            | inl none ↦ none
            | inr jumps ↦ (let bad : false ≡ true =
                sym runs ∙ no_jump_first st.item st.after jumps in cc)
          ]
        ]

        opens_still : (move : Move)
            → Opens work.program st.in_batch st.place st.after (Then false move)
        opens_still move own turns =
            let none = none_since own turns in inl (omega (arith, none))

        opens_then : (move : Move) → commits_by kind r ≡ true
            → Opens work.program st.in_batch st.place st.after (Then true move)
        opens_then move e own turns =
            inr (commit_last_at st.before st.after st.item
            (turning_at work plan accepted rewriting q l n st own turns).last
            (ap is_never is ∙ may_commit kind r e))

        none_or_on : (b : Bool) → st.in_batch ≡ b
            → IsWhere work.program (kind_of work.program b st.entry.entry) st.place
            (length st.before) q → (p.since ≡ 0) ⊎ (turns_at work.program q.pc ≡ false)
        none_or_on true e there = inr there.1
        none_or_on false e there = go (turns_at work.program st.place) refl
          where
            go : (t : Bool) → turns_at work.program st.place ≡ t
                → (p.since ≡ 0) ⊎ (turns_at work.program q.pc ≡ false)
            go true turns = inl (none_since e turns)
            go false on = inr (ap (turns_at work.program) there ∙ on)

        rises_then : (move : Move)
            → IsWhere work.program (kind_at st) st.place (length st.before) q → (y : Processor)
            → GoesBy work.program accepted q (request work.program q) y.pc
            → Rises work.program (Then true move) y
        rises_then move there y goes = elim (none_or_on st.in_batch refl there) [
          | inl none ↦ inl (omega (arith, none))
          | inr on ↦ (
              let up = step_up work.program accepted q y.pc on goes in
              let pc = where_is work.program (kind_at st) st.place (length st.before) q there
              ∙ sym here in
              inr (
                subst (λ z. z < y.pc) pc up.0,
                subst (IsPlace work.program.code) pc up.1,
                up.2,
              ))
        ]

        owed : (move : Move) → commits_by kind r ≡ false → OwesThen false move q
        owed move e =
            owed_then work.program plan work.image accepted rewriting p (Then false move) q l n inn
            refl (omega arith) (ap is_idle is ∙ idle_if kind r e)
            (λ g. let bad : false ≡ true = sym e ∙ ready g in cc)

        paid : (move : Move) → (Then true move).words + 39
            ≤ 40 * (Then true move).commits + spent st.in_batch (st.before ++ st.item ∷ [])
        paid move = paid_then work.program plan work.image accepted rewriting p (Then true move) q l
            n inn refl refl

        kept : p.words ≤ 40 * p.commits + 39
        kept = pace_kept work.program plan work.image accepted rewriting p q l n (inl inn)

        further : (x : Pace) (y : Processor) (lane : ProcessorState) (m : NodeMemory) (s : ℕ)
            → lane.at ≡ skip_to s (next_pc (address st)) → left st s y lane m
            → (s ≡ 0) ⊎ MaySkip st.in_batch (st.before ++ st.item ∷ []) st.after x
            → Owes st.in_batch st.place (st.before ++ st.item ∷ []) st.after x y
            → Rises work.program x y → Opens work.program st.in_batch st.place st.after x
            → PacedHere x y lane m
        further x y lane m s at k may owes rises opens =
            further_paced work.program plan work.image accepted rewriting x q y l lane n m st s at k
            may owes rises opens

        goes : (move : Move) (b : Bool) (K : Processor → Type 0) (lane : ProcessorState) → commits_by kind r ≡ b
            → lane ≡ lane_after work.image r.lane r.move
            → (b ≡ true → (y : Processor) → Rises work.program (Then true move) y → K y
            → PacedHere (Then true move) y lane r.local)
            → (b ≡ false → K q → PacedHere (Then false move) q lane r.local)
            → Continues work.program (IsWhere work.program (kind_at st) st.place (length st.before) q) K q n r b
            → GoesOn layout work plan (PacedHere (Then b move)) q n r b
        goes move true K lane e at on off h = (
          h.1,
          commits_by_request work.program accepted q n r (request work.program q)
              (λ y goes k suited. subst (λ z. PacedHere (Then true move) y z r.local) at
              (on refl y (rises_then move h.0 y goes) k)) h.2,
        )
        goes move false K lane e at on off h = (
          h.0,
          h.1,
          subst (PacedHere (Then false move) q (lane_after work.image r.lane r.move)) h.1
              (subst (λ z. PacedHere (Then false move) q z r.local) at (off refl h.2)),
          h.3,
        )

        resumes : (lane : ProcessorState) (resume : Resume) (want : Want) (more : List Want) (m : NodeMemory)
            → lane.at ≡ l.at → lane ≡ r.lane → Suits work.program m → SomeGranted m (want ∷ more)
            → commits_by kind r ≡ false → IsSane kind r (Waits resume want more)
            → Resumes work.program (kind_at st) st.place (length st.before) (left st) q lane resume m
            → PacedHere (Then false (Waits resume want more)) q (lane_resumed lane m resume) m
        resumes lane PastWord want more m at lane_is suited granted e sane h =
            further _ q (record lane { at = next_pc lane.at }) m 0 (ap next_pc (at ∙ st.at))
            (h (next_pc lane.at) lane.off) (inl refl) (owed (Waits PastWord want more) e)
            (rises_still (Waits PastWord want more)) (opens_still (Waits PastWord want more))
        resumes lane SameWord want more m at lane_is suited granted e sane h = same_word
          where
            before_none : (xs : List SequenceItem) → length xs ≡ 0 → xs ≡ []
            before_none [] g = refl
            before_none (y ∷ ys) g = absurd (omega (arith, g))

            own : st.in_batch ≡ false
            own = own_kind work.program st.in_batch st.entry.entry h.0

            first : st.before ≡ []
            first = before_none st.before h.1

            few : p.words ≤ 40 * p.commits + 26
            few =
                let here : spent st.in_batch st.before ≡ 26 + 0 =
                ap (λ b. spent b st.before) own ∙ ap (spent false) first in
                elim inn.owes [
                  | inl owes ↦ (elim owes [
                    | inl o ↦ (let low = o.1 in omega (arith, low, here))
                    | inr o ↦ omega (arith, o, here)
                  ])
                  | inr g ↦ (let bad : false ≡ true = sym e ∙ ready g in cc)
                ]

            split : sequence work.program false st.entry.entry ≡ st.item ∷ st.after
            split = ap (λ b. sequence work.program b st.entry.entry) (sym own) ∙ st.split
                ∙ ap (λ xs. xs ++ st.item ∷ st.after) first

            there : lane.at ≡ address_of work.program plan work.image accepted rewriting st.entry
                false 0
            there = at ∙ st.at
                ∙ ap (λ k. address_of work.program plan work.image accepted rewriting st.entry
                st.in_batch k) h.1
                ∙ ap (λ b. address_of work.program plan work.image accepted rewriting st.entry b 0)
                own

            same_word : PacedHere (Then false (Waits SameWord want more)) q lane m
            same_word =
                ready_paced work.program plan work.image accepted rewriting st.place
                (Then false (Waits SameWord want more)) q lane m st.entry st.item st.after split
                there h.2 refl (is ∙ sane.0)
                (subst (λ z. is_wait (next_outcome work.program work.image z m).move ≡ false)
                (sym lane_is) (sane.1 m suited granted)) (omega (arith, few))
                (rises_still (Waits SameWord want more))
        resumes lane (ByLines need low high) want more m at lane_is suited granted e sane h =
            by_lines (both_meet m need low high) (h (cond (both_meet m need low high)
            (past_next lane.at) (next_pc lane.at)) lane.off)
          where
            x : Pace
            x = Then false (Waits (ByLines need low high) want more)

            may : MaySkip st.in_batch (st.before ++ st.item ∷ []) st.after x
            may = elim sane [ inl batch ↦ inl batch | inr none ↦ inr (inl none) ]

            by_lines : (both : Bool) → left st (cond both 1 0) q
                (record lane { at = cond both (past_next lane.at) (next_pc lane.at) }) m
                → PacedHere x q
                (record lane { at = cond both (past_next lane.at) (next_pc lane.at) }) m
            by_lines true k =
                further x q (record lane { at = past_next lane.at }) m 1
                (ap past_next (at ∙ st.at)) k (inr may)
                (owed (Waits (ByLines need low high) want more) e)
                (rises_still (Waits (ByLines need low high) want more))
                (opens_still (Waits (ByLines need low high) want more))
            by_lines false k =
                further x q (record lane { at = next_pc lane.at }) m 0
                (ap next_pc (at ∙ st.at)) k (inl refl)
                (owed (Waits (ByLines need low high) want more) e)
                (rises_still (Waits (ByLines need low high) want more))
                (opens_still (Waits (ByLines need low high) want more))

      -- a word of a sequence that is executed
      lead_follows : (lane : ProcessorState) (local : NodeMemory) (access : Access) (printed : Option ℕ)
          (tally : Tally) (move : Move) → lane.at ≡ l.at → is_jump st.item.what ≡ false
          → (kind : CommitKind) → st.item.commit ≡ kind
          → (Ready → commits_by kind (outcome lane local access printed tally move) ≡ true)
          → IsSane kind (outcome lane local access printed tally move) move
          → Leads work.program (kind_at st) st.place (length st.before) (address st) (left st) q n
          (outcome lane local access printed tally move) kind move
          → FollowsPaced (pace_after p kind (outcome lane local access printed tally move))
          (outcome lane local access printed tally move) kind move
      lead_follows lane local access printed tally (Leaves e) same runs kind is ready sane h =
          record { asks = h.1; access = h.2; printed = h.3; local = h.4 }
      lead_follows lane local access printed tally Next same runs kind is ready sane h =
          let r = outcome lane local access printed tally Next in
          goes r kind is ready same runs Next (commits_by kind r)
          (λ y. (i j : ℕ) → left st 0 y (lane_at i j lane) local)
          (record lane { at = next_pc lane.at }) refl refl
          (λ e y up k. further r kind is ready same runs (Then true Next) y
          (record lane { at = next_pc lane.at }) local 0 (ap next_pc (same ∙ st.at))
          (k (next_pc lane.at) lane.off) (inl refl) (inr (paid r kind is ready same runs Next)) up
          (opens_then r kind is ready same runs Next e))
          (λ e k. further r kind is ready same runs (Then false Next) q
          (record lane { at = next_pc lane.at }) local 0 (ap next_pc (same ∙ st.at))
          (k (next_pc lane.at) lane.off) (inl refl) (owed r kind is ready same runs Next e)
          (rises_still Next) (opens_still r kind is ready same runs Next)) h
      lead_follows lane local access printed tally Again same runs kind is ready sane h =
          let r = outcome lane local access printed tally Again in
          let most = kept r kind is ready same runs in
          goes r kind is ready same runs Again (commits_by kind r)
          (λ y. AtHead work.program st.place y lane) lane refl refl
          (λ e y up k. again_paced work.program plan work.image accepted rewriting (Then true Again) q y
          l lane n local st same h.0 h.1 k (omega (arith, most)) up)
          (λ e k. let bad : false ≡ true = sym e ∙ sane in cc) h.2
      lead_follows lane local access printed tally (To target) same runs kind is ready sane h =
          let r = outcome lane local access printed tally (To target) in
          goes r kind is ready same runs (To target) (commits_by kind r)
          (λ y. (i j : ℕ) → left st h.0 y (lane_at i j lane) local)
          (record lane { at = target }) refl refl
          (λ e y up k. further r kind is ready same runs (Then true (To target)) y
          (record lane { at = target }) local h.0 h.1 (k target lane.off)
          (inr (inr (inr (paid r kind is ready same runs (To target)))))
          (inr (paid r kind is ready same runs (To target))) up
          (opens_then r kind is ready same runs (To target) e))
          (λ e k. further r kind is ready same runs (Then false (To target)) q
          (record lane { at = target }) local h.0 h.1 (k target lane.off)
          (inr (may_skip (Then false (To target)) r e sane))
          (owed r kind is ready same runs (To target) e) (rises_still (To target))
          (opens_still r kind is ready same runs (To target))) h.2
        where
          may_skip : (x : Pace) (r : WordOutcome) → commits_by kind r ≡ false
              → (commits_by kind r ≡ true) ⊎ ((st.in_batch ≡ true) ⊎ (has_jump st.after ≡ false))
              → MaySkip st.in_batch (st.before ++ st.item ∷ []) st.after x
          may_skip x r e (inl commits) = let bad : false ≡ true = sym e ∙ commits in cc
          may_skip x r e (inr (inl batch)) = inl batch
          may_skip x r e (inr (inr none)) = inr (inl none)
      lead_follows lane local access printed tally (Enters target) same runs kind is ready sane h =
          let r = outcome lane local access printed tally (Enters target) in
          let most = kept r kind is ready same runs in
          goes r kind is ready same runs (Enters target) (commits_by kind r)
          (λ y. AtHead work.program target y lane) (enter lane target (new_of work.image target))
          refl refl (λ e y up k. enter_paced work.program plan work.image accepted rewriting target
          (Then true (Enters target)) y lane local k (omega (arith, most)) up)
          (λ e k. let bad : false ≡ true = sym e ∙ sane in cc) h
      lead_follows lane local access printed tally (Waits resume want more) same runs kind is ready
          sane h =
          let r = outcome lane local access printed tally (Waits resume want more) in
          let few = h.3 in
          let most = no_more layout work plan laid (want ∷ more) in (
            h.0,
            record {
              printed = h.1;
              local = h.2;
              silent = h.6;
              wanted = all_wanted layout work plan laid q n (want ∷ more) h.4;
              few = omega (arith, few, most);
              resumed = λ m suited x among granted.
                  let some = some_granted m x (want ∷ more)
                  (among_all layout work plan laid x (want ∷ more) among) granted in
                  subst (λ b. PacedHere (Then b (Waits resume want more)) q (lane_resumed lane m resume)
                  m) (sym h.0)
                  (resumes r kind is ready same runs lane resume want more m same refl suited some h.0 sane
                  (h.5 m suited some));
            },
          )

      -- a jump to the head of another place
      module _ (at place b : ℕ) (to_head : Bool) (low : at < 2 ^ 32)
          (is : IsPlace work.program.code b) (head : AtHead work.program b q l) where
        abbrev target : ℕ
        target = head_of work.program plan b

        abbrev cut : EntrySplit plan b
        cut = split_at plan b (rewriting.admissible.complete b is)

        target_is : target ≡ word_address work.program cut 0
        target_is = head_is work.program plan b rewriting.admissible cut

        abbrev jump : WordOutcome
        jump = only_moves l n (To target)

        -- by a JAL, which keeps no link, or by a far jump
        near_is : execute work.program place at (Native (Jal 0 (signed 32 (distance at target)))) l n
            ≡ jump
        near_is =
            let there = target_is in
            let high = head_low work.program plan work.image accepted rewriting b cut in
            let reached : offset_address at (signed 32 (distance at target)) ≡ target =
            reaches at target low (omega (arith, there, high)) in
            let aligned : eqb (target % 4) 0 ≡ true =
            (let e : target % 4 ≡ 0 = omega (arith, there) in rw e refl) in
            let unlinked = put_none l.registers (next_pc at) in
            ap (λ z. native work.program place at l n (demand.Jumps 0 z)) reached
            ∙ rw aligned (λ t. only_moves (record l { registers = unlinked t }) n (To target))

        far_is : execute work.program place at (Far (number_of_word target)) l n ≡ jump
        far_is =
            let there = target_is in
            let same : address_of_word (number_of_word target) ≡ target = omega (arith, there) in
            ap (λ z. only_moves l n (To z)) same

        jump_is : execute work.program place at
            (item_word (head_of work.program plan) at (GoesTo b to_head)) l n ≡ jump
        jump_is = go (is_near at target)
          where
            go : (near : Bool) → execute work.program place at
                (cond near (Native (Jal 0 (signed 32 (distance at target))))
                (Far (number_of_word target))) l n ≡ jump
            go true = near_is
            go false = far_is

        jump_goes : p.words + 1 ≤ 40 * p.commits
            → GoesOn layout work plan (PacedHere (Then false (To target))) q n jump false
        jump_goes few = (
          refl,
          refl,
          entry_paced work.program plan work.image accepted rewriting b (Then false (To target)) q
              (record l { at = target }) n cut target_is
              (head_at work.program b q l target l.off head) (omega (arith, few)) (rises_still (To target)),
          refl,
        )

      -- of a word that is executed, what it leads to
      leads_of : (kind : CommitKind) (w : RtWord) → LeadsHere st kind (Runs w)
          → Leads work.program (kind_at st) st.place (length st.before) (address st) (left st) q n
          (execute work.program (place_at st) (address st) w l n) kind
          (execute work.program (place_at st) (address st) w l n).move
      leads_of kind Poll h = h.1
      leads_of kind Call h = h.1
      leads_of kind (Native i) h = h
      leads_of kind (MissR w rs1 imm) h = h
      leads_of kind (MissW w rs1 imm) h = h
      leads_of kind (Xjalr rd rs1 imm) h = h
      leads_of kind (Batch stores low high) h = h st.at
      leads_of kind other h = h

      -- its move is sane
      own_or_batch : (b : Bool) → st.in_batch ≡ b
          → ((b ≡ true) × IsRunWord st.entry.entry.address st.item.what)
          ⊎ ((b ≡ false) × IsOwnWord st.item.what st.item.commit st.after)
      own_or_batch true e = inl (
        refl,
        run_word_at st.entry.entry.address st.before st.after st.item
            (subst (RunWords st.entry.entry.address)
            (ap (λ b. sequence work.program b st.entry.entry) (sym e) ∙ st.split)
            (is_batch work.program.code st.entry.entry).words),
      )
      own_or_batch false e = inr (
        refl,
        own_word_at st.before st.after st.item
            (subst OwnWords (ap (λ b. sequence work.program b st.entry.entry) (sym e) ∙ st.split)
            (is_own st.entry.entry (work.program.code st.entry.entry.address)).words),
      )

      abbrev Kind : (w : RtWord) (kind : CommitKind) → Type 0
      Kind w kind = ((st.in_batch ≡ true) × IsRunWord st.entry.entry.address (Runs w))
          ⊎ ((st.in_batch ≡ false) × IsOwnWord (Runs w) kind st.after)

      kind_of_word : (w : RtWord) → st.item.what ≡ Runs w → Kind w st.item.commit
      kind_of_word w e = elim (own_or_batch st.in_batch refl) [
        | inl h ↦ inl (h.0, subst (IsRunWord st.entry.entry.address) e h.1)
        | inr h ↦ inr (h.0, subst (λ what. IsOwnWord what st.item.commit st.after) e h.1)
      ]

      abbrev does : (w : RtWord) → WordOutcome
      does w = execute work.program (place_at st) (address st) w l n

      native_sane : (i : Instr) (kind : CommitKind) → Kind (Native i) kind → (r : WordOutcome)
          → IsSane kind r (does (Native i)).move
      native_sane i kind (inl batch) r =
          native_moves work l n (IsSane kind r) tt (λ e. tt) (place_at st) (address st)
          (λ t. inr (inl batch.0)) (demand_of i l.registers (address st))
      native_sane i kind (inr (own, inl always)) r =
          native_moves work l n (IsSane kind r) tt (λ e. tt) (place_at st) (address st)
          (λ t. inl (ap (λ k. commits_by k r) always)) (demand_of i l.registers (address st))
      native_sane i kind (inr (own, inr (inl none))) r =
          native_moves work l n (IsSane kind r) tt (λ e. tt) (place_at st) (address st)
          (λ t. inr (inr none)) (demand_of i l.registers (address st))
      native_sane i kind (inr (own, inr (inr up))) r = no_other i up
        where
          no_other : (i : Instr) → IsUpper i → IsSane kind r (does (Native i)).move
          no_other (Lui rd upper) up = tt
          no_other (Auipc rd upper) up = absurd up
          no_other (Jal rd offset) up = absurd up
          no_other (Jalr rd rs1 imm) up = absurd up
          no_other (Branch c rs1 rs2 offset) up = absurd up
          no_other (Load k rd rs1 imm) up = absurd up
          no_other (Store w rs1 rs2 imm) up = absurd up
          no_other (OpImm o rd rs1 imm) up = absurd up
          no_other (ShiftImm o rd rs1 amount) up = absurd up
          no_other (Op o rd rs1 rs2) up = absurd up
          no_other (Fence rd rs1 bits) up = absurd up
          no_other Ecall up = absurd up
          no_other Ebreak up = absurd up
          no_other (Lr rd rs1 aq rl) up = absurd up
          no_other (Sc rd rs1 rs2 aq rl) up = absurd up
          no_other (Amo o rd rs1 rs2 aq rl) up = absurd up
          no_other (Illegal word) up = absurd up

      call_sane : st.item.what ≡ Runs Call → IsSane IfNoWait (does Call) (does Call).move
      call_sane what = go (call_step l.registers l.written) refl (does Call) refl
        where
          calm : (a : ℕ) → call_step l.registers l.written ≡ Puts a → (m : NodeMemory)
              → SomeGranted m (record { at = a; need = Read } ∷ [])
              → is_wait (next_outcome work.program work.image l m).move ≡ false
          calm a e m (inl granted) =
              ap (λ (x : WordOutcome). is_wait x.move) (sym (executes_at work plan accepted rewriting q l n st m))
              ∙ ap (λ w. is_wait (execute work.program (place_at st) (address st)
              (item_word (head_of work.program plan) (address st) w) l m).move) what
              ∙ calm_call work plan accepted rewriting q l n m a e granted
          calm a e m (inr none) = absurd none

          puts : (a : ℕ) → call_step l.registers l.written ≡ Puts a → (t u : Bool) (r : WordOutcome)
              → r ≡ cond t (cond u (print_byte l n a (byte_at work.program l n a))
              (only_moves l n (Waits SameWord (record { at = a; need = Read }) [])))
              (only_moves (lane_after_call l (cut_short l.written)) n Next)
              → IsSane IfNoWait r (cond t (cond u (print_byte l n a (byte_at work.program l n a))
              (only_moves l n (Waits SameWord (record { at = a; need = Read }) [])))
              (only_moves (lane_after_call l (cut_short l.written)) n Next)).move
          puts a e true true r is = ap (λ (x : WordOutcome). not (is_wait x.move)) is
          puts a e true false r is = (
            refl,
            λ m suited some.
                subst (λ z. is_wait (next_outcome work.program work.image z m).move ≡ false)
                (ap (λ (x : WordOutcome). x.lane) (sym is)) (calm a e m some),
          )
          puts a e false u r is = tt

          go : (c : CallStep) → call_step l.registers l.written ≡ c → (r : WordOutcome)
              → r ≡ make_call work.program l n c
              → IsSane IfNoWait r (make_call work.program l n c).move
          go (Ends code) e r is = tt
          go (Returns value) e r is = tt
          go (Puts a) e r is =
              puts a e (is_mapped_state (n.state (line_of a)))
              (is_readable_state (n.state (line_of a))) r is

      word_sane : (w : RtWord) → st.item.what ≡ Runs w → Kind w st.item.commit
          → IsSane st.item.commit (does w) (does w).move
      word_sane (Native i) what kind = native_sane i st.item.commit kind (does (Native i))
      word_sane (MissR w rs1 imm) what kind =
          read_moves work l n (IsSane st.item.commit (does (MissR w rs1 imm))) tt (λ e. tt)
          (place_at st) (address st) (λ x. tt) w (offset_address (reg l.registers rs1) imm)
      word_sane (MissW w rs1 imm) what kind =
          write_moves work l n (IsSane st.item.commit (does (MissW w rs1 imm))) tt (λ e. tt)
          (place_at st) (address st) (λ x. tt) w (offset_address (reg l.registers rs1) imm)
      word_sane Poll what kind = tt
      word_sane Call what (inl batch) = absurd batch.1
      word_sane Call what (inr own) =
          subst (λ k. IsSane k (does Call) (does Call).move) (sym own.1) (call_sane what)
      word_sane (Xjalr rd rs1 imm) what (inl batch) = absurd batch.1
      word_sane (Xjalr rd rs1 imm) what (inr own) =
          let target = offset_address (reg l.registers rs1) imm / 2 * 2 in
          either_move (IsSane st.item.commit (does (Xjalr rd rs1 imm))) (eqb (target % 4) 0) _ _
          (ap (λ k. commits_by k (does (Xjalr rd rs1 imm))) own.1) tt
      word_sane (Batch stores low high) what (inl batch) =
          batch_moves work l n (IsSane st.item.commit (does (Batch stores low high))) tt (λ e. tt)
          (λ t. inr (inl batch.0)) (λ need a b w ws. inl batch.0) (need_of_run stores)
          (reg l.registers low) (reg l.registers high)
      word_sane (Batch stores low high) what (inr own) = absurd own.1
      word_sane (Prepare rs1) what kind =
          prepare_moves work l n (IsSane st.item.commit (does (Prepare rs1))) tt (λ e. tt)
          (place_at st) (address st) (λ x. tt) (offset_address (reg l.registers rs1) (pos 0))
      word_sane (Far k) what (inl batch) = absurd batch.1
      word_sane (Far k) what (inr own) = absurd own.1
      word_sane other what kind = tt

      leaves_paid : (b : ℕ) (to_head : Bool) → st.item.what ≡ GoesTo b to_head
          → st.item.commit ≡ Never → q.pc ≡ b → p.words + 1 ≤ 40 * p.commits
      leaves_paid b to_head what never pc =
          let jump : is_jump st.item.what ≡ true = ap is_jump what in
          jump_paid work.program plan work.image accepted rewriting p q l n inn b jump never
          (λ batch same. elim (own_or_batch st.in_batch refl) [
            | inl h ↦ (let apart : b ≢ st.entry.entry.address =
                subst (IsRunWord st.entry.entry.address) what h.1 in
                apart (same ∙ sym st.entry.here))
            | inr h ↦ (let bad : true ≡ false = sym batch ∙ h.0 in cc)
          ]) (λ own idles_all.
          let bad : false ≡ true = led_jump false st.before st.after st.item
          (subst (AllLed false) (ap (λ b. sequence work.program b st.entry.entry) (sym own) ∙ st.split)
          (is_own st.entry.entry (work.program.code st.entry.entry.address)).led) jump idles_all in cc)
          pc

      item_follows : (what : ItemWord) → st.item.what ≡ what → LeadsHere st st.item.commit what
          → address st < 2 ^ 32 → (r : WordOutcome)
          → execute work.program (place_at st) (address st)
          (item_word (head_of work.program plan) (address st) what) l n ≡ r
          → r ≡ next_outcome work.program work.image l n
          → FollowsPaced (pace_after p st.item.commit r) r st.item.commit r.move
      item_follows (Runs w) what h low r is next_is =
          let x = execute work.program (place_at st) (address st) w l n in
          let ready : Ready → commits_by st.item.commit x ≡ true = (λ g.
          ap (λ k. commits_by k x) g.kind
          ∙ ap not (ap (λ (y : WordOutcome). is_wait y.move) (is ∙ next_is) ∙ g.calm)) in
          subst (λ (y : WordOutcome). FollowsPaced (pace_after p st.item.commit y) y st.item.commit y.move)
          is (lead_follows x.lane x.local x.access x.printed x.tally x.move
          (word_at work l n (place_at st) (address st) w) (ap is_jump what) st.item.commit refl ready
          (word_sane w what (kind_of_word w what)) (leads_of st.item.commit w h))
      item_follows (GoesTo b to_head) what h low r is next_is =
          let y = jump (address st) (place_at st) b to_head low h.1 h.2 in
          subst (λ (y : WordOutcome). FollowsPaced (pace_after p st.item.commit y) y st.item.commit y.move)
          (sym (jump_is (address st) (place_at st) b to_head low h.1 h.2) ∙ is)
          (subst (λ k. FollowsPaced (pace_after p k y) y k y.move) (sym h.0)
          (jump_goes (address st) (place_at st) b to_head low h.1 h.2
          (leaves_paid b to_head what h.0 h.2.place)))

      item_where : (what : ItemWord) → LeadsHere st st.item.commit what → address st < 2 ^ 32
          → (r : WordOutcome)
          → execute work.program (place_at st) (address st)
          (item_word (head_of work.program plan) (address st) what) l n ≡ r
          → (is_exit r.move || commits_by st.item.commit r) ≡ true → q.pc ≡ place_at st
      item_where (Runs w) h low r is commits =
          let x = execute work.program (place_at st) (address st) w l n in
          leads_where work plan accepted rewriting q l n (kind_at st) st.place (length st.before)
          (address st) (left st) x st.item.commit x.move (leads_of st.item.commit w h)
          (subst (λ (y : WordOutcome). (is_exit y.move || commits_by st.item.commit y) ≡ true) (sym is)
          commits)
      item_where (GoesTo b to_head) h low r is commits =
          let y = jump (address st) (place_at st) b to_head low h.1 h.2 in
          let made : r ≡ y = sym is ∙ jump_is (address st) (place_at st) b to_head low h.1 h.2 in
          let never : false ≡ true = sym (ap (λ k. commits_by k y) h.0)
          ∙ subst (λ (x : WordOutcome). (is_exit x.move || commits_by st.item.commit x) ≡ true) made
          commits in cc

      -- where the next word commits, or ends the processor, it is of the place where that is
      where_on : (is_exit (next_outcome work.program work.image l n).move
          || commits_by (commit_at work.program plan (old_of work.image l.at))
          (next_outcome work.program work.image l n)) ≡ true → q.pc ≡ pc_at work l
      where_on commits =
          let low = low_address work plan accepted rewriting q l n st in
          let r = next_outcome work.program work.image l n in
          item_where st.item.what (st.does n (suits, λ e. later_now n)) (omega (arith, low)) r
          (executes_at work plan accepted rewriting q l n st n)
          (subst (λ k. (is_exit r.move || commits_by k r) ≡ true) kind_here commits) ∙ sym here

      follows_on : FollowsPaced (pace_after p (commit_at work.program plan (old_of work.image l.at))
          (next_outcome work.program work.image l n)) (next_outcome work.program work.image l n)
          (commit_at work.program plan (old_of work.image l.at))
          (next_outcome work.program work.image l n).move
      follows_on =
          let at = address st in
          let next = next_outcome work.program work.image l n in
          let low = low_address work plan accepted rewriting q l n st in
          subst (λ c. FollowsPaced (pace_after p c next) next c next.move) (sym kind_here)
          (item_follows st.item.what refl (st.does n (suits, λ e. later_now n))
          (omega (arith, low)) next (executes_at work plan accepted rewriting q l n st n) refl)

    -- the next word of a node that stands where its processor does
    pub word_follows : (suits : Suits work.program n) (p : Pace) → PacedHere p q l n
        → Follows layout work plan (PacedHere (pace_after (pace_at work l p)
        (commit_at work.program plan (old_of work.image l.at))
        (next_outcome work.program work.image l n))) q n (next_outcome work.program work.image l n)
        (commit_at work.program plan (old_of work.image l.at))
        (next_outcome work.program work.image l n).move
    word_follows suits p (inl inn) = follows_on suits p inn
    word_follows suits p (inr out) =
        let off = out.off in
        let next = next_outcome work.program work.image l n in
        let does : next ≡ exit_by l n (Fetch l.off) =
        ap (λ x. execute_at work.program (fetch work.image x) l n) off.at
        ∙ ap (λ o. execute_at work.program o l n)
        (fetch_off work.program plan work.image rewriting) in
        let asks : request work.program q ≡ Becomes (with_exit q (Fetch l.off)) =
        ap (request_at work.program q) off.no_code
        ∙ ap (λ x. Becomes (with_exit q (Fetch x))) (sym off.off) in
        let kind = commit_at work.program plan (old_of work.image l.at) in
        subst (λ (r : WordOutcome). Follows layout work plan
        (PacedHere (pace_after (pace_at work l p) kind r)) q n r kind r.move) (sym does)
        (record { asks = asks; access = refl; printed = refl; local = refl })

    -- a word that commits is of the original address where its processor is
    pub commits_there : (suits : Suits work.program n) (p : Pace) → PacedHere p q l n
        → (is_exit (next_outcome work.program work.image l n).move
        || commits_by (commit_at work.program plan (old_of work.image l.at))
        (next_outcome work.program work.image l n)) ≡ true → q.pc ≡ pc_at work l
    commits_there suits p (inl inn) commits = where_on suits p inn commits
    commits_there suits p (inr out) commits =
        sym (ap (λ x. option_map_or (λ (y : Place). y.address) (old_of work.image x) l.off)
        out.off.at
        ∙ ap (λ o. option_map_or (λ (y : Place). y.address) o l.off)
        (no_place_off work.program plan work.image rewriting) ∙ out.off.off)

    pub rises : (p : Pace) → PacedHere p q l n → Rises work.program p q
    rises p (inl inn) = inn.rises
    rises p (inr out) = inl out.rises

  -- at the start, with whatever states and copy the node has
  pub starts : (me : ℕ) (n : NodeMemory) → Suits work.program n
      → PacedHere first_pace (first_processor (original_with layout work) me) (first_lane work me) n
  starts me n suits =
      let program = work.program in
      let f = split_at plan program.entry (rewriting.admissible.complete program.entry
      (inl (subst IsSome (sym accepted.starts) refl))) in
      let words = length (placed_batch program f.entry) in
      let first : words ≡ words + 0 = omega arith in
      let at : (first_lane work me).at ≡ address_of program plan work.image accepted rewriting f
      false 0 = ap (λ o. unwrap_or o 0)
      (new_of_place program plan work.image rewriting program.entry f
      (some_items f.entry (program.code f.entry.address))) ∙ ap (word_address program f) first in
      single_paced program plan work.image accepted rewriting program.entry first_pace
      (first_processor (original_with layout work) me) (first_lane work me) n f at (record {
        place = refl;
        running = refl;
        agree = λ r live. refl;
        private = refl;
        written = refl;
      }) (omega arith) (inl (omega arith))

  pub code_side : CodeSide layout work plan
  code_side = record {
    Stands = PacedHere;
    word_follows = λ p q l n suits running st. word_follows q l n suits p st;
    messages_keep = λ p q l n st takes calm m suited. messages_keep work plan accepted rewriting q l n p
        st takes calm m suited;
    starts = λ me n suits. starts me n suits;
    commits_there = λ p q l n suits st commits. commits_there q l n suits p st commits;
    rises = λ p q l n st. rises q l n p st;
    paced = λ p q l n st. pace_kept work.program plan work.image accepted rewriting p q l n st;
  }
