-- Where a node stands between two words, with how many words it has executed for each step.
use Rattle.std.proofs.Common.{◌≡◌, ◌≢◌, ℕ, zero, suc, ◌+◌, ◌*◌, ◌<◌, ◌≤◌, ◌⊎◌, Bool, true, false, List, [], ◌∷◌, ◌++◌, length, Option, Some, None, refl, sym, ap, ◌∙◌, subst, inl, inr, arith, append-nil, append_assoc, length-append}
use Rattle.std.specs.Prelude.{IsSome, IsTrue, ◌||◌}
use Rattle.rewriting_law.proofs.Names.{Instr, Program, IsAccepted, Processor, next_pc, Never, IfNoWait, PlanEntry, IsPlace, may_poll, HasScratchesAt, template_at, SequenceItem, Cell, IsRewriting, new_of, ProcessorState, NodeMemory, enter, next_outcome, is_wait}
use Rattle.rewriting_law.proofs.words.CodeSide.{Pace, Rises}
use Rattle.rewriting_law.proofs.words.Plans.{EntrySplit, follows}
use Rattle.rewriting_law.proofs.words.Fetching.{word_address, next_split, new_of_place, new_of_none, AllApart, member, absent, placed_batch}
use Rattle.rewriting_law.proofs.words.Spots.{kind_of, own_kind, sequence, number, batch_length, no_batch, entry_length}
use Rattle.rewriting_law.proofs.words.Idle.{idle, idles, is_idle, all_idle, all_idle_more, idle_append, idle_counts, is_jump, has_jump, is_own, is_batch}
use Rattle.rewriting_law.proofs.words.Turns.{all_jumps, jumps_behind}
use Rattle.rewriting_law.proofs.words.Standing.{Stands, Off, serves, address_of, some_items, next_at}
use Rattle.rewriting_law.proofs.templates.Mids.{head_at}
use Rattle.rewriting_law.proofs.templates.Does.{AtHead, turns_at, skip_to, Does, OfPlace, Falls}
use Rattle.rewriting_law.proofs.templates.Templates.{entry_does}
use Rattle.rewriting_law.proofs.batches.RunDoes.{run_does}

-- how many of the words of a visit to a place may have committed nothing: those of its batch, and
-- those of its own sequence
abbrev pub spent : Bool → List SequenceItem → ℕ
spent true before = idle before
spent false before = 26 + idle before

pub spent_more : (b : Bool) (before : List SequenceItem) (i : SequenceItem)
    → spent b (before ++ i ∷ []) ≡ spent b before + idles i.commit
spent_more true before i = let all = idle_append before (i ∷ []) in omega (arith, all)
spent_more false before i = let all = idle_append before (i ∷ []) in omega (arith, all)

-- a visit to a place that has committed nothing as yet, by words that stand before these; or one
-- that has
abbrev pub Owes : Bool → ℕ → List SequenceItem → List SequenceItem → Pace → Processor → Type 0
Owes b a before left p q =
    ((q.pc ≡ a) × (p.words ≤ 40 * p.commits + spent b before)
    × (b ≡ false → has_jump left ≡ true → all_idle before ≡ true))
    ⊎ (p.words + 39 ≤ 40 * p.commits + spent b before)

-- in the own sequence of a place where code may lead back: nothing was committed since the poll or
-- the call, or only jumps are left
abbrev pub Opens : Program → Bool → ℕ → List SequenceItem → Pace → Type 0
Opens program b a left p =
    b ≡ false → turns_at program a ≡ true → (p.since ≡ 0) ⊎ (all_jumps left ≡ true)

-- words may be skipped in a batch, before no jump, and once something was committed
abbrev pub MaySkip : Bool → List SequenceItem → List SequenceItem → Pace → Type 0
MaySkip b before left p =
    (b ≡ true) ⊎ ((has_jump left ≡ false) ⊎ (p.words + 39 ≤ 40 * p.commits + spent b before))

-- a word of the visit is skipped
skips : (b : Bool) (a : ℕ) (before is : List SequenceItem) (i : SequenceItem) (p : Pace)
    (q : Processor) → MaySkip b before (i ∷ is) p → Owes b a before (i ∷ is) p q
    → Owes b a (before ++ i ∷ []) is p q
skips b a before is i p q may (inr paid) =
    let more = spent_more b before i in inr (omega (arith, paid, more))
skips b a before is i p q may (inl owed) =
    let more = spent_more b before i in
    let few = owed.1 in
    elim may [
      | inl batch ↦ inl (owed.0, omega (arith, few, more), straight (inl batch))
      | inr other ↦ elim other [
        | inl none ↦ inl (owed.0, omega (arith, few, more), straight (inr none))
        | inr paid ↦ inr (omega (arith, paid, more))
      ]
    ]
  where
    or_jump : (t : Bool) → has_jump is ≡ true → (t || has_jump is) ≡ true
    or_jump true e = refl
    or_jump false e = e

    straight : (b ≡ true) ⊎ (has_jump (i ∷ is) ≡ false) → b ≡ false → has_jump is ≡ true
        → all_idle (before ++ i ∷ []) ≡ true
    straight (inl batch) own jump = let bad : true ≡ false = sym batch ∙ own in cc
    straight (inr none) own jump =
        let bad : false ≡ true = sym none ∙ or_jump (is_jump i.what) jump in cc

module _ (program : Program) (plan : List PlanEntry) (image : List Cell)
    (accepted : IsAccepted program) (rewriting : IsRewriting program plan image) where
  abbrev StandsThere : Processor → ProcessorState → NodeMemory → Type 0
  StandsThere q l n = Stands program plan image accepted rewriting q l n

  abbrev OffThere : Processor → ProcessorState → Type 0
  OffThere q l = Off program plan image accepted rewriting q l

  -- a call that has waited doesn't wait again
  pub record IsReady (p : Pace) (q : Processor) (l : ProcessorState) (n : NodeMemory) (st : StandsThere q l n)
      : Type 0 where
    pub waited : p.waited ≡ true
    pub kind : st.item.commit ≡ IfNoWait
    pub calm : is_wait (next_outcome program image l n).move ≡ false
    pub own : st.in_batch ≡ false
    pub first : st.before ≡ []
    pub few : p.words ≤ 40 * p.commits + 27

  pub record InPace (p : Pace) (q : Processor) (l : ProcessorState) (n : NodeMemory) : Type 0 where
    pub stands : StandsThere q l n
    pub rises : Rises program p q
    pub opens : (stands.before ≡ [])
        ⊎ Opens program stands.in_batch stands.place (stands.item ∷ stands.after) p
    pub owes : Owes stands.in_batch stands.place stands.before (stands.item ∷ stands.after) p q
        ⊎ IsReady p q l n stands

  pub record OffPace (p : Pace) (q : Processor) (l : ProcessorState) : Type 0 where
    pub off : OffThere q l
    pub rises : p.since ≤ 1
    pub few : p.words ≤ 40 * p.commits

  abbrev pub Paced : Pace → Processor → ProcessorState → NodeMemory → Type 0
  Paced p q l n = InPace p q l n ⊎ OffPace p q l

  abbrev at_word : {a : ℕ} → EntrySplit plan a → Bool → ℕ → ℕ
  at_word f b k = address_of program plan image accepted rewriting f b k

  few_own : (a : ℕ) (f : EntrySplit plan a) (xs : List SequenceItem)
      → sequence program false f.entry ≡ xs → idle xs ≤ 13
  few_own a f xs e = subst (λ is. idle is ≤ 13) e (is_own f.entry (program.code f.entry.address)).few

  few_batch : (a : ℕ) (f : EntrySplit plan a) (xs : List SequenceItem)
      → sequence program true f.entry ≡ xs → idle xs ≤ 26
  few_batch a f xs e = subst (λ is. idle is ≤ 26) e (is_batch program.code f.entry).few

  -- at the head of a sequence
  head_paced : (b : Bool) (a : ℕ) (p : Pace) (q : Processor) (l : ProcessorState) (n : NodeMemory)
      (f : EntrySplit plan a) (i : SequenceItem) (is : List SequenceItem)
      → sequence program b f.entry ≡ i ∷ is → l.at ≡ at_word f b 0
      → Does program (kind_of program b f.entry) a 0 (at_word f b 0) (i ∷ is) 0 q l n
      → q.pc ≡ a → p.words ≤ 40 * p.commits + spent b [] → Rises program p q → Paced p q l n
  head_paced b a p q l n f i is e at does pc few rises = inl (record {
    rises = rises;
    opens = inl refl;
    stands = record {
      place = a;
      entry = f;
      in_batch = b;
      before = [];
      item = i;
      after = is;
      split = e;
      at = at;
      does = does;
    };
    owes = inl (inl (pc, few, λ own jump. refl));
  })

  -- what a place's own sequence does from its head
  own_does : (a : ℕ) (q : Processor) (l : ProcessorState) (n : NodeMemory) (f : EntrySplit plan a)
      → AtHead program a q l
      → Does program OfPlace a 0 (at_word f false 0) (sequence program false f.entry) 0 q l n
  own_does a q l n f head =
      let e = f.entry in
      let o = program.code e.address in
      let head_at = at_word f false 0 in
      let entry_serves = serves program plan image accepted rewriting f in
      let scratches : HasScratchesAt (template_at e.address o) program.code e.address o e.single =
      subst (λ t. HasScratchesAt t program.code e.address o e.single) entry_serves.template
      entry_serves.single in
      let polls : IsTrue e.polls → IsTrue (may_poll (template_at e.address o)) =
      λ h. subst (λ t. IsTrue (may_poll t)) entry_serves.template (entry_serves.may_poll h) in
      let does = entry_does program accepted e q l n head_at o refl scratches polls
      (subst (λ z. AtHead program z q l) (sym f.here) head) (omega arith) in
      subst (λ z. Does program OfPlace z 0 head_at (sequence program false e) 0 q l n) f.here does

  pub single_paced : (a : ℕ) (p : Pace) (q : Processor) (l : ProcessorState) (n : NodeMemory)
      (f : EntrySplit plan a) → l.at ≡ at_word f false 0 → AtHead program a q l
      → p.words ≤ 40 * p.commits + 26 → Rises program p q → Paced p q l n
  single_paced a p q l n f at head few rises =
      go (sequence program false f.entry) refl
      (some_items f.entry (program.code f.entry.address)) (own_does a q l n f head)
    where
      go : (is : List SequenceItem) → sequence program false f.entry ≡ is → 0 < length is
          → Does program OfPlace a 0 (at_word f false 0) is 0 q l n → Paced p q l n
      go [] e some does = absurd (omega (arith, some))
      go (i ∷ is) e some does =
          head_paced false a p q l n f i is e at does head.place (omega (arith, few)) rises

  pub entry_paced : (a : ℕ) (p : Pace) (q : Processor) (l : ProcessorState) (n : NodeMemory)
      (f : EntrySplit plan a) → l.at ≡ word_address program f 0 → AtHead program a q l
      → p.words ≤ 40 * p.commits → Rises program p q → Paced p q l n
  entry_paced a p q l n f at head few rises = elim (serves program plan image accepted rewriting f).run [
    | inl none ↦ go [] (no_batch program f.entry none.run) head
    | inr run ↦ (
        let here = f.here in
        go (sequence program true f.entry) refl
        (subst (λ z. Does program (kind_of program true f.entry) z 0 (at_word f true 0)
        (sequence program true f.entry) 0 q l n) here
        (run_does program accepted f.entry run q l n (at_word f true 0) (omega arith)
        (subst (λ z. AtHead program z q l) (sym here) head))))
  ]
    where
      go : (is : List SequenceItem) → sequence program true f.entry ≡ is
          → Does program (kind_of program true f.entry) a 0 (at_word f true 0) is 0 q l n
          → Paced p q l n
      go [] e does =
          let count : length (placed_batch program f.entry) ≡ 0 =
          sym (batch_length program f.entry) ∙ ap length e in
          let sum : 0 ≡ length (placed_batch program f.entry) + 0 = omega (arith, count) in
          single_paced a p q l n f (at ∙ ap (word_address program f) sum) head
          (omega (arith, few)) rises
      go (i ∷ is) e does =
          head_paced true a p q l n f i is e at does head.place (omega (arith, few)) rises

  pub enter_paced : (a : ℕ) (p : Pace) (q : Processor) (l : ProcessorState) (n : NodeMemory)
      → AtHead program a q l → p.words ≤ 40 * p.commits → Rises program p q
      → Paced p q (enter l a (new_of image a)) n
  enter_paced a p q l n head few rises = elim (member plan a) [
    | inl f ↦ (
        let words = length (placed_batch program f.entry) in
        let first : words ≡ words + 0 = omega arith in
        let new = new_of_place program plan image rewriting a f
        (some_items f.entry (program.code f.entry.address))
        ∙ ap (λ k. Some (word_address program f k)) first in
        subst (λ o. Paced p q (enter l a o) n) (sym new)
        (single_paced a p q (record l { at = at_word f false 0 }) n f refl
        (head_at program a q l (at_word f false 0) l.off head) (omega (arith, few)) rises))
    | inr apart ↦
        subst (λ o. Paced p q (enter l a o) n)
        (sym (new_of_none program plan image rewriting a apart)) (inr (record {
          off = record {
            at = refl;
            off = sym head.place;
            no_code = ap program.code head.place ∙ no_code apart (program.code a) refl;
          };
          rises = elim rises [
            | inl one ↦ one
            | inr up ↦ (
                let c = rewriting.admissible.complete a
                (subst (IsPlace program.code) head.place up.2) in
                absurd (absent plan a c.0 apart c.1 c.2))
          ];
          few = few;
        }))
  ]
    where
      no_code : AllApart plan a → (o : Option Instr) → program.code a ≡ o → program.code a ≡ None
      no_code apart None e = e
      no_code apart (Some i) e =
          let c = rewriting.admissible.complete a (inl (subst IsSome (sym e) refl)) in
          absurd (absent plan a c.0 apart c.1 c.2)

  -- the call that waited, at its place's head
  pub ready_paced : (a : ℕ) (p : Pace) (q : Processor) (l : ProcessorState) (n : NodeMemory)
      (f : EntrySplit plan a) (i : SequenceItem) (is : List SequenceItem)
      → sequence program false f.entry ≡ i ∷ is → l.at ≡ at_word f false 0
      → AtHead program a q l → p.waited ≡ true → i.commit ≡ IfNoWait
      → is_wait (next_outcome program image l n).move ≡ false → p.words ≤ 40 * p.commits + 27
      → Rises program p q → Paced p q l n
  ready_paced a p q l n f i is split at head waited kind calm few rises =
      inl (record {
        rises = rises;
        opens = inl refl;
        stands = record {
          place = a;
          entry = f;
          in_batch = false;
          before = [];
          item = i;
          after = is;
          split = split;
          at = at;
          does = subst (λ xs. Does program OfPlace a 0 (at_word f false 0) xs 0 q l n) split
              (own_does a q l n f head);
        };
        owes = inr (record {
          waited = waited;
          kind = kind;
          calm = calm;
          own = refl;
          first = refl;
          few = few;
        });
      })

  -- behind a sequence: only a visit that has committed something leaves its place
  falls_paced : (b : Bool) (a : ℕ) (p : Pace) (q : Processor) (l : ProcessorState) (n : NodeMemory)
      (f : EntrySplit plan a) (before : List SequenceItem) → sequence program b f.entry ≡ before
      → l.at ≡ at_word f b (length before) → Falls program (kind_of program b f.entry) a q l
      → Owes b a before [] p q → Rises program p q → Paced p q l n
  falls_paced true a p q l n f before e at head owes rises =
      let count : length before ≡ length (placed_batch program f.entry) =
      sym (ap length e) ∙ batch_length program f.entry in
      let sum : length before ≡ length (placed_batch program f.entry) + 0 =
      omega (arith, count) in
      let most = few_batch a f before e in
      let few : p.words ≤ 40 * p.commits + 26 = (elim owes [
        | inl owed ↦ (let few = owed.1 in omega (arith, few, most))
        | inr paid ↦ omega (arith, paid, most)
      ]) in
      single_paced a p q l n f (at ∙ ap (word_address program f) sum) head few rises
  falls_paced false a p q l n f before e at behind owes rises =
      let next = next_split program plan a f
      (follows program plan a behind.0.0 accepted rewriting.admissible behind.0.1 f) in
      let most = few_own a f before e in
      let few : p.words ≤ 40 * p.commits = (elim owes [
        | inl owed ↦ (let pc = owed.0 in let there = behind.1.place in absurd (omega (arith, pc, there)))
        | inr paid ↦ omega (arith, paid, most)
      ]) in
      entry_paced (a + 4) p q l n next.next (at ∙ ap (λ k. word_address program f k)
      (ap (λ xs. number program false f.entry (length xs)) (sym e)
      ∙ sym (entry_length program f.entry)) ∙ sym next.starts) behind.1 few rises

  lands_paced : (s a : ℕ) (p : Pace) (q : Processor) (l : ProcessorState) (n : NodeMemory)
      (f : EntrySplit plan a) (b : Bool) (before after : List SequenceItem)
      → sequence program b f.entry ≡ before ++ after
      → l.at ≡ skip_to s (at_word f b (length before))
      → Does program (kind_of program b f.entry) a (length before) (at_word f b (length before))
      after s q l n
      → (s ≡ 0) ⊎ MaySkip b before after p → Owes b a before after p q → Rises program p q
      → Opens program b a after p → Paced p q l n
  lands_paced zero a p q l n f b before [] e at does may owes rises opens =
      falls_paced b a p q l n f before (e ∙ append-nil before) at does owes rises
  lands_paced (suc s) a p q l n f b before [] e at does may owes rises opens = absurd does
  lands_paced zero a p q l n f b before (i ∷ is) e at does may owes rises opens = inl (record {
    rises = rises;
    opens = inr opens;
    stands = record {
      place = a;
      entry = f;
      in_batch = b;
      before = before;
      item = i;
      after = is;
      split = e;
      at = at;
      does = does;
    };
    owes = inl owes;
  })
  lands_paced (suc s) a p q l n f b before (i ∷ is) e at does may owes rises opens =
      let count : length before + 1 ≡ length (before ++ i ∷ []) =
      sym (length-append before (i ∷ [])) in
      let word = next_at program plan image accepted rewriting a f b before i is e in
      let skip : MaySkip b before (i ∷ is) p = (elim may [
        | inl none ↦ absurd (omega (arith, none))
        | inr some ↦ some
      ]) in
      lands_paced s a p q l n f b (before ++ i ∷ []) is (e ∙ sym (append_assoc before (i ∷ []) is))
      (at ∙ ap (skip_to s) word) (subst (λ k. Does program (kind_of program b f.entry) a k
      (at_word f b (length (before ++ i ∷ []))) is s q l n) count
      (subst (λ x. Does program (kind_of program b f.entry) a (length before + 1) x is s q l n)
      word does)) (inr (behind skip)) (skips b a before is i p q skip owes) rises
      (λ own turns. elim (opens own turns) [
        | inl none ↦ inl none
        | inr jumps ↦ inr (jumps_behind i is jumps)
      ])
    where
      none_behind : (t : Bool) → (t || has_jump is) ≡ false → has_jump is ≡ false
      none_behind true h = let bad : true ≡ false = h in cc
      none_behind false h = h

      behind : MaySkip b before (i ∷ is) p → MaySkip b (before ++ i ∷ []) is p
      behind (inl batch) = inl batch
      behind (inr (inl none)) = inr (inl (none_behind (is_jump i.what) none))
      behind (inr (inr paid)) =
          let more = spent_more b before i in inr (inr (omega (arith, paid, more)))

  -- from a word on to a later one
  pub further_paced : (p : Pace) (q q' : Processor) (l l' : ProcessorState) (n n' : NodeMemory)
      (st : StandsThere q l n) (s : ℕ)
      → l'.at ≡ skip_to s (next_pc (at_word st.entry st.in_batch (length st.before)))
      → Does program (kind_of program st.in_batch st.entry.entry) st.place (length st.before + 1)
      (next_pc (at_word st.entry st.in_batch (length st.before))) st.after s q' l' n'
      → (s ≡ 0) ⊎ MaySkip st.in_batch (st.before ++ st.item ∷ []) st.after p
      → Owes st.in_batch st.place (st.before ++ st.item ∷ []) st.after p q' → Rises program p q'
      → Opens program st.in_batch st.place st.after p → Paced p q' l' n'
  further_paced p q q' l l' n n' st s at does may owes rises opens =
      let f = st.entry in
      let b = st.in_batch in
      let before = st.before in
      let count : length before + 1 ≡ length (before ++ st.item ∷ []) =
      sym (length-append before (st.item ∷ [])) in
      let word = next_at program plan image accepted rewriting st.place f b before st.item st.after
      st.split in
      lands_paced s st.place p q' l' n' f b (before ++ st.item ∷ []) st.after
      (st.split ∙ sym (append_assoc before (st.item ∷ []) st.after)) (at ∙ ap (skip_to s) word)
      (subst (λ k. Does program (kind_of program b f.entry) st.place k
      (at_word f b (length (before ++ st.item ∷ []))) st.after s q' l' n') count
      (subst (λ x. Does program (kind_of program b f.entry) st.place (length before + 1) x st.after s
      q' l' n') word does)) may owes rises opens

  -- at the first word of the place's own sequence again
  pub again_paced : (p : Pace) (q q' : Processor) (l l' : ProcessorState) (n n' : NodeMemory)
      (st : StandsThere q l n) → l'.at ≡ l.at → kind_of program st.in_batch st.entry.entry ≡ OfPlace
      → length st.before ≡ 0 → AtHead program st.place q' l' → p.words ≤ 40 * p.commits + 26
      → Rises program p q' → Paced p q' l' n'
  again_paced p q q' l l' n n' st same own first head few rises =
      let single = own_kind program st.in_batch st.entry.entry own in
      single_paced st.place p q' l' n' st.entry
      (same ∙ st.at ∙ ap (λ k. at_word st.entry st.in_batch k) first
      ∙ ap (λ b. at_word st.entry b 0) single) head few rises

  -- a word that commits, or that doesn't
  pub paid_then : (p r : Pace) (q : Processor) (l : ProcessorState) (n : NodeMemory) (inn : InPace p q l n)
      → r.words ≡ p.words + 1 → r.commits ≡ p.commits + 1 → r.words + 39
      ≤ 40 * r.commits + spent inn.stands.in_batch (inn.stands.before ++ inn.stands.item ∷ [])
  paid_then p r q l n inn words commits =
      let st = inn.stands in
      let more = spent_more st.in_batch st.before st.item in
      elim inn.owes [
        | inl owes ↦ (elim owes [
          | inl owed ↦ (let few = owed.1 in omega (arith, few, more, words, commits))
          | inr paid ↦ omega (arith, paid, more, words, commits)
        ])
        | inr ready ↦ (
            let few = ready.few in
            let one : idles st.item.commit ≡ 1 = ap idles ready.kind in
            let here : spent st.in_batch st.before ≡ 26 =
            ap (λ b. spent b st.before) ready.own ∙ ap (spent false) ready.first in
            omega (arith, few, more, one, here, words, commits))
      ]

  pub owed_then : (p r : Pace) (q : Processor) (l : ProcessorState) (n : NodeMemory) (inn : InPace p q l n)
      → r.words ≡ p.words + 1 → r.commits ≡ p.commits → is_idle inn.stands.item.commit ≡ true
      → (IsReady p q l n inn.stands → ⊥)
      → Owes inn.stands.in_batch inn.stands.place (inn.stands.before ++ inn.stands.item ∷ [])
      inn.stands.after r q
  owed_then p r q l n inn words commits idly never =
      let st = inn.stands in
      let more = spent_more st.in_batch st.before st.item in
      let one = idle_counts st.item.commit idly in
      elim inn.owes [
        | inl owes ↦ (elim owes [
          | inl owed ↦ (let few = owed.1 in inl (
            owed.0,
            omega (arith, few, more, one, words, commits),
            λ own jump. all_idle_more st.before st.item
                (owed.2 own (or_jump (is_jump st.item.what) st.after jump)) idly,
          ))
          | inr paid ↦ inr (omega (arith, paid, more, one, words, commits))
        ])
        | inr ready ↦ absurd (never ready)
      ]
    where
      or_jump : (t : Bool) (is : List SequenceItem) → has_jump is ≡ true → (t || has_jump is) ≡ true
      or_jump true is e = refl
      or_jump false is e = e

  pub spent_most : (b : Bool) (a : ℕ) (f : EntrySplit plan a) (before left : List SequenceItem)
      → sequence program b f.entry ≡ before ++ left → spent b before + idle left ≤ 39
  spent_most true a f before left e =
      let all = idle_append before left in
      let most = few_batch a f (before ++ left) e in omega (arith, all, most)
  spent_most false a f before left e =
      let all = idle_append before left in
      let most = few_own a f (before ++ left) e in omega (arith, all, most)

  -- at no time are there 40 words more than 40 for each step
  pub pace_kept : (p : Pace) (q : Processor) (l : ProcessorState) (n : NodeMemory) → Paced p q l n
      → p.words ≤ 40 * p.commits + 39
  pace_kept p q l n (inr off) = let few = off.few in omega (arith, few)
  pace_kept p q l n (inl inn) =
      let st = inn.stands in
      elim inn.owes [
        | inl owes ↦ (
            let most = spent_most st.in_batch st.place st.entry st.before (st.item ∷ st.after)
            st.split in
            elim owes [
              | inl owed ↦ (let few = owed.1 in omega (arith, few, most))
              | inr paid ↦ omega (arith, paid, most)
            ])
        | inr ready ↦ (let few = ready.few in omega (arith, few))
      ]

  -- a jump leaves the place only once something was committed
  pub jump_paid : (p : Pace) (q : Processor) (l : ProcessorState) (n : NodeMemory) (inn : InPace p q l n) (b : ℕ)
      → is_jump inn.stands.item.what ≡ true → inn.stands.item.commit ≡ Never
      → (inn.stands.in_batch ≡ true → b ≢ inn.stands.place)
      → (inn.stands.in_batch ≡ false → all_idle inn.stands.before ≡ true → ⊥) → q.pc ≡ b
      → p.words + 1 ≤ 40 * p.commits
  jump_paid p q l n inn b jump never apart led pc =
      let st = inn.stands in
      let most = spent_most st.in_batch st.place st.entry st.before (st.item ∷ st.after) st.split in
      let one : idles st.item.commit ≡ 1 = ap idles never in
      elim inn.owes [
        | inl owes ↦ (elim owes [
          | inl owed ↦ absurd (go st.in_batch refl owed)
          | inr paid ↦ omega (arith, paid, most, one)
        ])
        | inr ready ↦ (let bad : Never ≡ IfNoWait = sym never ∙ ready.kind in cc)
      ]
    where
      jumps : (t : Bool) (is : List SequenceItem) → t ≡ true → (t || has_jump is) ≡ true
      jumps true is e = refl
      jumps false is e = let bad : false ≡ true = e in cc

      go : (t : Bool) → inn.stands.in_batch ≡ t → ((q.pc ≡ inn.stands.place)
          × (p.words ≤ 40 * p.commits + spent inn.stands.in_batch inn.stands.before)
          × (inn.stands.in_batch ≡ false → has_jump (inn.stands.item ∷ inn.stands.after) ≡ true
          → all_idle inn.stands.before ≡ true)) → ⊥
      go true e owed = apart e (sym pc ∙ owed.0)
      go false e owed =
          led e (owed.2 e (jumps (is_jump inn.stands.item.what) inn.stands.after jump))
