-- Between two moments at which a node may take messages, its steps ascend from the third on, so that
-- they are at most one more than the program has places.
use Rattle.std.proofs.Common.{◌≡◌, ◌≢◌, ℕ, zero, suc, ◌+◌, ◌<◌, ◌≤◌, ◌⊎◌, cond, eqb, Bool, true, false, List, [], ◌∷◌, ◌++◌, length, refl, sym, ap, ◌∙◌, subst, inl, inr, arith}
use Rattle.std.specs.Prelude.{◌&&◌, Contains}
use Rattle.std.proofs.lemmas.Bool.Decides.{eqb_tells}
use Rattle.rewriting_law.proofs.Names.{Stopped, Program, State, run, Wire, PlanEntry, IsPlace, AscendsFrom, addresses, Work, Node, Move, Waits, Leaves, Running, Resumed, Ended, phase_after, word_outcome, is_at_poll, standing_of, standing_in, is_ended, wants_of, after_word, after_wants, word_turn, take_turn, each_block_once, Core, Event, Exec, Take, May, IsCoreRun, opening_core, may_take, take_first, event_step, after, pc_at, committed_at, committed, HasNoPollWithin, Ascend, AscendFromThird, commits, picks_at, original_by_node}
use Rattle.dsm_protocol.specs.node_model.declared.Standing.TheVariants as standing
use Rattle.rewriting_law.proofs.templates.RegisterLemmas.{equal}
use Rattle.rewriting_law.proofs.words.CodeSide.{Pace, one_if, CodeSide}
use Rattle.rewriting_law.proofs.one_memory.Matching.{Runs, StandsIn}
use Rattle.rewriting_law.proofs.protocol_side.Directory.{directory}
use Rattle.rewriting_law.proofs.protocol_side.DirectorySide.{Layout, laid_out, directory_side}
use Rattle.rewriting_law.proofs.runs.Turns.{byes_node, wants_same}
use Rattle.rewriting_law.proofs.runs.TurnTies.{rest_at, locals_of}
use Rattle.rewriting_law.proofs.runs.Composed.{MatchesCore, IsPhase, pace_of_word, paces_by, may_run, event_leads, composes_from_start}

-- 1. Lists that climb

-- the first of a list is left out
abbrev pub behind_first : List ℕ → List ℕ
behind_first [] = []
behind_first (x ∷ xs) = xs

-- each is greater than the one before it, and where there are two or more all are places
abbrev pub Climb : Program → List ℕ → Type 0
Climb program [] = Unit {0}
Climb program (x ∷ []) = Unit {0}
Climb program (x ∷ y ∷ ys) = (x < y) × IsPlace program.code x × IsPlace program.code y
    × Climb program (y ∷ ys)

climb_ascends : (program : Program) (xs : List ℕ) → Climb program xs → Ascend xs
climb_ascends program [] h = tt
climb_ascends program (x ∷ []) h = tt
climb_ascends program (x ∷ y ∷ ys) h = (h.0, climb_ascends program (y ∷ ys) h.3)

pub ascends_from_third : (program : Program) (xs : List ℕ) → Climb program (behind_first xs)
    → AscendFromThird xs
ascends_from_third program [] h = tt
ascends_from_third program (x ∷ xs) h = climb_ascends program xs h

-- places that ascend from a number on
abbrev ClimbFrom : Program → ℕ → List ℕ → Type 0
ClimbFrom program low [] = Unit {0}
ClimbFrom program low (x ∷ xs) = (low ≤ x) × IsPlace program.code x × ClimbFrom program (x + 1) xs

climbs_on : (program : Program) (x : ℕ) (xs : List ℕ) → Climb program (x ∷ xs)
    → ClimbFrom program (x + 1) xs
climbs_on program x [] h = tt
climbs_on program x (y ∷ ys) h =
    let above = h.0 in (omega (arith, above), h.2, climbs_on program y ys h.3)

-- all places from a number on have their entries here
abbrev pub HasAllFrom : Program → ℕ → List PlanEntry → Type 0
HasAllFrom program low plan =
    (a : ℕ) → IsPlace program.code a → low ≤ a → Contains (addresses plan) a

least_is : (low : ℕ) (plan : List PlanEntry) (a : ℕ) → AscendsFrom low plan
    → Contains (addresses plan) a → low ≤ a
least_is low [] a h (k, lt, is) = absurd (omega (arith, lt))
least_is low (e ∷ es) a h (zero, lt, is) = let first = h.0 in omega (arith, first, is)
least_is low (e ∷ es) a h (suc k, lt, is) =
    let first = h.0 in
    let more = least_is (e.address + 1) es a h.1 (k, omega (arith, lt), is) in
    omega (arith, first, more)

in_rest : (e : PlanEntry) (es : List PlanEntry) (a : ℕ) → e.address + 1 ≤ a
    → Contains (addresses (e ∷ es)) a → Contains (addresses es) a
in_rest e es a above (zero, lt, is) = absurd (omega (arith, above, is))
in_rest e es a above (suc k, lt, is) = (k, omega (arith, lt), is)

all_in_rest : (program : Program) (low : ℕ) (e : PlanEntry) (es : List PlanEntry)
    → low ≤ e.address → HasAllFrom program low (e ∷ es) → HasAllFrom program (e.address + 1) es
all_in_rest program low e es first all a place above =
    in_rest e es a above (all a place (omega (arith, first, above)))

climb_few : (program : Program) (low : ℕ) (plan : List PlanEntry) (xs : List ℕ)
    → AscendsFrom low plan → HasAllFrom program low plan → ClimbFrom program low xs
    → length xs ≤ length plan
climb_few program low plan [] h all climb = omega arith
climb_few program low [] (x ∷ xs) h all climb =
    let none = all x climb.1 climb.0 in let lt = none.1 in absurd (omega (arith, lt))
climb_few program low (e ∷ es) (x ∷ xs) h all climb =
    go (all x climb.1 climb.0) (λ ys. climb_few program (e.address + 1) es ys h.1
    (all_in_rest program low e es h.0 all))
  where
    go : Contains (addresses (e ∷ es)) x
        → ((ys : List ℕ) → ClimbFrom program (e.address + 1) ys → length ys ≤ length es)
        → length (x ∷ xs) ≤ length (e ∷ es)
    go (zero, lt, is) few =
        let rest = few xs (subst (λ z. ClimbFrom program (z + 1) xs) (sym is) climb.2) in
        omega (arith, rest)
    go (suc k, lt, is) few =
        let there : Contains (addresses es) x = (k, omega (arith, lt), is) in
        let rest = few (x ∷ xs)
        (least_is (e.address + 1) es x h.1 there, climb.1, climb.2) in omega (arith, rest)

pub some_entry : (plan : List PlanEntry) (a : ℕ) → Contains (addresses plan) a → 1 ≤ length plan
some_entry [] a h = let lt = h.1 in absurd (omega (arith, lt))
some_entry (e ∷ es) a h = omega arith

pub few_places : (program : Program) (plan : List PlanEntry) (xs : List ℕ) → AscendsFrom 0 plan
    → HasAllFrom program 0 plan → 1 ≤ length plan → Climb program (behind_first xs)
    → length xs ≤ length plan + 1
few_places program plan [] h all some climb = omega (arith, some)
few_places program plan (x ∷ []) h all some climb = omega (arith, some)
few_places program plan (x ∷ y ∷ []) h all some climb = omega (arith, some)
few_places program plan (x ∷ y ∷ z ∷ zs) h all some climb =
    let few = climb_few program 0 plan (y ∷ z ∷ zs) h all
    (omega arith, climb.1, climbs_on program y (z ∷ zs) climb) in omega (arith, few)

-- 2. What an event does to a node's pace

-- a word leaves no processor resumed
move_unresumed : (budget executed : ℕ) (m : Move) → phase_after budget executed m ≢ Resumed
move_unresumed budget executed m h = go m h
  where
    stops : (b : Bool) → cond b (Ended (Stopped budget)) Running ≡ Resumed → ⊥
    stops true e = cc
    stops false e = cc

    go : (m : Move) → phase_after budget executed m ≡ Resumed → ⊥
    go (Leaves e) h = cc
    go (Waits resume want more) h = cc
    go other h = stops (eqb executed budget) h

word_unresumed : (work : Work) (n : Node) → (word_turn work n).node.phase ≢ Resumed
word_unresumed work n h =
    let t = after_wants work n in
    let phase : (word_turn work n).node.phase
    ≡ phase_after work.budget (n.executed + 1) (word_outcome work n).move =
    ap (λ (x : Node). x.phase) (byes_node work.layout.nodes t (is_ended t.node.phase))
    ∙ (wants_same work.layout (each_block_once work.layout (wants_of (word_outcome work n).move))
    (after_word work n)).phase in
    move_unresumed work.budget (n.executed + 1) (word_outcome work n).move (sym phase ∙ h)

module _ (work : Work) (plan : List PlanEntry) (lay : Layout work)
    (code : CodeSide work.layout work plan) where
  abbrev Matched : Core → State → Type 0
  Matched c s = MatchesCore work plan lay code c s

  abbrev IsPlaceHere : ℕ → Type 0
  IsPlaceHere a = IsPlace work.program.code a

  -- a node that may take no message, and hasn't just got what it waited for
  abbrev IsSilent : Core → ℕ → Type 0
  IsSilent c i = (may_take (standing_of work (c.nodes i)) ≡ false) × ((c.nodes i).phase ≢ Resumed)

  -- an event by which node i commits nothing
  record Keeps (c : Core) (i : ℕ) (p p' : Pace) (e : Event) : Type 0 where
    none : committed_at work plan i c e ≡ []
    since : IsSilent c i → p'.since ≡ p.since
    last : IsSilent c i → p'.last ≡ p.last
    still : IsSilent c i → ((event_step work c e).nodes i).phase ≢ Resumed

  -- and one by which it commits a step
  record Commits (c : Core) (i : ℕ) (p p' : Pace) (e : Event) : Type 0 where
    there : ℕ
    one : committed_at work plan i c e ≡ there ∷ []
    some : 1 ≤ p'.since
    more : IsSilent c i → p'.since ≡ p.since + 1
    last : p'.last ≡ there
    up : (p.since ≤ 1) ⊎ ((p.last < there) × IsPlaceHere p.last × IsPlaceHere there)
    still : ((event_step work c e).nodes i).phase ≢ Resumed

  abbrev Either : (c : Core) (i : ℕ) (paces : ℕ → Pace) (e : Event) → Type 0
  Either c i paces e =
      Keeps c i (paces i) (paces_by work plan lay code c paces e i) e
      ⊎ Commits c i (paces i) (paces_by work plan lay code c paces e i) e

  module _ (c : Core) (s : State) (m : Matched c s) (i : ℕ) (low : i < work.layout.nodes) where
    abbrev n : Node
    n = c.nodes i

    abbrev pace : Pace
    pace = m.paces i

    abbrev takes : Bool
    takes = is_at_poll work n

    runs : May work c (Exec i) → m.doing i ≡ Runs
    runs may = may_run work plan lay code n (m.doing i) n.phase (m.phases i low) may.1

    stands_there : May work c (Exec i) → code.Stands pace (s.processors i) n.lane n.local
    stands_there may =
        let side = directory_side work lay in
        let stands = subst (λ a. StandsIn work.layout work plan code (directory work.layout) side
        (laid_out work lay) pace a (s.processors i) n.lane n.local) (runs may)
        (m.matches.stands i low) in
        stands.1

    -- a word that commits is of the original address where its processor is
    pub commits_there : May work c (Exec i) → commits work plan n ≡ true
        → (s.processors i).pc ≡ pc_at work n.lane
    commits_there may e =
        code.commits_there pace (s.processors i) n.lane n.local
        ((directory_side work lay).suits (locals_of c) (rest_at m.counts c) s.shared
        m.matches.shares.held i low) (stands_there may) e

    -- a word before which a silent node stands takes no messages
    no_poll : m.doing i ≡ Runs → IsSilent c i → takes ≡ false
    no_poll doing silent =
        go (subst (λ a. IsPhase work plan lay code a n.phase) doing (m.phases i low))
      where
        by : (t : Bool) → may_take (cond t standing.AtPoll standing.Running) ≡ false → t ≡ false
        by true e = let bad : true ≡ false = e in cc
        by false e = refl

        go : IsPhase work plan lay code Runs n.phase → takes ≡ false
        go (inl running) =
            by takes (sym (ap (λ p. may_take (standing_in work n p)) running) ∙ silent.0)
        go (inr resumed) = absurd (silent.1 resumed)

    -- its own word
    own_word : May work c (Exec i) → Either c i m.paces (Exec i)
    own_word may = go (commits work plan n) refl
      where
        now : Pace
        now = paces_by work plan lay code c m.paces (Exec i) i

        pace_is : now ≡ pace_of_word work plan lay code c m.paces i
        pace_is =
            ap (λ z. cond z (pace_of_word work plan lay code c m.paces i) pace) (equal i i refl)

        since_is : (b : Bool) → commits work plan n ≡ b
            → now.since ≡ cond takes 0 pace.since + one_if b
        since_is b e =
            ap (λ (p : Pace). p.since) pace_is
            ∙ ap (λ z. cond takes 0 pace.since + one_if z) e

        last_is : (b : Bool) → commits work plan n ≡ b
            → now.last ≡ cond b (pc_at work n.lane) pace.last
        last_is b e =
            ap (λ (p : Pace). p.last) pace_is
            ∙ ap (λ z. cond z (pc_at work n.lane) pace.last) e

        committed_is : (b : Bool) → commits work plan n ≡ b
            → committed_at work plan i c (Exec i) ≡ cond b (pc_at work n.lane ∷ []) []
        committed_is b e =
            ap (λ z. cond (z && commits work plan n) (pc_at work n.lane ∷ []) []) (equal i i refl)
            ∙ ap (λ z. cond z (pc_at work n.lane ∷ []) []) e

        since_silent : IsSilent c i → cond takes 0 pace.since ≡ pace.since
        since_silent silent = ap (λ t. cond t 0 pace.since) (no_poll (runs may) silent)

        unresumed : ((event_step work c (Exec i)).nodes i).phase ≢ Resumed
        unresumed h =
            word_unresumed work n
            (sym (ap (λ z. (cond z (word_turn work n).node n).phase) (equal i i refl)) ∙ h)

        up : commits work plan n ≡ true → (pace.since ≤ 1) ⊎ ((pace.last < pc_at work n.lane)
            × IsPlaceHere pace.last × IsPlaceHere (pc_at work n.lane))
        up e =
            let pc = commits_there may e in
            elim (code.rises pace (s.processors i) n.lane n.local (stands_there may)) [
              | inl one ↦ inl one
              | inr above ↦ inr (
                subst (λ z. pace.last < z) pc above.0,
                above.1,
                subst IsPlaceHere pc above.2,
              )
            ]

        go : (b : Bool) → commits work plan n ≡ b → Either c i m.paces (Exec i)
        go false e = inl (record {
          none = committed_is false e;
          since = λ silent.
              let now_is = since_is false e in
              let same = since_silent silent in omega (arith, now_is, same);
          last = λ silent. last_is false e;
          still = λ silent. unresumed;
        })
        go true e = inr (record {
          there = pc_at work n.lane;
          one = committed_is true e;
          some = (let now_is = since_is true e in omega (arith, now_is));
          more = λ silent.
              let now_is = since_is true e in
              let same = since_silent silent in omega (arith, now_is, same);
          last = last_is true e;
          up = up e;
          still = unresumed;
        })

    -- an event of another node
    other_word : (k : ℕ) → eqb i k ≡ false → eqb k i ≡ false → Either c i m.paces (Exec k)
    other_word k apart back =
        let same : paces_by work plan lay code c m.paces (Exec k) i ≡ pace =
        ap (λ z. cond z (pace_of_word work plan lay code c m.paces k) pace) apart in
        inl (record {
          none = ap (λ z. cond (z && commits work plan (c.nodes k))
              (pc_at work (c.nodes k).lane ∷ []) []) back;
          since = λ silent. ap (λ (p : Pace). p.since) same;
          last = λ silent. ap (λ (p : Pace). p.last) same;
          still = λ silent h. silent.1
              (sym (ap (λ z. (cond z (word_turn work (c.nodes k)).node n).phase) apart) ∙ h);
        })

    -- a message
    message : (k j : ℕ) → May work c (Take k j) → Either c i m.paces (Take k j)
    message k j may = inl (record {
      none = refl;
      since = λ silent. ap (λ (p : Pace). p.since) same;
      last = λ silent. ap (λ (p : Pace). p.last) same;
      still = λ silent h. silent.1 (sym (kept silent (c.list j k)) ∙ h);
    })
      where
        same : paces_by work plan lay code c m.paces (Take k j) i ≡ pace
        same = elim (eqb_tells i k) [
          | inl t ↦ ap (λ z. cond z (m.paces k) pace) t.0 ∙ ap m.paces (sym t.1)
          | inr t ↦ ap (λ z. cond z (m.paces k) pace) t.0
        ]

        kept : IsSilent c i → (ws : List Wire) → ((take_first work c k j ws).nodes i).phase ≡ n.phase
        kept silent [] = refl
        kept silent (wire ∷ ws) = elim (eqb_tells i k) [
          | inl t ↦ (
              let can = may.2 in
              let taking : may_take (standing_of work n) ≡ true =
              ap (λ z. may_take (standing_of work (c.nodes z))) t.1 ∙ can in
              let bad : false ≡ true = sym silent.0 ∙ taking in cc)
          | inr t ↦ ap (λ z. (cond z (take_turn work (c.nodes k) j wire).node n).phase) t.0
        ]

    either : (e : Event) → May work c e → Either c i m.paces e
    either (Exec k) may = elim (eqb_tells i k) [
      | inl t ↦ subst (λ z. Either c i m.paces (Exec z)) t.1
          (own_word (subst (λ z. May work c (Exec z)) (sym t.1) may))
      | inr t ↦ other_word k t.0 (elim (eqb_tells k i) [
        | inl u ↦ absurd (t.1 (sym u.1))
        | inr u ↦ u.0
      ])
    ]
    either (Take k j) may = message k j may

  -- 3. Runs

  -- node i may take no message now, nor behind any of these events but the last
  abbrev Stays : (i : ℕ) → Core → List Event → Type 0
  Stays i c [] = Unit {0}
  Stays i c (e ∷ es) =
      (may_take (standing_of work (c.nodes i)) ≡ false) × HasNoPollWithin work i c (e ∷ es)

  stays_on : (i : ℕ) (c : Core) (e : Event) (es : List Event) → HasNoPollWithin work i c (e ∷ es)
      → Stays i (event_step work c e) es
  stays_on i c e [] h = tt
  stays_on i c e (f ∷ es) h = h

  runs_on : (i : ℕ) (c : Core) (es : List Event) → Stays i c es → HasNoPollWithin work i c es
  runs_on i c [] h = tt
  runs_on i c (e ∷ es) h = h.1

  -- behind the second step, which was at this place
  behind_second : (es : List Event) (c : Core) (s : State) (m : Matched c s) (i y : ℕ)
      → i < work.layout.nodes → IsCoreRun work c es → Stays i c es
      → (c.nodes i).phase ≢ Resumed → 2 ≤ (m.paces i).since → (m.paces i).last ≡ y
      → Climb work.program (y ∷ committed work plan i c es)
  behind_second [] c s m i y low may stays still since last = tt
  behind_second (e ∷ es) c s m i y low may stays still since last =
      let d = event_step work c e in
      let t = run (original_by_node work) s (picks_at work plan c e) in
      let leads = (event_leads work plan lay code c s m e may.0).0 in
      let paced = leads.paced in
      let silent : IsSilent c i = (stays.0, still) in
      let on = stays_on i c e es stays.1 in
      elim (either c s m i low e may.0) [
        | inl k ↦ (
            let now = ap (λ (f : ℕ → Pace). (f i).since) paced ∙ k.since silent in
            subst (λ xs. Climb work.program (y ∷ xs ++ committed work plan i d es)) (sym k.none)
            (behind_second es d t leads.behind i y low may.1 on (k.still silent)
            (omega (arith, now, since))
            (ap (λ (f : ℕ → Pace). (f i).last) paced ∙ k.last silent ∙ last)))
        | inr k ↦ (
            let now = ap (λ (f : ℕ → Pace). (f i).since) paced ∙ k.more silent in
            let rest = behind_second es d t leads.behind i k.there low may.1 on k.still
            (omega (arith, now, since)) (ap (λ (f : ℕ → Pace). (f i).last) paced ∙ k.last) in
            subst (λ xs. Climb work.program (y ∷ xs ++ committed work plan i d es)) (sym k.one)
            (elim k.up [
              | inl one ↦ absurd (omega (arith, one, since))
              | inr up ↦ (
                subst (λ z. z < k.there) last up.0,
                subst IsPlaceHere last up.1,
                up.2,
                rest,
              )
            ]))
      ]

  -- behind the first
  behind_one : (es : List Event) (c : Core) (s : State) (m : Matched c s) (i : ℕ)
      → i < work.layout.nodes → IsCoreRun work c es → Stays i c es
      → (c.nodes i).phase ≢ Resumed → 1 ≤ (m.paces i).since
      → Climb work.program (committed work plan i c es)
  behind_one [] c s m i low may stays still since = tt
  behind_one (e ∷ es) c s m i low may stays still since =
      let d = event_step work c e in
      let t = run (original_by_node work) s (picks_at work plan c e) in
      let leads = (event_leads work plan lay code c s m e may.0).0 in
      let paced = leads.paced in
      let silent : IsSilent c i = (stays.0, still) in
      let on = stays_on i c e es stays.1 in
      elim (either c s m i low e may.0) [
        | inl k ↦ (
            let now = ap (λ (f : ℕ → Pace). (f i).since) paced ∙ k.since silent in
            subst (λ xs. Climb work.program (xs ++ committed work plan i d es)) (sym k.none)
            (behind_one es d t leads.behind i low may.1 on (k.still silent)
            (omega (arith, now, since))))
        | inr k ↦ (
            let now = ap (λ (f : ℕ → Pace). (f i).since) paced ∙ k.more silent in
            subst (λ xs. Climb work.program (xs ++ committed work plan i d es)) (sym k.one)
            (behind_second es d t leads.behind i k.there low may.1 on k.still
            (omega (arith, now, since)) (ap (λ (f : ℕ → Pace). (f i).last) paced ∙ k.last)))
      ]

  -- from any moment on
  climbs : (es : List Event) (c : Core) (s : State) (m : Matched c s) (i : ℕ)
      → i < work.layout.nodes → IsCoreRun work c es → HasNoPollWithin work i c es
      → Climb work.program (behind_first (committed work plan i c es))
  climbs [] c s m i low may through = tt
  climbs (e ∷ es) c s m i low may through =
      let d = event_step work c e in
      let t = run (original_by_node work) s (picks_at work plan c e) in
      let leads = (event_leads work plan lay code c s m e may.0).0 in
      let on = stays_on i c e es through in
      elim (either c s m i low e may.0) [
        | inl k ↦
            subst (λ xs. Climb work.program (behind_first (xs ++ committed work plan i d es)))
            (sym k.none) (climbs es d t leads.behind i low may.1 (runs_on i d es on))
        | inr k ↦ (
            let now = ap (λ (f : ℕ → Pace). (f i).since) leads.paced in
            let some = k.some in
            subst (λ xs. Climb work.program (behind_first (xs ++ committed work plan i d es)))
            (sym k.one)
            (behind_one es d t leads.behind i low may.1 on k.still (omega (arith, now, some))))
      ]

  split_run : (first : List Event) (c : Core) (between : List Event)
      → IsCoreRun work c (first ++ between)
      → IsCoreRun work c first × IsCoreRun work (after work c first) between
  split_run [] c between may = (tt, may)
  split_run (e ∷ es) c between may =
      let rest = split_run es (event_step work c e) between may.1 in ((may.0, rest.0), rest.1)

  pub climbs_between : (first between rest : List Event) (i : ℕ) → i < work.layout.nodes
      → IsCoreRun work (opening_core work) (first ++ (between ++ rest))
      → HasNoPollWithin work i (after work (opening_core work) first) between → Climb work.program
      (behind_first (committed work plan i (after work (opening_core work) first) between))
  climbs_between first between rest i low may none =
      let c = after work (opening_core work) first in
      let parts = split_run first (opening_core work) (between ++ rest) may in
      let there = composes_from_start work plan lay code first parts.0 in
      climbs between c _ there.matches i low (split_run between c rest parts.1).0 none
