-- A core is never stuck: where some node isn't over, some event is allowed.
use Rattle.std.proofs.Common.{◌≡◌, ◌≢◌, ℕ, zero, suc, ◌+◌, ◌<◌, ◌≤◌, ◌⊎◌, cond, eqb, Bool, true, false, List, [], ◌∷◌, Option, Some, None, refl, sym, ap, ◌∙◌, subst, inl, inr, arith}
use Rattle.std.specs.Prelude.{not}
use Rattle.std.specs.Option.{option_map_or}
use Rattle.std.proofs.lemmas.Bool.Decides.{eqb_tells, nat_tests}
use Rattle.rewriting_law.proofs.Names.{Shape, blocks, Need, Wait, count_of, End, line_of, is_in_block, State, opening, run, PlanEntry, wanted, has_message, Work, Node, Resume, Phase, Running, Resumed, Waiting, Ended, is_at_poll, has_all_byes, standing_in, standing_of, is_ended, Core, Event, Exec, Take, May, IsCoreRun, may_execute, may_take, opening_core, event_step, after, messages_of, picks_at, original_by_node, HaveRows}
use Rattle.dsm_protocol.proofs.ProtocolSide as world
use Rattle.dsm_protocol.specs.node_model.declared.Standing.TheVariants as standing
use Rattle.rewriting_law.proofs.words.CodeSide.{CodeSide}
use Rattle.rewriting_law.proofs.one_memory.Sharing.{is_same}
use Rattle.rewriting_law.proofs.templates.RegisterLemmas.{equal}
use Rattle.rewriting_law.proofs.one_memory.Pending.{wanted_in}
use Rattle.rewriting_law.proofs.one_memory.Matching.{Activity, Runs, Awaits, HasEnded, StandsIn, wait_in}
use Rattle.rewriting_law.proofs.protocol_side.Directory.{world_of, directory}
use Rattle.rewriting_law.proofs.protocol_side.DirectorySide.{Layout, not_waiting, laid_out, directory_side}
use Rattle.rewriting_law.proofs.runs.TurnTies.{rest_of, locals_of}
use Rattle.rewriting_law.proofs.runs.Composed.{IsPhase, MatchesCore, event_leads, start_matches}
use Rattle.rewriting_law.proofs.progress.Calm.{is_calm, IsCalm, none_left}
use Rattle.rewriting_law.proofs.progress.Farewells.{has_bye, Farewells}
use Rattle.rewriting_law.proofs.progress.Closing.{row_there, Closing, event_closing, start_closing}

-- 1. Searches

pub search : (f : ℕ → Bool) (n : ℕ) → ((k : ℕ) × (k < n) × (f k ≡ true))
    ⊎ ((k : ℕ) → k < n → f k ≡ false)
search f zero = inr (λ k low. absurd (omega (arith, low)))
search f (suc n) = go (f n) refl (search f n)
  where
    go : (t : Bool) → f n ≡ t → ((k : ℕ) × (k < n) × (f k ≡ true)) ⊎ ((k : ℕ) → k < n → f k ≡ false)
        → ((k : ℕ) × (k < suc n) × (f k ≡ true)) ⊎ ((k : ℕ) → k < suc n → f k ≡ false)
    go true e rest = inl (n, omega arith, e)
    go false e (inl r) = let low = r.1 in inl (r.0, omega (arith, low), r.2)
    go false e (inr none) = inr (λ k low. elim (eqb_tells k n) [
      | inl q ↦ ap f q.1 ∙ e
      | inr q ↦ (let apart = q.1 in let below : k < n = grind (arith, nat_tests) in none k below)
    ])

pub count_most : (set : ℕ → Bool) (n : ℕ) → count_of set n ≤ n
count_most set zero = omega arith
count_most set (suc n) =
    let rest = count_most set n in
    (elim (set n) as (λ t. cond t (count_of set n + 1) (count_of set n) ≤ suc n) [
      | true ↦ omega (arith, rest)
      | false ↦ omega (arith, rest)
    ])

pub count_all : (set : ℕ → Bool) (n : ℕ) → ((k : ℕ) → k < n → set k ≡ true) → count_of set n ≡ n
count_all set zero h = refl
count_all set (suc n) h =
    let rest = count_all set n (λ k low. h k (omega (arith, low))) in
    ap (λ t. cond t (count_of set n + 1) (count_of set n)) (h n (omega arith))
    ∙ (let z : count_of set n + 1 ≡ suc n = omega (arith, rest) in z)

pub count_full : (set : ℕ → Bool) (n k : ℕ) → count_of set n ≡ n → k < n → set k ≡ true
count_full set zero k e low = absurd (omega (arith, low))
count_full set (suc n) k e low = go (set n) refl (count_most set n) e
    (λ full below. count_full set n k full below)
  where
    go : (t : Bool) → set n ≡ t → count_of set n ≤ n
        → cond t (count_of set n + 1) (count_of set n) ≡ suc n
        → (count_of set n ≡ n → k < n → set k ≡ true) → set k ≡ true
    go false f most e rest = absurd (omega (arith, most, e))
    go true f most e rest = elim (eqb_tells k n) [
      | inl q ↦ ap set q.1 ∙ f
      | inr q ↦ (let apart = q.1 in let below : k < n = grind (arith, nat_tests) in
          rest (omega (arith, e)) below)
    ]

module _ (work : Work) (plan : List PlanEntry) (lay : Layout work)
    (code : CodeSide work.layout work plan) where
  abbrev layout : Shape
  layout = work.layout

  -- 2. Where a node isn't over

  module _ (c : Core) (s : State) (m : MatchesCore work plan lay code c s)
      (f : Farewells layout.nodes c) where
    abbrev IsIdle : ℕ → Type 0
    IsIdle k = may_execute (standing_of work (c.nodes k)) ≡ false

    at_poll_or_not : (poll : Bool) → may_execute (cond poll standing.AtPoll standing.Running) ≡ true
    at_poll_or_not true = refl
    at_poll_or_not false = refl

    idle_phase : (n : Node) (p : Phase) → may_execute (standing_in work n p) ≡ false
        → ((resume : Resume) × (p ≡ Waiting resume)) ⊎ ((end : End) × (p ≡ Ended end))
    idle_phase n Running e =
        let bad : true ≡ false = sym (at_poll_or_not (is_at_poll work n)) ∙ e in cc
    idle_phase n Resumed e = let bad : true ≡ false = e in cc
    idle_phase n (Waiting resume) e = inl (resume, refl)
    idle_phase n (Ended end) e = inr (end, refl)

    takes_waiting : (i j : ℕ) (resume : Resume) → i < layout.nodes → j < layout.nodes
        → (c.nodes i).phase ≡ Waiting resume → c.list j i ≢ [] → (e : Event) × May work c e
    takes_waiting i j resume li lj is some =
        (Take i j, (li, lj, ap (λ p. may_take (standing_in work (c.nodes i) p)) is, some))

    takes_ended : (i j : ℕ) (end : End) → i < layout.nodes → j < layout.nodes
        → (c.nodes i).phase ≡ Ended end → has_all_byes work (c.nodes i) ≡ false
        → c.list j i ≢ [] → (e : Event) × May work c e
    takes_ended i j end li lj is left some = (
      Take i j,
      (
        li,
        lj,
        ap (λ p. may_take (standing_in work (c.nodes i) p)) is
            ∙ ap (λ z. may_take (cond z standing.Over standing.Ended)) left,
        some,
      ),
    )

    -- some node waits
    awaits : (k : ℕ) → k < layout.nodes → (resume : Resume) → (c.nodes k).phase ≡ Waiting resume
        → (b : ℕ) × (b < blocks layout) × ((c.nodes k).wait b ≢ None)
    awaits k low resume is = go (m.doing k) refl (m.phases k low)
      where
        waits : (o : Option Wait) (want : Need) → wanted o ≡ Some want → o ≢ None
        waits None want e gone = let bad : None ≡ Some want = e in cc
        waits (Some x) want e gone = let bad : Some x ≡ None = gone in cc

        go : (a : Activity) → m.doing k ≡ a → IsPhase work plan lay code a (c.nodes k).phase
            → (b : ℕ) × (b < blocks layout) × ((c.nodes k).wait b ≢ None)
        go Runs e (inl h) = let bad : Running ≡ Waiting resume = sym h ∙ is in cc
        go Runs e (inr h) = let bad : Resumed ≡ Waiting resume = sym h ∙ is in cc
        go (HasEnded end) e h = let bad : Ended end ≡ Waiting resume = sym h ∙ is in cc
        go (Awaits r w ws) e h =
            let stands = subst (λ a. StandsIn layout work plan code (directory layout)
            (directory_side work lay) (laid_out work lay) (m.paces k) a (s.processors k) (c.nodes k).lane
            (c.nodes k).local) e (m.matches.stands k low) in
            let block = (laid_out work lay).found (line_of w.at) stands.sought.0 in
            let b = block.0 in
            let within : is_in_block layout b w.at ≡ true =
            ap (λ o. option_map_or (λ d. eqb d b) o false) block.1 ∙ equal b b refl in (
              b,
              (lay.laws.found layout b (line_of w.at) lay.valid block.1).0,
              waits ((c.nodes k).wait b) w.need (m.matches.waits k b low
                  ∙ ap (λ a. wait_in layout work plan code (directory layout)
                  (directory_side work lay) (laid_out work lay) a b) e
                  ∙ ap (λ z. cond z (Some w.need) (wanted_in layout b ws)) within),
            )

    -- where a node waits, some list isn't empty
    some_list : (k : ℕ) → k < layout.nodes → (resume : Resume) → (c.nodes k).phase ≡ Waiting resume
        → (x : ℕ) × (y : ℕ) × (x < layout.nodes) × (y < layout.nodes) × (c.list x y ≢ [])
    some_list k low resume is =
        let w = awaits k low resume is in
        let got = world.moves lay.laws layout lay.valid lay.laid
        (world_of layout (locals_of c) (rest_of c)) s.shared m.matches.shares.held.holds k w.0 low
        w.1 w.2 in (
          got.0,
          got.1,
          got.2,
          got.3,
          (λ e. let bad : false ≡ true =
              sym (ap (λ xs. has_message (messages_of xs)) e) ∙ got.4 in cc),
        )

    waiting_moves : ((k : ℕ) → k < layout.nodes → IsIdle k) → (k : ℕ) → k < layout.nodes
        → (resume : Resume) → (c.nodes k).phase ≡ Waiting resume → (e : Event) × May work c e
    waiting_moves idle k low resume is =
        let got = some_list k low resume is in
        let x = got.0 in
        let y = got.1 in
        let some = got.4 in
        elim (idle_phase (c.nodes y) (c.nodes y).phase (idle y got.3)) [
          | inl h ↦ takes_waiting y x h.0 got.3 got.2 h.1 some
          | inr h ↦ by y x h.0 got.3 got.2 h.1 some (has_all_byes work (c.nodes y)) refl
        ]
      where
        by : (y x : ℕ) (end : End) → y < layout.nodes → x < layout.nodes
            → (c.nodes y).phase ≡ Ended end → c.list x y ≢ [] → (all : Bool)
            → has_all_byes work (c.nodes y) ≡ all → (e : Event) × May work c e
        by y x end ly lx ends some false e = takes_ended y x end ly lx ends e some
        by y x end ly lx ends some true e =
            let count = is_same (count_of (c.nodes y).byes layout.nodes) layout.nodes e in
            let taken = count_full (c.nodes y).byes layout.nodes k count low in
            let bad : false ≡ true = sym (ap is_ended is) ∙ f.ended k y low ly (inl taken) in cc

    -- all have ended
    ended_moves : ((k : ℕ) → k < layout.nodes → is_ended (c.nodes k).phase ≡ true) → (i : ℕ)
        → i < layout.nodes → (end : End) → (c.nodes i).phase ≡ Ended end
        → standing_of work (c.nodes i) ≢ standing.Over → (e : Event) × May work c e
    ended_moves all i low end is more = go (has_all_byes work (c.nodes i)) refl
        (search (λ x. not ((c.nodes i).byes x)) layout.nodes)
      where
        told : (x : ℕ) → not ((c.nodes i).byes x) ≡ true
            → ((c.nodes i).byes x ≡ true) ⊎ (has_bye (c.list x i) ≡ true) → c.list x i ≢ []
        told x missing (inl e) empty =
            let bad : false ≡ true = sym (ap not e) ∙ missing in cc
        told x missing (inr e) empty = let bad : false ≡ true = sym (ap has_bye empty) ∙ e in cc

        noted : (b : Bool) → not b ≡ false → b ≡ true
        noted true e = refl
        noted false e = let bad : true ≡ false = e in cc

        go : (b : Bool) → has_all_byes work (c.nodes i) ≡ b
            → ((x : ℕ) × (x < layout.nodes) × (not ((c.nodes i).byes x) ≡ true))
            ⊎ ((x : ℕ) → x < layout.nodes → not ((c.nodes i).byes x) ≡ false)
            → (e : Event) × May work c e
        go true e found = absurd (more (ap (standing_in work (c.nodes i)) is
            ∙ ap (λ z. cond z standing.Over standing.Ended) e))
        go false e (inl x) =
            takes_ended i x.0 end low x.1 is e (told x.0 x.2 (f.told x.0 i x.1 low (all x.0 x.1)))
        go false e (inr none) =
            let full = count_all (c.nodes i).byes layout.nodes
            (λ x lx. noted ((c.nodes i).byes x) (none x lx)) in
            let bad : false ≡ true =
            sym e ∙ equal (count_of (c.nodes i).byes layout.nodes) layout.nodes full in cc

    some_event : (i : ℕ) → i < layout.nodes → standing_of work (c.nodes i) ≢ standing.Over
        → (e : Event) × May work c e
    some_event i low more =
        elim (search (λ k. may_execute (standing_of work (c.nodes k))) layout.nodes) [
          | inl k ↦ (Exec k.0, (k.1, k.2))
          | inr idle ↦ idle_event idle
              (search (λ k. not (is_ended (c.nodes k).phase)) layout.nodes)
        ]
      where
        ended_all : (b : Bool) → not b ≡ false → b ≡ true
        ended_all true e = refl
        ended_all false e = let bad : true ≡ false = e in cc

        idle_event : ((k : ℕ) → k < layout.nodes → IsIdle k)
            → ((k : ℕ) × (k < layout.nodes) × (not (is_ended (c.nodes k).phase) ≡ true))
            ⊎ ((k : ℕ) → k < layout.nodes → not (is_ended (c.nodes k).phase) ≡ false)
            → (e : Event) × May work c e
        idle_event idle (inl k) =
            elim (idle_phase (c.nodes k.0) (c.nodes k.0).phase (idle k.0 k.1)) [
              | inl h ↦ waiting_moves idle k.0 k.1 h.0 h.1
              | inr h ↦ (let bad : false ≡ true = sym (ap (λ p. not (is_ended p)) h.1) ∙ k.2 in cc)
            ]
        idle_event idle (inr none) =
            elim (idle_phase (c.nodes i) (c.nodes i).phase (idle i low)) [
              | inl h ↦ (let bad : true ≡ false =
                  sym (ap (λ p. not (is_ended p)) h.1) ∙ none i low in cc)
              | inr h ↦ ended_moves
                  (λ k lk. ended_all (is_ended (c.nodes k).phase) (none k lk)) i low h.0 h.1 more
            ]

    -- where all nodes are over, no message is left
    over_phase : (n : Node) (p : Phase) → standing_in work n p ≡ standing.Over
        → (is_ended p ≡ true) × (has_all_byes work n ≡ true)
    over_phase n Running e = absurd (poll_or_not (is_at_poll work n) e)
      where
        poll_or_not : (b : Bool) → cond b standing.AtPoll standing.Running ≡ standing.Over → ⊥
        poll_or_not true h = absurd cc
        poll_or_not false h = absurd cc
    over_phase n Resumed e = absurd cc
    over_phase n (Waiting resume) e = absurd cc
    over_phase n (Ended end) e = (refl, all (has_all_byes work n) e)
      where
        all : (b : Bool) → cond b standing.Over standing.Ended ≡ standing.Over → b ≡ true
        all true h = refl
        all false h = absurd cc

    over_empty : IsCalm layout.nodes c
        → ((k : ℕ) → k < layout.nodes → standing_of work (c.nodes k) ≡ standing.Over) → (x y : ℕ)
        → x < layout.nodes → y < layout.nodes → c.list x y ≡ []
    over_empty calm over x y lx ly =
        let there = over_phase (c.nodes y) (c.nodes y).phase (over y ly) in
        let taken = count_full (c.nodes y).byes layout.nodes x
        (is_same (count_of (c.nodes y).byes layout.nodes) layout.nodes there.1) lx in
        none_left (c.list x y) (ap (λ z. is_calm z (c.list x y)) (sym taken) ∙ calm.lists x y lx ly)
        (world.settled lay.laws layout lay.valid lay.laid
        (world_of layout (locals_of c) (rest_of c)) s.shared m.matches.shares.held.holds
        (λ k b lk lb. not_waiting ((c.nodes k).wait b) (m.matches.waits k b lk
        ∙ idle_waits (m.doing k) (c.nodes k).phase (m.phases k lk)
        (over_phase (c.nodes k) (c.nodes k).phase (over k lk)).0 b)) x y lx ly)
      where
        idle_waits : (a : Activity) (p : Phase) → IsPhase work plan lay code a p
            → is_ended p ≡ true → (b : ℕ)
            → wait_in layout work plan code (directory layout) (directory_side work lay)
            (laid_out work lay) a b ≡ None
        idle_waits Runs p h e b = refl
        idle_waits (HasEnded end) p h e b = refl
        idle_waits (Awaits resume want more) p h e b =
            let bad : false ≡ true = sym (ap is_ended h) ∙ e in cc

  -- 3. From the start

  -- what holds after a run
  record Behind (c : Core) : Type 0 where
    state : State
    matches : MatchesCore work plan lay code c state
    closing : Closing layout.nodes c

  after_run : (es : List Event) (c : Core) (s : State) → MatchesCore work plan lay code c s
      → Closing layout.nodes c → IsCoreRun work c es → Behind (after work c es)
  after_run [] c s m f may = record { state = s; matches = m; closing = f }
  after_run (e ∷ es) c s m f may =
      after_run es (event_step work c e) (run (original_by_node work) s (picks_at work plan c e))
      (event_leads work plan lay code c s m e may.0).0.behind
      (event_closing work plan lay code c s m f e may.0) may.1

  module _ (es : List Event) (may : IsCoreRun work (opening_core work) es) where
    abbrev end_core : Core
    end_core = after work (opening_core work) es

    behind : Behind end_core
    behind = after_run es (opening_core work) (opening (original_by_node work))
        (start_matches work plan lay code) (start_closing work plan lay code) may

    pub never_stuck : (i : ℕ) → i < layout.nodes
        → standing_of work (end_core.nodes i) ≢ standing.Over → (e : Event) × May work end_core e
    never_stuck i low more =
        some_event end_core behind.state behind.matches behind.closing.farewells i low more

    pub moves : (i : ℕ) (resume : Resume) → i < layout.nodes
        → (end_core.nodes i).phase ≡ Waiting resume
        → (x : ℕ) × (y : ℕ) × (x < layout.nodes) × (y < layout.nodes) × (end_core.list x y ≢ [])
    moves i resume low is =
        some_list end_core behind.state behind.matches behind.closing.farewells i low resume is

    pub over : ((k : ℕ) → k < layout.nodes → standing_of work (end_core.nodes k) ≡ standing.Over)
        → (x y : ℕ) → x < layout.nodes → y < layout.nodes → end_core.list x y ≡ []
    over all x y lx ly =
        over_empty end_core behind.state behind.matches behind.closing.farewells
        behind.closing.calm all x y lx ly

    pub rows : HaveRows work end_core
    rows i j wire ws li lj front plain =
        let r = row_there work plan lay code end_core behind.state behind.matches
        behind.closing.farewells i li j lj wire ws front plain in
        (r.0, r.1)
