-- One node alone: it may write all shared lines, so that no word waits, and it gets Byes alone.
use Rattle.std.proofs.Common.{◌≡◌, ℕ, ◌<◌, cond, eqb, Bool, true, false, List, [], ◌∷◌, ◌++◌, refl, sym, ap, ◌∙◌, subst, arith}
use Rattle.std.specs.Prelude.{◌&&◌, not}
use Rattle.std.specs.Option.{option_map_or}
use Rattle.rewriting_law.proofs.Names.{Shape, home, changed, holds, Need, Message, Bye, Post, Wire, is_bye, Shared, line_of, Processor, State, Request, Becomes, Prints, LoadsFrom, StoresTo, ReservesAt, StoresWhere, UpdatesAt, opening, request, run, CommitKind, PlanEntry, commit_at, old_of, AreByes, Work, Node, NodeMemory, Move, Waits, Leaves, WordOutcome, first_state, is_at_home, is_writable_state, can_execute, Phase, word_outcome, Turn, silent, byes_to, with_byes, is_ended, wants_of, want_all, after_word, after_wants, word_turn, handled, journaled, after_message, take_turn, each_block_once, Core, Event, Exec, Take, May, IsCoreRun, opening_core, wires_to, with_list, take_first, event_step, after, is_wait, commits_by, picks_at, original_by_node, GoesAlone}
use Rattle.home_directory.specs.dsm_messages.declared.messages.Need.TheVariants as need
use Rattle.home_directory.specs.dsm_messages.declared.messages.Message.TheVariants.{Read, Write}
use Rattle.rewriting_law.proofs.templates.States.{grants}
use Rattle.rewriting_law.proofs.templates.Does.{local_conditional, Commits}
use Rattle.rewriting_law.proofs.words.CodeSide.{Pace, GoesOn, Follows, CodeSide}
use Rattle.rewriting_law.proofs.one_memory.Sharing.{readable_if_writable}
use Rattle.rewriting_law.proofs.templates.RegisterLemmas.{equal}
use Rattle.rewriting_law.proofs.one_memory.Matching.{Activity, Runs}
use Rattle.rewriting_law.proofs.protocol_side.DirectorySide.{Layout, laid_out}
use Rattle.rewriting_law.proofs.runs.Turns.{byes_node}
use Rattle.rewriting_law.proofs.runs.TurnTies.{resumed_blocks}
use Rattle.rewriting_law.proofs.runs.Composed.{IsPhase, MatchesCore, pace_of_word, may_run, next_word, event_leads, start_matches}
use Rattle.rewriting_law.proofs.runs.Behind.{byes_are}

-- Byes alone
abbrev OnlyByes : List Wire → Type 0
OnlyByes [] = Unit {0}
OnlyByes (w ∷ ws) = (is_bye w.message ≡ true) × OnlyByes ws

byes_behind : (ws xs : List Wire) → OnlyByes ws → OnlyByes xs → OnlyByes (ws ++ xs)
byes_behind [] xs h g = g
byes_behind (w ∷ ws) xs h g = (h.0, byes_behind ws xs h.1 g)

byes_sent : (stamp k : ℕ) (ps : List Post) → AreByes ps → OnlyByes (wires_to stamp k ps)
byes_sent stamp k [] h = tt
byes_sent stamp k (p ∷ ps) h = (elim (eqb p.to k)
    as (λ t. OnlyByes (cond t
    (record { stamp = stamp; message = p.message } ∷ wires_to stamp k ps) (wires_to stamp k ps))) [
      | true ↦ (h.0, byes_sent stamp k ps h.1)
      | false ↦ byes_sent stamp k ps h.1
    ])

all_byes : (nodes : ℕ) (t : Turn) (ends : Bool) → t.sends ≡ []
    → AreByes (with_byes nodes t ends).sends
all_byes nodes t true e = subst (λ ps. AreByes (ps ++ byes_to nodes)) (sym e) (byes_are nodes)
all_byes nodes t false e = subst AreByes (sym e) tt

-- a Bye is noted
pub bye_noted : (layout : Shape) (n : Node) (j : ℕ) (m : Message) → is_bye m ≡ true
    → handled layout n j m ≡ silent (record n { byes = changed n.byes j true })
bye_noted layout n j Bye e = refl
bye_noted layout n j other e = absurd cc

granted_all : (want : Need) (s : ℕ) → is_writable_state s ≡ true → grants want s ≡ true
granted_all need.Read s h = readable_if_writable s h
granted_all need.Write s h = h

no_wants : (mv : Move) → is_wait mv ≡ false → wants_of mv ≡ []
no_wants (Leaves e) h = refl
no_wants (Waits resume want more) h = let bad : true ≡ false = h in cc
no_wants other h = refl

module _ (work : Work) (plan : List PlanEntry) (lay : Layout work)
    (code : CodeSide work.layout work plan) where
  abbrev layout : Shape
  layout = work.layout

  -- the node may write all shared lines
  abbrev HasAll : NodeMemory → Type 0
  HasAll n = (line : ℕ) → work.program.class line ≡ Shared → is_writable_state (n.state line) ≡ true

  record AllAlone (c : Core) : Type 0 where
    writable : (i : ℕ) → i < layout.nodes → HasAll (c.nodes i).local
    byes : (j i : ℕ) → OnlyByes (c.list j i)

  -- words change no state
  module _ (q : Processor) (n : NodeMemory) (r : WordOutcome) where
    conditional_state : (x value : ℕ) (b : Bool)
        → (local_conditional work.program n x value b).state ≡ n.state
    conditional_state x value true = refl
    conditional_state x value false = refl

    commits_state : (K : Processor → Type 0) (a : Request) → Commits work.program K q n r a
        → r.local.state ≡ n.state
    commits_state K (Becomes p) h = ap (λ (x : NodeMemory). x.state) h.3
    commits_state K (Prints x) h = ap (λ (x : NodeMemory). x.state) h.2
    commits_state K (LoadsFrom k d x) h = ap (λ (x : NodeMemory). x.state) h.2
    commits_state K (StoresTo w x value) h = ap (λ (x : NodeMemory). x.state) h.2
    commits_state K (ReservesAt d x) h = ap (λ (x : NodeMemory). x.state) h.2
    commits_state K (StoresWhere d x value) h =
        ap (λ (x : NodeMemory). x.state) h.2 ∙ conditional_state x value (holds n.reservation x)
    commits_state K (UpdatesAt o d x value) h = ap (λ (x : NodeMemory). x.state) h.2

    goes_state : (x : Pace) (b : Bool) → GoesOn layout work plan (code.Stands x) q n r b
        → r.local.state ≡ n.state
    goes_state x true h = commits_state _ (request work.program q) h.1
    goes_state x false h = ap (λ (x : NodeMemory). x.state) h.1

    follows_state : (x : Pace) (kind : CommitKind) (mv : Move)
        → Follows layout work plan (code.Stands x) q n r kind mv → r.local.state ≡ n.state
    follows_state x kind (Leaves e) h = ap (λ (x : NodeMemory). x.state) h.local
    follows_state x kind (Waits resume want more) h = ap (λ (x : NodeMemory). x.state) h.1.local
    follows_state x kind other h = goes_state x (commits_by kind r) h

    -- and none waits
    never_waits : (x : Pace) (kind : CommitKind) (mv : Move) → HasAll n
        → Follows layout work plan (code.Stands x) q n r kind mv → is_wait mv ≡ false
    never_waits x kind (Waits resume want more) all h =
        let w = h.1.wanted.0 in
        let bad : false ≡ true = sym w.unmet
        ∙ granted_all want.need (n.state (line_of want.at)) (all (line_of want.at) w.shared) in cc
    never_waits x kind other all h = refl

  module _ (c : Core) (s : State) (m : MatchesCore work plan lay code c s) (a : AllAlone c) (i : ℕ)
      (below : i < layout.nodes) where
    abbrev n : Node
    n = c.nodes i

    module _ (runs : m.doing i ≡ Runs) where
      abbrev r : WordOutcome
      r = word_outcome work n

      abbrev kind : CommitKind
      kind = commit_at work.program plan (old_of work.image n.lane.at)

      no_wait : is_wait r.move ≡ false
      no_wait = never_waits (s.processors i) n.local r (pace_of_word work plan lay code c m.paces i) kind r.move (a.writable i below)
          (next_word work plan lay code c s m i below runs)

      same_turn : after_wants work n ≡ after_word work n
      same_turn = ap (λ ws. want_all layout (after_word work n) (each_block_once layout ws))
          (no_wants r.move no_wait)

      word_alone : GoesAlone work n
      word_alone = record {
        waits = no_wait;
        node = byes_node layout.nodes (after_wants work n)
            (is_ended (after_wants work n).node.phase)
            ∙ ap (λ (t : Turn). t.node) same_turn;
      }

      has_all_then : HasAll (word_turn work n).node.local
      has_all_then line shared =
          ap (λ (x : Node). is_writable_state (x.local.state line)) word_alone.node
          ∙ ap (λ (f : ℕ → ℕ). is_writable_state (f line))
          (follows_state (s.processors i) n.local r (pace_of_word work plan lay code c m.paces i) kind r.move
          (next_word work plan lay code c s m i below runs)) ∙ a.writable i below line shared

      word_keeps : AllAlone (event_step work c (Exec i))
      word_keeps =
          let t = word_turn work n in
          let sends = all_byes layout.nodes (after_wants work n)
          (is_ended (after_wants work n).node.phase) (ap (λ (t : Turn). t.sends) same_turn) in
          record {
            writable = λ x low. (elim (eqb x i) as (λ z. HasAll (cond z t.node (c.nodes x)).local) [
              | true ↦ has_all_then
              | false ↦ a.writable x low
            ]);
            byes = λ j k. (elim (eqb j i) as
                (λ z. OnlyByes (cond z (c.list j k ++ wires_to t.node.stamp k t.sends)
                (c.list j k))) [
                  | true ↦ byes_behind (c.list j k) (wires_to t.node.stamp k t.sends) (a.byes j k)
                      (byes_sent t.node.stamp k t.sends sends)
                  | false ↦ a.byes j k
                ]);
          }

    message_keeps : (j : ℕ) (wires : List Wire) → c.list j i ≡ wires
        → AllAlone (take_first work c i j wires)
    message_keeps j [] e = a
    message_keeps j (wire ∷ ws) e =
        let front : OnlyByes (wire ∷ ws) = subst OnlyByes e (a.byes j i) in
        let n1 = journaled n j wire in
        let noted = bye_noted layout n1 j wire.message front.0 in
        let t1 = handled layout n1 j wire.message in
        let t = take_turn work n j wire in
        let ends = is_ended (after_message work n j wire).node.phase && not (is_ended n.phase) in
        let local : t.node.local ≡ n.local =
        ap (λ (x : Node). x.local) (byes_node layout.nodes (after_message work n j wire) ends)
        ∙ (resumed_blocks c i work t1.node t1.node.phase).local
        ∙ ap (λ (x : Turn). x.node.local) noted in
        let sends = all_byes layout.nodes (after_message work n j wire) ends
        (ap (λ (x : Turn). x.sends) noted) in
        let list = (with_list c j i ws).list in
        let popped : (x y : ℕ) → OnlyByes (list x y) =
        (λ x y. (elim (eqb x j && eqb y i) as (λ z. OnlyByes (cond z ws (c.list x y))) [
          | true ↦ front.1
          | false ↦ a.byes x y
        ])) in
        record {
          writable = λ x low. (elim (eqb x i) as (λ z. HasAll (cond z t.node (c.nodes x)).local) [
            | true ↦ subst HasAll (sym local) (a.writable i below)
            | false ↦ a.writable x low
          ]);
          byes = λ x k. (elim (eqb x i) as
              (λ z. OnlyByes (cond z (list x k ++ wires_to t.node.stamp k t.sends) (list x k))) [
                | true ↦ byes_behind (list x k) (wires_to t.node.stamp k t.sends) (popped x k)
                    (byes_sent t.node.stamp k t.sends sends)
                | false ↦ popped x k
              ]);
        }

  event_keeps : (c : Core) (s : State) (m : MatchesCore work plan lay code c s) → AllAlone c
      → (e : Event) → May work c e → AllAlone (event_step work c e)
  event_keeps c s m a (Exec i) may =
      word_keeps c s m a i may.0 (may_run work plan lay code (c.nodes i) (m.doing i)
      (c.nodes i).phase (m.phases i may.0) may.1)
  event_keeps c s m a (Take i j) may = message_keeps c s m a i may.0 j (c.list j i) refl

  runs_when : (a : Activity) (p : Phase) → IsPhase work plan lay code a p → can_execute p ≡ true
      → a ≡ Runs
  runs_when Runs p h e = refl
  runs_when other p h e =
      let bad : false ≡ true = sym (ap can_execute h) ∙ e in cc

  alone_after : (es : List Event) (c : Core) (s : State) → MatchesCore work plan lay code c s
      → AllAlone c → IsCoreRun work c es → (i : ℕ) → i < layout.nodes
      → can_execute ((after work c es).nodes i).phase ≡ true
      → GoesAlone work ((after work c es).nodes i)
  alone_after [] c s m a may i low runs =
      word_alone c s m a i low (runs_when (m.doing i) (c.nodes i).phase (m.phases i low) runs)
  alone_after (e ∷ es) c s m a may i low runs =
      alone_after es (event_step work c e) (run (original_by_node work) s (picks_at work plan c e))
      (event_leads work plan lay code c s m e may.0).0.behind (event_keeps c s m a e may.0) may.1 i
      low runs

  module _ (single : layout.nodes ≡ 1) where
    start_alone : AllAlone (opening_core work)
    start_alone = record {
      writable = λ i low line shared.
          let found = (laid_out work lay).found line shared in
          let below = (lay.laws.found layout found.0 line lay.valid found.1).0 in
          let at = lay.laid.homes found.0 below in
          let home_is : home layout found.0 ≡ i = omega (arith, low, at, single) in
          let here : is_at_home layout i line ≡ true =
          ap (λ o. option_map_or (λ d. eqb (home layout d) i) o false) found.1
          ∙ equal (home layout found.0) i home_is in
          ap (λ k. is_writable_state (first_state k (is_at_home layout i line))) shared
          ∙ ap (λ z. is_writable_state (first_state Shared z)) here;
      byes = λ j i. tt;
    }

    pub one_alone : (es : List Event) → IsCoreRun work (opening_core work) es
        → can_execute ((after work (opening_core work) es).nodes 0).phase ≡ true
        → GoesAlone work ((after work (opening_core work) es).nodes 0)
    one_alone es may runs =
        alone_after es (opening_core work) (opening (original_by_node work))
        (start_matches work plan lay code) start_alone may 0 (omega (arith, single)) runs
