-- One word of a processor among others, some of the same node, that share a memory: it is no step,
-- or one step, of its processor.
use Rattle.std.proofs.Common.{◌≡◌, ℕ, ◌<◌, cond, eqb, Bool, true, false, List, [], ◌∷◌, ◌++◌, Option, Some, None, refl, sym, ap, ◌∙◌, subst, append-nil}
use Rattle.std.specs.Prelude.{if◌then◌else◌, ◌==◌, ◌||◌}
use Rattle.std.specs.Option.{option_to_list, option_map_or}
use Rattle.rewriting_law.proofs.Names.{width_of, is_aligned, LoadKind, ByteU, Width, Word, amo, holds, cleared, Shape, block_of, has_line, stored, Class, Shared, class_at, line_of, load_value, byte_by, shared_after, with_reservation, after_other, after_store_by, Original, Pick, Step, run, value_read, Access, Nothing, Writes, Processor, State, Reads, WritesIf, Exchanges, Request, Becomes, Prints, LoadsFrom, StoresTo, ReservesAt, StoresWhere, UpdatesAt, request, with_exit, after_print, after_store, after_exchange, after_conditional, with_conditional, set_register, StepResult, answer, step, CommitKind, PlanEntry, Work, ProcessorState, NodeMemory, Move, Waits, Leaves, WordOutcome, is_readable_state, is_writable_state, local_stored, lane_after, each_block_once, is_exit, commits_by, Licensed}
use Rattle.rv32_decode.specs.declared.LoadKind.TheVariants.{Word as WordLoad}
use Rattle.rv32_step.specs.OneMemory.{byte_at}
use Rattle.rewriting_law.proofs.templates.RegisterLemmas.{equal}
use Rattle.rewriting_law.proofs.templates.States.{Suits}
use Rattle.rewriting_law.proofs.templates.Does.{byte_seen, local_conditional, Commits, CommitsConditional, is_store}
use Rattle.rewriting_law.proofs.words.Requests.{MayBeAsked, may_be_asked}
use Rattle.rewriting_law.proofs.words.CodeSide.{WaitsFor, GoesOn, Follows}
use Rattle.rewriting_law.proofs.one_memory.Advances.{Advanced}
use Rattle.rewriting_law.proofs.one_memory.Sharing.{Sharing, IsReadable, with_local, local_here, is_same, readable_if_writable, load_same}

none_stays : (layout : Shape) (o : Option ℕ)
    → option_map_or (λ b. cleared layout b None) o None ≡ None
none_stays layout None = refl
none_stays layout (Some b) = refl

-- a reservation after another processor of the node has made this access
abbrev pub ended : Shape → Access → Option ℕ → Option ℕ
ended layout Nothing o = o
ended layout (Reads k a value) o = o
ended layout (Writes w a value) o = after_other layout a o
ended layout (WritesIf a value b) o = if b then after_other layout a o else o
ended layout (Exchanges a old new) o = after_other layout a o

-- what doesn't store ends none
ended_not : (layout : Shape) (x : Access) (o : Option ℕ) → is_store x ≡ false → ended layout x o ≡ o
ended_not layout Nothing o h = refl
ended_not layout (Reads k a value) o h = refl
ended_not layout (Writes w a value) o h = let bad : true ≡ false = h in cc
ended_not layout (WritesIf a value b) o h = ap (λ t. cond t (after_other layout a o) o) h
ended_not layout (Exchanges a old new) o h = let bad : true ≡ false = h in cc

-- a reservation that is left was there
other_left : (layout : Shape) (x : ℕ) (o : Option ℕ) (a : ℕ) → after_other layout x o ≡ Some a
    → o ≡ Some a
other_left layout x o a h = go (block_of layout (line_of x)) o h
  where
    within : (b y : ℕ) → (t : Bool) → cond t None (Some y) ≡ Some a → Some y ≡ Some a
    within b y true h = let bad : None ≡ Some a = h in cc
    within b y false h = h

    go : (p o : Option ℕ) → option_map_or (λ b. cleared layout b o) p o ≡ Some a → o ≡ Some a
    go None o h = h
    go (Some b) None h = let bad : None ≡ Some a = h in cc
    go (Some b) (Some y) h = within b y (has_line layout b (line_of y)) h

pub ended_left : (layout : Shape) (x : Access) (o : Option ℕ) (a : ℕ) → ended layout x o ≡ Some a
    → o ≡ Some a
ended_left layout Nothing o a h = h
ended_left layout (Reads k y value) o a h = h
ended_left layout (Writes w y value) o a h = other_left layout y o a h
ended_left layout (WritesIf y value true) o a h = other_left layout y o a h
ended_left layout (WritesIf y value false) o a h = h
ended_left layout (Exchanges y old new) o a h = other_left layout y o a h

-- one processor has executed a word
abbrev pub picked : ℕ → Bool → List Pick
picked i b = cond b (Step i ∷ []) []

abbrev pub values_of_word : ℕ → WordOutcome → Bool → ℕ → List ℕ
values_of_word i r b j = cond (eqb j i) (cond b (option_to_list (value_read r.access)) []) []

-- so many processors, each at a node
module _ (layout : Shape) (work : Work) (processors : ℕ) (node_of : ℕ → ℕ)
    (placed : (p : ℕ) → p < processors → node_of p < work.layout.nodes) where
  -- the original on the one memory
  abbrev pub original : Original
  original = record { program = work.program; layout = layout; nodes = processors }

  -- what the words of a processor see: its node's copy and states, and its own reservation
  abbrev pub seen : (ℕ → NodeMemory) → (ℕ → Option ℕ) → ℕ → NodeMemory
  seen locals reserved p = record (locals (node_of p)) { reservation = reserved p }

  -- the nodes and the reservations beside the one memory, but for where the processors stand
  pub record Shares (sharing : Sharing layout work) (locals : ℕ → NodeMemory) (reserved : ℕ → Option ℕ)
      (s : State) : Type 0 where
    pub held : sharing.Holds locals s.shared
    pub reservations : (j : ℕ) → j < processors → reserved j ≡ s.reservations j
    pub readable : (j : ℕ) → j < processors → IsReadable layout work (seen locals reserved j)

  -- the reservations after a word of processor i, where its access leaves this of the others' ones
  abbrev pub reserved_after : (Access → Option ℕ → Option ℕ) → (ℕ → Option ℕ) → ℕ → WordOutcome → ℕ
      → Option ℕ
  reserved_after lost reserved i r j =
      if j == i then r.local.reservation
      else (if node_of j == node_of i then lost r.access (reserved j) else reserved j)

  module _ (plan : List PlanEntry) (Stands : Processor → ProcessorState → NodeMemory → Type 0)
      (lost : Access → Option ℕ → Option ℕ)
      (ends : (x : Access) (o : Option ℕ) → lost x o ≡ ended layout x o)
      (sharing : Sharing layout work) (locals : ℕ → NodeMemory) (reserved : ℕ → Option ℕ) (s : State)
      (shares : Shares sharing locals reserved s) (i : ℕ) (below : i < processors) (running : (s.processors i).exit ≡ None)
      (r : WordOutcome) where
    abbrev q : Processor
    q = s.processors i

    -- its node
    abbrev ours : ℕ
    ours = node_of i

    abbrev n : NodeMemory
    n = seen locals reserved i

    there : ours < work.layout.nodes
    there = placed i below

    abbrev K : Processor → Type 0
    K p = Suits work.program r.local → Stands p (lane_after work.image r.lane r.move) r.local

    -- where the node stands after the word
    abbrev pub Onward : Processor → Move → Type 0
    Onward p (Leaves e) = p.exit ≡ Some e
    Onward p (Waits resume want more) =
        (p.exit ≡ None)
        × WaitsFor layout work plan Stands p n r resume (each_block_once layout (want ∷ more))
    Onward p m = (p.exit ≡ None) × Stands p (lane_after work.image r.lane r.move) r.local

    -- the node and its processor after the word
    pub record Worded (t : State) : Type 0 where
      pub shared : Shares sharing (with_local locals ours r.local) (reserved_after lost reserved i r) t
      pub others : (j : ℕ) → eqb j i ≡ false → t.processors j ≡ s.processors j
      pub states : r.local.state ≡ n.state
      pub onward : Onward (t.processors i) r.move
      pub output : t.output ≡ s.output ++ option_to_list r.printed

    pub record Steps (y : StepResult) : Type 0 where
      pub worded : Worded y.state
      pub access : r.access ≡ y.access

    abbrev result : Request → StepResult
    result a = answer original s i q a

    -- a byte of a line that may be read is the one memory's
    same_byte : (x : ℕ) → is_readable_state (n.state (line_of x)) ≡ true → (c : Class)
        → class_at work.program x ≡ c → byte_by c (n.copy x) (work.program.first x) (q.private x) 0
        ≡ byte_by c (s.shared x) (work.program.first x) (q.private x) 0
    same_byte x h Shared e = sharing.coherent locals s.shared shares.held ours there x e h
    same_byte x h other e = refl

    same_as_seen : (x : ℕ) → is_readable_state (n.state (line_of x)) ≡ true
        → byte_seen work.program q n x ≡ byte_at work.program s q x
    same_as_seen x h = same_byte x h (class_at work.program x) refl

    loaded : (k : LoadKind) (x : ℕ) → is_aligned (width_of k) x ≡ true
        → is_readable_state (n.state (line_of x)) ≡ true
        → load_value k (byte_seen work.program q n) x ≡ load_value k (byte_at work.program s q) x
    loaded k x al h =
        load_same k (byte_seen work.program q n) (byte_at work.program s q) x al
        (λ y e. same_as_seen y (ap (λ z. is_readable_state (n.state z)) e ∙ h))

    -- the protocol's fact for another part with the same copy and states
    held_like : (memory : ℕ → ℕ) (x y : NodeMemory) → x.copy ≡ y.copy → x.state ≡ y.state
        → sharing.Holds (with_local locals ours x) memory
        → sharing.Holds (with_local locals ours y) memory
    held_like memory x y e f h =
        sharing.like (with_local locals ours x) (with_local locals ours y) memory
        (λ j. (elim (eqb j ours) as
        (λ t. (cond t x (locals j)).copy ≡ (cond t y (locals j)).copy) [ true ↦ e | false ↦ refl ]))
        (λ j. (elim (eqb j ours) as
        (λ t. (cond t x (locals j)).state ≡ (cond t y (locals j)).state) [
          | true ↦ f
          | false ↦ refl
        ])) h

    held_still : (y : NodeMemory) → y.copy ≡ n.copy → y.state ≡ n.state
        → sharing.Holds (with_local locals ours y) s.shared
    held_still y e f =
        sharing.like locals (with_local locals ours y) s.shared (λ j. (elim (eqb j ours) as
        (λ t. eqb j ours ≡ t → (locals j).copy ≡ (cond t y (locals j)).copy) [
          | true ↦ (λ g. ap (λ z. (locals z).copy) (is_same j ours g) ∙ sym e)
          | false ↦ (λ g. refl)
        ]) refl) (λ j. (elim (eqb j ours) as
        (λ t. eqb j ours ≡ t → (locals j).state ≡ (cond t y (locals j)).state) [
          | true ↦ (λ g. ap (λ z. (locals z).state) (is_same j ours g) ∙ sym f)
          | false ↦ (λ g. refl)
        ]) refl) shares.held

    stored_held : (w : Width) (x value : ℕ) → is_aligned w x ≡ true
        → is_writable_state (n.state (line_of x)) ≡ true → (c : Class)
        → class_at work.program x ≡ c → sharing.Holds (with_local locals ours
        (record n { copy = shared_after c n.copy (stored w n.copy x value) }))
        (shared_after c s.shared (stored w s.shared x value))
    stored_held w x value al h Shared e =
        held_like (stored w s.shared x value)
        (record (locals ours) { copy = stored w (locals ours).copy x value })
        (record n { copy = stored w n.copy x value }) refl refl
        (sharing.stores locals s.shared shares.held ours there w x value al e h)
    stored_held w x value al h other e = held_still (record n { copy = n.copy }) refl refl

    -- its own reservation stays
    own_stays : (x : ℕ) → after_store_by layout i x s.reservations i ≡ s.reservations i
    own_stays x = ap (λ t. cond t (s.reservations i) (after_other layout x (s.reservations i)))
        (equal i i refl)

    abbrev left : ℕ → Option ℕ
    left j = cond (eqb (node_of j) ours) (lost r.access (reserved j)) (reserved j)

    -- a word that doesn't store ends no other
    others_silent : is_store r.access ≡ false → (j : ℕ) → j < processors → left j ≡ s.reservations j
    others_silent silent j low = go (eqb (node_of j) ours) ∙ shares.reservations j low
      where
        go : (u : Bool) → cond u (lost r.access (reserved j)) (reserved j) ≡ reserved j
        go true = ends r.access (reserved j) ∙ ended_not layout r.access (reserved j) silent
        go false = refl

    -- a store ends those of its node in its block, and no others: no other node may read the line
    others_stay : (x : ℕ) → ((o : Option ℕ) → lost r.access o ≡ after_other layout x o)
        → is_writable_state (n.state (line_of x)) ≡ true → (j : ℕ) → j < processors
        → eqb j i ≡ false → left j ≡ after_store_by layout i x s.reservations j
    others_stay x is h j low e =
        go (eqb (node_of j) ours) refl
        ∙ sym (ap (λ t. cond t (s.reservations j) (after_other layout x (s.reservations j))) e)
      where
        elsewhere : eqb (node_of j) ours ≡ false → (o : Option ℕ) → s.reservations j ≡ o
            → after_other layout x o ≡ o
        elsewhere other None f = none_stays layout (block_of layout (line_of x))
        elsewhere other (Some y) f =
            sharing.apart locals s.shared shares.held ours (node_of j) there (placed j low) other x
            y h (shares.readable j low y (shares.reservations j low ∙ f))

        go : (u : Bool) → eqb (node_of j) ours ≡ u
            → cond u (lost r.access (reserved j)) (reserved j)
            ≡ after_other layout x (s.reservations j)
        go true u = is (reserved j) ∙ ap (after_other layout x) (shares.reservations j low)
        go false u = shares.reservations j low ∙ sym (elsewhere u (s.reservations j) refl)

    -- the nodes after the word, with this memory and these reservations
    shares_after : (t : State) → sharing.Holds (with_local locals ours r.local) t.shared
        → r.local.reservation ≡ t.reservations i → IsReadable layout work r.local
        → r.local.state ≡ n.state
        → ((j : ℕ) → j < processors → eqb j i ≡ false → left j ≡ t.reservations j)
        → Shares sharing (with_local locals ours r.local) (reserved_after lost reserved i r) t
    shares_after t held own readable states others = record {
      held = held;
      reservations = λ j low. (elim (eqb j i)
          as (λ u. eqb j i ≡ u → cond u r.local.reservation (left j) ≡ t.reservations j) [
            | true ↦ (λ e. own ∙ ap t.reservations (sym (is_same j i e)))
            | false ↦ (λ e. others j low e)
          ]) refl;
      readable = λ j low. (elim (eqb j i) as (λ u. eqb j i ≡ u → IsReadable layout work
          (record (with_local locals ours r.local (node_of j)) {
            reservation = cond u r.local.reservation (left j);
          })) [
            | true ↦ (λ e a f c. (elim (eqb (node_of j) ours) as (λ v. eqb (node_of j) ours ≡ v
                → is_readable_state ((cond v r.local (locals (node_of j))).state (line_of a))
                ≡ true) [
                  | true ↦ (λ g. readable a f c)
                  | false ↦ (λ g. let bad : false ≡ true = sym g
                      ∙ equal (node_of j) ours (ap node_of (is_same j i e)) in cc)
                ]) refl)
            | false ↦ (λ e a f c. (elim (eqb (node_of j) ours) as (λ v. eqb (node_of j) ours ≡ v
                → cond v (lost r.access (reserved j)) (reserved j) ≡ Some a
                → is_readable_state ((cond v r.local (locals (node_of j))).state (line_of a))
                ≡ true) [
                  | true ↦ (λ g h. ap (λ (u : ℕ → ℕ). is_readable_state (u (line_of a))) (states
                      ∙ ap (λ k. (locals k).state) (sym (is_same (node_of j) ours g)))
                      ∙ shares.readable j low a (ended_left layout r.access (reserved j) a (sym (ends r.access (reserved j)) ∙ h)) c)
                  | false ↦ (λ g h. shares.readable j low a h c)
                ]) refl f)
          ]) refl;
    }

    -- the processor has become another, and the others are as before
    record Moved (t : State) (p : Processor) : Type 0 where
      here : t.processors i ≡ p
      others : (j : ℕ) → eqb j i ≡ false → t.processors j ≡ s.processors j

    moved : (t : State) (p : Processor)
        → t.processors ≡ (λ j. if j == i then p else s.processors j) → Moved t p
    moved t p is = record {
      here = ap (λ (f : ℕ → Processor). f i) is
          ∙ ap (λ u. cond u p (s.processors i)) (equal i i refl);
      others = λ j e. ap (λ (f : ℕ → Processor). f j) is ∙ ap (λ u. cond u p (s.processors j)) e;
    }

    moved_twice : (t : State) (p : Processor)
        → t.processors ≡ (λ j. if j == i then p else (if j == i then p else s.processors j))
        → Moved t p
    moved_twice t p is = record {
      here = ap (λ (f : ℕ → Processor). f i) is
          ∙ ap (λ u. cond u p (cond u p (s.processors i))) (equal i i refl);
      others = λ j e. ap (λ (f : ℕ → Processor). f j) is
          ∙ ap (λ u. cond u p (cond u p (s.processors j))) e;
    }

    -- the processor has made its step
    made : (t : State) (p : Processor) → ((p : Processor) → p.exit ≡ None
        → Stands p (lane_after work.image r.lane r.move) r.local → Onward p r.move)
        → Moved t p → Shares sharing (with_local locals ours r.local) (reserved_after lost reserved i r) t
        → r.local.state ≡ n.state → p.exit ≡ None → K p
        → t.output ≡ s.output ++ option_to_list r.printed → Worded t
    made t p on m shared states exit stands output =
        let suits : Suits work.program r.local =
        subst (Suits work.program) (local_here locals ours r.local)
        (sharing.suits (with_local locals ours r.local) t.shared shared.held ours there) in
        record {
          shared = shared;
          others = m.others;
          states = states;
          onward = subst (λ p. Onward p r.move) (sym m.here) (on p exit (stands suits));
          output = output;
        }

    readable_like : (y : NodeMemory) → r.local ≡ y → y.reservation ≡ n.reservation
        → y.state ≡ n.state → IsReadable layout work r.local
    readable_like y e f g a h c =
        ap (λ (z : NodeMemory). is_readable_state (z.state (line_of a))) e
        ∙ ap (λ (u : ℕ → ℕ). is_readable_state (u (line_of a))) g
        ∙ shares.readable i below a
        (sym f ∙ ap (λ (z : NodeMemory). z.reservation) (sym e) ∙ h) c

    readable_none : (y : NodeMemory) → r.local ≡ y → y.reservation ≡ None → IsReadable layout work r.local
    readable_none y e f a h c =
        let bad : None ≡ Some a = sym f ∙ ap (λ (z : NodeMemory). z.reservation) (sym e) ∙ h in cc

    -- nothing of the nodes has changed
    shares_still : (t : State) → r.local ≡ n → is_store r.access ≡ false → t.shared ≡ s.shared
        → t.reservations ≡ s.reservations
        → Shares sharing (with_local locals ours r.local) (reserved_after lost reserved i r) t
    shares_still t e silent shared reservations =
        shares_after t (subst (sharing.Holds (with_local locals ours r.local)) (sym shared)
        (held_still r.local (ap (λ (z : NodeMemory). z.copy) e) (ap (λ (z : NodeMemory). z.state) e)))
        (ap (λ (z : NodeMemory). z.reservation) e ∙ shares.reservations i below
        ∙ sym (ap (λ (f : ℕ → Option ℕ). f i) reservations))
        (readable_like n e refl refl) (ap (λ (z : NodeMemory). z.state) e)
        (λ j low f. others_silent silent j low
        ∙ sym (ap (λ (g : ℕ → Option ℕ). g j) reservations))

    -- the node and the memory have made the same store
    shares_stored : (t : State) (w : Width) (x value : ℕ) → is_aligned w x ≡ true
        → is_writable_state (n.state (line_of x)) ≡ true
        → ((o : Option ℕ) → lost r.access o ≡ after_other layout x o)
        → r.local ≡ local_stored work.program n w x value → t.shared
        ≡ shared_after (class_at work.program x) s.shared (stored w s.shared x value)
        → t.reservations ≡ after_store_by layout i x s.reservations
        → Shares sharing (with_local locals ours r.local) (reserved_after lost reserved i r) t
    shares_stored t w x value al h is e shared reservations =
        shares_after t (subst (sharing.Holds (with_local locals ours r.local)) (sym shared)
        (subst (λ z. sharing.Holds (with_local locals ours z)
        (shared_after (class_at work.program x) s.shared (stored w s.shared x value))) (sym e)
        (stored_held w x value al h (class_at work.program x) refl)))
        (ap (λ (z : NodeMemory). z.reservation) e ∙ shares.reservations i below ∙ sym (own_stays x)
        ∙ sym (ap (λ (f : ℕ → Option ℕ). f i) reservations))
        (readable_like (local_stored work.program n w x value) e refl refl)
        (ap (λ (z : NodeMemory). z.state) e)
        (λ j low f. others_stay x is h j low f
        ∙ sym (ap (λ (g : ℕ → Option ℕ). g j) reservations))

    -- the processor has reserved an address that its node may read
    shares_reserved : (t : State) (x : ℕ) → is_readable_state (n.state (line_of x)) ≡ true
        → is_store r.access ≡ false
        → r.local ≡ record n { reservation = Some x } → t.shared ≡ s.shared
        → t.reservations ≡ with_reservation s.reservations i (Some x)
        → Shares sharing (with_local locals ours r.local) (reserved_after lost reserved i r) t
    shares_reserved t x h silent e shared reservations =
        shares_after t (subst (sharing.Holds (with_local locals ours r.local)) (sym shared)
        (held_still r.local (ap (λ (z : NodeMemory). z.copy) e) (ap (λ (z : NodeMemory). z.state) e)))
        (ap (λ (z : NodeMemory). z.reservation) e
        ∙ sym (ap (λ u. cond u (Some x) (s.reservations i)) (equal i i refl))
        ∙ sym (ap (λ (f : ℕ → Option ℕ). f i) reservations))
        (λ a f c.
        let both : Some x ≡ Some a = ap (λ (z : NodeMemory). z.reservation) (sym e) ∙ f in
        let same : x ≡ a = cc in
        ap (λ (z : NodeMemory). is_readable_state (z.state (line_of a))) e
        ∙ ap (λ z. is_readable_state (n.state (line_of z))) (sym same) ∙ h)
        (ap (λ (z : NodeMemory). z.state) e)
        (λ j low f. others_silent silent j low
        ∙ sym (ap (λ (g : ℕ → Option ℕ). g j) reservations
        ∙ ap (λ u. cond u (Some x) (s.reservations j)) f))

    -- the processor has stored where an address was reserved, or hasn't, and has no reservation left
    abbrev conditional_state : ℕ → ℕ → ℕ → Bool → State
    conditional_state d x value b =
        with_conditional original s i (after_conditional work.program q d x value b) x value b

    shares_conditional : (d x value : ℕ) (b : Bool) → is_aligned Word x ≡ true
        → (b ≡ true → is_writable_state (n.state (line_of x)) ≡ true)
        → r.access ≡ WritesIf x value b → r.local ≡ local_conditional work.program n x value b
        → Shares sharing (with_local locals ours r.local) (reserved_after lost reserved i r)
        (conditional_state d x value b)
    shares_conditional d x value true al h access e =
        let y = local_conditional work.program n x value true in
        let memory = shared_after (class_at work.program x) s.shared (stored Word s.shared x value)
        in
        shares_after (conditional_state d x value true)
        (subst (λ z. sharing.Holds (with_local locals ours z) memory) (sym e)
        (held_like memory (local_stored work.program n Word x value) y refl refl
        (stored_held Word x value al (h refl) (class_at work.program x) refl)))
        (ap (λ (z : NodeMemory). z.reservation) e
        ∙ sym (ap (λ u. cond u None (after_store_by layout i x s.reservations i)) (equal i i refl)))
        (readable_none y e refl) (ap (λ (z : NodeMemory). z.state) e)
        (λ j low f. others_stay x (λ o. ap (λ z. lost z o) access ∙ ends (WritesIf x value true) o) (h refl) j low f
        ∙ sym (ap (λ u. cond u None (after_store_by layout i x s.reservations j)) f))
    shares_conditional d x value false al h access e =
        let y = local_conditional work.program n x value false in
        shares_after (conditional_state d x value false)
        (subst (λ z. sharing.Holds (with_local locals ours z) s.shared) (sym e)
        (held_still y refl refl))
        (ap (λ (z : NodeMemory). z.reservation) e
        ∙ sym (ap (λ u. cond u None (s.reservations i)) (equal i i refl)))
        (readable_none y e refl) (ap (λ (z : NodeMemory). z.state) e)
        (λ j low f. others_silent (ap is_store access) j low
        ∙ sym (ap (λ u. cond u None (s.reservations j)) f))

    no_output : (o : Option ℕ) → o ≡ None → s.output ≡ s.output ++ option_to_list o
    no_output o h = sym (ap (λ x. s.output ++ option_to_list x) h ∙ append-nil s.output)

    -- a word that commits, and doesn't end the processor
    module _ (on : (p : Processor) → p.exit ≡ None
        → Stands p (lane_after work.image r.lane r.move) r.local → Onward p r.move) where
      conditional_steps : (d x value : ℕ) (b : Bool) → is_aligned Word x ≡ true
          → Licensed n r.access → CommitsConditional work.program K q n r d x value b
          → Steps (record {
            state = conditional_state d x value b;
            access = WritesIf x value b;
            printed = None;
          })
      conditional_steps d x value true al licence h =
          let t = conditional_state d x value true in
          let p = after_conditional work.program q d x value true in
          record {
            worded = made t p on (moved_twice t p refl)
                (shares_conditional d x value true al (subst (Licensed n) h.0 licence) h.0 h.2)
                (ap (λ (z : NodeMemory). z.state) h.2) running
                h.3 (no_output r.printed h.1);
            access = h.0;
          }
      conditional_steps d x value false al licence h =
          let t = conditional_state d x value false in
          let p = after_conditional work.program q d x value false in
          record {
            worded = made t p on (moved t p refl)
                (shares_conditional d x value false al (subst (Licensed n) h.0 licence) h.0 h.2)
                (ap (λ (z : NodeMemory). z.state) h.2) running
                h.3 (no_output r.printed h.1);
            access = h.0;
          }

      commit_steps : (a : Request) → MayBeAsked work.program a → Licensed n r.access
          → Commits work.program K q n r a → Steps (result a)
      commit_steps (Becomes p) may licence h = record {
        worded = made (result (Becomes p)).state p on (moved (result (Becomes p)).state p refl)
            (shares_still (result (Becomes p)).state h.3 (ap is_store h.1) refl refl) (ap (λ (z : NodeMemory). z.state) h.3) h.0
            h.4 (no_output r.printed h.2);
        access = h.1;
      }
      commit_steps (Prints x) may licence h =
          let byte = same_as_seen x (subst (Licensed n) h.0 licence) in
          let t = (result (Prints x)).state in
          record {
            worded = made t (after_print q) on (moved t (after_print q) refl) (shares_still t h.2
                (ap is_store h.0) refl refl) (ap (λ (z : NodeMemory). z.state) h.2) running h.3
                (ap (λ o. s.output ++ option_to_list o) (sym (h.1 ∙ ap (λ b. Some b) byte)));
            access = h.0 ∙ ap (Reads ByteU x) byte;
          }
      commit_steps (LoadsFrom k d x) may licence h =
          let value = loaded k x may.0 (subst (Licensed n) h.0 licence) in
          let t = (result (LoadsFrom k d x)).state in
          let p = set_register q d (load_value k (byte_at work.program s q) x) in
          record {
            worded = made t p on (moved t p refl) (shares_still t h.2 (ap is_store h.0) refl refl)
                (ap (λ (z : NodeMemory). z.state) h.2) running
                (subst (λ v. K (set_register q d v)) value h.3) (no_output r.printed h.1);
            access = h.0 ∙ ap (Reads k x) value;
          }
      commit_steps (ReservesAt d x) may licence h =
          let readable : is_readable_state (n.state (line_of x)) ≡ true =
          subst (Licensed n) h.0 licence in
          let value = loaded WordLoad x may.0 readable in
          let t = (result (ReservesAt d x)).state in
          let p = set_register q d (load_value WordLoad (byte_at work.program s q) x) in
          record {
            worded = made t p on (moved t p refl) (shares_reserved t x readable (ap is_store h.0) h.2 refl refl)
                (ap (λ (z : NodeMemory). z.state) h.2) running
                (subst (λ v. K (set_register q d v)) value h.3) (no_output r.printed h.1);
            access = h.0 ∙ ap (Reads WordLoad x) value;
          }
      commit_steps (StoresTo w x value) may licence h =
          let t = (result (StoresTo w x value)).state in
          let p = after_store work.program q w x value in
          record {
            worded = made t p on (moved t p refl)
                (shares_stored t w x value may.0 (subst (Licensed n) h.0 licence)
                (λ o. ap (λ z. lost z o) h.0 ∙ ends (Writes w x value) o) h.2 refl refl)
                (ap (λ (z : NodeMemory). z.state) h.2) running h.3 (no_output r.printed h.1);
            access = h.0;
          }
      commit_steps (StoresWhere d x value) may licence h =
          let same : holds n.reservation x ≡ holds (s.reservations i) x =
          ap (λ o. holds o x) (shares.reservations i below) in
          subst (λ b. Steps (record {
            state = conditional_state d x value b;
            access = WritesIf x value b;
            printed = None;
          })) same (conditional_steps d x value (holds n.reservation x) may.0 licence h)
      commit_steps (UpdatesAt o d x value) may licence h =
          let writable : is_writable_state (n.state (line_of x)) ≡ true =
          subst (Licensed n) h.0 licence in
          let old = loaded WordLoad x may.0
          (readable_if_writable (n.state (line_of x)) writable) in
          let word = load_value WordLoad (byte_at work.program s q) x in
          let t = (result (UpdatesAt o d x value)).state in
          let p = after_exchange work.program q x (amo o word value) d word in
          let local : r.local ≡ local_stored work.program n Word x (amo o word value) =
          h.2 ∙ ap (λ v. local_stored work.program n Word x (amo o v value)) old in
          record {
            worded = made t p on (moved t p refl)
                (shares_stored t Word x (amo o word value) may.0 writable
                (λ p. ap (λ z. lost z p) h.0 ∙ ends _ p) local refl refl)
                (ap (λ (z : NodeMemory). z.state) local) running
                (subst (λ v. K (after_exchange work.program q x (amo o v value) d v)) old h.3)
                (no_output r.printed h.1);
            access = h.0 ∙ ap (λ v. Exchanges x v (amo o v value)) old;
          }

    -- the word did nothing that the original sees
    still : (on : Onward q r.move) → r.local ≡ n → is_store r.access ≡ false → r.printed ≡ None
        → Worded s
    still on local silent printed = record {
      shared = shares_still s local silent refl refl;
      others = λ j e. refl;
      states = ap (λ (z : NodeMemory). z.state) local;
      onward = on;
      output = no_output r.printed printed;
    }

    abbrev Advances : Bool → Type 0
    Advances true = Steps (step original s i) × Licensed n r.access
    Advances false = Worded s × (r.printed ≡ None)

    goes : ((p : Processor) → p.exit ≡ None
        → Stands p (lane_after work.image r.lane r.move) r.local → Onward p r.move) → (b : Bool)
        → GoesOn layout work plan Stands q n r b → Advances b
    goes on true h =
        (commit_steps on (request work.program q) (may_be_asked work.program q) h.0 h.1, h.0)
    goes on false h =
        let stands = subst (Stands q (lane_after work.image r.lane r.move)) (sym h.1) h.2 in
        (still (on q running stands) h.1 h.3 h.0, h.0)

    move_advances : (kind : CommitKind) (m : Move) → r.move ≡ m
        → Follows layout work plan Stands q n r kind m → Advances (is_exit m || commits_by kind r)
    move_advances kind (Leaves e) is h =
        let t = (result (Becomes (with_exit q e))).state in
        let here : t.processors i ≡ with_exit q e =
        ap (λ u. cond u (with_exit q e) (s.processors i)) (equal i i refl) in
        let on : Onward (t.processors i) r.move =
        subst (λ (m : Move). Onward (t.processors i) m) (sym is)
        (ap (λ (p : Processor). p.exit) here) in
        let steps : Steps (result (Becomes (with_exit q e))) = record {
          worded = record {
            shared = shares_still t h.local (ap is_store h.access) refl refl;
            others = λ j f. ap (λ u. cond u (with_exit q e) (s.processors j)) f;
            states = ap (λ (z : NodeMemory). z.state) h.local;
            onward = on;
            output = no_output r.printed h.printed;
          };
          access = h.access;
        } in
        (subst (λ a. Steps (result a)) (sym h.asks) steps, subst (Licensed n) (sym h.access) tt)
    move_advances kind (Waits resume want more) is h =
        let on : Onward q r.move = subst (Onward q) (sym is) (running, h.1) in
        subst Advances (sym h.0) (still on h.1.local h.1.silent h.1.printed, h.1.printed)
    move_advances kind other is h =
        goes (λ p e st. subst (Onward p) (sym is) (e, st)) (commits_by kind r) h

    -- a word that commits is a step, and another is none
    pub record WordAdvanced (b : Bool) : Type 0 where
      pub advanced : Advanced original s (picked i b) (values_of_word i r b)
          (option_to_list r.printed)
      pub behind : Worded (run original s (picked i b))
      pub licensed : b ≡ true → Licensed n r.access

    by_picks : (b : Bool) → Advances b → WordAdvanced b
    by_picks true a =
        let st = step original s i in
        record {
          advanced = record {
            allowed = ((below, running), tt);
            same_values = λ p.
                append-nil (cond (eqb p i) (option_to_list (value_read st.access)) [])
                ∙ ap (λ x. cond (eqb p i) (option_to_list (value_read x)) []) (sym a.0.access);
            output = a.0.worded.output;
          };
          behind = a.0.worded;
          licensed = λ e. a.1;
        }
    by_picks false a = record {
      advanced = record {
        allowed = tt;
        same_values = λ p. (elim (eqb p i) as (λ u. ◌≡◌ {A = List ℕ} [] (cond u [] [])) [
          | true ↦ refl
          | false ↦ refl
        ]);
        output = a.0.output;
      };
      behind = a.0;
      licensed = λ e. let bad : false ≡ true = e in cc;
    }

    -- a word that follows its processor makes its next step, or none
    pub word_advanced : (kind : CommitKind) → Follows layout work plan Stands q n r kind r.move
        → WordAdvanced (is_exit r.move || commits_by kind r)
    word_advanced kind h =
        by_picks (is_exit r.move || commits_by kind r) (move_advances kind r.move refl h)
