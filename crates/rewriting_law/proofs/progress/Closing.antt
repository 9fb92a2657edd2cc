-- Each event of a core keeps what holds of Byes.
use Rattle.std.proofs.Common.{◌≡◌, ℕ, ◌<◌, ◌⊎◌, cond, eqb, Bool, true, false, List, [], ◌∷◌, ◌++◌, Option, Some, None, refl, sym, ap, ◌∙◌, subst, inl, inr}
use Rattle.std.specs.Prelude.{◌||◌, ◌&&◌, not}
use Rattle.rewriting_law.proofs.Names.{Shape, block_of, changed, Buffer, empty_buffer, Need, Message, Bye, Post, Wire, post, LocalBlock, BlockFacts, Miss, first_wait, state_in_wait, want_row, meets, block_facts, Row, AtHome, AtNode, row_of, block_in, is_bye, line_of, State, PlanEntry, sends_in, NoneIs, is_for_home, Work, Node, Want, Phase, Running, Waiting, Ended, word_outcome, Resumed, Turn, byes_to, with_byes, is_ended, block_at, wants_of, with_miss, want_in, want_all, after_word, after_wants, by_row_or, handled, holding, resumed, journaled, after_message, each_block_once, Core, Event, Exec, Take, May, opening_core, wires_to, with_turn, with_list, take_first, event_step, messages_of}
use Rattle.home_directory.specs.dsm_messages.declared.messages.Need.TheVariants as need
use Rattle.home_directory.specs.dsm_messages.declared.messages.Message.TheVariants.{Read, Write}
use Rattle.home_directory.specs.Table.{request}
use Rattle.dsm_protocol.proofs.ProtocolSide as world
use Rattle.rewriting_law.proofs.words.CodeSide.{CodeSide}
use Rattle.rewriting_law.proofs.one_memory.Sharing.{is_same}
use Rattle.rewriting_law.proofs.templates.RegisterLemmas.{equal}
use Rattle.rewriting_law.proofs.one_memory.Matching.{Activity, Runs, Awaits, HasEnded, wait_in}
use Rattle.rewriting_law.proofs.protocol_side.Directory.{world_of, directory}
use Rattle.rewriting_law.proofs.protocol_side.DirectorySide.{Layout, not_waiting, laid_out, directory_side}
use Rattle.rewriting_law.proofs.runs.Turns.{byes_node, handled_same, resumed_is}
use Rattle.rewriting_law.proofs.runs.TurnTies.{rest_of, locals_of}
use Rattle.rewriting_law.proofs.runs.Composed.{IsPhase, MatchesCore, may_run}
use Rattle.rewriting_law.proofs.runs.Alone.{bye_noted}
use Rattle.rewriting_law.proofs.progress.Calm.{is_calm, Neither, IsCalm, sent_neither, sends_calm, plainly_calm, calm_popped, calm_then}
use Rattle.rewriting_law.proofs.progress.Farewells.{has_bye, left_or_right, from_left, from_right, no_bye_sent, bye_after, bye_to, Parts, Farewells, farewells_then}

both_left : (a b : Bool) → (a && b) ≡ true → a ≡ true
both_left true b e = refl
both_left false b e = let bad : false ≡ true = e in cc

both_right : (a b : Bool) → (a && b) ≡ true → b ≡ true
both_right true b e = e
both_right false b e = let bad : false ≡ true = e in cc

-- 1. What a turn sends beside Byes

no_bye_behind : (ps qs : List Post) → NoneIs is_bye ps → NoneIs is_bye qs → NoneIs is_bye (ps ++ qs)
no_bye_behind [] qs h g = g
no_bye_behind (p ∷ ps) qs h g = (h.0, no_bye_behind ps qs h.1 g)

asks_plainly : (want : Need) (b : ℕ) (buf : Buffer) → is_bye (request want b buf) ≡ false
asks_plainly need.Read b buf = refl
asks_plainly need.Write b buf = refl

module _ (layout : Shape) where
  miss_plain : (t : Turn) (want : Need) (f : BlockFacts) (l : LocalBlock) (b : ℕ)
      → NoneIs is_bye t.sends
      → NoneIs is_bye (with_miss layout b want t (want_row f l b want (empty_buffer 4096))).sends
  miss_plain t want f l b h =
      let miss : Miss = record {
        block = record {
          state = state_in_wait l.state;
          bytes = l.bytes;
          wait = Some (first_wait want);
        };
        post = post f.home (request want b (empty_buffer 4096));
      } in
      (elim (meets want l.state)
      as (λ z. NoneIs is_bye (with_miss layout b want t (cond z None (Some miss))).sends) [
        | true ↦ h
        | false ↦ no_bye_behind t.sends (miss.post ∷ []) h
            (asks_plainly want b (empty_buffer 4096), tt)
      ])

  want_plain : (t : Turn) (want : Need) (o : Option ℕ) → NoneIs is_bye t.sends
      → NoneIs is_bye (want_in layout t want o).sends
  want_plain t want None h = h
  want_plain t want (Some b) h =
      miss_plain t want (block_facts layout b) (block_at layout t.node b) b h

  pub wants_plain : (ws : List Want) (t : Turn) → NoneIs is_bye t.sends
      → NoneIs is_bye (want_all layout t ws).sends
  wants_plain [] t h = h
  wants_plain (w ∷ ws) t h =
      wants_plain ws (want_in layout t w.need (block_of layout (line_of w.at)))
      (want_plain t w.need (block_of layout (line_of w.at)) h)

  -- the Byes that a node has taken
  miss_byes : (t : Turn) (want : Need) (b : ℕ) (o : Option Miss)
      → (with_miss layout b want t o).node.byes ≡ t.node.byes
  miss_byes t want b None = refl
  miss_byes t want b (Some miss) = refl

  want_byes : (t : Turn) (want : Need) (o : Option ℕ)
      → (want_in layout t want o).node.byes ≡ t.node.byes
  want_byes t want None = refl
  want_byes t want (Some b) = miss_byes t want b
      (want_row (block_facts layout b) (block_at layout t.node b) b want (empty_buffer 4096))

  pub wants_byes : (ws : List Want) (t : Turn) → (want_all layout t ws).node.byes ≡ t.node.byes
  wants_byes [] t = refl
  wants_byes (w ∷ ws) t =
      wants_byes ws (want_in layout t w.need (block_of layout (line_of w.at)))
      ∙ want_byes t w.need (block_of layout (line_of w.at))

  pub row_byes : (n : Node) (o : Option Row) → (by_row_or layout n o).node.byes ≡ n.byes
  row_byes n None = refl
  row_byes n (Some (AtHome b row)) = refl
  row_byes n (Some (AtNode b row)) = refl

  pub row_sends : (n : Node) (row : Row) → (by_row_or layout n (Some row)).sends ≡ sends_in row
  row_sends n (AtHome b row) = refl
  row_sends n (AtNode b row) = refl

  -- a message that isn't a Bye has its row
  pub handled_by_row : (n : Node) (j : ℕ) (m : Message) → is_bye m ≡ false
      → handled layout n j m ≡ by_row_or layout n (row_of layout n.me (holding layout n) j m)
  handled_by_row n j Bye e = absurd cc
  handled_by_row n j other e = refl

pub resumed_byes : (work : Work) (n : Node) (phase : Phase) → (resumed work n phase).byes ≡ n.byes
resumed_byes work n = resumed_is work n (λ m. m.byes ≡ n.byes) refl (λ resume. refl)

-- an ended node stays so
resumed_ended : (work : Work) (n : Node) (phase : Phase) → n.phase ≡ phase
    → is_ended phase ≡ true → is_ended (resumed work n phase).phase ≡ true
resumed_ended work n Running is e = let bad : false ≡ true = e in cc
resumed_ended work n Resumed is e = let bad : false ≡ true = e in cc
resumed_ended work n (Waiting resume) is e = let bad : false ≡ true = e in cc
resumed_ended work n (Ended end) is e = ap is_ended is

-- Byes are said where a node ends
module _ (nodes : ℕ) (t : Turn) where
  said : (ends : Bool) (y : ℕ) → NoneIs is_bye t.sends
      → has_bye (wires_to (with_byes nodes t ends).node.stamp y (with_byes nodes t ends).sends)
      ≡ true → ends ≡ true
  said true y plain e = refl
  said false y plain e =
      let bad : false ≡ true = sym (no_bye_sent t.node.stamp y t.sends plain) ∙ e in cc

  says_all : (ends : Bool) → ends ≡ true → (y : ℕ) → y < nodes
      → has_bye (wires_to (with_byes nodes t ends).node.stamp y (with_byes nodes t ends).sends)
      ≡ true
  says_all false e y low = let bad : false ≡ true = e in cc
  says_all true e y low =
      bye_after t.node.stamp y t.sends (byes_to nodes) (bye_to t.node.stamp y nodes low)

turn_calm : (nodes : ℕ) (t : Turn) (ends : Bool) (y : ℕ) → NoneIs is_bye t.sends → is_calm false
    (wires_to (with_byes nodes t ends).node.stamp y (with_byes nodes t ends).sends) ≡ true
turn_calm nodes t true y plain = sends_calm t.node.stamp y nodes t.sends plain
turn_calm nodes t false y plain = plainly_calm t.node.stamp y t.sends plain

never : (b : Bool) → (b && false) ≡ false
never true = refl
never false = refl

-- what holds of Byes
pub record Closing (nodes : ℕ) (c : Core) : Type 0 where
  pub farewells : Farewells nodes c
  pub calm : IsCalm nodes c

module _ (work : Work) (plan : List PlanEntry) (lay : Layout work)
    (code : CodeSide work.layout work plan) where
  abbrev layout : Shape
  layout = work.layout

  abbrev FarewellsHere : Core → Type 0
  FarewellsHere c = Farewells layout.nodes c

  -- 2. Farewells are kept

  module _ (c : Core) (s : State) (m : MatchesCore work plan lay code c s) (f : FarewellsHere c)
      (i : ℕ) (below : i < layout.nodes) where
    abbrev n : Node
    n = c.nodes i

    runs_on : (a : Activity) (p : Phase) → IsPhase work plan lay code a p → a ≡ Runs
        → is_ended p ≡ false
    runs_on Runs p (inl h) e = ap is_ended h
    runs_on Runs p (inr h) e = ap is_ended h
    runs_on (Awaits resume want more) p h e = ap is_ended h
    runs_on (HasEnded end) p h e = let bad : HasEnded end ≡ Runs = e in cc

    module _ (runs : m.doing i ≡ Runs) where
      abbrev tw : Turn
      tw = after_wants work n

      abbrev ends_now : Bool
      ends_now = is_ended tw.node.phase

      abbrev t : Turn
      t = with_byes layout.nodes tw ends_now

      same : t.node ≡ tw.node
      same = byes_node layout.nodes tw ends_now

      byes_same : t.node.byes ≡ n.byes
      byes_same = ap (λ (x : Node). x.byes) same
          ∙ wants_byes layout (each_block_once layout (wants_of (word_outcome work n).move))
          (after_word work n)

      plain : NoneIs is_bye tw.sends
      plain = wants_plain layout (each_block_once layout (wants_of (word_outcome work n).move))
          (after_word work n) tt

      word_parts : Parts layout.nodes c i c.list t
      word_parts = record {
        fewer = λ x y e. e;
        kept = λ x e. ap (λ g. g x) byes_same ∙ e;
        noted = λ x e. inl (sym (ap (λ g. g x) byes_same) ∙ e);
        taken = λ x y e. inl e;
        stays = λ e.
            let bad : false ≡ true =
            sym (runs_on (m.doing i) n.phase (m.phases i below) runs) ∙ e in cc;
        says = λ y e. ap (λ (x : Node). is_ended x.phase) same
            ∙ said layout.nodes tw ends_now y plain e;
        ends = λ e. inr (says_all layout.nodes tw ends_now
            (sym (ap (λ (x : Node). is_ended x.phase) same) ∙ e));
      }

      word_farewells : FarewellsHere (event_step work c (Exec i))
      word_farewells = farewells_then layout.nodes c i c.list t word_parts f

      byes_kept : (y : ℕ) → ((event_step work c (Exec i)).nodes y).byes ≡ (c.nodes y).byes
      byes_kept y = (elim (eqb y i) as (λ z. eqb y i ≡ z
          → (cond z t.node (c.nodes y)).byes ≡ (c.nodes y).byes) [
            | true ↦ (λ q. byes_same ∙ ap (λ k. (c.nodes k).byes) (sym (is_same y i q)))
            | false ↦ (λ q. refl)
          ]) refl

      word_calm : IsCalm layout.nodes c → IsCalm layout.nodes (event_step work c (Exec i))
      word_calm k = calm_then layout.nodes c i below c.list t word_parts f (record {
        popped = λ x y lx ly. ap (λ g. is_calm (g x) (c.list x y)) (byes_kept y)
            ∙ k.lists x y lx ly;
        fresh = λ e y low. turn_calm layout.nodes tw ends_now y plain;
        late = λ e.
            let bad : false ≡ true =
            sym (runs_on (m.doing i) n.phase (m.phases i below) runs) ∙ e in cc;
      })

    module _ (j : ℕ) (lj : j < layout.nodes) (wire : Wire) (ws : List Wire)
        (front : c.list j i ≡ wire ∷ ws) where
      abbrev n1 : Node
      n1 = journaled n j wire

      abbrev t1 : Turn
      t1 = handled layout n1 j wire.message

      abbrev list : ℕ → ℕ → List Wire
      list = (with_list c j i ws).list

      abbrev tm : Turn
      tm = after_message work n j wire

      abbrev ends_then : Bool
      ends_then = is_ended tm.node.phase && not (is_ended n.phase)

      abbrev u : Turn
      u = with_byes layout.nodes tm ends_then

      same_node : u.node ≡ tm.node
      same_node = byes_node layout.nodes tm ends_then

      pub row_there : is_bye wire.message ≡ false
          → (row : Row) × (row_of layout n1.me (holding layout n1) j wire.message ≡ Some row)
          × NoneIs is_bye (sends_in row)
          × (n.wait (block_in row) ≡ None → NoneIs is_for_home (sends_in row))
      row_there e =
          let got = world.takes lay.laws layout lay.valid lay.laid
          (world_of layout (locals_of c) (rest_of c)) s.shared m.matches.shares.held.holds i j
          wire.message (messages_of ws) below lj (ap messages_of front) e in (
            got.0,
            ap (λ k. row_of layout k (holding layout n1) j wire.message) (m.numbers i below)
                ∙ got.1,
            got.3.says,
            got.3.calm,
          )

      none_waits : (a : Activity) (p : Phase) → IsPhase work plan lay code a p
          → is_ended p ≡ true → (b : ℕ)
          → wait_in layout work plan code (directory layout) (directory_side work lay)
          (laid_out work lay) a b ≡ None
      none_waits Runs p h e b = refl
      none_waits (HasEnded end) p h e b = refl
      none_waits (Awaits resume want more) p h e b =
          let bad : false ≡ true = sym (ap is_ended h) ∙ e in cc

      -- what the message notes and sends
      record Notes : Type 0 where
        kept : (x : ℕ) → n.byes x ≡ true → t1.node.byes x ≡ true
        noted : (x : ℕ) → t1.node.byes x ≡ true
            → (n.byes x ≡ true) ⊎ ((x ≡ j) × (is_bye wire.message ≡ true))
        here : is_bye wire.message ≡ true → t1.node.byes j ≡ true
        now : (x : ℕ) → t1.node.byes x ≡ cond (eqb x j) (is_bye wire.message || n.byes x) (n.byes x)
        plain : NoneIs is_bye t1.sends
        homes : is_ended n.phase ≡ true → NoneIs is_for_home t1.sends

      notes : (b : Bool) → is_bye wire.message ≡ b → Notes
      notes true e =
          let is = bye_noted layout n1 j wire.message e in
          let byes : t1.node.byes ≡ changed n.byes j true = ap (λ (x : Turn). x.node.byes) is in
          record {
            kept = λ x h. ap (λ g. g x) byes
                ∙ (elim (eqb x j) as (λ z. cond z true (n.byes x) ≡ true) [
                  | true ↦ refl
                  | false ↦ h
                ]);
            noted = λ x h. (elim (eqb x j) as (λ z. eqb x j ≡ z → cond z true (n.byes x) ≡ true
                → (n.byes x ≡ true) ⊎ ((x ≡ j) × (is_bye wire.message ≡ true))) [
                  | true ↦ (λ q g. inr (is_same x j q, e))
                  | false ↦ (λ q g. inl g)
                ]) refl (sym (ap (λ g. g x) byes) ∙ h);
            here = λ h. ap (λ g. g j) byes ∙ ap (λ z. cond z true (n.byes j)) (equal j j refl);
            now = λ x. ap (λ g. g x) byes
                ∙ ap (λ b. cond (eqb x j) (b || n.byes x) (n.byes x)) (sym e);
            plain = subst (λ (x : Turn). NoneIs is_bye x.sends) (sym is) tt;
            homes = λ h. subst (λ (x : Turn). NoneIs is_for_home x.sends) (sym is) tt;
          }
      notes false e =
          let row = row_there e in
          let is = handled_by_row layout n1 j wire.message e in
          let byes : t1.node.byes ≡ n.byes = ap (λ (x : Turn). x.node.byes) is
          ∙ row_byes layout n1 (row_of layout n1.me (holding layout n1) j wire.message) in
          record {
            kept = λ x h. ap (λ g. g x) byes ∙ h;
            noted = λ x h. inl (sym (ap (λ g. g x) byes) ∙ h);
            here = λ h. let bad : false ≡ true = sym e ∙ h in cc;
            now = λ x. ap (λ g. g x) byes
                ∙ (elim (eqb x j) as (λ z. n.byes x ≡ cond z (false || n.byes x) (n.byes x)) [
                  | true ↦ refl
                  | false ↦ refl
                ]) ∙ ap (λ b. cond (eqb x j) (b || n.byes x) (n.byes x)) (sym e);
            plain = subst (λ (x : Turn). NoneIs is_bye x.sends)
                (sym (is ∙ ap (by_row_or layout n1) row.1))
                (subst (NoneIs is_bye) (sym (row_sends layout n1 row.0)) row.2);
            homes = λ h.
                let idle = not_waiting (n.wait (block_in row.0))
                (m.matches.waits i (block_in row.0) below
                ∙ none_waits (m.doing i) n.phase (m.phases i below) h (block_in row.0)) in
                subst (λ (x : Turn). NoneIs is_for_home x.sends)
                (sym (is ∙ ap (by_row_or layout n1) row.1))
                (subst (NoneIs is_for_home) (sym (row_sends layout n1 row.0)) (row.3 idle));
          }

      byes_then : u.node.byes ≡ t1.node.byes
      byes_then = ap (λ (x : Node). x.byes) same_node ∙ resumed_byes work t1.node t1.node.phase

      had : (x y : ℕ) → has_bye (list x y) ≡ true → has_bye (c.list x y) ≡ true
      had x y e = (elim (eqb x j && eqb y i) as (λ z. (eqb x j && eqb y i) ≡ z
          → has_bye (cond z ws (c.list x y)) ≡ true → has_bye (c.list x y) ≡ true) [
            | true ↦ (λ q g.
                let at : c.list x y ≡ wire ∷ ws =
                ap (λ k. c.list k y) (is_same x j (both_left (eqb x j) (eqb y i) q))
                ∙ ap (c.list j) (is_same y i (both_right (eqb x j) (eqb y i) q)) ∙ front in
                ap has_bye at ∙ from_right (is_bye wire.message) (has_bye ws) g)
            | false ↦ (λ q g. g)
          ]) refl e

      popped : (x y : ℕ) → has_bye (c.list x y) ≡ true
          → (has_bye (list x y) ≡ true) ⊎ ((y ≡ i) × (u.node.byes x ≡ true))
      popped x y e = (elim (eqb x j && eqb y i) as (λ z. (eqb x j && eqb y i) ≡ z
          → (has_bye (cond z ws (c.list x y)) ≡ true) ⊎ ((y ≡ i) × (u.node.byes x ≡ true))) [
            | true ↦ (λ q.
                let is_x = is_same x j (both_left (eqb x j) (eqb y i) q) in
                let is_y = is_same y i (both_right (eqb x j) (eqb y i) q) in
                let at : c.list x y ≡ wire ∷ ws =
                ap (λ k. c.list k y) is_x ∙ ap (c.list j) is_y ∙ front in
                elim (left_or_right (is_bye wire.message) (has_bye ws) (sym (ap has_bye at) ∙ e)) [
                  | inl g ↦ inr (
                    is_y,
                    ap (λ h. h x) byes_then ∙ ap t1.node.byes is_x
                        ∙ (notes (is_bye wire.message) refl).here g,
                  )
                  | inr g ↦ inl g
                ])
            | false ↦ (λ q. inl e)
          ]) refl

      same_phase : t1.node.phase ≡ n.phase
      same_phase = (handled_same layout n1 j wire.message).phase

      message_parts : Parts layout.nodes c i list u
      message_parts =
          let note = notes (is_bye wire.message) refl in
          record {
            fewer = had;
            kept = λ x e. ap (λ g. g x) byes_then ∙ note.kept x e;
            noted = λ x e. elim (note.noted x (sym (ap (λ g. g x) byes_then) ∙ e)) [
              | inl h ↦ inl h
              | inr h ↦ inr (ap (λ k. has_bye (c.list k i)) h.0 ∙ ap has_bye front
                  ∙ from_left (is_bye wire.message) (has_bye ws) h.1)
            ];
            taken = popped;
            stays = λ e. ap (λ (x : Node). is_ended x.phase) same_node
                ∙ resumed_ended work t1.node t1.node.phase refl (ap is_ended same_phase ∙ e);
            says = λ y e. ap (λ (x : Node). is_ended x.phase) same_node
                ∙ both_left (is_ended tm.node.phase) (not (is_ended n.phase))
                (said layout.nodes tm ends_then y note.plain e);
            ends = λ e. newly (is_ended n.phase) refl
                (sym (ap (λ (x : Node). is_ended x.phase) same_node) ∙ e);
          }
        where
          newly : (b : Bool) → is_ended n.phase ≡ b → is_ended tm.node.phase ≡ true
              → (is_ended n.phase ≡ true) ⊎ ((y : ℕ) → y < layout.nodes
              → has_bye (wires_to u.node.stamp y u.sends) ≡ true)
          newly true e g = inl e
          newly false e g = inr (says_all layout.nodes tm ends_then
              (ap (λ z. z && not (is_ended n.phase)) g ∙ ap not e))

      message_farewells : FarewellsHere (with_turn (with_list c j i ws) i u)
      message_farewells = farewells_then layout.nodes c i list u message_parts f

      -- the list that the message came from, and the others
      own_popped : IsCalm layout.nodes c → (x : ℕ) → x < layout.nodes → (b : Bool) → eqb x j ≡ b
          → is_calm (cond b (is_bye wire.message || n.byes x) (n.byes x))
          (cond (b && true) ws (c.list x i)) ≡ true
      own_popped k x lx true q =
          subst (λ z. is_calm (is_bye wire.message || n.byes z) ws ≡ true) (sym (is_same x j q))
          (calm_popped (n.byes j) (is_bye wire.message) wire ws refl
          (sym (ap (is_calm (n.byes j)) front) ∙ k.lists j i lj below))
      own_popped k x lx false q = k.lists x i lx below

      other_list : (b : Bool) (xs : List Wire) → cond (b && false) ws xs ≡ xs
      other_list true xs = refl
      other_list false xs = refl

      popped_calm : IsCalm layout.nodes c → (x y : ℕ) → x < layout.nodes → y < layout.nodes
          → (b : Bool) → eqb y i ≡ b
          → is_calm ((cond b u.node (c.nodes y)).byes x) (cond (eqb x j && b) ws (c.list x y))
          ≡ true
      popped_calm k x y lx ly true q =
          ap (λ z. is_calm (u.node.byes x) (cond (eqb x j && true) ws (c.list x z))) (is_same y i q)
          ∙ ap (λ g. is_calm (g x) (cond (eqb x j && true) ws (c.list x i))) byes_then
          ∙ ap (λ z. is_calm z (cond (eqb x j && true) ws (c.list x i)))
          ((notes (is_bye wire.message) refl).now x) ∙ own_popped k x lx (eqb x j) refl
      popped_calm k x y lx ly false q =
          ap (is_calm ((c.nodes y).byes x)) (other_list (eqb x j) (c.list x y)) ∙ k.lists x y lx ly

      message_calm : IsCalm layout.nodes c
          → IsCalm layout.nodes (with_turn (with_list c j i ws) i u)
      message_calm k =
          let note = notes (is_bye wire.message) refl in
          calm_then layout.nodes c i below list u message_parts f (record {
            popped = λ x y lx ly.
                ap (λ z. is_calm ((cond (eqb y i) u.node (c.nodes y)).byes x)
                (cond (eqb x j && z) ws (c.list x y))) refl
                ∙ popped_calm k x y lx ly (eqb y i) refl;
            fresh = λ e y low. turn_calm layout.nodes tm ends_then y note.plain;
            late = λ e y low.
                let silent : u ≡ tm = ap (with_byes layout.nodes tm)
                (ap (λ z. is_ended tm.node.phase && not z) e ∙ never (is_ended tm.node.phase)) in
                subst (λ (z : Turn). Neither (wires_to z.node.stamp y z.sends)) (sym silent)
                (sent_neither tm.node.stamp y t1.sends note.plain (note.homes e));
          })

  pub event_closing : (c : Core) (s : State) → MatchesCore work plan lay code c s
      → Closing layout.nodes c → (e : Event) → May work c e
      → Closing layout.nodes (event_step work c e)
  event_closing c s m f (Exec i) may =
      let runs = may_run work plan lay code (c.nodes i) (m.doing i) (c.nodes i).phase
      (m.phases i may.0) may.1 in
      record {
        farewells = word_farewells c s m f.farewells i may.0 runs;
        calm = word_calm c s m f.farewells i may.0 runs f.calm;
      }
  event_closing c s m f (Take i j) may = go (c.list j i) refl
    where
      go : (xs : List Wire) → c.list j i ≡ xs → Closing layout.nodes (take_first work c i j xs)
      go [] e = f
      go (wire ∷ ws) e = record {
        farewells = message_farewells c s m f.farewells i may.0 j may.1 wire ws e;
        calm = message_calm c s m f.farewells i may.0 j may.1 wire ws e f.calm;
      }

  -- 3. At the start

  start_farewells : FarewellsHere (opening_core work)
  start_farewells = record {
    ended = λ x y lx ly h. elim h [
      | inl e ↦ (let bad : false ≡ true = e in cc)
      | inr e ↦ (let bad : false ≡ true = e in cc)
    ];
    told = λ x y lx ly e. let bad : false ≡ true = e in cc;
  }

  pub start_closing : Closing layout.nodes (opening_core work)
  start_closing = record {
    farewells = start_farewells;
    calm = record { lists = λ x y lx ly. refl };
  }
