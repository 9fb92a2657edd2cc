-- Byes of nodes of several processors. A core of such nodes has a shade: a core of nodes of one
-- processor, each of which has ended where all lanes of its node have. What holds of Byes in the
-- shade each event keeps.
use Rattle.std.proofs.Common.{◌≡◌, ℕ, ◌<◌, ◌⊎◌, cond, eqb, Bool, true, false, List, [], ◌∷◌, Option, Some, None, refl, sym, ap, ◌∙◌, subst, inl, inr}
use Rattle.std.specs.Prelude.{◌||◌, ◌&&◌, not, is_some}
use Rattle.lane_law.proofs.Names.{Shape, block_of, changed, Need, Wire, Row, is_bye, row_of, block_in, Stopped, line_of, State, PlanEntry, sends_in, NoneIs, is_for_home, wanted, Node, Want, Phase, Running, Resumed, Waiting, Ended, Turn, after_word, byes_to, by_row_or, holding, is_ended, want_in, Core, wires_to, messages_of, LaneWork, LanePart, LaneNode, as_node, processors, node_of, lane_of, Asked, LaneTurn, ask, ask_all, wants_at, has_ended, have_ended, with_byes, ending, word_before, word_turn, journaled, handled_for, after_message, take_turn, resume_part, resumed, still, LaneCore, LaneEvent, Exec, Take, May, opening_core, with_turn, with_list, take_first, event_step}
use Rattle.dsm_protocol.proofs.ProtocolSide as world
use Rattle.node_model.specs.Core.{with_turn as plain_turn}
use Rattle.rewriting_law.proofs.templates.RegisterLemmas.{equal}
use Rattle.rewriting_law.proofs.one_memory.Sharing.{is_same}
use Rattle.rewriting_law.proofs.protocol_side.Directory.{world_of}
use Rattle.rewriting_law.proofs.protocol_side.DirectorySide.{Layout, not_waiting}
use Rattle.rewriting_law.proofs.runs.Alone.{bye_noted}
use Rattle.rewriting_law.proofs.runs.TurnTies.{rest_at}
use Rattle.rewriting_law.proofs.progress.Calm.{is_calm, Neither, IsCalm, sent_neither, sends_calm, plainly_calm, calm_popped, calm_then}
use Rattle.rewriting_law.proofs.progress.Closing.{wants_plain, wants_byes, row_byes, row_sends, handled_by_row}
use Rattle.rewriting_law.proofs.progress.Farewells.{has_bye, left_or_right, from_left, from_right, no_bye_sent, bye_after, bye_to, Parts, Farewells, farewells_then}
use Rattle.lane_law.proofs.LaneCode.{LaneCode}
use Rattle.lane_law.proofs.LaneNumbers.{lane_low}
use Rattle.lane_law.proofs.LaneMatching as matching
use Rattle.lane_law.proofs.LaneMatching.{Doing, Runs, Awaits, HasEnded}
use Rattle.lane_law.proofs.LaneTies.{view}
use Rattle.lane_law.proofs.LaneCores.{part_in, holder_in, locals_in, at_node, protocol, side, laid, IsPart, MatchesCore}
use Rattle.lane_law.proofs.LaneRuns.{all_hold, all_let, may_run}

-- 1. What a turn leaves of Byes

-- the Byes that a node has taken, after what it has asked for
module _ (layout : Shape) where
  ask_byes : (t : Asked) (w : Want)
      → (ask layout w.need (block_of layout (line_of w.at)) t).turn.node.byes ≡ t.turn.node.byes
  ask_byes t w = go (block_of layout (line_of w.at)) (wants_byes layout (w ∷ []) t.turn)
    where
      either : (b : Bool) (n m : Turn) → n.node.byes ≡ t.turn.node.byes
          → m.node.byes ≡ t.turn.node.byes → (cond b n m).node.byes ≡ t.turn.node.byes
      either true n m h g = h
      either false n m h g = g

      go : (o : Option ℕ) → (want_in layout t.turn w.need o).node.byes ≡ t.turn.node.byes
          → (ask layout w.need o t).turn.node.byes ≡ t.turn.node.byes
      go None h = refl
      go (Some b) h =
          either (is_some (t.turn.node.wait b)) t.turn (want_in layout t.turn w.need (Some b)) refl h

  pub asks_byes : (ws : List Want) (t : Asked)
      → (ask_all layout ws t).turn.node.byes ≡ t.turn.node.byes
  asks_byes [] t = refl
  asks_byes (w ∷ ws) t =
      asks_byes ws (ask layout w.need (block_of layout (line_of w.at)) t) ∙ ask_byes t w

-- Byes change no node
pub ending_node : (nodes : ℕ) (t : LaneTurn) (ends : Bool) → (with_byes nodes t ends).node ≡ t.node
ending_node nodes t true = refl
ending_node nodes t false = refl

-- 2. A shade

abbrev pub phase_by : Bool → Phase
phase_by ended = cond ended (Ended (Stopped 0)) Running

pub ended_by : (b : Bool) → is_ended (phase_by b) ≡ b
ended_by true = refl
ended_by false = refl

module _ (w : LaneWork) where
  abbrev nodes : ℕ
  nodes = w.work.layout.nodes

  abbrev pub as_one : LaneNode → Node
  as_one x = record (as_node x 0) { phase = phase_by (have_ended w x) }

  abbrev pub shade : LaneCore → Core
  shade c = record { nodes = λ i. as_one (c.nodes i); list = c.list }

  abbrev one_turn : LaneTurn → Turn
  one_turn t = record { node = as_one t.node; sends = t.sends; printed = t.printed }

  -- what holds of Byes
  pub record Closing (c : LaneCore) : Type 0 where
    pub farewells : Farewells nodes (shade c)
    pub calm : IsCalm nodes (shade c)

  -- of two cores with the same nodes and lists
  farewells_like : (c d : Core) → ((x : ℕ) → c.nodes x ≡ d.nodes x)
      → ((x y : ℕ) → c.list x y ≡ d.list x y) → Farewells nodes d → Farewells nodes c
  farewells_like c d same lists f = record {
    ended = λ x y lx ly h. ap (λ (n : Node). is_ended n.phase) (same x)
        ∙ f.ended x y lx ly (elim h [
          | inl e ↦ inl (ap (λ (n : Node). n.byes x) (sym (same y)) ∙ e)
          | inr e ↦ inr (ap has_bye (sym (lists x y)) ∙ e)
        ]);
    told = λ x y lx ly e.
        elim (f.told x y lx ly (ap (λ (n : Node). is_ended n.phase) (sym (same x)) ∙ e)) [
          | inl g ↦ inl (ap (λ (n : Node). n.byes x) (same y) ∙ g)
          | inr g ↦ inr (ap has_bye (lists x y) ∙ g)
        ];
  }

  calm_like : (c d : Core) → ((x : ℕ) → c.nodes x ≡ d.nodes x)
      → ((x y : ℕ) → c.list x y ≡ d.list x y) → IsCalm nodes d → IsCalm nodes c
  calm_like c d same lists k = record {
    lists = λ x y lx ly. ap (λ (n : Node). is_calm (n.byes x) (c.list x y)) (same y)
        ∙ ap (is_calm ((d.nodes y).byes x)) (lists x y) ∙ k.lists x y lx ly;
  }

  -- the shade after a turn
  shade_then : (c : LaneCore) (i : ℕ) (t : LaneTurn) (x : ℕ)
      → (shade (with_turn c i t)).nodes x ≡ (plain_turn (shade c) i (one_turn t)).nodes x
  shade_then c i t x = (elim (eqb x i)
      as (λ z. as_one (cond z t.node (c.nodes x)) ≡ cond z (as_one t.node) (as_one (c.nodes x))) [
        | true ↦ refl
        | false ↦ refl
      ])

  -- 3. Byes that are said

  -- beside those there are none
  said : (t : LaneTurn) (ends : Bool) (y : ℕ) → NoneIs is_bye t.sends
      → has_bye (wires_to (with_byes nodes t ends).node.shared.stamp y
      (with_byes nodes t ends).sends) ≡ true → ends ≡ true
  said t true y plain e = refl
  said t false y plain e =
      let bad : false ≡ true = sym (no_bye_sent t.node.shared.stamp y t.sends plain) ∙ e in cc

  says_all : (t : LaneTurn) (ends : Bool) → ends ≡ true → (y : ℕ) → y < nodes
      → has_bye (wires_to (with_byes nodes t ends).node.shared.stamp y
      (with_byes nodes t ends).sends) ≡ true
  says_all t false e y low = let bad : false ≡ true = e in cc
  says_all t true e y low =
      bye_after t.node.shared.stamp y t.sends (byes_to nodes)
      (bye_to t.node.shared.stamp y nodes low)

  turn_calm : (t : LaneTurn) (ends : Bool) (y : ℕ) → NoneIs is_bye t.sends
      → is_calm false (wires_to (with_byes nodes t ends).node.shared.stamp y
      (with_byes nodes t ends).sends) ≡ true
  turn_calm t true y plain = sends_calm t.node.shared.stamp y nodes t.sends plain
  turn_calm t false y plain = plainly_calm t.node.shared.stamp y t.sends plain

  both_left : (a b : Bool) → (a && b) ≡ true → a ≡ true
  both_left true b e = refl
  both_left false b e = let bad : false ≡ true = e in cc

  both_right : (a b : Bool) → (a && b) ≡ true → b ≡ true
  both_right true b e = e
  both_right false b e = let bad : false ≡ true = e in cc

  never : (b : Bool) → (b && false) ≡ false
  never true = refl
  never false = refl

  -- a turn that ends where all lanes have
  module _ (x : LaneNode) (t : LaneTurn) (plain : NoneIs is_bye t.sends) where
    abbrev ends_now : Bool
    ends_now = have_ended w t.node && not (have_ended w x)

    abbrev made : LaneTurn
    made = ending w x t

    made_node : made.node ≡ t.node
    made_node = ending_node nodes t ends_now

    made_says : (y : ℕ) → has_bye (wires_to made.node.shared.stamp y made.sends) ≡ true
        → is_ended (phase_by (have_ended w made.node)) ≡ true
    made_says y e =
        ended_by (have_ended w made.node) ∙ ap (have_ended w) made_node
        ∙ both_left (have_ended w t.node) (not (have_ended w x)) (said t ends_now y plain e)

    made_ends : is_ended (phase_by (have_ended w made.node)) ≡ true
        → (is_ended (phase_by (have_ended w x)) ≡ true)
        ⊎ ((y : ℕ) → y < nodes
        → has_bye (wires_to made.node.shared.stamp y made.sends) ≡ true)
    made_ends e = newly (have_ended w x) refl
        (sym (ap (have_ended w) made_node) ∙ sym (ended_by (have_ended w made.node)) ∙ e)
      where
        newly : (b : Bool) → have_ended w x ≡ b → have_ended w t.node ≡ true
            → (is_ended (phase_by (have_ended w x)) ≡ true)
            ⊎ ((y : ℕ) → y < nodes
            → has_bye (wires_to made.node.shared.stamp y made.sends) ≡ true)
        newly true f g = inl (ended_by (have_ended w x) ∙ f)
        newly false f g = inr (says_all t ends_now
            (ap (λ z. z && not (have_ended w x)) g ∙ ap not f))

  -- what is asked for has no Byes
  ask_plain : (t : Asked) (v : Want) → NoneIs is_bye t.turn.sends → NoneIs is_bye
      (ask w.work.layout v.need (block_of w.work.layout (line_of v.at)) t).turn.sends
  ask_plain t v h =
      go (block_of w.work.layout (line_of v.at)) (wants_plain w.work.layout (v ∷ []) t.turn h)
    where
      either : (b : Bool) (n m : Turn) → NoneIs is_bye n.sends → NoneIs is_bye m.sends
          → NoneIs is_bye (cond b n m).sends
      either true n m f g = f
      either false n m f g = g

      go : (o : Option ℕ) → NoneIs is_bye (want_in w.work.layout t.turn v.need o).sends
          → NoneIs is_bye (ask w.work.layout v.need o t).turn.sends
      go None f = h
      go (Some b) f =
          either (is_some (t.turn.node.wait b)) t.turn
          (want_in w.work.layout t.turn v.need (Some b)) h f

  asks_plain : (vs : List Want) (t : Asked) → NoneIs is_bye t.turn.sends
      → NoneIs is_bye (ask_all w.work.layout vs t).turn.sends
  asks_plain [] t h = h
  asks_plain (v ∷ vs) t h =
      asks_plain vs (ask w.work.layout v.need (block_of w.work.layout (line_of v.at)) t)
      (ask_plain t v h)

  -- a lane that has ended stays so
  lane_stays : (n : Node) (y : LanePart) (p : Phase) → y.phase ≡ p → is_ended p ≡ true
      → is_ended (resumed w.work n y).phase ≡ true
  lane_stays n y Running is e = let bad : false ≡ true = e in cc
  lane_stays n y Resumed is e = let bad : false ≡ true = e in cc
  lane_stays n y (Waiting resume) is e = let bad : false ≡ true = e in cc
  lane_stays n y (Ended end) is e =
      ap (λ (z : LanePart). is_ended z.phase)
      (ap (λ p. resume_part w.work n.local y p (still n.wait y.awaits)) is) ∙ ap is_ended is

  module _ (plan : List PlanEntry) (lay : Layout w.work) (some : 0 < w.lanes)
      (code : LaneCode w.work.layout w.work (processors w) plan) (c : LaneCore) (s : State)
      (m : MatchesCore w plan lay some code c s) (f : Closing c) where
    abbrev old : Core
    old = shade c

    -- 4. A word

    module _ (p : ℕ) (below : p < processors w) (runs : m.doing p ≡ Runs) where
      abbrev i : ℕ
      i = node_of w p

      abbrev mine : LaneNode
      mine = c.nodes i

      abbrev asking : LaneTurn
      asking = word_before w mine (lane_of w p)

      abbrev turn : LaneTurn
      turn = word_turn w mine (lane_of w p)

      there : i < nodes
      there = at_node w plan lay some code p below

      runs_on : (a : Doing) (y : LanePart) → IsPart w plan lay some code a y → a ≡ Runs
          → is_ended y.phase ≡ false
      runs_on Runs y (inl h) e = ap is_ended h
      runs_on Runs y (inr h) e = ap is_ended h
      runs_on (Awaits resume want more again) y h e = ap is_ended h.0
      runs_on (HasEnded end) y h e = let bad : HasEnded end ≡ Runs = e in cc

      -- one of its lanes hasn't ended
      not_ended : have_ended w mine ≡ true → ⊥
      not_ended e =
          let one = all_let (has_ended mine) w.lanes (lane_of w p) (lane_low w some p) e in
          let bad : false ≡ true =
          sym (runs_on (m.doing p) (part_in w c.nodes p) (m.parts p below) runs) ∙ one in cc

      ended_not : {A : Type 0} → is_ended (phase_by (have_ended w mine)) ≡ true → A
      ended_not e = absurd (not_ended (sym (ended_by (have_ended w mine)) ∙ e))

      byes_same : turn.node.shared.byes ≡ mine.shared.byes
      byes_same = ap (λ (n : LaneNode). n.shared.byes)
          (ending_node nodes asking (have_ended w asking.node && not (have_ended w mine)))
          ∙ asks_byes w.work.layout (wants_at w mine (lane_of w p))
          (record { turn = after_word w.work (as_node mine (lane_of w p)); again = false })

      plain : NoneIs is_bye asking.sends
      plain = asks_plain (wants_at w mine (lane_of w p))
          (record { turn = after_word w.work (as_node mine (lane_of w p)); again = false }) tt

      word_parts : Parts nodes old i c.list (one_turn turn)
      word_parts = record {
        fewer = λ y z e. e;
        kept = λ y e. ap (λ g. g y) byes_same ∙ e;
        noted = λ y e. inl (sym (ap (λ g. g y) byes_same) ∙ e);
        taken = λ y z e. inl e;
        stays = λ e. ended_not e;
        says = made_says mine asking plain;
        ends = made_ends mine asking plain;
      }

      byes_kept : (y : ℕ) → ((plain_turn old i (one_turn turn)).nodes y).byes ≡ (old.nodes y).byes
      byes_kept y = (elim (eqb y i) as (λ z. eqb y i ≡ z
          → (cond z (as_one turn.node) (as_one (c.nodes y))).byes ≡ (c.nodes y).shared.byes) [
            | true ↦ (λ q. byes_same ∙ ap (λ k. (c.nodes k).shared.byes) (sym (is_same y i q)))
            | false ↦ (λ q. refl)
          ]) refl

      pub word_closing : Closing (event_step w c (Exec p))
      word_closing = record {
        farewells = farewells_like (shade (with_turn c i turn)) (plain_turn old i (one_turn turn))
            (shade_then c i turn) (λ y z. refl)
            (farewells_then nodes old i c.list (one_turn turn) word_parts f.farewells);
        calm = calm_like (shade (with_turn c i turn)) (plain_turn old i (one_turn turn))
            (shade_then c i turn) (λ y z. refl)
            (calm_then nodes old i there c.list (one_turn turn) word_parts f.farewells (record {
              popped = λ y z ly lz. ap (λ g. is_calm (g y) (c.list y z)) (byes_kept z)
                  ∙ f.calm.lists y z ly lz;
              fresh = λ e y low.
                  turn_calm asking (have_ended w asking.node && not (have_ended w mine)) y plain;
              late = λ e. ended_not e;
            }));
      }

    -- 5. A message

    -- a node that has ended waits for nothing
    pub none_waits : (i : ℕ) → i < nodes → have_ended w (c.nodes i) ≡ true → (b : ℕ)
        → wanted ((c.nodes i).shared.wait b) ≡ None
    none_waits i low all b = go (wanted ((c.nodes i).shared.wait b)) refl
      where
        abbrev_wait : Doing → Option Need
        abbrev_wait a = matching.wait_in w.work.layout w.work (processors w) (node_of w)
            (at_node w plan lay some code) plan code (protocol w plan lay some code)
            (side w plan lay some code) (laid w plan lay some code) a b

        idle : (a : Doing) (y : LanePart) → IsPart w plan lay some code a y
            → is_ended y.phase ≡ true → abbrev_wait a ≡ None
        idle Runs y h e = refl
        idle (HasEnded end) y h e = refl
        idle (Awaits resume want more again) y h e =
            let bad : false ≡ true = sym (ap is_ended h.0) ∙ e in cc

        go : (o : Option Need) → wanted ((c.nodes i).shared.wait b) ≡ o
            → wanted ((c.nodes i).shared.wait b) ≡ None
        go None e = e
        go (Some need) e =
            let who = holder_in w c.nodes i b in
            let h = m.matches.held i b need low e in
            let one : is_ended (part_in w c.nodes who).phase ≡ true =
            ap (λ z. is_ended ((c.nodes z).lanes (lane_of w who)).phase) h.1
            ∙ all_let (has_ended (c.nodes i)) w.lanes (lane_of w who) (lane_low w some who) all in
            let none = idle (m.doing who) (part_in w c.nodes who) (m.parts who h.0) one in
            let bad : None ≡ Some need = sym none ∙ h.2 in cc

    module _ (i j : ℕ) (below : i < nodes) (lj : j < nodes) (wire : Wire) (ws : List Wire)
        (front : c.list j i ≡ wire ∷ ws) where
      abbrev x : LaneNode
      x = c.nodes i

      abbrev n1 : Node
      n1 = journaled w x 0 j wire

      abbrev t1 : Turn
      t1 = handled_for w x j wire 0

      abbrev t0 : LaneTurn
      t0 = record { node = after_message w x j wire; sends = t1.sends; printed = None }

      abbrev t : LaneTurn
      t = take_turn w x j wire

      abbrev list : ℕ → ℕ → List Wire
      list = (with_list c j i ws).list

      abbrev row_now : Option Row
      row_now = row_of w.work.layout n1.me (holding w.work.layout n1) j wire.message

      pub row_there : is_bye wire.message ≡ false
          → (row : Row) × (row_now ≡ Some row) × NoneIs is_bye (sends_in row)
          × (x.shared.wait (block_in row) ≡ None → NoneIs is_for_home (sends_in row))
      row_there e =
          let got = world.takes lay.laws w.work.layout lay.valid lay.laid
          (world_of w.work.layout (locals_in c.nodes) (rest_at m.counts (view c 0))) s.shared
          m.matches.shares.held.holds i j wire.message (messages_of ws) below lj
          (ap messages_of front) e in (
            got.0,
            ap (λ k. row_of w.work.layout k (holding w.work.layout n1) j wire.message)
                (m.numbers i below) ∙ got.1,
            got.3.says,
            got.3.calm,
          )

      record Notes : Type 0 where
        kept : (y : ℕ) → x.shared.byes y ≡ true → t1.node.byes y ≡ true
        noted : (y : ℕ) → t1.node.byes y ≡ true
            → (x.shared.byes y ≡ true) ⊎ ((y ≡ j) × (is_bye wire.message ≡ true))
        here : is_bye wire.message ≡ true → t1.node.byes j ≡ true
        now : (y : ℕ) → t1.node.byes y
            ≡ cond (eqb y j) (is_bye wire.message || x.shared.byes y) (x.shared.byes y)
        plain : NoneIs is_bye t1.sends
        homes : have_ended w x ≡ true → NoneIs is_for_home t1.sends

      notes : (b : Bool) → is_bye wire.message ≡ b → Notes
      notes true e =
          let is = bye_noted w.work.layout n1 j wire.message e in
          let byes : t1.node.byes ≡ changed x.shared.byes j true =
          ap (λ (y : Turn). y.node.byes) is in
          record {
            kept = λ y h. ap (λ g. g y) byes
                ∙ (elim (eqb y j) as (λ z. cond z true (x.shared.byes y) ≡ true) [
                  | true ↦ refl
                  | false ↦ h
                ]);
            noted = λ y h. (elim (eqb y j) as (λ z. eqb y j ≡ z
                → cond z true (x.shared.byes y) ≡ true
                → (x.shared.byes y ≡ true) ⊎ ((y ≡ j) × (is_bye wire.message ≡ true))) [
                  | true ↦ (λ q g. inr (is_same y j q, e))
                  | false ↦ (λ q g. inl g)
                ]) refl (sym (ap (λ g. g y) byes) ∙ h);
            here = λ h. ap (λ g. g j) byes
                ∙ ap (λ z. cond z true (x.shared.byes j)) (equal j j refl);
            now = λ y. ap (λ g. g y) byes
                ∙ ap (λ b. cond (eqb y j) (b || x.shared.byes y) (x.shared.byes y)) (sym e);
            plain = subst (λ (y : Turn). NoneIs is_bye y.sends) (sym is) tt;
            homes = λ h. subst (λ (y : Turn). NoneIs is_for_home y.sends) (sym is) tt;
          }
      notes false e =
          let row = row_there e in
          let is = handled_by_row w.work.layout n1 j wire.message e in
          let byes : t1.node.byes ≡ x.shared.byes = ap (λ (y : Turn). y.node.byes) is
          ∙ row_byes w.work.layout n1 row_now in
          record {
            kept = λ y h. ap (λ g. g y) byes ∙ h;
            noted = λ y h. inl (sym (ap (λ g. g y) byes) ∙ h);
            here = λ h. let bad : false ≡ true = sym e ∙ h in cc;
            now = λ y. ap (λ g. g y) byes ∙ (elim (eqb y j)
                as (λ z. x.shared.byes y ≡ cond z (false || x.shared.byes y) (x.shared.byes y)) [
                  | true ↦ refl
                  | false ↦ refl
                ]) ∙ ap (λ b. cond (eqb y j) (b || x.shared.byes y) (x.shared.byes y)) (sym e);
            plain = subst (λ (y : Turn). NoneIs is_bye y.sends)
                (sym (is ∙ ap (by_row_or w.work.layout n1) row.1))
                (subst (NoneIs is_bye) (sym (row_sends w.work.layout n1 row.0)) row.2);
            homes = λ h.
                let idle = not_waiting (x.shared.wait (block_in row.0))
                (none_waits i below h (block_in row.0)) in
                subst (λ (y : Turn). NoneIs is_for_home y.sends)
                (sym (is ∙ ap (by_row_or w.work.layout n1) row.1))
                (subst (NoneIs is_for_home) (sym (row_sends w.work.layout n1 row.0)) (row.3 idle));
          }

      note : Notes
      note = notes (is_bye wire.message) refl

      same_node : t.node ≡ after_message w x j wire
      same_node = ending_node nodes t0 (have_ended w t0.node && not (have_ended w x))

      byes_then : t.node.shared.byes ≡ t1.node.byes
      byes_then = ap (λ (y : LaneNode). y.shared.byes) same_node

      still_ended : have_ended w x ≡ true → have_ended w t.node ≡ true
      still_ended e =
          ap (have_ended w) same_node
          ∙ all_hold (has_ended (after_message w x j wire)) w.lanes (λ k low.
          lane_stays t1.node (x.lanes k) (x.lanes k).phase refl
          (all_let (has_ended x) w.lanes k low e))

      had : (y z : ℕ) → has_bye (list y z) ≡ true → has_bye (c.list y z) ≡ true
      had y z e = (elim (eqb y j && eqb z i) as (λ b. (eqb y j && eqb z i) ≡ b
          → has_bye (cond b ws (c.list y z)) ≡ true → has_bye (c.list y z) ≡ true) [
            | true ↦ (λ q g.
                let at : c.list y z ≡ wire ∷ ws =
                ap (λ k. c.list k z) (is_same y j (both_left (eqb y j) (eqb z i) q))
                ∙ ap (c.list j) (is_same z i (both_right (eqb y j) (eqb z i) q)) ∙ front in
                ap has_bye at ∙ from_right (is_bye wire.message) (has_bye ws) g)
            | false ↦ (λ q g. g)
          ]) refl e

      popped : (y z : ℕ) → has_bye (c.list y z) ≡ true
          → (has_bye (list y z) ≡ true) ⊎ ((z ≡ i) × (t.node.shared.byes y ≡ true))
      popped y z e = (elim (eqb y j && eqb z i) as (λ b. (eqb y j && eqb z i) ≡ b
          → (has_bye (cond b ws (c.list y z)) ≡ true) ⊎ ((z ≡ i) × (t.node.shared.byes y ≡ true))) [
            | true ↦ (λ q.
                let is_y = is_same y j (both_left (eqb y j) (eqb z i) q) in
                let is_z = is_same z i (both_right (eqb y j) (eqb z i) q) in
                let at : c.list y z ≡ wire ∷ ws =
                ap (λ k. c.list k z) is_y ∙ ap (c.list j) is_z ∙ front in
                elim (left_or_right (is_bye wire.message) (has_bye ws) (sym (ap has_bye at) ∙ e)) [
                  | inl g ↦ inr (
                    is_z,
                    ap (λ h. h y) byes_then ∙ ap t1.node.byes is_y ∙ note.here g,
                  )
                  | inr g ↦ inl g
                ])
            | false ↦ (λ q. inl e)
          ]) refl

      message_parts : Parts nodes old i list (one_turn t)
      message_parts = record {
        fewer = had;
        kept = λ y e. ap (λ g. g y) byes_then ∙ note.kept y e;
        noted = λ y e. elim (note.noted y (sym (ap (λ g. g y) byes_then) ∙ e)) [
          | inl h ↦ inl h
          | inr h ↦ inr (ap (λ k. has_bye (c.list k i)) h.0 ∙ ap has_bye front
              ∙ from_left (is_bye wire.message) (has_bye ws) h.1)
        ];
        taken = popped;
        stays = λ e. ended_by (have_ended w t.node)
            ∙ still_ended (sym (ended_by (have_ended w x)) ∙ e);
        says = made_says x t0 note.plain;
        ends = made_ends x t0 note.plain;
      }

      -- the list that the message came from, and the others
      own_popped : (y : ℕ) → y < nodes → (b : Bool) → eqb y j ≡ b
          → is_calm (cond b (is_bye wire.message || x.shared.byes y) (x.shared.byes y))
          (cond (b && true) ws (c.list y i)) ≡ true
      own_popped y ly true q =
          subst (λ z. is_calm (is_bye wire.message || x.shared.byes z) ws ≡ true)
          (sym (is_same y j q)) (calm_popped (x.shared.byes j) (is_bye wire.message) wire ws refl
          (sym (ap (is_calm (x.shared.byes j)) front) ∙ f.calm.lists j i lj below))
      own_popped y ly false q = f.calm.lists y i ly below

      other_list : (b : Bool) (xs : List Wire) → cond (b && false) ws xs ≡ xs
      other_list true xs = refl
      other_list false xs = refl

      popped_calm : (y z : ℕ) → y < nodes → z < nodes → (b : Bool) → eqb z i ≡ b
          → is_calm ((cond b (as_one t.node) (as_one (c.nodes z))).byes y)
          (cond (eqb y j && b) ws (c.list y z)) ≡ true
      popped_calm y z ly lz true q =
          ap (λ k. is_calm (t.node.shared.byes y) (cond (eqb y j && true) ws (c.list y k)))
          (is_same z i q)
          ∙ ap (λ g. is_calm (g y) (cond (eqb y j && true) ws (c.list y i))) byes_then
          ∙ ap (λ k. is_calm k (cond (eqb y j && true) ws (c.list y i))) (note.now y)
          ∙ own_popped y ly (eqb y j) refl
      popped_calm y z ly lz false q =
          ap (is_calm ((c.nodes z).shared.byes y)) (other_list (eqb y j) (c.list y z))
          ∙ f.calm.lists y z ly lz

      abbrev c1 : LaneCore
      c1 = with_list c j i ws

      late_sends : have_ended w x ≡ true → (y : ℕ) → Neither (wires_to t.node.shared.stamp y t.sends)
      late_sends e y =
          let silent : t ≡ t0 = ap (with_byes nodes t0)
          (ap (λ z. have_ended w t0.node && not z) e ∙ never (have_ended w t0.node)) in
          subst (λ (z : LaneTurn). Neither (wires_to z.node.shared.stamp y z.sends)) (sym silent)
          (sent_neither t0.node.shared.stamp y t1.sends note.plain (note.homes e))

      pub message_closing : Closing (take_first w c i j (wire ∷ ws))
      message_closing = record {
        farewells = farewells_like (shade (with_turn c1 i t)) (plain_turn (shade c1) i (one_turn t))
            (shade_then c1 i t) (λ y z. refl)
            (farewells_then nodes old i list (one_turn t) message_parts f.farewells);
        calm = calm_like (shade (with_turn c1 i t)) (plain_turn (shade c1) i (one_turn t))
            (shade_then c1 i t) (λ y z. refl)
            (calm_then nodes old i below list (one_turn t) message_parts f.farewells (record {
              popped = λ y z ly lz. popped_calm y z ly lz (eqb z i) refl;
              fresh = λ e y low.
                  turn_calm t0 (have_ended w t0.node && not (have_ended w x)) y note.plain;
              late = λ e y low. late_sends (sym (ended_by (have_ended w x)) ∙ e) y;
            }));
      }

    -- 6. Events

    pub event_closing : (e : LaneEvent) → May w c e → Closing (event_step w c e)
    event_closing (Exec p) may =
        word_closing p may.0
        (may_run w plan lay some code (c.nodes (node_of w p)) (lane_of w p) (m.doing p)
        (part_in w c.nodes p) (m.parts p may.0) may.1)
    event_closing (Take i j) may = go (c.list j i) refl
      where
        go : (xs : List Wire) → c.list j i ≡ xs → Closing (take_first w c i j xs)
        go [] e = f
        go (wire ∷ ws) e = message_closing i j may.0 may.1 wire ws e

  -- 7. At the start

  pub start_closing : 0 < w.lanes → Closing (opening_core w)
  start_closing some = record {
    farewells = record {
      ended = λ x y lx ly h. elim h [
        | inl e ↦ (let bad : false ≡ true = e in cc)
        | inr e ↦ (let bad : false ≡ true = e in cc)
      ];
      told = λ x y lx ly e.
          let all = sym (ended_by (have_ended w ((opening_core w).nodes x))) ∙ e in
          let bad : false ≡ true =
          all_let (has_ended ((opening_core w).nodes x)) w.lanes 0 some all in cc;
    };
    calm = record { lists = λ x y lx ly. refl };
  }
