-- A word's wants, one by one.
use Rattle.std.proofs.Common.{◌≡◌, ◌≢◌, ℕ, ◌<◌, ◌≤◌, cond, eqb, Bool, true, false, List, [], ◌∷◌, length, Option, Some, None, refl, sym, ap, ◌∙◌, arith}
use Rattle.std.specs.Prelude.{unwrap_or, ◌&&◌}
use Rattle.std.specs.Option.{option_map_or}
use Rattle.rewriting_law.proofs.Names.{Shape, block_of, line_of, is_in_block, Processor, State, PlanEntry, Need, Work, NodeMemory, Want}
use Rattle.rewriting_law.proofs.templates.RegisterLemmas.{apart, equal}
use Rattle.rewriting_law.proofs.templates.States.{grants}
use Rattle.rewriting_law.proofs.templates.Does.{IsWanted}
use Rattle.rewriting_law.proofs.words.CodeSide.{IsAlone, AllWanted}
use Rattle.rewriting_law.proofs.one_memory.Sharing.{with_local, is_same, local_here}
use Rattle.rewriting_law.proofs.one_memory.OneEach.{Shares, shares_like}
use Rattle.rewriting_law.proofs.one_memory.Messages.{AreLaidOut, want_shares}
use Rattle.rewriting_law.proofs.one_memory.Pending.{wanted_in}
use Rattle.rewriting_law.proofs.protocol_side.ProtocolSide.{Handled, Protocol, ProtocolSide, sharing_by, wanted_by}

pub other_way : (c b : ℕ) → eqb c b ≡ false → eqb b c ≡ false
other_way c b e = apart b c (λ same. let bad : false ≡ true = sym e ∙ equal c b (sym same) in cc)

module _ (layout : Shape) where
  -- a block that no want is of
  pub alone_wanted : (w : Want) (b : ℕ) → block_of layout (line_of w.at) ≡ Some b → (ws : List Want)
      → IsAlone layout w ws → wanted_in layout b ws ≡ None
  alone_wanted w b lies [] h = refl
  alone_wanted w b lies (v ∷ vs) h =
      ap (λ t. cond t (Some v.need) (wanted_in layout b vs))
      (not_in (block_of layout (line_of v.at)) refl) ∙ alone_wanted w b lies vs h.1
    where
      tells : (d : ℕ) → block_of layout (line_of v.at) ≡ Some d → (t : Bool) → eqb d b ≡ t
          → eqb d b ≡ false
      tells d e false f = f
      tells d e true f = absurd (h.0 (lies ∙ ap (λ x. Some x) (sym (is_same d b f)) ∙ sym e))

      not_in : (o : Option ℕ) → block_of layout (line_of v.at) ≡ o
          → is_in_block layout b v.at ≡ false
      not_in None e = ap (λ o. option_map_or (λ c. eqb c b) o false) e
      not_in (Some d) e = ap (λ o. option_map_or (λ c. eqb c b) o false) e
          ∙ tells d e (eqb d b) refl

  pub not_first : (c : ℕ) (w : Want) (ws : List Want) (t : Bool) → is_in_block layout c w.at ≡ t
      → cond t (Some w.need) (wanted_in layout c ws) ≡ None
      → (is_in_block layout c w.at ≡ false) × (wanted_in layout c ws ≡ None)
  not_first c w ws true e h = let bad : Some w.need ≡ None = h in cc
  not_first c w ws false e h = (e, h)

  in_block : (b : ℕ) (o : Option ℕ) → option_map_or (λ c. eqb c b) o false ≡ true → o ≡ Some b
  in_block b None e = let bad : false ≡ true = e in cc
  in_block b (Some d) e = ap (λ x. Some x) (is_same d b e)

  -- the same wants in the other order
  pub swapped : (w v : Want) → block_of layout (line_of w.at) ≢ block_of layout (line_of v.at)
      → (c : ℕ) → wanted_in layout c (v ∷ w ∷ []) ≡ wanted_in layout c (w ∷ v ∷ [])
  swapped w v apart_ c = go (is_in_block layout c w.at) (is_in_block layout c v.at) refl refl
    where
      go : (x y : Bool) → is_in_block layout c w.at ≡ x → is_in_block layout c v.at ≡ y
          → cond y (Some v.need) (cond x (Some w.need) None)
          ≡ cond x (Some w.need) (cond y (Some v.need) None)
      go true true e f = absurd (apart_ (in_block c (block_of layout (line_of w.at)) e
          ∙ sym (in_block c (block_of layout (line_of v.at)) f)))
      go true false e f = refl
      go false true e f = refl
      go false false e f = refl

module _ (layout : Shape) (work : Work) (plan : List PlanEntry) (protocol : Protocol) where
  -- the block of a want
  abbrev pub block_wanted : Want → ℕ
  block_wanted w = unwrap_or (block_of layout (line_of w.at)) 0

  -- node i asks for one block more
  abbrev pub ask : (ℕ → NodeMemory) → ℕ → Handled protocol.Rest → Want → Handled protocol.Rest
  ask locals i t w = protocol.want (with_local locals i t.local) t.rest i (block_wanted w) w.need

  abbrev pub ask_all : (ℕ → NodeMemory) → ℕ → Handled protocol.Rest → List Want → Handled protocol.Rest
  ask_all locals i t [] = t
  ask_all locals i t (w ∷ ws) = ask_all locals i (ask locals i t w) ws

  -- node i asks for what is wanted, one after the other
  abbrev pub want_all : (ℕ → NodeMemory) → protocol.Rest → ℕ → List Want → Handled protocol.Rest
  want_all locals rest i ws = ask_all locals i (record { local = locals i; rest = rest }) ws

  module _ (side : ProtocolSide layout work protocol) (laid : AreLaidOut layout work)
      (locals : ℕ → NodeMemory) (rest : protocol.Rest) (s : State) (i : ℕ)
      (below : i < work.layout.nodes)
      (q : Processor) where
    pub record AllAsked (ws : List Want) (t : Handled protocol.Rest) : Type 0 where
      pub shares : Shares layout work (sharing_by layout work protocol side laid t.rest)
          (with_local locals i t.local) s
      pub own : (c : ℕ) → protocol.wait t.rest i c ≡ wanted_in layout c ws
      pub others : (x c : ℕ) → eqb x i ≡ false → protocol.wait t.rest x c ≡ protocol.wait rest x c
      -- elsewhere the states are as before
      pub states : (line c : ℕ) → block_of layout line ≡ Some c → wanted_in layout c ws ≡ None
          → t.local.state line ≡ (locals i).state line

    -- one more is asked for
    more_asked : (ws : List Want) (t1 : Handled protocol.Rest) → AllAsked ws t1 → (w : Want)
        → IsWanted work.program q (locals i) w → IsAlone layout w ws → length ws < 2
        → AllAsked (w ∷ ws) (ask locals i t1 w)
    more_asked ws t1 a w wanted alone few2 =
        let locals1 = with_local locals i t1.local in
        let here : locals1 i ≡ t1.local = local_here locals i t1.local in
        let b = block_wanted w in
        let found = laid.found (line_of w.at) wanted.shared in
        let lies : block_of layout (line_of w.at) ≡ Some b =
        found.1 ∙ ap (λ o. Some (unwrap_or o 0)) (sym found.1) in
        let free : wanted_in layout b ws ≡ None = alone_wanted layout w b lies ws alone in
        let unmet : grants w.need ((locals1 i).state (line_of w.at)) ≡ false =
        ap (λ (n : NodeMemory). grants w.need (n.state (line_of w.at))) here
        ∙ ap (grants w.need) (a.states (line_of w.at) b lies free) ∙ wanted.unmet in
        let t = protocol.want locals1 t1.rest i b w.need in
        let left = side.wants locals1 t1.rest s.shared a.shares.held i below w.at b w.need lies ws
        few2 a.own free unmet in
        record {
          shares = shares_like layout work (sharing_by layout work protocol side laid t.rest)
              (with_local locals1 i t.local) (with_local locals i t.local) s
              (λ j. (elim (eqb j i) as (λ u. cond u t.local (cond u t1.local (locals j))
              ≡ cond u t.local (locals j)) [ true ↦ refl | false ↦ refl ]))
              (want_shares layout work (sharing_by layout work protocol side laid t1.rest)
              (sharing_by layout work protocol side laid t.rest) locals1 s i t.local a.shares below
              (wanted_by layout work protocol side laid locals1 t1.rest s i b w.need t left));
          own = λ c. by_block c a.own left.own (λ x e. left.others i x e) lies;
          others = λ x c e.
              left.others x c (ap (λ u. u && eqb c b) e) ∙ a.others x c e;
          states = λ line c e f.
              let g = not_first layout c w ws (is_in_block layout c w.at) refl f in
              let other : eqb c b ≡ false = elsewhere c b lies g.0 in
              left.elsewhere line c e other
              ∙ ap (λ (n : NodeMemory). n.state line) here ∙ a.states line c e g.1;
        }
      where
        elsewhere : (c b : ℕ) → block_of layout (line_of w.at) ≡ Some b
            → is_in_block layout c w.at ≡ false → eqb c b ≡ false
        elsewhere c b lies h = go (eqb c b) refl
          where
            go : (u : Bool) → eqb c b ≡ u → eqb c b ≡ false
            go false e = e
            go true e =
                let inside : is_in_block layout c w.at ≡ true =
                ap (λ o. option_map_or (λ x. eqb x c) o false) lies
                ∙ equal b c (sym (is_same c b e)) in
                let bad : false ≡ true = sym h ∙ inside in cc

        by_block : {before after : ℕ → Option Need} {b : ℕ} (c : ℕ)
            → ((c : ℕ) → before c ≡ wanted_in layout c ws) → after b ≡ Some w.need
            → ((x : ℕ) → (eqb i i && eqb x b) ≡ false → after x ≡ before x)
            → block_of layout (line_of w.at) ≡ Some b → after c ≡ wanted_in layout c (w ∷ ws)
        by_block {before} {after} {b} c own here others lies = go (eqb c b) refl
          where
            inside : is_in_block layout c w.at ≡ eqb b c
            inside = ap (λ o. option_map_or (λ x. eqb x c) o false) lies

            go : (u : Bool) → eqb c b ≡ u → after c ≡ wanted_in layout c (w ∷ ws)
            go true e = ap after (is_same c b e) ∙ here
                ∙ sym (ap (λ t. cond t (Some w.need) (wanted_in layout c ws))
                (inside ∙ equal b c (sym (is_same c b e))))
            go false e =
                let flip : eqb b c ≡ false = other_way c b e in
                others c (ap (λ t. t && eqb c b) (equal i i refl) ∙ e) ∙ own c
                ∙ sym (ap (λ t. cond t (Some w.need) (wanted_in layout c ws)) (inside ∙ flip))

    -- nothing is asked for yet
    none_asked : Shares layout work (sharing_by layout work protocol side laid rest) locals s
        → ((c : ℕ) → protocol.wait rest i c ≡ None)
        → AllAsked [] (record { local = locals i; rest = rest })
    none_asked shares none = record {
      shares = shares_like layout work (sharing_by layout work protocol side laid rest) locals
          (with_local locals i (locals i)) s
          (λ j. (elim (eqb j i) as (λ t. eqb j i ≡ t → locals j ≡ cond t (locals i) (locals j)) [
            | true ↦ (λ e. ap locals (is_same j i e))
            | false ↦ (λ e. refl)
          ]) refl) shares;
      own = none;
      others = λ x c e. refl;
      states = λ line c e f. refl;
    }

    two_asked : (w v : Want) → block_of layout (line_of w.at) ≢ block_of layout (line_of v.at)
        → (t : Handled protocol.Rest) → AllAsked (v ∷ w ∷ []) t → AllAsked (w ∷ v ∷ []) t
    two_asked w v other t a = record {
      shares = a.shares;
      own = λ c. a.own c ∙ swapped layout w v other c;
      others = a.others;
      states = λ line c e f. a.states line c e (swapped layout w v other c ∙ f);
    }

    -- a word's wants, where nothing is waited for before
    pub all_asked : Shares layout work (sharing_by layout work protocol side laid rest) locals s
        → ((c : ℕ) → protocol.wait rest i c ≡ None) → (ws : List Want)
        → AllWanted layout work plan q (locals i) ws → length ws ≤ 2
        → AllAsked ws (want_all locals rest i ws)
    all_asked shares none [] wanted few = none_asked shares none
    all_asked shares none (w ∷ []) wanted few =
        more_asked [] (record { local = locals i; rest = rest }) (none_asked shares none) w
        wanted.0 tt (omega arith)
    all_asked shares none (w ∷ v ∷ []) wanted few =
        let t0 : Handled protocol.Rest = record { local = locals i; rest = rest } in
        let other = wanted.1.0 in
        two_asked w v other (ask locals i (ask locals i t0 w) v)
        (more_asked (w ∷ []) (ask locals i t0 w)
        (more_asked [] t0 (none_asked shares none) w wanted.0 tt (omega arith)) v wanted.2.0
        ((λ e. other (sym e)), tt) (omega arith))
    all_asked shares none (w ∷ v ∷ x ∷ xs) wanted few = absurd (omega (arith, few))
