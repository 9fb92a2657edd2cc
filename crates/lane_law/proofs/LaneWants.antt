-- Wants of a processor whose node has others: a block that another waits for isn't asked for again.
use Rattle.std.proofs.Common.{◌≡◌, ◌≢◌, ℕ, ◌+◌, ◌<◌, ◌≤◌, ◌⊎◌, cond, eqb, Bool, true, false, List, [], ◌∷◌, length, Option, Some, None, refl, sym, ap, ◌∙◌, subst, inl, inr, arith}
use Rattle.std.specs.Prelude.{◌&&◌, ◌||◌, if◌then◌else◌, is_some, unwrap_or}
use Rattle.std.specs.Option.{option_map_or}
use Rattle.lane_law.proofs.Names.{Shape, block_of, line_of, is_in_block, Processor, State, PlanEntry, Need, Read, Write, Work, NodeMemory, Want, is_readable_state, is_writable_state}
use Rattle.rewriting_law.proofs.templates.RegisterLemmas.{equal}
use Rattle.rewriting_law.proofs.templates.States.{grants}
use Rattle.rewriting_law.proofs.templates.Does.{IsWanted}
use Rattle.rewriting_law.proofs.words.CodeSide.{AllWanted, IsAlone}
use Rattle.rewriting_law.proofs.one_memory.Sharing.{with_local, local_here, is_same, readable_if_writable}
use Rattle.rewriting_law.proofs.one_memory.Messages.{AreLaidOut}
use Rattle.rewriting_law.proofs.one_memory.Wants.{other_way, alone_wanted, not_first, swapped}
use Rattle.rewriting_law.proofs.one_memory.Pending.{wanted_in}
use Rattle.rewriting_law.proofs.protocol_side.ProtocolSide.{Handled, Protocol, ProtocolSide, WantLeaves, sharing_by}
use Rattle.rewriting_law.proofs.one_memory.SharedWords.{Shares}
use Rattle.lane_law.proofs.LaneMessages.{want_shares}

-- what is waited for serves a need as well
abbrev pub Covers : Need → Need → Type 0
Covers have Read = Unit {0}
Covers Read Write = ⊥
Covers Write Write = Unit {0}

pub covers_grants : (have need : Need) (state : ℕ) → Covers have need → grants have state ≡ true
    → grants need state ≡ true
covers_grants Read Read state h g = g
covers_grants Write Read state h g = readable_if_writable state g
covers_grants Read Write state h g = absurd h
covers_grants Write Write state h g = g

pub covers_self : (need : Need) → Covers need need
covers_self Read = tt
covers_self Write = tt

-- a need for which the block's wait doesn't serve: the processor executes its word again
abbrev pub exceeds : Option Need → Need → Bool
exceeds None need = false
exceeds (Some Read) Write = true
exceeds (Some Read) Read = false
exceeds (Some Write) need = false

-- the block is waited for, by a wait that serves the need, or else the word is executed again
abbrev pub IsCovered : Option Need → Need → Bool → Type 0
IsCovered None need again = ⊥
IsCovered (Some have) need again = (again ≡ true) ⊎ Covers have need

pub covered_by : (o : Option Need) (have need : Need) (again : Bool) → o ≡ Some have
    → IsCovered o need (again || exceeds o need)
covered_by None have need again e = let bad : None ≡ Some have = e in cc
covered_by (Some Read) have Read again e = inr tt
covered_by (Some Read) have Write again e = inl (go again)
  where
    go : (b : Bool) → (b || true) ≡ true
    go true = refl
    go false = refl
covered_by (Some Write) have Read again e = inr tt
covered_by (Some Write) have Write again e = inr tt

or_left : (a b : Bool) → a ≡ true → (a || b) ≡ true
or_left true b h = refl
or_left false b h = let bad : false ≡ true = h in cc

pub covered_more : (o : Option Need) (need : Need) (again more : Bool) → IsCovered o need again
    → IsCovered o need (again || more)
covered_more None need again more h = h
covered_more (Some have) need again more (inl e) = inl (or_left again more e)
covered_more (Some have) need again more (inr e) = inr e

module _ (layout : Shape) (work : Work) (processors : ℕ) (node_of : ℕ → ℕ)
    (placed : (p : ℕ) → p < processors → node_of p < work.layout.nodes) (plan : List PlanEntry)
    (protocol : Protocol) where
  -- what a node is and what it has asked for, and whether its processor executes its word again
  pub record Asked : Type 0 where
    pub handled : Handled protocol.Rest
    pub again : Bool

  abbrev pub block_wanted : Want → ℕ
  block_wanted w = unwrap_or (block_of layout (line_of w.at)) 0

  abbrev pub waited : Handled protocol.Rest → (i : ℕ) → Want → Option Need
  waited t i w = protocol.wait t.rest i (block_wanted w)

  -- one block more is asked for, where no processor of the node waits for it
  abbrev pub ask : (ℕ → NodeMemory) → ℕ → Asked → Want → Asked
  ask locals i t w = record {
    handled = if is_some (waited t.handled i w) then t.handled
        else protocol.want (with_local locals i t.handled.local) t.handled.rest i (block_wanted w)
        w.need;
    again = t.again || exceeds (waited t.handled i w) w.need;
  }

  abbrev pub ask_all : (ℕ → NodeMemory) → ℕ → Asked → List Want → Asked
  ask_all locals i t [] = t
  ask_all locals i t (w ∷ ws) = ask_all locals i (ask locals i t w) ws

  abbrev pub want_all : (ℕ → NodeMemory) → protocol.Rest → ℕ → List Want → Asked
  want_all locals rest i ws =
      ask_all locals i (record { handled = record { local = locals i; rest = rest }; again = false })
      ws

  module _ (side : ProtocolSide layout work protocol) (laid : AreLaidOut layout work) (most : ℕ)
    where
      -- these wants are of the blocks that a node waits for
      pub record AreWaits (rest : protocol.Rest) (i : ℕ) (qs : List Want) : Type 0 where
        pub waits : (c : ℕ) → protocol.wait rest i c ≡ wanted_in layout c qs

      -- a want of a block that no processor of the node waits for, and that isn't granted, where the
      -- node waits for fewer than it may. What may be written may still be written
      abbrev pub WantsMore : Type 0
      WantsMore =
          (locals : ℕ → NodeMemory) (rest : protocol.Rest) (memory : ℕ → ℕ)
          → side.Holds locals rest memory → (i : ℕ) → i < work.layout.nodes → (a b : ℕ) (need : Need)
          → block_of layout (line_of a) ≡ Some b → (qs : List Want) → length qs < most
          → AreWaits rest i qs → protocol.wait rest i b ≡ None
          → grants need ((locals i).state (line_of a)) ≡ false
          → WantLeaves layout work protocol side.Holds locals rest memory i b need
          (protocol.want locals rest i b need)
          × ((line : ℕ) → is_writable_state ((locals i).state line) ≡ true
          → is_writable_state ((protocol.want locals rest i b need).local.state line) ≡ true)

      module _ (more : WantsMore) (locals : ℕ → NodeMemory) (rest : protocol.Rest)
          (reserved : ℕ → Option ℕ) (s : State) (i : ℕ) (below : i < work.layout.nodes)
          (q : Processor) (qs : List Want) (are : AreWaits rest i qs) (room : length qs + 2 ≤ most)
        where
          abbrev SharesHere : protocol.Rest → (ℕ → NodeMemory) → Type 0
          SharesHere r ls =
              Shares layout work processors node_of placed
              (sharing_by layout work protocol side laid r) ls reserved s

          pub record AllAsked (ws : List Want) (t : Asked) : Type 0 where
            pub shares : SharesHere t.handled.rest (with_local locals i t.handled.local)
            pub listed : List Want
            pub few : length listed ≤ length qs + length ws
            pub waits : AreWaits t.handled.rest i listed
            -- each want has its wait, which serves, or the word is executed again
            pub covered : (c : ℕ) (need : Need) → wanted_in layout c ws ≡ Some need
                → IsCovered (protocol.wait t.handled.rest i c) need t.again
            -- what was waited for is, for what it was
            pub kept : (c : ℕ) (have : Need) → protocol.wait rest i c ≡ Some have
                → protocol.wait t.handled.rest i c ≡ Some have
            -- and what is was, or is wanted here
            pub fresh : (c : ℕ) (have : Need) → protocol.wait t.handled.rest i c ≡ Some have
                → (protocol.wait rest i c ≡ Some have)
                ⊎ ((protocol.wait rest i c ≡ None) × (wanted_in layout c ws ≡ Some have))
            pub others : (x c : ℕ) → eqb x i ≡ false
                → protocol.wait t.handled.rest x c ≡ protocol.wait rest x c
            pub states : (line c : ℕ) → block_of layout line ≡ Some c → wanted_in layout c ws ≡ None
                → t.handled.local.state line ≡ (locals i).state line
            pub reads : (line : ℕ) → is_readable_state ((locals i).state line) ≡ true
                → is_readable_state (t.handled.local.state line) ≡ true
            pub writes : (line : ℕ) → is_writable_state ((locals i).state line) ≡ true
                → is_writable_state (t.handled.local.state line) ≡ true

          none_asked : SharesHere rest locals
              → AllAsked [] (record { handled = record { local = locals i; rest = rest }; again = false })
          none_asked shares = record {
            shares = record {
              held = side.like locals (with_local locals i (locals i)) rest s.shared
                  (λ j. (elim (eqb j i) as (λ t. eqb j i ≡ t
                  → (locals j).copy ≡ (cond t (locals i) (locals j)).copy) [
                    | true ↦ (λ e. ap (λ k. (locals k).copy) (is_same j i e))
                    | false ↦ (λ e. refl)
                  ]) refl) (λ j. (elim (eqb j i) as (λ t. eqb j i ≡ t
                  → (locals j).state ≡ (cond t (locals i) (locals j)).state) [
                    | true ↦ (λ e. ap (λ k. (locals k).state) (is_same j i e))
                    | false ↦ (λ e. refl)
                  ]) refl) shares.held;
              reservations = shares.reservations;
              readable = λ j low a f c. (elim (eqb (node_of j) i) as (λ u. eqb (node_of j) i ≡ u
                  → is_readable_state ((cond u (locals i) (locals (node_of j))).state (line_of a))
                  ≡ true) [
                    | true ↦ (λ e. ap (λ k. is_readable_state ((locals k).state (line_of a)))
                        (sym (is_same (node_of j) i e)) ∙ shares.readable j low a f c)
                    | false ↦ (λ e. shares.readable j low a f c)
                  ]) refl;
            };
            listed = qs;
            few = omega arith;
            waits = are;
            covered = λ c need e. let bad : None ≡ Some need = e in cc;
            kept = λ c have e. e;
            fresh = λ c have e. inl e;
            others = λ x c e. refl;
            states = λ line c e f. refl;
            reads = λ line e. e;
            writes = λ line e. e;
          }

          module _ (ws : List Want) (t1 : Asked) (a : AllAsked ws t1) (w : Want) (b : ℕ)
              (is_block : block_wanted w ≡ b) (lies : block_of layout (line_of w.at) ≡ Some b)
              (free : wanted_in layout b ws ≡ None) where
            within : (c : ℕ) → is_in_block layout c w.at ≡ eqb b c
            within c = ap (λ o. option_map_or (λ x. eqb x c) o false) lies

            wanted_more : (c : ℕ) → wanted_in layout c (w ∷ ws)
                ≡ cond (eqb b c) (Some w.need) (wanted_in layout c ws)
            wanted_more c = ap (λ u. cond u (Some w.need) (wanted_in layout c ws)) (within c)

            -- what is wanted more, by whether it is of this block
            by_block : (c : ℕ) (need : Need) → wanted_in layout c (w ∷ ws) ≡ Some need
                → ((b ≡ c) × (w.need ≡ need)) ⊎ ((eqb b c ≡ false) × (wanted_in layout c ws ≡ Some need))
            by_block c need e = go (eqb b c) refl (sym (wanted_more c) ∙ e)
              where
                go : (u : Bool) → eqb b c ≡ u → cond u (Some w.need) (wanted_in layout c ws) ≡ Some need
                    → ((b ≡ c) × (w.need ≡ need))
                    ⊎ ((eqb b c ≡ false) × (wanted_in layout c ws ≡ Some need))
                go true f g = inl (is_same b c f, (cc))
                go false f g = inr (f, g)

            -- what was wanted before is wanted
            before_wanted : (c : ℕ) (have : Need) → wanted_in layout c ws ≡ Some have
                → wanted_in layout c (w ∷ ws) ≡ Some have
            before_wanted c have e = wanted_more c ∙ go (eqb b c) refl
              where
                go : (u : Bool) → eqb b c ≡ u
                    → cond u (Some w.need) (wanted_in layout c ws) ≡ Some have
                go false f = e
                go true f =
                    let bad : None ≡ Some have =
                    sym free ∙ ap (λ x. wanted_in layout x ws) (is_same b c f) ∙ e in cc

            here_wanted : wanted_in layout b (w ∷ ws) ≡ Some w.need
            here_wanted =
                wanted_more b ∙ ap (λ u. cond u (Some w.need) (wanted_in layout b ws)) (equal b b refl)

            -- another processor of the node waits for it
            joins : (have : Need) → protocol.wait t1.handled.rest i b ≡ Some have
                → AllAsked (w ∷ ws) (record {
                  handled = t1.handled;
                  again = t1.again || exceeds (protocol.wait t1.handled.rest i b) w.need;
                })
            joins have is = record {
              shares = a.shares;
              listed = a.listed;
              few = let f = a.few in omega (arith, f);
              waits = a.waits;
              covered = λ c need e. elim (by_block c need e) [
                | inl f ↦ subst (λ z. IsCovered (protocol.wait t1.handled.rest i z) need
                    (t1.again || exceeds (protocol.wait t1.handled.rest i b) w.need)) f.0
                    (subst (λ z. IsCovered (protocol.wait t1.handled.rest i b) z
                    (t1.again || exceeds (protocol.wait t1.handled.rest i b) w.need)) f.1
                    (covered_by (protocol.wait t1.handled.rest i b) have w.need t1.again is))
                | inr f ↦ covered_more (protocol.wait t1.handled.rest i c) need t1.again
                    (exceeds (protocol.wait t1.handled.rest i b) w.need) (a.covered c need f.1)
              ];
              kept = a.kept;
              fresh = λ c d e. elim (a.fresh c d e) [
                | inl f ↦ inl f
                | inr f ↦ inr (f.0, before_wanted c d f.1)
              ];
              others = a.others;
              states = λ line c e f.
                  a.states line c e (not_first layout c w ws (is_in_block layout c w.at) refl f).1;
              reads = a.reads;
              writes = a.writes;
            }

            -- no other does
            asks : length ws < 2 → protocol.wait t1.handled.rest i b ≡ None
                → grants w.need ((locals i).state (line_of w.at)) ≡ false
                → AllAsked (w ∷ ws) (record {
                  handled = protocol.want (with_local locals i t1.handled.local) t1.handled.rest i b
                      w.need;
                  again = t1.again || exceeds (protocol.wait t1.handled.rest i b) w.need;
                })
            asks low is unmet =
                let locals1 = with_local locals i t1.handled.local in
                let here : locals1 i ≡ t1.handled.local = local_here locals i t1.handled.local in
                let unmet1 : grants w.need ((locals1 i).state (line_of w.at)) ≡ false =
                ap (λ (n : NodeMemory). grants w.need (n.state (line_of w.at))) here
                ∙ ap (grants w.need) (a.states (line_of w.at) b lies free) ∙ unmet in
                let t = protocol.want locals1 t1.handled.rest i b w.need in
                let f = a.few in
                let both = more locals1 t1.handled.rest s.shared a.shares.held i below w.at b w.need lies
                a.listed (omega (arith, f, low, room)) a.waits is unmet1 in
                let left = both.0 in
                let other : (c : ℕ) → eqb b c ≡ false
                → protocol.wait t.rest i c ≡ protocol.wait t1.handled.rest i c =
                λ c f. left.others i c (ap (λ u. u && eqb c b) (equal i i refl) ∙ other_way b c f) in
                let shares1 = want_shares layout work processors node_of placed
                (sharing_by layout work protocol side laid t1.handled.rest)
                (sharing_by layout work protocol side laid t.rest) locals1 reserved s i t.local a.shares
                None (record {
                  held = left.held;
                  reads = λ line c h. inl (left.reads line h);
                  lies = λ x e. let bad : None ≡ Some x = e in cc;
                  among = λ x e. let bad : None ≡ Some x = e in cc;
                  runs = λ x e. let bad : None ≡ Some x = e in cc;
                  stores = λ x e. let bad : None ≡ Some x = e in cc;
                }) left.held left.reads in
                record {
                  shares = record {
                    held = side.like (with_local locals1 i t.local) (with_local locals i t.local) t.rest
                        s.shared
                        (λ j. (elim (eqb j i) as (λ u. (cond u t.local (cond u t1.handled.local
                        (locals j))).copy ≡ (cond u t.local (locals j)).copy) [
                          | true ↦ refl
                          | false ↦ refl
                        ])) (λ j. (elim (eqb j i) as (λ u. (cond u t.local (cond u t1.handled.local
                        (locals j))).state ≡ (cond u t.local (locals j)).state) [
                          | true ↦ refl
                          | false ↦ refl
                        ])) shares1.held;
                    reservations = shares1.reservations;
                    readable = λ j low x f c. (elim (eqb (node_of j) i) as (λ u.
                        is_readable_state ((cond u t.local (cond u t1.handled.local
                        (locals (node_of j)))).state (line_of x)) ≡ true
                        → is_readable_state ((cond u t.local (locals (node_of j))).state (line_of x))
                        ≡ true) [
                          | true ↦ (λ e. e)
                          | false ↦ (λ e. e)
                        ]) (shares1.readable j low x f c);
                  };
                  listed = w ∷ a.listed;
                  few = omega (arith, f);
                  waits = record {
                    waits = λ c. by_list (protocol.wait t.rest i) c left.own (other c) (a.waits.waits c);
                  };
                  covered = λ c need e. elim (by_block c need e) [
                    | inl f ↦ subst (λ z. IsCovered (protocol.wait t.rest i z) need
                        (t1.again || exceeds (protocol.wait t1.handled.rest i b) w.need)) f.0
                        (subst (λ z. IsCovered z need
                        (t1.again || exceeds (protocol.wait t1.handled.rest i b) w.need)) (sym left.own)
                        (inr (subst (Covers w.need) f.1 (covers_self w.need))))
                    | inr f ↦ subst (λ z. IsCovered z need
                        (t1.again || exceeds (protocol.wait t1.handled.rest i b) w.need))
                        (sym (other c f.0))
                        (covered_more (protocol.wait t1.handled.rest i c) need t1.again
                        (exceeds (protocol.wait t1.handled.rest i b) w.need) (a.covered c need f.1))
                  ];
                  kept = λ c have e. other c (apart_from c have (a.kept c have e)) ∙ a.kept c have e;
                  fresh = λ c have e. by_own (protocol.wait t.rest i) c have left.own (other c) e;
                  others = λ x c e.
                      left.others x c (ap (λ u. u && eqb c b) e) ∙ a.others x c e;
                  states = λ line c e f.
                      let g = not_first layout c w ws (is_in_block layout c w.at) refl f in
                      left.elsewhere line c e (other_way b c (sym (within c) ∙ g.0))
                      ∙ ap (λ (n : NodeMemory). n.state line) here ∙ a.states line c e g.1;
                  reads = λ line e. left.reads line
                      (ap (λ (n : NodeMemory). is_readable_state (n.state line)) here ∙ a.reads line e);
                  writes = λ line e. both.1 line
                      (ap (λ (n : NodeMemory). is_writable_state (n.state line)) here ∙ a.writes line e);
                }
              where
                by_list : (after : ℕ → Option Need) (c : ℕ) → after b ≡ Some w.need
                    → (eqb b c ≡ false → after c ≡ protocol.wait t1.handled.rest i c)
                    → protocol.wait t1.handled.rest i c ≡ wanted_in layout c a.listed
                    → after c ≡ wanted_in layout c (w ∷ a.listed)
                by_list after c own other before =
                    go (eqb b c) refl
                    ∙ sym (ap (λ u. cond u (Some w.need) (wanted_in layout c a.listed)) (within c))
                  where
                    go : (u : Bool) → eqb b c ≡ u
                        → after c ≡ cond (eqb b c) (Some w.need) (wanted_in layout c a.listed)
                    go true f = ap after (sym (is_same b c f)) ∙ own
                        ∙ sym (ap (λ u. cond u (Some w.need) (wanted_in layout c a.listed)) f)
                    go false f = other f ∙ before
                        ∙ sym (ap (λ u. cond u (Some w.need) (wanted_in layout c a.listed)) f)

                apart_from : (c : ℕ) (have : Need) → protocol.wait t1.handled.rest i c ≡ Some have
                    → eqb b c ≡ false
                apart_from c have e = go (eqb b c) refl
                  where
                    go : (u : Bool) → eqb b c ≡ u → eqb b c ≡ false
                    go false f = f
                    go true f =
                        let bad : None ≡ Some have =
                        sym is ∙ ap (protocol.wait t1.handled.rest i) (is_same b c f) ∙ e in cc

                by_own : (after : ℕ → Option Need) (c : ℕ) (have : Need) → after b ≡ Some w.need
                    → (eqb b c ≡ false → after c ≡ protocol.wait t1.handled.rest i c)
                    → after c ≡ Some have → (protocol.wait rest i c ≡ Some have)
                    ⊎ ((protocol.wait rest i c ≡ None) × (wanted_in layout c (w ∷ ws) ≡ Some have))
                by_own after c have own other e = go (eqb b c) refl
                  where
                    unasked : (o : Option Need) → protocol.wait rest i b ≡ o
                        → protocol.wait rest i b ≡ None
                    unasked None f = f
                    unasked (Some d) f =
                        let bad : None ≡ Some d = sym is ∙ a.kept b d f in cc

                    go : (u : Bool) → eqb b c ≡ u → (protocol.wait rest i c ≡ Some have)
                        ⊎ ((protocol.wait rest i c ≡ None) × (wanted_in layout c (w ∷ ws) ≡ Some have))
                    go true f =
                        let same = is_same b c f in
                        inr (
                          ap (protocol.wait rest i) (sym same)
                              ∙ unasked (protocol.wait rest i b) refl,
                          ap (λ z. wanted_in layout z (w ∷ ws)) (sym same) ∙ here_wanted
                              ∙ (sym own ∙ ap after same ∙ e),
                        )
                    go false f = elim (a.fresh c have (sym (other f) ∙ e)) [
                      | inl g ↦ inl g
                      | inr g ↦ inr (g.0, before_wanted c have g.1)
                    ]

          -- one more is asked for, or joined
          more_asked : (ws : List Want) (t1 : Asked) → AllAsked ws t1 → (w : Want)
              → IsWanted work.program q (locals i) w → IsAlone layout w ws → length ws < 2
              → AllAsked (w ∷ ws) (ask locals i t1 w)
          more_asked ws t1 a w wanted alone low =
              go (protocol.wait t1.handled.rest i (block_wanted w)) refl
            where
              found : (b : ℕ) × (block_of layout (line_of w.at) ≡ Some b)
              found = laid.found (line_of w.at) wanted.shared

              lies : block_of layout (line_of w.at) ≡ Some (block_wanted w)
              lies = found.1 ∙ ap (λ o. Some (unwrap_or o 0)) (sym found.1)

              free : wanted_in layout (block_wanted w) ws ≡ None
              free = alone_wanted layout w (block_wanted w) lies ws alone

              by : Bool → Asked
              by u = record {
                handled = cond u t1.handled (protocol.want (with_local locals i t1.handled.local)
                    t1.handled.rest i (block_wanted w) w.need);
                again = t1.again || exceeds (waited t1.handled i w) w.need;
              }

              go : (o : Option Need) → protocol.wait t1.handled.rest i (block_wanted w) ≡ o
                  → AllAsked (w ∷ ws) (ask locals i t1 w)
              go None e =
                  subst (λ u. AllAsked (w ∷ ws) (by u)) (sym (ap is_some e))
                  (asks ws t1 a w (block_wanted w) refl lies free low e wanted.unmet)
              go (Some have) e =
                  subst (λ u. AllAsked (w ∷ ws) (by u)) (sym (ap is_some e))
                  (joins ws t1 a w (block_wanted w) refl lies free have e)

          two_asked : (w v : Want) → block_of layout (line_of w.at) ≢ block_of layout (line_of v.at)
              → (t : Asked) → AllAsked (v ∷ w ∷ []) t → AllAsked (w ∷ v ∷ []) t
          two_asked w v other t a = record {
            shares = a.shares;
            listed = a.listed;
            few = a.few;
            waits = a.waits;
            covered = λ c need e. a.covered c need (swapped layout w v other c ∙ e);
            kept = a.kept;
            fresh = λ c have e. elim (a.fresh c have e) [
              | inl f ↦ inl f
              | inr f ↦ inr (f.0, sym (swapped layout w v other c) ∙ f.1)
            ];
            others = a.others;
            states = λ line c e f. a.states line c e (swapped layout w v other c ∙ f);
            reads = a.reads;
            writes = a.writes;
          }

          -- a word's wants
          pub all_asked : SharesHere rest locals → (ws : List Want)
              → AllWanted layout work plan q (locals i) ws → length ws ≤ 2
              → AllAsked ws (want_all locals rest i ws)
          all_asked shares [] wanted few = none_asked shares
          all_asked shares (w ∷ []) wanted few =
              more_asked [] (record {
                handled = record { local = locals i; rest = rest };
                again = false;
              }) (none_asked shares) w wanted.0 tt (omega arith)
          all_asked shares (w ∷ v ∷ []) wanted few =
              let t0 : Asked = record {
                handled = record { local = locals i; rest = rest };
                again = false;
              } in
              let other = wanted.1.0 in
              two_asked w v other (ask locals i (ask locals i t0 w) v)
              (more_asked (w ∷ []) (ask locals i t0 w)
              (more_asked [] t0 (none_asked shares) w wanted.0 tt (omega arith)) v wanted.2.0
              ((λ e. other (sym e)), tt) (omega arith))
          all_asked shares (w ∷ v ∷ x ∷ xs) wanted few = absurd (omega (arith, few))
