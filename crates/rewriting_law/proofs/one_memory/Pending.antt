-- A node that waits: what its processor wants, and where it goes on once nothing is pending.
use Rattle.std.proofs.Common.{◌≡◌, ℕ, ◌⊎◌, cond, eqb, Bool, true, false, List, [], ◌∷◌, Option, Some, None, refl, sym, ap, ◌∙◌, inl, inr}
use Rattle.std.specs.Prelude.{if◌then◌else◌, is_some}
use Rattle.std.specs.Option.{option_map_or}
use Rattle.rewriting_law.proofs.Names.{Shape, block_of, Shared, class_at, line_of, is_in_block, stands_at_store, RunsToStore, Processor, PlanEntry, Need, Read, Write, Work, ProcessorState, NodeMemory, Want, Resume, WordOutcome, lane_resumed}
use Rattle.rewriting_law.proofs.templates.RegisterLemmas.{equal}
use Rattle.rewriting_law.proofs.templates.States.{Suits, grants}
use Rattle.rewriting_law.proofs.templates.Does.{Seeks}
use Rattle.rewriting_law.proofs.words.CodeSide.{IsAmong, WaitsFor, AllWanted}
use Rattle.rewriting_law.proofs.one_memory.Messages.{AreLaidOut}
use Rattle.rewriting_law.proofs.one_memory.Sharing.{is_same}

-- what is wanted of a block
abbrev pub wanted_in : Shape → ℕ → List Want → Option Need
wanted_in layout b [] = None
wanted_in layout b (w ∷ ws) =
    if is_in_block layout b w.at then Some w.need else wanted_in layout b ws

-- a want whose block is waited for
abbrev pub is_pending : Shape → (ℕ → Option Need) → Want → Bool
is_pending layout wait w =
    option_map_or (λ b. is_some (wait b)) (block_of layout (line_of w.at)) false

-- those that are still waited for
abbrev pub pending : Shape → (ℕ → Option Need) → List Want → List Want
pending layout wait [] = []
pending layout wait (w ∷ ws) =
    if is_pending layout wait w then w ∷ pending layout wait ws else pending layout wait ws

module _ (layout : Shape) (work : Work) (plan : List PlanEntry) (laid : AreLaidOut layout work)
    (Stands : Processor → ProcessorState → NodeMemory → Type 0) where
  -- the wants are of shared lines, and what the processor is about to do
  abbrev pub AllSought : Processor → List Want → Type 0
  AllSought q [] = Unit {0}
  AllSought q (w ∷ ws) =
      (class_at work.program w.at ≡ Shared) × Seeks work.program q w.need w.at × AllSought q ws

  -- where a processor waits
  pub record StandsWaiting (q : Processor) (l : ProcessorState) (resume : Resume) (wants : List Want)
      : Type 0 where
    pub runs : q.exit ≡ None
    pub sought : AllSought q wants
    pub resumed : (m : NodeMemory) → Suits work.program m → (x : Want) → IsAmong x wants
        → grants x.need (m.state (line_of x.at)) ≡ true → Stands q (lane_resumed l m resume) m

  all_sought : (q : Processor) (n : NodeMemory) (ws : List Want) → AllWanted layout work plan q n ws
      → AllSought q ws
  all_sought q n [] h = tt
  all_sought q n (w ∷ ws) h = (h.0.shared, h.0.seeks, all_sought q n ws h.2)

  -- so it does after a word that waits
  pub waits_standing : (q : Processor) (n : NodeMemory) (r : WordOutcome) (resume : Resume)
      (wants : List Want) → q.exit ≡ None → WaitsFor layout work plan Stands q n r resume wants
      → StandsWaiting q r.lane resume wants
  waits_standing q n r resume wants runs w = record {
    runs = runs;
    sought = all_sought q n wants w.wanted;
    resumed = w.resumed;
  }

  -- who waits to write a block stands at a store into it
  pub waiting_stores : (q : Processor) (b : ℕ) (ws : List Want) → AllSought q ws
      → wanted_in layout b ws ≡ Some Write
      → (stands_at_store work.program layout b q.registers q.pc ≡ true)
      ⊎ RunsToStore work.program layout b q.registers q.pc
  waiting_stores q b [] h e = let bad : None ≡ Some Write = e in cc
  waiting_stores q b (w ∷ ws) h e =
      go (is_in_block layout b w.at) refl e (λ is. waiting_stores q b ws h.2 is)
    where
      by : (need : Need) → Seeks work.program q need w.at → is_in_block layout b w.at ≡ true
          → Some need ≡ Some Write → (stands_at_store work.program layout b q.registers q.pc ≡ true)
          ⊎ RunsToStore work.program layout b q.registers q.pc
      by Write seeks here is = seeks layout b here
      by Read seeks here is = let bad : Read ≡ Write = cc in cc

      go : (t : Bool) → is_in_block layout b w.at ≡ t
          → cond t (Some w.need) (wanted_in layout b ws) ≡ Some Write
          → (wanted_in layout b ws ≡ Some Write
          → (stands_at_store work.program layout b q.registers q.pc ≡ true)
          ⊎ RunsToStore work.program layout b q.registers q.pc)
          → (stands_at_store work.program layout b q.registers q.pc ≡ true)
          ⊎ RunsToStore work.program layout b q.registers q.pc
      go true here is later = by w.need h.1 here is
      go false here is later = later is

  -- what is pending was wanted
  pending_among : (wait : ℕ → Option Need) (x : Want) (ws : List Want)
      → IsAmong x (pending layout wait ws) → IsAmong x ws
  pending_among wait x [] h = h
  pending_among wait x (w ∷ ws) h = go (is_pending layout wait w) h (λ g. pending_among wait x ws g)
    where
      go : (t : Bool) → IsAmong x (cond t (w ∷ pending layout wait ws) (pending layout wait ws))
          → (IsAmong x (pending layout wait ws) → IsAmong x ws) → (x ≡ w) ⊎ IsAmong x ws
      go true g later = elim g [ inl e ↦ inl e | inr e ↦ inr (later e) ]
      go false g later = inr (later g)

  pending_sought : (wait : ℕ → Option Need) (q : Processor) (ws : List Want) → AllSought q ws
      → AllSought q (pending layout wait ws)
  pending_sought wait q [] h = h
  pending_sought wait q (w ∷ ws) h = go (is_pending layout wait w) (pending_sought wait q ws h.2)
    where
      go : (t : Bool) → AllSought q (pending layout wait ws)
          → AllSought q (cond t (w ∷ pending layout wait ws) (pending layout wait ws))
      go true later = (h.0, h.1, later)
      go false later = later

  -- where something is pending the processor waits on
  pub waits_on : (wait : ℕ → Option Need) (q : Processor) (l : ProcessorState) (resume : Resume)
      (ws : List Want) → StandsWaiting q l resume ws
      → StandsWaiting q l resume (pending layout wait ws)
  waits_on wait q l resume ws h = record {
    runs = h.runs;
    sought = pending_sought wait q ws h.sought;
    resumed = λ m suits x among granted. h.resumed m suits x (pending_among wait x ws among)
        granted;
  }

  -- a want that isn't pending is of a block that isn't waited for
  pub not_pending : (wait : ℕ → Option Need) (w : Want) (ws : List Want)
      → pending layout wait (w ∷ ws) ≡ [] → (b : ℕ) → block_of layout (line_of w.at) ≡ Some b
      → wait b ≡ None
  not_pending wait w ws none b lies = go (wait b) refl
    where
      go : (o : Option Need) → wait b ≡ o → wait b ≡ None
      go None e = e
      go (Some need) e =
          let here : is_pending layout wait w ≡ true =
          ap (λ o. option_map_or (λ b. is_some (wait b)) o false) lies ∙ ap is_some e in
          let bad : w ∷ pending layout wait ws ≡ [] =
          ap (λ t. cond t (w ∷ pending layout wait ws) (pending layout wait ws)) (sym here)
          ∙ none in cc

  -- where nothing is pending any more the processor goes on: its first want is granted
  pub goes_on : (before wait : ℕ → Option Need) (q : Processor) (l : ProcessorState) (resume : Resume)
      (w : Want) (ws : List Want) (m : NodeMemory) → StandsWaiting q l resume (w ∷ ws)
      → Suits work.program m → ((b : ℕ) → before b ≡ wanted_in layout b (w ∷ ws))
      → ((x : Want) (b : ℕ) → block_of layout (line_of x.at) ≡ Some b → before b ≡ Some x.need
      → wait b ≡ None → grants x.need (m.state (line_of x.at)) ≡ true)
      → pending layout wait (w ∷ ws) ≡ [] → Stands q (lane_resumed l m resume) m
  goes_on before wait q l resume w ws m h suits waits granted none =
      let lies = laid.found (line_of w.at) h.sought.0 in
      let b = lies.0 in
      let here : is_in_block layout b w.at ≡ true =
      ap (λ o. option_map_or (λ c. eqb c b) o false) lies.1 ∙ equal b b refl in
      let first : before b ≡ Some w.need =
      waits b ∙ ap (λ t. cond t (Some w.need) (wanted_in layout b ws)) here in
      h.resumed m suits w (inl refl)
      (granted w b lies.1 first (not_pending wait w ws none b lies.1))

  -- of a want more, by whether it is of the block, and whether it is pending
  abbrev Left : (ℕ → Option Need) → ℕ → Want → List Want → Bool → Bool → Type 0
  Left wait b w ws here left =
      is_in_block layout b w.at ≡ here
      → wanted_in layout b (cond left (w ∷ pending layout wait ws) (pending layout wait ws))
      ≡ cond (is_some (wait b)) (cond here (Some w.need) (wanted_in layout b ws)) None

  pending_more : (wait : ℕ → Option Need) (b : ℕ) (w : Want) (ws : List Want)
      → wanted_in layout b (pending layout wait ws)
      ≡ cond (is_some (wait b)) (wanted_in layout b ws) None
      → (o : Option ℕ) → block_of layout (line_of w.at) ≡ o
      → wanted_in layout b (pending layout wait (w ∷ ws))
      ≡ cond (is_some (wait b)) (wanted_in layout b (w ∷ ws)) None
  pending_more wait b w ws behind = go
    where
      rest : List Want
      rest = pending layout wait ws

      elsewhere : (left : Bool) → Left wait b w ws false left
      elsewhere true e = ap (λ t. cond t (Some w.need) (wanted_in layout b rest)) e ∙ behind
      elsewhere false e = behind

      at_block : (left : Bool) → is_some (wait b) ≡ left → Left wait b w ws true left
      at_block true f e = ap (λ t. cond t (Some w.need) (wanted_in layout b rest)) e
          ∙ sym (ap (λ t. cond t (Some w.need) None) f)
      at_block false f e = behind ∙ ap (λ t. cond t (wanted_in layout b ws) None) f
          ∙ sym (ap (λ t. cond t (Some w.need) None) f)

      by : (d : ℕ) → block_of layout (line_of w.at) ≡ Some d → (here : Bool) → eqb d b ≡ here
          → is_in_block layout b w.at ≡ here → wanted_in layout b (pending layout wait (w ∷ ws))
          ≡ cond (is_some (wait b)) (wanted_in layout b (w ∷ ws)) None
      by d e true f g =
          let left : is_pending layout wait w ≡ is_some (wait b) =
          ap (λ o. option_map_or (λ b. is_some (wait b)) o false) e
          ∙ ap (λ c. is_some (wait c)) (is_same d b f) in
          ap (λ t. wanted_in layout b (cond t (w ∷ rest) rest)) left
          ∙ at_block (is_some (wait b)) refl g
          ∙ ap (λ t. cond (is_some (wait b)) (cond t (Some w.need) (wanted_in layout b ws)) None)
          (sym g)
      by d e false f g =
          elsewhere (is_pending layout wait w) g
          ∙ ap (λ t. cond (is_some (wait b)) (cond t (Some w.need) (wanted_in layout b ws)) None)
          (sym g)

      go : (o : Option ℕ) → block_of layout (line_of w.at) ≡ o
          → wanted_in layout b (pending layout wait (w ∷ ws))
          ≡ cond (is_some (wait b)) (wanted_in layout b (w ∷ ws)) None
      go (Some d) e = by d e (eqb d b) refl (ap (λ o. option_map_or (λ c. eqb c b) o false) e)
      go None e =
          let g : is_in_block layout b w.at ≡ false =
          ap (λ o. option_map_or (λ c. eqb c b) o false) e in
          elsewhere (is_pending layout wait w) g
          ∙ ap (λ t. cond (is_some (wait b)) (cond t (Some w.need) (wanted_in layout b ws)) None)
          (sym g)

  -- what is pending is what is still waited for
  pub pending_wanted : (wait : ℕ → Option Need) (b : ℕ) (ws : List Want)
      → wanted_in layout b (pending layout wait ws)
      ≡ cond (is_some (wait b)) (wanted_in layout b ws) None
  pending_wanted wait b [] = none (is_some (wait b))
    where
      none : (t : Bool) → ◌≡◌ {A = Option Need} None (cond t None None)
      none true = refl
      none false = refl
  pending_wanted wait b (w ∷ ws) =
      pending_more wait b w ws (pending_wanted wait b ws) (block_of layout (line_of w.at)) refl

  itself : (o : Option Need) → o ≡ cond (is_some o) o None
  itself None = refl
  itself (Some need) = refl

  -- a wait stays what it was for, or ends: so what is pending is what the protocol waits for
  pub pending_waits : (before wait : ℕ → Option Need) (ws : List Want)
      → ((b : ℕ) → before b ≡ wanted_in layout b ws)
      → ((b : ℕ) → (wait b ≡ before b) ⊎ (wait b ≡ None)) → (b : ℕ)
      → wait b ≡ wanted_in layout b (pending layout wait ws)
  pending_waits before wait ws waits stays b =
      elim (stays b) [
        | inl e ↦ itself (wait b) ∙ ap (λ o. cond (is_some (wait b)) o None) (e ∙ waits b)
        | inr e ↦ e ∙ sym (ap (λ o. cond (is_some o) (wanted_in layout b ws) None) e)
      ] ∙ sym (pending_wanted wait b ws)
