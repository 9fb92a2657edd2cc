-- What a node's journal and printed bytes tell of its events.
use Rattle.std.proofs.Common.{◌≡◌, ℕ, ◌+◌, ◌-◌, cond, eqb, List, [], ◌∷◌, ◌++◌, map, Option, Some, None, sym, refl, ap, ap₂, ◌∙◌, subst, append_assoc, append-nil, true, false, eqb-true, arith}
use Rattle.node_model.specs.dsm_messages.declared.messages.Wire.{Wire}
use Rattle.node_model.specs.declared.Entry.{Entry as JournalEntry}
use Rattle.node_model.specs.declared.OutByte.{OutByte}
use Rattle.node_model.specs.Node.{Work, Node, opening_node, printed_also, word_outcome, word_step}
use Rattle.node_model.specs.Turns.{words_before, journaled}
use Rattle.run_order.specs.OwnRun.{Stamped, events_of}
use Rattle.run_order.specs.Merge.{Printed, printed_of}
use Rattle.run_order.proofs.History.{LocalEvent, stamped, event_by, byte_by, prints, of, Local}
use Rattle.run_order.proofs.Kept.{Kept, kept, word_kept, take_kept}
use Rattle.run_order.proofs.Moving.{MovesBy, Moves}
use Rattle.run_order.proofs.Journals.{IsTold, read_off, word_told, word_adds, take_told, take_adds}

abbrev told_of : ℕ → Kept → List Stamped
told_of i k = read_off i k.journal k.executed

abbrev printed_in : ℕ → Kept → List Printed
printed_in i k = map (printed_of i) k.output

abbrev Tells : Kept → Type 0
Tells k = IsTold k.journal k.executed k.stamp

-- the node tells of these events more than it did
pub record TellsMore (i : ℕ) (k l : Kept) (events : List Stamped) (more : List Printed)
    : Type 0 where
  pub tells : Tells l
  pub told : told_of i l ≡ told_of i k ++ events
  pub bytes : printed_in i l ≡ printed_in i k ++ more

out_append : (i : ℕ) (xs ys : List OutByte)
    → map (printed_of i) (xs ++ ys) ≡ map (printed_of i) xs ++ map (printed_of i) ys
out_append i [] ys = refl
out_append i (x ∷ xs) ys = ap (λ l. printed_of i x ∷ l) (out_append i xs ys)

byte_more : (i stamp : ℕ) (output : List OutByte) (o : Option ℕ)
    → map (printed_of i) (printed_also output stamp o)
    ≡ map (printed_of i) output ++ byte_by i stamp o
byte_more i stamp output None = sym (append-nil (map (printed_of i) output))
byte_more i stamp output (Some b) =
    out_append i output (record { stamp = stamp; byte = b } ∷ [])

-- the event of a local_event that took this
abbrev told_by : LocalEvent → Option (ℕ × Wire) → Stamped
told_by d o = record { stamp = d.stamp; event = event_by d.node o }

abbrev MoveTells : Node → LocalEvent → Option (ℕ × Wire) → Kept → Type 0
MoveTells s d o k =
    TellsMore d.node (kept s) k (told_by d o ∷ []) (byte_by d.node d.stamp d.byte)

move_tells : (work : Work) (s : Node) (d : LocalEvent) (t : Node) (o : Option (ℕ × Wire))
    → MovesBy work s d t o → Tells (kept s) → MoveTells s d o (kept t)
move_tells work s d t None m h =
    let same : kept t ≡ kept (word_step work s) =
    ap (λ (n : Node). kept n) m.node ∙ word_kept work s in
    let at : d.stamp ≡ s.stamp + 1 = m.stamp ∙ ap (λ (k : Kept). k.stamp) same in
    let more : MoveTells s d None (kept (word_step work s)) = record {
      tells = word_told s.journal s.executed s.stamp h;
      told = word_adds d.node s.journal s.executed s.stamp h
          ∙ ap (λ n. events_of d.node s ++ record { stamp = n; event = event_by d.node None } ∷ [])
          (sym at);
      bytes = byte_more d.node (s.stamp + 1) s.output (word_outcome work s).printed
          ∙ ap₂ (λ n o. map (printed_of d.node) s.output ++ byte_by d.node n o)
          (sym at) (sym m.byte);
    } in
    subst (λ k. MoveTells s d None k) (sym same) more
move_tells work s d t (Some p) m h =
    let same : kept t ≡ kept (journaled s p.0 p.1) =
    ap (λ (n : Node). kept n) m.node ∙ take_kept work s p.0 p.1 in
    let at : d.stamp ≡ (journaled s p.0 p.1).stamp = m.stamp ∙ ap (λ (k : Kept). k.stamp) same in
    let e : JournalEntry = record {
      stamp = (journaled s p.0 p.1).stamp;
      from = p.0;
      words = s.executed - words_before s.journal;
    } in
    let more : MoveTells s d (Some p) (kept (journaled s p.0 p.1)) = record {
      tells = take_told s.journal s.executed s.stamp e h refl;
      told = take_adds d.node s.journal s.executed s.stamp e h refl
          ∙ ap (λ n. events_of d.node s
          ++ record { stamp = n; event = event_by d.node (Some p) } ∷ []) (sym at);
      bytes = sym (append-nil (map (printed_of d.node) s.output))
          ∙ ap (λ o. map (printed_of d.node) s.output ++ byte_by d.node d.stamp o) (sym m.byte);
    } in
    subst (λ k. MoveTells s d (Some p) k) (sym same) more

abbrev pub AreOf : ℕ → List LocalEvent → Type 0
AreOf i [] = Unit {0}
AreOf i (d ∷ ds) = (d.node ≡ i) × AreOf i ds

are_of : (i : ℕ) (ds : List LocalEvent) → AreOf i (of i ds)
are_of i [] = tt
are_of i (d ∷ ds) =
    (elim (eqb d.node i) as (λ b. eqb d.node i ≡ b → AreOf i (cond b (d ∷ of i ds) (of i ds))) [
      | true ↦ (λ e. (eqb-true d.node i e, are_of i ds))
      | false ↦ (λ e. are_of i ds)
    ]) refl

local_tells : (work : Work) (i : ℕ) (ds : List LocalEvent) (s t : Node) → AreOf i ds
    → Local (Moves work) s ds t → Tells (kept s)
    → TellsMore i (kept s) (kept t) (map stamped ds) (prints ds)
local_tells work i [] s t own l h =
    subst (λ (n : Node). TellsMore i (kept s) (kept n) [] []) l (record {
      tells = h;
      told = sym (append-nil (events_of i s));
      bytes = sym (append-nil (map (printed_of i) s.output));
    })
local_tells work i (d ∷ ds) s t own l h =
    let one =
    subst (λ k. TellsMore k (kept s) (kept l.0) (stamped d ∷ []) (byte_by d.node d.stamp d.byte))
    own.0 (move_tells work s d l.0 d.took l.1 h) in
    let more = local_tells work i ds l.0 t own.1 l.2 one.tells in
    record {
      tells = more.tells;
      told = more.told ∙ ap (λ x. x ++ map stamped ds) one.told
          ∙ append_assoc (events_of i s) (stamped d ∷ []) (map stamped ds);
      bytes = more.bytes ∙ ap (λ x. x ++ prints ds) one.bytes
          ∙ append_assoc (map (printed_of i) s.output) (byte_by d.node d.stamp d.byte) (prints ds);
    }

-- the events of node i, which it made alone, are what it tells of after
pub node_tells : (work : Work) (i : ℕ) (ds : List LocalEvent) (s t : Node)
    → Local (Moves work) s (of i ds) t → Tells (kept s)
    → TellsMore i (kept s) (kept t) (map stamped (of i ds)) (prints (of i ds))
node_tells work i ds s t l h = local_tells work i (of i ds) s t (are_of i ds) l h

pub opening_tells : (work : Work) (i : ℕ) → Tells (kept (opening_node work i))
opening_tells work i = record { before = omega arith; stamp = refl }
