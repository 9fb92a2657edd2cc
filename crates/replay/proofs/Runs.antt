-- Runs on their way, one event after another.
use Rattle.std.proofs.Common.{◌≡◌, ◌≢◌, ℕ, ◌+◌, ◌<◌, ◌≤◌, Bool, true, false, List, [], ◌∷◌, ◌++◌, Err, IsErrOf, sym, refl, ap, ◌∙◌, subst}
use Rattle.dsm_core.specs.dsm_messages.declared.messages.Wire.{Wire}
use Rattle.run_order.specs.node_model.declared.Entry.{Entry as JournalEntry}
use Rattle.run_order.specs.node_model.Node.{Work, Node}
use Rattle.run_order.specs.node_model.Core.{Core, Exec, Take, May, AreAlike, event_step, opening_core}
use Rattle.run_record.specs.declared.Record.{Record}
use Rattle.run_record.specs.Record.{IsRecord}
use Rattle.dsm_core.specs.CoreParts.{CoreParts, work_of, core_of}
use Rattle.dsm_core.proofs.CoreRuns.{alike_same}
use Rattle.replay.specs.declared.cursor.Cursors.{Cursors}
use Rattle.replay.specs.declared.events.Replayer.{Replayer}
use Rattle.replay.specs.declared.refused.ReplayRefused.{ReplayRefused}
use Rattle.replay.specs.declared.refused.ReplayRefused.TheVariants.{Broken}
use Rattle.replay.specs.declared.refused.ReplayRule.{ReplayRule}
use Rattle.replay.specs.declared.refused.ReplayRule.TheVariants.{NoMessage, NotThere, Stamp}
use Rattle.replay.specs.Told.{Told, told_in, entries_of, stamp_told, maker_told}
use Rattle.replay.specs.Refusals.{IsFirstBroken}
use Rattle.replay.specs.Way.{cursor_at, left_at, last_at, IsEntryOf, ComesFirst, HasFollowed, IsBehind, IsRunning, HasMade, IsSame}
use Rattle.replay.proofs.Sorting.{merged}
use Rattle.replay.proofs.Journals.{rising_in, behind_takes}
use Rattle.replay.proofs.Made.{word_at}
use Rattle.replay.proofs.Way.{IsAhead, IsStep, AreNow, step_on, word_broken, lacks, take_broken, stamp_broken}
use Rattle.replay.proofs.Cursors.{word_next, take_next, behind_word, behind_take, after_word, after_take, word_ahead, take_ahead, word_now, take_now, word_lawful, take_lawful, all_takes, lawful_entry}

-- 1. The start

pub begins : (work : Work) (w : Cursors) (c : Core) → IsRecord w.rec.now
    → ((i : ℕ) → left_at w i ≡ told_in i 1 0 (entries_of w.rec.now i))
    → ((i : ℕ) → last_at w i ≡ 0) → work.layout.nodes ≡ w.rec.now.nodes → c ≡ opening_core work
    → IsBehind work w.rec.now (left_at w) (last_at w) c []
begins work w c is left last n opens =
    let r = w.rec.now in
    let rising = λ (i : ℕ) (bi : i < r.nodes). rising_in i 1 0 (entries_of r i)
    (behind_takes r.nodes 0 (entries_of r i) (all_takes r is i bi)) in
    let all = merged stamp_told maker_told r.nodes (λ i. told_in i 1 0 (entries_of r i))
    (λ i bi. ((rising i bi).own, (rising i bi).climbs)) in
    record {
      rest = all.0;
      are_told = all.1;
      made = tt;
      alike = subst (λ (z : Core). AreAlike work.layout.nodes z (opening_core work)) (sym opens)
          (alike_same work.layout.nodes (opening_core work));
      each = λ i bi. all.1.each i (subst (λ k. i < k) n bi) ∙ sym (left i);
      stamps = λ i bi. ap (λ (z : Core). (z.nodes i).stamp) opens ∙ sym (last i);
    }

-- 2. Events

word_step_of : (a b : Replayer) (i : ℕ) → IsRunning a → i < a.cursors.rec.now.nodes
    → May (work_of a.core) (core_of a.core) (Exec i) → AreAlike a.core.layout.nodes (core_of b.core)
    (event_step (work_of a.core) (core_of a.core) (Exec i))
    → IsStep (work_of a.core) (core_of a.core) (core_of b.core) i (word_next a.cursors i)
word_step_of a b i is bi may leads = record {
  made = record {
    may = may;
    stamp = word_at (work_of a.core) (core_of a.core) i
        ∙ ap (λ k. k + 1) (is.way.1.stamps i (subst (λ k. i < k) (sym is.nodes) bi));
  };
  leads = leads;
}

on_way : (a b : Replayer) (i : ℕ) (x : Told) (more before : List Told) → HasMade a before
    → IsAhead a.cursors.rec.now.nodes (left_at a.cursors) i x more
    → IsStep (work_of a.core) (core_of a.core) (core_of b.core) i x
    → AreNow i x more (left_at a.cursors) (left_at b.cursors) (last_at a.cursors) (last_at b.cursors)
    → work_of b.core ≡ work_of a.core → b.cursors.rec.now ≡ a.cursors.rec.now
    → IsBehind (work_of b.core) b.cursors.rec.now (left_at b.cursors) (last_at b.cursors)
    (core_of b.core) (before ++ x ∷ [])
on_way a b i x more before is ahead step now work rec =
    subst (λ (w : Work). IsBehind w b.cursors.rec.now (left_at b.cursors) (last_at b.cursors)
    (core_of b.core) (before ++ x ∷ [])) (sym work)
    (subst (λ (r : Record). IsBehind (work_of a.core) r (left_at b.cursors) (last_at b.cursors)
    (core_of b.core) (before ++ x ∷ [])) (sym rec)
    (step_on (work_of a.core) a.cursors.rec.now (left_at a.cursors) (left_at b.cursors)
    (last_at a.cursors) (last_at b.cursors) (core_of a.core) (core_of b.core) i x more
    (sym is.nodes) (before, is.way)
    (subst (λ k. IsAhead k (left_at a.cursors) i x more) (sym is.nodes) ahead) step now))

-- of the events that a run has made, nothing but that there are some
pub running_of : (r : Replayer) (before : List Told) → HasMade r before → IsRunning r
running_of r before h = record { lawful = h.lawful; nodes = h.nodes; way = (before, h.way) }

pub made_of : (r : Replayer) (is : IsRunning r) → HasMade r is.way.0
made_of r is = record { lawful = is.lawful; nodes = is.nodes; way = is.way.1 }

nodes_on : (a b : Replayer) → IsRunning a → work_of b.core ≡ work_of a.core
    → b.cursors.rec.now ≡ a.cursors.rec.now → b.core.layout.nodes ≡ b.cursors.rec.now.nodes
nodes_on a b is work rec = ap (λ (w : Work). w.layout.nodes) work ∙ is.nodes
    ∙ ap (λ (r : Record). r.nodes) (sym rec)

pub made_word : (a b : Replayer) (before : List Told) (i : ℕ) (e : JournalEntry)
    → HasMade a before → i < a.cursors.rec.now.nodes → IsEntryOf a.cursors i e
    → (cursor_at a.cursors i).words < e.words
    → ComesFirst a.cursors a.cursors.rec.now.nodes (last_at a.cursors i + 1) i
    → May (work_of a.core) (core_of a.core) (Exec i) → AreAlike a.core.layout.nodes (core_of b.core)
    (event_step (work_of a.core) (core_of a.core) (Exec i)) → work_of b.core ≡ work_of a.core
    → HasFollowed a.cursors i (after_word a.cursors i) b.cursors
    → HasMade b (before ++ word_next a.cursors i ∷ [])
made_word a b before i e h bi entry lt first may leads work f =
    let is : IsRunning a = running_of a before h in
    record {
      lawful = word_lawful a.cursors b.cursors i e bi is.lawful entry lt f;
      nodes = nodes_on a b is work f.rec_is;
      way = on_way a b i (word_next a.cursors i) (behind_word a.cursors i) before h
          (word_ahead a.cursors is.lawful i bi e entry lt first)
          (word_step_of a b i is bi may leads) (word_now a.cursors b.cursors i f) work f.rec_is;
    }

pub run_word : (a b : Replayer) (i : ℕ) (e : JournalEntry) → IsRunning a
    → i < a.cursors.rec.now.nodes → IsEntryOf a.cursors i e
    → (cursor_at a.cursors i).words < e.words
    → ComesFirst a.cursors a.cursors.rec.now.nodes (last_at a.cursors i + 1) i
    → May (work_of a.core) (core_of a.core) (Exec i) → AreAlike a.core.layout.nodes (core_of b.core)
    (event_step (work_of a.core) (core_of a.core) (Exec i)) → work_of b.core ≡ work_of a.core
    → HasFollowed a.cursors i (after_word a.cursors i) b.cursors → IsRunning b
run_word a b i e is bi entry lt first may leads work f =
    running_of b (is.way.0 ++ word_next a.cursors i ∷ [])
    (made_word a b is.way.0 i e (made_of a is) bi entry lt first may leads work f)

pub made_take : (a b : Replayer) (before : List Told) (i : ℕ) (e : JournalEntry)
    → HasMade a before → i < a.cursors.rec.now.nodes → IsEntryOf a.cursors i e
    → e.words ≤ (cursor_at a.cursors i).words
    → ComesFirst a.cursors a.cursors.rec.now.nodes e.stamp i
    → May (work_of a.core) (core_of a.core) (Take i e.from)
    → AreAlike a.core.layout.nodes (core_of b.core)
    (event_step (work_of a.core) (core_of a.core) (Take i e.from))
    → ((core_of b.core).nodes i).stamp ≡ e.stamp → work_of b.core ≡ work_of a.core
    → HasFollowed a.cursors i (after_take a.cursors i e) b.cursors
    → HasMade b (before ++ take_next a.cursors i e ∷ [])
made_take a b before i e h bi entry le first may leads stamp work f =
    let is : IsRunning a = running_of a before h in
    record {
      lawful = take_lawful a.cursors b.cursors i e bi is.lawful entry f;
      nodes = nodes_on a b is work f.rec_is;
      way = on_way a b i (take_next a.cursors i e) (behind_take a.cursors i e) before h
          (take_ahead a.cursors is.lawful i bi e entry le first) (record {
            made = record {
              may = may;
              stamp = ap (λ (n : Node). n.stamp) (sym (leads.nodes i
                  (subst (λ k. i < k) (sym is.nodes) bi))) ∙ stamp;
            };
            leads = leads;
          }) (take_now a.cursors b.cursors i e f) work f.rec_is;
    }

pub run_take : (a b : Replayer) (i : ℕ) (e : JournalEntry) → IsRunning a
    → i < a.cursors.rec.now.nodes → IsEntryOf a.cursors i e
    → e.words ≤ (cursor_at a.cursors i).words
    → ComesFirst a.cursors a.cursors.rec.now.nodes e.stamp i
    → May (work_of a.core) (core_of a.core) (Take i e.from)
    → AreAlike a.core.layout.nodes (core_of b.core)
    (event_step (work_of a.core) (core_of a.core) (Take i e.from))
    → ((core_of b.core).nodes i).stamp ≡ e.stamp → work_of b.core ≡ work_of a.core
    → HasFollowed a.cursors i (after_take a.cursors i e) b.cursors → IsRunning b
run_take a b i e is bi entry le first may leads stamp work f =
    running_of b (is.way.0 ++ take_next a.cursors i e ∷ [])
    (made_take a b is.way.0 i e (made_of a is) bi entry le first may leads stamp work f)

-- the stamp of a node, by where its journal was followed to
pub stamp_now : (a b : Replayer) (i : ℕ) (before : List Told) → HasMade b before
    → b.cursors.rec.now ≡ a.cursors.rec.now → i < a.cursors.rec.now.nodes
    → ((core_of b.core).nodes i).stamp ≡ last_at b.cursors i
stamp_now a b i before h rec bi = h.way.stamps i
    (subst (λ k. i < k) (ap (λ (r : Record). r.nodes) (sym rec) ∙ sym h.nodes) bi)

-- a node's journal has one next entry
pub entry_one : (w : Cursors) (i : ℕ) (e f : JournalEntry) → IsEntryOf w i e → IsEntryOf w i f
    → e ≡ f
entry_one w i e f p q = let same = sym p ∙ q in cc

-- 3. Refusals

abbrev pub Refused : Replayer → ReplayRule → (node : ℕ) → Type 0
Refused a rule i = IsFirstBroken (work_of a.core) a.cursors.rec.now rule i
    ((cursor_at a.cursors i).takes + 1)

ahead_in : (a : Replayer) (i : ℕ) (x : Told) (more : List Told) → IsRunning a
    → IsAhead a.cursors.rec.now.nodes (left_at a.cursors) i x more
    → IsAhead a.core.layout.nodes (left_at a.cursors) i x more
ahead_in a i x more is ahead = subst (λ k. IsAhead k (left_at a.cursors) i x more) (sym is.nodes) ahead

pub word_refused : (a : Replayer) (i : ℕ) (e : JournalEntry) → IsRunning a
    → i < a.cursors.rec.now.nodes → IsEntryOf a.cursors i e
    → (cursor_at a.cursors i).words < e.words
    → ComesFirst a.cursors a.cursors.rec.now.nodes (last_at a.cursors i + 1) i
    → (May (work_of a.core) (core_of a.core) (Exec i) → ⊥) → Refused a NotThere i
word_refused a i e is bi entry lt first not =
    let x = word_next a.cursors i in let more = behind_word a.cursors i in
    word_broken (work_of a.core) a.cursors.rec.now (left_at a.cursors) (last_at a.cursors)
    (core_of a.core) i x more (sym is.nodes) is.way
    (ahead_in a i x more is (word_ahead a.cursors is.lawful i bi e entry lt first)) refl not

take_in : (a : Replayer) (i : ℕ) (e : JournalEntry) → IsRunning a
    → i < a.cursors.rec.now.nodes → IsEntryOf a.cursors i e
    → e.words ≤ (cursor_at a.cursors i).words
    → ComesFirst a.cursors a.cursors.rec.now.nodes e.stamp i
    → IsAhead a.core.layout.nodes (left_at a.cursors) i (take_next a.cursors i e)
    (behind_take a.cursors i e)
take_in a i e is bi entry le first = ahead_in a i (take_next a.cursors i e)
    (behind_take a.cursors i e) is (take_ahead a.cursors is.lawful i bi e entry le first)

pub take_lacks : (a : Replayer) (i : ℕ) (e : JournalEntry) → IsRunning a
    → i < a.cursors.rec.now.nodes → IsEntryOf a.cursors i e
    → e.words ≤ (cursor_at a.cursors i).words
    → ComesFirst a.cursors a.cursors.rec.now.nodes e.stamp i → e.from < a.core.layout.nodes
    → (core_of a.core).list e.from i ≡ [] → Refused a NoMessage i
take_lacks a i e is bi entry le first bj none =
    lacks (work_of a.core) a.cursors.rec.now (left_at a.cursors) (last_at a.cursors)
    (core_of a.core) i e.from (take_next a.cursors i e) (behind_take a.cursors i e) (sym is.nodes)
    is.way (take_in a i e is bi entry le first) refl bj none

pub take_refused : (a : Replayer) (i : ℕ) (e : JournalEntry) → IsRunning a
    → i < a.cursors.rec.now.nodes → IsEntryOf a.cursors i e
    → e.words ≤ (cursor_at a.cursors i).words
    → ComesFirst a.cursors a.cursors.rec.now.nodes e.stamp i → e.from < a.core.layout.nodes
    → (core_of a.core).list e.from i ≢ []
    → (May (work_of a.core) (core_of a.core) (Take i e.from) → ⊥) → Refused a NotThere i
take_refused a i e is bi entry le first bj some not =
    take_broken (work_of a.core) a.cursors.rec.now (left_at a.cursors) (last_at a.cursors)
    (core_of a.core) i e.from (take_next a.cursors i e) (behind_take a.cursors i e) (sym is.nodes)
    is.way (take_in a i e is bi entry le first) refl bj some not

pub stamp_refused : (a : Replayer) (d : Core) (i : ℕ) (e : JournalEntry) → IsRunning a
    → i < a.cursors.rec.now.nodes → IsEntryOf a.cursors i e
    → e.words ≤ (cursor_at a.cursors i).words
    → ComesFirst a.cursors a.cursors.rec.now.nodes e.stamp i
    → May (work_of a.core) (core_of a.core) (Take i e.from) → AreAlike a.core.layout.nodes d
    (event_step (work_of a.core) (core_of a.core) (Take i e.from))
    → (d.nodes i).stamp ≢ e.stamp → Refused a Stamp i
stamp_refused a d i e is bi entry le first may leads other =
    stamp_broken (work_of a.core) a.cursors.rec.now (left_at a.cursors) (last_at a.cursors)
    (core_of a.core) i e.from (take_next a.cursors i e) (behind_take a.cursors i e) (sym is.nodes)
    is.way (take_in a i e is bi entry le first) refl may
    (λ same. other (ap (λ (n : Node). n.stamp)
    (leads.nodes i (subst (λ k. i < k) (sym is.nodes) bi)) ∙ same))

-- 4. The same run

pub same_none : (a : Replayer) → IsSame a a
same_none a = record { work = refl; rec_is = refl }

pub same_also : (a b c : Replayer) → IsSame a b → IsSame b c → IsSame a c
same_also a b c p q = record { work = q.work ∙ p.work; rec_is = q.rec_is ∙ p.rec_is }

pub broken_same : (a b : Replayer) (rule : ReplayRule) (i n : ℕ) → IsSame a b
    → IsFirstBroken (work_of b.core) b.cursors.rec.now rule i n
    → IsFirstBroken (work_of a.core) a.cursors.rec.now rule i n
broken_same a b rule i n same h =
    subst (λ (w : Work). IsFirstBroken w a.cursors.rec.now rule i n) same.work
    (subst (λ (r : Record). IsFirstBroken (work_of b.core) r rule i n) same.rec_is h)

-- the refusal is this one
pub err_same : (T : Type 0) (P : ReplayRule → ℕ → ℕ → Type 0) (r : ReplayRefused)
    (rule other : ReplayRule) (i j n m : ℕ) → r ≡ Broken rule i n
    → IsErrOf {T = T} {E = ReplayRefused} (Err r) (Broken other j m) → P rule i n → P other j m
err_same T P r rule other i j n m is err h =
    let e : r ≡ Broken other j m = cc in
    let all : Broken rule i n ≡ Broken other j m = sym is ∙ e in
    let a : rule ≡ other = cc in
    let b : i ≡ j = cc in
    let d : n ≡ m = cc in
    subst (λ x. P x j m) a (subst (λ x. P rule x m) b (subst (λ x. P rule i x) d h))

pub no_wire : (ws : List Wire) (b : Bool) → (ws ≢ [] → b ≡ true) → b ≡ false → ws ≡ []
no_wire [] b f e = refl
no_wire (w ∷ ws) b f e = absurd
    (let some : w ∷ ws ≢ [] = λ z. absurd cc in let g : true ≡ false = sym (f some) ∙ e in cc)

pub not_true : (b : Bool) → b ≡ true → b ≡ false → ⊥
not_true b t f = let e : true ≡ false = sym t ∙ f in cc

pub from_below : (a : Replayer) (i : ℕ) (e : JournalEntry) → IsRunning a → i < a.cursors.rec.now.nodes
    → IsEntryOf a.cursors i e → e.from < a.core.layout.nodes
from_below a i e is bi entry = subst (λ k. e.from < k) (sym is.nodes)
    (lawful_entry a.cursors i e bi is.lawful entry).from

-- 5. A step behind a word that could not be passed

pub step_behind : (p q s : CoreParts) (i : ℕ) → core_of q ≡ core_of p → work_of q ≡ work_of p
    → AreAlike q.layout.nodes (core_of s) (event_step (work_of q) (core_of q) (Exec i))
    → AreAlike p.layout.nodes (core_of s) (event_step (work_of p) (core_of p) (Exec i))
step_behind p q s i kept work h =
    subst (λ (w : Work). AreAlike w.layout.nodes (core_of s) (event_step w (core_of p) (Exec i))) work
    (subst (λ (z : Core). AreAlike q.layout.nodes (core_of s) (event_step (work_of q) z (Exec i)))
    kept h)

pub may_behind : (p q : CoreParts) (i : ℕ) → core_of q ≡ core_of p → work_of q ≡ work_of p
    → May (work_of p) (core_of p) (Exec i) → May (work_of q) (core_of q) (Exec i)
may_behind p q i kept work h =
    subst (λ (w : Work). May w (core_of q) (Exec i)) (sym work)
    (subst (λ (z : Core). May (work_of p) z (Exec i)) (sym kept) h)
