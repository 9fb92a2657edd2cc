-- A word that sends nothing, and behind which its node may go on, changes a clock and no other time.
use Rattle.std.proofs.Common.{◌≡◌, ℕ, ◌+◌, ◌-◌, ◌<◌, Bool, true, false, cond, eqb, List, [], ◌∷◌, map, Option, Some, None, refl, sym, ap, ◌∙◌, subst, inl, inr, arith}
use Rattle.std.proofs.lemmas.Bool.Decides.{eqb_tells}
use Rattle.block_layout.specs.Layout.{Shape}
use Rattle.dsm_core.specs.home_directory.Table.{Miss}
use Rattle.dsm_core.specs.dsm_messages.declared.messages.Need.{Need}
use Rattle.dsm_core.specs.dsm_messages.Headers.{sent_by}
use Rattle.dsm_core.specs.node_machine.Wanted.{wants_along, wants_of_word}
use Rattle.dsm_core.specs.node_model.declared.Standing.{Standing}
use Rattle.dsm_core.specs.node_model.declared.Standing.TheVariants.{Running, AtPoll}
use Rattle.dsm_core.specs.node_model.Node.{Work, Node, Want, Move, Next, Again, To, Enters, Waits, Leaves, phase_after, standing_in, standing_of, word_outcome}
use Rattle.dsm_core.specs.node_model.Turns.{Turn, want_in, want_all, with_miss, with_byes, each_block_once, wants_of, after_word, after_wants, word_turn, is_ended}
use Rattle.dsm_core.specs.node_model.Core.{Core, Exec, May, may_execute}
use Rattle.dsm_core.specs.CoreParts.{work_of, core_of}
use Rattle.dsm_core.specs.CoreWords.{HasPassed}
use Rattle.dsm_core.specs.Seen.{sends_at, wants_at}
use Rattle.run_trace.specs.Committing.{IsSilentNode}
use Rattle.timed_sim.specs.declared.costs.Costs.{Costs}
use Rattle.timed_sim.specs.declared.costs.Spent.{Spent}
use Rattle.timed_sim.specs.declared.run.TimedRun.{TimedRun}
use Rattle.timed_sim.specs.Clock.{Due, Times, clock_of, with_gap, with_event, times_by}
use Rattle.timed_sim.specs.Stored.{AreSameTimes, HasMade, one_word_more, times_in, times_of, with_word}
use Rattle.timed_sim.proofs.Next.{IsNextAt}
use Rattle.timed_sim.proofs.Made.{made_by}
use Rattle.timed_sim.proofs.Running.{same_also}

-- 1. It wants nothing

miss_phase : (layout : Shape) (b : ℕ) (need : Need) (t : Turn) (m : Option Miss)
    → (with_miss layout b need t m).node.phase ≡ t.node.phase
miss_phase layout b need t None = refl
miss_phase layout b need t (Some m) = refl

want_phase : (layout : Shape) (t : Turn) (need : Need) (b : Option ℕ)
    → (want_in layout t need b).node.phase ≡ t.node.phase
want_phase layout t need None = refl
want_phase layout t need (Some b) = miss_phase layout b need t _

wants_phase : (layout : Shape) (ws : List Want) (t : Turn)
    → (want_all layout t ws).node.phase ≡ t.node.phase
wants_phase layout [] t = refl
wants_phase layout (w ∷ ws) t = wants_phase layout ws _ ∙ want_phase layout t w.need _

byes_phase : (nodes : ℕ) (t : Turn) (b : Bool) → (with_byes nodes t b).node.phase ≡ t.node.phase
byes_phase nodes t false = refl
byes_phase nodes t true = refl

word_phase : (work : Work) (n : Node) → (word_turn work n).node.phase
    ≡ phase_after work.budget (n.executed + 1) (word_outcome work n).move
word_phase work n =
    byes_phase work.layout.nodes (after_wants work n) (is_ended (after_wants work n).node.phase)
    ∙ wants_phase work.layout (each_block_once work.layout (wants_of (word_outcome work n).move))
    (after_word work n)

no_wants : (work : Work) (n : Node) (t : Turn) (budget executed : ℕ) (m : Move)
    → may_execute (standing_in work n (phase_after budget executed m)) ≡ true
    → wants_along work.layout t (each_block_once work.layout (wants_of m)) ≡ []
no_wants work n t budget executed Next may = refl
no_wants work n t budget executed Again may = refl
no_wants work n t budget executed (To a) may = refl
no_wants work n t budget executed (Enters a) may = refl
no_wants work n t budget executed (Waits resume want more) may = absurd (cc)
no_wants work n t budget executed (Leaves e) may = refl

-- it leaves its node as its turn does, which may execute another
passed_node : (work : Work) (i : ℕ) (c d : Core) → i < work.layout.nodes → HasPassed work i c d
    → d.nodes i ≡ (word_turn work (c.nodes i)).node
passed_node work i c d low p =
    let n = c.nodes i in
    let next = (word_turn work n).node in
    let same : eqb i i ≡ true = elim (eqb_tells i i) [ inl t ↦ t.0 | inr t ↦ absurd (t.1 refl) ] in
    p.event.nodes i low ∙ ap (λ b. cond b next n) same

pub passed_silent : (work : Work) (i : ℕ) (c d : Core) → i < work.layout.nodes
    → HasPassed work i c d → IsSilentNode work (c.nodes i)
passed_silent work i c d low p = record {
  turn = p.silent;
  may = subst (λ (n : Node). may_execute (standing_of work n) ≡ true) (passed_node work i c d low p)
      p.may.1;
}

passed_wants : (work : Work) (i : ℕ) (c d : Core) → i < work.layout.nodes → HasPassed work i c d
    → wants_of_word work (c.nodes i) ≡ []
passed_wants work i c d low p =
    let n = c.nodes i in
    let here = passed_node work i c d low p in
    let phase = ap (λ (x : Node). x.phase) here ∙ word_phase work n in
    no_wants work (d.nodes i) (after_word work n) work.budget (n.executed + 1)
    (word_outcome work n).move
    (sym (ap (λ z. may_execute (standing_in work (d.nodes i) z)) phase) ∙ p.may.1)

-- 2. It changes a clock alone

no_gap : (s : Standing) (need : Need) (x : Spent) → may_execute s ≡ true → with_gap s need 0 x ≡ x
no_gap Running need x may =
    let e : x.idle + 0 ≡ x.idle = omega arith in λ t. record x { idle = e t }
no_gap AtPoll need x may =
    let e : x.idle + 0 ≡ x.idle = omega arith in λ t. record x { idle = e t }
no_gap other need x may = absurd (cc)

word_spent : (costs : Costs) (i : ℕ) (s : Standing) (need : Need) (x : Spent) → may_execute s ≡ true
    → with_event costs (Exec i) (with_gap s need (clock_of x - clock_of x) x) ≡ one_word_more x
word_spent costs i s need x may =
    let none : clock_of x - clock_of x ≡ 0 = omega arith in
    ap one_word_more (ap (λ gap. with_gap s need gap x) none ∙ no_gap s need x may)

same_if : {X : Type 0} (b : Bool) (x : X) → cond b x x ≡ x
same_if true x = refl
same_if false x = refl

abbrev pub word_due : Times → (i : ℕ) → Due
word_due times i = record { time = clock_of (times.spent i); event = Exec i }

word_times : (costs : Costs) (layout : Shape) (s : Standing) (times : Times) (i n : ℕ)
    → may_execute s ≡ true → AreSameTimes n (with_word i times)
    (times_by costs layout s [] [] times (word_due times i))
word_times costs layout s times i n may =
    let one = word_spent costs i s (times.needs i) (times.spent i) may in
    record {
      spent = λ k low. ap (λ z. cond (eqb k i) z (times.spent k)) (sym one);
      needs = λ k low. elim (eqb_tells k i) [
        | inl t ↦ rw t.0 (ap times.needs t.1)
        | inr t ↦ rw t.0 refl
      ];
      arrivals = λ j k below low. sym (same_if (eqb j i) (times.arrivals j k));
    }

pub word_made_at : (costs : Costs) (work : Work) (times new_times : Times) (c new : Core) (i : ℕ)
    → May work c (Exec i) → HasPassed work i c new
    → AreSameTimes work.layout.nodes new_times (with_word i times)
    → HasMade costs work times c (word_due times i) new_times new
word_made_at costs work times new_times c new i may p same =
    let standing = standing_of work (c.nodes i) in
    let wants : wants_at work c (Exec i) ≡ [] = passed_wants work i c new may.0 p in
    let sends : sends_at work c (Exec i) ≡ [] = ap (λ (t : Turn). t.sends) p.silent in
    let after = times_by costs work.layout standing [] [] times (word_due times i) in
    made_by costs work times new_times c new (word_due times i) standing [] [] p.event refl
    (sym wants) (ap (map sent_by) (sym sends))
    (same_also work.layout.nodes new_times (with_word i times) after same
    (word_times costs work.layout standing times i work.layout.nodes may.1))

pub word_made : (costs : Costs) (old new : TimedRun) (i : ℕ) (d : Due)
    → work_of new.core ≡ work_of old.core
    → HasPassed (work_of old.core) i (core_of old.core) (core_of new.core) → d.event ≡ Exec i
    → IsNextAt (work_of old.core) (times_in old) (core_of old.core) d
    → AreSameTimes old.core.layout.nodes (times_of old.core.layout.nodes new.clocks)
    (with_word i (times_in old))
    → HasMade costs (work_of old.core) (times_in old) (core_of old.core) d (times_in new)
    (core_of new.core)
word_made costs old new i d same p here is times =
    let work = work_of old.core in
    let c = core_of old.core in
    let time = is.word i here in
    let due : d ≡ word_due (times_in old) i = λ t. record { time = time t; event = here t } in
    subst (λ (x : Due). HasMade costs work (times_in old) c x (times_in new) (core_of new.core))
    (sym due) (word_made_at costs work (times_in old) (times_in new) c (core_of new.core) i
    (subst (May work c) here is.may) p
    (subst (λ m. AreSameTimes work.layout.nodes (times_of m new.clocks) (with_word i (times_in old)))
    (sym (ap (λ (w : Work). w.layout.nodes) same)) times))
