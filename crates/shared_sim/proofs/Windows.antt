-- Turns in which no message is on its way, and each event is a word that prints and sends nothing.
use Rattle.std.proofs.Common.{◌≡◌, ◌≢◌, ℕ, zero, suc, ◌+◌, ◌/◌, ◌<◌, ◌≤◌, Bool, true, false, cond, if◌then◌else◌, List, [], ◌∷◌, length, Option, Some, refl, sym, ap, ◌∙◌, subst, inl, inr, arith}
use Rattle.std.specs.Prelude.{slice_get}
use Rattle.std.proofs.Math.Nat.{mod-lt}
use Rattle.std.proofs.lemmas.Bool.Decides.{eqb_tells}
use Rattle.random_order.specs.Orders.{following, choice, after_turns}
use Rattle.dsm_core.specs.node_model.Node.{Work, Node, Phase, Running, Resumed, Waiting, Ended, standing_of, standing_in, is_at_poll, can_execute}
use Rattle.dsm_core.specs.node_model.declared.Standing.TheVariants as standing
use Rattle.dsm_core.specs.node_model.Turns.{silent, word_turn}
use Rattle.dsm_core.specs.node_model.Core.{Core, Event, Exec, Take, May, AreAlike, may_execute, may_take, after}
use Rattle.dsm_core.specs.node_machine.Runs.{GoesOnBy}
use Rattle.dsm_core.specs.CoreParts.{CoreParts, work_of, core_of}
use Rattle.dsm_core.specs.CoreWords.{HaveEachPassed}
use Rattle.shared_sim.specs.ByOrder.{has_wire, is_allowed, choices, pick_among}
use Rattle.shared_sim.specs.Listing.{IsCalm, Lists}
use Rattle.shared_sim.specs.declared.listing.Listing.{Listing}
use Rattle.shared_sim.specs.Turns.{ArePicked, LeadsOn}
use Rattle.shared_sim.specs.Windows.{is_word_of, picks_of}
use Rattle.shared_sim.proofs.Choices.{IsBelow, and_false, choice_may, kept_choices, kept_list, kept_node, after_word, IsSilent}
use Rattle.shared_sim.proofs.Rows.{lists_kept}

-- 1. Each node's words, one after another, as the order picks them

abbrev one_if : Bool → ℕ
one_if b = if b then 1 else 0

at_poll : (b : Bool) → may_execute (cond b standing.AtPoll standing.Running) ≡ true
at_poll true = refl
at_poll false = refl

may_by : (work : Work) (n : Node) (p : Phase) → can_execute p ≡ true
    → may_execute (standing_in work n p) ≡ true
may_by work n Running can = at_poll (is_at_poll work n)
may_by work n Resumed can = refl
may_by work n other can = absurd (cc)

-- a node that goes on by words may execute the first of them; where there is none it is the last
goes_may : (work : Work) (k : ℕ) (n m : Node) → GoesOnBy work k n m
    → may_execute (standing_of work m) ≡ true → may_execute (standing_of work n) ≡ true
goes_may work zero n m on may = ap (λ (z : Node). may_execute (standing_of work z)) on ∙ may
goes_may work (suc k) n m on may = may_by work n n.phase on.0

-- what the nodes are to do in so many turns, and where it leads
record IsWindow (work : Work) (turns number : ℕ) (words : ℕ → ℕ) (c d : Core) : Type 0 where
  pub calm : IsCalm work.layout.nodes c
  pub some : 1 ≤ length (choices work c)
  pub are : (i : ℕ) → i < work.layout.nodes → words i ≡ picks_of i (choices work c) turns number
  pub nodes : (i : ℕ) → i < work.layout.nodes → GoesOnBy work (words i) (c.nodes i) (d.nodes i)
  pub may : (i : ℕ) → May work c (Exec i) → may_execute (standing_of work (d.nodes i)) ≡ true
  pub lists : (j i : ℕ) → j < work.layout.nodes → i < work.layout.nodes → d.list j i ≡ c.list j i

-- where no message is on its way each choice is a word
only_words : (work : Work) (c : Core) (e : Event) → IsCalm work.layout.nodes c → May work c e
    → (i : ℕ) × (e ≡ Exec i)
only_words work c (Exec i) calm may = (i, refl)
only_words work c (Take i j) calm may = absurd (may.3 (calm i may.0 j may.1))

get_within : {A : Type 0} (xs : List A) (k : ℕ) → k < length xs → (x : A) × (slice_get xs k ≡ Some x)
get_within [] k low = absurd (omega (arith, low))
get_within (x ∷ xs) zero low = (x, refl)
get_within (x ∷ xs) (suc k) low = get_within xs k (omega (arith, low))

picked_word : (work : Work) (c : Core) (number : ℕ) → IsCalm work.layout.nodes c
    → 1 ≤ length (choices work c)
    → (i : ℕ) × (pick_among (choices work c) number ≡ Some (Exec i)) × May work c (Exec i)
picked_word work c number calm some =
    let es = choices work c in
    let k = choice (length es) number in
    let low : k < length es = mod-lt (number / 65536) some in
    let here = get_within es k low in
    let may = choice_may work c k here.0 here.1 in
    let word = only_words work c here.0 calm may in
    (word.0, here.1 ∙ ap (λ (e : Event). Some e) word.1, subst (May work c) word.1 may)

hit_one : (i k : ℕ) (o : Option Event) → o ≡ Some (Exec k) → k ≡ i → one_if (is_word_of i o) ≡ 1
hit_one i k o is same = elim (eqb_tells k i) [
  | inl e ↦ ap (λ (z : Option Event). one_if (is_word_of i z)) is ∙ ap one_if e.0
  | inr e ↦ absurd (e.1 same)
]

hit_none : (i k : ℕ) (o : Option Event) → o ≡ Some (Exec k) → k ≢ i → one_if (is_word_of i o) ≡ 0
hit_none i k o is apart = elim (eqb_tells k i) [
  | inl e ↦ absurd (apart e.1)
  | inr e ↦ ap (λ (z : Option Event). one_if (is_word_of i z)) is ∙ ap one_if e.0
]

goes_one : (work : Work) (k j : ℕ) (n m : Node) → k ≡ 1 + j → GoesOnBy work k n m
    → (word_turn work n ≡ silent (word_turn work n).node) × GoesOnBy work j (word_turn work n).node m
goes_one work k j n m is on =
    let count : k ≡ suc j = omega (arith, is) in
    let all = subst (λ z. GoesOnBy work z n m) count on in
    (all.1, all.2)

stepped : (work : Work) (c : Core) (i : ℕ)
    → (after_word work c i).nodes i ≡ (word_turn work (c.nodes i)).node
stepped work c i = elim (eqb_tells i i) [ inl e ↦ rw e.0 refl | inr e ↦ absurd (e.1 refl) ]

-- the window behind its first turn
behind_first : (work : Work) (turns number i : ℕ) (words : ℕ → ℕ) (c d : Core)
    → IsWindow work (suc turns) number words c d
    → pick_among (choices work c) (following number) ≡ Some (Exec i) → May work c (Exec i)
    → (rest : ℕ → ℕ) × IsSilent work c i × (choices work (after_word work c i) ≡ choices work c)
    × IsWindow work turns (following number) rest (after_word work c i) d
behind_first work turns number i words c d w picked may = (
  rest,
  still,
  same,
  record {
    calm = λ k low j below. kept_list work c i j k still ∙ w.calm k low j below;
    some = subst (λ es. 1 ≤ length es) (sym same) w.some;
    are = λ k low. ap (λ es. picks_of k es turns (following number)) (sym same);
    nodes = goes;
    may = λ k can. w.may k (may_before k can);
    lists = λ j k bj bk. w.lists j k bj bk ∙ sym (kept_list work c i j k still);
  },
)
  where
    rest : ℕ → ℕ
    rest k = picks_of k (choices work c) turns (following number)

    first : GoesOnBy work (words i) (c.nodes i) (d.nodes i)
    first = w.nodes i may.0

    split : words i ≡ 1 + rest i
    split = w.are i may.0 ∙ ap (λ k. k + rest i) (hit_one i i _ picked refl)

    both : (word_turn work (c.nodes i) ≡ silent (word_turn work (c.nodes i)).node)
        × GoesOnBy work (rest i) (word_turn work (c.nodes i)).node (d.nodes i)
    both = goes_one work (words i) (rest i) (c.nodes i) (d.nodes i) split first

    still : IsSilent work c i
    still = both.0

    here : GoesOnBy work (rest i) ((after_word work c i).nodes i) (d.nodes i)
    here = subst (λ (n : Node). GoesOnBy work (rest i) n (d.nodes i)) (sym (stepped work c i)) both.1

    again : may_execute (standing_of work ((after_word work c i).nodes i)) ≡ true
    again = goes_may work (rest i) ((after_word work c i).nodes i) (d.nodes i) here (w.may i may)

    same : choices work (after_word work c i) ≡ choices work c
    same = kept_choices work c i still (w.calm i may.0) may again

    other : (k : ℕ) → k < work.layout.nodes → k ≢ i
        → GoesOnBy work (rest k) ((after_word work c i).nodes k) (d.nodes k)
    other k low apart =
        let none = hit_none k i _ picked (λ e. apart (sym e)) in
        let count : words k ≡ rest k = w.are k low ∙ ap (λ z. z + rest k) none ∙ omega arith in
        subst (λ (n : Node). GoesOnBy work (rest k) n (d.nodes k)) (sym (kept_node work c i k apart))
        (subst (λ z. GoesOnBy work z (c.nodes k) (d.nodes k)) count (w.nodes k low))

    goes : (k : ℕ) → k < work.layout.nodes
        → GoesOnBy work (rest k) ((after_word work c i).nodes k) (d.nodes k)
    goes k low = elim (eqb_tells k i) [
      | inl e ↦ subst (λ z. GoesOnBy work (rest z) ((after_word work c i).nodes z) (d.nodes z)) (sym e.1) here
      | inr e ↦ other k low e.1
    ]

    may_before : (k : ℕ) → May work (after_word work c i) (Exec k) → May work c (Exec k)
    may_before k can = elim (eqb_tells k i) [
      | inl e ↦ subst (λ z. May work c (Exec z)) (sym e.1) may
      | inr e ↦ (can.0, ap (λ (n : Node). may_execute (standing_of work n)) (sym (kept_node work c i k e.1)) ∙ can.1)
    ]

record MakesTurns (work : Work) (turns number : ℕ) (c d : Core) : Type 0 where
  pub events : List Event
  pub picked : ArePicked work number c events
  pub count : length events ≡ turns
  pub leads : AreAlike work.layout.nodes d (after work c events)

window_makes : (work : Work) (turns number : ℕ) (words : ℕ → ℕ) (c d : Core)
    → IsWindow work turns number words c d → MakesTurns work turns number c d
window_makes work zero number words c d w = record {
  events = [];
  picked = tt;
  count = refl;
  leads = record {
    nodes = λ i low. sym (subst (λ z. GoesOnBy work z (c.nodes i) (d.nodes i)) (w.are i low) (w.nodes i low));
    lists = w.lists;
  };
}
window_makes work (suc turns) number words c d w =
    let pick = picked_word work c (following number) w.calm w.some in
    let i = pick.0 in
    let next = behind_first work turns number i words c d w pick.1 pick.2 in
    let more = window_makes work turns (following number) next.0 (after_word work c i) d next.3 in
    record {
      events = Exec i ∷ more.events;
      picked = (pick.1, more.picked);
      count = ap suc more.count;
      leads = more.leads;
    }

-- the turns of a window lead from one core to the other
pub window_leads : (work : Work) (turns number : ℕ) (words : ℕ → ℕ) (c d : Core)
    → IsCalm work.layout.nodes c → 1 ≤ length (choices work c)
    → ((i : ℕ) → i < work.layout.nodes → words i ≡ picks_of i (choices work c) turns number)
    → HaveEachPassed work words c d → LeadsOn work turns number c (after_turns turns number) d
window_leads work turns number words c d calm some are passed =
    let m = window_makes work turns number words c d (record {
      calm = calm;
      some = some;
      are = are;
      nodes = passed.nodes;
      may = λ i can. (passed.may i can).1;
      lists = passed.lists;
    }) in
    let count = m.count in
    record {
      events = m.events;
      picked = m.picked;
      many = omega (arith, count);
      numbers = ap (λ k. after_turns k number) (sym count);
      leads = m.leads;
    }

-- what is allowed behind a window is what was allowed before it
window_allowed : (work : Work) (words : ℕ → ℕ) (c d : Core) → IsCalm work.layout.nodes c
    → HaveEachPassed work words c d
    → ((i : ℕ) → i < work.layout.nodes → 1 ≤ words i → May work c (Exec i))
    → (e : Event) → IsBelow work.layout.nodes e → is_allowed work d e ≡ is_allowed work c e
window_allowed work words c d calm passed may (Take k j) low =
    let before = and_false (may_take (standing_of work (c.nodes k))) (has_wire (c.list j k)) (ap has_wire (calm k low.0 j low.1)) in
    let behind = and_false (may_take (standing_of work (d.nodes k))) (has_wire (d.list j k))
    (ap has_wire (passed.lists j k low.1 low.0 ∙ calm k low.0 j low.1)) in
    behind ∙ sym before
window_allowed work words c d calm passed may (Exec i) low = by (is_allowed work c (Exec i)) refl
  where
    goes : GoesOnBy work (words i) (c.nodes i) (d.nodes i)
    goes = passed.nodes i low

    still : (k : ℕ) → k ≡ words i → (1 ≤ k → is_allowed work c (Exec i) ≡ true)
        → is_allowed work c (Exec i) ≡ false → is_allowed work d (Exec i) ≡ false
    still zero is can cannot =
        ap (λ (n : Node). may_execute (standing_of work n))
        (sym (subst (λ z. GoesOnBy work z (c.nodes i) (d.nodes i)) (sym is) goes)) ∙ cannot
    still (suc k) is can cannot =
        let both : false ≡ true = sym cannot ∙ can (omega arith) in absurd (cc)

    by : (b : Bool) → is_allowed work c (Exec i) ≡ b
        → is_allowed work d (Exec i) ≡ is_allowed work c (Exec i)
    by true is = (passed.may i (low, is)).1 ∙ sym is
    by false is = still (words i) refl (λ some. (may i low some).1) is ∙ sym is

pub lists_window : (p q : CoreParts) (l : Listing) (words : ℕ → ℕ) → work_of q ≡ work_of p
    → HaveEachPassed (work_of p) words (core_of p) (core_of q) → IsCalm p.layout.nodes (core_of p)
    → ((i : ℕ) → i < p.layout.nodes → 1 ≤ words i → May (work_of p) (core_of p) (Exec i))
    → Lists p l → Lists q l
lists_window p q l words work passed calm may lists =
    lists_kept p q l work (window_allowed (work_of p) words (core_of p) (core_of q) calm passed may)
    passed.lists lists

pub lists_same : (p q : CoreParts) (l : Listing) → work_of q ≡ work_of p → core_of q ≡ core_of p
    → Lists p l → Lists q l
lists_same p q l work core lists =
    lists_kept p q l work (λ e low. ap (λ (c : Core). is_allowed (work_of p) c e) core)
    (λ j k below low. ap (λ (c : Core). c.list j k) core) lists

-- the choices are those of the listing
pub choices_window : (p q : CoreParts) (l : Listing) → Lists p l → Lists q l
    → length (choices (work_of q) (core_of q)) ≡ length (choices (work_of p) (core_of p))
choices_window p q l a b = sym b.count ∙ a.count

pub calm_same : (p q : CoreParts) → work_of q ≡ work_of p
    → ((j k : ℕ) → j < p.layout.nodes → k < p.layout.nodes → (core_of q).list j k ≡ (core_of p).list j k)
    → IsCalm p.layout.nodes (core_of p) → IsCalm q.layout.nodes (core_of q)
calm_same p q work lists calm k low j below =
    lists j k (here j below) (here k low) ∙ calm k (here k low) j (here j below)
  where
    here : (i : ℕ) → i < q.layout.nodes → i < p.layout.nodes
    here i low = subst (λ (w : Work). i < w.layout.nodes) work low
