-- Silent words leave nothing in a trace but where they stand and what they access.
use Rattle.std.proofs.Common.{◌≡◌, ℕ, ◌+◌, Bool, true, false, cond, ◌||◌, List, [], ◌∷◌, ◌++◌, map, Option, Some, None, refl, sym, ap, ◌∙◌, subst}
use Rattle.std.specs.Option.{option_map, option_map_or}
use Rattle.replay.specs.node_model.rv32_step.OneMemory.{Access}
use Rattle.templates.specs.Commits.{commit_at}
use Rattle.templates.specs.declared.plans.PlanEntry.{PlanEntry}
use Rattle.replay.specs.node_model.jump_map.Maps.{old_of}
use Rattle.replay.specs.node_model.home_directory.dsm_messages.declared.messages.Post.{Post}
use Rattle.replay.specs.node_model.home_directory.dsm_messages.Headers.{sent_by}
use Rattle.replay.specs.node_model.declared.Standing.{Standing}
use Rattle.replay.specs.node_model.declared.Standing.TheVariants as standing
use Rattle.replay.specs.node_model.Node.{Work, Node, Move, Next, Again, To, Enters, Waits, Leaves, Phase, Running, Resumed, Waiting, Ended, Nothing_counted, word_outcome, phase_after, end_of, standing_in, standing_of, has_all_byes}
use Rattle.replay.specs.node_model.Turns.{Turn, with_byes, byes_to, is_ended, wants_of, each_block_once, after_word, after_wants}
use Rattle.replay.specs.node_model.Core.{Core, Exec, may_execute}
use Rattle.replay.specs.rewriting_law.CoreRun.{is_exit, is_wait}
use Rattle.replay.specs.node_machine.declared.touch.Touch.{Touch}
use Rattle.replay.specs.node_machine.declared.touch.Touch.TheVariants as touch
use Rattle.replay.specs.node_machine.Touch.{IsAccess, IsTouch}
use Rattle.replay.specs.node_machine.Wanted.{wants_along}
use Rattle.replay.specs.Way.{IsSilent}
use Rattle.run_trace.specs.declared.passed.Until.{Until}
use Rattle.run_trace.specs.declared.passed.Until.TheVariants as until
use Rattle.run_trace.specs.declared.passed.WordPassed.{WordPassed}
use Rattle.run_trace.specs.declared.reach.Reached.{Reached}
use Rattle.run_trace.specs.declared.traced.Accessed.{Accessed}
use Rattle.run_trace.specs.Traced.{accessed, word_traced}
use Rattle.run_trace.specs.Looks.{access_seen, accessed_at, is_exited, waits_in, commits_when}
use Rattle.run_trace.specs.Passing.{IsPlainWord, IsPassedWord, ending, ends}
use Rattle.run_trace.proofs.WordEnds.{turn_node, wants_phase, turn_printed, exit_seen, wait_seen, access_is, commit_is}

-- 1. What a node may execute after a silent word

ended_stays : (b : Bool) → may_execute (cond b standing.Over standing.Ended) ≡ false
ended_stays true = refl
ended_stays false = refl

-- a node that may execute a word hasn't ended
no_end : (work : Work) (n : Node) (p : Phase) → may_execute (standing_in work n p) ≡ true → end_of p ≡ None
no_end work n Running may = refl
no_end work n Resumed may = refl
no_end work n (Waiting r) may = refl
no_end work n (Ended e) may = absurd
    (let both : true ≡ false = sym may ∙ ended_stays (has_all_byes work n) in cc)

-- nor does its last word want anything
no_wants : (work : Work) (n : Node) (budget executed : ℕ) (m : Move)
    → may_execute (standing_in work n (phase_after budget executed m)) ≡ true → wants_of m ≡ []
no_wants work n budget executed Next may = refl
no_wants work n budget executed Again may = refl
no_wants work n budget executed (To a) may = refl
no_wants work n budget executed (Enters a) may = refl
no_wants work n budget executed (Waits r w ws) may = absurd cc
no_wants work n budget executed (Leaves e) may = refl

nothing_before : (xs ys : List Post) → xs ++ ys ≡ [] → xs ≡ []
nothing_before [] ys e = refl
nothing_before (x ∷ xs) ys e = absurd cc

no_sends : (nodes : ℕ) (t : Turn) (b : Bool) → (with_byes nodes t b).sends ≡ [] → t.sends ≡ []
no_sends nodes t true e = nothing_before t.sends (byes_to nodes) e
no_sends nodes t false e = e

-- after a silent word its node may execute another
may_after : (work : Work) (c : Core) (i : ℕ) → IsSilent work c (Exec i)
    → let t = after_wants work (c.nodes i) in may_execute (standing_in work t.node t.node.phase) ≡ true
may_after work c i q =
    subst (λ (k : Node). may_execute (standing_of work k) ≡ true) (turn_node work (c.nodes i)) q.1

may_moved : (work : Work) (c : Core) (i : ℕ) → IsSilent work c (Exec i) → let n = c.nodes i in
    may_execute (standing_in work (after_wants work n).node
    (phase_after work.budget (n.executed + 1) (word_outcome work n).move)) ≡ true
may_moved work c i q =
    let n = c.nodes i in
    subst (λ (p : Phase). may_execute (standing_in work (after_wants work n).node p) ≡ true) (wants_phase work n)
    (may_after work c i q)

pub silent_printed : (work : Work) (c : Core) (i : ℕ) → IsSilent work c (Exec i)
    → (word_outcome work (c.nodes i)).printed ≡ None
silent_printed work c i q = sym (turn_printed work (c.nodes i)) ∙ ap (λ (u : Turn). u.printed) q.0

no_exit : (work : Work) (c : Core) (i : ℕ) → IsSilent work c (Exec i)
    → is_exit (word_outcome work (c.nodes i)).move ≡ false
no_exit work c i q =
    let n = c.nodes i in
    let m = (word_outcome work n).move in
    sym (exit_seen work.budget (n.executed + 1) m)
    ∙ ap is_exited (no_end work (after_wants work n).node
    (phase_after work.budget (n.executed + 1) m) (may_moved work c i q))

executing : (s : Standing) → may_execute s ≡ true → waits_in s ≡ false
executing standing.Running may = refl
executing standing.AtPoll may = refl
executing standing.Waiting may = absurd (cc)
executing standing.Ended may = refl
executing standing.Over may = refl

no_wait : (work : Work) (c : Core) (i : ℕ) → IsSilent work c (Exec i)
    → is_wait (word_outcome work (c.nodes i)).move ≡ false
no_wait work c i q =
    let n = c.nodes i in
    let m = (word_outcome work n).move in
    sym (wait_seen work (after_wants work n).node work.budget (n.executed + 1) m)
    ∙ executing (standing_in work (after_wants work n).node (phase_after work.budget (n.executed + 1) m))
    (may_moved work c i q)

-- 2. What is traced of a silent word

pub plain_word : (work : Work) (plan : List PlanEntry) (c : Core) (i : ℕ) (t : Touch) → IsSilent work c (Exec i)
    → IsTouch work (c.nodes i) t → IsPlainWord (word_traced work plan (c.nodes i))
plain_word work plan c i touch q is =
    let n = c.nodes i in
    let t = after_wants work n in
    let none = no_wants work t.node work.budget (n.executed + 1) (word_outcome work n).move (may_moved work c i q) in
    record {
      wants = ap (λ l. wants_along work.layout (after_word work n) (each_block_once work.layout l)) none;
      tally = is.tally;
      sends = ap (map sent_by) (no_sends work.layout.nodes t (is_ended t.node.phase) (ap (λ (u : Turn). u.sends) q.0));
      printed = silent_printed work c i q;
      end = no_end work t.node t.node.phase (may_after work c i q);
    }

-- what doesn't end a pass goes on
access_passed : (work : Work) (n : Node) (u : Until) (t : Touch) (a : Access) → IsAccess work n t a → ending u t ≡ None
    → option_map_or (λ (x : Accessed). ends u x.kind) (accessed work.layout a) false ≡ false
access_passed work n u touch.Nothing a is e =
    ap (λ x. option_map_or (λ (y : Accessed). ends u y.kind) (accessed work.layout x) false) is
access_passed work n until.Access (touch.Reads kind at) a is e = absurd (cc)
access_passed work n until.Write (touch.Reads kind at) a is e =
    ap (λ x. option_map_or (λ (y : Accessed). ends until.Write y.kind) (accessed work.layout x) false) is.1
access_passed work n until.Access (touch.Writes width at) a is e = absurd (cc)
access_passed work n until.Write (touch.Writes width at) a is e = absurd (cc)

pub passed_word : (work : Work) (plan : List PlanEntry) (c : Core) (i : ℕ) (u : Until) (t : Touch)
    → IsSilent work c (Exec i) → IsTouch work (c.nodes i) t → ending u t ≡ None
    → IsPassedWord u (word_traced work plan (c.nodes i))
passed_word work plan c i u touch q is none = record {
  plain = plain_word work plan c i touch q is;
  goes_on = access_passed work (c.nodes i) u touch (word_outcome work (c.nodes i)).access is.access none;
}

pub silent_commits : (work : Work) (plan : List PlanEntry) (c : Core) (i : ℕ) (r : Option Reached) → IsSilent work c (Exec i)
    → r ≡ access_seen (word_outcome work (c.nodes i)).access
    → (false || commits_when (commit_at work.program plan (old_of work.image (c.nodes i).lane.at)) r false)
    ≡ (word_traced work plan (c.nodes i)).commits
silent_commits work plan c i r q is =
    let o = word_outcome work (c.nodes i) in
    let kind = commit_at work.program plan (old_of work.image (c.nodes i).lane.at) in
    (λ j. sym (no_exit work c i q) j || commits_when kind (is j) (sym (no_wait work c i q) j))
    ∙ ap (λ b. is_exit o.move || b) (commit_is kind o)

-- a word that ends a pass, by what is seen of it
pub word_is : (work : Work) (plan : List PlanEntry) (c : Core) (i : ℕ) (t : Touch) (w : WordPassed) (r : Reached)
    → IsSilent work c (Exec i) → IsTouch work (c.nodes i) t → Some r ≡ access_seen (word_outcome work (c.nodes i)).access
    → w.place ≡ old_of work.image (c.nodes i).lane.at → w.commits
    ≡ (false || commits_when (commit_at work.program plan (old_of work.image (c.nodes i).lane.at)) (Some r) false)
    → w.access ≡ accessed_at work.layout r → word_traced work plan (c.nodes i) ≡ record {
      place = w.place;
      commits = w.commits;
      access = Some w.access;
      wants = [];
      tally = Nothing_counted;
      printed = None;
      sends = [];
      end = None;
    }
word_is work plan c i touch w r q is seen place commits access =
    let n = c.nodes i in
    let plain = plain_word work plan c i touch q is in
    let reads : accessed work.layout (word_outcome work n).access ≡ Some w.access =
    sym (access_is work.layout (word_outcome work n).access)
    ∙ ap (option_map (accessed_at work.layout)) (sym seen) ∙ ap Some (sym access) in
    let does : (word_traced work plan n).commits ≡ w.commits =
    sym (silent_commits work plan c i (Some r) q seen) ∙ sym commits in
    λ j. record {
      place = sym place j;
      commits = does j;
      access = reads j;
      wants = plain.wants j;
      tally = plain.tally j;
      printed = plain.printed j;
      sends = plain.sends j;
      end = plain.end j;
    }

-- what ends a pass is what the word does to memory
pub ends_same : (u : Until) (t s : Touch) → ending u t ≡ Some s → s ≡ t
ends_same u touch.Nothing s e = absurd (cc)
ends_same until.Access (touch.Reads kind a) s e = cc
ends_same until.Write (touch.Reads kind a) s e = absurd (cc)
ends_same until.Access (touch.Writes width a) s e = cc
ends_same until.Write (touch.Writes width a) s e = cc

pub touch_at : (v w : Work) (m n : Node) (t : Touch) → v ≡ w → m ≡ n → IsTouch w n t → IsTouch v m t
touch_at v w m n t work node h =
    subst (λ (x : Work). IsTouch x m t) (sym work) (subst (λ (k : Node). IsTouch w k t) (sym node) h)
