-- Words that are counted by their numbers.
use Rattle.std.proofs.Common.{◌≡◌, ℕ, zero, suc, ◌+◌, ◌<◌, Bool, cond, List, [], ◌∷◌, ◌++◌, length, replicate, take, get_or, refl, sym, ap, ap₂, ◌∙◌, subst, arith, append_assoc, append-nil}
use Rattle.std.specs.Prelude.{All}
use Rattle.std.specs.List.{count_by}
use Rattle.std.proofs.lemmas.List.Sums.{sum_by-append, sum_by-cons}
use Rattle.check_costs.specs.elf_symbols.Symbols.{Symbol}
use Rattle.check_costs.specs.declared.labels.Label.{Label}
use Rattle.check_costs.specs.Tally.{Executed, first_label, labels_of}
use Rattle.run_trace.specs.node_model.jump_map.templates.declared.plans.PlanEntry.{PlanEntry}
use Rattle.run_trace.specs.node_model.Node.{Work, Node}
use Rattle.run_trace.specs.node_model.Core.{AreAlike, Core, Event, Exec, after, event_step}
use Rattle.word_visits.specs.Visits.{AreCounted, WordVisits, next_number, visited}
use Rattle.run_trace.specs.replay.dsm_core.CoreWords.{GoesOnBy}
use Rattle.run_trace.specs.replay.rewriting_law.CoreRun.{commits}
use Rattle.run_trace.specs.declared.kinds.CommitKinds.{CommitKinds}
use Rattle.run_trace.specs.Visited.{CommitByNumber}
use Rattle.run_trace.proofs.Tracings.{exec_node, next_alike}
use Rattle.run_costs.specs.Costs.{next_word, words_at, words_from}
use Rattle.run_costs.specs.Counting.{word_by, words_by}
use Rattle.run_costs.proofs.Words.{words_alike}

-- 1. The words that visits stand for

pub none_by : (word : ℕ → Executed) (k : ℕ) (vs : List WordVisits) → All (λ (v : WordVisits). v.times ≡ 0) vs
    → words_by word k vs ≡ []
none_by word k [] none = refl
none_by word k (v ∷ vs) none =
    ap (λ t. replicate t (word k) ++ words_by word (k + 1) vs) (none 0 v (omega arith))
    ∙ none_by word (k + 1) vs (λ j d low. none (suc j) d (omega (arith, low)))

-- with one more
one_visit : (p : Executed → Bool) (word : ℕ → Executed) (vs : List WordVisits) (b j e : ℕ) → e ≡ b + j → j < length vs
    → count_by p (words_by word b (visited j vs)) ≡ count_by p (words_by word b vs) + cond (p (word e)) 1 0
one_visit p word [] b j e is low = absurd (omega (arith, low))
one_visit p word (v ∷ vs) b zero e is low =
    let rest = words_by word (b + 1) vs in
    let here : e ≡ b = omega (arith, is) in
    let more : v.times + 1 ≡ suc v.times = omega arith in
    let new : count_by p (replicate (v.times + 1) (word b) ++ rest) ≡ count_by p (word b ∷ (replicate v.times (word b) ++ rest)) =
    ap (λ t. count_by p (replicate t (word b) ++ rest)) more in
    let one = sum_by-cons (λ (w : Executed). cond (p w) 1 0) (word b) (replicate v.times (word b) ++ rest) in
    let count : Executed → ℕ = λ w. cond (p w) 1 0 in
    let same = ap (λ k. count (word k)) here in
    omega (arith, new, one, same)
one_visit p word (v ∷ vs) b (suc j) e is low =
    let count : Executed → ℕ = λ w. cond (p w) 1 0 in
    let first = replicate v.times (word b) in
    let old = sum_by-append count first (words_by word (b + 1) vs) in
    let new = sum_by-append count first (words_by word (b + 1) (visited j vs)) in
    let rest = one_visit p word vs (b + 1) j e (omega (arith, is)) (omega (arith, low)) in
    omega (arith, old, new, rest)

by_take : (word : ℕ → Executed) (vs : List WordVisits) (b n e : ℕ) (d : WordVisits) → e ≡ b + n → n < length vs
    → words_by word b (take (suc n) vs) ≡ words_by word b (take n vs) ++ replicate (get_or vs n d).times (word e)
by_take word [] b n e d is low = absurd (omega (arith, low))
by_take word (v ∷ vs) b zero e d is low =
    let here : b ≡ e = omega (arith, is) in
    append-nil (replicate v.times (word b)) ∙ ap (λ k. replicate v.times (word k)) here
by_take word (v ∷ vs) b (suc n) e d is low =
    let first = replicate v.times (word b) in
    ap (λ ws. first ++ ws) (by_take word vs (b + 1) n e d (omega (arith, is)) (omega (arith, low)))
    ∙ sym (append_assoc first (words_by word (b + 1) (take n vs)) (replicate (get_or vs n d).times (word e)))

pub words_by_more : (word : ℕ → Executed) (vs : List WordVisits) (n : ℕ) (d : WordVisits) → n < length vs
    → words_by word 0 (take (n + 1) vs) ≡ words_by word 0 (take n vs) ++ replicate (get_or vs n d).times (word n)
words_by_more word vs n d low =
    let next : n + 1 ≡ suc n = omega arith in
    ap (λ k. words_by word 0 (take k vs)) next ∙ by_take word vs 0 n n d (omega arith) low

-- 2. The words of a run

pub words_behind : (symbols : List Symbol) (work : Work) (plan : List PlanEntry) (c : Core) (es fs : List Event)
    → words_from symbols work plan c (es ++ fs)
    ≡ words_from symbols work plan c es ++ words_from symbols work plan (after work c es) fs
words_behind symbols work plan c [] fs = refl
words_behind symbols work plan c (x ∷ es) fs =
    let here = words_at symbols work plan c x in
    let next = event_step work c x in
    ap (λ ws. here ++ ws) (words_behind symbols work plan next es fs)
    ∙ sym (append_assoc here (words_from symbols work plan next es) (words_from symbols work plan (after work next es) fs))

pub run_alike : (symbols : List Symbol) (work : Work) (plan : List PlanEntry) (i k : ℕ) (c d last : Core)
    → GoesOnBy work i k c last → AreAlike work.layout.nodes c d
    → words_from symbols work plan c (replicate k (Exec i)) ≡ words_from symbols work plan d (replicate k (Exec i))
run_alike symbols work plan i zero c d last goes alike = refl
run_alike symbols work plan i (suc k) c d last goes alike =
    ap₂ (λ ws us. ws ++ us) (words_alike symbols work plan c d (Exec i) goes.0 alike)
    (run_alike symbols work plan i k (event_step work c (Exec i)) (event_step work d (Exec i)) last goes.2
    (next_alike work c d (Exec i) goes.0 alike))

module _ (symbols : List Symbol) (work : Work) (plan : List PlanEntry) (labels : List Label) (kinds : CommitKinds)
    (are : labels ≡ labels_of symbols work.program.code plan) (p : Executed → Bool) where
  -- a node's next word is the one of its number
  next_is : (n : Node) (b : Bool) → commits work plan n ≡ b → next_word symbols work plan n
      ≡ record { label = get_or labels (next_number n) (first_label symbols); commits = b }
  next_is n b is = λ j. record { label = get_or (sym are j) (next_number n) (first_label symbols); commits = is j }

  pub run_adds : (i k : ℕ) (c : Core) (vs ws : List WordVisits) → AreCounted work k (c.nodes i) vs ws
      → CommitByNumber work plan kinds i k c
      → count_by p (words_by (word_by (first_label symbols) labels kinds) 0 ws)
      ≡ count_by p (words_by (word_by (first_label symbols) labels kinds) 0 vs)
      + count_by p (words_from symbols work plan c (replicate k (Exec i)))
  run_adds i zero c vs ws counted commit =
      let same = ap (λ xs. count_by p (words_by (word_by (first_label symbols) labels kinds) 0 xs)) counted in
      omega (arith, same)
  run_adds i (suc k) c vs ws counted commit =
      let n = c.nodes i in
      let j = next_number n in
      let word = word_by (first_label symbols) labels kinds in
      let next = event_step work c (Exec i) in
      let one = one_visit p word vs 0 j j (omega arith) counted.0.within in
      let rest = run_adds i k next (visited j vs) ws
      (subst (λ (x : Node). AreCounted work k x (visited j vs) ws) (sym (exec_node work c i)) counted.1) commit.1 in
      let here = sum_by-cons (λ (w : Executed). cond (p w) 1 0) (next_word symbols work plan n)
      (words_from symbols work plan next (replicate k (Exec i))) in
      let count : Executed → ℕ = λ w. cond (p w) 1 0 in
      let is = ap count (next_is n _ commit.0) in
      omega (arith, one, rest, here, is)
