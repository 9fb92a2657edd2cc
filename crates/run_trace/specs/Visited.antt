-- Words that are counted by their numbers, and which of them commit.
use Rattle.std.specs.Prelude.{◌≡◌, ℕ, zero, suc, Bool, true, false, List, map, slice_index_or}
use Rattle.templates.specs.declared.commits.CommitKind.{CommitKind}
use Rattle.templates.specs.declared.commits.CommitKind.TheVariants.{Never, IfNotFlag}
use Rattle.templates.specs.declared.plans.PlanEntry.{PlanEntry}
use Rattle.replay.specs.node_model.Node.{Work}
use Rattle.replay.specs.node_model.Core.{Core, Exec, event_step}
use Rattle.replay.specs.rewriting_law.CoreRun.{commits}
use Rattle.word_visits.specs.Tallies.{WordTally}
use Rattle.word_visits.specs.Visits.{WordVisits, next_number, visits_at}
use Rattle.run_trace.specs.declared.kinds.CommitKinds.{CommitKinds}

-- whether a word of this kind commits depends on what it reads
abbrev pub asks : CommitKind → Bool
asks IfNotFlag = true
asks kind = false

-- a word of this kind commits, where it prints nothing, sends nothing and counts
abbrev pub may_commit : CommitKind → Bool
may_commit Never = false
may_commit kind = true

-- those of a word of this kind before it is executed
abbrev pub first_visits : CommitKind → WordVisits
first_visits kind = record { times = 0; looks = asks kind }

-- the tally of a word of this kind: it counts as a step of the original where it commits one
abbrev pub tally_by : CommitKind → WordTally
tally_by kind = record { counts = may_commit kind; looks = asks kind }

-- these are the tallies of words of these kinds
abbrev pub AreTalliesOf : CommitKinds → List WordTally → Type 0
AreTalliesOf kinds ts = ts ≡ map tally_by kinds.kinds.items

-- the word of a number commits each time that it counts
abbrev pub commits_visited : CommitKinds → ℕ → Bool
commits_visited kinds k = may_commit (slice_index_or kinds.kinds.items k Never)

-- visits look where it depends on what the word reads whether it commits
abbrev pub LookByKind : CommitKinds → List WordVisits → Type 0
LookByKind kinds vs =
    (k : ℕ) → (visits_at vs k).looks ≡ asks (slice_index_or kinds.kinds.items k Never)

-- so many words that node i makes one after another commit as the words of their numbers do
abbrev pub CommitByNumber : Work → List PlanEntry → CommitKinds → (i words : ℕ) → Core → Type 0
CommitByNumber work plan kinds i zero c = Unit {0}
CommitByNumber work plan kinds i (suc k) c =
    (commits work plan (c.nodes i) ≡ commits_visited kinds (next_number (c.nodes i)))
    × CommitByNumber work plan kinds i k (event_step work c (Exec i))
