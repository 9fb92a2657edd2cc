-- Helps the code alone: the entries of a plan, by the addresses of their words.
use Rattle.std.specs.Prelude.{◌≡◌, ℕ, ◌*◌, ◌<◌, ◌^◌, List, length, find}
use Rattle.std.specs.Ordering.{nat_cmp}
use Rattle.std.specs.BTreeMap.{get}
use Rattle.templates.specs.declared.places.Part.TheVariants.{Fast, Single}
use Rattle.templates.specs.declared.plans.PlanEntry.{PlanEntry}
use Rattle.templates.specs.Commits.{is_word_by}
use Rattle.run_trace.specs.declared.entries.Entries.{Entries}

-- by an address the first entry of a plan is found that stands there, or in whose run it lies
pub record AreEntriesOf (plan : List PlanEntry) (e : Entries) : Type 0 where
  pub own : length e.own ≡ 1
  pub places : (a : ℕ) → get nat_cmp e.places a ≡ find (is_word_by Single a) plan
  pub runs : (q : ℕ) → q < 2 ^ 30 → get nat_cmp e.runs q ≡ find (is_word_by Fast (4 * q)) plan
