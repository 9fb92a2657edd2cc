-- Which words of rewritten code commit a step of the original.
use Rattle.std.specs.Prelude.{◌≡◌, ℕ, ◌+◌, ◌*◌, Bool, ◌==◌, ◌&&◌, nat_le, nat_lt, List, Option, Some, None, find, slice_get, option_and_then}
use Rattle.std.specs.Option.{option_map_or}
use Rattle.rv32_program.specs.Program.{Program}
use Rattle.templates.specs.declared.commits.CommitKind.{CommitKind}
use Rattle.templates.specs.declared.commits.CommitKind.TheVariants.{Never}
use Rattle.templates.specs.declared.places.Part.{Part}
use Rattle.templates.specs.declared.places.Part.TheVariants.{Fast}
use Rattle.templates.specs.declared.places.Place.{Place}
use Rattle.templates.specs.declared.plans.PlanEntry.{PlanEntry}
use Rattle.templates.specs.declared.code.CodeWord.{CodeWord}
use Rattle.templates.specs.Code.{HasCode}
use Rattle.templates.specs.Sequences.{SequenceItem, items_in}

-- the words of a part of an entry's sequences
abbrev pub part_items : Program → PlanEntry → Part → List SequenceItem
part_items program e part = items_in program.code e part

-- a word of this part at a place is one of the entry's: a word of a fast part belongs to the entry
-- in whose run its place lies, every other to that of its place
abbrev pub is_word_by : Part → ℕ → PlanEntry → Bool
is_word_by Fast a e = nat_le e.address a && nat_lt a (e.address + 4 * e.run)
is_word_by part a e = e.address == a

abbrev pub is_word_of : Place → PlanEntry → Bool
is_word_of p e = is_word_by p.part p.address e

-- the item of the sequences that stands at a place's word
abbrev pub item_at : Program → List PlanEntry → Place → Option SequenceItem
item_at program plan p =
    option_and_then (λ e. slice_get (part_items program e p.part) p.word) (find (is_word_of p) plan)

-- the kind of commit of a place's word
abbrev pub commit_at : Program → List PlanEntry → Option Place → CommitKind
commit_at program plan None = Never
commit_at program plan (Some p) = option_map_or (λ i. i.commit) (item_at program plan p) Never

-- the kind of commit of a place's word, in every program that has this code
abbrev pub IsCommitKind : List PlanEntry → List CodeWord → Place → CommitKind → Type 0
IsCommitKind plan words place kind =
    (program : Program) → HasCode program words → kind ≡ commit_at program plan (Some place)
