-- Helps the code alone: an image while it is made.
use Rattle.std.specs.Prelude.{◌≡◌, ◌≢◌, ℕ, ◌+◌, ◌<◌, ◌++◌, List, [], ◌∷◌, Option, map, length}
use Rattle.std.specs.Option.{option_map}
use Rattle.templates.specs.rv32_program.Program.{Program}
use Rattle.runtime_words.specs.declared.RtWord.{RtWord}
use Rattle.templates.specs.declared.code.CodeWord.{CodeWord}
use Rattle.templates.specs.declared.places.Part.{Part}
use Rattle.templates.specs.declared.places.Part.TheVariants.{Head, Fast, Fallback}
use Rattle.templates.specs.declared.places.Place.{Place}
use Rattle.templates.specs.declared.plans.PlanEntry.{PlanEntry}
use Rattle.templates.specs.declared.words.Item.{Item}
use Rattle.templates.specs.Code.{code_of}
use Rattle.templates.specs.Runs.{IsRun}
use Rattle.templates.specs.Expansion.{reads}
use Rattle.jump_map.specs.declared.heads.PlaceStart.{PlaceStart}
use Rattle.jump_map.specs.Image.{Cell, PlacedItem, read_cell, item_word, address_in, part_of_entry, plan_items, words_at, image_words, address_of_word, most_words}
use Rattle.jump_map.specs.HeadsValue.{HeadsValue}
use Rattle.jump_map.specs.Heads.{program_with, starts_from, head_address}
use Rattle.jump_map.specs.Laying.{laid_word, laid_words}

-- the words of a plan, for this code
abbrev pub HasWords : List CodeWord → List PlanEntry → List Cell → Type 0
HasWords words plan cells = map read_cell cells ≡ image_words (program_with words) plan

-- the number of words of a plan
abbrev pub word_count : List CodeWord → List PlanEntry → ℕ
word_count words plan = 1 + length (plan_items (program_with words) plan)

-- where the words of each place of a plan begin
abbrev pub HasStarts : List CodeWord → List PlanEntry → List PlaceStart → Type 0
HasStarts words plan starts = starts ≡ starts_from (program_with words) 1 plan

-- the plan has so many words, which are too many
abbrev pub IsOverlong : List CodeWord → List PlanEntry → ℕ → Type 0
IsOverlong words plan count =
    (count ≡ length (image_words (program_with words) plan)) × (most_words < count)

-- what an item reads as where it is the word of this number
abbrev pub reads_at : HeadsValue → ℕ → Item → Option RtWord
reads_at heads own item =
    option_map (item_word (head_address heads) (address_of_word own)) (reads item)

-- the word of an item was appended
abbrev pub AddsItem : HeadsValue → Place → Item → List Cell → List Cell → Type 0
AddsItem heads place item old new =
    map read_cell new
    ≡ map read_cell old
    ++ laid_word (head_address heads) (address_of_word (length old)) place (reads item) ∷ []

-- the words of a part of an entry's sequences were appended
abbrev pub AddsPart : HeadsValue → PlanEntry → Part → List Item → List Cell → List Cell → Type 0
AddsPart heads e part items old new =
    map read_cell new
    ≡ map read_cell old
    ++ laid_words (head_address heads) (address_of_word (length old)) (address_in e part) part 0
    (map reads items)

-- the words of these items were appended
abbrev pub AddsItems : HeadsValue → List PlacedItem → List Cell → List Cell → Type 0
AddsItems heads items old new =
    map read_cell new
    ≡ map read_cell old ++ words_at (head_address heads) (address_of_word (length old)) items

-- the items of the batch of an entry
abbrev pub batch_items : Program → PlanEntry → List PlacedItem
batch_items program e =
    part_of_entry program e Head
    ++ (part_of_entry program e Fast ++ part_of_entry program e Fallback)

-- where a run starts at the entry's place, it is one of this code
abbrev pub HasRunOf : List CodeWord → PlanEntry → Type 0
HasRunOf words e = e.run ≢ 0 → IsRun (code_of words) e.address e.run
