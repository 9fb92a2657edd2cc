-- Rewritten code: the words of a plan, in their order, and the place of each.
use Rattle.std.specs.Prelude.{◌≡◌, ◌≢◌, ℕ, ◌+◌, ◌-◌, ◌*◌, ◌%◌, ◌^◌, ◌<◌, ◌≤◌, ◌++◌, ◌/◌, ◌==◌, ◌&&◌, Bool, true, nat_le, nat_lt, if◌then◌else◌, List, [], ◌∷◌, Option, Some, None, map, length, Contains}
use Rattle.std.specs.List.{list_all}
use Rattle.rv32_decode.specs.Fields.{signed}
use Rattle.rv32_decode.specs.declared.Instr.TheVariants.{Jal}
use Rattle.templates.specs.rv32_program.Program.{Program}
use Rattle.runtime_words.specs.declared.RtWord.{RtWord}
use Rattle.runtime_words.specs.declared.RtWord.TheVariants.{Native, Far, TrapOff}
use Rattle.templates.specs.declared.places.Part.{Part}
use Rattle.templates.specs.declared.places.Part.TheVariants.{Single, Head, Fast, Fallback}
use Rattle.templates.specs.declared.places.Place.{Place}
use Rattle.templates.specs.declared.plans.PlanEntry.{PlanEntry}
use Rattle.runtime_words.specs.Reading.{read_word}
pub use Rattle.jump_map.specs.declared.image.ImageWord.{ImageWord}
use Rattle.jump_map.specs.declared.image.TheConstants.{MOST_WORDS}
use Rattle.templates.specs.declared.code.CodeWord.{CodeWord}
use Rattle.templates.specs.Code.{HasCode, code_of}
use Rattle.templates.specs.Runs.{IsRun}
use Rattle.templates.specs.Plans.{IsAdmissible}
use Rattle.templates.specs.declared.plans.Scratches.{Scratches}
use Rattle.templates.specs.Sequences.{ItemWord, Runs, GoesTo, SequenceItem, reloads_of_run}
use Rattle.templates.specs.Commits.{part_items}

-- a word of an image, and its place; word 0 has none
pub record Cell : Type 0 where
  pub word : ℕ
  pub place : Option Place

-- a word of an image, read
abbrev pub read_cell : Cell → ImageWord
read_cell c = record { what = read_word c.word; place = c.place }

-- the word has 32 bits
abbrev pub is_word : Cell → Bool
is_word c = nat_lt c.word (2 ^ 32)

-- where the rewritten code begins
abbrev pub image_base : ℕ
image_base = 0xa0000000

abbrev pub address_of_word : ℕ → ℕ
address_of_word k = image_base + 4 * k

-- an item of a sequence, and its place
pub record PlacedItem : Type 0 where
  pub item : ItemWord
  pub place : Place

-- the items of a part, of which the first has number k, each at the place that its number gives
abbrev pub placed_items : (ℕ → ℕ) → Part → ℕ → List SequenceItem → List PlacedItem
placed_items address part k [] = []
placed_items address part k (i ∷ is) =
    record { item = i.what; place = record { address = address k; part = part; word = k } }
    ∷ placed_items address part (k + 1) is

-- how many registers come back at the start of a run's fast part
abbrev pub reload_count : Scratches → ℕ
reload_count x = length (reloads_of_run x [])

-- where a word of a part belongs: each original word of a run's fast part to its own place, and
-- every other word to the entry's
abbrev pub address_in : PlanEntry → Part → ℕ → ℕ
address_in e Fast k =
    if nat_le (reload_count e.batch) k && nat_lt k (reload_count e.batch + e.run)
    then e.address + 4 * (k - reload_count e.batch) else e.address
address_in e part k = e.address

abbrev pub part_of_entry : Program → PlanEntry → Part → List PlacedItem
part_of_entry program e part = placed_items (address_in e part) part 0 (part_items program e part)

-- the words of an entry's place: those of the batch that starts there, and the single sequence
abbrev pub entry_items : Program → PlanEntry → List PlacedItem
entry_items program e =
    part_of_entry program e Head ++ (part_of_entry program e Fast
    ++ (part_of_entry program e Fallback ++ part_of_entry program e Single))

-- how many words stand before a place's, but for word 0
abbrev pub words_before : Program → List PlanEntry → ℕ → ℕ
words_before program [] a = 0
words_before program (e ∷ es) a =
    if e.address == a then 0
    else length (entry_items program e) + words_before program es a

-- the address of the first word of a place: the head of its sequences
abbrev pub head_of : Program → List PlanEntry → ℕ → ℕ
head_of program plan a = address_of_word (1 + words_before program plan a)

-- the distance from one address to another, as a jump has it
abbrev pub distance : ℕ → ℕ → ℕ
distance at target = (target + (2 ^ 32 - at)) % 2 ^ 32

-- a JAL reaches from one address to the other: from 1048576 bytes below to 1048574 above
-- (RISC-V Unprivileged ISA, "Unconditional Jumps")
abbrev pub is_near : ℕ → ℕ → Bool
is_near at target = nat_le at (target + 1048576) && nat_le target (at + 1048574)

-- the number of the word at an address
abbrev pub number_of_word : ℕ → ℕ
number_of_word address = (address - image_base) / 4

-- the word at an address that goes to another: a JAL that keeps no link, where that reaches, and
-- else a far jump
abbrev pub jump_word : ℕ → ℕ → RtWord
jump_word at target =
    if is_near at target then Native (Jal 0 (signed 32 (distance at target)))
    else Far (number_of_word target)

-- the word of an item at its own address
abbrev pub item_word : (ℕ → ℕ) → ℕ → ItemWord → RtWord
item_word head at (Runs w) = w
item_word head at (GoesTo place to_head) = jump_word at (head place)

-- the words of items, of which the first stands at this address
abbrev pub words_at : (ℕ → ℕ) → ℕ → List PlacedItem → List ImageWord
words_at head at [] = []
words_at head at (i ∷ is) =
    record { what = Some (item_word head at i.item); place = Some i.place }
    ∷ words_at head (at + 4) is

-- the items of all entries, in their order
abbrev pub plan_items : Program → List PlanEntry → List PlacedItem
plan_items program [] = []
plan_items program (e ∷ es) = entry_items program e ++ plan_items program es

-- word 0: where a processor goes whose pc is no place
abbrev pub off_word : ImageWord
off_word = record { what = Some TrapOff; place = None }

-- all words of a plan, in their order
abbrev pub image_words : Program → List PlanEntry → List ImageWord
image_words program plan =
    off_word ∷ words_at (head_of program plan) (address_of_word 1) (plan_items program plan)

abbrev pub most_words : ℕ
most_words = MOST_WORDS

-- each run of the plan is one of this code
pub record HasRunsOf (words : List CodeWord) (plan : List PlanEntry) : Type 0 where
  pub each : (e : PlanEntry) → Contains plan e → e.run ≢ 0
      → IsRun (code_of words) e.address e.run

-- the image has the words of this plan
pub record IsExpansion (program : Program) (plan : List PlanEntry) (image : List Cell) : Type 0
  where
    pub words : map read_cell image ≡ image_words program plan
    pub few : length image ≤ most_words
    pub low : list_all is_word image ≡ true

-- the image has the words of this plan, in every program that has this code
abbrev pub Expands : List CodeWord → List PlanEntry → List Cell → Type 0
Expands words plan image =
    (program : Program) → HasCode program words → IsExpansion program plan image

-- no word of the image is a far jump
pub record HasNoFar (image : List Cell) : Type 0 where
  pub near : (c : Cell) (k : ℕ) → Contains image c → read_word c.word ≢ Some (Far k)

-- the image is a rewriting of the program: it has the words of an admissible plan
pub record IsRewriting (program : Program) (plan : List PlanEntry) (image : List Cell) : Type 0
  where
    pub admissible : IsAdmissible program plan
    pub expansion : IsExpansion program plan image

-- the plan has this many words, which are more than an image may have
pub record HasTooManyWords (program : Program) (plan : List PlanEntry) (words : ℕ) : Type 0 where
  pub count : words ≡ length (image_words program plan)
  pub many : most_words < words

-- the plan has this many words in every program that has this code
abbrev pub IsTooLong : List CodeWord → List PlanEntry → ℕ → Type 0
IsTooLong words plan count =
    (program : Program) → HasCode program words → HasTooManyWords program plan count
