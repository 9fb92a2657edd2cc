-- The maps between original and rewritten addresses.
use Rattle.std.specs.Prelude.{ℕ, ◌-◌, ◌/◌, ◌%◌, Bool, true, false, ◌&&◌, ◌==◌, nat_le, if◌then◌else◌, List, Option, Some, None, slice_get, option_and_then, position}
use Rattle.std.specs.Option.{option_map, option_map_or}
use Rattle.templates.specs.declared.places.Part.{Part}
use Rattle.templates.specs.declared.places.Part.TheVariants.{Single, Head, Fast, Fallback}
use Rattle.templates.specs.declared.places.Place.{Place}
use Rattle.jump_map.specs.Image.{Cell, ImageWord, read_cell, image_base, address_of_word}

-- the number of the word at an address
abbrev pub index_of : ℕ → Option ℕ
index_of new =
    if nat_le image_base new && (new % 4 == 0) then Some ((new - image_base) / 4) else None

-- the word at an address, with its place
abbrev pub cell_at : List Cell → ℕ → Option Cell
cell_at image new = option_and_then (slice_get image) (index_of new)

abbrev pub word_at : List Cell → ℕ → Option ℕ
word_at image new = option_map (λ c. c.word) (cell_at image new)

abbrev pub is_single : Part → Bool
is_single Single = true
is_single Head = false
is_single Fast = false
is_single Fallback = false

-- the first word of a place's single sequence
abbrev pub is_first_of : ℕ → Place → Bool
is_first_of a p = (p.address == a) && (is_single p.part && (p.word == 0))

abbrev pub begins_at : ℕ → Cell → Bool
begins_at a c = option_map_or (is_first_of a) c.place false

-- the address of the first word of a place's single sequence
abbrev pub new_of : List Cell → ℕ → Option ℕ
new_of image a = option_map address_of_word (position (begins_at a) image)

-- the place of the word at an address
abbrev pub old_of : List Cell → ℕ → Option Place
old_of image new = option_and_then (λ c. c.place) (cell_at image new)

-- the word at an address, read
abbrev pub fetch : List Cell → ℕ → Option ImageWord
fetch image new = option_map read_cell (cell_at image new)
