-- Helps the code alone: the words of a sequence as they are laid out.
use Rattle.std.specs.Prelude.{ℕ, ◌+◌, List, [], ◌∷◌, Option, Some}
use Rattle.std.specs.Option.{option_map}
use Rattle.templates.specs.declared.places.Part.{Part}
use Rattle.templates.specs.declared.places.Place.{Place}
use Rattle.templates.specs.Sequences.{ItemWord}
use Rattle.jump_map.specs.Image.{ImageWord, item_word}

abbrev pub place_in : (ℕ → ℕ) → Part → ℕ → Place
place_in address part k = record { address = address k; part = part; word = k }

-- the word of an item at its own address
abbrev pub laid_word : (ℕ → ℕ) → ℕ → Place → Option ItemWord → ImageWord
laid_word head at place item =
    record { what = option_map (item_word head at) item; place = Some place }

-- the words of a part, from the one numbered k on, each at the place that its number gives
abbrev pub laid_words : (ℕ → ℕ) → ℕ → (ℕ → ℕ) → Part → ℕ → List (Option ItemWord) → List ImageWord
laid_words head at address part k [] = []
laid_words head at address part k (i ∷ is) =
    laid_word head at (place_in address part k) i
    ∷ laid_words head (at + 4) address part (k + 1) is
