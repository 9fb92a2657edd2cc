-- Texts within HTML.
use Rattle.std.specs.Prelude.{ℕ, ◌==◌, if◌then◌else◌, List, [], ◌∷◌, codes}
use Rattle.std.specs.List.{flat_map}

-- a character: & < > " ' have names of their own
abbrev pub escape_of : ℕ → List ℕ
escape_of c =
    if c == 38 then codes "&amp;"
    else if c == 60 then codes "&lt;"
    else if c == 62 then codes "&gt;"
    else if c == 34 then codes "&quot;"
    else if c == 39 then codes "&#39;"
    else c ∷ []

abbrev pub escaped : List ℕ → List ℕ
escaped text = flat_map escape_of text
