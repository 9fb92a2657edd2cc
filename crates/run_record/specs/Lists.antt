-- The lists that vectors hold.
use Rattle.std.specs.Prelude.{List, [], ◌∷◌, Vec}
use Rattle.std.specs.declared.alloc.Global.{Global}
use Rattle.node_model.specs.declared.Entry.{Entry}

-- the list of each vector
abbrev pub items_of : List (Vec Entry Global) → List (List Entry)
items_of [] = []
items_of (v ∷ vs) = v.items ∷ items_of vs
