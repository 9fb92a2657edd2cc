-- Rows of ends: the sending ends of each node, and the taking ends of each node.
use Rattle.std.specs.Prelude.{◌≡◌, ℕ, List, [], ◌∷◌, ◌++◌, map, length, Vec}
use Rattle.std.specs.declared.alloc.Global.{Global}
use Rattle.dsm_messages.specs.declared.messages.Wire.{Wire}
use Rattle.fifo_link.specs.End.{End}
use Rattle.node_threads.specs.Works.{links_of}

module _ {A : Type 0} where
  -- the entries begin the rows, one each
  abbrev pub BeginRows : List A → List (List A) → Type 0
  BeginRows [] [] = Unit {0}
  BeginRows [] (r ∷ rs) = ⊥
  BeginRows (x ∷ xs) [] = ⊥
  BeginRows (x ∷ xs) ([] ∷ rs) = ⊥
  BeginRows (x ∷ xs) ((y ∷ ys) ∷ rs) = (x ≡ y) × BeginRows xs rs

  abbrev pub tail : List A → List A
  tail [] = []
  tail (x ∷ xs) = xs

  -- row j of the first is column j of the second
  abbrev pub Crosses : List (List A) → List (List A) → Type 0
  Crosses [] cols = Unit {0}
  Crosses (r ∷ rs) cols = BeginRows r cols × Crosses rs (map (λ c. tail c) cols)

-- the wires of the first end of a row
abbrev pub first : List End → List Wire
first [] = []
first (e ∷ es) = e.wires

-- For each receiver: what was sent and waits is what was taken and then what is left. The first
-- taking end of each row is used up.
abbrev pub GathersRow : (sends : List End) → (outboxes : List (List Wire))
    → (takes : List (List End)) → (lists : List (List Wire)) → (rest : List (List End)) → Type 0
GathersRow [] [] [] [] [] = Unit {0}
GathersRow (e ∷ es) (o ∷ os) (t ∷ ts) (l ∷ ls) (u ∷ us) =
    (e.wires ++ o ≡ first t ++ l) × (u ≡ tail t) × GathersRow es os ts ls us
GathersRow es os ts ls us = ⊥

-- the same for each sender in turn
abbrev pub Gathers : (sends : List (List End)) → (outboxes : List (List (List Wire)))
    → (takes : List (List End)) → (lists : List (List (List Wire))) → Type 0
Gathers [] [] ts [] = Unit {0}
Gathers (s ∷ ss) (o ∷ os) ts (l ∷ ls) =
    (us : List (List End)) × GathersRow s o ts l us × Gathers ss os us ls
Gathers ss os ts ls = ⊥

-- as long as one another
abbrev pub AsLong : {A B : Type 0} → List (List A) → List (List B) → Type 0
AsLong [] [] = Unit {0}
AsLong (x ∷ xs) (y ∷ ys) = (length x ≡ length y) × AsLong xs ys
AsLong xs ys = ⊥

-- one new link to each row: its sending end, and its taking end in front of the row
abbrev pub Opens : End → List End → List End → Type 0
Opens e t u = (f : End) × (u ≡ f ∷ t) × (e.link ≡ f.link) × (e.capacity ≡ f.capacity)
    × (e.wires ≡ []) × (f.wires ≡ [])

abbrev pub OpensRow : List (List End) → List End → List (List End) → Type 0
OpensRow [] [] [] = Unit {0}
OpensRow (t ∷ ts) (e ∷ es) (u ∷ us) = Opens e t u × OpensRow ts es us
OpensRow ts es us = ⊥

-- nothing went through any end of a row
abbrev pub Unused : List End → Type 0
Unused [] = Unit {0}
Unused (e ∷ es) = (e.wires ≡ []) × Unused es

-- rows of n unused ends
abbrev pub Fresh : ℕ → List (List End) → Type 0
Fresh n [] = Unit {0}
Fresh n (r ∷ rs) = (length r ≡ n) × Unused r × Fresh n rs

-- n rows of n new ends each way, of which row j of the first is column j of the second
abbrev pub IsMesh : ℕ → List (Vec End Global) → List (Vec End Global) → Type 0
IsMesh n ss ts = (length ss ≡ n) × (length ts ≡ n)
    × Fresh n (map (λ (v : Vec End Global). v.items) ss)
    × Fresh n (map (λ (v : Vec End Global). v.items) ts)
    × Crosses (map (λ (v : Vec End Global). links_of v.items) ss)
    (map (λ (v : Vec End Global). links_of v.items) ts)
