-- Images that read alike are alike.
use Rattle.std.proofs.Common.{◌≡◌, ℕ, ◌+◌, Bool, true, false, List, [], ◌∷◌, map, Some, refl, sym, ◌∙◌}
use Rattle.std.specs.Prelude.{◌&&◌}
use Rattle.std.specs.List.{list_all}
use Rattle.std.proofs.lemmas.Bool.{ltb-true}
use Rattle.templates.specs.rv32_program.Program.{Program}
use Rattle.runtime_words.specs.declared.RtWord.{RtWord}
use Rattle.runtime_words.specs.declared.RtWord.TheVariants.{TrapOff}
use Rattle.templates.specs.declared.plans.PlanEntry.{PlanEntry}
use Rattle.runtime_words.proofs.WordLemmas.{one_word}
use Rattle.jump_map.specs.Image.{Cell, ImageWord, PlacedItem, is_word, read_cell, words_at, head_of, item_word, image_words, address_of_word, plan_items, IsRewriting}

-- each is a word of rewritten code
abbrev AreRead : List ImageWord → Type 0
AreRead [] = Unit {0}
AreRead (w ∷ ws) = ((x : RtWord) × (w.what ≡ Some x)) × AreRead ws

items_read : (head : ℕ → ℕ) (at : ℕ) (items : List PlacedItem) → AreRead (words_at head at items)
items_read head at [] = record {}
items_read head at (i ∷ is) = ((item_word head at i.item, refl), items_read head (at + 4) is)

both_true : (a b : Bool) → (a && b) ≡ true → (a ≡ true) × (b ≡ true)
both_true true true h = (refl, refl)
both_true true false h = cc
both_true false b h = cc

same_cell : (c d : Cell) (w : ImageWord) (x : RtWord) → w.what ≡ Some x → read_cell c ≡ w → read_cell d ≡ w
    → is_word c ≡ true → is_word d ≡ true → c ≡ d
same_cell c d w x is hc hd lowc lowd =
    let word : c.word ≡ d.word = one_word d.word c.word x (ltb-true _ _ lowd) (ltb-true _ _ lowc) ((λ t. (hd t).what) ∙ is) ((λ t. (hc t).what) ∙ is) in
    let place : c.place ≡ d.place = (λ t. (hc t).place) ∙ sym (λ t. (hd t).place) in
    λ t. record { word = word t; place = place t }

same_cells : (ws : List ImageWord) (cs ds : List Cell) → AreRead ws → map read_cell cs ≡ ws → map read_cell ds ≡ ws
    → list_all is_word cs ≡ true → list_all is_word ds ≡ true → cs ≡ ds
same_cells [] [] [] reads hc hd lowc lowd = refl
same_cells [] (c ∷ cs) ds reads hc hd lowc lowd = cc
same_cells [] [] (d ∷ ds) reads hc hd lowc lowd = cc
same_cells (w ∷ ws) [] ds reads hc hd lowc lowd = cc
same_cells (w ∷ ws) (c ∷ cs) [] reads hc hd lowc lowd = cc
same_cells (w ∷ ws) (c ∷ cs) (d ∷ ds) reads hc hd lowc lowd =
    let firstc : read_cell c ≡ w = cc in
    let restc : map read_cell cs ≡ ws = cc in
    let firstd : read_cell d ≡ w = cc in
    let restd : map read_cell ds ≡ ws = cc in
    let bothc = both_true (is_word c) (list_all is_word cs) lowc in
    let bothd = both_true (is_word d) (list_all is_word ds) lowd in
    let first = same_cell c d w reads.0.0 reads.0.1 firstc firstd bothc.0 bothd.0 in
    let rest = same_cells ws cs ds reads.1 restc restd bothc.1 bothd.1 in
    λ t. first t ∷ rest t

-- a program has at most one rewriting by a plan
pub one_image : (program : Program) (plan : List PlanEntry) (one other : List Cell) → IsRewriting program plan one
    → IsRewriting program plan other → one ≡ other
one_image program plan one other h k =
    same_cells (image_words program plan) one other
    ((TrapOff, refl), items_read (head_of program plan) (address_of_word 1) (plan_items program plan))
    h.expansion.words k.expansion.words h.expansion.low k.expansion.low
