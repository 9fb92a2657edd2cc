-- Where the words of each place begin.
use Rattle.std.proofs.Common.{◌≡◌, ◌≢◌, nat_cmp, subst, eqb, cond, inl, inr, ℕ, zero, suc, ◌+◌, ◌<◌, ◌≤◌, false, List, [], ◌∷◌, ◌++◌, length, Some, None, refl, sym, ap, ◌∙◌, arith}
use Rattle.std.specs.Prelude.{Ok, Err, slice_index_or}
use Rattle.std.specs.List.Sorted.{IsSearchInRange, IsBinarySearchResult}
use Rattle.std.proofs.lemmas.Bool.{eq-eqb}
use Rattle.std.proofs.lemmas.Bool.Decides.{eqb_tells}
use Rattle.jump_map.specs.declared.heads.PlaceStart.{PlaceStart}
use Rattle.jump_map.specs.Image.{most_words}
use Rattle.jump_map.specs.Heads.{Ascends, start, start_of, end_from}
use Rattle.jump_map.proofs.SearchLemmas.{found_by}

pub unequal : (a b : ℕ) → a ≢ b → eqb a b ≡ false
unequal a b h = elim (eqb_tells a b) [ inl e ↦ absurd (h e.1) | inr e ↦ e.0 ]

-- one place more
pub ascends_more : (low : ℕ) (ss : List PlaceStart) (a head single : ℕ) → Ascends low ss
    → end_from low ss ≤ a → head ≤ most_words → single ≤ most_words → Ascends low (ss ++ start a head single ∷ [])
ascends_more low [] a head single up le few short = (le, few, short, tt)
ascends_more low (s ∷ ss) a head single up le few short =
    (up.0, up.1, up.2, ascends_more (s.address + 1) ss a head single up.3 le few short)

-- a place behind others has a higher address
above : (low : ℕ) (ss : List PlaceStart) (k : ℕ) (d : PlaceStart) → Ascends low ss → k < length ss
    → low ≤ (slice_index_or ss k d).address
above low [] k d up lt = absurd (omega arith)
above low (s ∷ ss) zero d up lt = up.0
above low (s ∷ ss) (suc k) d up lt =
    let more = above (s.address + 1) ss k d up.3 (omega arith) in omega (arith, more, up.0)

rises : (low : ℕ) (ss : List PlaceStart) (d : PlaceStart) → Ascends low ss → (i j : ℕ) → i ≤ j
    → j < length ss → (slice_index_or ss i d).address ≤ (slice_index_or ss j d).address
rises low [] d up i j le lt = absurd (omega arith)
rises low (s ∷ ss) d up zero zero le lt = omega arith
rises low (s ∷ ss) d up zero (suc j) le lt =
    let more = above (s.address + 1) ss j d up.3 (omega arith) in omega (arith, more)
rises low (s ∷ ss) d up (suc i) zero le lt = absurd (omega arith)
rises low (s ∷ ss) d up (suc i) (suc j) le lt =
    rises (s.address + 1) ss d up.3 i j (omega arith) (omega arith)

-- the place of that number is the one at its address
start_there : (low : ℕ) (ss : List PlaceStart) (k : ℕ) (d : PlaceStart) → Ascends low ss
    → k < length ss → (a : ℕ) → (slice_index_or ss k d).address ≡ a
    → Some (slice_index_or ss k d) ≡ start_of ss a
start_there low [] k d up lt a is = absurd (omega arith)
start_there low (s ∷ ss) zero d up lt a is =
    sym (ap (λ b. cond b (Some s) (start_of ss a)) (eq-eqb s.address a is))
start_there low (s ∷ ss) (suc k) d up lt a is =
    let more = above (s.address + 1) ss k d up.3 (omega arith) in
    let apart : s.address ≢ a = λ e. omega (arith, more, is, e) in
    start_there (s.address + 1) ss k d up.3 (omega arith) a is
    ∙ sym (ap (λ b. cond b (Some s) (start_of ss a)) (unequal s.address a apart))

low_there : (low : ℕ) (ss : List PlaceStart) (k : ℕ) (d : PlaceStart) → Ascends low ss → k < length ss
    → ((slice_index_or ss k d).head ≤ most_words) × ((slice_index_or ss k d).single ≤ most_words)
low_there low [] k d up lt = absurd (omega arith)
low_there low (s ∷ ss) zero d up lt = (up.1, up.2)
low_there low (s ∷ ss) (suc k) d up lt = low_there (s.address + 1) ss k d up.3 (omega arith)

-- no place stands at the address
no_start : (ss : List PlaceStart) (d : PlaceStart) (a : ℕ)
    → ((k : ℕ) → k < length ss → (slice_index_or ss k d).address ≢ a) → None ≡ start_of ss a
no_start [] d a other = refl
no_start (s ∷ ss) d a other =
    no_start ss d a (λ k lt. other (suc k) (omega arith))
    ∙ sym (ap (λ b. cond b (Some s) (start_of ss a)) (unequal s.address a (other 0 (omega arith))))

-- what a search among places gives
pub at_found : (ss xs : List PlaceStart) (k a : ℕ) (x : PlaceStart) → Ascends 0 ss → xs ≡ ss
    → IsSearchInRange (Ok k) (length xs)
    → IsBinarySearchResult (λ y. nat_cmp y.address a) xs (Ok k) → x ≡ slice_index_or ss k x
    → Some x ≡ start_of ss a
at_found ss xs k a x up same within found is =
    let at = found_by (λ s. s.address) ss a (Ok k) (λ i j d le lt. rises 0 ss d up i j le lt)
    (subst (λ l. k < length l) same within)
    (subst (λ l. IsBinarySearchResult (λ y. nat_cmp y.address a) l (Ok k)) same found) in
    ap (λ s. Some s) is ∙ start_there 0 ss k x up at.0 a (at.1 x)

pub at_low : (ss xs : List PlaceStart) (k : ℕ) (x : PlaceStart) → Ascends 0 ss → xs ≡ ss
    → IsSearchInRange (Ok k) (length xs) → x ≡ slice_index_or ss k x
    → (x.head ≤ most_words) × (x.single ≤ most_words)
at_low ss xs k x up same within is =
    let low = low_there 0 ss k x up (subst (λ l. k < length l) same within) in
    let head = ap (λ s. s.head) is in
    let single = ap (λ s. s.single) is in
    (omega (arith, low.0, head), omega (arith, low.1, single))

pub at_none : (ss xs : List PlaceStart) (k a : ℕ) → Ascends 0 ss → xs ≡ ss
    → IsSearchInRange (Err k) (length xs)
    → IsBinarySearchResult (λ y. nat_cmp y.address a) xs (Err k) → None ≡ start_of ss a
at_none [] xs k a up same within found = refl
at_none (s ∷ ss) xs k a up same within found =
    no_start (s ∷ ss) s a (λ n lt. found_by (λ s. s.address) (s ∷ ss) a (Err k)
    (λ i j d le lt. rises 0 (s ∷ ss) d up i j le lt)
    (subst (λ l. k ≤ length l) same within)
    (subst (λ l. IsBinarySearchResult (λ y. nat_cmp y.address a) l (Err k)) same found) n s lt)

-- the place of a number is the one at its address
pub at_got : (ss xs : List PlaceStart) (k a : ℕ) (x : PlaceStart) → Ascends 0 ss → xs ≡ ss → k < length xs
    → x ≡ slice_index_or xs k x → x.address ≡ a → Some x ≡ start_of ss a
at_got ss xs k a x up same lt is at =
    let within = subst (λ l. k < length l) same lt in
    let there = subst (λ l. x ≡ slice_index_or l k x) same is in
    ap (λ s. Some s) there ∙ start_there 0 ss k x up within a (ap (λ s. s.address) (sym there) ∙ at)

pub at_got_low : (ss xs : List PlaceStart) (k : ℕ) (x : PlaceStart) → Ascends 0 ss → xs ≡ ss → k < length xs
    → x ≡ slice_index_or xs k x → (x.head ≤ most_words) × (x.single ≤ most_words)
at_got_low ss xs k x up same lt is =
    let low = low_there 0 ss k x up (subst (λ l. k < length l) same lt) in
    let there = subst (λ l. x ≡ slice_index_or l k x) same is in
    let head = ap (λ s. s.head) there in
    let single = ap (λ s. s.single) there in
    (omega (arith, low.0, head), omega (arith, low.1, single))

-- the end of the places, past one more
pub end_more : (low : ℕ) (ss : List PlaceStart) (a head single : ℕ) → end_from low (ss ++ start a head single ∷ []) ≡ a + 1
end_more low [] a head single = refl
end_more low (s ∷ ss) a head single = end_more (s.address + 1) ss a head single
