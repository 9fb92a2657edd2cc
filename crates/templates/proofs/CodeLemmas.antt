-- Code words in ascending order: what stands at an address.
use Rattle.std.proofs.Common.{◌≡◌, ◌≢◌, nat_cmp, subst, cond, ℕ, zero, suc, ◌+◌, ◌%◌, ◌^◌, ◌<◌, ◌≤◌, ◌==◌, Bool, true, false, List, [], ◌∷◌, ◌++◌, length, Option, Some, None, refl, sym, ap, ◌∙◌, arith}
use Rattle.std.specs.Prelude.{Ok, Err, slice_index_or}
use Rattle.std.specs.List.Sorted.{IsSearchInRange, IsBinarySearchResult}
use Rattle.std.proofs.lemmas.Bool.{eq-eqb, eqb-true, ne_eqb}
use Rattle.rv32_decode.specs.declared.Instr.{Instr}
use Rattle.templates.specs.declared.code.CodeWord.{CodeWord}
use Rattle.templates.specs.Code.{Ascends, code_word, code_of, end_from}
use Rattle.templates.proofs.SearchLemmas.{found_by}

-- one word more
pub ascends_more : (low : ℕ) (ws : List CodeWord) (a : ℕ) (i : Instr) → Ascends low ws
    → end_from low ws ≤ a → a % 4 ≡ 0 → a + 4 < 2 ^ 32 → Ascends low (ws ++ code_word a i ∷ [])
ascends_more low [] a i up le m lt = (le, m, lt, tt)
ascends_more low (w ∷ ws) a i up le m lt =
    (up.0, up.1, up.2, ascends_more (w.address + 4) ws a i up.3 le m lt)

-- a word behind others has a higher address
pub above : (low : ℕ) (ws : List CodeWord) (k : ℕ) (d : CodeWord) → Ascends low ws → k < length ws
    → low ≤ (slice_index_or ws k d).address
above low [] k d up lt = absurd (omega arith)
above low (w ∷ ws) zero d up lt = up.0
above low (w ∷ ws) (suc k) d up lt =
    let more = above (w.address + 4) ws k d up.3 (omega arith) in omega (arith, more, up.0)

pub rises : (low : ℕ) (ws : List CodeWord) (d : CodeWord) → Ascends low ws → (i j : ℕ) → i ≤ j
    → j < length ws → (slice_index_or ws i d).address ≤ (slice_index_or ws j d).address
rises low [] d up i j le lt = absurd (omega arith)
rises low (w ∷ ws) d up zero zero le lt = omega arith
rises low (w ∷ ws) d up zero (suc j) le lt =
    let more = above (w.address + 4) ws j d up.3 (omega arith) in omega (arith, more)
rises low (w ∷ ws) d up (suc i) zero le lt = absurd (omega arith)
rises low (w ∷ ws) d up (suc i) (suc j) le lt =
    rises (w.address + 4) ws d up.3 i j (omega arith) (omega arith)

-- the word of that number is the one at its address
pub code_there : (low : ℕ) (ws : List CodeWord) (k : ℕ) (d : CodeWord) → Ascends low ws
    → k < length ws → (a : ℕ) → (slice_index_or ws k d).address ≡ a
    → Some (slice_index_or ws k d).instruction ≡ code_of ws a
code_there low [] k d up lt a is = absurd (omega arith)
code_there low (w ∷ ws) zero d up lt a is =
    sym (ap (λ b. cond b (Some w.instruction) (code_of ws a)) (eq-eqb w.address a is))
code_there low (w ∷ ws) (suc k) d up lt a is =
    let more = above (w.address + 4) ws k d up.3 (omega arith) in
    let apart : w.address ≢ a = λ e. omega (arith, more, is, e) in
    code_there (w.address + 4) ws k d up.3 (omega arith) a is
    ∙ sym (ap (λ b. cond b (Some w.instruction) (code_of ws a)) (ne_eqb w.address a apart))

-- no word stands at the address
pub no_code : (ws : List CodeWord) (d : CodeWord) (a : ℕ)
    → ((k : ℕ) → k < length ws → (slice_index_or ws k d).address ≢ a) → None ≡ code_of ws a
no_code [] d a other = refl
no_code (w ∷ ws) d a other =
    no_code ws d a (λ k lt. other (suc k) (omega arith))
    ∙ sym (ap (λ b. cond b (Some w.instruction) (code_of ws a)) (ne_eqb w.address a (other 0 (omega arith))))

-- what a search among code words gives
pub at_found : (ws xs : List CodeWord) (k a : ℕ) (x : CodeWord) → Ascends 0 ws → xs ≡ ws
    → IsSearchInRange (Ok k) (length xs)
    → IsBinarySearchResult (λ y. nat_cmp y.address a) xs (Ok k) → x ≡ slice_index_or ws k x
    → Some x.instruction ≡ code_of ws a
at_found ws xs k a x up same within found is =
    let at = found_by (λ w. w.address) ws a (Ok k) (λ i j d le lt. rises 0 ws d up i j le lt)
    (subst (λ l. k < length l) same within)
    (subst (λ l. IsBinarySearchResult (λ y. nat_cmp y.address a) l (Ok k)) same found) in
    ap (λ w. Some w.instruction) is ∙ code_there 0 ws k x up at.0 a (at.1 x)

pub at_none : (ws xs : List CodeWord) (k a : ℕ) → Ascends 0 ws → xs ≡ ws
    → IsSearchInRange (Err k) (length xs)
    → IsBinarySearchResult (λ y. nat_cmp y.address a) xs (Err k) → None ≡ code_of ws a
at_none [] xs k a up same within found = refl
at_none (w ∷ ws) xs k a up same within found =
    no_code (w ∷ ws) w a (λ n lt. found_by (λ w. w.address) (w ∷ ws) a (Err k)
    (λ i j d le lt. rises 0 (w ∷ ws) d up i j le lt)
    (subst (λ l. k ≤ length l) same within)
    (subst (λ l. IsBinarySearchResult (λ y. nat_cmp y.address a) l (Err k)) same found) n w lt)

-- no code word stands near the end of the addresses
pub code_below : (low : ℕ) (ws : List CodeWord) (a : ℕ) (i : Instr) → Ascends low ws → code_of ws a ≡ Some i
    → a + 4 < 2 ^ 32
code_below low [] a i up h = let bad : ◌≡◌ {A = Option Instr} None (Some i) = h in absurd (cc)
code_below low (w ∷ ws) a i up h = go (code_below (w.address + 4) ws a i up.3) (w.address == a) refl
  where
    go : (code_of ws a ≡ Some i → a + 4 < 2 ^ 32) → (b : Bool) → (w.address == a) ≡ b → a + 4 < 2 ^ 32
    go more true f = let same = eqb-true w.address a f in let lt = up.2 in omega (arith, same, lt)
    go more false f = more (ap (λ b. cond b (Some w.instruction) (code_of ws a)) (sym f) ∙ h)

pub none_above : (ws : List CodeWord) (a : ℕ) → Ascends 0 ws → 2 ^ 32 ≤ a → None ≡ code_of ws a
none_above ws a up le = go (code_of ws a) refl
  where
    go : (o : Option Instr) → code_of ws a ≡ o → None ≡ code_of ws a
    go None f = sym f
    go (Some i) f = let lt = code_below 0 ws a i up f in absurd (omega (arith, lt, le))
