-- Code words in ascending order: where one stands, and how far.
use Rattle.std.proofs.Common.{◌≡◌, ◌≢◌, nat_cmp, subst, cond, ℕ, zero, suc, ◌+◌, ◌*◌, ◌^◌, ◌<◌, ◌≤◌, Bool, true, false, ◌==◌, List, [], ◌∷◌, length, Option, Some, None, refl, sym, ap, ◌∙◌, inl, inr, arith}
use Rattle.std.specs.Prelude.{Ok, Err, slice_index_or, slice_get, option_and_then, nat_lt}
use Rattle.std.specs.List.Sorted.{IsSearchInRange, IsBinarySearchResult}
use Rattle.std.proofs.lemmas.Bool.{cases_lt, eqb-true, eq-eqb, lt-ltb, le-ltb, ne_eqb}
use Rattle.std.specs.List.{position_or_len}
use Rattle.std.proofs.lemmas.List.Sums.{position_or_len_is}
use Rattle.std.proofs.lemmas.Option.{slice_get-get_or}
use Rattle.rv32_decode.specs.declared.Instr.{Instr}
use Rattle.rv32_decode.specs.declared.Instr.TheVariants.{Ecall}
use Rattle.templates.specs.declared.code.CodeWord.{CodeWord}
use Rattle.templates.specs.Code.{Ascends, code_word, code_of}
use Rattle.templates.proofs.CodeLemmas.{above, rises}
use Rattle.templates.proofs.SearchLemmas.{found_by}
use Rattle.flow_graph.specs.Edges.{ends_flow, next_of, number_at}

-- a code word ends below 2^32
pub low_at : (low : ℕ) (ws : List CodeWord) (a : ℕ) (i : Instr) → Ascends low ws → code_of ws a ≡ Some i → a + 4 < 2 ^ 32
low_at low [] a i up is = cc
low_at low (w ∷ ws) a i up is = go (low_at (w.address + 4) ws a i up.3) (w.address == a) refl is
  where
    go : (code_of ws a ≡ Some i → a + 4 < 2 ^ 32) → (b : Bool) → (w.address == a) ≡ b → cond b (Some w.instruction) (code_of ws a) ≡ Some i → a + 4 < 2 ^ 32
    go more true e h = let same : w.address ≡ a = eqb-true w.address a e in let lt = up.2 in omega (arith, same, lt)
    go more false e h = more h

pub low_there : (low : ℕ) (ws : List CodeWord) (k : ℕ) (d : CodeWord) → Ascends low ws → k < length ws → (slice_index_or ws k d).address + 4 < 2 ^ 32
low_there low [] k d up lt = absurd (omega arith)
low_there low (w ∷ ws) zero d up lt = up.2
low_there low (w ∷ ws) (suc k) d up lt = low_there (w.address + 4) ws k d up.3 (omega arith)

-- there are at most 2^30 words
few_from : (low : ℕ) (ws : List CodeWord) → low ≤ 2 ^ 32 → Ascends low ws → low + 4 * length ws ≤ 2 ^ 32
few_from low [] le up = omega (arith, le)
few_from low (w ∷ ws) le up =
    let above = up.0 in
    let lt = up.2 in
    let more = few_from (w.address + 4) ws (omega (arith, lt)) up.3 in omega (arith, more, above)

pub few : (ws : List CodeWord) → Ascends 0 ws → length ws ≤ 2 ^ 30
few ws up = let all = few_from 0 ws (omega arith) up in omega (arith, all)

-- a later word has a higher address
pub climbs : (low : ℕ) (ws : List CodeWord) (d : CodeWord) → Ascends low ws → (i j : ℕ) → i < j → j < length ws
    → (slice_index_or ws i d).address + 4 ≤ (slice_index_or ws j d).address
climbs low [] d up i j lt within = absurd (omega arith)
climbs low (w ∷ ws) d up i zero lt within = absurd (omega arith)
climbs low (w ∷ ws) d up zero (suc j) lt within = above (w.address + 4) ws j d up.3 (omega arith)
climbs low (w ∷ ws) d up (suc i) (suc j) lt within =
    climbs (w.address + 4) ws d up.3 i j (omega arith) (omega arith)

-- the number of a word is where it stands
pub number_there : (ws : List CodeWord) (d : CodeWord) (k a : ℕ) → Ascends 0 ws → k < length ws
    → (slice_index_or ws k d).address ≡ a → Some k ≡ number_at ws a
number_there ws d k a up lt is =
    let first : position_or_len (λ w. w.address == a) ws ≡ k = position_or_len_is (λ w. w.address == a) ws k d (omega (arith, lt))
    (λ j before. ne_eqb _ a (λ same. (let less = climbs 0 ws d up j k before lt in omega (arith, less, same, is))))
    (λ within. eq-eqb _ a is) in
    sym (ap (λ n. cond (nat_lt n (length ws)) (Some n) None) first ∙ ap (λ b. cond b (Some k) None) (lt-ltb k (length ws) lt))

-- no word stands at the address
pub no_number : (ws : List CodeWord) (d : CodeWord) (a : ℕ)
    → ((k : ℕ) → k < length ws → (slice_index_or ws k d).address ≢ a) → None ≡ number_at ws a
no_number ws d a other =
    let past : position_or_len (λ w. w.address == a) ws ≡ length ws = position_or_len_is (λ w. w.address == a) ws (length ws) d (omega arith)
    (λ j within. ne_eqb _ a (other j within)) (λ lt. absurd (omega (arith, lt))) in
    sym (ap (λ n. cond (nat_lt n (length ws)) (Some n) None) past ∙ ap (λ b. cond b (Some (length ws)) None) (le-ltb (length ws) (length ws) (omega arith)))

-- what a search among code words gives
pub number_found : (ws xs : List CodeWord) (k a : ℕ) → Ascends 0 ws → xs ≡ ws → IsSearchInRange (Ok k) (length xs)
    → IsBinarySearchResult (λ y. nat_cmp y.address a) xs (Ok k) → Some k ≡ number_at ws a
number_found [] xs k a up same within found =
    absurd (let lt : k < length {A = CodeWord} [] = subst (λ l. k < length {A = CodeWord} l) same within in omega (arith, lt))
number_found (w ∷ ws) xs k a up same within found =
    let at = found_by (λ y. y.address) (w ∷ ws) a (Ok k) (λ i j d le lt. rises 0 (w ∷ ws) d up i j le lt)
    (subst (λ l. k < length l) same within)
    (subst (λ l. IsBinarySearchResult (λ y. nat_cmp y.address a) l (Ok k)) same found) in
    number_there (w ∷ ws) w k a up at.0 (at.1 w)

pub number_missed : (ws xs : List CodeWord) (k a : ℕ) → Ascends 0 ws → xs ≡ ws → IsSearchInRange (Err k) (length xs)
    → IsBinarySearchResult (λ y. nat_cmp y.address a) xs (Err k) → None ≡ number_at ws a
number_missed [] xs k a up same within found = refl
number_missed (w ∷ ws) xs k a up same within found =
    no_number (w ∷ ws) w a (λ n lt. found_by (λ y. y.address) (w ∷ ws) a (Err k)
    (λ i j d le lt. rises 0 (w ∷ ws) d up i j le lt)
    (subst (λ l. k ≤ length l) same within)
    (subst (λ l. IsBinarySearchResult (λ y. nat_cmp y.address a) l (Err k)) same found) n w lt)

-- a word where there is none
pub blank : CodeWord
blank = code_word 0 Ecall

-- what stands right after a word
pub follower_there : (ws : List CodeWord) (k a : ℕ) (o : Option ℕ) → Ascends 0 ws → o ≡ Some a → k + 1 < length ws
    → (slice_index_or ws (k + 1) blank).address ≡ a → Some (k + 1) ≡ option_and_then (number_at ws) o
follower_there ws k a o up given within is = number_there ws blank (k + 1) a up within is ∙ sym (ap (option_and_then (number_at ws)) given)

pub follower_none : (ws : List CodeWord) (k a : ℕ) (o : Option ℕ) → Ascends 0 ws → k < length ws → o ≡ Some a
    → ((w : CodeWord) (a : ℕ) → slice_get ws k ≡ Some w → o ≡ Some a → a ≡ w.address + 4)
    → (k + 1 < length ws → (slice_index_or ws (k + 1) blank).address ≢ a)
    → None ≡ option_and_then (number_at ws) o
follower_none ws k a o up lt given after other =
    let is = after (slice_index_or ws k blank) a (slice_get-get_or ws k blank lt) given in
    no_number ws blank a (λ j within. elim (cases_lt j (k + 1)) [
      | inl before ↦ (let le = rises 0 ws blank up j k (omega (arith, before)) lt in λ same. omega (arith, le, same, is))
      | inr from ↦ elim (cases_lt (k + 1) j) [
        | inl past ↦ (let next = climbs 0 ws blank up k (k + 1) (omega arith) (omega (arith, past, within)) in let more = climbs 0 ws blank up (k + 1) j past within in λ same. omega (arith, next, more, same, is))
        | inr le ↦ (let at : j ≡ k + 1 = omega (arith, from, le) in subst (λ n. (slice_index_or ws n blank).address ≢ a) (sym at) (other (omega (arith, at, within))))
      ]
    ]) ∙ sym (ap (option_and_then (number_at ws)) given)

-- where an instruction goes on, that is the address after it
pub goes_on : (i : Instr) (a b : ℕ) → (next_of i a).first ≡ Some b → b ≡ a + 4
goes_on i a b h = go (ends_flow i) h
  where
    go : (e : Bool) → cond e None (Some (a + 4)) ≡ Some b → b ≡ a + 4
    go true h = cc
    go false h = cc
