-- One event more on a page.
use Rattle.std.proofs.Common.{◌≡◌, ℕ, zero, suc, ◌<◌, ◌≤◌, List, [], ◌∷◌, ◌++◌, length, map, take, drop, true, false, Option, Some, refl, sym, ap, ◌∙◌, arith}
use Rattle.std.specs.Prelude.{is_some}
use Rattle.std.proofs.lemmas.Bool.{true≢false}
use Rattle.std.proofs.lemmas.List.{length-map, map-append}
use Rattle.event_text.specs.run_trace.declared.traced.Traced.{Traced as Stored}
use Rattle.event_text.specs.run_trace.Given.{traced_of}
use Rattle.event_text.specs.run_trace.Traced.{Traced}
use Rattle.page_events.specs.Shown.{Kept, first_stamp, kept}

-- where fewer than n are taken, one more is
take_small : {A : Type 0} (n : ℕ) (xs : List A) (x : A) → length (take n xs) < n
    → take n (xs ++ x ∷ []) ≡ take n xs ++ x ∷ []
take_small zero xs x lt = absurd (omega (arith, lt))
take_small (suc zero) [] x lt = refl
take_small (suc (suc n)) [] x lt = refl
take_small (suc n) (y ∷ ys) x lt = ap (λ t. y ∷ t) (take_small n ys x (omega (arith, lt)))

drop_small : {A : Type 0} (n : ℕ) (xs : List A) (x : A) → length (take n xs) < n
    → drop n (xs ++ x ∷ []) ≡ drop n xs
drop_small zero xs x lt = absurd (omega (arith, lt))
drop_small (suc zero) [] x lt = refl
drop_small (suc (suc n)) [] x lt = refl
drop_small (suc n) (y ∷ ys) x lt = drop_small n ys x (omega (arith, lt))

-- where n are taken, none is
take_full : {A : Type 0} (n : ℕ) (xs : List A) (x : A) → n ≤ length (take n xs)
    → take n (xs ++ x ∷ []) ≡ take n xs
take_full zero xs x le = refl
take_full (suc n) [] x le = absurd (omega (arith, le))
take_full (suc n) (y ∷ ys) x le = ap (λ t. y ∷ t) (take_full n ys x (omega (arith, le)))

drop_full : {A : Type 0} (n : ℕ) (xs : List A) (x : A) → n ≤ length (take n xs)
    → drop n (xs ++ x ∷ []) ≡ drop n xs ++ x ∷ []
drop_full zero xs x le = refl
drop_full (suc n) [] x le = absurd (omega (arith, le))
drop_full (suc n) (y ∷ ys) x le = drop_full n ys x (omega (arith, le))

abbrev of_both : List Traced → Option ℕ → Kept
of_both events behind = record { events = events; behind = behind }

-- of the stored events
abbrev pub made : List Stored → Option ℕ → Kept
made items behind = of_both (map traced_of items) behind

both : {a b : List Traced} {c d : Option ℕ} → a ≡ b → c ≡ d → of_both a c ≡ of_both b d
both e f = λ i. of_both (e i) (f i)

count_is : (items : List Stored) (behind : Option ℕ) (seen : List Traced) → made items behind ≡ kept seen
    → length (take 400 seen) ≡ length items
count_is items behind seen same = ap length (sym (ap (λ (k : Kept). k.events) same)) ∙ length-map items traced_of

pub added : (items more : List Stored) (behind : Option ℕ) (seen : List Traced) (e : Stored)
    → made items behind ≡ kept seen → length items < 400 → more ≡ items ++ e ∷ []
    → made more behind ≡ kept (seen ++ traced_of e ∷ [])
added items more behind seen e same few is =
    let count = count_is items behind seen same in
    let lt : length (take 400 seen) < 400 = omega (arith, count, few) in
    both (ap (map traced_of) is ∙ map-append traced_of items (e ∷ [])
    ∙ ap (λ t. t ++ traced_of e ∷ []) (ap (λ (k : Kept). k.events) same)
    ∙ sym (take_small 400 seen (traced_of e) lt))
    (ap (λ (k : Kept). k.behind) same ∙ ap first_stamp (sym (drop_small 400 seen (traced_of e) lt)))

-- the stamp of the first behind, with one more
stamp_of : (o : Option ℕ) (x : Traced) (xs : List Traced) → o ≡ first_stamp xs → is_some o ≡ false
    → Some x.stamp ≡ first_stamp (xs ++ x ∷ [])
stamp_of o x [] h none = refl
stamp_of o x (y ∷ ys) h none = absurd (true≢false (sym (ap is_some h) ∙ none))

stamp_stays : (o : Option ℕ) (x : Traced) (xs : List Traced) → o ≡ first_stamp xs → is_some o ≡ true
    → o ≡ first_stamp (xs ++ x ∷ [])
stamp_stays o x [] h some = absurd (true≢false (sym some ∙ ap is_some h))
stamp_stays o x (y ∷ ys) h some = h

pub first_behind : (items : List Stored) (behind : Option ℕ) (seen : List Traced) (e : Stored)
    → made items behind ≡ kept seen → 400 ≤ length items → is_some behind ≡ false
    → made items (Some e.stamp) ≡ kept (seen ++ traced_of e ∷ [])
first_behind items behind seen e same many none =
    let count = count_is items behind seen same in
    let le : 400 ≤ length (take 400 seen) = omega (arith, count, many) in
    both
    (ap (λ (k : Kept). k.events) same ∙ sym (take_full 400 seen (traced_of e) le))
    (stamp_of behind (traced_of e) (drop 400 seen) (ap (λ (k : Kept). k.behind) same) none
    ∙ ap first_stamp (sym (drop_full 400 seen (traced_of e) le)))

pub further_behind : (items : List Stored) (behind : Option ℕ) (seen : List Traced) (e : Stored)
    → made items behind ≡ kept seen → 400 ≤ length items → is_some behind ≡ true
    → made items behind ≡ kept (seen ++ traced_of e ∷ [])
further_behind items behind seen e same many some =
    let count = count_is items behind seen same in
    let le : 400 ≤ length (take 400 seen) = omega (arith, count, many) in
    both
    (ap (λ (k : Kept). k.events) same ∙ sym (take_full 400 seen (traced_of e) le))
    (stamp_stays behind (traced_of e) (drop 400 seen) (ap (λ (k : Kept). k.behind) same) some
    ∙ ap first_stamp (sym (drop_full 400 seen (traced_of e) le)))

-- where one is behind, what comes later is neither taken nor the first behind
take_stays : (n : ℕ) (xs more : List Traced) → is_some (first_stamp (drop n xs)) ≡ true
    → take n (xs ++ more) ≡ take n xs
take_stays zero xs more some = refl
take_stays (suc n) [] more some = absurd (true≢false (sym some))
take_stays (suc n) (x ∷ xs) more some = ap (λ t. x ∷ t) (take_stays n xs more some)

first_stays : (n : ℕ) (xs more : List Traced) → is_some (first_stamp (drop n xs)) ≡ true
    → first_stamp (drop n (xs ++ more)) ≡ first_stamp (drop n xs)
first_stays zero [] more some = absurd (true≢false (sym some))
first_stays zero (x ∷ xs) more some = refl
first_stays (suc n) [] more some = absurd (true≢false (sym some))
first_stays (suc n) (x ∷ xs) more some = first_stays n xs more some

pub full_stays : (k : Kept) (seen more : List Traced) → is_some k.behind ≡ true → k ≡ kept seen
    → kept (seen ++ more) ≡ kept seen
full_stays k seen more full same =
    let some : is_some (first_stamp (drop 400 seen)) ≡ true =
    sym (ap (λ (h : Kept). is_some h.behind) same) ∙ full in
    both (take_stays 400 seen more some) (first_stays 400 seen more some)
