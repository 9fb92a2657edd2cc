-- An executable has one list of ranges of shared lines.
use Rattle.std.proofs.Common.{◌≡◌, ℕ, zero, suc, ◌+◌, ◌<◌, ◌≤◌, true, false, ◌||◌, List, [], ◌∷◌, refl, sym, ap, ◌∙◌, inl, inr, arith}
use Rattle.std.specs.Prelude.{All, AllPairs, nat_le, nat_lt}
use Rattle.std.proofs.lemmas.Bool.{cases_lt, false≢true, and_from, and_left, and_right, le-leb, lt-ltb, le-ltb, lt-leb}
use Rattle.std.proofs.lemmas.List.Elements.{All-head, All-tail, All-weaker}
use Rattle.block_layout.specs.declared.ranges.Lines.{Lines}
use Rattle.block_layout.specs.Layout.{is_among, is_in}

-- ---- a line and a range

among : (r : Lines) (line : ℕ) → r.first ≤ line → line < r.first + r.lines → is_among line r ≡ true
among r line low high =
    and_from (nat_le r.first line) (nat_lt line (r.first + r.lines)) (le-leb r.first line low)
    (lt-ltb line (r.first + r.lines) high)

before : (r : Lines) (line : ℕ) → line < r.first → is_among line r ≡ false
before r line low =
    and_left (nat_le r.first line) (nat_lt line (r.first + r.lines)) (lt-leb r.first line low)

behind : (r : Lines) (line : ℕ) → r.first + r.lines ≤ line → is_among line r ≡ false
behind r line high =
    and_right (nat_le r.first line) (nat_lt line (r.first + r.lines))
    (le-ltb line (r.first + r.lines) high)

-- a line in the first range is in the ranges, and one that isn't is in the others or in none
in_first : (r : Lines) (rs : List Lines) (line : ℕ) → is_among line r ≡ true
    → is_in (r ∷ rs) line ≡ true
in_first r rs line e = ap (λ b. b || is_in rs line) e

past_first : (r : Lines) (rs : List Lines) (line : ℕ) → is_among line r ≡ false
    → is_in (r ∷ rs) line ≡ is_in rs line
past_first r rs line e = ap (λ b. b || is_in rs line) e

in_none : (rs : List Lines) (line : ℕ) → All (λ r. line < r.first) rs → is_in rs line ≡ false
in_none [] line h = refl
in_none (r ∷ rs) line h =
    past_first r rs line (before r line (All-head (λ r. line < r.first) r rs h))
    ∙ in_none rs line (All-tail (λ r. line < r.first) r rs h)

-- ---- ranges with a gap between each two, none empty

abbrev pub Gap : Lines → Lines → Type 0
Gap r q = r.first + r.lines < q.first

abbrev pub HasLines : Lines → Type 0
HasLines r = 0 < r.lines

gap_behind : (r : Lines) (rs : List Lines) → AllPairs Gap (r ∷ rs) → All (Gap r) rs
gap_behind r rs h = λ k d lt. h zero (suc k) d (omega arith) (omega arith)

gaps_in : (r : Lines) (rs : List Lines) → AllPairs Gap (r ∷ rs) → AllPairs Gap rs
gaps_in r rs h = λ i j d lt within. h (suc i) (suc j) d (omega arith) (omega arith)

-- a line up to the end of the first range is in no later one
up_to_end : (r : Lines) (rs : List Lines) (line : ℕ) → line ≤ r.first + r.lines
    → All (Gap r) rs → is_in rs line ≡ false
up_to_end r rs line low h =
    in_none rs line (All-weaker (Gap r) (λ q. line < q.first)
    (λ q gap. omega (arith, gap, low)) rs h)

-- the first ranges begin together
not_earlier : (r q : Lines) (rs qs : List Lines) → HasLines r → All (Gap q) qs
    → is_in (r ∷ rs) r.first ≡ is_in (q ∷ qs) r.first → r.first < q.first → ⊥
not_earlier r q rs qs some gaps same less =
    let here : is_in (r ∷ rs) r.first ≡ true =
    in_first r rs r.first (among r r.first (omega arith) (omega (arith, some))) in
    let there : is_in (q ∷ qs) r.first ≡ false =
    past_first q qs r.first (before q r.first less)
    ∙ up_to_end q qs r.first (omega (arith, less)) gaps in
    false≢true (sym there ∙ sym same ∙ here)

-- and end together
not_shorter : (r q : Lines) (rs qs : List Lines) → r.first ≡ q.first → All (Gap r) rs
    → is_in (r ∷ rs) (r.first + r.lines) ≡ is_in (q ∷ qs) (r.first + r.lines)
    → r.lines < q.lines → ⊥
not_shorter r q rs qs first gaps same less =
    let end : ℕ = r.first + r.lines in
    let here : is_in (r ∷ rs) end ≡ false =
    past_first r rs end (behind r end (omega arith)) ∙ up_to_end r rs end (omega arith) gaps in
    let there : is_in (q ∷ qs) end ≡ true =
    in_first q qs end (among q end (omega (arith, first)) (omega (arith, first, less))) in
    false≢true (sym here ∙ same ∙ there)

-- ranges that have the same lines are the same
pub same_ranges : (rs qs : List Lines) → All HasLines rs → All HasLines qs → AllPairs Gap rs
    → AllPairs Gap qs → ((line : ℕ) → is_in rs line ≡ is_in qs line) → rs ≡ qs
same_ranges [] [] some others gaps spaces same = refl
same_ranges [] (q ∷ qs) some others gaps spaces same =
    let has = All-head HasLines q qs others in
    absurd (false≢true (same q.first
    ∙ in_first q qs q.first (among q q.first (omega arith) (omega (arith, has)))))
same_ranges (r ∷ rs) [] some others gaps spaces same =
    let has = All-head HasLines r rs some in
    absurd (false≢true (sym (same r.first)
    ∙ in_first r rs r.first (among r r.first (omega arith) (omega (arith, has)))))
same_ranges (r ∷ rs) (q ∷ qs) some others gaps spaces same =
    let r_has = All-head HasLines r rs some in
    let q_has = All-head HasLines q qs others in
    let r_gaps = gap_behind r rs gaps in
    let q_gaps = gap_behind q qs spaces in
    let early : r.first < q.first → ⊥ = not_earlier r q rs qs r_has q_gaps (same r.first) in
    let late : q.first < r.first → ⊥ = not_earlier q r qs rs q_has r_gaps (sym (same q.first)) in
    let first : r.first ≡ q.first = omega (arith, early, late) in
    let short : r.lines < q.lines → ⊥ =
    not_shorter r q rs qs first r_gaps (same (r.first + r.lines)) in
    let long : q.lines < r.lines → ⊥ =
    not_shorter q r qs rs (sym first) q_gaps (sym (same (q.first + q.lines))) in
    let lines : r.lines ≡ q.lines = omega (arith, short, long) in
    let one : r ≡ q = λ i. record { first = first i; lines = lines i } in
    let more : (line : ℕ) → is_in rs line ≡ is_in qs line = λ line.
    elim (cases_lt (r.first + r.lines) line) [
      | inl past ↦
          sym (past_first r rs line (behind r line (omega (arith, past)))) ∙ same line
          ∙ past_first q qs line (behind q line (omega (arith, past, first, lines)))
      | inr within ↦
          up_to_end r rs line within r_gaps
          ∙ sym (up_to_end q qs line (omega (arith, within, first, lines)) q_gaps)
    ] in
    ap (λ x. x ∷ rs) one ∙ ap (λ xs. q ∷ xs)
    (same_ranges rs qs (All-tail HasLines r rs some) (All-tail HasLines q qs others)
    (gaps_in r rs gaps) (gaps_in q qs spaces) more)
