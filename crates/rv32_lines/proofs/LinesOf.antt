-- The lines of a text, the first one by one.
use Rattle.std.proofs.Common.{◌≡◌, ℕ, zero, suc, ◌<◌, ◌≤◌, Bool, true, false, eqb, cond, ◌-◌, List, [], ◌∷◌, ◌++◌, length, length-append, take, drop, get_or, refl, sym, ap, ◌∙◌, arith}
use mathlib.Core.List.{append-nil}
use Rattle.std.specs.List.{list_all}
use Rattle.std.proofs.lemmas.List.{take_rest}
use Rattle.std.proofs.lemmas.Bool.{and_parts}
use Rattle.std.proofs.lemmas.Bool.Decides.{nat_tests}
use Rattle.rv32_lines.specs.Statements.{lines_of, onto_line}
use Rattle.rv32_lines.specs.Reading.{is_in_line, BeginsWithFeed}

pub feed_at : (xs : List ℕ) (i : ℕ) → is_in_line (get_or xs i 0) ≡ false → BeginsWithFeed (drop i xs)
feed_at [] zero e = tt
feed_at [] (suc i) e = tt
feed_at (x ∷ xs) zero e = grind (arith, nat_tests)
feed_at (x ∷ xs) (suc i) e = feed_at xs i e

pub feed_last : (xs : List ℕ) (i : ℕ) → length xs ≤ i → BeginsWithFeed (drop i xs)
feed_last [] zero e = tt
feed_last [] (suc i) e = tt
feed_last (x ∷ xs) zero e = absurd (omega arith)
feed_last (x ∷ xs) (suc i) e = feed_last xs i (omega arith)

no_feed : (c : ℕ) → is_in_line c ≡ true → eqb c 10 ≡ false
no_feed c e = grind (arith, nat_tests)

more_line : (c : ℕ) (cs : List ℕ) → is_in_line c ≡ true → lines_of (c ∷ cs) ≡ onto_line c (lines_of cs)
more_line c cs e = ap (λ (b : Bool). cond b ([] ∷ lines_of cs) (onto_line c (lines_of cs))) (no_feed c e)

pub lines_cut : (line rest : List ℕ) → list_all is_in_line line ≡ true
    → lines_of (line ++ 10 ∷ rest) ≡ line ∷ lines_of rest
lines_cut [] rest all = refl
lines_cut (c ∷ cs) rest all =
    let parts : (is_in_line c ≡ true) × (list_all is_in_line cs ≡ true) = and_parts _ _ all in
    more_line c (cs ++ 10 ∷ rest) parts.0 ∙ ap (onto_line c) (lines_cut cs rest parts.1)

pub line_last : (c : ℕ) (cs : List ℕ) → list_all is_in_line (c ∷ cs) ≡ true → lines_of (c ∷ cs) ≡ (c ∷ cs) ∷ []
line_last c [] all =
    let parts : (is_in_line c ≡ true) × (list_all is_in_line [] ≡ true) = and_parts _ _ all in
    more_line c [] parts.0
line_last c (d ∷ ds) all =
    let parts : (is_in_line c ≡ true) × (list_all is_in_line (d ∷ ds) ≡ true) = and_parts _ _ all in
    more_line c (d ∷ ds) parts.0 ∙ ap (onto_line c) (line_last d ds parts.1)

pub only_line : (text line : List ℕ) → 0 < length text → text ≡ line ++ [] → list_all is_in_line line ≡ true
    → lines_of text ≡ line ∷ lines_of []
only_line text [] some e all = absurd (omega (arith, ap length e))
only_line text (c ∷ cs) some e all = ap lines_of (e ∙ append-nil (c ∷ cs)) ∙ line_last c cs all

pub first_line : (text line behind : List ℕ) (c : ℕ) → text ≡ line ++ c ∷ behind → BeginsWithFeed (c ∷ behind)
    → list_all is_in_line line ≡ true
    → lines_of text ≡ line ∷ lines_of behind
first_line text line behind c e feed all =
    ap lines_of (e ∙ ap (λ x. line ++ x ∷ behind) feed) ∙ lines_cut line behind all

pub first_shorter : (text line behind : List ℕ) (c : ℕ) → text ≡ line ++ c ∷ behind → length behind < length text
first_shorter text line behind c e = omega (arith, ap length e, length-append line (c ∷ behind))

pub first_of : (text line rest : List ℕ) → text ≡ line ++ rest → BeginsWithFeed rest → list_all is_in_line line ≡ true
    → 0 < length rest
    → lines_of text ≡ line ∷ lines_of (take (length rest - 1) (drop 1 rest))
first_of text line [] e feed all some = absurd (omega arith)
first_of text line (c ∷ behind) e feed all some =
    first_line text line behind c e feed all ∙ ap (λ t. line ∷ lines_of t) (sym (take_rest (c ∷ behind) 1))
