-- TextLines that are read one after another, and what is at fault in those behind them.
use Rattle.std.proofs.Common.{◌≡◌, ℕ, ◌<◌, ◌≤◌, List, [], ◌∷◌, ◌++◌, length, refl, sym, ap, ◌∙◌, subst, inl, inr, append_assoc, length-append, Err, arith}
use Rattle.std.specs.Prelude.{codes, IfErr}
use Rattle.std.specs.declared.result.Result.{Result}
use Rattle.run_record.specs.declared.refused.RecordRule.{RecordRule}
use Rattle.run_record.specs.declared.refused.RecordRule.TheVariants.{Syntax, Stamps, Node, Version, Code}
use Rattle.run_record.specs.declared.refused.RecordRefused.{RecordRefused}
use Rattle.run_record.specs.declared.refused.RecordRefused.TheVariants.{Broken, OutOfMemory}
use Rattle.run_record.specs.Reading.{Left, IsNext, IsLack, IsFault, IsRead}
use Rattle.run_record.specs.Rules.{Awaits, IsInGrammar, Breaks, IsBroken, IsFirstBroken, Leads, number_of, text_lines}
use Rattle.run_record.specs.Rules as awaits
use Rattle.run_record.specs.declared.version.Version.{Version as Versions}
use Rattle.block_layout.specs.declared.layout.BlockRange.{BlockRange}
use Rattle.run_record.specs.Rules.{HasRange}
use Rattle.run_record.proofs.LineFeeds.{some_line, lines_begin}

number_low : (rule : RecordRule) → 40 ≤ number_of rule
number_low Syntax = omega arith
number_low Stamps = omega arith
number_low Node = omega arith
number_low Version = omega arith
number_low Code = omega arith

pub syntax_broken : (s : Awaits) (line : List ℕ) → (IsInGrammar s line → ⊥) → IsBroken s line Syntax
syntax_broken s line none = record {
  breaks = none;
  lowest = λ other less b. let t : 40 ≤ number_of other = number_low other in absurd (omega arith);
}

pub broken_fault : (s : Awaits) (old new : Left) (line : List ℕ) (k : ℕ) (rule : RecordRule)
    (e : RecordRefused) → IsNext old line k new → IsBroken s line rule → e ≡ Broken rule k
    → IsFault s old e
broken_fault s old new line k rule e h b is =
    let P : List (List ℕ) → Type 0 = λ ls. IsFirstBroken s old.number ls rule k in
    let Q : RecordRefused → Type 0 = λ r. IsFault s old r in
    subst Q (sym is) (subst P (sym h.lines_are) (inl (b, h.number_is)))

pub syntax_fault : (s : Awaits) (old new : Left) (line : List ℕ) (k : ℕ) (e : RecordRefused)
    → IsNext old line k new → (IsInGrammar s line → ⊥) → e ≡ Broken Syntax k → IsFault s old e
syntax_fault s old new line k e h none is =
    broken_fault s old new line k Syntax e h (syntax_broken s line none) is

pub lack_fault : (s : Awaits) (left : Left) (e : RecordRefused) → (s ≡ awaits.Nothing → ⊥)
    → IsLack left e → IsFault s left e
lack_fault s left e some h =
    let P : List ℕ → Type 0 = λ bs. IsFirstBroken s left.number (text_lines bs) Syntax left.number in
    let Q : RecordRefused → Type 0 = λ r. IsFault s left r in
    subst Q (sym h.refusal) (subst P (sym h.none) (some, refl, refl))

pub end_fault : (left : Left) (e : RecordRefused) → 0 < length left.bytes
    → e ≡ Broken Syntax left.number → IsFault awaits.Nothing left e
end_fault left e some is =
    let first = some_line left.bytes some in
    let P : List (List ℕ) → Type 0 = λ ls. IsFirstBroken awaits.Nothing left.number ls Syntax left.number in
    let Q : RecordRefused → Type 0 = λ r. IsFault awaits.Nothing left r in
    subst Q (sym is) (subst P (sym first.2)
    (inl (syntax_broken awaits.Nothing first.0 (λ none. none), refl)))

passes : (s t : Awaits) (old new : Left) (line : List ℕ) (k : ℕ) → IsNext old line k new
    → Leads s line t → (e : RecordRefused) → IsFault t new e → IsFault s old e
passes s t old new line k h leads OutOfMemory f = tt
passes s t old new line k h leads (Broken rule n) f =
    let P : List (List ℕ) → Type 0 = λ ls. IsFirstBroken s old.number ls rule n in
    let Q : ℕ → Type 0 = λ m. IsFirstBroken t m (text_lines new.bytes) rule n in
    subst P (sym h.lines_are) (inr (t, leads, subst Q h.next_is f))

-- a line that leads on was read
pub line_read : (s t : Awaits) (old new : Left) (line x : List ℕ) (k : ℕ) → IsNext old line k new
    → line ≡ x → Leads s line t → IsRead s old x t new
line_read s t old new line x k h is leads = record {
  bytes_are = h.bytes_are ∙ ap (λ l. l ++ new.bytes) is;
  faults = passes s t old new line k h leads;
}

-- nothing was read yet
pub none_read : (s : Awaits) (left : Left) → IsRead s left [] s left
none_read s left = record { bytes_are = refl; faults = λ e f. f }

pub read_on : (s t u : Awaits) (a b c : Left) (x y z : List ℕ) → x ++ y ≡ z → IsRead s a x t b
    → IsRead t b y u c → IsRead s a z u c
read_on s t u a b c x y z is p q = record {
  bytes_are = p.bytes_are ∙ ap (λ m. x ++ m) q.bytes_are ∙ sym (append_assoc x y c.bytes)
      ∙ ap (λ m. m ++ c.bytes) is;
  faults = λ e f. p.faults e (q.faults e f);
}

range_broken : (v : Versions) (nodes : ℕ) (line : List ℕ) (rule : RecordRule)
    → ((rest : List ℕ) → line ≡ codes "block " ++ rest → ⊥)
    → IsBroken (awaits.Node v nodes 0) line rule → IsBroken (awaits.Range v nodes) line rule
range_broken v nodes line Syntax other b =
    syntax_broken (awaits.Range v nodes) line (λ g. no_range g)
  where
    no_range : IsInGrammar (awaits.Range v nodes) line → ⊥
    no_range (inl (r, h)) = other _ h.line_is
    no_range (inr h) = b.breaks h
range_broken v nodes line Node other b = record {
  breaks = b.breaks;
  lowest = λ lower less h. none lower less h;
}
  where
    none : (lower : RecordRule) → number_of lower < 42 → Breaks (awaits.Range v nodes) line lower → ⊥
    none Syntax less h = h (inr (b.breaks.0, b.breaks.1))
    none Stamps less h = h
    none Node less h = absurd (omega arith)
    none Version less h = absurd (omega arith)
    none Code less h = absurd (omega arith)
range_broken v nodes line Stamps other b = absurd b.breaks
range_broken v nodes line Version other b = absurd b.breaks
range_broken v nodes line Code other b = absurd b.breaks

range_first : (v : Versions) (nodes first : ℕ) (lines : List (List ℕ)) (rule : RecordRule) (n : ℕ)
    → ((line : List ℕ) (more : List (List ℕ)) (rest : List ℕ) → lines ≡ line ∷ more
    → line ≡ codes "block " ++ rest → ⊥)
    → IsFirstBroken (awaits.Node v nodes 0) first lines rule n
    → IsFirstBroken (awaits.Range v nodes) first lines rule n
range_first v nodes first [] rule n other f = ((λ e. absurd (cc)), f.1, f.2)
range_first v nodes first (line ∷ lines) rule n other (inl b) =
    inl (range_broken v nodes line rule (λ rest e. other line lines rest refl e) b.0, b.1)
range_first v nodes first (line ∷ lines) rule n other (inr f) = inr (f.0, inr f.1, f.2)

range_faults : (v : Versions) (nodes : ℕ) (left : Left)
    → ((rest : List ℕ) → left.bytes ≡ codes "block " ++ rest → ⊥)
    → (e : RecordRefused) → IsFault (awaits.Node v nodes 0) left e → IsFault (awaits.Range v nodes) left e
range_faults v nodes left other OutOfMemory f = tt
range_faults v nodes left other (Broken rule n) f =
    range_first v nodes left.number (text_lines left.bytes) rule n (λ line more rest is e.
    let t = lines_begin left.bytes line more is in
    other (rest ++ t.0) (t.1 ∙ ap (λ l. l ++ t.0) e)) f

-- where no range stands, the first node is awaited
pub no_more_ranges : (v : Versions) (nodes : ℕ) (left : Left)
    → ((rest : List ℕ) → left.bytes ≡ codes "block " ++ rest → ⊥)
    → IsRead (awaits.Range v nodes) left [] (awaits.Node v nodes 0) left
no_more_ranges v nodes left other = record {
  bytes_are = refl;
  faults = range_faults v nodes left other;
}

pub range_grammar : (v : Versions) (nodes : ℕ) (line behind rest : List ℕ) → line ++ behind ≡ codes "block " ++ rest
    → ((r : BlockRange) → HasRange line r → ⊥) → IsInGrammar (awaits.Range v nodes) line → ⊥
range_grammar v nodes line behind rest e none (inl (r, h)) = none r h
range_grammar v nodes line behind rest e none (inr (n, h)) =
    let f = ap (λ l. l ++ behind) (sym h.line_is) ∙ e in
    let same : ◌≡◌ {A = ℕ} 110 98 = cc in
    absurd (omega (arith, same))

-- an error that a caller hands on
pub handed_on : {T : Type 0} (r : Result T RecordRefused) (P : RecordRefused → Type 0)
    (y e : RecordRefused) → r ≡ Err y → y ≡ e → P e → IfErr r P
handed_on r P y e is same h =
    let Q : RecordRefused → Type 0 = P in
    subst (λ x. IfErr x P) (sym is) (subst Q (sym same) h)

pub read_shorter : (s t : Awaits) (a b : Left) (x : List ℕ) → 0 < length x → IsRead s a x t b
    → length b.bytes < length a.bytes
read_shorter s t a b x some h =
    omega (arith, ap length h.bytes_are, length-append x b.bytes)
