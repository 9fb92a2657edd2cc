-- The text of a record has no line that breaks a rule.
use Rattle.std.proofs.Common.{◌≡◌, ◌≢◌, ℕ, ◌+◌, ◌/◌, ◌%◌, ◌^◌, ◌<◌, ◌≤◌, Bool, true, false, not, eqb, List, [], ◌∷◌, ◌++◌, length, Option, Some, None, refl, sym, ap, ◌∙◌, subst, inl, inr, append_assoc, arith}
use Rattle.std.specs.Prelude.{codes, IfSome}
use Rattle.std.specs.List.{All, list_all}
use Rattle.std.specs.Fmt.{decimal, digits, digit_glyph}
use Rattle.std.proofs.lemmas.Bool.{and_parts, cases_lt}
use Rattle.std.proofs.lemmas.Bool.Decides.{nat_tests}
use Rattle.block_layout.specs.declared.layout.BlockRange.{BlockRange}
use Rattle.node_model.specs.declared.Entry.{Entry}
use Rattle.rv32_text.specs.Listing.{word_digits}
use Rattle.run_limits.specs.Ranges.{IsNodeCount, IsBudget}
use Rattle.run_record.specs.declared.Record.{Record}
use Rattle.run_record.specs.declared.refused.RecordRule.{RecordRule}
use Rattle.run_record.specs.declared.refused.RecordRule.TheVariants as rules
use Rattle.run_record.specs.declared.line.TakeLine.{TakeLine}
use Rattle.run_record.specs.declared.version.Version.{Version as Versions}
use Rattle.run_record.specs.declared.version.Version.TheVariants.{First, Second}
use Rattle.run_record.specs.Record.{IsRecord, IsBlockLine, IsTakeBehind, AreTakesBehind, IsCodeLength}
use Rattle.run_record.specs.Rules.{Awaits, Version, Nodes, Budget, Batch, Code, Range, Node, Take, Nothing, Breaks, Leads, HasNumber, HasTake, HasBadStamp, IsBroken, IsFirstBroken, IsFirstFault, awaited_behind_batch, entry_of, node_awaited, number_of, number_of_version, stamp_of, text_lines}
use Rattle.run_record.specs.Telling.{HasWords, IsOfWords}
use Rattle.run_record.specs.Text.{number_line, version_of, version_line, batch_line, code_line, home_end, block_line, block_lines, take_line, told_of, take_lines, journal_lines, record_text}
use Rattle.run_record.proofs.Fields.{Without, decimal_without}
use Rattle.run_record.proofs.Growing.{awaited_here, awaited_end}
use Rattle.run_record.proofs.LineFeeds.{line_then}
use Rattle.run_record.proofs.Told.{AreLow, line_told, told_low, take_line_told, same_entry, first_of, rest_of, whole}

plain : (xs : List ℕ) → list_all (λ c. not (eqb c 10)) xs ≡ true → Without 10 xs
plain [] h = tt
plain (x ∷ xs) h =
    let both : (not (eqb x 10) ≡ true) × (list_all (λ c. not (eqb c 10)) xs ≡ true)
    = and_parts _ _ h in
    let other : not (eqb x 10) ≡ true = both.0 in
    ((λ same. grind (arith, nat_tests)), plain xs both.1)

joined : (xs ys : List ℕ) → Without 10 xs → Without 10 ys → Without 10 (xs ++ ys)
joined [] ys p q = q
joined (x ∷ xs) ys p q = (p.0, joined xs ys p.1 q)

digits_plain : (n : ℕ) → n < 2 ^ 64 → Without 10 (decimal n)
digits_plain n low = decimal_without 10 n (omega arith) low

glyph_plain : (v : ℕ) → v < 16 → digit_glyph false v ≢ 10
glyph_plain v low e = grind (arith, nat_tests)

word_plain : (n : ℕ) → Without 10 (word_digits n)
unfolding word_digits
word_plain n =
    (glyph_plain (n / 2 ^ 28 % 16) (omega arith), (glyph_plain (n / 2 ^ 24 % 16) (omega arith), (glyph_plain (n / 2 ^ 20 % 16) (omega arith), (glyph_plain (n / 2 ^ 16 % 16) (omega arith), (glyph_plain (n / 2 ^ 12 % 16) (omega arith), (glyph_plain (n / 2 ^ 8 % 16) (omega arith), (glyph_plain (n / 2 ^ 4 % 16) (omega arith), (glyph_plain (n / 2 ^ 0 % 16) (omega arith), tt))))))))

-- a text that ends with its only line feed
record IsLine (line : List ℕ) : Type 0 where
  pub front : List ℕ
  pub line_is : line ≡ front ++ 10 ∷ []
  pub plain : Without 10 front

stands : (line rest : List ℕ) → IsLine line → text_lines (line ++ rest) ≡ line ∷ text_lines rest
stands line rest h =
    ap (λ l. text_lines (l ++ rest)) h.line_is
    ∙ ap text_lines (append_assoc h.front (10 ∷ []) rest)
    ∙ line_then h.front rest h.plain
    ∙ ap (λ l. l ∷ text_lines rest) (sym h.line_is)

number_is_line : (word : List ℕ) (n : ℕ) → Without 10 word → n < 2 ^ 64
    → IsLine (number_line word n)
number_is_line word n p low = record {
  front = word ++ decimal n;
  line_is = sym (append_assoc word (decimal n) (10 ∷ []));
  plain = joined word (decimal n) p (digits_plain n low);
}

batch_is_line : (b : Bool) → IsLine (batch_line b)
batch_is_line true = record { front = codes "batch 1"; line_is = refl; plain = plain (codes "batch 1") refl }
batch_is_line false = record { front = codes "batch 0"; line_is = refl; plain = plain (codes "batch 0") refl }

end_is_line : IsLine (codes "end\n")
end_is_line = record { front = codes "end"; line_is = refl; plain = plain (codes "end") refl }

behind_is_line : (xs line : List ℕ) → Without 10 xs → IsLine line → IsLine (xs ++ line)
behind_is_line xs line p h = record {
  front = xs ++ h.front;
  line_is = ap (λ l. xs ++ l) h.line_is ∙ sym (append_assoc xs h.front (10 ∷ []));
  plain = joined xs h.front p h.plain;
}

home_is_line : (home : Option ℕ) → IfSome home (λ n. n ≤ 99) → IsLine (home_end home)
home_is_line None few = record { front = codes " *"; line_is = refl; plain = plain (codes " *") refl }
home_is_line (Some n) few = number_is_line (codes " ") n (plain (codes " ") refl) (omega (arith, few))

block_is_line : (r : BlockRange) → IsBlockLine r → IsLine (block_line r)
block_is_line r h =
    behind_is_line (codes "block 0x") _ (plain (codes "block 0x") refl)
    (behind_is_line (word_digits r.start) _ (word_plain r.start)
    (behind_is_line (codes " 0x") _ (plain (codes " 0x") refl)
    (behind_is_line (word_digits r.length) _ (word_plain r.length)
    (behind_is_line (codes " ") _ (plain (codes " ") refl)
    (behind_is_line (decimal r.block) _ (digits_plain r.block (omega (arith, h.size)))
    (home_is_line r.home h.home))))))

take_is_line : (t : TakeLine) → AreLow t → IsLine (take_line t)
take_is_line t p =
    behind_is_line (codes "take ") _ (plain (codes "take ") refl)
    (behind_is_line (decimal t.stamp_or_gap) _ (digits_plain t.stamp_or_gap (omega (arith, p.stamp_or_gap)))
    (behind_is_line (codes " ") _ (plain (codes " ") refl)
    (behind_is_line (decimal t.from) _ (digits_plain t.from (omega (arith, p.from)))
    (number_is_line (codes " ") t.words (plain (codes " ") refl) (omega (arith, p.words))))))

-- the line breaks no rule, and only this is awaited behind it
record Goes (s : Awaits) (line : List ℕ) (t : Awaits) : Type 0 where
  pub sound : (rule : RecordRule) → Breaks s line rule → ⊥
  pub only : (u : Awaits) → Leads s line u → u ≡ t

goes_on : (s t : Awaits) (line rest : List ℕ) (k : ℕ) (rule : RecordRule) (n : ℕ) → IsLine line
    → Goes s line t → IsFirstBroken s k (text_lines (line ++ rest)) rule n
    → IsFirstBroken t (k + 1) (text_lines rest) rule n
goes_on s t line rest k rule n is goes f =
    let P : List (List ℕ) → Type 0 = λ ls. IsFirstBroken s k ls rule n in
    go (subst P (stands line rest is) f)
  where
    go : IsFirstBroken s k (line ∷ text_lines rest) rule n
        → IsFirstBroken t (k + 1) (text_lines rest) rule n
    go (inl b) = absurd (goes.sound rule b.0.breaks)
    go (inr f) =
        let Q : Awaits → Type 0 = λ u. IsFirstBroken u (k + 1) (text_lines rest) rule n in
        subst Q (goes.only f.0 f.1) f.2

number_same : (word : List ℕ) (m n : ℕ) → m < 2 ^ 64 → n < 2 ^ 64
    → number_line word m ≡ number_line word n → m ≡ n
number_same word m n p q e = (line_told word m n [] [] p q (ap (λ t. t ++ []) e)).0

pub version_numbered : (v : Versions)
    → number_line (codes "shasta-record ") (number_of_version v) ≡ version_line v
unfolding digits
version_numbered First = refl
version_numbered Second = refl

pub low_version : (v : Versions) → number_of_version v < 2 ^ 63
low_version First = omega arith
low_version Second = omega arith

same_version : (v w : Versions) → number_of_version v ≡ number_of_version w → v ≡ w
same_version First First e = refl
same_version First Second e = absurd (omega (arith, e))
same_version Second First e = absurd (omega (arith, e))
same_version Second Second e = refl

version_goes : (v : Versions)
    → Goes Version (number_line (codes "shasta-record ") (number_of_version v)) (Nodes v)
version_goes v = record { sound = sound; only = only }
  where
    same : (n : ℕ) → HasNumber (number_line (codes "shasta-record ") (number_of_version v)) (codes "shasta-record ") n
        → n ≡ number_of_version v
    same n h = sym (number_same (codes "shasta-record ") (number_of_version v) n (omega (arith, low_version v)) (omega (arith, h.low)) h.line_is)

    sound : (rule : RecordRule)
        → Breaks Version (number_line (codes "shasta-record ") (number_of_version v)) rule → ⊥
    sound rules.Syntax b = b (number_of_version v, record { line_is = refl; low = low_version v })
    sound rules.Stamps b = b
    sound rules.Node b = b
    sound rules.Version b = b.2 v (same b.0 b.1)
    sound rules.Code b = b

    only : (u : Awaits)
        → Leads Version (number_line (codes "shasta-record ") (number_of_version v)) u → u ≡ Nodes v
    only u l = l.2 ∙ ap Nodes (same_version l.0 v (same (number_of_version l.0) l.1))

nodes_goes : (v : Versions) (n : ℕ) → IsNodeCount n
    → Goes (Nodes v) (number_line (codes "nodes ") n) (Budget v n)
nodes_goes v n h = record { sound = sound; only = only }
  where
    sound : (rule : RecordRule) → Breaks (Nodes v) (number_line (codes "nodes ") n) rule → ⊥
    sound rules.Syntax b = b (n, record { line_is = refl; low = omega (arith, h) })
    sound rules.Stamps b = b
    sound rules.Node b =
        let same : n ≡ b.0 = number_same (codes "nodes ") n b.0 (omega (arith, h)) (omega (arith, b.1.low)) b.1.line_is in
        b.2 (subst IsNodeCount same h)
    sound rules.Version b = b
    sound rules.Code b = b

    only : (u : Awaits) → Leads (Nodes v) (number_line (codes "nodes ") n) u → u ≡ Budget v n
    only u l =
        let same : n ≡ l.0 = number_same (codes "nodes ") n l.0 (omega (arith, h)) (omega (arith, l.1.low)) l.1.line_is in
        l.3 ∙ ap (Budget v) (sym same)

budget_goes : (v : Versions) (nodes n : ℕ) → IsBudget n
    → Goes (Budget v nodes) (number_line (codes "budget ") n) (Batch v nodes)
budget_goes v nodes n h = record { sound = sound; only = λ u l. l.3 }
  where
    sound : (rule : RecordRule) → Breaks (Budget v nodes) (number_line (codes "budget ") n) rule → ⊥
    sound rules.Syntax b = b (n, refl, h)
    sound rules.Stamps b = b
    sound rules.Node b = b
    sound rules.Version b = b
    sound rules.Code b = b

batch_goes : (v : Versions) (nodes : ℕ) (a : Bool)
    → Goes (Batch v nodes) (batch_line a) (awaited_behind_batch v nodes)
batch_goes v nodes a = record { sound = sound; only = λ u l. l.2 }
  where
    sound : (rule : RecordRule) → Breaks (Batch v nodes) (batch_line a) rule → ⊥
    sound rules.Syntax b = b (a, refl)
    sound rules.Stamps b = b
    sound rules.Node b = b
    sound rules.Version b = b
    sound rules.Code b = b

code_goes : (nodes n : ℕ) → IsCodeLength n
    → Goes (Code nodes) (number_line (codes "code ") n) (Range Second nodes)
code_goes nodes n h = record { sound = sound; only = λ u l. l.3 }
  where
    sound : (rule : RecordRule) → Breaks (Code nodes) (number_line (codes "code ") n) rule → ⊥
    sound rules.Syntax b = b (n, refl, h)
    sound rules.Stamps b = b
    sound rules.Node b = b
    sound rules.Version b = b
    sound rules.Code b = b

not_block : (r : BlockRange) (n : ℕ) → block_line r ≡ number_line (codes "node ") n → ⊥
not_block r n e = let same : ◌≡◌ {A = ℕ} 98 110 = cc in absurd (omega (arith, same))

not_take : (t : TakeLine) → take_line t ≡ codes "end\n" → ⊥
not_take t is = let same : ◌≡◌ {A = ℕ} 116 101 = cc in absurd (omega (arith, same))

range_goes : (v : Versions) (nodes : ℕ) (r : BlockRange) → IsBlockLine r → HasWords r
    → Goes (Range v nodes) (block_line r) (Range v nodes)
range_goes v nodes r p h = record { sound = sound; only = only }
  where
    sound : (rule : RecordRule) → Breaks (Range v nodes) (block_line r) rule → ⊥
    sound rules.Syntax b = b (inl (r, record { line_is = refl; digits = p; words = h }))
    sound rules.Stamps b = b
    sound rules.Node b = not_block r b.0 b.1.line_is
    sound rules.Version b = b
    sound rules.Code b = b

    only : (u : Awaits) → Leads (Range v nodes) (block_line r) u → u ≡ Range v nodes
    only u (inl l) = l.2
    only u (inr l) = absurd (not_block r 0 l.0.line_is)

other_node : (node : ℕ) → node < 2 ^ 64 → (m : ℕ)
    → HasNumber (number_line (codes "node ") node) (codes "node ") m → m ≡ node
other_node node low m h =
    sym (number_same (codes "node ") node m low (omega (arith, h.low)) h.line_is)

first_goes : (v : Versions) (nodes : ℕ) → Goes (Range v nodes) (number_line (codes "node ") 0) (Take v nodes 0 0)
first_goes v nodes = record { sound = sound; only = only }
  where
    sound : (rule : RecordRule) → Breaks (Range v nodes) (number_line (codes "node ") 0) rule → ⊥
    sound rules.Syntax b = b (inr (0, record { line_is = refl; low = omega arith }))
    sound rules.Stamps b = b
    sound rules.Node b = b.2 (other_node 0 (omega arith) b.0 b.1)
    sound rules.Version b = b
    sound rules.Code b = b

    only : (u : Awaits) → Leads (Range v nodes) (number_line (codes "node ") 0) u → u ≡ Take v nodes 0 0
    only u (inl l) = absurd (not_block l.0 0 (sym l.1.line_is))
    only u (inr l) = l.1

node_goes : (v : Versions) (nodes node : ℕ) → node < 2 ^ 63
    → Goes (Node v nodes node) (number_line (codes "node ") node) (Take v nodes node 0)
node_goes v nodes node low = record { sound = sound; only = λ u l. l.1 }
  where
    sound : (rule : RecordRule) → Breaks (Node v nodes node) (number_line (codes "node ") node) rule → ⊥
    sound rules.Syntax b = b (node, record { line_is = refl; low = low })
    sound rules.Stamps b = b
    sound rules.Node b = b.2 (other_node node (omega arith) b.0 b.1)
    sound rules.Version b = b
    sound rules.Code b = b

not_bad : (v : Versions) (nodes last : ℕ) (t : TakeLine)
    → IsTakeBehind nodes last (entry_of v last t) → HasBadStamp v last t → ⊥
not_bad First nodes last t p b = omega (arith, p.stamp, b)
not_bad Second nodes last t p b = omega (arith, p.low, b)

take_goes : (v : Versions) (nodes node last : ℕ) (t : TakeLine) → AreLow t
    → IsTakeBehind nodes last (entry_of v last t)
    → Goes (Take v nodes node last) (take_line t) (Take v nodes node (stamp_of v last t))
take_goes v nodes node last t low p = record { sound = sound; only = only }
  where
    same : (u : TakeLine) → HasTake (take_line t) u → u ≡ t
    same u h =
        let numbers : AreLow u = record { stamp_or_gap = h.stamp_or_gap; from = h.from; words = h.words } in
        sym (take_line_told t u [] [] low numbers (ap (λ l. l ++ []) h.line_is)).0

    sound : (rule : RecordRule) → Breaks (Take v nodes node last) (take_line t) rule → ⊥
    sound rules.Syntax b = b (inl (
      t,
      record {
        line_is = refl;
        stamp_or_gap = low.stamp_or_gap;
        from = low.from;
        words = low.words;
      },
    ))
    sound rules.Stamps b =
        not_bad v nodes last t p (subst (HasBadStamp v last) (same b.0 b.1) b.2)
    sound rules.Node b =
        let from = ap (λ x. x.from) (same b.0 b.1) in omega (arith, from, p.from, b.2)
    sound rules.Version b = b
    sound rules.Code b = b

    only : (u : Awaits) → Leads (Take v nodes node last) (take_line t) u
        → u ≡ Take v nodes node (stamp_of v last t)
    only u (inl l) = l.3 ∙ ap (λ x. Take v nodes node (stamp_of v last x)) (same l.0 l.1)
    only u (inr l) = absurd (not_take t l.0)

-- what a line tells behind a stamp is the take that it was written for
entry_again : (v : Versions) (nodes last : ℕ) (e : Entry) → IsTakeBehind nodes last e
    → entry_of v last (told_of v last e) ≡ e
entry_again First nodes last e p = same_entry _ e refl refl refl
entry_again Second nodes last e p = same_entry _ e (omega (arith, p.stamp)) refl refl

entry_goes : (v : Versions) (nodes node last : ℕ) (e : Entry) → nodes ≤ 16
    → IsTakeBehind nodes last e
    → Goes (Take v nodes node last) (take_line (told_of v last e)) (Take v nodes node e.stamp)
entry_goes v nodes node last e few p =
    let again = entry_again v nodes last e p in
    subst (λ n. Goes (Take v nodes node last) (take_line (told_of v last e)) (Take v nodes node n))
    (ap (λ x. x.stamp) again)
    (take_goes v nodes node last (told_of v last e) (told_low v nodes last e few p)
    (subst (IsTakeBehind nodes last) (sym again) p))

end_goes : (v : Versions) (nodes node last : ℕ)
    → Goes (Take v nodes node last) (codes "end\n") (node_awaited v nodes (node + 1))
end_goes v nodes node last = record { sound = sound; only = only }
  where
    sound : (rule : RecordRule) → Breaks (Take v nodes node last) (codes "end\n") rule → ⊥
    sound rules.Syntax b = b (inr refl)
    sound rules.Stamps b = not_take b.0 (sym b.1.line_is)
    sound rules.Node b = not_take b.0 (sym b.1.line_is)
    sound rules.Version b = b
    sound rules.Code b = b

    only : (u : Awaits) → Leads (Take v nodes node last) (codes "end\n") u
        → u ≡ node_awaited v nodes (node + 1)
    only u (inl l) = absurd (not_take l.0 (sym l.1.line_is))
    only u (inr l) = l.1

moved : (s : Awaits) (line x : List ℕ) (t u : Awaits) → line ≡ x → u ≡ t → Goes s x t
    → Goes s line u
moved s line x t u is same g =
    subst (λ l. Goes s l u) (sym is) (subst (Goes s x) (sym same) g)

leads_goes : (s u : Awaits) (line : List ℕ) → Leads s line u → Goes s line u
leads_goes Version u line l = moved Version line _ _ u l.1.line_is l.2 (version_goes l.0)
leads_goes (Nodes v) u line l = moved (Nodes v) line _ _ u l.1.line_is l.3 (nodes_goes v l.0 l.2)
leads_goes (Budget v nodes) u line l =
    moved (Budget v nodes) line _ _ u l.1 l.3 (budget_goes v nodes l.0 l.2)
leads_goes (Batch v nodes) u line l =
    moved (Batch v nodes) line _ _ u l.1 l.2 (batch_goes v nodes l.0)
leads_goes (Code nodes) u line l = moved (Code nodes) line _ _ u l.1 l.3 (code_goes nodes l.0 l.2)
leads_goes (Range v nodes) u line (inl l) =
    moved (Range v nodes) line _ _ u l.1.line_is l.2 (range_goes v nodes l.0 l.1.digits l.1.words)
leads_goes (Range v nodes) u line (inr l) =
    moved (Range v nodes) line _ _ u l.0.line_is l.1 (first_goes v nodes)
leads_goes (Node v nodes node) u line l =
    moved (Node v nodes node) line _ _ u l.0.line_is l.1 (node_goes v nodes node l.0.low)
leads_goes (Take v nodes node last) u line (inl l) =
    let low : AreLow l.0 = record { stamp_or_gap = l.1.stamp_or_gap; from = l.1.from; words = l.1.words } in
    moved (Take v nodes node last) line _ _ u l.1.line_is l.3
    (take_goes v nodes node last l.0 low l.2)
leads_goes (Take v nodes node last) u line (inr l) =
    moved (Take v nodes node last) line _ _ u l.0 l.1 (end_goes v nodes node last)
leads_goes Nothing u line l = absurd l

number_tells : (a b : RecordRule) → number_of a ≡ number_of b → a ≡ b
number_tells rules.Syntax rules.Syntax e = refl
number_tells rules.Syntax rules.Stamps e = absurd (omega (arith, e))
number_tells rules.Syntax rules.Node e = absurd (omega (arith, e))
number_tells rules.Syntax rules.Version e = absurd (omega (arith, e))
number_tells rules.Syntax rules.Code e = absurd (omega (arith, e))
number_tells rules.Stamps rules.Syntax e = absurd (omega (arith, e))
number_tells rules.Stamps rules.Stamps e = refl
number_tells rules.Stamps rules.Node e = absurd (omega (arith, e))
number_tells rules.Stamps rules.Version e = absurd (omega (arith, e))
number_tells rules.Stamps rules.Code e = absurd (omega (arith, e))
number_tells rules.Node rules.Syntax e = absurd (omega (arith, e))
number_tells rules.Node rules.Stamps e = absurd (omega (arith, e))
number_tells rules.Node rules.Node e = refl
number_tells rules.Node rules.Version e = absurd (omega (arith, e))
number_tells rules.Node rules.Code e = absurd (omega (arith, e))
number_tells rules.Version rules.Syntax e = absurd (omega (arith, e))
number_tells rules.Version rules.Stamps e = absurd (omega (arith, e))
number_tells rules.Version rules.Node e = absurd (omega (arith, e))
number_tells rules.Version rules.Version e = refl
number_tells rules.Version rules.Code e = absurd (omega (arith, e))
number_tells rules.Code rules.Syntax e = absurd (omega (arith, e))
number_tells rules.Code rules.Stamps e = absurd (omega (arith, e))
number_tells rules.Code rules.Node e = absurd (omega (arith, e))
number_tells rules.Code rules.Version e = absurd (omega (arith, e))
number_tells rules.Code rules.Code e = refl

same_rule : (s : Awaits) (line : List ℕ) (a b : RecordRule) → IsBroken s line a
    → IsBroken s line b → a ≡ b
same_rule s line a b f g = elim (cases_lt (number_of a) (number_of b)) [
  | inl less ↦ absurd (g.lowest a less f.breaks)
  | inr more ↦ elim (cases_lt (number_of b) (number_of a)) [
    | inl less ↦ absurd (f.lowest b less g.breaks)
    | inr most ↦ number_tells a b (omega arith)
  ]
]

one_broken : (s : Awaits) (k : ℕ) (lines : List (List ℕ)) (a b : RecordRule) (m n : ℕ)
    → IsFirstBroken s k lines a m → IsFirstBroken s k lines b n → (a ≡ b) × (m ≡ n)
one_broken s k [] a b m n f g = (f.1 ∙ sym g.1, f.2 ∙ sym g.2)
one_broken s k (line ∷ lines) a b m n (inl f) (inl g) =
    (same_rule s line a b f.0 g.0, f.1 ∙ sym g.1)
one_broken s k (line ∷ lines) a b m n (inl f) (inr g) =
    absurd ((leads_goes s g.0 line g.1).sound a f.0.breaks)
one_broken s k (line ∷ lines) a b m n (inr f) (inl g) =
    absurd ((leads_goes s f.0 line f.1).sound b g.0.breaks)
one_broken s k (line ∷ lines) a b m n (inr f) (inr g) =
    let Q : Awaits → Type 0 = λ u. IsFirstBroken u (k + 1) lines b n in
    one_broken f.0 (k + 1) lines a b m n f.2
    (subst Q ((leads_goes s f.0 line f.1).only g.0 g.1) g.2)

-- a text has one first fault at most
pub one_fault : (text : List ℕ) (a b : RecordRule) (m n : ℕ) → IsFirstFault text a m
    → IsFirstFault text b n → (a ≡ b) × (m ≡ n)
one_fault text a b m n f g = one_broken Version 1 (text_lines text) a b m n f g

-- a fault that stands in the lines behind
Later : Awaits → List ℕ → RecordRule → ℕ → Type 0
Later s text rule n = (k : ℕ) × IsFirstBroken s k (text_lines text) rule n

code_go : (nodes k : ℕ) (code : Option ℕ) (rest : List ℕ) (rule : RecordRule) (n : ℕ)
    → IfSome code IsCodeLength
    → IsFirstBroken (awaited_behind_batch (version_of code) nodes) k
    (text_lines (code_line code ++ rest)) rule n → Later (Range (version_of code) nodes) rest rule n
unfolding Later
code_go nodes k None rest rule n h f = (k, f)
code_go nodes k (Some words) rest rule n h f = (
  k + 1,
  goes_on (Code nodes) (Range Second nodes) (number_line (codes "code ") words) rest k rule n
      (number_is_line (codes "code ") words (plain (codes "code ") refl) (omega (arith, h.few)))
      (code_goes nodes words h) f,
)

blocks_go : (v : Versions) (nodes k : ℕ) (rs : List BlockRange) (rest : List ℕ) (rule : RecordRule) (n : ℕ)
    → All IsBlockLine rs → All HasWords rs
    → IsFirstBroken (Range v nodes) k (text_lines (block_lines rs ++ rest)) rule n
    → Later (Range v nodes) rest rule n
unfolding Later
blocks_go v nodes k [] rest rule n p h f = (k, f)
blocks_go v nodes k (r ∷ rs) rest rule n p h f =
    let one = first_of IsBlockLine r rs p in
    let P : List ℕ → Type 0 = λ t. IsFirstBroken (Range v nodes) k (text_lines t) rule n in
    blocks_go v nodes (k + 1) rs rest rule n (rest_of IsBlockLine r rs p) (rest_of HasWords r rs h)
    (goes_on (Range v nodes) (Range v nodes) (block_line r) (block_lines rs ++ rest) k rule n
    (block_is_line r one) (range_goes v nodes r one (first_of HasWords r rs h))
    (subst P (append_assoc (block_line r) (block_lines rs) rest) f))

takes_go : (v : Versions) (nodes node last k : ℕ) (es : List Entry) (rest : List ℕ)
    (rule : RecordRule) (n : ℕ) → nodes ≤ 16 → AreTakesBehind nodes last es
    → IsFirstBroken (Take v nodes node last) k
    (text_lines (take_lines v last es ++ (codes "end\n" ++ rest))) rule n
    → Later (node_awaited v nodes (node + 1)) rest rule n
unfolding Later
takes_go v nodes node last k [] rest rule n few p f = (
  k + 1,
  goes_on (Take v nodes node last) (node_awaited v nodes (node + 1)) (codes "end\n") rest k rule n
      end_is_line (end_goes v nodes node last) f,
)
takes_go v nodes node last k (e ∷ es) rest rule n few p f =
    let P : List ℕ → Type 0 = λ t. IsFirstBroken (Take v nodes node last) k (text_lines t) rule n in
    takes_go v nodes node e.stamp (k + 1) es rest rule n few p.1
    (goes_on (Take v nodes node last) (Take v nodes node e.stamp) (take_line (told_of v last e))
    (take_lines v e.stamp es ++ (codes "end\n" ++ rest)) k rule n
    (take_is_line (told_of v last e) (told_low v nodes last e few p.0))
    (entry_goes v nodes node last e few p.0)
    (subst P (append_assoc (take_line (told_of v last e)) (take_lines v e.stamp es)
    (codes "end\n" ++ rest)) f))

journals_go : (v : Versions) (nodes node k : ℕ) (js : List (List Entry)) (rule : RecordRule)
    (n : ℕ) → nodes ≤ 16 → node + length js ≡ nodes → All (AreTakesBehind nodes 0) js
    → IsFirstBroken (node_awaited v nodes node) k (text_lines (journal_lines v node js)) rule n → ⊥
unfolding Later
journals_go v nodes node k [] rule n few all p f =
    let Q : Awaits → Type 0 = λ s. IsFirstBroken s k [] rule n in
    (subst Q (awaited_end v nodes node (omega (arith, all))) f).0 refl
journals_go v nodes node k (j ∷ js) rule n few all p f =
    let Q : Awaits → Type 0 = λ s. IsFirstBroken s k (text_lines (journal_lines v node (j ∷ js))) rule n in
    let first = goes_on (Node v nodes node) (Take v nodes node 0) (number_line (codes "node ") node)
    (take_lines v 0 j ++ (codes "end\n" ++ journal_lines v (node + 1) js)) k rule n
    (number_is_line (codes "node ") node (plain (codes "node ") refl) (omega (arith, all, few)))
    (node_goes v nodes node (omega (arith, all, few)))
    (subst Q (awaited_here v nodes node (omega (arith, all))) f) in
    let takes = takes_go v nodes node 0 (k + 1) j (journal_lines v (node + 1) js) rule n few
    (first_of (AreTakesBehind nodes 0) j js p) first in
    journals_go v nodes (node + 1) takes.0 js rule n few (omega (arith, all))
    (rest_of (AreTakesBehind nodes 0) j js p) takes.1

first_journal_go : (v : Versions) (nodes k : ℕ) (js : List (List Entry)) (rule : RecordRule)
    (n : ℕ) → nodes ≤ 16 → 0 < nodes → length js ≡ nodes → All (AreTakesBehind nodes 0) js
    → IsFirstBroken (Range v nodes) k (text_lines (journal_lines v 0 js)) rule n → ⊥
unfolding Later
first_journal_go v nodes k [] rule n few some all p f = absurd (omega (arith, all))
first_journal_go v nodes k (j ∷ js) rule n few some all p f =
    let first = goes_on (Range v nodes) (Take v nodes 0 0) (number_line (codes "node ") 0)
    (take_lines v 0 j ++ (codes "end\n" ++ journal_lines v 1 js)) k rule n
    (number_is_line (codes "node ") 0 (plain (codes "node ") refl) (omega arith))
    (first_goes v nodes) f in
    let takes = takes_go v nodes 0 0 (k + 1) j (journal_lines v 1 js) rule n few
    (first_of (AreTakesBehind nodes 0) j js p) first in
    journals_go v nodes 1 takes.0 js rule n few (omega (arith, all))
    (rest_of (AreTakesBehind nodes 0) j js p) takes.1

pub no_fault : (r : Record) → IsRecord r → IsOfWords r → (rule : RecordRule) (n : ℕ)
    → IsFirstFault (record_text r) rule n → ⊥
unfolding Later
no_fault r p h rule n f =
    let v = version_of r.code in
    let first = number_line (codes "shasta-record ") (number_of_version v) in
    let blocks = block_lines r.blocks ++ journal_lines v 0 r.journals in
    let code = code_line r.code ++ blocks in
    let batch = batch_line r.batch ++ code in
    let budget = number_line (codes "budget ") r.budget ++ batch in
    let nodes = number_line (codes "nodes ") r.nodes ++ budget in
    let P : List ℕ → Type 0 = λ t. IsFirstBroken Version 1 (text_lines t) rule n in
    let is : record_text r ≡ first ++ nodes
    = whole r ∙ ap (λ l. l ++ nodes) (sym (version_numbered v)) in
    let a = goes_on Version (Nodes v) first nodes 1 rule n
    (number_is_line (codes "shasta-record ") (number_of_version v)
    (plain (codes "shasta-record ") refl) (omega (arith, low_version v)))
    (version_goes v) (subst P is f) in
    let b = goes_on (Nodes v) (Budget v r.nodes) (number_line (codes "nodes ") r.nodes) budget 2 rule n
    (number_is_line (codes "nodes ") r.nodes (plain (codes "nodes ") refl) (omega (arith, p.nodes)))
    (nodes_goes v r.nodes p.nodes) a in
    let c = goes_on (Budget v r.nodes) (Batch v r.nodes) (number_line (codes "budget ") r.budget)
    batch 3 rule n (number_is_line (codes "budget ") r.budget (plain (codes "budget ") refl)
    (omega (arith, p.budget))) (budget_goes v r.nodes r.budget p.budget) b in
    let d = goes_on (Batch v r.nodes) (awaited_behind_batch v r.nodes) (batch_line r.batch) code 4
    rule n (batch_is_line r.batch) (batch_goes v r.nodes r.batch) c in
    let e = code_go r.nodes 5 r.code blocks rule n p.code d in
    let g = blocks_go v r.nodes e.0 r.blocks (journal_lines v 0 r.journals) rule n p.blocks h e.1 in
    first_journal_go v r.nodes g.0 r.journals rule n (omega (arith, p.nodes))
    (omega (arith, p.nodes)) p.each p.journals g.1
