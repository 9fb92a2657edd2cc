-- The text of a record tells the record.
use Rattle.std.proofs.Common.{◌≡◌, ℕ, suc, ◌+◌, ◌-◌, ◌^◌, ◌<◌, ◌≤◌, Bool, true, false, List, [], ◌∷◌, ◌++◌, length, refl, sym, ap, ◌∙◌, subst, arith, append_assoc}
use Rattle.std.specs.Prelude.{Option, Some, None, All, IfSome, codes}
use Rattle.std.specs.Fmt.{decimal}
use Rattle.std.proofs.lemmas.List.{append_cancel_left}
use Rattle.rv32_text.specs.Listing.{word_digits}
use Rattle.block_layout.specs.declared.layout.BlockRange.{BlockRange}
use Rattle.node_model.specs.declared.Entry.{Entry}
use Rattle.run_record.specs.declared.Record.{Record}
use Rattle.run_record.specs.declared.line.TakeLine.{TakeLine}
use Rattle.run_record.specs.declared.version.Version.{Version}
use Rattle.run_record.specs.declared.version.Version.TheVariants.{First, Second}
use Rattle.run_record.specs.Record.{IsBlockLine, IsTakeBehind, AreTakesBehind, IsCodeLength, IsRecord}
use Rattle.run_record.specs.Telling.{HasWords, IsOfWords}
use Rattle.run_record.specs.Text.{number_line, version_of, version_line, batch_line, code_line, home_end, block_line, block_lines, take_line, told_of, take_lines, journal_lines, record_text}
use Rattle.run_record.proofs.Fields.{number_told, star_told, word_told}

-- the end of a line
pub line_told : (before : List ℕ) (m n : ℕ) (us vs : List ℕ) → m < 2 ^ 64 → n < 2 ^ 64
    → number_line before m ++ us ≡ number_line before n ++ vs → (m ≡ n) × (us ≡ vs)
line_told before m n us vs p q e =
    let tail = append_cancel_left before (decimal m ++ 10 ∷ us) (decimal n ++ 10 ∷ vs)
    (simp append_assoc at e) in
    number_told 10 m n us vs (omega arith) p q tail

batch_told : (a b : Bool) (us vs : List ℕ) → batch_line a ++ us ≡ batch_line b ++ vs
    → (a ≡ b) × (us ≡ vs)
batch_told true true us vs e = let rest : us ≡ vs = cc in (refl, rest)
batch_told false false us vs e = let rest : us ≡ vs = cc in (refl, rest)
batch_told true false us vs e = let same : ◌≡◌ {A = ℕ} 49 48 = cc in absurd (omega (arith, same))
batch_told false true us vs e = let same : ◌≡◌ {A = ℕ} 48 49 = cc in absurd (omega (arith, same))

version_told : (a b : Version) (us vs : List ℕ) → version_line a ++ us ≡ version_line b ++ vs
    → (a ≡ b) × (us ≡ vs)
version_told First First us vs e = let rest : us ≡ vs = cc in (refl, rest)
version_told Second Second us vs e = let rest : us ≡ vs = cc in (refl, rest)
version_told First Second us vs e =
    let same : ◌≡◌ {A = ℕ} 49 50 = cc in absurd (omega (arith, same))
version_told Second First us vs e =
    let same : ◌≡◌ {A = ℕ} 50 49 = cc in absurd (omega (arith, same))

code_told : (a b : Option ℕ) (us vs : List ℕ) → version_of a ≡ version_of b
    → IfSome a IsCodeLength → IfSome b IsCodeLength → code_line a ++ us ≡ code_line b ++ vs
    → (a ≡ b) × (us ≡ vs)
code_told None None us vs v p q e = (refl, e)
code_told None (Some n) us vs v p q e = absurd (cc)
code_told (Some m) None us vs v p q e = absurd (cc)
code_told (Some m) (Some n) us vs v p q e =
    let both = line_told (codes "code ") m n us vs (omega (arith, p.few)) (omega (arith, q.few)) e in
    (ap Some both.0, both.1)

home_told : (a b : Option ℕ) (us vs : List ℕ) → IfSome a (λ node. node ≤ 99)
    → IfSome b (λ node. node ≤ 99) → home_end a ++ us ≡ home_end b ++ vs → (a ≡ b) × (us ≡ vs)
home_told None None us vs p q e = let rest : us ≡ vs = cc in (refl, rest)
home_told None (Some n) us vs p q e =
    let tail : 42 ∷ 10 ∷ us ≡ (decimal n ++ 10 ∷ []) ++ vs = cc in
    absurd (star_told n (10 ∷ us) vs (omega (arith, q)) (simp append_assoc at tail))
home_told (Some m) None us vs p q e =
    let tail : 42 ∷ 10 ∷ vs ≡ (decimal m ++ 10 ∷ []) ++ us = cc in
    absurd (star_told m (10 ∷ vs) us (omega (arith, p)) (simp append_assoc at tail))
home_told (Some m) (Some n) us vs p q e =
    let both = line_told (codes " ") m n us vs (omega (arith, p)) (omega (arith, q)) e in
    (ap Some both.0, both.1)

pub same_range : (r s : BlockRange) → r.start ≡ s.start → r.length ≡ s.length → r.block ≡ s.block
    → r.home ≡ s.home → r ≡ s
same_range r s a b d e =
    let first : r ≡ record { start = r.start; length = r.length; block = r.block; home = r.home }
    = refl in
    let second : s ≡ record { start = s.start; length = s.length; block = s.block; home = s.home }
    = refl in
    cc

pub same_entry : (r s : Entry) → r.stamp ≡ s.stamp → r.from ≡ s.from → r.words ≡ s.words → r ≡ s
same_entry r s a b d =
    let first : r ≡ record { stamp = r.stamp; from = r.from; words = r.words } = refl in
    let second : s ≡ record { stamp = s.stamp; from = s.from; words = s.words } = refl in
    cc

pub same_take : (r s : TakeLine) → r.stamp_or_gap ≡ s.stamp_or_gap → r.from ≡ s.from
    → r.words ≡ s.words → r ≡ s
same_take r s a b d =
    let first : r ≡ record { stamp_or_gap = r.stamp_or_gap; from = r.from; words = r.words } = refl in
    let second : s ≡ record { stamp_or_gap = s.stamp_or_gap; from = s.from; words = s.words } = refl in
    cc

same_record : (r s : Record) → r.nodes ≡ s.nodes → r.budget ≡ s.budget → r.batch ≡ s.batch
    → r.code ≡ s.code → r.blocks ≡ s.blocks → r.journals ≡ s.journals → r ≡ s
same_record r s a b d c e f =
    let first : r ≡ record {
      nodes = r.nodes;
      budget = r.budget;
      batch = r.batch;
      code = r.code;
      blocks = r.blocks;
      journals = r.journals;
    } = refl in
    let second : s ≡ record {
      nodes = s.nodes;
      budget = s.budget;
      batch = s.batch;
      code = s.code;
      blocks = s.blocks;
      journals = s.journals;
    } = refl in
    cc

-- what the end of a range's line has behind its first space
abbrev pub home_rest : Option ℕ → List ℕ
home_rest None = codes "*\n"
home_rest (Some node) = decimal node ++ codes "\n"

pub spaced : (home : Option ℕ) → home_end home ≡ 32 ∷ home_rest home
spaced None = refl
spaced (Some node) = refl

-- a size and the end of a range's line
size_told : (m n : ℕ) (a b : Option ℕ) (us vs : List ℕ) → m < 2 ^ 64 → n < 2 ^ 64
    → decimal m ++ (home_end a ++ us) ≡ decimal n ++ (home_end b ++ vs)
    → (m ≡ n) × (home_end a ++ us ≡ home_end b ++ vs)
size_told m n a b us vs p q e =
    let tail : decimal m ++ 32 ∷ (home_rest a ++ us) ≡ decimal n ++ 32 ∷ (home_rest b ++ vs)
    = ap (λ t. decimal m ++ (t ++ us)) (sym (spaced a)) ∙ e
    ∙ ap (λ t. decimal n ++ (t ++ vs)) (spaced b) in
    let both = number_told 32 m n (home_rest a ++ us) (home_rest b ++ vs) (omega arith) p q
    tail in (
      both.0,
      ap (λ t. t ++ us) (spaced a) ∙ ap (λ t. 32 ∷ t) both.1 ∙ ap (λ t. t ++ vs) (sym (spaced b)),
    )

-- a range's line, from its start on
from_start : BlockRange → List ℕ → List ℕ
from_start r us =
    word_digits r.start ++ (codes " 0x" ++ (word_digits r.length ++ (codes " "
    ++ (decimal r.block ++ (home_end r.home ++ us)))))

opened_block : (r : BlockRange) (us : List ℕ)
    → block_line r ++ us ≡ codes "block 0x" ++ from_start r us
unfolding from_start
opened_block r us = simp append_assoc

block_told : (r s : BlockRange) (us vs : List ℕ) → IsBlockLine r → HasWords r → IsBlockLine s
    → HasWords s → block_line r ++ us ≡ block_line s ++ vs → (r ≡ s) × (us ≡ vs)
unfolding from_start
block_told r s us vs p h q k e =
    let a = append_cancel_left (codes "block 0x") (from_start r us) (from_start s vs)
    (sym (opened_block r us) ∙ e ∙ opened_block s vs) in
    let start = word_told r.start s.start _ _ h.start k.start a in
    let b : word_digits r.length ++ 32 ∷ (decimal r.block ++ (home_end r.home ++ us))
    ≡ word_digits s.length ++ 32 ∷ (decimal s.block ++ (home_end s.home ++ vs))
    = cc (start.1) in
    let size = word_told r.length s.length _ _ h.length k.length b in
    let d : decimal r.block ++ (home_end r.home ++ us) ≡ decimal s.block ++ (home_end s.home ++ vs)
    = cc (size.1) in
    let block = size_told r.block s.block r.home s.home us vs (omega (arith, p.size))
    (omega (arith, q.size)) d in
    let home = home_told r.home s.home us vs p.home q.home block.1 in
    (same_range r s start.0 size.0 block.0 home.0, home.1)

pub first_of : {A : Type 0} (P : A → Type 0) (x : A) (xs : List A) → All P (x ∷ xs) → P x
first_of P x xs h = h 0 x (omega arith)

pub rest_of : {A : Type 0} (P : A → Type 0) (x : A) (xs : List A) → All P (x ∷ xs) → All P xs
rest_of P x xs h = λ k d lt. h (suc k) d (omega (arith, lt))

-- the lines of ranges, up to an 'n'
pub blocks_told : (rs ss : List BlockRange) (us vs : List ℕ) → All IsBlockLine rs → All HasWords rs
    → All IsBlockLine ss → All HasWords ss
    → block_lines rs ++ 110 ∷ us ≡ block_lines ss ++ 110 ∷ vs → (rs ≡ ss) × (us ≡ vs)
blocks_told [] [] us vs p h q k e = let rest : us ≡ vs = cc in (refl, rest)
blocks_told [] (s ∷ ss) us vs p h q k e =
    let same : ◌≡◌ {A = ℕ} 110 98 = cc in absurd (omega (arith, same))
blocks_told (r ∷ rs) [] us vs p h q k e =
    let same : ◌≡◌ {A = ℕ} 98 110 = cc in absurd (omega (arith, same))
blocks_told (r ∷ rs) (s ∷ ss) us vs p h q k e =
    let one = block_told r s (block_lines rs ++ 110 ∷ us) (block_lines ss ++ 110 ∷ vs)
    (first_of IsBlockLine r rs p) (first_of HasWords r rs h) (first_of IsBlockLine s ss q)
    (first_of HasWords s ss k)
    (sym (append_assoc (block_line r) (block_lines rs) (110 ∷ us)) ∙ e
    ∙ append_assoc (block_line s) (block_lines ss) (110 ∷ vs)) in
    let more = blocks_told rs ss us vs (rest_of IsBlockLine r rs p) (rest_of HasWords r rs h)
    (rest_of IsBlockLine s ss q) (rest_of HasWords s ss k) one.1 in
    let all : r ∷ rs ≡ s ∷ ss = cc (one.0, more.0) in
    (all, more.1)

-- the numbers of a take's line are below 2^63
pub record AreLow (t : TakeLine) : Type 0 where
  pub stamp_or_gap : t.stamp_or_gap < 2 ^ 63
  pub from : t.from < 2 ^ 63
  pub words : t.words < 2 ^ 63

pub told_low : (v : Version) (nodes last : ℕ) (e : Entry) → nodes ≤ 16 → IsTakeBehind nodes last e
    → AreLow (told_of v last e)
told_low First nodes last e few p = record {
  stamp_or_gap = p.low;
  from = omega (arith, p.from);
  words = p.few_words;
}
told_low Second nodes last e few p = record {
  stamp_or_gap = omega (arith, p.low);
  from = omega (arith, p.from);
  words = p.few_words;
}

-- a take's line, from its stamp or its gap on
from_stamp : TakeLine → List ℕ → List ℕ
from_stamp t us =
    decimal t.stamp_or_gap ++ 32 ∷ (decimal t.from ++ 32 ∷ (decimal t.words ++ 10 ∷ us))

opened_take : (t : TakeLine) (us : List ℕ) → take_line t ++ us ≡ codes "take " ++ from_stamp t us
unfolding from_stamp
opened_take t us = simp append_assoc

pub take_line_told : (t u : TakeLine) (us vs : List ℕ) → AreLow t → AreLow u
    → take_line t ++ us ≡ take_line u ++ vs → (t ≡ u) × (us ≡ vs)
unfolding from_stamp
take_line_told t u us vs p q e =
    let x = append_cancel_left (codes "take ") (from_stamp t us) (from_stamp u vs)
    (sym (opened_take t us) ∙ e ∙ opened_take u vs) in
    let stamp = number_told 32 t.stamp_or_gap u.stamp_or_gap _ _ (omega arith)
    (omega (arith, p.stamp_or_gap)) (omega (arith, q.stamp_or_gap)) x in
    let from = number_told 32 t.from u.from _ _ (omega arith) (omega (arith, p.from))
    (omega (arith, q.from)) stamp.1 in
    let words = number_told 10 t.words u.words us vs (omega arith) (omega (arith, p.words))
    (omega (arith, q.words)) from.1 in
    (same_take t u stamp.0 from.0 words.0, words.1)

-- what a line tells behind a stamp is one take
told_entry : (v : Version) (nodes last : ℕ) (t u : Entry) → IsTakeBehind nodes last t
    → IsTakeBehind nodes last u → told_of v last t ≡ told_of v last u → t ≡ u
told_entry First nodes last t u p q e =
    same_entry t u (ap (λ x. x.stamp_or_gap) e) (ap (λ x. x.from) e) (ap (λ x. x.words) e)
told_entry Second nodes last t u p q e =
    let gap : t.stamp - (last + t.words + 1) ≡ u.stamp - (last + u.words + 1)
    = ap (λ x. x.stamp_or_gap) e in
    let words : t.words ≡ u.words = ap (λ x. x.words) e in
    same_entry t u (omega (arith, gap, words, p.stamp, q.stamp)) (ap (λ x. x.from) e) words

take_told : (v : Version) (nodes last : ℕ) (t u : Entry) (us vs : List ℕ) → nodes ≤ 16
    → IsTakeBehind nodes last t → IsTakeBehind nodes last u
    → take_line (told_of v last t) ++ us ≡ take_line (told_of v last u) ++ vs
    → (t ≡ u) × (us ≡ vs)
take_told v nodes last t u us vs few p q e =
    let both = take_line_told (told_of v last t) (told_of v last u) us vs
    (told_low v nodes last t few p) (told_low v nodes last u few q) e in
    (told_entry v nodes last t u p q both.0, both.1)

-- the lines of takes, up to an 'e'
takes_told : (v : Version) (nodes last : ℕ) (ts us : List Entry) (xs ys : List ℕ) → nodes ≤ 16
    → AreTakesBehind nodes last ts → AreTakesBehind nodes last us
    → take_lines v last ts ++ 101 ∷ xs ≡ take_lines v last us ++ 101 ∷ ys
    → (ts ≡ us) × (xs ≡ ys)
takes_told v nodes last [] [] xs ys few p q e = let rest : xs ≡ ys = cc in (refl, rest)
takes_told v nodes last [] (u ∷ us) xs ys few p q e =
    let same : ◌≡◌ {A = ℕ} 101 116 = cc in absurd (omega (arith, same))
takes_told v nodes last (t ∷ ts) [] xs ys few p q e =
    let same : ◌≡◌ {A = ℕ} 116 101 = cc in absurd (omega (arith, same))
takes_told v nodes last (t ∷ ts) (u ∷ us) xs ys few p q e =
    let one = take_told v nodes last t u (take_lines v t.stamp ts ++ 101 ∷ xs)
    (take_lines v u.stamp us ++ 101 ∷ ys) few p.0 q.0
    (sym (append_assoc (take_line (told_of v last t)) (take_lines v t.stamp ts) (101 ∷ xs)) ∙ e
    ∙ append_assoc (take_line (told_of v last u)) (take_lines v u.stamp us) (101 ∷ ys)) in
    let stamp : u.stamp ≡ t.stamp = ap (λ x. x.stamp) (sym one.0) in
    let more = takes_told v nodes t.stamp ts us xs ys few p.1
    (subst (λ n. AreTakesBehind nodes n us) stamp q.1)
    (one.1 ∙ ap (λ n. take_lines v n us ++ 101 ∷ ys) stamp) in
    let all : t ∷ ts ≡ u ∷ us = cc (one.0, more.0) in
    (all, more.1)

journals_told : (v : Version) (nodes i : ℕ) (js ks : List (List Entry)) → nodes ≤ 16
    → i + length js < 2 ^ 64 → All (AreTakesBehind nodes 0) js → All (AreTakesBehind nodes 0) ks
    → journal_lines v i js ≡ journal_lines v i ks → js ≡ ks
journals_told v nodes i [] [] few short p q e = refl
journals_told v nodes i [] (k ∷ ks) few short p q e = absurd (cc)
journals_told v nodes i (j ∷ js) [] few short p q e = absurd (cc)
journals_told v nodes i (j ∷ js) (k ∷ ks) few short p q e =
    let head = line_told (codes "node ") i i
    (take_lines v 0 j ++ 101 ∷ 110 ∷ 100 ∷ 10 ∷ journal_lines v (i + 1) js)
    (take_lines v 0 k ++ 101 ∷ 110 ∷ 100 ∷ 10 ∷ journal_lines v (i + 1) ks)
    (omega arith) (omega arith) e in
    let takes = takes_told v nodes 0 j k (110 ∷ 100 ∷ 10 ∷ journal_lines v (i + 1) js)
    (110 ∷ 100 ∷ 10 ∷ journal_lines v (i + 1) ks) few (first_of (AreTakesBehind nodes 0) j js p)
    (first_of (AreTakesBehind nodes 0) k ks q) head.1 in
    let tail : journal_lines v (i + 1) js ≡ journal_lines v (i + 1) ks = cc (takes.1) in
    let more = journals_told v nodes (i + 1) js ks few (omega arith)
    (rest_of (AreTakesBehind nodes 0) j js p) (rest_of (AreTakesBehind nodes 0) k ks q) tail in
    let all : j ∷ js ≡ k ∷ ks = cc (takes.0, more) in
    all

-- the lines of nodes begin with an 'n'
pub begins_with_n : (v : Version) (i : ℕ) (js : List (List Entry)) → 0 < length js
    → (rest : List ℕ) × (journal_lines v i js ≡ 110 ∷ rest)
begins_with_n v i [] some = absurd (omega arith)
begins_with_n v i (j ∷ js) some = (_, refl)

-- the text from the line of the nodes on
from_nodes : Record → List ℕ → List ℕ
from_nodes r us =
    number_line (codes "nodes ") r.nodes ++ (number_line (codes "budget ") r.budget
    ++ (batch_line r.batch ++ (code_line r.code ++ us)))

-- the lines of the blocks and of the nodes
abbrev pub behind_head : Record → List ℕ
behind_head r = block_lines r.blocks ++ journal_lines (version_of r.code) 0 r.journals

opened : (r : Record) → record_text r
    ≡ version_line (version_of r.code) ++ from_nodes r (behind_head r)
unfolding from_nodes record_text
opened r = simp append_assoc

-- the text, line after line
pub whole : (r : Record) → record_text r
    ≡ version_line (version_of r.code) ++ (number_line (codes "nodes ") r.nodes
    ++ (number_line (codes "budget ") r.budget ++ (batch_line r.batch ++ (code_line r.code
    ++ (block_lines r.blocks ++ journal_lines (version_of r.code) 0 r.journals)))))
unfolding from_nodes
whole r = opened r

-- the lines of the head tell what is in them
record SameHead (r s : Record) (us vs : List ℕ) : Type 0 where
  pub nodes : r.nodes ≡ s.nodes
  pub budget : r.budget ≡ s.budget
  pub batch : r.batch ≡ s.batch
  pub code : r.code ≡ s.code
  pub rest : us ≡ vs

settings_told : (r s : Record) (us vs : List ℕ) → IsRecord r → IsRecord s
    → version_of r.code ≡ version_of s.code → from_nodes r us ≡ from_nodes s vs
    → SameHead r s us vs
unfolding from_nodes
settings_told r s us vs p q v e =
    let nodes = line_told (codes "nodes ") r.nodes s.nodes _ _ (omega (arith, p.nodes))
    (omega (arith, q.nodes)) e in
    let budget = line_told (codes "budget ") r.budget s.budget _ _ (omega (arith, p.budget))
    (omega (arith, q.budget)) nodes.1 in
    let batch = batch_told r.batch s.batch _ _ budget.1 in
    let code = code_told r.code s.code us vs v p.code q.code batch.1 in
    record {
      nodes = nodes.0;
      budget = budget.0;
      batch = batch.0;
      code = code.0;
      rest = code.1;
    }

pub record_told : (r s : Record) → IsRecord r → IsOfWords r → IsRecord s → IsOfWords s
    → record_text r ≡ record_text s → r ≡ s
record_told r s p h q k e =
    let version = version_told (version_of r.code) (version_of s.code)
    (from_nodes r (behind_head r)) (from_nodes s (behind_head s))
    (sym (opened r) ∙ e ∙ opened s) in
    let v = version_of r.code in
    let settings = settings_told r s _ _ p q version.0 version.1 in
    let rest : block_lines r.blocks ++ journal_lines v 0 r.journals
    ≡ block_lines s.blocks ++ journal_lines v 0 s.journals
    = settings.rest
    ∙ ap (λ w. block_lines s.blocks ++ journal_lines w 0 s.journals) (sym version.0) in
    let x = begins_with_n v 0 r.journals (omega (arith, p.each, p.nodes)) in
    let y = begins_with_n v 0 s.journals (omega (arith, q.each, q.nodes)) in
    let blocks = blocks_told r.blocks s.blocks x.0 y.0 p.blocks h q.blocks k
    (ap (λ t. block_lines r.blocks ++ t) (sym x.1) ∙ rest
    ∙ ap (λ t. block_lines s.blocks ++ t) y.1) in
    let journals = journals_told v r.nodes 0 r.journals s.journals (omega (arith, p.nodes))
    (omega (arith, p.each, p.nodes)) p.journals
    (subst (λ n. All (AreTakesBehind n 0) s.journals) (sym settings.nodes) q.journals)
    (x.1 ∙ ap (λ t. 110 ∷ t) blocks.1 ∙ sym y.1) in
    same_record r s settings.nodes settings.budget settings.batch settings.code blocks.0 journals
