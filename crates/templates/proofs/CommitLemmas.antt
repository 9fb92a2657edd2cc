-- The one word of each sequence that commits.
use Rattle.std.proofs.Common.{◌≡◌, ℕ, ℤ, zero, suc, ◌+◌, ◌-◌, ◌*◌, ◌<◌, ◌≤◌, Bool, true, false, ◌==◌, cond, List, [], ◌∷◌, length, refl, sym, ◌∙◌, subst, arith}
use Rattle.std.specs.Prelude.{if◌then◌else◌, ◌&&◌, nat_le, nat_lt}
use Rattle.std.proofs.lemmas.Bool.Decides.{nat_tests}
use Rattle.rv32_decode.specs.declared.Instr.{Instr}
use Rattle.rv32_decode.specs.declared.Cond.{Cond}
use Rattle.rv32_decode.specs.declared.LoadKind.{LoadKind}
use Rattle.rv32_decode.specs.declared.Width.{Width}
use Rattle.templates.specs.declared.commits.CommitKind.{CommitKind}
use Rattle.templates.specs.declared.commits.CommitKind.TheVariants.{Never, Always, IfNotFlag}
use Rattle.templates.specs.declared.places.Part.TheVariants.{Head, Fast, Fallback}
use Rattle.templates.specs.declared.plans.Scratches.{Scratches}
use Rattle.templates.specs.Runs.{Reach, reach_of}
use Rattle.templates.specs.Sequences.{ItemWord, SequenceItem, spill_by, reload_by, reloads, flag_load_sequence, state_load_sequence, read_sequence, write_sequence, store_sequence, branch_sequence, jump_sequence, to_head, reloads_of_run, mask_readable, head_items, run_items, fast_items, fallback_items, batch_items}
use Rattle.templates.specs.Counting.{spilled_count}
use Rattle.templates.specs.Committing.{kind_at, CommitsAt, CommitsTwice}
use Rattle.templates.proofs.BatchLemmas.{reloads_length}

-- no word commits
record Silent (items : List SequenceItem) : Type 0 where
  each : (k : ℕ) → kind_at items k ≡ Never

at_zero : (k : ℕ) (kind : CommitKind) → Never ≡ (if suc k == 0 then kind else Never)
at_zero k kind = grind (arith, nat_tests)

past_zero : (n m : ℕ) (kind : CommitKind) → m ≡ n + 1 → Never ≡ (if 0 == m then kind else Never)
past_zero n m kind e = grind (arith, nat_tests)

shift : (k n m : ℕ) (kind : CommitKind) → m ≡ n + 1
    → (if k == n then kind else Never) ≡ (if suc k == m then kind else Never)
shift k n m kind e = grind (arith, nat_tests)

first : {w : ItemWord} {kind : CommitKind} {rest : List SequenceItem} → Silent rest
    → CommitsAt (record { what = w; commit = kind } ∷ rest) 0 kind
first {w} {kind} {rest} silent = record { each = go }
  where
    go : (k : ℕ) → kind_at (record { what = w; commit = kind } ∷ rest) k ≡ (if k == 0 then kind else Never)
    go zero = refl
    go (suc k) = silent.each k ∙ at_zero k kind

behind : {w : ItemWord} {rest : List SequenceItem} {n : ℕ} {kind : CommitKind} → CommitsAt rest n kind
    → CommitsAt (record { what = w; commit = Never } ∷ rest) (n + 1) kind
behind {w} {rest} {n} {kind} h = record { each = go }
  where
    go : (k : ℕ) → kind_at (record { what = w; commit = Never } ∷ rest) k ≡ (if k == n + 1 then kind else Never)
    go zero = past_zero n (n + 1) kind refl
    go (suc k) = h.each k ∙ shift k n (n + 1) kind refl

silent_none : Silent []
silent_none = record { each = λ k. refl }

silent_more : {w : ItemWord} {rest : List SequenceItem} → Silent rest → Silent (record { what = w; commit = Never } ∷ rest)
silent_more {w} {rest} h = record { each = go }
  where
    go : (k : ℕ) → kind_at (record { what = w; commit = Never } ∷ rest) k ≡ Never
    go zero = refl
    go (suc k) = h.each k

silent_reload : (b : Bool) (n r : ℕ) (rest : List SequenceItem) → Silent rest → Silent (reload_by b n r rest)
silent_reload true n r rest h = silent_more h
silent_reload false n r rest h = h

silent_reloads : (x : Scratches) → Silent (reloads x)
silent_reloads x = silent_reload x.s.spilled 0 x.s.register _ (silent_reload x.t.spilled 1 x.t.register [] silent_none)

spill_before : (b : Bool) (i r : ℕ) (rest : List SequenceItem) (n : ℕ) (kind : CommitKind)
    → CommitsAt rest n kind → CommitsAt (spill_by b i r rest) (n + cond b 1 0) kind
spill_before true i r rest n kind h = behind h
spill_before false i r rest n kind h = subst (λ m. CommitsAt rest m kind) (omega arith) h

-- behind the spills of two registers
spills_before : (x : Scratches) (rest : List SequenceItem) (n : ℕ) → CommitsAt rest n Always
    → CommitsAt (spill_by x.s.spilled 0 x.s.register (spill_by x.t.spilled 1 x.t.register rest)) (n + spilled_count x) Always
spills_before x rest n h =
    subst (λ m. CommitsAt (spill_by x.s.spilled 0 x.s.register (spill_by x.t.spilled 1 x.t.register rest)) m Always)
    {x = n + cond x.t.spilled 1 0 + cond x.s.spilled 1 0} (omega arith)
    (spill_before x.s.spilled 0 x.s.register _ (n + cond x.t.spilled 1 0) Always (spill_before x.t.spilled 1 x.t.register rest n Always h))

pub read_commits : (x : Scratches) (w : Width) (rs1 : ℕ) (imm : ℤ) (i : Instr)
    → CommitsAt (read_sequence x w rs1 imm i) (8 + spilled_count x) Always
read_commits x w rs1 imm i =
    spills_before x _ 8 (behind (behind (behind (behind (behind (behind (behind (behind (first (silent_reloads x))))))))))

pub write_commits : (x : Scratches) (w : Width) (rs1 : ℕ) (imm : ℤ) (i : Instr)
    → CommitsAt (write_sequence x w rs1 imm i) (7 + spilled_count x) Always
write_commits x w rs1 imm i =
    spills_before x _ 7 (behind (behind (behind (behind (behind (behind (behind (first (silent_reloads x)))))))))

pub load_commits : (x : Scratches) (kind : LoadKind) (rd rs1 : ℕ) (imm : ℤ)
    → CommitsAt (state_load_sequence x kind rd rs1 imm) (8 + spilled_count x) Always
load_commits x kind rd rs1 imm =
    spills_before x _ 8 (behind (behind (behind (behind (behind (behind (behind (behind (first (silent_reloads x))))))))))

pub store_commits : (x : Scratches) (w : Width) (rs1 rs2 : ℕ) (imm : ℤ)
    → CommitsAt (store_sequence x w rs1 rs2 imm) (7 + spilled_count x) Always
store_commits x w rs1 rs2 imm =
    spills_before x _ 7 (behind (behind (behind (behind (behind (behind (behind (first (silent_reloads x)))))))))

-- two words that commit, the first where its value isn't the flag
later : (k n : ℕ) → (if k == n then Always else Never)
    ≡ (if suc k == 0 then IfNotFlag else (if suc k == n + 1 then Always else Never))
later k n = grind (arith, nat_tests)

past_both : (n m : ℕ) → Never ≡ (if 0 == n + 1 then IfNotFlag else (if 0 == m + 1 then Always else Never))
past_both n m = grind (arith, nat_tests)

shift_both : (k n m : ℕ) → (if k == n then IfNotFlag else (if k == m then Always else Never))
    ≡ (if suc k == n + 1 then IfNotFlag else (if suc k == m + 1 then Always else Never))
shift_both k n m = grind (arith, nat_tests)

first_of_two : {w : ItemWord} {rest : List SequenceItem} {n : ℕ} → CommitsAt rest n Always
    → CommitsTwice (record { what = w; commit = IfNotFlag } ∷ rest) 0 (n + 1)
first_of_two {w} {rest} {n} h = record { each = go }
  where
    go : (k : ℕ) → kind_at (record { what = w; commit = IfNotFlag } ∷ rest) k ≡ (if k == 0 then IfNotFlag else (if k == n + 1 then Always else Never))
    go zero = refl
    go (suc k) = h.each k ∙ later k n

behind_two : {w : ItemWord} {rest : List SequenceItem} {n m : ℕ} → CommitsTwice rest n m
    → CommitsTwice (record { what = w; commit = Never } ∷ rest) (n + 1) (m + 1)
behind_two {w} {rest} {n} {m} h = record { each = go }
  where
    go : (k : ℕ) → kind_at (record { what = w; commit = Never } ∷ rest) k ≡ (if k == n + 1 then IfNotFlag else (if k == m + 1 then Always else Never))
    go zero = past_both n m
    go (suc k) = h.each k ∙ shift_both k n m

spill_before_two : (b : Bool) (i r : ℕ) (rest : List SequenceItem) (n m : ℕ)
    → CommitsTwice rest n m → CommitsTwice (spill_by b i r rest) (n + cond b 1 0) (m + cond b 1 0)
spill_before_two true i r rest n m h = behind_two h
spill_before_two false i r rest n m h =
    let e : n ≡ n + 0 = omega arith in
    let f : m ≡ m + 0 = omega arith in
    subst (λ i. CommitsTwice rest i (m + 0)) e (subst (λ j. CommitsTwice rest n j) f h)

pub flag_load_commits : (x : Scratches) (rd rs1 : ℕ) (imm : ℤ)
    → CommitsTwice (flag_load_sequence x rd rs1 imm) (2 + cond x.s.spilled 1 0) (6 + cond x.s.spilled 1 0)
flag_load_commits x rd rs1 imm =
    spill_before_two x.s.spilled 0 x.s.register _ 2 6
    (behind_two (behind_two (first_of_two (behind (behind (behind (first (silent_reload x.s.spilled 0 x.s.register [] silent_none))))))))

pub one_commits : (w : ItemWord) (kind : CommitKind) → CommitsAt (record { what = w; commit = kind } ∷ []) 0 kind
one_commits w kind = first silent_none

pub second_commits : (w v : ItemWord)
    → CommitsAt (record { what = w; commit = Never } ∷ record { what = v; commit = Always } ∷ []) 1 Always
second_commits w v = behind (first silent_none)

pub jump_commits : (b : Bool) (rd next target : ℕ) → CommitsAt (jump_sequence b rd next target) (cond b 1 0) Always
jump_commits true rd next target = behind (first (silent_more silent_none))
jump_commits false rd next target = one_commits _ Always

pub branch_commits : (b : Bool) (c : Cond) (rs1 rs2 target : ℕ) → CommitsAt (branch_sequence b c rs1 rs2 target) 0 Always
branch_commits true c rs1 rs2 target = first (silent_more silent_none)
branch_commits false c rs1 rs2 target = one_commits _ Always

pub ruleset all_commits = (load_commits, store_commits, read_commits, write_commits, one_commits, second_commits, jump_commits, branch_commits)

-- the words of a batch
silent_spill : (b : Bool) (n r : ℕ) (rest : List SequenceItem) → Silent rest → Silent (spill_by b n r rest)
silent_spill true n r rest h = silent_more h
silent_spill false n r rest h = h

silent_mask : (b : Bool) (s : ℕ) (rest : List SequenceItem) → Silent rest → Silent (mask_readable b s rest)
silent_mask true s rest h = h
silent_mask false s rest h = silent_more h

silent_head : (x : Scratches) (reach : Reach) (fast : ℕ) → Silent (head_items x reach fast)
silent_head x reach fast =
    silent_spill x.s.spilled 0 x.s.register _ (silent_spill x.t.spilled 1 x.t.register _ (silent_spill x.u.spilled 2 x.u.register _
    (silent_more (silent_more (silent_more (silent_more (silent_more (silent_more (silent_more (silent_more (silent_more (silent_more
    (silent_mask reach.stores x.s.register _ (silent_more (silent_more (silent_more (silent_more (silent_more silent_none))))))))))))))))))

silent_fallback : (x : Scratches) → Silent (fallback_items x)
silent_fallback x =
    silent_reload x.s.spilled 0 x.s.register _ (silent_reload x.t.spilled 1 x.t.register _ (silent_reload x.u.spilled 2 x.u.register [] silent_none))

pub head_never : (a : ℕ) (x : Scratches) (is : List Instr) (k : ℕ) → Never ≡ kind_at (batch_items a x is Head) k
head_never a x [] k = refl
head_never a x (i ∷ is) k = sym ((silent_head x (reach_of (i ∷ is)) (length (fast_items x (i ∷ is) (a + 4 * length (i ∷ is))))).each k)

pub fallback_never : (a : ℕ) (x : Scratches) (is : List Instr) (k : ℕ) → Never ≡ kind_at (batch_items a x is Fallback) k
fallback_never a x [] k = refl
fallback_never a x (i ∷ is) k = sym ((silent_fallback x).each k)

-- so many words from a number on commit, and no other
pub record CommitsFrom (items : List SequenceItem) (n m : ℕ) : Type 0 where
  pub each : (k : ℕ) → kind_at items k ≡ (if nat_le n k && nat_lt k (n + m) then Always else Never)

none_within : (n k : ℕ) → Never ≡ (if nat_le n k && nat_lt k (n + 0) then Always else Never)
none_within n k = grind (arith, nat_tests)

one_within : (m : ℕ) → Always ≡ (if nat_le 0 0 && nat_lt 0 (0 + suc m) then Always else Never)
one_within m = grind (arith, nat_tests)

shift_within : (k m : ℕ) → (if nat_le 0 k && nat_lt k (0 + m) then Always else Never)
    ≡ (if nat_le 0 (suc k) && nat_lt (suc k) (0 + suc m) then Always else Never)
shift_within k m = grind (arith, nat_tests)

before_within : (n m : ℕ) → Never ≡ (if nat_le (n + 1) 0 && nat_lt 0 (n + 1 + m) then Always else Never)
before_within n m = grind (arith, nat_tests)

behind_within : (k n m : ℕ) → (if nat_le n k && nat_lt k (n + m) then Always else Never)
    ≡ (if nat_le (n + 1) (suc k) && nat_lt (suc k) (n + 1 + m) then Always else Never)
behind_within k n m = grind (arith, nat_tests)

run_commits : (is : List Instr) (after : ℕ) → CommitsFrom (run_items is (to_head after)) 0 (length is)
run_commits [] after = record { each = go }
  where
    go : (k : ℕ) → kind_at (to_head after) k ≡ (if nat_le 0 k && nat_lt k (0 + 0) then Always else Never)
    go zero = none_within 0 0
    go (suc k) = none_within 0 (suc k)
run_commits (i ∷ is) after = record { each = go (run_commits is after) }
  where
    go : CommitsFrom (run_items is (to_head after)) 0 (length is) → (k : ℕ)
        → kind_at (run_items (i ∷ is) (to_head after)) k ≡ (if nat_le 0 k && nat_lt k (0 + suc (length is)) then Always else Never)
    go more zero = one_within (length is)
    go more (suc k) = more.each k ∙ shift_within k (length is)

reload_before : (b : Bool) (i r : ℕ) (rest : List SequenceItem) (n m : ℕ) → CommitsFrom rest n m
    → CommitsFrom (reload_by b i r rest) (n + cond b 1 0) m
reload_before true i r rest n m h = record { each = go }
  where
    go : (k : ℕ) → kind_at (reload_by true i r rest) k ≡ (if nat_le (n + 1) k && nat_lt k (n + 1 + m) then Always else Never)
    go zero = before_within n m
    go (suc k) = h.each k ∙ behind_within k n m
reload_before false i r rest n m h = subst (λ j. CommitsFrom rest j m) (omega arith) h

fast_commits : (x : Scratches) (is : List Instr) (after : ℕ)
    → CommitsFrom (fast_items x is after) (length (reloads_of_run x [])) (length is)
fast_commits x is after =
    let long = reloads_length x [] in
    subst (λ n. CommitsFrom (fast_items x is after) n (length is)) {x = 0 + cond x.u.spilled 1 0 + cond x.t.spilled 1 0 + cond x.s.spilled 1 0} (omega (arith, long))
    (reload_before x.s.spilled 0 x.s.register _ (0 + cond x.u.spilled 1 0 + cond x.t.spilled 1 0) (length is)
    (reload_before x.t.spilled 1 x.t.register _ (0 + cond x.u.spilled 1 0) (length is)
    (reload_before x.u.spilled 2 x.u.register _ 0 (length is) (run_commits is after))))

fast_kinds : (a : ℕ) (x : Scratches) (is : List Instr)
    → CommitsFrom (batch_items a x is Fast) (length (reloads_of_run x [])) (length is)
fast_kinds a x [] = record { each = λ k. none_within (length (reloads_of_run x [])) k }
fast_kinds a x (i ∷ is) = fast_commits x (i ∷ is) (a + 4 * length (i ∷ is))

within : (n m k : ℕ) → n ≤ k → k - n < m → (if nat_le n k && nat_lt k (n + m) then Always else Never) ≡ Always
within n m k le lt = grind (arith, nat_tests)

below_all : (n m k : ℕ) → k < n → (if nat_le n k && nat_lt k (n + m) then Always else Never) ≡ Never
below_all n m k lt = grind (arith, nat_tests)

behind_all : (n m k : ℕ) → n ≤ k → m ≤ k - n → (if nat_le n k && nat_lt k (n + m) then Always else Never) ≡ Never
behind_all n m k le few = grind (arith, nat_tests)

-- when a word of the fast part commits
pub fast_always : (a : ℕ) (x : Scratches) (is : List Instr) (n m k : ℕ) → n ≡ length (reloads_of_run x []) → m ≡ length is
    → n ≤ k → k - n < m → Always ≡ kind_at (batch_items a x is Fast) k
fast_always a x is n m k e f le lt =
    let h = (fast_kinds a x is).each k in
    sym (h ∙ within (length (reloads_of_run x [])) (length is) k (omega (arith, e, le)) (omega (arith, e, f, lt, le)))

pub fast_before : (a : ℕ) (x : Scratches) (is : List Instr) (n k : ℕ) → n ≡ length (reloads_of_run x [])
    → k < n → Never ≡ kind_at (batch_items a x is Fast) k
fast_before a x is n k e lt =
    let h = (fast_kinds a x is).each k in
    sym (h ∙ below_all (length (reloads_of_run x [])) (length is) k (omega (arith, e, lt)))

pub fast_behind : (a : ℕ) (x : Scratches) (is : List Instr) (n m k : ℕ) → n ≡ length (reloads_of_run x []) → m ≡ length is
    → n ≤ k → m ≤ k - n → Never ≡ kind_at (batch_items a x is Fast) k
fast_behind a x is n m k e f le few =
    let h = (fast_kinds a x is).each k in
    sym (h ∙ behind_all (length (reloads_of_run x [])) (length is) k (omega (arith, e, le)) (omega (arith, e, f, few, le)))
