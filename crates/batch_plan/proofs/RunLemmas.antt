-- Runs among stretches, and the longest.
use Rattle.std.proofs.Common.{◌≡◌, ◌≢◌, ℕ, zero, suc, ◌+◌, ◌-◌, ◌*◌, ◌^◌, ◌<◌, ◌≤◌, pos, ◌+ℤ◌, true, false, List, Option, Some, None, refl, sym, ap, ◌∙◌, subst, inl, inr, arith}
use Rattle.std.specs.Prelude.{int_le, IsSome, is_some}
use Rattle.std.proofs.lemmas.Bool.{and_parts, and_from, cases_lt, false≢true}
use Rattle.rv32_decode.specs.declared.Instr.{Instr}
use Rattle.templates.specs.declared.code.CodeWord.{CodeWord}
use Rattle.templates.specs.Code.{Ascends, code_of}
use Rattle.templates.specs.declared.reaches.Reach.{Reach}
use Rattle.templates.specs.Runs.{code_from, reach_at, has_access, IsRun}
use Rattle.templates.specs.WholePlan.{IsLongestRun}
use Rattle.batch_plan.specs.declared.runs.BatchRun.{BatchRun}
use Rattle.batch_plan.specs.declared.stretches.RunPrefix.{RunPrefix}
use Rattle.batch_plan.specs.Batches.{IsRunBy}
use Rattle.batch_plan.specs.Stretches.{IsRunPrefix, IsStretchOf}
use Rattle.batch_plan.proofs.ReachLemmas.{le_of, of_le}
use Rattle.batch_plan.proofs.StretchLemmas.{one_coded, stretch_front, stretch_low}

-- a run is a stretch
run_stretch : (code : ℕ → Option Instr) (a n : ℕ) → IsRun code a n → IsRunPrefix code a n
run_stretch code a n h =
    let r = reach_at code a n in
    record {
      some = let two = h.some in λ z. omega (arith, two, z);
      coded = h.coded;
      front = record {
        begins = h.begins;
        nonzero = h.nonzero;
        each = h.each;
        near =
            and_from (int_le r.high (r.low +ℤ pos 63)) (int_le r.high (pos 2047))
            (of_le r.high (r.low +ℤ pos 63) h.near) (of_le r.high (pos 2047) h.immediate);
      };
    }

-- a stretch that ends with an access is a run
stretch_run : (code : ℕ → Option Instr) (a n : ℕ) → IsRunPrefix code a n → 2 ≤ n → n ≤ 16
    → has_access (code_from code a n) (n - 1) ≡ true → IsRun code a n
stretch_run code a n h two few ends =
    let r = reach_at code a n in
    let p = and_parts (int_le r.high (r.low +ℤ pos 63)) (int_le r.high (pos 2047)) h.front.near in
    record {
      some = two;
      few = few;
      coded = h.coded;
      begins = h.front.begins;
      ends = ends;
      nonzero = h.front.nonzero;
      each = h.front.each;
      near = le_of r.high (r.low +ℤ pos 63) p.0;
      immediate = le_of r.high (pos 2047) p.1;
    }

-- the longest run of at most so many words
pub record IsLongest (code : ℕ → Option Instr) (a n : ℕ) (r : BatchRun) : Type 0 where
  pub run : r.words ≢ 0 → IsRun code a r.words
  pub longest : (m : ℕ) → m ≤ n → IsRun code a m → m ≤ r.words
  pub base : r.words ≢ 0 → r.base ≡ (reach_at code a r.words).base

pub no_longest : (code : ℕ → Option Instr) (a : ℕ) (r : BatchRun) → r.words ≡ 0 → IsLongest code a 1 r
no_longest code a r none = record {
  run = λ some. absurd (some none);
  longest = λ m le h. absurd (let two = h.some in omega (arith, two, le));
  base = λ some. absurd (some none);
}

-- the longest where the stretch is one word longer
pub longest_ends : (code : ℕ → Option Instr) (a n : ℕ) (s : RunPrefix) (r : BatchRun) → n ≢ 0 → n < 16
    → IsStretchOf code a (n + 1) s → s.ends ≡ true → r.words ≡ n + 1 → r.base ≡ s.reach.base
    → IsLongest code a (n + 1) r
longest_ends code a n s r some few h ends words base = record {
  run = λ nz. subst (IsRun code a) (sym words) run;
  longest = λ m le g. omega (arith, le, words);
  base = λ nz.
      base ∙ ap (λ (x : Reach). x.base) h.reach
      ∙ ap (λ k. (reach_at code a k).base) (sym words);
}
  where
    run : IsRun code a (n + 1)
    run = stretch_run code a (n + 1) h.stretch (omega (arith, some)) (omega (arith, few))
        (sym h.ends ∙ ends)

pub longest_goes_on : (code : ℕ → Option Instr) (a n : ℕ) (s : RunPrefix) (r : BatchRun)
    → IsStretchOf code a (n + 1) s → s.ends ≡ false → IsLongest code a n r
    → IsLongest code a (n + 1) r
longest_goes_on code a n s r h ends old = record {
  run = old.run;
  base = old.base;
  longest = λ m le g. elim (cases_lt n m) [
    | inl above ↦
        let here : m ≡ n + 1 = omega (arith, le, above) in
        absurd (false≢true (sym (sym h.ends ∙ ends)
        ∙ ap (λ k. has_access (code_from code a k) (k - 1)) (sym here) ∙ g.ends))
    | inr below ↦ old.longest m below g
  ];
}

-- no longer stretch, no longer run
pub longest_ended : (code : ℕ → Option Instr) (a n : ℕ) (r : BatchRun) → (IsRunPrefix code a (n + 1) → ⊥)
    → IsLongest code a n r → IsLongestRun code a r.words
longest_ended code a n r ended h = record {
  run = h.run;
  longest = λ m g. elim (cases_lt n m) [
    | inl above ↦
        absurd (ended (stretch_front code a (n + 1) m (λ z. omega (arith, z)) (omega (arith, above))
        (run_stretch code a m g)))
    | inr below ↦ h.longest m below g
  ];
}

pub longest_of_all : (code : ℕ → Option Instr) (a n : ℕ) (r : BatchRun) → 16 ≤ n → IsLongest code a n r
    → IsLongestRun code a r.words
longest_of_all code a n r many h = record {
  run = h.run;
  longest = λ m g. h.longest m (let few = g.few in omega (arith, many, few)) g;
}

pub none_at_all : (code : ℕ → Option Instr) (a : ℕ) (r : BatchRun) → (IsRunPrefix code a 1 → ⊥)
    → r.words ≡ 0 → IsLongestRun code a r.words
none_at_all code a r ended none = record {
  run = λ some. absurd (some none);
  longest = λ m g.
      absurd (ended (stretch_front code a 1 m (λ z. omega (arith, z))
      (let two = g.some in omega (arith, two)) (run_stretch code a m g)));
}

-- a run lies low
pub run_low : (ws : List CodeWord) (a n : ℕ) → a < 2 ^ 32 → Ascends 0 ws
    → (n ≢ 0 → IsRun (code_of ws) a n) → a + 4 * n < 2 ^ 32
run_low ws a zero small up run = omega (arith, small)
run_low ws a (suc n) small up run =
    stretch_low ws a (suc n) up
    (run_stretch (code_of ws) a (suc n) (run (λ z. omega (arith, z))))

-- a code word stands where a run starts
pub run_word : (code : ℕ → Option Instr) (a n : ℕ) → IsRun code a n → IsSome (code a)
run_word code a n h = go (code a) refl
  where
    go : (o : Option Instr) → code a ≡ o → IsSome (code a)
    go (Some i) is = ap is_some is
    go None is =
        absurd (one_coded code a is (stretch_front code a 1 n (λ z. omega (arith, z))
        (let two = h.some in omega (arith, two)) (run_stretch code a n h)))

-- ---- whether so many words are a run

-- where the front is no stretch there is no run
pub no_run : (code : ℕ → Option Instr) (a m n : ℕ) → m ≢ 0 → m ≤ n → (IsRunPrefix code a m → ⊥)
    → IsRun code a n → ⊥
no_run code a m n some le none h =
    none (stretch_front code a m n some le (run_stretch code a n h))

-- a stretch is a run where it ends with an access, and only there
pub run_by : (code : ℕ → Option Instr) (a n base : ℕ) (s : RunPrefix) → 2 ≤ n → n ≤ 16
    → IsStretchOf code a n s → s.ends ≡ true → base ≡ s.reach.base → IsRunBy code a n base
run_by code a n base s two few h ends is = record {
  run = stretch_run code a n h.stretch two few (sym h.ends ∙ ends);
  by = is ∙ ap (λ (x : Reach). x.base) h.reach;
}

pub open_end : (code : ℕ → Option Instr) (a n : ℕ) (s : RunPrefix) → IsStretchOf code a n s
    → s.ends ≡ false → IsRun code a n → ⊥
open_end code a n s h ends g = false≢true (sym ends ∙ h.ends ∙ g.ends)
