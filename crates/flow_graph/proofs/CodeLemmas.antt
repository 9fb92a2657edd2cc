-- The code words of a program, as far as they have been collected.
use Rattle.std.proofs.Common.{◌≡◌, ◌≢◌, ℕ, ◌+◌, ◌%◌, ◌<◌, ◌≤◌, Bool, true, false, ◌==◌, cond, List, [], ◌∷◌, ◌++◌, Option, Some, None, refl, sym, ap, ◌∙◌, subst, inl, inr, eqb, arith}
use Rattle.std.specs.Prelude.{◌&&◌}
use Rattle.std.proofs.lemmas.Bool.{cases_lt, false≢true, eqb-true, eq-eqb}
use Rattle.std.proofs.lemmas.Bool.Decides.{nat_tests, eqb_tells}
use Rattle.rv32_decode.specs.declared.Instr.{Instr}
use Rattle.rv32_decode.specs.Rows.{instruction_of}
use Rattle.elf32_read.specs.Elf.{Elf}
use Rattle.exec_map.specs.Contents.{is_code_word, word_of, code_at, IsNextCode}
use Rattle.templates.specs.declared.code.CodeWord.{CodeWord}
use Rattle.templates.specs.Code.{code_word, code_of, end_from}

-- the code words below an address are there, and no other
pub record IsCollected (e : Elf) (words : List CodeWord) (from : ℕ) : Type 0 where
  pub below : (b : ℕ) → b < from → code_of words b ≡ code_at e b
  pub above : (b : ℕ) → from ≤ b → code_of words b ≡ None
  pub end : end_from 0 words ≤ from
  pub low : from ≤ 0x80000000

unequal : (a b : ℕ) → a ≢ b → eqb a b ≡ false
unequal a b h = elim (eqb_tells a b) [ inl e ↦ absurd (h e.1) | inr e ↦ e.0 ]

pub begin : (e : Elf) → IsCollected e [] 0
begin e = record {
  below = λ b lt. absurd (omega arith);
  above = λ b le. refl;
  end = omega arith;
  low = omega arith;
}

pub aligned_and : (n : ℕ) (b : Bool) → ((n == 0) && b) ≡ true → n ≡ 0
aligned_and n b h = grind (arith, nat_tests)

no_code : (e : Elf) (a : ℕ) → is_code_word e a ≡ false → code_at e a ≡ None
no_code e a h = ap (λ b. cond b (instruction_of (word_of e a)) None) h

-- one word more, at another address and at its own
push_other : (ws : List CodeWord) (a b : ℕ) (i : Instr) → a ≢ b → code_of (ws ++ code_word a i ∷ []) b ≡ code_of ws b
push_other [] a b i h = ap (λ x. cond x (Some i) None) (unequal a b h)
push_other (w ∷ ws) a b i h = ap (cond (w.address == b) (Some w.instruction)) (push_other ws a b i h)

cond_none : {X : Type 0} (b : Bool) (x : X) (o : Option X) → cond b (Some x) o ≡ None → (b ≡ false) × (o ≡ None)
cond_none true x o h = cc
cond_none false x o h = (refl, h)

push_own : (ws : List CodeWord) (a : ℕ) (i : Instr) → code_of ws a ≡ None → code_of (ws ++ code_word a i ∷ []) a ≡ Some i
push_own [] a i h = ap (λ x. cond x (Some i) None) (eq-eqb a a refl)
push_own (w ∷ ws) a i h =
    let both = cond_none (w.address == a) w.instruction (code_of ws a) h in
    ap (λ x. cond x (Some w.instruction) (code_of (ws ++ code_word a i ∷ []) a)) both.0 ∙ push_own ws a i both.1

end_more : (low : ℕ) (ws : List CodeWord) (a : ℕ) (i : Instr) → end_from low (ws ++ code_word a i ∷ []) ≡ a + 4
end_more low [] a i = refl
end_more low (w ∷ ws) a i = end_more (w.address + 4) ws a i

-- between one code word and the next is none
between : (e : Elf) (from a b : ℕ) → IsNextCode e from a → from ≤ b → b < a + 4 → b ≢ a → code_at e b ≡ None
between e from a b next le lt apart = no_code e b (go (is_code_word e b) refl)
  where
    go : (x : Bool) → is_code_word e b ≡ x → is_code_word e b ≡ false
    go false f = f
    go true f = elim (cases_lt b a) [
      | inl l ↦ next.lowest b le l
      | inr ge ↦ (let x = aligned_and (a % 4) _ next.code_word in let y = aligned_and (b % 4) _ f in absurd (omega (arith, x, y, ge, lt, apart)))
    ]

pub past : (e : Elf) (ws new : List CodeWord) (from a : ℕ) (i : Instr) → IsCollected e ws from → IsNextCode e from a
    → a + 4 ≤ 0x80000000 → Some i ≡ code_at e a → new ≡ ws ++ code_word a i ∷ [] → IsCollected e new (a + 4)
past e ws new from a i h next low there is = record {
  below = λ b lt. ap (λ xs. code_of xs b) is ∙ below b lt (b == a) refl;
  above = λ b le. ap (λ xs. code_of xs b) is ∙ push_other ws a b i (λ s. omega (arith, s, le)) ∙ h.above b (let x = next.at_least in omega arith);
  end = let x = ap (end_from 0) is ∙ end_more 0 ws a i in omega (arith, x);
  low = low;
}
  where
    below : (b : ℕ) → b < a + 4 → (x : Bool) → (b == a) ≡ x → code_of (ws ++ code_word a i ∷ []) b ≡ code_at e b
    below b lt true f =
        let same : b ≡ a = eqb-true b a f in
        subst (λ y. code_of (ws ++ code_word a i ∷ []) y ≡ code_at e y) (sym same) (push_own ws a i (h.above a next.at_least) ∙ there)
    below b lt false f =
        let apart : a ≢ b = λ s. false≢true (sym f ∙ eq-eqb b a (sym s)) in
        push_other ws a b i apart ∙ (elim (cases_lt b from) [
          | inl l ↦ h.below b l
          | inr le ↦ h.above b le ∙ sym (between e from a b next le lt (λ s. apart (sym s)))
        ])

pub skip : (e : Elf) (ws : List CodeWord) (from a : ℕ) → IsCollected e ws from → IsNextCode e from a
    → a + 4 ≤ 0x80000000 → None ≡ code_at e a → IsCollected e ws (a + 4)
skip e ws from a h next low there = record {
  below = λ b lt. below b lt (b == a) refl;
  above = λ b le. h.above b (let x = next.at_least in omega arith);
  end = let x = h.end in let y = next.at_least in omega arith;
  low = low;
}
  where
    below : (b : ℕ) → b < a + 4 → (x : Bool) → (b == a) ≡ x → code_of ws b ≡ code_at e b
    below b lt true f =
        let same : b ≡ a = eqb-true b a f in
        subst (λ y. code_of ws y ≡ code_at e y) (sym same) (h.above a next.at_least ∙ there)
    below b lt false f =
        let apart : b ≢ a = λ s. false≢true (sym f ∙ eq-eqb b a s) in
        elim (cases_lt b from) [
          | inl l ↦ h.below b l
          | inr le ↦ h.above b le ∙ sym (between e from a b next le lt apart)
        ]

-- once no code word is left, this is the code
pub whole : (e : Elf) (ws : List CodeWord) (from : ℕ) → IsCollected e ws from
    → ((b : ℕ) → from ≤ b → is_code_word e b ≡ false) → code_at e ≡ code_of ws
whole e ws from h none = λ t b. each b t
  where
    each : (b : ℕ) → code_at e b ≡ code_of ws b
    each b = elim (cases_lt b from) [
      | inl lt ↦ sym (h.below b lt)
      | inr le ↦ no_code e b (none b le) ∙ sym (h.above b le)
    ]
