-- The steps by which a stretch gets longer.
use Rattle.std.proofs.Common.{◌≡◌, ◌≢◌, ℕ, suc, ◌+◌, ◌-◌, ◌*◌, Bool, true, false, [], ◌∷◌, ◌++◌, Option, Some, None, refl, sym, ap, ◌∙◌, subst, arith}
use Rattle.std.specs.Prelude.{◌||◌, is_some}
use Rattle.std.specs.List.{cons_option, list_any}
use Rattle.std.specs.Option.{option_map}
use Rattle.std.proofs.lemmas.Bool.{and_parts, and_from}
use Rattle.rv32_decode.specs.declared.Instr.{Instr}
use Rattle.templates.specs.declared.reaches.Reach.{Reach}
use Rattle.templates.specs.Runs.{Span, span_of, is_access, is_store, reach_by, reach_of, reach_at, code_from, may_stand, has_access}
use Rattle.templates.specs.Reaches.{access_reach, Extends, is_near}
use Rattle.batch_plan.specs.declared.stretches.RunPrefix.{RunPrefix}
use Rattle.batch_plan.specs.Stretches.{IsRunPrefix, IsStretchOf}
use Rattle.batch_plan.proofs.ReachLemmas.{last_access}
use Rattle.batch_plan.proofs.StretchLemmas.{one_word, one_is, one_front, stretch_more, words_more, shorter}

-- ---- the first word

pub no_access : (code : ℕ → Option Instr) (a : ℕ) (i : Instr) → code a ≡ Some i
    → access_reach i ≡ None → IsRunPrefix code a 1 → ⊥
no_access code a i is none h = go (span_of i) none (one_front code a i is h).begins
  where
    go : (o : Option Span) → option_map (λ x. reach_by (x ∷ []) (is_store i)) o ≡ None
        → is_some o ≡ true → ⊥
    go None e some = cc
    go (Some s) e some = cc

-- what an access reaches by itself
record IsOne (i : Instr) (r : Reach) : Type 0 where
  access : is_access i ≡ true
  reach : r ≡ reach_of (i ∷ [])

one_reach : (i : Instr) (r : Reach) → access_reach i ≡ Some r → IsOne i r
one_reach i r e = go (span_of i) refl e
  where
    or_false : (b : Bool) → (b || false) ≡ b
    or_false true = refl
    or_false false = refl

    go : (o : Option Span) → span_of i ≡ o
        → option_map (λ x. reach_by (x ∷ []) (is_store i)) o ≡ Some r → IsOne i r
    go None is e = cc
    go (Some s) is e =
        let same : reach_by (s ∷ []) (is_store i) ≡ r = cc in
        record {
          access = ap is_some is;
          reach =
              sym (ap (λ o. reach_by (cons_option o []) (list_any is_store (i ∷ []))) is
              ∙ ap (λ b. reach_by (s ∷ []) b) (or_false (is_store i)) ∙ same);
        }

pub begins : (code : ℕ → Option Instr) (a : ℕ) (i : Instr) (r : Reach) (s : RunPrefix)
    → code a ≡ Some i → access_reach i ≡ Some r → r.base ≢ 0 → may_stand r.base i ≡ true
    → is_near r ≡ true → s.reach ≡ r → s.ends ≡ true → IsStretchOf code a 1 s
begins code a i r s is reaches nonzero stands near reach ends =
    let one = one_reach i r reaches in
    let base = ap (λ (x : Reach). x.base) one.reach in
    let words = one_word code a i is in
    record {
      stretch =
          one_is code a i is (record {
            begins = one.access;
            nonzero = λ z. nonzero (base ∙ z);
            each =
                and_from (may_stand (reach_of (i ∷ [])).base i) true
                (subst (λ b. may_stand b i ≡ true) base stands) refl;
            near = subst (λ (x : Reach). is_near x ≡ true) one.reach near;
          });
      reach = reach ∙ one.reach ∙ ap reach_of (sym words);
      ends = ends ∙ sym (ap (λ xs. has_access xs 0) words ∙ one.access);
    }

pub begins_not : (code : ℕ → Option Instr) (a : ℕ) (i : Instr) (r : Reach) → code a ≡ Some i
    → access_reach i ≡ Some r
    → (r.base ≢ 0 → may_stand r.base i ≡ true → is_near r ≡ true → ⊥) → IsRunPrefix code a 1 → ⊥
begins_not code a i r is reaches never h =
    let one = one_reach i r reaches in
    let front = one_front code a i is h in
    let back = sym one.reach in
    never (λ z. front.nonzero (ap (λ (x : Reach). x.base) back ∙ z))
    (subst (λ (x : Reach). may_stand x.base i ≡ true) back
    (and_parts (may_stand (reach_of (i ∷ [])).base i) true front.each).0)
    (subst (λ (x : Reach). is_near x ≡ true) back front.near)

-- ---- a word more

pub goes_on : (code : ℕ → Option Instr) (a n : ℕ) (i : Instr) (r : Reach) (old new : RunPrefix)
    → IsStretchOf code a n old → code (a + 4 * n) ≡ Some i → Extends old.reach i r
    → may_stand old.reach.base i ≡ true → is_near r ≡ true → new.reach ≡ r
    → new.ends ≡ is_access i → IsStretchOf code a (n + 1) new
goes_on code a n i r old new h is extends stands near reach ends =
    let more = extends (code_from code a n) h.stretch.front.begins h.reach in
    let words = words_more code a n i is in
    let last : n + 1 - 1 ≡ n = omega arith in
    record {
      stretch =
          stretch_more code a n i h.stretch is
          (subst (λ (x : Reach). may_stand x.base i ≡ true) h.reach stands)
          (subst (λ (x : Reach). is_near x ≡ true) more near);
      reach = reach ∙ more ∙ sym (ap reach_of words);
      ends =
          ends ∙ sym (ap (λ xs. has_access xs (n + 1 - 1)) words
          ∙ ap (λ k. has_access (code_from code a n ++ i ∷ []) k) last
          ∙ last_access (code_from code a n) i n h.stretch.coded);
    }

one_more : (code : ℕ → Option Instr) (a n : ℕ) → IsRunPrefix code a (n + 1) → IsRunPrefix code a (suc n)
one_more code a n h = let e : n + 1 ≡ suc n = omega arith in subst (IsRunPrefix code a) e h

pub ends_before : (code : ℕ → Option Instr) (a n : ℕ) (s : RunPrefix) → IsStretchOf code a n s
    → code (a + 4 * n) ≡ None → IsRunPrefix code a (n + 1) → ⊥
ends_before code a n s h is more =
    let short = shorter code a n h.stretch.some (one_more code a n more) in
    let there = short.there in cc

pub ends_here : (code : ℕ → Option Instr) (a n : ℕ) (i : Instr) (r : Reach) (s : RunPrefix)
    → IsStretchOf code a n s → code (a + 4 * n) ≡ Some i → Extends s.reach i r
    → (may_stand s.reach.base i ≡ true → is_near r ≡ true → ⊥) → IsRunPrefix code a (n + 1) → ⊥
ends_here code a n i r s h is extends never more =
    let short = shorter code a n h.stretch.some (one_more code a n more) in
    let there = short.there in
    let same : short.instruction ≡ i = cc in
    let longer = extends (code_from code a n) h.stretch.front.begins h.reach in
    never (subst (λ (x : Reach). may_stand x.base i ≡ true) (sym h.reach)
    (subst (λ j. may_stand (reach_at code a n).base j ≡ true) same short.stands))
    (subst (λ (x : Reach). is_near x ≡ true) (sym longer)
    (subst (λ j. is_near (reach_of (code_from code a n ++ j ∷ [])) ≡ true) same short.near))
