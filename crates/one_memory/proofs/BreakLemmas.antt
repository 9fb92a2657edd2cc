-- Stretches found word by word are the stretches that there are.
use Rattle.std.proofs.Common.{◌≡◌, ℕ, zero, suc, ◌+◌, ◌%◌, ◌^◌, ◌≤◌, ◌&&◌, Bool, true, false, List, [], ◌∷◌, length, Option, Some, None, refl, sym, ap, ◌∙◌, arith, inl, inr}
use Rattle.std.specs.Prelude.{◌||◌, ◌⊎◌}
use Rattle.std.specs.List.{list_all, list_any}
use Rattle.std.specs.Option.{option_map_or}
use Rattle.std.proofs.lemmas.Bool.{cases_Bool}
use Rattle.std.proofs.lemmas.Bool.Decides.{nat_tests}
use Rattle.rv32_decode.specs.declared.Instr.{Instr}
use Rattle.rv32_decode.specs.declared.Instr.TheVariants.{Store}
use Rattle.block_layout.specs.Layout.{Shape}
use Rattle.rv32_program.specs.Program.{Program}
use Rattle.rv32_step.specs.Registers.{reg}
use Rattle.rv32_step.specs.Breaks.{is_plain, leaves, stores_by, accesses_by, stands_at_store, StandFrom, RunsToStore}
use Rattle.one_memory.specs.Stretches.{reaches, store_base, reaches_as, reaches_by_any, reaches_or_stands}

both : (a b : Bool) → (a && b) ≡ true → (a ≡ true) × (b ≡ true)
both true true h = (refl, refl)
both true false h = absurd (cc)
both false b h = absurd (cc)

or_again : (a b c : Bool) → ((a || b) || c) ≡ true → (a || (b || c)) ≡ true
or_again true b c h = refl
or_again false b c h = h

or_before : (a b c : Bool) → (a || (b || c)) ≡ true → ((a || b) || c) ≡ true
or_before true b c h = refl
or_before false b c h = h

or_right : (a b : Bool) → b ≡ true → (a || b) ≡ true
or_right true b h = refl
or_right false b h = h

and_true : (a b : Bool) → a ≡ true → b ≡ true → (a && b) ≡ true
and_true true b h g = g
and_true false b h g = absurd (cc)

none_more : (a : Bool) → (a || false) ≡ true → a ≡ true
none_more true h = refl
none_more false h = absurd (cc)

-- not both yet
pub not_both : (a b : Bool) → ((a ≡ true) × (b ≡ false)) ⊎ (a ≡ false) → (a && b) ≡ false
not_both a b (inl e) = and_off a b e.0 e.1
  where
    and_off : (a b : Bool) → a ≡ true → b ≡ false → (a && b) ≡ false
    and_off true b e f = f
    and_off false b e f = refl
not_both a b (inr e) = ap (λ x. x && b) e

or_left : (a b : Bool) → a ≡ true → (a || b) ≡ true
or_left true b h = refl
or_left false b h = absurd (cc)

module _ (program : Program) (layout : Shape) (b base value : ℕ) where
  plain : Instr → Bool
  plain i = is_plain i && leaves base i

  last : (a : ℕ) (s t : Bool) → reaches program layout b base value zero a s t ≡ (s && t)
  unfolding reaches
  last a s t = refl

  more : (n a : ℕ) (s t : Bool) → reaches program layout b base value (suc n) a s t ≡ ((s && t) || option_map_or (λ i. (is_plain i && leaves base i) && reaches program layout b base value n ((a + 4) % 2 ^ 32) (s || stores_by base i) (t || accesses_by layout b base value i)) (program.code a) false)
  unfolding reaches
  more n a s t = refl

  ended : (n a : ℕ) (s t : Bool) → s ≡ true → t ≡ true → reaches program layout b base value n a s t ≡ true
  ended zero a s t hs ht = last a s t ∙ and_true s t hs ht
  ended (suc n) a true true hs ht = more n a true true
  ended (suc n) a true false hs ht = absurd (cc)
  ended (suc n) a false t hs ht = absurd (cc)

  -- where the words end, or the next one is of another kind
  pub reaches_ended : (n a : ℕ) (s t : Bool) → n ≡ 0 → reaches program layout b base value n a s t ≡ (s && t)
  reaches_ended zero a s t is = last a s t
  reaches_ended (suc n) a s t is = absurd (omega (arith, is))

  pub reaches_both : (n a : ℕ) (s t : Bool) → s ≡ true → t ≡ true → reaches program layout b base value n a s t ≡ true
  reaches_both n a s t hs ht = ended n a s t hs ht

  pub reaches_none : (n a : ℕ) (s t : Bool) → (s && t) ≡ false → None ≡ program.code a → reaches program layout b base value n a s t ≡ false
  reaches_none zero a s t off is = last a s t ∙ off
  reaches_none (suc n) a s t off is = more n a s t ∙ ap (λ x. x || option_map_or (λ i. (is_plain i && leaves base i) && reaches program layout b base value n ((a + 4) % 2 ^ 32) (s || stores_by base i) (t || accesses_by layout b base value i)) (program.code a) false) off
      ∙ sym (ap (λ o. option_map_or (λ i. (is_plain i && leaves base i) && reaches program layout b base value n ((a + 4) % 2 ^ 32) (s || stores_by base i) (t || accesses_by layout b base value i)) o false) is)

  step : (n a : ℕ) (s t : Bool) (i : Instr) → (s && t) ≡ false → Some i ≡ program.code a → reaches program layout b base value (suc n) a s t ≡ ((is_plain i && leaves base i) && reaches program layout b base value n ((a + 4) % 2 ^ 32) (s || stores_by base i) (t || accesses_by layout b base value i))
  step n a s t i off is = more n a s t ∙ ap (λ x. x || option_map_or (λ i. (is_plain i && leaves base i) && reaches program layout b base value n ((a + 4) % 2 ^ 32) (s || stores_by base i) (t || accesses_by layout b base value i)) (program.code a) false) off
      ∙ sym (ap (λ o. option_map_or (λ i. (is_plain i && leaves base i) && reaches program layout b base value n ((a + 4) % 2 ^ 32) (s || stores_by base i) (t || accesses_by layout b base value i)) o false) is)

  pub reaches_other : (n a : ℕ) (s t : Bool) (i : Instr) → (s && t) ≡ false → Some i ≡ program.code a → (is_plain i && leaves base i) ≡ false → reaches program layout b base value n a s t ≡ false
  reaches_other zero a s t i off is not = last a s t ∙ off
  reaches_other (suc n) a s t i off is not = step n a s t i off is ∙ ap (λ x. x && reaches program layout b base value n ((a + 4) % 2 ^ 32) (s || stores_by base i) (t || accesses_by layout b base value i)) not

  pub reaches_next : (n m a : ℕ) (s t : Bool) (i : Instr) → n ≡ m + 1 → (s && t) ≡ false → Some i ≡ program.code a → (is_plain i && leaves base i) ≡ true → reaches program layout b base value n a s t ≡ reaches program layout b base value m ((a + 4) % 2 ^ 32) (s || stores_by base i) (t || accesses_by layout b base value i)
  reaches_next zero m a s t i is off here fits = absurd (omega (arith, is))
  reaches_next (suc n) m a s t i is off here fits =
      let same : n ≡ m = omega (arith, is) in
      step n a s t i off here ∙ ap (λ x. x && reaches program layout b base value n ((a + 4) % 2 ^ 32) (s || stores_by base i) (t || accesses_by layout b base value i)) fits
      ∙ ap (λ k. reaches program layout b base value k ((a + 4) % 2 ^ 32) (s || stores_by base i) (t || accesses_by layout b base value i)) same

  -- a stretch of so many words, where these facts are known of the words before
  record Found (n a : ℕ) (s t : Bool) : Type 0 where
    stretch : List Instr
    few : length stretch ≤ n
    stand : StandFrom program a stretch
    all : list_all (λ i. is_plain i && leaves base i) stretch ≡ true
    stores : (s || list_any (stores_by base) stretch) ≡ true
    accesses : (t || list_any (accesses_by layout b base value) stretch) ≡ true

  at_once : (n a : ℕ) → Found n a true true
  at_once n a = record { stretch = []; few = omega arith; stand = tt; all = refl; stores = refl; accesses = refl }

  one_more : (n a : ℕ) (s t : Bool) (o : Option Instr) → program.code a ≡ o
      → ((s' t' : Bool) → reaches program layout b base value n ((a + 4) % 2 ^ 32) s' t' ≡ true → Found n ((a + 4) % 2 ^ 32) s' t')
      → option_map_or (λ i. (is_plain i && leaves base i) && reaches program layout b base value n ((a + 4) % 2 ^ 32) (s || stores_by base i) (t || accesses_by layout b base value i)) o false ≡ true
      → Found (suc n) a s t
  one_more n a s t None is go h = absurd (cc)
  one_more n a s t (Some i) is go h =
      let p = both (is_plain i && leaves base i) _ h in
      let rest = go (s || stores_by base i) (t || accesses_by layout b base value i) p.1 in
      record {
        stretch = i ∷ rest.stretch;
        few = let few = rest.few in omega (arith, few);
        stand = (is, rest.stand);
        all = and_true _ _ p.0 rest.all;
        stores = or_again s (stores_by base i) (list_any (stores_by base) rest.stretch) rest.stores;
        accesses = or_again t (accesses_by layout b base value i) (list_any (accesses_by layout b base value) rest.stretch) rest.accesses;
      }

  sound : (n a : ℕ) (s t : Bool) → reaches program layout b base value n a s t ≡ true → Found n a s t
  sound zero a true true h = at_once zero a
  sound zero a true false h = let x = sym (last a true false) ∙ h in absurd (cc)
  sound zero a false t h = let x = sym (last a false t) ∙ h in absurd (cc)
  sound (suc n) a true true h = at_once (suc n) a
  sound (suc n) a true false h = one_more n a true false (program.code a) refl (λ s' t' g. sound n ((a + 4) % 2 ^ 32) s' t' g) (sym (more n a true false) ∙ h)
  sound (suc n) a false t h = one_more n a false t (program.code a) refl (λ s' t' g. sound n ((a + 4) % 2 ^ 32) s' t' g) (sym (more n a false t) ∙ h)

  complete : (n a : ℕ) (s t : Bool) (is : List Instr) → length is ≤ n → StandFrom program a is
      → list_all (λ i. is_plain i && leaves base i) is ≡ true
      → (s || list_any (stores_by base) is) ≡ true
      → (t || list_any (accesses_by layout b base value) is) ≡ true
      → reaches program layout b base value n a s t ≡ true
  complete n a s t [] few stand all hs ht = ended n a s t (none_more s hs) (none_more t ht)
  complete zero a s t (i ∷ is) few stand all hs ht = absurd (omega (arith, few))
  complete (suc n) a s t (i ∷ is) few stand all hs ht =
      let p = both (is_plain i && leaves base i) _ all in
      let rest = complete n ((a + 4) % 2 ^ 32) (s || stores_by base i) (t || accesses_by layout b base value i) is (omega (arith, few)) stand.1 p.1
      (or_before s (stores_by base i) _ hs) (or_before t (accesses_by layout b base value i) _ ht) in
      more n a s t ∙ or_right (s && t) _
      (ap (λ o. option_map_or (λ i. (is_plain i && leaves base i) && reaches program layout b base value n ((a + 4) % 2 ^ 32) (s || stores_by base i) (t || accesses_by layout b base value i)) o false) stand.0
      ∙ and_true _ _ p.0 rest)

-- the store by a base register has that one
base_of : (base : ℕ) (i : Instr) → stores_by base i ≡ true → store_base i ≡ Some base
base_of base (Store w rs1 rs2 imm) h = let same : rs1 ≡ base = grind (arith, nat_tests) in ap (λ r. Some r) same
base_of base other h = absurd (cc)

module _ (program : Program) (layout : Shape) (b : ℕ) (registers : ℕ → ℕ) (pc : ℕ) where
  abbrev Reaches : ℕ → Type 0
  Reaches base = reaches program layout b base (reg registers base) 16 pc false false ≡ true

  runs_by : (base : ℕ) → Reaches base → RunsToStore program layout b registers pc
  runs_by base h =
      let f = sound program layout b base (reg registers base) 16 pc false false h in
      record { base = base; stretch = f.stretch; few = f.few; stand = f.stand; plain = f.all; stores = f.stores; accesses = f.accesses }

  by_store : (o : Option ℕ) → option_map_or (λ base. reaches program layout b base (reg registers base) 16 pc false false) o false ≡ true → RunsToStore program layout b registers pc
  by_store None h = absurd (cc)
  by_store (Some base) h = runs_by base h

  any_last : (a : ℕ) → reaches_by_any program layout b registers pc zero a ≡ false
  unfolding reaches_by_any
  any_last a = refl

  any_more : (n a : ℕ) → reaches_by_any program layout b registers pc (suc n) a ≡ option_map_or (λ i. reaches_as program layout b registers pc i || reaches_by_any program layout b registers pc n ((a + 4) % 2 ^ 32)) (program.code a) false
  unfolding reaches_by_any
  any_more n a = refl

  pub any_ended : (n a : ℕ) → n ≡ 0 → reaches_by_any program layout b registers pc n a ≡ false
  any_ended zero a is = any_last a
  any_ended (suc n) a is = absurd (omega (arith, is))

  pub any_none : (n a : ℕ) → None ≡ program.code a → reaches_by_any program layout b registers pc n a ≡ false
  any_none zero a is = any_last a
  any_none (suc n) a is = any_more n a ∙ sym (ap (λ o. option_map_or (λ i. reaches_as program layout b registers pc i || reaches_by_any program layout b registers pc n ((a + 4) % 2 ^ 32)) o false) is)

  pub any_here : (n m a : ℕ) (i : Instr) → n ≡ m + 1 → Some i ≡ program.code a → reaches_as program layout b registers pc i ≡ true → reaches_by_any program layout b registers pc n a ≡ true
  any_here zero m a i is here fits = absurd (omega (arith, is))
  any_here (suc n) m a i is here fits = any_more n a ∙ sym (ap (λ o. option_map_or (λ i. reaches_as program layout b registers pc i || reaches_by_any program layout b registers pc n ((a + 4) % 2 ^ 32)) o false) here) ∙ or_left _ _ fits

  pub any_next : (n m a : ℕ) (i : Instr) → n ≡ m + 1 → Some i ≡ program.code a → reaches_as program layout b registers pc i ≡ false → reaches_by_any program layout b registers pc n a ≡ reaches_by_any program layout b registers pc m ((a + 4) % 2 ^ 32)
  any_next zero m a i is here fits = absurd (omega (arith, is))
  any_next (suc n) m a i is here fits =
      let same : n ≡ m = omega (arith, is) in
      any_more n a ∙ sym (ap (λ o. option_map_or (λ i. reaches_as program layout b registers pc i || reaches_by_any program layout b registers pc n ((a + 4) % 2 ^ 32)) o false) here)
      ∙ ap (λ x. x || reaches_by_any program layout b registers pc n ((a + 4) % 2 ^ 32)) fits
      ∙ ap (λ k. reaches_by_any program layout b registers pc k ((a + 4) % 2 ^ 32)) same

  any_one : (n a : ℕ) (o : Option Instr) → (reaches_by_any program layout b registers pc n ((a + 4) % 2 ^ 32) ≡ true → RunsToStore program layout b registers pc) → option_map_or (λ i. reaches_as program layout b registers pc i || reaches_by_any program layout b registers pc n ((a + 4) % 2 ^ 32)) o false ≡ true → RunsToStore program layout b registers pc
  any_one n a None go h = absurd (cc)
  any_one n a (Some i) go h = elim (cases_Bool (reaches_as program layout b registers pc i)) [
    | inl e ↦ by_store (store_base i) e
    | inr e ↦ go (sym (ap (λ x. x || reaches_by_any program layout b registers pc n ((a + 4) % 2 ^ 32)) e) ∙ h)
  ]

  any_sound : (n a : ℕ) → reaches_by_any program layout b registers pc n a ≡ true → RunsToStore program layout b registers pc
  any_sound zero a h = let x = sym (any_last a) ∙ h in absurd (cc)
  any_sound (suc n) a h = any_one n a (program.code a) (λ g. any_sound n ((a + 4) % 2 ^ 32) g) (sym (any_more n a) ∙ h)

  any_complete : (n a base : ℕ) (is : List Instr) → Reaches base → length is ≤ n → StandFrom program a is → list_any (stores_by base) is ≡ true → reaches_by_any program layout b registers pc n a ≡ true
  any_complete n a base [] r few stand any = absurd (cc)
  any_complete zero a base (i ∷ is) r few stand any = absurd (omega (arith, few))
  any_complete (suc n) a base (i ∷ is) r few stand any =
      let next = (a + 4) % 2 ^ 32 in
      any_more n a ∙ ap (λ o. option_map_or (λ i. reaches_as program layout b registers pc i || reaches_by_any program layout b registers pc n ((a + 4) % 2 ^ 32)) o false) stand.0
      ∙ elim (cases_Bool (stores_by base i)) [
        | inl e ↦ or_left _ _ (ap (λ o. option_map_or (λ base. reaches program layout b base (reg registers base) 16 pc false false) o false) (base_of base i e) ∙ r)
        | inr e ↦ or_right (reaches_as program layout b registers pc i) _ (any_complete n next base is r (omega (arith, few)) stand.1 (sym (ap (λ x. x || list_any (stores_by base) is) e) ∙ any))
      ]

  pub found_runs : reaches_or_stands program layout b registers pc ≡ true → (stands_at_store program layout b registers pc ≡ true) ⊎ RunsToStore program layout b registers pc
  found_runs h = elim (cases_Bool (stands_at_store program layout b registers pc)) [
    | inl e ↦ inl e
    | inr e ↦ inr (any_sound 16 pc (sym (ap (λ x. x || reaches_by_any program layout b registers pc 16 pc) e) ∙ h))
  ]

  pub all_found : (stands_at_store program layout b registers pc ≡ true) ⊎ RunsToStore program layout b registers pc → reaches_or_stands program layout b registers pc ≡ true
  all_found (inl e) = or_left _ _ e
  all_found (inr r) =
      or_right (stands_at_store program layout b registers pc) _
      (any_complete 16 pc r.base r.stretch (complete program layout b r.base (reg registers r.base) 16 pc false false r.stretch r.few r.stand r.plain r.stores r.accesses) r.few r.stand r.stores)
