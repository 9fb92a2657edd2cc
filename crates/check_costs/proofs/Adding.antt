-- The counts of functions, with those of one entry more.
use Rattle.std.proofs.Common.{◌≡◌, ℕ, ◌+◌, ◌<◌, ◌≤◌, true, false, cond, eqb, List, [], ◌∷◌, ◌++◌, length, replicate, set, take, drop, get_or, slice_index_or, Option, sym, ap, ◌∙◌, subst, arith, inl, inr, append_assoc}
use Rattle.std.specs.Prelude.{Contains}
use Rattle.std.specs.List.{count_by, flat_map}
use Rattle.std.proofs.lemmas.Bool.Decides.{eqb_tells}
use Rattle.std.proofs.lemmas.List.{append-nil, length-append, length-set, length-replicate, length_push, get_or-set_same, get_or-set_other, get_or-replicate, get_or_append_left, get_or_push, drop_all, drop_more, take_all, take_more, same_lists}
use Rattle.std.proofs.lemmas.List.Concat.{flat_map-append}
use Rattle.std.proofs.lemmas.List.Elements.{filter-append}
use Rattle.std.proofs.lemmas.List.FromFn.{get_or-map-range_with_len, length-map-range_with_len}
use Rattle.std.proofs.lemmas.List.Sums.{sum_by-append, sum_by_push}
use Rattle.rv32_decode.specs.declared.Instr.{Instr}
use Rattle.templates.specs.declared.plans.PlanEntry.{PlanEntry}
use Rattle.templates.specs.Plans.{AscendsFrom}
use Rattle.elf_symbols.specs.Symbols.{Symbol}
use Rattle.check_costs.specs.declared.kinds.WordKind.{WordKind}
use Rattle.check_costs.specs.declared.kinds.WordKind.TheVariants.{Own, FlagCheck, StateCheck, StoreCheck, Batch, Poll, Jump, Spill}
use Rattle.check_costs.specs.declared.counts.WordCounts.{WordCounts}
use Rattle.check_costs.specs.Kinds.{kinds_of}
use Rattle.check_costs.specs.Counts.{is_kind, times, counts_by, plus, function_of, entries_in, kinds_before, has_code, counts_in, counts_of}
use Rattle.check_costs.specs.Given.{AreCountsOf}

times_of_both : (k : WordKind) (ks ls : List WordKind) → times k (ks ++ ls) ≡ times k ks + times k ls
times_of_both k ks ls = sum_by-append (λ x. cond (is_kind k x) 1 0) ks ls

pub plus_is : (m n : ℕ) (ks ls : List WordKind) → plus (counts_by m ks) (counts_by n ls) ≡ counts_by (m + n) (ks ++ ls)
plus_is m n ks ls = sym (λ j. record {
  instructions = m + n;
  words = length-append ks ls j;
  own = times_of_both Own ks ls j;
  flag_checks = times_of_both FlagCheck ks ls j;
  state_checks = times_of_both StateCheck ks ls j;
  store_checks = times_of_both StoreCheck ks ls j;
  batches = times_of_both Batch ks ls j;
  polls = times_of_both Poll ks ls j;
  jumps = times_of_both Jump ks ls j;
  spills = times_of_both Spill ks ls j;
})

module _ (symbols : List Symbol) (code : ℕ → Option Instr) (es : List PlanEntry) (e : PlanEntry) where
  one_in : (f : ℕ) → eqb (function_of symbols e.address) f ≡ true
      → entries_in symbols f (es ++ e ∷ []) ≡ entries_in symbols f es ++ e ∷ []
  one_in f is =
      filter-append (λ x. eqb (function_of symbols x.address) f) es (e ∷ [])
      ∙ ap (λ b. entries_in symbols f es ++ cond b (e ∷ []) []) is

  one_out : (f : ℕ) → eqb (function_of symbols e.address) f ≡ false
      → entries_in symbols f (es ++ e ∷ []) ≡ entries_in symbols f es
  one_out f is =
      filter-append (λ x. eqb (function_of symbols x.address) f) es (e ∷ [])
      ∙ ap (λ b. entries_in symbols f es ++ cond b (e ∷ []) []) is
      ∙ append-nil (entries_in symbols f es)

  with_one : (f : ℕ) → eqb (function_of symbols e.address) f ≡ true
      → counts_in symbols code (es ++ e ∷ []) f
      ≡ plus (counts_in symbols code es f) (counts_by (cond (has_code code e) 1 0) (kinds_of code e))
  with_one f is =
      let old = entries_in symbols f es in
      (λ j. counts_by (count_by (has_code code) (one_in f is j))
      (kinds_before symbols f ++ flat_map (kinds_of code) (one_in f is j)))
      ∙ (λ j. counts_by (sum_by_push (λ x. cond (has_code code x) 1 0) old e j)
      (kinds_before symbols f ++ flat_map-append (kinds_of code) old (e ∷ []) j))
      ∙ (λ j. counts_by (count_by (has_code code) old + cond (has_code code e) 1 0)
      (kinds_before symbols f ++ (flat_map (kinds_of code) old ++ append-nil (kinds_of code e) j)))
      ∙ (λ j. counts_by (count_by (has_code code) old + cond (has_code code e) 1 0)
      (sym (append_assoc (kinds_before symbols f) (flat_map (kinds_of code) old) (kinds_of code e)) j))
      ∙ sym (plus_is (count_by (has_code code) old) (cond (has_code code e) 1 0)
      (kinds_before symbols f ++ flat_map (kinds_of code) old) (kinds_of code e))

  without : (f : ℕ) → eqb (function_of symbols e.address) f ≡ false
      → counts_in symbols code (es ++ e ∷ []) f ≡ counts_in symbols code es f
  without f is = λ j. counts_by (count_by (has_code code) (one_out f is j))
      (kinds_before symbols f ++ flat_map (kinds_of code) (one_out f is j))

  pub one_more : (old new : List WordCounts) (n : ℕ) (more : WordCounts) → AreCountsOf symbols code es old
      → n ≡ function_of symbols e.address → n < length old
      → more ≡ counts_by (cond (has_code code e) 1 0) (kinds_of code e)
      → new ≡ set old n (plus (slice_index_or old n more) more) → AreCountsOf symbols code (es ++ e ∷ []) new
  one_more old new n more h of low is set_is = record {
    count = ap length set_is ∙ length-set old n (plus (slice_index_or old n more) more) ∙ h.count;
    each = λ f d within. ap (λ xs. slice_index_or xs f d) set_is ∙ at_one f d within;
  }
    where
      at_one : (f : ℕ) (d : WordCounts) → f < length symbols + 1
          → slice_index_or (set old n (plus (slice_index_or old n more) more)) f d
          ≡ counts_in symbols code (es ++ e ∷ []) f
      at_one f d within = elim (eqb_tells n f) [
        | inl same ↦
            let here : slice_index_or old n more ≡ counts_in symbols code es f =
            ap (λ k. slice_index_or old k more) same.1 ∙ h.each f more within in
            let test : eqb (function_of symbols e.address) f ≡ true = ap (λ k. eqb k f) (sym of) ∙ same.0 in
            ap (λ k. slice_index_or (set old n (plus (slice_index_or old n more) more)) k d) (sym same.1)
            ∙ get_or-set_same old n (plus (slice_index_or old n more) more) d low
            ∙ (λ j. plus (here j) (is j))
            ∙ sym (with_one f test)
        | inr apart ↦
            let test : eqb (function_of symbols e.address) f ≡ false = ap (λ k. eqb k f) (sym of) ∙ apart.0 in
            get_or-set_other old n f (plus (slice_index_or old n more) more) d (λ s. apart.1 (sym s))
            ∙ h.each f d within ∙ sym (without f test)
      ]

-- before any entry
pub at_first : (symbols : List Symbol) (code : ℕ → Option Instr) (old : List WordCounts)
    → old ≡ replicate (length symbols) (counts_by 0 []) ++ counts_by 0 (Jump ∷ []) ∷ []
    → AreCountsOf symbols code [] old
at_first symbols code old is = record {
  count = ap length is ∙ length_push (replicate (length symbols) (counts_by 0 [])) (counts_by 0 (Jump ∷ []))
      ∙ ap (λ n. n + 1) (length-replicate (length symbols) (counts_by 0 []));
  each = λ f d within. ap (λ xs. slice_index_or xs f d) is ∙ at_one f d within;
}
  where
    none : List WordCounts
    none = replicate (length symbols) (counts_by 0 [])

    at_one : (f : ℕ) (d : WordCounts) → f < length symbols + 1
        → slice_index_or (none ++ counts_by 0 (Jump ∷ []) ∷ []) f d ≡ counts_in symbols code [] f
    at_one f d within = elim (eqb_tells f (length symbols)) [
      | inl same ↦
          let long = length-replicate (length symbols) (counts_by 0 []) in
          get_or_push none (counts_by 0 (Jump ∷ [])) d f (long ∙ sym same.1)
          ∙ ap (λ b. counts_by 0 (cond b (Jump ∷ []) [] ++ [])) (sym same.0)
      | inr apart ↦
          let long = length-replicate (length symbols) (counts_by 0 []) in
          let low : f < length symbols = let other = apart.1 in omega (arith, within, other) in
          get_or_append_left none (counts_by 0 (Jump ∷ []) ∷ []) d f (omega (arith, long, low))
          ∙ get_or-replicate (length symbols) f (counts_by 0 []) d low
          ∙ ap (λ b. counts_by 0 (cond b (Jump ∷ []) [] ++ [])) (sym apart.0)
    ]

-- after all of them
pub at_last : (symbols : List Symbol) (code : ℕ → Option Instr) (plan : List PlanEntry) (counts : List WordCounts)
    → AreCountsOf symbols code plan counts → counts ≡ counts_of symbols code plan
at_last symbols code plan counts h =
    let n = length symbols + 1 in
    let long = length-map-range_with_len (counts_in symbols code plan) 0 n in
    same_lists counts (counts_of symbols code plan) (h.count ∙ sym long)
    (λ k d low. let within : k < n = let c = h.count in omega (arith, low, c) in
    h.each k d within ∙ sym (get_or-map-range_with_len (counts_in symbols code plan) 0 n k k d within (omega arith)))

-- addresses that ascend from further on
pub from_lower : (low high : ℕ) (es : List PlanEntry) → low ≤ high → AscendsFrom high es → AscendsFrom low es
from_lower low high [] le h = h
from_lower low high (e ∷ es) le h = (let first = h.0 in omega (arith, le, first), h.1)

-- entries that are lent are those of the plan

pub member_of : (xs ys : List PlanEntry) (i : ℕ) (e : PlanEntry) → ys ≡ xs → i < length ys → e ≡ get_or ys i e
    → Contains xs e
member_of xs ys i e same low is = subst (λ zs. Contains zs e) same (i, low, sym is)

pub front_of : (xs ys : List PlanEntry) (i : ℕ) (e : PlanEntry) → ys ≡ xs → i < length ys → e ≡ get_or ys i e
    → drop i xs ≡ e ∷ drop (i + 1) xs
front_of xs ys i e same low is =
    subst (λ zs. drop i zs ≡ e ∷ drop (i + 1) zs) same
    (drop_more ys i e low ∙ ap (λ x. x ∷ drop (i + 1) ys) (sym is))

pub one_taken : (xs ys : List PlanEntry) (i : ℕ) (e : PlanEntry) → ys ≡ xs → i < length ys → e ≡ get_or ys i e
    → take i xs ++ e ∷ [] ≡ take (i + 1) xs
one_taken xs ys i e same low is =
    subst (λ zs. take i zs ++ e ∷ [] ≡ take (i + 1) zs) same
    (sym (take_more ys i e low ∙ ap (λ x. take i ys ++ x ∷ []) (sym is)))

-- the next address isn't below the one before
pub not_below : (low : ℕ) (es fs : List PlanEntry) (e : PlanEntry) → es ≡ e ∷ fs → AscendsFrom low es
    → (low ≤ e.address) × AscendsFrom e.address fs
not_below low es fs e is h =
    let up = subst (AscendsFrom low) is h in
    (up.0, from_lower e.address (e.address + 1) fs (omega arith) up.1)

pub all_counted : (symbols : List Symbol) (code : ℕ → Option Instr) (plan ys : List PlanEntry)
    (counts : List WordCounts) (i : ℕ) → ys ≡ plan → length ys ≤ i → AreCountsOf symbols code (take i plan) counts
    → counts ≡ counts_of symbols code plan
all_counted symbols code plan ys counts i same all h =
    at_last symbols code plan counts (subst (λ es. AreCountsOf symbols code es counts)
    (take_all i plan (subst (λ zs. length zs ≤ i) same all)) h)

-- what is written through a slice of the whole
pub written_back : (xs ys : List WordCounts) (n : ℕ) → n ≡ length xs → length ys ≡ length xs
    → take n (ys ++ drop (length ys) xs) ≡ ys
written_back xs ys n long same =
    ap (λ zs. take n (ys ++ zs)) (drop_all (length ys) xs (omega (arith, same)))
    ∙ ap (take n) (append-nil ys) ∙ take_all n ys (omega (arith, long, same))
