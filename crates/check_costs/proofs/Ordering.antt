-- The functions of a table in the order in which a sweep comes to them.
use Rattle.std.proofs.Common.{◌≡◌, ℕ, suc, ◌+◌, ◌-◌, ◌<◌, ◌≤◌, false, List, [], ◌∷◌, ◌++◌, map, length, get_or, slice_index_or, refl, sym, ap, ◌∙◌, subst, arith, inl, inr}
use Rattle.std.specs.Prelude.{All}
use Rattle.std.specs.List.Sorted.{IsPermutation, IsNonDecreasingBy, IsSortedByKey}
use Rattle.std.specs.Ordering.{nat_cmp, is_lt}
use Rattle.std.specs.declared.cmp.Ordering.TheVariants.{Equal, Greater}
use Rattle.std.specs.Cmp.{nat_cmp_is}
use Rattle.std.proofs.lemmas.Bool.Decides.{eqb_tells}
use Rattle.std.proofs.lemmas.List.{get_or-map, length-map, length_push, get_or_append_left, get_or_push, get_or_default}
use Rattle.std.proofs.lemmas.List.Elements.{All-cons, All-nil, All-append}
use Rattle.std.proofs.lemmas.List.Sorted.{All-permutation, Contains-permutation}
use Rattle.elf_symbols.specs.declared.Symbol as declared
use Rattle.elf_symbols.specs.Symbols.{Symbol}
use Rattle.elf_symbols.specs.Given.{symbol_of}
use Rattle.check_costs.specs.declared.functions.Function.{Function}
use Rattle.check_costs.specs.Sweep.{IsUpTo, Rises, IsOf, AreInOrder}

-- 1. A function more, before they are sorted

-- these are the last functions of the table, the last of all first
pub record AreLast (symbols : List Symbol) (fs : List Function) (count : ℕ) : Type 0 where
  pub long : length fs ≡ count
  pub each : All (λ f. IsOf symbols f) fs
  pub numbers : (k : ℕ) (d : Function) → k < count → (slice_index_or fs k d).later ≡ k

pub none_yet : (symbols : List Symbol) → AreLast symbols [] 0
none_yet symbols = record {
  long = refl;
  each = All-nil (λ f. IsOf symbols f);
  numbers = λ k d low. absurd (omega (arith, low));
}

made_of : (table : List declared.Symbol) (later : ℕ) (s : declared.Symbol) (f : Function) → later < length table
    → s ≡ get_or table (length table - 1 - later) s → f.begin ≡ s.value → f.end ≡ s.value + s.size
    → f.later ≡ later → IsOf (map symbol_of table) f
made_of table later s f low is begins ends number =
    let long = length-map table symbol_of in
    let at : (d : Symbol) → get_or (map symbol_of table) (length (map symbol_of table) - 1 - f.later) d ≡ symbol_of s =
    λ d. (λ j. get_or (map symbol_of table) (long j - 1 - number j) d)
    ∙ get_or-map symbol_of table (length table - 1 - later) s d (omega (arith, low))
    ∙ ap symbol_of (sym is) in
    record {
      within = omega (arith, long, number, low);
      begin = λ d. ap (λ (x : Symbol). x.value) (at d) ∙ sym begins;
      end = λ d. ap (λ (x : Symbol). x.value + x.size) (at d) ∙ sym ends;
    }

pub one_more : (table : List declared.Symbol) (fs new : List Function) (later : ℕ) (s : declared.Symbol) (f : Function)
    → AreLast (map symbol_of table) fs later → later < length table
    → s ≡ get_or table (length table - 1 - later) s → f.begin ≡ s.value → f.end ≡ s.value + s.size
    → f.later ≡ later → new ≡ fs ++ f ∷ [] → AreLast (map symbol_of table) new (later + 1)
one_more table fs new later s f h low is begins ends number pushed =
    subst (λ xs. AreLast (map symbol_of table) xs (later + 1)) (sym pushed) (record {
      long = length_push fs f ∙ ap (λ n. n + 1) h.long;
      each = All-append (λ g. IsOf (map symbol_of table) g) fs (f ∷ []) h.each
          (All-cons (λ g. IsOf (map symbol_of table) g) f [] (made_of table later s f low is begins ends number)
          (All-nil (λ g. IsOf (map symbol_of table) g)));
      numbers = λ k d within. elim (eqb_tells k later) [
        | inl same ↦
            ap (λ (g : Function). g.later) (get_or_push fs f d k (h.long ∙ sym same.1)) ∙ number ∙ sym same.1
        | inr apart ↦
            let other = apart.1 in
            let long = h.long in
            let before : k < later = omega (arith, within, other) in
            ap (λ (g : Function). g.later) (get_or_append_left fs (f ∷ []) d k (omega (arith, before, long)))
            ∙ h.numbers k d before
      ];
    })

-- 2. Sorted

not_less : (a b : ℕ) → b ≤ a → is_lt (nat_cmp a b) ≡ false
not_less a b low = elim (eqb_tells a b) [
  | inl same ↦ ap is_lt (sym (nat_cmp_is a b Equal same.1))
  | inr apart ↦ ap is_lt (sym (nat_cmp_is a b Greater (let other = apart.1 in omega (arith, low, other))))
]

pub sorted_by_later : (symbols : List Symbol) (fs : List Function) (count : ℕ) → AreLast symbols fs count
    → IsSortedByKey (λ f. f.later) nat_cmp fs
sorted_by_later symbols fs count h = λ k d low within.
    let long = h.long in
    let one = h.numbers k d (omega (arith, within, long)) in
    let two = h.numbers (k + 1) d (omega (arith, within, long)) in
    not_less (get_or fs (k + 1) d).later (get_or fs k d).later (omega (arith, one, two))

rises_by : (fs : List Function)
    → ((k : ℕ) (d : Function) → k + 1 < length fs → IsUpTo (get_or fs k d) (get_or fs (k + 1) d)) → Rises fs
rises_by [] h = tt
rises_by (f ∷ []) h = tt
rises_by (f ∷ (g ∷ gs)) h = (
  h 0 f (omega arith),
  rises_by (g ∷ gs) (λ k d low. let same : suc k + 1 ≡ suc (k + 1) = omega arith in
      subst (λ n. IsUpTo (get_or (g ∷ gs) k d) (get_or (f ∷ (g ∷ gs)) n d)) same (h (suc k) d (omega (arith, low)))),
)

up_to : (f g : Function) → f.begin ≤ g.begin → (f.begin ≡ g.begin → f.later ≤ g.later) → IsUpTo f g
up_to f g low ties = elim (eqb_tells f.begin g.begin) [
  | inl same ↦ inr (same.1, ties same.1)
  | inr apart ↦ let other = apart.1 in inl (omega (arith, low, other))
]

pub in_order : (symbols : List Symbol) (fs gs : List Function) → AreLast symbols fs (length symbols)
    → IsPermutation fs gs → length gs ≡ length fs → IsNonDecreasingBy (λ f. f.begin) gs
    → ((k : ℕ) (d : Function) → k + 1 < length gs → (get_or gs k d).begin ≡ (get_or gs (k + 1) d).begin
    → (get_or gs k d).later ≤ (get_or gs (k + 1) d).later)
    → AreInOrder symbols gs
in_order symbols fs gs h same long rising ties = record {
  count = long ∙ h.long;
  each = All-permutation (λ f. IsOf symbols f) fs gs same h.each;
  complete = λ k within.
      let none : Function = record { begin = 0; end = 0; later = 0 } in
      let f = get_or fs k none in
      let all = h.long in
      let low : k < length fs = omega (arith, within, all) in
      (f, Contains-permutation fs gs f same (k, low, get_or_default fs k f none low), h.numbers k none within);
  rises = rises_by gs (λ k d low. up_to (get_or gs k d) (get_or gs (k + 1) d)
      (rising k (k + 1) d (omega arith) low) (ties k d low));
}
