-- The number of the function that has a byte, by the order in which a sweep comes to functions.
use Rattle.std.proofs.Common.{◌≡◌, ◌≢◌, ℕ, ◌+◌, ◌-◌, ◌<◌, ◌≤◌, Bool, true, false, not, ◌&&◌, ◌||◌, cond, leb, ltb, List, [], ◌∷◌, ◌++◌, length, take, drop, get_or, Some, None, refl, sym, ap, ◌∙◌, subst, arith, inl, inr}
use Rattle.std.specs.Prelude.{Contains}
use Rattle.std.proofs.lemmas.Bool.Decides.{nat_tests}
use Rattle.std.proofs.lemmas.List.{get_or_default, length-take-le, nil_from_length, take_all, take_more}
use Rattle.std.proofs.lemmas.List.Sums.{position_or_len_is, prefix_len-le-length, list_all-from_AllPass, AllPass-from_list_all}
use Rattle.elf_symbols.specs.Symbols.{Symbol, covers, begins_last}
use Rattle.check_costs.specs.declared.functions.Function.{Function}
use Rattle.check_costs.specs.Counts.{function_of}
use Rattle.check_costs.specs.declared.functions.Functions.{Functions}
use Rattle.check_costs.specs.Sweep.{covers_byte, later_of, last_at, IsUpTo, IsOf, AreInOrder, AreEnough, HasBegun, HasEnded}
use Rattle.check_costs.proofs.Sweeping.{IsLast, last_is, none_is, last_append, none_ahead, covers_it, closed}

no_symbol : Symbol
no_symbol = record { name = []; value = 0; size = 0 }

both_hold : (s t : Bool) → (s && t) ≡ true → (s ≡ true) × (t ≡ true)
both_hold true t e = (refl, e)
both_hold false t e = let bad : false ≡ true = e in absurd cc

module _ (symbols : List Symbol) (sorted : List Function) (order : AreInOrder symbols sorted) (a : ℕ) where
  abbrev at : ℕ → Symbol
  at k = get_or symbols k no_symbol

  -- a function of the table, as the sweep knows it
  record IsAt (k : ℕ) (g : Function) : Type 0 where
    among : Contains sorted g
    number : k + (g.later + 1) ≡ length symbols
    begin : (at k).value ≡ g.begin
    covers : covers a (at k) ≡ covers_byte a g

  known : (g : Function) → Contains sorted g → IsAt (length symbols - 1 - g.later) g
  known g among =
      let of : IsOf symbols g = subst (IsOf symbols) among.2 (order.each among.0 g among.1) in
      record {
        among = among;
        number = let within = of.within in omega (arith, within);
        begin = of.begin no_symbol;
        covers = λ j. leb (of.begin no_symbol j) a && ltb a (of.end no_symbol j);
      }

  of_number : (k : ℕ) → k < length symbols → (g : Function) × IsAt k g
  of_number k within =
      let found = order.complete (length symbols - 1 - k) (omega (arith, within)) in
      let number = found.2 in
      let same : length symbols - 1 - found.0.later ≡ k = omega (arith, number, within) in
      (found.0, subst (λ i. IsAt i found.0) same (known found.0 found.1))

  abbrev is_it : Symbol → Bool
  is_it s = covers a s && begins_last symbols a s

  module _ (f : Function) (last : IsLast a sorted f) where
    up_to : (k : ℕ) → k < length symbols → covers a (at k) ≡ true → (g : Function) × IsAt k g × IsUpTo g f
    up_to k within has =
        let found = of_number k within in
        let g = found.0 in
        let h = found.1 in
        (g, h, last.last h.among.0 g h.among.1 h.among.2 (sym h.covers ∙ has))

    no_later : (v : ℕ) → f.begin ≤ v → (s : Symbol) → (covers a s ≡ true → s.value ≤ v)
        → (not (covers a s) || leb s.value v) ≡ true
    no_later v low s so = by (covers a s) refl
      where
        by : (b : Bool) → covers a s ≡ b → (not (covers a s) || leb s.value v) ≡ true
        by true e = let le = so e in
            ap (λ b. not b || leb s.value v) e ∙ (let t : leb s.value v ≡ true = grind (arith, nat_tests, le) in t)
        by false e = ap (λ b. not b || leb s.value v) e

    at_it : is_it (at (length symbols - 1 - f.later)) ≡ true
    at_it =
        let h = known f last.among in
        let v = (at (length symbols - 1 - f.later)).value in
        let begins : f.begin ≡ v = sym h.begin in
        (λ j. (h.covers ∙ last.here) j && begins_last symbols a (at (length symbols - 1 - f.later)))
        ∙ list_all-from_AllPass (λ o. not (covers a o) || leb o.value v) symbols
        (λ k d within. no_later v (omega (arith, begins)) (get_or symbols k d)
        (λ has. let e : get_or symbols k d ≡ at k = get_or_default symbols k d no_symbol within in
        let up = up_to k within (ap (covers a) (sym e) ∙ has) in
        let number : (at k).value ≡ up.0.begin = up.1.begin in
        let value : (get_or symbols k d).value ≡ (at k).value = ap (λ (s : Symbol). s.value) e in
        below up.0 up.2 (omega (arith, number, value)) begins))
      where
        below : {n v : ℕ} → (g : Function) → IsUpTo g f → n ≡ g.begin → f.begin ≡ v → n ≤ v
        below g (inl p) is begins = omega (arith, p, is, begins)
        below g (inr p) is begins = let e = p.0 in omega (arith, e, is, begins)

    not_before : (k : ℕ) → k < length symbols - 1 - f.later → is_it (at k) ≡ false
    not_before k low = by (covers a (at k)) refl (begins_last symbols a (at k)) refl
      where
        within : k < length symbols
        within = omega (arith, low)

        by : (b : Bool) → covers a (at k) ≡ b → (c : Bool) → begins_last symbols a (at k) ≡ c → is_it (at k) ≡ false
        by false e c all = λ j. e j && begins_last symbols a (at k)
        by true e false all = λ j. e j && all j
        by true e true all =
            let up = up_to k within e in
            let h = known f last.among in
            let i = length symbols - 1 - f.later in
            let number = h.number in
            let pass = AllPass-from_list_all (λ o. not (covers a o) || leb o.value (at k).value) symbols all
            i no_symbol (omega (arith, number)) in
            let there : covers a (at i) ≡ true = h.covers ∙ last.here in
            let t : leb (at i).value (at k).value ≡ true = ap (λ b. not b || leb (at i).value (at k).value) (sym there) ∙ pass in
            let le : (at i).value ≤ (at k).value = grind (arith, nat_tests, t) in
            absurd (contra up.0 up.2 up.1.number up.1.begin h.begin le)
          where
            contra : (g : Function) → IsUpTo g f → k + (g.later + 1) ≡ length symbols → (at k).value ≡ g.begin
                → (at (length symbols - 1 - f.later)).value ≡ f.begin
                → (at (length symbols - 1 - f.later)).value ≤ (at k).value → ⊥
            contra g (inl p) n b c le = omega (arith, p, b, c, le)
            contra g (inr p) n b c le = let more = p.1 in omega (arith, more, n, low)

    pub found : length symbols - 1 - f.later ≡ function_of symbols a
    found =
        let number = (known f last.among).number in
        sym (position_or_len_is is_it symbols (length symbols - 1 - f.later) no_symbol (omega (arith, number))
        not_before (λ low. at_it))

  pub none_found : last_at a sorted ≡ None → length symbols ≡ function_of symbols a
  none_found none =
      sym (position_or_len_is is_it symbols (length symbols) no_symbol (omega arith)
      (λ k within. let found = of_number k within in
      let h = found.1 in
      let no = none_is a sorted none h.among.0 found.0 h.among.1 h.among.2 in
      λ j. (h.covers ∙ no) j && begins_last symbols a (at k))
      (λ low. absurd (omega (arith, low))))

pub function_below : (symbols : List Symbol) (a n : ℕ) → n ≡ function_of symbols a → n < length symbols + 1
function_below symbols a n is =
    let le = prefix_len-le-length (λ s. not (covers a s && begins_last symbols a s)) symbols in
    omega (arith, le, is)

-- the function at an address to which a sweep has come

last_open : (symbols : List Symbol) (a : ℕ) (f : Functions) → HasEnded symbols a f
    → last_at a f.running.items ≡ last_at a f.sorted.items
last_open symbols a f h =
    let ahead = drop f.begun f.sorted.items in
    sym (ap (later_of (last_at a f.running.items)) (none_ahead a ahead h.begun.ahead))
    ∙ sym (last_append a f.running.items ahead)
    ∙ h.begun.come.enough a (omega arith)

last_open_is : (a : ℕ) (front : List Function) (g : Function) → covers_byte a g ≡ true
    → last_at a (front ++ g ∷ []) ≡ Some g
last_open_is a front g has =
    last_append a front (g ∷ [])
    ∙ ap (λ b. later_of (last_at a front) (later_of (cond b (Some g) None) None)) has

last_of_sorted : (symbols : List Symbol) (a n : ℕ) (f : Functions) (g : Function) → HasEnded symbols a f
    → length f.running.items ≡ n + 1 → g ≡ get_or f.running.items n g → last_at a f.sorted.items ≡ Some g
last_of_sorted symbols a n f g h long is =
    let running = f.running.items in
    let split : running ≡ take n running ++ g ∷ [] =
    sym (take_all (n + 1) running (omega (arith, long)))
    ∙ take_more running n g (omega (arith, long)) ∙ ap (λ x. take n running ++ x ∷ []) (sym is) in
    let begins : g.begin ≤ a =
    subst (λ (x : Function). x.begin ≤ a) (sym is) (h.begun.come.begun n g (omega (arith, long))) in
    let positive : 0 < length running = omega (arith, long) in
    let same : length running - 1 ≡ n = omega (arith, long) in
    let ends : a < g.end =
    subst (λ (x : Function). a < x.end) (ap (λ k. get_or running k g) same ∙ sym is) (h.last g positive) in
    sym (last_open symbols a f h) ∙ ap (last_at a) split ∙ last_open_is a (take n running) g (covers_it a g begins ends)

pub some_open : (symbols : List Symbol) (a n : ℕ) (f : Functions) (g : Function) → HasEnded symbols a f
    → length f.running.items ≡ n + 1 → g ≡ get_or f.running.items n g
    → (length f.sorted.items - 1 - g.later ≡ function_of symbols a) × (g.later + 1 ≤ length f.sorted.items)
some_open symbols a n f g h long is =
    let order = h.begun.come.order in
    let last = last_is a f.sorted.items g order.rises (last_of_sorted symbols a n f g h long is) in
    let count = order.count in
    let of : IsOf symbols g = subst (IsOf symbols) last.among.2 (order.each last.among.0 g last.among.1) in (
      ap (λ k. k - 1 - g.later) count ∙ found symbols f.sorted.items order a g last,
      let within = of.within in omega (arith, within, count),
    )

pub none_open : (symbols : List Symbol) (a : ℕ) (f : Functions) → HasEnded symbols a f
    → length f.running.items ≡ 0 → length f.sorted.items ≡ function_of symbols a
none_open symbols a f h none =
    let order = h.begun.come.order in
    let empty : f.running.items ≡ [] = nil_from_length f.running.items none in
    order.count ∙ none_found symbols f.sorted.items order a (sym (last_open symbols a f h) ∙ ap (last_at a) empty)

-- once those that have ended are closed

pub none_left : (symbols : List Symbol) (a count : ℕ) (old new : Functions) → HasBegun symbols a old
    → AreEnough a old.running.items count → new.sorted ≡ old.sorted → new.begun ≡ old.begun
    → new.running.items ≡ take count old.running.items → count ≡ 0
    → length old.sorted.items ≡ function_of symbols a
none_left symbols a count old new h few sorted same is none =
    let long = ap length is ∙ length-take-le count old.running.items few.some in
    ap (λ v. length v.items) (sym sorted)
    ∙ none_open symbols a new (closed symbols a old new count h few sorted same is) (long ∙ none)

pub one_left : (symbols : List Symbol) (a count : ℕ) (old new : Functions) (g : Function) → HasBegun symbols a old
    → AreEnough a old.running.items count → new.sorted ≡ old.sorted → new.begun ≡ old.begun
    → new.running.items ≡ take count old.running.items → count ≢ 0 → g ≡ get_or new.running.items (count - 1) g
    → (length old.sorted.items - 1 - g.later ≡ function_of symbols a) × (g.later + 1 ≤ length old.sorted.items)
one_left symbols a count old new g h few sorted same is some at =
    let long = ap length is ∙ length-take-le count old.running.items few.some in
    let more : length new.running.items ≡ count - 1 + 1 = omega (arith, long, some) in
    subst (λ v. (length v.items - 1 - g.later ≡ function_of symbols a) × (g.later + 1 ≤ length v.items)) sorted
    (some_open symbols a (count - 1) new g (closed symbols a old new count h few sorted same is) more at)

-- where one is left there is a function
pub some_left : (symbols : List Symbol) (a count : ℕ) (old : Functions) → HasBegun symbols a old
    → AreEnough a old.running.items count → count ≢ 0 → 1 ≤ length old.sorted.items
some_left symbols a count old h few some =
    let none : Function = record { begin = 0; end = 0; later = 0 } in
    let running = old.running.items in
    let g = get_or running (count - 1) none in
    let fits = few.some in
    let low : count - 1 < length running = omega (arith, some, fits) in
    let covers : covers_byte a g ≡ true =
    covers_it a g (h.come.begun (count - 1) none low) (few.last none (omega (arith, some))) in
    let is : g ≡ get_or running (count - 1) g = get_or_default running (count - 1) none g low in
    let split : take count running ≡ take (count - 1) running ++ g ∷ [] =
    (let same : count - 1 + 1 ≡ count = omega (arith, some) in
    ap (λ n. take n running) (sym same) ∙ take_more running (count - 1) none low) in
    let last : last_at a old.sorted.items ≡ Some g =
    sym (few.same (drop old.begun old.sorted.items) a (omega arith) ∙ h.come.enough a (omega arith))
    ∙ last_append a (take count running) (drop old.begun old.sorted.items)
    ∙ ap (later_of (last_at a (take count running))) (none_ahead a (drop old.begun old.sorted.items) h.ahead)
    ∙ ap (last_at a) split ∙ last_open_is a (take (count - 1) running) g covers in
    let among = (last_is a old.sorted.items g h.come.order.rises last).among in
    let within = among.1 in
    omega (arith, within)
