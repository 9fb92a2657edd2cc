-- The functions of a table while one goes through the addresses.
use Rattle.std.proofs.Common.{◌≡◌, ℕ, zero, suc, ◌+◌, ◌-◌, ◌<◌, ◌≤◌, ◌⊎◌, Bool, true, false, ◌&&◌, cond, leb, ltb, List, [], ◌∷◌, ◌++◌, length, take, drop, get_or, Option, Some, None, refl, sym, ap, ◌∙◌, subst, arith, inl, inr, append_assoc}
use Rattle.std.specs.Prelude.{All, Contains}
use Rattle.std.proofs.lemmas.Bool.Decides.{nat_tests}
use Rattle.std.proofs.lemmas.List.{drop_all, drop_more, get_or_default, get_or-take, length-take-le, take_all, take_more}
use Rattle.std.proofs.lemmas.List.Elements.{All-cons, All-nil, All-head, All-tail, All-append}
use Rattle.elf_symbols.specs.Symbols.{Symbol}
use Rattle.check_costs.specs.declared.functions.Function.{Function}
use Rattle.check_costs.specs.declared.functions.Functions.{Functions}
use Rattle.check_costs.specs.Sweep.{covers_byte, later_of, last_at, IsUpTo, Rises, AreInOrder, AreEnough, HasCome, HasBegun, HasEnded}

-- 1. The last that has a byte

later_assoc : (x y z : Option Function) → later_of x (later_of y z) ≡ later_of (later_of x y) z
later_assoc x y None = refl
later_assoc x y (Some z) = refl

later_none : (y : Option Function) → later_of None y ≡ y
later_none None = refl
later_none (Some y) = refl

pub last_append : (a : ℕ) (xs ys : List Function) → last_at a (xs ++ ys) ≡ later_of (last_at a xs) (last_at a ys)
last_append a [] ys = sym (later_none (last_at a ys))
last_append a (x ∷ xs) ys =
    ap (later_of (cond (covers_byte a x) (Some x) None)) (last_append a xs ys)
    ∙ later_assoc (cond (covers_byte a x) (Some x) None) (last_at a xs) (last_at a ys)

not_begun : (a : ℕ) (f : Function) → a < f.begin → covers_byte a f ≡ false
not_begun a f low = grind (arith, nat_tests, low)

ended : (a : ℕ) (f : Function) → f.end ≤ a → covers_byte a f ≡ false
ended a f low =
    let late : ltb a f.end ≡ false = grind (arith, nat_tests, low) in
    ap (λ b. leb f.begin a && b) late ∙ none_of (leb f.begin a)
  where
    none_of : (b : Bool) → (b && false) ≡ false
    none_of true = refl
    none_of false = refl

pub covers_it : (a : ℕ) (f : Function) → f.begin ≤ a → a < f.end → covers_byte a f ≡ true
covers_it a f low high = grind (arith, nat_tests, low, high)

pub none_ahead : (a : ℕ) (xs : List Function) → All (λ g. a < g.begin) xs → last_at a xs ≡ None
none_ahead a [] h = refl
none_ahead a (x ∷ xs) h =
    (λ j. later_of (cond (not_begun a x (All-head (λ (g : Function). a < g.begin) x xs h) j) (Some x) None)
    (none_ahead a xs (All-tail (λ (g : Function). a < g.begin) x xs h) j))

-- one that has ended, at the end of those running
pub without_ended : (a : ℕ) (front : List Function) (f : Function) (ahead : List Function) → f.end ≤ a
    → last_at a ((front ++ f ∷ []) ++ ahead) ≡ last_at a (front ++ ahead)
without_ended a front f ahead over =
    ap (last_at a) (append_assoc front (f ∷ []) ahead)
    ∙ last_append a front (f ∷ ahead)
    ∙ ap (later_of (last_at a front))
    (ap (λ b. later_of (cond b (Some f) None) (last_at a ahead)) (ended a f over) ∙ later_none (last_at a ahead))
    ∙ sym (last_append a front ahead)

-- 2. In order

up_to_trans : (f g h : Function) → IsUpTo f g → IsUpTo g h → IsUpTo f h
up_to_trans f g h (inl p) (inl q) = inl (omega (arith, p, q))
up_to_trans f g h (inl p) (inr q) = let e = q.0 in inl (omega (arith, p, e))
up_to_trans f g h (inr p) (inl q) = let e = p.0 in inl (omega (arith, q, e))
up_to_trans f g h (inr p) (inr q) =
    let one = p.1 in let two = q.1 in inr (p.0 ∙ q.0, omega (arith, one, two))

rest_rises : (f : Function) (fs : List Function) → Rises (f ∷ fs) → Rises fs
rest_rises f [] h = tt
rest_rises f (g ∷ gs) h = h.1

pub rises_on : (n : ℕ) (fs : List Function) → Rises fs → Rises (drop n fs)
rises_on zero fs h = h
rises_on (suc n) [] h = h
rises_on (suc n) (f ∷ fs) h = rises_on n fs (rest_rises f fs h)

first_is_least : (f : Function) (fs : List Function) → Rises (f ∷ fs) → (i : ℕ) (g : Function) → i < length fs
    → get_or fs i g ≡ g → IsUpTo f g
first_is_least f [] h i g low is = absurd (omega (arith, low))
first_is_least f (x ∷ xs) h zero g low is = let same : x ≡ g = is in subst (λ y. IsUpTo f y) same h.0
first_is_least f (x ∷ xs) h (suc i) g low is =
    up_to_trans f x g h.0 (first_is_least x xs h.1 i g (omega (arith, low)) is)

-- behind one that begins behind an address all do
pub all_ahead : (a : ℕ) (f : Function) (fs : List Function) → Rises (f ∷ fs) → a < f.begin
    → All (λ g. a < g.begin) (f ∷ fs)
all_ahead a f fs h low = λ k d within. by k d within
  where
    begins : (g : Function) → IsUpTo f g → a < g.begin
    begins g (inl p) = omega (arith, p, low)
    begins g (inr p) = let e = p.0 in omega (arith, e, low)

    by : (k : ℕ) (d : Function) → k < length (f ∷ fs) → a < (get_or (f ∷ fs) k d).begin
    by zero d within = low
    by (suc k) d within =
        let g = get_or fs k d in
        begins g (first_is_least f fs h k g (omega (arith, within)) (get_or_default fs k g d (omega (arith, within))))

-- the last that has a byte comes last of those that have it
pub record IsLast (a : ℕ) (fs : List Function) (f : Function) : Type 0 where
  pub among : Contains fs f
  pub here : covers_byte a f ≡ true
  pub last : (i : ℕ) (g : Function) → i < length fs → get_or fs i g ≡ g → covers_byte a g ≡ true → IsUpTo g f

same_up_to : (f : Function) → IsUpTo f f
same_up_to f = inr (refl, omega arith)

none_of_rest : (a : ℕ) (x : Function) (xs : List Function) (o : Option Function) (b : Bool) → last_at a xs ≡ o
    → covers_byte a x ≡ b → last_at a (x ∷ xs) ≡ None → (o ≡ None) × (b ≡ false)
none_of_rest a x xs (Some y) b rest here none =
    let bad : Some y ≡ None = (λ j. later_of (cond (covers_byte a x) (Some x) None) (sym rest j)) ∙ none in absurd cc
none_of_rest a x xs None true rest here none =
    let bad : Some x ≡ None = (λ j. later_of (cond (sym here j) (Some x) None) (sym rest j)) ∙ none in absurd cc
none_of_rest a x xs None false rest here none = (refl, refl)

pub none_is : (a : ℕ) (fs : List Function) → last_at a fs ≡ None → (i : ℕ) (g : Function) → i < length fs
    → get_or fs i g ≡ g → covers_byte a g ≡ false
none_is a [] none i g low is = absurd (omega (arith, low))
none_is a (x ∷ xs) none zero g low is =
    let same : x ≡ g = is in
    subst (λ y. covers_byte a y ≡ false) same
    (none_of_rest a x xs (last_at a xs) (covers_byte a x) refl refl none).1
none_is a (x ∷ xs) none (suc i) g low is =
    none_is a xs (none_of_rest a x xs (last_at a xs) (covers_byte a x) refl refl none).0 i g (omega (arith, low)) is

-- it is the last of the rest, or the first where the rest has none
last_of_rest : (a : ℕ) (x : Function) (xs : List Function) (f : Function) (o : Option Function) (b : Bool)
    → last_at a xs ≡ o → covers_byte a x ≡ b → last_at a (x ∷ xs) ≡ Some f
    → (last_at a xs ≡ Some f) ⊎ ((last_at a xs ≡ None) × (covers_byte a x ≡ true) × (x ≡ f))
last_of_rest a x xs f (Some y) b rest here some =
    let one : Some y ≡ Some f = (λ j. later_of (cond (covers_byte a x) (Some x) None) (sym rest j)) ∙ some in
    inl (rest ∙ one)
last_of_rest a x xs f None true rest here some =
    let one : Some x ≡ Some f = (λ j. later_of (cond (sym here j) (Some x) None) (sym rest j)) ∙ some in
    let same : x ≡ f = cc in
    inr (rest, here, same)
last_of_rest a x xs f None false rest here some =
    let bad : None ≡ Some f = (λ j. later_of (cond (sym here j) (Some x) None) (sym rest j)) ∙ some in absurd cc

from_rest : (a : ℕ) (x : Function) (xs : List Function) (f : Function) → Rises (x ∷ xs) → IsLast a xs f
    → IsLast a (x ∷ xs) f
from_rest a x xs f rises h = record {
  among = (suc h.among.0, (let low = h.among.1 in omega (arith, low)), h.among.2);
  here = h.here;
  last = at_one;
}
  where
    at_one : (i : ℕ) (g : Function) → i < length (x ∷ xs) → get_or (x ∷ xs) i g ≡ g → covers_byte a g ≡ true → IsUpTo g f
    at_one zero g low is c =
        let same : x ≡ g = is in
        subst (λ z. IsUpTo z f) same (first_is_least x xs rises h.among.0 f h.among.1 h.among.2)
    at_one (suc i) g low is c = h.last i g (omega (arith, low)) is c

first_alone : (a : ℕ) (x : Function) (xs : List Function) (f : Function) → last_at a xs ≡ None
    → covers_byte a x ≡ true → x ≡ f → IsLast a (x ∷ xs) f
first_alone a x xs f rest here same = record {
  among = (zero, omega arith, same);
  here = subst (λ z. covers_byte a z ≡ true) same here;
  last = at_one;
}
  where
    at_one : (i : ℕ) (g : Function) → i < length (x ∷ xs) → get_or (x ∷ xs) i g ≡ g → covers_byte a g ≡ true → IsUpTo g f
    at_one zero g low is c = let first : x ≡ g = is in subst (λ z. IsUpTo z f) (sym same ∙ first) (same_up_to f)
    at_one (suc i) g low is c =
        let no = none_is a xs rest i g (omega (arith, low)) is in
        let bad : true ≡ false = sym c ∙ no in absurd cc

pub last_is : (a : ℕ) (fs : List Function) (f : Function) → Rises fs → last_at a fs ≡ Some f → IsLast a fs f
last_is a [] f rises some = let bad : None ≡ Some f = some in absurd cc
last_is a (x ∷ xs) f rises some =
    by (last_of_rest a x xs f (last_at a xs) (covers_byte a x) refl refl some)
    (λ rest. last_is a xs f (rest_rises x xs rises) rest)
  where
    by : (last_at a xs ≡ Some f) ⊎ ((last_at a xs ≡ None) × (covers_byte a x ≡ true) × (x ≡ f))
        → (last_at a xs ≡ Some f → IsLast a xs f) → IsLast a (x ∷ xs) f
    by (inl rest) more = from_rest a x xs f rises (more rest)
    by (inr h) more = first_alone a x xs f h.0 h.1 h.2

-- 3. One function more is opened

pub opened : (symbols : List Symbol) (a : ℕ) (old new : Functions) (f : Function) → HasCome symbols a old
    → new.sorted ≡ old.sorted → old.begun < length old.sorted.items → f ≡ get_or old.sorted.items old.begun f
    → f.begin ≤ a → new.begun ≡ old.begun + 1 → new.running.items ≡ old.running.items ++ f ∷ []
    → HasCome symbols a new
opened symbols a old new f h sorted low is begins next more =
    let fs = old.sorted.items in
    let front : drop old.begun fs ≡ f ∷ drop (old.begun + 1) fs =
    drop_more fs old.begun f low ∙ ap (λ x. x ∷ drop (old.begun + 1) fs) (sym is) in
    record {
      order = subst (λ v. AreInOrder symbols v.items) (sym sorted) h.order;
      within = subst (λ v. new.begun ≤ length v.items) (sym sorted) (omega (arith, next, low));
      enough = λ b le.
          (λ j. last_at b (more j ++ drop (next j) (sorted j).items))
          ∙ ap (last_at b) (append_assoc old.running.items (f ∷ []) (drop (old.begun + 1) fs)
          ∙ ap (λ xs. old.running.items ++ xs) (sym front))
          ∙ h.enough b le
          ∙ (λ j. last_at b (sym sorted j).items);
      begun = subst (All (λ g. g.begin ≤ a)) (sym more)
          (All-append (λ (g : Function). g.begin ≤ a) old.running.items (f ∷ []) h.begun
          (All-cons (λ (g : Function). g.begin ≤ a) f [] begins (All-nil (λ (g : Function). g.begin ≤ a))));
    }

-- further on
pub further : (symbols : List Symbol) (a b : ℕ) (f : Functions) → a ≤ b → HasCome symbols a f → HasCome symbols b f
further symbols a b f le h = record {
  order = h.order;
  within = h.within;
  enough = λ c low. h.enough c (omega (arith, le, low));
  begun = λ k d low. let begins = h.begun k d low in omega (arith, begins, le);
}

-- the next begins behind the address
pub next_ahead : (symbols : List Symbol) (a : ℕ) (f : Functions) (g : Function) → HasCome symbols a f
    → f.begun < length f.sorted.items → g ≡ get_or f.sorted.items f.begun g → a < g.begin → HasBegun symbols a f
next_ahead symbols a f g h low is late =
    let fs = f.sorted.items in
    let front : drop f.begun fs ≡ g ∷ drop (f.begun + 1) fs =
    drop_more fs f.begun g low ∙ ap (λ x. x ∷ drop (f.begun + 1) fs) (sym is) in
    record {
      come = h;
      ahead = subst (All (λ x. a < x.begin)) (sym front)
          (all_ahead a g (drop (f.begun + 1) fs) (subst Rises front (rises_on f.begun fs h.order.rises)) late);
    }

-- there is none
pub no_next : (symbols : List Symbol) (a : ℕ) (f : Functions) → HasCome symbols a f
    → length f.sorted.items ≤ f.begun → HasBegun symbols a f
no_next symbols a f h all = record {
  come = h;
  ahead = subst (All (λ x. a < x.begin)) (sym (drop_all f.begun f.sorted.items all)) (All-nil (λ (x : Function). a < x.begin));
}

-- 4. Those that have ended are closed

pub all_enough : (a : ℕ) (running : List Function) (b : ℕ) (ahead : List Function)
    → last_at b (take (length running) running ++ ahead) ≡ last_at b (running ++ ahead)
all_enough a running b ahead = ap (λ xs. last_at b (xs ++ ahead)) (take_all (length running) running (omega arith))

pub one_less : (running : List Function) (count : ℕ) (f : Function) (ahead : List Function) (b : ℕ)
    → count < length running → f ≡ get_or running count f → f.end ≤ b
    → last_at b (take count running ++ ahead) ≡ last_at b (take (count + 1) running ++ ahead)
one_less running count f ahead b low is over =
    sym (ap (λ xs. last_at b (xs ++ ahead)) (take_more running count f low ∙ ap (λ x. take count running ++ x ∷ []) (sym is))
    ∙ without_ended b (take count running) f ahead over)

pub closed : (symbols : List Symbol) (a : ℕ) (old new : Functions) (count : ℕ) → HasBegun symbols a old
    → AreEnough a old.running.items count → new.sorted ≡ old.sorted → new.begun ≡ old.begun
    → new.running.items ≡ take count old.running.items → HasEnded symbols a new
closed symbols a old new count h few sorted same is =
    let long : length new.running.items ≡ count = ap length is ∙ length-take-le count old.running.items few.some in
    record {
      begun = record {
        come = record {
          order = subst (λ v. AreInOrder symbols v.items) (sym sorted) h.come.order;
          within = (let w = h.come.within in
              subst (λ v. new.begun ≤ length v.items) (sym sorted) (omega (arith, same, w)));
          enough = λ b le.
              (λ j. last_at b (is j ++ drop (same j) (sorted j).items))
              ∙ few.same (drop old.begun old.sorted.items) b le
              ∙ h.come.enough b le
              ∙ (λ j. last_at b (sym sorted j).items);
          begun = subst (All (λ g. g.begin ≤ a)) (sym is)
              (λ k d low. let within : k < count = let w = length-take-le count old.running.items few.some in omega (arith, low, w) in
              let some = few.some in
              let begins = h.come.begun k d (omega (arith, within, some)) in
              subst (λ (g : Function). g.begin ≤ a) (sym (get_or-take count old.running.items k d within)) begins);
        };
        ahead = subst (λ n. All (λ g. a < g.begin) (drop n new.sorted.items)) (sym same)
            (subst (λ v. All (λ g. a < g.begin) (drop old.begun v.items)) (sym sorted) h.ahead);
      };
      last = λ d some.
          let positive : 0 < count = omega (arith, some, long) in
          let at : get_or new.running.items (length new.running.items - 1) d ≡ get_or old.running.items (count - 1) d =
          (λ j. get_or (is j) (long j - 1) d) ∙ get_or-take count old.running.items (count - 1) d (omega (arith, positive)) in
          subst (λ (g : Function). a < g.end) (sym at) (few.last d positive);
    }
