-- Many turns by one map: the map of twice as many turns is that of so many, made twice.
use Rattle.std.proofs.Common.{◌≡◌, ℕ, zero, suc, ◌+◌, ◌*◌, ◌/◌, ◌%◌, sym, ap, ◌∙◌, refl, arith}
use Rattle.std.proofs.Math.Nat.{add-mod-mod, mod-add-mod}
use Rattle.std.proofs.lemmas.Nat.{mul-mod_first, mul-mod_second}
use Rattle.random_order.specs.Orders.{after_turns, following}

-- one turn of a map modulo m
abbrev pub turned : (m factor step number : ℕ) → ℕ
turned m factor step number = (factor * number + step) % m

-- so many turns of a map modulo m
abbrev pub turned_often : (m factor step turns number : ℕ) → ℕ
turned_often m factor step zero number = number
turned_often m factor step (suc turns) number = turned_often m factor step turns (turned m factor step number)

abbrev pub factor_twice : (m factor : ℕ) → ℕ
factor_twice m factor = factor * factor % m

abbrev pub step_twice : (m factor step : ℕ) → ℕ
step_twice m factor step = (factor * step % m + step) % m

turned_twice : (m f s x : ℕ) → turned m (factor_twice m f) (step_twice m f s) x ≡ turned m f s (turned m f s x)
turned_twice m f s x =
    let first : (f * f % m * x + (f * s % m + s) % m) % m ≡ (f * f % m * x + (f * s % m + s)) % m = add-mod-mod (f * f % m * x) (f * s % m + s) m in
    let second : (f * f % m * x + (f * s % m + s)) % m ≡ (f * f % m * x % m + (f * s % m + s)) % m = sym (mod-add-mod (f * f % m * x) m (f * s % m + s)) in
    let third : (f * f % m * x % m + (f * s % m + s)) % m ≡ (f * f * x % m + (f * s % m + s)) % m = ap (λ k. (k + (f * s % m + s)) % m) (mul-mod_first (f * f) x m) in
    let fourth : (f * f * x % m + (f * s % m + s)) % m ≡ (f * f * x + (f * s % m + s)) % m = mod-add-mod (f * f * x) m (f * s % m + s) in
    let swap : f * f * x + (f * s % m + s) ≡ f * s % m + (f * f * x + s) = omega arith in
    let fifth : (f * s % m + (f * f * x + s)) % m ≡ (f * s + (f * f * x + s)) % m = mod-add-mod (f * s) m (f * f * x + s) in
    let whole : f * s + (f * f * x + s) ≡ f * (f * x + s) + s = products f s x in
    let sixth : (f * ((f * x + s) % m) + s) % m ≡ (f * ((f * x + s) % m) % m + s) % m = sym (mod-add-mod (f * ((f * x + s) % m)) m s) in
    let seventh : (f * ((f * x + s) % m) % m + s) % m ≡ (f * (f * x + s) % m + s) % m = ap (λ k. (k + s) % m) (mul-mod_second f (f * x + s) m) in
    let eighth : (f * (f * x + s) % m + s) % m ≡ (f * (f * x + s) + s) % m = mod-add-mod (f * (f * x + s)) m s in
    first ∙ second ∙ third ∙ fourth ∙ ap (λ k. k % m) swap ∙ fifth ∙ ap (λ k. k % m) whole
    ∙ sym (sixth ∙ seventh ∙ eighth)
  where
    products : (f s x : ℕ) → f * s + (f * f * x + s) ≡ f * (f * x + s) + s
    products f s x = omega arith

-- twice as many turns are those of the map made twice
twice : (m f s k x : ℕ) → turned_often m f s (k + k) x ≡ turned_often m (factor_twice m f) (step_twice m f s) k x
twice m f s zero x = refl
twice m f s (suc k) x =
    let count : suc k + suc k ≡ suc (suc (k + k)) = omega arith in
    ap (λ j. turned_often m f s j x) count
    ∙ twice m f s k (turned m f s (turned m f s x))
    ∙ ap (turned_often m (factor_twice m f) (step_twice m f s) k) (sym (turned_twice m f s x))

pub even_turns : (m f s k x : ℕ) → k % 2 ≡ 0 → turned_often m f s k x ≡ turned_often m (factor_twice m f) (step_twice m f s) (k / 2) x
even_turns m f s k x even =
    let halves : k ≡ k / 2 + k / 2 = omega (arith, even) in
    ap (λ j. turned_often m f s j x) halves ∙ twice m f s (k / 2) x

pub odd_turns : (m f s k x : ℕ) → k % 2 ≡ 1
    → turned_often m f s k x ≡ turned_often m (factor_twice m f) (step_twice m f s) (k / 2) (turned m f s x)
odd_turns m f s k x odd =
    let halves : k ≡ suc (k / 2 + k / 2) = omega (arith, odd) in
    ap (λ j. turned_often m f s j x) halves ∙ twice m f s (k / 2) (turned m f s x)

-- the turns of an order
pub order_turns : (turns number : ℕ) → turned_often 4294967296 1664525 1013904223 turns number ≡ after_turns turns number
order_turns zero number = refl
order_turns (suc turns) number = order_turns turns (following number)

-- two turns of an order by one map
pub two_turns : (number : ℕ)
    → (389569705 * number + 1196435762) % 4294967296 ≡ following (following number)
two_turns number = turned_twice 4294967296 1664525 1013904223 number
