-- The places of a program are those that its code words lead to.
use Rattle.std.proofs.Common.{◌≡◌, ℕ, zero, suc, ◌+◌, ◌*◌, ◌%◌, ◌^◌, ◌<◌, ◌≤◌, ◌⊎◌, Bool, true, false, ◌==◌, cond, List, [], ◌∷◌, length, Option, Some, None, refl, sym, ap, ◌∙◌, subst, inl, inr, arith, length-append}
use Rattle.std.specs.Prelude.{Contains, IsSome, option_and_then, option_to_list, slice_index_or}
use Rattle.std.proofs.lemmas.Bool.{eqb-true, eq-eqb}
use Rattle.std.proofs.lemmas.List.Elements.{Contains-append_left, Contains-append_right, Contains-append_cases}
use Rattle.rv32_decode.specs.declared.Instr.{Instr}
use Rattle.rv32_decode.specs.declared.Instr.TheVariants.{Ecall}
use Rattle.rv32_program.specs.Targets.{target_of, aligned, aligned_target}
use Rattle.templates.specs.declared.code.CodeWord.{CodeWord}
use Rattle.templates.specs.Code.{Ascends, code_word, code_of}
use Rattle.templates.specs.Places.{IsPlace, HasPlaces}
use Rattle.templates.specs.Candidates.{places_of, candidates}
use Rattle.templates.proofs.CodeLemmas.{code_there}

-- an element of no list
no_element : (b : ℕ) → Contains [] b → ⊥
no_element b h = let lt = h.1 in omega arith

-- the first element, or one behind it
first_or : (y b : ℕ) (ys : List ℕ) → Contains (y ∷ ys) b → (b ≡ y) ⊎ Contains ys b
first_or y b ys h = go h.0 h.1 h.2
  where
    go : (k : ℕ) → k < length (y ∷ ys) → slice_index_or (y ∷ ys) k b ≡ b → (b ≡ y) ⊎ Contains ys b
    go zero lt is = inl (sym is)
    go (suc k) lt is = inr (k, omega (arith, lt), is)

-- where a code word stands
pub low_there : (low : ℕ) (ws : List CodeWord) (k : ℕ) (d : CodeWord) → Ascends low ws → k < length ws
    → (slice_index_or ws k d).address + 4 < 2 ^ 32
low_there low [] k d up lt = absurd (omega arith)
low_there low (w ∷ ws) zero d up lt = up.2
low_there low (w ∷ ws) (suc k) d up lt = low_there (w.address + 4) ws k d up.3 (omega arith)

aligned_there : (low : ℕ) (ws : List CodeWord) (k : ℕ) (d : CodeWord) → Ascends low ws → k < length ws
    → (slice_index_or ws k d).address % 4 ≡ 0
aligned_there low [] k d up lt = absurd (omega arith)
aligned_there low (w ∷ ws) zero d up lt = up.1
aligned_there low (w ∷ ws) (suc k) d up lt = aligned_there (w.address + 4) ws k d up.3 (omega arith)

-- the code word that leads to a candidate
locate : (ws : List CodeWord) (d : CodeWord) (x : ℕ) → Contains (candidates ws) x
    → (k : ℕ) × (k < length ws) × Contains (places_of (slice_index_or ws k d)) x
locate [] d x h = absurd (no_element x h)
locate (w ∷ ws) d x h = elim (Contains-append_cases (places_of w) (candidates ws) x h) [
  | inl own ↦ (0, omega arith, own)
  | inr rest ↦ (let found = locate ws d x rest in (suc found.0, omega (arith, found.1), found.2))
]

gathered : (ws : List CodeWord) (k : ℕ) (d : CodeWord) (x : ℕ) → k < length ws
    → Contains (places_of (slice_index_or ws k d)) x → Contains (candidates ws) x
gathered [] k d x lt h = absurd (omega arith)
gathered (w ∷ ws) zero d x lt h = Contains-append_left (places_of w) (candidates ws) x h
gathered (w ∷ ws) (suc k) d x lt h =
    Contains-append_right (places_of w) (candidates ws) x (gathered ws k d x (omega arith) h)

-- the code word at an address
find_code : (ws : List CodeWord) (d : CodeWord) (a : ℕ) (i : Instr) → code_of ws a ≡ Some i
    → (k : ℕ) × (k < length ws) × (slice_index_or ws k d ≡ code_word a i)
find_code [] d a i h = let bad : ◌≡◌ {A = Option Instr} None (Some i) = h in cc
find_code (w ∷ ws) d a i h = go (find_code ws d a i) (w.address == a) refl
  where
    go : (code_of ws a ≡ Some i → (k : ℕ) × (k < length ws) × (slice_index_or ws k d ≡ code_word a i))
        → (b : Bool) → (w.address == a) ≡ b
        → (k : ℕ) × (k < length (w ∷ ws)) × (slice_index_or (w ∷ ws) k d ≡ code_word a i)
    go more true f =
        let same : Some w.instruction ≡ Some i = ap (λ b. cond b (Some w.instruction) (code_of ws a)) (sym f) ∙ h in
        let instruction : w.instruction ≡ i = cc in
        (0, omega arith, λ t. record { address = eqb-true w.address a f t; instruction = instruction t })
    go more false f =
        let found = more (ap (λ b. cond b (Some w.instruction) (code_of ws a)) (sym f) ∙ h) in
        (suc found.0, omega (arith, found.1), found.2)

some_of : {X : Type 0} (o : Option X) → IsSome o → (x : X) × (o ≡ Some x)
some_of None h = let never : false ≡ true = h in cc
some_of (Some x) h = (x, refl)

-- an aligned address where a code word leads is a place
place_behind : (code : ℕ → Option Instr) (a x : ℕ) (i : Instr) → code a ≡ Some i → x % 4 ≡ 0
    → (x ≡ a + 4) ⊎ (target_of i a ≡ Some x) → IsPlace code x
place_behind code a x i there m leads = go (code x) refl
  where
    go : (o : Option Instr) → code x ≡ o → IsPlace code x
    go (Some j) f = inl (subst IsSome (sym f) refl)
    go None f = inr (record { aligned = m; no_code = f; from = a; instruction = i; there = there; leads = leads })

aligned_is : (t x : ℕ) → aligned t ≡ Some x → (t ≡ x) × (x % 4 ≡ 0)
aligned_is t x h = go (t % 4 == 0) refl
  where
    go : (b : Bool) → (t % 4 == 0) ≡ b → (t ≡ x) × (x % 4 ≡ 0)
    go true f = let is : Some t ≡ Some x = ap (λ b. cond b (Some t) None) (sym f) ∙ h in let same : t ≡ x = cc in let m = eqb-true (t % 4) 0 f in (same, ap (λ n. n % 4) (sym same) ∙ m)
    go false f = let bad : ◌≡◌ {A = Option ℕ} None (Some x) = ap (λ b. cond b (Some t) None) (sym f) ∙ h in cc

target_is : (o : Option ℕ) (x : ℕ) → option_and_then aligned o ≡ Some x → (o ≡ Some x) × (x % 4 ≡ 0)
target_is None x h = cc
target_is (Some t) x h = let both = aligned_is t x h in (ap (λ n. Some n) both.0, both.1)

in_option : (o : Option ℕ) (x : ℕ) → Contains (option_to_list o) x → o ≡ Some x
in_option None x h = absurd (no_element x h)
in_option (Some t) x h = elim (first_or t x [] h) [
  | inl is ↦ ap (λ n. Some n) (sym is)
  | inr none ↦ absurd (no_element x none)
]

-- every address that a code word leads to is a place
sound_one : (code : ℕ → Option Instr) (w : CodeWord) (x : ℕ) → code w.address ≡ Some w.instruction
    → w.address % 4 ≡ 0 → Contains (places_of w) x → IsPlace code x
sound_one code w x there m h = elim (first_or w.address x ((w.address + 4) ∷ option_to_list (aligned_target w.instruction w.address)) h) [
  | inl is ↦ inl (subst (λ y. IsSome (code y)) (sym is) (subst IsSome (sym there) refl))
  | inr rest ↦ (elim (first_or (w.address + 4) x (option_to_list (aligned_target w.instruction w.address)) rest) [
    | inl is ↦ place_behind code w.address x w.instruction there (omega (arith, is, m)) (inl is)
    | inr target ↦ (let both = target_is (target_of w.instruction w.address) x (in_option _ x target) in place_behind code w.address x w.instruction there both.1 (inr both.0))
  ])
]

aligned_some : (x : ℕ) → x % 4 ≡ 0 → aligned x ≡ Some x
aligned_some x m = ap (λ b. cond b (Some x) None) (eq-eqb (x % 4) 0 m)

target_there : (a x : ℕ) (i : Instr) → target_of i a ≡ Some x → x % 4 ≡ 0
    → Contains (places_of (code_word a i)) x
target_there a x i target m =
    let is : aligned_target i a ≡ Some x = ap (option_and_then aligned) target ∙ aligned_some x m in
    subst (λ o. Contains (a ∷ (a + 4) ∷ option_to_list o) x) (sym is) (2, omega arith, refl)

-- the candidates of all code words are the places
pub whole : (ws : List CodeWord) → Ascends 0 ws → HasPlaces (code_of ws) (candidates ws)
whole ws up = record { complete = complete; sound = sound }
  where
    d : CodeWord
    d = code_word 0 Ecall

    found : (a x : ℕ) (i : Instr) → code_of ws a ≡ Some i → Contains (places_of (code_word a i)) x → Contains (candidates ws) x
    found a x i there h =
        let at = find_code ws d a i there in
        gathered ws at.0 d x at.1 (subst (λ w. Contains (places_of w) x) (sym at.2) h)

    complete : (a : ℕ) → IsPlace (code_of ws) a → Contains (candidates ws) a
    complete a place = elim place [
      | inl some ↦ (let i = some_of (code_of ws a) some in found a a i.0 i.1 (0, omega arith, refl))
      | inr stop ↦ found stop.from a stop.instruction stop.there (elim stop.leads [
        | inl is ↦ subst (Contains (places_of (code_word stop.from stop.instruction))) (sym is) (1, omega arith, refl)
        | inr target ↦ target_there stop.from a stop.instruction target stop.aligned
      ])
    ]

    sound : (a : ℕ) → Contains (candidates ws) a → IsPlace (code_of ws) a
    sound a h =
        let at = locate ws d a h in
        sound_one (code_of ws) (slice_index_or ws at.0 d) a (sym (code_there 0 ws at.0 d up at.1 _ refl)) (aligned_there 0 ws at.0 d up at.1) at.2

-- how many they are
words_few : (low : ℕ) (ws : List CodeWord) → Ascends low ws → low ≤ 2 ^ 32 → low + 4 * length ws ≤ 2 ^ 32
words_few low [] up le = omega (arith, le)
words_few low (w ∷ ws) up le =
    let more = words_few (w.address + 4) ws up.3 (omega (arith, up.2)) in omega (arith, more, up.0)

option_few : (o : Option ℕ) → length (option_to_list o) ≤ 1
option_few None = omega arith
option_few (Some t) = omega arith

candidates_few : (ws : List CodeWord) → length (candidates ws) ≤ 3 * length ws
candidates_few [] = omega arith
candidates_few (w ∷ ws) =
    let more = candidates_few ws in
    let both = length-append (places_of w) (candidates ws) in
    let own = option_few (aligned_target w.instruction w.address) in
    omega arith

pub few : (ws : List CodeWord) → Ascends 0 ws → length (candidates ws) ≤ 3 * 2 ^ 30
few ws up = let words = words_few 0 ws up (omega arith) in let places = candidates_few ws in omega arith
