-- The batch sequence of a run, part by part.
use Rattle.std.proofs.Common.{◌≡◌, ℕ, ◌+◌, ◌*◌, ◌<◌, Bool, true, false, cond, List, [], ◌∷◌, ◌++◌, map, length, Some, refl, sym, ap, ◌∙◌, subst, arith, append_assoc}
use Rattle.std.proofs.lemmas.List.{map-append}
use Rattle.rv32_decode.specs.declared.Instr.{Instr}
use Rattle.templates.specs.declared.places.Part.TheVariants.{Fast}
use Rattle.templates.specs.declared.plans.Scratches.{Scratches}
use Rattle.runtime_words.specs.declared.RtWord.TheVariants.{Native}
use Rattle.templates.specs.declared.words.Item.{Item}
use Rattle.templates.specs.Sequences.{SequenceItem, committing, to_head, reload_by, reloads_of_run, run_items, fast_items, batch_items}
use Rattle.templates.specs.Expansion.{reads, words_of}
use Rattle.templates.specs.Writing.{IsLonger}

-- words that stand before others
pub record Before (f : List SequenceItem → List SequenceItem) : Type 0 where
  pub front : (rest : List SequenceItem) → f rest ≡ f [] ++ rest

before_both : (f g : List SequenceItem → List SequenceItem) → Before f → Before g → Before (λ rest. f (g rest))
before_both f g a b = record {
  front = λ rest. a.front (g rest) ∙ ap (λ xs. f [] ++ xs) (b.front rest)
      ∙ sym (append_assoc (f []) (g []) rest) ∙ ap (λ xs. xs ++ rest) (sym (a.front (g [])));
}

before_reload : (b : Bool) (k r : ℕ) → Before (reload_by b k r)
before_reload true k r = record { front = λ rest. refl }
before_reload false k r = record { front = λ rest. refl }

pub before_reloads : (x : Scratches) → Before (reloads_of_run x)
before_reloads x =
    before_both (reload_by x.s.spilled 0 x.s.register) (λ rest. reload_by x.t.spilled 1 x.t.register (reload_by x.u.spilled 2 x.u.register rest))
    (before_reload x.s.spilled 0 x.s.register)
    (before_both (reload_by x.t.spilled 1 x.t.register) (reload_by x.u.spilled 2 x.u.register)
    (before_reload x.t.spilled 1 x.t.register) (before_reload x.u.spilled 2 x.u.register))

pub before_run : (is : List Instr) → Before (run_items is)
before_run [] = record { front = λ rest. refl }
before_run (i ∷ is) = record { front = λ rest t. committing (Native i) ((before_run is).front rest t) }

-- the words of a front, and of what follows it
pub longer : (old mid new : List Item) (f : List SequenceItem → List SequenceItem) (rest : List SequenceItem) → Before f
    → IsLonger old mid (f []) → IsLonger mid new rest → IsLonger old new (f rest)
longer old mid new f rest before first second =
    second ∙ ap (λ xs. xs ++ words_of rest) first
    ∙ append_assoc (map reads old) (words_of (f [])) (words_of rest)
    ∙ ap (λ xs. map reads old ++ xs) (sym (map-append (λ (i : SequenceItem). Some i.what) (f []) rest) ∙ ap (λ xs. words_of xs) (sym (before.front rest)))

-- one word of a run more, or none
pub run_more : (is js : List Instr) → run_items (is ++ js) [] ≡ run_items is (run_items js [])
run_more [] js = refl
run_more (i ∷ is) js = λ t. committing (Native i) (run_more is js t)

pub run_longer : (old mid new : List Item) (is js ks : List Instr) → ks ≡ is ++ js → IsLonger old mid (run_items is [])
    → IsLonger mid new (run_items js []) → IsLonger old new (run_items ks [])
run_longer old mid new is js ks same first second =
    subst (λ (xs : List Instr). IsLonger old new (run_items xs [])) (sym same)
    (subst (λ xs. IsLonger old new xs) (sym (run_more is js))
    (longer old mid new (run_items is) (run_items js []) (before_run is) first second))

-- the parts of a batch, of a run that has words
pub fast_is : (a : ℕ) (x : Scratches) (is : List Instr) → 0 < length is
    → batch_items a x is Fast ≡ fast_items x is (a + 4 * length is)
fast_is a x [] some = absurd (omega arith)
fast_is a x (i ∷ is) some = refl

-- how many words they have
reload_length : (b : Bool) (k r : ℕ) (rest : List SequenceItem) → length (reload_by b k r rest) ≡ cond b 1 0 + length rest
reload_length true k r rest = omega arith
reload_length false k r rest = omega arith

run_length : (is : List Instr) (rest : List SequenceItem) → length (run_items is rest) ≡ length is + length rest
run_length [] rest = omega arith
run_length (i ∷ is) rest = let more = run_length is rest in omega (arith, more)

pub reloads_length : (x : Scratches) (rest : List SequenceItem)
    → length (reloads_of_run x rest) ≡ cond x.s.spilled 1 0 + (cond x.t.spilled 1 0 + (cond x.u.spilled 1 0 + length rest))
reloads_length x rest =
    let u = reload_length x.u.spilled 2 x.u.register rest in
    let t = reload_length x.t.spilled 1 x.t.register (reload_by x.u.spilled 2 x.u.register rest) in
    let s = reload_length x.s.spilled 0 x.s.register (reload_by x.t.spilled 1 x.t.register (reload_by x.u.spilled 2 x.u.register rest)) in
    omega (arith, s, t, u)

fast_length : (x : Scratches) (is : List Instr) (behind : ℕ)
    → length (fast_items x is behind) ≡ length (reloads_of_run x []) + length is + 1
fast_length x is behind =
    let front = reloads_length x (run_items is (to_head behind)) in
    let run = run_length is (to_head behind) in
    let back = reloads_length x [] in
    omega (arith, front, run, back)

pub fast_words : (a : ℕ) (x : Scratches) (is : List Instr) → 0 < length is
    → length (batch_items a x is Fast) ≡ length (reloads_of_run x []) + length is + 1
fast_words a x is some = ap (λ xs. length xs) (fast_is a x is some) ∙ fast_length x is (a + 4 * length is)
