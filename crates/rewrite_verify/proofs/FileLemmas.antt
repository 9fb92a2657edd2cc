-- No refusal fits the file of a rewriting.
use Rattle.std.proofs.Common.{◌≡◌, ◌∙◌, ℕ, zero, suc, ◌+◌, ◌*◌, ◌<◌, ◌≤◌, List, [], ◌∷◌, ◌++◌, length, map, take, drop, get_or, Option, Some, None, Result, Ok, Err, refl, sym, ap, subst, inl, inr, arith}
use Rattle.std.specs.Prelude.{Contains, IfErr, slice_get, unwrap_or}
use Rattle.std.specs.Option.{option_map}
use Rattle.std.proofs.Math.Seq.{take-append-add, drop-append-add}
use Rattle.std.proofs.lemmas.List.{length-map, take-map, get_or-take}
use Rattle.std.proofs.lemmas.Option.{slice_get-map, slice_get_within, get_or_from_slice_get}
use Rattle.rv32_decode.specs.declared.Instr.{Instr}
use Rattle.rv32_program.specs.Program.{Program}
use Rattle.elf32_read.specs.Elf.{Elf, Segment}
use Rattle.exec_map.specs.Contents.{program_of}
use Rattle.templates.specs.declared.plans.PlanEntry.{PlanEntry}
use Rattle.templates.specs.Plans.{Serves, AscendsFrom, IsAdmissible, addresses}
use Rattle.rewriter.specs.jump_map.Image.{Cell, HasTooManyWords, IsRewriting, read_cell}
use Rattle.rewriter.specs.RewrittenFile.{entry_bytes, plan_bytes, map_bytes, code_bytes, plan_section, map_section, segment_with, without_execution, rewritten_elf}
use Rattle.rewriter.proofs.SizeLemmas.{plan_size, code_size}
use Rattle.rewrite_verify.specs.Sections.{HasOnly}
use Rattle.rewrite_verify.specs.FilePlan.{ArePlaces, SaysPlan, IsFirstBadPlace, place_bytes}
use Rattle.rewrite_verify.specs.FileCode.{HasWords, HasBadWord}
use Rattle.rewrite_verify.specs.Refusals.{Fits, HasMap, IsByPlan, IsTooLarge}
use Rattle.rewrite_verify.specs.declared.refused.VerifyRefused.{VerifyRefused}
use Rattle.rewrite_verify.specs.declared.refused.VerifyRefused.TheVariants.{NoPlan, BadPlan, CodeTooLarge, BadMap, BadCode, BadFile, OutOfMemory}
use Rattle.rewrite_verify.proofs.ListLemmas.{Rises, rises, increasing, one_order}
use Rattle.rewrite_verify.proofs.EntryLemmas.{same_plan}
use Rattle.rewrite_verify.proofs.PlanLemmas.{lies_below}
use Rattle.rewrite_verify.proofs.SectionLemmas.{one_content, has_plan, has_map}

-- ---- the places, and the plan

one_list : (code : ℕ → Option Instr) (xs ys : List ℕ) → ArePlaces code xs → ArePlaces code ys
    → xs ≡ ys
one_list code xs ys h g =
    one_order 0 0 xs ys (rises xs h.ascends) (rises ys g.ascends)
    (λ x c. g.each.complete x (h.each.sound x c)) (λ x c. h.each.complete x (g.each.sound x c))

one_plan : (code : ℕ → Option Instr) (e : Elf) (p q : List PlanEntry) → SaysPlan code e p
    → SaysPlan code e q → ((f : PlanEntry) → Contains p f → Serves code f)
    → ((f : PlanEntry) → Contains q f → Serves code f) → p ≡ q
one_plan code e p q h g serves other =
    same_plan code p q serves other (one_list code (addresses p) (addresses q) h.places g.places)
    (one_content e.sections (plan_section (plan_bytes p)) (plan_section (plan_bytes q)) h.says g.says
    refl refl)

rises_too : (low : ℕ) (plan : List PlanEntry) → AscendsFrom low plan → Rises low (addresses plan)
rises_too low [] h = tt
rises_too low (e ∷ es) h = (h.0, rises_too (e.address + 1) es h.1)

are_places : (program : Program) (plan : List PlanEntry) → IsAdmissible program plan
    → ArePlaces program.code (addresses plan)
are_places program plan h = record {
  ascends = increasing (addresses plan) (rises_too 0 plan h.ascends);
  each = record { complete = h.complete; sound = h.sound };
}

-- ---- the bytes of a plan

take_bytes : (n : ℕ) (plan : List PlanEntry)
    → take (8 * n) (plan_bytes plan) ≡ plan_bytes (take n plan)
take_bytes zero plan = refl
take_bytes (suc n) [] = take_none (8 * suc n)
  where
    take_none : (m : ℕ) → take m (plan_bytes []) ≡ plan_bytes []
    take_none zero = refl
    take_none (suc m) = refl
take_bytes (suc n) (e ∷ es) =
    let more : 8 * suc n ≡ 8 + 8 * n = omega arith in
    ap (λ m. take m (entry_bytes e ++ plan_bytes es)) more
    ∙ take-append-add (entry_bytes e) (plan_bytes es) (8 * n)
    ∙ ap (λ bs. entry_bytes e ++ bs) (take_bytes n es)

bytes_at : (n : ℕ) (plan : List PlanEntry) (e : PlanEntry) → slice_get plan n ≡ Some e
    → entry_bytes e ≡ place_bytes (plan_bytes plan) n
bytes_at n [] e there = cc
bytes_at zero (x ∷ xs) e there = ap (λ o. entry_bytes (unwrap_or o x)) (sym there)
bytes_at (suc n) (x ∷ xs) e there =
    let more : 8 * suc n ≡ 8 + 8 * n = omega arith in
    bytes_at n xs e there
    ∙ ap (take 8) (sym (ap (λ m. drop m (entry_bytes x ++ plan_bytes xs)) more
    ∙ drop-append-add (entry_bytes x) (plan_bytes xs) (8 * n)))

in_whole : (n : ℕ) (plan : List PlanEntry) (e : PlanEntry) → Contains (take n plan) e
    → Contains plan e
in_whole n plan e c =
    let low : c.0 < length (take n plan) = c.1 in
    let short = shorter n plan in
    let lt = shortest n plan in
    (c.0, omega (arith, low, short), sym (get_or-take n plan c.0 e (omega (arith, low, lt))) ∙ c.2)
  where
    shorter : (n : ℕ) (xs : List PlanEntry) → length (take n xs) ≤ length xs
    shorter zero xs = omega arith
    shorter (suc n) [] = omega arith
    shorter (suc n) (x ∷ xs) = let more = shorter n xs in omega (arith, more)

    shortest : (n : ℕ) (xs : List PlanEntry) → length (take n xs) ≤ n
    shortest zero xs = omega arith
    shortest (suc n) [] = omega arith
    shortest (suc n) (x ∷ xs) = let more = shortest n xs in omega (arith, more)

-- the entry of a place
record IsThere (plan : List PlanEntry) (n a : ℕ) : Type 0 where
  entry : PlanEntry
  there : slice_get plan n ≡ Some entry
  address : entry.address ≡ a

is_there : (plan : List PlanEntry) (n a : ℕ) → slice_get (addresses plan) n ≡ Some a
    → IsThere plan n a
is_there plan n a at =
    go (slice_get plan n) refl
    (sym (slice_get-map (λ (x : PlanEntry). x.address) plan n) ∙ at)
  where
    go : (o : Option PlanEntry) → slice_get plan n ≡ o
        → option_map (λ (x : PlanEntry). x.address) o ≡ Some a → IsThere plan n a
    go None is e = cc
    go (Some x) is e = record { entry = x; there = is; address = cc }

-- no place of an admissible plan is bad
none_bad : (program : Program) (plan : List PlanEntry) (a : ℕ) → IsAdmissible program plan
    → IsFirstBadPlace program.code (addresses plan) (plan_bytes plan) a → ⊥
none_bad program plan a h bad =
    let code = program.code in
    let n = length bad.front in
    let up = (are_places program plan h).ascends in
    let front : bad.front ≡ take n plan =
    same_plan code bad.front (take n plan) bad.good.serves
    (λ f c. h.serves f (in_whole n plan f c))
    (bad.good.of_places ∙ take-map (λ (x : PlanEntry). x.address) n plan)
    (bad.good.says ∙ take_bytes n plan) in
    let there = is_there plan n a bad.there in
    let e = there.entry in
    let member : Contains plan e =
    (n, slice_get_within plan n e there.there, get_or_from_slice_get plan n e e there.there) in
    let meets = bad.bad e there.address (bytes_at n plan e there.there) (h.serves e member) in
    let earlier = in_whole n plan meets.earlier
    (subst (λ es. Contains es meets.earlier) front meets.member) in
    let same = h.apart meets.earlier e meets.shared earlier member meets.in_earlier meets.in_this in
    let low = lies_below (addresses plan) bad.front n meets.earlier up bad.good.of_places refl
    (slice_get_within (addresses plan) n a bad.there) meets.member in
    let at = get_or_from_slice_get (addresses plan) n a 0 bad.there in
    let address = ap (λ (x : PlanEntry). x.address) same in
    let here = there.address in
    omega (arith, low, at, address, here)

-- ---- the words

behind_segments : (xs : List Segment) (s : Segment)
    → drop (length xs) (map without_execution xs ++ s ∷ []) ≡ s ∷ []
behind_segments [] s = refl
behind_segments (x ∷ xs) s = behind_segments xs s

has_words : (original e : Elf) (plan : List PlanEntry) (image : List Cell)
    → e ≡ rewritten_elf original image plan
    → HasWords original e (length image) (code_bytes image)
has_words original e plan image is =
    subst (λ x. HasWords original x (length image) (code_bytes image)) (sym is) (record {
      one = behind_segments original.segments (segment_with (code_bytes image));
      long = code_size image;
    })

one_code : (original e : Elf) (n : ℕ) (b c : List ℕ) → HasWords original e n b
    → HasWords original e n c → b ≡ c
one_code original e n b c h g =
    ap (λ ss. (get_or ss 0 (segment_with b)).bytes) (sym h.one ∙ g.one)

none_other : (original e : Elf) (image : List Cell) (a : ℕ)
    → HasWords original e (length image) (code_bytes image) → HasBadWord original e image a → ⊥
none_other original e image a words bad = elim bad [
  | inl none ↦ none.none (code_bytes image) words
  | inr other ↦
      other.other.differs
      (ap (λ bs. take 4 (drop (4 * other.number) bs))
      (one_code original e (length image) other.bytes (code_bytes image) other.words words))
]

-- ---- all refusals

-- there is one rewriting by a plan
abbrev pub IsOneImage : Type 0
IsOneImage = (program : Program) (plan : List PlanEntry) (one other : List Cell)
    → IsRewriting program plan one → IsRewriting program plan other → one ≡ other

-- the plan and the image that a file says
record IsSame (plan : List PlanEntry) (image : List Cell) (p : List PlanEntry) (i : List Cell)
    : Type 0
  where
    plans : p ≡ plan
    images : i ≡ image

same_rewriting : (original e : Elf) (plan p : List PlanEntry) (image i : List Cell) → IsOneImage
    → SaysPlan (program_of original).code e plan → IsRewriting (program_of original) plan image
    → IsByPlan original e p i → IsSame plan image p i
same_rewriting original e plan p image i one says rewriting h =
    let program = program_of original in
    let same = one_plan program.code e p plan h.says says h.rewriting.admissible.serves
    rewriting.admissible.serves in
    record {
      plans = same;
      images =
          one program plan i image (subst (λ q. IsRewriting program q i) same h.rewriting)
          rewriting;
    }

says_plan : (original e : Elf) (plan : List PlanEntry) (image : List Cell)
    → IsAdmissible (program_of original) plan → e ≡ rewritten_elf original image plan
    → SaysPlan (program_of original).code e plan
says_plan original e plan image admissible is = record {
  places = are_places (program_of original) plan admissible;
  says =
      subst (λ (x : Elf). HasOnly x.sections (plan_section (plan_bytes plan))) (sym is)
      (has_plan (plan_bytes plan) (map_bytes image plan));
}

-- a file is that of one rewriting
pub one_rewriting : (original : Elf) (plan other : List PlanEntry) (image again : List Cell)
    → IsOneImage → IsRewriting (program_of original) plan image
    → IsRewriting (program_of original) other again
    → rewritten_elf original image plan ≡ rewritten_elf original again other
    → (plan ≡ other) × (image ≡ again)
one_rewriting original plan other image again one here there same =
    let e = rewritten_elf original image plan in
    let by_plan : IsByPlan original e plan image =
    record { says = says_plan original e plan image here.admissible refl; rewriting = here } in
    let found = same_rewriting original e other plan again image one
    (says_plan original e other again there.admissible same) there by_plan in
    (found.plans, found.images)

says_map : (original e : Elf) (plan : List PlanEntry) (image : List Cell)
    → e ≡ rewritten_elf original image plan → HasMap e image plan
says_map original e plan image is =
    subst (λ (x : Elf). HasOnly x.sections (map_section (map_bytes image plan))) (sym is)
    (has_map (plan_bytes plan) (map_bytes image plan))

few_words : (original e : Elf) (plan : List PlanEntry) (image : List Cell) (words : ℕ)
    → SaysPlan (program_of original).code e plan → IsRewriting (program_of original) plan image
    → IsTooLarge original e words → ⊥
few_words original e plan image words says rewriting h =
    let program = program_of original in
    let same = one_plan program.code e h.plan plan h.says says h.admissible.serves
    rewriting.admissible.serves in
    let many = subst (λ q. HasTooManyWords program q words) same h.many in
    let few = rewriting.expansion.few in
    let count = many.count in
    let more = many.many in
    let long = sym (length-map image read_cell) ∙ ap length rewriting.expansion.words in
    omega (arith, few, count, more, long)

pub none_fits : (original e : Elf) (plan : List PlanEntry) (image : List Cell) → IsOneImage
    → IsRewriting (program_of original) plan image → e ≡ rewritten_elf original image plan
    → (r : VerifyRefused) → Fits original e r → r ≡ OutOfMemory
none_fits original e plan image one rewriting is NoPlan h =
    let code = (program_of original).code in
    let says = says_plan original e plan image rewriting.admissible is in
    let places = one_list code h.places (addresses plan) h.are_places says.places in
    let count = ap length places ∙ length-map plan (λ (x : PlanEntry). x.address) in
    let size = plan_size plan in
    absurd (h.none (plan_bytes plan) says.says (omega (arith, count, size)))
none_fits original e plan image one rewriting is (BadPlan a) h =
    let program = program_of original in
    let says = says_plan original e plan image rewriting.admissible is in
    let places = one_list program.code h.places (addresses plan) h.are_places says.places in
    let bytes = one_content e.sections (plan_section h.bytes) (plan_section (plan_bytes plan))
    h.says says.says refl refl in
    absurd (none_bad program plan a rewriting.admissible
    (subst (λ bs. IsFirstBadPlace program.code (addresses plan) bs a) bytes
    (subst (λ xs. IsFirstBadPlace program.code xs h.bytes a) places h.bad)))
none_fits original e plan image one rewriting is (CodeTooLarge words) h =
    absurd (few_words original e plan image words
    (says_plan original e plan image rewriting.admissible is) rewriting h)
none_fits original e plan image one rewriting is BadMap h =
    let same = same_rewriting original e plan h.plan image h.image one
    (says_plan original e plan image rewriting.admissible is) rewriting h.by_plan in
    absurd (h.no_map (subst (λ p. HasMap e h.image p) (sym same.plans)
    (subst (λ i. HasMap e i plan) (sym same.images) (says_map original e plan image is))))
none_fits original e plan image one rewriting is (BadCode a) h =
    let same = same_rewriting original e plan h.plan image h.image one
    (says_plan original e plan image rewriting.admissible is) rewriting h.by_plan in
    absurd (none_other original e image a (has_words original e plan image is)
    (subst (λ i. HasBadWord original e i a) same.images h.bad))
none_fits original e plan image one rewriting is BadFile h =
    let same = same_rewriting original e plan h.plan image h.image one
    (says_plan original e plan image rewriting.admissible is) rewriting h.by_plan in
    absurd (h.other (is ∙ ap (rewritten_elf original image) (sym same.plans)
    ∙ ap (λ i. rewritten_elf original i h.plan) (sym same.images)))
none_fits original e plan image one rewriting is OutOfMemory h = refl

pub only_memory : {A : Type 0} (original e : Elf) (plan : List PlanEntry) (image : List Cell)
    (r : Result A VerifyRefused) → IsOneImage → IsRewriting (program_of original) plan image
    → e ≡ rewritten_elf original image plan → IfErr r (Fits original e)
    → IfErr r (λ x. x ≡ OutOfMemory)
only_memory original e plan image (Ok a) one rewriting is h = tt
only_memory original e plan image (Err x) one rewriting is h =
    none_fits original e plan image one rewriting is x h
