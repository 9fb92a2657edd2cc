-- The bytes of a rewritten file, one after another.
use Rattle.std.proofs.Common.{◌≡◌, ◌∙◌, ℕ, ◌+◌, ◌-◌, ◌*◌, ◌/◌, ◌%◌, ◌<◌, ◌==◌, true, nat_le, List, [], ◌∷◌, ◌++◌, length, map, take, get_or, Option, Some, None, slice_get, option_map, sym, ap, append-nil, arith}
use Rattle.std.specs.Prelude.{unwrap_or, option_and_then}
use Rattle.std.specs.List.{flat_map}
use Rattle.std.proofs.lemmas.Bool.Decides.{nat_tests}
use Rattle.std.proofs.lemmas.List.{take_more}
use Rattle.std.proofs.lemmas.Grind.{flat_map-append}
use Rattle.std.proofs.lemmas.Option.{slice_get-get_or}
use Rattle.rewriter.specs.RewrittenFile.{word_bytes, without_execution, section_with}
use Rattle.std.proofs.lemmas.List.{length-map, map-append, get_or-map}
use Rattle.elf32_read.specs.Elf.{Elf, Segment, Section}
use Rattle.elf32_read.specs.Segments.{segment_of}
use Rattle.elf32_read.specs.declared.Segment.{Segment as OfCode}
use Rattle.jump_map.specs.Image.{Cell, image_base}
use Rattle.jump_map.specs.Maps.{index_of, word_at}

index_at : (k : ℕ) → index_of (image_base + 4 * k) ≡ Some k
index_at k =
    let low : nat_le image_base (image_base + 4 * k) ≡ true = grind (arith, nat_tests) in
    let even : ((image_base + 4 * k) % 4 == 0) ≡ true = grind (arith, nat_tests) in
    let number : (image_base + 4 * k - image_base) / 4 ≡ k = omega arith in
    rw (low, even) (ap Some number)

-- the word of a number
pub word_number : (image : List Cell) (k : ℕ) →
    word_at image (image_base + 4 * k) ≡ option_map (λ cell. cell.word) (slice_get image k)
word_number image k =
    ap (λ i. option_map (λ cell. cell.word) (option_and_then (slice_get image) i)) (index_at k)

-- a word that is there, whatever is taken for one that isn't
pub has_word : (image : List Cell) (k other : ℕ) → k < length image →
    option_map (λ cell. cell.word) (slice_get image k)
    ≡ Some (unwrap_or (word_at image (image_base + 4 * k)) other)
has_word image k other h =
    let d : Cell = record { word = 0; place = None } in
    let there : slice_get image k ≡ Some (get_or image k d) = slice_get-get_or image k d h in
    let word : word_at image (image_base + 4 * k) ≡ Some (get_or image k d).word =
    word_number image k ∙ ap (option_map (λ cell. cell.word)) there in
    ap (option_map (λ cell. cell.word)) there ∙ ap Some (sym (ap (λ o. unwrap_or o other) word))

-- one word more
pub one_more : (image : List Cell) (k word : ℕ) (bytes next : List ℕ) → k < length image →
    option_map (λ cell. cell.word) (slice_get image k) ≡ Some word →
    bytes ≡ flat_map (λ (cell : Cell). word_bytes cell.word) (take k image) →
    next ≡ bytes ++ word_bytes word →
    next ≡ flat_map (λ (cell : Cell). word_bytes cell.word) (take (k + 1) image)
one_more image k word bytes next h is before added =
    let d : Cell = record { word = 0; place = None } in
    let there : slice_get image k ≡ Some (get_or image k d) = slice_get-get_or image k d h in
    let same : Some (get_or image k d).word ≡ Some word =
    sym (ap (option_map (λ cell. cell.word)) there) ∙ is in
    let equal : (get_or image k d).word ≡ word = ap (λ o. unwrap_or o 0) same in
    added ∙ ap (λ b. b ++ word_bytes word) before
    ∙ ap (λ w. flat_map (λ (cell : Cell). word_bytes cell.word) (take k image) ++ word_bytes w) (sym equal)
    ∙ ap (λ b. flat_map (λ (cell : Cell). word_bytes cell.word) (take k image) ++ b)
    (sym (append-nil (word_bytes (get_or image k d).word)))
    ∙ sym (flat_map-append (λ (cell : Cell). word_bytes cell.word) (take k image) (get_or image k d ∷ []))
    ∙ ap (flat_map (λ (cell : Cell). word_bytes cell.word)) (sym (take_more image k d h))

-- lists that differ in one place differ
pub differ_at : (xs ys : List OfCode) (k : ℕ) (d : OfCode) → k < length xs →
    length xs ≡ length ys → (segment_of (get_or xs k d) ≡ segment_of (get_or ys k d) → ⊥) →
    map segment_of xs ≡ map segment_of ys → ⊥
differ_at xs ys k d h l other same =
    let there : k < length ys = omega (arith, h, l) in
    other (sym (get_or-map segment_of xs k d (segment_of d) h)
    ∙ ap (λ ss. get_or ss k (segment_of d)) same ∙ get_or-map segment_of ys k d (segment_of d) there)

-- one segment more of the original
pub one_segment : (items done next : List OfCode) (segments : List Segment) (i : ℕ) (d x : OfCode) →
    map segment_of items ≡ segments → i < length items →
    map segment_of done ≡ map without_execution (take i segments) → next ≡ done ++ x ∷ [] →
    segment_of x ≡ without_execution (segment_of (get_or items i d)) →
    map segment_of next ≡ map without_execution (take (i + 1) segments)
one_segment items done next segments i d x same h before added is =
    let long : i < length segments =
    omega (arith, h, ap length same, length-map items segment_of) in
    let here : get_or segments i (segment_of d) ≡ segment_of (get_or items i d) =
    ap (λ ss. get_or ss i (segment_of d)) (sym same) ∙ get_or-map segment_of items i d (segment_of d) h in
    ap (map segment_of) added ∙ map-append segment_of done (x ∷ [])
    ∙ ap (λ ss. ss ++ segment_of x ∷ []) before
    ∙ ap (λ s. map without_execution (take i segments) ++ s ∷ []) (is ∙ ap without_execution (sym here))
    ∙ sym (map-append without_execution (take i segments) (get_or segments i (segment_of d) ∷ []))
    ∙ ap (map without_execution) (sym (take_more segments i (segment_of d) long))

-- ---- the whole file

two : (xs : List Section) (a b : Section) → length xs ≡ 2 → slice_get xs 0 ≡ Some a →
    slice_get xs 1 ≡ Some b → xs ≡ a ∷ b ∷ []
two [] a b l e f = absurd (omega (arith, l))
two (x ∷ []) a b l e f = absurd (omega (arith, l))
two (x ∷ y ∷ []) a b l e f =
    ap (λ o. unwrap_or o x ∷ y ∷ []) e ∙ ap (λ o. a ∷ unwrap_or o y ∷ []) f
two (x ∷ y ∷ z ∷ zs) a b l e f = absurd (omega (arith, l))

-- an executable with these fields is the one that is wanted
pub whole : (e wanted : Elf) (a b : Section) → wanted.sections ≡ a ∷ b ∷ [] →
    slice_get e.sections 0 ≡ Some a → slice_get e.sections 1 ≡ Some b → length e.sections ≡ 2 →
    e.entry ≡ wanted.entry → e.flags ≡ wanted.flags → e.segments ≡ wanted.segments → e ≡ wanted
whole e wanted a b is first second long entry flags segments =
    let sections = two e.sections a b long first second ∙ sym is in
    λ i. record { entry = entry i; flags = flags i; segments = segments i; sections = sections i }

-- a section that is there, by the bytes that it is to have
pub section_as : (o : Option Section) (w : Section) (name : List ℕ) (kind : ℕ)
    (bytes written wanted : List ℕ) → o ≡ Some w → w ≡ section_with name kind bytes →
    bytes ≡ written → written ≡ wanted → o ≡ Some (section_with name kind wanted)
section_as o w name kind bytes written wanted e f g h =
    e ∙ ap Some (f ∙ ap (section_with name kind) (g ∙ h))
