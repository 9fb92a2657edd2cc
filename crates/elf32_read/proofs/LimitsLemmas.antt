-- The bytes of segments and sections, counted from the first on.
use Rattle.std.proofs.Common.{◌≡◌, ℕ, ◌+◌, ◌<◌, List, [], ◌∷◌, length, map, take, get_or, refl, ap, sym, ◌∙◌, arith}
use Rattle.std.specs.List.{sum_by}
use Rattle.std.proofs.lemmas.List.Sums.{sum_by-cons, sum_by_more_le}
use Rattle.elf32_read.specs.declared.Segment as declared
use Rattle.elf32_read.specs.declared.Section as declared_section
use Rattle.elf32_read.specs.Elf.{Segment, Section, segments_size, sections_size}
use Rattle.elf32_read.specs.Segments.{segment_of, section_of}

segments_counted : (ss : List declared.Segment) → segments_size (map segment_of ss) ≡ sum_by (λ s. length s.bytes.now) ss
segments_counted [] = refl
segments_counted (s ∷ ss) =
    sum_by-cons (λ (t : Segment). length t.bytes) (segment_of s) (map segment_of ss)
    ∙ ap (λ n. length s.bytes.now + n) (segments_counted ss)
    ∙ sym (sum_by-cons (λ (t : declared.Segment). length t.bytes.now) s ss)

sections_counted : (ss : List declared_section.Section) → sections_size (map section_of ss) ≡ sum_by (λ s. length s.bytes.now) ss
sections_counted [] = refl
sections_counted (s ∷ ss) =
    sum_by-cons (λ (t : Section). length t.bytes) (section_of s) (map section_of ss)
    ∙ ap (λ n. length s.bytes.now + n) (sections_counted ss)
    ∙ sym (sum_by-cons (λ (t : declared_section.Section). length t.bytes.now) s ss)

-- where those so far and the next one's are past a limit, all are
pub segment_past : (ss : List declared.Segment) (i : ℕ) (d : declared.Segment) (total limit : ℕ) → i < length ss
    → total ≡ segments_size (map segment_of (take i ss)) → limit < total + length (get_or ss i d).bytes.now
    → limit < segments_size (map segment_of ss)
segment_past ss i d total limit low sum past =
    let within = sum_by_more_le (λ (s : declared.Segment). length s.bytes.now) ss i d low in
    let some = segments_counted (take i ss) in
    let all = segments_counted ss in
    omega arith

pub section_past : (before : List declared.Segment) (ss : List declared_section.Section) (i : ℕ) (d : declared_section.Section) (total limit : ℕ) → i < length ss
    → total ≡ segments_size (map segment_of before) + sections_size (map section_of (take i ss)) → limit < total + length (get_or ss i d).bytes.now
    → limit < segments_size (map segment_of before) + sections_size (map section_of ss)
section_past before ss i d total limit low sum past =
    let within = sum_by_more_le (λ (s : declared_section.Section). length s.bytes.now) ss i d low in
    let some = sections_counted (take i ss) in
    let all = sections_counted ss in
    omega arith
