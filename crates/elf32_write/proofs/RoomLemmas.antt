-- The room that a writable executable needs.
use Rattle.std.proofs.Common.{◌≡◌, ◌+◌, ◌*◌, ◌/◌, ◌%◌, ◌^◌, ◌<◌, ◌≤◌, Bool, true, not, ◌&&◌, ◌==◌, List, [], ◌∷◌, length, arith}
use Rattle.std.specs.Prelude.{nat_lt, nat_le}
use Rattle.std.specs.List.{list_all, list_any}
use Rattle.std.proofs.lemmas.Bool.{and_parts, leb-true, ltb-true}
use Rattle.std.proofs.lemmas.List.Sums.{sum_by-cons}
use Rattle.elf32_read.specs.Elf.{Elf, Segment, Section, is_in_limits, are_placed, are_known_flags, segments_size, sections_size}
use Rattle.elf32_write.specs.Layout.{headers_end, segments_end}
use Rattle.elf32_write.specs.Writable.{is_plain, has_plain_name, is_writable}
use Rattle.elf32_write.specs.Room.{segments_room, sections_room, room_limit}
use Rattle.elf32_write.proofs.LayoutLemmas.{segments_end_high}

segments_room_small : (ss : List Segment) → segments_room ss ≤ 4096 * length ss + segments_size ss
segments_room_small [] = omega arith
segments_room_small (s ∷ ss) =
    omega (arith, segments_room_small ss, sum_by-cons (λ (t : Segment). length t.bytes) s ss)

-- what a plain section is
pub record Plain (s : Section) : Type 0 where
  pub flags : (s.flags / 2 % 2 == 0) ≡ true
  pub kind : not (s.kind == 8) ≡ true
  pub size : (s.size == length s.bytes) ≡ true
  pub short : length s.name ≤ 64
  pub plain : not (list_any (λ b. b == 0) s.name) ≡ true

pub plain_parts : (s : Section) → is_plain s ≡ true → Plain s
plain_parts s is =
    let one = and_parts (s.flags / 2 % 2 == 0) (not (s.kind == 8) && ((s.size == length s.bytes) && has_plain_name s)) is in
    let two = and_parts (not (s.kind == 8)) ((s.size == length s.bytes) && has_plain_name s) one.1 in
    let three = and_parts (s.size == length s.bytes) (has_plain_name s) two.1 in
    let four = and_parts (nat_le (length s.name) 64) (not (list_any (λ b. b == 0) s.name)) three.1 in
    record { flags = one.0; kind = two.0; size = three.0; short = leb-true _ _ four.0; plain = four.1 }

sections_room_small : (ss : List Section) → list_all is_plain ss ≡ true → sections_room ss ≤ 69 * length ss + sections_size ss
sections_room_small [] plain = omega arith
sections_room_small (s ∷ ss) plain =
    let parts = and_parts (is_plain s) (list_all is_plain ss) plain in
    let short = (plain_parts s parts.0).short in
    omega (arith, short, sections_room_small ss parts.1, sum_by-cons (λ (t : Section). length t.bytes) s ss)

-- the limits of an executable that is written
pub record Limits (e : Elf) : Type 0 where
  pub some : 0 < length e.segments
  pub few_segments : length e.segments ≤ 1000
  pub few_sections : length e.sections ≤ 1000
  pub flags : are_known_flags e.flags ≡ true
  pub placed : are_placed e.segments ≡ true
  pub plain : list_all is_plain e.sections ≡ true
  pub room : (headers_end e.segments + segments_room e.segments) + sections_room e.sections ≤ room_limit

pub limits : (e : Elf) → is_writable e ≡ true → Limits e
limits e is =
    let whole = and_parts (is_in_limits e) (list_all is_plain e.sections) is in
    let small : Bool = nat_le (segments_size e.segments + sections_size e.sections) (2 ^ 30) in
    let one = and_parts (nat_lt 0 (length e.segments)) (nat_le (length e.segments) 1000 && (nat_le (length e.sections) 1000 && (are_known_flags e.flags && (are_placed e.segments && small)))) whole.0 in
    let two = and_parts (nat_le (length e.segments) 1000) (nat_le (length e.sections) 1000 && (are_known_flags e.flags && (are_placed e.segments && small))) one.1 in
    let three = and_parts (nat_le (length e.sections) 1000) (are_known_flags e.flags && (are_placed e.segments && small)) two.1 in
    let four = and_parts (are_known_flags e.flags) (are_placed e.segments && small) three.1 in
    let five = and_parts (are_placed e.segments) small four.1 in
    let few_segments = leb-true _ _ two.0 in
    let few_sections = leb-true _ _ three.0 in
    let size = leb-true _ _ five.1 in
    record {
      some = ltb-true _ _ one.0;
      few_segments = few_segments;
      few_sections = few_sections;
      flags = four.0;
      placed = five.0;
      plain = whole.1;
      room = omega (arith, few_segments, few_sections, size, segments_room_small e.segments, sections_room_small e.sections whole.1);
    }

-- room for the sections is left behind the segments' end
pub room_left : (e : Elf) → Limits e → segments_end (headers_end e.segments) e.segments + sections_room e.sections ≤ room_limit
room_left e l = omega (arith, l.room, segments_end_high (headers_end e.segments) e.segments)
