-- What a reader makes of a packet that is sent.
use Rattle.std.proofs.Common.{◌≡◌, ◌≢◌, ℕ, ◌+◌, ◌*◌, ◌%◌, ◌/◌, ◌<◌, ◌≤◌, ◌==◌, Bool, true, false, List, [], ◌∷◌, ◌++◌, length, Some, None, Option, refl, sym, ap, ◌∙◌, subst, arith, append_assoc, length-append, zero-add, eqb-true, eq-eqb, ne_eqb, lt-ltb}
use Rattle.std.specs.Prelude.{option_to_list, sum, bit_xor, if◌then◌else◌}
use Rattle.std.specs.Fmt.{digit_glyph}
use Rattle.std.proofs.lemmas.Grind.{common_steps}
use Rattle.std.proofs.lemmas.Bool.Decides.{nat_tests}
use Rattle.std.proofs.lemmas.List.Sums.{sum_by-append}
use Rattle.gdb_remote.specs.declared.reader.ReaderState.TheVariants.{Between, Within, Escaped}
use Rattle.gdb_remote.specs.declared.reader.PacketEvent.{PacketEvent}
use Rattle.gdb_remote.specs.declared.reader.PacketEvent.TheVariants.{Packet, Damaged}
use Rattle.gdb_remote.specs.Frames.{checksum, escape_of, escaped, framed}
use Rattle.gdb_remote.specs.Hexadecimal.{byte_digits, digit_value, pair_value}
use Rattle.gdb_remote.specs.Readings.{Reading, Step, quiet, telling, gained, step, step_in, within_step, escaped_step, reading_after, events_of, is_sum}

-- the bytes end nothing, and lead from one reading to another
pub record Silent (r : Reading) (bytes : List ℕ) (now : Reading) : Type 0 where
  pub after : (rest : List ℕ) → reading_after r (bytes ++ rest) ≡ reading_after now rest
  pub events : (rest : List ℕ) → events_of r (bytes ++ rest) ≡ events_of now rest

silent_step : (r : Reading) (b : ℕ) (now : Reading) → step r b ≡ quiet now → Silent r (b ∷ []) now
silent_step r b now e = record {
  after = λ rest. ap (λ (s : Step). reading_after s.reading rest) e;
  events = λ rest. ap (λ (s : Step). option_to_list s.event ++ events_of s.reading rest) e;
}

silent_none : (r now : Reading) → r ≡ now → Silent r [] now
silent_none r now e = record {
  after = λ rest. ap (λ (s : Reading). reading_after s rest) e;
  events = λ rest. ap (λ (s : Reading). events_of s rest) e;
}

silent_join : (r : Reading) (xs : List ℕ) (mid : Reading) (ys : List ℕ) (now : Reading)
    → Silent r xs mid → Silent mid ys now → Silent r (xs ++ ys) now
silent_join r xs mid ys now a b = record {
  after = λ rest. ap (λ bs. reading_after r bs) (append_assoc xs ys rest) ∙ a.after (ys ++ rest) ∙ b.after rest;
  events = λ rest. ap (λ bs. events_of r bs) (append_assoc xs ys rest) ∙ a.events (ys ++ rest) ∙ b.events rest;
}

abbrev within : List ℕ → ℕ → Reading
within body total = record { phase = Within; body = body; sum = total }

abbrev behind_escape : List ℕ → ℕ → Reading
behind_escape body total = record { phase = Escaped; body = body; sum = total }

mod_join : (s a b : ℕ) → ((s + a) % 256 + b) % 256 ≡ (s + (a + b)) % 256
mod_join s a b = omega arith

gained_one : (r : Reading) (sent meant : ℕ) → length r.body < 4096
    → gained r sent meant ≡ quiet (within (r.body ++ meant ∷ []) ((r.sum + sent) % 256))
gained_one r sent meant h = rw (lt-ltb (length r.body) 4096 h) refl

plain : (t : List ℕ) (s b : ℕ) → (b == 35) ≡ false → (b == 36) ≡ false → (b == 125) ≡ false
    → length t < 4096
    → within_step (within t s) b ≡ quiet (within (t ++ b ∷ []) ((s + (0 + b)) % 256))
plain t s b p q v h =
    let total : (s + b) % 256 ≡ (s + (0 + b)) % 256 = omega arith in
    rw (p, q, v) (gained_one (within t s) b b h ∙ ap (λ k. quiet (within (t ++ b ∷ []) k)) total)

-- an escaped byte
hidden : (t : List ℕ) (s sent meant : ℕ) → (sent == 35) ≡ false → (sent == 36) ≡ false
    → bit_xor sent 32 ≡ meant → length t < 4096
    → Silent (within t s) (125 ∷ sent ∷ []) (within (t ++ meant ∷ []) ((s + (125 + (sent + 0))) % 256))
hidden t s sent meant p q x h =
    let total : ((s + 125) % 256 + sent) % 256 ≡ (s + (125 + (sent + 0))) % 256 = omega arith in
    let e : escaped_step (behind_escape t ((s + 125) % 256)) sent ≡ quiet (within (t ++ bit_xor sent 32 ∷ []) (((s + 125) % 256 + sent) % 256)) =
    rw (p, q) (gained_one (behind_escape t ((s + 125) % 256)) sent (bit_xor sent 32) h) in
    let f : quiet (within (t ++ bit_xor sent 32 ∷ []) (((s + 125) % 256 + sent) % 256)) ≡ quiet (within (t ++ meant ∷ []) ((s + (125 + (sent + 0))) % 256)) =
    ap (λ m. quiet (within (t ++ m ∷ []) (((s + 125) % 256 + sent) % 256))) x ∙ ap (λ k. quiet (within (t ++ meant ∷ []) k)) total in
    silent_join (within t s) (125 ∷ []) (behind_escape t ((s + 125) % 256)) (sent ∷ []) (within (t ++ meant ∷ []) ((s + (125 + (sent + 0))) % 256))
    (silent_step (within t s) 125 (behind_escape t ((s + 125) % 256)) refl)
    (silent_step (behind_escape t ((s + 125) % 256)) sent (within (t ++ meant ∷ []) ((s + (125 + (sent + 0))) % 256)) (e ∙ f))

abbrev OneRead : List ℕ → ℕ → ℕ → Type 0
OneRead t s b = Silent (within t s) (escape_of b) (within (t ++ b ∷ []) ((s + sum (escape_of b)) % 256))

escape_plain : (b : ℕ) → (b == 35) ≡ false → (b == 36) ≡ false → (b == 42) ≡ false
    → (b == 125) ≡ false → escape_of b ≡ b ∷ []
escape_plain b p q u v = rw (p, q, u, v) refl

one_by : (t : List ℕ) (s b : ℕ) (p q u v : Bool) → (b == 35) ≡ p → (b == 36) ≡ q → (b == 42) ≡ u
    → (b == 125) ≡ v → length t < 4096 → OneRead t s b
one_by t s b true q u v p' q' u' v' h =
    subst (λ k. OneRead t s k) (sym (eqb-true b 35 p')) (hidden t s 3 35 refl refl refl h)
one_by t s b false true u v p' q' u' v' h =
    subst (λ k. OneRead t s k) (sym (eqb-true b 36 q')) (hidden t s 4 36 refl refl refl h)
one_by t s b false false true v p' q' u' v' h =
    subst (λ k. OneRead t s k) (sym (eqb-true b 42 u')) (hidden t s 10 42 refl refl refl h)
one_by t s b false false false true p' q' u' v' h =
    subst (λ k. OneRead t s k) (sym (eqb-true b 125 v')) (hidden t s 93 125 refl refl refl h)
one_by t s b false false false false p' q' u' v' h =
    subst (λ bs. Silent (within t s) bs (within (t ++ b ∷ []) ((s + sum bs) % 256))) (sym (escape_plain b p' q' u' v'))
    (silent_step (within t s) b (within (t ++ b ∷ []) ((s + (0 + b)) % 256)) (plain t s b p' q' v' h))

one : (t : List ℕ) (s b : ℕ) → length t < 4096 → OneRead t s b
one t s b h = one_by t s b (b == 35) (b == 36) (b == 42) (b == 125) refl refl refl refl h

-- a whole body
whole : (t : List ℕ) (s : ℕ) (body : List ℕ) → s < 256 → length t + length body ≤ 4096
    → Silent (within t s) (escaped body) (within (t ++ body) ((s + sum (escaped body)) % 256))
whole t s [] small h =
    let e : t ≡ t ++ [] = grind (arith, common_steps) in
    let f : s ≡ (s + 0) % 256 = omega arith in
    silent_none (within t s) (within (t ++ []) ((s + 0) % 256)) (ap (λ k. within t k) f ∙ ap (λ bs. within bs ((s + 0) % 256)) e)
whole t s (b ∷ bs) small h =
    let front : ℕ = sum (escape_of b) in
    let mid : ℕ = (s + front) % 256 in
    let low : mid < 256 = omega arith in
    let room : length (t ++ b ∷ []) + length bs ≤ 4096 = omega (arith, length-append t (b ∷ [])) in
    let e : (t ++ b ∷ []) ++ bs ≡ t ++ b ∷ bs = append_assoc t (b ∷ []) bs in
    let total : (mid + sum (escaped bs)) % 256 ≡ (s + sum (escape_of b ++ escaped bs)) % 256 =
    mod_join s front (sum (escaped bs)) ∙ ap (λ k. (s + k) % 256) (sym (sum_by-append (λ x. x) (escape_of b) (escaped bs))) in
    let joined = silent_join (within t s) (escape_of b) (within (t ++ b ∷ []) mid) (escaped bs) (within ((t ++ b ∷ []) ++ bs) ((mid + sum (escaped bs)) % 256)) (one t s b (omega arith)) (whole (t ++ b ∷ []) mid bs low room) in
    subst (λ now. Silent (within t s) (escape_of b ++ escaped bs) now) (ap (λ k. within k ((mid + sum (escaped bs)) % 256)) e ∙ ap (λ k. within (t ++ b ∷ bs) k) total) joined

-- a packet, up to the digits of its checksum
pub sent : (r : Reading) (body : List ℕ) → r.phase ≡ Between → length body ≤ 4096
    → Silent r (36 ∷ escaped body) (within body (checksum (escaped body)))
sent r body e h =
    silent_join r (36 ∷ []) (within [] 0) (escaped body) (within body (checksum (escaped body)))
    (silent_step r 36 (within [] 0) (ap (λ p. step_in p r 36) e))
    (subst (λ k. Silent (within [] 0) (escaped body) (within body (k % 256))) (zero-add (sum (escaped body))) (whole [] 0 body (omega arith) (omega arith)))

digit_read : (v : ℕ) → v < 16 → digit_value (digit_glyph false v) ≡ Some v
digit_read v h = grind (arith, nat_tests)

byte_read : (c : ℕ) → c < 256 → pair_value (digit_glyph false (c / 16)) (digit_glyph false (c % 16)) ≡ Some c
byte_read c h =
    let e : 16 * (c / 16) + c % 16 ≡ c = omega arith in
    rw (digit_read (c / 16) (omega arith), digit_read (c % 16) (omega arith)) (ap Some e)

same_sum : (c : ℕ) (o : Option ℕ) → o ≡ Some c → is_sum c o ≡ true
same_sum c o e = ap (λ p. is_sum c p) e ∙ eq-eqb c c refl

other_sum : (c : ℕ) (o : Option ℕ) → o ≢ Some c → is_sum c o ≡ false
other_sum c None h = refl
other_sum c (Some n) h = ne_eqb n c (λ e. h (ap Some e))

abbrev judged_events : Bool → List PacketEvent
judged_events true = Packet ∷ []
judged_events false = Damaged ∷ []

judged_as : (body : List ℕ) (c high low : ℕ) (b : Bool) → is_sum c (pair_value high low) ≡ b
    → events_of (within body c) (35 ∷ high ∷ low ∷ []) ≡ judged_events b
judged_as body c high low true e = rw e refl
judged_as body c high low false e = rw e refl

summed : (body : List ℕ) → is_sum (checksum (escaped body)) (pair_value (digit_glyph false (checksum (escaped body) / 16)) (digit_glyph false (checksum (escaped body) % 16))) ≡ true
summed body =
    let c : ℕ = checksum (escaped body) in
    same_sum c (pair_value (digit_glyph false (c / 16)) (digit_glyph false (c % 16))) (byte_read c (omega arith))

pub packet : (r : Reading) (body : List ℕ) → r.phase ≡ Between → length body ≤ 4096
    → events_of r (framed body) ≡ Packet ∷ []
packet r body e h =
    let c : ℕ = checksum (escaped body) in
    (sent r body e h).events (35 ∷ byte_digits c)
    ∙ judged_as body c (digit_glyph false (c / 16)) (digit_glyph false (c % 16)) true (summed body)

after_judging : (body : List ℕ) (c high low : ℕ) → is_sum c (pair_value high low) ≡ true
    → reading_after (within body c) (35 ∷ high ∷ low ∷ []) ≡ record { phase = Between; body = body; sum = c }
after_judging body c high low e =
    let r : Reading = record { phase = Between; body = body; sum = c } in
    ap (λ (b : Bool). (if b then telling Packet r else telling Damaged r).reading) e

pub after_packet : (r : Reading) (body : List ℕ) → r.phase ≡ Between → length body ≤ 4096
    → reading_after r (framed body) ≡ record { phase = Between; body = body; sum = checksum (escaped body) }
after_packet r body e h =
    let c : ℕ = checksum (escaped body) in
    (sent r body e h).after (35 ∷ byte_digits c)
    ∙ after_judging body c (digit_glyph false (c / 16)) (digit_glyph false (c % 16)) (summed body)

pub damaged : (r : Reading) (body : List ℕ) (high low : ℕ) → r.phase ≡ Between
    → length body ≤ 4096 → pair_value high low ≢ Some (checksum (escaped body))
    → events_of r (36 ∷ (escaped body ++ 35 ∷ high ∷ low ∷ [])) ≡ Damaged ∷ []
damaged r body high low e h other =
    let c : ℕ = checksum (escaped body) in
    (sent r body e h).events (35 ∷ high ∷ low ∷ [])
    ∙ judged_as body c high low false (other_sum c (pair_value high low) other)

pub pieces : (r : Reading) (one other : List ℕ)
    → events_of r (one ++ other) ≡ events_of r one ++ events_of (reading_after r one) other
pieces r [] other = refl
pieces r (b ∷ bs) other =
    ap (λ es. option_to_list (step r b).event ++ es) (pieces (step r b).reading bs other)
    ∙ sym (append_assoc (option_to_list (step r b).event) (events_of (step r b).reading bs) (events_of (reading_after (step r b).reading bs) other))

pub goes_on : (r : Reading) (one other : List ℕ)
    → reading_after r (one ++ other) ≡ reading_after (reading_after r one) other
goes_on r [] other = refl
goes_on r (b ∷ bs) other = goes_on (step r b).reading bs other
