-- The promises, by the law of the protocol.
use Rattle.std.proofs.Common.{◌≡◌, ◌≢◌, ℕ, ◌*◌, ◌<◌, ◌≤◌, Bool, true, false, cond, ltb, List, ◌∷◌, get_or, refl, sym, ap, ◌∙◌, subst, Option, Some, None, arith}
use Rattle.std.proofs.lemmas.Bool.Decides.{nat_tests}
use Rattle.dsm_protocol.proofs.Names.{Shape, blocks, home, State, Exclusive, can_read, can_write, flags, Wait, World, Contents, contents, wait_of, wires_of, setting_of, most_waits, IsLaid, Sound, HasNoBye, NoByes, size, Leads, ReadsMemory, OneWriter, Flagged, RowsCome, NeverStuck}
use Rattle.coherence.specs.Messages as m
use Rattle.coherence.specs.Machine as k
use Rattle.coherence.specs.Claims as claims
use Rattle.dsm_protocol.specs.Abstraction.{state_of}
use Rattle.dsm_protocol.proofs.NodeRows.{len_flags, flagged}
use Rattle.dsm_protocol.proofs.Bytes.{same_bytes, contents_get}
use Rattle.dsm_protocol.proofs.Taking.{take_leads}

pub read_same : (s : State) → m.can_read (state_of s) ≡ can_read s
read_same Exclusive = refl
read_same other = refl

pub write_same : (s : State) → m.can_write (state_of s) ≡ can_write s
write_same Exclusive = refl
write_same other = refl

-- up to 16 nodes wait for up to 32 blocks in all
waits_room : (n : ℕ) → n ≤ 16 → n * most_waits n ≤ 32
waits_room n few = go (ltb n 5) (ltb n 6) (ltb n 9) refl refl refl
  where
    go : (a b c : Bool) → ltb n 5 ≡ a → ltb n 6 ≡ b → ltb n 9 ≡ c
        → n * cond a 8 (cond b 6 (cond c 4 2)) ≤ 32
    go true b c e f g = let low : n < 5 = grind (arith, nat_tests) in omega (arith, low)
    go false true c e f g = let low : n < 6 = grind (arith, nat_tests) in omega (arith, low)
    go false false true e f g = let low : n < 9 = grind (arith, nat_tests) in omega (arith, low)
    go false false false e f g = omega (arith, few)

-- a node may wait for two blocks, among however many nodes
pub two_of_most : (n k : ℕ) → k < 2 → k < most_waits n
two_of_most n k low = go (ltb n 5) (ltb n 6) (ltb n 9)
  where
    go : (a b c : Bool) → k < cond a 8 (cond b 6 (cond c 4 2))
    go true b c = omega (arith, low)
    go false true c = omega (arith, low)
    go false false true = omega (arith, low)
    go false false false = low

pub proper : (l : Shape) → IsLaid l → (first : ℕ → Contents) → k.Proper (setting_of l first)
proper l laid first = record {
  nodes = laid.few;
  homes = λ b. below b (ltb b (blocks l)) refl;
  room = waits_room l.nodes laid.few;
}
  where
    below : (b : ℕ) (t : Bool) → ltb b (blocks l) ≡ t → cond t (home l b) 0 < l.nodes
    below b true e = laid.homes b (grind (arith, nat_tests))
    below b false e = laid.some

pub some_waits : (o : Option Wait) → o ≢ None → wait_of o ≢ None
some_waits None h e = h refl
some_waits (Some w) h e = cc

module _ (l : Shape) (laid : IsLaid l) (first : ℕ → Contents) (es : List (k.Event Contents))
    (w : World) (sound : Sound l w) (st : Leads l first es w) where
  abbrev c : k.Core Contents
  c = k.after (setting_of l first) es

  pub reads_memory : claims.Coherent (setting_of l first) c → ReadsMemory l w c.memory
  reads_memory law i b n bi bb can within =
      let r : m.can_read (c.state i b) ≡ true = ap m.can_read (st.state i b bi bb)
      ∙ read_same (w.state i b) ∙ can in
      let len = sound.bytes i b bi bb in
      sym (contents_get (w.bytes i b) n (omega arith))
      ∙ ap (λ z. get_or z n 0) (sym (st.copy i b bi bb) ∙ law.reads i b r)

  pub one_writer : claims.OneWriter (setting_of l first) c → OneWriter l w
  one_writer law i x b bi bx bb can reads =
      law i x b (ap m.can_write (st.state i b bi bb) ∙ write_same (w.state i b) ∙ can)
      (ap m.can_read (st.state x b bx bb) ∙ read_same (w.state x b) ∙ reads)

  pub flagged_lines : claims.Coherent (setting_of l first) c → Flagged l w
  flagged_lines law i b bi bb cannot =
      let r : m.can_read (c.state i b) ≡ false = ap m.can_read (st.state i b bi bb)
      ∙ read_same (w.state i b) ∙ cannot in
      let len = sound.bytes i b bi bb in
      let lf = len_flags (size l b) in
      let few : size l b ≤ 4096 = (let a = laid.sizes b bb in omega arith) in
      let e : contents (w.bytes i b) ≡ contents (flags (size l b)) = sym (st.copy i b bi bb)
      ∙ law.flags i b r ∙ sym (flagged (size l b) few) in
      same_bytes (w.bytes i b) (flags (size l b)) (len ∙ sym lf) (λ n below.
      sym (contents_get (w.bytes i b) n below) ∙ ap (λ z. get_or z n 0) e
      ∙ contents_get (flags (size l b)) n (omega arith))

  pub rows_come : NoByes l w → claims.HaveRows (setting_of l first) c → RowsCome l w
  rows_come silent law i j message rest bi bj front =
      let plain : HasNoBye (message ∷ rest) = subst HasNoBye front (silent j i bj bi) in
      let got = take_leads l laid first es w i j message rest law st sound bi bj front plain.0 in
      (got.0, got.1)

  pub never_stuck : claims.Moves (setting_of l first) c → NeverStuck l w
  never_stuck law i b bi bb waits =
      let e : c.wait i b ≢ None = (λ z. some_waits (w.wait i b) waits (sym (st.wait i b bi bb) ∙ z))
      in
      let got = law i b e in
      (got.0, got.1, got.2, got.3, λ z. got.4 (st.list got.0 got.1 got.2 got.3 ∙ ap wires_of z))
