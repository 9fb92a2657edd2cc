-- What is kept of the writes in a block.
use Rattle.std.proofs.Common.{◌≡◌, ◌≢◌, ℕ, zero, suc, ◌+◌, ◌/◌, ◌<◌, Bool, true, false, not, ◌&&◌, ◌||◌, cond, eqb, ◌⊎◌, inl, inr, List, [], ◌∷◌, ◌++◌, length, Option, Some, None, refl, sym, ap, ◌∙◌, subst, arith, slice_index_or}
use Rattle.std.specs.Option.{option_map_or}
use Rattle.std.specs.List.{list_any, list_all}
use Rattle.std.specs.Ordering.{nat_cmp}
use Rattle.block_layout.specs.Update.{changed}
use Rattle.std.specs.BTreeMap.{BTreeMap, get}
use Rattle.std.proofs.lemmas.Bool.{eq-eqb, ne_eqb, eqb-true}
use Rattle.std.proofs.lemmas.Bool.Decides.{eqb_tells}
use Rattle.std.proofs.lemmas.List.{length-append, append-nil, append_assoc, get_or_append_left}
use Rattle.std.proofs.Math.Seq.{get_or-append_seam}
use Rattle.event_text.specs.run_trace.declared.traced.Accessed.{Accessed}
use Rattle.event_text.specs.run_trace.Traced.{Traced}
use Rattle.block_view.specs.declared.sharing.Writer.{Writer}
use Rattle.block_view.specs.declared.sharing.Writer.TheVariants as writer
use Rattle.block_view.specs.declared.sharing.WrittenWords.{WrittenWords}
use Rattle.block_view.specs.declared.sharing.Writers.{Writers}
use Rattle.block_view.specs.Sharing.{Write, writes_in, written_at, writes_of, written_by, are_of_several, are_apart}
use Rattle.block_view.specs.Writers.{write_of, Writes, AreOfTwo, IsWriterOf, AreWordsOf, AreWritersOf, AreSharedBy, is_several, says_shared, shared_in, writes_with}

-- 1. One write more

stays : (ws xs : List Write) (i a : ℕ) → Writes ws i a → Writes (ws ++ xs) i a
stays [] xs i a h = absurd h
stays (w ∷ ws) xs i a (inl here) = inl here
stays (w ∷ ws) xs i a (inr there) = inr (stays ws xs i a there)

last : (ws : List Write) (i a : ℕ) → Writes (ws ++ write_of i a ∷ []) i a
last [] i a = inl (refl, refl)
last (w ∷ ws) i a = inr (last ws i a)

before : (ws : List Write) (i a k c : ℕ) → Writes (ws ++ write_of i a ∷ []) k c → Writes ws k c ⊎ ((i ≡ k) × (a ≡ c))
before [] i a k c (inl here) = inr here
before [] i a k c (inr there) = absurd there
before (w ∷ ws) i a k c (inl here) = inl (inl here)
before (w ∷ ws) i a k c (inr there) = elim (before ws i a k c there) [
  | inl old ↦ inl (inr old)
  | inr new ↦ inr new
]

-- 2. WrittenWords

-- two values of one option
same_some : (o : Option ℕ) (x y : ℕ) → o ≡ Some x → o ≡ Some y → x ≡ y
same_some o x y p q = ap (λ r. option_map_or (λ z. z) r x) (sym p ∙ q)

not_both : {A : Type 0} (o : Option ℕ) (x : ℕ) → o ≡ Some x → o ≡ None → A
not_both o x p q = let e : true ≡ false = ap (λ r. option_map_or (λ z. true) r false) (sym p ∙ q) in absurd cc

-- a word that nobody has written
pub word_new : (old new : BTreeMap ℕ ℕ) (meet : Bool) (ws : List Write) (i a : ℕ)
    → AreWordsOf (record { first = old; meet = meet }) ws → get nat_cmp old a ≡ None
    → ((c : ℕ) → get nat_cmp new c ≡ changed (λ k. get nat_cmp old k) a (Some i) c)
    → AreWordsOf (record { first = new; meet = meet }) (ws ++ write_of i a ∷ [])
word_new old new meet ws i a h free put =
    let now : get nat_cmp new a ≡ Some i =
    put a ∙ ap (λ b. cond b (Some i) (get nat_cmp old a)) (eq-eqb a a refl) in
    let others : (c : ℕ) → c ≢ a → get nat_cmp new c ≡ get nat_cmp old c =
    λ c apart. put c ∙ ap (λ b. cond b (Some i) (get nat_cmp old c)) (ne_eqb c a apart) in
    record {
      some = λ c k is. elim (eqb_tells c a) [
        | inl same ↦
            let e : k ≡ i = same_some (get nat_cmp new a) k i (ap (get nat_cmp new) (sym same.1) ∙ is) now in
            subst (λ x. Writes (ws ++ write_of i a ∷ []) x c) (sym e)
            (subst (λ x. Writes (ws ++ write_of i a ∷ []) i x) (sym same.1) (last ws i a))
        | inr apart ↦ stays ws (write_of i a ∷ []) k c (h.some c k (sym (others c apart.1) ∙ is))
      ];
      none = λ c k is has. elim (eqb_tells c a) [
        | inl same ↦ not_both (get nat_cmp new a) i now (ap (get nat_cmp new) (sym same.1) ∙ is)
        | inr apart ↦ elim (before ws i a k c has) [
          | inl older ↦ h.none c k (sym (others c apart.1) ∙ is) older
          | inr newer ↦ absurd (apart.1 (sym newer.1))
        ]
      ];
      apart = λ none k c has. elim (before ws i a k c has) [
        | inl older ↦ elim (eqb_tells c a) [
          | inl same ↦ absurd (h.none a k free (subst (λ x. Writes ws k x) same.1 older))
          | inr apart ↦ others c apart.1 ∙ h.apart none k c older
        ]
        | inr newer ↦ ap (get nat_cmp new) (sym newer.1) ∙ now ∙ ap (λ x. Some x) newer.0
      ];
      meet = λ yes. let m = h.meet yes in record {
        one = m.one;
        other = m.other;
        apart = m.apart;
        word = m.word;
        writes = stays ws (write_of i a ∷ []) m.one m.word m.writes;
        writes_too = stays ws (write_of i a ∷ []) m.other m.word m.writes_too;
      };
    }

-- a word that the node has written first
pub word_again : (s : WrittenWords) (ws : List Write) (i a : ℕ) → AreWordsOf s ws → get nat_cmp s.first a ≡ Some i
    → AreWordsOf s (ws ++ write_of i a ∷ [])
word_again s ws i a h is = record {
  some = λ c k is. stays ws (write_of i a ∷ []) k c (h.some c k is);
  none = λ c k free has. elim (before ws i a k c has) [
    | inl older ↦ h.none c k free older
    | inr newer ↦ not_both (get nat_cmp s.first c) i (ap (get nat_cmp s.first) (sym newer.1) ∙ is) free
  ];
  apart = λ none k c has. elim (before ws i a k c has) [
    | inl older ↦ h.apart none k c older
    | inr newer ↦ ap (get nat_cmp s.first) (sym newer.1) ∙ is ∙ ap (λ x. Some x) newer.0
  ];
  meet = λ yes. let m = h.meet yes in record {
    one = m.one;
    other = m.other;
    apart = m.apart;
    word = m.word;
    writes = stays ws (write_of i a ∷ []) m.one m.word m.writes;
    writes_too = stays ws (write_of i a ∷ []) m.other m.word m.writes_too;
  };
}

-- a word that another has written first
pub word_met : (s : WrittenWords) (ws : List Write) (i j a : ℕ) → AreWordsOf s ws → get nat_cmp s.first a ≡ Some j → j ≢ i
    → AreWordsOf (record { first = s.first; meet = true }) (ws ++ write_of i a ∷ [])
word_met s ws i j a h is apart = record {
  some = λ c k is. stays ws (write_of i a ∷ []) k c (h.some c k is);
  none = λ c k free has. elim (before ws i a k c has) [
    | inl older ↦ h.none c k free older
    | inr newer ↦ not_both (get nat_cmp s.first c) j (ap (get nat_cmp s.first) (sym newer.1) ∙ is) free
  ];
  apart = λ none k c has. let e : true ≡ false = none in absurd cc;
  meet = λ yes. record {
    one = j;
    other = i;
    apart = apart;
    word = a;
    writes = stays ws (write_of i a ∷ []) j a (h.some a j is);
    writes_too = last ws i a;
  };
}

pub ruleset words = (word_new, word_again, word_met)

-- 3. Who writes

pub first_writer : (ws : List Write) (i a : ℕ) → IsWriterOf writer.Nobody ws
    → IsWriterOf (writer.One i) (ws ++ write_of i a ∷ [])
first_writer ws i a h = record {
  word = a;
  writes = last ws i a;
  alone = λ k c has. elim (before ws i a k c has) [
    | inl older ↦ absurd (h k c older)
    | inr newer ↦ sym newer.0
  ];
}

pub same_writer : (ws : List Write) (j i a : ℕ) → IsWriterOf (writer.One j) ws → j ≡ i
    → IsWriterOf (writer.One j) (ws ++ write_of i a ∷ [])
same_writer ws j i a h same = record {
  word = h.word;
  writes = stays ws (write_of i a ∷ []) j h.word h.writes;
  alone = λ k c has. elim (before ws i a k c has) [
    | inl older ↦ h.alone k c older
    | inr newer ↦ sym newer.0 ∙ sym same
  ];
}

pub other_writer : (ws : List Write) (j i a : ℕ) → IsWriterOf (writer.One j) ws → j ≢ i
    → IsWriterOf writer.Several (ws ++ write_of i a ∷ [])
other_writer ws j i a h apart = record {
  one = j;
  other = i;
  apart = apart;
  first = h.word;
  second = a;
  writes = stays ws (write_of i a ∷ []) j h.word h.writes;
  writes_too = last ws i a;
}

pub more_writers : (ws : List Write) (i a : ℕ) → IsWriterOf writer.Several ws
    → IsWriterOf writer.Several (ws ++ write_of i a ∷ [])
more_writers ws i a h = record {
  one = h.one;
  other = h.other;
  apart = h.apart;
  first = h.first;
  second = h.second;
  writes = stays ws (write_of i a ∷ []) h.one h.first h.writes;
  writes_too = stays ws (write_of i a ∷ []) h.other h.second h.writes_too;
}

pub ruleset writers = (first_writer, same_writer, other_writer, more_writers)

-- 4. What is kept, and the writes

any_of : (p : Write → Bool) (ws : List Write) (i a : ℕ) → Writes ws i a → p (write_of i a) ≡ true → list_any p ws ≡ true
any_of p [] i a h is = absurd h
any_of p (w ∷ ws) i a (inl here) is =
    ap (λ b. b || list_any p ws) ((λ t. p (record { node = here.0 t; word = here.1 t })) ∙ is)
any_of p (w ∷ ws) i a (inr there) is = ap (λ b. p w || b) (any_of p ws i a there is) ∙ either (p w)
  where
    either : (b : Bool) → (b || true) ≡ true
    either true = refl
    either false = refl

none_of : (p : Write → Bool) (ws : List Write) → ((i a : ℕ) → Writes ws i a → p (write_of i a) ≡ false)
    → list_any p ws ≡ false
none_of p [] h = refl
none_of p (w ∷ ws) h =
    ap (λ b. b || list_any p ws) (h w.node w.word (inl (refl, refl)))
    ∙ none_of p ws (λ i a has. h i a (inr has))

all_of : (p : Write → Bool) (ws : List Write) → ((i a : ℕ) → Writes ws i a → p (write_of i a) ≡ true)
    → list_all p ws ≡ true
all_of p [] h = refl
all_of p (w ∷ ws) h =
    ap (λ b. b && list_all p ws) (h w.node w.word (inl (refl, refl)))
    ∙ all_of p ws (λ i a has. h i a (inr has))

not_all_of : (p : Write → Bool) (ws : List Write) (i a : ℕ) → Writes ws i a → p (write_of i a) ≡ false
    → list_all p ws ≡ false
not_all_of p [] i a h is = absurd h
not_all_of p (w ∷ ws) i a (inl here) is =
    ap (λ b. b && list_all p ws) ((λ t. p (record { node = here.0 t; word = here.1 t })) ∙ is)
not_all_of p (w ∷ ws) i a (inr there) is =
    ap (λ b. p w && b) (not_all_of p ws i a there is) ∙ either (p w)
  where
    either : (b : Bool) → (b && false) ≡ false
    either true = refl
    either false = refl

differ : (i k : ℕ) → i ≢ k → not (eqb i k) ≡ true
differ i k apart = ap not (ne_eqb i k apart)

alike : (i k : ℕ) → i ≡ k → not (eqb i k) ≡ false
alike i k same = ap not (eq-eqb i k same)

several_by : (ws : List Write) → AreOfTwo ws → are_of_several ws ≡ true
several_by ws h =
    any_of (λ v. list_any (λ w. not (eqb v.node w.node)) ws) ws h.one h.first h.writes
    (any_of (λ w. not (eqb h.one w.node)) ws h.other h.second h.writes_too (differ h.one h.other h.apart))

not_several_by : (ws : List Write) (i : ℕ) → ((k a : ℕ) → Writes ws k a → k ≡ i) → are_of_several ws ≡ false
not_several_by ws i alone =
    none_of (λ v. list_any (λ w. not (eqb v.node w.node)) ws) ws
    (λ k a has. none_of (λ w. not (eqb k w.node)) ws
    (λ m c too. alike k m (alone k a has ∙ sym (alone m c too))))

several_as : (who : Writer) (ws : List Write) → IsWriterOf who ws → is_several who ≡ are_of_several ws
several_as writer.Nobody ws h = sym (not_several_by ws 0 (λ k a has. absurd (h k a has)))
several_as (writer.One i) ws h = sym (not_several_by ws i h.alone)
several_as writer.Several ws h = sym (several_by ws h)

agree : (b : Bool) (i k : ℕ) → (b ≡ true → i ≡ k) → (not b || eqb i k) ≡ true
agree true i k h = eq-eqb i k (h refl)
agree false i k h = refl

apart_as : (s : WrittenWords) (meet : Bool) (ws : List Write) → s.meet ≡ meet → AreWordsOf s ws → not meet ≡ are_apart ws
apart_as s true ws is h =
    let m = h.meet is in
    sym (not_all_of (λ v. list_all (λ w. not (eqb v.word w.word) || eqb v.node w.node) ws) ws m.one m.word m.writes
    (not_all_of (λ w. not (eqb m.word w.word) || eqb m.one w.node) ws m.other m.word m.writes_too
    (ap (λ b. not b || eqb m.one m.other) (eq-eqb m.word m.word refl) ∙ ne_eqb m.one m.other m.apart)))
apart_as s false ws is h =
    sym (all_of (λ v. list_all (λ w. not (eqb v.word w.word) || eqb v.node w.node) ws) ws
    (λ i a has. all_of (λ w. not (eqb a w.word) || eqb i w.node) ws
    (λ k c too. agree (eqb a c) i k (λ same.
    same_some (get nat_cmp s.first c) i k
    (ap (get nat_cmp s.first) (sym (eqb-true a c same)) ∙ h.apart is i a has) (h.apart is k c too)))))

-- it is kept whether the block is falsely shared
pub says_as : (s : Writers) (ws : List Write) → AreWritersOf s ws
    → says_shared s ≡ (are_of_several ws && are_apart ws)
says_as s ws h = λ t. several_as s.who ws h.who t && apart_as s.words s.words.meet ws refl h.words t

-- 5. Blocks

pub found_shared : (ss : List Writers) (b : ℕ) (d : Writers) → b < length ss
    → says_shared (slice_index_or ss b d) ≡ shared_in ss b
found_shared [] b d low = absurd (omega (arith, low))
found_shared (s ∷ ss) zero d low = refl
found_shared (s ∷ ss) (suc b) d low = found_shared ss b d (omega (arith, low))

pub kept_shared : (ss : List Writers) (b : ℕ) (ws : List Write) → b < length ss
    → ((d : Writers) → AreWritersOf (slice_index_or ss b d) ws) → shared_in ss b ≡ (are_of_several ws && are_apart ws)
kept_shared [] b ws low h = absurd (omega (arith, low))
kept_shared (s ∷ ss) zero ws low h = says_as s ws (h s)
kept_shared (s ∷ ss) (suc b) ws low h = kept_shared ss b ws (omega (arith, low)) h

-- so many blocks that nobody has written
pub record AreUnwritten (blocks : List Writers) (count : ℕ) : Type 0 where
  pub many : length blocks ≡ count
  pub none : AreSharedBy blocks (λ b. [])

pub unwritten_more : (blocks : List Writers) (count : ℕ) (s : Writers) → AreUnwritten blocks count → AreWritersOf s []
    → AreUnwritten (blocks ++ s ∷ []) (count + 1)
unwritten_more blocks count s h new =
    let more = length-append blocks (s ∷ []) in
    record {
      many = omega (arith, more, h.many);
      none = λ b d within. elim (eqb_tells b (length blocks)) [
        | inl same ↦ subst (λ x. AreWritersOf x [])
            (sym (ap (λ k. slice_index_or (blocks ++ s ∷ []) k d) same.1 ∙ get_or-append_seam blocks s [] d)) new
        | inr apart ↦
            let before : b < length blocks = omega (arith, within, more, apart.1) in
            subst (λ x. AreWritersOf x []) (sym (get_or_append_left blocks (s ∷ []) d b before)) (h.none b d before)
      ];
    }

-- an access that doesn't write leaves the writes
pub accessed : (writes : ℕ → List Write) (i b : ℕ) (access : Option Accessed)
    → writes_with writes i access b ≡ writes b ++ option_map_or (written_at b i) access []
accessed writes i b None = sym (append-nil (writes b))
accessed writes i b (Some x) = by (writes_in b x)
  where
    by : (t : Bool) → cond t (writes b ++ cond t (write_of i (x.address / 4) ∷ []) []) (writes b)
        ≡ writes b ++ cond t (write_of i (x.address / 4) ∷ []) []
    by true = refl
    by false = sym (append-nil (writes b))

pub writes_more : (b : ℕ) (xs : List Traced) (x : Traced)
    → writes_of b (xs ++ x ∷ []) ≡ writes_of b xs ++ written_by b x.node x.what
writes_more b [] x = append-nil (written_by b x.node x.what)
writes_more b (y ∷ ys) x = ap (λ r. written_by b y.node y.what ++ r) (writes_more b ys x)
    ∙ sym (append_assoc (written_by b y.node y.what) (writes_of b ys) (written_by b x.node x.what))
