-- Words that read alike are alike.
use Rattle.std.proofs.Common.{◌≡◌, ℕ, ◌+◌, ◌*◌, ◌/◌, ◌%◌, ◌^◌, ◌<◌, eqb, Bool, true, false, cond, Option, Some, None, subst, refl, sym, ap, ◌∙◌, arith}
use Rattle.std.specs.Prelude.{◌&&◌, nat_lt}
use Rattle.std.specs.Option.{option_map}
use Rattle.std.proofs.lemmas.Bool.{eqb-true, ltb-true}
use Rattle.std.proofs.lemmas.Bool.Decides.{nat_tests}
use Rattle.rv32_decode.specs.Fields.{field, imm_i, signed, unsigned}
use Rattle.rv32_decode.specs.Formats.{i_word, r_word}
use Rattle.rv32_decode.specs.Rows.{instruction_of}
use Rattle.rv32_decode.specs.Words.{word_of}
use Rattle.rv32_decode.specs.declared.Instr.{Instr}
use Rattle.rv32_decode.specs.declared.Width.{Width}
use Rattle.rv32_decode.specs.declared.Width.TheVariants.{Byte, Half, Word}
use Rattle.rv32_decode.proofs.Rebuilt.{only_word}
use Rattle.runtime_words.specs.declared.RtWord.{RtWord}
use Rattle.runtime_words.specs.declared.RtWord.TheVariants.{Native, MissR, MissW, Poll, Call, Xjalr, Batch, Prepare, Far, TrapFetch, TrapOff, TrapIllegal, TrapEbreak}
use Rattle.runtime_words.specs.Reading.{read_word, custom_0, custom_1, miss_r_of, miss_w_of, batch_of, prepare_of, far_number, width_of_log}

abbrev log_of : Width → ℕ
log_of Byte = 0
log_of Half = 1
log_of Word = 2

-- the word of what is read
abbrev put_word : RtWord → ℕ
put_word (Native i) = word_of i
put_word (MissR width rs1 imm) = i_word (unsigned 12 imm) rs1 0 (log_of width) 0x0b
put_word (MissW width rs1 imm) = i_word (unsigned 12 imm) rs1 1 (log_of width) 0x0b
put_word Poll = 0x200b
put_word Call = 0x300b
put_word (Xjalr rd rs1 imm) = i_word (unsigned 12 imm) rs1 4 rd 0x0b
put_word (Batch stores rs1 rs2) = r_word 0 rs2 rs1 5 (cond stores 1 0) 0x0b
put_word (Prepare rs1) = r_word 0 0 rs1 6 0 0x0b
put_word (Far k) = k / 32 * 2 ^ 15 + k % 32 * 2 ^ 7 + 0x700b
put_word TrapFetch = 0x2b
put_word TrapOff = 0x102b
put_word TrapIllegal = 0x202b
put_word TrapEbreak = 0x302b

-- a word is that of what it reads as
abbrev IsPut : ℕ → Option RtWord → Type 0
IsPut w None = Unit {0}
IsPut w (Some what) = put_word what ≡ w

either : {A : Type 0} (P : A → Type 0) (b : Bool) (x y : A) → (b ≡ true → P x) → (b ≡ false → P y) → P (cond b x y)
either P true x y f g = f refl
either P false x y f g = g refl

both_true : (a b : Bool) → (a && b) ≡ true → (a ≡ true) × (b ≡ true)
both_true true true h = (refl, refl)
both_true true false h = cc
both_true false b h = cc

imm_back : (n : ℕ) → n < 2 ^ 12 → unsigned 12 (signed 12 n) ≡ n
imm_back n h = grind (arith, nat_tests)

immediate_put : (w f3 d : ℕ) → w < 2 ^ 32 → field w 0 7 ≡ 0x0b → field w 12 3 ≡ f3 → field w 7 5 ≡ d
    → i_word (unsigned 12 (imm_i w)) (field w 15 5) f3 d 0x0b ≡ w
immediate_put w f3 d low e f r = let back = imm_back (field w 20 12) (omega arith) in rw back (omega (arith, low, e, f, r))

-- the logarithm in the place of rd, and what is read of it
width_put : (w d : ℕ) (what : Width → RtWord) → ((x : Width) → d ≡ log_of x → put_word (what x) ≡ w)
    → IsPut w (option_map what (width_of_log d))
width_put w d what h =
    let P : Option Width → Type 0 = λ o. IsPut w (option_map what o) in
    either P (eqb d 0) (Some Byte) _ (λ e. h Byte (eqb-true d 0 e)) (λ a.
    either P (eqb d 1) (Some Half) _ (λ e. h Half (eqb-true d 1 e)) (λ b.
    either P (eqb d 2) (Some Word) None (λ e. h Word (eqb-true d 2 e)) (λ c. record {})))

batch_rd : (w n : ℕ) → n < 2 → field w 7 5 ≡ n → w < 2 ^ 32 → field w 0 7 ≡ 0x0b → field w 12 3 ≡ 5 → field w 25 7 ≡ 0
    → r_word 0 (field w 20 5) (field w 15 5) 5 n 0x0b ≡ w
batch_rd w n few d low e f z = omega (arith, few, d, low, e, f, z)

flag_of : (n : ℕ) → n < 2 → cond (eqb n 1) 1 0 ≡ n
flag_of n few = grind (arith, nat_tests)

batch_put : (w : ℕ) → w < 2 ^ 32 → field w 0 7 ≡ 0x0b → field w 12 3 ≡ 5 → IsPut w (batch_of w)
batch_put w low e f =
    either (IsPut w) (nat_lt (field w 7 5) 2 && eqb (field w 25 7) 0) (Some (Batch (eqb (field w 7 5) 1) (field w 15 5) (field w 20 5))) None
    (λ h. let both = both_true (nat_lt (field w 7 5) 2) (eqb (field w 25 7) 0) h in
    let few : field w 7 5 < 2 = ltb-true _ _ both.0 in
    let zero = eqb-true (field w 25 7) 0 both.1 in
    ap (λ n. r_word 0 (field w 20 5) (field w 15 5) 5 n 0x0b) (flag_of (field w 7 5) few)
    ∙ batch_rd w (field w 7 5) few refl low e f zero)
    (λ h. record {})

prepare_put : (w : ℕ) → w < 2 ^ 32 → field w 0 7 ≡ 0x0b → field w 12 3 ≡ 6 → IsPut w (prepare_of w)
prepare_put w low e f =
    either (IsPut w) (eqb (field w 7 5) 0 && eqb (field w 20 12) 0) (Some (Prepare (field w 15 5))) None
    (λ h. let both = both_true (eqb (field w 7 5) 0) (eqb (field w 20 12) 0) h in
    let rd = eqb-true (field w 7 5) 0 both.0 in
    let imm = eqb-true (field w 20 12) 0 both.1 in
    omega (arith, low, e, f, rd, imm))
    (λ h. record {})

far_put : (w : ℕ) → w < 2 ^ 32 → field w 0 7 ≡ 0x0b → field w 12 3 ≡ 7 → put_word (Far (far_number w)) ≡ w
far_put w low e f = omega (arith, low, e, f)

custom_0_put : (w : ℕ) → w < 2 ^ 32 → field w 0 7 ≡ 0x0b → IsPut w (custom_0 w (field w 12 3))
custom_0_put w low e =
    let f3 = field w 12 3 in
    either (IsPut w) (eqb f3 0) (miss_r_of w) _
    (λ f. width_put w (field w 7 5) (λ x. MissR x (field w 15 5) (imm_i w)) (λ x d. immediate_put w 0 (log_of x) low e (eqb-true f3 0 f) d)) (λ _.
    either (IsPut w) (eqb f3 1) (miss_w_of w) _
    (λ f. width_put w (field w 7 5) (λ x. MissW x (field w 15 5) (imm_i w)) (λ x d. immediate_put w 1 (log_of x) low e (eqb-true f3 1 f) d)) (λ _.
    either (IsPut w) (eqb w 0x200b) (Some Poll) _ (λ h. sym (eqb-true w 0x200b h)) (λ _.
    either (IsPut w) (eqb w 0x300b) (Some Call) _ (λ h. sym (eqb-true w 0x300b h)) (λ _.
    either (IsPut w) (eqb f3 4) (Some (Xjalr (field w 7 5) (field w 15 5) (imm_i w))) _
    (λ f. immediate_put w 4 (field w 7 5) low e (eqb-true f3 4 f) refl) (λ _.
    either (IsPut w) (eqb f3 5) (batch_of w) _ (λ f. batch_put w low e (eqb-true f3 5 f)) (λ _.
    either (IsPut w) (eqb f3 6) (prepare_of w) _ (λ f. prepare_put w low e (eqb-true f3 6 f)) (λ _.
    either (IsPut w) (eqb f3 7) (Some (Far (far_number w))) None (λ f. far_put w low e (eqb-true f3 7 f))
    (λ _. record {}))))))))

custom_1_put : (w : ℕ) → IsPut w (custom_1 w)
custom_1_put w =
    either (IsPut w) (eqb w 0x2b) (Some TrapFetch) _ (λ h. sym (eqb-true w 0x2b h)) (λ _.
    either (IsPut w) (eqb w 0x102b) (Some TrapOff) _ (λ h. sym (eqb-true w 0x102b h)) (λ _.
    either (IsPut w) (eqb w 0x202b) (Some TrapIllegal) _ (λ h. sym (eqb-true w 0x202b h)) (λ _.
    either (IsPut w) (eqb w 0x302b) (Some TrapEbreak) None (λ h. sym (eqb-true w 0x302b h)) (λ _. record {}))))

native_put : (w : ℕ) (o : Option Instr) → w < 2 ^ 32 → instruction_of w ≡ o → IsPut w (option_map Native o)
native_put w None low h = record {}
native_put w (Some i) low h = sym (only_word w i low h)

read_put : (w : ℕ) → w < 2 ^ 32 → IsPut w (read_word w)
unfolding read_word
read_put w low =
    either (IsPut w) (eqb (field w 0 7) 0x0b) (custom_0 w (field w 12 3)) _ (λ e. custom_0_put w low (eqb-true (field w 0 7) 0x0b e)) (λ _.
    either (IsPut w) (eqb (field w 0 7) 0x2b) (custom_1 w) (option_map Native (instruction_of w)) (λ _. custom_1_put w) (λ _. native_put w (instruction_of w) low refl))

put_again : (w : ℕ) (what : RtWord) → w < 2 ^ 32 → read_word w ≡ Some what → put_word what ≡ w
put_again w what low h = subst (IsPut w) h (read_put w low)

-- two words that read alike
pub one_word : (v w : ℕ) (what : RtWord) → v < 2 ^ 32 → w < 2 ^ 32 → read_word v ≡ Some what → read_word w ≡ Some what → w ≡ v
one_word v w what lowv loww hv hw = sym (put_again w what loww hw) ∙ put_again v what lowv hv
