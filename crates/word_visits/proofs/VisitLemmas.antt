-- Words that count, one after another.
use Rattle.std.proofs.Common.{◌≡◌, ◌≢◌, ℕ, zero, suc, ◌+◌, ◌<◌, ◌≤◌, Bool, true, List, [], ◌∷◌, ◌++◌, length, refl, sym, ap, ◌∙◌, subst, arith}
use Rattle.std.proofs.lemmas.List.{length-set}
use Rattle.rv32_decode.specs.declared.LoadKind.TheVariants.{Word as WordLoad}
use Rattle.node_words.specs.rv32_step.Registers.{registers_of}
use Rattle.node_words.specs.rv32_step.declared.Demand.TheVariants.{Loads}
use Rattle.node_words.specs.exec_map.Contents.{program_of}
use Rattle.node_words.specs.micro_op.declared.micro_op.MicroOp.{MicroOp}
use Rattle.node_words.specs.micro_op.declared.MicroKind.{MicroKind}
use Rattle.node_words.specs.micro_op.declared.MicroKind.TheVariants.{LoadWord}
use Rattle.node_words.specs.micro_op.Micro.{Demands, meaning_by, meaning_of, sum_address}
use Rattle.node_words.specs.jump_map.Image.{Cell, address_of_word, image_base, most_words, number_of_word}
use Rattle.node_words.specs.jump_map.Micro.{IsMicroAt}
use Rattle.node_words.specs.node_model.Node.{Running, Node, Work, can_execute, next_outcome}
use Rattle.node_words.specs.node_model.Turns.{word_turn}
use Rattle.node_words.specs.node_memory.Shelf.{Ground, ground_of, local_of}
use Rattle.node_words.specs.declared.exec_state.ExecState.{ExecState}
use Rattle.node_words.specs.Address.{word_address}
use Rattle.node_words.specs.GoingOn.{BodyGoesOn, BodyTells, node_on}
use Rattle.node_words.specs.Kept.{lane_of}
use Rattle.node_words.specs.Runs.{AreWordsOf, GoesOnBy, numbers_from, reads_other}
use Rattle.node_words.specs.Strides.{Gives}
use Rattle.word_visits.specs.Counting.{BodyIsCounted}
use Rattle.word_visits.specs.Visits.{AreCounted, Counts, WordVisits, next_number, visited, visited_all, visits_at}
use Rattle.node_words.proofs.OneWord.{load_reads}
use Rattle.node_words.proofs.ReachLemmas.{outcome_at}

-- 1. Words by their numbers

number_is : (k : ℕ) → number_of_word (address_of_word k) ≡ k
number_is k = omega arith

-- a visit changes neither how many words there are nor which of them look

pub looks_visited : (vs : List WordVisits) (j k : ℕ) → (visits_at (visited k vs) j).looks ≡ (visits_at vs j).looks
looks_visited [] j k = refl
looks_visited (v ∷ vs) zero zero = refl
looks_visited (v ∷ vs) zero (suc k) = refl
looks_visited (v ∷ vs) (suc j) zero = refl
looks_visited (v ∷ vs) (suc j) (suc k) = looks_visited vs j k

pub length_visited : (vs : List WordVisits) (k : ℕ) → length (visited k vs) ≡ length vs
length_visited vs k = length-set vs k (record (visits_at vs k) { times = (visits_at vs k).times + 1 })

-- words of numbers count, one after another
pub words_counted : (work : Work) (ks : List ℕ) (n : Node) (vs : List WordVisits) (looks : ℕ → Bool)
    → ((j : ℕ) → (visits_at vs j).looks ≡ looks j) → length work.image ≤ length vs → AreWordsOf work looks ks n
    → AreCounted work (length ks) n vs (visited_all ks vs)
words_counted work [] n vs looks same long are = refl
words_counted work (k ∷ ks) n vs looks same long are =
    let number : next_number n ≡ k = ap number_of_word are.0.at ∙ number_is k in
    let within = are.0.within in
    let still = length_visited vs k in
    let count : Counts work n vs = record {
      at = are.0.at ∙ ap address_of_word (sym number);
      within = subst (λ (j : ℕ). j < length vs) (sym number) (omega (arith, within, long));
      other = λ says. are.0.other (sym (same k) ∙ ap (λ (j : ℕ). (visits_at vs j).looks) (sym number) ∙ says);
    } in (
      count,
      subst (λ (j : ℕ). AreCounted work (length ks) (word_turn work n).node (visited j vs) (visited_all ks (visited k vs)))
          (sym number)
          (words_counted work ks (word_turn work n).node (visited k vs) looks (λ j. looks_visited vs j k ∙ same j)
          (omega (arith, long, still)) are.1),
    )

-- and others behind them
counted_both : (work : Work) (j k t : ℕ) (n m : Node) (vs ws us : List WordVisits) → j + k ≡ t → GoesOnBy work j n m
    → AreCounted work j n vs ws → AreCounted work k m ws us → AreCounted work t n vs us
counted_both work zero k t n m vs ws us sum on one two =
    let same : k ≡ t = omega (arith, sum) in
    subst (λ (x : ℕ). AreCounted work x n vs us) same
    (subst (λ (x : Node). AreCounted work k x vs us) (sym on)
    (subst (λ (x : List WordVisits). AreCounted work k m x us) (sym one) two))
counted_both work (suc j) k zero n m vs ws us sum on one two = absurd (omega (arith, sum))
counted_both work (suc j) k (suc t) n m vs ws us sum on one two =
    (one.0, counted_both work j k t (word_turn work n).node m (visited (next_number n) vs) ws us (omega (arith, sum)) on.2 one.1 two)

pub visited_append : (ks js : List ℕ) (vs : List WordVisits) → visited_all (ks ++ js) vs ≡ visited_all js (visited_all ks vs)
visited_append [] js vs = refl
visited_append (k ∷ ks) js vs = visited_append ks js (visited k vs)

pub length_numbers : (k n : ℕ) → length (numbers_from k n) ≡ n
length_numbers k zero = refl
length_numbers k (suc n) = let rest = length_numbers (k + 1) n in omega (arith, rest)

pub length_append : (ks js : List ℕ) → length (ks ++ js) ≡ length ks + length js
length_append [] js = omega arith
length_append (k ∷ ks) js = let rest = length_append ks js in omega (arith, rest)

-- 2. Bodies

pub none_counted : (image : List Cell) (most from : ℕ) (b : ExecState) (vs : List WordVisits)
    → BodyIsCounted image most from b 0 vs vs
none_counted image most from b vs = λ work n same program may room. refl

-- words of these numbers are counted after others
pub body_counted : (image : List Cell) (most from words at k t : ℕ) (ks : List ℕ) (b m : ExecState)
    (vs ws : List WordVisits) (looks : ℕ → Bool) → words + k ≡ t → t ≤ most → length ks ≡ k
    → ((j : ℕ) → (visits_at ws j).looks ≡ looks j) → length image ≤ length ws → ground_of m.local ≡ ground_of b.local
    → BodyGoesOn image most from b words at m → BodyIsCounted image most from b words vs ws
    → ((work : Work) (n : Node) (before : ℕ) → work.image ≡ image → work.program ≡ program_of m.local.program
    → can_execute n.phase ≡ true → n.executed + before + k < work.budget → AreWordsOf work looks ks (node_on n m at before))
    → BodyIsCounted image most from b t vs (visited_all ks ws)
body_counted image most from words at k t ks b m vs ws looks sum few count same long ground on are passed =
    λ work n is program may room.
    let here = node_on n m at words in
    let words_are = passed work n words is (program ∙ sym (ap (λ (g : Ground). program_of g.program) ground)) may
    (omega (arith, room, sum, few)) in
    counted_both work words k t (node_on n b from 0) here vs ws (visited_all ks ws) sum (on work n is program may room)
    (are work n is program may room)
    (subst (λ (x : ℕ). AreCounted work x here ws (visited_all ks ws)) count
    (words_counted work ks here ws looks same (subst (λ (cells : List Cell). length cells ≤ length ws) (sym is) long) words_are))

-- words that are counted tell it, where there may be more of them, too
pub counted_tells : (image : List Cell) (few most from words : ℕ) (b : ExecState) (vs ws : List WordVisits) → few ≤ most
    → BodyIsCounted image few from b words vs ws → BodyTells (λ work k n. AreCounted work k n vs ws) image most from b words
counted_tells image few most from words b vs ws less counted = record {
  some = λ work n is program may room. counted work n is program may (omega (arith, less, room));
  none = λ zero work n.
      let here : Work = record work { image = image; program = program_of b.local.program; budget = few + 1 } in
      let runs : Node = record n { phase = Running; executed = 0 } in
      subst (λ (k : ℕ). AreCounted here k (node_on runs b from 0) vs ws) zero (counted here runs refl refl refl (omega arith));
}

-- 3. What a word reads

-- the word of a micro-op that loads a word other than the flag word
pub micro_reads : (image : List Cell) (at v : ℕ) (op : MicroOp) (b : ExecState) → length image ≤ most_words
    → IsMicroAt image at op → op.kind ≡ LoadWord → Gives b WordLoad (sum_address op (registers_of b.lane.registers)) v
    → v ≢ 0xffffff03 → reads_other (next_outcome (program_of b.local.program) image (lane_of b.lane (word_address at))
    (local_of b.local)) ≡ true
micro_reads image at v op b few there is gives unlike =
    let p = program_of b.local.program in
    let l = lane_of b.lane (word_address at) in
    let m = local_of b.local in
    let f = registers_of b.lane.registers in
    let a = sum_address op f in
    let means : meaning_of image_base op f ≡ Demands (Loads WordLoad op.rd a) =
    ap (λ (q : MicroKind). meaning_by q image_base op f) is in
    let word = outcome_at p image at op l m (Loads WordLoad op.rd a) few there refl means in
    ap reads_other word.1
    ∙ load_reads p word.0 (word_address at) op.rd a v l m gives.aligned gives.low (gives.loaded (word_address at)) unlike
