-- Words of an image, one after another, whatever body a node has between them.
use Rattle.std.proofs.lemmas.Option.{slice_get_within}
use Rattle.std.proofs.Common.{◌≡◌, ◌≢◌, ℕ, zero, suc, ◌+◌, ◌<◌, ◌≤◌, Bool, true, List, [], ◌∷◌, ◌++◌, length, Option, Some, None, sym, ap, ◌∙◌, subst, arith}
use Rattle.node_memory.specs.exec_map.Contents.{program_of}
use Rattle.rv32_program.specs.Program.{Program}
use Rattle.node_memory.specs.rv32_step.declared.Demand.{Demand}
use Rattle.node_memory.specs.rv32_step.declared.Demand.TheVariants.{Continues, Jumps}
use Rattle.node_memory.specs.micro_op.declared.micro_op.MicroOp.{MicroOp}
use Rattle.node_memory.specs.micro_op.declared.MicroKind.{MicroKind}
use Rattle.node_memory.specs.micro_op.declared.MicroKind.TheVariants.{Slow}
use Rattle.node_memory.specs.micro_op.Micro.{Meaning, Unserved, Demands, Enters, EntersAt, Meets, meaning_by, meaning_of}
use Rattle.node_memory.specs.runtime_words.declared.RtWord.{RtWord}
use Rattle.node_memory.specs.runtime_words.declared.RtWord.TheVariants.{Native, Poll, Xjalr, Far}
use Rattle.node_memory.specs.templates.declared.places.Place.{Place}
use Rattle.node_memory.specs.jump_map.declared.image.ImageWord.{ImageWord}
use Rattle.node_memory.specs.jump_map.Image.{Cell, address_of_word, image_base, most_words, read_cell}
use Rattle.node_memory.specs.jump_map.Maps.{fetch}
use Rattle.node_memory.specs.jump_map.Micro.{AreMicrosOf, IsMicroAnswer, IsMicroAt, IsMicroWord}
use Rattle.node_memory.specs.jump_map.Strides.{StandsAt}
use Rattle.node_memory.specs.node_model.Node.{ProcessorState, NodeMemory, Node, Work, WordOutcome, Running, Want, Nothing_counted, can_execute, counts_after, execute_at, execute_read, lane_after, native, next_outcome, phase_after, place_address, printed_also, stop_at, word_outcome}
use Rattle.node_memory.specs.node_model.Turns.{Turn, after_word, after_wants, each_block_once, is_ended, silent, want_all, wants_of, with_byes, word_turn}
use Rattle.node_words.specs.declared.exec_state.ExecState.{ExecState}
use Rattle.node_words.specs.Address.{word_address}
use Rattle.node_words.specs.GoingOn.{phase_on}
use Rattle.node_words.specs.Runs.{AreWordsOf, GoesOnBy, LooksAtMost, numbers_from, reads_other}
use Rattle.node_words.proofs.StepLemmas.{far_is, fetch_word}
use Rattle.node_words.proofs.WordLemmas.{runs_on, still_may}

-- a program's image, and its micro-ops
pub record Code : Type 0 where
  pub program : Program
  pub image : List Cell
  pub micros : List MicroOp
  pub few : length image ≤ most_words
  pub are : AreMicrosOf image micros

-- those of a body
abbrev pub code_of : ExecState → (image : List Cell) (micros : List MicroOp) → length image ≤ most_words
    → AreMicrosOf image micros → Code
code_of b image micros few are = record {
  program = program_of b.local.program;
  image = image;
  micros = micros;
  few = few;
  are = are;
}

-- a node with this processor and what its words see, after so many words that go on
abbrev pub node_with : Node → ProcessorState → NodeMemory → (words : ℕ) → Node
node_with n l m words = record n {
  lane = l;
  local = m;
  executed = n.executed + words;
  stamp = n.stamp + words;
  phase = phase_on n.phase words;
}

-- so many words, those from a number on, lead a processor, and what they see, to others; of one it may
-- be told that it reads something other than the flag word
pub record ReachesTold (told : Option ℕ) (c : Code) (i k : ℕ) (l : ProcessorState) (m : NodeMemory)
    (l' : ProcessorState) (m' : NodeMemory) : Type 0 where
  pub goes : (work : Work) (n : Node) (words : ℕ) → work.program ≡ c.program
      → work.image ≡ c.image → can_execute n.phase ≡ true → n.executed + words + k < work.budget
      → GoesOnBy work k (node_with n l m words) (node_with n l' m' (words + k))
  pub words : (work : Work) (n : Node) (words : ℕ) (looks : ℕ → Bool) → work.program ≡ c.program
      → work.image ≡ c.image → can_execute n.phase ≡ true → n.executed + words + k < work.budget
      → LooksAtMost looks told i k → AreWordsOf work looks (numbers_from i k) (node_with n l m words)

-- and none is told of
abbrev pub Reaches : Code → (i k : ℕ) → ProcessorState → NodeMemory → ProcessorState → NodeMemory → Type 0
Reaches c i k l m l' m' = ReachesTold None c i k l m l' m'

-- words from one number on, and then those from another on
pub record Crosses (told : Option ℕ) (c : Code) (i p j q : ℕ) (l : ProcessorState) (m : NodeMemory)
    (l' : ProcessorState) (m' : NodeMemory) : Type 0 where
  pub lane : ProcessorState
  pub memory : NodeMemory
  pub first : ReachesTold told c i p l m lane memory
  pub second : ReachesTold told c j q lane memory l' m'

-- a word that prints, counts and wants nothing leads to these
pub record Moves (image : List Cell) (o : WordOutcome) (l : ProcessorState) (m : NodeMemory) : Type 0 where
  pub lane : l ≡ lane_after image o.lane o.move
  pub local : m ≡ o.local
  pub output : o.printed ≡ None
  pub tally : o.tally ≡ Nothing_counted
  pub phase : (budget executed : ℕ) → phase_after budget executed o.move ≡ stop_at budget executed
  pub wants : wants_of o.move ≡ []

-- words one after another

pub goes_on_both : (work : Work) (j k t : ℕ) (n m q : Node) → j + k ≡ t → GoesOnBy work j n m → GoesOnBy work k m q
    → GoesOnBy work t n q
goes_on_both work zero k t n m q sum one two =
    let same : k ≡ t = omega (arith, sum) in
    subst (λ (x : ℕ). GoesOnBy work x n q) same (subst (λ (x : Node). GoesOnBy work k x q) (sym one) two)
goes_on_both work (suc j) k zero n m q sum one two = absurd (omega (arith, sum))
goes_on_both work (suc j) k (suc t) n m q sum one two =
    (one.0, one.1, goes_on_both work j k t (word_turn work n).node m q (omega (arith, sum)) one.2 two)

-- the numbers of words, and of others behind them
pub are_then : (work : Work) (looks : ℕ → Bool) (p i : ℕ) (ks : List ℕ) (n m : Node) → GoesOnBy work p n m
    → AreWordsOf work looks (numbers_from i p) n → AreWordsOf work looks ks m
    → AreWordsOf work looks (numbers_from i p ++ ks) n
are_then work looks zero i ks n m on one two = subst (λ (x : Node). AreWordsOf work looks ks x) (sym on) two
are_then work looks (suc p) i ks n m on one two =
    (one.0, are_then work looks p (i + 1) ks (word_turn work n).node m on.2 one.1 two)

pub numbers_both : (i j k s : ℕ) → j + k ≡ s → numbers_from i j ++ numbers_from (i + j) k ≡ numbers_from i s
numbers_both i zero k s sum =
    let here : i + 0 ≡ i = omega arith in
    let count : k ≡ s = omega (arith, sum) in
    λ t. numbers_from (here t) (count t)
numbers_both i (suc j) k zero sum = absurd (omega (arith, sum))
numbers_both i (suc j) k (suc s) sum =
    let here : i + suc j ≡ i + 1 + j = omega arith in
    ap (λ (x : ℕ). i ∷ (numbers_from (i + 1) j ++ numbers_from x k)) here
    ∙ ap (λ (xs : List ℕ). i ∷ xs) (numbers_both (i + 1) j k s (omega (arith, sum)))

pub are_both : (work : Work) (looks : ℕ → Bool) (j k s i i' : ℕ) (n m : Node) → j + k ≡ s → i' ≡ i + j
    → GoesOnBy work j n m → AreWordsOf work looks (numbers_from i j) n → AreWordsOf work looks (numbers_from i' k) m
    → AreWordsOf work looks (numbers_from i s) n
are_both work looks j k s i i' n m sum next on one two =
    subst (λ (ks : List ℕ). AreWordsOf work looks ks n) (numbers_both i j k s sum)
    (subst (λ (x : ℕ). AreWordsOf work looks (numbers_from i j ++ numbers_from x k) n) next
    (are_then work looks j i (numbers_from i' k) n m on one two))

pub reaches_both : {told : Option ℕ} {c : Code} {i i' : ℕ} {l l1 l2 : ProcessorState} {m m1 m2 : NodeMemory} (j k s : ℕ)
    → j + k ≡ s → i' ≡ i + j → ReachesTold told c i j l m l1 m1 → ReachesTold told c i' k l1 m1 l2 m2
    → ReachesTold told c i s l m l2 m2
reaches_both {told} {c} {i} {i'} {l} {l1} {l2} {m} {m1} {m2} j k s sum next one two = record {
  goes = λ work n words program image may room.
      let behind : words + j + k ≡ words + s = omega (arith, sum) in
      goes_on_both work j k s (node_with n l m words) (node_with n l1 m1 (words + j)) (node_with n l2 m2 (words + s)) sum
      (one.goes work n words program image may (omega (arith, sum, room)))
      (subst (λ (x : ℕ). GoesOnBy work k (node_with n l1 m1 (words + j)) (node_with n l2 m2 x)) behind
      (two.goes work n (words + j) program image may (omega (arith, sum, room))));
  words = λ work n words looks program image may room look.
      are_both work looks j k s i i' (node_with n l m words) (node_with n l1 m1 (words + j)) sum next
      (one.goes work n words program image may (omega (arith, sum, room)))
      (one.words work n words looks program image may (omega (arith, sum, room))
      (λ x low high. look x low (omega (arith, high, sum))))
      (two.words work n (words + j) looks program image may (omega (arith, sum, room))
      (λ x low high. look x (omega (arith, low, next)) (omega (arith, high, next, sum))));
}

-- no words
pub reaches_none : (told : Option ℕ) (c : Code) (i : ℕ) (l : ProcessorState) (m : NodeMemory) → ReachesTold told c i 0 l m l m
reaches_none told c i l m = record {
  goes = λ work n words program image may room.
      let same : words ≡ words + 0 = omega arith in λ t. node_with n l m (same t);
  words = λ work n words looks program image may room look. tt;
}

-- words that are told of where one of others is
pub reaches_told : (r : ℕ) (c : Code) (i k : ℕ) (l : ProcessorState) (m : NodeMemory) (l' : ProcessorState)
    (m' : NodeMemory) → ((x : ℕ) → i ≤ x → x < i + k → x ≢ r) → Reaches c i k l m l' m'
    → ReachesTold (Some r) c i k l m l' m'
reaches_told r c i k l m l' m' apart leads = record {
  goes = leads.goes;
  words = λ work n words looks program image may room look.
      leads.words work n words looks program image may room
      (λ x low high is. absurd (apart x low high (same_some r x (look x low high is))));
}
  where
    same_some : (a b : ℕ) → Some a ≡ Some b → b ≡ a
    same_some a b is = cc

-- one
reaches_one : (told : Option ℕ) (c : Code) (i : ℕ) (l : ProcessorState) (m : NodeMemory) (l' : ProcessorState)
    (m' : NodeMemory) (o : WordOutcome) → next_outcome c.program c.image l m ≡ o → Moves c.image o l' m'
    → l.at ≡ address_of_word i → i < length c.image → (told ≡ Some i → reads_other o ≡ true)
    → ReachesTold told c i 1 l m l' m'
reaches_one told c i l m l' m' o is moves at within reads = record {
  goes = λ work n words program image may room.
      let here = node_with n l m words in
      let whole : o ≡ word_outcome work here =
      sym is ∙ (λ t. next_outcome (sym program t) (sym image t) l m) in
      let f : Moves work.image (word_outcome work here) l' m' =
      subst (λ (i : List Cell). Moves i (word_outcome work here) l' m') (sym image)
      (subst (λ (x : WordOutcome). Moves c.image x l' m') whole moves) in
      let apart : n.executed + words + 1 ≢ work.budget = λ e. omega (arith, e, room) in
      let runs = runs_on work.budget (n.executed + words + 1) apart in
      let executed : n.executed + words + 1 ≡ n.executed + (words + 1) = omega arith in
      let stamp : n.stamp + words + 1 ≡ n.stamp + (words + 1) = omega arith in
      let next : phase_on n.phase (words + 1) ≡ Running = ap (phase_on n.phase) (one_more words) in
      let wants : after_wants work here ≡ after_word work here =
      ap (λ (ws : List Want). want_all work.layout (after_word work here) (each_block_once work.layout ws)) f.wants in
      let ended : is_ended (after_word work here).node.phase ≡ is_ended Running =
      ap is_ended (f.phase work.budget (n.executed + words + 1) ∙ runs) in
      let word : after_word work here ≡ silent (node_with n l' m' (words + 1)) = λ t. record {
        node = record n {
          lane = sym f.lane t;
          local = sym f.local t;
          executed = executed t;
          phase = (f.phase work.budget (n.executed + words + 1) ∙ runs ∙ sym next) t;
          stamp = stamp t;
          output = printed_also n.output (n.stamp + words + 1) (f.output t);
          counts = counts_after (f.tally t) n.counts;
        };
        sends = [];
        printed = f.output t;
      } in
      let turn : word_turn work here ≡ silent (node_with n l' m' (words + 1)) =
      ap (λ (t : Turn). with_byes work.layout.nodes t (is_ended t.node.phase)) wants
      ∙ ap (with_byes work.layout.nodes (after_word work here)) ended ∙ word in
      let node = ap (λ (t : Turn). t.node) turn in
      (still_may n.phase words may, turn ∙ ap silent (sym node), node);
  words = λ work n words looks program image may room look.
      let here = node_with n l m words in
      let whole : o ≡ word_outcome work here =
      sym is ∙ (λ t. next_outcome (sym program t) (sym image t) l m) in (
        record {
          at = at;
          within = subst (λ (cells : List Cell). i < length cells) (sym image) within;
          other = λ says. ap reads_other (sym whole) ∙ reads (look i (omega arith) (omega arith) says);
        },
        tt,
      );
}
  where
    one_more : (k : ℕ) → k + 1 ≡ suc k
    one_more k = omega arith

-- the micro-op of a number is that of the image's word
pub stands_in : (c : Code) (k : ℕ) (op : MicroOp) → StandsAt c.micros k op → IsMicroAt c.image k op
stands_in c k op stands = subst (λ (o : Option MicroOp). IsMicroAnswer c.image k o) stands (c.are k)

-- what a word does is what its micro-op demands

demanded : (m : Meaning) (d e : Demand) → Meets m d → m ≡ Demands e → e ≡ d
demanded Unserved d e meets is = absurd (cc)
demanded (Demands x) d e meets is = sym (demand is) ∙ meets
  where
    demand : Demands x ≡ Demands e → x ≡ e
    demand same = cc
demanded (Enters original) d e meets is = absurd meets

enters_none : (m : Meaning) (rd original : ℕ) (e : Demand) → EntersAt m rd original → m ≡ Demands e → ⊥
enters_none Unserved rd original e enters is = cc
enters_none (Demands x) rd original e enters is = enters
enters_none (Enters target) rd original e enters is = cc

slow_none : (op : MicroOp) (f : ℕ → ℕ) (e : Demand) → op.kind ≡ Slow → meaning_of image_base op f ≡ Demands e → ⊥
slow_none op f e slow is =
    let none : Unserved ≡ Demands e = sym (ap (λ (q : MicroKind). meaning_by q image_base op f) slow) ∙ is in cc

read_is : (program : Program) (word : Option RtWord) (place : Option Place) (op : MicroOp) (k : ℕ) (l : ProcessorState)
    (m : NodeMemory) (d : Demand) → IsMicroWord l.at word op → meaning_of image_base op l.registers ≡ Demands d
    → execute_read program place word l m ≡ native program (place_address place) l.at l m d
read_is program None place op k l m d is means = absurd (slow_none op l.registers d is means)
read_is program (Some (Native i)) place op k l m d is means =
    ap (native program (place_address place) l.at l m) (sym (demanded _ _ d (is.meets l.registers) means))
read_is program (Some Poll) place op k l m d is means =
    ap (native program (place_address place) l.at l m) (sym (demanded _ Continues d (is l.registers) means))
read_is program (Some (Xjalr rd rs1 imm)) place op k l m d is means =
    absurd (enters_none _ _ _ d (is.enters l.registers) means)
read_is program (Some (Far number)) place op k l m d is means =
    sym (far_is program (place_address place) l.at l m number)
    ∙ ap (native program (place_address place) l.at l m) (sym (demanded _ (Jumps 0 (address_of_word number)) d (is l.registers) means))
read_is program (Some w) place op k l m d is means = absurd (slow_none op l.registers d is means)

pub outcome_at : (program : Program) (image : List Cell) (k : ℕ) (op : MicroOp) (l : ProcessorState) (m : NodeMemory)
    (d : Demand) → length image ≤ most_words → IsMicroAt image k op → l.at ≡ word_address k
    → meaning_of image_base op l.registers ≡ Demands d
    → (place : ℕ) × (next_outcome program image l m ≡ native program place l.at l m d)
outcome_at program image k op l m d few is here means =
    let below = slice_get_within image k is.cell is.there in
    let new : address_of_word k ≡ word_address k = omega (arith, below, few) in
    let micro : IsMicroWord l.at (read_cell is.cell).what op =
    subst (λ (x : ℕ). IsMicroWord x (read_cell is.cell).what op) (new ∙ sym here) is.micro in
    let fetched : fetch image l.at ≡ Some (read_cell is.cell) =
    ap (fetch image) here ∙ fetch_word image k is.cell few is.there in (
      place_address is.cell.place,
      ap (λ (f : Option ImageWord). execute_at program f l m) fetched
          ∙ read_is program (read_cell is.cell).what is.cell.place op k l m d micro means,
    )

outcome_is : (c : Code) (k : ℕ) (op : MicroOp) (l : ProcessorState) (m : NodeMemory) (d : Demand)
    → StandsAt c.micros k op → l.at ≡ word_address k → meaning_of image_base op l.registers ≡ Demands d
    → (place : ℕ) × (next_outcome c.program c.image l m ≡ native c.program place l.at l m d)
outcome_is c k op l m d stands here means =
    outcome_at c.program c.image k op l m d c.few (stands_in c k op stands) here means

-- a word that a micro-op of the code demands

number_at : (c : Code) (k : ℕ) (op : MicroOp) → StandsAt c.micros k op
    → (k < length c.image) × (word_address k ≡ address_of_word k)
number_at c k op stands =
    let is = stands_in c k op stands in
    let below = slice_get_within c.image k is.cell is.there in
    let few = c.few in
    (below, omega (arith, below, few))

told_none : (k : ℕ) (o : WordOutcome) → None ≡ Some k → reads_other o ≡ true
told_none k o is = absurd (cc)

pub reaches_by : (c : Code) (k : ℕ) (op : MicroOp) (l : ProcessorState) (m : NodeMemory) (l' : ProcessorState)
    (m' : NodeMemory) (d : Demand) → StandsAt c.micros k op → l.at ≡ word_address k
    → meaning_of image_base op l.registers ≡ Demands d
    → ((place : ℕ) → Moves c.image (native c.program place l.at l m d) l' m') → Reaches c k 1 l m l' m'
reaches_by c k op l m l' m' d stands here means moves =
    let is = outcome_is c k op l m d stands here means in
    let number = number_at c k op stands in
    let o = native c.program is.0 l.at l m d in
    reaches_one None c k l m l' m' o is.1 (moves is.0) (here ∙ number.1) number.0 (told_none k o)

-- and one that is told of
pub reaches_telling : (c : Code) (k : ℕ) (op : MicroOp) (l : ProcessorState) (m : NodeMemory) (l' : ProcessorState)
    (m' : NodeMemory) (d : Demand) → StandsAt c.micros k op → l.at ≡ word_address k
    → meaning_of image_base op l.registers ≡ Demands d
    → ((place : ℕ) → Moves c.image (native c.program place l.at l m d) l' m')
    → ((place : ℕ) → reads_other (native c.program place l.at l m d) ≡ true) → ReachesTold (Some k) c k 1 l m l' m'
reaches_telling c k op l m l' m' d stands here means moves reads =
    let is = outcome_is c k op l m d stands here means in
    let number = number_at c k op stands in
    reaches_one (Some k) c k l m l' m' (native c.program is.0 l.at l m d) is.1 (moves is.0) (here ∙ number.1) number.0
    (λ _. reads is.0)
