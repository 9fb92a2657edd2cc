-- A replay of the record of a run is that run.
use Rattle.std.proofs.Common.{◌≡◌, ℕ, Bool, List, [], ◌∷◌, length, map, Option, Some, refl, sym, ap, ◌∙◌, subst, arith}
use Rattle.std.specs.Prelude.{All}
use Rattle.std.proofs.lemmas.List.FromFn.{get_or-map-range_with_len}
use Rattle.elf32_read.specs.Elf.{Elf}
use Rattle.exec_map.specs.Contents.{program_of, AreSharedRanges}
use Rattle.block_layout.specs.Layout.{Shape, IsValid}
use Rattle.block_layout.specs.declared.layout.BlockRange.{BlockRange}
use Rattle.block_layout.specs.declared.ranges.Lines.{Lines}
use Rattle.rv32_program.specs.Program.{Program}
use Rattle.rv32_program.specs.declared.End.{End}
use Rattle.templates.specs.declared.plans.PlanEntry.{PlanEntry}
use Rattle.jump_map.specs.Image.{Cell, IsRewriting}
use Rattle.rewriter.specs.Parts.{Parts, IsRewritten}
use Rattle.rewriter.specs.RewrittenFile.{rewritten_elf}
use Rattle.node_model.specs.Node.{Work}
use Rattle.node_model.specs.Core.{Core, Event, IsOver, opening_core, after}
use Rattle.node_model.specs.Outcome.{Outcome}
use Rattle.run_order.specs.OwnRun.{Stamped, StandsForOwnRun, run_of}
use Rattle.rewriting_law.specs.Bounds.{RunsRewritten}
use Rattle.run_record.specs.declared.Record.{Record}
use Rattle.run_record.specs.Record.{IsRecord}
use Rattle.run_record.specs.Telling.{IsOfWords}
use Rattle.run_record.specs.Text.{record_text}
use Rattle.replay.specs.Replay.{TellsWholeRun, HasJournalsOf}
use Rattle.replay.specs.Told.{Told, AreToldBy, what_told}
use Rattle.judged_files.specs.Code.{Choice, Planned, Verified, choice_of, IsRewritingOf}
use Rattle.judged_files.specs.Executables.{ReadsAs}
use Rattle.commands.specs.Headline.{IsOutcomeRecorded, IsTextWith}
use Rattle.prepared_run.specs.WholeRuns.{IsRunOf, IsRunOfCode, IsWholeRun}
use Rattle.judged_files.specs.Inputs.{Inputs}
use Rattle.prepared_run.specs.Outcomes.{status_of, text_of}
use Rattle.prepared_run.specs.Outcomes as outcomes
use Rattle.commands.specs.Records.{record_of}
use Rattle.judged_files.specs.Records.{IsLayoutOfBlocks, IsTextOf}
use Rattle.prepared_run.specs.Replays.{IsOutcomeOfReplay, IsWorkOf}
use Rattle.commands.proofs.BlockWords.{named_words}
use Rattle.commands.proofs.RecordLemmas.{AreShort, TellTakes, is_record}
use Rattle.prepared_run.proofs.RunLemmas.{shape_facts}
use Rattle.commands.proofs.SharedRanges.{HasLines, same_ranges}

-- the laws of short runs, of journals, of the texts of records, of rewriting, and of records
pub record HaveRecordLaws : Type 0 where
  pub short : AreShort
  pub takes : TellTakes
  pub one_record : (r s : Record) → IsRecord r → IsOfWords r → IsRecord s → IsOfWords s
      → record_text r ≡ record_text s → r ≡ s
  pub one_rewriting : (batches : Bool) (program : Program) (one other : Parts)
      → IsRewritten batches program one → IsRewritten batches program other → one ≡ other
  pub one_verified : (original : Elf) (plan other : List PlanEntry) (image again : List Cell)
      → IsRewriting (program_of original) plan image → IsRewriting (program_of original) other again
      → rewritten_elf original image plan ≡ rewritten_elf original again other
      → (plan ≡ other) × (image ≡ again)
  pub one_telling : (r : Record) (told other : List Told) → AreToldBy r told → AreToldBy r other
      → told ≡ other
  pub again : (work : Work) (c : Core) (own : List Stamped) (r : Record) → RunsRewritten work
      → StandsForOwnRun work c own → IsOver work c → HasJournalsOf work c r
      → (told : List Told) × TellsWholeRun work r told × (map what_told told ≡ own)

-- ---- a text is of one record, an executable has one rewriting, and a record's blocks one layout

pub one_text : HaveRecordLaws → (kept other : Record) (text : List ℕ) → IsTextOf kept text
    → IsTextOf other text → kept ≡ other
one_text laws kept other text h k =
    laws.one_record kept other h.is_record h.of_words k.is_record k.of_words
    (sym h.text_is ∙ k.text_is)

pub one_elf : (file : List ℕ) (elf other : Elf) → ReadsAs file elf → ReadsAs file other → elf ≡ other
one_elf file elf other h k = h.1 ∙ sym k.1

abbrev parts_of : List Cell → List PlanEntry → Parts
parts_of image plan = record { image = image; plan = plan }

-- by either choice
one_chosen : HaveRecordLaws → (choice : Choice) (file : List ℕ) (elf : Elf)
    (plan plan' : List PlanEntry) (image image' : List Cell)
    → IsRewritingOf choice file elf plan image → IsRewritingOf choice file elf plan' image'
    → parts_of image plan ≡ parts_of image' plan'
one_chosen laws (Planned batches) file elf plan plan' image image' h k =
    laws.one_rewriting batches (program_of elf) (parts_of image plan) (parts_of image' plan')
    (record { plan = h.chosen; rewriting = h.rewriting })
    (record { plan = k.chosen; rewriting = k.rewriting })
one_chosen laws (Verified verified) file elf plan plan' image image' h k =
    let same = laws.one_verified elf plan plan' image image' h.rewriting k.rewriting
    (one_elf verified (rewritten_elf elf image plan) (rewritten_elf elf image' plan') h.chosen
    k.chosen) in
    ap (λ i. parts_of i plan) same.1 ∙ ap (parts_of image') same.0

one_rewriting : HaveRecordLaws → (choice again : Choice) (file : List ℕ) (elf other : Elf)
    (plan plan' : List PlanEntry) (image image' : List Cell) → choice ≡ again → elf ≡ other
    → IsRewritingOf choice file elf plan image → IsRewritingOf again file other plan' image'
    → parts_of image plan ≡ parts_of image' plan'
one_rewriting laws choice again file elf other plan plan' image image' same is h k =
    one_chosen laws choice file elf plan plan' image image' h
    (subst (λ b. IsRewritingOf b file elf plan' image') (sym same)
    (subst (λ e. IsRewritingOf again file e plan' image') (sym is) k))

pub one_image : HaveRecordLaws → (choice again : Choice) (file : List ℕ) (elf other : Elf)
    (plan plan' : List PlanEntry) (image image' : List Cell) → choice ≡ again → elf ≡ other
    → IsRewritingOf choice file elf plan image → IsRewritingOf again file other plan' image'
    → image ≡ image'
one_image laws choice again file elf other plan plan' image image' same is h k =
    ap (λ (p : Parts). p.image)
    (one_rewriting laws choice again file elf other plan plan' image image' same is h k)

pub one_list : (elf : Elf) (shared others : List Lines) → AreSharedRanges elf shared
    → AreSharedRanges elf others → All HasLines shared → All HasLines others → shared ≡ others
one_list elf shared others h k some more =
    same_ranges shared others some more h.apart k.apart (λ line. h.lines line ∙ sym (k.lines line))

abbrev shape : List Lines → List BlockRange → ℕ → Shape
shape shared named nodes = record { shared = shared; named = named; nodes = nodes }

pub shared_some : (elf : Elf) (kept : Record) (layout : Shape) (h : IsLayoutOfBlocks elf kept layout)
    → IsValid layout → All HasLines h.shared
shared_some elf kept layout h valid =
    subst (λ (s : Shape). All HasLines s.shared) h.layout_is valid.shared.some

one_layout : (elf other : Elf) (kept again : Record) (layout layout' : Shape) → elf ≡ other
    → kept ≡ again → IsLayoutOfBlocks elf kept layout → IsLayoutOfBlocks other again layout'
    → IsValid layout → IsValid layout' → layout ≡ layout'
one_layout elf other kept again layout layout' is same h k valid valid' =
    let shared : h.shared ≡ k.shared =
    one_list elf h.shared k.shared h.lines (subst (λ e. AreSharedRanges e k.shared) (sym is) k.lines)
    (shared_some elf kept layout h valid) (shared_some other again layout' k valid') in
    h.layout_is ∙ ap (λ rs. shape rs kept.blocks kept.nodes) shared
    ∙ ap (λ (r : Record). shape k.shared r.blocks r.nodes) same ∙ sym k.layout_is

-- ---- a record asks for one work, and tells of one outcome

heads : {A : Type 0} (x y : A) (xs ys : List A) → x ∷ xs ≡ y ∷ ys → (x ≡ y) × (xs ≡ ys)
heads x y xs ys e = (cc, cc)

one_end : (e f : End) → Some e ≡ Some f → e ≡ f
one_end e f h = cc

ends_once : (es fs : List End) → map (λ e. Some e) es ≡ map (λ e. Some e) fs → es ≡ fs
ends_once [] [] h = refl
ends_once [] (f ∷ fs) h = absurd (cc)
ends_once (e ∷ es) [] h = absurd (cc)
ends_once (e ∷ es) (f ∷ fs) h =
    let parts = heads {A = Option End} (Some e) (Some f) (map (λ x. Some x) es)
    (map (λ x. Some x) fs) h in
    ap (λ x. x ∷ es) (one_end e f parts.0) ∙ ap (λ xs. f ∷ xs) (ends_once es fs parts.1)

one_outcome_of : (work : Work) (plan : List PlanEntry) (events : List Event) (o other : Outcome)
    → IsWholeRun work plan events o → IsWholeRun work plan events other → o ≡ other
one_outcome_of work plan events o other h k =
    let output : o.output ≡ other.output = h.output ∙ sym k.output in
    let ends : o.ends ≡ other.ends = ends_once o.ends other.ends (sym h.ends ∙ k.ends) in
    let counts : o.counts ≡ other.counts = h.counts ∙ sym k.counts in
    λ i. record { output = output i; ends = ends i; counts = counts i }

one_outcome_by : (work work' : Work) (plan plan' : List PlanEntry) (events events' : List Event)
    (o other : Outcome) → work ≡ work' → plan ≡ plan' → events ≡ events'
    → IsWholeRun work plan events o → IsWholeRun work' plan' events' other → o ≡ other
one_outcome_by work work' plan plan' events events' o other w p e h k =
    one_outcome_of work plan events o other h (subst (λ x. IsWholeRun x plan events other) (sym w)
    (subst (λ x. IsWholeRun work' x events other) (sym p)
    (subst (λ x. IsWholeRun work' plan' x other) (sym e) k)))

-- what two replays of these files ask for is the same
module _ (laws : HaveRecordLaws) (inputs : Inputs) where
  pub one_work : (kept kept' : Record) (elf elf' : Elf) (plan plan' : List PlanEntry)
      (work work' : Work) → IsWorkOf inputs kept elf plan work
      → IsWorkOf inputs kept' elf' plan' work'
      → (kept ≡ kept') × (elf ≡ elf') × (plan ≡ plan') × (work ≡ work')
  one_work kept kept' elf elf' plan plan' work work' h k =
      let same : kept ≡ kept' = one_text laws kept kept' inputs.text h.text k.text in
      let is : elf ≡ elf' =
      one_elf inputs.executable elf elf' h.rewritten.executable.reads k.rewritten.executable.reads in
      let parts = one_rewriting laws (choice_of kept.batch inputs.verified)
      (choice_of kept'.batch inputs.verified) inputs.executable elf elf' plan plan' work.image
      work'.image (ap (λ (r : Record). choice_of r.batch inputs.verified) same) is h.rewritten
      k.rewritten in
      let layout : work.layout ≡ work'.layout =
      one_layout elf elf' kept kept' work.layout work'.layout is same h.laid_out k.laid_out h.valid
      k.valid in
      let program : work.program ≡ work'.program =
      h.program ∙ ap program_of is ∙ sym k.program in
      let image : work.image ≡ work'.image = ap (λ (p : Parts). p.image) parts in
      let budget : work.budget ≡ work'.budget =
      h.limit ∙ ap (λ (r : Record). r.budget) same ∙ sym k.limit in
      let one : work ≡ work' = λ i. record {
        program = program i;
        image = image i;
        layout = layout i;
        budget = budget i;
      } in
      (same, is, ap (λ (p : Parts). p.plan) parts, one)

  pub one_outcome : (o other : Outcome) → IsOutcomeOfReplay inputs o
      → IsOutcomeOfReplay inputs other → o ≡ other
  one_outcome o other h k =
      let same = one_work h.kept k.kept h.elf k.elf h.plan k.plan h.work k.work h.asked k.asked in
      let told : h.told ≡ k.told = laws.one_telling h.kept h.told k.told h.tells.are_told
      (subst (λ r. AreToldBy r k.told) (sym same.0) k.tells.are_told) in
      one_outcome_by h.work k.work h.plan k.plan (run_of (map what_told h.told))
      (run_of (map what_told k.told)) o other same.3 same.2
      (ap (λ t. run_of (map what_told t)) told) h.of_code.whole k.of_code.whole

-- ---- the record of a run tells of that run

module _ (laws : HaveRecordLaws) (ran : Inputs) (nodes budget : ℕ) (work : Work)
    (own : List Stamped) (o : Outcome) (h : IsRunOf ran nodes budget work own o) where
  abbrev end : Core
  end = after work (opening_core work) (run_of own)

  abbrev kept : Record
  kept = record_of ran.batches work own

  text_kept : IsTextOf kept (record_text kept)
  text_kept = record {
    text_is = refl;
    is_record = is_record ran.batches work end own laws.takes laws.short h.of_code.runs
        h.of_code.stands;
    of_words = named_words ran.layout h.laid_out.shared nodes work.layout h.laid_out.reads;
  }

  laid_out : IsLayoutOfBlocks h.elf kept work.layout
  laid_out = record {
    shared = h.laid_out.shared;
    lines = h.laid_out.lines;
    layout_is = ap (λ rs. shape rs work.layout.named work.layout.nodes)
        (shape_facts ran.layout h.laid_out.shared nodes work.layout h.laid_out.reads).0;
  }

  journals_kept : HasJournalsOf work end kept
  journals_kept = record {
    nodes = refl;
    journals = λ i low.
        get_or-map-range_with_len (λ j. (end.nodes j).journal) 0 work.layout.nodes i i [] low (omega arith);
  }

  one_number : (named : ℕ) → Some (length work.image) ≡ Some named → named ≡ length work.image
  one_number named is = cc

  -- so a replay of files that have it, and the same executable and verified file, has the same
  -- outcome
  pub told_again : (inputs : Inputs) → inputs.executable ≡ ran.executable
      → inputs.verified ≡ ran.verified → inputs.text ≡ record_text kept → IsOutcomeOfReplay inputs o
  told_again inputs executable verified recorded =
      let again = laws.again work end own kept h.of_code.runs h.of_code.stands h.of_code.over
      journals_kept in
      let choice = choice_of ran.batches inputs.verified in
      let code : IsRunOfCode choice inputs.executable h.elf h.plan work (map what_told again.0) o =
      subst (λ f. IsRunOfCode choice f h.elf h.plan work (map what_told again.0) o) (sym executable)
      (subst (λ events. IsRunOfCode choice ran.executable h.elf h.plan work events o) (sym again.2)
      (subst (λ v. IsRunOfCode (choice_of ran.batches v) ran.executable h.elf h.plan work own o)
      (sym verified) h.of_code)) in
      record {
        kept = kept;
        elf = h.elf;
        plan = h.plan;
        work = work;
        asked = record {
          text = subst (IsTextOf kept) (sym recorded) text_kept;
          rewritten = code.rewritten;
          same_code = λ other. other.other (one_number other.named other.code_is);
          program = h.of_code.program;
          laid_out = laid_out;
          valid = h.of_code.runs.valid;
          limit = refl;
        };
        told = again.0;
        tells = again.1;
        of_code = code;
      }

-- ---- what is printed

pub replay_of_run : HaveRecordLaws → (ran inputs : Inputs) (nodes budget : ℕ)
    (held : Option (List ℕ)) (o : Outcome) → held ≡ Some inputs.text
    → inputs.executable ≡ ran.executable → inputs.verified ≡ ran.verified
    → IsOutcomeRecorded ran nodes budget held o → IsOutcomeOfReplay inputs o
replay_of_run laws ran inputs nodes budget held o is executable verified h =
    let recorded : IsOutcomeRecorded ran nodes budget (Some inputs.text) o =
    subst (λ x. IsOutcomeRecorded ran nodes budget x o) is h in
    told_again laws ran nodes budget recorded.work recorded.own o recorded.is_run inputs executable
    verified recorded.is_recorded

pub same_text : HaveRecordLaws → (ran inputs : Inputs) (nodes budget : ℕ)
    (held : Option (List ℕ)) (brief short : Bool) (text again : List ℕ) (status other : ℕ)
    → held ≡ Some inputs.text → inputs.executable ≡ ran.executable
    → inputs.verified ≡ ran.verified → short ≡ brief
    → IsTextWith (IsOutcomeRecorded ran nodes budget held) brief text status
    → IsTextWith (IsOutcomeOfReplay inputs) short again other → (again ≡ text) × (other ≡ status)
same_text laws ran inputs nodes budget held brief short text again status other is executable verified flag h k =
    let same : k.outcome ≡ h.outcome = one_outcome laws inputs k.outcome h.outcome k.is
    (replay_of_run laws ran inputs nodes budget held h.outcome is executable verified h.is) in (
      k.text_is ∙ ap (λ o. text_of (outcomes.told short o)) same
          ∙ ap (λ b. text_of (outcomes.told b h.outcome)) flag ∙ sym h.text_is,
      k.status_is ∙ ap (λ o. status_of o) same ∙ sym h.status_is,
    )
