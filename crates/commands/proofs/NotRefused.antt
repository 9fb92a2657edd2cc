-- A record that tells of a run isn't refused.
use Rattle.std.proofs.Common.{◌≡◌, ◌⊎◌, ℕ, Bool, List, length, sym, ap, ◌∙◌, subst, inl, inr, arith}
use Rattle.std.proofs.lemmas.List.{length-map}
use Rattle.rv32_program.specs.Program.{Program}
use Rattle.elf32_read.specs.Elf.{Elf}
use Rattle.elf32_read.proofs.Judging.{no_rule}
use Rattle.exec_map.proofs.Judging.{no_rule as no_program_rule}
use Rattle.exec_map.specs.Contents.{program_of}
use Rattle.exec_map.specs.Refusals.{Fits}
use Rattle.block_layout.specs.Layout.{Shape, IsValid}
use Rattle.block_layout.specs.Text.{IsFirstBroken}
use Rattle.block_layout.specs.declared.layout.BlockRange.{BlockRange}
use Rattle.block_layout.specs.declared.ranges.Lines.{Lines}
use Rattle.block_layout.specs.declared.refused.LayoutRule.{LayoutRule}
use Rattle.templates.specs.declared.plans.PlanEntry.{PlanEntry}
use Rattle.templates.specs.WholePlan.{IsPlanOf}
use Rattle.jump_map.specs.Image.{Cell, IsRewriting, image_words, read_cell}
use Rattle.rewriter.specs.RewrittenFile.{rewritten_elf}
use Rattle.rewriter.specs.TooLarge.{IsTooLarge}
use Rattle.rewrite_verify.specs.Refusals as verify
use Rattle.rewrite_verify.specs.declared.refused.VerifyRefused.{VerifyRefused}
use Rattle.rewrite_verify.specs.declared.refused.VerifyRefused.TheVariants.{OutOfMemory}
use Rattle.node_model.specs.Node.{Work}
use Rattle.node_model.specs.Outcome.{Outcome}
use Rattle.run_record.specs.declared.Record.{Record}
use Rattle.run_record.specs.declared.refused.RecordRule.{RecordRule}
use Rattle.run_record.specs.Record.{IsRecord, NamesOtherCode}
use Rattle.run_record.specs.Rules.{IsFirstFault}
use Rattle.run_record.specs.Telling.{IsOfWords}
use Rattle.run_record.specs.Text.{record_text}
use Rattle.replay.specs.declared.refused.ReplayRule.{ReplayRule}
use Rattle.replay.specs.Refusals as events
use Rattle.replay.specs.Replay.{TellsWholeRun}
use Rattle.replay.specs.Told.{Told}
use Rattle.judged_files.specs.Code.{Choice, Planned, Verified, choice_of, IsRewritingOf, IsUnchosen}
use Rattle.judged_files.specs.Executables.{IsUnaccepted, ReadsAs}
use Rattle.judged_files.specs.Inputs.{Inputs}
use Rattle.judged_files.specs.Records.{AreFaultyBlocks, IsLayoutOfBlocks, IsTextOf}
use Rattle.prepared_run.specs.Replays.{IsBadRecord, IsBadReplayLayout, IsBrokenRun, IsOutcomeOfReplay, IsReplayRefused}
use Rattle.commands.proofs.AgainLemmas.{HaveRecordLaws, one_elf, one_image, one_list, one_text, one_work, shared_some}

-- the laws of plans, of texts, of ranges and of events: each is right or has a fault
pub record HaveFaultLaws : Type 0 where
  pub plans : (batches : Bool) (program : Program) (plan other : List PlanEntry)
      → IsPlanOf batches program.code plan → IsPlanOf batches program.code other → plan ≡ other
  pub verified : (original e : Elf) (plan : List PlanEntry) (image : List Cell) (r : VerifyRefused)
      → IsRewriting (program_of original) plan image → e ≡ rewritten_elf original image plan
      → verify.Fits original e r → r ≡ OutOfMemory
  pub texts : (r : Record) (rule : RecordRule) (line : ℕ) → IsRecord r → IsOfWords r
      → IsFirstFault (record_text r) rule line → ⊥
  pub ranges : (ranges : List BlockRange) (shared : List Lines) (n : ℕ) (rule : LayoutRule) (number : ℕ)
      → IsFirstBroken ranges shared n rule number
      → IsValid (record { shared = shared; named = ranges; nodes = n }) → ⊥
  pub broken : (work : Work) (r : Record) (told : List Told) (rule : ReplayRule) (node entry : ℕ)
      → TellsWholeRun work r told → events.IsFirstBroken work r rule node entry → ⊥
  pub ended : (work : Work) (r : Record) (told : List Told) (rule : ReplayRule) (node entry : ℕ)
      → TellsWholeRun work r told → events.IsUnfinished work r rule node entry → ⊥

-- ---- the executable

taken_file : (choice : Choice) (file : List ℕ) (elf : Elf) (plan : List PlanEntry) (image : List Cell)
    (line : List ℕ) → IsRewritingOf choice file elf plan image → IsUnaccepted file line → ⊥
taken_file choice file elf plan image line h (inl unread) =
    no_rule file h.executable.reads.0 unread.0 unread.1.fits
taken_file choice file elf plan image line h (inr k) =
    let other : Elf = k.0 in
    let reads : ReadsAs file other = k.1 in
    let is : other ≡ elf = one_elf file other elf reads h.executable.reads in
    no_program_rule elf h.executable.accepted k.2.0 (subst (λ e. Fits e k.2.0) is k.2.1.fits)

taken_code : HaveFaultLaws → (batches : Bool) (elf : Elf) (plan : List PlanEntry)
    (image : List Cell) (words : ℕ) → IsPlanOf batches (program_of elf).code plan
    → IsRewriting (program_of elf) plan image → IsTooLarge batches (program_of elf) words → ⊥
taken_code faults batches elf plan image words the_plan rewriting k =
    let program : Program = program_of elf in
    let same : k.plan ≡ plan = faults.plans batches program k.plan plan k.is_plan the_plan in
    let count : words ≡ length (image_words program plan) =
    k.many.count ∙ ap (λ p. length (image_words program p)) same in
    let expansion = rewriting.expansion in
    let cells : length (image_words program plan) ≡ length image =
    sym (ap length expansion.words) ∙ length-map image read_cell in
    let few = expansion.few in
    let many = k.many.many in
    omega (arith, count, cells, few, many)

taken_choice : HaveFaultLaws → (choice : Choice) (file : List ℕ) (elf : Elf)
    (plan : List PlanEntry) (image : List Cell) (line : List ℕ)
    → IsRewritingOf choice file elf plan image → IsUnchosen choice elf line → ⊥
taken_choice faults (Planned batches) file elf plan image line h k =
    taken_code faults batches elf plan image k.0 h.chosen h.rewriting k.1
taken_choice faults (Verified verified) file elf plan image line h (inl unread) =
    no_rule verified h.chosen.0 unread.0 unread.1.fits
taken_choice faults (Verified verified) file elf plan image line h (inr k) =
    k.is_reason (faults.verified elf k.elf plan image k.refused h.rewriting
    (one_elf verified k.elf (rewritten_elf elf image plan) k.reads h.chosen) k.fits)

-- ---- the record's blocks

taken_blocks : HaveFaultLaws → (elf : Elf) (kept : Record) (layout : Shape) (line : List ℕ)
    → IsLayoutOfBlocks elf kept layout → IsValid layout → AreFaultyBlocks elf kept line → ⊥
taken_blocks faults elf kept layout line h valid k =
    let same : k.shared ≡ h.shared = one_list elf k.shared h.shared k.lines h.lines
    k.broken.valid.shared.some (shared_some elf kept layout h valid) in
    faults.ranges kept.blocks h.shared kept.nodes k.rule k.number
    (subst (λ rs. IsFirstBroken kept.blocks rs kept.nodes k.rule k.number) same k.broken)
    (subst IsValid h.layout_is valid)

-- ---- the events

taken_run : HaveFaultLaws → (work : Work) (kept : Record) (told : List Told) (line : List ℕ)
    → TellsWholeRun work kept told → IsBrokenRun work kept line → ⊥
taken_run faults work kept told line h k = elim k.broken [
  | inl b ↦ faults.broken work kept told k.rule k.node k.entry h b
  | inr b ↦ faults.ended work kept told k.rule k.node k.entry h b
]

module _ (laws : HaveRecordLaws) (faults : HaveFaultLaws) (inputs : Inputs) (o : Outcome)
    (h : IsOutcomeOfReplay inputs o) (line : List ℕ) where
  same_record : (other : Record) → IsTextOf other inputs.text → other ≡ h.kept
  same_record other text = one_text laws other h.kept inputs.text text h.asked.text

  same_elf : (other : Elf) → ReadsAs inputs.executable other → other ≡ h.elf
  same_elf other reads =
      one_elf inputs.executable other h.elf reads h.asked.rewritten.executable.reads

  taken_rewriting : IsReplayRefused inputs line → ⊥
  taken_rewriting (inl k) =
      taken_file (choice_of h.kept.batch inputs.verified) inputs.executable h.elf h.plan h.work.image
      line h.asked.rewritten k
  taken_rewriting (inr k) =
      let choice = choice_of h.kept.batch inputs.verified in
      taken_choice faults choice inputs.executable h.elf h.plan h.work.image line h.asked.rewritten
      (subst (λ e. IsUnchosen choice e line) (same_elf k.elf k.executable.reads)
      (subst (λ r. IsUnchosen (choice_of r.batch inputs.verified) k.elf line)
      (same_record k.kept k.text) k.unchosen))

  taken_layout : IsBadReplayLayout inputs line → ⊥
  taken_layout k =
      taken_blocks faults h.elf h.kept h.work.layout line h.asked.laid_out h.asked.valid
      (subst (λ e. AreFaultyBlocks e h.kept line) (same_elf k.elf k.rewritten.executable.reads)
      (subst (λ r. AreFaultyBlocks k.elf r line) (same_record k.kept k.text) k.faulty))

  taken_record : IsBadRecord inputs line → ⊥
  taken_record (inl k) =
      let text = h.asked.text in
      faults.texts h.kept k.faulty.rule k.faulty.number text.is_record text.of_words
      (subst (λ t. IsFirstFault t k.faulty.rule k.faulty.number) text.text_is k.faulty.fault)
  taken_record (inr (inl k)) =
      let same : k.kept ≡ h.kept = same_record k.kept k.text in
      let image : k.image ≡ h.work.image = one_image laws
      (choice_of k.kept.batch inputs.verified) (choice_of h.kept.batch inputs.verified)
      inputs.executable k.elf h.elf k.plan h.plan k.image h.work.image
      (ap (λ (r : Record). choice_of r.batch inputs.verified) same)
      (same_elf k.elf k.rewritten.executable.reads) k.rewritten h.asked.rewritten in
      h.asked.same_code (subst (λ (i : List Cell). NamesOtherCode h.kept (length i)) image
      (subst (λ r. NamesOtherCode r (length k.image)) same k.other.other))
  taken_record (inr (inr k)) =
      let same = one_work laws inputs k.kept h.kept k.elf h.elf k.plan h.plan k.work h.work k.asked
      h.asked in
      taken_run faults h.work h.kept h.told line h.tells
      (subst (λ w. IsBrokenRun w h.kept line) same.3
      (subst (λ r. IsBrokenRun k.work r line) same.0 k.broken))

  pub not_refused : IsReplayRefused inputs line
      ⊎ (IsBadReplayLayout inputs line ⊎ IsBadRecord inputs line) → ⊥
  not_refused (inl k) = taken_rewriting k
  not_refused (inr (inl k)) = taken_layout k
  not_refused (inr (inr k)) = taken_record k
