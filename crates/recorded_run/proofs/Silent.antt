-- Words that only compute or access memory, one after another, along a walk.
use Rattle.std.proofs.Common.{◌≡◌, ℕ, ◌+◌, Bool, true, false, List, [], ◌∷◌, ◌++◌, length, None, refl, sym, ap, ◌∙◌, subst, append-nil, append_assoc}
use Rattle.std.specs.Prelude.{if◌then◌else◌}
use mir.Val.{bool_byte}
use Rattle.rv32_step.specs.OneMemory.{Step}
use Rattle.event_text.specs.run_trace.Traced.{Traced, Word}
use Rattle.event_text.specs.run_trace.Tracing.{HasTracedIfSilent, HasTracedSilent}
use Rattle.record_picks.specs.Seen.{picks_seen}
use Rattle.recorded_run.specs.Shown.{picks_made}
use Rattle.recorded_run.specs.declared.walk.Walk.{Walk}
use Rattle.recorded_run.specs.Walks.{HasCounted, HasCountedOn}
use Rattle.recorded_run.proofs.Walking.{picks_more}

pub none_counted : (w : Walk) (seen : List Traced) → HasCounted w seen → HasCountedOn w seen
none_counted w seen h = ([], subst (HasCounted w) (sym (append-nil seen)) h)

-- more behind some
pub both_counted : (w u : Walk) (seen : List Traced) → HasCountedOn w seen
    → ((l : List Traced) → HasCounted w l → HasCountedOn u l) → HasCountedOn u seen
both_counted w u seen on next =
    let more = next (seen ++ on.0) on.1 in
    (on.0 ++ more.0, subst (HasCounted u) (append_assoc seen on.0 more.0) more.1)

-- the picks of a word that commits so
word_picks : (node : ℕ) (commits : Bool) → length (if commits then Step node ∷ [] else []) ≡ bool_byte commits
word_picks node true = refl
word_picks node false = refl

-- a word more
pub one_counted : (w u : Walk) (seen : List Traced) (node : ℕ) (commits : Bool) (on : HasCountedOn w seen)
    → HasTracedSilent w.tracer u.tracer (seen ++ on.0) node commits → u.picks ≡ w.picks + bool_byte commits
    → HasCountedOn u seen
one_counted w u seen node commits on s count =
    let x : Traced = record { stamp = s.stamp; node = node; what = Word s.word } in
    let made : length (picks_seen x) ≡ bool_byte commits =
    word_picks node s.word.commits ∙ ap bool_byte s.commits_so in
    let here : u.picks ≡ picks_made (seen ++ on.0) + length (picks_seen x) =
    count ∙ ap (λ (n : ℕ). n + bool_byte commits) on.1.picks_are
    ∙ ap (λ (n : ℕ). picks_made (seen ++ on.0) + n) (sym made) in (
      on.0 ++ x ∷ [],
      subst (HasCounted u) (append_assoc seen on.0 (x ∷ []))
          (record { traced = s.traced; picks_are = here ∙ sym (picks_more (seen ++ on.0) x) }),
    )

-- no word more
pub still_counted : (w u : Walk) (seen : List Traced) (node : ℕ) (on : HasCountedOn w seen)
    → HasTracedIfSilent w.tracer u.tracer (seen ++ on.0) node None → u.picks ≡ w.picks → HasCountedOn u seen
still_counted w u seen node on traced same = (on.0, record { traced = traced; picks_are = same ∙ on.1.picks_are })
