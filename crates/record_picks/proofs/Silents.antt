-- The picks of silent words, one after another.
use Rattle.std.proofs.Common.{◌≡◌, ℕ, Bool, List, [], ◌∷◌, ◌++◌, refl, sym, ap, ◌∙◌, subst, append_assoc, append-nil}
use Rattle.std.proofs.lemmas.Grind.{flat_map-append}
use Rattle.std.specs.Prelude.{if◌then◌else◌}
use Rattle.rv32_step.specs.OneMemory.{Pick, Step}
use Rattle.run_trace.specs.declared.tracer.Tracer.{Tracer}
use Rattle.run_trace.specs.Traced.{Traced, Word}
use Rattle.run_trace.specs.Tracing.{HasTraced, HasTracedSilent, IsSame}
use Rattle.record_picks.specs.Seen.{HasPickedOn, picks_seen, all_seen}

-- the picks of a word that commits so
abbrev pub steps : (node : ℕ) → (commits : Bool) → List Pick
steps node commits = if commits then Step node ∷ [] else []

pub none_picked : (t : Tracer) (seen : List Traced) (picks : List Pick) → HasTraced t seen → HasPickedOn t seen picks picks
none_picked t seen picks h = record {
  more = [];
  traced = subst (HasTraced t) (sym (append-nil seen)) h;
  picks_are = sym (append-nil picks);
}

pub one_picked : (t u : Tracer) (seen : List Traced) (before now later : List Pick) (node : ℕ) (commits : Bool) (on : HasPickedOn t seen before now) → HasTracedSilent t u (seen ++ on.more) node commits → later ≡ now ++ steps node commits → HasPickedOn u seen before later
one_picked t u seen before now later node commits on s is =
    let x : Traced = record { stamp = s.stamp; node = node; what = Word s.word } in
    record {
      more = on.more ++ x ∷ [];
      traced = subst (HasTraced u) (append_assoc seen on.more (x ∷ [])) s.traced;
      picks_are = is ∙ ap (λ ks. ks ++ steps node commits) on.picks_are
          ∙ append_assoc before (all_seen on.more) (steps node commits)
          ∙ ap (λ b. before ++ (all_seen on.more ++ steps node b)) (sym s.commits_so)
          ∙ ap (λ ks. before ++ (all_seen on.more ++ ks)) (sym (append-nil (picks_seen x)))
          ∙ ap (λ ks. before ++ ks) (sym (flat_map-append picks_seen on.more (x ∷ [])));
    }

-- no event more
pub still_picked : (t u : Tracer) (seen : List Traced) (before now : List Pick) → HasPickedOn t seen before now → ((l : List Traced) → HasTraced t l → HasTraced u l) → HasPickedOn u seen before now
still_picked t u seen before now on still = record {
  more = on.more;
  traced = still (seen ++ on.more) on.traced;
  picks_are = on.picks_are;
}

-- more behind some
pub joined : (t u : Tracer) (seen : List Traced) (before now later : List Pick) → HasPickedOn t seen before now → ((l : List Traced) → HasTraced t l → HasPickedOn u l now later) → HasPickedOn u seen before later
joined t u seen before now later on next =
    let p = next (seen ++ on.more) on.traced in
    record {
      more = on.more ++ p.more;
      traced = subst (HasTraced u) (append_assoc seen on.more p.more) p.traced;
      picks_are = p.picks_are ∙ ap (λ ks. ks ++ all_seen p.more) on.picks_are
          ∙ append_assoc before (all_seen on.more) (all_seen p.more)
          ∙ ap (λ ks. before ++ ks) (sym (flat_map-append picks_seen on.more p.more));
    }

pub same_self : (t : Tracer) → IsSame t t
same_self t = record { work = refl; plan = refl; rec_is = refl; kinds = refl }

pub same_on : (t u v : Tracer) → IsSame t u → IsSame u v → IsSame t v
same_on t u v a b = record {
  work = b.work ∙ a.work;
  plan = b.plan ∙ a.plan;
  rec_is = b.rec_is ∙ a.rec_is;
  kinds = b.kinds ∙ a.kinds;
}
