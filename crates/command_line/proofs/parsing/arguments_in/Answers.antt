use Rattle.std.proofs.Common.{◌≡◌, ◌∙◌, [], ◌∷◌, ap, ap₂, refl, sym, rules, subst, inl, inr, List, ℕ, map}
use Rattle.clap.specs.Words.{app_of, matches_of, fault_of, is_simple, is_simple_and_free}
use Rattle.clap.specs.Kinds.{HasKind}
use Rattle.command_line.specs.Reading.{app_for, AreReadable}
use Rattle.command_line.proofs.Told.{is_simple_told, is_free_told}
use Rattle.command_line.proofs.Gives.{cut_readable, no_fault, reads_ok}
use Rattle.command_line.proofs.parsing.arguments_in.Goals as goal

same_words : (ws : List (List ℕ)) → map (λ w. w) ws ≡ ws
same_words [] = refl
same_words (w ∷ ws) = ap (λ xs. w ∷ xs) (same_words ws)

pub returns-then-not-are_readable : goal.returns-then-not-are_readable
returns-then-not-are_readable c arguments k =
    let r = c.are_readable.ensures.1
    (cut_readable c.args.settings.now c.args.words.now arguments k) in
    absurd (cc (r, c.if-not-are_readable.true))

pub returns-in-Ok : goal.returns-in-Ok
returns-in-Ok c =
    let settings = c.args.settings.now in
    let words = c.args.words.now in
    let app : app_of c.in_ok-command.command ≡ app_for settings = c.in_ok-command.ensures in
    let e = c.in-Ok.ensures in
    let r : AreReadable words = c.are_readable.ensures.0 (search rules) in
    reads_ok settings words c.in-Ok.matches r
    (ap₂ fault_of (sym app) (sym (same_words words)) ∙ e.kinds (ap is_simple_and_free app ∙ is_free_told settings))
    ((e.matches (ap is_simple app ∙ is_simple_told settings)).0 ∙ ap₂ matches_of app (same_words words))

pub returns : goal.returns
returns c arguments k =
    let settings = c.args.settings.now in
    let words = c.args.words.now in
    let app : app_of c.in_ok-command.command ≡ app_for settings = c.in_ok-command.ensures in
    let none : fault_of (app_of c.in_ok-command.command) (map (λ w. w) words) ≡ [] =
    ap₂ fault_of app (same_words words) ∙ no_fault settings words arguments k in
    let kinds = c.in-Err.ensures.kinds (ap is_simple_and_free app ∙ is_free_told settings) in
    elim (subst (λ ks. HasKind ks c.in-Err.error) none kinds) [
      | inl e ↦ absurd (c.in_default.not-OutOfMemory (search rules))
      | inr f ↦ absurd f
    ]
