-- Words that are passed: all that they do is to compute, or to access memory.
use Rattle.std.specs.Prelude.{◌≡◌, Bool, true, false, List, [], ◌++◌, All, Option, None, Some, option_to_list}
use Rattle.std.specs.Option.{option_map, option_map_or}
use Rattle.replay.specs.node_model.Node.{Nothing_counted}
use Rattle.replay.specs.node_machine.declared.touch.Touch.{Touch}
use Rattle.replay.specs.node_machine.declared.touch.Touch.TheVariants as touch
use Rattle.run_trace.specs.declared.passed.Until.{Until}
use Rattle.run_trace.specs.declared.passed.Until.TheVariants as until
use Rattle.run_trace.specs.declared.passed.WordPassed.{WordPassed}
use Rattle.run_trace.specs.declared.tracer.StretchEnd.{StretchEnd}
use Rattle.run_trace.specs.declared.tracer.StretchEnd.TheVariants.{Ended}
use Rattle.run_trace.specs.declared.tracer.Tracer.{Tracer}
use Rattle.run_trace.specs.declared.traced.AccessKind.{AccessKind}
use Rattle.run_trace.specs.declared.traced.AccessKind.TheVariants as access
use Rattle.run_trace.specs.declared.traced.Accessed.{Accessed}
use Rattle.run_trace.specs.Traced.{OfWord, What, Word, Taken, Traced}
use Rattle.run_trace.specs.Tracing.{HasTraced}

-- an access of this kind writes memory
abbrev pub is_write : AccessKind → Bool
is_write access.Writes = true
is_write access.Exchanges = true
is_write access.Reads = false
is_write access.WritesNot = false

-- an access of this kind ends a pass
abbrev pub ends : Until → AccessKind → Bool
ends until.Access k = true
ends until.Write k = is_write k

-- a word that wants no block, counts nothing, sends and prints nothing, and doesn't end
pub record IsPlainWord (w : OfWord) : Type 0 where
  pub wants : w.wants ≡ []
  pub tally : w.tally ≡ Nothing_counted
  pub sends : w.sends ≡ []
  pub printed : w.printed ≡ None
  pub end : w.end ≡ None

-- such a word that doesn't end a pass
pub record IsPassedWord (u : Until) (w : OfWord) : Type 0 where
  pub plain : IsPlainWord w
  pub goes_on : option_map_or (λ (a : Accessed). ends u a.kind) w.access false ≡ false

abbrev pub IsPassedWhat : Until → What → Type 0
IsPassedWhat u (Word w) = IsPassedWord u w
IsPassedWhat u (Taken t) = ⊥

abbrev pub IsPassed : Until → Traced → Type 0
IsPassed u x = IsPassedWhat u x.what

-- a word that ends a pass, as an event
abbrev pub passed_of : WordPassed → Traced
passed_of w = record {
  stamp = w.stamp;
  node = w.node;
  what = Word (record {
    place = w.place;
    commits = w.commits;
    access = Some w.access;
    wants = [];
    tally = Nothing_counted;
    printed = None;
    sends = [];
    end = None;
  });
}

-- words were passed, and after them perhaps one that ends the pass
pub record HasPassedOn (u : Until) (t : Tracer) (seen : List Traced) (last : Option WordPassed)
    : Type 0 where
  pub more : List Traced
  pub passed : All (IsPassed u) more
  pub traced : HasTraced t (seen ++ (more ++ option_to_list (option_map passed_of last)))

-- what of a word ends a pass
abbrev pub ending : Until → Touch → Option Touch
ending u touch.Nothing = None
ending until.Access (touch.Reads kind a) = Some (touch.Reads kind a)
ending until.Write (touch.Reads kind a) = None
ending u (touch.Writes width a) = Some (touch.Writes width a)

-- the word after which a stretch was stopped, if it ended the pass
abbrev pub word_ended : StretchEnd → Option WordPassed
word_ended (Ended w) = Some w
word_ended stop = None
