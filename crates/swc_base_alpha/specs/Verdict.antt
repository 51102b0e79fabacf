-- What a verdict on two programs says: that they are one but for names, or the first condition of that that fails.
use Rattle.std.specs.Prelude.{◌≡◌, ◌+◌, ◌-◌, ◌<◌, Bool, true, false, ◌||◌, ◌⊎◌, IsTrue, Option, Some, None, List, [], ◌∷◌, is_some, option_map}
use Rattle.swc_tree_marks.specs.declared.ident.Ident.{Ident}
use Rattle.swc_tree_marks.specs.declared.error.PassError.{PassError}
use Rattle.swc_tree_marks.specs.declared.error.PassError.TheVariants as error
use Rattle.swc_tree_node.specs.declared.node.Node.{Node}
use Rattle.swc_tree_node.specs.declared.slot.Slot.{Slot}
use Rattle.swc_tree_node.specs.Fits.{Fits}
use Rattle.swc_tree_scoping.specs.Places.{Path, program_place}
use Rattle.swc_tree_scoping.specs.Scopes.{scope_count}
use Rattle.swc_tree_scoping.specs.WellScoped.{IsClean}
use Rattle.swc_tree_spaces.specs.Spaces.{has_types}
use Rattle.swc_tree_renaming.specs.Apart.{NameAt, is_goal}
use Rattle.swc_tree_walk.specs.Nodes.{node_at}
use Rattle.swc_tree_grammar.specs.Normal.{normal_form}
use Rattle.swc_base_rename_laws.specs.NewNames.{outline}
use Rattle.swc_base_rename_units.specs.Eval.{HasEval}
use Rattle.swc_base_scope_checks.specs.Caught.{NoCaughtName}
use Rattle.swc_base_alpha_laws.specs.Alpha.{AlphaVariants, FreeNamesStay, NamesStay, OtherTextsStay, StandForOne, StandsFor}
use Rattle.swc_base_alpha.specs.declared.verdict.Cause.{Cause}
use Rattle.swc_base_alpha.specs.declared.verdict.Verdict.{Verdict}
use Rattle.swc_base_alpha.specs.declared.verdict.Verdict.TheVariants as verdict
use Rattle.swc_base_alpha.specs.declared.verdict.Why.{Why}
use Rattle.swc_base_alpha.specs.declared.verdict.Why.TheVariants as why

-- a module or a script in which no identifier has a context
pub record IsCleanProgram (t : Node) : Type 0 where
  pub goal : Slot
  pub is_goal : IsTrue (is_goal goal)
  pub fits : Fits t goal
  pub clean : IsClean t

-- each name keeps its text that stands, in one of both, for what the program's own scope declares
abbrev pub TopNamesStay : Node → Node → Type 0
TopNamesStay t u = (p : Path) (i a : Ident) (m : NameAt t p i) (x : NameAt u p a) → StandsFor t p m.0.standing i.sym (Some []) ⊎ StandsFor u p x.0.standing a.sym (Some []) → i.sym ≡ a.sym

-- names that stand for one thing in the first stand for one in the second
abbrev pub NoneIsSplit : Node → Node → Type 0
NoneIsSplit t u = (p q : Path) (i j a b : Ident) (m : NameAt t p i) (n : NameAt t q j) (x : NameAt u p a) (y : NameAt u q b) → StandForOne t p q i j m n → StandForOne u p q a b x y

-- a direct `eval` or a `with` may read names in one of both
abbrev pub IsRead : Node → Node → Type 0
IsRead before after = HasEval before ⊎ HasEval after

-- in neither a `var`, or a plain function in a block of sloppy code, meets a catch parameter of its name on its way out
abbrev pub IsUncaught : Node → Node → Type 0
IsUncaught t u = NoCaughtName t × NoCaughtName u

-- Two normal forms are one but for names; if that is wanted, names of the program's own scope keep their texts; and where names may be
-- read as the program runs, or a `var` or a function meets a catch parameter of its name, all do.
pub record AreSame (keep_top : Bool) (reading : Type 0) (t u : Node) : Type 0 where
  pub alpha : AlphaVariants t u
  pub top : IsTrue keep_top → TopNamesStay t u
  pub read : reading → NamesStay t u
  pub caught : ¬ IsUncaught t u → NamesStay t u

abbrev pub IsSame : Bool → Node → Node → Type 0
IsSame keep_top before after = AreSame keep_top (IsRead before after) (normal_form before) (normal_form after)

-- the condition that a word names, of two normal forms; what names stand for is asked where no name is caught
abbrev pub Asks : Bool → Type 0 → Node → Node → Why → Type 0
Asks keep_top reading t u why.Shape = outline t ≡ outline u
Asks keep_top reading t u why.Name = OtherTextsStay t u
Asks keep_top reading t u why.Free = IsUncaught t u → FreeNamesStay t u
Asks keep_top reading t u why.Split = IsUncaught t u → NoneIsSplit t u
Asks keep_top reading t u why.Joined = IsUncaught t u → NoneIsSplit u t
Asks keep_top reading t u why.Top = IsUncaught t u → IsTrue keep_top → TopNamesStay t u
Asks keep_top reading t u why.Reads = reading → NamesStay t u
Asks keep_top reading t u why.Caught = ¬ IsUncaught t u → NamesStay t u

-- the words, in order
abbrev pub words : List Why
words = why.Shape ∷ why.Name ∷ why.Free ∷ why.Split ∷ why.Joined ∷ why.Top ∷ why.Reads ∷ why.Caught ∷ []

-- of conditions in a row the word names the first that fails
abbrev pub IsFirstToFail : (Why → Type 0) → List Why → Why → Type 0
IsFirstToFail asks [] w = ⊥
IsFirstToFail asks (v ∷ vs) w = (¬ asks v × (w ≡ v)) ⊎ (asks v × IsFirstToFail asks vs w)

-- the word of a cause
abbrev pub word_in : Option Cause → Option Why
word_in = option_map (λ c. c.why)

-- there is no word exactly of programs that are the same; else it says why they are not
abbrev pub TellsWhy : Bool → Node → Node → Option Why → Type 0
TellsWhy keep_top before after None = IsSame keep_top before after
TellsWhy keep_top before after (Some w) = ¬ IsSame keep_top before after × IsFirstToFail (Asks keep_top (IsRead before after) (normal_form before) (normal_form after)) words w

abbrev pub Tells : Bool → Node → Node → Verdict → Type 0
Tells keep_top before after verdict.Same = TellsWhy keep_top before after None
Tells keep_top before after (verdict.Differs d) = TellsWhy keep_top before after (Some d.why)

abbrev pub IsThere : Node → Path → Type 0
IsThere t p = IsTrue (is_some (node_at t p))

-- at the paths of a difference something stands
abbrev pub HasPaths : Node → Node → Verdict → Type 0
HasPaths before after verdict.Same = Unit {0}
HasPaths before after (verdict.Differs d) = IsThere before d.before.items × IsThere after d.after.items

-- a normal form has more scopes than there are marks for
abbrev pub HasTooManyScopes : Node → Type 0
HasTooManyScopes t = 4294967295 < 2 + (scope_count program_place t - 1)

-- why there is no verdict: types stand in one of both; or in neither, and memory was refused, or marks were spent
abbrev pub IsJudgeRefusal : Node → Node → PassError → Type 0
IsJudgeRefusal before after error.TypesLeft = (has_types before || has_types after) ≡ true
IsJudgeRefusal before after error.NoMemory = (has_types before || has_types after) ≡ false
IsJudgeRefusal before after error.MarksSpent = ((has_types before || has_types after) ≡ false) × (HasTooManyScopes (normal_form before) ⊎ HasTooManyScopes (normal_form after))
IsJudgeRefusal before after _ = ⊥
