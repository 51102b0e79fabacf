-- Which trees keep what is no early error of names.
use Rattle.std.specs.Prelude.{◌≡◌, ℕ, IsTrue, List, []}
use Rattle.swc_tree_marks.specs.declared.ident.Ident.{Ident}
use Rattle.swc_tree_node.specs.declared.node.Node.{Node}
use Rattle.swc_tree_scoping.specs.declared.places.Standing.TheVariants as standing
use Rattle.swc_tree_scoping.specs.Places.{program_place}
use Rattle.swc_tree_scoping.specs.Declares.{Declares}
use Rattle.swc_tree_scoping.specs.Readings.{with_identifiers}
use Rattle.swc_tree_scoping.specs.Resolved.{is_script}
use Rattle.swc_tree_scoping.specs.WellScoped.{EachInOneScope, IsClean, IsDeclared, NoRedeclaration, is_module}
use Rattle.swc_tree_renaming.specs.Apart.{CapturesNone, HasTexts, IsPlainProgram, NoParameterRepeated, SameScopes}
use Rattle.swc_tree_sites.specs.Sites.{Binding, Entry, sites_of, taken_at}
use Rattle.swc_tree_sites.specs.Smaller.{In, IsLeftOf}

-- each scope of the one takes what a scope of the other takes, so do the programs, and each variable of the one is a
-- variable of the other, with the same round it
pub record KeepsScopes (n t : Node) : Type 0 where
  pub variables : (i : Ident) (env : List Entry) → In (standing.Variable, i, env) (sites_of program_place n).sites → In (standing.Variable, i, env) (sites_of program_place t).sites
  pub sets : (bs : List Binding) → In bs (sites_of program_place n).sets → In bs (sites_of program_place t).sets
  pub program : taken_at program_place n ≡ taken_at program_place t

-- a module, or a script without plain functions in blocks of sloppy code, where no function has two parameters of one name
abbrev pub IsFair : Node → Type 0
IsFair t = IsPlainProgram t × (IsTrue (is_script t) → NoParameterRepeated t)

-- both are modules, or both are scripts
abbrev pub AreOfOneGoal : Node → Node → Type 0
AreOfOneGoal t n = is_module t ≡ is_module n

-- where no name of such a program is declared against the rules, none is in one of its goal that keeps its scopes
abbrev pub NoRedeclarationStays : Type 0
NoRedeclarationStays = (t n : Node) → IsFair t → IsPlainProgram n → AreOfOneGoal t n → IsClean t → IsClean n → KeepsScopes n t → NoRedeclaration t → NoRedeclaration n

-- ... nor in a program of the same shape whose new texts capture none
abbrev pub NewTextsRedeclareNone : Type 0
NewTextsRedeclareNone = (t n : Node) (text : List ℕ → List ℕ) → IsFair t → IsPlainProgram n → AreOfOneGoal t n → IsClean t → IsClean n → SameScopes t n → HasTexts t text n → CapturesNone t text → NoRedeclaration t → NoRedeclaration n

-- what is declared in a program that keeps the scopes of another is declared in that one
abbrev pub DeclaredStays : Type 0
DeclaredStays = (t n : Node) → IsPlainProgram t → IsPlainProgram n → IsClean t → IsClean n → KeepsScopes n t → (x : List ℕ) → IsDeclared n x → IsDeclared t x

-- a tree keeps the scopes of another where both are read by other names
abbrev pub ReadingsKeepScopes : Type 0
ReadingsKeepScopes = (f : Ident → Ident) (t n : Node) → KeepsScopes n t → KeepsScopes (with_identifiers f n) (with_identifiers f t)

-- A program; what is left of it; the same with new texts, which capture none in the program; and an answer that keeps
-- the scopes of that.
pub record Answers (t a n answer : Node) (text : List ℕ → List ℕ) : Type 0 where
  pub fair : IsFair t
  pub plain : IsPlainProgram a × IsPlainProgram n × IsPlainProgram answer
  pub goals : AreOfOneGoal t a × AreOfOneGoal t n × AreOfOneGoal t answer
  pub clean : IsClean t × IsClean a × IsClean n × IsClean answer
  pub left : IsLeftOf a t
  pub program : taken_at program_place a ≡ taken_at program_place t
  pub one : EachInOneScope t
  pub apart : CapturesNone t text
  pub shape : SameScopes a n
  pub texts : HasTexts a text n
  pub keeps : KeepsScopes answer n

-- such an answer declares no name against the rules, where the program declares none
abbrev pub AnswerRedeclaresNone : Type 0
AnswerRedeclaresNone = (t a n answer : Node) (text : List ℕ → List ℕ) → Answers t a n answer text → NoRedeclaration t → NoRedeclaration answer

-- ... and what the first declares at its top, the answer's does by its new text
abbrev pub AnswerDeclares : Type 0
AnswerDeclares = (t a n answer : Node) (text : List ℕ → List ℕ) → Answers t a n answer text → (x : List ℕ) → Declares t [] x → Declares answer [] (text x)
