-- What giving names anew keeps.
use Rattle.std.specs.Prelude.{◌≡◌, ◌⊎◌, ℕ, Bool, true, false, IsTrue, Some, None, List, is_some}
use Rattle.std.specs.List.{list_any}
use Rattle.std.specs.HashMap.{get}
use Rattle.swc_tree_marks.specs.declared.ident.Ident.{Ident}
use Rattle.swc_tree_node.specs.declared.kind.Class.TheVariants as class
use Rattle.swc_tree_node.specs.declared.slot.Content.TheVariants as content
use Rattle.swc_tree_node.specs.declared.slot.Slot.{Slot}
use Rattle.swc_tree_node.specs.declared.slot.Slot.TheVariants as slot
use Rattle.swc_tree_node.specs.declared.node.Node.{Node}
use Rattle.swc_tree_node.specs.Fits.{Fits}
use Rattle.swc_tree_grammar.specs.Writable.{is_bindable, is_identifier_text, is_writable}
use Rattle.swc_tree_grammar.specs.Normal.{normal_form, same_id as same_identifier}
use Rattle.swc_tree_grammar.specs.Same.{same_tree}
use Rattle.swc_base_rename_substitution.specs.declared.names.Names.{Names}
use Rattle.swc_base_rename_substitution.specs.declared.names.Names.TheVariants.{Texts, Ordered, Ids}
use Rattle.swc_base_rename_substitution.specs.Names.{Id, found_in, new_id, same_id}
use Rattle.swc_base_rename_substitution.specs.Identifiers.{Changes, id_of}
use Rattle.swc_base_rename_substitution.specs.Substituted.{Substituted}
use Rattle.swc_base_rename_laws.specs.Texts.{outer_texts}
use Rattle.swc_base_rename_laws.specs.NewNames.{HasNewNames, SameButForNames}

-- the map has nothing for any id
abbrev pub IsEmpty : Names → Type 0
IsEmpty (Texts m) = (x : Id) → get same_id m.now x ≡ None
IsEmpty (Ordered m) = (x : Id) → found_in m.now x ≡ None
IsEmpty (Ids m) = (x : Id) → get same_id m.now x ≡ None

-- the map gives no id another text than its own
abbrev pub KeepsTexts : Names → Type 0
KeepsTexts (Texts m) = (x : Id) (text : List ℕ) → get same_id m.now x ≡ Some text → text ≡ x.0
KeepsTexts (Ordered m) = (x : Id) (text : List ℕ) → found_in m.now x ≡ Some text → text ≡ x.0
KeepsTexts (Ids m) = (x y : Id) → get same_id m.now x ≡ Some y → y.0 ≡ x.0

-- where classes don't keep their names, an empty map changes nothing
abbrev pub EmptyMapChangesNothing : Type 0
EmptyMapChangesNothing = (names : Names) (tree answer : Node) → IsEmpty names → Substituted (new_id names) false tree answer → answer ≡ tree

-- ... nor does one that keeps all texts
abbrev pub KeptTextsChangeNothing : Type 0
KeptTextsChangeNothing = (names : Names) (tree answer : Node) → KeepsTexts names → Substituted (new_id names) false tree answer → answer ≡ tree

-- a module or a script, each node in which stands where the table has it
abbrev pub IsProgram : Node → Type 0
IsProgram t = Fits t (slot.One (content.Node class.Module)) ⊎ Fits t (slot.One (content.Node class.Script))

-- strings, keys, labels, imported and exported names stay, in their order
abbrev pub OuterTextsStay : Type 0
OuterTextsStay = (m : Changes) (keeps : Bool) (tree answer : Node) → IsProgram tree → Substituted m keeps tree answer → outer_texts answer ≡ outer_texts tree

-- the new text of what has an identifier's text is one too, and none is `eval` or `arguments`
abbrev pub GivesNames : Changes → Type 0
GivesNames m = (i : Ident) (text context : List ℕ) → m (id_of i) ≡ Some (text, context) → IsTrue (is_identifier_text i.sym) → IsTrue (is_bindable true text)

-- a tree that fits some place, as each module and each script does, and can be written down still can
abbrev pub WritableStays : Type 0
WritableStays = (m : Changes) (place : Slot) (tree answer : Node) → GivesNames m → Fits tree place → IsTrue (is_writable tree) → Substituted m false tree answer → IsTrue (is_writable answer)

-- ... and a writable program has the same normal form but for the names that change
abbrev pub NormalFormStays : Type 0
NormalFormStays = (m : Changes) (changing : List Ident) (tree answer : Node) → ((i : Ident) → IsTrue (is_some (m (id_of i))) → IsTrue (list_any (same_identifier i) changing))
    → IsProgram tree → IsTrue (is_writable tree) → Substituted m false tree answer → IsTrue (same_tree changing (normal_form tree) (normal_form answer))

-- ... which is the one that it had, with the new ids where names are bound or referred to
abbrev pub NormalFormHasNewNames : Type 0
NormalFormHasNewNames = (m : Changes) (tree answer : Node) → IsProgram tree → IsTrue (is_writable tree) → Substituted m false tree answer
    → HasNewNames m (normal_form tree) (normal_form answer)

-- ... with the spans that it had
abbrev pub NormalFormKeepsSpans : Type 0
NormalFormKeepsSpans = (m : Changes) (tree answer : Node) → IsProgram tree → IsTrue (is_writable tree) → Substituted m false tree answer
    → SameButForNames (normal_form tree) (normal_form answer)
