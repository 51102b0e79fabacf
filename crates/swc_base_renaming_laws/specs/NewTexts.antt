-- Which texts a renamer gives the names of a normal form; hygiene is one.
use Rattle.std.specs.Prelude.{◌≡◌, ℕ, IsTrue, Option, Some, List, [], unwrap_or, if◌then◌else◌}
use Rattle.swc_tree_marks.specs.declared.ident.Ident.{Ident}
use Rattle.swc_tree_marks.specs.Globals.{Table}
use Rattle.swc_tree_node.specs.declared.kind.Kind.{Kind}
use Rattle.swc_tree_node.specs.declared.slot.Slot.{Slot}
use Rattle.swc_tree_node.specs.declared.node.Node.{Node, Identifier}
use Rattle.swc_tree_node.specs.Fits.{Fits}
use Rattle.swc_tree_scoping.specs.declared.places.Standing.{Standing}
use Rattle.swc_tree_scoping.specs.declared.places.Place.{Place}
use Rattle.swc_tree_scoping.specs.Places.{Path, place_at, program_place}
use Rattle.swc_tree_scoping.specs.BoundNames.{Id}
use Rattle.swc_tree_scoping.specs.Scopes.{is_name}
use Rattle.swc_tree_renaming.specs.Apart.{is_goal}
use Rattle.swc_tree_grammar.specs.Normal.{normal_form}
use Rattle.swc_tree_grammar.specs.Writable.{Writable}
use Rattle.swc_base_rename_substitution.specs.declared.config.Config.{Config}
use Rattle.swc_base_rename_substitution.specs.Identifiers.{id_of}
use Rattle.swc_base_rename_analysis.specs.Named.{Named, Renaming}
use Rattle.swc_base_rename_analysis.specs.Preserved.{IsPreserved}
use Rattle.swc_base_rename_program.specs.Lower.swc_base_rename_naming_laws.specs.Rules.{counting}
use Rattle.swc_base_rename_program.specs.Renamed.{IsHygienic, hygiene_renaming}
use Rattle.swc_base_rename_laws.specs.NewNames.{SameButForNames, outline}
use Rattle.swc_base_renaming_laws.specs.Hygiene.{IsPlain}
use Rattle.swc_base_renaming_laws.specs.Renamers.{IsRenamedAndCleared, KeepsTopApart}

-- the text of an identifier that stands so: where it is bound or referred to the one that the map gives, and else its own
abbrev pub text_anew : (Id → Option (List ℕ)) → Standing → Ident → List ℕ
text_anew new_texts standing i = if is_name standing then unwrap_or (new_texts (id_of i)) i.sym else i.sym

-- the second tree is the first one but for spans, with the new texts at bindings and references, and without contexts
pub record HasNewTexts (new_texts : Id → Option (List ℕ)) (t u : Node) : Type 0 where
  pub shape : outline t ≡ outline u
  pub texts : (p : Path) (w : Place) (k : Kind) (i : Ident) → place_at program_place t p ≡ Some (w, Identifier k i)
      → (j : Ident) × (place_at program_place u p ≡ Some (w, Identifier k j)) × (j.sym ≡ text_anew new_texts w.standing i) × (j.ctxt ≡ [])

-- the map that a renamer names in the first program gives the normal form of the second its texts
pub record HasRenamedTexts (r : Renaming) (before after : Node) : Type 0 where
  pub new_texts : Id → Option (List ℕ)
  pub named : Named before r (IsPreserved before r.preserves) (counting before r) new_texts
  pub normal : HasNewTexts new_texts (normal_form before) (normal_form after)

abbrev pub HasHygienicTexts : Node → Node → Type 0
HasHygienicTexts before after = HasRenamedTexts hygiene_renaming before after

-- a program that can be written down has the same normal form but for the names that the renamer gives, which have there just
-- the texts of its map, where the preserved ids that a module binds at its top are apart
abbrev pub RenamingGivesNormalFormNewTexts : Type 0
RenamingGivesNormalFormNewTexts = (r : Renaming) (table : Table) (config : Config) (goal : Slot) (before after : Node) → KeepsTopApart r before → IsTrue (is_goal goal) → IsPlain config before → Fits before goal → Writable before
    → IsRenamedAndCleared table config r before after → HasRenamedTexts r before after

-- ... and nothing else of it changes, spans neither: each identifier stands where it stood, and has another text and no context
-- at most
abbrev pub RenamingKeepsSpans : Type 0
RenamingKeepsSpans = (r : Renaming) (table : Table) (config : Config) (goal : Slot) (before after : Node) → KeepsTopApart r before → IsTrue (is_goal goal) → IsPlain config before → Fits before goal → Writable before
    → IsRenamedAndCleared table config r before after → SameButForNames (normal_form before) (normal_form after)

-- a program that can be written down has the same normal form but for the names that hygiene gives, which have there just
-- the texts of its map
abbrev pub HygieneGivesNormalFormNewTexts : Type 0
HygieneGivesNormalFormNewTexts = (table : Table) (config : Config) (goal : Slot) (before after : Node) → IsTrue (is_goal goal) → IsPlain config before → Fits before goal → Writable before
    → IsHygienic table config before after → HasHygienicTexts before after

-- ... and nothing else of it changes, spans neither: each identifier stands where it stood, and has another text and no context
-- at most
abbrev pub HygieneKeepsSpans : Type 0
HygieneKeepsSpans = (table : Table) (config : Config) (goal : Slot) (before after : Node) → IsTrue (is_goal goal) → IsPlain config before → Fits before goal → Writable before
    → IsHygienic table config before after → SameButForNames (normal_form before) (normal_form after)
