-- What is asked of a renamer, and what a pass of it makes of a tree whose contexts are emptied then.
use Rattle.std.specs.Prelude.{◌≡◌, ◌<◌, ◌^◌, ℕ, true, IsTrue, Some, [], ◌∷◌, codes}
use Rattle.swc_tree_marks.specs.Globals.{Table}
use Rattle.swc_tree_node.specs.declared.node.Node.{Node}
use Rattle.swc_tree_scoping.specs.BoundNames.{Id}
use Rattle.swc_tree_scoping.specs.declared.places.Standing.{Standing}
use Rattle.swc_tree_scoping.specs.Places.{Path, program_place}
use Rattle.swc_tree_scoping.specs.Readings.{by_texts}
use Rattle.swc_tree_scoping.specs.Resolved.{is_global_value, is_script}
use Rattle.swc_tree_scoping.specs.Scopes.{is_binding, rounds}
use Rattle.swc_tree_scoping.specs.WellScoped.{is_module}
use Rattle.swc_tree_grammar.specs.Writable.{is_identifier_text}
use Rattle.swc_base_rename_substitution.specs.declared.config.Config.{Config}
use Rattle.swc_base_rename_analysis.specs.Ids.{id_at}
use Rattle.swc_base_rename_analysis.specs.Named.{Renaming}
use Rattle.swc_base_rename_program.specs.Renamed.{IsRenamedBy}

-- what a renamer makes of a tree: names are given, and then each context is empty; hygiene makes just this with its own texts
abbrev pub IsRenamedAndCleared : Table → Config → Renaming → Node → Node → Type 0
IsRenamedAndCleared table config r before after = (given : Node) × IsRenamedBy table config r before given × (after ≡ by_texts given)

-- an id whose text is an identifier's gets such texts, and none but `eval` and `arguments` themselves gets these: so say the laws of `Renamer`
pub record IsLawful (r : Renaming) : Type 0 where
  pub identifiers : (x : Id) (n : ℕ) → n < 2 ^ 64 → IsTrue (is_identifier_text x.0) → IsTrue (is_identifier_text (r.text x n))
  pub no_eval : (x : Id) (n : ℕ) → n < 2 ^ 64 → r.text x n ≡ codes "eval" → x.0 ≡ codes "eval"
  pub no_arguments : (x : Id) (n : ℕ) → n < 2 ^ 64 → r.text x n ≡ codes "arguments" → x.0 ≡ codes "arguments"

-- only `undefined`, `NaN` and `Infinity` themselves get these texts, which no script can declare (19.1)
abbrev pub SparesGlobalValues : Renaming → Type 0
SparesGlobalValues r = (x : Id) (n : ℕ) → n < 2 ^ 64 → IsTrue (is_global_value (r.text x n)) → x.0 ≡ r.text x n

-- ... which is asked of no module
abbrev pub SparesIfScript : Renaming → Node → Type 0
SparesIfScript r t = IsTrue (is_script t) → SparesGlobalValues r

-- an id is bound at a path, round which the program is the only scope
pub record IsBoundAtTop (t : Node) (x : Id) : Type 0 where
  pub path : Path
  pub standing : Standing
  pub stands : id_at t path ≡ Some (standing, x)
  pub binds : IsTrue (is_binding standing)
  pub inside : rounds program_place t path ≡ ([], true) ∷ []

-- of preserved ids that are bound so no two have one text; so it is where none is preserved
abbrev pub TopTextsDiffer : Renaming → Node → Type 0
TopTextsDiffer r t = (x y : Id) → IsBoundAtTop t x → IsBoundAtTop t y → IsTrue (r.preserves x) → IsTrue (r.preserves y) → x.0 ≡ y.0 → x ≡ y

-- ... in modules, which may export them by their texts
abbrev pub KeepsTopApart : Renaming → Node → Type 0
KeepsTopApart r t = IsTrue (is_module t) → TopTextsDiffer r t
