-- Laws of the names that ids get in well-scoped trees.
use Rattle.std.specs.Prelude.{◌≡◌, ◌≢◌, ◌↔◌, ◌⊎◌, ℕ, true, false, IsTrue, Option, Some, List, [], ◌∷◌, ◌++◌, unwrap_or}
use Rattle.swc_tree_marks.specs.declared.ident.Ident.{Ident}
use Rattle.swc_tree_node.specs.declared.slot.Slot.{Slot}
use Rattle.swc_tree_node.specs.declared.node.Node.{Node, Identifier}
use Rattle.swc_tree_node.specs.declared.kind.Kind.{Kind}
use Rattle.swc_tree_scoping.specs.declared.places.Standing.TheVariants as standing
use Rattle.swc_tree_scoping.specs.declared.places.Place.{Place}
use Rattle.swc_tree_scoping.specs.Places.{Path, place_at, program_place}
use Rattle.swc_tree_scoping.specs.Scopes.{taker}
use Rattle.swc_base_rename_analysis.specs.Laws.{is_body_at}
use Rattle.swc_tree_node.specs.Fits.{Fits}
use Rattle.swc_tree_scoping.specs.BoundNames.{Id}
use Rattle.swc_tree_scoping.specs.Readings.{by_ids, id_name}
use Rattle.swc_tree_scoping.specs.WellScoped.{IsDeclared, WellScoped}
use Rattle.swc_tree_grammar.specs.Writable.{is_writable}
use Rattle.swc_tree_renaming.specs.Apart.{DeclaredIn, IsAtOrAbove, IsPlainProgram, NamesApart, OccursIn}
use Rattle.swc_base_rename_analysis.specs.Named.{Named, Renaming, all_count, outer_count}
use Rattle.swc_base_rename_analysis.specs.Preserved.{IsPreserved}

-- the new text of an id, or its own where the map has none
abbrev pub new_text : (Id → Option (List ℕ)) → Ident → List ℕ
new_text new_texts i = unwrap_or (new_texts (i.sym, i.ctxt)) i.sym

-- the texts of ids, each by its one name, are those of a map
abbrev pub HasNewTexts : (Id → Option (List ℕ)) → (List ℕ → List ℕ) → Type 0
HasNewTexts new_texts text = (i : Ident) → text (id_name i) ≡ new_text new_texts i

-- a renamer that preserves no id
abbrev pub PreservesNone : Renaming → Type 0
PreservesNone r = (x : Id) → r.preserves x ≡ false

-- the ids that a renamer preserves are apart by the texts that they keep: of two that occur in one scope of the language and are declared there or
-- further out, and a free id from one that the scope declares in which it occurs; so it is where none is preserved
pub record KeepsApart (r : Renaming) (t : Node) : Type 0 where
  pub declared_apart : (s u v : Path) (i j : Ident) → IsTrue (r.preserves (i.sym, i.ctxt)) → IsTrue (r.preserves (j.sym, j.ctxt)) → OccursIn (by_ids t) s (id_name i) → OccursIn (by_ids t) s (id_name j)
      → DeclaredIn (by_ids t) u (id_name i) → DeclaredIn (by_ids t) v (id_name j) → IsAtOrAbove (by_ids t) u s → IsAtOrAbove (by_ids t) v s → i.sym ≡ j.sym → id_name i ≡ id_name j
  pub free_apart : (s : Path) (i j : Ident) → IsTrue (r.preserves (j.sym, j.ctxt)) → OccursIn (by_ids t) s (id_name i) → ¬ IsDeclared (by_ids t) (id_name i) → DeclaredIn (by_ids t) s (id_name j) → i.sym ≢ j.sym

-- no lexical name stands directly in the body of a `for` statement, so that the statement's own scope would take it
abbrev pub NoBodyDeclares : Node → Type 0
NoBodyDeclares t = (p s below : Path) (j : ℕ) (i : Ident) (w : Place) (k : Kind) → place_at program_place t p ≡ Some (w, Identifier k i) → w.standing ≡ standing.Lexical → taker standing.Lexical t p ≡ Some s
    → p ≡ s ++ (j ∷ below) → is_body_at false t (s ++ (j ∷ [])) ≡ true → ⊥

-- the names that the ids of a tree get are apart, whichever renamer gives them whose preserved ids are
abbrev pub GetsNamesApart : Node → Type 0
GetsNamesApart t = (r : Renaming) (new_texts : Id → Option (List ℕ)) (text : List ℕ → List ℕ) → KeepsApart r t → Named t r (IsPreserved t r.preserves) all_count new_texts → HasNewTexts new_texts text → NamesApart t text

-- so are those of a well-scoped module in which no body of a `for` statement declares
abbrev pub NamesAreApartWhereNoBodyDeclares : Type 0
NamesAreApartWhereNoBodyDeclares = (t : Node) (s : Slot) → Fits t s → IsPlainProgram t → WellScoped t → NoBodyDeclares t → GetsNamesApart t

-- so are those of each well-scoped module that can be written down
abbrev pub NamesAreApart : Type 0
NamesAreApart = (t : Node) (s : Slot) → Fits t s → IsPlainProgram t → WellScoped t → IsTrue (is_writable t) → GetsNamesApart t

-- on a well-scoped tree that fits some place, as each module and each script does, it is one whether all earlier names count
-- at a scope, or only those of the scope and of the scopes round it
abbrev pub ChainedIsFlat : Type 0
ChainedIsFlat = (t : Node) (s : Slot) (r : Renaming) (new_texts : Id → Option (List ℕ)) → Fits t s → WellScoped t
    → Named t r (IsPreserved t r.preserves) all_count new_texts ↔ Named t r (IsPreserved t r.preserves) (outer_count t) new_texts
