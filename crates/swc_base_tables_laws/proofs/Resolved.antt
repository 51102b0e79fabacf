-- Statements that were resolved in a program of their own are strict code as they were.
use Rattle.std.proofs.Common.{◌≡◌, Bool, List, [], ◌∷◌, map, refl, sym, ap, ◌∙◌}
use Rattle.swc_tree_node.specs.declared.kind.Kind.{Kind}
use Rattle.swc_tree_node.specs.declared.kind.Kind.TheVariants as kind
use Rattle.swc_tree_node.specs.declared.node.Node.{Node, Absent, List as Many, out-Node}
use Rattle.swc_tree_node.specs.declared.node.Node.TheOpen.{Node-F}
use Rattle.swc_tree_node.specs.declared.node.Node.TheVariants.{outs-List}
use Rattle.swc_tree_scoping.specs.declared.places.Place.{Place}
use Rattle.swc_tree_scoping.specs.Places.{has_use_strict, program_place}
use Rattle.swc_tree_scoping.specs.Readings.{by_texts}
use Rattle.swc_tree_scoping.specs.Resolved.{Contexts, remarked}
use Rattle.swc_tree_renaming.proofs.Blank.{place_same}
use Rattle.swc_base_resolver_laws.proofs.Same.{by_text, texts_stay}
use Rattle.swc_base_tables_injection.specs.Alone.{alone, is_strict_program, opening}
use Rattle.swc_base_tables_injection.specs.Brought.{nowhere}
use Rattle.swc_base_tables_laws.proofs.Programs.{layer_is, program_of, strict_code}
use Rattle.swc_base_tables_laws.proofs.Readings.{changed_program}

abbrev script_with : List Node → Node
script_with ts = program_of kind.Script nowhere ts Absent

module _ (k : Kind) (strict : Bool) (c : Contexts) (ts us : List Node) (resolved : alone k strict us ≡ remarked c (alone k strict ts)) where
  abbrev fields : List Node → List Node
  fields xs = by_texts nowhere ∷ Many (by_texts (opening strict) ∷ map by_texts xs) ∷ by_texts Absent ∷ []

  texts_are : (xs : List Node) → out-Node (by_texts (alone k strict xs)) ≡ Node-F.Tree k (fields xs)
  texts_are xs = ap out-Node (changed_program by_text k nowhere Absent (opening strict ∷ xs)) ∙ layer_is k (by_texts nowhere) (by_texts Absent) (by_texts (opening strict) ∷ map by_texts xs)

  same_texts : map by_texts us ≡ map by_texts ts
  same_texts =
      let layers : Node-F.Tree k (fields us) ≡ Node-F.Tree k (fields ts) = sym (texts_are us) ∙ ap out-Node (ap by_texts resolved ∙ texts_stay c (alone k strict ts)) ∙ texts_are ts in
      let lists : Many (by_texts (opening strict) ∷ map by_texts us) ≡ Many (by_texts (opening strict) ∷ map by_texts ts) = cc in
      let items : Node-F.List (by_texts (opening strict) ∷ map by_texts us) ≡ Node-F.List (by_texts (opening strict) ∷ map by_texts ts)
      = sym (outs-List (by_texts (opening strict) ∷ map by_texts us)) ∙ ap out-Node lists ∙ outs-List (by_texts (opening strict) ∷ map by_texts ts) in
      cc

  by_texts_strict : (t : Node) → is_strict_program (by_texts t) ≡ is_strict_program t
  by_texts_strict t = ap (λ (w : Place). w.strict) (place_same by_text program_place t 1)

  pub as_strict : has_use_strict us ≡ has_use_strict ts
  as_strict =
      sym (strict_code kind.Script refl nowhere Absent us) ∙ sym (by_texts_strict (script_with us))
      ∙ ap is_strict_program (changed_program by_text kind.Script nowhere Absent us ∙ ap (λ l. program_of kind.Script (by_texts nowhere) l (by_texts Absent)) same_texts ∙ sym (changed_program by_text kind.Script nowhere Absent ts))
      ∙ by_texts_strict (script_with ts) ∙ strict_code kind.Script refl nowhere Absent ts
