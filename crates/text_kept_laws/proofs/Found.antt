-- A renamer gives texts to identifiers that stand in the tree.
use Rattle.std.proofs.Common.{◌≡◌, ◌≢◌, ℕ, Bool, true, false, Option, Some, None, List, [], ◌∷◌, refl, sym, ap, ◌∙◌, subst}
use Rattle.std.specs.Prelude.{option_and_then, option_map, if◌then◌else◌}
use Rattle.std.proofs.lemmas.Slice.Eq.{bytes_eq-Decides}
use Rattle.swc_tree_marks.specs.declared.ident.Ident.{Ident}
use Rattle.swc_tree_node.specs.declared.kind.Kind.{Kind}
use Rattle.swc_tree_node.specs.declared.node.Node.{Node, Identifier, out-Node}
use Rattle.swc_tree_node.specs.declared.node.Node.TheOpen.{Node-F}
use Rattle.swc_tree_scoping.specs.declared.places.Standing.{Standing}
use Rattle.swc_tree_scoping.specs.declared.places.Place.{Place}
use Rattle.swc_tree_scoping.specs.BoundNames.{Id, name_in}
use Rattle.swc_tree_scoping.specs.Places.{Path, child, given, place_at, place_below, program_place}
use Rattle.swc_tree_scoping.proofs.Remarked.{identifier_is}
use Rattle.swc_tree_walk.specs.Nodes.{node_at}
use Rattle.swc_base_rename_substitution.specs.Names.{if_other_text, same_text}
use Rattle.swc_base_rename_analysis.specs.Ids.{id_at}
use Rattle.swc_base_rename_analysis.specs.Named.{Counting, Named, Renaming}
use Rattle.swc_base_rename_program.specs.Renamed.{new_id_by}
use Rattle.text_kept_laws.proofs.Free.{some_same}
use Rattle.text_kept_laws.specs.Spelling.{GivesWords, IsWord}
use Rattle.text_kept_laws.specs.Namings.{GivesNewWords}

-- ---- a text that counts

record Other (x : Id) (found : Option (List ℕ)) (y : Id) : Type 0 where
  found_is : found ≡ Some y.0
  other : same_text y x ≡ false

other_text : (x y : Id) (o : Option (List ℕ)) → if_other_text x (option_map (λ text. (text, [])) o) ≡ Some y → Other x o y
other_text x y None e = absurd (cc)
other_text x y (Some text) e = by (same_text (text, []) x) refl e
  where
    by : (b : Bool) → same_text (text, []) x ≡ b → (if b then None else Some (text, [])) ≡ Some y → Other x (Some text) y
    by true h e = absurd (cc)
    by false h e = (let same : (text, []) ≡ y = some_same e in record { found_is = ap (λ (y : Id). Some y.0) same; other = ap (λ y. same_text y x) (sym same) ∙ h })

-- ---- where an id stands

record Found (t : Node) (p : Path) (x : Id) : Type 0 where
  kind : Kind
  name : Ident
  is : node_at t p ≡ Some (Identifier kind name)
  id : (name.sym, name.ctxt) ≡ x

-- what stands at a place stands at the path
at_path : (p : Path) (w v : Place) (t n : Node) → place_at w t p ≡ Some (v, n) → node_at t p ≡ Some n
at_path [] w v t n e = ap (option_map (λ (q : Place × Node). q.1)) e
at_path (i ∷ p) w v t n e = by (λ c. at_path p (place_below w t i) v c n) (child t i) e
  where
    by : ((c : Node) → place_at (place_below w t i) c p ≡ Some (v, n) → node_at c p ≡ Some n) → (o : Option Node) → given o None (λ c. place_at (place_below w t i) c p) ≡ Some (v, n)
        → given o None (λ c. node_at c p) ≡ Some n
    by further None e = absurd (cc)
    by further (Some c) e = further c e

abbrev seen_in : Place → Node-F Node → Option (Standing × Id)
seen_in w y = option_map (λ i. (w.standing, (i.sym, i.ctxt))) (name_in y)

second : (q r : Standing × Id) → Some q ≡ Some r → q.1 ≡ r.1
second q r h = ap (λ (x : Standing × Id). x.1) (some_same h)

seen : (t : Node) (p : Path) (w : Place) (n : Node) (r : Standing) (x : Id) → place_at program_place t p ≡ Some (w, n) → (y : Node-F Node) → out-Node n ≡ y → seen_in w y ≡ Some (r, x) → Found t p x
seen t p w n r x e (Node-F.Identifier k i) o h =
    record { kind = k; name = i; is = at_path p program_place w t n e ∙ ap Some (identifier_is n k i o); id = second (w.standing, (i.sym, i.ctxt)) (r, x) h }
seen t p w n r x e Node-F.Absent o h = absurd (cc)
seen t p w n r x e (Node-F.Flag v) o h = absurd (cc)
seen t p w n r x e (Node-F.Word v) o h = absurd (cc)
seen t p w n r x e (Node-F.Text v) o h = absurd (cc)
seen t p w n r x e (Node-F.Span v) o h = absurd (cc)
seen t p w n r x e (Node-F.List v) o h = absurd (cc)
seen t p w n r x e (Node-F.Tree k v) o h = absurd (cc)

found : (t : Node) (p : Path) (r : Standing) (x : Id) → id_at t p ≡ Some (r, x) → Found t p x
found t p r x h = by (place_at program_place t p) refl h
  where
    by : (o : Option (Place × Node)) → place_at program_place t p ≡ o → option_and_then (λ (q : Place × Node). seen_in q.0 (out-Node q.1)) o ≡ Some (r, x) → Found t p x
    by None e h = absurd (cc)
    by (Some q) e h = seen t p q.0 q.1 r x e (out-Node q.1) refl h

-- ---- the new texts

module _ (t : Node) (r : Renaming) (preserved : List ℕ → Type 0) (counts : Counting) (new_texts : Id → Option (List ℕ)) (named : Named t r preserved counts new_texts) where
  abbrev Gives : Id → ℕ → Type 0
  Gives x n = r.text x n ≢ x.0 → IsWord (r.text x n)

  pub gives_words : GivesNewWords r t → GivesWords (new_id_by new_texts)
  gives_words g x y e =
      let o = other_text x y (new_texts x) e in
      let (a, h) = named.no_other x y.0 o.found_is in
      let (least, is) = named.each a x h in
      let f = found t a.1 h.declared.standing x h.declared.stands in
      let same : y.0 ≡ r.text x (named.taken x) = some_same (sym o.found_is ∙ is) in
      let differs : y.0 ≡ x.0 → ⊥ = λ z. (let never : same_text y x ≡ true = (bytes_eq-Decides y.0 x.0).1 z in let no : same_text y x ≡ false = o.other in absurd (cc)) in
      let n : ℕ = named.taken x in
      let given : Gives x n = subst (λ x. Gives x n) f.id (g a.1 f.kind f.name n f.is least.within) in
      subst IsWord (sym same) (given (λ z. differs (same ∙ z)))
