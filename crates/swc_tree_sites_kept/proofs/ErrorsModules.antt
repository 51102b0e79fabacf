-- All in a module is strict, and so no function of it has two parameters of one name.
use Rattle.std.proofs.Common.{◌≡◌, ℕ, Bool, true, false, inl, ◌||◌, IsTrue, ⊎_elim, Option, Some, None, [], ◌∷◌, refl, sym, ap, ◌∙◌}
use Rattle.std.specs.List.{slice_get}
use Rattle.swc_tree_marks.specs.declared.ident.Ident.{Ident}
use Rattle.swc_tree_node.specs.declared.kind.Kind.{Kind}
use Rattle.swc_tree_node.specs.declared.kind.Kind.TheVariants as kind
use Rattle.swc_tree_node.specs.declared.node.Node.{Node, Identifier, out-Node}
use Rattle.swc_tree_node.specs.declared.node.Node.TheOpen.{Node-F}
use Rattle.swc_tree_node.specs.declared.node.Node.TheVariants.{outs-Identifier}
use Rattle.swc_tree_scoping.specs.declared.places.Place.{Place}
use Rattle.swc_tree_scoping.specs.Places.{Path, child, children_in, place_at, place_below, place_in, program_place}
use Rattle.swc_tree_scoping.specs.WellScoped.{NoParameterTwice, is_module}
use Rattle.swc_tree_scoping.proofs.Under.{no_place_under, place_under}
use Rattle.swc_tree_renaming.specs.Apart.{NoParameterRepeated}
use Rattle.swc_tree_renaming.proofs.Shape.{some_same}
use Rattle.swc_tree_renaming.proofs.Whole.{module_layer}
use Rattle.swc_tree_sites_kept.specs.Errors.{IsFair}

or_true : (a b : Bool) → a ≡ true → (a || b) ≡ true
or_true true b h = refl
or_true false b h = absurd (cc)

place_stays : (w : Place) (t d : Node) (i : ℕ) (y : Node-F Node) → w.strict ≡ true → out-Node t ≡ y → child t i ≡ Some d → (place_below w t i).strict ≡ true
place_stays w t d i (Node-F.List ts) s o z = ap (λ y. (place_in w y i).strict) o ∙ s
place_stays w t d i (Node-F.Tree k ts) s o z = ap (λ y. (place_in w y i).strict) o ∙ or_true w.strict _ s
place_stays w t d i Node-F.Absent s o z = let y : Some d ≡ None = sym z ∙ ap (λ y. slice_get (children_in y) i) o in absurd (cc)
place_stays w t d i (Node-F.Flag x) s o z = let y : Some d ≡ None = sym z ∙ ap (λ y. slice_get (children_in y) i) o in absurd (cc)
place_stays w t d i (Node-F.Word x) s o z = let y : Some d ≡ None = sym z ∙ ap (λ y. slice_get (children_in y) i) o in absurd (cc)
place_stays w t d i (Node-F.Text x) s o z = let y : Some d ≡ None = sym z ∙ ap (λ y. slice_get (children_in y) i) o in absurd (cc)
place_stays w t d i (Node-F.Span x) s o z = let y : Some d ≡ None = sym z ∙ ap (λ y. slice_get (children_in y) i) o in absurd (cc)
place_stays w t d i (Node-F.Identifier k x) s o z = let y : Some d ≡ None = sym z ∙ ap (λ y. slice_get (children_in y) i) o in absurd (cc)

strict_below : (p : Path) (w v : Place) (t c : Node) → w.strict ≡ true → place_at w t p ≡ Some (v, c) → v.strict ≡ true
strict_below [] w v t c s e = let same : w ≡ v = ap (λ (q : Place × Node). q.0) (some_same (w, t) (v, c) e) in ap (λ (w : Place). w.strict) (sym same) ∙ s
strict_below (i ∷ p) w v t c s e = at (child t i) refl (λ u d. strict_below p u v d c)
  where
    at : (o : Option Node) → child t i ≡ o → ((u : Place) (d : Node) → u.strict ≡ true → place_at u d p ≡ Some (v, c) → v.strict ≡ true) → v.strict ≡ true
    at None z below = let y = sym e ∙ no_place_under w t i p z in absurd (cc)
    at (Some d) z below = below (place_below w t i) d (place_stays w t d i (out-Node t) s refl z) (sym (place_under w t d i p z) ∙ e)

-- each name of a module stands in strict code
strict_name : (t : Node) → IsTrue (is_module t) → (p : Path) (w : Place) (k : Kind) (i : Ident) → place_at program_place t p ≡ Some (w, Identifier k i) → w.strict ≡ true
strict_name t m [] w k i e =
    let (ts, o) = module_layer t m in
    let same : t ≡ Identifier k i = ap (λ (q : Place × Node). q.1) (some_same (program_place, t) (w, Identifier k i) e) in
    let z : Node-F.Tree kind.Module ts ≡ Node-F.Identifier k i = sym o ∙ ap out-Node same ∙ outs-Identifier k i in
    absurd (cc)
strict_name t m (j ∷ p) w k i e = at (child t j) refl
  where
    at : (o : Option Node) → child t j ≡ o → w.strict ≡ true
    at None z = let y = sym e ∙ no_place_under program_place t j p z in absurd (cc)
    at (Some d) z =
        let (ts, o) = module_layer t m in
        strict_below p (place_below program_place t j) w d (Identifier k i) (ap (λ y. (place_in program_place y j).strict) o) (sym (place_under program_place t d j p z) ∙ e)

-- no function of such a program has two parameters of one name: in a module all are in strict code
pub none_repeated : (t : Node) → IsFair t → NoParameterTwice t → NoParameterRepeated t
none_repeated t fair fine name f p q b c d e =
    ⊎_elim (λ m. fine name f p q b c d e (inl (strict_name t m p b.place b.kind b.identifier b.stands))) (λ s. fair.1 s name f p q b c d e) fair.0.0
