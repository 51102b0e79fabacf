-- In the smaller tree each context is the mark of the scope that declares the name's id, or the unresolved mark.
use Rattle.std.proofs.Common.{◌≡◌, ℕ, Bool, true, false, ◌||◌, Some, List, refl, sym, ap, ◌∙◌, subst}
use Rattle.swc_tree_marks.specs.declared.ident.Ident.{Ident}
use Rattle.swc_tree_node.specs.declared.kind.Kind.{Kind}
use Rattle.swc_tree_node.specs.declared.node.Node.{Node, Identifier}
use Rattle.swc_tree_scoping.specs.declared.places.Standing.TheVariants as standing
use Rattle.swc_tree_scoping.specs.declared.places.Place.{Place}
use Rattle.swc_tree_scoping.specs.Places.{Path, place_at, program_place}
use Rattle.swc_tree_scoping.specs.Scopes.{is_binding, is_reference, is_name}
use Rattle.swc_tree_scoping.specs.Declares.{IsUncaught}
use Rattle.swc_tree_scoping.specs.Resolved.{HasMeantMark}
use Rattle.swc_tree_scoping.specs.WellScoped.{EachInOneScope, Stands, IsClean}
use Rattle.swc_tree_renaming.specs.Apart.{CapturesNone, HasNoSloppy, HasTexts, MeansNoGlobalValue, SameScopes}
use Rattle.swc_tree_renaming.proofs.Core.{HasOwner, refers_to, taken_by as has_taker}
use Rattle.swc_tree_renaming.proofs.Caught.{uncaught}
use Rattle.swc_tree_sites.proofs.Loose.{S}
use Rattle.swc_tree_sites.proofs.Marks.{IsMarked, binding_mark, marks_of}
use Rattle.swc_tree_sites.proofs.Owners.{reference_mark}
use Rattle.swc_tree_sites.specs.Smaller.{AreKept, IsPlain}

-- `A` is what is left of the input, read by ids; `v` is the output and `u` the output resolved, of which `n` and `m` are left
module _ (A n : Node) (text : List ℕ → List ℕ) (shape : SameScopes A n) (clear : IsClean A) (cleared : IsClean n) (texts : HasTexts A text n) (settled : HasNoSloppy A) (one : EachInOneScope A) (apart : CapturesNone A text)
    (v u m : Node) (marks : Path → ℕ) (unresolved : ℕ) (is : IsMarked v u marks unresolved) (plain : IsPlain n) (same : SameScopes n m) (kept_texts : HasTexts n (λ x. x) m)
    (kept : AreKept (S program_place m).sites (S program_place u).sites) (no_script : MeansNoGlobalValue v) (none : MeansNoGlobalValue n) where
  pub met : (p : Path) (x : List ℕ) → Stands n p standing.Variable x → IsUncaught n p x
  met p x at = let (s, e) = plain.takes p standing.Variable x (record { at = at; binds = refl }) in uncaught A n text shape clear cleared texts settled one apart p s x at e

  abbrev pub Owns : List ℕ → List ℕ → Type 0
  Owns = HasOwner A n text shape clear cleared texts settled one apart (marks_of m) unresolved none

  pub has_owner : (q : Path) (w : Place) (k : Kind) (i : Ident) (x : List ℕ) → place_at program_place m q ≡ Some (w, Identifier k i) → is_name w.standing ≡ true → Stands A q w.standing x → Owns x i.ctxt
  has_owner q w k i x h names at = by (is_binding w.standing) refl (is_reference w.standing) refl
    where
      named : i.sym ≡ text x
      named =
          let (l, j, e) = shape.forth q at.place at.kind at.identifier at.stands in
          let first : j.sym ≡ text at.identifier.sym = texts q at.place at.place at.kind l at.identifier j at.stands e (subst (λ r. is_name r ≡ true) (sym at.stands_so) names) in
          kept_texts q at.place w l k j i e h (subst (λ r. is_name r ≡ true) (sym at.stands_so) names) ∙ first ∙ ap text at.named

      by : (b : Bool) → is_binding w.standing ≡ b → (c : Bool) → is_reference w.standing ≡ c → Owns x i.ctxt
      by true b c d = has_taker A n text shape clear cleared texts settled one apart (marks_of m) unresolved none q w.standing x i.ctxt at (binding_mark v u n m marks unresolved is plain same kept_texts kept met q w k i h b)
      by false b true d =
          refers_to A n text shape clear cleared texts settled one apart (marks_of m) unresolved none q w.standing x i.ctxt at d
          (subst (λ y. HasMeantMark (marks_of m) unresolved n q y i.ctxt) named (reference_mark v u n m marks unresolved is plain same kept_texts kept met no_script none q w k i h d))
      by false b false d = let z = sym names ∙ ap (λ b. b || is_reference w.standing) b ∙ d in absurd (cc)
