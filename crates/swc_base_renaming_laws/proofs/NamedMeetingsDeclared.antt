-- What a declaration binds is among its names, and what meets in it does not go by where it stands.
use Rattle.std.proofs.Common.{◌≡◌, ℕ, zero, suc, Bool, true, false, not, ◌||◌, IsTrue, ◌⊎◌, inl, inr, Option, Some, None, List, [], ◌∷◌, refl, sym, ap, ◌∙◌, subst, cond}
use Rattle.std.specs.List.{list_all, slice_get}
use Rattle.std.specs.Prelude.{option_map, unwrap_or}
use Rattle.swc_tree_marks.specs.declared.ident.Ident.{Ident}
use Rattle.swc_tree_node.specs.declared.kind.Kind.{Kind}
use Rattle.swc_tree_node.specs.declared.kind.Kind.TheVariants as kind
use Rattle.swc_tree_node.specs.declared.kind.Class.TheVariants as class
use Rattle.swc_tree_node.specs.declared.slot.Content.TheVariants as content
use Rattle.swc_tree_node.specs.declared.slot.Role.{Role}
use Rattle.swc_tree_node.specs.declared.slot.Role.TheVariants as role
use Rattle.swc_tree_node.specs.declared.slot.Slot.{Slot}
use Rattle.swc_tree_node.specs.declared.slot.Slot.TheVariants as slot
use Rattle.swc_tree_node.specs.declared.node.Node.{Node, Identifier, Tree, out-Node}
use Rattle.swc_tree_node.specs.declared.node.Node.TheOpen.{Node-F}
use Rattle.swc_tree_node.specs.declared.node.Node.TheVariants.{outs-Tree}
use Rattle.swc_tree_node.specs.Table.{fields_of}
use Rattle.swc_tree_node.specs.Fits.{Fits, belongs}
use Rattle.swc_tree_node.proofs.Fit.{both as both_are}
use Rattle.swc_tree_scoping.specs.declared.places.Standing.TheVariants as standing
use Rattle.swc_tree_scoping.specs.declared.places.Place.{Place}
use Rattle.swc_tree_scoping.specs.Folds.{each_in}
use Rattle.swc_tree_scoping.specs.Places.{field_role, place_in, standing_below}
use Rattle.swc_tree_scoping.specs.Scopes.{is_name, is_reference}
use Rattle.swc_tree_scoping.specs.BoundNames.{Id, declared_ids, name_in}
use Rattle.swc_tree_scoping.proofs.Remarked.{identifier_is}
use Rattle.swc_tree_sites.specs.Smaller.{In}
use Rattle.swc_base_rename_substitution.specs.Names.{same_id}
use Rattle.swc_base_rename_substitution.specs.Exports.{distinct, without}
use Rattle.swc_base_rename_laws.proofs.OuterTextsNames.{declaration_here}
use Rattle.swc_base_rename_laws.proofs.Impossible.{impossible}
use Rattle.swc_base_renaming_laws.proofs.Found.{AllOf, Found}
use Rattle.swc_base_renaming_laws.proofs.TopDeclared.{decl_found}
use Rattle.swc_base_renaming_laws.specs.Meetings.{Meeting, tree_met}
use Rattle.swc_base_renaming_laws.proofs.Meets.{M, kids, names_to, out_is}
use Rattle.swc_base_renaming_laws.proofs.Placed.{placed, sort}
use Rattle.swc_base_renaming_laws.proofs.NamedMeetingsWritten.{T}

-- ---- ids, each once

without_in : (x y : Id) (ys : List Id) → In x (without y ys) → In x ys
without_in x y [] h = absurd h
without_in x y (z ∷ ys) h = by (same_id z y) h (without_in x y ys)
  where
    by : (b : Bool) → In x (cond b (without y ys) (z ∷ without y ys)) → (In x (without y ys) → In x ys) → (z ≡ x) ⊎ In x ys
    by true h rest = inr (rest h)
    by false (inl e) rest = inl e
    by false (inr h) rest = inr (rest h)

pub distinct_in : (x : Id) (xs : List Id) → In x (distinct xs) → In x xs
distinct_in x [] h = absurd h
distinct_in x (y ∷ ys) (inl e) = inl e
distinct_in x (y ∷ ys) (inr h) = inr (distinct_in x ys (without_in x y (distinct ys) h))

-- ---- what is declared is a name

one_of : (P : Id → Type 0) (x : Id) (xs : List Id) → AllOf P xs → In x xs → P x
one_of P x [] l h = absurd h
one_of P x (y ∷ ys) l (inl e) = subst P e l.0
one_of P x (y ∷ ys) l (inr h) = one_of P x ys l.1 h

found_name : (w : Place) (t : Node) (x : Id) (f : Bool) (own : Option Ident) → Found w t x → In x (M w t f own).names
found_name w t x f own a = by (out-Node a.node) refl
  where
    named : is_name a.place.standing ≡ true
    named = ap (λ b. b || is_reference a.place.standing) a.binding

    none : {A : Type 0} (y : Node-F Node) → out-Node a.node ≡ y → name_in y ≡ None → A
    none y o e = let z : None ≡ Some a.name = sym (ap name_in o ∙ e) ∙ a.named in absurd (cc)

    by : (y : Node-F Node) → out-Node a.node ≡ y → In x (M w t f own).names
    by (Node-F.Identifier k i) o =
        let is : a.node ≡ Identifier k i = identifier_is a.node k i o in
        let same : i ≡ a.name = let z : Some i ≡ Some a.name = sym (ap name_in o) ∙ a.named in cc in
        subst (λ x. In x (M w t f own).names) (ap (λ (i : Ident). (i.sym, i.ctxt)) same ∙ a.same) (names_to a.path w a.place t f own k i (a.there ∙ ap (λ n. Some (a.place, n)) is) named)
    by Node-F.Absent o = none Node-F.Absent o refl
    by (Node-F.Flag z) o = none (Node-F.Flag z) o refl
    by (Node-F.Word z) o = none (Node-F.Word z) o refl
    by (Node-F.Text z) o = none (Node-F.Text z) o refl
    by (Node-F.Span z) o = none (Node-F.Span z) o refl
    by (Node-F.List z) o = none (Node-F.List z) o refl
    by (Node-F.Tree k z) o = none (Node-F.Tree k z) o refl

pub declared_names : (d : Node) (x : Id) → Fits d (slot.One (content.Node class.Decl)) → In x (declared_ids d) → In x (M (T standing.Plain) d false None).names
declared_names d x fit h =
    let (k, ts, e, b, fields) = declaration_here d fit in
    let all : AllOf (Found (T standing.Plain) d) (declared_ids d) = subst (λ d. AllOf (Found (T standing.Plain) d) (declared_ids d)) (sym e) (decl_found k ts b (T standing.Plain) refl) in
    found_name (T standing.Plain) d x false None (one_of (Found (T standing.Plain) d) x (declared_ids d) all h)

-- ---- the place of a declaration

-- a field in which the standing of the whole does not show, but for kinds of names of functions
abbrev is_free_role : Role → Bool
is_free_role role.Inherited = false
is_free_role role.OwnName = false
is_free_role _ = true

declaration_roles : (k : Kind) → (not (belongs k class.Decl) || list_all (λ f. is_free_role f.2) (fields_of k)) ≡ true
declaration_roles kind.Module = refl
declaration_roles _ = refl

second : (a b : Bool) → (not a || b) ≡ true → a ≡ true → b ≡ true
second true b h e = h
second false b h e = absurd (cc)

free_at : (fs : List (List ℕ × Slot × Role)) (i : ℕ) → list_all (λ f. is_free_role f.2) fs ≡ true → is_free_role (unwrap_or (option_map (λ f. f.2) (slice_get fs i)) role.Plain) ≡ true
free_at [] i h = refl
free_at (f ∷ fs) zero h = (both_are (is_free_role f.2) (list_all (λ f. is_free_role f.2) fs) h).0
free_at (f ∷ fs) (suc i) h = free_at fs i (both_are (is_free_role f.2) (list_all (λ f. is_free_role f.2) fs) h).1

free_role : (k : Kind) (i : ℕ) → IsTrue (belongs k class.Decl) → is_free_role (field_role k i) ≡ true
free_role k i b = free_at (fields_of k) i (second (belongs k class.Decl) (list_all (λ f. is_free_role f.2) (fields_of k)) (declaration_roles k) b)

each_placed : (ps qs : ℕ → Place) (ts : List Node) → ((i : ℕ) → sort (ps i).standing ≡ sort (qs i).standing) → each_in M ps ts ≡ each_in M qs ts
each_placed ps qs [] e = refl
each_placed ps qs (t ∷ ts) e =
    ap (λ (n : Meeting). n ∷ each_in M (λ i. ps (suc i)) ts) (placed t (ps zero) (qs zero) (e zero)) ∙ ap (λ l. M (qs zero) t ∷ l) (each_placed (λ i. ps (suc i)) (λ i. qs (suc i)) ts (λ i. e (suc i)))

function_chosen : (a b : Bool) → sort (cond a standing.Function (cond b standing.SloppyFunction standing.BlockFunction)) ≡ standing.Function
function_chosen true b = refl
function_chosen false true = refl
function_chosen false false = refl

module _ (w v : Place) where
  standing_alike : (k : Kind) (ts : List Node) (i : ℕ) (x : Role) → is_free_role x ≡ true → sort (standing_below w k ts i x) ≡ sort (standing_below v k ts i x)
  standing_alike k ts i role.Inherited h = absurd (cc)
  standing_alike k ts i role.OwnName h = absurd (cc)
  standing_alike k ts i role.Function h = function_chosen _ _ ∙ sym (function_chosen _ _)
  standing_alike k ts i role.Plain h = refl
  standing_alike k ts i _ h = refl

  kids_alike : (k : Kind) (ts : List Node) → IsTrue (belongs k class.Decl) → kids w k ts ≡ kids v k ts
  kids_alike k ts b = each_placed (place_in w (Node-F.Tree k ts)) (place_in v (Node-F.Tree k ts)) ts (λ i. standing_alike k ts i (field_role k i) (free_role k i b))

  layer_alike : (k : Kind) (ts : List Node) (ms : List Meeting) (f : Bool) (own : Option Ident) → IsTrue (belongs k class.Decl) → tree_met w k ts ms f own ≡ tree_met v k ts ms f own
  layer_alike kind.ClassDecl ts ms f own b = refl
  layer_alike kind.FnDecl ts ms f own b = refl
  layer_alike kind.VarDecl ts ms f own b = refl
  layer_alike kind.UsingDecl ts ms f own b = refl
  layer_alike kind.TsInterfaceDecl ts ms f own b = refl
  layer_alike kind.TsTypeAliasDecl ts ms f own b = refl
  layer_alike kind.TsEnumDecl ts ms f own b = refl
  layer_alike kind.TsModuleDecl ts ms f own b = refl
  layer_alike k ts ms f own b = impossible b

  pub declaration_alike : (k : Kind) (ts : List Node) (f : Bool) (own : Option Ident) → IsTrue (belongs k class.Decl) → M w (Tree k ts) f own ≡ M v (Tree k ts) f own
  declaration_alike k ts f own b =
      out_is w (Tree k ts) (Node-F.Tree k ts) f own (outs-Tree k ts) ∙ layer_alike k ts (kids w k ts) f own b ∙ ap (λ ms. tree_met v k ts ms f own) (kids_alike k ts b)
      ∙ sym (out_is v (Tree k ts) (Node-F.Tree k ts) f own (outs-Tree k ts))
