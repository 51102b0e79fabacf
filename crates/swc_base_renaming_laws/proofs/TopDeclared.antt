-- What an exported declaration of a module declares is bound at the module's top.
use Rattle.std.proofs.Common.{◌≡◌, ℕ, zero, suc, Bool, true, false, not, ◌&&◌, ◌||◌, IsTrue, Option, Some, None, List, [], ◌∷◌, ◌++◌, map, refl, sym, ap, ◌∙◌, subst}
use Rattle.std.specs.Prelude.{option_and_then, option_map, slice_get, if◌then◌else◌}
use Rattle.swc_tree_marks.specs.declared.ident.Ident.{Ident}
use Rattle.swc_tree_node.specs.declared.kind.Kind.{Kind}
use Rattle.swc_tree_node.specs.declared.kind.Kind.TheVariants as kind
use Rattle.swc_tree_node.specs.declared.kind.Class.TheVariants as class
use Rattle.swc_tree_node.specs.declared.slot.Role.TheVariants as role
use Rattle.swc_tree_node.specs.declared.node.Node.{Node, List as Many, Tree, out-Node}
use Rattle.swc_tree_node.specs.declared.node.Node.TheVariants.{outs-List, outs-Tree}
use Rattle.swc_tree_node.specs.declared.node.Node.TheOpen.{Node-F}
use Rattle.swc_tree_node.specs.Fits.{belongs}
use Rattle.swc_tree_scoping.specs.declared.places.Standing.{Standing}
use Rattle.swc_tree_scoping.specs.declared.places.Standing.TheVariants as standing
use Rattle.swc_tree_scoping.specs.declared.places.Place.{Place}
use Rattle.swc_tree_scoping.specs.declared.places.Scope.TheVariants as scope
use Rattle.swc_tree_scoping.specs.Places.{Path, child, children_in, field_role, function_standing, given, has_own_name, is_plain_function, named, opened, opened_as, opened_in, own_block, place_at, place_below, place_in, program_place}
use Rattle.swc_tree_scoping.specs.Scopes.{is_binding, rounds, seen_as, view_in}
use Rattle.swc_tree_scoping.specs.BoundNames.{Id, bound_ids, declared_ids, declared_in, id_of, name_in}
use Rattle.swc_tree_scoping.proofs.Under.{lower, place_under}
use Rattle.swc_tree_grammar.specs.Writable.{is_bindable}
use Rattle.swc_tree_grammar.proofs.Induction.{Each}
use Rattle.swc_base_rename_analysis.specs.declared.scopes.ScopeKind.TheVariants.{Fn}
use Rattle.swc_base_rename_analysis.specs.Analysis.{is_for_body, opened_round, scopes_below}
use Rattle.swc_base_rename_laws.proofs.Impossible.{impossible}
use Rattle.swc_base_rename_laws.proofs.WritableStaysNames.{binds, unbound}
use Rattle.swc_base_renaming_laws.proofs.Apart.{AtTop}
use Rattle.swc_base_renaming_laws.proofs.BindableNames.{no_arguments, no_eval}
use Rattle.swc_base_renaming_laws.proofs.Found.{AllOf, Found, Patterns, lift, none_seen, patterns, tree_found, under}

-- ---- declarations

every_pattern : (ts : List Node) → Each Patterns ts
every_pattern [] = tt
every_pattern (t ∷ ts) = (patterns t, every_pattern ts)

either_binding : (a b : Bool) → is_binding (if a then standing.Function else (if b then standing.SloppyFunction else standing.BlockFunction)) ≡ true
either_binding true b = refl
either_binding false true = refl
either_binding false false = refl

function_binding : (w : Place) (plain : Bool) → is_binding (function_standing w plain) ≡ true
function_binding w plain = either_binding (not (w.nested || own_block w)) (not w.strict && plain)

-- the name in the first field
first_found : (w : Place) (k : Kind) (a : Node) (ts : List Node) (o : Option Ident) → name_in (out-Node a) ≡ o → opened_round false w (Node-F.Tree k (a ∷ ts)) 0 ≡ [] → is_for_body (Node-F.Tree k (a ∷ ts)) 0 ≡ false
    → opened_as w k (has_own_name (a ∷ ts)) ≡ None → is_binding (place_in w (Node-F.Tree k (a ∷ ts)) 0).standing ≡ true → AllOf (Found w (Tree k (a ∷ ts))) (id_of o)
first_found w k a ts None e opens body none binds = tt
first_found w k a ts (Some i) e opens body none binds =
    let t = Tree k (a ∷ ts) in let v = place_below w t 0 in
    let here : Found v a (i.sym, i.ctxt) = record { path = []; place = v; node = a; there = refl; name = i; named = e; same = refl; binding = ap (λ y. is_binding (place_in w y 0).standing) (outs-Tree k (a ∷ ts)) ∙ binds; alone = refl; inside = refl } in
    (under w t 0 a (i.sym, i.ctxt) (ap (λ y. slice_get (children_in y) 0) (outs-Tree k (a ∷ ts))) (ap (λ y. is_for_body y 0) (outs-Tree k (a ∷ ts)) ∙ body) (ap (λ y. opened_round false w y 0) (outs-Tree k (a ∷ ts)) ∙ opens) (none_seen w k (a ∷ ts) 0 none) here, tt)

no_inherited_var : (i : ℕ) → field_role kind.VarDecl i ≡ role.Inherited → ⊥
no_inherited_var zero e = absurd (cc)
no_inherited_var (suc zero) e = absurd (cc)
no_inherited_var (suc (suc zero)) e = absurd (cc)
no_inherited_var (suc (suc (suc i))) e = absurd (cc)

no_inherited_using : (i : ℕ) → field_role kind.UsingDecl i ≡ role.Inherited → ⊥
no_inherited_using zero e = absurd (cc)
no_inherited_using (suc zero) e = absurd (cc)
no_inherited_using (suc (suc zero)) e = absurd (cc)
no_inherited_using (suc (suc (suc i))) e = absurd (cc)

-- what has no part that binds declares nothing
none_found : (w : Place) (k : Kind) (ts : List Node) → binds k ≡ false → AllOf (Found w (Tree k ts)) (bound_ids (Tree k ts))
none_found w k ts none = subst (AllOf (Found w (Tree k ts))) (sym (unbound k ts none)) tt

decl_row : (k : Kind) (ts : List Node) → IsTrue (belongs k class.Decl) → (w : Place) → own_block w ≡ false → AllOf (Found w (Tree k ts)) (declared_in (Tree k ts) (Node-F.Tree k ts))
decl_row kind.FnDecl [] b w e = tt
decl_row kind.FnDecl (a ∷ ts) b w e = first_found w kind.FnDecl a ts (name_in (out-Node a)) refl refl refl (ap (λ b. named b scope.Block) e) (function_binding w (is_plain_function (slice_get ts 0)))
decl_row kind.ClassDecl [] b w e = tt
decl_row kind.ClassDecl (a ∷ ts) b w e = first_found w kind.ClassDecl a ts (name_in (out-Node a)) refl refl refl refl refl
decl_row kind.VarDecl ts b w e = tree_found w kind.VarDecl ts refl (every_pattern ts) (λ i r. absurd (no_inherited_var i r))
decl_row kind.UsingDecl ts b w e = tree_found w kind.UsingDecl ts refl (every_pattern ts) (λ i r. absurd (no_inherited_using i r))
decl_row kind.TsInterfaceDecl ts b w e = none_found w kind.TsInterfaceDecl ts refl
decl_row kind.TsTypeAliasDecl ts b w e = none_found w kind.TsTypeAliasDecl ts refl
decl_row kind.TsEnumDecl ts b w e = none_found w kind.TsEnumDecl ts refl
decl_row kind.TsModuleDecl ts b w e = none_found w kind.TsModuleDecl ts refl
decl_row k ts b w e = impossible b

pub decl_found : (k : Kind) (ts : List Node) → IsTrue (belongs k class.Decl) → (w : Place) → own_block w ≡ false → AllOf (Found w (Tree k ts)) (declared_ids (Tree k ts))
decl_found k ts b w e = subst (AllOf (Found w (Tree k ts))) (sym (ap (declared_in (Tree k ts)) (outs-Tree k ts))) (decl_row k ts b w e)

-- ---- at the top of a module

abbrev ident_in : Standing → Option Ident → Option (Standing × Id)
ident_in r o = option_map (λ i. (r, (i.sym, i.ctxt))) o

abbrev id_in : Option (Place × Node) → Option (Standing × Id)
id_in o = option_and_then (λ (q : Place × Node). ident_in q.0.standing (name_in (out-Node q.1))) o

abbrev id_of_standing : Standing → Id → Option (Standing × Id)
id_of_standing r x = Some (r, x)

-- the place of an exported declaration
abbrev pub decl_place : Node → List Node → Node → ℕ → Node → Node → Place
decl_place a ts c n b d =
    place_below (place_below (place_below program_place (Tree kind.Module (a ∷ Many ts ∷ c ∷ [])) 1) (Many ts) n) (Tree kind.ExportDecl (b ∷ d ∷ [])) 1

pub no_own_block : (a : Node) (ts : List Node) (c : Node) (n : ℕ) (b d : Node) → own_block (decl_place a ts c n b d) ≡ false
no_own_block a ts c n b d = ap (λ y. own_block (place_in (place_below (place_below program_place (Tree kind.Module (a ∷ Many ts ∷ c ∷ [])) 1) (Many ts) n) y 1)) (outs-Tree kind.ExportDecl (b ∷ d ∷ []))

-- an identifier of the id is bound at a path, round which the program is the only scope
pub record TopBinding (t : Node) (x : Id) : Type 0 where
  pub path : Path
  pub place : Place
  pub node : Node
  pub there : place_at program_place t path ≡ Some (place, node)
  pub name : Ident
  pub named : name_in (out-Node node) ≡ Some name
  pub same : (name.sym, name.ctxt) ≡ x
  pub binding : is_binding place.standing ≡ true
  pub inside : rounds program_place t path ≡ ([], true) ∷ []

module _ (a : Node) (ts : List Node) (c : Node) (n : ℕ) (b d : Node) (e : slice_get ts n ≡ Some (Tree kind.ExportDecl (b ∷ d ∷ []))) where
  abbrev fields : List Node
  fields = a ∷ Many ts ∷ c ∷ []

  abbrev whole : Node
  whole = Tree kind.Module fields

  abbrev item : Node
  item = Tree kind.ExportDecl (b ∷ d ∷ [])

  abbrev list_place : Place
  list_place = place_below program_place whole 1

  abbrev item_place : Place
  item_place = place_below list_place (Many ts) n

  in_item : (x : Id) → Found (decl_place a ts c n b d) d x → Found item_place item x
  in_item x f = under item_place item 1 d x (ap (λ y. slice_get (children_in y) 1) (outs-Tree kind.ExportDecl (b ∷ d ∷ []))) (ap (λ y. is_for_body y 1) (outs-Tree kind.ExportDecl (b ∷ d ∷ [])))
      (ap (λ y. opened_round false item_place y 1) (outs-Tree kind.ExportDecl (b ∷ d ∷ []))) (none_seen item_place kind.ExportDecl (b ∷ d ∷ []) 1 refl) f

  in_list : (x : Id) → Found item_place item x → Found list_place (Many ts) x
  in_list x f = under list_place (Many ts) n item x (ap (λ y. slice_get (children_in y) n) (outs-List ts) ∙ e) (ap (λ y. is_for_body y n) (outs-List ts)) (ap (λ y. opened_round false list_place y n) (outs-List ts))
      (ap (λ y. seen_as (opened_in list_place y) (view_in y n)) (outs-List ts)) f

  module_child : child whole 1 ≡ Some (Many ts)
  module_child = ap (λ y. slice_get (children_in y) 1) (outs-Tree kind.Module fields)

  inside : {x : Id} (g : Found list_place (Many ts) x) → rounds program_place whole (1 ∷ g.path) ≡ ([], true) ∷ []
  inside g = ap (λ o. map (lower 1) (given o [] (λ c. rounds list_place c g.path)) ++ seen_as (opened program_place whole) (view_in (out-Node whole) 1)) module_child
      ∙ ap (λ l. map (lower 1) l ++ seen_as (opened program_place whole) (view_in (out-Node whole) 1)) g.inside
      ∙ ap (λ y. seen_as (opened_in program_place y) (view_in y 1)) (outs-Tree kind.Module fields)

  at_top : (x : Id) → is_bindable true x.0 ≡ true → Found list_place (Many ts) x → AtTop whole x
  at_top x h f = record {
    path = 1 ∷ f.path;
    standing = f.place.standing;
    stands = ap id_in (place_under program_place whole (Many ts) 1 f.path module_child ∙ f.there) ∙ ap (ident_in f.place.standing) f.named ∙ ap (id_of_standing f.place.standing) f.same;
    binds = f.binding;
    analysed = no_arguments x.0 h;
    not_eval = no_eval x.0 h;
    alone = ap (λ o. map (lift 1) (given o [] (λ c. scopes_below (is_for_body (out-Node whole) 1) list_place c f.path)) ++ opened_round false program_place (out-Node whole) 1) module_child
        ∙ ap (λ y. map (lift 1) (scopes_below (is_for_body y 1) list_place (Many ts) f.path) ++ opened_round false program_place y 1) (outs-Tree kind.Module fields)
        ∙ ap (λ l. map (lift 1) l ++ (([], Fn) ∷ [])) f.alone;
    inside = inside f;
  }

  pub top_found : (x : Id) → is_bindable true x.0 ≡ true → Found (decl_place a ts c n b d) d x → AtTop whole x
  top_found x h f = at_top x h (in_list x (in_item x f))

  pub top_binding : (x : Id) → Found (decl_place a ts c n b d) d x → TopBinding whole x
  top_binding x f = let g = in_list x (in_item x f) in record {
    path = 1 ∷ g.path;
    place = g.place;
    node = g.node;
    there = place_under program_place whole (Many ts) 1 g.path module_child ∙ g.there;
    name = g.name;
    named = g.named;
    same = g.same;
    binding = g.binding;
    inside = inside g;
  }
