-- Pairs of the fold over a program meet in it.
use Rattle.std.proofs.Common.{◌≡◌, ℕ, zero, suc, Bool, true, false, not, ◌&&◌, ◌||◌, ◌==◌, IsTrue, ◌⊎◌, inl, inr, ⊎_elim, Option, Some, None, List, [], ◌∷◌, ◌++◌, refl, sym, ap, ◌∙◌, subst, cond, arith}
use Rattle.std.specs.List.{slice_get}
use Rattle.swc_tree_marks.specs.declared.ident.Ident.{Ident}
use Rattle.swc_tree_node.specs.declared.kind.Kind.{Kind}
use Rattle.swc_tree_node.specs.declared.kind.Kind.TheVariants as kind
use Rattle.swc_tree_node.specs.declared.fields.statements.fn_decl.TheConstants as fn_decl
use Rattle.swc_tree_node.specs.declared.node.Node.{Node, Identifier, out-Node}
use Rattle.swc_tree_node.specs.declared.node.Node.TheOpen.{Node-F}
use Rattle.swc_tree_scoping.specs.declared.places.Standing.{Standing}
use Rattle.swc_tree_scoping.specs.declared.places.Standing.TheVariants as standing
use Rattle.swc_tree_scoping.specs.declared.places.Place.{Place}
use Rattle.swc_tree_scoping.specs.Places.{Path, child, children_in, function_standing, own_block, own_name, place_at, place_below, place_in, program_place}
use Rattle.swc_tree_scoping.specs.Scopes.{is_name}
use Rattle.swc_tree_scoping.specs.BoundNames.{Id, name_in, name_of}
use Rattle.swc_tree_scoping.proofs.Remarked.{identifier_is}
use Rattle.swc_tree_scoping.proofs.Under.{place_under}
use Rattle.swc_tree_sites.specs.Smaller.{In}
use Rattle.swc_base_rename_analysis.specs.Analysis.{Declares, IsAnalysed, IsOwnName, IsRound, OccursIn, uses_own_name}
use Rattle.swc_base_rename_analysis_laws.proofs.Rounds.{all_steps}
use Rattle.swc_base_rename_scoped_laws.proofs.ByIds.{to_id}
use Rattle.swc_base_renaming_laws.specs.Settled.{PairsMeet}
use Rattle.swc_base_renaming_laws.specs.Meetings.{id_of, met, used}
use Rattle.swc_base_renaming_laws.proofs.Meets.{NameIn, OwnUse, Uses, own_of}
use Rattle.swc_base_renaming_laws.proofs.Sound.{PairAt, pairs_from}

-- ---- names of functions are names

chosen : (a b : Bool) → is_name (cond a standing.Function (cond b standing.SloppyFunction standing.BlockFunction)) ≡ true
chosen true b = refl
chosen false true = refl
chosen false false = refl

function_named : (w : Place) (plain : Bool) → is_name (function_standing w plain) ≡ true
function_named w plain = chosen (not (w.nested || own_block w)) (not w.strict && plain)

own_named : (r : Standing) → is_name (own_name r kind.FnExpr) ≡ true
own_named standing.DefaultExport = refl
own_named r = refl

name_standing : (v : Place) (y : Node-F Node) → uses_own_name y ≡ true → is_name (place_in v y fn_decl.IDENT).standing ≡ true
name_standing v (Node-F.Tree kind.FnDecl ts) h = function_named v _
name_standing v (Node-F.Tree kind.FnExpr ts) h = own_named v.standing
name_standing v y h = absurd (cc)

-- ---- a function that counts as using its name

record OwnName (w : Place) (t : Node) (s : Path) (y : Id) : Type 0 where
  pub path : Path
  pub place : Place
  pub function : Node
  pub kind : Kind
  pub name : Ident
  pub scope : s ≡ path ++ (fn_decl.FUNCTION ∷ [])
  pub there : place_at w t path ≡ Some (place, function)
  pub uses : uses_own_name (out-Node function) ≡ true
  pub named : place_at w t (path ++ (fn_decl.IDENT ∷ [])) ≡ Some (place_below place function fn_decl.IDENT, Identifier kind name)
  pub same : id_of name ≡ y

used_some : (o : Option Ident) (y : Id) → In y (used o) → (i : Ident) × (o ≡ Some i) × (id_of i ≡ y)
used_some None y h = absurd h
used_some (Some i) y (inl e) = (i, refl, e)
used_some (Some i) y (inr h) = absurd h

chosen_some : (a b : Bool) (o : Option Ident) (i : Ident) → cond (a && b) o None ≡ Some i → (a ≡ true) × (b ≡ true) × (o ≡ Some i)
chosen_some true true o i e = (refl, refl, e)
chosen_some true false o i e = absurd (cc)
chosen_some false b o i e = absurd (cc)

named_node : (o : Option Node) (i : Ident) → name_of o ≡ Some i → (n : Node) × (k : Kind) × (o ≡ Some n) × (n ≡ Identifier k i)
named_node None i e = absurd (cc)
named_node (Some n) i e = by (out-Node n) refl e
  where
    by : (y : Node-F Node) → out-Node n ≡ y → name_in y ≡ Some i → (m : Node) × (k : Kind) × (Some n ≡ Some m) × (m ≡ Identifier k i)
    by (Node-F.Identifier k j) o e = let same : j ≡ i = cc in (n, k, refl, identifier_is n k j o ∙ ap (Identifier k) same)
    by Node-F.Absent o e = absurd (cc)
    by (Node-F.Flag x) o e = absurd (cc)
    by (Node-F.Word x) o e = absurd (cc)
    by (Node-F.Text x) o e = absurd (cc)
    by (Node-F.Span x) o e = absurd (cc)
    by (Node-F.List x) o e = absurd (cc)
    by (Node-F.Tree k x) o e = absurd (cc)

function_field : (j : ℕ) → (j == fn_decl.FUNCTION) ≡ true → j ≡ fn_decl.FUNCTION
function_field j h = grind arith

own_here : (w : Place) (t : Node) (j : ℕ) (y : Id) (x : Node-F Node) → out-Node t ≡ x → In y (used (own_of x j)) → OwnName w t (j ∷ []) y
own_here w t j y (Node-F.Tree k ts) o u =
    let (i, e, same) = used_some (own_of (Node-F.Tree k ts) j) y u in
    let (at_j, uses, named) = chosen_some (j == fn_decl.FUNCTION) (uses_own_name (Node-F.Tree k ts)) (name_of (slice_get ts fn_decl.IDENT)) i e in
    let (n, l, there, is) = named_node (slice_get ts fn_decl.IDENT) i named in
    let at_n : child t fn_decl.IDENT ≡ Some n = ap (λ x. slice_get (children_in x) fn_decl.IDENT) o ∙ there in
    record {
      path = [];
      place = w;
      function = t;
      kind = l;
      name = i;
      scope = ap (λ j. j ∷ []) (function_field j at_j);
      there = refl;
      uses = ap uses_own_name o ∙ uses;
      named = place_under w t n fn_decl.IDENT [] at_n ∙ ap (λ n. Some (place_below w t fn_decl.IDENT, n)) is;
      same = same;
    }
own_here w t j y Node-F.Absent o u = absurd u
own_here w t j y (Node-F.Flag x) o u = absurd u
own_here w t j y (Node-F.Word x) o u = absurd u
own_here w t j y (Node-F.Text x) o u = absurd u
own_here w t j y (Node-F.Span x) o u = absurd u
own_here w t j y (Node-F.List x) o u = absurd u
own_here w t j y (Node-F.Identifier k x) o u = absurd u

own_from : (s : Path) (w : Place) (t : Node) (y : Id) → OwnUse w t s y → OwnName w t s y
own_from [] w t y h = absurd h
own_from (j ∷ s) w t y (c, e, inl (none, u)) = subst (λ s. OwnName w t (j ∷ s) y) (sym none) (own_here w t j y (out-Node t) refl u)
own_from (j ∷ s) w t y (c, e, inr h) =
    let n = own_from s (place_below w t j) c y h in
    record {
      path = j ∷ n.path;
      place = n.place;
      function = n.function;
      kind = n.kind;
      name = n.name;
      scope = ap (λ s. j ∷ s) n.scope;
      there = place_under w t c j n.path e ∙ n.there;
      uses = n.uses;
      named = place_under w t c j (n.path ++ (fn_decl.IDENT ∷ [])) e ∙ n.named;
      same = n.same;
    }

-- ---- at a whole program

occurs : (t : Node) (s : Path) (y : Id) → IsAnalysed y → Uses false None program_place t s y → OccursIn t s y
occurs t s y analysed (inl n) = record {
  path = n.path;
  standing = n.place.standing;
  stands = to_id t n.path n.place.standing n.name (record { place = n.place; kind = n.kind; stands = n.stands; stands_so = refl }) ∙ ap (λ x. Some (n.place.standing, x)) n.same;
  names = n.names;
  analysed = analysed;
  inside = inl (all_steps n.path s false program_place t n.inside);
}
occurs t s y analysed (inr (inl u)) =
    let n = own_from s program_place t y u in
    let v = place_below n.place n.function fn_decl.IDENT in
    record {
      path = n.path ++ (fn_decl.IDENT ∷ []);
      standing = v.standing;
      stands = to_id t (n.path ++ (fn_decl.IDENT ∷ [])) v.standing n.name (record { place = v; kind = n.kind; stands = n.named; stands_so = refl }) ∙ ap (λ x. Some (v.standing, x)) n.same;
      names = name_standing n.place (out-Node n.function) n.uses;
      analysed = analysed;
      inside = inr (n.path, n.place, n.function, refl, n.scope, n.there, n.uses);
    }
occurs t s y analysed (inr (inr (e, u))) = absurd u

pub pairs_meet : PairsMeet
pairs_meet t x y h first second =
    let n = pairs_from t program_place false None (x, y) h in (
      n.scope,
      n.path,
      record {
        standing = n.place.standing;
        stands = to_id t n.path n.place.standing n.name (record { place = n.place; kind = n.kind; stands = n.stands; stands_so = refl }) ∙ ap (λ x. Some (n.place.standing, x)) n.same;
        binds = n.binds;
        analysed = first;
        taken = n.taken;
      },
      occurs t n.scope y second n.uses,
    )
