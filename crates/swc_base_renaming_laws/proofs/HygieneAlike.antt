-- Trees in which no function stands as one that hoists, and places that differ in nothing by which functions hoist.
use Rattle.std.proofs.Common.{◌≡◌, ◌≢◌, ℕ, zero, suc, Bool, true, false, not, ◌&&◌, ◌||◌, Option, Some, None, List, [], ◌∷◌, refl, sym, ap, ◌∙◌, subst, cond}
use Rattle.std.specs.Prelude.{if◌then◌else◌, slice_get}
use Rattle.swc_tree_marks.specs.declared.ident.Ident.{Ident}
use Rattle.swc_tree_node.specs.declared.kind.Kind.{Kind}
use Rattle.swc_tree_node.specs.declared.kind.Kind.TheVariants as kind
use Rattle.swc_tree_node.specs.declared.kind.Word.{Word}
use Rattle.swc_tree_node.specs.declared.kind.Word.TheVariants as word
use Rattle.swc_tree_node.specs.declared.slot.Role.{Role}
use Rattle.swc_tree_node.specs.declared.slot.Role.TheVariants as role
use Rattle.swc_tree_node.specs.declared.node.Node.{Node, List as Many, Identifier, Tree, out-Node}
use Rattle.swc_tree_node.specs.declared.node.Node.TheVariants.{outs-Identifier, outs-List, outs-Tree}
use Rattle.swc_tree_node.specs.declared.node.Node.TheOpen.{Node-F}
use Rattle.swc_tree_node.specs.declared.fields.modules.named_export.TheConstants as named_export
use Rattle.swc_tree_node.specs.declared.fields.statements.fn_decl.TheConstants as fn_decl
use Rattle.swc_tree_scoping.specs.declared.places.Place.{Place}
use Rattle.swc_tree_scoping.specs.declared.places.Scope.{Scope}
use Rattle.swc_tree_scoping.specs.declared.places.Scope.TheVariants as scope
use Rattle.swc_tree_scoping.specs.declared.places.Standing.{Standing}
use Rattle.swc_tree_scoping.specs.declared.places.Standing.TheVariants as standing
use Rattle.swc_tree_scoping.specs.declared.places.View.{View}
use Rattle.swc_tree_scoping.specs.declared.places.View.TheVariants as view
use Rattle.swc_tree_scoping.specs.Places.{Path, binds_patterns, block_scope, by_keyword, by_word, child, children_in, field_role, function_standing, given, has_own_name, is_branch, is_identifier_expression, is_inside, is_plain_function, is_strict, is_there, keyword_in, name_scope, named, nested_below, nests, opened_as, own_block, own_name, part_standing, place_at, place_below, place_in, standing_below, view_from}
use Rattle.swc_tree_scoping.proofs.Under.{by_children}
use Rattle.swc_tree_renaming.proofs.Shape.{some_same}

-- ---- what of a standing counts

abbrev pub rest : Standing → Standing
rest standing.Branch = standing.Branch
rest standing.Body = standing.Body
rest standing.SloppyFunction = standing.SloppyFunction
rest _ = standing.Plain

pub record Alike (w v : Place) : Type 0 where
  pub strict : w.strict ≡ v.strict
  pub nested : w.nested ≡ v.nested
  pub standing : rest w.standing ≡ rest v.standing

pub alike_itself : (w : Place) → Alike w w
alike_itself w = record { strict = refl; nested = refl; standing = refl }

abbrev pub NotSloppy : Standing → Type 0
NotSloppy r = r ≢ standing.SloppyFunction

pub plain_apart : (r : Standing) → rest r ≡ standing.Plain → NotSloppy r
plain_apart r h e = let never : standing.SloppyFunction ≡ standing.Plain = ap rest (sym e) ∙ h in absurd (cc)

sloppy_rest : (r : Standing) → rest r ≡ standing.SloppyFunction → r ≡ standing.SloppyFunction
sloppy_rest standing.SloppyFunction h = refl
sloppy_rest _ h = absurd (cc)

apart_alike : (r s : Standing) → rest r ≡ rest s → NotSloppy r → NotSloppy s
apart_alike r s h n e = n (sloppy_rest r (h ∙ ap rest e))

-- ---- places below

chosen_rest : (b : Bool) (r : Standing) → rest r ≡ standing.Plain → rest (cond b standing.Reference r) ≡ standing.Plain
chosen_rest true r h = refl
chosen_rest false r h = h

pub part_rest : (r : Standing) (o : Option Node) → rest (part_standing r o) ≡ rest r
part_rest standing.Variable o = chosen_rest (binds_patterns standing.Variable && is_identifier_expression o) standing.Variable refl
part_rest standing.Lexical o = chosen_rest (binds_patterns standing.Lexical && is_identifier_expression o) standing.Lexical refl
part_rest standing.Parameter o = chosen_rest (binds_patterns standing.Parameter && is_identifier_expression o) standing.Parameter refl
part_rest standing.CatchParameter o = chosen_rest (binds_patterns standing.CatchParameter && is_identifier_expression o) standing.CatchParameter refl
part_rest _ o = refl

word_rest : (w : Word) → rest (by_word w) ≡ standing.Plain
word_rest word.Var = refl
word_rest _ = refl

keyword_rest : (y : Node-F Node) (r : Standing) → rest r ≡ standing.Plain → rest (keyword_in y r) ≡ standing.Plain
keyword_rest (Node-F.Word w) r h = word_rest w
keyword_rest _ r h = h

keywords_rest : (ts : List Node) → rest (by_keyword ts) ≡ standing.Plain
keywords_rest [] = refl
keywords_rest (t ∷ ts) = keyword_rest (out-Node t) (by_keyword ts) (keywords_rest ts)

-- by the standing alone, then by the kind: both at once have some 2,500 cases
own_rest_of_default : (k : Kind) → rest (own_name standing.DefaultExport k) ≡ standing.Plain
own_rest_of_default kind.FnExpr = refl
own_rest_of_default _ = refl

own_rest_of_expression : (k : Kind) → rest (own_name standing.Plain k) ≡ standing.Plain
own_rest_of_expression kind.FnExpr = refl
own_rest_of_expression _ = refl

own_rest : (r : Standing) (k : Kind) → rest (own_name r k) ≡ standing.Plain
own_rest standing.DefaultExport k = own_rest_of_default k
own_rest _ k = own_rest_of_expression k

pub list_rest : (b : Bool) → rest (cond b standing.Imported standing.Reference) ≡ standing.Plain
list_rest true = refl
list_rest false = refl

branch_same : (r : Standing) → is_branch (rest r) ≡ is_branch r
branch_same standing.Branch = refl
branch_same _ = refl

block_same : (r : Standing) → block_scope (rest r) ≡ block_scope r
block_same standing.Body = refl
block_same _ = refl

module _ (w v : Place) (a : Alike w v) where
  branches : is_branch w.standing ≡ is_branch v.standing
  branches = sym (branch_same w.standing) ∙ ap is_branch a.standing ∙ branch_same v.standing

  own_blocks : own_block w ≡ own_block v
  own_blocks = λ i. branches i && not (a.strict i)

  functions : (b c : Bool) → b ≡ c → function_standing w b ≡ function_standing v c
  functions b c e = λ i. if not (a.nested i || own_blocks i) then standing.Function else (if not (a.strict i) && e i then standing.SloppyFunction else standing.BlockFunction)

  standings : (k : Kind) (ts us : List Node) (i : ℕ) (r : Role) → is_plain_function (slice_get ts fn_decl.FUNCTION) ≡ is_plain_function (slice_get us fn_decl.FUNCTION)
      → rest (standing_below w k ts i r) ≡ rest (standing_below v k us i r)
  standings k ts us i role.Inherited e = part_rest w.standing (slice_get ts i) ∙ a.standing ∙ sym (part_rest v.standing (slice_get us i))
  standings k ts us i role.Declared e = keywords_rest ts ∙ sym (keywords_rest us)
  standings k ts us i role.Function e = ap rest (functions _ _ e)
  standings k ts us i role.OwnName e = own_rest w.standing k ∙ sym (own_rest v.standing k)
  standings k ts us i role.Parameter e = part_rest standing.Parameter (slice_get ts i) ∙ sym (part_rest standing.Parameter (slice_get us i))
  standings k ts us i role.Catch e = part_rest standing.CatchParameter (slice_get ts i) ∙ sym (part_rest standing.CatchParameter (slice_get us i))
  standings k ts us i role.ExportLocal e = list_rest (is_there (slice_get ts named_export.SRC)) ∙ sym (list_rest (is_there (slice_get us named_export.SRC)))
  standings k ts us i r e = refl

-- a scope for a name nests nothing
name_nests : (n : Bool) (r : Standing) (b : Bool) (s : Scope) (x : View) → nests s n ≡ n → nested_below n (name_scope r b s) x ≡ n
name_nests n standing.DefaultExport b s x h = refl
name_nests n r true s view.Outside h = refl
name_nests n r true s x h = h
name_nests n r false s x h = refl

nested_alike : (w v : Place) (k : Kind) (b c : Bool) (x : View) → Alike w v → nested_below w.nested (opened_as w k b) x ≡ nested_below v.nested (opened_as v k c) x
nested_alike w v kind.BlockStmt b c x a = let s = sym (block_same w.standing) ∙ ap block_scope a.standing ∙ block_same v.standing in λ i. nested_below (a.nested i) (s i) x
nested_alike w v kind.FnDecl b c x a = λ i. nested_below (a.nested i) (named (own_blocks w v a i) scope.Block) x
nested_alike w v kind.FnExpr b c x a = name_nests w.nested w.standing b scope.FunctionName x refl ∙ a.nested ∙ sym (name_nests v.nested v.standing c scope.FunctionName x refl)
nested_alike w v kind.ClassExpr b c x a = name_nests w.nested w.standing b scope.ClassName x refl ∙ a.nested ∙ sym (name_nests v.nested v.standing c scope.ClassName x refl)
nested_alike w v k b c x a = ap (λ n. nested_below n (opened_as w k b) x) a.nested

pub below_alike : (w v : Place) (k : Kind) (ts us : List Node) (i : ℕ) → Alike w v → is_strict k ts ≡ is_strict k us
    → is_plain_function (slice_get ts fn_decl.FUNCTION) ≡ is_plain_function (slice_get us fn_decl.FUNCTION) → Alike (place_in w (Node-F.Tree k ts) i) (place_in v (Node-F.Tree k us) i)
below_alike w v k ts us i a s e = record {
  strict = λ j. a.strict j || (is_inside (view_from k i) && s j);
  nested = nested_alike w v k (has_own_name ts) (has_own_name us) (view_from k i) a;
  standing = standings w v a k ts us i (field_role k i) e;
}

-- the place of a list's item
abbrev pub item : Place → Option Node → Place
item w o = record w { standing = part_standing w.standing o }

pub item_alike : (w v : Place) (o q : Option Node) → Alike w v → Alike (item w o) (item v q)
item_alike w v o q a = record { strict = a.strict; nested = a.nested; standing = part_rest w.standing o ∙ a.standing ∙ sym (part_rest v.standing q) }

same_below : (w v : Place) (y : Node-F Node) (i : ℕ) → Alike w v → Alike (place_in w y i) (place_in v y i)
same_below w v (Node-F.List ts) i a = item_alike w v (slice_get ts i) (slice_get ts i) a
same_below w v (Node-F.Tree k ts) i a = below_alike w v k ts ts i a refl refl
same_below w v y i a = alike_itself _

-- ---- trees without such functions

abbrev pub Calm : Place → Node → Type 0
Calm w t = (p : Path) (v : Place) (k : Kind) (i : Ident) → place_at w t p ≡ Some (v, Identifier k i) → NotSloppy v.standing

calm_below : (w : Place) (t : Node) (i : ℕ) (c : Node) → child t i ≡ Some c → Calm w t → Calm (place_below w t i) c
calm_below w t i c e h p v k j g = h (i ∷ p) v k j (ap (λ o. given o None (λ d. place_at (place_below w t i) d p)) e ∙ g)

abbrev Named : Place → Node → Type 0
Named w t = (k : Kind) (i : Ident) → t ≡ Identifier k i → NotSloppy w.standing

calm_by : (w : Place) (t : Node) → Named w t → ((i : ℕ) (c : Node) → child t i ≡ Some c → Calm (place_below w t i) c) → Calm w t
calm_by w t n m [] v k j h = let same = some_same (w, t) (v, Identifier k j) h in subst (λ (x : Place). NotSloppy x.standing) (ap (λ (q : Place × Node). q.0) same) (n k j (ap (λ (q : Place × Node). q.1) same))
calm_by w t n m (i ∷ p) v k j h = by (child t i) refl h
  where
    by : (o : Option Node) → child t i ≡ o → given o None (λ d. place_at (place_below w t i) d p) ≡ Some (v, Identifier k j) → NotSloppy v.standing
    by None e g = absurd (cc)
    by (Some c) e g = m i c e p v k j g

pub calm_here : (w : Place) (t : Node) → Calm w t → Named w t
calm_here w t h k i e = h [] w k i (ap (λ t. Some (w, t)) e)

-- a tree without them is one at each place that is alike
pub alike_calm : (t : Node) (w v : Place) → Alike w v → Calm w t → Calm v t
alike_calm = by_children (λ t. (w v : Place) → Alike w v → Calm w t → Calm v t) (λ t below w v a h. calm_by v t
    (λ k i e. apart_alike w.standing v.standing a.standing (calm_here w t h k i e))
    (λ i c e. below i c e (place_below w t i) (place_below v t i) (same_below w v (out-Node t) i a) (calm_below w t i c e h)))

-- a node without a name in it
pub calm_leaf : (w : Place) (t : Node) (y : Node-F Node) → out-Node t ≡ y → children_in y ≡ [] → ((k : Kind) (i : Ident) → y ≢ Node-F.Identifier k i) → Calm w t
calm_leaf w t y o none n = calm_by w t (λ k i e. absurd (n k i (sym o ∙ ap out-Node e ∙ outs-Identifier k i)))
    (λ i c e. let never : None ≡ Some c = sym (ap (λ y. slice_get (children_in y) i) o ∙ ap (λ l. slice_get l i) none) ∙ e in absurd (cc))

pub calm_name : (w : Place) (k : Kind) (i : Ident) → NotSloppy w.standing → Calm w (Identifier k i)
calm_name w k i n = calm_by w (Identifier k i) (λ l j e. n) (λ j c e. let never : None ≡ Some c = sym (ap (λ y. slice_get (children_in y) j) (outs-Identifier k i)) ∙ e in absurd (cc))

-- each in its place
abbrev pub CalmIn : (ℕ → Place) → List Node → Type 0
CalmIn vs [] = Unit {0}
CalmIn vs (t ∷ ts) = Calm (vs zero) t × CalmIn (λ i. vs (suc i)) ts

calm_at : (vs : ℕ → Place) (ts : List Node) → CalmIn vs ts → (i : ℕ) (c : Node) → slice_get ts i ≡ Some c → Calm (vs i) c
calm_at vs [] l i c e = absurd (cc)
calm_at vs (t ∷ ts) l zero c e = let same : t ≡ c = cc in subst (Calm (vs zero)) same l.0
calm_at vs (t ∷ ts) l (suc i) c e = calm_at (λ i. vs (suc i)) ts l.1 i c e

calm_in : (vs : ℕ → Place) (ts : List Node) → ((i : ℕ) (c : Node) → slice_get ts i ≡ Some c → Calm (vs i) c) → CalmIn vs ts
calm_in vs [] h = tt
calm_in vs (t ∷ ts) h = (h zero t refl, calm_in (λ i. vs (suc i)) ts (λ i c e. h (suc i) c e))

pub calm_tree : (w : Place) (k : Kind) (ts : List Node) → CalmIn (place_in w (Node-F.Tree k ts)) ts → Calm w (Tree k ts)
calm_tree w k ts l = calm_by w (Tree k ts) (λ j i e. let never : Node-F.Tree k ts ≡ Node-F.Identifier j i = sym (outs-Tree k ts) ∙ ap out-Node e ∙ outs-Identifier j i in absurd (cc))
    (λ i c e. subst (λ y. Calm (place_in w y i) c) (sym (outs-Tree k ts)) (calm_at (place_in w (Node-F.Tree k ts)) ts l i c (sym (ap (λ y. slice_get (children_in y) i) (outs-Tree k ts)) ∙ e)))

pub calm_fields : (w : Place) (k : Kind) (ts : List Node) → Calm w (Tree k ts) → CalmIn (place_in w (Node-F.Tree k ts)) ts
calm_fields w k ts h = calm_in (place_in w (Node-F.Tree k ts)) ts (λ i c e.
    subst (λ y. Calm (place_in w y i) c) (outs-Tree k ts) (calm_below w (Tree k ts) i c (ap (λ y. slice_get (children_in y) i) (outs-Tree k ts) ∙ e) h))

-- each as an item
abbrev pub CalmItems : Place → List Node → Type 0
CalmItems w [] = Unit {0}
CalmItems w (t ∷ ts) = Calm (item w (Some t)) t × CalmItems w ts

item_at : (w : Place) (ts : List Node) → CalmItems w ts → (i : ℕ) (c : Node) → slice_get ts i ≡ Some c → Calm (item w (slice_get ts i)) c
item_at w [] l i c e = absurd (cc)
item_at w (t ∷ ts) l zero c e = let same : t ≡ c = cc in subst (Calm (item w (Some t))) same l.0
item_at w (t ∷ ts) l (suc i) c e = item_at w ts l.1 i c e

items_at : (w : Place) (ts : List Node) → ((i : ℕ) (c : Node) → slice_get ts i ≡ Some c → Calm (item w (slice_get ts i)) c) → CalmItems w ts
items_at w [] h = tt
items_at w (t ∷ ts) h = (h zero t refl, items_at w ts (λ i c e. h (suc i) c e))

pub calm_list : (w : Place) (ts : List Node) → CalmItems w ts → Calm w (Many ts)
calm_list w ts l = calm_by w (Many ts) (λ j i e. let never : Node-F.List ts ≡ Node-F.Identifier j i = sym (outs-List ts) ∙ ap out-Node e ∙ outs-Identifier j i in absurd (cc))
    (λ i c e. subst (λ y. Calm (place_in w y i) c) (sym (outs-List ts)) (item_at w ts l i c (sym (ap (λ y. slice_get (children_in y) i) (outs-List ts)) ∙ e)))

pub calm_items : (w : Place) (ts : List Node) → Calm w (Many ts) → CalmItems w ts
calm_items w ts h = items_at w ts (λ i c e.
    subst (λ y. Calm (place_in w y i) c) (outs-List ts) (calm_below w (Many ts) i c (ap (λ y. slice_get (children_in y) i) (outs-List ts) ∙ e) h))
