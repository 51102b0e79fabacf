-- What is beside one another is alike when what is short is written out: the whole.
use Rattle.std.proofs.Common.{◌≡◌, ℕ, Bool, true, false, not, ◌&&◌, ◌||◌, Option, Some, None, List, [], ◌∷◌, ◌++◌, map, nat_eq, refl, sym, ap, ◌∙◌, subst, inl, inr}
use Rattle.std.specs.Prelude.{if◌then◌else◌, is_some}
use Rattle.std.specs.Cmp.Lexicographic.{pointwise}
use Rattle.std.specs.List.{filter, flat_map, list_any}
use Rattle.std.proofs.lemmas.Cmp.{nat_list_eq_equiv}
use Rattle.swc_tree_marks.specs.declared.span.Span.{Span as Range}
use Rattle.swc_tree_marks.specs.declared.ident.Ident.{Ident}
use Rattle.swc_tree_node.specs.declared.kind.Kind.{Kind}
use Rattle.swc_tree_node.specs.declared.kind.Kind.TheVariants as kind
use Rattle.swc_tree_node.specs.declared.slot.Slot.{Slot}
use Rattle.swc_tree_node.specs.declared.slot.Role.{Role}
use Rattle.swc_tree_node.specs.declared.node.Node.{Node, Absent, Flag, Word, Text, Span, List as Many, Identifier, Tree, out-Node, roll-Node, out-roll-Node}
use Rattle.swc_tree_node.specs.declared.node.Node.TheVariants.{outs-Absent, outs-Flag, outs-Word, outs-Text, outs-Span, outs-Identifier, outs-Tree, rolls-Tree}
use Rattle.swc_tree_node.specs.declared.node.Node.TheOpen.{Node-F}
use Rattle.swc_tree_node.specs.Table.{fields_of}
use Rattle.swc_tree_scoping.specs.BoundNames.{Id, declared_ids}
use Rattle.swc_tree_scoping.specs.Shorthands.{key_of, shorthand_key}
use Rattle.swc_tree_grammar.specs.Blocks.{no_span}
use Rattle.swc_tree_grammar.specs.Shapes.{items_of}
use Rattle.swc_tree_grammar.specs.Levels.{is_absent, is_absent_in}
use Rattle.swc_tree_grammar.specs.Normal.{again, again_in, as_pattern, each_once, export_list, exported_as_itself, made, pattern_in, pattern_property_in, plain_name, property as to_property, same_id, specifier as to_specifier, specifier_in, split, split_in, with_default, written_out, written_step}
use Rattle.swc_base_rename_substitution.specs.Names.{same_id as same_ids}
use Rattle.swc_base_rename_substitution.specs.Identifiers.{Changes, kept_name}
use Rattle.swc_base_rename_substitution.specs.Exports as exported
use Rattle.swc_base_rename_substitution.specs.Exports.{distinct, nowhere, specifier_to, without}
use Rattle.swc_base_rename_laws.proofs.NormalFormPairs.{All, Alike, Becomes, Fields, Items, Like, LikeFields, Likes, Spot, Trees, flag, flag_below, flags, is_double, is_even, is_left, needed, part, spots, property, specifier}
use Rattle.swc_base_rename_laws.proofs.NormalFormLike.{absent_same, again_like, declared_kept, moved, moved_all, split_alone}
use Rattle.swc_base_rename_laws.proofs.NormalFormModule.{any_distinct}
use Rattle.swc_base_rename_laws.proofs.NormalFormRows.{all_finished, even_row, finished, is_tame, key_like, name_done, out-Absent, out-Flag, out-Word, out-Text, out-Span, out-Identifier, out-List, out-Tree, out_items, out_key, out_shorthand, rolled, setter_row, short_done, tame}
use Rattle.swc_base_rename_laws.proofs.Impossible.{impossible}

-- ---- what is there stays there

there : (k : Kind) (ts : List Node) → is_absent (Tree k ts) ≡ false
there k ts = ap is_absent_in (outs-Tree k ts)

rolled_there : (k : Kind) (ts : List Node) → is_absent (roll-Node (Node-F.Tree k ts)) ≡ false
rolled_there k ts = ap is_absent_in (out-roll-Node (Node-F.Tree k ts))

key_there : (a b c : Node) (y : Node-F Node) → is_absent (pattern_property_in a b c y) ≡ false
key_there a b c (Node-F.Identifier k i) = there _ _
key_there a b c y = there _ _

step_there : (k : Kind) (ts : List Node) → is_absent (written_step (Node-F.Tree k ts)) ≡ false
step_there kind.IfStmt (a ∷ b ∷ c ∷ d ∷ []) = there _ _
step_there kind.ObjectLit (a ∷ b ∷ []) = there _ _
step_there kind.AssignPatProp (a ∷ b ∷ c ∷ []) = key_there a b c (out-Node b)
step_there kind.ArrayPat (a ∷ b ∷ []) = there _ _
step_there kind.RestPat (a ∷ b ∷ []) = there _ _
step_there kind.KeyValuePatProp (a ∷ b ∷ []) = there _ _
step_there kind.AssignPat (a ∷ b ∷ c ∷ []) = there _ _
step_there kind.Param (a ∷ b ∷ []) = there _ _
step_there kind.ArrowExpr (a ∷ b ∷ c ∷ d ∷ []) = there _ _
step_there kind.SetterProp (a ∷ b ∷ c ∷ d ∷ []) = there _ _
step_there kind.VarDeclarator (a ∷ b ∷ c ∷ []) = there _ _
step_there kind.CatchClause (a ∷ b ∷ c ∷ []) = there _ _
step_there kind.ForInStmt (a ∷ b ∷ c ∷ d ∷ []) = there _ _
step_there kind.ForOfStmt (a ∷ b ∷ c ∷ d ∷ e ∷ []) = there _ _
step_there kind.ImportNamedSpecifier (a ∷ b ∷ c ∷ []) = there _ _
step_there kind.NamedExport (a ∷ b ∷ c ∷ d ∷ []) = there _ _
step_there kind.Module (a ∷ b ∷ c ∷ []) = there _ _
step_there k ts = rolled_there k ts

none_there : is_absent Absent ≡ true
none_there = ap is_absent_in outs-Absent

again_there : (t u : Node) → is_absent u ≡ false → again t u ≡ u
again_there t u e = ap (λ b. if b then again_in t (out-Node t) else u) e

again_none : (t : Node) → again t Absent ≡ again_in t (out-Node t)
again_none t = ap (λ b. if b then again_in t (out-Node t) else Absent) none_there

again_name : (k : Kind) (i : Ident) → again (Identifier k i) Absent ≡ plain_name i
again_name k i = again_none (Identifier k i) ∙ ap (again_in (Identifier k i)) (outs-Identifier k i)

plain_default : (s n : Node) → with_default s n Absent ≡ n
plain_default s n = ap (λ b. if b then n else Tree kind.AssignPat (s ∷ n ∷ Absent ∷ [])) none_there

some_default : (s n t : Node) → is_absent t ≡ false → with_default s n t ≡ Tree kind.AssignPat (s ∷ n ∷ t ∷ [])
some_default s n t e = ap (λ b. if b then n else Tree kind.AssignPat (s ∷ n ∷ t ∷ [])) e

-- ---- patterns

pub key_is : (a : Node) (i : Ident) (t : Node) → written_out (Tree kind.AssignPatProp (a ∷ Identifier kind.BindingIdent i ∷ t ∷ []))
    ≡ Tree kind.KeyValuePatProp (key_of i ∷ with_default (Span i.span) (Identifier kind.BindingIdent i) (written_out t) ∷ [])
key_is a i t =
    out-Tree kind.AssignPatProp (a ∷ Identifier kind.BindingIdent i ∷ t ∷ [])
    ∙ ap (λ k. pattern_property_in (written_out a) k (written_out t) (out-Node k)) (out-Identifier kind.BindingIdent i)
    ∙ ap (pattern_property_in (written_out a) (Identifier kind.BindingIdent i) (written_out t)) (outs-Identifier kind.BindingIdent i)

binding_stays : (i : Ident) → as_pattern (Identifier kind.BindingIdent i) ≡ Identifier kind.BindingIdent i
binding_stays i = ap (pattern_in (Identifier kind.BindingIdent i)) (outs-Identifier kind.BindingIdent i)

tree_stays : (k : Kind) (ts : List Node) → as_pattern (Tree k ts) ≡ Tree k ts
tree_stays k ts = ap (pattern_in (Tree k ts)) (outs-Tree k ts)

value_is : (i : Ident) (t : Node) → written_out (Tree kind.KeyValuePatProp (key_of i ∷ t ∷ [])) ≡ Tree kind.KeyValuePatProp (key_of i ∷ as_pattern (written_out t) ∷ [])
value_is i t = out-Tree kind.KeyValuePatProp (key_of i ∷ t ∷ []) ∙ ap (λ k. Tree kind.KeyValuePatProp (k ∷ as_pattern (written_out t) ∷ [])) (out_key i)

named_is : (j : Ident) → as_pattern (written_out (Identifier kind.BindingIdent j)) ≡ Identifier kind.BindingIdent j
named_is j = ap as_pattern (out-Identifier kind.BindingIdent j) ∙ binding_stays j

default_is : (s : Range) (j : Ident) (t : Node) → as_pattern (written_out (Tree kind.AssignPat (Span s ∷ Identifier kind.BindingIdent j ∷ t ∷ [])))
    ≡ Tree kind.AssignPat (Span s ∷ Identifier kind.BindingIdent j ∷ written_out t ∷ [])
default_is s j t =
    ap as_pattern (out-Tree kind.AssignPat (Span s ∷ Identifier kind.BindingIdent j ∷ t ∷ []))
    ∙ tree_stays kind.AssignPat _
    ∙ (λ i. Tree kind.AssignPat (out-Span s i ∷ named_is j i ∷ written_out t ∷ []))

-- ---- specifiers

double_is : (s : Spot) (k : Kind) (a o t : Node) → is_double s k ≡ true
    → finished s (written_out (Tree k (a ∷ o ∷ t ∷ []))) ≡ Tree k (written_out a ∷ written_out o ∷ again (written_out o) (written_out t) ∷ [])
double_is (part b) kind.ImportNamedSpecifier a o t e = out-Tree kind.ImportNamedSpecifier (a ∷ o ∷ t ∷ [])
double_is (part b) k a o t e = impossible e
double_is specifier kind.ExportNamedSpecifier a o t e =
    ap to_specifier (out-Tree kind.ExportNamedSpecifier (a ∷ o ∷ t ∷ []) ∙ rolls-Tree kind.ExportNamedSpecifier (written_out a ∷ written_out o ∷ written_out t ∷ []))
    ∙ ap (specifier_in (Tree kind.ExportNamedSpecifier (written_out a ∷ written_out o ∷ written_out t ∷ []))) (outs-Tree kind.ExportNamedSpecifier (written_out a ∷ written_out o ∷ written_out t ∷ []))
double_is specifier k a o t e = impossible e
double_is property k a o t e = impossible e

-- ---- export lists

exports_are : (a : Node) (ts : List Node) (c : Node) → written_out (Tree kind.NamedExport (a ∷ Many ts ∷ Absent ∷ c ∷ []))
    ≡ Tree kind.NamedExport (written_out a ∷ Many (map to_specifier (map written_out ts)) ∷ Absent ∷ written_out c ∷ [])
exports_are a ts c =
    out-Tree kind.NamedExport (a ∷ Many ts ∷ Absent ∷ c ∷ [])
    ∙ ap (λ s. Tree kind.NamedExport (written_out a ∷ (if is_absent s then Many (map to_specifier (items_of (written_out (Many ts)))) else written_out (Many ts)) ∷ s ∷ written_out c ∷ [])) out-Absent
    ∙ ap (λ b. Tree kind.NamedExport (written_out a ∷ (if b then Many (map to_specifier (items_of (written_out (Many ts)))) else written_out (Many ts)) ∷ Absent ∷ written_out c ∷ [])) none_there
    ∙ ap (λ l. Tree kind.NamedExport (written_out a ∷ Many (map to_specifier l) ∷ Absent ∷ written_out c ∷ [])) (out_items ts)

string_is : (xs : List Node) → written_out (Tree kind.Str xs) ≡ Tree kind.Str (map written_out xs)
string_is xs = out-Tree kind.Str xs ∙ rolls-Tree kind.Str (map written_out xs)

reexports_are : (a : Node) (ts xs : List Node) (c : Node) → written_out (Tree kind.NamedExport (a ∷ Many ts ∷ Tree kind.Str xs ∷ c ∷ []))
    ≡ Tree kind.NamedExport (written_out a ∷ Many (map written_out ts) ∷ Tree kind.Str (map written_out xs) ∷ written_out c ∷ [])
reexports_are a ts xs c =
    out-Tree kind.NamedExport (a ∷ Many ts ∷ Tree kind.Str xs ∷ c ∷ [])
    ∙ ap (λ s. Tree kind.NamedExport (written_out a ∷ (if is_absent s then Many (map to_specifier (items_of (written_out (Many ts)))) else written_out (Many ts)) ∷ s ∷ written_out c ∷ [])) (string_is xs)
    ∙ ap (λ b. Tree kind.NamedExport (written_out a ∷ (if b then Many (map to_specifier (items_of (written_out (Many ts)))) else written_out (Many ts)) ∷ Tree kind.Str (map written_out xs) ∷ written_out c ∷ [])) (there kind.Str (map written_out xs))
    ∙ ap (λ l. Tree kind.NamedExport (written_out a ∷ l ∷ Tree kind.Str (map written_out xs) ∷ written_out c ∷ [])) (out-List ts)

-- ---- names that are exported, each once

same_symm : (x y : Id) → same_ids x y ≡ same_ids y x
same_symm x y =
    ap (λ b. b && pointwise nat_eq x.1 y.1) (nat_list_eq_equiv.symm x.0 y.0)
    ∙ ap (λ b. pointwise nat_eq y.0 x.0 && b) (nat_list_eq_equiv.symm x.1 y.1)

abbrev others : Id → List Id → List Ident
others x ys = filter (λ j. not (same_id (made x) j)) (map made ys)

without_step : (x y : Id) (ys : List Id) (b : Bool) → same_ids x y ≡ b → others x ys ≡ map made (without x ys) → others x (y ∷ ys) ≡ map made (without x (y ∷ ys))
without_step x y ys true e h =
    ap (λ b. if not b then made y ∷ others x ys else others x ys) e ∙ h
    ∙ sym (ap (λ b. map made (if b then without x ys else y ∷ without x ys)) (same_symm y x ∙ e))
without_step x y ys false e h =
    ap (λ b. if not b then made y ∷ others x ys else others x ys) e ∙ ap (λ l. made y ∷ l) h
    ∙ sym (ap (λ b. map made (if b then without x ys else y ∷ without x ys)) (same_symm y x ∙ e))

without_made : (x : Id) (ys : List Id) → others x ys ≡ map made (without x ys)
without_made x [] = refl
without_made x (y ∷ ys) = without_step x y ys (same_ids x y) refl (without_made x ys)

once_made : (xs : List Id) → each_once (map made xs) ≡ map made (distinct xs)
once_made [] = refl
once_made (x ∷ xs) = ap (λ l. made x ∷ filter (λ j. not (same_id (made x) j)) l) (once_made xs) ∙ ap (λ l. made x ∷ l) (without_made x (distinct xs))

spots_flags : (b : Bool) (fs : List (List ℕ × Slot × Role)) → map (λ (s : Bool × Bool). s.1) (map (λ (f : List ℕ × Slot × Role). (needed f.1, flag_below b f.2)) fs) ≡ map (λ (f : List ℕ × Slot × Role). flag_below b f.2) fs
spots_flags b [] = refl
spots_flags b (f ∷ fs) = ap (λ l. flag_below b f.2 ∷ l) (spots_flags b fs)

abbrev declared : Node → List Id
declared t = declared_ids (written_out t)

exported_is : (a t : Node) → split (written_out (Tree kind.ExportDecl (a ∷ t ∷ []))) ≡ written_out t ∷ export_list (each_once (map made (declared t))) ∷ []
exported_is a t =
    ap split (out-Tree kind.ExportDecl (a ∷ t ∷ []) ∙ rolls-Tree kind.ExportDecl (written_out a ∷ written_out t ∷ []))
    ∙ ap (split_in (Tree kind.ExportDecl (written_out a ∷ written_out t ∷ []))) (outs-Tree kind.ExportDecl (written_out a ∷ written_out t ∷ []))

module _ (m : Changes) where
  abbrev L : Bool → Node → Node → Type 0
  L = Like m

  given_there : (g : Bool) (s : Spot) (t u : Node) → Becomes m declared g s t u → g ≡ true → is_absent (written_out t) ≡ false
  given_there g s t u (Becomes.absent _) e = absurd (cc)
  given_there g s t u (Becomes.a_flag _ _ x) e = ap is_absent (out-Flag x) ∙ ap is_absent_in (outs-Flag x)
  given_there g s t u (Becomes.a_word _ _ x) e = ap is_absent (out-Word x) ∙ ap is_absent_in (outs-Word x)
  given_there g s t u (Becomes.a_text _ _ x) e = ap is_absent (out-Text x) ∙ ap is_absent_in (outs-Text x)
  given_there g s t u (Becomes.a_span _ _ x) e = ap is_absent (out-Span x) ∙ ap is_absent_in (outs-Span x)
  given_there g s t u (Becomes.name _ _ k i j a) e = ap is_absent (out-Identifier k i) ∙ ap is_absent_in (outs-Identifier k i)
  given_there g s t u (Becomes.short _ k i j a) e = ap is_absent (out-Identifier k i) ∙ ap is_absent_in (outs-Identifier k i)
  given_there g s t u (Becomes.list _ _ _ _ _) e = absurd (cc)
  given_there g s t u (Becomes.tree _ _ k l ts us h) e = ap is_absent (out-Tree k ts) ∙ step_there k (map written_out ts)

  span_like : (b : Bool) (x : Range) → L b (Span x) (Span x)
  span_like b x = Like.a_span b x x refl

  made_default : (f : Bool) (s : Range) (i j : Ident) (t u : Node) → Alike m f i j → L true t u
      → L f (Tree kind.AssignPat (Span s ∷ Identifier kind.BindingIdent i ∷ t ∷ [])) (Tree kind.AssignPat (Span s ∷ Identifier kind.BindingIdent j ∷ u ∷ []))
  made_default f s i j t u a h = Like.tree f kind.AssignPat _ _ refl (LikeFields.next false _ _ _ _ _ (span_like false s) (LikeFields.next f _ _ _ _ _ (Like.name f kind.BindingIdent i j a) (LikeFields.next true _ _ _ _ _ h LikeFields.end)))

  default_like : (f : Bool) (i : Ident) (t u : Node) → Alike m f i i → L true t u → L f (with_default (Span i.span) (Identifier kind.BindingIdent i) t) (with_default (Span i.span) (Identifier kind.BindingIdent i) u)
  default_like f i t u a h = by (is_absent t) (is_absent u) (absent_same m true t u h)
    where
      by : (x y : Bool) → x ≡ y → L f (if x then Identifier kind.BindingIdent i else Tree kind.AssignPat (Span i.span ∷ Identifier kind.BindingIdent i ∷ t ∷ []))
          (if y then Identifier kind.BindingIdent i else Tree kind.AssignPat (Span i.span ∷ Identifier kind.BindingIdent i ∷ u ∷ []))
      by true true e = Like.name f kind.BindingIdent i i a
      by false false e = made_default f i.span i i t u a h
      by true false e = absurd (cc)
      by false true e = absurd (cc)

  value_like : (f : Bool) (i : Ident) (t u : Node) → L f t u → L f (Tree kind.KeyValuePatProp (key_of i ∷ t ∷ [])) (Tree kind.KeyValuePatProp (key_of i ∷ u ∷ []))
  value_like f i t u h = Like.tree f kind.KeyValuePatProp _ _ refl (LikeFields.next false _ _ _ _ _ (key_like m false i i refl refl) (LikeFields.next f _ _ _ _ _ h LikeFields.end))

  double_like : (s : Spot) (k : Kind) (a b o p t u : Node) → is_double s k ≡ true → L false a b → L true o p → L false t u → L (flag s) (Tree k (a ∷ o ∷ t ∷ [])) (Tree k (b ∷ p ∷ u ∷ []))
  double_like (part f) kind.ImportNamedSpecifier a b o p t u e x y z = Like.tree f kind.ImportNamedSpecifier _ _ refl (LikeFields.next false _ _ _ _ _ x (LikeFields.next true _ _ _ _ _ y (LikeFields.next false _ _ _ _ _ z LikeFields.end)))
  double_like (part f) k a b o p t u e x y z = impossible e
  double_like specifier kind.ExportNamedSpecifier a b o p t u e x y z = Like.tree true kind.ExportNamedSpecifier _ _ refl (LikeFields.next false _ _ _ _ _ x (LikeFields.next true _ _ _ _ _ y (LikeFields.next false _ _ _ _ _ z LikeFields.end)))
  double_like specifier k a b o p t u e x y z = impossible e
  double_like property k a b o p t u e x y z = impossible e

  -- ---- the export list of an exported declaration

  itself_like : (x : Id) → m x ≡ None → L true (exported_as_itself (made x)) (exported_as_itself (made x))
  itself_like x e = double_like specifier kind.ExportNamedSpecifier _ _ _ _ _ _ refl (span_like false no_span) (Like.name true kind.Ident (made x) (made x) (refl, inl (refl, e))) (Like.name false kind.Ident _ _ (refl, inl (refl, refl)))

  stays_first : (o : Option Id) (b : Bool) → (is_some o || b) ≡ false → o ≡ None
  stays_first None b h = refl
  stays_first (Some y) b h = absurd (cc)

  stay_rest : (a b : Bool) → (a || b) ≡ false → b ≡ false
  stay_rest true b h = absurd (cc)
  stay_rest false b h = h

  themselves_like : (xs : List Id) → list_any (λ x. is_some (m x)) xs ≡ false → Likes m true (map exported_as_itself (map made xs)) (map exported_as_itself (map made xs))
  themselves_like [] n = Likes.none true
  themselves_like (x ∷ xs) n = Likes.more true _ _ _ _ (itself_like x (stays_first (m x) _ n)) (themselves_like xs (stay_rest (is_some (m x)) _ n))

  list_like : (xs : List Id) → list_any (λ x. is_some (m x)) xs ≡ false → L false (export_list (each_once (map made xs))) (export_list (each_once (map made xs)))
  list_like xs n = moved m false _ _ _ _ (ap export_list (once_made xs)) (ap export_list (once_made xs))
      (Like.exports false _ _ _ _ _ _ (span_like false no_span) (themselves_like (distinct xs) (any_distinct m xs ∙ n)) (Like.absent false))

  made_like : (x : Id) (o : Option Id) → m x ≡ o → L true (exported_as_itself (made x)) (to_specifier (written_out (specifier_to x o)))
  made_like x None e = moved m true _ _ _ _ refl (double_is specifier kind.ExportNamedSpecifier nowhere (Identifier kind.Ident (exported.made x)) Absent refl
      ∙ (λ i. Tree kind.ExportNamedSpecifier (out-Span no_span i ∷ out-Identifier kind.Ident (exported.made x) i ∷ again (out-Identifier kind.Ident (exported.made x) i) (out-Absent i) ∷ []))
      ∙ ap (λ t. Tree kind.ExportNamedSpecifier (Span no_span ∷ Identifier kind.Ident (exported.made x) ∷ t ∷ [])) (again_name kind.Ident (exported.made x)))
      (itself_like x e)
  made_like x (Some y) e =
      let other = Identifier kind.Ident (exported.made (x.0, [])) in
      moved m true _ _ _ _ refl (double_is specifier kind.ExportNamedSpecifier nowhere (Identifier kind.Ident (exported.made y)) other refl
      ∙ (λ i. Tree kind.ExportNamedSpecifier (out-Span no_span i ∷ out-Identifier kind.Ident (exported.made y) i ∷ again (out-Identifier kind.Ident (exported.made y) i) (out-Identifier kind.Ident (exported.made (x.0, [])) i) ∷ []))
      ∙ ap (λ t. Tree kind.ExportNamedSpecifier (Span no_span ∷ Identifier kind.Ident (exported.made y) ∷ t ∷ [])) (again_there (Identifier kind.Ident (exported.made y)) other (ap is_absent_in (outs-Identifier kind.Ident (exported.made (x.0, []))))))
      (double_like specifier kind.ExportNamedSpecifier _ _ _ _ _ _ refl (span_like false no_span) (Like.name true kind.Ident (made x) (exported.made y) (refl, inr (refl, e))) (Like.name false kind.Ident _ _ (refl, inl (refl, refl))))

  all_made_like : (xs : List Id) → Likes m true (map exported_as_itself (map made xs)) (map to_specifier (map written_out (map (exported.specifier m) xs)))
  all_made_like [] = Likes.none true
  all_made_like (x ∷ xs) = Likes.more true _ _ _ _ (made_like x (m x) refl) (all_made_like xs)

  exports_like : (xs : List Id) → L false (export_list (each_once (map made xs))) (written_out (exported.export_list m (distinct xs)))
  exports_like xs = moved m false _ _ _ _ (ap export_list (once_made xs))
      (exports_are nowhere (map (exported.specifier m) (distinct xs)) Absent
      ∙ (λ i. Tree kind.NamedExport (out-Span no_span i ∷ Many (map to_specifier (map written_out (map (exported.specifier m) (distinct xs)))) ∷ Absent ∷ out-Absent i ∷ [])))
      (Like.exports false _ _ _ _ _ _ (span_like false no_span) (all_made_like (distinct xs)) (Like.absent false))

  -- ---- lists

  none_done : (s : Spot) → Likes m (flag s) (all_finished s []) (all_finished s [])
  none_done (part b) = Likes.none b
  none_done property = Likes.none true
  none_done specifier = Likes.none true

  more_done : (s : Spot) (t u : Node) (ts us : List Node) → L (flag s) (finished s t) (finished s u) → Likes m (flag s) (all_finished s ts) (all_finished s us)
      → Likes m (flag s) (all_finished s (t ∷ ts)) (all_finished s (u ∷ us))
  more_done (part b) t u ts us h l = Likes.more b _ _ _ _ h l
  more_done property t u ts us h l = Likes.more true _ _ _ _ h l
  more_done specifier t u ts us h l = Likes.more true _ _ _ _ h l

  likes_append : (b : Bool) (ts us vs ws : List Node) → Likes m b ts us → Likes m b vs ws → Likes m b (ts ++ vs) (us ++ ws)
  likes_append b ts us vs ws (Likes.none _) k = k
  likes_append b ts us vs ws (Likes.more _ t u ts0 us0 h l) k = Likes.more b t u _ _ h (likes_append b ts0 us0 vs ws l k)

  two_likes : (t u v w : Node) → L false t u → L false v w → Likes m false (t ∷ v ∷ []) (u ∷ w ∷ [])
  two_likes t u v w h k = Likes.more false t u _ _ h (Likes.more false v w _ _ k (Likes.none false))

  -- ---- properties and specifiers that become themselves

  stays : (s : Spot) (k : Kind) (ts : List Node) → is_tame (Node-F.Tree k ts) ≡ true → finished s (Tree k ts) ≡ Tree k ts
  stays s k ts e = tame s (Tree k ts) (Node-F.Tree k ts) (outs-Tree k ts) e

  rolled_row : (s : Spot) (k : Kind) (ts us : List Node) → is_tame (Node-F.Tree k ts) ≡ true → is_tame (Node-F.Tree k us) ≡ true → is_left k ≡ true → LikeFields m (flags (flag s) k) ts us
      → L (flag s) (finished s (roll-Node (Node-F.Tree k ts))) (finished s (roll-Node (Node-F.Tree k us)))
  rolled_row s k ts us e f n l = moved m (flag s) _ _ _ _ (rolled s k ts e) (rolled s k us f) (Like.tree (flag s) k ts us n l)

  setter_done : (ts us : List Node) → LikeFields m (flags true kind.SetterProp) ts us → L true (to_property (written_step (Node-F.Tree kind.SetterProp ts))) (to_property (written_step (Node-F.Tree kind.SetterProp us)))
  setter_done ts us (LikeFields.next _ _ a0 a1 _ _ a (LikeFields.next _ _ b0 b1 _ _ t (LikeFields.next _ _ c0 c1 _ _ c (LikeFields.next _ _ d0 d1 _ _ d LikeFields.end)))) =
      moved m true _ _ _ _ (stays property kind.SetterProp _ refl) (stays property kind.SetterProp _ refl)
      (setter_row m true _ _ (LikeFields.next _ _ a0 a1 _ _ a (LikeFields.next _ _ b0 b1 _ _ t (LikeFields.next _ _ c0 c1 _ _ c (LikeFields.next _ _ d0 d1 _ _ d LikeFields.end)))))

  even_done : (s : Spot) (k : Kind) (ts us : List Node) → is_even s k ≡ true → LikeFields m (flags (flag s) k) ts us → L (flag s) (finished s (written_step (Node-F.Tree k ts))) (finished s (written_step (Node-F.Tree k us)))
  even_done (part b) k ts us e l = even_row m b b k ts us e l
  even_done property kind.SpreadElement ts us e l = rolled_row property kind.SpreadElement ts us refl refl refl l
  even_done property kind.KeyValueProp ts us e l = rolled_row property kind.KeyValueProp ts us refl refl refl l
  even_done property kind.GetterProp ts us e l = rolled_row property kind.GetterProp ts us refl refl refl l
  even_done property kind.MethodProp ts us e l = rolled_row property kind.MethodProp ts us refl refl refl l
  even_done property kind.SetterProp ts us e l = setter_done ts us l
  even_done property k ts us e l = impossible e
  even_done specifier kind.ExportNamespaceSpecifier ts us e l = rolled_row specifier kind.ExportNamespaceSpecifier ts us refl refl refl l
  even_done specifier k ts us e l = impossible e

  -- ---- the whole

  abbrev Done : Spot → Node → Node → Type 0
  Done s t u = L (flag s) (finished s (written_out t)) (finished s (written_out u))

  leaf_done : (s : Spot) (t : Node) (y : Node-F Node) → written_out t ≡ t → out-Node t ≡ y → is_tame y ≡ true → finished s (written_out t) ≡ t
  leaf_done s t y e o n = ap (finished s) e ∙ tame s t y o n

  mutual
    pub written_becomes : (g : Bool) (s : Spot) (t u : Node) → Becomes m declared g s t u → Done s t u
    written_becomes g s t u (Becomes.absent s0) = moved m (flag s0) _ _ _ _ (leaf_done s0 Absent _ out-Absent outs-Absent refl) (leaf_done s0 Absent _ out-Absent outs-Absent refl) (Like.absent (flag s0))
    written_becomes g s t u (Becomes.a_flag _ s0 x) = moved m (flag s0) _ _ _ _ (leaf_done s0 (Flag x) _ (out-Flag x) (outs-Flag x) refl) (leaf_done s0 (Flag x) _ (out-Flag x) (outs-Flag x) refl) (Like.a_flag (flag s0) x)
    written_becomes g s t u (Becomes.a_word _ s0 x) = moved m (flag s0) _ _ _ _ (leaf_done s0 (Word x) _ (out-Word x) (outs-Word x) refl) (leaf_done s0 (Word x) _ (out-Word x) (outs-Word x) refl) (Like.a_word (flag s0) x)
    written_becomes g s t u (Becomes.a_text _ s0 x) = moved m (flag s0) _ _ _ _ (leaf_done s0 (Text x) _ (out-Text x) (outs-Text x) refl) (leaf_done s0 (Text x) _ (out-Text x) (outs-Text x) refl) (Like.a_text (flag s0) x)
    written_becomes g s t u (Becomes.a_span _ s0 x) = moved m (flag s0) _ _ _ _ (leaf_done s0 (Span x) _ (out-Span x) (outs-Span x) refl) (leaf_done s0 (Span x) _ (out-Span x) (outs-Span x) refl) (span_like (flag s0) x)
    written_becomes g s t u (Becomes.name _ s0 k i j a) = moved m (flag s0) _ _ _ _ (ap (finished s0) (out-Identifier k i)) (ap (finished s0) (out-Identifier k j)) (name_done m s0 k i j a)
    written_becomes g s t u (Becomes.short _ k i j a) =
        moved m true _ _ _ _ (ap to_property (out-Identifier k i))
        (ap to_property (out-Tree kind.KeyValueProp (shorthand_key i ∷ Identifier k j ∷ [])) ∙ rolled property kind.KeyValueProp _ refl
        ∙ (λ x. Tree kind.KeyValueProp (out_shorthand i x ∷ out-Identifier k j x ∷ [])))
        (short_done m k i j a)
    written_becomes g s t u (Becomes.list h b ts us l) = moved m b _ _ _ _ (out-List ts) (out-List us) (Like.list b _ _ (written_all h (part b) ts us l))
    written_becomes g s t u (Becomes.tree _ s0 k l ts us h) = written_trees s0 k l ts us h

    written_trees : (s : Spot) (k l : Kind) (ts us : List Node) → Trees m declared s k ts l us → Done s (Tree k ts) (Tree l us)
    written_trees s k l ts us (Trees.even s0 k0 ts0 us0 e f) =
        moved m (flag s0) _ _ _ _ (ap (finished s0) (out-Tree k0 ts0)) (ap (finished s0) (out-Tree k0 us0))
        (even_done s0 k0 _ _ e (subst (λ bs. LikeFields m bs (map written_out ts0) (map written_out us0)) (spots_flags (flag s0) (fields_of k0)) (written_fields (spots (flag s0) k0) ts0 us0 f)))
    written_trees s k l ts us (Trees.pair a0 a1 t0 u0 a h) =
        moved m true _ _ _ _ (out-Tree kind.ParenExpr (a0 ∷ t0 ∷ []) ∙ rolls-Tree kind.ParenExpr _) (out-Tree kind.ParenExpr (a1 ∷ u0 ∷ []) ∙ rolls-Tree kind.ParenExpr _)
        (Like.tree true kind.ParenExpr _ _ refl (LikeFields.next false _ _ _ _ _ (written_becomes true (part false) a0 a1 a) (LikeFields.next true _ _ _ _ _ (written_becomes true (part true) t0 u0 h) LikeFields.end)))
    written_trees s k l ts us (Trees.sequence a0 a1 ts0 us0 a h) =
        moved m true _ _ _ _ (out-Tree kind.SeqExpr (a0 ∷ Many ts0 ∷ []) ∙ rolls-Tree kind.SeqExpr _ ∙ ap (λ t. Tree kind.SeqExpr (written_out a0 ∷ t ∷ [])) (out-List ts0))
        (out-Tree kind.SeqExpr (a1 ∷ Many us0 ∷ []) ∙ rolls-Tree kind.SeqExpr _ ∙ ap (λ t. Tree kind.SeqExpr (written_out a1 ∷ t ∷ [])) (out-List us0))
        (Like.tree true kind.SeqExpr _ _ refl (LikeFields.next false _ _ _ _ _ (written_becomes true (part false) a0 a1 a) (LikeFields.next true _ _ _ _ _ (Like.list true _ _ (written_all true (part true) ts0 us0 h)) LikeFields.end)))
    written_trees s k l ts us (Trees.object f a0 a1 ts0 us0 a h) =
        moved m f _ _ _ _ (out-Tree kind.ObjectLit (a0 ∷ Many ts0 ∷ []) ∙ ap (λ l. Tree kind.ObjectLit (written_out a0 ∷ Many (map to_property l) ∷ [])) (out_items ts0))
        (out-Tree kind.ObjectLit (a1 ∷ Many us0 ∷ []) ∙ ap (λ l. Tree kind.ObjectLit (written_out a1 ∷ Many (map to_property l) ∷ [])) (out_items us0))
        (Like.tree f kind.ObjectLit _ _ refl (LikeFields.next false _ _ _ _ _ (written_becomes true (part false) a0 a1 a) (LikeFields.next true _ _ _ _ _ (Like.list true _ _ (written_all true property ts0 us0 h)) LikeFields.end)))
    written_trees s k l ts us (Trees.key_stays f a0 a1 i t0 u0 n a h) =
        moved m f _ _ _ _ (key_is a0 i t0) (key_is a1 i u0) (value_like f i _ _ (default_like f i _ _ n (written_becomes false (part true) t0 u0 h)))
    written_trees s k l ts us (Trees.key_alone f a0 i j a) =
        moved m f _ _ _ _
        (key_is a0 i Absent ∙ ap (λ t. Tree kind.KeyValuePatProp (key_of i ∷ with_default (Span i.span) (Identifier kind.BindingIdent i) t ∷ [])) out-Absent
        ∙ ap (λ t. Tree kind.KeyValuePatProp (key_of i ∷ t ∷ [])) (plain_default (Span i.span) (Identifier kind.BindingIdent i)))
        (value_is i (Identifier kind.BindingIdent j) ∙ ap (λ t. Tree kind.KeyValuePatProp (key_of i ∷ t ∷ [])) (named_is j))
        (value_like f i _ _ (Like.name f kind.BindingIdent i j a))
    written_trees s k l ts us (Trees.key_default f a0 i j t0 u0 a h) =
        moved m f _ _ _ _
        (key_is a0 i t0 ∙ ap (λ t. Tree kind.KeyValuePatProp (key_of i ∷ t ∷ [])) (some_default (Span i.span) (Identifier kind.BindingIdent i) (written_out t0) (given_there true (part true) t0 u0 h refl)))
        (value_is i (Tree kind.AssignPat (Span i.span ∷ Identifier kind.BindingIdent j ∷ u0 ∷ [])) ∙ ap (λ t. Tree kind.KeyValuePatProp (key_of i ∷ t ∷ [])) (default_is i.span j u0))
        (value_like f i _ _ (made_default f i.span i j _ _ a (written_becomes true (part true) t0 u0 h)))
    written_trees s k l ts us (Trees.both_names s0 k0 a0 a1 b0 b1 c0 c1 e a b c) =
        let like = written_becomes true (part false) c0 c1 c in
        let here = given_there true (part false) c0 c1 c refl in
        let there' : is_absent (written_out c1) ≡ false = sym (absent_same m false _ _ like) ∙ here in
        moved m (flag s0) _ _ _ _ (double_is s0 k0 a0 b0 c0 e ∙ ap (λ t. Tree k0 (written_out a0 ∷ written_out b0 ∷ t ∷ [])) (again_there (written_out b0) (written_out c0) here))
        (double_is s0 k0 a1 b1 c1 e ∙ ap (λ t. Tree k0 (written_out a1 ∷ written_out b1 ∷ t ∷ [])) (again_there (written_out b1) (written_out c1) there'))
        (double_like s0 k0 _ _ _ _ _ _ e (written_becomes true (part false) a0 a1 a) (written_becomes true (part true) b0 b1 b) like)
    written_trees s k l ts us (Trees.one_stays s0 k0 a0 a1 b0 b1 e a b c) =
        moved m (flag s0) _ _ _ _ (double_is s0 k0 a0 b0 Absent e ∙ ap (λ t. Tree k0 (written_out a0 ∷ written_out b0 ∷ t ∷ [])) (ap (again (written_out b0)) out-Absent ∙ again_none (written_out b0)))
        (double_is s0 k0 a1 b1 Absent e ∙ ap (λ t. Tree k0 (written_out a1 ∷ written_out b1 ∷ t ∷ [])) (ap (again (written_out b1)) out-Absent ∙ again_none (written_out b1)))
        (double_like s0 k0 _ _ _ _ _ _ e (written_becomes true (part false) a0 a1 a) (written_becomes true (part true) b0 b1 b) (again_like m _ _ (written_becomes true (part false) b0 b1 c)))
    written_trees s k l ts us (Trees.one_changes s0 k0 a0 a1 n i j e a b) =
        let other = Identifier kind.Ident (kept_name i) in
        moved m (flag s0) _ _ _ _
        (double_is s0 k0 a0 (Identifier n i) Absent e ∙ (λ x. Tree k0 (written_out a0 ∷ out-Identifier n i x ∷ again (out-Identifier n i x) (out-Absent x) ∷ []))
        ∙ ap (λ t. Tree k0 (written_out a0 ∷ Identifier n i ∷ t ∷ [])) (again_name n i))
        (double_is s0 k0 a1 (Identifier n j) other e ∙ (λ x. Tree k0 (written_out a1 ∷ out-Identifier n j x ∷ again (out-Identifier n j x) (out-Identifier kind.Ident (kept_name i) x) ∷ []))
        ∙ ap (λ t. Tree k0 (written_out a1 ∷ Identifier n j ∷ t ∷ [])) (again_there (Identifier n j) other (ap is_absent_in (outs-Identifier kind.Ident (kept_name i)))))
        (double_like s0 k0 _ _ _ _ _ _ e (written_becomes true (part false) a0 a1 a) (Like.name true n i j b) (Like.name false kind.Ident _ _ (refl, inl (refl, refl))))
    written_trees s k l ts us (Trees.exports f a0 a1 ts0 us0 c0 c1 a h c) =
        moved m f _ _ _ _ (exports_are a0 ts0 c0) (exports_are a1 us0 c1) (Like.exports f _ _ _ _ _ _ (written_becomes true (part false) a0 a1 a) (written_all true specifier ts0 us0 h) (written_becomes false (part false) c0 c1 c))
    written_trees s k l ts us (Trees.reexports f a0 a1 ts0 us0 xs ys c0 c1 a h x c) =
        moved m f _ _ _ _ (reexports_are a0 ts0 xs c0) (reexports_are a1 us0 ys c1)
        (Like.reexports f _ _ _ _ _ _ _ _ (written_becomes true (part false) a0 a1 a) (written_all true (part false) ts0 us0 h) (written_fields (spots false kind.Str) xs ys x) (written_becomes false (part false) c0 c1 c))
    written_trees s k l ts us (Trees.program f a0 a1 ts0 us0 c0 c1 a h c) =
        moved m f _ _ _ _ (out-Tree kind.Module (a0 ∷ Many ts0 ∷ c0 ∷ []) ∙ ap (λ l. Tree kind.Module (written_out a0 ∷ Many (flat_map split l) ∷ written_out c0 ∷ [])) (out_items ts0))
        (out-Tree kind.Module (a1 ∷ Many us0 ∷ c1 ∷ []) ∙ ap (λ l. Tree kind.Module (written_out a1 ∷ Many (flat_map split l) ∷ written_out c1 ∷ [])) (out_items us0))
        (Like.tree f kind.Module _ _ refl (LikeFields.next false _ _ _ _ _ (written_becomes true (part false) a0 a1 a) (LikeFields.next false _ _ _ _ _ (Like.list false _ _ (written_items ts0 us0 h))
        (LikeFields.next false _ _ _ _ _ (written_becomes false (part false) c0 c1 c) LikeFields.end))))

    written_all : (g : Bool) (s : Spot) (ts us : List Node) → All m declared g s ts us → Likes m (flag s) (all_finished s (map written_out ts)) (all_finished s (map written_out us))
    written_all g s ts us (All.none _ s0) = none_done s0
    written_all g s ts us (All.more g0 s0 t u ts0 us0 h l) = more_done s0 _ _ _ _ (written_becomes g0 s0 t u h) (written_all g0 s0 ts0 us0 l)

    written_fields : (ss : List (Bool × Bool)) (ts us : List Node) → Fields m declared ss ts us → LikeFields m (map (λ (s : Bool × Bool). s.1) ss) (map written_out ts) (map written_out us)
    written_fields ss ts us Fields.end = LikeFields.end
    written_fields ss ts us (Fields.next g b ss0 t u ts0 us0 h l) = LikeFields.next b _ _ _ _ _ (written_becomes g (part b) t u h) (written_fields ss0 ts0 us0 l)

    written_items : (ts us : List Node) → Items m declared ts us → Likes m false (flat_map split (map written_out ts)) (flat_map split (map written_out us))
    written_items ts us Items.nothing = Likes.none false
    written_items ts us (Items.item t u ts0 us0 h l) =
        let like = written_becomes true (part false) t u h in
        let alone = split_alone m false _ _ like in
        likes_append false _ _ _ _ (moved_all m false _ _ _ _ alone.0 alone.1 (Likes.more false _ _ _ _ like (Likes.none false))) (written_items ts0 us0 l)
    written_items ts us (Items.whole a0 a1 t u ts0 us0 a h n l) =
        let like = written_becomes true (part false) t u h in
        let same = declared_kept m false _ _ like n in
        likes_append false _ _ _ _
        (moved_all m false _ _ _ _ (exported_is a0 t) (exported_is a1 u ∙ ap (λ xs. written_out u ∷ export_list (each_once (map made xs)) ∷ []) same)
        (two_likes _ _ _ _ like (list_like (declared t) n))) (written_items ts0 us0 l)
    written_items ts us (Items.split a0 t u ts0 us0 h l) =
        let like = written_becomes true (part false) t u h in
        let lists = exports_like (declared t) in
        moved_all m false _ _ _ _ (ap (λ x. x ++ flat_map split (map written_out ts0)) (exported_is a0 t))
        (ap (λ x. x ++ (split (written_out (exported.export_list m (distinct (declared t)))) ++ flat_map split (map written_out us0))) (split_alone m false _ _ like).1
        ∙ ap (λ x. written_out u ∷ (x ++ flat_map split (map written_out us0))) (split_alone m false _ _ lists).1)
        (Likes.more false _ _ _ _ like (Likes.more false _ _ _ _ lists (written_items ts0 us0 l)))
