-- What is beside one another is alike when what is short is written out.
use Rattle.std.proofs.Common.{◌≡◌, ℕ, Bool, true, false, List, [], ◌∷◌, map, codes, nat_eq, refl, sym, ap, ◌∙◌, subst, rules, inl, true≢false}
use Rattle.std.specs.Prelude.{if◌then◌else◌}
use Rattle.std.specs.Cmp.Lexicographic.{pointwise}
use Rattle.swc_tree_marks.specs.declared.span.Span.{Span as Range}
use Rattle.swc_tree_marks.specs.declared.ident.Ident.{Ident}
use Rattle.swc_tree_node.specs.declared.kind.Kind.{Kind}
use Rattle.swc_tree_node.specs.declared.kind.Kind.TheVariants as kind
use Rattle.swc_tree_node.specs.declared.kind.Word.{Word as Word'}
use Rattle.swc_tree_node.specs.declared.node.Node.{Node, Absent, Flag, Word, Text, Span, List as Many, Identifier, Tree, out-Node, roll-Node, out-roll-Node, the_lemmas}
use Rattle.swc_tree_node.specs.declared.node.Node.TheVariants.{outs-Identifier, rolls-Tree}
use Rattle.swc_tree_node.specs.declared.node.Node.TheOpen.{Node-F}
use Rattle.swc_tree_scoping.specs.Shorthands.{computed_key, key_of, shorthand_key}
use Rattle.swc_tree_grammar.specs.Shapes.{items_of}
use Rattle.swc_tree_grammar.specs.Normal.{property as to_property, property_in, specifier as to_specifier, specifier_in, written_out, written_step}
use Rattle.swc_tree_grammar.proofs.Items.{items_of_list}
use Rattle.swc_base_rename_substitution.specs.Identifiers.{Changes}
use Rattle.swc_base_rename_laws.proofs.NormalFormPairs.{Alike, AlikeAt, Like, LikeFields, Spot, even_at, flag, flags, part, property, specifier}
use Rattle.swc_base_rename_laws.proofs.NormalFormLike.{items_like, moved, opened_like, pattern_like, patterns_like}

-- ---- leaves

pub out-Absent : written_out Absent ≡ Absent
out-Absent = search (rules, the_lemmas)

pub out-Flag : (x : Bool) → written_out (Flag x) ≡ Flag x
out-Flag x = search (rules, the_lemmas)

pub out-Word : (x : Word') → written_out (Word x) ≡ Word x
out-Word x = search (rules, the_lemmas)

pub out-Text : (x : List ℕ) → written_out (Text x) ≡ Text x
out-Text x = search (rules, the_lemmas)

pub out-Span : (x : Range) → written_out (Span x) ≡ Span x
out-Span x = search (rules, the_lemmas)

pub out-Identifier : (k : Kind) (i : Ident) → written_out (Identifier k i) ≡ Identifier k i
out-Identifier k i = search (rules, the_lemmas)

pub out-List : (ts : List Node) → written_out (Many ts) ≡ Many (map written_out ts)
out-List ts = search (rules, the_lemmas)

pub out-Tree : (k : Kind) (ts : List Node) → written_out (Tree k ts) ≡ written_step (Node-F.Tree k (map written_out ts))
out-Tree k ts = search (rules, the_lemmas)

pub out_items : (ts : List Node) → items_of (written_out (Many ts)) ≡ map written_out ts
out_items ts = ap items_of (out-List ts) ∙ items_of_list (map written_out ts)

-- ---- keys

pub out_key : (i : Ident) → written_out (key_of i) ≡ key_of i
out_key i = search (rules, the_lemmas)

out_computed : (i : Ident) → written_out (computed_key i) ≡ computed_key i
out_computed i = search (rules, the_lemmas)

out_either : (b : Bool) (i : Ident) → written_out (if b then computed_key i else key_of i) ≡ (if b then computed_key i else key_of i)
out_either true i = out_computed i
out_either false i = out_key i

pub out_shorthand : (i : Ident) → written_out (shorthand_key i) ≡ shorthand_key i
out_shorthand i = out_either _ i

-- ---- what is done in a list of properties, and in an export list

abbrev pub finished : Spot → Node → Node
finished (part b) t = t
finished property t = to_property t
finished specifier t = to_specifier t

abbrev pub all_finished : Spot → List Node → List Node
all_finished (part b) ts = ts
all_finished property ts = map to_property ts
all_finished specifier ts = map to_specifier ts

-- a layer that neither works on
abbrev pub is_tame : Node-F Node → Bool
is_tame (Node-F.Identifier k i) = false
is_tame (Node-F.Tree kind.ExportNamedSpecifier ts) = false
is_tame y = true

tame_property : (t : Node) (y : Node-F Node) → is_tame y ≡ true → property_in t y ≡ t
tame_property t (Node-F.Identifier k i) e = absurd (cc)
tame_property t y e = refl

tame_specifier : (t : Node) (y : Node-F Node) → is_tame y ≡ true → specifier_in t y ≡ t
tame_specifier t (Node-F.Tree kind.ExportNamedSpecifier ts) e = absurd (cc)
tame_specifier t y e = refl

pub tame : (s : Spot) (t : Node) (y : Node-F Node) → out-Node t ≡ y → is_tame y ≡ true → finished s t ≡ t
tame (part b) t y o e = refl
tame property t y o e = ap (property_in t) o ∙ tame_property t y e
tame specifier t y o e = ap (specifier_in t) o ∙ tame_specifier t y e

pub rolled : (s : Spot) (k : Kind) (ts : List Node) → is_tame (Node-F.Tree k ts) ≡ true → finished s (roll-Node (Node-F.Tree k ts)) ≡ Tree k ts
rolled s k ts e = tame s _ _ (out-roll-Node (Node-F.Tree k ts)) e ∙ rolls-Tree k ts

module _ (m : Changes) where
  abbrev L : Bool → Node → Node → Type 0
  L = Like m

  text_like : (b : Bool) (x y : List ℕ) → x ≡ y → L b (Text x) (Text y)
  text_like b x y e = subst (λ y. L b (Text x) (Text y)) e (Like.a_text b x)

  pub key_like : (b : Bool) (i j : Ident) → i.sym ≡ j.sym → i.span ≡ j.span → L b (key_of i) (key_of j)
  key_like b i j e s = Like.tree b kind.IdentName _ _ refl (LikeFields.next false _ _ _ _ _ (Like.a_span false i.span j.span s) (LikeFields.next false _ _ _ _ _ (text_like false i.sym j.sym e) LikeFields.end))

  string_like : (b : Bool) (i j : Ident) → i.sym ≡ j.sym → i.span ≡ j.span → L b (Tree kind.Str (Span i.span ∷ Text i.sym ∷ Absent ∷ [])) (Tree kind.Str (Span j.span ∷ Text j.sym ∷ Absent ∷ []))
  string_like b i j e s = Like.tree b kind.Str _ _ refl (LikeFields.next false _ _ _ _ _ (Like.a_span false i.span j.span s) (LikeFields.next false _ _ _ _ _ (text_like false i.sym j.sym e)
      (LikeFields.next false _ _ _ _ _ (Like.absent false) LikeFields.end)))

  computed_like : (b : Bool) (i j : Ident) → i.sym ≡ j.sym → i.span ≡ j.span → L b (computed_key i) (computed_key j)
  computed_like b i j e s = Like.tree b kind.ComputedPropName _ _ refl (LikeFields.next false _ _ _ _ _ (Like.a_span false i.span j.span s) (LikeFields.next true _ _ _ _ _ (string_like true i j e s) LikeFields.end))

  either_like : (b : Bool) (x y : Bool) (i j : Ident) → i.sym ≡ j.sym → i.span ≡ j.span → x ≡ y → L b (if x then computed_key i else key_of i) (if y then computed_key j else key_of j)
  either_like b true true i j e s q = computed_like b i j e s
  either_like b false false i j e s q = key_like b i j e s
  either_like b true false i j e s q = absurd (cc)
  either_like b false true i j e s q = absurd (cc)

  shorthand_like : (b : Bool) (i j : Ident) → i.sym ≡ j.sym → i.span ≡ j.span → L b (shorthand_key i) (shorthand_key j)
  shorthand_like b i j e s = either_like b _ _ i j e s (ap (λ x. pointwise nat_eq x (codes "__proto__")) e)

  pair_like : (b : Bool) (k : Kind) (i j : Ident) → i.sym ≡ j.sym → i.span ≡ j.span → Alike m true i j → L b (Tree kind.KeyValueProp (shorthand_key i ∷ Identifier k i ∷ [])) (Tree kind.KeyValueProp (shorthand_key j ∷ Identifier k j ∷ []))
  pair_like b k i j e s a = Like.tree b kind.KeyValueProp _ _ refl (LikeFields.next false _ _ _ _ _ (shorthand_like false i j e s) (LikeFields.next true _ _ _ _ _ (Like.name true k i j a) LikeFields.end))

  property_of : (k : Kind) (i : Ident) → to_property (Identifier k i) ≡ Tree kind.KeyValueProp (shorthand_key i ∷ Identifier k i ∷ [])
  property_of k i = ap (property_in (Identifier k i)) (outs-Identifier k i)

  -- ---- a node in an object literal, or in an export list, or elsewhere

  pub name_done : (s : Spot) (k : Kind) (i j : Ident) → AlikeAt m s i j → L (flag s) (finished s (Identifier k i)) (finished s (Identifier k j))
  name_done (part b) k i j a = Like.name b k i j a
  name_done property k i j e = moved m true _ _ _ _ (property_of k i) (property_of k j) (pair_like true k i j (ap (λ x. x.0) (sym e.1.0)) (sym e.0) (e.0, inl e.1))
  name_done specifier k i j a = moved m true _ _ _ _ (ap (specifier_in _) (outs-Identifier k i)) (ap (specifier_in _) (outs-Identifier k j)) (Like.name true k i j a)

  pub short_done : (k : Kind) (i j : Ident) → Alike m true i j → L true (to_property (Identifier k i)) (Tree kind.KeyValueProp (shorthand_key i ∷ Identifier k j ∷ []))
  short_done k i j a = moved m true _ _ _ _ (property_of k i) refl
      (Like.tree true kind.KeyValueProp _ _ refl (LikeFields.next false _ _ _ _ _ (shorthand_like false i i refl refl) (LikeFields.next true _ _ _ _ _ (Like.name true k i j a) LikeFields.end)))

  -- ---- rows

  if_row : (b : Bool) (ts us : List Node) → LikeFields m (flags b kind.IfStmt) ts us → L b (written_step (Node-F.Tree kind.IfStmt ts)) (written_step (Node-F.Tree kind.IfStmt us))
  if_row b ts us (LikeFields.next _ _ a0 a1 _ _ a (LikeFields.next _ _ b0 b1 _ _ t (LikeFields.next _ _ c0 c1 _ _ c (LikeFields.next _ _ d0 d1 _ _ d LikeFields.end)))) =
      Like.tree b kind.IfStmt _ _ refl (LikeFields.next false _ _ _ _ _ a (LikeFields.next true _ _ _ _ _ t (LikeFields.next false _ _ _ _ _ (opened_like m c0 c1 c) (LikeFields.next false _ _ _ _ _ d LikeFields.end))))

  array_row : (b : Bool) (ts us : List Node) → LikeFields m (flags b kind.ArrayPat) ts us → L b (written_step (Node-F.Tree kind.ArrayPat ts)) (written_step (Node-F.Tree kind.ArrayPat us))
  array_row b ts us (LikeFields.next _ _ a0 a1 _ _ a (LikeFields.next _ _ b0 b1 _ _ t LikeFields.end)) =
      Like.tree b kind.ArrayPat _ _ refl (LikeFields.next false _ _ _ _ _ a (LikeFields.next b _ _ _ _ _ (Like.list b _ _ (patterns_like m b _ _ (items_like m b b0 b1 t))) LikeFields.end))

  rest_row : (b : Bool) (ts us : List Node) → LikeFields m (flags b kind.RestPat) ts us → L b (written_step (Node-F.Tree kind.RestPat ts)) (written_step (Node-F.Tree kind.RestPat us))
  rest_row b ts us (LikeFields.next _ _ a0 a1 _ _ a (LikeFields.next _ _ b0 b1 _ _ t LikeFields.end)) =
      Like.tree b kind.RestPat _ _ refl (LikeFields.next false _ _ _ _ _ a (LikeFields.next b _ _ _ _ _ (pattern_like m b b0 b1 t) LikeFields.end))

  value_row : (b : Bool) (ts us : List Node) → LikeFields m (flags b kind.KeyValuePatProp) ts us → L b (written_step (Node-F.Tree kind.KeyValuePatProp ts)) (written_step (Node-F.Tree kind.KeyValuePatProp us))
  value_row b ts us (LikeFields.next _ _ a0 a1 _ _ a (LikeFields.next _ _ b0 b1 _ _ t LikeFields.end)) =
      Like.tree b kind.KeyValuePatProp _ _ refl (LikeFields.next false _ _ _ _ _ a (LikeFields.next b _ _ _ _ _ (pattern_like m b b0 b1 t) LikeFields.end))

  param_row : (b : Bool) (ts us : List Node) → LikeFields m (flags b kind.Param) ts us → L b (written_step (Node-F.Tree kind.Param ts)) (written_step (Node-F.Tree kind.Param us))
  param_row b ts us (LikeFields.next _ _ a0 a1 _ _ a (LikeFields.next _ _ b0 b1 _ _ t LikeFields.end)) =
      Like.tree b kind.Param _ _ refl (LikeFields.next false _ _ _ _ _ a (LikeFields.next true _ _ _ _ _ (pattern_like m true b0 b1 t) LikeFields.end))

  default_row : (b : Bool) (ts us : List Node) → LikeFields m (flags b kind.AssignPat) ts us → L b (written_step (Node-F.Tree kind.AssignPat ts)) (written_step (Node-F.Tree kind.AssignPat us))
  default_row b ts us (LikeFields.next _ _ a0 a1 _ _ a (LikeFields.next _ _ b0 b1 _ _ t (LikeFields.next _ _ c0 c1 _ _ c LikeFields.end))) =
      Like.tree b kind.AssignPat _ _ refl (LikeFields.next false _ _ _ _ _ a (LikeFields.next b _ _ _ _ _ (pattern_like m b b0 b1 t) (LikeFields.next true _ _ _ _ _ c LikeFields.end)))

  declarator_row : (b : Bool) (ts us : List Node) → LikeFields m (flags b kind.VarDeclarator) ts us → L b (written_step (Node-F.Tree kind.VarDeclarator ts)) (written_step (Node-F.Tree kind.VarDeclarator us))
  declarator_row b ts us (LikeFields.next _ _ a0 a1 _ _ a (LikeFields.next _ _ b0 b1 _ _ t (LikeFields.next _ _ c0 c1 _ _ c LikeFields.end))) =
      Like.tree b kind.VarDeclarator _ _ refl (LikeFields.next false _ _ _ _ _ a (LikeFields.next b _ _ _ _ _ (pattern_like m b b0 b1 t) (LikeFields.next true _ _ _ _ _ c LikeFields.end)))

  catch_row : (b : Bool) (ts us : List Node) → LikeFields m (flags b kind.CatchClause) ts us → L b (written_step (Node-F.Tree kind.CatchClause ts)) (written_step (Node-F.Tree kind.CatchClause us))
  catch_row b ts us (LikeFields.next _ _ a0 a1 _ _ a (LikeFields.next _ _ b0 b1 _ _ t (LikeFields.next _ _ c0 c1 _ _ c LikeFields.end))) =
      Like.tree b kind.CatchClause _ _ refl (LikeFields.next false _ _ _ _ _ a (LikeFields.next true _ _ _ _ _ (pattern_like m true b0 b1 t) (LikeFields.next true _ _ _ _ _ c LikeFields.end)))

  arrow_row : (b : Bool) (ts us : List Node) → LikeFields m (flags b kind.ArrowExpr) ts us → L b (written_step (Node-F.Tree kind.ArrowExpr ts)) (written_step (Node-F.Tree kind.ArrowExpr us))
  arrow_row b ts us (LikeFields.next _ _ a0 a1 _ _ a (LikeFields.next _ _ b0 b1 _ _ t (LikeFields.next _ _ c0 c1 _ _ c (LikeFields.next _ _ d0 d1 _ _ d LikeFields.end)))) =
      Like.tree b kind.ArrowExpr _ _ refl (LikeFields.next false _ _ _ _ _ a (LikeFields.next true _ _ _ _ _ (Like.list true _ _ (patterns_like m true _ _ (items_like m true b0 b1 t)))
      (LikeFields.next true _ _ _ _ _ c (LikeFields.next false _ _ _ _ _ d LikeFields.end))))

  pub setter_row : (b : Bool) (ts us : List Node) → LikeFields m (flags b kind.SetterProp) ts us → L b (written_step (Node-F.Tree kind.SetterProp ts)) (written_step (Node-F.Tree kind.SetterProp us))
  setter_row b ts us (LikeFields.next _ _ a0 a1 _ _ a (LikeFields.next _ _ b0 b1 _ _ t (LikeFields.next _ _ c0 c1 _ _ c (LikeFields.next _ _ d0 d1 _ _ d LikeFields.end)))) =
      Like.tree b kind.SetterProp _ _ refl (LikeFields.next false _ _ _ _ _ a (LikeFields.next false _ _ _ _ _ t (LikeFields.next true _ _ _ _ _ (pattern_like m true c0 c1 c) (LikeFields.next true _ _ _ _ _ d LikeFields.end))))

  for_in_row : (b : Bool) (ts us : List Node) → LikeFields m (flags b kind.ForInStmt) ts us → L b (written_step (Node-F.Tree kind.ForInStmt ts)) (written_step (Node-F.Tree kind.ForInStmt us))
  for_in_row b ts us (LikeFields.next _ _ a0 a1 _ _ a (LikeFields.next _ _ b0 b1 _ _ t (LikeFields.next _ _ c0 c1 _ _ c (LikeFields.next _ _ d0 d1 _ _ d LikeFields.end)))) =
      Like.tree b kind.ForInStmt _ _ refl (LikeFields.next false _ _ _ _ _ a (LikeFields.next true _ _ _ _ _ (pattern_like m true b0 b1 t) (LikeFields.next true _ _ _ _ _ c (LikeFields.next false _ _ _ _ _ d LikeFields.end))))

  for_of_row : (b : Bool) (ts us : List Node) → LikeFields m (flags b kind.ForOfStmt) ts us → L b (written_step (Node-F.Tree kind.ForOfStmt ts)) (written_step (Node-F.Tree kind.ForOfStmt us))
  for_of_row b ts us (LikeFields.next _ _ a0 a1 _ _ a (LikeFields.next _ _ e0 e1 _ _ e (LikeFields.next _ _ b0 b1 _ _ t (LikeFields.next _ _ c0 c1 _ _ c (LikeFields.next _ _ d0 d1 _ _ d LikeFields.end))))) =
      Like.tree b kind.ForOfStmt _ _ refl (LikeFields.next false _ _ _ _ _ a (LikeFields.next false _ _ _ _ _ e (LikeFields.next true _ _ _ _ _ (pattern_like m true b0 b1 t)
      (LikeFields.next true _ _ _ _ _ c (LikeFields.next false _ _ _ _ _ d LikeFields.end)))))

  pub even_row : (b c : Bool) (k : Kind) (ts us : List Node) → even_at c k ≡ true → LikeFields m (flags b k) ts us → L b (written_step (Node-F.Tree k ts)) (written_step (Node-F.Tree k us))
  even_row b c kind.ParenExpr ts us e l = absurd (true≢false (sym e))
  even_row b c kind.SeqExpr ts us e l = absurd (true≢false (sym e))
  even_row b c kind.ObjectLit ts us e l = absurd (true≢false (sym e))
  even_row b c kind.AssignPatProp ts us e l = absurd (true≢false (sym e))
  even_row b c kind.ImportNamedSpecifier ts us e l = absurd (true≢false (sym e))
  even_row b c kind.NamedExport ts us e l = absurd (true≢false (sym e))
  even_row b c kind.Module ts us e l = absurd (true≢false (sym e))
  even_row b c kind.ExportDecl ts us e l = absurd (true≢false (sym e))
  even_row b c kind.IfStmt ts us e l = if_row b ts us l
  even_row b c kind.ArrayPat ts us e l = array_row b ts us l
  even_row b c kind.RestPat ts us e l = rest_row b ts us l
  even_row b c kind.KeyValuePatProp ts us e l = value_row b ts us l
  even_row b c kind.AssignPat ts us e l = default_row b ts us l
  even_row b c kind.Param ts us e l = param_row b ts us l
  even_row b c kind.ArrowExpr ts us e l = arrow_row b ts us l
  even_row b c kind.SetterProp ts us e l = setter_row b ts us l
  even_row b c kind.VarDeclarator ts us e l = declarator_row b ts us l
  even_row b c kind.CatchClause ts us e l = catch_row b ts us l
  even_row b c kind.ForInStmt ts us e l = for_in_row b ts us l
  even_row b c kind.ForOfStmt ts us e l = for_of_row b ts us l
  even_row b c k ts us e l = moved m b _ _ _ _ (rolls-Tree k ts) (rolls-Tree k us) (Like.tree b k ts us refl l)
