-- What is seen alike of a node and of one that is like it.
use Rattle.std.proofs.Common.{◌≡◌, ℕ, zero, suc, Bool, true, false, ◌||◌, Some, List, [], ◌∷◌, ◌++◌, map, refl, sym, ap, ◌∙◌, subst, rules, inl, inr, true≢false}
use Rattle.std.specs.Prelude.{if◌then◌else◌, is_some, slice_get}
use Rattle.std.specs.List.{flat_map, list_any}
use Rattle.swc_tree_marks.specs.declared.ident.Ident.{Ident}
use Rattle.swc_tree_node.specs.declared.kind.Kind.{Kind}
use Rattle.swc_tree_node.specs.declared.kind.Kind.TheVariants as kind
use Rattle.swc_tree_node.specs.declared.slot.Role.{Role}
use Rattle.swc_tree_node.specs.declared.slot.Role.TheVariants as role
use Rattle.swc_tree_node.specs.declared.node.Node.{Node, Absent, Flag, Word, Text, Span, List as Many, Identifier, Tree, out-Node, the_lemmas}
use Rattle.swc_tree_node.specs.declared.node.Node.TheVariants.{outs-Absent, outs-Flag, outs-Word, outs-Text, outs-Span, outs-List, outs-Identifier, outs-Tree}
use Rattle.swc_tree_node.specs.declared.node.Node.TheOpen.{Node-F}
use Rattle.swc_tree_scoping.specs.Places.{field_role}
use Rattle.swc_tree_scoping.specs.BoundNames.{Id, bound_ids, declared_ids, declared_in, id_of, in_part, in_parts, name_in, name_of, own_id}
use Rattle.swc_tree_scoping.proofs.BoundNames.{bound-Span, bound-Identifier, bound-List, bound-Tree}
use Rattle.swc_tree_grammar.specs.Shapes.{items_in, items_of}
use Rattle.swc_tree_grammar.specs.Levels.{is_absent, is_absent_in}
use Rattle.swc_tree_grammar.specs.Blocks.{takes_else, takes_else_step}
use Rattle.swc_tree_grammar.specs.Normal.{again_in, as_pattern, only_in, opened, opened_in, pattern_in, plain_name, split, split_in}
use Rattle.swc_tree_grammar.proofs.Walks.{takes_else_of_tree}
use Rattle.swc_base_rename_substitution.specs.Identifiers.{Changes}
use Rattle.swc_base_rename_laws.proofs.NormalFormPairs.{Alike, AlikeIds, Like, LikeFields, Likes, flags, is_left}

any_left : (p : Id → Bool) (xs ys : List Id) → list_any p (xs ++ ys) ≡ false → list_any p xs ≡ false
any_left p [] ys h = refl
any_left p (x ∷ xs) ys h = by (p x) (any_left p xs ys) h
  where
    by : (b : Bool) → (list_any p (xs ++ ys) ≡ false → list_any p xs ≡ false) → (b || list_any p (xs ++ ys)) ≡ false → (b || list_any p xs) ≡ false
    by true r h = h
    by false r h = r h

any_right : (p : Id → Bool) (xs ys : List Id) → list_any p (xs ++ ys) ≡ false → list_any p ys ≡ false
any_right p [] ys h = h
any_right p (x ∷ xs) ys h = by (p x) (any_right p xs ys) h
  where
    by : (b : Bool) → (list_any p (xs ++ ys) ≡ false → list_any p ys ≡ false) → (b || list_any p (xs ++ ys)) ≡ false → list_any p ys ≡ false
    by true r h = absurd (cc)
    by false r h = r h

module _ (m : Changes) where
  pub moved : (b : Bool) (t t' u u' : Node) → t ≡ t' → u ≡ u' → Like m b t' u' → Like m b t u
  moved b t t' u u' e f h = subst (λ u. Like m b t u) (sym f) (subst (λ t. Like m b t u') (sym e) h)

  pub moved_all : (b : Bool) (t t' u u' : List Node) → t ≡ t' → u ≡ u' → Likes m b t' u' → Likes m b t u
  moved_all b t t' u u' e f h = subst (λ u. Likes m b t u) (sym f) (subst (λ t. Likes m b t u') (sym e) h)

  pub moved_fields : (bs : List Bool) (t t' u u' : List Node) → t ≡ t' → u ≡ u' → LikeFields m bs t' u' → LikeFields m bs t u
  moved_fields bs t t' u u' e f h = subst (λ u. LikeFields m bs t u) (sym f) (subst (λ t. LikeFields m bs t u') (sym e) h)

  -- ---- what is absent

  absent_at : (t : Node) (y : Node-F Node) → out-Node t ≡ y → is_absent t ≡ is_absent_in y
  absent_at t y e = ap is_absent_in e

  pub absent_same : (b : Bool) (t u : Node) → Like m b t u → is_absent t ≡ is_absent u
  absent_same b t u (Like.absent _) = refl
  absent_same b t u (Like.a_flag _ x) = refl
  absent_same b t u (Like.a_word _ x) = refl
  absent_same b t u (Like.a_text _ x) = refl
  absent_same b t u (Like.a_span _ x y same_span) = absent_at _ _ (outs-Span x) ∙ sym (absent_at _ _ (outs-Span y))
  absent_same b t u (Like.name _ k i j a) = absent_at _ _ (outs-Identifier k i) ∙ sym (absent_at _ _ (outs-Identifier k j))
  absent_same b t u (Like.list _ ts us l) = absent_at _ _ (outs-List ts) ∙ sym (absent_at _ _ (outs-List us))
  absent_same b t u (Like.tree _ k ts us e l) = absent_at _ _ (outs-Tree k ts) ∙ sym (absent_at _ _ (outs-Tree k us))
  absent_same b t u (Like.exports _ a c ts us d e h l j) = absent_at _ _ (outs-Tree kind.NamedExport (a ∷ Many ts ∷ Absent ∷ d ∷ [])) ∙ sym (absent_at _ _ (outs-Tree kind.NamedExport (c ∷ Many us ∷ Absent ∷ e ∷ [])))
  absent_same b t u (Like.reexports _ a c ts us xs ys d e h l f j) =
      absent_at _ _ (outs-Tree kind.NamedExport (a ∷ Many ts ∷ Tree kind.Str xs ∷ d ∷ [])) ∙ sym (absent_at _ _ (outs-Tree kind.NamedExport (c ∷ Many us ∷ Tree kind.Str ys ∷ e ∷ [])))

  -- ---- items

  pub items_like : (b : Bool) (t u : Node) → Like m b t u → Likes m b (items_of t) (items_of u)
  items_like b t u (Like.list _ ts us l) = moved_all b _ ts _ us (ap items_in (outs-List ts)) (ap items_in (outs-List us)) l
  items_like b t u (Like.absent _) = moved_all b _ [] _ [] (ap items_in outs-Absent) (ap items_in outs-Absent) (Likes.none b)
  items_like b t u (Like.a_flag _ x) = moved_all b _ [] _ [] (ap items_in (outs-Flag x)) (ap items_in (outs-Flag x)) (Likes.none b)
  items_like b t u (Like.a_word _ x) = moved_all b _ [] _ [] (ap items_in (outs-Word x)) (ap items_in (outs-Word x)) (Likes.none b)
  items_like b t u (Like.a_text _ x) = moved_all b _ [] _ [] (ap items_in (outs-Text x)) (ap items_in (outs-Text x)) (Likes.none b)
  items_like b t u (Like.a_span _ x y same_span) = moved_all b _ [] _ [] (ap items_in (outs-Span x)) (ap items_in (outs-Span y)) (Likes.none b)
  items_like b t u (Like.name _ k i j a) = moved_all b _ [] _ [] (ap items_in (outs-Identifier k i)) (ap items_in (outs-Identifier k j)) (Likes.none b)
  items_like b t u (Like.tree _ k ts us e l) = moved_all b _ [] _ [] (ap items_in (outs-Tree k ts)) (ap items_in (outs-Tree k us)) (Likes.none b)
  items_like b t u (Like.exports _ a c ts us d e h l j) = moved_all b _ [] _ [] (ap items_in (outs-Tree kind.NamedExport _)) (ap items_in (outs-Tree kind.NamedExport _)) (Likes.none b)
  items_like b t u (Like.reexports _ a c ts us xs ys d e h l f j) = moved_all b _ [] _ [] (ap items_in (outs-Tree kind.NamedExport _)) (ap items_in (outs-Tree kind.NamedExport _)) (Likes.none b)

  -- ---- patterns, other names, items of a module

  pattern_name : (b : Bool) (k : Kind) (i j : Ident) → Alike m b i j → Like m b (pattern_in (Identifier k i) (Node-F.Identifier k i)) (pattern_in (Identifier k j) (Node-F.Identifier k j))
  pattern_name b kind.Ident i j a = Like.name b kind.BindingIdent i j a
  pattern_name b k i j a = Like.name b k i j a

  pub pattern_like : (b : Bool) (t u : Node) → Like m b t u → Like m b (as_pattern t) (as_pattern u)
  pattern_like b t u (Like.absent _) = moved b _ _ _ _ (ap (pattern_in Absent) outs-Absent) (ap (pattern_in Absent) outs-Absent) (Like.absent b)
  pattern_like b t u (Like.a_flag _ x) = moved b _ _ _ _ (ap (pattern_in (Flag x)) (outs-Flag x)) (ap (pattern_in (Flag x)) (outs-Flag x)) (Like.a_flag b x)
  pattern_like b t u (Like.a_word _ x) = moved b _ _ _ _ (ap (pattern_in (Word x)) (outs-Word x)) (ap (pattern_in (Word x)) (outs-Word x)) (Like.a_word b x)
  pattern_like b t u (Like.a_text _ x) = moved b _ _ _ _ (ap (pattern_in (Text x)) (outs-Text x)) (ap (pattern_in (Text x)) (outs-Text x)) (Like.a_text b x)
  pattern_like b t u (Like.a_span _ x y same_span) = moved b _ _ _ _ (ap (pattern_in (Span x)) (outs-Span x)) (ap (pattern_in (Span y)) (outs-Span y)) (Like.a_span b x y same_span)
  pattern_like b t u (Like.name _ k i j a) = moved b _ _ _ _ (ap (pattern_in (Identifier k i)) (outs-Identifier k i)) (ap (pattern_in (Identifier k j)) (outs-Identifier k j)) (pattern_name b k i j a)
  pattern_like b t u (Like.list _ ts us l) = moved b _ _ _ _ (ap (pattern_in (Many ts)) (outs-List ts)) (ap (pattern_in (Many us)) (outs-List us)) (Like.list b ts us l)
  pattern_like b t u (Like.tree _ k ts us e l) = moved b _ _ _ _ (ap (pattern_in (Tree k ts)) (outs-Tree k ts)) (ap (pattern_in (Tree k us)) (outs-Tree k us)) (Like.tree b k ts us e l)
  pattern_like b t u (Like.exports _ a c ts us d e h l j) =
      moved b _ _ _ _ (ap (pattern_in _) (outs-Tree kind.NamedExport (a ∷ Many ts ∷ Absent ∷ d ∷ []))) (ap (pattern_in _) (outs-Tree kind.NamedExport (c ∷ Many us ∷ Absent ∷ e ∷ []))) (Like.exports b a c ts us d e h l j)
  pattern_like b t u (Like.reexports _ a c ts us xs ys d e h l f j) =
      moved b _ _ _ _ (ap (pattern_in _) (outs-Tree kind.NamedExport (a ∷ Many ts ∷ Tree kind.Str xs ∷ d ∷ []))) (ap (pattern_in _) (outs-Tree kind.NamedExport (c ∷ Many us ∷ Tree kind.Str ys ∷ e ∷ [])))
      (Like.reexports b a c ts us xs ys d e h l f j)

  pub patterns_like : (b : Bool) (ts us : List Node) → Likes m b ts us → Likes m b (map as_pattern ts) (map as_pattern us)
  patterns_like b ts us (Likes.none _) = Likes.none b
  patterns_like b ts us (Likes.more _ t u ts0 us0 h l) = Likes.more b _ _ _ _ (pattern_like b t u h) (patterns_like b ts0 us0 l)

  plain_alike : (i j : Ident) → Alike m false i j → Like m false (plain_name i) (plain_name j)
  plain_alike i j a = by a.1
    where
      by : AlikeIds m false i j → Like m false (plain_name i) (plain_name j)
      by (inl e) = Like.name false kind.Ident _ _ (a.0, inl (ap (λ x. (x.0, [])) e.0, refl))
      by (inr h) = absurd (cc (h.0))

  -- a name that stays is known by the same text
  pub again_like : (t u : Node) → Like m false t u → Like m false (again_in t (out-Node t)) (again_in u (out-Node u))
  again_like t u (Like.absent _) = moved false _ _ _ _ (ap (again_in Absent) outs-Absent) (ap (again_in Absent) outs-Absent) (Like.absent false)
  again_like t u (Like.a_flag _ x) = moved false _ _ _ _ (ap (again_in (Flag x)) (outs-Flag x)) (ap (again_in (Flag x)) (outs-Flag x)) (Like.a_flag false x)
  again_like t u (Like.a_word _ x) = moved false _ _ _ _ (ap (again_in (Word x)) (outs-Word x)) (ap (again_in (Word x)) (outs-Word x)) (Like.a_word false x)
  again_like t u (Like.a_text _ x) = moved false _ _ _ _ (ap (again_in (Text x)) (outs-Text x)) (ap (again_in (Text x)) (outs-Text x)) (Like.a_text false x)
  again_like t u (Like.a_span _ x y same_span) = moved false _ _ _ _ (ap (again_in (Span x)) (outs-Span x)) (ap (again_in (Span y)) (outs-Span y)) (Like.a_span false x y same_span)
  again_like t u (Like.name _ k i j a) = moved false _ _ _ _ (ap (again_in (Identifier k i)) (outs-Identifier k i)) (ap (again_in (Identifier k j)) (outs-Identifier k j)) (plain_alike i j a)
  again_like t u (Like.list _ ts us l) = moved false _ _ _ _ (ap (again_in (Many ts)) (outs-List ts)) (ap (again_in (Many us)) (outs-List us)) (Like.list false ts us l)
  again_like t u (Like.tree _ k ts us e l) = moved false _ _ _ _ (ap (again_in (Tree k ts)) (outs-Tree k ts)) (ap (again_in (Tree k us)) (outs-Tree k us)) (Like.tree false k ts us e l)
  again_like t u (Like.exports _ a c ts us d e h l j) =
      moved false _ _ _ _ (ap (again_in _) (outs-Tree kind.NamedExport (a ∷ Many ts ∷ Absent ∷ d ∷ []))) (ap (again_in _) (outs-Tree kind.NamedExport (c ∷ Many us ∷ Absent ∷ e ∷ []))) (Like.exports false a c ts us d e h l j)
  again_like t u (Like.reexports _ a c ts us xs ys d e h l f j) =
      moved false _ _ _ _ (ap (again_in _) (outs-Tree kind.NamedExport (a ∷ Many ts ∷ Tree kind.Str xs ∷ d ∷ []))) (ap (again_in _) (outs-Tree kind.NamedExport (c ∷ Many us ∷ Tree kind.Str ys ∷ e ∷ [])))
      (Like.reexports false a c ts us xs ys d e h l f j)

  split_tree : (k : Kind) (ts : List Node) → is_left k ≡ true → split_in (Tree k ts) (Node-F.Tree k ts) ≡ Tree k ts ∷ []
  split_tree kind.ExportDecl ts e = absurd (true≢false (sym e))
  split_tree k ts e = refl

  -- none of what is left is an exported declaration
  pub split_alone : (b : Bool) (t u : Node) → Like m b t u → (split t ≡ t ∷ []) × (split u ≡ u ∷ [])
  split_alone b t u (Like.absent _) = (ap (split_in Absent) outs-Absent, ap (split_in Absent) outs-Absent)
  split_alone b t u (Like.a_flag _ x) = (ap (split_in (Flag x)) (outs-Flag x), ap (split_in (Flag x)) (outs-Flag x))
  split_alone b t u (Like.a_word _ x) = (ap (split_in (Word x)) (outs-Word x), ap (split_in (Word x)) (outs-Word x))
  split_alone b t u (Like.a_text _ x) = (ap (split_in (Text x)) (outs-Text x), ap (split_in (Text x)) (outs-Text x))
  split_alone b t u (Like.a_span _ x y same_span) = (ap (split_in (Span x)) (outs-Span x), ap (split_in (Span y)) (outs-Span y))
  split_alone b t u (Like.name _ k i j a) = (ap (split_in (Identifier k i)) (outs-Identifier k i), ap (split_in (Identifier k j)) (outs-Identifier k j))
  split_alone b t u (Like.list _ ts us l) = (ap (split_in (Many ts)) (outs-List ts), ap (split_in (Many us)) (outs-List us))
  split_alone b t u (Like.tree _ k ts us e l) = (ap (split_in (Tree k ts)) (outs-Tree k ts) ∙ split_tree k ts e, ap (split_in (Tree k us)) (outs-Tree k us) ∙ split_tree k us e)
  split_alone b t u (Like.exports _ a c ts us d e h l j) =
      (ap (split_in _) (outs-Tree kind.NamedExport (a ∷ Many ts ∷ Absent ∷ d ∷ [])), ap (split_in _) (outs-Tree kind.NamedExport (c ∷ Many us ∷ Absent ∷ e ∷ [])))
  split_alone b t u (Like.reexports _ a c ts us xs ys d e h l f j) =
      (ap (split_in _) (outs-Tree kind.NamedExport (a ∷ Many ts ∷ Tree kind.Str xs ∷ d ∷ [])), ap (split_in _) (outs-Tree kind.NamedExport (c ∷ Many us ∷ Tree kind.Str ys ∷ e ∷ [])))

  -- ---- blocks round one statement

  mutual
    else_same : (b : Bool) (t u : Node) → Like m b t u → takes_else t ≡ takes_else u
    else_same b t u (Like.absent _) = refl
    else_same b t u (Like.a_flag _ x) = refl
    else_same b t u (Like.a_word _ x) = refl
    else_same b t u (Like.a_text _ x) = refl
    else_same b t u (Like.a_span _ x y same_span) = search (rules, the_lemmas)
    else_same b t u (Like.name _ k i j a) = search (rules, the_lemmas)
    else_same b t u (Like.list _ ts us l) = search (rules, the_lemmas)
    else_same b t u (Like.tree _ k ts us e l) = takes_else_of_tree k ts ∙ ap (λ bs. takes_else_step (Node-F.Tree k bs)) (elses_same (flags b k) ts us l) ∙ sym (takes_else_of_tree k us)
    else_same b t u (Like.exports _ a c ts us d e h l j) = takes_else_of_tree kind.NamedExport (a ∷ Many ts ∷ Absent ∷ d ∷ []) ∙ sym (takes_else_of_tree kind.NamedExport (c ∷ Many us ∷ Absent ∷ e ∷ []))
    else_same b t u (Like.reexports _ a c ts us xs ys d e h l f j) =
        takes_else_of_tree kind.NamedExport (a ∷ Many ts ∷ Tree kind.Str xs ∷ d ∷ []) ∙ sym (takes_else_of_tree kind.NamedExport (c ∷ Many us ∷ Tree kind.Str ys ∷ e ∷ []))

    elses_same : (bs : List Bool) (ts us : List Node) → LikeFields m bs ts us → map takes_else ts ≡ map takes_else us
    elses_same bs ts us LikeFields.end = refl
    elses_same bs ts us (LikeFields.next b bs0 t u ts0 us0 h l) = ap (λ x. x ∷ map takes_else ts0) (else_same b t u h) ∙ ap (λ xs. takes_else u ∷ xs) (elses_same bs0 ts0 us0 l)

  only_like : (t u : Node) → Like m false t u → (ss vs : List Node) → Likes m false ss vs → Like m false (only_in t ss) (only_in u vs)
  only_like t u h ss vs (Likes.none _) = h
  only_like t u h ss vs (Likes.more _ s v _ _ k (Likes.none _)) = either (takes_else s) (takes_else v) (else_same false s v k)
    where
      either : (x y : Bool) → x ≡ y → Like m false (if x then s else t) (if y then v else u)
      either true true e = k
      either false false e = h
      either true false e = absurd (cc)
      either false true e = absurd (cc)
  only_like t u h ss vs (Likes.more _ s v _ _ k (Likes.more _ _ _ _ _ _ _)) = h

  opened_block : (ts us : List Node) → Like m false (Tree kind.BlockStmt ts) (Tree kind.BlockStmt us) → LikeFields m (flags false kind.BlockStmt) ts us
      → Like m false (opened_in (Tree kind.BlockStmt ts) (Node-F.Tree kind.BlockStmt ts)) (opened_in (Tree kind.BlockStmt us) (Node-F.Tree kind.BlockStmt us))
  opened_block ts us h (LikeFields.next _ _ a0 a1 _ _ a (LikeFields.next _ _ b0 b1 _ _ b LikeFields.end)) = only_like _ _ h (items_of b0) (items_of b1) (items_like false b0 b1 b)

  opened_tree : (k : Kind) (ts us : List Node) → is_left k ≡ true → Like m false (Tree k ts) (Tree k us) → LikeFields m (flags false k) ts us
      → Like m false (opened_in (Tree k ts) (Node-F.Tree k ts)) (opened_in (Tree k us) (Node-F.Tree k us))
  opened_tree kind.BlockStmt ts us e h l = opened_block ts us h l
  opened_tree k ts us e h l = h

  pub opened_like : (t u : Node) → Like m false t u → Like m false (opened t) (opened u)
  opened_like t u (Like.absent _) = moved false _ _ _ _ (ap (opened_in Absent) outs-Absent) (ap (opened_in Absent) outs-Absent) (Like.absent false)
  opened_like t u (Like.a_flag _ x) = moved false _ _ _ _ (ap (opened_in (Flag x)) (outs-Flag x)) (ap (opened_in (Flag x)) (outs-Flag x)) (Like.a_flag false x)
  opened_like t u (Like.a_word _ x) = moved false _ _ _ _ (ap (opened_in (Word x)) (outs-Word x)) (ap (opened_in (Word x)) (outs-Word x)) (Like.a_word false x)
  opened_like t u (Like.a_text _ x) = moved false _ _ _ _ (ap (opened_in (Text x)) (outs-Text x)) (ap (opened_in (Text x)) (outs-Text x)) (Like.a_text false x)
  opened_like t u (Like.a_span _ x y same_span) = moved false _ _ _ _ (ap (opened_in (Span x)) (outs-Span x)) (ap (opened_in (Span y)) (outs-Span y)) (Like.a_span false x y same_span)
  opened_like t u (Like.name _ k i j a) = moved false _ _ _ _ (ap (opened_in (Identifier k i)) (outs-Identifier k i)) (ap (opened_in (Identifier k j)) (outs-Identifier k j)) (Like.name false k i j a)
  opened_like t u (Like.list _ ts us l) = moved false _ _ _ _ (ap (opened_in (Many ts)) (outs-List ts)) (ap (opened_in (Many us)) (outs-List us)) (Like.list false ts us l)
  opened_like t u (Like.tree _ k ts us e l) =
      moved false _ _ _ _ (ap (opened_in (Tree k ts)) (outs-Tree k ts)) (ap (opened_in (Tree k us)) (outs-Tree k us)) (opened_tree k ts us e (Like.tree false k ts us e l) l)
  opened_like t u (Like.exports _ a c ts us d e h l j) =
      moved false _ _ _ _ (ap (opened_in _) (outs-Tree kind.NamedExport (a ∷ Many ts ∷ Absent ∷ d ∷ []))) (ap (opened_in _) (outs-Tree kind.NamedExport (c ∷ Many us ∷ Absent ∷ e ∷ []))) (Like.exports false a c ts us d e h l j)
  opened_like t u (Like.reexports _ a c ts us xs ys d e h l f j) =
      moved false _ _ _ _ (ap (opened_in _) (outs-Tree kind.NamedExport (a ∷ Many ts ∷ Tree kind.Str xs ∷ d ∷ []))) (ap (opened_in _) (outs-Tree kind.NamedExport (c ∷ Many us ∷ Tree kind.Str ys ∷ e ∷ [])))
      (Like.reexports false a c ts us xs ys d e h l f j)

  -- ---- names that are bound, where none of them changes

  abbrev Stay : List Id → Type 0
  Stay xs = list_any (λ x. is_some (m x)) xs ≡ false

  abbrev Kept : List Id → List Id → Type 0
  Kept xs ys = Stay xs → ys ≡ xs

  own_ids : (b : Bool) (k : Kind) (i j : Ident) → AlikeIds m b i j → Kept (own_id k i) (own_id k j)
  own_ids b kind.BindingIdent i j (inl e) n = ap (λ x. x ∷ []) e.0
  own_ids b kind.BindingIdent i j (inr h) n = let no : true ≡ false = ap (λ o. is_some o || false) (sym h.1) ∙ n in absurd (cc)
  own_ids b k i j a n = refl

  own_name : (b : Bool) (k : Kind) (i j : Ident) → Alike m b i j → Kept (own_id k i) (own_id k j)
  own_name b k i j a = own_ids b k i j a.1

  part_kept : (r : Role) (xs ys : List Id) → Kept xs ys → Kept (in_part r xs) (in_part r ys)
  part_kept role.Declared xs ys h n = h n
  part_kept role.Lexical xs ys h n = h n
  part_kept role.Inherited xs ys h n = h n
  part_kept r xs ys h n = refl

  joined : (xs ys vs ws : List Id) → Kept xs ys → Kept vs ws → Kept (xs ++ vs) (ys ++ ws)
  joined xs ys vs ws h k n = ap (λ l. l ++ ws) (h (any_left (λ x. is_some (m x)) xs vs n)) ∙ ap (λ l. xs ++ l) (k (any_right (λ x. is_some (m x)) xs vs n))

  by_equations : (xs xs' ys ys' : List Id) → xs ≡ xs' → ys ≡ ys' → Kept xs' ys' → Kept xs ys
  by_equations xs xs' ys ys' e f h n = f ∙ h (ap (list_any (λ x. is_some (m x))) (sym e) ∙ n) ∙ sym e

  mutual
    bound_kept : (b : Bool) (t u : Node) → Like m b t u → Kept (bound_ids t) (bound_ids u)
    bound_kept b t u (Like.absent _) n = refl
    bound_kept b t u (Like.a_flag _ x) n = refl
    bound_kept b t u (Like.a_word _ x) n = refl
    bound_kept b t u (Like.a_text _ x) n = refl
    bound_kept b t u (Like.a_span _ x y same_span) n = bound-Span y ∙ sym (bound-Span x)
    bound_kept b t u (Like.name _ k i j a) n = by_equations _ _ _ _ (bound-Identifier k i) (bound-Identifier k j) (own_name b k i j a) n
    bound_kept b t u (Like.list _ ts us l) n = by_equations _ _ _ _ (bound-List ts) (bound-List us) (items_kept b ts us l) n
    bound_kept b t u (Like.tree _ k ts us e l) n = by_equations _ _ _ _ (bound-Tree k ts) (bound-Tree k us) (fields_kept (flags b k) ts us l (field_role k)) n
    bound_kept b t u (Like.exports _ a c ts us d e h l j) n = bound-Tree kind.NamedExport (c ∷ Many us ∷ Absent ∷ e ∷ []) ∙ sym (bound-Tree kind.NamedExport (a ∷ Many ts ∷ Absent ∷ d ∷ []))
    bound_kept b t u (Like.reexports _ a c ts us xs ys d e h l f j) n =
        bound-Tree kind.NamedExport (c ∷ Many us ∷ Tree kind.Str ys ∷ e ∷ []) ∙ sym (bound-Tree kind.NamedExport (a ∷ Many ts ∷ Tree kind.Str xs ∷ d ∷ []))

    items_kept : (b : Bool) (ts us : List Node) → Likes m b ts us → Kept (flat_map bound_ids ts) (flat_map bound_ids us)
    items_kept b ts us (Likes.none _) n = refl
    items_kept b ts us (Likes.more _ t u ts0 us0 h l) n = joined (bound_ids t) (bound_ids u) (flat_map bound_ids ts0) (flat_map bound_ids us0) (bound_kept b t u h) (items_kept b ts0 us0 l) n

    fields_kept : (bs : List Bool) (ts us : List Node) → LikeFields m bs ts us → (roles : ℕ → Role) → Kept (in_parts roles (map bound_ids ts)) (in_parts roles (map bound_ids us))
    fields_kept bs ts us LikeFields.end roles n = refl
    fields_kept bs ts us (LikeFields.next b bs0 t u ts0 us0 h l) roles n =
        joined (in_part (roles zero) (bound_ids t)) (in_part (roles zero) (bound_ids u)) (in_parts (λ i. roles (suc i)) (map bound_ids ts0)) (in_parts (λ i. roles (suc i)) (map bound_ids us0))
        (part_kept (roles zero) _ _ (bound_kept b t u h)) (fields_kept bs0 ts0 us0 l (λ i. roles (suc i))) n

  name_at : (t : Node) (y : Node-F Node) → out-Node t ≡ y → id_of (name_of (Some t)) ≡ id_of (name_in y)
  name_at t y e = ap (λ y. id_of (name_in y)) e

  ids_kept : (b : Bool) (k : Kind) (i j : Ident) → AlikeIds m b i j → Kept (id_of (name_of (Some (Identifier k i)))) (id_of (name_of (Some (Identifier k j))))
  ids_kept b k i j (inl e) n = name_at _ _ (outs-Identifier k j) ∙ ap (λ x. x ∷ []) e.0 ∙ sym (name_at _ _ (outs-Identifier k i))
  ids_kept b k i j (inr h) n = let no : true ≡ false = ap (λ o. is_some o || false) (sym h.1) ∙ ap (list_any (λ x. is_some (m x))) (sym (name_at _ _ (outs-Identifier k i))) ∙ n in absurd (cc)

  name_kept : (b : Bool) (t u : Node) → Like m b t u → Kept (id_of (name_of (Some t))) (id_of (name_of (Some u)))
  name_kept b t u (Like.name _ k i j a) n = ids_kept b k i j a.1 n
  name_kept b t u (Like.absent _) n = refl
  name_kept b t u (Like.a_flag _ x) n = refl
  name_kept b t u (Like.a_word _ x) n = refl
  name_kept b t u (Like.a_text _ x) n = refl
  name_kept b t u (Like.a_span _ x y same_span) n = name_at _ _ (outs-Span y) ∙ sym (name_at _ _ (outs-Span x))
  name_kept b t u (Like.list _ ts us l) n = name_at _ _ (outs-List us) ∙ sym (name_at _ _ (outs-List ts))
  name_kept b t u (Like.tree _ k ts us e l) n = name_at _ _ (outs-Tree k us) ∙ sym (name_at _ _ (outs-Tree k ts))
  name_kept b t u (Like.exports _ a c ts us d e h l j) n = name_at _ _ (outs-Tree kind.NamedExport (c ∷ Many us ∷ Absent ∷ e ∷ [])) ∙ sym (name_at _ _ (outs-Tree kind.NamedExport (a ∷ Many ts ∷ Absent ∷ d ∷ [])))
  name_kept b t u (Like.reexports _ a c ts us xs ys d e h l f j) n =
      name_at _ _ (outs-Tree kind.NamedExport (c ∷ Many us ∷ Tree kind.Str ys ∷ e ∷ [])) ∙ sym (name_at _ _ (outs-Tree kind.NamedExport (a ∷ Many ts ∷ Tree kind.Str xs ∷ d ∷ [])))

  first_kept : (bs : List Bool) (ts us : List Node) → LikeFields m bs ts us → Kept (id_of (name_of (slice_get ts 0))) (id_of (name_of (slice_get us 0)))
  first_kept bs ts us LikeFields.end n = refl
  first_kept bs ts us (LikeFields.next b _ t u _ _ h l) n = name_kept b t u h n

  declared_tree : (b : Bool) (k : Kind) (ts us : List Node) → is_left k ≡ true → LikeFields m (flags b k) ts us
      → Kept (declared_in (Tree k ts) (Node-F.Tree k ts)) (declared_in (Tree k us) (Node-F.Tree k us))
  declared_tree b kind.FnDecl ts us e l n = first_kept _ ts us l n
  declared_tree b kind.ClassDecl ts us e l n = first_kept _ ts us l n
  declared_tree b k ts us e l n = bound_kept b (Tree k ts) (Tree k us) (Like.tree b k ts us e l) n

  declared_at : (t : Node) (y : Node-F Node) → out-Node t ≡ y → declared_ids t ≡ declared_in t y
  declared_at t y e = ap (declared_in t) e

  -- what a declaration declares, where none of it changes
  pub declared_kept : (b : Bool) (t u : Node) → Like m b t u → list_any (λ x. is_some (m x)) (declared_ids t) ≡ false → declared_ids u ≡ declared_ids t
  declared_kept b t u (Like.tree _ k ts us e l) n = by_equations _ _ _ _ (declared_at (Tree k ts) _ (outs-Tree k ts)) (declared_at (Tree k us) _ (outs-Tree k us)) (declared_tree b k ts us e l) n
  declared_kept b t u (Like.absent _) n = refl
  declared_kept b t u (Like.a_flag _ x) n = refl
  declared_kept b t u (Like.a_word _ x) n = refl
  declared_kept b t u (Like.a_text _ x) n = refl
  declared_kept b t u (Like.a_span _ x y same_span) n = by_equations _ _ _ _ (declared_at _ _ (outs-Span x)) (declared_at _ _ (outs-Span y)) (bound_kept b _ _ (Like.a_span b x y same_span)) n
  declared_kept b t u (Like.name _ k i j a) n = by_equations _ _ _ _ (declared_at _ _ (outs-Identifier k i)) (declared_at _ _ (outs-Identifier k j)) (bound_kept b _ _ (Like.name b k i j a)) n
  declared_kept b t u (Like.list _ ts us l) n = by_equations _ _ _ _ (declared_at _ _ (outs-List ts)) (declared_at _ _ (outs-List us)) (bound_kept b _ _ (Like.list b ts us l)) n
  declared_kept b t u (Like.exports _ a c ts us d e h l j) n =
      by_equations _ _ _ _ (declared_at _ _ (outs-Tree kind.NamedExport (a ∷ Many ts ∷ Absent ∷ d ∷ []))) (declared_at _ _ (outs-Tree kind.NamedExport (c ∷ Many us ∷ Absent ∷ e ∷ [])))
      (bound_kept b _ _ (Like.exports b a c ts us d e h l j)) n
  declared_kept b t u (Like.reexports _ a c ts us xs ys d e h l f j) n =
      by_equations _ _ _ _ (declared_at _ _ (outs-Tree kind.NamedExport (a ∷ Many ts ∷ Tree kind.Str xs ∷ d ∷ []))) (declared_at _ _ (outs-Tree kind.NamedExport (c ∷ Many us ∷ Tree kind.Str ys ∷ e ∷ [])))
      (bound_kept b _ _ (Like.reexports b a c ts us xs ys d e h l f j)) n
