-- Scopes and places don't depend on what identifiers are called.
use Rattle.std.proofs.Common.{◌≡◌, ℕ, ◌&&◌, ◌||◌, not, Option, Some, None, List, [], ◌∷◌, ◌++◌, map, refl, ap, ◌∙◌, cond}
use Rattle.std.specs.List.{slice_get}
use Rattle.std.specs.Option.{option_map, option_and_then}
use Rattle.std.proofs.lemmas.Option.{slice_get-map}
use Rattle.swc_tree_node.specs.Lower.swc_tree_marks.specs.declared.ident.Ident.{Ident}
use Rattle.swc_tree_node.specs.declared.kind.Kind.{Kind}
use Rattle.swc_tree_node.specs.declared.kind.Kind.TheVariants as kind
use Rattle.swc_tree_node.specs.declared.slot.Role.{Role}
use Rattle.swc_tree_node.specs.declared.slot.Role.TheVariants as role
use Rattle.swc_tree_node.specs.declared.node.Node.{Node, out-Node, map-Node, fold_out-Node, out-roll-Node}
use Rattle.swc_tree_node.specs.declared.node.Node.TheOpen.{Node-F}
use Rattle.swc_tree_node.specs.declared.node.Node.TheVariants.{outs-Identifier}
use Rattle.swc_tree_scoping.specs.declared.places.Standing.{Standing}
use Rattle.swc_tree_scoping.specs.declared.places.Standing.TheVariants as standing
use Rattle.swc_tree_scoping.specs.declared.places.Place.{Place}
use Rattle.swc_tree_scoping.specs.Places.{Path, children_in, child, absent_in, is_there, text_in, text_of, literal_in, literal_of, statement_in, says, directive_of, directive_or, has_use_strict, items_in, items_of, block_in, statements_of, is_strict, opened, opened_as, opened_in, flag_in, flag_of, plain_in, is_plain_function, keyword_in, by_keyword, function_standing, standing_below, place_in, place_below, field_role, is_inside, view_from, nested_below, given, place_at, is_expression_in, part_standing, binds_patterns}
use Rattle.swc_tree_scoping.specs.Scopes.{scope_at, rounds, view_in, seen_as}
use Rattle.swc_tree_scoping.proofs.Under.{lower}
use Rattle.swc_tree_scoping.specs.Readings.{rename_step, with_identifiers}

module _ (f : Ident → Ident) where
  abbrev B : Node → Node
  B = with_identifiers f

  abbrev pub changed_in : Node-F Node → Node-F Node
  changed_in (Node-F.Identifier k i) = Node-F.Identifier k (f i)
  changed_in y = y

  abbrev pub layer : Node-F Node → Node-F Node
  layer y = changed_in (map-Node Node Node B y)

  out_step : (y : Node-F Node) → out-Node (rename_step f y) ≡ changed_in y
  out_step (Node-F.Identifier k i) = outs-Identifier k (f i)
  out_step Node-F.Absent = out-roll-Node Node-F.Absent
  out_step (Node-F.Flag x) = out-roll-Node (Node-F.Flag x)
  out_step (Node-F.Word x) = out-roll-Node (Node-F.Word x)
  out_step (Node-F.Text x) = out-roll-Node (Node-F.Text x)
  out_step (Node-F.Span x) = out-roll-Node (Node-F.Span x)
  out_step (Node-F.List x) = out-roll-Node (Node-F.List x)
  out_step (Node-F.Tree k x) = out-roll-Node (Node-F.Tree k x)

  pub out_is : (t : Node) → out-Node (B t) ≡ layer (out-Node t)
  out_is t = ap out-Node (fold_out-Node Node (rename_step f) t) ∙ out_step (map-Node Node Node B (out-Node t))

  reads : {A : Type 0} (g : Node-F Node → A) → ((y : Node-F Node) → g (layer y) ≡ g y) → (t : Node) → g (out-Node (B t)) ≡ g (out-Node t)
  reads g h t = ap g (out_is t) ∙ h (out-Node t)

  absents : (y : Node-F Node) → absent_in (layer y) ≡ absent_in y
  absents Node-F.Absent = refl
  absents (Node-F.Identifier k i) = refl
  absents _ = refl

  is_there_same : (o : Option Node) → is_there (option_map B o) ≡ is_there o
  is_there_same None = refl
  is_there_same (Some t) = ap not (reads absent_in absents t)

  texts : (y : Node-F Node) → text_in (layer y) ≡ text_in y
  texts (Node-F.Text x) = refl
  texts (Node-F.Identifier k i) = refl
  texts _ = refl

  text_of_same : (o : Option Node) → text_of (option_map B o) ≡ text_of o
  text_of_same None = refl
  text_of_same (Some t) = reads text_in texts t

  literals_at : (k : Kind) (ts : List Node) → literal_in (Node-F.Tree k (map B ts)) ≡ literal_in (Node-F.Tree k ts)
  literals_at kind.Str ts = ap text_of (slice_get-map B ts 1) ∙ text_of_same (slice_get ts 1)
  literals_at _ ts = refl

  literals : (y : Node-F Node) → literal_in (layer y) ≡ literal_in y
  literals (Node-F.Tree k ts) = literals_at k ts
  literals (Node-F.Identifier k i) = refl
  literals _ = refl

  literal_of_same : (o : Option Node) → literal_of (option_map B o) ≡ literal_of o
  literal_of_same None = refl
  literal_of_same (Some t) = reads literal_in literals t

  statements_at : (k : Kind) (ts : List Node) → statement_in (Node-F.Tree k (map B ts)) ≡ statement_in (Node-F.Tree k ts)
  statements_at kind.ExprStmt ts = ap literal_of (slice_get-map B ts 1) ∙ literal_of_same (slice_get ts 1)
  statements_at _ ts = refl

  statements : (y : Node-F Node) → statement_in (layer y) ≡ statement_in y
  statements (Node-F.Tree k ts) = statements_at k ts
  statements (Node-F.Identifier k i) = refl
  statements _ = refl

  has_use_strict_same : (ts : List Node) → has_use_strict (map B ts) ≡ has_use_strict ts
  has_use_strict_same [] = refl
  has_use_strict_same (t ∷ ts) =
      ap (λ o. directive_or (option_map says o) (has_use_strict (map B ts))) (reads statement_in statements t) ∙ ap (directive_or (directive_of t)) (has_use_strict_same ts)

  items : (y : Node-F Node) → items_in (layer y) ≡ map B (items_in y)
  items (Node-F.List ts) = refl
  items (Node-F.Identifier k i) = refl
  items _ = refl

  items_of_same : (o : Option Node) → items_of (option_map B o) ≡ map B (items_of o)
  items_of_same None = refl
  items_of_same (Some t) = ap items_in (out_is t) ∙ items (out-Node t)

  blocks_at : (k : Kind) (ts : List Node) → block_in (Node-F.Tree k (map B ts)) ≡ map B (block_in (Node-F.Tree k ts))
  blocks_at kind.BlockStmt ts = ap items_of (slice_get-map B ts 1) ∙ items_of_same (slice_get ts 1)
  blocks_at _ ts = refl

  blocks : (y : Node-F Node) → block_in (layer y) ≡ map B (block_in y)
  blocks (Node-F.Tree k ts) = blocks_at k ts
  blocks (Node-F.Identifier k i) = refl
  blocks _ = refl

  statements_of_same : (o : Option Node) → statements_of (option_map B o) ≡ map B (statements_of o)
  statements_of_same None = refl
  statements_of_same (Some t) = ap block_in (out_is t) ∙ blocks (out-Node t)

  body_same : (ts : List Node) (i : ℕ) → has_use_strict (statements_of (slice_get (map B ts) i)) ≡ has_use_strict (statements_of (slice_get ts i))
  body_same ts i = ap (λ o. has_use_strict (statements_of o)) (slice_get-map B ts i) ∙ ap has_use_strict (statements_of_same (slice_get ts i)) ∙ has_use_strict_same (statements_of (slice_get ts i))

  is_strict_same : (k : Kind) (ts : List Node) → is_strict k (map B ts) ≡ is_strict k ts
  is_strict_same kind.Script ts = ap (λ o. has_use_strict (items_of o)) (slice_get-map B ts 1) ∙ ap has_use_strict (items_of_same (slice_get ts 1)) ∙ has_use_strict_same (items_of (slice_get ts 1))
  is_strict_same kind.Function ts = body_same ts 2
  is_strict_same kind.ArrowExpr ts = body_same ts 2
  is_strict_same kind.Constructor ts = body_same ts 3
  is_strict_same kind.GetterProp ts = body_same ts 2
  is_strict_same kind.SetterProp ts = body_same ts 3
  is_strict_same _ ts = refl

  flags : (y : Node-F Node) → flag_in (layer y) ≡ flag_in y
  flags (Node-F.Flag x) = refl
  flags (Node-F.Identifier k i) = refl
  flags _ = refl

  flag_of_same : (o : Option Node) → flag_of (option_map B o) ≡ flag_of o
  flag_of_same None = refl
  flag_of_same (Some t) = reads flag_in flags t

  plains_at : (k : Kind) (ts : List Node) → plain_in (Node-F.Tree k (map B ts)) ≡ plain_in (Node-F.Tree k ts)
  plains_at kind.Function ts =
      ap (λ o. not (flag_of o) && not (flag_of (slice_get (map B ts) 4))) (slice_get-map B ts 3) ∙ ap (λ o. not (flag_of (option_map B (slice_get ts 3))) && not (flag_of o)) (slice_get-map B ts 4)
      ∙ ap (λ b. not b && not (flag_of (option_map B (slice_get ts 4)))) (flag_of_same (slice_get ts 3)) ∙ ap (λ b. not (flag_of (slice_get ts 3)) && not b) (flag_of_same (slice_get ts 4))
  plains_at _ ts = refl

  plains : (y : Node-F Node) → plain_in (layer y) ≡ plain_in y
  plains (Node-F.Tree k ts) = plains_at k ts
  plains (Node-F.Identifier k i) = refl
  plains _ = refl

  is_plain_same : (o : Option Node) → is_plain_function (option_map B o) ≡ is_plain_function o
  is_plain_same None = refl
  is_plain_same (Some t) = reads plain_in plains t

  keywords : (rest : Standing) (y : Node-F Node) → keyword_in (layer y) rest ≡ keyword_in y rest
  keywords rest (Node-F.Word w) = refl
  keywords rest (Node-F.Identifier k i) = refl
  keywords rest _ = refl

  by_keyword_same : (ts : List Node) → by_keyword (map B ts) ≡ by_keyword ts
  by_keyword_same [] = refl
  by_keyword_same (t ∷ ts) = reads (λ y. keyword_in y (by_keyword (map B ts))) (keywords (by_keyword (map B ts))) t ∙ ap (keyword_in (out-Node t)) (by_keyword_same ts)

  is_there_at : (ts : List Node) (i : ℕ) → is_there (slice_get (map B ts) i) ≡ is_there (slice_get ts i)
  is_there_at ts i = ap is_there (slice_get-map B ts i) ∙ is_there_same (slice_get ts i)

  plain_at : (ts : List Node) (i : ℕ) → is_plain_function (slice_get (map B ts) i) ≡ is_plain_function (slice_get ts i)
  plain_at ts i = ap is_plain_function (slice_get-map B ts i) ∙ is_plain_same (slice_get ts i)

  expressions : (y : Node-F Node) → is_expression_in (layer y) ≡ is_expression_in y
  expressions (Node-F.Identifier k i) = kinds k
    where
      kinds : (k : Kind) → is_expression_in (Node-F.Identifier k (f i)) ≡ is_expression_in (Node-F.Identifier k i)
      kinds kind.Ident = refl
      kinds _ = refl
  expressions Node-F.Absent = refl
  expressions _ = refl

  part_same : (r : Standing) (o : Option Node) → part_standing r (option_map B o) ≡ part_standing r o
  part_same r None = refl
  part_same r (Some t) = ap (λ b. cond (binds_patterns r && b) standing.Reference r) (reads is_expression_in expressions t)

  part_at : (r : Standing) (ts : List Node) (i : ℕ) → part_standing r (slice_get (map B ts) i) ≡ part_standing r (slice_get ts i)
  part_at r ts i = ap (part_standing r) (slice_get-map B ts i) ∙ part_same r (slice_get ts i)

  standing_same : (w : Place) (k : Kind) (ts : List Node) (i : ℕ) (r : Role) → standing_below w k (map B ts) i r ≡ standing_below w k ts i r
  standing_same w k ts i role.Inherited = part_at w.standing ts i
  standing_same w k ts i role.Parameter = part_at standing.Parameter ts i
  standing_same w k ts i role.Catch = part_at standing.CatchParameter ts i
  standing_same w k ts i role.Declared = by_keyword_same ts
  standing_same w k ts i role.Function = ap (function_standing w) (plain_at ts 1)
  standing_same w k ts i role.ExportLocal = ap (λ b. cond b standing.Imported standing.Reference) (is_there_at ts 2)
  standing_same w k ts i _ = refl

  opened_at : (w : Place) (k : Kind) (ts : List Node) → opened_as w k (is_there (slice_get (map B ts) 0)) ≡ opened_as w k (is_there (slice_get ts 0))
  opened_at w k ts = ap (opened_as w k) (is_there_at ts 0)

  opens : (w : Place) (y : Node-F Node) → opened_in w (layer y) ≡ opened_in w y
  opens w (Node-F.Tree k ts) = opened_at w k ts
  opens w (Node-F.Identifier k i) = refl
  opens w _ = refl

  pub opened_same : (w : Place) (t : Node) → opened w (B t) ≡ opened w t
  opened_same w t = reads (opened_in w) (opens w) t

  views : (i : ℕ) (y : Node-F Node) → view_in (layer y) i ≡ view_in y i
  views i (Node-F.Tree k ts) = refl
  views i (Node-F.Identifier k j) = refl
  views i _ = refl

  pub view_same : (t : Node) (i : ℕ) → view_in (out-Node (B t)) i ≡ view_in (out-Node t) i
  view_same t i = reads (λ y. view_in y i) (views i) t

  places : (w : Place) (i : ℕ) (y : Node-F Node) → place_in w (layer y) i ≡ place_in w y i
  places w i (Node-F.Tree k ts) =
      ap (λ s. record { standing = s; strict = w.strict || (is_inside (view_from k i) && is_strict k (map B ts)); nested = nested_below w.nested (opened_as w k (is_there (slice_get (map B ts) 0))) (view_from k i) }) (standing_same w k ts i (field_role k i))
      ∙ ap (λ b. record { standing = standing_below w k ts i (field_role k i); strict = w.strict || (is_inside (view_from k i) && b); nested = nested_below w.nested (opened_as w k (is_there (slice_get (map B ts) 0))) (view_from k i) }) (is_strict_same k ts)
      ∙ ap (λ o. record { standing = standing_below w k ts i (field_role k i); strict = w.strict || (is_inside (view_from k i) && is_strict k ts); nested = nested_below w.nested o (view_from k i) }) (opened_at w k ts)
  places w i (Node-F.List ts) = ap (λ s. record w { standing = s }) (part_at w.standing ts i)
  places w i (Node-F.Identifier k j) = refl
  places w i _ = refl

  pub place_same : (w : Place) (t : Node) (i : ℕ) → place_below w (B t) i ≡ place_below w t i
  place_same w t i = reads (λ y. place_in w y i) (places w i) t

  lists : (y : Node-F Node) → children_in (layer y) ≡ map B (children_in y)
  lists (Node-F.Tree k ts) = refl
  lists (Node-F.List ts) = refl
  lists (Node-F.Identifier k j) = refl
  lists _ = refl

  pub child_same : (t : Node) (i : ℕ) → child (B t) i ≡ option_map B (child t i)
  child_same t i = ap (λ y. slice_get (children_in y) i) (out_is t) ∙ ap (λ l. slice_get l i) (lists (out-Node t)) ∙ slice_get-map B (children_in (out-Node t)) i

  pub place_at_same : (p : Path) (w : Place) (t : Node) → place_at w (B t) p ≡ option_map (λ (q : Place × Node). (q.0, B q.1)) (place_at w t p)
  place_at_same [] w t = refl
  place_at_same (i ∷ p) w t =
      ap (λ o. given o None (λ c. place_at (place_below w (B t) i) c p)) (child_same t i)
      ∙ ap (λ v. given (option_map B (child t i)) None (λ c. place_at v c p)) (place_same w t i)
      ∙ at (λ v c. place_at_same p v c) (child t i)
    where
      at : ((v : Place) (c : Node) → place_at v (B c) p ≡ option_map (λ (q : Place × Node). (q.0, B q.1)) (place_at v c p)) → (o : Option Node)
          → given (option_map B o) None (λ c. place_at (place_below w t i) c p) ≡ option_map (λ (q : Place × Node). (q.0, B q.1)) (given o None (λ c. place_at (place_below w t i) c p))
      at below None = refl
      at below (Some c) = below (place_below w t i) c

  pub scope_at_same : (w : Place) (t : Node) (s : Path) → scope_at w (B t) s ≡ scope_at w t s
  scope_at_same w t s = ap (option_and_then (λ (q : Place × Node). opened q.0 q.1)) (place_at_same s w t) ∙ at (place_at w t s)
    where
      at : (o : Option (Place × Node)) → option_and_then (λ (q : Place × Node). opened q.0 q.1) (option_map (λ (q : Place × Node). (q.0, B q.1)) o) ≡ option_and_then (λ (q : Place × Node). opened q.0 q.1) o
      at None = refl
      at (Some q) = opened_same q.0 q.1

  pub rounds_same : (p : Path) (w : Place) (t : Node) → rounds w (B t) p ≡ rounds w t p
  rounds_same [] w t = refl
  rounds_same (i ∷ p) w t =
      ap (λ o. map (lower i) (given o [] (λ c. rounds (place_below w (B t) i) c p)) ++ seen_as (opened w (B t)) (view_in (out-Node (B t)) i)) (child_same t i)
      ∙ ap (λ v. map (lower i) (given (option_map B (child t i)) [] (λ c. rounds v c p)) ++ seen_as (opened w (B t)) (view_in (out-Node (B t)) i)) (place_same w t i)
      ∙ ap (λ o. map (lower i) (given (option_map B (child t i)) [] (λ c. rounds (place_below w t i) c p)) ++ seen_as o (view_in (out-Node (B t)) i)) (opened_same w t)
      ∙ ap (λ v. map (lower i) (given (option_map B (child t i)) [] (λ c. rounds (place_below w t i) c p)) ++ seen_as (opened w t) v) (view_same t i)
      ∙ ap (λ l. map (lower i) l ++ seen_as (opened w t) (view_in (out-Node t) i)) (at (λ v c. rounds_same p v c) (child t i))
    where
      at : ((v : Place) (c : Node) → rounds v (B c) p ≡ rounds v c p) → (o : Option Node) → given (option_map B o) [] (λ c. rounds (place_below w t i) c p) ≡ given o [] (λ c. rounds (place_below w t i) c p)
      at below None = refl
      at below (Some c) = below (place_below w t i) c
