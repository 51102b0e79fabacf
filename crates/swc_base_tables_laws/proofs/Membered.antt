-- Members in place of identifiers that name helpers: what a node says of its children stays, but for those that change.
use Rattle.std.proofs.Common.{◌≡◌, ℕ, zero, suc, Bool, true, false, not, ◌&&◌, ◌||◌, Option, Some, None, List, [], ◌∷◌, refl, sym, ap, ◌∙◌, subst, cond}
use Rattle.std.specs.List.{slice_get}
use Rattle.std.specs.Option.{option_map}
use Rattle.std.specs.Prelude.{codes}
use Rattle.swc_tree_marks.specs.declared.ident.Ident.{Ident}
use Rattle.swc_tree_node.specs.declared.kind.Kind.{Kind}
use Rattle.swc_tree_node.specs.declared.kind.Kind.TheVariants as kind
use Rattle.swc_tree_node.specs.declared.slot.Role.{Role}
use Rattle.swc_tree_node.specs.declared.slot.Role.TheVariants as role
use Rattle.swc_tree_node.specs.declared.node.Node.{Node, Identifier, Span, Text, Tree, out-Node, map-Node, fold-Node, fold_out-Node}
use Rattle.swc_tree_node.specs.declared.node.Node.TheOpen.{Node-F}
use Rattle.swc_tree_node.specs.declared.node.Node.TheVariants.{outs-Absent, outs-Flag, outs-Identifier, outs-List, outs-Span, outs-Text, outs-Tree, outs-Word}
use Rattle.swc_tree_scoping.specs.declared.places.Standing.{Standing}
use Rattle.swc_tree_scoping.specs.declared.places.Standing.TheVariants as standing
use Rattle.swc_tree_scoping.specs.declared.places.Place.{Place}
use Rattle.swc_tree_scoping.specs.Places.{absent_in, binds_patterns, block_in, by_keyword, child, children_in, directive_of, directive_or, field_role, flag_in, flag_of, function_standing, has_use_strict, is_expression_in, is_inside, is_plain_function, is_strict, is_there, items_in, items_of, keyword_in, literal_in, literal_of, nested_below, opened, opened_as, opened_in, part_standing, place_in, plain_in, says, standing_below, statement_in, statements_of, text_in, text_of, view_from}
use Rattle.swc_tree_scoping.specs.Scopes.{view_in}
use Rattle.swc_tree_scoping.specs.Shorthands.{shorthand_key}
use Rattle.swc_base_tables_injection.specs.declared.members.Seat.{Seat}
use Rattle.swc_base_tables_injection.specs.declared.members.Seat.TheVariants as seat
use Rattle.swc_base_tables_injection.specs.Members.{field_seat, has_only, helper_as, member_of, member_step, membered}
use Rattle.swc_base_tables_injection.specs.Walk.{each_membered}

-- the fields of what is made
abbrev pub member_fields : Ident → List Node
member_fields i = Span i.span ∷ Identifier kind.Ident i ∷ Tree kind.IdentName (Span i.span ∷ Text (codes "_") ∷ []) ∷ []

abbrev pub property_fields : Ident → List Node
property_fields i = shorthand_key i ∷ member_of i ∷ []

-- whether an identifier changes
abbrev pub is_changed : Bool → Seat → Kind → Bool
is_changed true seat.Expression kind.Ident = true
is_changed true seat.Property kind.Ident = true
is_changed b s k = false

pub stays : (b : Bool) (s : Seat) (k : Kind) (i : Ident) → is_changed b s k ≡ false → helper_as b s k i ≡ Identifier k i
stays true seat.Expression kind.Ident i h = absurd (cc)
stays true seat.Property kind.Ident i h = absurd (cc)
stays b s k i h = refl

-- what is made is read as the identifier was
pub made_reads : {A : Type 0} (g : Node-F Node → A) (b : Bool) (s : Seat) (k : Kind) (i : Ident) → ((ts : List Node) → g (Node-F.Tree kind.MemberExpr ts) ≡ g (Node-F.Identifier k i)) → ((ts : List Node) → g (Node-F.Tree kind.KeyValueProp ts) ≡ g (Node-F.Identifier k i))
    → g (out-Node (helper_as b s k i)) ≡ g (Node-F.Identifier k i)
made_reads g true seat.Expression kind.Ident i member property = ap g (outs-Tree kind.MemberExpr (member_fields i)) ∙ member (member_fields i)
made_reads g true seat.Property kind.Ident i member property = ap g (outs-Tree kind.KeyValueProp (property_fields i)) ∙ property (property_fields i)
made_reads g b s k i member property = ap g (outs-Identifier k i)

-- the seat of a child
abbrev pub seat_in : Seat → Node-F Node → ℕ → Seat
seat_in s (Node-F.Tree k ts) i = field_seat k i
seat_in s _ i = s

module _ (m : ℕ) where
  abbrev pub changes_in : Seat → Node-F Node → Bool
  changes_in s (Node-F.Identifier k i) = is_changed (has_only m i.ctxt) s k
  changes_in s _ = false

  abbrev M : Seat → Node → Node
  M s t = membered m s t

  abbrev pub layer : Seat → Node-F Node → Node-F Node
  layer s (Node-F.List ts) = Node-F.List (each_membered m (λ i. s) ts)
  layer s (Node-F.Tree k ts) = Node-F.Tree k (each_membered m (field_seat k) ts)
  layer s (Node-F.Identifier k i) = out-Node (helper_as (has_only m i.ctxt) s k i)
  layer s y = y

  abbrev folded : Node → Seat → Node
  folded t = fold-Node (Seat → Node) (member_step m) t

  step_out : (s : Seat) (y : Node-F Node) → out-Node (member_step m (map-Node Node (Seat → Node) folded y) s) ≡ layer s y
  step_out s (Node-F.List ts) = outs-List (each_membered m (λ i. s) ts)
  step_out s (Node-F.Tree k ts) = outs-Tree k (each_membered m (field_seat k) ts)
  step_out s (Node-F.Identifier k i) = refl
  step_out s Node-F.Absent = outs-Absent
  step_out s (Node-F.Flag x) = outs-Flag x
  step_out s (Node-F.Word x) = outs-Word x
  step_out s (Node-F.Text x) = outs-Text x
  step_out s (Node-F.Span x) = outs-Span x

  pub out_is : (s : Seat) (t : Node) → out-Node (M s t) ≡ layer s (out-Node t)
  out_is s t = ap (λ (f : Seat → Node). out-Node (f s)) (fold_out-Node (Seat → Node) (member_step m) t) ∙ step_out s (out-Node t)

  pub get : (seats : ℕ → Seat) (ts : List Node) (i : ℕ) → slice_get (each_membered m seats ts) i ≡ option_map (M (seats i)) (slice_get ts i)
  get seats [] i = refl
  get seats (t ∷ ts) zero = refl
  get seats (t ∷ ts) (suc i) = get (λ i. seats (suc i)) ts i

  reads : {A : Type 0} (g : Node-F Node → A) (s : Seat) → ((y : Node-F Node) → g (layer s y) ≡ g y) → (t : Node) → g (out-Node (M s t)) ≡ g (out-Node t)
  reads g s h t = ap g (out_is s t) ∙ h (out-Node t)

  absents : (s : Seat) (y : Node-F Node) → absent_in (layer s y) ≡ absent_in y
  absents s (Node-F.Identifier k i) = made_reads absent_in (has_only m i.ctxt) s k i (λ ts. refl) (λ ts. refl)
  absents s Node-F.Absent = refl
  absents s (Node-F.Tree k ts) = refl
  absents s (Node-F.List ts) = refl
  absents s _ = refl

  is_there_at : (seats : ℕ → Seat) (ts : List Node) (i : ℕ) → is_there (slice_get (each_membered m seats ts) i) ≡ is_there (slice_get ts i)
  is_there_at seats ts i = ap is_there (get seats ts i) ∙ by (slice_get ts i)
    where
      by : (o : Option Node) → is_there (option_map (M (seats i)) o) ≡ is_there o
      by None = refl
      by (Some t) = ap not (reads absent_in (seats i) (absents (seats i)) t)

  texts : (s : Seat) (y : Node-F Node) → text_in (layer s y) ≡ text_in y
  texts s (Node-F.Identifier k i) = made_reads text_in (has_only m i.ctxt) s k i (λ ts. refl) (λ ts. refl)
  texts s (Node-F.Text x) = refl
  texts s (Node-F.Tree k ts) = refl
  texts s (Node-F.List ts) = refl
  texts s _ = refl

  text_of_same : (s : Seat) (o : Option Node) → text_of (option_map (M s) o) ≡ text_of o
  text_of_same s None = refl
  text_of_same s (Some t) = reads text_in s (texts s) t

  literals_at : (k : Kind) (ts : List Node) → literal_in (Node-F.Tree k (each_membered m (field_seat k) ts)) ≡ literal_in (Node-F.Tree k ts)
  literals_at kind.Str ts = ap text_of (get (field_seat kind.Str) ts 1) ∙ text_of_same (field_seat kind.Str 1) (slice_get ts 1)
  literals_at _ ts = refl

  literals : (s : Seat) (y : Node-F Node) → literal_in (layer s y) ≡ literal_in y
  literals s (Node-F.Tree k ts) = literals_at k ts
  literals s (Node-F.Identifier k i) = made_reads literal_in (has_only m i.ctxt) s k i (λ ts. refl) (λ ts. refl)
  literals s (Node-F.List ts) = refl
  literals s _ = refl

  literal_of_same : (s : Seat) (o : Option Node) → literal_of (option_map (M s) o) ≡ literal_of o
  literal_of_same s None = refl
  literal_of_same s (Some t) = reads literal_in s (literals s) t

  statements_at : (k : Kind) (ts : List Node) → statement_in (Node-F.Tree k (each_membered m (field_seat k) ts)) ≡ statement_in (Node-F.Tree k ts)
  statements_at kind.ExprStmt ts = ap literal_of (get (field_seat kind.ExprStmt) ts 1) ∙ literal_of_same (field_seat kind.ExprStmt 1) (slice_get ts 1)
  statements_at _ ts = refl

  statements : (s : Seat) (y : Node-F Node) → statement_in (layer s y) ≡ statement_in y
  statements s (Node-F.Tree k ts) = statements_at k ts
  statements s (Node-F.Identifier k i) = made_reads statement_in (has_only m i.ctxt) s k i (λ ts. refl) (λ ts. refl)
  statements s (Node-F.List ts) = refl
  statements s _ = refl

  strict_same : (seats : ℕ → Seat) (ts : List Node) → has_use_strict (each_membered m seats ts) ≡ has_use_strict ts
  strict_same seats [] = refl
  strict_same seats (t ∷ ts) =
      ap (λ o. directive_or (option_map says o) (has_use_strict (each_membered m (λ i. seats (suc i)) ts))) (reads statement_in (seats zero) (statements (seats zero)) t)
      ∙ ap (directive_or (directive_of t)) (strict_same (λ i. seats (suc i)) ts)

  items : (s : Seat) (y : Node-F Node) → items_in (layer s y) ≡ each_membered m (λ i. s) (items_in y)
  items s (Node-F.List ts) = refl
  items s (Node-F.Identifier k i) = made_reads items_in (has_only m i.ctxt) s k i (λ ts. refl) (λ ts. refl)
  items s (Node-F.Tree k ts) = refl
  items s _ = refl

  items_of_same : (s : Seat) (o : Option Node) → items_of (option_map (M s) o) ≡ each_membered m (λ i. s) (items_of o)
  items_of_same s None = refl
  items_of_same s (Some t) = ap items_in (out_is s t) ∙ items s (out-Node t)

  blocks_at : (k : Kind) (ts : List Node) → block_in (Node-F.Tree k (each_membered m (field_seat k) ts)) ≡ each_membered m (λ i. field_seat kind.BlockStmt 1) (block_in (Node-F.Tree k ts))
  blocks_at kind.BlockStmt ts = ap items_of (get (field_seat kind.BlockStmt) ts 1) ∙ items_of_same (field_seat kind.BlockStmt 1) (slice_get ts 1)
  blocks_at _ ts = refl

  blocks : (s : Seat) (y : Node-F Node) → block_in (layer s y) ≡ each_membered m (λ i. field_seat kind.BlockStmt 1) (block_in y)
  blocks s (Node-F.Tree k ts) = blocks_at k ts
  blocks s (Node-F.Identifier k i) = made_reads block_in (has_only m i.ctxt) s k i (λ ts. refl) (λ ts. refl)
  blocks s (Node-F.List ts) = refl
  blocks s _ = refl

  body_same : (seats : ℕ → Seat) (ts : List Node) (i : ℕ) → has_use_strict (statements_of (slice_get (each_membered m seats ts) i)) ≡ has_use_strict (statements_of (slice_get ts i))
  body_same seats ts i = ap (λ o. has_use_strict (statements_of o)) (get seats ts i) ∙ by (slice_get ts i)
    where
      by : (o : Option Node) → has_use_strict (statements_of (option_map (M (seats i)) o)) ≡ has_use_strict (statements_of o)
      by None = refl
      by (Some t) = ap (λ y. has_use_strict (block_in y)) (out_is (seats i) t) ∙ ap has_use_strict (blocks (seats i) (out-Node t)) ∙ strict_same (λ i. field_seat kind.BlockStmt 1) (block_in (out-Node t))

  is_strict_same : (k : Kind) (ts : List Node) → is_strict k (each_membered m (field_seat k) ts) ≡ is_strict k ts
  is_strict_same kind.Script ts =
      ap (λ o. has_use_strict (items_of o)) (get (field_seat kind.Script) ts 1) ∙ ap has_use_strict (items_of_same (field_seat kind.Script 1) (slice_get ts 1)) ∙ strict_same (λ i. field_seat kind.Script 1) (items_of (slice_get ts 1))
  is_strict_same kind.Function ts = body_same (field_seat kind.Function) ts 2
  is_strict_same kind.ArrowExpr ts = body_same (field_seat kind.ArrowExpr) ts 2
  is_strict_same kind.Constructor ts = body_same (field_seat kind.Constructor) ts 3
  is_strict_same kind.GetterProp ts = body_same (field_seat kind.GetterProp) ts 2
  is_strict_same kind.SetterProp ts = body_same (field_seat kind.SetterProp) ts 3
  is_strict_same _ ts = refl

  flags : (s : Seat) (y : Node-F Node) → flag_in (layer s y) ≡ flag_in y
  flags s (Node-F.Flag x) = refl
  flags s (Node-F.Identifier k i) = made_reads flag_in (has_only m i.ctxt) s k i (λ ts. refl) (λ ts. refl)
  flags s (Node-F.Tree k ts) = refl
  flags s (Node-F.List ts) = refl
  flags s _ = refl

  flag_at : (seats : ℕ → Seat) (ts : List Node) (i : ℕ) → flag_of (slice_get (each_membered m seats ts) i) ≡ flag_of (slice_get ts i)
  flag_at seats ts i = ap flag_of (get seats ts i) ∙ by (slice_get ts i)
    where
      by : (o : Option Node) → flag_of (option_map (M (seats i)) o) ≡ flag_of o
      by None = refl
      by (Some t) = reads flag_in (seats i) (flags (seats i)) t

  plains_at : (k : Kind) (ts : List Node) → plain_in (Node-F.Tree k (each_membered m (field_seat k) ts)) ≡ plain_in (Node-F.Tree k ts)
  plains_at kind.Function ts =
      ap (λ b. not b && not (flag_of (slice_get (each_membered m (field_seat kind.Function) ts) 4))) (flag_at (field_seat kind.Function) ts 3) ∙ ap (λ b. not (flag_of (slice_get ts 3)) && not b) (flag_at (field_seat kind.Function) ts 4)
  plains_at _ ts = refl

  plains : (s : Seat) (y : Node-F Node) → plain_in (layer s y) ≡ plain_in y
  plains s (Node-F.Tree k ts) = plains_at k ts
  plains s (Node-F.Identifier k i) = made_reads plain_in (has_only m i.ctxt) s k i (λ ts. refl) (λ ts. refl)
  plains s (Node-F.List ts) = refl
  plains s _ = refl

  plain_at : (seats : ℕ → Seat) (ts : List Node) (i : ℕ) → is_plain_function (slice_get (each_membered m seats ts) i) ≡ is_plain_function (slice_get ts i)
  plain_at seats ts i = ap is_plain_function (get seats ts i) ∙ by (slice_get ts i)
    where
      by : (o : Option Node) → is_plain_function (option_map (M (seats i)) o) ≡ is_plain_function o
      by None = refl
      by (Some t) = reads plain_in (seats i) (plains (seats i)) t

  keywords : (s : Seat) (rest : Standing) (y : Node-F Node) → keyword_in (layer s y) rest ≡ keyword_in y rest
  keywords s rest (Node-F.Word w) = refl
  keywords s rest (Node-F.Identifier k i) = made_reads (λ y. keyword_in y rest) (has_only m i.ctxt) s k i (λ ts. refl) (λ ts. refl)
  keywords s rest (Node-F.Tree k ts) = refl
  keywords s rest (Node-F.List ts) = refl
  keywords s rest _ = refl

  keyword_same : (seats : ℕ → Seat) (ts : List Node) → by_keyword (each_membered m seats ts) ≡ by_keyword ts
  keyword_same seats [] = refl
  keyword_same seats (t ∷ ts) =
      reads (λ y. keyword_in y (by_keyword (each_membered m (λ i. seats (suc i)) ts))) (seats zero) (keywords (seats zero) (by_keyword (each_membered m (λ i. seats (suc i)) ts))) t
      ∙ ap (keyword_in (out-Node t)) (keyword_same (λ i. seats (suc i)) ts)

  -- a child that does not change
  abbrev pub Stays : Seat → Option Node → Type 0
  Stays s None = Unit {0}
  Stays s (Some c) = changes_in s (out-Node c) ≡ false

  expressions : (s : Seat) (y : Node-F Node) → changes_in s y ≡ false → is_expression_in (layer s y) ≡ is_expression_in y
  expressions s (Node-F.Identifier k i) h = ap (λ t. is_expression_in (out-Node t)) (stays (has_only m i.ctxt) s k i h) ∙ ap is_expression_in (outs-Identifier k i)
  expressions s (Node-F.Tree k ts) h = refl
  expressions s (Node-F.List ts) h = refl
  expressions s _ h = refl

  part_at : (r : Standing) (seats : ℕ → Seat) (ts : List Node) (i : ℕ) → Stays (seats i) (slice_get ts i) → part_standing r (slice_get (each_membered m seats ts) i) ≡ part_standing r (slice_get ts i)
  part_at r seats ts i h = ap (part_standing r) (get seats ts i) ∙ by (slice_get ts i) h
    where
      by : (o : Option Node) → Stays (seats i) o → part_standing r (option_map (M (seats i)) o) ≡ part_standing r o
      by None h = refl
      by (Some c) h = ap (λ b. cond (binds_patterns r && b) standing.Reference r) (ap is_expression_in (out_is (seats i) c) ∙ expressions (seats i) (out-Node c) h)

  standing_same : (w : Place) (k : Kind) (ts : List Node) (i : ℕ) (r : Role) → Stays (field_seat k i) (slice_get ts i) → standing_below w k (each_membered m (field_seat k) ts) i r ≡ standing_below w k ts i r
  standing_same w k ts i role.Inherited h = part_at w.standing (field_seat k) ts i h
  standing_same w k ts i role.Parameter h = part_at standing.Parameter (field_seat k) ts i h
  standing_same w k ts i role.Catch h = part_at standing.CatchParameter (field_seat k) ts i h
  standing_same w k ts i role.Declared h = keyword_same (field_seat k) ts
  standing_same w k ts i role.Function h = ap (function_standing w) (plain_at (field_seat k) ts 1)
  standing_same w k ts i role.ExportLocal h = ap (λ b. cond b standing.Imported standing.Reference) (is_there_at (field_seat k) ts 2)
  standing_same w k ts i _ h = refl

  opened_at : (w : Place) (k : Kind) (ts : List Node) → opened_as w k (is_there (slice_get (each_membered m (field_seat k) ts) 0)) ≡ opened_as w k (is_there (slice_get ts 0))
  opened_at w k ts = ap (opened_as w k) (is_there_at (field_seat k) ts 0)

  opens : (s : Seat) (w : Place) (y : Node-F Node) → opened_in w (layer s y) ≡ opened_in w y
  opens s w (Node-F.Tree k ts) = opened_at w k ts
  opens s w (Node-F.Identifier k i) = made_reads (opened_in w) (has_only m i.ctxt) s k i (λ ts. refl) (λ ts. refl)
  opens s w (Node-F.List ts) = refl
  opens s w _ = refl

  pub opened_same : (s : Seat) (w : Place) (t : Node) → opened w (M s t) ≡ opened w t
  opened_same s w t = reads (opened_in w) s (opens s w) t

  places : (w : Place) (s : Seat) (i : ℕ) (y : Node-F Node) (c : Node) → slice_get (children_in y) i ≡ Some c → changes_in (seat_in s y i) (out-Node c) ≡ false → place_in w (layer s y) i ≡ place_in w y i
  places w s i (Node-F.Tree k ts) c at h =
      let still : Stays (field_seat k i) (slice_get ts i) = subst (Stays (field_seat k i)) (sym at) h in
      ap (λ r. record { standing = r; strict = w.strict || (is_inside (view_from k i) && is_strict k (each_membered m (field_seat k) ts)); nested = nested_below w.nested (opened_as w k (is_there (slice_get (each_membered m (field_seat k) ts) 0))) (view_from k i) })
      (standing_same w k ts i (field_role k i) still)
      ∙ ap (λ b. record { standing = standing_below w k ts i (field_role k i); strict = w.strict || (is_inside (view_from k i) && b); nested = nested_below w.nested (opened_as w k (is_there (slice_get (each_membered m (field_seat k) ts) 0))) (view_from k i) }) (is_strict_same k ts)
      ∙ ap (λ o. record { standing = standing_below w k ts i (field_role k i); strict = w.strict || (is_inside (view_from k i) && is_strict k ts); nested = nested_below w.nested o (view_from k i) }) (opened_at w k ts)
  places w s i (Node-F.List ts) c at h = ap (λ r. record w { standing = r }) (part_at w.standing (λ i. s) ts i (subst (Stays s) (sym at) h))
  places w s i (Node-F.Identifier k j) c at h = absurd (cc)
  places w s i Node-F.Absent c at h = absurd (cc)
  places w s i (Node-F.Flag x) c at h = absurd (cc)
  places w s i (Node-F.Word x) c at h = absurd (cc)
  places w s i (Node-F.Text x) c at h = absurd (cc)
  places w s i (Node-F.Span x) c at h = absurd (cc)

  -- a child that does not change stands in the place that it had
  pub place_same : (w : Place) (s : Seat) (t c : Node) (i : ℕ) → child t i ≡ Some c → changes_in (seat_in s (out-Node t) i) (out-Node c) ≡ false → place_in w (out-Node (M s t)) i ≡ place_in w (out-Node t) i
  place_same w s t c i at h = ap (λ y. place_in w y i) (out_is s t) ∙ places w s i (out-Node t) c at h

  children : (s : Seat) (i : ℕ) (y : Node-F Node) (c : Node) → slice_get (children_in y) i ≡ Some c → slice_get (children_in (layer s y)) i ≡ Some (M (seat_in s y i) c)
  children s i (Node-F.Tree k ts) c at = get (field_seat k) ts i ∙ ap (option_map (M (field_seat k i))) at
  children s i (Node-F.List ts) c at = get (λ i. s) ts i ∙ ap (option_map (M s)) at
  children s i (Node-F.Identifier k j) c at = absurd (cc)
  children s i Node-F.Absent c at = absurd (cc)
  children s i (Node-F.Flag x) c at = absurd (cc)
  children s i (Node-F.Word x) c at = absurd (cc)
  children s i (Node-F.Text x) c at = absurd (cc)
  children s i (Node-F.Span x) c at = absurd (cc)

  -- each child, in its seat
  pub child_there : (s : Seat) (t c : Node) (i : ℕ) → child t i ≡ Some c → child (M s t) i ≡ Some (M (seat_in s (out-Node t) i) c)
  child_there s t c i at = ap (λ y. slice_get (children_in y) i) (out_is s t) ∙ children s i (out-Node t) c at

  views : (s : Seat) (i : ℕ) (y : Node-F Node) (c : Node) → slice_get (children_in y) i ≡ Some c → view_in (layer s y) i ≡ view_in y i
  views s i (Node-F.Tree k ts) c at = refl
  views s i (Node-F.List ts) c at = refl
  views s i (Node-F.Identifier k j) c at = absurd (cc)
  views s i Node-F.Absent c at = refl
  views s i (Node-F.Flag x) c at = refl
  views s i (Node-F.Word x) c at = refl
  views s i (Node-F.Text x) c at = refl
  views s i (Node-F.Span x) c at = refl

  pub view_same : (s : Seat) (t c : Node) (i : ℕ) → child t i ≡ Some c → view_in (out-Node (M s t)) i ≡ view_in (out-Node t) i
  view_same s t c i at = ap (λ y. view_in y i) (out_is s t) ∙ views s i (out-Node t) c at
