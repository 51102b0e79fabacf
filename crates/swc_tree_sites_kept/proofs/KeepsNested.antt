-- A statement that is settled, and is no function declaration, is settled in a block too.
use Rattle.std.proofs.Common.{◌≡◌, ℕ, zero, suc, ◌==◌, Bool, true, false, not, ◌&&◌, ◌||◌, IsTrue, Option, Some, None, List, [], ◌∷◌, map, refl, sym, ap, ◌∙◌, subst, cond, rules, true≢false}
use Rattle.std.specs.List.{list_all, slice_get}
use Rattle.std.specs.Prelude.{unwrap_or, option_map}
use Rattle.swc_tree_node.specs.declared.kind.Kind.{Kind}
use Rattle.swc_tree_node.specs.declared.kind.Kind.TheVariants as kind
use Rattle.swc_tree_node.specs.declared.kind.Class.{Class}
use Rattle.swc_tree_node.specs.declared.kind.Class.TheVariants as class
use Rattle.swc_tree_node.specs.declared.slot.Content.{Content}
use Rattle.swc_tree_node.specs.declared.slot.Content.TheVariants as content
use Rattle.swc_tree_node.specs.declared.slot.Role.{Role}
use Rattle.swc_tree_node.specs.declared.slot.Role.TheVariants as role
use Rattle.swc_tree_node.specs.declared.slot.Slot.{Slot}
use Rattle.swc_tree_node.specs.declared.slot.Slot.TheVariants as slot
use Rattle.swc_tree_node.specs.declared.node.Node.{Node, Absent, Flag, Word, Text, Span, List as Many, Identifier, Tree, out-Node, the_lemmas}
use Rattle.swc_tree_node.specs.declared.node.Node.TheOpen.{Node-F}
use Rattle.swc_tree_node.specs.declared.node.Node.TheVariants.{outs-Absent, outs-Flag, outs-Word, outs-Text, outs-Span, outs-List, outs-Identifier, outs-Tree}
use Rattle.swc_tree_node.specs.declared.fields.modules.export_default_decl.TheConstants as export_default_decl
use Rattle.swc_tree_node.specs.declared.fields.statements.fn_decl.TheConstants as fn_decl
use Rattle.swc_tree_node.specs.declared.fields.statements.if_stmt.TheConstants as if_stmt
use Rattle.swc_tree_node.specs.Table.{fields_of, slots_of}
use Rattle.swc_tree_node.specs.Fits.{AllFit, FieldsFit, Fits, belongs, single}
use Rattle.swc_tree_node.proofs.Fit.{fits-List}
use Rattle.swc_tree_scoping.specs.declared.places.Standing.TheVariants as standing
use Rattle.swc_tree_scoping.specs.declared.places.Place.{Place}
use Rattle.swc_tree_scoping.specs.declared.places.Scope.{Scope}
use Rattle.swc_tree_scoping.specs.declared.places.Scope.TheVariants as scope
use Rattle.swc_tree_scoping.specs.declared.places.View.{View}
use Rattle.swc_tree_scoping.specs.declared.places.View.TheVariants as view
use Rattle.swc_tree_scoping.specs.Places.{block_scope, field_role, has_own_name, is_branch, is_inside, is_plain_function, is_strict, nested_below, nests, opened_as, place_in, plain_standing, program_place, view_from}
use Rattle.swc_tree_scoping.proofs.Remarked.{tree_is}
use Rattle.swc_tree_grammar.specs.Blocks.{takes_else, takes_else_step}
use Rattle.swc_tree_grammar.specs.Forms.{form, form_in, form_of_function, is_body}
use Rattle.swc_tree_grammar.specs.Shapes.{DoWhile, For, ForIn, ForOf, While, With}
use Rattle.swc_tree_grammar.proofs.Induction.{Each, by_children}
use Rattle.swc_tree_grammar.proofs.Places.{one, stands}
use Rattle.swc_tree_grammar.proofs.Walks.{takes_else_of_tree}
use Rattle.swc_tree_grammar_laws.specs.Every.{every}
use Rattle.swc_tree_grammar_laws.proofs.Every.{every_list, every_tree}
use Rattle.swc_tree_grammar_laws.proofs.Levelled.{also, half}
use Rattle.swc_tree_renaming.specs.Apart.{function_in}
use Rattle.swc_tree_sites.proofs.Leaves.{Field}
use Rattle.swc_tree_sites.proofs.Pending.{field_at}
use Rattle.swc_tree_sites_written.proofs.Written.{is_ending}
use Rattle.swc_base_fixer_laws.specs.Sets.{item}
use Rattle.swc_base_fixer_laws.proofs.SetsRows.{items_open}
use Rattle.swc_tree_sites_kept.proofs.Patterns.{only_node}
use Rattle.swc_tree_sites_kept.specs.Settled.{is_loose_in}
use Rattle.swc_tree_sites_kept.proofs.KeepsPlaces.{AllIn, Calmer, Suits, Z, absent_settled, block_by, block_mark, each_list, flag_settled, hidden, is_own, is_shown, list_each, mark, mark_below, mark_by, name_settled, not_true, opened_same, same, settled_from, settled_parts, span_settled, standing_free, suits_below, suits_same, text_settled, word_settled}

-- the place as it is in a block
abbrev pub deeper : Place → Place
deeper w = record { standing = w.standing; strict = w.strict; nested = true }

-- no body of a loop or of a `with` is a function declaration
abbrev pub bodies_in : Node-F Node → Bool
bodies_in (With span obj body) = is_body (form body)
bodies_in (While span test body) = is_body (form body)
bodies_in (DoWhile span body test) = is_body (form body)
bodies_in (For span init test update body) = is_body (form body)
bodies_in (ForIn span left right body) = is_body (form body)
bodies_in (ForOf span is_await left right body) = is_body (form body)
bodies_in _ = true

abbrev pub Bodied : Node → Type 0
Bodied t = every bodies_in t ≡ true

-- ---- where functions are declared

abbrev lacks_in : Option Content → Bool
lacks_in (Some (content.Node c)) = not (belongs kind.FnDecl c)
lacks_in _ = true

abbrev lacks : Slot → Bool
lacks s = lacks_in (single s)

abbrev NoFunction : Node → Type 0
NoFunction t = function_in (out-Node t) ≡ false

lacking_row : (k : Kind) (ts : List Node) (c : Class) → IsTrue (belongs k c) → not (belongs kind.FnDecl c) ≡ true → function_in (Node-F.Tree k ts) ≡ false
lacking_row kind.FnDecl ts c b h = absurd (cc (sym (ap not b) ∙ h))
lacking_row kind.Module ts c b h = refl
lacking_row _ ts c b h = refl

lacking : (t : Node) (s : Slot) → Fits t s → lacks s ≡ true → NoFunction t
lacking t s = by_children (λ t. Fits t s → lacks s ≡ true → NoFunction t) (
  λ f h. ap function_in outs-Absent,
  λ x f h. ap function_in (outs-Flag x),
  λ x f h. ap function_in (outs-Word x),
  λ x f h. ap function_in (outs-Text x),
  λ x f h. ap function_in (outs-Span x),
  λ k i f h. ap function_in (outs-Identifier k i),
)
    (λ ts l f h. ap function_in (outs-List ts))
    (λ k ts l f h. let w = stands k ts s f in ap function_in (outs-Tree k ts) ∙ lacking_row k ts w.in_class w.belonging (sym (ap lacks_in w.place) ∙ h)) t

fields_lack : (ss : List Field) (ts : List Node) → list_all (λ f. lacks f.1) ss ≡ true → FieldsFit (map (λ f. f.1) ss) ts → Each NoFunction ts
fields_lack [] [] h f = tt
fields_lack [] (t ∷ ts) h f = absurd f
fields_lack (s ∷ ss) [] h f = absurd f
fields_lack (s ∷ ss) (t ∷ ts) h f = let p = half {a = lacks s.1} h in (lacking t s.1 f.0 p.0, fields_lack ss ts p.1 f.1)

-- kinds in a field of which any statement or declaration stands
abbrev is_naming : Kind → Bool
is_naming kind.WithStmt = true
is_naming kind.LabeledStmt = true
is_naming kind.IfStmt = true
is_naming kind.WhileStmt = true
is_naming kind.DoWhileStmt = true
is_naming kind.ForStmt = true
is_naming kind.ForInStmt = true
is_naming kind.ForOfStmt = true
is_naming kind.ExportDecl = true
is_naming _ = false

lack_table : (k : Kind) → (is_naming k || list_all (λ f. lacks f.1) (fields_of k)) ≡ true
lack_table kind.Module = refl
lack_table _ = refl

body_row : (k : Kind) (ts : List Node) → FieldsFit (slots_of k) ts → is_body (form_in (Node-F.Tree k ts)) ≡ true → function_in (Node-F.Tree k ts) ≡ false
body_row kind.FnDecl (i ∷ g ∷ []) f h = absurd (no_body (is_plain_function (Some g)) h)
  where
    no_body : (b : Bool) → is_body (form_of_function b) ≡ true → ⊥
    no_body true h = absurd (cc)
    no_body false h = absurd (cc)
body_row kind.FnDecl [] f h = absurd f
body_row kind.FnDecl (i ∷ []) f h = absurd f.1
body_row kind.FnDecl (i ∷ g ∷ c ∷ ts) f h = absurd f.1.1
body_row kind.Module ts f h = refl
body_row _ ts f h = refl

body_none : (t : Node) → Fits t (one class.Stmt) → is_body (form t) ≡ true → NoFunction t
body_none t f = only_node class.Stmt (λ t. is_body (form t) ≡ true → NoFunction t) (λ k i a b h. ap function_in (outs-Identifier k i))
    (λ k ts b g x h. ap function_in (outs-Tree k ts) ∙ body_row k ts g (sym (ap (λ y. is_body (form_in y)) (outs-Tree k ts)) ∙ h)) t f

branch_row : (w : Place) (t : Node) (k : Kind) (ts : List Node) → t ≡ Tree k ts → is_branch w.standing ≡ true → w.strict ≡ false → Z w t ≡ true → function_in (Node-F.Tree k ts) ≡ false
branch_row w t kind.FnDecl ts e b s h =
    let p = settled_parts w kind.FnDecl ts (sym (ap (Z w) e) ∙ h) in
    let rest = w.nested && is_plain_function (slice_get ts fn_decl.FUNCTION) in
    let z : true ≡ false = sym (ap (λ s. not s && (is_branch w.standing || rest)) s ∙ ap (λ b. b || rest) b) ∙ p.0 in absurd (cc)
branch_row w t kind.Module ts e b s h = refl
branch_row w t _ ts e b s h = refl

branch_none : (w : Place) (t : Node) → is_branch w.standing ≡ true → w.strict ≡ false → Z w t ≡ true → NoFunction t
branch_none w t b s h = at (out-Node t) refl
  where
    at : (y : Node-F Node) → out-Node t ≡ y → function_in y ≡ false
    at (Node-F.Tree k ts) o = branch_row w t k ts (tree_is t k ts o) b s h
    at Node-F.Absent o = refl
    at _ o = refl

-- fields by their number
three : (x y z : Slot) (Q : List Node → Type 0) → ((a b c : Node) → Fits a x → Fits b y → Fits c z → Q (a ∷ b ∷ c ∷ [])) → (ts : List Node) → FieldsFit (x ∷ y ∷ z ∷ []) ts → Q ts
three x y z Q h [] f = absurd f
three x y z Q h (a ∷ []) f = absurd f.1
three x y z Q h (a ∷ b ∷ []) f = absurd f.1.1
three x y z Q h (a ∷ b ∷ c ∷ []) f = h a b c f.0 f.1.0 f.1.1.0
three x y z Q h (a ∷ b ∷ c ∷ d ∷ ts) f = absurd f.1.1.1

four : (x y z u : Slot) (Q : List Node → Type 0) → ((a b c d : Node) → Fits a x → Fits b y → Fits c z → Fits d u → Q (a ∷ b ∷ c ∷ d ∷ [])) → (ts : List Node) → FieldsFit (x ∷ y ∷ z ∷ u ∷ []) ts → Q ts
four x y z u Q h [] f = absurd f
four x y z u Q h (a ∷ []) f = absurd f.1
four x y z u Q h (a ∷ b ∷ []) f = absurd f.1.1
four x y z u Q h (a ∷ b ∷ c ∷ []) f = absurd f.1.1.1
four x y z u Q h (a ∷ b ∷ c ∷ d ∷ []) f = h a b c d f.0 f.1.0 f.1.1.0 f.1.1.1.0
four x y z u Q h (a ∷ b ∷ c ∷ d ∷ e ∷ ts) f = absurd f.1.1.1.1

five : (x y z u v : Slot) (Q : List Node → Type 0) → ((a b c d e : Node) → Fits a x → Fits b y → Fits c z → Fits d u → Fits e v → Q (a ∷ b ∷ c ∷ d ∷ e ∷ [])) → (ts : List Node) → FieldsFit (x ∷ y ∷ z ∷ u ∷ v ∷ []) ts → Q ts
five x y z u v Q h [] f = absurd f
five x y z u v Q h (a ∷ []) f = absurd f.1
five x y z u v Q h (a ∷ b ∷ []) f = absurd f.1.1
five x y z u v Q h (a ∷ b ∷ c ∷ []) f = absurd f.1.1.1
five x y z u v Q h (a ∷ b ∷ c ∷ d ∷ []) f = absurd f.1.1.1.1
five x y z u v Q h (a ∷ b ∷ c ∷ d ∷ e ∷ []) f = h a b c d e f.0 f.1.0 f.1.1.0 f.1.1.1.0 f.1.1.1.1.0
five x y z u v Q h (a ∷ b ∷ c ∷ d ∷ e ∷ g ∷ ts) f = absurd f.1.1.1.1.1

-- a case of a `switch` and an exported declaration stand in lists of their own
abbrev is_left_out : Kind → Bool
is_left_out kind.SwitchCase = true
is_left_out kind.ExportDecl = true
is_left_out _ = false

-- no field of a node of sloppy code that is settled is a function declaration, but in an export
module _ (w : Place) (sloppy : w.strict ≡ false) where
  abbrev Named : Kind → List Node → Type 0
  Named k ts = Z w (Tree k ts) ≡ true → bodies_in (Node-F.Tree k ts) ≡ true → Each NoFunction ts

  branches_named : (a b c d : Node) → Fits a (slot.One content.Span) → Fits b (one class.Expr) → Named kind.IfStmt (a ∷ b ∷ c ∷ d ∷ [])
  branches_named a b c d f g h e =
      let p = half (settled_parts w kind.IfStmt (a ∷ b ∷ c ∷ d ∷ []) h).1 in let q = half p.1 in let r = half q.1 in let m = half r.1 in
      let below : (w.strict || false) ≡ false = ap (λ b. b || false) sloppy in
      let first = branch_none (place_in w (Node-F.Tree kind.IfStmt (a ∷ b ∷ c ∷ d ∷ [])) 2) c refl below r.0 in
      let second = branch_none (place_in w (Node-F.Tree kind.IfStmt (a ∷ b ∷ c ∷ d ∷ [])) 3) d refl below m.0 in
      (lacking a (slot.One content.Span) f refl, (lacking b (one class.Expr) g refl, (first, (second, tt))))

  fields_named : (k : Kind) (ts : List Node) → is_left_out k ≡ false → FieldsFit (slots_of k) ts → Named k ts
  fields_named kind.WithStmt ts n f = three _ _ _ (Named kind.WithStmt) (λ a b c x y z h e. (lacking a _ x refl, (lacking b _ y refl, (body_none c z e, tt)))) ts f
  fields_named kind.LabeledStmt ts n f = three _ _ _ (Named kind.LabeledStmt) (λ a b c x y z h e. (lacking a _ x refl, (lacking b _ y refl, ((settled_parts w kind.LabeledStmt (a ∷ b ∷ c ∷ []) h).0, tt)))) ts f
  fields_named kind.IfStmt ts n f = four _ _ _ _ (Named kind.IfStmt) (λ a b c d x y z u h e. branches_named a b c d x y h e) ts f
  fields_named kind.WhileStmt ts n f = three _ _ _ (Named kind.WhileStmt) (λ a b c x y z h e. (lacking a _ x refl, (lacking b _ y refl, (body_none c z e, tt)))) ts f
  fields_named kind.DoWhileStmt ts n f = three _ _ _ (Named kind.DoWhileStmt) (λ a b c x y z h e. (lacking a _ x refl, (body_none b y e, (lacking c _ z refl, tt)))) ts f
  fields_named kind.ForStmt ts n f = five _ _ _ _ _ (Named kind.ForStmt) (λ a b c d g x y z u v h e. (lacking a _ x refl, (lacking b _ y refl, (lacking c _ z refl, (lacking d _ u refl, (body_none g v e, tt)))))) ts f
  fields_named kind.ForInStmt ts n f = four _ _ _ _ (Named kind.ForInStmt) (λ a b c d x y z u h e. (lacking a _ x refl, (lacking b _ y refl, (lacking c _ z refl, (body_none d u e, tt))))) ts f
  fields_named kind.ForOfStmt ts n f = five _ _ _ _ _ (Named kind.ForOfStmt) (λ a b c d g x y z u v h e. (lacking a _ x refl, (lacking b _ y refl, (lacking c _ z refl, (lacking d _ u refl, (body_none g v e, tt)))))) ts f
  fields_named kind.ExportDecl ts n f = absurd (cc)
  fields_named k ts n f = λ h e. fields_lack (fields_of k) ts (lack_table k) f

-- ---- which fields stand as in a block once the whole does

abbrev is_flat : Scope → Bool
is_flat scope.For = false
is_flat scope.FunctionName = false
is_flat scope.ClassName = false
is_flat _ = true

abbrev flat_in : Option Scope → Bool
flat_in None = false
flat_in (Some s) = is_flat s

flat_nests : (s : Scope) (n m : Bool) → is_flat s ≡ true → nests s n ≡ true → nests s m ≡ true
flat_nests scope.For n m f h = absurd (cc)
flat_nests scope.FunctionName n m f h = absurd (cc)
flat_nests scope.ClassName n m f h = absurd (cc)
flat_nests scope.Block n m f h = refl
flat_nests scope.Switch n m f h = refl
flat_nests scope.Catch n m f h = refl
flat_nests _ n m f h = absurd (cc)

flat_below : (o : Option Scope) (x : View) (n m : Bool) → flat_in o ≡ true → is_inside x ≡ true → nested_below n o x ≡ true → nested_below m o x ≡ true
flat_below None x n m f i h = absurd (cc)
flat_below (Some s) view.Outside n m f i h = absurd (cc)
flat_below (Some s) view.Parameters n m f i h = flat_nests s n m f h
flat_below (Some s) view.Whole n m f i h = flat_nests s n m f h

-- a field that is nested or not whether the whole is or not
abbrev is_reset : Kind → ℕ → Bool
is_reset k i = not (is_own k) && (flat_in (opened_as program_place k false) && is_inside (view_from k i))

abbrev is_body_role : Role → Bool
is_body_role role.FunctionBody = true
is_body_role _ = false

abbrev passes : Class → Bool
passes c = belongs kind.SwitchCase c || belongs kind.ExportDecl c

abbrev deep_in : Option Content → Bool
deep_in (Some (content.Node c)) = not (passes c)
deep_in _ = true

abbrev deep_single : Slot → Bool
deep_single s = deep_in (single s)

abbrev pub is_deep : Slot → Bool
is_deep s = deep_single s && (deep_single (item s) && lacks (item s))

item_deep : (s : Slot) → is_deep s ≡ true → (is_deep (item s) ≡ true) × (lacks (item s) ≡ true)
item_deep (slot.List c) h = let p = half {a = deep_single (slot.One c)} h in (also p.0 refl, p.1)
item_deep (slot.OptionalList c) h = let p = half {a = deep_single (slot.One c)} h in (also p.0 refl, p.1)
item_deep (slot.Holes c) h = let p = half {a = deep_single (slot.Optional c)} h in (also p.0 refl, p.1)
item_deep slot.Pairs h = (refl, refl)
item_deep _ h = (refl, refl)

abbrev is_block : Kind → Bool
is_block kind.BlockStmt = true
is_block _ = false

abbrev field_deep : Kind → ℕ → Field → Bool
field_deep k i f = is_reset k i || (is_deep f.1 && not (is_body_role f.2))

abbrev at_each : (ℕ → Field → Bool) → List Field → Bool
at_each p [] = true
at_each p (f ∷ fs) = p zero f && at_each (λ i. p (suc i)) fs

at_field : (p : ℕ → Field → Bool) (fs : List Field) (i : ℕ) (f : Field) → at_each p fs ≡ true → slice_get fs i ≡ Some f → p i f ≡ true
at_field p [] i f h e = absurd (cc)
at_field p (x ∷ fs) zero f h e = let same : x ≡ f = cc in ap (p zero) (sym same) ∙ (half {a = p zero x} h).0
at_field p (x ∷ fs) (suc i) f h e = at_field (λ i. p (suc i)) fs i f (half {a = p zero x} h).1 e

deep_table : (k : Kind) → ((is_left_out k || is_block k) || at_each (field_deep k) (fields_of k)) ≡ true
deep_table kind.Module = refl
deep_table _ = refl

rest_of : (a b : Bool) → (a || b) ≡ true → a ≡ false → b ≡ true
rest_of true b h e = absurd (cc)
rest_of false b h e = h

stays_in : (k : Kind) (c : Class) → not (passes c) ≡ true → IsTrue (belongs k c) → is_left_out k ≡ false
stays_in kind.SwitchCase c h b = absurd (cc (sym (ap (λ b. not (b || belongs kind.ExportDecl c)) b) ∙ h))
stays_in kind.ExportDecl c h b = absurd (cc (sym (or_true (belongs kind.SwitchCase c) (belongs kind.ExportDecl c) b) ∙ h))
  where
    or_true : (a b : Bool) → b ≡ true → not (a || b) ≡ false
    or_true true b h = refl
    or_true false b h = ap not h
stays_in kind.Module c h b = refl
stays_in _ c h b = refl

-- ---- every node

abbrev pub Deep : Node → Type 0
Deep t = (s : Slot) → Fits t s → is_deep s ≡ true → (w : Place) → (mark w.standing ≡ Some false → ⊥) → (w.strict ≡ false → NoFunction t) → Bodied t → Z w t ≡ true → Z (deeper w) t ≡ true

pointwise : (ts : List Node) (ps qs : ℕ → Place) → AllIn ps ts → ((i : ℕ) (c : Node) → slice_get ts i ≡ Some c → Z (ps i) c ≡ true → Z (qs i) c ≡ true) → AllIn qs ts
pointwise [] ps qs h f = refl
pointwise (t ∷ ts) ps qs h f = let p = half {a = Z (ps zero) t} h in also (f zero t refl p.0) (pointwise ts (λ i. ps (suc i)) (λ i. qs (suc i)) p.1 (λ i. f (suc i)))

each_at : (P : Node → Type 0) (ts : List Node) (i : ℕ) (c : Node) → Each P ts → slice_get ts i ≡ Some c → P c
each_at P [] i c l e = absurd (cc)
each_at P (t ∷ ts) zero c l e = let same : t ≡ c = cc in subst P same l.0
each_at P (t ∷ ts) (suc i) c l e = each_at P ts i c l.1 e

each_bodied : (ts : List Node) → list_all (every bodies_in) ts ≡ true → Each Bodied ts
each_bodied [] h = tt
each_bodied (t ∷ ts) h = let p = half {a = every bodies_in t} h in (p.0, each_bodied ts p.1)

or_none : (a b : Bool) → (a || b) ≡ false → a ≡ false
or_none true b h = absurd (cc)
or_none false b h = refl

deep_loose : (w : Place) (k : Kind) (ts : List Node) → (w.strict ≡ false → function_in (Node-F.Tree k ts) ≡ false) → is_loose_in w (Node-F.Tree k ts) ≡ false → is_loose_in (deeper w) (Node-F.Tree k ts) ≡ false
deep_loose w kind.FnDecl ts a h = at w.strict refl
  where
    at : (b : Bool) → w.strict ≡ b → is_loose_in (deeper w) (Node-F.Tree kind.FnDecl ts) ≡ false
    at true e = ap (λ b. not b && (is_branch w.standing || is_plain_function (slice_get ts fn_decl.FUNCTION))) e
    at false e = absurd (cc (sym (a e)))
deep_loose w kind.LabeledStmt ts a h = h
deep_loose w kind.Module ts a h = refl
deep_loose w _ ts a h = refl

plain_unbodied : (k : Kind) (i : ℕ) → mark (plain_standing k i) ≡ Some false → ⊥
plain_unbodied kind.IfStmt i e = at (i == if_stmt.CONS || i == if_stmt.ALT) e
  where
    at : (b : Bool) → mark (cond b standing.Branch standing.Plain) ≡ Some false → ⊥
    at true e = absurd (cc)
    at false e = absurd (cc)
plain_unbodied kind.ExportDefaultDecl i e = at (i == export_default_decl.DECL) e
  where
    at : (b : Bool) → mark (cond b standing.DefaultExport standing.Plain) ≡ Some false → ⊥
    at true e = absurd (cc)
    at false e = absurd (cc)
plain_unbodied kind.Module i e = absurd (cc)
plain_unbodied _ i e = absurd (cc)

unbodied : (m : Option Bool) (k : Kind) (i : ℕ) (x : Role) → (m ≡ Some false → ⊥) → not (is_body_role x) ≡ true → mark_by m k i x ≡ Some false → ⊥
unbodied m k i role.FunctionBody n b e = absurd (cc)
unbodied m k i role.Inherited n b e = n e
unbodied m k i role.Plain n b e = plain_unbodied k i e
unbodied m k i role.Reference n b e = absurd (cc)
unbodied m k i _ n b e = absurd (cc)

-- the fields of a node, and of the node in a block
module _ (w : Place) (k : Kind) (ts : List Node) where
  abbrev Was : ℕ → Place
  Was i = place_in w (Node-F.Tree k ts) i

  abbrev Is : ℕ → Place
  Is i = place_in (deeper w) (Node-F.Tree k ts) i

  alike : (i : ℕ) → Suits (mark (Is i).standing) (mark (Was i).standing)
  alike i = suits_below (deeper w) w k ts ts i (λ e. suits_same (mark w.standing))

  -- one that is as nested as it was
  reset_nested : (i : ℕ) → is_reset k i ≡ true → (Is i).nested ≡ true → (Was i).nested ≡ true
  reset_nested i r h =
      let p = half {a = not (is_own k)} r in let q = half p.1 in
      let own = not_true (is_own k) p.0 in
      ap (λ o. nested_below w.nested o (view_from k i)) (opened_same w program_place k (has_own_name ts) false own)
      ∙ flat_below (opened_as program_place k false) (view_from k i) true w.nested q.0 q.1 (sym (ap (λ o. nested_below true o (view_from k i)) (opened_same (deeper w) program_place k (has_own_name ts) false own)) ∙ h)

  stays : (i : ℕ) (c : Node) → is_reset k i ≡ true → Z (Was i) c ≡ true → Z (Is i) c ≡ true
  stays i c r h = same c (Was i) (Is i) (record { strict = λ e. e; nested = reset_nested i r }) (alike i) h

  -- one that is nested as the whole is
  goes : (i : ℕ) (c : Node) (x : Field) → slice_get (fields_of k) i ≡ Some x → Deep c → Fits c x.1 → (is_deep x.1 && not (is_body_role x.2)) ≡ true → (mark w.standing ≡ Some false → ⊥) → (w.strict ≡ false → NoFunction c) → Bodied c
      → Z (Was i) c ≡ true → Z (Is i) c ≡ true
  goes i c x e l f d nb none b h =
      let p = half {a = is_deep x.1} d in
      let role_is : field_role k i ≡ x.2 = ap (λ o. unwrap_or (option_map (λ f. f.2) o) role.Plain) e in
      let inner : Z (deeper (Was i)) c ≡ true
      = l x.1 f p.0 (Was i) (λ z. unbodied (mark w.standing) k i (field_role k i) nb (subst (λ r. not (is_body_role r) ≡ true) (sym role_is) p.1) (sym (mark_below w k ts i (field_role k i)) ∙ z))
      (λ z. none (or_none w.strict (is_inside (view_from k i) && is_strict k ts) z)) b h in
      same c (deeper (Was i)) (Is i) (record { strict = λ e. e; nested = λ e. refl }) (alike i) inner

  -- a field of a block that is no function's body
  in_block : (i : ℕ) (c : Node) → k ≡ kind.BlockStmt → (mark w.standing ≡ Some false → ⊥) → Z (Was i) c ≡ true → Z (Is i) c ≡ true
  in_block i c e nb h = same c (Was i) (Is i) (record { strict = λ z. z; nested = λ z. subst (λ k. nested_below w.nested (opened_as w k (has_own_name ts)) (view_from k i) ≡ true) (sym e) opened }) (alike i) h
    where
      open_block : (m : Option Bool) → (m ≡ Some false → ⊥) → nested_below w.nested (block_by m) view.Whole ≡ true
      open_block None n = refl
      open_block (Some true) n = refl
      open_block (Some false) n = absurd (n refl)

      opened : nested_below w.nested (block_scope w.standing) view.Whole ≡ true
      opened = ap (λ o. nested_below w.nested o view.Whole) (block_mark w.standing) ∙ open_block (mark w.standing) nb

fields_deep : (k : Kind) (ts : List Node) → is_block k ≡ false → Each Deep ts → Deep (Tree k ts)
fields_deep k ts block l s f d w nb none b h =
    let v = stands k ts s f in
    let out : is_left_out k ≡ false = stays_in k v.in_class (sym (ap deep_in v.place) ∙ (half {a = deep_single s} d).0) v.belonging in
    let p = settled_parts w k ts h in
    let q = half {a = bodies_in (Node-F.Tree k ts)} (sym (every_tree bodies_in k ts) ∙ b) in
    let table : at_each (field_deep k) (fields_of k) ≡ true = rest_of (is_left_out k || is_block k) (at_each (field_deep k) (fields_of k)) (deep_table k) (ap (λ b. b || is_block k) out ∙ block) in
    settled_from (deeper w) k ts (deep_loose w k ts (λ e. sym (ap function_in (outs-Tree k ts)) ∙ none e) p.0) (pointwise ts (Was w k ts) (Is w k ts) p.1
    (λ i c e z. (
    let x = field_at (fields_of k) ts i c v.fields e in
    child i c x.0 (is_reset k i) refl (at_field (field_deep k) (fields_of k) i x.0 table x.1) (λ y. goes w k ts i c x.0 x.1 (each_at Deep ts i c l e) x.2 y nb (λ g. each_at NoFunction ts i c (fields_named w g k ts out v.fields h q.0) e) (each_at Bodied ts i c (each_bodied ts q.1) e) z) z)))
  where
    child : (i : ℕ) (c : Node) (x : Field) (r : Bool) → is_reset k i ≡ r → (is_reset k i || (is_deep x.1 && not (is_body_role x.2))) ≡ true → ((is_deep x.1 && not (is_body_role x.2)) ≡ true → Z (Is w k ts i) c ≡ true) → Z (Was w k ts i) c ≡ true → Z (Is w k ts i) c ≡ true
    child i c x true e d g z = stays w k ts i c e z
    child i c x false e d g z = g (rest_of (is_reset k i) (is_deep x.1 && not (is_body_role x.2)) d e)

tree_deep : (k : Kind) (ts : List Node) → Each Deep ts → Deep (Tree k ts)
tree_deep kind.BlockStmt ts l s f d w nb none b h =
    settled_from (deeper w) kind.BlockStmt ts refl (pointwise ts (Was w kind.BlockStmt ts) (Is w kind.BlockStmt ts) (settled_parts w kind.BlockStmt ts h).1 (λ i c e z. in_block w kind.BlockStmt ts i c refl nb z))
tree_deep k ts l s f d w nb none b h = fields_deep k ts refl l s f d w nb none b h

items_deep : (s : Slot) (ts : List Node) → Each Deep ts → AllFit s ts → is_deep s ≡ true → lacks s ≡ true → (w : Place) → (mark w.standing ≡ Some false → ⊥) → Each Bodied ts → Each (λ t. Z w t ≡ true) ts → Each (λ t. Z (deeper w) t ≡ true) ts
items_deep s [] l f d n w nb b h = tt
items_deep s (t ∷ ts) l f d n w nb b h = (l.0 s f.0 d w nb (λ e. lacking t s f.0 n) b.0 h.0, items_deep s ts l.1 f.1 d n w nb b.1 h.1)

list_deep : (ts : List Node) → Each Deep ts → Deep (Many ts)
list_deep ts l s f d w nb none b h =
    let p = item_deep s d in
    each_list (deeper w) ts (items_deep (item s) ts l (items_open s ts (sym (fits-List ts s) ∙ f)) p.0 p.1 w nb (each_bodied ts (half {a = true} (sym (every_list bodies_in ts) ∙ b)).1) (list_each w ts h))

leaf_deep : (t : Node) → ((v : Place) → Z v t ≡ true) → Deep t
leaf_deep t g s f d w nb none b h = g (deeper w)

pub deep : (t : Node) → Deep t
deep t = by_children Deep (
  leaf_deep Absent absent_settled,
  λ x. leaf_deep (Flag x) (λ v. flag_settled v x),
  λ x. leaf_deep (Word x) (λ v. word_settled v x),
  λ x. leaf_deep (Text x) (λ v. text_settled v x),
  λ x. leaf_deep (Span x) (λ v. span_settled v x),
  λ k i. leaf_deep (Identifier k i) (λ v. name_settled v k i),
)
    list_deep tree_deep t

-- ---- statements that end in an `if` without `else`

ending_hidden : (k : Kind) → (not (is_ending k) || not (is_shown k)) ≡ true
ending_hidden kind.Module = refl
ending_hidden _ = refl

pub ending_kind : (k : Kind) (bs : List Bool) → takes_else_step (Node-F.Tree k bs) ≡ true → is_ending k ≡ true
ending_kind kind.IfStmt bs h = refl
ending_kind kind.LabeledStmt bs h = refl
ending_kind kind.WhileStmt bs h = refl
ending_kind kind.WithStmt bs h = refl
ending_kind kind.ForStmt bs h = refl
ending_kind kind.ForInStmt bs h = refl
ending_kind kind.ForOfStmt bs h = refl
ending_kind kind.Module bs h = absurd (true≢false (sym h))
ending_kind _ bs h = absurd (true≢false (sym h))

pub ending_free : (k : Kind) (ts : List Node) → is_ending k ≡ true → (w v : Place) → Calmer v w → Z w (Tree k ts) ≡ true → Z v (Tree k ts) ≡ true
ending_free k ts e = standing_free k ts (hidden (is_ending k) (is_shown k) (ending_hidden k) e)

list_none : (ts : List Node) → takes_else (Many ts) ≡ false
list_none ts = search (rules, the_lemmas)

-- such a statement is settled wherever it stands
pub else_free : (t : Node) → takes_else t ≡ true → (w v : Place) → Calmer v w → Z w t ≡ true → Z v t ≡ true
else_free t = by_children (λ t. takes_else t ≡ true → (w v : Place) → Calmer v w → Z w t ≡ true → Z v t ≡ true) (
  λ e w v c h. absent_settled v,
  λ x e w v c h. flag_settled v x,
  λ x e w v c h. word_settled v x,
  λ x e w v c h. text_settled v x,
  λ x e w v c h. span_settled v x,
  λ k i e w v c h. name_settled v k i,
)
    (λ ts l e w v c h. absurd (cc (sym (list_none ts) ∙ e)))
    (λ k ts l e w v c h. ending_free k ts (ending_kind k (map takes_else ts) (sym (takes_else_of_tree k ts) ∙ e)) w v c h) t
