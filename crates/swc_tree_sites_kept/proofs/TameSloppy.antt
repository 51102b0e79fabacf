-- Nodes in sloppy code, in no block of which a plain function stands.
use Rattle.std.proofs.Common.{◌≡◌, ◌≢◌, ℕ, zero, suc, Bool, true, false, not, ◌&&◌, ◌||◌, IsTrue, Option, Some, None, List, [], ◌∷◌, refl, sym, ap, ◌∙◌, cond, true≢false}
use Rattle.std.specs.List.{list_all, slice_get}
use Rattle.swc_tree_marks.specs.declared.ident.Ident.{Ident}
use Rattle.swc_tree_node.specs.declared.kind.Kind.{Kind}
use Rattle.swc_tree_node.specs.declared.kind.Kind.TheVariants as kind
use Rattle.swc_tree_node.specs.declared.kind.Word.{Word as Word'}
use Rattle.swc_tree_node.specs.declared.kind.Word.TheVariants as word
use Rattle.swc_tree_node.specs.declared.kind.Class.{Class}
use Rattle.swc_tree_node.specs.declared.kind.Class.TheVariants as class
use Rattle.swc_tree_node.specs.declared.slot.Content.{Content}
use Rattle.swc_tree_node.specs.declared.slot.Content.TheVariants as content
use Rattle.swc_tree_node.specs.declared.slot.Slot.{Slot}
use Rattle.swc_tree_node.specs.declared.slot.Slot.TheVariants as slot
use Rattle.swc_tree_node.specs.declared.node.Node.{Node, List as Many, Identifier, Tree, out-Node}
use Rattle.swc_tree_node.specs.declared.node.Node.TheOpen.{Node-F}
use Rattle.swc_tree_node.specs.declared.node.Node.TheVariants.{outs-Absent, outs-Flag, outs-Word, outs-Text, outs-Span, outs-List, outs-Identifier, outs-Tree}
use Rattle.swc_tree_node.specs.Table.{fields_of, is_identifier, slots_of}
use Rattle.swc_tree_node.specs.Fits.{FieldsFit, Fits, belongs, single}
use Rattle.swc_tree_node.proofs.Fit.{fits-Tree, tree_opens}
use Rattle.swc_tree_scoping.specs.declared.places.Standing.TheVariants as standing
use Rattle.swc_tree_scoping.specs.declared.places.Place.{Place}
use Rattle.swc_tree_scoping.specs.Places.{Path, children_in, has_own_name, is_inside, is_plain_function, is_strict, nested_below, opened_as, own_block, place_at, place_in, view_from}
use Rattle.swc_tree_scoping.proofs.Under.{place_under}
use Rattle.swc_tree_grammar.specs.Levels.{word_of}
use Rattle.swc_tree_grammar.specs.Forms.{Form, Ordinary, PlainFunction, form, form_in, form_of_function, form_of_word, is_branch}
use Rattle.swc_tree_grammar.proofs.Induction.{by_children}
use Rattle.swc_tree_grammar.proofs.Places.{one}
use Rattle.swc_tree_grammar_laws.proofs.Levelled.{both}
use Rattle.swc_tree_sites.proofs.Leaves.{Field}
use Rattle.swc_base_fixer_laws.specs.Sets.{item}
use Rattle.swc_tree_sites_kept.proofs.Patterns.{only_node}

-- no plain function stands in a block of sloppy code, where the root has the place
abbrev pub Unsloppy : Place → Node → Type 0
Unsloppy w t = (p : Path) (v : Place) (k : Kind) (i : Ident) → place_at w t p ≡ Some (v, Identifier k i) → v.standing ≢ standing.SloppyFunction

-- ... if the code is not strict
abbrev pub Calm : Bool → Place → Node → Type 0
Calm strict w t = strict ≡ false → (w.strict ≡ false) × Unsloppy w t

below : (w : Place) (t : Node) (y : Node-F Node) → out-Node t ≡ y → Unsloppy w t → (i : ℕ) (c : Node) → slice_get (children_in y) i ≡ Some c → Unsloppy (place_in w y i) c
below w t y o u i c e p v k x h = u (i ∷ p) v k x (place_under w t c i p (ap (λ y. slice_get (children_in y) i) o ∙ e) ∙ ap (λ y. place_at (place_in w y i) c p) o ∙ h)

-- ---- strict code

-- a kind that may make strict what stands in it; a constructor stands in a class, where all is strict
abbrev pub is_opener : Kind → Bool
is_opener kind.Module = true
is_opener kind.Class = true
is_opener kind.Script = true
is_opener kind.Function = true
is_opener kind.ArrowExpr = true
is_opener kind.GetterProp = true
is_opener kind.SetterProp = true
is_opener _ = false

abbrev pub is_constructor : Kind → Bool
is_constructor kind.Constructor = true
is_constructor _ = false

abbrev pub adds : Bool → Bool → Bool → Bool
adds true strict b = strict || b
adds false strict b = strict

-- whether what is asked of a field is asked of strict code
abbrev pub strict_at : Kind → List Node → Bool → ℕ → Bool
strict_at k ts strict i = adds (is_opener k && is_inside (view_from k i)) strict (is_strict k ts)

neither : (a b : Bool) → a ≡ false → b ≡ false → (a || b) ≡ false
neither false false e f = refl
neither true b e f = absurd (cc)
neither false true e f = absurd (cc)

neither_is : (a b : Bool) → (a || b) ≡ false → (a ≡ false) × (b ≡ false)
neither_is false false e = (refl, refl)
neither_is true b e = absurd (cc)
neither_is false true e = absurd (cc)

and_false : (a : Bool) → (a && false) ≡ false
and_false true = refl
and_false false = refl

or_true : (a : Bool) → (a || true) ≡ true
or_true true = refl
or_true false = refl

added : (inside strict b : Bool) → adds inside strict b ≡ false → (strict ≡ false) × ((inside && b) ≡ false)
added true strict b e = neither_is strict b e
added false strict b e = (e, refl)

sloppy_field : (k : Kind) (ts : List Node) (strict inside : Bool) → (is_constructor k ≡ true → strict ≡ true) → adds (is_opener k && inside) strict (is_strict k ts) ≡ false → (strict ≡ false) × ((inside && is_strict k ts) ≡ false)
sloppy_field kind.Module ts strict inside n e = added inside strict true e
sloppy_field kind.Class ts strict inside n e = added inside strict true e
sloppy_field kind.Script ts strict inside n e = added inside strict _ e
sloppy_field kind.Function ts strict inside n e = added inside strict _ e
sloppy_field kind.ArrowExpr ts strict inside n e = added inside strict _ e
sloppy_field kind.GetterProp ts strict inside n e = added inside strict _ e
sloppy_field kind.SetterProp ts strict inside n e = added inside strict _ e
sloppy_field kind.Constructor ts strict inside n e = (let z : true ≡ false = sym (n refl) ∙ e in absurd (cc))
sloppy_field k ts strict inside n e = (e, and_false inside)

-- a field of what is calm
pub calm_field : (k : Kind) (ts : List Node) (strict : Bool) (w : Place) → (is_constructor k ≡ true → strict ≡ true) → Calm strict w (Tree k ts) → (i : ℕ) (c : Node) → slice_get ts i ≡ Some c → Calm (strict_at k ts strict i) (place_in w (Node-F.Tree k ts) i) c
calm_field k ts strict w n m i c e s =
    let p = sloppy_field k ts strict (is_inside (view_from k i)) n s in let q = m p.0 in
    (neither w.strict (is_inside (view_from k i) && is_strict k ts) q.0 p.1, below w (Tree k ts) (Node-F.Tree k ts) (outs-Tree k ts) q.1 i c e)

-- an item of a list
pub calm_item : (ts : List Node) (strict : Bool) (w : Place) → Calm strict w (Many ts) → (i : ℕ) (c : Node) → slice_get ts i ≡ Some c → Calm strict (place_in w (Node-F.List ts) i) c
calm_item ts strict w m i c e s = let q = m s in (q.0, below w (Many ts) (Node-F.List ts) (outs-List ts) q.1 i c e)

-- ---- members of a class stand in strict code

abbrev is_member_class : Class → Bool
is_member_class class.Constructor = true
is_member_class class.ClassMember = true
is_member_class _ = false

abbrev is_member_content : Content → Bool
is_member_content (content.Node c) = is_member_class c
is_member_content _ = false

abbrev pub is_member : Slot → Bool
is_member (slot.One c) = is_member_content c
is_member (slot.Optional c) = is_member_content c
is_member (slot.List c) = is_member_content c
is_member (slot.Holes c) = is_member_content c
is_member (slot.OptionalList c) = is_member_content c
is_member _ = false

member_item : (s : Slot) → is_member (item s) ≡ true → is_member s ≡ true
member_item (slot.List c) h = h
member_item (slot.OptionalList c) h = h
member_item (slot.Holes c) h = h
member_item s h = absurd (cc)

abbrev member_place : Option Content → Bool
member_place (Some c) = is_member_content c
member_place _ = false

member_single : (s : Slot) (c : Class) → single s ≡ Some (content.Node c) → is_member_class c ≡ true → is_member s ≡ true
member_single (slot.One d) c e h = ap member_place e ∙ h
member_single (slot.Optional d) c e h = ap member_place e ∙ h
member_single s c e h = absurd (cc)

constructor_place : (c : Class) → belongs kind.Constructor c ≡ true → is_member_class c ≡ true
constructor_place class.Constructor b = refl
constructor_place class.ClassMember b = refl
constructor_place _ b = absurd (cc)

constructor_class : (k : Kind) (c : Class) → is_constructor k ≡ true → belongs k c ≡ true → is_member_class c ≡ true
constructor_class kind.Constructor c h b = constructor_place c b
constructor_class _ c h b = absurd (true≢false (sym h))

abbrev no_member : Field → Bool
no_member f = not (is_member f.1)

not_member : (b : Bool) → not b ≡ true → b ≡ true → ⊥
not_member true e h = absurd (cc)
not_member false e h = absurd (cc)

no_member_field : (fs : List Field) (i : ℕ) (f : Field) → list_all no_member fs ≡ true → slice_get fs i ≡ Some f → is_member f.1 ≡ true → ⊥
no_member_field [] i f n e h = absurd (cc)
no_member_field (x ∷ fs) zero f n e h = let same : x ≡ f = cc in not_member (is_member x.1) (both (no_member x) (list_all no_member fs) n).0 (ap (λ (f : Field). is_member f.1) same ∙ h)
no_member_field (x ∷ fs) (suc i) f n e h = no_member_field fs i f (both (no_member x) (list_all no_member fs) n).1 e h

member_field : (k : Kind) (ts : List Node) (strict : Bool) (i : ℕ) (f : Field) → slice_get (fields_of k) i ≡ Some f → is_member f.1 ≡ true → strict_at k ts strict i ≡ true
member_field kind.Class ts strict i f e h = or_true strict
member_field k ts strict i f e h = absurd (no_member_field (fields_of k) i f refl e h)

-- what is known of a node where it stands: a member of a class stands in strict code, and all is calm
pub record Known (strict : Bool) (w : Place) (s : Slot) (t : Node) : Type 0 where
  pub member : is_member s ≡ true → strict ≡ true
  pub calm : Calm strict w t

pub no_constructor : (k : Kind) (c : Class) (strict : Bool) (w : Place) (s : Slot) (t : Node) → Known strict w s t → single s ≡ Some (content.Node c) → belongs k c ≡ true → is_constructor k ≡ true → strict ≡ true
no_constructor k c strict w s t x e b h = x.member (member_single s c e (constructor_class k c h b))

pub known_field : (k : Kind) (ts : List Node) (strict : Bool) (w : Place) → (is_constructor k ≡ true → strict ≡ true) → Calm strict w (Tree k ts)
    → (i : ℕ) (f : Field) (c : Node) → slice_get (fields_of k) i ≡ Some f → slice_get ts i ≡ Some c → Known (strict_at k ts strict i) (place_in w (Node-F.Tree k ts) i) f.1 c
known_field k ts strict w n m i f c e g = record { member = member_field k ts strict i f e; calm = calm_field k ts strict w n m i c g }

pub known_item : (ts : List Node) (strict : Bool) (w : Place) (s : Slot) → Known strict w s (Many ts) → (i : ℕ) (c : Node) → slice_get ts i ≡ Some c → Known strict (place_in w (Node-F.List ts) i) (item s) c
known_item ts strict w s x i c e = record { member = λ h. x.member (member_item s h); calm = calm_item ts strict w x.calm i c e }

-- ---- statements in a block of sloppy code

-- where a statement stands in a block
pub record Nested (t : Node) : Type 0 where
  pub place : Place
  pub sloppy : place.strict ≡ false
  pub nested : place.nested ≡ true
  pub none : Unsloppy place t

pub nested_calm : (strict : Bool) (w : Place) (t : Node) → w.nested ≡ true → Calm strict w t → strict ≡ false → Nested t
nested_calm strict w t n m s = let q = m s in record { place = w; sloppy = q.0; nested = n; none = q.1 }

-- statements that stand round another
abbrev pub is_around : Kind → Bool
is_around kind.WithStmt = true
is_around kind.LabeledStmt = true
is_around kind.IfStmt = true
is_around kind.WhileStmt = true
is_around kind.DoWhileStmt = true
is_around kind.ForStmt = true
is_around kind.ForInStmt = true
is_around kind.ForOfStmt = true
is_around _ = false

around_nests : (k : Kind) (w : Place) (b : Bool) (i : ℕ) → is_around k ≡ true → nested_below w.nested (opened_as w k b) (view_from k i) ≡ w.nested
around_nests kind.WithStmt w b i a = refl
around_nests kind.LabeledStmt w b i a = refl
around_nests kind.IfStmt w b i a = refl
around_nests kind.WhileStmt w b i a = refl
around_nests kind.DoWhileStmt w b i a = refl
around_nests kind.ForStmt w b i a = refl
around_nests kind.ForInStmt w b i a = refl
around_nests kind.ForOfStmt w b i a = refl
around_nests _ w b i a = absurd (true≢false (sym a))

around_sloppy : (k : Kind) (ts : List Node) (i : ℕ) → is_around k ≡ true → strict_at k ts false i ≡ false
around_sloppy kind.WithStmt ts i a = refl
around_sloppy kind.LabeledStmt ts i a = refl
around_sloppy kind.IfStmt ts i a = refl
around_sloppy kind.WhileStmt ts i a = refl
around_sloppy kind.DoWhileStmt ts i a = refl
around_sloppy kind.ForStmt ts i a = refl
around_sloppy kind.ForInStmt ts i a = refl
around_sloppy kind.ForOfStmt ts i a = refl
around_sloppy _ ts i a = absurd (true≢false (sym a))

around_constructor : (k : Kind) → is_around k ≡ true → is_constructor k ≡ true → false ≡ true
around_constructor kind.Constructor a h = absurd (cc)
around_constructor _ a h = absurd (cc)

pub nested_field : (k : Kind) (ts : List Node) → is_around k ≡ true → Nested (Tree k ts) → (i : ℕ) (c : Node) → slice_get ts i ≡ Some c → Nested c
nested_field k ts a m i c e =
    let q = calm_field k ts false m.place (around_constructor k a) (λ s. (m.sloppy, m.none)) i c e (around_sloppy k ts i a) in
    record { place = place_in m.place (Node-F.Tree k ts) i; sloppy = q.0; nested = around_nests k m.place (has_own_name ts) i a ∙ m.nested; none = q.1 }

-- a plain function stands there in none
abbrev is_function : Form → Bool
is_function PlainFunction = true
is_function _ = false

words : (o : Option Word') → is_function (form_of_word o) ≡ false
words (Some word.Var) = refl
words (Some _) = refl
words None = refl

sloppily : (n o s b : Bool) → n ≡ true → s ≡ false → b ≡ true → cond (not (n || o)) standing.Function (cond (not s && b) standing.SloppyFunction standing.BlockFunction) ≡ standing.SloppyFunction
sloppily true o false true e f g = refl
sloppily false o s b e f g = absurd (cc)
sloppily true o true b e f g = absurd (cc)
sloppily true o false false e f g = absurd (cc)

no_name : (k : Kind) → IsTrue (not (is_identifier k)) → IsTrue (belongs k class.Ident) → ⊥
no_name kind.Ident i b = absurd (cc)
no_name _ i b = absurd (cc)

no_function : (x y : Node) → Fits x (one class.Ident) → is_plain_function (Some y) ≡ true → Nested (Tree kind.FnDecl (x ∷ y ∷ [])) → ⊥
no_function x y = only_node class.Ident (λ x. is_plain_function (Some y) ≡ true → Nested (Tree kind.FnDecl (x ∷ y ∷ [])) → ⊥)
    (λ k i h b p m. (
    let w = m.place in let ts : List Node = Identifier k i ∷ y ∷ [] in
    below w (Tree kind.FnDecl ts) (Node-F.Tree kind.FnDecl ts) (outs-Tree kind.FnDecl ts) m.none 0 (Identifier k i) refl [] (place_in w (Node-F.Tree kind.FnDecl ts) 0) k i refl
    (sloppily w.nested (own_block w) w.strict (is_plain_function (Some y)) m.nested m.sloppy p)))
    (λ k ts b f g p m. no_name k (tree_opens k ts class.Ident g).0 b) x

function_row : (x y : Node) → Fits x (one class.Ident) → Nested (Tree kind.FnDecl (x ∷ y ∷ [])) → (b : Bool) → is_plain_function (Some y) ≡ b → is_function (form_of_function b) ≡ false
function_row x y f m true e = absurd (no_function x y f e m)
function_row x y f m false e = refl

form_row : (k : Kind) (ts : List Node) → FieldsFit (slots_of k) ts → Nested (Tree k ts) → is_function (form_in (Node-F.Tree k ts)) ≡ false
form_row kind.FnDecl [] f m = absurd f
form_row kind.FnDecl (x ∷ []) f m = absurd f.1
form_row kind.FnDecl (x ∷ y ∷ z ∷ ts) f m = absurd f.1.1
form_row kind.FnDecl (x ∷ y ∷ []) f m = function_row x y f.0 m (is_plain_function (Some y)) refl
form_row kind.VarDecl [] f m = refl
form_row kind.VarDecl (x ∷ []) f m = refl
form_row kind.VarDecl (x ∷ y ∷ []) f m = refl
form_row kind.VarDecl (x ∷ y ∷ z ∷ []) f m = words (word_of y)
form_row kind.VarDecl (x ∷ y ∷ z ∷ v ∷ ts) f m = refl
form_row k ts f m = refl

no_plain_function : (t : Node) (c : Class) → Fits t (slot.Optional (content.Node c)) → Nested t → is_function (form t) ≡ false
no_plain_function t c = by_children (λ t. Fits t (slot.Optional (content.Node c)) → Nested t → is_function (form t) ≡ false) (
  λ f m. ap (λ y. is_function (form_in y)) outs-Absent,
  λ x f m. ap (λ y. is_function (form_in y)) (outs-Flag x),
  λ v f m. ap (λ y. is_function (form_in y)) (outs-Word v),
  λ x f m. ap (λ y. is_function (form_in y)) (outs-Text x),
  λ s f m. ap (λ y. is_function (form_in y)) (outs-Span s),
  λ k i f m. ap (λ y. is_function (form_in y)) (outs-Identifier k i),
)
    (λ ts b f m. ap (λ y. is_function (form_in y)) (outs-List ts))
    (λ k ts b f m. (
    let o = tree_opens k ts c (fits-Tree k ts (one c) ∙ sym (fits-Tree k ts (slot.Optional (content.Node c))) ∙ f) in
    ap (λ y. is_function (form_in y)) (outs-Tree k ts) ∙ form_row k ts o.2 m)) t

other_form : (f : Form) → is_function f ≡ false → is_branch false f ≡ true → is_branch true f ≡ true
other_form Ordinary n h = refl
other_form PlainFunction n h = absurd (cc)
other_form _ n h = absurd (cc)

-- what may be a branch there may be one in strict code
pub strict_branch : (strict : Bool) (t : Node) (c : Class) → Fits t (slot.Optional (content.Node c)) → (strict ≡ false → Nested t) → is_branch strict (form t) ≡ true → is_branch true (form t) ≡ true
strict_branch true t c f m h = h
strict_branch false t c f m h = other_form (form t) (no_plain_function t c f (m refl)) h
