-- Where names are bound stand patterns, and no expression.
use Rattle.std.proofs.Common.{◌≡◌, Bool, true, false, not, ◌&&◌, ◌||◌, IsTrue, None, List, [], ◌∷◌, map, refl, sym, ap, ◌∙◌, true≢false}
use Rattle.std.specs.List.{list_all}
use Rattle.swc_tree_marks.specs.declared.ident.Ident.{Ident}
use Rattle.swc_tree_node.specs.declared.kind.Kind.{Kind}
use Rattle.swc_tree_node.specs.declared.kind.Kind.TheVariants as kind
use Rattle.swc_tree_node.specs.declared.kind.Class.{Class}
use Rattle.swc_tree_node.specs.declared.kind.Class.TheVariants as class
use Rattle.swc_tree_node.specs.declared.slot.Content.{Content}
use Rattle.swc_tree_node.specs.declared.slot.Content.TheVariants as content
use Rattle.swc_tree_node.specs.declared.slot.Slot.{Slot}
use Rattle.swc_tree_node.specs.declared.slot.Slot.TheVariants as slot
use Rattle.swc_tree_node.specs.declared.node.Node.{Node, List as Many, Identifier, Tree, out-Node}
use Rattle.swc_tree_node.specs.declared.node.Node.TheOpen.{Node-F}
use Rattle.swc_tree_node.specs.declared.node.Node.TheVariants.{outs-List, outs-Identifier, outs-Tree}
use Rattle.swc_tree_node.specs.Table.{is_identifier, slots_of}
use Rattle.swc_tree_node.specs.Fits.{AllFit, FieldsFit, Fits, absent_fits, belongs, fits, flag_fits, identifier_fits, single, span_fits, text_fits, tree_fits, word_fits}
use Rattle.swc_tree_node.proofs.Fit.{both as both_are, fits-Absent, fits-Flag, fits-Word, fits-Text, fits-Span, fits-List, fits-Identifier, fits-Tree, list_opens, tree_opens}
use Rattle.swc_tree_scoping.specs.Places.{is_expression_in}
use Rattle.swc_tree_grammar.specs.Shapes.{items_in, items_of}
use Rattle.swc_tree_grammar.specs.Levels.{is_absent, is_absent_in}
use Rattle.swc_tree_grammar.specs.Kinds.{has_kind, has_kind_in, is_rest}
use Rattle.swc_tree_grammar.specs.Writable.{default_in, element, elements, is_element, is_plain_pattern_in, pattern, pattern_of, pattern_of_param_in, property_in}
use Rattle.swc_tree_grammar.proofs.Induction.{by_children}
use Rattle.swc_tree_grammar.proofs.Places.{one}
use Rattle.swc_tree_grammar_laws.proofs.Levelled.{also, both}
use Rattle.swc_tree_sites_kept.proofs.Asked.{code}

pub no : {A : Type 0} → false ≡ true → A
no h = absurd (cc)

pub or_false : (a : Bool) → (a || false) ≡ true → a ≡ true
or_false true h = refl
or_false false h = h

-- ---- nodes by where they fit

-- where only a list does
only_list : (s : Slot) (Q : Node → Type 0) → single s ≡ None → absent_fits s ≡ false → ((ts : List Node) → Fits (Many ts) s → Q (Many ts)) → (t : Node) → Fits t s → Q t
only_list s Q n e h t = by_children (λ t. Fits t s → Q t) (
  λ f. no (sym (fits-Absent s ∙ e) ∙ f),
  λ x f. no (sym (fits-Flag x s ∙ ap flag_fits n) ∙ f),
  λ w f. no (sym (fits-Word w s ∙ ap (word_fits w) n) ∙ f),
  λ x f. no (sym (fits-Text x s ∙ ap text_fits n) ∙ f),
  λ x f. no (sym (fits-Span x s ∙ ap span_fits n) ∙ f),
  λ k i f. no (sym (fits-Identifier k i s ∙ ap (identifier_fits k) n) ∙ f),
)
    (λ ts b f. h ts f)
    (λ k ts b f. no (sym (fits-Tree k ts s ∙ ap (tree_fits k (map fits ts)) n) ∙ f)) t

-- where a node of a class does
pub only_node : (c : Class) (Q : Node → Type 0) → ((k : Kind) (i : Ident) → IsTrue (is_identifier k) → IsTrue (belongs k c) → Q (Identifier k i))
    → ((k : Kind) (ts : List Node) → IsTrue (belongs k c) → FieldsFit (slots_of k) ts → Fits (Tree k ts) (one c) → Q (Tree k ts)) → (t : Node) → Fits t (one c) → Q t
only_node c Q name tree t = by_children (λ t. Fits t (one c) → Q t) (
  λ f. no (sym (fits-Absent (one c)) ∙ f),
  λ x f. no (sym (fits-Flag x (one c)) ∙ f),
  λ w f. no (sym (fits-Word w (one c)) ∙ f),
  λ x f. no (sym (fits-Text x (one c)) ∙ f),
  λ x f. no (sym (fits-Span x (one c)) ∙ f),
  λ k i f. (let p = both_are (is_identifier k) (belongs k c) (sym (fits-Identifier k i (one c)) ∙ f) in name k i p.0 p.1),
)
    (λ ts b f. no (sym (fits-List ts (one c)) ∙ f))
    (λ k ts b f. (let o = tree_opens k ts c f in tree k ts o.1 o.2 f)) t

-- ---- what may stand where names are bound

abbrev is_pattern : Kind → Bool
is_pattern kind.ArrayPat = true
is_pattern kind.ObjectPat = true
is_pattern kind.RestPat = true
is_pattern kind.AssignPat = true
is_pattern kind.KeyValuePatProp = true
is_pattern kind.AssignPatProp = true
is_pattern k = false

abbrev shaped_in : Node-F Node → Bool
shaped_in Node-F.Absent = true
shaped_in (Node-F.Identifier kind.BindingIdent i) = true
shaped_in (Node-F.Tree k ts) = is_pattern k
shaped_in y = false

-- a declarator, a parameter, or a part of a pattern in which no name is assigned to
abbrev pub part_binds : Bool → Node-F Node → Bool
part_binds a (Node-F.Tree kind.VarDeclarator ts) = true
part_binds a (Node-F.Tree kind.Param (span ∷ pat ∷ [])) = shaped_in (out-Node pat)
part_binds a y = not a && shaped_in y

-- or a list of these
abbrev pub binds : Bool → Node-F Node → Bool
binds a (Node-F.List ts) = list_all (λ t. part_binds a (out-Node t)) ts
binds a y = part_binds a y

pub never : {A : Type 0} (a : Bool) → (not a && false) ≡ true → A
never true h = absurd (cc)
never false h = absurd (cc)

shaped_part : (y : Node-F Node) → shaped_in y ≡ true → part_binds false y ≡ true
shaped_part (Node-F.Tree kind.VarDeclarator ts) h = refl
shaped_part (Node-F.Tree kind.Param ts) h = no h
shaped_part (Node-F.Tree k ts) h = h
shaped_part y h = h

pub part_whole : (a : Bool) (y : Node-F Node) → part_binds a y ≡ true → binds a y ≡ true
part_whole a (Node-F.List ts) h = never a h
part_whole a y h = h

pub shaped_binds : (y : Node-F Node) → shaped_in y ≡ true → binds false y ≡ true
shaped_binds y h = part_whole false y (shaped_part y h)

-- no name of an expression does
pub name_bound : (k : Kind) (i : Ident) (a : Bool) → binds a (Node-F.Identifier k i) ≡ true → is_expression_in (Node-F.Identifier k i) ≡ false
name_bound kind.Ident i a h = never a h
name_bound _ i a h = refl

-- ---- what is asked of patterns

abbrev test : Node-F Node → Bool
test y = is_absent_in y || (property_in y || (default_in y || (is_plain_pattern_in y || false)))

tested : (y : Node-F Node) → test y ≡ true → shaped_in y ≡ true
tested Node-F.Absent h = refl
tested (Node-F.Identifier kind.BindingIdent i) h = refl
tested (Node-F.Identifier k i) h = no h
tested (Node-F.Tree kind.ArrayPat ts) h = refl
tested (Node-F.Tree kind.ObjectPat ts) h = refl
tested (Node-F.Tree kind.RestPat ts) h = refl
tested (Node-F.Tree kind.AssignPat ts) h = refl
tested (Node-F.Tree kind.KeyValuePatProp ts) h = refl
tested (Node-F.Tree kind.AssignPatProp ts) h = refl
tested (Node-F.Tree k ts) h = no h
tested y h = no h

or_right : (a b : Bool) → b ≡ true → (a || b) ≡ true
or_right true b h = refl
or_right false b h = h

element_shaped : (t : Node) → element t (code true false) ≡ true → shaped_in (out-Node t) ≡ true
element_shaped t h = tested (out-Node t) (or_right (is_absent_in (out-Node t)) _ (or_right (property_in (out-Node t)) _ h))

pub element_binds : (t : Node) → element t (code true false) ≡ true → binds false (out-Node t) ≡ true
element_binds t h = shaped_binds (out-Node t) (element_shaped t h)

pub pattern_binds : (t : Node) → pattern t (code true false) ≡ true → binds false (out-Node t) ≡ true
pattern_binds t h = element_binds t (or_right (default_in (out-Node t)) _ h)

pub maybe_pattern_binds : (t : Node) → (is_absent t || pattern t (code true false)) ≡ true → binds false (out-Node t) ≡ true
maybe_pattern_binds t h = at (is_absent t) refl h
  where
    at : (b : Bool) → is_absent t ≡ b → (b || pattern t (code true false)) ≡ true → binds false (out-Node t) ≡ true
    at true e h = shaped_binds (out-Node t) (tested (out-Node t) (ap (λ b. b || (property_in (out-Node t) || (default_in (out-Node t) || (is_plain_pattern_in (out-Node t) || false)))) e))
    at false e h = pattern_binds t h

rest_shaped : (y : Node-F Node) → has_kind_in is_rest y ≡ true → shaped_in y ≡ true
rest_shaped (Node-F.Tree kind.RestPat ts) h = refl
rest_shaped (Node-F.Tree k ts) h = no h
rest_shaped y h = no h

-- an element that is no parameter
own_element : (t : Node) (y : Node-F Node) → out-Node t ≡ y → (is_absent_in y || (property_in y || element t (code true false))) ≡ true → part_binds false y ≡ true
own_element t y o h = shaped_part y (tested y (ap (λ z. is_absent_in y || (property_in y || (default_in z || (is_plain_pattern_in z || false)))) (sym o) ∙ h))

own_rest : (t : Node) (y : Node-F Node) → out-Node t ≡ y → has_kind is_rest t ≡ true → part_binds false y ≡ true
own_rest t y o h = shaped_part y (rest_shaped y (ap (has_kind_in is_rest) (sym o) ∙ h))

item_in : (t : Node) (y : Node-F Node) → out-Node t ≡ y → (is_absent_in y || (property_in y || element (pattern_of_param_in t y) (code true false))) ≡ true → part_binds false y ≡ true
item_in t (Node-F.Tree kind.Param (a ∷ p ∷ [])) o h = element_shaped p h
item_in t (Node-F.Tree kind.Param []) o h = own_element t (Node-F.Tree kind.Param []) o h
item_in t (Node-F.Tree kind.Param (a ∷ [])) o h = own_element t (Node-F.Tree kind.Param (a ∷ [])) o h
item_in t (Node-F.Tree kind.Param (a ∷ b ∷ c ∷ ts)) o h = own_element t (Node-F.Tree kind.Param (a ∷ b ∷ c ∷ ts)) o h
item_in t (Node-F.Tree k ts) o h = own_element t (Node-F.Tree k ts) o h
item_in t y o h = own_element t y o h

rest_in : (t : Node) (y : Node-F Node) → out-Node t ≡ y → has_kind is_rest (pattern_of_param_in t y) ≡ true → part_binds false y ≡ true
rest_in t (Node-F.Tree kind.Param (a ∷ p ∷ [])) o h = rest_shaped (out-Node p) h
rest_in t (Node-F.Tree kind.Param []) o h = own_rest t (Node-F.Tree kind.Param []) o h
rest_in t (Node-F.Tree kind.Param (a ∷ [])) o h = own_rest t (Node-F.Tree kind.Param (a ∷ [])) o h
rest_in t (Node-F.Tree kind.Param (a ∷ b ∷ c ∷ ts)) o h = own_rest t (Node-F.Tree kind.Param (a ∷ b ∷ c ∷ ts)) o h
rest_in t (Node-F.Tree k ts) o h = own_rest t (Node-F.Tree k ts) o h
rest_in t y o h = own_rest t y o h

item_binds : (t : Node) → is_element (code true false) t ≡ true → part_binds false (out-Node t) ≡ true
item_binds t h = item_in t (out-Node t) refl h

last_binds : (t : Node) (b : Bool) → has_kind is_rest (pattern_of t) ≡ b → (b || is_element (code true false) t) ≡ true → part_binds false (out-Node t) ≡ true
last_binds t true e h = rest_in t (out-Node t) refl e
last_binds t false e h = item_binds t h

elements_bind : (s : Bool) (ts : List Node) → elements (code s false) ts ≡ true → list_all (λ t. part_binds false (out-Node t)) ts ≡ true
elements_bind s [] h = refl
elements_bind s (t ∷ []) h = also (last_binds t _ refl h) refl
elements_bind s (t ∷ u ∷ ts) h = let z = both (is_element (code s false) t) (elements (code s false) (u ∷ ts)) h in also (item_binds t z.0) (elements_bind s (u ∷ ts) z.1)

many_bind : (s : Bool) (ts : List Node) → elements (code s false) (items_of (Many ts)) ≡ true → binds false (out-Node (Many ts)) ≡ true
many_bind s ts h = ap (binds false) (outs-List ts) ∙ elements_bind s ts (ap (λ y. elements (code s false) (items_in y)) (sym (outs-List ts)) ∙ h)

pub list_binds : (s : Bool) (d : Node) (c : Content) → Fits d (slot.List c) → elements (code s false) (items_of d) ≡ true → binds false (out-Node d) ≡ true
list_binds s d c f h = only_list (slot.List c) (λ d. elements (code s false) (items_of d) ≡ true → binds false (out-Node d) ≡ true) refl refl (λ ts f. many_bind s ts) d f h

pub holes_bind : (s : Bool) (d : Node) (c : Content) → Fits d (slot.Holes c) → elements (code s false) (items_of d) ≡ true → binds false (out-Node d) ≡ true
holes_bind s d c f h = only_list (slot.Holes c) (λ d. elements (code s false) (items_of d) ≡ true → binds false (out-Node d) ≡ true) refl refl (λ ts f. many_bind s ts) d f h

-- ---- declarators, and the name that a property binds

declarator_name : (a : Bool) (k : Kind) (i : Ident) → IsTrue (is_identifier k) → IsTrue (belongs k class.VarDeclarator) → part_binds a (Node-F.Identifier k i) ≡ true
declarator_name a kind.VarDeclarator i h b = absurd (cc)
declarator_name a _ i h b = absurd (cc)

declarator_tree : (a : Bool) (k : Kind) (ts : List Node) → IsTrue (belongs k class.VarDeclarator) → part_binds a (Node-F.Tree k ts) ≡ true
declarator_tree a kind.VarDeclarator ts b = refl
declarator_tree a _ ts b = absurd (true≢false (sym b))

declarator : (a : Bool) (t : Node) → Fits t (one class.VarDeclarator) → part_binds a (out-Node t) ≡ true
declarator a = only_node class.VarDeclarator (λ t. part_binds a (out-Node t) ≡ true) (λ k i h b. ap (part_binds a) (outs-Identifier k i) ∙ declarator_name a k i h b) (λ k ts b f g. ap (part_binds a) (outs-Tree k ts) ∙ declarator_tree a k ts b)

all_declarators : (a : Bool) (ts : List Node) → AllFit (one class.VarDeclarator) ts → list_all (λ t. part_binds a (out-Node t)) ts ≡ true
all_declarators a [] f = refl
all_declarators a (t ∷ ts) f = also (declarator a t f.0) (all_declarators a ts f.1)

pub declarators_bind : (a : Bool) (d : Node) → Fits d (slot.List (content.Node class.VarDeclarator)) → binds a (out-Node d) ≡ true
declarators_bind a = only_list (slot.List (content.Node class.VarDeclarator)) (λ d. binds a (out-Node d) ≡ true) refl refl
    (λ ts f. ap (binds a) (outs-List ts) ∙ all_declarators a ts (list_opens ts (content.Node class.VarDeclarator) f))

bound_name : (k : Kind) (i : Ident) → IsTrue (belongs k class.BindingIdent) → binds false (Node-F.Identifier k i) ≡ true
bound_name kind.BindingIdent i b = refl
bound_name _ i b = absurd (true≢false (sym b))

no_name_tree : (k : Kind) (ts : List Node) → IsTrue (not (is_identifier k)) → IsTrue (belongs k class.BindingIdent) → ⊥
no_name_tree kind.BindingIdent ts i b = absurd (cc)
no_name_tree _ ts i b = absurd (cc)

pub name_binds : (t : Node) → Fits t (one class.BindingIdent) → binds false (out-Node t) ≡ true
name_binds = only_node class.BindingIdent (λ t. binds false (out-Node t) ≡ true) (λ k i h b. ap (binds false) (outs-Identifier k i) ∙ bound_name k i b)
    (λ k ts b f g. absurd (no_name_tree k ts (tree_opens k ts class.BindingIdent g).0 b))
