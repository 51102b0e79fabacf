-- A tree that can be written down can be once it is stripped.
use Rattle.std.proofs.Common.{◌≡◌, ℕ, Bool, true, false, IsTrue, not, ◌||◌, Option, None, Some, List, [], ◌∷◌, map, refl, sym, ap, ◌∙◌, rules, subst, true≢false}
use Rattle.std.specs.Prelude.{is_some}
use Rattle.std.specs.List.{list_all, filter}
use Rattle.swc_tree_marks.specs.declared.ident.Ident.{Ident}
use Rattle.swc_tree_node.specs.declared.kind.Kind.{Kind}
use Rattle.swc_tree_node.specs.declared.kind.Kind.TheVariants as kind
use Rattle.swc_tree_node.specs.declared.kind.Class.TheVariants as class
use Rattle.swc_tree_node.specs.declared.kind.Word.{Word as Word'}
use Rattle.swc_tree_node.specs.declared.slot.Slot.{Slot}
use Rattle.swc_tree_node.specs.declared.node.Node.{Node, Absent, Flag, Word, Text, Span, List as Many, Identifier, Tree, out-Node, the_lemmas}
use Rattle.swc_tree_node.specs.declared.node.Node.TheOpen.{Node-F}
use Rattle.swc_tree_node.specs.Table.{slots_of}
use Rattle.swc_tree_node.specs.Fits.{Fits, FieldsFit, AllFit}
use Rattle.swc_tree_node.proofs.Fit.{both, fits-List, tree_closes}
use Rattle.swc_tree_scoping.specs.Places.{literal_in}
use Rattle.swc_tree_grammar.specs.Shapes.{items_of}
use Rattle.swc_tree_grammar.specs.Kinds.{has_kind, is_private_name, is_paren}
use Rattle.swc_tree_grammar.specs.Levels.{word_of}
use Rattle.swc_tree_grammar.specs.Stripped.{stripped, target, target_in, is_member}
use Rattle.swc_tree_grammar.specs.Targets.{all_bare, is_target, is_simple, bare_in, seen}
use Rattle.swc_tree_grammar.specs.Writable.{Round, all_sound, no_private, binding, assigning, strictly, left_side, is_string}
use Rattle.swc_tree_grammar.proofs.Induction.{Each, by_children}
use Rattle.swc_tree_grammar.proofs.Places.{one, stands}
use Rattle.swc_tree_grammar.proofs.Kept.{stripped_fits}
use Rattle.swc_tree_grammar.proofs.Pairless.{stripped_pairless}
use Rattle.swc_tree_grammar.proofs.Simple.{simple, simple_tree, simple_identifier, stripped_simple}
use Rattle.swc_tree_grammar.proofs.Stripped.{stripped_of_tree, stripped_of_list, stripped_other, is_other}
use Rattle.swc_tree_grammar.proofs.Walks.{bare_of_tree, bare_of_list, target_of_tree}
use Rattle.swc_tree_grammar.specs.Stripped.{is_pairless}
use Rattle.swc_tree_grammar.proofs.Asked.{asked, same as whole, sound}
use Rattle.swc_tree_grammar_laws.proofs.Levelled.{half, also}
use Rattle.swc_tree_grammar_laws.proofs.Blocked.{no}
use Rattle.swc_tree_grammar_laws.proofs.Derived.{sound_tree}
use Rattle.swc_base_fixer_laws.specs.Sets.{item}
use Rattle.swc_base_fixer_laws.proofs.Up.{kind_of_tree}
use Rattle.swc_base_fixer_laws.proofs.Kept.{not_false}
use Rattle.swc_base_fixer_laws.proofs.SetsRows.{items_open}
use Rattle.swc_base_fixer_laws.proofs.SetsLevels.{expressions}
use Rattle.swc_base_fixer_laws.proofs.Rounds.{bound_or_assigned, freed}
use Rattle.swc_base_fixer_laws.proofs.Recasts.{is_special, tree_looks}
use Rattle.swc_base_fixer_laws.proofs.Recasts.Recasts.{expression}
use Rattle.swc_base_fixer_laws.proofs.RecastSound.{Kept, AllKept, tree_sound, bare_left, only_sound, rest_sound, stays_string}
use Rattle.swc_base_fixer_laws.proofs.RecastSound.Kept.{nought, also_kept}
use Rattle.swc_base_fixer_laws.proofs.RecastSound.AllKept.{none_kept, more_kept}
use Rattle.swc_base_fixer_laws.proofs.RecastKeeps.{Made, as_made, same_made, tree_made, list_made, whole_made, expression_keeps}
use Rattle.swc_base_fixer_laws.proofs.Sequences.{left_of, sequence_stays, two_left}
use Rattle.swc_base_fixer_laws.proofs.StrippedLooks.{own_string, own_chain}
use Rattle.swc_base_fixer_laws.proofs.StrippedItems.{left_sound, members_left}

-- in each place it is made into what keeps what is asked
abbrev Stripping : Node → Type 0
Stripping t = (s : Slot) → IsTrue (all_bare t) → Fits t s → Made s t (stripped t)

fields_made : (ss : List Slot) (ts : List Node) → Each Stripping ts → IsTrue (list_all all_bare ts) → FieldsFit ss ts → Kept ss ts (map stripped ts)
fields_made [] [] l b f = nought
fields_made [] (t ∷ ts) l b f = absurd f
fields_made (s ∷ ss) [] l b f = absurd f
fields_made (s ∷ ss) (t ∷ ts) l b f = let p = both (all_bare t) (list_all all_bare ts) b in let m = l.0 s p.0 f.0 in also_kept m.recast f.0 m.keeps (fields_made ss ts l.1 p.1 f.1)

all_made : (s : Slot) (ts : List Node) → Each Stripping ts → IsTrue (list_all all_bare ts) → AllFit s ts → AllKept s ts (map stripped ts)
all_made s [] l b f = none_kept
all_made s (t ∷ ts) l b f = let p = both (all_bare t) (list_all all_bare ts) b in let m = l.0 s p.0 f.0 in more_kept m.recast m.keeps (all_made s ts l.1 p.1 f.1)

list_stripped : (ts : List Node) → Each Stripping ts → Stripping (Many ts)
list_stripped ts l s b f =
    let x = all_made (item s) ts l (sym (bare_of_list ts) ∙ b) (items_open s ts (sym (fits-List ts s) ∙ f)) in
    as_made s (Many ts) (Many (map stripped ts)) (stripped (Many ts)) (stripped_of_list ts) (list_made s x)

bare_below : (k : Kind) (ts : List Node) → IsTrue (all_bare (Tree k ts)) → IsTrue (list_all all_bare ts)
bare_below k ts b = (both (bare_in (Node-F.Tree k (map seen ts))) (list_all all_bare ts) (sym (bare_of_tree k ts) ∙ b)).1

-- what is left of an expression is no pair, and a target where it was one
paired_row : (k : Kind) (ts : List Node) → is_pairless (Tree k ts) ≡ true → is_paren k ≡ false
paired_row kind.ParenExpr ts h = let e : is_pairless (Tree kind.ParenExpr ts) ≡ false = search (rules, the_lemmas) in absurd (no (sym e ∙ h))
paired_row k ts h = refl

unpaired : (t : Node) → is_pairless t ≡ true → has_kind is_paren t ≡ false
unpaired t = by_children (λ t. is_pairless t ≡ true → has_kind is_paren t ≡ false)
    (λ h. search (rules, the_lemmas), λ x h. search (rules, the_lemmas), λ w h. search (rules, the_lemmas), λ x h. search (rules, the_lemmas), λ s h. search (rules, the_lemmas), λ k i h. search (rules, the_lemmas))
    (λ ts l h. search (rules, the_lemmas))
    (λ k ts l h. kind_of_tree is_paren k ts ∙ paired_row k ts h) t

simple_row : (k : Kind) (ts : List Node) → is_simple k ≡ true → is_target (Tree k ts) ≡ true
simple_row kind.Ident ts h = target_of_tree kind.Ident ts
simple_row kind.MemberExpr ts h = target_of_tree kind.MemberExpr ts
simple_row kind.SuperPropExpr ts h = target_of_tree kind.SuperPropExpr ts
simple_row k ts h = absurd (true≢false (sym h))

target_name : (k : Kind) (i : Ident) → is_target (Identifier k i) ≡ is_simple k
target_name k i = search (rules, the_lemmas)

simple_target : (t : Node) → simple t ≡ true → is_target t ≡ true
simple_target t = by_children (λ t. simple t ≡ true → is_target t ≡ true) (
  λ h. (let e : simple Absent ≡ false = search (rules, the_lemmas) in absurd (no (sym e ∙ h))),
  λ x h. (let e : simple (Flag x) ≡ false = search (rules, the_lemmas) in absurd (no (sym e ∙ h))),
  λ w h. (let e : simple (Word w) ≡ false = search (rules, the_lemmas) in absurd (no (sym e ∙ h))),
  λ x h. (let e : simple (Text x) ≡ false = search (rules, the_lemmas) in absurd (no (sym e ∙ h))),
  λ s h. (let e : simple (Span s) ≡ false = search (rules, the_lemmas) in absurd (no (sym e ∙ h))),
  λ k i h. target_name k i ∙ sym (simple_identifier k i) ∙ h,
)
    (λ ts l h. (let e : simple (Many ts) ≡ false = search (rules, the_lemmas) in absurd (no (sym e ∙ h))))
    (λ k ts l h. simple_row k ts (sym (simple_tree k ts) ∙ h)) t

-- strings
none_of : {A : Type 0} (x : Option A) → is_some x ≡ false → x ≡ None
none_of None h = refl
none_of (Some a) h = absurd (cc)

no_string : (a b : Bool) → b ≡ false → (not a || b) ≡ true → a ≡ false
no_string true b e h = absurd (no (sym e ∙ h))
no_string false b e h = refl

special_string : (k : Kind) (ts : List Node) → is_special k ≡ true → literal_in (Node-F.Tree k ts) ≡ None
special_string kind.Str ts h = absurd (true≢false (sym h))
special_string k ts h = refl

text_left : (k : Kind) (ts : List Node) → is_special k ≡ true → stays_string (Tree k ts) ≡ true → literal_in (out-Node (stripped (Tree k ts))) ≡ literal_in (out-Node (Tree k ts))
text_left k ts s h =
    let e : literal_in (out-Node (Tree k ts)) ≡ None = tree_looks (Option (List ℕ)) literal_in k ts ∙ special_string k ts s in
    none_of (literal_in (out-Node (stripped (Tree k ts)))) (no_string (is_string (stripped (Tree k ts))) (is_string (Tree k ts)) (ap is_some e) h) ∙ sym e

-- an expression of a special kind
expression_made : (s : Slot) (k : Kind) (ts : List Node) → is_special k ≡ true → IsTrue (all_bare (Tree k ts)) → Fits (Tree k ts) (one class.Expr)
    → ((r : Round) → sound (Tree k ts) r ≡ true → sound (stripped (Tree k ts)) r ≡ true) → ((r : Round) → sound (Tree k ts) r ≡ true → has_kind is_private_name (stripped (Tree k ts)) ≡ false) → Made s (Tree k ts) (stripped (Tree k ts))
expression_made s k ts x b f keep pub_left =
    let t = Tree k ts in
    let g : Fits (stripped t) (one class.Expr) = stripped_fits t (one class.Expr) b refl f in
    let n : has_kind is_paren (stripped t) ≡ false = unpaired (stripped t) (stripped_pairless t (one class.Expr) f) in
    record {
      recast = expression k ts (stripped t) x g n (λ h. simple_target (stripped t) (stripped_simple t h f));
      keeps = expression_keeps k ts (stripped t) x g (record { keeps = keep; public = λ r h e. pub_left r h; text = λ f r h e. text_left k ts x e })
          (record { string = λ f r h. own_string (stripped t) g n r (keep r h); chain = λ f r h. own_chain (stripped t) g n r (keep r h) });
    }

only_public : (t : Node) (r : Round) → all_sound (asked t ∷ []) r ≡ true → has_kind is_private_name t ≡ false
only_public t r h = let p = half h in let q = half p.0 in not_false (has_kind is_private_name t) (sym (ap (λ t. not (has_kind is_private_name t)) (whole t)) ∙ q.0)

-- a pair
pair_made : (s : Slot) (ts : List Node) → Kept (slots_of kind.ParenExpr) ts (map stripped ts) → FieldsFit (slots_of kind.ParenExpr) ts → IsTrue (all_bare (Tree kind.ParenExpr ts)) → Made s (Tree kind.ParenExpr ts) (stripped (Tree kind.ParenExpr ts))
pair_made s (a ∷ e ∷ []) (also_kept _ _ _ (also_kept d g y nought)) f b =
    let t = Tree kind.ParenExpr (a ∷ e ∷ []) in
    let p = both (all_bare a) (list_all all_bare (e ∷ [])) (bare_below kind.ParenExpr (a ∷ e ∷ []) b) in
    let q = both (all_bare e) true p.1 in
    let is : stripped t ≡ stripped e = stripped_of_tree kind.ParenExpr (a ∷ e ∷ []) in
    let content : (r : Round) → sound t r ≡ true → all_sound (asked e ∷ []) (binding r) ≡ true = (λ r h. rest_sound a (asked e ∷ []) (binding r) (sym (sound_tree kind.ParenExpr (a ∷ e ∷ []) r) ∙ h)) in
    expression_made s kind.ParenExpr (a ∷ e ∷ []) refl b (tree_closes kind.ParenExpr (a ∷ e ∷ []) class.Expr refl refl f)
    (λ r h. ap (λ t. sound t r) is ∙ bound_or_assigned (stripped e) (stripped_fits e (one class.Expr) q.0 refl f.1.0) r (y.keeps (binding r) (only_sound e (binding r) (content r h))))
    (λ r h. ap (has_kind is_private_name) is ∙ y.public (binding r) (only_sound e (binding r) (content r h)) (only_public e (binding r) (content r h)))
pair_made s [] x f b = absurd f
pair_made s (a ∷ []) x f b = absurd f.1
pair_made s (a ∷ e ∷ d ∷ ts) x f b = absurd f.1.1

-- a sequence
sequence_made : (s : Slot) (ts : List Node) → Kept (slots_of kind.SeqExpr) ts (map stripped ts) → FieldsFit (slots_of kind.SeqExpr) ts → IsTrue (all_bare (Tree kind.SeqExpr ts)) → Made s (Tree kind.SeqExpr ts) (stripped (Tree kind.SeqExpr ts))
sequence_made s (a ∷ e ∷ []) (also_kept _ _ _ (also_kept d g y nought)) f b =
    let t = Tree kind.SeqExpr (a ∷ e ∷ []) in
    let p = both (all_bare a) (list_all all_bare (e ∷ [])) (bare_below kind.SeqExpr (a ∷ e ∷ []) b) in
    let q = both (all_bare e) true p.1 in
    let us = stripped a ∷ Many (left_of e) ∷ [] in
    let ft : Fits t (one class.Expr) = tree_closes kind.SeqExpr (a ∷ e ∷ []) class.Expr refl refl f in
    let keep : (r : Round) → sound t (binding r) ≡ true → sound (stripped t) (binding r) ≡ true = (λ r h. (
    let m = half (sym (sound_tree kind.SeqExpr (a ∷ e ∷ []) (binding r)) ∙ h) in
    ap (λ t. sound t (binding r)) (sequence_stays a e (binding r) f.1.0 h) ∙ left_sound (stripped a) e r (stripped_fits e expressions q.0 refl f.1.0) (y.keeps (binding r) m.1) (two_left a e (binding r) f.1.0 h))) in
    expression_made s kind.SeqExpr (a ∷ e ∷ []) refl b ft
    (λ r h. bound_or_assigned (stripped t) (stripped_fits t (one class.Expr) b refl ft) r (keep r (freed t ft r h)))
    (λ r h. ap (has_kind is_private_name) (sequence_stays a e r f.1.0 h) ∙ kind_of_tree is_private_name kind.SeqExpr us)
sequence_made s [] x f b = absurd f
sequence_made s (a ∷ []) x f b = absurd f.1
sequence_made s (a ∷ e ∷ d ∷ ts) x f b = absurd f.1.1

-- an assignment
target_tree : (k : Kind) (ts : List Node) → target (Tree k ts) ≡ Tree k ts
target_tree k ts = search (rules, the_lemmas)

target_identifier : (k : Kind) (i : Ident) → target (Identifier k i) ≡ target_in (Identifier k i) (Node-F.Identifier k i)
target_identifier k i = search (rules, the_lemmas)

-- what holds of a node whose name is bound, and of one that stays
of_target : (P : Node → Type 0) → ((i : Ident) → P (Identifier kind.Ident i) → P (Identifier kind.BindingIdent i)) → (t : Node) → P t → P (target t)
of_target P n t = by_children (λ t. P t → P (target t)) (
  stays Absent (search (rules, the_lemmas)),
  λ x. stays (Flag x) (search (rules, the_lemmas)),
  λ w. stays (Word w) (search (rules, the_lemmas)),
  λ x. stays (Text x) (search (rules, the_lemmas)),
  λ s. stays (Span s) (search (rules, the_lemmas)),
  λ k i h. subst P (sym (target_identifier k i)) (name k i h),
)
    (λ ts l. stays (Many ts) (search (rules, the_lemmas)))
    (λ k ts l. stays (Tree k ts) (target_tree k ts)) t where
      stays : (t : Node) → target t ≡ t → P t → P (target t)
      stays t e h = subst P (sym e) h

      name : (k : Kind) (i : Ident) → P (Identifier k i) → P (target_in (Identifier k i) (Node-F.Identifier k i))
      name kind.Ident i h = n i h
      name k i h = h

target_left : (op : Option Word') (t : Node) → left_side op (asked t).whole ≡ true → left_side op (asked (target t)).whole ≡ true
target_left op t h =
    let bare : (i : Ident) → left_side op (Identifier kind.BindingIdent i) ≡ true = (λ i. bare_left op (Identifier kind.BindingIdent i) (search (rules, the_lemmas)) (search (rules, the_lemmas))) in
    ap (λ t. left_side op t) (whole (target t)) ∙ of_target (λ t. left_side op t ≡ true) (λ i h. bare i) t (sym (ap (λ t. left_side op t) (whole t)) ∙ h)

target_sound : (t : Node) (r : Round) → sound t (assigning r) ≡ true → sound (target t) (assigning r) ≡ true
target_sound t r h =
    let same_text : (i : Ident) → sound (Identifier kind.BindingIdent i) (assigning r) ≡ sound (Identifier kind.Ident i) (assigning r) = (λ i. search (rules, the_lemmas)) in
    of_target (λ t. sound t (assigning r) ≡ true) (λ i h. same_text i ∙ h) t h

assignment_made : (s : Slot) (ts : List Node) → Kept (slots_of kind.AssignExpr) ts (map stripped ts) → FieldsFit (slots_of kind.AssignExpr) ts → IsTrue (all_bare (Tree kind.AssignExpr ts)) → Made s (Tree kind.AssignExpr ts) (stripped (Tree kind.AssignExpr ts))
assignment_made s (a ∷ o ∷ l ∷ d ∷ []) x f b =
    let us = stripped a ∷ stripped o ∷ stripped l ∷ stripped d ∷ [] in
    let vs = stripped a ∷ stripped o ∷ target (stripped l) ∷ stripped d ∷ [] in
    let is : stripped (Tree kind.AssignExpr (a ∷ o ∷ l ∷ d ∷ [])) ≡ Tree kind.AssignExpr vs = stripped_of_tree kind.AssignExpr (a ∷ o ∷ l ∷ d ∷ []) in
    expression_made s kind.AssignExpr (a ∷ o ∷ l ∷ d ∷ []) refl b (tree_closes kind.AssignExpr (a ∷ o ∷ l ∷ d ∷ []) class.Expr refl refl f)
    (λ r h. (
    let p = half (sym (sound_tree kind.AssignExpr us r) ∙ tree_sound kind.AssignExpr x r h) in let q = half p.1 in
    ap (λ t. sound t r) is ∙ sound_tree kind.AssignExpr vs r ∙ also (target_left (word_of (asked (stripped o)).whole) (stripped l) p.0) (also (target_sound (stripped l) r q.0) q.1)))
    (λ r h. ap (has_kind is_private_name) is ∙ kind_of_tree is_private_name kind.AssignExpr vs)
assignment_made s [] x f b = absurd f
assignment_made s (a ∷ []) x f b = absurd f.1
assignment_made s (a ∷ o ∷ []) x f b = absurd f.1.1
assignment_made s (a ∷ o ∷ l ∷ []) x f b = absurd f.1.1.1
assignment_made s (a ∷ o ∷ l ∷ d ∷ e ∷ ts) x f b = absurd f.1.1.1.1

-- a class
public_list : (ts : List Node) → no_private (asked (Many ts)) ≡ true
public_list ts = let e : has_kind is_private_name (Many ts) ≡ false = search (rules, the_lemmas) in ap (λ t. not (has_kind is_private_name t)) (whole (Many ts)) ∙ ap not e

class_made : (s : Slot) (ts : List Node) → Kept (slots_of kind.Class) ts (map stripped ts) → FieldsFit (slots_of kind.Class) ts → Made s (Tree kind.Class ts) (stripped (Tree kind.Class ts))
class_made s (a ∷ c ∷ d ∷ []) x f =
    let us = stripped a ∷ stripped c ∷ stripped d ∷ [] in
    let vs = stripped a ∷ stripped c ∷ Many (filter is_member (items_of (stripped d))) ∷ [] in
    let keep : (r : Round) → sound (Tree kind.Class (a ∷ c ∷ d ∷ [])) r ≡ true → sound (Tree kind.Class vs) r ≡ true
    = (λ r h. (
    let p = half (sym (sound_tree kind.Class us r) ∙ tree_sound kind.Class x r h) in
    sound_tree kind.Class vs r ∙ also p.0 (also (also (public_list (filter is_member (items_of (stripped d)))) (members_left is_member (stripped d) (strictly true r) (only_sound (stripped d) (strictly true r) p.1))) refl))) in
    as_made s (Tree kind.Class (a ∷ c ∷ d ∷ [])) (Tree kind.Class vs) (stripped (Tree kind.Class (a ∷ c ∷ d ∷ []))) (stripped_of_tree kind.Class (a ∷ c ∷ d ∷ []))
    (whole_made s kind.Class (a ∷ c ∷ d ∷ []) vs refl keep)
class_made s [] x f = absurd f
class_made s (a ∷ []) x f = absurd f.1
class_made s (a ∷ c ∷ []) x f = absurd f.1.1
class_made s (a ∷ c ∷ d ∷ e ∷ ts) x f = absurd f.1.1.1

-- each kind of node
fits_as : (t u : Node) → IsTrue (all_bare t) → stripped t ≡ u → Fits t (one class.Expr) → Fits u (one class.Expr)
fits_as t u b e f = rw (← e) (stripped_fits t (one class.Expr) b refl f)

other_made : (k : Kind) (ts : List Node) → IsTrue (is_other k) → Each Stripping ts → Stripping (Tree k ts)
other_made k ts o l s b f =
    let us = map stripped ts in let w = stands k ts s f in let x = fields_made (slots_of k) ts l (bare_below k ts b) w.fields in
    let e : stripped (Tree k ts) ≡ Tree k us = stripped_other k ts o in
    as_made s (Tree k ts) (Tree k us) (stripped (Tree k ts)) e (tree_made s k x (fits_as (Tree k ts) (Tree k us) b e))

tree_stripped : (k : Kind) (ts : List Node) → Each Stripping ts → Stripping (Tree k ts)
tree_stripped kind.ParenExpr ts l s b f = let w = stands kind.ParenExpr ts s f in pair_made s ts (fields_made (slots_of kind.ParenExpr) ts l (bare_below kind.ParenExpr ts b) w.fields) w.fields b
tree_stripped kind.SeqExpr ts l s b f = let w = stands kind.SeqExpr ts s f in sequence_made s ts (fields_made (slots_of kind.SeqExpr) ts l (bare_below kind.SeqExpr ts b) w.fields) w.fields b
tree_stripped kind.AssignExpr ts l s b f = let w = stands kind.AssignExpr ts s f in assignment_made s ts (fields_made (slots_of kind.AssignExpr) ts l (bare_below kind.AssignExpr ts b) w.fields) w.fields b
tree_stripped kind.Class ts l s b f = let w = stands kind.Class ts s f in class_made s ts (fields_made (slots_of kind.Class) ts l (bare_below kind.Class ts b) w.fields) w.fields
tree_stripped k ts l s b f = other_made k ts refl l s b f

stays : (t : Node) → stripped t ≡ t → Stripping t
stays t e s b f = same_made s t (stripped t) e

stripping : (t : Node) → Stripping t
stripping t = by_children Stripping (
  stays Absent (search (rules, the_lemmas)),
  λ x. stays (Flag x) (search (rules, the_lemmas)),
  λ w. stays (Word w) (search (rules, the_lemmas)),
  λ x. stays (Text x) (search (rules, the_lemmas)),
  λ r. stays (Span r) (search (rules, the_lemmas)),
  λ k i. stays (Identifier k i) (search (rules, the_lemmas)),
)
    list_stripped tree_stripped t

pub stripped_sound : (t : Node) (s : Slot) → IsTrue (all_bare t) → Fits t s → (r : Round) → sound t r ≡ true → sound (stripped t) r ≡ true
stripped_sound t s b f r h = let m = stripping t s b f in let x = m.keeps in x.keeps r h
