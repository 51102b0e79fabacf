-- A tree that is settled is settled with its due pairs.
use Rattle.std.proofs.Common.{◌≡◌, Bool, true, false, not, ◌||◌, IsTrue, None, Some, List, [], ◌∷◌, refl, sym, ap, ◌∙◌, true≢false}
use Rattle.swc_tree_node.specs.declared.kind.Kind.{Kind}
use Rattle.swc_tree_node.specs.declared.kind.Kind.TheVariants as kind
use Rattle.swc_tree_node.specs.declared.slot.Slot.{Slot}
use Rattle.swc_tree_node.specs.declared.node.Node.{Node, Span, Identifier, Tree, out-Node}
use Rattle.swc_tree_node.specs.declared.node.Node.TheOpen.{Node-F}
use Rattle.swc_tree_node.specs.declared.node.Node.TheVariants.{outs-Tree}
use Rattle.swc_tree_node.specs.Table.{slots_of}
use Rattle.swc_tree_node.specs.Fits.{Fits}
use Rattle.swc_tree_scoping.specs.declared.places.Place.{Place}
use Rattle.swc_tree_scoping.specs.Places.{has_use_strict, is_branch, is_plain_function, is_strict, items_in as statement_items, place_in}
use Rattle.swc_tree_scoping.proofs.Remarked.{tree_is}
use Rattle.swc_tree_grammar.specs.Due.{Places, with_due_pairs}
use Rattle.swc_tree_grammar.specs.Forms.{form_in, form_of_function}
use Rattle.swc_tree_grammar.specs.Shapes.{items_in}
use Rattle.swc_tree_grammar_laws.proofs.Levelled.{also}
use Rattle.swc_tree_renaming.specs.Apart.{function_in}
use Rattle.swc_base_fixer_laws.specs.Sets.{AllSet, FieldsSet, Sets, can_pair, pairable_in}
use Rattle.swc_base_fixer_laws.specs.Sets.Sets.{same as unchanged, after, around, named, items, tree}
use Rattle.swc_base_fixer_laws.specs.Sets.AllSet.{none, more}
use Rattle.swc_base_fixer_laws.specs.Sets.FieldsSet.{nil, field}
use Rattle.swc_base_fixer_laws.proofs.Answer.{due_set}
use Rattle.swc_base_fixer_laws.proofs.FormsKept.{form_kept, strict_kept, strict_list}
use Rattle.swc_base_fixer_laws.proofs.Looks.{seen_anywhere}
use Rattle.swc_tree_sites_kept.proofs.KeepsPlaces.{AllKeep, Calmer, Keeps, Tight, Z, hidden, is_shown, keeps_then, list_keeps, name_settled, or_left, same, settled_from, span_settled, standing_free, suits_same, tree_keeps}
use Rattle.swc_tree_sites_kept.proofs.KeepsCode.{loose_more}
use Rattle.swc_tree_sites_kept.proofs.KeepsStripped.{Ref, function_kind}

-- what gets a pair is settled wherever it stands
pairs_hidden : (k : Kind) → (not (can_pair k) || not (is_shown k)) ≡ true
pairs_hidden kind.Module = refl
pairs_hidden _ = refl

pairable_free : (t : Node) (y : Node-F Node) → out-Node t ≡ y → IsTrue (pairable_in y) → (w v : Place) → Calmer v w → Z w t ≡ true → Z v t ≡ true
pairable_free t (Node-F.Tree k ts) o p w v c h = ap (Z v) (tree_is t k ts o) ∙ standing_free k ts (hidden (can_pair k) (is_shown k) (pairs_hidden k) p) w v c (sym (ap (Z w) (tree_is t k ts o)) ∙ h)
pairable_free t Node-F.Absent o p w v c h = absurd (cc)
pairable_free t _ o p w v c h = absurd (cc)

-- directives stay
same_items : (y : Node-F Node) → statement_items y ≡ items_in y
same_items (Node-F.List ts) = refl
same_items Node-F.Absent = refl
same_items _ = refl

strict_same : (k : Kind) (ts us : List Node) → FieldsSet (slots_of k) ts us → is_strict k us ≡ is_strict k ts
strict_same kind.Script ts us (field a (field {t = t} {u = u} b (field c nil))) = ap has_use_strict (same_items (out-Node u)) ∙ strict_list b ∙ sym (ap has_use_strict (same_items (out-Node t)))
strict_same kind.Function ts us (field a (field p (field b (field g (field y nil))))) = strict_kept b
strict_same kind.ArrowExpr ts us (field a (field p (field b (field y nil)))) = strict_kept b
strict_same kind.Constructor ts us (field a (field e (field p (field b nil)))) = strict_kept b
strict_same kind.GetterProp ts us (field a (field e (field b nil))) = strict_kept b
strict_same kind.SetterProp ts us (field a (field e (field p (field b nil)))) = strict_kept b
strict_same k ts us d = refl

-- functions stay functions
form_plain : (a b : Bool) → form_of_function a ≡ form_of_function b → a ≡ true → b ≡ true
form_plain true true e h = refl
form_plain true false e h = absurd (cc)
form_plain false b e h = absurd (cc)

function_hidden : (k : Kind) (ts : List Node) → can_pair k ≡ true → function_in (Node-F.Tree k ts) ≡ false
function_hidden kind.FnDecl ts h = absurd (true≢false (sym h))
function_hidden kind.Module ts h = refl
function_hidden _ ts h = refl

function_kept : {s : Slot} {t u : Node} → Sets s t u → function_in (out-Node u) ≡ function_in (out-Node t)
function_kept d = seen_anywhere Bool function_in false function_hidden (λ us. refl) (λ k i. refl) (λ ts us. refl) (λ k ts us d. function_kind k ts us) d

tight : (s : Slot) (k : Kind) (ts us : List Node) → Sets s (Tree k ts) (Tree k us) → FieldsSet (slots_of k) ts us → Tight k ts us
tight s kind.FnDecl ts us x (field {t = i} {u = j} a (field {t = f} {u = g} b nil)) w h =
    let is : form_of_function (is_plain_function (Some g)) ≡ form_of_function (is_plain_function (Some f)) = sym (ap form_in (outs-Tree kind.FnDecl (j ∷ g ∷ []))) ∙ form_kept x ∙ ap form_in (outs-Tree kind.FnDecl (i ∷ f ∷ [])) in
    loose_more w.strict (is_branch w.standing) w.nested (is_plain_function (Some g)) (is_plain_function (Some f)) (form_plain (is_plain_function (Some g)) (is_plain_function (Some f)) is) h
tight s kind.LabeledStmt ts us x (field a (field l (field b nil))) w h = sym (function_kept b) ∙ h
tight s k ts us x d w h = absurd (cc)

mutual
  pairs_keep : {s : Slot} {t u : Node} → Sets s t u → Keeps t u
  pairs_keep (unchanged t) w v c s h = same t w v c s h
  pairs_keep (after {t = t} {u = u} {v = x} d e) w v c s h = keeps_then t u x (pairs_keep d) (pairs_keep e) w v c s h
  pairs_keep (around r t u p q d) w v c s h =
      let inner = pairs_keep d (Ref w) (place_in v (Node-F.Tree kind.ParenExpr (Span r ∷ u ∷ [])) 1) (record { strict = λ e. or_left v.strict false (c.strict e); nested = c.nested }) (suits_same None)
      (pairable_free t (out-Node t) refl q w (Ref w) (record { strict = λ e. e; nested = λ e. e }) h) in
      settled_from v kind.ParenExpr (Span r ∷ u ∷ []) refl (also (span_settled (place_in v (Node-F.Tree kind.ParenExpr (Span r ∷ u ∷ [])) 0) r) (also inner refl))
  pairs_keep (named r k i z) w v c s h =
      settled_from v kind.ParenExpr (Span r ∷ Identifier kind.Ident i ∷ []) refl (also (span_settled (place_in v (Node-F.Tree kind.ParenExpr (Span r ∷ Identifier kind.Ident i ∷ [])) 0) r)
      (also (name_settled (place_in v (Node-F.Tree kind.ParenExpr (Span r ∷ Identifier kind.Ident i ∷ [])) 1) kind.Ident i) refl))
  pairs_keep (items ts us d) w v c s h = list_keeps ts us (items_keep d) w v c s h
  pairs_keep {s = place} (tree k ts us e d) w v c s h = tree_keeps k ts us (fields_keep d) (λ h. strict_same k ts us d ∙ h) (tight place k ts us (tree k ts us e d) d) w v c s h

  items_keep : {s : Slot} {ts us : List Node} → AllSet s ts us → AllKeep ts us
  items_keep none = tt
  items_keep (more d x) = (pairs_keep d, items_keep x)

  fields_keep : {ss : List Slot} {ts us : List Node} → FieldsSet ss ts us → AllKeep ts us
  fields_keep nil = tt
  fields_keep (field d x) = (pairs_keep d, fields_keep x)

pub due_keeps : (place : Places) (t : Node) (s : Slot) → Fits t s → Keeps t (with_due_pairs place t)
due_keeps place t s f = pairs_keep (due_set place t s f)
