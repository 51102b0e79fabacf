-- A pass that keeps what is written of each node of its place.
use Rattle.std.proofs.Common.{◌≡◌, ℕ, zero, suc, Bool, true, false, Some, None, List, [], ◌∷◌, ◌++◌, map, refl, sym, ap, ◌∙◌, subst}
use Rattle.std.specs.Prelude.{is_some}
use Rattle.swc_tree_node.specs.declared.kind.Kind.{Kind}
use Rattle.swc_tree_node.specs.declared.kind.Kind.TheVariants as kind
use Rattle.swc_tree_node.specs.declared.kind.Class.{Class}
use Rattle.swc_tree_node.specs.declared.kind.Class.TheVariants as class
use Rattle.swc_tree_node.specs.declared.slot.Content.TheVariants as content
use Rattle.swc_tree_node.specs.declared.slot.Slot.{Slot}
use Rattle.swc_tree_node.specs.declared.slot.Slot.TheVariants as slot
use Rattle.swc_tree_node.specs.declared.node.Node.{Node, List as Many, Tree, out-Node}
use Rattle.swc_tree_node.specs.declared.node.Node.TheVariants.{outs-List, outs-Tree}
use Rattle.swc_tree_node.specs.Table.{slots_of}
use Rattle.swc_tree_node.specs.Fits.{AllFit, FieldsFit, Fits, belongs, single}
use Rattle.swc_tree_node.proofs.Fit.{fits-List}
use Rattle.swc_tree_grammar.proofs.Induction.{Each}
use Rattle.swc_base_rename_substitution.proofs.Room.{tree_open}
use Rattle.swc_base_fixer_laws.specs.Sets.{item}
use Rattle.swc_base_fixer_laws.proofs.SetsRows.{items_open}
use Rattle.text_pieces.specs.Layouts.{apart_layout_of, layout_of}
use Rattle.text_pieces.specs.Leaves.{bound_name, only_name}
use Rattle.text_pieces.specs.Tokens.{Piece}
use Rattle.text_kept_laws.proofs.PiecesRows.{AllKept, Kept, kept_same, layout_free, list_kept, lone_pieces, tree_kept}
use Rattle.text_kept_laws.proofs.Plain.{never}
use Rattle.text_kept_laws.specs.Written.AsWritten.{join as join'}
use Rattle.text_kept_laws.proofs.Steps.{R as R', even as even'}

-- places of which layouts ask no more than of most: of functions, classes, blocks, parts of chains and the parameters of an arrow they do
abbrev pub wide : Slot → Bool
wide (slot.One (content.Node class.Function)) = false
wide (slot.One (content.Node class.Class)) = false
wide (slot.One (content.Node class.BlockStmt)) = false
wide (slot.One (content.Node class.OptChainBase)) = false
wide (slot.List (content.Node class.Pat)) = false
wide s = true

abbrev pub wide_at : List Slot → ℕ → Bool
wide_at [] n = false
wide_at (s ∷ ss) zero = wide s
wide_at (s ∷ ss) (suc n) = wide_at ss n

whole_free : (k : Kind) → layout_free (wide_at (slots_of k)) (layout_of k) ≡ true
whole_free kind.Module = refl
whole_free k = refl

apart_free : (k : Kind) → layout_free (wide_at (slots_of k)) (apart_layout_of k) ≡ true
apart_free kind.Module = refl
apart_free k = refl

-- the kinds that stand in such a place
abbrev pub is_narrow : Kind → Bool
is_narrow kind.Function = true
is_narrow kind.Class = true
is_narrow kind.BlockStmt = true
is_narrow kind.MemberExpr = true
is_narrow kind.OptCall = true
is_narrow k = false

wide_class : (c : Class) (k : Kind) → belongs k c ≡ true → is_narrow k ≡ false → wide (slot.One (content.Node c)) ≡ true
wide_class class.Function kind.Function b n = never n
wide_class class.Function k b n = never (sym b)
wide_class class.Class kind.Class b n = never n
wide_class class.Class k b n = never (sym b)
wide_class class.BlockStmt kind.BlockStmt b n = never n
wide_class class.BlockStmt k b n = never (sym b)
wide_class class.OptChainBase kind.MemberExpr b n = never n
wide_class class.OptChainBase kind.OptCall b n = never n
wide_class class.OptChainBase k b n = never (sym b)
wide_class c k b n = refl

wide_by : (s : Slot) (c : Class) → single s ≡ Some (content.Node c) → wide (slot.One (content.Node c)) ≡ true → wide s ≡ true
wide_by (slot.One d) c e h = let one : d ≡ content.Node c = cc in ap (λ d. wide (slot.One d)) one ∙ h
wide_by (slot.Optional d) c e h = refl
wide_by s c e h = absurd (cc)

pub wide_there : (k : Kind) (ts : List Node) (s : Slot) → is_narrow k ≡ false → Fits (Tree k ts) s → wide s ≡ true
wide_there k ts s n h = let o = tree_open k ts s h in wide_by s o.0 o.1 (wide_class o.0 k o.3 n)

-- ---- names that are bound

pub list_none : (ts : List Node) → bound_name (out-Node (Many ts)) ≡ None
list_none ts = ap bound_name (outs-List ts)

pub tree_none : (k : Kind) (ts : List Node) → bound_name (out-Node (Tree k ts)) ≡ None
tree_none k ts = ap bound_name (outs-Tree k ts)

-- ---- a pass

module _ (R : List Piece → List Piece → Type 0) (even : (ps : List Piece) → R ps ps) (join : (ps qs rs ss : List Piece) → R ps qs → R rs ss → R (ps ++ rs) (qs ++ ss)) (f : Node → Node)
    (Q : Node → Type 0) (of_list : (ts : List Node) → Q (Many ts) → Each Q ts) (of_tree : (k : Kind) (ts : List Node) → Q (Tree k ts) → Each Q ts)
    (bound : (t : Node) (s : Slot) → Q t → Fits t s → bound_name (out-Node t) ≡ bound_name (out-Node (f t))) where
  -- of nodes of which something holds
  abbrev pub Stays : Node → Type 0
  Stays t = (s : Slot) → Q t → Fits t s → Kept R (wide s) t (f t)

  fields_kept : (ss : List Slot) (ts : List Node) → Each Stays ts → Each Q ts → FieldsFit ss ts → AllKept R (wide_at ss) ts (map f ts)
  fields_kept [] [] l q h = tt
  fields_kept [] (t ∷ ts) l q h = absurd h
  fields_kept (s ∷ ss) [] l q h = absurd h
  fields_kept (s ∷ ss) (t ∷ ts) l q h = (l.0 s q.0 h.0, fields_kept ss ts l.1 q.1 h.1)

  items_kept : (s : Slot) (ts : List Node) → Each Stays ts → Each Q ts → AllFit s ts → AllKept R (λ n. wide s) ts (map f ts)
  items_kept s [] l q h = tt
  items_kept s (t ∷ ts) l q h = (l.0 s q.0 h.0, items_kept s ts l.1 q.1 h.1)

  only_same : (s : Slot) (ts : List Node) → Each Q ts → AllFit s ts → only_name ts ≡ only_name (map f ts)
  only_same s [] q h = refl
  only_same s (t ∷ []) q h = bound t s q.0 h.0
  only_same s (t ∷ u ∷ ts) q h = refl

  equal : (ps qs : List Piece) → ps ≡ qs → R ps qs
  equal ps qs e = subst (R ps) e (even ps)

  pub list_stays : (ts : List Node) → f (Many ts) ≡ Many (map f ts) → Each Stays ts → Stays (Many ts)
  list_stays ts is l s q h =
      let fit : AllFit (item s) ts = items_open s ts (sym (fits-List ts s) ∙ h) in
      let e : only_name ts ≡ only_name (map f ts) = only_same (item s) ts (of_list ts q) fit in
      subst (Kept R (wide s) (Many ts)) (sym is)
      (list_kept R even join (λ n. wide (item s)) (wide s) ts (map f ts) (λ o. ap is_some e) (λ o. equal (lone_pieces (only_name ts)) (lone_pieces (only_name (map f ts))) (ap lone_pieces e)) (items_kept (item s) ts l (of_list ts q) fit))

  pub below_kept : (s : Slot) (k : Kind) (ts : List Node) → Each Stays ts → Q (Tree k ts) → Fits (Tree k ts) s → Kept R (wide s) (Tree k ts) (Tree k (map f ts))
  below_kept s k ts l q h = tree_kept R even join (wide_at (slots_of k)) (wide s) k ts (map f ts) (whole_free k) (apart_free k) (fields_kept (slots_of k) ts l (of_tree k ts q) (tree_open k ts s h).4)

  pub tree_stays : (k : Kind) (ts : List Node) → f (Tree k ts) ≡ Tree k (map f ts) → Each Stays ts → Stays (Tree k ts)
  tree_stays k ts is l s q h = subst (Kept R (wide s) (Tree k ts)) (sym is) (below_kept s k ts l q h)

  pub leaf_stays : (t : Node) → f t ≡ t → Stays t
  leaf_stays t is s q h = subst (Kept R (wide s) t) (sym is) (kept_same R even join (wide s) t)

-- ---- a pass of which nothing more is asked

abbrev pub Any : Node → Type 0
Any t = Unit {0}

pub any_below : (ts : List Node) → Each Any ts
any_below [] = tt
any_below (t ∷ ts) = (tt, any_below ts)

module _ (f : Node → Node) (bound : (t : Node) (s : Slot) → Any t → Fits t s → bound_name (out-Node t) ≡ bound_name (out-Node (f t))) where
  abbrev pub Holds : Node → Type 0
  Holds t = Stays R' even' join' f Any (λ ts q. any_below ts) (λ k ts q. any_below ts) bound t

  pub all_list : (ts : List Node) → f (Many ts) ≡ Many (map f ts) → Each Holds ts → Holds (Many ts)
  all_list = list_stays R' even' join' f Any (λ ts q. any_below ts) (λ k ts q. any_below ts) bound

  pub all_below : (s : Slot) (k : Kind) (ts : List Node) → Each Holds ts → Fits (Tree k ts) s → Kept R' (wide s) (Tree k ts) (Tree k (map f ts))
  all_below s k ts l h = below_kept R' even' join' f Any (λ ts q. any_below ts) (λ k ts q. any_below ts) bound s k ts l tt h

  pub all_tree : (k : Kind) (ts : List Node) → f (Tree k ts) ≡ Tree k (map f ts) → Each Holds ts → Holds (Tree k ts)
  all_tree = tree_stays R' even' join' f Any (λ ts q. any_below ts) (λ k ts q. any_below ts) bound

  pub all_leaf : (t : Node) → f t ≡ t → Holds t
  all_leaf = leaf_stays R' even' join' f Any (λ ts q. any_below ts) (λ k ts q. any_below ts) bound
