-- Where the children of a node meet no more than those of another that stands as it does, the node meets no more.
use Rattle.std.proofs.Common.{◌≡◌, ℕ, zero, suc, Bool, true, false, not, Option, Some, None, List, [], ◌∷◌, refl, sym, ap, ◌∙◌, subst, cond}
use Rattle.swc_tree_marks.specs.declared.ident.Ident.{Ident}
use Rattle.swc_tree_node.specs.declared.kind.Kind.{Kind}
use Rattle.swc_tree_node.specs.declared.node.Node.{Node, List as Many, Tree, out-Node}
use Rattle.swc_tree_node.specs.declared.node.Node.TheOpen.{Node-F}
use Rattle.swc_tree_node.specs.declared.node.Node.TheVariants.{outs-List, outs-Tree}
use Rattle.swc_tree_scoping.specs.declared.places.Place.{Place}
use Rattle.swc_tree_scoping.specs.Folds.{each_in}
use Rattle.swc_tree_scoping.specs.Places.{has_own_name, place_in}
use Rattle.swc_base_rename_analysis.specs.Analysis.{body_kind, has_identifier, is_for_body, is_outside, own_kind}
use Rattle.swc_base_rename_analysis.specs.Walk.{own_name_below}
use Rattle.swc_base_renaming_laws.specs.Meetings.{Meeting, Met, both, fields_where, in_scope, items_met, nothing, tree_met}
use Rattle.swc_base_renaming_laws.proofs.Within.{Within, both_within, in_scope_within, within_same}
use Rattle.swc_base_renaming_laws.proofs.Meets.{M, ins, kids, out_is, outs}
use Rattle.swc_base_renaming_laws.proofs.Placed.{placed, sort}

-- in the place the first meets no more than the second
abbrev pub Less : Place → Node → Node → Type 0
Less w u t = (f : Bool) (own : Option Ident) → Within (M w u f own) (M w t f own)

-- each of the first, in its place and with what is round it, meets no more than its fellow
abbrev pub AllLess : (ℕ → Place) → (ℕ → Bool) → (ℕ → Option Ident) → List Node → List Node → Type 0
AllLess ps b r [] [] = Unit {0}
AllLess ps b r [] (t ∷ ts) = ⊥
AllLess ps b r (u ∷ us) [] = ⊥
AllLess ps b r (u ∷ us) (t ∷ ts) = Within (M (ps zero) u (b zero) (r zero)) (M (ps zero) t (b zero) (r zero)) × AllLess (λ i. ps (suc i)) (λ i. b (suc i)) (λ i. r (suc i)) us ts

chosen : (b : Bool) (x y : Met) → Within x y → Within (cond b x nothing) (cond b y nothing)
chosen true x y h = h
chosen false x y h = within_same nothing

-- in a place like that one
moved : (u : Node) (m : Met) (q p : Place) (b : Bool) (o r : Option Ident) → sort q.standing ≡ sort p.standing → o ≡ r → Within (M p u b r) m → Within (M q u b o) m
moved u m q p b o r e g h = subst (λ (x : Met). Within x m) (ap (λ (y : Meeting). y b r) (sym (placed u q p e)) ∙ ap (M q u b) (sym g)) h

fields_less : (h b : ℕ → Bool) (o r : ℕ → Option Ident) (qs ps : ℕ → Place) (us ts : List Node) → ((i : ℕ) → sort (qs i).standing ≡ sort (ps i).standing) → ((i : ℕ) → o i ≡ r i) → AllLess ps b r us ts
    → Within (fields_where h (λ i (m : Meeting). m (b i) (o i)) (each_in M qs us)) (fields_where h (λ i (m : Meeting). m (b i) (r i)) (each_in M ps ts))
fields_less h b o r qs ps [] [] e g l = within_same nothing
fields_less h b o r qs ps [] (t ∷ ts) e g l = absurd l
fields_less h b o r qs ps (u ∷ us) [] e g l = absurd l
fields_less h b o r qs ps (u ∷ us) (t ∷ ts) e g l =
    both_within (cond (h zero) (M (qs zero) u (b zero) (o zero)) nothing) (cond (h zero) (M (ps zero) t (b zero) (r zero)) nothing)
    (fields_where (λ i. h (suc i)) (λ i (m : Meeting). m (b (suc i)) (o (suc i))) (each_in M (λ i. qs (suc i)) us))
    (fields_where (λ i. h (suc i)) (λ i (m : Meeting). m (b (suc i)) (r (suc i))) (each_in M (λ i. ps (suc i)) ts))
    (chosen (h zero) (M (qs zero) u (b zero) (o zero)) (M (ps zero) t (b zero) (r zero)) (moved u (M (ps zero) t (b zero) (r zero)) (qs zero) (ps zero) (b zero) (o zero) (r zero) (e zero) (g zero) l.0))
    (fields_less (λ i. h (suc i)) (λ i. b (suc i)) (λ i. o (suc i)) (λ i. r (suc i)) (λ i. qs (suc i)) (λ i. ps (suc i)) us ts (λ i. e (suc i)) (λ i. g (suc i)) l.1)

abbrev pub no_body : ℕ → Bool
no_body i = false

abbrev pub no_own : ℕ → Option Ident
no_own i = None

items_less : (qs ps : ℕ → Place) (us ts : List Node) → ((i : ℕ) → sort (qs i).standing ≡ sort (ps i).standing) → AllLess ps no_body no_own us ts → Within (items_met (each_in M qs us)) (items_met (each_in M ps ts))
items_less qs ps [] [] e l = within_same nothing
items_less qs ps [] (t ∷ ts) e l = absurd l
items_less qs ps (u ∷ us) [] e l = absurd l
items_less qs ps (u ∷ us) (t ∷ ts) e l =
    both_within (M (qs zero) u false None) (M (ps zero) t false None) (items_met (each_in M (λ i. qs (suc i)) us)) (items_met (each_in M (λ i. ps (suc i)) ts))
    (moved u (M (ps zero) t false None) (qs zero) (ps zero) false None None (e zero) refl l.0) (items_less (λ i. qs (suc i)) (λ i. ps (suc i)) us ts (λ i. e (suc i)) l.1)

-- two nodes of a kind, each child of which stands as the other's does
pub record StandAlike (w : Place) (k : Kind) (us ts : List Node) : Type 0 where
  pub places : (i : ℕ) → sort (place_in w (Node-F.Tree k us) i).standing ≡ sort (place_in w (Node-F.Tree k ts) i).standing
  pub own_names : (i : ℕ) → own_name_below k us i ≡ own_name_below k ts i
  pub identifier : has_identifier us ≡ has_identifier ts
  pub own_name : has_own_name us ≡ has_own_name ts

abbrev pub FieldsLess : Place → Kind → List Node → List Node → Type 0
FieldsLess w k us ts = AllLess (place_in w (Node-F.Tree k ts)) (λ i. is_for_body (Node-F.Tree k ts) i) (λ i. own_name_below k ts i) us ts

module _ (w : Place) (k : Kind) (us ts : List Node) (a : StandAlike w k us ts) (l : FieldsLess w k us ts) where
  part : (h : ℕ → Bool) → Within (fields_where h (λ i (m : Meeting). m (is_for_body (Node-F.Tree k us) i) (own_name_below k us i)) (kids w k us)) (fields_where h (λ i (m : Meeting). m (is_for_body (Node-F.Tree k ts) i) (own_name_below k ts i)) (kids w k ts))
  part h = fields_less h (λ i. is_for_body (Node-F.Tree k ts) i) (λ i. own_name_below k us i) (λ i. own_name_below k ts i) (place_in w (Node-F.Tree k us)) (place_in w (Node-F.Tree k ts)) us ts a.places a.own_names l

  outs_less : Within (outs w k us) (outs w k ts)
  outs_less = subst (λ b. Within (outs w k us) (fields_where (λ i. is_outside w k b i) (λ i (m : Meeting). m (is_for_body (Node-F.Tree k ts) i) (own_name_below k ts i)) (kids w k ts))) a.identifier (part (λ i. is_outside w k (has_identifier us) i))

  ins_less : Within (ins w k us) (ins w k ts)
  ins_less = subst (λ b. Within (ins w k us) (fields_where (λ i. not (is_outside w k b i)) (λ i (m : Meeting). m (is_for_body (Node-F.Tree k ts) i) (own_name_below k ts i)) (kids w k ts))) a.identifier (part (λ i. not (is_outside w k (has_identifier us) i)))

  pub tree_less : Less w (Tree k us) (Tree k ts)
  tree_less f own =
      subst (λ m. Within m (M w (Tree k ts) f own)) (sym (out_is w (Tree k us) (Node-F.Tree k us) f own (outs-Tree k us)))
      (subst (Within (tree_met w k us (kids w k us) f own)) (sym (out_is w (Tree k ts) (Node-F.Tree k ts) f own (outs-Tree k ts)))
      (both_within (outs w k us) (outs w k ts) (in_scope (body_kind f (own_kind w k (has_own_name us))) own (ins w k us)) (in_scope (body_kind f (own_kind w k (has_own_name ts))) own (ins w k ts)) outs_less
      (subst (λ b. Within (in_scope (body_kind f (own_kind w k (has_own_name us))) own (ins w k us)) (in_scope (body_kind f (own_kind w k b)) own (ins w k ts))) a.own_name
      (in_scope_within (body_kind f (own_kind w k (has_own_name us))) own (ins w k us) (ins w k ts) ins_less))))

pub list_less : (w : Place) (us ts : List Node) → ((i : ℕ) → sort (place_in w (Node-F.List us) i).standing ≡ sort (place_in w (Node-F.List ts) i).standing) → AllLess (place_in w (Node-F.List ts)) no_body no_own us ts → Less w (Many us) (Many ts)
list_less w us ts e l f own =
    subst (λ m. Within m (M w (Many ts) f own)) (sym (out_is w (Many us) (Node-F.List us) f own (outs-List us)))
    (subst (Within (items_met (each_in M (place_in w (Node-F.List us)) us))) (sym (out_is w (Many ts) (Node-F.List ts) f own (outs-List ts)))
    (items_less (place_in w (Node-F.List us)) (place_in w (Node-F.List ts)) us ts e l))
