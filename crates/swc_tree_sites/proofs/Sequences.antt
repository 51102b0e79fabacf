-- A sequence that is settled has the names of its items, but for those in idle ones.
use Rattle.std.proofs.Common.{◌≡◌, Bool, true, false, not, ◌&&◌, List, [], ◌∷◌, ◌++◌, refl, sym, ap, ◌∙◌, subst, cond}
use Rattle.std.specs.List.{flat_map, filter, list_all}
use Rattle.std.specs.Prelude.{take}
use Rattle.swc_tree_node.specs.declared.kind.Kind.{Kind}
use Rattle.swc_tree_node.specs.declared.kind.Kind.TheVariants as kind
use Rattle.swc_tree_node.specs.declared.node.Node.{Node, List as Many, Tree, out-Node}
use Rattle.swc_tree_node.specs.declared.node.Node.TheOpen.{Node-F}
use Rattle.swc_tree_scoping.proofs.Remarked.{tree_is}
use Rattle.swc_tree_grammar.specs.Stripped.{busy, effects, end, front, is_idle, parts, parts_in, sequence, settled}
use Rattle.swc_tree_grammar.specs.Shapes.{Seq, items_of}
use Rattle.swc_tree_sites.specs.Sites.{Sites, both, nothing}
use Rattle.swc_tree_sites.proofs.Kept.{sub_more, sub_refl, sub_trans, E, IsQuiet, S, all, all_append, both_nothing, fewer_both, fewer_refl, of_list, of_seq}
use Rattle.swc_tree_sites.specs.Smaller.{Fewer, Sub}

abbrev pub EachOf : (Node → Type 0) → List Node → Type 0
EachOf P [] = Unit {0}
EachOf P (t ∷ ts) = P t × EachOf P ts

module _ (n : Bool) where
  -- a sequence has a span and a list
  abbrev pub IsFormed : Node → Type 0
  IsFormed t = (span exprs : Node) → out-Node t ≡ Seq span exprs → IsQuiet n span × (Many (items_of exprs) ≡ exprs)

  one : (t : Node) → S (E n) t ≡ all (E n) (t ∷ [])
  one t = sym (both_nothing (S (E n) t))

  parts_at : (t : Node) → IsFormed t → (k : Kind) (ts : List Node) → out-Node t ≡ Node-F.Tree k ts → S (E n) t ≡ all (E n) (parts_in t (Node-F.Tree k ts))
  parts_at t f kind.SeqExpr (span ∷ exprs ∷ []) o =
      let (quiet, listed) = f span exprs o in
      ap (S (E n)) (tree_is t kind.SeqExpr (span ∷ exprs ∷ []) o) ∙ of_seq n span exprs quiet ∙ ap (S (E n)) (sym listed) ∙ of_list (E n) (items_of exprs) refl
  parts_at t f kind.SeqExpr [] o = one t
  parts_at t f kind.SeqExpr (a ∷ []) o = one t
  parts_at t f kind.SeqExpr (a ∷ b ∷ c ∷ ts) o = one t
  parts_at t f _ ts o = one t

  parts_same : (t : Node) → IsFormed t → (y : Node-F Node) → out-Node t ≡ y → S (E n) t ≡ all (E n) (parts_in t y)
  parts_same t f (Node-F.Tree k ts) o = parts_at t f k ts o
  parts_same t f Node-F.Absent o = one t
  parts_same t f (Node-F.Identifier k i) o = one t
  parts_same t f _ o = one t

  -- what each becomes has its names
  flat_same : (f : Node → List Node) (ts : List Node) → EachOf (λ t. S (E n) t ≡ all (E n) (f t)) ts → all (E n) (flat_map f ts) ≡ all (E n) ts
  flat_same f [] h = refl
  flat_same f (t ∷ ts) h = all_append (E n) (f t) (flat_map f ts) ∙ ap (λ a. both a (all (E n) (flat_map f ts))) (sym h.0) ∙ ap (both (S (E n) t)) (flat_same f ts h.1)

  parts_each : (ts : List Node) → EachOf IsFormed ts → EachOf (λ t. S (E n) t ≡ all (E n) (parts t)) ts
  parts_each [] h = tt
  parts_each (t ∷ ts) h = (parts_same t h.0 (out-Node t) refl, parts_each ts h.1)

  -- an idle item leaves no binding to a scope outside
  abbrev pub LeavesNone : Node → Type 0
  LeavesNone t = is_idle t ≡ true → (S (E n) t).pending ≡ []

  gone : (a b : Sites) → a.pending ≡ [] → Fewer b (both a b)
  gone a b h = record { pending = ap (λ p. p ++ b.pending) (sym h); sites = front_gone a.sites b.sites; sets = front_gone a.sets b.sets }
    where
      front_gone : {X : Type 0} (xs ys : List X) → Sub ys (xs ++ ys)
      front_gone xs ys = sub_more ys xs ys (sub_refl ys)

  fewer_trans_left : (a b c d : Sites) → Fewer a b → Fewer b (both c d) → Fewer a (both c d)
  fewer_trans_left a b c d h g = record { pending = h.pending ∙ g.pending; sites = sub_trans a.sites b.sites (c.sites ++ d.sites) h.sites g.sites; sets = sub_trans a.sets b.sets (c.sets ++ d.sets) h.sets g.sets }

  filtered : (ts : List Node) → EachOf LeavesNone ts → Fewer (all (E n) (filter (λ e. not (is_idle e)) ts)) (all (E n) ts)
  filtered [] h = fewer_refl nothing
  filtered (t ∷ ts) h = next (is_idle t) refl (filtered ts h.1)
    where
      next : (b : Bool) → is_idle t ≡ b → Fewer (all (E n) (filter (λ e. not (is_idle e)) ts)) (all (E n) ts)
          → Fewer (all (E n) (cond (not b) (t ∷ filter (λ e. not (is_idle e)) ts) (filter (λ e. not (is_idle e)) ts))) (both (S (E n) t) (all (E n) ts))
      next true is rest = fewer_trans_left (all (E n) (filter (λ e. not (is_idle e)) ts)) (all (E n) ts) (S (E n) t) (all (E n) ts) rest (gone (S (E n) t) (all (E n) ts) (h.0 is))
      next false is rest = fewer_both (S (E n) t) (S (E n) t) (all (E n) (filter (λ e. not (is_idle e)) ts)) (all (E n) ts) (fewer_refl (S (E n) t)) rest

  -- all idle items but the first go
  none_pending : (ts : List Node) → EachOf LeavesNone ts → list_all is_idle ts ≡ true → (all (E n) ts).pending ≡ []
  none_pending [] h e = refl
  none_pending (t ∷ ts) h e = next (is_idle t) refl e (none_pending ts h.1)
    where
      next : (b : Bool) → is_idle t ≡ b → (b && list_all is_idle ts) ≡ true → (list_all is_idle ts ≡ true → (all (E n) ts).pending ≡ []) → (S (E n) t).pending ++ (all (E n) ts).pending ≡ []
      next true is g rest = ap (λ p. p ++ (all (E n) ts).pending) (h.0 is) ∙ rest g
      next false is g rest = absurd (cc)

  first_alone : (ts : List Node) → EachOf LeavesNone ts → list_all is_idle ts ≡ true → Fewer (all (E n) (take 1 ts)) (all (E n) ts)
  first_alone [] h e = fewer_refl nothing
  first_alone (t ∷ ts) h e = fewer_both (S (E n) t) (S (E n) t) nothing (all (E n) ts) (fewer_refl (S (E n) t)) (record { pending = sym (none_pending ts h.1 (rest (is_idle t) e)); sites = tt; sets = tt })
    where
      rest : (b : Bool) → (b && list_all is_idle ts) ≡ true → list_all is_idle ts ≡ true
      rest true g = g
      rest false g = absurd (cc)

  busy_fewer : (ts : List Node) → EachOf LeavesNone ts → Fewer (all (E n) (busy ts)) (all (E n) ts)
  busy_fewer ts h = next (list_all is_idle ts) refl
    where
      next : (b : Bool) → list_all is_idle ts ≡ b → Fewer (all (E n) (cond b (take 1 ts) (filter (λ e. not (is_idle e)) ts))) (all (E n) ts)
      next true e = first_alone ts h e
      next false e = filtered ts h

  front_end : (ts : List Node) → front ts ++ end ts ≡ ts
  front_end [] = refl
  front_end (t ∷ []) = refl
  front_end (t ∷ u ∷ ts) = ap (λ l. t ∷ l) (front_end (u ∷ ts))

  -- what is left of each item where its value is dropped has its names
  abbrev pub DropsAlike : Node → Type 0
  DropsAlike t = S (E n) t ≡ all (E n) (effects t)

  settled_fewer : (ts : List Node) → EachOf DropsAlike (front ts) → EachOf LeavesNone (flat_map effects (front ts)) → Fewer (all (E n) (settled ts)) (all (E n) ts)
  settled_fewer ts d h =
      let fewer = fewer_both (all (E n) (busy (flat_map effects (front ts)))) (all (E n) (front ts)) (all (E n) (end ts)) (all (E n) (end ts))
      (subst (Fewer (all (E n) (busy (flat_map effects (front ts))))) (flat_same effects (front ts) d) (busy_fewer (flat_map effects (front ts)) h)) (fewer_refl (all (E n) (end ts))) in
      subst (λ a. Fewer a (all (E n) ts)) (sym (all_append (E n) (busy (flat_map effects (front ts))) (end ts)))
      (subst (Fewer (both (all (E n) (busy (flat_map effects (front ts)))) (all (E n) (end ts)))) (sym (all_append (E n) (front ts) (end ts)) ∙ ap (all (E n)) (front_end ts)) fewer)

  sequence_same : (span : Node) (ts : List Node) → IsQuiet n span → S (E n) (sequence span ts) ≡ all (E n) ts
  sequence_same span [] q = of_seq n span (Many []) q ∙ of_list (E n) [] refl
  sequence_same span (t ∷ []) q = one t
  sequence_same span (t ∷ u ∷ ts) q = of_seq n span (Many (t ∷ u ∷ ts)) q ∙ of_list (E n) (t ∷ u ∷ ts) refl

  -- a sequence, flattened and settled
  pub sequence_fewer : (span : Node) (ts : List Node) → IsQuiet n span → EachOf IsFormed ts → EachOf DropsAlike (front (flat_map parts ts)) → EachOf LeavesNone (flat_map effects (front (flat_map parts ts)))
      → Fewer (S (E n) (sequence span (settled (flat_map parts ts)))) (S (E n) (Tree kind.SeqExpr (span ∷ Many ts ∷ [])))
  sequence_fewer span ts q f d h =
      subst (λ a. Fewer a (S (E n) (Tree kind.SeqExpr (span ∷ Many ts ∷ [])))) (sym (sequence_same span (settled (flat_map parts ts)) q))
      (subst (Fewer (all (E n) (settled (flat_map parts ts)))) (flat_same parts ts (parts_each ts f) ∙ sym (of_list (E n) ts refl) ∙ sym (of_seq n span (Many ts) q))
      (settled_fewer (flat_map parts ts) d h))
