-- The walk over a whole tree: its scopes and names come in their order, and each name stands in the scopes in whose stretch it
-- has its position.
use Rattle.std.proofs.Common.{◌≡◌, ℕ, Bool, true, false, Option, Some, None, List, [], ◌∷◌, refl, sym, ap, ◌∙◌, subst, arith, append-nil}
use Rattle.std.specs.Prelude.{if◌then◌else◌}
use Rattle.std.specs.List.{slice_get}
use Rattle.std.specs.Option.{option_map}
use Rattle.swc_tree_marks.specs.declared.ident.Ident.{Ident}
use Rattle.swc_tree_node.specs.declared.kind.Kind.{Kind}
use Rattle.swc_tree_node.specs.declared.node.Node.{Node, out-Node}
use Rattle.swc_tree_node.specs.declared.node.Node.TheOpen.{Node-F}
use Rattle.swc_tree_scoping.specs.declared.places.Place.{Place}
use Rattle.swc_tree_scoping.specs.Places.{Path, children_in, has_own_name, opened_as, place_below, program_place}
use Rattle.swc_tree_scoping.specs.BoundNames.{name_in}
use Rattle.swc_tree_scoping.proofs.Under.{by_children}
use Rattle.swc_base_rename_analysis.specs.declared.scopes.ScopeKind.{ScopeKind}
use Rattle.swc_base_rename_analysis.specs.Analysis.{body_kind, has_identifier, key_field}
use Rattle.swc_base_rename_analysis.specs.Preserved.{is_name_or_label}
use Rattle.swc_base_rename_analysis.specs.Walk.{Met, Outside, kind_opened, name_outside, outside_all}
use Rattle.swc_base_rename_analysis_laws.proofs.Good.{IsUnder}
use Rattle.swc_base_rename_analysis_laws.proofs.Added.{Added, added_so, name_added, nothing_added, starts_under}
use Rattle.swc_base_rename_analysis_laws.proofs.Contexts.{unnamed_item}
use Rattle.swc_base_rename_analysis_laws.proofs.Entered.{scope_adds}
use Rattle.swc_base_rename_analysis_laws.proofs.Marked.{Marked, MarkedWalk, below, marked_goes, marked_in, marked_layer, marked_meet, marked_opening, marked_out, marked_walks_at}
use Rattle.swc_base_rename_analysis_laws.proofs.Outsides.{outside_is_name}
use Rattle.swc_base_rename_analysis_laws.proofs.Steps.{marked_at}
use Rattle.swc_base_rename_analysis_laws.proofs.Turns.{keyed_opens, turn_is_number}
use Rattle.swc_base_rename_analysis_laws.proofs.Walks.{Adds, ChildAdds, Standpoint, each_child, fields_add, items_add}

-- an identifier opens no scope
same_scopes : (b : Bool) (m k : Marked) → k.scopes ≡ m.scopes → (if b then k else m).scopes ≡ m.scopes
same_scopes true m k e = e
same_scopes false m k e = refl

name_layer : (w : Place) (y : Node-F Node) (x : Ident) (walks : ℕ → Option MarkedWalk) → name_in y ≡ Some x → (h : Path) (o : Outside) (m : Marked) → (marked_layer w y walks h o m).scopes ≡ m.scopes
name_layer w (Node-F.Identifier k i) x walks e h o m = same_scopes (is_name_or_label w.standing) m _ refl
name_layer w y x walks e h o m = absurd (cc)

name_scopes : (w : Place) (c : Node) (x : Ident) → name_in (out-Node c) ≡ Some x → (h : Path) (o : Outside) (m : Marked) → (marked_in w c h o m).scopes ≡ m.scopes
name_scopes w c x e h o m = ap (λ f. (f h o m).scopes) (marked_at w c) ∙ name_layer w (out-Node c) x _ e h o m

only_names : (t : Node) (h : Path) (w : Place) (n : Node) (k : Kind) (ts : List Node) → out-Node n ≡ Node-F.Tree k ts → (i : ℕ) → name_outside w k (has_identifier ts) ≡ Some i → (o : Outside) (m : Marked)
    → (marked_goes (marked_walks_at (place_below w n) (children_in (out-Node n)) i) (below h i) o m).scopes ≡ m.scopes
only_names t h w n k ts layer i e o m =
    let (c, x, there, named) = outside_is_name w k ts i e in
    ap (λ z. (marked_goes (option_map (marked_in (place_below w n i)) z) (below h i) o m).scopes) (ap (λ y. slice_get (children_in y) i) layer ∙ there)
    ∙ name_scopes (place_below w n i) c x named (below h i) o m

-- a node
module _ (t : Node) (h : Path) (w : Place) (n : Node) (o : Outside) (m : Marked) (at : Standpoint t h w n o) (each : (i : ℕ) → ChildAdds t h n i (marked_walks_at (place_below w n) (children_in (out-Node n)) i)) where
  abbrev walks : ℕ → Option MarkedWalk
  walks = marked_walks_at (place_below w n) (children_in (out-Node n))

  here : IsUnder h h
  here = ([], sym (append-nil h))

  met_or_not : (b : Bool) (x : Met) → Added t (IsUnder h) m (if b then marked_meet (record { path = h; own = false }) x m else m)
  met_or_not true x = name_added t (IsUnder h) (record { place = h; owned = false }) x m here (λ e. absurd (cc))
  met_or_not false x = nothing_added t (IsUnder h) m

  unkeyed : (k : Kind) (ts : List Node) → body_kind o.for_body (kind_opened k (opened_as w k (has_own_name ts))) ≡ None → key_field k ≡ None
  unkeyed k ts none = by (key_field k) refl
    where
      by : (z : Option ℕ) → key_field k ≡ z → z ≡ None
      by None e = refl
      by (Some f) e = absurd (keyed_opens o.for_body w k (has_own_name ts) f e none)

  opening_adds : (k : Kind) (ts : List Node) → out-Node n ≡ Node-F.Tree k ts → (s : Option ScopeKind) → body_kind o.for_body (kind_opened k (opened_as w k (has_own_name ts))) ≡ s → Added t (IsUnder h) m (marked_opening s w k ts walks h o m)
  opening_adds k ts layer None e = added_so (starts_under (λ j. false ≡ false) h) (fields_add t h w n at.there k ts layer walks each None 0 (λ i _. turn_is_number k i (unkeyed k ts e) ∙ omega arith) o m)
  opening_adds k ts layer (Some s) e = scope_adds t h w n at.there k ts layer walks each (only_names t h w n k ts layer) s o m (ap (λ b. body_kind b (kind_opened k (opened_as w k (has_own_name ts)))) (sym at.for_body) ∙ e) at.own_name

  layer_adds : (y : Node-F Node) → out-Node n ≡ y → Added t (IsUnder h) m (marked_layer w y walks h o m)
  layer_adds (Node-F.Identifier k i) layer = met_or_not (is_name_or_label w.standing) _
  layer_adds (Node-F.List ts) layer = items_add t h w n at.there ts layer walks each o m (unnamed_item t h w n ts layer at.there)
  layer_adds (Node-F.Tree k ts) layer = opening_adds k ts layer (body_kind o.for_body (kind_opened k (opened_as w k (has_own_name ts)))) refl
  layer_adds Node-F.Absent layer = nothing_added t (IsUnder h) m
  layer_adds (Node-F.Flag x) layer = nothing_added t (IsUnder h) m
  layer_adds (Node-F.Word x) layer = nothing_added t (IsUnder h) m
  layer_adds (Node-F.Text x) layer = nothing_added t (IsUnder h) m
  layer_adds (Node-F.Span x) layer = nothing_added t (IsUnder h) m

pub walk_adds : (t n : Node) → Adds t n
walk_adds t = by_children (Adds t) (λ n below h w o m at.
    subst (λ f. Added t (IsUnder h) m (f h o m)) (sym (marked_at w n)) (layer_adds t h w n o m at (each_child t h w n at.there below) (out-Node n) refl))

-- the whole tree
no_end : (q : Path) (j : ℕ) → [] ≡ below q j → ⊥
no_end [] j e = absurd (cc)
no_end (k ∷ q) j e = absurd (cc)

pub placement : (t : Node) → Added t (IsUnder []) (record { scopes = []; names = [] }) (marked_out t)
placement t = walk_adds t t [] program_place outside_all (record { scopes = []; names = [] }) (record { there = refl; for_body = refl; own_name = λ x (q, v, f, path, _, _, _). no_end q _ path })
