-- What reads names, in a program without contexts.
use Rattle.std.proofs.Common.{◌≡◌, ℕ, suc, Bool, false, Option, Some, None, List, [], ◌∷◌, map, refl, sym, ap, ◌∙◌}
use Rattle.std.specs.Prelude.{option_map}
use Rattle.std.specs.List.{slice_get}
use Rattle.std.proofs.lemmas.Option.{slice_get-map}
use Rattle.swc_tree_marks.specs.declared.ident.Ident.{Ident}
use Rattle.swc_tree_node.specs.declared.fields.expressions.call_expr.TheConstants as call_expr
use Rattle.swc_tree_node.specs.declared.kind.Kind.{Kind}
use Rattle.swc_tree_node.specs.declared.kind.Kind.TheVariants as kind
use Rattle.swc_tree_node.specs.declared.node.Node.{Node, fold_out-Node, map-Node, out-Node}
use Rattle.swc_tree_node.specs.declared.node.Node.TheOpen.{Node-F}
use Rattle.swc_tree_scoping.specs.Places.{Path, child, children_in, given}
use Rattle.swc_tree_scoping.specs.Readings.{with_identifiers}
use Rattle.swc_tree_scoping.proofs.Under.{by_children}
use Rattle.swc_tree_renaming.proofs.Blank.{child_same, layer, out_is}
use Rattle.swc_base_rename_units.specs.Eval.{eval_step, is_eval, node_at, reads_names}
use Rattle.swc_base_renaming_laws.specs.Source.{ReadersNeedNoContexts}

abbrev clear : Ident → Ident
clear i = record i { ctxt = [] }

abbrev B : Node → Node
B = with_identifiers clear

-- a node that is found at a path
found_below : (p : Path) (t n : Node) (i : ℕ) (o : Option Node) → child t i ≡ o → ((c : Node) → node_at c p ≡ Some n → node_at (B c) p ≡ Some (B n)) → node_at t (i ∷ p) ≡ Some n → node_at (B t) (i ∷ p) ≡ Some (B n)
found_below p t n i None e deeper h = absurd (cc (sym (ap (λ o. given o None (λ c. node_at c p)) e) ∙ h))
found_below p t n i (Some c) e deeper h =
    ap (λ o. given o None (λ c. node_at c p)) (child_same clear t i ∙ ap (option_map B) e) ∙ deeper c (sym (ap (λ o. given o None (λ c. node_at c p)) e) ∙ h)

node_found : (p : Path) (t n : Node) → node_at t p ≡ Some n → node_at (B t) p ≡ Some (B n)
node_found [] t n h = let same : t ≡ n = cc in ap (λ t. Some (B t)) same
node_found (i ∷ p) t n h = found_below p t n i (child t i) refl (λ c. node_found p c n) h

-- the identifier `eval`
abbrev Named : Node → Type 0
Named t = is_eval (B t) ≡ is_eval t

layered : (t : Node) → is_eval t ≡ eval_step (map-Node Node Bool is_eval (out-Node t))
layered t = fold_out-Node Bool eval_step t

each_named : (ts : List Node) → ((i : ℕ) (c : Node) → slice_get ts i ≡ Some c → Named c) → map is_eval (map B ts) ≡ map is_eval ts
each_named [] h = refl
each_named (t ∷ ts) h = ap (λ b. b ∷ map is_eval (map B ts)) (h 0 t refl) ∙ ap (λ l. is_eval t ∷ l) (each_named ts (λ i. h (suc i)))

step_named : (t : Node) (y : Node-F Node) → out-Node t ≡ y → ((i : ℕ) (c : Node) → child t i ≡ Some c → Named c) → eval_step (map-Node Node Bool is_eval (layer clear y)) ≡ eval_step (map-Node Node Bool is_eval y)
step_named t Node-F.Absent e below = refl
step_named t (Node-F.Flag x) e below = refl
step_named t (Node-F.Word x) e below = refl
step_named t (Node-F.Text x) e below = refl
step_named t (Node-F.Span x) e below = refl
step_named t (Node-F.Identifier kind.Ident i) e below = refl
step_named t (Node-F.Identifier kind.BindingIdent i) e below = refl
step_named t (Node-F.Identifier k i) e below = refl
step_named t (Node-F.List ts) e below = ap (λ l. eval_step (Node-F.List l)) (each_named ts (λ i c h. below i c (ap (λ y. slice_get (children_in y) i) e ∙ h)))
step_named t (Node-F.Tree k ts) e below = ap (λ l. eval_step (Node-F.Tree k l)) (each_named ts (λ i c h. below i c (ap (λ y. slice_get (children_in y) i) e ∙ h)))

named : (t : Node) → Named t
named t = by_children Named (λ t below.
    layered (B t) ∙ ap (λ y. eval_step (map-Node Node Bool is_eval y)) (out_is clear t) ∙ step_named t (out-Node t) refl below ∙ sym (layered t)) t

-- a call of it, or `with`
called : (o : Option Node) → given (option_map B o) false is_eval ≡ given o false is_eval
called None = refl
called (Some c) = named c

reads_in : (k : Kind) (ts : List Node) → reads_names (Node-F.Tree k (map B ts)) ≡ reads_names (Node-F.Tree k ts)
reads_in kind.CallExpr ts = ap (λ o. given o false is_eval) (slice_get-map B ts call_expr.CALLEE) ∙ called (slice_get ts call_expr.CALLEE)
reads_in kind.WithStmt ts = refl
reads_in _ ts = refl

reads : (y : Node-F Node) → reads_names (layer clear y) ≡ reads_names y
reads (Node-F.Tree k ts) = reads_in k ts
reads (Node-F.Identifier k i) = refl
reads Node-F.Absent = refl
reads (Node-F.Flag x) = refl
reads (Node-F.Word x) = refl
reads (Node-F.Text x) = refl
reads (Node-F.Span x) = refl
reads (Node-F.List ts) = refl

pub readers_need_no_contexts : ReadersNeedNoContexts
readers_need_no_contexts t (p, n, found, is) = (p, B n, node_found p t n found, ap reads_names (out_is clear n) ∙ reads (out-Node n) ∙ is)
