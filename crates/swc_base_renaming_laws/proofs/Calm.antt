-- Where the children of a node read no more than those of another, the node reads no more.
use Rattle.std.proofs.Common.{◌≡◌, ℕ, zero, suc, Bool, true, false, IsTrue, ◌⊎◌, inl, inr, Option, Some, None, List, [], ◌∷◌, ◌++◌, map, refl, sym, ap, ◌∙◌, subst}
use Rattle.std.specs.Prelude.{get_or}
use Rattle.std.specs.List.{slice_get}
use Rattle.swc_tree_marks.specs.declared.ident.Ident.{Ident}
use Rattle.swc_tree_marks.specs.declared.span.Span.{Span as Range}
use Rattle.swc_tree_node.specs.declared.fields.expressions.call_expr.TheConstants as call_expr
use Rattle.swc_tree_node.specs.declared.fields.expressions.paren_expr.TheConstants as paren_expr
use Rattle.swc_tree_node.specs.declared.fields.expressions.seq_expr.TheConstants as seq_expr
use Rattle.swc_tree_node.specs.declared.kind.Kind.{Kind}
use Rattle.swc_tree_node.specs.declared.kind.Kind.TheVariants as kind
use Rattle.swc_tree_node.specs.declared.node.Node.{Node, Absent, Span, Text, List as Many, Identifier, Tree, fold_out-Node, map-Node, out-Node}
use Rattle.swc_tree_node.specs.declared.node.Node.TheOpen.{Node-F}
use Rattle.swc_tree_node.specs.declared.node.Node.TheVariants.{outs-Absent, outs-Identifier, outs-List, outs-Span, outs-Text, outs-Tree}
use Rattle.swc_tree_scoping.specs.Places.{children_in, given}
use Rattle.swc_tree_grammar.specs.Shapes.{items_in, items_of}
use Rattle.swc_base_rename_units.specs.Eval.{AnyHasEval, HasEval, eval_step, is_eval, reads_names}
use Rattle.swc_base_rename_units.proofs.Readers.{reads_in, reads_out, some_same}

-- one of some trees reads
abbrev pub SomeRead : List Node → Type 0
SomeRead [] = ⊥
SomeRead (t ∷ ts) = HasEval t ⊎ SomeRead ts

some_of : (ts : List Node) (i : ℕ) (c : Node) → slice_get ts i ≡ Some c → HasEval c → SomeRead ts
some_of [] i c e h = absurd (cc)
some_of (t ∷ ts) zero c e h = inl (subst HasEval (sym (some_same e)) h)
some_of (t ∷ ts) (suc i) c e h = inr (some_of ts i c e h)

any_of : (ts : List Node) → SomeRead ts → AnyHasEval ts
any_of [] h = absurd h
any_of (t ∷ ts) (inl h) = (zero, t, refl, h)
any_of (t ∷ ts) (inr h) = let (i, c, e, r) = any_of ts h in (suc i, c, e, r)

pub some_left : (ts us : List Node) → SomeRead ts → SomeRead (ts ++ us)
some_left [] us h = absurd h
some_left (t ∷ ts) us (inl h) = inl h
some_left (t ∷ ts) us (inr h) = inr (some_left ts us h)

pub some_cases : (ts us : List Node) → SomeRead (ts ++ us) → SomeRead ts ⊎ SomeRead us
some_cases [] us h = inr h
some_cases (t ∷ ts) us (inl h) = inl (inl h)
some_cases (t ∷ ts) us (inr h) = by (some_cases ts us h)
  where
    by : SomeRead ts ⊎ SomeRead us → (HasEval t ⊎ SomeRead ts) ⊎ SomeRead us
    by (inl g) = inl (inr g)
    by (inr g) = inr g

-- ---- the name, and what reads, by the layer

pub eval_out : (t : Node) (y : Node-F Node) → out-Node t ≡ y → is_eval t ≡ eval_step (map-Node Node Bool is_eval y)
eval_out t y o = fold_out-Node Bool eval_step t ∙ ap (λ y. eval_step (map-Node Node Bool is_eval y)) o

pub reads_open : (t : Node) (y : Node-F Node) → out-Node t ≡ y → HasEval t → IsTrue (reads_names y) ⊎ SomeRead (children_in y)
reads_open t y o h = by (reads_out t y o h)
  where
    by : IsTrue (reads_names y) ⊎ AnyHasEval (children_in y) → IsTrue (reads_names y) ⊎ SomeRead (children_in y)
    by (inl r) = inl r
    by (inr (i, c, e, r)) = inr (some_of (children_in y) i c e r)

pub reads_below : (t : Node) (y : Node-F Node) → out-Node t ≡ y → SomeRead (children_in y) → HasEval t
reads_below t y o h = reads_in t y o (inr (any_of (children_in y) h))

pub list_reads : (ts : List Node) → HasEval (Many ts) → SomeRead ts
list_reads ts h = by (reads_open (Many ts) (Node-F.List ts) (outs-List ts) h)
  where
    by : IsTrue false ⊎ SomeRead ts → SomeRead ts
    by (inl r) = absurd (cc)
    by (inr r) = r

pub reads_list : (ts : List Node) → SomeRead ts → HasEval (Many ts)
reads_list ts h = reads_below (Many ts) (Node-F.List ts) (outs-List ts) h

pub reads_fields : (k : Kind) (ts : List Node) → SomeRead ts → HasEval (Tree k ts)
reads_fields k ts h = reads_below (Tree k ts) (Node-F.Tree k ts) (outs-Tree k ts) h

-- the items of a list
pub items_read : (t : Node) → SomeRead (items_of t) → HasEval t
items_read t h = by (out-Node t) refl
  where
    by : (y : Node-F Node) → out-Node t ≡ y → HasEval t
    by (Node-F.List ts) o = reads_below t (Node-F.List ts) o (subst (λ y. SomeRead (items_in y)) o h)
    by Node-F.Absent o = absurd (subst (λ y. SomeRead (items_in y)) o h)
    by (Node-F.Flag x) o = absurd (subst (λ y. SomeRead (items_in y)) o h)
    by (Node-F.Word x) o = absurd (subst (λ y. SomeRead (items_in y)) o h)
    by (Node-F.Text x) o = absurd (subst (λ y. SomeRead (items_in y)) o h)
    by (Node-F.Span x) o = absurd (subst (λ y. SomeRead (items_in y)) o h)
    by (Node-F.Identifier k x) o = absurd (subst (λ y. SomeRead (items_in y)) o h)
    by (Node-F.Tree k x) o = absurd (subst (λ y. SomeRead (items_in y)) o h)

-- what stands alone reads nothing
none_reads : (t : Node) (y : Node-F Node) → out-Node t ≡ y → reads_names y ≡ false → children_in y ≡ [] → HasEval t → ⊥
none_reads t y o none alone h = by (reads_open t y o h)
  where
    by : IsTrue (reads_names y) ⊎ SomeRead (children_in y) → ⊥
    by (inl r) = let z : true ≡ false = sym r ∙ none in absurd (cc)
    by (inr r) = subst SomeRead alone r

pub absent_reads : HasEval Absent → ⊥
absent_reads h = none_reads Absent Node-F.Absent outs-Absent refl refl h

pub span_reads : (r : Range) → HasEval (Span r) → ⊥
span_reads r h = none_reads (Span r) (Node-F.Span r) (outs-Span r) refl refl h

pub text_reads : (x : List ℕ) → HasEval (Text x) → ⊥
text_reads x h = none_reads (Text x) (Node-F.Text x) (outs-Text x) refl refl h

pub identifier_reads : (k : Kind) (i : Ident) → HasEval (Identifier k i) → ⊥
identifier_reads k i h = none_reads (Identifier k i) (Node-F.Identifier k i) (outs-Identifier k i) refl refl h

-- ---- calm

-- the first is the name `eval` only if the second is, and reads names only if the second does
pub record Calm (u t : Node) : Type 0 where
  pub named : is_eval u ≡ true → is_eval t ≡ true
  pub reads : HasEval u → HasEval t

pub calm_is : (u t : Node) → u ≡ t → Calm u t
calm_is u t e = record { named = λ h. ap is_eval (sym e) ∙ h; reads = subst HasEval e }

pub calm_through : (u v t : Node) → Calm u v → Calm v t → Calm u t
calm_through u v t a b = record { named = λ h. b.named (a.named h); reads = λ h. b.reads (a.reads h) }

-- each
abbrev pub AllCalm : List Node → List Node → Type 0
AllCalm [] [] = Unit {0}
AllCalm [] (t ∷ ts) = ⊥
AllCalm (u ∷ us) [] = ⊥
AllCalm (u ∷ us) (t ∷ ts) = Calm u t × AllCalm us ts

pub some_calm : (us ts : List Node) → AllCalm us ts → SomeRead us → SomeRead ts
some_calm [] [] l h = h
some_calm [] (t ∷ ts) l h = absurd l
some_calm (u ∷ us) [] l h = absurd l
some_calm (u ∷ us) (t ∷ ts) l (inl h) = inl (l.0.reads h)
some_calm (u ∷ us) (t ∷ ts) l (inr h) = inr (some_calm us ts l.1 h)

called : (us ts : List Node) (i : ℕ) → AllCalm us ts → given (slice_get us i) false is_eval ≡ true → given (slice_get ts i) false is_eval ≡ true
called [] [] i l h = h
called [] (t ∷ ts) i l h = absurd l
called (u ∷ us) [] i l h = absurd l
called (u ∷ us) (t ∷ ts) zero l h = l.0.named h
called (u ∷ us) (t ∷ ts) (suc i) l h = called us ts i l.1 h

got : (us ts : List Node) (i : ℕ) → AllCalm us ts → get_or (map is_eval us) i false ≡ true → get_or (map is_eval ts) i false ≡ true
got [] [] i l h = h
got [] (t ∷ ts) i l h = absurd l
got (u ∷ us) [] i l h = absurd l
got (u ∷ us) (t ∷ ts) zero l h = l.0.named h
got (u ∷ us) (t ∷ ts) (suc i) l h = got us ts i l.1 h

fields_named : (k : Kind) (us ts : List Node) → AllCalm us ts → eval_step (Node-F.Tree k (map is_eval us)) ≡ true → eval_step (Node-F.Tree k (map is_eval ts)) ≡ true
fields_named kind.ParenExpr us ts l h = got us ts paren_expr.EXPR l h
fields_named kind.SeqExpr us ts l h = got us ts seq_expr.EXPRS l h
fields_named _ us ts l h = h

fields_read : (k : Kind) (us ts : List Node) → AllCalm us ts → IsTrue (reads_names (Node-F.Tree k us)) → IsTrue (reads_names (Node-F.Tree k ts))
fields_read kind.CallExpr us ts l h = called us ts call_expr.CALLEE l h
fields_read kind.WithStmt us ts l h = h
fields_read _ us ts l h = h

pub calm_tree : (k : Kind) (us ts : List Node) → AllCalm us ts → Calm (Tree k us) (Tree k ts)
calm_tree k us ts l = record {
  named = λ h. eval_out (Tree k ts) (Node-F.Tree k ts) (outs-Tree k ts) ∙ fields_named k us ts l (sym (eval_out (Tree k us) (Node-F.Tree k us) (outs-Tree k us)) ∙ h);
  reads = λ h. by (reads_open (Tree k us) (Node-F.Tree k us) (outs-Tree k us) h);
}
  where
    by : IsTrue (reads_names (Node-F.Tree k us)) ⊎ SomeRead us → HasEval (Tree k ts)
    by (inl r) = reads_in (Tree k ts) (Node-F.Tree k ts) (outs-Tree k ts) (inl (fields_read k us ts l r))
    by (inr r) = reads_fields k ts (some_calm us ts l r)

items_named : (us ts : List Node) → AllCalm us ts → eval_step (Node-F.List (map is_eval us)) ≡ true → eval_step (Node-F.List (map is_eval ts)) ≡ true
items_named [] [] l h = h
items_named [] (t ∷ ts) l h = absurd l
items_named (u ∷ us) [] l h = absurd l
items_named (u ∷ []) (t ∷ []) l h = l.0.named h
items_named (u ∷ []) (t ∷ s ∷ ts) l h = absurd l.1
items_named (u ∷ v ∷ us) (t ∷ []) l h = absurd l.1
items_named (u ∷ v ∷ us) (t ∷ s ∷ ts) l h = h

pub calm_list : (us ts : List Node) → AllCalm us ts → Calm (Many us) (Many ts)
calm_list us ts l = record {
  named = λ h. eval_out (Many ts) (Node-F.List ts) (outs-List ts) ∙ items_named us ts l (sym (eval_out (Many us) (Node-F.List us) (outs-List us)) ∙ h);
  reads = λ h. reads_list ts (some_calm us ts l (list_reads us h));
}

-- a node of a kind that is not the name and does not read itself
abbrev pub is_plain : Kind → Bool
is_plain kind.ParenExpr = false
is_plain kind.SeqExpr = false
is_plain kind.CallExpr = false
is_plain kind.WithStmt = false
is_plain _ = true

plain_named : (k : Kind) (bs : List Bool) → is_plain k ≡ true → eval_step (Node-F.Tree k bs) ≡ false
plain_named kind.ParenExpr bs h = absurd (cc)
plain_named kind.SeqExpr bs h = absurd (cc)
plain_named _ bs h = refl

plain_reads : (k : Kind) (ts : List Node) → is_plain k ≡ true → reads_names (Node-F.Tree k ts) ≡ false
plain_reads kind.CallExpr ts h = absurd (cc)
plain_reads kind.WithStmt ts h = absurd (cc)
plain_reads _ ts h = refl

pub plain_open : (k : Kind) (ts : List Node) → is_plain k ≡ true → HasEval (Tree k ts) → SomeRead ts
plain_open k ts p h = by (reads_open (Tree k ts) (Node-F.Tree k ts) (outs-Tree k ts) h)
  where
    by : IsTrue (reads_names (Node-F.Tree k ts)) ⊎ SomeRead ts → SomeRead ts
    by (inl r) = let z : true ≡ false = sym r ∙ plain_reads k ts p in absurd (cc)
    by (inr r) = r

pub plain_calm : (k : Kind) (us : List Node) (t : Node) → is_plain k ≡ true → (SomeRead us → HasEval t) → Calm (Tree k us) t
plain_calm k us t p f = record {
  named = λ h. (let z : true ≡ false = sym h ∙ eval_out (Tree k us) (Node-F.Tree k us) (outs-Tree k us) ∙ plain_named k (map is_eval us) p in absurd (cc));
  reads = λ h. f (plain_open k us p h);
}

-- a pair
pub pair_calm : (s u t : Node) → (HasEval s → ⊥) → Calm u t → Calm (Tree kind.ParenExpr (s ∷ u ∷ [])) t
pair_calm s u t quiet c = record {
  named = λ h. c.named (sym (eval_out (Tree kind.ParenExpr (s ∷ u ∷ [])) (Node-F.Tree kind.ParenExpr (s ∷ u ∷ [])) (outs-Tree kind.ParenExpr (s ∷ u ∷ []))) ∙ h);
  reads = λ h. by (reads_open (Tree kind.ParenExpr (s ∷ u ∷ [])) (Node-F.Tree kind.ParenExpr (s ∷ u ∷ [])) (outs-Tree kind.ParenExpr (s ∷ u ∷ [])) h);
}
  where
    by : IsTrue false ⊎ SomeRead (s ∷ u ∷ []) → HasEval t
    by (inl r) = absurd (cc)
    by (inr (inl r)) = absurd (quiet r)
    by (inr (inr (inl r))) = c.reads r
    by (inr (inr (inr r))) = absurd r
