-- What the first step makes of one node.
use Rattle.std.proofs.Common.{◌≡◌, Bool, true, false, List, [], ◌∷◌, ◌++◌, Option, Some, length, map, slice_set, refl, sym, ap, ◌∙◌, arith}
use Rattle.std.specs.List.{slice_get}
use Rattle.swc_tree_node.specs.declared.kind.Kind.{Kind}
use Rattle.swc_tree_node.specs.declared.kind.Kind.TheVariants as kind
use Rattle.swc_tree_node.specs.declared.kind.Word.{Word as Word'}
use Rattle.swc_tree_node.specs.declared.kind.Word.TheVariants as word
use Rattle.swc_tree_node.specs.declared.node.Node.{Node, Absent, Tree, out-Node}
use Rattle.swc_tree_node.specs.declared.node.Node.TheOpen.{Node-F}
use Rattle.swc_tree_grammar.specs.Levels.{word_of}
use Rattle.swc_tree_grammar.specs.Demands.{left_side, right_side, object}
use Rattle.swc_tree_grammar.specs.Due.{Places, odd_items, paired_in, sequence_statement}
use Rattle.swc_base_fixer_due.specs.declared.row.Ask.TheVariants as ask
use Rattle.swc_base_fixer_due.specs.declared.row.Row.{Row}
use Rattle.swc_base_fixer_due.specs.declared.row.Row.TheVariants as row
use Rattle.swc_base_fixer_demands.specs.Test.{asked, left_test, right_test, object_test}
use Rattle.swc_base_fixer_due.specs.Row.{ask_at, asks, row_for}
use Rattle.swc_base_fixer_due.specs.Settled.{odd_item, odd_list, settled_by}
use Rattle.swc_base_fixer_due.specs.Walk.{each_told, is_statement_in}

asked_left : (op : Option Word') → asked (left_test op) ≡ left_side op
asked_left (Some word.LogicalOr) = refl
asked_left (Some word.NullishCoalescing) = refl
asked_left (Some word.Exp) = refl
asked_left op = refl

asked_right : (op : Option Word') → asked (right_test op) ≡ right_side op
asked_right (Some word.LogicalOr) = refl
asked_right (Some word.LogicalAnd) = refl
asked_right (Some word.NullishCoalescing) = refl
asked_right (Some word.Exp) = refl
asked_right op = refl

asked_object : (b : Bool) → asked (object_test b) ≡ object b
asked_object true = refl
asked_object false = refl

nothing : (p : Places) (ts : List Node) → each_told (settled_by p) (λ i. ask.Nothing) ts ≡ ts
nothing p [] = refl
nothing p (t ∷ ts) = ap (λ us. t ∷ us) (nothing p ts)

pub nothing_asked : (p : Places) (r : Row) (ts : List Node) → r ≡ row.Nothing → each_told (settled_by p) (ask_at r) ts ≡ ts
nothing_asked p r ts h = rw h (nothing p ts)

fields : (p : Places) (b : Bool) (k : Kind) (ts : List Node) → is_statement_in (Node-F.Tree k ts) ≡ false → Tree k (each_told (settled_by p) (ask_at (row_for b (Node-F.Tree k ts))) ts) ≡ paired_in p b (Node-F.Tree k ts)
fields p b kind.ExprStmt (x ∷ y ∷ []) h = absurd (cc)
fields p b kind.SeqExpr (x ∷ y ∷ []) h = refl
fields p b kind.AssignExpr (x ∷ y ∷ z ∷ v ∷ []) h = refl
fields p b kind.CondExpr (x ∷ y ∷ z ∷ v ∷ []) h = refl
fields p b kind.BinExpr (x ∷ y ∷ z ∷ v ∷ []) h = rw (asked_left (word_of y), asked_right (word_of y)) refl
fields p b kind.UnaryExpr (x ∷ y ∷ z ∷ []) h = refl
fields p b kind.AwaitExpr (x ∷ y ∷ []) h = refl
fields p b kind.UpdateExpr (x ∷ y ∷ z ∷ v ∷ []) h = refl
fields p b kind.YieldExpr (x ∷ y ∷ z ∷ []) h = refl
fields p b kind.MemberExpr (x ∷ y ∷ z ∷ []) h = rw (asked_object b) refl
fields p b kind.TaggedTpl (x ∷ y ∷ z ∷ []) h = refl
fields p b kind.CallExpr (x ∷ y ∷ z ∷ []) h = refl
fields p b kind.OptCall (x ∷ y ∷ z ∷ []) h = refl
fields p b kind.NewExpr (x ∷ y ∷ z ∷ []) h = refl
fields p b kind.ExprOrSpread (x ∷ y ∷ []) h = refl
fields p b kind.SpreadElement (x ∷ y ∷ []) h = refl
fields p b kind.KeyValueProp (x ∷ y ∷ []) h = refl
fields p b kind.MethodProp (x ∷ y ∷ []) h = refl
fields p b kind.GetterProp (x ∷ y ∷ z ∷ []) h = refl
fields p b kind.SetterProp (x ∷ y ∷ z ∷ v ∷ []) h = refl
fields p b kind.Constructor (x ∷ y ∷ z ∷ v ∷ []) h = refl
fields p b kind.ClassMethod (x ∷ y ∷ z ∷ v ∷ w ∷ []) h = refl
fields p b kind.ClassProp (x ∷ y ∷ z ∷ v ∷ []) h = refl
fields p b kind.PrivateProp (x ∷ y ∷ z ∷ v ∷ []) h = refl
fields p b kind.ArrowExpr (x ∷ y ∷ z ∷ v ∷ []) h = refl
fields p b kind.Class (x ∷ y ∷ z ∷ []) h = refl
fields p b kind.VarDeclarator (x ∷ y ∷ z ∷ []) h = refl
fields p b kind.AssignPat (x ∷ y ∷ z ∷ []) h = refl
fields p b kind.AssignPatProp (x ∷ y ∷ z ∷ []) h = refl
fields p b kind.KeyValuePatProp (x ∷ y ∷ []) h = refl
fields p b kind.ExportDefaultExpr (x ∷ y ∷ []) h = refl
fields p b kind.ForOfStmt (x ∷ y ∷ z ∷ v ∷ w ∷ []) h = refl
fields p b k ts h = ap (Tree k) (nothing p ts)

-- said once for the kinds in whose fields something is asked
not_asked : {X : Type 0} → true ≡ false → X
not_asked h = absurd (cc)

nothing_for : (b : Bool) (k : Kind) (ts : List Node) → asks k ≡ false → row_for b (Node-F.Tree k ts) ≡ row.Nothing
nothing_for b kind.SeqExpr ts h = not_asked h
nothing_for b kind.AssignExpr ts h = not_asked h
nothing_for b kind.CondExpr ts h = not_asked h
nothing_for b kind.BinExpr ts h = not_asked h
nothing_for b kind.UnaryExpr ts h = not_asked h
nothing_for b kind.AwaitExpr ts h = not_asked h
nothing_for b kind.UpdateExpr ts h = not_asked h
nothing_for b kind.YieldExpr ts h = not_asked h
nothing_for b kind.MemberExpr ts h = not_asked h
nothing_for b kind.TaggedTpl ts h = not_asked h
nothing_for b kind.CallExpr ts h = not_asked h
nothing_for b kind.OptCall ts h = not_asked h
nothing_for b kind.NewExpr ts h = not_asked h
nothing_for b kind.ExprOrSpread ts h = not_asked h
nothing_for b kind.SpreadElement ts h = not_asked h
nothing_for b kind.KeyValueProp ts h = not_asked h
nothing_for b kind.MethodProp ts h = not_asked h
nothing_for b kind.GetterProp ts h = not_asked h
nothing_for b kind.SetterProp ts h = not_asked h
nothing_for b kind.Constructor ts h = not_asked h
nothing_for b kind.ClassMethod ts h = not_asked h
nothing_for b kind.ClassProp ts h = not_asked h
nothing_for b kind.PrivateProp ts h = not_asked h
nothing_for b kind.ArrowExpr ts h = not_asked h
nothing_for b kind.Class ts h = not_asked h
nothing_for b kind.VarDeclarator ts h = not_asked h
nothing_for b kind.AssignPat ts h = not_asked h
nothing_for b kind.AssignPatProp ts h = not_asked h
nothing_for b kind.KeyValuePatProp ts h = not_asked h
nothing_for b kind.ExportDefaultExpr ts h = not_asked h
nothing_for b kind.ForOfStmt ts h = not_asked h
nothing_for b k ts h = refl

-- the fields of a node that is no statement, each settled by what is asked there
pub fields_settled : (p : Places) (b : Bool) (k : Kind) (ts vs us rs : List Node) (r : Row) → is_statement_in (Node-F.Tree k vs) ≡ false → vs ≡ ts → us ≡ ts → r ≡ row_for b (Node-F.Tree k us)
    → rs ≡ each_told (settled_by p) (ask_at r) ts → Tree k rs ≡ paired_in p b (Node-F.Tree k ts)
fields_settled p b k ts vs us rs r h alike same row done = rw (done, row, same) (fields p b k ts (ap (λ l. is_statement_in (Node-F.Tree k l)) (sym alike) ∙ h))

-- those of a node of a kind in whose fields nothing is
pub unasked : (p : Places) (b : Bool) (k : Kind) (ts vs : List Node) → is_statement_in (Node-F.Tree k vs) ≡ false → vs ≡ ts → asks k ≡ false → Tree k ts ≡ paired_in p b (Node-F.Tree k ts)
unasked p b k ts vs h alike none =
    fields_settled p b k ts vs ts ts (row_for b (Node-F.Tree k ts)) h alike refl refl (sym (nothing_asked p (row_for b (Node-F.Tree k ts)) ts (nothing_for b k ts none)))

odd_but_last : (p : Places) (es : List Node) (last : Node) → map (odd_item p) es ++ last ∷ [] ≡ odd_items p (es ++ last ∷ [])
odd_but_last p [] last = refl
odd_but_last p (e ∷ []) last = refl
odd_but_last p (e ∷ d ∷ es) last = ap (λ ts. odd_item p e ∷ ts) (odd_but_last p (d ∷ es) last)

-- the items before the last, with their pairs, and the last
pub odd_by_last : (p : Places) (es before kept all : List Node) (last : Node) → es ≡ before ++ last ∷ [] → kept ≡ map (odd_item p) before → all ≡ kept ++ last ∷ [] → all ≡ odd_items p es
odd_by_last p es before kept all last a b c = rw (c, b, a) (odd_but_last p before last)

second_of : (fields out back : List Node) (old new : Node) → length fields ≡ 2 → slice_get fields 1 ≡ Some old → out ≡ slice_set fields 1 Absent → back ≡ slice_set out 1 new
    → (a : Node) × (fields ≡ a ∷ old ∷ []) × (back ≡ a ∷ new ∷ [])
second_of (x ∷ y ∷ []) out back old new h g o b = let same : y ≡ old = cc in (x, ap (λ u. x ∷ u ∷ []) same, rw (b, o) refl)
second_of [] out back old new h g o b = absurd (omega arith)
second_of (x ∷ []) out back old new h g o b = absurd (omega arith)
second_of (x ∷ y ∷ z ∷ fs) out back old new h g o b = absurd (omega arith)

-- a sequence whose items were taken out, and put back with their pairs
pub sequence_odd : (p : Places) (ts out back : List Node) (old new : Node) → length ts ≡ 2 → slice_get ts 1 ≡ Some old → out ≡ slice_set ts 1 Absent → new ≡ odd_list p old → back ≡ slice_set out 1 new
    → Tree kind.SeqExpr back ≡ sequence_statement p (Tree kind.SeqExpr ts) (Node-F.Tree kind.SeqExpr ts)
sequence_odd p ts out back old new h g o n b =
    let q = second_of ts out back old new h g o b in
    ap (Tree kind.SeqExpr) (q.2 ∙ ap (λ u. q.0 ∷ u ∷ []) n) ∙ sym (ap (λ us. sequence_statement p (Tree kind.SeqExpr us) (Node-F.Tree kind.SeqExpr us)) q.1)

statement_is : (k : Kind) (ts : List Node) → is_statement_in (Node-F.Tree k ts) ≡ true → (k ≡ kind.ExprStmt) × (length ts ≡ 2)
statement_is kind.ExprStmt (x ∷ y ∷ []) h = (refl, refl)
statement_is k ts h = absurd (cc)

pub statement_long : (k : Kind) (ts : List Node) → is_statement_in (Node-F.Tree k ts) ≡ true → length ts ≡ 2
statement_long k ts h = (statement_is k ts h).1

-- a statement whose expression was taken out, and put back
pub statement_odd : (p : Places) (b : Bool) (k : Kind) (ts out back : List Node) (old new : Node) → is_statement_in (Node-F.Tree k ts) ≡ true → slice_get ts 1 ≡ Some old → out ≡ slice_set ts 1 Absent → new ≡ sequence_statement p old (out-Node old) → back ≡ slice_set out 1 new
    → Tree k back ≡ paired_in p b (Node-F.Tree k ts)
statement_odd p b k ts out back old new h g o n put =
    let s = statement_is k ts h in
    let q = second_of ts out back old new s.1 g o put in
    ap (λ k. Tree k back) s.0 ∙ ap (Tree kind.ExprStmt) (q.2 ∙ ap (λ u. q.0 ∷ u ∷ []) n) ∙ sym (ap (λ us. paired_in p b (Node-F.Tree kind.ExprStmt us)) q.1) ∙ sym (ap (λ k. paired_in p b (Node-F.Tree k ts)) s.0)
