-- Each pair has a reason after the second step.
use Rattle.std.proofs.Common.{◌≡◌, Bool, true, false, ◌&&◌, ◌||◌, List, [], ◌∷◌, map, refl, sym, ap, subst, ◌∙◌}
use Rattle.std.specs.Prelude.{Option}
use Rattle.swc_tree_node.specs.declared.kind.Kind.{Kind}
use Rattle.swc_tree_node.specs.declared.kind.Kind.TheVariants as kind
use Rattle.swc_tree_node.specs.declared.kind.Word.{Word as Word'}
use Rattle.swc_tree_node.specs.declared.node.Node.{Node, out-Node, roll-Node}
use Rattle.swc_tree_node.specs.declared.node.Node.TheOpen.{Node-F}
use Rattle.swc_tree_node.specs.declared.node.Node.TheVariants.{rolls-Tree}
use Rattle.swc_tree_grammar.specs.Kinds.{has_kind, is_paren, is_object, is_class, is_function, is_literal, is_yield, is_arrow, is_await, is_destructuring, is_object_pattern}
use Rattle.swc_tree_grammar.specs.Levels.{word_of, is_absent}
use Rattle.swc_tree_grammar.specs.Due.{Places}
use Rattle.swc_tree_grammar.specs.Readers.{none as unnamed, named_in, is_odd_callee, is_odd_object, is_odd_left, is_odd_item, is_instance, is_equality, odd_unary, unary_word_in, assigns_to}
use Rattle.swc_tree_grammar_laws.proofs.Heads.{heading}
use Rattle.swc_base_fixer_needs.specs.Sites.{Opening, Site, Spot, clue, spots}
use Rattle.swc_base_fixer_needs.specs.Sites.Spot.{Hidden, At}
use Rattle.swc_base_fixer_needs.specs.Reasons.{Label, nothing, labels, field_labels, item_labels, names_content, Reason, is_of_level, Due, AllDue}
use Rattle.swc_base_fixer_needs.specs.Reasons.Label.{Names, OfStatement, OfItems}
use Rattle.swc_base_fixer_needs.specs.Reasons.Reason.{for_reader, unmet, leads_call, in_head, async_before_of, begins_so}
use Rattle.swc_base_fixer_needs.specs.Reasons.Extent.{Reasoned}
use Rattle.swc_base_fixer_needs.specs.Reasons.Due.{unseen, tree}
use Rattle.swc_base_fixer_needs.specs.Reasons.AllDue.{none, more}
use Rattle.swc_base_fixer_needs.proofs.Views.{View, same_meets}
use Rattle.swc_base_fixer_needs.proofs.LevelFields.{same_tests}
use Rattle.swc_base_fixer_needs.proofs.LevelTrees.{is_usual, usual_labels}
use Rattle.swc_base_fixer_needs.proofs.HeadViews.{headed, freed, heading_clue}
use Rattle.swc_base_fixer_needs.proofs.HeadRows.{move, Family, Family', Ready, Readys, Rows}
use Rattle.swc_base_fixer_needs.proofs.HeadRows as row
use Rattle.swc_base_fixer_needs.proofs.HeadKinds as kinds

-- what the reader's table names goes by what is seen from above
abbrev pub StableTest : (Node → Bool) → Type 0
StableTest f = (t u : Node) → View t u → f t ≡ true → f u ≡ true

abbrev pub Stable : Label → Type 0
Stable (Names f) = StableTest f
Stable _ = Unit {0}

abbrev pub AllStable : List Label → Type 0
AllStable [] = Unit {0}
AllStable (l ∷ ls) = Stable l × AllStable ls

abbrev AllTests : List (Node → Bool) → Type 0
AllTests [] = Unit {0}
AllTests (f ∷ fs) = StableTest f × AllTests fs

pub nothing_stable : StableTest unnamed
nothing_stable t u v h = absurd (cc)

kind_stable : (q : Kind → Bool) → StableTest (has_kind q)
kind_stable q t u v h = v.kinds q ∙ h

assign_stable : (q : Kind → Bool) → StableTest (assigns_to q)
assign_stable q t u v h = v.assigned q ∙ h

yield_stable : (b : Bool) → StableTest (λ e. b && has_kind is_yield e)
yield_stable b t u v h = ap (λ c. b && c) (v.kinds is_yield) ∙ h

odd_left_stable : (op : Option Word') → StableTest (is_odd_left op)
odd_left_stable op t u v h = ap (λ z. odd_unary op z || ((is_instance op || is_equality op) && has_kind is_object u)) v.dropped ∙ ap (λ z. odd_unary op (unary_word_in (out-Node t)) || ((is_instance op || is_equality op) && z)) (v.kinds is_object) ∙ h

odd_item_stable : StableTest is_odd_item
odd_item_stable t u v h = rw (v.kinds is_object, v.kinds is_class, v.assigned is_object_pattern) h

tests_stable : (k : Kind) (ts : List Node) → AllTests (named_in (Node-F.Tree k ts))
tests_stable kind.CallExpr (s ∷ e ∷ a ∷ []) = (nothing_stable, (kind_stable is_odd_callee, (nothing_stable, tt)))
tests_stable kind.OptCall (s ∷ e ∷ a ∷ []) = (nothing_stable, (kind_stable is_odd_callee, (nothing_stable, tt)))
tests_stable kind.MemberExpr (s ∷ e ∷ a ∷ []) = (nothing_stable, (kind_stable is_odd_object, (nothing_stable, tt)))
tests_stable kind.TaggedTpl (s ∷ e ∷ a ∷ []) = (nothing_stable, (kind_stable is_function, (nothing_stable, tt)))
tests_stable kind.NewExpr (s ∷ e ∷ a ∷ []) = (nothing_stable, (kind_stable is_literal, (nothing_stable, tt)))
tests_stable kind.BinExpr (s ∷ o ∷ e ∷ r ∷ []) = (nothing_stable, (nothing_stable, (odd_left_stable (word_of o), (nothing_stable, tt))))
tests_stable kind.ExprOrSpread (s ∷ e ∷ []) = (nothing_stable, (yield_stable (is_absent s), tt))
tests_stable kind.ArrowExpr (s ∷ a ∷ e ∷ f ∷ []) = (nothing_stable, (nothing_stable, (assign_stable is_destructuring, (nothing_stable, tt))))
tests_stable kind.ExportDefaultExpr (s ∷ e ∷ []) = (nothing_stable, (kind_stable is_arrow, tt))
tests_stable kind.ForOfStmt (s ∷ w ∷ l ∷ e ∷ b ∷ []) = (nothing_stable, (nothing_stable, (nothing_stable, (kind_stable is_await, (nothing_stable, tt)))))
tests_stable k ts = tt

fields_stable : (fs : List (Node → Bool)) (ts : List Node) → AllTests fs → AllStable (field_labels fs ts)
fields_stable fs [] s = tt
fields_stable [] (t ∷ ts) s = (nothing_stable, fields_stable [] ts tt)
fields_stable (f ∷ fs) (t ∷ ts) s = (s.0, fields_stable fs ts s.1)

items_stable : (ts : List Node) → AllStable (item_labels ts)
items_stable [] = tt
items_stable (t ∷ []) = (nothing_stable, tt)
items_stable (t ∷ u ∷ ts) = (odd_item_stable, items_stable (u ∷ ts))

pub labels_stable : (l : Label) (k : Kind) (ts : List Node) → AllStable (labels l (Node-F.Tree k ts))
labels_stable l kind.ExprStmt (s ∷ e ∷ []) = (nothing_stable, (tt, tt))
labels_stable OfStatement kind.SeqExpr (s ∷ e ∷ []) = (nothing_stable, (tt, tt))
labels_stable (Names f) kind.SeqExpr [] = fields_stable [] [] tt
labels_stable (Names f) kind.SeqExpr (s ∷ []) = fields_stable [] (s ∷ []) tt
labels_stable (Names f) kind.SeqExpr (s ∷ e ∷ []) = fields_stable [] (s ∷ e ∷ []) tt
labels_stable (Names f) kind.SeqExpr (s ∷ e ∷ u ∷ ts) = fields_stable [] (s ∷ e ∷ u ∷ ts) tt
labels_stable OfItems kind.SeqExpr [] = fields_stable [] [] tt
labels_stable OfItems kind.SeqExpr (s ∷ []) = fields_stable [] (s ∷ []) tt
labels_stable OfItems kind.SeqExpr (s ∷ e ∷ []) = fields_stable [] (s ∷ e ∷ []) tt
labels_stable OfItems kind.SeqExpr (s ∷ e ∷ u ∷ ts) = fields_stable [] (s ∷ e ∷ u ∷ ts) tt
labels_stable OfStatement kind.SeqExpr [] = fields_stable [] [] tt
labels_stable OfStatement kind.SeqExpr (s ∷ []) = fields_stable [] (s ∷ []) tt
labels_stable OfStatement kind.SeqExpr (s ∷ e ∷ u ∷ ts) = fields_stable [] (s ∷ e ∷ u ∷ ts) tt
labels_stable l k ts = fields_stable (named_in (Node-F.Tree k ts)) ts (tests_stable k ts)

pub list_stable : (l : Label) (ts : List Node) → AllStable (labels l (Node-F.List ts))
list_stable OfItems ts = items_stable ts
list_stable (Names f) ts = fields_stable [] ts tt
list_stable OfStatement ts = fields_stable [] ts tt

pub named_still : (l : Label) (t u : Node) → Stable l → View t u → names_content l t ≡ true → names_content l u ≡ true
named_still (Names f) t u s v h = s t u v h
named_still OfStatement t u s v h = absurd (cc)
named_still OfItems t u s v h = absurd (cc)

pub kept : {l : Label} {a : Site} {e : Node} (r : Reason l a e) → is_of_level r ≡ true → Stable l → (w x : Bool) (o : Opening) (y : Bool) (u : Node) → View e u → Reason l (move a w x o y) u
kept {l = l} {e = e} (for_reader n) h s w x o y u v = for_reader (named_still l e u s v n)
kept {a = a} (unmet m) h s w x o y u v = unmet (same_meets v a.demand ∙ m)
kept (leads_call c d) h s w x o y u v = leads_call c (v.called ∙ d)
kept (in_head c d) h s w x o y u v = absurd (cc)
kept (async_before_of c d) h s w x o y u v = absurd (cc)
kept (begins_so c d) h s w x o y u v = absurd (cc)

-- fields in which `in` may stand
free_all : (p : Places) (ls : List Label) (ss : List Spot) (ts : List Node) → Readys p ls ss ts → AllDue Reasoned ls ss (freed p ts)
free_all p [] [] [] f = none
free_all p [] [] (t ∷ ts) f = absurd f
free_all p [] (s ∷ ss) ts f = absurd f
free_all p (l ∷ ls) [] ts f = absurd f
free_all p (l ∷ ls) (s ∷ ss) [] f = absurd f
free_all p (l ∷ ls) (Hidden ∷ ss) (t ∷ ts) f = more (unseen (heading p t true) (λ z. absurd (cc))) (free_all p ls ss ts f.1)
free_all p (l ∷ ls) (At a ∷ ss) (t ∷ ts) f = more (f.0 a.with_in a.before_of a.opening a.optional true (λ z. absurd (cc))) (free_all p ls ss ts f.1)

freed_clues : (p : Places) (ts : List Node) → map clue (freed p ts) ≡ map clue ts
freed_clues p [] = refl
freed_clues p (t ∷ ts) = rw (heading_clue p t true, freed_clues p ts) refl

pub same_fields : (fs : List (Node → Bool)) (ts us : List Node) → map clue us ≡ map clue ts → field_labels fs us ≡ field_labels fs ts
same_fields fs [] [] e = refl
same_fields fs [] (u ∷ us) e = absurd (cc)
same_fields fs (t ∷ ts) [] e = absurd (cc)
same_fields [] (t ∷ ts) (u ∷ us) e = ap (λ ls. nothing ∷ ls) (same_fields [] ts us (let x : map clue us ≡ map clue ts = cc in x))
same_fields (f ∷ fs) (t ∷ ts) (u ∷ us) e = ap (λ ls. Names f ∷ ls) (same_fields fs ts us (let x : map clue us ≡ map clue ts = cc in x))

pub usual_same : (l : Label) (k : Kind) (ts us : List Node) → is_usual k ≡ true → map clue us ≡ map clue ts → labels l (Node-F.Tree k us) ≡ labels l (Node-F.Tree k ts)
usual_same l k ts us n e = usual_labels l k us n ∙ ap (λ fs. field_labels fs us) (same_tests k ts us e) ∙ same_fields (named_in (Node-F.Tree k ts)) ts us e ∙ sym (usual_labels l k ts n)

free_kind : (p : Places) (l : Label) (a : Site) (k : Kind) (ts : List Node) → is_paren k ≡ false → ((v : Bool) → headed p k ts v ≡ roll-Node (Node-F.Tree k (freed p ts))) → labels l (Node-F.Tree k (freed p ts)) ≡ labels l (Node-F.Tree k ts)
    → ((w x : Bool) (o : Opening) (y : Bool) → spots (move a w x o y) (Node-F.Tree k (map clue ts)) ≡ spots a (Node-F.Tree k (map clue ts))) → Rows p l a k ts
free_kind p l a k ts n e b c f w x o y v h =
    subst (λ t. Due Reasoned l (At (move a w x o y)) t) (sym (e v ∙ rolls-Tree k (freed p ts)))
    (tree k (freed p ts) n (λ z. absurd (cc)) (rw (b, freed_clues p ts, c w x o y) (free_all p (labels l (Node-F.Tree k ts)) (spots a (Node-F.Tree k (map clue ts))) ts f)))

abbrev free_usual : (p : Places) (l : Label) (a : Site) (k : Kind) (ts : List Node) → is_paren k ≡ false → is_usual k ≡ true → ((v : Bool) → headed p k ts v ≡ roll-Node (Node-F.Tree k (freed p ts)))
    → ((w x : Bool) (o : Opening) (y : Bool) → spots (move a w x o y) (Node-F.Tree k (map clue ts)) ≡ spots a (Node-F.Tree k (map clue ts))) → Rows p l a k ts
free_usual p l a k ts n m e c = free_kind p l a k ts n e (usual_same l k ts (freed p ts) m (freed_clues p ts)) c

-- each kind
pub by_kind : (p : Places) (l : Label) (a : Site) (k : Kind) (ts : List Node) → is_paren k ≡ false → Rows p l a k ts
by_kind p l a kind.ParenExpr ts n = absurd (cc)
by_kind p l a kind.AssignExpr (s ∷ q ∷ t ∷ u ∷ []) n' = row.assign p l a s q t u
by_kind p l a kind.CondExpr (s ∷ t ∷ b ∷ c ∷ []) n' = row.cond p l a s t b c
by_kind p l a kind.UnaryExpr (s ∷ q ∷ t ∷ []) n' = row.unary p l a s q t
by_kind p l a kind.AwaitExpr (s ∷ t ∷ []) n' = row.await p l a s t
by_kind p l a kind.YieldExpr (s ∷ t ∷ d ∷ []) n' = row.yield p l a s t d
by_kind p l a kind.MemberExpr (s ∷ t ∷ m ∷ []) n' = row.member p l a s t m
by_kind p l a kind.TaggedTpl (s ∷ t ∷ m ∷ []) n' = row.tagged p l a s t m
by_kind p l a kind.CallExpr (s ∷ t ∷ m ∷ []) n' = row.call p l a s t m
by_kind p l a kind.OptCall (s ∷ t ∷ m ∷ []) n' = row.opt_call p l a s t m
by_kind p l a kind.NewExpr (s ∷ t ∷ m ∷ []) n' = row.new p l a s t m
by_kind p l a kind.OptChainExpr (s ∷ q ∷ t ∷ []) n' = row.chain p l a s q t
by_kind p l a kind.VarDecl (s ∷ q ∷ d ∷ []) n' = row.var_decl p l a s q d
by_kind p l a kind.AssignPat (s ∷ t ∷ u ∷ []) n' = row.assign_pat p l a s t u
by_kind p l a kind.RestPat (s ∷ t ∷ []) n' = row.rest_pat p l a s t
by_kind p l a kind.ForStmt (s ∷ i ∷ t ∷ u ∷ b ∷ []) n' = row.loop p l a s i t u b
by_kind p l a kind.ForInStmt (s ∷ t ∷ u ∷ b ∷ []) n' = row.for_in p l a s t u b
by_kind p l a kind.SeqExpr (s ∷ t ∷ []) n' = kinds.seq p l a s t
by_kind p l a kind.UpdateExpr (s ∷ q ∷ r ∷ t ∷ []) n' = kinds.update p l a s q r t
by_kind p l a kind.BinExpr (s ∷ q ∷ t ∷ u ∷ []) n' = kinds.bin p l a s q t u
by_kind p l a kind.ArrowExpr (s ∷ q ∷ t ∷ u ∷ []) n' = kinds.arrow p l a s q t u
by_kind p l a kind.VarDeclarator (s ∷ n ∷ e ∷ []) n' = kinds.one_declarator p l a s n e
by_kind p l a kind.ForOfStmt (s ∷ q ∷ t ∷ u ∷ b ∷ []) n' = kinds.for_of p l a s q t u b
by_kind p l a kind.SuperPropExpr (b ∷ c ∷ d ∷ []) n = free_usual p l a kind.SuperPropExpr (b ∷ c ∷ d ∷ []) refl refl (λ v. refl) (λ w x o y. refl)
by_kind p l a kind.Tpl (b ∷ c ∷ d ∷ []) n = free_usual p l a kind.Tpl (b ∷ c ∷ d ∷ []) refl refl (λ v. refl) (λ w x o y. refl)
by_kind p l a kind.ExprOrSpread (b ∷ c ∷ []) n = free_usual p l a kind.ExprOrSpread (b ∷ c ∷ []) refl refl (λ v. refl) (λ w x o y. refl)
by_kind p l a kind.SpreadElement (b ∷ c ∷ []) n = free_usual p l a kind.SpreadElement (b ∷ c ∷ []) refl refl (λ v. refl) (λ w x o y. refl)
by_kind p l a kind.KeyValueProp (b ∷ c ∷ []) n = free_usual p l a kind.KeyValueProp (b ∷ c ∷ []) refl refl (λ v. refl) (λ w x o y. refl)
by_kind p l a kind.MethodProp (b ∷ c ∷ []) n = free_usual p l a kind.MethodProp (b ∷ c ∷ []) refl refl (λ v. refl) (λ w x o y. refl)
by_kind p l a kind.KeyValuePatProp (b ∷ c ∷ []) n = free_usual p l a kind.KeyValuePatProp (b ∷ c ∷ []) refl refl (λ v. refl) (λ w x o y. refl)
by_kind p l a kind.ComputedPropName (b ∷ c ∷ []) n = free_usual p l a kind.ComputedPropName (b ∷ c ∷ []) refl refl (λ v. refl) (λ w x o y. refl)
by_kind p l a kind.ClassProp (b ∷ c ∷ d ∷ e ∷ []) n = free_usual p l a kind.ClassProp (b ∷ c ∷ d ∷ e ∷ []) refl refl (λ v. refl) (λ w x o y. refl)
by_kind p l a kind.PrivateProp (b ∷ c ∷ d ∷ e ∷ []) n = free_usual p l a kind.PrivateProp (b ∷ c ∷ d ∷ e ∷ []) refl refl (λ v. refl) (λ w x o y. refl)
by_kind p l a kind.ClassMethod (b ∷ c ∷ d ∷ e ∷ f ∷ []) n = free_usual p l a kind.ClassMethod (b ∷ c ∷ d ∷ e ∷ f ∷ []) refl refl (λ v. refl) (λ w x o y. refl)
by_kind p l a kind.PrivateMethod (b ∷ c ∷ d ∷ e ∷ f ∷ []) n = free_usual p l a kind.PrivateMethod (b ∷ c ∷ d ∷ e ∷ f ∷ []) refl refl (λ v. refl) (λ w x o y. refl)
by_kind p l a kind.Constructor (b ∷ c ∷ d ∷ e ∷ []) n = free_usual p l a kind.Constructor (b ∷ c ∷ d ∷ e ∷ []) refl refl (λ v. refl) (λ w x o y. refl)
by_kind p l a kind.GetterProp (b ∷ c ∷ d ∷ []) n = free_usual p l a kind.GetterProp (b ∷ c ∷ d ∷ []) refl refl (λ v. refl) (λ w x o y. refl)
by_kind p l a kind.SetterProp (b ∷ c ∷ d ∷ e ∷ []) n = free_usual p l a kind.SetterProp (b ∷ c ∷ d ∷ e ∷ []) refl refl (λ v. refl) (λ w x o y. refl)
by_kind p l a kind.Function (b ∷ c ∷ d ∷ e ∷ f ∷ []) n = free_usual p l a kind.Function (b ∷ c ∷ d ∷ e ∷ f ∷ []) refl refl (λ v. refl) (λ w x o y. refl)
by_kind p l a kind.Class (b ∷ c ∷ d ∷ []) n = free_usual p l a kind.Class (b ∷ c ∷ d ∷ []) refl refl (λ v. refl) (λ w x o y. refl)
by_kind p l a kind.AssignPatProp (b ∷ c ∷ d ∷ []) n = free_usual p l a kind.AssignPatProp (b ∷ c ∷ d ∷ []) refl refl (λ v. refl) (λ w x o y. refl)
by_kind p l a kind.ArrayPat (b ∷ c ∷ []) n = free_usual p l a kind.ArrayPat (b ∷ c ∷ []) refl refl (λ v. refl) (λ w x o y. refl)
by_kind p l a kind.ObjectPat (b ∷ c ∷ []) n = free_usual p l a kind.ObjectPat (b ∷ c ∷ []) refl refl (λ v. refl) (λ w x o y. refl)
by_kind p l a kind.CatchClause (b ∷ c ∷ d ∷ []) n = free_usual p l a kind.CatchClause (b ∷ c ∷ d ∷ []) refl refl (λ v. refl) (λ w x o y. refl)
by_kind p l a kind.UsingDecl (b ∷ c ∷ d ∷ []) n = free_usual p l a kind.UsingDecl (b ∷ c ∷ d ∷ []) refl refl (λ v. refl) (λ w x o y. refl)
by_kind p l a kind.ExportDecl (b ∷ c ∷ []) n = free_usual p l a kind.ExportDecl (b ∷ c ∷ []) refl refl (λ v. refl) (λ w x o y. refl)
by_kind p l a kind.ExportDefaultExpr (b ∷ c ∷ []) n = free_usual p l a kind.ExportDefaultExpr (b ∷ c ∷ []) refl refl (λ v. refl) (λ w x o y. refl)
by_kind p l a kind.ReturnStmt (b ∷ c ∷ []) n = free_usual p l a kind.ReturnStmt (b ∷ c ∷ []) refl refl (λ v. refl) (λ w x o y. refl)
by_kind p l a kind.ThrowStmt (b ∷ c ∷ []) n = free_usual p l a kind.ThrowStmt (b ∷ c ∷ []) refl refl (λ v. refl) (λ w x o y. refl)
by_kind p l a kind.WithStmt (b ∷ c ∷ d ∷ []) n = free_usual p l a kind.WithStmt (b ∷ c ∷ d ∷ []) refl refl (λ v. refl) (λ w x o y. refl)
by_kind p l a kind.LabeledStmt (b ∷ c ∷ d ∷ []) n = free_usual p l a kind.LabeledStmt (b ∷ c ∷ d ∷ []) refl refl (λ v. refl) (λ w x o y. refl)
by_kind p l a kind.IfStmt (b ∷ c ∷ d ∷ e ∷ []) n = free_usual p l a kind.IfStmt (b ∷ c ∷ d ∷ e ∷ []) refl refl (λ v. refl) (λ w x o y. refl)
by_kind p l a kind.SwitchStmt (b ∷ c ∷ d ∷ []) n = free_usual p l a kind.SwitchStmt (b ∷ c ∷ d ∷ []) refl refl (λ v. refl) (λ w x o y. refl)
by_kind p l a kind.SwitchCase (b ∷ c ∷ d ∷ []) n = free_usual p l a kind.SwitchCase (b ∷ c ∷ d ∷ []) refl refl (λ v. refl) (λ w x o y. refl)
by_kind p l a kind.WhileStmt (b ∷ c ∷ d ∷ []) n = free_usual p l a kind.WhileStmt (b ∷ c ∷ d ∷ []) refl refl (λ v. refl) (λ w x o y. refl)
by_kind p l a kind.DoWhileStmt (b ∷ c ∷ d ∷ []) n = free_usual p l a kind.DoWhileStmt (b ∷ c ∷ d ∷ []) refl refl (λ v. refl) (λ w x o y. refl)
by_kind p l a kind.Module (b ∷ c ∷ d ∷ []) n = free_usual p l a kind.Module (b ∷ c ∷ d ∷ []) refl refl (λ v. refl) (λ w x o y. refl)
by_kind p l a kind.Script (b ∷ c ∷ d ∷ []) n = free_usual p l a kind.Script (b ∷ c ∷ d ∷ []) refl refl (λ v. refl) (λ w x o y. refl)
by_kind p l a kind.ExprStmt [] n = free_kind p l a kind.ExprStmt [] refl (λ v. refl) refl (λ w x o y. refl)
by_kind p l a kind.ExprStmt (b ∷ []) n = free_kind p l a kind.ExprStmt (b ∷ []) refl (λ v. refl) refl (λ w x o y. refl)
by_kind p l a kind.ExprStmt (b ∷ c ∷ []) n = free_kind p l a kind.ExprStmt (b ∷ c ∷ []) refl (λ v. refl) refl (λ w x o y. refl)
by_kind p l a kind.ExprStmt (b ∷ c ∷ d ∷ ts) n = free_kind p l a kind.ExprStmt (b ∷ c ∷ d ∷ ts) refl (λ v. refl) (same_fields [] (b ∷ c ∷ d ∷ ts) (freed p (b ∷ c ∷ d ∷ ts)) (freed_clues p (b ∷ c ∷ d ∷ ts))) (λ w x o y. refl)
by_kind p l a kind.OptChainExpr [] n = free_kind p l a kind.OptChainExpr [] refl (λ v. refl) (same_fields [] [] (freed p []) (freed_clues p [])) (λ w x o y. refl)
by_kind p l a kind.OptChainExpr (b ∷ []) n = free_kind p l a kind.OptChainExpr (b ∷ []) refl (λ v. refl) (same_fields [] (b ∷ []) (freed p (b ∷ [])) (freed_clues p (b ∷ []))) (λ w x o y. refl)
by_kind p l a kind.OptChainExpr (b ∷ c ∷ []) n = free_kind p l a kind.OptChainExpr (b ∷ c ∷ []) refl (λ v. refl) (same_fields [] (b ∷ c ∷ []) (freed p (b ∷ c ∷ [])) (freed_clues p (b ∷ c ∷ []))) (λ w x o y. refl)
by_kind p l a kind.OptChainExpr (b ∷ c ∷ d ∷ e ∷ ts) n = free_kind p l a kind.OptChainExpr (b ∷ c ∷ d ∷ e ∷ ts) refl (λ v. refl) (same_fields [] (b ∷ c ∷ d ∷ e ∷ ts) (freed p (b ∷ c ∷ d ∷ e ∷ ts)) (freed_clues p (b ∷ c ∷ d ∷ e ∷ ts))) (λ w x o y. refl)
by_kind p (Names f) a kind.SeqExpr [] n = free_kind p (Names f) a kind.SeqExpr [] refl (λ v. refl) (same_fields [] [] (freed p []) (freed_clues p [])) (λ w x o y. refl)
by_kind p (Names f) a kind.SeqExpr (b ∷ []) n = free_kind p (Names f) a kind.SeqExpr (b ∷ []) refl (λ v. refl) (same_fields [] (b ∷ []) (freed p (b ∷ [])) (freed_clues p (b ∷ []))) (λ w x o y. refl)
by_kind p (Names f) a kind.SeqExpr (b ∷ c ∷ d ∷ ts) n = free_kind p (Names f) a kind.SeqExpr (b ∷ c ∷ d ∷ ts) refl (λ v. refl) (same_fields [] (b ∷ c ∷ d ∷ ts) (freed p (b ∷ c ∷ d ∷ ts)) (freed_clues p (b ∷ c ∷ d ∷ ts))) (λ w x o y. refl)
by_kind p OfItems a kind.SeqExpr [] n = free_kind p OfItems a kind.SeqExpr [] refl (λ v. refl) (same_fields [] [] (freed p []) (freed_clues p [])) (λ w x o y. refl)
by_kind p OfItems a kind.SeqExpr (b ∷ []) n = free_kind p OfItems a kind.SeqExpr (b ∷ []) refl (λ v. refl) (same_fields [] (b ∷ []) (freed p (b ∷ [])) (freed_clues p (b ∷ []))) (λ w x o y. refl)
by_kind p OfItems a kind.SeqExpr (b ∷ c ∷ d ∷ ts) n = free_kind p OfItems a kind.SeqExpr (b ∷ c ∷ d ∷ ts) refl (λ v. refl) (same_fields [] (b ∷ c ∷ d ∷ ts) (freed p (b ∷ c ∷ d ∷ ts)) (freed_clues p (b ∷ c ∷ d ∷ ts))) (λ w x o y. refl)
by_kind p OfStatement a kind.SeqExpr [] n = free_kind p OfStatement a kind.SeqExpr [] refl (λ v. refl) (same_fields [] [] (freed p []) (freed_clues p [])) (λ w x o y. refl)
by_kind p OfStatement a kind.SeqExpr (b ∷ []) n = free_kind p OfStatement a kind.SeqExpr (b ∷ []) refl (λ v. refl) (same_fields [] (b ∷ []) (freed p (b ∷ [])) (freed_clues p (b ∷ []))) (λ w x o y. refl)
by_kind p OfStatement a kind.SeqExpr (b ∷ c ∷ d ∷ ts) n = free_kind p OfStatement a kind.SeqExpr (b ∷ c ∷ d ∷ ts) refl (λ v. refl) (same_fields [] (b ∷ c ∷ d ∷ ts) (freed p (b ∷ c ∷ d ∷ ts)) (freed_clues p (b ∷ c ∷ d ∷ ts))) (λ w x o y. refl)
by_kind p l a k ts n = free_usual p l a k ts n refl (λ v. refl) (λ w x o y. refl)
