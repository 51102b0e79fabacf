-- The second step of the due pairs sets none round an assignment's target.
use Rattle.std.proofs.Common.{◌≡◌, Bool, true, false, not, ◌&&◌, List, [], ◌∷◌, map, refl, sym, ap, ◌∙◌, rules, true≢false}
use Rattle.std.specs.Prelude.{if◌then◌else◌}
use Rattle.std.specs.List.{list_all}
use Rattle.swc_tree_marks.specs.declared.ident.Ident.{Ident}
use Rattle.swc_tree_node.specs.declared.kind.Kind.{Kind}
use Rattle.swc_tree_node.specs.declared.kind.Kind.TheVariants as kind
use Rattle.swc_tree_node.specs.declared.kind.Class.TheVariants as class
use Rattle.swc_tree_node.specs.declared.slot.Slot.{Slot}
use Rattle.swc_tree_node.specs.declared.node.Node.{Node, Identifier, Tree, out-Node, the_lemmas}
use Rattle.swc_tree_node.specs.declared.node.Node.TheVariants.{rolls-Tree}
use Rattle.swc_tree_node.specs.declared.node.Node.TheOpen.{Node-F}
use Rattle.swc_tree_node.specs.Table.{slots_of}
use Rattle.swc_tree_node.specs.Fits.{Fits, FieldsFit, belongs}
use Rattle.swc_tree_node.proofs.Fit.{fits-List, tree_opens}
use Rattle.swc_tree_grammar.specs.Kinds.{has_kind, is_paren}
use Rattle.swc_tree_grammar.specs.Levels.{word_of, is_in}
use Rattle.swc_tree_grammar.specs.Forms.{holds}
use Rattle.swc_tree_grammar.specs.Grammar.{is_async_name}
use Rattle.swc_tree_grammar.specs.Due.{Places, free, pair, in_step, async_in}
use Rattle.swc_tree_grammar.proofs.Induction.{Each, by_children}
use Rattle.swc_tree_grammar.proofs.Places.{one, stands}
use Rattle.swc_tree_grammar_laws.proofs.Blocked.{Somewhere, fields_fit, items_fit}
use Rattle.swc_tree_grammar_laws.proofs.Heads.{heading, heading_tree, heading_list}
use Rattle.swc_tree_grammar_laws.proofs.Levelled.{both, also}
use Rattle.swc_base_fixer_laws.specs.Targets.{bare_target_in, has_bare_targets}
use Rattle.swc_base_fixer_laws.proofs.BareLevels.{Bare, bare_tree, bare_list, bare_parts, bare_pair}
use Rattle.swc_base_fixer_laws.proofs.Kept.{not_false}
use Rattle.swc_base_fixer_laws.proofs.Up.{kind_of_tree}

-- a node of bare fields
pub each_bare : (us : List Node) → Each Bare us → list_all has_bare_targets us ≡ true
each_bare [] l = refl
each_bare (u ∷ us) l = also l.0 (each_bare us l.1)

pub node : (k : Kind) (us : List Node) → bare_target_in (Node-F.Tree k us) ≡ true → Each Bare us → Bare (Tree k us)
node k us b l = bare_tree k us ∙ also b (each_bare us l)

-- what an assignment's target may be gets no pair
target_row : (p : Places) (b : Bool) (k : Kind) (ts : List Node) → belongs k class.AssignTarget ≡ true → is_paren k ≡ false → has_kind is_paren (in_step p (Node-F.Tree k (map (heading p) ts)) b) ≡ false
target_row p b kind.MemberExpr (s ∷ o ∷ m ∷ []) c n = kind_of_tree is_paren kind.MemberExpr _
target_row p b kind.MemberExpr ts c n = ap (has_kind is_paren) (rolls-Tree kind.MemberExpr (map free (map (heading p) ts))) ∙ kind_of_tree is_paren kind.MemberExpr _
target_row p b kind.SuperPropExpr ts c n = ap (has_kind is_paren) (rolls-Tree kind.SuperPropExpr (map free (map (heading p) ts))) ∙ kind_of_tree is_paren kind.SuperPropExpr _
target_row p b kind.BindingIdent ts c n = ap (has_kind is_paren) (rolls-Tree kind.BindingIdent (map free (map (heading p) ts))) ∙ kind_of_tree is_paren kind.BindingIdent _
target_row p b kind.ArrayPat ts c n = ap (has_kind is_paren) (rolls-Tree kind.ArrayPat (map free (map (heading p) ts))) ∙ kind_of_tree is_paren kind.ArrayPat _
target_row p b kind.ObjectPat ts c n = ap (has_kind is_paren) (rolls-Tree kind.ObjectPat (map free (map (heading p) ts))) ∙ kind_of_tree is_paren kind.ObjectPat _
target_row p b kind.ParenExpr ts c n = absurd (true≢false n)
target_row p b k ts c n = absurd (true≢false (sym c))

target_kind : (p : Places) (b : Bool) (t : Node) → Fits t (one class.AssignTarget) → has_kind is_paren t ≡ false → has_kind is_paren (heading p t b) ≡ false
target_kind p b t = by_children (λ t. Fits t (one class.AssignTarget) → has_kind is_paren t ≡ false → has_kind is_paren (heading p t b) ≡ false)
    (λ f n. search (rules, the_lemmas), λ x f n. search (rules, the_lemmas), λ w f n. search (rules, the_lemmas), λ x f n. search (rules, the_lemmas), λ s f n. search (rules, the_lemmas), λ k i f n. search (rules, the_lemmas))
    (λ ts l f n. search (rules, the_lemmas))
    (λ k ts l f n. ap (has_kind is_paren) (heading_tree p k ts b) ∙ target_row p b k ts (tree_opens k ts class.AssignTarget f).1 (sym (kind_of_tree is_paren k ts) ∙ n)) t

-- the sides of a bare `in`, and the name `async` before `of`
binary_if : (c : Bool) (p : Places) (us vs : List Node) → Bare (Tree kind.BinExpr us) → Bare (Tree kind.BinExpr vs) → Bare (if c then pair p (Tree kind.BinExpr us) else Tree kind.BinExpr vs)
binary_if true p us vs h g = bare_pair p (Tree kind.BinExpr us) h
binary_if false p us vs h g = g

name_if : (c : Bool) (p : Places) (k : Kind) (i : Ident) → Bare (if c then pair p (Identifier kind.Ident i) else Identifier k i)
name_if true p k i = bare_pair p (Identifier kind.Ident i) (search (rules, the_lemmas))
name_if false p k i = search (rules, the_lemmas)

stays : {t u : Node} → u ≡ t → Bare t → Bare u
stays e h = rw e h

async_bare : (p : Places) (w : Bool) (t : Node) → Bare t → Bare (async_in p w t (out-Node t))
async_bare p w t = by_children (λ t. Bare t → Bare (async_in p w t (out-Node t))) (
  stays (search (rules, the_lemmas)),
  λ x. stays (search (rules, the_lemmas)),
  λ v. stays (search (rules, the_lemmas)),
  λ x. stays (search (rules, the_lemmas)),
  λ s. stays (search (rules, the_lemmas)),
  λ k i h. (let e : async_in p w (Identifier k i) (out-Node (Identifier k i)) ≡ (if is_async_name (Identifier k i) && not w then pair p (Identifier kind.Ident i) else Identifier k i) = search (rules, the_lemmas) in rw e (name_if (is_async_name (Identifier k i) && not w) p k i)),
)
    (λ ts l. stays (search (rules, the_lemmas)))
    (λ k ts l. stays (search (rules, the_lemmas))) t

-- every node
abbrev Done : Places → Node → Type 0
Done p t = (b : Bool) → Bare (heading p t b)

all_freed : (p : Places) (b : Bool) (ts : List Node) → Each (Done p) ts → Each Bare (map (λ f. f b) (map (heading p) ts))
all_freed p b [] l = tt
all_freed p b (t ∷ ts) l = (l.0 b, all_freed p b ts l.1)

head_row : (p : Places) (b : Bool) (k : Kind) (ts : List Node) → Each (Done p) ts → FieldsFit (slots_of k) ts → bare_target_in (Node-F.Tree k ts) ≡ true → Bare (in_step p (Node-F.Tree k (map (heading p) ts)) b)
head_row p b kind.AssignExpr (s ∷ o ∷ f ∷ g ∷ []) l x e =
    node kind.AssignExpr (heading p s true ∷ heading p o true ∷ heading p f b ∷ heading p g b ∷ []) (ap not (target_kind p b f x.1.1.0 (not_false (has_kind is_paren f) e))) (l.0 true, (l.1.0 true, (l.1.1.0 b, (l.1.1.1.0 b, tt))))
head_row p b kind.BinExpr (s ∷ o ∷ f ∷ g ∷ []) l x e =
    binary_if (is_in (word_of (heading p o true)) && not b) p (heading p s true ∷ heading p o true ∷ heading p f true ∷ heading p g true ∷ []) (heading p s true ∷ heading p o true ∷ heading p f b ∷ heading p g b ∷ [])
    (node kind.BinExpr _ refl (l.0 true, (l.1.0 true, (l.1.1.0 true, (l.1.1.1.0 true, tt))))) (node kind.BinExpr _ refl (l.0 true, (l.1.0 true, (l.1.1.0 b, (l.1.1.1.0 b, tt)))))
head_row p b kind.SeqExpr (s ∷ a ∷ []) l x e = node kind.SeqExpr (heading p s true ∷ heading p a b ∷ []) refl (l.0 true, (l.1.0 b, tt))
head_row p b kind.CondExpr (s ∷ t ∷ c ∷ a ∷ []) l x e = node kind.CondExpr (heading p s true ∷ heading p t b ∷ heading p c true ∷ heading p a b ∷ []) refl (l.0 true, (l.1.0 b, (l.1.1.0 true, (l.1.1.1.0 b, tt))))
head_row p b kind.UnaryExpr (s ∷ o ∷ a ∷ []) l x e = node kind.UnaryExpr (heading p s true ∷ heading p o true ∷ heading p a b ∷ []) refl (l.0 true, (l.1.0 true, (l.1.1.0 b, tt)))
head_row p b kind.AwaitExpr (s ∷ a ∷ []) l x e = node kind.AwaitExpr (heading p s true ∷ heading p a b ∷ []) refl (l.0 true, (l.1.0 b, tt))
head_row p b kind.UpdateExpr (s ∷ o ∷ f ∷ a ∷ []) l x e = node kind.UpdateExpr (heading p s true ∷ heading p o true ∷ heading p f true ∷ heading p a b ∷ []) refl (l.0 true, (l.1.0 true, (l.1.1.0 true, (l.1.1.1.0 b, tt))))
head_row p b kind.YieldExpr (s ∷ a ∷ d ∷ []) l x e = node kind.YieldExpr (heading p s true ∷ heading p a b ∷ heading p d true ∷ []) refl (l.0 true, (l.1.0 b, (l.1.1.0 true, tt)))
head_row p b kind.MemberExpr (s ∷ o ∷ m ∷ []) l x e = node kind.MemberExpr (heading p s true ∷ heading p o b ∷ heading p m true ∷ []) refl (l.0 true, (l.1.0 b, (l.1.1.0 true, tt)))
head_row p b kind.TaggedTpl (s ∷ o ∷ m ∷ []) l x e = node kind.TaggedTpl (heading p s true ∷ heading p o b ∷ heading p m true ∷ []) refl (l.0 true, (l.1.0 b, (l.1.1.0 true, tt)))
head_row p b kind.CallExpr (s ∷ o ∷ m ∷ []) l x e = node kind.CallExpr (heading p s true ∷ heading p o b ∷ heading p m true ∷ []) refl (l.0 true, (l.1.0 b, (l.1.1.0 true, tt)))
head_row p b kind.NewExpr (s ∷ o ∷ m ∷ []) l x e = node kind.NewExpr (heading p s true ∷ heading p o b ∷ heading p m true ∷ []) refl (l.0 true, (l.1.0 b, (l.1.1.0 true, tt)))
head_row p b kind.OptChainExpr (s ∷ o ∷ m ∷ []) l x e = node kind.OptChainExpr (heading p s true ∷ heading p o true ∷ heading p m b ∷ []) refl (l.0 true, (l.1.0 true, (l.1.1.0 b, tt)))
head_row p b kind.OptCall (s ∷ o ∷ m ∷ []) l x e = node kind.OptCall (heading p s true ∷ heading p o b ∷ heading p m true ∷ []) refl (l.0 true, (l.1.0 b, (l.1.1.0 true, tt)))
head_row p b kind.ArrowExpr (s ∷ a ∷ d ∷ f ∷ []) l x e = node kind.ArrowExpr (heading p s true ∷ heading p a true ∷ heading p d b ∷ heading p f true ∷ []) refl (l.0 true, (l.1.0 true, (l.1.1.0 b, (l.1.1.1.0 true, tt))))
head_row p b kind.VarDecl (s ∷ w ∷ d ∷ []) l x e = node kind.VarDecl (heading p s true ∷ heading p w true ∷ heading p d b ∷ []) refl (l.0 true, (l.1.0 true, (l.1.1.0 b, tt)))
head_row p b kind.VarDeclarator (s ∷ n ∷ i ∷ []) l x e = node kind.VarDeclarator (heading p s true ∷ heading p n b ∷ heading p i b ∷ []) refl (l.0 true, (l.1.0 b, (l.1.1.0 b, tt)))
head_row p b kind.AssignPat (s ∷ f ∷ a ∷ []) l x e = node kind.AssignPat (heading p s true ∷ heading p f b ∷ heading p a b ∷ []) refl (l.0 true, (l.1.0 b, (l.1.1.0 b, tt)))
head_row p b kind.RestPat (s ∷ a ∷ []) l x e = node kind.RestPat (heading p s true ∷ heading p a b ∷ []) refl (l.0 true, (l.1.0 b, tt))
head_row p b kind.ForStmt (s ∷ i ∷ t ∷ u ∷ d ∷ []) l x e =
    node kind.ForStmt (heading p s true ∷ heading p i false ∷ heading p t true ∷ heading p u true ∷ heading p d true ∷ []) refl (l.0 true, (l.1.0 false, (l.1.1.0 true, (l.1.1.1.0 true, (l.1.1.1.1.0 true, tt)))))
head_row p b kind.ForInStmt (s ∷ i ∷ r ∷ d ∷ []) l x e = node kind.ForInStmt (heading p s true ∷ heading p i false ∷ heading p r true ∷ heading p d true ∷ []) refl (l.0 true, (l.1.0 false, (l.1.1.0 true, (l.1.1.1.0 true, tt))))
head_row p b kind.ForOfStmt (s ∷ w ∷ i ∷ u ∷ d ∷ []) l x e =
    node kind.ForOfStmt _ refl (l.0 true, (l.1.0 true, (async_bare p (holds (heading p w true)) (heading p i false) (l.1.1.0 false), (l.1.1.1.0 true, (l.1.1.1.1.0 true, tt)))))
head_row p b k ts l x e = let us = map free (map (heading p) ts) in rw (rolls-Tree k us) (node k us refl (all_freed p true ts l))

abbrev Headed : Places → Node → Type 0
Headed p t = (s : Slot) → Fits t s → Bare t → Done p t

all_done : (p : Places) (ts : List Node) → Each (Headed p) ts → Each Somewhere ts → list_all has_bare_targets ts ≡ true → Each (Done p) ts
all_done p [] l f h = tt
all_done p (t ∷ ts) l f h = let q = both (has_bare_targets t) (list_all has_bare_targets ts) h in (l.0 f.0.0 f.0.1 q.0, all_done p ts l.1 f.1 q.1)

pub heads_bare : (p : Places) (t : Node) → Headed p t
heads_bare p t = by_children (Headed p)
    (λ s f h b. search (rules, the_lemmas), λ x s f h b. search (rules, the_lemmas), λ w s f h b. search (rules, the_lemmas), λ x s f h b. search (rules, the_lemmas), λ r s f h b. search (rules, the_lemmas), λ k i s f h b. search (rules, the_lemmas))
    (λ ts l s f h b. (let d = all_done p ts l (items_fit s ts (sym (fits-List ts s) ∙ f)) (sym (bare_list ts) ∙ h) in ap has_bare_targets (heading_list p ts b) ∙ bare_list (map (λ f. f b) (map (heading p) ts)) ∙ each_bare (map (λ f. f b) (map (heading p) ts)) (all_freed p b ts d)))
    (λ k ts l s f h b. (let w = stands k ts s f in let q = bare_parts k ts h in ap has_bare_targets (heading_tree p k ts b) ∙ head_row p b k ts (all_done p ts l (fields_fit (slots_of k) ts w.fields) q.1) w.fields q.0)) t
