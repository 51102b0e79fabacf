-- A tree that can be written down and is settled is settled with its blocks.
use Rattle.std.proofs.Common.{◌≡◌, ℕ, Bool, true, false, not, None, List, [], ◌∷◌, map, refl, sym, ap, ◌∙◌, subst, cond, rules, true≢false}
use Rattle.std.specs.List.{list_all}
use Rattle.swc_tree_marks.specs.declared.ident.Ident.{Ident}
use Rattle.swc_tree_node.specs.declared.kind.Kind.{Kind}
use Rattle.swc_tree_node.specs.declared.kind.Kind.TheVariants as kind
use Rattle.swc_tree_node.specs.declared.kind.Class.TheVariants as class
use Rattle.swc_tree_node.specs.declared.slot.Slot.{Slot}
use Rattle.swc_tree_node.specs.declared.node.Node.{Node, Absent, Flag, Word, Text, Span, List as Many, Identifier, Tree, out-Node, the_lemmas}
use Rattle.swc_tree_node.specs.declared.node.Node.TheOpen.{Node-F}
use Rattle.swc_tree_node.specs.declared.node.Node.TheVariants.{outs-Tree, rolls-Tree}
use Rattle.swc_tree_node.specs.Table.{slots_of}
use Rattle.swc_tree_node.specs.Fits.{AllFit, FieldsFit, Fits}
use Rattle.swc_tree_node.proofs.Fit.{fits-List}
use Rattle.swc_tree_scoping.specs.declared.places.Standing.TheVariants as standing
use Rattle.swc_tree_scoping.specs.declared.places.Place.{Place}
use Rattle.swc_tree_scoping.specs.Places.{place_in}
use Rattle.swc_tree_grammar.specs.Blocks.{block, block_step, branch, span_of, takes_else, with_blocks}
use Rattle.swc_tree_grammar.specs.Forms.{form, is_body, is_using}
use Rattle.swc_tree_grammar.specs.Writable.{Round, all_sound, binding, head, in_head_in, sound_in}
use Rattle.swc_tree_grammar.proofs.Asked.{asked, same as whole, sound}
use Rattle.swc_tree_grammar.proofs.Induction.{Each, by_children}
use Rattle.swc_tree_grammar.proofs.Places.{one, stands}
use Rattle.swc_tree_grammar.proofs.Walks.{blocks_of_list, blocks_of_tree, takes_else_of_tree}
use Rattle.swc_tree_grammar_laws.specs.Every.{every}
use Rattle.swc_tree_grammar_laws.proofs.Every.{every_list, every_tree}
use Rattle.swc_tree_grammar_laws.proofs.Levelled.{also, half}
use Rattle.swc_tree_renaming.specs.Apart.{function_in}
use Rattle.swc_tree_sites_written.proofs.Written.{is_ending}
use Rattle.swc_base_fixer_laws.specs.Sets.{item}
use Rattle.swc_base_fixer_laws.proofs.Everywhere.{Everywhere, Parts, everywhere}
use Rattle.swc_base_fixer_laws.proofs.Everywhere.Parts.{more, none}
use Rattle.swc_base_fixer_laws.proofs.Quiet.{is_quiet}
use Rattle.swc_base_fixer_laws.proofs.SetsRows.{items_open}
use Rattle.swc_tree_sites_kept.proofs.Patterns.{only_node}
use Rattle.swc_tree_sites_kept.proofs.KeepsPlaces.{AllKeep, Keeps, Z, each_list, keeps_is, list_keeps, or_left, same, settled_from, span_settled, suits_same, tree_keeps}
use Rattle.swc_tree_sites_kept.proofs.KeepsCode.{is_code, mapped_keeps}
use Rattle.swc_tree_sites_kept.proofs.KeepsStripped.{function_kind}
use Rattle.swc_tree_sites_kept.proofs.KeepsNested.{Bodied, bodies_in, deep, deeper, ending_free, ending_kind}

-- ---- bodies of a tree that can be written down

quiet_bodies : (k : Kind) (ts : List Node) → list_all is_quiet (slots_of k) ≡ true → bodies_in (Node-F.Tree k ts) ≡ true
quiet_bodies kind.WithStmt ts q = absurd (true≢false (sym q))
quiet_bodies kind.WhileStmt ts q = absurd (true≢false (sym q))
quiet_bodies kind.DoWhileStmt ts q = absurd (true≢false (sym q))
quiet_bodies kind.ForStmt ts q = absurd (true≢false (sym q))
quiet_bodies kind.ForInStmt ts q = absurd (true≢false (sym q))
quiet_bodies kind.ForOfStmt ts q = absurd (true≢false (sym q))
quiet_bodies kind.Module ts q = refl
quiet_bodies _ ts q = refl

body_is : (t : Node) → is_body (form (asked t).whole) ≡ true → is_body (form t) ≡ true
body_is t h = sym (ap (λ t. is_body (form t)) (whole t)) ∙ h

sound_bodies : (k : Kind) (ts : List Node) → Parts (every bodies_in) (slots_of k) ts → (r : Round) → sound_in (Node-F.Tree k (map asked ts)) r ≡ true → bodies_in (Node-F.Tree k ts) ≡ true
sound_bodies kind.WithStmt ts (more _ _ (more _ _ (more {t = t} _ _ none))) r h = let p = half h in let q = half p.1 in body_is t q.0
sound_bodies kind.WhileStmt ts (more _ _ (more _ _ (more {t = t} _ _ none))) r h = let p = half h in let q = half p.1 in body_is t q.0
sound_bodies kind.DoWhileStmt ts (more _ _ (more {t = t} _ _ (more _ _ none))) r h = let p = half h in let q = half p.1 in body_is t q.0
sound_bodies kind.ForStmt ts (more _ _ (more _ _ (more _ _ (more _ _ (more {t = t} _ _ none))))) r h = let p = half h in let q = half p.1 in body_is t q.0
sound_bodies kind.ForInStmt ts (more _ _ (more {t = x} _ _ (more {t = y} _ _ (more {t = t} _ _ none)))) r h =
    let p = half {a = not (is_using (asked x).whole)} h in let q = half {a = head (asked x) r} p.1 in let m = half {a = all_sound (asked y ∷ []) (binding r)} q.1 in let n = half m.1 in body_is t n.0
sound_bodies kind.ForOfStmt ts (more _ _ (more _ _ (more _ _ (more _ _ (more {t = t} _ _ none))))) r h = let p = half h in let q = half p.1 in let m = half q.1 in body_is t m.0
sound_bodies k ts d r h = refl

head_bodies : (k : Kind) (ts : List Node) (r : Round) → in_head_in (Node-F.Tree k (map asked ts)) r ≡ true → bodies_in (Node-F.Tree k ts) ≡ true
head_bodies kind.VarDecl ts r h = refl
head_bodies kind.UsingDecl ts r h = refl
head_bodies _ ts r h = absurd (true≢false (sym h))

bodied : Everywhere (every bodies_in) (λ k ts. bodies_in (Node-F.Tree k ts))
bodied = record {
  of_leaves = (search (rules, the_lemmas), λ x. search (rules, the_lemmas), λ w. search (rules, the_lemmas), λ x. search (rules, the_lemmas), λ r. search (rules, the_lemmas), λ k i. search (rules, the_lemmas));
  of_list = every_list bodies_in;
  of_tree = every_tree bodies_in;
  own_quiet = quiet_bodies;
  own_sound = sound_bodies;
  own_head = head_bodies;
}

pub sound_bodied : (t : Node) (s : Slot) → Fits t s → (r : Round) → sound t r ≡ true → Bodied t
sound_bodied t s f r h = everywhere bodied t s f r h

-- ---- blocks

abbrev is_if : Kind → Bool
is_if kind.IfStmt = true
is_if _ = false

blocks_other : (k : Kind) (ts : List Node) → is_if k ≡ false → with_blocks (Tree k ts) ≡ Tree k (map with_blocks ts)
blocks_other k ts e = blocks_of_tree k ts ∙ step k (map with_blocks ts) e
  where
    step : (k : Kind) (us : List Node) → is_if k ≡ false → block_step (Node-F.Tree k us) ≡ Tree k us
    step kind.IfStmt us e = absurd (cc)
    step kind.Module us e = rolls-Tree kind.Module us
    step k us e = rolls-Tree k us

-- a tree stays one of its kind
blocks_kind : (k : Kind) (ts : List Node) → FieldsFit (slots_of k) ts → (us : List Node) × (with_blocks (Tree k ts) ≡ Tree k us)
blocks_kind kind.IfStmt (a ∷ b ∷ c ∷ d ∷ []) f = (_, blocks_of_tree kind.IfStmt (a ∷ b ∷ c ∷ d ∷ []))
blocks_kind kind.IfStmt [] f = absurd f
blocks_kind kind.IfStmt (a ∷ []) f = absurd f.1
blocks_kind kind.IfStmt (a ∷ b ∷ []) f = absurd f.1.1
blocks_kind kind.IfStmt (a ∷ b ∷ c ∷ []) f = absurd f.1.1.1
blocks_kind kind.IfStmt (a ∷ b ∷ c ∷ d ∷ e ∷ ts) f = absurd f.1.1.1.1
blocks_kind k ts f = (map with_blocks ts, blocks_other k ts refl)

name_stays : (k : Kind) (i : Ident) → with_blocks (Identifier k i) ≡ Identifier k i
name_stays k i = search (rules, the_lemmas)

name_none : (k : Kind) (i : Ident) → takes_else (Identifier k i) ≡ false
name_none k i = search (rules, the_lemmas)

declared : (t : Node) → Fits t (one class.Stmt) → function_in (out-Node (with_blocks t)) ≡ true → function_in (out-Node t) ≡ true
declared t f = only_node class.Stmt (λ t. function_in (out-Node (with_blocks t)) ≡ true → function_in (out-Node t) ≡ true) (λ k i a b h. ap (λ t. function_in (out-Node t)) (sym (name_stays k i)) ∙ h)
    (λ k ts b g x h. (let (us, is) = blocks_kind k ts g in
    ap function_in (outs-Tree k ts) ∙ function_kind k us ts ∙ sym (ap (λ t. function_in (out-Node t)) is ∙ ap function_in (outs-Tree k us)) ∙ h)) t f

-- a statement that ends in an `if` without `else`
ending : (t : Node) → Fits t (one class.Stmt) → takes_else (with_blocks t) ≡ true → (k : Kind) × (ts : List Node) × (t ≡ Tree k ts) × (is_ending k ≡ true)
ending t f = only_node class.Stmt (λ t. takes_else (with_blocks t) ≡ true → (k : Kind) × (ts : List Node) × (t ≡ Tree k ts) × (is_ending k ≡ true))
    (λ k i a b h. absurd (cc (sym (ap takes_else (name_stays k i) ∙ name_none k i) ∙ h)))
    (λ k ts b g x h. (let (us, is) = blocks_kind k ts g in (k, ts, refl, ending_kind k (map takes_else us) (sym (ap takes_else is ∙ takes_else_of_tree k us) ∙ h)))) t f

ending_function : (k : Kind) (ts : List Node) → is_ending k ≡ true → function_in (Node-F.Tree k ts) ≡ false
ending_function kind.FnDecl ts h = absurd (true≢false (sym h))
ending_function kind.Module ts h = refl
ending_function _ ts h = refl

-- in a block of its own it is nested
abbrev plainly : Place → Place
plainly w = record { standing = standing.Plain; strict = w.strict; nested = w.nested }

block_keeps : (t : Node) → Fits t (one class.Stmt) → Bodied t → takes_else (with_blocks t) ≡ true → Keeps t (with_blocks t) → Keeps t (block (with_blocks t))
block_keeps t f b e l w v c s h =
    let (k, ts, is, ends) = ending t f e in
    let u = with_blocks t in
    let there : Z (plainly w) t ≡ true = subst (λ t. Z w t ≡ true → Z (plainly w) t ≡ true) (sym is) (ending_free k ts ends w (plainly w) (record { strict = λ e. e; nested = λ e. e })) h in
    let none : function_in (out-Node t) ≡ false = ap (λ t. function_in (out-Node t)) is ∙ ap function_in (outs-Tree k ts) ∙ ending_function k ts ends in
    let inner : Z (deeper (plainly w)) t ≡ true = deep t (one class.Stmt) f refl (plainly w) (λ e. absurd (cc)) (λ e. none) b there in
    let q = place_in v (Node-F.Tree kind.BlockStmt (Span (span_of u) ∷ Many (u ∷ []) ∷ [])) 1 in
    let made : Z q u ≡ true = l (deeper (plainly w)) q (record { strict = λ e. or_left v.strict false (c.strict e); nested = λ e. refl }) (suits_same None) inner in
    settled_from v kind.BlockStmt (Span (span_of u) ∷ Many (u ∷ []) ∷ []) refl (also (span_settled (place_in v (Node-F.Tree kind.BlockStmt (Span (span_of u) ∷ Many (u ∷ []) ∷ [])) 0) (span_of u))
    (also (each_list q (u ∷ []) (made, tt)) refl))

branch_keeps : (t : Node) → Fits t (one class.Stmt) → Bodied t → Keeps t (with_blocks t) → Keeps t (branch (with_blocks t))
branch_keeps t f b l = at (takes_else (with_blocks t)) refl
  where
    at : (x : Bool) → takes_else (with_blocks t) ≡ x → Keeps t (cond x (block (with_blocks t)) (with_blocks t))
    at true e = block_keeps t f b e l
    at false e = l

-- ---- every node

abbrev Claim : Node → Type 0
Claim t = (s : Slot) → Fits t s → Bodied t → Keeps t (with_blocks t)

fields_claim : (ss : List Slot) (ts : List Node) → Each Claim ts → FieldsFit ss ts → list_all (every bodies_in) ts ≡ true → AllKeep ts (map with_blocks ts)
fields_claim [] [] l f b = tt
fields_claim [] (t ∷ ts) l f b = absurd f
fields_claim (s ∷ ss) [] l f b = absurd f
fields_claim (s ∷ ss) (t ∷ ts) l f b = let p = half {a = every bodies_in t} b in (l.0 s f.0 p.0, fields_claim ss ts l.1 f.1 p.1)

items_claim : (s : Slot) (ts : List Node) → Each Claim ts → AllFit s ts → list_all (every bodies_in) ts ≡ true → AllKeep ts (map with_blocks ts)
items_claim s [] l f b = tt
items_claim s (t ∷ ts) l f b = let p = half {a = every bodies_in t} b in (l.0 s f.0 p.0, items_claim s ts l.1 f.1 p.1)

stays_flag : (x : Bool) → with_blocks (Flag x) ≡ Flag x
stays_flag x = search (rules, the_lemmas)

stays_text : (x : List ℕ) → with_blocks (Text x) ≡ Text x
stays_text x = search (rules, the_lemmas)

code_other : (k : Kind) (ts : List Node) → is_code k ≡ true → with_blocks (Tree k ts) ≡ Tree k (map with_blocks ts)
code_other kind.IfStmt ts e = absurd (true≢false (sym e))
code_other kind.Module ts e = absurd (true≢false (sym e))
code_other k ts e = blocks_other k ts refl

other_claim : (k : Kind) (ts : List Node) → is_if k ≡ false → Each Claim ts → Claim (Tree k ts)
other_claim k ts e l s f b =
    let g = (stands k ts s f).fields in
    keeps_is (Tree k ts) (Tree k (map with_blocks ts)) (with_blocks (Tree k ts)) (blocks_other k ts e)
    (mapped_keeps with_blocks blocks_of_list stays_text stays_flag code_other declared k ts g (fields_claim (slots_of k) ts l g (half {a = bodies_in (Node-F.Tree k ts)} (sym (every_tree bodies_in k ts) ∙ b)).1))

if_claim : (ts : List Node) → Each Claim ts → FieldsFit (slots_of kind.IfStmt) ts → list_all (every bodies_in) ts ≡ true → Keeps (Tree kind.IfStmt ts) (block_step (Node-F.Tree kind.IfStmt (map with_blocks ts)))
if_claim (a ∷ b ∷ c ∷ d ∷ []) l f y =
    let p = half {a = every bodies_in a} y in let q = half {a = every bodies_in b} p.1 in let r = half {a = every bodies_in c} q.1 in let m = half {a = every bodies_in d} r.1 in
    tree_keeps kind.IfStmt (a ∷ b ∷ c ∷ d ∷ []) (with_blocks a ∷ with_blocks b ∷ branch (with_blocks c) ∷ with_blocks d ∷ [])
    (l.0 _ f.0 p.0, (l.1.0 _ f.1.0 q.0, (branch_keeps c f.1.1.0 r.0 (l.1.1.0 _ f.1.1.0 r.0), (l.1.1.1.0 _ f.1.1.1.0 m.0, tt)))) (λ e. e) (λ w e. e)
if_claim [] l f y = absurd f
if_claim (a ∷ []) l f y = absurd f.1
if_claim (a ∷ b ∷ []) l f y = absurd f.1.1
if_claim (a ∷ b ∷ c ∷ []) l f y = absurd f.1.1.1
if_claim (a ∷ b ∷ c ∷ d ∷ e ∷ ts) l f y = absurd f.1.1.1.1

tree_claim : (k : Kind) (ts : List Node) → Each Claim ts → Claim (Tree k ts)
tree_claim kind.IfStmt ts l s f b =
    keeps_is (Tree kind.IfStmt ts) (block_step (Node-F.Tree kind.IfStmt (map with_blocks ts))) (with_blocks (Tree kind.IfStmt ts)) (blocks_of_tree kind.IfStmt ts)
    (if_claim ts l (stands kind.IfStmt ts s f).fields (half {a = true} (sym (every_tree bodies_in kind.IfStmt ts) ∙ b)).1)
tree_claim k ts l s f b = other_claim k ts refl l s f b

list_claim : (ts : List Node) → Each Claim ts → Claim (Many ts)
list_claim ts l s f b =
    keeps_is (Many ts) (Many (map with_blocks ts)) (with_blocks (Many ts)) (blocks_of_list ts)
    (list_keeps ts (map with_blocks ts) (items_claim (item s) ts l (items_open s ts (sym (fits-List ts s) ∙ f)) (half {a = true} (sym (every_list bodies_in ts) ∙ b)).1))

leaf_claim : (t : Node) → with_blocks t ≡ t → Claim t
leaf_claim t e s f b = keeps_is t t (with_blocks t) e (same t)

pub blocks_keep : (t : Node) → Claim t
blocks_keep t = by_children Claim (
  leaf_claim Absent (search (rules, the_lemmas)),
  λ x. leaf_claim (Flag x) (search (rules, the_lemmas)),
  λ x. leaf_claim (Word x) (search (rules, the_lemmas)),
  λ x. leaf_claim (Text x) (search (rules, the_lemmas)),
  λ x. leaf_claim (Span x) (search (rules, the_lemmas)),
  λ k i. leaf_claim (Identifier k i) (name_stays k i),
)
    list_claim tree_claim t
