-- Functions on trees that change spans, names and some fields alone: what is seen of a node stays.
use Rattle.std.proofs.Common.{◌≡◌, ℕ, Bool, true, false, not, ◌&&◌, List, [], ◌∷◌, map, refl, sym, ap, ◌∙◌, rules, true≢false}
use Rattle.std.specs.List.{list_all}
use Rattle.swc_tree_marks.specs.declared.span.Span.{Span as Range}
use Rattle.swc_tree_marks.specs.declared.ident.Ident.{Ident}
use Rattle.swc_tree_node.specs.declared.kind.Kind.{Kind}
use Rattle.swc_tree_node.specs.declared.kind.Kind.TheVariants as kind
use Rattle.swc_tree_node.specs.declared.kind.Word.{Word as Word'}
use Rattle.swc_tree_node.specs.declared.node.Node.{Node, Absent, Flag, Word, Text, Span, List as Many, Identifier, Tree, out-Node, the_lemmas}
use Rattle.swc_tree_node.specs.declared.node.Node.TheOpen.{Node-F}
use Rattle.swc_tree_node.specs.Table.{is_identifier}
use Rattle.swc_tree_grammar.specs.Shapes.{items_of}
use Rattle.swc_tree_grammar.specs.Stripped.{is_void_in, is_void, is_idle, is_idle_in, is_member, is_empty_in, front}
use Rattle.swc_tree_grammar.proofs.Induction.{Each, by_children}
use Rattle.swc_tree_grammar_laws.proofs.Every.{every_tree, every_list}
use Rattle.swc_tree_grammar_laws.proofs.Levelled.{both, also_both}
use Rattle.swc_base_fixer_laws.proofs.AgainStill.{single, single_in, loose, loose_in, bare_name, bare_name_in, is_list, is_list_in, quiet, firm, still, still_in}

-- statements some of whose fields may change
abbrev pub is_changed : Kind → Bool
is_changed kind.IfStmt = true
is_changed kind.ForOfStmt = true
is_changed _ = false

pub record Mapped (f : Node → Node) (fields : Kind → List Node → List Node) : Type 0 where
  pub spans : Range → Range
  pub idents : Ident → Ident
  pub same_text : (i : Ident) → (idents i).sym ≡ i.sym
  pub absent : f Absent ≡ Absent
  pub flag : (x : Bool) → f (Flag x) ≡ Flag x
  pub word : (w : Word') → f (Word w) ≡ Word w
  pub text : (x : List ℕ) → f (Text x) ≡ Text x
  pub span : (s : Range) → f (Span s) ≡ Span (spans s)
  pub list : (ts : List Node) → f (Many ts) ≡ Many (map f ts)
  pub name : (k : Kind) (i : Ident) → f (Identifier k i) ≡ Identifier k (idents i)
  pub tree : (k : Kind) (ts : List Node) → f (Tree k ts) ≡ Tree k (fields k (map f ts))
  pub other : (k : Kind) (us : List Node) → is_changed k ≡ false → fields k us ≡ us

pub tree_other : {f : Node → Node} {fs : Kind → List Node → List Node} (m : Mapped f fs) (k : Kind) (ts : List Node) → is_changed k ≡ false → f (Tree k ts) ≡ Tree k (map f ts)
tree_other {f = f} m k ts e = m.tree k ts ∙ ap (Tree k) (m.other k (map f ts) e)

module _ {f : Node → Node} {fs : Kind → List Node → List Node} (m : Mapped f fs) (X : Type 0) (g : Node-F Node → X) where
  abbrev Seen : Node → Type 0
  Seen t = g (out-Node (f t)) ≡ g (out-Node t)

  out_tree : (k : Kind) (ts : List Node) → g (out-Node (Tree k ts)) ≡ g (Node-F.Tree k ts)
  out_tree k ts = search (rules, the_lemmas)

  out_list : (ts : List Node) → g (out-Node (Many ts)) ≡ g (Node-F.List ts)
  out_list ts = search (rules, the_lemmas)

  out_name : (k : Kind) (i : Ident) → g (out-Node (Identifier k i)) ≡ g (Node-F.Identifier k i)
  out_name k i = search (rules, the_lemmas)

  out_span : (s : Range) → g (out-Node (Span s)) ≡ g (Node-F.Span s)
  out_span s = search (rules, the_lemmas)

  at_tree : (b : Bool) (k : Kind) (ts : List Node) → is_changed k ≡ b → ((k : Kind) (ts : List Node) → g (Node-F.Tree k (map f ts)) ≡ g (Node-F.Tree k ts)) → ((k : Kind) (us ts : List Node) → is_changed k ≡ true → g (Node-F.Tree k us) ≡ g (Node-F.Tree k ts)) → Seen (Tree k ts)
  at_tree true k ts e p q = ap (λ t. g (out-Node t)) (m.tree k ts) ∙ out_tree k (fs k (map f ts)) ∙ q k (fs k (map f ts)) ts e ∙ sym (out_tree k ts)
  at_tree false k ts e p q = ap (λ t. g (out-Node t)) (tree_other m k ts e) ∙ out_tree k (map f ts) ∙ p k ts ∙ sym (out_tree k ts)

  -- what a test sees of a node
  pub look : ((s r : Range) → g (Node-F.Span s) ≡ g (Node-F.Span r)) → ((k : Kind) (i : Ident) → g (Node-F.Identifier k (m.idents i)) ≡ g (Node-F.Identifier k i))
      → ((ts : List Node) → g (Node-F.List (map f ts)) ≡ g (Node-F.List ts)) → ((k : Kind) (ts : List Node) → g (Node-F.Tree k (map f ts)) ≡ g (Node-F.Tree k ts))
      → ((k : Kind) (us ts : List Node) → is_changed k ≡ true → g (Node-F.Tree k us) ≡ g (Node-F.Tree k ts)) → (t : Node) → Seen t
  look s n l p q t = by_children Seen
      (ap (λ t. g (out-Node t)) m.absent, λ x. ap (λ t. g (out-Node t)) (m.flag x), λ w. ap (λ t. g (out-Node t)) (m.word w), λ x. ap (λ t. g (out-Node t)) (m.text x), λ r. ap (λ t. g (out-Node t)) (m.span r) ∙ out_span (m.spans r) ∙ s (m.spans r) r ∙ sym (out_span r), λ k i. ap (λ t. g (out-Node t)) (m.name k i) ∙ out_name k (m.idents i) ∙ n k i ∙ sym (out_name k i))
      (λ ts h. ap (λ t. g (out-Node t)) (m.list ts) ∙ out_list (map f ts) ∙ l ts ∙ sym (out_list ts))
      (λ k ts h. at_tree (is_changed k) k ts refl p q) t

-- items
items_row : {f : Node → Node} {fs : Kind → List Node → List Node} (m : Mapped f fs) (t : Node) → items_of (f t) ≡ map f (items_of t)
items_row {f = f} m t = by_children (λ t. items_of (f t) ≡ map f (items_of t)) (
  ap items_of m.absent ∙ search (rules, the_lemmas),
  λ x. ap items_of (m.flag x) ∙ search (rules, the_lemmas),
  λ w. ap items_of (m.word w) ∙ search (rules, the_lemmas),
  λ x. ap items_of (m.text x) ∙ search (rules, the_lemmas),
  λ s. ap items_of (m.span s) ∙ search (rules, the_lemmas),
  λ k i. ap items_of (m.name k i) ∙ search (rules, the_lemmas),
)
    (λ ts h. (let e : items_of (Many (map f ts)) ≡ map f ts = search (rules, the_lemmas) in let d : items_of (Many ts) ≡ ts = search (rules, the_lemmas) in ap items_of (m.list ts) ∙ e ∙ sym (ap (map f) d)))
    (λ k ts h. ap items_of (m.tree k ts) ∙ search (rules, the_lemmas)) t

pub items_mapped : {f : Node → Node} {fs : Kind → List Node → List Node} (m : Mapped f fs) (t : Node) → items_of (f t) ≡ map f (items_of t)
items_mapped m t = items_row m t

-- what stripping looks at
pub void_mapped : {f : Node → Node} {fs : Kind → List Node → List Node} (m : Mapped f fs) (t : Node) → is_void (f t) ≡ is_void t
void_mapped m t = look m Bool is_void_in (λ s r. refl) (λ k i. refl) (λ ts. refl) (λ k ts. refl) (λ k us ts e. refl) t

pub idle_mapped : {f : Node → Node} {fs : Kind → List Node → List Node} (m : Mapped f fs) (t : Node) → is_idle (f t) ≡ is_idle t
idle_mapped m t = look m Bool is_idle_in (λ s r. refl) (λ k i. refl) (λ ts. refl) (λ k ts. refl) (λ k us ts e. refl) t

empty_row : (k : Kind) (us ts : List Node) → is_empty_in (Node-F.Tree k us) ≡ is_empty_in (Node-F.Tree k ts)
empty_row kind.EmptyStmt us ts = refl
empty_row k us ts = refl

pub member_mapped : {f : Node → Node} {fs : Kind → List Node → List Node} (m : Mapped f fs) (t : Node) → is_member (f t) ≡ is_member t
member_mapped {f = f} m t = ap not (look m Bool is_empty_in (λ s r. refl) (λ k i. refl) (λ ts. refl) (λ k ts. empty_row k (map f ts) ts) (λ k us ts e. empty_row k us ts) t)

single_row : (f : Node → Node) (k : Kind) (ts : List Node) → single_in (Node-F.Tree k (map f ts)) ≡ single_in (Node-F.Tree k ts)
single_row f kind.SeqExpr (s ∷ e ∷ []) = refl
single_row f k ts = refl

single_changed : (k : Kind) (us ts : List Node) → is_changed k ≡ true → single_in (Node-F.Tree k us) ≡ single_in (Node-F.Tree k ts)
single_changed kind.IfStmt us ts e = refl
single_changed kind.ForOfStmt us ts e = refl
single_changed k us ts e = absurd (true≢false (sym e))

single_mapped : {f : Node → Node} {fs : Kind → List Node → List Node} (m : Mapped f fs) (t : Node) → single (f t) ≡ single t
single_mapped {f = f} m t = look m Bool single_in (λ s r. refl) (λ k i. refl) (λ ts. refl) (single_row f) single_changed t

loose_row : {f : Node → Node} {fs : Kind → List Node → List Node} (m : Mapped f fs) (k : Kind) (ts : List Node) → loose_in (Node-F.Tree k (map f ts)) ≡ loose_in (Node-F.Tree k ts)
loose_row m kind.SeqExpr (s ∷ e ∷ []) = refl
loose_row m kind.UnaryExpr (s ∷ o ∷ a ∷ []) = ap not (void_mapped m o)
loose_row m k ts = refl

loose_changed : (k : Kind) (us ts : List Node) → is_changed k ≡ true → loose_in (Node-F.Tree k us) ≡ loose_in (Node-F.Tree k ts)
loose_changed kind.IfStmt us ts e = refl
loose_changed kind.ForOfStmt us ts e = refl
loose_changed k us ts e = absurd (true≢false (sym e))

loose_mapped : {f : Node → Node} {fs : Kind → List Node → List Node} (m : Mapped f fs) (t : Node) → loose (f t) ≡ loose t
loose_mapped m t = look m Bool loose_in (λ s r. refl) (λ k i. refl) (λ ts. refl) (loose_row m) loose_changed t

name_row : (k : Kind) (i j : Ident) → bare_name_in (Node-F.Identifier k j) ≡ bare_name_in (Node-F.Identifier k i)
name_row kind.Ident i j = refl
name_row k i j = refl

name_mapped : {f : Node → Node} {fs : Kind → List Node → List Node} (m : Mapped f fs) (t : Node) → bare_name (f t) ≡ bare_name t
name_mapped m t = look m Bool bare_name_in (λ s r. refl) (λ k i. name_row k i (m.idents i)) (λ ts. refl) (λ k ts. refl) (λ k us ts e. refl) t

list_mapped : {f : Node → Node} {fs : Kind → List Node → List Node} (m : Mapped f fs) (t : Node) → is_list (f t) ≡ is_list t
list_mapped m t = look m Bool is_list_in (λ s r. refl) (λ k i. refl) (λ ts. refl) (λ k ts. refl) (λ k us ts e. refl) t

-- stillness
pub all_mapped : (q : Node → Bool) {f : Node → Node} → ((t : Node) → q (f t) ≡ q t) → (ts : List Node) → list_all q (map f ts) ≡ list_all q ts
all_mapped q h [] = refl
all_mapped q h (t ∷ ts) = rw (h t, all_mapped q h ts) refl

pub front_mapped : (f : Node → Node) (ts : List Node) → front (map f ts) ≡ map f (front ts)
front_mapped f [] = refl
front_mapped f (t ∷ []) = refl
front_mapped f (t ∷ u ∷ ts) = ap (λ us. f t ∷ us) (front_mapped f (u ∷ ts))

quiet_mapped : {f : Node → Node} {fs : Kind → List Node → List Node} (m : Mapped f fs) (ts : List Node) → quiet (map f ts) ≡ quiet ts
quiet_mapped m [] = refl
quiet_mapped m (t ∷ []) = refl
quiet_mapped m (t ∷ u ∷ ts) = all_mapped (λ e. not (is_idle e)) (λ t. ap not (idle_mapped m t)) (t ∷ u ∷ ts)

firm_mapped : {f : Node → Node} {fs : Kind → List Node → List Node} (m : Mapped f fs) (ts : List Node) → firm (map f ts) ≡ firm ts
firm_mapped m [] = refl
firm_mapped m (t ∷ []) = refl
firm_mapped {f = f} m (t ∷ u ∷ ts) =
    let us : List Node = t ∷ u ∷ ts in let e = front_mapped f us in
    ap (λ b. b && (list_all loose (front (map f us)) && quiet (front (map f us)))) (all_mapped single (single_mapped m) us)
    ∙ ap (λ vs. list_all single us && (list_all loose vs && quiet vs)) e
    ∙ ap (λ b. list_all single us && (b && quiet (map f (front us)))) (all_mapped loose (loose_mapped m) (front us))
    ∙ ap (λ b. list_all single us && (list_all loose (front us) && b)) (quiet_mapped m (front us))

still_row : {f : Node → Node} {fs : Kind → List Node → List Node} (m : Mapped f fs) (k : Kind) (ts : List Node) → still_in (Node-F.Tree k (map f ts)) ≡ still_in (Node-F.Tree k ts)
still_row m kind.ParenExpr (s ∷ e ∷ []) = refl
still_row m kind.SeqExpr (s ∷ e ∷ []) = rw (list_mapped m e, items_mapped m e, firm_mapped m (items_of e)) refl
still_row m kind.AssignExpr (s ∷ o ∷ l ∷ r ∷ []) = ap not (name_mapped m l)
still_row m kind.Class (s ∷ c ∷ b ∷ []) = rw (list_mapped m b, items_mapped m b, all_mapped is_member (member_mapped m) (items_of b)) refl
still_row m k ts = refl

still_changed : (k : Kind) (us : List Node) → is_changed k ≡ true → still_in (Node-F.Tree k us) ≡ true
still_changed kind.IfStmt us e = refl
still_changed kind.ForOfStmt us e = refl
still_changed k us e = absurd (true≢false (sym e))

abbrev FieldsStill : (Kind → List Node → List Node) → Type 0
FieldsStill fields = (k : Kind) (us : List Node) → list_all still us ≡ true → list_all still (fields k us) ≡ true

abbrev StaysStill : (Node → Node) → Node → Type 0
StaysStill f t = still t ≡ true → still (f t) ≡ true

each_still : (f : Node → Node) (ts : List Node) → Each (StaysStill f) ts → list_all still ts ≡ true → list_all still (map f ts) ≡ true
each_still f [] l h = refl
each_still f (t ∷ ts) l h = let p = both (still t) (list_all still ts) h in also_both (still (f t)) (list_all still (map f ts)) (l.0 p.0) (each_still f ts l.1 p.1)

tree_still : {f : Node → Node} {fs : Kind → List Node → List Node} (m : Mapped f fs) → FieldsStill fs → (b : Bool) (k : Kind) (ts : List Node) → is_changed k ≡ b → Each (StaysStill f) ts → StaysStill f (Tree k ts)
tree_still {f = f} {fs = fs} m g true k ts e l h =
    let p = both (still_in (Node-F.Tree k ts)) (list_all still ts) (sym (every_tree still_in k ts) ∙ h) in let us : List Node = fs k (map f ts) in
    ap still (m.tree k ts) ∙ every_tree still_in k us ∙ also_both (still_in (Node-F.Tree k us)) (list_all still us) (still_changed k us e) (g k (map f ts) (each_still f ts l p.1))
tree_still {f = f} {fs = fs} m g false k ts e l h =
    let p = both (still_in (Node-F.Tree k ts)) (list_all still ts) (sym (every_tree still_in k ts) ∙ h) in
    ap still (tree_other m k ts e) ∙ every_tree still_in k (map f ts) ∙ also_both (still_in (Node-F.Tree k (map f ts))) (list_all still (map f ts)) (still_row m k ts ∙ p.0) (each_still f ts l p.1)

name_still : (k : Kind) (i : Ident) → still (Identifier k i) ≡ is_identifier k
name_still k i = search (rules, the_lemmas)

pub still_mapped : {f : Node → Node} {fs : Kind → List Node → List Node} (m : Mapped f fs) → FieldsStill fs → (t : Node) → still t ≡ true → still (f t) ≡ true
still_mapped {f = f} m g t = by_children (StaysStill f)
    (λ h. ap still m.absent ∙ h, λ x h. ap still (m.flag x) ∙ h, λ w h. ap still (m.word w) ∙ h, λ x h. ap still (m.text x) ∙ h, λ s h. ap still (m.span s) ∙ search (rules, the_lemmas), λ k i h. ap still (m.name k i) ∙ name_still k (m.idents i) ∙ sym (name_still k i) ∙ h)
    (λ ts l h. ap still (m.list ts) ∙ every_list still_in (map f ts) ∙ each_still f ts l (sym (every_list still_in ts) ∙ h))
    (λ k ts l. tree_still m g (is_changed k) k ts refl l) t
