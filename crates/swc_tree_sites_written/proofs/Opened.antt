-- What writing out makes of each node has the names that the node had.
use Rattle.std.proofs.Common.{◌≡◌, Bool, true, false, not, ◌&&◌, IsTrue, Some, List, [], ◌∷◌, map, refl, sym, ap, ◌∙◌, subst, cond, rules, true≢false}
use Rattle.swc_tree_marks.specs.declared.ident.Ident.{Ident}
use Rattle.swc_tree_node.specs.declared.kind.Kind.{Kind}
use Rattle.swc_tree_node.specs.declared.slot.Slot.{Slot}
use Rattle.swc_tree_node.specs.declared.node.Node.{Node, Absent, Flag, Word, Text, Span, List as Many, Identifier, Tree, out-Node, the_lemmas}
use Rattle.swc_tree_node.specs.declared.node.Node.TheOpen.{Node-F}
use Rattle.swc_tree_node.specs.declared.node.Node.TheVariants.{outs-Flag, outs-Word, outs-Text, outs-Span, outs-Tree, outs-Identifier, rolls-Tree}
use Rattle.swc_tree_node.specs.Table.{is_identifier, slots_of}
use Rattle.swc_tree_node.specs.Fits.{AllFit, FieldsFit, Fits, belongs}
use Rattle.swc_tree_node.proofs.Fit.{both as both_are, fits-Absent, fits-Flag, fits-Word, fits-Text, fits-Span, fits-List, fits-Identifier, fits-Tree, list_opens, tree_opens}
use Rattle.swc_tree_scoping.specs.declared.places.Standing.{Standing}
use Rattle.swc_tree_scoping.specs.declared.places.Place.{Place}
use Rattle.swc_tree_scoping.specs.Places.{binds_patterns, field_role, is_identifier_expression, part_standing}
use Rattle.swc_tree_grammar.specs.Shapes.{Block, items_of}
use Rattle.swc_tree_grammar.specs.Normal.{again, opened as opened_branch, opened_in as opened_branch_in, only_in, specifier, specifier_in, written_out}
use Rattle.swc_tree_grammar.proofs.Induction.{Each, by_children}
use Rattle.swc_tree_grammar.proofs.Items.{items_of_list, listed}
use Rattle.swc_tree_grammar.proofs.Places.{one}
use Rattle.swc_tree_sites.specs.Sites.{both, nothing}
use Rattle.swc_tree_sites_written.specs.Tame.{is_tame, items_tame, opens_loose, opens_loose_in, is_loose, part_tame}
use Rattle.swc_tree_sites.proofs.Kept.{S, all, of_list, out_step}
use Rattle.swc_tree_sites_laws.proofs.Expressions.{P}
use Rattle.swc_tree_sites_laws.proofs.StrippedFewer.{of_absent}
use Rattle.swc_tree_sites_written.proofs.Written.{is_block_kind, of, step_tree, tame_list, tame_tree, written_list, written_name, written_tree}
use Rattle.swc_tree_node.specs.declared.kind.Kind.TheVariants as kind
use Rattle.swc_tree_node.specs.declared.kind.Class.TheVariants as class
use Rattle.swc_tree_node.specs.declared.slot.Content.TheVariants as content
use Rattle.swc_tree_node.specs.declared.slot.Slot.TheVariants as slot
use Rattle.swc_tree_scoping.specs.declared.places.Standing.TheVariants as standing
use Rattle.swc_tree_grammar.specs.Blocks.{takes_else}
use Rattle.swc_tree_sites_written.proofs.WrittenFields.{Claim, tame_at}
use Rattle.swc_tree_sites_written.proofs.WrittenNames.{again_quiet, outer_quiet}
use Rattle.swc_tree_sites_written.proofs.Goes.{block_goes, implied, takes_written}

abbrev pub statements_in : Node-F Node → List Node
statements_in (Block span stmts) = items_of stmts
statements_in _ = []

-- the claim of a node, of its items, and of its statements
abbrev pub Known : Node → Type 0
Known t = Claim t × Each Claim (items_of t) × Each Claim (statements_in (out-Node t))

pub claims : (ts : List Node) → Each Known ts → Each Claim ts
claims [] h = tt
claims (t ∷ ts) h = (h.0.0, claims ts h.1)

-- what stands alone is written out as it is
module _ (s : Slot) (names : (k : Kind) (i : Ident) → Fits (Identifier k i) s → ⊥) (lists : (ts : List Node) → Fits (Many ts) s → ⊥) (trees : (k : Kind) (ts : List Node) → Fits (Tree k ts) s → ⊥) where
  quiet_written : (w : Place) (t : Node) → Fits t s → S w (written_out t) ≡ nothing
  quiet_written w t = by_children (λ t. Fits t s → S w (written_out t) ≡ nothing) (
    (let e : written_out Absent ≡ Absent = search (rules, the_lemmas) in λ f. ap (S w) e ∙ of_absent w),
    λ x f. (let e : written_out (Flag x) ≡ Flag x = search (rules, the_lemmas) in ap (S w) e ∙ out_step w (Flag x) _ (outs-Flag x)),
    λ v f. (let e : written_out (Word v) ≡ Word v = search (rules, the_lemmas) in ap (S w) e ∙ out_step w (Word v) _ (outs-Word v)),
    λ x f. (let e : written_out (Text x) ≡ Text x = search (rules, the_lemmas) in ap (S w) e ∙ out_step w (Text x) _ (outs-Text x)),
    λ r f. (let e : written_out (Span r) ≡ Span r = search (rules, the_lemmas) in ap (S w) e ∙ out_step w (Span r) _ (outs-Span r)),
    λ k i f. absurd (names k i f),
  )
      (λ ts b f. absurd (lists ts f))
      (λ k ts b f. absurd (trees k ts f)) t

pub span_quiet : (w : Place) (t : Node) → Fits t (slot.One content.Span) → S w (written_out t) ≡ nothing
span_quiet = quiet_written (slot.One content.Span) (λ k i f. absurd (cc (sym (fits-Identifier k i (slot.One content.Span)) ∙ f))) (λ ts f. absurd (cc (sym (fits-List ts (slot.One content.Span)) ∙ f))) (λ k ts f. absurd (cc (sym (fits-Tree k ts (slot.One content.Span)) ∙ f)))

text_quiet : (w : Place) (t : Node) → Fits t (slot.One content.Text) → S w (written_out t) ≡ nothing
text_quiet = quiet_written (slot.One content.Text) (λ k i f. absurd (cc (sym (fits-Identifier k i (slot.One content.Text)) ∙ f))) (λ ts f. absurd (cc (sym (fits-List ts (slot.One content.Text)) ∙ f))) (λ k ts f. absurd (cc (sym (fits-Tree k ts (slot.One content.Text)) ∙ f)))

pub raw_quiet : (w : Place) (t : Node) → Fits t (slot.Optional content.Text) → S w (written_out t) ≡ nothing
raw_quiet = quiet_written (slot.Optional content.Text) (λ k i f. absurd (cc (sym (fits-Identifier k i (slot.Optional content.Text)) ∙ f))) (λ ts f. absurd (cc (sym (fits-List ts (slot.Optional content.Text)) ∙ f)))
    (λ k ts f. absurd (cc (sym (fits-Tree k ts (slot.Optional content.Text)) ∙ f)))

-- a name of a module, as it is exported, written out
outer_written : (n : Bool) (t : Node) → Fits t (one class.ModuleExportName) → S (P standing.Exported n) (written_out t) ≡ nothing
outer_written n t = by_children (λ t. Fits t (one class.ModuleExportName) → S (P standing.Exported n) (written_out t) ≡ nothing) (
  λ f. absurd (cc (sym (fits-Absent (one class.ModuleExportName)) ∙ f)),
  λ x f. absurd (cc (sym (fits-Flag x (one class.ModuleExportName)) ∙ f)),
  λ v f. absurd (cc (sym (fits-Word v (one class.ModuleExportName)) ∙ f)),
  λ x f. absurd (cc (sym (fits-Text x (one class.ModuleExportName)) ∙ f)),
  λ s f. absurd (cc (sym (fits-Span s (one class.ModuleExportName)) ∙ f)),
  λ k i f. ap (S (P standing.Exported n)) (written_name k i) ∙ outer_quiet standing.Exported n k i refl,
)
    (λ ts b f. absurd (cc (sym (fits-List ts (one class.ModuleExportName)) ∙ f)))
    (λ k ts b f. at k ts (tree_opens k ts class.ModuleExportName f).0 (tree_opens k ts class.ModuleExportName f).1 (tree_opens k ts class.ModuleExportName f).2) t
  where
    at : (k : Kind) (ts : List Node) → IsTrue (not (is_identifier k)) → IsTrue (belongs k class.ModuleExportName) → FieldsFit (slots_of k) ts → S (P standing.Exported n) (written_out (Tree k ts)) ≡ nothing
    at kind.Str (a ∷ v ∷ w ∷ []) i c f =
        ap (S (P standing.Exported n)) (written_tree kind.Str (a ∷ v ∷ w ∷ []) ∙ rolls-Tree kind.Str (written_out a ∷ written_out v ∷ written_out w ∷ []))
        ∙ out_step (P standing.Exported n) (Tree kind.Str (written_out a ∷ written_out v ∷ written_out w ∷ [])) _ (outs-Tree kind.Str (written_out a ∷ written_out v ∷ written_out w ∷ []))
        ∙ ap (λ x. both x (both (S (P standing.Plain n) (written_out v)) (both (S (P standing.Plain n) (written_out w)) nothing))) (span_quiet (P standing.Plain n) a f.0)
        ∙ ap (λ x. both x (both (S (P standing.Plain n) (written_out w)) nothing)) (text_quiet (P standing.Plain n) v f.1.0)
        ∙ ap (λ x. both x nothing) (raw_quiet (P standing.Plain n) w f.1.1.0)
    at kind.Str [] i c f = absurd f
    at kind.Str (a ∷ []) i c f = absurd f.1
    at kind.Str (a ∷ v ∷ []) i c f = absurd f.1.1
    at kind.Str (a ∷ v ∷ w ∷ x ∷ ts) i c f = absurd f.1.1.1
    at kind.Ident ts i c f = absurd (cc)
    at _ ts i c f = absurd (cc)

-- an export list
abbrev SpecifierSame : Node → Type 0
SpecifierSame t = (r : Standing) (n : Bool) → Fits t (one class.ExportSpecifier) → S (P r n) (specifier (written_out t)) ≡ S (P r n) (written_out t)

specifier_tree : (k : Kind) (ts : List Node) → IsTrue (belongs k class.ExportSpecifier) → FieldsFit (slots_of k) ts → (r : Standing) (n : Bool) → S (P r n) (specifier (written_out (Tree k ts))) ≡ S (P r n) (written_out (Tree k ts))
specifier_tree kind.ExportNamedSpecifier (a ∷ o ∷ e ∷ []) b f r n =
    let is : written_out (Tree kind.ExportNamedSpecifier (a ∷ o ∷ e ∷ [])) ≡ Tree kind.ExportNamedSpecifier (written_out a ∷ written_out o ∷ written_out e ∷ [])
    = written_tree kind.ExportNamedSpecifier (a ∷ o ∷ e ∷ []) ∙ rolls-Tree kind.ExportNamedSpecifier (written_out a ∷ written_out o ∷ written_out e ∷ []) in
    ap (λ u. S (P r n) (specifier u)) is
    ∙ ap (λ y. S (P r n) (specifier_in (Tree kind.ExportNamedSpecifier (written_out a ∷ written_out o ∷ written_out e ∷ [])) y)) (outs-Tree kind.ExportNamedSpecifier (written_out a ∷ written_out o ∷ written_out e ∷ []))
    ∙ out_step (P r n) (Tree kind.ExportNamedSpecifier (written_out a ∷ written_out o ∷ again (written_out o) (written_out e) ∷ [])) _ (outs-Tree kind.ExportNamedSpecifier (written_out a ∷ written_out o ∷ again (written_out o) (written_out e) ∷ []))
    ∙ ap (λ x. both (S (P standing.Plain n) (written_out a)) (both (S (P (part_standing r (Some (written_out o))) n) (written_out o)) (both x nothing)))
    (again_quiet standing.Exported n (written_out o) (written_out e) refl (outer_written n o f.1.0))
    ∙ sym (out_step (P r n) (Tree kind.ExportNamedSpecifier (written_out a ∷ written_out o ∷ written_out e ∷ [])) _ (outs-Tree kind.ExportNamedSpecifier (written_out a ∷ written_out o ∷ written_out e ∷ [])))
    ∙ sym (ap (S (P r n)) is)
specifier_tree kind.ExportNamedSpecifier [] b f r n = absurd f
specifier_tree kind.ExportNamedSpecifier (a ∷ []) b f r n = absurd f.1
specifier_tree kind.ExportNamedSpecifier (a ∷ o ∷ []) b f r n = absurd f.1.1
specifier_tree kind.ExportNamedSpecifier (a ∷ o ∷ e ∷ x ∷ ts) b f r n = absurd f.1.1.1
specifier_tree kind.ExportNamespaceSpecifier ts b f r n =
    let is : written_out (Tree kind.ExportNamespaceSpecifier ts) ≡ Tree kind.ExportNamespaceSpecifier (map written_out ts) = written_tree kind.ExportNamespaceSpecifier ts ∙ rolls-Tree kind.ExportNamespaceSpecifier (map written_out ts) in
    ap (λ u. S (P r n) (specifier u)) is
    ∙ ap (λ y. S (P r n) (specifier_in (Tree kind.ExportNamespaceSpecifier (map written_out ts)) y)) (outs-Tree kind.ExportNamespaceSpecifier (map written_out ts))
    ∙ sym (ap (S (P r n)) is)
specifier_tree _ ts b f r n = absurd (true≢false (sym b))

specifier_same : (t : Node) → SpecifierSame t
specifier_same t = by_children SpecifierSame (
  λ r n f. absurd (cc (sym (fits-Absent (one class.ExportSpecifier)) ∙ f)),
  λ x r n f. absurd (cc (sym (fits-Flag x (one class.ExportSpecifier)) ∙ f)),
  λ v r n f. absurd (cc (sym (fits-Word v (one class.ExportSpecifier)) ∙ f)),
  λ x r n f. absurd (cc (sym (fits-Text x (one class.ExportSpecifier)) ∙ f)),
  λ s r n f. absurd (cc (sym (fits-Span s (one class.ExportSpecifier)) ∙ f)),
  λ k i r n f. ap (S (P r n)) (ap specifier (written_name k i) ∙ ap (specifier_in (Identifier k i)) (outs-Identifier k i) ∙ sym (written_name k i)),
)
    (λ ts b r n f. absurd (cc (sym (fits-List ts (one class.ExportSpecifier)) ∙ f)))
    (λ k ts b r n f. specifier_tree k ts (tree_opens k ts class.ExportSpecifier f).1 (tree_opens k ts class.ExportSpecifier f).2 r n) t

specifiers_same : (r : Standing) (n : Bool) (ts : List Node) → AllFit (one class.ExportSpecifier) ts → all (P r n) (map specifier (map written_out ts)) ≡ all (P r n) (map written_out ts)
specifiers_same r n [] f = refl
specifiers_same r n (t ∷ ts) f = ap (λ x. both x (all (P r n) (map specifier (map written_out ts)))) (specifier_same t r n f.0) ∙ ap (both (S (P r n) (written_out t))) (specifiers_same r n ts f.1)

pub export_list_same : (r : Standing) (n : Bool) (s : Node) → binds_patterns r ≡ false → Fits s (slot.List (content.Node class.ExportSpecifier)) → S (P r n) (Many (map specifier (items_of (written_out s)))) ≡ S (P r n) (written_out s)
export_list_same r n s e f =
    let l = listed s (content.Node class.ExportSpecifier) f in
    let is : written_out s ≡ Many (map written_out l.items) = ap written_out l.is ∙ written_list l.items in
    ap (λ u. S (P r n) (Many (map specifier (items_of u)))) is
    ∙ ap (λ us. S (P r n) (Many (map specifier us))) (items_of_list (map written_out l.items))
    ∙ of_list (P r n) (map specifier (map written_out l.items)) e
    ∙ specifiers_same r n l.items l.fit
    ∙ sym (of_list (P r n) (map written_out l.items) e)
    ∙ sym (ap (S (P r n)) is)

-- the branch of an `if`
not_block : (l : Kind) (us : List Node) (t : Node) → is_block_kind l ≡ false → opened_branch_in t (Node-F.Tree l us) ≡ t
not_block kind.BlockStmt us t e = absurd (cc)
not_block kind.Module us t e = refl
not_block _ us t e = refl

abbrev OpenedSame : Node → Type 0
OpenedSame c = (n : Bool) → Fits c (one class.Stmt) → Known c → is_tame c false ≡ true → opens_loose (out-Node c) ≡ true → S (P standing.Branch n) (opened_branch (written_out c)) ≡ S (P standing.Branch n) (written_out c)

pub tame_of : (b : Bool) (c : Node) → part_tame b (of c) ≡ true → is_tame c b ≡ true
tame_of b c h = (both_are (not (b && is_identifier_expression (Some c))) (is_tame c b) h).1

abbrev block : Node → List Node → Node
block a ss = Tree kind.BlockStmt (a ∷ Many ss ∷ [])

block_is : (a : Node) (ss : List Node) → written_out (block a ss) ≡ block (written_out a) (map written_out ss)
block_is a ss = written_tree kind.BlockStmt (a ∷ Many ss ∷ []) ∙ rolls-Tree kind.BlockStmt (written_out a ∷ written_out (Many ss) ∷ []) ∙ ap (λ z. Tree kind.BlockStmt (written_out a ∷ z ∷ [])) (written_list ss)

opened_is : (a : Node) (us : List Node) → opened_branch (block a us) ≡ only_in (block a us) us
opened_is a us = ap (opened_branch_in (block a us)) (outs-Tree kind.BlockStmt (a ∷ Many us ∷ [])) ∙ ap (only_in (block a us)) (items_of_list us)

only_same : (a : Node) (ss : List Node) (n : Bool) → Fits a (slot.One content.Span) → AllFit (one class.Stmt) ss → Claim (block a ss) → Each Claim ss → Fits (block a ss) (one class.Stmt) → is_tame (block a ss) false ≡ true → items_tame false (map of ss) ≡ true
    → opens_loose_in ss ≡ true → S (P standing.Branch n) (only_in (block (written_out a) (map written_out ss)) (map written_out ss)) ≡ S (P standing.Branch n) (block (written_out a) (map written_out ss))
only_same a [] n fa fs claim each f t items loose = refl
only_same a (s ∷ u ∷ ss) n fa fs claim each f t items loose = refl
only_same a (s ∷ []) n fa fs claim each f t items loose = at (takes_else (written_out s)) refl
  where
    goes : takes_else s ≡ true → S (P standing.Branch n) (written_out s) ≡ S (P standing.Branch n) (block (written_out a) (written_out s ∷ []))
    goes e =
        each.0 standing.Branch n false (one class.Stmt) fs.0 refl (tame_of false s (both_are (part_tame false (of s)) true items).0) (λ z. refl)
        ∙ block_goes n a s fa fs.0 e (implied (takes_else s) (is_loose s) loose e)
        ∙ sym (claim standing.Branch n false (one class.Stmt) f refl t (λ z. refl))
        ∙ ap (S (P standing.Branch n)) (block_is a (s ∷ []))

    at : (z : Bool) → takes_else (written_out s) ≡ z → S (P standing.Branch n) (only_in (block (written_out a) (written_out s ∷ [])) (written_out s ∷ [])) ≡ S (P standing.Branch n) (block (written_out a) (written_out s ∷ []))
    at true e = ap (λ z. S (P standing.Branch n) (cond z (written_out s) (block (written_out a) (written_out s ∷ [])))) e ∙ goes (sym (takes_written s) ∙ e)
    at false e = ap (λ z. S (P standing.Branch n) (cond z (written_out s) (block (written_out a) (written_out s ∷ [])))) e

listed_block : (a : Node) (ss : List Node) → OpenedSame (block a ss)
listed_block a ss n f known t loose =
    let fields = (tree_opens kind.BlockStmt (a ∷ Many ss ∷ []) class.Stmt f).2 in
    let inner : statements_in (out-Node (block a ss)) ≡ ss = ap statements_in (outs-Tree kind.BlockStmt (a ∷ Many ss ∷ [])) ∙ items_of_list ss in
    let opens : opens_loose_in ss ≡ true = ap opens_loose_in (sym (items_of_list ss)) ∙ sym (ap opens_loose (outs-Tree kind.BlockStmt (a ∷ Many ss ∷ []))) ∙ loose in
    let parts = sym (tame_tree kind.BlockStmt (a ∷ Many ss ∷ []) false) ∙ t in
    let items : items_tame false (map of ss) ≡ true = sym (tame_list ss false) ∙ tame_of false (Many ss) (tame_at (field_role kind.BlockStmt) false (a ∷ Many ss ∷ []) 1 (Many ss) parts refl) in
    ap (λ u. S (P standing.Branch n) (opened_branch u)) (block_is a ss)
    ∙ ap (S (P standing.Branch n)) (opened_is (written_out a) (map written_out ss))
    ∙ only_same a ss n fields.0 (list_opens ss (content.Node class.Stmt) fields.1.0) known.0 (subst (Each Claim) inner known.2) f t items opens
    ∙ sym (ap (S (P standing.Branch n)) (block_is a ss))

opened_tree : (k : Kind) (ts : List Node) → OpenedSame (Tree k ts)
opened_tree kind.BlockStmt [] n f known t loose = absurd ((tree_opens kind.BlockStmt [] class.Stmt f).2)
opened_tree kind.BlockStmt (a ∷ []) n f known t loose = absurd ((tree_opens kind.BlockStmt (a ∷ []) class.Stmt f).2.1)
opened_tree kind.BlockStmt (a ∷ b ∷ c ∷ ts) n f known t loose = absurd ((tree_opens kind.BlockStmt (a ∷ b ∷ c ∷ ts) class.Stmt f).2.1.1)
opened_tree kind.BlockStmt (a ∷ b ∷ []) n f known t loose =
    let l = listed b (content.Node class.Stmt) (tree_opens kind.BlockStmt (a ∷ b ∷ []) class.Stmt f).2.1.0 in
    subst (λ b. OpenedSame (Tree kind.BlockStmt (a ∷ b ∷ []))) (sym l.is) (listed_block a l.items) n f known t loose
opened_tree k ts n f known t loose = other refl
  where
    other : is_block_kind k ≡ false → S (P standing.Branch n) (opened_branch (written_out (Tree k ts))) ≡ S (P standing.Branch n) (written_out (Tree k ts))
    other e =
        let (l, us, is, blocks, ending) = step_tree k (map written_out ts) in
        let whole : written_out (Tree k ts) ≡ Tree l us = written_tree k ts ∙ is in
        ap (λ u. S (P standing.Branch n) (opened_branch u)) whole ∙ ap (λ y. S (P standing.Branch n) (opened_branch_in (Tree l us) y)) (outs-Tree l us)
        ∙ ap (S (P standing.Branch n)) (not_block l us (Tree l us) (blocks ∙ e)) ∙ sym (ap (S (P standing.Branch n)) whole)

pub opened_same : (c : Node) → OpenedSame c
opened_same c = by_children OpenedSame (
  λ n f. absurd (cc (sym (fits-Absent (one class.Stmt)) ∙ f)),
  λ x n f. absurd (cc (sym (fits-Flag x (one class.Stmt)) ∙ f)),
  λ v n f. absurd (cc (sym (fits-Word v (one class.Stmt)) ∙ f)),
  λ x n f. absurd (cc (sym (fits-Text x (one class.Stmt)) ∙ f)),
  λ s n f. absurd (cc (sym (fits-Span s (one class.Stmt)) ∙ f)),
  λ k i n f known t loose. ap (S (P standing.Branch n)) (ap opened_branch (written_name k i) ∙ ap (opened_branch_in (Identifier k i)) (outs-Identifier k i) ∙ sym (written_name k i)),
)
    (λ ts b n f. absurd (cc (sym (fits-List ts (one class.Stmt)) ∙ f)))
    (λ k ts b. opened_tree k ts) c
