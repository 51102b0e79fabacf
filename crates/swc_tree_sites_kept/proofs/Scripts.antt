-- A script and the module of its items: what is stripped, written out or set in the one is in the other, and where the
-- script is settled, its names are the module's.
use Rattle.std.proofs.Common.{◌≡◌, true, false, IsTrue, Some, List, [], ◌∷◌, ◌++◌, map, refl, sym, ap, ◌∙◌, subst, true≢false}
use Rattle.std.specs.List.{flat_map}
use Rattle.swc_tree_marks.specs.declared.ident.Ident.{Ident}
use Rattle.swc_tree_node.specs.declared.kind.Kind.{Kind}
use Rattle.swc_tree_node.specs.declared.kind.Kind.TheVariants as kind
use Rattle.swc_tree_node.specs.declared.kind.Class.TheVariants as class
use Rattle.swc_tree_node.specs.declared.slot.Content.TheVariants as content
use Rattle.swc_tree_node.specs.declared.slot.Slot.TheVariants as slot
use Rattle.swc_tree_node.specs.declared.node.Node.{Node, List as Many, Identifier, Tree, out-Node}
use Rattle.swc_tree_node.specs.declared.node.Node.TheOpen.{Node-F}
use Rattle.swc_tree_node.specs.declared.node.Node.TheVariants.{outs-Identifier, outs-Tree, rolls-Tree}
use Rattle.swc_tree_node.specs.Table.{is_identifier, slots_of}
use Rattle.swc_tree_node.specs.Fits.{AllFit, FieldsFit, Fits, belongs}
use Rattle.swc_tree_node.proofs.Fit.{list_closes, tree_closes}
use Rattle.swc_tree_scoping.specs.declared.places.Place.{Place}
use Rattle.swc_tree_scoping.specs.declared.places.Scope.TheVariants as scope
use Rattle.swc_tree_scoping.specs.Places.{children_in, opened_in, place_in, program_place, view_from}
use Rattle.swc_tree_scoping.specs.Folds.{each_in}
use Rattle.swc_tree_scoping.specs.Scopes.{view_in}
use Rattle.swc_tree_grammar.specs.Due.{Places, with_due_pairs, paired_at_starts, paired_in_heads}
use Rattle.swc_tree_grammar.specs.Normal.{split, split_in, written_out}
use Rattle.swc_tree_grammar.specs.Shapes.{items_of}
use Rattle.swc_tree_grammar.specs.Stripped.{stripped}
use Rattle.swc_tree_grammar.specs.Targets.{all_bare}
use Rattle.swc_tree_grammar.proofs.Items.{items_of_list, listed}
use Rattle.swc_tree_grammar.proofs.Places.{one, wider}
use Rattle.swc_tree_grammar.proofs.Stripped.{stripped_other}
use Rattle.swc_tree_grammar.proofs.Walks.{bare_of_tree}
use Rattle.swc_tree_grammar_laws.proofs.Begins.{starts_of_tree}
use Rattle.swc_tree_grammar_laws.proofs.Heads.{heading, heading_tree}
use Rattle.swc_tree_grammar_laws.proofs.Levels.{pairing, pairing_tree}
use Rattle.swc_tree_sites.specs.Sites.{taken_at, taken_in, taken_of}
use Rattle.swc_tree_sites.proofs.Kept.{S, out_step}
use Rattle.swc_tree_sites_written.specs.Tame.{is_tame}
use Rattle.swc_tree_sites_written.proofs.Modules.{is_export, not_split, step_other}
use Rattle.swc_tree_sites_written.proofs.Written.{tame_tree, written_list, written_name, written_tree}
use Rattle.swc_tree_sites_kept.proofs.Patterns.{only_node}
use Rattle.swc_tree_sites_kept.specs.Scripts.{script_place}
use Rattle.swc_tree_sites_kept.specs.Settled.{is_settled}
use Rattle.swc_tree_sites_kept.proofs.Bridge.{settled_sites, settled_takes, strictly}

abbrev pub SettledScript : Node → Type 0
SettledScript t = is_settled program_place t ≡ true

-- a script is one by its fields
pub record IsScript (t : Node) : Type 0 where
  pub span : Node
  pub body : Node
  pub shebang : Node
  pub is : t ≡ Tree kind.Script (span ∷ body ∷ shebang ∷ [])

-- and their places
record Opened (t : Node) : Type 0 where
  script : IsScript t
  fields : FieldsFit (slots_of kind.Script) (script.span ∷ script.body ∷ script.shebang ∷ [])

opens : (t : Node) → Fits t script_place → Opened t
opens = only_node class.Script Opened (λ k i a b. absurd (no_name k a b)) (λ k ts b f g. tree k ts b f)
  where
    no_name : (k : Kind) → IsTrue (is_identifier k) → IsTrue (belongs k class.Script) → ⊥
    no_name kind.Ident a b = absurd (cc)
    no_name kind.BindingIdent a b = absurd (cc)
    no_name _ a b = true≢false (sym a)

    tree : (k : Kind) (ts : List Node) → IsTrue (belongs k class.Script) → FieldsFit (slots_of k) ts → Opened (Tree k ts)
    tree kind.Script [] b f = absurd f
    tree kind.Script (x ∷ []) b f = absurd f.1
    tree kind.Script (x ∷ y ∷ []) b f = absurd f.1.1
    tree kind.Script (x ∷ y ∷ z ∷ v ∷ ts) b f = absurd f.1.1.1
    tree kind.Script (x ∷ y ∷ z ∷ []) b f = record { script = record { span = x; body = y; shebang = z; is = refl }; fields = f }
    tree _ ts b f = absurd (true≢false (sym b))

pub script_is : (t : Node) → Fits t script_place → IsScript t
script_is t f = (opens t f).script

-- the module of the items
abbrev pub as_module : Node → Node
as_module t = Tree kind.Module (children_in (out-Node t))

module_is : (ts : List Node) → as_module (Tree kind.Script ts) ≡ Tree kind.Module ts
module_is ts = ap (λ y. Tree kind.Module (children_in y)) (outs-Tree kind.Script ts)

-- what holds of each script by its fields holds of scripts
by_fields : (P : Node → Type 0) → ((x y z : Node) → P (Tree kind.Script (x ∷ y ∷ z ∷ []))) → (t : Node) → IsScript t → P t
by_fields P each t s = subst P (sym s.is) (each s.span s.body s.shebang)

by_place : (P : Node → Type 0) → ((x y z : Node) → FieldsFit (slots_of kind.Script) (x ∷ y ∷ z ∷ []) → P (Tree kind.Script (x ∷ y ∷ z ∷ []))) → (t : Node) → Fits t script_place → P t
by_place P each t f = let o = opens t f in subst P (sym o.script.is) (each o.script.span o.script.body o.script.shebang o.fields)

-- a statement is an item of a module
items_fit : (ts : List Node) → AllFit (one class.Stmt) ts → AllFit (one class.ModuleItem) ts
items_fit [] f = tt
items_fit (t ∷ ts) f = (wider class.Stmt class.ModuleItem (one class.ModuleItem) refl refl t f.0, items_fit ts f.1)

pub module_fits : (t : Node) → Fits t script_place → Fits (as_module t) (one class.Module)
module_fits = by_place (λ t. Fits (as_module t) (one class.Module)) (λ x y z f. subst (λ t. Fits t (one class.Module)) (sym (module_is (x ∷ y ∷ z ∷ []))) (
    let l = listed y (content.Node class.Stmt) f.1.0 in
    let body : Fits y (slot.List (content.Node class.ModuleItem)) = subst (λ y. Fits y (slot.List (content.Node class.ModuleItem))) (sym l.is) (list_closes l.items (content.Node class.ModuleItem) (items_fit l.items l.fit)) in
    tree_closes kind.Module (x ∷ y ∷ z ∷ []) class.Module refl refl (f.0, (body, (f.1.1.0, tt)))))

pub module_bare : (t : Node) → IsScript t → all_bare (as_module t) ≡ all_bare t
module_bare = by_fields (λ t. all_bare (as_module t) ≡ all_bare t) (λ x y z. (let ts = x ∷ y ∷ z ∷ [] in ap all_bare (module_is ts) ∙ bare_of_tree kind.Module ts ∙ sym (bare_of_tree kind.Script ts)))

pub module_tame : (t : Node) → IsScript t → is_tame (as_module t) false ≡ is_tame t false
module_tame = by_fields (λ t. is_tame (as_module t) false ≡ is_tame t false)
    (λ x y z. (let ts = x ∷ y ∷ z ∷ [] in ap (λ t. is_tame t false) (module_is ts) ∙ tame_tree kind.Module ts false ∙ sym (tame_tree kind.Script ts false)))

pub module_stripped : (t : Node) → IsScript t → stripped (as_module t) ≡ as_module (stripped t)
module_stripped = by_fields (λ t. stripped (as_module t) ≡ as_module (stripped t)) (λ x y z. (
    let ts = x ∷ y ∷ z ∷ [] in
    ap stripped (module_is ts) ∙ stripped_other kind.Module ts refl ∙ sym (ap as_module (stripped_other kind.Script ts refl) ∙ module_is (map stripped ts))))

-- ---- written out

-- a statement is no export declaration, which alone are split
statement_kind : (k : Kind) → IsTrue (belongs k class.Stmt) → is_export k ≡ false
statement_kind kind.ExportDecl b = absurd (true≢false (sym b))
statement_kind _ b = refl

statement_whole : (t : Node) → Fits t (one class.Stmt) → split (written_out t) ≡ written_out t ∷ []
statement_whole = only_node class.Stmt (λ t. split (written_out t) ≡ written_out t ∷ []) (λ k i a b. name k i) (λ k ts b f g. tree k ts b)
  where
    name : (k : Kind) (i : Ident) → split (written_out (Identifier k i)) ≡ written_out (Identifier k i) ∷ []
    name k i = ap split (written_name k i) ∙ ap (split_in (Identifier k i)) (outs-Identifier k i) ∙ ap (λ u. u ∷ []) (sym (written_name k i))

    tree : (k : Kind) (ts : List Node) → IsTrue (belongs k class.Stmt) → split (written_out (Tree k ts)) ≡ written_out (Tree k ts) ∷ []
    tree k ts b =
        let (l, us, is, whole) = step_other k (map written_out ts) (statement_kind k b) in
        let e : written_out (Tree k ts) ≡ Tree l us = written_tree k ts ∙ is in
        ap split e ∙ ap (split_in (Tree l us)) (outs-Tree l us) ∙ not_split l us (Tree l us) whole ∙ ap (λ u. u ∷ []) (sym e)

statements_whole : (ts : List Node) → AllFit (one class.Stmt) ts → flat_map split (map written_out ts) ≡ map written_out ts
statements_whole [] f = refl
statements_whole (t ∷ ts) f = ap (λ l. l ++ flat_map split (map written_out ts)) (statement_whole t f.0) ∙ ap (λ l. written_out t ∷ l) (statements_whole ts f.1)

body_whole : (y : Node) → Fits y (slot.List (content.Node class.Stmt)) → Many (flat_map split (items_of (written_out y))) ≡ written_out y
body_whole y f =
    let l = listed y (content.Node class.Stmt) f in
    subst (λ y. Many (flat_map split (items_of (written_out y))) ≡ written_out y) (sym l.is)
    (ap (λ t. Many (flat_map split (items_of t))) (written_list l.items) ∙ ap (λ ts. Many (flat_map split ts)) (items_of_list (map written_out l.items))
    ∙ ap (λ ts. Many ts) (statements_whole l.items l.fit) ∙ sym (written_list l.items))

script_written : (ts : List Node) → written_out (Tree kind.Script ts) ≡ Tree kind.Script (map written_out ts)
script_written ts = written_tree kind.Script ts ∙ rolls-Tree kind.Script (map written_out ts)

pub written_is_script : (t : Node) → IsScript t → IsScript (written_out t)
written_is_script = by_fields (λ t. IsScript (written_out t)) (λ x y z. record { span = written_out x; body = written_out y; shebang = written_out z; is = script_written (x ∷ y ∷ z ∷ []) })

pub module_written : (t : Node) → Fits t script_place → written_out (as_module t) ≡ as_module (written_out t)
module_written = by_place (λ t. written_out (as_module t) ≡ as_module (written_out t)) (λ x y z f. (
    let ts = x ∷ y ∷ z ∷ [] in
    ap written_out (module_is ts) ∙ written_tree kind.Module ts ∙ ap (λ b. Tree kind.Module (written_out x ∷ b ∷ written_out z ∷ [])) (body_whole y f.1.0)
    ∙ sym (ap as_module (script_written ts) ∙ module_is (map written_out ts))))

-- ---- with due pairs

-- a program's fields get theirs each
abbrev due_fields : Places → List Node → List Node
due_fields p ts = map (paired_at_starts p) (map (λ f. f true) (map (heading p) (map (λ f. f false) (map (pairing p) ts))))

module_due : (p : Places) (ts : List Node) → with_due_pairs p (Tree kind.Module ts) ≡ Tree kind.Module (due_fields p ts)
module_due p ts =
    let us = map (λ f. f false) (map (pairing p) ts) in let vs = map (λ f. f true) (map (heading p) us) in
    ap (λ t. paired_at_starts p (paired_in_heads p t)) (pairing_tree p kind.Module ts false)
    ∙ ap (paired_at_starts p) (heading_tree p kind.Module us true ∙ rolls-Tree kind.Module vs) ∙ starts_of_tree p kind.Module vs ∙ rolls-Tree kind.Module (map (paired_at_starts p) vs)

script_due : (p : Places) (ts : List Node) → with_due_pairs p (Tree kind.Script ts) ≡ Tree kind.Script (due_fields p ts)
script_due p ts =
    let us = map (λ f. f false) (map (pairing p) ts) in let vs = map (λ f. f true) (map (heading p) us) in
    ap (λ t. paired_at_starts p (paired_in_heads p t)) (pairing_tree p kind.Script ts false)
    ∙ ap (paired_at_starts p) (heading_tree p kind.Script us true ∙ rolls-Tree kind.Script vs) ∙ starts_of_tree p kind.Script vs ∙ rolls-Tree kind.Script (map (paired_at_starts p) vs)

pub module_with_due_pairs : (p : Places) (t : Node) → IsScript t → with_due_pairs p (as_module t) ≡ as_module (with_due_pairs p t)
module_with_due_pairs p = by_fields (λ t. with_due_pairs p (as_module t) ≡ as_module (with_due_pairs p t)) (λ x y z. (
    let ts = x ∷ y ∷ z ∷ [] in
    ap (with_due_pairs p) (module_is ts) ∙ module_due p ts ∙ sym (ap as_module (script_due p ts) ∙ module_is (due_fields p ts))))

-- ---- the names

program_takes : (w : Place) (k : Kind) (ts : List Node) → opened_in w (Node-F.Tree k ts) ≡ Some scope.Program
    → taken_at w (Tree k ts) ≡ taken_of scope.Program (view_from k) (each_in S (place_in w (Node-F.Tree k ts)) ts)
program_takes w k ts e =
    ap (taken_in w (Tree k ts)) (ap (opened_in w) (outs-Tree k ts) ∙ e)
    ∙ ap (λ y. taken_of scope.Program (view_in y) (each_in S (place_in w y) (children_in y))) (outs-Tree k ts)

-- a settled script has the names of the module of its items, and takes the same
pub script_sites : (t : Node) → IsScript t → SettledScript t → S program_place t ≡ S program_place (as_module t)
script_sites = by_fields (λ t. SettledScript t → S program_place t ≡ S program_place (as_module t)) (λ x y z h. (
    let ts = x ∷ y ∷ z ∷ [] in
    sym (settled_sites (Tree kind.Script ts) program_place h) ∙ out_step (strictly program_place) (Tree kind.Script ts) _ (outs-Tree kind.Script ts)
    ∙ sym (ap (S program_place) (module_is ts) ∙ out_step program_place (Tree kind.Module ts) _ (outs-Tree kind.Module ts))))

pub script_takes : (t : Node) → IsScript t → SettledScript t → taken_at program_place t ≡ taken_at program_place (as_module t)
script_takes = by_fields (λ t. SettledScript t → taken_at program_place t ≡ taken_at program_place (as_module t)) (λ x y z h. (
    let ts = x ∷ y ∷ z ∷ [] in
    sym (settled_takes (Tree kind.Script ts) program_place h) ∙ program_takes (strictly program_place) kind.Script ts refl
    ∙ sym (ap (taken_at program_place) (module_is ts) ∙ program_takes program_place kind.Module ts refl)))
