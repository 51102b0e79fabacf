-- Names and other leaves are tame.
use Rattle.std.proofs.Common.{◌≡◌, ℕ, Bool, true, false, List, [], ◌∷◌, map, refl, ap, ◌∙◌, rules, sym, true≢false}
use Rattle.std.specs.Prelude.{unwrap_or, option_map}
use Rattle.std.specs.List.{list_all, slice_get}
use Rattle.swc_tree_node.specs.declared.kind.Kind.{Kind}
use Rattle.swc_tree_node.specs.declared.kind.Kind.TheVariants as kind
use Rattle.swc_tree_node.specs.declared.slot.Role.{Role}
use Rattle.swc_tree_node.specs.declared.slot.Role.TheVariants as role
use Rattle.swc_tree_node.specs.declared.slot.Slot.{Slot}
use Rattle.swc_tree_node.specs.declared.node.Node.{Node, Tree, the_lemmas}
use Rattle.swc_tree_node.specs.declared.node.Node.TheOpen.{Node-F}
use Rattle.swc_tree_node.specs.Table.{fields_of, slots_of}
use Rattle.swc_tree_node.specs.Fits.{FieldsFit, Fits}
use Rattle.swc_tree_grammar.proofs.Induction.{Each}
use Rattle.swc_tree_grammar_laws.proofs.Levelled.{also, half}
use Rattle.swc_tree_sites.proofs.Leaves.{Field}
use Rattle.swc_tree_sites_written.specs.Tame.{binds_in, branch_tame, fields_tame, is_tame, items_tame, part_tame}
use Rattle.swc_tree_sites_written.proofs.Written.{of as told, tame_list, tame_tree}
use Rattle.swc_base_fixer_laws.proofs.Quiet.{is_quiet, is_quiet_kind, quiet, quiet_fields, quiet_slots}

-- the roles of the fields, by their number
abbrev pub roles_of : List Field → ℕ → Role
roles_of fs i = unwrap_or (option_map (λ f. f.2) (slice_get fs i)) role.Plain

-- nothing is bound in a field, or what the whole binds
abbrev pub is_unbinding : Role → Bool
is_unbinding role.Parameter = false
is_unbinding role.Catch = false
is_unbinding role.Declared = false
is_unbinding role.Lexical = false
is_unbinding _ = true

pub unbinding : (x : Role) → is_unbinding x ≡ true → binds_in x false ≡ false
unbinding role.Parameter h = absurd (cc)
unbinding role.Catch h = absurd (cc)
unbinding role.Declared h = absurd (cc)
unbinding role.Lexical h = absurd (cc)
unbinding role.Inherited h = refl
unbinding role.Plain h = refl
unbinding _ h = refl

-- nothing is bound in the fields of a quiet kind
abbrev is_free : Kind → Bool
is_free k = list_all (λ f. is_unbinding f.2) (fields_of k)

quiet_kind : (k : Kind) → is_quiet_kind k ≡ true → is_free k ≡ true
quiet_kind kind.Str q = refl
quiet_kind kind.Super q = refl
quiet_kind kind.TplElement q = refl
quiet_kind kind.PrivateName q = refl
quiet_kind kind.ExportNamespaceSpecifier q = refl
quiet_kind kind.ExportNamedSpecifier q = refl
quiet_kind k q = absurd (true≢false (sym q))

no_branch : (k : Kind) (ts : List Node) → list_all is_quiet (slots_of k) ≡ true → branch_tame (Node-F.Tree k (map told ts)) ≡ true
no_branch kind.IfStmt ts q = absurd (true≢false (sym q))
no_branch k ts q = refl

abbrev Tame : Node → Type 0
Tame t = is_tame t false ≡ true

all_tame : (ts : List Node) → Each Tame ts → items_tame false (map told ts) ≡ true
all_tame [] l = refl
all_tame (t ∷ ts) l = also l.0 (all_tame ts l.1)

all_parts : (fs : List Field) (ts : List Node) → Each Tame ts → list_all (λ f. is_unbinding f.2) fs ≡ true → fields_tame (roles_of fs) false (map told ts) ≡ true
all_parts fs [] l b = refl
all_parts [] (t ∷ ts) l b = also l.0 (all_parts [] ts l.1 b)
all_parts (x ∷ fs) (t ∷ ts) l b = let p = half {a = is_unbinding x.2} b in also (ap (λ b. part_tame b (told t)) (unbinding x.2 p.0) ∙ l.0) (all_parts fs ts l.1 p.1)

quiet_fold : (k : Kind) (ts : List Node) → list_all is_quiet (slots_of k) ≡ true → is_free k ≡ true → Each Tame ts → is_tame (Tree k ts) false ≡ true
quiet_fold k ts q b l = tame_tree k ts false ∙ also (no_branch k ts q) (all_parts (fields_of k) ts l b)

pub quiet_tame : (t : Node) (s : Slot) → is_quiet s ≡ true → Fits t s → is_tame t false ≡ true
quiet_tame t = quiet Tame
    (search (rules, the_lemmas), λ x. search (rules, the_lemmas), λ w. search (rules, the_lemmas), λ x. search (rules, the_lemmas), λ r. search (rules, the_lemmas), λ k i. search (rules, the_lemmas))
    (λ ts l. tame_list ts false ∙ all_tame ts l)
    (λ k ts q l. quiet_fold k ts (quiet_slots k q) (quiet_kind k q) l) t

pub quiet_tree : (k : Kind) (ts : List Node) → list_all is_quiet (slots_of k) ≡ true → is_free k ≡ true → FieldsFit (slots_of k) ts → is_tame (Tree k ts) false ≡ true
quiet_tree k ts q b f = quiet_fold k ts q b (quiet_fields Tame quiet_tame (slots_of k) ts q f)
