-- A block that goes when a tree is written out.
use Rattle.std.proofs.Common.{◌≡◌, ℕ, Bool, true, false, not, ◌||◌, inl, inr, Some, List, [], ◌∷◌, ◌++◌, map, refl, sym, ap, ◌∙◌, cond, rules, true≢false}
use Rattle.std.specs.List.{filter, list_all}
use Rattle.swc_tree_node.specs.declared.kind.Kind.{Kind}
use Rattle.swc_tree_node.specs.declared.node.Node.{Node, List as Many, Identifier, Tree, the_lemmas}
use Rattle.swc_tree_node.specs.declared.node.Node.TheOpen.{Node-F}
use Rattle.swc_tree_node.specs.declared.node.Node.TheVariants.{outs-Tree, rolls-Tree}
use Rattle.swc_tree_node.specs.Table.{fields_of}
use Rattle.swc_tree_node.specs.Fits.{Fits}
use Rattle.swc_tree_node.proofs.Fit.{both as both_are, fits-Absent, fits-Flag, fits-Word, fits-Text, fits-Span, fits-List}
use Rattle.swc_tree_scoping.specs.declared.places.Standing.{Standing}
use Rattle.swc_tree_scoping.specs.Places.{field_role, has_own_name, nested_below, opened_as, view_from}
use Rattle.swc_tree_scoping.specs.Folds.{each_in}
use Rattle.swc_tree_scoping.specs.Scopes.{takes}
use Rattle.swc_tree_grammar.specs.Normal.{as_pattern, opened as opened_branch, written_out, written_step}
use Rattle.swc_tree_grammar.proofs.Induction.{Each, by_children}
use Rattle.swc_tree_grammar.proofs.Places.{one}
use Rattle.swc_tree_sites.specs.Sites.{Binding, Site, Sites, in_scope, nothing, pushed, set_of, entry}
use Rattle.swc_tree_sites.specs.Smaller.{In}
use Rattle.swc_tree_sites_written.specs.Tame.{is_loose}
use Rattle.swc_tree_sites.proofs.Kept.{S, both_nothing, of_list, out_step}
use Rattle.swc_tree_sites_laws.proofs.Expressions.{P, is_default}
use Rattle.swc_tree_sites_written.proofs.Lists.{free_at, is_free_role, standing_alike}
use Rattle.swc_tree_sites_laws.proofs.StrippedFewer.{of_leaf}
use Rattle.swc_tree_grammar.specs.Blocks.{takes_else, takes_else_step}
use Rattle.swc_tree_grammar.proofs.Walks.{takes_else_of_tree}
use Rattle.std.proofs.lemmas.List.{append-nil}
use Rattle.swc_tree_sites_written.proofs.Branches.{nested}
use Rattle.swc_tree_sites_written.proofs.Written.{is_ending, step_tree, written_name, written_tree}
use Rattle.swc_tree_node.specs.declared.kind.Kind.TheVariants as kind
use Rattle.swc_tree_node.specs.declared.kind.Class.TheVariants as class
use Rattle.swc_tree_node.specs.declared.slot.Content.TheVariants as content
use Rattle.swc_tree_node.specs.declared.slot.Slot.TheVariants as slot
use Rattle.swc_tree_scoping.specs.declared.places.Standing.TheVariants as standing
use Rattle.swc_tree_scoping.specs.declared.places.Scope.TheVariants as scope

ending_roles : (k : Kind) → (not (is_ending k) || list_all (λ f. is_free_role f.2) (fields_of k)) ≡ true
ending_roles kind.Module = refl
ending_roles _ = refl

pub implied : (a b : Bool) → (not a || b) ≡ true → a ≡ true → b ≡ true
implied true b h e = h
implied false b h e = absurd (cc)

opened_ending : (k : Kind) (p q : Standing) (n b : Bool) → is_ending k ≡ true → opened_as (P p n) k b ≡ opened_as (P q n) k b
opened_ending kind.IfStmt p q n b e = refl
opened_ending kind.LabeledStmt p q n b e = refl
opened_ending kind.WhileStmt p q n b e = refl
opened_ending kind.WithStmt p q n b e = refl
opened_ending kind.ForStmt p q n b e = refl
opened_ending kind.ForInStmt p q n b e = refl
opened_ending kind.ForOfStmt p q n b e = refl
opened_ending _ p q n b e = absurd (true≢false (sym e))

-- such a statement has its names wherever it stands
ending_alike : (k : Kind) (ts : List Node) (p q : Standing) (n : Bool) → is_default p ≡ false → is_default q ≡ false → is_ending k ≡ true → S (P p n) (Tree k ts) ≡ S (P q n) (Tree k ts)
ending_alike k ts p q n d e h =
    out_step (P p n) (Tree k ts) (Node-F.Tree k ts) (outs-Tree k ts)
    ∙ (λ j. in_scope (opened_ending k p q n (has_own_name ts) h j) (view_from k) (each_in S (λ i. P (standing_alike k ts i (field_role k i) p q n d e (free i) j) (nested_below n (opened_ending k p q n (has_own_name ts) h j) (view_from k i))) ts))
    ∙ sym (out_step (P q n) (Tree k ts) (Node-F.Tree k ts) (outs-Tree k ts))
  where
    free : (i : ℕ) → is_free_role (field_role k i) ≡ true
    free i = free_at (fields_of k) i (implied (is_ending k) (list_all (λ f. is_free_role f.2) (fields_of k)) (ending_roles k) h)

ending_in : (k : Kind) (bs : List Bool) → takes_else_step (Node-F.Tree k bs) ≡ true → is_ending k ≡ true
ending_in kind.IfStmt bs h = refl
ending_in kind.LabeledStmt bs h = refl
ending_in kind.WhileStmt bs h = refl
ending_in kind.WithStmt bs h = refl
ending_in kind.ForStmt bs h = refl
ending_in kind.ForInStmt bs h = refl
ending_in kind.ForOfStmt bs h = refl
ending_in _ bs h = absurd (true≢false (sym h))

ends : (t : Node) (n : Bool) → Fits t (one class.Stmt) → takes_else t ≡ true → S (P standing.Branch n) t ≡ S (P standing.Plain n) t
ends t n = by_children (λ t. Fits t (one class.Stmt) → takes_else t ≡ true → S (P standing.Branch n) t ≡ S (P standing.Plain n) t) (
  λ f h. absurd (cc (sym (fits-Absent (one class.Stmt)) ∙ f)),
  λ x f h. absurd (cc (sym (fits-Flag x (one class.Stmt)) ∙ f)),
  λ v f h. absurd (cc (sym (fits-Word v (one class.Stmt)) ∙ f)),
  λ x f h. absurd (cc (sym (fits-Text x (one class.Stmt)) ∙ f)),
  λ s f h. absurd (cc (sym (fits-Span s (one class.Stmt)) ∙ f)),
  λ k i f h. (let z : takes_else (Identifier k i) ≡ false = search (rules, the_lemmas) in absurd (cc)),
)
    (λ ts b f h. absurd (cc (sym (fits-List ts (one class.Stmt)) ∙ f)))
    (λ k ts b f h. ending_alike k ts standing.Branch standing.Plain n refl refl (ending_in k (map takes_else ts) (sym (takes_else_of_tree k ts) ∙ h))) t

-- what leaves nothing to a block
loose_filter : (xs : List Binding) → list_all (λ b. not (takes b.0 scope.Block)) xs ≡ true → (filter (λ b. takes b.0 scope.Block) xs ≡ []) × (filter (λ b. not (takes b.0 scope.Block)) xs ≡ xs)
loose_filter [] h = (refl, refl)
loose_filter (b ∷ xs) h =
    let z = both_are (not (takes b.0 scope.Block)) (list_all (λ b. not (takes b.0 scope.Block)) xs) h in
    let r = loose_filter xs z.1 in
    at (takes b.0 scope.Block) z.0 r.0 r.1
  where
    at : (x : Bool) → not x ≡ true → filter (λ b. takes b.0 scope.Block) xs ≡ [] → filter (λ b. not (takes b.0 scope.Block)) xs ≡ xs
        → (cond x (b ∷ filter (λ b. takes b.0 scope.Block) xs) (filter (λ b. takes b.0 scope.Block) xs) ≡ []) × (cond (not x) (b ∷ filter (λ b. not (takes b.0 scope.Block)) xs) (filter (λ b. not (takes b.0 scope.Block)) xs) ≡ b ∷ xs)
    at true h e f = absurd (cc)
    at false h e f = (e, ap (λ l. b ∷ l) f)

loose_in : (xs : List Binding) → list_all (λ b. not (takes b.0 scope.Block)) xs ≡ true → (b : Binding) → In b xs → b.0 ≡ standing.BlockFunction → ⊥
loose_in [] h b i e = i
loose_in (x ∷ xs) h b (inl same) e =
    let z = (both_are (not (takes x.0 scope.Block)) (list_all (λ b. not (takes b.0 scope.Block)) xs) h).0 in
    let y = sym (ap (λ (b : Binding). not (takes b.0 scope.Block)) same ∙ ap (λ r. not (takes r scope.Block)) e) ∙ z in absurd (cc)
loose_in (x ∷ xs) h b (inr i) e = loose_in xs (both_are (not (takes x.0 scope.Block)) (list_all (λ b. not (takes b.0 scope.Block)) xs) h).1 b i e

pushed_none : (ss : List Site) → map (pushed []) ss ≡ ss
pushed_none [] = refl
pushed_none (s ∷ ss) = λ j. ((s.0, s.1, append-nil s.2 j) ∷ pushed_none ss j)

block_open : (a : Sites) → list_all (λ b. not (takes b.0 scope.Block)) a.pending ≡ true → in_scope (Some scope.Block) (view_from kind.BlockStmt) (nothing ∷ a ∷ []) ≡ a
block_open a h =
    let r = loose_filter a.pending h in
    let pend : filter (λ b. not (takes b.0 scope.Block)) (a.pending ++ []) ≡ a.pending = ap (filter (λ b. not (takes b.0 scope.Block))) (append-nil a.pending) ∙ r.1 in
    let taken : filter (λ b. takes b.0 scope.Block) (a.pending ++ []) ≡ [] = ap (filter (λ b. takes b.0 scope.Block)) (append-nil a.pending) ∙ r.0 in
    let sites : map (pushed (entry (filter (λ b. takes b.0 scope.Block) (a.pending ++ [])) true)) a.sites ++ [] ≡ a.sites
    = ap (λ t. map (pushed (entry t true)) a.sites ++ []) taken ∙ append-nil (map (pushed []) a.sites) ∙ pushed_none a.sites in
    let sets : set_of (filter (λ b. takes b.0 scope.Block) (a.pending ++ [])) ++ (a.sets ++ []) ≡ a.sets = ap (λ t. set_of t ++ (a.sets ++ [])) taken ∙ append-nil a.sets in
    (λ j. record { pending = pend j; sites = sites j; sets = sets j })

pub block_goes : (n : Bool) (a s : Node) → Fits a (slot.One content.Span) → Fits s (one class.Stmt) → takes_else s ≡ true → is_loose s ≡ true
    → S (P standing.Branch n) s ≡ S (P standing.Branch n) (Tree kind.BlockStmt (a ∷ Many (s ∷ []) ∷ []))
block_goes n a s span f ending loose =
    let plain : S (P standing.Branch true) s ≡ S (P standing.Plain true) s = ends s true f ending in
    let alone : S (P standing.Plain true) (Many (s ∷ [])) ≡ S (P standing.Plain true) s = of_list (P standing.Plain true) (s ∷ []) refl ∙ both_nothing (S (P standing.Plain true) s) in
    nested s standing.Branch n (one class.Stmt) f (loose_in (S (P standing.Branch true) s).pending (ap (λ (x : Sites). list_all (λ b. not (takes b.0 scope.Block)) x.pending) plain ∙ loose))
    ∙ plain ∙ sym (block_open (S (P standing.Plain true) s) loose)
    ∙ ap (λ x. in_scope (Some scope.Block) (view_from kind.BlockStmt) (nothing ∷ x ∷ [])) (sym alone)
    ∙ ap (λ x. in_scope (Some scope.Block) (view_from kind.BlockStmt) (x ∷ S (P standing.Plain true) (Many (s ∷ [])) ∷ [])) (sym (of_leaf (P standing.Plain true) content.Span a refl span))
    ∙ sym (out_step (P standing.Branch n) (Tree kind.BlockStmt (a ∷ Many (s ∷ []) ∷ [])) _ (outs-Tree kind.BlockStmt (a ∷ Many (s ∷ []) ∷ [])))

-- whether an `else` would be taken does not change
abbrev Takes : Node → Type 0
Takes t = takes_else (written_out t) ≡ takes_else t

none : (k : Kind) (bs : List Bool) → is_ending k ≡ false → takes_else_step (Node-F.Tree k bs) ≡ false
none kind.IfStmt bs e = absurd (cc)
none kind.LabeledStmt bs e = absurd (cc)
none kind.WhileStmt bs e = absurd (cc)
none kind.WithStmt bs e = absurd (cc)
none kind.ForStmt bs e = absurd (cc)
none kind.ForInStmt bs e = absurd (cc)
none kind.ForOfStmt bs e = absurd (cc)
none _ bs e = refl

never : (k : Kind) (ts : List Node) → is_ending k ≡ false → takes_else (Tree k ts) ≡ false
never k ts e = takes_else_of_tree k ts ∙ none k (map takes_else ts) e

each : (ts : List Node) → Each Takes ts → map takes_else (map written_out ts) ≡ map takes_else ts
each [] h = refl
each (t ∷ ts) h = ap (λ b. b ∷ map takes_else (map written_out ts)) h.0 ∙ ap (λ l. takes_else t ∷ l) (each ts h.1)

rolled : (k : Kind) (ts : List Node) → Each Takes ts → takes_else (Tree k (map written_out ts)) ≡ takes_else (Tree k ts)
rolled k ts h = takes_else_of_tree k (map written_out ts) ∙ ap (λ bs. takes_else_step (Node-F.Tree k bs)) (each ts h) ∙ sym (takes_else_of_tree k ts)

shaped : (k : Kind) (ts : List Node) → Each Takes ts → is_ending k ≡ true → takes_else (written_step (Node-F.Tree k (map written_out ts))) ≡ takes_else (Tree k ts)
shaped kind.IfStmt (a ∷ b ∷ c ∷ d ∷ []) h e = takes_else_of_tree kind.IfStmt (written_out a ∷ written_out b ∷ opened_branch (written_out c) ∷ written_out d ∷ []) ∙ h.1.1.1.0 ∙ sym (takes_else_of_tree kind.IfStmt (a ∷ b ∷ c ∷ d ∷ []))
shaped kind.ForInStmt (a ∷ b ∷ c ∷ d ∷ []) h e = takes_else_of_tree kind.ForInStmt (written_out a ∷ as_pattern (written_out b) ∷ written_out c ∷ written_out d ∷ []) ∙ h.1.1.1.0 ∙ sym (takes_else_of_tree kind.ForInStmt (a ∷ b ∷ c ∷ d ∷ []))
shaped kind.ForOfStmt (a ∷ g ∷ b ∷ c ∷ d ∷ []) h e =
    takes_else_of_tree kind.ForOfStmt (written_out a ∷ written_out g ∷ as_pattern (written_out b) ∷ written_out c ∷ written_out d ∷ []) ∙ h.1.1.1.1.0 ∙ sym (takes_else_of_tree kind.ForOfStmt (a ∷ g ∷ b ∷ c ∷ d ∷ []))
shaped kind.IfStmt [] h e = ap takes_else (rolls-Tree kind.IfStmt (map written_out [])) ∙ rolled kind.IfStmt [] h
shaped kind.IfStmt (x0 ∷ []) h e = ap takes_else (rolls-Tree kind.IfStmt (map written_out (x0 ∷ []))) ∙ rolled kind.IfStmt (x0 ∷ []) h
shaped kind.IfStmt (x0 ∷ x1 ∷ []) h e = ap takes_else (rolls-Tree kind.IfStmt (map written_out (x0 ∷ x1 ∷ []))) ∙ rolled kind.IfStmt (x0 ∷ x1 ∷ []) h
shaped kind.IfStmt (x0 ∷ x1 ∷ x2 ∷ []) h e = ap takes_else (rolls-Tree kind.IfStmt (map written_out (x0 ∷ x1 ∷ x2 ∷ []))) ∙ rolled kind.IfStmt (x0 ∷ x1 ∷ x2 ∷ []) h
shaped kind.IfStmt (x0 ∷ x1 ∷ x2 ∷ x3 ∷ x4 ∷ ts) h e = ap takes_else (rolls-Tree kind.IfStmt (map written_out (x0 ∷ x1 ∷ x2 ∷ x3 ∷ x4 ∷ ts))) ∙ rolled kind.IfStmt (x0 ∷ x1 ∷ x2 ∷ x3 ∷ x4 ∷ ts) h
shaped kind.ForInStmt [] h e = ap takes_else (rolls-Tree kind.ForInStmt (map written_out [])) ∙ rolled kind.ForInStmt [] h
shaped kind.ForInStmt (x0 ∷ []) h e = ap takes_else (rolls-Tree kind.ForInStmt (map written_out (x0 ∷ []))) ∙ rolled kind.ForInStmt (x0 ∷ []) h
shaped kind.ForInStmt (x0 ∷ x1 ∷ []) h e = ap takes_else (rolls-Tree kind.ForInStmt (map written_out (x0 ∷ x1 ∷ []))) ∙ rolled kind.ForInStmt (x0 ∷ x1 ∷ []) h
shaped kind.ForInStmt (x0 ∷ x1 ∷ x2 ∷ []) h e = ap takes_else (rolls-Tree kind.ForInStmt (map written_out (x0 ∷ x1 ∷ x2 ∷ []))) ∙ rolled kind.ForInStmt (x0 ∷ x1 ∷ x2 ∷ []) h
shaped kind.ForInStmt (x0 ∷ x1 ∷ x2 ∷ x3 ∷ x4 ∷ ts) h e = ap takes_else (rolls-Tree kind.ForInStmt (map written_out (x0 ∷ x1 ∷ x2 ∷ x3 ∷ x4 ∷ ts))) ∙ rolled kind.ForInStmt (x0 ∷ x1 ∷ x2 ∷ x3 ∷ x4 ∷ ts) h
shaped kind.ForOfStmt [] h e = ap takes_else (rolls-Tree kind.ForOfStmt (map written_out [])) ∙ rolled kind.ForOfStmt [] h
shaped kind.ForOfStmt (x0 ∷ []) h e = ap takes_else (rolls-Tree kind.ForOfStmt (map written_out (x0 ∷ []))) ∙ rolled kind.ForOfStmt (x0 ∷ []) h
shaped kind.ForOfStmt (x0 ∷ x1 ∷ []) h e = ap takes_else (rolls-Tree kind.ForOfStmt (map written_out (x0 ∷ x1 ∷ []))) ∙ rolled kind.ForOfStmt (x0 ∷ x1 ∷ []) h
shaped kind.ForOfStmt (x0 ∷ x1 ∷ x2 ∷ []) h e = ap takes_else (rolls-Tree kind.ForOfStmt (map written_out (x0 ∷ x1 ∷ x2 ∷ []))) ∙ rolled kind.ForOfStmt (x0 ∷ x1 ∷ x2 ∷ []) h
shaped kind.ForOfStmt (x0 ∷ x1 ∷ x2 ∷ x3 ∷ []) h e = ap takes_else (rolls-Tree kind.ForOfStmt (map written_out (x0 ∷ x1 ∷ x2 ∷ x3 ∷ []))) ∙ rolled kind.ForOfStmt (x0 ∷ x1 ∷ x2 ∷ x3 ∷ []) h
shaped kind.ForOfStmt (x0 ∷ x1 ∷ x2 ∷ x3 ∷ x4 ∷ x5 ∷ ts) h e = ap takes_else (rolls-Tree kind.ForOfStmt (map written_out (x0 ∷ x1 ∷ x2 ∷ x3 ∷ x4 ∷ x5 ∷ ts))) ∙ rolled kind.ForOfStmt (x0 ∷ x1 ∷ x2 ∷ x3 ∷ x4 ∷ x5 ∷ ts) h
shaped kind.LabeledStmt ts h e = ap takes_else (rolls-Tree kind.LabeledStmt (map written_out ts)) ∙ rolled kind.LabeledStmt ts h
shaped kind.WhileStmt ts h e = ap takes_else (rolls-Tree kind.WhileStmt (map written_out ts)) ∙ rolled kind.WhileStmt ts h
shaped kind.WithStmt ts h e = ap takes_else (rolls-Tree kind.WithStmt (map written_out ts)) ∙ rolled kind.WithStmt ts h
shaped kind.ForStmt ts h e = ap takes_else (rolls-Tree kind.ForStmt (map written_out ts)) ∙ rolled kind.ForStmt ts h
shaped _ ts h e = absurd (true≢false (sym e))

at : (k : Kind) (ts : List Node) → Each Takes ts → (b : Bool) → is_ending k ≡ b → takes_else (written_step (Node-F.Tree k (map written_out ts))) ≡ takes_else (Tree k ts)
at k ts h true e = shaped k ts h e
at k ts h false e = let (l, us, is, block, ending) = step_tree k (map written_out ts) in ap takes_else is ∙ never l us (ending ∙ e) ∙ sym (never k ts e)

pub takes_written : (t : Node) → Takes t
takes_written t = by_children Takes
    (search (rules, the_lemmas), λ x. search (rules, the_lemmas), λ v. search (rules, the_lemmas), λ x. search (rules, the_lemmas), λ s. search (rules, the_lemmas), λ k i. ap takes_else (written_name k i))
    (λ ts b. search (rules, the_lemmas))
    (λ k ts b. ap takes_else (written_tree k ts) ∙ at k ts b (is_ending k) refl) t
