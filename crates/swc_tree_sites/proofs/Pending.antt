-- What is pending at a node is what its place lets it leave; so an expression leaves nothing.
use Rattle.std.proofs.Common.{◌≡◌, ◌≢◌, ℕ, zero, suc, Bool, true, false, not, ◌&&◌, ◌||◌, ◌==◌, ◌⊎◌, inl, inr, ⊎_elim, IsTrue, Option, Some, None, List, [], ◌∷◌, map, refl, sym, ap, ◌∙◌, subst, cond, true≢false}
use Rattle.std.specs.List.{slice_get}
use Rattle.std.specs.Prelude.{unwrap_or, option_map}
use Rattle.swc_tree_marks.specs.declared.ident.Ident.{Ident}
use Rattle.swc_tree_node.specs.declared.kind.Kind.{Kind}
use Rattle.swc_tree_node.specs.declared.kind.Kind.TheVariants as kind
use Rattle.swc_tree_node.specs.declared.kind.Class.{Class}
use Rattle.swc_tree_node.specs.declared.kind.Class.TheVariants as class
use Rattle.swc_tree_node.specs.declared.kind.Word.{Word}
use Rattle.swc_tree_node.specs.declared.kind.Word.TheVariants as word
use Rattle.swc_tree_node.specs.declared.slot.Content.TheVariants as content
use Rattle.swc_tree_node.specs.declared.slot.Slot.{Slot}
use Rattle.swc_tree_node.specs.declared.slot.Slot.TheVariants as slot
use Rattle.swc_tree_node.specs.declared.slot.Role.{Role}
use Rattle.swc_tree_node.specs.declared.slot.Role.TheVariants as role
use Rattle.swc_tree_node.specs.declared.node.Node.{Node, Identifier, out-Node, map-Node, fold_out-Node}
use Rattle.swc_tree_node.specs.declared.node.Node.TheOpen.{Node-F}
use Rattle.swc_tree_node.specs.Table.{fields_of, slots_of, is_identifier}
use Rattle.swc_tree_node.specs.Fits.{AllFit, FieldsFit, Fits, Test, belongs, each_fits, fit_step, fits, single, tree_fits, identifier_fits, list_fits}
use Rattle.swc_tree_node.proofs.Fit.{all_open, both, fields_open}
use Rattle.swc_tree_scoping.specs.declared.places.Standing.{Standing}
use Rattle.swc_tree_scoping.specs.declared.places.Standing.TheVariants as standing
use Rattle.swc_tree_scoping.specs.declared.places.Place.{Place}
use Rattle.swc_tree_scoping.specs.declared.places.Scope.{Scope}
use Rattle.swc_tree_scoping.specs.declared.places.Scope.TheVariants as scope
use Rattle.swc_tree_scoping.specs.Places.{Path, absent_in, name_scope, by_keyword, by_word, child, children_in, field_role, is_inside, is_there, keyword_in, opened_as, opened_in, own_name, place_at, place_below, place_in, part_standing, binds_patterns, is_identifier_expression, plain_standing, standing_below, view_from}
use Rattle.swc_tree_scoping.specs.Scopes.{is_binding, takes, is_taken, view_in}
use Rattle.swc_tree_scoping.proofs.Under.{by_children, no_place_under}
use Rattle.swc_tree_sites.specs.Sites.{Binding}
use Rattle.swc_tree_sites.proofs.Loose.{Below, S, is_no_identifier, own, pends, some_same, to_child}
use Rattle.swc_tree_sites.proofs.Leaves.{by_statement, leaves_own, Field, Leaves, class_covers, field_leaves, leaves_class, leaves_kind, leaves_slot, may, own_below, same, same_refl, stays, takes_surely}
use Rattle.swc_tree_sites.specs.Smaller.{In}

-- a default export may leave its name
abbrev is_default : Standing → Bool
is_default standing.DefaultExport = true
is_default _ = false

-- no name is bound that stands as no name does
pub apart : (s r : Standing) → is_binding s ≡ false → is_binding r ≡ true → same s r ≡ false
apart standing.Plain standing.Plain a b = absurd (cc)
apart standing.Plain _ a b = refl
apart standing.Reference standing.Reference a b = absurd (cc)
apart standing.Reference _ a b = refl
apart standing.Body standing.Body a b = absurd (cc)
apart standing.Body _ a b = refl
apart standing.Branch standing.Branch a b = absurd (cc)
apart standing.Branch _ a b = refl
apart standing.DefaultExport standing.DefaultExport a b = absurd (cc)
apart standing.DefaultExport _ a b = refl
apart standing.Label standing.Label a b = absurd (cc)
apart standing.Label _ a b = refl
apart standing.Imported standing.Imported a b = absurd (cc)
apart standing.Imported _ a b = refl
apart standing.Exported standing.Exported a b = absurd (cc)
apart standing.Exported _ a b = refl
apart standing.TypeName standing.TypeName a b = absurd (cc)
apart standing.TypeName _ a b = refl
apart standing.TypeReference standing.TypeReference a b = absurd (cc)
apart standing.TypeReference _ a b = refl
apart _ r a b = absurd (cc)

-- the standing of a field, by its role
plain_binds_not : (k : Kind) (i : ℕ) → is_binding (plain_standing k i) ≡ false
plain_binds_not kind.IfStmt i = at (i == 2 || i == 3)
  where
    at : (b : Bool) → is_binding (cond b standing.Branch standing.Plain) ≡ false
    at true = refl
    at false = refl
plain_binds_not kind.ExportDefaultDecl i = at (i == 1)
  where
    at : (b : Bool) → is_binding (cond b standing.DefaultExport standing.Plain) ≡ false
    at true = refl
    at false = refl
plain_binds_not _ i = refl

pub keyword_cases : (ts : List Node) → (by_keyword ts ≡ standing.Variable) ⊎ (by_keyword ts ≡ standing.Lexical)
keyword_cases [] = inr refl
keyword_cases (t ∷ ts) = at (out-Node t) (keyword_cases ts)
  where
    said : (w : Word) → (by_word w ≡ standing.Variable) ⊎ (by_word w ≡ standing.Lexical)
    said word.Var = inl refl
    said _ = inr refl

    at : (y : Node-F Node) → (by_keyword ts ≡ standing.Variable) ⊎ (by_keyword ts ≡ standing.Lexical)
        → (keyword_in y (by_keyword ts) ≡ standing.Variable) ⊎ (keyword_in y (by_keyword ts) ≡ standing.Lexical)
    at (Node-F.Word w) h = said w
    at Node-F.Absent h = h
    at _ h = h

never : (s r : Standing) (b : Bool) → is_binding s ≡ false → is_binding r ≡ true → same s r ≡ true → b ≡ true
never s r b a c h = let z = sym h ∙ apart s r a c in absurd (cc)

or_left : (a b : Bool) → a ≡ true → (a || b) ≡ true
or_left true b h = refl
or_left false b h = absurd (cc)

or_right : (a b : Bool) → b ≡ true → (a || b) ≡ true
or_right true b h = refl
or_right false b h = h

keyword_so : (ts : List Node) (r : Standing) → same (by_keyword ts) r ≡ true → (same standing.Variable r || same standing.Lexical r) ≡ true
keyword_so ts r h = ⊎_elim
    (λ e. or_left (same standing.Variable r) (same standing.Lexical r) (ap (λ s. same s r) (sym e) ∙ h))
    (λ e. or_right (same standing.Variable r) (same standing.Lexical r) (ap (λ s. same s r) (sym e) ∙ h))
    (keyword_cases ts)

-- a part of a pattern stands as the pattern does or is a reference
chosen_so : (a : Bool) (s r : Standing) → is_binding r ≡ true → same (cond a standing.Reference s) r ≡ true → same s r ≡ true
chosen_so true s r b h = never standing.Reference r (same s r) refl b h
chosen_so false s r b h = h

part_so : (s r : Standing) (o : Option Node) → is_binding r ≡ true → same (part_standing s o) r ≡ true → same s r ≡ true
part_so s r o b h = chosen_so (binds_patterns s && is_identifier_expression o) s r b h

function_so : (a b : Bool) (r : Standing) → same (cond a standing.Function (cond b standing.SloppyFunction standing.BlockFunction)) r ≡ true → (same standing.Function r || (same standing.BlockFunction r || same standing.SloppyFunction r)) ≡ true
function_so true b r h = or_left (same standing.Function r) (same standing.BlockFunction r || same standing.SloppyFunction r) h
function_so false true r h = or_right (same standing.Function r) (same standing.BlockFunction r || same standing.SloppyFunction r) (or_right (same standing.BlockFunction r) (same standing.SloppyFunction r) h)
function_so false false r h = or_right (same standing.Function r) (same standing.BlockFunction r || same standing.SloppyFunction r) (or_left (same standing.BlockFunction r) (same standing.SloppyFunction r) h)

exported_so : (a b : Bool) (r : Standing) → is_binding r ≡ true → same (cond a standing.Imported standing.Reference) r ≡ true → b ≡ true
exported_so true b r c h = never standing.Imported r b refl c h
exported_so false b r c h = never standing.Reference r b refl c h

name_so : (k : Kind) (s r : Standing) (own : Bool) → is_default s ≡ false → same (own_name s k) r ≡ true → own_below k role.OwnName own r ≡ true
name_so k standing.DefaultExport r own d h = absurd (cc)
name_so kind.FnExpr _ r own d h = h
name_so _ _ r own d h = h

own_so : (w : Place) (k : Kind) (ts : List Node) (i : ℕ) (x : Role) (r : Standing) → is_default w.standing ≡ false → is_binding r ≡ true → same (standing_below w k ts i x) r ≡ true → own_below k x (same w.standing r) r ≡ true
own_so w k ts i role.Plain r d b h = never (plain_standing k i) r (own_below k role.Plain (same w.standing r) r) (plain_binds_not k i) b h
own_so w k ts i role.Inherited r d b h = part_so w.standing r (slice_get ts i) b h
own_so w k ts i role.Reference r d b h = never standing.Reference r false refl b h
own_so w k ts i role.Declared r d b h = keyword_so ts r h
own_so w k ts i role.Function r d b h = function_so _ _ r h
own_so w k ts i role.Class r d b h = h
own_so w k ts i role.OwnName r d b h = name_so k w.standing r (same w.standing r) d h
own_so w k ts i role.Parameter r d b h = part_so standing.Parameter r (slice_get ts i) b h
own_so w k ts i role.Catch r d b h = part_so standing.CatchParameter r (slice_get ts i) b h
own_so w k ts i role.Import r d b h = h
own_so w k ts i role.Lexical r d b h = h
own_so w k ts i role.FunctionBody r d b h = never standing.Body r false refl b h
own_so w k ts i role.ExportLocal r d b h = exported_so (is_there (slice_get ts 2)) false r b h
own_so w k ts i role.Label r d b h = never standing.Label r false refl b h
own_so w k ts i role.Imported r d b h = never standing.Imported r false refl b h
own_so w k ts i role.Exported r d b h = never standing.Exported r false refl b h
own_so w k ts i role.TypeName r d b h = never standing.TypeName r false refl b h
own_so w k ts i role.TypeReference r d b h = never standing.TypeReference r false refl b h

-- only where anything may be left does a default export stand
keyword_default : (ts : List Node) → is_default (by_keyword ts) ≡ true → ⊥
keyword_default ts h = ⊎_elim (λ e. let z = sym h ∙ ap is_default e in absurd (cc)) (λ e. let z = sym h ∙ ap is_default e in absurd (cc)) (keyword_cases ts)

chosen_default : (a : Bool) (s : Standing) → is_default s ≡ false → is_default (cond a standing.Reference s) ≡ true → ⊥
chosen_default true s d h = absurd (cc)
chosen_default false s d h = absurd (cc)

part_default : (s : Standing) (o : Option Node) → is_default s ≡ false → is_default (part_standing s o) ≡ true → ⊥
part_default s o d h = chosen_default (binds_patterns s && is_identifier_expression o) s d h

function_default : (a b : Bool) → is_default (cond a standing.Function (cond b standing.SloppyFunction standing.BlockFunction)) ≡ true → ⊥
function_default true b h = absurd (cc)
function_default false true h = absurd (cc)
function_default false false h = absurd (cc)

exported_default : (a : Bool) → is_default (cond a standing.Imported standing.Reference) ≡ true → ⊥
exported_default true h = absurd (cc)
exported_default false h = absurd (cc)

-- by the standing alone, then by the kind: both at once have some 2,500 cases
name_default_of_default : (k : Kind) → is_default (own_name standing.DefaultExport k) ≡ true → ⊥
name_default_of_default kind.FnExpr h = absurd (true≢false (sym h))
name_default_of_default _ h = absurd (true≢false (sym h))

name_default_of_expression : (k : Kind) → is_default (own_name standing.Plain k) ≡ true → ⊥
name_default_of_expression kind.FnExpr h = absurd (true≢false (sym h))
name_default_of_expression _ h = absurd (true≢false (sym h))

name_default : (k : Kind) (s : Standing) → is_default (own_name s k) ≡ true → ⊥
name_default k standing.DefaultExport h = name_default_of_default k h
name_default k _ h = name_default_of_expression k h

plain_default : (k : Kind) (i : ℕ) → is_default (plain_standing k i) ≡ true → (leaves_kind k).any ≡ true
plain_default kind.IfStmt i h = at (i == 2 || i == 3) h
  where
    at : (b : Bool) → is_default (cond b standing.Branch standing.Plain) ≡ true → (leaves_kind kind.IfStmt).any ≡ true
    at true h = absurd (cc)
    at false h = absurd (cc)
plain_default kind.ExportDefaultDecl i h = refl
plain_default _ i h = absurd (true≢false (sym h))

default_so : (w : Place) (k : Kind) (ts : List Node) (i : ℕ) (x : Role) → is_default w.standing ≡ false → is_default (standing_below w k ts i x) ≡ true → (leaves_kind k).any ≡ true
default_so w k ts i role.Plain d h = plain_default k i h
default_so w k ts i role.Inherited d h = absurd (part_default w.standing (slice_get ts i) d h)
default_so w k ts i role.Parameter d h = absurd (part_default standing.Parameter (slice_get ts i) refl h)
default_so w k ts i role.Catch d h = absurd (part_default standing.CatchParameter (slice_get ts i) refl h)
default_so w k ts i role.Declared d h = absurd (keyword_default ts h)
default_so w k ts i role.Function d h = absurd (function_default _ _ h)
default_so w k ts i role.OwnName d h = absurd (name_default k w.standing h)
default_so w k ts i role.ExportLocal d h = absurd (exported_default (is_there (slice_get ts 2)) h)
default_so w k ts i _ d h = absurd (cc)

-- a scope that surely is there
name_scoped : (s : Standing) (n : Scope) (r : Standing) (b : Bool) → is_default s ≡ false → b ≡ true → takes r n ≡ true → is_taken r (name_scope s b n) ≡ true
name_scoped standing.DefaultExport n r b d e h = absurd (cc)
name_scoped _ n r true d e h = h
name_scoped _ n r false d e h = absurd (cc)

surely : (w : Place) (k : Kind) (ts : List Node) (i : ℕ) (r : Standing) (c : Node) → is_default w.standing ≡ false → slice_get ts i ≡ Some c → is_there (Some c) ≡ true → takes_surely k i r ≡ true → is_taken r (opened_as w k (is_there (slice_get ts 0))) ≡ true
surely w kind.Function ts i r c d e there h = h
surely w kind.ArrowExpr ts i r c d e there h = h
surely w kind.Constructor ts i r c d e there h = h
surely w kind.GetterProp ts i r c d e there h = h
surely w kind.SetterProp ts i r c d e there h = h
surely w kind.StaticBlock ts i r c d e there h = h
surely w kind.CatchClause ts i r c d e there h = h
surely w kind.TsModuleDecl ts i r c d e there h = h
surely w kind.FnExpr ts zero r c d e there h = name_scoped w.standing scope.FunctionName r (is_there (slice_get ts 0)) d (ap is_there e ∙ there) h
surely w kind.FnExpr ts (suc i) r c d e there h = absurd (cc)
surely w kind.ClassExpr ts zero r c d e there h = name_scoped w.standing scope.ClassName r (is_there (slice_get ts 0)) d (ap is_there e ∙ there) h
surely w kind.ClassExpr ts (suc i) r c d e there h = absurd (cc)
surely w _ ts i r c d e there h = absurd (cc)

left_alone : (w : Place) (k : Kind) (ts : List Node) (i : ℕ) (r : Standing) (c : Node) → is_default w.standing ≡ false → slice_get ts i ≡ Some c → is_there (Some c) ≡ true
    → own (opened_as w k (is_there (slice_get ts 0))) (view_from k i) r ≡ None → stays k i r ≡ true
left_alone w k ts i r c d e there h = at (takes_surely k i r) refl (is_inside (view_from k i)) refl
  where
    at : (a : Bool) → takes_surely k i r ≡ a → (b : Bool) → is_inside (view_from k i) ≡ b → not (a && b) ≡ true
    at false g b f = refl
    at true g false f = refl
    at true g true f =
        let taken = surely w k ts i r c d e there g in
        let z : Some [] ≡ None = sym (ap (λ x. cond (x && is_inside (view_from k i)) (Some []) None) taken ∙ ap (λ x. cond x (Some []) None) f) ∙ h in
        absurd (cc)

abbrev is_present : Node-F Node → Bool
is_present y = not (absent_in y)

-- what is pending, in a place where it fits
abbrev may_at : Leaves → Standing → Standing → Bool
may_at g s r = is_default s || may g (same s r) r

abbrev Claim : Node → Type 0
Claim t = (w : Place) (s : Slot) (b : Binding) → Fits t s → Below w t b None → may_at (leaves_slot s) w.standing b.0 ≡ true

layer : (t : Node) (y : Node-F Node) (s : Slot) → out-Node t ≡ y → Fits t s → IsTrue (fit_step (map-Node Node Test fits y) s)
layer t y s o h = subst (λ (f : Test). IsTrue (f s)) (fold_out-Node Test fit_step t ∙ ap (λ y. fit_step (map-Node Node Test fits y)) o) h

of_identifier : (k : Kind) (s : Slot) → IsTrue (identifier_fits k (single s)) → (c : Class) × (leaves_slot s ≡ leaves_class c) × IsTrue (is_identifier k) × IsTrue (belongs k c)
of_identifier k (slot.One (content.Node c)) h = let p = both (is_identifier k) (belongs k c) h in (c, refl, p.0, p.1)
of_identifier k (slot.Optional (content.Node c)) h = let p = both (is_identifier k) (belongs k c) h in (c, refl, p.0, p.1)
of_identifier k (slot.One _) h = absurd (cc)
of_identifier k (slot.Optional _) h = absurd (cc)
of_identifier k _ h = absurd (cc)

of_tree : (k : Kind) (fs : List Test) (s : Slot) → IsTrue (tree_fits k fs (single s)) → (c : Class) × (leaves_slot s ≡ leaves_class c) × IsTrue (belongs k c) × IsTrue (each_fits (slots_of k) fs)
of_tree k fs (slot.One (content.Node c)) h = let p = both (not (is_identifier k)) (belongs k c && each_fits (slots_of k) fs) h in let q = both (belongs k c) (each_fits (slots_of k) fs) p.1 in (c, refl, q.0, q.1)
of_tree k fs (slot.Optional (content.Node c)) h = let p = both (not (is_identifier k)) (belongs k c && each_fits (slots_of k) fs) h in let q = both (belongs k c) (each_fits (slots_of k) fs) p.1 in (c, refl, q.0, q.1)
of_tree k fs (slot.One _) h = absurd (cc)
of_tree k fs (slot.Optional _) h = absurd (cc)
of_tree k fs _ h = absurd (cc)

all_at : (s : Slot) (ts : List Node) (i : ℕ) (c : Node) → AllFit s ts → slice_get ts i ≡ Some c → Fits c s
all_at s [] i c h e = absurd (cc)
all_at s (t ∷ ts) zero c h e = let same : t ≡ c = cc in subst (λ c. Fits c s) same h.0
all_at s (t ∷ ts) (suc i) c h e = all_at s ts i c h.1 e

two_at : (ss : List Slot) (ts : List Node) (i : ℕ) (c : Node) → FieldsFit ss ts → slice_get ts i ≡ Some c → (s : Slot) × (slice_get ss i ≡ Some s) × Fits c s
two_at [] [] i c h e = absurd (cc)
two_at [] (t ∷ ts) i c h e = absurd h
two_at (s ∷ ss) [] i c h e = absurd h
two_at (s ∷ ss) (t ∷ ts) zero c h e = let same : t ≡ c = cc in (s, refl, subst (λ c. Fits c s) same h.0)
two_at (s ∷ ss) (t ∷ ts) (suc i) c h e = two_at ss ts i c h.1 e

pub field_at : (fs : List Field) (ts : List Node) (i : ℕ) (c : Node) → FieldsFit (map (λ f. f.1) fs) ts → slice_get ts i ≡ Some c → (f : Field) × (slice_get fs i ≡ Some f) × Fits c f.1
field_at [] [] i c h e = absurd (cc)
field_at [] (t ∷ ts) i c h e = absurd h
field_at (f ∷ fs) [] i c h e = absurd h
field_at (f ∷ fs) (t ∷ ts) zero c h e = let same : t ≡ c = cc in (f, refl, subst (λ c. Fits c f.1) same h.0)
field_at (f ∷ fs) (t ∷ ts) (suc i) c h e = field_at fs ts i c h.1 e

-- the items of a list leave what the list may
text_slots : (i : ℕ) (s : Slot) → slice_get (slot.One content.Text ∷ slot.One content.Text ∷ []) i ≡ Some s → leaves_slot s ≡ leaves_slot slot.Pair
text_slots zero s e = let same : slot.One content.Text ≡ s = cc in ap leaves_slot (sym same)
text_slots (suc zero) s e = let same : slot.One content.Text ≡ s = cc in ap leaves_slot (sym same)
text_slots (suc (suc i)) s e = absurd (cc)

item_at : (s : Slot) (ts : List Node) (i : ℕ) (c : Node) → IsTrue (list_fits (map fits ts) s) → slice_get ts i ≡ Some c → (u : Slot) × Fits c u × (leaves_slot u ≡ leaves_slot s)
item_at (slot.List x) ts i c h e = (slot.One x, all_at (slot.One x) ts i c (all_open (slot.One x) ts h) e, refl)
item_at (slot.Holes x) ts i c h e = (slot.Optional x, all_at (slot.Optional x) ts i c (all_open (slot.Optional x) ts h) e, refl)
item_at (slot.OptionalList x) ts i c h e = (slot.One x, all_at (slot.One x) ts i c (all_open (slot.One x) ts h) e, refl)
item_at slot.Pair ts i c h e =
    let (u, z, f) = two_at (slot.One content.Text ∷ slot.One content.Text ∷ []) ts i c (fields_open (slot.One content.Text ∷ slot.One content.Text ∷ []) ts h) e in (u, f, text_slots i u z)
item_at slot.Pairs ts i c h e = (slot.Pair, all_at slot.Pair ts i c (all_open slot.Pair ts h) e, refl)
item_at (slot.One x) ts i c h e = absurd (cc)
item_at (slot.Optional x) ts i c h e = absurd (cc)

-- what stands nowhere leaves nothing
no_child : (w : Place) (t : Node) (b : Binding) → is_no_identifier (out-Node t) ≡ true → ((j : ℕ) → child t j ≡ None) → Below w t b None → ⊥
no_child w t b n none g = let (j, c, z, h, e) = to_child w t b None tt n g in let y : Some c ≡ None = sym z ∙ none j in absurd (cc)

is_there_below : (w : Place) (c : Node) (b : Binding) (y : Node-F Node) → out-Node c ≡ y → Below w c b None → is_there (Some c) ≡ true
is_there_below w c b Node-F.Absent o g = absurd (no_child w c b (ap is_no_identifier o) (λ j. ap (λ y. slice_get (children_in y) j) o) g)
is_there_below w c b (Node-F.Flag x) o g = ap (λ y. is_present y) o
is_there_below w c b (Node-F.Word x) o g = ap (λ y. is_present y) o
is_there_below w c b (Node-F.Text x) o g = ap (λ y. is_present y) o
is_there_below w c b (Node-F.Span x) o g = ap (λ y. is_present y) o
is_there_below w c b (Node-F.List x) o g = ap (λ y. is_present y) o
is_there_below w c b (Node-F.Identifier k x) o g = ap (λ y. is_present y) o
is_there_below w c b (Node-F.Tree k x) o g = ap (λ y. is_present y) o

may_any : (g : Leaves) (x : Bool) (r : Standing) → g.any ≡ true → may g x r ≡ true
may_any g x r h = or_left g.any ((g.own && x) || ((g.by_statements && by_statement r) || (g.parameters && same standing.Parameter r))) h

may_more : (g : Leaves) (x y : Bool) (r : Standing) → (x ≡ true → y ≡ true) → may g x r ≡ true → may g y r ≡ true
may_more g true y r h e = subst (λ z. may g z r ≡ true) (sym (h refl)) e
may_more g false true r h e = at g.any (g.own && true) ((g.by_statements && by_statement r) || (g.parameters && same standing.Parameter r)) g.own e
  where
    at : (a b c d : Bool) → (a || ((d && false) || c)) ≡ true → (a || (b || c)) ≡ true
    at true b c d h = refl
    at false true c d h = refl
    at false false c true h = h
    at false false c false h = h
may_more g false false r h e = e

identifier_claim : (t : Node) (k : Kind) (i : Ident) → out-Node t ≡ Node-F.Identifier k i → Claim t
identifier_claim t k i o w s b fit g =
    let (c, slots, is, among) = of_identifier k s (layer t (Node-F.Identifier k i) s o fit) in
    let stands : w.standing ≡ b.0 = here g.path g.stands in
    let own_it : may (leaves_kind k) (same w.standing b.0) b.0 ≡ true = subst (λ r. may (leaves_kind k) (same w.standing r) r ≡ true) stands (identifier_leaves k w.standing is) in
    or_right (is_default w.standing) (may (leaves_slot s) (same w.standing b.0) b.0) (subst (λ l. may l (same w.standing b.0) b.0 ≡ true) (sym slots) (class_covers k c (same w.standing b.0) b.0 among own_it))
  where
    here : (p : Path) → place_at w t p ≡ Some (g.place, Identifier g.kind b.1) → w.standing ≡ b.0
    here [] h = ap (λ (q : Place × Node). q.0.standing) (some_same (w, t) (g.place, Identifier g.kind b.1) h) ∙ g.stands_so
    here (j ∷ p) h = let y = sym h ∙ no_place_under w t j p (ap (λ y. slice_get (children_in y) j) o) in absurd (cc)

    identifier_leaves : (k : Kind) (r : Standing) → IsTrue (is_identifier k) → may (leaves_kind k) (same r r) r ≡ true
    identifier_leaves kind.Ident r h = ap (λ x. (x || false)) (same_refl r)
    identifier_leaves kind.BindingIdent r h = ap (λ x. (x || false)) (same_refl r)
    identifier_leaves _ r h = absurd (true≢false (sym h))

-- what a part of a pattern may leave, the pattern may
part_may : (g : Leaves) (s : Standing) (o : Option Node) (r : Standing) → is_binding r ≡ true → may_at g (part_standing s o) r ≡ true → may_at g s r ≡ true
part_may g s o r b h = at (binds_patterns s && is_identifier_expression o) h
  where
    at : (a : Bool) → may_at g (cond a standing.Reference s) r ≡ true → may_at g s r ≡ true
    at true h = or_right (is_default s) (may g (same s r) r) (may_more g (same standing.Reference r) (same s r) r (λ e. never standing.Reference r (same s r) refl b e) h)
    at false h = h

list_claim : (t : Node) (ts : List Node) → out-Node t ≡ Node-F.List ts → ((j : ℕ) (c : Node) → child t j ≡ Some c → Claim c) → Claim t
list_claim t ts o below w s b fit g =
    let (j, c, z, h, e) = to_child w t b None tt (ap is_no_identifier o) g in
    let (u, f, slots) = item_at s ts j c (layer t (Node-F.List ts) s o fit) (sym (ap (λ y. slice_get (children_in y) j) o) ∙ z) in
    subst (λ l. may_at l w.standing b.0 ≡ true) slots
    (part_may (leaves_slot u) w.standing (slice_get ts j) b.0 g.binds
    (below j c z (place_in w (Node-F.List ts) j) u b f (subst (λ v. Below v c b None) (ap (λ y. place_in w y j) o) h)))

tree_claim : (t : Node) (k : Kind) (ts : List Node) → out-Node t ≡ Node-F.Tree k ts → ((j : ℕ) (c : Node) → child t j ≡ Some c → Claim c) → Claim t
tree_claim t k ts o below w s b fit g = by (is_default w.standing) refl
  where
    by : (d : Bool) → is_default w.standing ≡ d → may_at (leaves_slot s) w.standing b.0 ≡ true
    by true d = or_left (is_default w.standing) (may (leaves_slot s) (same w.standing b.0) b.0) d
    by false d =
        let (j, c, z, h, e) = to_child w t b None tt (ap is_no_identifier o) g in
        let there = sym (ap (λ y. slice_get (children_in y) j) o) ∙ z in
        let (cl, slots, among, fields) = of_tree k (map fits ts) s (layer t (Node-F.Tree k ts) s o fit) in
        let (f, at, fits_it) = field_at (fields_of k) ts j c (fields_open (slots_of k) ts fields) there in
        let role_is : field_role k j ≡ f.2 = ap (λ o. unwrap_or (option_map (λ f. f.2) o) role.Plain) at in
        let inner : may_at (leaves_slot f.1) (standing_below w k ts j f.2) b.0 ≡ true
        = subst (λ x. may_at (leaves_slot f.1) (standing_below w k ts j x) b.0 ≡ true) role_is
        (below j c z (place_in w (Node-F.Tree k ts) j) f.1 b fits_it (subst (λ v. Below v c b None) (ap (λ y. place_in w y j) o) h)) in
        let alone = left_alone w k ts j b.0 c d there (is_there_below (place_below w t j) c b (out-Node c) refl h) (sym (ap (λ y. own (opened_in w y) (view_in y j) b.0) o) ∙ e) in
        let mine : may (leaves_kind k) (same w.standing b.0) b.0 ≡ true = fielded j f at alone (is_default (standing_below w k ts j f.2)) refl inner in
        or_right (is_default w.standing) (may (leaves_slot s) (same w.standing b.0) b.0) (subst (λ l. may l (same w.standing b.0) b.0 ≡ true) (sym slots) (class_covers k cl (same w.standing b.0) b.0 among mine))
      where
        fielded : (j : ℕ) (f : Field) → slice_get (fields_of k) j ≡ Some f → stays k j b.0 ≡ true → (x : Bool) → is_default (standing_below w k ts j f.2) ≡ x → (x || may (leaves_slot f.1) (same (standing_below w k ts j f.2) b.0) b.0) ≡ true
            → may (leaves_kind k) (same w.standing b.0) b.0 ≡ true
        fielded j f at alone true x h = may_any (leaves_kind k) (same w.standing b.0) b.0 (default_so w k ts j f.2 d x)
        fielded j f at alone false x h =
            field_leaves k j f (same w.standing b.0) b.0 at g.binds
            (may_more (leaves_slot f.1) (same (standing_below w k ts j f.2) b.0) (own_below k f.2 (same w.standing b.0) b.0) b.0 (own_so w k ts j f.2 b.0 d g.binds) h) alone

leaf_claim : (t : Node) → is_no_identifier (out-Node t) ≡ true → ((j : ℕ) → child t j ≡ None) → Claim t
leaf_claim t n none w s b fit g = absurd (no_child w t b n none g)

claim_in : (t : Node) → ((j : ℕ) (c : Node) → child t j ≡ Some c → Claim c) → (y : Node-F Node) → out-Node t ≡ y → Claim t
claim_in t below (Node-F.Identifier k i) o = identifier_claim t k i o
claim_in t below (Node-F.List ts) o = list_claim t ts o below
claim_in t below (Node-F.Tree k ts) o = tree_claim t k ts o below
claim_in t below Node-F.Absent o = leaf_claim t (ap is_no_identifier o) (λ j. ap (λ y. slice_get (children_in y) j) o)
claim_in t below (Node-F.Flag x) o = leaf_claim t (ap is_no_identifier o) (λ j. ap (λ y. slice_get (children_in y) j) o)
claim_in t below (Node-F.Word x) o = leaf_claim t (ap is_no_identifier o) (λ j. ap (λ y. slice_get (children_in y) j) o)
claim_in t below (Node-F.Text x) o = leaf_claim t (ap is_no_identifier o) (λ j. ap (λ y. slice_get (children_in y) j) o)
claim_in t below (Node-F.Span x) o = leaf_claim t (ap is_no_identifier o) (λ j. ap (λ y. slice_get (children_in y) j) o)

-- what is pending at a node may be left in its place, unless the node is a default export
pub left_fits : (t : Node) (w : Place) (s : Slot) (b : Binding) → Fits t s → w.standing ≢ standing.DefaultExport → In b (S w t).pending → may (leaves_slot s) (same w.standing b.0) b.0 ≡ true
left_fits t w s b fit n h = at (is_default w.standing) refl (by_children Claim (λ t below. claim_in t below (out-Node t) refl) t w s b fit ((pends t w b).0 h))
  where
    default : (r : Standing) → is_default r ≡ true → r ≡ standing.DefaultExport
    default standing.DefaultExport e = refl
    default _ e = absurd (cc)

    at : (d : Bool) → is_default w.standing ≡ d → (d || may (leaves_slot s) (same w.standing b.0) b.0) ≡ true → may (leaves_slot s) (same w.standing b.0) b.0 ≡ true
    at true d g = absurd (n (default w.standing d))
    at false d g = g

empty : (xs : List Binding) → ((b : Binding) → In b xs → ⊥) → xs ≡ []
empty [] h = refl
empty (b ∷ xs) h = absurd (h b (inl refl))

-- a node that leaves only what stands as it does leaves nothing where no name is bound
pub leaves_nothing : (t : Node) (w : Place) (s : Slot) → Fits t s → w.standing ≢ standing.DefaultExport → is_binding w.standing ≡ false → leaves_slot s ≡ leaves_own → (S w t).pending ≡ []
leaves_nothing t w s fit n plain own_only = empty (S w t).pending
    (λ b h.
    let z = subst (λ l. may l (same w.standing b.0) b.0 ≡ true) own_only (left_fits t w s b fit n h) in
    let y : may leaves_own false b.0 ≡ true = subst (λ x. may leaves_own x b.0 ≡ true) (apart w.standing b.0 plain ((pends t w b).0 h).binds) z in
    absurd (cc))

-- so no expression leaves anything
pub expression_leaves : (t : Node) (w : Place) → Fits t (slot.One (content.Node class.Expr)) → is_binding w.standing ≡ false → w.standing ≢ standing.DefaultExport → (S w t).pending ≡ []
expression_leaves t w fit plain n = leaves_nothing t w (slot.One (content.Node class.Expr)) fit n plain refl

-- a class or a function leaves nothing at all
pub class_leaves : (t : Node) (w : Place) → Fits t (slot.One (content.Node class.Class)) → w.standing ≢ standing.DefaultExport → (S w t).pending ≡ []
class_leaves t w fit n = empty (S w t).pending (λ b h. let z = left_fits t w (slot.One (content.Node class.Class)) b fit n h in absurd (cc))

pub function_leaves : (t : Node) (w : Place) → Fits t (slot.One (content.Node class.Function)) → w.standing ≢ standing.DefaultExport → (S w t).pending ≡ []
function_leaves t w fit n = empty (S w t).pending (λ b h. let z = left_fits t w (slot.One (content.Node class.Function)) b fit n h in absurd (cc))
