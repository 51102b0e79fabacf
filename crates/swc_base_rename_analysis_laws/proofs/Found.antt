-- Each name that a walk meets stands where its path says, and its scope is the innermost round that path.
use Rattle.std.proofs.Common.{◌≡◌, ◌↔◌, ℕ, zero, suc, ◌+◌, Bool, true, false, IsTrue, Option, Some, None, List, [], ◌∷◌, ◌++◌, length, refl, sym, ap, ◌∙◌, subst}
use Rattle.std.specs.Prelude.{if◌then◌else◌}
use Rattle.std.specs.List.{slice_get}
use Rattle.std.specs.Cmp.{unsigned_Decides}
use Rattle.std.specs.Option.{option_and_then, option_map, option_or}
use Rattle.swc_tree_marks.specs.declared.ident.Ident.{Ident}
use Rattle.swc_tree_node.specs.declared.fields.statements.fn_decl.TheConstants as fn_decl
use Rattle.swc_tree_node.specs.declared.kind.Kind.{Kind}
use Rattle.swc_tree_node.specs.declared.kind.Kind.TheVariants as kind
use Rattle.swc_tree_node.specs.declared.node.Node.{Node, out-Node}
use Rattle.swc_tree_node.specs.declared.node.Node.TheOpen.{Node-F}
use Rattle.swc_tree_scoping.specs.declared.places.Standing.{Standing}
use Rattle.swc_tree_scoping.specs.declared.places.Standing.TheVariants as standing
use Rattle.swc_tree_scoping.specs.declared.places.Place.{Place}
use Rattle.swc_tree_scoping.specs.Places.{Path, child, children_in, has_own_name, is_at, opened_as, own_name, place_below, place_in, program_place}
use Rattle.swc_tree_scoping.specs.Scopes.{is_binding}
use Rattle.swc_tree_scoping.specs.BoundNames.{name_in, name_of}
use Rattle.swc_tree_scoping.specs.WellScoped.{InExportList}
use Rattle.swc_tree_scoping.proofs.Under.{by_children}
use Rattle.swc_base_rename_analysis.specs.declared.scopes.ScopeKind.{ScopeKind}
use Rattle.swc_base_rename_analysis.specs.Analysis.{Around, body_kind, has_identifier, key_field, scopes_round, uses_own_name}
use Rattle.swc_base_rename_analysis.specs.Ids.{id_at}
use Rattle.swc_base_rename_analysis.specs.Laws.{is_body_at}
use Rattle.swc_base_rename_analysis.specs.Numbers.{id_met}
use Rattle.swc_base_rename_analysis.specs.Preserved.{is_name_or_label}
use Rattle.swc_base_rename_analysis.specs.Walk.{Met, Outside, child_at, kind_opened, name_outside, outside_all, round_field, round_item}
use Rattle.swc_base_rename_analysis_laws.specs.Placed.{IsMetAs, IsUsedAt, Use, at_path, own_at}
use Rattle.swc_base_rename_analysis_laws.proofs.Contexts.{Context, HasOwnName, field_context, item_context, moved, opens_inside, opens_none, opens_outside, outside_is, root_context, round_inside, round_outside}
use Rattle.swc_base_rename_analysis_laws.proofs.Grown.{Adds, Grows, all_add, begins, but_grows, ends, enters, grows_on, meets, optional_grows, turns_grow, uses_own}
use Rattle.swc_base_rename_analysis_laws.proofs.Insides.{beside}
use Rattle.swc_base_rename_analysis_laws.proofs.Lists.{All, all_at, all_joined, all_so}
use Rattle.swc_base_rename_analysis_laws.proofs.Marked.{Marked, MarkedName, MarkedWalk, below, marked_begin, marked_but, marked_end, marked_enter, marked_field, marked_fields, marked_goes, marked_in, marked_in_turn, marked_layer, marked_meet, marked_opening, marked_optional, marked_out, marked_own_use, marked_walks_at, name_beside, regions_of}
use Rattle.swc_base_rename_analysis_laws.proofs.Outsides.{keyed_alone, outside_field}
use Rattle.swc_base_rename_analysis_laws.proofs.Paths.{IsAt, place_below_at}
use Rattle.swc_base_rename_analysis_laws.proofs.Scoped.{Scoped, paths_of, scoped_in, scoped_stays, taken_there}
use Rattle.swc_base_rename_analysis_laws.proofs.Steps.{marked_at}

-- a name at its identifier, in a state of the walk
pub record IsFoundAt (t : Node) (m : Marked) (p : Path) (x : Met) : Type 0 where
  stands : id_at t p ≡ Some (x.standing, id_met x)
  named : IsTrue (is_name_or_label x.standing)
  exported : IsTrue x.exported ↔ InExportList t p
  scoped : Scoped m x.scope (scopes_round t p)

abbrev IsFoundAs : Node → Marked → Bool → Path → Met → Type 0
IsFoundAs t m false p x = IsFoundAt t m p x
IsFoundAs t m true p x = IsUsedAt t p x

abbrev pub IsFound : Node → Marked → MarkedName → Type 0
IsFound t m x = IsFoundAs t m x.use_.own x.use_.path x.met

abbrev pub AllFound : Node → Marked → Type 0
AllFound t m = All (IsFound t m) m.names

stays_as : (t : Node) (m n : Marked) → Grows m n → (b : Bool) (p : Path) (x : Met) → IsFoundAs t m b p x → IsFoundAs t n b p x
stays_as t m n g false p x f = record { stands = f.stands; named = f.named; exported = f.exported; scoped = scoped_stays m n g x.scope (scopes_round t p) f.scoped }
stays_as t m n g true p x f = f

all_stay : (t : Node) (m n : Marked) → Grows m n → (xs : List MarkedName) → All (IsFound t m) xs → All (IsFound t n) xs
all_stay t m n g xs h = all_so (λ x f. stays_as t m n g x.use_.own x.use_.path x.met f) xs h

one_met : (t : Node) (u : Use) (x : Met) (m : Marked) → IsFoundAs t m u.own u.path x → AllFound t m → AllFound t (marked_meet u x m)
one_met t u x m f h = all_stay t m (marked_meet u x m) (meets u x m) (m.names ++ record { use_ = u; met = x } ∷ []) (all_joined (IsFound t m) m.names (record { use_ = u; met = x } ∷ []) h (f, tt))

-- the id of the identifier at a path
id_of_name : (o : Option Node) (x : Ident) → name_of o ≡ Some x → (c : Node) × (o ≡ Some c) × (name_in (out-Node c) ≡ Some x)
id_of_name None x e = absurd (cc)
id_of_name (Some c) x e = (c, refl, e)

id_there : (t : Node) (p : Path) (w : Place) (c : Node) (x : Ident) → IsAt program_place t p w c → name_in (out-Node c) ≡ Some x → id_at t p ≡ Some (w.standing, (x.sym, x.ctxt))
id_there t p w c x there named =
    ap (λ o. option_and_then (λ (q : Place × Node). option_map (λ i. (q.0.standing, (i.sym, i.ctxt))) (name_in (out-Node q.1))) o) there
    ∙ ap (λ o. option_map (λ i. (w.standing, (i.sym, i.ctxt))) o) named

-- the name of a function that uses it is bound
function_binds : (a b c : Bool) → IsTrue (is_binding (if a then standing.Function else (if b then standing.SloppyFunction else standing.BlockFunction)))
function_binds true b c = refl
function_binds false true c = refl
function_binds false false c = refl

own_binds : (r : Standing) → IsTrue (is_binding (own_name r kind.FnExpr))
own_binds standing.DefaultExport = refl
own_binds r = refl

name_binds : (w : Place) (y : Node-F Node) → IsTrue (uses_own_name y) → IsTrue (is_binding (place_in w y fn_decl.IDENT).standing)
name_binds w (Node-F.Tree kind.FnDecl ts) h = function_binds _ _ true
name_binds w (Node-F.Tree kind.FnExpr ts) h = own_binds w.standing
name_binds w y h = absurd (cc)

own_found : (t : Node) (h : Path) (n : ℕ) (o : Outside) (x : Option Ident) (m : Marked) → HasOwnName t h x → AllFound t m → AllFound t (marked_own_use n h o x m)
own_found t h n o None m has f = f
own_found t h n o (Some x) m (q, v, g, path, there, uses, name) f =
    let (c, at, named) = id_of_name (child g fn_decl.IDENT) x name in
    one_met t (own_at (name_beside h)) _ m (record {
      bound_as = (place_below v g fn_decl.IDENT).standing;
      stands = ap (id_at t) (ap name_beside path ∙ beside q) ∙ id_there t (below q fn_decl.IDENT) (place_below v g fn_decl.IDENT) c x (place_below_at q fn_decl.IDENT program_place t v g c there at) named;
      binds = name_binds v (out-Node g) uses;
      refers = refl;
    }) f

-- a walk over a node, and over a child in its place
abbrev pub Finds : Node → Node → Type 0
Finds t n = (h : Path) (w : Place) (o : Outside) (m : Marked) → Context t h w n o m → AllFound t m → AllFound t (marked_in w n h o m)

abbrev ChildFinds : Node → Path → Place → Node → ℕ → Option MarkedWalk → Type 0
ChildFinds t h w n i walk = (o : Outside) (m : Marked) → ((c : Node) → child n i ≡ Some c → Context t (below h i) (place_below w n i) c o m) → AllFound t m → AllFound t (marked_goes walk (below h i) o m)

each_finds : (t : Node) (h : Path) (w : Place) (n : Node) → ((i : ℕ) (c : Node) → child n i ≡ Some c → Finds t c) → (i : ℕ) → ChildFinds t h w n i (marked_walks_at (place_below w n) (children_in (out-Node n)) i)
each_finds t h w n finds i = at (child n i) refl
  where
    at : (c : Option Node) → child n i ≡ c → ChildFinds t h w n i (option_map (marked_in (place_below w n i)) c)
    at None e o m x f = f
    at (Some c) e o m x f = finds i c e (below h i) (place_below w n i) o m (x c e) f

module _ (t : Node) (h : Path) (w : Place) (n : Node) (o : Outside) (m : Marked) (at : Context t h w n o m) where
  abbrev walks : ℕ → Option MarkedWalk
  walks = marked_walks_at (place_below w n) (children_in (out-Node n))

  grow : (i : ℕ) → Adds (walks i)
  grow = all_add (place_below w n) (children_in (out-Node n))

  module _ (each : (i : ℕ) → ChildFinds t h w n i (walks i)) where
    items_find : (ts : List Node) → out-Node n ≡ Node-F.List ts → (i : ℕ) → AllFound t m → AllFound t (marked_in_turn (λ i. marked_goes (walks i) (below h i) (round_item o)) i m)
    items_find ts layer zero f = f
    items_find ts layer (suc i) f = each i (round_item o) _ (λ c e. item_context t h w n ts o _ layer (moved (turns_grow (λ i. marked_goes (walks i) (below h i) (round_item o)) (λ i m. grow i (below h i) (round_item o) m) i m) at) i c (sym (ap (λ y. slice_get (children_in y) i) layer) ∙ e)) (items_find ts layer i f)

    module _ (k : Kind) (ts : List Node) (layer : out-Node n ≡ Node-F.Tree k ts) where
      field_finds : (s : Option ℕ) (l : Marked) (i : ℕ) → Scoped l s (scopes_round t (below h i)) → AllFound t l → AllFound t (marked_field k ts walks i h (record o { scope = s }) l)
      field_finds s l i scoped f = each i (round_field k ts (record o { scope = s }) i) l (λ c e. field_context t h w n k ts at.there layer o m l at s i c (sym (ap (λ y. slice_get (children_in y) i) layer) ∙ e) scoped) f

      -- the fields but one, in the scopes round them
      module _ (but : Option ℕ) (s : Option ℕ) (around : List Around) (so : (i : ℕ) → is_at but i ≡ false → scopes_round t (below h i) ≡ around) (from : Marked) (scoped : Scoped from s around) where
        abbrev turned : ℕ → Marked
        turned i = marked_in_turn (λ i. marked_but k ts walks but (child_at k i) h (record o { scope = s })) i from

        grows_so_far : (i : ℕ) → Grows from (turned i)
        grows_so_far i = turns_grow (λ i. marked_but k ts walks but (child_at k i) h (record o { scope = s })) (λ i m. but_grows k ts walks grow but (child_at k i) h (record o { scope = s }) m) i from

        but_finds : (i : ℕ) (b : Bool) → is_at but (child_at k i) ≡ b → AllFound t (turned i) → AllFound t (if b then turned i else marked_field k ts walks (child_at k i) h (record o { scope = s }) (turned i))
        but_finds i true e f = f
        but_finds i false e f = field_finds s (turned i) (child_at k i) (subst (Scoped (turned i) s) (sym (so (child_at k i) e)) (scoped_stays from (turned i) (grows_so_far i) s around scoped)) f

        fields_find : (i : ℕ) → AllFound t from → AllFound t (turned i)
        fields_find zero f = f
        fields_find (suc i) f = but_finds i (is_at but (child_at k i)) refl (fields_find i f)

      optional_finds : (z : Option ℕ) (l : Marked) → Scoped l o.scope (scopes_round t h) → ((i : ℕ) → z ≡ Some i → scopes_round t (below h i) ≡ scopes_round t h) → AllFound t l → AllFound t (marked_optional k ts walks z h o l)
      optional_finds None l scoped so f = f
      optional_finds (Some i) l scoped so f = field_finds o.scope l i (subst (Scoped l o.scope) (sym (so i refl)) scoped) f

      -- a tree that opens a scope
      module _ (s : ScopeKind) (opens : body_kind (is_body_at false t h) (kind_opened k (opened_as w k (has_own_name ts))) ≡ Some s) where
        abbrev but : Option ℕ
        but = outside_field w k (has_identifier ts)

        out_there : (i : ℕ) → is_at but i ≡ true → scopes_round t (below h i) ≡ scopes_round t h
        out_there i e = round_outside t h w n k ts at.there layer i (opens_outside (is_body_at false t h) w k ts i (outside_is w k (has_identifier ts) i ∙ e))

        in_there : (i : ℕ) → is_at but i ≡ false → scopes_round t (below h i) ≡ (h, s) ∷ scopes_round t h
        in_there i e = round_inside t h w n k ts at.there layer i s (opens_inside (is_body_at false t h) w k ts i s (outside_is w k (has_identifier ts) i ∙ e) opens)

        key_out : (i : ℕ) → key_field k ≡ Some i → scopes_round t (below h i) ≡ scopes_round t h
        key_out i e = out_there i (ap (λ (z : Option ℕ). is_at (option_or z (name_outside w k (has_identifier ts))) i) e ∙ (unsigned_Decides i i).1 refl)

        name_out : (i : ℕ) → name_outside w k (has_identifier ts) ≡ Some i → scopes_round t (below h i) ≡ scopes_round t h
        name_out i e = by (key_field k) refl
          where
            by : (z : Option ℕ) → key_field k ≡ z → scopes_round t (below h i) ≡ scopes_round t h
            by None f = out_there i (ap (λ (z : Option ℕ). is_at (option_or z (name_outside w k (has_identifier ts))) i) f ∙ ap (λ z. is_at z i) e ∙ (unsigned_Decides i i).1 refl)
            by (Some j) f = let none = keyed_alone w k (has_identifier ts) j f in let both : None ≡ Some i = sym none ∙ e in absurd (cc)

        abbrev key : Marked
        key = marked_optional k ts walks (key_field k) h o m

        abbrev number : ℕ
        number = length key.scopes

        abbrev entered : Marked
        entered = marked_enter h s o.scope key

        abbrev named : Marked
        named = marked_optional k ts walks (name_outside w k (has_identifier ts)) h o entered

        abbrev begun : Marked
        begun = marked_begin number named

        abbrev used : Marked
        used = marked_own_use number h o o.own_name begun

        abbrev walked : Marked
        walked = marked_fields k ts walks but h (record o { scope = Some number }) used

        key_grows : Grows m key
        key_grows = optional_grows k ts walks grow (key_field k) h o m

        named_grows : Grows entered named
        named_grows = optional_grows k ts walks grow (name_outside w k (has_identifier ts)) h o entered

        used_grows : Grows entered used
        used_grows = grows_on named_grows (grows_on (begins number named) (uses_own number h o o.own_name begun))

        outer_scoped : (l : Marked) → Grows m l → Scoped l o.scope (scopes_round t h)
        outer_scoped l g = scoped_stays m l g o.scope (scopes_round t h) at.scoped

        inner_scoped : Scoped used (Some number) ((h, s) ∷ scopes_round t h)
        inner_scoped = scoped_stays entered used used_grows (Some number) ((h, s) ∷ scopes_round t h) (scoped_in key h o.scope (scopes_round t h) (outer_scoped key key_grows) s)

        scope_finds : AllFound t m → AllFound t (marked_end number walked)
        scope_finds f =
            let f_key = optional_finds (key_field k) m at.scoped key_out f in
            let f_entered = all_stay t key entered (enters h s o.scope key) key.names f_key in
            let f_named = optional_finds (name_outside w k (has_identifier ts)) entered (outer_scoped entered (grows_on key_grows (enters h s o.scope key))) name_out f_entered in
            let f_begun = all_stay t named begun (begins number named) named.names f_named in
            let f_used = own_found t h number o o.own_name begun at.own_name f_begun in
            let f_walked = fields_find but (Some number) ((h, s) ∷ scopes_round t h) in_there used inner_scoped (length ts + 1) f_used in
            all_stay t walked (marked_end number walked) (ends number walked) walked.names f_walked

      opening_finds : (s : Option ScopeKind) → body_kind (is_body_at false t h) (kind_opened k (opened_as w k (has_own_name ts))) ≡ s → AllFound t m → AllFound t (marked_opening s w k ts walks h o m)
      opening_finds None e f = fields_find None o.scope (scopes_round t h) (λ i _. round_outside t h w n k ts at.there layer i (opens_none (is_body_at false t h) w k ts i e)) m at.scoped (length ts + 1) f
      opening_finds (Some s) e f = scope_finds s e f

    met_or_not : (b : Bool) (x : Met) → is_name_or_label w.standing ≡ b → (IsTrue b → IsFoundAt t m h x) → AllFound t m → AllFound t (if b then marked_meet (at_path h) x m else m)
    met_or_not true x e found f = one_met t (at_path h) x m (found refl) f
    met_or_not false x e found f = f

    layer_finds : (y : Node-F Node) → out-Node n ≡ y → AllFound t m → AllFound t (marked_layer w y walks h o m)
    layer_finds (Node-F.Identifier k i) layer f = met_or_not (is_name_or_label w.standing) (record { ident = i; standing = w.standing; scope = o.scope; exported = o.exported }) refl
        (λ named. record { stands = id_there t h w n i at.there (ap name_in layer); named = named; exported = at.exported; scoped = at.scoped }) f
    layer_finds (Node-F.List ts) layer f = items_find ts layer (length ts) f
    layer_finds (Node-F.Tree k ts) layer f = opening_finds k ts layer (body_kind o.for_body (kind_opened k (opened_as w k (has_own_name ts)))) (ap (λ b. body_kind b (kind_opened k (opened_as w k (has_own_name ts)))) (sym at.for_body)) f
    layer_finds Node-F.Absent layer f = f
    layer_finds (Node-F.Flag x) layer f = f
    layer_finds (Node-F.Word x) layer f = f
    layer_finds (Node-F.Text x) layer f = f
    layer_finds (Node-F.Span x) layer f = f

walk_finds : (t n : Node) → Finds t n
walk_finds t = by_children (Finds t) (λ n below h w o m at f. subst (λ g. AllFound t (g h o m)) (sym (marked_at w n)) (layer_finds t h w n o m at (each_finds t h w n below) (out-Node n) refl f))

pub all_found : (t : Node) → AllFound t (marked_out t)
all_found t = walk_finds t t [] program_place outside_all (record { scopes = []; names = [] }) (root_context t) tt

-- as the definitions say it
met_as : (t : Node) (m : Marked) (b : Bool) (p : Path) (x : Met) → IsFoundAs t m b p x → IsMetAs t (paths_of m) (regions_of m) b p x
met_as t m false p x f = record { stands = f.stands; named = f.named; exported = f.exported; taken = λ r. taken_there m x.scope (scopes_round t p) f.scoped r }
met_as t m true p x f = f

pub each_met : (t : Node) (k : ℕ) (x : MarkedName) → slice_get (marked_out t).names k ≡ Some x → IsMetAs t (paths_of (marked_out t)) (regions_of (marked_out t)) x.use_.own x.use_.path x.met
each_met t k x e = met_as t (marked_out t) x.use_.own x.use_.path x.met (all_at (IsFound t (marked_out t)) (marked_out t).names (all_found t) k x e)
