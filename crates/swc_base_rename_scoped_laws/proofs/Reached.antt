-- The scope of the analysis that declares a plain function of a block of sloppy code is the nearest function, static block or
-- program of the language, or stands round it.
use Rattle.std.proofs.Common.{◌≡◌, ℕ, zero, suc, Bool, true, false, not, ◌&&◌, IsTrue, inl, Option, Some, None, List, [], ◌∷◌, map, refl, sym, ap, ◌∙◌, subst, cond, true≢false}
use Rattle.std.specs.List.{slice_get}
use Rattle.swc_tree_node.specs.declared.kind.Kind.{Kind}
use Rattle.swc_tree_node.specs.declared.kind.Kind.TheVariants as kind
use Rattle.swc_tree_node.specs.declared.kind.Word.{Word}
use Rattle.swc_tree_node.specs.declared.kind.Class.TheVariants as class
use Rattle.swc_tree_node.specs.declared.slot.Content.TheVariants as content
use Rattle.swc_tree_node.specs.declared.slot.Slot.{Slot}
use Rattle.swc_tree_node.specs.declared.slot.Slot.TheVariants as slot
use Rattle.swc_tree_node.specs.declared.slot.Role.{Role}
use Rattle.swc_tree_node.specs.declared.slot.Role.TheVariants as role
use Rattle.swc_tree_node.specs.declared.kind.Word.TheVariants as word
use Rattle.swc_tree_node.specs.declared.node.Node.{Node, out-Node}
use Rattle.swc_tree_node.specs.declared.node.Node.TheOpen.{Node-F}
use Rattle.swc_tree_node.specs.Table.{fields_of, is_identifier, slots_of}
use Rattle.swc_tree_node.specs.Fits.{Fits, Test, belongs, each_fits, fits, single, tree_fits}
use Rattle.swc_tree_node.proofs.Fit.{both}
use Rattle.swc_tree_scoping.specs.declared.places.Standing.{Standing}
use Rattle.swc_tree_scoping.specs.declared.places.Standing.TheVariants as standing
use Rattle.swc_tree_scoping.specs.declared.places.Place.{Place}
use Rattle.swc_tree_scoping.specs.Places.{Path, binds_patterns, by_keyword, by_word, child, has_own_name, is_identifier_expression, is_inside, is_there, keyword_in, opened, opened_as, opened_in, own_name, part_standing, place_at, place_below, place_in, plain_standing, standing_below, view_from}
use Rattle.swc_tree_scoping.specs.Scopes.{is_taken, view_in}
use Rattle.swc_tree_scoping.proofs.Under.{no_place_under, place_under}
use Rattle.swc_tree_sites.proofs.Loose.{lowered, or_else, own, split_taken, taker_in, taker_under}
use Rattle.swc_tree_sites.proofs.Leaves.{Field, class_covers, field_leaves, leaves_kind, leaves_slot, may, own_below, stays}
use Rattle.swc_base_rename_analysis.specs.declared.scopes.ScopeKind.{ScopeKind}
use Rattle.swc_base_rename_analysis.specs.declared.scopes.ScopeKind.TheVariants.{Block, Fn}
use Rattle.swc_base_rename_analysis.specs.Analysis.{Around, body_kind, first_taking, has_identifier, is_for_body, is_outside, opened_round, own_kind, takes}
use Rattle.swc_base_rename_scoped_laws.proofs.Fields.{field_at, item_at, item_of, layer}
use Rattle.swc_base_rename_scoped_laws.proofs.Openings.{bound_so, field_stands, field_taken, may_more, no_tree, opens_analysed, owned, seen_too, taken_there}
use Rattle.swc_base_rename_scoped_laws.proofs.Takers.{IsHeld, analysed_in, analysed_under, combine, here_taken, no_child, own_here, taken_here_only}

abbrev root : Option Path
root = Some []

impossible : {A : Type 0} → false ≡ true → A
impossible h = absurd (cc)

no_variable : {A : Type 0} → standing.Variable ≡ standing.Lexical → A
no_variable e = absurd (cc)

-- the analysis takes such a function where it takes a variable
pub as_variable : (ss : List Around) → first_taking standing.SloppyFunction ss ≡ first_taking standing.Variable ss
as_variable [] = refl
as_variable (s ∷ ss) = next s.1 (as_variable ss)
  where
    next : (k : ScopeKind) → first_taking standing.SloppyFunction ss ≡ first_taking standing.Variable ss
        → cond (takes k standing.SloppyFunction) (Some s.0) (first_taking standing.SloppyFunction ss) ≡ cond (takes k standing.Variable) (Some s.0) (first_taking standing.Variable ss)
    next Fn e = refl
    next Block e = e

-- what stands as such a function's name
abbrev pub is_sloppy : Standing → Bool
is_sloppy standing.SloppyFunction = true
is_sloppy _ = false

pub sloppy_so : (r : Standing) → r ≡ standing.SloppyFunction → is_sloppy r ≡ true
sloppy_so r e = ap is_sloppy e

abbrev is_function_role : Role → Bool
is_function_role role.Function = true
is_function_role _ = false

chosen : (b : Bool) (r s : Standing) → is_sloppy r ≡ false → is_sloppy s ≡ false → is_sloppy (cond b r s) ≡ false
chosen true r s h g = h
chosen false r s h g = g

part : (r : Standing) (o : Option Node) → is_sloppy r ≡ false → is_sloppy (part_standing r o) ≡ false
part r o h = chosen (binds_patterns r && is_identifier_expression o) standing.Reference r refl h

words : (w : Word) → is_sloppy (by_word w) ≡ false
words word.Var = refl
words _ = refl

keyword : (y : Node-F Node) (rest : Standing) → is_sloppy rest ≡ false → is_sloppy (keyword_in y rest) ≡ false
keyword (Node-F.Word w) rest h = words w
keyword Node-F.Absent rest h = h
keyword _ rest h = h

keywords : (ts : List Node) → is_sloppy (by_keyword ts) ≡ false
keywords [] = refl
keywords (t ∷ ts) = keyword (out-Node t) (by_keyword ts) (keywords ts)

-- by the standing alone, then by the kind: both at once have some 2,500 cases
own_names_of_default : (k : Kind) → is_sloppy (own_name standing.DefaultExport k) ≡ false
own_names_of_default kind.FnExpr = refl
own_names_of_default _ = refl

own_names_of_expression : (k : Kind) → is_sloppy (own_name standing.Plain k) ≡ false
own_names_of_expression kind.FnExpr = refl
own_names_of_expression _ = refl

own_names : (r : Standing) (k : Kind) → is_sloppy (own_name r k) ≡ false
own_names standing.DefaultExport k = own_names_of_default k
own_names _ k = own_names_of_expression k

plains : (k : Kind) (i : ℕ) → is_sloppy (plain_standing k i) ≡ false
plains kind.IfStmt i = chosen _ standing.Branch standing.Plain refl refl
plains kind.ExportDefaultDecl i = chosen _ standing.DefaultExport standing.Plain refl refl
plains _ i = refl

fields_quiet : (w : Place) (k : Kind) (ts : List Node) (i : ℕ) (x : Role) → is_sloppy w.standing ≡ false → is_function_role x ≡ false → is_sloppy (standing_below w k ts i x) ≡ false
fields_quiet w k ts i role.Function h n = absurd (cc)
fields_quiet w k ts i role.Plain h n = plains k i
fields_quiet w k ts i role.Inherited h n = part w.standing (slice_get ts i) h
fields_quiet w k ts i role.Parameter h n = part standing.Parameter (slice_get ts i) refl
fields_quiet w k ts i role.Catch h n = part standing.CatchParameter (slice_get ts i) refl
fields_quiet w k ts i role.Declared h n = keywords ts
fields_quiet w k ts i role.OwnName h n = own_names w.standing k
fields_quiet w k ts i role.ExportLocal h n = chosen (is_there (slice_get ts 2)) standing.Imported standing.Reference refl refl
fields_quiet w k ts i _ h n = refl

-- it is the first field of a function declaration
abbrev is_declaration : Kind → Bool
is_declaration kind.FnDecl = true
is_declaration _ = false

abbrev is_ident : Slot → Bool
is_ident (slot.One (content.Node class.Ident)) = true
is_ident _ = false

abbrev all_names : Kind → List Field → Bool
all_names k [] = true
all_names k (f ∷ fs) = cond (is_function_role f.2) (is_declaration k && is_ident f.1) true && all_names k fs

kind_names : (k : Kind) → all_names k (fields_of k) ≡ true
kind_names kind.Module = refl
kind_names _ = refl

halves : (a b : Bool) → (a && b) ≡ true → (a ≡ true) × (b ≡ true)
halves true b h = (refl, h)
halves false b h = absurd (cc)

then_so : (a b : Bool) → cond a b true ≡ true → a ≡ true → b ≡ true
then_so true b h e = h
then_so false b h e = absurd (cc)

abbrev name_test : Kind → Field → Bool
name_test k f = cond (is_function_role f.2) (is_declaration k && is_ident f.1) true

name_at : (k : Kind) (fs : List Field) (i : ℕ) (f : Field) → all_names k fs ≡ true → slice_get fs i ≡ Some f → name_test k f ≡ true
name_at k [] i f h e = absurd (cc)
name_at k (x ∷ fs) zero f h e = let one : x ≡ f = cc in ap (name_test k) (sym one) ∙ (halves (name_test k x) (all_names k fs) h).0
name_at k (x ∷ fs) (suc i) f h e = name_at k fs i f (halves (name_test k x) (all_names k fs) h).1 e

named_field : (w : Place) (k : Kind) (ts : List Node) (i : ℕ) (f : Field) → slice_get (fields_of k) i ≡ Some f → is_sloppy w.standing ≡ false → is_sloppy (standing_below w k ts i f.2) ≡ true → (is_declaration k ≡ true) × (is_ident f.1 ≡ true)
named_field w k ts i f at n h = by (is_function_role f.2) refl
  where
    by : (b : Bool) → is_function_role f.2 ≡ b → (is_declaration k ≡ true) × (is_ident f.1 ≡ true)
    by true e = halves (is_declaration k) (is_ident f.1) (then_so (is_function_role f.2) (is_declaration k && is_ident f.1) (name_at k (fields_of k) i f (kind_names k) at) e)
    by false e = impossible (sym (fields_quiet w k ts i f.2 n e) ∙ h)

ident_slot : (s : Slot) → is_ident s ≡ true → s ≡ slot.One (content.Node class.Ident)
ident_slot (slot.One (content.Node class.Ident)) h = refl
ident_slot (slot.One (content.Node _)) h = absurd (cc)
ident_slot (slot.One _) h = absurd (cc)
ident_slot _ h = absurd (cc)

-- which has nothing below it
pub ident_leaf : (c d : Node) (i : ℕ) → Fits c (slot.One (content.Node class.Ident)) → child c i ≡ Some d → ⊥
ident_leaf c d i fit e = forms (out-Node c) refl
  where
    forms : (y : Node-F Node) → out-Node c ≡ y → ⊥
    forms (Node-F.Tree l us) o = no_tree l us (layer c (Node-F.Tree l us) (slot.One (content.Node class.Ident)) o fit)
    forms (Node-F.List us) o = let z = layer c (Node-F.List us) (slot.One (content.Node class.Ident)) o fit in absurd (cc)
    forms Node-F.Absent o = no_child c d i Node-F.Absent o refl e
    forms (Node-F.Flag x) o = no_child c d i (Node-F.Flag x) o refl e
    forms (Node-F.Word x) o = no_child c d i (Node-F.Word x) o refl e
    forms (Node-F.Text x) o = no_child c d i (Node-F.Text x) o refl e
    forms (Node-F.Span x) o = no_child c d i (Node-F.Span x) o refl e
    forms (Node-F.Identifier l x) o = no_child c d i (Node-F.Identifier l x) o refl e

-- where it is no variable scope's, what holds such a function may leave a variable
abbrev leaves_variable : Slot → Bool
leaves_variable s = may (leaves_slot s) false standing.Variable

kind_leaves : (k : Kind) (fs : List Test) (s : Slot) → IsTrue (tree_fits k fs (single s)) → may (leaves_kind k) false standing.Variable ≡ true → leaves_variable s ≡ true
kind_leaves k fs (slot.One (content.Node c)) h m = class_covers k c false standing.Variable (both (belongs k c) (each_fits (slots_of k) fs) (both (not (is_identifier k)) (belongs k c && each_fits (slots_of k) fs) h).1).0 m
kind_leaves k fs (slot.Optional (content.Node c)) h m = class_covers k c false standing.Variable (both (belongs k c) (each_fits (slots_of k) fs) (both (not (is_identifier k)) (belongs k c && each_fits (slots_of k) fs) h).1).0 m
kind_leaves k fs (slot.One _) h m = absurd (cc)
kind_leaves k fs (slot.Optional _) h m = absurd (cc)
kind_leaves k fs _ h m = absurd (cc)

item_leaves : (s u : Slot) → item_of s u → leaves_slot u ≡ leaves_slot s
item_leaves (slot.List x) u e = ap leaves_slot e
item_leaves (slot.Holes x) u e = ap leaves_slot e
item_leaves (slot.OptionalList x) u e = ap leaves_slot e
item_leaves slot.Pair u e = ap leaves_slot e
item_leaves slot.Pairs u e = ap leaves_slot e
item_leaves _ u e = absurd e

not_so : (b : Bool) → cond b root None ≡ None → not b ≡ true
not_so true h = absurd (cc)
not_so false h = refl

stays_out : (w : Place) (k : Kind) (b : Bool) (i : ℕ) → own (opened_as w k b) (view_from k i) standing.Variable ≡ None → stays k i standing.Variable ≡ true
stays_out w kind.Function b i h = not_so (is_inside (view_from kind.Function i)) h
stays_out w kind.ArrowExpr b i h = not_so (is_inside (view_from kind.ArrowExpr i)) h
stays_out w kind.Constructor b i h = not_so (is_inside (view_from kind.Constructor i)) h
stays_out w kind.GetterProp b i h = not_so (is_inside (view_from kind.GetterProp i)) h
stays_out w kind.SetterProp b i h = not_so (is_inside (view_from kind.SetterProp i)) h
stays_out w kind.StaticBlock b i h = not_so (is_inside (view_from kind.StaticBlock i)) h
stays_out w kind.TsModuleDecl b i h = not_so (is_inside (view_from kind.TsModuleDecl i)) h
stays_out w kind.FnExpr b zero h = refl
stays_out w kind.FnExpr b (suc i) h = refl
stays_out w kind.ClassExpr b zero h = refl
stays_out w kind.ClassExpr b (suc i) h = refl
stays_out w _ b i h = refl

declaration_leaves : (k : Kind) → is_declaration k ≡ true → may (leaves_kind k) false standing.Variable ≡ true
declaration_leaves kind.FnDecl h = refl
declaration_leaves _ h = absurd (true≢false (sym h))

may_own : (g : Slot) (y : Bool) → leaves_variable g ≡ true → may (leaves_slot g) y standing.Variable ≡ true
may_own g y m = may_more (leaves_slot g) false y standing.Variable (λ e. impossible e) m

some_same : (a b : Place × Node) → Some a ≡ Some b → a ≡ b
some_same a b e = cc

no_place : {A : Type 0} (z : Place × Node) → Some z ≡ None → A
no_place z e = absurd (cc)

-- the name of such a function stands at the path
pub record IsSloppyAt (w : Place) (t : Node) (p : Path) : Type 0 where
  pub place : Place
  pub node : Node
  pub stands : place_at w t p ≡ Some (place, node)
  pub stands_so : is_sloppy place.standing ≡ true

at_child : (w : Place) (t c : Node) (j : ℕ) (p : Path) → child t j ≡ Some c → IsSloppyAt w t (j ∷ p) → IsSloppyAt (place_below w t j) c p
at_child w t c j p e h = record { place = h.place; node = h.node; stands = sym (place_under w t c j p e) ∙ h.stands; stands_so = h.stands_so }

leaves_there : (p : Path) (w : Place) (t : Node) (s : Slot) → Fits t s → is_sloppy w.standing ≡ false → IsSloppyAt w t p → taker_in w t standing.Variable p ≡ None → leaves_variable s ≡ true
leaves_there [] w t s fit n h e = impossible (sym n ∙ ap (λ (z : Place × Node). is_sloppy z.0.standing) (some_same (w, t) (h.place, h.node) h.stands) ∙ h.stands_so)
leaves_there (j ∷ p) w t s fit n h e = at (child t j) refl (λ c u fit n h e. leaves_there p (place_below w t j) c u fit n h e)
  where
    at : (o : Option Node) → child t j ≡ o
        → ((c : Node) (u : Slot) → Fits c u → is_sloppy (place_below w t j).standing ≡ false → IsSloppyAt (place_below w t j) c p → taker_in (place_below w t j) c standing.Variable p ≡ None → leaves_variable u ≡ true)
        → leaves_variable s ≡ true
    at None z more = no_place (h.place, h.node) (sym h.stands ∙ no_place_under w t j p z)
    at (Some c) z more = forms (out-Node t) refl
      where
        none : (taker_in (place_below w t j) c standing.Variable p ≡ None) × (own (opened w t) (view_in (out-Node t) j) standing.Variable ≡ None)
        none = split_taken j (taker_in (place_below w t j) c standing.Variable p) (own (opened w t) (view_in (out-Node t) j) standing.Variable) None tt (sym (taker_under w t c standing.Variable j p z) ∙ e)

        forms : (y : Node-F Node) → out-Node t ≡ y → leaves_variable s ≡ true
        forms (Node-F.Tree k ts) o = let (f, number, fits_it) = field_at t c k ts s j o fit z in by f number fits_it (is_sloppy (place_below w t j).standing) refl
          where
            out_of : may (leaves_kind k) false standing.Variable ≡ true → leaves_variable s ≡ true
            out_of m = kind_leaves k (map fits ts) s (layer t (Node-F.Tree k ts) s o fit) m

            by : (f : Field) → slice_get (fields_of k) j ≡ Some f → Fits c f.1 → (b : Bool) → is_sloppy (place_below w t j).standing ≡ b → leaves_variable s ≡ true
            by f number fits_it true b = out_of (declaration_leaves k (named_field w k ts j f number n (sym (ap is_sloppy (field_stands w t k ts j f o number)) ∙ b)).0)
            by f number fits_it false b =
                out_of
                (field_leaves k j f false standing.Variable number refl (may_own f.1 (own_below k f.2 false standing.Variable) (more c f.1 fits_it b (at_child w t c j p z h) none.0))
                (stays_out w k (has_own_name ts) j (sym (ap (λ y. own (opened_in w y) (view_in y j) standing.Variable) o) ∙ none.1)))
        forms (Node-F.List ts) o =
            let (u, fits_it, one) = item_at t c ts s j o fit z in
            ap (λ l. may l false standing.Variable) (sym (item_leaves s u one))
            ∙ more c u fits_it (ap (λ y. is_sloppy (place_in w y j).standing) o ∙ part w.standing (slice_get ts j) n) (at_child w t c j p z h) none.0
        forms Node-F.Absent o = no_child t c j Node-F.Absent o refl z
        forms (Node-F.Flag x) o = no_child t c j (Node-F.Flag x) o refl z
        forms (Node-F.Word x) o = no_child t c j (Node-F.Word x) o refl z
        forms (Node-F.Text x) o = no_child t c j (Node-F.Text x) o refl z
        forms (Node-F.Span x) o = no_child t c j (Node-F.Span x) o refl z
        forms (Node-F.Identifier l i) o = no_child t c j (Node-F.Identifier l i) o refl z

-- where the analysis takes it, the language takes variables
variable_there : (k : Kind) (i : ℕ) (w : Place) (b : Bool) → taken_there k i standing.Variable ≡ true → is_taken standing.Variable (opened_as w k b) ≡ true
variable_there kind.Module i w b h = refl
variable_there kind.Script i w b h = refl
variable_there kind.Function i w b h = refl
variable_there kind.ArrowExpr i w b h = refl
variable_there kind.Constructor i w b h = refl
variable_there kind.GetterProp i w b h = refl
variable_there kind.SetterProp i w b h = refl
variable_there kind.StaticBlock i w b h = refl
variable_there kind.TsModuleDecl i w b h = refl
variable_there kind.FnExpr zero w b h = absurd (true≢false (sym h))
variable_there kind.FnExpr (suc i) w b h = absurd (true≢false (sym h))
variable_there kind.ClassExpr zero w b h = absurd (true≢false (sym h))
variable_there kind.ClassExpr (suc i) w b h = absurd (true≢false (sym h))
variable_there _ i w b h = absurd (true≢false (sym h))

itself : (f : Bool) (m : Option ScopeKind) (a : ScopeKind) → body_kind f m ≡ Some a → takes a standing.Variable ≡ true → m ≡ Some a
itself false m a e h = e
itself true (Some d) a e h = e
itself true None a e h = let same : Block ≡ a = cc in impossible (ap (λ a. takes a standing.Variable) same ∙ h)

variable_held : (f : Bool) (w : Place) (t : Node) (k : Kind) (ts : List Node) (j : ℕ) (fd : Field) → out-Node t ≡ Node-F.Tree k ts → slice_get (fields_of k) j ≡ Some fd → leaves_variable fd.1 ≡ true
    → first_taking standing.Variable (opened_round f w (Node-F.Tree k ts) j) ≡ Some [] → own (opened w t) (view_in (out-Node t) j) standing.Variable ≡ Some []
variable_held f w t k ts j fd o number m h =
    let (a, n, e, tk) = here_taken (is_outside w k (has_identifier ts) j) (body_kind f (own_kind w k (has_own_name ts))) standing.Variable h in
    let its = itself f (own_kind w k (has_own_name ts)) a e tk in
    owned w t k ts j standing.Variable o
    (variable_there k j w (has_own_name ts) (field_taken k j fd standing.Variable number refl (opens_analysed w k (has_own_name ts) a standing.Variable its tk) (may_own fd.1 (bound_so k fd.2 standing.Variable) m)))
    (seen_too w k (has_own_name ts) (has_identifier ts) j a its n)

-- a declaration of a function is no scope that takes one
none_here : (f : Bool) (w : Place) (k : Kind) (ts : List Node) (j : ℕ) → is_declaration k ≡ true → first_taking standing.Variable (opened_round f w (Node-F.Tree k ts) j) ≡ None
none_here true w kind.FnDecl ts j h = refl
none_here false w kind.FnDecl ts j h = refl
none_here f w _ ts j h = absurd (true≢false (sym h))

no_root : {A : Type 0} → None ≡ root → A
no_root e = absurd (cc)

no_step : {A : Type 0} (j : ℕ) (p : Path) → (j ∷ p) ≡ [] → A
no_step j p e = absurd (cc)

abbrev Held : Bool → Place → Node → Path → Type 0
Held f w t p = IsHeld t f standing.Variable (taker_in w t standing.Variable p) (analysed_in f w t standing.Variable p)

joined : (p : Path) (f : Bool) (w : Place) (t c : Node) (j : ℕ) → child t j ≡ Some c → Held (is_for_body (out-Node t) j) (place_below w t j) c p
    → (taker_in (place_below w t j) c standing.Variable p ≡ None → first_taking standing.Variable (opened_round f w (out-Node t) j) ≡ Some [] → own (opened w t) (view_in (out-Node t) j) standing.Variable ≡ Some [])
    → Held f w t (j ∷ p)
joined p f w t c j z inner here =
    subst (λ a. IsHeld t f standing.Variable a (analysed_in f w t standing.Variable (j ∷ p))) (sym (taker_under w t c standing.Variable j p z))
    (subst (λ b. IsHeld t f standing.Variable (or_else (lowered j (taker_in (place_below w t j) c standing.Variable p)) (own (opened w t) (view_in (out-Node t) j) standing.Variable)) b) (sym (analysed_under f w t c standing.Variable j p z))
    (combine t c f standing.Variable j (taker_in (place_below w t j) c standing.Variable p) (analysed_in (is_for_body (out-Node t) j) (place_below w t j) c standing.Variable p) (own (opened w t) (view_in (out-Node t) j) standing.Variable)
    (first_taking standing.Variable (opened_round f w (out-Node t) j)) z inner (taken_here_only f w (out-Node t) j standing.Variable) (own_here _) (λ none taken. inl (here none taken)) (λ is l. no_variable l)))

pub reaches_held : (p : Path) (f : Bool) (w : Place) (t : Node) (s : Slot) → Fits t s → (is_sloppy w.standing ≡ true → p ≡ []) → IsSloppyAt w t p → Held f w t p
reaches_held [] f w t s fit n h = tt
reaches_held (j ∷ p) f w t s fit n h = at (child t j) refl (λ c u fit n h. reaches_held p (is_for_body (out-Node t) j) (place_below w t j) c u fit n h)
  where
    quiet : is_sloppy w.standing ≡ false
    quiet = by (is_sloppy w.standing) refl
      where
        by : (b : Bool) → is_sloppy w.standing ≡ b → b ≡ false
        by true e = no_step j p (n e)
        by false e = refl

    at : (o : Option Node) → child t j ≡ o
        → ((c : Node) (u : Slot) → Fits c u → (is_sloppy (place_below w t j).standing ≡ true → p ≡ []) → IsSloppyAt (place_below w t j) c p
        → Held (is_for_body (out-Node t) j) (place_below w t j) c p)
        → Held f w t (j ∷ p)
    at None z more = no_place (h.place, h.node) (sym h.stands ∙ no_place_under w t j p z)
    at (Some c) z more = forms (out-Node t) refl
      where
        below : IsSloppyAt (place_below w t j) c p
        below = at_child w t c j p z h

        forms : (y : Node-F Node) → out-Node t ≡ y → Held f w t (j ∷ p)
        forms (Node-F.Tree k ts) o = let (fd, number, fits_it) = field_at t c k ts s j o fit z in by fd number fits_it
          where
            by : (fd : Field) → slice_get (fields_of k) j ≡ Some fd → Fits c fd.1 → Held f w t (j ∷ p)
            by fd number fits_it = joined p f w t c j z (more c fd.1 fits_it (λ b. leaf p below (names b).1) below) (λ none taken. cases none (sym (ap (λ y. first_taking standing.Variable (opened_round f w y j)) o) ∙ taken) (is_sloppy (place_below w t j).standing) refl)
              where
                names : is_sloppy (place_below w t j).standing ≡ true → (is_declaration k ≡ true) × (is_ident fd.1 ≡ true)
                names b = named_field w k ts j fd number quiet (sym (ap is_sloppy (field_stands w t k ts j fd o number)) ∙ b)

                leaf : (p : Path) → IsSloppyAt (place_below w t j) c p → is_ident fd.1 ≡ true → p ≡ []
                leaf [] g i = refl
                leaf (l ∷ q) g i = at_leaf (child c l) refl
                  where
                    at_leaf : (o : Option Node) → child c l ≡ o → (l ∷ q) ≡ []
                    at_leaf None e = no_place (g.place, g.node) (sym g.stands ∙ no_place_under (place_below w t j) c l q e)
                    at_leaf (Some d) e = absurd (ident_leaf c d l (subst (Fits c) (ident_slot fd.1 i) fits_it) e)

                cases : taker_in (place_below w t j) c standing.Variable p ≡ None → first_taking standing.Variable (opened_round f w (Node-F.Tree k ts) j) ≡ Some [] → (b : Bool) → is_sloppy (place_below w t j).standing ≡ b → own (opened w t) (view_in (out-Node t) j) standing.Variable ≡ Some []
                cases none taken true b = no_root (sym (none_here f w k ts j (names b).0) ∙ taken)
                cases none taken false b = variable_held f w t k ts j fd o number (leaves_there p (place_below w t j) c fd.1 fits_it b below none) taken
        forms (Node-F.List ts) o =
            let (u, fits_it, one) = item_at t c ts s j o fit z in
            joined p f w t c j z (more c u fits_it (λ b. impossible (sym (ap (λ y. is_sloppy (place_in w y j).standing) o ∙ part w.standing (slice_get ts j) quiet) ∙ b)) below)
            (λ none taken. no_root (ap (λ y. first_taking standing.Variable (opened_round f w y j)) (sym o) ∙ taken))
        forms Node-F.Absent o = no_child t c j Node-F.Absent o refl z
        forms (Node-F.Flag x) o = no_child t c j (Node-F.Flag x) o refl z
        forms (Node-F.Word x) o = no_child t c j (Node-F.Word x) o refl z
        forms (Node-F.Text x) o = no_child t c j (Node-F.Text x) o refl z
        forms (Node-F.Span x) o = no_child t c j (Node-F.Span x) o refl z
        forms (Node-F.Identifier l i) o = no_child t c j (Node-F.Identifier l i) o refl z
