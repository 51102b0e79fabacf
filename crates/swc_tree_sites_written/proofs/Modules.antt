-- A module that is tame, written out, is left of the module.
use Rattle.std.proofs.Common.{◌≡◌, Bool, true, false, not, ◌⊎◌, inl, inr, ⊎_elim, IsTrue, Option, Some, None, List, [], ◌∷◌, ◌++◌, map, refl, sym, ap, ◌∙◌, subst, cond, true≢false}
use Rattle.std.specs.List.{filter, flat_map}
use Rattle.std.proofs.lemmas.List.{append-nil}
use Rattle.swc_tree_marks.specs.declared.ident.Ident.{Ident}
use Rattle.swc_tree_node.specs.declared.kind.Kind.{Kind}
use Rattle.swc_tree_node.specs.declared.node.Node.{Node, Absent, Span, List as Many, Identifier, Tree, out-Node}
use Rattle.swc_tree_node.specs.declared.node.Node.TheOpen.{Node-F}
use Rattle.swc_tree_node.specs.declared.node.Node.TheVariants.{outs-Absent, outs-Span, outs-Tree, outs-Identifier, rolls-Tree}
use Rattle.swc_tree_node.specs.Table.{is_identifier, slots_of}
use Rattle.swc_tree_node.specs.Fits.{AllFit, FieldsFit, Fits, belongs}
use Rattle.swc_tree_node.proofs.Fit.{both as both_are, fits-Absent, fits-Flag, fits-Word, fits-Text, fits-Span, fits-List, fits-Identifier, tree_opens}
use Rattle.swc_tree_scoping.specs.declared.places.Place.{Place}
use Rattle.swc_tree_scoping.specs.declared.places.Scope.{Scope}
use Rattle.swc_tree_scoping.specs.Places.{absent_in, children_in, field_role, opened, opened_in, place_in, program_place, view_from}
use Rattle.swc_tree_scoping.specs.BoundNames.{Id, declared_ids}
use Rattle.swc_tree_scoping.specs.Folds.{each_in}
use Rattle.swc_tree_scoping.specs.Scopes.{takes, view_in}
use Rattle.swc_tree_grammar.specs.Shapes.{items_of}
use Rattle.swc_tree_grammar.specs.Blocks.{no_span}
use Rattle.swc_tree_grammar.specs.Normal.{each_once, export_list, exported_as_itself, made, pattern_property_in, plain_name, same_id, split, split_in, written_out, written_step}
use Rattle.swc_tree_grammar.proofs.Induction.{by_children}
use Rattle.swc_tree_grammar.proofs.Items.{listed, items_of_list}
use Rattle.swc_tree_grammar.proofs.Places.{one}
use Rattle.swc_tree_sites.specs.Sites.{Binding, Site, Sites, both, entry, in_scope, nothing, pushed, set_of, sites_seen, taken_at, taken_in, taken_of}
use Rattle.swc_tree_sites.specs.Smaller.{AreKept, In, IsCopy, IsLeftOf, Sub}
use Rattle.swc_tree_sites.proofs.Kept.{E, S, all, all_append, both_nothing, of_list, out_step, sub_refl}
use Rattle.swc_tree_sites.proofs.Loose.{in_cases, in_left, in_right}
use Rattle.swc_tree_sites_laws.proofs.Expressions.{P, of_identifier}
use Rattle.swc_tree_sites_laws.proofs.StrippedFewer.{of_absent, of_leaf}
use Rattle.swc_tree_sites_written.specs.Tame.{is_tame, items_tame, part_tame}
use Rattle.swc_tree_sites_written.proofs.Declared.{AllIn, IdIn, declared_pending, id_more}
use Rattle.swc_tree_sites_written.proofs.Lists.{filter_in}
use Rattle.swc_tree_sites_written.proofs.Opened.{raw_quiet, span_quiet, tame_of}
use Rattle.swc_tree_sites_written.proofs.Steps.{item_keeps}
use Rattle.swc_tree_sites_written.proofs.Written.{of, tame_list, tame_tree, written_list, written_name, written_tree}
use Rattle.swc_tree_sites_written.proofs.WrittenFields.{tame_at}
use Rattle.swc_tree_sites_written.proofs.WrittenNames.{optional_text, outer_quiet}
use Rattle.swc_tree_node.specs.declared.kind.Kind.TheVariants as kind
use Rattle.swc_tree_node.specs.declared.kind.Class.TheVariants as class
use Rattle.swc_tree_node.specs.declared.slot.Content.TheVariants as content
use Rattle.swc_tree_scoping.specs.declared.places.Standing.TheVariants as standing
use Rattle.swc_tree_scoping.specs.declared.places.Scope.TheVariants as scope

-- where the items of a module stand
abbrev pub Top : Place
Top = P standing.Plain false

abbrev referred : Ident → Site
referred i = (standing.Reference, i, [])

abbrev refers : List Ident → Sites
refers is = record { pending = []; sites = map referred is; sets = [] }

-- an export list has a reference for each name
one_refers : (i : Ident) → S (E false) (exported_as_itself i) ≡ refers (i ∷ [])
one_refers i =
    out_step (E false) (exported_as_itself i) _ (outs-Tree kind.ExportNamedSpecifier (Span no_span ∷ Identifier kind.Ident i ∷ plain_name i ∷ []))
    ∙ ap (λ x. both x (both (S (E false) (Identifier kind.Ident i)) (both (S (P standing.Exported false) (plain_name i)) nothing))) (out_step Top (Span no_span) _ (outs-Span no_span))
    ∙ ap (λ x. both x (both (S (P standing.Exported false) (plain_name i)) nothing)) (of_identifier (E false) kind.Ident i)
    ∙ ap (λ x. both (refers (i ∷ [])) (both x nothing)) (outer_quiet standing.Exported false kind.Ident (record { span = i.span; ctxt = []; sym = i.sym }) refl)

all_refer : (is : List Ident) → all (E false) (map exported_as_itself is) ≡ refers is
all_refer [] = refl
all_refer (i ∷ is) = ap (λ a. both a (all (E false) (map exported_as_itself is))) (one_refers i) ∙ ap (both (refers (i ∷ []))) (all_refer is)

list_refers : (is : List Ident) → S Top (export_list is) ≡ refers is
list_refers is =
    out_step Top (export_list is) _ (outs-Tree kind.NamedExport (Span no_span ∷ Many (map exported_as_itself is) ∷ Absent ∷ Absent ∷ []))
    ∙ ap (λ y. both (S Top (Span no_span)) (both (S (P (cond (not (absent_in y)) standing.Imported standing.Reference) false) (Many (map exported_as_itself is))) (both (S Top Absent) (both (S Top Absent) nothing)))) outs-Absent
    ∙ ap (λ x. both x (both (S (E false) (Many (map exported_as_itself is))) (both (S Top Absent) (both (S Top Absent) nothing)))) (out_step Top (Span no_span) _ (outs-Span no_span))
    ∙ ap (λ x. both (S (E false) (Many (map exported_as_itself is))) (both x (both x nothing))) (of_absent Top)
    ∙ ap (λ x. both x nothing) (of_list (E false) (map exported_as_itself is) refl ∙ all_refer is)
    ∙ both_nothing (refers is)

-- the names in an export list are ids of the declaration
filter_was : (i : Ident) (f : Ident → Bool) (xs : List Ident) → In i (filter f xs) → In i xs
filter_was i f [] h = h
filter_was i f (x ∷ xs) h = at (f x) h (filter_was i f xs)
  where
    at : (b : Bool) → In i (cond b (x ∷ filter f xs) (filter f xs)) → (In i (filter f xs) → In i xs) → (x ≡ i) ⊎ In i xs
    at true (inl e) rest = inl e
    at true (inr g) rest = inr (rest g)
    at false g rest = inr (rest g)

pub in_once : (i : Ident) (is : List Ident) → In i (each_once is) → In i is
in_once i [] h = h
in_once i (j ∷ is) (inl e) = inl e
in_once i (j ∷ is) (inr h) = inr (in_once i is (filter_was i (λ k. not (same_id j k)) (each_once is) h))

pub made_of : (i : Ident) (ids : List Id) → In i (map made ids) → (x : Id) × In x ids × (made x ≡ i)
made_of i [] h = absurd h
made_of i (x ∷ ids) (inl e) = (x, inl refl, e)
made_of i (x ∷ ids) (inr h) = let (y, g, e) = made_of i ids h in (y, inr g, e)

-- a site of the other, or a reference to what is pending there
abbrev KeptSite : Sites → Site → Type 0
KeptSite a s = In s a.sites ⊎ ((i : Ident) × (s ≡ referred i) × IdIn (i.sym, i.ctxt) a.pending)

record Held (n t : Sites) : Type 0 where
  pending : n.pending ≡ t.pending
  sets : n.sets ≡ t.sets
  sites : (s : Site) → In s n.sites → KeptSite t s
  back : (s : Site) → In s t.sites → In s n.sites

held_same : (n t : Sites) → n ≡ t → Held n t
held_same n t e = record { pending = ap (λ a. a.pending) e; sets = ap (λ a. a.sets) e; sites = λ s h. inl (subst (λ (a : Sites). In s a.sites) e h); back = λ s h. subst (λ (a : Sites). In s a.sites) (sym e) h }

kept_left : (s : Site) (t u : Sites) → KeptSite t s → KeptSite (both t u) s
kept_left s t u (inl h) = inl (in_left s t.sites u.sites h)
kept_left s t u (inr g) = inr (g.0, g.1, id_more (g.0.sym, g.0.ctxt) t.pending (t.pending ++ u.pending) (λ b. in_left b t.pending u.pending) g.2)

kept_right : (s : Site) (t u : Sites) → KeptSite u s → KeptSite (both t u) s
kept_right s t u (inl h) = inl (in_right s t.sites u.sites h)
kept_right s t u (inr g) = inr (g.0, g.1, id_more (g.0.sym, g.0.ctxt) u.pending (t.pending ++ u.pending) (λ b. in_right b t.pending u.pending) g.2)

held_both : (n t m u : Sites) → Held n t → Held m u → Held (both n m) (both t u)
held_both n t m u h g = record {
  pending = ap (λ p. p ++ m.pending) h.pending ∙ ap (λ p. t.pending ++ p) g.pending;
  sets = ap (λ p. p ++ m.sets) h.sets ∙ ap (λ p. t.sets ++ p) g.sets;
  sites = λ s i. ⊎_elim (λ i. kept_left s t u (h.sites s i)) (λ i. kept_right s t u (g.sites s i)) (in_cases s n.sites m.sites i);
  back = λ s i. ⊎_elim (λ i. in_left s n.sites m.sites (h.back s i)) (λ i. in_right s n.sites m.sites (g.back s i)) (in_cases s t.sites u.sites i);
}

referred_in : (s : Site) (is : List Ident) → In s (map referred is) → (i : Ident) × In i is × (s ≡ referred i)
referred_in s [] h = absurd h
referred_in s (i ∷ is) (inl e) = (i, inl refl, sym e)
referred_in s (i ∷ is) (inr h) = let (j, g, e) = referred_in s is h in (j, inr g, e)

-- a declaration with its export list
held_exports : (d : Node) → AllIn (declared_ids d) (S Top d).pending → Held (both (S Top d) (refers (each_once (map made (declared_ids d))))) (S Top d)
held_exports d h = record {
  pending = append-nil (S Top d).pending;
  sets = append-nil (S Top d).sets;
  sites = λ s i. ⊎_elim (λ i. inl i) (λ i.
      let (j, g, e) = referred_in s (each_once (map made (declared_ids d))) i in
      let (x, k, m) = made_of j (map (λ x. x) (declared_ids d)) (subst (λ l. In j (map made l)) (sym (same (declared_ids d))) (in_once j (map made (declared_ids d)) g)) in
      let z = h x (subst (In x) (same (declared_ids d)) k) in
      inr (j, e, (z.0, z.1, z.2, z.3 ∙ ap (λ (i : Ident). i.sym) m, z.4 ∙ ap (λ (i : Ident). i.ctxt) m)))
      (in_cases s (S Top d).sites (map referred (each_once (map made (declared_ids d)))) i);
  back = λ s i. in_left s (S Top d).sites (map referred (each_once (map made (declared_ids d)))) i;
}
  where
    same : (l : List Id) → map (λ x. x) l ≡ l
    same [] = refl
    same (x ∷ l) = ap (λ l. x ∷ l) (same l)

-- what is no exported declaration is not split
abbrev pub is_export : Kind → Bool
is_export kind.ExportDecl = true
is_export _ = false

pub step_other : (k : Kind) (ts : List Node) → is_export k ≡ false → (l : Kind) × (us : List Node) × (written_step (Node-F.Tree k ts) ≡ Tree l us) × (is_export l ≡ false)
step_other kind.IfStmt (a ∷ b ∷ c ∷ d ∷ []) x = (_, _, refl, refl)
step_other kind.ObjectLit (a ∷ b ∷ []) x = (_, _, refl, refl)
step_other kind.AssignPatProp (a ∷ b ∷ c ∷ []) x = property_tree a b c (out-Node b)
  where
    property_tree : (a b c : Node) (y : Node-F Node) → (l : Kind) × (us : List Node) × (pattern_property_in a b c y ≡ Tree l us) × (is_export l ≡ false)
    property_tree a b c (Node-F.Identifier k i) = (_, _, refl, refl)
    property_tree a b c Node-F.Absent = (_, _, refl, refl)
    property_tree a b c y = (_, _, refl, refl)
step_other kind.ArrayPat (a ∷ b ∷ []) x = (_, _, refl, refl)
step_other kind.RestPat (a ∷ b ∷ []) x = (_, _, refl, refl)
step_other kind.KeyValuePatProp (a ∷ b ∷ []) x = (_, _, refl, refl)
step_other kind.AssignPat (a ∷ b ∷ c ∷ []) x = (_, _, refl, refl)
step_other kind.Param (a ∷ b ∷ []) x = (_, _, refl, refl)
step_other kind.ArrowExpr (a ∷ b ∷ c ∷ d ∷ []) x = (_, _, refl, refl)
step_other kind.SetterProp (a ∷ b ∷ c ∷ d ∷ []) x = (_, _, refl, refl)
step_other kind.VarDeclarator (a ∷ b ∷ c ∷ []) x = (_, _, refl, refl)
step_other kind.CatchClause (a ∷ b ∷ c ∷ []) x = (_, _, refl, refl)
step_other kind.ForInStmt (a ∷ b ∷ c ∷ d ∷ []) x = (_, _, refl, refl)
step_other kind.ForOfStmt (a ∷ b ∷ c ∷ d ∷ e ∷ []) x = (_, _, refl, refl)
step_other kind.ImportNamedSpecifier (a ∷ b ∷ c ∷ []) x = (_, _, refl, refl)
step_other kind.NamedExport (a ∷ b ∷ c ∷ d ∷ []) x = (_, _, refl, refl)
step_other kind.Module (a ∷ b ∷ c ∷ []) x = (_, _, refl, refl)
step_other k ts x = (k, ts, rolls-Tree k ts, x)

pub not_split : (l : Kind) (us : List Node) (t : Node) → is_export l ≡ false → split_in t (Node-F.Tree l us) ≡ t ∷ []
not_split kind.ExportDecl us t e = absurd (cc)
not_split kind.Module us t e = refl
not_split _ us t e = refl

abbrev ItemHeld : Node → Type 0
ItemHeld t = Fits t (one class.ModuleItem) → IsTrue (is_tame t false) → Held (all Top (split (written_out t))) (S Top t)

alone_held : (t : Node) → Fits t (one class.ModuleItem) → IsTrue (is_tame t false) → split (written_out t) ≡ written_out t ∷ [] → Held (all Top (split (written_out t))) (S Top t)
alone_held t f tame e = held_same (all Top (split (written_out t))) (S Top t) (ap (all Top) e ∙ both_nothing (S Top (written_out t)) ∙ item_keeps t standing.Plain false f tame)

export_held : (a d : Node) → ItemHeld (Tree kind.ExportDecl (a ∷ d ∷ []))
export_held a d f tame =
    let fields = (tree_opens kind.ExportDecl (a ∷ d ∷ []) class.ModuleItem f).2 in
    let whole : written_out (Tree kind.ExportDecl (a ∷ d ∷ [])) ≡ Tree kind.ExportDecl (written_out a ∷ written_out d ∷ []) = written_tree kind.ExportDecl (a ∷ d ∷ []) ∙ rolls-Tree kind.ExportDecl (written_out a ∷ written_out d ∷ []) in
    let names = each_once (map made (declared_ids (written_out d))) in
    let parts : all Top (split (written_out (Tree kind.ExportDecl (a ∷ d ∷ [])))) ≡ both (S Top (written_out d)) (refers names)
    = ap (λ u. all Top (split u)) whole
    ∙ ap (λ y. all Top (split_in (Tree kind.ExportDecl (written_out a ∷ written_out d ∷ [])) y)) (outs-Tree kind.ExportDecl (written_out a ∷ written_out d ∷ []))
    ∙ ap (both (S Top (written_out d))) (both_nothing (S Top (export_list names)) ∙ list_refers names) in
    let inner : S Top (written_out d) ≡ S Top (Tree kind.ExportDecl (a ∷ d ∷ []))
    = sym (both_nothing (S Top (written_out d))) ∙ ap (λ x. both x (both (S Top (written_out d)) nothing)) (sym (span_quiet Top a fields.0))
    ∙ sym (out_step Top (Tree kind.ExportDecl (written_out a ∷ written_out d ∷ [])) _ (outs-Tree kind.ExportDecl (written_out a ∷ written_out d ∷ [])))
    ∙ sym (ap (S Top) whole) ∙ item_keeps (Tree kind.ExportDecl (a ∷ d ∷ [])) standing.Plain false f tame in
    subst (λ t. Held (all Top (split (written_out (Tree kind.ExportDecl (a ∷ d ∷ []))))) t) inner
    (subst (λ n. Held n (S Top (written_out d))) (sym parts) (held_exports (written_out d) (declared_pending d fields.1.0)))

other_held : (k : Kind) (ts : List Node) → is_export k ≡ false → ItemHeld (Tree k ts)
other_held k ts e f tame =
    let (l, us, is, not_one) = step_other k (map written_out ts) e in
    let whole : written_out (Tree k ts) ≡ Tree l us = written_tree k ts ∙ is in
    alone_held (Tree k ts) f tame (ap split whole ∙ ap (split_in (Tree l us)) (outs-Tree l us) ∙ not_split l us (Tree l us) not_one ∙ ap (λ u. u ∷ []) (sym whole))

tree_held : (k : Kind) (ts : List Node) → ItemHeld (Tree k ts)
tree_held kind.ExportDecl (a ∷ d ∷ []) f = export_held a d f
tree_held kind.ExportDecl [] f = absurd ((tree_opens kind.ExportDecl [] class.ModuleItem f).2)
tree_held kind.ExportDecl (a ∷ []) f = absurd ((tree_opens kind.ExportDecl (a ∷ []) class.ModuleItem f).2.1)
tree_held kind.ExportDecl (a ∷ d ∷ e ∷ ts) f = absurd ((tree_opens kind.ExportDecl (a ∷ d ∷ e ∷ ts) class.ModuleItem f).2.1.1)
tree_held k ts f = other_held k ts refl f

item_held : (t : Node) → ItemHeld t
item_held t = by_children ItemHeld (
  λ f. absurd (cc (sym (fits-Absent (one class.ModuleItem)) ∙ f)),
  λ x f. absurd (cc (sym (fits-Flag x (one class.ModuleItem)) ∙ f)),
  λ v f. absurd (cc (sym (fits-Word v (one class.ModuleItem)) ∙ f)),
  λ x f. absurd (cc (sym (fits-Text x (one class.ModuleItem)) ∙ f)),
  λ s f. absurd (cc (sym (fits-Span s (one class.ModuleItem)) ∙ f)),
  λ k i f tame. alone_held (Identifier k i) f tame (ap split (written_name k i) ∙ ap (split_in (Identifier k i)) (outs-Identifier k i) ∙ ap (λ u. u ∷ []) (sym (written_name k i))),
)
    (λ ts b f. absurd (cc (sym (fits-List ts (one class.ModuleItem)) ∙ f)))
    (λ k ts b. tree_held k ts) t

items_held : (ts : List Node) → AllFit (one class.ModuleItem) ts → items_tame false (map of ts) ≡ true → Held (all Top (flat_map split (map written_out ts))) (all Top ts)
items_held [] f h = held_same nothing nothing refl
items_held (t ∷ ts) f h =
    let z = both_are (part_tame false (of t)) (items_tame false (map of ts)) h in
    subst (λ n. Held n (all Top (t ∷ ts))) (sym (all_append Top (split (written_out t)) (flat_map split (map written_out ts))))
    (held_both (all Top (split (written_out t))) (S Top t) (all Top (flat_map split (map written_out ts))) (all Top ts) (item_held t f.0 (tame_of false t z.0)) (items_held ts f.1 z.1))

-- the program round its items
abbrev around : Sites → Sites
around a = in_scope (Some scope.Program) (view_from kind.Module) (nothing ∷ a ∷ nothing ∷ [])

abbrev pub taken : Sites → List Binding
taken a = taken_of scope.Program (view_from kind.Module) (nothing ∷ a ∷ nothing ∷ [])

abbrev seen : Sites → List Site
seen a = sites_seen (taken a) (view_from kind.Module) (nothing ∷ a ∷ nothing ∷ [])

from_map : (f : Site → Site) (s : Site) (ss : List Site) → In s (map f ss) → (r : Site) × In r ss × (f r ≡ s)
from_map f s [] h = absurd h
from_map f s (r ∷ ss) (inl e) = (r, inl refl, e)
from_map f s (r ∷ ss) (inr h) = let (q, g, e) = from_map f s ss h in (q, inr g, e)

to_map : (f : Site → Site) (r : Site) (ss : List Site) → In r ss → In (f r) (map f ss)
to_map f r [] h = absurd h
to_map f r (q ∷ ss) (inl e) = inl (ap f e)
to_map f r (q ∷ ss) (inr h) = inr (to_map f r ss h)

filled : (b : Binding) (bs : List Binding) → In b bs → entry bs true ≡ (bs, true) ∷ []
filled b [] h = absurd h
filled b (c ∷ bs) h = refl

is_copy : (s : Site) (i : Ident) (bs : List Binding) (b : Binding) → pushed (entry bs true) (referred i) ≡ s → In b bs → b.1.sym ≡ i.sym → b.1.ctxt ≡ i.ctxt → IsCopy s
is_copy s i bs b e h x y = subst IsCopy e (record { taken = bs; way = b.0; bound = b.1; refers = refl; env = filled b bs h; within = h; same = (x, y) })

around_kept : (n t : Sites) → Held n t → AreKept (seen n) (seen t)
around_kept n t h s i =
    let same : taken n ≡ taken t = ap (λ p. filter (λ b. takes b.0 scope.Program) (p ++ [])) h.pending in
    let (r, g, e) = from_map (pushed (entry (taken n) true)) s n.sites (at (map (pushed (entry (taken n) true)) n.sites) i) in
    let f : pushed (entry (taken t) true) r ≡ s = ap (λ l. pushed (entry l true) r) (sym same) ∙ e in
    ⊎_elim (λ g. inl (subst (λ s. In s (seen t)) f (in_left (pushed (entry (taken t) true) r) (map (pushed (entry (taken t) true)) t.sites) [] (to_map (pushed (entry (taken t) true)) r t.sites g))))
    (λ (z : (i : Ident) × (r ≡ referred i) × IdIn (i.sym, i.ctxt) t.pending). inr (is_copy s z.0 (taken t) z.2.0 (ap (pushed (entry (taken t) true)) (sym z.1) ∙ f)
    (filter_in (λ b. takes b.0 scope.Program) z.2.0 (t.pending ++ []) (in_left z.2.0 t.pending [] z.2.1) z.2.2) z.2.3 z.2.4))
    (h.sites r g)
  where
    at : (l : List Site) → In s (l ++ []) → In s l
    at l i = subst (In s) (append-nil l) i

around_back : (n t : Sites) → Held n t → (s : Site) → In s (seen t) → In s (seen n)
around_back n t h s i =
    let same : taken n ≡ taken t = ap (λ p. filter (λ b. takes b.0 scope.Program) (p ++ [])) h.pending in
    let (r, g, e) = from_map (pushed (entry (taken t) true)) s t.sites (subst (In s) (append-nil (map (pushed (entry (taken t) true)) t.sites)) i) in
    let f : pushed (entry (taken n) true) r ≡ s = ap (λ l. pushed (entry l true) r) same ∙ e in
    subst (λ s. In s (seen n)) f (in_left (pushed (entry (taken n) true) r) (map (pushed (entry (taken n) true)) n.sites) [] (to_map (pushed (entry (taken n) true)) r n.sites (h.back r g)))

around_sets : (n t : Sites) → Held n t → (around n).sets ≡ (around t).sets
around_sets n t h = ap (λ p. set_of (filter (λ b. takes b.0 scope.Program) (p ++ [])) ++ (n.sets ++ [])) h.pending ∙ ap (λ l. set_of (taken t) ++ (l ++ [])) h.sets

-- what the program takes
abbrev taken_open : Place → Option Scope → Node-F Node → List Binding
taken_open w None y = []
taken_open w (Some s) y = taken_of s (view_in y) (each_in S (place_in w y) (children_in y))

taken_out : (w : Place) (t : Node) (y : Node-F Node) → out-Node t ≡ y → taken_at w t ≡ taken_open w (opened_in w y) y
taken_out w t y e = at (opened w t) ∙ ap (λ y. taken_open w (opened_in w y) y) e
  where
    at : (o : Option Scope) → taken_in w t o ≡ taken_open w o (out-Node t)
    at None = refl
    at (Some s) = refl

-- a module by its items
module_sites : (x y z : Node) → S Top x ≡ nothing → S Top z ≡ nothing → S program_place (Tree kind.Module (x ∷ y ∷ z ∷ [])) ≡ around (S Top y)
module_sites x y z q r =
    out_step program_place (Tree kind.Module (x ∷ y ∷ z ∷ [])) _ (outs-Tree kind.Module (x ∷ y ∷ z ∷ []))
    ∙ ap (λ a. in_scope (Some scope.Program) (view_from kind.Module) (a ∷ S Top y ∷ S Top z ∷ [])) q ∙ ap (λ a. in_scope (Some scope.Program) (view_from kind.Module) (nothing ∷ S Top y ∷ a ∷ [])) r

pub module_takes : (x y z : Node) → S Top x ≡ nothing → S Top z ≡ nothing → taken_at program_place (Tree kind.Module (x ∷ y ∷ z ∷ [])) ≡ taken (S Top y)
module_takes x y z q r =
    taken_out program_place (Tree kind.Module (x ∷ y ∷ z ∷ [])) _ (outs-Tree kind.Module (x ∷ y ∷ z ∷ []))
    ∙ ap (λ a. taken_of scope.Program (view_from kind.Module) (a ∷ S Top y ∷ S Top z ∷ [])) q ∙ ap (λ a. taken_of scope.Program (view_from kind.Module) (nothing ∷ S Top y ∷ a ∷ [])) r

abbrev LeftOf : Sites → Sites → Type 0
LeftOf n t = AreKept n.sites t.sites × Sub n.sets t.sets

abbrev pub ModuleLeft : Node → Type 0
ModuleLeft t = Fits t (one class.Module) → IsTrue (is_tame t false) → IsLeftOf (written_out t) t × (taken_at program_place (written_out t) ≡ taken_at program_place t)

-- ... and loses none of its names
pub record Whole (t : Node) : Type 0 where
  pub left : IsLeftOf (written_out t) t
  pub takes : taken_at program_place (written_out t) ≡ taken_at program_place t
  pub names : (s : Site) → In s (S program_place t).sites → In s (S program_place (written_out t)).sites
  pub sets : (S program_place (written_out t)).sets ≡ (S program_place t).sets

abbrev ModuleWhole : Node → Type 0
ModuleWhole t = Fits t (one class.Module) → IsTrue (is_tame t false) → Whole t

listed_whole : (x z : Node) (ts : List Node) → ModuleWhole (Tree kind.Module (x ∷ Many ts ∷ z ∷ []))
listed_whole x z ts f tame =
    let fields = (tree_opens kind.Module (x ∷ Many ts ∷ z ∷ []) class.Module f).2 in
    let parts = sym (tame_tree kind.Module (x ∷ Many ts ∷ z ∷ []) false) ∙ tame in
    let items : items_tame false (map of ts) ≡ true = sym (tame_list ts false) ∙ tame_of false (Many ts) (tame_at (field_role kind.Module) false (x ∷ Many ts ∷ z ∷ []) 1 (Many ts) parts refl) in
    let l = listed (Many ts) (content.Node class.ModuleItem) fields.1.0 in
    let own : l.items ≡ ts = sym (items_of_list l.items) ∙ ap items_of (sym l.is) ∙ items_of_list ts in
    let held = items_held ts (subst (AllFit (one class.ModuleItem)) own l.fit) items in
    let us = flat_map split (map written_out ts) in
    let whole : written_out (Tree kind.Module (x ∷ Many ts ∷ z ∷ [])) ≡ Tree kind.Module (written_out x ∷ Many us ∷ written_out z ∷ [])
    = written_tree kind.Module (x ∷ Many ts ∷ z ∷ []) ∙ ap (λ l. Tree kind.Module (written_out x ∷ Many (flat_map split l) ∷ written_out z ∷ [])) (ap items_of (written_list ts) ∙ items_of_list (map written_out ts)) in
    let before : S program_place (Tree kind.Module (x ∷ Many ts ∷ z ∷ [])) ≡ around (all Top ts)
    = module_sites x (Many ts) z (of_leaf Top content.Span x refl fields.0) (optional_text Top z fields.1.1.0) ∙ ap around (of_list Top ts refl) in
    let after : S program_place (written_out (Tree kind.Module (x ∷ Many ts ∷ z ∷ []))) ≡ around (all Top us)
    = ap (S program_place) whole ∙ module_sites (written_out x) (Many us) (written_out z) (span_quiet Top x fields.0) (raw_quiet Top z fields.1.1.0) ∙ ap around (of_list Top us refl) in
    let names : AreKept (S program_place (written_out (Tree kind.Module (x ∷ Many ts ∷ z ∷ [])))).sites (S program_place (Tree kind.Module (x ∷ Many ts ∷ z ∷ []))).sites
    = subst (λ (a : Sites). AreKept a.sites (S program_place (Tree kind.Module (x ∷ Many ts ∷ z ∷ []))).sites) (sym after)
    (subst (λ (a : Sites). AreKept (around (all Top us)).sites a.sites) (sym before) (around_kept (all Top us) (all Top ts) held)) in
    let sets : (S program_place (written_out (Tree kind.Module (x ∷ Many ts ∷ z ∷ [])))).sets ≡ (S program_place (Tree kind.Module (x ∷ Many ts ∷ z ∷ []))).sets
    = ap (λ (a : Sites). a.sets) after ∙ around_sets (all Top us) (all Top ts) held ∙ sym (ap (λ (a : Sites). a.sets) before) in
    record {
      left = record { names = names; scopes = subst (Sub (S program_place (written_out (Tree kind.Module (x ∷ Many ts ∷ z ∷ [])))).sets) sets (sub_refl (S program_place (written_out (Tree kind.Module (x ∷ Many ts ∷ z ∷ [])))).sets) };
      takes = ap (taken_at program_place) whole ∙ module_takes (written_out x) (Many us) (written_out z) (span_quiet Top x fields.0) (raw_quiet Top z fields.1.1.0) ∙ ap taken (of_list Top us refl)
          ∙ ap (λ p. filter (λ b. takes b.0 scope.Program) (p ++ [])) held.pending
          ∙ sym (module_takes x (Many ts) z (of_leaf Top content.Span x refl fields.0) (optional_text Top z fields.1.1.0) ∙ ap taken (of_list Top ts refl));
      names = λ s i. subst (λ (a : Sites). In s a.sites) (sym after) (around_back (all Top us) (all Top ts) held s (subst (λ (a : Sites). In s a.sites) before i));
      sets = sets;
    }

tree_whole : (k : Kind) (ts : List Node) → IsTrue (belongs k class.Module) → FieldsFit (slots_of k) ts → ModuleWhole (Tree k ts)
tree_whole kind.Module [] b f = absurd f
tree_whole kind.Module (x ∷ []) b f = absurd f.1
tree_whole kind.Module (x ∷ y ∷ []) b f = absurd f.1.1
tree_whole kind.Module (x ∷ y ∷ z ∷ v ∷ ts) b f = absurd f.1.1.1
tree_whole kind.Module (x ∷ y ∷ z ∷ []) b f =
    let l = listed y (content.Node class.ModuleItem) f.1.0 in
    subst (λ y. ModuleWhole (Tree kind.Module (x ∷ y ∷ z ∷ []))) (sym l.is) (listed_whole x z l.items)
tree_whole _ ts b f = absurd (true≢false (sym b))

pub module_whole : (t : Node) → ModuleWhole t
module_whole t = by_children ModuleWhole (
  λ f. absurd (cc (sym (fits-Absent (one class.Module)) ∙ f)),
  λ x f. absurd (cc (sym (fits-Flag x (one class.Module)) ∙ f)),
  λ v f. absurd (cc (sym (fits-Word v (one class.Module)) ∙ f)),
  λ x f. absurd (cc (sym (fits-Text x (one class.Module)) ∙ f)),
  λ s f. absurd (cc (sym (fits-Span s (one class.Module)) ∙ f)),
  λ k i f. absurd (no_name k (both_are (is_identifier k) (belongs k class.Module) (sym (fits-Identifier k i (one class.Module)) ∙ f)).0 (both_are (is_identifier k) (belongs k class.Module) (sym (fits-Identifier k i (one class.Module)) ∙ f)).1),
)
    (λ ts b f. absurd (cc (sym (fits-List ts (one class.Module)) ∙ f)))
    (λ k ts b f. tree_whole k ts (tree_opens k ts class.Module f).1 (tree_opens k ts class.Module f).2 f) t
  where
    no_name : (k : Kind) → IsTrue (is_identifier k) → IsTrue (belongs k class.Module) → ⊥
    no_name kind.Ident a b = absurd (cc)
    no_name kind.BindingIdent a b = absurd (cc)
    no_name _ a b = absurd (cc)

pub module_left : (t : Node) → ModuleLeft t
module_left t f tame = let w = module_whole t f tame in (w.left, w.takes)
