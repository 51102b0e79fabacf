-- The fields of a node that is written out have the names that they had.
use Rattle.std.proofs.Common.{◌≡◌, ℕ, zero, suc, Bool, true, false, not, ◌&&◌, ◌||◌, ⊎_elim, Option, Some, None, List, [], ◌∷◌, map, refl, sym, ap, ◌∙◌, subst, cond}
use Rattle.std.specs.List.{list_all, slice_get}
use Rattle.std.specs.Prelude.{unwrap_or, option_map}
use Rattle.std.proofs.lemmas.Option.{slice_get-map}
use Rattle.swc_tree_node.specs.declared.kind.Kind.{Kind}
use Rattle.swc_tree_node.specs.declared.slot.Content.{Content}
use Rattle.swc_tree_node.specs.declared.slot.Role.{Role}
use Rattle.swc_tree_node.specs.declared.slot.Slot.{Slot}
use Rattle.swc_tree_node.specs.declared.node.Node.{Node, Tree, out-Node}
use Rattle.swc_tree_node.specs.declared.node.Node.TheOpen.{Node-F}
use Rattle.swc_tree_node.specs.declared.node.Node.TheVariants.{outs-Tree}
use Rattle.swc_tree_node.specs.Table.{fields_of, slots_of}
use Rattle.swc_tree_node.specs.Fits.{AllFit, FieldsFit, Fits, belongs}
use Rattle.swc_tree_node.proofs.Fit.{both as both_are}
use Rattle.swc_tree_scoping.specs.declared.places.Standing.{Standing}
use Rattle.swc_tree_scoping.specs.declared.places.Place.{Place}
use Rattle.swc_tree_scoping.specs.Places.{absent_in, binds_patterns, by_keyword, field_role, has_own_name, is_identifier_expression, is_there, keyword_in, nested_below, opened_as, part_standing, place_in, standing_below, view_from}
use Rattle.swc_tree_scoping.specs.Folds.{each_in}
use Rattle.swc_tree_grammar.specs.Places.{content_of}
use Rattle.swc_tree_grammar.specs.Normal.{written_out}
use Rattle.swc_tree_grammar.proofs.Induction.{Each}
use Rattle.swc_tree_grammar.proofs.Places.{Stands}
use Rattle.swc_tree_sites.specs.Sites.{in_scope}
use Rattle.swc_tree_sites_written.specs.Tame.{binds_in, fields_tame, is_tame, items_tame, part_tame}
use Rattle.swc_tree_sites.proofs.Kept.{S, out_step}
use Rattle.swc_tree_sites.proofs.Leaves.{Field}
use Rattle.swc_tree_sites.proofs.Pending.{keyword_cases}
use Rattle.swc_tree_sites_laws.proofs.Expressions.{P}
use Rattle.swc_tree_sites_laws.proofs.Parts.{field_part, has_parts, is_part_kind, part_belongs, part_role, parts_in, single_content}
use Rattle.swc_tree_sites_written.proofs.Written.{expression_written, of, written_looks}
use Rattle.swc_tree_node.specs.declared.kind.Kind.TheVariants as kind
use Rattle.swc_tree_node.specs.declared.slot.Content.TheVariants as content
use Rattle.swc_tree_node.specs.declared.slot.Role.TheVariants as role
use Rattle.swc_tree_scoping.specs.declared.places.Standing.TheVariants as standing

-- no module stands in a node
abbrev pub modules_in : Option Content → Bool
modules_in (Some (content.Node c)) = belongs kind.Module c
modules_in _ = false

abbrev pub is_free_slot : Slot → Bool
is_free_slot s = not (modules_in (content_of s))

fields_free : (k : Kind) → list_all (λ f. is_free_slot f.1) (fields_of k) ≡ true
fields_free kind.Module = refl
fields_free _ = refl

free_at : (fs : List Field) (i : ℕ) (f : Field) → list_all (λ f. is_free_slot f.1) fs ≡ true → slice_get fs i ≡ Some f → is_free_slot f.1 ≡ true
free_at [] i f h e = absurd (cc)
free_at (x ∷ fs) zero f h e = let same : x ≡ f = cc in ap (λ f. is_free_slot f.1) (sym same) ∙ (both_are (is_free_slot x.1) (list_all (λ f. is_free_slot f.1) fs) h).0
free_at (x ∷ fs) (suc i) f h e = free_at fs i f (both_are (is_free_slot x.1) (list_all (λ f. is_free_slot f.1) fs) h).1 e

abbrev pub Claim : Node → Type 0
Claim t = (p : Standing) (n b : Bool) (s : Slot) → Fits t s → is_free_slot s ≡ true → is_tame t b ≡ true → (has_parts s ≡ true → binds_patterns p ≡ b) → S (P p n) (written_out t) ≡ S (P p n) t

-- a child, as it stands before and after
record Held (v u : Place) (s : Slot) (c : Node) : Type 0 where
  standing : Standing
  nested : Bool
  bound : Bool
  was : v ≡ P standing nested
  is : u ≡ P standing nested
  free : is_free_slot s ≡ true
  tame : is_tame c bound ≡ true
  link : has_parts s ≡ true → binds_patterns standing ≡ bound

fields_same : (fs : List Field) (ts : List Node) (ps qs : ℕ → Place) → Each Claim ts → FieldsFit (map (λ f. f.1) fs) ts
    → ((i : ℕ) (f : Field) (c : Node) → slice_get fs i ≡ Some f → slice_get ts i ≡ Some c → Held (ps i) (qs i) f.1 c) → each_in S qs (map written_out ts) ≡ each_in S ps ts
fields_same [] [] ps qs h f m = refl
fields_same [] (t ∷ ts) ps qs h f m = absurd f
fields_same (x ∷ fs) [] ps qs h f m = absurd f
fields_same (x ∷ fs) (t ∷ ts) ps qs h f m =
    let w = m zero x t refl refl in
    let first : S (qs zero) (written_out t) ≡ S (ps zero) t = ap (λ v. S v (written_out t)) w.is ∙ h.0 w.standing w.nested w.bound x.1 f.0 w.free w.tame w.link ∙ ap (λ v. S v t) (sym w.was) in
    ap (λ a. a ∷ each_in S (λ i. qs (suc i)) (map written_out ts)) first ∙ ap (λ l. S (ps zero) t ∷ l) (fields_same fs ts (λ i. ps (suc i)) (λ i. qs (suc i)) h.1 f.1 (λ i. m (suc i)))

-- what is read off the fields
keyword_written : (ts : List Node) → by_keyword (map written_out ts) ≡ by_keyword ts
keyword_written [] = refl
keyword_written (t ∷ ts) = ap (keyword_in (out-Node (written_out t))) (keyword_written ts) ∙ written_looks (λ y. keyword_in y (by_keyword ts)) (by_keyword ts) (λ k ts. refl) (λ ts. refl) t

there_written : (ts : List Node) (i : ℕ) → is_there (slice_get (map written_out ts) i) ≡ is_there (slice_get ts i)
there_written ts i = ap is_there (slice_get-map written_out ts i) ∙ at (slice_get ts i)
  where
    at : (o : Option Node) → is_there (option_map written_out o) ≡ is_there o
    at None = refl
    at (Some c) = ap not (written_looks absent_in false (λ k ts. refl) (λ ts. refl) c)

part_written : (r : Standing) (ts : List Node) (i : ℕ) → part_standing r (slice_get (map written_out ts) i) ≡ part_standing r (slice_get ts i)
part_written r ts i = ap (part_standing r) (slice_get-map written_out ts i) ∙ at (slice_get ts i)
  where
    at : (o : Option Node) → part_standing r (option_map written_out o) ≡ part_standing r o
    at None = refl
    at (Some c) = ap (λ b. cond (binds_patterns r && b) standing.Reference r) (expression_written c)

pub tame_at : (roles : ℕ → Role) (b : Bool) (ts : List Node) (i : ℕ) (c : Node) → fields_tame roles b (map of ts) ≡ true → slice_get ts i ≡ Some c → part_tame (binds_in (roles i) b) (of c) ≡ true
tame_at roles b [] i c h e = absurd (cc)
tame_at roles b (t ∷ ts) zero c h e = let same : t ≡ c = cc in subst (λ c. part_tame (binds_in (roles zero) b) (of c) ≡ true) same (both_are (part_tame (binds_in (roles zero) b) (of t)) (fields_tame (λ i. roles (suc i)) b (map of ts)) h).0
tame_at roles b (t ∷ ts) (suc i) c h e = tame_at (λ i. roles (suc i)) b ts i c (both_are (part_tame (binds_in (roles zero) b) (of t)) (fields_tame (λ i. roles (suc i)) b (map of ts)) h).1 e

pub no_expression : (b : Bool) (c : Node) → part_tame b (of c) ≡ true → b ≡ true → is_identifier_expression (Some c) ≡ false
no_expression true c h e = at (is_identifier_expression (Some c)) (both_are (not (is_identifier_expression (Some c))) (is_tame c true) h).0
  where
    at : (x : Bool) → not x ≡ true → x ≡ false
    at true h = absurd (cc)
    at false h = refl
no_expression false c h e = absurd (cc)

pub part_stays : (p : Standing) (b : Bool) (c : Node) → binds_patterns p ≡ b → part_tame b (of c) ≡ true → part_standing p (Some c) ≡ p
part_stays p true c e h = ap (λ x. cond (binds_patterns p && x) standing.Reference p) (no_expression true c h refl) ∙ at (binds_patterns p)
  where
    at : (x : Bool) → cond (x && false) standing.Reference p ≡ p
    at true = refl
    at false = refl
part_stays p false c e h = ap (λ x. cond (x && is_identifier_expression (Some c)) standing.Reference p) e

pub bound_part : (p : Standing) (b : Bool) (c : Node) → binds_patterns p ≡ b → part_tame b (of c) ≡ true → binds_patterns (part_standing p (Some c)) ≡ b
bound_part p b c e h = ap binds_patterns (part_stays p b c e h) ∙ e

implied : (a b : Bool) → (not a || b) ≡ true → a ≡ true → b ≡ true
implied true b h e = h
implied false b h e = absurd (cc)

module _ (p : Standing) (n b : Bool) (k : Kind) (ts : List Node) where
  standing_written : (i : ℕ) (x : Role) → standing_below (P p n) k (map written_out ts) i x ≡ standing_below (P p n) k ts i x
  standing_written i role.Inherited = part_written p ts i
  standing_written i role.Parameter = part_written standing.Parameter ts i
  standing_written i role.Catch = part_written standing.CatchParameter ts i
  standing_written i role.Declared = keyword_written ts
  standing_written i role.ExportLocal = ap (λ b. cond b standing.Imported standing.Reference) (there_written ts 2)
  standing_written i role.Plain = refl
  standing_written i _ = refl

  link_by : (i : ℕ) (x : Role) (s : Slot) (c : Node) → (not (has_parts s) || part_role k x) ≡ true → slice_get ts i ≡ Some c → part_tame (binds_in x b) (of c) ≡ true → (is_part_kind k ≡ true → binds_patterns p ≡ b) → has_parts s ≡ true
      → binds_patterns (standing_below (P p n) k ts i x) ≡ binds_in x b
  link_by i role.Inherited s c fine e t own h = ap (λ o. binds_patterns (part_standing p o)) e ∙ bound_part p b c (own (implied (has_parts s) (is_part_kind k) fine h)) t
  link_by i role.Parameter s c fine e t own h = ap (λ o. binds_patterns (part_standing standing.Parameter o)) e ∙ bound_part standing.Parameter true c refl t
  link_by i role.Catch s c fine e t own h = ap (λ o. binds_patterns (part_standing standing.CatchParameter o)) e ∙ bound_part standing.CatchParameter true c refl t
  link_by i role.Reference s c fine e t own h = refl
  link_by i role.FunctionBody s c fine e t own h = refl
  link_by i role.Declared s c fine e t own h = ⊎_elim (λ z. ap binds_patterns z) (λ z. ap binds_patterns z) (keyword_cases ts)
  link_by i role.Lexical s c fine e t own h = refl
  link_by i role.Plain s c fine e t own h = let z = implied (has_parts s) false fine h in absurd (cc)
  link_by i _ s c fine e t own h = let z = implied (has_parts s) false fine h in absurd (cc)

pub own_link : (k : Kind) (ts : List Node) (s : Slot) (p : Standing) (b : Bool) → Stands k ts s → (has_parts s ≡ true → binds_patterns p ≡ b) → is_part_kind k ≡ true → binds_patterns p ≡ b
own_link k ts s p b w link e = link (ap parts_in (single_content s (content.Node w.in_class) w.place) ∙ part_belongs k w.in_class e w.belonging)

-- a node whose fields are written out
pub fields_written : (k : Kind) (ts : List Node) (p : Standing) (n b : Bool) → Each Claim ts → FieldsFit (slots_of k) ts → fields_tame (field_role k) b (map of ts) ≡ true → (is_part_kind k ≡ true → binds_patterns p ≡ b)
    → S (P p n) (Tree k (map written_out ts)) ≡ S (P p n) (Tree k ts)
fields_written k ts p n b h f t own =
    let same : has_own_name (map written_out ts) ≡ has_own_name ts = there_written ts 0 in
    let children : each_in S (place_in (P p n) (Node-F.Tree k (map written_out ts))) (map written_out ts) ≡ each_in S (place_in (P p n) (Node-F.Tree k ts)) ts
    = fields_same (fields_of k) ts (place_in (P p n) (Node-F.Tree k ts)) (place_in (P p n) (Node-F.Tree k (map written_out ts))) h f
    (λ i x c e g.
    let role_is : field_role k i ≡ x.2 = ap (λ o. unwrap_or (option_map (λ f. f.2) o) role.Plain) e in
    let part : part_tame (binds_in x.2 b) (of c) ≡ true = subst (λ r. part_tame (binds_in r b) (of c) ≡ true) role_is (tame_at (field_role k) b ts i c t g) in record {
      standing = standing_below (P p n) k ts i x.2;
      nested = nested_below n (opened_as (P p n) k (has_own_name ts)) (view_from k i);
      bound = binds_in x.2 b;
      was = ap (λ r. P (standing_below (P p n) k ts i r) (nested_below n (opened_as (P p n) k (has_own_name ts)) (view_from k i))) role_is;
      is = ap (λ r. P (standing_below (P p n) k (map written_out ts) i r) (nested_below n (opened_as (P p n) k (has_own_name (map written_out ts))) (view_from k i))) role_is
          ∙ ap (λ r. P r (nested_below n (opened_as (P p n) k (has_own_name (map written_out ts))) (view_from k i))) (standing_written p n b k ts i x.2)
          ∙ ap (λ z. P (standing_below (P p n) k ts i x.2) (nested_below n (opened_as (P p n) k z) (view_from k i))) same;
      free = free_at (fields_of k) i x (fields_free k) e;
      tame = (both_are (not (binds_in x.2 b && is_identifier_expression (Some c))) (is_tame c (binds_in x.2 b)) part).1;
      link = link_by p n b k ts i x.2 x.1 c (field_part k i x e) g part own;
    }) in
    out_step (P p n) (Tree k (map written_out ts)) _ (outs-Tree k (map written_out ts))
    ∙ ap (λ z. in_scope (opened_as (P p n) k z) (view_from k) (each_in S (place_in (P p n) (Node-F.Tree k (map written_out ts))) (map written_out ts))) same
    ∙ ap (in_scope (opened_as (P p n) k (has_own_name ts)) (view_from k)) children
    ∙ sym (out_step (P p n) (Tree k ts) _ (outs-Tree k ts))

-- the items of a list
pub items_written : (p : Standing) (n b : Bool) (s : Slot) (ts : List Node) → Each Claim ts → AllFit s ts → is_free_slot s ≡ true → items_tame b (map of ts) ≡ true → (has_parts s ≡ true → binds_patterns p ≡ b)
    → each_in S (λ i. P (part_standing p (slice_get (map written_out ts) i)) n) (map written_out ts) ≡ each_in S (λ i. P (part_standing p (slice_get ts i)) n) ts
items_written p n b s [] h f free t link = refl
items_written p n b s (c ∷ ts) h f free t link =
    let z = both_are (part_tame b (of c)) (items_tame b (map of ts)) t in
    let tame : is_tame c b ≡ true = (both_are (not (b && is_identifier_expression (Some c))) (is_tame c b) z.0).1 in
    let first : S (P (part_standing p (Some (written_out c))) n) (written_out c) ≡ S (P (part_standing p (Some c)) n) c
    = ap (λ x. S (P (cond (binds_patterns p && x) standing.Reference p) n) (written_out c)) (expression_written c) ∙ h.0 (part_standing p (Some c)) n b s f.0 free tame (λ e. bound_part p b c (link e) z.0) in
    ap (λ a. a ∷ each_in S (λ i. P (part_standing p (slice_get (map written_out ts) i)) n) (map written_out ts)) first
    ∙ ap (λ l. S (P (part_standing p (Some c)) n) c ∷ l) (items_written p n b s ts h.1 f.1 free z.1 link)
