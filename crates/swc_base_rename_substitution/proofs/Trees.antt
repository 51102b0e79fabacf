-- A node of a kind, given what its fields become.
use Rattle.std.proofs.Common.{◌≡◌, ℕ, zero, suc, ◌<◌, Bool, true, false, ◌&&◌, Option, Some, None, List, [], ◌∷◌, length, refl, sym, ap, ◌∙◌, arith}
use Rattle.std.specs.Prelude.{if◌then◌else◌, is_some, unwrap_or}
use Rattle.std.specs.List.{slice_get, slice_set}
use Rattle.std.proofs.Math.Bool.{and-true}
use Rattle.swc_tree_marks.specs.declared.ident.Ident.{Ident}
use Rattle.swc_tree_node.specs.declared.kind.Kind.{Kind}
use Rattle.swc_tree_node.specs.declared.kind.Kind.TheVariants as kind
use Rattle.swc_tree_node.specs.declared.node.Node.{Node, Absent, Identifier, Tree, out-Node, roll-Node, roll-out-Node}
use Rattle.swc_tree_node.specs.declared.node.Node.TheVariants.{rolls-Identifier, outs-Identifier}
use Rattle.swc_tree_node.specs.declared.node.Node.TheOpen.{Node-F}
use Rattle.swc_base_rename_substitution.specs.declared.place.Place.{Place}
use Rattle.swc_base_rename_substitution.specs.declared.place.Place.TheVariants as place
use Rattle.swc_base_rename_substitution.specs.declared.place.Below.TheVariants as below
use Rattle.swc_base_rename_substitution.specs.Places.{has_source, places, within}
use Rattle.swc_base_rename_substitution.specs.Identifiers.{Changes, changed, identifier_at, identifier_in, identifier_to, written_out, writes_out, writes_name, written_out_if}
use Rattle.swc_base_rename_substitution.specs.Classes.{kept_class}
use Rattle.swc_base_rename_substitution.specs.Substituted.{substituted, if_changed, keeps_name, tree_for}
use Rattle.swc_base_rename_substitution.proofs.Equations.{substituted_tree, substituted_identifier}
use Rattle.swc_base_rename_substitution.specs.Walk.{place_in, each_substituted, IsRenamed}

not_written : (k : Kind) (i : Ident) (ts : List Node) → writes_out k ≡ false → written_out k i ts ≡ Tree k ts
not_written kind.AssignPatProp i ts h = absurd (cc)
not_written kind.ImportNamedSpecifier i ts h = absurd (cc)
not_written kind.ExportNamedSpecifier i ts h = absurd (cc)
not_written k i ts h = refl

not_written_if : (k : Kind) (i : Option Ident) (ts : List Node) → writes_out k ≡ false → written_out_if k i ts ≡ Tree k ts
not_written_if k None ts h = refl
not_written_if k (Some i) ts h = not_written k i ts h

other_tree : (m : Changes) (keeps : Bool) (p : Place) (k : Kind) (ts rs : List Node) → keeps_name keeps p k ≡ false → rs ≡ each_substituted m keeps (places keeps p k ts) ts
    → substituted m keeps p (Tree k ts) ≡ written_out_if k (if_changed m (places keeps p k ts 1) (identifier_at ts 1)) rs
other_tree m keeps p k ts rs h e =
    substituted_tree m keeps p k ts
    ∙ ap (λ us. tree_for m keeps p k ts us) (sym e)
    ∙ ap (λ b. if b then kept_class (identifier_at ts 0) rs else written_out_if k (if_changed m (places keeps p k ts 1) (identifier_at ts 1)) rs) h

pub class_done : (m : Changes) (keeps : Bool) (p : Place) (k : Kind) (ts rs : List Node) (old : Option Ident) → keeps_name keeps p k ≡ true
    → old ≡ identifier_at ts 0 → rs ≡ each_substituted m keeps (places keeps p k ts) ts → (t : Node) → t ≡ kept_class old rs → t ≡ substituted m keeps p (Tree k ts)
class_done m keeps p k ts rs old h o e t done =
    done ∙ ap (λ i. kept_class i rs) o ∙ sym (substituted_tree m keeps p k ts
    ∙ ap (λ us. tree_for m keeps p k ts us) (sym e)
    ∙ ap (λ b. if b then kept_class (identifier_at ts 0) rs else written_out_if k (if_changed m (places keeps p k ts 1) (identifier_at ts 1)) rs) h)

plain_if : (m : Changes) (p : Place) (k : Kind) (i : Option Ident) (rs : List Node) → (writes_out k && is_some i) ≡ false → written_out_if k (if_changed m p i) rs ≡ Tree k rs
plain_if m p k None rs h = refl
plain_if m p k (Some i) rs h = not_written_if k (if_changed m p (Some i)) rs (sym (and-true (writes_out k)) ∙ h)

pub unnamed_done : (m : Changes) (keeps : Bool) (p : Place) (k : Kind) (ts rs : List Node) → keeps_name keeps p k ≡ false → writes_name k ts ≡ false
    → rs ≡ each_substituted m keeps (places keeps p k ts) ts → Tree k rs ≡ substituted m keeps p (Tree k ts)
unnamed_done m keeps p k ts rs h w e = sym (other_tree m keeps p k ts rs h e ∙ plain_if m (places keeps p k ts 1) k (identifier_at ts 1) rs w)

-- the name of a node that writes it out is a binding, a reference or neither, and no more
is_plain : Place → Bool
is_plain place.Name = true
is_plain place.Other = true
is_plain p = false

plain_within : (p : Place) → is_plain (within p) ≡ true
unfolding is_plain
plain_within place.Name = refl
plain_within place.Shorthand = refl
plain_within place.Exported = refl
plain_within place.ClassName = refl
plain_within place.Other = refl

plain_place : (keeps : Bool) (p : Place) (k : Kind) (ts : List Node) → writes_out k ≡ true → is_plain (places keeps p k ts 1) ≡ true
unfolding is_plain
plain_place keeps p kind.AssignPatProp ts h = plain_within p
plain_place keeps p kind.ImportNamedSpecifier ts h = refl
plain_place keeps p kind.ExportNamedSpecifier ts h = plain_within p
plain_place keeps p k ts h = absurd (cc)

plain_identifier : (p : Place) (k : Kind) (i : Ident) (j : Option Ident) → is_plain p ≡ true → identifier_to p k i j ≡ Identifier k (unwrap_or j i)
unfolding is_plain
plain_identifier place.Name k i None h = refl
plain_identifier place.Name k i (Some j) h = refl
plain_identifier place.Other k i None h = refl
plain_identifier place.Other k i (Some j) h = refl
plain_identifier place.Shorthand k i j h = absurd (cc)
plain_identifier place.Exported k i j h = absurd (cc)
plain_identifier place.ClassName k i j h = absurd (cc)

not_kept : (keeps : Bool) (p : Place) (k : Kind) → writes_out k ≡ true → keeps_name keeps p k ≡ false
not_kept keeps p kind.ClassDecl h = absurd (cc)
not_kept keeps p k h = refl

-- the node that the layer makes
made_of : (t : Node) (k : Kind) (i : Ident) → out-Node t ≡ Node-F.Identifier k i → t ≡ Identifier k i
made_of t k i h = sym (roll-out-Node t) ∙ ap roll-Node h ∙ rolls-Identifier k i

identifier_is : (t : Node) (y : Node-F Node) → out-Node t ≡ y → is_some (identifier_in y) ≡ true → (k : Kind) × (i : Ident) × (t ≡ Identifier k i)
identifier_is t (Node-F.Identifier k i) h s = (k, i, made_of t k i h)
identifier_is t y h s = absurd (cc)

named_with : (m : Changes) (keeps : Bool) (p : Place) (k : Kind) (a b : Node) (cs mid : List Node) (t : Node) (nk : Kind) (i : Ident) → b ≡ Identifier nk i → writes_out k ≡ true
    → mid ≡ each_substituted m keeps (place_in keeps (below.Others p (has_source (a ∷ b ∷ cs)) k)) (a ∷ b ∷ cs) → IsRenamed m (places keeps p k (a ∷ b ∷ cs) 1) k mid t
    → t ≡ substituted m keeps p (Tree k (a ∷ b ∷ cs))
named_with m keeps p k a b cs mid t nk i is w e done =
    let ts : List Node = a ∷ b ∷ cs in
    let q : Place = places keeps p k ts 1 in
    let x : Node = substituted m keeps (places keeps p k ts 0) a in
    let rs : List Node = each_substituted m keeps (λ n. places keeps p k ts (suc (suc n))) cs in
    let j : Ident = unwrap_or (changed m q i) i in
    let stays : substituted m keeps place.Other b ≡ Identifier nk i = ap (substituted m keeps place.Other) is ∙ substituted_identifier m keeps place.Other nk i in
    let middle : mid ≡ x ∷ Identifier nk i ∷ rs = e ∙ ap (λ u. x ∷ u ∷ rs) stays in
    let there : slice_get mid 1 ≡ Some (Identifier nk i) = ap (λ l. slice_get l 1) middle in
    let named : substituted m keeps q b ≡ Identifier nk j = ap (substituted m keeps q) is ∙ substituted_identifier m keeps q nk i ∙ plain_identifier q nk i (changed m q i) (plain_place keeps p k ts w) in
    let all : each_substituted m keeps (places keeps p k ts) ts ≡ x ∷ Identifier nk j ∷ rs = ap (λ u. x ∷ u ∷ rs) named in
    let at : identifier_at ts 1 ≡ Some i = ap (λ u. identifier_in (out-Node u)) is ∙ ap identifier_in (outs-Identifier nk i) in
    done nk i there
    ∙ ap (λ l. written_out_if k (if_changed m q (Some i)) (slice_set l 1 (Identifier nk j))) middle
    ∙ sym (other_tree m keeps p k ts (x ∷ Identifier nk j ∷ rs) (not_kept keeps p k w) (sym all)
    ∙ ap (λ o. written_out_if k (if_changed m q o) (x ∷ Identifier nk j ∷ rs)) at)

both_left : (a b : Bool) → (a && b) ≡ true → a ≡ true
both_left true b h = refl
both_left false b h = h

both_right : (a b : Bool) → (a && b) ≡ true → b ≡ true
both_right true b h = h
both_right false b h = absurd (cc)

named_of : (m : Changes) (keeps : Bool) (p : Place) (k : Kind) (ts mid : List Node) (t : Node) → writes_out k ≡ true → is_some (identifier_at ts 1) ≡ true
    → mid ≡ each_substituted m keeps (place_in keeps (below.Others p (has_source ts) k)) ts → IsRenamed m (places keeps p k ts 1) k mid t → t ≡ substituted m keeps p (Tree k ts)
named_of m keeps p k [] mid t w s e done = absurd (cc)
named_of m keeps p k (a ∷ []) mid t w s e done = absurd (cc)
named_of m keeps p k (a ∷ b ∷ cs) mid t w s e done =
    let is = identifier_is b (out-Node b) refl s in named_with m keeps p k a b cs mid t is.0 is.1 is.2 w e done

pub named_done : (m : Changes) (keeps : Bool) (p : Place) (k : Kind) (ts mid : List Node) → writes_name k ts ≡ true
    → mid ≡ each_substituted m keeps (place_in keeps (below.Others p (has_source ts) k)) ts → (t : Node) → IsRenamed m (places keeps p k ts 1) k mid t → t ≡ substituted m keeps p (Tree k ts)
named_done m keeps p k ts mid w e t done = named_of m keeps p k ts mid t (both_left (writes_out k) (is_some (identifier_at ts 1)) w) (both_right (writes_out k) (is_some (identifier_at ts 1)) w) e done

long_list : (m : Changes) (keeps : Bool) (ps : ℕ → Place) (ts rs : List Node) → is_some (identifier_at ts 1) ≡ true → rs ≡ each_substituted m keeps ps ts → 1 < length rs
long_list m keeps ps [] rs s e = absurd (cc)
long_list m keeps ps (a ∷ []) rs s e = absurd (cc)
long_list m keeps ps (a ∷ b ∷ cs) rs s e = let l = ap length e in omega (arith, l)

pub longer : (m : Changes) (keeps : Bool) (ps : ℕ → Place) (k : Kind) (ts rs : List Node) → writes_name k ts ≡ true → rs ≡ each_substituted m keeps ps ts → 1 < length rs
longer m keeps ps k ts rs w e = long_list m keeps ps ts rs (both_right (writes_out k) (is_some (identifier_at ts 1)) w) e

set_again : (ts : List Node) (i : ℕ) (x y : Node) → slice_set (slice_set ts i x) i y ≡ slice_set ts i y
set_again [] i x y = refl
set_again (t ∷ ts) zero x y = refl
set_again (t ∷ ts) (suc i) x y = ap (λ l. t ∷ l) (set_again ts i x y)

-- the identifier that was taken out is put back renamed
pub put_back : (m : Changes) (p : Place) (k : Kind) (ts rest us : List Node) (x : Node) (nk : Kind) (n j : Ident) (old : Option Ident) → slice_get ts 1 ≡ Some x → x ≡ Identifier nk n
    → rest ≡ slice_set ts 1 Absent → j ≡ unwrap_or (changed m p n) n → old ≡ if_changed m p (Some n) → us ≡ slice_set rest 1 (Identifier nk j) → (t : Node) → t ≡ written_out_if k old us → IsRenamed m p k ts t
put_back m p k ts rest us x nk n j old here is out new was put t done = λ nk' i h.
    let same : Identifier nk n ≡ Identifier nk' i = let s : x ≡ Identifier nk' i = cc in sym is ∙ s in
    let layer : ◌≡◌ {A = Node-F Node} (Node-F.Identifier nk n) (Node-F.Identifier nk' i) = sym (outs-Identifier nk n) ∙ ap out-Node same ∙ outs-Identifier nk' i in
    let kinds : nk ≡ nk' = cc in
    let names : n ≡ i = cc in
    done ∙ rw (was, put, out, set_again ts 1 Absent (Identifier nk j), new, kinds, names) refl
