-- Names are given anew where scoping has names, and shorthands are only references.
use Rattle.std.proofs.Common.{◌≡◌, ℕ, zero, suc, Bool, true, false, ◌&&◌, Option, List, refl, sym, ap, ◌∙◌, cond}
use Rattle.swc_tree_node.specs.declared.kind.Kind.{Kind}
use Rattle.swc_tree_node.specs.declared.kind.Kind.TheVariants as kind
use Rattle.swc_tree_node.specs.declared.node.Node.{Node}
use Rattle.swc_tree_node.specs.declared.node.Node.TheOpen.{Node-F}
use Rattle.swc_tree_scoping.specs.declared.places.Standing.{Standing}
use Rattle.swc_tree_scoping.specs.declared.places.Standing.TheVariants as standing
use Rattle.swc_tree_scoping.specs.declared.places.Place.{Place as ScopingPlace}
use Rattle.swc_tree_scoping.specs.Places.{binds_patterns, field_role, is_identifier_expression, part_standing, place_in}
use Rattle.swc_tree_scoping.specs.Scopes.{is_name as binds_or_refers}
use Rattle.swc_base_rename_substitution.specs.declared.place.Place.{Place}
use Rattle.swc_base_rename_substitution.specs.declared.place.Place.TheVariants as place
use Rattle.swc_base_rename_substitution.specs.Places.{by_role, has_source, in_kind, is_name, places}
use Rattle.swc_base_rename_substitution.proofs.NamesOfScoping.{kind_is, part_is, role_is}
use Rattle.swc_base_rename_substitution.proofs.Room.{is_short}
use Rattle.swc_base_rename_laws.specs.Texts.{is_object}
use Rattle.swc_base_rename_laws.proofs.OuterTextsForms.{is_plain}
use Rattle.swc_base_rename_laws.proofs.OuterTextsNames.{role_plain}
use Rattle.swc_base_rename_laws.proofs.Impossible.{impossible}

-- a class expression's name that is kept
abbrev pub is_class : Place → Bool
is_class place.ClassName = true
is_class _ = false

pub record Agrees (q : Place) (w : ScopingPlace) : Type 0 where
  pub name : is_name q ≡ binds_or_refers w.standing
  pub short : is_short q ≡ true → w.standing ≡ standing.Reference
  pub kept : is_class q ≡ false

plain_short : (q : Place) → is_plain q ≡ true → is_short q ≡ false
plain_short place.Name h = refl
plain_short place.Other h = refl
plain_short place.Exported h = refl
plain_short place.Shorthand h = impossible h
plain_short place.ClassName h = impossible h

plain_class : (q : Place) → is_plain q ≡ true → is_class q ≡ false
plain_class place.Name h = refl
plain_class place.Other h = refl
plain_class place.Exported h = refl
plain_class place.Shorthand h = refl
plain_class place.ClassName h = impossible h

pub agrees_plain : (q : Place) (w : ScopingPlace) → is_plain q ≡ true → is_name q ≡ binds_or_refers w.standing → Agrees q w
agrees_plain q w h e = record { name = e; short = λ s. impossible (sym (plain_short q h) ∙ s); kept = plain_class q h }

-- ---- fields

-- only an object's properties are shorthands
plain_kind : (k : Kind) (q : Place) → is_object k ≡ false → is_plain q ≡ true → is_plain (in_kind false k q) ≡ true
plain_kind kind.ObjectLit q o h = impossible (sym o)
plain_kind kind.ExportDecl place.Name o h = refl
plain_kind kind.ExportDecl place.Other o h = refl
plain_kind kind.ExportDecl place.Exported o h = refl
plain_kind kind.ExportDecl place.Shorthand o h = impossible h
plain_kind kind.ExportDecl place.ClassName o h = impossible h
plain_kind kind.ClassExpr place.Name o h = refl
plain_kind kind.ClassExpr place.Other o h = refl
plain_kind kind.ClassExpr place.Exported o h = refl
plain_kind kind.ClassExpr place.Shorthand o h = impossible h
plain_kind kind.ClassExpr place.ClassName o h = impossible h
plain_kind k q o h = h

pub plain_places : (q : Place) (k : Kind) (ts : List Node) (i : ℕ) → is_object k ≡ false → is_plain (places false q k ts i) ≡ true
plain_places q k ts i o = plain_kind k (by_role q (has_source ts) (field_role k i)) o (role_plain q (has_source ts) (field_role k i))

-- the first field holds no properties
pub plain_first : (q : Place) (k : Kind) (ts : List Node) → is_plain (places false q k ts 0) ≡ true
plain_first q kind.ObjectLit ts = refl
plain_first q k ts = plain_places q k ts 0 refl

field_name : (q : Place) (w : ScopingPlace) (k : Kind) (ts : List Node) (i : ℕ) → Agrees q w → is_name (places false q k ts i) ≡ binds_or_refers (place_in w (Node-F.Tree k ts) i).standing
field_name q w k ts i h = kind_is false k (by_role q (has_source ts) (field_role k i)) ∙ role_is q w k ts i (field_role k i) h.name

other_field : (q : Place) (w : ScopingPlace) (k : Kind) (ts : List Node) (i : ℕ) → is_object k ≡ false → Agrees q w → Agrees (places false q k ts i) (place_in w (Node-F.Tree k ts) i)
other_field q w k ts i o h = agrees_plain (places false q k ts i) (place_in w (Node-F.Tree k ts) i) (plain_places q k ts i o) (field_name q w k ts i h)

pub agrees_field : (q : Place) (w : ScopingPlace) (k : Kind) (ts : List Node) (i : ℕ) → Agrees q w → Agrees (places false q k ts i) (place_in w (Node-F.Tree k ts) i)
agrees_field q w kind.ObjectLit ts zero h = record { name = refl; short = λ s. impossible s; kept = refl }
agrees_field q w kind.ObjectLit ts (suc zero) h = record { name = refl; short = λ s. refl; kept = refl }
agrees_field q w kind.ObjectLit ts (suc (suc i)) h = record { name = refl; short = λ s. impossible s; kept = refl }
agrees_field q w k ts i h = other_field q w k ts i refl h

-- ---- items

-- the place of an item of a list
abbrev pub item_at : ScopingPlace → Option Node → ScopingPlace
item_at w o = record w { standing = part_standing w.standing o }

pub still_reference : (r : Standing) (o : Option Node) → r ≡ standing.Reference → part_standing r o ≡ standing.Reference
still_reference r o h = ap (λ b. cond (b && is_identifier_expression o) standing.Reference r) (ap binds_patterns h) ∙ h

pub agrees_item : (q : Place) (w : ScopingPlace) (o : Option Node) → Agrees q w → Agrees q (item_at w o)
agrees_item q w o h = record { name = h.name ∙ part_is w.standing o; short = λ s. still_reference w.standing o (h.short s); kept = h.kept }
