-- What the walk says at each form of a node.
use Rattle.std.proofs.Common.{◌≡◌, ℕ, Bool, true, List, rules, refl}
use Rattle.swc_tree_marks.specs.declared.span.Span.{Span as Span'}
use Rattle.swc_tree_marks.specs.declared.ident.Ident.{Ident}
use Rattle.swc_tree_node.specs.declared.kind.Kind.{Kind}
use Rattle.swc_tree_node.specs.declared.kind.Kind.TheVariants as kind
use Rattle.swc_tree_node.specs.declared.kind.Word.{Word as Word'}
use Rattle.swc_tree_node.specs.declared.node.Node.{Node, Absent, Flag, Word, Text, Span, List as Many, Identifier, Tree, the_lemmas}
use Rattle.swc_base_tables_injection.specs.declared.members.Seat.{Seat}
use Rattle.swc_base_tables_injection.specs.declared.members.Seat.TheVariants as seat
use Rattle.swc_base_tables_injection.specs.Members.{field_seat, has_only, helper_as, membered}
use Rattle.swc_base_tables_injection.specs.Walk.{each_membered}

pub membered-Absent : (m : ℕ) (s : Seat) → membered m s Absent ≡ Absent
membered-Absent m s = search (rules, the_lemmas)

pub membered-Flag : (m : ℕ) (s : Seat) (x : Bool) → membered m s (Flag x) ≡ Flag x
membered-Flag m s x = search (rules, the_lemmas)

pub membered-Word : (m : ℕ) (s : Seat) (w : Word') → membered m s (Word w) ≡ Word w
membered-Word m s w = search (rules, the_lemmas)

pub membered-Text : (m : ℕ) (s : Seat) (x : List ℕ) → membered m s (Text x) ≡ Text x
membered-Text m s x = search (rules, the_lemmas)

pub membered-Span : (m : ℕ) (s : Seat) (x : Span') → membered m s (Span x) ≡ Span x
membered-Span m s x = search (rules, the_lemmas)

pub membered_identifier : (m : ℕ) (s : Seat) (k : Kind) (i : Ident) → membered m s (Identifier k i) ≡ helper_as (has_only m i.ctxt) s k i
membered_identifier m s k i = search (rules, the_lemmas)

pub membered_list : (m : ℕ) (s : Seat) (ts : List Node) → membered m s (Many ts) ≡ Many (each_membered m (λ i. s) ts)
membered_list m s ts = search (rules, the_lemmas)

pub membered_tree : (m : ℕ) (s : Seat) (k : Kind) (ts : List Node) → membered m s (Tree k ts) ≡ Tree k (each_membered m (field_seat k) ts)
membered_tree m s k ts = search (rules, the_lemmas)

pub ruleset membered_leaves = (membered-Absent, membered-Flag, membered-Word, membered-Text, membered-Span)

-- only identifiers of the kind of expressions change
pub other_kind : (b : Bool) (s : Seat) (k : Kind) (i : Ident) → (k ≡ kind.Ident → ⊥) → helper_as b s k i ≡ Identifier k i
other_kind true seat.Expression kind.Ident i n = absurd (n refl)
other_kind true seat.Property kind.Ident i n = absurd (n refl)
other_kind b s k i n = refl
