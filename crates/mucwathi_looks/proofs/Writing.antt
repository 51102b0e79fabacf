-- How an answer is written.
use Rattle.std.proofs.Common.{◌≡◌, ℕ, Bool, false, List, [], ◌∷◌, ◌||◌, Some, None, map, refl, sym, ap, ◌∙◌, subst}
use Rattle.std.specs.List.{list_any}
use Rattle.swc_tree_node.specs.declared.node.Node.{Node}
use Rattle.swc_tree_walk.specs.declared.identifiers.Site.{Site}
use Rattle.swc_tree_scoping.specs.Places.{program_place}
use Rattle.swc_tree_walk.specs.Sites.{site_of, sites}
use Rattle.jsbase_reader.specs.declared.envelope.Envelope.{Envelope}
use Rattle.text_follow.specs.Follows.{Follows}
use Rattle.text_lexer.specs.declared.blank.Comments.{Comments}
use Rattle.text_pieces.specs.Pieces.{pieces}
use Rattle.text_printer.specs.declared.lay_out.Layout.{Layout}
use Rattle.text_source.specs.Texts.{comments_of}
use Rattle.mucwathi_order.specs.declared.order.Order.{Order}
use Rattle.mucwathi_order.specs.declared.order.Style.{Style}
use Rattle.mucwathi_order.specs.declared.order.Style.TheVariants as style
use Rattle.mucwathi_order.specs.Styles.{layout_of}
use Rattle.mucwathi_commands.specs.Written.{IsKept, IsWritten}
use Rattle.mucwathi_signs.specs.declared.sign.Sign.{Sign}
use Rattle.mucwathi_signs.specs.Signed.{IsSigned}
use Rattle.mucwathi_given.specs.Given.{IsMade}
use Rattle.mucwathi_looks.specs.Signs.{AreSigns, has_marks, signs_between}
use Rattle.mucwathi_looks.specs.Answered.{AreWrittenBehind, IsEditedFor, IsPrinted, IsRemade, IsWrittenFor, name_of, with_settings}

pub any_among : (ss : List Site) → list_any (λ n. has_marks (site_of n)) ss ≡ list_any has_marks (map site_of ss)
any_among [] = refl
any_among (s ∷ ss) = ap (λ b. has_marks (site_of s) || b) (any_among ss)

-- where no name has a mark
pub none_marked : (t : Node) (found names : List Site) (any : Bool) → names ≡ found → map site_of found ≡ sites program_place t → any ≡ list_any (λ n. has_marks (site_of n)) names → any ≡ false → list_any has_marks (sites program_place t) ≡ false
none_marked t found names any same all is none = sym (ap (list_any has_marks) (ap (λ (l : List Site). map site_of l) same ∙ all)) ∙ sym (any_among names) ∙ sym is ∙ none

pub behind_those : (t : Node) (found names : List Site) (again : Node) (text plain out : List ℕ) → names ≡ found → map site_of found ≡ sites program_place t → text ≡ plain → AreWrittenBehind (map site_of names) again text out → AreWrittenBehind (sites program_place t) again plain out
behind_those t found names again text plain out same all is h =
    subst (λ l. AreWrittenBehind l again plain out) (ap (λ (l : List Site). map site_of l) same ∙ all) (subst (λ l. AreWrittenBehind (map site_of names) again l out) is h)

pub written_behind : (names : List Site) (again : Node) (found places : List Site) (made signs : List Sign) (plain out : List ℕ) → places ≡ found → map site_of found ≡ sites program_place again → map name_of (map site_of names) ≡ map name_of (map site_of places)
    → AreSigns (signs_between (map site_of names) (map site_of places)) made → signs ≡ made → IsSigned 0 signs plain out → AreWrittenBehind (map site_of names) again plain out
written_behind names again found places made signs plain out same all texts are is written = record {
  same = texts ∙ ap (λ (l : List Site). map name_of (map site_of l)) same ∙ ap (map name_of) all;
  signs = signs;
  are = subst (λ (l : List Sign). AreSigns (signs_between (map site_of names) (sites program_place again)) l) (sym is)
      (subst (λ l. AreSigns (signs_between (map site_of names) l) made) (ap (λ (l : List Site). map site_of l) same ∙ all) are);
  written = written;
}

anew : (s : Style) (layout : Layout) (c : Comments) (source answer : Node) (text plain : List ℕ) → layout_of s ≡ Some layout → Follows c false (pieces answer) plain → IsWritten s c source answer text plain
anew style.Kept layout c source answer text plain is h = absurd (cc)
anew style.Lines layout c source answer text plain is h = h
anew style.Compact layout c source answer text plain is h = h

kept : (s : Style) (c : Comments) (source answer : Node) (text plain : List ℕ) → layout_of s ≡ None → IsKept c source answer text plain → IsWritten s c source answer text plain
kept style.Kept c source answer text plain is h = h
kept style.Lines c source answer text plain is h = absurd (cc)
kept style.Compact c source answer text plain is h = absurd (cc)

pub printed_for : (order : Order) (layout : Layout) (source answer : Node) (text out : List ℕ) → layout_of order.style ≡ Some layout → IsPrinted order.goal answer out → IsWrittenFor order source answer text out
printed_for order layout source answer text out is h = record { plain = h.plain; written = anew order.style layout (comments_of order.goal) source answer text h.plain is h.follows; marked = h.marked }

pub edited_for : (order : Order) (source answer : Node) (text out : List ℕ) → layout_of order.style ≡ None → IsEditedFor order.goal source answer text out → IsWrittenFor order source answer text out
edited_for order source answer text out is h = record { plain = h.plain; written = kept order.style (comments_of order.goal) source answer text h.plain is h.kept; marked = h.marked }

pub remade : (order : Order) (program given made : Envelope) (source : Node) (text out : List ℕ) → given ≡ with_settings order.settings program → IsMade (Some order.command) given made → source ≡ program.tree → IsWrittenFor order source made.tree text out
    → IsRemade order program text out
remade order program given made source text out is h same written = record {
  made = made;
  is_made = subst (λ e. IsMade (Some order.command) e made) is h;
  written = subst (λ (t : Node). IsWrittenFor order t made.tree text out) same written;
}
