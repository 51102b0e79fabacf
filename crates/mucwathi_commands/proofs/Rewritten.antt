-- What was read, made and written, in one.
use Rattle.std.proofs.Common.{◌≡◌, true, false, ℕ, List, [], Some, None, inl, inr, refl, sym, ap, subst, ◌∙◌, Result, Ok, Err, IfOk, IfErr, MatchResult}
use Rattle.std.specs.Cmp.Lexicographic.{pointwise}
use Rattle.std.specs.Prelude.{Vec}
use Rattle.swc_tree_marks.specs.declared.error.PassError.{PassError}
use Rattle.swc_tree_node.specs.declared.node.Node.{Node}
use Rattle.text_printer.specs.declared.lay_out.Layout.{Layout}
use Rattle.text_reader.specs.declared.fault.TextFault.{TextFault}
use Rattle.text_reader.specs.declared.fault.TextFault.TheVariants as text
use Rattle.text_follow.specs.Follows.{Follows}
use Rattle.text_lexer.specs.declared.blank.Comments.{Comments}
use Rattle.text_edit.specs.Alike.{alike}
use Rattle.text_edit.specs.Edits.{IsEdited, IsRenamed}
use Rattle.text_pieces.specs.Pieces.{pieces}
use Rattle.text_pieces.specs.Tokens.{Piece}
use Rattle.mucwathi_order.specs.Lower.text_source.specs.Texts.{Tells, comments_of}
use Rattle.mucwathi_order.specs.declared.order.Order.{Order}
use Rattle.mucwathi_order.specs.declared.order.Style.{Style}
use Rattle.mucwathi_order.specs.declared.order.Style.TheVariants as style
use Rattle.mucwathi_order.specs.Styles.{layout_of}
use Rattle.mucwathi_passes.specs.Passes.{IsRefusal, Makes}
use Rattle.mucwathi_order.specs.declared.fault.RunFault.{RunFault}
use Rattle.mucwathi_order.specs.declared.fault.RunFault.TheVariants.{NotKept, NotWritten, Refused, Text}
use Rattle.mucwathi_order.specs.Faults.{of_text}
use Rattle.mucwathi_commands.specs.Comments.{IsRewrittenWith, TellsLost}
use Rattle.mucwathi_commands.specs.Faults.{IsRunFault, IsWriteFault}
use Rattle.mucwathi_commands.specs.declared.write.RewrittenText.{RewrittenText}
use Rattle.mucwathi_commands.specs.Looks.{IsUncovered}
use Rattle.mucwathi_commands.specs.Written.{IsKept, IsReadAs, IsRewritten, IsWritten}

-- what is edited from pieces, of the source that has them
pub kept_from : (c : Comments) (source answer : Node) (text out : List ℕ) (ps : List Piece) → ps ≡ pieces source → Follows c true (pieces answer) out → (ps ≡ pieces answer → out ≡ text)
    → (pointwise alike ps (pieces answer) ≡ true → IsRenamed c ps (pieces answer) text out) → IsEdited c ps (pieces answer) text out → IsKept c source answer text out
kept_from c source answer text out ps is follows same names edited = record {
  follows = follows;
  edited = subst (λ qs. IsEdited c qs (pieces answer) text out) is edited;
  same = λ h. same (is ∙ h);
  names = λ h. subst (λ qs. IsRenamed c qs (pieces answer) text out) is (names (ap (λ qs. pointwise alike qs (pieces answer)) is ∙ h));
}

-- what is written strictly, where it is laid out anew
pub anew : (s : Style) (l : Layout) (c : Comments) (source answer : Node) (bytes out : List ℕ) → layout_of s ≡ Some l → Follows c false (pieces answer) out → IsWritten s c source answer bytes out
anew style.Kept l c source answer bytes out is h = absurd (cc)
anew style.Lines l c source answer bytes out is h = h
anew style.Compact l c source answer bytes out is h = h

-- what is edited, where layout is kept
pub in_place : (s : Style) (c : Comments) (source answer : Node) (bytes out : List ℕ) → layout_of s ≡ None → IsKept c source answer bytes out → IsWritten s c source answer bytes out
in_place style.Kept c source answer bytes out is h = h
in_place style.Lines c source answer bytes out is h = absurd (cc)
in_place style.Compact c source answer bytes out is h = absurd (cc)

pub uncovered : (bytes : List ℕ) (f : TextFault) → Tells bytes f → IsUncovered bytes (of_text f)
uncovered bytes text.NoMemory h = refl
uncovered bytes text.TooLong h = h
uncovered bytes text.NotTheText h = h
uncovered bytes (text.NotUtf8 at) h = h
uncovered bytes (text.Unexpected at expected) h = h
uncovered bytes (text.Unterminated at) h = h
uncovered bytes (text.BadEscape at) h = h
uncovered bytes (text.BadNumber at) h = h
uncovered bytes (text.BadRegex at) h = h
uncovered bytes (text.HalfSurrogate at) h = h
uncovered bytes (text.EscapedDirective at) h = h
uncovered bytes (text.NotRead at language) h = h
uncovered bytes (text.TooDeep at) h = h

module _ (order : Order) (bytes : List ℕ) where
  pub unread : (f : TextFault) → Tells bytes f → IsRunFault order bytes (of_text f)
  unread text.NoMemory h = inl refl
  unread text.TooLong h = h
  unread text.NotTheText h = h
  unread (text.NotUtf8 at) h = h
  unread (text.Unexpected at expected) h = h
  unread (text.Unterminated at) h = h
  unread (text.BadEscape at) h = h
  unread (text.BadNumber at) h = h
  unread (text.BadRegex at) h = h
  unread (text.HalfSurrogate at) h = h
  unread (text.EscapedDirective at) h = h
  unread (text.NotRead at language) h = h
  unread (text.TooDeep at) h = h

  module _ (source : Node) (read : IsReadAs order.goal source bytes) where
    pub refused : (e : PassError) → IsRefusal order.command order.settings source e → IsRunFault order bytes (Refused e)
    refused e h = inr (record { source = source; read = read; refused = h })

    module _ (answer : Node) (made_so : Makes order.command order.settings source answer) where
      Written : List ℕ → Type 0
      Written out = IsWritten order.style (comments_of order.goal) source answer bytes out

      rewritten : (out : List ℕ) → Written out → IsRewritten order bytes out
      unfolding Written
      rewritten out written = record { source = source; answer = answer; read = read; made = made_so; written = written }

      pub unwritten : (f : RunFault) → IsWriteFault f → IsRunFault order bytes f
      unwritten (Refused e) none = inl none
      unwritten NotWritten h = record { source = source; answer = answer; read = read; made = made_so }
      unwritten NotKept h = record { source = source; answer = answer; read = read; made = made_so }
      unwritten (Text f) h = absurd h

      -- whatever is answered where it is written anew
      pub printed : (l : Layout) → layout_of order.style ≡ Some l → (r : Result RewrittenText RunFault) → IfOk r (λ made. Follows (comments_of order.goal) false (pieces answer) made.out.items)
          → IfOk r (λ made. TellsLost (Some l) (comments_of order.goal) source answer bytes made.out.items made.lost.items) → IfErr r IsWriteFault
          → MatchResult r (λ made. IsRewrittenWith order bytes made.out.items made.lost.items) (IsRunFault order bytes)
      printed l is (Ok made) h tells f = record {
        rewritten = record { source = source; answer = answer; read = read; made = made_so; written = anew order.style l (comments_of order.goal) source answer bytes made.out.items is h };
        tells = subst (λ o. TellsLost o (comments_of order.goal) source answer bytes made.out.items made.lost.items) (sym is) tells;
      }
      printed l is (Err e) h tells f = unwritten e f

      -- ... and where it is edited
      pub edited : {Z : Type 0} → layout_of order.style ≡ None → (r : Result (Vec ℕ Z) RunFault) → IfOk r (λ out. IsKept (comments_of order.goal) source answer bytes out.items) → IfErr r IsWriteFault
          → MatchResult r (λ out. IsRewritten order bytes out.items) (IsRunFault order bytes)
      unfolding Written
      edited is (Ok out) h f = rewritten out.items (in_place order.style (comments_of order.goal) source answer bytes out.items is h)
      edited is (Err x) h f = unwritten x f

-- with the layout no comment is lost
pub none_lost : (order : Order) (text out lost : List ℕ) → layout_of order.style ≡ None → IsRewritten order text out → lost ≡ [] → IsRewrittenWith order text out lost
none_lost order text out lost kept h none = record { rewritten = h; tells = subst (λ o. TellsLost o (comments_of order.goal) h.source h.answer text out lost) (sym kept) none }
