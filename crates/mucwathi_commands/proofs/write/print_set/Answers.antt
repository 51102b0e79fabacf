use Rattle.std.proofs.Common.{◌≡◌, List, map, ap, subst, sym, ◌∙◌}
use Rattle.text_lexer.specs.declared.blank.Comments.{Comments}
use Rattle.text_commented.specs.Chosen.{AreChosen}
use Rattle.text_commented.specs.Commented.{IsCommented}
use Rattle.text_commented.specs.declared.left.Left.{Left}
use Rattle.text_commented.specs.declared.remark.Remark.{Remark}
use Rattle.text_pieces.specs.Pieces.{framed_pieces}
use Rattle.mucwathi_commands.specs.Comments.{bytes_before_left}
use Rattle.mucwathi_commands.proofs.write.print_set.Goals as goal

pub returns : goal.returns
returns c =
    let printed = c.in_ok-printed.printed in
    let Set = λ (comments : Comments). (rs : List Remark) × AreChosen c.args.text.now (framed_pieces c.args.answer.now) c.args.comments.now rs × IsCommented comments c.args.answer.now rs printed.text.items printed.left.items in
    let set = subst Set c.comments_of-kind.ensures c.in_ok-printed.ensures in
    record {
      written = set.2.follows;
      again = λ source found. record {
        comments = c.args.comments.now;
        remarks = set.0;
        left = printed.left.items;
        found = found;
        chosen = set.1;
        set = set.2;
        told = c.in_ok-lost.ensures ∙ ap (λ (l : List Left). map (bytes_before_left c.args.comments.now) l) c.as_slice-left.ensures.value;
      };
    }
