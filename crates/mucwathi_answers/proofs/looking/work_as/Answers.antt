use Rattle.std.proofs.Common.{MatchResult, subst, sym}
use Rattle.mucwathi_answers.specs.Answers.{IsUnshown, Shows}
use Rattle.mucwathi_answers.proofs.looking.work_as.Goals as goal

pub returns-in-Marks : goal.returns-in-Marks
returns-in-Marks c = subst (λ w. MatchResult c.mark_text.result (λ out. Shows w c.args.goal c.args.of out.items) (IsUnshown w c.args.goal c.args.of.text.now)) (sym c.in-Marks.is) c.mark_text.ensures

pub returns-in-Tree : goal.returns-in-Tree
returns-in-Tree c = subst (λ w. MatchResult c.tree.result (λ out. Shows w c.args.goal c.args.of out.items) (IsUnshown w c.args.goal c.args.of.text.now)) (sym c.in-Tree.is) c.tree.ensures

pub returns-in-Page : goal.returns-in-Page
returns-in-Page c = subst (λ w. MatchResult c.show_text.result (λ out. Shows w c.args.goal c.args.of out.items) (IsUnshown w c.args.goal c.args.of.text.now)) (sym c.in-Page.is) c.show_text.ensures

pub returns-in-Names : goal.returns-in-Names
returns-in-Names c = subst (λ w. MatchResult c.names.result (λ out. Shows w c.args.goal c.args.of out.items) (IsUnshown w c.args.goal c.args.of.text.now)) (sym c.in-Names.is) c.names.ensures
