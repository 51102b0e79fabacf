use Rattle.std.proofs.Common.{◌++◌, List, ℕ, ap, ◌∙◌}
use Rattle.std.proofs.lemmas.List.{append_assoc}
use Rattle.mucwathi_page.specs.Drawn.{drawn, foot_text, head_text}
use Rattle.mucwathi_page.proofs.Showing.{is_page}
use Rattle.mucwathi_page.proofs.drawn.page.Goals as goal

pub returns-clause-drawn : goal.returns-clause-drawn
returns-clause-drawn c =
    c.in_ok-add_foot.ensures ∙ ap (λ (l : List ℕ). l ++ foot_text) (c.in_ok-add_names.ensures.drawn ∙ ap (λ (l : List ℕ). l ++ drawn c.args.text.now 0 c.args.uses.now) (c.in_ok-add_head.ensures ∙ ap (λ (l : List ℕ). l ++ head_text c.args.name.now) c.new-out.ensures.items)) ∙ append_assoc (head_text c.args.name.now) (drawn c.args.text.now 0 c.args.uses.now) foot_text

pub returns-clause-shown : goal.returns-clause-shown
returns-clause-shown c = is_page c.args.name.now c.args.text.now c.args.uses.now c.add_foot.new.out.items (returns-clause-drawn c) c.in_ok-add_names.ensures.inside
