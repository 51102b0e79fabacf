use Rattle.std.proofs.Common.{ℕ, List, ◌++◌, ap, ap₂, ◌∙◌, codes, decimal, arith}
use Rattle.mucwathi_page.specs.Drawn.{new_text}
use Rattle.mucwathi_page.proofs.Showing.{tag_inside}
use Rattle.mucwathi_page.proofs.drawn.tag_of.Goals as goal

pub returns-clause-tag : goal.returns-clause-tag
returns-clause-tag c =
    let start : List ℕ → ℕ → List ℕ = λ class hue. codes "b" ++ (class ++ (codes " data-of=" ++ (decimal c.args.each.now.variable ++ (codes " data-scope=" ++ (decimal c.args.each.now.mark ++ (codes " style=\"--hue:" ++ (decimal hue ++ codes "\""))))))) in
    c.in_ok-add_new.ensures ∙ ap (λ (l : List ℕ). l ++ new_text c.args.each.now.new) (ap (λ v. v.items) c.into_bytes-tag.ensures.value ∙ c.in_ok-data.ensures.ok ∙ ap₂ start c.class_of-class.ensures c.hue-hue.ensures)

pub returns-clause-inside : goal.returns-clause-inside
returns-clause-inside c = tag_inside c.args.each.now (omega arith) (omega arith)
