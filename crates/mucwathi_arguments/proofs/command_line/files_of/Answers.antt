use Rattle.std.proofs.Common.{◌≡◌, ◌∙◌, ap, [], map, codes, rules}
use Rattle.std.specs.Borrow.{Bor}
use Rattle.std.specs.Prelude.{List, ℕ}
use Rattle.std.proofs.lemmas.Result.{IfOk-weaker}
use Rattle.mucwathi_arguments.proofs.Found.{files_none, files_some}
use Rattle.mucwathi_arguments.proofs.command_line.files_of.Goals as goal

pub returns-in-Some : goal.returns-in-Some
returns-in-Some c = IfOk-weaker c.from_slice.result _ _ (λ files is. ap (map (λ (f : Bor (List ℕ)). f.now)) is ∙ files_some c.args.given.now (codes "file") c.get_strs.result c.get_strs.ensures c.in-Some.words c.in-Some.is) c.from_slice.ensures.items

pub returns-in-None : goal.returns-in-None
returns-in-None c =
    let none : c.new.result.items ≡ [] = search rules in
    ap (map (λ (f : Bor (List ℕ)). f.now)) none ∙ files_none c.args.given.now (codes "file") c.get_strs.result c.get_strs.ensures c.in-None.is
