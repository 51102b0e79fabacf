use Rattle.swc_base_fixer_unparen.proofs.stripping.class.Goals as goal
use Rattle.std.proofs.Common.{rules, ◌≡◌}
use Rattle.std.specs.List.{filter}
use Rattle.std.proofs.lemmas.List.Elements.{filter_from_retain}
use Rattle.swc_tree_grammar.specs.Stripped.{is_member}
use Rattle.swc_tree_grammar.specs.Shapes.{items_of}
use Rattle.swc_base_fixer_unparen.proofs.Fields.{class_of_members}

pub returns : goal.returns
returns c =
    let kept : c.retain.new.self.items ≡ filter is_member c.into_vec-members.result.items = filter_from_retain _ is_member (λ p x b q h. search rules) _ _ _ c.retain.ensures.filtered in
    let members : c.from_vec.result ≡ filter is_member (items_of c.replace.result) = cc in
    let made = class_of_members c.args.fields c.replace.result c.requires c.replace.ensures.taken in
    cc
